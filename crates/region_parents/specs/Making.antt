-- The patients with their parents made, from the last to the first.
use Rattle.std.specs.Prelude.{◌≡◌, refl, ◌≤◌, set}
use Rattle.std.proofs.Math.Path.{sym, ap, ap₂}
use Rattle.std.proofs.Common.{◌∙◌, arith, length-set, get_or-set_same, get_or-set_other, ◌-◌, ◌<◌, ◌^◌, ◌&&◌, ◌∷◌}
use Rattle.std.proofs.Math.Decide.{ℕ_discrete}
use Rattle.definitions.specs.Basics.{ℕ, zero, suc, Option, none, List, map, length, get_or, ltb, below, contains}
use Rattle.definitions.specs.Syntax as Said
use Rattle.definitions.specs.Syntax.{patient_at}
use Rattle.definitions.specs.Writer.{region_from, with_sum}
use Rattle.definitions.specs.Parents.{earlier_neighbours, last, parents_from, parents_made, with_parent, with_parents}
use Rattle.lists.specs.Below.{below_same, length_by_places}
use Rattle.patient_set.specs.declared.PatientSet.{PatientSet}
use Rattle.patient_set.specs.Sets.{in_set, members}
use Rattle.patient_set.specs.Laws.{member}
use Rattle.held_region.specs.declared.Patient.{Patient}
use Rattle.held_region.specs.declared.Region.{Region}
use Rattle.held_region.specs.Meaning.{no_patient, patient_of, patient_in, said}
use Rattle.held_region.specs.Asked.{patients_said_lem, patient_said_lem, tables_said}
use Rattle.held_region.specs.Related.{set_in}
use Rattle.made_parents.specs.Made.{parent_last, parent_before}
use Rattle.region_parents.specs.Neighbours.{Near, Gathered, tables_held, tables_held_lem, near_more, earlier_members}

-- The parent that the tables make of a patient.
abbrev pub parent_held : Region → ℕ → Option ℕ
parent_held h q = get_or (parents_from (tables_held h) h.v) q none

-- The patient at a place is the held one with that parent; so is each.
abbrev made_at : Region → List Patient → ℕ → Type 0
made_at h patients q = patient_of (get_or patients q no_patient) ≡ with_parent (patient_of (patient_in h q)) (parent_held h q)

pub record PatientsMade (h : Region) (patients : List Patient) : Type 0 where
  pub made : (q : ℕ) → q < h.v → made_at h patients q

-- On the way, before patient s - 1: those from s on are made, and the groups so far make the others.
pub record Underway (h : Region) (s : ℕ) (sets : List PatientSet) (patients : List Patient) : Type 0 where
  pub groups : List (List ℕ)
  pub near : Near groups sets
  pub wide : length patients ≡ 32
  pub others : (q : ℕ) → q < s → parent_held h q ≡ get_or (parents_from groups s) q none
  pub made : (q : ℕ) → s ≤ q → q < h.v → made_at h patients q

-- Nobody is made before the last.
pub underway_none : (h : Region) (sets : List PatientSet) (patients : List Patient) → Near (tables_held h) sets → length patients ≡ 32 → Underway h h.v sets patients
underway_none h sets patients shared wide = record { groups = tables_held h; near = shared; wide = wide; others = λ q l. refl; made = λ q l m. absurd (omega arith) }

-- One more: patient s, with the earlier neighbours in the set w.
module _ {h : Region} {s : ℕ} {sets : List PatientSet} {patients : List Patient} (so_far : Underway h (suc s) sets patients) (known : s < 32) (w : ℕ) (small : w < 2 ^ 32)
    (earlier : (q : ℕ) → in_set w q ≡ (set_in sets s q && ltb q s)) where
  own_parent_lem : last (members w) ≡ parent_held h s
  own_parent_lem =
      ap last (earlier_members w s so_far.near known earlier)
      ∙ sym (so_far.others s (omega arith) ∙ parent_last so_far.groups s)

  pub underway_more : {after : List PatientSet} (new : Patient) → patient_of new ≡ with_parent (patient_of (patient_in h s)) (last (members w)) → Gathered sets w after
      → Underway h s after (set patients s new)
  underway_more new is gathered = record {
    groups = earlier_neighbours so_far.groups s ∷ so_far.groups;
    near = near_more w (earlier_neighbours so_far.groups s) so_far.near gathered (λ q. sym (member w q small) ∙ ap (λ l. contains l q) (earlier_members w s so_far.near known earlier));
    wide = length-set patients s new ∙ so_far.wide;
    others = λ q l. so_far.others q (omega arith) ∙ parent_before so_far.groups s q l;
    made = λ q l m. go q l m (ℕ_discrete q s);
  }
    where
      go : (q : ℕ) → s ≤ q → q < h.v → Dec (q ≡ s) → made_at h (set patients s new) q
      go q l m (yes e) = rw (e, get_or-set_same patients s new no_patient (omega (arith, so_far.wide))) (is ∙ ap (with_parent (patient_of (patient_in h s))) own_parent_lem)
      go q l m (no e) = rw (get_or-set_other patients s q new no_patient e) (so_far.made q (omega arith) m)

-- So it is at each turn of the loop, which has s patients left.
pub underway_next : {h : Region} (s : ℕ) {sets after : List PatientSet} {patients : List Patient} → Underway h s sets patients → 0 < s → s ≤ 32 → (w : ℕ) → w < 2 ^ 32
    → ((q : ℕ) → in_set w q ≡ (set_in sets (s - 1) q && ltb q (s - 1))) → (new : Patient) (parent : Option ℕ) → patient_of new ≡ with_parent (patient_of (patient_in h (s - 1))) parent
    → parent ≡ last (members w) → Gathered sets w after → Underway h (s - 1) after (set patients (s - 1) new)
underway_next zero so_far left few w small earlier new parent is highest gathered = absurd (omega arith)
underway_next {h} (suc s) so_far left few w small earlier new parent is highest gathered =
    let back : suc s - 1 ≡ s = omega arith in
    rw back (underway_more so_far (omega arith) w small (rw back at earlier) new (rw back at is ∙ ap (with_parent (patient_of (patient_in h s))) highest) gathered)

pub underway_all : {h : Region} {s : ℕ} {sets : List PatientSet} {patients : List Patient} → Underway h s sets patients → s ≤ 0 → PatientsMade h patients
underway_all so_far none_left = record { made = λ q l. so_far.made q (omega arith) l }

-- The region of these patients says the parents that its tables make.
module _ (h : Region) (patients : List Patient) (all : PatientsMade h patients) (store : List ℕ) where
  abbrev r : Said.Region
  r = said h store

  abbrev own : List Said.Patient
  own = map (λ s. patient_of (get_or patients s no_patient)) (below h.v)

  parents_held : (q : ℕ) → get_or (parents_made r) q none ≡ parent_held h q
  parents_held q = ap₂ (λ groups n. get_or (parents_from groups n) q none) (tables_held_lem h store) (patients_said_lem h store)

  patients_made : own ≡ (with_parents r (parents_made r)).patients
  unfolding with_parents region_from
  patients_made =
      below_same _ _ h.v (λ q l. all.made q l ∙ sym (ap₂ with_parent (patient_said_lem h store q l) (parents_held q)))
      ∙ ap (λ n. map (λ s. with_parent (patient_at r s) (get_or (parents_made r) s none)) (below n)) (sym (patients_said_lem h store))

  pub made_said : said (record { v = h.v; t = h.t; m = h.m; patients = patients; tables = h.tables }) store ≡ with_parents r (parents_made r)
  unfolding said with_parents region_from
  made_said =
      ap₂ (λ a b. with_sum (record { patient_count = a; table_count = b; plans_wanted = h.m; patients = own; tables = r.tables; stated_sum = 0 }))
      (sym (length_by_places _ 0 h.v)) (sym (tables_said h store))
      ∙ ap (λ ps. region_from h.m ps r.tables) patients_made
