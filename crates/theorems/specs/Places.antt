-- A region of some patients alone: their beds and the tables among them, by places. It prices their beds as the whole region does.
use Rattle.std.proofs.Math.Path.{sym, ap, ap₂}
use Rattle.std.proofs.Common.{◌∙◌, inl, inr, eqb-true, arith, ◌≡◌, ◌∷◌}
use Rattle.std.specs.Prelude.{◌⊎◌}
use Rattle.std.proofs.lemmas.Bool.{eqb-false}
use Rattle.std.proofs.lemmas.Simd.{map-map}
use Rattle.std.proofs.lemmas.List.{length-map}
use Rattle.definitions.specs.Basics.{ℕ, suc, refl, Bool, true, false, cond, none, some, List, [], map, length, get_or, drop, eqb, below}
use Rattle.definitions.specs.Syntax.{Patient, Table, Region, patient_numbers, patient_at, bed_counts, fixed_beds}
use Rattle.definitions.specs.Plans.{Plan, bed_of, place, entry_for, cost_over, total, Row}
use Rattle.definitions.specs.Isolation.{place_among}
use Rattle.lists.specs.Members.{◌∈◌, here, there, here_or_there, none_in_nil}
use Rattle.lists.specs.Maps.{map_at}
use Rattle.lists.specs.Below.{below_out, by_number}
use Rattle.theorems.specs.List.{Fits, Allowed}
use Rattle.theorems.specs.Sums.{plus, sum_over, sum_map}
use Rattle.theorems.specs.Fixed.{keeping, fixed_cost, total_parts}

-- A patient alone: its count of beds and its fixed bed, at one clinic, without a parent. Some patients of a region, so.
abbrev patient_alone : Patient → Patient
patient_alone p = record { clinic = 0; bed_count = p.bed_count; parent = none; fixed_bed = p.fixed_bed }

abbrev pub patients_alone : Region → List ℕ → List Patient
patients_alone region patients = map (λ s. patient_alone (patient_at region s)) patients

-- They are known by their counts of beds and their fixed beds.
pub same_alone : (first second : Region) (l k : List ℕ) → bed_counts first l ≡ bed_counts second k → fixed_beds first l ≡ fixed_beds second k
    → patients_alone first l ≡ patients_alone second k
same_alone first second [] [] beds fixed = refl
same_alone first second [] (q ∷ k) beds fixed = absurd (omega (arith, ap length beds))
same_alone first second (s ∷ l) [] beds fixed = absurd (omega (arith, ap length beds))
same_alone first second (s ∷ l) (q ∷ k) beds fixed =
    let count : (patient_at first s).bed_count ≡ (patient_at second q).bed_count = ap (λ ns. get_or ns 0 0) beds in
    let bed : (patient_at first s).fixed_bed ≡ (patient_at second q).fixed_bed = ap (λ os. get_or os 0 none) fixed in
    ap₂ {C = List Patient} (λ p ps. p ∷ ps) (λ i. record { clinic = 0; bed_count = count i; parent = none; fixed_bed = bed i })
    (same_alone first second l k (ap (drop 1) beds) (ap (drop 1) fixed))

-- The region with these patients and these tables.
abbrev pub alone : ℕ → List Patient → List Table → Region
alone m ps tables = record { patient_count = length ps; table_count = length tables; plans_wanted = m; patients = ps; tables = tables; stated_sum = 0 }

-- What it allows.
module _ (region : Region) (patients : List ℕ) (m : ℕ) (tables : List Table) where
  abbrev these : Region
  these = alone m (patients_alone region patients) tables

  alone_counts : map (λ p. p.bed_count) (patients_alone region patients) ≡ bed_counts region patients
  alone_counts = map-map (λ (p : Patient). p.bed_count) (λ s. patient_alone (patient_at region s)) patients

  pub alone_fits : (w : Row) → Allowed these w → Fits (bed_counts region patients) w.beds
  alone_fits w a = rw alone_counts at a.fits

  pub alone_allowed : (w : Row) → Fits (bed_counts region patients) w.beds → total these w.beds ≡ some w.cost → Allowed these w
  alone_allowed w f t = record { fits = rw alone_counts f; priced = t }

-- A table with the places of its members among some patients.
abbrev pub by_places : List ℕ → Table → Table
by_places patients t = record { members = map (place_among patients) t.members; entries = t.entries }

-- What stands for a patient at its place.
at_its_place : {A : Type 0} (g : ℕ → A) (d : A) (patients : List ℕ) (s : ℕ) → s ∈ patients → get_or (map g patients) (place_among patients s) d ≡ g s
at_its_place g d [] s k = absurd (none_in_nil k)
at_its_place g d (p ∷ patients) s k = go (eqb p s) refl (here_or_there k) (at_its_place g d patients s)
  where
    go : (b : Bool) → eqb p s ≡ b → (s ≡ p) ⊎ (s ∈ patients) → (s ∈ patients → get_or (map g patients) (place_among patients s) d ≡ g s)
        → get_or (g p ∷ map g patients) (cond b 0 (suc (place_among patients s))) d ≡ g s
    go true e h ih = ap g (eqb-true p s e)
    go false e (inl q) ih = absurd (eqb-false p s e (sym q))
    go false e (inr t) ih = ih t

-- What a table's place is reckoned from, for one member.
abbrev count_and_bed : Region → Plan → ℕ → ℕ × ℕ
count_and_bed region plan s = ((patient_at region s).bed_count, bed_of plan s)

module _ (region : Region) (patients : List ℕ) (m : ℕ) (plan : Plan) where
  abbrev their : Plan
  their = map (bed_of plan) patients

  count_at : (tables : List Table) (s : ℕ) → s ∈ patients → (patient_at (these region patients m tables) (place_among patients s)).bed_count ≡ (patient_at region s).bed_count
  unfolding patient_at
  count_at tables s k = ap (λ (p : Patient). p.bed_count) (at_its_place (λ x. patient_alone (patient_at region x)) _ patients s k)

  entry_alone : (tables : List Table) (t : Table) → ((s : ℕ) → s ∈ t.members → s ∈ patients) → entry_for (these region patients m tables) their (by_places patients t) ≡ entry_for region plan t
  unfolding entry_for
  entry_alone tables t h = ap (λ pairs. get_or t.entries (place pairs) none) (go t.members h)
    where
      go : (members : List ℕ) → ((s : ℕ) → s ∈ members → s ∈ patients)
          → map (count_and_bed (these region patients m tables) their) (map (place_among patients) members) ≡ map (count_and_bed region plan) members
      go [] h = refl
      go (s ∷ members) h = let k = h s (here refl) in
          ap₂ {C = List (ℕ × ℕ)} (λ a l. a ∷ l) (λ i. (count_at tables s k i, at_its_place (bed_of plan) 0 patients s k i)) (go members (λ r j. h r (there j)))

  -- A fixed bed costs what it costs in the whole region.
  fixed_alone : (tables : List Table) → sum_over (fixed_cost (these region patients m tables) their) (patient_numbers (these region patients m tables)) ≡ sum_over (fixed_cost region plan) patients
  unfolding patient_at
  fixed_alone tables =
      let cost = fixed_cost (these region patients m tables) their in
      let named : ℕ → ℕ = λ j. get_or patients j 0 in
      ap (λ n. sum_over cost (below n)) (length-map patients (λ s. patient_alone (patient_at region s)))
      ∙ sym (sum_map cost (fixed_cost region plan) named (below (length patients)) (λ j k.
      let inside = below_out (length patients) j k in
      sym (ap₂ (λ (p : Patient) (bed : ℕ). keeping p.bed_count p.fixed_bed bed)
      (map_at (λ s. patient_alone (patient_at region s)) patients j 0 _ inside) (map_at (bed_of plan) patients j 0 0 inside))))
      ∙ ap (sum_over (fixed_cost region plan)) (by_number patients 0)

  -- So the region of some patients alone, with some of their tables, prices their beds as the whole region does: the tables, and all.
  pub cost_alone : (l tables : List Table) → ((t : Table) → t ∈ l → (s : ℕ) → s ∈ t.members → s ∈ patients)
      → cost_over (map (by_places patients) l) (alone m (patients_alone region patients) tables) their ≡ cost_over l region plan
  unfolding cost_over
  cost_alone l tables h = sum_map (entry_for region plan) (entry_for (these region patients m tables) their) (by_places patients) l (λ t k. entry_alone tables t (h t k))

  pub total_alone : (l : List Table) → ((t : Table) → t ∈ l → (s : ℕ) → s ∈ t.members → s ∈ patients)
      → total (alone m (patients_alone region patients) (map (by_places patients) l)) their ≡ plus (cost_over l region plan) (sum_over (fixed_cost region plan) patients)
  total_alone l h =
      let tables = map (by_places patients) l in
      total_parts (these region patients m tables) their ∙ ap₂ plus (cost_alone l tables h) (fixed_alone tables)
