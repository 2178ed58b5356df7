-- Question 10, asked of sets of members and ancestors.
use Rattle.std.specs.Prelude.{◌≡◌, refl, ◌≤◌, set}
use Rattle.std.proofs.Common.{sym, ◌∙◌, arith, get_or-set_same, get_or-set_other, ltb-true, lt-ltb, le-ltb, ◌+◌, ◌<◌, ◌&&◌, ◌||◌}
use Rattle.std.proofs.Math.Path.{ap, fun_ext}
use Rattle.std.proofs.Math.Bool.{or_comm}
use Rattle.std.proofs.Math.Decide.{dec_lt}
use Rattle.lists.specs.Every.{every_in, every_weaken, every_same, every_map}
use Rattle.lists.specs.Below.{same_keep}
use Rattle.lists.specs.Rising.{chain, same_two}
use Rattle.patient_set.specs.Laws.{members_below}
use Rattle.patient_set.specs.declared.PatientSet.{PatientSet}
use Rattle.patient_set.specs.Sets.{in_set, members}
use Rattle.definitions.specs.Basics.{ℕ, Bool, true, false, Option, none, some, List, length, get_or, eqb, ltb, below, every, every_two, keep, contains}
use Rattle.definitions.specs.Syntax as Said
use Rattle.definitions.specs.Syntax.{patient_at, patients_of}
use Rattle.definitions.specs.Questions.{ancestors, members_related}
use Rattle.held_region.specs.declared.Table.{Table}
use Rattle.held_region.specs.declared.Region.{Region}
use Rattle.held_region.specs.Meaning.{optional, patient_in, table_in, members_of, table_said, said}
use Rattle.held_region.specs.Members.{every_member}
use Rattle.held_region.specs.Asked.{patients_said_lem, patient_said_lem, tables_by_places}
use Rattle.held_region.specs.Sound.{Sound, ParentsFirst, parents_first, members_fit_lem, members_held}
use Rattle.theorems.specs.Accepted.{parent_below}
use Rattle.theorems.specs.Ancestors.{ancestors_root, ancestors_next, no_later}

-- A table whose members are all held, patients of a set, and rise.
pub record MembersKnown (t : Table) : Type 0 where
  pub few : t.members ≤ 4
  pub known : every (λ s. ltb s 32) (members_of t) ≡ true
  pub rising : every_two ltb (members_of t) ≡ true

pub member_known : (t : Table) → MembersKnown t → (j : ℕ) → j < t.members → get_or t.first j 0 < 32
member_known t right j m = ltb-true _ _ (every_member t (λ s. ltb s 32) right.known j m)

-- Is q in the set of s?
abbrev pub set_in : List PatientSet → ℕ → ℕ → Bool
set_in sets s q = in_set (get_or sets s (record { 0 = 0 })).0 q

abbrev pub above_of : List PatientSet → Option ℕ → ℕ → Bool
above_of sets none q = false
above_of sets (some p) q = set_in sets p q || eqb q p

-- The sets of the first n patients are their ancestors, whatever the store says.
abbrev pub AncestorsHeld : Region → ℕ → List PatientSet → Type 0
AncestorsHeld h n sets = (store : List ℕ) (s : ℕ) → s < n → (q : ℕ) → set_in sets s q ≡ contains (ancestors (said h store) s) q

-- Has each of a rising list all that are lower above it?
abbrev pub chained : (ℕ → ℕ → Bool) → List ℕ → Bool
chained is_above l = every (λ b. every (is_above b) (keep (λ q. ltb q b) l)) l

-- Question 10, of one table.
abbrev pub related : Said.Region → List ℕ → Bool
related r l = every_two (λ a b. contains (ancestors r a) b || contains (ancestors r b) a) l

module _ (h : Region) (store : List ℕ) where
  -- The set of a clinic, once all places are passed.
  pub clinic_members : (c w : ℕ) → h.v ≤ 32 → ((q : ℕ) → in_set w q ≡ (ltb q h.v && eqb (patient_in h q).clinic c)) → members w ≡ patients_of (said h store) c
  unfolding patients_of
  clinic_members c w l is =
      members_below w h.v l (λ q m. is q ∙ ap (λ b. b && eqb (patient_in h q).clinic c) (le-ltb q h.v m))
      ∙ same_keep (in_set w) (λ q. eqb (patient_at (said h store) q).clinic c) 0 h.v
      (λ q m n. is q ∙ ap (λ b. b && eqb (patient_in h q).clinic c) (lt-ltb q h.v (omega arith)) ∙ ap (λ p. eqb p.clinic c) (sym (patient_said_lem h store q (omega arith))))
      ∙ ap (λ n. keep (λ q. eqb (patient_at (said h store) q).clinic c) (below n)) (sym (patients_said_lem h store))

  pub related_asked : members_related (said h store) ≡ every (λ i. related (said h store) (members_of (table_in h i))) (below h.t)
  unfolding members_related
  related_asked =
      ap (every (λ t. related (said h store) t.members)) (tables_by_places h store)
      ∙ every_map (λ t. related (said h store) t.members) (table_said h store) (below h.t)

module _ (h : Region) (first : ParentsFirst h) where
  -- One patient more: the set of s is made from its parent's.
  module _ (s : ℕ) (l : s < h.v) where
    abbrev parent : Option ℕ
    parent = optional (patient_in h s).parent

    pub own_parent_lem : (store : List ℕ) → (patient_at (said h store) s).parent ≡ parent
    own_parent_lem store = ap (λ p. p.parent) (patient_said_lem h store s l)

    pub parent_smaller : (p : ℕ) → parent ≡ some p → p < s
    parent_smaller p e = (parent_below (said h first.store) first.smaller s p (own_parent_lem first.store ∙ e)).1

    own : (sets : List PatientSet) → AncestorsHeld h s sets → (store : List ℕ) (o : Option ℕ) → parent ≡ o → (q : ℕ) → above_of sets o q ≡ contains (ancestors (said h store) s) q
    own sets held store none e q = sym (ap (λ a. contains a q) (ancestors_root (said h store) (parents_first h first store) s (own_parent_lem store ∙ e)))
    own sets held store (some p) e q =
        ap (λ b. b || eqb q p) (held store p (parent_smaller p e) q) ∙ or_comm (contains (ancestors (said h store) p) q) (eqb q p)
        ∙ sym (ap (λ a. contains a q) (ancestors_next (said h store) (parents_first h first store) s p (own_parent_lem store ∙ e)))

    pub ancestors_more : (sets : List PatientSet) (new : PatientSet) → s < length sets → AncestorsHeld h s sets
        → ((q : ℕ) → in_set new.0 q ≡ above_of sets parent q) → AncestorsHeld h (s + 1) (set sets s new)
    ancestors_more sets new room held is store j m q = go (dec_lt j s)
      where
        go : Dec (j < s) → set_in (set sets s new) j q ≡ contains (ancestors (said h store) j) q
        go (yes n) = ap (λ x. in_set x.0 q) (get_or-set_other sets s j new (record { 0 = 0 }) (λ e. omega arith)) ∙ held store j n q
        go (no n) =
            let same : j ≡ s = omega arith in
            ap (λ k. set_in (set sets s new) k q) same ∙ ap (λ x. in_set x.0 q) (get_or-set_same sets s new (record { 0 = 0 }) room)
            ∙ is q ∙ own sets held store parent refl q ∙ ap (λ k. contains (ancestors (said h store) k) q) (sym same)

  -- Question 10 of one table: its members rise, so of two the lower one is the ancestor.
  table_chained : (store : List ℕ) (sets : List PatientSet) (l : List ℕ) → AncestorsHeld h h.v sets → every (λ s. ltb s h.v) l ≡ true → every_two ltb l ≡ true
      → chained (set_in sets) l ≡ related (said h store) l
  table_chained store sets l held known up =
      every_same _ _ l (λ b k. ap (λ f. every f (keep (λ q. ltb q b) l)) (fun_ext (held store b (ltb-true b h.v (every_in _ l known k)))))
      ∙ chain (λ a b. contains (ancestors (said h store) b) a) l up
      ∙ sym (same_two (λ a b. contains (ancestors (said h store) b) a) _ (λ a b m. ap (λ x. x || contains (ancestors (said h store) b) a) (no_later (said h store) (parents_first h first store) a b m)) l up)

module _ (h : Region) (sound : Sound h) (i : ℕ) (l : i < h.t) where
  abbrev table : Table
  table = table_in h i

  pub members_known : MembersKnown table
  members_known =
      record {
        few = members_held h sound i l;
        known = every_weaken (λ s. ltb s h.v) (λ s. ltb s 32) (λ s m. lt-ltb s 32 (omega (arith, ltb-true s h.v m, sound.places.patients))) (members_of table) (members_fit_lem h sound i l).1;
        rising = (members_fit_lem h sound i l).2;
      }

  -- What the walk over a table's set of members finds is question 10 of the table.
  pub table_related : {answer : Bool} (sets : List PatientSet) (w : ℕ) → ParentsFirst h → AncestorsHeld h h.v sets
      → members w ≡ members_of table → answer ≡ chained (set_in sets) (members w) → (store : List ℕ) → related (said h store) (members_of table) ≡ answer
  table_related sets w first held same e store =
      sym (e ∙ ap (chained (set_in sets)) same ∙ table_chained h first store sets (members_of table) held (members_fit_lem h sound i l).1 (members_fit_lem h sound i l).2)
