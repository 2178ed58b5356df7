-- Every choice of parents that passes questions 6 and 10 has at least the ancestors that are made, no other has so few, and a region's own parents are a choice.
use Rattle.std.specs.Prelude.{◌≡◌, refl}
use Rattle.std.proofs.Common.{sym, ap, ◌∙◌, subst, arith, ◌<◌, ◌||◌}
use Rattle.std.proofs.Math.Logic.{inl, inr}
use Rattle.std.proofs.Math.Bool.{or_comm}
use Rattle.definitions.specs.Basics.{ℕ, zero, suc, true, Option, none, List, map, length, get_or, contains}
use Rattle.definitions.specs.Syntax.{Patient, Table, Region, patient_numbers, patient_at}
use Rattle.definitions.specs.Questions.{parents_smaller, ancestors, members_related}
use Rattle.definitions.specs.Writer.{region_from, as_held}
use Rattle.definitions.specs.Parents.{shared_tables, parents_made, with_parent, with_parents}
use Rattle.lists.specs.Members.{◌∈◌, in_map_cases}
use Rattle.lists.specs.Every.{every_in, every_two_in, contains_out}
use Rattle.lists.specs.Maps.{map_at}
use Rattle.lists.specs.Below.{by_places_lem, below_same}
use Rattle.theorems.specs.Accepted.{parent_below}
use Rattle.theorems.specs.Ancestors.{no_later, ancestor_cases, ancestor_through, same_parents}
use Rattle.made_parents.specs.Made.{Related, made_above}
use Rattle.made_parents.specs.Chosen.{chosen_alike, chosen_parent, parent_chosen}
use Rattle.made_parents.specs.Accepted.{PassesNine, made_parents_smaller, made_accepted}

-- A choice of parents for the same patient numbers that passes questions 6 and 10.
pub record Passing (r : Region) (choice : List (Option ℕ)) : Type 0 where
  pub smaller : parents_smaller (with_parents r choice) ≡ true
  pub related : members_related (with_parents r choice) ≡ true

-- For each patient, the one choice has at most the ancestors that the other has.
abbrev pub Within : Region → List (Option ℕ) → List (Option ℕ) → Type 0
Within r choice other = (s a : ℕ) → a ∈ ancestors (with_parents r choice) s → a ∈ ancestors (with_parents r other) s

-- Of two members that question 10 finds related, the smaller is an ancestor of the larger.
related_pair : (r : Region) → parents_smaller r ≡ true → (a b : ℕ) → a < b → (contains (ancestors r a) b || contains (ancestors r b) a) ≡ true → a ∈ ancestors r b
related_pair r smaller a b h e = contains_out (ancestors r b) a (ap (λ c. c || contains (ancestors r b) a) (sym (no_later r smaller a b h)) ∙ e)

module _ (r : Region) (choice : List (Option ℕ)) (smaller : parents_smaller (with_parents r choice) ≡ true) (related : members_related (with_parents r choice) ≡ true) where
  abbrev chosen : Region
  chosen = with_parents r choice

  tables_related : Related chosen (shared_tables r)
  unfolding members_related
  tables_related group i a b j k h =
      let (t, m, is) = in_map_cases (λ (t : Table). t.members) r.tables i in
      let pairs = every_in _ chosen.tables related (subst (λ l. t ∈ l) (sym (chosen_alike r choice).tables) m) in
      elim (every_two_in _ t.members pairs (rw (← is) at j) (rw (← is) at k)) [
        | inl e ↦ absurd (omega arith)
        | inr e ↦ elim e [
          | inl f ↦ related_pair chosen smaller a b h f
          | inr f ↦ related_pair chosen smaller a b h (or_comm (contains (ancestors chosen a) b) _ ∙ f)
        ]
      ]

  -- Parent by parent up to the root, from a patient below n.
  least_below : (n s : ℕ) {a : ℕ} → s < n → a ∈ ancestors (with_parents r (parents_made r)) s → a ∈ ancestors chosen s
  least_below zero s h k = absurd (omega arith)
  least_below (suc n) s h k =
      let made = with_parents r (parents_made r) in
      let (p, e, is) = ancestor_cases made (made_parents_smaller r) s k in
      let up = (parent_below made (made_parents_smaller r) s p e).1 in
      let above = made_above chosen smaller (shared_tables r) (length r.patients) tables_related s p (parent_chosen r (parents_made r) s p e) in
      elim is [ inl q ↦ rw q above | inr t ↦ ancestor_through chosen smaller s p above (least_below n p (omega arith) t) ]

  -- So it has, for each patient, at least the ancestors that are made, and where it has at most these it is the made one.
  pub made_within : Within r (parents_made r) choice
  made_within s a k = least_below (suc s) s (omega arith) k

  pub only_within : Within r choice (parents_made r) → with_parents r choice ≡ with_parents r (parents_made r)
  unfolding with_parents
  only_within fewest = ap (λ patients. region_from r.plans_wanted patients r.tables) (below_same _ _ (length r.patients) alike)
    where
      made : List (Option ℕ)
      made = parents_made r

      alike : (s : ℕ) → s < length r.patients → with_parent (patient_at r s) (get_or choice s none) ≡ with_parent (patient_at r s) (get_or made s none)
      alike s h =
          let same = same_parents chosen (with_parents r made) smaller (made_parents_smaller r) fewest made_within s in
          ap (with_parent (patient_at r s)) (sym (chosen_parent r choice s h) ∙ same ∙ chosen_parent r made s h)

-- Every choice that passes has, for each patient, at least the ancestors that are made.
pub parents_least : (r : Region) (choice : List (Option ℕ)) → Passing r choice → Within r (parents_made r) choice
parents_least r choice passing = made_within r choice passing.smaller passing.related

-- The made one passes itself, ..
pub made_passing : (r : Region) → PassesNine r → Passing r (parents_made r)
made_passing r nine = record { smaller = made_parents_smaller r; related = (made_accepted r nine).related }

-- .. and it is the only one that has at most the ancestors of every choice that passes.
pub only_parents : (r : Region) → PassesNine r → (choice : List (Option ℕ)) → Passing r choice → ((other : List (Option ℕ)) → Passing r other → Within r choice other)
    → with_parents r choice ≡ with_parents r (parents_made r)
only_parents r nine choice passing fewest =
    only_within r choice passing.smaller passing.related (fewest (parents_made r) (record { smaller = made_parents_smaller r; related = (made_accepted r nine).related }))

-- The region's own parents, chosen, leave each patient as it is.
pub own_patients : (r : Region) → map (λ s. with_parent (patient_at r s) (get_or (map (λ p. p.parent) r.patients) s none)) (patient_numbers r) ≡ r.patients
unfolding patient_at
own_patients r = by_places_lem _ _ (length r.patients) r.patients refl own
  where
    own : (s : ℕ) → s < length r.patients → with_parent (patient_at r s) (get_or (map (λ p. p.parent) r.patients) s none) ≡ patient_at r s
    own s h = ap (with_parent (patient_at r s)) (map_at (λ (p : Patient). p.parent) r.patients s _ none h)

-- So they are one such choice.
pub parents_choice : (r : Region) → with_parents r (map (λ p. p.parent) r.patients) ≡ as_held r
unfolding with_parents as_held
parents_choice r = ap (λ patients. region_from r.plans_wanted patients r.tables) (own_patients r)
