-- What is said, place by place, and question 6 as a loop over the places asks it.
use Rattle.std.specs.Prelude.{◌≡◌, ◌≤◌}
use Rattle.std.proofs.Math.Path.{refl, ap, ap₂}
use Rattle.std.proofs.Common.{sym, ◌∙◌, arith, eqb-true, ◌+◌, ◌<◌, ◌&&◌}
use Rattle.definitions.specs.Basics.{ℕ, zero, suc, Bool, true, false, cond, Option, none, some, none_or, List, [], map, length, get_or, eqb, ltb, below, every}
use Rattle.definitions.specs.Limits.{within, clinic, bed_count}
use Rattle.definitions.specs.Syntax as Said
use Rattle.definitions.specs.Syntax.{patient_at}
use Rattle.definitions.specs.Questions.{patients_within, parents_smaller}
use Rattle.held_region.specs.declared.Region.{Region}
use Rattle.held_region.specs.Meaning.{optional, patient_of, patient_in, mark, said_by, code_of, table_in, members_of, start_in, table_said, said}
use Rattle.lists.specs.Every.{every_map}
use Rattle.lists.specs.Below.{length_by_places, at_place, same_tests}
use Rattle.held_region.specs.Stores.{start_of, table_at, start_next, SaysEntries, HasEntries}

-- Is there no number, or a smaller one? A parent is asked this of the patient's own number, a fixed bed of the count of beds.
abbrev pub none_or_below : Option ℕ → ℕ → Bool
none_or_below field n = none_or (λ k. ltb k n) field

-- Question 6, of one patient, but for its parent.
abbrev pub patient_fits : Said.Patient → Bool
patient_fits p = within clinic p.clinic && within bed_count p.bed_count && none_or_below p.fixed_bed p.bed_count

-- A number of the store is that of the entry that it stands for.
code_back : (code : ℕ) → code_of (said_by code) ≡ code
code_back code = go (eqb code mark) refl
  where
    go : (b : Bool) → eqb code mark ≡ b → code_of (cond b none (some code)) ≡ code
    go true e = sym (eqb-true code mark e)
    go false e = refl

module _ (h : Region) (store : List ℕ) where
  -- ---- patients

  pub patients_said_lem : length (said h store).patients ≡ h.v
  unfolding said
  patients_said_lem = length_by_places (λ s. patient_of (patient_in h s)) 0 h.v

  pub patient_said_lem : (s : ℕ) → s < h.v → patient_at (said h store) s ≡ patient_of (patient_in h s)
  unfolding patient_at said
  patient_said_lem s l = at_place (λ i. patient_of (patient_in h i)) _ h.v s l

  pub patients_asked : patients_within (said h store) ≡ every (λ s. patient_fits (patient_of (patient_in h s))) (below h.v)
  unfolding patients_within said
  patients_asked = every_map patient_fits (λ s. patient_of (patient_in h s)) (below h.v)

  pub parents_asked : parents_smaller (said h store) ≡ every (λ s. none_or_below (optional (patient_in h s).parent) s) (below h.v)
  unfolding parents_smaller
  parents_asked =
      ap (λ n. every (λ s. none_or_below (patient_at (said h store) s).parent s) (below n)) patients_said_lem
      ∙ same_tests (λ s. none_or_below (patient_at (said h store) s).parent s) (λ s. none_or_below (optional (patient_in h s).parent) s) h.v
      (λ s l. ap (λ p. none_or_below p.parent s) (patient_said_lem s l))

  -- ---- tables

  pub tables_by_places : (said h store).tables ≡ map (table_said h store) (below h.t)
  unfolding said
  tables_by_places = refl

  pub tables_said : length (said h store).tables ≡ h.t
  tables_said = ap length tables_by_places ∙ length_by_places (table_said h store) 0 h.t

  pub table_said_lem : (i : ℕ) → i < h.t → table_at (said h store) i ≡ table_said h store i
  table_said_lem i l = ap (λ ts. get_or ts i (record { members = []; entries = [] })) tables_by_places ∙ at_place (table_said h store) _ h.t i l

  pub members_said : (i : ℕ) → i < h.t → members_of (table_in h i) ≡ (table_at (said h store) i).members
  members_said i l = sym (ap (λ t. t.members) (table_said_lem i l))

  -- A table has as many entries as it counts, ..
  pub entries_count : (i : ℕ) → length (table_said h store i).entries ≡ (table_in h i).entries
  entries_count i = length_by_places _ 0 (table_in h i).entries

  pub entries_said : (i : ℕ) → i < h.t → (table_in h i).entries ≡ length (table_at (said h store) i).entries
  entries_said i l = sym (ap (λ t. length t.entries) (table_said_lem i l) ∙ entries_count i)

  -- .. they begin where the counts say, ..
  pub starts_said : (i : ℕ) → i ≤ h.t → start_of (said h store).tables i ≡ start_in h i
  unfolding start_of
  starts_said zero l = refl
  starts_said (suc i) l =
      start_next (said h store).tables i
      ∙ ap₂ (λ a b. a + b) (starts_said i (omega arith)) (sym (entries_said i (omega arith)))

  -- .. and there the store says them, so that they stand in it.
  pub says : SaysEntries store (said h store).tables
  says i q l m =
      let inside : i < h.t = omega (arith, tables_said) in
      let there : q < (table_in h i).entries = omega (arith, entries_said i inside) in
      ap (λ n. said_by (get_or store (n + q) 0)) (starts_said i (omega arith))
      ∙ sym (ap (λ t. get_or t.entries q none) (table_said_lem i inside) ∙ at_place (λ k. said_by (get_or store (start_in h i + k) 0)) none (table_in h i).entries q there)

  pub stands : HasEntries store (said h store).tables
  stands i q l m = sym (code_back (get_or store (start_of (said h store).tables i + q) 0)) ∙ ap code_of (says i q l m)
