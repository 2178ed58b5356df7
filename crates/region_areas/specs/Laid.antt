-- Numbers laid in an area part by part: those of a patient, of a table, of an entry, one part behind the other.
use Rattle.std.specs.Prelude.{◌≡◌, refl, ◌≤◌}
use Rattle.std.proofs.Math.Path.{sym, ap, ap₂}
use Rattle.std.proofs.Common.{◌∙◌, ◌+◌, ◌-◌, ◌*◌, ◌<◌, ◌∷◌, ◌++◌}
use Rattle.std.proofs.lemmas.Simd.{map-map}
use native.Mathlib.Omega.{arith}
use Rattle.std.proofs.Math.ListN.{get_or-eq_default}
use Rattle.definitions.specs.Basics.{ℕ, zero, suc, List, [], map, flat_map, length, get_or, numbers_from, below, sets}
use Rattle.definitions.specs.Outcomes.{written}
use Rattle.definitions.specs.Boundary.{bytes_of, numbers_after, option_number, numbers_of_patient, numbers_of_table, numbers_of_entries}
use Rattle.lists.specs.Below.{below_next, below_parts, length_by_places, at_place}
use Rattle.lists.specs.Maps.{flat_map_snoc, flat_map_map, flat_map_same, flat_map_each}
use Rattle.held_region.specs.declared.Table.{Table}
use Rattle.held_region.specs.declared.Region.{Region}
use Rattle.held_region.specs.Meaning.{said_by, patient_of, patient_in, table_in, members_of, sum_before, start_in, table_said, said}
use Rattle.held_region.specs.Asked.{tables_by_places, entries_count}

-- ---- a loop over parts

-- What is written behind other numbers.
written_behind : {A : Type 0} (width : ℕ) (values : A → List ℕ) (r : ℕ) (xs ys : List A) (area : List ℕ)
    → written r width values (xs ++ ys) area ≡ written (r + length xs) width values ys (written r width values xs area)
written_behind width values r [] ys area =
    let start : r ≡ r + 0 = omega arith in
    ap (λ k. written k width values ys area) start
written_behind width values r (x ∷ xs) ys area =
    let next : suc r + length xs ≡ r + suc (length xs) = omega arith in
    let after = sets area (r * width) (values x) in
    written_behind width values (suc r) xs ys after ∙ ap (λ k. written k width values ys (written (suc r) width values xs after)) next

-- The area once the parts from part i on are laid, of n parts of one width.
unfoldable pub parts_left : ℕ → (ℕ → List ℕ) → ℕ → ℕ → List ℕ → List ℕ
parts_left width part n i area = written (i * width) 8 (bytes_of 8) (flat_map part (numbers_from i (n - i))) area

module _ (width : ℕ) (part : ℕ → List ℕ) (n : ℕ) (area : List ℕ) where
  pub parts_all : parts_left width part n 0 area ≡ numbers_after (flat_map part (below n)) area
  unfolding parts_left
  parts_all =
      let start : 0 * width ≡ 0 = omega arith in
      let all : n - 0 ≡ n = omega arith in
      ap₂ (λ k m. written k 8 (bytes_of 8) (flat_map part (numbers_from 0 m)) area) start all

  pub parts_next : {after : List ℕ} (i : ℕ) → i < n → length (part i) ≡ width → after ≡ written (i * width) 8 (bytes_of 8) (part i) area
      → parts_left width part n (i + 1) after ≡ parts_left width part n i area
  unfolding parts_left flat_map
  parts_next i inside wide laid =
      let left : n - i ≡ suc (n - (i + 1)) = omega arith in
      let next : (i + 1) * width ≡ i * width + length (part i) = omega (arith, wide) in
      let one : i + 1 ≡ suc i = omega arith in
      let rest = flat_map part (numbers_from (suc i) (n - (i + 1))) in
      ap₂ (λ k a. written ((i + 1) * width) 8 (bytes_of 8) (flat_map part (numbers_from k (n - (i + 1)))) a) one laid
      ∙ ap (λ k. written k 8 (bytes_of 8) rest (written (i * width) 8 (bytes_of 8) (part i) area)) next
      ∙ sym (written_behind 8 (bytes_of 8) (i * width) (part i) rest area)
      ∙ sym (ap (λ m. written (i * width) 8 (bytes_of 8) (flat_map part (numbers_from i m)) area) left)

  pub parts_done : (i : ℕ) → n ≤ i → area ≡ parts_left width part n i area
  unfolding parts_left flat_map
  parts_done i all =
      let none_left : n - i ≡ 0 = omega arith in
      sym (ap (λ m. written (i * width) 8 (bytes_of 8) (flat_map part (numbers_from i m)) area) none_left)

-- ---- what is held, part by part

-- The numbers of patient s, of a table as it is held, of table i, and of entry k of the store.
abbrev pub patient_part : Region → ℕ → List ℕ
patient_part h s = numbers_of_patient (patient_of (patient_in h s))

abbrev pub numbers_of_held : Table → List ℕ
numbers_of_held t = t.members ∷ (map (λ j. get_or (members_of t) j 0) (below 4) ++ t.entries ∷ [])

abbrev pub table_part : Region → ℕ → List ℕ
table_part h i = numbers_of_held (table_in h i)

abbrev pub entry_part : List ℕ → ℕ → List ℕ
entry_part store k = option_number (said_by (get_or store k 0)) ∷ []

-- One number is a part of its own.
pub entry_laid : (store area : List ℕ) (k : ℕ) {n : ℕ} {after : List ℕ} → n ≡ option_number (said_by (get_or store k 0)) → after ≡ sets area (k * 8) (bytes_of 8 n)
    → after ≡ written (k * 1) 8 (bytes_of 8) (entry_part store k) area
entry_laid store area k is stored =
    let one : k ≡ k * 1 = omega arith in
    stored ∙ ap₂ (λ i n. sets area (i * 8) (bytes_of 8 n)) one is

-- A member that the table counts, and a place past those.
pub member_held : (t : Table) (j : ℕ) → j < t.members → get_or t.first j 0 ≡ get_or (members_of t) j 0
member_held t j h = sym (at_place (λ k. get_or t.first k 0) 0 t.members j h)

pub member_past : (t : Table) (j : ℕ) → t.members ≤ j → 0 ≡ get_or (members_of t) j 0
member_past t j h = sym (get_or-eq_default (members_of t) 0 (omega (arith, length_by_places (λ k. get_or t.first k 0) 0 t.members)))

-- ---- and what is said

-- Parts of a list of numbers, each as long as it counts, are that list.
parts_joined : {A : Type 0} (g : ℕ → A) (count : ℕ → ℕ) (t : ℕ) → flat_map (λ i. map (λ k. g (sum_before count i + k)) (below (count i))) (below t) ≡ map g (below (sum_before count t))
unfolding flat_map
parts_joined g count zero = refl
parts_joined {A = A} g count (suc t) =
    ap (flat_map part) (below_next t)
    ∙ flat_map_snoc part (below t) t
    ∙ ap (λ l. l ++ part t) (parts_joined g count t)
    ∙ sym (below_parts g (sum_before count t) (count t))
  where
    part : ℕ → List A
    part i = map (λ k. g (sum_before count i + k)) (below (count i))

module _ (h : Region) (store : List ℕ) where
  pub patients_laid : flat_map (patient_part h) (below h.v) ≡ flat_map numbers_of_patient (said h store).patients
  unfolding said
  patients_laid = sym (flat_map_map numbers_of_patient (λ s. patient_of (patient_in h s)) (below h.v))

  table_laid : (i : ℕ) → numbers_of_table (table_said h store i) ≡ table_part h i
  table_laid i =
      ap₂ (λ m e. m ∷ (map (λ j. get_or (members_of (table_in h i)) j 0) (below 4) ++ e ∷ []))
      (length_by_places (λ k. get_or (table_in h i).first k 0) 0 (table_in h i).members) (entries_count h store i)

  pub tables_laid : flat_map (table_part h) (below h.t) ≡ flat_map numbers_of_table (said h store).tables
  tables_laid =
      sym (ap (flat_map numbers_of_table) (tables_by_places h store)
      ∙ flat_map_map numbers_of_table (table_said h store) (below h.t)
      ∙ flat_map_same _ _ table_laid (below h.t))

  pub entries_laid : flat_map (entry_part store) (below (start_in h h.t)) ≡ flat_map numbers_of_entries (said h store).tables
  entries_laid =
      sym (ap (flat_map numbers_of_entries) (tables_by_places h store)
      ∙ flat_map_map numbers_of_entries (table_said h store) (below h.t)
      ∙ flat_map_same _ _ (λ i. map-map option_number (λ k. said_by (get_or store (start_in h i + k) 0)) (below (table_in h i).entries)) (below h.t)
      ∙ parts_joined (λ k. option_number (said_by (get_or store k 0))) (λ i. (table_in h i).entries) h.t
      ∙ flat_map_each (λ k. option_number (said_by (get_or store k 0))) (below (start_in h h.t)))
