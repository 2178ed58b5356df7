-- The entries of a held region, as questions 8 and 9 ask of them.
use Rattle.std.specs.Prelude.{◌≡◌, refl, ◌≤◌}
use Rattle.std.proofs.Common.{sym, ap, ◌∙◌, le_trans, zero-lt-suc, arith, ltb-true, le-leb, eqb-true, ◌+◌, ◌<◌, ◌&&◌, ◌||◌}
use Rattle.std.proofs.Math.Bool.{and-eq-true_iff}
use Rattle.std.proofs.Math.Nat.{pow-le-pow_right}
use Rattle.theorems.specs.Accepted.{at_most}
use Rattle.lists.specs.Every.{every_in, every_weaken, every_map}
use Rattle.lists.specs.Maps.{map_same, product_most}
use Rattle.lists.specs.Below.{every_place, same_tests, every_last, every_parts}
use Rattle.definitions.specs.Basics.{ℕ, zero, suc, Bool, true, false, cond, none, some, none_or, List, map, length, get_or, eqb, leb, ltb, product, below, every}
use Rattle.definitions.specs.Limits.{limits, within, entry, entry_count}
use Rattle.definitions.specs.Syntax as Said
use Rattle.definitions.specs.Syntax.{bed_counts}
use Rattle.definitions.specs.Questions.{entry_counts_right, entries_within}
use Rattle.held_region.specs.declared.Patient.{Patient}
use Rattle.held_region.specs.declared.Table.{Table}
use Rattle.held_region.specs.declared.Region.{Region}
use Rattle.held_region.specs.Meaning.{mark, said_by, table_in, members_of, sum_before, start_in, table_said, said}
use Rattle.held_region.specs.Stores.{start_of, entries_of, start_all}
use Rattle.held_region.specs.Asked.{patient_said_lem, tables_by_places, tables_said, entries_count, starts_said}
use Rattle.held_region.specs.Sound.{Sound, bed_count_in, beds_most, members_fit_lem, members_few, members_held, member_below}

-- The two halves of question 8.
abbrev pub counts_match : Said.Region → Bool
counts_match r = every (λ t. eqb (length t.entries) (product (bed_counts r t.members))) r.tables

pub counts_match_lem : (r : Said.Region) → entry_counts_right r ≡ true → counts_match r ≡ true
unfolding entry_counts_right
counts_match_lem r yes_eight = ((and-eq-true_iff (counts_match r) _).0 yes_eight).0

pub total_most : (r : Said.Region) → entry_counts_right r ≡ true → entries_of r.tables ≤ 4096
unfolding entry_counts_right limits
total_most r yes_eight = at_most entry_count (entries_of r.tables) ((and-eq-true_iff (counts_match r) _).0 yes_eight).1

-- What a product of bed counts relies on.
pub record BedsRead (patients : List Patient) (t : Table) : Type 0 where
  pub few : t.members ≤ 4
  pub known : (i : ℕ) → i < t.members → get_or t.first i 0 < 32
  pub small : (i : ℕ) → i < t.members → bed_count_in patients (get_or t.first i 0) ≤ 16

-- What the sum of all entry counts relies on.
pub record CountsSmall (h : Region) : Type 0 where
  pub tables : h.t ≤ 64
  pub entries : (i : ℕ) → i < h.t → (table_in h i).entries ≤ 65_536

module _ (h : Region) (store : List ℕ) where
  pub counts_by_places : counts_match (said h store) ≡ every (λ i. eqb (table_in h i).entries (product (bed_counts (said h store) (members_of (table_in h i))))) (below h.t)
  counts_by_places =
      ap (every (λ t. eqb (length t.entries) (product (bed_counts (said h store) t.members)))) (tables_by_places h store)
      ∙ every_map (λ t. eqb (length t.entries) (product (bed_counts (said h store) t.members))) (table_said h store) (below h.t)
      ∙ same_tests _ _ h.t (λ i l. ap (λ n. eqb n (product (bed_counts (said h store) (members_of (table_in h i))))) (entries_count h store i))

  -- All entries end where a table behind the last would begin.
  pub total_said : entries_of (said h store).tables ≡ start_in h h.t
  total_said =
      sym (start_all (said h store).tables) ∙ ap (start_of (said h store).tables) (tables_said h store) ∙ starts_said h store h.t (omega arith)

module _ (h : Region) (sound : Sound h) where
  module _ (i : ℕ) (l : i < h.t) where
    abbrev table : Table
    table = table_in h i

    pub beds_read : BedsRead h.patients table
    beds_read =
        record {
          few = members_held h sound i l;
          known = λ j m. omega (arith, member_below h sound i l j m, sound.places.patients);
          small = λ j m. beds_most h sound _ (member_below h sound i l j m);
        }

    -- The bed counts that are said are those that are read.
    same_beds_lem : (store : List ℕ) → bed_counts (said h store) (members_of table) ≡ map (bed_count_in h.patients) (members_of table)
    same_beds_lem store =
        map_same _ _ (members_of table) (λ s k. ap (λ p. p.bed_count) (patient_said_lem h store s (ltb-true s h.v (every_in _ (members_of table) (members_fit_lem h sound i l).1 k))))

    pub product_small : product (map (bed_count_in h.patients) (members_of table)) ≤ 65_536
    product_small =
        le_trans
        (product_most 16 (bed_count_in h.patients) (members_of table)
        (every_weaken (λ s. ltb s h.v) (λ s. leb (bed_count_in h.patients s) 16) (λ s m. le-leb _ 16 (beds_most h sound s (ltb-true s h.v m))) (members_of table) (members_fit_lem h sound i l).1))
        (pow-le-pow_right (zero-lt-suc 15) (members_few h sound i l))

  pub counts_asked : (store : List ℕ) → counts_match (said h store) ≡ every (λ i. eqb (table_in h i).entries (product (map (bed_count_in h.patients) (members_of (table_in h i))))) (below h.t)
  counts_asked store = counts_by_places h store ∙ same_tests _ _ h.t (λ i l. ap (λ beds. eqb (table_in h i).entries (product beds)) (same_beds_lem i l store))

  pub counts_small : (store : List ℕ) → counts_match (said h store) ≡ true → CountsSmall h
  counts_small store match =
      record {
        tables = sound.places.tables;
        entries = λ i l.
            let equal = eqb-true (table_in h i).entries (product (map (bed_count_in h.patients) (members_of (table_in h i)))) (every_place _ h.t i (sym (counts_asked store) ∙ match) l) in
            omega (arith, product_small i l);
      }

-- ---- question 9

-- Of one number of the store, and of its first numbers.
abbrev pub code_fits : ℕ → Bool
code_fits code = eqb code mark || within entry code

abbrev pub store_fits : ℕ → List ℕ → Bool
store_fits total store = every (λ i. code_fits (get_or store i 0)) (below total)

-- A number fits where the entry that it stands for does.
code_asked : (code : ℕ) → none_or (within entry) (said_by code) ≡ code_fits code
code_asked code = go (eqb code mark)
  where
    go : (b : Bool) → none_or (within entry) (cond b none (some code)) ≡ (b || within entry code)
    go true = refl
    go false = refl

-- Parts that lie one behind the other, tested part by part.
by_parts : (f : ℕ → Bool) (count : ℕ → ℕ) (t : ℕ) → every (λ i. every (λ k. f (sum_before count i + k)) (below (count i))) (below t) ≡ every f (below (sum_before count t))
by_parts f count zero = refl
by_parts f count (suc t) =
    every_last (λ i. every (λ k. f (sum_before count i + k)) (below (count i))) t
    ∙ ap (λ b. b && every (λ k. f (sum_before count t + k)) (below (count t))) (by_parts f count t)
    ∙ sym (every_parts f (sum_before count t) (count t))

-- Question 9 is asked of the store's first numbers.
pub entries_asked : (h : Region) (store : List ℕ) → entries_within (said h store) ≡ store_fits (start_in h h.t) store
unfolding entries_within
entries_asked h store =
    ap (every (λ t. every (none_or (within entry)) t.entries)) (tables_by_places h store)
    ∙ every_map (λ t. every (none_or (within entry)) t.entries) (table_said h store) (below h.t)
    ∙ same_tests _ _ h.t (λ i l. every_map (none_or (within entry)) _ (below (table_in h i).entries)
    ∙ same_tests _ _ (table_in h i).entries (λ k m. code_asked (get_or store (start_in h i + k) 0)))
    ∙ by_parts (λ n. code_fits (get_or store n 0)) (λ i. (table_in h i).entries) h.t
