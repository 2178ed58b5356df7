-- Counts taken off what is left, and areas that are whole.
use mathlib.Core.Path.{◌≡◌, sym, ap, ap₂, ◌∙◌}
use mathlib.Core.Bool.{and-false}
use Prim.Native.Nat.{◌≤◌}
use native.Mathlib.Decide.{ℕ_discrete}
use native.Mathlib.Numerals.{add-one}
use native.Mathlib.Omega.{arith}
use borrow.Author.Tests.{eq-eqb, ne_eqb}
use Rattle.std.specs.Prelude.{◌+◌, ◌-◌, ◌*◌, ◌/◌, ◌%◌, ◌<◌, ◌&&◌}
use Rattle.definitions.specs.Basics.{ℕ, suc, Bool, false, List, length, eqb}
use Rattle.definitions.specs.Boundary.{number_at, lent_table_count, lent_entries_before, lent_whole}
use Rattle.lent_region.specs.Lent.{before_next, before_most}

-- ---- the counts of entries

module _ (tables : List ℕ) (total left i : ℕ) (so_far : left + lent_entries_before tables i ≡ total) where
  module _ {count : ℕ} (is : count ≡ number_at tables (i * 6 + 5)) (inside : i < lent_table_count tables) where
    pub count_over : left < count → false ≡ eqb total (lent_entries_before tables (lent_table_count tables))
    count_over more =
        sym (ne_eqb total (lent_entries_before tables (lent_table_count tables)) (λ e. omega (arith, before_next tables i, before_most tables (suc i) (lent_table_count tables) (omega arith))))

    pub count_off : count ≤ left → (left - count) + lent_entries_before tables (i + 1) ≡ total
    count_off room = omega (arith, ap (lent_entries_before tables) (add-one i), before_next tables i)

  pub counts_done : i ≤ lent_table_count tables → lent_table_count tables ≤ i → eqb left 0 ≡ eqb total (lent_entries_before tables (lent_table_count tables))
  counts_done few all =
      let same : i ≡ lent_table_count tables = omega arith in
      go (ap (lent_entries_before tables) same) (ℕ_discrete left 0)
    where
      go : lent_entries_before tables i ≡ lent_entries_before tables (lent_table_count tables) → Dec (left ≡ 0) → eqb left 0 ≡ eqb total (lent_entries_before tables (lent_table_count tables))
      go e (yes z) = eq-eqb left 0 z ∙ sym (eq-eqb total (lent_entries_before tables (lent_table_count tables)) (omega arith))
      go e (no z) = ne_eqb left 0 z ∙ sym (ne_eqb total (lent_entries_before tables (lent_table_count tables)) (λ k. z (omega arith)))

-- ---- whole areas

module _ (patients tables entries : List ℕ) where
  before : ℕ
  before = lent_entries_before tables (lent_table_count tables)

  pub part_patient : (length patients % 32 ≡ 0 → ⊥) → false ≡ lent_whole patients tables entries
  unfolding lent_whole before
  part_patient n = sym (ap (λ b. b && eqb (length tables % 48) 0 && eqb (length entries) (before * 8)) (ne_eqb (length patients % 32) 0 n))

  pub part_table : (length tables % 48 ≡ 0 → ⊥) → false ≡ lent_whole patients tables entries
  unfolding lent_whole before
  part_table n =
      sym (ap (λ b. eqb (length patients % 32) 0 && b && eqb (length entries) (before * 8)) (ne_eqb (length tables % 48) 0 n)
      ∙ ap (λ b. b && eqb (length entries) (before * 8)) (and-false (eqb (length patients % 32) 0)))

  pub part_entry : (length entries % 8 ≡ 0 → ⊥) → false ≡ lent_whole patients tables entries
  unfolding lent_whole before
  part_entry n =
      sym (ap (λ b. eqb (length patients % 32) 0 && eqb (length tables % 48) 0 && b) (ne_eqb (length entries) (before * 8) (λ e. n (omega arith)))
      ∙ and-false (eqb (length patients % 32) 0 && eqb (length tables % 48) 0))

  pub all_whole : length patients % 32 ≡ 0 → length tables % 48 ≡ 0 → length entries % 8 ≡ 0 → {answer : Bool}
      → answer ≡ eqb (length entries / 8) (lent_entries_before tables (lent_table_count tables)) → answer ≡ lent_whole patients tables entries
  unfolding lent_whole before
  all_whole p t e is =
      is ∙ go (ℕ_discrete (length entries / 8) before)
      ∙ sym (ap₂ (λ a b. a && b && eqb (length entries) (before * 8)) (eq-eqb (length patients % 32) 0 p) (eq-eqb (length tables % 48) 0 t))
    where
      go : Dec (length entries / 8 ≡ before) → eqb (length entries / 8) before ≡ eqb (length entries) (before * 8)
      go (yes k) = eq-eqb (length entries / 8) before k ∙ sym (eq-eqb (length entries) (before * 8) (omega arith))
      go (no k) = ne_eqb (length entries / 8) before k ∙ sym (ne_eqb (length entries) (before * 8) (λ z. k (omega arith)))
