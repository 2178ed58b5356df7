-- The entries of one table after the other, counted and compared with the products of bed counts.
use mathlib.Core.Path.{◌≡◌, refl, sym, ap, ◌∙◌}
use Prim.Native.Nat.{◌≤◌}
use native.Mathlib.Numerals.{add-one}
use native.Mathlib.Omega.{arith}
use borrow.Author.Tests.{eq-eqb, ne_eqb}
use Rattle.std.specs.Prelude.{Option, Some, None, ◌+◌, ◌*◌, ◌<◌, ◌&&◌}
use Rattle.std.specs.Option.{is_some}
use Rattle.std.specs.Bool.{then_some}
use Rattle.definitions.specs.Basics.{ℕ, Bool, true, false, List, map, eqb, product}
use Rattle.definitions.specs.Limits.{within, entry_count}
use Rattle.definitions.specs.Questions.{entry_counts_right}
use Rattle.held_region.specs.declared.Region.{Region}
use Rattle.held_region.specs.Meaning.{table_in, members_of, start_in, said}
use Rattle.lists.specs.Loops.{asked_from, ask_all, ask_yes, ask_no, ask_done}
use Rattle.held_region.specs.Stores.{entries_of}
use Rattle.held_region.specs.Sound.{Sound, bed_count_in}
use Rattle.held_region.specs.Entries.{counts_match, counts_asked, total_said, product_small}
use Rattle.entry_questions.specs.Counting.{EntriesCounted}

-- The product of the bed counts of a table's members.
abbrev product_in : Region → ℕ → ℕ
product_in h i = product (map (bed_count_in h.patients) (members_of (table_in h i)))

-- Up to place i the counts are right, and n is their sum.
pub record Counting (h : Region) (n i : ℕ) : Type 0 where
  pub few : n ≤ i * 65_536
  pub place : i ≤ h.t
  pub sum : n ≡ start_in h i
  pub asked : (store : List ℕ) → asked_from (λ j. eqb (table_in h j).entries (product_in h j)) h.t i ≡ counts_match (said h store)

module _ (h : Region) (sound : Sound h) where
  pub counting_none : Counting h 0 0
  counting_none = record { few = omega arith; place = omega arith; sum = refl; asked = λ store. ask_all _ _ (counts_asked h sound store) }

  module _ {n i : ℕ} (c : Counting h n i) where
    module _ {beds : ℕ} (more : i < h.t) (is : beds ≡ product_in h i) where
      pub counting_wrong : ((table_in h i).entries ≡ beds → ⊥) → EntriesCounted h None
      unfolding entry_counts_right
      counting_wrong other = record {
        asked = λ store. let wrong = ask_no _ _ i more (ne_eqb _ _ (λ e. other (e ∙ sym is))) (c.asked store) in ap (λ b. b && within entry_count (entries_of (said h store).tables)) wrong;
        total = λ k e. absurd (cc);
      }

      module _ (same : (table_in h i).entries ≡ beds) where
        pub counted_small : (table_in h i).entries ≤ 65_536
        counted_small = omega (arith, product_small h sound i more)

        pub counting_next : Counting h (n + (table_in h i).entries) (i + 1)
        counting_next = record {
          few = omega (arith, c.few, counted_small);
          place = omega arith;
          sum = omega (arith, c.sum, ap (start_in h) (add-one i));
          asked = λ store. ask_yes _ _ i more (eq-eqb _ _ (same ∙ is)) (c.asked store);
        }

    pub counting_done : h.t ≤ i → {counted : Option ℕ} {fits : Bool} → counted ≡ then_some fits n → fits ≡ within entry_count n → EntriesCounted h counted
    unfolding entry_counts_right
    counting_done end {counted} {fits} is e =
        let last : i ≡ h.t = omega (arith, c.place) in
        let all : n ≡ start_in h h.t = c.sum ∙ ap (start_in h) last in
        record {
          asked = λ store.
              ap is_some is ∙ some_where fits ∙ e ∙ ap (within entry_count) (all ∙ sym (total_said h store))
              ∙ ap (λ b. b && within entry_count (entries_of (said h store).tables)) (ask_done _ _ i end (c.asked store));
          total = λ k some. that fits k (sym is ∙ some) ∙ all;
        }
      where
        some_where : (b : Bool) → is_some (then_some b n) ≡ b
        some_where true = refl
        some_where false = refl

        that : (b : Bool) (k : ℕ) → then_some b n ≡ Some k → k ≡ n
        that true k s = cc
        that false k s = absurd (cc)
