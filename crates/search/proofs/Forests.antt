-- The list of all trees: one tree after another, from the list of nobody to the list of the region.
use mathlib.Core.Path.{◌≡◌, refl, sym, ap, ◌∙◌, subst, subst⁻¹, fun_ext}
use mathlib.Core.Logic.{inl, inr}
use mathlib.Core.Bool.{true≢false, and-false}
use Prim.Native.Nat.{◌≤◌}
use native.Mathlib.Decide.{dec_lt}
use native.Mathlib.Numerals.{add-one}
use native.Mathlib.Omega.{arith}
use borrow.Author.Tests.{lt-ltb, le-ltb}
use Rattle.std.specs.Prelude.{◌+◌, ◌<◌, ◌&&◌, ◌∷◌}
use Rattle.definitions.specs.Basics.{ℕ, suc, Bool, true, false, List, [], length, get_or, replicate, eqb, ltb, below, contains, is_empty}
use Rattle.definitions.specs.Syntax.{Region}
use Rattle.lists.specs.Members.{here, here_or_there, none_in_nil}
use Rattle.lists.specs.Keep.{contains_keep}
use Rattle.lists.specs.Below.{contains_numbers}
use Rattle.ranking.specs.First.{First}
use Rattle.theorems.specs.List.{row_order}
use Rattle.theorems.specs.Accepted.{Accepted, patients_few, plans_wanted_lem}
use Rattle.patient_set.specs.Sets.{in_set, members}
use Rattle.partial_rows.specs.Sets.{Patients, Part, first, second, neither, Splits}
use Rattle.partial_rows.specs.Rows.{no_beds, empty_row, RowOf}
use Rattle.partial_rows.specs.Parts.{Apart}
use Rattle.partial_rows.specs.Trees.{roots_below, roots_none, roots_all}
use Rattle.partial_rows.specs.Whole.{tables_held_lem, none_left}
use Rattle.partial_rows.proofs.Whole.{whole_list}
use Rattle.held_region.specs.declared.Region as Code
use Rattle.held_region.specs.Meaning.{said}
use Rattle.held_region.specs.Asked.{patients_said_lem}
use Rattle.buckets.specs.Terms.{Prepared}
use Rattle.forest.specs.Trees.{RootNumbers, tree_beyond, tree_upward, tree_apart, trees_next}
use Rattle.row_sums.specs.Sums.{work_part, list_at}
use Rattle.search.specs.Lowest.{Upward}
use Rattle.search.specs.Walks.{AllPadded}
use Rattle.search.specs.Trees.{AsksStart, GivesStart, NextTree, AsksTree, GivesTree, PreparedForest, AsksForest, GivesForest}
use Rattle.bucket_words.specs.declared.PatientBucket.{PatientBucket}
use Rattle.bucket_words.specs.declared.TableTerm.{TableTerm}
use Rattle.kept_places.specs.declared.Moves.{Moves}

-- A word without patients from v on has those that it says.
word_members : (w v : ℕ) → v ≤ 32 → ((q : ℕ) → v ≤ q → in_set w q ≡ false) → contains (members w) ≡ in_set w
unfolding members
word_members w v few beyond = fun_ext (λ q. contains_keep (in_set w) (below 32) q ∙ go q (dec_lt q 32))
  where
    go : (q : ℕ) → Dec (q < 32) → (contains (below 32) q && in_set w q) ≡ in_set w q
    go q (yes h) = ap (λ b. b && in_set w q) (contains_numbers 0 32 q (omega arith) (omega arith))
    go q (no h) = let out = beyond q (omega arith) in ap (λ b. contains (below 32) q && b) out ∙ and-false (contains (below 32) q) ∙ sym out

-- The patients with roots below k.
abbrev trees_below : Region → ℕ → ℕ → Patients
trees_below r v k q = ltb q v && roots_below r k q

trees_known : (r : Region) (v k q : ℕ) → q < v → trees_below r v k q ≡ roots_below r k q
trees_known r v k q h = ap (λ b. b && roots_below r k q) (lt-ltb q v h)

trees_beyond : (r : Region) (v k q : ℕ) → v ≤ q → trees_below r v k q ≡ false
trees_beyond r v k q h = ap (λ b. b && roots_below r k q) (le-ltb q v h)

-- Of nobody there is one row.
first_nobody : (r : Region) (E : Patients) (m : ℕ) → 0 < m → ((s : ℕ) → E s ≡ false) → First row_order m (RowOf r E (no_beds r)) (empty_row r ∷ [])
first_nobody r E m some gone = record {
  sorted = (λ y k. absurd (none_in_nil k), tt);
  sound = λ {z} k. elim (here_or_there k) [ inl e ↦ (none_left r (no_beds r) E gone z).1 e | inr t ↦ absurd (none_in_nil t) ];
  short = omega arith;
  complete = λ z row. inl (here ((none_left r (no_beds r) E gone z).0 row));
}

-- Where the loop stands.
pub record Listed (store : List ℕ) (patients : List PatientBucket) (terms : List TableTerm) (roots : List ℕ) (v m size : ℕ) (now : List ℕ) (n k : ℕ) : Type 0 where
  pub count : n ≤ m
  pub long : length now ≡ size
  pub upto : k ≤ v
  pub padded : AllPadded v n (work_part 0 now)
  pub first : (r : Region) → PreparedForest r store patients terms roots v m → First row_order m (RowOf r (trees_below r v k) (no_beds r)) (list_at v n 0 now)

module _ {store : List ℕ} {patients : List PatientBucket} {terms : List TableTerm} {moves : Moves} {roots : List ℕ} {v m : ℕ} {work : List ℕ} (asks : AsksForest store patients terms moves roots v m work) where
  accepted : Accepted asks.region
  accepted = asks.forest.prepared.accepted

  few : v ≤ 32
  few = omega (arith, asks.forest.counted, patients_few asks.region accepted)

  some : 0 < m
  some = omega (arith, asks.forest.wanted, (plans_wanted_lem asks.region accepted).0)

  wanted : m ≤ 64
  wanted = omega (arith, asks.forest.wanted, (plans_wanted_lem asks.region accepted).1)

  pub forest_few : v ≤ 32
  forest_few = few

  pub asks_start : AsksStart v work
  asks_start = record { patients = few; long = asks.long }

  pub listed_start : {now : List ℕ} → GivesStart v work now → Listed store patients terms roots v m (length now) now 1 0
  listed_start gives =
      record {
        count = omega (arith, some);
        long = refl;
        upto = omega arith;
        padded = gives.padded;
        first = λ r forest.
            let nobody = first_nobody r (trees_below r v 0) m some (λ s. ap (λ b. ltb s v && b) (roots_none r s) ∙ and-false (ltb s v)) in
            let row : empty_row r ≡ record { cost = 0; beds = replicate v 0 } = ap (λ k. record { cost = 0; beds = replicate k 0 }) (sym forest.counted) in
            subst⁻¹ (First row_order m (RowOf r (trees_below r v 0) (no_beds r))) (gives.row ∙ ap (λ z. z ∷ []) (sym row)) nobody;
      }

  module _ {now : List ℕ} {n k size : ℕ} (listed : Listed store patients terms roots v m size now n k) (same_size : size ≡ length work) where
    pub listed_done : v ≤ k → GivesForest store patients terms roots v m work now n
    listed_done end =
        record {
          count = listed.count;
          long = listed.long ∙ same_size;
          list = λ r forest.
              let a = forest.prepared.accepted in
              let upto : k ≡ length r.patients = omega (arith, listed.upto, forest.counted) in
              let all : (s : ℕ) → s < length r.patients → trees_below r v k s ≡ true =
              (λ s h. trees_known r v k s (omega (arith, forest.counted)) ∙ ap (λ j. roots_below r j s) upto ∙ roots_all r a s h) in
              whole_list r (trees_below r v k) all (tables_held_lem r (trees_below r v k) a all)
              (subst (λ j. First row_order j (RowOf r (trees_below r v k) (no_beds r)) (list_at v n 0 now)) forest.wanted (listed.first r forest));
        }

    module _ (more : k < v) (w : ℕ) (is : (q : ℕ) → in_set w q ≡ (ltb q v && eqb (get_or roots q 0) k)) where
      module _ (r : Region) (forest : PreparedForest r store patients terms roots v m) where
        a : Accepted r
        a = forest.prepared.accepted

        same : contains (members w) ≡ in_set w
        same = word_members w v few (tree_beyond forest.root_numbers a forest.counted w k is)

        split : Splits (trees_below r v (suc k)) (trees_below r v k) (in_set w)
        split = trees_next forest.root_numbers a forest.counted w k is (trees_below r v (suc k)) (trees_below r v k)
            (trees_known r v (suc k)) (trees_beyond r v (suc k)) (trees_known r v k) (trees_beyond r v k)

        next_tree : NextTree r (trees_below r v (suc k)) (trees_below r v k) store patients terms v m n now w
        next_tree =
            record {
              prepared = forest.prepared;
              counted = forest.counted;
              known = subst⁻¹ (λ F. (s : ℕ) → F s ≡ true → s < length r.patients) same known;
              upward = subst⁻¹ (Upward r) same (λ t i s p e q j h. tree_upward forest.root_numbers a forest.counted w k is t i s q p j e);
              split = subst⁻¹ (Splits (trees_below r v (suc k)) (trees_below r v k)) same split;
              apart = subst⁻¹ (Apart r (trees_below r v k)) same (tree_apart forest.root_numbers a forest.counted w k is (trees_below r v k) (trees_known r v k));
              first = listed.first r forest;
            }
          where
            known : (s : ℕ) → in_set w s ≡ true → s < length r.patients
            known s e = elim (dec_lt s v) [
              | yes h ↦ omega (arith, forest.counted)
              | no h ↦ absurd (true≢false (sym e ∙ tree_beyond forest.root_numbers a forest.counted w k is s (omega arith)))
            ]

      pub asks_tree : AsksTree store patients terms moves v m n now w
      asks_tree =
          record {
            region = asks.region;
            numbered = asks.numbered;
            linked = asks.linked;
            D = trees_below asks.region v (suc k);
            E = trees_below asks.region v k;
            next_tree = next_tree asks.region asks.forest;
            few = few;
            some = some;
            wanted = wanted;
            held = listed.count;
            long = omega (arith, asks.long, listed.long, same_size);
            padded = listed.padded;
          }

      next_tree_lem : {after : List ℕ} {j : ℕ} → j ≤ m → length after ≡ length now → AllPadded v j (work_part 0 after)
          → ((r : Region) → PreparedForest r store patients terms roots v m → First row_order m (RowOf r (trees_below r v (suc k)) (no_beds r)) (list_at v j 0 after))
          → Listed store patients terms roots v m size after j (k + 1)
      next_tree_lem {after = then} {j} count long padded found =
          record {
            count = count;
            long = long ∙ listed.long;
            upto = omega arith;
            padded = padded;
            first = λ r forest. subst⁻¹ (λ i. First row_order m (RowOf r (trees_below r v i) (no_beds r)) (list_at v j 0 then)) (add-one k) (found r forest);
          }

      pub listed_tree : {after : List ℕ} {j : ℕ} → GivesTree store patients terms v m n now w after j → Listed store patients terms roots v m size after j (k + 1)
      listed_tree gives = next_tree_lem gives.count gives.long gives.padded (λ r forest. gives.first r _ _ (next_tree r forest))

      -- Nobody has k for a root.
      pub listed_none : is_empty (members w) ≡ true → Listed store patients terms roots v m size now n (k + 1)
      listed_none empty =
          next_tree_lem listed.count refl listed.padded (λ r forest.
          subst⁻¹ (λ D. First row_order m (RowOf r D (no_beds r)) (list_at v n 0 now)) (fun_ext (λ q. gone (split r forest q) (nobody r forest q))) (listed.first r forest))
        where
          none_in : (l : List ℕ) → is_empty l ≡ true → (q : ℕ) → contains l q ≡ false
          none_in [] e q = refl
          none_in (x ∷ l) e q = absurd (true≢false (sym e))

          nobody : (r : Region) → PreparedForest r store patients terms roots v m → (q : ℕ) → in_set w q ≡ false
          nobody r forest q = sym (ap (λ F. F q) (same r forest)) ∙ none_in (members w) empty q

          gone : {x y z : Bool} → Part x y z → z ≡ false → x ≡ y
          gone first e = refl
          gone second e = absurd (true≢false e)
          gone neither e = refl

-- A held region's buckets and roots.
pub forest : (h : Code.Region) (store : List ℕ) {patients : List PatientBucket} {terms : List TableTerm} {roots : List ℕ}
    → Prepared (said h store) store patients terms → RootNumbers (said h store) roots → PreparedForest (said h store) store patients terms roots h.v h.m
unfolding said
forest h store prepared root_numbers = record { prepared = prepared; root_numbers = root_numbers; counted = sym (patients_said_lem h store); wanted = refl }
