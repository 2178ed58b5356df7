-- The list of nobody, and the list with one more tree.
use mathlib.Core.Path.{◌≡◌, refl, sym, ap, ap₂, ◌∙◌, subst, subst⁻¹}
use mathlib.Core.Bool.{or-true}
use borrow.Author.Tests.{eq-eqb}
use Prim.Native.Nat.{◌≤◌}
use native.Mathlib.Decide.{dec_lt}
use native.Mathlib.Omega.{arith}
use lib.Seq.{get_or-take}
use lib.ListN.{get_or-eq_default}
use Rattle.std.specs.Prelude.{◌+◌, ◌*◌, ◌<◌, ◌||◌, ◌∷◌, ◌++◌}
use Rattle.definitions.specs.Basics.{ℕ, zero, suc, Bool, true, false, List, [], map, length, take, replicate, sum, eqb, any, contains}
use Rattle.definitions.specs.Syntax.{Region}
use Rattle.definitions.specs.Plans.{Plan, Row, bed_of}
use mathlib.Core.Logic.{inl, inr}
use Rattle.lists.specs.Members.{◌∈◌, here_or_there, none_in_nil, in_map}
use Rattle.ranking.specs.First.{First, first_iff, Sorted}
use Rattle.ranking.specs.Growing.{Grown, Ready, ready_nil}
use Rattle.ranking.specs.Combining.{Combined, Injective}
use Rattle.ranking.specs.Mapped.{sorted_back}
use Rattle.theorems.specs.List.{row_order}
use Rattle.theorems.specs.Accepted.{Accepted, beds_some, beds_few, most_total}
use Rattle.theorems.proofs.Accepted.{part_small}
use Rattle.patient_set.specs.Sets.{members}
use Rattle.patient_set.specs.Laws.{size_most}
use Rattle.partial_rows.specs.Sets.{Patients, Splits, not_both}
use Rattle.partial_rows.specs.Rows.{tables_of, no_beds, empty_row, RowOf, Position, Branch}
use Rattle.partial_rows.specs.Adding.{add_beds, add_rows}
use Rattle.partial_rows.specs.Padding.{unpadded, Padded, padded_zero, zero_bed}
use Rattle.partial_rows.specs.Beds.{no_bed, inside, outside}
use Rattle.partial_rows.specs.Contexts.{row_context}
use Rattle.partial_rows.specs.Parts.{parts_injective}
use Rattle.partial_rows.proofs.Parts.{parts_combined}
use Rattle.partial_rows.specs.Walk.{position_start, walk_finds}
use Rattle.bucket_words.specs.Words.{least_at}
use Rattle.bucket_words.specs.Kept.{Kept}
use Rattle.buckets.specs.Terms.{Fitting, least_in}
use Rattle.packed_rows.specs.declared.Row as Code
use Rattle.packed_rows.specs.Packed.{row_of, Fit}
use Rattle.packed_rows.specs.Packing.{packed_row}
use Rattle.row_list.specs.Rows.{whole_rows, rows_in, Stored}
use Rattle.row_list.specs.Laws.{rows_none, rows_more}
use Rattle.row_sums.specs.Sums as Sums
use Rattle.row_sums.specs.Sums.{work_part, whole_at, list_at}
use Rattle.row_sums.specs.Areas.{replaced, replaced_long, part_long, part_new, part_before}
use Rattle.search.specs.Lowest.{Upward}
use Rattle.search.specs.Walks.{Branching, left_in, head_row, SumsFit, Heads, BranchOf, AllPadded, Asks, Gives}
use Rattle.search.specs.Trees.{LeastSummed, AsksStart, GivesStart, NextTree, AsksTree, GivesTree}
use Rattle.search.proofs.Keeping.{kept_start, kept_places_lem}
use Rattle.search.proofs.Padded.{unpadded_keeps, row_padded, row_unpadded, sum_padded, injective_back, first_unpadded}
use Rattle.bucket_words.specs.declared.PatientBucket.{PatientBucket}
use Rattle.bucket_words.specs.declared.TableTerm.{TableTerm}
use Rattle.kept_places.specs.declared.Moves.{Moves}

pub take_zeros : (v n : ℕ) → v ≤ n → take {A = ℕ} v (replicate n 0) ≡ replicate v 0
take_zeros zero n h = refl
take_zeros (suc v) zero h = absurd (omega arith)
take_zeros (suc v) (suc n) h = ap (λ l. 0 ∷ l) (take_zeros v n (omega arith))

-- ---- the list of nobody

pub started : (v : ℕ) (work new : List ℕ) (x : Code.Row) → AsksStart v work → row_of x ≡ packed_row v 0 (replicate 32 0) → Stored 0 x (work_part 0 work) new → GivesStart v work (replaced 0 new work)
started v work new x asks packed stored = record {
  long = replaced_long 0 work new fits long;
  row = ap (map (unpadded v)) whole ∙ ap (λ (z : Row). z ∷ []) row;
  padded = λ z k. elim (here_or_there (subst (λ (l : List Row). z ∈ l) whole k)) [
    | inl e ↦ subst⁻¹ (Padded v) e (row_padded v 0 (replicate 32 0) asks.patients refl x packed)
    | inr t ↦ absurd (none_in_nil t)
  ];
}
  where
    fits : 384 ≤ length work
    fits = omega (arith, asks.long)

    long : length new ≡ 384
    long = stored.long ∙ part_long 0 work fits

    whole : whole_at 1 0 (replaced 0 new work) ≡ row_of x ∷ []
    whole = ap (whole_rows 1) (part_new 0 work new fits long) ∙ rows_more 0 new ∙ ap₂ (λ (l : List Row) (z : Row). l ++ (z ∷ [])) (rows_none new) stored.row

    row : unpadded v (row_of x) ≡ record { cost = 0; beds = replicate v 0 }
    row =
        row_unpadded v 0 (replicate 32 0) asks.patients refl x packed (λ s h. omega (arith, zero_bed 32 s))
        ∙ ap (λ (beds : List ℕ). record { cost = 0; beds = beds }) (take_zeros v 32 asks.patients)

-- ---- the head of a walk over a whole set

-- Nobody of the set is placed.
pub record Fresh (set : ℕ) (patients : List PatientBucket) (head : Branching) : Type 0 where
  pub left : head.left.0 ≡ set
  pub beds : head.plan.beds ≡ replicate 32 0
  pub len : head.plan.len ≡ 0
  pub cost : head.cost ≡ 0
  pub bound : LeastSummed patients (members set) head.bound

pub sums_fit_start : {set : ℕ} {patients : List PatientBucket} {head : Branching} → Fresh set patients head → SumsFit head
sums_fit_start {set} {head} fresh =
    record {
      beds = ap length fresh.beds;
      low = λ q. rw fresh.beds (omega (arith, zero_bed 32 q));
      placed = omega (arith, fresh.len, size_most head.left.0);
      cost = omega (arith, fresh.cost);
      bound = fresh.bound.most;
    }

module _ {r : Region} {D E : Patients} {store : List ℕ} {patients : List PatientBucket} {terms : List TableTerm} {v m n : ℕ} {work : List ℕ} {set : ℕ} (next_tree : NextTree r D E store patients terms v m n work set) (few : v ≤ 32) where
  zeros_fit : Fitting r (replicate 32 0)
  zeros_fit s h = omega (arith, zero_bed 32 s, beds_some r next_tree.prepared.accepted s h)

  -- The least numbers that the words say are those of the buckets.
  least_same : (l : List ℕ) → ((s : ℕ) → contains l s ≡ true → s < length r.patients) → sum (map (least_at patients) l) ≡ sum (map (least_in r) l)
  least_same [] known = refl
  least_same (s ∷ l) known =
      ap₂ ◌+◌ (next_tree.prepared.least s (known s (ap (λ b. b || contains l s) (eq-eqb s s refl))))
      (least_same l (λ q e. known q (ap (λ b. eqb q s || b) e ∙ or-true (eqb q s))))

  module _ {head : Branching} (fresh : Fresh set patients head) where
    fresh_row : head_row v head ≡ empty_row r
    fresh_row =
        let beds : take v head.plan.beds ≡ no_beds r = ap (take v) fresh.beds ∙ take_zeros v 32 few ∙ ap (λ k. replicate k 0) next_tree.counted in
        λ i. record { cost = fresh.cost i; beds = beds i }

    fresh_left : left_in head ≡ contains (members set)
    fresh_left = ap (λ w. contains (members w)) fresh.left

    fresh_unplaced : (s : ℕ) → bed_of head.plan.beds s ≡ 0
    fresh_unplaced s = ap (λ b. bed_of b s) fresh.beds ∙ zero_bed 32 s

    pub heads_start : Heads r store patients terms v head
    heads_start =
        record {
          prepared = next_tree.prepared;
          counted = next_tree.counted;
          few = few;
          fits = rw fresh.beds zeros_fit;
          position = subst⁻¹ (Position r (left_in head) head.plan.beds) fresh_row
              (position_start r (left_in head) head.plan.beds (subst⁻¹ (λ F. (s : ℕ) → F s ≡ true → s < length r.patients) fresh_left next_tree.known)
              (omega (arith, next_tree.counted, ap length fresh.beds)) (λ s e. fresh_unplaced s));
          upward = subst⁻¹ (Upward r) fresh_left next_tree.upward;
          bound = fresh.bound.is ∙ least_same (members set) next_tree.known ∙ ap (λ w. sum (map (least_in r) (members w))) (sym fresh.left);
        }

    -- The walk from there finds the first rows of the set.
    pub tree_first : {area now places : List ℕ} {found : ℕ} → Gives store patients terms v 0 m area head now places found → First row_order m (RowOf r (contains (members set)) (no_beds r)) (rows_in v found now)
    tree_first {area} {now} {found} gives =
        let empty : Ready row_order m (rows_in v 0 area) (BranchOf r v head) = subst⁻¹ (λ l. Ready row_order m l (BranchOf r v head)) (ap (map (unpadded v)) (rows_none area)) ready_nil in
        let grown : Grown row_order m [] (BranchOf r v head) (rows_in v found now) =
        subst (λ l. Grown row_order m l (BranchOf r v head) (rows_in v found now)) (ap (map (unpadded v)) (rows_none area)) (gives.grown r heads_start empty) in
        let branch : BranchOf r v head ≡ Branch r (contains (members set)) head.plan.beds (empty_row r) = λ i. Branch r (fresh_left i) head.plan.beds (fresh_row i) in
        let first = walk_finds r (contains (members set)) head.plan.beds (subst (λ Q. Grown row_order m [] Q (rows_in v found now)) branch grown) in
        first_iff (λ z. row_context (λ t k h s i. fresh_unplaced s ∙ sym (no_bed r s))) (λ z. row_context (λ t k h s i. no_bed r s ∙ sym (fresh_unplaced s))) first

-- ---- rows are small

module _ (r : Region) (accepted : Accepted r) (D : Patients) (placed : Plan) where
  rows_cost : (z : Row) → RowOf r D placed z → z.cost ≤ most_total
  unfolding tables_of
  rows_cost z row = part_small r accepted (any D) (add_beds placed z.beds) z.cost row.priced

  rows_bed : (z : Row) → RowOf r D placed z → (s : ℕ) → bed_of z.beds s < 16
  rows_bed z row s = go (D s) refl (dec_lt s (length r.patients))
    where
      go : (b : Bool) → D s ≡ b → Dec (s < length r.patients) → bed_of z.beds s < 16
      go false e d = omega (arith, outside row.fits s e)
      go true e (yes h) = omega (arith, inside row.fits s h e, beds_few r accepted s h)
      go true e (no h) =
          let past : length z.beds ≤ s = omega (arith, row.fits.long) in
          let none_there : bed_of z.beds s ≡ 0 = get_or-eq_default z.beds 0 past in
          omega arith

-- The sum of rows of two parts fits, since one of each two beds is 0.
sum_fits : (r : Region) → Accepted r → {D E F : Patients} → Splits D E F → (placed : Plan) (v : ℕ) (x y : Row) → Padded v x → Padded v y → RowOf r E placed (unpadded v x) → RowOf r F placed (unpadded v y)
    → Fit x y
sum_fits r accepted {D} {E} {F} split placed v x y p q one two = record {
  cost = omega (arith, rows_cost r accepted E placed (unpadded v x) one, rows_cost r accepted F placed (unpadded v y) two);
  beds = λ s. elim (dec_lt s v) [ yes h ↦ known s h (E s) refl | no h ↦ omega (arith, padded_zero v x s p (omega arith), padded_zero v y s q (omega arith)) ];
}
  where
    known : (s : ℕ) → s < v → (b : Bool) → E s ≡ b → bed_of x.beds s + bed_of y.beds s < 16
    known s h true e = omega (arith, get_or-take v x.beds s 0 h, get_or-take v y.beds s 0 h, rows_bed r accepted E placed (unpadded v x) one s, outside two.fits s (not_both split s e))
    known s h false e = omega (arith, get_or-take v x.beds s 0 h, get_or-take v y.beds s 0 h, outside one.fits s e, rows_bed r accepted F placed (unpadded v y) two s)

-- ---- one more tree

module _ {store : List ℕ} {patients : List PatientBucket} {terms : List TableTerm} {moves : Moves} {v m n : ℕ} {work : List ℕ} {set : ℕ} (asks : AsksTree store patients terms moves v m n work set) {head : Branching} (fresh : Fresh set patients head) where
  pub asks_walk : Asks store patients terms moves v 0 m (work_part 1 work) (replicate 64 0) head
  asks_walk =
      record {
        region = asks.region;
        heads = heads;
        numbered = asks.numbered;
        sums_fit = sums_fit_start fresh;
        linked = asks.linked;
        kept = kept;
        places_kept =
            kept_places_lem heads.prepared.accepted asks.numbered kept (omega (arith, heads.counted, heads.few, ap length fresh.beds)) heads.upward heads.position.unplaced;
        room = record {
          held = omega arith;
          wanted = asks.wanted;
          some = asks.some;
          long = omega (arith, part_long 1 work (omega (arith, asks.long)));
        };
        padded = λ z k. absurd (none_in_nil (subst (λ (l : List Row). z ∈ l) (rows_none (work_part 1 work)) k));
      }
    where
      heads : Heads asks.region store patients terms v head
      heads = heads_start asks.next_tree asks.few fresh

      kept : Kept terms head.plan.beds (replicate 64 0)
      kept = subst⁻¹ (λ beds. Kept terms beds (replicate 64 0)) fresh.beds (kept_start terms)

  module _ {new places : List ℕ} {found : ℕ} (gives : Gives store patients terms v 0 m (work_part 1 work) head new places found) where
    fits : 1 * 384 + 384 ≤ length work
    fits = omega (arith, asks.long)

    long : length new ≡ 384
    long = gives.long ∙ part_long 1 work fits

    abbrev walked : List ℕ
    walked = replaced 384 new work

    next_part : work_part 1 walked ≡ new
    next_part = part_new 1 work new fits long

    part_kept : work_part 0 walked ≡ work_part 0 work
    part_kept = part_before 1 work new fits long 0 (omega arith)

    -- The rows of both lists have bed 0 from patient v on.
    first_padded : (x : Row) → x ∈ whole_at n 0 walked → Padded v x
    first_padded = subst⁻¹ (AllPadded v n) part_kept asks.padded

    second_padded : (y : Row) → y ∈ whole_at found 1 walked → Padded v y
    second_padded = subst⁻¹ (AllPadded v found) next_part gives.padded

    -- And they are the first rows of their parts.
    module _ (r : Region) {D E : Patients} (next_tree : NextTree r D E store patients terms v m n work set) where
      one : First row_order m (RowOf r E (no_beds r)) (list_at v n 0 walked)
      one = subst⁻¹ (λ (p : List ℕ). First row_order m (RowOf r E (no_beds r)) (rows_in v n p)) part_kept next_tree.first

      two : First row_order m (RowOf r (contains (members set)) (no_beds r)) (list_at v found 1 walked)
      two = subst⁻¹ (λ (p : List ℕ). First row_order m (RowOf r (contains (members set)) (no_beds r)) (rows_in v found p)) next_part (tree_first next_tree asks.few fresh gives)

      module _ {after : List ℕ} {k : ℕ} (sums : Sums.Gives m n found walked after k) where
        shows : Injective add_rows (λ x. x ∈ list_at v n 0 walked) (λ y. y ∈ list_at v found 1 walked)
        shows a x b y i j p q = parts_injective r next_tree.split next_tree.apart (no_beds r) a x b y (one.sound i) (one.sound j) (two.sound p) (two.sound q)

        whole_first : First row_order m (Combined add_rows (λ x. x ∈ whole_at n 0 walked) (λ y. y ∈ whole_at found 1 walked)) (whole_at k 0 after)
        whole_first =
            sums.first (in_order_lem (whole_at n 0 walked) first_padded one.sorted) (in_order_lem (whole_at found 1 walked) second_padded two.sorted)
            (injective_back v asks.few (whole_at n 0 walked) (whole_at found 1 walked) first_padded second_padded shows)
          where
            in_order_lem : (l : List Row) → ((z : Row) → z ∈ l → Padded v z) → Sorted row_order (map (unpadded v) l) → Sorted row_order l
            in_order_lem = sorted_back row_order row_order (unpadded v) (Padded v) (unpadded_keeps v asks.few)

        both_first : First row_order m (RowOf r D (no_beds r)) (list_at v k 0 after)
        both_first =
            parts_combined r next_tree.split next_tree.apart (no_beds r) (omega arith) (omega arith) one two
            (first_unpadded v asks.few (whole_at n 0 walked) (whole_at found 1 walked) first_padded second_padded whole_first)

    pub asks_combine : Sums.Asks m n found walked
    asks_combine =
        record {
          some = asks.some;
          wanted = asks.wanted;
          first = asks.held;
          second = gives.count;
          long = omega (arith, asks.long, replaced_long 1 work new fits long);
          fits = λ x y i j.
              sum_fits asks.region asks.next_tree.prepared.accepted asks.next_tree.split (no_beds asks.region) v x y (first_padded x i) (second_padded y j)
              ((one asks.region asks.next_tree).sound (in_map (unpadded v) i)) ((two asks.region asks.next_tree).sound (in_map (unpadded v) j));
        }

    pub tree_added : {after : List ℕ} {k : ℕ} → Sums.Gives m n found walked after k → GivesTree store patients terms v m n work set after k
    tree_added sums =
        record {
          count = sums.count;
          long = sums.long ∙ replaced_long 1 work new fits long;
          padded = λ z i.
              sum_padded v asks.few (whole_at n 0 walked) (whole_at found 1 walked) first_padded second_padded z ((whole_first asks.region asks.next_tree sums).sound i);
          first = λ r D E next_tree. both_first r next_tree sums;
        }
