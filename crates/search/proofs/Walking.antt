-- The walk's loop over the permitted beds of the lowest patient left.
use mathlib.Core.Path.{◌≡◌, refl, sym, ap, ◌∙◌, subst, subst⁻¹}
use mathlib.Core.Bool.{true≢false, false≢true}
use Prim.Native.Nat.{◌≤◌}
use native.Mathlib.Numerals.{add-one}
use native.Mathlib.Omega.{arith}
use lib.ListN.{set, drop, length-set}
use lib.Seq.{get_or-set_same}
use borrow.Author.Tests.{eqb-true, not-true, not-false}
use Rattle.std.specs.Prelude.{◌+◌, ◌-◌, ◌<◌, ◌∷◌}
use Rattle.definitions.specs.Basics.{ℕ, suc, Ordering, Bool, true, false, not, none, some, List, [], length, take, eqb, is_empty, insert, contains}
use Rattle.definitions.specs.Syntax.{Region, patient_at}
use Rattle.definitions.specs.Plans.{Row, cost_over, compare_rows}
use Rattle.ranking.specs.Orders.{View, before, equal, after}
use Rattle.ranking.specs.Growing.{Grown, Ready}
use Rattle.ranking.specs.Rising.{sorted_rising}
use Rattle.lists.specs.Tests.{both}
use Rattle.theorems.specs.List.{row_order}
use Rattle.theorems.specs.Accepted.{beds_few}
use Rattle.patient_set.specs.Sets.{first}
use Rattle.partial_rows.specs.Sets.{only, Splits}
use Rattle.partial_rows.specs.Rows.{Branch, decided_tables, with_bed}
use Rattle.partial_rows.specs.Padding.{unpadded, Padded}
use Rattle.partial_rows.specs.Walk.{BranchBelow, walk_leaf, walk_cut}
use Rattle.partial_rows.proofs.Walk.{walk_none, ready_bed, walk_bed, walk_skip, walk_all}
use Rattle.bucket_words.specs.Words.{first_bed_at, bed_end_at}
use Rattle.bucket_words.specs.Kept.{Kept}
use Rattle.kept_places.specs.Beds.{low_set}
use Rattle.kept_places.specs.Moves.{AsksMove, GivesMove}
use Rattle.buckets.specs.Permitted.{permitted_some, permitted_most}
use Rattle.packed_rows.specs.declared.Row as Code
use Rattle.packed_rows.specs.Packed.{row_of, is_before}
use Rattle.packed_rows.specs.Packing.{packed_row}
use Rattle.row_list.specs.Rows.{row_in, rows_in, Room, Inserted}
use Rattle.row_list.specs.Laws.{unpadded_long, unpadded_at}
use Rattle.search.specs.Walks.{Branching, remaining, left_in, head_row, SumsFit, Heads, BranchOf, AsksNext, Below, Decides, AllPadded, is_past, AsksCut, Asks, Gives}
use Rattle.search.proofs.Steps.{known, few, without_bed, inside_beds, not_before_first, not_from_end, split, decided, asks_few, asks_room, below_split, row_below, sums_fit_below, heads_below, bound_holds}
use Rattle.search.proofs.Keeping.{kept_none, kept_again, kept_left, kept_places_lem}
use Rattle.search.proofs.Padded.{row_padded, row_unpadded, inserted_unpadded, inserted_padded}
use Rattle.bucket_words.specs.declared.PatientBucket.{PatientBucket}
use Rattle.bucket_words.specs.declared.TableTerm.{TableTerm}
use Rattle.kept_places.specs.declared.Moves.{Moves}

-- A row that is not before another.
not_before_lem : (v w : Row) → is_before (compare_rows v w) ≡ false → row_order.Lt v w → ⊥
not_before_lem v w e h = go (row_order.view v w) e
  where
    go : {o : Ordering} → View row_order.Lt v w o → is_before o ≡ false → ⊥
    go (before k) f = true≢false f
    go (equal k) f = row_order.irrefl {x = w} (rw k at h)
    go (after k) f = row_order.irrefl {x = v} (row_order.trans {x = v} {y = w} {z = v} h k)

-- Where the loop stands: the list has grown by the rows whose bed for s is below the next one.
pub record Sofar (store : List ℕ) (patients : List PatientBucket) (terms : List TableTerm) (v n m : ℕ) (area : List ℕ) (head : Branching) (s first end : ℕ) (now places : List ℕ) (found counted bed : ℕ) : Type 0 where
  pub others : List ℕ
  pub lowest : remaining head ≡ s ∷ others
  pub firsts : first ≡ first_bed_at patients s
  pub ends : end ≡ bed_end_at patients s
  pub begun : first ≤ bed
  pub bed_most : bed ≤ end
  pub counted_before : counted ≤ bed
  pub counted_low : counted < 16
  pub kept : Kept terms (set head.plan.beds s counted) places
  pub few : found ≤ m
  pub long : length now ≡ length area
  pub padded : AllPadded v found now
  pub grown : (r : Region) → Heads r store patients terms v head → Ready row_order m (rows_in v n area) (BranchOf r v head)
      → Grown row_order m (rows_in v n area) (BranchBelow r (left_in head) head.plan.beds (head_row v head) s bed) (rows_in v found now)

module _ {store : List ℕ} {patients : List PatientBucket} {terms : List TableTerm} {moves : Moves} {v n m : ℕ} {area lent : List ℕ} {head : Branching} where
  -- Nobody is left: the row of the head is inserted.
  pub walk_end : Asks store patients terms moves v n m area lent head → {found : ℕ} {now : List ℕ} (x : Code.Row) → is_empty (remaining head) ≡ true
      → row_of x ≡ packed_row v head.cost head.plan.beds → Inserted n m x area now found → Gives store patients terms v n m area head now lent found
  walk_end asks {found} {now} x nobody packed ins =
      record {
        count = ins.count;
        kept = asks.kept;
        long = ins.long;
        padded = inserted_padded v n m area few asks.padded x row ins;
        grown = λ r heads ready.
            let rows = inserted_unpadded v n m area few asks.padded x row ins (sorted_rising row_order (rows_in v n area) ready.sorted) ∙ ap (λ (z : Row). take m (insert compare_rows z (rows_in v n area))) is in
            rw rows (walk_leaf r (left_in head) head.plan.beds (head_row v head) ready (gone (remaining head) nobody) heads.position.long);
      }
    where
      gone : (l : List ℕ) → is_empty l ≡ true → (s : ℕ) → contains l s ≡ false
      gone [] e s = refl
      gone (x ∷ l) e s = absurd (false≢true e)

      few : v ≤ 32
      few = asks.heads.few

      row : Padded v (row_of x)
      row = row_padded v head.cost head.plan.beds few asks.sums_fit.beds x packed

      is : unpadded v (row_of x) ≡ head_row v head
      is = row_unpadded v head.cost head.plan.beds few asks.sums_fit.beds x packed (λ q h. asks.sums_fit.low q)

  module _ (asks : Asks store patients terms moves v n m area lent head) {s : ℕ} where
    pub sofar_start : {first end : ℕ} (others : List ℕ) → remaining head ≡ s ∷ others → first ≡ first_bed_at patients s → end ≡ bed_end_at patients s
        → Sofar store patients terms v n m area head s first end area lent n 0 first
    sofar_start {first} {end} others lowest firsts ends =
        record {
          others = others;
          lowest = lowest;
          firsts = firsts;
          ends = ends;
          begun = omega arith;
          bed_most = permitted asks.region asks.heads;
          counted_before = omega arith;
          counted_low = omega arith;
          kept = kept_none head.plan.beds s (without_bed asks.heads lowest) asks.kept;
          few = asks.room.held;
          long = refl;
          padded = asks.padded;
          grown = λ r heads ready. walk_none s (split_of r heads) heads.position ready first (λ b l h. not_before_first heads lowest asks.sums_fit b h firsts l);
        }
      where
        permitted : (r : Region) (heads : Heads r store patients terms v head) → first ≤ end
        permitted r heads = omega (arith, firsts, ends, heads.prepared.first_bed s (known heads lowest), heads.prepared.bed_end s (known heads lowest), permitted_some r heads.prepared.accepted s (known heads lowest))

        split_of : (r : Region) (heads : Heads r store patients terms v head) → Splits (left_in head) (only s) (contains others)
        split_of r heads = split heads lowest

  module _ (asks : Asks store patients terms moves v n m area lent head) {s first end : ℕ} {now places : List ℕ} {found counted bed : ℕ} (sofar : Sofar store patients terms v n m area head s first end now places found counted bed) where
    -- A patient's bed changes in the places, for another one below the count or for bed 0.
    pub asks_move : {bed : ℕ} → bed < 16 → AsksMove moves s counted bed places
    asks_move small =
        let heads = asks.heads in
        let beds = head.plan.beds in
        let inside = inside_beds heads sofar.lowest asks.sums_fit in
        record {
          terms = terms;
          t = _;
          beds = set beds s counted;
          bounded = asks.numbered.bounded;
          linked = asks.linked;
          kept = sofar.kept;
          few = few heads sofar.lowest;
          long = length-set beds s counted ∙ asks.sums_fit.beds;
          low = low_set beds s counted sofar.counted_low asks.sums_fit.low;
          was = get_or-set_same beds s counted 0 inside;
          small = small;
        }

    moved : {bed : ℕ} {after : List ℕ} → GivesMove moves s counted bed places after → Kept terms (set (set head.plan.beds s counted) s bed) after
    moved gives =
        let beds = head.plan.beds in
        let inside = inside_beds asks.heads sofar.lowest asks.sums_fit in
        gives terms (set beds s counted) asks.linked sofar.kept (omega (arith, inside, length-set beds s counted)) (get_or-set_same beds s counted 0 inside)

    -- At the end all beds were tried, and the patient is left.
    pub sofar_done : end ≤ bed → {after : List ℕ} → GivesMove moves s counted 0 places after → Gives store patients terms v n m area head now after found
    sofar_done past gives =
        record {
          count = sofar.few;
          kept = kept_left head.plan.beds s counted (without_bed asks.heads sofar.lowest) (moved gives);
          long = sofar.long;
          padded = sofar.padded;
          grown = λ r heads ready.
              let all : bed ≡ end = omega (arith, sofar.bed_most) in
              walk_all s (split heads sofar.lowest) heads.position ready end (λ b l h. not_from_end heads sofar.lowest asks.sums_fit b h sofar.ends l)
              (subst (λ b. Grown row_order m (rows_in v n area) (BranchBelow r (left_in head) head.plan.beds (head_row v head) s b) (rows_in v found now)) all (sofar.grown r heads ready));
        }

    pub room_now : Room found m now
    room_now =
        let room = asks.room in
        record { held = sofar.few; wanted = room.wanted; some = room.some; long = omega (arith, room.long, sofar.long) }

    module _ (more : bed < end) where
      fits : (r : Region) → Heads r store patients terms v head → bed < (patient_at r s).bed_count
      fits r heads =
          let here = known heads sofar.lowest in
          omega (arith, sofar.ends, heads.prepared.bed_end s here, permitted_most r heads.prepared.accepted s here)

      pub bed_small : bed < 16
      bed_small = omega (arith, fits asks.region asks.heads, beds_few asks.region asks.heads.prepared.accepted s (known asks.heads sofar.lowest))

      pub asks_next : AsksNext store patients terms head s bed
      asks_next =
          record {
            region = asks.region;
            v = v;
            heads = asks.heads;
            sums_fit = asks.sums_fit;
            others = sofar.others;
            lowest = sofar.lowest;
            fits = fits asks.region asks.heads;
          }

      pub asks_cut : AsksCut v found m now head.plan s bed
      asks_cut =
          record {
            patients = asks.heads.few;
            room = room_now;
            padded = sofar.padded;
            few = asks_few asks_next;
            not_all = asks_room asks_next;
            long = asks.sums_fit.beds;
            low = λ q h. low_set head.plan.beds s bed bed_small asks.sums_fit.low q;
          }

      -- One more bed, however the list grew by its rows.
      next_bed : {after keeps : List ℕ} {grows counts : ℕ} → grows ≤ m → counts ≤ bed → counts < 16 → Kept terms (set head.plan.beds s counts) keeps → length after ≡ length now → AllPadded v grows after
          → ((r : Region) (heads : Heads r store patients terms v head) → Ready row_order m (rows_in v n area) (BranchOf r v head)
          → Grown row_order m (rows_in v n area) (BranchBelow r (left_in head) head.plan.beds (head_row v head) s (suc bed)) (rows_in v grows after))
          → Sofar store patients terms v n m area head s first end after keeps grows counts (bed + 1)
      next_bed {after} {grows} count passed low keep long padded grown =
          record {
            others = sofar.others;
            lowest = sofar.lowest;
            firsts = sofar.firsts;
            ends = sofar.ends;
            begun = omega (arith, sofar.begun);
            bed_most = omega arith;
            counted_before = omega arith;
            counted_low = low;
            kept = keep;
            few = count;
            long = long ∙ sofar.long;
            padded = padded;
            grown = λ r heads ready.
                subst⁻¹ (λ b. Grown row_order m (rows_in v n area) (BranchBelow r (left_in head) head.plan.beds (head_row v head) s b) (rows_in v grows after)) (add-one bed) (grown r heads ready);
          }

      -- A forbidden bed.
      pub sofar_skip : Decides store patients terms head s bed none → Sofar store patients terms v n m area head s first end now places found counted (bed + 1)
      sofar_skip decides =
          next_bed sofar.few sofar.counted_before sofar.counted_low sofar.kept refl sofar.padded (λ r heads ready.
          walk_skip s (split heads sofar.lowest) heads.position ready
          (ap (λ l. cost_over l r (set head.plan.beds s bed)) (decided heads sofar.lowest) ∙ decides r v heads (fits r heads)) (sofar.grown r heads ready))

      -- A bed with a head below it.
      module _ {c : ℕ} {below : Branching} (is : Below patients head s bed c below) (decides : Decides store patients terms head s bed (some c)) where
        pub asks_below : {after : List ℕ} → GivesMove moves s counted bed places after → Asks store patients terms moves v found m now after below
        asks_below {after = then} gives =
            record {
              region = asks.region;
              heads = heads;
              numbered = asks.numbered;
              sums_fit = sums_fit;
              room = room_now;
              padded = sofar.padded;
              linked = asks.linked;
              kept = kept;
              places_kept = kept_places_lem heads.prepared.accepted asks.numbered kept (omega (arith, heads.counted, heads.few, sums_fit.beds)) heads.upward heads.position.unplaced;
            }
          where
            heads : Heads asks.region store patients terms v below
            heads = heads_below is asks.heads asks.sums_fit (fits asks.region asks.heads)

            sums_fit : SumsFit below
            sums_fit = sums_fit_below is bed_small asks.sums_fit

            kept : Kept terms below.plan.beds then
            kept = subst⁻¹ (λ l. Kept terms l then) is.beds (kept_again head.plan.beds s counted bed (moved gives))

        module _ (r : Region) (heads : Heads r store patients terms v head) (ready : Ready row_order m (rows_in v n area) (BranchOf r v head)) where
          priced : cost_over (decided_tables r (only s) (left_in below)) r (set head.plan.beds s bed) ≡ some c
          priced = ap (λ l. cost_over l r (set head.plan.beds s bed)) (decided heads is.left) ∙ decides r v heads (fits r heads)

          branch : BranchOf r v below ≡ Branch r (left_in below) (set head.plan.beds s bed) (with_bed (head_row v head) s bed c)
          branch = λ i. Branch r (left_in below) (is.beds i) (row_below is heads i)

          ready_below : Ready row_order m (rows_in v found now) (BranchOf r v below)
          ready_below = subst⁻¹ (Ready row_order m (rows_in v found now)) branch
              (ready_bed s (below_split is heads) heads.position ready (fits r heads) priced (sofar.grown r heads ready))

          grown_below : (then : List ℕ) (grows : ℕ) → Grown row_order m (rows_in v found now) (BranchOf r v below) (rows_in v grows then)
              → Grown row_order m (rows_in v n area) (BranchBelow r (left_in head) head.plan.beds (head_row v head) s (suc bed)) (rows_in v grows then)
          grown_below then grows g = walk_bed s (below_split is heads) heads.position ready (fits r heads) priced (sofar.grown r heads ready)
              (subst (λ Q. Grown row_order m (rows_in v found now) Q (rows_in v grows then)) branch g)

        pub sofar_walk : {after keeps : List ℕ} {grows : ℕ} → Gives store patients terms v found m now below after keeps grows
            → Sofar store patients terms v n m area head s first end after keeps grows bed (bed + 1)
        sofar_walk {after = then} {keeps} {grows} gives =
            next_bed gives.count (omega arith) bed_small (subst (λ l. Kept terms l keeps) is.beds gives.kept) gives.long gives.padded (λ r heads ready.
            grown_below r heads ready then grows (gives.grown r (heads_below is heads asks.sums_fit (fits r heads)) (ready_below r heads ready)))

        pub sofar_cut : {r : Bool} → r ≡ is_past v found m now (below.cost + below.bound) below.plan.beds → not r ≡ false
            → Sofar store patients terms v n m area head s first end now places found counted (bed + 1)
        unfolding is_past
        sofar_cut {r} past gone =
            let parts = both (eqb found m) (sym past ∙ not-false r gone) in
            let full : found ≡ m = eqb-true found m parts.0 in
            let d : Row = record { cost = 0; beds = [] } in
            let best : Row = record { cost = below.cost + below.bound; beds = take v below.plan.beds } in
            let last = unpadded_at v found now (m - 1) d (omega (arith, asks.room.some)) in
            next_bed sofar.few sofar.counted_before sofar.counted_low sofar.kept refl sofar.padded (λ r heads ready.
            grown_below r heads ready now found
            (walk_cut r (left_in below) below.plan.beds (head_row v below) (ready_below r heads ready) (m - 1) below.bound d (omega (arith, asks.room.some)) (unpadded_long v found now ∙ full)
            (bound_holds (heads_below is heads asks.sums_fit (fits r heads)))
            (λ lt. not_before_lem best (row_in v now (m - 1)) (not-true _ parts.1) (subst⁻¹ (row_order.Lt best) last lt))))

-- The lowest of those who are left, and the others.
pub lowest_first : (l : List ℕ) (s : ℕ) → is_empty l ≡ false → s ≡ first 32 l → l ≡ s ∷ drop 1 l
lowest_first [] s e f = absurd (true≢false e)
lowest_first (x ∷ l) s e f = ap (λ y. y ∷ l) (sym f)
