-- A patient's moves made one after the other: each place is halfway from the old beds to the new.
use mathlib.Core.Path.{◌≡◌, refl, sym, ap, subst⁻¹, ◌∙◌}
use Prim.Native.Nat.{◌≤◌}
use native.Mathlib.Decide.{dec_lt, ℕ_discrete}
use native.Mathlib.Nat.{mul-le-mul}
use native.Mathlib.Omega.{arith}
use lib.ListN.{set, length-set}
use lib.Seq.{get_or-set_same, get_or-set_other}
use borrow.Author.Tests.{eqb-false, lt-ltb, le-ltb}
use Rattle.std.specs.Prelude.{◌+◌, ◌-◌, ◌*◌, ◌<◌}
use Rattle.definitions.specs.Basics.{ℕ, zero, suc, Bool, true, false, cond, List, map, length, get_or, eqb, ltb, below, sum}
use Rattle.definitions.specs.Plans.{bed_of}
use Rattle.bucket_words.specs.declared.TableTerm.{TableTerm}
use Rattle.kept_places.specs.declared.Moves.{Moves}
use Rattle.bucket_words.specs.Words.{member_at}
use Rattle.bucket_words.specs.Kept.{low_stride, kept_at, Kept}
use Rattle.kept_places.specs.Beds.{low_set}
use Rattle.kept_places.specs.Moves.{move_at, term_in, stride_in, next_in, stride_for, MoveOf, Leads, Says, Linked, AsksMove, GivesMove}
use Rattle.kept_places.proofs.Strides.{low_within}

-- ---- sums over the three members

abbrev total : (ℕ → ℕ) → ℕ
total f = sum (map f (below 3))

module _ (f g : ℕ → ℕ) where
  total_same : ((j : ℕ) → j < 3 → f j ≡ g j) → total f ≡ total g
  total_same same = omega (arith, same 0 (omega arith), same 1 (omega arith), same 2 (omega arith))

  total_changed : (i : ℕ) → i < 3 → ((j : ℕ) → j < 3 → (j ≡ i → ⊥) → f j ≡ g j) → total f + g i ≡ total g + f i
  total_changed zero h same = omega (arith, same 1 (omega arith) (λ e. omega arith), same 2 (omega arith) (λ e. omega arith))
  total_changed (suc zero) h same = omega (arith, same 0 (omega arith) (λ e. omega arith), same 2 (omega arith) (λ e. omega arith))
  total_changed (suc (suc zero)) h same = omega (arith, same 0 (omega arith) (λ e. omega arith), same 1 (omega arith) (λ e. omega arith))
  total_changed (suc (suc (suc i))) h same = absurd (omega arith)

total_most : (f : ℕ → ℕ) (most : ℕ) → ((j : ℕ) → j < 3 → f j ≤ most) → total f ≤ 3 * most
total_most f most few = omega (arith, few 0 (omega arith), few 1 (omega arith), few 2 (omega arith))

-- ---- halfway from the old beds to the new

-- What a member makes of its term's place.
abbrev part : List TableTerm → List ℕ → ℕ → ℕ → ℕ
part terms beds k j = bed_of beds (member_at terms k j) * low_stride terms k j

-- The same while a bed changes: the moves below a place are made.
abbrev part_at : List TableTerm → List ℕ → List ℕ → ℕ → ℕ → ℕ → ℕ
part_at terms beds after low k j = part terms (cond (ltb (move_at k j) low) after beds) k j

-- A term's place, from its three parts.
abbrev pub half_at : List TableTerm → List ℕ → List ℕ → ℕ → ℕ → ℕ
half_at terms beds after low k = total (part_at terms beds after low k)

part_most : {bed stride : ℕ} → bed < 16 → stride ≤ 4096 → bed * stride ≤ 61440
part_most few near = mul-le-mul {n₂ = 15} {m₂ = 4096} (omega arith) near

module _ (terms : List TableTerm) (beds after : List ℕ) (k j : ℕ) where
  part_before : {low : ℕ} → low ≤ move_at k j → part_at terms beds after low k j ≡ part terms beds k j
  part_before {low} h = ap (λ made. part terms (cond made after beds) k j) (le-ltb (move_at k j) low h)

  part_after : {low : ℕ} → move_at k j < low → part_at terms beds after low k j ≡ part terms after k j
  part_after {low} h = ap (λ made. part terms (cond made after beds) k j) (lt-ltb (move_at k j) low h)

module _ (terms : List TableTerm) (beds : List ℕ) (s new : ℕ) where
  abbrev changed : List ℕ
  changed = set beds s new

  part_still : (k j : ℕ) → stride_for terms s k j ≡ 0 → part terms changed k j ≡ part terms beds k j
  part_still k j still = by_test (eqb (member_at terms k j) s) refl
    where
      by_test : (same : Bool) → eqb (member_at terms k j) s ≡ same → part terms changed k j ≡ part terms beds k j
      by_test true e = (let none : low_stride terms k j ≡ 0 = rw e at still in rw none (omega arith))
      by_test false e = ap (λ bed. bed * low_stride terms k j) (get_or-set_other beds s (member_at terms k j) new 0 (eqb-false (member_at terms k j) s e))

  -- A member that has no move at this place stays as it is.
  part_same : {low at : ℕ} → Leads terms s low at → (k j : ℕ) → k < 64 → j < 3 → (move_at k j ≡ at → ⊥)
      → part_at terms beds changed (suc at) k j ≡ part_at terms beds changed low k j
  part_same {low} {at} leads k j few slot other = elim (dec_lt (move_at k j) low) [
    | yes t ↦ part_after terms beds changed k j (omega (arith, leads.behind)) ∙ sym (part_after terms beds changed k j t)
    | no t ↦ elim (dec_lt (move_at k j) at) [
      | yes u ↦ part_after terms beds changed k j (omega arith) ∙ part_still k j (leads.passed k j few slot (omega arith) u) ∙ sym (part_before terms beds changed k j (omega arith))
      | no u ↦ part_before terms beds changed k j (omega arith) ∙ sym (part_before terms beds changed k j (omega arith))
    ]
  ]

  kept_before : (k : ℕ) → kept_at terms k beds ≡ half_at terms beds changed 0 k
  unfolding kept_at
  kept_before k = total_same (part terms beds k) (part_at terms beds changed 0 k) (λ j h. sym (part_before terms beds changed k j (omega arith)))

  kept_after : {low at : ℕ} → Leads terms s low at → 192 ≤ at → (k : ℕ) → k < 64 → half_at terms beds changed low k ≡ kept_at terms k changed
  unfolding kept_at
  kept_after {low} leads past k h =
      total_same (part_at terms beds changed low k) (part terms changed k)
      (λ j l. sym (part_same leads k j h l (λ e. omega arith)) ∙ part_after terms beds changed k j (omega arith))

-- ---- one move made

-- Where the walk over the moves of s stands: those below some place are made, and one is next.
pub record Stands (terms : List TableTerm) (beds : List ℕ) (s new : ℕ) (places : List ℕ) (at : ℕ) : Type 0 where
  pub low : ℕ
  pub leads : Leads terms s low at
  pub each : (k : ℕ) → k < 64 → get_or places k 0 ≡ half_at terms beds (set beds s new) low k

-- The loop stands so for all beds that its places were kept for.
pub record Halfway (moves : Moves) (s old new : ℕ) (before places : List ℕ) (at : ℕ) : Type 0 where
  pub long : length places ≡ 64
  pub stands : (terms : List TableTerm) (beds : List ℕ) → Linked terms 0 moves → Kept terms beds before → s < length beds → bed_of beds s ≡ old → Stands terms beds s new places at

-- A move can be made: what the loop reads stays in its bounds, with beds up to 15 and strides up to 4096.
pub record Makes (moves : Moves) (places : List ℕ) (old new at : ℕ) : Type 0 where
  pub inside : at < 192
  pub term : term_in moves at < 64
  pub near : stride_in moves at ≤ 4096
  pub next : at < next_in moves at
  pub last : next_in moves at ≤ 192
  pub old_most : stride_in moves at * old ≤ 61440
  pub new_most : stride_in moves at * new ≤ 61440
  pub place_most : get_or places (term_in moves at) 0 ≤ 184320
  pub enough : stride_in moves at * old ≤ get_or places (term_in moves at) 0 + stride_in moves at * new

module _ {terms : List TableTerm} {beds : List ℕ} {moves : Moves} {places : List ℕ} {s old new at : ℕ} (linked : Linked terms 0 moves) (inside : s < length beds) (was : bed_of beds s ≡ old)
    (stands : Stands terms beds s new places at) (more : at < 192) where
  abbrev move : MoveOf terms s at
  move = stands.leads.found more

  abbrev k : ℕ
  k = move.term

  abbrev j : ℕ
  j = move.slot

  abbrev after : List ℕ
  after = set beds s new

  says : Says terms moves k j
  says = linked.each k j move.term_few move.slot_few (omega arith) move.moves

  is_term : term_in moves at ≡ k
  is_term = ap (term_in moves) move.here ∙ says.term

  is_stride_lem : stride_in moves at ≡ low_stride terms k j
  is_stride_lem = ap (stride_in moves) move.here ∙ says.stride

  next_leads : Leads terms s (suc at) (next_in moves at)
  next_leads = subst⁻¹ (λ p. Leads terms s (suc p) (next_in moves p)) move.here (rw move.member at says.next)

  -- The part of the member that moves.
  part_is : (bed : ℕ) (plan : List ℕ) → bed_of plan s ≡ bed → part terms plan k j ≡ stride_in moves at * bed
  part_is bed plan is = rw (move.member, is, is_stride_lem) (omega arith)

  other_part : (i m : ℕ) → i < 64 → m < 3 → (move_at i m ≡ move_at k j → ⊥) → part_at terms beds after (suc at) i m ≡ part_at terms beds after stands.low i m
  other_part i m few slot other = part_same terms beds s new stands.leads i m few slot (λ e. other (e ∙ move.here))

  moved : half_at terms beds after (suc at) k + stride_in moves at * old ≡ half_at terms beds after stands.low k + stride_in moves at * new
  moved =
      let behind : stands.low ≤ move_at k j = omega (arith, move.here, stands.leads.behind) in
      let made : move_at k j < suc at = omega (arith, move.here) in
      let old_part = part_before terms beds after k j behind ∙ part_is old beds was in
      let new_part = part_after terms beds after k j made ∙ part_is new after (get_or-set_same beds s new 0 inside) in
      rw (old_part, new_part) at (total_changed (part_at terms beds after (suc at) k) (part_at terms beds after stands.low k) j move.slot_few
      (λ m h other. other_part k m move.term_few h (λ e. omega (arith, other))))

  place_here : get_or places (term_in moves at) 0 ≡ half_at terms beds after stands.low k
  place_here = ap (λ i. get_or places i 0) is_term ∙ stands.each k move.term_few

  pub makes : old < 16 → new < 16 → ((l i : ℕ) → l < 64 → i < 3 → low_stride terms l i ≤ 4096) → ((low l : ℕ) → l < 64 → half_at terms beds after low l ≤ 184320)
      → Makes moves places old new at
  makes old_small new_small near most =
      let by_near : stride_in moves at ≤ 4096 = omega (arith, is_stride_lem, near k j move.term_few move.slot_few) in
      record {
        inside = omega (arith, move.here, move.term_few, move.slot_few);
        term = omega (arith, is_term, move.term_few);
        near = by_near;
        next = next_leads.behind;
        last = next_leads.most;
        old_most = omega (arith, part_most old_small by_near);
        new_most = omega (arith, part_most new_small by_near);
        place_most = omega (arith, place_here, most stands.low k move.term_few);
        enough = omega (arith, place_here, moved);
      }

  pub stands_next : length places ≡ 64 → (word : ℕ) → word ≡ get_or places (term_in moves at) 0 + stride_in moves at * new - stride_in moves at * old
      → Stands terms beds s new (set places (term_in moves at) word) (next_in moves at)
  stands_next long word is = record {
    low = suc at;
    leads = next_leads;
    each = λ i few. elim (ℕ_discrete i k) [
      | yes e ↦ rw (e, is_term) (get_or-set_same places k word 0 (omega (arith, long, move.term_few)) ∙ omega (arith, is, place_here, moved))
      | no t ↦ rw is_term (get_or-set_other places k i word 0 t) ∙ stands.each i few
          ∙ sym (total_same (part_at terms beds after (suc at) i) (part_at terms beds after stands.low i)
          (λ m h. other_part i m few h (λ e. omega (arith, t, move.slot_few))))
    ];
  }

-- ---- all moves

module _ {moves : Moves} {before : List ℕ} {s old new : ℕ} where
  pub halfway_start : s < 32 → length before ≡ 64 → Halfway moves s old new before before (get_or moves.first s 0)
  halfway_start few long = record {
    long = long;
    stands = λ terms beds linked kept inside was. record { low = 0; leads = linked.first s few; each = λ k h. kept.each k h ∙ kept_before terms beds s new k };
  }

  pub halfway_done : {places : List ℕ} {at : ℕ} → Halfway moves s old new before places at → 192 ≤ at → GivesMove moves s old new before places
  halfway_done half past terms beds linked kept inside was =
      let stands = half.stands terms beds linked kept inside was in
      record { long = half.long; each = λ k h. stands.each k h ∙ kept_after terms beds s new stands.leads past k h }

module _ {moves : Moves} {before : List ℕ} {s old new : ℕ} (asks : AsksMove moves s old new before) where
  abbrev terms : List TableTerm
  terms = asks.terms

  abbrev beds : List ℕ
  beds = asks.beds

  inside : s < length beds
  inside = omega (arith, asks.few, asks.long)

  stride_near : (k j : ℕ) → k < 64 → j < 3 → low_stride terms k j ≤ 4096
  stride_near k j few slot = low_within terms k j 4096 (asks.bounded.near k j few (omega arith))

  half_most : (low k : ℕ) → k < 64 → half_at terms beds (set beds s new) low k ≤ 184320
  half_most low k few = total_most (part_at terms beds (set beds s new) low k) 61440 (λ j h. each j h (ltb (move_at k j) low))
    where
      each : (j : ℕ) → j < 3 → (made : Bool) → part terms (cond made (set beds s new) beds) k j ≤ 61440
      each j h true = part_most (low_set beds s new asks.small asks.low (member_at terms k j)) (stride_near k j few h)
      each j h false = part_most (asks.low (member_at terms k j)) (stride_near k j few h)

  module _ {places : List ℕ} {at : ℕ} (half : Halfway moves s old new before places at) (more : at < 192) where
    ours : Stands terms beds s new places at
    ours = half.stands terms beds asks.linked asks.kept inside asks.was

    pub halfway_makes : Makes moves places old new at
    halfway_makes = makes asks.linked inside asks.was ours more (omega (arith, asks.was, asks.low s)) asks.small stride_near half_most

    pub halfway_next : (word : ℕ) → word ≡ get_or places (term_in moves at) 0 + stride_in moves at * new - stride_in moves at * old
        → Halfway moves s old new before (set places (term_in moves at) word) (next_in moves at)
    halfway_next word is = record {
      long = length-set places (term_in moves at) word ∙ half.long;
      stands = λ t b linked kept in_b was. stands_next linked in_b was (half.stands t b linked kept in_b was) more half.long word is;
    }
