-- The moves linked, from the last term's last member down to the first.
use mathlib.Core.Path.{◌≡◌, refl, sym, ap, ◌∙◌}
use Prim.Native.Nat.{◌≤◌}
use native.Mathlib.Decide.{dec_lt, ℕ_discrete}
use native.Mathlib.Omega.{arith}
use lib.ListN.{set, length-set, length-replicate, get_or-replicate}
use lib.Seq.{get_or-set_same, get_or-set_other}
use Rattle.std.specs.Prelude.{◌+◌, ◌-◌, ◌<◌}
use Rattle.definitions.specs.Basics.{ℕ, suc, List, get_or, replicate}
use Rattle.bucket_words.specs.declared.TableTerm.{TableTerm}
use Rattle.kept_places.specs.declared.Move.{Move}
use Rattle.kept_places.specs.declared.Moves.{Moves}
use Rattle.bucket_words.specs.Words.{member_at, stride_at}
use Rattle.bucket_words.specs.Kept.{low_stride, Bounded}
use Rattle.kept_places.specs.Moves.{move_at, no_move, stride_for, Leads, Says, Linked}
use Rattle.kept_places.specs.Steps.{AsksAdd, Added, AsksTerm}
use Rattle.kept_places.proofs.Strides.{low_within, still_for, other_for}

-- ---- one move written

module _ {s k by at : ℕ} {moves : Moves} (asks : AsksAdd s k by at moves) where
  abbrev step : Move
  step = record { term = k; stride = by; next = get_or moves.first s 0 }

  pub added : Added s k by at moves (record { first = set moves.first s at; all = set moves.all at step })
  added = record {
    wide = length-set moves.all at step ∙ asks.wide;
    patients = length-set moves.first s at ∙ asks.patients;
    first = get_or-set_same moves.first s at 0 (omega (arith, asks.patient, asks.patients));
    here = get_or-set_same moves.all at step no_move (omega (arith, asks.inside, asks.wide));
    other_first = λ q other. get_or-set_other moves.first s q at 0 other;
    others = λ p other. get_or-set_other moves.all at p step no_move other;
  }

-- ---- a patient's first move

module _ {terms : List TableTerm} where
  -- A patient's first move is the same from an earlier place on, if it has none in between.
  leads_before : {s low p : ℕ} (from : ℕ) → from ≤ low → ((k j : ℕ) → k < 64 → j < 3 → from ≤ move_at k j → move_at k j < low → stride_for terms s k j ≡ 0)
      → Leads terms s low p → Leads terms s from p
  leads_before {low = low} from before none leads = record {
    behind = omega (arith, leads.behind);
    most = leads.most;
    passed = λ k j few slot after h. elim (dec_lt (move_at k j) low) [ yes t ↦ none k j few slot after t | no t ↦ leads.passed k j few slot (omega arith) h ];
    found = leads.found;
  }

  -- ---- nothing linked yet

  blank_still : {t : ℕ} → Bounded terms t → (k j : ℕ) → k < 64 → j < 3 → move_at t 0 ≤ move_at k j → low_stride terms k j ≡ 0
  blank_still bounded k j few slot late = omega (arith, low_within terms k j 0 (omega (arith, bounded.blank k j (omega arith) few (omega arith))))

  pub linked_none : {t : ℕ} {blank : Move} → Bounded terms t → Linked terms (move_at t 0) (record { first = replicate 32 192; all = replicate 192 blank })
  linked_none {t} {blank} bounded = record {
    wide = length-replicate {A = Move} 192 blank;
    patients = length-replicate {A = ℕ} 32 192;
    first = λ s h. rw (get_or-replicate {A = ℕ} 32 s 192 0 h) record {
      behind = omega (arith, bounded.few);
      most = omega arith;
      passed = λ k j few slot late l. still_for terms k j s (blank_still bounded k j few slot late);
      found = λ l. absurd (omega arith);
    };
    each = λ k j few slot late moves. absurd (omega (arith, blank_still bounded k j few slot late));
  }

  -- ---- one more term

  pub asks_term : {t k : ℕ} {moves : Moves} → Bounded terms t → k ≤ t → 0 < k → Linked terms (move_at k 0) moves → AsksTerm terms (k - 1) moves
  asks_term {k = k} bounded h some linked =
      let same : move_at k 0 ≡ move_at (k - 1) 3 = omega arith in
      let few : k - 1 < 64 = omega (arith, bounded.few) in
      record { few = few; known = λ j l. bounded.known (k - 1) j few l; near = λ j l. bounded.near (k - 1) j few l; linked = rw same at linked }

  -- ---- one more member

  module _ {k j low : ℕ} {moves : Moves} (few : k < 64) (slot : j < 3) (next : low ≡ move_at k j + 1) (linked : Linked terms low moves) where
    -- No other move lies between this one and those linked.
    only : (l i : ℕ) → l < 64 → i < 3 → move_at k j ≤ move_at l i → move_at l i < low → (l ≡ k) × (i ≡ j)
    only l i lf il late h = omega arith

    leads_same : (s : ℕ) → s < 32 → stride_for terms s k j ≡ 0 → Leads terms s (move_at k j) (get_or moves.first s 0)
    leads_same s h still =
        leads_before (move_at k j) (omega arith)
        (λ l i lf il late m. let same = only l i lf il late m in rw (same.0, same.1) still)
        (linked.first s h)

    pub linked_still : low_stride terms k j ≡ 0 → Linked terms (move_at k j) moves
    linked_still still = record {
      wide = linked.wide;
      patients = linked.patients;
      first = λ s h. leads_same s h (still_for terms k j s still);
      each = λ l i lf il late m. elim (dec_lt (move_at l i) low) [
        | yes t ↦ (let same = only l i lf il late t in absurd (omega (arith, still, (rw (same.0, same.1) at m))))
        | no t ↦ linked.each l i lf il (omega arith) m
      ];
    }

    module _ {after : Moves} (known : member_at terms k j < 32) (some : 0 < low_stride terms k j)
        (added : Added (member_at terms k j) k (low_stride terms k j) (move_at k j) moves after) where
      this_leads : Leads terms (member_at terms k j) (move_at k j) (move_at k j)
      this_leads = record {
        behind = omega arith;
        most = omega arith;
        passed = λ l i lf il late h. absurd (omega arith);
        found = λ h. record { term = k; slot = j; term_few = few; slot_few = slot; here = refl; member = refl; moves = some };
      }

      this_says : Says terms after k j
      this_says = record {
        term = ap (λ (m : Move). m.term) added.here;
        stride = ap (λ (m : Move). m.stride) added.here;
        next = rw (ap (λ (m : Move). m.next) added.here) (leads_before (suc (move_at k j)) (omega arith) (λ l i lf il late h. absurd (omega arith)) (linked.first (member_at terms k j) known));
      }

      others_say : (l i : ℕ) → low ≤ move_at l i → Says terms moves l i → Says terms after l i
      others_say l i late says = record {
        term = ap (λ (m : Move). m.term) same ∙ says.term;
        stride = ap (λ (m : Move). m.stride) same ∙ says.stride;
        next = rw (ap (λ (m : Move). m.next) same) says.next;
      }
        where
          same : get_or after.all (move_at l i) no_move ≡ get_or moves.all (move_at l i) no_move
          same = added.others (move_at l i) (λ e. omega arith)

      linked_added : Linked terms (move_at k j) after
      linked_added = record {
        wide = added.wide;
        patients = added.patients;
        first = λ s h. elim (ℕ_discrete s (member_at terms k j)) [
          | yes e ↦ rw (e, added.first) this_leads
          | no t ↦ rw (added.other_first s t) (leads_same s h (other_for terms k j s (λ e. t (sym e))))
        ];
        each = λ l i lf il late m. elim (dec_lt (move_at l i) low) [
          | yes t ↦ (let same = only l i lf il late t in rw (same.0, same.1) this_says)
          | no t ↦ others_say l i (omega arith) (linked.each l i lf il (omega arith) m)
        ];
      }

    module _ {s by : ℕ} (known : member_at terms k j < 32) (is_member : s ≡ member_at terms k j) (is_stride : by ≡ low_stride terms k j) where
      pub asks_add : stride_at terms k j ≤ 4096 → AsksAdd s k by (move_at k j) moves
      asks_add near = record {
        wide = linked.wide;
        patients = linked.patients;
        patient = omega arith;
        term = few;
        near = omega (arith, low_within terms k j 4096 near);
        inside = omega arith;
      }

      pub linked_more : {after : Moves} → 0 < by → Added s k by (move_at k j) moves after → Linked terms (move_at k j) after
      linked_more some added = linked_added known (omega arith) (rw (is_member, is_stride) at added)
