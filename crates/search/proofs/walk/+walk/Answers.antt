use native.Mathlib.Omega.{arith}
use mathlib.Core.Path.{◌≡◌, refl, sym, ap, ◌∙◌}
use mathlib.Core.Bool.{not}
use Prim.Native.Nat.{ℕ, ◌<◌}
use lib.ListN.{length, drop}
use Rattle.std.specs.Prelude.{None, Some}
use Rattle.pricing.specs.Pricing.{Cost, cost_in}
use Rattle.patient_set.specs.Sets.{members}
use Rattle.search.specs.Walks.{branch_at}
use Rattle.search.proofs.Steps.{few, least_most, asks_few, asks_room, asks_beds, decides, below_head, below_bed}
use Rattle.search.proofs.Walking.{walk_end, sofar_start, asks_move, sofar_done, bed_small, asks_next, asks_cut, sofar_skip, asks_below, sofar_walk, sofar_cut, lowest_first}
use Rattle.search.proofs.walk.+walk.Goals as goal

-- A cost that is no sum is none.
no_sum : (cost : Cost) → ((n : ℕ) → cost ≡ Some n → ⊥) → cost ≡ None
no_sum None none = refl
no_sum (Some n) none = absurd (none n refl)

pub returns-then-is_empty : goal.returns-then-is_empty
returns-then-is_empty t c = walk_end c.requires _ (sym c.is_empty.ensures ∙ c.if-is_empty.true) c.pack-row.ensures c.insert.ensures

pub first_bed-first-requires : goal.first_bed-first-requires
first_bed-first-requires t c = few c.requires.heads (lowest_first _ _ (sym c.is_empty.ensures ∙ c.if-is_empty.false) c.lowest-s.ensures)

pub bed_end-end-requires : goal.bed_end-end-requires
bed_end-end-requires t c = few c.requires.heads (lowest_first _ _ (sym c.is_empty.ensures ∙ c.if-is_empty.false) c.lowest-s.ensures)

pub rest_of-bound-requires : goal.rest_of-bound-requires
rest_of-bound-requires t c =
    let lowest = lowest_first _ _ (sym c.is_empty.ensures ∙ c.if-is_empty.false) c.lowest-s.ensures in
    let heads = c.requires.heads in
    record { few = few heads lowest; least = least_most heads lowest }

pub bed_costs-requires : goal.bed_costs-requires
bed_costs-requires t c =
    let start = c.requires in
    (asks_beds start.heads (lowest_first _ _ (sym c.is_empty.ensures ∙ c.if-is_empty.false) c.lowest-s.ensures) start.sums_fit start.kept c.first_bed-first.ensures c.bed_end-end.ensures, refl)

pub loop-bed-init : goal.loop-bed-init
loop-bed-init t c =
    let start = c in
    sofar_start start.requires (drop 1 (members start.args.head.left.0)) (lowest_first _ _ (sym c.is_empty.ensures ∙ c.if-is_empty.false) c.lowest-s.ensures) c.first_bed-first.ensures c.bed_end-end.ensures

pub bed_cost-requires : goal.bed_cost-requires
bed_cost-requires t c = bed_small c.requires c.loop-bed.invariant (omega arith)

pub overflow_add-sum : goal.overflow_add-sum
overflow_add-sum t c =
    let most = c.bed_costs.ensures.small _ c.loop-bed.invariant.begun (omega arith) _ (sym c.bed_cost.ensures ∙ ap cost_in c.in-Some.is) in
    let sums_fit = c.requires.sums_fit in
    omega (arith, most, sums_fit.cost, sums_fit.placed)

pub overflow_add-least : goal.overflow_add-least
overflow_add-least t c =
    let most = c.bed_costs.ensures.small _ c.loop-bed.invariant.begun (omega arith) _ (sym c.bed_cost.ensures ∙ ap cost_in c.in-Some.is) in
    let sums_fit = c.requires.sums_fit in
    omega (arith, most, sums_fit.cost, sums_fit.placed, sums_fit.bound, c.rest_of-bound.ensures.bound)

pub overflow_cast-bed : goal.overflow_cast-bed
overflow_cast-bed t c = omega (arith, bed_small c.requires c.loop-bed.invariant (omega arith))

pub is_cut-requires : goal.is_cut-requires
is_cut-requires t c = asks_cut c.requires c.loop-bed.invariant (omega arith)

pub overflow_cast-bed-then-not-is_cut : goal.overflow_cast-bed-then-not-is_cut
overflow_cast-bed-then-not-is_cut t c = omega (arith, bed_small c.requires c.loop-bed.invariant (omega arith))

pub place-longer-requires : goal.place-longer-requires
place-longer-requires t c =
    let next = asks_next c.requires c.loop-bed.invariant (omega arith) in
    (asks_few next, asks_room next)

pub move_places-requires : goal.move_places-requires
move_places-requires t c = asks_move c.requires c.loop-bed.invariant (bed_small c.requires c.loop-bed.invariant (omega arith))

pub walk-found-requires : goal.walk-found-requires
walk-found-requires t c =
    let start = c in
    let pre = start.requires in
    let inv = c.loop-bed.invariant in
    let more : c.loop-bed.bed < c.bed_end-end.result = omega arith in
    let costs = c.bed_costs.ensures in
    let priced = sym c.bed_cost.ensures ∙ ap cost_in c.in-Some.is in
    let place = c.place-longer in
    let is = below_head {head = branch_at start.args.head start.args.beds.now} {bed = c.loop-bed.bed} place.result inv.others inv.lowest c.rest_of-bound.ensures place.ensures.0 place.ensures.1 (costs.small _ inv.begun more _ priced) in
    (omega (arith, ap length is.left), asks_below pre inv more is (decides (asks_next pre inv more) pre.kept inv.firsts inv.ends inv.begun more costs priced) c.move_places.ensures)

pub loop-bed-preserved : goal.loop-bed-preserved
loop-bed-preserved t c =
    let pre = c.requires in
    let inv = c.loop-bed.invariant in
    let more : c.loop-bed.bed < c.bed_end-end.result = omega arith in
    let costs = c.bed_costs.ensures in
    let price = c.bed_cost.ensures in
    let rest = c.rest_of-bound.ensures in
    elim c.match-bed_cost.branch [
      | goal.in-Some+then-not-is_cut w ↦
          let priced = sym price ∙ ap cost_in w.in-Some.is in
          rw (w.list-is, w.places-is, w.found-is, w.counted-is) (sofar_walk pre inv more (below_head w.place-longer.result inv.others inv.lowest rest w.place-longer.ensures.0 w.place-longer.ensures.1 (costs.small _ inv.begun more _ priced)) (decides (asks_next pre inv more) pre.kept inv.firsts inv.ends inv.begun more costs priced) w.walk-found.ensures)
      | goal.in-Some+else-not-is_cut w ↦
          let priced = sym price ∙ ap cost_in w.in-Some.is in
          rw (w.list-is, w.places-is, w.found-is, w.counted-is) (sofar_cut pre inv more (below_bed inv.others inv.lowest rest (costs.small _ inv.begun more _ priced)) (decides (asks_next pre inv more) pre.kept inv.firsts inv.ends inv.begun more costs priced) w.is_cut.ensures (ap not w.if-not-is_cut.false))
      | goal.in_default w ↦
          rw (w.list-is, w.places-is, w.found-is, w.counted-is) (sofar_skip pre inv more (decides (asks_next pre inv more) pre.kept inv.firsts inv.ends inv.begun more costs (sym price ∙ ap cost_in (no_sum _ w.in_default.not-Some))))
    ]

pub move_places-requires-2 : goal.move_places-requires-2
move_places-requires-2 t c = asks_move c.requires c.loop-bed.invariant (omega arith)

pub returns : goal.returns
returns t c = sofar_done c.requires c.loop-bed.invariant (omega arith) c.move_places-2.ensures
