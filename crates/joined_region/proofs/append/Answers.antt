use Rattle.std.proofs.Common.{arith, zero-add, ◌+◌}
use Rattle.std.proofs.lemmas.List.{length-replicate}
use lib.ListN.{length-set}
use Rattle.joined_region.proofs.Places.{place_more, place_kept}
use Rattle.joined_region.proofs.append.Goals as goal

pub loop-k-init : goal.loop-k-init
loop-k-init g c = (length-replicate g.row.N c.args.blank, λ e k h. absurd (omega arith))

pub loop-k-preserved : goal.loop-k-preserved
loop-k-preserved g c = let inv = c.loop-k.invariant in (
  simp length-set inv.0,
  λ e.
      simp zero-add at (place_more (λ k x. g.F.Fn.post c.args.first (k, tt) x) c.loop-k.both c.first.result e 0 c.loop-k.k (omega (arith, inv.0, c.requires.room)) (λ k h. rw zero-add (inv.1 e k h)) c.first.ensures),
)

pub loop-k-2-init : goal.loop-k-2-init
loop-k-2-init g c = let inv = c.loop-k.invariant in (inv.0, λ e k h. inv.1 e k (omega arith), λ e k h. absurd (omega arith))

pub loop-k-2-preserved : goal.loop-k-2-preserved
loop-k-2-preserved g c = let inv = c.loop-k-2.invariant in (
  simp length-set inv.0,
  λ e. place_kept (λ k x. g.F.Fn.post c.args.first (k, tt) x) c.loop-k-2.both c.second.result e c.args.n (c.args.n + c.loop-k-2.k) (omega arith) (inv.1 e),
  λ e. place_more (λ k x. g.G.Fn.post c.args.second (k, tt) x) c.loop-k-2.both c.second.result e c.args.n c.loop-k-2.k (omega (arith, inv.0, c.requires.room)) (inv.2 e) c.second.ensures,
)
