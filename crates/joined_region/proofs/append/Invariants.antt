use Rattle.std.proofs.Common.{ℕ, length, ◌≡◌, ◌+◌, ◌<◌, slice_index_or}
use Rattle.joined_region.proofs.append.Given as goal

abbrev pub invariant-loop-k : goal.invariant-loop-k
invariant-loop-k g l = (length l.both ≡ g.row.N) × ((e : g.row.T.Denot) (k : ℕ) → k < l.k → g.F.Fn.post l.first (k, tt) (slice_index_or l.both k e))

abbrev pub invariant-loop-k-2 : goal.invariant-loop-k-2
invariant-loop-k-2 g l =
    (length l.both ≡ g.row.N)
    × ((e : g.row.T.Denot) (k : ℕ) → k < l.n → g.F.Fn.post l.first (k, tt) (slice_index_or l.both k e))
    × ((e : g.row.T.Denot) (k : ℕ) → k < l.k → g.G.Fn.post l.second (k, tt) (slice_index_or l.both (l.n + k) e))
