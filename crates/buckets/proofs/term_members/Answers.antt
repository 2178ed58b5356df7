use native.Mathlib.Omega.{arith}
use Rattle.buckets.proofs.Members.{members_none, members_more, stride_fits, members_written}
use Rattle.buckets.proofs.term_members.Goals as goal

pub loop-j-init : goal.loop-j-init
loop-j-init c = members_none _ _ c.requires

pub overflow_mul-stride : goal.overflow_mul-stride
overflow_mul-stride c = record { fits = stride_fits _ _ c.requires _ _ _ (omega arith) c.loop-j.invariant }

pub loop-j-preserved : goal.loop-j-preserved
loop-j-preserved c = members_more _ _ c.requires _ _ _ (omega arith) c.loop-j.invariant

pub returns : goal.returns
returns c = members_written _ _ c.requires _ _ _ (omega arith) c.loop-j.invariant
