use native.Mathlib.Omega.{arith}
use Rattle.machines.proofs.Remaining.{all_left, none_left, one_less, some_left}
use Rattle.machines.proofs.AddedItems.{old-done, old-here, old-more}
use Rattle.machines.proofs.write_nodes.old_equations.Goals as goal

pub loop-i-init : goal.loop-i-init
loop-i-init c = (omega arith, λ ns e. rw all_left (rw all_left))

pub returns-then-i-k : goal.returns-then-i-k
returns-then-i-k c = (c.small.ensures.0, λ ns e. old-here ns _ _ _ _ _ _ _ _ (some_left c.loop-i-test.true) (c.to_node_equations-e.ensures ns e) (omega (arith, c.if-i-k.true)) c.number-c.ensures c.small.ensures.1 (c.loop-i.invariant.1 ns e))

pub loop-i-preserved : goal.loop-i-preserved
loop-i-preserved c = (omega (arith, c.loop-i.invariant.0, c.if-i-k.false), λ ns e. simp one_less (old-more ns _ _ _ _ _ _ _ (some_left c.loop-i-test.true) (c.to_node_equations-e.ensures ns e) (λ d. absurd (omega (arith, d, c.loop-i.invariant.0, c.if-i-k.false))) (c.after_equations-p.ensures ns e) (c.loop-i.invariant.1 ns e)))

pub returns : goal.returns
returns c = (omega arith, λ ns e. old-done ns _ _ _ _ _ (none_left c.loop-i-test.false) (c.loop-i.invariant.1 ns e))
