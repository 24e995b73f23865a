use Rattle.activations.proofs.Counting.{left_none, left_one}
use Rattle.activations.proofs.CheckLaws.{scopes-over, unassigned-end, unassigned-hit, unassigned-on}
use mathlib.Core.Path.{refl}
use Rattle.activations.specs.Refusing.{checked_as, numbers_of}
use Rattle.activations.proofs.checks.in_scopes.Goals as goal

pub returns-then-k-a : goal.returns-then-k-a
unfolding checked_as numbers_of
returns-then-k-a c = λ ns e. scopes-over ns _ _ _ _ _ _ (c.assign_all.ensures ns e) c.number-c.ensures (unassigned-hit ns _ _ _ _ _ _ _ _ _ _ (left_one c.loop-test.true) c.number-o.ensures c.cell-k.ensures c.if-k-a.true (c.scope_name.ensures ns e) refl (c.loop.invariant ns e))

pub loop-preserved : goal.loop-preserved
loop-preserved c = λ ns e. unassigned-on ns _ _ _ _ _ _ _ _ _ (left_one c.loop-test.true) c.number-o.ensures c.cell-k.ensures c.if-k-a.false (c.after_port-p.ensures ns e) (c.loop.invariant ns e)

pub returns : goal.returns
unfolding checked_as
returns c = λ ns e. scopes-over ns _ _ _ _ _ _ (c.assign_all.ensures ns e) c.number-c.ensures (unassigned-end ns _ _ _ _ _ _ _ _ e (left_none c.loop-test.false) refl (c.loop.invariant ns e))
