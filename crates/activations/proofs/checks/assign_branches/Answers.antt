use Rattle.activations.proofs.Counting.{left_none, left_one}
use native.Mathlib.Omega.{arith}
use Rattle.activations.specs.Places.{body_in, branch_end}
use Rattle.activations.specs.ChecksAt.{assign_scope_t}
use Rattle.machines.proofs.CheckedReadLaws.{number_small}
use Rattle.activations.proofs.StepLaws.{goes_end, goes_on}
use Rattle.activations.proofs.CheckLaws.{branches-over, scope-in}
use Rattle.activations.proofs.checks.assign_branches.Goals as goal

pub assign_scope-requires : goal.assign_scope-requires
assign_scope-requires c = (c.requires, omega (arith, number_small _ _ _ (λ i. omega (arith, c.type_inv.pack i)) c.number-c.ensures))

pub loop-k-preserved : goal.loop-k-preserved
loop-k-preserved c = λ ns e. goes_on (λ m j q z. assign_scope_t ns _ j (body_in ns _ q) z) (branch_end ns _) _ _ _ _ _ _ _ (left_one c.loop-k-test.true) (scope-in ns _ _ _ _ _ _ (c.branch_equations-e.ensures ns e) (c.assign_scope.ensures ns e)) (c.after_branch-p.ensures ns e) (c.loop-k.invariant ns e)

pub returns : goal.returns
returns c = λ ns e. branches-over ns _ _ _ _ _ c.number-c.ensures (goes_end (λ m j q z. assign_scope_t ns _ j (body_in ns _ q) z) (branch_end ns _) _ _ _ _ _ (left_none c.loop-k-test.false) (c.loop-k.invariant ns e))
