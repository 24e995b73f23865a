use Rattle.activations.proofs.Counting.{left_none, left_one}
use native.Mathlib.Omega.{arith}
use Rattle.machines.proofs.CheckedReadLaws.{number_small}
use Rattle.activations.proofs.StepLaws.{goes_end, goes_on, pass-stop}
use Rattle.activations.proofs.FlagLaws.{branch-full, flags-over}
use Rattle.activations.proofs.flags.put_flags.Goals as goal

pub put_branch_flags-v-requires : goal.put_branch_flags-v-requires
put_branch_flags-v-requires c = (c.requires, omega (arith, (left_one c.loop-k-test.true), number_small _ _ _ (λ i. omega (arith, c.type_inv.pack i)) c.number-c.ensures))

pub loop-k-preserved : goal.loop-k-preserved
loop-k-preserved c = λ ns e. goes_on _ _ _ _ _ _ _ _ _ (left_one c.loop-k-test.true) (c.put_branch_flags-v.ensures ns e) (c.after_branch-p.ensures ns e) (c.loop-k.invariant ns e)

pub returns-after-loop-k : goal.returns-after-loop-k
returns-after-loop-k c = λ ns e. flags-over ns _ _ _ _ _ _ _ _ _ c.number-c.ensures (goes_end _ _ _ _ _ _ _ (left_none c.loop-k-test.false) (c.loop-k.invariant ns e))

pub returns-then-v : goal.returns-then-v
returns-then-v c = λ ns e. flags-over ns _ _ _ _ _ _ _ _ _ c.number-c.ensures (pass-stop _ _ (branch-full _ _ ns _ _ _) _ _ _ _ _ _ _ c.if-v.true (c.loop-k.invariant ns e))
