use Rattle.machines.proofs.Remaining.{all_left, none_left, one_less, some_left}
use Rattle.machines.proofs.JudgeLaws.{outputs-done, outputs-stop, outputs-went}
use Rattle.machines.proofs.AssignsMemoLaws.{blank-given, blank-told}
use Rattle.machines.proofs.CallScratch.{zeros}
use Rattle.machines.proofs.verdicts.judge_outputs.Goals as goal

pub loop-init : goal.loop-init
loop-init c = (λ ns e. rw all_left, blank-told _ _ _ _ (zeros 7322), blank-given _ _ _ _ (zeros 17408))

pub returns-in-Some : goal.returns-in-Some
returns-in-Some c = λ ns e. outputs-stop ns _ _ _ _ _ _ _ _ _ _ (some_left c.loop-test.true) c.number-x.ensures (c.uncovered_output-m.ensures.value ns e) c.in-Some.is c.state_called.ensures (c.loop.invariant.0 ns e)

pub loop-preserved : goal.loop-preserved
loop-preserved c = (λ ns e. rw one_less (outputs-went ns _ _ _ _ _ _ _ _ _ (some_left c.loop-test.true) c.number-x.ensures (c.uncovered_output-m.ensures.value ns e) c.in_default.is (c.after_port-p.ensures ns e) (c.loop.invariant.0 ns e)), c.uncovered_output-m.ensures.assigns_sound, c.uncovered_output-m.ensures.assignment_sound)

pub returns : goal.returns
returns c = λ ns e. outputs-done ns _ _ _ _ _ _ (none_left c.loop-test.false) (c.loop.invariant.0 ns e)
