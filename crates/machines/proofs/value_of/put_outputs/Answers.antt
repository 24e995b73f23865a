use mathlib.Core.Path.{◌∙◌}
use Rattle.machines.proofs.Remaining.{all_left, none_left, one_more}
use Rattle.machines.proofs.RowLaws.{stays-full}
use Rattle.machines.proofs.CallScratch.{zeros}
use Rattle.machines.proofs.AssignsMemoLaws.{blank-told}
use Rattle.machines.proofs.ValueLaws.{outputs-is, outputs-more, outputs-none}
use Rattle.machines.proofs.value_of.put_outputs.Goals as goal

pub loop-init : goal.loop-init
loop-init c = (λ ns e. rw all_left, blank-told _ _ _ _ (zeros 7322))

pub returns-then-v : goal.returns-then-v
returns-then-v c = λ ns e. stays-full _ _ _ _ _ _ c.if-v.true (c.loop.invariant.0 ns e) ∙ outputs-is _ _ _ _ ns _ _ _ c.number-c.ensures

pub loop-preserved : goal.loop-preserved
loop-preserved c = (λ ns e. outputs-more _ _ _ _ ns _ _ _ _ _ _ _ _ (one_more c.loop-test.true) c.number-x.ensures (c.put_output-v.ensures.result_after ns e) (c.after_port-p.ensures ns e) (c.loop.invariant.0 ns e), c.put_output-v.ensures.assigns_sound)

pub returns : goal.returns
returns c = λ ns e. outputs-none _ _ _ _ ns _ _ _ _ (none_left c.loop-test.false) (c.loop.invariant.0 ns e) ∙ outputs-is _ _ _ _ ns _ _ _ c.number-c.ensures
