use Rattle.machines.proofs.UnknownTargetLaws.{strays-done, strays-from, strays-stop, strays-went}
use Rattle.machines.proofs.memo.unknown_targets.Goals as goal

pub loop-fine-init : goal.loop-fine-init
loop-fine-init c = λ ns e. strays-from ns _ _ _

pub returns-in-Stray : goal.returns-in-Stray
returns-in-Stray c = λ ns e. strays-stop ns _ _ _ _ _ _ _ _ _ _ c.loop-fine-test.true (c.moves_of.ensures ns e) c.number-c.ensures (c.first_unknown_target-a.ensures ns e) c.in-Stray.is (c.loop-fine.invariant ns e)

pub loop-fine-preserved : goal.loop-fine-preserved
loop-fine-preserved c = λ ns e. strays-went ns _ _ _ _ _ _ _ _ _ _ c.loop-fine-test.true (c.moves_of.ensures ns e) c.number-c.ensures (c.first_unknown_target-a.ensures ns e) c.in_default.is (c.past_of-p.ensures ns e) (c.loop-fine.invariant ns e)

pub returns : goal.returns
returns c = λ ns e. strays-done ns _ _ _ _ _ _ c.loop-fine-test.false c.loop-fine.auto.fine-end (c.loop-fine.invariant ns e)
