use Rattle.activations.proofs.Counting.{each_on, left_none, left_one, stopped}
use Rattle.machines.proofs.AddedLaws.{each_none}
use Rattle.activations.specs.HoldersAt.{row_items}
use Rattle.activations.proofs.HolderLaws.{row-items}
use Rattle.activations.proofs.holders.put_holders.Goals as goal

pub loop-h-preserved : goal.loop-h-preserved
loop-h-preserved c = λ ns e. each_on c.args.old.now (row_items ns c.args.pack.now c.args.info c.args.offsets.now c.args.a.now c.args.types.now c.args.lasts.now) c.loop-h.h _ _ _ _ (left_one c.loop-h-test.true) (row-items ns _ _ _ _ _ c.args.types.now c.args.lasts.now c.loop-h.h _ _ _ _ _ _ c.word-v.ensures.1 c.word-i.ensures.1 c.word.ensures.1 c.cell-c.ensures (c.put_holder-u.ensures ns e)) (c.loop-h.invariant ns e)

pub returns-after-loop-h : goal.returns-after-loop-h
returns-after-loop-h c = λ ns e. each_none c.args.old.now (row_items ns c.args.pack.now c.args.info c.args.offsets.now c.args.a.now c.args.types.now c.args.lasts.now) c.loop-h.h _ _ _ (left_none c.loop-h-test.false) (c.loop-h.invariant ns e)

pub returns-then-u : goal.returns-then-u
returns-then-u c = λ ns e. stopped _ _ _ _ _ _ c.if-u.true (c.loop-h.invariant ns e)
