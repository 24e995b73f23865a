use Rattle.machines.proofs.Remaining.{none_left, one_less, some_left}
use Rattle.machines.proofs.TableLaws.{placed-more, placed_end, placed-is}
use Rattle.machines.proofs.table.place_machines.Goals as goal

pub loop-preserved : goal.loop-preserved
loop-preserved c = λ ns e. rw one_less (placed-more ns _ _ _ _ _ _ _ _ _ (some_left c.loop-test.true) c.number-i.ensures (c.to_initial-w.ensures ns e) c.put_cell.ensures (c.after_states-p.ensures ns e) (c.loop.invariant ns e))

pub returns : goal.returns
returns c = λ ns e. placed-is ns _ _ _ _ _ c.number-c.ensures (placed_end ns _ _ _ _ _ (none_left c.loop-test.false) (c.loop.invariant ns e))
