use Rattle.machines.proofs.TableLaws.{names_more, names-end}
use Rattle.machines.proofs.table.place_names.Goals as goal

pub loop-k-preserved : goal.loop-k-preserved
loop-k-preserved c = names_more _ _ _ _ _ _ _ _ c.loop-k-test.true c.put_cell.ensures c.next_name-p.ensures c.loop-k.invariant

pub returns : goal.returns
returns c = names-end _ _ _ _ _ _ c.loop-k-test.false c.loop-k.invariant
