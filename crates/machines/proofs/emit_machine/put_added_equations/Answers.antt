use Rattle.machines.proofs.EmitMachineLaws.{goes-elsewhere, goes-there}
use Rattle.machines.proofs.emit_machine.put_added_equations.Goals as goal

pub returns-then-a-k : goal.returns-then-a-k
returns-then-a-k c = λ ns e. goes-there ns _ _ _ _ _ _ _ _ _ _ _ _ c.entry-a.ensures c.entry-m.ensures _ _ _ c.if-a-k.true (c.put_equations.ensures ns e)

pub returns : goal.returns
returns c = λ ns e. goes-elsewhere ns _ _ _ _ _ _ _ _ _ _ _ _ c.entry-a.ensures c.entry-m.ensures _ _ c.if-a-k.false
