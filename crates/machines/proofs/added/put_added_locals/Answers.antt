use Rattle.machines.proofs.AddedItems.{brings-nothing, brings-put}
use Rattle.machines.proofs.added.put_added_locals.Goals as goal

pub returns-then-a-k : goal.returns-then-a-k
returns-then-a-k c = λ ns e. brings-put ns _ _ _ _ _ _ _ _ _ _ c.entry-a.ensures c.entry-m.ensures c.entry-r.ensures _ _ _ c.if-a-k.true (c.put_locals.ensures ns e)

pub returns : goal.returns
returns c = λ ns e. brings-nothing ns _ _ _ _ _ _ _ _ _ _ c.entry-a.ensures c.entry-m.ensures c.entry-r.ensures _ _ c.if-a-k.false
