use Rattle.machines.proofs.AddedItems.{its-origin, no_origin}
use Rattle.machines.proofs.sections.put_origin.Goals as goal

pub returns-then-o-eq-ABSENT : goal.returns-then-o-eq-ABSENT
returns-then-o-eq-ABSENT c = λ ns e old l. no_origin ns _ _ _ _ _ _ _ _ c.entry-at.ensures c.number-m.ensures c.number-o.ensures old _ c.if-o-eq-ABSENT.true

pub returns : goal.returns
returns c = λ ns e old l. its-origin ns _ _ _ _ _ _ _ _ c.entry-at.ensures c.number-m.ensures c.number-o.ensures _ _ old _ _ c.if-o-eq-ABSENT.false c.entry-g.ensures (c.equation_count-e.ensures.1 ns e) (c.put_numbers.ensures old l)
