use Rattle.std.proofs.Common.{sym, ◌∙◌}
use Rattle.pack.specs.Table.{Near}
use Rattle.pack.proofs.TableLaws.{cell-none, cell-spare}
use Rattle.pack.proofs.table.slot_for.Goals as goal

pub returns-then-spare : goal.returns-then-spare
returns-then-spare c = (c.in_index.ensures.0 ∙ cell-spare _ _ _ c.place_of.ensures.0 (sym c.spare.ensures ∙ c.if-spare.true), c.in_index.ensures.1)

pub returns : goal.returns
unfolding Near
returns c = (cell-none _ _ (sym c.spare.ensures ∙ c.if-spare.false), tt)
