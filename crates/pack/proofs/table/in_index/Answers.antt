use borrow.Enum.Refused.{opened}
use Rattle.std.proofs.Common.{sym, ap, ◌∙◌, subst}
use Rattle.pack.specs.Table.{Near, in_index}
use Rattle.pack.proofs.TableLaws.{index-has, index-lacks, index-other, not_free}
use Rattle.pack.proofs.table.in_index.Goals as goal

pub returns-in_default : goal.returns-in_default
returns-in_default c = (index-other _ (not_free _ (opened c.in_default.in_default-own.keys2)), c.requires)

pub returns-then-i-lt-CELLS : goal.returns-then-i-lt-CELLS
returns-then-i-lt-CELLS c = (index-has _ c.if-i-lt-CELLS.true ∙ ap in_index (sym c.in-Free.is), subst Near c.in-Free.is c.requires)

pub returns-else-i-lt-CELLS : goal.returns-else-i-lt-CELLS
unfolding Near
returns-else-i-lt-CELLS c = (index-lacks _ c.if-i-lt-CELLS.false ∙ ap in_index (sym c.in-Free.is), tt)
