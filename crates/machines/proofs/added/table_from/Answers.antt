use Rattle.machines.proofs.SpanLaws.{from_is}
use Rattle.machines.proofs.added.table_from.Goals as goal

pub returns : goal.returns
returns c = from_is _ _ _ c.min-b.ensures
