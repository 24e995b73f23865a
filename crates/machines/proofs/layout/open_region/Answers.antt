use Rattle.machines.proofs.LayoutLaws.{open-region}
use Rattle.machines.proofs.layout.open_region.Goals as goal

pub returns : goal.returns
returns c = λ qualified. open-region _ _ _ _ qualified _ _ _ _ _ _ _ _ _ c.put_region_row.ensures c.put.ensures c.saturating_add.ensures c.saturating_add-2.ensures c.has_empty_region.ensures
