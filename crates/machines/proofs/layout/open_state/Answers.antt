use Rattle.machines.proofs.LayoutLaws.{open-state}
use Rattle.machines.proofs.layout.open_state.Goals as goal

pub returns : goal.returns
returns c = λ ns e reg. open-state ns _ _ _ _ reg _ _ _ _ _ _ _ _ _ _ _ _ c.number-i.ensures c.qualify-w.ensures.0 c.qualify-w.ensures.1 c.saturating_add-l.ensures (c.inside_of-d.ensures ns e).0 c.put_state_row.ensures (c.inside_of-d.ensures ns e).1 c.saturating_add.ensures c.saturating_add-2.ensures
