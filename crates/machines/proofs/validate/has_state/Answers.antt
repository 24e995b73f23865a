use Rattle.machines.proofs.ValidateLaws.{among-from}
use Rattle.machines.proofs.validate.has_state.Goals as goal

pub returns : goal.returns
returns c = among-from _ _ _ _ _ _ _ c.layout_word-n.ensures c.first-p.ensures c.is_state.ensures
