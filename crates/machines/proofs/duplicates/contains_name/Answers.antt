use Rattle.std.proofs.Common.{◌∙◌}
use Rattle.machines.proofs.DuplicateLaws.{found-is}
use Rattle.machines.proofs.duplicates.contains_name.Goals as goal

pub returns : goal.returns
returns c = c.is_ok.ensures.value ∙ found-is _ _ _ c.find_name.ensures
