use Rattle.pack_rules.specs.Read.{type_in}
use Rattle.machines.proofs.CheckedReadLaws.{end_is}
use Rattle.activations.proofs.parts.after_type.Goals as goal

pub returns : goal.returns
returns c = λ ns e. end_is (type_in ns _) _ _ _ (c.skip_type.ensures.by_names ns e) c.reached.ensures
