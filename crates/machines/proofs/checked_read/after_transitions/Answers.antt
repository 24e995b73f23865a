use Rattle.machines.proofs.CheckedReadLaws.{end_is}
use Rattle.wire.specs.Answer.{counted}
use Rattle.pack_rules.specs.Read.{transition_in}
use Rattle.machines.proofs.checked_read.after_transitions.Goals as goal

pub returns : goal.returns
returns c = λ ns e. end_is (counted (transition_in ns _) _) _ _ _ (c.skip_transitions.ensures ns e) c.reached.ensures
