use Rattle.machines.proofs.CheckedReadLaws.{end_is}
use Rattle.pack_rules.specs.Read.{state_at}
use Rattle.machines.specs.ResolvedIn.{over_in}
use Rattle.machines.proofs.checked_read.after_state.Goals as goal

pub returns : goal.returns
unfolding over_in state_at
returns c = λ ns e. end_is (state_at ns _) _ _ _ (c.skip_state.ensures ns e) c.reached.ensures
