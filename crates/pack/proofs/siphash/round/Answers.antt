use Rattle.std.proofs.Common.{ap, ◌∙◌}
use Rattle.pack.specs.Siphash.{half_round, rounded}
use Rattle.pack.proofs.siphash.round.Goals as goal

pub returns : goal.returns
unfolding rounded
returns c = c.half_round-2.ensures ∙ ap (λ x. half_round x 17 21) c.half_round.ensures
