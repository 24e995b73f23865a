use Rattle.std.proofs.Common.{rules, ◌∙◌}
use Rattle.wire.specs.Code.{skips}
use Rattle.wire.proofs.Codes.{listed-counted}
use Rattle.pack_rules.specs.Read.{transition_in}
use Rattle.pack.proofs.parts.skip_transitions.Goals as goal

pub returns : goal.returns
unfolding skips
returns c ns e = c.skip_list.ensures (skips (transition_in ns c.args.pack.now)) (λ p r l h. search rules) ∙ listed-counted _ _ _
