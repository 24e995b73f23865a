use Rattle.std.proofs.Common.{rules, ◌∙◌}
use Rattle.wire.specs.Code.{skips}
use Rattle.wire.proofs.Codes.{listed-counted}
use Rattle.pack_rules.specs.Read.{state_at, state_with}
use Rattle.pack.proofs.charts.skip_states.Goals as goal

pub returns : goal.returns
unfolding skips state_at
returns c ns e = c.skip_list.ensures (skips (state_at ns c.args.pack.now)) (λ p r l h. search rules) ∙ listed-counted _ _ _
