use Rattle.std.proofs.Common.{rules, ◌∙◌}
use Rattle.wire.specs.Code.{skips}
use Rattle.wire.proofs.Codes.{listed-counted}
use Rattle.pack_rules.specs.Read.{equation_in, equations_in}
use Rattle.pack.proofs.parts.skip_equations.Goals as goal

pub returns : goal.returns
unfolding skips equations_in
returns c ns e = c.skip_list.ensures (skips (equation_in ns c.args.pack.now)) (λ p r l h. search rules) ∙ listed-counted _ _ _
