use lib.Dec.{eqb}
use mathlib.Core.Path.{◌∙◌}
use Rattle.std.proofs.Common.{rules, tests}
use Rattle.std.proofs.lemmas.Iterator.{YieldsList-from_slice}
use Rattle.std.proofs.lemmas.Iterator.Search.{any_from_yields_List}
use Rattle.activations.proofs.ReadLaws.{among_is}
use Rattle.activations.proofs.free_vars.is_in.Goals as goal

pub returns : goal.returns
returns c = any_from_yields_List (λ y. eqb y c.args.x) _ _ _ c.any.ensures.ran (YieldsList-from_slice c.args.ids.now c.iter.ensures.rest) (λ x b q k. search (rules, tests)) ∙ among_is _ _
