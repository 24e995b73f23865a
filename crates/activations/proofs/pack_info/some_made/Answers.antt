use mathlib.Core.Path.{refl}
use native.Mathlib.Omega.{arith}
use Rattle.std.proofs.Common.{rules, tests}
use Rattle.std.proofs.lemmas.Iterator.{YieldsList-from_range}
use Rattle.std.proofs.lemmas.Iterator.Search.{any_from_yields_List}
use Rattle.activations.specs.Lookups.{made_at}
use Rattle.activations.proofs.LookupLaws.{some_made_is}
use Rattle.activations.proofs.pack_info.some_made.Goals as goal

pub returns : goal.returns
returns c = some_made_is _ _ _ _ (any_from_yields_List (made_at c.args.pack.now c.args.offsets.now) _ _ _ c.any.ensures.ran (YieldsList-from_range 0 c.args.names c.args.names refl (omega arith)) (λ x b q k. search (rules, tests)))
