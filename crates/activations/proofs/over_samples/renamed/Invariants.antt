use mathlib.Core.Path.{◌≡◌}
use Prim.Native.Nat.{◌<◌}
use lib.ListN.{drop}
use Rattle.std.specs.Option.{IfSome}
use Rattle.activations.specs.NameIdsAt.{sample_t}
use Rattle.activations.specs.OverSamplesAt.{number_or, renamed_from}
use Rattle.activations.proofs.over_samples.renamed.Given as goal

abbrev pub invariant-loop-id : goal.invariant-loop-id
invariant-loop-id l = IfSome l.found (λ y. y < 65536) × (renamed_from (sample_t l.pack l.offsets l.info.names l.a l.old l.info.made l.n l.k) (drop l.id-index l.ids) l.v (number_or l.found) ≡ renamed_from (sample_t l.pack l.offsets l.info.names l.a l.old l.info.made l.n l.k) l.ids l.x 65536)
