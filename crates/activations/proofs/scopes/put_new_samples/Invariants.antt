use mathlib.Core.Path.{◌≡◌}
use lib.ListN.{drop}
use Rattle.wire.specs.Writer.{state_of}
use Rattle.pack.specs.Intern.{render}
use Rattle.activations.specs.ScopesAt.{new_items}
use Rattle.activations.proofs.scopes.put_new_samples.Given as goal

abbrev pub invariant-loop-id : goal.invariant-loop-id
invariant-loop-id l = render l.old (new_items l.pack l.offsets l.names l.a l.n l.k l.sampled (drop l.id-index l.ids)) (state_of l.out l.made l.v) ≡ render l.old (new_items l.pack l.offsets l.names l.a l.n l.k l.sampled l.ids) (state_of l.initial.out l.initial.made l.initial.v)
