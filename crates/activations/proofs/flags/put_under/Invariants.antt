use mathlib.Core.Path.{◌≡◌}
use Rattle.wire.specs.Writer.{state_of}
use Rattle.pack.specs.Intern.{render}
use Rattle.activations.specs.ByNumber.{under_items}
use Rattle.activations.proofs.flags.put_under.Given as goal

abbrev pub invariant-loop-k : goal.invariant-loop-k
invariant-loop-k l = render l.old (under_items l.a l.k) (state_of l.out l.made l.v) ≡ render l.old (under_items l.a l.count) (state_of l.initial.out l.initial.made l.initial.v)
