use Prim.Native.Nat.{◌-◌}
use mathlib.Core.Path.{◌≡◌}
use Rattle.wire.specs.Writer.{state_of}
use Rattle.pack_rules.specs.Write.{each, equation_items}
use Rattle.pack.specs.Intern.{render}
use Rattle.activations.specs.ByNumber.{guards_from}
use Rattle.activations.proofs.flags.put_clock_guards.Given as goal

abbrev pub invariant-loop-k : goal.invariant-loop-k
invariant-loop-k l = render l.old (each equation_items (guards_from l.a l.k (l.n - l.k))) (state_of l.out l.made l.v) ≡ render l.old (each equation_items (guards_from l.a 1 (l.n - 1))) (state_of l.initial.out l.initial.made l.initial.v)
