use Prim.Native.Nat.{◌-◌}
use mathlib.Core.Path.{◌≡◌}
use Rattle.wire.specs.Writer.{state_of}
use Rattle.pack.specs.Intern.{render}
use Rattle.machines.specs.EmitAt.{variants_t}
use Rattle.machines.proofs.emit_region.put_variants.Given as goal

abbrev pub invariant-loop : goal.invariant-loop
invariant-loop l = render l.old (variants_t l.layout l.qualified (l.count - l.counter) l.p) (state_of l.out l.made l.v) ≡ render l.old (variants_t l.layout l.qualified l.count l.from) (state_of l.initial.out l.initial.made l.initial.v)
