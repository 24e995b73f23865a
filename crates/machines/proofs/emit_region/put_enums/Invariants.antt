use Prim.Native.Nat.{◌-◌}
use mathlib.Core.Path.{◌≡◌}
use Rattle.wire.specs.Writer.{state_of}
use Rattle.pack.specs.Intern.{render}
use Rattle.machines.specs.EmitAt.{enums_t}
use Rattle.machines.proofs.emit_region.put_enums.Given as goal

abbrev pub invariant-loop-i : goal.invariant-loop-i
invariant-loop-i l = render l.old (enums_t l.layout l.qualified l.rows l.m l.i (l.n - l.i)) (state_of l.out l.made l.v) ≡ render l.old (enums_t l.layout l.qualified l.rows l.m 0 l.n) (state_of l.initial.out l.initial.made l.initial.v)
