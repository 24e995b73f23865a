use Prim.Native.Nat.{◌+◌, ◌-◌}
use mathlib.Core.Path.{◌≡◌}
use Rattle.wire.specs.Writer.{state_of}
use Rattle.pack_rules.specs.Write.{port_items, each}
use Rattle.pack.specs.Intern.{render}
use Rattle.machines.specs.Locals.{inner_locals}
use Rattle.machines.proofs.emit_region.put_inner_locals.Given as goal

abbrev pub invariant-loop-id : goal.invariant-loop-id
invariant-loop-id l = render l.old (each port_items (inner_locals l.m l.id (l.first + l.count - l.id))) (state_of l.out l.made l.v) ≡ render l.old (each port_items (inner_locals l.m l.first l.count)) (state_of l.initial.out l.initial.made l.initial.v)
