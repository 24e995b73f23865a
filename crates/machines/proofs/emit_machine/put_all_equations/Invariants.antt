use Prim.Native.Nat.{ℕ, ◌-◌, ◌≤◌}
use mathlib.Core.List.{List}
use mathlib.Core.Path.{◌≡◌}
use lib.ListN.{length}
use Rattle.wire.specs.Writer.{state_of}
use Rattle.pack_rules.specs.Names.{Name}
use Rattle.pack_rules.specs.Write.{Item}
use Rattle.pack.specs.Intern.{render}
use Rattle.machines.specs.AddedAt.{each_t}
use Rattle.machines.specs.EmitMachineAt.{AllWrite, equations_at}
use Rattle.machines.specs.WriteNodesAt.{added_equations_t}
use Rattle.machines.proofs.emit_machine.put_all_equations.Given as goal

abbrev pub invariant-loop-i : goal.invariant-loop-i
invariant-loop-i l = (length {A = ℕ} l.layout ≡ length {A = ℕ} l.initial.layout) × (length {A = ℕ} l.rows ≡ length {A = ℕ} l.initial.rows) × (length {A = ℕ} l.qualified ≡ length {A = ℕ} l.initial.qualified) × (length {A = ℕ} l.out ≡ length {A = ℕ} l.initial.out) × (length {A = ℕ} l.made ≡ length {A = ℕ} l.initial.made) × (l.c ≤ l.n) × ((ns : List Name) → length ns ≡ l.drawing.pack.names → (eqs : ℕ → List Item) → AllWrite l.old (equations_at ns l.drawing.pack.bytes.now l.offsets l.machines) l.defs l.n eqs → render l.old (each_t (added_equations_t l.receivers eqs l.k) (l.c - l.i) l.i) (state_of l.out l.made l.v) ≡ render l.old (each_t (added_equations_t l.receivers eqs l.k) l.n 0) (state_of l.initial.out l.initial.made l.initial.v))

abbrev pub decreases-loop-i : goal.decreases-loop-i
decreases-loop-i l = l.c - l.i
