use Prim.Native.Nat.{ℕ, ◌-◌}
use mathlib.Core.List.{List}
use mathlib.Core.Path.{◌≡◌}
use lib.ListN.{length}
use Rattle.wire.specs.Writer.{state_of}
use Rattle.pack_rules.specs.Names.{Name}
use Rattle.pack_rules.specs.Write.{Item}
use Rattle.pack.specs.Intern.{render}
use Rattle.machines.specs.EmitMachineAt.{AllWrite, equations_at}
use Rattle.machines.specs.WriteNodesAt.{old_nodes_t}
use Rattle.machines.specs.ReceivingNodes.{Idle, goes_t}
use Rattle.machines.proofs.write_nodes.put_old_nodes.Given as goal

abbrev pub invariant-loop-k : goal.invariant-loop-k
invariant-loop-k l = Idle (goes_t l.receivers) l.n l.k l.b × ((ns : List Name) → length ns ≡ l.drawing.pack.names → (eqs : ℕ → List Item) → AllWrite l.old (equations_at ns l.drawing.pack.bytes.now l.offsets l.machines) l.defs l.n eqs → render l.old (old_nodes_t ns l.drawing.pack.bytes.now l.defs l.receivers l.regcounts l.offsets l.n eqs (l.count - l.k) l.k l.p) (state_of l.out l.made l.v) ≡ render l.old (old_nodes_t ns l.drawing.pack.bytes.now l.defs l.receivers l.regcounts l.offsets l.n eqs l.count 0 l.from) (state_of l.initial.out l.initial.made l.initial.v))
