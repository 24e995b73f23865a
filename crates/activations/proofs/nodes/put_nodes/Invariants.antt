use Prim.Native.Nat.{◌≤◌}
use mathlib.Core.List.{List}
use mathlib.Core.Path.{◌≡◌}
use lib.ListN.{length, drop}
use Rattle.wire.specs.Writer.{state_of}
use Rattle.pack_rules.specs.Names.{Name}
use Rattle.pack_rules.specs.Syntax.{Activation, Enum, Node}
use Rattle.pack_rules.specs.Write.{each, node_items}
use Rattle.pack.specs.Intern.{render}
use Rattle.machines.specs.ReceivingNodes.{Idle}
use Rattle.machines.specs.Sections.{node_names}
use Rattle.activations.specs.ActTable.{goal_t}
use Rattle.activations.specs.Joining.{each_at, joined}
use Rattle.activations.specs.PackInfoAt.{Basis}
use Rattle.activations.specs.AddedParts.{Settled}
use Rattle.activations.proofs.nodes.put_nodes.Given as goal

abbrev pub invariant-loop-k : goal.invariant-loop-k
invariant-loop-k l = Idle (goal_t l.acts) l.n l.k l.next × ((ns : List Name) (es : List Enum) (N : List Node) (As : List Activation) (f : length As ≤ 6656) (S : Settled ns l.pack es N As l.nodes l.acts l.count l.n) → Basis ns es l.old l.pack l.offsets l.info → render l.old (each node_items (each_at (λ j. joined es (node_names N) j As) l.k (drop l.k N))) (state_of l.out l.made l.v) ≡ render l.old (each node_items (each_at (λ j. joined es (node_names N) j As) 0 N)) (state_of l.initial.out l.initial.made l.initial.v))
