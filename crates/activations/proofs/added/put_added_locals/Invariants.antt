use Prim.Native.Nat.{◌≤◌}
use mathlib.Core.List.{List}
use mathlib.Core.Path.{◌≡◌}
use lib.ListN.{length}
use Rattle.wire.specs.Writer.{state_of}
use Rattle.pack_rules.specs.Names.{Name}
use Rattle.pack_rules.specs.Syntax.{Activation, Enum, Node}
use Rattle.pack_rules.specs.Write.{port_items}
use Rattle.activations.specs.PackInfoAt.{Basis, Types}
use Rattle.activations.specs.Fates.{Drawn}
use Rattle.activations.specs.AddedParts.{AllMade, ports_of}
use Rattle.activations.proofs.AddedPartsKnown.{Written}
use Rattle.activations.proofs.added.put_added_locals.Given as goal

abbrev pub invariant-loop-i : goal.invariant-loop-i
invariant-loop-i l = (ns : List Name) (es : List Enum) (N : List Node) (As : List Activation) (m : Node) (g : length As ≤ 6656) (D : Drawn ns l.pack es N As l.acts) (M : AllMade es N As l.k m) → Basis ns es l.old l.pack l.offsets l.info → length As ≡ l.count → Types ns l.pack m l.initial.later → Written ns l.pack l.old es N As g l.k m l.acts D M ports_of port_items l.i l.later (state_of l.initial.out l.initial.made l.initial.v) (state_of l.out l.made l.v)
