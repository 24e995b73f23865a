use Prim.Native.Nat.{◌≤◌}
use mathlib.Core.List.{List}
use mathlib.Core.Path.{◌≡◌}
use lib.ListN.{length}
use Rattle.pack_rules.specs.Names.{Name}
use Rattle.pack_rules.specs.Syntax.{Activation, Enum, Node}
use Rattle.activations.specs.PackInfoAt.{Basis, Types}
use Rattle.activations.specs.Fates.{Drawn}
use Rattle.activations.proofs.NodesJudged.{Going}
use Rattle.activations.proofs.verdicts.judge_node.Given as goal

abbrev pub invariant-loop-i : goal.invariant-loop-i
invariant-loop-i l = (ns : List Name) (es : List Enum) (N : List Node) (As : List Activation) (m : Node) (f : length As ≤ 6656) (D : Drawn ns l.pack es N As l.initial.acts) → Basis ns es l.old l.pack l.offsets l.info → length As ≡ l.n → Types ns l.pack m l.initial.later → Going ns l.pack es N As f l.k m l.initial.acts D l.i l.later l.acts
