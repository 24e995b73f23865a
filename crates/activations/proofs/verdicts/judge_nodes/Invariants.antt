use Prim.Native.Nat.{◌≤◌}
use mathlib.Core.List.{List}
use mathlib.Core.Path.{◌≡◌}
use lib.ListN.{length}
use Rattle.pack_rules.specs.Names.{Name}
use Rattle.pack_rules.specs.Syntax.{Activation, Enum, Node}
use Rattle.activations.specs.PackInfoAt.{Basis}
use Rattle.activations.specs.Fates.{Drawn, NodesFrom}
use Rattle.activations.proofs.NodesJudged.{Passing}
use Rattle.activations.proofs.verdicts.judge_nodes.Given as goal

abbrev pub invariant-loop-k : goal.invariant-loop-k
invariant-loop-k l = (ns : List Name) (es : List Enum) (N : List Node) (As : List Activation) (f : length As ≤ 6656) (D : Drawn ns l.pack es N As l.initial.acts) → Basis ns es l.old l.pack l.offsets l.info → NodesFrom ns l.pack l.nodes 0 N → length N ≡ l.m → length As ≡ l.n → Passing ns l.pack es N As f l.initial.acts D l.k l.acts
