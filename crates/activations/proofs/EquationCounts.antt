-- An activation makes an equation for each local, and one for each output.
use Prim.Native.Nat.{◌+◌}
use mathlib.Core.List.{List}
use mathlib.Core.Path.{◌≡◌, sym, ap, subst, ◌∙◌}
use lib.ListN.{length}
use Rattle.pack_rules.specs.Syntax.{Activation, Enum, Equation, Node, Port}
use Rattle.activation_rules.specs.Lower.{lowered, make}
use Rattle.activations.proofs.CountLaws.{Even, act-count, holders-count}
use Rattle.activations.proofs.Prepared.{made-makes}

pub equations-counted : (es : List Enum) (A : Activation) (n : Node) (ls : List Port) (qs : List Equation) → lowered es A n ≡ make ls qs → length qs ≡ length ls + length A.outputs
equations-counted es A n ls qs e =
    let m = made-makes es A n ls qs e in
    let h : length m.ports ≡ length m.equations = subst Even m.holds (holders-count es A.name _ A.outputs _) in
    ap length m.written ∙ act-count _ _ A m.ports m.equations _ h ∙ ap (λ (l : List Port). length l + length A.outputs) (sym m.locals)
