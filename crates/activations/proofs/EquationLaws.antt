-- Laws for the code that writes the equations of an activation.
use Prim.Native.Nat.{ℕ}
use mathlib.Core.List.{List}
use mathlib.Core.Path.{◌≡◌, ap, ◌∙◌}
use Rattle.wire.specs.Writer.{State}
use Rattle.pack_rules.specs.Names.{Name}
use Rattle.pack_rules.specs.Syntax.{Expr}
use Rattle.pack_rules.specs.Write.{each, equation_items}
use Rattle.pack.specs.Intern.{render}
use Rattle.machines.specs.AddedAt.{each_t}
use Rattle.activations.specs.declared.pack_info.PackInfo.{PackInfo}
use Rattle.activations.specs.declared.parts.Act.{Act}
use Rattle.activation_rules.specs.Clocks.{guard_equations}
use Rattle.activation_rules.specs.Lower.{tail_of}
use Rattle.activations.specs.ByNumber.{port_merges_t}
use Rattle.activations.specs.FlagsAt.{flags_t}
use Rattle.activations.specs.HoldersAt.{row_items}
use Rattle.activations.specs.ScopesAt.{scopes_t}
use Rattle.activations.specs.EquationsAt.{act_equations_t}

pub equations-are : (ns : List Name) (old s : List ℕ) (b : PackInfo) (offsets : List ℕ) (a : Name) (lasts : List ℕ) (rows : ℕ) (env outs : List ℕ) (A : Act) (cs : List Expr) (z u v w x y : State)
    → u ≡ render old (each_t (row_items ns s b offsets a env lasts) rows 0) z
    → v ≡ flags_t ns s b.last old offsets a A.branches u
    → w ≡ render old (each equation_items (guard_equations a 1 (tail_of cs))) v
    → x ≡ scopes_t old s offsets b.names b.made ns b.last lasts rows env outs a A.n A.branches A.other w
    → y ≡ render old (port_merges_t ns s offsets a cs A.outputs) x
    → y ≡ act_equations_t ns old s b offsets a lasts rows env outs A cs z
unfolding act_equations_t
equations-are ns old s b offsets a lasts rows env outs A cs z u v w x y e f g h i =
    i
    ∙ ap (render old (port_merges_t ns s offsets a cs A.outputs))
    (h
    ∙ ap (scopes_t old s offsets b.names b.made ns b.last lasts rows env outs a A.n A.branches A.other)
    (g ∙ ap (render old (each equation_items (guard_equations a 1 (tail_of cs)))) (f ∙ ap (flags_t ns s b.last old offsets a A.branches) e)))
