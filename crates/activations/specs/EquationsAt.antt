-- Internal: nothing here has to be believed; laws tie it to what docs/TRUSTED.md lists.
-- The equations of an activation as the code writes them: holders, flags, guards, scopes, merges.
use Rattle.std.specs.Prelude.{ℕ, List}
use Rattle.wire.specs.Writer.{State}
use Rattle.pack_rules.specs.Names.{Name}
use Rattle.pack_rules.specs.Syntax.{Expr}
use Rattle.pack_rules.specs.Write.{each, equation_items}
use Rattle.pack.specs.Intern.{render}
use Rattle.machines.specs.AddedAt.{each_t}
use Rattle.activations.specs.declared.pack_info.PackInfo.{PackInfo}
use Rattle.activations.specs.declared.parts.Act.{Act}
use Rattle.activation_rules.specs.Clocks.{guard_equations}
use Rattle.activation_rules.specs.Lower.{tail_of}
use Rattle.activations.specs.ByNumber.{port_merges_t}
use Rattle.activations.specs.FlagsAt.{flags_t}
use Rattle.activations.specs.HoldersAt.{row_items}
use Rattle.activations.specs.ScopesAt.{scopes_t}

-- guards and merges depend on the number of conditions only: any so many serve
unfoldable pub act_equations_t : List Name → List ℕ → List ℕ → PackInfo → List ℕ → Name → List ℕ → ℕ → List ℕ → List ℕ → Act → List Expr → State → State
act_equations_t ns old s b offsets a lasts rows env outs A cs z =
    render old (port_merges_t ns s offsets a cs A.outputs)
    (scopes_t old s offsets b.names b.made ns b.last lasts rows env outs a A.n A.branches A.other
    (render old (each equation_items (guard_equations a 1 (tail_of cs)))
    (flags_t ns s b.last old offsets a A.branches
    (render old (each_t (row_items ns s b offsets a env lasts) rows 0) z))))
