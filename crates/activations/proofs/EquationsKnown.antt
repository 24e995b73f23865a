-- The equations that are written for an activation that was read are those of the definition.
use Prim.Native.Nat.{ℕ, ◌+◌, ◌<◌, ◌≤◌}
use mathlib.Core.List.{List, [], ◌++◌, append_assoc}
use mathlib.Core.Bool.{Bool, false}
use mathlib.Core.Option.{none}
use mathlib.Core.Path.{◌≡◌, sym, ap, ◌∙◌}
use lib.ListN.{length}
use Rattle.wire.specs.Answer.{counted, value}
use Rattle.wire.specs.Lists.{All, Bytes}
use Rattle.wire.specs.Writer.{State}
use Rattle.pack_rules.specs.Names.{Name}
use Rattle.pack_rules.specs.Syntax.{Activation, Enum, Equation, Expr, Port}
use Rattle.pack_rules.specs.Forms.{name_at}
use Rattle.pack_rules.specs.Legal.{Fresh, LegalName}
use Rattle.pack_rules.specs.Read.{activation_in, enum_in}
use Rattle.pack_rules.specs.Write.{Item, each, equation_items}
use Rattle.pack.specs.Table.{tabled}
use Rattle.pack.specs.Intern.{render}
use Rattle.pack.proofs.Interns.{render-append}
use Rattle.machines.specs.EmitAt.{pack_name}
use Rattle.machines.proofs.LocalLaws.{each_append}
use Rattle.machines.proofs.MachineEmitted.{numbered}
use Rattle.activations.specs.declared.pack_info.PackInfo.{PackInfo}
use Rattle.activations.specs.declared.parts.Act.{Act}
use Rattle.activation_rules.specs.MadeNames.{else_scope}
use Rattle.activation_rules.specs.EmptyLeft.{has_empty_left}
use Rattle.activation_rules.specs.RewriteLast.{conditions_of}
use Rattle.activation_rules.specs.Types.{first_typed, readable}
use Rattle.activation_rules.specs.Sought.{expressions, found}
use Rattle.activation_rules.specs.Holders.{holders_made, make_holders}
use Rattle.activation_rules.specs.Flags.{flag_equations}
use Rattle.activation_rules.specs.Clocks.{guard_equations}
use Rattle.activation_rules.specs.Scopes.{branch_equations, scope_equations}
use Rattle.activation_rules.specs.Merges.{merge_equations}
use Rattle.activation_rules.specs.Lower.{act_equations, tail_of}
use Rattle.activations.specs.Lookups.{MadeIs}
use Rattle.activations.specs.ByNumber.{port_merges_t}
use Rattle.activations.specs.Places.{act_at}
use Rattle.activations.specs.Walks.{LastIs}
use Rattle.activations.specs.FlagsAt.{flags_t}
use Rattle.activations.specs.TypesAt.{TypesAre}
use Rattle.activations.specs.FirstVariantsAt.{FirstsAre}
use Rattle.activations.specs.LastsAt.{RowsFrom}
use Rattle.activations.specs.HoldersTyped.{KnownAt}
use Rattle.activations.specs.ScopesAt.{scopes_t}
use Rattle.activations.specs.EquationsAt.{act_equations_t}
use Rattle.activations.proofs.ActRead.{act-to, activation-value}
use Rattle.activations.proofs.MergesEmitted.{merges-read}
use Rattle.activations.proofs.FlagsWritten.{flags-written}
use Rattle.activations.proofs.ActKnown.{conditions-length, holder-equations, scopes-written}

-- equations after equations
module _ (old : List ℕ) where
  one-after : (xs ys : List Equation) (z : State) → render old (each equation_items ys) (render old (each equation_items xs) z) ≡ render old (each equation_items (xs ++ ys)) z
  one-after xs ys z =
      sym (ap (λ (is : List Item). render old is z) (each_append equation_items xs ys) ∙ render-append old (each equation_items xs) (each equation_items ys) z)

  five-after : (u v w x y : List Equation) (z : State) → render old (each equation_items y) (render old (each equation_items x) (render old (each equation_items w) (render old (each equation_items v) (render old (each equation_items u) z)))) ≡ render old (each equation_items (u ++ (v ++ (w ++ (x ++ y))))) z
  five-after u v w x y z =
      one-after x y (render old (each equation_items w) (render old (each equation_items v) (render old (each equation_items u) z)))
      ∙ one-after w (x ++ y) (render old (each equation_items v) (render old (each equation_items u) z))
      ∙ one-after v (w ++ (x ++ y)) (render old (each equation_items u) z)
      ∙ one-after u (v ++ (w ++ (x ++ y))) z

module _ (ns : List Name) (fresh : Fresh [] ns) (legal : All LegalName ns) (few : length ns + length ns ≤ 65536) (under : length ns < 65536) (s : List ℕ) (by : Bytes s) (short : length s ≤ 65536) (last : ℕ) (L : LastIs ns last)
    (offsets : List ℕ) (placed : (i : ℕ) → i < length ns → pack_name s offsets i ≡ name_at ns i) (made : Bool) (M : MadeIs ns made) (enums : List Enum)
    (at : ℕ) (A : Activation) (q : ℕ) (d : activation_in ns s at ≡ value A q) (filled : has_empty_left A ≡ false)
    (env table outs : List ℕ) (rows : ℕ) (base ps : List Port) (gs : List Equation) (count : rows ≡ length (found (expressions A) [])) (R : RowsFrom ns s table 0 (found (expressions A) []))
    (H : make_holders enums A.name base A.outputs (found (expressions A) []) ≡ holders_made ps gs) (K : KnownAt ns s A.name env table rows (base ++ ps)) (O : TypesAre ns s outs (first_typed A.outputs)) (low : length env ≤ 65536) where
  abbrev conds : List Expr
  conds = conditions_of A.name A.branches

  abbrev vars : List Name
  vars = readable (base ++ ps) A.outputs

  -- the scopes, by the number of conditions
  scoped : (z : State) → scopes_t (tabled ns) s offsets (length ns) made ns last table rows env outs A.name (act_at ns s at).n (act_at ns s at).branches (act_at ns s at).other z
      ≡ render (tabled ns) (each equation_items (branch_equations A.name (length conds) vars 0 A.branches ++ scope_equations A.name (length conds) vars else_scope [] A.else_equations)) z
  scoped z =
      scopes-written ns fresh legal few s by short last L offsets placed made M enums at A q d filled env table outs rows base ps gs count R H K O low z
      ∙ ap (λ (n : ℕ). render (tabled ns) (each equation_items (branch_equations A.name n vars 0 A.branches ++ scope_equations A.name n vars else_scope [] A.else_equations)) z) (sym (conditions-length A.name A.branches))

  merged : (z : State) → render (tabled ns) (port_merges_t ns s offsets A.name conds (act_at ns s at).outputs) z ≡ render (tabled ns) (each equation_items (merge_equations A.name conds A.outputs)) z
  merged z =
      let r = activation-value ns s at A q d in
      ap (λ (x : Act). render (tabled ns) (port_merges_t ns s offsets A.name conds x.outputs) z) (act-to ns s at A q r).3
      ∙ merges-read ns s offsets (tabled ns) placed (numbered ns fresh legal under s by) A.name conds A.outputs r.to-outputs r.to-branches r.outputs z

  -- THE LINK: all equations of the activation
  pub equations-known : (b : PackInfo) (to : ℕ) → counted (enum_in ns s) s b.enums ≡ value enums to → FirstsAre ns s b.enums offsets → b.names ≡ length ns → b.last ≡ last → b.made ≡ made → (z : State)
      → act_equations_t ns (tabled ns) s b offsets A.name table rows env outs (act_at ns s at) (conditions_of A.name A.branches) z ≡ render (tabled ns) (each equation_items (act_equations A gs (readable (base ++ ps) A.outputs))) z
  unfolding act_equations_t act_equations
  equations-known b to E T en el em z =
      let old = tabled ns in
      let a = A.name in
      let act = act_at ns s at in
      let G = each equation_items (guard_equations a 1 (tail_of conds)) in
      let B = branch_equations a (length conds) vars 0 A.branches in
      let S = scope_equations a (length conds) vars else_scope [] A.else_equations in
      let F = flag_equations a none 0 conds in
      (λ i. render old (port_merges_t ns s offsets a conds act.outputs) (scopes_t old s offsets (en i) (em i) ns (el i) table rows env outs a act.n act.branches act.other (render old G (flags_t ns s (el i) old offsets a act.branches (holder-equations ns fresh legal few s by short last L offsets placed made M enums at A q d filled env table outs rows base ps gs count R H K O low b to E T z i)))))
      ∙ ap (λ (y : State). render old (port_merges_t ns s offsets a conds act.outputs) (scopes_t old s offsets (length ns) made ns last table rows env outs a act.n act.branches act.other (render old G y))) (flags-written ns fresh under legal s by short last L offsets placed a at A q (render old (each equation_items gs) z) d)
      ∙ ap (render old (port_merges_t ns s offsets a conds act.outputs)) (scoped (render old G (render old (each equation_items F) (render old (each equation_items gs) z))))
      ∙ merged (render old (each equation_items (B ++ S)) (render old G (render old (each equation_items F) (render old (each equation_items gs) z))))
      ∙ five-after old gs F (guard_equations a 1 (tail_of conds)) (B ++ S) (merge_equations a conds A.outputs) z
      ∙ ap (λ (es : List Equation). render old (each equation_items (gs ++ (F ++ (guard_equations a 1 (tail_of conds) ++ es)))) z) (append_assoc B S (merge_equations a conds A.outputs))
