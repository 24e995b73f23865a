-- The lowering of one activation into its owner.
use Rattle.std.specs.Prelude.{List, [], ◌∷◌, ◌++◌, cond, length}
use Rattle.std.proofs.Math.Option.{Option, none, some}
use Rattle.pack_rules.specs.Names.{Name}
use Rattle.pack_rules.specs.Report.{Refusal}
use Rattle.pack_rules.specs.Syntax.{Activation, Enum, Equation, Expr, Node, Port, Ty, t_bool}
use Rattle.activation_rules.specs.Refusals.{empty_left}
use Rattle.activation_rules.specs.MadeNames.{else_scope}
use Rattle.activation_rules.specs.Defines.{as_locals}
use Rattle.activation_rules.specs.Sought.{expressions, found}
use Rattle.activation_rules.specs.RewriteLast.{conditions_of}
use Rattle.activation_rules.specs.Types.{readable, sample_type, value_type, variables}
use Rattle.activation_rules.specs.Holders.{Holding, holders_made, make_holders, refused}
use Rattle.activation_rules.specs.Flags.{flag_equations}
use Rattle.activation_rules.specs.Clocks.{guard_equations}
use Rattle.activation_rules.specs.Scopes.{branch_equations, branch_locals, scope_equations, scope_locals}
use Rattle.activation_rules.specs.Merges.{merge_equations}
use Rattle.activation_rules.specs.Checks.{checks}
use Rattle.activation_rules.specs.EmptyLeft.{has_empty_left}

-- all but the first
unfoldable pub tail_of : List Expr → List Expr
tail_of [] = []
tail_of (c ∷ cs) = cs

-- Activations: the holders' equations `hs`, then flags, guards, samples and scopes, merges; `vars` may be read
unfoldable pub act_equations : Activation → List Equation → List Name → List Equation
act_equations A hs vars =
    let a : Name = A.name in
    let cs : List Expr = conditions_of a A.branches in
    hs
    ++ (flag_equations a none 0 cs
    ++ (guard_equations a 1 (tail_of cs)
    ++ (branch_equations a (length cs) vars 0 A.branches
    ++ (scope_equations a (length cs) vars else_scope [] A.else_equations ++ merge_equations a cs A.outputs))))

-- the locals of what is defined: all but the merged outputs, which the owner has
unfoldable pub act_locals : (typed valued : Name → Ty) → Activation → List Port → List Name → List Port
act_locals typed valued A hs vars =
    let a : Name = A.name in
    let cs : List Expr = conditions_of a A.branches in
    hs
    ++ (as_locals t_bool (flag_equations a none 0 cs)
    ++ (as_locals t_bool (guard_equations a 1 (tail_of cs))
    ++ (branch_locals typed valued a vars 0 A.branches ++ scope_locals typed valued a vars else_scope [] A.else_equations)))

-- refused, or the locals and equations that the owner gets
pub data Lowered : Type 0 where
  refuse : Refusal → Lowered
  make : List Port → List Equation → Lowered

-- what is made with the holders `ps` and `es`; `env` are the owner's variables and the holders
unfoldable pub makes : Activation → List Port → List Port → List Equation → Lowered
makes A env ps es =
    make
    (act_locals (sample_type env A.outputs) (value_type env A.outputs) A ps (readable env A.outputs))
    (act_equations A es (readable env A.outputs))

-- Report, kind 18: EmptyLeft comes after the holders' refusals
unfoldable pub with_holders : Activation → List Port → Holding → Lowered
with_holders A env (refused r) = refuse r
with_holders A env (holders_made ps es) = cond (has_empty_left A) (refuse (empty_left A.name)) (makes A (env ++ ps) ps es)

-- a refusal, where there is one
unfoldable pub unless : Option Refusal → Lowered → Lowered
unless none l = l
unless (some r) l = refuse r

-- Activations: checks, holders, and what is made
unfoldable pub lowered : List Enum → Activation → Node → Lowered
lowered es A n =
    unless (checks A) (with_holders A (variables n) (make_holders es A.name (variables n) A.outputs (found (expressions A) [])))
