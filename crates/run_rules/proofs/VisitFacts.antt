-- Two branches that count their own visits, and an else scope that keeps what the output was: a run of it, and what the scopes give over
-- their own cycles, computed. The first branch is taken in cycles 1, 2 and 4, the second in 3, 5 and 7, neither in 0 and 6.
use Prim.Native.Nat.{ℕ, suc}
use mathlib.Core.List.{List, [], ◌∷◌, ◌++◌}
use mathlib.Core.Bool.{Bool, true, false, ◌&&◌}
use mathlib.Core.Option.{Option, none, some}
use mathlib.Core.Path.{◌≡◌, refl}
use lib.Dec.{eqb}
use Rattle.wire.specs.Decimal.{decimal, digits}
use Rattle.pack_rules.specs.Names.{Name, eq_name, member}
use Rattle.pack_rules.specs.Report.{first_of}
use Rattle.pack_rules.specs.Syntax.{Activation, Expr, Port, Ty, e_arrow, e_binary, e_call, e_const, e_if, e_iterate, e_merge, e_pre, e_var, e_when, i_map, l_int, o_add, t_bool, t_int32, x_cons, x_nil}
use Rattle.machine_rules.specs.Lower.{is_only, own_value}
use Rattle.activation_rules.specs.LastCalls.{as_var, call_kind, last_name, last_rest, last_shape}
use Rattle.activation_rules.specs.MadeNames.{Scope, act_prefix, branch, clock_var, else_scope, flag_var, last_infix, last_var, made_name, none_var, sample_var, tag, value_var}
use Rattle.activation_rules.specs.SampledConstants.{has_const}
use Rattle.activation_rules.specs.FreeVars.{free_vars, push}
use Rattle.activation_rules.specs.Sought.{bodies, conditions, expressions, right_sides}
use Rattle.activation_rules.specs.RewriteLast.{conditions_of, rewrite_last}
use Rattle.run_rules.specs.Run.{Clock, Run, Value, v_other, arrow_at, binary, binary_value, eval, every, literal, pre_at, previous}
use Rattle.run_rules.specs.Scopes.{choice, eq_scope, scope_clock, scope_in}
use Rattle.run_rules.specs.Visits.{all_calls, any_in, apart_from, asks, calls_in, calls_of, cell_in, count, first_given, has_source, last_value, narrow, scope_is, side_of, simple, visit, visit_value}
use Rattle.run_rules.proofs.ChartFacts.{o, sets}
use Rattle.run_rules.proofs.PremisesTested.{fed, truth}
use Rattle.run_rules.proofs.RunFacts.{ticks_in}
use Rattle.run_rules.proofs.RunTables.{adding, cell_at, lit_value, look, numbers, open_run, sometimes, total, truths}
use Rattle.run_rules.proofs.Tested.{is_present}

abbrev pub a : Name
a = 65 ∷ []

abbrev pub F : Name
F = 70 ∷ []

abbrev pub p : Name
p = 112 ∷ []

abbrev pub q : Name
q = 113 ∷ []

abbrev pub port : Ty → Name → Port
port t n = record { name = n; ty = t }

-- `1 -> pre o + 1`
abbrev pub counts : Expr
counts = e_arrow (e_const (l_int 1)) (e_binary o_add (e_pre (e_var o)) (e_const (l_int 1)))

-- o counts where p, and where q, else it is `last(o, 7)`
unfoldable pub act : Activation
unfolding last_name
act =
    record {
      name = a;
      owner = F;
      outputs = port t_int32 o ∷ [];
      branches = record { name = p; condition = e_var p; equations = sets counts } ∷ record { name = q; condition = e_var q; equations = sets counts } ∷ [];
      else_equations = sets (e_call last_name (x_cons (e_var o) (x_cons (e_const (l_int 7)) x_nil)));
    }

abbrev no : {A : Type 0} → Option A
no = none

abbrev to : {A : Type 0} → A → Option A
to x = some x

unfoldable pub run : Run ℕ
run =
    open_run adding (λ n h. none) []
    (record { of = p; cells = truths (false ∷ true ∷ true ∷ false ∷ true ∷ false ∷ false ∷ false ∷ []) }
    ∷ record { of = q; cells = truths (false ∷ false ∷ false ∷ true ∷ true ∷ true ∷ false ∷ true ∷ []) }
    ∷ record { of = o; cells = numbers (to 7 ∷ to 1 ∷ to 2 ∷ to 1 ∷ to 3 ∷ to 2 ∷ to 2 ∷ to 3 ∷ []) }
    ∷ record { of = last_var a o; cells = numbers (to 7 ∷ to 7 ∷ to 1 ∷ to 2 ∷ to 1 ∷ to 3 ∷ to 2 ∷ to 2 ∷ []) }
    ∷ record { of = flag_var a 0; cells = truths (false ∷ true ∷ true ∷ false ∷ true ∷ false ∷ false ∷ false ∷ []) }
    ∷ record { of = none_var a 0; cells = truths (true ∷ false ∷ false ∷ true ∷ false ∷ true ∷ true ∷ true ∷ []) }
    ∷ record { of = flag_var a 1; cells = truths (false ∷ false ∷ false ∷ true ∷ false ∷ true ∷ false ∷ true ∷ []) }
    ∷ record { of = clock_var a 1; cells = sometimes (to false ∷ no ∷ no ∷ to true ∷ no ∷ to true ∷ to false ∷ to true ∷ []) }
    ∷ record { of = sample_var a (branch 0) o; cells = numbers (no ∷ to 1 ∷ to 2 ∷ no ∷ to 3 ∷ []) }
    ∷ record { of = value_var a (branch 0) o; cells = numbers (no ∷ to 1 ∷ to 2 ∷ no ∷ to 3 ∷ []) }
    ∷ record { of = sample_var a (branch 1) o; cells = numbers (no ∷ no ∷ no ∷ to 1 ∷ no ∷ to 2 ∷ no ∷ to 3 ∷ []) }
    ∷ record { of = value_var a (branch 1) o; cells = numbers (no ∷ no ∷ no ∷ to 1 ∷ no ∷ to 2 ∷ no ∷ to 3 ∷ []) }
    ∷ record { of = sample_var a else_scope (last_var a o); cells = numbers (to 7 ∷ no ∷ no ∷ no ∷ no ∷ no ∷ to 2 ∷ []) }
    ∷ record { of = value_var a else_scope o; cells = numbers (to 7 ∷ no ∷ no ∷ no ∷ no ∷ no ∷ to 2 ∷ []) }
    ∷ [])
    []

-- in each cycle: its scope, and what that scope's right side gives over the scope's own cycles, which is the output; what `last` holds is in
-- the run, on the clock of every cycle
pub record VisitStep : Type 0 where
  pub scope : Scope
  pub gives : Option (Value ℕ)
  pub output : Option (Value ℕ)

unfoldable pub value_of : Scope → ℕ → Option Expr → Option (Value ℕ)
value_of s t none = none
value_of s t (some e) = visit_value run 8 (fed run) act s e t

unfoldable pub visits_from : ℕ → List VisitStep → List VisitStep
visits_from t [] = []
visits_from t (x ∷ xs) =
    record { scope = scope_in (fed run) act t; gives = value_of (scope_in (fed run) act t) t (side_of act (scope_in (fed run) act t) o); output = run.at o t }
    ∷ visits_from (suc t) xs

abbrev given : Scope → ℕ → VisitStep
given s n = record { scope = s; gives = some (v_other n); output = some (v_other n) }

unfoldable pub visit_steps : List VisitStep
visit_steps =
    given else_scope 7
    ∷ given (branch 0) 1
    ∷ given (branch 0) 2
    ∷ given (branch 1) 1
    ∷ given (branch 0) 3
    ∷ given (branch 1) 2
    ∷ given else_scope 2
    ∷ given (branch 1) 3
    ∷ []

pub visits-give : visits_from 0 visit_steps ≡ visit_steps
unfolding visits_from visit_steps value_of visit_value narrow cell_in visit count side_of scope_is own_value is_only scope_in scope_clock choice eq_scope conditions_of rewrite_last call_kind last_shape last_rest as_var act run open_run adding lit_value total look cell_at truths numbers sometimes is_present fed truth eval literal binary binary_value pre_at arrow_at previous last_name last_var last_infix flag_var none_var clock_var sample_var value_var tag made_name act_prefix decimal digits eq_name member
visits-give = refl

-- what `last(o, 7)` is, cycle by cycle: the value of the cycle before, whatever the scope; the run's holder has it
unfoldable pub lasts_from : ℕ → List (Option (Value ℕ)) → List (Option (Value ℕ))
lasts_from t [] = []
lasts_from t (x ∷ xs) = last_value run (e_const (l_int 7)) o t ∷ lasts_from (suc t) xs

pub lasts-hold : lasts_from 0 (numbers (to 7 ∷ to 7 ∷ to 1 ∷ to 2 ∷ to 1 ∷ to 3 ∷ to 2 ∷ to 2 ∷ [])) ≡ numbers (to 7 ∷ to 7 ∷ to 1 ∷ to 2 ∷ to 1 ∷ to 3 ∷ to 2 ∷ to 2 ∷ [])
unfolding lasts_from last_value run open_run adding lit_value look cell_at truths numbers sometimes eval literal last_var last_infix flag_var none_var clock_var sample_var value_var tag made_name act_prefix decimal digits eq_name member
lasts-hold = refl

-- a clock that ticks in cycles 1, 2 and 4: its ticks before each of the cycles 0 to 5; its first four ticks of six cycles, the third of four, the first of none
abbrev clock : Clock
clock = ticks_in (false ∷ true ∷ true ∷ false ∷ true ∷ [])

pub ticks-counted : count clock 0 ∷ count clock 1 ∷ count clock 2 ∷ count clock 3 ∷ count clock 4 ∷ count clock 5 ∷ [] ≡ 0 ∷ 0 ∷ 1 ∷ 2 ∷ 2 ∷ 3 ∷ []
unfolding count ticks_in
ticks-counted = refl

pub ticks-visited : visit clock 6 0 ∷ visit clock 6 1 ∷ visit clock 6 2 ∷ visit clock 6 3 ∷ visit clock 4 2 ∷ visit clock 0 0 ∷ [] ≡ to 1 ∷ to 2 ∷ to 4 ∷ no ∷ no ∷ no ∷ []
unfolding visit count ticks_in
ticks-visited = refl

-- `last(p)`, `last(p, n)`
abbrev bare : Expr
bare = e_call last_name (x_cons (e_var p) x_nil)

abbrev from : Expr → Expr
from e = e_call last_name (x_cons (e_var p) (x_cons e x_nil))

abbrev n : ℕ → Expr
n k = e_const (l_int k)

-- the initial that is given first, in preorder; a call inside an initial is none of the calls
pub first-given :
    first_given p (all_calls (bare ∷ e_binary o_add (from (n 1)) (from (n 2)) ∷ from (n 3) ∷ []))
    ∷ first_given p (all_calls (from (e_call last_name (x_cons (e_var q) x_nil)) ∷ []))
    ∷ first_given q (all_calls (from (e_call last_name (x_cons (e_var q) (x_cons (n 4) x_nil))) ∷ []))
    ∷ []
    ≡ to (n 1) ∷ to (e_call last_name (x_cons (e_var q) x_nil)) ∷ no ∷ []
unfolding first_given all_calls calls_of calls_in call_kind last_shape last_rest as_var last_name first_of eq_name
first-given = refl

-- what is allowed in a right side, and where its values come from
pub kinds-allowed :
    simple (e_if (e_var p) (e_pre (e_var q)) (n 1)) ∷ simple (e_call q x_nil) ∷ simple (e_pre (e_when (e_var q) p true)) ∷ simple (e_merge p (n 1) (n 2)) ∷ simple (e_iterate i_map q false x_nil) ∷ []
    ≡ true ∷ false ∷ false ∷ false ∷ false ∷ []
unfolding simple
kinds-allowed = refl

pub sources-told : has_source (p ∷ []) (e_pre (e_var p)) ∷ has_source (p ∷ []) (e_binary o_add (e_var q) (n 1)) ∷ has_source (p ∷ []) (e_var q) ∷ [] ≡ true ∷ true ∷ false ∷ []
unfolding has_source any_in free_vars push has_const member eq_name
sources-told = refl

-- who is asked for by a call of `last`; lists of names that have none in common
pub calls-ask : asks p (all_calls (bare ∷ [])) ∷ asks q (all_calls (bare ∷ [])) ∷ asks p (all_calls (e_var p ∷ [])) ∷ apart_from (p ∷ []) (q ∷ []) ∷ apart_from (q ∷ p ∷ []) (a ∷ p ∷ []) ∷ [] ≡ true ∷ false ∷ false ∷ true ∷ false ∷ []
unfolding asks apart_from all_calls calls_of calls_in call_kind last_shape last_rest as_var last_name member eq_name
calls-ask = refl
