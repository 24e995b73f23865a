-- What the plain chart, the demand's sentence and the scopes of an activation come to, computed: one table for each, and one theorem.
use Prim.Native.Nat.{ℕ, suc}
use mathlib.Core.List.{List, [], ◌∷◌, ◌++◌}
use mathlib.Core.Bool.{Bool, true, false}
use mathlib.Core.Option.{Option, none, some}
use mathlib.Core.Path.{◌≡◌, refl}
use lib.ListN.{length}
use Rattle.pack_rules.specs.Forms.{name_at}
use Rattle.pack_rules.specs.Names.{Name, eq_name, member}
use Rattle.pack_rules.specs.Syntax.{Activation, Enum, Equation, Expr, Package, Transition, e_const, e_var, l_bool, l_int}
use Rattle.machine_rules.specs.Checks.{collect_state_names}
use Rattle.machine_rules.specs.Lower.{all_states_cover, is_only, is_some, own_value, size_s}
use Rattle.machine_rules.specs.MadeNames.{sm_prefix}
use Rattle.machine_rules.specs.Resolved.{ResolvedMachine, ResolvedStates, r_cons, r_nil, s_cons, s_nil}
use Rattle.activation_rules.specs.MadeNames.{Scope, branch, else_scope}
use Rattle.activation_rules.specs.RewriteLast.{conditions_of, rewrite_last}
use Rattle.run_rules.specs.DemandPremises.{enum_values, none_starts, values_in}
use Rattle.run_rules.specs.Chart.{Guards, RegionMemory, at_first, begins_anew, choose, cycle, find, first_memory, first_true, found_in, founds, keep, memories_after, memories_in, select_s, selected, start_s, step_region, step_states, top_of}
use Rattle.run_rules.specs.Run.{Run, clock_of, eval, if_value, literal, previous}
use Rattle.run_rules.specs.Scopes.{choice, chosen, eq_scope, given_by, scope_clock, scope_in}
use Rattle.run_rules.specs.Premises.{starts_with}
use Rattle.run_rules.specs.StatedDirectly.{active_before, demanded_state, latest, within}
use Rattle.run_rules.proofs.PremisesTested.{fed, truth}
use Rattle.run_rules.proofs.RunFacts.{ticks_in}
use Rattle.run_rules.proofs.RunTables.{Column, cell_at, look, open_run, table_run, truths}

abbrev pub On : Name
On = 65 ∷ []

abbrev pub Off : Name
Off = 66 ∷ []

abbrev pub P : Name
P = 80 ∷ []

abbrev pub Q : Name
Q = 81 ∷ []

-- `swap`
abbrev pub swap : Name
swap = 115 ∷ 119 ∷ 97 ∷ 112 ∷ []

abbrev pub o : Name
o = 111 ∷ []

abbrev pub A : Name
A = 65 ∷ []

abbrev pub B : Name
B = 66 ∷ []

abbrev pub K : Name
K = 75 ∷ []

abbrev pub L : Name
L = 76 ∷ []

abbrev pub U : Name
U = 85 ∷ []

abbrev pub W : Name
W = 87 ∷ []

-- the states of a refinement in B: `B_X`, `B_Y`
abbrev pub BX : Name
BX = 66 ∷ 95 ∷ 88 ∷ []

abbrev pub BY : Name
BY = 66 ∷ 95 ∷ 89 ∷ []

-- `go`
abbrev pub go : Name
go = 103 ∷ 111 ∷ []

abbrev pub yes : Expr
yes = e_const (l_bool true)

abbrev pub no : Expr
no = e_const (l_bool false)

abbrev pub sets : Expr → List Equation
sets e = record { lhs = o ∷ []; rhs = e } ∷ []

abbrev pub to : Expr → Name → List Transition
to g n = record { guard = g; target = n } ∷ []

-- P to Q always; On and Off change places with `swap`
unfoldable pub nested : Bool → ResolvedStates
nested h = s_cons On [] (to (e_var swap) Off) (r_cons P h (s_cons P [] (to yes Q) r_nil (s_cons Q [] [] r_nil s_nil)) r_nil) (s_cons Off [] (to (e_var swap) On) r_nil s_nil)

-- On has an equation of its own, which the region covers, and two guards of which both may be true
unfoldable pub owned : ResolvedStates
owned =
    s_cons On (sets no) (to (e_var swap) Off ++ to yes On) (r_cons P false (s_cons P (sets yes) (to yes Q) r_nil (s_cons Q (sets (e_var swap)) [] r_nil s_nil)) r_nil)
    (s_cons Off (sets no) (to (e_var swap) On) r_nil s_nil)

-- A has a region P, Q, where P has a region K, L with history, and beside it a region U, W, which gives the output; B has a refinement's
unfoldable pub refined : ResolvedStates
refined =
    s_cons A [] (to (e_var go) B)
    (r_cons P false (s_cons P [] (to yes Q) (r_cons K true (s_cons K [] (to yes L) r_nil (s_cons L [] [] r_nil s_nil)) r_nil) (s_cons Q [] (to yes P) r_nil s_nil))
    (r_cons U false (s_cons U (sets (e_const (l_int 1))) (to yes W) r_nil (s_cons W (sets (e_const (l_int 2))) [] r_nil s_nil)) r_nil))
    (s_cons B [] (to (e_var go) A) (r_cons BX false (s_cons BX (sets (e_const (l_int 3))) (to yes BY) r_nil (s_cons BY (sets (e_const (l_int 4))) [] r_nil s_nil)) r_nil) s_nil)

-- A has a region P, whose state holds a region K, L and gives the output, and beside it a region U that gives it too; B has one with history
unfoldable pub deep : ResolvedStates
deep =
    s_cons A [] (to (e_var go) B)
    (r_cons P false (s_cons P (sets (e_const (l_int 1))) [] (r_cons K false (s_cons K [] (to yes L) r_nil (s_cons L [] [] r_nil s_nil)) r_nil) s_nil) (r_cons U false (s_cons U (sets (e_const (l_int 2))) [] r_nil s_nil) r_nil))
    (s_cons B [] (to (e_var go) A) (r_cons BX true (s_cons BX (sets (e_const (l_int 3))) (to yes BY) r_nil (s_cons BY (sets (e_const (l_int 4))) [] r_nil s_nil)) r_nil) s_nil)

unfoldable pub machine : Name → ResolvedStates → ResolvedMachine
machine i ss = record { name = 77 ∷ []; inputs = []; outputs = []; locals = []; initial = i; states = ss }

-- guards by their columns
unfoldable pub guards_by : List Column → Guards
guards_by columns g t = fed (table_run [] columns) g t

-- a cycle of the plain chart: the states found, what is kept then, and the right side selected for the output
pub record Step : Type 0 where
  pub found : List Name
  pub kept : List RegionMemory
  pub selects : Option Expr

abbrev step : List Name → List RegionMemory → Option Expr → Step
step f k e = record { found = f; kept = k; selects = e }

abbrev kept : Name → Bool → RegionMemory
kept s a = record { state = s; was_active = a }

-- a machine, the columns of its guards, and its cycles from 0 on
pub record ChartFact : Type 0 where
  pub machine : ResolvedMachine
  pub guards : List Column
  pub steps : List Step

unfoldable pub chart_facts : List ChartFact
chart_facts =
    -- an inner region without history, active in cycles 0, 1 and 3
    record {
      machine = machine On (nested false);
      guards = record { of = swap; cells = truths (false ∷ true ∷ true ∷ false ∷ []) } ∷ [];
      steps =
          step (On ∷ P ∷ []) (kept On true ∷ kept Q true ∷ []) none
          ∷ step (On ∷ Q ∷ []) (kept Off true ∷ kept Q true ∷ []) none
          ∷ step (Off ∷ Q ∷ []) (kept On true ∷ kept Q false ∷ []) none
          ∷ step (On ∷ P ∷ []) (kept On true ∷ kept Q true ∷ []) none
          ∷ [];
    }
    -- an inner region with history, active in cycles 0, 1 and 3
    ∷ record {
      machine = machine On (nested true);
      guards = record { of = swap; cells = truths (false ∷ true ∷ true ∷ false ∷ []) } ∷ [];
      steps =
          step (On ∷ P ∷ []) (kept On true ∷ kept Q true ∷ []) none
          ∷ step (On ∷ Q ∷ []) (kept Off true ∷ kept Q true ∷ []) none
          ∷ step (Off ∷ Q ∷ []) (kept On true ∷ kept Q false ∷ []) none
          ∷ step (On ∷ Q ∷ []) (kept On true ∷ kept Q true ∷ []) none
          ∷ [];
    }
    -- the first of two true guards, and a region that gives the output before its state
    ∷ record {
      machine = machine On owned;
      guards = record { of = swap; cells = truths (false ∷ true ∷ true ∷ false ∷ []) } ∷ [];
      steps =
          step (On ∷ P ∷ []) (kept On true ∷ kept Q true ∷ []) (some yes)
          ∷ step (On ∷ Q ∷ []) (kept Off true ∷ kept Q true ∷ []) (some (e_var swap))
          ∷ step (Off ∷ Q ∷ []) (kept On true ∷ kept Q false ∷ []) (some no)
          ∷ step (On ∷ P ∷ []) (kept On true ∷ kept Q true ∷ []) (some yes)
          ∷ [];
    }
    -- siblings, three levels, a region with history inside one without
    ∷ record {
      machine = machine A refined;
      guards = record { of = go; cells = truths (false ∷ false ∷ true ∷ false ∷ false ∷ true ∷ false ∷ []) } ∷ [];
      steps =
          step (A ∷ P ∷ K ∷ U ∷ BX ∷ []) (kept A true ∷ kept Q true ∷ kept L true ∷ kept W true ∷ kept BX false ∷ []) (some (e_const (l_int 1)))
          ∷ step (A ∷ Q ∷ L ∷ W ∷ BX ∷ []) (kept A true ∷ kept P true ∷ kept L false ∷ kept W true ∷ kept BX false ∷ []) (some (e_const (l_int 2)))
          ∷ step (A ∷ P ∷ L ∷ W ∷ BX ∷ []) (kept B true ∷ kept Q true ∷ kept L true ∷ kept W true ∷ kept BX false ∷ []) (some (e_const (l_int 2)))
          ∷ step (B ∷ Q ∷ L ∷ W ∷ BX ∷ []) (kept B true ∷ kept Q false ∷ kept L false ∷ kept W false ∷ kept BY true ∷ []) (some (e_const (l_int 3)))
          ∷ step (B ∷ Q ∷ L ∷ W ∷ BY ∷ []) (kept B true ∷ kept Q false ∷ kept L false ∷ kept W false ∷ kept BY true ∷ []) (some (e_const (l_int 4)))
          ∷ step (B ∷ Q ∷ L ∷ W ∷ BY ∷ []) (kept A true ∷ kept Q false ∷ kept L false ∷ kept W false ∷ kept BY true ∷ []) (some (e_const (l_int 4)))
          ∷ step (A ∷ P ∷ L ∷ U ∷ BY ∷ []) (kept A true ∷ kept Q true ∷ kept L true ∷ kept W true ∷ kept BY false ∷ []) (some (e_const (l_int 1)))
          ∷ [];
    }
    -- the first of two regions that give the output; a region whose state is held by one that is not active; history before the region was ever active
    ∷ record {
      machine = machine A deep;
      guards = record { of = go; cells = truths (false ∷ true ∷ false ∷ false ∷ []) } ∷ [];
      steps =
          step (A ∷ P ∷ K ∷ U ∷ BX ∷ []) (kept A true ∷ kept P true ∷ kept L true ∷ kept U true ∷ kept BX false ∷ []) (some (e_const (l_int 1)))
          ∷ step (A ∷ P ∷ L ∷ U ∷ BX ∷ []) (kept B true ∷ kept P true ∷ kept L true ∷ kept U true ∷ kept BX false ∷ []) (some (e_const (l_int 1)))
          ∷ step (B ∷ P ∷ L ∷ U ∷ BX ∷ []) (kept B true ∷ kept P false ∷ kept L false ∷ kept U false ∷ kept BY true ∷ []) (some (e_const (l_int 3)))
          ∷ step (B ∷ P ∷ L ∷ U ∷ BY ∷ []) (kept B true ∷ kept P false ∷ kept L false ∷ kept U false ∷ kept BY true ∷ []) (some (e_const (l_int 4)))
          ∷ [];
    }
    ∷ []

unfoldable pub steps_from : Guards → ResolvedMachine → ℕ → List Step → List Step
steps_from G m t [] = []
steps_from G m t (x ∷ xs) = step (found_in G m t) (memories_in G m (suc t)) (selected (name_at (found_in G m t)) m o) ∷ steps_from G m (suc t) xs

unfoldable pub charted : List ChartFact → List (List Step)
charted [] = []
charted (f ∷ fs) = steps_from (guards_by f.guards) f.machine 0 f.steps ∷ charted fs

unfoldable pub drawn : List ChartFact → List (List Step)
drawn [] = []
drawn (f ∷ fs) = f.steps ∷ drawn fs

-- what the table says is what the plain chart does
pub charts-do : charted chart_facts ≡ drawn chart_facts
unfolding charted drawn chart_facts steps_from guards_by machine nested owned refined deep table_run open_run look cell_at truths fed truth eval literal if_value found_in founds memories_in memories_after cycle top_of step_states step_region find keep begins_anew choose first_true first_memory at_first start_s selected select_s all_states_cover is_only is_some own_value size_s name_at eq_name member
charts-do = refl

-- A region by the demand's sentence: the cycles in which it is active, whether it has history, and its states. It is the inner one of
-- `nested`.
pub record SentenceFact : Type 0 where
  pub active : List Bool
  pub history : Bool
  pub states : List Name

unfoldable pub inner : ResolvedStates
inner = s_cons P [] (to yes Q) r_nil (s_cons Q [] [] r_nil s_nil)

unfoldable pub sentence_facts : List SentenceFact
sentence_facts =
    record { active = true ∷ true ∷ false ∷ true ∷ []; history = false; states = P ∷ Q ∷ Q ∷ P ∷ [] }
    ∷ record { active = true ∷ true ∷ false ∷ true ∷ []; history = true; states = P ∷ Q ∷ Q ∷ Q ∷ [] }
    ∷ record { active = false ∷ false ∷ true ∷ true ∷ false ∷ true ∷ []; history = false; states = P ∷ P ∷ P ∷ Q ∷ Q ∷ P ∷ [] }
    ∷ record { active = false ∷ false ∷ true ∷ true ∷ false ∷ true ∷ []; history = true; states = P ∷ P ∷ P ∷ Q ∷ Q ∷ Q ∷ [] }
    ∷ []

unfoldable pub states_from : SentenceFact → ℕ → List Name → List Name
states_from f t [] = []
states_from f t (x ∷ xs) = demanded_state (guards_by []) (ticks_in f.active) P f.history inner (name_at f.states) t ∷ states_from f (suc t) xs

unfoldable pub said : List SentenceFact → List (List Name)
said [] = []
said (f ∷ fs) = states_from f 0 f.states ∷ said fs

unfoldable pub listed : List SentenceFact → List (List Name)
listed [] = []
listed (f ∷ fs) = f.states ∷ listed fs

pub sentences-say : said sentence_facts ≡ listed sentence_facts
unfolding said listed sentence_facts states_from demanded_state inner guards_by ticks_in table_run open_run look cell_at fed truth eval literal latest previous active_before choose first_true name_at eq_name member
sentences-say = refl

abbrev c : Name
c = 99 ∷ []

abbrev d : Name
d = 100 ∷ []

abbrev q : Name
q = 113 ∷ []

-- two branches, of which both conditions may be true; the second gives the output twice, and once beside another left name
unfoldable pub activation : Activation
activation =
    record {
      name = 65 ∷ [];
      owner = 70 ∷ [];
      outputs = [];
      branches =
          record { name = c; condition = e_var c; equations = sets yes }
          ∷ record { name = d; condition = e_var d; equations = sets no ++ (record { lhs = o ∷ q ∷ []; rhs = yes } ∷ sets yes) }
          ∷ [];
      else_equations = [];
    }

unfoldable pub conditions : Guards
unfolding guards_by
conditions = guards_by (record { of = c; cells = truths (true ∷ true ∷ false ∷ false ∷ []) } ∷ record { of = d; cells = truths (true ∷ false ∷ true ∷ false ∷ []) } ∷ [])

-- in a cycle: the scope, whether it is the scope of cycle 0, how many equations it has, and how many right sides it gives for the output
pub record ScopeStep : Type 0 where
  pub scope : Scope
  pub again : Bool
  pub equations : ℕ
  pub given : ℕ

abbrev scoped : Scope → Bool → ℕ → ℕ → ScopeStep
scoped s a n g = record { scope = s; again = a; equations = n; given = g }

unfoldable pub scope_steps : List ScopeStep
scope_steps = scoped (branch 0) true 1 1 ∷ scoped (branch 0) true 1 1 ∷ scoped (branch 1) false 3 2 ∷ scoped else_scope false 0 0 ∷ []

unfoldable pub scopes_from : ℕ → List ScopeStep → List ScopeStep
scopes_from t [] = []
scopes_from t (x ∷ xs) =
    scoped (scope_in conditions activation t) (scope_clock conditions activation (branch 0) t)
    (length (chosen conditions activation.name t activation.branches activation.else_equations))
    (length (given_by activation.name 2 [] (scope_in conditions activation t) o (chosen conditions activation.name t activation.branches activation.else_equations)))
    ∷ scopes_from (suc t) xs

pub scopes-are : scopes_from 0 scope_steps ≡ scope_steps
unfolding scopes_from scope_steps scope_in scope_clock choice chosen eq_scope given_by conditions activation conditions_of rewrite_last guards_by table_run open_run look cell_at truths fed truth eval is_only eq_name member
scopes-are = refl

-- the values that are drawn in a package, and those of a machine's states
abbrev red : Name
red = 114 ∷ []

abbrev green : Name
green = 103 ∷ []

unfoldable pub coloured : Package
coloured = record { names = []; enums = record { name = c; variants = red ∷ [] } ∷ record { name = d; variants = green ∷ [] } ∷ []; nodes = []; machines = []; activations = []; origins = [] }

-- `__s`, `__sm_`, `__sm_x`, `a__sm_`
abbrev short : Name
short = 95 ∷ 95 ∷ 115 ∷ []

abbrev made : Name
made = 95 ∷ 95 ∷ 115 ∷ 109 ∷ 95 ∷ []

abbrev longer : Name
longer = 95 ∷ 95 ∷ 115 ∷ 109 ∷ 95 ∷ 120 ∷ []

abbrev later : Name
later = 97 ∷ 95 ∷ 95 ∷ 115 ∷ 109 ∷ 95 ∷ []

pub prefixes-told :
    starts_with sm_prefix short ∷ starts_with sm_prefix made ∷ starts_with sm_prefix longer ∷ starts_with sm_prefix later ∷ none_starts sm_prefix (On ∷ longer ∷ []) ∷ none_starts sm_prefix (short ∷ later ∷ []) ∷ []
    ≡ false ∷ true ∷ true ∷ false ∷ false ∷ true ∷ []
unfolding starts_with none_starts sm_prefix
prefixes-told = refl

-- a region is active where the region that holds its state is, and is in that state
pub within_both :
    within (ticks_in (true ∷ false ∷ true ∷ [])) (name_at (P ∷ P ∷ Q ∷ [])) P 0
    ∷ within (ticks_in (true ∷ false ∷ true ∷ [])) (name_at (P ∷ P ∷ Q ∷ [])) P 1
    ∷ within (ticks_in (true ∷ false ∷ true ∷ [])) (name_at (P ∷ P ∷ Q ∷ [])) P 2
    ∷ []
    ≡ true ∷ false ∷ false ∷ []
unfolding within ticks_in name_at eq_name
within_both = refl

pub values-drawn : values_in coloured (machine On (nested false)) ≡ red ∷ green ∷ On ∷ P ∷ Q ∷ Off ∷ []
unfolding values_in enum_values collect_state_names coloured machine nested
values-drawn = refl
