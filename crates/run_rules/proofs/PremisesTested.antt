-- Tests by which a run of numbers is seen to meet the premises.
use Prim.Native.Nat.{ℕ, ◌<◌}
use mathlib.Core.List.{List, [], ◌∷◌, ◌++◌}
use mathlib.Core.Bool.{Bool, true, false, ◌&&◌}
use mathlib.Core.Option.{Option, none, some}
use mathlib.Core.Path.{◌≡◌, refl, sym, ◌∙◌}
use Rattle.pack_rules.specs.Names.{Name, eq_name, member}
use Rattle.pack_rules.specs.Syntax.{Activation, Equation, Expr, Node, Package, Port, Transition}
use Rattle.machine_rules.specs.Resolved.{ResolvedMachine, ResolvedRegions, ResolvedStates, r_cons, r_nil, s_cons, s_nil}
use Rattle.machine_rules.specs.Checks.{collect_state_names}
use Rattle.machine_rules.specs.Lower.{equations_of}
use Rattle.machine_rules.specs.MadeNames.{sm_prefix}
use Rattle.activation_rules.specs.MadeNames.{act_prefix}
use Rattle.activation_rules.specs.Sought.{conditions}
use Rattle.activation_rules.specs.Types.{port_names, variables}
use Rattle.activation_rules.specs.RewriteLast.{conditions_of, rewrite_last}
use Rattle.run_rules.specs.DemandPremises.{DrawnAct, DrawnMachine, enum_values, none_starts, values_in}
use Rattle.run_rules.specs.Premises.{HasValue, ConditionsAre, GuardsR, GuardsS, GuardsT, OnEveryCycle, PortsPresent, Presents, SidesE, SidesR, SidesS}
use Rattle.run_rules.specs.Visits.{DrawnScopes, Every, apart_from, has_source, sides_of, simple}
use Rattle.run_rules.specs.Run.{Run, Value, clock_of, eval, every, v_bool, v_enum, v_other}
use Rattle.run_rules.proofs.Booleans.{&&-true, or_right, three, ≡→T}
use Rattle.run_rules.proofs.Tested.{is_present, up-to, up_to}

-- truth values that the chart is fed: an expression's in the run
unfoldable pub truth : Option (Value ℕ) → Bool
truth none = false
truth (some (v_bool b)) = b
truth (some (v_enum n)) = false
truth (some (v_other x)) = false

unfoldable pub fed : Run ℕ → Expr → ℕ → Bool
fed R e t = truth (eval R e every t)

unfoldable pub is_truth : Option (Value ℕ) → Bool
is_truth none = false
is_truth (some (v_bool b)) = true
is_truth (some (v_enum n)) = false
is_truth (some (v_other x)) = false

truth-is : (w : Option (Value ℕ)) → is_truth w ≡ true → w ≡ some (v_bool (truth w))
unfolding is_truth truth
truth-is none h = absurd (≡→T false h)
truth-is (some (v_bool b)) h = refl
truth-is (some (v_enum n)) h = absurd (≡→T false h)
truth-is (some (v_other x)) h = absurd (≡→T false h)

unfoldable pub truth_test : Run ℕ → ℕ → Expr → Bool
truth_test R N e = up_to N (λ t. is_truth (eval R e every t))

truth-tested : (R : Run ℕ) (N : ℕ) (e : Expr) → truth_test R N e ≡ true → (t : ℕ) → t < N → eval R e every t ≡ some (v_bool (fed R e t))
unfolding truth_test fed
truth-tested R N e h t lt = truth-is (eval R e every t) (up-to N (λ u. is_truth (eval R e every u)) h t lt)

-- the premises
unfoldable pub present_test : Run ℕ → ℕ → Name → Bool
present_test R N x = up_to N (clock_of R x)

unfoldable pub presents_test : Run ℕ → ℕ → List Name → Bool
presents_test R N [] = true
presents_test R N (x ∷ xs) = present_test R N x && presents_test R N xs

unfoldable pub base_test : Run ℕ → ℕ → List Equation → Bool
base_test R N [] = true
base_test R N (e ∷ es) = presents_test R N e.lhs && base_test R N es

unfoldable pub guard_test : Run ℕ → ℕ → List Transition → Bool
guard_test R N [] = true
guard_test R N (x ∷ ts) = truth_test R N x.guard && guard_test R N ts

unfoldable pub side_has : Run ℕ → ℕ → List Equation → Bool
side_has R N [] = true
side_has R N (e ∷ es) = up_to N (λ t. is_present (eval R e.rhs every t)) && side_has R N es

unfoldable mutual
  pub state_test : Run ℕ → ℕ → ResolvedStates → Bool
  state_test R N s_nil = true
  state_test R N (s_cons s es ts rs rest) = (guard_test R N ts && side_has R N es) && (region_test R N rs && state_test R N rest)

  pub region_test : Run ℕ → ℕ → ResolvedRegions → Bool
  region_test R N r_nil = true
  region_test R N (r_cons i h ss rest) = state_test R N ss && region_test R N rest

presents-tested : (R : Run ℕ) (N : ℕ) (xs : List Name) → presents_test R N xs ≡ true → Presents R N xs
unfolding presents_test present_test
presents-tested R N [] h = tt
presents-tested R N (x ∷ xs) h = let p = &&-true (present_test R N x) (presents_test R N xs) h in (up-to N (clock_of R x) p.0, presents-tested R N xs p.1)

base-tested : (R : Run ℕ) (N : ℕ) (es : List Equation) → base_test R N es ≡ true → OnEveryCycle R N es
unfolding base_test
base-tested R N [] h = tt
base-tested R N (e ∷ es) h = let p = &&-true (presents_test R N e.lhs) (base_test R N es) h in (presents-tested R N e.lhs p.0, base-tested R N es p.1)

guards-tested : (R : Run ℕ) (N : ℕ) (ts : List Transition) → guard_test R N ts ≡ true → GuardsT R N (fed R) ts
unfolding guard_test
guards-tested R N [] h = tt
guards-tested R N (x ∷ ts) h = let p = &&-true (truth_test R N x.guard) (guard_test R N ts) h in (truth-tested R N x.guard p.0, guards-tested R N ts p.1)

has_value : (R : Run ℕ) (t : ℕ) (e : Expr) (w : Option (Value ℕ)) → eval R e every t ≡ w → is_present w ≡ true → HasValue R t e
unfolding is_present
has_value R t e none q h = absurd (≡→T false h)
has_value R t e (some v) q h = (v, q)

sides-tested : (R : Run ℕ) (N : ℕ) (es : List Equation) → side_has R N es ≡ true → SidesE R N es
unfolding side_has
sides-tested R N [] h = tt
sides-tested R N (e ∷ es) h =
    let p = &&-true (up_to N (λ t. is_present (eval R e.rhs every t))) (side_has R N es) h in
    ((λ t lt. has_value R t e.rhs (eval R e.rhs every t) refl (up-to N (λ u. is_present (eval R e.rhs every u)) p.0 t lt)), sides-tested R N es p.1)

mutual
  unfolding state_test

  states-tested : (R : Run ℕ) (N : ℕ) (ss : ResolvedStates) → state_test R N ss ≡ true → GuardsS R N (fed R) ss × SidesS R N ss
  states-tested R N s_nil h = (tt, tt)
  states-tested R N (s_cons s es ts rs rest) h =
      let p = &&-true (guard_test R N ts && side_has R N es) (region_test R N rs && state_test R N rest) h in
      let q = &&-true (guard_test R N ts) (side_has R N es) p.0 in
      let r = &&-true (region_test R N rs) (state_test R N rest) p.1 in
      let a = regions-tested R N rs r.0 in
      let b = states-tested R N rest r.1 in
      ((guards-tested R N ts q.0, a.0, b.0), (sides-tested R N es q.1, a.1, b.1))

  regions-tested : (R : Run ℕ) (N : ℕ) (rs : ResolvedRegions) → region_test R N rs ≡ true → GuardsR R N (fed R) rs × SidesR R N rs
  regions-tested R N r_nil h = (tt, tt)
  regions-tested R N (r_cons i hi ss rest) h =
      let p = &&-true (state_test R N ss) (region_test R N rest) h in
      let a = states-tested R N ss p.0 in
      let b = regions-tested R N rest p.1 in
      ((a.0, b.0), (a.1, b.1))

member-later : (x : Name) (k l : List Name) → member x l ≡ true → member x (k ++ l) ≡ true
unfolding member
member-later x [] l h = h
member-later x (y ∷ k) l h = or_right (eq_name x y) (member x (k ++ l)) (member-later x k l h)

-- a machine's premises as drawn, of a run whose enum values are those of the package and the resolved states
unfoldable pub machine_test : Run ℕ → ℕ → Package → ResolvedMachine → Bool
machine_test R N p m = none_starts sm_prefix (values_in p m) && (base_test R N (equations_of m) && state_test R N m.states)

pub machine-tested : (R : Run ℕ) (N : ℕ) (p : Package) (m : ResolvedMachine) → ((x : Name) → R.enums x ≡ member x (values_in p m)) → machine_test R N p m ≡ true → DrawnMachine R N (fed R) p m
unfolding machine_test values_in
machine-tested R N p m enums h =
    let t = three (none_starts sm_prefix (values_in p m)) (base_test R N (equations_of m)) (state_test R N m.states) h in
    let q = states-tested R N m.states t.2 in
    record {
      states = λ x k. enums x ∙ member-later x (enum_values p.enums) (collect_state_names m.states) k;
      enums = λ x k. sym (enums x) ∙ k;
      free = t.0;
      base = base-tested R N (equations_of m) t.1;
      guards = q.0;
      sides = q.1;
    }

-- an activation's premises as drawn, of a run whose enum values are those of the package
unfoldable pub port_test : Run ℕ → ℕ → List Port → Bool
port_test R N [] = true
port_test R N (p ∷ ps) = present_test R N p.name && port_test R N ps

unfoldable pub condition_test : Run ℕ → ℕ → List Expr → Bool
condition_test R N [] = true
condition_test R N (c ∷ cs) = truth_test R N c && condition_test R N cs

unfoldable pub act_test : Run ℕ → ℕ → Package → Activation → Bool
act_test R N p A = none_starts act_prefix (enum_values p.enums) && (port_test R N A.outputs && condition_test R N (conditions_of A.name A.branches))

ports-tested : (R : Run ℕ) (N : ℕ) (ps : List Port) → port_test R N ps ≡ true → PortsPresent R N ps
unfolding port_test present_test
ports-tested R N [] h = tt
ports-tested R N (p ∷ ps) h = let q = &&-true (present_test R N p.name) (port_test R N ps) h in (up-to N (clock_of R p.name) q.0, ports-tested R N ps q.1)

conditions-tested : (R : Run ℕ) (N : ℕ) (cs : List Expr) → condition_test R N cs ≡ true → ConditionsAre R N (fed R) cs
unfolding condition_test
conditions-tested R N [] h = tt
conditions-tested R N (c ∷ cs) h = let q = &&-true (truth_test R N c) (condition_test R N cs) h in (truth-tested R N c q.0, conditions-tested R N cs q.1)

pub act-tested : (R : Run ℕ) (N : ℕ) (p : Package) (A : Activation) → ((x : Name) → R.enums x ≡ member x (enum_values p.enums)) → act_test R N p A ≡ true → DrawnAct R N (fed R) p A
unfolding act_test
act-tested R N p A enums h =
    let t = three (none_starts act_prefix (enum_values p.enums)) (port_test R N A.outputs) (condition_test R N (conditions_of A.name A.branches)) h in
    record {
      enums = λ x k. sym (enums x) ∙ k;
      free = t.0;
      base = ports-tested R N A.outputs t.1;
      conditions = conditions-tested R N (conditions_of A.name A.branches) t.2;
    }

-- what is asked of an activation's conditions and right sides for its scopes to be run on their own cycles
unfoldable pub all_of : (Expr → Bool) → List Expr → Bool
all_of p [] = true
all_of p (e ∷ es) = p e && all_of p es

every-tested : (p : Expr → Bool) (es : List Expr) → all_of p es ≡ true → Every (λ e. p e ≡ true) es
unfolding all_of
every-tested p [] h = tt
every-tested p (e ∷ es) h = let q = &&-true (p e) (all_of p es) h in (q.0, every-tested p es q.1)

unfoldable pub scopes_test : Package → Activation → Node → Bool
scopes_test p A n =
    apart_from (port_names (variables n) ++ port_names A.outputs) (enum_values p.enums)
    && (all_of (λ e. simple (rewrite_last A.name e)) (conditions A.branches)
    && (all_of (λ e. simple (rewrite_last A.name e)) (sides_of A) && all_of (has_source (port_names (variables n))) (sides_of A)))

pub scopes-tested : (R : Run ℕ) (N : ℕ) (p : Package) (A : Activation) (n : Node) → ((x : Name) → R.enums x ≡ member x (enum_values p.enums)) → act_test R N p A ≡ true → scopes_test p A n ≡ true → DrawnScopes R N (fed R) p A n
unfolding scopes_test
scopes-tested R N p A n enums h k =
    let q = &&-true (apart_from (port_names (variables n) ++ port_names A.outputs) (enum_values p.enums)) (all_of (λ e. simple (rewrite_last A.name e)) (conditions A.branches) && (all_of (λ e. simple (rewrite_last A.name e)) (sides_of A) && all_of (has_source (port_names (variables n))) (sides_of A))) k in
    let t = three (all_of (λ e. simple (rewrite_last A.name e)) (conditions A.branches)) (all_of (λ e. simple (rewrite_last A.name e)) (sides_of A)) (all_of (has_source (port_names (variables n))) (sides_of A)) q.1 in
    record {
      act = act-tested R N p A enums h;
      apart = q.0;
      simple-conditions = every-tested (λ e. simple (rewrite_last A.name e)) (conditions A.branches) t.0;
      simple-sides = every-tested (λ e. simple (rewrite_last A.name e)) (sides_of A) t.1;
      sources = every-tested (has_source (port_names (variables n))) (sides_of A) t.2;
    }
