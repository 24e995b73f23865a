-- A right side over samples is the right side, in the cycles of its scope.
use Prim.Native.Nat.{◌<◌, ℕ}
use native.Mathlib.Omega.{arith}
use mathlib.Core.List.{List, [], ◌++◌, ◌∷◌}
use mathlib.Core.Bool.{Bool, ◌&&◌, ◌||◌, cond, false, true}
use mathlib.Core.Option.{Option, some}
use mathlib.Core.Path.{◌∙◌, ◌≡◌, ap, ap₂, refl, subst, sym}
use borrow.Author.Tests.{eqb-true}
use lib.ListN.{length}
use Rattle.pack.proofs.Tables.{eq_name-refl, eq_name-true}
use Rattle.pack_rules.specs.Names.{Name, eq_name, member}
use Rattle.pack_rules.specs.Syntax.{Activation, Equation, Expr, Exprs, Lit, e_array, e_arrow, e_binary, e_call, e_cast, e_const, e_field, e_if, e_index, e_iterate, e_merge, e_pre, e_struct, e_tuple, e_unary, e_var, e_when, x_cons, x_nil}
use Rattle.machine_rules.specs.Lower.{is_only, own_value}
use Rattle.activation_rules.specs.Clocks.{onto}
use Rattle.activation_rules.specs.Defines.{eqn, first_left}
use Rattle.activation_rules.specs.Lower.{act_equations}
use Rattle.activation_rules.specs.MadeNames.{Scope, act_prefix, branch, else_scope, made_name, sample_var, value_var}
use Rattle.activation_rules.specs.Merges.{merge_from}
use Rattle.activation_rules.specs.SampledConstants.{has_const, sample_constants, sample_constants_in, sample_value}
use Rattle.activation_rules.specs.FreeVars.{free_vars, keep_in, reads_of}
use Rattle.activation_rules.specs.Renames.{rename, renames}
use Rattle.activation_rules.specs.Samples.{drop_in, over_samples, renamed, sample_equations}
use Rattle.activation_rules.specs.Scopes.{rewritten, scope_equations, scope_reads}
use Rattle.activation_rules.specs.RewriteLast.{conditions_of, rewrite_last}
use Rattle.run_rules.specs.Visits.{simple, simples}
use Rattle.run_rules.specs.Premises.{ActPremises, Present, starts_with}
use Rattle.run_rules.specs.Run.{Clock, Run, Value, Agrees, apply_to, arrow_at, binary, clock_of, eval, FitsClock, literal, p_array, p_cast, p_field, p_index, p_struct, p_tuple, previous, SameClock, Satisfies, unary, values}
use Rattle.run_rules.specs.Scopes.{Conditions, choice, chosen, eq_scope, scope_clock, scope_in}
use Rattle.runs.proofs.Accepting.{act_accepted, all_assign, assigns, nonempty, outputs_assigned}
use Rattle.runs.proofs.ActRuns.{chosen-assigns, chosen-holds, free-name, has-conditions, on-clock, only-head, parts, satisfies-split}
use Rattle.run_rules.proofs.Booleans.{&&-true, or_left, or_right, or_split, true-false, ≡→T}
use Rattle.runs.proofs.Choosing.{from_start, scope-same}
use Rattle.run_rules.proofs.Prefixes.{starts-append}
use Rattle.runs.proofs.Held.{empty}
use Rattle.runs.proofs.ClocksAlike.{pre-ticks}

-- renaming variables, sampling constants: nothing changes in the cycles of the clock
mutual
  unfolding eval simple rename

  rename-eval : {O : Type 0} (R : Run O) (N : ℕ) (clk : Clock) (f : Name → Name) (H : (x : Name) (t : ℕ) → t < N → clk t ≡ true → eval R (e_var (f x)) clk t ≡ eval R (e_var x) clk t)
      → (e : Expr) → simple e ≡ true → (t : ℕ) → t < N → clk t ≡ true → eval R (rename f e) clk t ≡ eval R e clk t
  rename-eval R N clk f H (e_const l) pl t lt tk = refl
  rename-eval R N clk f H (e_var x) pl t lt tk = H x t lt tk
  rename-eval R N clk f H (e_unary o a) pl t lt tk = ap (unary R.op o) (rename-eval R N clk f H a pl t lt tk)
  rename-eval R N clk f H (e_binary o a b) pl t lt tk = let q = &&-true (simple a) (simple b) pl in ap₂ (binary R.op o) (rename-eval R N clk f H a q.0 t lt tk) (rename-eval R N clk f H b q.1 t lt tk)
  rename-eval R N clk f H (e_if a b d) pl t lt tk = let q = &&-true (simple a) (simple b && simple d) pl in let r = &&-true (simple b) (simple d) q.1 in rw (rename-eval R N clk f H a q.0 t lt tk, rename-eval R N clk f H b r.0 t lt tk, rename-eval R N clk f H d r.1 t lt tk)
  rename-eval R N clk f H (e_pre a) pl t lt tk = pre-ticks clk (λ u. eval R (rename f a) clk u) (λ u. eval R a clk u) t (λ u l k. rename-eval R N clk f H a pl u (omega arith) k)
  rename-eval R N clk f H (e_arrow a b) pl t lt tk = let q = &&-true (simple a) (simple b) pl in ap₂ (arrow_at (previous clk t)) (rename-eval R N clk f H a q.0 t lt tk) (rename-eval R N clk f H b q.1 t lt tk)
  rename-eval R N clk f H (e_call g xs) pl t lt tk = absurd (≡→T false pl)
  rename-eval R N clk f H (e_field a g) pl t lt tk = ap (λ v. apply_to (R.op (p_field g)) (v ∷ [])) (rename-eval R N clk f H a pl t lt tk)
  rename-eval R N clk f H (e_index a i) pl t lt tk = let q = &&-true (simple a) (simple i) pl in ap₂ (λ v w. apply_to (R.op p_index) (v ∷ w ∷ [])) (rename-eval R N clk f H a q.0 t lt tk) (rename-eval R N clk f H i q.1 t lt tk)
  rename-eval R N clk f H (e_tuple xs) pl t lt tk = ap (apply_to (R.op p_tuple)) (rename-evals R N clk f H xs pl t lt tk)
  rename-eval R N clk f H (e_array xs) pl t lt tk = ap (apply_to (R.op p_array)) (rename-evals R N clk f H xs pl t lt tk)
  rename-eval R N clk f H (e_struct m fs xs) pl t lt tk = ap (apply_to (R.op (p_struct m fs))) (rename-evals R N clk f H xs pl t lt tk)
  rename-eval R N clk f H (e_cast ty a) pl t lt tk = ap (λ v. apply_to (R.op (p_cast ty)) (v ∷ [])) (rename-eval R N clk f H a pl t lt tk)
  rename-eval R N clk f H (e_when a x on) pl t lt tk = absurd (≡→T false pl)
  rename-eval R N clk f H (e_merge x a b) pl t lt tk = absurd (≡→T false pl)
  rename-eval R N clk f H (e_iterate k g i xs) pl t lt tk = absurd (≡→T false pl)

  rename-evals : {O : Type 0} (R : Run O) (N : ℕ) (clk : Clock) (f : Name → Name) (H : (x : Name) (t : ℕ) → t < N → clk t ≡ true → eval R (e_var (f x)) clk t ≡ eval R (e_var x) clk t)
      → (xs : Exprs) → simples xs ≡ true → (t : ℕ) → t < N → clk t ≡ true → values R (renames f xs) clk t ≡ values R xs clk t
  rename-evals R N clk f H x_nil pl t lt tk = refl
  rename-evals R N clk f H (x_cons a xs) pl t lt tk = let q = &&-true (simple a) (simples xs) pl in ap₂ (λ v vs. v ∷ vs) (rename-eval R N clk f H a q.0 t lt tk) (rename-evals R N clk f H xs q.1 t lt tk)

mutual
  unfolding eval simple sample_constants

  pin-eval : {O : Type 0} (R : Run O) (N : ℕ) (clk : Clock) (f : Expr → Expr) (H : (l : Lit) (t : ℕ) → t < N → clk t ≡ true → eval R (f (e_const l)) clk t ≡ eval R (e_const l) clk t)
      → (e : Expr) → simple e ≡ true → (t : ℕ) → t < N → clk t ≡ true → eval R (sample_constants f e) clk t ≡ eval R e clk t
  pin-eval R N clk f H (e_const l) pl t lt tk = H l t lt tk
  pin-eval R N clk f H (e_var x) pl t lt tk = refl
  pin-eval R N clk f H (e_unary o a) pl t lt tk = ap (unary R.op o) (pin-eval R N clk f H a pl t lt tk)
  pin-eval R N clk f H (e_binary o a b) pl t lt tk = let q = &&-true (simple a) (simple b) pl in ap₂ (binary R.op o) (pin-eval R N clk f H a q.0 t lt tk) (pin-eval R N clk f H b q.1 t lt tk)
  pin-eval R N clk f H (e_if a b d) pl t lt tk = let q = &&-true (simple a) (simple b && simple d) pl in let r = &&-true (simple b) (simple d) q.1 in rw (pin-eval R N clk f H a q.0 t lt tk, pin-eval R N clk f H b r.0 t lt tk, pin-eval R N clk f H d r.1 t lt tk)
  pin-eval R N clk f H (e_pre a) pl t lt tk = pre-ticks clk (λ u. eval R (sample_constants f a) clk u) (λ u. eval R a clk u) t (λ u l k. pin-eval R N clk f H a pl u (omega arith) k)
  pin-eval R N clk f H (e_arrow a b) pl t lt tk = let q = &&-true (simple a) (simple b) pl in ap₂ (arrow_at (previous clk t)) (pin-eval R N clk f H a q.0 t lt tk) (pin-eval R N clk f H b q.1 t lt tk)
  pin-eval R N clk f H (e_call g xs) pl t lt tk = absurd (≡→T false pl)
  pin-eval R N clk f H (e_field a g) pl t lt tk = ap (λ v. apply_to (R.op (p_field g)) (v ∷ [])) (pin-eval R N clk f H a pl t lt tk)
  pin-eval R N clk f H (e_index a i) pl t lt tk = let q = &&-true (simple a) (simple i) pl in ap₂ (λ v w. apply_to (R.op p_index) (v ∷ w ∷ [])) (pin-eval R N clk f H a q.0 t lt tk) (pin-eval R N clk f H i q.1 t lt tk)
  pin-eval R N clk f H (e_tuple xs) pl t lt tk = ap (apply_to (R.op p_tuple)) (pin-evals R N clk f H xs pl t lt tk)
  pin-eval R N clk f H (e_array xs) pl t lt tk = ap (apply_to (R.op p_array)) (pin-evals R N clk f H xs pl t lt tk)
  pin-eval R N clk f H (e_struct m fs xs) pl t lt tk = ap (apply_to (R.op (p_struct m fs))) (pin-evals R N clk f H xs pl t lt tk)
  pin-eval R N clk f H (e_cast ty a) pl t lt tk = ap (λ v. apply_to (R.op (p_cast ty)) (v ∷ [])) (pin-eval R N clk f H a pl t lt tk)
  pin-eval R N clk f H (e_when a x on) pl t lt tk = absurd (≡→T false pl)
  pin-eval R N clk f H (e_merge x a b) pl t lt tk = absurd (≡→T false pl)
  pin-eval R N clk f H (e_iterate k g i xs) pl t lt tk = absurd (≡→T false pl)

  pin-evals : {O : Type 0} (R : Run O) (N : ℕ) (clk : Clock) (f : Expr → Expr) (H : (l : Lit) (t : ℕ) → t < N → clk t ≡ true → eval R (f (e_const l)) clk t ≡ eval R (e_const l) clk t)
      → (xs : Exprs) → simples xs ≡ true → (t : ℕ) → t < N → clk t ≡ true → values R (sample_constants_in f xs) clk t ≡ values R xs clk t
  pin-evals R N clk f H x_nil pl t lt tk = refl
  pin-evals R N clk f H (x_cons a xs) pl t lt tk = let q = &&-true (simple a) (simples xs) pl in ap₂ (λ v vs. v ∷ vs) (pin-eval R N clk f H a q.0 t lt tk) (pin-evals R N clk f H xs q.1 t lt tk)

-- lists of names
keep-in : (vars l : List Name) (x : Name) → member x (keep_in vars l) ≡ true → member x vars ≡ true
unfolding keep_in member
keep-in vars [] x m = absurd (≡→T false m)
keep-in vars (y ∷ l) x m = go (member y vars) refl m (λ (k : member x (keep_in vars l) ≡ true). keep-in vars l x k)
  where
    go : (b : Bool) → member y vars ≡ b → member x (cond b (y ∷ keep_in vars l) (keep_in vars l)) ≡ true → (member x (keep_in vars l) ≡ true → member x vars ≡ true) → member x vars ≡ true
    go true e h r = here (eq_name x y) refl
      where
        here : (c : Bool) → eq_name x y ≡ c → member x vars ≡ true
        here true q = rw (eq_name-true x y q) e
        here false q = r (or_split (eq_name x y) (member x (keep_in vars l)) h q)
    go false e h r = r h

pub drop-in : (old l : List Name) (x : Name) → member x l ≡ true → member x old ≡ false → member x (drop_in old l) ≡ true
unfolding drop_in member
drop-in old [] x m n = absurd (≡→T false m)
drop-in old (y ∷ l) x m n = go (member y old) refl (λ (k : member x l ≡ true). drop-in old l x k n)
  where
    go : (b : Bool) → member y old ≡ b → (member x l ≡ true → member x (drop_in old l) ≡ true) → member x (cond b (drop_in old l) (y ∷ drop_in old l)) ≡ true
    go true e r = r (or_split (eq_name x y) (member x l) m (differs (eq_name x y) refl))
      where
        differs : (c : Bool) → eq_name x y ≡ c → eq_name x y ≡ false
        differs true q = absurd (true-false {b = member y old} e (rw (eq_name-true x y q) at n))
        differs false q = q
    go false e r = here (eq_name x y) refl
      where
        here : (c : Bool) → eq_name x y ≡ c → eq_name x y || member x (drop_in old l) ≡ true
        here true q = rw q
        here false q = rw q (r (or_split (eq_name x y) (member x l) m q))

or-false : (c d : Bool) → c || d ≡ false → (c ≡ false) × (d ≡ false)
or-false true d e = absurd (true-false {b = true} refl e)
or-false false d e = (refl, e)

pub member-append : (x : Name) (k l : List Name) → member x (k ++ l) ≡ true → member x k ≡ false → member x l ≡ true
unfolding member
member-append x [] l m n = m
member-append x (y ∷ k) l m n =
    let q = or-false (eq_name x y) (member x k) n in
    member-append x k l (or_split (eq_name x y) (member x (k ++ l)) m q.0) q.1

scope-equal : (s r : Scope) → eq_scope s r ≡ true → s ≡ r
unfolding eq_scope
scope-equal (branch i) (branch j) e = ap branch (eqb-true i j e)
scope-equal (branch i) else_scope e = absurd (≡→T false e)
scope-equal else_scope (branch j) e = absurd (≡→T false e)
scope-equal else_scope else_scope e = refl

-- what a right side must be: simple, and it reads a variable or holds a literal
abbrev pub Allowed : Name → List Name → Expr → Type 0
Allowed a vars e = (simple (rewrite_last a e) ≡ true) × (reads_of vars (rewrite_last a e) ≡ [] → has_const (rewrite_last a e) ≡ true)

abbrev pub AllAllowed : Name → List Name → List Equation → Type 0
AllAllowed a vars [] = Unit {0}
AllAllowed a vars (e ∷ es) = Allowed a vars e.rhs × AllAllowed a vars es

-- a scope whose samples are what they sample, in its cycles
module _ {O : Type 0} (R : Run O) (N : ℕ) (a : Name) (n : ℕ) (vars : List Name) (s : Scope) (clk : Clock)
    (free : (x : Name) → starts_with act_prefix x ≡ true → R.enums x ≡ false)
    (variables : (x : Name) → member x vars ≡ true → R.enums x ≡ false)
    (reach : (t : ℕ) → t < N → clk t ≡ true → (e : Expr) (w : Option (Value O)) → ((d : Clock) → eval R e d t ≡ w) → (c : Clock) → eval R (onto a n s e) c t ≡ w)
    (ticks : (t : ℕ) → t < N → clk t ≡ true → (e : Expr) (c : Clock) → FitsClock R N (onto a n s e) c → c t ≡ true) where
  abbrev Copies : List Name → Type 0
  Copies l = (x : Name) → member x l ≡ true → R.enums x ≡ false → (t : ℕ) → t < N → clk t ≡ true → R.at (sample_var a s x) t ≡ R.at x t

  sample-free : (x : Name) → R.enums (sample_var a s x) ≡ false
  unfolding sample_var made_name
  sample-free x = free (sample_var a s x) (starts-append act_prefix _)

  copies : (l : List Name) → Satisfies R N (sample_equations a n s l) → Copies l
  unfolding sample_equations eqn member eval
  copies [] h x m v t lt tk = absurd (≡→T false m)
  copies (y ∷ l) h x m v t lt tk = go (eq_name x y) refl (λ (k : member x l ≡ true). copies l h.1 x k v t lt tk)
    where
      this : R.enums y ≡ false → R.at (sample_var a s y) t ≡ R.at y t
      this w = h.0.1 t lt ∙ (rw (ticks t lt tk (e_var y) (clock_of R (sample_var a s y)) h.0.0) (reach t lt tk (e_var y) (R.at y t) (λ d. rw w) (clock_of R (sample_var a s y))))

      go : (c : Bool) → eq_name x y ≡ c → (member x l ≡ true → R.at (sample_var a s x) t ≡ R.at x t) → R.at (sample_var a s x) t ≡ R.at x t
      go true q r = let p : x ≡ y = eq_name-true x y q in rw p (this (rw p at v))
      go false q r = r (or_split (eq_name x y) (member x l) m q)

  sampled : (y : Name) → R.enums y ≡ false → (u : ℕ) → R.at (sample_var a s y) u ≡ R.at y u → eval R (e_var (sample_var a s y)) clk u ≡ eval R (e_var y) clk u
  unfolding eval
  sampled y v u c = rw (sample-free y, v) c

  -- the names one after the other: each is a copy
  in-sequence : (r : List Name) → ((x : Name) → member x r ≡ true → R.enums x ≡ false) → Copies r
      → (x : Name) (u : ℕ) → u < N → clk u ≡ true → eval R (e_var (renamed a s r x)) clk u ≡ eval R (e_var x) clk u
  unfolding renamed member
  in-sequence [] vs cp x u lu ku = refl
  in-sequence (y ∷ l) vs cp x u lu ku =
      go (eq_name x y) refl (λ z. in-sequence l (λ w m. vs w (or_right (eq_name w y) (member w l) m)) (λ w m. cp w (or_right (eq_name w y) (member w l) m)) z u lu ku)
    where
      own : eq_name y y || member y l ≡ true
      own = or_left (eq_name y y) (member y l) (eq_name-refl y)

      go : (b : Bool) → eq_name x y ≡ b → ((z : Name) → eval R (e_var (renamed a s l z)) clk u ≡ eval R (e_var z) clk u)
          → eval R (e_var (renamed a s l (cond b (sample_var a s y) x))) clk u ≡ eval R (e_var x) clk u
      go true q ih = ih (sample_var a s y) ∙ (sampled y (vs y own) u (cp y own (vs y own) u lu ku) ∙ ap (λ (z : Name). eval R (e_var z) clk u) (sym (eq_name-true x y q)))
      go false q ih = ih x

  -- a right side over samples is the right side, in the cycles of the scope
  over-samples : (r : List Name) (e : Expr) → simple e ≡ true → ((x : Name) → member x r ≡ true → R.enums x ≡ false) → Copies r → (r ≡ [] → has_const e ≡ true)
      → (t : ℕ) → t < N → clk t ≡ true → eval R (over_samples a n s r e) clk t ≡ eval R e clk t
  unfolding over_samples sample_value eval
  over-samples [] e pl vs cp hc t lt tk =
      rw (hc refl) (pin-eval R N clk (onto a n s) (λ l u lu ku. reach u lu ku (e_const l) (literal R.op l) (λ d. refl) clk) e pl t lt tk)
  over-samples (y ∷ l) e pl vs cp hc t lt tk = rename-eval R N clk (renamed a s (y ∷ l)) (λ x u lu ku. in-sequence (y ∷ l) vs cp x u lu ku) e pl t lt tk

  -- the value of an output that a scope assigns
  scope-runs : (o : Name) (es : List Equation) (old : List Name) → Copies old → assigns o es ≡ true → AllAllowed a vars es → Satisfies R N (scope_equations a n vars s old es) → SameClock N (clock_of R (value_var a s o)) clk
      → (e : Expr) × (own_value o es ≡ some e) × (simple (rewrite_last a e) ≡ true) × ((t : ℕ) → t < N → clk t ≡ true → R.at (value_var a s o) t ≡ eval R (rewrite_last a e) clk t)
  unfolding assigns scope_equations scope_reads reads_of own_value rewritten eqn
  scope-runs o [] old cp h al sat sc = absurd (≡→T false h)
  scope-runs o (e ∷ es) old cp h al sat sc =
      go (is_only o e.lhs) refl (λ (h' : assigns o es ≡ true). scope-runs o es (old ++ drop_in old r) both h' al.1 parts.1.1 sc)
    where
      r : List Name
      r = scope_reads a vars e

      this : Equation
      this = eqn (value_var a s (first_left e.lhs)) (rewritten a n vars s e)

      parts : Satisfies R N (sample_equations a n s (drop_in old r)) × Satisfies R N (this ∷ scope_equations a n vars s (old ++ drop_in old r) es)
      parts = satisfies-split R N (sample_equations a n s (drop_in old r)) (this ∷ scope_equations a n vars s (old ++ drop_in old r) es) sat

      new : Copies (drop_in old r)
      new = copies (drop_in old r) parts.0

      both : Copies (old ++ drop_in old r)
      both x m v t lt tk = pick (member x old) refl
        where
          pick : (b : Bool) → member x old ≡ b → R.at (sample_var a s x) t ≡ R.at x t
          pick true q = cp x q v t lt tk
          pick false q = new x (member-append x old (drop_in old r) m q) v t lt tk

      all : Copies r
      all x m v t lt tk = pick (member x old) refl
        where
          pick : (b : Bool) → member x old ≡ b → R.at (sample_var a s x) t ≡ R.at x t
          pick true q = cp x q v t lt tk
          pick false q = new x (drop-in old r x m q) v t lt tk

      go : (b : Bool) → is_only o e.lhs ≡ b
          → (assigns o es ≡ true → (e : Expr) × (own_value o es ≡ some e) × (simple (rewrite_last a e) ≡ true) × ((t : ℕ) → t < N → clk t ≡ true → R.at (value_var a s o) t ≡ eval R (rewrite_last a e) clk t))
          → (e' : Expr) × (cond (is_only o e.lhs) (some e.rhs) (own_value o es) ≡ some e') × (simple (rewrite_last a e') ≡ true) × ((t : ℕ) → t < N → clk t ≡ true → R.at (value_var a s o) t ≡ eval R (rewrite_last a e') clk t)
      go true q ih = (
        e.rhs,
        rw q,
        al.0.0,
        λ t lt tk. on-clock R N (value_var a s o) (rewritten a n vars s e) clk sc (rw (only-head o e.lhs q) at parts.1.0) t lt tk
            ∙ over-samples r (rewrite_last a e.rhs) al.0.0 (λ x m. variables x (keep-in vars (free_vars (rewrite_last a e.rhs) []) x m)) all al.0.1 t lt tk,
      )
      go false q ih = rw q (ih (or_split (is_only o e.lhs) (assigns o es) h q))

module _ {O : Type 0} (R : Run O) (N : ℕ) (C : Conditions) (A : Activation) (before : List Equation) (vars : List Name) (ok : act_accepted A ≡ true) (P : ActPremises R N C A)
    (sat : Satisfies R N (act_equations A before vars))
    (variables : (x : Name) → member x vars ≡ true → R.enums x ≡ false)
    (allowed : (t : ℕ) → AllAllowed A.name vars (chosen C A.name t A.branches A.else_equations)) where
  -- an output is the right side drawn in the scope of the cycle, run over just the cycles of that scope
  pub output-runs : (o : Name) → Present R N o → all_assign o A.branches ≡ true → assigns o A.else_equations ≡ true → Agrees R N (o ∷ []) (merge_from A.name o 0 (conditions_of A.name A.branches))
      → (t : ℕ) → t < N
      → (e : Expr) × (own_value o (chosen C A.name t A.branches A.else_equations) ≡ some e) × (simple (rewrite_last A.name e) ≡ true)
      × (R.at o t ≡ eval R (rewrite_last A.name e) (scope_clock C A (scope_in C A t)) t)
  unfolding scope_in scope_clock act_accepted
  output-runs o po ab ao mg t lt =
      let conds = conditions_of A.name A.branches in
      let s = choice C t 0 conds in
      let n = length conds in
      let clk : Clock = λ u. eq_scope (choice C u 0 conds) s in
      let ne = has-conditions A.name A.branches (&&-true (nonempty A.branches) (outputs_assigned A.branches A.else_equations A.outputs) ok).0 in
      let ps = parts R N C A before vars ok P sat in
      let free = free-name R N C A before vars ok P sat in
      let claim = from_start R N A.name free C o conds ne po P.conditions ps.0 ps.1 mg in
      let cl = claim t lt refl in
      let g = scope-runs R N A.name n vars s clk free variables
      (λ u lu tk. subst (λ r. (e : Expr) (w : Option (Value O)) → ((d : Clock) → eval R e d u ≡ w) → (c : Clock) → eval R (onto A.name n r e) c u ≡ w) (scope-equal (choice C u 0 conds) s tk) (claim u lu refl).2)
      (λ u lu tk. subst (λ r. (e : Expr) (c : Clock) → FitsClock R N (onto A.name n r e) c → c u ≡ true) (scope-equal (choice C u 0 conds) s tk) (claim u lu refl).3)
      o (chosen C A.name t A.branches A.else_equations) [] (none-copied s clk)
      (chosen-assigns R N A.name n vars C t o A.branches A.else_equations ab ao) (allowed t)
      (chosen-holds R N A.name n vars C t 0 A.branches A.else_equations ps.2 ps.3) cl.1 in
      (g.0, g.1, g.2, mg.1 t lt ∙ (rw (po t lt) (cl.0 (clock_of R o) ∙ g.3 t lt (scope-same s))))
    where
      none-copied : (s : Scope) (clk : Clock) (x : Name) → member x [] ≡ true → R.enums x ≡ false → (t : ℕ) → t < N → clk t ≡ true → R.at (sample_var A.name s x) t ≡ R.at x t
      none-copied s clk x m v t lt tk = absurd (empty x m)
