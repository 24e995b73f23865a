-- Demand 3 for activations: every output is what the scope of the cycle gives for it.
use Prim.Native.Nat.{ℕ, suc, ◌<◌}
use native.Mathlib.Omega.{arith}
use mathlib.Core.List.{List, [], ◌∷◌, ◌++◌, cons-ne-nil}
use mathlib.Core.Bool.{Bool, true, false, cond, ◌&&◌}
use mathlib.Core.Option.{Option, none}
use mathlib.Core.Path.{◌≡◌, refl, subst, ◌∙◌}
use lib.ListN.{length}
use Rattle.pack_rules.specs.Names.{Name}
use Rattle.pack_rules.specs.Syntax.{Activation, Branch, Equation, Expr, Port}
use Rattle.pack.proofs.Tables.{eq_name-true}
use Rattle.machine_rules.specs.Lower.{is_only}
use Rattle.activation_rules.specs.Clocks.{guard_equations}
use Rattle.activation_rules.specs.Defines.{eqn, first_left}
use Rattle.activation_rules.specs.Flags.{flag_equations}
use Rattle.activation_rules.specs.Lower.{act_equations, tail_of}
use Rattle.activation_rules.specs.MadeNames.{Scope, act_prefix, branch, else_scope, value_var}
use Rattle.activation_rules.specs.Merges.{merge_equations, merge_from}
use Rattle.activation_rules.specs.Samples.{drop_in, sample_equations}
use Rattle.activation_rules.specs.Scopes.{branch_equations, rewritten, scope_equations, scope_reads}
use Rattle.activation_rules.specs.RewriteLast.{conditions_of, rewrite_last}
use Rattle.run_rules.specs.Premises.{ActPremises, PortsPresent, Present, starts_with}
use Rattle.run_rules.specs.Run.{Clock, Run, Value, Agrees, clock_of, eval, SameClock, Satisfies}
use Rattle.run_rules.specs.Scopes.{AllGive, Conditions, OutputGiven, OutputsGiven, choice, chosen, eq_scope, given_by, scope_clock, scope_in}
use Rattle.runs.proofs.Accepting.{act_accepted, all_assign, assigns, nonempty, outputs_assigned}
use Rattle.run_rules.proofs.Booleans.{&&-true, or_split, ≡→T}
use Rattle.runs.proofs.Choosing.{from_start, scope-same}
use Rattle.runs.proofs.ClocksAlike.{eval-alike}

pub satisfies-split : {O : Type 0} (R : Run O) (N : ℕ) (k l : List Equation) → Satisfies R N (k ++ l) → Satisfies R N k × Satisfies R N l
satisfies-split R N [] l h = (tt, h)
satisfies-split R N (e ∷ k) l h = let p = satisfies-split R N k l h.1 in ((h.0, p.0), p.1)

pub only-head : (o : Name) (l : List Name) → is_only o l ≡ true → first_left l ≡ o
unfolding is_only first_left
only-head o [] h = absurd (≡→T false h)
only-head o (x ∷ []) h = eq_name-true x o h
only-head o (x ∷ y ∷ l) h = absurd (≡→T false h)

module _ {O : Type 0} (R : Run O) (N : ℕ) (a : Name) (n : ℕ) (vars : List Name) where
  -- a variable agrees with each of some right sides
  abbrev AllAgree : Name → List Expr → Type 0
  AllAgree x [] = Unit {0}
  AllAgree x (e ∷ es) = Agrees R N (x ∷ []) e × AllAgree x es

  -- the scope's value of an output agrees with each right side that its equations give for it
  scope-gives : (s : Scope) (o : Name) (es : List Equation) (old : List Name) → Satisfies R N (scope_equations a n vars s old es) → AllAgree (value_var a s o) (given_by a n vars s o es)
  unfolding scope_equations given_by eqn
  scope-gives s o [] old sat = tt
  scope-gives s o (e ∷ es) old sat = go (is_only o e.lhs) refl (scope-gives s o es (old ++ drop_in old r) parts.1.1)
    where
      r : List Name
      r = scope_reads a vars e

      this : Equation
      this = eqn (value_var a s (first_left e.lhs)) (rewritten a n vars s e)

      parts : Satisfies R N (sample_equations a n s (drop_in old r)) × Satisfies R N (this ∷ scope_equations a n vars s (old ++ drop_in old r) es)
      parts = satisfies-split R N (sample_equations a n s (drop_in old r)) (this ∷ scope_equations a n vars s (old ++ drop_in old r) es) sat

      go : (b : Bool) → is_only o e.lhs ≡ b → AllAgree (value_var a s o) (given_by a n vars s o es)
          → AllAgree (value_var a s o) (cond (is_only o e.lhs) (rewritten a n vars s e ∷ given_by a n vars s o es) (given_by a n vars s o es))
      go true q h = rw q (rw (only-head o e.lhs q) at parts.1.0, h)
      go false q h = rw q h

  -- a scope that assigns an output gives some right side for it
  gives-some : (s : Scope) (o : Name) (es : List Equation) → assigns o es ≡ true → (e : Expr) × (l : List Expr) × (given_by a n vars s o es ≡ e ∷ l)
  unfolding assigns given_by
  gives-some s o [] h = absurd (≡→T false h)
  gives-some s o (e ∷ es) h = go (is_only o e.lhs) refl (λ (h' : assigns o es ≡ true). gives-some s o es h')
    where
      go : (b : Bool) → is_only o e.lhs ≡ b → (assigns o es ≡ true → (x : Expr) × (l : List Expr) × (given_by a n vars s o es ≡ x ∷ l))
          → (x : Expr) × (l : List Expr) × (cond (is_only o e.lhs) (rewritten a n vars s e ∷ given_by a n vars s o es) (given_by a n vars s o es) ≡ x ∷ l)
      go true q r = (rewritten a n vars s e, given_by a n vars s o es, rw q)
      go false q r = rw q (r (or_split (is_only o e.lhs) (assigns o es) h q))

  -- the equations of the scope of a cycle hold
  pub chosen-holds : (C : Conditions) (t k : ℕ) (bs : List Branch) (others : List Equation) → Satisfies R N (branch_equations a n vars k bs) → Satisfies R N (scope_equations a n vars else_scope [] others)
      → Satisfies R N (scope_equations a n vars (choice C t k (conditions_of a bs)) [] (chosen C a t bs others))
  unfolding branch_equations conditions_of choice chosen
  chosen-holds C t k [] others hb ho = ho
  chosen-holds C t k (b ∷ bs) others hb ho = go (C (rewrite_last a b.condition) t) (chosen-holds C t (suc k) bs others p.1 ho)
    where
      p : Satisfies R N (scope_equations a n vars (branch k) [] b.equations) × Satisfies R N (branch_equations a n vars (suc k) bs)
      p = satisfies-split R N (scope_equations a n vars (branch k) [] b.equations) (branch_equations a n vars (suc k) bs) hb

      go : (c : Bool) → Satisfies R N (scope_equations a n vars (choice C t (suc k) (conditions_of a bs)) [] (chosen C a t bs others))
          → Satisfies R N (scope_equations a n vars (cond c (branch k) (choice C t (suc k) (conditions_of a bs))) [] (cond c b.equations (chosen C a t bs others)))
      go true r = p.0
      go false r = r

  pub chosen-assigns : (C : Conditions) (t : ℕ) (o : Name) (bs : List Branch) (others : List Equation) → all_assign o bs ≡ true → assigns o others ≡ true → assigns o (chosen C a t bs others) ≡ true
  unfolding all_assign chosen
  chosen-assigns C t o [] others hb ho = ho
  chosen-assigns C t o (b ∷ bs) others hb ho = go (C (rewrite_last a b.condition) t) (chosen-assigns C t o bs others p.1 ho)
    where
      p : (assigns o b.equations ≡ true) × (all_assign o bs ≡ true)
      p = &&-true (assigns o b.equations) (all_assign o bs) hb

      go : (c : Bool) → assigns o (chosen C a t bs others) ≡ true → assigns o (cond c b.equations (chosen C a t bs others)) ≡ true
      go true r = p.0
      go false r = r

pub has-conditions : (a : Name) (bs : List Branch) → nonempty bs ≡ true → conditions_of a bs ≡ [] → ⊥
unfolding nonempty conditions_of
has-conditions a [] h e = ≡→T false h
has-conditions a (b ∷ bs) h e = cons-ne-nil (rewrite_last a b.condition) (conditions_of a bs) e

-- an equation on the cycles of its variable, which are those of a clock
pub on-clock : {O : Type 0} (R : Run O) (N : ℕ) (x : Name) (e : Expr) (d : Clock) → SameClock N (clock_of R x) d → Agrees R N (x ∷ []) e → (t : ℕ) → t < N → d t ≡ true → R.at x t ≡ eval R e d t
on-clock R N x e d s h t lt q =
    h.1 t lt ∙ (rw (s t lt, q) (eval-alike R e (clock_of R x) d t (λ u l. s u (omega arith))))

-- a value that is that of a variable on its clock is what each right side that the variable agrees with gives there
all_give : {O : Type 0} (R : Run O) (N : ℕ) (a : Name) (n : ℕ) (vars : List Name) (x : Name) (d : Clock) → SameClock N (clock_of R x) d → (t : ℕ) → t < N → d t ≡ true → (w : Option (Value O)) → w ≡ R.at x t
    → (es : List Expr) → AllAgree R N a n vars x es → AllGive R d t w es
all_give R N a n vars x d s t lt q w e [] h = tt
all_give R N a n vars x d s t lt q w e (r ∷ rs) h = (e ∙ on-clock R N x r d s h.0 t lt q, all_give R N a n vars x d s t lt q w e rs h.1)

module _ {O : Type 0} (R : Run O) (N : ℕ) (C : Conditions) (A : Activation) (before : List Equation) (vars : List Name) (ok : act_accepted A ≡ true) (P : ActPremises R N C A)
    (sat : Satisfies R N (act_equations A before vars)) where
  a : Name
  a = A.name

  cs : List Expr
  cs = conditions_of A.name A.branches

  pub free-name : (x : Name) → starts_with act_prefix x ≡ true → R.enums x ≡ false
  free-name x s = P.free x s

  pub parts : Satisfies R N (flag_equations A.name none 0 (conditions_of A.name A.branches))
      × Satisfies R N (guard_equations A.name 1 (tail_of (conditions_of A.name A.branches)))
      × Satisfies R N (branch_equations A.name (length (conditions_of A.name A.branches)) vars 0 A.branches)
      × Satisfies R N (scope_equations A.name (length (conditions_of A.name A.branches)) vars else_scope [] A.else_equations)
      × Satisfies R N (merge_equations A.name (conditions_of A.name A.branches) A.outputs)
  unfolding act_equations a cs
  parts =
      let n = length cs in
      let p₀ = satisfies-split R N before _ sat in
      let p₁ = satisfies-split R N (flag_equations a none 0 cs) _ p₀.1 in
      let p₂ = satisfies-split R N (guard_equations a 1 (tail_of cs)) _ p₁.1 in
      let p₃ = satisfies-split R N (branch_equations a n vars 0 A.branches) _ p₂.1 in
      let p₄ = satisfies-split R N (scope_equations a n vars else_scope [] A.else_equations) _ p₃.1 in
      (p₁.0, p₂.0, p₃.0, p₄.0, p₄.1)

  output-given : (o : Name) → Present R N o → all_assign o A.branches ≡ true → assigns o A.else_equations ≡ true → Agrees R N (o ∷ []) (merge_from A.name o 0 (conditions_of A.name A.branches))
      → (t : ℕ) → t < N → OutputGiven R C A vars o t
  unfolding scope_in scope_clock act_accepted
  output-given o po ab ao mg t lt =
      let conds = conditions_of A.name A.branches in
      let s = choice C t 0 conds in
      let ne = has-conditions A.name A.branches (&&-true (nonempty A.branches) (outputs_assigned A.branches A.else_equations A.outputs) ok).0 in
      let cl = from_start R N A.name free-name C o conds ne po P.conditions parts.0 parts.1 mg t lt refl in
      let n = length conds in
      let es = chosen C A.name t A.branches A.else_equations in
      let some-given = gives-some R N A.name n vars s o es (chosen-assigns R N A.name n vars C t o A.branches A.else_equations ab ao) in
      let agree = scope-gives R N A.name n vars s o es [] (chosen-holds R N A.name n vars C t 0 A.branches A.else_equations parts.2 parts.3) in (
        some-given.0,
        some-given.1,
        some-given.2,
        all_give R N A.name n vars (value_var A.name s o) (λ u. eq_scope (choice C u 0 conds) s) cl.1 t lt (scope-same s) (R.at o t) (mg.1 t lt ∙ (rw (po t lt) (cl.0 (clock_of R o))))
            (some-given.0 ∷ some-given.1) (subst (λ (l : List Expr). AllAgree R N A.name n vars (value_var A.name s o) l) some-given.2 agree),
      )

  outputs-given : (ps : List Port) → PortsPresent R N ps → outputs_assigned A.branches A.else_equations ps ≡ true → Satisfies R N (merge_equations A.name (conditions_of A.name A.branches) ps) → OutputsGiven R N C A vars ps
  unfolding outputs_assigned merge_equations eqn
  outputs-given [] b h m = tt
  outputs-given (p ∷ ps) b h m =
      let x = &&-true (all_assign p.name A.branches && assigns p.name A.else_equations) (outputs_assigned A.branches A.else_equations ps) h in
      let y = &&-true (all_assign p.name A.branches) (assigns p.name A.else_equations) x.0 in
      (output-given p.name b.0 y.0 y.1 m.0, outputs-given ps b.1 x.1 m.1)

  pub act_run : OutputsGiven R N C A vars A.outputs
  unfolding act_accepted
  act_run = outputs-given A.outputs P.base (&&-true (nonempty A.branches) (outputs_assigned A.branches A.else_equations A.outputs) ok).1 parts.4
