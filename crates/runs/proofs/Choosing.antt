-- Flags, guards and merges: an output equals the value that the first branch with a true condition has for it, else the else scope's.
use Prim.Native.Nat.{ℕ, zero, suc, ◌+◌, ◌<◌}
use native.Mathlib.Omega.{arith}
use mathlib.Core.List.{List, [], ◌∷◌}
use mathlib.Core.Bool.{Bool, true, false, cond, not, ◌&&◌, beq}
use mathlib.Core.Option.{Option, none, some}
use mathlib.Core.Path.{◌≡◌, refl, sym, ap, subst, ◌∙◌}
use borrow.Author.Tests.{eq-eqb, eqb-false, eqb-true, ne_eqb, not-true}
use lib.Dec.{eqb}
use lib.ListN.{length}
use Rattle.pack_rules.specs.Names.{Name}
use Rattle.pack_rules.specs.Syntax.{Expr, e_unary, e_var, o_not}
use Rattle.activation_rules.specs.Clocks.{guard_equations, onto, under}
use Rattle.activation_rules.specs.Defines.{eqn}
use Rattle.activation_rules.specs.Flags.{and_also, flag_equations}
use Rattle.activation_rules.specs.Lower.{tail_of}
use Rattle.activation_rules.specs.MadeNames.{Scope, act_prefix, branch, clock_var, else_scope, flag_var, made_name, none_var, value_var}
use Rattle.activation_rules.specs.Merges.{merge_from}
use Rattle.run_rules.specs.Premises.{ConditionsAre, Present, starts_with}
use Rattle.run_rules.specs.Run.{Clock, Run, Value, Agrees, binary, binary_value, bools, clock_of, eval, every, FitsClock, if_value, is_bool, not_value, SameClock, Satisfies, sub, unary, v_bool}
use Rattle.run_rules.specs.Scopes.{Conditions, choice, eq_scope}
use Rattle.run_rules.proofs.Booleans.{&&-true}
use Rattle.runs.proofs.ClocksAlike.{eval-var, on-base}
use Rattle.run_rules.proofs.Prefixes.{starts-append}

-- a later branch is another scope
later : (C : Conditions) (u k j : ℕ) (cs : List Expr) → j < k → eq_scope (choice C u k cs) (branch j) ≡ false
unfolding choice eq_scope
later C u k j [] l = refl
later C u k j (c ∷ cs) l = go (C c u) (later C u (suc k) j cs (omega arith))
  where
    go : (b : Bool) → eq_scope (choice C u (suc k) cs) (branch j) ≡ false → eq_scope (cond b (branch k) (choice C u (suc k) cs)) (branch j) ≡ false
    go true r = ne_eqb k j (λ e. omega arith)
    go false r = r

later' : (C : Conditions) (u k j : ℕ) (cs : List Expr) → j < k → eq_scope (branch j) (choice C u k cs) ≡ false
unfolding choice eq_scope
later' C u k j [] l = refl
later' C u k j (c ∷ cs) l = go (C c u) (later' C u (suc k) j cs (omega arith))
  where
    go : (b : Bool) → eq_scope (branch j) (choice C u (suc k) cs) ≡ false → eq_scope (branch j) (cond b (branch k) (choice C u (suc k) cs)) ≡ false
    go true r = ne_eqb j k (λ e. omega arith)
    go false r = r

pub scope-same : (s : Scope) → eq_scope s s ≡ true
unfolding eq_scope
scope-same (branch k) = eq-eqb k k refl
scope-same else_scope = refl

-- what a clock variable holds
beq-true : (b : Bool) → beq true b ≡ b
beq-true true = refl
beq-true false = refl

beq-false : (b : Bool) → beq false b ≡ not b
beq-false true = refl
beq-false false = refl

and-true : (b : Bool) → b && true ≡ b
and-true true = refl
and-true false = refl

pub and-false : (a : Bool) → a && false ≡ false
and-false true = refl
and-false false = refl

module _ {O : Type 0} where
  cell-is : (v b q : Bool) (w : Option (Value O)) → (q ≡ false → w ≡ none) → (q ≡ true → w ≡ some (v_bool b)) → is_bool v w ≡ q && beq v b
  unfolding is_bool
  cell-is v b true w p h = rw (h refl)
  cell-is v b false w p h = rw (p refl)

module _ {O : Type 0} (R : Run O) (N : ℕ) (a : Name) (free : (x : Name) → starts_with act_prefix x ≡ true → R.enums x ≡ false) where
  made-free : (l : ℕ) (r : Name) → R.enums (made_name a l r) ≡ false
  unfolding made_name
  made-free l r = free (made_name a l r) (starts-append act_prefix _)

  pub flag-free : (k : ℕ) → R.enums (flag_var a k) ≡ false
  unfolding flag_var
  flag-free k = made-free _ _

  none_free : (k : ℕ) → R.enums (none_var a k) ≡ false
  unfolding none_var
  none_free k = made-free _ _

  pub value-free : (s : Scope) (o : Name) → R.enums (value_var a s o) ≡ false
  unfolding value_var
  value-free s o = made-free _ _

  -- sampling where the branches before `k` failed
  pub under-fits : (k : ℕ) (e : Expr) (c : Clock) → FitsClock R N (under a (suc k) e) c → FitsClock R N e (clock_of R (clock_var a 0))
  unfolding under
  under-fits zero e c h = h.1
  under-fits (suc k) e c h = under-fits k e (clock_of R (clock_var a (suc k))) h.1

  under-eval : (k : ℕ) (e : Expr) (w : Option (Value O)) (c : Clock) (t : ℕ) → ((d : Clock) → eval R e d t ≡ w) → ((j : ℕ) → j < k → R.at (clock_var a j) t ≡ some (v_bool false)) → eval R (under a k e) c t ≡ w
  unfolding under eval sub is_bool
  under-eval zero e w c t ev h = ev c
  under-eval (suc k) e w c t ev h = rw (h k (omega arith)) (under-eval k e w (clock_of R (clock_var a k)) t ev (λ j l. h j (omega arith)))

  -- the condition that no branch before holds
  abbrev pub PriorIs : Option Expr → (ℕ → Bool) → Type 0
  PriorIs none Q = (t : ℕ) → t < N → Q t ≡ true
  PriorIs (some p) Q = (t : ℕ) → t < N → eval R p every t ≡ some (v_bool (Q t))

  and_also-eval : (prior : Option Expr) (Q : ℕ → Bool) (c : Expr) (b : Bool) (t : ℕ) → t < N → PriorIs prior Q → eval R c every t ≡ some (v_bool b) → eval R (and_also prior c) every t ≡ some (v_bool (Q t && b))
  unfolding and_also eval binary binary_value bools
  and_also-eval none Q c b t lt p e = rw (p t lt) e
  and_also-eval (some x) Q c b t lt p e = rw (p t lt, e)

  not-eval : (c : Expr) (b : Bool) (t : ℕ) → eval R c every t ≡ some (v_bool b) → eval R (e_unary o_not c) every t ≡ some (v_bool (not b))
  unfolding eval unary not_value
  not-eval c b t e = rw e

  pub flag-head : (prior : Option Expr) (i : ℕ) (c : Expr) (cs : List Expr) → Satisfies R N (flag_equations a prior i (c ∷ cs)) → Agrees R N (flag_var a i ∷ []) (and_also prior c)
  unfolding flag_equations eqn
  flag-head prior i c [] h = h.0
  flag-head prior i c (d ∷ cs) h = h.0

  module _ (C : Conditions) (o : Name) where
    -- a clock variable, where no branch before holds
    sub-true : (k : ℕ) (Q : ℕ → Bool) (c : Expr) → SameClock N (clock_of R (clock_var a k)) Q → ((t : ℕ) → t < N → Q t ≡ true → R.at (clock_var a k) t ≡ some (v_bool (C c t)))
        → (t : ℕ) → t < N → sub R (clock_var a k) true t ≡ Q t && C c t
    unfolding sub clock_of
    sub-true k Q c p h t lt = cell-is true (C c t) (Q t) (R.at (clock_var a k) t) (λ e. R.off (clock_var a k) t (p t lt ∙ e)) (h t lt) ∙ ap (λ x. Q t && x) (beq-true (C c t))

    sub-false : (k : ℕ) (Q : ℕ → Bool) (c : Expr) → SameClock N (clock_of R (clock_var a k)) Q → ((t : ℕ) → t < N → Q t ≡ true → R.at (clock_var a k) t ≡ some (v_bool (C c t)))
        → (t : ℕ) → t < N → sub R (clock_var a k) false t ≡ Q t && not (C c t)
    unfolding sub clock_of
    sub-false k Q c p h t lt = cell-is false (C c t) (Q t) (R.at (clock_var a k) t) (λ e. R.off (clock_var a k) t (p t lt ∙ e)) (h t lt) ∙ ap (λ x. Q t && x) (beq-false (C c t))

    -- what is claimed of the branches from `k` on, in the cycles where none before holds
    -- (what the merged output is; in which cycles the chosen scope's value is present; what is sampled onto that scope, and that it is present)
    abbrev pub Claim : ℕ → ℕ → List Expr → (ℕ → Bool) → Type 0
    Claim n k cs Q = (t : ℕ) → t < N → Q t ≡ true
        → ((clk : Clock) → eval R (merge_from a o k cs) clk t ≡ R.at (value_var a (choice C t k cs) o) t)
        × ((u : ℕ) → u < N → clock_of R (value_var a (choice C t k cs) o) u ≡ Q u && eq_scope (choice C u k cs) (choice C t k cs))
        × ((e : Expr) (w : Option (Value O)) → ((d : Clock) → eval R e d t ≡ w) → (clk : Clock) → eval R (onto a n (choice C t k cs) e) clk t ≡ w)
        × ((e : Expr) (clk : Clock) → FitsClock R N (onto a n (choice C t k cs) e) clk → clk t ≡ true)

    abbrev Fails : ℕ → (ℕ → Bool) → Type 0
    Fails k Q = (j : ℕ) → j < k → (t : ℕ) → t < N → Q t ≡ true → R.at (clock_var a j) t ≡ some (v_bool false)

    level-last : (k : ℕ) (Q : ℕ → Bool) (clk : Clock) → FitsClock R N (merge_from a o (suc k) []) clk → SameClock N clk Q → Fails (suc k) Q → Claim (suc k) (suc k) [] Q
    unfolding merge_from choice eq_scope eval onto under sub is_bool
    level-last k Q clk f s fails t lt q = (
      (λ c. rw (value-free else_scope o)),
      (λ u l. f (value-free else_scope o) u l ∙ (s u l ∙ sym (and-true (Q u)))),
      (λ e w ev c. under-eval (suc k) e w c t ev (λ j l. fails j l t lt q)),
      λ e c h. sym (h.0 t lt) ∙ (rw (fails k (omega arith) t lt q)),
    )

    step : (n k : ℕ) (c : Expr) (cs : List Expr) (Q : ℕ → Bool) (clk : Clock) → Fails k Q → SameClock N (clock_of R (clock_var a k)) Q
        → ((t : ℕ) → t < N → Q t ≡ true → R.at (clock_var a k) t ≡ some (v_bool (C c t)))
        → FitsClock R N (merge_from a o k (c ∷ cs)) clk → Claim n (suc k) cs (λ t. Q t && not (C c t)) → Claim n k (c ∷ cs) Q
    unfolding merge_from choice eval if_value onto sub is_bool
    step n k c cs Q clk fails p h f below t lt q = go (C c t) refl
      where
        here : (u : ℕ) → u < N → (b : Bool) → C c u ≡ b → Q u && C c u ≡ Q u && eq_scope (cond (C c u) (branch k) (choice C u (suc k) cs)) (branch k)
        here u l true e = rw (e, scope-same (branch k))
        here u l false e = rw (e, later C u (suc k) k cs (omega arith))

        there : (u : ℕ) → u < N → (b : Bool) → C c u ≡ b
            → (Q u && not (C c u)) && eq_scope (choice C u (suc k) cs) (choice C t (suc k) cs) ≡ Q u && eq_scope (cond (C c u) (branch k) (choice C u (suc k) cs)) (choice C t (suc k) cs)
        there u l true e = rw (e, later' C t (suc k) k cs (omega arith), and-false (Q u))
        there u l false e = rw e (ap (λ x. x && eq_scope (choice C u (suc k) cs) (choice C t (suc k) cs)) (and-true (Q u)))

        go : (b : Bool) → C c t ≡ b
            → ((clk : Clock) → eval R (merge_from a o k (c ∷ cs)) clk t ≡ R.at (value_var a (choice C t k (c ∷ cs)) o) t)
            × ((u : ℕ) → u < N → clock_of R (value_var a (choice C t k (c ∷ cs)) o) u ≡ Q u && eq_scope (choice C u k (c ∷ cs)) (choice C t k (c ∷ cs)))
            × ((e : Expr) (w : Option (Value O)) → ((d : Clock) → eval R e d t ≡ w) → (clk : Clock) → eval R (onto a n (choice C t k (c ∷ cs)) e) clk t ≡ w)
            × ((e : Expr) (clk : Clock) → FitsClock R N (onto a n (choice C t k (c ∷ cs)) e) clk → clk t ≡ true)
        go true e =
            rw e (
              (λ c'. rw (h t lt q, e, value-free (branch k) o)),
              (λ u l. f.1 (value-free (branch k) o) u l ∙ (sub-true k Q c p h u l ∙ here u l (C c u) refl)),
              (λ e' w ev d. rw (h t lt q, e) (under-eval k e' w (clock_of R (clock_var a k)) t ev (λ j l. fails j l t lt q))),
              λ e' d g. sym (g.0 t lt) ∙ (rw (h t lt q, e)),
            )
        go false e =
            let r = below t lt (rw (q, e)) in
            rw e ((λ c'. rw (h t lt q, e) (r.0 (sub R (clock_var a k) false))), (λ u l. r.1 u l ∙ there u l (C c u) refl), r.2, r.3)

    clock-is : (k : ℕ) (c : Expr) (cs : List Expr) (Q : ℕ → Bool) (clk : Clock) → FitsClock R N (merge_from a o k (c ∷ cs)) clk → SameClock N clk Q → SameClock N (clock_of R (clock_var a k)) Q
    unfolding merge_from
    clock-is k c cs Q clk ft s t lt = ft.0 t lt ∙ s t lt

    value-is : (k : ℕ) (c : Expr) (cs : List Expr) (prior : Option Expr) (Q : ℕ → Bool) → ConditionsAre R N C (c ∷ cs) → Satisfies R N (flag_equations a prior k (c ∷ cs)) → PriorIs prior Q → Present R N (flag_var a k)
        → ((t : ℕ) → t < N → Q t ≡ true → R.at (clock_var a k) t ≡ R.at (flag_var a k) t)
        → (t : ℕ) → t < N → Q t ≡ true → R.at (clock_var a k) t ≡ some (v_bool (C c t))
    value-is k c cs prior Q cd fl pr pf same t lt q =
        same t lt q
        ∙ (on-base R N (flag_var a k) (and_also prior c) pf (flag-head prior k c cs fl) t lt
        ∙ (and_also-eval prior Q c (C c t) t lt pr (cd.0 t lt) ∙ ap (λ x. some (v_bool (x && C c t))) q))

    -- the parts that the next level needs
    none_is : (k : ℕ) (c d : Expr) (ds : List Expr) (prior : Option Expr) (Q : ℕ → Bool) → ConditionsAre R N C (c ∷ d ∷ ds) → Satisfies R N (flag_equations a prior k (c ∷ d ∷ ds)) → PriorIs prior Q → Present R N (flag_var a (suc k))
        → PriorIs (some (e_var (none_var a k))) (λ t. Q t && not (C c t))
    unfolding flag_equations eqn and_also eval
    none_is k c d ds prior Q cd fl pr pf t lt =
        let fd : Agrees R N (flag_var a (suc k) ∷ []) (and_also (some (e_var (none_var a k))) d) = flag-head (some (e_var (none_var a k))) (suc k) d ds fl.1.1 in
        let pn : Present R N (none_var a k) = λ u l. fd.0.0 (none_free k) u l ∙ pf u l in
        rw (none_free k) (on-base R N (none_var a k) (and_also prior (e_unary o_not c)) pn fl.1.0 t lt ∙ and_also-eval prior Q (e_unary o_not c) (not (C c t)) t lt pr (not-eval c (C c t) t (cd.0 t lt)))

    flag-present : (k : ℕ) (d : Expr) (ds : List Expr) → Present R N (clock_var a 0) → Satisfies R N (guard_equations a (suc k) (d ∷ ds)) → Present R N (flag_var a (suc k))
    unfolding guard_equations eqn
    flag-present k d ds b0 gd t lt = under-fits k (e_var (flag_var a (suc k))) (clock_of R (clock_var a (suc k))) gd.0.0 (flag-free (suc k)) t lt ∙ b0 t lt

    guard-is : (k : ℕ) (d : Expr) (ds : List Expr) (Q : ℕ → Bool) → Satisfies R N (guard_equations a (suc k) (d ∷ ds)) → SameClock N (clock_of R (clock_var a (suc k))) Q
        → ((j : ℕ) → j < suc k → (t : ℕ) → t < N → Q t ≡ true → R.at (clock_var a j) t ≡ some (v_bool false))
        → (t : ℕ) → t < N → Q t ≡ true → R.at (clock_var a (suc k)) t ≡ R.at (flag_var a (suc k)) t
    unfolding guard_equations eqn
    guard-is k d ds Q gd s fails t lt q =
        gd.0.1 t lt ∙ (rw (s t lt, q) (under-eval (suc k) (e_var (flag_var a (suc k))) (R.at (flag_var a (suc k)) t) (clock_of R (clock_var a (suc k))) t (λ d. eval-var R (flag_var a (suc k)) d t (flag-free (suc k))) (λ j l. fails j l t lt q)))

    fails-next : (k : ℕ) (c : Expr) (Q : ℕ → Bool)
        → ((j : ℕ) → j < k → (t : ℕ) → t < N → Q t ≡ true → R.at (clock_var a j) t ≡ some (v_bool false))
        → ((t : ℕ) → t < N → Q t ≡ true → R.at (clock_var a k) t ≡ some (v_bool (C c t)))
        → (j : ℕ) → j < suc k → (t : ℕ) → t < N → Q t && not (C c t) ≡ true → R.at (clock_var a j) t ≡ some (v_bool false)
    fails-next k c Q fails value j l t lt q = go (eqb j k) refl
      where
        both : (Q t ≡ true) × (not (C c t) ≡ true)
        both = &&-true (Q t) (not (C c t)) q

        go : (b : Bool) → eqb j k ≡ b → R.at (clock_var a j) t ≡ some (v_bool false)
        go true e = rw (eqb-true j k e) (value t lt both.0 ∙ ap (λ x. some (v_bool x)) (not-true (C c t) both.1))
        go false e = fails j (omega (arith, eqb-false j k e)) t lt both.0

    pub level : (cs : List Expr) (n k : ℕ) (c : Expr) (prior : Option Expr) (Q : ℕ → Bool) (clk : Clock)
        → Present R N (clock_var a 0)
        → ConditionsAre R N C (c ∷ cs)
        → Satisfies R N (flag_equations a prior k (c ∷ cs))
        → Satisfies R N (guard_equations a (suc k) cs)
        → PriorIs prior Q
        → Present R N (flag_var a k)
        → ((t : ℕ) → t < N → Q t ≡ true → R.at (clock_var a k) t ≡ R.at (flag_var a k) t)
        → ((j : ℕ) → j < k → (t : ℕ) → t < N → Q t ≡ true → R.at (clock_var a j) t ≡ some (v_bool false))
        → FitsClock R N (merge_from a o k (c ∷ cs)) clk → SameClock N clk Q → suc k + length cs ≡ n
        → Claim n k (c ∷ cs) Q
    unfolding merge_from flag_equations guard_equations eqn
    level [] n k c prior Q clk b0 cd fl gd pr pf same fails ft s en =
        let clock = clock-is k c [] Q clk ft s in
        let value = value-is k c [] prior Q cd fl pr pf same in
        step n k c [] Q clk fails clock value ft
        (subst (λ x. Claim x (suc k) [] (λ t. Q t && not (C c t))) (omega (arith, en)) (level-last k (λ t. Q t && not (C c t)) (sub R (clock_var a k) false) ft.2 (sub-false k Q c clock value) (fails-next k c Q fails value)))
    level (d ∷ ds) n k c prior Q clk b0 cd fl gd pr pf same fails ft s en =
        let clock = clock-is k c (d ∷ ds) Q clk ft s in
        let value = value-is k c (d ∷ ds) prior Q cd fl pr pf same in
        let Q' : ℕ → Bool = λ t. Q t && not (C c t) in
        let pf' = flag-present k d ds b0 gd in
        let sf = sub-false k Q c clock value in
        let fails' = fails-next k c Q fails value in
        let clock' = clock-is (suc k) d ds Q' (sub R (clock_var a k) false) ft.2 sf in
        step n k c (d ∷ ds) Q clk fails clock value ft
        (level ds n (suc k) d (some (e_var (none_var a k))) Q' (sub R (clock_var a k) false) b0 cd.1 fl.1.1 gd.1
        (none_is k c d ds prior Q cd fl pr pf') pf' (guard-is k d ds Q' gd clock' fails') fails' ft.2 sf (omega (arith, en)))

    -- all branches, from an output that is present in every cycle
    pub from_start : (cs : List Expr) → (cs ≡ [] → ⊥) → Present R N o → ConditionsAre R N C cs → Satisfies R N (flag_equations a none 0 cs) → Satisfies R N (guard_equations a 1 (tail_of cs))
        → Agrees R N (o ∷ []) (merge_from a o 0 cs) → Claim (length cs) 0 cs (λ t. true)
    unfolding merge_from clock_var tail_of
    from_start [] ne po cd fl gd mg = absurd (ne refl)
    from_start (c ∷ cs) ne po cd fl gd mg =
        let b0 : Present R N (clock_var a 0) = λ t lt. mg.0.0 t lt ∙ po t lt in
        level cs (suc (length cs)) 0 c none (λ t. true) (clock_of R o) b0 cd fl gd (λ t lt. refl) b0 (λ t lt q. refl) (λ j l. absurd (omega arith)) mg.0 po (omega arith)
