-- What is sampled, and what conditions read, is on the full clock.
use Prim.Native.Nat.{◌<◌, suc, zero, ℕ}
use mathlib.Core.List.{List, [], ◌++◌, ◌∷◌}
use mathlib.Core.Bool.{Bool, ◌||◌, cond, false, true}
use mathlib.Core.Option.{Option, none, some}
use mathlib.Core.Path.{◌∙◌, ◌≡◌, refl, subst, sym}
use Rattle.pack.proofs.Tables.{eq_name-true}
use Rattle.pack_rules.specs.Names.{Name, eq_name, member}
use Rattle.pack_rules.specs.Syntax.{Branch, Equation, Expr, e_arrow, e_pre, e_var}
use Rattle.activation_rules.specs.Clocks.{guard_equations, onto, under}
use Rattle.activation_rules.specs.Defines.{eqn, first_left}
use Rattle.activation_rules.specs.Flags.{and_also, flag_equations}
use Rattle.activation_rules.specs.MadeNames.{Scope, act_prefix, branch, clock_var, else_scope, flag_var, last_var, none_var, sample_var, value_var}
use Rattle.activation_rules.specs.FreeVars.{keep_in, reads_of}
use Rattle.activation_rules.specs.Samples.{drop_in, sample_equations}
use Rattle.activation_rules.specs.Scopes.{branch_equations, rewritten, scope_equations, scope_reads}
use Rattle.activation_rules.specs.Sought.{bodies, conditions, right_sides}
use Rattle.activation_rules.specs.RewriteLast.{conditions_of, rewrite_last}
use Rattle.run_rules.specs.Visits.{Every}
use Rattle.run_rules.specs.Premises.{Present, starts_with}
use Rattle.run_rules.specs.Run.{Clock, Run, Agrees, arrow_at, clock_of, eval, every, FitsClock, pre_at, previous, SameClock, Satisfies}
use Rattle.runs.proofs.ActRuns.{satisfies-split}
use Rattle.run_rules.proofs.Booleans.{or_split, true-false, ≡→T}
use Rattle.runs.proofs.Choosing.{flag-free, under-fits}
use Rattle.runs.proofs.ClocksAlike.{on-base}
use Rattle.runs.proofs.Held.{empty, every_append, split}
use Rattle.runs.proofs.OverSamples.{drop-in}

-- a holder whose equation is on the full clock
pub record Holds {O : Type 0} (R : Run O) (N : ℕ) (a v : Name) (initial : Expr) : Type 0 where
  pub first : 0 < N → R.at (last_var a v) 0 ≡ eval R initial every 0
  pub later : (t : ℕ) → suc t < N → R.at (last_var a v) (suc t) ≡ R.at v t

pub holds : {O : Type 0} (R : Run O) (N : ℕ) (a v : Name) (initial : Expr) → Present R N (last_var a v) → Agrees R N (last_var a v ∷ []) (e_arrow initial (e_pre (e_var v))) → R.enums v ≡ false → Holds R N a v initial
unfolding eval previous arrow_at pre_at
holds R N a v initial p h e = record {
  first = λ l. on-base R N (last_var a v) (e_arrow initial (e_pre (e_var v))) p h 0 l;
  later = λ t l. on-base R N (last_var a v) (e_arrow initial (e_pre (e_var v))) p h (suc t) l ∙ (rw e);
}

pub keep-have : (vars l : List Name) (x : Name) → member x l ≡ true → member x vars ≡ true → member x (keep_in vars l) ≡ true
unfolding keep_in member
keep-have vars [] x m k = absurd (≡→T false m)
keep-have vars (y ∷ l) x m k = go (member y vars) refl (λ (q : member x l ≡ true). keep-have vars l x q k)
  where
    go : (b : Bool) → member y vars ≡ b → (member x l ≡ true → member x (keep_in vars l) ≡ true) → member x (cond b (y ∷ keep_in vars l) (keep_in vars l)) ≡ true
    go true e r = here (eq_name x y) refl
      where
        here : (c : Bool) → eq_name x y ≡ c → eq_name x y || member x (keep_in vars l) ≡ true
        here true q = rw q
        here false q = rw q (r (or_split (eq_name x y) (member x l) m q))
    go false e r = there (eq_name x y) refl
      where
        there : (c : Bool) → eq_name x y ≡ c → member x (keep_in vars l) ≡ true
        there true q = absurd (true-false {b = member y vars} (subst (λ (z : Name). member z vars ≡ true) (eq_name-true x y q) k) e)
        there false q = r (or_split (eq_name x y) (member x l) m q)

module _ {O : Type 0} (R : Run O) (N : ℕ) (a : Name) (free : (x : Name) → starts_with act_prefix x ≡ true → R.enums x ≡ false) where
  -- on the clock of the first flag, which is the full one
  abbrev pub Base : Name → Type 0
  Base x = SameClock N (clock_of R x) (clock_of R (clock_var a 0))

  pub onto-base : (n k : ℕ) → n ≡ suc k → (s : Scope) (x : Name) (c : Clock) → R.enums x ≡ false → FitsClock R N (onto a n s (e_var x)) c → Base x
  unfolding onto under
  onto-base n k e (branch zero) x c en h = h.1 en
  onto-base n k e (branch (suc j)) x c en h = under-fits R N a free j (e_var x) (clock_of R (clock_var a (suc j))) h.1 en
  onto-base n k e else_scope x c en h = under-fits R N a free k (e_var x) c (subst (λ (m : ℕ). FitsClock R N (under a m (e_var x)) c) e h) en

  module _ (n k : ℕ) (en : n ≡ suc k) (vars : List Name) where
    pub samples-base : (s : Scope) (l : List Name) → Satisfies R N (sample_equations a n s l) → (x : Name) → member x l ≡ true → R.enums x ≡ false → Base x
    unfolding sample_equations eqn member
    samples-base s [] h x m f = absurd (≡→T false m)
    samples-base s (y ∷ l) h x m f = go (eq_name x y) refl (λ (q : member x l ≡ true). samples-base s l h.1 x q f)
      where
        go : (b : Bool) → eq_name x y ≡ b → (member x l ≡ true → Base x) → Base x
        go true q r =
            let p : y ≡ x = sym (eq_name-true x y q) in
            onto-base n k en s x (clock_of R (sample_var a s y)) f (subst (λ (z : Name). FitsClock R N (onto a n s (e_var z)) (clock_of R (sample_var a s y))) p h.0.0)
        go false q r = r (or_split (eq_name x y) (member x l) m q)

    -- what a right side reads is on the full clock
    abbrev pub Reads : Expr → Type 0
    Reads e = (x : Name) → member x (reads_of vars (rewrite_last a e)) ≡ true → R.enums x ≡ false → Base x

    pub scope-base : (s : Scope) (es : List Equation) (old : List Name) → ((x : Name) → member x old ≡ true → R.enums x ≡ false → Base x) → Satisfies R N (scope_equations a n vars s old es) → Every Reads (right_sides es)
    unfolding scope_equations scope_reads reads_of right_sides
    scope-base s [] old b sat = tt
    scope-base s (e ∷ es) old b sat = (own, scope-base s es (old ++ drop_in old r) both p.1.1)
      where
        r : List Name
        r = scope_reads a vars e

        this : Equation
        this = eqn (value_var a s (first_left e.lhs)) (rewritten a n vars s e)

        p : Satisfies R N (sample_equations a n s (drop_in old r)) × Satisfies R N (this ∷ scope_equations a n vars s (old ++ drop_in old r) es)
        p = satisfies-split R N (sample_equations a n s (drop_in old r)) (this ∷ scope_equations a n vars s (old ++ drop_in old r) es) sat

        both : (x : Name) → member x (old ++ drop_in old r) ≡ true → R.enums x ≡ false → Base x
        both x m f = split {P = Base x} x old (drop_in old r) m (λ q. b x q f) (λ q. samples-base s (drop_in old r) p.0 x q f)

        own : (x : Name) → member x r ≡ true → R.enums x ≡ false → Base x
        own x m f = pick (member x old) refl
          where
            pick : (c : Bool) → member x old ≡ c → Base x
            pick true q = b x q f
            pick false q = samples-base s (drop_in old r) p.0 x (drop-in old r x m q) f

    pub branches-base : (i : ℕ) (bs : List Branch) → Satisfies R N (branch_equations a n vars i bs) → Every Reads (bodies bs)
    unfolding branch_equations bodies
    branches-base i [] sat = tt
    branches-base i (b ∷ bs) sat =
        let p = satisfies-split R N (scope_equations a n vars (branch i) [] b.equations) (branch_equations a n vars (suc i) bs) sat in
        every_append Reads (right_sides b.equations) (bodies bs) (scope-base (branch i) b.equations [] (λ x m f. absurd (empty x m)) p.0) (branches-base (suc i) bs p.1)

  -- a condition stands on the full clock
  abbrev pub Stands : Expr → Type 0
  Stands c = (d : Clock) × SameClock N d (clock_of R (clock_var a 0)) × FitsClock R N (rewrite_last a c) d

  and-fits : (prior : Option Expr) (c : Expr) (d : Clock) → FitsClock R N (and_also prior c) d → FitsClock R N c d
  unfolding and_also
  and-fits none c d h = h
  and-fits (some p) c d h = h.1

  pub conditions-stand : (bs : List Branch) (b : Branch) (prior : Option Expr) (k : ℕ) → Satisfies R N (flag_equations a prior k (conditions_of a (b ∷ bs))) → Base (flag_var a k) → Satisfies R N (guard_equations a (suc k) (conditions_of a bs))
      → Every Stands (conditions (b ∷ bs))
  unfolding flag_equations guard_equations conditions_of conditions eqn
  conditions-stand [] b prior k h p g = ((clock_of R (flag_var a k), p, and-fits prior (rewrite_last a b.condition) (clock_of R (flag_var a k)) h.0.0), tt)
  conditions-stand (b' ∷ bs) b prior k h p g = (
    (clock_of R (flag_var a k), p, and-fits prior (rewrite_last a b.condition) (clock_of R (flag_var a k)) h.0.0),
    conditions-stand bs b' (some (e_var (none_var a k))) (suc k) h.1.1
        (under-fits R N a free k (e_var (flag_var a (suc k))) (clock_of R (clock_var a (suc k))) g.0.0 (flag-free R N a free (suc k))) g.1,
  )
