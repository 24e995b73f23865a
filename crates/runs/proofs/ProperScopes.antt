-- Equations and locals of an activation may be written.
use Prim.Native.Nat.{ℕ, zero, suc}
use mathlib.Core.List.{List, [], ◌∷◌, ◌++◌}
use mathlib.Core.Bool.{Bool, true, false, cond}
use mathlib.Core.Option.{Option, none, some}
use lib.ListN.{length}
use Rattle.wire.specs.Lists.{All}
use Rattle.pack_rules.specs.Legal.{Allowed}
use Rattle.pack_rules.specs.Names.{Name, eq_name}
use Rattle.pack_rules.specs.Syntax.{Activation, Branch, Equation, Expr, Port, Ty, e_unary, e_var, o_not, t_bool}
use Rattle.pack.proofs.Tables.{all_append}
use Rattle.activation_rules.specs.Clocks.{guard_equations, onto, under}
use Rattle.activation_rules.specs.Defines.{as_locals, eqn, first_left}
use Rattle.activation_rules.specs.Flags.{and_also, flag_equations}
use Rattle.activation_rules.specs.Lower.{act_equations, act_locals, tail_of}
use Rattle.activation_rules.specs.MadeNames.{Scope, branch, clock_var, else_scope, flag_var, none_var, sample_var, value_var}
use Rattle.activation_rules.specs.Merges.{merge_equations, merge_from}
use Rattle.activation_rules.specs.SampledConstants.{has_const, sample_constants, sample_value}
use Rattle.activation_rules.specs.FreeVars.{free_vars, reads_of}
use Rattle.activation_rules.specs.Samples.{drop_in, over_samples, renamed, sample_equations, sample_locals}
use Rattle.activation_rules.specs.Scopes.{branch_equations, branch_locals, rewritten, scope_equations, scope_locals, scope_reads}
use Rattle.activation_rules.specs.RewriteLast.{conditions_of, rewrite_last}
use Rattle.machines.proofs.RefusalNames.{Maybe}
use Rattle.runs.proofs.Letters.{Lettered, clock-allowed, flag-allowed, none_allowed, sample-allowed, value-allowed}
use Rattle.runs.proofs.Proper.{ProperE, ProperPort, ProperQ, ProperTy}
use Rattle.runs.proofs.ProperDrawn.{ProperActivation, ProperBranch}
use Rattle.runs.proofs.ProperLasts.{unlast-proper}
use Rattle.runs.proofs.ProperMade.{bool-proper}
use Rattle.runs.proofs.ProperRewritten.{drop-proper, eqn-proper, head-lettered, keep-proper, pin-proper, read-proper, rename-proper}

-- the equations of the activation `a`
module _ (a : Name) (ha : Lettered a) where
  and-proper : (p : Option Expr) (c : Expr) → Maybe ProperE p → ProperE c → ProperE (and_also p c)
  unfolding and_also Maybe ProperE
  and-proper none c h k = k
  and-proper (some p) c h k = (h, k)

  flags-proper : (p : Option Expr) (i : ℕ) (cs : List Expr) → Maybe ProperE p → All ProperE cs → All ProperQ (flag_equations a p i cs)
  unfolding flag_equations All Maybe ProperE
  flags-proper p i [] h k = tt
  flags-proper p i (c ∷ []) h k = (eqn-proper (flag_var a i) (and_also p c) (flag-allowed a i ha) (and-proper p c h k.0), tt)
  flags-proper p i (c ∷ d ∷ cs) h k = (
    eqn-proper (flag_var a i) (and_also p c) (flag-allowed a i ha) (and-proper p c h k.0),
    (
      eqn-proper (none_var a i) (and_also p (e_unary o_not c)) (none_allowed a i ha) (and-proper p (e_unary o_not c) h k.0),
      flags-proper (some (e_var (none_var a i))) (suc i) (d ∷ cs) (none_allowed a i ha) k.1,
    ),
  )

  flags-locals : (p : Option Expr) (i : ℕ) (cs : List Expr) → All ProperPort (as_locals t_bool (flag_equations a p i cs))
  unfolding flag_equations All as_locals first_left eqn
  flags-locals p i [] = tt
  flags-locals p i (c ∷ []) = (record { name = flag-allowed a i ha; ty = bool-proper }, tt)
  flags-locals p i (c ∷ d ∷ cs) =
      (record { name = flag-allowed a i ha; ty = bool-proper }, (record { name = none_allowed a i ha; ty = bool-proper }, flags-locals (some (e_var (none_var a i))) (suc i) (d ∷ cs)))

  under-proper : (k : ℕ) (e : Expr) → ProperE e → ProperE (under a k e)
  unfolding under ProperE
  under-proper zero e h = h
  under-proper (suc k) e h = (clock-allowed a k ha, under-proper k e h)

  onto-proper : (n : ℕ) (s : Scope) (e : Expr) → ProperE e → ProperE (onto a n s e)
  unfolding onto ProperE
  onto-proper n (branch k) e h = (clock-allowed a k ha, under-proper k e h)
  onto-proper n else_scope e h = under-proper n e h

  guards-proper : (k : ℕ) (cs : List Expr) → All ProperQ (guard_equations a k cs)
  unfolding guard_equations All ProperE
  guards-proper k [] = tt
  guards-proper k (c ∷ cs) = (eqn-proper (clock_var a k) (under a k (e_var (flag_var a k))) (clock-allowed a k ha) (under-proper k (e_var (flag_var a k)) (flag-allowed a k ha)), guards-proper (suc k) cs)

  guards-locals : (k : ℕ) (cs : List Expr) → All ProperPort (as_locals t_bool (guard_equations a k cs))
  unfolding guard_equations All as_locals first_left eqn
  guards-locals k [] = tt
  guards-locals k (c ∷ cs) = (record { name = clock-allowed a k ha; ty = bool-proper }, guards-locals (suc k) cs)

  merge-proper : (o : Name) (k : ℕ) (cs : List Expr) → Lettered o → ProperE (merge_from a o k cs)
  unfolding merge_from ProperE
  merge-proper o k [] h = value-allowed a else_scope o ha h
  merge-proper o k (c ∷ cs) h = (clock-allowed a k ha, value-allowed a (branch k) o ha h, merge-proper o (suc k) cs h)

  merges-proper : (cs : List Expr) (ps : List Port) → All ProperPort ps → All ProperQ (merge_equations a cs ps)
  unfolding merge_equations All
  merges-proper cs [] h = tt
  merges-proper cs (p ∷ ps) h = (eqn-proper p.name (merge_from a p.name 0 cs) h.0.name (merge-proper p.name 0 cs h.0.name.1), merges-proper cs ps h.1)

  renamed-proper : (s : Scope) (vs : List Name) → All Allowed vs → (x : Name) → Allowed x → Allowed (renamed a s vs x)
  unfolding renamed All
  renamed-proper s [] h x k = k
  renamed-proper s (v ∷ vs) h x k = renamed-proper s vs h.1 (cond (eq_name x v) (sample_var a s v) x) (go (eq_name x v))
    where
      go : (b : Bool) → Allowed (cond b (sample_var a s v) x)
      go true = sample-allowed a s v ha h.0.1
      go false = k

  pinned-proper : (n : ℕ) (s : Scope) (e : Expr) → ProperE e → ProperE (sample_value (onto a n s) e)
  unfolding sample_value
  pinned-proper n s e h = go (has_const e)
    where
      go : (b : Bool) → ProperE (cond b (sample_constants (onto a n s) e) (onto a n s e))
      go true = pin-proper (onto a n s) (onto-proper n s) e h
      go false = onto-proper n s e h

  samples-proper : (n : ℕ) (s : Scope) (vs : List Name) (e : Expr) → All Allowed vs → ProperE e → ProperE (over_samples a n s vs e)
  unfolding over_samples
  samples-proper n s [] e h k = pinned-proper n s e k
  samples-proper n s (v ∷ vs) e h k = rename-proper (renamed a s (v ∷ vs)) (renamed-proper s (v ∷ vs) h) e k

  reads-of : (vars : List Name) (e : Equation) → ProperE e.rhs → All Allowed (scope_reads a vars e)
  unfolding scope_reads reads_of All
  reads-of vars e h = keep-proper vars (free_vars (rewrite_last a e.rhs) []) (read-proper (rewrite_last a e.rhs) [] (unlast-proper a ha e.rhs h) tt)

  rewritten-proper : (n : ℕ) (vars : List Name) (s : Scope) (e : Equation) → ProperE e.rhs → ProperE (rewritten a n vars s e)
  unfolding rewritten
  rewritten-proper n vars s e h = samples-proper n s (scope_reads a vars e) (rewrite_last a e.rhs) (reads-of vars e h) (unlast-proper a ha e.rhs h)

  sample-equations : (n : ℕ) (s : Scope) (vs : List Name) → All Allowed vs → All ProperQ (sample_equations a n s vs)
  unfolding sample_equations All ProperE
  sample-equations n s [] h = tt
  sample-equations n s (v ∷ vs) h = (eqn-proper (sample_var a s v) (onto a n s (e_var v)) (sample-allowed a s v ha h.0.1) (onto-proper n s (e_var v) h.0), sample-equations n s vs h.1)

  scope-equations : (n : ℕ) (vars : List Name) (s : Scope) (old : List Name) (es : List Equation) → All ProperQ es → All ProperQ (scope_equations a n vars s old es)
  unfolding scope_equations All
  scope-equations n vars s old [] h = tt
  scope-equations n vars s old (e ∷ es) h =
      let r = scope_reads a vars e in
      all_append ProperQ (sample_equations a n s (drop_in old r)) (eqn (value_var a s (first_left e.lhs)) (rewritten a n vars s e) ∷ scope_equations a n vars s (old ++ drop_in old r) es)
      (sample-equations n s (drop_in old r) (drop-proper old r (reads-of vars e h.0.rhs))) (
        eqn-proper (value_var a s (first_left e.lhs)) (rewritten a n vars s e) (value-allowed a s (first_left e.lhs) ha (head-lettered e.lhs h.0.lhs)) (rewritten-proper n vars s e h.0.rhs),
        scope-equations n vars s (old ++ drop_in old r) es h.1,
      )

  branch-equations : (n : ℕ) (vars : List Name) (k : ℕ) (bs : List Branch) → All ProperBranch bs → All ProperQ (branch_equations a n vars k bs)
  unfolding branch_equations All
  branch-equations n vars k [] h = tt
  branch-equations n vars k (b ∷ bs) h = all_append ProperQ (scope_equations a n vars (branch k) [] b.equations) (branch_equations a n vars (suc k) bs) (scope-equations n vars (branch k) [] b.equations h.0.equations) (branch-equations n vars (suc k) bs h.1)

  conditions-proper : (bs : List Branch) → All ProperBranch bs → All ProperE (conditions_of a bs)
  unfolding conditions_of All
  conditions-proper [] h = tt
  conditions-proper (b ∷ bs) h = (unlast-proper a ha b.condition h.0.condition, conditions-proper bs h.1)

  module _ (types : Name → Ty) (values : Name → Ty) (ht : (n : Name) → ProperTy (types n)) (hv : (n : Name) → ProperTy (values n)) where
    sample-locals : (s : Scope) (vs : List Name) → All Allowed vs → All ProperPort (sample_locals types a s vs)
    unfolding sample_locals All
    sample-locals s [] h = tt
    sample-locals s (v ∷ vs) h = (record { name = sample-allowed a s v ha h.0.1; ty = ht v }, sample-locals s vs h.1)

    scope-locals : (vars : List Name) (s : Scope) (old : List Name) (es : List Equation) → All ProperQ es → All ProperPort (scope_locals types values a vars s old es)
    unfolding scope_locals All
    scope-locals vars s old [] h = tt
    scope-locals vars s old (e ∷ es) h =
        let r = scope_reads a vars e in
        all_append ProperPort (sample_locals types a s (drop_in old r)) (record { name = value_var a s (first_left e.lhs); ty = values (first_left e.lhs) } ∷ scope_locals types values a vars s (old ++ drop_in old r) es)
        (sample-locals s (drop_in old r) (drop-proper old r (reads-of vars e h.0.rhs)))
        (record { name = value-allowed a s (first_left e.lhs) ha (head-lettered e.lhs h.0.lhs); ty = hv (first_left e.lhs) }, scope-locals vars s (old ++ drop_in old r) es h.1)

    branch-locals : (vars : List Name) (k : ℕ) (bs : List Branch) → All ProperBranch bs → All ProperPort (branch_locals types values a vars k bs)
    unfolding branch_locals All
    branch-locals vars k [] h = tt
    branch-locals vars k (b ∷ bs) h = all_append ProperPort (scope_locals types values a vars (branch k) [] b.equations) (branch_locals types values a vars (suc k) bs) (scope-locals vars (branch k) [] b.equations h.0.equations) (branch-locals vars (suc k) bs h.1)

pub act-equations : (A : Activation) (es : List Equation) (vars : List Name) → ProperActivation A → All ProperQ es → All ProperQ (act_equations A es vars)
unfolding act_equations Maybe
act-equations A es vars o h =
    let a = A.name in
    let l = o.name.1 in
    let cs = conditions_of a A.branches in
    let f = flag_equations a none 0 cs in
    let g = guard_equations a 1 (tail_of cs) in
    let b = branch_equations a (length cs) vars 0 A.branches in
    let s = scope_equations a (length cs) vars else_scope [] A.else_equations in
    let m = merge_equations a cs A.outputs in
    all_append ProperQ es (f ++ (g ++ (b ++ (s ++ m)))) h
    (all_append ProperQ f (g ++ (b ++ (s ++ m))) (flags-proper a l none 0 cs tt (conditions-proper a l A.branches o.branches))
    (all_append ProperQ g (b ++ (s ++ m)) (guards-proper a l 1 (tail_of cs))
    (all_append ProperQ b (s ++ m) (branch-equations a l (length cs) vars 0 A.branches o.branches)
    (all_append ProperQ s m (scope-equations a l (length cs) vars else_scope [] A.else_equations o.else_equations) (merges-proper a l cs A.outputs o.outputs)))))

pub act-locals : (types values : Name → Ty) (A : Activation) (ps : List Port) (vars : List Name) → ((n : Name) → ProperTy (types n)) → ((n : Name) → ProperTy (values n)) → ProperActivation A → All ProperPort ps → All ProperPort (act_locals types values A ps vars)
unfolding act_locals
act-locals types values A ps vars ht hv o h =
    let a = A.name in
    let l = o.name.1 in
    let cs = conditions_of a A.branches in
    let f = as_locals t_bool (flag_equations a none 0 cs) in
    let g = as_locals t_bool (guard_equations a 1 (tail_of cs)) in
    let b = branch_locals types values a vars 0 A.branches in
    let s = scope_locals types values a vars else_scope [] A.else_equations in
    all_append ProperPort ps (f ++ (g ++ (b ++ s))) h
    (all_append ProperPort f (g ++ (b ++ s)) (flags-locals a l none 0 cs)
    (all_append ProperPort g (b ++ s) (guards-locals a l 1 (tail_of cs))
    (all_append ProperPort b s (branch-locals a l types values ht hv vars 0 A.branches o.branches) (scope-locals a l types values ht hv vars else_scope [] A.else_equations o.else_equations))))
