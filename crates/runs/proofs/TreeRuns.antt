-- All regions of a machine: their state variables are the states found.
use Prim.Native.Nat.{ℕ, suc, ◌+◌, ◌<◌}
use native.Mathlib.Omega.{arith}
use mathlib.Core.List.{List, [], ◌∷◌, ◌++◌}
use mathlib.Core.Bool.{Bool, true, false, ◌&&◌, ◌||◌}
use mathlib.Core.Option.{some}
use mathlib.Core.Path.{◌≡◌, refl, ap, subst, ◌∙◌}
use lib.ListN.{length, length-append}
use Rattle.pack_rules.specs.Names.{Name, eq_name, member}
use Rattle.pack_rules.specs.Syntax.{Equation, Expr, Transition}
use Rattle.machine_rules.specs.Resolved.{ResolvedRegions, ResolvedStates, r_cons, r_nil, s_cons, s_nil}
use Rattle.pack.proofs.Tables.{eq_name-refl}
use Rattle.machine_rules.specs.Checks.{collect_region_names, collect_state_names}
use Rattle.machine_rules.specs.Lower.{active_in, equations_r, equations_s, names_of, region_equations, size_r, size_s}
use Rattle.machine_rules.specs.MadeNames.{active_var, next_var, state_var}
use Rattle.run_rules.specs.Chart.{Guards}
use Rattle.run_rules.specs.Premises.{GuardsR, GuardsS}
use Rattle.run_rules.specs.Run.{Run, binary, binary_value, bools, eval, every, v_bool, v_enum}
use Rattle.run_rules.specs.StatedDirectly.{within}
use Rattle.runs.proofs.Accepting.{all_targets, valid_r, valid_s}
use Rattle.run_rules.proofs.Booleans.{&&-true, or_left, or_right, or_split, ≡→T}
use Rattle.runs.proofs.ClocksAlike.{equal}
use Rattle.runs.proofs.RegionRuns.{is_name-eval, known, next-is, state-is}
use Rattle.runs.proofs.Streams.{chart_r, chart_s, found_at, kept_at}

-- lists of names
pub member-left : (x : Name) (k l : List Name) → member x k ≡ true → member x (k ++ l) ≡ true
unfolding member
member-left x [] l m = absurd (≡→T false m)
member-left x (y ∷ k) l m = go (eq_name x y) refl (λ (m' : member x k ≡ true). member-left x k l m')
  where
    go : (b : Bool) → eq_name x y ≡ b → (member x k ≡ true → member x (k ++ l) ≡ true) → eq_name x y || member x (k ++ l) ≡ true
    go true e r = rw e
    go false e r = rw e (r (or_split (eq_name x y) (member x k) m e))

pub member_right : (x : Name) (k l : List Name) → member x l ≡ true → member x (k ++ l) ≡ true
unfolding member
member_right x [] l m = m
member_right x (y ∷ k) l m = or_right (eq_name x y) (member x (k ++ l)) (member_right x k l m)

pub member-own : (x : Name) (ss : ResolvedStates) → member x (names_of ss) ≡ true → member x (collect_state_names ss) ≡ true
unfolding member names_of collect_state_names
member-own x s_nil m = m
member-own x (s_cons s es ts rs rest) m = go (eq_name x s) refl (λ (m' : member x (names_of rest) ≡ true). member-own x rest m')
  where
    go : (b : Bool) → eq_name x s ≡ b → (member x (names_of rest) ≡ true → member x (collect_state_names rest) ≡ true) → eq_name x s || member x (collect_region_names rs ++ collect_state_names rest) ≡ true
    go true e r = rw e
    go false e r = rw e (member_right x (collect_region_names rs) (collect_state_names rest) (r (or_split (eq_name x s) (member x (names_of rest)) m e)))

-- All equations hold on the clock of every cycle.
abbrev pub holds_at : {O : Type 0} → Run O → ℕ → List Name → Expr → Type 0
holds_at R N [] e = Unit {0}
holds_at R N (x ∷ []) e = equal R N x e
holds_at R N (x ∷ y ∷ l) e = Unit {0}

abbrev pub holds : {O : Type 0} → Run O → ℕ → List Equation → Type 0
holds R N [] = Unit {0}
holds R N (e ∷ es) = holds_at R N e.lhs e.rhs × holds R N es

module _ {O : Type 0} (R : Run O) (N : ℕ) where
  pub holds-split : (k l : List Equation) → holds R N (k ++ l) → holds R N k × holds R N l
  holds-split [] l h = (tt, h)
  holds-split (e ∷ k) l h = let p : holds R N k × holds R N l = holds-split k l h.1 in ((h.0, p.0), p.1)

  -- the state variables of the regions from `n` on are the states found
  abbrev pub numbered : ℕ → List (ℕ → Name) → Type 0
  numbered n [] = Unit {0}
  numbered n (f ∷ fs) = ((t : ℕ) → t < N → R.at (state_var n) t ≡ some (v_enum (f t))) × numbered (suc n) fs

  numbered-join : (n m : ℕ) (k l : List (ℕ → Name)) → n + length k ≡ m → numbered n k → numbered m l → numbered n (k ++ l)
  numbered-join n m [] l e p q = subst (λ x. numbered x l) (omega (arith, e)) q
  numbered-join n m (f ∷ k) l e p q = (p.0, numbered-join (suc n) m k l (omega (arith, e)) p.1 q)

-- as many regions as the ids go on by
mutual
  unfolding chart_s size_s

  pub length_s : (G : Guards) (A : ℕ → Bool) (f : ℕ → Name) (ss : ResolvedStates) → length (chart_s G A f ss) ≡ size_s ss
  length_s G A f s_nil = refl
  length_s G A f (s_cons s es ts rs rest) =
      rw (length-append (chart_r G (within A f s) rs) (chart_s G A f rest), length_r G (within A f s) rs, length_s G A f rest)

  pub length_r : (G : Guards) (A : ℕ → Bool) (rs : ResolvedRegions) → length (chart_r G A rs) ≡ size_r rs
  length_r G A r_nil = refl
  length_r G A (r_cons i h ss rest) =
      rw (length-append (found_at G i h ss A ∷ chart_s G A (found_at G i h ss A) ss) (chart_r G A rest), length_s G A (found_at G i h ss A) ss, length_r G A rest)

-- the names that the lowering makes are not enum values
abbrev pub made_free : {O : Type 0} → Run O → Type 0
made_free R = (n : ℕ) → (R.enums (state_var n) ≡ false) × (R.enums (next_var n) ≡ false) × (R.enums (active_var n) ≡ false)

-- an expression is true in the cycles before `N` in which `A` holds, and else false
abbrev pub tells : {O : Type 0} → Run O → ℕ → Expr → (ℕ → Bool) → Type 0
tells R N e A = (t : ℕ) → t < N → eval R e every t ≡ some (v_bool (A t))

pub nested-tells : {O : Type 0} (R : Run O) (N : ℕ) → made_free R → (n : ℕ) (A : ℕ → Bool) (f : ℕ → Name) → ((t : ℕ) → t < N → R.at (active_var n) t ≡ some (v_bool (A t)))
    → ((t : ℕ) → t < N → R.at (state_var n) t ≡ some (v_enum (f t))) → (s : Name) → R.enums s ≡ true → tells R N (active_in false n s) (within A f s)
unfolding active_in eval within binary binary_value bools
nested-tells R N mf n A f ha hs s e t lt = rw ((mf n).2, ha t lt, is_name-eval R (state_var n) s (f t) t (mf n).0 e (hs t lt))

-- one region inside a state: its active variable and its state variable
pub region-is : {O : Type 0} (R : Run O) (N : ℕ) (G : Guards) → made_free R → (n : ℕ) (active : Expr) (A : ℕ → Bool) (i : Name) (h : Bool) (ss : ResolvedStates) → known R (names_of ss) → GuardsS R N G ss
    → member i (names_of ss) ≡ true → valid_s (names_of ss) ss ≡ true → tells R N active A → holds R N (region_equations n active i h ss)
    → ((t : ℕ) → t < N → R.at (active_var n) t ≡ some (v_bool (A t))) × ((t : ℕ) → t < N → R.at (state_var n) t ≡ some (v_enum (found_at G i h ss A t)))
    × ((t : ℕ) → t < N → R.at (next_var n) t ≡ some (v_enum (kept_at G i h ss A (suc t)).state))
unfolding region_equations
region-is R N G mf n active A i h ss kn gs mi va hin hh =
    let ha : (t : ℕ) → t < N → R.at (active_var n) t ≡ some (v_bool (A t)) = λ t lt. hh.0 t lt ∙ hin t lt in
    let hs = state-is R N G n i ss (mf n) kn gs mi va h A ha hh.1.0 hh.1.1.0 in
    (ha, hs, λ t lt. next-is R N G n i ss (mf n) kn gs mi va h A ha hh.1.0 hh.1.1.0 t lt (hs t lt))

module _ {O : Type 0} (R : Run O) (s : Name) (es : List Equation) (ts : List Transition) (rs : ResolvedRegions) (rest : ResolvedStates) (kn : known R (collect_state_names (s_cons s es ts rs rest))) where
  pub known-name : R.enums s ≡ true
  unfolding collect_state_names member
  known-name = kn s (or_left (eq_name s s) (member s (collect_region_names rs ++ collect_state_names rest)) (eq_name-refl s))

  pub known-regions : known R (collect_region_names rs)
  unfolding collect_state_names member
  known-regions x k = kn x (or_right (eq_name x s) (member x (collect_region_names rs ++ collect_state_names rest)) (member-left x (collect_region_names rs) (collect_state_names rest) k))

  pub known-rest : known R (collect_state_names rest)
  unfolding collect_state_names member
  known-rest x k = kn x (or_right (eq_name x s) (member x (collect_region_names rs ++ collect_state_names rest)) (member_right x (collect_region_names rs) (collect_state_names rest) k))

module _ {O : Type 0} (R : Run O) (i : Name) (h : Bool) (ss : ResolvedStates) (rest : ResolvedRegions) (kn : known R (collect_region_names (r_cons i h ss rest))) where
  pub known-states : known R (collect_state_names ss)
  unfolding collect_state_names
  known-states x k = kn x (member-left x (collect_state_names ss) (collect_region_names rest) k)

  pub known-others : known R (collect_region_names rest)
  unfolding collect_state_names
  known-others x k = kn x (member_right x (collect_state_names ss) (collect_region_names rest) k)

pub known-own : {O : Type 0} (R : Run O) (ss : ResolvedStates) → known R (collect_state_names ss) → known R (names_of ss)
known-own R ss kn x k = kn x (member-own x ss k)

-- the parts of what is checked
pub valid_s-parts : (ns : List Name) (s : Name) (es : List Equation) (ts : List Transition) (rs : ResolvedRegions) (rest : ResolvedStates) → valid_s ns (s_cons s es ts rs rest) ≡ true
    → (all_targets ns ts ≡ true) × (valid_r rs ≡ true) × (valid_s ns rest ≡ true)
unfolding valid_s
valid_s-parts ns s es ts rs rest va =
    let v : (all_targets ns ts ≡ true) × (valid_r rs && valid_s ns rest ≡ true) = &&-true (all_targets ns ts) (valid_r rs && valid_s ns rest) va in
    let w : (valid_r rs ≡ true) × (valid_s ns rest ≡ true) = &&-true (valid_r rs) (valid_s ns rest) v.1 in
    (v.0, w.0, w.1)

pub valid_r-parts : (i : Name) (h : Bool) (ss : ResolvedStates) (rest : ResolvedRegions) → valid_r (r_cons i h ss rest) ≡ true
    → (member i (names_of ss) ≡ true) × (valid_s (names_of ss) ss ≡ true) × (valid_r rest ≡ true)
unfolding valid_s
valid_r-parts i h ss rest va =
    let v : (member i (names_of ss) && valid_s (names_of ss) ss ≡ true) × (valid_r rest ≡ true) = &&-true (member i (names_of ss) && valid_s (names_of ss) ss) (valid_r rest) va in
    let w : (member i (names_of ss) ≡ true) × (valid_s (names_of ss) ss ≡ true) = &&-true (member i (names_of ss)) (valid_s (names_of ss) ss) v.0 in
    (w.0, w.1, v.1)

mutual
  unfolding equations_s chart_s size_s

  pub tree_s : {O : Type 0} (R : Run O) (N : ℕ) (G : Guards) → made_free R → (ss : ResolvedStates) (ns : List Name) → known R (collect_state_names ss) → GuardsS R N G ss → valid_s ns ss ≡ true
      → (top : Bool) (p n : ℕ) (A : ℕ → Bool) (f : ℕ → Name) → ((s : Name) → R.enums s ≡ true → tells R N (active_in top p s) (within A f s))
      → holds R N (equations_s top p n ss) → numbered R N n (chart_s G A f ss)
  tree_s R N G mf s_nil ns kn gs va top p n A f hin hh = tt
  tree_s R N G mf (s_cons s es ts rs rest) ns kn gs va top p n A f hin hh =
      let w = valid_s-parts ns s es ts rs rest va in
      let h = holds-split R N (equations_r (active_in top p s) n rs) (equations_s top p (n + size_r rs) rest) hh in
      numbered-join R N n (n + size_r rs) (chart_r G (within A f s) rs) (chart_s G A f rest) (ap (λ x. n + x) (length_r G (within A f s) rs))
      (tree_r R N G mf rs (known-regions R s es ts rs rest kn) gs.1 w.1 (active_in top p s) n (within A f s) (hin s (known-name R s es ts rs rest kn)) h.0)
      (tree_s R N G mf rest ns (known-rest R s es ts rs rest kn) gs.2 w.2 top p (n + size_r rs) A f hin h.1)

  pub tree_r : {O : Type 0} (R : Run O) (N : ℕ) (G : Guards) → made_free R → (rs : ResolvedRegions) → known R (collect_region_names rs) → GuardsR R N G rs → valid_r rs ≡ true
      → (active : Expr) (n : ℕ) (A : ℕ → Bool) → tells R N active A
      → holds R N (equations_r active n rs) → numbered R N n (chart_r G A rs)
  tree_r R N G mf r_nil kn gs va active n A hin hh = tt
  tree_r R N G mf (r_cons i hi ss rest) kn gs va active n A hin hh =
      let w = valid_r-parts i hi ss rest va in
      let h = holds-split R N (region_equations n active i hi ss) (equations_s false n (suc n) ss ++ equations_r active (suc n + size_s ss) rest) hh in
      let g = holds-split R N (equations_s false n (suc n) ss) (equations_r active (suc n + size_s ss) rest) h.1 in
      let own = region-is R N G mf n active A i hi ss (known-own R ss (known-states R i hi ss rest kn)) gs.0 w.0 w.1 hin h.0 in
      numbered-join R N n (suc n + size_s ss) (found_at G i hi ss A ∷ chart_s G A (found_at G i hi ss A) ss) (chart_r G A rest) (rw (length_s G A (found_at G i hi ss A) ss) (omega arith)) (
        own.1,
        tree_s R N G mf ss (names_of ss) (known-states R i hi ss rest kn) gs.0 w.1 false n (suc n) A (found_at G i hi ss A)
            (nested-tells R N mf n A (found_at G i hi ss A) own.0 own.1) g.0,
      )
      (tree_r R N G mf rest (known-others R i hi ss rest kn) gs.1 w.2 active (suc n + size_s ss) A hin g.1)
