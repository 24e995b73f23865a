-- One region: what its equations give is what the chart finds.
use Prim.Native.Nat.{ℕ, zero, suc, ◌<◌}
use native.Mathlib.Omega.{arith}
use mathlib.Core.List.{List, [], ◌∷◌}
use mathlib.Core.Bool.{Bool, true, false, cond, not, ◌&&◌, ◌||◌}
use mathlib.Core.Option.{some}
use mathlib.Core.Path.{◌≡◌, refl, sym, ap, subst, ◌∙◌}
use Rattle.pack_rules.specs.Names.{Name, eq_name, member}
use Rattle.pack_rules.specs.Syntax.{Equation, Expr, Transition, e_if, e_var}
use Rattle.machine_rules.specs.Resolved.{ResolvedRegions, ResolvedStates, s_cons, s_nil}
use Rattle.pack.proofs.Tables.{eq_name-refl}
use Rattle.machine_rules.specs.Lower.{chain_step, is_name, just_entered, names_of, next_chain, previous_next, state_rhs, transitions_of}
use Rattle.machine_rules.specs.MadeNames.{active_var, next_var, state_var}
use Rattle.run_rules.specs.Chart.{Guards, RegionMemory, begins_anew, choose, find, first_true, keep}
use Rattle.run_rules.specs.Premises.{GuardsS, GuardsT}
use Rattle.run_rules.specs.Run.{Clock, Run, Value, arrow_at, binary, binary_value, bools, equals, eval, every, if_of, literal, not_value, pre_at, previous, unary, v_bool, v_enum}
use Rattle.runs.proofs.Accepting.{all_targets, valid_r, valid_s}
use Rattle.run_rules.proofs.Booleans.{&&-true, cond-case, or_right, ≡→T}
use Rattle.runs.proofs.ClocksAlike.{equal, eval-var, if_some}
use Rattle.runs.proofs.Streams.{found_at, kept_at}

-- The chart stays within the states of the region.
module _ (ns : List Name) where
  first_true-member : (g : Expr → Bool) (ts : List Transition) (f : Name) → all_targets ns ts ≡ true → member f ns ≡ true → member (first_true g ts f) ns ≡ true
  unfolding first_true all_targets
  first_true-member g [] f v m = m
  first_true-member g (x ∷ ts) f v m =
      let p : (member x.target ns ≡ true) × (all_targets ns ts ≡ true) = &&-true (member x.target ns) (all_targets ns ts) v in
      let r : member (first_true g ts f) ns ≡ true = first_true-member g ts f p.1 m in
      cond-case (λ n. member n ns ≡ true) (g x.guard) x.target (first_true g ts f) (λ e. p.0) (λ e. r)

  choose-member : (g : Expr → Bool) (ss : ResolvedStates) (f : Name) → valid_s ns ss ≡ true → member f ns ≡ true → member (choose g ss f) ns ≡ true
  unfolding choose valid_s
  choose-member g s_nil f v m = m
  choose-member g (s_cons s es ts rs rest) f v m =
      let p : (all_targets ns ts ≡ true) × (valid_r rs && valid_s ns rest ≡ true) = &&-true (all_targets ns ts) (valid_r rs && valid_s ns rest) v in
      let q : (valid_r rs ≡ true) × (valid_s ns rest ≡ true) = &&-true (valid_r rs) (valid_s ns rest) p.1 in
      let r : member (choose g rest f) ns ≡ true = choose-member g rest f q.1 m in
      cond-case (λ n. member n ns ≡ true) (eq_name f s) (first_true g ts f) (choose g rest f) (λ e. first_true-member g ts f p.0 m) (λ e. r)

  find-member : (i : Name) (h a : Bool) (k : RegionMemory) → member i ns ≡ true → member k.state ns ≡ true → member (find i h a k) ns ≡ true
  unfolding find begins_anew
  find-member i h a k m n = cond-case (λ x. member x ns ≡ true) (begins_anew h a k) i k.state (λ e. m) (λ e. n)

  kept-member : (G : Guards) (i : Name) (h : Bool) (ss : ResolvedStates) (A : ℕ → Bool) → member i ns ≡ true → valid_s ns ss ≡ true → (t : ℕ) → member (kept_at G i h ss A t).state ns ≡ true
  unfolding kept_at keep
  kept-member G i h ss A m v zero = m
  kept-member G i h ss A m v (suc t) =
      let k : RegionMemory = kept_at G i h ss A t in
      let r : member k.state ns ≡ true = kept-member G i h ss A m v t in
      cond-case (λ x. member x ns ≡ true) (A t) (choose (λ g. G g t) ss (find i h (A t) k)) k.state
      (λ e. choose-member (λ g. G g t) ss (find i h (A t) k) v (find-member i h (A t) k m r)) (λ e. r)

  pub found-member : (G : Guards) (i : Name) (h : Bool) (ss : ResolvedStates) (A : ℕ → Bool) → member i ns ≡ true → valid_s ns ss ≡ true → (t : ℕ) → member (found_at G i h ss A t) ns ≡ true
  unfolding found_at
  found-member G i h ss A m v t = find-member i h (A t) (kept_at G i h ss A t) m (kept-member G i h ss A m v t)

-- Names that are enum values
abbrev pub known : {O : Type 0} → Run O → List Name → Type 0
known R ns = (x : Name) → member x ns ≡ true → R.enums x ≡ true

is_nil : ResolvedStates → Type 0
is_nil s_nil = Unit {0}
is_nil (s_cons s es ts rs rest) = ⊥

pub cons-not-nil : (s : Name) (es : List Equation) (ts : List Transition) (rs : ResolvedRegions) (rest : ResolvedStates) → s_cons s es ts rs rest ≡ s_nil → ⊥
unfolding is_nil
cons-not-nil s es ts rs rest e = subst is_nil (sym e) tt

some-cond : {A : Type 0} (b : Bool) (v w : A) → some (cond b v w) ≡ cond b (some v) (some w)
some-cond true v w = refl
some-cond false v w = refl

-- the name that the chain over the states gives: the last state is not tested
last_or : ResolvedStates → Name → Name → Name
last_or s_nil x y = y
last_or (s_cons s es ts rs rest) x y = x

chain_name : (Expr → Bool) → ResolvedStates → Name → Name
chain_name g s_nil f = f
chain_name g (s_cons s es ts rs rest) f = last_or rest (cond (eq_name f s) (first_true g ts f) (chain_name g rest f)) (first_true g ts f)

chain-name : (g : Expr → Bool) (ss : ResolvedStates) (f : Name) → member f (names_of ss) ≡ true → chain_name g ss f ≡ choose g ss f
unfolding chain_name last_or choose names_of member
chain-name g s_nil f m = absurd (≡→T false m)
chain-name g (s_cons s es ts rs rest) f m = go (eq_name f s) m rest refl (λ (m' : member f (names_of rest) ≡ true). chain-name g rest f m')
  where
    X : Name
    X = first_true g ts f

    go : (b : Bool) → b || member f (names_of rest) ≡ true → (r : ResolvedStates) → rest ≡ r → (member f (names_of rest) ≡ true → chain_name g rest f ≡ choose g rest f)
        → last_or r (cond b X (chain_name g rest f)) X ≡ cond b X (choose g rest f)
    go true h s_nil e ih = refl
    go true h (s_cons s' es' ts' rs' r) e ih = refl
    go false h s_nil e ih = absurd (≡→T false (rw e at h))
    go false h (s_cons s' es' ts' rs' r) e ih = ih h

module _ {O : Type 0} (R : Run O) where
  eval-enum : (x : Name) (c : Clock) (t : ℕ) → R.enums x ≡ true → eval R (e_var x) c t ≡ some (v_enum x)
  unfolding eval
  eval-enum x c t e = rw e

  if-enum : (b : Bool) (m n : Name) → if_of R (some (v_bool b)) (some (v_enum m)) (some (v_enum n)) ≡ some (v_enum (cond b m n))
  if-enum true m n = if_some R true (v_enum m) (v_enum n)
  if-enum false m n = if_some R false (v_enum m) (v_enum n)

  pub is_name-eval : (v s f : Name) (t : ℕ) → R.enums v ≡ false → R.enums s ≡ true → R.at v t ≡ some (v_enum f) → eval R (is_name v s) every t ≡ some (v_bool (eq_name f s))
  unfolding eval is_name binary binary_value equals
  is_name-eval v s f t a b e = rw (a, b, e)

  -- a chain of tests, where what stands in it has a value
  pub or_else-eval : (test value chain : Expr) (rest : ResolvedStates) (t : ℕ) (b : Bool) (v : Value O) → eval R test every t ≡ some (v_bool b) → eval R value every t ≡ some v
      → ((rest ≡ s_nil → ⊥) → (w : Value O) × (eval R chain every t ≡ some w)) → (b ≡ false → rest ≡ s_nil → ⊥)
      → eval R (chain_step test value rest chain) every t ≡ cond b (eval R value every t) (eval R chain every t)
  unfolding chain_step eval
  or_else-eval test value chain s_nil t true v e ev ec h = refl
  or_else-eval test value chain s_nil t false v e ev ec h = absurd (h refl refl)
  or_else-eval test value chain (s_cons s es ts rs rest) t b v e ev ec h =
      let d = ec (cons-not-nil s es ts rs rest) in
      rw (e, ev, d.1) (if_some R b v d.0 ∙ some-cond b v d.0)

  pub or_else-some : (test value chain : Expr) (rest : ResolvedStates) (t : ℕ) (b : Bool) (v : Value O) → eval R test every t ≡ some (v_bool b) → eval R value every t ≡ some v
      → ((rest ≡ s_nil → ⊥) → (w : Value O) × (eval R chain every t ≡ some w))
      → (w : Value O) × (eval R (chain_step test value rest chain) every t ≡ some w)
  unfolding chain_step eval
  or_else-some test value chain s_nil t b v e ev ec = (v, ev)
  or_else-some test value chain (s_cons s es ts rs rest) t b v e ev ec =
      let d = ec (cons-not-nil s es ts rs rest) in
      (cond b v d.0, rw (e, ev, d.1) (if_some R b v d.0))

  module _ (N : ℕ) (G : Guards) (ns : List Name) (kn : known R ns) (v : Name) (vv : R.enums v ≡ false) (t : ℕ) (lt : t < N) (f : Name) (at-v : R.at v t ≡ some (v_enum f)) where
    transitions-eval : (ts : List Transition) → GuardsT R N G ts → all_targets ns ts ≡ true → eval R (transitions_of v ts) every t ≡ some (v_enum (first_true (λ g. G g t) ts f))
    unfolding eval transitions_of first_true all_targets
    transitions-eval [] gs a = rw (vv, at-v)
    transitions-eval (x ∷ ts) gs a =
        let p : (member x.target ns ≡ true) × (all_targets ns ts ≡ true) = &&-true (member x.target ns) (all_targets ns ts) a in
        let r : eval R (transitions_of v ts) every t ≡ some (v_enum (first_true (λ g. G g t) ts f)) = transitions-eval ts gs.1 p.1 in
        rw (gs.0 t lt, kn x.target p.0, r) (if-enum (G x.guard t) x.target (first_true (λ g. G g t) ts f))

    or_else-enum : (test value chain : Expr) (rest : ResolvedStates) (b : Bool) (m n : Name) → eval R test every t ≡ some (v_bool b) → eval R value every t ≡ some (v_enum m) → eval R chain every t ≡ some (v_enum n)
        → eval R (chain_step test value rest chain) every t ≡ some (v_enum (last_or rest (cond b m n) m))
    unfolding chain_step eval last_or
    or_else-enum test value chain s_nil b m n e ev ec = ev
    or_else-enum test value chain (s_cons s es ts rs rest) b m n e ev ec = rw (e, ev, ec) (if-enum b m n)

    chain-total : (ss : ResolvedStates) → GuardsS R N G ss → known R (names_of ss) → valid_s ns ss ≡ true
        → eval R (next_chain v ss) every t ≡ some (v_enum (chain_name (λ g. G g t) ss f))
    unfolding next_chain chain_name valid_s names_of member
    chain-total s_nil gs ks va = eval-var R v every t vv ∙ at-v
    chain-total (s_cons s es ts rs rest) gs ks va =
        let p = &&-true (all_targets ns ts) (valid_r rs && valid_s ns rest) va in
        let q = &&-true (valid_r rs) (valid_s ns rest) p.1 in
        or_else-enum (is_name v s) (transitions_of v ts) (next_chain v rest) rest (eq_name f s) (first_true (λ g. G g t) ts f) (chain_name (λ g. G g t) rest f)
        (is_name-eval v s f t vv (ks s (rw (eq_name-refl s))) at-v) (transitions-eval ts gs.0 p.0)
        (chain-total rest gs.2 (λ x k. ks x (or_right (eq_name x s) (member x (names_of rest)) k)) q.1)

    chain-eval : (ss : ResolvedStates) → GuardsS R N G ss → known R (names_of ss) → valid_s ns ss ≡ true → member f (names_of ss) ≡ true
        → eval R (next_chain v ss) every t ≡ some (v_enum (choose (λ g. G g t) ss f))
    chain-eval ss gs ks va m = chain-total ss gs ks va ∙ ap (λ x. some (v_enum x)) (chain-name (λ g. G g t) ss f m)

-- an inactive region keeps what it finds
frozen : (i : Name) (h a : Bool) (k : RegionMemory) (X : Name → Name) → cond a (X (find i h a k)) (find i h a k) ≡ cond a (X (find i h a k)) k.state
unfolding find begins_anew
frozen i h true k X = refl
frozen i true false k X = refl
frozen i false false k X = refl

-- A region with its three equations (the top region: with `A` always true and its two).
module _ {O : Type 0} (R : Run O) (N : ℕ) (G : Guards) (n : ℕ) (i : Name) (ss : ResolvedStates)
    (made : (R.enums (state_var n) ≡ false) × (R.enums (next_var n) ≡ false) × (R.enums (active_var n) ≡ false))
    (ks : known R (names_of ss)) (gs : GuardsS R N G ss) (mi : member i (names_of ss) ≡ true) (va : valid_s (names_of ss) ss ≡ true) where
  -- the next-state variable, given the state variable
  chain-at : (h : Bool) (A : ℕ → Bool) (t : ℕ) → t < N → R.at (state_var n) t ≡ some (v_enum (found_at G i h ss A t))
      → eval R (next_chain (state_var n) ss) every t ≡ some (v_enum (choose (λ g. G g t) ss (found_at G i h ss A t)))
  chain-at h A t lt e =
      chain-eval R N G (names_of ss) ks (state_var n) made.0 t lt (found_at G i h ss A t) e ss gs ks va (found-member (names_of ss) G i h ss A mi va t)

  abbrev NextIs : Bool → (ℕ → Bool) → ℕ → Type 0
  NextIs h A t = R.at (next_var n) t ≡ some (v_enum (kept_at G i h ss A (suc t)).state)

  abbrev StateIs : Bool → (ℕ → Bool) → ℕ → Type 0
  StateIs h A t = R.at (state_var n) t ≡ some (v_enum (found_at G i h ss A t))

  pub top-next : equal R N (next_var n) (next_chain (state_var n) ss) → (t : ℕ) → t < N → StateIs false every t → NextIs false every t
  unfolding kept_at keep found_at
  top-next hn t lt e = hn t lt ∙ chain-at false every t lt e

  pub top-state : equal R N (state_var n) (previous_next n i) → equal R N (next_var n) (next_chain (state_var n) ss) → (t : ℕ) → t < N → StateIs false every t
  unfolding kept_at keep found_at find begins_anew previous_next eval previous pre_at arrow_at
  top-state hs hn zero lt = hs zero lt ∙ (rw (ks i mi))
  top-state hs hn (suc t) lt = hs (suc t) lt ∙ (rw made.1 (top-next hn t (omega arith) (top-state hs hn t (omega arith))))

  zero_is : (h : Bool) (A : ℕ → Bool) → ((t : ℕ) → t < N → R.at (active_var n) t ≡ some (v_bool (A t))) → equal R N (state_var n) (state_rhs n i h) → 0 < N → StateIs h A 0
  unfolding kept_at found_at find begins_anew previous_next eval previous pre_at arrow_at state_rhs just_entered binary binary_value bools literal
  zero_is true A ha hs lt = hs zero lt ∙ (rw (ks i mi))
  zero_is false A ha hs lt = hs zero lt ∙ (rw (ks i mi, made.2, ha zero lt) (if-enum R (A zero && true) i i))

  suc-is : (h : Bool) (A : ℕ → Bool) → ((t : ℕ) → t < N → R.at (active_var n) t ≡ some (v_bool (A t))) → equal R N (state_var n) (state_rhs n i h) → (t : ℕ) → suc t < N → NextIs h A t → StateIs h A (suc t)
  unfolding kept_at keep found_at find begins_anew previous_next eval previous pre_at arrow_at state_rhs just_entered binary binary_value bools literal unary not_value
  suc-is true A ha hs t lt e = hs (suc t) lt ∙ (rw made.1 e)
  suc-is false A ha hs t lt e =
      hs (suc t) lt ∙ (rw (ks i mi, made.2, made.1, ha (suc t) lt, ha t (omega arith), e) (if-enum R (A (suc t) && not (A t)) i (kept_at G i false ss A (suc t)).state))

  module _ (h : Bool) (A : ℕ → Bool) (ha : (t : ℕ) → t < N → R.at (active_var n) t ≡ some (v_bool (A t)))
      (hs : equal R N (state_var n) (state_rhs n i h))
      (hn : equal R N (next_var n) (e_if (e_var (active_var n)) (next_chain (state_var n) ss) (e_var (state_var n)))) where
    pub next-is : (t : ℕ) → t < N → StateIs h A t → NextIs h A t
    unfolding kept_at keep found_at eval
    next-is t lt e =
        hn t lt
        ∙ (rw (made.2, made.0, ha t lt, chain-at h A t lt e, e)
        (if-enum R (A t) (choose (λ g. G g t) ss (found_at G i h ss A t)) (found_at G i h ss A t)
        ∙ ap (λ x. some (v_enum x)) (frozen i h (A t) (kept_at G i h ss A t) (λ f. choose (λ g. G g t) ss f))))

    pub state-is : (t : ℕ) → t < N → StateIs h A t
    state-is zero lt = zero_is h A ha hs lt
    state-is (suc t) lt = suc-is h A ha hs t lt (next-is t (omega arith) (state-is t (omega arith)))
