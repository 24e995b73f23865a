-- Each output equals the right side that the states pick.
use Prim.Native.Nat.{ℕ, suc, ◌+◌, ◌<◌}
use native.Mathlib.Omega.{arith}
use mathlib.Core.List.{List, [], ◌∷◌, ◌++◌}
use mathlib.Core.Bool.{Bool, true, false, cond, ◌||◌}
use mathlib.Core.Option.{Option, none, some}
use mathlib.Core.Path.{◌≡◌, refl, ap, subst, ◌∙◌}
use lib.ListN.{length}
use Rattle.pack_rules.specs.Names.{Name, eq_name, member}
use Rattle.pack_rules.specs.Syntax.{Equation, Expr, Transition}
use Rattle.machine_rules.specs.Resolved.{ResolvedRegions, ResolvedStates, r_cons, r_nil, s_cons, s_nil}
use Rattle.machine_rules.specs.Checks.{collect_region_names, collect_state_names}
use Rattle.machine_rules.specs.Lower.{all_states_cover, chain_step, from_option, is_name, is_only, is_some, names_of, own_value, size_r, size_s, some_region_covers, value_r, value_s}
use Rattle.machine_rules.specs.MadeNames.{state_var}
use Rattle.run_rules.specs.Chart.{Guards}
use Rattle.runs.specs.Claim.{Picks}
use Rattle.run_rules.specs.Premises.{HasValue, SidesE, SidesR, SidesS}
use Rattle.run_rules.specs.Run.{Run, Value, eval, every, v_enum}
use Rattle.run_rules.specs.StatedDirectly.{within}
use Rattle.runs.proofs.Accepting.{valid_r, valid_s}
use Rattle.run_rules.proofs.Booleans.{&&-true, or_split, ≡→T}
use Rattle.runs.proofs.RegionRuns.{found-member, is_name-eval, known, or_else-eval, or_else-some}
use Rattle.runs.proofs.Streams.{chart_r, chart_s, found_at, pick_r, pick_s}
use Rattle.runs.proofs.TreeRuns.{known-name, known-others, known-regions, known-rest, known-states, length_r, length_s, made_free, numbered, valid_r-parts, valid_s-parts}

module _ {O : Type 0} (R : Run O) (N : ℕ) where
  pub numbered-first : (n : ℕ) (k l : List (ℕ → Name)) → numbered R N n (k ++ l) → numbered R N n k
  numbered-first n [] l p = tt
  numbered-first n (f ∷ k) l p = (p.0, numbered-first (suc n) k l p.1)

  pub numbered-second : (n m : ℕ) (k l : List (ℕ → Name)) → n + length k ≡ m → numbered R N n (k ++ l) → numbered R N m l
  numbered-second n m [] l e p = subst (λ x. numbered R N x l) (omega (arith, e)) p
  numbered-second n m (f ∷ k) l e p = numbered-second (suc n) m k l (omega (arith, e)) p.1

module _ {O : Type 0} (R : Run O) (t : ℕ) where
  picks-cond : (b : Bool) (s₁ s₂ : Option Expr) (w₁ w₂ : Option (Value O)) → (b ≡ true → Picks R t s₁ w₁) → (b ≡ false → Picks R t s₂ w₂) → Picks R t (cond b s₁ s₂) (cond b w₁ w₂)
  picks-cond true s₁ s₂ w₁ w₂ f g = f refl
  picks-cond false s₁ s₂ w₁ w₂ f g = g refl

  eval-cond : (b : Bool) (x y : Expr) → eval R (cond b x y) every t ≡ cond b (eval R x every t) (eval R y every t)
  eval-cond true x y = refl
  eval-cond false x y = refl

  picks_by : (s : Option Expr) (v w : Option (Value O)) → v ≡ w → Picks R t s w → Picks R t s v
  picks_by s v w e p = (p.0, p.1, e ∙ p.2)

or_swap : (a b c : Bool) → a || (b || c) ≡ true → b ≡ false → a || c ≡ true
or_swap a b c h e = rw e at h

not-empty : (f s : Name) (rest : ResolvedStates) → eq_name f s || member f (names_of rest) ≡ true → eq_name f s ≡ false → rest ≡ s_nil → ⊥
unfolding names_of member
not-empty f s rest m e r = ≡→T false (rw r at (or_split (eq_name f s) (member f (names_of rest)) m e))

member-cons : (f s : Name) (es : List Equation) (ts : List Transition) (rs : ResolvedRegions) (rest : ResolvedStates) → member f (names_of (s_cons s es ts rs rest)) ≡ true → eq_name f s || member f (names_of rest) ≡ true
unfolding names_of member
member-cons f s es ts rs rest m = m

member-none : (f : Name) → member f (names_of s_nil) ≡ true → ⊥
unfolding names_of member
member-none f m = ≡→T false m

own-picks : {O : Type 0} (R : Run O) (t : ℕ) (own : Option Expr) (d : Expr) → is_some own || false ≡ true → Picks R t own (eval R (from_option own d) every t)
unfolding is_some from_option
own-picks R t none d h = absurd (≡→T false h)
own-picks R t (some e) d h = (e, refl, refl)

abbrev OwnHas : {O : Type 0} → Run O → ℕ → Option Expr → Type 0
OwnHas R t none = Unit {0}
OwnHas R t (some e) = HasValue R t e

own-has : {O : Type 0} (R : Run O) (N : ℕ) (t : ℕ) → t < N → (o : Name) (es : List Equation) → SidesE R N es → OwnHas R t (own_value o es)
unfolding own_value
own-has R N t lt o [] sd = tt
own-has R N t lt o (e ∷ es) sd = go (is_only o e.lhs) (own-has R N t lt o es sd.1)
  where
    go : (b : Bool) → OwnHas R t (own_value o es) → OwnHas R t (cond b (some e.rhs) (own_value o es))
    go true r = sd.0 t lt
    go false r = r

own-some : {O : Type 0} (R : Run O) (t : ℕ) (own : Option Expr) (d : Expr) → OwnHas R t own → is_some own || false ≡ true → HasValue R t (from_option own d)
unfolding is_some from_option
own-some R t none d w h = absurd (≡→T false h)
own-some R t (some e) d w h = w

cond-some : {O : Type 0} (R : Run O) (t : ℕ) (b : Bool) (x y : Expr) → (b ≡ true → HasValue R t x) → (b ≡ false → HasValue R t y) → HasValue R t (cond b x y)
cond-some R t true x y f g = f refl
cond-some R t false x y f g = g refl

not-nil : (x : Name) (ss : ResolvedStates) → member x (names_of ss) ≡ true → ss ≡ s_nil → ⊥
unfolding names_of member
not-nil x ss m e = ≡→T false (rw e at m)

mutual
  unfolding value_s all_states_cover size_s chart_s

  value_s-some : {O : Type 0} (R : Run O) (N : ℕ) (G : Guards) → made_free R → (o : Name) (d : Expr) (t : ℕ) → t < N → (ss : ResolvedStates) (ns : List Name) → known R (collect_state_names ss) → valid_s ns ss ≡ true → SidesS R N ss
      → (p n : ℕ) (A : ℕ → Bool) (f : ℕ → Name) → R.at (state_var p) t ≡ some (v_enum (f t)) → numbered R N n (chart_s G A f ss) → all_states_cover o ss ≡ true → (ss ≡ s_nil → ⊥)
      → HasValue R t (value_s o d p n ss)
  value_s-some R N G mf o d t lt s_nil ns kn va sd p n A f at_p nu co ne = absurd (ne refl)
  value_s-some R N G mf o d t lt (s_cons s es ts rs rest) ns kn va sd p n A f at_p nu co ne =
      let w = valid_s-parts ns s es ts rs rest va in
      let c = &&-true (is_some (own_value o es) || some_region_covers o rs) (all_states_cover o rest) co in
      let v = value_r-some R N G mf o d t lt rs (known-regions R s es ts rs rest kn) w.1 sd.1 n (within A f s) (own_value o es) (own-has R N t lt o es sd.0)
      (numbered-first R N n (chart_r G (within A f s) rs) (chart_s G A f rest) nu) c.0 in
      or_else-some R (is_name (state_var p) s) (value_r o d (own_value o es) n rs) (value_s o d p (n + size_r rs) rest) rest t (eq_name (f t) s) v.0
      (is_name-eval R (state_var p) s (f t) t (mf p).0 (known-name R s es ts rs rest kn) at_p) v.1
      (λ ne'. value_s-some R N G mf o d t lt rest ns (known-rest R s es ts rs rest kn) w.2 sd.2 p (n + size_r rs) A f at_p
      (numbered-second R N n (n + size_r rs) (chart_r G (within A f s) rs) (chart_s G A f rest) (ap (λ x. n + x) (length_r G (within A f s) rs)) nu) c.1 ne')

  value_r-some : {O : Type 0} (R : Run O) (N : ℕ) (G : Guards) → made_free R → (o : Name) (d : Expr) (t : ℕ) → t < N → (rs : ResolvedRegions) → known R (collect_region_names rs) → valid_r rs ≡ true → SidesR R N rs
      → (n : ℕ) (A : ℕ → Bool) (own : Option Expr) → OwnHas R t own → numbered R N n (chart_r G A rs) → is_some own || some_region_covers o rs ≡ true
      → HasValue R t (value_r o d own n rs)
  value_r-some R N G mf o d t lt r_nil kn va sd n A own ow nu co = own-some R t own d ow co
  value_r-some R N G mf o d t lt (r_cons i h ss rest) kn va sd n A own ow nu co =
      let w = valid_r-parts i h ss rest va in
      let f = found_at G i h ss A in
      let nu₁ = numbered-first R N n (f ∷ chart_s G A f ss) (chart_r G A rest) nu in
      cond-some R t (all_states_cover o ss) (value_s o d n (suc n) ss) (value_r o d own (suc n + size_s ss) rest)
      (λ e. value_s-some R N G mf o d t lt ss (names_of ss) (known-states R i h ss rest kn) w.1 sd.0 n (suc n) A f (nu₁.0 t lt) nu₁.1 e (not-nil i ss w.0))
      (λ e. value_r-some R N G mf o d t lt rest (known-others R i h ss rest kn) w.2 sd.1 (suc n + size_s ss) A own ow
      (numbered-second R N n (suc n + size_s ss) (f ∷ chart_s G A f ss) (chart_r G A rest) (rw (length_s G A f ss) (omega arith)) nu) (or_swap (is_some own) (all_states_cover o ss) (some_region_covers o rest) co e))

mutual
  unfolding value_s pick_s all_states_cover size_s chart_s

  pub value_s-picks : {O : Type 0} (R : Run O) (N : ℕ) (G : Guards) → made_free R → (o : Name) (d : Expr) (t : ℕ) → t < N → (ss : ResolvedStates) (ns : List Name) → known R (collect_state_names ss) → valid_s ns ss ≡ true → SidesS R N ss
      → (p n : ℕ) (A : ℕ → Bool) (f : ℕ → Name) → R.at (state_var p) t ≡ some (v_enum (f t)) → member (f t) (names_of ss) ≡ true → numbered R N n (chart_s G A f ss) → all_states_cover o ss ≡ true
      → Picks R t (pick_s G o A f t ss) (eval R (value_s o d p n ss) every t)
  value_s-picks R N G mf o d t lt s_nil ns kn va sd p n A f at_p m nu co = absurd (member-none (f t) m)
  value_s-picks R N G mf o d t lt (s_cons s es ts rs rest) ns kn va sd p n A f at_p m nu co =
      let w = valid_s-parts ns s es ts rs rest va in
      let c = &&-true (is_some (own_value o es) || some_region_covers o rs) (all_states_cover o rest) co in
      let m' = member-cons (f t) s es ts rs rest m in
      let nu_r = numbered-first R N n (chart_r G (within A f s) rs) (chart_s G A f rest) nu in
      let nu_s = numbered-second R N n (n + size_r rs) (chart_r G (within A f s) rs) (chart_s G A f rest) (ap (λ x. n + x) (length_r G (within A f s) rs)) nu in
      let own = own-has R N t lt o es sd.0 in
      let v = value_r-some R N G mf o d t lt rs (known-regions R s es ts rs rest kn) w.1 sd.1 n (within A f s) (own_value o es) own nu_r c.0 in
      picks_by R t (cond (eq_name (f t) s) (pick_r G o (within A f s) t (own_value o es) rs) (pick_s G o A f t rest))
      (eval R (chain_step (is_name (state_var p) s) (value_r o d (own_value o es) n rs) rest (value_s o d p (n + size_r rs) rest)) every t)
      (cond (eq_name (f t) s) (eval R (value_r o d (own_value o es) n rs) every t) (eval R (value_s o d p (n + size_r rs) rest) every t))
      (or_else-eval R (is_name (state_var p) s) (value_r o d (own_value o es) n rs) (value_s o d p (n + size_r rs) rest) rest t (eq_name (f t) s) v.0
      (is_name-eval R (state_var p) s (f t) t (mf p).0 (known-name R s es ts rs rest kn) at_p) v.1
      (λ ne. value_s-some R N G mf o d t lt rest ns (known-rest R s es ts rs rest kn) w.2 sd.2 p (n + size_r rs) A f at_p nu_s c.1 ne) (not-empty (f t) s rest m'))
      (picks-cond R t (eq_name (f t) s) (pick_r G o (within A f s) t (own_value o es) rs) (pick_s G o A f t rest) (eval R (value_r o d (own_value o es) n rs) every t) (eval R (value_s o d p (n + size_r rs) rest) every t)
      (λ e. value_r-picks R N G mf o d t lt rs (known-regions R s es ts rs rest kn) w.1 sd.1 n (within A f s) (own_value o es) own nu_r c.0)
      (λ e. value_s-picks R N G mf o d t lt rest ns (known-rest R s es ts rs rest kn) w.2 sd.2 p (n + size_r rs) A f at_p (or_split (eq_name (f t) s) (member (f t) (names_of rest)) m' e) nu_s c.1))

  pub value_r-picks : {O : Type 0} (R : Run O) (N : ℕ) (G : Guards) → made_free R → (o : Name) (d : Expr) (t : ℕ) → t < N → (rs : ResolvedRegions) → known R (collect_region_names rs) → valid_r rs ≡ true → SidesR R N rs
      → (n : ℕ) (A : ℕ → Bool) (own : Option Expr) → OwnHas R t own → numbered R N n (chart_r G A rs) → is_some own || some_region_covers o rs ≡ true
      → Picks R t (pick_r G o A t own rs) (eval R (value_r o d own n rs) every t)
  value_r-picks R N G mf o d t lt r_nil kn va sd n A own ow nu co = own-picks R t own d co
  value_r-picks R N G mf o d t lt (r_cons i h ss rest) kn va sd n A own ow nu co =
      let w = valid_r-parts i h ss rest va in
      let f = found_at G i h ss A in
      let nu₁ = numbered-first R N n (f ∷ chart_s G A f ss) (chart_r G A rest) nu in
      picks_by R t (cond (all_states_cover o ss) (pick_s G o A f t ss) (pick_r G o A t own rest))
      (eval R (cond (all_states_cover o ss) (value_s o d n (suc n) ss) (value_r o d own (suc n + size_s ss) rest)) every t)
      (cond (all_states_cover o ss) (eval R (value_s o d n (suc n) ss) every t) (eval R (value_r o d own (suc n + size_s ss) rest) every t))
      (eval-cond R t (all_states_cover o ss) (value_s o d n (suc n) ss) (value_r o d own (suc n + size_s ss) rest))
      (picks-cond R t (all_states_cover o ss) (pick_s G o A f t ss) (pick_r G o A t own rest) (eval R (value_s o d n (suc n) ss) every t) (eval R (value_r o d own (suc n + size_s ss) rest) every t)
      (λ e. value_s-picks R N G mf o d t lt ss (names_of ss) (known-states R i h ss rest kn) w.1 sd.0 n (suc n) A f (nu₁.0 t lt) (found-member (names_of ss) G i h ss A w.0 w.1 t) nu₁.1 e)
      (λ e. value_r-picks R N G mf o d t lt rest (known-others R i h ss rest kn) w.2 sd.1 (suc n + size_s ss) A own ow
      (numbered-second R N n (suc n + size_s ss) (f ∷ chart_s G A f ss) (chart_r G A rest) (rw (length_s G A f ss) (omega arith)) nu) (or_swap (is_some own) (all_states_cover o ss) (some_region_covers o rest) co e)))
