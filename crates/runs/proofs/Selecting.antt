-- What the streams pick for an output is what the found states select.
use Prim.Native.Nat.{ℕ, suc, ◌+◌}
use native.Mathlib.Omega.{arith}
use mathlib.Core.List.{List, [], ◌∷◌, ◌++◌, append_assoc}
use mathlib.Core.Bool.{Bool}
use mathlib.Core.Option.{Option}
use mathlib.Core.Path.{◌≡◌, refl, sym, ap, subst, ◌∙◌}
use lib.ListN.{get_or, length, length-append}
use Rattle.pack_rules.specs.Forms.{name_at}
use Rattle.pack_rules.specs.Names.{Name}
use Rattle.pack_rules.specs.Syntax.{Expr}
use Rattle.machine_rules.specs.Resolved.{ResolvedMachine, ResolvedRegions, ResolvedStates, r_cons, r_nil, s_cons, s_nil}
use Rattle.machine_rules.specs.Lower.{own_value, size_r, size_s}
use Rattle.run_rules.specs.Chart.{Guards, found_in, select_r, select_s, selected}
use Rattle.run_rules.specs.StatedDirectly.{always, within}
use Rattle.runs.proofs.ChartStreams.{at_each, each_append, each-length, found-is}
use Rattle.runs.proofs.Streams.{chart, chart_r, chart_s, found_at, pick_r, pick_s, picked, top_found}
use Rattle.runs.proofs.TreeRuns.{length_r, length_s}

-- region k is in the state `st k`, from n on
abbrev Told : (ℕ → Name) → ℕ → List Name → Type 0
Told st n [] = Unit {0}
Told st n (f ∷ fs) = (st n ≡ f) × Told st (suc n) fs

told-first : (st : ℕ → Name) (n : ℕ) (k l : List Name) → Told st n (k ++ l) → Told st n k
told-first st n [] l p = tt
told-first st n (f ∷ k) l p = (p.0, told-first st (suc n) k l p.1)

told-second : (st : ℕ → Name) (n m : ℕ) (k l : List Name) → n + length k ≡ m → Told st n (k ++ l) → Told st m l
told-second st n m [] l e p = subst (λ x. Told st x l) (omega (arith, e)) p
told-second st n m (f ∷ k) l e p = told-second st (suc n) m k l (omega (arith, e)) p.1

-- names by their places
told-after : (k l : List Name) → Told (name_at (k ++ l)) (length k) l
unfolding name_at
told-after k [] = tt
told-after k (f ∷ l) = (
  get_d_at k f l,
  subst (λ x. Told (name_at (k ++ (f ∷ l))) x l) (length-append k (f ∷ []) ∙ omega arith) (subst (λ (x : List Name). Told (name_at x) (length (k ++ (f ∷ []))) l) (append_assoc k (f ∷ []) l) (told-after (k ++ (f ∷ [])) l)),
)
  where
    get_d_at : (k : List Name) (f : Name) (l : List Name) → get_or (k ++ (f ∷ l)) (length k) [] ≡ f
    get_d_at [] f l = refl
    get_d_at (x ∷ k) f l = get_d_at k f l

mutual
  unfolding select_s pick_s chart_s size_s at_each

  same_s : (st : ℕ → Name) (G : Guards) (o : Name) (t : ℕ) (ss : ResolvedStates) (p n : ℕ) (A : ℕ → Bool) (f : ℕ → Name) → st p ≡ f t → Told st n (at_each t (chart_s G A f ss)) → pick_s G o A f t ss ≡ select_s st o p n ss
  same_s st G o t s_nil p n A f e h = refl
  same_s st G o t (s_cons s es ts rs rest) p n A f e h =
      let W = within A f s in
      let q = subst (λ (x : List Name). Told st n x) (each_append t (chart_r G W rs) (chart_s G A f rest)) h in
      let l : n + length (at_each t (chart_r G W rs)) ≡ n + size_r rs = ap (λ (x : ℕ). n + x) (each-length t (chart_r G W rs) ∙ length_r G W rs) in
      rw (e, same_r st G o t rs n W (own_value o es) (told-first st n (at_each t (chart_r G W rs)) (at_each t (chart_s G A f rest)) q), same_s st G o t rest p (n + size_r rs) A f e (told-second st n (n + size_r rs) (at_each t (chart_r G W rs)) (at_each t (chart_s G A f rest)) l q))

  same_r : (st : ℕ → Name) (G : Guards) (o : Name) (t : ℕ) (rs : ResolvedRegions) (n : ℕ) (A : ℕ → Bool) (own : Option Expr) → Told st n (at_each t (chart_r G A rs)) → pick_r G o A t own rs ≡ select_r st o own n rs
  same_r st G o t r_nil n A own h = refl
  same_r st G o t (r_cons i hi ss rest) n A own h =
      let f = found_at G i hi ss A in
      let q = subst (λ (x : List Name). Told st n x) (each_append t (f ∷ chart_s G A f ss) (chart_r G A rest)) h in
      let l : n + length (at_each t (f ∷ chart_s G A f ss)) ≡ suc n + size_s ss = ap (λ (x : ℕ). n + x) (each-length t (f ∷ chart_s G A f ss)) ∙ rw (length_s G A f ss) (omega arith) in
      let a = told-first st n (at_each t (f ∷ chart_s G A f ss)) (at_each t (chart_r G A rest)) q in
      rw (same_s st G o t ss n (suc n) A f a.0 a.1, same_r st G o t rest (suc n + size_s ss) A own (told-second st n (suc n + size_s ss) (at_each t (f ∷ chart_s G A f ss)) (at_each t (chart_r G A rest)) l q))

-- the output of a machine
pub picked-is : (G : Guards) (m : ResolvedMachine) (o : Name) (t : ℕ) → picked G m o t ≡ selected (name_at (found_in G m t)) m o
unfolding picked selected chart at_each
picked-is G m o t =
    let st = name_at (at_each t (chart G m)) in
    let h : Told st 0 (at_each t (chart G m)) = told-after [] (at_each t (chart G m)) in
    same_s st G o t m.states 0 1 always (top_found G m) h.0 h.1 ∙ ap (λ (x : List Name). selected (name_at x) m o) (sym (found-is G m t))
