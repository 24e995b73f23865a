-- Resolving counts the states of the tree that it gives, and they are 512 at most.
use Prim.Native.Nat.{ℕ, zero, suc, ◌+◌, ◌<◌, ◌≤◌}
use native.Mathlib.Omega.{arith}
use mathlib.Core.List.{List, [], ◌∷◌, ◌++◌}
use mathlib.Core.Bool.{Bool, true, false, cond, ◌&&◌}
use mathlib.Core.Option.{Option, none, some}
use mathlib.Core.Path.{◌≡◌, refl, sym, ap, subst, ◌∙◌}
use lib.ListN.{length}
use lib.Dec.{ltb}
use borrow.Author.Tests.{ltb-true}
use Rattle.pack_rules.specs.Names.{Name}
use Rattle.pack_rules.specs.Syntax.{Equation, MachineDef, RegionDefs, StateDefs, Transition, def_cons, def_nil, reg_cons, reg_nil}
use Rattle.machine_rules.specs.Resolved.{ResolvedRegions, ResolvedStates, r_cons, r_nil, s_cons, s_nil}
use Rattle.machines.specs.Counts.{count_r, count_s}
use Rattle.machine_rules.specs.Refusals.{too_large}
use Rattle.machine_rules.specs.Resolve.{Target, Walk, append_region, count_state, prefix_r, prefix_s, refine_at, resolve_r, resolve_s, resolved_states, short_name, short_s, stop, went, with_refine, with_target}
use Rattle.machines.proofs.ResolvedAtOffset.{deeper-went, refine-went, target-went, walk_on-went}

-- prefixes do not count, and a refinement adds its states
mutual
  unfolding prefix_s prefix_r count_s count_r

  prefix-count : (p : Name) (ss : ResolvedStates) → count_s (prefix_s p ss) ≡ count_s ss
  prefix-count p s_nil = refl
  prefix-count p (s_cons s es ts rs rest) = let a = prefix-count_r p rs in let b = prefix-count p rest in omega arith

  prefix-count_r : (p : Name) (rs : ResolvedRegions) → count_r (prefix_r p rs) ≡ count_r rs
  prefix-count_r p r_nil = refl
  prefix-count_r p (r_cons i h ss rest) = let a = prefix-count p ss in let b = prefix-count_r p rest in omega arith

snoc-count : (rs : ResolvedRegions) (i : Name) (ss : ResolvedStates) → count_r (append_region rs i ss) ≡ count_r rs + count_s ss
unfolding append_region count_r
snoc-count r_nil i ss = omega arith
snoc-count (r_cons j h st rest) i ss = let a = snoc-count rest i ss in omega arith

-- the count goes on by k, and not past the limit
record Grew (c m k : ℕ) : Type 0 where
  is : m ≡ c + k
  few : c ≤ 512 → m ≤ 512

module _ (top : Name) (refine : ℕ → Name → Name → ℕ → Walk Target) where
  arrive-below : {A : Type 0} (n : ℕ) (k : ℕ → Walk A) (y : A) (m : ℕ) → count_state top refine n k ≡ went y m → (n < 512) × (k (n + 1) ≡ went y m)
  unfolding count_state
  arrive-below {A} n k y m e = go (ltb n 512) refl e
    where
      go : (b : Bool) → ltb n 512 ≡ b → elim b [ true ↦ k (n + 1) | false ↦ stop (too_large top) ] ≡ went y m → (n < 512) × (k (n + 1) ≡ went y m)
      go true f d = (ltb-true n 512 f, d)
      go false f d = let z : ◌≡◌ {A = ℕ} 0 1 = cc in absurd (omega arith)

  target-count : (nm : Name) (qs : ResolvedRegions) (t : Target) (n : ℕ) (us : ResolvedRegions) (m : ℕ) → with_target top refine nm qs t n ≡ went us m → m ≡ n
  unfolding with_target
  target-count nm qs t n us m e = go (short_name (length nm + 1) t.initial && short_s (length nm + 1) t.states) e
    where
      go : (b : Bool) → cond b (went (append_region qs ((nm ++ (95 ∷ [])) ++ t.initial) (prefix_s (nm ++ (95 ∷ [])) t.states)) n) (stop (too_large top)) ≡ went us m → m ≡ n
      go true d = cc
      go false d = let z : ◌≡◌ {A = ℕ} 0 1 = cc in absurd (omega arith)

module _ (top : Name) (ms : List MachineDef) where
  abbrev Counting : ℕ → Type 0
  Counting l = (f : ℕ) (path : List Name) (ds : StateDefs) (c : ℕ) (t : ResolvedStates) (m : ℕ) → resolve_s top (refine_at f top ms path) l ds c ≡ went t m → Grew c m (count_s t)

  abbrev Lower : ℕ → Type 0
  Lower l = (j : ℕ) → l ≡ suc j → Counting j

  refined-count : (l : ℕ) → Lower l → (f : ℕ) (path : List Name) (nm : Name) (o : Option Name) (qs us : ResolvedRegions) (c m : ℕ) → with_refine top (refine_at f top ms path) l nm o qs c ≡ went us m
      → (k : ℕ) × (count_r us ≡ count_r qs + k) × Grew c m k
  unfolding with_refine
  refined-count l low f path nm none qs us c m w =
      let i : qs ≡ us = cc in
      let j : c ≡ m = cc in
      (0, ap count_r (sym i) ∙ omega arith, record { is = omega arith; few = λ h. omega arith })
  refined-count l low f path nm (some n) qs us c m w =
      let g = walk_on-went (refine_at f top ms path l nm n c) _ us m w in
      let h = refine-went f top ms path l nm n c g.0 g.1 g.2 in
      let u = target-went top (refine_at f top ms path) nm qs g.0 g.1 us m g.3 in
      let v = target-count top (refine_at f top ms path) nm qs g.0 g.1 us m g.3 in
      let x = low h.j h.level h.f h.path h.d.states c h.ss g.1 h.inside in
      let xi = x.is in (
        count_s h.ss,
        ap count_r u ∙ snoc-count qs ((nm ++ (95 ∷ [])) ++ g.0.initial) (prefix_s (nm ++ (95 ∷ [])) g.0.states)
            ∙ ap (λ (y : ℕ). count_r qs + y) (prefix-count (nm ++ (95 ∷ [])) g.0.states ∙ ap count_s h.states),
        record { is = v ∙ xi; few = λ y. let z = x.few y in omega arith },
      )

  -- a state: one, its regions, its refinement, and the others
  grown : (c m : ℕ) (t : ResolvedStates) (qs us : ResolvedRegions) (vs : ResolvedStates) (x y z : ℕ) (s : Name) (es : List Equation) (ts : List Transition) (k : ℕ) → s_cons s es ts us vs ≡ t → z ≡ m → c < 512
      → Grew (c + 1) x (count_r qs) → count_r us ≡ count_r qs + k → Grew x y k → Grew y z (count_s vs) → Grew c m (count_s t)
  unfolding count_s
  grown c m t qs us vs x y z s es ts k i j l a e b d =
      let ai = a.is in
      let bi = b.is in
      let di = d.is in
      let n : suc (count_r us + count_s vs) ≡ count_s t = ap count_s i in
      record { is = omega arith; few = λ h. let u = a.few (omega arith) in let v = b.few u in let w = d.few v in omega arith }

  regions-count : (l : ℕ) → Lower l → (f : ℕ) (path : List Name) (ds : RegionDefs) (c : ℕ) (t : ResolvedRegions) (m : ℕ) → resolve_r top (refine_at f top ms path) l ds c ≡ went t m → Grew c m (count_r t)
  unfolding resolve_r count_r
  regions-count l low f path reg_nil c t m w =
      let i : r_nil ≡ t = cc in
      let j : c ≡ m = cc in
      record { is = sym j ∙ omega arith ∙ ap (λ (y : ResolvedRegions). c + count_r y) i; few = λ h. omega arith }
  regions-count l low f path (reg_cons i h ss rest) c t m w =
      let a = deeper-went top (refine_at f top ms path) l _ t m w in
      let g = walk_on-went (resolve_s top (refine_at f top ms path) a.0 ss c) _ t m a.2 in
      let k = walk_on-went (resolve_r top (refine_at f top ms path) l rest g.1) _ t m g.3 in
      let e : r_cons i h g.0 k.0 ≡ t = cc k.3 in
      let j : k.1 ≡ m = cc k.3 in
      let x = low a.0 a.1 f path ss c g.0 g.1 g.2 in
      let y = regions-count l low f path rest g.1 k.0 k.1 k.2 in
      let xi = x.is in
      let yi = y.is in
      let n : count_s g.0 + count_r k.0 ≡ count_r t = ap count_r e in
      record { is = omega arith; few = λ h. let u = x.few h in let v = y.few u in omega arith }

  states-count : (l : ℕ) → Lower l → Counting l
  unfolding resolve_s count_s
  states-count l low f path def_nil c t m w =
      let i : s_nil ≡ t = cc in
      let j : c ≡ m = cc in
      record { is = sym j ∙ omega arith ∙ ap (λ (y : ResolvedStates). c + count_s y) i; few = λ h. omega arith }
  states-count l low f path (def_cons s es ts rs r rest) c t m w =
      let a = arrive-below top (refine_at f top ms path) c _ t m w in
      let g = walk_on-went (resolve_r top (refine_at f top ms path) l rs (c + 1)) _ t m a.1 in
      let h = walk_on-went (with_refine top (refine_at f top ms path) l s r g.0 g.1) _ t m g.3 in
      let k = walk_on-went (resolve_s top (refine_at f top ms path) l rest h.1) _ t m h.3 in
      let i : s_cons s es ts h.0 k.0 ≡ t = cc k.3 in
      let j : k.1 ≡ m = cc k.3 in
      let x = regions-count l low f path rs (c + 1) g.0 g.1 g.2 in
      let y = refined-count l low f path s r g.0 h.0 g.1 h.1 h.2 in
      let z = states-count l low f path rest h.1 k.0 k.1 k.2 in
      grown c m t g.0 h.0 k.0 g.1 h.1 k.1 s es ts y.0 i j a.0 x y.1 y.2 z

  counting : (l : ℕ) → Counting l
  counting zero = states-count zero (λ j e. let z : ◌≡◌ {A = ℕ} 0 1 = cc in absurd (omega arith))
  counting (suc l) = states-count (suc l) (λ j e. let i : l ≡ j = cc in subst Counting i (counting l))

-- a machine's tree has as many states as were counted, and no more than the limit
pub resolved-count : (ms : List MachineDef) (d : MachineDef) (t : ResolvedStates) (n : ℕ) → resolved_states ms d ≡ went t n → (count_s t ≡ n) × (n ≤ 512)
unfolding resolved_states
resolved-count ms d t n e =
    let a = counting d.name ms 7 8 (d.name ∷ []) d.states 0 t n e in
    let i = a.is in
    (omega arith, a.few (omega arith))
