-- What is read at an offset and resolves to a tree stands there as that tree, under any prefix.
use Prim.Native.Nat.{ℕ, ◌+◌, ◌-◌, ◌<◌, ◌≤◌, zero, suc}
use native.Mathlib.Omega.{arith}
use mathlib.Core.List.{List, [], ◌∷◌, ◌++◌, append_assoc}
use mathlib.Core.Bool.{Bool, true, false, cond, ◌&&◌}
use mathlib.Core.Option.{Option, none, some}
use mathlib.Core.Path.{◌≡◌, refl, sym, ap, subst, ◌∙◌}
use lib.ListN.{length}
use lib.Dec.{ltb}
use Rattle.wire.specs.Answer.{many, value}
use Rattle.pack_rules.specs.Limits.{max_level, max_states}
use Rattle.pack_rules.specs.Names.{Name, member}
use Rattle.pack_rules.specs.Syntax.{MachineDef, Transition}
use Rattle.machine_rules.specs.Resolved.{ResolvedRegions, ResolvedStates, r_cons, r_nil, s_cons, s_nil}
use Rattle.pack_rules.specs.Forms.{name_at}
use Rattle.pack_rules.specs.Read.{OneRegion, OneState, drawn_of, optional_in, region_at, regions_of, state_with}
use Rattle.pack_rules.specs.Report.{Refusal}
use Rattle.machine_rules.specs.Refusals.{too_large, unknown_refine}
use Rattle.machine_rules.specs.Resolve.{Target, Walk, append_region, as_target, count_state, machine_of, open_level, prefix_r, prefix_s, prefix_transitions, refine_at, refine_with, resolve_r, resolve_s, short_name, short_s, stop, walk_on, went, with_refine, with_target}
use Rattle.machines.specs.ResolvedIn.{MachineAt, StandsR, StandsS, r_into, r_more, r_plain, s_end, s_more}
use Rattle.machines.proofs.Reading.{many-cut, many-end, many_more, many-over, optional-none, optional-some, overs, region-none, region-value, state-value}

-- what a walk that was not stopped says
pub walk_on-went : {A B : Type 0} (w : Walk A) (k : A → ℕ → Walk B) (y : B) (m : ℕ) → walk_on w k ≡ went y m → (x : A) × (n : ℕ) × (w ≡ went x n) × (k x n ≡ went y m)
unfolding walk_on
walk_on-went (stop r) k y m e = let z : ◌≡◌ {A = ℕ} 0 1 = cc in absurd (omega arith)
walk_on-went (went x n) k y m e = (x, n, refl, e)

module _ (top : Name) (refine : ℕ → Name → Name → ℕ → Walk Target) where
  pub deeper-went : {A : Type 0} (l : ℕ) (k : ℕ → Walk A) (y : A) (m : ℕ) → open_level top refine l k ≡ went y m → (j : ℕ) × (l ≡ suc j) × (k j ≡ went y m)
  unfolding open_level
  deeper-went zero k y m e = let z : ◌≡◌ {A = ℕ} 0 1 = cc in absurd (omega arith)
  deeper-went (suc l) k y m e = (l, refl, e)

  arrive-went : {A : Type 0} (n : ℕ) (k : ℕ → Walk A) (y : A) (m : ℕ) → count_state top refine n k ≡ went y m → k (n + 1) ≡ went y m
  unfolding count_state
  arrive-went {A} n k y m e = go (ltb n max_states) e
    where
      go : (b : Bool) → elim b [ true ↦ k (n + 1) | false ↦ stop (too_large top) ] ≡ went y m → k (n + 1) ≡ went y m
      go true d = d
      go false d = let z : ◌≡◌ {A = ℕ} 0 1 = cc in absurd (omega arith)

  pub target-went : (nm : Name) (qs : ResolvedRegions) (t : Target) (n : ℕ) (us : ResolvedRegions) (m : ℕ) → with_target top refine nm qs t n ≡ went us m → us ≡ append_region qs ((nm ++ (95 ∷ [])) ++ t.initial) (prefix_s (nm ++ (95 ∷ [])) t.states)
  unfolding with_target
  target-went nm qs t n us m e = go (short_name (length nm + 1) t.initial && short_s (length nm + 1) t.states) e
    where
      go : (b : Bool) → cond b (went (append_region qs ((nm ++ (95 ∷ [])) ++ t.initial) (prefix_s (nm ++ (95 ∷ [])) t.states)) n) (stop (too_large top)) ≡ went us m → us ≡ append_region qs ((nm ++ (95 ∷ [])) ++ t.initial) (prefix_s (nm ++ (95 ∷ [])) t.states)
      go true d = cc
      go false d = let z : ◌≡◌ {A = ℕ} 0 1 = cc in absurd (omega arith)

-- a refinement that was resolved: the machine, and its states one level further down
pub record Entered (top : Name) (ms : List MachineDef) (l : ℕ) (n : Name) (c : ℕ) (t : Target) (m : ℕ) : Type 0 where
  pub d : MachineDef
  pub j : ℕ
  pub f : ℕ
  pub path : List Name
  pub ss : ResolvedStates
  pub named : machine_of ms n ≡ some d
  pub level : l ≡ suc j
  pub inside : resolve_s top (refine_at f top ms path) j d.states c ≡ went ss m
  pub initial : t.initial ≡ d.initial
  pub states : t.states ≡ ss

pub refine-went : (f : ℕ) (top : Name) (ms : List MachineDef) (path : List Name) (l : ℕ) (nm n : Name) (c : ℕ) (t : Target) (m : ℕ) → refine_at f top ms path l nm n c ≡ went t m → Entered top ms l n c t m
unfolding refine_at refine_with as_target
refine-went zero top ms path l nm n c t m e = absurd (go _ (member n path) (machine_of ms n) e)
  where
    go : (r : Refusal) (b : Bool) (o : Option MachineDef) → elim b [ true ↦ stop r | false ↦ elim o [ none ↦ stop (unknown_refine top nm n) | some d ↦ stop (too_large top) ] ] ≡ went t m → ⊥
    go r true o x = let z : ◌≡◌ {A = ℕ} 0 1 = cc in omega arith
    go r false none x = let z : ◌≡◌ {A = ℕ} 0 1 = cc in omega arith
    go r false (some d) x = let z : ◌≡◌ {A = ℕ} 0 1 = cc in omega arith
refine-went (suc f) top ms path l nm n c t m e = go _ (member n path) (machine_of ms n) refl e
  where
    body : MachineDef → Walk Target
    body d = open_level top (refine_at f top ms (d.name ∷ path)) l (λ k. walk_on (resolve_s top (refine_at f top ms (d.name ∷ path)) k d.states c) (λ ss i. went (as_target d.initial ss) i))

    go : (r : Refusal) (b : Bool) (o : Option MachineDef) → machine_of ms n ≡ o → elim b [ true ↦ stop r | false ↦ elim o [ none ↦ stop (unknown_refine top nm n) | some d ↦ body d ] ] ≡ went t m → Entered top ms l n c t m
    go r true o y x = let z : ◌≡◌ {A = ℕ} 0 1 = cc in absurd (omega arith)
    go r false none y x = let z : ◌≡◌ {A = ℕ} 0 1 = cc in absurd (omega arith)
    go r false (some d) y x =
        let a = deeper-went top (refine_at f top ms (d.name ∷ path)) l _ t m x in
        let b = walk_on-went (resolve_s top (refine_at f top ms (d.name ∷ path)) a.0 d.states c) _ t m a.2 in
        let i : as_target d.initial b.0 ≡ t = cc b.3 in
        let k : b.1 ≡ m = cc b.3 in
        record { d = d; j = a.0; f = f; path = d.name ∷ path; ss = b.0; named = y; level = a.1; inside = b.2 ∙ ap (went b.0) k; initial = ap (λ (y : Target). y.initial) (sym i); states = ap (λ (y : Target). y.states) (sym i) }

-- prefixes
prefix-targets : (p r : Name) (ts : List Transition) → prefix_transitions p (prefix_transitions r ts) ≡ prefix_transitions (p ++ r) ts
unfolding prefix_transitions
prefix-targets p r [] = refl
prefix-targets p r (t ∷ ts) = rw (prefix-targets p r ts, append_assoc p r t.target)

mutual
  unfolding prefix_s prefix_r

  prefix-twice : (p r : Name) (ss : ResolvedStates) → prefix_s p (prefix_s r ss) ≡ prefix_s (p ++ r) ss
  prefix-twice p r s_nil = refl
  prefix-twice p r (s_cons s es ts rs rest) = rw (prefix-targets p r ts, prefix-twice_r p r rs, prefix-twice p r rest, append_assoc p r s)

  prefix-twice_r : (p r : Name) (rs : ResolvedRegions) → prefix_r p (prefix_r r rs) ≡ prefix_r (p ++ r) rs
  prefix-twice_r p r r_nil = refl
  prefix-twice_r p r (r_cons i h ss rest) = rw (prefix-twice p r ss, prefix-twice_r p r rest, append_assoc p r i)

unfoldable append_r : ResolvedRegions → ResolvedRegions → ResolvedRegions
append_r r_nil t = t
append_r (r_cons i h ss rest) t = r_cons i h ss (append_r rest t)

append-none : (rs : ResolvedRegions) → append_r rs r_nil ≡ rs
unfolding append_r
append-none r_nil = refl
append-none (r_cons i h ss rest) = rw (append-none rest)

prefix-snoc : (p : Name) (rs : ResolvedRegions) (i : Name) (ss : ResolvedStates) → prefix_r p (append_region rs i ss) ≡ append_r (prefix_r p rs) (r_cons (p ++ i) false (prefix_s p ss) r_nil)
unfolding prefix_r append_region append_r
prefix-snoc p r_nil i ss = refl
prefix-snoc p (r_cons j h st rest) i ss = rw (prefix-snoc p rest i ss)

-- the machine of a name is where `place` says
pub record Found (ns : List Name) (s : List ℕ) (place : ℕ → ℕ) (i : ℕ) (d : MachineDef) : Type 0 where
  pub k : ℕ
  pub b : ℕ
  pub q : ℕ
  pub xs : List OneState
  pub head : MachineAt ns s (place i) d.initial k b
  pub reads : many (state_with (region_at (max_level - 1) ns s) ns s) k b ≡ value xs q
  pub same : drawn_of xs ≡ d.states

module _ (ns : List Name) (s : List ℕ) (place : ℕ → ℕ) (top : Name) (ms : List MachineDef)
    (finds : (i : ℕ) (d : MachineDef) → i < length ns → machine_of ms (name_at ns i) ≡ some d → Found ns s place i d) where
  -- what is read and resolved with l levels left stands there, under any prefix
  abbrev Standing : ℕ → Type 0
  Standing l = (f levels n at : ℕ) (path : List Name) (xs : List OneState) (q c : ℕ) (t : ResolvedStates) (m : ℕ) (p : Name)
      → levels ≤ max_level - 1 → many (state_with (region_at levels ns s) ns s) n at ≡ value xs q → resolve_s top (refine_at f top ms path) l (drawn_of xs) c ≡ went t m → StandsS ns s place p l n at (prefix_s p t) q

  abbrev Lower : ℕ → Type 0
  Lower l = (j : ℕ) → l ≡ suc j → Standing j

  record Tail (l : ℕ) (nm : Name) (at e : ℕ) (qs us : ResolvedRegions) (p : Name) : Type 0 where
    tail : ResolvedRegions
    stands : StandsR ns s place p l nm zero at tail e
    joined : append_r (prefix_r p qs) tail ≡ prefix_r p us

  tail_from : (l : ℕ) → Lower l → (f : ℕ) (path : List Name) (nm : Name) (at : ℕ) (o : Option Name) (e : ℕ) (qs us : ResolvedRegions) (c m : ℕ) (p : Name)
      → optional_in ns s at ≡ value o e → with_refine top (refine_at f top ms path) l nm o qs c ≡ went us m → Tail l nm at e qs us p
  unfolding with_refine
  tail_from l low f path nm at none e qs us c m p r w =
      let i : qs ≡ us = cc in
      record { tail = r_nil; stands = r_plain (optional-none ns s at e r); joined = append-none (prefix_r p qs) ∙ ap (prefix_r p) i }
  tail_from l low f path nm at (some n) e qs us c m p r w =
      let a = optional-some ns s at n e r in
      let g = walk_on-went (refine_at f top ms path l nm n c) _ us m w in
      let h = refine-went f top ms path l nm n c g.0 g.1 g.2 in
      let k = finds a.i h.d a.small (ap (machine_of ms) a.named ∙ h.named) in
      let u = target-went top (refine_at f top ms path) nm qs g.0 g.1 us m g.3 in
      let v = low h.j h.level h.f (max_level - 1) k.k k.b h.path k.xs k.q c h.ss g.1 (p ++ (nm ++ (95 ∷ []))) (omega arith) k.reads
      (ap (λ x. resolve_s top (refine_at h.f top ms h.path) h.j x c) k.same ∙ h.inside) in
      record {
        tail = r_cons ((p ++ (nm ++ (95 ∷ []))) ++ h.d.initial) false (prefix_s (p ++ (nm ++ (95 ∷ []))) h.ss) r_nil;
        stands = subst (λ x. StandsR ns s place p x nm zero at (r_cons ((p ++ (nm ++ (95 ∷ []))) ++ h.d.initial) false (prefix_s (p ++ (nm ++ (95 ∷ []))) h.ss) r_nil) e) (sym h.level)
            (r_into a.is a.small a.present k.head refl refl v);
        joined =
            ap (λ x. append_r (prefix_r p qs) (r_cons x false (prefix_s (p ++ (nm ++ (95 ∷ []))) h.ss) r_nil)) (append_assoc p (nm ++ (95 ∷ [])) h.d.initial)
            ∙ ap (λ x. append_r (prefix_r p qs) (r_cons (p ++ ((nm ++ (95 ∷ [])) ++ h.d.initial)) false x r_nil)) (sym (prefix-twice p (nm ++ (95 ∷ [])) h.ss))
            ∙ sym (prefix-snoc p qs ((nm ++ (95 ∷ [])) ++ h.d.initial) (prefix_s (nm ++ (95 ∷ [])) h.ss))
            ∙ ap (λ x. prefix_r p (append_region qs ((nm ++ (95 ∷ [])) ++ x) (prefix_s (nm ++ (95 ∷ [])) h.ss))) (sym h.initial)
            ∙ ap (λ x. prefix_r p (append_region qs ((nm ++ (95 ∷ [])) ++ g.0.initial) (prefix_s (nm ++ (95 ∷ [])) x))) (sym h.states)
            ∙ ap (prefix_r p) (sym u);
      }

  regions-from : (l : ℕ) → Lower l → (f levels n at : ℕ) (path : List Name) (nm : Name) (rs : List OneRegion) (q c : ℕ) (qs : ResolvedRegions) (m : ℕ) (p : Name) (tail : ResolvedRegions) (e : ℕ)
      → levels ≤ max_level - 1 → many (region_at levels ns s) n at ≡ value rs q → resolve_r top (refine_at f top ms path) l (regions_of rs) c ≡ went qs m → StandsR ns s place p l nm zero q tail e
      → StandsR ns s place p l nm n at (append_r (prefix_r p qs) tail) e
  unfolding resolve_r regions_of prefix_r append_r open_level
  regions-from l low f levels zero at path nm [] q c qs m p tail e fw r w z =
      let i : r_nil ≡ qs = cc in
      let j : q ≡ at = sym (many-end (region_at levels ns s) at q r) in
      subst (λ x. StandsR ns s place p l nm zero at (append_r (prefix_r p x) tail) e) i (subst (λ x. StandsR ns s place p l nm zero x tail e) j z)
  regions-from l low f levels zero at path nm (x ∷ rs) q c qs m p tail e fw r w z = absurd (many-cut (region_at levels ns s) at x rs q r)
  regions-from l low f levels (suc n) at path nm [] q c qs m p tail e fw r w z = absurd (many-over (region_at levels ns s) n at q r)
  regions-from zero low f levels (suc n) at path nm (x ∷ rs) q c qs m p tail e fw r w z = let y : ◌≡◌ {A = ℕ} 0 1 = cc in absurd (omega arith)
  regions-from (suc l) low f zero (suc n) at path nm (x ∷ rs) q c qs m p tail e fw r w z =
      let a = many_more (region_at zero ns s) n at x rs q r in absurd (region-none ns s at x a.0 a.1)
  regions-from (suc l) low f (suc levels) (suc n) at path nm (x ∷ rs) q c qs m p tail e fw r w z =
      let a = many_more (region_at (suc levels) ns s) n at x rs q r in
      let b = region-value ns s levels at x a.0 a.1 in
      let g = walk_on-went (resolve_s top (refine_at f top ms path) l x.states c) _ qs m w in
      let h = walk_on-went (resolve_r top (refine_at f top ms path) (suc l) (regions_of rs) g.1) _ qs m g.3 in
      let i : r_cons x.initial x.history g.0 h.0 ≡ qs = cc h.3 in
      let u = low l refl f levels b.k b.b path b.xs a.0 c g.0 g.1 p (omega arith) b.inside (ap (λ y. resolve_s top (refine_at f top ms path) l y c) b.same ∙ g.2) in
      let v = regions-from (suc l) low f (suc levels) n a.0 path nm rs q g.1 h.0 h.1 p tail e fw a.2 h.2 z in
      subst (λ y. StandsR ns s place p (suc l) nm (suc n) at (append_r (prefix_r p y) tail) e) i (r_more b.head refl u v)

  states-from : (l : ℕ) → Lower l → (f levels n at : ℕ) (path : List Name) (xs : List OneState) (q c : ℕ) (t : ResolvedStates) (m : ℕ) (p : Name)
      → levels ≤ max_level - 1 → many (state_with (region_at levels ns s) ns s) n at ≡ value xs q → resolve_s top (refine_at f top ms path) l (drawn_of xs) c ≡ went t m → StandsS ns s place p l n at (prefix_s p t) q
  unfolding resolve_s drawn_of prefix_s
  states-from l low f levels zero at path [] q c t m p fw r w =
      let i : s_nil ≡ t = cc in
      subst (λ x. StandsS ns s place p l zero at (prefix_s p x) q) i (s_end (many-end (state_with (region_at levels ns s) ns s) at q r))
  states-from l low f levels zero at path (x ∷ xs) q c t m p fw r w = absurd (many-cut (state_with (region_at levels ns s) ns s) at x xs q r)
  states-from l low f levels (suc n) at path [] q c t m p fw r w = absurd (many-over (state_with (region_at levels ns s) ns s) n at q r)
  states-from l low f levels (suc n) at path (x ∷ xs) q c t m p fw r w =
      let a = many_more (state_with (region_at levels ns s) ns s) n at x xs q r in
      let b = state-value ns s (region_at levels ns s) at x a.0 a.1 in
      let d = arrive-went top (refine_at f top ms path) c _ t m w in
      let g = walk_on-went (resolve_r top (refine_at f top ms path) l x.regions (c + 1)) _ t m d in
      let h = walk_on-went (with_refine top (refine_at f top ms path) l x.name x.refines g.0 g.1) _ t m g.3 in
      let k = walk_on-went (resolve_s top (refine_at f top ms path) l (drawn_of xs) h.1) _ t m h.3 in
      let i : s_cons x.name x.equations x.transitions h.0 k.0 ≡ t = cc k.3 in
      let u = tail_from l low f path x.name b.m x.refines a.0 g.0 h.0 g.1 h.1 p b.last h.2 in
      let v = regions-from l low f levels b.k b.b path x.name b.rs b.m (c + 1) g.0 g.1 p u.tail a.0 fw b.inline (ap (λ y. resolve_r top (refine_at f top ms path) l y (c + 1)) b.same ∙ g.2) u.stands in
      let y = states-from l low f levels n a.0 path xs q h.1 k.0 k.1 p fw a.2 k.2 in
      subst (λ z. StandsS ns s place p l (suc n) at (prefix_s p z) q) i
      (s_more b.head refl refl (overs ns s levels at x a.0 fw a.1) (subst (λ z. StandsR ns s place p l x.name b.k b.b z a.0) u.joined v) y)

  pub standing : (l : ℕ) → Standing l
  standing zero = states-from zero (λ j e. let z : ◌≡◌ {A = ℕ} 0 1 = cc in absurd (omega arith))
  standing (suc l) = states-from (suc l) (λ j e. let i : l ≡ j = cc in subst Standing i (standing l))

-- no prefix
targets-none : (ts : List Transition) → prefix_transitions [] ts ≡ ts
unfolding prefix_transitions
targets-none [] = refl
targets-none (t ∷ ts) = rw (targets-none ts)

mutual
  unfolding prefix_s prefix_r

  pub prefix-none : (ss : ResolvedStates) → prefix_s [] ss ≡ ss
  prefix-none s_nil = refl
  prefix-none (s_cons s es ts rs rest) = rw (targets-none ts, prefix-none_r rs, prefix-none rest)

  prefix-none_r : (rs : ResolvedRegions) → prefix_r [] rs ≡ rs
  prefix-none_r r_nil = refl
  prefix-none_r (r_cons i h ss rest) = rw (prefix-none ss, prefix-none_r rest)
