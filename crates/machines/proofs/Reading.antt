-- What reading a state, a region, a machine says, part by part.
use Prim.Native.Nat.{ℕ, ◌-◌, ◌<◌, ◌≤◌, zero, suc}
use native.Mathlib.Omega.{arith}
use mathlib.Core.List.{List, [], ◌∷◌}
use mathlib.Core.Bool.{Bool, true, false, cond, ◌||◌}
use mathlib.Core.Option.{none, some}
use mathlib.Core.Path.{◌≡◌, refl, sym, ap, subst, ◌∙◌}
use lib.ListN.{length}
use lib.Dec.{ltb, eqb}
use borrow.Author.Tests.{eqb-true, eqb-false, ltb-true}
use Rattle.wire.specs.Answer.{Answer, below, counted, guard, index, many, map_a, u16, value}
use Rattle.wire.proofs.Answers.{bind-value, guard-value, map-value}
use Rattle.wire.proofs.Formats.{bind_to}
use Rattle.pack_rules.specs.Limits.{absent, max_level}
use Rattle.pack_rules.specs.Names.{Name}
use Rattle.pack_rules.specs.Syntax.{MachineDef}
use Rattle.pack_rules.specs.Forms.{name_at}
use Rattle.pack_rules.specs.Read.{OneRegion, OneState, drawn_of, equations_in, machine_in, name_in, optional, optional_in, ports_in, region_at, regions_of, state_at, state_with, transition_in}
use Rattle.machines.specs.ResolvedIn.{MachineAt, RegionAt, StateAt, end_of, over_in}

-- lists that are read
pub many-end : {A : Type 0} (r : ℕ → Answer A) (at q : ℕ) → many r zero at ≡ value [] q → at ≡ q
unfolding many
many-end r at q e = cc

pub many-cut : {A : Type 0} (r : ℕ → Answer A) (at : ℕ) (x : A) (xs : List A) (q : ℕ) → many r zero at ≡ value (x ∷ xs) q → ⊥
unfolding many
many-cut r at x xs q e = let z : ◌≡◌ {A = ℕ} 0 1 = cc in omega arith

pub many-over : {A : Type 0} (r : ℕ → Answer A) (n at q : ℕ) → many r (suc n) at ≡ value [] q → ⊥
unfolding many
many-over r n at q e =
    let b = bind-value (r at) _ [] q e in
    let d = bind-value (many r n b.1) _ [] q b.3 in
    let z : ◌≡◌ {A = ℕ} 0 1 = cc d.3 in omega arith

pub many_more : {A : Type 0} (r : ℕ → Answer A) (n at : ℕ) (x : A) (xs : List A) (q : ℕ) → many r (suc n) at ≡ value (x ∷ xs) q → (p : ℕ) × (r at ≡ value x p) × (many r n p ≡ value xs q)
unfolding many
many_more r n at x xs q e =
    let b = bind-value (r at) _ (x ∷ xs) q e in
    let d = bind-value (many r n b.1) _ (x ∷ xs) q b.3 in
    let i : b.0 ≡ x = cc d.3 in
    let j : d.0 ≡ xs = cc d.3 in
    let k : d.1 ≡ q = cc d.3 in
    (b.1, b.2 ∙ ap (λ y. value y b.1) i, d.2 ∙ ap (λ y. value y d.1) j ∙ ap (value xs) k)

-- what reading a state says
pub record StateRead (ns : List Name) (s : List ℕ) (region : ℕ → Answer OneRegion) (at : ℕ) (x : OneState) (q : ℕ) : Type 0 where
  pub k : ℕ
  pub b : ℕ
  pub m : ℕ
  pub rs : List OneRegion
  pub head : StateAt ns s at x.name x.equations x.transitions k b
  pub inline : many region k b ≡ value rs m
  pub same : regions_of rs ≡ x.regions
  pub last : optional_in ns s m ≡ value x.refines q

pub state-value : (ns : List Name) (s : List ℕ) (region : ℕ → Answer OneRegion) (at : ℕ) (x : OneState) (q : ℕ) → state_with region ns s at ≡ value x q → StateRead ns s region at x q
unfolding state_with counted
state-value ns s region at x q e =
    let a = bind-value (name_in ns s at) _ x q e in
    let b = bind-value (equations_in ns s a.1) _ x q a.3 in
    let c = bind-value (counted (transition_in ns s) s b.1) _ x q b.3 in
    let d = bind-value (counted region s c.1) _ x q c.3 in
    let f = bind-value (u16 s c.1) _ d.0 d.1 d.2 in
    let g = map-value _ (optional_in ns s d.1) x q d.3 in
    subst (λ y. StateRead ns s region at y q) g.2
    (record { k = f.0; b = f.1; m = d.1; rs = d.0; head = record { to-equations = a.1; to-transitions = b.1; to-regions = c.1; name = a.2; equations = b.2; transitions = c.2; regions = f.2 }; inline = f.3; same = refl; last = g.1 })

pub record RegionRead (ns : List Name) (s : List ℕ) (levels at : ℕ) (x : OneRegion) (q : ℕ) : Type 0 where
  pub k : ℕ
  pub b : ℕ
  pub xs : List OneState
  pub head : RegionAt ns s at x.initial x.history k b
  pub inside : many (state_with (region_at levels ns s) ns s) k b ≡ value xs q
  pub same : drawn_of xs ≡ x.states

pub region-value : (ns : List Name) (s : List ℕ) (levels at : ℕ) (x : OneRegion) (q : ℕ) → region_at (suc levels) ns s at ≡ value x q → RegionRead ns s levels at x q
unfolding region_at counted
region-value ns s levels at x q e =
    let a = bind-value (name_in ns s at) _ x q e in
    let b = bind-value (below 2 s a.1) _ x q a.3 in
    let g = map-value _ (counted (state_with (region_at levels ns s) ns s) s b.1) x q b.3 in
    let f = bind-value (u16 s b.1) _ g.0 q g.1 in
    subst (λ y. RegionRead ns s levels at y q) g.2
    (record { k = f.0; b = f.1; xs = g.0; head = record { to-history = a.1; to-states = b.1; byte = b.0; initial = a.2; history = b.2; flag = refl; states = f.2 }; inside = f.3; same = refl })

pub region-none : (ns : List Name) (s : List ℕ) (at : ℕ) (x : OneRegion) (q : ℕ) → region_at zero ns s at ≡ value x q → ⊥
unfolding region_at
region-none ns s at x q e = let z : ◌≡◌ {A = ℕ} 0 1 = cc in omega arith

-- what reading a machine says: its name, then owner and ports up to w, then its initial state and states
pub record MachineRead (ns : List Name) (s : List ℕ) (at : ℕ) (d : MachineDef) (q : ℕ) : Type 0 where
  pub to-owner : ℕ
  pub to-inputs : ℕ
  pub to-outputs : ℕ
  pub to-locals : ℕ
  pub to-initial : ℕ
  pub k : ℕ
  pub b : ℕ
  pub xs : List OneState
  pub name : name_in ns s at ≡ value d.name to-owner
  pub owner : optional_in ns s to-owner ≡ value d.owner to-inputs
  pub inputs : ports_in ns s to-inputs ≡ value d.inputs to-outputs
  pub outputs : ports_in ns s to-outputs ≡ value d.outputs to-locals
  pub locals : ports_in ns s to-locals ≡ value d.locals to-initial
  pub head : MachineAt ns s to-initial d.initial k b
  pub inside : many (state_at ns s) k b ≡ value xs q
  pub same : drawn_of xs ≡ d.states

pub machine-value : (ns : List Name) (s : List ℕ) (at : ℕ) (x : MachineDef) (q : ℕ) → machine_in ns s at ≡ value x q → MachineRead ns s at x q
unfolding machine_in counted
machine-value ns s at x q e =
    let a = bind-value (name_in ns s at) _ x q e in
    let o = bind-value (optional_in ns s a.1) _ x q a.3 in
    let i = bind-value (ports_in ns s o.1) _ x q o.3 in
    let u = bind-value (ports_in ns s i.1) _ x q i.3 in
    let l = bind-value (ports_in ns s u.1) _ x q u.3 in
    let n = bind-value (name_in ns s l.1) _ x q l.3 in
    let g = map-value _ (counted (state_at ns s) s n.1) x q n.3 in
    let f = bind-value (u16 s n.1) _ g.0 q g.1 in
    subst (λ y. MachineRead ns s at y q) g.2
    (record {
      to-owner = a.1;
      to-inputs = o.1;
      to-outputs = i.1;
      to-locals = u.1;
      to-initial = l.1;
      k = f.0;
      b = f.1;
      xs = g.0;
      name = a.2;
      owner = o.2;
      inputs = i.2;
      outputs = u.2;
      locals = l.2;
      head = record { to-states = n.1; initial = n.2; states = f.2 };
      inside = f.3;
      same = refl;
    })

-- a name, as a number below their count
pub record NumberIs (ns : List Name) (s : List ℕ) (at : ℕ) (n : Name) (q : ℕ) : Type 0 where
  pub i : ℕ
  pub is : u16 s at ≡ value i q
  pub small : i < length ns
  pub named : name_at ns i ≡ n

pub name-number : (ns : List Name) (s : List ℕ) (at : ℕ) (n : Name) (q : ℕ) → name_in ns s at ≡ value n q → NumberIs ns s at n q
unfolding name_in index
name-number ns s at n q e =
    let m = map-value (name_at ns) (index (length ns) s at) n q e in
    let g = guard-value (λ i. ltb i (length ns)) at (u16 s at) m.0 q m.1 in
    record { i = m.0; is = g.0; small = ltb-true m.0 (length ns) g.1; named = m.2 }

pub optional-none : (ns : List Name) (s : List ℕ) (at q : ℕ) → optional_in ns s at ≡ value none q → u16 s at ≡ value absent q
unfolding optional_in optional
optional-none ns s at q e =
    let m = map-value (optional ns) (guard (λ i. ltb i (length ns) || eqb i absent) at (u16 s at)) none q e in
    let g = guard-value (λ i. ltb i (length ns) || eqb i absent) at (u16 s at) m.0 q m.1 in
    g.0 ∙ ap (λ x. value x q) (go m.0 (eqb m.0 absent) refl m.2)
  where
    go : (i : ℕ) (b : Bool) → eqb i absent ≡ b → cond b none (some (name_at ns i)) ≡ none → i ≡ absent
    go i true h d = eqb-true i absent h
    go i false h d = let z : ◌≡◌ {A = ℕ} 0 1 = cc in absurd (omega arith)

pub record OptionalIs (ns : List Name) (s : List ℕ) (at : ℕ) (n : Name) (q : ℕ) : Type 0 where
  pub i : ℕ
  pub is : u16 s at ≡ value i q
  pub small : i < length ns
  pub present : i ≡ absent → ⊥
  pub named : name_at ns i ≡ n

pub optional-some : (ns : List Name) (s : List ℕ) (at : ℕ) (n : Name) (q : ℕ) → optional_in ns s at ≡ value (some n) q → OptionalIs ns s at n q
unfolding optional_in optional
optional-some ns s at n q e =
    let m = map-value (optional ns) (guard (λ i. ltb i (length ns) || eqb i absent) at (u16 s at)) (some n) q e in
    let g = guard-value (λ i. ltb i (length ns) || eqb i absent) at (u16 s at) m.0 q m.1 in
    let h = go m.0 (eqb m.0 absent) refl m.2 (ltb m.0 (length ns)) refl g.1 in
    record { i = m.0; is = g.0; small = h.2; present = h.0; named = h.1 }
  where
    go : (i : ℕ) (b : Bool) → eqb i absent ≡ b → cond b none (some (name_at ns i)) ≡ some n → (c : Bool) → ltb i (length ns) ≡ c → (c || eqb i absent) ≡ true → (i ≡ absent → ⊥) × (name_at ns i ≡ n) × (i < length ns)
    go i true h d c f x = let z : ◌≡◌ {A = ℕ} 0 1 = cc in absurd (omega arith)
    go i false h d true f x = (eqb-false i absent h, cc, ltb-true i (length ns) f)
    go i false h d false f x = let z : ◌≡◌ {A = ℕ} 0 1 = ap (λ b. cond b 0 1) (sym x) ∙ ap (λ b. cond b 0 1) h in absurd (omega arith)

-- what is read with some levels left is read with more
many-mono : {A : Type 0} (r t : ℕ → Answer A) → ((at : ℕ) (x : A) (q : ℕ) → r at ≡ value x q → t at ≡ value x q) → (n at : ℕ) (xs : List A) (q : ℕ) → many r n at ≡ value xs q → many t n at ≡ value xs q
unfolding many
many-mono r t h zero at xs q e = e
many-mono r t h (suc n) at xs q e =
    let b = bind-value (r at) _ xs q e in
    let d = bind-value (many r n b.1) _ xs q b.3 in
    bind_to (t at) b.0 b.1 _ _ (h at b.0 b.1 b.2) (bind_to (many t n b.1) d.0 d.1 _ _ (many-mono r t h n b.1 d.0 d.1 d.2) d.3)

module _ (ns : List Name) (s : List ℕ) where
  counted-mono : {A : Type 0} (r t : ℕ → Answer A) → ((at : ℕ) (x : A) (q : ℕ) → r at ≡ value x q → t at ≡ value x q) → (at : ℕ) (xs : List A) (q : ℕ) → counted r s at ≡ value xs q → counted t s at ≡ value xs q
  unfolding counted
  counted-mono r t h at xs q e =
      let b = bind-value (u16 s at) _ xs q e in
      bind_to (u16 s at) b.0 b.1 _ _ b.2 (many-mono r t h b.0 b.1 xs q b.3)

  state-mono : (r t : ℕ → Answer OneRegion) → ((at : ℕ) (x : OneRegion) (q : ℕ) → r at ≡ value x q → t at ≡ value x q) → (at : ℕ) (x : OneState) (q : ℕ) → state_with r ns s at ≡ value x q → state_with t ns s at ≡ value x q
  unfolding state_with
  state-mono r t h at x q e =
      let a = bind-value (name_in ns s at) _ x q e in
      let b = bind-value (equations_in ns s a.1) _ x q a.3 in
      let c = bind-value (counted (transition_in ns s) s b.1) _ x q b.3 in
      let d = bind-value (counted r s c.1) _ x q c.3 in
      bind_to (name_in ns s at) a.0 a.1 _ _ a.2 (bind_to (equations_in ns s a.1) b.0 b.1 _ _ b.2
      (bind_to (counted (transition_in ns s) s b.1) c.0 c.1 _ _ c.2 (bind_to (counted t s c.1) d.0 d.1 _ _ (counted-mono r t h c.1 d.0 d.1 d.2) d.3)))

  region-mono : (l m : ℕ) → l ≤ m → (at : ℕ) (x : OneRegion) (q : ℕ) → region_at l ns s at ≡ value x q → region_at m ns s at ≡ value x q
  unfolding region_at map_a
  region-mono zero m h at x q e = absurd (region-none ns s at x q e)
  region-mono (suc l) zero h at x q e = absurd (omega arith)
  region-mono (suc l) (suc m) h at x q e =
      let a = bind-value (name_in ns s at) _ x q e in
      let b = bind-value (below 2 s a.1) _ x q a.3 in
      let g = map-value _ (counted (state_with (region_at l ns s) ns s) s b.1) x q b.3 in
      let k : l ≤ m = omega arith in
      bind_to (name_in ns s at) a.0 a.1 _ _ a.2 (bind_to (below 2 s a.1) b.0 b.1 _ _ b.2
      (ap (map_a _) (counted-mono _ _ (state-mono (region_at l ns s) (region_at m ns s) (region-mono l m k)) b.1 g.0 q g.1) ∙ ap (λ y. value y q) g.2))

  pub overs : (levels at : ℕ) (x : OneState) (e : ℕ) → levels ≤ max_level - 1 → state_with (region_at levels ns s) ns s at ≡ value x e → over_in ns s at ≡ e
  unfolding over_in end_of state_at
  overs levels at x e h r = rw (state-mono (region_at levels ns s) (region_at (max_level - 1) ns s) (region-mono levels (max_level - 1) h) at x e r)
