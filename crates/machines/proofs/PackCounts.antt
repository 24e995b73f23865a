-- How many nodes and machines a pack has room for: a node takes 11 bytes or more, a machine 14.
use Prim.Native.Nat.{ℕ, zero, suc, ◌+◌, ◌*◌, ◌≤◌}
use native.Mathlib.Nat.{mul-suc}
use native.Mathlib.Omega.{arith}
use mathlib.Core.List.{List, [], ◌∷◌}
use mathlib.Core.Bool.{◌||◌}
use mathlib.Core.Option.{Option}
use mathlib.Core.Path.{◌≡◌, sym, subst, ◌∙◌}
use lib.ListN.{length}
use lib.Dec.{ltb, eqb}
use Rattle.wire.specs.Answer.{Answer, below, byte, counted, many, u16, value}
use Rattle.wire.proofs.Answers.{Fwd, bind-value, byte-value, fwd-below, fwd-bind, fwd-guard, fwd-index, fwd-many, fwd-map, fwd-u16, guard-value, many-length, map-value, u16-value}
use Rattle.wire.proofs.Preorders.{fwd-trees}
use Rattle.wire.proofs.Bounds.{offset_in, within-counted}
use Rattle.pack.specs.declared.record.Pack.{Pack}
use Rattle.pack_rules.specs.Limits.{absent}
use Rattle.pack_rules.specs.Names.{Name}
use Rattle.pack_rules.specs.Syntax.{MachineDef, Node, Package}
use Rattle.pack_rules.specs.Forms.{expr_arity, expr_at, expr_head}
use Rattle.pack.specs.Heads.{expr_more}
use Rattle.pack_rules.specs.Read.{OneRegion, equation_in, equations_in, expr_in, machine_in, name_in, names_in, node_in, optional_in, port_in, ports_in, region_at, state_at, state_with, transition_in, type_in}
use Rattle.pack.specs.Verdict.{SectionsAt}
use Rattle.pack.proofs.TypeLaws.{fwd-type}
use Rattle.pack.proofs.ExprLaws.{expr_moves}
use Rattle.pack.proofs.Bounds.{w-machine_in}
use Rattle.machines.proofs.Reading.{machine-value, many-cut, many-end, many_more, many-over, name-number}
use Rattle.machines.proofs.ShownCounts.{node-value}

-- a counted list begins with its count
pub counted-many : {A : Type 0} (r : ℕ → Answer A) (s : List ℕ) (at : ℕ) (xs : List A) (q : ℕ) → counted r s at ≡ value xs q → (u16 s at ≡ value (length xs) (at + 2)) × (many r (length xs) (at + 2) ≡ value xs q)
unfolding counted
counted-many r s at xs q e =
    let b = bind-value (u16 s at) _ xs q e in
    let n = many-length r b.0 b.1 xs q b.3 in
    let v = u16-value s at b.0 b.1 b.2 in
    (b.2 ∙ (λ j. value (sym n j) (v.to j)), (λ j. many r (n j) (sym v.to j)) ∙ b.3)

-- things of k bytes or more
pub many-takes : {A : Type 0} (r : ℕ → Answer A) (k : ℕ) → ((at : ℕ) (x : A) (q : ℕ) → r at ≡ value x q → at + k ≤ q) → (n at : ℕ) (xs : List A) (q : ℕ) → many r n at ≡ value xs q → at + k * n ≤ q
many-takes r k h zero at [] q e = let j = many-end r at q e in omega arith
many-takes r k h zero at (x ∷ xs) q e = absurd (many-cut r at x xs q e)
many-takes r k h (suc n) at [] q e = absurd (many-over r n at q e)
many-takes r k h (suc n) at (x ∷ xs) q e =
    let a = many_more r n at x xs q e in
    let i = h at x a.0 a.1 in
    let j = many-takes r k h n a.0 xs q a.2 in
    omega (arith, mul-suc k n)

module _ (s : List ℕ) where
  pub fwd-counted : {A : Type 0} (r : ℕ → Answer A) → ((p : ℕ) → Fwd (length s) p (r p)) → (at : ℕ) → Fwd (length s) at (counted r s at)
  unfolding counted
  fwd-counted r f at = fwd-bind (length s) at (u16 s at) _ (fwd-u16 s at) (λ n p. fwd-many (length s) r f n p)

  fwd-expr : (names at : ℕ) → Fwd (length s) at (expr_at names s at)
  unfolding expr_at expr_more
  fwd-expr names at = fwd-trees expr_arity (expr_head names) (expr_moves names) s (suc (length s)) 1 at (omega arith)

-- what is read goes forward
module _ (ns : List Name) (s : List ℕ) where
  pub fwd-name : (at : ℕ) → Fwd (length s) at (name_in ns s at)
  unfolding name_in
  fwd-name at = fwd-map (length s) at _ _ (fwd-index (length ns) s at)

  fwd-optional : (at : ℕ) → Fwd (length s) at (optional_in ns s at)
  unfolding optional_in
  fwd-optional at = fwd-map (length s) at _ _ (fwd-guard (length s) at at (λ i. ltb i (length ns) || eqb i absent) (u16 s at) (fwd-u16 s at))

  pub fwd-port : (at : ℕ) → Fwd (length s) at (port_in ns s at)
  unfolding port_in type_in
  fwd-port at = fwd-bind (length s) at (name_in ns s at) _ (fwd-name at) (λ n p. fwd-map (length s) p _ _ (fwd-map (length s) p _ _ (fwd-type (length ns) s p)))

  pub fwd-expr_in : (at : ℕ) → Fwd (length s) at (expr_in ns s at)
  unfolding expr_in
  fwd-expr_in at = fwd-map (length s) at _ _ (fwd-expr s (length ns) at)

  pub fwd-equation : (at : ℕ) → Fwd (length s) at (equation_in ns s at)
  unfolding equation_in names_in
  fwd-equation at = fwd-bind (length s) at (names_in ns s at) _ (fwd-counted s (name_in ns s) fwd-name at) (λ l p. fwd-map (length s) p _ _ (fwd-expr_in p))

  fwd-equations : (at : ℕ) → Fwd (length s) at (equations_in ns s at)
  unfolding equations_in
  fwd-equations at = fwd-counted s (equation_in ns s) fwd-equation at

  fwd-transition : (at : ℕ) → Fwd (length s) at (transition_in ns s at)
  unfolding transition_in
  fwd-transition at = fwd-bind (length s) at (expr_in ns s at) _ (fwd-expr_in at) (λ g p. fwd-map (length s) p _ _ (fwd-name p))

  fwd-state : (region : ℕ → Answer OneRegion) → ((p : ℕ) → Fwd (length s) p (region p)) → (at : ℕ) → Fwd (length s) at (state_with region ns s at)
  unfolding state_with
  fwd-state region f at =
      let n = length s in
      fwd-bind n at (name_in ns s at) _ (fwd-name at) (λ x p.
      fwd-bind n p (equations_in ns s p) _ (fwd-equations p) (λ es q.
      fwd-bind n q (counted (transition_in ns s) s q) _ (fwd-counted s (transition_in ns s) fwd-transition q) (λ ts r.
      fwd-bind n r (counted region s r) _ (fwd-counted s region f r) (λ rs t.
      fwd-map n t _ _ (fwd-optional t)))))

  fwd-region : (levels at : ℕ) → Fwd (length s) at (region_at levels ns s at)
  unfolding region_at
  fwd-region zero at = λ x q e. let z : ◌≡◌ {A = ℕ} 0 1 = cc in absurd (omega arith)
  fwd-region (suc levels) at =
      let n = length s in
      fwd-bind n at (name_in ns s at) _ (fwd-name at) (λ i p.
      fwd-bind n p (below 2 s p) _ (fwd-below 2 s p) (λ h q.
      fwd-map n q _ _ (fwd-counted s (state_with (region_at levels ns s) ns s) (fwd-state (region_at levels ns s) (fwd-region levels)) q)))

  -- the bytes of a name, of a count with what it counts, of an optional name
  pub name-takes : (at : ℕ) (n : Name) (q : ℕ) → name_in ns s at ≡ value n q → at + 2 ≤ q
  name-takes at n q e =
      let i = name-number ns s at n q e in
      let v = u16-value s at i.i q i.is in
      let to = v.to in
      omega arith

  pub optional-takes : (at : ℕ) (o : Option Name) (q : ℕ) → optional_in ns s at ≡ value o q → at + 2 ≤ q
  unfolding optional_in
  optional-takes at o q e =
      let m = map-value _ _ o q e in
      let g = guard-value _ at (u16 s at) m.0 q m.1 in
      let v = u16-value s at m.0 q g.0 in
      let to = v.to in
      omega arith

  pub counted-takes : {A : Type 0} (r : ℕ → Answer A) → ((p : ℕ) → Fwd (length s) p (r p)) → (at : ℕ) (xs : List A) (q : ℕ) → counted r s at ≡ value xs q → at + 2 ≤ q
  counted-takes r f at xs q e = (fwd-many (length s) r f (length xs) (at + 2) xs q (counted-many r s at xs q e).1).on

  node-takes : (at : ℕ) (x : Node) (q : ℕ) → node_in ns s at ≡ value x q → at + 11 ≤ q
  unfolding ports_in equations_in below
  node-takes at x q e =
      let r = node-value ns s at x q e in
      let a = name-takes at x.name r.to-kind r.name in
      let g = guard-value _ r.to-kind (byte s r.to-kind) r.kind r.to-inputs r.byte in
      let b = (byte-value s r.to-kind r.kind r.to-inputs g.0).to in
      let c = counted-takes (port_in ns s) fwd-port r.to-inputs x.inputs r.to-outputs r.inputs in
      let d = counted-takes (port_in ns s) fwd-port r.to-outputs x.outputs r.to-locals r.outputs in
      let f = counted-takes (port_in ns s) fwd-port r.to-locals x.locals r.to-equations r.locals in
      let h = counted-takes (equation_in ns s) fwd-equation r.to-equations x.equations q r.equations in
      omega arith

  machine-takes : (at : ℕ) (x : MachineDef) (q : ℕ) → machine_in ns s at ≡ value x q → at + 14 ≤ q
  unfolding ports_in state_at
  machine-takes at x q e =
      let r = machine-value ns s at x q e in
      let a = name-takes at x.name r.to-owner r.name in
      let b = optional-takes r.to-owner x.owner r.to-inputs r.owner in
      let c = counted-takes (port_in ns s) fwd-port r.to-inputs x.inputs r.to-outputs r.inputs in
      let d = counted-takes (port_in ns s) fwd-port r.to-outputs x.outputs r.to-locals r.outputs in
      let f = counted-takes (port_in ns s) fwd-port r.to-locals x.locals r.to-initial r.locals in
      let h = name-takes r.to-initial x.initial r.head.to-states r.head.initial in
      let i = (u16-value s r.head.to-states r.k r.b r.head.states).to in
      let j = (fwd-many (length s) (state_at ns s) (fwd-state (region_at _ ns s) (fwd-region _)) r.k r.b r.xs q r.inside).on in
      omega arith

  list-takes : {A : Type 0} (r : ℕ → Answer A) (k : ℕ) → ((at : ℕ) (x : A) (q : ℕ) → r at ≡ value x q → at + k ≤ q) → (at : ℕ) (xs : List A) (q : ℕ) → counted r s at ≡ value xs q → at + k * length xs ≤ q
  list-takes r k h at xs q e =
      let j = many-takes r k h (length xs) (at + 2) xs q (counted-many r s at xs q e).1 in
      omega arith

-- THE LAW: the nodes and machines of a pack are few
pub pack-counts : (s : List ℕ) (k : Pack) (p : Package) → SectionsAt s k p → 11 * length p.nodes + 14 * length p.machines ≤ length s
unfolding offset_in
pack-counts s k p h =
    let a = list-takes p.names s (node_in p.names s) 11 (node-takes p.names s) k.nodes p.nodes k.machines h.nodes in
    let b = list-takes p.names s (machine_in p.names s) 14 (machine-takes p.names s) k.machines p.machines k.activations h.machines in
    let i = (u16-value s k.machines _ _ (counted-many (machine_in p.names s) s k.machines p.machines k.activations h.machines).0).inside in
    let w : offset_in (counted (machine_in p.names s) s k.machines) ≤ length s = within-counted s (machine_in p.names s) (w-machine_in p.names s) k.machines (omega arith) in
    let c : k.activations ≤ length s = subst (λ y. offset_in y ≤ length s) h.machines w in
    omega arith
