-- How many activations a pack has room for: one takes 10 bytes or more.
use Prim.Native.Nat.{ℕ, ◌+◌, ◌<◌, ◌≤◌}
use native.Mathlib.Omega.{arith}
use mathlib.Core.List.{List}
use mathlib.Core.Path.{◌≡◌}
use lib.ListN.{length}
use Rattle.wire.specs.Answer.{value}
use Rattle.wire.proofs.Answers.{Fwd, fwd-bind, fwd-many, fwd-map, u16-value}
use Rattle.pack.specs.declared.record.Pack.{Pack}
use Rattle.pack_rules.specs.Names.{Name}
use Rattle.pack_rules.specs.Syntax.{Activation, Branch, Package}
use Rattle.pack_rules.specs.Read.{activation_in, branch_in, equation_in, equations_in, expr_in, name_in, origin_in, port_in, ports_in}
use Rattle.pack.specs.Verdict.{SectionsAt}
use Rattle.machines.proofs.PackCounts.{counted-many, counted-takes, fwd-counted, fwd-equation, fwd-expr_in, fwd-name, fwd-port, many-takes, name-takes, pack-counts}
use Rattle.activations.proofs.ActRead.{activation-value, branch-value}

module _ (ns : List Name) (s : List ℕ) where
  -- what is read goes forward
  fwd-branch : (at : ℕ) → Fwd (length s) at (branch_in ns s at)
  unfolding branch_in equations_in
  fwd-branch at =
      fwd-bind (length s) at (name_in ns s at) _ (fwd-name ns s at) (λ n p.
      fwd-bind (length s) p (expr_in ns s p) _ (fwd-expr_in ns s p) (λ c q.
      fwd-map (length s) q _ _ (fwd-counted s (equation_in ns s) (fwd-equation ns s) q)))

  act-takes : (at : ℕ) (x : Activation) (q : ℕ) → activation_in ns s at ≡ value x q → at + 10 ≤ q
  unfolding ports_in equations_in
  act-takes at x q e =
      let r = activation-value ns s at x q e in
      let a = name-takes ns s at x.name r.to-owner r.name in
      let o = name-takes ns s r.to-owner x.owner r.to-outputs r.owner in
      let p = counted-takes ns s (port_in ns s) (fwd-port ns s) r.to-outputs x.outputs r.to-branches r.outputs in
      let c = (u16-value s r.to-branches (length x.branches) r.b r.count).to in
      let b = (fwd-many (length s) (branch_in ns s) fwd-branch (length x.branches) r.b x.branches r.to-else r.branches).on in
      let d = counted-takes ns s (equation_in ns s) (fwd-equation ns s) r.to-else x.else_equations q r.else_equations in
      omega arith

  branch-takes : (at : ℕ) (x : Branch) (q : ℕ) → branch_in ns s at ≡ value x q → at + 2 ≤ q
  unfolding equations_in
  branch-takes at x q e =
      let r = branch-value ns s at x q e in
      let a = name-takes ns s at x.name r.to-condition r.name in
      let b = (fwd-expr_in ns s r.to-condition x.condition r.to-equations r.condition).on in
      let c = counted-takes ns s (equation_in ns s) (fwd-equation ns s) r.to-equations x.equations q r.equations in
      omega arith

  -- THE LAW: the branches of an activation are few
  pub branches-few : (at : ℕ) (x : Activation) (q : ℕ) → activation_in ns s at ≡ value x q → length s ≤ 65536 → length x.branches < 65534
  unfolding equations_in
  branches-few at x q e short =
      let r = activation-value ns s at x q e in
      let b = many-takes (branch_in ns s) 2 branch-takes (length x.branches) r.b x.branches r.to-else r.branches in
      let c = counted-many (equation_in ns s) s r.to-else x.else_equations q r.else_equations in
      let d = (u16-value s r.to-else _ _ c.0).inside in
      omega arith

-- THE LAW: the nodes and activations of a pack are few
module _ (s : List ℕ) (k : Pack) (p : Package) (h : SectionsAt s k p) (short : length s ≤ 65536) where
  pub nodes-few : length p.nodes ≤ 5957
  nodes-few = let c = pack-counts s k p h in omega arith

  pub acts-few : length p.activations ≤ 6553
  acts-few =
      let a = counted-many (activation_in p.names s) s k.activations p.activations k.origins h.activations in
      let b = many-takes (activation_in p.names s) 10 (act-takes p.names s) (length p.activations) (k.activations + 2) p.activations k.origins a.1 in
      let c = counted-many (origin_in p.names s) s k.origins p.origins k.end h.origins in
      let d = (u16-value s k.origins _ _ c.0).inside in
      omega arith
