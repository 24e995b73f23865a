-- What reading an activation, a branch, an equation says, part by part, and where the code finds the parts.
use Prim.Native.Nat.{ℕ, zero, suc, ◌<◌, ◌≤◌}
use mathlib.Core.List.{List, [], ◌∷◌}
use mathlib.Core.Path.{◌≡◌, sym, ap, subst, ◌∙◌}
use lib.ListN.{length}
use Rattle.wire.specs.Answer.{Answer, counted, index, many, map_a, u16, value}
use Rattle.wire.proofs.Answers.{bind-value, fwd-bind, fwd-index, fwd-many, fwd-map, fwd-u16, many-length, map-value}
use Rattle.pack_rules.specs.Names.{Name}
use Rattle.pack_rules.specs.Syntax.{Activation, Branch, Equation}
use Rattle.pack_rules.specs.Forms.{name_at}
use Rattle.pack_rules.specs.Read.{activation_in, branch_in, equation_in, equations_in, expr_in, name_in, names_in, ports_in}
use Rattle.machines.specs.ResolvedIn.{end_of}
use Rattle.machines.specs.CheckedReads.{num, number_in}
use Rattle.machines.proofs.Reading.{many-cut, many-end, many_more, many-over, name-number}
use Rattle.machines.proofs.CheckedReadLaws.{end-to, number-num, number-to}
use Rattle.activations.specs.declared.parts.Act.{Act}
use Rattle.activations.specs.Places.{act_at, act_end, act_of, along, body_in, branch_end, branches_end, equation_end, right_side_in}

-- an equation: left names, then the right side
pub record EquationRead (ns : List Name) (s : List ℕ) (at : ℕ) (x : Equation) (q : ℕ) : Type 0 where
  pub to-rhs : ℕ
  pub lhs : names_in ns s at ≡ value x.lhs to-rhs
  pub rhs : expr_in ns s to-rhs ≡ value x.rhs q

-- a branch: name, condition, equations
pub record BranchRead (ns : List Name) (s : List ℕ) (at : ℕ) (x : Branch) (q : ℕ) : Type 0 where
  pub to-condition : ℕ
  pub to-equations : ℕ
  pub name : name_in ns s at ≡ value x.name to-condition
  pub condition : expr_in ns s to-condition ≡ value x.condition to-equations
  pub equations : equations_in ns s to-equations ≡ value x.equations q

-- an activation: name, owner, outputs, k branches from b on, the equations of else
pub record ActivationRead (ns : List Name) (s : List ℕ) (at : ℕ) (x : Activation) (q : ℕ) : Type 0 where
  pub to-owner : ℕ
  pub to-outputs : ℕ
  pub to-branches : ℕ
  pub to-else : ℕ
  pub b : ℕ
  pub name : name_in ns s at ≡ value x.name to-owner
  pub owner : name_in ns s to-owner ≡ value x.owner to-outputs
  pub outputs : ports_in ns s to-outputs ≡ value x.outputs to-branches
  pub count : u16 s to-branches ≡ value (length x.branches) b
  pub branches : many (branch_in ns s) (length x.branches) b ≡ value x.branches to-else
  pub else_equations : equations_in ns s to-else ≡ value x.else_equations q

-- a list after its count
pub counted-value : {A : Type 0} (r : ℕ → Answer A) (s : List ℕ) (at : ℕ) (xs : List A) (q : ℕ) → counted r s at ≡ value xs q → (b : ℕ) × (u16 s at ≡ value (length xs) b) × (many r (length xs) b ≡ value xs q)
unfolding counted
counted-value r s at xs q e =
    let a = bind-value (u16 s at) _ xs q e in
    let l = sym (many-length r a.0 a.1 xs q a.3) in
    (a.1, a.2 ∙ ap (λ y. value y a.1) l, ap (λ y. many r y a.1) (sym l) ∙ a.3)

module _ (ns : List Name) (s : List ℕ) where
  -- names go forward
  pub names-move : (at : ℕ) (xs : List Name) (q : ℕ) → names_in ns s at ≡ value xs q → at ≤ q
  unfolding names_in counted name_in
  names-move at xs q e = (fwd-bind (length s) at (u16 s at) _ (fwd-u16 s at) (λ n p. fwd-many (length s) (λ y. map_a (name_at ns) (index (length ns) s y)) (λ y. fwd-map (length s) y _ _ (fwd-index (length ns) s y)) n p) xs q e).on

  pub equation-value : (at : ℕ) (x : Equation) (q : ℕ) → equation_in ns s at ≡ value x q → EquationRead ns s at x q
  unfolding equation_in
  equation-value at x q e =
      let a = bind-value (names_in ns s at) _ x q e in
      let g = map-value _ (expr_in ns s a.1) x q a.3 in
      subst (λ y. EquationRead ns s at y q) g.2 (record { to-rhs = a.1; lhs = a.2; rhs = g.1 })

  pub branch-value : (at : ℕ) (x : Branch) (q : ℕ) → branch_in ns s at ≡ value x q → BranchRead ns s at x q
  unfolding branch_in
  branch-value at x q e =
      let a = bind-value (name_in ns s at) _ x q e in
      let c = bind-value (expr_in ns s a.1) _ x q a.3 in
      let g = map-value _ (equations_in ns s c.1) x q c.3 in
      subst (λ y. BranchRead ns s at y q) g.2 (record { to-condition = a.1; to-equations = c.1; name = a.2; condition = c.2; equations = g.1 })

  pub activation-value : (at : ℕ) (x : Activation) (q : ℕ) → activation_in ns s at ≡ value x q → ActivationRead ns s at x q
  unfolding activation_in
  activation-value at x q e =
      let a = bind-value (name_in ns s at) _ x q e in
      let o = bind-value (name_in ns s a.1) _ x q a.3 in
      let p = bind-value (ports_in ns s o.1) _ x q o.3 in
      let c = bind-value (counted (branch_in ns s) s p.1) _ x q p.3 in
      let g = map-value _ (equations_in ns s c.1) x q c.3 in
      let k = counted-value (branch_in ns s) s p.1 c.0 c.1 c.2 in
      subst (λ y. ActivationRead ns s at y q) g.2
      (record {
        to-owner = a.1;
        to-outputs = o.1;
        to-branches = p.1;
        to-else = c.1;
        b = k.0;
        name = a.2;
        owner = o.2;
        outputs = p.2;
        count = k.1;
        branches = k.2;
        else_equations = g.1;
      })

  -- where the code finds them
  module _ (at : ℕ) (x : Equation) (q : ℕ) (r : EquationRead ns s at x q) where
    pub right-side-to : right_side_in ns s at ≡ r.to-rhs
    unfolding right_side_in
    right-side-to = end-to (names_in ns s at) x.lhs r.to-rhs r.lhs

    pub equation-end-to : equation_end ns s at ≡ q
    unfolding equation_end
    equation-end-to = ap (λ y. end_of (expr_in ns s y)) right-side-to ∙ end-to (expr_in ns s r.to-rhs) x.rhs q r.rhs

  module _ (at : ℕ) (x : Branch) (q : ℕ) (r : BranchRead ns s at x q) where
    -- the number of its name, and where its condition stands
    pub branch-number-to : (i : ℕ) × (i < length ns) × (name_at ns i ≡ x.name) × (number_in s at ≡ num i r.to-condition)
    branch-number-to = let n = name-number ns s at x.name r.to-condition r.name in (n.i, n.small, n.named, number-num s at n.i r.to-condition n.is)

    pub body-to : body_in ns s at ≡ r.to-equations
    unfolding body_in
    body-to =
        let n = name-number ns s at x.name r.to-condition r.name in
        number-to s at n.i r.to-condition _ n.is ∙ end-to (expr_in ns s r.to-condition) x.condition r.to-equations r.condition

    pub branch-end-to : branch_end ns s at ≡ q
    unfolding branch_end
    branch-end-to = ap (λ y. end_of (equations_in ns s y)) body-to ∙ end-to (equations_in ns s r.to-equations) x.equations q r.equations

  pub branches-along : (n at : ℕ) (xs : List Branch) (q : ℕ) → many (branch_in ns s) n at ≡ value xs q → along (branch_end ns s) n at ≡ q
  unfolding along
  branches-along zero at [] q e = many-end (branch_in ns s) at q e
  branches-along zero at (x ∷ xs) q e = absurd (many-cut (branch_in ns s) at x xs q e)
  branches-along (suc n) at [] q e = absurd (many-over (branch_in ns s) n at q e)
  branches-along (suc n) at (x ∷ xs) q e =
      let a = many_more (branch_in ns s) n at x xs q e in
      ap (along (branch_end ns s) n) (branch-end-to at x a.0 (branch-value at x a.0 a.1)) ∙ branches-along n a.0 xs q a.2

  module _ (at : ℕ) (x : Activation) (q : ℕ) (r : ActivationRead ns s at x q) where
    pub first-branch-to : number_in s r.to-branches ≡ num (length x.branches) r.b
    first-branch-to = number-num s r.to-branches (length x.branches) r.b r.count

    pub branches-end-to : branches_end ns s r.to-branches ≡ r.to-else
    unfolding branches_end
    branches-end-to = number-to s r.to-branches (length x.branches) r.b _ r.count ∙ branches-along (length x.branches) r.b x.branches r.to-else r.branches

    -- the activation as the code has it
    pub act-to : (i : ℕ) × (i < length ns) × (name_at ns i ≡ x.name)
        × (act_at ns s at ≡ record { name = i; outputs = r.to-outputs; branches = r.to-branches; other = r.to-else; n = length x.branches })
    unfolding act_at act_of
    act-to =
        let n = name-number ns s at x.name r.to-owner r.name in
        let o = name-number ns s r.to-owner x.owner r.to-outputs r.owner in (
          n.i,
          n.small,
          n.named,
          number-to s at n.i r.to-owner _ n.is
              ∙ number-to s r.to-owner o.i r.to-outputs _ o.is
              ∙ ap (λ y. act_of ns s n.i r.to-outputs y) (end-to (ports_in ns s r.to-outputs) x.outputs r.to-branches r.outputs)
              ∙ (λ j. record { name = n.i; outputs = r.to-outputs; branches = r.to-branches; other = branches-end-to j; n = (first-branch-to j).value }),
        )

    pub act-end-to : act_end ns s at ≡ q
    unfolding act_end
    act-end-to = ap (λ (y : Act). end_of (equations_in ns s y.other)) act-to.3 ∙ end-to (equations_in ns s r.to-else) x.else_equations q r.else_equations
