-- Where the equations of a package's activations stand in the result.
use mathlib.Core.List.{List, [], ◌∷◌, ◌++◌, append-nil}
use mathlib.Core.Bool.{Bool, true, false, cond}
use mathlib.Core.Option.{Option, none, some}
use mathlib.Core.Path.{◌≡◌, refl, sym, ap, subst, ◌∙◌}
use Rattle.pack_rules.specs.Report.{Refusal}
use Rattle.pack_rules.specs.Syntax.{Activation, Enum, Equation, Node, Package, Port, of_activation}
use Rattle.machine_rules.specs.Machines.{Progress, node_named, origin_of, start}
use Rattle.activation_rules.specs.Activations.{activate_each, activations_lowered, add_activation, made_activations, owned}
use Rattle.activation_rules.specs.Checks.{branch_names, checks, else_name}
use Rattle.activation_rules.specs.EmptyLeft.{has_empty_left}
use Rattle.activation_rules.specs.Holders.{Holding, holders_made, make_holders, refused}
use Rattle.activation_rules.specs.Lower.{Lowered, act_equations, act_locals, lowered, make, makes, refuse, unless, with_holders}
use Rattle.activation_rules.specs.Refusals.{empty_left, unknown_owner}
use Rattle.activation_rules.specs.Sought.{expressions, found}
use Rattle.activation_rules.specs.Types.{sample_type, value_type, variables}
use Rattle.activations.proofs.Joined.{activations-enums}
use Rattle.runs.specs.Claim.{may_read}
use Rattle.runs.specs.Placement.{Block, activations_before}
use Rattle.runs.proofs.Growing.{Grows, grown-extend, grows-further, grows-refusing, grows_same, refusing-not, unrefused}
use Rattle.runs.proofs.MachinesStand.{block}

-- what an activation of the node `n` has passed: the checks, its holders' locals and equations, and that each scope equation has a left name
pub record Lowering (es : List Enum) (A : Activation) (n : Node) : Type 0 where
  pub unrefused : checks A ≡ none
  pub ports : List Port
  pub holders : List Equation
  pub holding : make_holders es A.name (variables n) A.outputs (found (expressions A) []) ≡ holders_made ports holders
  pub lefts : has_empty_left A ≡ false

unfoldable pub locals_by : Activation → Node → List Port → List Port
locals_by A n ps = act_locals (sample_type (variables n ++ ps) A.outputs) (value_type (variables n ++ ps) A.outputs) A ps (may_read A n ps)

is-lowered : {es : List Enum} {A : Activation} {n : Node} (s : Lowering es A n) → lowered es A n ≡ make (locals_by A n s.ports) (act_equations A s.holders (may_read A n s.ports))
unfolding lowered unless with_holders makes locals_by may_read
is-lowered {es} {A} {n} s = rw (s.unrefused, s.holding, s.lefts)

lowering : (es : List Enum) (A : Activation) (n : Node) (k : Progress) → (add_activation A n (lowered es A n) k).refusals ≡ [] → Lowering es A n
unfolding lowered unless with_holders add_activation
lowering es A n k e = go (checks A) refl e
  where
    third : (ps : List Port) (hs : List Equation) → checks A ≡ none → make_holders es A.name (variables n) A.outputs (found (expressions A) []) ≡ holders_made ps hs → (b : Bool) → has_empty_left A ≡ b
        → (add_activation A n (cond b (refuse (empty_left A.name)) (makes A (variables n ++ ps) ps hs)) k).refusals ≡ [] → Lowering es A n
    third ps hs c q true l h = absurd (refusing-not (empty_left A.name) k h)
    third ps hs c q false l h = record { unrefused = c; ports = ps; holders = hs; holding = q; lefts = l }

    second : checks A ≡ none → (w : Holding) → make_holders es A.name (variables n) A.outputs (found (expressions A) []) ≡ w → (add_activation A n (with_holders A (variables n) w) k).refusals ≡ [] → Lowering es A n
    second c (refused r) q h = absurd (refusing-not r k h)
    second c (holders_made ps hs) q h = third ps hs c q (has_empty_left A) refl h

    go : (r : Option Refusal) → checks A ≡ r → (add_activation A n (unless r (with_holders A (variables n) (make_holders es A.name (variables n) A.outputs (found (expressions A) [])))) k).refusals ≡ [] → Lowering es A n
    go none c h = second c (make_holders es A.name (variables n) A.outputs (found (expressions A) [])) refl h
    go (some r) c h = absurd (refusing-not r k h)

-- each step adds
grows-into : (A : Activation) (n : Node) (l : Lowered) (k : Progress) → Grows k (add_activation A n l k)
unfolding add_activation
grows-into A n (refuse r) k = grows-refusing r k
grows-into A n (make ls es) k = record {
  nodes = grown-extend A.owner ls es k.nodes;
  origins = (origin_of of_activation A.name (branch_names A.branches ++ (else_name ∷ [])) es n ∷ [], refl);
  refusals = ([], sym (append-nil k.refusals));
}

grows-owned : (A : Activation) (n : Option Node) (k : Progress) → Grows k (owned A n k)
unfolding owned
grows-owned A none k = grows-refusing (unknown_owner A.name A.owner) k
grows-owned A (some n) k = grows-into A n (lowered k.enums A n) k

grows-each : (As : List Activation) (k : Progress) → Grows k (activate_each As k)
unfolding activate_each
grows-each [] k = grows_same k
grows-each (A ∷ As) k =
    grows-further k (owned A (node_named A.owner k.nodes) k) (activate_each As (owned A (node_named A.owner k.nodes) k))
    (grows-owned A (node_named A.owner k.nodes) k) (grows-each As (owned A (node_named A.owner k.nodes) k))

-- all activations of a package only add to it
pub acts-grow : (p : Package) → Grows (start p) (made_activations p)
unfolding made_activations
acts-grow p = grows-each p.activations (start p)

each_append : (pre As : List Activation) (k : Progress) → activate_each (pre ++ As) k ≡ activate_each As (activate_each pre k)
unfolding activate_each
each_append [] As k = refl
each_append (A ∷ pre) As k = each_append pre As (owned A (node_named A.owner k.nodes) k)

-- the enums stay those of the package
same-enums : (p : Package) (pre : List Activation) → (activate_each pre (start p)).enums ≡ p.enums
unfolding made_activations start
same-enums p pre = activations-enums (record { names = p.names; enums = p.enums; nodes = p.nodes; machines = p.machines; activations = pre; origins = p.origins })

-- the activation `A`, which follows `pre`: its owner as it was then, and where its equations stand in the result
pub record ActWritten (p : Package) (pre : List Activation) (A : Activation) : Type 0 where
  pub owner : Node
  pub owns : node_named A.owner (activations_before p pre).nodes ≡ some owner
  pub pass : Lowering p.enums A owner
  pub place : Block of_activation A.name A.owner (branch_names A.branches ++ (else_name ∷ [])) (act_equations A pass.holders (may_read A owner pass.ports)) (activations_before p pre)
      (activations_lowered p (made_activations p)).nodes (activations_lowered p (made_activations p)).origins

act-block : (A : Activation) (n : Node) (k l : Progress) (s : Lowering k.enums A n) → node_named A.owner k.nodes ≡ some n → Grows (add_activation A n (make (locals_by A n s.ports) (act_equations A s.holders (may_read A n s.ports))) k) l
    → Block of_activation A.name A.owner (branch_names A.branches ++ (else_name ∷ [])) (act_equations A s.holders (may_read A n s.ports)) k l.nodes l.origins
unfolding add_activation
act-block A n k l s e g =
    block of_activation A.name A.owner (branch_names A.branches ++ (else_name ∷ [])) (locals_by A n s.ports) (act_equations A s.holders (may_read A n s.ports))
    k (add_activation A n (make (locals_by A n s.ports) (act_equations A s.holders (may_read A n s.ports))) k) l n e refl refl g

record OwnerOf (A : Activation) (k : Progress) : Type 0 where
  node : Node
  here : node_named A.owner k.nodes ≡ some node

owner_of_lem : (A : Activation) (k : Progress) → (owned A (node_named A.owner k.nodes) k).refusals ≡ [] → OwnerOf A k
unfolding owned
owner_of_lem A k h = go (node_named A.owner k.nodes) refl h
  where
    go : (x : Option Node) → node_named A.owner k.nodes ≡ x → (owned A x k).refusals ≡ [] → OwnerOf A k
    go none e q = absurd (refusing-not (unknown_owner A.name A.owner) k q)
    go (some n) e q = record { node = n; here = e }

held-as : (es fs : List Enum) (A : Activation) (n : Node) → es ≡ fs → (s : Lowering es A n) → make_holders fs A.name (variables n) A.outputs (found (expressions A) []) ≡ holders_made s.ports s.holders
held-as es fs A n e s = ap (λ (x : List Enum). make_holders x A.name (variables n) A.outputs (found (expressions A) [])) (sym e) ∙ s.holding

module _ (p : Package) (pre : List Activation) (A : Activation) where
  written_at : (k end : Progress) → k ≡ activations_before p pre → k.enums ≡ p.enums → end ≡ made_activations p → (n : Node) → node_named A.owner k.nodes ≡ some n → (add_activation A n (lowered k.enums A n) k).refusals ≡ [] → Grows (add_activation A n (lowered k.enums A n) k) end → ActWritten p pre A
  unfolding activations_lowered
  written_at k end ek en ee n o h g =
      let s : Lowering k.enums A n = lowering k.enums A n k h in
      record {
        owner = n;
        owns = subst (λ (x : Progress). node_named A.owner x.nodes ≡ some n) ek o;
        pass = record { unrefused = s.unrefused; ports = s.ports; holders = s.holders; holding = held-as k.enums p.enums A n en s; lefts = s.lefts };
        place =
            subst (λ (x : Progress). Block of_activation A.name A.owner (branch_names A.branches ++ (else_name ∷ [])) (act_equations A s.holders (may_read A n s.ports)) x (made_activations p).nodes (made_activations p).origins) ek
            (subst (λ (x : Progress). Block of_activation A.name A.owner (branch_names A.branches ++ (else_name ∷ [])) (act_equations A s.holders (may_read A n s.ports)) k x.nodes x.origins) ee
            (act-block A n k end s o (subst (λ (x : Lowered). Grows (add_activation A n x k) end) (is-lowered s) g)));
      }

  owned_at : (k end : Progress) → k ≡ activations_before p pre → k.enums ≡ p.enums → end ≡ made_activations p → Grows (owned A (node_named A.owner k.nodes) k) end → end.refusals ≡ [] → ActWritten p pre A
  unfolding owned
  owned_at k end ek en ee g none-refused =
      let here = unrefused (owned A (node_named A.owner k.nodes) k) end g none-refused in
      let o : OwnerOf A k = owner_of_lem A k here in
      written_at k end ek en ee o.node o.here (subst (λ (x : Option Node). (owned A x k).refusals ≡ []) o.here here) (subst (λ (x : Option Node). Grows (owned A x k) end) o.here g)

pub act-written : (p : Package) → (made_activations p).refusals ≡ [] → (pre : List Activation) (A : Activation) (post : List Activation) → p.activations ≡ pre ++ (A ∷ post) → ActWritten p pre A
unfolding made_activations activations_before activate_each start
act-written p none-refused pre A post e =
    let k : Progress = activate_each pre (start p) in
    let k₁ : Progress = owned A (node_named A.owner k.nodes) k in
    let whole : activate_each p.activations (start p) ≡ activate_each post k₁ = ap (λ (x : List Activation). activate_each x (start p)) e ∙ each_append pre (A ∷ post) (start p) in
    owned_at p pre A k (activate_each p.activations (start p)) refl (same-enums p pre) refl (subst (λ (x : Progress). Grows k₁ x) (sym whole) (grows-each post k₁)) none-refused
