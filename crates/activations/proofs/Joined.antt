-- Activations lowered one after the other are what each brings to its owner, node by node.
use Prim.Native.Nat.{ℕ, suc, ◌+◌, ◌≤◌}
use native.Mathlib.Omega.{arith}
use mathlib.Core.List.{List, [], ◌∷◌, ◌++◌, append_assoc, append-nil}
use mathlib.Core.Bool.{Bool, true, false, cond}
use mathlib.Core.Option.{Option, none, some}
use mathlib.Core.Path.{◌≡◌, refl, sym, ap, subst, ◌∙◌}
use lib.Dec.{eqb}
use borrow.Author.Tests.{eq-eqb, ne_eqb}
use Rattle.pack_rules.specs.Names.{Name, eq_name}
use Rattle.pack_rules.specs.Legal.{place}
use Rattle.pack_rules.specs.Syntax.{Activation, Enum, Node, Package}
use Rattle.machine_rules.specs.Machines.{Progress, add_refusal, extend, extend_in, node_named, start}
use Rattle.machines.specs.Sections.{node_names}
use Rattle.activation_rules.specs.Lower.{Lowered, lowered, make, refuse}
use Rattle.activation_rules.specs.Activations.{activate_each, add_activation, made_activations, owned}
use Rattle.activations.specs.Joining.{added, each_at, fate_in, joined, joins, node_of, origin_in, origins_of, owner_of, refusal_in, refusals_of}

-- names stay
added-name : (l : Lowered) (n : Node) → (added l n).name ≡ n.name
unfolding added extend
added-name (refuse r) n = refl
added-name (make ls es) n = refl

joins-name : (es : List Enum) (nodes : List Name) (k : ℕ) (A : Activation) (n : Node) → (joins es nodes k A n).name ≡ n.name
unfolding joins
joins-name es nodes k A n = go (eqb (place nodes A.owner) k)
  where
    go : (b : Bool) → (cond b (added (lowered es A n) n) n).name ≡ n.name
    go true = added-name (lowered es A n) n
    go false = refl

pub joined-name : (es : List Enum) (nodes : List Name) (k : ℕ) (As : List Activation) (n : Node) → (joined es nodes k As n).name ≡ n.name
unfolding joined
joined-name es nodes k [] n = refl
joined-name es nodes k (A ∷ As) n = joined-name es nodes k As (joins es nodes k A n) ∙ joins-name es nodes k A n

pub joined_snoc : (es : List Enum) (nodes : List Name) (k : ℕ) (As : List Activation) (A : Activation) (n : Node) → joined es nodes k (As ++ (A ∷ [])) n ≡ joins es nodes k A (joined es nodes k As n)
unfolding joined
joined_snoc es nodes k [] A n = refl
joined_snoc es nodes k (B ∷ As) A n = joined_snoc es nodes k As A (joins es nodes k B n)

-- nodes by their place
pub each_same : (f g : ℕ → Node → Node) (k : ℕ) (ns : List Node) → ((j : ℕ) (n : Node) → k ≤ j → f j n ≡ g j n) → each_at f k ns ≡ each_at g k ns
unfolding each_at
each_same f g k [] h = refl
each_same f g k (n ∷ ns) h = λ i. h k n (omega arith) i ∷ each_same f g (suc k) ns (λ j m l. h j m (omega arith)) i

-- a module with what keeps names
module _ (f : ℕ → Node → Node) (keeps : (k : ℕ) (n : Node) → (f k n).name ≡ n.name) (o : Name) where
  pub named-each : (t : ℕ) (ns : List Node) → node_named o (each_at f t ns) ≡ node_of (f (t + place (node_names ns) o)) ns (place (node_names ns) o)
  unfolding node_named each_at node_names place node_of
  named-each t [] = refl
  named-each t (n ∷ ns) = ap (λ x. cond (eq_name x o) (some (f t n)) (node_named o (each_at f (suc t) ns))) (keeps t n) ∙ go (eq_name n.name o) (named-each (suc t) ns)
    where
      go : (b : Bool) → node_named o (each_at f (suc t) ns) ≡ node_of (f (suc t + place (node_names ns) o)) ns (place (node_names ns) o)
          → cond b (some (f t n)) (node_named o (each_at f (suc t) ns)) ≡ node_of (f (t + cond b 0 (suc (place (node_names ns) o)))) (n ∷ ns) (cond b 0 (suc (place (node_names ns) o)))
      go true ih = let e : t ≡ t + 0 = omega arith in ap (λ j. some (f j n)) e
      go false ih = let e : suc t + place (node_names ns) o ≡ t + suc (place (node_names ns) o) = omega arith in ih ∙ ap (λ j. node_of (f j) ns (place (node_names ns) o)) e

-- the nodes with what was made of an activation in the first of the owner's name
unfoldable stepped : Name → Lowered → List Node → List Node
stepped o (refuse r) ns = ns
stepped o (make ls es) ns = extend_in o ls es ns

unfoldable stepped_in : List Enum → Activation → Option Node → List Node → List Node
stepped_in es A none ns = ns
stepped_in es A (some n) ns = stepped A.owner (lowered es A n) ns

-- at the first node, and past it
stepped-here : (o : Name) (l : Lowered) (n : Node) (ns : List Node) → eq_name n.name o ≡ true → stepped o l (n ∷ ns) ≡ added l n ∷ ns
unfolding stepped added extend_in
stepped-here o (refuse r) n ns e = refl
stepped-here o (make ls es) n ns e = rw e

stepped-past : (o : Name) (l : Lowered) (n : Node) (ns : List Node) → eq_name n.name o ≡ false → stepped o l (n ∷ ns) ≡ n ∷ stepped o l ns
unfolding stepped extend_in
stepped-past o (refuse r) n ns e = refl
stepped-past o (make ls es) n ns e = rw e

past-in : (es : List Enum) (A : Activation) (x : Option Node) (n : Node) (ns : List Node) → eq_name n.name A.owner ≡ false → stepped_in es A x (n ∷ ns) ≡ n ∷ stepped_in es A x ns
unfolding stepped_in
past-in es A none n ns e = refl
past-in es A (some m) n ns e = stepped-past A.owner (lowered es A m) n ns e

module _ (es : List Enum) (A : Activation) (f : ℕ → Node → Node) (keeps : (k : ℕ) (n : Node) → (f k n).name ≡ n.name) where
  -- the node of the place k, where the owner's is p
  unfoldable at_place : ℕ → ℕ → Node → Node
  at_place p k n = cond (eqb p k) (added (lowered es A (f k n)) (f k n)) (f k n)

  place_here : (p k : ℕ) (n : Node) → p ≡ k → at_place p k n ≡ added (lowered es A (f k n)) (f k n)
  unfolding at_place
  place_here p k n e = rw (eq-eqb p k e)

  place_other : (p k : ℕ) (n : Node) → (p ≡ k → ⊥) → at_place p k n ≡ f k n
  unfolding at_place
  place_other p k n e = rw (ne_eqb p k e)

  step-nodes : (t : ℕ) (ns : List Node) → stepped_in es A (node_named A.owner (each_at f t ns)) (each_at f t ns) ≡ each_at (at_place (t + place (node_names ns) A.owner)) t ns
  unfolding stepped_in each_at node_named node_names place
  step-nodes t [] = refl
  step-nodes t (n ∷ ns) = go (eq_name (f t n).name A.owner) refl (eq_name n.name A.owner) (ap (λ x. eq_name x A.owner) (keeps t n)) (step-nodes (suc t) ns)
    where
      R : List Node
      R = each_at f (suc t) ns

      p : ℕ
      p = place (node_names ns) A.owner

      go : (b : Bool) → eq_name (f t n).name A.owner ≡ b → (d : Bool) → eq_name (f t n).name A.owner ≡ d
          → stepped_in es A (node_named A.owner R) R ≡ each_at (at_place (suc t + p)) (suc t) ns
          → stepped_in es A (cond b (some (f t n)) (node_named A.owner R)) (f t n ∷ R) ≡ at_place (t + cond d 0 (suc p)) t n ∷ each_at (at_place (t + cond d 0 (suc p))) (suc t) ns
      go true e true g ih =
          stepped-here A.owner (lowered es A (f t n)) (f t n) R e
          ∙ λ i. sym (place_here (t + 0) t n (omega arith)) i ∷ each_same f (at_place (t + 0)) (suc t) ns (λ j m l. sym (place_other (t + 0) j m (λ h. omega arith))) i
      go true e false g ih = absurd (let z : ◌≡◌ {A = ℕ} 0 1 = ap (λ y. cond y 0 1) (sym e ∙ g) in omega arith)
      go false e true g ih = absurd (let z : ◌≡◌ {A = ℕ} 1 0 = ap (λ y. cond y 0 1) (sym e ∙ g) in omega arith)
      go false e false g ih =
          past-in es A (node_named A.owner R) (f t n) R e
          ∙ let q : suc t + p ≡ t + suc p = omega arith in λ i. sym (place_other (t + suc p) t n (λ h. omega arith)) i ∷ (ih ∙ ap (λ j. each_at (at_place j) (suc t) ns) q) i

-- what one activation makes of what has been made so far, by its fate x in the owner o
record Taken (es : List Enum) (A : Activation) (o : Option Node) (k l : Progress) : Type 0 where
  enums : l.enums ≡ k.enums
  nodes : l.nodes ≡ stepped_in es A o k.nodes
  origins : l.origins ≡ k.origins ++ origin_in A (fate_in es A o) o
  refusals : l.refusals ≡ k.refusals ++ refusal_in (fate_in es A o)

taken-into : (es : List Enum) (A : Activation) (n : Node) (k : Progress) (l : Lowered) → lowered es A n ≡ l → Taken es A (some n) k (add_activation A n l k)
unfolding add_activation add_refusal stepped_in stepped fate_in origin_in refusal_in
taken-into es A n k (refuse r) e =
    record {
      enums = refl;
      nodes = ap (λ l. stepped A.owner l k.nodes) (sym e);
      origins = sym (append-nil k.origins) ∙ ap (λ l. k.origins ++ origin_in A l (some n)) (sym e);
      refusals = ap (λ l. k.refusals ++ refusal_in l) (sym e);
    }
taken-into es A n k (make ls qs) e =
    record {
      enums = refl;
      nodes = ap (λ l. stepped A.owner l k.nodes) (sym e);
      origins = ap (λ l. k.origins ++ origin_in A l (some n)) (sym e);
      refusals = sym (append-nil k.refusals) ∙ ap (λ l. k.refusals ++ refusal_in l) (sym e);
    }

taken : (es : List Enum) (A : Activation) (k : Progress) → k.enums ≡ es → (o : Option Node) → Taken es A o k (owned A o k)
unfolding owned add_refusal stepped_in fate_in origin_in refusal_in
taken es A k e none = record { enums = refl; nodes = refl; origins = sym (append-nil k.origins); refusals = refl }
taken es A k e (some n) = subst (λ (x : List Enum). Taken es A (some n) k (add_activation A n (lowered x A n) k)) (sym e) (taken-into es A n k (lowered es A n) refl)

-- what all make of it
record AllTaken (es : List Enum) (ns : List Node) (before As : List Activation) (k l : Progress) : Type 0 where
  enums : l.enums ≡ es
  nodes : l.nodes ≡ each_at (λ j. joined es (node_names ns) j (before ++ As)) 0 ns
  origins : l.origins ≡ k.origins ++ origins_of es ns before As
  refusals : l.refusals ≡ k.refusals ++ refusals_of es ns before As

module _ (es : List Enum) (ns : List Node) where
  unfoldable so_far : List Activation → ℕ → Node → Node
  so_far before j n = joined es (node_names ns) j before n

  -- the owner is found among the nodes made so far
  found-owner : (before : List Activation) (A : Activation) → node_named A.owner (each_at (so_far before) 0 ns) ≡ owner_of es ns before A
  unfolding owner_of so_far
  found-owner before A =
      let z : 0 + place (node_names ns) A.owner ≡ place (node_names ns) A.owner = omega arith in
      named-each (so_far before) (λ k n. joined-name es (node_names ns) k before n) A.owner 0 ns
      ∙ ap (λ (j : ℕ). node_of (joined es (node_names ns) j before) ns (place (node_names ns) A.owner)) z

  -- the nodes after one activation more
  one_more : (before : List Activation) (A : Activation) → stepped_in es A (owner_of es ns before A) (each_at (so_far before) 0 ns) ≡ each_at (so_far (before ++ (A ∷ []))) 0 ns
  unfolding so_far at_place joins
  one_more before A =
      let z : 0 + place (node_names ns) A.owner ≡ place (node_names ns) A.owner = omega arith in
      ap (λ x. stepped_in es A x (each_at (so_far before) 0 ns)) (sym (found-owner before A))
      ∙ step-nodes es A (so_far before) (λ k n. joined-name es (node_names ns) k before n) 0 ns
      ∙ ap (λ (j : ℕ). each_at (at_place es A (so_far before) (λ k n. joined-name es (node_names ns) k before n) j) 0 ns) z
      ∙ each_same _ (so_far (before ++ (A ∷ []))) 0 ns (λ j n l. sym (joined_snoc es (node_names ns) j before A n))

  all-taken : (before As : List Activation) (k : Progress) → k.enums ≡ es → k.nodes ≡ each_at (so_far before) 0 ns → AllTaken es ns before As k (activate_each As k)
  unfolding activate_each origins_of refusals_of so_far
  all-taken before [] k e d =
      record {
        enums = e;
        nodes = d ∙ ap (λ (As : List Activation). each_at (λ j. joined es (node_names ns) j As) 0 ns) (sym (append-nil before));
        origins = sym (append-nil k.origins);
        refusals = sym (append-nil k.refusals);
      }
  all-taken before (A ∷ As) k e d =
      let o : node_named A.owner k.nodes ≡ owner_of es ns before A = ap (node_named A.owner) d ∙ found-owner before A in
      let t : Taken es A (owner_of es ns before A) k (owned A (node_named A.owner k.nodes) k) = subst (λ (x : Option Node). Taken es A x k (owned A (node_named A.owner k.nodes) k)) o (taken es A k e (node_named A.owner k.nodes)) in
      let l : Progress = owned A (node_named A.owner k.nodes) k in
      let r : AllTaken es ns (before ++ (A ∷ [])) As l (activate_each As l) = all-taken (before ++ (A ∷ [])) As l (t.enums ∙ e) (t.nodes ∙ ap (stepped_in es A (owner_of es ns before A)) d ∙ one_more before A) in
      record {
        enums = r.enums;
        nodes = r.nodes ∙ ap (λ (Bs : List Activation). each_at (λ j. joined es (node_names ns) j Bs) 0 ns) (append_assoc before (A ∷ []) As);
        origins = r.origins ∙ ap (λ y. y ++ origins_of es ns (before ++ (A ∷ [])) As) t.origins ∙ append_assoc k.origins _ _;
        refusals = r.refusals ∙ ap (λ y. y ++ refusals_of es ns (before ++ (A ∷ [])) As) t.refusals ∙ append_assoc k.refusals _ _;
      }

each_none : (es : List Enum) (nodes : List Name) (t : ℕ) (ns : List Node) → ns ≡ each_at (λ j. joined es nodes j []) t ns
unfolding each_at joined
each_none es nodes t [] = refl
each_none es nodes t (n ∷ ns) = ap (λ l. n ∷ l) (each_none es nodes (suc t) ns)

-- THE LAW: the nodes, origins and refusals of a package's activations, each from what comes before it
module _ (p : Package) where
  whole : AllTaken p.enums p.nodes [] p.activations (start p) (made_activations p)
  unfolding made_activations so_far start
  whole = all-taken p.enums p.nodes [] p.activations (start p) refl (each_none p.enums (node_names p.nodes) 0 p.nodes)

  pub activations-enums : (made_activations p).enums ≡ p.enums
  activations-enums = whole.enums

  pub activations-nodes : (made_activations p).nodes ≡ each_at (λ j. joined p.enums (node_names p.nodes) j p.activations) 0 p.nodes
  activations-nodes = whole.nodes

  pub activations-origins : (made_activations p).origins ≡ p.origins ++ origins_of p.enums p.nodes [] p.activations
  unfolding start
  activations-origins = whole.origins

  pub activations-refusals : (made_activations p).refusals ≡ refusals_of p.enums p.nodes [] p.activations
  unfolding start
  activations-refusals = whole.refusals
