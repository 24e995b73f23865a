-- Lowering only adds: equations at the end of a node, nodes, origins and refusals at the end of theirs.
use Prim.Native.Nat.{◌+◌, ◌-◌}
use native.Mathlib.Omega.{arith}
use mathlib.Core.List.{List, [], ◌∷◌, ◌++◌, append_assoc, append-eq-nil_iff, append-nil}
use mathlib.Core.Bool.{Bool, true, false, cond}
use mathlib.Core.Option.{some, none-ne-some}
use mathlib.Core.Path.{◌≡◌, refl, sym, ap, subst, ◌∙◌}
use lib.ListN.{length}
use lib.Seq.{drop_at, take_at}
use Rattle.pack_rules.specs.Names.{Name, eq_name}
use Rattle.pack_rules.specs.Report.{Refusal}
use Rattle.pack_rules.specs.Syntax.{Equation, Node, Origin, Port}
use Rattle.pack.proofs.Tables.{eq_name-true}
use Rattle.machine_rules.specs.Machines.{Progress, add_refusal, extend, extend_in, node_named}
use Rattle.machines.proofs.Fates.{not-snoc}
use Rattle.runs.specs.Placement.{entry, slice}

pub entry-end : {A : Type 0} (l : List A) (x : A) (r : List A) → entry (length l) (l ++ (x ∷ r)) ≡ some x
unfolding entry
entry-end [] x r = refl
entry-end (y ∷ l) x r = entry-end l x r

pub slice-block : (p e q : List Equation) → slice (length p) (length p + length e) ((p ++ e) ++ q) ≡ e
unfolding slice
slice-block p e q = rw (append_assoc p e q, drop_at p (e ++ q) (length p) refl) (take_at e q ((length p + length e) - length p) (omega arith))

-- one node: the same name, more equations
pub record Extended (x y : Node) : Type 0 where
  pub name : y.name ≡ x.name
  pub later : List Equation
  pub equations : y.equations ≡ x.equations ++ later

same : (x : Node) → Extended x x
same x = record { name = refl; later = []; equations = sym (append-nil x.equations) }

further : {x y z : Node} → Extended x y → Extended y z → Extended x z
further {x} {y} {z} p q = record {
  name = q.name ∙ p.name;
  later = p.later ++ q.later;
  equations = q.equations ∙ (ap (λ (l : List Equation). l ++ q.later) p.equations ∙ append_assoc x.equations p.later q.later);
}

by-extend : (ls : List Port) (es : List Equation) (x : Node) → Extended x (extend ls es x)
unfolding extend
by-extend ls es x = record { name = refl; later = es; equations = refl }

-- each node in its place, and perhaps more nodes
abbrev pub grown : List Node → List Node → Type 0
grown [] l = Unit {0}
grown (x ∷ xs) [] = ⊥
grown (x ∷ xs) (y ∷ ys) = Extended x y × grown xs ys

pub grown-same : (l : List Node) → grown l l
grown-same [] = tt
grown-same (x ∷ l) = (same x, grown-same l)

pub grown-further : (k l m : List Node) → grown k l → grown l m → grown k m
grown-further [] l m p q = tt
grown-further (x ∷ k) [] m p q = absurd p
grown-further (x ∷ k) (y ∷ l) [] p q = absurd q
grown-further (x ∷ k) (y ∷ l) (z ∷ m) p q = (further p.0 q.0, grown-further k l m p.1 q.1)

pub grown-append : (k l : List Node) → grown k (k ++ l)
grown-append [] l = tt
grown-append (x ∷ k) l = (same x, grown-append k l)

pub grown-extend : (n : Name) (ls : List Port) (es : List Equation) (l : List Node) → grown l (extend_in n ls es l)
unfolding extend_in
grown-extend n ls es [] = tt
grown-extend n ls es (x ∷ l) = go (eq_name x.name n) (grown-extend n ls es l)
  where
    go : (b : Bool) → grown l (extend_in n ls es l) → grown (x ∷ l) (cond b (extend ls es x ∷ l) (x ∷ extend_in n ls es l))
    go true r = (by-extend ls es x, grown-same l)
    go false r = (same x, r)

-- the first node of a name
pub node-name : (o : Name) (l : List Node) (x : Node) → node_named o l ≡ some x → x.name ≡ o
unfolding node_named
node-name o [] x e = absurd (none-ne-some x e)
node-name o (y ∷ l) x e = go (eq_name y.name o) refl e (λ (q : node_named o l ≡ some x). node-name o l x q)
  where
    go : (b : Bool) → eq_name y.name o ≡ b → cond b (some y) (node_named o l) ≡ some x → (node_named o l ≡ some x → x.name ≡ o) → x.name ≡ o
    go true p q r = let s : y ≡ x = cc in ap (λ (z : Node). z.name) (sym s) ∙ eq_name-true y.name o p
    go false p q r = r q

pub record Found (o : Name) (x : Node) (l : List Node) : Type 0 where
  pub node : Node
  pub here : node_named o l ≡ some node
  pub more : Extended x node

pub node-grown : (o : Name) (k l : List Node) (x : Node) → grown k l → node_named o k ≡ some x → Found o x l
unfolding node_named
node-grown o [] l x g e = absurd (none-ne-some x e)
node-grown o (y ∷ k) [] x g e = absurd g
node-grown o (y ∷ k) (z ∷ l) x g e = go (eq_name y.name o) refl e (λ (q : node_named o k ≡ some x). node-grown o k l x g.1 q)
  where
    head : (b : Bool) → eq_name y.name o ≡ b → eq_name z.name o ≡ b
    head b p = ap (λ (n : Name). eq_name n o) g.0.name ∙ p

    go : (b : Bool) → eq_name y.name o ≡ b → cond b (some y) (node_named o k) ≡ some x → (node_named o k ≡ some x → Found o x l) → Found o x (z ∷ l)
    go true p q r = let s : y ≡ x = cc in record { node = z; here = rw (head true p); more = subst (λ (w : Node). Extended w z) s g.0 }
    go false p q r = let f = r q in record { node = f.node; here = rw (head false p) f.here; more = f.more }

pub node-extended : (o : Name) (ls : List Port) (es : List Equation) (l : List Node) (x : Node) → node_named o l ≡ some x → node_named o (extend_in o ls es l) ≡ some (extend ls es x)
unfolding node_named extend_in
node-extended o ls es [] x e = absurd (none-ne-some x e)
node-extended o ls es (y ∷ l) x e = go (eq_name y.name o) refl e (λ (q : node_named o l ≡ some x). node-extended o ls es l x q)
  where
    kept : (b : Bool) → eq_name y.name o ≡ b → eq_name (extend ls es y).name o ≡ b
    kept b p = ap (λ (n : Name). eq_name n o) (by-extend ls es y).name ∙ p

    go : (b : Bool) → eq_name y.name o ≡ b → cond b (some y) (node_named o l) ≡ some x → (node_named o l ≡ some x → node_named o (extend_in o ls es l) ≡ some (extend ls es x))
        → node_named o (cond b (extend ls es y ∷ l) (y ∷ extend_in o ls es l)) ≡ some (extend ls es x)
    go true p q r = let s : y ≡ x = cc in rw (kept true p) (ap (λ (w : Node). some (extend ls es w)) s)
    go false p q r = rw p (r q)

-- a node at a place
pub entry-grown : (k : List Node) (x : Node) (l : List Node) → grown (k ++ (x ∷ [])) l → (y : Node) × (entry (length k) l ≡ some y) × Extended x y
unfolding entry
entry-grown [] x [] g = absurd g
entry-grown [] x (y ∷ l) g = (y, refl, g.0)
entry-grown (z ∷ k) x [] g = absurd g
entry-grown (z ∷ k) x (y ∷ l) g = entry-grown k x l g.1

-- all that has been made
pub record Grows (k l : Progress) : Type 0 where
  pub nodes : grown k.nodes l.nodes
  pub origins : (later : List Origin) × (l.origins ≡ k.origins ++ later)
  pub refusals : (later : List Refusal) × (l.refusals ≡ k.refusals ++ later)

pub grows_same : (k : Progress) → Grows k k
grows_same k = record { nodes = grown-same k.nodes; origins = ([], sym (append-nil k.origins)); refusals = ([], sym (append-nil k.refusals)) }

after_both : {A : Type 0} (k l m : List A) → ((later : List A) × (l ≡ k ++ later)) → ((later : List A) × (m ≡ l ++ later)) → (later : List A) × (m ≡ k ++ later)
after_both {A} k l m p q = (p.0 ++ q.0, q.1 ∙ (ap (λ (z : List A). z ++ q.0) p.1 ∙ append_assoc k p.0 q.0))

pub grows-further : (k l m : Progress) → Grows k l → Grows l m → Grows k m
grows-further k l m p q = record {
  nodes = grown-further k.nodes l.nodes m.nodes p.nodes q.nodes;
  origins = after_both k.origins l.origins m.origins p.origins q.origins;
  refusals = after_both k.refusals l.refusals m.refusals p.refusals q.refusals;
}

pub grows-refusing : (r : Refusal) (k : Progress) → Grows k (add_refusal r k)
unfolding add_refusal
grows-refusing r k = record { nodes = grown-same k.nodes; origins = ([], sym (append-nil k.origins)); refusals = (r ∷ [], refl) }

-- where nothing is refused in the end, nothing was on the way
pub unrefused : (k l : Progress) → Grows k l → l.refusals ≡ [] → k.refusals ≡ []
unrefused k l g e = ((append-eq-nil_iff {p = k.refusals} {q = g.refusals.0}).0 (sym g.refusals.1 ∙ e)).0

pub refusing-not : (r : Refusal) (k : Progress) → (add_refusal r k).refusals ≡ [] → ⊥
unfolding add_refusal
refusing-not r k e = not-snoc k.refusals r e
