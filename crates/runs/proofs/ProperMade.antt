-- What has been made so far may be written; the origins made lie within the equations of the nodes.
use Prim.Native.Nat.{ℕ, ◌+◌, ◌≤◌, ◌<◌}
use native.Mathlib.Omega.{arith}
use mathlib.Core.List.{List, [], ◌∷◌, ◌++◌}
use mathlib.Core.Bool.{Bool, true, false, cond}
use mathlib.Core.Option.{Option, some}
use mathlib.Core.Path.{◌≡◌, ap, subst}
use lib.ListN.{length, length-append}
use Rattle.wire.specs.Lists.{All}
use Rattle.pack_rules.specs.Legal.{Allowed, Each, FormedOrigin, ShapedTy}
use Rattle.pack_rules.specs.Names.{Name, eq_name}
use Rattle.pack_rules.specs.Report.{Refusal}
use Rattle.pack_rules.specs.Syntax.{Enum, Equation, Node, OriginKind, Port, t_bool, t_named}
use Rattle.pack_rules.specs.Write.{one, ty_items}
use Rattle.pack.proofs.Tables.{all_append}
use Rattle.machine_rules.specs.Machines.{Progress, add_refusal, extend, extend_in, node_named, origin_of}
use Rattle.machines.proofs.RefusalNames.{Maybe}
use Rattle.runs.proofs.Proper.{ProperEnum, ProperNode, ProperOrigin, ProperPort, ProperQ, ProperTy}

pub bool-proper : ProperTy t_bool
unfolding ShapedTy ty_items one Each
bool-proper = record { shaped = tt; fair = tt }

pub named-proper : (n : Name) → Allowed n → ProperTy (t_named n)
unfolding ShapedTy ty_items Each
named-proper n h = record { shaped = tt; fair = (h, tt) }

pub maybe-cond : {A : Type 0} (P : A → Type 0) (c : Bool) (a b : Option A) → Maybe P a → Maybe P b → Maybe P (cond c a b)
maybe-cond P true a b h k = h
maybe-cond P false a b h k = k

-- all equations of nodes
unfoldable pub total : List Node → ℕ
total [] = 0
total (n ∷ ns) = length n.equations + total ns

pub total-append : (a b : List Node) → total (a ++ b) ≡ total a + total b
unfolding total
total-append [] b = omega arith
total-append (n ∷ a) b = let i = total-append a b in omega arith

pub total-extend : (o : Name) (ls : List Port) (es : List Equation) (ns : List Node) → total ns ≤ total (extend_in o ls es ns)
unfolding total extend_in extend
total-extend o ls es [] = omega arith
total-extend o ls es (x ∷ xs) = go (eq_name x.name o) (total-extend o ls es xs)
  where
    go : (b : Bool) → total xs ≤ total (extend_in o ls es xs) → length x.equations + total xs ≤ total (cond b (extend ls es x ∷ xs) (x ∷ extend_in o ls es xs))
    go true i = omega (arith, length-append x.equations es)
    go false i = omega arith

some_same : {A : Type 0} (x y : A) → ◌≡◌ {A = Option A} (some x) (some y) → x ≡ y
some_same x y e = cc

pub total-in : (o : Name) (ls : List Port) (es : List Equation) (ns : List Node) (n : Node) → node_named o ns ≡ some n → length n.equations + length es ≤ total (extend_in o ls es ns)
unfolding total extend_in extend node_named
total-in o ls es [] n e = let z : ◌≡◌ {A = ℕ} 0 1 = cc in absurd (omega arith)
total-in o ls es (x ∷ xs) n e = go (eq_name x.name o) (total-in o ls es xs n) e
  where
    go : (b : Bool) → (node_named o xs ≡ some n → length n.equations + length es ≤ total (extend_in o ls es xs)) → cond b (some x) (node_named o xs) ≡ some n → length n.equations + length es ≤ total (cond b (extend ls es x ∷ xs) (x ∷ extend_in o ls es xs))
    go true i f =
        let s : x ≡ n = some_same x n f in
        let l : length x.equations ≡ length n.equations = ap (λ (m : Node). length m.equations) s in
        omega (arith, length-append x.equations es)
    go false i f = let j = i f in omega arith

pub extend-proper : (o : Name) (ls : List Port) (es : List Equation) (ns : List Node) → All ProperPort ls → All ProperQ es → All ProperNode ns → All ProperNode (extend_in o ls es ns)
unfolding extend_in extend All
extend-proper o ls es [] h k a = tt
extend-proper o ls es (x ∷ xs) h k a = go (eq_name x.name o) (extend-proper o ls es xs h k a.1)
  where
    go : (b : Bool) → All ProperNode (extend_in o ls es xs) → All ProperNode (cond b (extend ls es x ∷ xs) (x ∷ extend_in o ls es xs))
    go true i =
        let n = a.0 in
        (record { name = n.name; inputs = n.inputs; outputs = n.outputs; locals = all_append ProperPort x.locals ls n.locals h; equations = all_append ProperQ x.equations es n.equations k }, a.1)
    go false i = (a.0, i)

pub node-of-proper : (o : Name) (ns : List Node) → All ProperNode ns → Maybe ProperNode (node_named o ns)
unfolding node_named All Maybe
node-of-proper o [] a = tt
node-of-proper o (x ∷ xs) a = maybe-cond ProperNode (eq_name x.name o) (some x) (node_named o xs) a.0 (node-of-proper o xs a.1)

pub record ProperMade (k : Progress) : Type 0 where
  pub enums : All ProperEnum k.enums
  pub nodes : All ProperNode k.nodes
  pub origins : All ProperOrigin k.origins
  pub formed : total k.nodes < 65536 → All FormedOrigin k.origins

pub refusing-proper : (r : Refusal) (k : Progress) → ProperMade k → ProperMade (add_refusal r k)
unfolding add_refusal
refusing-proper r k o = record { enums = o.enums; nodes = o.nodes; origins = o.origins; formed = o.formed }

-- a node extended, and the origin of what it was extended by
pub grown-proper : (more : List Enum) (kind : OriginKind) (name : Name) (bs : List Name) (owner : Name) (ls : List Port) (es : List Equation) (n : Node) (k : Progress)
    → node_named owner k.nodes ≡ some n → All ProperEnum more → Allowed name → All Allowed bs → All ProperPort ls → All ProperQ es → ProperMade k
    → ProperMade (record { enums = k.enums ++ more; nodes = extend_in owner ls es k.nodes; origins = k.origins ++ (origin_of kind name bs es n ∷ []); refusals = k.refusals })
unfolding origin_of All Maybe
grown-proper more kind name bs owner ls es n k e hm hn hb hl he o =
    let p : ProperNode n = subst (Maybe ProperNode) e (node-of-proper owner k.nodes o.nodes) in
    let g = origin_of kind name bs es n in
    let t = total-extend owner ls es k.nodes in
    let i = total-in owner ls es k.nodes n e in
    record {
      enums = all_append ProperEnum k.enums more o.enums hm;
      nodes = extend-proper owner ls es k.nodes hl he o.nodes;
      origins = all_append ProperOrigin k.origins (g ∷ []) o.origins (record { node = p.name; name = hn; branches = hb }, tt);
      formed = λ h. all_append FormedOrigin k.origins (g ∷ []) (o.formed (omega arith)) ((omega arith, omega arith), tt);
    }
