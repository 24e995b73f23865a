-- Where the equations of a package's machines stand in the result.
use Prim.Native.Nat.{ℕ, ◌+◌}
use native.Mathlib.Omega.{arith}
use mathlib.Core.List.{List, [], ◌∷◌, ◌++◌, append_assoc, append-nil}
use mathlib.Core.Option.{Option, none, some}
use mathlib.Core.Path.{◌≡◌, refl, sym, ap, subst, ◌∙◌}
use lib.ListN.{length, length-append}
use Rattle.pack_rules.specs.Names.{Name}
use Rattle.pack_rules.specs.Read.{name}
use Rattle.pack_rules.specs.Report.{Refusal}
use Rattle.pack_rules.specs.Syntax.{Equation, MachineDef, Node, Origin, OriginKind, Package, Port, of_machine}
use Rattle.machine_rules.specs.Resolved.{ResolvedMachine, ResolvedStates}
use Rattle.machine_rules.specs.Checks.{refusal_of}
use Rattle.machine_rules.specs.Lower.{equations_of, locals_of}
use Rattle.machine_rules.specs.Machines.{MachineVerdict, Progress, accept, add_machine, checked, extend, extend_in, judge, lower_each, made_machines, merged, node_from, node_named, origin_of, refuse, resolved, standalone, start}
use Rattle.machine_rules.specs.Refusals.{unknown_owner}
use Rattle.machine_rules.specs.Resolve.{Walk, as_machine, resolved_states, stop, went}
use Rattle.runs.specs.Placement.{Block, OwnNode, PlacedIn, block_of, entry, equations_from, equations_named, machines_before, slice}
use Rattle.runs.proofs.Growing.{Grows, entry-end, entry-grown, grown-append, grown-extend, grows-further, grows-refusing, grows_same, node-extended, node-grown, node-name, refusing-not, slice-block, unrefused}

-- a block that has just been added stands in everything that is made afterwards
pub block : (kind : OriginKind) (name owner : Name) (branches : List Name) (ls : List Port) (es : List Equation) (k k₁ l : Progress) (n : Node) → node_named owner k.nodes ≡ some n
    → k₁.nodes ≡ extend_in owner ls es k.nodes → k₁.origins ≡ k.origins ++ (origin_of kind name branches es n ∷ []) → Grows k₁ l → Block kind name owner branches es k l.nodes l.origins
unfolding origin_of extend
block kind name owner branches ls es k k₁ l n e p q g =
    let r = origin_of kind name branches es n in
    let is = node-name owner k.nodes n e in
    let now : node_named owner k₁.nodes ≡ some (extend ls es n) = ap (λ (ns : List Node). node_named owner ns) p ∙ node-extended owner ls es k.nodes n e in
    let f = node-grown owner k₁.nodes l.nodes (extend ls es n) g.nodes now in
    record {
      origin = r;
      recorded =
          ap (λ (os : List Origin). entry (length k.origins) os)
          (g.origins.1 ∙ (ap (λ (os : List Origin). os ++ g.origins.0) q ∙ append_assoc k.origins (r ∷ []) g.origins.0))
          ∙ entry-end k.origins r g.origins.0;
      names-node = is;
      of-kind = refl;
      of-name = refl;
      of-branches = refl;
      node = f.node;
      named = f.here;
      within =
          let l = ap (λ (x : List Equation). length x) f.more.equations in
          omega (arith, l, length-append (n.equations ++ es) f.more.later, length-append n.equations es);
      stands = ap (λ (x : List Equation). slice (length n.equations) (length n.equations + length es) x) f.more.equations ∙ slice-block n.equations es f.more.later;
    }

-- the block that an origin names
pub block-stands : {kind : OriginKind} {name owner : Name} {branches : List Name} {es : List Equation} {k : Progress} {nodes : List Node} {origins : List Origin} → Block kind name owner branches es k nodes origins
    → block_of (entry (length k.origins) origins) nodes ≡ es
unfolding block_of equations_named equations_from
block-stands {k = k} {nodes = nodes} {origins = origins} s =
    ap (λ (r : Option Origin). block_of r nodes) s.recorded
    ∙ (ap (λ (o : Name). slice s.origin.first s.origin.after (equations_named o nodes)) s.names-node
    ∙ (ap (λ (x : Option Node). slice s.origin.first s.origin.after (equations_from x)) s.named ∙ s.stands))

-- each step adds
grows-standalone : (m : ResolvedMachine) (k : Progress) → Grows k (standalone m k)
unfolding standalone
grows-standalone m k = record { nodes = grown-append k.nodes (node_from m ∷ []); origins = ([], sym (append-nil k.origins)); refusals = ([], sym (append-nil k.refusals)) }

grows-merged : (m : ResolvedMachine) (o : Name) (n : Option Node) (k : Progress) → Grows k (merged m o n k)
unfolding merged
grows-merged m o none k = grows-refusing (unknown_owner m.name o) k
grows-merged m o (some n) k = record {
  nodes = grown-extend o (locals_of m) (equations_of m) k.nodes;
  origins = (origin_of of_machine m.name [] (equations_of m) n ∷ [], refl);
  refusals = ([], sym (append-nil k.refusals));
}

grows-placed : (o : Option Name) (j : MachineVerdict) (k : Progress) → Grows k (add_machine o j k)
unfolding add_machine
grows-placed none (refuse r) k = grows-refusing r k
grows-placed (some o) (refuse r) k = grows-refusing r k
grows-placed none (accept m) k = grows-standalone m k
grows-placed (some o) (accept m) k = grows-merged m o (node_named o k.nodes) k

grows-each : (all ds : List MachineDef) (k : Progress) → Grows k (lower_each all ds k)
unfolding lower_each
grows-each all [] k = grows_same k
grows-each all (d ∷ ds) k =
    grows-further k (add_machine d.owner (judge all d) k) (lower_each all ds (add_machine d.owner (judge all d) k))
    (grows-placed d.owner (judge all d) k) (grows-each all ds (add_machine d.owner (judge all d) k))

each_append : (all pre ds : List MachineDef) (k : Progress) → lower_each all (pre ++ ds) k ≡ lower_each all ds (lower_each all pre k)
unfolding lower_each
each_append all [] ds k = refl
each_append all (d ∷ pre) ds k = each_append all pre ds (add_machine d.owner (judge all d) k)

-- a machine that is resolved and not refused
pub record Passed (all : List MachineDef) (d : MachineDef) : Type 0 where
  pub states : ResolvedStates
  pub count : ℕ
  pub walk : resolved_states all d ≡ went states count
  pub unrefused : refusal_of (as_machine d states) ≡ none

judged : {all : List MachineDef} {d : MachineDef} (s : Passed all d) → judge all d ≡ accept (as_machine d s.states)
unfolding judge resolved checked
judged {all} {d} s = rw (s.walk, s.unrefused)

passed : (all : List MachineDef) (d : MachineDef) (k : Progress) → (add_machine d.owner (judge all d) k).refusals ≡ [] → Passed all d
unfolding judge resolved checked add_machine
passed all d k e = go (resolved_states all d) refl e
  where
    sort : (ss : ResolvedStates) (n : ℕ) → resolved_states all d ≡ went ss n → (r : Option Refusal) → refusal_of (as_machine d ss) ≡ r → (add_machine d.owner (checked (as_machine d ss) r) k).refusals ≡ [] → Passed all d
    sort ss n w none q h = record { states = ss; count = n; walk = w; unrefused = q }
    sort ss n w (some r) q h = absurd (refusing-not r k h)

    go : (w : Walk ResolvedStates) → resolved_states all d ≡ w → (add_machine d.owner (resolved d w) k).refusals ≡ [] → Passed all d
    go (stop r) w h = absurd (refusing-not r k h)
    go (went ss n) w h = sort ss n w (refusal_of (as_machine d ss)) refl h

own-node : (m : ResolvedMachine) (k l : Progress) → Grows (standalone m k) l → OwnNode m k l.nodes
unfolding standalone node_from
own-node m k l g =
    let p = entry-grown k.nodes (node_from m) l.nodes g.nodes in
    record {
      node = p.0;
      stays = p.1;
      named = p.2.name;
      later = p.2.later;
      stands = p.2.equations;
    }

in-owner : (m : ResolvedMachine) (o : Name) (k l : Progress) (x : Option Node) → node_named o k.nodes ≡ x → (merged m o x k).refusals ≡ [] → Grows (merged m o x k) l → Block of_machine m.name o [] (equations_of m) k l.nodes l.origins
unfolding merged
in-owner m o k l none e h g = absurd (refusing-not (unknown_owner m.name o) k h)
in-owner m o k l (some n) e h g = block of_machine m.name o [] (locals_of m) (equations_of m) k (merged m o (some n) k) l n e refl refl g

stands : (o : Option Name) (m : ResolvedMachine) (k l : Progress) → (add_machine o (accept m) k).refusals ≡ [] → Grows (add_machine o (accept m) k) l → PlacedIn o m k l.nodes l.origins
unfolding add_machine
stands none m k l h g = own-node m k l g
stands (some o) m k l h g = in-owner m o k l (node_named o k.nodes) refl h g

pub record MachineWritten (p : Package) (pre : List MachineDef) (d : MachineDef) : Type 0 where
  pub pass : Passed p.machines d
  pub place : PlacedIn d.owner (as_machine d pass.states) (machines_before p pre) (made_machines p).nodes (made_machines p).origins

pub machine-written : (p : Package) → (made_machines p).refusals ≡ [] → (pre : List MachineDef) (d : MachineDef) (post : List MachineDef) → p.machines ≡ pre ++ (d ∷ post) → MachineWritten p pre d
unfolding made_machines machines_before lower_each
machine-written p none-refused pre d post e =
    let all = p.machines in
    let k : Progress = lower_each all pre (start p) in
    let k₁ : Progress = add_machine d.owner (judge all d) k in
    let whole : lower_each all all (start p) ≡ lower_each all post k₁ = ap (λ (ds : List MachineDef). lower_each all ds (start p)) e ∙ each_append all pre (d ∷ post) (start p) in
    let end : (lower_each all post k₁).refusals ≡ [] = ap (λ (x : Progress). x.refusals) (sym whole) ∙ none-refused in
    let here : k₁.refusals ≡ [] = unrefused k₁ (lower_each all post k₁) (grows-each all post k₁) end in
    let s : Passed all d = passed all d k here in
    let m = as_machine d s.states in
    let j : k₁ ≡ add_machine d.owner (accept m) k = ap (λ (x : MachineVerdict). add_machine d.owner x k) (judged s) in
    let g : Grows k₁ (lower_each all all (start p)) = subst (λ (x : Progress). Grows k₁ x) (sym whole) (grows-each all post k₁) in
    record { pass = s; place = stands d.owner m k (lower_each all all (start p)) (subst (λ (x : Progress). x.refusals ≡ []) j here) (subst (λ (x : Progress). Grows x (lower_each all all (start p))) j g) }
