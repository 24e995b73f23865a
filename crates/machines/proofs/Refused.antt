-- The refusals of the lowering are those found machine by machine.
use mathlib.Core.List.{List, [], ◌∷◌, ◌++◌, append_assoc, append-nil}
use mathlib.Core.Bool.{Bool, true, false, cond, ◌||◌}
use mathlib.Core.Option.{Option, none, some}
use mathlib.Core.Path.{◌≡◌, refl, sym, ap, ◌∙◌}
use Rattle.pack_rules.specs.Names.{Name, eq_name, member}
use Rattle.pack_rules.specs.Syntax.{MachineDef, Node, Package}
use Rattle.pack.proofs.Tables.{eq_name-ne, eq_name-refl, eq_name-true, eq_name-false}
use Rattle.machine_rules.specs.Refusals.{unknown_owner}
use Rattle.machine_rules.specs.Machines.{MachineVerdict, Progress, accept, add_machine, add_refusal, judge, lower_each, made_machines, merged, node_from, node_named, refuse, standalone, start}
use Rattle.machine_rules.specs.Lower.{equations_of, locals_of}
use Rattle.machines.specs.Sections.{node_names}
use Rattle.machines.specs.RefusalsIn.{names_then, refusals, refused_in}
use Rattle.machines.proofs.Fates.{names-append, names-extend}

pub eq_name-turn : (a b : Name) → eq_name a b ≡ eq_name b a
eq_name-turn a b = go (eq_name a b) refl
  where
    go : (t : Bool) → eq_name a b ≡ t → t ≡ eq_name b a
    go true e = sym (ap (λ x. eq_name x a) (sym (eq_name-true a b e)) ∙ eq_name-refl a)
    go false e = sym (eq_name-ne b a (λ g. eq_name-false a b e (sym g)))

-- a node of a name is found where the name is among the nodes' names
unfoldable found : Option Node → Bool
found none = false
found (some n) = true

found-member : (o : Name) (ns : List Node) → found (node_named o ns) ≡ member o (node_names ns)
unfolding found node_named node_names member
found-member o [] = refl
found-member o (x ∷ xs) = go (eq_name x.name o) (found-member o xs) ∙ ap (λ b. b || member o (node_names xs)) (eq_name-turn x.name o)
  where
    go : (b : Bool) → found (node_named o xs) ≡ member o (node_names xs) → found (cond b (some x) (node_named o xs)) ≡ (b || member o (node_names xs))
    go true h = refl
    go false h = h

module _ (k : Progress) where
  refused-placed : (o : Option Name) (j : MachineVerdict) → (add_machine o j k).refusals ≡ k.refusals ++ refused_in (node_names k.nodes) o j
  unfolding add_machine add_refusal standalone merged refused_in found
  refused-placed none (refuse r) = refl
  refused-placed (some o) (refuse r) = refl
  refused-placed none (accept m) = sym (append-nil _)
  refused-placed (some o) (accept m) = go (node_named o k.nodes) (found-member o k.nodes)
    where
      go : (n : Option Node) → found n ≡ member o (node_names k.nodes) → (merged m o n k).refusals ≡ k.refusals ++ cond (member o (node_names k.nodes)) [] (unknown_owner m.name o ∷ [])
      go none e = ap (λ b. k.refusals ++ cond b [] (unknown_owner m.name o ∷ [])) e
      go (some n) e = sym (append-nil _) ∙ ap (λ b. k.refusals ++ cond b [] (unknown_owner m.name o ∷ [])) e

  names-placed : (o : Option Name) (j : MachineVerdict) → node_names (add_machine o j k).nodes ≡ names_then (node_names k.nodes) o j
  unfolding add_machine add_refusal standalone merged names_then node_names node_from
  names-placed none (refuse r) = refl
  names-placed (some o) (refuse r) = refl
  names-placed none (accept m) = names-append k.nodes (node_from m ∷ [])
  names-placed (some o) (accept m) = go (node_named o k.nodes)
    where
      go : (n : Option Node) → node_names (merged m o n k).nodes ≡ node_names k.nodes
      go none = refl
      go (some n) = names-extend o (locals_of m) (equations_of m) k.nodes

refused-each : (all ds : List MachineDef) (k : Progress) → (lower_each all ds k).refusals ≡ k.refusals ++ refusals all ds (node_names k.nodes)
unfolding lower_each refusals
refused-each all [] k = sym (append-nil _)
refused-each all (d ∷ ds) k =
    let j = judge all d in
    refused-each all ds (add_machine d.owner j k)
    ∙ (λ i. refused-placed k d.owner j i ++ refusals all ds (names-placed k d.owner j i))
    ∙ append_assoc k.refusals _ _

-- the refusals of a package's machines
pub made-refusals : (p : Package) → (made_machines p).refusals ≡ refusals p.machines p.machines (node_names p.nodes)
unfolding made_machines start
made-refusals p = refused-each p.machines p.machines (start p)
