-- What the machines are lowered to may be written.
use native.Mathlib.Omega.{arith}
use mathlib.Core.List.{List, [], ◌∷◌}
use mathlib.Core.Option.{Option, none, some}
use mathlib.Core.Path.{◌≡◌, refl}
use Rattle.wire.specs.Lists.{All}
use Rattle.pack_rules.specs.Names.{Name}
use Rattle.pack_rules.specs.Syntax.{MachineDef, Node, of_machine}
use Rattle.machine_rules.specs.Resolved.{ResolvedMachine}
use Rattle.pack.proofs.Tables.{all_append}
use Rattle.machine_rules.specs.Lower.{enums_of, equations_of, locals_of}
use Rattle.machine_rules.specs.Machines.{MachineVerdict, Progress, accept, add_machine, judge, lower_each, merged, node_from, node_named, refuse, standalone}
use Rattle.machine_rules.specs.Refusals.{unknown_owner}
use Rattle.runs.proofs.Proper.{ProperEnum, ProperNode}
use Rattle.runs.proofs.ProperDrawn.{ProperDrawing}
use Rattle.runs.proofs.ProperEquations.{enums-of-proper, equations-of-proper, locals-of-proper}
use Rattle.runs.proofs.ProperMade.{ProperMade, grown-proper, refusing-proper, total-append}
use Rattle.runs.proofs.ProperResolved.{Accepted, ProperMachine, judge-proper}

-- one machine after the other
standalone-proper : (m : ResolvedMachine) (k : Progress) → ProperMachine m → ProperMade k → ProperMade (standalone m k)
unfolding standalone node_from All
standalone-proper m k o g =
    let t = total-append k.nodes (node_from m ∷ []) in
    record {
      enums = all_append ProperEnum k.enums (enums_of m) g.enums (enums-of-proper m o);
      nodes = all_append ProperNode k.nodes (node_from m ∷ []) g.nodes (record { name = o.name; inputs = o.inputs; outputs = o.outputs; locals = locals-of-proper m o; equations = equations-of-proper m o }, tt);
      origins = g.origins;
      formed = λ h. g.formed (omega arith);
    }

placed-proper : (o : Option Name) (j : MachineVerdict) (k : Progress) → Accepted j → ProperMade k → ProperMade (add_machine o j k)
unfolding add_machine merged Accepted All
placed-proper o (refuse r) k h g = refusing-proper r k g
placed-proper none (accept m) k h g = standalone-proper m k h g
placed-proper (some o) (accept m) k h g = go (node_named o k.nodes) refl
  where
    go : (x : Option Node) → node_named o k.nodes ≡ x → ProperMade (merged m o x k)
    go none e = refusing-proper (unknown_owner m.name o) k g
    go (some n) e = grown-proper (enums_of m) of_machine m.name [] o (locals_of m) (equations_of m) n k e (enums-of-proper m h) h.name tt (locals-of-proper m h) (equations-of-proper m h) g

pub lower-each-proper : (all ds : List MachineDef) (k : Progress) → All ProperDrawing all → All ProperDrawing ds → ProperMade k → ProperMade (lower_each all ds k)
unfolding lower_each All
lower-each-proper all [] k a b g = g
lower-each-proper all (d ∷ ds) k a b g = lower-each-proper all ds (add_machine d.owner (judge all d) k) a b.1 (placed-proper d.owner (judge all d) k (judge-proper all d a b.0) g)
