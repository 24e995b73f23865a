-- Internal: nothing here has to be believed; laws tie it to what docs/TRUSTED.md lists.
-- What is refused, machine by machine: this needs of the nodes made so far their names only.
use Rattle.std.specs.Prelude.{List, [], ◌∷◌, ◌++◌, cond}
use Rattle.std.proofs.Math.Option.{Option, none, some}
use Rattle.pack_rules.specs.Names.{Name, member}
use Rattle.pack_rules.specs.Syntax.{MachineDef}
use Rattle.pack_rules.specs.Report.{Refusal}
use Rattle.machine_rules.specs.Refusals.{unknown_owner}
use Rattle.machine_rules.specs.Machines.{MachineVerdict, accept, judge, refuse}

-- of one machine, where nodes of these names have been made: an owner is looked for after lowering
unfoldable pub refused_in : List Name → Option Name → MachineVerdict → List Refusal
refused_in ns o (refuse r) = r ∷ []
refused_in ns none (accept m) = []
refused_in ns (some o) (accept m) = cond (member o ns) [] (unknown_owner m.name o ∷ [])

-- the names of nodes after it: a machine without owner makes a node
unfoldable pub names_then : List Name → Option Name → MachineVerdict → List Name
names_then ns o (refuse r) = ns
names_then ns none (accept m) = ns ++ (m.name ∷ [])
names_then ns (some o) (accept m) = ns

-- of all machines, from the first
unfoldable pub refusals : List MachineDef → List MachineDef → List Name → List Refusal
refusals all [] ns = []
refusals all (d ∷ ds) ns = refused_in ns d.owner (judge all d) ++ refusals all ds (names_then ns d.owner (judge all d))
