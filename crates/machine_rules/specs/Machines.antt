-- The lowering of a package's machines, one after the other.
use Rattle.std.specs.Prelude.{List, [], ◌∷◌, ◌++◌, cond, ◌+◌, length}
use Rattle.std.proofs.Math.Option.{Option, none, some}
use Rattle.pack_rules.specs.Names.{Name, eq_name}
use Rattle.pack_rules.specs.Syntax.{Enum, Equation, MachineDef, Node, Origin, OriginKind, Package, Port, k_operator, of_machine}
use Rattle.machine_rules.specs.Resolved.{ResolvedMachine, ResolvedStates}
use Rattle.pack_rules.specs.Report.{Refusal}
use Rattle.machine_rules.specs.Refusals.{unknown_owner}
use Rattle.machine_rules.specs.Resolve.{Walk, as_machine, resolved_states, stop, went}
use Rattle.machine_rules.specs.Lower.{enums_of, equations_of, locals_of}
use Rattle.machine_rules.specs.Checks.{refusal_of}

-- refused, or the machine that is lowered
pub data MachineVerdict : Type 0 where
  refuse : Refusal → MachineVerdict
  accept : ResolvedMachine → MachineVerdict

-- Check: a resolved machine is accepted where nothing is refused
unfoldable pub checked : ResolvedMachine → Option Refusal → MachineVerdict
checked m none = accept m
checked m (some r) = refuse r

-- what stops the resolving is the refusal; else the checks are made
unfoldable pub resolved : MachineDef → Walk ResolvedStates → MachineVerdict
resolved d (stop r) = refuse r
resolved d (went ss n) = checked (as_machine d ss) (refusal_of (as_machine d ss))

-- Resolve, then Check, of one machine among all of the package
unfoldable pub judge : List MachineDef → MachineDef → MachineVerdict
judge ms d = resolved d (resolved_states ms d)

-- the first node of a name
unfoldable pub node_named : Name → List Node → Option Node
node_named n [] = none
node_named n (x ∷ xs) = cond (eq_name x.name n) (some x) (node_named n xs)

-- a node with locals and equations after its own
unfoldable pub extend : List Port → List Equation → Node → Node
extend ls es n = record { name = n.name; kind = n.kind; inputs = n.inputs; outputs = n.outputs; locals = n.locals ++ ls; equations = n.equations ++ es }

-- the first node of that name is extended, the others stay
unfoldable pub extend_in : Name → List Port → List Equation → List Node → List Node
extend_in n ls es [] = []
extend_in n ls es (x ∷ xs) = cond (eq_name x.name n) (extend ls es x ∷ xs) (x ∷ extend_in n ls es xs)

-- what has been made so far
pub record Progress : Type 0 where
  pub enums : List Enum
  pub nodes : List Node
  pub origins : List Origin
  pub refusals : List Refusal

-- a refusal more; nothing else changes, so that later machines find nothing of a refused one
unfoldable pub add_refusal : Refusal → Progress → Progress
add_refusal r k = record { enums = k.enums; nodes = k.nodes; origins = k.origins; refusals = k.refusals ++ (r ∷ []) }

-- equations of a node that come from a definition
unfoldable pub origin_of : OriginKind → Name → List Name → List Equation → Node → Origin
origin_of kind name bs es n =
    record { node = n.name; kind = kind; name = name; first = length n.equations; after = length n.equations + length es; branches = bs }

-- a machine without owner as a node: an operator with the machine's ports
unfoldable pub node_from : ResolvedMachine → Node
node_from m = record { name = m.name; kind = k_operator; inputs = m.inputs; outputs = m.outputs; locals = locals_of m; equations = equations_of m }

-- without owner: its enums and its node come last, and no origin is written
unfoldable pub standalone : ResolvedMachine → Progress → Progress
standalone m k = record { enums = k.enums ++ enums_of m; nodes = k.nodes ++ (node_from m ∷ []); origins = k.origins; refusals = k.refusals }

-- with an owner, which is looked for once the machine is accepted, among the nodes made so far: UnknownOwner, or the owner extended; its
-- equations get an origin
unfoldable pub merged : ResolvedMachine → Name → Option Node → Progress → Progress
merged m o none k = add_refusal (unknown_owner m.name o) k
merged m o (some n) k =
    record {
      enums = k.enums ++ enums_of m;
      nodes = extend_in o (locals_of m) (equations_of m) k.nodes;
      origins = k.origins ++ (origin_of of_machine m.name [] (equations_of m) n ∷ []);
      refusals = k.refusals;
    }

-- what a judged machine adds to what was made
unfoldable pub add_machine : Option Name → MachineVerdict → Progress → Progress
add_machine o (refuse r) k = add_refusal r k
add_machine none (accept m) k = standalone m k
add_machine (some o) (accept m) k = merged m o (node_named o k.nodes) k

-- the machines of a package, from the first
unfoldable pub lower_each : List MachineDef → List MachineDef → Progress → Progress
lower_each all [] k = k
lower_each all (d ∷ ds) k = lower_each all ds (add_machine d.owner (judge all d) k)

-- before the first machine: what the package has
unfoldable pub start : Package → Progress
start p = record { enums = p.enums; nodes = p.nodes; origins = p.origins; refusals = [] }

-- all machines of a package
unfoldable pub made_machines : Package → Progress
made_machines p = lower_each p.machines p.machines (start p)

-- Pack: the machines are gone, and names are the old ones; writing adds the new
unfoldable pub machines_lowered : Package → Progress → Package
machines_lowered p k = record { names = p.names; enums = k.enums; nodes = k.nodes; machines = []; activations = p.activations; origins = k.origins }
