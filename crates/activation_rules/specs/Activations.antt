-- The lowering of a package's activations, one after the other.
use Rattle.std.specs.Prelude.{List, [], ◌∷◌, ◌++◌}
use Rattle.std.proofs.Math.Option.{Option, none, some}
use Rattle.pack_rules.specs.Syntax.{Activation, Node, Package, of_activation}
use Rattle.machine_rules.specs.Machines.{Progress, add_refusal, extend_in, node_named, origin_of, start}
use Rattle.activation_rules.specs.Refusals.{unknown_owner}
use Rattle.activation_rules.specs.Checks.{branch_names, else_name}
use Rattle.activation_rules.specs.Lower.{Lowered, lowered, make, refuse}

-- as `lower_activations` of `project.rs`: a refused one adds its refusal only; the origin has the branches' names, and the else scope's
unfoldable pub add_activation : Activation → Node → Lowered → Progress → Progress
add_activation A n (refuse r) k = add_refusal r k
add_activation A n (make ls es) k =
    record {
      enums = k.enums;
      nodes = extend_in A.owner ls es k.nodes;
      origins = k.origins ++ (origin_of of_activation A.name (branch_names A.branches ++ (else_name ∷ [])) es n ∷ []);
      refusals = k.refusals;
    }

-- Activations: owner first
unfoldable pub owned : Activation → Option Node → Progress → Progress
owned A none k = add_refusal (unknown_owner A.name A.owner) k
owned A (some n) k = add_activation A n (lowered k.enums A n) k

-- the activations of a package, from the first; the owner is the first node of its name, with what earlier ones added
unfoldable pub activate_each : List Activation → Progress → Progress
activate_each [] k = k
activate_each (A ∷ As) k = activate_each As (owned A (node_named A.owner k.nodes) k)

-- all activations of a package
unfoldable pub made_activations : Package → Progress
made_activations p = activate_each p.activations (start p)

-- Pack: the lowered section becomes empty
unfoldable pub activations_lowered : Package → Progress → Package
activations_lowered p k = record { names = p.names; enums = k.enums; nodes = k.nodes; machines = p.machines; activations = []; origins = k.origins }
