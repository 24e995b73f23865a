-- The variables that an activation may read, with their types. `env` are the owner's variables and the holders made so far, `outs`
-- the activation's outputs.
use Rattle.std.specs.Prelude.{List, [], ◌∷◌, ◌++◌, cond}
use Rattle.std.proofs.Math.Option.{Option, none, some}
use Rattle.pack_rules.specs.Names.{Name, eq_name}
use Rattle.pack_rules.specs.Report.{first_of}
use Rattle.pack_rules.specs.Syntax.{Node, Port, Ty, t_bool}

-- the owner's variables: inputs, outputs, locals
unfoldable pub variables : Node → List Port
variables n = n.inputs ++ (n.outputs ++ n.locals)

-- the last port of a name: each overwrites those before
unfoldable pub last_typed : List Port → Name → Option Ty
last_typed [] n = none
last_typed (p ∷ ps) n = first_of (last_typed ps n) (cond (eq_name p.name n) (some p.ty) none)

-- the first port of a name
unfoldable pub first_typed : List Port → Name → Option Ty
first_typed [] n = none
first_typed (p ∷ ps) n = cond (eq_name p.name n) (some p.ty) (first_typed ps n)

-- Activations, `types` of `activation.rs`: an output of the activation counts only where the owner and the holders have none of its name
unfoldable pub typed : List Port → List Port → Name → Option Ty
typed env outs n = first_of (last_typed env n) (first_typed outs n)

-- the names of ports
unfoldable pub port_names : List Port → List Name
port_names [] = []
port_names (p ∷ ps) = p.name ∷ port_names ps

-- the names that have a type
unfoldable pub readable : List Port → List Port → List Name
readable env outs = port_names env ++ port_names outs

-- Bool, where there is no type
unfoldable pub or_bool : Option Ty → Ty
or_bool none = t_bool
or_bool (some t) = t

-- Activations, samples as in `activation.rs`: a sample has its variable's type
unfoldable pub sample_type : List Port → List Port → Name → Ty
sample_type env outs v = or_bool (typed env outs v)

-- Activations, scopes as in `activation.rs`: a value has the type of the activation's first output of that name, else the variable's, else Bool
unfoldable pub value_type : List Port → List Port → Name → Ty
value_type env outs o = or_bool (first_of (first_typed outs o) (last_typed env o))
