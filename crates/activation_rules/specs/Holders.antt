-- Holders: each keeps a variable's value of a cycle ago.
use Rattle.std.specs.Prelude.{List, [], ◌∷◌, ◌++◌}
use Rattle.std.proofs.Math.Option.{Option, none, some}
use Rattle.pack_rules.specs.Names.{Name}
use Rattle.pack_rules.specs.Report.{Refusal, first_of}
use Rattle.pack_rules.specs.Syntax.{Enum, Equation, Expr, Port, Ty, e_arrow, e_pre, e_var}
use Rattle.activation_rules.specs.Refusals.{last_needs_init, last_unknown}
use Rattle.activation_rules.specs.MadeNames.{last_var}
use Rattle.activation_rules.specs.Defines.{eqn}
use Rattle.activation_rules.specs.Sought.{Sought}
use Rattle.activation_rules.specs.Types.{typed}
use Rattle.activation_rules.specs.Defaults.{default_of}

-- a refusal, or the holders' locals and equations
pub data Holding : Type 0 where
  refused : Refusal → Holding
  holders_made : List Port → List Equation → Holding

-- a holder more, before others
unfoldable pub cons_holder : Port → Equation → Holding → Holding
cons_holder p e (refused r) = refused r
cons_holder p e (holders_made ps es) = holders_made (p ∷ ps) (e ∷ es)

-- the local of a holder, of its variable's type
unfoldable pub holder_port : Name → Name → Ty → Port
holder_port a v t = record { name = last_var a v; ty = t }

-- the initial value in the first cycle, then the variable's value of the cycle before
unfoldable pub holder_equation : Name → Name → Expr → Equation
holder_equation a v i = eqn (last_var a v) (e_arrow i (e_pre (e_var v)))

-- LastNeedsInit where there is no initial value, else the holder before what `rest` makes once it is known
unfoldable pub with_init : Name → Name → Ty → Option Expr → (Port → Holding) → Holding
with_init a v t none rest = refused (last_needs_init a v)
with_init a v t (some i) rest = cons_holder (holder_port a v t) (holder_equation a v i) (rest (holder_port a v t))

-- LastUnknown where the variable has no type; the given initial value stays, else its type's
unfoldable pub with_type : List Enum → Name → Sought → Option Ty → (Port → Holding) → Holding
with_type es a h none rest = refused (last_unknown a h.var)
with_type es a h (some t) rest = with_init a h.var t (first_of h.init (default_of es t)) rest

-- Activations: holders in order found, each known to those that follow
unfoldable pub make_holders : List Enum → Name → List Port → List Port → List Sought → Holding
make_holders es a env outs [] = holders_made [] []
make_holders es a env outs (h ∷ hs) = with_type es a h (typed env outs h.var) (λ p. make_holders es a (env ++ (p ∷ [])) outs hs)
