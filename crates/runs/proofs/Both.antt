-- A node that owns a machine and an activation, as a pack: both are lowered, one after the other.
use Prim.Native.Nat.{ℕ}
use mathlib.Core.List.{List, [], ◌∷◌}
use mathlib.Core.Bool.{true}
use mathlib.Core.Path.{◌≡◌, refl, sym, ap, ◌∙◌}
use Rattle.pack_rules.specs.Limits.{max_bytes}
use Rattle.pack_rules.specs.Names.{Name}
use Rattle.pack_rules.specs.Outcome.{Outcome, writes}
use Rattle.pack_rules.specs.Syntax.{Activation, Node, Package, e_call, e_var, k_operator, t_bool, x_cons, x_nil}
use Rattle.pack_rules.specs.Write.{encode}
use Rattle.pack.proofs.WrittenBack.{small_bytes}
use Rattle.machine_rules.specs.Call.{lower_machines}
use Rattle.activation_rules.specs.Call.{lower_activations}
use Rattle.activation_rules.specs.LastCalls.{last_name}
use Rattle.runs.specs.Claim.{MachinesKept}
use Rattle.runs.proofs.BothLowered.{both-lowered}
use Rattle.runs.proofs.Computing.{machines_number, pack_in, second_number, second_small, small}
use Rattle.runs.proofs.Demand.{machines-lowered}
use Rattle.run_rules.proofs.ChartFacts.{Off, On, P, Q, o, swap}
use Rattle.runs.proofs.Owned.{F, owned}
use Rattle.runs.proofs.Zero.{Zero, activations-zero, machines-zero}

abbrev v : Name
v = 118 ∷ []

abbrev z : Name
z = 122 ∷ []

abbrev a : Name
a = 65 ∷ 99 ∷ 116 ∷ []

-- z is `last v` where `swap` is true, else v
unfoldable pub act : Activation
unfolding last_name
act =
    record {
      name = a;
      owner = F;
      outputs = record { name = z; ty = t_bool } ∷ [];
      branches = record { name = swap; condition = e_var swap; equations = record { lhs = z ∷ []; rhs = e_call last_name (x_cons (e_var v) x_nil) } ∷ [] } ∷ [];
      else_equations = record { lhs = z ∷ []; rhs = e_var v } ∷ [];
    }

unfoldable pub node : Node
node =
    record {
      name = F;
      kind = k_operator;
      inputs = record { name = swap; ty = t_bool } ∷ record { name = v; ty = t_bool } ∷ [];
      outputs = record { name = o; ty = t_bool } ∷ record { name = z; ty = t_bool } ∷ [];
      locals = [];
      equations = [];
    }

unfoldable pub held : Package
unfolding last_name
held =
    record {
      names = F ∷ swap ∷ o ∷ v ∷ z ∷ a ∷ last_name ∷ (77 ∷ []) ∷ On ∷ Off ∷ P ∷ Q ∷ [];
      enums = [];
      nodes = node ∷ [];
      machines = owned ∷ [];
      activations = act ∷ [];
      origins = [];
    }

-- what is written last
unfoldable pub last : List ℕ
last = pack_in (lower_activations (pack_in (lower_machines (encode held) max_bytes max_bytes)) max_bytes max_bytes)

written : (x : Outcome) → Zero x → x ≡ writes (pack_in x)
unfolding pack_in
written x h = h.result ∙ ap writes (ap pack_in (sym h.result))

answered : (machines_number held ≡ 0) × (small held ≡ true) × (second_small held ≡ true) × (second_number held ≡ 0)
unfolding held node act owned last_name machines_number small second_small second_number
answered = (refl, refl, refl, refl)

pub both_run : MachinesKept ℕ (encode held) last
unfolding machines_number small second_small second_number last
both_run =
    let x = lower_machines (encode held) max_bytes max_bytes in
    let y = lower_activations (pack_in x) max_bytes max_bytes in
    both-lowered ℕ (encode held) (pack_in x) (pack_in y) max_bytes max_bytes
    (machines-lowered ℕ (encode held) max_bytes max_bytes (pack_in x) (small_bytes (encode held) answered.1) (written x (machines-zero (encode held) max_bytes max_bytes answered.0)))
    (small_bytes (pack_in x) answered.2)
    (written y (activations-zero (pack_in x) max_bytes max_bytes answered.3))
