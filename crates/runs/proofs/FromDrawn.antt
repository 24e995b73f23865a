-- The premises as they are drawn give those of the claim, and so the claim.
use Prim.Native.Nat.{ℕ}
use mathlib.Core.List.{List}
use mathlib.Core.Bool.{Bool, true, false}
use mathlib.Core.Path.{◌≡◌, refl}
use Rattle.pack_rules.specs.Names.{Name, member}
use Rattle.pack_rules.specs.Syntax.{Activation, Package}
use Rattle.machine_rules.specs.Resolved.{ResolvedMachine}
use Rattle.machine_rules.specs.MadeNames.{sm_prefix}
use Rattle.machine_rules.specs.Resolve.{as_machine}
use Rattle.activation_rules.specs.MadeNames.{act_prefix}
use Rattle.run_rules.specs.DemandPremises.{DrawnAct, DrawnMachine, enum_values, none_starts, values_in}
use Rattle.runs.specs.Claim.{DemandDrawn}
use Rattle.run_rules.specs.Chart.{Guards}
use Rattle.run_rules.specs.Premises.{ActPremises, MachinePremises, starts_with}
use Rattle.run_rules.specs.Run.{Run}
use Rattle.run_rules.specs.Scopes.{Conditions}
use Rattle.run_rules.proofs.Booleans.{true-false}
use Rattle.runs.proofs.Demand.{demand-three}
use Rattle.run_rules.proofs.Prefixes.{not-member}

-- what begins with a prefix is no enum value, where those that may be one do not
pub none_made : {O : Type 0} (R : Run O) (p : Name) (l : List Name) → ((x : Name) → R.enums x ≡ true → member x l ≡ true) → none_starts p l ≡ true → (x : Name) → starts_with p x ≡ true → R.enums x ≡ false
none_made R p l within free x s = go (R.enums x) refl
  where
    go : (b : Bool) → R.enums x ≡ b → R.enums x ≡ false
    go true e = absurd (true-false {b = member x l} (within x e) (not-member p x l s free))
    go false e = e

pub machine-drawn : {O : Type 0} (R : Run O) (N : ℕ) (G : Guards) (p : Package) (m : ResolvedMachine) → DrawnMachine R N G p m → MachinePremises R N G m
machine-drawn R N G p m D =
    record { states = D.states; free = none_made R sm_prefix (values_in p m) D.enums D.free; base = D.base; guards = D.guards; sides = D.sides }

pub act-drawn : {O : Type 0} (R : Run O) (N : ℕ) (C : Conditions) (p : Package) (A : Activation) → DrawnAct R N C p A → ActPremises R N C A
act-drawn R N C p A D = record { free = none_made R act_prefix (enum_values p.enums) D.enums D.free; base = D.base; conditions = D.conditions }

-- from the answer 0 and the demand's own premises to its claim
pub demand-drawn : DemandDrawn
demand-drawn =
    record {
      machines = λ O s output report by e.
          let w = demand-three.machines O s output report by e in
          record {
            written = w;
            runs = λ pre d post here R N G D sat.
                let c = w.lowered.for_each pre d post here in
                c.runs R N G (machine-drawn R N G w.lowered.input (as_machine d c.states) D) sat;
          };
      activations = λ O s output report by e.
          let w = demand-three.activations O s output report by e in
          record { written = w; runs = λ pre A post here R N C D sat. (w.lowered.for_each pre A post here).runs R N C (act-drawn R N C w.lowered.input A D) sat };
    }
