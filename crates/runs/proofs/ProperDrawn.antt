-- Machines and activations of a legal package may be written.
use Prim.Native.Nat.{ℕ, zero, suc, ◌-◌}
use mathlib.Core.List.{List, ◌∷◌, ◌++◌}
use mathlib.Core.Option.{Option, none, some}
use Rattle.wire.specs.Bytes.{two}
use Rattle.wire.specs.Lists.{All}
use Rattle.pack_rules.specs.Legal.{Allowed, Deeper, Each, FormedActivation, FormedBranch, FormedMachine, FormedRegions, FormedStates}
use Rattle.pack_rules.specs.Limits.{max_level}
use Rattle.pack_rules.specs.Names.{Name}
use Rattle.pack_rules.specs.Syntax.{Activation, Branch, MachineDef, RegionDefs, StateDefs, def_cons, def_nil, reg_cons, reg_nil}
use Rattle.pack_rules.specs.Write.{activation_items, branch_items, drawn_count, drawn_items, equation_items, expr_items, list, machine_items, nm, option_items, port_items, raw, region_count, region_items, transition_items}
use Rattle.runs.proofs.Proper.{Fair, ProperE, ProperPort, ProperQ, ProperT, all_both, equations-proper, expr-proper, fair_l, fair_r, list_all, ports-proper, transitions-proper}

-- machines as drawn
unfoldable mutual
  pub ProperD : StateDefs → Type 0
  ProperD def_nil = Unit {0}
  ProperD (def_cons s es ts rs f rest) = Allowed s × All ProperQ es × All ProperT ts × ProperG rs × ProperD rest

  pub ProperG : RegionDefs → Type 0
  ProperG reg_nil = Unit {0}
  ProperG (reg_cons i h ss rest) = Allowed i × ProperD ss × ProperG rest

from-deeper : (P : ℕ → Type 0) (Q : Type 0) (levels : ℕ) → ((l : ℕ) → P l → Q) → Deeper P levels → Q
unfolding Deeper
from-deeper P Q zero f h = absurd h
from-deeper P Q (suc l) f h = f l h

mutual
  unfolding ProperD ProperG FormedStates FormedRegions drawn_items region_items Each

  drawn-proper : (d : StateDefs) (levels : ℕ) → FormedStates d levels → Fair (drawn_items d) → ProperD d
  drawn-proper def_nil levels o h = tt
  drawn-proper (def_cons s es ts rs f rest) levels o h =
      let e = list equation_items es in let t = list transition_items ts in let q = region_items rs in let w = option_items f in
      let x = q ++ (w ++ drawn_items rest) in
      let y = raw (two (region_count rs)) ∷ x in
      let a = fair_r e (t ++ y) h.1 in
      let b = fair_r t y a in
      let c = fair_r q (w ++ drawn_items rest) b in
      (h.0, equations-proper es o.0.0 (fair_l e (t ++ y) h.1), transitions-proper ts o.0.1 (fair_l t y a), regions-proper rs levels o.0.2 (fair_l q (w ++ drawn_items rest) b), drawn-proper rest levels o.1 (fair_r w (drawn_items rest) c))

  regions-proper : (d : RegionDefs) (levels : ℕ) → FormedRegions d levels → Fair (region_items d) → ProperG d
  regions-proper reg_nil levels o h = tt
  regions-proper (reg_cons i b ss rest) levels o h =
      let k = fair_l (drawn_items ss) (region_items rest) h.1 in
      (h.0, from-deeper (λ l. FormedStates ss l) (ProperD ss) levels (λ l p. drawn-proper ss l p k) o.0, regions-proper rest levels o.1 (fair_r (drawn_items ss) (region_items rest) h.1))

unfoldable pub AllowedOption : Option Name → Type 0
AllowedOption none = Unit {0}
AllowedOption (some n) = Allowed n

option-allowed : (f : Option Name) → Fair (option_items f) → AllowedOption f
unfolding option_items AllowedOption Each
option-allowed none h = tt
option-allowed (some n) h = h.0

pub record ProperDrawing (d : MachineDef) : Type 0 where
  pub name : Allowed d.name
  pub owner : AllowedOption d.owner
  pub inputs : All ProperPort d.inputs
  pub outputs : All ProperPort d.outputs
  pub locals : All ProperPort d.locals
  pub initial : Allowed d.initial
  pub states : ProperD d.states

drawing-proper : (m : MachineDef) → FormedMachine m → Fair (machine_items m) → ProperDrawing m
unfolding machine_items Each
drawing-proper m o h =
    let w = option_items m.owner in let i = list port_items m.inputs in let u = list port_items m.outputs in let l = list port_items m.locals in
    let z = nm m.initial ∷ raw (two (drawn_count m.states)) ∷ drawn_items m.states in
    let a = fair_r w (i ++ (u ++ (l ++ z))) h.1 in
    let b = fair_r i (u ++ (l ++ z)) a in
    let c = fair_r u (l ++ z) b in
    let d = fair_r l z c in
    record {
      name = h.0;
      owner = option-allowed m.owner (fair_l w (i ++ (u ++ (l ++ z))) h.1);
      inputs = ports-proper m.inputs o.0 (fair_l i (u ++ (l ++ z)) a);
      outputs = ports-proper m.outputs o.1 (fair_l u (l ++ z) b);
      locals = ports-proper m.locals o.2 (fair_l l z c);
      initial = d.0;
      states = drawn-proper m.states (max_level - 1) o.3 d.1;
    }

pub drawings-proper : (ms : List MachineDef) → All FormedMachine ms → Fair (list machine_items ms) → All ProperDrawing ms
drawings-proper ms o h = all_both FormedMachine (λ m. Fair (machine_items m)) ProperDrawing ms drawing-proper o (list_all machine_items ms h)

-- activations
pub record ProperBranch (b : Branch) : Type 0 where
  pub name : Allowed b.name
  pub condition : ProperE b.condition
  pub equations : All ProperQ b.equations

pub record ProperActivation (a : Activation) : Type 0 where
  pub name : Allowed a.name
  pub owner : Allowed a.owner
  pub outputs : All ProperPort a.outputs
  pub branches : All ProperBranch a.branches
  pub else_equations : All ProperQ a.else_equations

branch-proper : (b : Branch) → FormedBranch b → Fair (branch_items b) → ProperBranch b
unfolding branch_items Each
branch-proper b o h =
    let c = expr_items b.condition in let e = list equation_items b.equations in
    record { name = h.0; condition = expr-proper b.condition o.0 (fair_l c e h.1); equations = equations-proper b.equations o.1 (fair_r c e h.1) }

activation-proper : (a : Activation) → FormedActivation a → Fair (activation_items a) → ProperActivation a
unfolding activation_items Each
activation-proper a o h =
    let i = list port_items a.outputs in let b = list branch_items a.branches in let e = list equation_items a.else_equations in
    let c = fair_r i (b ++ e) h.1.1 in
    record {
      name = h.0;
      owner = h.1.0;
      outputs = ports-proper a.outputs o.0 (fair_l i (b ++ e) h.1.1);
      branches = all_both FormedBranch (λ x. Fair (branch_items x)) ProperBranch a.branches branch-proper o.1 (list_all branch_items a.branches (fair_l b e c));
      else_equations = equations-proper a.else_equations o.2 (fair_r b e c);
    }

pub activations-proper : (xs : List Activation) → All FormedActivation xs → Fair (list activation_items xs) → All ProperActivation xs
activations-proper xs o h = all_both FormedActivation (λ a. Fair (activation_items a)) ProperActivation xs activation-proper o (list_all activation_items xs h)
