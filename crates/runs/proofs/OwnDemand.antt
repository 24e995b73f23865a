-- Scopes on their own cycles: for every activation of a pack that is lowered, and for what a call leaves in the caller's buffers.
use Prim.Native.Nat.{ℕ}
use mathlib.Core.List.{List, [], ◌++◌, ◌∷◌}
use mathlib.Core.Bool.{Bool, false, not, true}
use mathlib.Core.Path.{◌∙◌, ◌≡◌, ap, refl, subst, sym}
use borrow.Author.Tests.{not-true}
use lib.ListN.{length, take}
use Rattle.wire.specs.Lists.{Bytes}
use Rattle.pack.proofs.Tables.{eq_name-true}
use Rattle.pack_rules.specs.Legal.{completed, with_names}
use Rattle.pack_rules.specs.Names.{Name, eq_name, member}
use Rattle.pack_rules.specs.Outcome.{Answers, writes}
use Rattle.pack_rules.specs.Syntax.{Activation, Node, Package, of_activation}
use Rattle.activation_rules.specs.Activations.{activations_lowered, made_activations}
use Rattle.activation_rules.specs.Call.{lower_activations}
use Rattle.activation_rules.specs.Checks.{branch_names, else_name}
use Rattle.activation_rules.specs.Lower.{act_equations}
use Rattle.activation_rules.specs.Types.{port_names, variables}
use Rattle.run_rules.specs.DemandPremises.{enum_values}
use Rattle.runs.specs.Claim.{MachinesLowered, may_read}
use Rattle.runs.specs.OwnCycles.{OwnCycles, ScopesClaim, ScopesKept, ScopesLowered, ScopesRun}
use Rattle.run_rules.specs.Visits.{DrawnScopes, ScopePremises, apart_from}
use Rattle.run_rules.specs.Run.{Run, Satisfies}
use Rattle.run_rules.specs.Scopes.{Conditions}
use Rattle.runs.specs.Placement.{act_equations_in, activations_before}
use Rattle.runs.proofs.ActsStand.{ActWritten, act-written}
use Rattle.run_rules.proofs.Booleans.{&&-true, or_split, true-false, ≡→T}
use Rattle.runs.proofs.Demand.{act-stands}
use Rattle.runs.proofs.FromDrawn.{act-drawn}
use Rattle.runs.proofs.InBuffers.{written-bytes}
use Rattle.runs.proofs.OwnScopes.{scopes-run}
use Rattle.runs.proofs.ReadsBack.{activations-read-back, less_activations, whole_same}
use Rattle.runs.proofs.Zero.{activations-zero}

-- the premises as they are drawn give those of the run
not_in : (x : Name) (k l : List Name) → apart_from k l ≡ true → member x k ≡ true → member x l ≡ false
unfolding apart_from member
not_in x [] l h m = absurd (≡→T false m)
not_in x (y ∷ k) l h m = go (eq_name x y) refl (λ (q : member x k ≡ true). not_in x k l p.1 q)
  where
    p : (not (member y l) ≡ true) × (apart_from k l ≡ true)
    p = &&-true (not (member y l)) (apart_from k l) h

    go : (b : Bool) → eq_name x y ≡ b → (member x k ≡ true → member x l ≡ false) → member x l ≡ false
    go true e r = ap (λ (z : Name). member z l) (eq_name-true x y e) ∙ not-true (member y l) p.0
    go false e r = r (or_split (eq_name x y) (member x k) m e)

pub scopes-drawn : {O : Type 0} (R : Run O) (N : ℕ) (C : Conditions) (p : Package) (A : Activation) (owner : Node) → DrawnScopes R N C p A owner → ScopePremises R N C A owner
scopes-drawn R N C p A owner D =
    record { act = act-drawn R N C p A D.act; apart = apart; simple-conditions = D.simple-conditions; simple-sides = D.simple-sides; sources = D.sources }
  where
    apart : (x : Name) → member x (port_names (variables owner) ++ port_names A.outputs) ≡ true → R.enums x ≡ false
    apart x m = go (R.enums x) refl
      where
        go : (b : Bool) → R.enums x ≡ b → R.enums x ≡ false
        go true e = absurd (true-false {b = member x (enum_values p.enums)} (D.act.enums x e) (not_in x (port_names (variables owner) ++ port_names A.outputs) (enum_values p.enums) D.apart m))
        go false e = e

-- one activation of a package
scopes-claim : (O : Type 0) (p : Package) → (made_activations p).refusals ≡ [] → (pre : List Activation) (A : Activation) (post : List Activation) → p.activations ≡ pre ++ (A ∷ post) → ScopesClaim O p (completed (less_activations p)) pre A
unfolding completed with_names activations_lowered
scopes-claim O p unrefused pre A post e =
    let w : ActWritten p pre A = act-written p unrefused pre A post e in
    let vars = may_read A w.owner w.pass.ports in
    let all : (R : Run O) (N : ℕ) (C : Conditions) → ScopePremises R N C A w.owner → Satisfies R N (act_equations_in (activations_before p pre) (made_activations p).nodes (made_activations p).origins) → ScopesRun R N C p.enums A w.owner =
    λ R N C P sat.
    scopes-run R N C p.enums A w.owner w.pass P
    (act-stands R N of_activation A.name A.owner (branch_names A.branches ++ (else_name ∷ [])) (act_equations A w.pass.holders vars) (activations_before p pre) (made_activations p).nodes (made_activations p).origins w.place sat) in
    record { owner = w.owner; owns = w.owns; drawn = λ R N C D sat. all R N C (scopes-drawn R N C p A w.owner D) sat; runs = all }

-- a pack of activations that is lowered to b
pub scopes-lowered : (O : Type 0) (s : List ℕ) (output report : ℕ) (b : List ℕ) → Bytes s → lower_activations s output report ≡ writes b → ScopesLowered O s b
unfolding completed with_names activations_lowered
scopes-lowered O s output report b by e =
    let w = activations-read-back s output report b by e in
    let p = w.input in
    record { input = p; reads = w.reads; output = completed (less_activations p); reads_back = w.reads_back; nodes = refl; origins = refl; for_each = scopes-claim O p w.unrefused }

-- every pack, every two buffer lengths
pub own-cycles : OwnCycles
own-cycles =
    record {
      activations = λ O s output report by e.
          let z = activations-zero s output report e in
          record { pack = z.pack; result = z.result; lowered = scopes-lowered O s output report z.pack by z.result };
    }

-- `lower_activations` returned 0: the same of the bytes that it wrote
pub scope-bytes-run : (O : Type 0) (s output output' report report' : List ℕ) (number value : ℕ) → Bytes s → Answers (lower_activations s (length output) (length report)) number value output output' report report' → number ≡ 0
    → ScopesLowered O s (take value output')
scope-bytes-run O s output output' report report' number value by a e =
    let z = activations-zero s (length output) (length report) (sym a.gives.number_is ∙ e) in
    subst (λ (b : List ℕ). ScopesLowered O s b) (sym (written-bytes (lower_activations s (length output) (length report)) number value output output' z.pack a.gives z.result)) (scopes-lowered O s (length output) (length report) z.pack by z.result)

-- both calls answered 0, the second on the pack that the first wrote
pub scopes-kept : (O : Type 0) (s b c : List ℕ) (output report : ℕ) → MachinesLowered O s b → Bytes b → lower_activations b output report ≡ writes c → ScopesKept O s b c
scopes-kept O s b c output report m by e =
    let L = scopes-lowered O b output report c by e in
    let q : L.input ≡ m.output = whole_same L.input m.output (sym L.reads ∙ m.reads_back) in
    record {
      machines = m;
      activations = L;
      for_each = λ pre A post h.
          subst (λ (x : Package). x.activations ≡ pre ++ (A ∷ post) → ScopesClaim O x L.output pre A) q (λ k. L.for_each pre A post k) (m.activations ∙ h);
    }
