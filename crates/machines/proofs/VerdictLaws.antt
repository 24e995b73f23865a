-- The refusals of the definition are those among the verdicts, and where there are none the verdicts are the shares.
use mathlib.Core.List.{List, [], ◌∷◌, ◌++◌, cons-ne-nil}
use mathlib.Core.Bool.{Bool, true, false, cond}
use mathlib.Core.Option.{Option, none, some}
use mathlib.Core.Path.{◌≡◌, refl, sym, ap, subst, ◌∙◌}
use Prim.Native.Nat.{ℕ}
use Rattle.pack_rules.specs.Names.{Name, member}
use Rattle.pack_rules.specs.Syntax.{MachineDef, Package}
use Rattle.machine_rules.specs.Resolved.{ResolvedMachine}
use Rattle.pack_rules.specs.Report.{Refusal}
use Rattle.machine_rules.specs.Refusals.{unknown_owner}
use Rattle.machine_rules.specs.Machines.{MachineVerdict, accept, judge, made_machines, refuse}
use Rattle.machines.specs.Sections.{fate_of, fate_then, fates, into, names_with, node_names, share_of, shares, shares_of}
use Rattle.machines.specs.RefusalsIn.{names_then, refusals, refused_in}
use Rattle.machines.specs.Verdicts.{AcceptedAs, Verdict, VerdictAs, VerdictOf, all_go, goes_as, refused_for, refused_only, verdict_in, verdicts}
use Rattle.machines.proofs.Refused.{made-refusals}

-- the number of regions of a machine, from how it was judged
module _ (ms : List MachineDef) (d : MachineDef) (g : ℕ) where
  pub told-refused : (r : Refusal) → judge ms d ≡ refuse r → g ≡ 0 → VerdictAs ms d g
  unfolding VerdictAs VerdictOf
  told-refused r e h = subst (λ (j : MachineVerdict). VerdictOf ms d j g) (sym e) h

  pub told-accepted : (x : ResolvedMachine) → judge ms d ≡ accept x → AcceptedAs ms d x g → VerdictAs ms d g
  unfolding VerdictAs VerdictOf
  told-accepted x e h = subst (λ (j : MachineVerdict). VerdictOf ms d j g) (sym e) h

-- one machine more
refused-first : (ns : List Name) (o : Option Name) (j : MachineVerdict) (rs : List Refusal) (vs : List Verdict) → rs ≡ refused_only vs → refused_in ns o j ++ rs ≡ refused_only (verdict_in ns o j ∷ vs)
unfolding refused_in verdict_in refused_only
refused-first ns none (refuse r) rs vs e = ap (λ l. r ∷ l) e
refused-first ns (some o) (refuse r) rs vs e = ap (λ l. r ∷ l) e
refused-first ns none (accept m) rs vs e = e
refused-first ns (some o) (accept m) rs vs e = go (member o ns)
  where
    go : (b : Bool) → cond b [] (unknown_owner m.name o ∷ []) ++ rs ≡ refused_only (cond b (goes_as (share_of ns (into o m))) (refused_for (unknown_owner m.name o)) ∷ vs)
    go true = e
    go false = ap (λ l. unknown_owner m.name o ∷ l) e

-- THE LAW: the refusals are those among the verdicts
pub verdicts-refuse : (all ds : List MachineDef) (ns : List Name) → refusals all ds ns ≡ refused_only (verdicts all ds ns)
unfolding refusals verdicts refused_only
verdicts-refuse all [] ns = refl
verdicts-refuse all (d ∷ ds) ns =
    let ms = names_then ns d.owner (judge all d) in
    refused-first ns d.owner (judge all d) (refusals all ds ms) (verdicts all ds ms) (verdicts-refuse all ds ms)

-- a machine that is not refused goes by its fate
goes_first : (ns : List Name) (o : Option Name) (j : MachineVerdict) (vs : List Verdict) → refused_only (verdict_in ns o j ∷ vs) ≡ []
    → (m : ResolvedMachine) × (j ≡ accept m) × (verdict_in ns o j ≡ goes_as (share_of ns (fate_of o m))) × (names_then ns o j ≡ names_with ns (fate_of o m)) × (refused_only vs ≡ [])
unfolding verdict_in refused_only names_then names_with fate_of
goes_first ns none (refuse r) vs e = absurd (cons-ne-nil r (refused_only vs) e)
goes_first ns (some o) (refuse r) vs e = absurd (cons-ne-nil r (refused_only vs) e)
goes_first ns none (accept m) vs e = (m, refl, refl, refl, e)
goes_first ns (some o) (accept m) vs e = go (member o ns) e
  where
    v : Bool → Verdict
    v b = cond b (goes_as (share_of ns (into o m))) (refused_for (unknown_owner m.name o))

    go : (b : Bool) → refused_only (v b ∷ vs) ≡ [] → (n : ResolvedMachine) × (accept m ≡ accept n) × (v b ≡ goes_as (share_of ns (into o n))) × (ns ≡ ns) × (refused_only vs ≡ [])
    go true f = (m, refl, refl, refl, f)
    go false f = absurd (cons-ne-nil _ (refused_only vs) f)

-- THE LAW: where nothing is refused, all go, and as the shares of their fates
pub verdicts-go : (all ds : List MachineDef) (ns : List Name) → refused_only (verdicts all ds ns) ≡ [] → verdicts all ds ns ≡ all_go (shares ns (fates all ds))
unfolding verdicts fates shares all_go fate_then
verdicts-go all [] ns e = refl
verdicts-go all (d ∷ ds) ns e =
    let h = goes_first ns d.owner (judge all d) _ e in
    let f = fate_of d.owner h.0 in
    (λ i. h.2 i ∷ verdicts all ds (h.3 i))
    ∙ ap (λ l. goes_as (share_of ns f) ∷ l) (verdicts-go all ds (names_with ns f) (ap (λ l. refused_only (verdicts all ds l)) (sym h.3) ∙ h.4))
    ∙ ap (λ (j : MachineVerdict). all_go (shares ns (fate_then d.owner j (fates all ds)))) (sym h.1)

-- of a package's machines
pub package-refuses : (p : Package) → (made_machines p).refusals ≡ refused_only (verdicts p.machines p.machines (node_names p.nodes))
package-refuses p = made-refusals p ∙ verdicts-refuse p.machines p.machines (node_names p.nodes)

pub package-goes : (p : Package) → (made_machines p).refusals ≡ [] → verdicts p.machines p.machines (node_names p.nodes) ≡ all_go (shares_of p)
unfolding shares_of
package-goes p e = verdicts-go p.machines p.machines (node_names p.nodes) (sym (package-refuses p) ∙ e)
