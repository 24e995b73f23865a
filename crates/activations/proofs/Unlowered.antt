-- A package without activations is what its lowering writes, and its pack is copied out as it is.
use Prim.Native.Nat.{ℕ}
use mathlib.Core.List.{List, []}
use mathlib.Core.Path.{◌≡◌, sym, ap, ◌∙◌}
use lib.ListN.{length}
use Rattle.wire.specs.Lists.{Bytes}
use Rattle.pack.specs.declared.record.Pack.{Pack}
use Rattle.pack_rules.specs.Syntax.{Activation, Package}
use Rattle.pack_rules.specs.Read.{activation_in}
use Rattle.pack_rules.specs.Outcome.{Answers, Gives, sized, written}
use Rattle.pack.specs.Verdict.{SectionsAt}
use Rattle.wire.specs.declared.answer.Number.{Number}
use Rattle.machines.specs.CheckedReads.{number_in}
use Rattle.machines.specs.CallTables.{OpenedAs}
use Rattle.machine_rules.specs.Machines.{start}
use Rattle.machine_rules.specs.Call.{report_or_pack}
use Rattle.activation_rules.specs.Activations.{activate_each, activations_lowered, made_activations}
use Rattle.activation_rules.specs.Call.{lower_activations, lower_package_activations}
use Rattle.machines.proofs.ByVerdict.{copied-by, opened-by}
use Rattle.machines.proofs.Unlowered.{counts-none}

no-activations : (p : Package) → p.activations ≡ [] → (output report : ℕ) → lower_package_activations output report p ≡ written output p
unfolding lower_package_activations report_or_pack made_activations activate_each start activations_lowered
no-activations p e output report =
    ap (λ (As : List Activation). report_or_pack output report (activate_each As (start p)).refusals (activations_lowered p (activate_each As (start p)))) e
    ∙ (λ j. written output (record { names = p.names; enums = p.enums; nodes = p.nodes; machines = p.machines; activations = sym e j; origins = p.origins }))

-- the call on a pack that was opened: copied out where it has no activations, else answered as its package is
module _ (s : List ℕ) (k : Pack) (o : OpenedAs s k) (number value : ℕ) (output output' report : List ℕ) where
  pub copied-out : Bytes s → (m : Number) → m ≡ number_in s k.activations → m.value ≡ 0 → Gives (sized (length output) s) number value output output'
      → Answers (lower_activations s (length output) (length report)) number value output output' report report
  unfolding lower_activations
  copied-out by m e z g =
      let n = counts-none (activation_in o.held.names s) s k.activations o.held.activations k.origins m o.stands.activations e z in
      copied-by s k o by (lower_package_activations (length output) (length report)) number value output output' report (no-activations o.held n (length output) (length report)) g

  pub opened_out : (report' : List ℕ) → ((p : Package) → SectionsAt s k p → Answers (lower_package_activations (length output) (length report) p) number value output output' report report')
      → Answers (lower_activations s (length output) (length report)) number value output output' report report'
  unfolding lower_activations
  opened_out report' g = opened-by s k o (lower_package_activations (length output) (length report)) number value output output' report report' g
