-- A package without machines is what its lowering writes, and its pack is copied out as it is.
use Prim.Native.Nat.{ℕ}
use mathlib.Core.List.{List, []}
use mathlib.Core.Path.{◌≡◌, sym, ap, ◌∙◌}
use lib.ListN.{length}
use Rattle.wire.specs.Answer.{Answer, counted, value}
use Rattle.wire.specs.Lists.{Bytes}
use Rattle.pack.specs.declared.record.Pack.{Pack}
use Rattle.pack_rules.specs.Syntax.{MachineDef, Package}
use Rattle.pack_rules.specs.Read.{machine_in}
use Rattle.pack_rules.specs.Outcome.{Answers, Gives, sized, written}
use Rattle.pack.specs.Verdict.{SectionsAt}
use Rattle.wire.specs.declared.answer.Number.{Number}
use Rattle.machines.specs.CheckedReads.{number_in}
use Rattle.machines.specs.CallTables.{OpenedAs}
use Rattle.machine_rules.specs.Machines.{lower_each, machines_lowered, made_machines, start}
use Rattle.machine_rules.specs.Call.{lower_machines, lower_package_machines, report_or_pack}
use Rattle.machines.proofs.ListsShown.{counted-parts, none-long}
use Rattle.machines.proofs.ByVerdict.{copied-by, opened-by}

-- a list that was read, and counts 0, has nothing
pub counts-none : {A : Type 0} (r : ℕ → Answer A) (s : List ℕ) (at : ℕ) (xs : List A) (q : ℕ) (m : Number) → counted r s at ≡ value xs q → m ≡ number_in s at → m.value ≡ 0 → xs ≡ []
counts-none r s at xs q m h e z = none-long xs (sym (ap (λ (n : Number). n.value) (e ∙ (counted-parts r s at xs q h).0)) ∙ z)

pub no-machines : (p : Package) → p.machines ≡ [] → (output report : ℕ) → lower_package_machines output report p ≡ written output p
unfolding lower_package_machines report_or_pack made_machines lower_each start machines_lowered
no-machines p e output report =
    ap (λ (ds : List MachineDef). report_or_pack output report (lower_each p.machines ds (start p)).refusals (machines_lowered p (lower_each p.machines ds (start p)))) e
    ∙ (λ j. written output (record { names = p.names; enums = p.enums; nodes = p.nodes; machines = sym e j; activations = p.activations; origins = p.origins }))

-- the call on a pack that was opened: copied out where it has no machines, else answered as its package is
module _ (s : List ℕ) (k : Pack) (o : OpenedAs s k) (number value : ℕ) (output output' report : List ℕ) where
  pub copied-out : Bytes s → (m : Number) → m ≡ number_in s k.machines → m.value ≡ 0 → Gives (sized (length output) s) number value output output'
      → Answers (lower_machines s (length output) (length report)) number value output output' report report
  unfolding lower_machines
  copied-out by m e z g =
      let n = counts-none (machine_in o.held.names s) s k.machines o.held.machines k.activations m o.stands.machines e z in
      copied-by s k o by (lower_package_machines (length output) (length report)) number value output output' report (no-machines o.held n (length output) (length report)) g

  pub opened_out : (report' : List ℕ) → ((p : Package) → SectionsAt s k p → Answers (lower_package_machines (length output) (length report) p) number value output output' report report')
      → Answers (lower_machines s (length output) (length report)) number value output output' report report'
  unfolding lower_machines
  opened_out report' g = opened-by s k o (lower_package_machines (length output) (length report)) number value output output' report report' g
