-- The answer to a pack that was opened: what the code reports or writes by its tables is the definition's outcome.
use Prim.Native.Nat.{ℕ, ◌-◌, ◌≤◌}
use mathlib.Core.List.{List, [], ◌++◌}
use mathlib.Core.Bool.{Bool, true, false, cond}
use mathlib.Core.Path.{◌≡◌, refl, sym, ap, subst, ◌∙◌}
use lib.ListN.{length}
use lib.Dec.{ltb}
use Rattle.wire.specs.Bytes.{two}
use Rattle.wire.specs.Lists.{Bytes}
use Rattle.pack_rules.specs.Limits.{max_bytes}
use Rattle.pack_rules.specs.Names.{Name}
use Rattle.pack_rules.specs.Syntax.{Package}
use Rattle.pack_rules.specs.Outcome.{Answers, Gives, Outcome, answers, report_of, reported, sized, writes, written}
use Rattle.pack.specs.Finish.{answered}
use Rattle.pack.specs.Table.{tabled}
use Rattle.pack_rules.specs.Report.{Refusal}
use Rattle.pack.specs.Verdict.{SectionsAt}
use Rattle.pack_rules.specs.Write.{Item, encode, package_items, shorts}
use Rattle.pack.specs.Intern.{render, table, unwritten}
use Rattle.pack.specs.declared.record.Pack.{Pack}
use Rattle.pack.proofs.Finished.{carried}
use Rattle.wire.specs.declared.answer.Number.{Number}
use Rattle.machines.specs.Layout.{slice_of}
use Rattle.machines.specs.CheckedReads.{number_in}
use Rattle.machine_rules.specs.Machines.{machines_lowered, made_machines}
use Rattle.machines.specs.AddedAt.{small_of, total_t}
use Rattle.machines.specs.EmitMachineAt.{AllWrite, Long, enums_at, equations_at}
use Rattle.machines.specs.WriteNodesAt.{sections_t}
use Rattle.machines.specs.OwnersAt.{refused_t}
use Rattle.machines.specs.ReportAt.{EntersAll, bytes_t, of_refused}
use Rattle.machines.specs.Verdicts.{SettledPack, entry_at, verdicts_of}
use Rattle.machines.specs.CallTables.{Empty, Filled, Reports, machine_count}
use Rattle.machine_rules.specs.Call.{lower_package_machines, report_or_pack}
use Rattle.machines.proofs.Resolved.{Ready}
use Rattle.machines.proofs.PackSettled.{pack-refused}
use Rattle.machines.proofs.TablesKnown.{machines-here, tables-ready, tables-settled}
use Rattle.machines.proofs.Opened.{entries-known, reported-known, written_known}
use Rattle.machines.proofs.CallLaws.{counted-machines}
use Rattle.machines.proofs.ListsShown.{none-long}

-- an answer by another name
pub answers-as : (x y : Outcome) (number value : ℕ) (output output' report report' : List ℕ) → x ≡ y → Answers x number value output output' report report' → Answers y number value output output' report report'
answers-as x y number value output output' report report' e a = record { gives = carried x y number value output output' e a.gives; report-is = a.report-is ∙ ap (λ (z : Outcome). report_of z report) e }

-- a pack leaves the report as it was
pub sized-quiet : (room : ℕ) (b report : List ℕ) → report ≡ report_of (sized room b) report
unfolding sized report_of
sized-quiet room b report = go (ltb max_bytes (length b)) (ltb room (length b))
  where
    go : (x y : Bool) → report ≡ report_of (cond x (answers 8 0) (cond y (answers 9 (length b)) (writes b))) report
    go true y = refl
    go false true = refl
    go false false = refl

pub written-quiet : (room : ℕ) (p : Package) (report : List ℕ) → report ≡ report_of (written room p) report
unfolding written report_of
written-quiet room p report = go (shorts (package_items p))
  where
    go : (a : Bool) → report ≡ report_of (cond a (sized room (encode p)) (answers 8 0)) report
    go true = sized-quiet room (encode p) report
    go false = refl

module _ (s : List ℕ) (k : Pack) (p : Package) (h : SectionsAt s k p) (bytes : Bytes s) (short : length s ≤ 65536)
    (offsets₀ to₀ nodes₀ defs₀ receivers₀ regcounts₀ offsets to nodes defs receivers regcounts : List ℕ) (e : Empty offsets₀ to₀ nodes₀ defs₀ receivers₀ regcounts₀)
    (f : (ns : List Name) → length ns ≡ k.names → Filled ns s k offsets₀ to₀ nodes₀ defs₀ receivers₀ regcounts₀ offsets to nodes defs receivers regcounts)
    (t reg qualified : List ℕ) (long : Long t reg qualified) (m : Number) (n : ℕ) (em : m ≡ number_in s k.machines) (en : n ≡ small_of m.value) where
  counted : n ≡ length p.machines
  counted = counted-machines s k m n em en ∙ machines-here s k p h bytes short

  its-tables : Ready s p.names p.machines offsets to
  its-tables = tables-ready s k p h bytes short offsets₀ to₀ nodes₀ defs₀ receivers₀ regcounts₀ offsets to nodes defs receivers regcounts e (f p.names h.count)

  its-fate : SettledPack s p defs receivers regcounts
  its-fate = tables-settled s k p h bytes short offsets₀ to₀ nodes₀ defs₀ receivers₀ regcounts₀ offsets to nodes defs receivers regcounts e (f p.names h.count) t reg qualified long

  its-entries : EntersAll p.names s offsets to defs regcounts receivers n (entry_at (verdicts_of p))
  its-entries = subst (λ (y : ℕ). EntersAll p.names s offsets to defs regcounts receivers y (entry_at (verdicts_of p))) (sym counted) (entries-known s k p h bytes offsets to its-tables defs receivers regcounts its-fate)

  pub reports-known : Reports s offsets to defs regcounts receivers k.names n
  reports-known = record { ns = p.names; count = h.count; es = entry_at (verdicts_of p); enters = its-entries }

  module _ (refused : ℕ) (er : refused ≡ total_t (refused_t receivers) (machine_count s k) 0) where
    all-refused : refused ≡ length (made_machines p).refusals
    all-refused = er ∙ ap (λ y. total_t (refused_t receivers) y 0) (machines-here s k p h bytes short) ∙ pack-refused s p defs receivers regcounts its-fate

    -- where something is refused
    pub answers-reported : (refused ≡ 0 → ⊥) → (number value : ℕ) (output report report' : List ℕ)
        → ((ns : List Name) → length ns ≡ k.names → (es : ℕ → List ℕ) → EntersAll ns s offsets to defs regcounts receivers n es → (o : List ℕ) → Answers (reported (length report) (two refused ++ bytes_t (of_refused receivers es) n 0)) number value o o report report')
        → Answers (lower_package_machines (length output) (length report) p) number value output output report report'
    answers-reported some number value output report report' g =
        answers-as _ _ number value output output report report'
        (ap (λ y. reported (length report) (two refused ++ bytes_t (of_refused receivers (entry_at (verdicts_of p))) y 0)) counted
        ∙ reported-known s k p h bytes offsets to its-tables defs receivers regcounts its-fate refused all-refused some (length output) (length report))
        (g p.names h.count (entry_at (verdicts_of p)) its-entries output)

    -- where nothing is
    pub answers-written : refused ≡ 0 → (number value : ℕ) (output output' report : List ℕ)
        → ((ns : List Name) → length ns ≡ k.names → (old : List ℕ) → old ≡ tabled (table (slice_of s 2 (k.enums - 2))) → (eqs ens : ℕ → List Item) → AllWrite old (equations_at ns s offsets to) defs n eqs → AllWrite old (enums_at ns s offsets to) defs n ens
        → Gives (answered (length output) (slice_of s 2 (k.enums - 2)) (render old (sections_t ns s defs receivers regcounts offsets n eqs ens k) unwritten)) number value output output')
        → Answers (lower_package_machines (length output) (length report) p) number value output output' report report
    unfolding lower_package_machines report_or_pack
    answers-written none number value output output' report g =
        let nothing = none-long (made_machines p).refusals (sym all-refused ∙ none) in
        let w = written_known s k p h bytes offsets to its-tables defs receivers regcounts its-fate nothing n counted (length output) (length report) in
        record {
          gives = carried _ _ number value output output' w.1 (g p.names h.count (tabled (table (slice_of s 2 (k.enums - 2)))) refl w.0.eqs w.0.ens w.0.equations w.0.enums);
          report-is = written-quiet (length output) (machines_lowered p (made_machines p)) report ∙ ap (λ (x : Outcome). report_of x report) (sym (quiet nothing));
        }
      where
        quiet : (made_machines p).refusals ≡ [] → lower_package_machines (length output) (length report) p ≡ written (length output) (machines_lowered p (made_machines p))
        quiet l = ap (λ (rs : List Refusal). report_or_pack (length output) (length report) rs (machines_lowered p (made_machines p))) l
