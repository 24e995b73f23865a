-- A pack that was opened: its tables, and what is answered by them.
use Prim.Native.Nat.{ℕ, ◌+◌, ◌-◌, ◌*◌, ◌≤◌}
use native.Mathlib.Omega.{arith}
use mathlib.Core.List.{List, [], ◌∷◌, ◌++◌}
use mathlib.Core.Bool.{Bool}
use mathlib.Core.Path.{◌≡◌, sym, ap, subst, ◌∙◌}
use lib.ListN.{get_or, length, length-replicate, replicate}
use Rattle.wire.specs.Answer.{counted}
use Rattle.wire.specs.Bytes.{two}
use Rattle.wire.specs.Lists.{Bytes}
use Rattle.wire.specs.Writer.{State}
use Rattle.pack_rules.specs.Names.{Name}
use Rattle.pack_rules.specs.Legal.{place}
use Rattle.pack_rules.specs.Read.{enum_in}
use Rattle.pack_rules.specs.Report.{Refusal}
use Rattle.pack_rules.specs.Syntax.{Activation, Enum, Node, Package}
use Rattle.pack_rules.specs.Write.{package_items}
use Rattle.pack.specs.Intern.{render, table, unwritten}
use Rattle.pack_rules.specs.Outcome.{Answers, Gives, reported, written}
use Rattle.pack.specs.Finish.{answered}
use Rattle.pack.specs.Table.{tabled}
use Rattle.pack.specs.Verdict.{SectionsAt}
use Rattle.pack.specs.declared.record.Pack.{Pack}
use Rattle.pack.proofs.Finished.{carried}
use Rattle.pack.proofs.Written.{finished-is}
use Rattle.machines.specs.AddedAt.{total_t}
use Rattle.machines.specs.Layout.{slice_of}
use Rattle.machines.specs.ReportAt.{bytes_t}
use Rattle.machines.specs.TableMeaning.{PackOf}
use Rattle.machines.specs.CheckedReads.{number_in}
use Rattle.machines.specs.Tables.{names_placed}
use Rattle.machine_rules.specs.Call.{report_or_pack}
use Rattle.machines.proofs.Answered.{answers-as, written-quiet}
use Rattle.machines.proofs.CallScratch.{scratch-empty, zeros}
use Rattle.machines.proofs.NamesPlaced.{names-few, section-read}
use Rattle.machines.proofs.Opened.{names_stand, pack-known}
use Rattle.machines.proofs.Resolved.{ready}
use Rattle.activations.specs.declared.pack_info.PackInfo.{PackInfo}
use Rattle.activation_rules.specs.LastCalls.{last_name}
use Rattle.activations.specs.Lookups.{MadeIs, some_made_t, place_in}
use Rattle.activations.specs.Walks.{LastIs}
use Rattle.activation_rules.specs.Activations.{activations_lowered, made_activations}
use Rattle.activation_rules.specs.Call.{lower_package_activations}
use Rattle.activations.proofs.PackInfoLaws.{last-is, place-tabled}
use Rattle.activations.proofs.LookupLaws.{some-made-is}
use Rattle.activations.proofs.Joined.{activations-refusals}
use Rattle.activations.specs.PackInfoAt.{Basis, Scratch}
use Rattle.activations.specs.AddedParts.{Settled}
use Rattle.activations.specs.CallAt.{Blank, base_t}
use Rattle.activations.specs.FirstVariantsAt.{FirstsAre, firsts_t}
use Rattle.activations.specs.Fates.{Drawn, Fates, NodesFrom, Unowned}
use Rattle.activations.specs.OwnersAt.{place_acts_t, place_nodes_t}
use Rattle.activations.specs.ReportAt.{entry_t, is_refused_t}
use Rattle.activations.proofs.ActCounts.{acts-few}
use Rattle.activations.proofs.ActsPlaced.{Placed, placed, placed-drawn, placed-fate}
use Rattle.activations.proofs.FirstVariantsKept.{firsts-kept, firsts-length}
use Rattle.activations.proofs.ReportKnown.{accepted-known, reported-known}

module _ (s : List ℕ) (k : Pack) (p : Package) (h : SectionsAt s k p) (bytes : Bytes s) (short : length s ≤ 65536) where
  few : 2 + 2 * length p.names ≤ length s
  few = names-few s p.names (section-read s p.names k.enums h.names)

  -- the table of names as it was, with what enums start from, and with the names' places; all names; what is known of the pack
  module _ (offsets₀ offsets₁ offsets old : List ℕ) (b : PackInfo) (room : 50176 ≤ length offsets₀) (bare : (x : ℕ) → get_or offsets₀ (32768 + x) 0 ≡ 0) (ef : (ns : List Name) → length ns ≡ k.names → offsets₁ ≡ firsts_t ns s k.enums offsets₀)
      (es : offsets ≡ names_placed s k.names 2 0 offsets₁) (eo : old ≡ tabled (table (slice_of s 2 (k.enums - 2)))) (eb : b ≡ base_t old s k offsets) where
    known : PackOf p.names s old offsets
    known =
        let f = few in
        let l = length-replicate {A = ℕ} 32768 0 in
        let m : length offsets₁ ≡ length offsets₀ = ap length (ef p.names h.count) ∙ firsts-length p.names s k.enums offsets₀ in
        subst (λ (y : List ℕ). PackOf p.names s y offsets) (sym eo)
        (subst (λ (y : List ℕ). PackOf p.names s (tabled (table (slice_of s 2 (k.enums - 2)))) y) (sym es)
        (pack-known s k p h bytes (names_placed s k.names 2 0 offsets₁) _ (ready s k p offsets₁ (replicate 32768 0) h short (omega arith) (omega arith) scratch-empty.no_machine)))

    -- the names' places leave what enums start from
    kept : FirstsAre p.names s k.enums offsets
    kept =
        let f = few in
        let c = h.count in
        subst (FirstsAre p.names s k.enums) (sym (es ∙ ap (names_placed s k.names 2 0) (ef p.names h.count)))
        (firsts-kept p.names (omega arith) s k.enums p.enums k.nodes h.enums k.names (omega arith) offsets₀ room bare)

    -- what is known of the pack as a whole
    pub basis : Basis p.names p.enums old s offsets b
    unfolding base_t
    basis =
        let f = few in
        let t : place_in old ≡ place p.names = ap place_in known.names ∙ place-tabled p.names in
        record {
          pack = known;
          short = short;
          few = omega arith;
          names = ap (λ (y : PackInfo). y.names) eb ∙ sym h.count;
          last = subst (LastIs p.names) (sym (ap (λ (y : PackInfo). y.last) eb ∙ ap (λ (f : Name → ℕ). f last_name) t)) (last-is p.names known.fresh);
          made = subst (MadeIs p.names) (sym (ap (λ (y : PackInfo). y.made) eb ∙ ap (some_made_t s offsets) (sym h.count))) (some-made-is p.names s offsets known.placed);
          to = k.nodes;
          enums = ap (λ (y : PackInfo). counted (enum_in p.names s) s y.enums) eb ∙ h.enums;
          firsts = subst (λ (y : ℕ). FirstsAre p.names s y offsets) (sym (ap (λ (y : PackInfo). y.enums) eb)) kept;
        }

    pub names-low : b.names ≤ 65536
    names-low = let f = few in let e = basis.names in omega arith

    -- the tables of nodes and activations, before and after all are judged
    module _ (nodes₀ nodes acts₀ acts : List ℕ) (m n : ℕ) (rn : 6656 ≤ length nodes₀) (ra : 39936 ≤ length acts₀) (em : m ≡ (number_in s k.nodes).value) (en : n ≡ (number_in s k.activations).value)
        (ens : (ns : List Name) → length ns ≡ k.names → nodes ≡ place_nodes_t ns s k.nodes nodes₀) (ea : (ns : List Name) → length ns ≡ k.names → acts ≡ place_acts_t ns s nodes m k.activations acts₀) where
      its : Placed s p m n nodes acts
      its = placed s k p h bytes short nodes₀ nodes (omega arith) (ens p.names h.count) m n acts₀ acts ra em en (ea p.names h.count)

      pub acts-low : n ≤ 6656
      acts-low = let f = acts-few s k p h short in let e = its.count_acts in omega arith

      module _ (acts' : List ℕ)
          (J : (ns : List Name) (es : List Enum) (N : List Node) (As : List Activation) → Basis ns es old s offsets b → NodesFrom ns s nodes 0 N → length N ≡ m → Drawn ns s es N As acts → length As ≡ n → Unowned ns s es N As acts → Drawn ns s es N As acts' × Fates ns s es N As acts')
          (refused : ℕ) (er : refused ≡ total_t (is_refused_t acts') n 0) where
        judged : Drawn p.names s p.enums p.nodes p.activations acts' × Fates p.names s p.enums p.nodes p.activations acts'
        judged = J p.names p.enums p.nodes p.activations basis its.stand (sym its.count_nodes) (placed-drawn s p m n nodes acts its) (sym its.count_acts) (λ before A post e o. placed-fate s p m n nodes acts its before A post e)

        -- where something is refused
        pub answers-reported : (refused ≡ 0 → ⊥) → (number value : ℕ) (output report report' : List ℕ)
            → ((o : List ℕ) → Answers (reported (length report) (two refused ++ bytes_t (entry_t k.names s offsets acts') n 0)) number value o o report report')
            → Answers (lower_package_activations (length output) (length report) p) number value output output report report'
        answers-reported some number value output report report' g =
            answers-as _ _ number value output output report report'
            (ap (λ (y : ℕ). reported (length report) (two refused ++ bytes_t (entry_t y s offsets acts') n 0)) (sym h.count)
            ∙ reported-known p s old offsets acts' known judged.0 judged.1 n refused its.count_acts er some (length output) (length report))
            (g output)

        -- where nothing is
        module _ (none : refused ≡ 0) where
          accepted : (made_activations p).refusals ≡ []
          accepted = accepted-known p s old offsets acts' known judged.0 judged.1 n refused its.count_acts er none

          pub settled : Settled p.names s p.enums p.nodes p.activations nodes acts' m n
          settled = record { stand = its.stand; many = sym its.count_nodes; drawn = judged.0; count = sym its.count_acts; fates = judged.1; accepted = sym (activations-refusals p) ∙ accepted }

          pub answers-written : (number value : ℕ) (output output' report : List ℕ)
              → ((q : Package) → SectionsAt s k q → Basis q.names q.enums old s offsets b → Settled q.names s q.enums q.nodes q.activations nodes acts' m n → Gives (written (length output) (activations_lowered q (made_activations q))) number value output output')
              → Answers (lower_package_activations (length output) (length report) p) number value output output' report report
          unfolding lower_package_activations report_or_pack
          answers-written number value output output' report g =
              let e : lower_package_activations (length output) (length report) p ≡ written (length output) (activations_lowered p (made_activations p)) = ap (λ (rs : List Refusal). report_or_pack (length output) (length report) rs (activations_lowered p (made_activations p))) accepted in
              answers-as _ _ number value output output' report report (sym e)
              (record { gives = g p h basis settled; report-is = written-quiet (length output) (activations_lowered p (made_activations p)) report })

-- what the writer reached is the lowered pack
pub gives-written : (room : ℕ) (s names : List ℕ) (k : Pack) (old : List ℕ) (p : Package) (z : State) (number value : ℕ) (output output' : List ℕ) → SectionsAt s k p → Bytes s → names ≡ slice_of s 2 (k.enums - 2) → old ≡ tabled p.names → z ≡ render old (package_items (activations_lowered p (made_activations p))) unwritten
    → Gives (answered room names z) number value output output' → Gives (written room (activations_lowered p (made_activations p))) number value output output'
unfolding activations_lowered
gives-written room s names k old p z number value output output' h b n e f g =
    carried _ _ number value output output' (finished-is room (activations_lowered p (made_activations p)) names old z (n ∙ names_stand s k p h b) e f) g

pub base-is : (old s : List ℕ) (x : Pack) (offsets : List ℕ) (last : ℕ) (made : Bool) → last ≡ place_in old (108 ∷ 97 ∷ 115 ∷ 116 ∷ []) → made ≡ some_made_t s offsets x.names → record { names = x.names; last = last; enums = x.enums; made = made } ≡ base_t old s x offsets
unfolding base_t last_name
base-is old s x offsets last made e f = λ i. record { names = x.names; last = e i; enums = x.enums; made = f i }

-- the tables that a call starts with are long enough, and empty
pub blank : Blank (replicate 50176 0) (replicate 6656 0) (replicate 39936 0)
blank =
    let a = length-replicate {A = ℕ} 50176 0 in
    let b = length-replicate {A = ℕ} 6656 0 in
    let c = length-replicate {A = ℕ} 39936 0 in
    record { for_names = omega arith; no_first = λ x. zeros 50176 (32768 + x); for_nodes = omega arith; for_acts = omega arith }

pub scratch : Scratch (replicate 32768 0) (replicate 65536 0) (replicate 32768 0) (replicate 24576 0) (replicate 21848 0) (replicate 21848 0)
scratch =
    let a = length-replicate {A = ℕ} 32768 0 in
    let b = length-replicate {A = ℕ} 24576 0 in
    let c = length-replicate {A = ℕ} 21848 0 in
    record { for_types = omega arith; for_numbers = length-replicate {A = ℕ} 65536 0; for_outputs = omega arith; for_rows = omega arith; for_reads = omega arith; for_seen = omega arith }
