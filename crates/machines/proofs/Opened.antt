-- A pack that was opened, with its tables filled: the report and the lowered pack are those of the definition.
use Prim.Native.Nat.{ℕ, suc, ◌-◌, ◌<◌, ◌≤◌}
use native.Mathlib.Omega.{arith}
use mathlib.Core.List.{List, [], ◌∷◌, ◌++◌, append-nil}
use mathlib.Core.Option.{Option, some}
use mathlib.Core.Path.{◌≡◌, refl, sym, ap, subst, ◌∙◌}
use lib.ListN.{length, get_or, take, drop, length-append, length-drop}
use lib.Seq.{take-append_seam, drop-drop}
use borrow.Author.Tests.{eq-eqb, ne_eqb}
use Rattle.wire.specs.Answer.{value}
use Rattle.wire.specs.Bytes.{two}
use Rattle.wire.specs.Lists.{All, Bytes}
use Rattle.wire.proofs.Answers.{u16-value}
use Rattle.pack_rules.specs.Names.{Name}
use Rattle.pack_rules.specs.Syntax.{MachineDef, Package}
use Rattle.pack_rules.specs.Forms.{name_at}
use Rattle.pack_rules.specs.Read.{enum_in, machine_in, name_section}
use Rattle.pack_rules.specs.Report.{Refusal, entries, report_bytes}
use Rattle.pack_rules.specs.Outcome.{reported}
use Rattle.pack.specs.Finish.{answered}
use Rattle.pack.specs.Table.{tabled}
use Rattle.pack.specs.Verdict.{SectionsAt}
use Rattle.pack_rules.specs.Write.{Item, enc}
use Rattle.pack.specs.Intern.{render, table, unwritten}
use Rattle.pack.specs.declared.record.Pack.{Pack}
use Rattle.pack.proofs.Tables.{format_names}
use Rattle.pack.proofs.Written.{finished-is}
use Rattle.pack.proofs.TableIndex.{table-enc}
use Rattle.wire.specs.declared.answer.Number.{Number}
use Rattle.machines.specs.Layout.{slice_of}
use Rattle.machines.specs.CheckedReads.{num, number_in}
use Rattle.machine_rules.specs.Refusals.{unknown_owner}
use Rattle.machine_rules.specs.Machines.{judge, machines_lowered, made_machines, refuse}
use Rattle.machines.specs.Sections.{Share, node_names, shares_of}
use Rattle.machines.specs.ReportEntries.{entry_bytes}
use Rattle.std.specs.Prelude.{Ok, Err}
use Rattle.machines.specs.VerdictAt.{Judged, board_at, judge_at, named, no_name, refused_by}
use Rattle.machines.specs.VerdictMeaning.{JudgedAs, RefusedFor}
use Rattle.machines.specs.EmitMachineAt.{Long}
use Rattle.machines.specs.WriteNodesAt.{sections_t}
use Rattle.machines.specs.TableMeaning.{PackOf}
use Rattle.machines.specs.ReportAt.{judged_bytes, judged_row, EntersAll, bytes_t, entry_t, letters_t, of_refused, refusal_t}
use Rattle.machines.specs.Verdicts.{SettledPack, Why, all_go, entry_at, judged as judged_so, unowned, verdicts, verdicts_of}
use Rattle.machine_rules.specs.Call.{lower_package_machines, report_or_pack}
use Rattle.machines.proofs.Reading.{machine-value, name-number, optional-some}
use Rattle.machines.proofs.CheckedReadLaws.{number-num}
use Rattle.machines.proofs.NamesPlaced.{right-name}
use Rattle.machines.proofs.Resolved.{Ready}
use Rattle.machines.proofs.RefusalNames.{Short}
use Rattle.machines.proofs.CalledNames.{called-name, called-no, refused_as}
use Rattle.machines.proofs.MachineJudged.{judged, names-counted, names-lettered}
use Rattle.machines.proofs.VerdictLaws.{package-goes}
use Rattle.machines.proofs.SettledTables.{RefusedHere, enters-all}
use Rattle.machines.proofs.PackCounts.{counted-many}
use Rattle.machines.proofs.PackSettled.{pack-entries, pack-lowered}
use Rattle.machines.proofs.SectionLaws.{section-items}
use Rattle.machines.proofs.SectionsShown.{SectionsWritten, sections-written}

-- the name section after its count is the table of names
names-slice : (s : List ℕ) (ns : List Name) (q : ℕ) → Bytes s → q ≤ length s → name_section s 0 ≡ value ns q → slice_of s 2 (q - 2) ≡ enc ns
unfolding slice_of two
names-slice s ns q bytes l e =
    let w = format_names.was s bytes 0 ns q e in
    let d : drop 2 s ≡ enc ns ++ drop q s = sym (drop-drop 2 0 s) ∙ ap (drop 2) w in
    let a = ap length d in
    let b = ap length w in
    let n : q - 2 ≡ length (enc ns) = omega (arith, length-append (enc ns) (drop q s), length-drop 2 s, length-drop q s, length-drop 0 s) in
    ap (λ y. take y (drop 2 s)) n ∙ ap (take (length (enc ns))) d ∙ take-append_seam (enc ns) (drop q s)

-- as many verdicts as machines, and as many shares where all go
verdicts-length : (ms ds : List MachineDef) (names : List Name) → length (verdicts ms ds names) ≡ length ds
unfolding verdicts
verdicts-length ms [] names = refl
verdicts-length ms (d ∷ ds) names = ap suc (verdicts-length ms ds _)

goes-length : (xs : List Share) → length (all_go xs) ≡ length xs
unfolding all_go
goes-length [] = refl
goes-length (x ∷ xs) = ap suc (goes-length xs)

shares-length : (p : Package) → (made_machines p).refusals ≡ [] → length (shares_of p) ≡ length p.machines
shares-length p e = sym (goes-length (shares_of p)) ∙ ap length (sym (package-goes p e)) ∙ verdicts-length p.machines p.machines (node_names p.nodes)

-- the old names, as they stand
pub names_stand : (s : List ℕ) (k : Pack) (p : Package) → SectionsAt s k p → Bytes s → slice_of s 2 (k.enums - 2) ≡ enc p.names
names_stand s k p h bytes =
    let v = u16-value s k.enums _ _ (counted-many (enum_in p.names s) s k.enums p.enums k.nodes h.enums).0 in
    let i = v.inside in
    names-slice s p.names k.enums bytes (omega arith) h.names

module _ (s : List ℕ) (k : Pack) (p : Package) (h : SectionsAt s k p) (bytes : Bytes s) (offsets to : List ℕ) (r : Ready s p.names p.machines offsets to) where
  -- what the sections need of the pack and its names
  pub pack-known : PackOf p.names s (tabled (table (slice_of s 2 (k.enums - 2)))) offsets
  pack-known =
      let t = format_names.legal s bytes 0 p.names k.enums h.names in
      record {
        bytes = bytes;
        legal = t.2;
        fresh = t.1;
        few = t.0;
        names = ap (λ (l : List ℕ). tabled (table l)) (names_stand s k p h bytes) ∙ ap tabled (table-enc p.names);
        placed = λ i l. right-name s offsets i (name_at p.names i) (r.spot i l);
      }

  -- the entry of a refused machine, whatever the tables held
  module _ (defs regcounts : List ℕ) where
    one_entry : (x : Refusal) → entries (x ∷ []) ≡ x.kind ∷ enc x.names
    unfolding entries
    one_entry x = ap (λ (l : List ℕ). x.kind ∷ l) (append-nil (enc x.names))

    refused-bytes : (qualified : List ℕ) (m : ℕ) (x : Refusal) (j : Judged) → RefusedFor s offsets qualified m x j → judged_bytes s offsets qualified m j ≡ entries (x ∷ [])
    unfolding RefusedFor judged_bytes judged_row
    refused-bytes qualified m x (Ok n) h = absurd h
    refused-bytes qualified m x (Err w) h = h.entry

    judged-entry : (i : ℕ) (d : MachineDef) (q : ℕ) (x : Refusal) → machine_in p.names s (get_or defs i 0) ≡ value d q → get_or regcounts i 0 ≡ 0 → judge p.machines d ≡ refuse x
        → (t reg qualified : List ℕ) → Long t reg qualified → entry_t p.names s offsets to defs regcounts i t reg qualified ≡ x.kind ∷ enc x.names
    unfolding entry_t letters_t refusal_t JudgedAs
    judged-entry i d q x e g f t reg qualified l =
        let j = subst (λ v. JudgedAs s offsets (board_at p.names s offsets to (get_or defs i 0) t reg qualified).qualified (number_in s (get_or defs i 0)).value p.machines d v (judge_at p.names s offsets to (get_or defs i 0) t reg qualified)) f
        (judged s p.names p.machines offsets to r bytes (get_or defs i 0) d q e t reg qualified l) in
        rw (eq-eqb (get_or regcounts i 0) 0 g) (refused-bytes _ _ x _ j ∙ one_entry x)

    owner-entry : (i : ℕ) (d : MachineDef) (q : ℕ) (x : Refusal) (o : Name) → machine_in p.names s (get_or defs i 0) ≡ value d q → (get_or regcounts i 0 ≡ 0 → ⊥) → d.owner ≡ some o → x ≡ unknown_owner d.name o
        → (t reg qualified : List ℕ) → entry_t p.names s offsets to defs regcounts i t reg qualified ≡ x.kind ∷ enc x.names
    unfolding entry_t letters_t refusal_t judged_bytes judged_row unknown_owner All
    owner-entry i d q x o e g w f t reg qualified =
        let m = machine-value p.names s (get_or defs i 0) d q e in
        let a = name-number p.names s (get_or defs i 0) d.name m.to-owner m.name in
        let b = optional-some p.names s m.to-owner o m.to-inputs (m.owner ∙ ap (λ (y : Option Name). value y m.to-inputs) w) in
        let u : number_in s (get_or defs i 0) ≡ num a.i m.to-owner = number-num s (get_or defs i 0) a.i m.to-owner a.is in
        let v : number_in s (number_in s (get_or defs i 0)).next ≡ num b.i m.to-inputs = ap (λ (y : Number). number_in s y.next) u ∙ number-num s m.to-owner b.i m.to-inputs b.is in
        let short : (j : ℕ) (n : Name) → j < length p.names → name_at p.names j ≡ n → Short n = λ j n l z. subst Short z (names-lettered s p.names p.machines offsets to r bytes j l).1 in
        let y = refused_as s p.names offsets qualified r.spot (names-counted s p.names r.names bytes) a.i 8 (named b.i) no_name d.name (o ∷ []) [] x a.small a.named (omega arith) (omega arith)
        (called-name s p.names offsets qualified r.spot (names-counted s p.names r.names bytes) b.i b.small ∙ ap (λ (n : Name). n ∷ []) b.named)
        (called-no s offsets qualified) f
        (subst (λ (z : Refusal). All Short z.names) (sym f) (short a.i d.name a.small a.named, (short b.i o b.small b.named, tt))) in
        rw (ne_eqb (get_or regcounts i 0) 0 g) ((λ j. entry_bytes s offsets qualified (u j).value (refused_by 8 (named (v j).value) no_name)) ∙ y.entry ∙ one_entry x)

  module _ (defs receivers regcounts : List ℕ) (z : SettledPack s p defs receivers regcounts) where
    pub entries-known : EntersAll p.names s offsets to defs regcounts receivers (length p.machines) (entry_at (verdicts_of p))
    entries-known = enters-all p.machines p.names s defs receivers regcounts offsets to p.machines (verdicts_of p) z.judgings z.settled each
      where
        each : (i : ℕ) (e : List ℕ) → i < length p.machines → RefusedHere p.machines p.names s defs receivers regcounts i e → (t reg qualified : List ℕ) → Long t reg qualified → entry_t p.names s offsets to defs regcounts i t reg qualified ≡ e
        each i e l w t reg qualified long = go w.why ∙ sym w.entry
          where
            go : Why p.machines w.drawing (get_or regcounts i 0) w.refusal → entry_t p.names s offsets to defs regcounts i t reg qualified ≡ w.refusal.kind ∷ enc w.refusal.names
            go (judged_so a b) = judged-entry defs regcounts i w.drawing w.judged.end w.refusal w.judged.read a b t reg qualified long
            go (unowned a o b c) = owner-entry defs regcounts i w.drawing w.judged.end w.refusal o w.judged.read a b c t reg qualified

    -- what is reported, where something is refused
    pub reported-known : (refused : ℕ) → refused ≡ length (made_machines p).refusals → (refused ≡ 0 → ⊥) → (output room : ℕ)
        → reported room (two refused ++ bytes_t (of_refused receivers (entry_at (verdicts_of p))) (length p.machines) 0) ≡ lower_package_machines output room p
    unfolding lower_package_machines report_or_pack report_bytes
    reported-known refused e n output room = go (made_machines p).refusals refl
      where
        go : (rs : List Refusal) → (made_machines p).refusals ≡ rs → reported room (two refused ++ bytes_t (of_refused receivers (entry_at (verdicts_of p))) (length p.machines) 0) ≡ report_or_pack output room (made_machines p).refusals (machines_lowered p (made_machines p))
        go [] f = absurd (n (e ∙ ap length f))
        go (x ∷ xs) f =
            (λ j. reported room (two (e j) ++ pack-entries s p defs receivers regcounts z (entry_at (verdicts_of p)) (λ i l g. refl) j))
            ∙ ap (λ (rs : List Refusal). reported room (report_bytes rs)) f
            ∙ sym (ap (λ (rs : List Refusal). report_or_pack output room rs (machines_lowered p (made_machines p))) f)

    -- what is written, where nothing is
    pub written_known : (made_machines p).refusals ≡ [] → (n : ℕ) → n ≡ length p.machines → (output room : ℕ)
        → (w : SectionsWritten p s (tabled (table (slice_of s 2 (k.enums - 2)))) offsets to defs receivers regcounts n (shares_of p) k)
        × (answered output (slice_of s 2 (k.enums - 2)) (render (tabled (table (slice_of s 2 (k.enums - 2)))) (sections_t p.names s defs receivers regcounts offsets n w.eqs w.ens k) unwritten) ≡ lower_package_machines output room p)
    unfolding lower_package_machines report_or_pack machines_lowered
    written_known e n c output room =
        let w = sections-written p s (tabled (table (slice_of s 2 (k.enums - 2)))) offsets to defs receivers regcounts k h pack-known r (shares_of p) (pack-lowered s p defs receivers regcounts z e) n (c ∙ sym (shares-length p e)) in (
          w,
          finished-is output (machines_lowered p (made_machines p)) (slice_of s 2 (k.enums - 2)) (tabled (table (slice_of s 2 (k.enums - 2)))) _ (names_stand s k p h bytes) pack-known.names
              (w.sections unwritten ∙ ap (λ (is : List Item). render (tabled (table (slice_of s 2 (k.enums - 2)))) is unwritten) (sym (section-items p e)))
              ∙ sym (ap (λ (rs : List Refusal). report_or_pack output room rs (machines_lowered p (made_machines p))) e),
        )
