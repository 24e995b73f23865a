-- The number and the value of lowering a pack's machines are small: the C interface has room for both in 64 bits.
use Prim.Native.Nat.{ℕ, zero, suc, ◌+◌, ◌*◌, ◌<◌, ◌≤◌}
use native.Mathlib.Nat.{mul-suc}
use native.Mathlib.Omega.{arith}
use mathlib.Core.List.{List, [], ◌∷◌, ◌++◌}
use mathlib.Core.Bool.{Bool, true, false, cond}
use mathlib.Core.Option.{Option, none, some}
use mathlib.Core.Path.{◌≡◌, refl, sym, ap, subst, ◌∙◌}
use lib.ListN.{length, length-append, length-replicate, replicate}
use lib.Dec.{ltb}
use borrow.Author.Tests.{ltb-false}
use Rattle.wire.specs.Answer.{many, value}
use Rattle.wire.specs.Bytes.{two}
use Rattle.wire.specs.Lists.{Bytes}
use Rattle.pack_rules.specs.Names.{Name, member}
use Rattle.pack_rules.specs.Syntax.{MachineDef, Package}
use Rattle.machine_rules.specs.Resolved.{ResolvedMachine}
use Rattle.pack_rules.specs.Forms.{name_at}
use Rattle.pack_rules.specs.Read.{Reading, bytes_after, deep_at, ends_early, illegal_at, machine_in, read, too_long, whole}
use Rattle.pack_rules.specs.Report.{Refusal, entries, report_bytes}
use Rattle.pack_rules.specs.Outcome.{Answers, Gives, Outcome, answers, number_of, on_package, reported, reports, returned, sized, value_of, writes, written}
use Rattle.std.specs.Prelude.{Err}
use Rattle.pack.specs.declared.finish.CallError.{CallError}
use Rattle.pack.specs.declared.finish.CallError.TheVariants as ce
use Rattle.pack.specs.Finish.{error_value}
use Rattle.pack.specs.Verdict.{SectionsAt, record_of, verdict_of}
use Rattle.pack_rules.specs.Write.{enc, encode, package_items, shorts}
use Rattle.pack.specs.declared.record.Pack.{Pack}
use Rattle.pack.proofs.CheckLaws.{record-stands, value-small}
use Rattle.pack.proofs.RoundTrip.{read-value}
use Rattle.machines.specs.declared.verdicts.VerdictRow.{VerdictRow}
use Rattle.machines.specs.CheckedReads.{number_in}
use Rattle.machine_rules.specs.Refusals.{unknown_owner}
use Rattle.machine_rules.specs.Resolve.{as_machine}
use Rattle.machine_rules.specs.Machines as definition
use Rattle.machine_rules.specs.Machines.{accept, judge, machines_lowered, made_machines, refuse}
use Rattle.machines.specs.Sections.{node_names}
use Rattle.machines.specs.RefusalsIn.{names_then, refusals, refused_in}
use Rattle.machines.specs.ReportEntries.{entry_bytes}
use Rattle.std.specs.Prelude.{Ok, Err}
use Rattle.machines.specs.VerdictAt.{Judged, board_at, judge_at, row_of}
use Rattle.machines.specs.VerdictMeaning.{JudgedAs, RefusedFor}
use Rattle.machines.specs.EmitMachineAt.{Long}
use Rattle.machine_rules.specs.Call.{lower_machines, lower_package_machines, report_or_pack}
use Rattle.machines.proofs.Reading.{many-cut, many_more, machine-value, name-number, optional-some}
use Rattle.machines.proofs.NamesPlaced.{names-few, section-read}
use Rattle.machines.proofs.Resolved.{Ready, ready}
use Rattle.machines.proofs.RefusalNames.{Short}
use Rattle.machines.proofs.EntryLaws.{entry-most}
use Rattle.machines.proofs.Refused.{made-refusals}
use Rattle.machines.proofs.MachineJudged.{accepted-count, judged, names-lettered}
use Rattle.machines.proofs.PackCounts.{counted-many, pack-counts}
use Rattle.machines.proofs.CallScratch.{scratch-empty, scratch-long}
use Rattle.machines.proofs.LettersKept.{letters-kept}

-- an entry has the machine's own name and two more, each with letters of the scratch and of the pack
entry-small : (s offsets qualified : List ℕ) (m : ℕ) (j : VerdictRow) (xs : List ℕ) → length s ≤ 65536 → length qualified ≤ 131072 → entry_bytes s offsets qualified m j ≡ xs → length xs ≤ 458758
entry-small s offsets qualified m j xs a b e = let x = entry-most s offsets qualified m j (length xs) (sym (ap length e)) in omega arith

entries-length : (xs ys : List Refusal) → length (entries (xs ++ ys)) ≡ length (entries xs) + length (entries ys)
unfolding entries
entries-length [] ys = omega arith
entries-length (x ∷ xs) ys =
    let h = entries-length xs ys in
    omega (arith, length-append (enc x.names) (entries (xs ++ ys)), length-append (enc x.names) (entries xs))

owner-length : (m o : Name) → length (entries (unknown_owner m o ∷ [])) ≡ 3 + length m + length o
unfolding entries enc unknown_owner
owner-length m o = omega (arith, length-append (length m ∷ (m ++ (length o ∷ (o ++ [])))) [], length-append m (length o ∷ (o ++ [])), length-append o [])

-- machines that were read, in scratch of the call's length
module _ (s : List ℕ) (ns : List Name) (ms : List MachineDef) (offsets to : List ℕ) (r : Ready s ns ms offsets to) (bytes : Bytes s) (short : length s ≤ 65536)
    (t reg qualified : List ℕ) (long : Long t reg qualified) (few : length qualified ≤ 131072) where
  module _ (at : ℕ) (d : MachineDef) (q : ℕ) (e : machine_in ns s at ≡ value d q) where
    abbrev As : definition.MachineVerdict → Type 0
    As v = JudgedAs s offsets (board_at ns s offsets to at t reg qualified).qualified (number_in s at).value ms d v (judge_at ns s offsets to at t reg qualified)

    judged-most : (x : Refusal) → As (refuse x) → length (entries (x ∷ [])) ≤ 458758
    unfolding JudgedAs RefusedFor
    judged-most x h = go (judge_at ns s offsets to at t reg qualified) h
      where
        go : (j : Judged) → RefusedFor s offsets (board_at ns s offsets to at t reg qualified).qualified (number_in s at).value x j → length (entries (x ∷ [])) ≤ 458758
        go (Ok n) h = absurd h
        go (Err w) h = entry-small s offsets _ _ (row_of w) _ short (omega (arith, letters-kept ns s offsets to at t reg qualified)) h.entry

    own_name : (m : ResolvedMachine) → As (accept m) → m.name ≡ d.name
    unfolding as_machine
    own_name m h = ap (λ (y : ResolvedMachine). y.name) (accepted-count s offsets _ _ ms d m _ h).is

    short-at : (i : ℕ) (n : Name) → i < length ns → name_at ns i ≡ n → Short n
    short-at i n l z = subst Short z (names-lettered s ns ms offsets to r bytes i l).1

    owner-most : (m : ResolvedMachine) (o : Name) → As (accept m) → d.owner ≡ some o → length (entries (unknown_owner m.name o ∷ [])) ≤ 458758
    owner-most m o h w =
        let y = machine-value ns s at d q e in
        let a = name-number ns s at d.name y.to-owner y.name in
        let b = optional-some ns s y.to-owner o y.to-inputs (y.owner ∙ ap (λ (z : Option Name). value z y.to-inputs) w) in
        let u = short-at a.i m.name a.small (a.named ∙ sym (own_name m h)) in
        let v = short-at b.i o b.small b.named in
        omega (arith, owner-length m.name o)

    refused-by : (nodes : List Name) (o : Option Name) → d.owner ≡ o → (v : definition.MachineVerdict) → As v → length (entries (refused_in nodes o v)) ≤ 458758
    unfolding refused_in entries
    refused-by nodes none w (refuse x) h = judged-most x h
    refused-by nodes (some o) w (refuse x) h = judged-most x h
    refused-by nodes none w (accept m) h = omega arith
    refused-by nodes (some o) w (accept m) h = go (member o nodes) (owner-most m o h w)
      where
        go : (b : Bool) → length (entries (unknown_owner m.name o ∷ [])) ≤ 458758 → length (entries (cond b [] (unknown_owner m.name o ∷ []))) ≤ 458758
        go true l = omega arith
        go false l = l

    refused-most : (nodes : List Name) → length (entries (refused_in nodes d.owner (judge ms d))) ≤ 458758
    refused-most nodes = refused-by nodes d.owner refl (judge ms d) (judged s ns ms offsets to r bytes at d q e t reg qualified long)

  all_most : (n at : ℕ) (ds : List MachineDef) (q : ℕ) (nodes : List Name) → many (machine_in ns s) n at ≡ value ds q → length (entries (refusals ms ds nodes)) ≤ 458758 * length ds
  unfolding refusals entries
  all_most n at [] q nodes e = omega arith
  all_most zero at (d ∷ ds) q nodes e = absurd (many-cut (machine_in ns s) at d ds q e)
  all_most (suc n) at (d ∷ ds) q nodes e =
      let a = many_more (machine_in ns s) n at d ds q e in
      let next = names_then nodes d.owner (judge ms d) in
      let i = refused-most at d a.0 a.1 nodes in
      let j = all_most n a.0 ds q next a.2 in
      omega (arith, entries-length (refused_in nodes d.owner (judge ms d)) (refusals ms ds next), mul-suc 458758 (length ds))

-- the report of a pack, which has at most 4,681 machines
pub report-small : (s : List ℕ) (k : Pack) (p : Package) → SectionsAt s k p → Bytes s → length s ≤ 65536 → length (report_bytes (made_machines p).refusals) < 4294967296
unfolding report_bytes two
report-small s k p h bytes short =
    let few = names-few s p.names (section-read s p.names k.enums h.names) in
    let l = length-replicate {A = ℕ} 32768 0 in
    let r = ready s k p (replicate 32768 0) (replicate 32768 0) h short (omega arith) (omega arith) scratch-empty.no_machine in
    let m = length-replicate {A = ℕ} 131072 0 in
    let b = all_most s p.names p.machines _ _ r bytes short _ _ _ scratch-long (omega arith) (length p.machines) (k.machines + 2) p.machines k.activations (node_names p.nodes)
    (counted-many (machine_in p.names s) s k.machines p.machines k.activations h.machines).1 in
    let c = pack-counts s k p h in
    let e = ap (λ (rs : List Refusal). length (entries rs)) (made-refusals p) in
    omega (arith, length-append (two (length (made_machines p).refusals)) (entries (made_machines p).refusals))

-- a number of the table, and a value below 2^32
abbrev pub InTable : Outcome → Type 0
InTable x = (number_of x ≤ 9) × (value_of x < 4294967296)

-- and so of what a call returns
pub table_fits : (x : Outcome) (number value : ℕ) (output output' : List ℕ) → InTable x → Gives x number value output output' → (number ≤ 9) × (value < 4294967296)
table_fits x number v output output' f g =
    let n = g.number_is in
    let w = g.value-is in
    (omega (arith, f.0), omega (arith, f.1))

reported-fits : (room : ℕ) (b : List ℕ) → length b < 4294967296 → InTable (reported room b)
unfolding reported number_of value_of
reported-fits room b l = go (ltb room (length b))
  where
    go : (y : Bool) → InTable (cond y (answers 7 (length b)) (reports b))
    go true = (omega arith, l)
    go false = (omega arith, l)

written-fits : (room : ℕ) (p : Package) → InTable (written room p)
unfolding written sized number_of value_of
written-fits room p = go (shorts (package_items p)) (ltb 65536 (length (encode p))) refl (ltb room (length (encode p)))
  where
    go : (a b : Bool) → ltb 65536 (length (encode p)) ≡ b → (c : Bool) → InTable (cond a (cond b (answers 8 0) (cond c (answers 9 (length (encode p))) (writes (encode p)))) (answers 8 0))
    go false b e c = (omega arith, omega arith)
    go true true e c = (omega arith, omega arith)
    go true false e true = (omega arith, omega (arith, ltb-false 65536 (length (encode p)) e))
    go true false e false = (omega arith, omega (arith, ltb-false 65536 (length (encode p)) e))

opened-fits : (output report : ℕ) (rs : List Refusal) (p : Package) → length (report_bytes rs) < 4294967296 → InTable (report_or_pack output report rs p)
unfolding report_or_pack
opened-fits output report [] p l = written-fits output p
opened-fits output report (x ∷ xs) p l = reported-fits report (report_bytes (x ∷ xs)) l

-- what stands beside the number of a pack that is not whole
abbrev Small : List ℕ → Reading → Type 0
Small s x = (e : CallError) → Err e ≡ verdict_of (length s) x → error_value e ≤ 65536

within : (s : List ℕ) → Small s (read s)
within s e h = value-small s e h

-- THE THEOREM: of any bytes, and buffers of any length
pub lowered-fits : (s : List ℕ) (output report : ℕ) → Bytes s → InTable (lower_machines s output report)
unfolding lower_machines on_package lower_package_machines number_of value_of verdict_of
lowered-fits s output report bytes = go (read s) refl (within s)
  where
    go : (x : Reading) → read s ≡ x → Small s x → InTable (on_package s x (lower_package_machines output report))
    go too_long e l = (omega arith, omega arith)
    go ends_early e l = (omega arith, omega (arith, l (ce.EndsEarly (length s)) refl))
    go (illegal_at o) e l = (omega arith, omega (arith, l (ce.Illegal o) refl))
    go (deep_at o) e l = (omega arith, omega (arith, l (ce.TooDeep o) refl))
    go (bytes_after o) e l = (omega arith, omega (arith, l (ce.BytesAfter o) refl))
    go (whole p) e l = opened-fits output report (made_machines p).refusals (machines_lowered p (made_machines p)) (report-small s (record_of s) p (record-stands s p e) bytes (read-value s p e).0)

-- number and value of a call of the lowering: they fit, and are the word that the C interface returns
module _ (s output output' report report' : List ℕ) (number value : ℕ) (bytes : Bytes s)
    (a : Answers (lower_machines s (length output) (length report)) number value output output' report report') where
  pub fit : (number ≤ 9) × (value < 4294967296)
  fit =
      let f = lowered-fits s (length output) (length report) bytes in
      let n = a.gives.number_is in
      let v = a.gives.value-is in
      (omega (arith, f.0), omega (arith, f.1))

  pub returned-as : number * 4294967296 + value ≡ returned (lower_machines s (length output) (length report))
  unfolding returned
  returned-as = λ j. a.gives.number_is j * 4294967296 + a.gives.value-is j
