-- The report that the code writes is that of the definition.
use Prim.Native.Nat.{ℕ, zero, suc, ◌+◌, ◌<◌}
use native.Mathlib.Omega.{arith}
use mathlib.Core.List.{List, [], ◌∷◌, ◌++◌, append_assoc}
use mathlib.Core.Bool.{Bool, true, false, cond}
use mathlib.Core.Option.{none, some, none-ne-some, some-injective}
use mathlib.Core.Path.{◌≡◌, refl, sym, ap, subst, ◌∙◌}
use lib.ListN.{length, length-append}
use lib.Dec.{eqb, ltb}
use borrow.Author.Tests.{ltb-true, ne_eqb}
use Rattle.wire.specs.Bytes.{two}
use Rattle.wire.specs.Lists.{All}
use Rattle.pack_rules.specs.Names.{Name}
use Rattle.pack_rules.specs.Legal.{LegalName}
use Rattle.pack_rules.specs.Syntax.{Activation, Enum, Node, Package}
use Rattle.pack_rules.specs.Forms.{name_at}
use Rattle.pack_rules.specs.Report.{Refusal, entries, report_bytes}
use Rattle.pack_rules.specs.Outcome.{reported}
use Rattle.pack_rules.specs.Write.{enc}
use Rattle.pack.proofs.Tables.{all_append}
use Rattle.wire.specs.declared.answer.Number.{Number}
use Rattle.machines.specs.AddedAt.{total_t}
use Rattle.machine_rules.specs.Call.{report_or_pack}
use Rattle.machines.specs.ReportEntries.{called_of, entry_bytes, names_of}
use Rattle.machines.specs.VerdictAt.{named, no_name}
use Rattle.machines.specs.Layout.{prefix_of, slice_of}
use Rattle.machines.specs.ReportAt.{bytes_t}
use Rattle.machines.specs.TableMeaning.{PackOf}
use Rattle.machines.specs.CheckedReads.{number_in}
use Rattle.machines.proofs.EntryLaws.{entry-is}
use Rattle.machines.proofs.Reading.{name-number}
use Rattle.machines.proofs.CheckedReadLaws.{number-num}
use Rattle.machines.proofs.RefusalNames.{Short}
use Rattle.machines.proofs.ListsShown.{none-long}
use Rattle.activations.specs.declared.checks.Refused.{Refused}
use Rattle.activation_rules.specs.Checks.{else_name}
use Rattle.activations.specs.ChecksAt.{called, refusal_by}
use Rattle.activations.specs.ActTable.{made_t, refusal_t, spot_t}
use Rattle.activation_rules.specs.Activations.{activations_lowered, made_activations}
use Rattle.activation_rules.specs.Call.{lower_package_activations}
use Rattle.activations.specs.Fates.{Drawn, FateIs, Fates}
use Rattle.activations.specs.Joining.{fate_in, owner_of, refusal_in, refusals_of}
use Rattle.activation_rules.specs.Lower.{Lowered, make, refuse}
use Rattle.activations.specs.ReportAt.{called_t, else_called, entry_t, is_refused_t, judged_as}
use Rattle.activations.proofs.ActRead.{activation-value}
use Rattle.activations.proofs.Joined.{activations-refusals}
use Rattle.activations.proofs.RefusalKinds.{LoweredKind, fate-kind}

-- the names of a checked pack are short
short-at : (ns : List Name) → All LegalName ns → (i : ℕ) → i < length ns → Short (name_at ns i)
unfolding All name_at
short-at [] h i l = absurd (omega arith)
short-at (n ∷ ns) h zero l = h.0.1
short-at (n ∷ ns) h (suc i) l = short-at ns h.1 i (omega arith)

none-entered : [] ≡ entries []
unfolding entries
none-entered = refl

entries-both : (xs ys : List Refusal) → entries (xs ++ ys) ≡ entries xs ++ entries ys
unfolding entries
entries-both [] ys = refl
entries-both (x ∷ xs) ys = ap (λ (y : List ℕ). x.kind ∷ (enc x.names ++ y)) (entries-both xs ys) ∙ ap (λ (y : List ℕ). x.kind ∷ y) (sym (append_assoc (enc x.names) (entries xs) (entries ys)))

module _ (ns : List Name) (s old offsets : List ℕ) (P : PackOf ns s old offsets) where
  -- names by number
  called-by : (x : ℕ) (b : Bool) → ltb x (length ns) ≡ b → (d : Bool) → called_of s offsets else_name (cond b (named x) (cond d no_name else_called)) ≡ cond b (name_at ns x ∷ []) (cond d [] (else_name ∷ []))
  unfolding called_of prefix_of slice_of else_name
  called-by x true e d = let l = ltb-true x (length ns) e in rw (ne_eqb x 65535 (λ z. omega (arith, P.few))) (ap (λ (n : Name). n ∷ []) (P.placed x l))
  called-by x false e true = refl
  called-by x false e false = refl

  called-known : (x : ℕ) → called_of s offsets else_name (called_t (length ns) x) ≡ called ns x
  unfolding called_t called
  called-known x = called-by x (ltb x (length ns)) refl (eqb x (length ns))

  short-by : (x : ℕ) (b : Bool) → ltb x (length ns) ≡ b → (d : Bool) → All Short (cond b (name_at ns x ∷ []) (cond d [] (else_name ∷ [])))
  unfolding All else_name
  short-by x true e d = (short-at ns P.legal x (ltb-true x (length ns) e), tt)
  short-by x false e true = tt
  short-by x false e false = (omega arith, tt)

  called-short : (x : ℕ) → All Short (called ns x)
  unfolding called
  called-short x = short-by x (ltb x (length ns)) refl (eqb x (length ns))

  -- the entry of a refusal in numbers, of the activation of the name n
  entry-by : (a : ℕ) (n : Name) (r : Refused) → a < length ns → name_at ns a ≡ n → r.kind < 256
      → entry_bytes s offsets else_name a (judged_as (length ns) r) ≡ entries (record { kind = r.kind; names = n ∷ (called ns r.second ++ called ns r.third) } ∷ [])
  unfolding judged_as names_of All
  entry-by a n r l e k =
      let m : names_of s offsets else_name a (judged_as (length ns) r) ≡ n ∷ (called ns r.second ++ called ns r.third) = λ i. (P.placed a l ∙ e) i ∷ (called-known r.second i ++ called-known r.third i) in
      let short : All Short (n ∷ (called ns r.second ++ called ns r.third)) = (subst Short e (short-at ns P.legal a l), all_append Short (called ns r.second) (called ns r.third) (called-short r.second) (called-short r.third)) in
      entry-is s offsets else_name a (judged_as (length ns) r) k (subst (All Short) (sym m) short)
      ∙ ap (λ (y : List Name). entries (record { kind = r.kind; names = y } ∷ [])) m

  -- what is counted and written of an activation, by its fate; b says whether it is accepted
  module _ (a : Name) (r : Refused) (xs : List ℕ) where
    abbrev refusal : Refusal
    refusal = record { kind = r.kind; names = a ∷ (called ns r.second ++ called ns r.third) }

    row_by : (n : ℕ) (l : Lowered) → FateIs ns a r n l → LoweredKind l → (r.kind < 256 → xs ≡ entries (refusal ∷ []))
        → (◌≡◌ {A = ℕ} (cond (eqb r.kind 0) 0 1) (length (refusal_in l))) × (cond (eqb r.kind 0) [] xs ≡ entries (refusal_in l))
    unfolding FateIs LoweredKind refusal_in refusal_by
    row_by n (refuse x) h k e = go (eqb r.kind 0) h
      where
        go : (b : Bool) → cond b none (some refusal) ≡ some x → (◌≡◌ {A = ℕ} (cond b 0 1) 1) × (cond b [] xs ≡ entries (x ∷ []))
        go true h = absurd (none-ne-some x h)
        go false h = let y = some-injective refusal x h in (refl, e (subst (λ (z : Refusal). z.kind < 256) (sym y) k) ∙ ap (λ (z : Refusal). entries (z ∷ [])) y)
    row_by n (make ls es) h k e = go (eqb r.kind 0) h.0
      where
        go : (b : Bool) → cond b none (some refusal) ≡ none → (◌≡◌ {A = ℕ} (cond b 0 1) 0) × (cond b [] xs ≡ entries [])
        go true h = (refl, none-entered)
        go false h = absurd (none-ne-some refusal (sym h))

  module _ (es : List Enum) (N : List Node) (As : List Activation) (acts : List ℕ) (drawn : Drawn ns s es N As acts) (fates : Fates ns s es N As acts) where
    row : (before : List Activation) (A : Activation) (post : List Activation) → As ≡ before ++ (A ∷ post)
        → (is_refused_t acts (length before) ≡ length (refusal_in (fate_in es A (owner_of es N before A)))) × (entry_t (length ns) s offsets acts (length before) ≡ entries (refusal_in (fate_in es A (owner_of es N before A))))
    unfolding is_refused_t entry_t
    row before A post e =
        let d = drawn before A post e in
        let r = activation-value ns s (spot_t acts (length before)) A d.end d.read in
        let n = name-number ns s (spot_t acts (length before)) A.name r.to-owner r.name in
        let v : (number_in s (spot_t acts (length before))).value ≡ n.i = ap (λ (y : Number). y.value) (number-num s (spot_t acts (length before)) n.i r.to-owner n.is) in
        row_by A.name (refusal_t acts (length before)) (entry_bytes s offsets else_name (number_in s (spot_t acts (length before))).value (judged_as (length ns) (refusal_t acts (length before)))) (made_t acts (length before)) _
        (fates before A post e) (fate-kind es A (owner_of es N before A))
        (λ k. ap (λ y. entry_bytes s offsets else_name y (judged_as (length ns) (refusal_t acts (length before)))) v ∙ entry-by n.i A.name (refusal_t acts (length before)) n.small n.named k)

    -- of all that follow some
    rows : (before rest : List Activation) → As ≡ before ++ rest
        → (total_t (is_refused_t acts) (length rest) (length before) ≡ length (refusals_of es N before rest)) × (bytes_t (entry_t (length ns) s offsets acts) (length rest) (length before) ≡ entries (refusals_of es N before rest))
    unfolding total_t bytes_t refusals_of
    rows before [] e = (refl, none-entered)
    rows before (A ∷ rest) e =
        let q = row before A rest e in
        let z : length (before ++ (A ∷ [])) ≡ suc (length before) = length-append before (A ∷ []) ∙ omega arith in
        let w = rows (before ++ (A ∷ [])) rest (e ∙ sym (append_assoc before (A ∷ []) rest)) in
        let t : total_t (is_refused_t acts) (length rest) (suc (length before)) ≡ length (refusals_of es N (before ++ (A ∷ [])) rest) = ap (total_t (is_refused_t acts) (length rest)) (sym z) ∙ w.0 in
        let b : bytes_t (entry_t (length ns) s offsets acts) (length rest) (suc (length before)) ≡ entries (refusals_of es N (before ++ (A ∷ [])) rest) = ap (bytes_t (entry_t (length ns) s offsets acts) (length rest)) (sym z) ∙ w.1 in (
          (λ j. q.0 j + t j) ∙ sym (length-append (refusal_in (fate_in es A (owner_of es N before A))) (refusals_of es N (before ++ (A ∷ [])) rest)),
          (λ j. q.1 j ++ b j) ∙ sym (entries-both (refusal_in (fate_in es A (owner_of es N before A))) (refusals_of es N (before ++ (A ∷ [])) rest)),
        )

-- THE LAW: of a pack whose tables are right, what is counted and written is the definition's report
module _ (p : Package) (s old offsets acts : List ℕ) (P : PackOf p.names s old offsets) (drawn : Drawn p.names s p.enums p.nodes p.activations acts) (fates : Fates p.names s p.enums p.nodes p.activations acts) where
  all-rows : (total_t (is_refused_t acts) (length p.activations) 0 ≡ length (refusals_of p.enums p.nodes [] p.activations)) × (bytes_t (entry_t (length p.names) s offsets acts) (length p.activations) 0 ≡ entries (refusals_of p.enums p.nodes [] p.activations))
  all-rows = rows p.names s old offsets P p.enums p.nodes p.activations acts drawn fates [] p.activations refl

  pub refused-known : total_t (is_refused_t acts) (length p.activations) 0 ≡ length (made_activations p).refusals
  refused-known = all-rows.0 ∙ ap length (sym (activations-refusals p))

  pub entries-known : bytes_t (entry_t (length p.names) s offsets acts) (length p.activations) 0 ≡ entries (made_activations p).refusals
  entries-known = all-rows.1 ∙ ap entries (sym (activations-refusals p))

  module _ (n refused : ℕ) (count : n ≡ length p.activations) (total : refused ≡ total_t (is_refused_t acts) n 0) where
    refused-is : refused ≡ length (made_activations p).refusals
    refused-is = total ∙ ap (λ k. total_t (is_refused_t acts) k 0) count ∙ refused-known

    -- where something is refused
    pub reported-known : (refused ≡ 0 → ⊥) → (output room : ℕ) → reported room (two refused ++ bytes_t (entry_t (length p.names) s offsets acts) n 0) ≡ lower_package_activations output room p
    unfolding lower_package_activations report_or_pack report_bytes
    reported-known h output room = go (made_activations p).refusals refl
      where
        go : (rs : List Refusal) → (made_activations p).refusals ≡ rs → reported room (two refused ++ bytes_t (entry_t (length p.names) s offsets acts) n 0) ≡ report_or_pack output room (made_activations p).refusals (activations_lowered p (made_activations p))
        go [] f = absurd (h (refused-is ∙ ap length f))
        go (x ∷ xs) f =
            (λ j. reported room (two (refused-is j) ++ (ap (λ k. bytes_t (entry_t (length p.names) s offsets acts) k 0) count ∙ entries-known) j))
            ∙ ap (λ (rs : List Refusal). reported room (report_bytes rs)) f
            ∙ sym (ap (λ (rs : List Refusal). report_or_pack output room rs (activations_lowered p (made_activations p))) f)

    -- where nothing is
    pub accepted-known : refused ≡ 0 → (made_activations p).refusals ≡ []
    accepted-known e = none-long (made_activations p).refusals (sym refused-is ∙ e)
