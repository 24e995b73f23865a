-- What lowering machines gives with 0 is a pack that fits its output buffer; the calls that follow from that.
use Prim.Native.Nat.{ℕ, ◌≤◌}
use native.Mathlib.Omega.{arith}
use mathlib.Core.List.{List, [], ◌∷◌}
use mathlib.Core.Bool.{Bool, true, false, cond}
use mathlib.Core.Path.{◌≡◌, ◌∙◌, ap, refl, sym}
use lib.ListN.{length, take}
use lib.Seq.{take-append_seam}
use lib.Dec.{ltb}
use borrow.Author.Tests.{ltb-false}
use Rattle.pack_rules.specs.Limits.{max_bytes}
use Rattle.pack_rules.specs.Syntax.{Package}
use Rattle.pack_rules.specs.Read.{Reading, bytes_after, deep_at, ends_early, illegal_at, read, too_long, whole}
use Rattle.pack_rules.specs.Report.{Refusal, report_bytes}
use Rattle.pack_rules.specs.Write.{encode, package_items, shorts}
use Rattle.pack_rules.specs.Outcome.{Answers, Outcome, answers, begins, number_of, on_package, output_of, reported, reports, sized, value_of, writes, written}
use Rattle.pack.specs.declared.finish.CallError.{CallError}
use Rattle.pack.specs.declared.finish.CallError.TheVariants as ce
use Rattle.pack.specs.Finish.{error_number, error_value}
use Rattle.lower.specs.declared.Returned.{Returned}
use Rattle.machine_rules.specs.Machines.{machines_lowered, made_machines}
use Rattle.machine_rules.specs.Call.{lower_machines, lower_package_machines, report_or_pack}
use Rattle.activation_rules.specs.Call.{lower_activations}
use Rattle.lower.specs.declared.Calls.TheVariants.{Both, First}
use Rattle.lower.specs.Calls.{calls_after, returned_for}

-- a pack is written, and a buffer of so many bytes has room for it
pub record Wrote (room : ℕ) (x : Outcome) : Type 0 where
  pub bytes : List ℕ
  pub is : x ≡ writes bytes
  pub fits : length bytes ≤ room

-- 0 says so
abbrev Zero : ℕ → Outcome → Type 0
Zero room x = number_of x ≡ 0 → Wrote room x

reported-wrote : (room report : ℕ) (b : List ℕ) → Zero room (reported report b)
unfolding reported number_of
reported-wrote room report b = go (ltb report (length b))
  where
    go : (y : Bool) → Zero room (cond y (answers 7 (length b)) (reports b))
    go true z = absurd (omega (arith, z))
    go false z = absurd (omega (arith, z))

written-wrote : (room : ℕ) (p : Package) → Zero room (written room p)
unfolding written sized number_of
written-wrote room p = go (shorts (package_items p)) (ltb max_bytes (length (encode p))) (ltb room (length (encode p))) refl
  where
    go : (a b c : Bool) → ltb room (length (encode p)) ≡ c → Zero room (cond a (cond b (answers 8 0) (cond c (answers 9 (length (encode p))) (writes (encode p)))) (answers 8 0))
    go false b c e z = absurd (omega (arith, z))
    go true true c e z = absurd (omega (arith, z))
    go true false true e z = absurd (omega (arith, z))
    go true false false e z = record { bytes = encode p; is = refl; fits = omega (arith, ltb-false room (length (encode p)) e) }

opened-wrote : (output report : ℕ) (rs : List Refusal) (p : Package) → Zero output (report_or_pack output report rs p)
unfolding report_or_pack
opened-wrote output report [] p = written-wrote output p
opened-wrote output report (x ∷ xs) p = reported-wrote output report (report_bytes (x ∷ xs))

lowered-wrote : (s : List ℕ) (output report : ℕ) → Zero output (lower_machines s output report)
unfolding lower_machines on_package lower_package_machines number_of
lowered-wrote s output report = go (read s)
  where
    go : (x : Reading) → Zero output (on_package s x (lower_package_machines output report))
    go too_long z = absurd (omega (arith, z))
    go ends_early z = absurd (omega (arith, z))
    go (illegal_at o) z = absurd (omega (arith, z))
    go (deep_at o) z = absurd (omega (arith, z))
    go (bytes_after o) z = absurd (omega (arith, z))
    go (whole p) z = opened-wrote output report (made_machines p).refusals (machines_lowered p (made_machines p)) z

-- what is returned is known by its number and its value
pub returned-is : (x : Outcome) (r : Returned) → r.number ≡ number_of x → r.value ≡ value_of x → r ≡ returned_for x
unfolding returned_for
returned-is x r e f i = record { number = e i; value = f i }

-- no error has the number of a pack that was written
error-number : (e : CallError) → error_number e ≡ 0 → ⊥
error-number ce.TooLong z = absurd (omega (arith, z))
error-number (ce.EndsEarly n) z = absurd (omega (arith, z))
error-number (ce.Illegal o) z = absurd (omega (arith, z))
error-number (ce.TooDeep o) z = absurd (omega (arith, z))
error-number (ce.BytesAfter o) z = absurd (omega (arith, z))
error-number (ce.Refused n) z = absurd (omega (arith, z))
error-number (ce.ReportRoom n) z = absurd (omega (arith, z))
error-number ce.TooLarge z = absurd (omega (arith, z))
error-number (ce.OutputRoom n) z = absurd (omega (arith, z))

-- the first call alone, where it is refused
alone-after : (x : Outcome) (r : Returned) → r.number ≡ number_of x → r.value ≡ value_of x → (number_of x ≡ 0 → ⊥) → First r ≡ calls_after x
unfolding calls_after number_of
alone-after (answers n v) r e f z = ap First (returned-is (answers n v) r e f)
alone-after (reports b) r e f z = ap First (returned-is (reports b) r e f)
alone-after (writes b) r e f z = absurd (z refl)

-- of the first call, with buffers as long as a pack may be
module _ (s output output' report report' : List ℕ) (o : length output ≡ 65536) (p : length report ≡ 65536) where
  same-room : lower_machines s (length output) (length report) ≡ lower_machines s max_bytes max_bytes
  same-room = rw (o, p)

  pub alone : (x : CallError) → Answers (lower_machines s (length output) (length report)) (error_number x) (error_value x) output output' report report' → (r : Returned) → r.number ≡ error_number x → r.value ≡ error_value x → First r ≡ calls_after (lower_machines s max_bytes max_bytes)
  alone x a r e f = alone-after _ r (e ∙ a.gives.number_is) (f ∙ a.gives.value-is) (λ z. error-number x (a.gives.number_is ∙ z)) ∙ ap calls_after same-room

  module _ (n : ℕ) (a : Answers (lower_machines s (length output) (length report)) 0 n output output' report report') where
    wrote : Wrote (length output) (lower_machines s (length output) (length report))
    wrote = lowered-wrote s (length output) (length report) (sym a.gives.number_is)

    as_long : n ≡ length wrote.bytes
    unfolding value_of
    as_long = a.gives.value-is ∙ ap value_of wrote.is

    pub within : n ≤ length output
    within = omega (arith, as_long, wrote.fits)

    -- the bytes that the second call is made on
    begun : take n output' ≡ wrote.bytes
    unfolding output_of begins
    begun =
        ap (take n) (a.gives.output-is ∙ ap (λ x. output_of x output) wrote.is)
        ∙ ap (λ k. take k (begins wrote.bytes output)) as_long
        ∙ take-append_seam wrote.bytes _

    pub both : (r : Returned) → r.number ≡ 0 → r.value ≡ n → (second : Returned) → second ≡ returned_for (lower_activations (take n output') max_bytes max_bytes) → Both r second ≡ calls_after (lower_machines s max_bytes max_bytes)
    unfolding calls_after number_of value_of
    both r z v second e =
        let x = writes wrote.bytes in
        let f : r ≡ returned_for x = returned-is x r z (v ∙ as_long) in
        let g : second ≡ returned_for (lower_activations wrote.bytes max_bytes max_bytes) = e ∙ ap (λ b. returned_for (lower_activations b max_bytes max_bytes)) begun in
        let h : Both r second ≡ calls_after x = λ i. Both (f i) (g i) in
        h ∙ ap calls_after (sym wrote.is ∙ same-room)

-- of the second
pub second_is : (s output output' report report' : List ℕ) (n v : ℕ) (r : Returned) → length output ≡ 65536 → length report ≡ 65536 → Answers (lower_activations s (length output) (length report)) n v output output' report report' → r.number ≡ n → r.value ≡ v → r ≡ returned_for (lower_activations s max_bytes max_bytes)
second_is s output output' report report' n v r o p a e f =
    returned-is _ r (e ∙ a.gives.number_is) (f ∙ a.gives.value-is) ∙ ap returned_for (rw (o, p))
