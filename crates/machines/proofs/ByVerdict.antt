-- A call by the verdict on its pack: refused by the table's numbers 1 to 5, or opened; whatever it does with a package.
use Prim.Native.Nat.{ℕ, ◌<◌, ◌≤◌}
use native.Mathlib.Omega.{arith}
use mathlib.Core.List.{List}
use mathlib.Core.Path.{◌≡◌, refl, sym, ap, subst, ◌∙◌}
use lib.ListN.{length}
use Rattle.wire.specs.Lists.{Bytes}
use Rattle.pack_rules.specs.Syntax.{Package}
use Rattle.pack_rules.specs.Read.{Reading, bytes_after, deep_at, ends_early, illegal_at, read, too_long, whole}
use Rattle.pack_rules.specs.Outcome.{Answers, Gives, Outcome, answers, number_of, on_package, output_of, report_of, sized, value_of, written}
use Rattle.std.specs.Prelude.{Ok, Err}
use Rattle.pack.specs.Verdict.{SectionsAt, record_of, verdict_of}
use Rattle.pack.specs.Finish.{error_number, error_value}
use Rattle.pack.specs.declared.finish.CallError.{CallError}
use Rattle.pack.specs.declared.record.Pack.{Pack}
use Rattle.pack.proofs.CheckLaws.{number_small, record-stands, stopped-reading, value-small, whole-reading}
use Rattle.pack.proofs.RoundTrip.{read-value}
use Rattle.pack.proofs.Unchanged.{unchanged}
use Rattle.machines.specs.CallTables.{OpenedAs}
use Rattle.machines.proofs.Answered.{answers-as, sized-quiet}

-- a whole pack is opened
pub opened : (s : List ℕ) → Ok tt ≡ verdict_of (length s) (read s) → (k : Pack) → k ≡ record_of s → (length s ≤ 65536) × OpenedAs s k
opened s e k ek =
    let w = whole-reading s e in
    ((read-value s w.0 w.1).0, record { held = w.0; reads = w.1; stands = subst (λ (y : Pack). SectionsAt s y w.0) (sym ek) (record-stands s w.0 w.1) })

-- a pack that is not whole, whatever is done with a package: number and value, which fit 32 bits, and both buffers as they were
pub stopped : (s : List ℕ) (e : CallError) → Err e ≡ verdict_of (length s) (read s) → (f : Package → Outcome) (output report : List ℕ)
    → Answers (on_package s (read s) f) (error_number e) (error_value e) output output report report × ((error_number e ≤ 9) × (error_value e < 4294967296))
unfolding number_of value_of output_of report_of
stopped s e h f output report =
    let t = stopped-reading s e f h in
    (record { gives = record { number_is = rw t; value-is = rw t; output-is = rw t }; report-is = rw t }, (number_small e, omega (arith, value-small s e h)))

-- a pack that was opened is answered as its package is
pub opened-by : (s : List ℕ) (k : Pack) → OpenedAs s k → (f : Package → Outcome) (number value : ℕ) (output output' report report' : List ℕ)
    → ((p : Package) → SectionsAt s k p → Answers (f p) number value output output' report report')
    → Answers (on_package s (read s) f) number value output output' report report'
unfolding on_package
opened-by s k o f number value output output' report report' g =
    answers-as _ _ number value output output' report report' (ap (λ (r : Reading). on_package s r f) (sym o.reads)) (g o.held o.stands)

-- or as its bytes are, where lowering would write the package as it stands
pub copied-by : (s : List ℕ) (k : Pack) (o : OpenedAs s k) → Bytes s → (f : Package → Outcome) (number value : ℕ) (output output' report : List ℕ)
    → f o.held ≡ written (length output) o.held → Gives (sized (length output) s) number value output output'
    → Answers (on_package s (read s) f) number value output output' report report
unfolding on_package
copied-by s k o by f number value output output' report e g =
    answers-as _ _ number value output output' report report (sym (unchanged (length output) s by o.held o.reads) ∙ sym e ∙ ap (λ (r : Reading). on_package s r f) (sym o.reads))
    (record { gives = g; report-is = sized-quiet (length output) s report })
