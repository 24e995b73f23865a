-- Number and value of what is answered fit 32 bits: the C interface has room for both in 64.
use Prim.Native.Nat.{ℕ, ◌+◌, ◌*◌, ◌<◌, ◌≤◌}
use native.Mathlib.Omega.{arith}
use mathlib.Core.List.{List}
use mathlib.Core.Bool.{Bool, true, false, cond}
use mathlib.Core.Path.{◌≡◌, refl}
use lib.ListN.{length, drop}
use lib.Dec.{ltb}
use borrow.Author.Tests.{ltb-false}
use Rattle.wire.specs.Writer.{State, full, st}
use Rattle.pack_rules.specs.Outcome.{Answers, Gives, Outcome, answers, number_of, returned, sized, value_of, writes}
use Rattle.pack.specs.Finish.{answered, pack_of}
use Rattle.pack.specs.Table.{texts_from}
use Rattle.machines.specs.declared.verdicts.VerdictRow.{VerdictRow}
use Rattle.machines.specs.ReportEntries.{entry_bytes}
use Rattle.machines.proofs.EntryLaws.{entry-most}
use Rattle.machines.proofs.OutcomeSmall.{InTable, table_fits}

-- an entry has three names, each with letters of the pack or the four of `else`
pub entry-fits : (s offsets qualified : List ℕ) (m : ℕ) (j : VerdictRow) (r : ℕ) → length s ≤ 65536 → length qualified ≤ 4 → r ≡ length (entry_bytes s offsets qualified m j) → r ≤ 200000
entry-fits s offsets qualified m j r a b e = let x = entry-most s offsets qualified m j r e in omega arith

sized-fits : (room : ℕ) (b : List ℕ) → InTable (sized room b)
unfolding sized number_of value_of
sized-fits room b = go (ltb 65536 (length b)) refl (ltb room (length b))
  where
    go : (x : Bool) → ltb 65536 (length b) ≡ x → (y : Bool) → InTable (cond x (answers 8 0) (cond y (answers 9 (length b)) (writes b)))
    go true e y = (omega arith, omega arith)
    go false e true = (omega arith, omega (arith, ltb-false 65536 (length b) e))
    go false e false = (omega arith, omega (arith, ltb-false 65536 (length b) e))

-- a pack has at most 65,536 bytes
pub answered-fits : (room : ℕ) (old : List ℕ) (z : State) → InTable (answered room old z)
unfolding answered number_of value_of
answered-fits room old full = (omega arith, omega arith)
answered-fits room old (st co cm bs md) = sized-fits room (pack_of old (drop texts_from md) bs)

pub gives_fits : (room : ℕ) (old : List ℕ) (z : State) (number value : ℕ) (output output' : List ℕ) → Gives (answered room old z) number value output output' → (number ≤ 9) × (value < 4294967296)
gives_fits room old z number value output output' g = table_fits (answered room old z) number value output output' (answered-fits room old z) g

pub copy-fits : (room : ℕ) (b : List ℕ) (number value : ℕ) (output output' : List ℕ) → Gives (sized room b) number value output output' → (number ≤ 9) × (value < 4294967296)
copy-fits room b number value output output' g = table_fits (sized room b) number value output output' (sized-fits room b) g

-- number and value in one word are what the C interface returns
pub returned-as : (x : Outcome) (number value : ℕ) (output output' report report' : List ℕ) → Answers x number value output output' report report' → number * 4294967296 + value ≡ returned x
unfolding returned
returned-as x number value output output' report report' a = λ j. a.gives.number_is j * 4294967296 + a.gives.value-is j
