-- Internal: nothing here has to be believed; laws tie it to what docs/TRUSTED.md lists.
-- The last step of writing a pack: its parts put together, and what a writer's state answers.
use Rattle.std.specs.Prelude.{ℕ, ◌+◌, List, ◌++◌, length, drop, Result, Ok, Err}
use Rattle.wire.specs.Bytes.{two}
use Rattle.wire.specs.Writer.{State, full, st}
use Rattle.pack.specs.Table.{table, texts_from}
use Rattle.pack_rules.specs.Limits.{max_bytes}
use Rattle.pack_rules.specs.Outcome.{Outcome, answers, sized}
use Rattle.pack.specs.declared.finish.CallError.{CallError}
use Rattle.pack.specs.declared.finish.CallError.TheVariants as ce

-- a pack by its parts: the tables of old and of new names after their count, and the rest
unfoldable pub pack_of : List ℕ → List ℕ → List ℕ → List ℕ
pack_of old made body = two (length (table old) + length (table made)) ++ (old ++ (made ++ body))

-- what the state of a writer answers that began with the old names; the new ones stand behind their index
unfoldable pub answered : ℕ → List ℕ → State → Outcome
answered room old full = answers 8 0
answered room old (st co cm bs md) = sized room (pack_of old (drop texts_from md) bs)

-- the table's number and value of what a call gives in place of a pack
abbrev pub error_number : CallError → ℕ
error_number ce.TooLong = 1
error_number (ce.EndsEarly n) = 2
error_number (ce.Illegal o) = 3
error_number (ce.TooDeep o) = 4
error_number (ce.BytesAfter o) = 5
error_number (ce.Refused n) = 6
error_number (ce.ReportRoom n) = 7
error_number ce.TooLarge = 8
error_number (ce.OutputRoom n) = 9

abbrev pub error_value : CallError → ℕ
error_value ce.TooLong = max_bytes
error_value (ce.EndsEarly n) = n
error_value (ce.Illegal o) = o
error_value (ce.TooDeep o) = o
error_value (ce.BytesAfter o) = o
error_value (ce.Refused n) = n
error_value (ce.ReportRoom n) = n
error_value ce.TooLarge = 0
error_value (ce.OutputRoom n) = n

-- the table's number and value of what a call answers
abbrev pub number_for : Result ℕ CallError → ℕ
number_for (Ok n) = 0
number_for (Err e) = error_number e

abbrev pub value_for : Result ℕ CallError → ℕ
value_for (Ok n) = n
value_for (Err e) = error_value e
