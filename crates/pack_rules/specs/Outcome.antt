-- What a call answers: the table of numbers and values, and what the buffers hold.
use Rattle.std.specs.Prelude.{ℕ, ◌+◌, ◌*◌, List, ◌++◌, ◌≡◌, cond, length, drop, ltb}
use Rattle.pack_rules.specs.Limits.{max_bytes}
use Rattle.pack_rules.specs.Syntax.{Package}
use Rattle.pack_rules.specs.Read.{Reading, too_long, ends_early, illegal_at, deep_at, bytes_after, whole, read}
use Rattle.pack_rules.specs.Write.{package_items, shorts, encode}

-- only a number and a value, a report, or a pack
pub data Outcome : Type 0 where
  answers : ℕ → ℕ → Outcome
  reports : List ℕ → Outcome
  writes : List ℕ → Outcome

-- the column "Returned": a report is 6, a pack is 0
unfoldable pub number_of : Outcome → ℕ
number_of (answers n v) = n
number_of (reports r) = 6
number_of (writes b) = 0

-- the column "Value"
unfoldable pub value_of : Outcome → ℕ
value_of (answers n v) = v
value_of (reports r) = length r
value_of (writes b) = length b

-- as the C interface returns them: the number times 2^32 plus the value
unfoldable pub returned : Outcome → ℕ
returned o = number_of o * 4294967296 + value_of o

-- a buffer that begins with bytes, and its rest as it was
unfoldable pub begins : List ℕ → List ℕ → List ℕ
begins p d = p ++ drop (length p) d

-- the output buffer: only a pack changes it
unfoldable pub output_of : Outcome → List ℕ → List ℕ
output_of (answers n v) d = d
output_of (reports r) d = d
output_of (writes b) d = begins b d

-- a call's number, value and output buffer are an outcome's
pub record Gives (x : Outcome) (number value : ℕ) (entry exit : List ℕ) : Type 0 where
  pub number_is : number ≡ number_of x
  pub value-is : value ≡ value_of x
  pub output-is : exit ≡ output_of x entry

-- the report buffer: only a report changes it
unfoldable pub report_of : Outcome → List ℕ → List ℕ
report_of (answers n v) d = d
report_of (reports r) d = begins r d
report_of (writes b) d = d

-- a call's number, value and both buffers are an outcome's
pub record Answers (x : Outcome) (number value : ℕ) (output output' report report' : List ℕ) : Type 0 where
  pub gives : Gives x number value output output'
  pub report-is : report' ≡ report_of x report

-- 1 to 5 are what reading meets
unfoldable pub on_package : List ℕ → Reading → (Package → Outcome) → Outcome
on_package s too_long k = answers 1 max_bytes
on_package s ends_early k = answers 2 (length s)
on_package s (illegal_at o) k = answers 3 o
on_package s (deep_at o) k = answers 4 o
on_package s (bytes_after o) k = answers 5 o
on_package s (whole p) k = k p

-- 6 or 7
unfoldable pub reported : ℕ → List ℕ → Outcome
reported room r = cond (ltb room (length r)) (answers 7 (length r)) (reports r)

-- 8, 9 or 0
unfoldable pub sized : ℕ → List ℕ → Outcome
sized room b = cond (ltb max_bytes (length b)) (answers 8 0) (cond (ltb room (length b)) (answers 9 (length b)) (writes b))

-- a package written to a buffer of so many bytes; a name over the limit is 8
unfoldable pub written : ℕ → Package → Outcome
written room p = cond (shorts (package_items p)) (sized room (encode p)) (answers 8 0)

-- the check of a pack
unfoldable pub check : List ℕ → Outcome
check s = on_package s (read s) (λ p. answers 0 (length s))
