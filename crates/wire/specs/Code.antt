-- Internal: nothing here has to be believed; laws tie it to what docs/TRUSTED.md lists.
-- The code's answers, and its steps on them, as functions.
use Rattle.std.specs.Prelude.{ℕ, zero, suc, cond, List, ltb, Result, Ok, Err}
use Rattle.wire.specs.declared.answer.Stop.{Stop}
use Rattle.wire.specs.declared.answer.Stop.TheVariants.{Early, Illegal, Deep}
use Rattle.wire.specs.declared.answer.Number.{Number}
use Rattle.wire.specs.Answer.{Answer, value, early, illegal, deep, u16}

-- a number, or why there is none
abbrev pub Read : Type 0
Read = Result Number Stop

-- the offset after what was skipped, or why it could not be
abbrev pub Skipped : Type 0
Skipped = Result ℕ Stop

-- what the code answers
unfoldable pub read_of : Answer ℕ → Result Number Stop
read_of (value n q) = Ok (record { value = n; next = q })
read_of early = Err Early
read_of (illegal o) = Err (Illegal o)
read_of (deep o) = Err (Deep o)

-- the same where only the offset after it is kept
unfoldable pub skip : {A : Type 0} → Answer A → Result ℕ Stop
skip (value a q) = Ok q
skip early = Err Early
skip (illegal o) = Err (Illegal o)
skip (deep o) = Err (Deep o)

-- a number that is not below n is illegal at its field
unfoldable pub checked_of : Number → ℕ → ℕ → Result Number Stop
checked_of v n at = cond (ltb v.value n) (Ok v) (Err (Illegal at))

-- from where reading stands on
unfoldable pub next : Result ℕ Stop → (ℕ → Result ℕ Stop) → Result ℕ Stop
next (Ok q) k = k q
next (Err e) k = Err e

-- from what was found on
unfoldable pub after : {A : Type 0} → Answer A → (A → ℕ → Result ℕ Stop) → Result ℕ Stop
after (value a q) k = k a q
after early k = Err Early
after (illegal o) k = Err (Illegal o)
after (deep o) k = Err (Deep o)

-- n times k
unfoldable pub rep : (ℕ → Result ℕ Stop) → ℕ → ℕ → Result ℕ Stop
rep k zero at = Ok at
rep k (suc n) at = next (k at) (rep k n)

-- what was skipped, then what f reads
unfoldable pub skips : {A : Type 0} → (ℕ → Answer A) → ℕ → Result ℕ Stop
skips f p = skip (f p)

-- from where reading stands, what f reads
unfoldable pub onward : {A : Type 0} → (ℕ → Answer A) → Result ℕ Stop → Result ℕ Stop
onward f r = next r (skips f)

-- a count, then as many times k
unfoldable pub listed : List ℕ → (ℕ → Result ℕ Stop) → ℕ → Result ℕ Stop
listed s k at = after (u16 s at) (rep k)
