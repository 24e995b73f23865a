-- Internal: nothing here has to be believed; laws tie it to what docs/TRUSTED.md lists.
-- Reading on a checked pack: a number and the offset after it, 0 and 0 where reading would stop.
use Rattle.std.specs.Prelude.{ℕ, zero, suc, List, cond, eqb}
use Rattle.std.specs.Prelude.{Ok, Err}
use Rattle.wire.specs.Answer.{byte, u16}
use Rattle.wire.specs.Code.{Read, read_of}
use Rattle.wire.specs.declared.answer.Number.{Number}

-- a number and the offset after it
abbrev pub num : ℕ → ℕ → Number
num v q = record { value = v; next = q }

-- what was read, 0 and 0 where reading stopped
unfoldable pub sure_of : Read → Number
sure_of (Ok n) = n
sure_of (Err e) = num 0 0

-- what is made of a number and the offset after it
unfoldable pub with : {A : Type 0} → Number → (ℕ → ℕ → A) → A
with x k = k x.value x.next

-- the first number, or the second where that is 0
unfoldable pub first_some : ℕ → ℕ → ℕ
first_some a b = cond (eqb a 0) b a

-- a count, or a name's index
unfoldable pub number_in : List ℕ → ℕ → Number
number_in s at = sure_of (read_of (u16 s at))

-- a byte
unfoldable pub byte_in : List ℕ → ℕ → Number
byte_in s at = sure_of (read_of (byte s at))

-- how many states: of a region, after its initial state and its history; of a machine, after its initial state
unfoldable pub region_in : List ℕ → ℕ → Number
region_in s at = with (number_in s at) λ i p. with (byte_in s p) λ h q. number_in s q

unfoldable pub machine_from : List ℕ → ℕ → Number
machine_from s at = with (number_in s at) λ i p. number_in s p

-- n things from `at` on, each a number, gathered from the left
unfoldable pub turns : (ℕ → Number) → (ℕ → ℕ → ℕ) → ℕ → ℕ → ℕ → Number
turns r f zero at a = num a at
turns r f (suc n) at a = with (r at) λ v p. turns r f n p (f a v)
