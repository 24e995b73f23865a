-- Laws of number and value in one word: the number times 2^32 plus the value.
use Prim.Native.Nat.{ℕ, ◌+◌, ◌*◌}
use mathlib.Core.Path.{◌≡◌, ◌∙◌}
use Rattle.pack_rules.specs.Outcome.{Outcome, number_of, returned, value_of}

-- number and value are an outcome's
pub word-is : (x : Outcome) (word number value : ℕ) → word ≡ number * 4294967296 + value → number ≡ number_of x → value ≡ value_of x → word ≡ returned x
unfolding returned
word-is x word number value w e f = w ∙ λ i. e i * 4294967296 + f i
