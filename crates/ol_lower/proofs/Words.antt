-- Laws of the word that a C function returns: the number times 2^32 plus the value.
use Prim.Native.Nat.{ℕ, ◌+◌, ◌*◌, ◌<◌}
use native.Mathlib.Omega.{arith}
use mathlib.Core.List.{List}
use mathlib.Core.Path.{◌≡◌, subst}
use lib.ListN.{take}

-- a word below 2^32 has the number 0, and is the value
pub word_small : (P : List ℕ → Type 0) (output : List ℕ) (word number value : ℕ) → word ≡ number * 4294967296 + value → (number ≡ 0 → P (take value output)) → word < 4294967296 → P (take word output)
word_small P output word number value w h small =
    let zero : number ≡ 0 = omega arith in
    let same : value ≡ word = omega arith in
    subst (λ (n : ℕ). P (take n output)) same (h zero)
