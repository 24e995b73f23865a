-- How many are left of a loop over 0..n, at i.
use Prim.Native.Nat.{ℕ, suc, ◌+◌, ◌-◌, ◌<◌, ◌≤◌}
use native.Mathlib.Omega.{arith}
use mathlib.Core.Path.{◌≡◌}

pub some_left : {n i : ℕ} → i < n → 0 < n - i
some_left h = omega arith

pub none_left : {n i : ℕ} → n ≤ i → n - i ≤ 0
none_left h = omega arith

-- before it one more than after it
pub one_more : {n i : ℕ} → i < n → n - i ≡ suc (n - (i + 1))
one_more h = omega arith

-- one less after each
pub one_less : (n i : ℕ) → n - (i + 1) ≡ n - i - 1
one_less n i = omega arith

-- all before the first
pub all_left : (n : ℕ) → n - 0 ≡ n
all_left n = omega arith

-- where the loop ends, i is n
pub ended : {n i : ℕ} → n ≤ i → i ≤ n → n ≡ i
ended h k = omega arith
