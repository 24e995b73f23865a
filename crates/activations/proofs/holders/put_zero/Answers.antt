use native.Mathlib.Omega.{arith}
use Rattle.activations.proofs.HolderLaws.{zero-bool, zero-char, zero-float, zero-int}
use Rattle.activations.proofs.holders.put_zero.Goals as goal

pub returns-in-0 : goal.returns-in-0
returns-in-0 c = λ m. zero-bool _ _ _ c.in-0.is (c.put_bytes.ensures m)

pub returns-in-1 : goal.returns-in-1
returns-in-1 c = λ m. zero-int _ _ _ c.in-1.is (c.put_bytes-in-1.ensures m)

pub returns-in-2 : goal.returns-in-2
returns-in-2 c = λ m. zero-float _ _ _ c.in-2.is (c.put_bytes-in-2.ensures m)

pub returns-in_default : goal.returns-in_default
returns-in_default c = λ m. zero-char _ _ _ (λ e. omega arith) (λ e. omega arith) (λ e. omega arith) (c.put_bytes-in_default.ensures m)
