-- Laws for the code that makes the tables, step by step.
use Prim.Native.Nat.{ℕ, zero, suc, ◌+◌, ◌-◌, ◌%◌, ◌<◌, ◌≤◌}
use native.Mathlib.Omega.{arith}
use mathlib.Core.List.{List}
use mathlib.Core.Path.{◌≡◌, refl, sym, ap, ◌∙◌}
use lib.ListN.{length, get_or, set, length-set, get_or-eq_default}
use borrow.Author.Tests.{lt-ltb, le-ltb}
use Rattle.wire.specs.Answer.{counted}
use Rattle.wire.specs.Code.{Skipped, next, onward, skips}
use Rattle.std.specs.Prelude.{Ok}
use Rattle.pack_rules.specs.Names.{Name}
use Rattle.pack_rules.specs.Read.{optional_in, ports_in, state_at}
use Rattle.pack.specs.Verdict.{offset_of}
use Rattle.wire.specs.declared.answer.Number.{Number}
use Rattle.machines.specs.ResolvedIn.{end_of}
use Rattle.machines.specs.CheckedReads.{number_in}
use Rattle.machines.specs.Tables.{outputs_in, initial_in, len_of, machines_placed, names_placed, next_name, placed_from, states_end}
use Rattle.machines.proofs.CheckedReadLaws.{end_is, on}

pub past_end : (t : List ℕ) (i : ℕ) → length t ≤ i → 0 ≡ get_or t i 0
past_end t i h = sym (get_or-eq_default t 0 h)

pub name-next : (s : List ℕ) (at : ℕ) → at < length s → at + 1 + get_or s at 0 ≡ next_name s at
unfolding next_name
name-next s at h = rw (lt-ltb at (length s) h)

pub name-stays : (s : List ℕ) (at : ℕ) → length s ≤ at → at ≡ next_name s at
unfolding next_name
name-stays s at h = rw (le-ltb at (length s) h)

pub names-step : (s : List ℕ) (m k at : ℕ) (t : List ℕ) → names_placed s (suc m) at k t ≡ names_placed s m (next_name s at) (k + 1) (set t k (at % 65536))
unfolding names_placed
names-step s m k at t = refl

pub names_more : (s : List ℕ) (n k at : ℕ) (t u z : List ℕ) (p : ℕ) → k < n → u ≡ set t k (at % 65536) → p ≡ next_name s at → names_placed s (n - k) at k t ≡ z → names_placed s (n - (k + 1)) p (k + 1) u ≡ z
names_more s n k at t u z p h e f g = go (n - k) refl
  where
    go : (m : ℕ) → n - k ≡ m → names_placed s (n - (k + 1)) p (k + 1) u ≡ z
    go zero d = absurd (omega arith)
    go (suc m) d =
        let i : n - (k + 1) ≡ m = omega arith in
        rw (i, e, f) (sym (names-step s m k at t) ∙ ap (λ (y : ℕ). names_placed s y at k t) (sym d) ∙ g)

pub names-end : (s : List ℕ) (n k at : ℕ) (t z : List ℕ) → n ≤ k → names_placed s (n - k) at k t ≡ z → t ≡ z
unfolding names_placed
names-end s n k at t z h g = let i : n - k ≡ 0 = omega arith in sym (ap (λ (y : ℕ). names_placed s y at k t) i) ∙ g

pub len_is : (s offsets : List ℕ) (i at r : ℕ) → at ≡ get_or offsets i 0 → r ≡ get_or s at 0 → r ≡ len_of s offsets i
unfolding len_of
len_is s offsets i at r e f = f ∙ ap (λ (y : ℕ). get_or s y 0) e

module _ (ns : List Name) (s : List ℕ) where
  pub outputs-is : (at : ℕ) (a : Skipped) (r : ℕ) → a ≡ onward (ports_in ns s) (onward (optional_in ns s) (Ok at)) → r ≡ offset_of a → r ≡ outputs_in ns s at
  unfolding outputs_in
  outputs-is at a r x z = z ∙ ap offset_of x

  pub initial-is : (at : ℕ) (a : Skipped) (r : ℕ) → a ≡ onward (ports_in ns s) (onward (ports_in ns s) (onward (ports_in ns s) (onward (optional_in ns s) (Ok at)))) → r ≡ offset_of a → r ≡ initial_in ns s at
  unfolding initial_in
  initial-is at a r x z = z ∙ ap offset_of x

  pub states-end : (at : ℕ) (i : Number) (r : ℕ) → i ≡ number_in s at → r ≡ end_of (counted (state_at ns s) s i.next) → r ≡ states_end ns s at
  unfolding states_end onward next skips
  states-end at i r x y = on i _ _ r x (y ∙ sym (end_is (counted (state_at ns s) s) i.next _ _ refl refl))

  pub placed-more : (n at w p : ℕ) (i : Number) (t u z : List ℕ) → 0 < n → i ≡ number_in s at → w ≡ initial_in ns s i.next → u ≡ set t i.value (w % 65536) → p ≡ states_end ns s w → placed_from ns s n at t ≡ z → placed_from ns s (n - 1) p u ≡ z
  unfolding placed_from
  placed-more zero at w p i t u z l a b c d e = absurd (omega arith)
  placed-more (suc n) at w p i t u z l a b c d e =
      let j : suc n - 1 ≡ n = omega arith in
      rw (j, c, d, b) (on i (number_in s at) (λ i p. placed_from ns s n (states_end ns s (initial_in ns s p)) (set t i (initial_in ns s p % 65536))) _ a refl ∙ e)

  pub placed_end : (n at : ℕ) (t z : List ℕ) → n ≤ 0 → placed_from ns s n at t ≡ z → t ≡ z
  unfolding placed_from
  placed_end zero at t z l e = e
  placed_end (suc n) at t z l e = absurd (omega arith)

  pub placed-is : (at : ℕ) (c : Number) (t u : List ℕ) → c ≡ number_in s at → u ≡ placed_from ns s c.value c.next t → u ≡ machines_placed ns s at t
  unfolding machines_placed
  placed-is at c t u e f = on c _ _ u e f

pub names-start : (s : List ℕ) (n k at : ℕ) (t : List ℕ) → k ≡ 0 → names_placed s (n - k) at k t ≡ names_placed s n at k t
names-start s n k at t e = let i : n - k ≡ n = omega arith in ap (λ (y : ℕ). names_placed s y at k t) i

pub put-length : (t u l : List ℕ) (i v : ℕ) → u ≡ set t i v → length t ≡ length l → length u ≡ length l
put-length t u l i v e f = ap length e ∙ length-set t i v ∙ f
