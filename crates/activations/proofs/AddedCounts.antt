-- How many locals and equations activations bring to nodes: the code's steps, and that they are the definition's but for multiples of
-- 65,536, which no count of a pack shows.
use Prim.Native.Nat.{ℕ, ◌+◌}
use mathlib.Core.List.{List}
use mathlib.Core.Path.{◌≡◌, ap, ◌∙◌}
use Rattle.wire.specs.declared.answer.Number.{Number}
use Rattle.machines.specs.CheckedReads.{number_in}
use Rattle.machines.proofs.CheckedReadLaws.{on}
use Rattle.activations.specs.ActTable.{made_t, spot_t}
use Rattle.activations.specs.CountsAt.{equation_count_t}

pub count-is : (s acts : List ℕ) (i at l : ℕ) (a o c : Number) → at ≡ spot_t acts i → a ≡ number_in s at → o ≡ number_in s a.next → c ≡ number_in s o.next → l ≡ made_t acts i → l + c.value ≡ equation_count_t s acts i
unfolding equation_count_t
count-is s acts i at l a o c e f g h d =
    on a _ _ _ (f ∙ ap (number_in s) e) (on o _ _ _ g (on c _ _ _ h (ap (λ y. y + c.value) d)))
