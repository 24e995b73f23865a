-- Internal: nothing here has to be believed; laws tie it to what docs/TRUSTED.md lists.
-- What a writer and its two buffers stand for, and what each step appends.
use Rattle.std.specs.Prelude.{ℕ, ◌+◌, cond, List, [], ◌∷◌, ◌++◌, length, take, drop, ltb}
use Rattle.wire.specs.declared.writer.Writer.{Writer}

-- full, or the room of the two buffers, and what is written to each
pub data State : Type 0 where
  full : State
  st : ℕ → ℕ → List ℕ → List ℕ → State

-- bytes past the writer's places do not matter
unfoldable pub state_of : List ℕ → List ℕ → Writer → State
state_of out made w = cond w.full full (st (length out) (length made) (take w.at out) (take w.made made))

-- one byte more in the first buffer
unfoldable pub put : ℕ → State → State
put b full = full
put b (st co cm bs md) = cond (ltb (length bs) co) (st co cm (bs ++ (b ∷ [])) md) full

-- bytes in order
unfoldable pub puts : List ℕ → State → State
puts [] s = s
puts (b ∷ bs) s = puts bs (put b s)

-- the two buffers change places
unfoldable pub swapped : State → State
swapped full = full
swapped (st co cm bs md) = st cm co md bs

-- a buffer with bytes put over what it held from `at` on
unfoldable pub overwritten : ℕ → List ℕ → List ℕ → List ℕ
overwritten at p d = take at d ++ (p ++ drop (at + length p) d)
