-- Internal: nothing here has to be believed; laws tie it to what docs/TRUSTED.md lists.
-- The nodes to which machines or activations go, so that at the others none of them is asked: `goal i` is the node of the one of index i.
use Rattle.std.specs.Prelude.{ℕ, zero, suc, ◌<◌, ◌≤◌, List, cond, get_or, ltb}
use Rattle.wire.specs.Bytes.{word_range}

-- stands for no node: none has an index so large
abbrev pub no_node : ℕ
no_node = word_range

-- the node of the machine i
unfoldable pub goes_t : List ℕ → ℕ → ℕ
goes_t receivers i = get_or receivers i 0

-- the lesser of the goals a and b, where a is not before k
unfoldable pub nearer_t : ℕ → ℕ → ℕ → ℕ
nearer_t k a b = cond (ltb a k) b (cond (ltb a b) a b)

-- the least goal from k on among n indexes from i on, b where none is less
unfoldable pub receives_t : (ℕ → ℕ) → ℕ → ℕ → ℕ → ℕ → ℕ
receives_t goal k zero i b = b
receives_t goal k (suc n) i b = receives_t goal k n (suc i) (nearer_t k (goal i) b)

-- the next goal at the node k, where b was the one before
unfoldable pub next_receiver_t : (ℕ → ℕ) → ℕ → ℕ → ℕ → ℕ
next_receiver_t goal n k b = cond (ltb b k) (receives_t goal k n 0 no_node) b

-- how many of n are asked at the node k, where b is the next goal
unfoldable pub asked_t : ℕ → ℕ → ℕ → ℕ
asked_t k b n = cond (ltb k b) 0 n

-- none of the first n goals is from k on and below b
abbrev pub Idle : (ℕ → ℕ) → ℕ → ℕ → ℕ → Type 0
Idle goal n k b = (j : ℕ) → j < n → k ≤ goal j → goal j < b → ⊥
