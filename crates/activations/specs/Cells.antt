-- Internal: nothing here has to be believed; laws tie it to what docs/TRUSTED.md lists.
-- Tables of 16-bit words.
use Rattle.std.specs.Prelude.{ℕ, ◌%◌, List, get_or, set}
use Rattle.wire.specs.Bytes.{word_range}
use Rattle.machines.specs.OwnersAt.{fill_t}

-- a word of 16 bits at i, where there is one
unfoldable pub put_t : List ℕ → ℕ → ℕ → List ℕ
put_t t i v = set t i (v % word_range)

-- zero in the first n; those of another table in the first n
unfoldable pub clear_t : ℕ → List ℕ → List ℕ
clear_t n t = fill_t (λ i. 0) n 0 t

unfoldable pub copy_t : List ℕ → ℕ → List ℕ → List ℕ
copy_t from n t = fill_t (λ i. get_or from i 0) n 0 t
