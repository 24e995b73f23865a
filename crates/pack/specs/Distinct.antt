-- Internal: nothing here has to be believed; laws tie it to what docs/TRUSTED.md lists.
-- Names told apart as they are read, so that a name is not looked for among all others. A table of cells stands for the names read so
-- far: the cell of a name holds 1 + where its length byte stands, a free one 0. A name has a way from cell to cell, and its own is the
-- first free one on it: who goes that way again meets the name before any free cell. Any way would be right. A way is made of the
-- hash; where names are many and short, of their letters and a key, which depends on the whole pack, so that names of one way cannot
-- be chosen before the pack is done. Where there is no key, every other cell holds a part of the way of the name before it, by which
-- names that were chosen to meet are told apart without a look at their letters.
use Rattle.std.specs.Prelude.{◌≡◌, ℕ, zero, suc, ◌+◌, ◌-◌, ◌*◌, ◌/◌, ◌%◌, Bool, true, false, cond, not, ◌&&◌, ◌||◌, List, length, take, ◌==◌, nat_lt, slice_index, slice_set}
use Rattle.wire.specs.Bytes.{word_max, word_range}
use Rattle.pack_rules.specs.Names.{Name, eq_name, member}
use Rattle.pack.specs.RawNames.{raw_name, raw_names}
use Rattle.pack.specs.Siphash.{hash, quad_at}

-- how many cells there are
abbrev pub cells : ℕ
cells = 32768

-- up to eight letters of a name as a number
unfoldable pub letters : Name → ℕ
letters n = quad_at n (length n - 8) + 4294967296 * quad_at n (length n - 4)

-- the sum of two lower halves, in 32 bits
abbrev pub half : ℕ → ℕ → ℕ
half x y = (x % 4294967296 + y % 4294967296) % 4294967296

-- both halves, each with its half of the key, multiplied
unfoldable pub product : ℕ → ℕ → ℕ
product key c = half c key * half (c / 4294967296) (key / 4294967296)

-- the key for the last eight letters of a name: of a longer one, the key with its first eight
unfoldable pub key_for : ℕ → Name → ℕ
key_for key n = cond (nat_lt 8 (length n)) (product key (letters (take 8 n))) key

-- the two halves of a number added
unfoldable pub folded : ℕ → ℕ
folded h = h / 4294967296 + h % 4294967296

-- the way of a name that is long, or where there is no key: its hash, multiplied with the key where there is one
unfoldable pub long_way : ℕ → Name → ℕ
long_way key n = cond (key == 0) (hash n) (folded (product key (hash n)))

-- the way of a name
unfoldable pub way : ℕ → Name → ℕ
way key n = cond (key == 0 || nat_lt 16 (length n)) (long_way key n) (folded (product (key_for key n) (letters n)))

-- what is kept of a way
unfoldable pub tag : ℕ → ℕ
tag h = h / word_range % word_range

-- the first cell of a way
unfoldable pub first : ℕ → ℕ → ℕ
first key h = cond (key == 0) (2 * (h % 16384)) (h % cells)

-- the cell after i on a way of which h is left: steps are odd, and each takes one bit more of the way
unfoldable pub after : ℕ → ℕ → ℕ → ℕ
after key h i = cond (key == 0) ((i + 2 * (2 * (h % 16384) + 1)) % cells) ((i + (2 * (h % 16384) + 1)) % cells)

-- whether the cell i, which is that of the name at p, is that of the name n of s, whose way has the tag g
unfoldable pub is_of : List ℕ → List ℕ → Name → ℕ → ℕ → ℕ → ℕ → Bool
is_of s t n key g i p = cond (key == 0 && not (slice_index t (i + 1) == g)) false (eq_name (raw_name s p) n)

-- the free cell for the name n of s, whose way has the tag g, where h is left of it, from the cell i on, which holds w; `cells` where
-- n itself is met, or where there is none within so many steps
unfoldable pub free_from : ℕ → List ℕ → List ℕ → Name → ℕ → ℕ → ℕ → ℕ → ℕ → ℕ
free_from zero s t n key g h i w = cells
free_from (suc f) s t n key g h i zero = i
free_from (suc f) s t n key g h i (suc p) = cond (is_of s t n key g i p) cells (free_from f s t n key g (h / 2) (after key h i) (slice_index t (after key h i)))

-- the same from the beginning of the way h on
unfoldable pub free_on : List ℕ → List ℕ → ℕ → Name → ℕ → ℕ
free_on s t key n h = free_from 256 s t n key (tag h) (h / cells) (first key h) (slice_index t (first key h))

abbrev pub free_cell : List ℕ → List ℕ → ℕ → Name → ℕ
free_cell s t key n = free_on s t key n (way key n)

-- whether a table is one of cells in which all names have theirs: one word more says where not
unfoldable pub telling : List ℕ → Bool
telling t = length t == cells + 1 && slice_index t cells == 0

-- whether a name at p gets the cell i: it is one, and p fits
unfoldable pub gets : ℕ → ℕ → Bool
gets i p = nat_lt i cells && nat_lt p word_max

-- the tag g beside the cell i, where there is no key
unfoldable pub tagged : ℕ → ℕ → ℕ → List ℕ → List ℕ
tagged key g i t = cond (key == 0) (slice_set t (i + 1) g) t

-- the cell i for a name at p, whose way has the tag g
unfoldable pub entered : ℕ → ℕ → ℕ → ℕ → List ℕ → List ℕ
entered key g i p t = cond (gets i p) (tagged key g i (slice_set t i (p + 1))) (slice_set t cells 1)

-- a table tells the n names of s from q on: none of them finds a free cell
unfoldable pub Tells : List ℕ → ℕ → ℕ → ℕ → List ℕ → Type 0
Tells s q n key t = telling t ≡ true → (y : Name) → member y (raw_names s n q) ≡ true → free_cell s t key y ≡ cells
