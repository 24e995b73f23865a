-- Internal: nothing here has to be believed; laws tie it to what docs/TRUSTED.md lists.
-- What is kept of a pack's equations, guards, regions and states, by where they begin: rows of 16-bit cells in one table.
-- An equation, a transition and a region's head take at least 5 bytes and a state at least 10, so that in a legal pack no two share
-- a row.
use Rattle.std.specs.Prelude.{ℕ, ◌+◌, ◌*◌, ◌/◌, ◌%◌, List, cond, ◌&&◌, get_or, set, eqb, ltb}
use Rattle.wire.specs.Bytes.{word_range}

-- a row of two cells: a mark, which tells whose it is and may hold one number more, and a value
unfoldable pub mark_in : List ℕ → ℕ → ℕ
mark_in t p = get_or t (2 * (p / 5)) 0

unfoldable pub value_in : List ℕ → ℕ → ℕ
value_in t p = get_or t (2 * (p / 5) + 1) 0

-- a row more, where all fits a cell
unfoldable pub row_put : List ℕ → ℕ → ℕ → ℕ → List ℕ
row_put t p m v = cond (ltb p word_range && (ltb m word_range && ltb v word_range)) (set (set t (2 * (p / 5)) m) (2 * (p / 5) + 1) v) t

-- the kinds of rows: an equation, by where it ends; a guard, by where it ends; the bytes before a region's states, by the first
-- target that is none of them (its name's index, and 1), with how many states come before the one that has it; regions without states
-- that follow one another, by how many, with the longest name of their initial states
abbrev pub of_equation : ℕ
of_equation = 1

abbrev pub of_guard : ℕ
of_guard = 6

abbrev pub of_strays : ℕ
of_strays = 11

abbrev pub of_empty : ℕ
of_empty = 16

-- the mark of the thing of the kind k at p, with the number x
unfoldable pub row_mark : ℕ → ℕ → ℕ → ℕ
row_mark p k x = p % 5 + k + 32 * x

-- the value that is kept of the thing of the kind k at p; 0 where none is
unfoldable pub kept_in : List ℕ → ℕ → ℕ → ℕ
kept_in t p k = cond (ltb p word_range) (cond (eqb (mark_in t p % 32) (p % 5 + k)) (value_in t p) 0) 0

-- and the number that its mark holds
unfoldable pub beside_in : List ℕ → ℕ → ℕ
beside_in t p = mark_in t p / 32

-- a state's row: its offset, its head's longest name, where its transitions begin, where it ends, where its regions' count stands.
-- The rows stand after the others.
unfoldable pub state_row : ℕ → ℕ
state_row p = 26216 + 5 * (p / 10)

unfoldable pub longest_in : List ℕ → ℕ → ℕ
longest_in t p = get_or t (state_row p + 1) 0

unfoldable pub moves_in : List ℕ → ℕ → ℕ
moves_in t p = get_or t (state_row p + 2) 0

unfoldable pub past_in : List ℕ → ℕ → ℕ
past_in t p = get_or t (state_row p + 3) 0

-- 0 where the state at p is not kept
unfoldable pub regions_in : List ℕ → ℕ → ℕ
regions_in t p = cond (eqb (get_or t (state_row p) 0) p) (get_or t (state_row p + 4) 0) 0

-- the row of the state at p, written: its head's longest name l, its transitions at m, its end o, its regions' count at r
unfoldable pub state_put : List ℕ → ℕ → ℕ → ℕ → ℕ → ℕ → List ℕ
state_put t p l m o r = set (set (set (set (set t (state_row p) p) (state_row p + 1) l) (state_row p + 2) m) (state_row p + 3) o) (state_row p + 4) r
