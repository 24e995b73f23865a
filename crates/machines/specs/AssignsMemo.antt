-- Internal: nothing here has to be believed; laws tie it to what docs/TRUSTED.md lists.
-- Which outputs drawn states were found to give or not to give: a table of 16-bit cells, a mark for each row of the states that are
-- kept (specs/Memo), for the output that was asked last, and before the marks, for some states, the equations after the one that was
-- found last. And which outputs each state was found to give: a table of bytes by the index of the output's name.
use Rattle.std.specs.Prelude.{None, ℕ, ◌+◌, ◌*◌, ◌/◌, ◌%◌, ◌<◌, List, Bool, false, true, cond, ◌&&◌, ◌||◌, ◌≡◌, length, get_or, set, ltb}
use Rattle.wire.specs.Bytes.{word_range}
use Rattle.pack_rules.specs.Names.{Name}
use Rattle.pack_rules.specs.Limits.{max_level}
use Rattle.machines.specs.CoverAt.{gives_t, own_t, tells, uncovered_t}
use Rattle.machines.specs.Memo.{regions_in}

-- the mark of an output, by its name's index, that the state's own equations give or do not give; 0 is no such mark
unfoldable pub assigns_mark : ℕ → Bool → ℕ
assigns_mark out given = 2 * out + cond given 2 1

-- where the mark of the state at p stands, after the rows
unfoldable pub mark_cell : ℕ → ℕ
mark_cell p = 768 + p / 10

-- the row of the state at p, which it shares with others: the offset of the one that it is of, and of the equations after the one
-- that was found last there where they begin and how many they are
unfoldable pub hint_row : ℕ → ℕ
hint_row p = 3 * (p / 10 % 256)

-- a row more, where all fits a cell
unfoldable pub hint_put : List ℕ → ℕ → ℕ → ℕ → List ℕ
hint_put t p n q = cond (ltb p word_range && (ltb n word_range && ltb q word_range)) (set (set (set t (hint_row p) p) (hint_row p + 1) q) (hint_row p + 2) n) t

-- what one of n equations from q on gives, the state at p gives
unfoldable pub HintOf : List ℕ → ℕ → ℕ → ℕ → ℕ → Type 0
HintOf s names p n q = (ns : List Name) → length ns ≡ names → (x : ℕ) → (tells (gives_t ns s x) ◌||◌ n q false).yes ≡ true → own_t ns s x p ≡ true

-- of the pack s with so many names: what a mark says of the state that is kept there, and a row of the state that it is of
pub record AssignsSound (s : List ℕ) (names : ℕ) (memo hints : List ℕ) : Type 0 where
  pub own : (ns : List Name) → length ns ≡ names → (p out : ℕ) (given : Bool) → 0 < regions_in memo p → get_or hints (mark_cell p) 0 ≡ assigns_mark out given → own_t ns s out p ≡ given
  pub rest : (p : ℕ) → get_or hints (hint_row p) 0 ≡ p → HintOf s names p (get_or hints (hint_row p + 2) 0) (get_or hints (hint_row p + 1) 0)

-- each state of the layout t gives the output x
unfoldable pub Given : List ℕ → ℕ → List ℕ → ℕ → Type 0
Given s names t x = (ns : List Name) → length ns ≡ names → uncovered_t ns s t x max_level 0 ≡ None

-- of the pack s with so many names and the layout t: what a cell says of the output whose name has its index
pub record AssignmentSound (s : List ℕ) (names : ℕ) (t given : List ℕ) : Type 0 where
  pub known : (x : ℕ) → 0 < get_or given x 0 → Given s names t x
