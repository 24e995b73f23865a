-- Internal: nothing here has to be believed; laws tie it to what docs/TRUSTED.md lists.
-- What is kept of equations, guards, regions and states is right wherever there is something.
use Rattle.std.specs.Prelude.{ℕ, ◌+◌, ◌-◌, ◌/◌, ◌%◌, ◌<◌, List, true, ◌≡◌, length, get_or}
use Rattle.wire.specs.Answer.{counted}
use Rattle.wire.specs.Bytes.{word_range}
use Rattle.pack_rules.specs.Names.{Name}
use Rattle.pack_rules.specs.Read.{equation_in, expr_in, transition_in}
use Rattle.wire.specs.declared.answer.Number.{Number}
use Rattle.machines.specs.ResolvedIn.{end_of, over_in}
use Rattle.machines.specs.CheckedReads.{num, number_in}
use Rattle.machines.specs.ResolveAt.{head_t}
use Rattle.machines.specs.LayoutAt.{moves_at}
use Rattle.machines.specs.UnknownTargets.{unknown_target_d, unknown_targets}
use Rattle.machines.specs.EmptyRegions.{empty_d, longest_d}
use Rattle.machines.specs.Memo.{longest_in, mark_in, moves_in, of_empty, of_equation, of_guard, of_strays, past_in, regions_in, value_in}

-- what a row of the mark m and the value v says of the equation, the guard or the region at p, whose states begin at p + 5 after
-- their count
pub record RowSound (ns : List Name) (s : List ℕ) (p m v : ℕ) : Type 0 where
  pub equation : m % 32 ≡ p % 5 + of_equation → v ≡ end_of (equation_in ns s p)
  pub guard : m % 32 ≡ p % 5 + of_guard → v ≡ end_of (expr_in ns s p)
  pub stray : m % 32 ≡ p % 5 + of_strays → unknown_target_d ns s (number_in s (p + 3)).value (p + 5) ≡ unknown_targets (m / 32) (v - 1)
  pub empty : m % 32 ≡ p % 5 + of_empty → empty_d s v p ≡ true

-- what a state's row says of the state at p: where its transitions begin, where it ends, where the count of its regions stands
pub record StateSound (ns : List Name) (s : List ℕ) (p m o r : ℕ) : Type 0 where
  pub moves : m ≡ moves_at ns s p
  pub past : o ≡ over_in ns s p
  pub regions : r ≡ end_of (counted (transition_in ns s) s (moves_at ns s p))

-- the table of a pack s with so many names
pub record RowsSound (s : List ℕ) (names : ℕ) (t : List ℕ) : Type 0 where
  pub rows : (ns : List Name) → length ns ≡ names → (p : ℕ) → p < word_range → 0 < value_in t p → RowSound ns s p (mark_in t p) (value_in t p)
  pub states : (ns : List Name) → length ns ≡ names → (p : ℕ) → 0 < regions_in t p → StateSound ns s p (moves_in t p) (past_in t p) (regions_in t p)

-- and where names stand at spots: the longest name of a state's head, and of the initial states of regions without states
pub record MemoSound (s : List ℕ) (names : ℕ) (offsets t : List ℕ) : Type 0 where
  pub ends : RowsSound s names t
  pub heads : (ns : List Name) → length ns ≡ names → (p : ℕ) → 0 < regions_in t p → num (longest_in t p) (regions_in t p) ≡ head_t ns s offsets p
  pub empties : (p : ℕ) → p < word_range → 0 < value_in t p → mark_in t p % 32 ≡ p % 5 + of_empty → mark_in t p / 32 ≡ longest_d s offsets (value_in t p) p 0

-- what was read of the state at p: its head, where its transitions begin, where it ends, where the count of its regions stands
pub record HeadRead (s : List ℕ) (names : ℕ) (offsets : List ℕ) (p : ℕ) (h : Number) (m o r : ℕ) : Type 0 where
  pub head : (ns : List Name) → length ns ≡ names → h ≡ head_t ns s offsets p
  pub state : (ns : List Name) → length ns ≡ names → StateSound ns s p m o r

-- a table of zeros
abbrev pub Blank : List ℕ → Type 0
Blank t = (i : ℕ) → get_or t i 0 ≡ 0
