-- Internal: nothing here has to be believed; laws tie it to what docs/TRUSTED.md lists.
-- What is read of a state before its regions.
use Rattle.std.specs.Prelude.{ℕ, List}
use Rattle.wire.specs.Answer.{counted}
use Rattle.pack_rules.specs.Names.{Name}
use Rattle.pack_rules.specs.Read.{transition_in}
use Rattle.machines.specs.declared.memo.Head.{Head}
use Rattle.wire.specs.declared.answer.Number.{Number}
use Rattle.machines.specs.ResolvedIn.{end_of}
use Rattle.machines.specs.ResolveAt.{head_t}
use Rattle.machines.specs.LayoutAt.{moves_at}

-- its longest name and where that was read to, where its transitions begin, where the count of its regions stands
abbrev pub head : Number → ℕ → ℕ → Head
head h m r = record { head = h; moves = m; regions = r }

-- that of the state at `at`
unfoldable pub head_of : List Name → List ℕ → List ℕ → ℕ → Head
head_of ns s offsets at = head (head_t ns s offsets at) (moves_at ns s at) (end_of (counted (transition_in ns s) s (moves_at ns s at)))
