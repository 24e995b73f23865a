-- Internal: nothing here has to be believed; laws tie it to what docs/TRUSTED.md lists.
-- Refusals as the code answers them, and the numbers that stand for them in a row of the table of activations.
use Rattle.std.specs.Prelude.{ℕ, suc, ◌<◌, ◌^◌, List, Option, Some, None, Result, Ok, Err, ◌≡◌}
use Rattle.activations.specs.declared.checks.Refused.{Refused}
use Rattle.activations.specs.declared.checks.Refusal.{Refusal}
use Rattle.activations.specs.declared.checks.Refusal.TheVariants as rf
use Rattle.activations.specs.ChecksAt.{refused_t}
use Rattle.activations.specs.TypeHoldersAt.{Hold, hold_of}

-- a branch's name, or one more than the number of names for `else`
unfoldable pub branch_number : ℕ → Option ℕ → ℕ
branch_number names None = suc names
branch_number names (Some x) = x

-- the report's number of a refusal and its two names
unfoldable pub numbers_of : ℕ → Refusal → Refused
numbers_of names rf.NoBranches = refused_t 9 names names
numbers_of names rf.NoOutputs = refused_t 10 names names
numbers_of names (rf.OutputUnassigned o b) = refused_t 11 o (branch_number names b)
numbers_of names (rf.DuplicateBranch x) = refused_t 12 x names
numbers_of names (rf.UnknownOwner x) = refused_t 13 x names
numbers_of names rf.LastArgs = refused_t 14 names names
numbers_of names (rf.LastUnknown v) = refused_t 15 v names
numbers_of names (rf.LastNeedsInit v) = refused_t 16 v names
numbers_of names rf.EmptyLeft = refused_t 18 names names

-- room for one more than the names, where it stands for `else`
unfoldable pub RoomFor : ℕ → Refusal → Type 0
RoomFor names rf.NoBranches = Unit {0}
RoomFor names rf.NoOutputs = Unit {0}
RoomFor names (rf.OutputUnassigned o b) = names < 2 ^ 63
RoomFor names (rf.DuplicateBranch x) = Unit {0}
RoomFor names (rf.UnknownOwner x) = Unit {0}
RoomFor names rf.LastArgs = Unit {0}
RoomFor names (rf.LastUnknown v) = Unit {0}
RoomFor names (rf.LastNeedsInit v) = Unit {0}
RoomFor names rf.EmptyLeft = Unit {0}

-- what the checks answer
unfoldable pub checked_as : ℕ → Result (Unit {0}) Refusal → Refused
checked_as names (Ok u) = refused_t 0 names names
checked_as names (Err r) = numbers_of names r

-- what is answered of holders: 0 and v, or the kind of a refusal and its variable
unfoldable pub held_kind : {T : Type 0} → ℕ → Result T Refusal → ℕ
held_kind names (Ok u) = 0
held_kind names (Err r) = (numbers_of names r).kind

unfoldable pub held_var : {T : Type 0} → ℕ → ℕ → Result T Refusal → ℕ
held_var names v (Ok u) = v
held_var names v (Err r) = (numbers_of names r).second

abbrev pub hold_with : {T : Type 0} → ℕ → ℕ → List ℕ → List ℕ → Result T Refusal → Hold
hold_with names v e d r = hold_of e d (held_kind names r) (held_var names v r)

-- a refusal with one name only
unfoldable pub OfVariable : {T : Type 0} → Result T Refusal → Type 0
OfVariable (Ok u) = Unit {0}
OfVariable (Err r) = (names : ℕ) → (numbers_of names r).third ≡ names
