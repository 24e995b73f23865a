-- A small case: the bytes that the code gives for three refusals are those of the report's definition.
use Prim.Native.Nat.{ℕ}
use mathlib.Core.List.{List, [], ◌∷◌}
use mathlib.Core.Path.{◌≡◌, refl}
use Rattle.pack.specs.RawNames.{raw_name}
use Rattle.pack_rules.specs.Report.{entries}
use Rattle.pack_rules.specs.Write.{enc}
use Rattle.machines.specs.declared.verdicts.NameRef.{NameRef}
use Rattle.machine_rules.specs.Refusals.{no_states, unassigned, unknown_target}
use Rattle.machines.specs.Layout.{prefix_of, slice_of}
use Rattle.machines.specs.EmitAt.{pack_name}
use Rattle.machines.specs.ReportEntries.{called_of, entry_bytes, name_bytes, names_bytes, names_of}
use Rattle.machines.specs.VerdictAt.{refused_by}

-- the names M and T, and where they stand
abbrev s : List ℕ
s = 2 ∷ 0 ∷ 1 ∷ 77 ∷ 1 ∷ 84 ∷ []

abbrev offsets : List ℕ
offsets = 2 ∷ 4 ∷ []

-- the states A and A_B
abbrev qualified : List ℕ
qualified = 1 ∷ 65 ∷ 3 ∷ 65 ∷ 95 ∷ 66 ∷ []

abbrev called : ℕ → ℕ → ℕ → NameRef
called a n x = record { letter = a; letters = n; name = x }

-- no states: no name after the machine's own
pub no-states : entry_bytes s offsets qualified 0 (refused_by 1 (called 0 0 65535) (called 0 0 65535)) ≡ entries (no_states (77 ∷ []) ∷ [])
unfolding entry_bytes names_of names_bytes name_bytes called_of pack_name raw_name entries enc no_states
no-states = refl

-- in the state A_B no state T inside A
pub no_target : entry_bytes s offsets qualified 0 (refused_by 3 (called 3 3 65535) (called 1 1 1)) ≡ entries (unknown_target (77 ∷ []) (65 ∷ 95 ∷ 66 ∷ []) (65 ∷ 95 ∷ 84 ∷ []) ∷ [])
unfolding entry_bytes names_of names_bytes name_bytes called_of pack_name raw_name prefix_of slice_of entries enc unknown_target
no_target = refl

-- no value of T in the state A
pub no_value : entry_bytes s offsets qualified 0 (refused_by 4 (called 0 0 1) (called 1 1 65535)) ≡ entries (unassigned (77 ∷ []) (84 ∷ []) (65 ∷ []) ∷ [])
unfolding entry_bytes names_of names_bytes name_bytes called_of pack_name raw_name prefix_of slice_of entries enc unassigned
no_value = refl
