-- What is refused of an activation: kinds 9 to 16 in the order of `ActLowerError`, and 18.
use Rattle.std.specs.Prelude.{[], ◌∷◌}
use Rattle.pack_rules.specs.Names.{Name}
use Rattle.pack_rules.specs.Report.{Refusal}

-- Report, kind 9, NoBranches: the activation
unfoldable pub no_branches : Name → Refusal
no_branches a = record { kind = 9; names = a ∷ [] }

-- Report, kind 10, NoOutputs: the activation
unfoldable pub no_outputs : Name → Refusal
no_outputs a = record { kind = 10; names = a ∷ [] }

-- Report, kind 11, OutputUnassigned: the activation, the output, the branch
unfoldable pub output_unassigned : Name → Name → Name → Refusal
output_unassigned a o b = record { kind = 11; names = a ∷ o ∷ b ∷ [] }

-- Report, kind 12, DuplicateBranch: the activation, the branch
unfoldable pub duplicate_branch : Name → Name → Refusal
duplicate_branch a b = record { kind = 12; names = a ∷ b ∷ [] }

-- Report, kind 13, UnknownOwner: the activation, the owner
unfoldable pub unknown_owner : Name → Name → Refusal
unknown_owner a o = record { kind = 13; names = a ∷ o ∷ [] }

-- Report, kind 14, LastArgs: the activation
unfoldable pub last_args : Name → Refusal
last_args a = record { kind = 14; names = a ∷ [] }

-- Report, kind 15, LastUnknown: the activation, the variable
unfoldable pub last_unknown : Name → Name → Refusal
last_unknown a v = record { kind = 15; names = a ∷ v ∷ [] }

-- Report, kind 16, LastNeedsInit: the activation, the variable
unfoldable pub last_needs_init : Name → Name → Refusal
last_needs_init a v = record { kind = 16; names = a ∷ v ∷ [] }

-- Report, the added kind 18, EmptyLeft: the activation
unfoldable pub empty_left : Name → Refusal
empty_left a = record { kind = 18; names = a ∷ [] }
