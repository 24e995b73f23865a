-- What is refused of a machine: kinds 1 to 8 in the order of `LowerError`, and 17.
use Rattle.std.specs.Prelude.{[], ◌∷◌}
use Rattle.pack_rules.specs.Names.{Name}
use Rattle.pack_rules.specs.Report.{Refusal}

-- Report, kind 1, NoStates: the machine
unfoldable pub no_states : Name → Refusal
no_states m = record { kind = 1; names = m ∷ [] }

-- Report, kind 2, UnknownInitialState: the machine, the initial state
unfoldable pub unknown_initial : Name → Name → Refusal
unknown_initial m i = record { kind = 2; names = m ∷ i ∷ [] }

-- Report, kind 3, UnknownTarget: the machine, the state, the target
unfoldable pub unknown_target : Name → Name → Name → Refusal
unknown_target m s t = record { kind = 3; names = m ∷ s ∷ t ∷ [] }

-- Report, kind 4, OutputUnassigned: the machine, the output, the state
unfoldable pub unassigned : Name → Name → Name → Refusal
unassigned m o s = record { kind = 4; names = m ∷ o ∷ s ∷ [] }

-- Report, kind 5, DuplicateState: the machine, the state
unfoldable pub duplicate_state : Name → Name → Refusal
duplicate_state m s = record { kind = 5; names = m ∷ s ∷ [] }

-- Report, kind 6, UnknownRefine: the machine, the state by its own name, the refinement
unfoldable pub unknown_refine : Name → Name → Name → Refusal
unknown_refine m s n = record { kind = 6; names = m ∷ s ∷ n ∷ [] }

-- Report, kind 7, RefineCycle: the machine, the refinement
unfoldable pub refine_cycle : Name → Name → Refusal
refine_cycle m n = record { kind = 7; names = m ∷ n ∷ [] }

-- Report, kind 8, UnknownOwner: the machine, the owner
unfoldable pub unknown_owner : Name → Name → Refusal
unknown_owner m o = record { kind = 8; names = m ∷ o ∷ [] }

-- Report, the added kind 17, TooLarge: the machine
unfoldable pub too_large : Name → Refusal
too_large m = record { kind = 17; names = m ∷ [] }
