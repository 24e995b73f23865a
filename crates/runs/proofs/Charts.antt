-- The starred charts: one table, one theorem.
use Prim.Native.Nat.{ℕ}
use mathlib.Core.List.{List, [], ◌∷◌}
use mathlib.Core.Bool.{Bool, true, false}
use mathlib.Core.Option.{Option, none, some}
use mathlib.Core.Path.{◌≡◌, refl}
use Rattle.wire.specs.Decimal.{decimal, digits}
use Rattle.pack_rules.specs.Forms.{name_at}
use Rattle.pack_rules.specs.Limits.{max_bytes}
use Rattle.pack_rules.specs.Names.{Name, eq_name, member}
use Rattle.pack_rules.specs.Outcome.{Outcome, reports, writes}
use Rattle.machine_rules.specs.MadeNames.{active_var, next_var, sm_prefix, state_var}
use Rattle.machine_rules.specs.Resolve.{as_machine}
use Rattle.machine_rules.proofs.Computed.{machines_given}
use Rattle.activation_rules.specs.MadeNames.{Scope, act_prefix, branch, clock_var, else_scope, flag_var, made_name, none_var, tag, value_var}
use Rattle.activation_rules.specs.RewriteLast.{conditions_of, rewrite_last}
use Rattle.activation_rules.proofs.Computed as acts
use Rattle.run_rules.specs.Run.{Value, eval, if_value}
use Rattle.run_rules.specs.Scopes.{choice, scope_in}
use Rattle.run_rules.proofs.ChartFacts as chart
use Rattle.run_rules.proofs.ChartFacts.{P, Q}
use Rattle.run_rules.proofs.PremisesTested.{fed, truth}
use Rattle.run_rules.proofs.RunTables.{adding, cell_at, in_states, lit_value, look, numbers, open_run, sometimes, table_run, truths}
use Rattle.run_rules.proofs.Tested.{is_present}
use Rattle.runs.proofs.Computing.{act_block, finding, pack_in, packed, satisfying}
use Rattle.runs.proofs.FirstTrue as first
use Rattle.runs.proofs.FirstTrue.{both_conditions}
use Rattle.runs.proofs.Nested.{nested, run, table}

-- A pack, and what its two lowerings answer with buffers as long as a pack may be; a pack, what lowering its machines writes, and what
-- lowering the activations of that writes; the nested region's history, and the states that the plain chart finds it in, in cycles 0 to 3;
-- the pack of two conditions, and in a run of it each cycle's scope and output.
pub data Chart : Type 0 where
  lowers : List ℕ → Outcome → Outcome → Chart
  lowers_both : List ℕ → List ℕ → List ℕ → Chart
  finds : Bool → List Name → Chart
  gives : List ℕ → List Scope → List (Option (Value ℕ)) → Chart

-- what a chart comes to
pub data Come : Type 0 where
  lowered : Outcome → List Outcome → Come
  found : List Name → Come
  gave : List ℕ → Bool → List Scope → List (Option (Value ℕ)) → Come

unfoldable pub charts : List Chart
charts =
    -- Twelve zero bytes: both lowerings return them
    lowers (0 ∷ 0 ∷ 0 ∷ 0 ∷ 0 ∷ 0 ∷ 0 ∷ 0 ∷ 0 ∷ 0 ∷ 0 ∷ 0 ∷ [])
    (writes (0 ∷ 0 ∷ 0 ∷ 0 ∷ 0 ∷ 0 ∷ 0 ∷ 0 ∷ 0 ∷ 0 ∷ 0 ∷ 0 ∷ []))
    (writes (0 ∷ 0 ∷ 0 ∷ 0 ∷ 0 ∷ 0 ∷ 0 ∷ 0 ∷ 0 ∷ 0 ∷ 0 ∷ 0 ∷ []))
    -- M with the only state S: 40 bytes, then 101, and activations of those 101 write them again
    ∷ lowers_both (2 ∷ 0 ∷ 1 ∷ 77 ∷ 1 ∷ 83 ∷ 0 ∷ 0 ∷ 0 ∷ 0 ∷ 1 ∷ 0 ∷ 0 ∷ 0 ∷ 255 ∷ 255 ∷ 0 ∷ 0 ∷ 0 ∷ 0 ∷ 0 ∷ 0 ∷ 1 ∷ 0 ∷ 1
    ∷ 0 ∷ 1 ∷ 0 ∷ 0 ∷ 0 ∷ 0 ∷ 0 ∷ 0 ∷ 0 ∷ 255 ∷ 255 ∷ 0 ∷ 0 ∷ 0 ∷ 0 ∷ [])
    (5 ∷ 0 ∷ 1 ∷ 77 ∷ 1 ∷ 83 ∷ 11 ∷ 77 ∷ 95 ∷ 83 ∷ 116 ∷ 97 ∷ 116 ∷ 101 ∷ 69 ∷ 110 ∷ 117 ∷ 109 ∷ 10 ∷ 95 ∷ 95
    ∷ 115 ∷ 109 ∷ 95 ∷ 115 ∷ 116 ∷ 97 ∷ 116 ∷ 101 ∷ 15 ∷ 95 ∷ 95 ∷ 115 ∷ 109 ∷ 95 ∷ 110 ∷ 101 ∷ 120 ∷ 116 ∷ 95
    ∷ 115 ∷ 116 ∷ 97 ∷ 116 ∷ 101 ∷ 1 ∷ 0 ∷ 2 ∷ 0 ∷ 1 ∷ 0 ∷ 1 ∷ 0 ∷ 1 ∷ 0 ∷ 0 ∷ 0 ∷ 1 ∷ 0 ∷ 0 ∷ 0 ∷ 0 ∷ 2 ∷ 0 ∷ 3
    ∷ 0 ∷ 13 ∷ 2 ∷ 0 ∷ 4 ∷ 0 ∷ 13 ∷ 2 ∷ 0 ∷ 2 ∷ 0 ∷ 1 ∷ 0 ∷ 3 ∷ 0 ∷ 6 ∷ 1 ∷ 1 ∷ 0 ∷ 5 ∷ 1 ∷ 4 ∷ 0 ∷ 1 ∷ 0 ∷ 4 ∷ 0
    ∷ 1 ∷ 3 ∷ 0 ∷ 0 ∷ 0 ∷ 0 ∷ 0 ∷ 0 ∷ 0 ∷ [])
    (5 ∷ 0 ∷ 1 ∷ 77 ∷ 1 ∷ 83 ∷ 11 ∷ 77 ∷ 95 ∷ 83 ∷ 116 ∷ 97 ∷ 116 ∷ 101 ∷ 69 ∷ 110 ∷ 117 ∷ 109 ∷ 10 ∷ 95 ∷ 95
    ∷ 115 ∷ 109 ∷ 95 ∷ 115 ∷ 116 ∷ 97 ∷ 116 ∷ 101 ∷ 15 ∷ 95 ∷ 95 ∷ 115 ∷ 109 ∷ 95 ∷ 110 ∷ 101 ∷ 120 ∷ 116 ∷ 95
    ∷ 115 ∷ 116 ∷ 97 ∷ 116 ∷ 101 ∷ 1 ∷ 0 ∷ 2 ∷ 0 ∷ 1 ∷ 0 ∷ 1 ∷ 0 ∷ 1 ∷ 0 ∷ 0 ∷ 0 ∷ 1 ∷ 0 ∷ 0 ∷ 0 ∷ 0 ∷ 2 ∷ 0 ∷ 3
    ∷ 0 ∷ 13 ∷ 2 ∷ 0 ∷ 4 ∷ 0 ∷ 13 ∷ 2 ∷ 0 ∷ 2 ∷ 0 ∷ 1 ∷ 0 ∷ 3 ∷ 0 ∷ 6 ∷ 1 ∷ 1 ∷ 0 ∷ 5 ∷ 1 ∷ 4 ∷ 0 ∷ 1 ∷ 0 ∷ 4 ∷ 0
    ∷ 1 ∷ 3 ∷ 0 ∷ 0 ∷ 0 ∷ 0 ∷ 0 ∷ 0 ∷ 0 ∷ [])
    -- No states, absent owner: NoStates
    ∷ lowers (3 ∷ 0 ∷ 1 ∷ 77 ∷ 1 ∷ 83 ∷ 4 ∷ 71 ∷ 111 ∷ 110 ∷ 101 ∷ 0 ∷ 0 ∷ 0 ∷ 0 ∷ 1 ∷ 0 ∷ 0 ∷ 0 ∷ 2 ∷ 0 ∷ 0 ∷ 0 ∷ 0 ∷ 0
    ∷ 0 ∷ 0 ∷ 1 ∷ 0 ∷ 0 ∷ 0 ∷ 0 ∷ 0 ∷ 0 ∷ 0 ∷ [])
    (reports (1 ∷ 0 ∷ 1 ∷ 1 ∷ 77 ∷ []))
    (writes (3 ∷ 0 ∷ 1 ∷ 77 ∷ 1 ∷ 83 ∷ 4 ∷ 71 ∷ 111 ∷ 110 ∷ 101 ∷ 0 ∷ 0 ∷ 0 ∷ 0 ∷ 1 ∷ 0 ∷ 0 ∷ 0 ∷ 2 ∷ 0 ∷ 0 ∷ 0 ∷ 0
    ∷ 0 ∷ 0 ∷ 0 ∷ 1 ∷ 0 ∷ 0 ∷ 0 ∷ 0 ∷ 0 ∷ 0 ∷ 0 ∷ []))
    -- Two states A, initial missing: DuplicateState
    ∷ lowers (3 ∷ 0 ∷ 1 ∷ 77 ∷ 1 ∷ 65 ∷ 4 ∷ 71 ∷ 111 ∷ 110 ∷ 101 ∷ 0 ∷ 0 ∷ 0 ∷ 0 ∷ 1 ∷ 0 ∷ 0 ∷ 0 ∷ 255 ∷ 255 ∷ 0 ∷ 0 ∷ 0
    ∷ 0 ∷ 0 ∷ 0 ∷ 2 ∷ 0 ∷ 2 ∷ 0 ∷ 1 ∷ 0 ∷ 0 ∷ 0 ∷ 0 ∷ 0 ∷ 0 ∷ 0 ∷ 255 ∷ 255 ∷ 1 ∷ 0 ∷ 0 ∷ 0 ∷ 0 ∷ 0 ∷ 0 ∷ 0 ∷ 255
    ∷ 255 ∷ 0 ∷ 0 ∷ 0 ∷ 0 ∷ [])
    (reports (1 ∷ 0 ∷ 5 ∷ 1 ∷ 77 ∷ 1 ∷ 65 ∷ []))
    (writes (3 ∷ 0 ∷ 1 ∷ 77 ∷ 1 ∷ 65 ∷ 4 ∷ 71 ∷ 111 ∷ 110 ∷ 101 ∷ 0 ∷ 0 ∷ 0 ∷ 0 ∷ 1 ∷ 0 ∷ 0 ∷ 0 ∷ 255 ∷ 255 ∷ 0 ∷ 0
    ∷ 0 ∷ 0 ∷ 0 ∷ 0 ∷ 2 ∷ 0 ∷ 2 ∷ 0 ∷ 1 ∷ 0 ∷ 0 ∷ 0 ∷ 0 ∷ 0 ∷ 0 ∷ 0 ∷ 255 ∷ 255 ∷ 1 ∷ 0 ∷ 0 ∷ 0 ∷ 0 ∷ 0 ∷ 0 ∷ 0
    ∷ 255 ∷ 255 ∷ 0 ∷ 0 ∷ 0 ∷ 0 ∷ []))
    -- M's state refines M: RefineCycle
    ∷ lowers (2 ∷ 0 ∷ 1 ∷ 77 ∷ 1 ∷ 83 ∷ 0 ∷ 0 ∷ 0 ∷ 0 ∷ 1 ∷ 0 ∷ 0 ∷ 0 ∷ 255 ∷ 255 ∷ 0 ∷ 0 ∷ 0 ∷ 0 ∷ 0 ∷ 0 ∷ 1 ∷ 0 ∷ 1
    ∷ 0 ∷ 1 ∷ 0 ∷ 0 ∷ 0 ∷ 0 ∷ 0 ∷ 0 ∷ 0 ∷ 0 ∷ 0 ∷ 0 ∷ 0 ∷ 0 ∷ 0 ∷ [])
    (reports (1 ∷ 0 ∷ 7 ∷ 1 ∷ 77 ∷ 1 ∷ 77 ∷ []))
    (writes (2 ∷ 0 ∷ 1 ∷ 77 ∷ 1 ∷ 83 ∷ 0 ∷ 0 ∷ 0 ∷ 0 ∷ 1 ∷ 0 ∷ 0 ∷ 0 ∷ 255 ∷ 255 ∷ 0 ∷ 0 ∷ 0 ∷ 0 ∷ 0 ∷ 0 ∷ 1 ∷ 0 ∷ 1
    ∷ 0 ∷ 1 ∷ 0 ∷ 0 ∷ 0 ∷ 0 ∷ 0 ∷ 0 ∷ 0 ∷ 0 ∷ 0 ∷ 0 ∷ 0 ∷ 0 ∷ 0 ∷ []))
    -- A has two regions, the first with one inside: ids 1, 2, 3
    ∷ lowers (5 ∷ 0 ∷ 1 ∷ 77 ∷ 1 ∷ 65 ∷ 1 ∷ 80 ∷ 1 ∷ 81 ∷ 1 ∷ 82 ∷ 0 ∷ 0 ∷ 0 ∷ 0 ∷ 1 ∷ 0 ∷ 0 ∷ 0 ∷ 255 ∷ 255 ∷ 0 ∷ 0 ∷ 0
    ∷ 0 ∷ 0 ∷ 0 ∷ 1 ∷ 0 ∷ 1 ∷ 0 ∷ 1 ∷ 0 ∷ 0 ∷ 0 ∷ 0 ∷ 0 ∷ 2 ∷ 0 ∷ 2 ∷ 0 ∷ 0 ∷ 1 ∷ 0 ∷ 2 ∷ 0 ∷ 0 ∷ 0 ∷ 0 ∷ 0 ∷ 1 ∷ 0
    ∷ 3 ∷ 0 ∷ 0 ∷ 1 ∷ 0 ∷ 3 ∷ 0 ∷ 0 ∷ 0 ∷ 0 ∷ 0 ∷ 0 ∷ 0 ∷ 255 ∷ 255 ∷ 255 ∷ 255 ∷ 4 ∷ 0 ∷ 0 ∷ 1 ∷ 0 ∷ 4 ∷ 0 ∷ 0 ∷ 0
    ∷ 0 ∷ 0 ∷ 0 ∷ 0 ∷ 255 ∷ 255 ∷ 255 ∷ 255 ∷ 0 ∷ 0 ∷ 0 ∷ 0 ∷ [])
    (writes (20 ∷ 0 ∷ 1 ∷ 77 ∷ 1 ∷ 65 ∷ 1 ∷ 80 ∷ 1 ∷ 81 ∷ 1 ∷ 82 ∷ 11 ∷ 77 ∷ 95 ∷ 83 ∷ 116 ∷ 97 ∷ 116 ∷ 101 ∷ 69 ∷ 110
    ∷ 117 ∷ 109 ∷ 14 ∷ 77 ∷ 95 ∷ 114 ∷ 49 ∷ 95 ∷ 83 ∷ 116 ∷ 97 ∷ 116 ∷ 101 ∷ 69 ∷ 110 ∷ 117 ∷ 109 ∷ 14 ∷ 77 ∷ 95
    ∷ 114 ∷ 50 ∷ 95 ∷ 83 ∷ 116 ∷ 97 ∷ 116 ∷ 101 ∷ 69 ∷ 110 ∷ 117 ∷ 109 ∷ 14 ∷ 77 ∷ 95 ∷ 114 ∷ 51 ∷ 95 ∷ 83 ∷ 116
    ∷ 97 ∷ 116 ∷ 101 ∷ 69 ∷ 110 ∷ 117 ∷ 109 ∷ 10 ∷ 95 ∷ 95 ∷ 115 ∷ 109 ∷ 95 ∷ 115 ∷ 116 ∷ 97 ∷ 116 ∷ 101 ∷ 15 ∷ 95
    ∷ 95 ∷ 115 ∷ 109 ∷ 95 ∷ 110 ∷ 101 ∷ 120 ∷ 116 ∷ 95 ∷ 115 ∷ 116 ∷ 97 ∷ 116 ∷ 101 ∷ 13 ∷ 95 ∷ 95 ∷ 115 ∷ 109
    ∷ 95 ∷ 114 ∷ 49 ∷ 95 ∷ 115 ∷ 116 ∷ 97 ∷ 116 ∷ 101 ∷ 12 ∷ 95 ∷ 95 ∷ 115 ∷ 109 ∷ 95 ∷ 114 ∷ 49 ∷ 95 ∷ 110 ∷ 101
    ∷ 120 ∷ 116 ∷ 14 ∷ 95 ∷ 95 ∷ 115 ∷ 109 ∷ 95 ∷ 114 ∷ 49 ∷ 95 ∷ 97 ∷ 99 ∷ 116 ∷ 105 ∷ 118 ∷ 101 ∷ 13 ∷ 95 ∷ 95
    ∷ 115 ∷ 109 ∷ 95 ∷ 114 ∷ 50 ∷ 95 ∷ 115 ∷ 116 ∷ 97 ∷ 116 ∷ 101 ∷ 12 ∷ 95 ∷ 95 ∷ 115 ∷ 109 ∷ 95 ∷ 114 ∷ 50 ∷ 95
    ∷ 110 ∷ 101 ∷ 120 ∷ 116 ∷ 14 ∷ 95 ∷ 95 ∷ 115 ∷ 109 ∷ 95 ∷ 114 ∷ 50 ∷ 95 ∷ 97 ∷ 99 ∷ 116 ∷ 105 ∷ 118 ∷ 101 ∷ 13
    ∷ 95 ∷ 95 ∷ 115 ∷ 109 ∷ 95 ∷ 114 ∷ 51 ∷ 95 ∷ 115 ∷ 116 ∷ 97 ∷ 116 ∷ 101 ∷ 12 ∷ 95 ∷ 95 ∷ 115 ∷ 109 ∷ 95 ∷ 114
    ∷ 51 ∷ 95 ∷ 110 ∷ 101 ∷ 120 ∷ 116 ∷ 14 ∷ 95 ∷ 95 ∷ 115 ∷ 109 ∷ 95 ∷ 114 ∷ 51 ∷ 95 ∷ 97 ∷ 99 ∷ 116 ∷ 105 ∷ 118
    ∷ 101 ∷ 4 ∷ 0 ∷ 5 ∷ 0 ∷ 1 ∷ 0 ∷ 1 ∷ 0 ∷ 6 ∷ 0 ∷ 1 ∷ 0 ∷ 2 ∷ 0 ∷ 7 ∷ 0 ∷ 1 ∷ 0 ∷ 3 ∷ 0 ∷ 8 ∷ 0 ∷ 1 ∷ 0 ∷ 4 ∷ 0
    ∷ 1 ∷ 0 ∷ 0 ∷ 0 ∷ 1 ∷ 0 ∷ 0 ∷ 0 ∷ 0 ∷ 11 ∷ 0 ∷ 9 ∷ 0 ∷ 13 ∷ 5 ∷ 0 ∷ 10 ∷ 0 ∷ 13 ∷ 5 ∷ 0 ∷ 11 ∷ 0 ∷ 13 ∷ 6 ∷ 0
    ∷ 12 ∷ 0 ∷ 13 ∷ 6 ∷ 0 ∷ 13 ∷ 0 ∷ 0 ∷ 14 ∷ 0 ∷ 13 ∷ 7 ∷ 0 ∷ 15 ∷ 0 ∷ 13 ∷ 7 ∷ 0 ∷ 16 ∷ 0 ∷ 0 ∷ 17 ∷ 0 ∷ 13 ∷ 8
    ∷ 0 ∷ 18 ∷ 0 ∷ 13 ∷ 8 ∷ 0 ∷ 19 ∷ 0 ∷ 0 ∷ 11 ∷ 0 ∷ 1 ∷ 0 ∷ 9 ∷ 0 ∷ 6 ∷ 1 ∷ 1 ∷ 0 ∷ 5 ∷ 1 ∷ 10 ∷ 0 ∷ 1 ∷ 0 ∷ 10
    ∷ 0 ∷ 1 ∷ 9 ∷ 0 ∷ 1 ∷ 0 ∷ 13 ∷ 0 ∷ 3 ∷ 4 ∷ 1 ∷ 9 ∷ 0 ∷ 1 ∷ 1 ∷ 0 ∷ 1 ∷ 0 ∷ 11 ∷ 0 ∷ 4 ∷ 3 ∷ 0 ∷ 1 ∷ 13 ∷ 0 ∷ 6
    ∷ 0 ∷ 0 ∷ 1 ∷ 2 ∷ 0 ∷ 5 ∷ 1 ∷ 13 ∷ 0 ∷ 1 ∷ 2 ∷ 0 ∷ 6 ∷ 1 ∷ 2 ∷ 0 ∷ 5 ∷ 1 ∷ 12 ∷ 0 ∷ 1 ∷ 0 ∷ 12 ∷ 0 ∷ 4 ∷ 1
    ∷ 13 ∷ 0 ∷ 1 ∷ 11 ∷ 0 ∷ 1 ∷ 11 ∷ 0 ∷ 1 ∷ 0 ∷ 16 ∷ 0 ∷ 3 ∷ 0 ∷ 1 ∷ 13 ∷ 0 ∷ 3 ∷ 4 ∷ 1 ∷ 11 ∷ 0 ∷ 1 ∷ 2 ∷ 0 ∷ 1
    ∷ 0 ∷ 14 ∷ 0 ∷ 4 ∷ 3 ∷ 0 ∷ 1 ∷ 16 ∷ 0 ∷ 6 ∷ 0 ∷ 0 ∷ 1 ∷ 2 ∷ 0 ∷ 5 ∷ 1 ∷ 16 ∷ 0 ∷ 1 ∷ 3 ∷ 0 ∷ 6 ∷ 1 ∷ 3 ∷ 0 ∷ 5
    ∷ 1 ∷ 15 ∷ 0 ∷ 1 ∷ 0 ∷ 15 ∷ 0 ∷ 4 ∷ 1 ∷ 16 ∷ 0 ∷ 1 ∷ 14 ∷ 0 ∷ 1 ∷ 14 ∷ 0 ∷ 1 ∷ 0 ∷ 19 ∷ 0 ∷ 3 ∷ 4 ∷ 1 ∷ 9 ∷ 0
    ∷ 1 ∷ 1 ∷ 0 ∷ 1 ∷ 0 ∷ 17 ∷ 0 ∷ 4 ∷ 3 ∷ 0 ∷ 1 ∷ 19 ∷ 0 ∷ 6 ∷ 0 ∷ 0 ∷ 1 ∷ 2 ∷ 0 ∷ 5 ∷ 1 ∷ 19 ∷ 0 ∷ 1 ∷ 4 ∷ 0 ∷ 6
    ∷ 1 ∷ 4 ∷ 0 ∷ 5 ∷ 1 ∷ 18 ∷ 0 ∷ 1 ∷ 0 ∷ 18 ∷ 0 ∷ 4 ∷ 1 ∷ 19 ∷ 0 ∷ 1 ∷ 17 ∷ 0 ∷ 1 ∷ 17 ∷ 0 ∷ 0 ∷ 0 ∷ 0 ∷ 0 ∷ 0
    ∷ 0 ∷ []))
    (writes (5 ∷ 0 ∷ 1 ∷ 77 ∷ 1 ∷ 65 ∷ 1 ∷ 80 ∷ 1 ∷ 81 ∷ 1 ∷ 82 ∷ 0 ∷ 0 ∷ 0 ∷ 0 ∷ 1 ∷ 0 ∷ 0 ∷ 0 ∷ 255 ∷ 255 ∷ 0 ∷ 0
    ∷ 0 ∷ 0 ∷ 0 ∷ 0 ∷ 1 ∷ 0 ∷ 1 ∷ 0 ∷ 1 ∷ 0 ∷ 0 ∷ 0 ∷ 0 ∷ 0 ∷ 2 ∷ 0 ∷ 2 ∷ 0 ∷ 0 ∷ 1 ∷ 0 ∷ 2 ∷ 0 ∷ 0 ∷ 0 ∷ 0 ∷ 0
    ∷ 1 ∷ 0 ∷ 3 ∷ 0 ∷ 0 ∷ 1 ∷ 0 ∷ 3 ∷ 0 ∷ 0 ∷ 0 ∷ 0 ∷ 0 ∷ 0 ∷ 0 ∷ 255 ∷ 255 ∷ 255 ∷ 255 ∷ 4 ∷ 0 ∷ 0 ∷ 1 ∷ 0 ∷ 4
    ∷ 0 ∷ 0 ∷ 0 ∷ 0 ∷ 0 ∷ 0 ∷ 0 ∷ 255 ∷ 255 ∷ 255 ∷ 255 ∷ 0 ∷ 0 ∷ 0 ∷ 0 ∷ []))
    -- `last(v)`, then `last(v, 2)`: 2
    ∷ lowers (8 ∷ 0 ∷ 1 ∷ 65 ∷ 1 ∷ 78 ∷ 1 ∷ 111 ∷ 1 ∷ 118 ∷ 1 ∷ 119 ∷ 1 ∷ 99 ∷ 1 ∷ 66 ∷ 4 ∷ 108 ∷ 97 ∷ 115 ∷ 116 ∷ 0 ∷ 0
    ∷ 1 ∷ 0 ∷ 1 ∷ 0 ∷ 1 ∷ 3 ∷ 0 ∷ 3 ∷ 0 ∷ 4 ∷ 4 ∷ 0 ∷ 4 ∷ 5 ∷ 0 ∷ 0 ∷ 1 ∷ 0 ∷ 2 ∷ 0 ∷ 4 ∷ 0 ∷ 0 ∷ 0 ∷ 0 ∷ 0 ∷ 0 ∷ 1
    ∷ 0 ∷ 0 ∷ 0 ∷ 1 ∷ 0 ∷ 1 ∷ 0 ∷ 2 ∷ 0 ∷ 4 ∷ 1 ∷ 0 ∷ 6 ∷ 0 ∷ 7 ∷ 7 ∷ 0 ∷ 1 ∷ 0 ∷ 1 ∷ 3 ∷ 0 ∷ 1 ∷ 0 ∷ 1 ∷ 0 ∷ 2 ∷ 0
    ∷ 7 ∷ 7 ∷ 0 ∷ 2 ∷ 0 ∷ 1 ∷ 3 ∷ 0 ∷ 0 ∷ 1 ∷ 2 ∷ 0 ∷ 0 ∷ 0 ∷ 0 ∷ 0 ∷ 0 ∷ 0 ∷ 1 ∷ 0 ∷ 1 ∷ 0 ∷ 2 ∷ 0 ∷ 0 ∷ 1 ∷ 0 ∷ 0
    ∷ 0 ∷ 0 ∷ 0 ∷ 0 ∷ 0 ∷ 0 ∷ 0 ∷ 0 ∷ [])
    (writes (8 ∷ 0 ∷ 1 ∷ 65 ∷ 1 ∷ 78 ∷ 1 ∷ 111 ∷ 1 ∷ 118 ∷ 1 ∷ 119 ∷ 1 ∷ 99 ∷ 1 ∷ 66 ∷ 4 ∷ 108 ∷ 97 ∷ 115 ∷ 116 ∷ 0
    ∷ 0 ∷ 1 ∷ 0 ∷ 1 ∷ 0 ∷ 1 ∷ 3 ∷ 0 ∷ 3 ∷ 0 ∷ 4 ∷ 4 ∷ 0 ∷ 4 ∷ 5 ∷ 0 ∷ 0 ∷ 1 ∷ 0 ∷ 2 ∷ 0 ∷ 4 ∷ 0 ∷ 0 ∷ 0 ∷ 0 ∷ 0
    ∷ 0 ∷ 1 ∷ 0 ∷ 0 ∷ 0 ∷ 1 ∷ 0 ∷ 1 ∷ 0 ∷ 2 ∷ 0 ∷ 4 ∷ 1 ∷ 0 ∷ 6 ∷ 0 ∷ 7 ∷ 7 ∷ 0 ∷ 1 ∷ 0 ∷ 1 ∷ 3 ∷ 0 ∷ 1 ∷ 0 ∷ 1
    ∷ 0 ∷ 2 ∷ 0 ∷ 7 ∷ 7 ∷ 0 ∷ 2 ∷ 0 ∷ 1 ∷ 3 ∷ 0 ∷ 0 ∷ 1 ∷ 2 ∷ 0 ∷ 0 ∷ 0 ∷ 0 ∷ 0 ∷ 0 ∷ 0 ∷ 1 ∷ 0 ∷ 1 ∷ 0 ∷ 2 ∷ 0
    ∷ 0 ∷ 1 ∷ 0 ∷ 0 ∷ 0 ∷ 0 ∷ 0 ∷ 0 ∷ 0 ∷ 0 ∷ 0 ∷ 0 ∷ []))
    (writes (14 ∷ 0 ∷ 1 ∷ 65 ∷ 1 ∷ 78 ∷ 1 ∷ 111 ∷ 1 ∷ 118 ∷ 1 ∷ 119 ∷ 1 ∷ 99 ∷ 1 ∷ 66 ∷ 4 ∷ 108 ∷ 97 ∷ 115 ∷ 116 ∷ 14
    ∷ 95 ∷ 95 ∷ 97 ∷ 99 ∷ 116 ∷ 95 ∷ 65 ∷ 95 ∷ 108 ∷ 97 ∷ 115 ∷ 116 ∷ 95 ∷ 118 ∷ 10 ∷ 95 ∷ 95 ∷ 97 ∷ 99 ∷ 116 ∷ 95
    ∷ 65 ∷ 95 ∷ 98 ∷ 49 ∷ 25 ∷ 95 ∷ 95 ∷ 97 ∷ 99 ∷ 116 ∷ 95 ∷ 65 ∷ 95 ∷ 115 ∷ 49 ∷ 95 ∷ 95 ∷ 95 ∷ 97 ∷ 99 ∷ 116
    ∷ 95 ∷ 65 ∷ 95 ∷ 108 ∷ 97 ∷ 115 ∷ 116 ∷ 95 ∷ 118 ∷ 12 ∷ 95 ∷ 95 ∷ 97 ∷ 99 ∷ 116 ∷ 95 ∷ 65 ∷ 95 ∷ 120 ∷ 49 ∷ 95
    ∷ 111 ∷ 12 ∷ 95 ∷ 95 ∷ 97 ∷ 99 ∷ 116 ∷ 95 ∷ 65 ∷ 95 ∷ 120 ∷ 101 ∷ 95 ∷ 111 ∷ 4 ∷ 101 ∷ 108 ∷ 115 ∷ 101 ∷ 0 ∷ 0
    ∷ 1 ∷ 0 ∷ 1 ∷ 0 ∷ 1 ∷ 3 ∷ 0 ∷ 3 ∷ 0 ∷ 4 ∷ 4 ∷ 0 ∷ 4 ∷ 5 ∷ 0 ∷ 0 ∷ 1 ∷ 0 ∷ 2 ∷ 0 ∷ 4 ∷ 5 ∷ 0 ∷ 8 ∷ 0 ∷ 4 ∷ 9
    ∷ 0 ∷ 0 ∷ 10 ∷ 0 ∷ 4 ∷ 11 ∷ 0 ∷ 4 ∷ 12 ∷ 0 ∷ 4 ∷ 6 ∷ 0 ∷ 1 ∷ 0 ∷ 8 ∷ 0 ∷ 6 ∷ 0 ∷ 1 ∷ 2 ∷ 0 ∷ 0 ∷ 0 ∷ 0 ∷ 0 ∷ 0
    ∷ 0 ∷ 5 ∷ 1 ∷ 3 ∷ 0 ∷ 1 ∷ 0 ∷ 9 ∷ 0 ∷ 1 ∷ 8 ∷ 0 ∷ 1 ∷ 0 ∷ 10 ∷ 0 ∷ 14 ∷ 9 ∷ 0 ∷ 1 ∷ 1 ∷ 8 ∷ 0 ∷ 1 ∷ 0 ∷ 11 ∷ 0
    ∷ 1 ∷ 10 ∷ 0 ∷ 1 ∷ 0 ∷ 12 ∷ 0 ∷ 14 ∷ 9 ∷ 0 ∷ 0 ∷ 0 ∷ 1 ∷ 0 ∷ 0 ∷ 0 ∷ 0 ∷ 0 ∷ 0 ∷ 0 ∷ 0 ∷ 1 ∷ 0 ∷ 2 ∷ 0 ∷ 15
    ∷ 9 ∷ 0 ∷ 1 ∷ 11 ∷ 0 ∷ 1 ∷ 12 ∷ 0 ∷ 0 ∷ 0 ∷ 0 ∷ 0 ∷ 1 ∷ 0 ∷ 1 ∷ 0 ∷ 1 ∷ 0 ∷ 0 ∷ 0 ∷ 0 ∷ 6 ∷ 0 ∷ 2 ∷ 0 ∷ 6 ∷ 0
    ∷ 13 ∷ 0 ∷ []))
    -- `last(v, 1)`, then `last(v, 2)`: 1
    ∷ lowers (8 ∷ 0 ∷ 1 ∷ 65 ∷ 1 ∷ 78 ∷ 1 ∷ 111 ∷ 1 ∷ 118 ∷ 1 ∷ 119 ∷ 1 ∷ 99 ∷ 1 ∷ 66 ∷ 4 ∷ 108 ∷ 97 ∷ 115 ∷ 116 ∷ 0 ∷ 0
    ∷ 1 ∷ 0 ∷ 1 ∷ 0 ∷ 1 ∷ 3 ∷ 0 ∷ 3 ∷ 0 ∷ 4 ∷ 4 ∷ 0 ∷ 4 ∷ 5 ∷ 0 ∷ 0 ∷ 1 ∷ 0 ∷ 2 ∷ 0 ∷ 4 ∷ 0 ∷ 0 ∷ 0 ∷ 0 ∷ 0 ∷ 0 ∷ 1
    ∷ 0 ∷ 0 ∷ 0 ∷ 1 ∷ 0 ∷ 1 ∷ 0 ∷ 2 ∷ 0 ∷ 4 ∷ 1 ∷ 0 ∷ 6 ∷ 0 ∷ 7 ∷ 7 ∷ 0 ∷ 2 ∷ 0 ∷ 1 ∷ 3 ∷ 0 ∷ 0 ∷ 1 ∷ 1 ∷ 0 ∷ 0 ∷ 0
    ∷ 0 ∷ 0 ∷ 0 ∷ 0 ∷ 1 ∷ 0 ∷ 1 ∷ 0 ∷ 2 ∷ 0 ∷ 7 ∷ 7 ∷ 0 ∷ 2 ∷ 0 ∷ 1 ∷ 3 ∷ 0 ∷ 0 ∷ 1 ∷ 2 ∷ 0 ∷ 0 ∷ 0 ∷ 0 ∷ 0 ∷ 0 ∷ 0
    ∷ 1 ∷ 0 ∷ 1 ∷ 0 ∷ 2 ∷ 0 ∷ 0 ∷ 1 ∷ 0 ∷ 0 ∷ 0 ∷ 0 ∷ 0 ∷ 0 ∷ 0 ∷ 0 ∷ 0 ∷ 0 ∷ [])
    (writes (8 ∷ 0 ∷ 1 ∷ 65 ∷ 1 ∷ 78 ∷ 1 ∷ 111 ∷ 1 ∷ 118 ∷ 1 ∷ 119 ∷ 1 ∷ 99 ∷ 1 ∷ 66 ∷ 4 ∷ 108 ∷ 97 ∷ 115 ∷ 116 ∷ 0
    ∷ 0 ∷ 1 ∷ 0 ∷ 1 ∷ 0 ∷ 1 ∷ 3 ∷ 0 ∷ 3 ∷ 0 ∷ 4 ∷ 4 ∷ 0 ∷ 4 ∷ 5 ∷ 0 ∷ 0 ∷ 1 ∷ 0 ∷ 2 ∷ 0 ∷ 4 ∷ 0 ∷ 0 ∷ 0 ∷ 0 ∷ 0
    ∷ 0 ∷ 1 ∷ 0 ∷ 0 ∷ 0 ∷ 1 ∷ 0 ∷ 1 ∷ 0 ∷ 2 ∷ 0 ∷ 4 ∷ 1 ∷ 0 ∷ 6 ∷ 0 ∷ 7 ∷ 7 ∷ 0 ∷ 2 ∷ 0 ∷ 1 ∷ 3 ∷ 0 ∷ 0 ∷ 1 ∷ 1
    ∷ 0 ∷ 0 ∷ 0 ∷ 0 ∷ 0 ∷ 0 ∷ 0 ∷ 1 ∷ 0 ∷ 1 ∷ 0 ∷ 2 ∷ 0 ∷ 7 ∷ 7 ∷ 0 ∷ 2 ∷ 0 ∷ 1 ∷ 3 ∷ 0 ∷ 0 ∷ 1 ∷ 2 ∷ 0 ∷ 0 ∷ 0
    ∷ 0 ∷ 0 ∷ 0 ∷ 0 ∷ 1 ∷ 0 ∷ 1 ∷ 0 ∷ 2 ∷ 0 ∷ 0 ∷ 1 ∷ 0 ∷ 0 ∷ 0 ∷ 0 ∷ 0 ∷ 0 ∷ 0 ∷ 0 ∷ 0 ∷ 0 ∷ []))
    (writes (14 ∷ 0 ∷ 1 ∷ 65 ∷ 1 ∷ 78 ∷ 1 ∷ 111 ∷ 1 ∷ 118 ∷ 1 ∷ 119 ∷ 1 ∷ 99 ∷ 1 ∷ 66 ∷ 4 ∷ 108 ∷ 97 ∷ 115 ∷ 116 ∷ 14
    ∷ 95 ∷ 95 ∷ 97 ∷ 99 ∷ 116 ∷ 95 ∷ 65 ∷ 95 ∷ 108 ∷ 97 ∷ 115 ∷ 116 ∷ 95 ∷ 118 ∷ 10 ∷ 95 ∷ 95 ∷ 97 ∷ 99 ∷ 116 ∷ 95
    ∷ 65 ∷ 95 ∷ 98 ∷ 49 ∷ 25 ∷ 95 ∷ 95 ∷ 97 ∷ 99 ∷ 116 ∷ 95 ∷ 65 ∷ 95 ∷ 115 ∷ 49 ∷ 95 ∷ 95 ∷ 95 ∷ 97 ∷ 99 ∷ 116
    ∷ 95 ∷ 65 ∷ 95 ∷ 108 ∷ 97 ∷ 115 ∷ 116 ∷ 95 ∷ 118 ∷ 12 ∷ 95 ∷ 95 ∷ 97 ∷ 99 ∷ 116 ∷ 95 ∷ 65 ∷ 95 ∷ 120 ∷ 49 ∷ 95
    ∷ 111 ∷ 12 ∷ 95 ∷ 95 ∷ 97 ∷ 99 ∷ 116 ∷ 95 ∷ 65 ∷ 95 ∷ 120 ∷ 101 ∷ 95 ∷ 111 ∷ 4 ∷ 101 ∷ 108 ∷ 115 ∷ 101 ∷ 0 ∷ 0
    ∷ 1 ∷ 0 ∷ 1 ∷ 0 ∷ 1 ∷ 3 ∷ 0 ∷ 3 ∷ 0 ∷ 4 ∷ 4 ∷ 0 ∷ 4 ∷ 5 ∷ 0 ∷ 0 ∷ 1 ∷ 0 ∷ 2 ∷ 0 ∷ 4 ∷ 5 ∷ 0 ∷ 8 ∷ 0 ∷ 4 ∷ 9
    ∷ 0 ∷ 0 ∷ 10 ∷ 0 ∷ 4 ∷ 11 ∷ 0 ∷ 4 ∷ 12 ∷ 0 ∷ 4 ∷ 6 ∷ 0 ∷ 1 ∷ 0 ∷ 8 ∷ 0 ∷ 6 ∷ 0 ∷ 1 ∷ 1 ∷ 0 ∷ 0 ∷ 0 ∷ 0 ∷ 0 ∷ 0
    ∷ 0 ∷ 5 ∷ 1 ∷ 3 ∷ 0 ∷ 1 ∷ 0 ∷ 9 ∷ 0 ∷ 1 ∷ 8 ∷ 0 ∷ 1 ∷ 0 ∷ 10 ∷ 0 ∷ 14 ∷ 9 ∷ 0 ∷ 1 ∷ 1 ∷ 8 ∷ 0 ∷ 1 ∷ 0 ∷ 11 ∷ 0
    ∷ 1 ∷ 10 ∷ 0 ∷ 1 ∷ 0 ∷ 12 ∷ 0 ∷ 14 ∷ 9 ∷ 0 ∷ 0 ∷ 0 ∷ 1 ∷ 0 ∷ 0 ∷ 0 ∷ 0 ∷ 0 ∷ 0 ∷ 0 ∷ 0 ∷ 1 ∷ 0 ∷ 2 ∷ 0 ∷ 15
    ∷ 9 ∷ 0 ∷ 1 ∷ 11 ∷ 0 ∷ 1 ∷ 12 ∷ 0 ∷ 0 ∷ 0 ∷ 0 ∷ 0 ∷ 1 ∷ 0 ∷ 1 ∷ 0 ∷ 1 ∷ 0 ∷ 0 ∷ 0 ∷ 0 ∷ 6 ∷ 0 ∷ 2 ∷ 0 ∷ 6 ∷ 0
    ∷ 13 ∷ 0 ∷ []))
    -- `last(v, last(w))`: no holder for w
    ∷ lowers (8 ∷ 0 ∷ 1 ∷ 65 ∷ 1 ∷ 78 ∷ 1 ∷ 111 ∷ 1 ∷ 118 ∷ 1 ∷ 119 ∷ 1 ∷ 99 ∷ 1 ∷ 66 ∷ 4 ∷ 108 ∷ 97 ∷ 115 ∷ 116 ∷ 0 ∷ 0
    ∷ 1 ∷ 0 ∷ 1 ∷ 0 ∷ 1 ∷ 3 ∷ 0 ∷ 3 ∷ 0 ∷ 4 ∷ 4 ∷ 0 ∷ 4 ∷ 5 ∷ 0 ∷ 0 ∷ 1 ∷ 0 ∷ 2 ∷ 0 ∷ 4 ∷ 0 ∷ 0 ∷ 0 ∷ 0 ∷ 0 ∷ 0 ∷ 1
    ∷ 0 ∷ 0 ∷ 0 ∷ 1 ∷ 0 ∷ 1 ∷ 0 ∷ 2 ∷ 0 ∷ 4 ∷ 1 ∷ 0 ∷ 6 ∷ 0 ∷ 1 ∷ 5 ∷ 0 ∷ 1 ∷ 0 ∷ 1 ∷ 0 ∷ 2 ∷ 0 ∷ 0 ∷ 1 ∷ 0 ∷ 0 ∷ 0
    ∷ 0 ∷ 0 ∷ 0 ∷ 0 ∷ 0 ∷ 1 ∷ 0 ∷ 1 ∷ 0 ∷ 2 ∷ 0 ∷ 7 ∷ 7 ∷ 0 ∷ 2 ∷ 0 ∷ 1 ∷ 3 ∷ 0 ∷ 7 ∷ 7 ∷ 0 ∷ 1 ∷ 0 ∷ 1 ∷ 4 ∷ 0 ∷ 0
    ∷ 0 ∷ [])
    (writes (8 ∷ 0 ∷ 1 ∷ 65 ∷ 1 ∷ 78 ∷ 1 ∷ 111 ∷ 1 ∷ 118 ∷ 1 ∷ 119 ∷ 1 ∷ 99 ∷ 1 ∷ 66 ∷ 4 ∷ 108 ∷ 97 ∷ 115 ∷ 116 ∷ 0
    ∷ 0 ∷ 1 ∷ 0 ∷ 1 ∷ 0 ∷ 1 ∷ 3 ∷ 0 ∷ 3 ∷ 0 ∷ 4 ∷ 4 ∷ 0 ∷ 4 ∷ 5 ∷ 0 ∷ 0 ∷ 1 ∷ 0 ∷ 2 ∷ 0 ∷ 4 ∷ 0 ∷ 0 ∷ 0 ∷ 0 ∷ 0
    ∷ 0 ∷ 1 ∷ 0 ∷ 0 ∷ 0 ∷ 1 ∷ 0 ∷ 1 ∷ 0 ∷ 2 ∷ 0 ∷ 4 ∷ 1 ∷ 0 ∷ 6 ∷ 0 ∷ 1 ∷ 5 ∷ 0 ∷ 1 ∷ 0 ∷ 1 ∷ 0 ∷ 2 ∷ 0 ∷ 0 ∷ 1
    ∷ 0 ∷ 0 ∷ 0 ∷ 0 ∷ 0 ∷ 0 ∷ 0 ∷ 0 ∷ 1 ∷ 0 ∷ 1 ∷ 0 ∷ 2 ∷ 0 ∷ 7 ∷ 7 ∷ 0 ∷ 2 ∷ 0 ∷ 1 ∷ 3 ∷ 0 ∷ 7 ∷ 7 ∷ 0 ∷ 1 ∷ 0
    ∷ 1 ∷ 4 ∷ 0 ∷ 0 ∷ 0 ∷ []))
    (writes (14 ∷ 0 ∷ 1 ∷ 65 ∷ 1 ∷ 78 ∷ 1 ∷ 111 ∷ 1 ∷ 118 ∷ 1 ∷ 119 ∷ 1 ∷ 99 ∷ 1 ∷ 66 ∷ 4 ∷ 108 ∷ 97 ∷ 115 ∷ 116 ∷ 14
    ∷ 95 ∷ 95 ∷ 97 ∷ 99 ∷ 116 ∷ 95 ∷ 65 ∷ 95 ∷ 108 ∷ 97 ∷ 115 ∷ 116 ∷ 95 ∷ 118 ∷ 10 ∷ 95 ∷ 95 ∷ 97 ∷ 99 ∷ 116 ∷ 95
    ∷ 65 ∷ 95 ∷ 98 ∷ 49 ∷ 12 ∷ 95 ∷ 95 ∷ 97 ∷ 99 ∷ 116 ∷ 95 ∷ 65 ∷ 95 ∷ 120 ∷ 49 ∷ 95 ∷ 111 ∷ 25 ∷ 95 ∷ 95 ∷ 97
    ∷ 99 ∷ 116 ∷ 95 ∷ 65 ∷ 95 ∷ 115 ∷ 101 ∷ 95 ∷ 95 ∷ 95 ∷ 97 ∷ 99 ∷ 116 ∷ 95 ∷ 65 ∷ 95 ∷ 108 ∷ 97 ∷ 115 ∷ 116
    ∷ 95 ∷ 118 ∷ 12 ∷ 95 ∷ 95 ∷ 97 ∷ 99 ∷ 116 ∷ 95 ∷ 65 ∷ 95 ∷ 120 ∷ 101 ∷ 95 ∷ 111 ∷ 4 ∷ 101 ∷ 108 ∷ 115 ∷ 101
    ∷ 0 ∷ 0 ∷ 1 ∷ 0 ∷ 1 ∷ 0 ∷ 1 ∷ 3 ∷ 0 ∷ 3 ∷ 0 ∷ 4 ∷ 4 ∷ 0 ∷ 4 ∷ 5 ∷ 0 ∷ 0 ∷ 1 ∷ 0 ∷ 2 ∷ 0 ∷ 4 ∷ 5 ∷ 0 ∷ 8 ∷ 0
    ∷ 4 ∷ 9 ∷ 0 ∷ 0 ∷ 10 ∷ 0 ∷ 4 ∷ 11 ∷ 0 ∷ 4 ∷ 12 ∷ 0 ∷ 4 ∷ 6 ∷ 0 ∷ 1 ∷ 0 ∷ 8 ∷ 0 ∷ 6 ∷ 7 ∷ 7 ∷ 0 ∷ 1 ∷ 0 ∷ 1 ∷ 4
    ∷ 0 ∷ 5 ∷ 1 ∷ 3 ∷ 0 ∷ 1 ∷ 0 ∷ 9 ∷ 0 ∷ 1 ∷ 5 ∷ 0 ∷ 1 ∷ 0 ∷ 10 ∷ 0 ∷ 14 ∷ 9 ∷ 0 ∷ 1 ∷ 0 ∷ 1 ∷ 0 ∷ 0 ∷ 0 ∷ 0 ∷ 0
    ∷ 0 ∷ 0 ∷ 0 ∷ 1 ∷ 0 ∷ 11 ∷ 0 ∷ 14 ∷ 9 ∷ 0 ∷ 0 ∷ 1 ∷ 8 ∷ 0 ∷ 1 ∷ 0 ∷ 12 ∷ 0 ∷ 1 ∷ 11 ∷ 0 ∷ 1 ∷ 0 ∷ 2 ∷ 0 ∷ 15
    ∷ 9 ∷ 0 ∷ 1 ∷ 10 ∷ 0 ∷ 1 ∷ 12 ∷ 0 ∷ 0 ∷ 0 ∷ 0 ∷ 0 ∷ 1 ∷ 0 ∷ 1 ∷ 0 ∷ 1 ∷ 0 ∷ 0 ∷ 0 ∷ 0 ∷ 6 ∷ 0 ∷ 2 ∷ 0 ∷ 6 ∷ 0
    ∷ 13 ∷ 0 ∷ []))
    -- Both conditions true: the equations
    ∷ lowers both_conditions
    (writes (9 ∷ 0 ∷ 1 ∷ 65 ∷ 1 ∷ 78 ∷ 1 ∷ 111 ∷ 1 ∷ 118 ∷ 1 ∷ 119 ∷ 1 ∷ 99 ∷ 1 ∷ 66 ∷ 1 ∷ 100 ∷ 1 ∷ 68 ∷ 0 ∷ 0 ∷ 1
    ∷ 0 ∷ 1 ∷ 0 ∷ 1 ∷ 4 ∷ 0 ∷ 3 ∷ 0 ∷ 4 ∷ 4 ∷ 0 ∷ 4 ∷ 5 ∷ 0 ∷ 0 ∷ 7 ∷ 0 ∷ 0 ∷ 1 ∷ 0 ∷ 2 ∷ 0 ∷ 4 ∷ 0 ∷ 0 ∷ 0 ∷ 0
    ∷ 0 ∷ 0 ∷ 1 ∷ 0 ∷ 0 ∷ 0 ∷ 1 ∷ 0 ∷ 1 ∷ 0 ∷ 2 ∷ 0 ∷ 4 ∷ 2 ∷ 0 ∷ 6 ∷ 0 ∷ 1 ∷ 5 ∷ 0 ∷ 1 ∷ 0 ∷ 1 ∷ 0 ∷ 2 ∷ 0 ∷ 0
    ∷ 1 ∷ 1 ∷ 0 ∷ 0 ∷ 0 ∷ 0 ∷ 0 ∷ 0 ∷ 0 ∷ 8 ∷ 0 ∷ 1 ∷ 7 ∷ 0 ∷ 1 ∷ 0 ∷ 1 ∷ 0 ∷ 2 ∷ 0 ∷ 0 ∷ 1 ∷ 2 ∷ 0 ∷ 0 ∷ 0 ∷ 0
    ∷ 0 ∷ 0 ∷ 0 ∷ 1 ∷ 0 ∷ 1 ∷ 0 ∷ 2 ∷ 0 ∷ 0 ∷ 1 ∷ 3 ∷ 0 ∷ 0 ∷ 0 ∷ 0 ∷ 0 ∷ 0 ∷ 0 ∷ 0 ∷ 0 ∷ []))
    (writes (17 ∷ 0 ∷ 1 ∷ 65 ∷ 1 ∷ 78 ∷ 1 ∷ 111 ∷ 1 ∷ 118 ∷ 1 ∷ 119 ∷ 1 ∷ 99 ∷ 1 ∷ 66 ∷ 1 ∷ 100 ∷ 1 ∷ 68 ∷ 10 ∷ 95
    ∷ 95 ∷ 97 ∷ 99 ∷ 116 ∷ 95 ∷ 65 ∷ 95 ∷ 98 ∷ 49 ∷ 10 ∷ 95 ∷ 95 ∷ 97 ∷ 99 ∷ 116 ∷ 95 ∷ 65 ∷ 95 ∷ 110 ∷ 49 ∷ 10
    ∷ 95 ∷ 95 ∷ 97 ∷ 99 ∷ 116 ∷ 95 ∷ 65 ∷ 95 ∷ 98 ∷ 50 ∷ 10 ∷ 95 ∷ 95 ∷ 97 ∷ 99 ∷ 116 ∷ 95 ∷ 65 ∷ 95 ∷ 103 ∷ 50
    ∷ 12 ∷ 95 ∷ 95 ∷ 97 ∷ 99 ∷ 116 ∷ 95 ∷ 65 ∷ 95 ∷ 120 ∷ 49 ∷ 95 ∷ 111 ∷ 12 ∷ 95 ∷ 95 ∷ 97 ∷ 99 ∷ 116 ∷ 95 ∷ 65
    ∷ 95 ∷ 120 ∷ 50 ∷ 95 ∷ 111 ∷ 12 ∷ 95 ∷ 95 ∷ 97 ∷ 99 ∷ 116 ∷ 95 ∷ 65 ∷ 95 ∷ 120 ∷ 101 ∷ 95 ∷ 111 ∷ 4 ∷ 101
    ∷ 108 ∷ 115 ∷ 101 ∷ 0 ∷ 0 ∷ 1 ∷ 0 ∷ 1 ∷ 0 ∷ 1 ∷ 4 ∷ 0 ∷ 3 ∷ 0 ∷ 4 ∷ 4 ∷ 0 ∷ 4 ∷ 5 ∷ 0 ∷ 0 ∷ 7 ∷ 0 ∷ 0 ∷ 1 ∷ 0
    ∷ 2 ∷ 0 ∷ 4 ∷ 7 ∷ 0 ∷ 9 ∷ 0 ∷ 0 ∷ 10 ∷ 0 ∷ 0 ∷ 11 ∷ 0 ∷ 0 ∷ 12 ∷ 0 ∷ 0 ∷ 13 ∷ 0 ∷ 4 ∷ 14 ∷ 0 ∷ 4 ∷ 15 ∷ 0 ∷ 4
    ∷ 8 ∷ 0 ∷ 1 ∷ 0 ∷ 9 ∷ 0 ∷ 1 ∷ 5 ∷ 0 ∷ 1 ∷ 0 ∷ 10 ∷ 0 ∷ 2 ∷ 0 ∷ 1 ∷ 5 ∷ 0 ∷ 1 ∷ 0 ∷ 11 ∷ 0 ∷ 3 ∷ 0 ∷ 1 ∷ 10 ∷ 0
    ∷ 1 ∷ 7 ∷ 0 ∷ 1 ∷ 0 ∷ 12 ∷ 0 ∷ 14 ∷ 9 ∷ 0 ∷ 0 ∷ 1 ∷ 11 ∷ 0 ∷ 1 ∷ 0 ∷ 13 ∷ 0 ∷ 14 ∷ 9 ∷ 0 ∷ 1 ∷ 0 ∷ 1 ∷ 1 ∷ 0
    ∷ 0 ∷ 0 ∷ 0 ∷ 0 ∷ 0 ∷ 0 ∷ 1 ∷ 0 ∷ 14 ∷ 0 ∷ 14 ∷ 12 ∷ 0 ∷ 1 ∷ 14 ∷ 9 ∷ 0 ∷ 0 ∷ 0 ∷ 1 ∷ 2 ∷ 0 ∷ 0 ∷ 0 ∷ 0 ∷ 0
    ∷ 0 ∷ 0 ∷ 1 ∷ 0 ∷ 15 ∷ 0 ∷ 14 ∷ 12 ∷ 0 ∷ 0 ∷ 14 ∷ 9 ∷ 0 ∷ 0 ∷ 0 ∷ 1 ∷ 3 ∷ 0 ∷ 0 ∷ 0 ∷ 0 ∷ 0 ∷ 0 ∷ 0 ∷ 1 ∷ 0
    ∷ 2 ∷ 0 ∷ 15 ∷ 9 ∷ 0 ∷ 1 ∷ 13 ∷ 0 ∷ 15 ∷ 12 ∷ 0 ∷ 1 ∷ 14 ∷ 0 ∷ 1 ∷ 15 ∷ 0 ∷ 0 ∷ 0 ∷ 0 ∷ 0 ∷ 1 ∷ 0 ∷ 1 ∷ 0 ∷ 1
    ∷ 0 ∷ 0 ∷ 0 ∷ 0 ∷ 8 ∷ 0 ∷ 3 ∷ 0 ∷ 6 ∷ 0 ∷ 8 ∷ 0 ∷ 16 ∷ 0 ∷ []))
    -- An equation with two left names covers neither: M is asked for the first, N for the second
    ∷ lowers (5 ∷ 0 ∷ 1 ∷ 77 ∷ 1 ∷ 83 ∷ 1 ∷ 111 ∷ 1 ∷ 113 ∷ 1 ∷ 78 ∷ 0 ∷ 0 ∷ 0 ∷ 0 ∷ 2 ∷ 0 ∷ 0 ∷ 0 ∷ 255 ∷ 255 ∷ 0 ∷ 0 ∷ 2 ∷ 0
    ∷ 2 ∷ 0 ∷ 4 ∷ 3 ∷ 0 ∷ 4 ∷ 0 ∷ 0 ∷ 1 ∷ 0 ∷ 1 ∷ 0 ∷ 1 ∷ 0 ∷ 1 ∷ 0 ∷ 2 ∷ 0 ∷ 2 ∷ 0 ∷ 3 ∷ 0 ∷ 0 ∷ 1 ∷ 1 ∷ 0 ∷ 0 ∷ 0
    ∷ 0 ∷ 0 ∷ 0 ∷ 0 ∷ 0 ∷ 0 ∷ 0 ∷ 0 ∷ 255 ∷ 255 ∷ 4 ∷ 0 ∷ 255 ∷ 255 ∷ 0 ∷ 0 ∷ 2 ∷ 0 ∷ 3 ∷ 0 ∷ 4 ∷ 2 ∷ 0 ∷ 4 ∷ 0 ∷ 0
    ∷ 1 ∷ 0 ∷ 1 ∷ 0 ∷ 1 ∷ 0 ∷ 1 ∷ 0 ∷ 2 ∷ 0 ∷ 2 ∷ 0 ∷ 3 ∷ 0 ∷ 0 ∷ 1 ∷ 1 ∷ 0 ∷ 0 ∷ 0 ∷ 0 ∷ 0 ∷ 0 ∷ 0 ∷ 0 ∷ 0 ∷ 0 ∷ 0
    ∷ 255 ∷ 255 ∷ 0 ∷ 0 ∷ 0 ∷ 0 ∷ [])
    (reports (2 ∷ 0 ∷ 4 ∷ 1 ∷ 77 ∷ 1 ∷ 111 ∷ 1 ∷ 83 ∷ 4 ∷ 1 ∷ 78 ∷ 1 ∷ 113 ∷ 1 ∷ 83 ∷ []))
    (writes (5 ∷ 0 ∷ 1 ∷ 77 ∷ 1 ∷ 83 ∷ 1 ∷ 111 ∷ 1 ∷ 113 ∷ 1 ∷ 78 ∷ 0 ∷ 0 ∷ 0 ∷ 0 ∷ 2 ∷ 0 ∷ 0 ∷ 0 ∷ 255 ∷ 255 ∷ 0 ∷ 0 ∷ 2 ∷ 0
    ∷ 2 ∷ 0 ∷ 4 ∷ 3 ∷ 0 ∷ 4 ∷ 0 ∷ 0 ∷ 1 ∷ 0 ∷ 1 ∷ 0 ∷ 1 ∷ 0 ∷ 1 ∷ 0 ∷ 2 ∷ 0 ∷ 2 ∷ 0 ∷ 3 ∷ 0 ∷ 0 ∷ 1 ∷ 1 ∷ 0 ∷ 0 ∷ 0
    ∷ 0 ∷ 0 ∷ 0 ∷ 0 ∷ 0 ∷ 0 ∷ 0 ∷ 0 ∷ 255 ∷ 255 ∷ 4 ∷ 0 ∷ 255 ∷ 255 ∷ 0 ∷ 0 ∷ 2 ∷ 0 ∷ 3 ∷ 0 ∷ 4 ∷ 2 ∷ 0 ∷ 4 ∷ 0 ∷ 0
    ∷ 1 ∷ 0 ∷ 1 ∷ 0 ∷ 1 ∷ 0 ∷ 1 ∷ 0 ∷ 2 ∷ 0 ∷ 2 ∷ 0 ∷ 3 ∷ 0 ∷ 0 ∷ 1 ∷ 1 ∷ 0 ∷ 0 ∷ 0 ∷ 0 ∷ 0 ∷ 0 ∷ 0 ∷ 0 ∷ 0 ∷ 0 ∷ 0
    ∷ 255 ∷ 255 ∷ 0 ∷ 0 ∷ 0 ∷ 0 ∷ []))
    -- Both conditions true, in cycle 0 of a run of that pack: the first branch, and its value
    ∷ gives both_conditions (branch 0 ∷ branch 0 ∷ branch 1 ∷ else_scope ∷ []) (numbers (some 1 ∷ some 1 ∷ some 2 ∷ some 3 ∷ []))
    -- Nested P, Q, initial P, P to Q always true, active in cycles 0, 1 and 3: P, Q, Q, P; with history P, Q, Q, Q
    ∷ finds false (P ∷ Q ∷ Q ∷ P ∷ [])
    ∷ finds true (P ∷ Q ∷ Q ∷ Q ∷ [])
    ∷ []

-- what the plain chart finds, fed the guards of the run
unfoldable pub inner : Bool → ℕ → Name
unfolding finding name_at
inner h t = name_at (finding (fed (run P)) (as_machine (nested h) (chart.nested h)) t) 1

-- the scope of a cycle, and the output there, in the run of two conditions
unfoldable pub scope : ℕ → Scope
scope t = scope_in (fed first.run) first.act t

unfoldable pub output : ℕ → Option (Value ℕ)
output t = (first.run).at first.o t

unfoldable pub given : List Chart → List Come
given [] = []
given (lowers s m a
    ∷ cs) = lowered (machines_given s max_bytes) (acts.given (record { pack = s; room = max_bytes; outcome = a } ∷ []))
    ∷ given cs
given (lowers_both s b c ∷ cs) =
    lowered (machines_given s max_bytes) (acts.given (record { pack = pack_in (machines_given s max_bytes); room = max_bytes; outcome = writes c } ∷ []))
    ∷ given cs
given (finds h ss ∷ cs) = found (inner h 0 ∷ inner h 1 ∷ inner h 2 ∷ inner h 3 ∷ []) ∷ given cs
given (gives s ss vs ∷ cs) = gave (packed first.held) (satisfying first.run 4 (act_block first.held)) (scope 0 ∷ scope 1 ∷ scope 2 ∷ scope 3 ∷ []) (output 0 ∷ output 1 ∷ output 2 ∷ output 3 ∷ []) ∷ given cs

unfoldable pub stated : List Chart → List Come
stated [] = []
stated (lowers s m a ∷ cs) = lowered m (a ∷ []) ∷ stated cs
stated (lowers_both s b c ∷ cs) = lowered (writes b) (writes c ∷ []) ∷ stated cs
stated (finds h ss ∷ cs) = found ss ∷ stated cs
stated (gives s ss vs ∷ cs) = gave s true ss vs ∷ stated cs

pub charts-hold : given charts ≡ stated charts
unfolding given stated charts inner scope output finding packed pack_in satisfying act_block fed truth nested chart.nested run table table_run open_run adding lit_value look cell_at truths in_states numbers sometimes is_present if_value eval name_at as_machine state_var next_var active_var sm_prefix decimal digits machines_given choice scope_in conditions_of rewrite_last acts.given first.act first.owner first.held first.run both_conditions act_prefix clock_var flag_var made_name none_var tag value_var eq_name member
charts-hold = refl
