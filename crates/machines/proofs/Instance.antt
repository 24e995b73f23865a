-- The theorems on a pack of two machines: the state a of M is refined by N, whose state b gives o.
use Prim.Native.Nat.{ℕ, ◌≤◌}
use native.Mathlib.Omega.{arith}
use mathlib.Core.List.{List, [], ◌∷◌}
use mathlib.Core.Bool.{true, false}
use mathlib.Core.Option.{none, some}
use mathlib.Core.Path.{◌≡◌, refl, subst}
use lib.ListN.{length, get_or}
use Rattle.wire.specs.Answer.{below, bind, byte, counted, guard, index, many, map_a, u16, value}
use Rattle.wire.specs.Code.{next, onward, read_of, skip, skips}
use Rattle.wire.specs.Preorder.{trees}
use Rattle.pack_rules.specs.Names.{Name, eq_name, member}
use Rattle.pack_rules.specs.Syntax.{MachineDef, def_cons, def_nil, e_binary, e_const, l_bool, l_char, o_and, reg_nil, t_bool}
use Rattle.machine_rules.specs.Resolved.{r_cons, r_nil, s_cons, s_nil, ResolvedStates}
use Rattle.pack_rules.specs.Forms.{bin_ops, expr_arity, expr_at, expr_fields, expr_head, expr_of, expr_over, expr_rows, exprs_of, first_type, flag_of, literal, literal_of, name_at, nth, plain_types, type_arity, type_at, type_fields, type_head, type_of, type_over}
use Rattle.pack_rules.specs.Read.{char, drawn_of, equation_in, equations_in, expr_in, machine_in, name, name_byte, name_in, name_section, names_after, names_in, optional, optional_in, port_in, ports_in, region_at, regions_of, size, state_at, state_with, transition_in, type_in}
use Rattle.pack_rules.specs.Report.{as_refusal, first_of}
use Rattle.pack.specs.Verdict.{offset_of}
use Rattle.pack.proofs.WrittenBack.{all_small, small_bytes}
use Rattle.machines.specs.declared.resolve.Resolved.TheVariants as wk
use Rattle.machine_rules.specs.Resolve.{append_region, as_machine, as_target, count_state, machine_of, open_level, prefix_r, prefix_s, prefix_transitions, refine_at, refine_with, resolve_r, resolve_s, resolved_states, short_name, short_r, short_s, short_targets, walk_on, went, with_refine, with_target}
use Rattle.machine_rules.specs.Lower.{all_states_cover, is_only, is_some, names_of, own_value, some_region_covers}
use Rattle.machine_rules.specs.Checks.{bad_initial, bad_target, check_no_states, collect_region_names, collect_state_names, refusal_of, repeated, require_cover_regions, require_cover_states, uncovered, unless_covered, unless_other, validate_regions, validate_states}
use Rattle.machine_rules.specs.Machines.{accept, checked, judge, resolved}
use Rattle.std.specs.Result.{result_unwrap_or}
use Rattle.machines.specs.VerdictAt.{board_at, judge_at}
use Rattle.machines.specs.Verdicts.{AcceptedAs}
use Rattle.machines.specs.VerdictMeaning.{JudgedAs}
use Rattle.machines.specs.EmitMachineAt.{Long}
use Rattle.machines.specs.LayoutAt.{layout_machine}
use Rattle.machines.specs.ResolvedIn.{StandsS, end_of}
use Rattle.machines.specs.CheckedReads.{byte_in, machine_from, number_in, region_in, sure_of, turns, with}
use Rattle.machines.specs.Tables.{initial_in, len_of, machines_placed, names_placed, next_name, placed_from, states_end}
use Rattle.machines.specs.RefineStack.{on_of, pushed_of, start_of}
use Rattle.machines.specs.ResolveAt.{enter_w, go_on, head_t, len_at, machine_w, qualify_of, refine_w, region_w, rounds, state_w, target_t, walk}
use Rattle.machines.proofs.Reading.{MachineRead}
use Rattle.machines.proofs.NamesPlaced.{names-placed, section-read}
use Rattle.machines.proofs.MachinesPlaced.{machines-placed}
use Rattle.machines.proofs.CallScratch.{zeros as none-at}
use Rattle.machines.proofs.Resolved.{Ready, walked-stands}
use Rattle.machines.proofs.MachineLaidOut.{LaidMachine}
use Rattle.machines.proofs.ResolvedLaidOut.{walked-laid, walked-tree}
use Rattle.machines.proofs.MachineJudged.{accepted-count, read-judged}

abbrev ns : List Name
ns = (77 ∷ []) ∷ (111 ∷ []) ∷ (97 ∷ []) ∷ (78 ∷ []) ∷ (98 ∷ []) ∷ []

abbrev s : List ℕ
s = 5 ∷ 0 ∷ 1 ∷ 77 ∷ 1 ∷ 111 ∷ 1 ∷ 97 ∷ 1 ∷ 78 ∷ 1 ∷ 98 ∷ 0 ∷ 0 ∷ 0 ∷ 0 ∷ 2 ∷ 0 ∷ 0 ∷ 0 ∷ 255 ∷ 255 ∷ 0 ∷ 0 ∷ 1 ∷ 0 ∷ 1 ∷ 0 ∷ 0 ∷ 0 ∷ 0 ∷ 2 ∷ 0 ∷ 1 ∷ 0 ∷ 2 ∷ 0 ∷ 0 ∷ 0 ∷ 0 ∷ 0 ∷ 0 ∷ 0 ∷ 3 ∷ 0 ∷ 3 ∷ 0 ∷ 255 ∷ 255 ∷ 0 ∷ 0 ∷ 0 ∷ 0 ∷ 0 ∷ 0 ∷ 4 ∷ 0 ∷ 1 ∷ 0 ∷ 4 ∷ 0 ∷ 1 ∷ 0 ∷ 1 ∷ 0 ∷ 1 ∷ 0 ∷ 3 ∷ 0 ∷ 0 ∷ 0 ∷ 1 ∷ 0 ∷ 3 ∷ 65 ∷ 0 ∷ 0 ∷ 0 ∷ 0 ∷ 255 ∷ 255 ∷ 0 ∷ 0 ∷ 0 ∷ 0 ∷ []

abbrev M : MachineDef
M = record { name = 77 ∷ []; owner = none; inputs = []; outputs = record { name = 111 ∷ []; ty = t_bool } ∷ []; locals = []; initial = 97 ∷ []; states = def_cons (97 ∷ []) [] [] reg_nil (some (78 ∷ [])) def_nil }

abbrev N : MachineDef
N = record { name = 78 ∷ []; owner = none; inputs = []; outputs = []; locals = []; initial = 98 ∷ []; states = def_cons (98 ∷ []) (record { lhs = (111 ∷ []) ∷ []; rhs = e_binary o_and (e_const (l_bool true)) (e_const (l_char 65)) } ∷ []) [] reg_nil none def_nil }

abbrev zeros : List ℕ
zeros = 0 ∷ 0 ∷ 0 ∷ 0 ∷ 0 ∷ []

names-here : name_section s 0 ≡ value ns 12
unfolding name_section names_after name size char name_byte guard bind many byte u16 member eq_name
names-here = refl

machines-here : counted (machine_in ns s) s 16 ≡ value (M ∷ N ∷ []) 81
unfolding machine_in counted many name_in optional_in optional ports_in port_in type_in first_type type_of type_over plain_types type_at type_head type_fields type_arity state_at state_with region_at drawn_of regions_of equations_in equation_in names_in expr_in expr_at expr_head expr_fields expr_rows expr_arity expr_of exprs_of expr_over bin_ops nth literal literal_of flag_of transition_in name_at trees index below guard bind map_a byte u16
machines-here = refl

tables : Ready s ns (M ∷ N ∷ []) (names_placed s 5 2 0 zeros) (machines_placed ns s 16 zeros)
tables =
    let a = section-read s ns 12 names-here in
    record { names = a; spot = names-placed s (omega arith) ns zeros a (omega arith); places = machines-placed ns s 16 (M ∷ N ∷ []) 81 zeros (omega arith) a (omega arith) (none-at 5) machines-here }

-- the walk on these bytes, computed
walks : machine_w ns s (names_placed s 5 2 0 zeros) (machines_placed ns s 16 zeros) 0 31 ≡ wk.Went 45 2 3
unfolding machine_w walk state_w refine_w region_w rounds go_on qualify_of enter_w len_at len_of head_t target_t turns on_of pushed_of start_of machine_from region_in number_in byte_in with sure_of read_of end_of names_placed next_name machines_placed placed_from initial_in states_end offset_of onward next skips skip machine_in counted many name_in optional_in optional ports_in port_in type_in first_type type_of type_over plain_types type_at type_head type_fields type_arity state_at state_with region_at drawn_of regions_of equations_in equation_in names_in expr_in expr_at expr_head expr_fields expr_rows expr_arity expr_of exprs_of expr_over bin_ops nth literal literal_of flag_of transition_in name_at trees index below guard bind map_a byte u16
walks = refl

unfoldable read-M : MachineRead ns s 18 M 45
unfolding machine_in counted many name_in optional_in optional ports_in port_in type_in first_type type_of type_over plain_types type_at type_head type_fields type_arity state_at state_with region_at drawn_of regions_of equations_in equation_in names_in expr_in expr_at expr_head expr_fields expr_rows expr_arity expr_of exprs_of expr_over bin_ops nth literal literal_of flag_of transition_in name_at trees index below guard bind map_a byte u16
read-M =
    record {
      to-owner = 20;
      to-inputs = 22;
      to-outputs = 24;
      to-locals = 29;
      to-initial = 31;
      k = 1;
      b = 35;
      xs = record { name = 97 ∷ []; equations = []; transitions = []; regions = reg_nil; refines = some (78 ∷ []) } ∷ [];
      name = refl;
      owner = refl;
      inputs = refl;
      outputs = refl;
      locals = refl;
      head = record { to-states = 33; initial = refl; states = refl };
      inside = refl;
      same = refl;
    }

-- M resolves to two states, and they stand there
instance : (t : ResolvedStates) × (resolved_states (M ∷ N ∷ []) M ≡ went t 2) × StandsS ns s (λ j. get_or (machines_placed ns s 16 zeros) j 0) [] 7 1 35 t 45
unfolding read-M
instance = walked-stands s ns (M ∷ N ∷ []) (names_placed s 5 2 0 zeros) (machines_placed ns s 16 zeros) tables 18 M 45 read-M 0 (omega arith) refl 45 2 3 walks

-- every byte is one
bytes-here : all_small s ≡ true
unfolding all_small
bytes-here = refl

-- and M's two states are laid out
laid-instance : (t reg qualified : List ℕ) → 7698 ≤ length t → 514 ≤ length reg → 131072 ≤ length qualified → length t ≤ 4294967296 → length reg ≤ 4294967296 → length qualified ≤ 4294967296
    → (ss : ResolvedStates) × (resolved_states (M ∷ N ∷ []) M ≡ went ss 2) × LaidMachine ns s (layout_machine ns s (names_placed s 5 2 0 zeros) (machines_placed ns s 16 zeros) 31 t reg qualified) (97 ∷ []) ss
unfolding name_at read-M
laid-instance t reg qualified lt lr ll st sr sl =
    let r = walked-tree s ns (M ∷ N ∷ []) (names_placed s 5 2 0 zeros) (machines_placed ns s 16 zeros) tables (small_bytes s bytes-here) 18 M 45 read-M 0 (omega arith) refl 45 2 3 walks in
    (r.states, r.resolves, walked-laid s ns (M ∷ N ∷ []) (names_placed s 5 2 0 zeros) (machines_placed ns s 16 zeros) tables (small_bytes s bytes-here) 18 M 45 read-M 0 (omega arith) refl 45 2 3 walks t reg qualified lt lr ll st sr sl)

-- M with its states resolved: the definition accepts it
abbrev tree : ResolvedStates
tree =
    s_cons (97 ∷ []) [] []
    (r_cons (97 ∷ 95 ∷ 98 ∷ []) false (s_cons (97 ∷ 95 ∷ 98 ∷ []) (record { lhs = (111 ∷ []) ∷ []; rhs = e_binary o_and (e_const (l_bool true)) (e_const (l_char 65)) } ∷ []) [] r_nil s_nil) r_nil) s_nil

accepted-here : judge (M ∷ N ∷ []) M ≡ accept (as_machine M tree)
unfolding judge resolved checked resolved_states resolve_s resolve_r refine_at refine_with open_level count_state with_refine with_target walk_on machine_of as_target as_machine prefix_s prefix_r prefix_transitions short_s short_r short_targets short_name append_region first_of member eq_name refusal_of check_no_states repeated collect_state_names collect_region_names bad_initial validate_states validate_regions bad_target names_of uncovered require_cover_states require_cover_regions unless_covered unless_other some_region_covers all_states_cover is_some own_value is_only as_refusal
accepted-here = refl

-- and so does the code, with two regions, whatever long tables held before
judged-instance : (t reg qualified : List ℕ) → Long t reg qualified → AcceptedAs (M ∷ N ∷ []) M (as_machine M tree) (result_unwrap_or (judge_at ns s (names_placed s 5 2 0 zeros) (machines_placed ns s 16 zeros) 18 t reg qualified) 0)
judged-instance t reg qualified long =
    accepted-count s _ _ _ (M ∷ N ∷ []) M (as_machine M tree) _ (subst (λ j. JudgedAs s (names_placed s 5 2 0 zeros) (board_at ns s (names_placed s 5 2 0 zeros) (machines_placed ns s 16 zeros) 18 t reg qualified).qualified (number_in s 18).value (M ∷ N ∷ []) M j (judge_at ns s (names_placed s 5 2 0 zeros) (machines_placed ns s 16 zeros) 18 t reg qualified)) accepted-here
    (read-judged s ns (M ∷ N ∷ []) (names_placed s 5 2 0 zeros) (machines_placed ns s 16 zeros) tables (small_bytes s bytes-here) 18 M 45 read-M t reg qualified long))
