-- A small layout that meets the premises: the top region has the states A and B, and A is refined by a machine of one state X.
-- Each state has an equation for the output o, and in A that of X counts.
use Prim.Native.Nat.{ℕ, zero, suc, ◌<◌}
use native.Mathlib.Omega.{arith}
use mathlib.Core.List.{List, [], ◌∷◌, ◌++◌}
use mathlib.Core.Bool.{true, false}
use mathlib.Core.Path.{◌≡◌, refl}
use Rattle.wire.specs.Answer.{below, bind, byte, counted, guard, index, many, map_a, u16, value}
use Rattle.wire.specs.Bytes.{bytes, two}
use Rattle.wire.specs.Code.{read_of}
use Rattle.wire.specs.Decimal.{decimal, digits}
use Rattle.wire.specs.Preorder.{trees}
use Rattle.std.specs.Prelude.{Some}
use Rattle.pack_rules.specs.Names.{Name, eq_name, member}
use Rattle.pack.specs.RawNames.{raw_name}
use Rattle.pack_rules.specs.Syntax.{Transition, e_const, e_var, l_bool, Equation, t_bool}
use Rattle.machine_rules.specs.Resolved.{ResolvedMachine, ResolvedRegions, r_cons, r_nil, s_cons, s_nil}
use Rattle.pack_rules.specs.Forms.{expr_arity, expr_at, expr_fields, expr_head, expr_of, expr_over, expr_rows, exprs_of, flag_of, literal, literal_of, name_at, nth, first_type, plain_types, type_arity, type_at, type_fields, type_head, type_of, type_over}
use Rattle.pack_rules.specs.Read.{equations_in, expr_in, name_in, transition_in, equation_in, name_byte, names_in, port_in, ports_in, type_in}
use Rattle.pack_rules.specs.Write.{bin_byte, each, enum_items, equation_items, expr_items, flag_byte, list, lit_bytes, lookup, name_items, un_byte, spell, spell_one, and_then, before, old_in, new_in}
use Rattle.pack.specs.Table.{tabled}
use Rattle.pack.proofs.WrittenBack.{all_small, small_bytes}
use Rattle.machine_rules.specs.MadeNames.{active_var, next_var, sm_prefix, state_var}
use Rattle.machine_rules.specs.Resolve.{prefix_transitions}
use Rattle.machines.specs.ResolvedIn.{StateAt, end_of}
use Rattle.machines.specs.CheckedReads.{number_in, sure_of, with}
use Rattle.machines.specs.Layout.{HeldR, HeldS, RegionRow, StateRow, g_end, g_more, h_end, h_more, prefix_of, slice_of}
use Rattle.machines.specs.Equations.{active_equation, state_equation}
use Rattle.machine_rules.specs.Lower.{active_in, enums_of, equations_r, equations_s, previous_next, is_name, just_entered, next_chain, chain_step, region_equations, size_r, size_s, state_rhs, top_equations, transitions_of, some_region_covers, all_states_cover, equations_of, from_option, is_only, is_some, names_of, output_equations, own_value, value_r, value_s}
use Rattle.machines.specs.EmitAt.{active_t, chain_t, enums_t, in_region, last_or, letters_at, move_t, moves_t, next_rhs_t, next_t, pack_name, region_t, regions_t, state_t, test_t, transitions_t}
use Rattle.machines.proofs.EnumsEmitted.{enums-machine}
use mathlib.Core.Option.{none, some}
use lib.ListN.{length, get_or}
use Rattle.wire.specs.Lists.{All, Bytes}
use Rattle.pack_rules.specs.Legal.{Fresh, LegalName}
use Rattle.pack_rules.specs.Report.{as_refusal, first_of}
use Rattle.machine_rules.specs.Checks.{bad_initial, bad_target, check_no_states, collect_state_names, refusal_of, repeated, require_cover_regions, require_cover_states, uncovered, unless_covered, unless_other, validate_states}
use Rattle.machines.specs.CoverAt.{all_miss, asked, first_miss, gives_t, miss_t, missed, own_t, some_word, tells, uncovered_t}
use Rattle.machines.specs.ValueAt.{entered_t, giving_from, in_state_t, output_t, outputs_t, port_outputs_t, side_bytes, side_from, side_of, side_t, value_t, values_t}
use Rattle.machines.proofs.NamesPlaced.{SpotAt}
use Rattle.machines.proofs.ChainsEmitted.{Alike}
use Rattle.machines.proofs.Covered.{uncovered-machine}
use Rattle.machines.proofs.MachineEmitted.{machine-equations}

-- A, B, g, X, M, o
abbrev ns : List Name
ns = (65 ∷ []) ∷ (66 ∷ []) ∷ (103 ∷ []) ∷ (88 ∷ []) ∷ (77 ∷ []) ∷ (111 ∷ []) ∷ []

-- the names; the output o; the state A with a transition to B on g; the state B; the state X with a transition to itself
abbrev s : List ℕ
s = 6 ∷ 0 ∷ 1 ∷ 65 ∷ 1 ∷ 66 ∷ 1 ∷ 103 ∷ 1 ∷ 88 ∷ 1 ∷ 77 ∷ 1 ∷ 111
    ∷ 1 ∷ 0 ∷ 5 ∷ 0 ∷ 0
    ∷ 0 ∷ 0 ∷ 1 ∷ 0 ∷ 1 ∷ 0 ∷ 5 ∷ 0 ∷ 0 ∷ 0 ∷ 0 ∷ 1 ∷ 0 ∷ 1 ∷ 2 ∷ 0 ∷ 1 ∷ 0 ∷ 0 ∷ 0 ∷ 4 ∷ 0
    ∷ 1 ∷ 0 ∷ 1 ∷ 0 ∷ 1 ∷ 0 ∷ 5 ∷ 0 ∷ 0 ∷ 0 ∷ 0 ∷ 0 ∷ 0 ∷ 0 ∷ 0 ∷ 255 ∷ 255
    ∷ 3 ∷ 0 ∷ 1 ∷ 0 ∷ 1 ∷ 0 ∷ 5 ∷ 0 ∷ 0 ∷ 0 ∷ 1 ∷ 1 ∷ 0 ∷ 0 ∷ 0 ∷ 1 ∷ 3 ∷ 0 ∷ 0 ∷ 0 ∷ 255 ∷ 255 ∷ []

abbrev offsets : List ℕ
offsets = 2 ∷ 4 ∷ 6 ∷ 8 ∷ 10 ∷ 12 ∷ []

-- A, A_X, B
abbrev qualified : List ℕ
qualified = 65 ∷ 65 ∷ 95 ∷ 88 ∷ 66 ∷ []

-- the top region, A, the region in A, X, B
abbrev t : List ℕ
t = 0 ∷ 1 ∷ 0 ∷ 0 ∷ 36 ∷ 0 ∷ 2 ∷ 0 ∷ 0
    ∷ 19 ∷ 30 ∷ 0 ∷ 1 ∷ 30 ∷ 1
    ∷ 3 ∷ 0 ∷ 0 ∷ 1 ∷ 30 ∷ 1 ∷ 1 ∷ 9 ∷ 0
    ∷ 58 ∷ 69 ∷ 1 ∷ 3 ∷ 30 ∷ 0
    ∷ 41 ∷ 52 ∷ 4 ∷ 1 ∷ 36 ∷ 0 ∷ []

abbrev reg : List ℕ
reg = 0 ∷ 15 ∷ []

abbrev to_b : Transition
to_b = record { guard = e_var (103 ∷ []); target = 66 ∷ [] }

abbrev to_x : Transition
to_x = record { guard = e_const (l_bool true); target = 88 ∷ [] }

-- o is false, o is true
abbrev low : List Equation
low = record { lhs = (111 ∷ []) ∷ []; rhs = e_const (l_bool false) } ∷ []

abbrev high : List Equation
high = record { lhs = (111 ∷ []) ∷ []; rhs = e_const (l_bool true) } ∷ []

abbrev in_a : ResolvedRegions
in_a = r_cons (65 ∷ 95 ∷ 88 ∷ []) false (s_cons (65 ∷ 95 ∷ 88 ∷ []) high (record { guard = e_const (l_bool true); target = 65 ∷ 95 ∷ 88 ∷ [] } ∷ []) r_nil s_nil) r_nil

abbrev small : ResolvedMachine
small = record { name = 77 ∷ []; inputs = []; outputs = record { name = 111 ∷ []; ty = t_bool } ∷ []; locals = []; initial = 65 ∷ []; states = s_cons (65 ∷ []) low (to_b ∷ []) in_a (s_cons (66 ∷ []) low [] r_nil s_nil) }

state-a : StateAt ns s 19 (65 ∷ []) low (to_b ∷ []) 0 39
unfolding name_in equations_in equation_in names_in transition_in expr_in expr_at expr_head expr_fields expr_rows expr_arity expr_of exprs_of expr_over literal literal_of flag_of name_at nth trees counted many index below guard bind map_a byte u16
state-a = record { to-equations = 21; to-transitions = 30; to-regions = 37; name = refl; equations = refl; transitions = refl; regions = refl }

state-b : StateAt ns s 41 (66 ∷ []) low [] 0 56
unfolding name_in equations_in equation_in names_in expr_in expr_at expr_head expr_fields expr_rows expr_arity expr_of exprs_of expr_over literal literal_of flag_of name_at nth trees counted many index below guard bind map_a byte u16
state-b = record { to-equations = 43; to-transitions = 52; to-regions = 54; name = refl; equations = refl; transitions = refl; regions = refl }

state-x : StateAt ns s 58 (88 ∷ []) high (to_x ∷ []) 0 78
unfolding name_in equations_in equation_in names_in transition_in expr_in expr_at expr_head expr_fields expr_rows expr_arity expr_of exprs_of expr_over literal literal_of flag_of name_at nth trees counted many index below guard bind map_a byte u16
state-x = record { to-equations = 60; to-transitions = 69; to-regions = 76; name = refl; equations = refl; transitions = refl; regions = refl }

row-a : StateRow t 9 19 30 0 1 30 1
row-a = record { drawn = refl; moves = refl; letter = refl; letters = refl; after = refl; regions = refl }

row-b : StateRow t 30 41 52 4 1 36 0
row-b = record { drawn = refl; moves = refl; letter = refl; letters = refl; after = refl; regions = refl }

row-x : StateRow t 24 58 69 1 3 30 0
row-x = record { drawn = refl; moves = refl; letter = refl; letters = refl; after = refl; regions = refl }

row-top : RegionRow t 0 0 1 0 0 36 0 2 0 0
row-top = record { initial = refl; history = refl; letter = refl; letters = refl; after = refl; number = refl; states = refl; state = refl; holder = refl }

row-in-a : RegionRow t 15 3 0 0 1 30 1 1 9 0
row-in-a = record { initial = refl; history = refl; letter = refl; letters = refl; after = refl; number = refl; states = refl; state = refl; holder = refl }

held_x : HeldS ns s t reg qualified (65 ∷ 95 ∷ []) 1 6 1 24 2 (s_cons (65 ∷ 95 ∷ 88 ∷ []) high (record { guard = e_const (l_bool true); target = 65 ∷ 95 ∷ 88 ∷ [] } ∷ []) r_nil s_nil) 30 2
unfolding slice_of prefix_transitions state-x
held_x =
    h_more row-x state-x refl refl refl refl
    (g_end refl refl) (h_end refl refl)

held-in-a : HeldR ns s t reg qualified 0 9 7 1 15 1 in_a 30 2
unfolding slice_of prefix_of flag_of name_at
held-in-a =
    g_more row-in-a
    refl (omega arith) refl refl refl held_x (g_end refl refl)

held-ab : HeldS ns s t reg qualified [] 0 7 2 9 1 small.states 36 2
unfolding slice_of prefix_transitions state-a state-b
held-ab =
    h_more row-a state-a refl refl refl refl held-in-a
    (h_more row-b state-b refl refl refl refl (g_end refl refl) (h_end refl refl))

held-top : HeldR ns s t reg qualified 0 0 8 1 0 0 (r_cons (65 ∷ []) true small.states r_nil) 36 2
unfolding slice_of prefix_of flag_of name_at
held-top =
    g_more row-top
    refl (omega arith) refl refl refl held-ab (g_end refl refl)

-- the names, the bytes, the output, and that nothing is refused
small-names : Fresh [] ns
unfolding Fresh member eq_name
small-names = (refl, (refl, (refl, (refl, (refl, (refl, tt))))))

letter : (b : ℕ) → name_byte b ≡ true → LegalName (b ∷ [])
unfolding All
letter b e = (omega arith, omega arith, (e, tt))

small-legal : All LegalName ns
unfolding All name_byte
small-legal = (letter 65 refl, (letter 66 refl, (letter 103 refl, (letter 88 refl, (letter 77 refl, (letter 111 refl, tt))))))

small-spots : (i : ℕ) → i < length ns → SpotAt s (get_or offsets i 0) (name_at ns i)
unfolding raw_name name_at
small-spots zero h = record { is = refl; some = omega arith; inside = omega arith }
small-spots (suc zero) h = record { is = refl; some = omega arith; inside = omega arith }
small-spots (suc (suc zero)) h = record { is = refl; some = omega arith; inside = omega arith }
small-spots (suc (suc (suc zero))) h = record { is = refl; some = omega arith; inside = omega arith }
small-spots (suc (suc (suc (suc zero)))) h = record { is = refl; some = omega arith; inside = omega arith }
small-spots (suc (suc (suc (suc (suc zero))))) h = record { is = refl; some = omega arith; inside = omega arith }
small-spots (suc (suc (suc (suc (suc (suc i)))))) h = absurd (omega arith)

these-bytes : Bytes s
unfolding all_small
these-bytes = small_bytes s refl

small-ports : ports_in ns s 14 ≡ value small.outputs 19
unfolding ports_in port_in type_in first_type type_of type_over plain_types type_at type_head type_fields type_arity name_in name_at trees counted many index below guard bind map_a byte u16
small-ports = refl

small-accepted : refusal_of small ≡ none
unfolding refusal_of check_no_states repeated collect_state_names bad_initial validate_states bad_target uncovered require_cover_states unless_covered unless_other some_region_covers first_of as_refusal is_some own_value is_only names_of member eq_name
small-accepted = refl

-- the enums
small-enums : enums_t t qualified reg (77 ∷ []) 0 2 ≡ each enum_items (enums_of small)
unfolding size_s size_r
small-enums = enums-machine ns s t reg qualified small 36 2 held-top

-- o is given in all states, and g is not: the answer is the word of X, the first
small-o : missed t qualified (uncovered_t ns s t 5 8 0) ≡ none
unfolding name_at require_cover_states require_cover_regions unless_covered unless_other some_region_covers first_of is_some own_value is_only eq_name
small-o = uncovered-machine ns s t reg qualified small-names 5 (omega arith) small 36 2 held-top

small-g : (uncovered_t ns s t 2 8 0 ≡ Some 24) × (require_cover_states (103 ∷ []) small.states ≡ some (65 ∷ 95 ∷ 88 ∷ []))
unfolding uncovered_t first_miss miss_t some_word all_miss own_t gives_t tells asked end_of number_in sure_of read_of with equation_in names_in name_in expr_in expr_at expr_head expr_fields expr_rows expr_arity expr_of exprs_of expr_over literal literal_of flag_of name_at nth trees counted many index below guard bind map_a byte u16 require_cover_states require_cover_regions unless_covered unless_other some_region_covers first_of is_some own_value is_only eq_name
small-g = (refl, refl)

-- the equations: what is copied comes to the same as what is spelt
small-equations : spell ns (regions_t s offsets t qualified ns reg 0 2 ++ port_outputs_t s t qualified ns 14) [] ≡ spell ns (each equation_items (equations_of small)) []
unfolding port_outputs_t outputs_t output_t value_t values_t in_state_t entered_t giving_from side_bytes side_of side_t side_from uncovered_t first_miss miss_t some_word all_miss own_t gives_t tells asked equations_of output_equations value_s value_r all_states_cover some_region_covers from_option is_some own_value is_only port_in equation_in names_in type_in first_type type_of type_over plain_types type_at type_head type_fields type_arity name_in nth counted regions_t region_t active_t state_t next_t next_rhs_t chain_t last_or test_t transitions_t moves_t move_t in_region letters_at pack_name raw_name slice_of prefix_of active_equation state_equation end_of number_in sure_of read_of with expr_in expr_at expr_head expr_fields expr_rows expr_arity expr_of exprs_of expr_over literal literal_of flag_of name_at trees many index below guard bind map_a byte u16 top_equations equations_s equations_r region_equations active_in state_rhs previous_next just_entered next_chain chain_step transitions_of is_name size_s size_r each list name_items equation_items expr_items lit_bytes flag_byte un_byte bin_byte bytes two spell spell_one and_then before old_in new_in lookup eq_name active_var state_var next_var sm_prefix decimal digits
small-equations = refl

-- and so it is by the law, for every writer
small-law : Alike (tabled ns) (regions_t s offsets t qualified ns reg 0 2 ++ port_outputs_t s t qualified ns 14) (each equation_items (equations_of small))
unfolding size_s size_r
small-law = machine-equations ns small-names small-legal (omega arith) s these-bytes offsets t reg qualified small-spots small 36 2 14 19 held-top small-ports small-accepted
