-- What expressions give in a run, computed: one table, and one theorem.
use Prim.Native.Nat.{ℕ, zero, suc, ◌+◌, ◌*◌}
use mathlib.Core.List.{List, [], ◌∷◌}
use mathlib.Core.Bool.{Bool, true, false, cond, xor}
use mathlib.Core.Option.{Option, none, some}
use mathlib.Core.Path.{◌≡◌, refl}
use lib.ListN.{length}
use Rattle.pack_rules.specs.Names.{Name, eq_name, member}
use Rattle.pack_rules.specs.Syntax.{BinOp, Expr, IterKind, Lit, e_array, e_arrow, e_binary, e_call, e_cast, e_const, e_field, e_if, e_index, e_iterate, e_merge, e_pre, e_struct, e_tuple, e_unary, e_var, e_when, i_fold, i_map, l_bool, l_char, l_float, l_int, o_add, o_and, o_bit_and, o_bit_or, o_bit_xor, o_div, o_eq, o_ge, o_gt, o_implies, o_le, o_lt, o_mod, o_mul, o_neg, o_neq, o_not, o_or, o_shl, o_shr, o_sub, o_xor, t_array, t_bool, t_char, t_float32, t_float64, t_int16, t_int32, t_int64, t_int8, t_named, t_uint16, t_uint32, t_uint64, t_uint8, x_cons, x_nil}
use Rattle.pack_rules.specs.Write.{bin_byte, iter_byte, un_byte}
use Rattle.run_rules.specs.Run.{Clock, Op, Run, Value, apply_to, arrow_at, binary, binary_value, bools, clock_of, equals, eval, history, if_of, if_value, is_bool, literal, not_value, p_array, p_binary, p_cast, p_field, p_index, p_lit, p_struct, p_tuple, p_unary, pre_at, previous, sub, ticks, unary, v_bool, v_enum, v_other}
use Rattle.run_rules.proofs.RunTables.{cell_at, in_states, look, numbers, open_run, sometimes, truths}
use Rattle.run_rules.proofs.Tested.{is_present}

-- an expression, the cycles in which its clock ticks, and its values in just those
pub record Fact : Type 0 where
  pub expr : Expr
  pub ticks : List Bool
  pub gives : List (Option (Value ℕ))

-- a clock that ticks where the list says so
unfoldable pub ticks_in : List Bool → Clock
ticks_in [] t = false
ticks_in (b ∷ bs) zero = b
ticks_in (b ∷ bs) (suc t) = ticks_in bs t

-- the values of an expression where its clock ticks, from the cycle t on
unfoldable pub seen_from : Run ℕ → Expr → Clock → ℕ → List Bool → List (Option (Value ℕ))
seen_from R e c t [] = []
seen_from R e c t (b ∷ bs) = cond b (eval R e c t ∷ seen_from R e c (suc t) bs) (seen_from R e c (suc t) bs)

unfoldable pub seen : Run ℕ → List Fact → List (List (Option (Value ℕ)))
seen R [] = []
seen R (f ∷ fs) = seen_from R f.expr (ticks_in f.ticks) 0 f.ticks ∷ seen R fs

unfoldable pub given : List Fact → List (List (Option (Value ℕ)))
given [] = []
given (f ∷ fs) = f.gives ∷ given fs

-- values as the digits of a number
unfoldable pub digit : Option (Value ℕ) → ℕ
digit none = 0
digit (some (v_bool true)) = 1
digit (some (v_bool false)) = 0
digit (some (v_enum n)) = 2
digit (some (v_other n)) = n

unfoldable pub number : ℕ → List (Option (Value ℕ)) → ℕ
number n [] = n
number n (v ∷ vs) = number (n * 10 + digit v) vs

unfoldable pub joined : List (List (Option (Value ℕ))) → ℕ
joined [] = 0
joined (l ∷ ls) = number 0 l + joined ls

unfoldable pub Present : List (Value ℕ) → List (Option (Value ℕ))
Present [] = []
Present (v ∷ vs) = some v ∷ Present vs

-- the first letter of a name
unfoldable pub letter : Name → ℕ
letter [] = 0
letter (x ∷ xs) = x

-- an operation's number: no two that are tried have one
unfoldable pub op_number : Op → ℕ
op_number (p_lit l) = 0
op_number (p_unary o) = 30 + un_byte o
op_number (p_binary o) = 40 + bin_byte o
op_number (p_field f) = 1000 + letter f
op_number p_index = 61
op_number p_tuple = 62
op_number p_array = 63
op_number (p_struct n fs) = 2000 + letter n + 10 * length fs
op_number (p_cast t) = 70 + elim t [ t_bool ↦ 0 | t_int8 ↦ 1 | t_int16 ↦ 2 | t_int32 ↦ 3 | t_int64 ↦ 4 | t_uint8 ↦ 5 | t_uint16 ↦ 6 | t_uint32 ↦ 7 | t_uint64 ↦ 8 | t_float32 ↦ 9 | t_float64 ↦ 10 | t_char ↦ 11 | t_array n e ↦ 12 | t_named n ↦ 13 ]

-- a literal tells its kind and its number
unfoldable pub lit_number : Lit → ℕ
lit_number (l_bool b) = 0
lit_number (l_int n) = n
lit_number (l_float n) = 100 + n
lit_number (l_char n) = 200 + n

-- what is open tells which operation it is, and then its operands as digits
unfoldable pub answer : Op → List (Value ℕ) → Option (Value ℕ)
answer (p_lit l) vs = some (v_other (lit_number l))
answer (p_unary o) vs = some (v_other (op_number (p_unary o) * 100 + number 0 (Present vs)))
answer (p_binary o) vs = some (v_other (op_number (p_binary o) * 100 + number 0 (Present vs)))
answer (p_field f) vs = some (v_other (op_number (p_field f) * 100 + number 0 (Present vs)))
answer p_index vs = some (v_other (op_number p_index * 100 + number 0 (Present vs)))
answer p_tuple vs = some (v_other (op_number p_tuple * 100 + number 0 (Present vs)))
answer p_array vs = some (v_other (op_number p_array * 100 + number 0 (Present vs)))
answer (p_struct n fs) vs = some (v_other (op_number (p_struct n fs) * 100 + number 0 (Present vs)))
answer (p_cast t) vs = some (v_other (op_number (p_cast t) * 100 + number 0 (Present vs)))

-- a call tells its node, its ticks so far, and then its operands so far; an iterate its kind and flag too
unfoldable pub called : Name → ℕ → List (List (Option (Value ℕ))) → ℕ
called f n h = letter f * 100000 + n * 10000 + joined h

unfoldable pub iterated : IterKind → Bool → ℕ
iterated k i = 100000000 * (1 + 2 * iter_byte k + cond i 1 0)

abbrev b : Name
b = 98 ∷ []

abbrev k : Name
k = 107 ∷ []

abbrev m : Name
m = 109 ∷ []

abbrev n : Name
n = 110 ∷ []

abbrev s : Name
s = 115 ∷ []

abbrev u : Name
u = 117 ∷ []

abbrev x : Name
x = 120 ∷ []

abbrev y : Name
y = 121 ∷ []

abbrev z : Name
z = 122 ∷ []

abbrev P : Name
P = 80 ∷ []

abbrev Q : Name
Q = 81 ∷ []

-- the columns: y is there where b is true, and z where b is false, k in cycles 0 and 3; u has no value in cycle 1, but is there
unfoldable pub columns : Run ℕ
unfolding open_run
columns =
    open_run answer (λ n h. none) (P ∷ Q ∷ [])
    (record { of = b; cells = truths (true ∷ false ∷ false ∷ true ∷ []) }
    ∷ record { of = k; cells = sometimes (some true ∷ none ∷ none ∷ some false ∷ []) }
    ∷ record { of = m; cells = truths (false ∷ false ∷ true ∷ true ∷ []) }
    ∷ record { of = n; cells = truths (false ∷ true ∷ false ∷ true ∷ []) }
    ∷ record { of = s; cells = in_states (P ∷ Q ∷ P ∷ Q ∷ []) }
    ∷ record { of = u; cells = sometimes (some true ∷ none ∷ some true ∷ some true ∷ []) }
    ∷ record { of = x; cells = numbers (some 1 ∷ some 2 ∷ some 3 ∷ some 4 ∷ []) }
    ∷ record { of = y; cells = numbers (some 5 ∷ none ∷ none ∷ some 6 ∷ []) }
    ∷ record { of = z; cells = numbers (none ∷ some 7 ∷ some 8 ∷ none ∷ []) }
    ∷ [])
    (record { of = u; cells = truths (true ∷ true ∷ []) } ∷ [])

-- P and Q are enum values
unfoldable pub run : Run ℕ
run =
    record {
      op = columns.op;
      node = λ f n h. some (v_other (called f n h));
      iterate = λ k f i n h. some (v_other (iterated k i + called f n h));
      select = columns.select;
      selects = columns.selects;
      enums = columns.enums;
      at = columns.at;
      on = columns.on;
      off = columns.off;
    }

abbrev fact : Expr → List Bool → List (Option (Value ℕ)) → Fact
fact e c vs = record { expr = e; ticks = c; gives = vs }

-- a clock that ticks in cycles 0, 2 and 3; where b is true; where b is false; every cycle
abbrev late : List Bool
late = true ∷ false ∷ true ∷ true ∷ []

abbrev yes : List Bool
yes = true ∷ false ∷ false ∷ true ∷ []

abbrev no : List Bool
no = false ∷ true ∷ true ∷ false ∷ []

abbrev all : List Bool
all = true ∷ true ∷ true ∷ true ∷ []

abbrev two : BinOp → Name → Name → Expr
two o k l = e_binary o (e_var k) (e_var l)

unfoldable pub facts : List Fact
facts =
    -- `pre`, `->`, calls and iterates go by the ticks of their clock
    fact (e_pre (e_var x)) late (numbers (none ∷ some 1 ∷ some 3 ∷ []))
    ∷ fact (e_pre (e_pre (e_var x))) late (numbers (none ∷ none ∷ some 1 ∷ []))
    ∷ fact (e_arrow (e_const (l_int 9)) (e_var x)) late (numbers (some 9 ∷ some 3 ∷ some 4 ∷ []))
    ∷ fact (e_arrow (e_const (l_int 9)) (e_pre (e_var x))) no (numbers (some 9 ∷ some 2 ∷ []))
    ∷ fact (e_arrow (e_const (l_int 9)) (e_pre (e_pre (e_var x)))) late (numbers (some 9 ∷ none ∷ some 1 ∷ []))
    ∷ fact (e_call P (x_cons (e_var x) x_nil)) late (numbers (some 8010001 ∷ some 8020013 ∷ some 8030134 ∷ []))
    ∷ fact (e_call P (x_cons (e_pre (e_var x)) x_nil)) late (numbers (some 8010000 ∷ some 8020001 ∷ some 8030013 ∷ []))
    ∷ fact (e_call P (x_cons (e_var x) x_nil)) no (numbers (some 8010002 ∷ some 8020023 ∷ []))
    ∷ fact (e_call P x_nil) late (numbers (some 8010000 ∷ some 8020000 ∷ some 8030000 ∷ []))
    ∷ fact (e_call Q (x_cons (e_var x) x_nil)) yes (numbers (some 8110001 ∷ some 8120014 ∷ []))
    ∷ fact (e_iterate i_map P false (x_cons (e_var x) x_nil)) late (numbers (some 108010001 ∷ some 108020013 ∷ some 108030134 ∷ []))
    ∷ fact (e_iterate i_fold Q true (x_cons (e_var x) (x_cons (e_var y) x_nil))) yes (numbers (some 408110006 ∷ some 408120070 ∷ []))
    ∷ fact (e_iterate i_map P true (x_cons (e_var x) x_nil)) no (numbers (some 208010002 ∷ some 208020023 ∷ []))
    -- a sampled expression stands on the clock of the variable that samples it, with a value there or without
    ∷ fact (e_when (e_pre (e_var x)) b true) yes (numbers (none ∷ some 3 ∷ []))
    ∷ fact (e_pre (e_when (e_var x) b true)) yes (numbers (none ∷ some 1 ∷ []))
    ∷ fact (e_when (e_var x) b false) no (numbers (some 2 ∷ some 3 ∷ []))
    ∷ fact (e_when (e_pre (e_var x)) u true) late (numbers (none ∷ some 2 ∷ some 3 ∷ []))
    -- the arms of a merge stand on the two clocks, and it has no value where its variable has none; a variable that is absent is neither
    ∷ fact (e_merge b (e_var y) (e_var z)) all (numbers (some 5 ∷ some 7 ∷ some 8 ∷ some 6 ∷ []))
    ∷ fact (e_merge b (e_pre (e_var y)) (e_var z)) all (numbers (none ∷ some 7 ∷ some 8 ∷ some 5 ∷ []))
    ∷ fact (e_merge b (e_var y) (e_pre (e_var z))) all (numbers (some 5 ∷ none ∷ some 7 ∷ some 6 ∷ []))
    ∷ fact (e_merge b (e_arrow (e_var y) (e_const (l_int 9))) (e_arrow (e_var z) (e_const (l_int 9)))) all (numbers (some 5 ∷ some 7 ∷ some 9 ∷ some 9 ∷ []))
    ∷ fact (e_merge u (e_var x) (e_var x)) all (numbers (some 1 ∷ none ∷ some 3 ∷ some 4 ∷ []))
    ∷ fact (e_merge k (e_var x) (e_pre (e_var x))) yes (numbers (some 1 ∷ none ∷ []))
    -- the Boolean operators, and `if`
    ∷ fact (two o_and m n) all (truths (false ∷ false ∷ false ∷ true ∷ []))
    ∷ fact (two o_or m n) all (truths (false ∷ true ∷ true ∷ true ∷ []))
    ∷ fact (two o_xor m n) all (truths (false ∷ true ∷ true ∷ false ∷ []))
    ∷ fact (two o_implies m n) all (truths (true ∷ true ∷ false ∷ true ∷ []))
    ∷ fact (e_unary o_not (e_var m)) all (truths (true ∷ true ∷ false ∷ false ∷ []))
    ∷ fact (e_if (e_var m) (e_var x) (e_const (l_int 9))) all (numbers (some 9 ∷ some 9 ∷ some 3 ∷ some 4 ∷ []))
    ∷ fact (e_if (e_pre (e_var m)) (e_var x) (e_const (l_int 9))) late (numbers (none ∷ some 9 ∷ some 4 ∷ []))
    -- equality of enum values; of others it is open, as every other operation is: one for each operator, literal, field and type
    ∷ fact (two o_eq s P) all (truths (true ∷ false ∷ true ∷ false ∷ []))
    ∷ fact (two o_neq s P) all (truths (false ∷ true ∷ false ∷ true ∷ []))
    ∷ fact (two o_eq P Q) late (truths (false ∷ false ∷ false ∷ []))
    ∷ fact (two o_eq m n) all (numbers (some 4400 ∷ some 4401 ∷ some 4410 ∷ some 4411 ∷ []))
    ∷ fact (two o_neq x x) all (numbers (some 4511 ∷ some 4522 ∷ some 4533 ∷ some 4544 ∷ []))
    ∷ fact (two o_eq s m) all (numbers (some 4420 ∷ some 4420 ∷ some 4421 ∷ some 4421 ∷ []))
    ∷ fact (two o_neq m s) all (numbers (some 4502 ∷ some 4502 ∷ some 4512 ∷ some 4512 ∷ []))
    ∷ fact (two o_lt x x) yes (numbers (some 4611 ∷ some 4644 ∷ []))
    ∷ fact (two o_le x x) yes (numbers (some 4711 ∷ some 4744 ∷ []))
    ∷ fact (two o_gt x x) yes (numbers (some 4811 ∷ some 4844 ∷ []))
    ∷ fact (two o_ge x x) yes (numbers (some 4911 ∷ some 4944 ∷ []))
    ∷ fact (two o_add x x) yes (numbers (some 5011 ∷ some 5044 ∷ []))
    ∷ fact (two o_sub x x) yes (numbers (some 5111 ∷ some 5144 ∷ []))
    ∷ fact (two o_mul x x) yes (numbers (some 5211 ∷ some 5244 ∷ []))
    ∷ fact (two o_div x x) yes (numbers (some 5311 ∷ some 5344 ∷ []))
    ∷ fact (two o_mod x x) yes (numbers (some 5411 ∷ some 5444 ∷ []))
    ∷ fact (two o_bit_and x x) yes (numbers (some 5511 ∷ some 5544 ∷ []))
    ∷ fact (two o_bit_or x x) yes (numbers (some 5611 ∷ some 5644 ∷ []))
    ∷ fact (two o_bit_xor x x) yes (numbers (some 5711 ∷ some 5744 ∷ []))
    ∷ fact (two o_shl x x) yes (numbers (some 5811 ∷ some 5844 ∷ []))
    ∷ fact (two o_shr x x) yes (numbers (some 5911 ∷ some 5944 ∷ []))
    ∷ fact (e_unary o_neg (e_var x)) yes (numbers (some 3101 ∷ some 3104 ∷ []))
    ∷ fact (e_const (l_float 3)) yes (numbers (some 103 ∷ some 103 ∷ []))
    ∷ fact (e_const (l_char 3)) yes (numbers (some 203 ∷ some 203 ∷ []))
    ∷ fact (e_field (e_var x) y) yes (numbers (some 112101 ∷ some 112104 ∷ []))
    ∷ fact (e_field (e_var x) z) yes (numbers (some 112201 ∷ some 112204 ∷ []))
    ∷ fact (e_index (e_var x) (e_var y)) yes (numbers (some 6115 ∷ some 6146 ∷ []))
    ∷ fact (e_tuple (x_cons (e_var x) (x_cons (e_var y) x_nil))) yes (numbers (some 6215 ∷ some 6246 ∷ []))
    ∷ fact (e_array (x_cons (e_var x) (x_cons (e_var y) x_nil))) yes (numbers (some 6315 ∷ some 6346 ∷ []))
    ∷ fact (e_struct P (y ∷ []) (x_cons (e_var x) x_nil)) yes (numbers (some 209001 ∷ some 209004 ∷ []))
    ∷ fact (e_struct Q (y ∷ z ∷ []) (x_cons (e_var x) (x_cons (e_var y) x_nil))) yes (numbers (some 210115 ∷ some 210146 ∷ []))
    ∷ fact (e_cast t_bool (e_var x)) yes (numbers (some 7001 ∷ some 7004 ∷ []))
    ∷ fact (e_cast t_int8 (e_var x)) yes (numbers (some 7101 ∷ some 7104 ∷ []))
    -- an operation has no value where an operand has none, or where it is of the wrong kind
    ∷ fact (e_binary o_add (e_pre (e_var x)) (e_var x)) late (numbers (none ∷ some 5013 ∷ some 5034 ∷ []))
    ∷ fact (e_binary o_add (e_var x) (e_pre (e_var x))) late (numbers (none ∷ some 5031 ∷ some 5043 ∷ []))
    ∷ fact (e_binary o_or (e_var m) (e_pre (e_var m))) late (sometimes (none ∷ some true ∷ some true ∷ []))
    ∷ fact (e_unary o_neg (e_pre (e_var x))) late (numbers (none ∷ some 3101 ∷ some 3103 ∷ []))
    ∷ fact (e_tuple (x_cons (e_var x) (x_cons (e_pre (e_var x)) x_nil))) late (numbers (none ∷ some 6231 ∷ some 6243 ∷ []))
    ∷ fact (e_tuple (x_cons (e_pre (e_var x)) (x_cons (e_var x) x_nil))) late (numbers (none ∷ some 6213 ∷ some 6234 ∷ []))
    ∷ fact (e_array (x_cons (e_var x) (x_cons (e_pre (e_var x)) x_nil))) late (numbers (none ∷ some 6331 ∷ some 6343 ∷ []))
    ∷ fact (e_struct P (y ∷ []) (x_cons (e_pre (e_var x)) x_nil)) late (numbers (none ∷ some 209001 ∷ some 209003 ∷ []))
    ∷ fact (e_field (e_pre (e_var x)) y) late (numbers (none ∷ some 112101 ∷ some 112103 ∷ []))
    ∷ fact (e_index (e_var x) (e_pre (e_var x))) late (numbers (none ∷ some 6131 ∷ some 6143 ∷ []))
    ∷ fact (e_cast t_bool (e_pre (e_var x))) late (numbers (none ∷ some 7001 ∷ some 7003 ∷ []))
    ∷ fact (two o_and m x) late (numbers (none ∷ none ∷ none ∷ []))
    ∷ fact (two o_and m s) late (numbers (none ∷ none ∷ none ∷ []))
    ∷ fact (e_unary o_not (e_var x)) late (numbers (none ∷ none ∷ none ∷ []))
    ∷ []

-- what the table says is what the run gives
pub facts-hold : seen run facts ≡ given facts
unfolding run columns facts seen given seen_from ticks_in digit number joined Present letter op_number lit_number answer called iterated un_byte bin_byte iter_byte open_run look cell_at truths in_states numbers sometimes eval literal unary not_value binary binary_value bools equals apply_to if_of if_value is_bool is_present pre_at arrow_at previous ticks history clock_of sub member eq_name xor
facts-hold = refl
