-- Runs that are written down as tables: a column of values, or absence, for each variable.
use Prim.Native.Nat.{ℕ, zero, suc, ◌+◌}
use mathlib.Core.List.{List, [], ◌∷◌}
use mathlib.Core.Bool.{Bool, true, false, cond, ◌||◌}
use mathlib.Core.Option.{Option, none, some}
use mathlib.Core.Path.{◌≡◌, refl}
use Rattle.pack_rules.specs.Names.{Name, eq_name, member}
use Rattle.pack_rules.specs.Syntax.{Lit, l_bool, l_char, l_float, l_int}
use Rattle.run_rules.specs.Run.{Op, Run, Value, if_value, p_array, p_binary, p_cast, p_field, p_index, p_lit, p_struct, p_tuple, p_unary, v_bool, v_enum, v_other, values}
use Rattle.run_rules.proofs.Booleans.{true-false}
use Rattle.run_rules.proofs.Tested.{is_present}

-- a variable and its values, cycle by cycle
pub record Column : Type 0 where
  pub of : Name
  pub cells : List (Option (Value ℕ))

unfoldable pub cell_at : List (Option (Value ℕ)) → ℕ → Option (Value ℕ)
cell_at [] t = none
cell_at (v ∷ vs) zero = v
cell_at (v ∷ vs) (suc t) = cell_at vs t

unfoldable pub look : List Column → Name → ℕ → Option (Value ℕ)
look [] x t = none
look (c ∷ cs) x t = cond (eq_name x c.of) (cell_at c.cells t) (look cs x t)

pub if-value : (c : Bool) (v w : Value ℕ) → if_value (some (v_bool c)) (some v) (some w) ≡ some (cond c v w)
unfolding if_value
if-value true v w = refl
if-value false v w = refl

pub not-present : (b : Bool) (w : Option (Value ℕ)) → is_present w || b ≡ false → w ≡ none
unfolding is_present
not-present b none e = refl
not-present b (some v) e = absurd (true-false {b = true} refl e)

-- A run with these operations, calls and enum values. The second table says where a variable is present without a value: wherever it has
-- a cell.
unfoldable pub open_run : (Op → List (Value ℕ) → Option (Value ℕ)) → (ℕ → List (List (Option (Value ℕ))) → Option (Value ℕ)) → List Name → List Column → List Column → Run ℕ
open_run op call values table bare =
    record {
      op = op;
      node = λ f n h. call n h;
      iterate = λ k f i n h. call n h;
      select = if_value;
      selects = if-value;
      enums = λ x. member x values;
      at = look table;
      on = λ x t. is_present (look table x t) || is_present (look bare x t);
      off = λ x t e. not-present (is_present (look bare x t)) (look table x t) e;
    }

-- a run with these enum values, in which open operations have no value
unfoldable pub table_run : List Name → List Column → Run ℕ
unfolding open_run
table_run values table = open_run (λ x vs. none) (λ n h. none) values table []

-- open operations on numbers: a number is itself, and any operator of two operands adds them
unfoldable pub lit_value : Lit → Option (Value ℕ)
lit_value (l_bool b) = none
lit_value (l_int n) = some (v_other n)
lit_value (l_float n) = none
lit_value (l_char n) = none

unfoldable pub total : List (Value ℕ) → ℕ
total [] = 0
total (v_bool b ∷ vs) = total vs
total (v_enum n ∷ vs) = total vs
total (v_other n ∷ vs) = n + total vs

unfoldable pub adding : Op → List (Value ℕ) → Option (Value ℕ)
adding (p_lit l) vs = lit_value l
adding (p_unary o) vs = none
adding (p_binary o) vs = some (v_other (total vs))
adding (p_field f) vs = none
adding p_index vs = none
adding p_tuple vs = none
adding p_array vs = none
adding (p_struct n fs) vs = none
adding (p_cast t) vs = none

-- columns of truth values, of states and of numbers, and of a variable that is present in some cycles only
unfoldable pub truths : List Bool → List (Option (Value ℕ))
truths [] = []
truths (b ∷ bs) = some (v_bool b) ∷ truths bs

unfoldable pub in_states : List Name → List (Option (Value ℕ))
in_states [] = []
in_states (n ∷ ns) = some (v_enum n) ∷ in_states ns

unfoldable pub sometimes : List (Option Bool) → List (Option (Value ℕ))
sometimes [] = []
sometimes (none ∷ bs) = none ∷ sometimes bs
sometimes (some b ∷ bs) = some (v_bool b) ∷ sometimes bs

unfoldable pub numbers : List (Option ℕ) → List (Option (Value ℕ))
numbers [] = []
numbers (none ∷ ns) = none ∷ numbers ns
numbers (some n ∷ ns) = some (v_other n) ∷ numbers ns
