-- Internal: nothing here has to be believed; laws tie it to what docs/TRUSTED.md lists.
-- The variables that calls of `last` ask for, as the code finds them: rows of three words in a table, each with a variable's index,
-- where its initial value stands (0 where none is given), and a third word that is set later.
use Rattle.std.specs.Prelude.{ℕ, zero, suc, ◌+◌, ◌*◌, ◌<◌, List, [], ◌∷◌, cond, ◌≡◌, get_or, length, eqb, ltb}
use Rattle.std.proofs.Math.Option.{Option}
use Rattle.pack_rules.specs.Names.{Name}
use Rattle.pack_rules.specs.Syntax.{Expr}
use Rattle.pack_rules.specs.Forms.{name_at}
use Rattle.machines.specs.CheckedReads.{number_in, with}
use Rattle.activations.specs.declared.expr_node.ExprNode.{ExprNode}
use Rattle.activations.specs.declared.expr_node.ExprNode.TheVariants as mt
use Rattle.activations.specs.declared.parts.Act.{Act}
use Rattle.activations.specs.Cells.{put_t}
use Rattle.activations.specs.Places.{body_in, branch_end, each_of, equation_end, right_side_in}
use Rattle.activation_rules.specs.Sought.{Sought}
use Rattle.activations.specs.Walks.{InitAt, walked}

-- the table, and how many rows it has
pub record Rows : Type 0 where
  pub table : List ℕ
  pub count : ℕ

abbrev pub rows_of : List ℕ → ℕ → Rows
rows_of t n = record { table = t; count = n }

-- the word k of the row h
abbrev pub word_t : List ℕ → ℕ → ℕ → ℕ
word_t t h k = get_or t (3 * h + k) 0

-- a call of `last` takes at least 8 bytes
unfoldable pub max_rows : ℕ
max_rows = 8192

-- the first of n rows from i on whose variable is v, i + n where there is none
unfoldable pub row_t : List ℕ → ℕ → ℕ → ℕ → ℕ
row_t t v zero i = i
row_t t v (suc n) i = cond (eqb (word_t t i 0) v) i (row_t t v n (suc i))

-- an initial value for the row h, where it has none
unfoldable pub init_t : ℕ → ℕ → List ℕ → List ℕ
init_t h init t = cond (eqb (word_t t h 1) 0) (put_t t (3 * h + 1) init) t

-- a row more
unfoldable pub row_more : ℕ → ℕ → Rows → Rows
row_more v init z = cond (ltb z.count max_rows) (rows_of (put_t (put_t z.table (3 * z.count + 0) v) (3 * z.count + 1) init) (z.count + 1)) z

-- a variable is noted once, and the first given initial value stays; h is its row
unfoldable pub note_row : ℕ → ℕ → ℕ → Rows → Rows
note_row h v init z = cond (ltb h z.count) (rows_of (init_t h init z.table) z.count) (row_more v init z)

-- the same, where its row is to be found
unfoldable pub note_t : ℕ → ℕ → Rows → Rows
note_t v init z = note_row (row_t z.table v z.count 0) v init z

-- what a node adds
unfoldable pub find_step : ExprNode → ℕ → Rows → Rows
find_step (mt.Last v i q) p z = note_t v i z
find_step (mt.Bad u q) p z = z
find_step (mt.Const q) p z = z
find_step (mt.Var i q) p z = z
find_step (mt.Clocked c u q) p z = z
find_step (mt.Other u q) p z = z
find_step mt.Nothing p z = z

-- f at each branch, where their count stands at `at`
unfoldable pub each_branch_t : {S : Type 0} → List Name → List ℕ → (ℕ → S → S) → ℕ → S → S
each_branch_t ns s f at z = with (number_in s at) λ n p. each_of f (branch_end ns s) n p z

module _ (ns : List Name) (s : List ℕ) (last : ℕ) where
  -- in the expression at an offset
  unfoldable pub find_lasts_t : ℕ → Rows → Rows
  find_lasts_t at z = walked ns s last find_step 1 at z

  -- in an equation, in a scope whose count of equations stands at `at`
  unfoldable pub find_in_equation_t : ℕ → Rows → Rows
  find_in_equation_t at z = find_lasts_t (right_side_in ns s at) z

  unfoldable pub find_in_scope_t : ℕ → Rows → Rows
  find_in_scope_t at z = with (number_in s at) λ n p. each_of find_in_equation_t (equation_end ns s) n p z

  -- in the condition of a branch, in its scope
  unfoldable pub find_in_condition_t : ℕ → Rows → Rows
  find_in_condition_t at z = with (number_in s at) λ i p. find_lasts_t p z

  unfoldable pub find_in_body_t : ℕ → Rows → Rows
  find_in_body_t at z = find_in_scope_t (body_in ns s at) z

  -- in all expressions of an activation
  unfoldable pub find_all_lasts_t : Act → Rows → Rows
  find_all_lasts_t a z = find_in_scope_t a.other (each_branch_t ns s find_in_body_t a.branches (each_branch_t ns s find_in_condition_t a.branches z))

-- where the initial value of a row stands, if it has one
unfoldable pub RowInit : List Name → List ℕ → Option Expr → ℕ → Type 0
RowInit ns s i w = (next : ℕ) × InitAt ns s i w next

-- the row h is that of a variable that is sought
unfoldable pub RowIs : List Name → List ℕ → List ℕ → ℕ → Sought → Type 0
RowIs ns s t h x = (word_t t h 0 < length ns) × (name_at ns (word_t t h 0) ≡ x.var) × RowInit ns s x.init (word_t t h 1)

-- rows from h on
unfoldable pub RowsFrom : List Name → List ℕ → List ℕ → ℕ → List Sought → Type 0
RowsFrom ns s t h [] = Unit {0}
RowsFrom ns s t h (x ∷ xs) = RowIs ns s t h x × RowsFrom ns s t (suc h) xs
