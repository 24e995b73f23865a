-- Internal: nothing here has to be believed; laws tie it to what docs/TRUSTED.md lists.
-- What an equation of a scope reads, as the code lists it: numbers of names, in order, each once.
use Rattle.std.specs.Prelude.{ℕ, ◌%◌, List, [], ◌∷◌, ◌++◌, cond, length, eqb, ltb}
use Rattle.wire.specs.Bytes.{word_range}
use Rattle.pack_rules.specs.Names.{Name}
use Rattle.machines.specs.Fingerprints.{among}
use Rattle.activations.specs.declared.expr_node.ExprNode.{ExprNode}
use Rattle.activations.specs.declared.expr_node.ExprNode.TheVariants as mt
use Rattle.activations.specs.Walks.{walked}
use Rattle.activations.specs.Places.{right_side_in}
use Rattle.activations.specs.TypeCodes.{typed_t}
use Rattle.activations.specs.NameIdsAt.{last_id_t, no_number}

-- a number more, where it is not there yet; there is room for 21,848
unfoldable pub push_t : ℕ → List ℕ → List ℕ
push_t x l = cond (among x l) l (cond (ltb (length l) 21848) (l ++ (x % word_range ∷ [])) l)

-- those of a list in order
unfoldable pub join_t : List ℕ → List ℕ → List ℕ
join_t [] l = l
join_t (x ∷ xs) l = join_t xs (push_t x l)

-- a number more, where it is a known variable's: the types of variables, of outputs, how many names there are
unfoldable pub note_t : List ℕ → List ℕ → ℕ → ℕ → List ℕ → List ℕ
note_t env outs names x l = cond (eqb (typed_t env outs names x) 0) l (push_t x l)

-- the holders' rows
module _ (lasts : List ℕ) (rows : ℕ) where
  -- the number that a node reads, where calls of `last` are replaced
  unfoldable pub read_by : ExprNode → ℕ
  read_by (mt.Last v i q) = last_id_t lasts rows v
  read_by (mt.Bad u q) = no_number
  read_by (mt.Const q) = no_number
  read_by (mt.Var i q) = i
  read_by (mt.Clocked c u q) = c
  read_by (mt.Other u q) = no_number
  read_by mt.Nothing = no_number

  module _ (env outs : List ℕ) (names : ℕ) where
    -- what a node adds
    unfoldable pub read_step : ExprNode → ℕ → List ℕ → List ℕ
    read_step m p l = note_t env outs names (read_by m) l

    -- what the expression at an offset reads
    unfoldable pub free_vars_t : List Name → List ℕ → ℕ → ℕ → List ℕ
    free_vars_t ns s last at = walked ns s last read_step 1 at []

    -- what the equation at an offset reads
    unfoldable pub free_vars_at : List Name → List ℕ → ℕ → ℕ → List ℕ
    free_vars_at ns s last p = free_vars_t ns s last (right_side_in ns s p)
