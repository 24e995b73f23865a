-- Internal: nothing here has to be believed; laws tie it to what docs/TRUSTED.md lists.
-- A right side over samples of what it reads, node by node, as the code writes it.
use Rattle.std.specs.Prelude.{Option, Some, None, ℕ, ◌-◌, List, [], ◌∷◌, ◌++◌, Bool, false, cond, eqb}
use Rattle.wire.specs.Writer.{State}
use Rattle.pack_rules.specs.Names.{Name}
use Rattle.pack_rules.specs.Write.{Item, nm, raw}
use Rattle.pack.specs.Intern.{render}
use Rattle.machines.specs.Layout.{slice_of}
use Rattle.activations.specs.declared.expr_node.ExprNode.{ExprNode}
use Rattle.activations.specs.declared.expr_node.ExprNode.TheVariants as mt
use Rattle.activations.specs.Vars.{scope_at}
use Rattle.activations.specs.ExprNodes.{is_const}
use Rattle.activations.specs.Walks.{or_step, walked, write_step}
use Rattle.activations.specs.ByNumber.{onto_items}
use Rattle.activations.specs.RewriteLastAt.{copy_items, met_items, rewrite_last_t}
use Rattle.activations.specs.NameIdsAt.{id_items, last_id_t, no_number, sample_name_t, sample_t}

-- a number, `no_number` for none
unfoldable pub number_or : Option ℕ → ℕ
number_or None = no_number
number_or (Some y) = y

-- what was read, one number after the other: the last whose sample took its own place, y where none did; f is the sample's number
unfoldable pub renamed_from : (ℕ → ℕ) → List ℕ → ℕ → ℕ → ℕ
renamed_from f [] x y = y
renamed_from f (v ∷ vs) x y = cond (eqb v x) (renamed_from f vs (f x) x) (renamed_from f vs x y)

-- whether the expression at an offset has a constant
unfoldable pub has_const_t : List Name → List ℕ → ℕ → ℕ → Bool
has_const_t ns s last at = walked ns s last (or_step is_const) 1 at false

-- the pack's bytes, where each name stands in it; an activation's name, its scope k of n branches
module _ (s offsets : List ℕ) (a : Name) (n k : ℕ) where
  -- a node that stands at p, a constant on the scope's clock
  unfoldable pub sampled_constant_items : ExprNode → ℕ → List Item
  sampled_constant_items (mt.Last v i q) p = met_items s offsets a (mt.Last v i q) p
  sampled_constant_items (mt.Bad u q) p = met_items s offsets a (mt.Bad u q) p
  sampled_constant_items (mt.Const q) p = onto_items a n (scope_at n k) ++ copy_items s p q
  sampled_constant_items (mt.Var i q) p = met_items s offsets a (mt.Var i q) p
  sampled_constant_items (mt.Clocked c u q) p = met_items s offsets a (mt.Clocked c u q) p
  sampled_constant_items (mt.Other u q) p = met_items s offsets a (mt.Other u q) p
  sampled_constant_items mt.Nothing p = met_items s offsets a mt.Nothing p

-- the old names' bytes
module _ (old s offsets : List ℕ) (a : Name) (n k : ℕ) (ns : List Name) (last : ℕ) where
  -- all constants of the expression at an offset
  unfoldable pub sampled_constant_t : ℕ → State → State
  sampled_constant_t at z = walked ns s last (write_step old (sampled_constant_items s offsets a n k)) 1 at z

  -- the whole of it where it has none
  unfoldable pub sampled_value_t : ℕ → State → State
  sampled_value_t at z = cond (has_const_t ns s last at) (sampled_constant_t at z) (rewrite_last_t ns s last old offsets a at (render old (onto_items a n (scope_at n k)) z))

-- how many names there are, whether some are made; the numbers that are read
module _ (old s offsets : List ℕ) (names : ℕ) (made : Bool) (a : Name) (n k : ℕ) (ids : List ℕ) where
  -- the number whose sample stands for x, `no_number` where x stays
  unfoldable pub renamed_t : ℕ → ℕ
  renamed_t x = renamed_from (sample_t s offsets names a old made n k) ids x no_number

  -- what is written for x
  unfoldable pub chosen_items : ℕ → List Item
  chosen_items x = cond (eqb (renamed_t x) no_number) (id_items s offsets names a x) (nm (sample_name_t s offsets names a n k (renamed_t x)) ∷ [])

  -- a node with a clock, whose bytes are h
  unfoldable pub clocked_items : ℕ → List ℕ → List Item
  clocked_items c h = raw (slice_of h 0 1) ∷ (chosen_items c ++ (raw (slice_of h 3 1) ∷ []))

  -- a node that stands at p, its name renamed where it is no call of `last`
  unfoldable pub other_items : ExprNode → ℕ → List Item
  other_items (mt.Last v i q) p = copy_items s p q
  other_items (mt.Bad u q) p = copy_items s p q
  other_items (mt.Const q) p = copy_items s p q
  other_items (mt.Var i q) p = raw (1 ∷ []) ∷ chosen_items i
  other_items (mt.Clocked c u q) p = clocked_items c (slice_of s p (q - p))
  other_items (mt.Other u q) p = copy_items s p q
  other_items mt.Nothing p = copy_items s p 0

  -- the holders' rows
  module _ (lasts : List ℕ) (rows : ℕ) where
    -- a node that stands at p, its name renamed
    unfoldable pub rename_items : ExprNode → ℕ → List Item
    rename_items (mt.Last v i q) p = raw (1 ∷ []) ∷ chosen_items (last_id_t lasts rows v)
    rename_items (mt.Bad u q) p = other_items (mt.Bad u q) p
    rename_items (mt.Const q) p = other_items (mt.Const q) p
    rename_items (mt.Var i q) p = other_items (mt.Var i q) p
    rename_items (mt.Clocked c u q) p = other_items (mt.Clocked c u q) p
    rename_items (mt.Other u q) p = other_items (mt.Other u q) p
    rename_items mt.Nothing p = other_items mt.Nothing p

    -- the expression at an offset
    unfoldable pub rename_t : List Name → ℕ → ℕ → State → State
    rename_t ns last at z = walked ns s last (write_step old rename_items) 1 at z

-- the right side at an offset: over the samples of what it reads, or pinned
unfoldable pub over_t : List ℕ → List ℕ → List ℕ → ℕ → Bool → Name → ℕ → ℕ → List ℕ → List ℕ → ℕ → List Name → ℕ → ℕ → State → State
over_t old s offsets names made a n k [] lasts rows ns last at z = sampled_value_t old s offsets a n k ns last at z
over_t old s offsets names made a n k (v ∷ vs) lasts rows ns last at z = rename_t old s offsets names made a n k (v ∷ vs) lasts rows ns last at z
