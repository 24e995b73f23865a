-- Internal: nothing here has to be believed; laws tie it to what docs/TRUSTED.md lists.
-- The equations of scopes as the code writes them.
use Rattle.std.specs.Prelude.{ℕ, zero, suc, List, [], ◌∷◌, ◌++◌, Bool, cond}
use Rattle.wire.specs.Bytes.{two}
use Rattle.wire.specs.Writer.{State}
use Rattle.pack_rules.specs.Names.{Name}
use Rattle.pack_rules.specs.Write.{Item, nm, raw}
use Rattle.pack.specs.Intern.{render}
use Rattle.machines.specs.CheckedReads.{number_in, with}
use Rattle.machines.specs.Fingerprints.{among}
use Rattle.machines.specs.EmitAt.{pack_name}
use Rattle.activation_rules.specs.MadeNames.{value_var}
use Rattle.activations.specs.Vars.{scope_at}
use Rattle.activations.specs.ByNumber.{onto_items}
use Rattle.activations.specs.Places.{body_in, branch_end, equation_end, first_left_in, right_side_in}
use Rattle.activations.specs.NameIdsAt.{id_items, sample_name_t}
use Rattle.activations.specs.FreeVarsAt.{free_vars_at, join_t}
use Rattle.activations.specs.OverSamplesAt.{over_t}

-- a pack's bytes, where each name stands in it, how many there are; an activation's name, its scope k of n branches
module _ (s offsets : List ℕ) (names : ℕ) (a : Name) (n k : ℕ) where
  -- the equation of the sample of x
  unfoldable pub sample_items : ℕ → List Item
  sample_items x = raw (two 1) ∷ nm (sample_name_t s offsets names a n k x) ∷ (onto_items a n (scope_at n k) ++ (raw (1 ∷ []) ∷ id_items s offsets names a x))

  -- those of the numbers that the scope has not sampled yet
  unfoldable pub new_items : List ℕ → List ℕ → List Item
  new_items sampled [] = []
  new_items sampled (x ∷ xs) = cond (among x sampled) (new_items sampled xs) (sample_items x ++ new_items sampled xs)

  -- the left side of the equation at p
  unfoldable pub value_items : ℕ → List Item
  value_items p = raw (two 1) ∷ nm (value_var a (scope_at n k) (pack_name s offsets (first_left_in s p))) ∷ []

-- the old names' bytes, whether some are made, all names, the index of `last`; the holders' rows
module _ (old s offsets : List ℕ) (names : ℕ) (made : Bool) (ns : List Name) (last : ℕ) (lasts : List ℕ) (rows : ℕ) (a : Name) (n k : ℕ) where
  -- the equation at p in the scope k, where it reads these and those before are sampled
  unfoldable pub equation_t : List ℕ → List ℕ → ℕ → State → State
  equation_t ids sampled p z = over_t old s offsets names made a n k ids lasts rows ns last (right_side_in ns s p) (render old (value_items s offsets names a n k p) (render old (new_items s offsets names a n k sampled ids) z))

-- the types of variables and outputs
module _ (old s offsets : List ℕ) (names : ℕ) (made : Bool) (ns : List Name) (last : ℕ) (lasts : List ℕ) (rows : ℕ) (env outs : List ℕ) (a : Name) (n : ℕ) where
  -- c equations from p on
  unfoldable pub equations_t : ℕ → ℕ → ℕ → List ℕ → State → State
  equations_t k zero p sampled z = z
  equations_t k (suc c) p sampled z = equations_t k c (equation_end ns s p) (join_t (free_vars_at lasts rows env outs names ns s last p) sampled) (equation_t old s offsets names made ns last lasts rows a n k (free_vars_at lasts rows env outs names ns s last p) sampled p z)

  -- the scope k, whose count of equations stands at an offset
  unfoldable pub scope_t : ℕ → ℕ → State → State
  scope_t k at z = with (number_in s at) λ c p. equations_t k c p [] z

  -- c branches from p on, the first of them k
  unfoldable pub branches_t : ℕ → ℕ → ℕ → State → State
  branches_t k zero p z = z
  branches_t k (suc c) p z = branches_t (suc k) c (branch_end ns s p) (scope_t k (body_in ns s p) z)

  -- all scopes: those of the branches whose count stands at an offset, and the else scope
  unfoldable pub scopes_t : ℕ → ℕ → State → State
  scopes_t branches other z = scope_t n other (branches_t 0 n (number_in s branches).next z)
