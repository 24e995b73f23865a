-- Internal: nothing here has to be believed; laws tie it to what docs/TRUSTED.md lists.
-- The origins of activations as the code writes them, by the tables of nodes and activations.
use Rattle.std.specs.Prelude.{ℕ, zero, suc, ◌+◌, List, [], ◌∷◌, ◌++◌, get_or}
use Rattle.wire.specs.Bytes.{two}
use Rattle.pack_rules.specs.Names.{Name}
use Rattle.pack_rules.specs.Write.{Item, nm, raw}
use Rattle.machines.specs.AddedAt.{node_equations_in, total_t}
use Rattle.machines.specs.CheckedReads.{number_in, with}
use Rattle.activations.specs.declared.parts.Act.{Act}
use Rattle.activation_rules.specs.Checks.{else_name}
use Rattle.activations.specs.Places.{act_at, branch_end}
use Rattle.activations.specs.ActTable.{goal_t, spot_t}
use Rattle.activations.specs.CountsAt.{adds_equations_t, equation_count_t}

-- an origin's numbers: of its node's and its own name, of its first equation, and of its equations
unfoldable pub numbers_t : ℕ → ℕ → ℕ → ℕ → List Item
numbers_t o a f e = raw (two o) ∷ raw (1 ∷ []) ∷ raw (two a) ∷ raw (two f) ∷ raw (two (f + e)) ∷ []

module _ (ns : List Name) (s : List ℕ) where
  -- the names of n branches from p on
  unfoldable pub branches_t : ℕ → ℕ → List Item
  branches_t zero p = []
  branches_t (suc n) p = raw (two (number_in s p).value) ∷ branches_t n (branch_end ns s p)

  -- those of all scopes, after their count
  unfoldable pub scope_names_t : Act → List Item
  scope_names_t a = with (number_in s a.branches) λ n p. raw (two (n + 1)) ∷ (branches_t n p ++ (nm else_name ∷ []))

  -- how many equations the node of the activation i has before it
  unfoldable pub first_t : List ℕ → List ℕ → ℕ → ℕ
  first_t nodes acts i =
      (number_in s (node_equations_in ns s (get_or nodes (goal_t acts i) 0))).value + total_t (adds_equations_t s acts (goal_t acts i)) i 0

  -- its origin
  unfoldable pub origin_t : List ℕ → List ℕ → ℕ → List Item
  origin_t nodes acts i =
      with (number_in s (spot_t acts i)) λ a p.
      with (number_in s p) λ o q.
      numbers_t o a (first_t nodes acts i) (equation_count_t s acts i) ++ scope_names_t (act_at ns s (spot_t acts i))
