-- Internal: nothing here has to be believed; laws tie it to what docs/TRUSTED.md lists.
-- How many locals and equations activations bring to nodes, as the code counts them: by the table of activations.
use Rattle.std.specs.Prelude.{ℕ, ◌+◌, List, cond, eqb}
use Rattle.machines.specs.CheckedReads.{number_in, with}
use Rattle.activations.specs.ActTable.{goal_t, made_t, spot_t}

-- the equations of the activation i: one for each local, and one for each output
unfoldable pub equation_count_t : List ℕ → List ℕ → ℕ → ℕ
equation_count_t s acts i =
    with (number_in s (spot_t acts i)) λ a p.
    with (number_in s p) λ o q.
    with (number_in s q) λ c r.
    made_t acts i + c

-- what it brings to the node k
unfoldable pub adds_locals_t : List ℕ → ℕ → ℕ → ℕ
adds_locals_t acts k i = cond (eqb (goal_t acts i) k) (made_t acts i) 0

unfoldable pub adds_equations_t : List ℕ → List ℕ → ℕ → ℕ → ℕ
adds_equations_t s acts k i = cond (eqb (goal_t acts i) k) (equation_count_t s acts i) 0
