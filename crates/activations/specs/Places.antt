-- Internal: nothing here has to be believed; laws tie it to what docs/TRUSTED.md lists.
-- Where the parts of activations stand, as the code finds them: 0 where reading would stop.
use Rattle.std.specs.Prelude.{ℕ, zero, suc, List, Bool, false, ◌||◌}
use Rattle.pack_rules.specs.Names.{Name}
use Rattle.pack_rules.specs.Read.{equations_in, expr_in, names_in, ports_in}
use Rattle.machines.specs.ResolvedIn.{end_of}
use Rattle.machines.specs.CheckedReads.{number_in, with}
use Rattle.activations.specs.declared.parts.Act.{Act}

-- n things from p on, each up to the next
unfoldable pub along : (ℕ → ℕ) → ℕ → ℕ → ℕ
along next zero p = p
along next (suc n) p = along next n (next p)

-- whether f holds of one of n things from p on
unfoldable pub any_t : (ℕ → Bool) → (ℕ → ℕ) → ℕ → ℕ → Bool
any_t f next zero p = false
any_t f next (suc n) p = f p || any_t f next n (next p)

-- f at each of n things from p on, in order
unfoldable pub each_of : {S : Type 0} → (ℕ → S → S) → (ℕ → ℕ) → ℕ → ℕ → S → S
each_of f next zero p z = z
each_of f next (suc n) p z = each_of f next n (next p) (f p z)

-- the first left name of an equation, 0 where there is none
unfoldable pub first_left_in : List ℕ → ℕ → ℕ
first_left_in s at = with (number_in s at) λ c p. with (number_in s p) λ x q. x

module _ (ns : List Name) (s : List ℕ) where
  -- from an equation to its right side, and past it
  unfoldable pub right_side_in : ℕ → ℕ
  right_side_in at = end_of (names_in ns s at)

  unfoldable pub equation_end : ℕ → ℕ
  equation_end at = end_of (expr_in ns s (right_side_in at))

  -- from a branch to its equations, and past it
  unfoldable pub body_in : ℕ → ℕ
  body_in at = with (number_in s at) λ i p. end_of (expr_in ns s p)

  unfoldable pub branch_end : ℕ → ℕ
  branch_end at = end_of (equations_in ns s (body_in at))

  -- from the count of branches past all of them
  unfoldable pub branches_end : ℕ → ℕ
  branches_end at = with (number_in s at) λ n p. along branch_end n p

  -- an activation whose branches stand at b
  unfoldable pub act_of : ℕ → ℕ → ℕ → Act
  act_of name outputs b = record {
    name = name;
    outputs = outputs;
    branches = b;
    other = branches_end b;
    n = (number_in s b).value;
  }

  -- the activation at an offset
  unfoldable pub act_at : ℕ → Act
  act_at at = with (number_in s at) λ a p. with (number_in s p) λ o q. act_of a q (end_of (ports_in ns s q))

  -- past it
  unfoldable pub act_end : ℕ → ℕ
  act_end at = end_of (equations_in ns s (act_at at).other)
