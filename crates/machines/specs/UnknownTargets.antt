-- Internal: nothing here has to be believed; laws tie it to what docs/TRUSTED.md lists.
-- The first transition of a drawn region's states that leads to none of them: this is the same wherever the region is visited.
use Rattle.std.specs.Prelude.{ℕ, zero, suc, List, Bool, true, false, cond, ◌||◌, ◌≡◌, length, eqb}
use Rattle.pack_rules.specs.Names.{Name}
use Rattle.pack_rules.specs.Read.{expr_in}
use Rattle.machines.specs.declared.memo.Targets.{Targets}
use Rattle.machines.specs.declared.memo.Targets.TheVariants as aim
use Rattle.machines.specs.declared.memo.UnknownTarget.{UnknownTarget}
use Rattle.machines.specs.ResolvedIn.{end_of, over_in}
use Rattle.machines.specs.CheckedReads.{number_in, with}
use Rattle.machines.specs.LayoutAt.{moves_at}

-- how many states come before the first that strays, and the name to which it does; all and 0 where none does
abbrev pub unknown_targets : ℕ → ℕ → UnknownTarget
unknown_targets n x = record { fine = n; name = x }

-- the first state that strays is this one, or one of those after it
unfoldable pub unknown_at : Targets → UnknownTarget → UnknownTarget
unknown_at aim.All r = unknown_targets (suc r.fine) r.name
unknown_at (aim.Stray x) r = unknown_targets 0 x

module _ (ns : List Name) (s : List ℕ) where
  -- one of n states drawn from `at` on has the name of index x
  unfoldable pub drawn_state : ℕ → ℕ → ℕ → Bool
  drawn_state x zero at = false
  drawn_state x (suc n) at = eqb (number_in s at).value x || drawn_state x n (over_in ns s at)

  -- what k transitions from o on do: lead to names among the n states drawn from f on, or stray
  unfoldable pub target_d : ℕ → ℕ → ℕ → ℕ → Targets
  target_d n f zero o = aim.All
  target_d n f (suc k) o = with (number_in s (end_of (expr_in ns s o))) λ x r. cond (drawn_state x n f) (target_d n f k r) (aim.Stray x)

  -- the first of m states drawn from `at` on whose transitions stray
  unfoldable pub unknown_from : ℕ → ℕ → ℕ → ℕ → UnknownTarget
  unknown_from n f zero at = unknown_targets 0 0
  unknown_from n f (suc m) at = with (number_in s (moves_at ns s at)) λ k o. unknown_at (target_d n f k o) (unknown_from n f m (over_in ns s at))

  -- of the n states drawn from f on
  unfoldable pub unknown_target_d : ℕ → ℕ → UnknownTarget
  unknown_target_d n f = unknown_from n f n f

-- one of the n states drawn from f on has the name of index x, whatever the names are
unfoldable pub IsDrawn : List ℕ → ℕ → ℕ → ℕ → ℕ → Type 0
IsDrawn s names n f x = (ns : List Name) → length ns ≡ names → drawn_state ns s x n f ≡ true
