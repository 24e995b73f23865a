-- Internal: nothing here has to be believed; laws tie it to what docs/TRUSTED.md lists.
-- Resolving on bytes: what the code does, structural on the levels left. No tree is made.
use Rattle.std.specs.Prelude.{ℕ, zero, suc, ◌+◌, List, cond, get_or, eqb, leb, ltb, max}
use Rattle.pack_rules.specs.Limits.{absent, max_level, max_name, max_states}
use Rattle.pack_rules.specs.Names.{Name}
use Rattle.pack_rules.specs.Read.{equations_in, expr_in}
use Rattle.machines.specs.declared.resolve.RefineStack.{RefineStack}
use Rattle.wire.specs.declared.answer.Number.{Number}
use Rattle.machines.specs.declared.resolve.Resolved.{Resolved}
use Rattle.machines.specs.declared.resolve.Resolved.TheVariants as wk
use Rattle.machines.specs.ResolvedIn.{end_of}
use Rattle.machines.specs.CheckedReads.{machine_from, num, number_in, region_in, turns, with}
use Rattle.machines.specs.Tables.{len_of}
use Rattle.machines.specs.RefineStack.{on_of, pushed_of, start_of}

-- what follows a walk that went through; one that stopped stays so
unfoldable pub go_on : Resolved → (ℕ → ℕ → ℕ → Resolved) → Resolved
go_on (wk.Went q c a) k = k q c a
go_on (wk.Cycle i) k = wk.Cycle i
go_on (wk.Unknown i m) k = wk.Unknown i m
go_on wk.Large k = wk.Large

-- n things from `at` on, after c states and with the longest name so far
unfoldable pub rounds : (ℕ → ℕ → Resolved) → ℕ → ℕ → ℕ → ℕ → Resolved
rounds r zero at c a = wk.Went at c a
rounds r (suc n) at c a = go_on (r at c) λ q d w. rounds r n q d (max a w)

-- a sub-machine's longest name, of w bytes, with a state's name of i bytes and `_` in front
unfoldable pub qualify_of : ℕ → ℕ → ℕ → ℕ → ℕ → Resolved
qualify_of i w a e d = cond (leb (i + 1 + w) max_name) (wk.Went e d (max a (i + 1 + w))) wk.Large

-- bytes, and where the names stand
module _ (s offsets : List ℕ) where
  -- the length of the name whose index stands at `at`
  unfoldable pub len_at : ℕ → ℕ
  len_at at = with (number_in s at) λ i q. len_of s offsets i

  -- where the machine m leads by which the state i is refined: offset and count of its states, its initial state's length
  unfoldable pub enter_w : List ℕ → RefineStack → ℕ → ℕ → Resolved
  enter_w to p i m =
      cond (on_of p m) (wk.Cycle m)
      (cond (eqb (get_or to m 0) 0) (wk.Unknown i m) (with (machine_from s (get_or to m 0)) λ k b. wk.Went b k (len_at (get_or to m 0))))

module _ (ns : List Name) (s offsets : List ℕ) where
  -- a transition: its target's length
  unfoldable pub target_t : ℕ → Number
  target_t at = with (number_in s (end_of (expr_in ns s at))) λ i q. num (len_of s offsets i) q

  -- a state's name, equations and transitions: the longest name
  unfoldable pub head_t : ℕ → Number
  head_t at =
      with (number_in s at) λ i p. with (number_in s (end_of (equations_in ns s p))) λ n r. turns target_t max n r (len_of s offsets i)

  -- and where the initial state of the machine of a name is
  module _ (to : List ℕ) where
    -- the inline region at `at`, after c states: its states, and its initial state's name with theirs
    unfoldable pub region_w : (RefineStack → ℕ → ℕ → ℕ → Resolved) → RefineStack → ℕ → ℕ → Resolved
    region_w rec p at c = with (region_in s at) λ k b. go_on (rec p k b c) λ q d w. wk.Went q d (max (len_at s offsets at) w)

    -- the refinement that stands at `at`, of the state i
    unfoldable pub refine_w : (RefineStack → ℕ → ℕ → ℕ → Resolved) → RefineStack → ℕ → ℕ → ℕ → ℕ → Resolved
    refine_w rec p i at c a =
        with (number_in s at) λ m e.
        cond (eqb m absent) (wk.Went e c a)
        (go_on (enter_w s offsets to p i m) λ b k f. go_on (rec (pushed_of p m) k b c) λ q d w. qualify_of (len_of s offsets i) (max f w) a e d)

    -- the state at `at`, after c states: its head, its inline regions, then its refinement; a 513th state is too many
    unfoldable pub state_w : (RefineStack → ℕ → ℕ → ℕ → Resolved) → RefineStack → ℕ → ℕ → Resolved
    state_w rec p at c =
        cond (ltb c max_states)
        (with (head_t at) λ a y.
        with (number_in s y) λ n q.
        go_on (rounds (region_w rec p) n q (c + 1) a) λ z d b.
        with (number_in s at) λ i x. refine_w rec p i z d b)
        wk.Large

    -- n states with so many levels left: with none they may not open
    unfoldable pub walk : ℕ → RefineStack → ℕ → ℕ → ℕ → Resolved
    walk zero p n at c = wk.Large
    walk (suc l) p n at c = rounds (state_w (walk l) p) n at c 0

    -- the machine of the name m, whose initial state stands at `at`
    unfoldable pub machine_w : ℕ → ℕ → Resolved
    machine_w m at = with (machine_from s at) λ k b. walk max_level (start_of m) k b 0
