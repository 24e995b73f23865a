-- The plain chart region by region, as streams: what is kept before each cycle, and found in it.
use Prim.Native.Nat.{ℕ, zero, suc}
use mathlib.Core.List.{List, [], ◌∷◌, ◌++◌}
use mathlib.Core.Bool.{Bool, false, cond}
use mathlib.Core.Option.{Option, none}
use Rattle.pack_rules.specs.Names.{Name, eq_name}
use Rattle.pack_rules.specs.Syntax.{Expr}
use Rattle.machine_rules.specs.Resolved.{ResolvedMachine, ResolvedRegions, ResolvedStates, r_cons, r_nil, s_cons, s_nil}
use Rattle.machine_rules.specs.Lower.{all_states_cover, own_value}
use Rattle.run_rules.specs.Chart.{Guards, RegionMemory, find, keep}
use Rattle.run_rules.specs.StatedDirectly.{always, within}

-- a region with this initial state, history and states, active in the cycles A
unfoldable pub kept_at : Guards → Name → Bool → ResolvedStates → (ℕ → Bool) → ℕ → RegionMemory
kept_at G i h ss A zero = record { state = i; was_active = false }
kept_at G i h ss A (suc t) =
    let k : RegionMemory = kept_at G i h ss A t in
    keep ss (λ g. G g t) (A t) (find i h (A t) k) k

unfoldable pub found_at : Guards → Name → Bool → ResolvedStates → (ℕ → Bool) → ℕ → Name
found_at G i h ss A t = find i h (A t) (kept_at G i h ss A t)

-- the regions in preorder, each with the states found
unfoldable mutual
  pub chart_s : Guards → (ℕ → Bool) → (ℕ → Name) → ResolvedStates → List (ℕ → Name)
  chart_s G A f s_nil = []
  chart_s G A f (s_cons s es ts rs rest) = chart_r G (within A f s) rs ++ chart_s G A f rest

  pub chart_r : Guards → (ℕ → Bool) → ResolvedRegions → List (ℕ → Name)
  chart_r G A r_nil = []
  chart_r G A (r_cons i h ss rest) =
      (found_at G i h ss A ∷ chart_s G A (found_at G i h ss A) ss) ++ chart_r G A rest

unfoldable pub top_found : Guards → ResolvedMachine → ℕ → Name
top_found G m = found_at G m.initial false m.states always

unfoldable pub chart : Guards → ResolvedMachine → List (ℕ → Name)
chart G m = top_found G m ∷ chart_s G always (top_found G m) m.states

-- the right side that is picked for the output `o` in a cycle
unfoldable mutual
  pub pick_s : Guards → Name → (ℕ → Bool) → (ℕ → Name) → ℕ → ResolvedStates → Option Expr
  pick_s G o A f t s_nil = none
  pick_s G o A f t (s_cons s es ts rs rest) =
      cond (eq_name (f t) s) (pick_r G o (within A f s) t (own_value o es) rs) (pick_s G o A f t rest)

  pub pick_r : Guards → Name → (ℕ → Bool) → ℕ → Option Expr → ResolvedRegions → Option Expr
  pick_r G o A t own r_nil = own
  pick_r G o A t own (r_cons i h ss rest) =
      cond (all_states_cover o ss) (pick_s G o A (found_at G i h ss A) t ss) (pick_r G o A t own rest)

unfoldable pub picked : Guards → ResolvedMachine → Name → ℕ → Option Expr
picked G m o t = pick_s G o always (top_found G m) t m.states
