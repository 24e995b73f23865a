-- The demand's own sentence on regions, for all regions of a machine.
use Rattle.std.specs.Prelude.{◌≡◌, Bool, true, false, cond, not, ◌&&◌, ℕ, zero, suc, ◌+◌, ◌<◌}
use Rattle.std.proofs.Math.Option.{Option, none, some}
use Rattle.pack_rules.specs.Names.{Name, eq_name}
use Rattle.machine_rules.specs.Resolved.{ResolvedMachine, ResolvedRegions, ResolvedStates, r_cons, r_nil, s_cons, s_nil}
use Rattle.machine_rules.specs.MadeNames.{state_var}
use Rattle.machine_rules.specs.Lower.{size_r, size_s}
use Rattle.run_rules.specs.Run.{Run, previous, v_enum}
use Rattle.run_rules.specs.Chart.{Guards, choose}

-- the top region is active in every cycle
abbrev pub always : ℕ → Bool
always t = true

-- a region in the state s is active where the region that holds s is, and is in s: it is active in the cycles A, and in the states f
unfoldable pub within : (ℕ → Bool) → (ℕ → Name) → Name → ℕ → Bool
within A f s t = A t && eq_name (f t) s

-- active a cycle ago
unfoldable pub active_before : (ℕ → Bool) → ℕ → Bool
active_before A zero = false
active_before A (suc t) = A t

-- what was chosen in the latest earlier active cycle, or the initial state if there is none
unfoldable pub latest : Option ℕ → Name → (ℕ → Name) → Name
latest none initial chosen = initial
latest (some u) initial chosen = chosen u

-- The state of a region that is active in the cycles A and has the states f: what was chosen when it was last active before the cycle, by the
-- first true guard of the state it had then. It is the initial one where there was no such cycle, and where a region without history becomes
-- active.
unfoldable pub demanded_state : Guards → (ℕ → Bool) → Name → Bool → ResolvedStates → (ℕ → Name) → ℕ → Name
demanded_state G A i h ss f t = cond (not h && (A t && not (active_before A t))) i (latest (previous A t) i (λ u. choose (λ g. G g u) ss (f u)))

-- In the run the region n, active in the cycles A, has the states f, and they are those of the sentence.
pub record Region {O : Type 0} (R : Run O) (N : ℕ) (G : Guards) (A : ℕ → Bool) (n : ℕ) (i : Name) (h : Bool) (ss : ResolvedStates) (f : ℕ → Name) : Type 0 where
  pub state : (t : ℕ) → t < N → R.at (state_var n) t ≡ some (v_enum (f t))
  pub words : (t : ℕ) → f t ≡ demanded_state G A i h ss f t

-- all regions, in preorder from the id n on
abbrev mutual
  pub StatedInStates : {O : Type 0} → Run O → ℕ → Guards → (ℕ → Bool) → (ℕ → Name) → ℕ → ResolvedStates → Type 0
  StatedInStates R N G A f n s_nil = Unit {0}
  StatedInStates R N G A f n (s_cons s es ts rs rest) = StatedInRegions R N G (within A f s) n rs × StatedInStates R N G A f (n + size_r rs) rest

  pub StatedInRegions : {O : Type 0} → Run O → ℕ → Guards → (ℕ → Bool) → ℕ → ResolvedRegions → Type 0
  StatedInRegions R N G A n r_nil = Unit {0}
  StatedInRegions R N G A n (r_cons i h ss rest) =
      ((f : ℕ → Name) × Region R N G A n i h ss f × StatedInStates R N G A f (suc n) ss) × StatedInRegions R N G A (suc n + size_s ss) rest

-- the regions of a machine, the top region first
pub record StatedDirectly {O : Type 0} (R : Run O) (N : ℕ) (G : Guards) (m : ResolvedMachine) : Type 0 where
  pub top : ℕ → Name
  pub region : Region R N G always 0 m.initial false m.states top
  pub nested : StatedInStates R N G always top 1 m.states
