-- What the chart finds is what the demand's own sentence says, for all regions of a machine.
use Prim.Native.Nat.{ℕ, suc, ◌+◌, ◌<◌}
use native.Mathlib.Omega.{arith}
use mathlib.Core.List.{◌∷◌}
use mathlib.Core.Bool.{Bool, false}
use mathlib.Core.Option.{some}
use mathlib.Core.Path.{◌≡◌, ap}
use Rattle.pack_rules.specs.Names.{Name}
use Rattle.machine_rules.specs.Resolved.{ResolvedMachine, ResolvedRegions, ResolvedStates, r_cons, r_nil, s_cons, s_nil}
use Rattle.machine_rules.specs.Lower.{size_r, size_s}
use Rattle.machine_rules.specs.MadeNames.{state_var}
use Rattle.run_rules.specs.Chart.{Guards}
use Rattle.run_rules.specs.Run.{Run, v_enum}
use Rattle.run_rules.specs.StatedDirectly.{Region, StatedDirectly, always, demanded_state, StatedInRegions, StatedInStates, within}
use Rattle.runs.proofs.Latest.{chosen_at, found-latest}
use Rattle.runs.proofs.OutputRuns.{numbered-first, numbered-second}
use Rattle.runs.proofs.Streams.{chart, chart_r, chart_s, found_at, top_found}
use Rattle.runs.proofs.TreeRuns.{length_r, length_s, numbered}

one : {O : Type 0} (R : Run O) (N : ℕ) (G : Guards) (A : ℕ → Bool) (n : ℕ) (i : Name) (h : Bool) (ss : ResolvedStates) → ((t : ℕ) → t < N → R.at (state_var n) t ≡ some (v_enum (found_at G i h ss A t))) → Region R N G A n i h ss (found_at G i h ss A)
unfolding chosen_at demanded_state
one R N G A n i h ss p = record { state = p; words = found-latest G i h ss A }

mutual
  unfolding chart_s size_s

  all-states : {O : Type 0} (R : Run O) (N : ℕ) (G : Guards) (A : ℕ → Bool) (f : ℕ → Name) (n : ℕ) (ss : ResolvedStates) → numbered R N n (chart_s G A f ss) → StatedInStates R N G A f n ss
  all-states R N G A f n s_nil p = tt
  all-states R N G A f n (s_cons s es ts rs rest) p = (
    all-regions R N G (within A f s) n rs (numbered-first R N n (chart_r G (within A f s) rs) (chart_s G A f rest) p),
    all-states R N G A f (n + size_r rs) rest
        (numbered-second R N n (n + size_r rs) (chart_r G (within A f s) rs) (chart_s G A f rest) (ap (λ (x : ℕ). n + x) (length_r G (within A f s) rs)) p),
  )

  all-regions : {O : Type 0} (R : Run O) (N : ℕ) (G : Guards) (A : ℕ → Bool) (n : ℕ) (rs : ResolvedRegions) → numbered R N n (chart_r G A rs) → StatedInRegions R N G A n rs
  all-regions R N G A n r_nil p = tt
  all-regions R N G A n (r_cons i h ss rest) p =
      let f = found_at G i h ss A in
      let q = numbered-first R N n (f ∷ chart_s G A f ss) (chart_r G A rest) p in (
        (f, one R N G A n i h ss q.0, all-states R N G A f (suc n) ss q.1),
        all-regions R N G A (suc n + size_s ss) rest
            (numbered-second R N n (suc n + size_s ss) (f ∷ chart_s G A f ss) (chart_r G A rest) (rw (length_s G A f ss) (omega arith)) p),
      )

pub in_words : {O : Type 0} (R : Run O) (N : ℕ) (G : Guards) (m : ResolvedMachine) → numbered R N 0 (chart G m) → StatedDirectly R N G m
unfolding chart top_found
in_words R N G m p = record {
  top = top_found G m;
  region = one R N G always 0 m.initial false m.states p.0;
  nested = all-states R N G always (top_found G m) 1 m.states p.1;
}
