-- All regions of a machine: their next states, and whether they are active, are what the chart keeps.
use Prim.Native.Nat.{ℕ, zero, suc, ◌+◌, ◌<◌}
use native.Mathlib.Omega.{arith}
use mathlib.Core.List.{List, [], ◌∷◌, ◌++◌}
use mathlib.Core.Bool.{Bool, true, false}
use mathlib.Core.Option.{some}
use mathlib.Core.Path.{◌≡◌, sym, ap, subst, ◌∙◌}
use lib.ListN.{length}
use Rattle.pack_rules.specs.Names.{Name}
use Rattle.pack_rules.specs.Syntax.{Expr}
use Rattle.machine_rules.specs.Resolved.{ResolvedRegions, ResolvedStates, r_cons, r_nil, s_cons, s_nil}
use Rattle.machine_rules.specs.Checks.{collect_region_names, collect_state_names}
use Rattle.machine_rules.specs.Lower.{active_in, equations_r, equations_s, names_of, region_equations, size_r, size_s}
use Rattle.machine_rules.specs.MadeNames.{active_var, next_var}
use Rattle.run_rules.specs.Chart.{Guards, RegionMemory, keep}
use Rattle.runs.specs.Claim.{ActiveIs}
use Rattle.run_rules.specs.Premises.{GuardsR, GuardsS}
use Rattle.run_rules.specs.Run.{Run, v_bool, v_enum}
use Rattle.run_rules.specs.StatedDirectly.{within}
use Rattle.runs.proofs.Accepting.{valid_r, valid_s}
use Rattle.runs.proofs.ChartStreams.{each-length, kepts_r, kepts_s, sized_r, sized_s}
use Rattle.runs.proofs.RegionRuns.{known}
use Rattle.runs.proofs.Streams.{found_at, kept_at}
use Rattle.runs.proofs.TreeRuns.{holds, holds-split, known-name, known-others, known-own, known-regions, known-rest, known-states, made_free, nested-tells, region-is, tells, valid_r-parts, valid_s-parts}

module _ {O : Type 0} (R : Run O) (N : ℕ) where
  abbrev pub KeepsAt : ℕ → (ℕ → RegionMemory) → Type 0
  KeepsAt n k = (t : ℕ) → t < N → (R.at (next_var n) t ≡ some (v_enum (k (suc t)).state)) × ActiveIs R t n (k (suc t)).was_active

  -- the regions from `n` on keep this
  abbrev pub kept_numbered : ℕ → List (ℕ → RegionMemory) → Type 0
  kept_numbered n [] = Unit {0}
  kept_numbered n (k ∷ ks) = KeepsAt n k × kept_numbered (suc n) ks

  pub kept-join : (n m : ℕ) (k l : List (ℕ → RegionMemory)) → n + length k ≡ m → kept_numbered n k → kept_numbered m l → kept_numbered n (k ++ l)
  kept-join n m [] l e p q = subst (λ x. kept_numbered x l) (omega (arith, e)) q
  kept-join n m (f ∷ k) l e p q = (p.0, kept-join (suc n) m k l (omega (arith, e)) p.1 q)

  active-is : (t n : ℕ) (b : Bool) → R.at (active_var n) t ≡ some (v_bool b) → ActiveIs R t n b
  active-is t zero b e = tt
  active-is t (suc n) b e = e

  keeps : (G : Guards) (n : ℕ) (i : Name) (h : Bool) (ss : ResolvedStates) (A : ℕ → Bool) → ((t : ℕ) → t < N → R.at (active_var n) t ≡ some (v_bool (A t)))
      → ((t : ℕ) → t < N → R.at (next_var n) t ≡ some (v_enum (kept_at G i h ss A (suc t)).state)) → KeepsAt n (kept_at G i h ss A)
  unfolding kept_at keep
  keeps G n i h ss A ha hn t lt = (hn t lt, active-is t n (A t) (ha t lt))

kept_s-length : (G : Guards) (A : ℕ → Bool) (f : ℕ → Name) (ss : ResolvedStates) → length (kepts_s G A f ss) ≡ size_s ss
kept_s-length G A f ss = sym (each-length 0 (kepts_s G A f ss)) ∙ sized_s G A f ss 0

kept_r-length : (G : Guards) (A : ℕ → Bool) (rs : ResolvedRegions) → length (kepts_r G A rs) ≡ size_r rs
kept_r-length G A rs = sym (each-length 0 (kepts_r G A rs)) ∙ sized_r G A rs 0

mutual
  unfolding equations_s kepts_s size_s

  pub keep_s : {O : Type 0} (R : Run O) (N : ℕ) (G : Guards) → made_free R → (ss : ResolvedStates) (ns : List Name) → known R (collect_state_names ss) → GuardsS R N G ss → valid_s ns ss ≡ true
      → (top : Bool) (p n : ℕ) (A : ℕ → Bool) (f : ℕ → Name) → ((s : Name) → R.enums s ≡ true → tells R N (active_in top p s) (within A f s))
      → holds R N (equations_s top p n ss) → kept_numbered R N n (kepts_s G A f ss)
  keep_s R N G mf s_nil ns kn gs va top p n A f hin hh = tt
  keep_s R N G mf (s_cons s es ts rs rest) ns kn gs va top p n A f hin hh =
      let w = valid_s-parts ns s es ts rs rest va in
      let h = holds-split R N (equations_r (active_in top p s) n rs) (equations_s top p (n + size_r rs) rest) hh in
      kept-join R N n (n + size_r rs) (kepts_r G (within A f s) rs) (kepts_s G A f rest) (ap (λ x. n + x) (kept_r-length G (within A f s) rs))
      (keep_r R N G mf rs (known-regions R s es ts rs rest kn) gs.1 w.1 (active_in top p s) n (within A f s) (hin s (known-name R s es ts rs rest kn)) h.0)
      (keep_s R N G mf rest ns (known-rest R s es ts rs rest kn) gs.2 w.2 top p (n + size_r rs) A f hin h.1)

  pub keep_r : {O : Type 0} (R : Run O) (N : ℕ) (G : Guards) → made_free R → (rs : ResolvedRegions) → known R (collect_region_names rs) → GuardsR R N G rs → valid_r rs ≡ true
      → (active : Expr) (n : ℕ) (A : ℕ → Bool) → tells R N active A
      → holds R N (equations_r active n rs) → kept_numbered R N n (kepts_r G A rs)
  keep_r R N G mf r_nil kn gs va active n A hin hh = tt
  keep_r R N G mf (r_cons i hi ss rest) kn gs va active n A hin hh =
      let w = valid_r-parts i hi ss rest va in
      let h = holds-split R N (region_equations n active i hi ss) (equations_s false n (suc n) ss ++ equations_r active (suc n + size_s ss) rest) hh in
      let g = holds-split R N (equations_s false n (suc n) ss) (equations_r active (suc n + size_s ss) rest) h.1 in
      let own = region-is R N G mf n active A i hi ss (known-own R ss (known-states R i hi ss rest kn)) gs.0 w.0 w.1 hin h.0 in
      let F = found_at G i hi ss A in (
        keeps R N G n i hi ss A own.0 own.2,
        kept-join R N (suc n) (suc n + size_s ss) (kepts_s G A F ss) (kepts_r G A rest) (rw (kept_s-length G A F ss))
            (keep_s R N G mf ss (names_of ss) (known-states R i hi ss rest kn) gs.0 w.1 false n (suc n) A F (nested-tells R N mf n A F own.0 own.1) g.0)
            (keep_r R N G mf rest (known-others R i hi ss rest kn) gs.1 w.2 active (suc n + size_s ss) A hin g.1),
      )
