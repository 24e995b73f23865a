-- The demand's own sentence for one region: what is found goes by the latest earlier active cycle.
use Prim.Native.Nat.{ℕ, zero, suc}
use mathlib.Core.Bool.{Bool, true, false, cond, not, ◌&&◌}
use mathlib.Core.Option.{some}
use mathlib.Core.Path.{◌≡◌, refl}
use Rattle.pack_rules.specs.Names.{Name}
use Rattle.machine_rules.specs.Resolved.{ResolvedStates}
use Rattle.run_rules.specs.Chart.{Guards, begins_anew, choose, find, keep}
use Rattle.run_rules.specs.Run.{previous}
use Rattle.run_rules.specs.StatedDirectly.{active_before, latest}
use Rattle.runs.proofs.Streams.{found_at, kept_at}

module _ (G : Guards) (i : Name) (h : Bool) (ss : ResolvedStates) (A : ℕ → Bool) where
  -- chosen in a cycle
  unfoldable pub chosen_at : ℕ → Name
  chosen_at u = choose (λ g. G g u) ss (found_at G i h ss A u)

  was-is : (t : ℕ) → (kept_at G i h ss A t).was_active ≡ active_before A t
  unfolding kept_at keep active_before
  was-is zero = refl
  was-is (suc t) = refl

  state-latest : (t : ℕ) → (kept_at G i h ss A t).state ≡ latest (previous A t) i chosen_at
  unfolding kept_at keep latest previous chosen_at found_at
  state-latest zero = refl
  state-latest (suc t) = go (A t) (state-latest t)
    where
      go : (b : Bool) → (kept_at G i h ss A t).state ≡ latest (previous A t) i chosen_at
          → cond b (chosen_at t) (kept_at G i h ss A t).state ≡ latest (cond b (some t) (previous A t)) i chosen_at
      go true r = refl
      go false r = r

  pub found-latest : (t : ℕ) → found_at G i h ss A t ≡ cond (not h && (A t && not (active_before A t))) i (latest (previous A t) i chosen_at)
  unfolding found_at find begins_anew
  found-latest t = rw (was-is t, state-latest t)
