-- Laying out keeps the length of the letters, whatever it lays out.
use Prim.Native.Nat.{ℕ, zero, suc, ◌%◌}
use mathlib.Core.List.{List, ◌∷◌}
use mathlib.Core.Bool.{Bool, true, false, cond, ◌&&◌}
use mathlib.Core.Path.{◌≡◌, refl, ◌∙◌}
use lib.ListN.{length, get_or}
use lib.Seq.{length-sets, sets}
use lib.Dec.{eqb}
use Rattle.pack_rules.specs.Limits.{absent, max_level}
use Rattle.pack_rules.specs.Names.{Name}
use Rattle.machines.specs.declared.layout.RegionHead.{RegionHead}
use Rattle.machines.specs.declared.resolve.Resolved.{Resolved}
use Rattle.machines.specs.declared.resolve.Resolved.TheVariants as wk
use Rattle.machines.specs.CheckedReads.{number_in, with}
use Rattle.machines.specs.LayoutAt.{Board, board, close_region, close_state, fed, fits_at, inner, layout_machine, layout_region, layout_state, layout_t, machine_as, open_region, open_state, passed, qualified_at, qualifying, refine_b, region_b, region_from, tally, times}
use Rattle.machines.specs.VerdictAt.{board_at, lay_at, walk_at, walked_b}

abbrev room : Board → ℕ
room b = length b.qualified

times-kept : (r : Board → Board) → ((b : Board) → room (r b) ≡ room b) → (n : ℕ) (b : Board) → room (times r n b) ≡ room b
unfolding times
times-kept r h zero b = refl
times-kept r h (suc n) b = times-kept r h n (r b) ∙ h b

inner-kept : (r : Board → Board) → ((b : Board) → room (r b) ≡ room b) → (n k : ℕ) (b : Board) (f : ℕ → Board → Board) → ((j : ℕ) (d : Board) → room (f j d) ≡ room d) → room (inner r n k b f) ≡ room b
unfolding inner fed
inner-kept r h zero k b f g = g k b
inner-kept r h (suc n) k b f g = inner-kept r h n (tally k b.c.words (r b).c.words) (r b) f g ∙ h b

spelt_kept : (s offsets : List ℕ) (i : ℕ) (qualified : List ℕ) (a m at : ℕ) → length (qualified_at s offsets i qualified a m at) ≡ length qualified
unfolding qualified_at
spelt_kept s offsets i qualified a m at = go (fits_at (length qualified) a m at (length (qualifying s offsets i qualified a m)))
  where
    go : (y : Bool) → length (cond y (sets qualified at (length (qualifying s offsets i qualified a m) % 256 ∷ qualifying s offsets i qualified a m)) qualified) ≡ length qualified
    go true = length-sets qualified at (length (qualifying s offsets i qualified a m) % 256 ∷ qualifying s offsets i qualified a m)
    go false = refl

module _ (ns : List Name) (s offsets to : List ℕ) where
  module _ (rec : ℕ → ℕ → ℕ → ℕ → RegionHead → Board → Board) (h : (st up a m : ℕ) (o : RegionHead) (b : Board) → room (rec st up a m o b) ≡ room b) where
    refine-kept : (st up l n k : ℕ) (b : Board) → room (refine_b ns s offsets to rec st up l n k b) ≡ room b
    unfolding refine_b with fed close_state
    refine-kept st up l n k b = go (eqb x absent)
      where
        x : ℕ
        x = (number_in s b.c.next).value

        q : ℕ
        q = (number_in s b.c.next).next

        d : Board
        d = rec st up l n (machine_as s 0 (get_or to x 0)) b

        go : (y : Bool) → room (cond y (close_state st k q b) (close_state st (tally k b.c.words d.c.words) q d)) ≡ room b
        go true = refl
        go false = h st up l n (machine_as s 0 (get_or to x 0)) b

    state-kept : (up a m : ℕ) (b : Board) → room (layout_state ns s offsets to rec up a m b) ≡ room b
    unfolding layout_state open_state region_b
    state-kept up a m b =
        inner-kept (region_b ns s offsets to rec b.c.words up a m) (λ d. h b.c.words up a m (region_from s d.c.next) d) _ 0 (open_state ns s offsets a m b) _
        (λ k d. refine-kept b.c.words up _ _ k d) ∙ spelt_kept s offsets _ b.qualified a m b.c.letters

  region-kept : (l st up a m : ℕ) (o : RegionHead) (b : Board) → room (layout_region ns s offsets to l st up a m o b) ≡ room b
  unfolding layout_region passed close_region open_region
  region-kept zero st up a m o b = refl
  region-kept (suc l) st up a m o b = go (eqb o.states 0 && b.c.hole)
      (times-kept (layout_state ns s offsets to (layout_region ns s offsets to l) b.c.regions a m) (state-kept (layout_region ns s offsets to l) (region-kept l) b.c.regions a m) o.states (open_region st up a m o b))
    where
      laid : Board
      laid = times (layout_state ns s offsets to (layout_region ns s offsets to l) b.c.regions a m) o.states (open_region st up a m o b)

      go : (y : Bool) → room laid ≡ room b → room (cond y (passed o.next b) (close_region b.c.words laid)) ≡ room b
      go true e = refl
      go false e = e

  -- THE LAW: the letters after a machine was judged are as many as before
  pub letters-kept : (at : ℕ) (t reg qualified : List ℕ) → length (board_at ns s offsets to at t reg qualified).qualified ≡ length qualified
  unfolding board_at lay_at layout_machine walked_b
  letters-kept at t reg qualified = go (walk_at ns s offsets to at)
    where
      laid : Board
      laid = lay_at ns s offsets to at t reg qualified

      go : (w : Resolved) → room (walked_b ns s offsets to w laid (board t reg qualified (layout_t 0 0 0 0 false))) ≡ length qualified
      go (wk.Went q c a) = region-kept max_level 0 0 0 0 _ _
      go (wk.Cycle n) = refl
      go (wk.Unknown i m) = refl
      go wk.Large = refl
