-- Where every region has states, laying out meets no hole.
use Prim.Native.Nat.{ℕ}
use mathlib.Core.List.{List}
use mathlib.Core.Bool.{Bool}
use mathlib.Core.Path.{◌≡◌, refl, sym, ◌∙◌}
use Rattle.pack_rules.specs.Names.{Name}
use Rattle.machine_rules.specs.Resolved.{ResolvedRegions, ResolvedStates, r_cons, r_nil, s_cons, s_nil}
use Rattle.machines.specs.Layout.{LaidR, LaidS, holed, l_end, l_more, r_end, r_left, r_more}
use Rattle.machines.specs.ValueAt.{Peopled, WholeR, WholeS}

module _ (ns : List Name) (s t reg qualified : List ℕ) where
  -- a region with states
  peopled-laid : {pre : Name} {up l n p i q j : ℕ} {g h : Bool} (b : Bool) (ss : ResolvedStates) → LaidS ns s t reg qualified pre up l n p i g ss q j h → Peopled ss → holed b n ≡ b
  unfolding Peopled holed
  peopled-laid b s_nil (l_end u v w) e = absurd e
  peopled-laid b (s_cons full es ts rs rest) (l_more row d to f sl ms rg st) e = refl

  mutual
    unfolding WholeS WholeR Peopled

    pub states-whole : {pre : Name} {up l n p i q j : ℕ} {g h : Bool} (ss : ResolvedStates) → LaidS ns s t reg qualified pre up l n p i g ss q j h → WholeS ss → h ≡ g
    states-whole s_nil (l_end a b c) w = sym c
    states-whole (s_cons full es ts rs rest) (l_more row d to f sl ms rg st) w = states-whole rest st w.1 ∙ regions-whole rs rg w.0

    pub regions-whole : {up st l k p i q j : ℕ} {g h : Bool} (rs : ResolvedRegions) → LaidR ns s t reg qualified up st l k p i g rs q j h → WholeR rs → h ≡ g
    regions-whole r_nil (r_end a b c) w = sym c
    regions-whole (r_cons full b ss rest) (r_more row rg lt fl pr fu st more) w = regions-whole rest more w.2 ∙ (states-whole ss st w.1 ∙ peopled-laid _ ss st w.0)
    regions-whole (r_cons full b s_nil rest) (r_left more) w = absurd w.0
