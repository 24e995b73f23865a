-- Of a layout in which no region without states was met.
use Prim.Native.Nat.{ℕ, zero, suc, ◌+◌}
use native.Mathlib.Omega.{arith}
use mathlib.Core.List.{List}
use mathlib.Core.Bool.{Bool, false}
use mathlib.Core.Path.{◌≡◌, ◌∙◌}
use Rattle.pack_rules.specs.Names.{Name}
use Rattle.machine_rules.specs.Resolved.{ResolvedRegions, ResolvedStates}
use Rattle.machines.specs.Layout.{HeldR, HeldS, LaidR, LaidS, g_end, g_more, h_end, h_more, holed, l_end, l_more, r_end, r_left, r_more}
use Rattle.machine_rules.specs.Lower.{size_r, size_s}

holed-not : (g : Bool) (n : ℕ) → holed g n ≡ false → g ≡ false
unfolding holed
holed-not g zero e = let z : ◌≡◌ {A = ℕ} 0 1 = cc in absurd (omega arith)
holed-not g (suc n) e = e

module _ (ns : List Name) (s t reg qualified : List ℕ) where
  -- every region has its id
  mutual
    unfolding size_s size_r

    pub states-sized : {pre : Name} {up l n p i : ℕ} {g : Bool} {ss : ResolvedStates} {q j : ℕ} {h : Bool} → LaidS ns s t reg qualified pre up l n p i g ss q j h → h ≡ false → (g ≡ false) × (j ≡ i + size_s ss)
    states-sized (l_end a b c) e = (c ∙ e, omega arith)
    states-sized (l_more {g} row d tr f x y rs more) e =
        let a = states-sized more e in
        let b = regions-sized rs a.0 in
        let c = a.1 in
        let k = b.1 in
        (b.0, omega arith)

    pub regions-sized : {up st l k p i : ℕ} {g : Bool} {rs : ResolvedRegions} {q j : ℕ} {h : Bool} → LaidR ns s t reg qualified up st l k p i g rs q j h → h ≡ false → (g ≡ false) × (j ≡ i + size_r rs)
    regions-sized (r_end a b c) e = (c ∙ e, omega arith)
    regions-sized (r_more {n} {g} row at small flag x f ss more) e =
        let a = regions-sized more e in
        let b = states-sized ss a.0 in
        let c = a.1 in
        let k = b.1 in
        (holed-not g n b.0, omega arith)
    regions-sized (r_left more) e = let a = regions-sized more e in let x = a.0 in let z : ◌≡◌ {A = ℕ} 0 1 = cc in absurd (omega arith)

  -- and all are laid out
  mutual
    pub states-held : {pre : Name} {up l n p i : ℕ} {g : Bool} {ss : ResolvedStates} {q j : ℕ} {h : Bool} → LaidS ns s t reg qualified pre up l n p i g ss q j h → h ≡ false → HeldS ns s t reg qualified pre up l n p i ss q j
    states-held (l_end a b c) e = h_end a b
    states-held (l_more row d tr f x y rs more) e = h_more row d tr f x y (regions-held rs (states-sized more e).0) (states-held more e)

    pub regions-held : {up st l k p i : ℕ} {g : Bool} {rs : ResolvedRegions} {q j : ℕ} {h : Bool} → LaidR ns s t reg qualified up st l k p i g rs q j h → h ≡ false → HeldR ns s t reg qualified up st l k p i rs q j
    regions-held (r_end a b c) e = g_end a b
    regions-held (r_more row at small flag x f ss more) e = g_more row at small flag x f (states-held ss (regions-sized more e).0) (regions-held more e)
    regions-held (r_left more) e = let x = (regions-sized more e).0 in let z : ◌≡◌ {A = ℕ} 0 1 = cc in absurd (omega arith)
