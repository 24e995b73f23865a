-- A region laid out, or passed over, where its states are laid out.
use Prim.Native.Nat.{ℕ, zero, suc, ◌+◌, ◌<◌, ◌≤◌}
use native.Mathlib.Omega.{arith}
use mathlib.Core.List.{List, [], ◌++◌}
use mathlib.Core.Bool.{Bool, true, false, cond, ◌&&◌}
use mathlib.Core.Path.{◌≡◌, refl, sym, ap, subst, ◌∙◌}
use lib.ListN.{length, get_or}
use lib.Dec.{eqb}
use borrow.Author.Tests.{eq-eqb, ne_eqb}
use Rattle.pack_rules.specs.Names.{Name}
use Rattle.pack_rules.specs.Syntax.{Equation, Transition}
use Rattle.machine_rules.specs.Resolved.{ResolvedRegions, ResolvedStates, r_cons, s_cons, s_nil}
use Rattle.pack_rules.specs.Forms.{flag_of, name_at}
use Rattle.pack_rules.specs.Write.{enc}
use Rattle.machine_rules.specs.Checks.{collect_state_names}
use Rattle.machines.specs.Counts.{any_s, count_s, filled_s}
use Rattle.machines.specs.Layout.{LaidR, LaidS, holed, r_left, r_more as r_laid}
use Rattle.machines.specs.LayoutAt.{Board, close_region, layout_region, layout_state, moved_to, opening, open_region, passed, sum, tally, times}
use Rattle.machine_rules.specs.Resolve.{short_s}
use Rattle.machines.specs.ResolvedIn.{StandsS, s_end, s_more}
use Rattle.machines.proofs.Boards.{Agrees, Room, Step, Under, room-first, room-then, spare, step-none, step_then, under-agrees, under-then}
use Rattle.machines.proofs.RegionHeads.{agrees-close-region, open-region-is, opened_region, region-place, region-row, step-close-region, step-region}
use Rattle.machines.proofs.LetterLaws.{sum_is}

-- one region more
tally-same : (k w v : ℕ) → w ≡ v → tally k w v ≡ k
unfolding tally
tally-same k w v e = ap (λ (y : Bool). cond y k (sum k 1)) (eq-eqb w v e)

tally-more : (k w v : ℕ) → w < v → k < 4294967296 → tally k w v ≡ k + 1
unfolding tally
tally-more k w v h l = ap (λ (y : Bool). cond y k (sum k 1)) (ne_eqb w v (λ e. omega arith)) ∙ sum_is k 1 (omega arith)

-- a region is counted where it has states, and else it is the one that is spared
pays-states : (g : Bool) (n : ℕ) (x : Name) (es : List Equation) (ts : List Transition) (rs : ResolvedRegions) (rest : ResolvedStates) → 1 + spare (holed g (suc n)) ≤ any_s (s_cons x es ts rs rest) + spare g
unfolding holed any_s
pays-states g n x es ts rs rest = omega arith

pays-none : (g : Bool) → g ≡ false → 1 + spare (holed g zero) ≤ any_s s_nil + spare g
unfolding holed any_s spare
pays-none true e = let z : ◌≡◌ {A = ℕ} 0 1 = cc in absurd (omega arith)
pays-none false e = omega arith

module _ (ns : List Name) (s : List ℕ) where
  -- states laid out from b to d
  pub record DoneS (b d : Board) (p : Name) (up l n : ℕ) (ss : ResolvedStates) (q : ℕ) : Type 0 where
    pub next : d.c.next ≡ q
    pub step : Step b d (filled_s ss) (count_s ss) (enc (collect_state_names ss))
    pub laid : (t reg qualified : List ℕ) → Agrees b d t reg qualified → LaidS ns s t reg qualified p up l n b.c.words b.c.regions b.c.hole ss d.c.words d.c.regions d.c.hole

  -- one region, and others after it
  pub record DoneOne (b d : Board) (l st up : ℕ) (full : Name) (h : Bool) (ss : ResolvedStates) (q : ℕ) : Type 0 where
    pub next : d.c.next ≡ q
    pub step : Step b d (any_s ss + filled_s ss) (count_s ss) (enc (collect_state_names ss))
    pub new : ℕ
    pub first : b.c.hole ≡ false → new ≡ 1
    pub tallied : (k : ℕ) → k ≤ b.c.words → tally k b.c.words d.c.words ≡ k + new
    pub fewer : (k : ℕ) → k ≤ b.c.words → k + new ≤ d.c.words
    pub laid : (t reg qualified : List ℕ) → Agrees b d t reg qualified → (j e o : ℕ) (f : Bool) (rest : ResolvedRegions) → LaidR ns s t reg qualified up st (suc l) j d.c.words d.c.regions d.c.hole rest e o f
        → LaidR ns s t reg qualified up st (suc l) (new + j) b.c.words b.c.regions b.c.hole (r_cons full h ss rest) e o f

  module _ (offsets to : List ℕ) where
    -- states, wherever they are laid out
    abbrev pub LaysS : Name → ℕ → ℕ → ℕ → ResolvedStates → ℕ → Type 0
    LaysS p l n at ss q = (b : Board) (up a m : ℕ) → b.c.next ≡ at → Under b a m p → Room b (filled_s ss) (count_s ss) (enc (collect_state_names ss)) → short_s 0 ss ≡ true
        → DoneS b (times (layout_state ns s offsets to (layout_region ns s offsets to l) up a m) n b) p up l n ss q

    -- a region that is laid out
    module _ (l st up a m x y n at z : ℕ) (b : Board) (p full : Name) (h : Bool) (ss : ResolvedStates)
        (small : x < length ns) (flag : flag_of y ≡ h) (named : full ≡ p ++ name_at ns x) (u : Under b a m p)
        (ih : LaysS p l n at ss z) (room : Room b (any_s ss + filled_s ss) (count_s ss) (enc (collect_state_names ss))) (short : short_s 0 ss ≡ true) where
      closed_is : (eqb n 0 && b.c.hole) ≡ false → b.c.words + 9 ≤ 4294967296 → b.c.regions + 1 ≤ 4294967296
          → layout_region ns s offsets to (suc l) st up a m (opening x y n at) b
          ≡ close_region b.c.words (times (layout_state ns s offsets to (layout_region ns s offsets to l) b.c.regions a m) n (opened_region st up a m (opening x y n at) b))
      unfolding layout_region
      closed_is e i j =
          ap (λ (w : Bool). cond w (passed at b) (close_region b.c.words (times (layout_state ns s offsets to (layout_region ns s offsets to l) b.c.regions a m) n (open_region st up a m (opening x y n at) b)))) e
          ∙ ap (λ (w : Board). close_region b.c.words (times (layout_state ns s offsets to (layout_region ns s offsets to l) b.c.regions a m) n w)) (open-region-is st up a m (opening x y n at) b i j)

      region-laid : (eqb n 0 && b.c.hole) ≡ false → 1 + spare (holed b.c.hole n) ≤ any_s ss + spare b.c.hole
          → DoneOne b (layout_region ns s offsets to (suc l) st up a m (opening x y n at) b) l st up full h ss z
      unfolding close_region
      region-laid e pays =
          let w = room.words in
          let r = room.regions in
          let tm = room.t-small in
          let rm = room.reg-small in
          let o : Board = opened_region st up a m (opening x y n at) b in
          let none : enc (collect_state_names ss) ≡ [] ++ enc (collect_state_names ss) = refl in
          let first : Room b (any_s ss) 0 [] = room-first (enc (collect_state_names ss)) room (omega arith) (omega arith) none in
          let so : Step b o (any_s ss) 0 [] = step-region st up a m x y n at (any_s ss) b first pays in
          let g = ih o b.c.regions a m refl (under-then u so) (room-then room so refl (omega arith) none) short in
          let d : Board = times (layout_state ns s offsets to (layout_region ns s offsets to l) b.c.regions a m) n o in
          let sd : Step b d (any_s ss + filled_s ss) (count_s ss) (enc (collect_state_names ss)) = step_then so g.step refl (omega arith) none in
          let sc : Step b (close_region b.c.words d) (any_s ss + filled_s ss) (count_s ss) (enc (collect_state_names ss)) = step-close-region sd in
          let gw = g.step.words in
          let full-words = sd.words-full in
          subst (λ (k : Board). DoneOne b k l st up full h ss z) (sym (closed_is e (omega arith) (omega arith)))
          (record {
            next = g.next;
            step = sc;
            new = 1;
            first = λ i. refl;
            tallied = λ k i. tally-more k b.c.words d.c.words (omega arith) (omega arith);
            fewer = λ k i. omega arith;
            laid = λ t reg qualified agr j e f q rest more.
                let suc-is : suc j ≡ 1 + j = omega arith in
                subst (λ (c : ℕ). LaidR ns s t reg qualified up st (suc l) c b.c.words b.c.regions b.c.hole (r_cons full h ss rest) e f q) suc-is
                (r_laid (region-row st up a m x y n at (any_s ss) b first pays g.step t reg qualified agr)
                (region-place st up a m x y n at (any_s ss) b first pays g.step t reg qualified agr)
                small flag
                (under-agrees (under-then u sc) agr)
                named
                (g.laid t reg qualified (agrees-close-region b o d t reg qualified (omega arith) (omega arith) agr))
                more);
          })

    -- a region without states after such a one
    region-left : (l st up a m x y at z : ℕ) (b : Board) (full : Name) (h : Bool) → b.c.hole ≡ true → at ≡ z → DoneOne b (layout_region ns s offsets to (suc l) st up a m (opening x y zero at) b) l st up full h s_nil z
    unfolding layout_region passed moved_to any_s filled_s count_s collect_state_names enc
    region-left l st up a m x y at z b full h e f =
        let sn = step-none b in
        subst (λ (w : Bool).
        DoneOne b
        (cond w (passed at b) (close_region b.c.words (times (layout_state ns s offsets to (layout_region ns s offsets to l) b.c.regions a m) zero (open_region st up a m (opening x y zero at) b))))
        l st up full h s_nil z) (sym e)
        (record {
          next = f;
          step = record {
            words = sn.words;
            regions = sn.regions;
            t-long = refl;
            reg-long = refl;
            lets-long = refl;
            t-kept = λ i k. refl;
            reg-kept = λ i k. refl;
            lets-kept = refl;
            words-full = omega arith;
            regions-full = omega arith;
            letters-full = sn.letters-full;
            says = sn.says;
          };
          new = 0;
          first = λ i. let c : true ≡ false = sym e ∙ i in let k : ◌≡◌ {A = ℕ} 0 1 = cc in absurd (omega arith);
          tallied = λ k i. tally-same k b.c.words b.c.words refl ∙ omega arith;
          fewer = λ k i. omega arith;
          laid = λ t reg qualified agr j d o q rest more.
              let zero_is : j ≡ 0 + j = omega arith in
              subst (λ (c : ℕ). LaidR ns s t reg qualified up st (suc l) c b.c.words b.c.regions b.c.hole (r_cons full h s_nil rest) d o q) zero_is
              (subst (λ (w : Bool). LaidR ns s t reg qualified up st (suc l) j b.c.words b.c.regions w (r_cons full h s_nil rest) d o q) (sym e)
              (r_left (subst (λ (w : Bool). LaidR ns s t reg qualified up st (suc l) j b.c.words b.c.regions w rest d o q) e more)));
        })

    -- any region
    pub one-region : {p : Name} {l n at : ℕ} {ss : ResolvedStates} {z : ℕ} → StandsS ns s (λ j. get_or to j 0) p l n at ss z → (st up a m x y : ℕ) (b : Board) (full : Name) (h : Bool) → x < length ns → flag_of y ≡ h
        → full ≡ p ++ name_at ns x → Under b a m p → LaysS p l n at ss z → Room b (any_s ss + filled_s ss) (count_s ss) (enc (collect_state_names ss)) → short_s 0 ss ≡ true
        → DoneOne b (layout_region ns s offsets to (suc l) st up a m (opening x y n at) b) l st up full h ss z
    one-region {p} {l} (s_end {at} {q = z} e) st up a m x y b full h small flag named u ih room short = go b.c.hole refl
      where
        go : (w : Bool) → b.c.hole ≡ w → DoneOne b (layout_region ns s offsets to (suc l) st up a m (opening x y zero at) b) l st up full h s_nil z
        go true g = region-left l st up a m x y at z b full h g e
        go false g = region-laid l st up a m x y zero at z b p full h s_nil small flag named u ih room short g (pays-none b.c.hole g)
    one-region {p} {l} (s_more {n} {at} {q = z} h' i j o rs' more) st up a m x y b full h small flag named u ih room short =
        region-laid l st up a m x y (suc n) at z b p full h _ small flag named u ih room short (ap (λ w. w && b.c.hole) (ne_eqb (suc n) 0 (λ e. omega arith)))
        (pays-states b.c.hole n _ _ _ _ _)
