-- Laws for the code that lays a machine out, step by step.
use Prim.Native.Nat.{ℕ, zero, suc, ◌+◌, ◌-◌, ◌<◌, ◌≤◌}
use native.Mathlib.Omega.{arith}
use mathlib.Core.List.{List}
use mathlib.Core.Bool.{Bool, true, false, ◌&&◌}
use mathlib.Core.Path.{◌≡◌, refl, sym, ap, ◌∙◌}
use lib.ListN.{get_or, set}
use lib.Dec.{eqb}
use borrow.Author.Tests.{eq-eqb, ne_eqb}
use Rattle.pack_rules.specs.Names.{Name}
use Rattle.machines.specs.declared.layout.Entered.{Entered}
use Rattle.machines.specs.declared.layout.LayoutPos.{LayoutPos}
use Rattle.machines.specs.declared.layout.RegionHead.{RegionHead}
use Rattle.wire.specs.declared.answer.Number.{Number}
use Rattle.machines.specs.Layout.{holed}
use Rattle.machines.specs.CheckedReads.{byte_in, number_in}
use Rattle.machines.specs.LayoutAt.{Board, board, close_region, close_state, entered, entered_of, fed, inner, layout_machine, layout_region, layout_state, layout_t, letters_of, machine_as, moved_to, moves_at, name_number, open_region, open_state, opening, passed, qualified_at, qualified_len, refine_b, region_b, region_from, region_words, regions_at, state_ends, state_words, sum, tally, times}
use Rattle.machines.proofs.CheckedReadLaws.{chosen, left_out, no, on, yes}

-- counts

pub tally-same : (k w v : ℕ) → w ≡ v → k ≡ tally k w v
unfolding tally
tally-same k w v e = rw (eq-eqb w v e)

pub tally-more : (k w v r : ℕ) → (w ≡ v → ⊥) → r ≡ sum k 1 → r ≡ tally k w v
unfolding tally
tally-more k w v r n e = rw (ne_eqb w v n) e

-- words
pub state-ends : (t u v : List ℕ) (p q k : ℕ) → u ≡ set t (p + 4) q → v ≡ set u (p + 5) k → v ≡ state_ends t p q k
unfolding state_ends
state-ends t u v p q k e f = f ∙ ap (λ (l : List ℕ). set l (p + 5) k) e

pub state-words : (t t1 t2 t3 t4 : List ℕ) (p at tr a n : ℕ) → t1 ≡ set t p at → t2 ≡ set t1 (p + 1) tr → t3 ≡ set t2 (p + 2) a → t4 ≡ set t3 (p + 3) n → t4 ≡ state_words t p at tr a n
unfolding state_words
state-words t t1 t2 t3 t4 p at tr a n e1 e2 e3 e4 =
    e4 ∙ ap (λ (l : List ℕ). set l (p + 3) n) (e3 ∙ ap (λ (l : List ℕ). set l (p + 2) a) (e2 ∙ ap (λ (l : List ℕ). set l (p + 1) tr) e1))

pub region-words : (t t1 t2 t3 t4 t5 t6 t7 t8 : List ℕ) (p : ℕ) (h : RegionHead) (a m id st up : ℕ)
    → t1 ≡ set t p h.initial → t2 ≡ set t1 (p + 1) h.history → t3 ≡ set t2 (p + 2) a → t4 ≡ set t3 (p + 3) m
    → t5 ≡ set t4 (p + 5) id → t6 ≡ set t5 (p + 6) h.states → t7 ≡ set t6 (p + 7) st → t8 ≡ set t7 (p + 8) up → t8 ≡ region_words t p h a m id st up
unfolding region_words
region-words t t1 t2 t3 t4 t5 t6 t7 t8 p h a m id st up e1 e2 e3 e4 e5 e6 e7 e8 =
    e8
    ∙ ap (λ (l : List ℕ). set l (p + 8) up)
    (e7
    ∙ ap (λ (l : List ℕ). set l (p + 7) st)
    (e6
    ∙ ap (λ (l : List ℕ). set l (p + 6) h.states)
    (e5
    ∙ ap (λ (l : List ℕ). set l (p + 5) id)
    (e4 ∙ ap (λ (l : List ℕ). set l (p + 3) m) (e3 ∙ ap (λ (l : List ℕ). set l (p + 2) a) (e2 ∙ ap (λ (l : List ℕ). set l (p + 1) h.history) e1))))))

-- openings
pub region-from : (s : List ℕ) (at : ℕ) (x y n : Number) → x ≡ number_in s at → y ≡ byte_in s x.next → n ≡ number_in s y.next → opening x.value y.value n.value n.next ≡ region_from s at
unfolding region_from
region-from s at x y n e f g = on x _ _ _ e (on y _ _ _ f (on n _ _ _ g refl))

pub machine-as : (s : List ℕ) (h at : ℕ) (x n : Number) → x ≡ number_in s at → n ≡ number_in s x.next → opening x.value h n.value n.next ≡ machine_as s h at
unfolding machine_as
machine-as s h at x n e g = on x _ _ _ e (on n _ _ _ g refl)

-- the board's ends
pub close-state : (t u reg qualified : List ℕ) (p k q : ℕ) (c r : LayoutPos) → u ≡ state_ends t p c.words k → r ≡ moved_to q c → board u reg qualified r ≡ close_state p k q (board t reg qualified c)
unfolding close_state
close-state t u reg qualified p k q c r e f = λ i. board (e i) reg qualified (f i)

pub open-region : (t u reg v qualified : List ℕ) (st up a m : ℕ) (h : RegionHead) (c : LayoutPos) (w i : ℕ) (g : Bool)
    → u ≡ region_words t c.words h a m c.regions st up → v ≡ set reg c.regions c.words → w ≡ sum c.words 9 → i ≡ sum c.regions 1 → g ≡ holed c.hole h.states
    → board u v qualified (layout_t h.next w i c.letters g) ≡ open_region st up a m h (board t reg qualified c)
unfolding open_region
open-region t u reg v qualified st up a m h c w i g e f x y z = λ j. board (e j) (f j) qualified (layout_t h.next (x j) (y j) c.letters (z j))

module _ (ns : List Name) (s offsets : List ℕ) where
  pub open-state : (t u reg qualified v : List ℕ) (a m : ℕ) (c : LayoutPos) (i n : Number) (w l p x y : ℕ)
      → i ≡ number_in s c.next → w ≡ qualified_len s offsets i.value qualified a m c.letters → v ≡ qualified_at s offsets i.value qualified a m c.letters
      → l ≡ sum c.letters 1 → p ≡ moves_at ns s c.next → u ≡ state_words t c.words c.next p l w
      → n ≡ regions_at ns s c.next → x ≡ sum c.words 6 → y ≡ sum l w
      → (entered n.next x y n.value l w ≡ entered_of ns s offsets a m (board t reg qualified c))
      × (board u reg v (layout_t n.next x c.regions y c.hole) ≡ open_state ns s offsets a m (board t reg qualified c))
  unfolding entered_of open_state name_number letters_of
  open-state t u reg qualified v a m c i n w l p x y ei ew ev el moves eu regions ex ey =
      (λ j. entered (regions j).next (ex j) (size j) (regions j).value (el j) (letters j), λ j. board (words j) reg (name j) (layout_t (regions j).next (ex j) c.regions (size j) c.hole))
    where
      letters : w ≡ qualified_len s offsets (number_in s c.next).value qualified a m c.letters
      letters = ew ∙ ap (λ (z : Number). qualified_len s offsets z.value qualified a m c.letters) ei

      name : v ≡ qualified_at s offsets (number_in s c.next).value qualified a m c.letters
      name = ev ∙ ap (λ (z : Number). qualified_at s offsets z.value qualified a m c.letters) ei

      size : y ≡ sum (sum c.letters 1) (qualified_len s offsets (number_in s c.next).value qualified a m c.letters)
      size = ey ∙ (λ j. sum (el j) (letters j))

      words : u ≡ state_words t c.words c.next (moves_at ns s c.next) (sum c.letters 1) (qualified_len s offsets (number_in s c.next).value qualified a m c.letters)
      words = eu ∙ (λ j. state_words t c.words c.next (moves j) (el j) (letters j))

-- loops: one more, and the end
pub times-went : (r : Board → Board) (n : ℕ) (b d z : Board) → 0 < n → d ≡ r b → times r n b ≡ z → times r (n - 1) d ≡ z
unfolding times
times-went r zero b d z l e f = absurd (omega arith)
times-went r (suc n) b d z l e f = let i : suc n - 1 ≡ n = omega arith in ap (λ (k : ℕ). times r k d) i ∙ ap (times r n) e ∙ f

pub times-done : (r : Board → Board) (n : ℕ) (b z : Board) → n ≤ 0 → times r n b ≡ z → b ≡ z
unfolding times
times-done r zero b z l f = f
times-done r (suc n) b z l f = absurd (omega arith)

pub inner-went : (r : Board → Board) (n k j : ℕ) (b d z : Board) (f : ℕ → Board → Board) → 0 < n → d ≡ r b → j ≡ tally k b.c.words d.c.words → inner r n k b f ≡ z → inner r (n - 1) j d f ≡ z
unfolding inner fed
inner-went r zero k j b d z f l e g h = absurd (omega arith)
inner-went r (suc n) k j b d z f l e g h =
    let i : suc n - 1 ≡ n = omega arith in
    ap (λ (x : ℕ). inner r x j d f) i
    ∙ ap (λ (x : ℕ). inner r n x d f) g
    ∙ ap (λ (y : Board). inner r n (tally k b.c.words y.c.words) y f) e
    ∙ h

pub inner-done : (r : Board → Board) (n k : ℕ) (b z : Board) (f : ℕ → Board → Board) → n ≤ 0 → inner r n k b f ≡ z → f k b ≡ z
unfolding inner
inner-done r zero k b z f l h = h
inner-done r (suc n) k b z f l h = absurd (omega arith)

pub close-region : (t u reg qualified : List ℕ) (p : ℕ) (c : LayoutPos) → u ≡ set t (p + 4) c.words → board u reg qualified c ≡ close_region p (board t reg qualified c)
unfolding close_region
close-region t u reg qualified p c e = ap (λ (y : List ℕ). board y reg qualified c) e

module _ (ns : List Name) (s offsets to : List ℕ) where
  pub region-on : (rec : ℕ → ℕ → ℕ → ℕ → RegionHead → Board → Board) (st up a m : ℕ) (b d : Board) (h : RegionHead) → h ≡ region_from s b.c.next → d ≡ rec st up a m h b → d ≡ region_b ns s offsets to rec st up a m b
  unfolding region_b
  region-on rec st up a m b d h e f = f ∙ ap (λ (y : RegionHead). rec st up a m y b) e

  pub refine-plain : (rec : ℕ → ℕ → ℕ → ℕ → RegionHead → Board → Board) (st up l n k : ℕ) (b z : Board) (f : Number) → f ≡ number_in s b.c.next → f.value ≡ 65535 → z ≡ close_state st k f.next b → z ≡ refine_b ns s offsets to rec st up l n k b
  unfolding refine_b
  refine-plain rec st up l n k b z f e g h = on f _ _ z e (yes f.value 65535 _ _ z g h)

  pub refine-into : (rec : ℕ → ℕ → ℕ → ℕ → RegionHead → Board → Board) (st up l n k j w : ℕ) (b d z : Board) (f : Number) (h : RegionHead)
      → f ≡ number_in s b.c.next → (f.value ≡ 65535 → ⊥) → w ≡ get_or to f.value 0 → h ≡ machine_as s 0 w → d ≡ rec st up l n h b
      → j ≡ tally k b.c.words d.c.words → z ≡ close_state st j f.next d → z ≡ refine_b ns s offsets to rec st up l n k b
  unfolding refine_b fed
  refine-into rec st up l n k j w b d z f h e g x y u v q =
      on f _ _ z e
      (no f.value 65535 _ _ z g
      (q
      ∙ ap (λ (i : ℕ). close_state st i f.next d) v
      ∙ ap (λ (o : Board). close_state st (tally k b.c.words o.c.words) f.next o) (u ∙ ap (λ (i : RegionHead). rec st up l n i b) (y ∙ ap (machine_as s 0) x))))

  -- from a state's regions on
  pub state-on : (rec : ℕ → ℕ → ℕ → ℕ → RegionHead → Board → Board) (up a m : ℕ) (b d z : Board) (e : Entered) → e ≡ entered_of ns s offsets a m b → d ≡ open_state ns s offsets a m b
      → z ≡ inner (region_b ns s offsets to rec b.c.words up a m) e.regions 0 d (refine_b ns s offsets to rec b.c.words up e.letter e.length) → z ≡ layout_state ns s offsets to rec up a m b
  unfolding layout_state entered_of
  state-on rec up a m b d z e x y w =
      w ∙ (λ i. inner (region_b ns s offsets to rec b.c.words up a m) (x i).regions 0 (y i) (refine_b ns s offsets to rec b.c.words up (x i).letter (x i).length))

  -- a region with no level left, one that is not laid out, one that is
  pub region-none : (l st up a m : ℕ) (h : RegionHead) (t reg qualified : List ℕ) (c r : LayoutPos) → l ≡ 0 → r ≡ moved_to 0 c → board t reg qualified r ≡ layout_region ns s offsets to l st up a m h (board t reg qualified c)
  unfolding layout_region passed
  region-none l st up a m h t reg qualified c r e f = ap (board t reg qualified) f ∙ ap (λ (y : ℕ). layout_region ns s offsets to y st up a m h (board t reg qualified c)) (sym e)

  pub region-left : (l st up a m : ℕ) (h : RegionHead) (t reg qualified : List ℕ) (c r : LayoutPos) (q : Bool) → (l ≡ 0 → ⊥) → q ≡ (eqb h.states 0 && c.hole) → q ≡ true → r ≡ moved_to h.next c
      → board t reg qualified r ≡ layout_region ns s offsets to l st up a m h (board t reg qualified c)
  unfolding layout_region passed
  region-left zero st up a m h t reg qualified c r q n e f g = absurd (n refl)
  region-left (suc l) st up a m h t reg qualified c r q n e f g = ap (board t reg qualified) g ∙ sym (chosen _ _ _ (sym e ∙ f))

  pub region-some : (l st up a m : ℕ) (h : RegionHead) (b d y z : Board) (q : Bool) → (l ≡ 0 → ⊥) → q ≡ (eqb h.states 0 && b.c.hole) → q ≡ false → d ≡ open_region st up a m h b
      → y ≡ times (layout_state ns s offsets to (layout_region ns s offsets to (l - 1)) b.c.regions a m) h.states d → z ≡ close_region b.c.words y → z ≡ layout_region ns s offsets to l st up a m h b
  unfolding layout_region
  region-some zero st up a m h b d y z q n e f g x w = absurd (n refl)
  region-some (suc l) st up a m h b d y z q n e f g x w =
      let i : suc l - 1 ≡ l = omega arith in
      w
      ∙ ap (close_region b.c.words) (x ∙ (λ j. times (layout_state ns s offsets to (layout_region ns s offsets to (i j)) b.c.regions a m) h.states (g j)))
      ∙ sym (left_out _ _ _ (sym e ∙ f))

  pub machine-lay : (at : ℕ) (t reg qualified : List ℕ) (h : RegionHead) (z : Board) → h ≡ machine_as s 1 at → z ≡ layout_region ns s offsets to 8 0 0 0 0 h (board t reg qualified (layout_t 0 0 0 0 false)) → z ≡ layout_machine ns s offsets to at t reg qualified
  unfolding layout_machine
  machine-lay at t reg qualified h z e f = f ∙ ap (λ (y : RegionHead). layout_region ns s offsets to 8 0 0 0 0 y (board t reg qualified (layout_t 0 0 0 0 false))) e
