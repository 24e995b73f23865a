-- States and regions opened and closed on the tables: each a step, and then the row says what it should.
use Prim.Native.Nat.{ℕ, suc, ◌+◌, ◌<◌, ◌≤◌}
use native.Mathlib.Omega.{arith}
use mathlib.Core.List.{List, [], ◌∷◌, append-nil}
use mathlib.Core.Path.{◌≡◌, refl, sym, ap, ◌∙◌}
use lib.ListN.{length, get_or, set, take, length-set}
use lib.Seq.{get_or-set_other, get_or-set_same, length-sets, sets}
use Rattle.pack_rules.specs.Names.{Name}
use Rattle.machines.specs.declared.layout.RegionHead.{RegionHead}
use Rattle.machines.specs.Layout.{RegionRow, StateRow, holed, slice_of}
use Rattle.machines.specs.LayoutAt.{Board, board, close_region, close_state, layout_t, moved_to, opening, open_region, region_words, state_words, sum}
use Rattle.machines.proofs.LetterLaws.{said, said-before, said-slice, sum_is, take_less}
use Rattle.machines.proofs.Boards.{Agrees, Room, Step, spare}
use Rattle.machines.proofs.RowFacts.{region-frame, state-ends, state-head}

-- a state that is open, under its full name
abbrev pub opened_state : Board → ℕ → ℕ → Name → Board
opened_state b tr q full =
    board
    (state_words b.t b.c.words b.c.next tr (b.c.letters + 1) (length full))
    b.reg
    (sets b.qualified b.c.letters (length full ∷ full))
    (layout_t q (b.c.words + 6) b.c.regions (b.c.letters + suc (length full)) b.c.hole)

pub step-state : (b : Board) (tr q : ℕ) (full : Name) → Room b 0 1 (length full ∷ full) → Step b (opened_state b tr q full) 0 1 (length full ∷ full)
step-state b tr q full h =
    let w = h.words in
    let l = h.letters in
    let f = state-head b.t b.c.words b.c.next tr (b.c.letters + 1) (length full) (omega arith) in
    record {
      words = omega arith;
      regions = omega arith;
      t-long = f.same-long;
      reg-long = refl;
      lets-long = length-sets b.qualified b.c.letters (length full ∷ full);
      t-kept = f.before;
      reg-kept = λ i k. refl;
      lets-kept = said-before b.qualified b.c.letters (length full ∷ full) l;
      words-full = omega arith;
      regions-full = omega arith;
      letters-full = refl;
      says = said b.qualified b.c.letters (length full ∷ full) l;
    }

pub step-close-state : {b d : Board} {r c : ℕ} {xs : List ℕ} (k q : ℕ) → Step b d r c xs → Step b (close_state b.c.words k q d) r c xs
unfolding close_state moved_to
step-close-state {b} {d} k q f =
    let e = state-ends d.t b.c.words d.c.words k in
    record {
      words = f.words;
      regions = f.regions;
      t-long = e.same-long ∙ f.t-long;
      reg-long = f.reg-long;
      lets-long = f.lets-long;
      t-kept = λ i h. e.other i (λ z. omega arith) (λ z. omega arith) ∙ f.t-kept i h;
      reg-kept = f.reg-kept;
      lets-kept = f.lets-kept;
      words-full = f.words-full;
      regions-full = f.regions-full;
      letters-full = f.letters-full;
      says = f.says;
    }

pub agrees-close-state : (b o d : Board) (k q : ℕ) (t reg qualified : List ℕ) → b.c.words + 6 ≤ o.c.words → b.c.regions ≤ o.c.regions
    → Agrees b (close_state b.c.words k q d) t reg qualified → Agrees o d t reg qualified
unfolding close_state moved_to
agrees-close-state b o d k q t reg qualified h j g =
    let e = state-ends d.t b.c.words d.c.words k in
    record {
      words = λ i x y. g.words i (omega arith) y ∙ e.other i (λ z. omega arith) (λ z. omega arith);
      regions = λ i x y. g.regions i (omega arith) y;
      letters = g.letters;
    }

module _ (b : Board) (tr q : ℕ) (full : Name) (room : Room b 0 1 (length full ∷ full)) {d : Board} {r c : ℕ} {xs : List ℕ} (f : Step (opened_state b tr q full) d r c xs) where
  -- the row of a state that was closed
  pub state-row : (k e : ℕ) (t reg qualified : List ℕ) → Agrees b (close_state b.c.words k e d) t reg qualified
      → StateRow t b.c.words b.c.next tr (b.c.letters + 1) (length full) d.c.words k
  unfolding close_state moved_to
  state-row k e t reg qualified g =
      let w = room.words in
      let h = state-head b.t b.c.words b.c.next tr (b.c.letters + 1) (length full) (omega arith) in
      let i = h.same-long in
      let j = f.t-long in
      let m = f.words in
      let z = state-ends d.t b.c.words d.c.words k in
      let at : (n v : ℕ) → n < 4 → get_or (state_words b.t b.c.words b.c.next tr (b.c.letters + 1) (length full)) (b.c.words + n) 0 ≡ v → get_or t (b.c.words + n) 0 ≡ v =
      λ n v l o. g.words (b.c.words + n) (omega arith) (omega arith) ∙ z.other (b.c.words + n) (λ y. omega arith) (λ y. omega arith) ∙ f.t-kept (b.c.words + n) (omega arith) ∙ o in
      record {
        drawn = g.words b.c.words (omega arith) (omega arith) ∙ z.other b.c.words (λ y. omega arith) (λ y. omega arith) ∙ f.t-kept b.c.words (omega arith) ∙ h.drawn;
        moves = at 1 tr (omega arith) h.moves;
        letter = at 2 (b.c.letters + 1) (omega arith) h.letter;
        letters = at 3 (length full) (omega arith) h.letters;
        after = g.words (b.c.words + 4) (omega arith) (omega arith) ∙ z.after (omega arith);
        regions = g.words (b.c.words + 5) (omega arith) (omega arith) ∙ z.regions (omega arith);
      }

  -- and its name, among the letters
  pub state-name : (qualified : List ℕ) → take d.c.letters qualified ≡ take d.c.letters d.qualified → slice_of qualified (b.c.letters + 1) (length full) ≡ full
  state-name qualified e =
      let l = room.letters in
      let j = f.letters-full in
      said-slice b.qualified qualified b.c.letters full (omega arith)
      (take_less (b.c.letters + suc (length full)) d.c.letters qualified d.qualified (omega arith) e ∙ f.lets-kept
      ∙ said b.qualified b.c.letters (length full ∷ full) l)

-- a region that is open
abbrev pub opened_region : ℕ → ℕ → ℕ → ℕ → RegionHead → Board → Board
opened_region st up a m h b =
    board
    (region_words b.t b.c.words h a m b.c.regions st up)
    (set b.reg b.c.regions b.c.words)
    b.qualified
    (layout_t h.next (b.c.words + 9) (suc b.c.regions) b.c.letters (holed b.c.hole h.states))

pub open-region-is : (st up a m : ℕ) (h : RegionHead) (b : Board) → b.c.words + 9 ≤ 4294967296 → b.c.regions + 1 ≤ 4294967296 → open_region st up a m h b ≡ opened_region st up a m h b
unfolding open_region
open-region-is st up a m h b i j =
    let z : b.c.regions + 1 ≡ suc b.c.regions = omega arith in
    ap (λ (w : ℕ).
    board
    (region_words b.t b.c.words h a m b.c.regions st up)
    (set b.reg b.c.regions b.c.words)
    b.qualified
    (layout_t h.next w (sum b.c.regions 1) b.c.letters (holed b.c.hole h.states))) (sum_is b.c.words 9 i)
    ∙ ap (λ (n : ℕ).
    board
    (region_words b.t b.c.words h a m b.c.regions st up)
    (set b.reg b.c.regions b.c.words)
    b.qualified
    (layout_t h.next (b.c.words + 9) n b.c.letters (holed b.c.hole h.states))) (sum_is b.c.regions 1 j ∙ z)

-- a region takes nine words, and its id; `pays` is that they are counted
module _ (st up a m x y k q r : ℕ) (b : Board) (room : Room b r 0 []) (pays : 1 + spare (holed b.c.hole k) ≤ r + spare b.c.hole) where
  pub step-region : Step b (opened_region st up a m (opening x y k q) b) r 0 []
  step-region =
      let w = room.words in
      let n = room.regions in
      let f = region-frame b.t b.c.words x y k q a m b.c.regions st up (omega arith) in
      record {
        words = omega arith;
        regions = omega arith;
        t-long = f.same-long;
        reg-long = length-set b.reg b.c.regions b.c.words;
        lets-long = refl;
        t-kept = f.before;
        reg-kept = λ i h. get_or-set_other b.reg b.c.regions i b.c.words 0 (λ z. omega arith);
        lets-kept = refl;
        words-full = omega arith;
        regions-full = omega arith;
        letters-full = omega arith;
        says = sym (append-nil (take b.c.letters b.qualified));
      }

  module _ {d : Board} {n c : ℕ} {xs : List ℕ} (f : Step (opened_region st up a m (opening x y k q) b) d n c xs) where
    pub region-row : (t reg qualified : List ℕ) → Agrees b (close_region b.c.words d) t reg qualified → RegionRow t b.c.words x y a m d.c.words b.c.regions k st up
    unfolding close_region
    region-row t reg qualified g =
        let w = room.words in
        let h = region-frame b.t b.c.words x y k q a m b.c.regions st up (omega arith) in
        let i = h.same-long in
        let j = f.t-long in
        let o = f.words in
        let at : (n v : ℕ) → n < 9 → (n ≡ 4 → ⊥) → get_or (region_words b.t b.c.words (opening x y k q) a m b.c.regions st up) (b.c.words + n) 0 ≡ v → get_or t (b.c.words + n) 0 ≡ v =
        λ n v l u z. g.words (b.c.words + n) (omega arith) (omega arith) ∙ get_or-set_other d.t (b.c.words + 4) (b.c.words + n) d.c.words 0 (λ y. u (omega arith)) ∙ f.t-kept (b.c.words + n) (omega arith) ∙ z in
        record {
          initial = g.words b.c.words (omega arith) (omega arith) ∙ get_or-set_other d.t (b.c.words + 4) b.c.words d.c.words 0 (λ y. omega arith) ∙ f.t-kept b.c.words (omega arith) ∙ h.initial;
          history = at 1 y (omega arith) (λ z. omega arith) h.history;
          letter = at 2 a (omega arith) (λ z. omega arith) h.letter;
          letters = at 3 m (omega arith) (λ z. omega arith) h.letters;
          after = g.words (b.c.words + 4) (omega arith) (omega arith) ∙ get_or-set_same d.t (b.c.words + 4) d.c.words 0 (omega arith);
          number = at 5 b.c.regions (omega arith) (λ z. omega arith) h.number;
          states = at 6 k (omega arith) (λ z. omega arith) h.states;
          state = at 7 st (omega arith) (λ z. omega arith) h.state;
          holder = at 8 up (omega arith) (λ z. omega arith) h.holder;
        }

    -- its word, by its id
    pub region-place : (t reg qualified : List ℕ) → Agrees b (close_region b.c.words d) t reg qualified → get_or reg b.c.regions 0 ≡ b.c.words
    unfolding close_region
    region-place t reg qualified g =
        let w = room.regions in
        let o = f.regions in
        g.regions b.c.regions (omega arith) (omega arith) ∙ f.reg-kept b.c.regions (omega arith) ∙ get_or-set_same b.reg b.c.regions b.c.words 0 (omega arith)

pub step-close-region : {b d : Board} {r c : ℕ} {xs : List ℕ} → Step b d r c xs → Step b (close_region b.c.words d) r c xs
unfolding close_region
step-close-region {b} {d} f =
    record {
      words = f.words;
      regions = f.regions;
      t-long = length-set d.t (b.c.words + 4) d.c.words ∙ f.t-long;
      reg-long = f.reg-long;
      lets-long = f.lets-long;
      t-kept = λ i h. get_or-set_other d.t (b.c.words + 4) i d.c.words 0 (λ z. omega arith) ∙ f.t-kept i h;
      reg-kept = f.reg-kept;
      lets-kept = f.lets-kept;
      words-full = f.words-full;
      regions-full = f.regions-full;
      letters-full = f.letters-full;
      says = f.says;
    }

pub agrees-close-region : (b o d : Board) (t reg qualified : List ℕ) → b.c.words + 9 ≤ o.c.words → b.c.regions ≤ o.c.regions
    → Agrees b (close_region b.c.words d) t reg qualified → Agrees o d t reg qualified
unfolding close_region
agrees-close-region b o d t reg qualified h j g =
    record {
      words = λ i x y. g.words i (omega arith) y ∙ get_or-set_other d.t (b.c.words + 4) i d.c.words 0 (λ z. omega arith);
      regions = λ i x y. g.regions i (omega arith) y;
      letters = g.letters;
    }
