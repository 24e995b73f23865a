-- A state opened, as laying out does it to what was read, and what then follows.
use Prim.Native.Nat.{ℕ, zero, suc, ◌+◌, ◌<◌}
use native.Mathlib.Omega.{arith}
use mathlib.Core.List.{List, ◌∷◌, ◌++◌}
use mathlib.Core.Bool.{Bool}
use mathlib.Core.Path.{◌≡◌, refl, sym, ap, ◌∙◌}
use lib.ListN.{length, get_or}
use borrow.Author.Tests.{ne_eqb}
use Rattle.wire.specs.Answer.{below, byte, counted, u16, value}
use Rattle.wire.proofs.Answers.{guard-value}
use Rattle.pack_rules.specs.Limits.{absent}
use Rattle.pack_rules.specs.Names.{Name}
use Rattle.pack_rules.specs.Syntax.{Equation, Transition}
use Rattle.pack_rules.specs.Forms.{name_at}
use Rattle.pack_rules.specs.Read.{equations_in, transition_in}
use Rattle.machines.specs.declared.layout.RegionHead.{RegionHead}
use Rattle.wire.specs.declared.answer.Number.{Number}
use Rattle.machines.specs.LayoutAt.{Board, board, close_state, fed, inner, layout_t, layout_state, letters_of, machine_as, moves_at, name_number, opening, open_state, refine_b, region_b, region_from, regions_at, qualifying, state_words, sum, tally}
use Rattle.machines.specs.ResolvedIn.{MachineAt, RegionAt, StateAt, end_of}
use Rattle.machines.specs.CheckedReads.{num, number_in}
use Rattle.machines.proofs.Reading.{name-number}
use Rattle.machines.proofs.CheckedReadLaws.{byte-to, end-to, number-num, number-to}
use Rattle.machines.proofs.NamesPlaced.{SpotAt}
use Rattle.machines.proofs.Boards.{Room, Under}
use Rattle.machines.proofs.RegionHeads.{opened_state}
use Rattle.machines.proofs.LetterLaws.{spelling-is, spelt_is, spelt-length, sum_is}

-- openings that were read
pub region-opening : (ns : List Name) (s : List ℕ) (at : ℕ) (i : Name) (h : Bool) (k b : ℕ) (r : RegionAt ns s at i h k b) → region_from s at ≡ opening (name-number ns s at i r.to-history r.initial).i r.byte k b
unfolding region_from below
region-opening ns s at i h k b r =
    let n = name-number ns s at i r.to-history r.initial in
    let g = guard-value _ r.to-history (byte s r.to-history) r.byte r.to-states r.history in
    number-to s at n.i r.to-history _ n.is ∙ byte-to s r.to-history r.byte r.to-states _ g.0 ∙ number-to s r.to-states k b _ r.states

pub machine-opening : (ns : List Name) (s : List ℕ) (y at : ℕ) (i : Name) (k b : ℕ) (r : MachineAt ns s at i k b) → machine_as s y at ≡ opening (name-number ns s at i r.to-states r.initial).i y k b
unfolding machine_as
machine-opening ns s y at i k b r =
    let n = name-number ns s at i r.to-states r.initial in
    number-to s at n.i r.to-states _ n.is ∙ number-to s r.to-states k b _ r.states

module _ (ns : List Name) (s offsets to : List ℕ) where
  -- a state's regions and refinement, after k regions
  unfoldable pub state_rest : (ℕ → ℕ → ℕ → ℕ → RegionHead → Board → Board) → ℕ → ℕ → ℕ → ℕ → ℕ → ℕ → ℕ → ℕ → Board → Board
  state_rest rec st up a m la ln n k b = inner (region_b ns s offsets to rec st up a m) n k b (λ i d. refine_b ns s offsets to rec st up la ln i d)

  -- a state's regions, one by one
  module _ (rec : ℕ → ℕ → ℕ → ℕ → RegionHead → Board → Board) (st up a m la ln : ℕ) where
    pub rest_more : (n k : ℕ) (b d : Board) → rec st up a m (region_from s b.c.next) b ≡ d → state_rest rec st up a m la ln (suc n) k b ≡ state_rest rec st up a m la ln n (tally k b.c.words d.c.words) d
    unfolding state_rest inner fed region_b
    rest_more n k b d e = ap (λ (y : Board). inner (region_b ns s offsets to rec st up a m) n (tally k b.c.words y.c.words) y (λ i d. refine_b ns s offsets to rec st up la ln i d)) e

    pub rest_plain : (k e : ℕ) (b : Board) → u16 s b.c.next ≡ value absent e → state_rest rec st up a m la ln zero k b ≡ close_state st k e b
    unfolding state_rest inner refine_b
    rest_plain k e b r = number-to s b.c.next absent e _ r ∙ refl

    pub rest-into : (x k e : ℕ) (b d : Board) → u16 s b.c.next ≡ value x e → (x ≡ absent → ⊥) → rec st up la ln (machine_as s 0 (get_or to x 0)) b ≡ d
        → state_rest rec st up a m la ln zero k b ≡ close_state st (tally k b.c.words d.c.words) e d
    unfolding state_rest inner refine_b fed
    rest-into x k e b d r n f =
        number-to s b.c.next x e _ r
        ∙ rw (ne_eqb x absent n) (ap (λ (y : Board). close_state st (tally k b.c.words y.c.words) e y) f)

  -- a state as it is opened
  module _ (spot : (i : ℕ) → i < length ns → SpotAt s (get_or offsets i 0) (name_at ns i)) (b : Board) (a m : ℕ) (p nm full : Name) (es : List Equation) (ts : List Transition) (k q : ℕ) (h : StateAt ns s b.c.next nm es ts k q)
      (named : full ≡ p ++ nm) (u : Under b a m p) (room : Room b 0 1 (length full ∷ full)) (short : length full < 256) where
    moves-is : moves_at ns s b.c.next ≡ h.to-transitions
    unfolding moves_at
    moves-is =
        let i = name-number ns s b.c.next nm h.to-equations h.name in
        ap (λ (y : Number). end_of (equations_in ns s y.next)) (number-num s b.c.next i.i h.to-equations i.is)
        ∙ end-to (equations_in ns s h.to-equations) es h.to-transitions h.equations

    regions-is : regions_at ns s b.c.next ≡ num k q
    unfolding regions_at
    regions-is =
        ap (λ (y : ℕ). number_in s (end_of (counted (transition_in ns s) s y))) moves-is
        ∙ ap (number_in s) (end-to (counted (transition_in ns s) s h.to-transitions) ts h.to-regions h.transitions)
        ∙ number-num s h.to-regions k q h.regions

    name-is : qualifying s offsets (name_number ns s b.c.next) b.qualified a m ≡ full
    unfolding name_number
    name-is =
        let i = name-number ns s b.c.next nm h.to-equations h.name in
        let l = room.letters in
        let x = u.inside in
        ap (λ (y : Number). qualifying s offsets y.value b.qualified a m) (number-num s b.c.next i.i h.to-equations i.is)
        ∙ spelling-is s offsets i.i b.qualified a m p (name_at ns i.i) (omega arith) u.is (spot i.i i.small)
        ∙ ap (λ (y : Name). p ++ y) i.named ∙ sym named

    length-is : letters_of ns s offsets a m b ≡ length full
    unfolding letters_of
    length-is =
        let l = room.letters in
        spelt-length s offsets (name_number ns s b.c.next) b.qualified a m b.c.letters full name-is u.inside (omega arith)

    letter-is : sum b.c.letters 1 ≡ b.c.letters + 1
    letter-is =
        let l = room.letters in
        let n = room.lets-small in
        sum_is b.c.letters 1 (omega arith)

    open_is : open_state ns s offsets a m b ≡ opened_state b h.to-transitions q full
    unfolding open_state
    open_is =
        let l = room.letters in
        let w = room.words in
        let n = room.lets-small in
        let o = room.t-small in
        let z : b.c.letters + 1 + length full ≡ b.c.letters + suc (length full) = omega arith in
        let x : sum (sum b.c.letters 1) (letters_of ns s offsets a m b) ≡ b.c.letters + suc (length full) =
        ap (λ (y : ℕ). sum y (letters_of ns s offsets a m b)) letter-is ∙ ap (sum (b.c.letters + 1)) length-is ∙ sum_is (b.c.letters + 1) (length full) (omega arith) ∙ z in
        let v : sum b.c.words 6 ≡ b.c.words + 6 = sum_is b.c.words 6 (omega arith) in
        let g = spelt_is s offsets (name_number ns s b.c.next) b.qualified a m b.c.letters full name-is u.inside (omega arith) short in
        λ i. board (state_words b.t b.c.words b.c.next (moves-is i) (letter-is i) (length-is i)) b.reg (g i)
        (layout_t (regions-is i).next (v i) b.c.regions (x i) b.c.hole)

    pub state-open : (rec : ℕ → ℕ → ℕ → ℕ → RegionHead → Board → Board) (up : ℕ)
        → layout_state ns s offsets to rec up a m b ≡ state_rest rec b.c.words up a m (b.c.letters + 1) (length full) k 0 (opened_state b h.to-transitions q full)
    unfolding layout_state state_rest
    state-open rec up = λ i. inner (region_b ns s offsets to rec b.c.words up a m) (regions-is i).value 0 (open_is i) (λ j d. refine_b ns s offsets to rec b.c.words up (letter-is i) (length-is i) j d)
