-- What stands in a pack is laid out: the tables that laying out leaves say it.
use Prim.Native.Nat.{ℕ, zero, suc, ◌+◌, ◌<◌, ◌≤◌}
use native.Mathlib.Omega.{arith}
use mathlib.Core.List.{List, [], ◌∷◌, ◌++◌, append_assoc}
use mathlib.Core.Bool.{Bool, true, false}
use mathlib.Core.Path.{◌≡◌, refl, sym, ap, subst, ◌∙◌}
use lib.ListN.{length, get_or, length-append}
use Rattle.wire.specs.Answer.{u16, value}
use Rattle.pack_rules.specs.Limits.{absent}
use Rattle.pack_rules.specs.Names.{Name}
use Rattle.pack_rules.specs.Syntax.{Equation, Transition}
use Rattle.machine_rules.specs.Resolved.{ResolvedRegions, ResolvedStates, r_cons, r_nil, s_cons, s_nil}
use Rattle.pack_rules.specs.Forms.{flag_of, name_at}
use Rattle.pack_rules.specs.Write.{enc}
use Rattle.machines.specs.declared.layout.RegionHead.{RegionHead}
use Rattle.machine_rules.specs.Checks.{collect_region_names, collect_state_names}
use Rattle.machines.specs.Counts.{any_s, count_r, count_s, filled_r, filled_s}
use Rattle.machines.specs.Layout.{LaidR, l_end, l_more, prefix_of, r_end}
use Rattle.machines.specs.LayoutAt.{Board, close_state, layout_region, layout_state, moved_to, opening, times}
use Rattle.machine_rules.specs.Resolve.{prefix_transitions, short_r}
use Rattle.machines.specs.ResolvedIn.{MachineAt, RegionAt, StandsR, StandsS, StateAt, r_into, r_more, r_plain, s_end, s_more}
use Rattle.machines.proofs.Reading.{name-number}
use Rattle.machines.proofs.NamesPlaced.{SpotAt, spot-length}
use Rattle.machines.proofs.Boards.{Agrees, Room, Step, Under, agrees-before, agrees-later, room-first, room-then, step-none, step_then, under-then}
use Rattle.machines.proofs.RegionHeads.{agrees-close-state, opened_state, state-name, state-row, step-close-state, step-state}
use Rattle.machines.proofs.LetterLaws.{prefix-some}
use Rattle.machines.proofs.CountLaws.{letters-regions, letters-states, short-regions, short-states}
use Rattle.machines.proofs.StateOpened.{machine-opening, region-opening, rest-into, rest_more, rest_plain, state-open, state_rest}
use Rattle.machines.proofs.RegionLaid.{DoneS, LaysS, one-region}

module _ (ns : List Name) (s : List ℕ) where
  -- a state's regions, up to its closing
  record DoneR (b out : Board) (st up l k : ℕ) (rs : ResolvedRegions) (e : ℕ) : Type 0 where
    d : Board
    j : ℕ
    is : out ≡ close_state st (k + j) e d
    step : Step b d (filled_r rs) (count_r rs) (enc (collect_region_names rs))
    laid : (t reg qualified : List ℕ) → Agrees b d t reg qualified → LaidR ns s t reg qualified up st l j b.c.words b.c.regions b.c.hole rs d.c.words d.c.regions d.c.hole

  module _ (offsets : List ℕ) (spot : (i : ℕ) → i < length ns → SpotAt s (get_or offsets i 0) (name_at ns i)) (to : List ℕ) where
    -- the regions of a state, wherever they are laid out
    abbrev LaysR : Name → ℕ → Name → ℕ → ℕ → ResolvedRegions → ℕ → Type 0
    LaysR p l nm n at rs e = (b : Board) (st up a m la ln k : ℕ) → b.c.next ≡ at → Under b a m p → Under b la ln (p ++ (nm ++ (95 ∷ []))) → k ≤ b.c.words
        → Room b (filled_r rs) (count_r rs) (enc (collect_region_names rs)) → short_r 0 rs ≡ true
        → DoneR b (state_rest ns s offsets to (layout_region ns s offsets to l) st up a m la ln n k b) st up l k rs e

    -- the regions of a state: an inline one, none left, the refinement
    regions-more : (p nm : Name) (n : ℕ) {i full : Name} {l at k q w e : ℕ} {h : Bool} {ss : ResolvedStates} {rest : ResolvedRegions} → RegionAt ns s at i h k q → full ≡ p ++ i → StandsS ns s (λ j. get_or to j 0) p l k q ss w
        → LaysS ns s offsets to p l k q ss w → LaysR p (suc l) nm n w rest e → LaysR p (suc l) nm (suc n) at (r_cons full h ss rest) e
    unfolding filled_r count_r
    regions-more p nm n {i} {full} {l} {at} {k} {q} {w} {e} {h} {ss} {rest} r named stands ih more b st up a m la ln c nx u v few room short =
        let r' : RegionAt ns s b.c.next i h k q = subst (λ (y : ℕ). RegionAt ns s y i h k q) (sym nx) r in
        let x = name-number ns s b.c.next i r'.to-history r'.initial in
        let sh = short-regions full h ss rest short in
        let ls = letters-regions full h ss rest in
        let first : Room b (any_s ss + filled_s ss) (count_s ss) (enc (collect_state_names ss)) = room-first (enc (collect_region_names rest)) room (omega arith) (omega arith) ls in
        let one = one-region ns s offsets to stands st up a m x.i r'.byte b full h x.small r'.flag (named ∙ ap (λ (y : Name). p ++ y) (sym x.named)) u ih first sh.0 in
        let d : Board = layout_region ns s offsets to (suc l) st up a m (opening x.i r'.byte k q) b in
        let g = more d st up a m la ln (c + one.new) one.next (under-then u one.step) (under-then v one.step) (one.fewer c few) (room-then room one.step refl refl ls) sh.1 in
        let z : c + one.new + g.j ≡ c + (one.new + g.j) = omega arith in
        record {
          d = g.d;
          j = one.new + g.j;
          is = rest_more ns s offsets to (layout_region ns s offsets to (suc l)) st up a m la ln n c b d (ap (λ (y : RegionHead). layout_region ns s offsets to (suc l) st up a m y b) (region-opening ns s b.c.next i h k q r'))
              ∙ ap (λ (y : ℕ). state_rest ns s offsets to (layout_region ns s offsets to (suc l)) st up a m la ln n y d) (one.tallied c few) ∙ g.is ∙ ap (λ (y : ℕ). close_state st y e g.d) z;
          step = step_then one.step g.step refl refl ls;
          laid = λ t reg qualified agr.
              one.laid t reg qualified (agrees-before g.step agr) g.j g.d.c.words g.d.c.regions g.d.c.hole rest
              (g.laid t reg qualified (agrees-later one.step agr));
        }

    regions-plain : (p nm : Name) {l at e : ℕ} → u16 s at ≡ value absent e → LaysR p l nm zero at r_nil e
    unfolding filled_r count_r collect_region_names enc
    regions-plain p nm {l} {at} {e} r b st up a m la ln c nx u v few room short =
        let z : c ≡ c + 0 = omega arith in
        record {
          d = b;
          j = 0;
          is = rest_plain ns s offsets to (layout_region ns s offsets to l) st up a m la ln c e b (ap (u16 s) nx ∙ r) ∙ ap (λ (y : ℕ). close_state st y e b) z;
          step = step-none b;
          laid = λ t reg qualified agr. r_end refl refl refl;
        }

    no_flag : flag_of 0 ≡ false
    unfolding flag_of
    no_flag = refl

    regions-into : (p nm : Name) {sub i full : Name} {l at e x k q z : ℕ} {ss : ResolvedStates} → u16 s at ≡ value x e → (x ≡ absent → ⊥) → MachineAt ns s (get_or to x 0) i k q → sub ≡ p ++ (nm ++ (95 ∷ [])) → full ≡ sub ++ i
        → StandsS ns s (λ j. get_or to j 0) sub l k q ss z → LaysS ns s offsets to sub l k q ss z → LaysR p (suc l) nm zero at (r_cons full false ss r_nil) e
    unfolding filled_r count_r collect_region_names enc
    regions-into p nm {sub} {i} {full} {l} {at} {e} {x} {k} {q} {z} {ss} r other f under named stands ih b st up a m la ln c nx u v few room short =
        let y = name-number ns s (get_or to x 0) i f.to-states f.initial in
        let sh = short-regions full false ss r_nil short in
        let ls = letters-regions full false ss r_nil in
        let first : Room b (any_s ss + filled_s ss) (count_s ss) (enc (collect_state_names ss)) = room-first [] room (omega arith) (omega arith) ls in
        let one = one-region ns s offsets to stands st up la ln y.i 0 b full false y.small no_flag (named ∙ ap (λ (w : Name). sub ++ w) (sym y.named)) (subst (Under b la ln) (sym under) v) ih first sh.0 in
        let d : Board = layout_region ns s offsets to (suc l) st up la ln (opening y.i 0 k q) b in
        let o : c + one.new ≡ c + (one.new + 0) = omega arith in
        record {
          d = d;
          j = one.new + 0;
          is = rest-into ns s offsets to (layout_region ns s offsets to (suc l)) st up a m la ln x c e b d (ap (u16 s) nx ∙ r) other (ap (λ (w : RegionHead). layout_region ns s offsets to (suc l) st up la ln w b) (machine-opening ns s 0 (get_or to x 0) i k q f))
              ∙ ap (λ (w : ℕ). close_state st w e d) (one.tallied c few ∙ o);
          step = step_then one.step (step-none d) refl refl ls;
          laid = λ t reg qualified agr. one.laid t reg qualified agr 0 d.c.words d.c.regions d.c.hole r_nil (r_end refl refl refl);
        }

    -- states: none left, one more
    states-end : {p : Name} {l at q : ℕ} → at ≡ q → LaysS ns s offsets to p l zero at s_nil q
    unfolding times filled_s count_s collect_state_names enc
    states-end e b up a m nx u room short = record { next = nx ∙ e; step = step-none b; laid = λ t reg qualified agr. l_end refl refl refl }

    states-more : {p nm full : Name} {l n at k q e z : ℕ} {es : List Equation} {ts tts : List Transition} {rs : ResolvedRegions} {rest : ResolvedStates} → StateAt ns s at nm es ts k q → full ≡ p ++ nm → tts ≡ prefix_transitions p ts
        → LaysR p l nm k q rs e → LaysS ns s offsets to p l n e rest z → LaysS ns s offsets to p l (suc n) at (s_cons full es tts rs rest) z
    unfolding times filled_s count_s close_state moved_to
    states-more {p} {nm} {full} {l} {n} {at} {k} {q} {e} {z} {es} {ts} {tts} {rs} {rest} h named targets inside more b up a m nx u room short =
        let h' : StateAt ns s b.c.next nm es ts k q = subst (λ (y : ℕ). StateAt ns s y nm es ts k q) (sym nx) h in
        let x = name-number ns s b.c.next nm h'.to-equations h'.name in
        let sp = spot x.i x.small in
        let filled = sp.some in
        let long : get_or s (get_or offsets x.i 0) 0 ≡ length nm = spot-length s (get_or offsets x.i 0) (name_at ns x.i) sp ∙ ap length x.named in
        let sum : length full ≡ length p + length nm = ap length named ∙ length-append p nm in
        let sh = short-states full es tts rs rest short in
        let ls = letters-states full es tts rs rest in
        let here : List ℕ = length full ∷ full in
        let first : Room b 0 1 here = room-first (enc (collect_region_names rs) ++ enc (collect_state_names rest)) room (omega arith) (omega arith) ls in
        let o : Board = opened_state b h'.to-transitions q full in
        let so : Step b o 0 1 here = step-state b h'.to-transitions q full first in
        let after : Room o (filled_r rs + filled_s rest) (count_r rs + count_s rest) (enc (collect_region_names rs) ++ enc (collect_state_names rest)) = room-then room so (omega arith) (omega arith) ls in
        let lead : Under o (b.c.letters + 1) (length full) (p ++ (nm ++ (95 ∷ []))) = record {
          inside = omega arith;
          is = ap prefix_of (state-name b h'.to-transitions q full first (step-none o) o.qualified refl) ∙ prefix-some full (omega arith)
              ∙ ap (λ (y : Name). y ++ (95 ∷ [])) named ∙ append_assoc p nm (95 ∷ []);
        } in
        let g = inside o b.c.words up a m (b.c.letters + 1) (length full) 0 refl (under-then u so) lead (omega arith)
        (room-first (enc (collect_state_names rest)) after (omega arith) (omega arith) refl) sh.regions in
        let d : Board = g.d in
        let none : 0 + g.j ≡ g.j = omega arith in
        let c : Board = close_state b.c.words g.j e d in
        let is : layout_state ns s offsets to (layout_region ns s offsets to l) up a m b ≡ c =
        state-open ns s offsets to spot b a m p nm full es ts k q h' named u first sh.name (layout_region ns s offsets to l) up ∙ g.is ∙ ap (λ (y : ℕ). close_state b.c.words y e d) none in
        let sd : Step b d (filled_r rs) (suc (count_r rs)) (here ++ enc (collect_region_names rs)) = step_then so g.step (omega arith) (omega arith) refl in
        let sc : Step b c (filled_r rs) (suc (count_r rs)) (here ++ enc (collect_region_names rs)) = step-close-state g.j e sd in
        let both : enc (collect_state_names (s_cons full es tts rs rest)) ≡ (here ++ enc (collect_region_names rs)) ++ enc (collect_state_names rest) = ls ∙ sym (append_assoc here (enc (collect_region_names rs)) (enc (collect_state_names rest))) in
        let w = more c up a m refl (under-then u sc) (room-then room sc refl (omega arith) both) sh.states in
        subst (λ (y : Board). DoneS ns s b (times (layout_state ns s offsets to (layout_region ns s offsets to l) up a m) n y) p up l (suc n) (s_cons full es tts rs rest) z) (sym is)
        (record {
          next = w.next;
          step = step_then sc w.step refl (omega arith) both;
          laid = λ t reg qualified agr.
              let ac : Agrees b c t reg qualified = agrees-before w.step agr in
              l_more (state-row b h'.to-transitions q full first g.step g.j e t reg qualified ac)
              h' refl named
              (state-name b h'.to-transitions q full first g.step qualified ac.letters)
              targets
              (g.laid t reg qualified (agrees-close-state b o d g.j e t reg qualified (omega arith) (omega arith) ac))
              (w.laid t reg qualified (agrees-later sc agr));
        })

    -- what stands there, wherever it is laid out
    mutual
      pub lays_s : {p : Name} {l n at : ℕ} {ss : ResolvedStates} {q : ℕ} → StandsS ns s (λ j. get_or to j 0) p l n at ss q → LaysS ns s offsets to p l n at ss q
      lays_s (s_end e) = states-end e
      lays_s (s_more h x y o rs more) = states-more h x y (lays_r rs) (lays_s more)

      lays_r : {p nm : Name} {l n at : ℕ} {rs : ResolvedRegions} {e : ℕ} → StandsR ns s (λ j. get_or to j 0) p l nm n at rs e → LaysR p l nm n at rs e
      lays_r (r_more {p} {nm} {n} h x ss more) = regions-more p nm n h x ss (lays_s ss) (lays_r more)
      lays_r (r_plain {p} {nm} r) = regions-plain p nm r
      lays_r (r_into {p} {nm} r l x f y z ss) = regions-into p nm r x f y z ss (lays_s ss)
