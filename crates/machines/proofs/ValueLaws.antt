-- Laws of the values of outputs as the code writes them.
use Prim.Native.Nat.{ℕ, zero, suc, ◌+◌, ◌-◌, ◌<◌, ◌≤◌}
use native.Mathlib.Omega.{arith}
use mathlib.Core.List.{List, [], ◌∷◌}
use mathlib.Core.Bool.{Bool, true, false, cond, ◌&&◌, not}
use mathlib.Core.Path.{◌≡◌, refl, sym, ap, ◌∙◌}
use lib.ListN.{get_or}
use lib.Dec.{eqb}
use Rattle.wire.specs.Bytes.{two}
use Rattle.wire.specs.Writer.{State, puts}
use Rattle.std.specs.Option.{is_none, is_some, unwrap_or}
use Rattle.std.specs.Prelude.{Option as Maybe, Some, None}
use Rattle.pack_rules.specs.Names.{Name}
use Rattle.pack_rules.specs.Read.{equation_in, expr_in, port_in}
use Rattle.pack_rules.specs.Write.{Item, raw}
use Rattle.pack.specs.Intern.{put_item, render}
use Rattle.pack.proofs.Interns.{render-append}
use Rattle.wire.specs.declared.answer.Number.{Number}
use Rattle.machines.specs.ResolvedIn.{end_of}
use Rattle.machines.specs.CheckedReads.{number_in}
use Rattle.machines.specs.Layout.{slice_of}
use Rattle.machines.specs.CoverAt.{some_word, uncovered_t}
use Rattle.machines.specs.EmitAt.{last_or, test_t}
use Rattle.machines.specs.ValueAt.{into, entered_t, giving_from, in_state_t, output_t, outputs_t, port_outputs_t, side_bytes, side_from, side_of, side_t, value_t, values_t}
use Rattle.machines.proofs.CoverLaws.{none-told}
use Rattle.machines.proofs.CheckedReadLaws.{on}

module _ (ns : List Name) (s : List ℕ) (out : ℕ) where
  side-step : (n p : ℕ) (k l : Number) (b : Bool) → k ≡ number_in s p → l ≡ number_in s k.next → b ≡ (eqb k.value 1 && eqb l.value out) → cond b (Some l.next) (side_from ns s out n (end_of (equation_in ns s p))) ≡ side_from ns s out (suc n) p
  unfolding side_from
  side-step n p k l b e f g =
      on k _ _ _ e (on l _ _ _ f (ap (λ (x : Bool). cond x (Some l.next) (side_from ns s out n (end_of (equation_in ns s p)))) g))

  -- the loop over equations: one that does not give the output, one that does, and the end
  pub side-went : (n p r : ℕ) (z : Maybe ℕ) (k l : Number) (b : Bool) → 0 < n → k ≡ number_in s p → l ≡ number_in s k.next → b ≡ (eqb k.value 1 && eqb l.value out) → b ≡ false → r ≡ end_of (equation_in ns s p) → side_from ns s out n p ≡ z → side_from ns s out (n - 1) r ≡ z
  side-went zero p r z k l b h e f g a c d = absurd (omega arith)
  side-went (suc n) p r z k l b h e f g a c d =
      let i : suc n - 1 ≡ n = omega arith in
      (λ j. side_from ns s out (i j) (c j)) ∙ ap (λ (x : Bool). cond x (Some l.next) (side_from ns s out n (end_of (equation_in ns s p)))) (sym a) ∙ side-step n p k l b e f g ∙ d

  pub side-found : (n p : ℕ) (z : Maybe ℕ) (k l : Number) (b : Bool) → 0 < n → k ≡ number_in s p → l ≡ number_in s k.next → b ≡ (eqb k.value 1 && eqb l.value out) → b ≡ true → side_from ns s out n p ≡ z → Some l.next ≡ z
  side-found zero p z k l b h e f g a d = absurd (omega arith)
  side-found (suc n) p z k l b h e f g a d =
      ap (λ (x : Bool). cond x (Some l.next) (side_from ns s out n (end_of (equation_in ns s p)))) (sym a) ∙ side-step n p k l b e f g ∙ d

  pub side-done : (n p : ℕ) (z : Maybe ℕ) → n ≤ 0 → side_from ns s out n p ≡ z → None ≡ z
  unfolding side_from
  side-done zero p z l d = d
  side-done (suc n) p z l d = absurd (omega arith)

  pub side-is : (at : ℕ) (r : Maybe ℕ) (i c : Number) → i ≡ number_in s at → c ≡ number_in s i.next → r ≡ side_from ns s out c.value c.next → r ≡ side_t ns s out at
  unfolding side_t
  side-is at r i c e f g = on i _ _ _ e (on c _ _ _ f g)

  -- the bytes that are copied
  pub side-copied : (b : List ℕ) (p at a e : ℕ) (g : Maybe ℕ) (z : State) → at ≡ p → g ≡ side_t ns s out at → a ≡ unwrap_or g 0 → e ≡ end_of (expr_in ns s a) → b ≡ slice_of s a (e - a) → puts b z ≡ puts (side_bytes ns s out p) z
  unfolding side_bytes side_of
  side-copied b p at a e g z f d i h k =
      ap (λ (x : List ℕ). puts x z) (k ∙ ap (λ (y : ℕ). slice_of s a (y - a)) h ∙ ap (λ (y : ℕ). slice_of s y (end_of (expr_in ns s y) - y)) i ∙ ap (side_of ns s out) (d ∙ ap (side_t ns s out) f))

-- the loop over a state's regions: one that does not give the output, one that does, and the end
module _ (t : List ℕ) (f : ℕ → Maybe ℕ) where
  pub giving-went : (n g : ℕ) (m : Maybe ℕ) (b : Bool) (r : ℕ) (z : Maybe ℕ) → 0 < n → m ≡ f g → is_some m ≡ not b → b ≡ false → r ≡ get_or t (g + 4) 0 → giving_from t f n g ≡ z → giving_from t f (n - 1) r ≡ z
  unfolding giving_from
  giving-went zero g m b r z l e c h a d = absurd (omega arith)
  giving-went (suc n) g m b r z l e c h a d =
      let i : suc n - 1 ≡ n = omega arith in
      (λ j. giving_from t f (i j) (a j)) ∙ sym (ap (λ (x : Bool). cond x (some_word g) (giving_from t f n (get_or t (g + 4) 0))) (ap is_none (sym e) ∙ none-told m _ _ c h)) ∙ d

  pub giving-found : (n g : ℕ) (m : Maybe ℕ) (b : Bool) (z : Maybe ℕ) → 0 < n → m ≡ f g → is_some m ≡ not b → b ≡ true → giving_from t f n g ≡ z → some_word g ≡ z
  unfolding giving_from
  giving-found zero g m b z l e c h d = absurd (omega arith)
  giving-found (suc n) g m b z l e c h d =
      sym (ap (λ (x : Bool). cond x (some_word g) (giving_from t f n (get_or t (g + 4) 0))) (ap is_none (sym e) ∙ none-told m _ _ c h)) ∙ d

  pub giving-done : (n g : ℕ) (z : Maybe ℕ) → n ≤ 0 → giving_from t f n g ≡ z → None ≡ z
  unfolding giving_from
  giving-done zero g z l d = d
  giving-done (suc n) g z l d = absurd (omega arith)

  giving-start : (n g r : ℕ) → (0 < n → g ≡ r) → giving_from t f n g ≡ giving_from t f n r
  unfolding giving_from
  giving-start zero g r h = refl
  giving-start (suc n) g r h = ap (giving_from t f (suc n)) (h (omega arith))

  pub entered_from : (k g p : ℕ) → k ≡ get_or t (p + 5) 0 → (0 < get_or t (p + 5) 0 → g ≡ p + 6) → giving_from t f k g ≡ entered_t t f p
  unfolding entered_t
  entered_from k g p e h = ap (λ (y : ℕ). giving_from t f y g) e ∙ giving-start (get_or t (p + 5) 0) g (p + 6) h

module _ (old t qualified : List ℕ) where
  values-step : (F : ℕ → List Item) (q n p : ℕ) (s : State) → render old (values_t t qualified F q (suc (suc n)) p) s ≡ render old (values_t t qualified F q (suc n) (get_or t (p + 4) 0)) (render old (F p) (render old (test_t t qualified q p) s))
  unfolding values_t last_or
  values-step F q n p s =
      render-append old (test_t t qualified q p) _ s
      ∙ render-append old (F p) (values_t t qualified F q (suc n) (get_or t (p + 4) 0)) _

  -- the loop over states: one more, none, and the last
  pub values-more : (F : ℕ → List Item) (q n k p r : ℕ) (y a s z : State) → n ≡ suc k → 0 < k → a ≡ render old (test_t t qualified q p) s → y ≡ render old (F p) a → r ≡ get_or t (p + 4) 0 → render old (values_t t qualified F q n p) s ≡ z → render old (values_t t qualified F q k r) y ≡ z
  values-more F q n zero p r y a s z l g e f c h = absurd (omega arith)
  values-more F q n (suc k) p r y a s z l g e f c h =
      (λ i. render old (values_t t qualified F q (suc k) (c i)) ((f ∙ ap (render old (F p)) e) i))
      ∙ sym (values-step F q k p s) ∙ ap (λ (y : ℕ). render old (values_t t qualified F q y p) s) (sym l) ∙ h

  pub values-none : (F : ℕ → List Item) (q n p : ℕ) (s z : State) → n ≡ 0 → render old (values_t t qualified F q n p) s ≡ z → s ≡ z
  unfolding values_t render
  values-none F q zero p s z l h = h
  values-none F q (suc n) p s z l h = absurd (omega arith)

  pub values-last : (F : ℕ → List Item) (q n p : ℕ) (s z : State) → n ≤ 1 → (n ≡ 0 → ⊥) → render old (values_t t qualified F q n p) s ≡ z → render old (F p) s ≡ z
  unfolding values_t last_or
  values-last F q zero p s z l e h = absurd (e refl)
  values-last F q (suc zero) p s z l e h = h
  values-last F q (suc (suc n)) p s z l e h = absurd (omega arith)

  values-start : (F : ℕ → List Item) (q n p r : ℕ) → (0 < n → p ≡ r) → values_t t qualified F q n p ≡ values_t t qualified F q n r
  unfolding values_t
  values-start F q zero p r h = refl
  values-start F q (suc n) p r h = ap (values_t t qualified F q (suc n)) (h (omega arith))

module _ (old sb t qualified : List ℕ) (ns : List Name) where
  module _ (out : ℕ) where
    -- in a state: its own right side, or the value of the region that is entered
    pub in-own : (v : ℕ → List Item) (f : ℕ → Maybe ℕ) (p : ℕ) (g : Maybe ℕ) (x s : State) → g ≡ entered_t t f p → g ≡ None → x ≡ puts (side_bytes ns sb out (get_or t p 0)) s → x ≡ render old (in_state_t sb t qualified ns out v f p) s
    unfolding in_state_t render put_item
    in-own v f p g x s e h d = d ∙ ap (λ y. render old (into (raw (side_bytes ns sb out (get_or t p 0)) ∷ []) v y) s) (sym h ∙ e)

    pub in-entered : (v : ℕ → List Item) (f : ℕ → Maybe ℕ) (p q : ℕ) (g : Maybe ℕ) (x s : State) → g ≡ entered_t t f p → g ≡ Some q → x ≡ render old (v q) s → x ≡ render old (in_state_t sb t qualified ns out v f p) s
    unfolding in_state_t
    in-entered v f p q g x s e h d = d ∙ ap (λ y. render old (into (raw (side_bytes ns sb out (get_or t p 0)) ∷ []) v y) s) (sym h ∙ e)

    pub value_none : (l q : ℕ) (s : State) → l ≡ 0 → s ≡ render old (value_t sb t qualified ns out l q) s
    unfolding value_t render
    value_none l q s e = rw e

    -- where the states start matters only where there is one
    pub value-some : (l q k p : ℕ) (s : State) → (l ≡ 0 → ⊥) → k ≡ get_or t (q + 6) 0 → (0 < get_or t (q + 6) 0 → p ≡ q + 9) → render old (values_t t qualified (in_state_t sb t qualified ns out (value_t sb t qualified ns out (l - 1)) (uncovered_t ns sb t out (l - 1))) q k p) s ≡ render old (value_t sb t qualified ns out l q) s
    unfolding value_t
    value-some zero q k p s h e g = absurd (h refl)
    value-some (suc l) q k p s h e g =
        let i : suc l - 1 ≡ l = omega arith in
        ap (λ (y : ℕ). render old (values_t t qualified (in_state_t sb t qualified ns out (value_t sb t qualified ns out y) (uncovered_t ns sb t out y)) q k p) s) i
        ∙ ap (λ (is : List Item). render old is s) (ap (λ (y : ℕ). values_t t qualified (in_state_t sb t qualified ns out (value_t sb t qualified ns out l) (uncovered_t ns sb t out l)) q y p) e ∙ values-start old t qualified _ q (get_or t (q + 6) 0) p (q + 9) g)

  pub output-term : (out : ℕ) (s : State) → render old (value_t sb t qualified ns out 8 0) (puts (two out) (puts (two 1) s)) ≡ render old (output_t sb t qualified ns out) s
  unfolding output_t render put_item
  output-term out s = refl

  outputs-step : (n p : ℕ) (s : State) → render old (outputs_t sb t qualified ns (suc n) p) s ≡ render old (outputs_t sb t qualified ns n (end_of (port_in ns sb p))) (render old (output_t sb t qualified ns (number_in sb p).value) s)
  unfolding outputs_t
  outputs-step n p s = render-append old (output_t sb t qualified ns (number_in sb p).value) (outputs_t sb t qualified ns n (end_of (port_in ns sb p))) s

  -- the loop over outputs: one more, and the end
  pub outputs-more : (n k p r : ℕ) (x : Number) (y s z : State) → n ≡ suc k → x ≡ number_in sb p → y ≡ render old (output_t sb t qualified ns x.value) s → r ≡ end_of (port_in ns sb p) → render old (outputs_t sb t qualified ns n p) s ≡ z → render old (outputs_t sb t qualified ns k r) y ≡ z
  outputs-more n k p r x y s z l a b c h =
      (λ i. render old (outputs_t sb t qualified ns k (c i)) ((b ∙ ap (λ (y : Number). render old (output_t sb t qualified ns y.value) s) a) i))
      ∙ sym (outputs-step k p s) ∙ ap (λ (y : ℕ). render old (outputs_t sb t qualified ns y p) s) (sym l) ∙ h

  pub outputs-none : (n p : ℕ) (s z : State) → n ≤ 0 → render old (outputs_t sb t qualified ns n p) s ≡ z → s ≡ z
  unfolding outputs_t render
  outputs-none zero p s z l h = h
  outputs-none (suc n) p s z l h = absurd (omega arith)

  pub outputs-is : (at : ℕ) (c : Number) (s : State) → c ≡ number_in sb at → render old (outputs_t sb t qualified ns c.value c.next) s ≡ render old (port_outputs_t sb t qualified ns at) s
  unfolding port_outputs_t
  outputs-is at c s e = ap (λ (is : List Item). render old is s) (on c (number_in sb at) (λ n p. outputs_t sb t qualified ns n p) _ e refl)
