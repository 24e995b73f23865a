-- Laws for the code that writes right sides over samples, step by step.
use Prim.Native.Nat.{ℕ, suc, ◌+◌, ◌-◌, ◌<◌, ◌≤◌}
use native.Mathlib.Numerals.{add-one}
use native.Mathlib.Omega.{arith}
use mathlib.Core.List.{List, [], ◌∷◌}
use mathlib.Core.Bool.{Bool, false, cond}
use mathlib.Core.Logic.{⊎_elim}
use mathlib.Core.Path.{◌≡◌, sym, ap, ◌∙◌}
use lib.ListN.{length, get_or, drop, drop_of_length-le}
use lib.Seq.{drop-cons}
use lib.Dec.{eqb}
use borrow.Author.Tests.{eq-eqb, ne_eqb}
use types.Run.{OneOf}
use denote.Enum.Declared.{tag_of}
use Rattle.wire.specs.Writer.{State, puts}
use Rattle.pack_rules.specs.Names.{Name}
use Rattle.pack_rules.specs.Write.{raw}
use Rattle.pack.specs.Intern.{put_item, put_name, render}
use Rattle.pack.proofs.Interns.{render-append}
use Rattle.machines.specs.Layout.{slice_of}
use Rattle.activations.specs.contracts.expr_node.ExprNode as Met-enum
use Rattle.activations.specs.declared.expr_node.ExprNode.{ExprNode}
use Rattle.activations.specs.declared.expr_node.ExprNode.TheVariants as mt
use Rattle.activations.specs.Vars.{scope_at}
use Rattle.activations.specs.ExprNodes.{is_const, onward_t}
use Rattle.activations.specs.Walks.{or_step, walked, write_step}
use Rattle.activations.specs.ByNumber.{onto_items}
use Rattle.activations.specs.RewriteLastAt.{copy_items, met_items}
use Rattle.activations.specs.NameIdsAt.{id_items, sample_name_t, sample_t}
use Rattle.activations.specs.OverSamplesAt.{chosen_items, clocked_items, has_const_t, other_items, rename_items, rename_t, renamed_from, renamed_t, sampled_constant_items, sampled_constant_t}
use Rattle.activations.proofs.Moving.{ended}
use Rattle.activations.proofs.RewriteLastLaws.{copied-to}

-- what stands for a number: one read more that is it, that is another, and the end
module _ (f : ℕ → ℕ) (ids : List ℕ) (i x y z : ℕ) where
  next-read : i < length ids → renamed_from f (drop i ids) x y ≡ z → cond (eqb (get_or ids i 0) x) (renamed_from f (drop (suc i) ids) (f x) x) (renamed_from f (drop (suc i) ids) x y) ≡ z
  unfolding renamed_from
  next-read l e = ap (λ (v : List ℕ). renamed_from f v x y) (sym (drop-cons ids i 0 l)) ∙ e

  pub renamed-hit : (u v : ℕ) → i < length ids → get_or ids i 0 ≡ x → u ≡ f x → v ≡ x → renamed_from f (drop i ids) x y ≡ z → renamed_from f (drop (i + 1) ids) u v ≡ z
  renamed-hit u v l e g h k =
      ap (λ (j : ℕ). renamed_from f (drop j ids) u v) (add-one i)
      ∙ (λ j. renamed_from f (drop (suc i) ids) (g j) (h j))
      ∙ sym (ap (λ (b : Bool). cond b (renamed_from f (drop (suc i) ids) (f x) x) (renamed_from f (drop (suc i) ids) x y)) (eq-eqb (get_or ids i 0) x e))
      ∙ next-read l k

  pub renamed-past : (u v : ℕ) → i < length ids → (get_or ids i 0 ≡ x → ⊥) → u ≡ x → v ≡ y → renamed_from f (drop i ids) x y ≡ z → renamed_from f (drop (i + 1) ids) u v ≡ z
  renamed-past u v l e g h k =
      ap (λ (j : ℕ). renamed_from f (drop j ids) u v) (add-one i)
      ∙ (λ j. renamed_from f (drop (suc i) ids) (g j) (h j))
      ∙ sym (ap (λ (b : Bool). cond b (renamed_from f (drop (suc i) ids) (f x) x) (renamed_from f (drop (suc i) ids) x y)) (ne_eqb (get_or ids i 0) x e))
      ∙ next-read l k

  pub renamed-end : length ids ≤ i → renamed_from f (drop i ids) x y ≡ z → y ≡ z
  unfolding renamed_from
  renamed-end l e = ap (λ (v : List ℕ). renamed_from f v x y) (sym (drop_of_length-le ids l)) ∙ e

pub const-is : (ns : List Name) (s : List ℕ) (last at : ℕ) (r : Bool) → r ≡ walked ns s last (or_step is_const) 1 at false → r ≡ has_const_t ns s last at
unfolding has_const_t
const-is ns s last at r e = e

-- a node of an expression whose constants are pinned
module _ (old s offsets : List ℕ) (a : Name) (n k : ℕ) where
  pub pin-other : (m : ExprNode) (p : ℕ) (x z : State) → OneOf (0 ∷ 1 ∷ 3 ∷ 4 ∷ 5 ∷ 6 ∷ []) (tag_of Met-enum.the_type m) → x ≡ render old (met_items s offsets a m p) z → x ≡ render old (sampled_constant_items s offsets a n k m p) z
  unfolding sampled_constant_items
  pin-other (mt.Last v i q) p x z h e = e
  pin-other (mt.Bad u q) p x z h e = e
  pin-other (mt.Const q) p x z h e = absurd (⊎_elim (λ d. omega arith) (λ d. ⊎_elim (λ d. omega arith) (λ d. ⊎_elim (λ d. omega arith) (λ d. ⊎_elim (λ d. omega arith) (λ d. ⊎_elim (λ d. omega arith) (λ d. omega arith) d) d) d) d) h)
  pin-other (mt.Var i q) p x z h e = e
  pin-other (mt.Clocked c u q) p x z h e = e
  pin-other (mt.Other u q) p x z h e = e
  pin-other mt.Nothing p x z h e = e

  const-as : (q p : ℕ) (z : State) → puts (slice_of s p (q - p)) (render old (onto_items a n (scope_at n k)) z) ≡ render old (sampled_constant_items s offsets a n k (mt.Const q) p) z
  unfolding sampled_constant_items copy_items render put_item
  const-as q p z = sym (render-append old (onto_items a n (scope_at n k)) (raw (slice_of s p (q - p)) ∷ []) z)

  pub pin-const : (m : ExprNode) (q p : ℕ) (h : List ℕ) (x y z : State) → m ≡ mt.Const q → h ≡ slice_of s p (q - p) → y ≡ render old (onto_items a n (scope_at n k)) z → x ≡ puts h y → x ≡ render old (sampled_constant_items s offsets a n k m p) z
  pin-const m q p h x y z e f g i = i ∙ (λ j. puts (f j) (g j)) ∙ const-as q p z ∙ ap (λ (v : ExprNode). render old (sampled_constant_items s offsets a n k v p) z) (sym e)

  module _ (ns : List Name) (last : ℕ) where
    pub pin-done : (c p at : ℕ) (z y : State) → c ≤ 0 → walked ns s last (write_step old (sampled_constant_items s offsets a n k)) c p z ≡ walked ns s last (write_step old (sampled_constant_items s offsets a n k)) 1 at y → z ≡ sampled_constant_t old s offsets a n k ns last at y
    unfolding sampled_constant_t
    pin-done c p at z y l e = ended ns s last (write_step old (sampled_constant_items s offsets a n k)) c p z _ l e

-- what is written for a number, and a node whose name is renamed
module _ (old s offsets : List ℕ) (names : ℕ) (made : Bool) (a : Name) (n k : ℕ) (ids : List ℕ) where
  pub renamed-is : (x r : ℕ) → r ≡ renamed_from (sample_t s offsets names a old made n k) ids x 65536 → r ≡ renamed_t old s offsets names made a n k ids x
  unfolding renamed_t
  renamed-is x r e = e

  pub chosen-stays : (x y : ℕ) (v z : State) → y ≡ renamed_t old s offsets names made a n k ids x → y ≡ 65536 → v ≡ render old (id_items s offsets names a x) z → v ≡ render old (chosen_items old s offsets names made a n k ids x) z
  unfolding chosen_items
  chosen-stays x y v z e f g = rw (eq-eqb (renamed_t old s offsets names made a n k ids x) 65536 (sym e ∙ f)) g

  pub chosen-sample : (x y : ℕ) (v z : State) → y ≡ renamed_t old s offsets names made a n k ids x → (y ≡ 65536 → ⊥) → v ≡ put_name old (sample_name_t s offsets names a n k y) z → v ≡ render old (chosen_items old s offsets names made a n k ids x) z
  unfolding chosen_items render put_item
  chosen-sample x y v z e f g = rw (ne_eqb (renamed_t old s offsets names made a n k ids x) 65536 (λ h. f (e ∙ h))) (g ∙ ap (λ (i : ℕ). put_name old (sample_name_t s offsets names a n k i) z) e)

  pub clock-chosen : (x : ℕ) (h t f : List ℕ) (v u y z : State) → t ≡ slice_of h 0 1 → y ≡ puts t z → u ≡ render old (chosen_items old s offsets names made a n k ids x) y → f ≡ slice_of h 3 1 → v ≡ puts f u → v ≡ render old (clocked_items old s offsets names made a n k ids x h) z
  unfolding clocked_items render put_item
  clock-chosen x h t f v u y z e g i j l =
      l ∙ (λ q. puts (j q) (i q)) ∙ ap (λ (w : State). puts (slice_of h 3 1) (render old (chosen_items old s offsets names made a n k ids x) w)) (g ∙ ap (λ (b : List ℕ). puts b z) e)
      ∙ sym (render-append old (chosen_items old s offsets names made a n k ids x) (raw (slice_of h 3 1) ∷ []) (puts (slice_of h 0 1) z))

  pub other-var : (m : ExprNode) (x q p : ℕ) (y z : State) → m ≡ mt.Var x q → y ≡ render old (raw (1 ∷ []) ∷ chosen_items old s offsets names made a n k ids x) z → y ≡ render old (other_items old s offsets names made a n k ids m p) z
  unfolding other_items
  other-var m x q p y z e g = g ∙ ap (λ (w : ExprNode). render old (other_items old s offsets names made a n k ids w p) z) (sym e)

  pub other-clock : (m : ExprNode) (x u q p j : ℕ) (h : List ℕ) (y z : State) → m ≡ mt.Clocked x u q → j ≡ onward_t m → h ≡ slice_of s p (j - p) → y ≡ render old (clocked_items old s offsets names made a n k ids x h) z → y ≡ render old (other_items old s offsets names made a n k ids m p) z
  unfolding other_items onward_t
  other-clock m x u q p j h y z e f g i =
      i ∙ ap (λ (l : List ℕ). render old (clocked_items old s offsets names made a n k ids x l) z) (g ∙ ap (λ (w : ℕ). slice_of s p (w - p)) (f ∙ ap onward_t e))
      ∙ ap (λ (w : ExprNode). render old (other_items old s offsets names made a n k ids w p) z) (sym e)

  pub other-copied : (m : ExprNode) (p q : ℕ) (h : List ℕ) (x z : State) → OneOf (0 ∷ 1 ∷ 2 ∷ 5 ∷ 6 ∷ []) (tag_of Met-enum.the_type m) → q ≡ onward_t m → h ≡ slice_of s p (q - p) → x ≡ puts h z → x ≡ render old (other_items old s offsets names made a n k ids m p) z
  unfolding other_items onward_t
  other-copied (mt.Last v i e) p q h x z t f g j = copied-to old s p e h x z (g ∙ ap (λ y. slice_of s p (y - p)) f) j
  other-copied (mt.Bad u e) p q h x z t f g j = copied-to old s p e h x z (g ∙ ap (λ y. slice_of s p (y - p)) f) j
  other-copied (mt.Const e) p q h x z t f g j = copied-to old s p e h x z (g ∙ ap (λ y. slice_of s p (y - p)) f) j
  other-copied (mt.Var i e) p q h x z t f g j = absurd (⊎_elim (λ d. omega arith) (λ d. ⊎_elim (λ d. omega arith) (λ d. ⊎_elim (λ d. omega arith) (λ d. ⊎_elim (λ d. omega arith) (λ d. omega arith) d) d) d) t)
  other-copied (mt.Clocked c u e) p q h x z t f g j = absurd (⊎_elim (λ d. omega arith) (λ d. ⊎_elim (λ d. omega arith) (λ d. ⊎_elim (λ d. omega arith) (λ d. ⊎_elim (λ d. omega arith) (λ d. omega arith) d) d) d) t)
  other-copied (mt.Other u e) p q h x z t f g j = copied-to old s p e h x z (g ∙ ap (λ y. slice_of s p (y - p)) f) j
  other-copied mt.Nothing p q h x z t f g j = copied-to old s p 0 h x z (g ∙ ap (λ y. slice_of s p (y - p)) f) j

  module _ (lasts : List ℕ) (rows : ℕ) where
    module _ (ns : List Name) (last : ℕ) where
      pub rename-done : (c p at : ℕ) (z y : State) → c ≤ 0 → walked ns s last (write_step old (rename_items old s offsets names made a n k ids lasts rows)) c p z ≡ walked ns s last (write_step old (rename_items old s offsets names made a n k ids lasts rows)) 1 at y → z ≡ rename_t old s offsets names made a n k ids lasts rows ns last at y
      unfolding rename_t
      rename-done c p at z y l e = ended ns s last (write_step old (rename_items old s offsets names made a n k ids lasts rows)) c p z _ l e
