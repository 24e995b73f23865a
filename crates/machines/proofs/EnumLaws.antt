-- Laws of the enums of regions as the code writes them.
use Prim.Native.Nat.{ℕ, zero, suc, ◌+◌, ◌<◌, ◌≤◌}
use native.Mathlib.Omega.{arith}
use native.Mathlib.Numerals.{add-one}
use mathlib.Core.List.{List}
use mathlib.Core.Path.{◌≡◌, refl, sym, ap, ◌∙◌}
use lib.ListN.{get_or}
use Rattle.wire.specs.Bytes.{two}
use Rattle.wire.specs.Writer.{State, puts}
use Rattle.pack_rules.specs.Names.{Name}
use Rattle.pack_rules.specs.Write.{Item}
use Rattle.pack.specs.Intern.{put_item, put_name, render}
use Rattle.pack.proofs.Interns.{render-append}
use Rattle.machine_rules.specs.MadeNames.{enum_name}
use Rattle.machines.specs.EmitAt.{enum_t, enums_t, letters_at, variants_t}

module _ (old t qualified : List ℕ) where
  variants-step : (n p : ℕ) (s : State) → render old (variants_t t qualified (suc n) p) s ≡ render old (variants_t t qualified n (get_or t (p + 4) 0)) (put_name old (letters_at t qualified p) s)
  unfolding variants_t render put_item
  variants-step n p s = refl

  -- the loop over states: one more, and the end
  pub variants-more : (n k p r : ℕ) (x s z : State) → n ≡ suc k → x ≡ put_name old (letters_at t qualified p) s → r ≡ get_or t (p + 4) 0 → render old (variants_t t qualified n p) s ≡ z → render old (variants_t t qualified k r) x ≡ z
  variants-more n k p r x s z l e f h =
      (λ i. render old (variants_t t qualified k (f i)) (e i))
      ∙ sym (variants-step k p s) ∙ ap (λ (y : ℕ). render old (variants_t t qualified y p) s) (sym l) ∙ h

  pub variants-none : (n p : ℕ) (s z : State) → n ≤ 0 → render old (variants_t t qualified n p) s ≡ z → s ≡ z
  unfolding variants_t render
  variants-none zero p s z l h = h
  variants-none (suc n) p s z l h = absurd (omega arith)

  variants-from : (n p r : ℕ) → (0 < n → p ≡ r) → variants_t t qualified n p ≡ variants_t t qualified n r
  unfolding variants_t
  variants-from zero p r h = refl
  variants-from (suc n) p r h = ap (variants_t t qualified (suc n)) (h (omega arith))

  pub enum-term : (m : Name) (q id k p : ℕ) (s : State) → id ≡ get_or t (q + 5) 0 → k ≡ get_or t (q + 6) 0 → (0 < get_or t (q + 6) 0 → p ≡ q + 9) → render old (variants_t t qualified k p) (puts (two k) (put_name old (enum_name m id) s)) ≡ render old (enum_t t qualified m q) s
  unfolding enum_t render put_item
  enum-term m q id k p s e f h =
      (λ i. render old (variants_t t qualified (f i) p) (puts (two (f i)) (put_name old (enum_name m (e i)) s)))
      ∙ ap (λ (is : List Item). render old is (puts (two (get_or t (q + 6) 0)) (put_name old (enum_name m (get_or t (q + 5) 0)) s))) (variants-from (get_or t (q + 6) 0) p (q + 9) h)

  enums-step : (reg : List ℕ) (m : Name) (i n : ℕ) (s : State) → render old (enums_t t qualified reg m i (suc n)) s ≡ render old (enums_t t qualified reg m (suc i) n) (render old (enum_t t qualified m (get_or reg i 0)) s)
  unfolding enums_t
  enums-step reg m i n s = render-append old (enum_t t qualified m (get_or reg i 0)) (enums_t t qualified reg m (suc i) n) s

  -- the loop over regions: one more, and the end
  pub enums-more : (reg : List ℕ) (m : Name) (i n k q : ℕ) (x s z : State) → n ≡ suc k → q ≡ get_or reg i 0 → x ≡ render old (enum_t t qualified m q) s → render old (enums_t t qualified reg m i n) s ≡ z → render old (enums_t t qualified reg m (i + 1) k) x ≡ z
  enums-more reg m i n k q x s z l a e h =
      (λ y. render old (enums_t t qualified reg m (add-one i y) k) ((e ∙ ap (λ (x : ℕ). render old (enum_t t qualified m x) s) a) y))
      ∙ sym (enums-step reg m i k s) ∙ ap (λ (y : ℕ). render old (enums_t t qualified reg m i y) s) (sym l) ∙ h

  pub enums-none : (reg : List ℕ) (m : Name) (i n : ℕ) (s z : State) → n ≤ 0 → render old (enums_t t qualified reg m i n) s ≡ z → s ≡ z
  unfolding enums_t render
  enums-none reg m i zero s z l h = h
  enums-none reg m i (suc n) s z l h = absurd (omega arith)
