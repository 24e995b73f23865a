-- Laws for loops over 0..n, whose invariants say what is left from the index i on.
use Prim.Native.Nat.{ℕ, suc, ◌+◌, ◌-◌, ◌<◌, ◌≤◌}
use native.Mathlib.Omega.{arith}
use mathlib.Core.List.{List}
use mathlib.Core.Bool.{true}
use mathlib.Core.Path.{◌≡◌, sym, ap, ◌∙◌}
use Rattle.wire.specs.declared.writer.Writer.{Writer}
use Rattle.wire.specs.Writer.{State, full, state_of}
use Rattle.pack_rules.specs.Write.{Item}
use Rattle.pack.specs.Intern.{render}
use native.Mathlib.Numerals.{add-one}
use Rattle.pack.proofs.Interns.{render-append}
use Rattle.pack.proofs.Written.{render-full}
use Rattle.machines.specs.AddedAt.{each_t}
use Rattle.machines.proofs.RowLaws.{full_is}

-- one less after each, none at the end
pub left_one : {n i : ℕ} → i < n → n - i ≡ suc (n - (i + 1))
left_one l = omega arith

pub left_none : {n i : ℕ} → n ≤ i → n - i ≤ 0
left_none l = omega arith

-- where the writer is full nothing of what is left is written
pub stopped_at : (F : State → State) → F full ≡ full → (o m : List ℕ) (w : Writer) (z : State) → w.full ≡ true → F (state_of o m w) ≡ z → state_of o m w ≡ z
stopped_at F k o m w z e h = let g = full_is o m w e in g ∙ sym k ∙ sym (ap F g) ∙ h

pub stopped : (old : List ℕ) (is : List Item) (o m : List ℕ) (w : Writer) (z : State) → w.full ≡ true → render old is (state_of o m w) ≡ z → state_of o m w ≡ z
stopped old is o m w z e h = stopped_at (render old is) (render-full old is) o m w z e h

pub stopped_too : (old : List ℕ) (is js : List Item) (o m : List ℕ) (w : Writer) (z : State) → w.full ≡ true → render old is (state_of o m w) ≡ z → render old js (state_of o m w) ≡ z
stopped_too old is js o m w z e h = ap (render old js) (full_is o m w e) ∙ render-full old js ∙ sym (full_is o m w e) ∙ stopped old is o m w z e h

-- items by their index: one more
pub each_on : (old : List ℕ) (f : ℕ → List Item) (i n : ℕ) (x s z : State) {rest : ℕ} → n ≡ suc rest → x ≡ render old (f i) s → render old (each_t f n i) s ≡ z → render old (each_t f rest (i + 1)) x ≡ z
unfolding each_t
each_on old f i n x s z {rest} l e h =
    (λ j. render old (each_t f rest (add-one i j)) (e j))
    ∙ sym (render-append old (f i) (each_t f rest (suc i)) s) ∙ ap (λ k. render old (each_t f k i) s) (sym l) ∙ h
