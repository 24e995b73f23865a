-- Laws of the layout as the code reads it: words, and parts that are cut at the end.
use Prim.Native.Nat.{ℕ, ◌+◌, ◌-◌, ◌<◌, ◌≤◌, min}
use native.Mathlib.Omega.{arith}
use mathlib.Core.List.{List, [], ◌∷◌}
use mathlib.Core.Bool.{Bool, true, false, cond}
use mathlib.Core.Path.{◌≡◌, refl, sym, ap, ◌∙◌}
use lib.ListN.{length, get_or, take, drop}
use Rattle.wire.specs.declared.writer.Writer.{Writer}
use Rattle.wire.specs.Writer.{State, full, put, puts, state_of}
use Rattle.wire.proofs.Writers.{puts-append, take-capped}
use Rattle.pack_rules.specs.Names.{Name}
use Rattle.pack.specs.RawNames.{raw_name}
use Rattle.pack_rules.specs.Write.{Item}
use Rattle.pack.specs.Intern.{put_name, render}
use Rattle.pack.proofs.TableLaws.{drop-part}
use Rattle.pack.proofs.Written.{render-full}
use Rattle.machines.specs.Layout.{prefix_of, slice_of}
use Rattle.machines.specs.EmitAt.{in_region, letters_at, pack_name}
use Rattle.machines.proofs.TableLaws.{past_end}

-- no such row; a row that is cut
pub word-past : (t : List ℕ) (p k : ℕ) → length t ≤ p → 0 ≡ get_or t (p + k) 0
word-past t p k h = past_end t (p + k) (omega arith)

pub word_cut : (t : List ℕ) (p k : ℕ) → length t - p ≤ k → 0 ≡ get_or t (p + k) 0
word_cut t p k h = past_end t (p + k) (omega arith)

pub first-none : (t : List ℕ) (q r : ℕ) → length t ≤ q → 0 < get_or t (q + 6) 0 → r ≡ q + 9
first-none t q r h l = let e = word-past t q 6 h in absurd (omega arith)

pub inner-none : (t : List ℕ) (p r : ℕ) → length t ≤ p → 0 < get_or t (p + 5) 0 → r ≡ p + 6
inner-none t p r h l = let e = word-past t p 5 h in absurd (omega arith)

pub part-is : (s : List ℕ) (a n b e : ℕ) → b ≡ min a (length s) → e ≡ min (b + n) (length s) → take (e - b) (drop b s) ≡ slice_of s a n
unfolding slice_of
part-is s a n b e f g =
    ap (λ (k : ℕ). take (k - b) (drop b s)) g ∙ take-capped s b n (omega arith) ∙ ap (take n) (drop-part s a b f)

pub between_none : (s x : List ℕ) (a e : ℕ) → e ≤ a → x ≡ slice_of s a 0 → x ≡ slice_of s a (e - a)
between_none s x a e h f = let i : e - a ≡ 0 = omega arith in f ∙ ap (slice_of s a) (sym i)

pub letters-is : (t qualified x : List ℕ) (p a n : ℕ) → a ≡ get_or t (p + 2) 0 → n ≡ get_or t (p + 3) 0 → x ≡ slice_of qualified a n → x ≡ letters_at t qualified p
unfolding letters_at
letters-is t qualified x p a n e f g = g ∙ (λ i. slice_of qualified (e i) (f i))

pub name_in_lem : (s offsets x : List ℕ) (i at : ℕ) → at ≡ get_or offsets i 0 → x ≡ slice_of s (at + 1) (get_or s at 0) → x ≡ pack_name s offsets i
unfolding pack_name raw_name slice_of
name_in_lem s offsets x i at e f = f ∙ ap (raw_name s) e

pub name_out : (s offsets x : List ℕ) (i at : ℕ) → at ≡ get_or offsets i 0 → length s ≤ at → x ≡ slice_of s at 0 → x ≡ pack_name s offsets i
unfolding pack_name raw_name slice_of
name_out s offsets x i at e h f = f ∙ ap (λ (n : ℕ). take n (drop (at + 1) s)) (past_end s at h) ∙ ap (raw_name s) e

pub full_is : (o m : List ℕ) (w : Writer) → w.full ≡ true → state_of o m w ≡ full
unfolding state_of
full_is o m w e = rw e

pub name-as : (old n k : List ℕ) (x s : State) → x ≡ put_name old n s → n ≡ k → x ≡ put_name old k s
name-as old n k x s e f = e ∙ ap (λ (y : List ℕ). put_name old y s) f

-- once the writer is full, what is left changes nothing
pub stays-full : (old : List ℕ) (is : List Item) (o m : List ℕ) (w : Writer) (z : State) → w.full ≡ true → render old is (state_of o m w) ≡ z → state_of o m w ≡ z
stays-full old is o m w z e h = full_is o m w e ∙ sym (ap (render old is) (full_is o m w e) ∙ render-full old is) ∙ h

-- a full writer takes nothing more
pub left-same : (old : List ℕ) (F : ℕ → List Item) (o m : List ℕ) (w : Writer) (n k : ℕ) → k ≡ cond w.full 0 n → render old (F k) (state_of o m w) ≡ render old (F n) (state_of o m w)
left-same old F o m w n k e = go w.full refl e
  where
    go : (b : Bool) → w.full ≡ b → k ≡ cond b 0 n → render old (F k) (state_of o m w) ≡ render old (F n) (state_of o m w)
    go true f g = ap (render old (F k)) (full_is o m w f) ∙ render-full old (F k) ∙ sym (ap (render old (F n)) (full_is o m w f) ∙ render-full old (F n))
    go false f g = ap (λ (j : ℕ). render old (F j) (state_of o m w)) g

-- what is left to do is no more than one less
pub left_less : (w : Writer) (n k : ℕ) → 0 < n → k ≡ cond w.full 0 (n - 1) → k < n
left_less w n k l e = go w.full e
  where
    go : (b : Bool) → k ≡ cond b 0 (n - 1) → k < n
    go true f = omega arith
    go false f = omega arith

-- nor is it more than all

-- the prefix of a name, by whether there is one
no-prefix : (n : Name) (s : State) → length n ≡ 0 → s ≡ puts (prefix_of n) s
unfolding prefix_of puts
no-prefix [] s h = refl
no-prefix (x ∷ xs) s h = absurd (omega arith)

pub prefix-none : (n k : Name) (s : State) → n ≡ k → length n ≡ 0 → s ≡ puts (prefix_of k) s
prefix-none n k s e h = no-prefix n s h ∙ ap (λ (p : Name). puts (prefix_of p) s) e

a-prefix : (n : Name) (s : State) → (length n ≡ 0 → ⊥) → put 95 (puts n s) ≡ puts (prefix_of n) s
unfolding prefix_of puts
a-prefix [] s h = absurd (h refl)
a-prefix (x ∷ xs) s h = sym (puts-append (x ∷ xs) (95 ∷ []) s)

pub prefix-some : (n k : Name) (s : State) → n ≡ k → (length n ≡ 0 → ⊥) → put 95 (puts n s) ≡ puts (prefix_of k) s
prefix-some n k s e h = a-prefix n s h ∙ ap (λ (p : Name). puts (prefix_of p) s) e

pub qualified-is : (sb offsets t qualified n : List ℕ) (q x : ℕ) (s : State) → n ≡ pack_name sb offsets x → puts n (puts (prefix_of (letters_at t qualified q)) s) ≡ puts (in_region sb offsets t qualified q x) s
unfolding in_region
qualified-is sb offsets t qualified n q x s e =
    ap (λ (k : List ℕ). puts k (puts (prefix_of (letters_at t qualified q)) s)) e ∙ sym (puts-append (prefix_of (letters_at t qualified q)) (pack_name sb offsets x) s)

pub left-most : (w : Writer) (n k : ℕ) → k ≡ cond w.full 0 n → k ≤ n
left-most w n k e = go w.full e
  where
    go : (b : Bool) → k ≡ cond b 0 n → k ≤ n
    go true x = omega arith
    go false x = omega arith
