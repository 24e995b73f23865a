-- Laws for the code that writes the equations of holders, step by step.
use Prim.Native.Nat.{ℕ}
use mathlib.Core.List.{List, [], ◌∷◌}
use mathlib.Core.Path.{◌≡◌, refl, ap, ◌∙◌}
use lib.ListN.{get_or}
use borrow.Author.Tests.{ne_eqb}
use Rattle.wire.specs.Bytes.{bytes, two}
use Rattle.wire.specs.Writer.{State, put, puts}
use Rattle.pack_rules.specs.Names.{Name}
use Rattle.pack_rules.specs.Write.{flag_byte, lit_bytes}
use Rattle.pack.specs.Intern.{put_item, put_name, render}
use Rattle.machines.specs.EmitAt.{pack_name}
use Rattle.activations.specs.declared.pack_info.PackInfo.{PackInfo}
use Rattle.activation_rules.specs.MadeNames.{last_var}
use Rattle.activations.specs.TypesAt.{zero_of}
use Rattle.activations.specs.LastsAt.{word_t}
use Rattle.activations.specs.HoldersAt.{holder_items, init_bytes, row_items}

pub zero-bool : (tag : ℕ) (x z : State) → tag ≡ 0 → x ≡ puts (0 ∷ 0 ∷ 0 ∷ []) z → x ≡ puts (0 ∷ lit_bytes (zero_of tag)) z
unfolding zero_of lit_bytes flag_byte
zero-bool tag x z e f = rw e f

pub zero-int : (tag : ℕ) (x z : State) → tag ≡ 1 → x ≡ puts (0 ∷ 1 ∷ 0 ∷ 0 ∷ 0 ∷ 0 ∷ 0 ∷ 0 ∷ 0 ∷ 0 ∷ []) z → x ≡ puts (0 ∷ lit_bytes (zero_of tag)) z
unfolding zero_of lit_bytes bytes
zero-int tag x z e f = rw e f

pub zero-float : (tag : ℕ) (x z : State) → tag ≡ 2 → x ≡ puts (0 ∷ 2 ∷ 0 ∷ 0 ∷ 0 ∷ 0 ∷ 0 ∷ 0 ∷ 0 ∷ 0 ∷ []) z → x ≡ puts (0 ∷ lit_bytes (zero_of tag)) z
unfolding zero_of lit_bytes bytes
zero-float tag x z e f = rw e f

pub zero-char : (tag : ℕ) (x z : State) → (tag ≡ 0 → ⊥) → (tag ≡ 1 → ⊥) → (tag ≡ 2 → ⊥) → x ≡ puts (0 ∷ 3 ∷ 0 ∷ []) z → x ≡ puts (0 ∷ lit_bytes (zero_of tag)) z
unfolding zero_of lit_bytes
zero-char tag x z a b c f = rw (ne_eqb tag 0 a, ne_eqb tag 1 b, ne_eqb tag 2 c) f

module _ (ns : List Name) (s : List ℕ) (b : PackInfo) (offsets : List ℕ) where
  pub row-items : (old : List ℕ) (a : Name) (env lasts : List ℕ) (h v i j c : ℕ) (x z : State) → v ≡ word_t lasts h 0 → i ≡ word_t lasts h 1 → j ≡ word_t lasts h 2 → c ≡ get_or env j 0
      → x ≡ render old (holder_items s offsets a v (init_bytes ns s b offsets i c)) z → x ≡ render old (row_items ns s b offsets a env lasts h) z
  unfolding row_items
  row-items old a env lasts h v i j c x z e f g k l = l ∙ (λ o. render old (holder_items s offsets a (e o) (init_bytes ns s b offsets (f o) ((k ∙ ap (λ y. get_or env y 0) g) o))) z)

holder-steps : (old s offsets : List ℕ) (a : Name) (v : ℕ) (bs : List ℕ) (w : State) → puts (two v) (puts (5 ∷ 1 ∷ []) (puts bs (put 6 (put_name old (last_var a (pack_name s offsets v)) (puts (two 1) w))))) ≡ render old (holder_items s offsets a v bs) w
unfolding holder_items render put_item puts
holder-steps old s offsets a v bs w = refl

pub holder-written : (old s offsets : List ℕ) (a : Name) (v : ℕ) (bs : List ℕ) (n : Name) (u x y z i p : State) (w : State) → n ≡ pack_name s offsets v → x ≡ puts (two 1) w → y ≡ put_name old (last_var a n) x → z ≡ put 6 y → i ≡ puts bs z → p ≡ puts (5 ∷ 1 ∷ []) i → u ≡ puts (two v) p → u ≡ render old (holder_items s offsets a v bs) w
holder-written old s offsets a v bs n u x y z i p w e f g h j k l =
    l ∙ ap (puts (two v)) (k ∙ ap (puts (5 ∷ 1 ∷ [])) (j ∙ ap (puts bs) (h ∙ ap (put 6) (g ∙ (λ o. put_name old (last_var a (e o)) (f o))))))
    ∙ holder-steps old s offsets a v bs w
