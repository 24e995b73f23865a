-- Laws for the code that writes expressions with calls of `last` replaced, step by step.
use Prim.Native.Nat.{ℕ, ◌-◌, ◌≤◌}
use native.Mathlib.Omega.{arith}
use mathlib.Core.List.{List, [], ◌∷◌}
use mathlib.Core.Logic.{⊎_elim}
use mathlib.Core.Path.{◌≡◌, refl, sym, ap, ◌∙◌}
use types.Run.{OneOf}
use denote.Enum.Declared.{tag_of}
use Rattle.wire.specs.Writer.{State, full, put, puts}
use Rattle.pack_rules.specs.Names.{Name}
use Rattle.pack.specs.Intern.{put_item, put_name, render}
use Rattle.machines.specs.Layout.{slice_of}
use Rattle.machines.specs.EmitAt.{pack_name}
use Rattle.activations.specs.contracts.expr_node.ExprNode as Met-enum
use Rattle.activations.specs.declared.expr_node.ExprNode.{ExprNode}
use Rattle.activations.specs.declared.expr_node.ExprNode.TheVariants as mt
use Rattle.activation_rules.specs.MadeNames.{last_var}
use Rattle.activations.specs.ExprNodes.{onward_t}
use Rattle.activations.specs.Walks.{walked, write_step}
use Rattle.activations.specs.RewriteLastAt.{copy_items, met_items, rewrite_last_t}
use Rattle.activations.proofs.Moving.{ended}
use Rattle.activations.proofs.PassLaws.{full-walked}

-- no call of `last`: its bytes
pub copied-to : (old s : List ℕ) (p q : ℕ) (h : List ℕ) (x z : State) → h ≡ slice_of s p (q - p) → x ≡ puts h z → x ≡ render old (copy_items s p q) z
unfolding copy_items render put_item
copied-to old s p q h x z e f = f ∙ ap (λ (y : List ℕ). puts y z) e

module _ (old s offsets : List ℕ) (a : Name) where
  pub met-copied : (m : ExprNode) (p q : ℕ) (h : List ℕ) (x z : State) → OneOf (1 ∷ 2 ∷ 3 ∷ 4 ∷ 5 ∷ 6 ∷ []) (tag_of Met-enum.the_type m) → q ≡ onward_t m → h ≡ slice_of s p (q - p) → x ≡ puts h z → x ≡ render old (met_items s offsets a m p) z
  unfolding met_items onward_t
  met-copied (mt.Last v i e) p q h x z k f g j = absurd (⊎_elim (λ d. omega arith) (λ d. ⊎_elim (λ d. omega arith) (λ d. ⊎_elim (λ d. omega arith) (λ d. ⊎_elim (λ d. omega arith) (λ d. ⊎_elim (λ d. omega arith) (λ d. omega arith) d) d) d) d) k)
  met-copied (mt.Bad u e) p q h x z k f g j = copied-to old s p e h x z (g ∙ ap (λ y. slice_of s p (y - p)) f) j
  met-copied (mt.Const e) p q h x z k f g j = copied-to old s p e h x z (g ∙ ap (λ y. slice_of s p (y - p)) f) j
  met-copied (mt.Var i e) p q h x z k f g j = copied-to old s p e h x z (g ∙ ap (λ y. slice_of s p (y - p)) f) j
  met-copied (mt.Clocked c u e) p q h x z k f g j = copied-to old s p e h x z (g ∙ ap (λ y. slice_of s p (y - p)) f) j
  met-copied (mt.Other u e) p q h x z k f g j = copied-to old s p e h x z (g ∙ ap (λ y. slice_of s p (y - p)) f) j
  met-copied mt.Nothing p q h x z k f g j = copied-to old s p 0 h x z (g ∙ ap (λ y. slice_of s p (y - p)) f) j

  -- a call of `last`: its holder
  held-as : (v i e p : ℕ) (z : State) → put_name old (last_var a (pack_name s offsets v)) (puts (1 ∷ []) z) ≡ render old (met_items s offsets a (mt.Last v i e) p) z
  unfolding met_items render put_item
  held-as v i e p z = refl

  pub met-held : (m : ExprNode) (v i e p : ℕ) (n : Name) (x y z : State) → m ≡ mt.Last v i e → n ≡ pack_name s offsets v → y ≡ put 1 z → x ≡ put_name old (last_var a n) y → x ≡ render old (met_items s offsets a m p) z
  unfolding puts
  met-held m v i e p n x y z f g h k =
      k ∙ (λ j. put_name old (last_var a (g j)) (h j)) ∙ held-as v i e p z ∙ ap (λ (w : ExprNode). render old (met_items s offsets a w p) z) (sym f)

  module _ (ns : List Name) (last : ℕ) where
    -- a full writer stays full
    pub unlast-full : (at : ℕ) → rewrite_last_t ns s last old offsets a at full ≡ full
    unfolding rewrite_last_t
    unlast-full at = full-walked ns s last old (met_items s offsets a) 1 at

    pub unlast-done : (n p at : ℕ) (z y : State) → n ≤ 0 → walked ns s last (write_step old (met_items s offsets a)) n p z ≡ walked ns s last (write_step old (met_items s offsets a)) 1 at y → z ≡ rewrite_last_t ns s last old offsets a at y
    unfolding rewrite_last_t
    unlast-done n p at z y l e = ended ns s last (write_step old (met_items s offsets a)) n p z _ l e
