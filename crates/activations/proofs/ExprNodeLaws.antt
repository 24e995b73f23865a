-- Laws for what the code meets at a node, by its parts.
use Prim.Native.Nat.{ℕ, ◌+◌, ◌-◌, ◌<◌, ◌≤◌}
use mathlib.Core.List.{List}
use mathlib.Core.Path.{◌≡◌, refl, sym, ap, ◌∙◌}
use lib.ListN.{get_or}
use borrow.Author.Tests.{lt-ltb, le-ltb}
use Rattle.activations.specs.declared.expr_node.ExprNode.{ExprNode}
use Rattle.activations.specs.declared.expr_node.ExprNode.TheVariants as mt
use Rattle.pack_rules.specs.Names.{Name}
use Rattle.pack_rules.specs.Read.{expr_in}
use Rattle.machines.specs.ResolvedIn.{end_of}
use Rattle.machines.proofs.CheckedReadLaws.{yes, no}
use Rattle.activations.specs.ExprNodes.{grown_t, last_rest_t, last_shape_t, last_two_t, plain_t}

pub two-goes : (var at e : ℕ) → at < e → mt.Last var at e ≡ last_two_t var at e
unfolding last_two_t
two-goes var at e h = rw (lt-ltb at e h)

module _ (ns : List Name) (s : List ℕ) where
  pub rest-one : (var under first at : ℕ) → under ≡ 1 → mt.Last var 0 at ≡ last_rest_t ns s var under first at
  unfolding last_rest_t
  rest-one var under first at e = yes under 1 _ _ _ e refl

  pub rest-two : (var under first at e : ℕ) (r : ExprNode) → (under ≡ 1 → ⊥) → under ≡ 2 → e ≡ end_of (expr_in ns s at) → r ≡ last_two_t var at e → r ≡ last_rest_t ns s var under first at
  unfolding last_rest_t
  rest-two var under first at e r f g h i = no under 1 _ _ _ f (yes under 2 _ _ _ g (i ∙ ap (last_two_t var at) h))

  pub rest-bad : (var under first at : ℕ) → (under ≡ 1 → ⊥) → (under ≡ 2 → ⊥) → mt.Bad under first ≡ last_rest_t ns s var under first at
  unfolding last_rest_t
  rest-bad var under first at f g = no under 1 _ _ _ f (no under 2 _ _ _ g refl)

  pub shape-none : (under at : ℕ) → under ≡ 0 → mt.Bad under at ≡ last_shape_t ns s under at
  unfolding last_shape_t
  shape-none under at e = yes under 0 _ _ _ e refl

pub plain-const : (s : List ℕ) (at under next b : ℕ) → b ≡ get_or s at 0 → b ≡ 0 → mt.Const next ≡ plain_t s at under next
unfolding plain_t
plain-const s at under next b e f = yes (get_or s at 0) 0 _ _ _ (sym e ∙ f) refl

pub plain_other : (s : List ℕ) (at under next b : ℕ) → b ≡ get_or s at 0 → (b ≡ 0 → ⊥) → mt.Other under next ≡ plain_t s at under next
unfolding plain_t
plain_other s at under next b e f = no (get_or s at 0) 0 _ _ _ (λ h. f (e ∙ h)) refl

-- how many are to come where no count is past the limit
pub grown-is : (n under : ℕ) → n ≤ 65536 → under ≤ 65536 → n - 1 + under ≡ grown_t n under
unfolding grown_t
grown-is n under l h = rw (le-ltb 65536 n l, le-ltb 65536 under h)
