-- Expressions mapped one by one, by any map: as many as there were, and their items after the head of what holds them.
use Prim.Native.Nat.{suc}
use mathlib.Core.List.{List, [], ◌∷◌, ◌++◌}
use mathlib.Core.Bool.{Bool, true, false}
use mathlib.Core.Path.{◌≡◌, ap, ◌∙◌}
use Rattle.wire.specs.Bytes.{two}
use Rattle.pack_rules.specs.Names.{Name}
use Rattle.pack_rules.specs.Syntax.{Expr, Exprs, IterKind, e_array, e_call, e_iterate, e_struct, e_tuple, x_cons, x_nil}
use Rattle.pack_rules.specs.Write.{Item, arrays, count_of, each, expr_items, flag_byte, iter_byte, nm, raw}
use Rattle.activations.specs.Kids.{head_items, kids, list_of}
use Rattle.activations.proofs.HeadCopies.{items-split}

module _ (G : Expr → Expr) (GS : Exprs → Exprs) (none : GS x_nil ≡ x_nil) (more : (x : Expr) (xs : Exprs) → GS (x_cons x xs) ≡ x_cons (G x) (GS xs)) where
  counted : (xs : Exprs) → count_of (GS xs) ≡ count_of xs
  unfolding count_of
  counted x_nil = ap count_of none
  counted (x_cons x xs) = ap count_of (more x xs) ∙ ap suc (counted xs)

  arrayed : (i : Bool) (xs : Exprs) → arrays i (GS xs) ≡ arrays i xs
  unfolding arrays
  arrayed i x_nil = ap (arrays i) none
  arrayed true (x_cons x xs) = ap (arrays true) (more x xs) ∙ counted xs
  arrayed false (x_cons x xs) = ap (arrays false) (more x xs) ∙ ap suc (counted xs)

  all-items : (xs : Exprs) → each expr_items (list_of (GS xs)) ≡ each (λ x. expr_items (G x)) (list_of xs)
  unfolding each list_of
  all-items x_nil = ap (λ (l : Exprs). each expr_items (list_of l)) none
  all-items (x_cons x xs) = ap (λ (l : Exprs). each expr_items (list_of l)) (more x xs) ∙ ap (λ (l : List Item). expr_items (G x) ++ l) (all-items xs)

  pub call-items : (f : Name) (xs : Exprs) → expr_items (e_call f (GS xs)) ≡ head_items (e_call f xs) ++ each (λ x. expr_items (G x)) (list_of xs)
  unfolding head_items kids
  call-items f xs = items-split (e_call f (GS xs)) ∙ λ j. (raw (7 ∷ []) ∷ nm f ∷ raw (two (counted xs j)) ∷ []) ++ all-items xs j

  pub tuple-items : (xs : Exprs) → expr_items (e_tuple (GS xs)) ≡ head_items (e_tuple xs) ++ each (λ x. expr_items (G x)) (list_of xs)
  unfolding head_items kids
  tuple-items xs = items-split (e_tuple (GS xs)) ∙ λ j. (raw (10 ∷ two (counted xs j)) ∷ []) ++ all-items xs j

  pub array-items : (xs : Exprs) → expr_items (e_array (GS xs)) ≡ head_items (e_array xs) ++ each (λ x. expr_items (G x)) (list_of xs)
  unfolding head_items kids
  array-items xs = items-split (e_array (GS xs)) ∙ λ j. (raw (11 ∷ two (counted xs j)) ∷ []) ++ all-items xs j

  pub struct-items : (n : Name) (fs : List Name) (xs : Exprs) → expr_items (e_struct n fs (GS xs)) ≡ head_items (e_struct n fs xs) ++ each (λ x. expr_items (G x)) (list_of xs)
  unfolding head_items kids
  struct-items n fs xs = items-split (e_struct n fs (GS xs)) ∙ ap (λ (l : List Item). head_items (e_struct n fs xs) ++ l) (all-items xs)

  pub iterate-items : (k : IterKind) (f : Name) (i : Bool) (xs : Exprs) → expr_items (e_iterate k f i (GS xs)) ≡ head_items (e_iterate k f i xs) ++ each (λ x. expr_items (G x)) (list_of xs)
  unfolding head_items kids
  iterate-items k f i xs = items-split (e_iterate k f i (GS xs)) ∙ λ j. (raw (16 ∷ iter_byte k ∷ []) ∷ nm f ∷ raw (flag_byte i ∷ two (arrayed i xs j)) ∷ []) ++ all-items xs j
