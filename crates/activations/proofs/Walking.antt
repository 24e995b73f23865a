-- A pass over the nodes of expressions that were read does what a function on expressions does.
use Prim.Native.Nat.{ℕ, zero, suc, ◌+◌, ◌<◌, ◌≤◌}
use native.Mathlib.Omega.{arith}
use mathlib.Core.List.{List, [], ◌∷◌, ◌++◌}
use mathlib.Core.Path.{◌≡◌, refl, sym, ap, subst, ◌∙◌}
use lib.ListN.{length}
use Rattle.activations.specs.declared.expr_node.ExprNode.{ExprNode}
use Rattle.wire.specs.Answer.{many, value}
use Rattle.wire.specs.Lists.{All, Bytes}
use Rattle.wire.proofs.Answers.{fwd-many}
use Rattle.pack_rules.specs.Names.{Name}
use Rattle.pack_rules.specs.Syntax.{Expr}
use Rattle.pack_rules.specs.Read.{expr_in}
use Rattle.pack.proofs.Tables.{all_append, all-unit}
use Rattle.machines.proofs.Reading.{many-cut, many-end, many_more, many-over}
use Rattle.machines.proofs.PackCounts.{fwd-expr_in}
use Rattle.activations.specs.ExprNodes.{expr_node_at, onward_t}
use Rattle.activations.specs.Walks.{LastIs, through, walk_t, walked}
use Rattle.activations.proofs.NodesRead.{expr-moves, many-both, many-joined, many-none, many-room}
use Rattle.activations.proofs.Views.{View, to_come, viewed}

pub through-append : {S : Type 0} (T : Expr → S → S) (es us : List Expr) (z : S) → through T (es ++ us) z ≡ through T us (through T es z)
unfolding through
through-append T [] us z = refl
through-append T (e ∷ es) us z = through-append T es us (T e z)

module _ (ns : List Name) (s : List ℕ) (few : length ns < 65536) (by : Bytes s) (short : length s ≤ 65536) (last : ℕ) (L : LastIs ns last) {S : Type 0} (step : ExprNode → ℕ → S → S) where
  -- a pass whose state stands for that of a function on expressions, by the offset reached, where something holds of every
  -- expression that is met: what it owes is its step, and that the function takes the same
  module _ {Z : Type 0} (T : Expr → Z → Z) (R : ℕ → S → Z → Type 0) (Q : Expr → Type 0) where
    abbrev pub FollowsBy : Type 0
    FollowsBy = (p : ℕ) (e : Expr) (q : ℕ) (m : ExprNode) (z : S) (y : Z) → expr_in ns s p ≡ value e q → m ≡ expr_node_at ns s last p → View ns s e m → Q e → R p z y
        → (x : Z) × (T e y ≡ through T (to_come m e) x) × R (onward_t m) (step m p z) x × All Q (to_come m e)

    module _ (follows : FollowsBy) where
      all-walk : (f n p : ℕ) (es : List Expr) (q : ℕ) (z : S) (y : Z) → length s ≤ p + f → many (expr_in ns s) n p ≡ value es q → All Q es → R p z y → R q (walk_t ns s last step (suc f) n p z) (through T es y)
      unfolding walk_t through All
      all-walk zero zero p [] q z y h e k r = subst (λ (i : ℕ). R i z y) (many-end (expr_in ns s) p q e) r
      all-walk (suc f) zero p [] q z y h e k r = subst (λ (i : ℕ). R i z y) (many-end (expr_in ns s) p q e) r
      all-walk zero zero p (x ∷ xs) q z y h e k r = absurd (many-cut (expr_in ns s) p x xs q e)
      all-walk (suc f) zero p (x ∷ xs) q z y h e k r = absurd (many-cut (expr_in ns s) p x xs q e)
      all-walk zero (suc n) p [] q z y h e k r = absurd (many-over (expr_in ns s) n p q e)
      all-walk (suc f) (suc n) p [] q z y h e k r = absurd (many-over (expr_in ns s) n p q e)
      all-walk zero (suc n) p (x ∷ xs) q z y h e k r =
          let a = many_more (expr_in ns s) n p x xs q e in
          let v = viewed ns s few by last L p x a.0 a.1 in
          let i = v.moves in let j = v.inside in absurd (omega arith)
      all-walk (suc f) (suc n) p (x ∷ xs) q z y h e k r =
          let a = many_more (expr_in ns s) n p x xs q e in
          let v = viewed ns s few by last L p x a.0 a.1 in
          let i = v.moves in
          let m = expr_node_at ns s last p in
          let b = expr-moves ns s p x a.0 a.1 in
          let c = many-room ns s (length (to_come m x)) (onward_t m) (to_come m x) a.0 v.to in
          let d = many-room ns s n a.0 xs q a.2 in
          let g = (fwd-many (length s) (expr_in ns s) (fwd-expr_in ns s) n a.0 xs q a.2).inside b.1 in
          let u = b.0 in
          let l = b.1 in
          let o = follows p x a.0 m z y a.1 refl v.view k.0 r in
          let w = all-walk f (length (to_come m x) + n) (onward_t m) (to_come m x ++ xs) q (step m p z) o.0 (omega arith) (many-both (expr_in ns s) (to_come m x) (onward_t m) a.0 n xs q v.to a.2) (all_append Q (to_come m x) xs o.3 k.1) o.2 in
          subst (λ (j : ℕ). R q (walk_t ns s last step (suc f) j (onward_t m) (step m p z)) (through T xs (T x y))) (sym (v.opens n (omega arith) (omega arith)))
          (subst (R q (walk_t ns s last step (suc f) (length (to_come m x) + n) (onward_t m) (step m p z))) (through-append T (to_come m x) xs o.0 ∙ ap (through T xs) (sym o.1)) w)

      pub walks-all : (n p : ℕ) (es : List Expr) (q : ℕ) (z : S) (y : Z) → many (expr_in ns s) n p ≡ value es q → All Q es → R p z y → R q (walked ns s last step n p z) (through T es y)
      unfolding walked
      walks-all n p es q z y e k r = all-walk (length s) n p es q z y (omega arith) e k r

      -- THE LAW: one expression that was read
      pub walks-by : (p : ℕ) (e : Expr) (q : ℕ) (z : S) (y : Z) → expr_in ns s p ≡ value e q → Q e → R p z y → R q (walked ns s last step 1 p z) (T e y)
      unfolding through All
      walks-by p e q z y d k r = walks-all 1 p (e ∷ []) q z y (many-joined (expr_in ns s) 0 p e q [] q d (many-none (expr_in ns s) q)) (k, tt) r

  module _ (T : Expr → S → S) where
    -- what a pass owes that does what a function does: at each expression that is met, its step and then what is to come under it
    abbrev pub Follows : Type 0
    Follows = (p : ℕ) (e : Expr) (q : ℕ) (m : ExprNode) (z : S) → expr_in ns s p ≡ value e q → m ≡ expr_node_at ns s last p → View ns s e m → T e z ≡ through T (to_come m e) (step m p z)

    module _ (follows : Follows) where
      followed : FollowsBy T (λ (p : ℕ) (z y : S). z ≡ y) (λ e. Unit {0})
      followed p e q m z y d g v k r = (step m p z, ap (T e) (sym r) ∙ follows p e q m z d g v, refl, all-unit (to_come m e))

      -- THE LAW: expressions read one after the other, and one alone
      pub walks : (n p : ℕ) (es : List Expr) (q : ℕ) (z : S) → many (expr_in ns s) n p ≡ value es q → walked ns s last step n p z ≡ through T es z
      walks n p es q z e = walks-all T (λ (i : ℕ) (x y : S). x ≡ y) (λ e. Unit {0}) followed n p es q z z e (all-unit es) refl

      pub walks-one : (p : ℕ) (e : Expr) (q : ℕ) (z : S) → expr_in ns s p ≡ value e q → walked ns s last step 1 p z ≡ T e z
      walks-one p e q z d = walks-by T (λ (i : ℕ) (x y : S). x ≡ y) (λ e. Unit {0}) followed p e q z z d tt refl
