-- What stands of an expression before those under it: written by a copy of its bytes.
use Prim.Native.Nat.{ℕ, zero, suc, ◌-◌, ◌<◌, ◌≤◌}
use native.Mathlib.Omega.{arith}
use mathlib.Core.List.{List, [], ◌∷◌, ◌++◌, append_assoc, append-nil}
use mathlib.Core.Path.{◌≡◌, refl, sym, ap, subst, ◌∙◌}
use lib.ListN.{length, take, drop}
use Rattle.activations.specs.declared.expr_node.ExprNode.{ExprNode}
use Rattle.activations.specs.declared.expr_node.ExprNode.TheVariants as mt
use Rattle.wire.specs.Answer.{many, value}
use Rattle.wire.specs.Lists.{All, Bytes}
use Rattle.wire.specs.Writer.{State, puts}
use Rattle.pack_rules.specs.Names.{Name}
use Rattle.pack_rules.specs.Syntax.{Expr, Exprs, e_array, e_arrow, e_binary, e_call, e_cast, e_const, e_field, e_if, e_index, e_iterate, e_merge, e_pre, e_struct, e_tuple, e_unary, e_var, e_when, x_cons, x_nil}
use Rattle.pack_rules.specs.Read.{expr_in}
use Rattle.pack_rules.specs.Write.{Item, each, expr_items, exprs_items}
use Rattle.pack.specs.Table.{tabled}
use Rattle.pack_rules.specs.Legal.{Each, Fresh, Known, LegalName}
use Rattle.pack.specs.Intern.{render}
use Rattle.pack.proofs.Tables.{code, code-append, each_left}
use Rattle.pack.proofs.Copies.{Lies, lies-both, lies-copied, lies-expr}
use Rattle.machines.proofs.Reading.{many-cut, many-end, many_more, many-over}
use Rattle.activations.specs.Kids.{head_items, kids, list_of}
use Rattle.activations.specs.ExprNodes.{expr_node_at, onward_t}
use Rattle.activations.specs.Walks.{LastIs}
use Rattle.activations.proofs.NodesRead.{expr-moves}
use Rattle.activations.proofs.Views.{to_come, viewed}

list-items : (xs : Exprs) → exprs_items xs ≡ each expr_items (list_of xs)
unfolding exprs_items each list_of
list-items x_nil = refl
list-items (x_cons a xs) = ap (λ (l : List Item). expr_items a ++ l) (list-items xs)

one-items : (a : Expr) → expr_items a ≡ each expr_items (a ∷ [])
unfolding each
one-items a = sym (append-nil (expr_items a))

two_items : (a b : Expr) → expr_items a ++ expr_items b ≡ each expr_items (a ∷ b ∷ [])
unfolding each
two_items a b = ap (λ (l : List Item). expr_items a ++ l) (sym (append-nil (expr_items b)))

three-items : (a b c : Expr) → expr_items a ++ (expr_items b ++ expr_items c) ≡ each expr_items (a ∷ b ∷ c ∷ [])
unfolding each
three-items a b c = ap (λ (l : List Item). expr_items a ++ (expr_items b ++ l)) (sym (append-nil (expr_items c)))

-- an expression is its head and then those under it
pub items-split : (e : Expr) → expr_items e ≡ head_items e ++ each expr_items (kids e)
unfolding expr_items head_items kids each
items-split (e_const l) = sym (append-nil (head_items (e_const l)))
items-split (e_var x) = sym (append-nil (head_items (e_var x)))
items-split (e_unary o a) = ap (λ (l : List Item). head_items (e_unary o a) ++ l) (one-items a)
items-split (e_binary o a b) = ap (λ (l : List Item). head_items (e_binary o a b) ++ l) (two_items a b)
items-split (e_if a b c) = ap (λ (l : List Item). head_items (e_if a b c) ++ l) (three-items a b c)
items-split (e_pre a) = ap (λ (l : List Item). head_items (e_pre a) ++ l) (one-items a)
items-split (e_arrow a b) = ap (λ (l : List Item). head_items (e_arrow a b) ++ l) (two_items a b)
items-split (e_call f xs) = ap (λ (l : List Item). head_items (e_call f xs) ++ l) (list-items xs)
items-split (e_field a f) = ap (λ (l : List Item). head_items (e_field a f) ++ l) (one-items a)
items-split (e_index a i) = ap (λ (l : List Item). head_items (e_index a i) ++ l) (two_items a i)
items-split (e_tuple xs) = ap (λ (l : List Item). head_items (e_tuple xs) ++ l) (list-items xs)
items-split (e_array xs) = ap (λ (l : List Item). head_items (e_array xs) ++ l) (list-items xs)
items-split (e_struct n fs xs) = ap (λ (l : List Item). head_items (e_struct n fs xs) ++ l) (list-items xs)
items-split (e_cast t a) = ap (λ (l : List Item). head_items (e_cast t a) ++ l) (one-items a)
items-split (e_when a x b) = ap (λ (l : List Item). head_items (e_when a x b) ++ l) (one-items a)
items-split (e_merge x a b) = ap (λ (l : List Item). head_items (e_merge x a b) ++ l) (two_items a b)
items-split (e_iterate k f i xs) = ap (λ (l : List Item). head_items (e_iterate k f i xs) ++ l) (list-items xs)

-- all that is met but a call that is replaced
unfoldable pub Kept : ExprNode → Type 0
Kept (mt.Last v i q) = ⊥
Kept (mt.Bad u q) = Unit {0}
Kept (mt.Const q) = Unit {0}
Kept (mt.Var i q) = Unit {0}
Kept (mt.Clocked c u q) = Unit {0}
Kept (mt.Other u q) = Unit {0}
Kept mt.Nothing = Unit {0}

pub kept-come : (m : ExprNode) (e : Expr) → Kept m → to_come m e ≡ kids e
unfolding Kept to_come
kept-come (mt.Last v i q) e k = absurd k
kept-come (mt.Bad u q) e k = refl
kept-come (mt.Const q) e k = refl
kept-come (mt.Var i q) e k = refl
kept-come (mt.Clocked c u q) e k = refl
kept-come (mt.Other u q) e k = refl
kept-come mt.Nothing e k = refl

-- what stands before what stands there
lies-front : (ns : List Name) (s : List ℕ) (at : ℕ) (is : List Item) (m : ℕ) (js : List Item) (q : ℕ) → Lies ns s at (is ++ js) q → Lies ns s m js q → Lies ns s at is m
lies-front ns s at is m js q a b = record {
  bytes = a.bytes ∙ ap (λ l. l ++ drop q s) (code-append ns is js) ∙ append_assoc (code ns is) (code ns js) (drop q s) ∙ ap (λ l. code ns is ++ l) (sym b.bytes);
  known = each_left (Known ns) is js a.known;
  from = a.from;
  to = b.from;
}

module _ (ns : List Name) (fresh : Fresh [] ns) (few : length ns < 65536) (s : List ℕ) (by : Bytes s) where
  lies-many : (n at : ℕ) (es : List Expr) (q : ℕ) → at ≤ length s → many (expr_in ns s) n at ≡ value es q → Lies ns s at (each expr_items es) q
  unfolding each code Each
  lies-many zero at [] q h e =
      let g : at ≡ q = many-end (expr_in ns s) at q e in
      record { bytes = ap (λ y. drop y s) g; known = tt; from = h; to = omega arith }
  lies-many zero at (x ∷ xs) q h e = absurd (many-cut (expr_in ns s) at x xs q e)
  lies-many (suc n) at [] q h e = absurd (many-over (expr_in ns s) n at q e)
  lies-many (suc n) at (x ∷ xs) q h e =
      let a = many_more (expr_in ns s) n at x xs q e in
      lies-both ns s at (expr_items x) a.0 (each expr_items xs) q (lies-expr ns fresh few s by at x a.0 a.1) (lies-many n a.0 xs q (expr-moves ns s at x a.0 a.1).1 a.2)

  module _ (last : ℕ) (L : LastIs ns last) where
    -- THE LAW: from an expression's start to where its walk goes on stands its head
    pub head-lies : (p : ℕ) (e : Expr) (q : ℕ) → expr_in ns s p ≡ value e q → Kept (expr_node_at ns s last p) → Lies ns s p (head_items e) (onward_t (expr_node_at ns s last p))
    head-lies p e q d k =
        let m = expr_node_at ns s last p in
        let v = viewed ns s few by last L p e q d in
        let w = lies-many (length (to_come m e)) (onward_t m) (to_come m e) q v.inside v.to in
        lies-front ns s p (head_items e) (onward_t m) (each expr_items (kids e)) q
        (subst (λ y. Lies ns s p y q) (items-split e) (lies-expr ns fresh few s by p e q d))
        (subst (λ y. Lies ns s (onward_t m) (each expr_items y) q) (kept-come m e k) w)

    pub head-copied : All LegalName ns → (p : ℕ) (e : Expr) (q : ℕ) → expr_in ns s p ≡ value e q → Kept (expr_node_at ns s last p) → (z : State) → render (tabled ns) (head_items e) z ≡ puts (take (onward_t (expr_node_at ns s last p) - p) (drop p s)) z
    head-copied a p e q d k z = lies-copied ns a s p (head_items e) (onward_t (expr_node_at ns s last p)) (head-lies p e q d k) z
