-- An expression that was read is a head and the expressions under it, read one after the other.
use Prim.Native.Nat.{ℕ, ◌+◌, ◌≤◌, ◌<◌, zero, suc}
use native.Mathlib.Omega.{arith}
use mathlib.Core.List.{List, [], ◌∷◌, ◌++◌}
use mathlib.Core.Path.{◌≡◌, refl, sym, ap, ◌∙◌}
use lib.ListN.{length}
use Rattle.wire.specs.Answer.{Answer, many, map_a, value}
use Rattle.wire.specs.Preorder.{Trees, cons, nil, node, trees}
use Rattle.wire.proofs.Answers.{bind-value, fwd-many, many-length, map-value}
use Rattle.wire.proofs.Formats.{bind_to}
use Rattle.pack_rules.specs.Names.{Name}
use Rattle.pack_rules.specs.Syntax.{Expr, Exprs, x_cons, x_nil}
use Rattle.pack_rules.specs.Forms.{ExprHead, expr_arity, expr_at, expr_head, expr_of, expr_over, exprs_of, nth}
use Rattle.pack.specs.Heads.{expr_more}
use Rattle.pack_rules.specs.Read.{expr_in}
use Rattle.pack_rules.specs.Write.{count_of}
use Rattle.pack.proofs.ExprLaws.{expr_moves}
use Rattle.machines.proofs.Reading.{many_more}
use Rattle.machines.proofs.PackCounts.{fwd-expr_in}
use Rattle.activations.specs.Kids.{list_of}

-- no tree takes nothing, whatever the fuel
trees-none : {H : Type 0} (arity : H → ℕ) (head : List ℕ → ℕ → Answer H) (s : List ℕ) (f at : ℕ) → trees arity head f s zero at ≡ value nil at
unfolding trees
trees-none arity head s zero at = refl
trees-none arity head s (suc f) at = refl

-- what was read of a tree and those after it
record Parts {H : Type 0} (arity : H → ℕ) (head : List ℕ → ℕ → Answer H) (s : List ℕ) (f n at : ℕ) (ts : Trees H) (q : ℕ) : Type 0 where
  h : H
  p : ℕ
  us : Trees H
  m : ℕ
  rest : Trees H
  first : head s at ≡ value h p
  under : trees arity head f s (arity h) p ≡ value us m
  after : trees arity head f s n m ≡ value rest q
  whole : cons (node h us) rest ≡ ts

parts : {H : Type 0} (arity : H → ℕ) (head : List ℕ → ℕ → Answer H) (s : List ℕ) (f n at : ℕ) (ts : Trees H) (q : ℕ) → trees arity head (suc f) s (suc n) at ≡ value ts q → Parts arity head s f n at ts q
unfolding trees
parts arity head s f n at ts q e =
    let a = bind-value (head s at) _ ts q e in
    let b = bind-value (trees arity head f s (arity a.0) a.1) _ ts q a.3 in
    let c = bind-value (trees arity head f s n b.1) _ ts q b.3 in
    let i : cons (node a.0 b.0) c.0 ≡ ts = cc c.3 in
    let j : c.1 ≡ q = cc c.3 in
    record { h = a.0; p = a.1; us = b.0; m = b.1; rest = c.0; first = a.2; under = b.2; after = c.2 ∙ ap (value c.0) j; whole = i }

-- and back
joined : {H : Type 0} (arity : H → ℕ) (head : List ℕ → ℕ → Answer H) (s : List ℕ) (f n at : ℕ) (h : H) (p : ℕ) (us : Trees H) (m : ℕ) (rest : Trees H) (q : ℕ)
    → head s at ≡ value h p → trees arity head f s (arity h) p ≡ value us m → trees arity head f s n m ≡ value rest q → trees arity head (suc f) s (suc n) at ≡ value (cons (node h us) rest) q
unfolding trees
joined arity head s f n at h p us m rest q a b c =
    bind_to (head s at) h p _ _ a (bind_to (trees arity head f s (arity h) p) us m _ _ b (bind_to (trees arity head f s n m) rest q _ _ c refl))

-- without fuel nothing is read
trees-dry : {H : Type 0} (arity : H → ℕ) (head : List ℕ → ℕ → Answer H) (s : List ℕ) (n at : ℕ) (ts : Trees H) (q : ℕ) → trees arity head zero s (suc n) at ≡ value ts q → ⊥
unfolding trees
trees-dry arity head s n at ts q e = let z : ◌≡◌ {A = ℕ} 0 1 = cc in omega arith

-- what is read with some fuel is read with more
trees-more : {H : Type 0} (arity : H → ℕ) (head : List ℕ → ℕ → Answer H) (s : List ℕ) (f g n at : ℕ) (ts : Trees H) (q : ℕ) → f ≤ g → trees arity head f s n at ≡ value ts q → trees arity head g s n at ≡ value ts q
trees-more arity head s zero g zero at ts q l e = trees-none arity head s g at ∙ sym (trees-none arity head s zero at) ∙ e
trees-more arity head s zero g (suc n) at ts q l e = absurd (trees-dry arity head s n at ts q e)
trees-more arity head s (suc f) g zero at ts q l e = trees-none arity head s g at ∙ sym (trees-none arity head s (suc f) at) ∙ e
trees-more arity head s (suc f) zero (suc n) at ts q l e = absurd (omega arith)
trees-more arity head s (suc f) (suc g) (suc n) at ts q l e =
    let r = parts arity head s f n at ts q e in
    joined arity head s g n at r.h r.p r.us r.m r.rest q r.first
    (trees-more arity head s f g (arity r.h) r.p r.us r.m (omega arith) r.under)
    (trees-more arity head s f g n r.m r.rest q (omega arith) r.after)
    ∙ ap (λ y. value y q) r.whole

-- one after the other, and the second list after the first
pub many-joined : {A : Type 0} (r : ℕ → Answer A) (n at : ℕ) (x : A) (p : ℕ) (xs : List A) (q : ℕ) → r at ≡ value x p → many r n p ≡ value xs q → many r (suc n) at ≡ value (x ∷ xs) q
unfolding many
many-joined r n at x p xs q e f = bind_to (r at) x p _ _ e (bind_to (many r n p) xs q _ _ f refl)

pub many-none : {A : Type 0} (r : ℕ → Answer A) (at : ℕ) → many r zero at ≡ value [] at
unfolding many
many-none r at = refl

pub many-both : {A : Type 0} (r : ℕ → Answer A) (xs : List A) (at m n : ℕ) (ys : List A) (q : ℕ) → many r (length xs) at ≡ value xs m → many r n m ≡ value ys q → many r (length xs + n) at ≡ value (xs ++ ys) q
many-both r [] at m n ys q e f =
    let i : 0 + n ≡ n = omega arith in
    let j : at ≡ m = cc (sym (many-none r at) ∙ e) in
    ap (λ y. many r y at) i ∙ ap (many r n) j ∙ f
many-both r (x ∷ xs) at m n ys q e f =
    let a = many_more r (length xs) at x xs m e in
    let i : suc (length xs) + n ≡ suc (length xs + n) = omega arith in
    ap (λ y. many r y at) i ∙ many-joined r (length xs + n) at x a.0 (xs ++ ys) q a.1 (many-both r xs a.0 m n ys q a.2 f)

pub list_count : (xs : Exprs) → length (list_of xs) ≡ count_of xs
unfolding list_of count_of
list_count x_nil = refl
list_count (x_cons a xs) = ap suc (list_count xs)

module _ (ns : List Name) (s : List ℕ) where
  cut : (at : ℕ) (ts : Trees ExprHead) (q : ℕ) → value nil at ≡ value ts q → many (expr_in ns s) zero at ≡ value (list_of (exprs_of ns ts)) q
  unfolding many list_of exprs_of
  cut at ts q e = let i : nil ≡ ts = cc in let j : at ≡ q = cc in ap (λ (y : Trees ExprHead). value (list_of (exprs_of ns y)) at) i ∙ ap (value (list_of (exprs_of ns ts))) j

  -- a tree of heads as an expression
  one-read : (at : ℕ) (h : ExprHead) (p : ℕ) (us : Trees ExprHead) (q : ℕ) → expr_head (length ns) s at ≡ value h p → trees expr_arity (expr_head (length ns)) (length s) s (expr_arity h) p ≡ value us q → expr_in ns s at ≡ value (expr_over ns h (exprs_of ns us)) q
  unfolding expr_in expr_at map_a exprs_of expr_of nth
  one-read at h p us q a b = ap (map_a (λ ts. nth 0 (exprs_of ns ts))) (joined expr_arity (expr_head (length ns)) s (length s) zero at h p us q nil q a b (trees-none expr_arity (expr_head (length ns)) s (length s) q))

  -- trees under a head, one by one
  under-read : (f k at : ℕ) (ts : Trees ExprHead) (q : ℕ) → f ≤ length s → trees expr_arity (expr_head (length ns)) f s k at ≡ value ts q → many (expr_in ns s) k at ≡ value (list_of (exprs_of ns ts)) q
  unfolding list_of exprs_of expr_of
  under-read zero zero at ts q l e = cut at ts q (sym (trees-none expr_arity (expr_head (length ns)) s zero at) ∙ e)
  under-read zero (suc k) at ts q l e = absurd (trees-dry expr_arity (expr_head (length ns)) s k at ts q e)
  under-read (suc f) zero at ts q l e = cut at ts q (sym (trees-none expr_arity (expr_head (length ns)) s (suc f) at) ∙ e)
  under-read (suc f) (suc k) at ts q l e =
      let r = parts expr_arity (expr_head (length ns)) s f k at ts q e in
      let u = trees-more expr_arity (expr_head (length ns)) s f (length s) (expr_arity r.h) r.p r.us r.m (omega arith) r.under in
      many-joined (expr_in ns s) k at _ r.m _ q (one-read at r.h r.p r.us r.m r.first u) (under-read f k r.m r.rest q (omega arith) r.after)
      ∙ ap (λ y. value (list_of (exprs_of ns y)) q) r.whole

  -- what reading an expression says
  pub record HeadRead (at : ℕ) (e : Expr) (q : ℕ) : Type 0 where
    pub h : ExprHead
    pub next : ℕ
    pub xs : Exprs
    pub head : expr_head (length ns) s at ≡ value h next
    pub under : many (expr_in ns s) (expr_arity h) next ≡ value (list_of xs) q
    pub is : expr_over ns h xs ≡ e

  pub head-value : (at : ℕ) (e : Expr) (q : ℕ) → expr_in ns s at ≡ value e q → HeadRead at e q
  unfolding expr_in expr_at exprs_of expr_of nth
  head-value at e q d =
      let m = map-value (λ ts. nth 0 (exprs_of ns ts)) (expr_at (length ns) s at) e q d in
      let r = parts expr_arity (expr_head (length ns)) s (length s) zero at m.0 q m.1 in
      let g = sym (trees-none expr_arity (expr_head (length ns)) s (length s) r.m) ∙ r.after in
      let i : r.m ≡ q = cc g in
      let j : nil ≡ r.rest = cc g in
      record {
        h = r.h;
        next = r.p;
        xs = exprs_of ns r.us;
        head = r.first;
        under = under-read (length s) (expr_arity r.h) r.p r.us r.m (omega arith) r.under ∙ ap (value (list_of (exprs_of ns r.us))) i;
        is = ap (λ (y : Trees ExprHead). nth 0 (exprs_of ns y)) (ap (cons (node r.h r.us)) j ∙ r.whole) ∙ m.2;
      }

  pub head-count : (at : ℕ) (e : Expr) (q : ℕ) (r : HeadRead at e q) → count_of r.xs ≡ expr_arity r.h
  head-count at e q r = sym (list_count r.xs) ∙ many-length (expr_in ns s) (expr_arity r.h) r.next (list_of r.xs) q r.under

  -- an expression takes some bytes, and they are there
  pub head-moves : (at : ℕ) (h : ExprHead) (p : ℕ) → expr_head (length ns) s at ≡ value h p → (at < p) × (p ≤ length s)
  unfolding expr_more map_a
  head-moves at h p e = ((expr_moves (length ns)).on s at (expr_arity h) p (ap (map_a expr_arity) e), (expr_moves (length ns)).inside s at (expr_arity h) p (ap (map_a expr_arity) e))

  pub expr-moves : (at : ℕ) (e : Expr) (q : ℕ) → expr_in ns s at ≡ value e q → (at < q) × (q ≤ length s)
  expr-moves at e q d =
      let r = head-value at e q d in
      let m = head-moves at r.h r.next r.head in
      let f = fwd-many (length s) (expr_in ns s) (fwd-expr_in ns s) (expr_arity r.h) r.next (list_of r.xs) q r.under in
      let l = m.0 in
      let k = f.on in
      (omega arith, f.inside m.1)

  -- n expressions take at least n bytes
  pub many-room : (n at : ℕ) (es : List Expr) (q : ℕ) → many (expr_in ns s) n at ≡ value es q → n + at ≤ q
  unfolding many
  many-room zero at es q e = let g : at ≡ q = cc in omega arith
  many-room (suc n) at es q e =
      let b = bind-value (expr_in ns s at) _ es q e in
      let d = bind-value (many (expr_in ns s) n b.1) _ es q b.3 in
      let g : d.1 ≡ q = cc d.3 in
      let l = (expr-moves at b.0 b.1 b.2).0 in
      let m = many-room n b.1 d.0 d.1 d.2 in
      omega arith
