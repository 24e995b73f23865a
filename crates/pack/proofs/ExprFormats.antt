-- Expressions: from heads and trees to expressions with names, and back.
use Rattle.std.proofs.Common.{◌≡◌, ℕ, suc, ◌+◌, ◌<◌, ◌≤◌, Bool, true, false, eqb, List, [], ◌∷◌, ◌++◌, length, get_or, sym, refl, ap, ◌∙◌, subst, append_assoc, append-nil, arith, eqb-true}
use borrow.Author.Tests.{eqb-false}
use Rattle.pack_rules.specs.Names.{Name}
use Rattle.pack_rules.specs.Syntax.{BinOp, Expr, Exprs, IterKind, UnOp, e_array, e_arrow, e_binary, e_call, e_cast, e_const, e_field, e_if, e_index, e_iterate, e_merge, e_pre, e_struct, e_tuple, e_unary, e_var, e_when, i_fold, i_map, o_add, o_and, o_bit_and, o_bit_or, o_bit_xor, o_div, o_eq, o_ge, o_gt, o_implies, o_le, o_lt, o_mod, o_mul, o_neg, o_neq, o_not, o_or, o_shl, o_shr, o_sub, o_xor, x_cons, x_nil}
use Rattle.wire.specs.Preorder.{Tree, Trees, cons, nil, node}
use Rattle.pack_rules.specs.Forms.{ExprHead, array, arrow, bin_ops, binary, call, cast, conditional, const, element, expr_arity, expr_at, expr_of, expr_over, exprs_of, field, first_type, flag_of, iter_kinds, iterate, merge, name_at, names_at, nth, previous, sample, struct, tuple, un_ops, unary, var}
use Rattle.pack_rules.specs.Read.{expr_in}
use Rattle.pack_rules.specs.Write.{Item, arrays, bin_byte, count_of, each, expr_items, exprs_items, flag_byte, iter_byte, list, lit_bytes, name_items, ty_items, un_byte}
use Rattle.wire.specs.Bytes.{two}
use Rattle.wire.proofs.Formats.{Below, enc_all, format_map, single}
use Rattle.wire.specs.Lists.{All}
use Rattle.wire.proofs.TreeFormats.{OkTree, OkTrees, count, enc_tree, enc_trees}
use Rattle.pack_rules.specs.Legal.{Each, Fresh, Known, LegalLit, ShapedTy, place}
use Rattle.pack.proofs.Tables.{code, code-append, each_append, each_left, each_right, name-at-place, place-at-name}
use Rattle.pack.proofs.TypeFormats.{Fmt, Rows, first-up, row_at, ty-down, ty_tree}
use Rattle.pack.proofs.HeadFormats.{OkHead, byte_flag, enc_head, flag-byte, flag_small, format_exprs}

-- an expression's numbers and counts are in range, a struct has as many values as fields, an iterate its initial value
unfoldable mutual
  pub Shaped : Expr → Type 0
  Shaped (e_const l) = LegalLit l
  Shaped (e_var x) = Unit {0}
  Shaped (e_unary o a) = Shaped a
  Shaped (e_binary o a b) = Shaped a × Shaped b
  Shaped (e_if a b c) = Shaped a × Shaped b × Shaped c
  Shaped (e_pre a) = Shaped a
  Shaped (e_arrow a b) = Shaped a × Shaped b
  Shaped (e_call f xs) = (count_of xs < 65536) × ShapedAll xs
  Shaped (e_field a f) = Shaped a
  Shaped (e_index a i) = Shaped a × Shaped i
  Shaped (e_tuple xs) = (count_of xs < 65536) × ShapedAll xs
  Shaped (e_array xs) = (count_of xs < 65536) × ShapedAll xs
  Shaped (e_struct n fs xs) = (length fs < 65536) × (count_of xs ≡ length fs) × ShapedAll xs
  Shaped (e_cast t a) = ShapedTy t × Shaped a
  Shaped (e_when a x b) = Shaped a
  Shaped (e_merge x a b) = Shaped a × Shaped b
  Shaped (e_iterate k f b xs) = (arrays b xs < 65536) × (count_of xs ≡ flag_byte b + arrays b xs) × ShapedAll xs

  pub ShapedAll : Exprs → Type 0
  ShapedAll x_nil = Unit {0}
  ShapedAll (x_cons a xs) = Shaped a × ShapedAll xs

-- an expression as a tree of heads
unfoldable pub places : List Name → List Name → List ℕ
places ns [] = []
places ns (f ∷ fs) = place ns f ∷ places ns fs

unfoldable mutual
  pub expr_tree : List Name → Expr → Tree ExprHead
  expr_tree ns (e_const l) = node (const l) nil
  expr_tree ns (e_var x) = node (var (place ns x)) nil
  expr_tree ns (e_unary o a) = node (unary (un_byte o)) (cons (expr_tree ns a) nil)
  expr_tree ns (e_binary o a b) = node (binary (bin_byte o)) (cons (expr_tree ns a) (cons (expr_tree ns b) nil))
  expr_tree ns (e_if a b c) = node conditional (cons (expr_tree ns a) (cons (expr_tree ns b) (cons (expr_tree ns c) nil)))
  expr_tree ns (e_pre a) = node previous (cons (expr_tree ns a) nil)
  expr_tree ns (e_arrow a b) = node arrow (cons (expr_tree ns a) (cons (expr_tree ns b) nil))
  expr_tree ns (e_call f xs) = node (call (place ns f) (count_of xs)) (expr_trees ns xs)
  expr_tree ns (e_field a f) = node (field (place ns f)) (cons (expr_tree ns a) nil)
  expr_tree ns (e_index a i) = node element (cons (expr_tree ns a) (cons (expr_tree ns i) nil))
  expr_tree ns (e_tuple xs) = node (tuple (count_of xs)) (expr_trees ns xs)
  expr_tree ns (e_array xs) = node (array (count_of xs)) (expr_trees ns xs)
  expr_tree ns (e_struct n fs xs) = node (struct (place ns n) (places ns fs)) (expr_trees ns xs)
  expr_tree ns (e_cast t a) = node (cast (cons (ty_tree ns t) nil)) (cons (expr_tree ns a) nil)
  expr_tree ns (e_when a x b) = node (sample (place ns x) (flag_byte b)) (cons (expr_tree ns a) nil)
  expr_tree ns (e_merge x a b) = node (merge (place ns x)) (cons (expr_tree ns a) (cons (expr_tree ns b) nil))
  expr_tree ns (e_iterate k f b xs) = node (iterate (iter_byte k) (place ns f) (flag_byte b) (arrays b xs)) (expr_trees ns xs)

  pub expr_trees : List Name → Exprs → Trees ExprHead
  expr_trees ns x_nil = nil
  expr_trees ns (x_cons a xs) = cons (expr_tree ns a) (expr_trees ns xs)

-- operators and their bytes
pub un-down : (o : UnOp) → (un_byte o < 2) × (get_or un_ops (un_byte o) o_not ≡ o)
unfolding un_byte un_ops
un-down o_not = (omega arith, refl)
un-down o_neg = (omega arith, refl)

pub un-up : (o : ℕ) → o < 2 → un_byte (get_or un_ops o o_not) ≡ o
unfolding un_byte un_ops Rows
un-up o h = row_at (λ k x. un_byte x ≡ k) un_ops o o_not (refl, (refl, tt)) h

pub iter-down : (o : IterKind) → (iter_byte o < 2) × (get_or iter_kinds (iter_byte o) i_map ≡ o)
unfolding iter_byte iter_kinds
iter-down i_map = (omega arith, refl)
iter-down i_fold = (omega arith, refl)

pub iter-up : (o : ℕ) → o < 2 → iter_byte (get_or iter_kinds o i_map) ≡ o
unfolding iter_byte iter_kinds Rows
iter-up o h = row_at (λ k x. iter_byte x ≡ k) iter_kinds o i_map (refl, (refl, tt)) h

pub bin-down : (o : BinOp) → (bin_byte o < 20) × (get_or bin_ops (bin_byte o) o_and ≡ o)
unfolding bin_byte bin_ops
bin-down o_and = (omega arith, refl)
bin-down o_or = (omega arith, refl)
bin-down o_xor = (omega arith, refl)
bin-down o_implies = (omega arith, refl)
bin-down o_eq = (omega arith, refl)
bin-down o_neq = (omega arith, refl)
bin-down o_lt = (omega arith, refl)
bin-down o_le = (omega arith, refl)
bin-down o_gt = (omega arith, refl)
bin-down o_ge = (omega arith, refl)
bin-down o_add = (omega arith, refl)
bin-down o_sub = (omega arith, refl)
bin-down o_mul = (omega arith, refl)
bin-down o_div = (omega arith, refl)
bin-down o_mod = (omega arith, refl)
bin-down o_bit_and = (omega arith, refl)
bin-down o_bit_or = (omega arith, refl)
bin-down o_bit_xor = (omega arith, refl)
bin-down o_shl = (omega arith, refl)
bin-down o_shr = (omega arith, refl)

pub bin-up : (o : ℕ) → o < 20 → bin_byte (get_or bin_ops o o_and) ≡ o
unfolding bin_byte bin_ops Rows
bin-up o h = row_at (λ k x. bin_byte x ≡ k) bin_ops o o_and (refl, (refl, (refl, (refl, (refl, (refl, (refl, (refl, (refl, (refl, (refl, (refl, (refl, (refl, (refl, (refl, (refl, (refl, (refl, (refl, tt)))))))))))))))))))) h

module _ (ns : List Name) where
  pub names-down : (fs : List Name) → Each (Known ns) (each name_items fs) → All (Below (length ns)) (places ns fs) × (names_at ns (places ns fs) ≡ fs) × (length (places ns fs) ≡ length fs)
  unfolding each name_items Each All places names_at
  names-down [] h = (tt, refl, refl)
  names-down (f ∷ fs) h = let r = names-down fs h.1 in ((h.0, r.0), (λ i. name-at-place ns f h.0 i ∷ r.1 i), ap suc r.2)

  mutual
    unfolding Shaped ShapedAll expr_tree expr_trees expr_items exprs_items Each OkTree OkTrees OkHead expr_arity count expr_of exprs_of expr_over nth list first_type count_of

    pub expr-down : (e : Expr) → Shaped e → Each (Known ns) (expr_items e) → OkTree (OkHead (length ns)) expr_arity (expr_tree ns e) × (expr_of ns (expr_tree ns e) ≡ e)
    expr-down (e_const l) o k = ((o, refl, tt), refl)
    expr-down (e_var x) o k = ((k.0, refl, tt), λ i. e_var (name-at-place ns x k.0 i))
    expr-down (e_unary u a) o k =
        let r = expr-down a o k in let v = un-down u in
        ((v.0, refl, (r.0, tt)), λ i. e_unary (v.1 i) (r.1 i))
    expr-down (e_binary u a b) o k =
        let r = expr-down a o.0 (each_left (Known ns) (expr_items a) (expr_items b) k) in
        let t = expr-down b o.1 (each_right (Known ns) (expr_items a) (expr_items b) k) in let v = bin-down u in
        ((v.0, refl, (r.0, (t.0, tt))), λ i. e_binary (v.1 i) (r.1 i) (t.1 i))
    expr-down (e_if a b c) o k =
        let l = each_right (Known ns) (expr_items a) (expr_items b ++ expr_items c) k in
        let r = expr-down a o.0 (each_left (Known ns) (expr_items a) (expr_items b ++ expr_items c) k) in
        let t = expr-down b o.1 (each_left (Known ns) (expr_items b) (expr_items c) l) in
        let u = expr-down c o.2 (each_right (Known ns) (expr_items b) (expr_items c) l) in
        ((tt, refl, (r.0, (t.0, (u.0, tt)))), λ i. e_if (r.1 i) (t.1 i) (u.1 i))
    expr-down (e_pre a) o k = let r = expr-down a o k in ((tt, refl, (r.0, tt)), λ i. e_pre (r.1 i))
    expr-down (e_arrow a b) o k =
        let r = expr-down a o.0 (each_left (Known ns) (expr_items a) (expr_items b) k) in
        let t = expr-down b o.1 (each_right (Known ns) (expr_items a) (expr_items b) k) in
        ((tt, refl, (r.0, (t.0, tt))), λ i. e_arrow (r.1 i) (t.1 i))
    expr-down (e_call f xs) o k =
        let r = exprs-down xs o.1 k.1 in
        (((k.0, o.0), r.2, r.0), λ i. e_call (name-at-place ns f k.0 i) (r.1 i))
    expr-down (e_field a f) o k = let r = expr-down a o k.1 in ((k.0, refl, (r.0, tt)), λ i. e_field (r.1 i) (name-at-place ns f k.0 i))
    expr-down (e_index a b) o k =
        let r = expr-down a o.0 (each_left (Known ns) (expr_items a) (expr_items b) k) in
        let t = expr-down b o.1 (each_right (Known ns) (expr_items a) (expr_items b) k) in
        ((tt, refl, (r.0, (t.0, tt))), λ i. e_index (r.1 i) (t.1 i))
    expr-down (e_tuple xs) o k = let r = exprs-down xs o.1 k in ((o.0, r.2, r.0), λ i. e_tuple (r.1 i))
    expr-down (e_array xs) o k = let r = exprs-down xs o.1 k in ((o.0, r.2, r.0), λ i. e_array (r.1 i))
    expr-down (e_struct n fs xs) o k =
        let f = names-down fs (each_left (Known ns) (each name_items fs) (exprs_items xs) k.1) in
        let r = exprs-down xs o.2 (each_right (Known ns) (each name_items fs) (exprs_items xs) k.1) in
        (((k.0, (omega (arith, o.0, f.2), f.0)), r.2 ∙ o.1 ∙ sym f.2, r.0), λ i. e_struct (name-at-place ns n k.0 i) (f.1 i) (r.1 i))
    expr-down (e_cast t a) o k =
        let y = ty-down ns t o.0 (each_left (Known ns) (ty_items t) (expr_items a) k) in
        let r = expr-down a o.1 (each_right (Known ns) (ty_items t) (expr_items a) k) in
        (((refl, (y.0, tt)), refl, (r.0, tt)), λ i. e_cast (y.1 i) (r.1 i))
    expr-down (e_when a x b) o k = let r = expr-down a o k.1 in (((k.0, flag_small b), refl, (r.0, tt)), λ i. e_when (r.1 i) (name-at-place ns x k.0 i) (byte_flag b i))
    expr-down (e_merge x a b) o k =
        let r = expr-down a o.0 (each_left (Known ns) (expr_items a) (expr_items b) k.1) in
        let t = expr-down b o.1 (each_right (Known ns) (expr_items a) (expr_items b) k.1) in
        ((k.0, refl, (r.0, (t.0, tt))), λ i. e_merge (name-at-place ns x k.0 i) (r.1 i) (t.1 i))
    expr-down (e_iterate u f b xs) o k =
        let r = exprs-down xs o.2 k.1 in let v = iter-down u in
        (((v.0, (k.0, (flag_small b, o.0))), r.2 ∙ o.1, r.0), λ i. e_iterate (v.1 i) (name-at-place ns f k.0 i) (byte_flag b i) (r.1 i))

    pub exprs-down : (es : Exprs) → ShapedAll es → Each (Known ns) (exprs_items es) → OkTrees (OkHead (length ns)) expr_arity (expr_trees ns es) × (exprs_of ns (expr_trees ns es) ≡ es) × (count (expr_trees ns es) ≡ count_of es)
    exprs-down x_nil o k = (tt, refl, refl)
    exprs-down (x_cons a xs) o k =
        let r = expr-down a o.0 (each_left (Known ns) (expr_items a) (exprs_items xs) k) in
        let t = exprs-down xs o.1 (each_right (Known ns) (expr_items a) (exprs_items xs) k) in
        ((r.0, t.0), (λ i. x_cons (r.1 i) (t.1 i)), ap suc t.2)

  -- what is found under a head
  abbrev Up : List ℕ → Expr → Type 0
  Up b e = Shaped e × Each (Known ns) (expr_items e) × (b ≡ code ns (expr_items e))

  abbrev Ups : List ℕ → Exprs → Type 0
  Ups b es = ShapedAll es × Each (Known ns) (exprs_items es) × (b ≡ code ns (exprs_items es))

  none : (b : List ℕ) (es : Exprs) → count_of es ≡ 0 → Ups b es → b ≡ []
  unfolding count_of exprs_items code
  none b x_nil e u = u.2
  none b (x_cons a es) e u = absurd (omega arith)

  sole : (b : List ℕ) (es : Exprs) → count_of es ≡ 1 → Ups b es → Up b (nth 0 es)
  unfolding count_of exprs_items ShapedAll nth
  sole b x_nil e u = absurd (omega arith)
  sole b (x_cons x x_nil) e u =
      let g : expr_items x ++ [] ≡ expr_items x = append-nil (expr_items x) in
      (u.0.0, subst (Each (Known ns)) g u.1, u.2 ∙ ap (code ns) g)
  sole b (x_cons x (x_cons y es)) e u = absurd (omega arith)

  pair : (b : List ℕ) (es : Exprs) → count_of es ≡ 2 → Ups b es → (Shaped (nth 0 es) × Shaped (nth 1 es)) × Each (Known ns) (expr_items (nth 0 es) ++ expr_items (nth 1 es)) × (b ≡ code ns (expr_items (nth 0 es) ++ expr_items (nth 1 es)))
  unfolding count_of exprs_items ShapedAll nth
  pair b x_nil e u = absurd (omega arith)
  pair b (x_cons x x_nil) e u = absurd (omega arith)
  pair b (x_cons x (x_cons y x_nil)) e u =
      let g : expr_items x ++ (expr_items y ++ []) ≡ expr_items x ++ expr_items y = ap (λ (l : List Item). expr_items x ++ l) (append-nil (expr_items y)) in
      ((u.0.0, u.0.1.0), subst (Each (Known ns)) g u.1, u.2 ∙ ap (code ns) g)
  pair b (x_cons x (x_cons y (x_cons z es))) e u = absurd (omega arith)

  three : (b : List ℕ) (es : Exprs) → count_of es ≡ 3 → Ups b es → (Shaped (nth 0 es) × Shaped (nth 1 es) × Shaped (nth 2 es)) × Each (Known ns) (expr_items (nth 0 es) ++ (expr_items (nth 1 es) ++ expr_items (nth 2 es))) × (b ≡ code ns (expr_items (nth 0 es) ++ (expr_items (nth 1 es) ++ expr_items (nth 2 es))))
  unfolding count_of exprs_items ShapedAll nth
  three b x_nil e u = absurd (omega arith)
  three b (x_cons x x_nil) e u = absurd (omega arith)
  three b (x_cons x (x_cons y x_nil)) e u = absurd (omega arith)
  three b (x_cons x (x_cons y (x_cons z x_nil))) e u =
      let g : expr_items x ++ (expr_items y ++ (expr_items z ++ [])) ≡ expr_items x ++ (expr_items y ++ expr_items z) = ap (λ (l : List Item). expr_items x ++ (expr_items y ++ l)) (append-nil (expr_items z)) in
      ((u.0.0, u.0.1.0, u.0.1.1.0), subst (Each (Known ns)) g u.1, u.2 ∙ ap (code ns) g)
  three b (x_cons x (x_cons y (x_cons z (x_cons w es)))) e u = absurd (omega arith)

  arrays-is : (b n : ℕ) (es : Exprs) → b < 2 → count_of es ≡ b + n → arrays (flag_of b) es ≡ n
  unfolding flag_of arrays count_of
  arrays-is b n es h e = go (eqb b 1) refl es e
    where
      go : (t : Bool) → eqb b 1 ≡ t → (es : Exprs) → count_of es ≡ b + n → arrays t es ≡ n
      go t f x_nil g = omega arith
      go true f (x_cons x es) g = let d : b ≡ 1 = eqb-true b 1 f in omega arith
      go false f (x_cons x es) g = let d = eqb-false b 1 f in omega arith

  module _ (fresh : Fresh [] ns) where
    is : (i : ℕ) → i < length ns → i ≡ place ns (name_at ns i)
    is i h = sym (place-at-name ns i fresh h)

    known : (i : ℕ) → i < length ns → Known ns (name_at ns i)
    known i h = let g = place-at-name ns i fresh h in omega arith

    names-up : (fs : List ℕ) → All (Below (length ns)) fs → Each (Known ns) (each name_items (names_at ns fs)) × (enc_all two fs ≡ code ns (each name_items (names_at ns fs))) × (length fs ≡ length (names_at ns fs))
    unfolding All each name_items Each enc_all code names_at
    names-up [] h = (tt, refl, refl)
    names-up (f ∷ fs) h = let r = names-up fs h.1 in ((known f h.0, r.0), (λ i. two (is f h.0 i) ++ r.1 i), ap suc r.2)

    over-up : (h : ExprHead) (es : Exprs) (b : List ℕ) → OkHead (length ns) h → count_of es ≡ expr_arity h → Ups b es → Up (enc_head h ++ b) (expr_over ns h es)
    unfolding OkHead expr_arity enc_head expr_over Shaped expr_items Each code single list
    over-up (const l) es b o e u = (o, tt, ap (λ (x : List ℕ). 0 ∷ (lit_bytes l ++ x)) (none b es e u))
    over-up (var i) es b o e u = (tt, (known i o, tt), λ j. 1 ∷ (two (is i o j) ++ none b es e u j))
    over-up (unary k) es b o e u = let r = sole b es e u in (r.0, r.1, λ j. 2 ∷ sym (un-up k o) j ∷ r.2 j)
    over-up (binary k) es b o e u = let r = pair b es e u in (r.0, r.1, λ j. 3 ∷ sym (bin-up k o) j ∷ r.2 j)
    over-up conditional es b o e u = let r = three b es e u in (r.0, r.1, λ j. 4 ∷ r.2 j)
    over-up previous es b o e u = let r = sole b es e u in (r.0, r.1, λ j. 5 ∷ r.2 j)
    over-up arrow es b o e u = let r = pair b es e u in (r.0, r.1, λ j. 6 ∷ r.2 j)
    over-up (call i n) es b o e u =
        ((omega (arith, o.1), u.0), (known i o.0, u.1), ap (λ (x : List ℕ). 7 ∷ x) (append_assoc (two i) (two n) b) ∙ (λ j. 7 ∷ (two (is i o.0 j) ++ (two (sym e j) ++ u.2 j))))
    over-up (field i) es b o e u = let r = sole b es e u in (r.0, (known i o, r.1), λ j. 8 ∷ (two (is i o j) ++ r.2 j))
    over-up element es b o e u = let r = pair b es e u in (r.0, r.1, λ j. 9 ∷ r.2 j)
    over-up (tuple n) es b o e u = ((omega (arith, e), u.0), u.1, λ j. 10 ∷ (two (sym e j) ++ u.2 j))
    over-up (array n) es b o e u = ((omega (arith, e), u.0), u.1, λ j. 11 ∷ (two (sym e j) ++ u.2 j))
    over-up (struct i fs) es b o e u =
        let f = names-up fs o.1.1 in
        let flat : (two i ++ (two (length fs) ++ enc_all two fs)) ++ b ≡ two i ++ (two (length fs) ++ (enc_all two fs ++ b)) = simp append_assoc in (
          (omega (arith, o.1.0, f.2), e ∙ f.2, u.0),
          (known i o.0, each_append (Known ns) (each name_items (names_at ns fs)) (exprs_items es) f.0 u.1),
          ap (λ (x : List ℕ). 12 ∷ x) flat
              ∙ (λ j. 12 ∷ (two (is i o.0 j) ++ (two (f.2 j) ++ (f.1 j ++ u.2 j))))
              ∙ ap (λ (x : List ℕ). 12 ∷ (two (place ns (name_at ns i)) ++ (two (length (names_at ns fs)) ++ x))) (sym (code-append ns (each name_items (names_at ns fs)) (exprs_items es))),
        )
    over-up (cast t) es b o e u =
        let y = first-up ns fresh t o.1 o.0 in
        let r = sole b es e u in (
          (y.0, r.0),
          each_append (Known ns) (ty_items (first_type ns t)) (expr_items (nth 0 es)) y.1 r.1,
          (λ j. 13 ∷ (y.2 j ++ r.2 j)) ∙ ap (λ (x : List ℕ). 13 ∷ x) (sym (code-append ns (ty_items (first_type ns t)) (expr_items (nth 0 es)))),
        )
    over-up (sample i k) es b o e u =
        let r = sole b es e u in
        (r.0, (known i o.0, r.1), ap (λ (x : List ℕ). 14 ∷ x) (append_assoc (two i) (k ∷ []) b) ∙ (λ j. 14 ∷ (two (is i o.0 j) ++ (sym (flag-byte k o.1) j ∷ r.2 j))))
    over-up (merge i) es b o e u = let r = pair b es e u in (r.0, (known i o, r.1), λ j. 15 ∷ (two (is i o j) ++ r.2 j))
    over-up (iterate k i f n) es b o e u =
        let a = arrays-is f n es o.1.1.0 e in
        let g = flag-byte f o.1.1.0 in
        let flat : (two i ++ (f ∷ two n)) ++ b ≡ two i ++ (f ∷ (two n ++ b)) = append_assoc (two i) (f ∷ two n) b in (
          (omega (arith, o.1.1.1), omega arith, u.0),
          (known i o.1.0, u.1),
          ap (λ (x : List ℕ). 16 ∷ k ∷ x) flat ∙ (λ j. 16 ∷ sym (iter-up k o.0) j ∷ (two (is i o.1.0 j) ++ (sym g j ∷ (two (sym a j) ++ u.2 j)))),
        )

    count-of : (ts : Trees ExprHead) → count_of (exprs_of ns ts) ≡ count ts
    unfolding count_of exprs_of count
    count-of nil = refl
    count-of (cons t ts) = ap suc (count-of ts)

    mutual
      unfolding OkTree OkTrees enc_tree enc_trees expr_of exprs_of ShapedAll exprs_items Each code

      pub expr-up : (t : Tree ExprHead) → OkTree (OkHead (length ns)) expr_arity t → Up (enc_tree enc_head t) (expr_of ns t)
      expr-up (node h ts) o = over-up h (exprs_of ns ts) (enc_trees enc_head ts) o.0 (count-of ts ∙ o.1) (exprs-up ts o.2)

      pub exprs-up : (ts : Trees ExprHead) → OkTrees (OkHead (length ns)) expr_arity ts → Ups (enc_trees enc_head ts) (exprs_of ns ts)
      exprs-up nil o = (tt, tt, refl)
      exprs-up (cons t ts) o =
          let r = expr-up t o.0 in
          let w = exprs-up ts o.1 in (
            (r.0, w.0),
            each_append (Known ns) (expr_items (expr_of ns t)) (exprs_items (exprs_of ns ts)) r.1 w.1,
            (λ j. r.2 j ++ w.2 j) ∙ sym (code-append ns (expr_items (expr_of ns t)) (exprs_items (exprs_of ns ts))),
          )

    module _ (small : length ns ≤ 65536) where
      pub fmt_expr : Fmt ns (expr_in ns) expr_items Shaped
      unfolding expr_in exprs_of nth count OkTrees
      fmt_expr = format_map (expr_at (length ns)) (enc_trees enc_head) (λ ts. (count ts ≡ 1) × OkTrees (OkHead (length ns)) expr_arity ts) (λ ts. nth 0 (exprs_of ns ts)) (λ e. cons (expr_tree ns e) nil) (λ e. code ns (expr_items e)) (λ e. Shaped e × Each (Known ns) (expr_items e)) (format_exprs (length ns) small)
          (λ e h. let r = expr-down e h.0 h.1 in ((refl, (r.0, tt)), r.1))
          (λ ts h. let u = sole (enc_trees enc_head ts) (exprs_of ns ts) (count-of ts ∙ h.0) (exprs-up ts h.1) in ((u.0, u.1), u.2))
