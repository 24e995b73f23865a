-- What is met where an expression was read: the view that every pass goes by.
use Prim.Native.Nat.{ℕ, zero, suc, ◌+◌, ◌<◌, ◌≤◌}
use native.Mathlib.Omega.{arith}
use mathlib.Core.List.{List, [], ◌∷◌, ◌++◌}
use mathlib.Core.Bool.{Bool, true, false, cond}
use mathlib.Core.Option.{Option, none, some}
use mathlib.Core.Path.{◌≡◌, refl, sym, ap, subst, ◌∙◌}
use lib.ListN.{length, get_or, drop}
use lib.Dec.{eqb}
use Rattle.pack.specs.declared.exprs.Node.TheVariants as nd
use Rattle.activations.specs.declared.expr_node.ExprNode.{ExprNode}
use Rattle.activations.specs.declared.expr_node.ExprNode.TheVariants as mt
use Rattle.wire.specs.Answer.{many, value}
use Rattle.wire.specs.Lists.{Bytes}
use Rattle.pack_rules.specs.Names.{Name, eq_name}
use Rattle.pack_rules.specs.Syntax.{BinOp, Expr, Exprs, IterKind, Lit, Ty, UnOp, e_array, e_arrow, e_binary, e_call, e_cast, e_const, e_field, e_if, e_index, e_iterate, e_merge, e_pre, e_struct, e_tuple, e_unary, e_var, e_when, x_cons, x_nil}
use Rattle.pack_rules.specs.Forms.{ExprHead, array, arrow, binary, call, cast, conditional, const, element, expr_arity, expr_head, expr_over, field, iterate, merge, name_at, nth, previous, sample, struct, tuple, unary, var}
use Rattle.pack.specs.Nodes.{decoded, node_of}
use Rattle.pack_rules.specs.Read.{expr_in}
use Rattle.pack_rules.specs.Write.{count_of}
use Rattle.pack.proofs.HeadFormats.{OkHead, enc_head, format_head}
use Rattle.machines.proofs.Reading.{many-end, many_more}
use Rattle.machines.proofs.CheckedReadLaws.{end-to, no}
use Rattle.activation_rules.specs.LastCalls.{as_var, bad_last, call_kind, last_name, last_of, last_rest, last_shape, plain}
use Rattle.activations.specs.Kids.{kids, list_of}
use Rattle.activations.specs.ExprNodes.{call_t, expr_node, expr_node_at, first_t, last_rest_t, last_shape_t, on_node, on_var, onward_t, open_t}
use Rattle.activations.specs.Walks.{InitAt, LastIs}
use Rattle.wire.proofs.Answers.{many-length}
use Rattle.activations.specs.ExprNodes.{grown_t}
use Rattle.activations.proofs.NodesRead.{expr-moves, head-moves, head-value, list_count}
use Rattle.activations.proofs.ExprNodeLaws.{grown-is, plain-const, plain_other, rest-bad, rest-one, rest-two, shape-none, two-goes}

-- what a pass still meets under a node: nothing under a call that is replaced
unfoldable pub to_come : ExprNode → Expr → List Expr
to_come (mt.Last v i q) e = []
to_come (mt.Bad u q) e = kids e
to_come (mt.Const q) e = kids e
to_come (mt.Var i q) e = kids e
to_come (mt.Clocked c u q) e = kids e
to_come (mt.Other u q) e = kids e
to_come mt.Nothing e = kids e

-- THE VIEW: an expression, and what is met where it stands
pub data View (ns : List Name) (s : List ℕ) : Expr → ExprNode → Type 0 where
  v_last : {f v : Name} {xs : Exprs} {i : Option Expr} {var init next : ℕ} → call_kind f xs ≡ last_of v i → var < length ns → name_at ns var ≡ v → InitAt ns s i init next → View ns s (e_call f xs) (mt.Last var init next)
  v_bad : {f : Name} {xs : Exprs} {u next : ℕ} → call_kind f xs ≡ bad_last → View ns s (e_call f xs) (mt.Bad u next)
  v_call : {f : Name} {xs : Exprs} {u next : ℕ} → call_kind f xs ≡ plain → View ns s (e_call f xs) (mt.Other u next)
  v_const : {l : Lit} {next : ℕ} → View ns s (e_const l) (mt.Const next)
  v_var : {x : Name} {i next : ℕ} → i < length ns → name_at ns i ≡ x → View ns s (e_var x) (mt.Var i next)
  v_when : {a : Expr} {x : Name} {b : Bool} {i u next : ℕ} → i < length ns → name_at ns i ≡ x → View ns s (e_when a x b) (mt.Clocked i u next)
  v_merge : {x : Name} {a b : Expr} {i u next : ℕ} → i < length ns → name_at ns i ≡ x → View ns s (e_merge x a b) (mt.Clocked i u next)
  v_unary : {o : UnOp} {a : Expr} {u next : ℕ} → View ns s (e_unary o a) (mt.Other u next)
  v_binary : {o : BinOp} {a b : Expr} {u next : ℕ} → View ns s (e_binary o a b) (mt.Other u next)
  v_if : {a b c : Expr} {u next : ℕ} → View ns s (e_if a b c) (mt.Other u next)
  v_pre : {a : Expr} {u next : ℕ} → View ns s (e_pre a) (mt.Other u next)
  v_arrow : {a b : Expr} {u next : ℕ} → View ns s (e_arrow a b) (mt.Other u next)
  v_field : {a : Expr} {f : Name} {u next : ℕ} → View ns s (e_field a f) (mt.Other u next)
  v_index : {a i : Expr} {u next : ℕ} → View ns s (e_index a i) (mt.Other u next)
  v_tuple : {xs : Exprs} {u next : ℕ} → View ns s (e_tuple xs) (mt.Other u next)
  v_array : {xs : Exprs} {u next : ℕ} → View ns s (e_array xs) (mt.Other u next)
  v_struct : {n : Name} {fs : List Name} {xs : Exprs} {u next : ℕ} → View ns s (e_struct n fs xs) (mt.Other u next)
  v_cast : {t : Ty} {a : Expr} {u next : ℕ} → View ns s (e_cast t a) (mt.Other u next)
  v_iterate : {k : IterKind} {f : Name} {i : Bool} {xs : Exprs} {u next : ℕ} → View ns s (e_iterate k f i xs) (mt.Other u next)

-- the view, and where the walk goes on up to q
pub record Viewed (ns : List Name) (s : List ℕ) (at : ℕ) (e : Expr) (q : ℕ) (m : ExprNode) : Type 0 where
  pub view : View ns s e m
  pub to : many (expr_in ns s) (length (to_come m e)) (onward_t m) ≡ value (to_come m e) q
  pub opens : (n : ℕ) → n < 65536 → length (to_come m e) ≤ 65536 → open_t m (suc n) ≡ length (to_come m e) + n
  pub moves : at < onward_t m
  pub inside : onward_t m ≤ length s

-- the kids of what was read
one-kid : (xs : Exprs) → count_of xs ≡ 1 → nth 0 xs ∷ [] ≡ list_of xs
unfolding count_of nth list_of
one-kid x_nil e = absurd (omega arith)
one-kid (x_cons a x_nil) e = refl
one-kid (x_cons a (x_cons b xs)) e = absurd (omega arith)

two-kids : (xs : Exprs) → count_of xs ≡ 2 → nth 0 xs ∷ nth 1 xs ∷ [] ≡ list_of xs
unfolding count_of nth list_of
two-kids x_nil e = absurd (omega arith)
two-kids (x_cons a x_nil) e = absurd (omega arith)
two-kids (x_cons a (x_cons b x_nil)) e = refl
two-kids (x_cons a (x_cons b (x_cons c xs))) e = absurd (omega arith)

three-kids : (xs : Exprs) → count_of xs ≡ 3 → nth 0 xs ∷ nth 1 xs ∷ nth 2 xs ∷ [] ≡ list_of xs
unfolding count_of nth list_of
three-kids x_nil e = absurd (omega arith)
three-kids (x_cons a x_nil) e = absurd (omega arith)
three-kids (x_cons a (x_cons b x_nil)) e = absurd (omega arith)
three-kids (x_cons a (x_cons b (x_cons c x_nil))) e = refl
three-kids (x_cons a (x_cons b (x_cons c (x_cons d xs)))) e = absurd (omega arith)

no_kids : (xs : Exprs) → count_of xs ≡ 0 → [] ≡ list_of xs
unfolding count_of list_of
no_kids x_nil e = refl
no_kids (x_cons a xs) e = absurd (omega arith)

pub kids_over : (ns : List Name) (h : ExprHead) (xs : Exprs) → count_of xs ≡ expr_arity h → kids (expr_over ns h xs) ≡ list_of xs
unfolding kids expr_over expr_arity
kids_over ns (const l) xs e = no_kids xs e
kids_over ns (var i) xs e = no_kids xs e
kids_over ns (unary o) xs e = one-kid xs e
kids_over ns (binary o) xs e = two-kids xs e
kids_over ns conditional xs e = three-kids xs e
kids_over ns previous xs e = one-kid xs e
kids_over ns arrow xs e = two-kids xs e
kids_over ns (call i n) xs e = refl
kids_over ns (field i) xs e = one-kid xs e
kids_over ns element xs e = two-kids xs e
kids_over ns (tuple n) xs e = refl
kids_over ns (array n) xs e = refl
kids_over ns (struct i fs) xs e = refl
kids_over ns (cast t) xs e = one-kid xs e
kids_over ns (sample i b) xs e = one-kid xs e
kids_over ns (merge i) xs e = two-kids xs e
kids_over ns (iterate k i b n) xs e = refl

-- a variable by its head, or no variable
data Which (ns : List Name) : ExprHead → Expr → Type 0 where
  is_var : {e : Expr} {i : ℕ} → as_var e ≡ some (name_at ns i) → Which ns (var i) e
  no_var : {h : ExprHead} {e : Expr} → as_var e ≡ none → ((m : ExprNode) (k : ℕ → ExprNode) → on_var (node_of h) m k ≡ m) → Which ns h e

which : (ns : List Name) (h : ExprHead) (xs : Exprs) → Which ns h (expr_over ns h xs)
unfolding expr_over as_var on_var node_of
which ns (const l) xs = no_var refl (λ m k. refl)
which ns (var i) xs = is_var refl
which ns (unary o) xs = no_var refl (λ m k. refl)
which ns (binary o) xs = no_var refl (λ m k. refl)
which ns conditional xs = no_var refl (λ m k. refl)
which ns previous xs = no_var refl (λ m k. refl)
which ns arrow xs = no_var refl (λ m k. refl)
which ns (call i n) xs = no_var refl (λ m k. refl)
which ns (field i) xs = no_var refl (λ m k. refl)
which ns element xs = no_var refl (λ m k. refl)
which ns (tuple n) xs = no_var refl (λ m k. refl)
which ns (array n) xs = no_var refl (λ m k. refl)
which ns (struct i fs) xs = no_var refl (λ m k. refl)
which ns (cast t) xs = no_var refl (λ m k. refl)
which ns (sample i b) xs = no_var refl (λ m k. refl)
which ns (merge i) xs = no_var refl (λ m k. refl)
which ns (iterate k i b n) xs = no_var refl (λ m k. refl)

-- the first byte of what stands there
first_byte : (s : List ℕ) (at b : ℕ) (xs : List ℕ) → drop at s ≡ b ∷ xs → get_or s at 0 ≡ b
first_byte [] zero b xs e = let z : ◌≡◌ {A = ℕ} 0 1 = cc in absurd (omega arith)
first_byte [] (suc at) b xs e = let z : ◌≡◌ {A = ℕ} 0 1 = cc in absurd (omega arith)
first_byte (x ∷ s) zero b xs e = cc
first_byte (x ∷ s) (suc at) b xs e = first_byte s at b xs e

grown-fits : (n u : ℕ) → n < 65536 → u ≤ 65536 → grown_t (suc n) u ≡ u + n
grown-fits n u a b = sym (grown-is (suc n) u (omega arith) b) ∙ omega arith

module _ (ns : List Name) (s : List ℕ) (last at : ℕ) where
  -- a node with all that stands under it
  node-viewed : (h : ExprHead) (next : ℕ) (xs : Exprs) (q : ℕ) (m : ExprNode) → expr_head (length ns) s at ≡ value h next → many (expr_in ns s) (expr_arity h) next ≡ value (list_of xs) q
      → View ns s (expr_over ns h xs) m → to_come m (expr_over ns h xs) ≡ kids (expr_over ns h xs) → onward_t m ≡ next → ((n : ℕ) → n < 65536 → expr_arity h ≤ 65536 → open_t m (suc n) ≡ expr_arity h + n) → Viewed ns s at (expr_over ns h xs) q m
  node-viewed h next xs q m a b v t w o =
      let l = many-length (expr_in ns s) (expr_arity h) next (list_of xs) q b in
      let c = t ∙ kids_over ns h xs (sym (list_count xs) ∙ l) in
      let d = ap length c ∙ l in
      let k = head-moves ns s at h next a in
      record {
        view = v;
        to = ap (λ y. many (expr_in ns s) y (onward_t m)) d ∙ ap (many (expr_in ns s) (expr_arity h)) w ∙ b ∙ ap (λ y. value y q) (sym c);
        opens = λ n f g. o n f (subst (λ y. y ≤ 65536) d g) ∙ ap (λ y. y + n) (sym d);
        moves = subst (λ y. at < y) (sym w) k.0;
        inside = subst (λ y. y ≤ length s) (sym w) k.1;
      }

  met-is : (h : ExprHead) (next : ℕ) → expr_head (length ns) s at ≡ value h next → expr_node_at ns s last at ≡ expr_node ns s last at (node_of h) next
  unfolding expr_node_at on_node decoded
  met-is h next e = ap (λ y. on_node (decoded y) (expr_node ns s last at)) e

  module _ (few : length ns < 65536) (by : Bytes s) where
    bytes-are : (h : ExprHead) (next : ℕ) → expr_head (length ns) s at ≡ value h next → drop at s ≡ enc_head h ++ drop next s
    bytes-are h next e = (format_head (length ns) (omega arith)).was s by at h next e

    -- a node of which only the number of those under it is told
    other-viewed : (h : ExprHead) (next : ℕ) (xs : Exprs) (q t : ℕ) (ys : List ℕ) → expr_head (length ns) s at ≡ value h next → many (expr_in ns s) (expr_arity h) next ≡ value (list_of xs) q
        → node_of h ≡ nd.Other (expr_arity h) → enc_head h ≡ suc t ∷ ys → ((u : ℕ) → View ns s (expr_over ns h xs) (mt.Other u next)) → Viewed ns s at (expr_over ns h xs) q (expr_node_at ns s last at)
    unfolding expr_node to_come onward_t open_t
    other-viewed h next xs q t ys a b n c v =
        let w : get_or s at 0 ≡ suc t = first_byte s at (suc t) _ (bytes-are h next a ∙ ap (λ l. l ++ drop next s) c) in
        let e : expr_node_at ns s last at ≡ mt.Other (expr_arity h) next = met-is h next a ∙ ap (λ y. expr_node ns s last at y next) n ∙ sym (plain_other s at (expr_arity h) next (get_or s at 0) refl (λ z. omega arith)) in
        subst (Viewed ns s at (expr_over ns h xs) q) (sym e) (node-viewed h next xs q (mt.Other (expr_arity h) next) a b (v (expr_arity h)) refl refl (λ k f g. grown-fits k (expr_arity h) f g))

    const-viewed : (l : Lit) (next : ℕ) (xs : Exprs) (q : ℕ) → expr_head (length ns) s at ≡ value (const l) next → many (expr_in ns s) 0 next ≡ value (list_of xs) q → Viewed ns s at (e_const l) q (expr_node_at ns s last at)
    unfolding expr_node node_of enc_head expr_arity expr_over to_come onward_t open_t
    const-viewed l next xs q a b =
        let w : get_or s at 0 ≡ 0 = first_byte s at 0 _ (bytes-are (const l) next a) in
        let e : expr_node_at ns s last at ≡ mt.Const next = met-is (const l) next a ∙ sym (plain-const s at 0 next (get_or s at 0) refl w) in
        subst (Viewed ns s at (e_const l) q) (sym e) (node-viewed (const l) next xs q (mt.Const next) a b v_const refl refl (λ k f g. omega arith))

    ok : (h : ExprHead) (next : ℕ) → expr_head (length ns) s at ≡ value h next → OkHead (length ns) h
    ok h next e = (format_head (length ns) (omega arith)).legal s by at h next e

    var-viewed : (i next : ℕ) (xs : Exprs) (q : ℕ) → expr_head (length ns) s at ≡ value (var i) next → many (expr_in ns s) 0 next ≡ value (list_of xs) q → Viewed ns s at (e_var (name_at ns i)) q (expr_node_at ns s last at)
    unfolding expr_node node_of expr_arity expr_over to_come onward_t open_t OkHead
    var-viewed i next xs q a b =
        subst (Viewed ns s at (e_var (name_at ns i)) q) (sym (met-is (var i) next a)) (node-viewed (var i) next xs q (mt.Var i next) a b (v_var (ok (var i) next a) refl) refl refl (λ k f g. omega arith))

    when-viewed : (i b next : ℕ) (xs : Exprs) (q : ℕ) → expr_head (length ns) s at ≡ value (sample i b) next → many (expr_in ns s) 1 next ≡ value (list_of xs) q → Viewed ns s at (expr_over ns (sample i b) xs) q (expr_node_at ns s last at)
    unfolding expr_node node_of expr_arity expr_over to_come onward_t open_t OkHead
    when-viewed i b next xs q a c =
        subst (Viewed ns s at (expr_over ns (sample i b) xs) q) (sym (met-is (sample i b) next a)) (node-viewed (sample i b) next xs q (mt.Clocked i 1 next) a c (v_when (ok (sample i b) next a).0 refl) refl refl (λ k f g. grown-fits k 1 f g))

    merge-viewed : (i next : ℕ) (xs : Exprs) (q : ℕ) → expr_head (length ns) s at ≡ value (merge i) next → many (expr_in ns s) 2 next ≡ value (list_of xs) q → Viewed ns s at (expr_over ns (merge i) xs) q (expr_node_at ns s last at)
    unfolding expr_node node_of expr_arity expr_over to_come onward_t open_t OkHead
    merge-viewed i next xs q a c =
        subst (Viewed ns s at (expr_over ns (merge i) xs) q) (sym (met-is (merge i) next a)) (node-viewed (merge i) next xs q (mt.Clocked i 2 next) a c (v_merge (ok (merge i) next a) refl) refl refl (λ k f g. grown-fits k 2 f g))

  -- calls of `last`: one that is replaced ends at q
  last-viewed : (f v : Name) (xs : Exprs) (i : Option Expr) (w init q : ℕ) → call_kind f xs ≡ last_of v i → w < length ns → name_at ns w ≡ v → InitAt ns s i init q → at < q → q ≤ length s → Viewed ns s at (e_call f xs) q (mt.Last w init q)
  unfolding to_come onward_t open_t many
  last-viewed f v xs i w init q k l n d a b = record { view = v_last k l n d; to = refl; opens = λ m g h. omega arith; moves = a; inside = b }

  bad-viewed : (i n next : ℕ) (xs : Exprs) (q : ℕ) → expr_head (length ns) s at ≡ value (call i n) next → many (expr_in ns s) n next ≡ value (list_of xs) q → call_kind (name_at ns i) xs ≡ bad_last → Viewed ns s at (e_call (name_at ns i) xs) q (mt.Bad n next)
  unfolding expr_arity expr_over to_come onward_t open_t
  bad-viewed i n next xs q a b k = node-viewed (call i n) next xs q (mt.Bad n next) a b (v_bad k) refl refl (λ m f g. grown-fits m n f g)

-- the first of n arguments of a call of `last`, which is read at `next`
module _ (ns : List Name) (s : List ℕ) where
  shape_is : (n next : ℕ) (h : ExprHead) (p : ℕ) → (n ≡ 0 → ⊥) → expr_head (length ns) s next ≡ value h p → last_shape_t ns s n next ≡ first_t ns s n next (node_of h) p
  unfolding last_shape_t on_node decoded
  shape_is n next h p z e = sym (no n 0 _ _ _ z refl) ∙ ap (λ y. on_node (decoded y) (first_t ns s n next)) e

  first-none : (n next : ℕ) (h : ExprHead) (p : ℕ) → ((m : ExprNode) (k : ℕ → ExprNode) → on_var (node_of h) m k ≡ m) → first_t ns s n next (node_of h) p ≡ mt.Bad n next
  unfolding first_t
  first-none n next h p f = f (mt.Bad n next) (λ i. last_rest_t ns s i n next p)

  first-var : (n next i p : ℕ) → first_t ns s n next (node_of (var i)) p ≡ last_rest_t ns s i n next p
  unfolding first_t on_var node_of
  first-var n next i p = refl

  -- what the definition says of the same arguments
  no-first : (a : Expr) (xs : Exprs) → as_var a ≡ none → last_shape (x_cons a xs) ≡ bad_last
  unfolding last_shape last_rest
  no-first a xs e = rw e

  var-first : (a : Expr) (xs : Exprs) (v : Name) → as_var a ≡ some v → last_shape (x_cons a xs) ≡ last_rest (some v) xs
  unfolding last_shape
  var-first a xs v e = rw e

  module _ (few : length ns < 65536) (by : Bytes s) (last at : ℕ) (i n next : ℕ) (a : expr_head (length ns) s at ≡ value (call i n) next) where
    -- a variable first: alone, with an initial value, or with more
    rest-viewed : (x : Expr) (ys : Exprs) (q : ℕ) (j p : ℕ) → many (expr_in ns s) n next ≡ value (list_of (x_cons x ys)) q → n ≡ suc (count_of ys) → call_kind (name_at ns i) (x_cons x ys) ≡ last_rest (some (name_at ns j)) ys
        → j < length ns → many (expr_in ns s) (count_of ys) p ≡ value (list_of ys) q → next < p → at < q → q ≤ length s → Viewed ns s at (e_call (name_at ns i) (x_cons x ys)) q (last_rest_t ns s j n next p)
    unfolding last_rest InitAt count_of list_of
    rest-viewed x x_nil q j p b c k l d f g h =
        let e : p ≡ q = many-end (expr_in ns s) p q d in
        subst (Viewed ns s at (e_call (name_at ns i) (x_cons x x_nil)) q) (ap (mt.Last j 0) (sym e) ∙ rest-one ns s j n next p (omega arith)) (last-viewed ns s last at (name_at ns i) (name_at ns j) (x_cons x x_nil) none j 0 q k l refl refl g h)
    rest-viewed x (x_cons y x_nil) q j p b c k l d f g h =
        let m = many_more (expr_in ns s) 0 p y [] q d in
        let e : m.0 ≡ q = many-end (expr_in ns s) m.0 q m.2 in
        let r : expr_in ns s p ≡ value y q = m.1 ∙ ap (value y) e in
        subst (Viewed ns s at (e_call (name_at ns i) (x_cons x (x_cons y x_nil))) q)
        (rest-two ns s j n next p q (mt.Last j p q) (λ z. omega arith) (omega arith) (sym (end-to (expr_in ns s p) y q r)) (two-goes j p q (expr-moves ns s p y q r).0))
        (last-viewed ns s last at (name_at ns i) (name_at ns j) (x_cons x (x_cons y x_nil)) (some y) j p q k l refl (omega arith, r) g h)
    rest-viewed x (x_cons y (x_cons z ys)) q j p b c k l d f g h =
        subst (Viewed ns s at (e_call (name_at ns i) (x_cons x (x_cons y (x_cons z ys)))) q)
        (rest-bad ns s j n next p (λ o. omega arith) (λ o. omega arith))
        (bad-viewed ns s last at i n next (x_cons x (x_cons y (x_cons z ys))) q a b k)

    first-viewed : (x : Expr) (ys : Exprs) (q p : ℕ) (h : ExprHead) (t : ℕ) (zs : Exprs) → many (expr_in ns s) n next ≡ value (list_of (x_cons x ys)) q → n ≡ suc (count_of ys) → call_kind (name_at ns i) (x_cons x ys) ≡ last_shape (x_cons x ys)
        → expr_head (length ns) s next ≡ value h t → many (expr_in ns s) (expr_arity h) t ≡ value (list_of zs) p → many (expr_in ns s) (count_of ys) p ≡ value (list_of ys) q → at < q → q ≤ length s
        → Which ns h x → Viewed ns s at (e_call (name_at ns i) (x_cons x ys)) q (first_t ns s n next (node_of h) t)
    unfolding expr_arity many OkHead
    first-viewed x ys q p h t zs b c k d u r f g (no_var v w) =
        subst (Viewed ns s at (e_call (name_at ns i) (x_cons x ys)) q) (sym (first-none n next h t w)) (bad-viewed ns s last at i n next (x_cons x ys) q a b (k ∙ no-first x ys v))
    first-viewed x ys q p h t zs b c k d u r f g (is_var {i = j} v) =
        let e : t ≡ p = cc in
        subst (Viewed ns s at (e_call (name_at ns i) (x_cons x ys)) q) (sym (first-var n next j t))
        (rest-viewed x ys q j t b c (k ∙ var-first x ys (name_at ns j) v) (ok ns s last next few by (var j) t d) (ap (many (expr_in ns s) (count_of ys)) e ∙ r) (head-moves ns s next (var j) t d).0 f g)

    shape-viewed : (xs : Exprs) (q : ℕ) → many (expr_in ns s) n next ≡ value (list_of xs) q → call_kind (name_at ns i) xs ≡ last_shape xs → at < q → q ≤ length s → Viewed ns s at (e_call (name_at ns i) xs) q (last_shape_t ns s n next)
    unfolding last_shape list_of count_of
    shape-viewed x_nil q b k f g =
        let l = many-length (expr_in ns s) n next [] q b in
        subst (Viewed ns s at (e_call (name_at ns i) x_nil) q) (shape-none ns s n next (sym l)) (bad-viewed ns s last at i n next x_nil q a b k)
    shape-viewed (x_cons x ys) q b k f g =
        let l : n ≡ suc (count_of ys) = sym (many-length (expr_in ns s) n next (x ∷ list_of ys) q b) ∙ ap suc (list_count ys) in
        let m = many_more (expr_in ns s) (count_of ys) next x (list_of ys) q (ap (λ y. many (expr_in ns s) y next) (sym l) ∙ b) in
        let r = head-value ns s next x m.0 m.1 in
        subst (Viewed ns s at (e_call (name_at ns i) (x_cons x ys)) q) (sym (shape_is n next r.h r.next (λ z. omega arith) r.head))
        (first-viewed x ys q m.0 r.h r.next r.xs b l k r.head r.under m.2 f g (subst (Which ns r.h) r.is (which ns r.h r.xs)))

  module _ (few : length ns < 65536) (by : Bytes s) (last : ℕ) (L : LastIs ns last) where
    call-viewed : (at i n next : ℕ) (xs : Exprs) (q : ℕ) → expr_head (length ns) s at ≡ value (call i n) next → many (expr_in ns s) n next ≡ value (list_of xs) q → at < q → q ≤ length s → Viewed ns s at (e_call (name_at ns i) xs) q (expr_node_at ns s last at)
    unfolding LastIs OkHead expr_node node_of call_t call_kind expr_arity expr_over to_come onward_t open_t
    call-viewed at i n next xs q a b f g =
        subst (Viewed ns s at (e_call (name_at ns i) xs) q) (sym (met-is ns s last at (call i n) next a))
        (go (eq_name (name_at ns i) last_name) refl (L i (ok ns s last at few by (call i n) next a).0))
      where
        go : (t : Bool) → eq_name (name_at ns i) last_name ≡ t → eqb i last ≡ eq_name (name_at ns i) last_name → Viewed ns s at (e_call (name_at ns i) xs) q (cond (eqb i last) (last_shape_t ns s n next) (mt.Other n next))
        go true d e =
            subst (λ y. Viewed ns s at (e_call (name_at ns i) xs) q (cond y (last_shape_t ns s n next) (mt.Other n next))) (sym (e ∙ d))
            (shape-viewed few by last at i n next a xs q b (ap (λ y. cond y (last_shape xs) plain) d) f g)
        go false d e =
            subst (λ y. Viewed ns s at (e_call (name_at ns i) xs) q (cond y (last_shape_t ns s n next) (mt.Other n next))) (sym (e ∙ d))
            (node-viewed ns s last at (call i n) next xs q (mt.Other n next) a b (v_call (ap (λ y. cond y (last_shape xs) plain) d)) refl refl (λ m u w. grown-fits m n u w))

    over-viewed : (at : ℕ) (h : ExprHead) (next : ℕ) (xs : Exprs) (q : ℕ) → expr_head (length ns) s at ≡ value h next → many (expr_in ns s) (expr_arity h) next ≡ value (list_of xs) q → at < q → q ≤ length s → Viewed ns s at (expr_over ns h xs) q (expr_node_at ns s last at)
    unfolding expr_arity expr_over node_of enc_head
    over-viewed at (const l) next xs q a b f g = const-viewed ns s last at few by l next xs q a b
    over-viewed at (var i) next xs q a b f g = var-viewed ns s last at few by i next xs q a b
    over-viewed at (unary o) next xs q a b f g = other-viewed ns s last at few by (unary o) next xs q 1 _ a b refl refl (λ u. v_unary)
    over-viewed at (binary o) next xs q a b f g = other-viewed ns s last at few by (binary o) next xs q 2 _ a b refl refl (λ u. v_binary)
    over-viewed at conditional next xs q a b f g = other-viewed ns s last at few by conditional next xs q 3 _ a b refl refl (λ u. v_if)
    over-viewed at previous next xs q a b f g = other-viewed ns s last at few by previous next xs q 4 _ a b refl refl (λ u. v_pre)
    over-viewed at arrow next xs q a b f g = other-viewed ns s last at few by arrow next xs q 5 _ a b refl refl (λ u. v_arrow)
    over-viewed at (call i n) next xs q a b f g = call-viewed at i n next xs q a b f g
    over-viewed at (field i) next xs q a b f g = other-viewed ns s last at few by (field i) next xs q 7 _ a b refl refl (λ u. v_field)
    over-viewed at element next xs q a b f g = other-viewed ns s last at few by element next xs q 8 _ a b refl refl (λ u. v_index)
    over-viewed at (tuple n) next xs q a b f g = other-viewed ns s last at few by (tuple n) next xs q 9 _ a b refl refl (λ u. v_tuple)
    over-viewed at (array n) next xs q a b f g = other-viewed ns s last at few by (array n) next xs q 10 _ a b refl refl (λ u. v_array)
    over-viewed at (struct i fs) next xs q a b f g = other-viewed ns s last at few by (struct i fs) next xs q 11 _ a b refl refl (λ u. v_struct)
    over-viewed at (cast t) next xs q a b f g = other-viewed ns s last at few by (cast t) next xs q 12 _ a b refl refl (λ u. v_cast)
    over-viewed at (sample i c) next xs q a b f g = when-viewed ns s last at few by i c next xs q a b
    over-viewed at (merge i) next xs q a b f g = merge-viewed ns s last at few by i next xs q a b
    over-viewed at (iterate k i c n) next xs q a b f g = other-viewed ns s last at few by (iterate k i c n) next xs q 15 _ a b refl refl (λ u. v_iterate)

    -- THE THEOREM: what was read is viewed
    pub viewed : (at : ℕ) (e : Expr) (q : ℕ) → expr_in ns s at ≡ value e q → Viewed ns s at e q (expr_node_at ns s last at)
    viewed at e q d =
        let r = head-value ns s at e q d in
        let m = expr-moves ns s at e q d in
        subst (λ y. Viewed ns s at y q (expr_node_at ns s last at)) r.is (over-viewed at r.h r.next r.xs q r.head r.under m.0 m.1)
