-- What the code writes of a right side that was read is the right side over samples of what it reads.
use Prim.Native.Nat.{ℕ, ◌+◌, ◌-◌, ◌<◌, ◌≤◌}
use native.Mathlib.Omega.{arith}
use mathlib.Core.List.{List, [], ◌∷◌, ◌++◌}
use mathlib.Core.Bool.{Bool}
use mathlib.Core.Path.{◌≡◌, refl, sym, ap, subst, ◌∙◌}
use lib.ListN.{length, take, drop}
use Rattle.wire.specs.Answer.{value}
use Rattle.wire.specs.Bytes.{two}
use Rattle.wire.specs.Lists.{All, Bytes}
use Rattle.wire.specs.Writer.{State, puts}
use Rattle.pack_rules.specs.Names.{Name}
use Rattle.pack_rules.specs.Syntax.{Expr, Exprs, e_merge, e_when, x_cons, x_nil}
use Rattle.pack_rules.specs.Forms.{name_at}
use Rattle.pack_rules.specs.Legal.{Fresh, LegalName}
use Rattle.pack_rules.specs.Read.{expr_in}
use Rattle.pack_rules.specs.Write.{Item, each, expr_items, flag_byte, raw}
use Rattle.pack.specs.Table.{tabled}
use Rattle.pack.specs.Intern.{put_item, put_name, render}
use Rattle.pack.proofs.Interns.{render-append}
use Rattle.pack.proofs.Tables.{code}
use Rattle.pack.proofs.Copies.{Lies}
use Rattle.machines.specs.Layout.{slice_of}
use Rattle.machines.specs.EmitAt.{pack_name}
use Rattle.activations.specs.declared.expr_node.ExprNode.{ExprNode}
use Rattle.activations.specs.declared.expr_node.ExprNode.TheVariants as mt
use Rattle.activation_rules.specs.LastCalls.{plain}
use Rattle.activation_rules.specs.MadeNames.{last_var}
use Rattle.activations.specs.Vars.{scope_at}
use Rattle.activation_rules.specs.RewriteLast.{rewrite_last, rewrite_lasts}
use Rattle.activation_rules.specs.Renames.{rename, renames}
use Rattle.activation_rules.specs.Samples.{renamed}
use Rattle.activations.specs.Lookups.{MadeIs}
use Rattle.activations.specs.Kids.{head_items, kids}
use Rattle.activations.specs.ExprNodes.{expr_node_at, onward_t}
use Rattle.activations.specs.Walks.{LastIs, through, write_step}
use Rattle.activations.specs.Ids.{IsId, held_id, holder_id, name_of, names_of, old_id}
use Rattle.activations.specs.Asked.{Asked}
use Rattle.activations.specs.RewriteLastAt.{copy_items}
use Rattle.activations.specs.NameIdsAt.{last_id_t}
use Rattle.activations.specs.OverSamplesAt.{chosen_items, clocked_items, other_items, rename_items, rename_t}
use Rattle.activations.proofs.Views.{View, to_come, v_array, v_arrow, v_bad, v_binary, v_call, v_cast, v_const, v_field, v_if, v_index, v_iterate, v_last, v_merge, v_pre, v_struct, v_tuple, v_unary, v_var, v_when}
use Rattle.activations.proofs.Walking.{walks-by}
use Rattle.activations.proofs.HeadCopies.{Kept, head-copied, head-lies, items-split, kept-come}
use Rattle.activations.proofs.Mapped.{array-items, call-items, iterate-items, struct-items, tuple-items}
use Rattle.activations.proofs.RewriteLastWritten.{bad-call, each-through, last-call, plain-call}
use Rattle.activations.proofs.AskedLaws.{asked-last, asked-under}
use Rattle.activations.proofs.IdLaws.{name-of-holder, name-of-old}
use Rattle.activations.proofs.NameIdsKnown.{renamed-written}
use Rattle.activations.proofs.FreeVarsKnown.{lies-length}

-- nodes without a name of their own: those that a renaming leaves
unfoldable Bare : ExprNode → Type 0
Bare (mt.Last v i q) = ⊥
Bare (mt.Bad u q) = Unit {0}
Bare (mt.Const q) = Unit {0}
Bare (mt.Var i q) = ⊥
Bare (mt.Clocked c u q) = ⊥
Bare (mt.Other u q) = Unit {0}
Bare mt.Nothing = Unit {0}

module _ (a : Name) (f : Name → Name) where
  unfoldable renamed_expr : Expr → Expr
  renamed_expr e = rename f (rewrite_last a e)

  unfoldable renamed_exprs : Exprs → Exprs
  renamed_exprs xs = renames f (rewrite_lasts a xs)

  none : renamed_exprs x_nil ≡ x_nil
  unfolding renamed_exprs rewrite_lasts renames
  none = refl

  more : (x : Expr) (xs : Exprs) → renamed_exprs (x_cons x xs) ≡ x_cons (renamed_expr x) (renamed_exprs xs)
  unfolding renamed_exprs renamed_expr rewrite_lasts renames
  more x xs = refl

  splits : (ns : List Name) (s : List ℕ) (e : Expr) (m : ExprNode) → View ns s e m → Bare m → expr_items (renamed_expr e) ≡ head_items e ++ each (λ x. expr_items (renamed_expr x)) (kids e)
  unfolding renamed_expr renamed_exprs rewrite_last rename head_items kids each Bare
  splits ns s e m (v_last k l n d) h = absurd h
  splits ns s e m (v_bad {f = g} {xs = xs} k) h = ap (λ (x : Expr). expr_items (rename f x)) (bad-call a g xs k) ∙ call-items renamed_expr renamed_exprs none more g xs
  splits ns s e m (v_call {f = g} {xs = xs} k) h = ap (λ (x : Expr). expr_items (rename f x)) (plain-call a g xs plain k refl) ∙ call-items renamed_expr renamed_exprs none more g xs
  splits ns s e m v_const h = items-split _
  splits ns s e m (v_var l n) h = absurd h
  splits ns s e m (v_when l n) h = absurd h
  splits ns s e m (v_merge l n) h = absurd h
  splits ns s e m v_unary h = items-split _
  splits ns s e m v_binary h = items-split _
  splits ns s e m v_if h = items-split _
  splits ns s e m v_pre h = items-split _
  splits ns s e m v_arrow h = items-split _
  splits ns s e m v_field h = items-split _
  splits ns s e m v_index h = items-split _
  splits ns s e m (v_tuple {xs = xs}) h = tuple-items renamed_expr renamed_exprs none more xs
  splits ns s e m (v_array {xs = xs}) h = array-items renamed_expr renamed_exprs none more xs
  splits ns s e m (v_struct {n = n} {fs = fs} {xs = xs}) h = struct-items renamed_expr renamed_exprs none more n fs xs
  splits ns s e m v_cast h = items-split _
  splits ns s e m (v_iterate {k = k} {f = g} {i = i} {xs = xs}) h = iterate-items renamed_expr renamed_exprs none more k g i xs

-- what stands before the rest
take-front : (xs ys : List ℕ) → take (length xs) (xs ++ ys) ≡ xs
take-front [] ys = refl
take-front (x ∷ xs) ys = ap (λ (l : List ℕ). x ∷ l) (take-front xs ys)

-- the bytes of what lies there
pub lies-bytes : (ns : List Name) (s : List ℕ) (at : ℕ) (is : List Item) (q : ℕ) → Lies ns s at is q → slice_of s at (q - at) ≡ code ns is
unfolding slice_of
lies-bytes ns s at is q l =
    let e = lies-length ns s at is q l in
    let f : q - at ≡ length (code ns is) = omega arith in
    ap (λ (i : ℕ). take i (drop at s)) f ∙ ap (take (length (code ns is))) l.bytes ∙ take-front (code ns is) (drop q s)

-- a pack that was read; an activation's name; what holds of the variables that have rows; the numbers read
module _ (ns : List Name) (fresh : Fresh [] ns) (legal : All LegalName ns) (few : length ns + length ns ≤ 65536) (s : List ℕ) (by : Bytes s) (short : length s ≤ 65536) (last : ℕ) (L : LastIs ns last)
    (offsets : List ℕ) (placed : (i : ℕ) → i < length ns → pack_name s offsets i ≡ name_at ns i) (a : Name) (made : Bool) (M : MadeIs ns made) (n k : ℕ)
    (lasts : List ℕ) (rows : ℕ) (P : Name → Type 0) (rowed : (v : ℕ) → v < length ns → P (name_at ns v) → last_id_t lasts rows v ≡ holder_id ns a v) where
  few-names : length ns < 65536
  few-names = omega arith

  module _ (ids : List ℕ) (all : All (IsId ns a) ids) where
    -- what a name becomes
    unfoldable becomes : Name → Name
    becomes x = renamed a (scope_at n k) (names_of ns a ids) x

    written : Expr → State → State
    written e z = render (tabled ns) (expr_items (rename becomes (rewrite_last a e))) z

    chosen_is : (x : ℕ) (m : Name) (z : State) → IsId ns a x → name_of ns a x ≡ m → render (tabled ns) (chosen_items (tabled ns) s offsets (length ns) made a n k ids x) z ≡ put_name (tabled ns) (becomes m) z
    unfolding becomes
    chosen_is x m z i e = renamed-written ns fresh legal few s by offsets placed a made M n k ids all x i z ∙ ap (λ (y : Name). put_name (tabled ns) (renamed a (scope_at n k) (names_of ns a ids) y) z) e

    step : ExprNode → ℕ → State → State
    step m p z = write_step (tabled ns) (rename_items (tabled ns) s offsets (length ns) made a n k ids lasts rows) m p z

    -- what is copied
    copied : (p : ℕ) (m : ExprNode) (z : State) → Bare m → step m p z ≡ puts (slice_of s p (onward_t m - p)) z
    unfolding step write_step rename_items other_items copy_items render put_item onward_t Bare
    copied p (mt.Last v i q) z h = absurd h
    copied p (mt.Bad u q) z h = refl
    copied p (mt.Const q) z h = refl
    copied p (mt.Var i q) z h = absurd h
    copied p (mt.Clocked c u q) z h = absurd h
    copied p (mt.Other u q) z h = refl
    copied p mt.Nothing z h = refl

    bare-kept : (m : ExprNode) → Bare m → Kept m
    unfolding Bare Kept
    bare-kept (mt.Last v i q) h = h
    bare-kept (mt.Bad u q) h = tt
    bare-kept (mt.Const q) h = tt
    bare-kept (mt.Var i q) h = tt
    bare-kept (mt.Clocked c u q) h = tt
    bare-kept (mt.Other u q) h = tt
    bare-kept mt.Nothing h = tt

    bare-follows : (p : ℕ) (e : Expr) (q : ℕ) (z : State) → expr_in ns s p ≡ value e q → View ns s e (expr_node_at ns s last p) → Bare (expr_node_at ns s last p)
        → written e z ≡ through written (to_come (expr_node_at ns s last p) e) (step (expr_node_at ns s last p) p z)
    unfolding written slice_of renamed_expr
    bare-follows p e q z d v h =
        ap (λ (is : List Item). render (tabled ns) is z) (splits a becomes ns s e (expr_node_at ns s last p) v h)
        ∙ render-append (tabled ns) (head_items e) (each (λ x. expr_items (rename becomes (rewrite_last a x))) (kids e)) z
        ∙ ap (render (tabled ns) (each (λ x. expr_items (rename becomes (rewrite_last a x))) (kids e))) (head-copied ns fresh few-names s by last L legal p e q d (bare-kept (expr_node_at ns s last p) h) z ∙ sym (copied p (expr_node_at ns s last p) z h))
        ∙ sym (each-through (tabled ns) (λ x. rename becomes (rewrite_last a x)) (kids e) (step (expr_node_at ns s last p) p z))
        ∙ ap (λ (es : List Expr). through written es (step (expr_node_at ns s last p) p z)) (sym (kept-come (expr_node_at ns s last p) e (bare-kept (expr_node_at ns s last p) h)))

    bare-at : (p : ℕ) (e : Expr) (q : ℕ) (m : ExprNode) (z : State) → expr_in ns s p ≡ value e q → m ≡ expr_node_at ns s last p → View ns s e m → Bare m → written e z ≡ through written (to_come m e) (step m p z)
    bare-at p e q m z d g v h =
        subst (λ (y : ExprNode). written e z ≡ through written (to_come y e) (step y p z)) (sym g)
        (bare-follows p e q z d (subst (View ns s e) g v) (subst Bare g h))

    -- a name renamed
    last-follows : (p : ℕ) (e : Expr) (var init next : ℕ) (z : State) → View ns s e (mt.Last var init next) → Asked P e → written e z ≡ step (mt.Last var init next) p z
    unfolding written step write_step rename_items other_items rename expr_items render put_item
    last-follows p e var init next z (v_last {f = f} {v = v} {xs = xs} {i = i} t l m d) h =
        let u = asked-last P ns s e var init next (v_last t l m d) h in
        ap (λ (y : Expr). render (tabled ns) (expr_items (rename becomes y)) z) (last-call a f xs v i t)
        ∙ sym (chosen_is (holder_id ns a var) (last_var a v) (puts (1 ∷ []) z) (held_id var l refl) (name-of-holder ns a var ∙ ap (last_var a) m))
        ∙ ap (λ (y : ℕ). render (tabled ns) (chosen_items (tabled ns) s offsets (length ns) made a n k ids y) (puts (1 ∷ []) z)) (sym (rowed var l u))

    var-follows : (p : ℕ) (e : Expr) (i next : ℕ) (z : State) → View ns s e (mt.Var i next) → written e z ≡ through written (to_come (mt.Var i next) e) (step (mt.Var i next) p z)
    unfolding written step write_step rename_items other_items rename rewrite_last expr_items render put_item through to_come kids
    var-follows p e i next z (v_var l m) = sym (chosen_is i _ (puts (1 ∷ []) z) (old_id l) (name-of-old ns a i l ∙ m))

    -- a clock renamed: the bytes around it stay
    clock-as : (c : ℕ) (m : Name) (h t f : List ℕ) (z : State) → IsId ns a c → name_of ns a c ≡ m → slice_of h 0 1 ≡ t → slice_of h 3 1 ≡ f → render (tabled ns) (clocked_items (tabled ns) s offsets (length ns) made a n k ids c h) z ≡ puts f (put_name (tabled ns) (becomes m) (puts t z))
    unfolding clocked_items render put_item
    clock-as c m h t f z i e g j =
        render-append (tabled ns) (chosen_items (tabled ns) s offsets (length ns) made a n k ids c) (raw (slice_of h 3 1) ∷ []) (puts (slice_of h 0 1) z)
        ∙ ap (puts (slice_of h 3 1)) (chosen_is c m (puts (slice_of h 0 1) z) i e)
        ∙ λ u. puts (j u) (put_name (tabled ns) (becomes m) (puts (g u) z))

    when-bytes : (b : Expr) (x : Name) (o : Bool) (h : List ℕ) → h ≡ code ns (head_items (e_when b x o)) → (slice_of h 0 1 ≡ 14 ∷ []) × (slice_of h 3 1 ≡ flag_byte o ∷ [])
    unfolding slice_of code head_items two
    when-bytes b x o h e = (ap (λ (l : List ℕ). take 1 (drop 0 l)) e, ap (λ (l : List ℕ). take 1 (drop 3 l)) e)

    merge-bytes : (x : Name) (b c : Expr) (h : List ℕ) → h ≡ code ns (head_items (e_merge x b c)) → (slice_of h 0 1 ≡ 15 ∷ []) × (slice_of h 3 1 ≡ [])
    unfolding slice_of code head_items two
    merge-bytes x b c h e = (ap (λ (l : List ℕ). take 1 (drop 0 l)) e, ap (λ (l : List ℕ). take 1 (drop 3 l)) e)

    bytes-at : (p : ℕ) (e : Expr) (q i u next : ℕ) → expr_in ns s p ≡ value e q → mt.Clocked i u next ≡ expr_node_at ns s last p → slice_of s p (next - p) ≡ code ns (head_items e)
    unfolding Kept onward_t
    bytes-at p e q i u next d g =
        let f : next ≡ onward_t (expr_node_at ns s last p) = ap onward_t g in
        ap (λ (y : ℕ). slice_of s p (y - p)) f ∙ lies-bytes ns s p (head_items e) (onward_t (expr_node_at ns s last p)) (head-lies ns fresh few-names s by last L p e q d (subst Kept g tt))

    clock-follows : (p : ℕ) (e : Expr) (q i u next : ℕ) (z : State) → expr_in ns s p ≡ value e q → mt.Clocked i u next ≡ expr_node_at ns s last p → View ns s e (mt.Clocked i u next) → written e z ≡ through written (to_come (mt.Clocked i u next) e) (step (mt.Clocked i u next) p z)
    unfolding written step write_step rename_items other_items rename rewrite_last expr_items render put_item through to_come kids puts
    clock-follows p e q i u next z d g (v_when {a = b} {x = x} {b = o} l m) =
        let w = when-bytes b x o (slice_of s p (next - p)) (bytes-at p e q i u next d g) in
        ap (λ (y : State). render (tabled ns) (expr_items (rename becomes (rewrite_last a b))) y) (sym (clock-as i x (slice_of s p (next - p)) (14 ∷ []) (flag_byte o ∷ []) z (old_id l) (name-of-old ns a i l ∙ m) w.0 w.1))
    clock-follows p e q i u next z d g (v_merge {x = x} {a = b} {b = c} l m) =
        let w = merge-bytes x b c (slice_of s p (next - p)) (bytes-at p e q i u next d g) in
        render-append (tabled ns) (expr_items (rename becomes (rewrite_last a b))) (expr_items (rename becomes (rewrite_last a c))) (put_name (tabled ns) (becomes x) (puts (15 ∷ []) z))
        ∙ ap (λ (y : State). render (tabled ns) (expr_items (rename becomes (rewrite_last a c))) (render (tabled ns) (expr_items (rename becomes (rewrite_last a b))) y)) (sym (clock-as i x (slice_of s p (next - p)) (15 ∷ []) [] z (old_id l) (name-of-old ns a i l ∙ m) w.0 w.1))

    follows : (p : ℕ) (e : Expr) (q : ℕ) (m : ExprNode) (z : State) → expr_in ns s p ≡ value e q → m ≡ expr_node_at ns s last p → View ns s e m → Asked P e → written e z ≡ through written (to_come m e) (step m p z)
    unfolding to_come through Bare
    follows p e q (mt.Last var init next) z d g v h = last-follows p e var init next z v h
    follows p e q (mt.Bad u i) z d g v h = bare-at p e q (mt.Bad u i) z d g v tt
    follows p e q (mt.Const i) z d g v h = bare-at p e q (mt.Const i) z d g v tt
    follows p e q (mt.Var i next) z d g v h = var-follows p e i next z v
    follows p e q (mt.Clocked i u next) z d g v h = clock-follows p e q i u next z d g v
    follows p e q (mt.Other u i) z d g v h = bare-at p e q (mt.Other u i) z d g v tt
    follows p e q mt.Nothing z d g v h = bare-at p e q mt.Nothing z d g v tt

    -- THE LAW: what is written of an expression that was read, its names renamed
    pub rename-written : (at : ℕ) (e : Expr) (q : ℕ) (z : State) → expr_in ns s at ≡ value e q → Asked P e
        → rename_t (tabled ns) s offsets (length ns) made a n k ids lasts rows ns last at z ≡ render (tabled ns) (expr_items (rename (renamed a (scope_at n k) (names_of ns a ids)) (rewrite_last a e))) z
    unfolding rename_t written step becomes
    rename-written at e q z d h =
        walks-by ns s few-names by short last L (write_step (tabled ns) (rename_items (tabled ns) s offsets (length ns) made a n k ids lasts rows)) written (λ (p : ℕ) (x y : State). x ≡ y) (Asked P)
        (λ p e q m x y d g v t r. (step m p x, ap (written e) (sym r) ∙ follows p e q m x d g v t, refl, asked-under P ns s e m v t))
        at e q z z d h refl
