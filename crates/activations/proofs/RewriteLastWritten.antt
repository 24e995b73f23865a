-- What the code writes of an expression is the expression with its calls of `last` replaced.
use Prim.Native.Nat.{ℕ, ◌-◌, ◌<◌, ◌≤◌}
use mathlib.Core.List.{List, [], ◌∷◌, ◌++◌}
use mathlib.Core.Option.{Option}
use mathlib.Core.Path.{◌≡◌, refl, sym, ap, subst, ◌∙◌}
use lib.ListN.{length}
use Rattle.wire.specs.Answer.{value}
use Rattle.wire.specs.Lists.{All, Bytes}
use Rattle.wire.specs.Writer.{State, puts}
use Rattle.pack_rules.specs.Names.{Name}
use Rattle.pack_rules.specs.Syntax.{Expr, Exprs, e_call, e_var, x_cons, x_nil}
use Rattle.pack_rules.specs.Forms.{name_at}
use Rattle.pack_rules.specs.Legal.{Fresh, LegalName}
use Rattle.pack_rules.specs.Read.{expr_in}
use Rattle.pack_rules.specs.Write.{Item, each, expr_items, nm, raw}
use Rattle.pack.specs.Table.{tabled}
use Rattle.pack.specs.Intern.{put_item, render}
use Rattle.pack.proofs.Interns.{render-append}
use Rattle.machines.specs.Layout.{slice_of}
use Rattle.machines.specs.EmitAt.{pack_name}
use Rattle.activations.specs.declared.expr_node.ExprNode.{ExprNode}
use Rattle.activations.specs.declared.expr_node.ExprNode.TheVariants as mt
use Rattle.activation_rules.specs.LastCalls.{CallKind, bad_last, call_kind, last_of, plain}
use Rattle.activation_rules.specs.MadeNames.{last_var}
use Rattle.activation_rules.specs.RewriteLast.{rewrite_last, rewrite_lasts}
use Rattle.activations.specs.Kids.{head_items, kids}
use Rattle.activations.specs.ExprNodes.{expr_node_at, onward_t}
use Rattle.activations.specs.Walks.{LastIs, through, write_step}
use Rattle.activations.specs.RewriteLastAt.{copy_items, met_items, rewrite_last_t}
use Rattle.activations.proofs.Views.{View, to_come, v_array, v_arrow, v_bad, v_binary, v_call, v_cast, v_const, v_field, v_if, v_index, v_iterate, v_last, v_merge, v_pre, v_struct, v_tuple, v_unary, v_var, v_when}
use Rattle.activations.proofs.Walking.{walks-one}
use Rattle.activations.proofs.HeadCopies.{Kept, head-copied, items-split, kept-come}
use Rattle.activations.proofs.Mapped.{array-items, call-items, iterate-items, struct-items, tuple-items}

module _ (a : Name) where
  none : rewrite_lasts a x_nil ≡ x_nil
  unfolding rewrite_lasts
  none = refl

  more : (x : Expr) (xs : Exprs) → rewrite_lasts a (x_cons x xs) ≡ x_cons (rewrite_last a x) (rewrite_lasts a xs)
  unfolding rewrite_lasts
  more x xs = refl

  -- calls, by their kind
  pub plain-call : (f : Name) (xs : Exprs) (k : CallKind) → call_kind f xs ≡ k → k ≡ plain → rewrite_last a (e_call f xs) ≡ e_call f (rewrite_lasts a xs)
  unfolding rewrite_last
  plain-call f xs k e g = ap (λ (y : CallKind). elim y [ plain ↦ e_call f (rewrite_lasts a xs) | bad_last ↦ e_call f (rewrite_lasts a xs) | last_of v i ↦ e_var (last_var a v) ]) (e ∙ g)

  pub bad-call : (f : Name) (xs : Exprs) → call_kind f xs ≡ bad_last → rewrite_last a (e_call f xs) ≡ e_call f (rewrite_lasts a xs)
  unfolding rewrite_last
  bad-call f xs e = ap (λ (y : CallKind). elim y [ plain ↦ e_call f (rewrite_lasts a xs) | bad_last ↦ e_call f (rewrite_lasts a xs) | last_of v i ↦ e_var (last_var a v) ]) e

  pub last-call : (f : Name) (xs : Exprs) (v : Name) (i : Option Expr) → call_kind f xs ≡ last_of v i → rewrite_last a (e_call f xs) ≡ e_var (last_var a v)
  unfolding rewrite_last
  last-call f xs v i e = ap (λ (y : CallKind). elim y [ plain ↦ e_call f (rewrite_lasts a xs) | bad_last ↦ e_call f (rewrite_lasts a xs) | last_of v i ↦ e_var (last_var a v) ]) e

  -- what is not replaced keeps its head
  splits : (ns : List Name) (s : List ℕ) (e : Expr) (m : ExprNode) → View ns s e m → Kept m → expr_items (rewrite_last a e) ≡ head_items e ++ each (λ x. expr_items (rewrite_last a x)) (kids e)
  unfolding rewrite_last head_items kids each Kept
  splits ns s e m (v_last k l n d) h = absurd h
  splits ns s e m (v_bad {f = f} {xs = xs} k) h = ap expr_items (bad-call f xs k) ∙ call-items (rewrite_last a) (rewrite_lasts a) none more f xs
  splits ns s e m (v_call {f = f} {xs = xs} k) h = ap expr_items (plain-call f xs plain k refl) ∙ call-items (rewrite_last a) (rewrite_lasts a) none more f xs
  splits ns s e m v_const h = items-split _
  splits ns s e m (v_var l n) h = items-split _
  splits ns s e m (v_when l n) h = items-split _
  splits ns s e m (v_merge l n) h = items-split _
  splits ns s e m v_unary h = items-split _
  splits ns s e m v_binary h = items-split _
  splits ns s e m v_if h = items-split _
  splits ns s e m v_pre h = items-split _
  splits ns s e m v_arrow h = items-split _
  splits ns s e m v_field h = items-split _
  splits ns s e m v_index h = items-split _
  splits ns s e m (v_tuple {xs = xs}) h = tuple-items (rewrite_last a) (rewrite_lasts a) none more xs
  splits ns s e m (v_array {xs = xs}) h = array-items (rewrite_last a) (rewrite_lasts a) none more xs
  splits ns s e m (v_struct {n = n} {fs = fs} {xs = xs}) h = struct-items (rewrite_last a) (rewrite_lasts a) none more n fs xs
  splits ns s e m v_cast h = items-split _
  splits ns s e m (v_iterate {k = k} {f = f} {i = i} {xs = xs}) h = iterate-items (rewrite_last a) (rewrite_lasts a) none more k f i xs

-- expressions one after the other
pub each-through : (old : List ℕ) (f : Expr → Expr) (es : List Expr) (z : State) → through (λ (e : Expr) (y : State). render old (expr_items (f e)) y) es z ≡ render old (each (λ e. expr_items (f e)) es) z
unfolding through each render
each-through old f [] z = refl
each-through old f (e ∷ es) z = each-through old f es (render old (expr_items (f e)) z) ∙ sym (render-append old (expr_items (f e)) (each (λ x. expr_items (f x)) es) z)

module _ (ns : List Name) (fresh : Fresh [] ns) (few : length ns < 65536) (legal : All LegalName ns) (s : List ℕ) (by : Bytes s) (short : length s ≤ 65536) (last : ℕ) (L : LastIs ns last)
    (offsets : List ℕ) (placed : (i : ℕ) → i < length ns → pack_name s offsets i ≡ name_at ns i) (a : Name) where
  written : Expr → State → State
  written e z = render (tabled ns) (expr_items (rewrite_last a e)) z

  -- what is copied at a node that is not replaced
  copied : (p : ℕ) (m : ExprNode) (z : State) → Kept m → write_step (tabled ns) (met_items s offsets a) m p z ≡ puts (slice_of s p (onward_t m - p)) z
  unfolding write_step met_items copy_items render put_item onward_t Kept
  copied p (mt.Last v i q) z h = absurd h
  copied p (mt.Bad u q) z h = refl
  copied p (mt.Const q) z h = refl
  copied p (mt.Var i q) z h = refl
  copied p (mt.Clocked c u q) z h = refl
  copied p (mt.Other u q) z h = refl
  copied p mt.Nothing z h = refl

  kept-follows : (p : ℕ) (e : Expr) (q : ℕ) (z : State) → expr_in ns s p ≡ value e q → View ns s e (expr_node_at ns s last p) → Kept (expr_node_at ns s last p)
      → written e z ≡ through written (to_come (expr_node_at ns s last p) e) (write_step (tabled ns) (met_items s offsets a) (expr_node_at ns s last p) p z)
  unfolding written slice_of
  kept-follows p e q z d v h =
      ap (λ (is : List Item). render (tabled ns) is z) (splits a ns s e (expr_node_at ns s last p) v h)
      ∙ render-append (tabled ns) (head_items e) (each (λ x. expr_items (rewrite_last a x)) (kids e)) z
      ∙ ap (render (tabled ns) (each (λ x. expr_items (rewrite_last a x)) (kids e))) (head-copied ns fresh few s by last L legal p e q d h z ∙ sym (copied p (expr_node_at ns s last p) z h))
      ∙ sym (each-through (tabled ns) (rewrite_last a) (kids e) (write_step (tabled ns) (met_items s offsets a) (expr_node_at ns s last p) p z))
      ∙ ap (λ (es : List Expr). through written es (write_step (tabled ns) (met_items s offsets a) (expr_node_at ns s last p) p z)) (sym (kept-come (expr_node_at ns s last p) e h))

  -- a call that is replaced becomes its holder
  last-follows : (p : ℕ) (e : Expr) (var init next : ℕ) (z : State) → View ns s e (mt.Last var init next) → written e z ≡ write_step (tabled ns) (met_items s offsets a) (mt.Last var init next) p z
  unfolding written write_step met_items expr_items
  last-follows p e var init next z (v_last {f = f} {v = v} {xs = xs} {i = i} k l n d) =
      ap (λ (y : Expr). render (tabled ns) (expr_items y) z) (last-call a f xs v i k)
      ∙ ap (λ (y : Name). render (tabled ns) (raw (1 ∷ []) ∷ nm (last_var a y) ∷ []) z) (sym (placed var l ∙ n))

  at-met : (p : ℕ) (e : Expr) (q : ℕ) (m : ExprNode) (z : State) → expr_in ns s p ≡ value e q → m ≡ expr_node_at ns s last p → View ns s e m → Kept m → written e z ≡ through written (to_come m e) (write_step (tabled ns) (met_items s offsets a) m p z)
  at-met p e q m z d g v h =
      subst (λ (y : ExprNode). written e z ≡ through written (to_come y e) (write_step (tabled ns) (met_items s offsets a) y p z)) (sym g)
      (kept-follows p e q z d (subst (View ns s e) g v) (subst Kept g h))

  follows : (p : ℕ) (e : Expr) (q : ℕ) (m : ExprNode) (z : State) → expr_in ns s p ≡ value e q → m ≡ expr_node_at ns s last p → View ns s e m → written e z ≡ through written (to_come m e) (write_step (tabled ns) (met_items s offsets a) m p z)
  unfolding to_come through Kept
  follows p e q (mt.Last var init next) z d g v = last-follows p e var init next z v
  follows p e q (mt.Bad u n) z d g v = at-met p e q (mt.Bad u n) z d g v tt
  follows p e q (mt.Const n) z d g v = at-met p e q (mt.Const n) z d g v tt
  follows p e q (mt.Var i n) z d g v = at-met p e q (mt.Var i n) z d g v tt
  follows p e q (mt.Clocked c u n) z d g v = at-met p e q (mt.Clocked c u n) z d g v tt
  follows p e q (mt.Other u n) z d g v = at-met p e q (mt.Other u n) z d g v tt
  follows p e q mt.Nothing z d g v = at-met p e q mt.Nothing z d g v tt

  -- THE LAW: what is written of an expression that was read
  pub unlast-written : (at : ℕ) (e : Expr) (q : ℕ) (z : State) → expr_in ns s at ≡ value e q → rewrite_last_t ns s last (tabled ns) offsets a at z ≡ render (tabled ns) (expr_items (rewrite_last a e)) z
  unfolding rewrite_last_t written
  unlast-written at e q z d = walks-one ns s few by short last L (write_step (tabled ns) (met_items s offsets a)) written follows at e q z d
