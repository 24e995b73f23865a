-- What the code writes of a right side that reads nothing is the right side with its constants on the scope's clock.
use Prim.Native.Nat.{ℕ, ◌-◌, ◌<◌, ◌≤◌}
use mathlib.Core.List.{List, [], ◌∷◌, ◌++◌}
use mathlib.Core.Bool.{Bool, true, false, cond, ◌||◌}
use mathlib.Core.Path.{◌≡◌, refl, sym, ap, subst, ◌∙◌}
use lib.ListN.{length}
use Rattle.wire.specs.Answer.{value}
use Rattle.wire.specs.Lists.{All, Bytes}
use Rattle.wire.specs.Writer.{State, puts}
use Rattle.pack_rules.specs.Names.{Name}
use Rattle.pack_rules.specs.Syntax.{Expr, Exprs, e_const, x_cons, x_nil}
use Rattle.pack_rules.specs.Forms.{name_at}
use Rattle.pack_rules.specs.Legal.{Fresh, LegalName}
use Rattle.pack_rules.specs.Read.{expr_in}
use Rattle.pack_rules.specs.Write.{Item, each, expr_items, nm, raw}
use Rattle.pack.specs.Table.{tabled}
use Rattle.pack.specs.Intern.{put_item, render}
use Rattle.pack.proofs.Interns.{render-append}
use Rattle.machines.specs.Layout.{slice_of}
use Rattle.machines.specs.EmitAt.{pack_name}
use Rattle.activations.specs.declared.expr_node.ExprNode.{ExprNode}
use Rattle.activations.specs.declared.expr_node.ExprNode.TheVariants as mt
use Rattle.activation_rules.specs.LastCalls.{plain}
use Rattle.activation_rules.specs.MadeNames.{last_var}
use Rattle.activations.specs.Vars.{scope_at}
use Rattle.activation_rules.specs.Clocks.{onto}
use Rattle.activation_rules.specs.RewriteLast.{rewrite_last, rewrite_lasts}
use Rattle.activation_rules.specs.SampledConstants.{has_const, has_consts, sample_constants, sample_constants_in, sample_value}
use Rattle.activations.specs.Kids.{head_items, kids, list_of}
use Rattle.activations.specs.ExprNodes.{expr_node_at, is_const, onward_t}
use Rattle.activations.specs.Walks.{LastIs, or_step, through, write_step}
use Rattle.activations.specs.ByNumber.{onto_items}
use Rattle.activations.specs.RewriteLastAt.{copy_items, met_items, rewrite_last_t}
use Rattle.activations.specs.OverSamplesAt.{has_const_t, sampled_constant_items, sampled_constant_t, sampled_value_t}
use Rattle.activations.proofs.Views.{View, to_come, v_array, v_arrow, v_bad, v_binary, v_call, v_cast, v_const, v_field, v_if, v_index, v_iterate, v_last, v_merge, v_pre, v_struct, v_tuple, v_unary, v_var, v_when}
use Rattle.activations.proofs.Walking.{walks-one}
use Rattle.activations.proofs.HeadCopies.{Kept, head-copied, items-split, kept-come}
use Rattle.activations.proofs.Mapped.{array-items, call-items, iterate-items, struct-items, tuple-items}
use Rattle.activations.proofs.RewriteLastWritten.{bad-call, each-through, last-call, plain-call, unlast-written}
use Rattle.activations.proofs.ClockLaws.{onto-items, onto-then}
use Rattle.activations.proofs.BadLastsFound.{one-after, or_assoc, or-false, three-after, two-after}

-- constants
module _ (a : Name) where
  unfoldable or_const : Expr → Bool → Bool
  or_const e z = z || has_const (rewrite_last a e)

  consts-in-order : (xs : Exprs) (z : Bool) → through (or_const) (list_of xs) z ≡ z || has_consts (rewrite_lasts a xs)
  unfolding through list_of or_const rewrite_lasts has_consts
  consts-in-order x_nil z = sym (or-false z)
  consts-in-order (x_cons x xs) z = consts-in-order xs (z || has_const (rewrite_last a x)) ∙ or_assoc z (has_const (rewrite_last a x)) (has_consts (rewrite_lasts a xs))

  list-consts : (xs : Exprs) (z : Bool) → z || has_consts (rewrite_lasts a xs) ≡ through or_const (list_of xs) (z || false)
  list-consts xs z = sym (ap (through or_const (list_of xs)) (or-false z) ∙ consts-in-order xs z)

  consts-follow : (ns : List Name) (s : List ℕ) (e : Expr) (m : ExprNode) (p : ℕ) (z : Bool) → View ns s e m → or_const e z ≡ through or_const (to_come m e) (or_step is_const m p z)
  unfolding or_const through or_step to_come kids is_const rewrite_last has_const
  consts-follow ns s e m p z (v_last {f = f} {v = v} {xs = xs} {i = i} k l n d) = ap (λ (x : Expr). z || has_const x) (last-call a f xs v i k)
  consts-follow ns s e m p z (v_bad {f = f} {xs = xs} k) = ap (λ (x : Expr). z || has_const x) (bad-call a f xs k) ∙ list-consts xs z
  consts-follow ns s e m p z (v_call {f = f} {xs = xs} k) = ap (λ (x : Expr). z || has_const x) (plain-call a f xs plain k refl) ∙ list-consts xs z
  consts-follow ns s e m p z v_const = refl
  consts-follow ns s e m p z (v_var l n) = refl
  consts-follow ns s e m p z (v_when l n) = one-after z _
  consts-follow ns s e m p z (v_merge l n) = two-after z _ _
  consts-follow ns s e m p z v_unary = one-after z _
  consts-follow ns s e m p z v_binary = two-after z _ _
  consts-follow ns s e m p z v_if = three-after z _ _ _
  consts-follow ns s e m p z v_pre = one-after z _
  consts-follow ns s e m p z v_arrow = two-after z _ _
  consts-follow ns s e m p z v_field = one-after z _
  consts-follow ns s e m p z v_index = two-after z _ _
  consts-follow ns s e m p z (v_tuple {xs = xs}) = list-consts xs z
  consts-follow ns s e m p z (v_array {xs = xs}) = list-consts xs z
  consts-follow ns s e m p z (v_struct {xs = xs}) = list-consts xs z
  consts-follow ns s e m p z v_cast = one-after z _
  consts-follow ns s e m p z (v_iterate {xs = xs}) = list-consts xs z

-- all nodes but constants and calls that are replaced
unfoldable Unpinned : ExprNode → Type 0
Unpinned (mt.Last v i q) = ⊥
Unpinned (mt.Bad u q) = Unit {0}
Unpinned (mt.Const q) = ⊥
Unpinned (mt.Var i q) = Unit {0}
Unpinned (mt.Clocked c u q) = Unit {0}
Unpinned (mt.Other u q) = Unit {0}
Unpinned mt.Nothing = Unit {0}

unpinned-kept : (m : ExprNode) → Unpinned m → Kept m
unfolding Unpinned Kept
unpinned-kept (mt.Last v i q) h = h
unpinned-kept (mt.Bad u q) h = tt
unpinned-kept (mt.Const q) h = tt
unpinned-kept (mt.Var i q) h = tt
unpinned-kept (mt.Clocked c u q) h = tt
unpinned-kept (mt.Other u q) h = tt
unpinned-kept mt.Nothing h = tt

module _ (a : Name) (f : Expr → Expr) where
  unfoldable pinned_expr : Expr → Expr
  pinned_expr e = sample_constants f (rewrite_last a e)

  unfoldable pinned_exprs : Exprs → Exprs
  pinned_exprs xs = sample_constants_in f (rewrite_lasts a xs)

  none : pinned_exprs x_nil ≡ x_nil
  unfolding pinned_exprs rewrite_lasts sample_constants_in
  none = refl

  more : (x : Expr) (xs : Exprs) → pinned_exprs (x_cons x xs) ≡ x_cons (pinned_expr x) (pinned_exprs xs)
  unfolding pinned_exprs pinned_expr rewrite_lasts sample_constants_in
  more x xs = refl

  splits : (ns : List Name) (s : List ℕ) (e : Expr) (m : ExprNode) → View ns s e m → Unpinned m → expr_items (pinned_expr e) ≡ head_items e ++ each (λ x. expr_items (pinned_expr x)) (kids e)
  unfolding pinned_expr pinned_exprs rewrite_last sample_constants head_items kids each Unpinned
  splits ns s e m (v_last k l n d) h = absurd h
  splits ns s e m (v_bad {f = g} {xs = xs} k) h = ap (λ (x : Expr). expr_items (sample_constants f x)) (bad-call a g xs k) ∙ call-items pinned_expr pinned_exprs none more g xs
  splits ns s e m (v_call {f = g} {xs = xs} k) h = ap (λ (x : Expr). expr_items (sample_constants f x)) (plain-call a g xs plain k refl) ∙ call-items pinned_expr pinned_exprs none more g xs
  splits ns s e m v_const h = absurd h
  splits ns s e m (v_var l n) h = items-split _
  splits ns s e m (v_when l n) h = items-split _
  splits ns s e m (v_merge l n) h = items-split _
  splits ns s e m v_unary h = items-split _
  splits ns s e m v_binary h = items-split _
  splits ns s e m v_if h = items-split _
  splits ns s e m v_pre h = items-split _
  splits ns s e m v_arrow h = items-split _
  splits ns s e m v_field h = items-split _
  splits ns s e m v_index h = items-split _
  splits ns s e m (v_tuple {xs = xs}) h = tuple-items pinned_expr pinned_exprs none more xs
  splits ns s e m (v_array {xs = xs}) h = array-items pinned_expr pinned_exprs none more xs
  splits ns s e m (v_struct {n = n} {fs = fs} {xs = xs}) h = struct-items pinned_expr pinned_exprs none more n fs xs
  splits ns s e m v_cast h = items-split _
  splits ns s e m (v_iterate {k = k} {f = g} {i = i} {xs = xs}) h = iterate-items pinned_expr pinned_exprs none more k g i xs

module _ (ns : List Name) (fresh : Fresh [] ns) (few : length ns < 65536) (legal : All LegalName ns) (s : List ℕ) (by : Bytes s) (short : length s ≤ 65536) (last : ℕ) (L : LastIs ns last)
    (offsets : List ℕ) (placed : (i : ℕ) → i < length ns → pack_name s offsets i ≡ name_at ns i) (a : Name) (n k : ℕ) where
  pub has-const-is : (at : ℕ) (e : Expr) (q : ℕ) → expr_in ns s at ≡ value e q → has_const_t ns s last at ≡ has_const (rewrite_last a e)
  unfolding has_const_t or_const
  has-const-is at e q d = walks-one ns s few by short last L (or_step is_const) (or_const a) (λ p e q m z d g v. consts-follow a ns s e m p z v) at e q false d

  on_clock : Expr → Expr
  on_clock e = onto a n (scope_at n k) e

  written : Expr → State → State
  written e z = render (tabled ns) (expr_items (sample_constants on_clock (rewrite_last a e))) z

  step : ExprNode → ℕ → State → State
  step m p z = write_step (tabled ns) (sampled_constant_items s offsets a n k) m p z

  copied : (p : ℕ) (m : ExprNode) (z : State) → Unpinned m → step m p z ≡ puts (slice_of s p (onward_t m - p)) z
  unfolding step write_step sampled_constant_items met_items copy_items render put_item onward_t Unpinned
  copied p (mt.Last v i q) z h = absurd h
  copied p (mt.Bad u q) z h = refl
  copied p (mt.Const q) z h = absurd h
  copied p (mt.Var i q) z h = refl
  copied p (mt.Clocked c u q) z h = refl
  copied p (mt.Other u q) z h = refl
  copied p mt.Nothing z h = refl

  kept-follows : (p : ℕ) (e : Expr) (q : ℕ) (z : State) → expr_in ns s p ≡ value e q → View ns s e (expr_node_at ns s last p) → Unpinned (expr_node_at ns s last p)
      → written e z ≡ through written (to_come (expr_node_at ns s last p) e) (step (expr_node_at ns s last p) p z)
  unfolding written slice_of pinned_expr
  kept-follows p e q z d v h =
      ap (λ (is : List Item). render (tabled ns) is z) (splits a on_clock ns s e (expr_node_at ns s last p) v h)
      ∙ render-append (tabled ns) (head_items e) (each (λ x. expr_items (sample_constants on_clock (rewrite_last a x))) (kids e)) z
      ∙ ap (render (tabled ns) (each (λ x. expr_items (sample_constants on_clock (rewrite_last a x))) (kids e))) (head-copied ns fresh few s by last L legal p e q d (unpinned-kept (expr_node_at ns s last p) h) z ∙ sym (copied p (expr_node_at ns s last p) z h))
      ∙ sym (each-through (tabled ns) (λ x. sample_constants on_clock (rewrite_last a x)) (kids e) (step (expr_node_at ns s last p) p z))
      ∙ ap (λ (es : List Expr). through written es (step (expr_node_at ns s last p) p z)) (sym (kept-come (expr_node_at ns s last p) e (unpinned-kept (expr_node_at ns s last p) h)))

  kept_at : (p : ℕ) (e : Expr) (q : ℕ) (m : ExprNode) (z : State) → expr_in ns s p ≡ value e q → m ≡ expr_node_at ns s last p → View ns s e m → Unpinned m → written e z ≡ through written (to_come m e) (step m p z)
  kept_at p e q m z d g v h =
      subst (λ (y : ExprNode). written e z ≡ through written (to_come y e) (step y p z)) (sym g)
      (kept-follows p e q z d (subst (View ns s e) g v) (subst Unpinned g h))

  last-follows : (p : ℕ) (e : Expr) (var init next : ℕ) (z : State) → View ns s e (mt.Last var init next) → written e z ≡ step (mt.Last var init next) p z
  unfolding written step write_step sampled_constant_items met_items sample_constants expr_items
  last-follows p e var init next z (v_last {f = f} {v = v} {xs = xs} {i = i} t l m d) =
      ap (λ (y : Expr). render (tabled ns) (expr_items (sample_constants on_clock y)) z) (last-call a f xs v i t)
      ∙ ap (λ (y : Name). render (tabled ns) (raw (1 ∷ []) ∷ nm (last_var a y) ∷ []) z) (sym (placed var l ∙ m))

  const-copied : (p : ℕ) (e : Expr) (q i : ℕ) (z : State) → expr_in ns s p ≡ value e q → mt.Const i ≡ expr_node_at ns s last p → render (tabled ns) (head_items e) z ≡ puts (slice_of s p (i - p)) z
  unfolding slice_of Kept onward_t
  const-copied p e q i z d g =
      head-copied ns fresh few s by last L legal p e q d (subst Kept g tt) z
      ∙ ap (λ (m : ExprNode). puts (slice_of s p (onward_t m - p)) z) (sym g)

  const-follows : (p : ℕ) (e : Expr) (q i : ℕ) (z : State) → expr_in ns s p ≡ value e q → mt.Const i ≡ expr_node_at ns s last p → View ns s e (mt.Const i) → written e z ≡ through written (to_come (mt.Const i) e) (step (mt.Const i) p z)
  unfolding written step write_step sampled_constant_items copy_items render put_item through to_come kids rewrite_last sample_constants on_clock head_items expr_items
  const-follows p e q i z d g (v_const {l = l}) =
      ap (λ (is : List Item). render (tabled ns) is z) (onto-items a n (scope_at n k) (e_const l))
      ∙ render-append (tabled ns) (onto_items a n (scope_at n k)) (head_items (e_const l)) z
      ∙ const-copied p e q i (render (tabled ns) (onto_items a n (scope_at n k)) z) d g
      ∙ sym (render-append (tabled ns) (onto_items a n (scope_at n k)) (raw (slice_of s p (i - p)) ∷ []) z)

  follows : (p : ℕ) (e : Expr) (q : ℕ) (m : ExprNode) (z : State) → expr_in ns s p ≡ value e q → m ≡ expr_node_at ns s last p → View ns s e m → written e z ≡ through written (to_come m e) (step m p z)
  unfolding to_come through Unpinned
  follows p e q (mt.Last var init next) z d g v = last-follows p e var init next z v
  follows p e q (mt.Bad u i) z d g v = kept_at p e q (mt.Bad u i) z d g v tt
  follows p e q (mt.Const i) z d g v = const-follows p e q i z d g v
  follows p e q (mt.Var i next) z d g v = kept_at p e q (mt.Var i next) z d g v tt
  follows p e q (mt.Clocked i u next) z d g v = kept_at p e q (mt.Clocked i u next) z d g v tt
  follows p e q (mt.Other u i) z d g v = kept_at p e q (mt.Other u i) z d g v tt
  follows p e q mt.Nothing z d g v = kept_at p e q mt.Nothing z d g v tt

  pin-written : (at : ℕ) (e : Expr) (q : ℕ) (z : State) → expr_in ns s at ≡ value e q → sampled_constant_t (tabled ns) s offsets a n k ns last at z ≡ render (tabled ns) (expr_items (sample_constants (onto a n (scope_at n k)) (rewrite_last a e))) z
  unfolding sampled_constant_t written step on_clock
  pin-written at e q z d = walks-one ns s few by short last L (write_step (tabled ns) (sampled_constant_items s offsets a n k)) written follows at e q z d

  -- THE LAW: constants on the scope's clock, or all of it where there is none
  pub pinned-written : (at : ℕ) (e : Expr) (q : ℕ) (z : State) → expr_in ns s at ≡ value e q → sampled_value_t (tabled ns) s offsets a n k ns last at z ≡ render (tabled ns) (expr_items (sample_value (onto a n (scope_at n k)) (rewrite_last a e))) z
  unfolding sampled_value_t sample_value
  pinned-written at e q z d =
      ap (λ (b : Bool). cond b (sampled_constant_t (tabled ns) s offsets a n k ns last at z) (rewrite_last_t ns s last (tabled ns) offsets a at (render (tabled ns) (onto_items a n (scope_at n k)) z))) (has-const-is at e q d)
      ∙ go (has_const (rewrite_last a e))
    where
      go : (b : Bool) → cond b (sampled_constant_t (tabled ns) s offsets a n k ns last at z) (rewrite_last_t ns s last (tabled ns) offsets a at (render (tabled ns) (onto_items a n (scope_at n k)) z)) ≡ render (tabled ns) (expr_items (cond b (sample_constants (onto a n (scope_at n k)) (rewrite_last a e)) (onto a n (scope_at n k) (rewrite_last a e)))) z
      go true = pin-written at e q z d
      go false =
          unlast-written ns fresh few legal s by short last L offsets placed a at e q (render (tabled ns) (onto_items a n (scope_at n k)) z) d
          ∙ onto-then (tabled ns) a n (scope_at n k) (rewrite_last a e) z
