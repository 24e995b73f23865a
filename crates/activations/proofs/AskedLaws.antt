-- What holds of the variables that an expression asks for holds of those under its nodes.
use Prim.Native.Nat.{ℕ}
use mathlib.Core.List.{List}
use mathlib.Core.Path.{sym, subst}
use Rattle.wire.specs.Lists.{All}
use Rattle.pack_rules.specs.Names.{Name}
use Rattle.pack_rules.specs.Syntax.{Expr, Exprs, x_cons, x_nil}
use Rattle.pack_rules.specs.Forms.{name_at}
use Rattle.activations.specs.declared.expr_node.ExprNode.{ExprNode}
use Rattle.activations.specs.declared.expr_node.ExprNode.TheVariants as mt
use Rattle.activations.specs.Kids.{kids, list_of}
use Rattle.activations.specs.Asked.{Asked, AskedIn, OfCall}
use Rattle.activations.proofs.Views.{View, to_come, v_array, v_arrow, v_bad, v_binary, v_call, v_cast, v_const, v_field, v_if, v_index, v_iterate, v_last, v_merge, v_pre, v_struct, v_tuple, v_unary, v_var, v_when}

module _ (P : Name → Type 0) where
  asked-list : (xs : Exprs) → AskedIn P xs → All (Asked P) (list_of xs)
  unfolding AskedIn list_of All
  asked-list x_nil h = tt
  asked-list (x_cons a xs) h = (h.0, asked-list xs h.1)

  module _ (ns : List Name) (s : List ℕ) where
    pub asked-under : (e : Expr) (m : ExprNode) → View ns s e m → Asked P e → All (Asked P) (to_come m e)
    unfolding Asked OfCall to_come kids All
    asked-under e m (v_last k l n d) h = tt
    asked-under e m (v_bad {f = f} {xs = xs} k) h = asked-list xs (subst (OfCall P (AskedIn P xs)) k h)
    asked-under e m (v_call {f = f} {xs = xs} k) h = asked-list xs (subst (OfCall P (AskedIn P xs)) k h)
    asked-under e m v_const h = tt
    asked-under e m (v_var l n) h = tt
    asked-under e m (v_when l n) h = (h, tt)
    asked-under e m (v_merge l n) h = (h.0, (h.1, tt))
    asked-under e m v_unary h = (h, tt)
    asked-under e m v_binary h = (h.0, (h.1, tt))
    asked-under e m v_if h = (h.0, (h.1, (h.2, tt)))
    asked-under e m v_pre h = (h, tt)
    asked-under e m v_arrow h = (h.0, (h.1, tt))
    asked-under e m v_field h = (h, tt)
    asked-under e m v_index h = (h.0, (h.1, tt))
    asked-under e m (v_tuple {xs = xs}) h = asked-list xs h
    asked-under e m (v_array {xs = xs}) h = asked-list xs h
    asked-under e m (v_struct {xs = xs}) h = asked-list xs h
    asked-under e m v_cast h = (h, tt)
    asked-under e m (v_iterate {xs = xs}) h = asked-list xs h

    pub asked-last : (e : Expr) (var init next : ℕ) → View ns s e (mt.Last var init next) → Asked P e → P (name_at ns var)
    unfolding Asked OfCall
    asked-last e var init next (v_last {f = f} {xs = xs} k l n d) h = subst P (sym n) (subst (OfCall P (AskedIn P xs)) k h)
