-- What the code finds misused in the bytes is what the definition finds in the activation that was read there.
use Prim.Native.Nat.{ℕ, zero, suc, ◌<◌, ◌≤◌}
use mathlib.Core.List.{List, [], ◌∷◌, ◌++◌}
use mathlib.Core.Bool.{Bool, true, false, ◌||◌}
use mathlib.Core.Path.{◌≡◌, refl, sym, ap, ◌∙◌}
use lib.ListN.{length}
use Rattle.activations.specs.declared.expr_node.ExprNode.{ExprNode}
use Rattle.wire.specs.Answer.{many, value}
use Rattle.wire.specs.Lists.{Bytes}
use Rattle.pack_rules.specs.Names.{Name}
use Rattle.pack_rules.specs.Syntax.{Activation, Branch, Equation, Expr, Exprs, e_call, x_cons, x_nil}
use Rattle.pack_rules.specs.Read.{activation_in, branch_in, equation_in, equations_in, expr_in}
use Rattle.machines.specs.CheckedReads.{number_in}
use Rattle.machines.proofs.Reading.{many-cut, many_more, many-over}
use Rattle.machines.proofs.CheckedReadLaws.{number-to, then_to}
use Rattle.activation_rules.specs.LastCalls.{CallKind, bad_last, call_kind, last_of, plain}
use Rattle.activation_rules.specs.BadLasts.{any_bad_last, has_bad_last, has_bad_last_in}
use Rattle.activation_rules.specs.Sought.{bodies, conditions, expressions, right_sides}
use Rattle.activations.specs.Kids.{kids, list_of}
use Rattle.activations.specs.ExprNodes.{is_bad}
use Rattle.activations.specs.Places.{act_at, any_t, branch_end, equation_end}
use Rattle.activations.specs.Walks.{LastIs, or_step, through}
use Rattle.activations.specs.BadLastsAt.{any_bad_last_t, any_branch_t, body_has_bad_last_t, condition_has_bad_last_t, equation_has_bad_last_t, has_bad_last_t, scope_has_bad_last_t}
use Rattle.activations.proofs.Views.{View, to_come, v_array, v_arrow, v_bad, v_binary, v_call, v_cast, v_const, v_field, v_if, v_index, v_iterate, v_last, v_merge, v_pre, v_struct, v_tuple, v_unary, v_var, v_when}
use Rattle.activations.proofs.Walking.{walks-one}
use Rattle.activations.proofs.ActRead.{act-to, activation-value, body-to, branch-end-to, branch-number-to, branch-value, counted-value, equation-end-to, equation-value, right-side-to}

-- an expression after what was found before
unfoldable or_misused : Expr → Bool → Bool
or_misused e z = z || has_bad_last e

pub or-true : (z : Bool) → z || true ≡ true
or-true true = refl
or-true false = refl

pub or_assoc : (x y z : Bool) → (x || y) || z ≡ x || (y || z)
or_assoc true y z = refl
or_assoc false y z = refl

pub or-false : (z : Bool) → z || false ≡ z
or-false true = refl
or-false false = refl

stays : (es : List Expr) → through or_misused es true ≡ true
unfolding through or_misused
stays [] = refl
stays (e ∷ es) = stays es

in_order : (xs : Exprs) (z : Bool) → through or_misused (list_of xs) z ≡ z || has_bad_last_in xs
unfolding through list_of or_misused has_bad_last_in
in_order x_nil z = sym (or-false z)
in_order (x_cons a xs) z = in_order xs (z || has_bad_last a) ∙ or_assoc z (has_bad_last a) (has_bad_last_in xs)

-- calls, by their kind
unfoldable kind_misused : CallKind → Exprs → Bool
kind_misused plain xs = has_bad_last_in xs
kind_misused bad_last xs = true
kind_misused (last_of v i) xs = false

by_kind : (k : CallKind) (xs : Exprs) → elim k [ plain ↦ has_bad_last_in xs | bad_last ↦ true | last_of v i ↦ false ] ≡ kind_misused k xs
unfolding kind_misused
by_kind plain xs = refl
by_kind bad_last xs = refl
by_kind (last_of v i) xs = refl

call-misused : (f : Name) (xs : Exprs) (k : CallKind) → call_kind f xs ≡ k → has_bad_last (e_call f xs) ≡ kind_misused k xs
unfolding has_bad_last
call-misused f xs k e = by_kind (call_kind f xs) xs ∙ ap (λ y. kind_misused y xs) e

-- one, two and three after what was found before
pub one-after : (z a : Bool) → z || a ≡ (z || false) || a
one-after true a = refl
one-after false a = refl

pub two-after : (z a b : Bool) → z || (a || b) ≡ ((z || false) || a) || b
two-after true a b = refl
two-after false a b = refl

pub three-after : (z a b c : Bool) → z || (a || (b || c)) ≡ (((z || false) || a) || b) || c
three-after true a b c = refl
three-after false a b c = sym (or_assoc a b c)

-- the pass does at each node what the definition does
follows : (ns : List Name) (s : List ℕ) (e : Expr) (m : ExprNode) (p : ℕ) (z : Bool) → View ns s e m → or_misused e z ≡ through or_misused (to_come m e) (or_step is_bad m p z)
unfolding or_misused through or_step to_come kids is_bad has_bad_last kind_misused
follows ns s e m p z (v_last {f = f} {v = v} {xs = xs} {i = i} k l n d) = ap (λ y. z || y) (call-misused f xs (last_of v i) k)
follows ns s e m p z (v_bad {f = f} {xs = xs} k) =
    ap (λ y. z || y) (call-misused f xs bad_last k) ∙ or-true z ∙ sym (stays (list_of xs)) ∙ ap (through or_misused (list_of xs)) (sym (or-true z))
follows ns s e m p z (v_call {f = f} {xs = xs} k) = ap (λ y. z || y) (call-misused f xs plain k) ∙ sym (ap (through or_misused (list_of xs)) (or-false z) ∙ in_order xs z)
follows ns s e m p z v_const = refl
follows ns s e m p z (v_var l n) = refl
follows ns s e m p z (v_when l n) = one-after z _
follows ns s e m p z (v_merge l n) = two-after z _ _
follows ns s e m p z v_unary = one-after z _
follows ns s e m p z v_binary = two-after z _ _
follows ns s e m p z v_if = three-after z _ _ _
follows ns s e m p z v_pre = one-after z _
follows ns s e m p z v_arrow = two-after z _ _
follows ns s e m p z v_field = one-after z _
follows ns s e m p z v_index = two-after z _ _
follows ns s e m p z (v_tuple {xs = xs}) = sym (ap (through or_misused (list_of xs)) (or-false z) ∙ in_order xs z)
follows ns s e m p z (v_array {xs = xs}) = sym (ap (through or_misused (list_of xs)) (or-false z) ∙ in_order xs z)
follows ns s e m p z (v_struct {xs = xs}) = sym (ap (through or_misused (list_of xs)) (or-false z) ∙ in_order xs z)
follows ns s e m p z v_cast = one-after z _
follows ns s e m p z (v_iterate {xs = xs}) = sym (ap (through or_misused (list_of xs)) (or-false z) ∙ in_order xs z)

any_append : (xs ys : List Expr) → any_bad_last (xs ++ ys) ≡ any_bad_last xs || any_bad_last ys
unfolding any_bad_last
any_append [] ys = refl
any_append (x ∷ xs) ys = ap (λ y. has_bad_last x || y) (any_append xs ys) ∙ sym (or_assoc (has_bad_last x) (any_bad_last xs) (any_bad_last ys))

module _ (ns : List Name) (s : List ℕ) (few : length ns < 65536) (by : Bytes s) (short : length s ≤ 65536) (last : ℕ) (L : LastIs ns last) where
  pub misused-is : (at : ℕ) (e : Expr) (q : ℕ) → expr_in ns s at ≡ value e q → has_bad_last_t ns s last at ≡ has_bad_last e
  unfolding has_bad_last_t or_misused
  misused-is at e q d = walks-one ns s few by short last L (or_step is_bad) or_misused (λ p e q m z d i v. follows ns s e m p z v) at e q false d

  equations-misused : (n at : ℕ) (xs : List Equation) (q : ℕ) → many (equation_in ns s) n at ≡ value xs q → any_t (equation_has_bad_last_t ns s last) (equation_end ns s) n at ≡ any_bad_last (right_sides xs)
  unfolding any_t any_bad_last right_sides equation_has_bad_last_t
  equations-misused zero at [] q e = refl
  equations-misused zero at (x ∷ xs) q e = absurd (many-cut (equation_in ns s) at x xs q e)
  equations-misused (suc n) at [] q e = absurd (many-over (equation_in ns s) n at q e)
  equations-misused (suc n) at (x ∷ xs) q e =
      let a = many_more (equation_in ns s) n at x xs q e in
      let r = equation-value ns s at x a.0 a.1 in
      let f = ap (has_bad_last_t ns s last) (right-side-to ns s at x a.0 r) ∙ misused-is r.to-rhs x.rhs a.0 r.rhs in
      let g = ap (any_t (equation_has_bad_last_t ns s last) (equation_end ns s) n) (equation-end-to ns s at x a.0 r) ∙ equations-misused n a.0 xs q a.2 in
      λ i. f i || g i

  scope-misused : (at : ℕ) (xs : List Equation) (q : ℕ) → equations_in ns s at ≡ value xs q → scope_has_bad_last_t ns s last at ≡ any_bad_last (right_sides xs)
  unfolding scope_has_bad_last_t equations_in
  scope-misused at xs q e =
      let k = counted-value (equation_in ns s) s at xs q e in
      number-to s at (length xs) k.0 _ k.1 ∙ equations-misused (length xs) k.0 xs q k.2

  conditions-misused : (n at : ℕ) (xs : List Branch) (q : ℕ) → many (branch_in ns s) n at ≡ value xs q → any_t (condition_has_bad_last_t ns s last) (branch_end ns s) n at ≡ any_bad_last (conditions xs)
  unfolding any_t any_bad_last conditions condition_has_bad_last_t
  conditions-misused zero at [] q e = refl
  conditions-misused zero at (x ∷ xs) q e = absurd (many-cut (branch_in ns s) at x xs q e)
  conditions-misused (suc n) at [] q e = absurd (many-over (branch_in ns s) n at q e)
  conditions-misused (suc n) at (x ∷ xs) q e =
      let a = many_more (branch_in ns s) n at x xs q e in
      let r = branch-value ns s at x a.0 a.1 in
      let f = then_to (number_in s at) (branch-number-to ns s at x a.0 r).0 r.to-condition (λ i p. has_bad_last_t ns s last p) (branch-number-to ns s at x a.0 r).3 ∙ misused-is r.to-condition x.condition r.to-equations r.condition in
      let g = ap (any_t (condition_has_bad_last_t ns s last) (branch_end ns s) n) (branch-end-to ns s at x a.0 r) ∙ conditions-misused n a.0 xs q a.2 in
      λ i. f i || g i

  bodies-misused : (n at : ℕ) (xs : List Branch) (q : ℕ) → many (branch_in ns s) n at ≡ value xs q → any_t (body_has_bad_last_t ns s last) (branch_end ns s) n at ≡ any_bad_last (bodies xs)
  unfolding any_t any_bad_last bodies body_has_bad_last_t
  bodies-misused zero at [] q e = refl
  bodies-misused zero at (x ∷ xs) q e = absurd (many-cut (branch_in ns s) at x xs q e)
  bodies-misused (suc n) at [] q e = absurd (many-over (branch_in ns s) n at q e)
  bodies-misused (suc n) at (x ∷ xs) q e =
      let a = many_more (branch_in ns s) n at x xs q e in
      let r = branch-value ns s at x a.0 a.1 in
      let f = ap (scope_has_bad_last_t ns s last) (body-to ns s at x a.0 r) ∙ scope-misused r.to-equations x.equations a.0 r.equations in
      let g = ap (any_t (body_has_bad_last_t ns s last) (branch_end ns s) n) (branch-end-to ns s at x a.0 r) ∙ bodies-misused n a.0 xs q a.2 in
      (λ i. f i || g i) ∙ sym (any_append (right_sides x.equations) (bodies xs))

  -- THE LINK: in the activation that was read there
  pub any-misused-is : (at : ℕ) (x : Activation) (q : ℕ) → activation_in ns s at ≡ value x q → any_bad_last_t ns s last (act_at ns s at) ≡ any_bad_last (expressions x)
  unfolding any_bad_last_t any_branch_t expressions
  any-misused-is at x q e =
      let r = activation-value ns s at x q e in
      let f = number-to s r.to-branches (length x.branches) r.b (any_t (condition_has_bad_last_t ns s last) (branch_end ns s)) r.count ∙ conditions-misused (length x.branches) r.b x.branches r.to-else r.branches in
      let g = number-to s r.to-branches (length x.branches) r.b (any_t (body_has_bad_last_t ns s last) (branch_end ns s)) r.count ∙ bodies-misused (length x.branches) r.b x.branches r.to-else r.branches in
      let h = scope-misused r.to-else x.else_equations q r.else_equations in
      ap (any_bad_last_t ns s last) (act-to ns s at x q r).3
      ∙ (λ i. f i || (g i || h i))
      ∙ ap (λ y. any_bad_last (conditions x.branches) || y) (sym (any_append (bodies x.branches) (right_sides x.else_equations)))
      ∙ sym (any_append (conditions x.branches) (bodies x.branches ++ right_sides x.else_equations))
