-- The rows that the code finds in the bytes are the variables that the definition finds in the activation that was read there.
use Prim.Native.Nat.{ℕ, zero, suc, ◌+◌, ◌*◌, ◌-◌, ◌<◌, ◌≤◌}
use native.Mathlib.Omega.{arith}
use mathlib.Core.List.{List, [], ◌∷◌, ◌++◌}
use mathlib.Core.Bool.{Bool, true, false, cond}
use mathlib.Core.Option.{Option, none, some}
use mathlib.Core.Path.{◌≡◌, refl, sym, ap, subst, ◌∙◌}
use lib.ListN.{length, drop, length-append, length-drop}
use Rattle.activations.specs.declared.expr_node.ExprNode.{ExprNode}
use Rattle.wire.specs.Answer.{many, value}
use Rattle.wire.specs.Bytes.{two}
use Rattle.wire.specs.Lists.{Bytes}
use Rattle.wire.proofs.Answers.{u16-value}
use Rattle.pack_rules.specs.Names.{Name, eq_name}
use Rattle.pack_rules.specs.Syntax.{Activation, Branch, Equation, Expr, Exprs, e_array, e_arrow, e_binary, e_call, e_cast, e_const, e_field, e_if, e_index, e_iterate, e_merge, e_pre, e_struct, e_tuple, e_unary, e_var, e_when, x_cons, x_nil}
use Rattle.pack_rules.specs.Forms.{name_at}
use Rattle.pack_rules.specs.Legal.{Fresh}
use Rattle.pack_rules.specs.Read.{activation_in, branch_in, equation_in, equations_in, expr_in}
use Rattle.pack_rules.specs.Write.{expr_items, exprs_items}
use Rattle.pack.proofs.Copies.{lies-equations, lies-expr}
use Rattle.pack.proofs.Tables.{all-unit, code, code-append}
use Rattle.machines.specs.CheckedReads.{number_in}
use Rattle.machines.proofs.Reading.{many-cut, many-end, many_more, many-over, name-number}
use Rattle.machines.proofs.CheckedReadLaws.{number-to, then_to}
use Rattle.activation_rules.specs.LastCalls.{CallKind, as_var, bad_last, call_kind, last_name, last_of, last_rest, last_shape, plain}
use Rattle.activation_rules.specs.Sought.{Sought, bodies, conditions, expressions, found, note, right_sides, sought, sought_in}
use Rattle.activations.specs.Kids.{kids, list_of}
use Rattle.activations.specs.ExprNodes.{onward_t}
use Rattle.activations.specs.Places.{act_at, branch_end, each_of, equation_end, right_side_in}
use Rattle.activations.specs.Walks.{InitAt, LastIs, through}
use Rattle.activations.specs.LastsAt.{RowInit, Rows, RowsFrom, each_branch_t, find_all_lasts_t, find_in_body_t, find_in_condition_t, find_in_equation_t, find_in_scope_t, find_lasts_t, find_step, note_t, rows_of}
use Rattle.activations.proofs.Views.{View, to_come, v_array, v_arrow, v_bad, v_binary, v_call, v_cast, v_const, v_field, v_if, v_index, v_iterate, v_last, v_merge, v_pre, v_struct, v_tuple, v_unary, v_var, v_when, viewed}
use Rattle.activations.proofs.NodesRead.{expr-moves}
use Rattle.activations.proofs.RowsNoted.{note-count, note-is, note-length}
use Rattle.activations.proofs.ActRead.{BranchRead, act-to, activation-value, body-to, branch-end-to, branch-number-to, branch-value, counted-value, equation-end-to, equation-value, names-move, right-side-to}
use Rattle.activations.proofs.Walking.{FollowsBy, walks-by}

-- calls, by their kind
unfoldable pub kind_sought : CallKind → Exprs → List Sought → List Sought
kind_sought plain xs hs = sought_in xs hs
kind_sought bad_last xs hs = sought_in xs hs
kind_sought (last_of v i) xs hs = note v i hs

by_kind : (k : CallKind) (xs : Exprs) (hs : List Sought) → elim k [ plain ↦ sought_in xs hs | bad_last ↦ sought_in xs hs | last_of v i ↦ note v i hs ] ≡ kind_sought k xs hs
unfolding kind_sought
by_kind plain xs hs = refl
by_kind bad_last xs hs = refl
by_kind (last_of v i) xs hs = refl

pub call-sought : (f : Name) (xs : Exprs) (k : CallKind) (hs : List Sought) → call_kind f xs ≡ k → sought (e_call f xs) hs ≡ kind_sought k xs hs
unfolding sought
call-sought f xs k hs e = by_kind (call_kind f xs) xs hs ∙ ap (λ y. kind_sought y xs hs) e

in_order : (xs : Exprs) (hs : List Sought) → through sought (list_of xs) hs ≡ sought_in xs hs
unfolding through list_of sought_in
in_order x_nil hs = refl
in_order (x_cons a xs) hs = in_order xs (sought a hs)

found-append : (xs ys : List Expr) (hs : List Sought) → found (xs ++ ys) hs ≡ found ys (found xs hs)
unfolding found
found-append [] ys hs = refl
found-append (x ∷ xs) ys hs = found-append xs ys (sought x hs)

-- the variable of a call of `last`
unfoldable VarFirst : Exprs → Type 0
VarFirst x_nil = ⊥
VarFirst (x_cons e xs) = (v : Name) × (e ≡ e_var v)

-- a call of `last` takes 8 bytes
var-three : (ns : List Name) (v : Name) → 3 ≤ length (code ns (expr_items (e_var v)))
unfolding code expr_items two
var-three ns v = omega arith

var-bytes : (ns : List Name) (xs : Exprs) → VarFirst xs → 3 ≤ length (code ns (exprs_items xs))
unfolding VarFirst exprs_items
var-bytes ns x_nil h = absurd h
var-bytes ns (x_cons e xs) h =
    let a = code-append ns (expr_items e) (exprs_items xs) in
    let b = length-append (code ns (expr_items e)) (code ns (exprs_items xs)) in
    let c : 3 ≤ length (code ns (expr_items e)) = subst (λ y. 3 ≤ length (code ns (expr_items y))) (sym h.1) (var-three ns h.0) in
    subst (λ y. 3 ≤ length y) (sym a) (omega arith)

call-bytes : (ns : List Name) (f : Name) (xs : Exprs) → VarFirst xs → 8 ≤ length (code ns (expr_items (e_call f xs)))
unfolding code expr_items two
call-bytes ns f xs h = let k = var-bytes ns xs h in omega arith

-- kinds of calls are told apart
unfoldable kind_number : CallKind → ℕ
kind_number plain = 0
kind_number bad_last = 1
kind_number (last_of v i) = 2

kind-differs : (k m : CallKind) → (kind_number k ≡ kind_number m → ⊥) → k ≡ m → ⊥
kind-differs k m n e = n (ap kind_number e)

rest-var : (e : Expr) (xs : Exprs) (v : Name) (i : Option Expr) → last_rest (as_var e) xs ≡ last_of v i → (x : Name) × (e ≡ e_var x)
unfolding last_rest as_var kind_number
rest-var (e_const l) xs v i e = absurd (kind-differs bad_last (last_of v i) (λ z. omega arith) e)
rest-var (e_var x) xs v i e = (x, refl)
rest-var (e_unary o a) xs v i e = absurd (kind-differs bad_last (last_of v i) (λ z. omega arith) e)
rest-var (e_binary o a b) xs v i e = absurd (kind-differs bad_last (last_of v i) (λ z. omega arith) e)
rest-var (e_if a b c) xs v i e = absurd (kind-differs bad_last (last_of v i) (λ z. omega arith) e)
rest-var (e_pre a) xs v i e = absurd (kind-differs bad_last (last_of v i) (λ z. omega arith) e)
rest-var (e_arrow a b) xs v i e = absurd (kind-differs bad_last (last_of v i) (λ z. omega arith) e)
rest-var (e_call f ys) xs v i e = absurd (kind-differs bad_last (last_of v i) (λ z. omega arith) e)
rest-var (e_field a f) xs v i e = absurd (kind-differs bad_last (last_of v i) (λ z. omega arith) e)
rest-var (e_index a j) xs v i e = absurd (kind-differs bad_last (last_of v i) (λ z. omega arith) e)
rest-var (e_tuple ys) xs v i e = absurd (kind-differs bad_last (last_of v i) (λ z. omega arith) e)
rest-var (e_array ys) xs v i e = absurd (kind-differs bad_last (last_of v i) (λ z. omega arith) e)
rest-var (e_struct n fs ys) xs v i e = absurd (kind-differs bad_last (last_of v i) (λ z. omega arith) e)
rest-var (e_cast t a) xs v i e = absurd (kind-differs bad_last (last_of v i) (λ z. omega arith) e)
rest-var (e_when a y b) xs v i e = absurd (kind-differs bad_last (last_of v i) (λ z. omega arith) e)
rest-var (e_merge y a b) xs v i e = absurd (kind-differs bad_last (last_of v i) (λ z. omega arith) e)
rest-var (e_iterate k f j ys) xs v i e = absurd (kind-differs bad_last (last_of v i) (λ z. omega arith) e)

shape-var : (xs : Exprs) (v : Name) (i : Option Expr) → last_shape xs ≡ last_of v i → VarFirst xs
unfolding last_shape VarFirst kind_number
shape-var x_nil v i e = absurd (kind-differs bad_last (last_of v i) (λ z. omega arith) e)
shape-var (x_cons a xs) v i e = rest-var a xs v i e

last-var : (f : Name) (xs : Exprs) (v : Name) (i : Option Expr) → call_kind f xs ≡ last_of v i → VarFirst xs
unfolding call_kind kind_number
last-var f xs v i e = go (eq_name f last_name) e
  where
    go : (b : Bool) → cond b (last_shape xs) plain ≡ last_of v i → VarFirst xs
    go true d = shape-var xs v i d
    go false d = absurd (kind-differs plain (last_of v i) (λ z. omega arith) d)

-- rows that stand for what was found, not more than one for 8 of k bytes
abbrev pub Found : List Name → List ℕ → Rows → List Sought → ℕ → Type 0
Found ns s z hs k = RowsFrom ns s z.table 0 hs × (z.count ≡ length hs) × (24576 ≤ length z.table) × (8 * z.count ≤ k)

module _ (ns : List Name) (fresh : Fresh [] ns) (few : length ns < 65536) (s : List ℕ) (by : Bytes s) (short : length s ≤ 65536) (last : ℕ) (L : LastIs ns last) where
  -- how far a call of `last` goes
  call-moves : (p q : ℕ) (f : Name) (xs : Exprs) (v : Name) (i : Option Expr) → expr_in ns s p ≡ value (e_call f xs) q → call_kind f xs ≡ last_of v i → p + 8 ≤ q
  call-moves p q f xs v i d k =
      let l = lies-expr ns fresh few s by p (e_call f xs) q d in
      let a = ap length l.bytes in
      let b = call-bytes ns f xs (last-var f xs v i k) in
      let g = l.from in
      let h = l.to in
      omega (arith, length-drop p s, length-drop q s, length-append (code ns (expr_items (e_call f xs))) (drop q s))

  init-low : (i : Option Expr) (init next : ℕ) → InitAt ns s i init next → init < 65536
  unfolding InitAt
  init-low none init next e = omega arith
  init-low (some e) init next h = let m = expr-moves ns s init e next h.1 in let a = m.0 in let b = m.1 in omega arith

  init-row : (i : Option Expr) (init next : ℕ) → InitAt ns s i init next → RowInit ns s i init
  unfolding RowInit
  init-row i init next h = (next, h)

  module _ (base used end : ℕ) (room : used + end ≤ 65536 + base) where
    At : ℕ → Rows → List Sought → Type 0
    At p z hs = RowsFrom ns s z.table 0 hs × (z.count ≡ length hs) × (24576 ≤ length z.table) × (8 * z.count + base ≤ used + p)

    -- the same, where the end is not passed
    abbrev Within : ℕ → Rows → List Sought → Type 0
    Within p z hs = p ≤ end → At p z hs

    at_on : (p q : ℕ) (z : Rows) (hs : List Sought) → p ≤ q → Within p z hs → Within q z hs
    unfolding At
    at_on p q z hs l h y = let a = h (omega arith) in (a.0, a.1, a.2, let k = a.3 in omega arith)

    note_step : (p q var init next : ℕ) (v : Name) (i : Option Expr) (z : Rows) (hs : List Sought) → p + 8 ≤ q → q ≤ end → var < length ns → name_at ns var ≡ v → InitAt ns s i init next → At p z hs → At q (note_t var init z) (note v i hs)
    unfolding At
    note_step p q var init next v i z hs g y l e d h =
        let a = h.3 in
        let t = h.2 in
        let n = note-is ns s fresh few z.table z.count (omega arith) var l i init (init-low i init next d) (init-row i init next d) hs (sym h.1) (omega arith) h.0 in
        let m = note-length var init z in
        let c = note-count var init z in
        (subst (λ x. RowsFrom ns s (note_t var init z).table 0 (note x i hs)) e n.0, n.1 ∙ ap (λ x. length (note x i hs)) e, omega arith, omega arith)

    step_keeps : (p : ℕ) (e : Expr) (q : ℕ) (m : ExprNode) (z : Rows) (hs : List Sought) → expr_in ns s p ≡ value e q → View ns s e m → Within p z hs → p < onward_t m → many (expr_in ns s) (length (to_come m e)) (onward_t m) ≡ value (to_come m e) q
        → (b : List Sought) × Within (onward_t m) (find_step m p z) b × (through sought (to_come m e) b ≡ sought e hs)
    unfolding find_step to_come kids through sought kind_sought onward_t
    step_keeps p e q m z hs d (v_last {f = f} {v = v} {xs = xs} {i = i} {var = var} {init = init} {next = next} k l n w) h g t =
        let o : next ≡ q = many-end (expr_in ns s) next q t in
        (note v i hs, λ y. note_step p next var init next v i z hs (let c = call-moves p q f xs v i d k in omega arith) y l n w (h (omega arith)), sym (call-sought f xs (last_of v i) hs k))
    step_keeps p e q m z hs d (v_bad {f = f} {xs = xs} k) h g t = (hs, at_on p _ z hs (omega arith) h, in_order xs hs ∙ sym (call-sought f xs bad_last hs k))
    step_keeps p e q m z hs d (v_call {f = f} {xs = xs} k) h g t = (hs, at_on p _ z hs (omega arith) h, in_order xs hs ∙ sym (call-sought f xs plain hs k))
    step_keeps p e q m z hs d v_const h g t = (hs, at_on p _ z hs (omega arith) h, refl)
    step_keeps p e q m z hs d (v_var l n) h g t = (hs, at_on p _ z hs (omega arith) h, refl)
    step_keeps p e q m z hs d (v_when l n) h g t = (hs, at_on p _ z hs (omega arith) h, refl)
    step_keeps p e q m z hs d (v_merge l n) h g t = (hs, at_on p _ z hs (omega arith) h, refl)
    step_keeps p e q m z hs d v_unary h g t = (hs, at_on p _ z hs (omega arith) h, refl)
    step_keeps p e q m z hs d v_binary h g t = (hs, at_on p _ z hs (omega arith) h, refl)
    step_keeps p e q m z hs d v_if h g t = (hs, at_on p _ z hs (omega arith) h, refl)
    step_keeps p e q m z hs d v_pre h g t = (hs, at_on p _ z hs (omega arith) h, refl)
    step_keeps p e q m z hs d v_arrow h g t = (hs, at_on p _ z hs (omega arith) h, refl)
    step_keeps p e q m z hs d v_field h g t = (hs, at_on p _ z hs (omega arith) h, refl)
    step_keeps p e q m z hs d v_index h g t = (hs, at_on p _ z hs (omega arith) h, refl)
    step_keeps p e q m z hs d (v_tuple {xs = xs}) h g t = (hs, at_on p _ z hs (omega arith) h, in_order xs hs)
    step_keeps p e q m z hs d (v_array {xs = xs}) h g t = (hs, at_on p _ z hs (omega arith) h, in_order xs hs)
    step_keeps p e q m z hs d (v_struct {xs = xs}) h g t = (hs, at_on p _ z hs (omega arith) h, in_order xs hs)
    step_keeps p e q m z hs d v_cast h g t = (hs, at_on p _ z hs (omega arith) h, refl)
    step_keeps p e q m z hs d (v_iterate {xs = xs}) h g t = (hs, at_on p _ z hs (omega arith) h, in_order xs hs)

    keeps : FollowsBy ns s few by short last L find_step sought Within (λ e. Unit {0})
    keeps p e q m z hs d g v u h =
        let w = viewed ns s few by last L p e q d in
        let r = step_keeps p e q m z hs d v h (subst (λ n. p < onward_t n) (sym g) w.moves) (subst (λ n. many (expr_in ns s) (length (to_come n e)) (onward_t n) ≡ value (to_come n e) q) (sym g) w.to) in
        (r.0, sym r.2, r.1, all-unit (to_come m e))

  found-more : (z : Rows) (hs : List Sought) (k m : ℕ) → k ≤ m → Found ns s z hs k → Found ns s z hs m
  found-more z hs k m l h = (h.0, h.1, h.2, let a = h.3 in omega arith)

  -- an expression
  pub expr-found : (p : ℕ) (e : Expr) (q : ℕ) (z : Rows) (hs : List Sought) (k : ℕ) → expr_in ns s p ≡ value e q → k + (q - p) ≤ 65536 → Found ns s z hs k → Found ns s (find_lasts_t ns s last p z) (sought e hs) (k + (q - p))
  unfolding find_lasts_t At
  expr-found p e q z hs k d l h =
      let m = (expr-moves ns s p e q d).0 in
      let a = h.3 in
      let r = walks-by ns s few by short last L find_step sought (Within p k q (omega arith)) (λ e. Unit {0}) (keeps p k q (omega arith)) p e q z hs d tt (λ y. (h.0, h.1, h.2, omega arith)) (omega arith) in
      (r.0, r.1, r.2, let b = r.3 in omega arith)

  equation-at : (at : ℕ) (z : Rows) → find_in_equation_t ns s last at z ≡ find_lasts_t ns s last (right_side_in ns s at) z
  unfolding find_in_equation_t
  equation-at at z = refl

  equations-on : (n at : ℕ) (xs : List Equation) (q : ℕ) → many (equation_in ns s) n at ≡ value xs q → at ≤ q
  equations-on zero at [] q e = let g : at ≡ q = many-end (equation_in ns s) at q e in omega arith
  equations-on zero at (x ∷ xs) q e = absurd (many-cut (equation_in ns s) at x xs q e)
  equations-on (suc n) at [] q e = absurd (many-over (equation_in ns s) n at q e)
  equations-on (suc n) at (x ∷ xs) q e =
      let a = many_more (equation_in ns s) n at x xs q e in
      let r = equation-value ns s at x a.0 a.1 in
      let o = names-move ns s at x.lhs r.to-rhs r.lhs in
      let m = (expr-moves ns s r.to-rhs x.rhs a.0 r.rhs).0 in
      let w = equations-on n a.0 xs q a.2 in
      omega arith

  equations-found : (n at : ℕ) (xs : List Equation) (q : ℕ) (z : Rows) (hs : List Sought) (k : ℕ) → many (equation_in ns s) n at ≡ value xs q → k + (q - at) ≤ 65536 → Found ns s z hs k
      → (at ≤ q) × Found ns s (each_of (find_in_equation_t ns s last) (equation_end ns s) n at z) (found (right_sides xs) hs) (k + (q - at))
  unfolding each_of found right_sides
  equations-found zero at [] q z hs k e l h = let g : at ≡ q = many-end (equation_in ns s) at q e in (omega arith, found-more z hs k (k + (q - at)) (omega arith) h)
  equations-found zero at (x ∷ xs) q z hs k e l h = absurd (many-cut (equation_in ns s) at x xs q e)
  equations-found (suc n) at [] q z hs k e l h = absurd (many-over (equation_in ns s) n at q e)
  equations-found (suc n) at (x ∷ xs) q z hs k e l h =
      let a = many_more (equation_in ns s) n at x xs q e in
      let r = equation-value ns s at x a.0 a.1 in
      let o = names-move ns s at x.lhs r.to-rhs r.lhs in
      let m = (expr-moves ns s r.to-rhs x.rhs a.0 r.rhs).0 in
      let w = equations-on n a.0 xs q a.2 in
      let f = expr-found r.to-rhs x.rhs a.0 z hs k r.rhs (omega arith) h in
      let g = found-more _ (sought x.rhs hs) (k + (a.0 - r.to-rhs)) (k + (a.0 - at)) (omega arith) f in
      let u = equations-found n a.0 xs q (find_lasts_t ns s last r.to-rhs z) (sought x.rhs hs) (k + (a.0 - at)) a.2 (omega arith) g in (
        omega arith,
        subst (λ y. Found ns s (each_of (find_in_equation_t ns s last) (equation_end ns s) n y (find_in_equation_t ns s last at z)) (found (right_sides xs) (sought x.rhs hs)) (k + (q - at))) (sym (equation-end-to ns s at x a.0 r))
            (subst (λ y. Found ns s (each_of (find_in_equation_t ns s last) (equation_end ns s) n a.0 y) (found (right_sides xs) (sought x.rhs hs)) (k + (q - at))) (sym (equation-at at z ∙ ap (λ y. find_lasts_t ns s last y z) (right-side-to ns s at x a.0 r)))
            (found-more _ (found (right_sides xs) (sought x.rhs hs)) (k + (a.0 - at) + (q - a.0)) (k + (q - at)) (omega arith) u.1)),
      )

  pub scope-found : (at : ℕ) (xs : List Equation) (q : ℕ) (z : Rows) (hs : List Sought) (k : ℕ) → equations_in ns s at ≡ value xs q → k + (q - at) ≤ 65536 → Found ns s z hs k → Found ns s (find_in_scope_t ns s last at z) (found (right_sides xs) hs) (k + (q - at))
  unfolding find_in_scope_t equations_in
  scope-found at xs q z hs k e l h =
      let a = counted-value (equation_in ns s) s at xs q e in
      let b = (u16-value s at (length xs) a.0 a.1).to in
      let w = equations-on (length xs) a.0 xs q a.2 in
      let u = equations-found (length xs) a.0 xs q z hs k a.2 (omega arith) h in
      subst (λ y. Found ns s y (found (right_sides xs) hs) (k + (q - at))) (sym (number-to s at (length xs) a.0 (λ n p. each_of (find_in_equation_t ns s last) (equation_end ns s) n p z) a.1))
      (found-more _ (found (right_sides xs) hs) (k + (q - a.0)) (k + (q - at)) (omega arith) u.1)

  -- what branches add: their conditions c bytes, their scopes d bytes
  record BranchesAdd (n at : ℕ) (xs : List Branch) (q : ℕ) : Type 0 where
    c : ℕ
    d : ℕ
    room : at + c + d ≤ q
    asked : (z : Rows) (hs : List Sought) (k : ℕ) → k + c ≤ 65536 → Found ns s z hs k → Found ns s (each_of (find_in_condition_t ns s last) (branch_end ns s) n at z) (found (conditions xs) hs) (k + c)
    inside : (z : Rows) (hs : List Sought) (k : ℕ) → k + d ≤ 65536 → Found ns s z hs k → Found ns s (each_of (find_in_body_t ns s last) (branch_end ns s) n at z) (found (bodies xs) hs) (k + d)

  no-branch : (at q : ℕ) → at ≡ q → BranchesAdd zero at [] q
  unfolding each_of conditions bodies found
  no-branch at q e = record {
    c = 0;
    d = 0;
    room = omega arith;
    asked = λ z hs k l h. found-more z hs k (k + 0) (omega arith) h;
    inside = λ z hs k l h. found-more z hs k (k + 0) (omega arith) h;
  }

  condition-at : (at : ℕ) (x : Branch) (q : ℕ) (r : BranchRead ns s at x q) (z : Rows) → find_in_condition_t ns s last at z ≡ find_lasts_t ns s last r.to-condition z
  unfolding find_in_condition_t
  condition-at at x q r z = let n = branch-number-to ns s at x q r in then_to (number_in s at) n.0 r.to-condition (λ i p. find_lasts_t ns s last p z) n.3

  body_at : (at : ℕ) (x : Branch) (q : ℕ) (r : BranchRead ns s at x q) (z : Rows) → find_in_body_t ns s last at z ≡ find_in_scope_t ns s last r.to-equations z
  unfolding find_in_body_t
  body_at at x q r z = ap (λ y. find_in_scope_t ns s last y z) (body-to ns s at x q r)

  scope-on : (at : ℕ) (xs : List Equation) (q : ℕ) → equations_in ns s at ≡ value xs q → at ≤ q
  unfolding equations_in
  scope-on at xs q e =
      let a = counted-value (equation_in ns s) s at xs q e in
      let b = (u16-value s at (length xs) a.0 a.1).to in
      let w = equations-on (length xs) a.0 xs q a.2 in
      omega arith

  scope-inside : (at : ℕ) (xs : List Equation) (q : ℕ) → equations_in ns s at ≡ value xs q → q ≤ length s
  scope-inside at xs q e = (lies-equations ns fresh few s by at xs q e).to

  one-branch : (n at : ℕ) (x : Branch) (xs : List Branch) (p q : ℕ) → BranchRead ns s at x p → BranchesAdd n p xs q → BranchesAdd (suc n) at (x ∷ xs) q
  unfolding each_of conditions bodies found
  one-branch n at x xs p q r b =
      let i = (u16-value s at (name-number ns s at x.name r.to-condition r.name).i r.to-condition (name-number ns s at x.name r.to-condition r.name).is).to in
      let m = (expr-moves ns s r.to-condition x.condition r.to-equations r.condition).0 in
      let o = scope-on r.to-equations x.equations p r.equations in
      let g = branch-end-to ns s at x p r in
      let y = b.room in
      let u = r.to-equations - r.to-condition in
      let v = p - r.to-equations in
      record {
        c = u + b.c;
        d = v + b.d;
        room = omega arith;
        asked = λ z hs k l h.
            subst (λ w. Found ns s (each_of (find_in_condition_t ns s last) (branch_end ns s) n w (find_in_condition_t ns s last at z)) (found (conditions xs) (sought x.condition hs)) (k + (u + b.c))) (sym g)
            (subst (λ w. Found ns s (each_of (find_in_condition_t ns s last) (branch_end ns s) n p w) (found (conditions xs) (sought x.condition hs)) (k + (u + b.c))) (sym (condition-at at x p r z))
            (found-more _ (found (conditions xs) (sought x.condition hs)) (k + u + b.c) (k + (u + b.c)) (omega arith)
            (b.asked (find_lasts_t ns s last r.to-condition z) (sought x.condition hs) (k + u) (omega arith) (expr-found r.to-condition x.condition r.to-equations z hs k r.condition (omega arith) h))));
        inside = λ z hs k l h.
            subst (λ w. Found ns s (each_of (find_in_body_t ns s last) (branch_end ns s) n w (find_in_body_t ns s last at z)) (found (right_sides x.equations ++ bodies xs) hs) (k + (v + b.d))) (sym g)
            (subst (λ w. Found ns s (each_of (find_in_body_t ns s last) (branch_end ns s) n p (find_in_body_t ns s last at z)) w (k + (v + b.d))) (sym (found-append (right_sides x.equations) (bodies xs) hs))
            (subst (λ w. Found ns s (each_of (find_in_body_t ns s last) (branch_end ns s) n p w) (found (bodies xs) (found (right_sides x.equations) hs)) (k + (v + b.d))) (sym (body_at at x p r z))
            (found-more _ (found (bodies xs) (found (right_sides x.equations) hs)) (k + v + b.d) (k + (v + b.d)) (omega arith)
            (b.inside (find_in_scope_t ns s last r.to-equations z) (found (right_sides x.equations) hs) (k + v) (omega arith) (scope-found r.to-equations x.equations p z hs k r.equations (omega arith) h)))));
      }

  branches-add : (n at : ℕ) (xs : List Branch) (q : ℕ) → many (branch_in ns s) n at ≡ value xs q → BranchesAdd n at xs q
  branches-add zero at [] q e = no-branch at q (many-end (branch_in ns s) at q e)
  branches-add zero at (x ∷ xs) q e = absurd (many-cut (branch_in ns s) at x xs q e)
  branches-add (suc n) at [] q e = absurd (many-over (branch_in ns s) n at q e)
  branches-add (suc n) at (x ∷ xs) q e = let a = many_more (branch_in ns s) n at x xs q e in one-branch n at x xs a.0 q (branch-value ns s at x a.0 a.1) (branches-add n a.0 xs q a.2)

  -- no rows to begin with
  pub none_found : (t : List ℕ) → 24576 ≤ length t → Found ns s (rows_of t 0) [] 0
  unfolding RowsFrom
  none_found t l = (tt, refl, l, omega arith)

  -- THE LINK: the rows of the activation that was read there
  pub all_found : (at : ℕ) (x : Activation) (q : ℕ) (t : List ℕ) → activation_in ns s at ≡ value x q → 24576 ≤ length t
      → RowsFrom ns s (find_all_lasts_t ns s last (act_at ns s at) (rows_of t 0)).table 0 (found (expressions x) []) × ((find_all_lasts_t ns s last (act_at ns s at) (rows_of t 0)).count ≡ length (found (expressions x) []))
      × (3 * (find_all_lasts_t ns s last (act_at ns s at) (rows_of t 0)).count ≤ length (find_all_lasts_t ns s last (act_at ns s at) (rows_of t 0)).table)
  unfolding find_all_lasts_t each_branch_t expressions
  all_found at x q t e l =
      let r = activation-value ns s at x q e in
      let b = branches-add (length x.branches) r.b x.branches r.to-else r.branches in
      let o = scope-on r.to-else x.else_equations q r.else_equations in
      let i = scope-inside r.to-else x.else_equations q r.else_equations in
      let y = b.room in
      let z = rows_of t 0 in
      let f = b.asked z [] 0 (omega arith) (none_found t l) in
      let u = each_of (find_in_condition_t ns s last) (branch_end ns s) (length x.branches) r.b z in
      let g = b.inside u (found (conditions x.branches) []) (0 + b.c) (omega arith) f in
      let v = each_of (find_in_body_t ns s last) (branch_end ns s) (length x.branches) r.b u in
      let h = scope-found r.to-else x.else_equations q v (found (bodies x.branches) (found (conditions x.branches) [])) (0 + b.c + b.d) r.else_equations (omega arith) g in
      let m : find_all_lasts_t ns s last (act_at ns s at) z ≡ find_in_scope_t ns s last r.to-else v =
      ap (λ a. find_all_lasts_t ns s last a z) (act-to ns s at x q r).3
      ∙ (λ j. find_in_scope_t ns s last r.to-else (number-to s r.to-branches (length x.branches) r.b (λ n p. each_of (find_in_body_t ns s last) (branch_end ns s) n p (number-to s r.to-branches (length x.branches) r.b (λ n p. each_of (find_in_condition_t ns s last) (branch_end ns s) n p z) r.count j)) r.count j)) in
      let w : found (conditions x.branches ++ (bodies x.branches ++ right_sides x.else_equations)) [] ≡ found (right_sides x.else_equations) (found (bodies x.branches) (found (conditions x.branches) [])) =
      found-append (conditions x.branches) (bodies x.branches ++ right_sides x.else_equations) [] ∙ found-append (bodies x.branches) (right_sides x.else_equations) (found (conditions x.branches) []) in (
        subst (λ a. RowsFrom ns s a.table 0 (found (conditions x.branches ++ (bodies x.branches ++ right_sides x.else_equations)) [])) (sym m) (subst (RowsFrom ns s (find_in_scope_t ns s last r.to-else v).table 0) (sym w) h.0),
        ap (λ a. a.count) m ∙ h.1 ∙ ap length (sym w),
        subst (λ a. 3 * a.count ≤ length a.table) (sym m) (let j = h.2 in let k = h.3 in omega arith),
      )
