-- The holders that lowering makes: each `last` that is found has one, with its type, its initial value and its equation.
use Prim.Native.Nat.{ℕ}
use mathlib.Core.List.{List, [], ◌++◌, ◌∷◌, append_assoc, append-nil}
use mathlib.Core.Bool.{Bool, ◌||◌, cond, false, true}
use mathlib.Core.Option.{Option, none-ne-some, none, some}
use mathlib.Core.Path.{◌∙◌, ◌≡◌, ap, refl, subst, sym}
use Rattle.pack.proofs.Tables.{eq_name-refl, eq_name-true}
use Rattle.pack_rules.specs.Names.{Name, eq_name, member}
use Rattle.pack_rules.specs.Report.{first_of}
use Rattle.pack_rules.specs.Syntax.{Enum, Equation, Expr, Exprs, Port, Ty, e_array, e_arrow, e_binary, e_call, e_cast, e_const, e_field, e_if, e_index, e_iterate, e_merge, e_pre, e_struct, e_tuple, e_unary, e_var, e_when, x_cons, x_nil}
use Rattle.activation_rules.specs.Defaults.{default_of}
use Rattle.activation_rules.specs.Defines.{eqn}
use Rattle.activation_rules.specs.Holders.{Holding, cons_holder, holder_equation, holder_port, holders_made, make_holders, refused, with_init, with_type}
use Rattle.activation_rules.specs.LastCalls.{CallKind, bad_last, call_kind, last_of, plain}
use Rattle.activation_rules.specs.MadeNames.{act_prefix, last_var}
use Rattle.activation_rules.specs.Sought.{Sought, found, note, sought, sought_in}
use Rattle.activation_rules.specs.Types.{first_typed, last_typed, port_names, typed}
use Rattle.run_rules.specs.Visits.{Every, all_calls, asks, calls_in, calls_of, first_given}
use Rattle.run_rules.specs.Premises.{starts_with}
use Rattle.run_rules.specs.Run.{Run, Agrees, Satisfies}
use Rattle.run_rules.proofs.Booleans.{or_left, or_right, or_split, true-false, ≡→T}
use Rattle.run_rules.proofs.Prefixes.{starts-append}
use Rattle.runs.proofs.TreeRuns.{member-left, member_right}

pub every_append : (P : Expr → Type 0) (k l : List Expr) → Every P k → Every P l → Every P (k ++ l)
every_append P [] l p q = q
every_append P (e ∷ k) l p q = (p.0, every_append P k l p.1 q)

pub every-split : (P : Expr → Type 0) (k l : List Expr) → Every P (k ++ l) → Every P k × Every P l
every-split P [] l p = (tt, p)
every-split P (e ∷ k) l p = let q : Every P k × Every P l = every-split P k l p.1 in ((p.0, q.0), q.1)

pub every-both : (P Q S : Expr → Type 0) → ((e : Expr) → P e → Q e → S e) → (l : List Expr) → Every P l → Every Q l → Every S l
every-both P Q S f [] p q = tt
every-both P Q S f (e ∷ l) p q = (f e p.0 q.0, every-both P Q S f l p.1 q.1)

every_map : (P Q : Expr → Type 0) → ((e : Expr) → P e → Q e) → (l : List Expr) → Every P l → Every Q l
every_map P Q f [] p = tt
every_map P Q f (e ∷ l) p = (f e p.0, every_map P Q f l p.1)

-- a variable more is noted
note-keeps : (w v : Name) (i : Option Expr) (hs : List Sought) → asks w hs ≡ true → asks w (note v i hs) ≡ true
unfolding note asks
note-keeps w v i [] m = absurd (≡→T false m)
note-keeps w v i (h ∷ hs) m = go (eq_name h.var v) (λ (q : asks w hs ≡ true). note-keeps w v i hs q)
  where
    go : (b : Bool) → (asks w hs ≡ true → asks w (note v i hs) ≡ true) → asks w (cond b (record { var = h.var; init = first_of h.init i } ∷ hs) (h ∷ note v i hs)) ≡ true
    go true r = m
    go false r = here (eq_name h.var w) refl
      where
        here : (c : Bool) → eq_name h.var w ≡ c → eq_name h.var w || asks w (note v i hs) ≡ true
        here true e = rw e
        here false e = rw e (r (or_split (eq_name h.var w) (asks w hs) m e))

note-has : (v : Name) (i : Option Expr) (hs : List Sought) → asks v (note v i hs) ≡ true
unfolding note asks
note-has v i [] = or_left (eq_name v v) false (eq_name-refl v)
note-has v i (h ∷ hs) = go (eq_name h.var v) refl (note-has v i hs)
  where
    go : (b : Bool) → eq_name h.var v ≡ b → asks v (note v i hs) ≡ true → asks v (cond b (record { var = h.var; init = first_of h.init i } ∷ hs) (h ∷ note v i hs)) ≡ true
    go true e r = or_left (eq_name h.var v) (asks v hs) e
    go false e r = or_right (eq_name h.var v) (asks v (note v i hs)) r

pub empty : (w : Name) → member w [] ≡ true → ⊥
unfolding member
empty w m = ≡→T false m

-- a member of two lists one after the other
pub split : {P : Type 0} (x : Name) (k l : List Name) → member x (k ++ l) ≡ true → (member x k ≡ true → P) → (member x l ≡ true → P) → P
unfolding member
split x [] l m f g = g m
split {P} x (y ∷ k) l m f g = go (eq_name x y) refl (λ (q : member x (k ++ l) ≡ true). split {P = P} x k l q (λ r. f (or_right (eq_name x y) (member x k) r)) g)
  where
    go : (b : Bool) → eq_name x y ≡ b → (member x (k ++ l) ≡ true → P) → P
    go true e r = f (or_left (eq_name x y) (member x k) e)
    go false e r = r (or_split (eq_name x y) (member x (k ++ l)) m e)

-- the same of calls
pub asks_none : (v : Name) → asks v [] ≡ true → ⊥
unfolding asks
asks_none v m = ≡→T false m

pub asks-split : {P : Type 0} (v : Name) (k l : List Sought) → asks v (k ++ l) ≡ true → (asks v k ≡ true → P) → (asks v l ≡ true → P) → P
unfolding asks
asks-split v [] l m f g = g m
asks-split {P} v (c ∷ k) l m f g = go (eq_name c.var v) refl (λ (q : asks v (k ++ l) ≡ true). asks-split {P = P} v k l q (λ r. f (or_right (eq_name c.var v) (asks v k) r)) g)
  where
    go : (b : Bool) → eq_name c.var v ≡ b → (asks v (k ++ l) ≡ true → P) → P
    go true e r = f (or_left (eq_name c.var v) (asks v k) e)
    go false e r = r (or_split (eq_name c.var v) (asks v (k ++ l)) m e)

asks-left : (v : Name) (k l : List Sought) → asks v k ≡ true → asks v (k ++ l) ≡ true
unfolding asks
asks-left v [] l m = absurd (≡→T false m)
asks-left v (c ∷ k) l m = go (eq_name c.var v) refl (λ (q : asks v k ≡ true). asks-left v k l q)
  where
    go : (b : Bool) → eq_name c.var v ≡ b → (asks v k ≡ true → asks v (k ++ l) ≡ true) → eq_name c.var v || asks v (k ++ l) ≡ true
    go true e r = or_left (eq_name c.var v) (asks v (k ++ l)) e
    go false e r = or_right (eq_name c.var v) (asks v (k ++ l)) (r (or_split (eq_name c.var v) (asks v k) m e))

asks-right : (v : Name) (k l : List Sought) → asks v l ≡ true → asks v (k ++ l) ≡ true
unfolding asks
asks-right v [] l m = m
asks-right v (c ∷ k) l m = or_right (eq_name c.var v) (asks v (k ++ l)) (asks-right v k l m)

-- what is sought is what the calls note, one after the other
unfoldable pub noted : List Sought → List Sought → List Sought
noted [] hs = hs
noted (c ∷ cs) hs = noted cs (note c.var c.init hs)

noted-append : (k l hs : List Sought) → noted (k ++ l) hs ≡ noted l (noted k hs)
unfolding noted
noted-append [] l hs = refl
noted-append (c ∷ k) l hs = noted-append k l (note c.var c.init hs)

call-is : (f : Name) (xs : Exprs) (hs : List Sought) → sought_in xs hs ≡ noted (calls_in xs) hs → sought (e_call f xs) hs ≡ noted (calls_of (e_call f xs)) hs
unfolding sought calls_of noted
call-is f xs hs r = go (call_kind f xs)
  where
    go : (k : CallKind)
        → ◌≡◌ {A = List Sought} (elim k [ plain ↦ sought_in xs hs | bad_last ↦ sought_in xs hs | last_of v i ↦ note v i hs ]) (noted (elim k [ plain ↦ calls_in xs | bad_last ↦ calls_in xs | last_of v i ↦ record { var = v; init = i } ∷ [] ]) hs)
    go plain = r
    go bad_last = r
    go (last_of v i) = refl

both-noted : (k l hs x y : List Sought) → x ≡ noted k hs → y ≡ noted l x → y ≡ noted (k ++ l) hs
both-noted k l hs x y p q = q ∙ (ap (noted l) p ∙ sym (noted-append k l hs))

mutual
  unfolding sought calls_of noted

  sought-is : (e : Expr) (hs : List Sought) → sought e hs ≡ noted (calls_of e) hs
  sought-is (e_const l) hs = refl
  sought-is (e_var x) hs = refl
  sought-is (e_unary o a) hs = sought-is a hs
  sought-is (e_binary o a b) hs = both-noted (calls_of a) (calls_of b) hs _ _ (sought-is a hs) (sought-is b (sought a hs))
  sought-is (e_if a b c) hs = both-noted (calls_of a) (calls_of b ++ calls_of c) hs _ _ (sought-is a hs) (both-noted (calls_of b) (calls_of c) (sought a hs) _ _ (sought-is b (sought a hs)) (sought-is c (sought b (sought a hs))))
  sought-is (e_pre a) hs = sought-is a hs
  sought-is (e_arrow a b) hs = both-noted (calls_of a) (calls_of b) hs _ _ (sought-is a hs) (sought-is b (sought a hs))
  sought-is (e_call f xs) hs = call-is f xs hs (sought_in-is xs hs)
  sought-is (e_field a f) hs = sought-is a hs
  sought-is (e_index a i) hs = both-noted (calls_of a) (calls_of i) hs _ _ (sought-is a hs) (sought-is i (sought a hs))
  sought-is (e_tuple xs) hs = sought_in-is xs hs
  sought-is (e_array xs) hs = sought_in-is xs hs
  sought-is (e_struct n fs xs) hs = sought_in-is xs hs
  sought-is (e_cast t a) hs = sought-is a hs
  sought-is (e_when a x b) hs = sought-is a hs
  sought-is (e_merge x a b) hs = both-noted (calls_of a) (calls_of b) hs _ _ (sought-is a hs) (sought-is b (sought a hs))
  sought-is (e_iterate k f i xs) hs = sought_in-is xs hs

  sought_in-is : (xs : Exprs) (hs : List Sought) → sought_in xs hs ≡ noted (calls_in xs) hs
  sought_in-is x_nil hs = refl
  sought_in-is (x_cons a xs) hs = both-noted (calls_of a) (calls_in xs) hs _ _ (sought-is a hs) (sought_in-is xs (sought a hs))

found-is : (es : List Expr) (hs : List Sought) → found es hs ≡ noted (all_calls es) hs
unfolding found all_calls noted
found-is [] hs = refl
found-is (e ∷ es) hs = both-noted (calls_of e) (all_calls es) hs _ _ (sought-is e hs) (found-is es (sought e hs))

-- each variable that is asked for is noted
noted-keeps : (v : Name) (cs hs : List Sought) → asks v hs ≡ true → asks v (noted cs hs) ≡ true
unfolding noted
noted-keeps v [] hs m = m
noted-keeps v (c ∷ cs) hs m = noted-keeps v cs (note c.var c.init hs) (note-keeps v c.var c.init hs m)

noted-has : (v : Name) (cs hs : List Sought) → asks v cs ≡ true → asks v (noted cs hs) ≡ true
unfolding noted asks
noted-has v [] hs m = absurd (≡→T false m)
noted-has v (c ∷ cs) hs m = go (eq_name c.var v) refl (λ (q : asks v cs ≡ true). noted-has v cs (note c.var c.init hs) q)
  where
    go : (b : Bool) → eq_name c.var v ≡ b → (asks v cs ≡ true → asks v (noted cs (note c.var c.init hs)) ≡ true) → asks v (noted cs (note c.var c.init hs)) ≡ true
    go true e r = noted-keeps v cs (note c.var c.init hs) (subst (λ (z : Name). asks z (note c.var c.init hs) ≡ true) (eq_name-true c.var v e) (note-has c.var c.init hs))
    go false e r = r (or_split (eq_name c.var v) (asks v cs) m e)

found-has : (v : Name) (es : List Expr) → asks v (all_calls es) ≡ true → asks v (found es []) ≡ true
found-has v es m = subst (λ (hs : List Sought). asks v hs ≡ true) (sym (found-is es [])) (noted-has v (all_calls es) [] m)

-- with the initial that is given first
unfoldable pub init_of : Name → List Sought → Option Expr
init_of v [] = none
init_of v (h ∷ hs) = cond (eq_name h.var v) h.init (init_of v hs)

first-none-right : {A : Type 0} (x : Option A) → first_of x none ≡ x
unfolding first_of
first-none-right none = refl
first-none-right (some y) = refl

first-assoc : {A : Type 0} (x y z : Option A) → first_of (first_of x y) z ≡ first_of x (first_of y z)
unfolding first_of
first-assoc none y z = refl
first-assoc (some w) y z = refl

note-init : (v w : Name) (i : Option Expr) (hs : List Sought) → init_of v (note w i hs) ≡ first_of (init_of v hs) (cond (eq_name w v) i none)
unfolding init_of note first_of
note-init v w i [] = refl
note-init v w i (h ∷ hs) = go (eq_name h.var w) refl (note-init v w i hs)
  where
    same : h.var ≡ w → (b : Bool) → eq_name h.var v ≡ b
        → cond b (first_of h.init i) (init_of v hs) ≡ first_of (cond b h.init (init_of v hs)) (cond (eq_name w v) i none)
    same p true q = rw (sym (ap (λ (z : Name). eq_name z v) p) ∙ q)
    same p false q = rw (sym (ap (λ (z : Name). eq_name z v) p) ∙ q) (sym (first-none-right (init_of v hs)))

    other-one : eq_name h.var w ≡ false → init_of v (note w i hs) ≡ first_of (init_of v hs) (cond (eq_name w v) i none) → (b : Bool) → eq_name h.var v ≡ b
        → cond b h.init (init_of v (note w i hs)) ≡ first_of (cond b h.init (init_of v hs)) (cond (eq_name w v) i none)
    other-one p r true q = rw (differs (eq_name w v) refl) (sym (first-none-right h.init))
      where
        differs : (c : Bool) → eq_name w v ≡ c → eq_name w v ≡ false
        differs true k = absurd (true-false {b = eq_name h.var w} (subst (λ (z : Name). eq_name h.var z ≡ true) (sym (eq_name-true w v k)) q) p)
        differs false k = k
    other-one p r false q = r

    go : (b : Bool) → eq_name h.var w ≡ b → init_of v (note w i hs) ≡ first_of (init_of v hs) (cond (eq_name w v) i none)
        → init_of v (cond b (record { var = h.var; init = first_of h.init i } ∷ hs) (h ∷ note w i hs)) ≡ first_of (cond (eq_name h.var v) h.init (init_of v hs)) (cond (eq_name w v) i none)
    go true e r = same (eq_name-true h.var w e) (eq_name h.var v) refl
    go false e r = other-one e r (eq_name h.var v) refl

noted-init : (v : Name) (cs hs : List Sought) → init_of v (noted cs hs) ≡ first_of (init_of v hs) (first_given v cs)
unfolding noted first_given
noted-init v [] hs = sym (first-none-right (init_of v hs))
noted-init v (c ∷ cs) hs =
    noted-init v cs (note c.var c.init hs)
    ∙ (ap (λ (x : Option Expr). first_of x (first_given v cs)) (note-init v c.var c.init hs) ∙ first-assoc (init_of v hs) (cond (eq_name c.var v) c.init none) (first_given v cs))

pub found-init : (v : Name) (es : List Expr) → init_of v (found es []) ≡ first_given v (all_calls es)
unfolding init_of first_of
found-init v es = ap (init_of v) (found-is es []) ∙ noted-init v (all_calls es) []

-- what holds of the variables that each expression asks for holds of all
pub calls-have : (es : List Expr) → Every (λ e. (v : Name) → asks v (calls_of e) ≡ true → asks v (all_calls es) ≡ true) es
unfolding all_calls
calls-have [] = tt
calls-have (e ∷ es) = ((λ v m. asks-left v (calls_of e) (all_calls es) m), every_map (λ d. (v : Name) → asks v (calls_of d) ≡ true → asks v (all_calls es) ≡ true) (λ d. (v : Name) → asks v (calls_of d) ≡ true → asks v (calls_of e ++ all_calls es) ≡ true) (λ d h v m. asks-right v (calls_of e) (all_calls es) (h v m)) es (calls-have es))

pub found-have : (es : List Expr) → Every (λ e. (v : Name) → asks v (calls_of e) ≡ true → asks v (found es []) ≡ true) es
found-have es = every_map (λ e. (v : Name) → asks v (calls_of e) ≡ true → asks v (all_calls es) ≡ true) (λ e. (v : Name) → asks v (calls_of e) ≡ true → asks v (found es []) ≡ true) (λ e h v m. found-has v es (h v m)) es (calls-have es)

pub all-calls : (P : Name → Type 0) (es : List Expr) → Every (λ e. (v : Name) → asks v (calls_of e) ≡ true → P v) es → (v : Name) → asks v (all_calls es) ≡ true → P v
unfolding all_calls
all-calls P [] h v m = absurd (asks_none v m)
all-calls P (e ∷ es) h v m = asks-split {P = P v} v (calls_of e) (all_calls es) m (h.0 v) (λ q. all-calls P es h.1 v q)

-- the types of variables
named : (v x : Name) (l : List Name) → eq_name x v ≡ true → eq_name v x || member v l ≡ true
named v x l q = or_left (eq_name v x) (member v l) (subst (λ (z : Name). eq_name v z ≡ true) (sym (eq_name-true x v q)) (eq_name-refl v))

in-first : (ps : List Port) (v : Name) (t : Ty) → first_typed ps v ≡ some t → member v (port_names ps) ≡ true
unfolding first_typed port_names member
in-first [] v t e = absurd (none-ne-some t e)
in-first (p ∷ ps) v t e = go (eq_name p.name v) refl e (λ (q : first_typed ps v ≡ some t). in-first ps v t q)
  where
    go : (b : Bool) → eq_name p.name v ≡ b → cond b (some p.ty) (first_typed ps v) ≡ some t → (first_typed ps v ≡ some t → member v (port_names ps) ≡ true) → eq_name v p.name || member v (port_names ps) ≡ true
    go true q h r = named v p.name (port_names ps) q
    go false q h r = or_right (eq_name v p.name) (member v (port_names ps)) (r h)

in-last : (ps : List Port) (v : Name) (t : Ty) → last_typed ps v ≡ some t → member v (port_names ps) ≡ true
unfolding last_typed port_names member first_of
in-last [] v t e = absurd (none-ne-some t e)
in-last (p ∷ ps) v t e = go (last_typed ps v) refl e (λ (u : Ty) (q : last_typed ps v ≡ some u). in-last ps v u q)
  where
    here : (b : Bool) → eq_name p.name v ≡ b → cond b (some p.ty) none ≡ some t → eq_name v p.name || member v (port_names ps) ≡ true
    here true q h = named v p.name (port_names ps) q
    here false q h = absurd (none-ne-some t h)

    go : (o : Option Ty) → last_typed ps v ≡ o → first_of o (cond (eq_name p.name v) (some p.ty) none) ≡ some t → ((u : Ty) → last_typed ps v ≡ some u → member v (port_names ps) ≡ true) → eq_name v p.name || member v (port_names ps) ≡ true
    go none q h r = here (eq_name p.name v) refl h
    go (some u) q h r = or_right (eq_name v p.name) (member v (port_names ps)) (r u q)

pub typed-member : (env outs : List Port) (v : Name) (t : Ty) → typed env outs v ≡ some t → member v (port_names env ++ port_names outs) ≡ true
unfolding typed first_of
typed-member env outs v t e = go (last_typed env v) refl e
  where
    go : (o : Option Ty) → last_typed env v ≡ o → first_of o (first_typed outs v) ≡ some t → member v (port_names env ++ port_names outs) ≡ true
    go none p q = member_right v (port_names env) (port_names outs) (in-first outs v t q)
    go (some u) p q = member-left v (port_names env) (port_names outs) (in-last env v u p)

-- a variable that no `__act_` begins has its type among the owner's variables
typed-end : (env : List Port) (p : Port) (v : Name) → eq_name p.name v ≡ false → last_typed (env ++ (p ∷ [])) v ≡ last_typed env v
unfolding last_typed first_of
typed-end [] p v e = rw e
typed-end (q ∷ env) p v e = ap (λ (o : Option Ty). first_of o (cond (eq_name q.name v) (some q.ty) none)) (typed-end env p v e)

pub last-starts : (a v : Name) → starts_with act_prefix (last_var a v) ≡ true
unfolding last_var
last-starts a v = starts-append act_prefix _

last-not : (a w v : Name) → starts_with act_prefix v ≡ false → eq_name (last_var a w) v ≡ false
last-not a w v f = go (eq_name (last_var a w) v) refl
  where
    go : (b : Bool) → eq_name (last_var a w) v ≡ b → eq_name (last_var a w) v ≡ false
    go true e = absurd (true-false {b = starts_with act_prefix v} (subst (λ (z : Name). starts_with act_prefix z ≡ true) (eq_name-true (last_var a w) v e) (last-starts a w)) f)
    go false e = e

-- what stands for a holder: its type, its initial value and its equation; `env`: the owner's variables
pub record HeldAs {O : Type 0} (R : Run O) (N : ℕ) (es : List Enum) (a : Name) (env outs : List Port) (hs : List Sought) (v : Name) (ps : List Port) : Type 0 where
  pub type : Ty
  pub earlier : List Port
  pub known : typed (env ++ earlier) outs v ≡ some type
  pub drawn : starts_with act_prefix v ≡ false → typed env outs v ≡ some type
  pub initial : Expr
  pub given : first_of (init_of v hs) (default_of es type) ≡ some initial
  pub equation : Agrees R N (last_var a v ∷ []) (e_arrow initial (e_pre (e_var v)))
  pub port : member (last_var a v) (port_names ps) ≡ true

abbrev IsHeld : Holding → Type 0
IsHeld (refused r) = ⊥
IsHeld (holders_made ps es) = Unit {0}

record Rest (p : Port) (e : Equation) (h : Holding) (ps : List Port) (es : List Equation) : Type 0 where
  ports : List Port
  equations : List Equation
  is : h ≡ holders_made ports equations
  ports-are : ps ≡ p ∷ ports
  equations-are : es ≡ e ∷ equations

also-rest : (p : Port) (e : Equation) (h : Holding) (ps : List Port) (es : List Equation) → cons_holder p e h ≡ holders_made ps es → Rest p e h ps es
unfolding cons_holder
also-rest p e (refused r) ps es q = absurd (subst IsHeld (sym q) tt)
also-rest p e (holders_made qs fs) ps es q = record { ports = qs; equations = fs; is = refl; ports-are = one; equations-are = other-one }
  where
    one : ps ≡ p ∷ qs
    one = cc

    other-one : es ≡ e ∷ fs
    other-one = cc

-- one holder, and those that follow
record First (es : List Enum) (a : Name) (env outs : List Port) (h : Sought) (hs : List Sought) (ps : List Port) (qs : List Equation) : Type 0 where
  type : Ty
  known : typed env outs h.var ≡ some type
  initial : Expr
  given : first_of h.init (default_of es type) ≡ some initial
  rest : Rest (holder_port a h.var type) (holder_equation a h.var initial) (make_holders es a (env ++ (holder_port a h.var type ∷ [])) outs hs) ps qs

first-held : (es : List Enum) (a : Name) (env outs : List Port) (h : Sought) (hs : List Sought) (ps : List Port) (qs : List Equation) → make_holders es a env outs (h ∷ hs) ≡ holders_made ps qs → First es a env outs h hs ps qs
unfolding make_holders with_type with_init
first-held es a env outs h hs ps qs e = go (typed env outs h.var) refl e
  where
    rest : Port → Holding
    rest p = make_holders es a (env ++ (p ∷ [])) outs hs

    inner : (t : Ty) → typed env outs h.var ≡ some t → (o : Option Expr) → first_of h.init (default_of es t) ≡ o → with_init a h.var t o rest ≡ holders_made ps qs → First es a env outs h hs ps qs
    inner t k none g q = absurd (subst IsHeld (sym q) tt)
    inner t k (some i) g q = record { type = t; known = k; initial = i; given = g; rest = also-rest _ _ _ ps qs q }

    go : (o : Option Ty) → typed env outs h.var ≡ o → with_type es a h o rest ≡ holders_made ps qs → First es a env outs h hs ps qs
    go none k q = absurd (subst IsHeld (sym q) tt)
    go (some t) k q = inner t k (first_of h.init (default_of es t)) refl q

module _ {O : Type 0} (R : Run O) (N : ℕ) (es : List Enum) (a : Name) (outs : List Port) where
  own_held : (env : List Port) (h : Sought) (hs : List Sought) (ps : List Port) (qs : List Equation) → First es a env outs h hs ps qs → Satisfies R N qs → HeldAs R N es a env outs (h ∷ hs) h.var ps
  unfolding init_of eqn holder_equation holder_port port_names member
  own_held env h hs ps qs f sat = record {
    type = f.type;
    earlier = [];
    known = subst (λ (x : List Port). typed x outs h.var ≡ some f.type) (sym (append-nil env)) f.known;
    drawn = λ d. f.known;
    initial = f.initial;
    given = rw (eq_name-refl h.var) f.given;
    equation = (subst (λ (x : List Equation). Satisfies R N x) f.rest.equations-are sat).0;
    port = subst (λ (x : List Port). member (last_var a h.var) (port_names x) ≡ true) (sym f.rest.ports-are) (or_left (eq_name (last_var a h.var) (last_var a h.var)) (member (last_var a h.var) (port_names f.rest.ports)) (eq_name-refl (last_var a h.var)));
  }

  next-held : (env : List Port) (h : Sought) (hs : List Sought) (ps : List Port) (qs : List Equation) (v : Name) (f : First es a env outs h hs ps qs) → eq_name h.var v ≡ false
      → HeldAs R N es a (env ++ (holder_port a h.var f.type ∷ [])) outs hs v f.rest.ports → HeldAs R N es a env outs (h ∷ hs) v ps
  unfolding init_of holder_port port_names member typed
  next-held env h hs ps qs v f e g = record {
    type = g.type;
    earlier = holder_port a h.var f.type ∷ g.earlier;
    known = subst (λ (x : List Port). typed x outs v ≡ some g.type) (append_assoc env (holder_port a h.var f.type ∷ []) g.earlier) g.known;
    drawn = λ d. ap (λ (o : Option Ty). first_of o (first_typed outs v)) (sym (typed-end env (holder_port a h.var f.type) v (last-not a h.var v d))) ∙ g.drawn d;
    initial = g.initial;
    given = rw e g.given;
    equation = g.equation;
    port = subst (λ (x : List Port). member (last_var a v) (port_names x) ≡ true) (sym f.rest.ports-are) (or_right (eq_name (last_var a v) (last_var a h.var)) (member (last_var a v) (port_names f.rest.ports)) g.port);
  }

  pub held-as : (hs : List Sought) (env ps : List Port) (qs : List Equation) → make_holders es a env outs hs ≡ holders_made ps qs → Satisfies R N qs → (v : Name) → asks v hs ≡ true → HeldAs R N es a env outs hs v ps
  unfolding asks
  held-as [] env ps qs e sat v m = absurd (≡→T false m)
  held-as (h ∷ hs) env ps qs e sat v m =
      let f = first-held es a env outs h hs ps qs e in
      pick f (eq_name h.var v) refl
      (λ (q : asks v hs ≡ true). held-as hs (env ++ (holder_port a h.var f.type ∷ [])) f.rest.ports f.rest.equations f.rest.is
      (subst (λ (x : List Equation). Satisfies R N x) f.rest.equations-are sat).1 v q)
    where
      pick : (f : First es a env outs h hs ps qs) (b : Bool) → eq_name h.var v ≡ b → (asks v hs ≡ true → HeldAs R N es a (env ++ (holder_port a h.var f.type ∷ [])) outs hs v f.rest.ports) → HeldAs R N es a env outs (h ∷ hs) v ps
      pick f true q r = subst (λ (x : Name). HeldAs R N es a env outs (h ∷ hs) x ps) (eq_name-true h.var v q) (own_held env h hs ps qs f sat)
      pick f false q r = next-held env h hs ps qs v f q (r (or_split (eq_name h.var v) (asks v hs) m q))

nothing-held : (es : List Enum) (a : Name) (outs env ps : List Port) (qs : List Equation) → make_holders es a env outs [] ≡ holders_made ps qs → ps ≡ []
unfolding make_holders
nothing-held es a outs env ps qs e = cc

-- the sought' names are made names
pub ports-start : (es : List Enum) (a : Name) (outs : List Port) (hs : List Sought) (env ps : List Port) (qs : List Equation) → make_holders es a env outs hs ≡ holders_made ps qs → (x : Name) → member x (port_names ps) ≡ true → starts_with act_prefix x ≡ true
unfolding port_names member holder_port
ports-start es a outs [] env ps qs e x m = absurd (empty x (subst (λ (p : List Port). member x (port_names p) ≡ true) (nothing-held es a outs env ps qs e) m))
ports-start es a outs (h ∷ hs) env ps qs e x m =
    let f = first-held es a env outs h hs ps qs e in
    pick f (eq_name x (last_var a h.var)) refl (subst (λ (p : List Port). member x (port_names p) ≡ true) f.rest.ports-are m)
    (λ (q : member x (port_names f.rest.ports) ≡ true). ports-start es a outs hs (env ++ (holder_port a h.var f.type ∷ [])) f.rest.ports f.rest.equations f.rest.is x q)
  where
    pick : (f : First es a env outs h hs ps qs) (b : Bool) → eq_name x (last_var a h.var) ≡ b → eq_name x (last_var a h.var) || member x (port_names f.rest.ports) ≡ true
        → (member x (port_names f.rest.ports) ≡ true → starts_with act_prefix x ≡ true) → starts_with act_prefix x ≡ true
    pick f true q n r = subst (λ (z : Name). starts_with act_prefix z ≡ true) (sym (eq_name-true x (last_var a h.var) q)) (last-starts a h.var)
    pick f false q n r = r (or_split (eq_name x (last_var a h.var)) (member x (port_names f.rest.ports)) n q)
