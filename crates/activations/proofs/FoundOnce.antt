-- What is found has no variable twice, and has every variable that a replaced call of `last` asks for.
use mathlib.Core.List.{List, [], ◌∷◌}
use mathlib.Core.Bool.{Bool, true, false, cond, ◌||◌, or_assoc, or-false, or-true}
use mathlib.Core.Option.{Option}
use mathlib.Core.Path.{◌≡◌, refl, sym, ap, subst, ◌∙◌}
use Rattle.wire.specs.Lists.{All}
use Rattle.pack_rules.specs.Names.{Name, eq_name, member}
use Rattle.pack_rules.specs.Report.{first_of}
use Rattle.pack_rules.specs.Syntax.{Expr, Exprs, e_array, e_arrow, e_binary, e_call, e_cast, e_const, e_field, e_if, e_index, e_iterate, e_merge, e_pre, e_struct, e_tuple, e_unary, e_var, e_when, x_cons, x_nil}
use Rattle.pack.proofs.Tables.{eq_name-refl, eq_name-true}
use Rattle.activation_rules.specs.LastCalls.{CallKind, bad_last, call_kind, last_of, plain}
use Rattle.activation_rules.specs.Sought.{Sought, found, note, sought, sought_in}
use Rattle.activations.specs.Asked.{Asked, AskedIn, OfCall}
use Rattle.activations.proofs.NameIdsKnown.{by_bool}
use Rattle.activations.proofs.LastsFound.{call-sought, kind_sought}

-- the names of what is found
unfoldable pub vars_of : List Sought → List Name
vars_of [] = []
vars_of (h ∷ hs) = h.var ∷ vars_of hs

-- no variable twice
unfoldable pub VarsOnce : List Sought → Type 0
VarsOnce [] = Unit {0}
VarsOnce (h ∷ hs) = (member h.var (vars_of hs) ≡ false) × VarsOnce hs

-- a variable is found
abbrev pub Has : List Sought → Name → Type 0
Has hs v = member v (vars_of hs) ≡ true

or_same : (b c : Bool) → b || c ≡ (b || c) || b
or_same true c = refl
or_same false c = sym (or-false c)

-- one noted more
note-vars : (w v : Name) (i : Option Expr) (hs : List Sought) → member w (vars_of (note v i hs)) ≡ member w (vars_of hs) || eq_name w v
unfolding note vars_of member
note-vars w v i [] = or-false (eq_name w v)
note-vars w v i (h ∷ hs) =
    by_bool (λ (b : Bool). (eq_name h.var v ≡ b) → member w (vars_of (cond b (record { var = h.var; init = first_of h.init i } ∷ hs) (h ∷ note v i hs))) ≡ (eq_name w h.var || member w (vars_of hs)) || eq_name w v) (eq_name h.var v)
    (λ e g. or_same (eq_name w h.var) (member w (vars_of hs)) ∙ ap (λ (y : Name). (eq_name w h.var || member w (vars_of hs)) || eq_name w y) (eq_name-true h.var v g))
    (λ e g. ap (λ (b : Bool). eq_name w h.var || b) (note-vars w v i hs) ∙ sym (or_assoc (eq_name w h.var) (member w (vars_of hs)) (eq_name w v)))
    refl

note-has : (w v : Name) (i : Option Expr) (hs : List Sought) → Has hs w → Has (note v i hs) w
note-has w v i hs h = note-vars w v i hs ∙ ap (λ (b : Bool). b || eq_name w v) h

note-noted : (v : Name) (i : Option Expr) (hs : List Sought) → Has (note v i hs) v
note-noted v i hs = note-vars v v i hs ∙ ap (λ (b : Bool). member v (vars_of hs) || b) (eq_name-refl v) ∙ or-true (member v (vars_of hs))

note-once : (v : Name) (i : Option Expr) (hs : List Sought) → VarsOnce hs → VarsOnce (note v i hs)
unfolding note vars_of VarsOnce member
note-once v i [] o = (refl, tt)
note-once v i (h ∷ hs) o =
    by_bool (λ (b : Bool). (eq_name h.var v ≡ b) → VarsOnce (cond b (record { var = h.var; init = first_of h.init i } ∷ hs) (h ∷ note v i hs))) (eq_name h.var v)
    (λ e g. o)
    (λ e g. (note-vars h.var v i hs ∙ ap (λ (b : Bool). b || eq_name h.var v) o.0 ∙ g, note-once v i hs o.1))
    refl

-- what noting keeps, an expression keeps
module _ (R : List Sought → Type 0) (noted : (v : Name) (i : Option Expr) (hs : List Sought) → R hs → R (note v i hs)) where
  kind-keeps : (k : CallKind) (xs : Exprs) (hs : List Sought) → (R hs → R (sought_in xs hs)) → R hs → R (kind_sought k xs hs)
  unfolding kind_sought
  kind-keeps plain xs hs f h = f h
  kind-keeps bad_last xs hs f h = f h
  kind-keeps (last_of v i) xs hs f h = noted v i hs h

  call-keeps : (f : Name) (xs : Exprs) (hs : List Sought) → (R hs → R (sought_in xs hs)) → R hs → R (sought (e_call f xs) hs)
  call-keeps f xs hs g h = subst R (sym (call-sought f xs (call_kind f xs) hs refl)) (kind-keeps (call_kind f xs) xs hs g h)

  mutual
    unfolding sought sought_in

    sought-keeps : (e : Expr) (hs : List Sought) → R hs → R (sought e hs)
    sought-keeps (e_const l) hs h = h
    sought-keeps (e_var x) hs h = h
    sought-keeps (e_unary o a) hs h = sought-keeps a hs h
    sought-keeps (e_binary o a b) hs h = sought-keeps b (sought a hs) (sought-keeps a hs h)
    sought-keeps (e_if a b c) hs h = sought-keeps c (sought b (sought a hs)) (sought-keeps b (sought a hs) (sought-keeps a hs h))
    sought-keeps (e_pre a) hs h = sought-keeps a hs h
    sought-keeps (e_arrow a b) hs h = sought-keeps b (sought a hs) (sought-keeps a hs h)
    sought-keeps (e_call f xs) hs h = call-keeps f xs hs (λ g. in-keeps xs hs g) h
    sought-keeps (e_field a f) hs h = sought-keeps a hs h
    sought-keeps (e_index a i) hs h = sought-keeps i (sought a hs) (sought-keeps a hs h)
    sought-keeps (e_tuple xs) hs h = in-keeps xs hs h
    sought-keeps (e_array xs) hs h = in-keeps xs hs h
    sought-keeps (e_struct n fs xs) hs h = in-keeps xs hs h
    sought-keeps (e_cast t a) hs h = sought-keeps a hs h
    sought-keeps (e_when a x b) hs h = sought-keeps a hs h
    sought-keeps (e_merge x a b) hs h = sought-keeps b (sought a hs) (sought-keeps a hs h)
    sought-keeps (e_iterate k f i xs) hs h = in-keeps xs hs h

    in-keeps : (xs : Exprs) (hs : List Sought) → R hs → R (sought_in xs hs)
    in-keeps x_nil hs h = h
    in-keeps (x_cons a xs) hs h = in-keeps xs (sought a hs) (sought-keeps a hs h)

  found-keeps : (es : List Expr) (hs : List Sought) → R hs → R (found es hs)
  unfolding found
  found-keeps [] hs h = h
  found-keeps (e ∷ es) hs h = found-keeps es (sought e hs) (sought-keeps e hs h)

-- THE LAW: what is found has no variable twice
pub found-once : (es : List Expr) → VarsOnce (found es [])
unfolding VarsOnce
found-once es = found-keeps VarsOnce note-once es [] tt

has_more : (v : Name) (e : Expr) (hs : List Sought) → Has hs v → Has (sought e hs) v
has_more v e hs h = sought-keeps (λ l. Has l v) (note-has v) e hs h

in-more : (v : Name) (xs : Exprs) (hs : List Sought) → Has hs v → Has (sought_in xs hs) v
in-more v xs hs h = in-keeps (λ l. Has l v) (note-has v) xs hs h

found-more : (v : Name) (es : List Expr) (hs : List Sought) → Has hs v → Has (found es hs) v
found-more v es hs h = found-keeps (λ l. Has l v) (note-has v) es hs h

-- what holds of all that is found holds of what an expression asks for
module _ (P : Name → Type 0) where
  kind-asks : (k : CallKind) (xs : Exprs) (hs : List Sought) → (((v : Name) → Has (sought_in xs hs) v → P v) → AskedIn P xs) → ((v : Name) → Has (kind_sought k xs hs) v → P v) → OfCall P (AskedIn P xs) k
  unfolding kind_sought OfCall
  kind-asks plain xs hs f h = f h
  kind-asks bad_last xs hs f h = f h
  kind-asks (last_of v i) xs hs f h = h v (note-noted v i hs)

  call_asks : (f : Name) (xs : Exprs) (hs : List Sought) → (((v : Name) → Has (sought_in xs hs) v → P v) → AskedIn P xs) → ((v : Name) → Has (sought (e_call f xs) hs) v → P v) → OfCall P (AskedIn P xs) (call_kind f xs)
  call_asks f xs hs g h = kind-asks (call_kind f xs) xs hs g (λ v k. h v (subst (λ l. Has l v) (sym (call-sought f xs (call_kind f xs) hs refl)) k))

  mutual
    unfolding sought sought_in Asked AskedIn

    asks : (e : Expr) (hs : List Sought) → ((v : Name) → Has (sought e hs) v → P v) → Asked P e
    asks (e_const l) hs h = tt
    asks (e_var x) hs h = tt
    asks (e_unary o a) hs h = asks a hs h
    asks (e_binary o a b) hs h = (asks a hs (λ v k. h v (has_more v b (sought a hs) k)), asks b (sought a hs) h)
    asks (e_if a b c) hs h = (asks a hs (λ v k. h v (has_more v c (sought b (sought a hs)) (has_more v b (sought a hs) k))), asks b (sought a hs) (λ v k. h v (has_more v c (sought b (sought a hs)) k)), asks c (sought b (sought a hs)) h)
    asks (e_pre a) hs h = asks a hs h
    asks (e_arrow a b) hs h = (asks a hs (λ v k. h v (has_more v b (sought a hs) k)), asks b (sought a hs) h)
    asks (e_call f xs) hs h = call_asks f xs hs (λ g. asks-in xs hs g) h
    asks (e_field a f) hs h = asks a hs h
    asks (e_index a i) hs h = (asks a hs (λ v k. h v (has_more v i (sought a hs) k)), asks i (sought a hs) h)
    asks (e_tuple xs) hs h = asks-in xs hs h
    asks (e_array xs) hs h = asks-in xs hs h
    asks (e_struct n fs xs) hs h = asks-in xs hs h
    asks (e_cast t a) hs h = asks a hs h
    asks (e_when a x b) hs h = asks a hs h
    asks (e_merge x a b) hs h = (asks a hs (λ v k. h v (has_more v b (sought a hs) k)), asks b (sought a hs) h)
    asks (e_iterate k f i xs) hs h = asks-in xs hs h

    asks-in : (xs : Exprs) (hs : List Sought) → ((v : Name) → Has (sought_in xs hs) v → P v) → AskedIn P xs
    asks-in x_nil hs h = tt
    asks-in (x_cons a xs) hs h = (asks a hs (λ v k. h v (in-more v xs (sought a hs) k)), asks-in xs (sought a hs) h)

  all-asks : (es : List Expr) (hs : List Sought) → ((v : Name) → Has (found es hs) v → P v) → All (Asked P) es
  unfolding found All
  all-asks [] hs h = tt
  all-asks (e ∷ es) hs h = (asks e hs (λ v k. h v (found-more v es (sought e hs) k)), all-asks es (sought e hs) h)

-- THE LAW: what expressions ask for is found
pub found-asked : (es : List Expr) → All (Asked (Has (found es []))) es
found-asked es = all-asks (Has (found es [])) es [] (λ v h. h)
