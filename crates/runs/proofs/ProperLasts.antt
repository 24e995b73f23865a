-- Calls of `last` in what may be written.
use Prim.Native.Nat.{ℕ, suc, ◌+◌}
use mathlib.Core.List.{List, [], ◌∷◌}
use mathlib.Core.Bool.{Bool, true, false, cond}
use mathlib.Core.Option.{Option, none, some}
use mathlib.Core.Path.{◌≡◌, refl, sym, ap, ◌∙◌}
use Rattle.wire.specs.Lists.{All}
use Rattle.pack_rules.specs.Legal.{Allowed}
use Rattle.pack_rules.specs.Names.{Name, eq_name}
use Rattle.pack_rules.specs.Report.{first_of}
use Rattle.pack_rules.specs.Syntax.{Expr, Exprs, e_array, e_arrow, e_binary, e_call, e_cast, e_const, e_field, e_if, e_index, e_iterate, e_merge, e_pre, e_struct, e_tuple, e_unary, e_var, e_when, x_cons, x_nil}
use Rattle.pack_rules.specs.Write.{arrays, count_of, flag_byte}
use Rattle.activation_rules.specs.LastCalls.{CallKind, as_var, bad_last, call_kind, last_name, last_of, last_rest, last_shape, plain}
use Rattle.activation_rules.specs.MadeNames.{last_var}
use Rattle.activation_rules.specs.Sought.{Sought, found, note, sought, sought_in}
use Rattle.activation_rules.specs.RewriteLast.{rewrite_last, rewrite_lasts}
use Rattle.machines.proofs.RefusalNames.{Maybe, maybe-first}
use Rattle.runs.proofs.Letters.{Lettered, last-allowed}
use Rattle.runs.proofs.Proper.{ProperE, ProperX}

-- calls of `last`
unfoldable pub ProperKind : CallKind → Type 0
ProperKind plain = Unit {0}
ProperKind bad_last = Unit {0}
ProperKind (last_of v i) = Allowed v × Maybe ProperE i

var-proper : (e : Expr) → ProperE e → Maybe Allowed (as_var e)
unfolding as_var ProperE Maybe
var-proper (e_const l) h = tt
var-proper (e_var x) h = h
var-proper (e_unary o a) h = tt
var-proper (e_binary o a b) h = tt
var-proper (e_if a b c) h = tt
var-proper (e_pre a) h = tt
var-proper (e_arrow a b) h = tt
var-proper (e_call f xs) h = tt
var-proper (e_field a f) h = tt
var-proper (e_index a i) h = tt
var-proper (e_tuple xs) h = tt
var-proper (e_array xs) h = tt
var-proper (e_struct n fs xs) h = tt
var-proper (e_cast t a) h = tt
var-proper (e_when a x b) h = tt
var-proper (e_merge x a b) h = tt
var-proper (e_iterate k f i xs) h = tt

rest-proper : (x : Option Name) (xs : Exprs) → Maybe Allowed x → ProperX xs → ProperKind (last_rest x xs)
unfolding last_rest ProperKind ProperX Maybe
rest-proper none xs h k = tt
rest-proper (some v) x_nil h k = (h, tt)
rest-proper (some v) (x_cons i x_nil) h k = (h, k.0)
rest-proper (some v) (x_cons i (x_cons j xs)) h k = tt

args-proper : (xs : Exprs) → ProperX xs → ProperKind (last_shape xs)
unfolding last_shape ProperKind ProperX
args-proper x_nil k = tt
args-proper (x_cons e xs) k = rest-proper (as_var e) xs (var-proper e k.0) k.1

call-proper : (f : Name) (xs : Exprs) → ProperX xs → ProperKind (call_kind f xs)
unfolding call_kind ProperKind
call-proper f xs k = go (eq_name f last_name)
  where
    go : (b : Bool) → ProperKind (cond b (last_shape xs) plain)
    go true = args-proper xs k
    go false = tt

unlast-count : (n : Name) (xs : Exprs) → count_of (rewrite_lasts n xs) ≡ count_of xs
unfolding count_of rewrite_lasts
unlast-count n x_nil = refl
unlast-count n (x_cons a xs) = ap suc (unlast-count n xs)

unlast-arrays : (n : Name) (b : Bool) (xs : Exprs) → arrays b (rewrite_lasts n xs) ≡ arrays b xs
unfolding arrays rewrite_lasts
unlast-arrays n b x_nil = refl
unlast-arrays n true (x_cons a xs) = unlast-count n xs
unlast-arrays n false (x_cons a xs) = ap suc (unlast-count n xs)

unlast-call : (n f : Name) (xs : Exprs) (c : CallKind) → Lettered n → Allowed f → ProperKind c → ProperX (rewrite_lasts n xs) → ProperE (elim c [ plain ↦ e_call f (rewrite_lasts n xs) | bad_last ↦ e_call f (rewrite_lasts n xs) | last_of v i ↦ e_var (last_var n v) ])
unfolding ProperE ProperKind
unlast-call n f xs plain h k c a = (k, a)
unlast-call n f xs bad_last h k c a = (k, a)
unlast-call n f xs (last_of v i) h k c a = last-allowed n v h c.0.1

mutual
  unfolding rewrite_last rewrite_lasts ProperE ProperX

  pub unlast-proper : (n : Name) → Lettered n → (e : Expr) → ProperE e → ProperE (rewrite_last n e)
  unlast-proper n h (e_const l) o = o
  unlast-proper n h (e_var x) o = o
  unlast-proper n h (e_unary u a) o = unlast-proper n h a o
  unlast-proper n h (e_binary u a b) o = (unlast-proper n h a o.0, unlast-proper n h b o.1)
  unlast-proper n h (e_if a b c) o = (unlast-proper n h a o.0, unlast-proper n h b o.1, unlast-proper n h c o.2)
  unlast-proper n h (e_pre a) o = unlast-proper n h a o
  unlast-proper n h (e_arrow a b) o = (unlast-proper n h a o.0, unlast-proper n h b o.1)
  unlast-proper n h (e_call f xs) o = unlast-call n f xs (call_kind f xs) h o.0 (call-proper f xs o.1) (unlasts-proper n h xs o.1)
  unlast-proper n h (e_field a g) o = (o.0, unlast-proper n h a o.1)
  unlast-proper n h (e_index a b) o = (unlast-proper n h a o.0, unlast-proper n h b o.1)
  unlast-proper n h (e_tuple xs) o = unlasts-proper n h xs o
  unlast-proper n h (e_array xs) o = unlasts-proper n h xs o
  unlast-proper n h (e_struct m fs xs) o = (o.0, o.1, unlast-count n xs ∙ o.2, unlasts-proper n h xs o.3)
  unlast-proper n h (e_cast t a) o = (o.0, unlast-proper n h a o.1)
  unlast-proper n h (e_when a x b) o = (o.0, unlast-proper n h a o.1)
  unlast-proper n h (e_merge x a b) o = (o.0, unlast-proper n h a o.1, unlast-proper n h b o.2)
  unlast-proper n h (e_iterate k g b xs) o = (o.0, unlast-count n xs ∙ o.1 ∙ ap (λ (z : ℕ). flag_byte b + z) (sym (unlast-arrays n b xs)), unlasts-proper n h xs o.2)

  pub unlasts-proper : (n : Name) → Lettered n → (es : Exprs) → ProperX es → ProperX (rewrite_lasts n es)
  unlasts-proper n h x_nil o = tt
  unlasts-proper n h (x_cons a xs) o = (unlast-proper n h a o.0, unlasts-proper n h xs o.1)

-- what is sought
pub record ProperHolder (h : Sought) : Type 0 where
  pub var : Allowed h.var
  pub init : Maybe ProperE h.init

note-proper : (v : Name) (i : Option Expr) (hs : List Sought) → Allowed v → Maybe ProperE i → All ProperHolder hs → All ProperHolder (note v i hs)
unfolding note All
note-proper v i [] h k a = (record { var = h; init = k }, tt)
note-proper v i (x ∷ hs) h k a = go (eq_name x.var v) (note-proper v i hs h k a.1)
  where
    go : (b : Bool) → All ProperHolder (note v i hs) → All ProperHolder (cond b (record { var = x.var; init = first_of x.init i } ∷ hs) (x ∷ note v i hs))
    go true r = (record { var = a.0.var; init = maybe-first ProperE x.init i a.0.init k }, a.1)
    go false r = (a.0, r)

holders-call : (xs : Exprs) (c : CallKind) (hs : List Sought) → ProperKind c → All ProperHolder hs → All ProperHolder (sought_in xs hs) → All ProperHolder (elim c [ plain ↦ sought_in xs hs | bad_last ↦ sought_in xs hs | last_of v i ↦ note v i hs ])
unfolding ProperKind
holders-call xs plain hs c h a = a
holders-call xs bad_last hs c h a = a
holders-call xs (last_of v i) hs c h a = note-proper v i hs c.0 c.1 h

mutual
  unfolding sought sought_in ProperE ProperX

  pub holder-proper : (e : Expr) (r : List Sought) → ProperE e → All ProperHolder r → All ProperHolder (sought e r)
  holder-proper (e_const l) r o h = h
  holder-proper (e_var x) r o h = h
  holder-proper (e_unary u a) r o h = (holder-proper a r o h)
  holder-proper (e_binary u a b) r o h = (holder-proper b (sought a r) o.1 (holder-proper a r o.0 h))
  holder-proper (e_if a b c) r o h = (holder-proper c (sought b (sought a r)) o.2 (holder-proper b (sought a r) o.1 (holder-proper a r o.0 h)))
  holder-proper (e_pre a) r o h = (holder-proper a r o h)
  holder-proper (e_arrow a b) r o h = (holder-proper b (sought a r) o.1 (holder-proper a r o.0 h))
  holder-proper (e_call f xs) r o h = holders-call xs (call_kind f xs) r (call-proper f xs o.1) h (holders-proper xs r o.1 h)
  holder-proper (e_field a g) r o h = (holder-proper a r o.1 h)
  holder-proper (e_index a b) r o h = (holder-proper b (sought a r) o.1 (holder-proper a r o.0 h))
  holder-proper (e_tuple xs) r o h = holders-proper xs r o h
  holder-proper (e_array xs) r o h = holders-proper xs r o h
  holder-proper (e_struct m fs xs) r o h = holders-proper xs r o.3 h
  holder-proper (e_cast t a) r o h = (holder-proper a r o.1 h)
  holder-proper (e_when a x b) r o h = (holder-proper a r o.1 h)
  holder-proper (e_merge x a b) r o h = (holder-proper b (sought a r) o.2 (holder-proper a r o.1 h))
  holder-proper (e_iterate k g b xs) r o h = holders-proper xs r o.2 h

  pub holders-proper : (es : Exprs) (r : List Sought) → ProperX es → All ProperHolder r → All ProperHolder (sought_in es r)
  holders-proper x_nil r o h = h
  holders-proper (x_cons a xs) r o h = holders-proper xs (sought a r) o.1 (holder-proper a r o.0 h)

pub found-proper : (es : List Expr) (hs : List Sought) → All ProperE es → All ProperHolder hs → All ProperHolder (found es hs)
unfolding found All
found-proper [] hs a h = h
found-proper (e ∷ es) hs a h = found-proper es (sought e hs) a.1 (holder-proper e hs a.0 h)
