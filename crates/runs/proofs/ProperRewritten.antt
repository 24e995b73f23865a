-- Reads, renamed expressions and pinned constants of what may be written.
use Prim.Native.Nat.{ℕ, suc, ◌+◌}
use mathlib.Core.List.{List, [], ◌∷◌, ◌++◌}
use mathlib.Core.Bool.{Bool, true, false, cond}
use mathlib.Core.Path.{◌≡◌, refl, sym, ap, ◌∙◌}
use Rattle.wire.specs.Lists.{All}
use Rattle.pack_rules.specs.Legal.{Allowed}
use Rattle.pack_rules.specs.Names.{Name, member}
use Rattle.pack_rules.specs.Syntax.{Expr, Exprs, e_array, e_arrow, e_binary, e_call, e_cast, e_const, e_field, e_if, e_index, e_iterate, e_merge, e_pre, e_struct, e_tuple, e_unary, e_var, e_when, x_cons, x_nil}
use Rattle.pack_rules.specs.Write.{arrays, count_of, flag_byte}
use Rattle.pack.proofs.Tables.{all_snoc}
use Rattle.activation_rules.specs.Defines.{eqn, first_left}
use Rattle.activation_rules.specs.SampledConstants.{sample_constants, sample_constants_in}
use Rattle.activation_rules.specs.FreeVars.{free_vars, free_vars_in, keep_in, push}
use Rattle.activation_rules.specs.Renames.{rename, renames}
use Rattle.activation_rules.specs.Samples.{drop_in}
use Rattle.runs.proofs.Letters.{Lettered}
use Rattle.runs.proofs.Proper.{ProperE, ProperQ, ProperX}

-- reads
push-proper : (x : Name) (r : List Name) → Allowed x → All Allowed r → All Allowed (push x r)
unfolding push
push-proper x r h a = go (member x r)
  where
    go : (b : Bool) → All Allowed (cond b r (r ++ (x ∷ [])))
    go true = a
    go false = all_snoc Allowed r x a h

mutual
  unfolding free_vars free_vars_in ProperE ProperX

  pub read-proper : (e : Expr) (r : List Name) → ProperE e → All Allowed r → All Allowed (free_vars e r)
  read-proper (e_const l) r o h = h
  read-proper (e_var x) r o h = push-proper x r o h
  read-proper (e_unary u a) r o h = (read-proper a r o h)
  read-proper (e_binary u a b) r o h = (read-proper b (free_vars a r) o.1 (read-proper a r o.0 h))
  read-proper (e_if a b c) r o h = (read-proper c (free_vars b (free_vars a r)) o.2 (read-proper b (free_vars a r) o.1 (read-proper a r o.0 h)))
  read-proper (e_pre a) r o h = (read-proper a r o h)
  read-proper (e_arrow a b) r o h = (read-proper b (free_vars a r) o.1 (read-proper a r o.0 h))
  read-proper (e_call f xs) r o h = reads-proper xs r o.1 h
  read-proper (e_field a g) r o h = (read-proper a r o.1 h)
  read-proper (e_index a b) r o h = (read-proper b (free_vars a r) o.1 (read-proper a r o.0 h))
  read-proper (e_tuple xs) r o h = reads-proper xs r o h
  read-proper (e_array xs) r o h = reads-proper xs r o h
  read-proper (e_struct m fs xs) r o h = reads-proper xs r o.3 h
  read-proper (e_cast t a) r o h = (read-proper a r o.1 h)
  read-proper (e_when a x b) r o h = (read-proper a (push x r) o.1 (push-proper x r o.0 h))
  read-proper (e_merge x a b) r o h = (read-proper b (free_vars a (push x r)) o.2 (read-proper a (push x r) o.1 (push-proper x r o.0 h)))
  read-proper (e_iterate k g b xs) r o h = reads-proper xs r o.2 h

  pub reads-proper : (es : Exprs) (r : List Name) → ProperX es → All Allowed r → All Allowed (free_vars_in es r)
  reads-proper x_nil r o h = h
  reads-proper (x_cons a xs) r o h = reads-proper xs (free_vars a r) o.1 (read-proper a r o.0 h)

-- renaming, and constants sampled
rename-count : (f : Name → Name) (xs : Exprs) → count_of (renames f xs) ≡ count_of xs
unfolding count_of renames
rename-count f x_nil = refl
rename-count f (x_cons a xs) = ap suc (rename-count f xs)

rename-arrays : (f : Name → Name) (b : Bool) (xs : Exprs) → arrays b (renames f xs) ≡ arrays b xs
unfolding arrays renames
rename-arrays f b x_nil = refl
rename-arrays f true (x_cons a xs) = rename-count f xs
rename-arrays f false (x_cons a xs) = ap suc (rename-count f xs)

mutual
  unfolding rename renames ProperE ProperX

  pub rename-proper : (f : Name → Name) → ((x : Name) → Allowed x → Allowed (f x)) → (e : Expr) → ProperE e → ProperE (rename f e)
  rename-proper f h (e_const l) o = o
  rename-proper f h (e_var x) o = h x o
  rename-proper f h (e_unary u a) o = rename-proper f h a o
  rename-proper f h (e_binary u a b) o = (rename-proper f h a o.0, rename-proper f h b o.1)
  rename-proper f h (e_if a b c) o = (rename-proper f h a o.0, rename-proper f h b o.1, rename-proper f h c o.2)
  rename-proper f h (e_pre a) o = rename-proper f h a o
  rename-proper f h (e_arrow a b) o = (rename-proper f h a o.0, rename-proper f h b o.1)
  rename-proper f h (e_call g xs) o = (o.0, renames-proper f h xs o.1)
  rename-proper f h (e_field a g) o = (o.0, rename-proper f h a o.1)
  rename-proper f h (e_index a b) o = (rename-proper f h a o.0, rename-proper f h b o.1)
  rename-proper f h (e_tuple xs) o = renames-proper f h xs o
  rename-proper f h (e_array xs) o = renames-proper f h xs o
  rename-proper f h (e_struct m fs xs) o = (o.0, o.1, rename-count f xs ∙ o.2, renames-proper f h xs o.3)
  rename-proper f h (e_cast t a) o = (o.0, rename-proper f h a o.1)
  rename-proper f h (e_when a x b) o = (h x o.0, rename-proper f h a o.1)
  rename-proper f h (e_merge x a b) o = (h x o.0, rename-proper f h a o.1, rename-proper f h b o.2)
  rename-proper f h (e_iterate k g b xs) o = (o.0, rename-count f xs ∙ o.1 ∙ ap (λ (z : ℕ). flag_byte b + z) (sym (rename-arrays f b xs)), renames-proper f h xs o.2)

  pub renames-proper : (f : Name → Name) → ((x : Name) → Allowed x → Allowed (f x)) → (es : Exprs) → ProperX es → ProperX (renames f es)
  renames-proper f h x_nil o = tt
  renames-proper f h (x_cons a xs) o = (rename-proper f h a o.0, renames-proper f h xs o.1)

pin-count : (f : Expr → Expr) (xs : Exprs) → count_of (sample_constants_in f xs) ≡ count_of xs
unfolding count_of sample_constants_in
pin-count f x_nil = refl
pin-count f (x_cons a xs) = ap suc (pin-count f xs)

pin-arrays : (f : Expr → Expr) (b : Bool) (xs : Exprs) → arrays b (sample_constants_in f xs) ≡ arrays b xs
unfolding arrays sample_constants_in
pin-arrays f b x_nil = refl
pin-arrays f true (x_cons a xs) = pin-count f xs
pin-arrays f false (x_cons a xs) = ap suc (pin-count f xs)

mutual
  unfolding sample_constants sample_constants_in ProperE ProperX

  pub pin-proper : (f : Expr → Expr) → ((x : Expr) → ProperE x → ProperE (f x)) → (e : Expr) → ProperE e → ProperE (sample_constants f e)
  pin-proper f h (e_const l) o = h (e_const l) o
  pin-proper f h (e_var x) o = o
  pin-proper f h (e_unary u a) o = pin-proper f h a o
  pin-proper f h (e_binary u a b) o = (pin-proper f h a o.0, pin-proper f h b o.1)
  pin-proper f h (e_if a b c) o = (pin-proper f h a o.0, pin-proper f h b o.1, pin-proper f h c o.2)
  pin-proper f h (e_pre a) o = pin-proper f h a o
  pin-proper f h (e_arrow a b) o = (pin-proper f h a o.0, pin-proper f h b o.1)
  pin-proper f h (e_call g xs) o = (o.0, pins-proper f h xs o.1)
  pin-proper f h (e_field a g) o = (o.0, pin-proper f h a o.1)
  pin-proper f h (e_index a b) o = (pin-proper f h a o.0, pin-proper f h b o.1)
  pin-proper f h (e_tuple xs) o = pins-proper f h xs o
  pin-proper f h (e_array xs) o = pins-proper f h xs o
  pin-proper f h (e_struct m fs xs) o = (o.0, o.1, pin-count f xs ∙ o.2, pins-proper f h xs o.3)
  pin-proper f h (e_cast t a) o = (o.0, pin-proper f h a o.1)
  pin-proper f h (e_when a x b) o = (o.0, pin-proper f h a o.1)
  pin-proper f h (e_merge x a b) o = (o.0, pin-proper f h a o.1, pin-proper f h b o.2)
  pin-proper f h (e_iterate k g b xs) o = (o.0, pin-count f xs ∙ o.1 ∙ ap (λ (z : ℕ). flag_byte b + z) (sym (pin-arrays f b xs)), pins-proper f h xs o.2)

  pub pins-proper : (f : Expr → Expr) → ((x : Expr) → ProperE x → ProperE (f x)) → (es : Exprs) → ProperX es → ProperX (sample_constants_in f es)
  pins-proper f h x_nil o = tt
  pins-proper f h (x_cons a xs) o = (pin-proper f h a o.0, pins-proper f h xs o.1)

pub keep-proper : (vars xs : List Name) → All Allowed xs → All Allowed (keep_in vars xs)
unfolding keep_in All
keep-proper vars [] a = tt
keep-proper vars (x ∷ xs) a = go (member x vars) (keep-proper vars xs a.1)
  where
    go : (b : Bool) → All Allowed (keep_in vars xs) → All Allowed (cond b (x ∷ keep_in vars xs) (keep_in vars xs))
    go true r = (a.0, r)
    go false r = r

pub drop-proper : (old xs : List Name) → All Allowed xs → All Allowed (drop_in old xs)
unfolding drop_in All
drop-proper old [] a = tt
drop-proper old (x ∷ xs) a = go (member x old) (drop-proper old xs a.1)
  where
    go : (b : Bool) → All Allowed (drop_in old xs) → All Allowed (cond b (drop_in old xs) (x ∷ drop_in old xs))
    go true r = r
    go false r = (a.0, r)

pub head-lettered : (l : List Name) → All Allowed l → Lettered (first_left l)
unfolding first_left All
head-lettered [] a = tt
head-lettered (x ∷ l) a = a.0.1

pub eqn-proper : (x : Name) (e : Expr) → Allowed x → ProperE e → ProperQ (eqn x e)
unfolding eqn All
eqn-proper x e h k = record { lhs = (h, tt); rhs = k }
