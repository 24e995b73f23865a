-- Laws of lengths: whether all names of a tree stay short is whether the longest does.
use Prim.Native.Nat.{ℕ, ◌+◌, ◌≤◌, max}
use native.Mathlib.Nat.{add_assoc}
use native.Mathlib.Omega.{arith}
use mathlib.Core.List.{List, [], ◌∷◌, ◌++◌}
use mathlib.Core.Bool.{Bool, true, false, ◌&&◌, and-true, and_assoc}
use mathlib.Core.Path.{◌≡◌, refl, sym, ap, ◌∙◌}
use lib.ListN.{length, length-append}
use lib.Dec.{leb}
use borrow.Author.Tests.{leb-true, leb-false, le-leb, lt-leb}
use Rattle.pack_rules.specs.Limits.{max_name}
use Rattle.pack_rules.specs.Names.{Name}
use Rattle.pack_rules.specs.Syntax.{Equation, Transition}
use Rattle.machine_rules.specs.Resolved.{ResolvedRegions, ResolvedStates, r_cons, r_nil, s_cons, s_nil}
use Rattle.machine_rules.specs.Resolve.{append_region, prefix_r, prefix_s, prefix_transitions, short_name, short_r, short_s, short_targets}
use Rattle.machines.specs.ResolveAgrees.{fit_r, fit_s}

pub short-max : (p a b : ℕ) → leb (p + max a b) max_name ≡ (leb (p + a) max_name && leb (p + b) max_name)
short-max p a b = go (leb (p + a) max_name) refl (leb (p + b) max_name) refl
  where
    go : (x : Bool) → leb (p + a) max_name ≡ x → (y : Bool) → leb (p + b) max_name ≡ y → leb (p + max a b) max_name ≡ (x && y)
    go true f true g = let h = leb-true (p + a) max_name f in let k = leb-true (p + b) max_name g in le-leb (p + max a b) max_name (omega arith)
    go true f false g = let k = leb-false (p + b) max_name g in lt-leb (p + max a b) max_name (omega arith)
    go false f y g = let h = leb-false (p + a) max_name f in lt-leb (p + max a b) max_name (omega arith)

pub absorb : (p a : ℕ) (t : Bool) → (leb (p + a) max_name && (leb (p + 0) max_name && t)) ≡ (leb (p + a) max_name && t)
absorb p a t = go (leb (p + a) max_name) refl
  where
    go : (x : Bool) → leb (p + a) max_name ≡ x → (x && (leb (p + 0) max_name && t)) ≡ (x && t)
    go true e = let h : p + a ≤ max_name = leb-true (p + a) max_name e in ap (λ y. y && t) (le-leb (p + 0) max_name (omega arith))
    go false e = refl

-- a prefix
pub targets-prefix : (p : ℕ) (r : Name) (ts : List Transition) → short_targets p (prefix_transitions r ts) ≡ short_targets (p + length r) ts
unfolding short_targets prefix_transitions short_name
targets-prefix p r [] = refl
targets-prefix p r (t ∷ ts) = rw (length-append r t.target, add_assoc p (length r) (length t.target), targets-prefix p r ts)

pub name-prefix : (p : ℕ) (r n : Name) → short_name p (r ++ n) ≡ short_name (p + length r) n
unfolding short_name
name-prefix p r n = rw (length-append r n, add_assoc p (length r) (length n))

mutual
  unfolding short_s short_r prefix_s prefix_r

  pub states-prefix : (p : ℕ) (r : Name) (ss : ResolvedStates) → short_s p (prefix_s r ss) ≡ short_s (p + length r) ss
  states-prefix p r s_nil = refl
  states-prefix p r (s_cons s es ts rs rest) = rw (name-prefix p r s, targets-prefix p r ts, regions-prefix p r rs, states-prefix p r rest)

  pub regions-prefix : (p : ℕ) (r : Name) (rs : ResolvedRegions) → short_r p (prefix_r r rs) ≡ short_r (p + length r) rs
  regions-prefix p r r_nil = refl
  regions-prefix p r (r_cons i h ss rest) = rw (name-prefix p r i, states-prefix p r ss, regions-prefix p r rest)

pub short-snoc : (p : ℕ) (rs : ResolvedRegions) (i : Name) (ss : ResolvedStates) → short_r p (append_region rs i ss) ≡ (short_r p rs && (short_name p i && short_s p ss))
unfolding short_r append_region
short-snoc p r_nil i ss = ap (λ y. short_name p i && y) (and-true (short_s p ss))
short-snoc p (r_cons j h st rest) i ss = rw (short-snoc p rest i ss, and_assoc (short_name p j) (short_s p st && short_r p rest) (short_name p i && short_s p ss), and_assoc (short_s p st) (short_r p rest) (short_name p i && short_s p ss))

pub region-law : (p a l w b : ℕ) (i : Name) (h : Bool) (ss : ResolvedStates) (vs : ResolvedRegions) → l ≡ length i → fit_s 0 p ss ≡ leb (p + w) max_name → fit_r (max a (max l w)) p vs ≡ leb (p + b) max_name → fit_r a p (r_cons i h ss vs) ≡ leb (p + b) max_name
unfolding fit_s fit_r short_r short_name
region-law p a l w b i h ss vs e f g =
    shuffle (leb (p + a) max_name) (leb (p + length i) max_name) (short_s p ss) (short_r p vs)
    ∙ ap (λ y. (leb (p + a) max_name && (leb (p + y) max_name && short_s p ss)) && short_r p vs) (sym e)
    ∙ ap (λ y. (leb (p + a) max_name && y) && short_r p vs) (sym (absorb p l (short_s p ss)))
    ∙ ap (λ y. (leb (p + a) max_name && (leb (p + l) max_name && y)) && short_r p vs) f
    ∙ ap (λ y. (leb (p + a) max_name && y) && short_r p vs) (sym (short-max p l w))
    ∙ ap (λ y. y && short_r p vs) (sym (short-max p a (max l w)))
    ∙ g
  where
    shuffle : (x y z t : Bool) → (x && (y && (z && t))) ≡ ((x && (y && z)) && t)
    shuffle false y z t = refl
    shuffle true false z t = refl
    shuffle true true z t = refl

pub state-law : (p a h b d : ℕ) (nm : Name) (es : List Equation) (ts : List Transition) (us : ResolvedRegions) (vs : ResolvedStates) → (short_name p nm && short_targets p ts) ≡ leb (p + h) max_name → fit_r h p us ≡ leb (p + b) max_name → fit_s (max a b) p vs ≡ leb (p + d) max_name
    → fit_s a p (s_cons nm es ts us vs) ≡ leb (p + d) max_name
unfolding fit_s fit_r short_s
state-law p a h b d nm es ts us vs e f g =
    shuffle (leb (p + a) max_name) (short_name p nm) (short_targets p ts) (short_r p us) (short_s p vs)
    ∙ ap (λ y. (leb (p + a) max_name && (y && short_r p us)) && short_s p vs) e
    ∙ ap (λ y. (leb (p + a) max_name && y) && short_s p vs) f
    ∙ ap (λ y. y && short_s p vs) (sym (short-max p a b)) ∙ g
  where
    shuffle : (x n t r v : Bool) → (x && (n && (t && (r && v)))) ≡ ((x && ((n && t) && r)) && v)
    shuffle false n t r v = refl
    shuffle true false t r v = refl
    shuffle true true false r v = refl
    shuffle true true true r v = refl
