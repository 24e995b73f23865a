-- Trees in preorder: what is written of them reads as them, and what reads as them was written so.
use Prim.Native.Nat.{ℕ, ◌+◌, ◌≤◌, ◌<◌, zero, suc}
use native.Mathlib.Omega.{arith}
use mathlib.Core.List.{List, [], ◌++◌, append_assoc}
use mathlib.Core.Path.{◌≡◌, refl, sym, ap, subst, ◌∙◌}
use lib.ListN.{length, drop, length-drop, length-append}
use Rattle.wire.specs.Answer.{Answer, bind, map_a, value}
use Rattle.wire.specs.Preorder.{Tree, Trees, cons, nil, node, trees}
use Rattle.wire.specs.Lists.{Bytes}
use Rattle.wire.proofs.Formats.{Back, Format, bind_to}
use Rattle.wire.proofs.Answers.{bind-value}

unfoldable mutual
  pub enc_tree : {H : Type 0} → (H → List ℕ) → Tree H → List ℕ
  enc_tree enc (node h ts) = enc h ++ enc_trees enc ts

  pub enc_trees : {H : Type 0} → (H → List ℕ) → Trees H → List ℕ
  enc_trees enc nil = []
  enc_trees enc (cons t ts) = enc_tree enc t ++ enc_trees enc ts

unfoldable pub count : {H : Type 0} → Trees H → ℕ
count nil = 0
count (cons t ts) = suc (count ts)

unfoldable mutual
  pub OkTree : {H : Type 0} → (H → Type 0) → (H → ℕ) → Tree H → Type 0
  OkTree ok arity (node h ts) = ok h × (count ts ≡ arity h) × OkTrees ok arity ts

  pub OkTrees : {H : Type 0} → (H → Type 0) → (H → ℕ) → Trees H → Type 0
  OkTrees ok arity nil = Unit {0}
  OkTrees ok arity (cons t ts) = OkTree ok arity t × OkTrees ok arity ts

pub record Was {H : Type 0} (enc : H → List ℕ) (ok : H → Type 0) (arity : H → ℕ) (s : List ℕ) (n at : ℕ) (ts : Trees H) (q : ℕ) : Type 0 where
  pub legal : OkTrees ok arity ts
  pub many : count ts ≡ n
  pub was : drop at s ≡ enc_trees enc ts ++ drop q s

-- bytes are used up: enough fuel stays enough
spent : (s : List ℕ) (at to f : ℕ) (xs post : List ℕ) → drop at s ≡ xs ++ post → drop to s ≡ post → length s ≤ at + f → length s ≤ to + f
spent s at to f xs post a b h = omega (arith, length-drop at s, length-drop to s, ap length a, ap length b, length-append xs post)

spent-more : (s : List ℕ) (at to f : ℕ) (xs post : List ℕ) → 0 < length xs → drop at s ≡ xs ++ post → drop to s ≡ post → length s ≤ at + suc f → length s ≤ to + f
spent-more s at to f xs post k a b h = omega (arith, length-drop at s, length-drop to s, ap length a, ap length b, length-append xs post)

not-past : (s : List ℕ) (at : ℕ) (xs post : List ℕ) → 0 < length xs → drop at s ≡ xs ++ post → length s ≤ at + 0 → ⊥
not-past s at xs post k a h = omega (arith, length-drop at s, ap length a, length-append xs post)

module _ {H : Type 0} (arity : H → ℕ) (head : List ℕ → ℕ → Answer H) (enc : H → List ℕ) (ok : H → Type 0) (F : Format head enc ok) (full : (h : H) → 0 < length (enc h)) (s : List ℕ) where
  pub trees-back : (f : ℕ) (ts : Trees H) (at : ℕ) (post : List ℕ) → length s ≤ at + f → OkTrees ok arity ts → drop at s ≡ enc_trees enc ts ++ post → Back (λ s at. trees arity head f s (count ts) at) s at ts post
  unfolding trees count enc_trees enc_tree OkTrees OkTree bind map_a
  trees-back zero nil at post l o e = record { to = at; reads = refl; rest = e }
  trees-back zero (cons (node h ks) ts) at post l o e =
      absurd (not-past s at (enc h) (enc_trees enc ks ++ (enc_trees enc ts ++ post)) (full h) (e ∙ simp append_assoc) l)
  trees-back (suc f) nil at post l o e = record { to = at; reads = refl; rest = e }
  trees-back (suc f) (cons (node h ks) ts) at post l o e =
      let g : drop at s ≡ enc h ++ (enc_trees enc ks ++ (enc_trees enc ts ++ post)) = e ∙ simp append_assoc in
      let b = F.back s at h (enc_trees enc ks ++ (enc_trees enc ts ++ post)) o.0.0 g in
      let m : length s ≤ b.to + f = spent-more s at b.to f (enc h) (enc_trees enc ks ++ (enc_trees enc ts ++ post)) (full h) g b.rest l in
      let u = trees-back f ks b.to (enc_trees enc ts ++ post) m o.0.2 b.rest in
      let w = trees-back f ts u.to post (spent s b.to u.to f (enc_trees enc ks) (enc_trees enc ts ++ post) b.rest u.rest m) o.1 u.rest in
      record { to = w.to; reads = bind_to (head s at) h b.to _ _ b.reads (bind_to (trees arity head f s (arity h) b.to) ks u.to _ _ (ap (λ (n : ℕ). trees arity head f s n b.to) (sym o.0.1) ∙ u.reads) (bind_to (trees arity head f s (count ts) u.to) ts w.to _ _ w.reads refl)); rest = w.rest }

  pub trees-was : Bytes s → (f n at : ℕ) (ts : Trees H) (q : ℕ) → trees arity head f s n at ≡ value ts q → Was enc ok arity s n at ts q
  unfolding trees count enc_trees enc_tree OkTrees OkTree
  trees-was by zero zero at ts q e =
      let g : nil ≡ ts = cc in let t : at ≡ q = cc in
      record { legal = subst (OkTrees ok arity) g tt; many = sym (ap count g); was = ap (λ (k : ℕ). drop k s) t ∙ ap (λ (x : Trees H). enc_trees enc x ++ drop q s) g }
  trees-was by zero (suc n) at ts q e = let z : ◌≡◌ {A = ℕ} 0 1 = cc in absurd (omega arith)
  trees-was by (suc f) zero at ts q e =
      let g : nil ≡ ts = cc in let t : at ≡ q = cc in
      record { legal = subst (OkTrees ok arity) g tt; many = sym (ap count g); was = ap (λ (k : ℕ). drop k s) t ∙ ap (λ (x : Trees H). enc_trees enc x ++ drop q s) g }
  trees-was by (suc f) (suc n) at ts q e =
      let b = bind-value (head s at) _ ts q e in
      let d = bind-value (trees arity head f s (arity b.0) b.1) _ ts q b.3 in
      let w = bind-value (trees arity head f s n d.1) _ ts q d.3 in
      let g : cons (node b.0 d.0) w.0 ≡ ts = cc w.3 in
      let t : w.1 ≡ q = cc w.3 in
      let u = trees-was by f (arity b.0) b.1 d.0 d.1 d.2 in
      let v = trees-was by f n d.1 w.0 w.1 w.2 in
      let whole : drop at s ≡ ((enc b.0 ++ enc_trees enc d.0) ++ enc_trees enc w.0) ++ drop w.1 s =
      F.was s by at b.0 b.1 b.2 ∙ ap (λ (l : List ℕ). enc b.0 ++ l) (u.was ∙ ap (λ (l : List ℕ). enc_trees enc d.0 ++ l) v.was) ∙ simp append_assoc in
      record { legal = subst (OkTrees ok arity) g ((F.legal s by at b.0 b.1 b.2, u.many, u.legal), v.legal); many = sym (ap count g) ∙ ap suc v.many; was = whole ∙ ap (λ (k : ℕ). ((enc b.0 ++ enc_trees enc d.0) ++ enc_trees enc w.0) ++ drop k s) t ∙ ap (λ (x : Trees H). enc_trees enc x ++ drop q s) g }

-- one tree
pub format_tree : {H : Type 0} (arity : H → ℕ) (head : List ℕ → ℕ → Answer H) (enc : H → List ℕ) (ok : H → Type 0) → Format head enc ok → ((h : H) → 0 < length (enc h)) → Format (λ s at. trees arity head (suc (length s)) s 1 at) (enc_trees enc) (λ ts. (count ts ≡ 1) × OkTrees ok arity ts)
format_tree {H} arity head enc ok F full = record { back = back; legal = legal; was = λ s by at x q e. (trees-was arity head enc ok F full s by (suc (length s)) 1 at x q e).was }
  where
    back : (s : List ℕ) (at : ℕ) (x : Trees H) (post : List ℕ) → (count x ≡ 1) × OkTrees ok arity x → drop at s ≡ enc_trees enc x ++ post → Back (λ s at. trees arity head (suc (length s)) s 1 at) s at x post
    back s at x post o e =
        let b = trees-back arity head enc ok F full s (suc (length s)) x at post (omega arith) o.1 e in
        record { to = b.to; reads = ap (λ (n : ℕ). trees arity head (suc (length s)) s n at) (sym o.0) ∙ b.reads; rest = b.rest }

    legal : (s : List ℕ) → Bytes s → (at : ℕ) (x : Trees H) (q : ℕ) → trees arity head (suc (length s)) s 1 at ≡ value x q → (count x ≡ 1) × OkTrees ok arity x
    legal s by at x q e = let w = trees-was arity head enc ok F full s by (suc (length s)) 1 at x q e in (w.many, w.legal)
