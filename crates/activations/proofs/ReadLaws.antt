-- Laws for the code that lists what an equation reads, step by step.
use Prim.Native.Nat.{ℕ, suc, ◌+◌, ◌%◌, ◌<◌, ◌≤◌}
use native.Mathlib.Numerals.{add-one}
use native.Mathlib.Omega.{arith}
use mathlib.Core.List.{List, [], ◌∷◌, ◌++◌}
use mathlib.Core.Bool.{Bool, true, false, cond, ◌||◌}
use mathlib.Core.Path.{◌≡◌, refl, sym, ap, ◌∙◌}
use lib.ListN.{length, get_or, set, take, drop, drop_of_length-le}
use lib.Seq.{drop-cons, length-take-le, take-suc-set}
use lib.Dec.{eqb, ltb}
use borrow.Author.Tests.{le-ltb, lt-ltb}
use Rattle.std.specs.List.{list_any}
use Rattle.pack_rules.specs.Names.{Name}
use Rattle.machines.specs.Fingerprints.{among}
use Rattle.activations.specs.declared.expr_node.ExprNode.{ExprNode}
use Rattle.activations.specs.ExprNodes.{expr_node_at, onward_t, open_t}
use Rattle.activations.specs.Walks.{walked}
use Rattle.activations.specs.FreeVarsAt.{free_vars_t, join_t, note_t, push_t, read_by, read_step}
use Rattle.activations.proofs.Moving.{ended, went}

-- one of a list, as an iterator finds it
pub among_is : (x : ℕ) (ids : List ℕ) → list_any (λ y. eqb y x) ids ≡ among x ids
unfolding among
among_is x [] = refl
among_is x (y ∷ ys) = ap (λ b. eqb y x || b) (among_is x ys)

-- one more: there already, with room, without
pub push-there : (t : List ℕ) (n x : ℕ) (b : Bool) → b ≡ among x (take n t) → b ≡ true → take n t ≡ push_t x (take n t)
unfolding push_t
push-there t n x b e f = sym (ap (λ (c : Bool). cond c (take n t) (cond (ltb (length (take n t)) 21848) (take n t ++ (x % 65536 ∷ [])) (take n t))) (sym e ∙ f))

pub push-room : (t u : List ℕ) (n x : ℕ) (b : Bool) → 21848 ≤ length t → b ≡ among x (take n t) → b ≡ false → n < 21848 → u ≡ set t n (x % 65536) → take (n + 1) u ≡ push_t x (take n t)
unfolding push_t
push-room t u n x b h e f l g =
    let k : ltb (length (take n t)) 21848 ≡ true = lt-ltb (length (take n t)) 21848 (let d = length-take-le n t (omega arith) in omega arith) in
    ap (λ (y : List ℕ). take (n + 1) y) g
    ∙ ap (λ (j : ℕ). take j (set t n (x % 65536))) (add-one n)
    ∙ take-suc-set t n (x % 65536) (omega arith)
    ∙ sym (ap (λ (c : Bool). cond c (take n t ++ (x % 65536 ∷ [])) (take n t)) k)
    ∙ sym (ap (λ (c : Bool). cond c (take n t) (cond (ltb (length (take n t)) 21848) (take n t ++ (x % 65536 ∷ [])) (take n t))) (sym e ∙ f))

pub push-full : (t : List ℕ) (n x : ℕ) (b : Bool) → 21848 ≤ length t → n ≤ 21848 → b ≡ among x (take n t) → b ≡ false → 21848 ≤ n → take n t ≡ push_t x (take n t)
unfolding push_t
push-full t n x b h m e f l =
    let k : ltb (length (take n t)) 21848 ≡ false = le-ltb (length (take n t)) 21848 (let d = length-take-le n t (omega arith) in omega arith) in
    sym (ap (λ (c : Bool). cond c (take n t ++ (x % 65536 ∷ [])) (take n t)) k)
    ∙ sym (ap (λ (c : Bool). cond c (take n t) (cond (ltb (length (take n t)) 21848) (take n t ++ (x % 65536 ∷ [])) (take n t))) (sym e ∙ f))

-- a list pushed in order: one more, and the end
pub join_more : (ids l m z : List ℕ) (i x : ℕ) → i < length ids → x ≡ get_or ids i 0 → m ≡ push_t x l → join_t (drop i ids) l ≡ z → join_t (drop (i + 1) ids) m ≡ z
unfolding join_t
join_more ids l m z i x h e f g =
    ap (λ (j : ℕ). join_t (drop j ids) m) (add-one i)
    ∙ ap (join_t (drop (suc i) ids)) (f ∙ ap (λ (y : ℕ). push_t y l) e)
    ∙ ap (λ (y : List ℕ). join_t y l) (sym (drop-cons ids i 0 h)) ∙ g

pub join-end : (ids l z : List ℕ) (i : ℕ) → length ids ≤ i → join_t (drop i ids) l ≡ z → l ≡ z
unfolding join_t
join-end ids l z i h g = ap (λ (y : List ℕ). join_t y l) (sym (drop_of_length-le ids h)) ∙ g

-- the pass over nodes: one more, and the end
module _ (lasts : List ℕ) (rows : ℕ) (env outs : List ℕ) (names : ℕ) (ns : List Name) (s : List ℕ) (last : ℕ) where
  pub reads_on : (n p : ℕ) (m : ExprNode) (x k q : ℕ) (l o t : List ℕ) → 0 < n → m ≡ expr_node_at ns s last p → x ≡ read_by lasts rows m → o ≡ note_t env outs names x l → k ≡ open_t m n → q ≡ onward_t m
      → walked ns s last (read_step lasts rows env outs names) n p l ≡ t → walked ns s last (read_step lasts rows env outs names) k q o ≡ t
  unfolding read_step
  reads_on n p m x k q l o t h e f g i j r = went ns s last (read_step lasts rows env outs names) n p l m k q o t h e i j (g ∙ ap (λ (y : ℕ). note_t env outs names y l) f) r

  pub reads-done : (n p at : ℕ) (l : List ℕ) → n ≤ 0 → walked ns s last (read_step lasts rows env outs names) n p l ≡ walked ns s last (read_step lasts rows env outs names) 1 at [] → l ≡ free_vars_t lasts rows env outs names ns s last at
  unfolding free_vars_t
  reads-done n p at l h e = ended ns s last (read_step lasts rows env outs names) n p l _ h e
