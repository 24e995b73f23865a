-- Laws for loops over the nodes of an expression: those that look for a node, and those that write.
use Prim.Native.Nat.{ℕ, zero, suc, ◌-◌, ◌<◌}
use native.Mathlib.Omega.{arith}
use mathlib.Core.List.{List}
use mathlib.Core.Bool.{Bool, true, false, cond}
use mathlib.Core.Path.{◌≡◌, refl, sym, ap, ◌∙◌}
use lib.ListN.{length}
use lib.Dec.{eqb}
use borrow.Author.Tests.{ne_eqb}
use Rattle.wire.specs.declared.writer.Writer.{Writer}
use Rattle.wire.specs.Writer.{State, full, state_of}
use Rattle.pack_rules.specs.Names.{Name}
use Rattle.pack_rules.specs.Write.{Item}
use Rattle.pack.specs.Intern.{render}
use Rattle.pack.proofs.Written.{render-full}
use Rattle.activations.specs.declared.expr_node.ExprNode.{ExprNode}
use Rattle.activations.specs.ExprNodes.{expr_node_at, onward_t, open_t}
use Rattle.activations.specs.Walks.{left_t, or_step, walk_t, walked, write_step}
use Rattle.activations.proofs.Moving.{went}
use Rattle.machines.proofs.RowLaws.{full_is}

-- a loop that looks for a node: found, one more, and the end
module _ (ns : List Name) (s : List ℕ) (last : ℕ) (f : ExprNode → Bool) where
  found-stays : (u n p : ℕ) → walk_t ns s last (or_step f) u n p true ≡ true
  unfolding walk_t or_step
  found-stays zero zero p = refl
  found-stays zero (suc n) p = refl
  found-stays (suc u) zero p = refl
  found-stays (suc u) (suc n) p = found-stays u (open_t (expr_node_at ns s last p) (suc n)) (onward_t (expr_node_at ns s last p))

  pub node-found : (n p : ℕ) (m : ExprNode) (b t : Bool) → 0 < n → m ≡ expr_node_at ns s last p → b ≡ f m → b ≡ true → walked ns s last (or_step f) n p false ≡ t → true ≡ t
  unfolding or_step walked
  node-found n p m b t l e g h r =
      sym (found-stays (suc (length s)) (open_t m n) (onward_t m)) ∙ went ns s last (or_step f) n p false m (open_t m n) (onward_t m) true t l e refl refl (sym h ∙ g) r

  pub node-on : (n p : ℕ) (m : ExprNode) (b : Bool) (k q : ℕ) (t : Bool) → 0 < n → m ≡ expr_node_at ns s last p → b ≡ f m → b ≡ false → k ≡ open_t m n → q ≡ onward_t m → walked ns s last (or_step f) n p false ≡ t → walked ns s last (or_step f) k q false ≡ t
  unfolding or_step
  node-on n p m b k q t l e g h i j r = went ns s last (or_step f) n p false m k q false t l e i j (sym h ∙ g) r

-- a loop that writes: one more, and the end
module _ (ns : List Name) (s : List ℕ) (last : ℕ) (old : List ℕ) (items : ExprNode → ℕ → List Item) where
  -- a full writer stays full
  full-stays : (u n p : ℕ) → walk_t ns s last (write_step old items) u n p full ≡ full
  unfolding walk_t write_step
  full-stays zero zero p = refl
  full-stays zero (suc n) p = refl
  full-stays (suc u) zero p = refl
  full-stays (suc u) (suc n) p =
      ap (walk_t ns s last (write_step old items) u (open_t (expr_node_at ns s last p) (suc n)) (onward_t (expr_node_at ns s last p))) (render-full old (items (expr_node_at ns s last p) p))
      ∙ full-stays u (open_t (expr_node_at ns s last p) (suc n)) (onward_t (expr_node_at ns s last p))

  pub full-walked : (n p : ℕ) → walked ns s last (write_step old items) n p full ≡ full
  unfolding walked
  full-walked n p = full-stays (suc (length s)) n p

  left-walked : (o d : List ℕ) (w : Writer) (k j q : ℕ) → j ≡ cond w.full 0 k → walked ns s last (write_step old items) j q (state_of o d w) ≡ walked ns s last (write_step old items) k q (state_of o d w)
  left-walked o d w k j q e = go w.full refl e
    where
      go : (b : Bool) → w.full ≡ b → j ≡ cond b 0 k → walked ns s last (write_step old items) j q (state_of o d w) ≡ walked ns s last (write_step old items) k q (state_of o d w)
      go true f g =
          ap (walked ns s last (write_step old items) j q) (full_is o d w f) ∙ full-walked j q
          ∙ sym (ap (walked ns s last (write_step old items) k q) (full_is o d w f) ∙ full-walked k q)
      go false f g = ap (λ y. walked ns s last (write_step old items) y q (state_of o d w)) g

  step-as : (m : ExprNode) (p : ℕ) (y z : State) → y ≡ render old (items m p) z → y ≡ write_step old items m p z
  unfolding write_step
  step-as m p y z e = e

  pub write-on : (n p : ℕ) (m : ExprNode) (k j q : ℕ) (o d : List ℕ) (w : Writer) (z t : State) → 0 < n → m ≡ expr_node_at ns s last p → state_of o d w ≡ render old (items m p) z → k ≡ open_t m n → j ≡ cond w.full 0 k → q ≡ onward_t m
      → walked ns s last (write_step old items) n p z ≡ t → walked ns s last (write_step old items) j q (state_of o d w) ≡ t
  write-on n p m k j q o d w z t l e f g h i r =
      left-walked o d w k j q h
      ∙ went ns s last (write_step old items) n p z m k q (state_of o d w) t l e g i (step-as m p (state_of o d w) z f) r

-- a pass that stops where the writer is full falls no less
pub left-falls : (s : List ℕ) (w : Writer) (n k j p q : ℕ) → 0 < n → j ≡ cond w.full 0 k → left_t s k q < left_t s n p → left_t s j q < left_t s n p
unfolding left_t
left-falls s w n k j p q l e f = go w.full e
  where
    go : (b : Bool) → j ≡ cond b 0 k → cond (eqb j 0) 0 (suc (length s - q)) < cond (eqb n 0) 0 (suc (length s - p))
    go true g = rw (g, ne_eqb n 0 (λ z. omega arith)) (omega arith)
    go false g = rw g f
