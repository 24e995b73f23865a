-- Each node moves the walk forward: passes end, and go on as the loop does.
use Prim.Native.Nat.{ℕ, zero, suc, ◌+◌, ◌-◌, ◌<◌, ◌≤◌}
use native.Mathlib.Omega.{arith}
use mathlib.Core.List.{List, [], ◌∷◌}
use mathlib.Core.Bool.{Bool, true, false, cond}
use mathlib.Core.Path.{◌≡◌, refl, sym, ap, subst, ◌∙◌}
use lib.ListN.{length, get_or}
use lib.Dec.{eqb, ltb}
use borrow.Author.Tests.{eqb-false, eqb-true, ltb-true}
use Rattle.pack.specs.declared.exprs.Node.{Node}
use Rattle.pack.specs.declared.exprs.Node.TheVariants as nd
use Rattle.activations.specs.declared.expr_node.ExprNode.{ExprNode}
use Rattle.activations.specs.declared.expr_node.ExprNode.TheVariants as mt
use Rattle.wire.specs.Answer.{Answer, deep, early, illegal, value}
use Rattle.pack_rules.specs.Names.{Name}
use Rattle.pack_rules.specs.Syntax.{Expr}
use Rattle.pack_rules.specs.Forms.{ExprHead, expr_head}
use Rattle.pack.specs.Nodes.{decoded, node_of}
use Rattle.pack_rules.specs.Read.{expr_in}
use Rattle.machines.specs.ResolvedIn.{end_of}
use Rattle.activations.specs.ExprNodes.{call_t, expr_node, expr_node_at, first_t, last_rest_t, last_shape_t, last_two_t, on_node, on_var, onward_t, open_t, plain_t}
use Rattle.activations.specs.Walks.{left_t, walk_t, walked}
use Rattle.activations.proofs.NodesRead.{expr-moves, head-moves}

-- nothing is met, or the next node stands further on, and inside
pub data Moved (s : List ℕ) (at : ℕ) : ExprNode → Type 0 where
  stays : Moved s at mt.Nothing
  goes : {m : ExprNode} → at < onward_t m → onward_t m ≤ length s → Moved s at m

module _ (ns : List Name) (s : List ℕ) where
  -- an initial value that ends past its start was read
  two-moves : (var p at : ℕ) → p < at → Moved s p (last_two_t var at (end_of (expr_in ns s at)))
  unfolding last_two_t onward_t end_of
  two-moves var p at l = go (expr_in ns s at) refl
    where
      test : (e : ℕ) (b : Bool) → ltb at e ≡ b → (at < e → e ≤ length s) → Moved s p (cond b (mt.Last var at e) mt.Nothing)
      test e true g k = let h = ltb-true at e g in let j : p < e = omega arith in goes j (k h)
      test e false g k = stays

      go : (a : Answer Expr) → expr_in ns s at ≡ a → Moved s p (cond (ltb at (end_of a)) (mt.Last var at (end_of a)) mt.Nothing)
      go (value e q) d = test q (ltb at q) refl (λ h. (expr-moves ns s at e q d).1)
      go early d = test 0 (ltb at 0) refl (λ h. omega arith)
      go (illegal o) d = test 0 (ltb at 0) refl (λ h. omega arith)
      go (deep o) d = test 0 (ltb at 0) refl (λ h. omega arith)

  rest-moves : (p var under first at : ℕ) → p < first → first ≤ length s → p < at → at ≤ length s → Moved s p (last_rest_t ns s var under first at)
  unfolding last_rest_t onward_t
  rest-moves p var under first at a b c d = go (eqb under 1) (eqb under 2)
    where
      go : (x y : Bool) → Moved s p (cond x (mt.Last var 0 at) (cond y (last_two_t var at (end_of (expr_in ns s at))) (mt.Bad under first)))
      go true y = goes c d
      go false true = two-moves var p at c
      go false false = goes a b

  first-moves : (p under at : ℕ) (n : Node) (q : ℕ) → p < at → at ≤ length s → at < q → q ≤ length s → Moved s p (first_t ns s under at n q)
  unfolding first_t on_var onward_t
  first-moves p under at (nd.Var i) q a b c d = rest-moves p i under at q a b (omega arith) d
  first-moves p under at (nd.Clocked i u) q a b c d = goes a b
  first-moves p under at (nd.Call f u) q a b c d = goes a b
  first-moves p under at (nd.Other u) q a b c d = goes a b

  -- what was read of a head, or nothing
  node-moves : (p at : ℕ) (k : Node → ℕ → ExprNode) → ((n : Node) (q : ℕ) → at < q → q ≤ length s → Moved s p (k n q)) → Moved s p (on_node (decoded (expr_head (length ns) s at)) k)
  unfolding on_node decoded
  node-moves p at k f = go (expr_head (length ns) s at) refl
    where
      go : (a : Answer ExprHead) → expr_head (length ns) s at ≡ a → Moved s p (on_node (decoded a) k)
      go (value h q) d = let m = head-moves ns s at h q d in f (node_of h) q m.0 m.1
      go early d = stays
      go (illegal o) d = stays
      go (deep o) d = stays

  shape-moves : (p under at : ℕ) → p < at → at ≤ length s → Moved s p (last_shape_t ns s under at)
  unfolding last_shape_t onward_t
  shape-moves p under at a b = go (eqb under 0)
    where
      go : (x : Bool) → Moved s p (cond x (mt.Bad under at) (on_node (decoded (expr_head (length ns) s at)) (first_t ns s under at)))
      go true = goes a b
      go false = node-moves p at (first_t ns s under at) (λ n q c d. first-moves p under at n q a b c d)

  module _ (last : ℕ) where
    each-moves : (p : ℕ) (n : Node) (q : ℕ) → p < q → q ≤ length s → Moved s p (expr_node ns s last p n q)
    unfolding expr_node call_t plain_t onward_t
    each-moves p (nd.Var i) q a b = goes a b
    each-moves p (nd.Clocked c u) q a b = goes a b
    each-moves p (nd.Call f u) q a b = go (eqb f last)
      where
        go : (x : Bool) → Moved s p (cond x (last_shape_t ns s u q) (mt.Other u q))
        go true = shape-moves p u q a b
        go false = goes a b
    each-moves p (nd.Other u) q a b = go (eqb (get_or s p 0) 0)
      where
        go : (x : Bool) → Moved s p (cond x (mt.Const q) (mt.Other u q))
        go true = goes a b
        go false = goes a b

    pub met-moves : (p : ℕ) → Moved s p (expr_node_at ns s last p)
    unfolding expr_node_at
    met-moves p = node-moves p p (expr_node ns s last p) (λ n q a b. each-moves p n q a b)

-- only the number of names matters to a loop's end
tables : (k : ℕ) → (ns : List Name) × (length ns ≡ k)
tables zero = ([], refl)
tables (suc k) = let r = tables k in ([] ∷ r.0, ap suc r.1)

-- a loop over nodes ends: what is left falls
falls : (ns : List Name) (s : List ℕ) (last n p k q : ℕ) (m : ExprNode) → 0 < n → m ≡ expr_node_at ns s last p → k ≡ open_t m n → q ≡ onward_t m → left_t s k q < left_t s n p
unfolding left_t open_t
falls ns s last n p k q m l e f g = go m (subst (Moved s p) (sym e) (met-moves ns s last p)) f g (eqb n 0) refl (eqb k 0) refl
  where
    go : (m : ExprNode) → Moved s p m → k ≡ open_t m n → q ≡ onward_t m → (x : Bool) → eqb n 0 ≡ x → (y : Bool) → eqb k 0 ≡ y → cond y 0 (suc (length s - q)) < cond x 0 (suc (length s - p))
    go m v f g true a y b = absurd (let z = eqb-true n 0 a in omega arith)
    go m v f g false a true b = omega arith
    go m stays f g false a false b = absurd (eqb-false k 0 b f)
    go m (goes h i) f g false a false b = omega arith

pub meets-fall : (s : List ℕ) (names last n p k q : ℕ) (m : ExprNode) → 0 < n → ((ns : List Name) → length ns ≡ names → m ≡ expr_node_at ns s last p) → k ≡ open_t m n → q ≡ onward_t m → left_t s k q < left_t s n p
meets-fall s names last n p k q m l e f g = let t = tables names in falls t.0 s last n p k q m l (e t.0 t.1) f g

module _ (ns : List Name) (s : List ℕ) (last : ℕ) {S : Type 0} (step : ExprNode → ℕ → S → S) where
  none-walks : (f p : ℕ) (z : S) → walk_t ns s last step f zero p z ≡ z
  unfolding walk_t
  none-walks zero p z = refl
  none-walks (suc f) p z = refl

  -- after a node the fuel matters only where the walk goes on
  after : (f g n p : ℕ) (m : ExprNode) (z : S) → Moved s p m → (p < onward_t m → onward_t m ≤ length s → walk_t ns s last step f (open_t m n) (onward_t m) z ≡ walk_t ns s last step g (open_t m n) (onward_t m) z) → walk_t ns s last step f (open_t m n) (onward_t m) z ≡ walk_t ns s last step g (open_t m n) (onward_t m) z
  unfolding open_t
  after f g n p m z stays k = none-walks f _ z ∙ sym (none-walks g _ z)
  after f g n p m z (goes a b) k = k a b

  -- fuel that is enough is as good as any
  fuel : (f g n p : ℕ) (z : S) → length s ≤ p + f → length s ≤ p + g → walk_t ns s last step (suc f) n p z ≡ walk_t ns s last step (suc g) n p z
  unfolding walk_t
  fuel zero g zero p z hf hg = refl
  fuel (suc f) g zero p z hf hg = refl
  fuel zero g (suc n) p z hf hg = after zero g (suc n) p (expr_node_at ns s last p) _ (met-moves ns s last p) (λ a b. absurd (omega arith))
  fuel (suc f) zero (suc n) p z hf hg = after (suc f) zero (suc n) p (expr_node_at ns s last p) _ (met-moves ns s last p) (λ a b. absurd (omega arith))
  fuel (suc f) (suc g) (suc n) p z hf hg = after (suc f) (suc g) (suc n) p (expr_node_at ns s last p) _ (met-moves ns s last p) (λ a b. fuel f g (open_t (expr_node_at ns s last p) (suc n)) (onward_t (expr_node_at ns s last p)) (step (expr_node_at ns s last p) p z) (omega arith) (omega arith))

  -- THE LOOP: a node, and the rest from the next on
  pub walked_on : (n p : ℕ) (z : S) → walked ns s last step (suc n) p z ≡ walked ns s last step (open_t (expr_node_at ns s last p) (suc n)) (onward_t (expr_node_at ns s last p)) (step (expr_node_at ns s last p) p z)
  unfolding walked walk_t
  walked_on n p z = after (length s) (suc (length s)) (suc n) p (expr_node_at ns s last p) _ (met-moves ns s last p) (λ a b. enough (length s) refl a b)
    where
      enough : (l : ℕ) → length s ≡ l → p < onward_t (expr_node_at ns s last p) → onward_t (expr_node_at ns s last p) ≤ length s → walk_t ns s last step l (open_t (expr_node_at ns s last p) (suc n)) (onward_t (expr_node_at ns s last p)) (step (expr_node_at ns s last p) p z) ≡ walk_t ns s last step (suc l) (open_t (expr_node_at ns s last p) (suc n)) (onward_t (expr_node_at ns s last p)) (step (expr_node_at ns s last p) p z)
      enough zero e a b = absurd (omega arith)
      enough (suc l) e a b = fuel l (suc l) (open_t (expr_node_at ns s last p) (suc n)) (onward_t (expr_node_at ns s last p)) (step (expr_node_at ns s last p) p z) (omega arith) (omega arith)

  pub walked_none : (p : ℕ) (z : S) → walked ns s last step zero p z ≡ z
  unfolding walked
  walked_none p z = none-walks (suc (length s)) p z

  -- the same as the code has it
  pub went : (n p : ℕ) (z : S) (m : ExprNode) (k q : ℕ) (y : S) (t : S) → 0 < n → m ≡ expr_node_at ns s last p → k ≡ open_t m n → q ≡ onward_t m → y ≡ step m p z → walked ns s last step n p z ≡ t → walked ns s last step k q y ≡ t
  went zero p z m k q y t l e f g h i = absurd (omega arith)
  went (suc n) p z m k q y t l e f g h i =
      ap (λ x. walked ns s last step x q y) (f ∙ ap (λ x. open_t x (suc n)) e)
      ∙ ap (λ x. walked ns s last step (open_t (expr_node_at ns s last p) (suc n)) x y) (g ∙ ap onward_t e)
      ∙ ap (walked ns s last step (open_t (expr_node_at ns s last p) (suc n)) (onward_t (expr_node_at ns s last p))) (h ∙ ap (λ x. step x p z) e)
      ∙ sym (walked_on n p z)
      ∙ i

  pub ended : (n p : ℕ) (z t : S) → n ≤ 0 → walked ns s last step n p z ≡ t → z ≡ t
  ended zero p z t l e = sym (walked_none p z) ∙ e
  ended (suc n) p z t l e = absurd (omega arith)
