-- Laws of merges: by the number of branches they are those of the definition, and as the code writes them.
use Prim.Native.Nat.{ℕ, zero, suc, ◌+◌, ◌<◌, ◌≤◌}
use native.Mathlib.Numerals.{add-one}
use native.Mathlib.Omega.{arith}
use mathlib.Core.List.{List, [], ◌∷◌, ◌++◌}
use mathlib.Core.Path.{◌≡◌, refl, sym, ap, ◌∙◌}
use lib.ListN.{length}
use borrow.Author.Tests.{le-ltb, lt-ltb}
use Rattle.wire.specs.Bytes.{two}
use Rattle.wire.specs.Writer.{State, put, puts}
use Rattle.pack_rules.specs.Names.{Name}
use Rattle.pack_rules.specs.Syntax.{Expr, e_merge, e_var}
use Rattle.pack_rules.specs.Read.{port_in}
use Rattle.pack_rules.specs.Write.{Item, expr_items, nm, raw}
use Rattle.pack.specs.Intern.{put_item, put_name, render}
use Rattle.pack.proofs.Interns.{render-append}
use Rattle.wire.specs.declared.answer.Number.{Number}
use Rattle.machines.specs.ResolvedIn.{end_of}
use Rattle.machines.specs.CheckedReads.{number_in}
use Rattle.machines.specs.EmitAt.{pack_name}
use Rattle.machines.proofs.CheckedReadLaws.{on}
use Rattle.activations.specs.declared.made_names.Var.TheVariants as vr
use Rattle.activation_rules.specs.MadeNames.{Scope, branch, clock_var, else_scope, value_var}
use Rattle.activations.specs.Vars.{branch_var, scope_at}
use Rattle.activation_rules.specs.Merges.{merge_from}
use Rattle.activations.specs.ByNumber.{merge_head_items, merge_items, merged_from, merges_t, port_merges_t}

merged-number : (a o : Name) (k : ℕ) (cs : List Expr) → merge_from a o k cs ≡ merged_from a o k (length cs)
unfolding merge_from merged_from
merged-number a o k [] = refl
merged-number a o k (c ∷ cs) = ap (e_merge (clock_var a k) (e_var (value_var a (branch k) o))) (merged-number a o (suc k) cs)

-- the scopes of branches, and the else scope after them
pub scope-branch : (n k : ℕ) → k < n → scope_at n k ≡ branch k
unfolding scope_at
scope-branch n k l = rw (lt-ltb k n l)

pub scope-else : (n k : ℕ) → n ≤ k → scope_at n k ≡ else_scope
unfolding scope_at
scope-else n k l = rw (le-ltb k n l)

module _ (old : List ℕ) (a o : Name) where
  pub turn-term : (n k : ℕ) (s : State) → render old (expr_items (e_var (value_var a (scope_at n k) o))) (put_name old (branch_var vr.Clock a k) (put 15 s)) ≡ render old (merge_head_items a o n k) s
  unfolding merge_head_items branch_var render put_item puts
  turn-term n k s = refl

  turn-branch : (n k : ℕ) → k < n → merge_head_items a o n k ≡ raw (15 ∷ []) ∷ nm (clock_var a k) ∷ expr_items (e_var (value_var a (branch k) o))
  unfolding merge_head_items
  turn-branch n k l = ap (λ (c : Scope). raw (15 ∷ []) ∷ nm (clock_var a k) ∷ expr_items (e_var (value_var a c o))) (scope-branch n k l)

  merge-items : (x : Name) (d e : Expr) → expr_items (e_merge x d e) ≡ (raw (15 ∷ []) ∷ nm x ∷ expr_items d) ++ expr_items e
  unfolding expr_items
  merge-items x d e = refl

  merged-step : (n k m : ℕ) (s : State) → k < n → render old (expr_items (merged_from a o k (suc m))) s ≡ render old (expr_items (merged_from a o (suc k) m)) (render old (merge_head_items a o n k) s)
  unfolding merged_from
  merged-step n k m s l =
      ap (λ (is : List Item). render old is s) (merge-items (clock_var a k) (e_var (value_var a (branch k) o)) (merged_from a o (suc k) m) ∙ ap (λ (is : List Item). is ++ expr_items (merged_from a o (suc k) m)) (sym (turn-branch n k l)))
      ∙ render-append old (merge_head_items a o n k) (expr_items (merged_from a o (suc k) m)) s

  -- the loop over branches: one more, and the end
  pub merged-more : (n k j : ℕ) (x s z : State) {rest : ℕ} → j ≡ suc rest → k < n → x ≡ render old (merge_head_items a o n k) s → render old (expr_items (merged_from a o k j)) s ≡ z → render old (expr_items (merged_from a o (k + 1) rest)) x ≡ z
  merged-more n k j x s z {rest} l b e h =
      (λ y. render old (expr_items (merged_from a o (add-one k y) rest)) (e y))
      ∙ sym (merged-step n k rest s b) ∙ ap (λ y. render old (expr_items (merged_from a o k y)) s) (sym l) ∙ h

  pub merged-none : (n k j : ℕ) (s z : State) → j ≤ 0 → render old (expr_items (merged_from a o k j)) s ≡ z → render old (expr_items (e_var (value_var a (scope_at n n) o))) s ≡ z
  unfolding merged_from
  merged-none n k zero s z l h = ap (λ (c : Scope). render old (expr_items (e_var (value_var a c o))) s) (scope-else n n (omega arith)) ∙ h
  merged-none n k (suc j) s z l h = absurd (omega arith)

  pub merged-of : (n : ℕ) (cs : List Expr) (s : State) → length cs ≡ n → render old (expr_items (merged_from a o 0 n)) s ≡ render old (expr_items (merge_from a o 0 cs)) s
  merged-of n cs s e = ap (λ (d : Expr). render old (expr_items d) s) (sym (merged-number a o 0 cs ∙ ap (merged_from a o 0) e))

  pub merge-term : (x : ℕ) (cs : List Expr) (s : State) → render old (expr_items (merge_from a o 0 cs)) (puts (two x) (puts (two 1) s)) ≡ render old (merge_items a x o cs) s
  unfolding merge_items render put_item
  merge-term x cs s = refl

module _ (old : List ℕ) (ns : List Name) (sb offsets : List ℕ) (a : Name) (cs : List Expr) where
  merges-step : (n p : ℕ) (s : State) → render old (merges_t ns sb offsets a cs (suc n) p) s ≡ render old (merges_t ns sb offsets a cs n (end_of (port_in ns sb p))) (render old (merge_items a (number_in sb p).value (pack_name sb offsets (number_in sb p).value) cs) s)
  unfolding merges_t
  merges-step n p s = render-append old (merge_items a (number_in sb p).value (pack_name sb offsets (number_in sb p).value) cs) (merges_t ns sb offsets a cs n (end_of (port_in ns sb p))) s

  -- the loop over outputs: one more, and the end
  pub merges-more : (n p r : ℕ) (x : Number) (y : Name) (w s z : State) {rest : ℕ} → n ≡ suc rest → x ≡ number_in sb p → y ≡ pack_name sb offsets x.value → w ≡ render old (merge_items a x.value y cs) s → r ≡ end_of (port_in ns sb p) → render old (merges_t ns sb offsets a cs n p) s ≡ z → render old (merges_t ns sb offsets a cs rest r) w ≡ z
  merges-more n p r x y w s z {rest} l e f b c h =
      (λ i. render old (merges_t ns sb offsets a cs rest (c i)) ((b ∙ ap (λ (u : Name). render old (merge_items a x.value u cs) s) f ∙ ap (λ (u : Number). render old (merge_items a u.value (pack_name sb offsets u.value) cs) s) e) i))
      ∙ sym (merges-step rest p s) ∙ ap (λ i. render old (merges_t ns sb offsets a cs i p) s) (sym l) ∙ h

  pub merges-none : (n p : ℕ) (s z : State) → n ≤ 0 → render old (merges_t ns sb offsets a cs n p) s ≡ z → s ≡ z
  unfolding merges_t render
  merges-none zero p s z l h = h
  merges-none (suc n) p s z l h = absurd (omega arith)

  pub merges-is : (at : ℕ) (c : Number) (s : State) → c ≡ number_in sb at → render old (merges_t ns sb offsets a cs c.value c.next) s ≡ render old (port_merges_t ns sb offsets a cs at) s
  unfolding port_merges_t
  merges-is at c s e = ap (λ (is : List Item). render old is s) (on c (number_in sb at) (λ n p. merges_t ns sb offsets a cs n p) _ e refl)
