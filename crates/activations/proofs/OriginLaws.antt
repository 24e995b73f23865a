-- Laws for the code that writes the origins of activations, step by step.
use Prim.Native.Nat.{ℕ, zero, suc, ◌+◌, ◌≤◌}
use native.Mathlib.Omega.{arith}
use mathlib.Core.List.{List, [], ◌∷◌, ◌++◌}
use mathlib.Core.Path.{◌≡◌, refl, sym, ap, ◌∙◌}
use lib.ListN.{get_or}
use Rattle.wire.specs.Bytes.{two}
use Rattle.wire.specs.Writer.{State, put, puts}
use Rattle.pack_rules.specs.Names.{Name}
use Rattle.pack.specs.Intern.{put_item, put_name, render}
use Rattle.pack_rules.specs.Write.{Item, nm, raw}
use Rattle.pack.proofs.Interns.{render-append}
use Rattle.wire.specs.declared.answer.Number.{Number}
use Rattle.machines.specs.AddedAt.{node_equations_in, total_t}
use Rattle.machines.specs.CheckedReads.{number_in}
use Rattle.machines.proofs.CheckedReadLaws.{on}
use Rattle.activations.specs.declared.parts.Act.{Act}
use Rattle.activation_rules.specs.Checks.{else_name}
use Rattle.activations.specs.Places.{act_at, branch_end}
use Rattle.activations.specs.ActTable.{goal_t, spot_t}
use Rattle.activations.specs.CountsAt.{adds_equations_t, equation_count_t}
use Rattle.activations.specs.OriginsAt.{branches_t, first_t, numbers_t, origin_t, scope_names_t}

pub numbers-put : (old : List ℕ) (o a f e : ℕ) (z : State) → puts (two (f + e)) (puts (two f) (puts (two a) (put 1 (puts (two o) z)))) ≡ render old (numbers_t o a f e) z
unfolding numbers_t render put_item puts
numbers-put old o a f e z = refl

module _ (ns : List Name) (s : List ℕ) where
  branches-step : (old : List ℕ) (n p : ℕ) (z : State) → render old (branches_t ns s (suc n) p) z ≡ render old (branches_t ns s n (branch_end ns s p)) (puts (two (number_in s p).value) z)
  unfolding branches_t render put_item
  branches-step old n p z = refl

  -- a loop over branches: one more, and the end
  pub branches-more : (old : List ℕ) (n p q : ℕ) (i : Number) (x y z : State) {rest : ℕ} → n ≡ suc rest → i ≡ number_in s p → x ≡ puts (two i.value) y → q ≡ branch_end ns s p
      → render old (branches_t ns s n p) y ≡ z → render old (branches_t ns s rest q) x ≡ z
  branches-more old n p q i x y z {rest} l a b c e =
      (λ j. render old (branches_t ns s rest (c j)) ((b ∙ ap (λ (u : Number). puts (two u.value) y) a) j))
      ∙ sym (branches-step old rest p y) ∙ ap (λ j. render old (branches_t ns s j p) y) (sym l) ∙ e

  pub branches-done : (old : List ℕ) (n p : ℕ) (y z : State) → n ≤ 0 → render old (branches_t ns s n p) y ≡ z → y ≡ z
  unfolding branches_t render
  branches-done old zero p y z l e = e
  branches-done old (suc n) p y z l e = absurd (omega arith)

  -- the names of all scopes
  pub scopes-put : (old : List ℕ) (a : Act) (f : Number) (y z : State) → f ≡ number_in s a.branches → y ≡ render old (branches_t ns s f.value f.next) (puts (two (f.value + 1)) z) → put_name old (101 ∷ 108 ∷ 115 ∷ 101 ∷ []) y ≡ render old (scope_names_t ns s a) z
  unfolding scope_names_t else_name render put_item
  scopes-put old a f y z e g =
      ap (put_name old (101 ∷ 108 ∷ 115 ∷ 101 ∷ [])) g
      ∙ sym (render-append old (branches_t ns s f.value f.next) (nm else_name ∷ []) (puts (two (f.value + 1)) z))
      ∙ ap (λ (is : List Item). render old is z) (on f (number_in s a.branches) (λ n p. raw (two (n + 1)) ∷ (branches_t ns s n p ++ (nm else_name ∷ []))) _ e refl)

  -- an origin
  module _ (nodes acts : List ℕ) (i : ℕ) where
    pub first-is : (k n q b : ℕ) (e : Number) → k ≡ goal_t acts i → n ≡ get_or nodes k 0 → q ≡ node_equations_in ns s n → e ≡ number_in s q → b ≡ total_t (adds_equations_t s acts k) i 0 → e.value + b ≡ first_t ns s nodes acts i
    unfolding first_t
    first-is k n q b e a c d f g =
        let h : e ≡ number_in s (node_equations_in ns s (get_or nodes (goal_t acts i) 0)) = f ∙ ap (number_in s) (d ∙ ap (node_equations_in ns s) (c ∙ ap (λ x. get_or nodes x 0) a)) in
        λ j. (h j).value + (g ∙ ap (λ x. total_t (adds_equations_t s acts x) i 0) a) j

    pub origin-is : (old : List ℕ) (at f m : ℕ) (a o : Number) (t : Act) (x y z : State) → at ≡ spot_t acts i → a ≡ number_in s at → o ≡ number_in s a.next → f ≡ first_t ns s nodes acts i → m ≡ equation_count_t s acts i → t ≡ act_at ns s (spot_t acts i)
        → y ≡ render old (numbers_t o.value a.value f m) z → x ≡ render old (scope_names_t ns s t) y → x ≡ render old (origin_t ns s nodes acts i) z
    unfolding origin_t
    origin-is old at f m a o t x y z e g h k l n b c =
        c ∙ (λ j. render old (scope_names_t ns s (n j)) ((b ∙ (λ w. render old (numbers_t o.value a.value (k w) (l w)) z)) j))
        ∙ sym (render-append old (numbers_t o.value a.value (first_t ns s nodes acts i) (equation_count_t s acts i)) (scope_names_t ns s (act_at ns s (spot_t acts i))) z)
        ∙ ap (λ (is : List Item). render old is z) (on a (number_in s (spot_t acts i)) _ _ (g ∙ ap (number_in s) e) (on o (number_in s a.next) (λ v q. numbers_t v a.value (first_t ns s nodes acts i) (equation_count_t s acts i) ++ scope_names_t ns s (act_at ns s (spot_t acts i))) _ h refl))
