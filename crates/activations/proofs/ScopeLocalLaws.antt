-- Laws for the code that goes over the locals of scopes, step by step.
use Prim.Native.Nat.{ℕ, zero, suc, ◌+◌, ◌<◌, ◌≤◌}
use native.Mathlib.Omega.{arith}
use mathlib.Core.List.{List, [], ◌∷◌}
use mathlib.Core.Bool.{Bool}
use mathlib.Core.Path.{◌≡◌, refl, sym, ap, ◌∙◌}
use lib.ListN.{length, get_or, drop, drop_of_length-le}
use lib.Seq.{drop-cons}
use Rattle.wire.specs.Writer.{State, puts, st}
use Rattle.pack_rules.specs.Names.{Name}
use Rattle.pack_rules.specs.Read.{expr_in}
use Rattle.wire.specs.declared.answer.Number.{Number}
use Rattle.machines.specs.ResolvedIn.{end_of}
use Rattle.machines.specs.CheckedReads.{number_in}
use Rattle.machines.specs.EmitAt.{pack_name}
use Rattle.machines.proofs.CheckedReadLaws.{on}
use Rattle.activation_rules.specs.MadeNames.{value_var}
use Rattle.activations.specs.Vars.{scope_at}
use Rattle.activations.specs.Places.{body_in, branch_end, equation_end, first_left_in, right_side_in}
use Rattle.activations.specs.TypeCodes.{typed_t, value_type_t}
use Rattle.activations.specs.NameIdsAt.{sample_name_t}
use Rattle.activations.specs.FreeVarsAt.{free_vars_at, free_vars_t, join_t}
use Rattle.activations.specs.LocalsAt.{Left, branch_locals_t, equation_local_t, equation_locals_t, local_t, named_t, new_local_t, new_locals_t, sample_local_t, scope_locals_t, value_local_t}
use Rattle.activations.proofs.LocalLaws.{named-is}

module _ (ns : List Name) (s old : List ℕ) (made : Bool) (a : Name) (offsets env outs : List ℕ) (n : ℕ) where
  pub sample-local-is : (k x names c : ℕ) (y : State) (u z : Left) → length ns ≡ names → c ≡ typed_t env outs names x → y ≡ puts (sample_name_t s offsets names a n k x) (st 255 0 [] []) → u ≡ local_t ns s old made y c z → u ≡ sample_local_t ns s old made a offsets env outs n k x z
  unfolding sample_local_t
  sample-local-is k x names c y u z e f g h =
      named-is ns s old made (sample_name_t s offsets names a n k x) y c u z g h
      ∙ λ i. named_t ns s old made (sample_name_t s offsets (sym e i) a n k x) ((f ∙ ap (λ t. typed_t env outs t x) (sym e)) i) z

  new-step : (k : ℕ) (sampled : List ℕ) (x : ℕ) (xs : List ℕ) (z : Left) → new_locals_t ns s old made a offsets env outs n k sampled (x ∷ xs) z ≡ new_locals_t ns s old made a offsets env outs n k sampled xs (new_local_t ns s old made a offsets env outs n k sampled x z)
  unfolding new_locals_t
  new-step k sampled x xs z = refl

  -- the loop over numbers: one more, and the end
  pub news-more : (k : ℕ) (sampled ids : List ℕ) (i x : ℕ) (u z t : Left) → i < length ids → x ≡ get_or ids i 0 → u ≡ new_local_t ns s old made a offsets env outs n k sampled x z → new_locals_t ns s old made a offsets env outs n k sampled (drop i ids) z ≡ t → new_locals_t ns s old made a offsets env outs n k sampled (drop (i + 1) ids) u ≡ t
  news-more k sampled ids i x u z t l e f g =
      let j : i + 1 ≡ suc i = omega arith in
      (λ y. new_locals_t ns s old made a offsets env outs n k sampled (drop (j y) ids) ((f ∙ ap (λ v. new_local_t ns s old made a offsets env outs n k sampled v z) e) y))
      ∙ sym (new-step k sampled (get_or ids i 0) (drop (suc i) ids) z)
      ∙ ap (λ (v : List ℕ). new_locals_t ns s old made a offsets env outs n k sampled v z) (sym (drop-cons ids i 0 l)) ∙ g

  pub news-end : (k : ℕ) (sampled ids : List ℕ) (i : ℕ) (z t : Left) → length ids ≤ i → new_locals_t ns s old made a offsets env outs n k sampled (drop i ids) z ≡ t → z ≡ t
  unfolding new_locals_t
  news-end k sampled ids i z t l g = ap (λ (v : List ℕ). new_locals_t ns s old made a offsets env outs n k sampled v z) (sym (drop_of_length-le ids l)) ∙ g

  pub value-local-is : (k p x names c : ℕ) (o : Name) (y : State) (u z : Left) → length ns ≡ names → x ≡ first_left_in s p → c ≡ value_type_t env outs names x → o ≡ pack_name s offsets x → y ≡ puts (value_var a (scope_at n k) o) (st 255 0 [] []) → u ≡ local_t ns s old made y c z → u ≡ value_local_t ns s old made a offsets env outs n k p z
  unfolding value_local_t
  value-local-is k p x names c o y u z e f g h d l =
      named-is ns s old made (value_var a (scope_at n k) o) y c u z d l
      ∙ λ i. named_t ns s old made (value_var a (scope_at n k) ((h ∙ ap (pack_name s offsets) f) i)) ((g ∙ λ j. value_type_t env outs (sym e j) (f j)) i) z

  module _ (last : ℕ) (lasts : List ℕ) (rows : ℕ) where
    -- the loop over equations
    pub equations-on : (k c p e q names : ℕ) (ids sampled after : List ℕ) (u z t : Left) → length ns ≡ names → {rest : ℕ} → c ≡ suc rest → e ≡ right_side_in ns s p → ids ≡ free_vars_t lasts rows env outs names ns s last e → q ≡ end_of (expr_in ns s e) → after ≡ join_t ids sampled → u ≡ equation_local_t ns s old made a offsets env outs n k ids sampled p z
        → equation_locals_t ns s old made a offsets env outs n last lasts rows k c p sampled z ≡ t → equation_locals_t ns s old made a offsets env outs n last lasts rows k rest q after u ≡ t
    unfolding equation_locals_t free_vars_at equation_end
    equations-on k zero p e q names ids sampled after u z t d l f g h i j r = absurd (omega arith)
    equations-on k (suc c) p e q names ids sampled after u z t d {rest} l f g h i j r =
        let w : rest ≡ c = omega arith in
        let v : ids ≡ free_vars_t lasts rows env outs (length ns) ns s last (right_side_in ns s p) = g ∙ λ y. free_vars_t lasts rows env outs (sym d y) ns s last (f y) in
        (λ y. equation_locals_t ns s old made a offsets env outs n last lasts rows k (w y) ((h ∙ ap (λ x. end_of (expr_in ns s x)) f) y) ((i ∙ ap (λ x. join_t x sampled) v) y) ((j ∙ ap (λ x. equation_local_t ns s old made a offsets env outs n k x sampled p z) v) y)) ∙ r

    pub equations-over : (k c p : ℕ) (sampled : List ℕ) (z t : Left) → c ≤ 0 → equation_locals_t ns s old made a offsets env outs n last lasts rows k c p sampled z ≡ t → z ≡ t
    unfolding equation_locals_t
    equations-over k zero p sampled z t l r = r
    equations-over k (suc c) p sampled z t l r = absurd (omega arith)

    pub scope-locals-are : (k at : ℕ) (f : Number) (u z : Left) → f ≡ number_in s at → u ≡ equation_locals_t ns s old made a offsets env outs n last lasts rows k f.value f.next [] z → u ≡ scope_locals_t ns s old made a offsets env outs n last lasts rows k at z
    unfolding scope_locals_t
    scope-locals-are k at f u z e g = on f _ _ _ e g

    -- the loop over branches
    pub branches-on : (k c p e q : ℕ) (u z t : Left) {rest : ℕ} → c ≡ suc rest → e ≡ body_in ns s p → q ≡ branch_end ns s p → u ≡ scope_locals_t ns s old made a offsets env outs n last lasts rows k e z → branch_locals_t ns s old made a offsets env outs n last lasts rows k c p z ≡ t → branch_locals_t ns s old made a offsets env outs n last lasts rows (k + 1) rest q u ≡ t
    unfolding branch_locals_t
    branches-on k zero p e q u z t l f g h r = absurd (omega arith)
    branches-on k (suc c) p e q u z t {rest} l f g h r =
        let w : rest ≡ c = omega arith in
        let v : k + 1 ≡ suc k = omega arith in
        (λ y. branch_locals_t ns s old made a offsets env outs n last lasts rows (v y) (w y) (g y) ((h ∙ ap (λ x. scope_locals_t ns s old made a offsets env outs n last lasts rows k x z) f) y)) ∙ r

    pub branches-over : (k c p : ℕ) (z t : Left) → c ≤ 0 → branch_locals_t ns s old made a offsets env outs n last lasts rows k c p z ≡ t → z ≡ t
    unfolding branch_locals_t
    branches-over k zero p z t l r = r
    branches-over k (suc c) p z t l r = absurd (omega arith)
