-- Laws for the code that goes over the locals of an activation, step by step.
use Prim.Native.Nat.{ℕ, zero, suc, ◌+◌, ◌<◌, ◌≤◌}
use native.Mathlib.Omega.{arith}
use mathlib.Core.List.{List, [], ◌∷◌}
use mathlib.Core.Bool.{Bool, true}
use mathlib.Core.Path.{◌≡◌, sym, ap, ◌∙◌}
use lib.ListN.{get_or}
use Rattle.wire.specs.declared.writer.Writer.{Writer}
use Rattle.wire.specs.Writer.{State, full, puts, st, state_of}
use Rattle.pack_rules.specs.Names.{Name}
use Rattle.pack.specs.Intern.{put_built, put_item, put_name, render}
use Rattle.wire.proofs.Writers.{puts-full}
use Rattle.pack_rules.specs.Write.{nm}
use Rattle.pack.proofs.Written.{render-full}
use Rattle.machines.specs.EmitAt.{pack_name}
use Rattle.activations.specs.declared.made_names.Var.{Var}
use Rattle.activations.specs.declared.made_names.Var.TheVariants as vr
use Rattle.activation_rules.specs.MadeNames.{last_var}
use Rattle.activations.specs.Vars.{branch_var}
use Rattle.activations.specs.LocalsAt.{Left, branch_local_t, built, clock_locals_t, flag_locals_t, holder_local_t, holder_locals_t, local_t, named_t}

-- a full writer stays full
name-full : (old n : List ℕ) → put_name old n full ≡ full
unfolding render put_item
name-full old n = render-full old (nm n ∷ [])

pub port-full : (old : List ℕ) (x : State) (bs o m : List ℕ) (w : Writer) → w.full ≡ true → state_of o m w ≡ puts bs (put_built old x (state_of o m w))
unfolding state_of put_built
port-full old full bs o m w e = rw e (sym (puts-full bs))
port-full old (st co cm xs md) bs o m w e = rw e (sym (ap (puts bs) (name-full old xs) ∙ puts-full bs))

pub port-put : (bs : List ℕ) (x y z : State) → y ≡ z → x ≡ puts bs y → x ≡ puts bs z
port-put bs x y z e f = f ∙ ap (puts bs) e

module _ (ns : List Name) (s old : List ℕ) (made : Bool) where
  -- the local of a name that is known
  pub named-is : (y : Name) (x : State) (c : ℕ) (u z : Left) → x ≡ puts y (st 255 0 [] []) → u ≡ local_t ns s old made x c z → u ≡ named_t ns s old made y c z
  unfolding named_t built
  named-is y x c u z e f = f ∙ ap (λ (v : State). local_t ns s old made v c z) e

  pub branch-local-is : (a : Name) (v : Var) (k : ℕ) (x : State) (u z : Left) → x ≡ puts (branch_var v a k) (st 255 0 [] []) → u ≡ local_t ns s old made x 1 z → u ≡ branch_local_t ns s old made a v k z
  unfolding branch_local_t
  branch-local-is a v k x u z e f = named-is (branch_var v a k) x 1 u z e f

  pub holder-local-is : (a : Name) (offsets lasts env : List ℕ) (h i j c : ℕ) (v : Name) (x : State) (u z : Left) → i ≡ get_or lasts h 0 → v ≡ pack_name s offsets i → j ≡ get_or lasts (h + 2) 0 → c ≡ get_or env j 0 → x ≡ puts (last_var a v) (st 255 0 [] []) → u ≡ local_t ns s old made x c z → u ≡ holder_local_t ns s old made a offsets lasts env h z
  unfolding holder_local_t
  holder-local-is a offsets lasts env h i j c v x u z e f g d k l =
      named-is (last_var a v) x c u z k l
      ∙ λ y. named_t ns s old made (last_var a ((f ∙ ap (pack_name s offsets) e) y)) ((d ∙ ap (λ t. get_or env t 0) g) y) z

  module _ (a : Name) where
    -- the loop over flags: a pair more, the last one, none
    pub flags-pair : (k m : ℕ) (x y z t : Left) {rest : ℕ} → m ≡ suc rest → 0 < rest → x ≡ branch_local_t ns s old made a vr.Flag k z → y ≡ branch_local_t ns s old made a vr.Untaken k x → flag_locals_t ns s old made a k m z ≡ t → flag_locals_t ns s old made a (k + 1) rest y ≡ t
    unfolding flag_locals_t
    flags-pair k m x y z t {rest = zero} l b e f h = absurd (omega arith)
    flags-pair k m x y z t {rest = suc n} l b e f h =
        let j : k + 1 ≡ suc k = omega arith in
        (λ u. flag_locals_t ns s old made a (j u) (suc n) ((f ∙ ap (branch_local_t ns s old made a vr.Untaken k) e) u))
        ∙ ap (λ i. flag_locals_t ns s old made a k i z) (sym l) ∙ h

    pub flags-last : (k m : ℕ) (x z t : Left) {rest : ℕ} → m ≡ suc rest → rest ≤ 0 → x ≡ branch_local_t ns s old made a vr.Flag k z → flag_locals_t ns s old made a k m z ≡ t → flag_locals_t ns s old made a (k + 1) rest x ≡ t
    unfolding flag_locals_t
    flags-last k m x z t {rest = zero} l b e h = e ∙ ap (λ i. flag_locals_t ns s old made a k i z) (sym l) ∙ h
    flags-last k m x z t {rest = suc n} l b e h = absurd (omega arith)

    pub flags-none : (k m : ℕ) (z t : Left) → m ≤ 0 → flag_locals_t ns s old made a k m z ≡ t → z ≡ t
    unfolding flag_locals_t
    flags-none k zero z t e h = h
    flags-none k (suc m) z t e h = absurd (omega arith)

    -- over guards
    pub clocks-more : (k m : ℕ) (x z t : Left) {rest : ℕ} → m ≡ suc rest → x ≡ branch_local_t ns s old made a vr.Clock k z → clock_locals_t ns s old made a k m z ≡ t → clock_locals_t ns s old made a (k + 1) rest x ≡ t
    unfolding clock_locals_t
    clocks-more k m x z t {rest} l e h =
        let g : k + 1 ≡ suc k = omega arith in
        (λ u. clock_locals_t ns s old made a (g u) rest (e u)) ∙ ap (λ y. clock_locals_t ns s old made a k y z) (sym l) ∙ h

    pub clocks-done : (k m : ℕ) (z t : Left) → m ≤ 0 → clock_locals_t ns s old made a k m z ≡ t → z ≡ t
    unfolding clock_locals_t
    clocks-done k zero z t l h = h
    clocks-done k (suc m) z t l h = absurd (omega arith)

    -- over holders
    module _ (offsets lasts env : List ℕ) where
      pub holders-more : (h n : ℕ) (x z t : Left) {rest next : ℕ} → n ≡ suc rest → next ≡ h + 3 → x ≡ holder_local_t ns s old made a offsets lasts env h z → holder_locals_t ns s old made a offsets lasts env h n z ≡ t → holder_locals_t ns s old made a offsets lasts env next rest x ≡ t
      unfolding holder_locals_t
      holders-more h n x z t {rest} l d e g = (λ u. holder_locals_t ns s old made a offsets lasts env (d u) rest (e u)) ∙ ap (λ i. holder_locals_t ns s old made a offsets lasts env h i z) (sym l) ∙ g

      pub holders-done : (h n : ℕ) (z t : Left) → n ≤ 0 → holder_locals_t ns s old made a offsets lasts env h n z ≡ t → z ≡ t
      unfolding holder_locals_t
      holders-done h zero z t l g = g
      holders-done h (suc n) z t l g = absurd (omega arith)
