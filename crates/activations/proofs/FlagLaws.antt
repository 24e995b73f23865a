-- Laws for the code that writes the flags of branches, step by step.
use Prim.Native.Nat.{ℕ, zero, suc, ◌-◌, ◌<◌, ◌≤◌}
use native.Mathlib.Omega.{arith}
use mathlib.Core.List.{List, [], ◌∷◌, ◌++◌}
use mathlib.Core.Bool.{Bool, true, false, cond}
use mathlib.Core.Path.{◌≡◌, refl, sym, ap, ◌∙◌}
use lib.Dec.{ltb}
use borrow.Author.Tests.{le-ltb, lt-ltb}
use Rattle.wire.specs.Writer.{State, full, puts}
use Rattle.pack_rules.specs.Names.{Name}
use Rattle.pack_rules.specs.Syntax.{e_var}
use Rattle.pack_rules.specs.Write.{expr_items, list, name_items, raw}
use Rattle.pack.specs.Intern.{put_item, render}
use Rattle.pack.proofs.Interns.{render-append}
use Rattle.pack.proofs.Written.{render-full}
use Rattle.wire.specs.declared.answer.Number.{Number}
use Rattle.machines.specs.CheckedReads.{number_in, with}
use Rattle.machines.proofs.CheckedReadLaws.{on}
use Rattle.machines.proofs.SectionsShown.{raw-only}
use Rattle.activations.specs.declared.made_names.Var.TheVariants as vr
use Rattle.activations.specs.Vars.{branch_var}
use Rattle.activations.specs.RewriteLastAt.{rewrite_last_t}
use Rattle.activations.specs.Places.{branch_end}
use Rattle.activations.specs.Passes.{pass_t}
use Rattle.activations.specs.FlagsAt.{branch_flags_t, flag_items, flag_t, flags_t, none_flag_items, none_flag_t, prior_items}
use Rattle.activations.proofs.RewriteLastLaws.{unlast-full}

module _ (old : List ℕ) (a : Name) where
  pub prior-none : (k : ℕ) (z : State) → k ≡ 0 → z ≡ render old (prior_items a k) z
  unfolding prior_items render
  prior-none zero z e = refl
  prior-none (suc k) z e = absurd (omega (arith, e))

  pub prior-some : (k : ℕ) (x y z : State) → 0 < k → y ≡ puts (3 ∷ 0 ∷ []) z → x ≡ render old (expr_items (e_var (branch_var vr.Untaken a (k - 1)))) y → x ≡ render old (prior_items a k) z
  unfolding prior_items render put_item branch_var
  prior-some zero x y z l e f = absurd (omega arith)
  prior-some (suc k) x y z l e f =
      let i : suc k - 1 ≡ k = omega arith in
      f ∙ λ j. render old (expr_items (e_var (branch_var vr.Untaken a (i j)))) (e j)

  module _ (ns : List Name) (s : List ℕ) (last : ℕ) (offsets : List ℕ) where
    -- a full writer stays full
    flag-full : (k at : ℕ) → flag_t ns s last old offsets a k at full ≡ full
    unfolding flag_t
    flag-full k at = ap (rewrite_last_t ns s last old offsets a at) (render-full old (flag_items a k)) ∙ unlast-full old s offsets a ns last at

    untaken-full : (n k at : ℕ) → none_flag_t ns s last old offsets a n k at full ≡ full
    unfolding none_flag_t
    untaken-full n k at = go (ltb 1 n)
      where
        go : (b : Bool) → cond b (rewrite_last_t ns s last old offsets a at (render old (none_flag_items a k) full)) full ≡ full
        go true = ap (rewrite_last_t ns s last old offsets a at) (render-full old (none_flag_items a k)) ∙ unlast-full old s offsets a ns last at
        go false = refl

    pub branch-full : (n k p : ℕ) → branch_flags_t ns s last old offsets a n k p full ≡ full
    unfolding branch_flags_t with
    branch-full n k p = ap (none_flag_t ns s last old offsets a n k (number_in s p).next) (flag-full k (number_in s p).next) ∙ untaken-full n k (number_in s p).next

    pub flag_is : (k at : ℕ) (w x y z : State) → x ≡ render old (list name_items (branch_var vr.Flag a k ∷ [])) w → y ≡ render old (prior_items a k) x → z ≡ rewrite_last_t ns s last old offsets a at y → z ≡ flag_t ns s last old offsets a k at w
    unfolding flag_t flag_items branch_var
    flag_is k at w x y z e f g =
        g ∙ ap (rewrite_last_t ns s last old offsets a at) (f ∙ ap (render old (prior_items a k)) e ∙ sym (render-append old (list name_items (branch_var vr.Flag a k ∷ [])) (prior_items a k) w))

    pub untaken-none : (n k at : ℕ) (w : State) → n ≤ 1 → w ≡ none_flag_t ns s last old offsets a n k at w
    unfolding none_flag_t
    untaken-none n k at w l = rw (le-ltb 1 n l)

    pub untaken-some : (n k at : ℕ) (w x y u z : State) → 1 < n → x ≡ render old (list name_items (branch_var vr.Untaken a k ∷ [])) w → y ≡ render old (prior_items a k) x → u ≡ puts (2 ∷ 0 ∷ []) y → z ≡ rewrite_last_t ns s last old offsets a at u → z ≡ none_flag_t ns s last old offsets a n k at w
    unfolding none_flag_t none_flag_items branch_var
    untaken-some n k at w x y u z l e f g h =
        rw (lt-ltb 1 n l)
        (h ∙ ap (rewrite_last_t ns s last old offsets a at) (g ∙ ap (puts (2 ∷ 0 ∷ [])) (f ∙ ap (render old (prior_items a k)) e) ∙ joins))
      where
        joins : puts (2 ∷ 0 ∷ []) (render old (prior_items a k) (render old (list name_items (branch_var vr.Untaken a k ∷ [])) w)) ≡ render old (list name_items (branch_var vr.Untaken a k ∷ []) ++ (prior_items a k ++ (raw (2 ∷ 0 ∷ []) ∷ []))) w
        joins = sym (render-append old (list name_items (branch_var vr.Untaken a k ∷ [])) (prior_items a k ++ (raw (2 ∷ 0 ∷ []) ∷ [])) w ∙ render-append old (prior_items a k) (raw (2 ∷ 0 ∷ []) ∷ []) (render old (list name_items (branch_var vr.Untaken a k ∷ [])) w) ∙ raw-only old (2 ∷ 0 ∷ []) (render old (prior_items a k) (render old (list name_items (branch_var vr.Untaken a k ∷ [])) w)))

pub flags-over : (ns : List Name) (s : List ℕ) (last : ℕ) (old offsets : List ℕ) (a : Name) (at : ℕ) (c : Number) (z y : State) → c ≡ number_in s at → y ≡ pass_t (branch_flags_t ns s last old offsets a) (branch_end ns s) c.value 0 c.next z → y ≡ flags_t ns s last old offsets a at z
unfolding flags_t
flags-over ns s last old offsets a at c z y e f = on c _ _ _ e f
