-- Laws for the code that writes the equations of scopes, step by step.
use Prim.Native.Nat.{ℕ, zero, suc, ◌+◌, ◌<◌, ◌≤◌}
use native.Mathlib.Numerals.{add-one}
use native.Mathlib.Omega.{arith}
use mathlib.Core.List.{List, [], ◌∷◌, ◌++◌, append-nil}
use mathlib.Core.Bool.{Bool, true, false, cond}
use mathlib.Core.Path.{◌≡◌, refl, sym, ap, ◌∙◌}
use lib.ListN.{length, get_or, drop, drop_of_length-le}
use lib.Seq.{drop-cons}
use Rattle.wire.specs.declared.writer.Writer.{Writer}
use Rattle.wire.specs.Bytes.{two}
use Rattle.wire.specs.Writer.{State, full, put, puts, state_of}
use Rattle.pack_rules.specs.Names.{Name}
use Rattle.pack_rules.specs.Read.{expr_in}
use Rattle.pack_rules.specs.Write.{Item, raw}
use Rattle.pack.specs.Intern.{put_item, put_name, render}
use Rattle.pack.proofs.Interns.{render-append}
use Rattle.pack.proofs.Written.{render-full}
use Rattle.wire.specs.declared.answer.Number.{Number}
use Rattle.machines.specs.ResolvedIn.{end_of}
use Rattle.machines.specs.CheckedReads.{number_in, with}
use Rattle.machines.specs.Fingerprints.{among}
use Rattle.machines.specs.EmitAt.{pack_name}
use Rattle.machines.proofs.CheckedReadLaws.{on}
use Rattle.machines.proofs.RowLaws.{full_is}
use Rattle.activations.proofs.Counting.{stopped_at}
use Rattle.activation_rules.specs.MadeNames.{value_var}
use Rattle.activations.specs.Vars.{scope_at}
use Rattle.activations.specs.ByNumber.{onto_items}
use Rattle.activations.specs.Places.{body_in, branch_end, equation_end, first_left_in, right_side_in}
use Rattle.activations.specs.RewriteLastAt.{rewrite_last_t}
use Rattle.activations.specs.NameIdsAt.{id_items, sample_name_t}
use Rattle.activations.specs.FreeVarsAt.{free_vars_at, free_vars_t, join_t}
use Rattle.activations.specs.OverSamplesAt.{has_const_t, over_t, rename_items, rename_t, sampled_constant_items, sampled_constant_t, sampled_value_t}
use Rattle.activations.specs.ScopesAt.{branches_t, equation_t, equations_t, new_items, sample_items, scope_t, scopes_t, value_items}
use Rattle.activations.proofs.PassLaws.{full-walked}
use Rattle.activations.proofs.RewriteLastLaws.{unlast-full}

-- nothing is written where the writer is full
pub full-renders : (old : List ℕ) (is : List Item) (o d : List ℕ) (w : Writer) → w.full ≡ true → state_of o d w ≡ render old is (state_of o d w)
full-renders old is o d w e = full_is o d w e ∙ sym (ap (render old is) (full_is o d w e) ∙ render-full old is)

-- samples that are new
module _ (old s offsets : List ℕ) (names : ℕ) (a : Name) (n k : ℕ) where
  pub sample-written : (x : ℕ) (c d e f r z : State) → c ≡ puts (two 1) z → d ≡ put_name old (sample_name_t s offsets names a n k x) c → e ≡ render old (onto_items a n (scope_at n k)) d → f ≡ put 1 e → r ≡ render old (id_items s offsets names a x) f → r ≡ render old (sample_items s offsets names a n k x) z
  unfolding sample_items render put_item puts
  sample-written x c d e f r z g h i j l =
      l ∙ ap (render old (id_items s offsets names a x)) (j ∙ ap (put 1) (i ∙ ap (render old (onto_items a n (scope_at n k))) (h ∙ ap (put_name old (sample_name_t s offsets names a n k x)) g)))
      ∙ sym (render-append old (onto_items a n (scope_at n k)) (raw (1 ∷ []) ∷ id_items s offsets names a x) (put_name old (sample_name_t s offsets names a n k x) (puts (two 1) z)))

  pub new-seen : (sampled : List ℕ) (x : ℕ) (b : Bool) (z : State) → b ≡ among x sampled → b ≡ true → z ≡ render old (new_items s offsets names a n k sampled (x ∷ [])) z
  unfolding new_items render
  new-seen sampled x b z e f = rw (sym e ∙ f)

  pub new-put : (sampled : List ℕ) (x : ℕ) (b : Bool) (y z : State) → b ≡ among x sampled → b ≡ false → y ≡ render old (sample_items s offsets names a n k x) z → y ≡ render old (new_items s offsets names a n k sampled (x ∷ [])) z
  unfolding new_items
  new-put sampled x b y z e f g = rw (sym e ∙ f) (g ∙ ap (λ (is : List Item). render old is z) (sym (append-nil (sample_items s offsets names a n k x))))

  new_split : (sampled : List ℕ) (x : ℕ) (xs : List ℕ) (z : State) → render old (new_items s offsets names a n k sampled (x ∷ xs)) z ≡ render old (new_items s offsets names a n k sampled xs) (render old (new_items s offsets names a n k sampled (x ∷ [])) z)
  unfolding new_items render
  new_split sampled x xs z = go (among x sampled)
    where
      go : (b : Bool) → render old (cond b (new_items s offsets names a n k sampled xs) (sample_items s offsets names a n k x ++ new_items s offsets names a n k sampled xs)) z ≡ render old (new_items s offsets names a n k sampled xs) (render old (cond b [] (sample_items s offsets names a n k x ++ [])) z)
      go true = refl
      go false = render-append old (sample_items s offsets names a n k x) (new_items s offsets names a n k sampled xs) z ∙ ap (λ (is : List Item). render old (new_items s offsets names a n k sampled xs) (render old is z)) (sym (append-nil (sample_items s offsets names a n k x)))

  pub new-more : (sampled ids : List ℕ) (i x : ℕ) (y z t : State) → i < length ids → x ≡ get_or ids i 0 → y ≡ render old (new_items s offsets names a n k sampled (x ∷ [])) z → render old (new_items s offsets names a n k sampled (drop i ids)) z ≡ t → render old (new_items s offsets names a n k sampled (drop (i + 1) ids)) y ≡ t
  new-more sampled ids i x y z t l e f g =
      ap (λ (j : ℕ). render old (new_items s offsets names a n k sampled (drop j ids)) y) (add-one i)
      ∙ ap (render old (new_items s offsets names a n k sampled (drop (suc i) ids))) (f ∙ ap (λ (j : ℕ). render old (new_items s offsets names a n k sampled (j ∷ [])) z) e)
      ∙ sym (new_split sampled (get_or ids i 0) (drop (suc i) ids) z)
      ∙ ap (λ (v : List ℕ). render old (new_items s offsets names a n k sampled v) z) (sym (drop-cons ids i 0 l)) ∙ g

  pub new-end : (sampled ids : List ℕ) (i : ℕ) (z t : State) → length ids ≤ i → render old (new_items s offsets names a n k sampled (drop i ids)) z ≡ t → z ≡ t
  unfolding new_items render
  new-end sampled ids i z t l g = ap (λ (v : List ℕ). render old (new_items s offsets names a n k sampled v) z) (sym (drop_of_length-le ids l)) ∙ g

  pub value_written : (p x : ℕ) (o : Name) (c r z : State) → c ≡ puts (two 1) z → x ≡ first_left_in s p → o ≡ pack_name s offsets x → r ≡ put_name old (value_var a (scope_at n k) o) c → r ≡ render old (value_items s offsets names a n k p) z
  unfolding value_items render put_item
  value_written p x o c r z e f g h = h ∙ (λ j. put_name old (value_var a (scope_at n k) ((g ∙ ap (pack_name s offsets) f) j)) (e j))

-- an equation
module _ (old s offsets : List ℕ) (names : ℕ) (made : Bool) (ns : List Name) (last : ℕ) (lasts : List ℕ) (rows : ℕ) (a : Name) (n k : ℕ) where
  -- a full writer stays full
  pinned-full : (at : ℕ) → sampled_value_t old s offsets a n k ns last at full ≡ full
  unfolding sampled_value_t sampled_constant_t
  pinned-full at = go (has_const_t ns s last at)
    where
      go : (b : Bool) → cond b (sampled_constant_t old s offsets a n k ns last at full) (rewrite_last_t ns s last old offsets a at (render old (onto_items a n (scope_at n k)) full)) ≡ full
      go true = full-walked ns s last old (sampled_constant_items s offsets a n k) 1 at
      go false = ap (rewrite_last_t ns s last old offsets a at) (render-full old (onto_items a n (scope_at n k))) ∙ unlast-full old s offsets a ns last at

  over-full : (ids : List ℕ) (at : ℕ) → over_t old s offsets names made a n k ids lasts rows ns last at full ≡ full
  unfolding over_t rename_t
  over-full [] at = pinned-full at
  over-full (v ∷ vs) at = full-walked ns s last old (rename_items old s offsets names made a n k (v ∷ vs) lasts rows) 1 at

  pub equation-full : (ids sampled : List ℕ) (p : ℕ) → equation_t old s offsets names made ns last lasts rows a n k ids sampled p full ≡ full
  unfolding equation_t
  equation-full ids sampled p =
      ap (λ (z : State). over_t old s offsets names made a n k ids lasts rows ns last (right_side_in ns s p) (render old (value_items s offsets names a n k p) z)) (render-full old (new_items s offsets names a n k sampled ids))
      ∙ ap (over_t old s offsets names made a n k ids lasts rows ns last (right_side_in ns s p)) (render-full old (value_items s offsets names a n k p))
      ∙ over-full ids (right_side_in ns s p)

-- the equations of a scope, the scopes of branches: one more, and the end
module _ (old s offsets : List ℕ) (names : ℕ) (made : Bool) (ns : List Name) (last : ℕ) (lasts : List ℕ) (rows : ℕ) (env outs : List ℕ) (a : Name) (n : ℕ) where
  module _ (k : ℕ) where
    equations-full : (c p : ℕ) (sampled : List ℕ) → equations_t old s offsets names made ns last lasts rows env outs a n k c p sampled full ≡ full
    unfolding equations_t
    equations-full zero p sampled = refl
    equations-full (suc c) p sampled =
        ap (equations_t old s offsets names made ns last lasts rows env outs a n k c (equation_end ns s p) (join_t (free_vars_at lasts rows env outs names ns s last p) sampled)) (equation-full old s offsets names made ns last lasts rows a n k (free_vars_at lasts rows env outs names ns s last p) sampled p)
        ∙ equations-full c (equation_end ns s p) (join_t (free_vars_at lasts rows env outs names ns s last p) sampled)

    equations-step : (c p e q : ℕ) (ids sampled after : List ℕ) (y z : State) → e ≡ right_side_in ns s p → ids ≡ free_vars_t lasts rows env outs names ns s last e → q ≡ end_of (expr_in ns s e) → after ≡ join_t ids sampled → y ≡ equation_t old s offsets names made ns last lasts rows a n k ids sampled p z
        → equations_t old s offsets names made ns last lasts rows env outs a n k c q after y ≡ equations_t old s offsets names made ns last lasts rows env outs a n k (suc c) p sampled z
    unfolding equations_t free_vars_at equation_end
    equations-step c p e q ids sampled after y z f g h i j =
        let r = g ∙ ap (free_vars_t lasts rows env outs names ns s last) f in
        λ u. equations_t old s offsets names made ns last lasts rows env outs a n k c ((h ∙ ap (λ (x : ℕ). end_of (expr_in ns s x)) f) u) ((i ∙ ap (λ (x : List ℕ). join_t x sampled) r) u) ((j ∙ ap (λ (x : List ℕ). equation_t old s offsets names made ns last lasts rows a n k x sampled p z) r) u)

    pub equations-more : (c p e q : ℕ) (ids sampled after : List ℕ) (y z t : State) {rest : ℕ} → c ≡ suc rest → e ≡ right_side_in ns s p → ids ≡ free_vars_t lasts rows env outs names ns s last e → q ≡ end_of (expr_in ns s e) → after ≡ join_t ids sampled → y ≡ equation_t old s offsets names made ns last lasts rows a n k ids sampled p z
        → equations_t old s offsets names made ns last lasts rows env outs a n k c p sampled z ≡ t → equations_t old s offsets names made ns last lasts rows env outs a n k rest q after y ≡ t
    equations-more c p e q ids sampled after y z t {rest} l f g h i m r =
        equations-step rest p e q ids sampled after y z f g h i m
        ∙ ap (λ b. equations_t old s offsets names made ns last lasts rows env outs a n k b p sampled z) (sym l) ∙ r

    pub equations-stop : (c p : ℕ) (sampled o d : List ℕ) (w : Writer) (t : State) → w.full ≡ true → equations_t old s offsets names made ns last lasts rows env outs a n k c p sampled (state_of o d w) ≡ t → state_of o d w ≡ t
    equations-stop c p sampled o d w t e h = stopped_at (equations_t old s offsets names made ns last lasts rows env outs a n k c p sampled) (equations-full c p sampled) o d w t e h

    pub equations-end : (c p : ℕ) (sampled : List ℕ) (z t : State) → c ≤ 0 → equations_t old s offsets names made ns last lasts rows env outs a n k c p sampled z ≡ t → z ≡ t
    unfolding equations_t
    equations-end zero p sampled z t l e = e
    equations-end (suc c) p sampled z t l e = absurd (omega arith)

    pub scope-is : (at : ℕ) (f : Number) (r z : State) → f ≡ number_in s at → r ≡ equations_t old s offsets names made ns last lasts rows env outs a n k f.value f.next [] z → r ≡ scope_t old s offsets names made ns last lasts rows env outs a n k at z
    unfolding scope_t
    scope-is at f r z e g = on f _ _ r e g

    scope-full : (at : ℕ) → scope_t old s offsets names made ns last lasts rows env outs a n k at full ≡ full
    unfolding scope_t with
    scope-full at = equations-full (number_in s at).value (number_in s at).next []

  branches-full : (k c p : ℕ) → branches_t old s offsets names made ns last lasts rows env outs a n k c p full ≡ full
  unfolding branches_t
  branches-full k zero p = refl
  branches-full k (suc c) p = ap (branches_t old s offsets names made ns last lasts rows env outs a n (suc k) c (branch_end ns s p)) (scope-full k (body_in ns s p)) ∙ branches-full (suc k) c (branch_end ns s p)

  branches-step : (k c p e q : ℕ) (y z : State) → e ≡ body_in ns s p → q ≡ branch_end ns s p → y ≡ scope_t old s offsets names made ns last lasts rows env outs a n k e z
      → branches_t old s offsets names made ns last lasts rows env outs a n (k + 1) c q y ≡ branches_t old s offsets names made ns last lasts rows env outs a n k (suc c) p z
  unfolding branches_t
  branches-step k c p e q y z f g h = λ u. branches_t old s offsets names made ns last lasts rows env outs a n (add-one k u) c (g u) ((h ∙ ap (λ (x : ℕ). scope_t old s offsets names made ns last lasts rows env outs a n k x z) f) u)

  pub branches-more : (k c p e q : ℕ) (y z t : State) {rest : ℕ} → c ≡ suc rest → e ≡ body_in ns s p → q ≡ branch_end ns s p → y ≡ scope_t old s offsets names made ns last lasts rows env outs a n k e z
      → branches_t old s offsets names made ns last lasts rows env outs a n k c p z ≡ t → branches_t old s offsets names made ns last lasts rows env outs a n (k + 1) rest q y ≡ t
  branches-more k c p e q y z t {rest} l f g h r =
      branches-step k rest p e q y z f g h ∙ ap (λ b. branches_t old s offsets names made ns last lasts rows env outs a n k b p z) (sym l) ∙ r

  pub branches-stop : (k c p : ℕ) (o d : List ℕ) (w : Writer) (t : State) → w.full ≡ true → branches_t old s offsets names made ns last lasts rows env outs a n k c p (state_of o d w) ≡ t → state_of o d w ≡ t
  branches-stop k c p o d w t e h = stopped_at (branches_t old s offsets names made ns last lasts rows env outs a n k c p) (branches-full k c p) o d w t e h

  pub branches-end : (k c p : ℕ) (z t : State) → c ≤ 0 → branches_t old s offsets names made ns last lasts rows env outs a n k c p z ≡ t → z ≡ t
  unfolding branches_t
  branches-end k zero p z t l e = e
  branches-end k (suc c) p z t l e = absurd (omega arith)

  pub scopes-are : (branches other : ℕ) (f : Number) (r y z : State) → f ≡ number_in s branches → y ≡ branches_t old s offsets names made ns last lasts rows env outs a n 0 n f.next z → r ≡ scope_t old s offsets names made ns last lasts rows env outs a n n other y → r ≡ scopes_t old s offsets names made ns last lasts rows env outs a n branches other z
  unfolding scopes_t
  scopes-are branches other f r y z e g h = h ∙ ap (scope_t old s offsets names made ns last lasts rows env outs a n n other) (g ∙ ap (λ (x : Number). branches_t old s offsets names made ns last lasts rows env outs a n 0 n x.next z) e)
