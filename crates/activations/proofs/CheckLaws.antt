-- Laws for the code that checks activations, step by step.
use Prim.Native.Nat.{ℕ, zero, suc, ◌%◌, ◌<◌, ◌≤◌}
use native.Mathlib.Omega.{arith}
use mathlib.Core.List.{List}
use mathlib.Core.Bool.{Bool, true, false, cond, ◌||◌}
use mathlib.Core.Path.{◌≡◌, sym, ap, ◌∙◌}
use lib.ListN.{length, get_or, set}
use lib.Dec.{eqb, ltb}
use borrow.Author.Tests.{eq-eqb, le-ltb, lt-ltb, ne_eqb}
use Rattle.pack_rules.specs.Names.{Name}
use Rattle.pack_rules.specs.Read.{equation_in, port_in}
use Rattle.wire.specs.declared.answer.Number.{Number}
use Rattle.machines.specs.ResolvedIn.{end_of}
use Rattle.machines.specs.CheckedReads.{number_in}
use Rattle.machines.proofs.CheckedReadLaws.{on}
use Rattle.activations.specs.declared.parts.Act.{Act}
use Rattle.activations.specs.declared.checks.Refused.{Refused}
use Rattle.activations.specs.Cells.{clear_t, put_t}
use Rattle.activations.specs.Places.{along, any_t, body_in, branch_end, each_of}
use Rattle.activations.specs.BadLastsAt.{any_bad_last_t, any_branch_t}
use Rattle.activations.specs.Passes.{pass_t}
use Rattle.activations.specs.ChecksAt.{assign_branches_t, assign_scope_t, assign_t, assigned_t, checks_t, has_empty_left_t, in_scopes_t, nameless_t, or_else_t, over_equation, refused_t, repeated_in, repeated_t, scope_has_empty_left_t, scope_name_t, unassigned_t}

module _ (ns : List Name) (s : List ℕ) where
  -- the loop over branches' names: one that stood before, one more, the end
  pub repeated-hit : (n p : ℕ) (i : Number) (m : ℕ) (t : List ℕ) (z : ℕ) {rest : ℕ} → n ≡ suc rest → i ≡ number_in s p → m ≡ get_or t i.value 0 → (m ≡ 0 → ⊥) → repeated_t ns s n p t ≡ z → i.value ≡ z
  unfolding repeated_t
  repeated-hit zero p i m t z l e f g h = absurd (omega arith)
  repeated-hit (suc n) p i m t z {rest} l e f g h = on i _ _ _ e (rw (ne_eqb (get_or t i.value 0) 0 (λ y. g (f ∙ y)))) ∙ h

  pub repeated-on : (n p q : ℕ) (i : Number) (m : ℕ) (t u : List ℕ) (z : ℕ) {rest : ℕ} → n ≡ suc rest → i ≡ number_in s p → m ≡ get_or t i.value 0 → m ≡ 0 → u ≡ set t i.value (1 % 65536) → q ≡ branch_end ns s p → repeated_t ns s n p t ≡ z → repeated_t ns s rest q u ≡ z
  unfolding repeated_t put_t
  repeated-on zero p q i m t u z l e f g h j k = absurd (omega arith)
  repeated-on (suc n) p q i m t u z {rest} l e f g h j k =
      let d : rest ≡ n = omega arith in
      on i _ _ _ e (rw (eq-eqb (get_or t i.value 0) 0 (sym f ∙ g)) (λ y. repeated_t ns s (d y) (j y) (h y))) ∙ k

  pub repeated-end : (n p : ℕ) (t : List ℕ) (z : ℕ) → n ≤ 0 → repeated_t ns s n p t ≡ z → length ns ≡ z
  unfolding repeated_t
  repeated-end zero p t z l h = h
  repeated-end (suc n) p t z l h = absurd (omega arith)

  pub repeated-over : (at names : ℕ) (c : Number) (t u : List ℕ) (r : ℕ) → length ns ≡ names → c ≡ number_in s at → u ≡ clear_t names t → r ≡ repeated_t ns s c.value c.next u → r ≡ repeated_in ns s at t
  unfolding repeated_in
  repeated-over at names c t u r d e f g = on c _ _ _ e (g ∙ ap (repeated_t ns s c.value c.next) (f ∙ ap (λ y. clear_t y t) (sym d)))

  -- scopes
  pub scope-over : (k at : ℕ) (c : Number) (t u : List ℕ) → c ≡ number_in s at → u ≡ each_of (assign_t s k) (over_equation ns s) c.value c.next t → u ≡ assign_scope_t ns s k at t
  unfolding assign_scope_t
  scope-over k at c t u e f = on c _ _ _ e f

  pub scope-in : (k p e : ℕ) (t u : List ℕ) → e ≡ body_in ns s p → u ≡ assign_scope_t ns s k e t → u ≡ assign_scope_t ns s k (body_in ns s p) t
  scope-in k p e t u f g = g ∙ ap (λ y. assign_scope_t ns s k y t) f

  pub branches-over : (at : ℕ) (c : Number) (t u : List ℕ) → c ≡ number_in s at → u ≡ pass_t (λ m k q z. assign_scope_t ns s k (body_in ns s q) z) (branch_end ns s) c.value 0 c.next t → u ≡ assign_branches_t ns s at t
  unfolding assign_branches_t
  branches-over at c t u e f = on c _ _ _ e f

  pub else-named : (a : Act) (k names : ℕ) → length ns ≡ names → a.n ≤ k → suc names ≡ scope_name_t ns s a k
  unfolding scope_name_t
  else-named a k names e l = rw (le-ltb k a.n l) (omega (arith, e))

  pub scope-named : (a : Act) (k p : ℕ) (c i : Number) → k < a.n → c ≡ number_in s a.branches → p ≡ along (branch_end ns s) k c.next → i ≡ number_in s p → i.value ≡ scope_name_t ns s a k
  unfolding scope_name_t
  scope-named a k p c i l e f g = rw (lt-ltb k a.n l) (on c _ _ _ e (ap (λ (y : Number). y.value) (g ∙ ap (number_in s) f)))

  -- the loop over outputs: one that is not assigned everywhere, one more, the end
  module _ (a : Act) (t : List ℕ) where
    pub unassigned-hit : (n p : ℕ) (o : Number) (k x : ℕ) (r z : Refused) {rest : ℕ} → n ≡ suc rest → o ≡ number_in s p → k ≡ get_or t o.value 0 → k ≤ a.n → x ≡ scope_name_t ns s a k → r ≡ refused_t 11 o.value x → unassigned_t ns s a t n p ≡ z → r ≡ z
    unfolding unassigned_t
    unassigned-hit zero p o k x r z l e f g h i j = absurd (omega arith)
    unassigned-hit (suc n) p o k x r z {rest} l e f g h i j =
        i ∙ ap (refused_t 11 o.value) (h ∙ ap (scope_name_t ns s a) f) ∙ on o _ _ _ e (rw (le-ltb a.n (get_or t o.value 0) (omega (arith, f)))) ∙ j

    pub unassigned-on : (n p q : ℕ) (o : Number) (k : ℕ) (z : Refused) {rest : ℕ} → n ≡ suc rest → o ≡ number_in s p → k ≡ get_or t o.value 0 → a.n < k → q ≡ end_of (port_in ns s p) → unassigned_t ns s a t n p ≡ z → unassigned_t ns s a t rest q ≡ z
    unfolding unassigned_t
    unassigned-on zero p q o k z l e f g h j = absurd (omega arith)
    unassigned-on (suc n) p q o k z {rest} l e f g h j =
        let d : rest ≡ n = omega arith in
        on o _ _ _ e (rw (lt-ltb a.n (get_or t o.value 0) (omega (arith, f))) (λ y. unassigned_t ns s a t (d y) (h y))) ∙ j

    pub unassigned-end : (n p : ℕ) (r z : Refused) (names : ℕ) → length ns ≡ names → n ≤ 0 → r ≡ refused_t 0 names names → unassigned_t ns s a t n p ≡ z → r ≡ z
    unfolding unassigned_t
    unassigned-end zero p r z names e l h j = h ∙ ap (λ y. refused_t 0 y y) (sym e) ∙ j
    unassigned-end (suc n) p r z names e l h j = absurd (omega arith)

  pub scopes-over : (a : Act) (t u : List ℕ) (c : Number) (r : Refused) → u ≡ assigned_t ns s a t → c ≡ number_in s a.outputs → r ≡ unassigned_t ns s a u c.value c.next → r ≡ in_scopes_t ns s a t
  unfolding in_scopes_t
  scopes-over a t u c r e f g = on c _ _ _ f (g ∙ ap (λ y. unassigned_t ns s a y c.value c.next) e)

  -- equations without left names
  pub nameless-yes : (p : ℕ) (l : Number) → l ≡ number_in s p → l.value ≡ 0 → true ≡ nameless_t ns s p
  unfolding nameless_t
  nameless-yes p l e f = sym (eq-eqb l.value 0 f) ∙ ap (λ (y : Number). eqb y.value 0) e

  pub nameless-no : (p : ℕ) (l : Number) → l ≡ number_in s p → (l.value ≡ 0 → ⊥) → false ≡ nameless_t ns s p
  unfolding nameless_t
  nameless-no p l e f = sym (ne_eqb l.value 0 f) ∙ ap (λ (y : Number). eqb y.value 0) e

  pub equation-ended : (p r : ℕ) → r ≡ end_of (equation_in ns s p) → r ≡ over_equation ns s p
  unfolding over_equation
  equation-ended p r e = e

  pub leftless-over : (at : ℕ) (c : Number) (r : Bool) → c ≡ number_in s at → r ≡ any_t (nameless_t ns s) (over_equation ns s) c.value c.next → r ≡ scope_has_empty_left_t ns s at
  unfolding scope_has_empty_left_t
  leftless-over at c r e f = on c _ _ _ e f

  pub leftless-in : (p e : ℕ) (b : Bool) → e ≡ body_in ns s p → b ≡ scope_has_empty_left_t ns s e → b ≡ scope_has_empty_left_t ns s (body_in ns s p)
  leftless-in p e b f g = g ∙ ap (scope_has_empty_left_t ns s) f

  pub leftless-hit : (a : Act) (c : Number) → c ≡ number_in s a.branches → true ≡ any_t (λ p. scope_has_empty_left_t ns s (body_in ns s p)) (branch_end ns s) c.value c.next → true ≡ has_empty_left_t ns s a
  unfolding has_empty_left_t any_branch_t
  leftless-hit a c e f = ap (λ y. y || scope_has_empty_left_t ns s a.other) (on c _ (λ n p. any_t (λ p. scope_has_empty_left_t ns s (body_in ns s p)) (branch_end ns s) n p) _ e f)

  pub leftless-rest : (a : Act) (c : Number) (r : Bool) → c ≡ number_in s a.branches → false ≡ any_t (λ p. scope_has_empty_left_t ns s (body_in ns s p)) (branch_end ns s) c.value c.next → r ≡ scope_has_empty_left_t ns s a.other → r ≡ has_empty_left_t ns s a
  unfolding has_empty_left_t any_branch_t
  leftless-rest a c r e f g = g ∙ ap (λ y. y || scope_has_empty_left_t ns s a.other) (on c _ (λ n p. any_t (λ p. scope_has_empty_left_t ns s (body_in ns s p)) (branch_end ns s) n p) _ e f)

  -- all checks, by the first that refuses
  module _ (last : ℕ) (a : Act) (t u : List ℕ) (names : ℕ) where
    pub branchless-is : (r : Refused) → length ns ≡ names → a.n ≡ 0 → r ≡ refused_t 9 names names → r ≡ checks_t ns s last a t u
    unfolding checks_t
    branchless-is r e f g = rw (eq-eqb a.n 0 f) (g ∙ ap (λ y. refused_t 9 y y) (sym e))

    module _ (c : Number) where
      pub outputless-is : (r : Refused) → length ns ≡ names → (a.n ≡ 0 → ⊥) → c ≡ number_in s a.outputs → c.value ≡ 0 → r ≡ refused_t 10 names names → r ≡ checks_t ns s last a t u
      unfolding checks_t
      outputless-is r e f g h i = rw (ne_eqb a.n 0 f, eq-eqb (number_in s a.outputs).value 0 (ap (λ (y : Number). y.value) (sym g) ∙ h)) (i ∙ ap (λ y. refused_t 10 y y) (sym e))

      module _ (x : ℕ) where
        -- past the first two
        past_two : (r : Refused) → (a.n ≡ 0 → ⊥) → c ≡ number_in s a.outputs → (c.value ≡ 0 → ⊥)
            → r ≡ cond (ltb (repeated_in ns s a.branches t) (length ns)) (refused_t 12 (repeated_in ns s a.branches t) (length ns)) (or_else_t ns s (in_scopes_t ns s a u) (cond (any_bad_last_t ns s last a) (refused_t 14 (length ns) (length ns)) (refused_t 0 (length ns) (length ns))))
            → r ≡ checks_t ns s last a t u
        unfolding checks_t
        past_two r f g h i = rw (ne_eqb a.n 0 f, ne_eqb (number_in s a.outputs).value 0 (λ y. h (ap (λ (y : Number). y.value) g ∙ y))) i

        pub doubled-is : (r : Refused) → length ns ≡ names → (a.n ≡ 0 → ⊥) → c ≡ number_in s a.outputs → (c.value ≡ 0 → ⊥) → x ≡ repeated_in ns s a.branches t → x < names → r ≡ refused_t 12 x names → r ≡ checks_t ns s last a t u
        doubled-is r e f g h i j k =
            past_two r f g h (rw (lt-ltb (repeated_in ns s a.branches t) (length ns) (omega (arith, e, i))) (k ∙ λ y. refused_t 12 (i y) (sym e y)))

        module _ (j : Refused) where
          -- past the third
          past_three : (r : Refused) → length ns ≡ names → (a.n ≡ 0 → ⊥) → c ≡ number_in s a.outputs → (c.value ≡ 0 → ⊥) → x ≡ repeated_in ns s a.branches t → names ≤ x
              → r ≡ or_else_t ns s (in_scopes_t ns s a u) (cond (any_bad_last_t ns s last a) (refused_t 14 (length ns) (length ns)) (refused_t 0 (length ns) (length ns)))
              → r ≡ checks_t ns s last a t u
          past_three r e f g h i k l = past_two r f g h (rw (le-ltb (repeated_in ns s a.branches t) (length ns) (omega (arith, e, i))) l)

          pub unassigned-is : length ns ≡ names → (a.n ≡ 0 → ⊥) → c ≡ number_in s a.outputs → (c.value ≡ 0 → ⊥) → x ≡ repeated_in ns s a.branches t → names ≤ x → j ≡ in_scopes_t ns s a u → (j.kind ≡ 0 → ⊥) → j ≡ checks_t ns s last a t u
          unfolding or_else_t
          unassigned-is e f g h i k l m =
              past_three j e f g h i k (rw (ne_eqb (in_scopes_t ns s a u).kind 0 (λ y. m (ap (λ (z : Refused). z.kind) l ∙ y))) l)

          module _ (b : Bool) where
            pub misused-is : (r : Refused) → length ns ≡ names → (a.n ≡ 0 → ⊥) → c ≡ number_in s a.outputs → (c.value ≡ 0 → ⊥) → x ≡ repeated_in ns s a.branches t → names ≤ x → j ≡ in_scopes_t ns s a u → j.kind ≡ 0 → b ≡ any_bad_last_t ns s last a → b ≡ true → r ≡ refused_t 14 names names → r ≡ checks_t ns s last a t u
            unfolding or_else_t
            misused-is r e f g h i k l m n o p =
                past_three r e f g h i k (rw (eq-eqb (in_scopes_t ns s a u).kind 0 (ap (λ (z : Refused). z.kind) (sym l) ∙ m), sym n ∙ o) (p ∙ ap (λ y. refused_t 14 y y) (sym e)))

            pub passed_is : (r : Refused) → length ns ≡ names → (a.n ≡ 0 → ⊥) → c ≡ number_in s a.outputs → (c.value ≡ 0 → ⊥) → x ≡ repeated_in ns s a.branches t → names ≤ x → j ≡ in_scopes_t ns s a u → j.kind ≡ 0 → b ≡ any_bad_last_t ns s last a → b ≡ false → r ≡ refused_t 0 names names → r ≡ checks_t ns s last a t u
            unfolding or_else_t
            passed_is r e f g h i k l m n o p =
                past_three r e f g h i k (rw (eq-eqb (in_scopes_t ns s a u).kind 0 (ap (λ (z : Refused). z.kind) (sym l) ∙ m), sym n ∙ o) (p ∙ ap (λ y. refused_t 0 y y) (sym e)))
