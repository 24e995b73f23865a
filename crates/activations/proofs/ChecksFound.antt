-- What the code refuses of an activation before `last` is sought is what the definition refuses.
use Prim.Native.Nat.{ℕ, zero, suc, ◌+◌, ◌<◌, ◌≤◌}
use native.Mathlib.Omega.{arith}
use mathlib.Core.List.{List, [], ◌∷◌, ◌++◌}
use mathlib.Core.Bool.{Bool, true, false, cond, not, ◌&&◌, ◌||◌}
use mathlib.Core.Option.{Option, none, some}
use mathlib.Core.Path.{◌≡◌, refl, sym, ap, subst, ◌∙◌}
use lib.ListN.{length, get_or}
use lib.Dec.{eqb, ltb}
use borrow.Author.Tests.{eq-eqb, eqb-true, le-ltb, lt-ltb, ne_eqb}
use Rattle.wire.specs.Answer.{counted, many, u16, value}
use Rattle.wire.specs.Lists.{Bytes}
use Rattle.wire.proofs.Answers.{bind-value, map-value}
use Rattle.pack_rules.specs.Names.{Name, eq_name, member}
use Rattle.pack_rules.specs.Syntax.{Activation, Branch, Equation, Port}
use Rattle.pack_rules.specs.Forms.{name_at}
use Rattle.pack_rules.specs.Legal.{Fresh}
use Rattle.pack_rules.specs.Report.{Refusal, as_refusal, first_of}
use Rattle.pack_rules.specs.Read.{activation_in, branch_in, equation_in, equations_in, name_in, names_in, port_in, ports_in, type_in}
use Rattle.machine_rules.specs.Checks.{repeated}
use Rattle.machine_rules.specs.Lower.{is_only, is_some, own_value}
use Rattle.wire.specs.declared.answer.Number.{Number}
use Rattle.machines.specs.CheckedReads.{number_in, with}
use Rattle.machines.proofs.Covered.{lhs-link}
use Rattle.machines.proofs.NamesPlaced.{alone}
use Rattle.machines.proofs.TablesFilled.{fill-at, fill-length}
use Rattle.machines.specs.ResolvedIn.{end_of}
use Rattle.machines.proofs.Reading.{many-cut, many_more, many-over, name-number}
use Rattle.machines.proofs.CheckedReadLaws.{chosen, end-to, left_out, number-num, number-to, then_to}
use Rattle.activations.specs.declared.parts.Act.{Act}
use Rattle.activations.specs.declared.checks.Refused.{Refused}
use Rattle.activations.specs.Cells.{clear_t, put_t}
use Rattle.activations.specs.Places.{act_at, along, any_t, body_in, branch_end, each_of}
use Rattle.activations.specs.Passes.{pass_t}
use Rattle.activation_rules.specs.Refusals.{duplicate_branch, last_args, no_branches, no_outputs, output_unassigned}
use Rattle.activation_rules.specs.Checks.{branch_names, else_name, in_branches, branchless, checks, in_scopes, misuse, outputless, unless_assigned}
use Rattle.activation_rules.specs.BadLasts.{any_bad_last}
use Rattle.activation_rules.specs.Sought.{expressions}
use Rattle.activation_rules.specs.EmptyLeft.{has_empty_left, leftless, leftless_branch, nameless}
use Rattle.activations.specs.BadLastsAt.{any_bad_last_t, any_branch_t}
use Rattle.activations.specs.Walks.{LastIs}
use Rattle.activations.proofs.BadLastsFound.{any-misused-is}
use Rattle.activations.specs.ChecksAt.{assign_branches_t, assign_scope_t, assign_t, assigned_t, called, checks_t, has_empty_left_t, in_scopes_t, nameless_t, or_else_t, over_equation, refusal_by, refused_t, repeated_in, repeated_t, scope_has_empty_left_t, scope_name_t, unassigned_t}
use Rattle.activations.proofs.ActRead.{ActivationRead, act-to, branch-end-to, branch-number-to, branch-value, body-to, counted-value, equation-value}
use Rattle.activations.proofs.RowsNoted.{put-length, put_other, put_same}

module _ (ns : List Name) (fresh : Fresh [] ns) (s : List ℕ) where
  -- a table marks the names seen
  unfoldable MarksAre : List ℕ → List Name → Type 0
  MarksAre t sampled = (i : ℕ) → i < length ns → eqb (get_or t i 0) 0 ≡ not (member (name_at ns i) sampled)

  marks-more : (t : List ℕ) (sampled : List Name) (i : ℕ) (x : Name) → length ns ≤ length t → i < length ns → name_at ns i ≡ x → MarksAre t sampled → MarksAre (put_t t i 1) (x ∷ sampled)
  unfolding MarksAre member
  marks-more t sampled i x l h e m j k =
      go (eqb j i) refl
    where
      go : (b : Bool) → eqb j i ≡ b → eqb (get_or (put_t t i 1) j 0) 0 ≡ not (eq_name (name_at ns j) x || member (name_at ns j) sampled)
      go true f =
          ap (λ y. eqb y 0) (ap (λ y. get_or (put_t t i 1) y 0) (eqb-true j i f) ∙ put_same t i 1 (omega arith) (omega arith))
          ∙ ap (λ y. not (y || member (name_at ns j) sampled)) (sym (ap (eq_name (name_at ns j)) (sym e) ∙ alone ns fresh i j h k ∙ f))
      go false f =
          ap (λ y. eqb y 0) (put_other t i 1 j (λ y. let z : ◌≡◌ {A = ℕ} 0 1 = ap (λ u. cond u 0 1) (sym (eq-eqb j i y) ∙ f) in omega arith))
          ∙ m j k
          ∙ ap (λ y. not (y || member (name_at ns j) sampled)) (sym (ap (eq_name (name_at ns j)) (sym e) ∙ alone ns fresh i j h k ∙ f))

  -- a number for the name that stands twice
  unfoldable pub RepeatedAs : ℕ → Option Name → Type 0
  RepeatedAs r none = r ≡ length ns
  RepeatedAs r (some m) = (r < length ns) × (name_at ns r ≡ m)

  repeated-found : (n at : ℕ) (bs : List Branch) (q : ℕ) (sampled : List Name) (t : List ℕ) → many (branch_in ns s) n at ≡ value bs q → length ns ≤ length t → MarksAre t sampled → RepeatedAs (repeated_t ns s n at t) (repeated sampled (branch_names bs))
  unfolding repeated_t repeated branch_names RepeatedAs MarksAre
  repeated-found zero at [] q sampled t e l m = refl
  repeated-found zero at (b ∷ bs) q sampled t e l m = absurd (many-cut (branch_in ns s) at b bs q e)
  repeated-found (suc n) at [] q sampled t e l m = absurd (many-over (branch_in ns s) n at q e)
  repeated-found (suc n) at (b ∷ bs) q sampled t e l m =
      let a = many_more (branch_in ns s) n at b bs q e in
      let r = branch-value ns s at b a.0 a.1 in
      let i = branch-number-to ns s at b a.0 r in
      subst (λ (y : ℕ). RepeatedAs y (repeated sampled (b.name ∷ branch_names bs)))
      (sym (then_to (number_in s at) i.0 r.to-condition _ i.3))
      (go i.0 i.1 i.2 (member b.name sampled) (m i.0 i.1 ∙ ap (λ y. not (member y sampled)) i.2)
      (subst (λ (p : ℕ). RepeatedAs (repeated_t ns s n p (put_t t i.0 1)) (repeated (b.name ∷ sampled) (branch_names bs)))
      (sym (branch-end-to ns s at b a.0 r))
      (repeated-found n a.0 bs q (b.name ∷ sampled) (put_t t i.0 1) a.2 (omega (arith, put-length t i.0 1)) (marks-more t sampled i.0 b.name l i.1 i.2 m))))
    where
      go : (j : ℕ) → j < length ns → name_at ns j ≡ b.name → (d : Bool) → eqb (get_or t j 0) 0 ≡ not d
          → RepeatedAs (repeated_t ns s n (branch_end ns s at) (put_t t j 1)) (repeated (b.name ∷ sampled) (branch_names bs))
          → RepeatedAs (cond (eqb (get_or t j 0) 0) (repeated_t ns s n (branch_end ns s at) (put_t t j 1)) j) (elim d [ true ↦ some b.name | false ↦ repeated (b.name ∷ sampled) (branch_names bs) ])
      go j h k true f ih = rw f (h, k)
      go j h k false f ih = rw f ih

  pub repeated-is : (at : ℕ) (bs : List Branch) (k q : ℕ) (t : List ℕ) → u16 s at ≡ value (length bs) k → many (branch_in ns s) (length bs) k ≡ value bs q → length ns ≤ length t → RepeatedAs (repeated_in ns s at t) (repeated [] (branch_names bs))
  unfolding repeated_in MarksAre member clear_t
  repeated-is at bs k q t c e l =
      subst (λ (y : ℕ). RepeatedAs y (repeated [] (branch_names bs))) (sym (number-to s at (length bs) k _ c))
      (repeated-found (length bs) k bs q [] (clear_t (length ns) t) e (omega (arith, l, fill-length (λ j. 0) (length ns) 0 t))
      (λ i h. ap (λ y. eqb y 0) (fill-at (λ j. 0) (length ns) 0 t i (omega arith) (omega arith) (omega (arith, l)))))

  -- a name that all scopes before assign is assigned in one more
  unfoldable pub taken : List ℕ → ℕ → ℕ → Bool → ℕ
  taken t k x b = cond (b && eqb (get_or t x 0) k) (suc k) (get_or t x 0)

  module _ (k : ℕ) (small : k < 65535) where
    over-to : (p : ℕ) (e : Equation) (q : ℕ) → equation_in ns s p ≡ value e q → over_equation ns s p ≡ q
    unfolding over_equation
    over-to p e q d = end-to (equation_in ns s p) e q d

    assign-at : (p : ℕ) (e : Equation) (q : ℕ) (t : List ℕ) (x : ℕ) → equation_in ns s p ≡ value e q → x < length ns → length ns ≤ length t → get_or (assign_t s k p t) x 0 ≡ taken t k x (is_only (name_at ns x) e.lhs)
    unfolding assign_t names_in counted taken with
    assign-at p e q t x d h l =
        let r = equation-value ns s p e q d in
        let b = bind-value (u16 s p) _ e.lhs r.to-rhs r.lhs in
        ap (λ (y : List ℕ). get_or y x 0) (number-to s p b.0 b.1 (λ n j. with (number_in s j) λ y m. cond (eqb n 1 && eqb (get_or t y 0) k) (put_t t y (suc k)) t) b.2)
        ∙ go (number_in s b.1).value b.0 (lhs-link ns s fresh x h b.0 b.1 e.lhs r.to-rhs b.3)
      where
        set_at : (y : ℕ) → get_or (put_t t y (suc k)) x 0 ≡ cond (eqb y x) (suc k) (get_or t x 0)
        set_at y = at-index (eqb y x) refl
          where
            at-index : (b : Bool) → eqb y x ≡ b → get_or (put_t t y (suc k)) x 0 ≡ cond b (suc k) (get_or t x 0)
            at-index true f = ap (λ z. get_or (put_t t z (suc k)) x 0) (eqb-true y x f) ∙ put_same t x (suc k) (omega arith) (omega arith)
            at-index false f = put_other t y (suc k) x (λ g. let z : ◌≡◌ {A = ℕ} 0 1 = ap (λ u. cond u 0 1) (sym (eq-eqb y x (sym g)) ∙ f) in omega arith)

        go : (y n : ℕ) → eqb n 1 && eqb y x ≡ is_only (name_at ns x) e.lhs
            → get_or (cond (eqb n 1 && eqb (get_or t y 0) k) (put_t t y (suc k)) t) x 0 ≡ cond (is_only (name_at ns x) e.lhs && eqb (get_or t x 0) k) (suc k) (get_or t x 0)
        go y n f = subst (λ (z : Bool). get_or (cond (eqb n 1 && eqb (get_or t y 0) k) (put_t t y (suc k)) t) x 0 ≡ cond (z && eqb (get_or t x 0) k) (suc k) (get_or t x 0)) f (by_count (eqb n 1))
          where
            by_count : (b : Bool) → get_or (cond (b && eqb (get_or t y 0) k) (put_t t y (suc k)) t) x 0 ≡ cond ((b && eqb y x) && eqb (get_or t x 0) k) (suc k) (get_or t x 0)
            by_count false = refl
            by_count true = by_index (eqb y x) refl
              where
                by_index : (b : Bool) → eqb y x ≡ b → get_or (cond (eqb (get_or t y 0) k) (put_t t y (suc k)) t) x 0 ≡ cond (b && eqb (get_or t x 0) k) (suc k) (get_or t x 0)
                by_index true g = ap (λ z. get_or (cond (eqb (get_or t z 0) k) (put_t t z (suc k)) t) x 0) (eqb-true y x g) ∙ here (eqb (get_or t x 0) k)
                  where
                    here : (b : Bool) → get_or (cond b (put_t t x (suc k)) t) x 0 ≡ cond b (suc k) (get_or t x 0)
                    here true = put_same t x (suc k) (omega arith) (omega arith)
                    here false = refl
                by_index false g = there (eqb (get_or t y 0) k)
                  where
                    there : (b : Bool) → get_or (cond b (put_t t y (suc k)) t) x 0 ≡ get_or t x 0
                    there true = set_at y ∙ ap (λ z. cond z (suc k) (get_or t x 0)) g
                    there false = refl

    assign-length : (p : ℕ) (t : List ℕ) → length (assign_t s k p t) ≡ length t
    unfolding assign_t with
    assign-length p t = go (eqb (number_in s p).value 1 && eqb (get_or t (number_in s (number_in s p).next).value 0) k)
      where
        go : (b : Bool) → length (cond b (put_t t (number_in s (number_in s p).next).value (suc k)) t) ≡ length t
        go true = put-length t (number_in s (number_in s p).next).value (suc k)
        go false = refl

    -- one equation, and then the others
    taken_twice : (e : Equation) (es : List Equation) (o : Name) (v : ℕ) (b : Bool) → is_only o e.lhs ≡ b
        → cond (is_some (own_value o es) && eqb (cond (b && eqb v k) (suc k) v) k) (suc k) (cond (b && eqb v k) (suc k) v) ≡ cond (is_some (own_value o (e ∷ es)) && eqb v k) (suc k) v
    unfolding own_value is_some
    taken_twice e es o v true f = rw f (go (eqb v k) refl (is_some (own_value o es)))
      where
        go : (c : Bool) → eqb v k ≡ c → (d : Bool) → cond (d && eqb (cond c (suc k) v) k) (suc k) (cond c (suc k) v) ≡ cond c (suc k) v
        go true g true = either (eqb (suc k) k)
          where
            either : (x : Bool) → cond x (suc k) (suc k) ≡ suc k
            either true = refl
            either false = refl
        go true g false = refl
        go false g true = rw g
        go false g false = refl
    taken_twice e es o v false f = rw f

    equations-at : (n p : ℕ) (es : List Equation) (q : ℕ) (t : List ℕ) (x : ℕ) → many (equation_in ns s) n p ≡ value es q → x < length ns → length ns ≤ length t
        → (get_or (each_of (assign_t s k) (over_equation ns s) n p t) x 0 ≡ taken t k x (is_some (own_value (name_at ns x) es))) × (length (each_of (assign_t s k) (over_equation ns s) n p t) ≡ length t)
    unfolding each_of taken own_value is_some
    equations-at zero p [] q t x e h l = (refl, refl)
    equations-at zero p (y ∷ es) q t x e h l = absurd (many-cut (equation_in ns s) p y es q e)
    equations-at (suc n) p [] q t x e h l = absurd (many-over (equation_in ns s) n p q e)
    equations-at (suc n) p (y ∷ es) q t x e h l =
        let a = many_more (equation_in ns s) n p y es q e in
        let u = equations-at n a.0 es q (assign_t s k p t) x a.2 h (omega (arith, l, assign-length p t)) in
        let to : over_equation ns s p ≡ a.0 = over-to p y a.0 a.1 in (
          ap (λ z. get_or (each_of (assign_t s k) (over_equation ns s) n z (assign_t s k p t)) x 0) to
              ∙ u.0
              ∙ ap (λ z. cond (is_some (own_value (name_at ns x) es) && eqb z k) (suc k) z) (assign-at p y a.0 t x a.1 h l)
              ∙ taken_twice y es (name_at ns x) (get_or t x 0) (is_only (name_at ns x) y.lhs) refl,
          ap (λ z. length (each_of (assign_t s k) (over_equation ns s) n z (assign_t s k p t))) to ∙ u.1 ∙ assign-length p t,
        )

    -- a scope that was read
    scope-at : (at : ℕ) (es : List Equation) (q : ℕ) (t : List ℕ) (x : ℕ) → equations_in ns s at ≡ value es q → x < length ns → length ns ≤ length t
        → (get_or (assign_scope_t ns s k at t) x 0 ≡ taken t k x (is_some (own_value (name_at ns x) es))) × (length (assign_scope_t ns s k at t) ≡ length t)
    unfolding assign_scope_t equations_in
    scope-at at es q t x e h l =
        let c = counted-value (equation_in ns s) s at es q e in
        let m = number-to s at (length es) c.0 (λ n p. each_of (assign_t s k) (over_equation ns s) n p t) c.1 in
        let u = equations-at (length es) c.0 es q t x c.2 h l in
        (ap (λ (y : List ℕ). get_or y x 0) m ∙ u.0, ap (λ (y : List ℕ). length y) m ∙ u.1)

  -- how far scopes assign o, from the scope k on, where v is how far it got
  unfoldable pub reached : Name → ℕ → ℕ → List Branch → ℕ
  reached o k v [] = v
  reached o k v (b ∷ bs) = reached o (suc k) (cond (is_some (own_value o b.equations) && eqb v k) (suc k) v) bs

  branches_at : (n k p : ℕ) (bs : List Branch) (q : ℕ) (t : List ℕ) (x : ℕ) → many (branch_in ns s) n p ≡ value bs q → k + n < 65535 → x < length ns → length ns ≤ length t
      → (get_or (pass_t (λ m j r z. assign_scope_t ns s j (body_in ns s r) z) (branch_end ns s) n k p t) x 0 ≡ reached (name_at ns x) k (get_or t x 0) bs)
      × (length (pass_t (λ m j r z. assign_scope_t ns s j (body_in ns s r) z) (branch_end ns s) n k p t) ≡ length t)
  unfolding pass_t reached taken
  branches_at zero k p [] q t x e f h l = (refl, refl)
  branches_at zero k p (b ∷ bs) q t x e f h l = absurd (many-cut (branch_in ns s) p b bs q e)
  branches_at (suc n) k p [] q t x e f h l = absurd (many-over (branch_in ns s) n p q e)
  branches_at (suc n) k p (b ∷ bs) q t x e f h l =
      let a = many_more (branch_in ns s) n p b bs q e in
      let r = branch-value ns s p b a.0 a.1 in
      let g : List ℕ → ℕ → List ℕ = λ z y. pass_t (λ m j r z. assign_scope_t ns s j (body_in ns s r) z) (branch_end ns s) n (suc k) y z in
      let u = scope-at k (omega arith) r.to-equations b.equations a.0 t x r.equations h l in
      let m : g (assign_scope_t ns s k (body_in ns s p) t) (branch_end ns s p) ≡ g (assign_scope_t ns s k r.to-equations t) a.0 = λ i. g (assign_scope_t ns s k (body-to ns s p b a.0 r i) t) (branch-end-to ns s p b a.0 r i) in
      let w = branches_at n (suc k) a.0 bs q (assign_scope_t ns s k r.to-equations t) x a.2 (omega arith) h (omega (arith, l, u.1)) in
      (ap (λ (y : List ℕ). get_or y x 0) m ∙ w.0 ∙ ap (λ y. reached (name_at ns x) (suc k) y bs) u.0, ap (λ (y : List ℕ). length y) m ∙ w.1 ∙ u.1)

  -- names of branches by their number
  unfoldable pub name_from : List Branch → ℕ → Name
  name_from [] j = []
  name_from (b ∷ bs) zero = b.name
  name_from (b ∷ bs) (suc j) = name_from bs j

  named-at : (n p : ℕ) (bs : List Branch) (q j : ℕ) → many (branch_in ns s) n p ≡ value bs q → j < length bs
      → (i : ℕ) × (i < length ns) × (name_at ns i ≡ name_from bs j) × ((number_in s (along (branch_end ns s) j p)).value ≡ i)
  unfolding along name_from
  named-at zero p [] q j e h = absurd (omega arith)
  named-at zero p (b ∷ bs) q j e h = absurd (many-cut (branch_in ns s) p b bs q e)
  named-at (suc n) p [] q j e h = absurd (omega arith)
  named-at (suc n) p (b ∷ bs) q zero e h =
      let a = many_more (branch_in ns s) n p b bs q e in
      let i = branch-number-to ns s p b a.0 (branch-value ns s p b a.0 a.1) in
      (i.0, i.1, i.2, ap (λ (y : Number). y.value) i.3)
  named-at (suc n) p (b ∷ bs) q (suc j) e h =
      let a = many_more (branch_in ns s) n p b bs q e in
      let u = named-at n a.0 bs q j a.2 (omega arith) in
      (u.0, u.1, u.2, ap (λ y. (number_in s (along (branch_end ns s) j y)).value) (branch-end-to ns s p b a.0 (branch-value ns s p b a.0 a.1)) ∙ u.3)

  -- what got not so far stays
  reached-stays : (o : Name) (k v : ℕ) (bs : List Branch) → v < k → reached o k v bs ≡ v
  unfolding reached
  reached-stays o k v [] h = refl
  reached-stays o k v (b ∷ bs) h =
      ap (λ y. reached o (suc k) y bs) (rw (ne_eqb v k (λ e. omega arith)) (go (is_some (own_value o b.equations)))) ∙ reached-stays o (suc k) v bs (omega arith)
    where
      go : (b : Bool) → cond (b && false) (suc k) v ≡ v
      go true = refl
      go false = refl

  -- the refusal of an output by how far it gets: past all branches, or up to one
  unfoldable pub Unassigned : Name → Name → List Branch → ℕ → Option Refusal → Type 0
  Unassigned a o bs v none = v ≡ length bs
  Unassigned a o bs v (some r) = (v < length bs) × (r ≡ output_unassigned a o (name_from bs v))

  in-branches : (a o : Name) (k : ℕ) (bs : List Branch) → (v : ℕ) × (reached o k k bs ≡ k + v) × Unassigned a o bs v (in_branches a o bs)
  unfolding reached in_branches Unassigned unless_assigned first_of name_from
  in-branches a o k [] = (0, omega arith, refl)
  in-branches a o k (b ∷ bs) = go (is_some (own_value o b.equations)) (in-branches a o (suc k) bs)
    where
      shifted : (v : ℕ) (x : Option Refusal) → Unassigned a o bs v x → Unassigned a o (b ∷ bs) (suc v) x
      shifted v none u = ap suc u
      shifted v (some r) u = (omega (arith, u.0), u.1)

      go : (c : Bool) → (v : ℕ) × (reached o (suc k) (suc k) bs ≡ suc k + v) × Unassigned a o bs v (in_branches a o bs)
          → (v : ℕ) × (reached o (suc k) (cond (c && eqb k k) (suc k) k) bs ≡ k + v) × Unassigned a o (b ∷ bs) v (first_of (cond c none (some (output_unassigned a o b.name))) (in_branches a o bs))
      go true u = (suc u.0, rw (eq-eqb k k refl) (u.1 ∙ omega arith), shifted u.0 (in_branches a o bs) u.2)
      go false u = (0, reached-stays o (suc k) k bs (omega arith) ∙ omega arith, (omega arith, refl))

  -- an activation that was read, as the code has it
  module _ (at : ℕ) (A : Activation) (z : ℕ) (r : ActivationRead ns s at A z) where
    unfoldable act : Act
    act = act_at ns s at

    act-is : (i : ℕ) × (act ≡ record { name = i; outputs = r.to-outputs; branches = r.to-branches; other = r.to-else; n = length A.branches })
    unfolding act
    act-is = let a = act-to ns s at A z r in (a.0, a.3)

    many-branches : act.n ≡ length A.branches
    many-branches = ap (λ (y : Act). y.n) act-is.1

    -- how far an output gets in all scopes
    assigned-at : (t : List ℕ) (x : ℕ) → length A.branches < 65534 → x < length ns → length ns ≤ length t
        → get_or (assigned_t ns s act t) x 0 ≡ cond (is_some (own_value (name_at ns x) A.else_equations) && eqb (reached (name_at ns x) 0 0 A.branches) (length A.branches)) (suc (length A.branches)) (reached (name_at ns x) 0 0 A.branches)
    unfolding assigned_t assign_branches_t taken clear_t
    assigned-at t x f h l =
        let n = length A.branches in
        let g : List ℕ = pass_t (λ m j p z. assign_scope_t ns s j (body_in ns s p) z) (branch_end ns s) n 0 r.b (clear_t (length ns) t) in
        let c = branches_at n 0 r.b A.branches r.to-else (clear_t (length ns) t) x r.branches (omega arith) h (omega (arith, l, fill-length (λ j. 0) (length ns) 0 t)) in
        let v : get_or g x 0 ≡ reached (name_at ns x) 0 0 A.branches = c.0 ∙ ap (λ y. reached (name_at ns x) 0 y A.branches) (fill-at (λ j. 0) (length ns) 0 t x (omega arith) (omega arith) (omega (arith, l))) in
        ap (λ (a : Act). get_or (assigned_t ns s a t) x 0) act-is.1
        ∙ ap (λ (y : List ℕ). get_or (assign_scope_t ns s n r.to-else y) x 0) (number-to s r.to-branches n r.b (λ m p. pass_t (λ m j p z. assign_scope_t ns s j (body_in ns s p) z) (branch_end ns s) m 0 p (clear_t (length ns) t)) r.count)
        ∙ (scope-at n (omega arith) r.to-else A.else_equations z g x r.else_equations h (omega (arith, l, c.1, fill-length (λ j. 0) (length ns) 0 t))).0
        ∙ ap (λ y. cond (is_some (own_value (name_at ns x) A.else_equations) && eqb y n) (suc n) y) v

    -- the names of scopes
    branch-called : (v : ℕ) → v < length A.branches → called ns (scope_name_t ns s act v) ≡ name_from A.branches v ∷ []
    unfolding scope_name_t called
    branch-called v h =
        let u = named-at (length A.branches) r.b A.branches r.to-else v r.branches h in
        ap (λ (a : Act). called ns (scope_name_t ns s a v)) act-is.1
        ∙ ap (called ns) (chosen (ltb v (length A.branches)) _ _ (lt-ltb v (length A.branches) h) ∙ (number-to s r.to-branches (length A.branches) r.b (λ n p. (number_in s (along (branch_end ns s) v p)).value) r.count ∙ u.3))
        ∙ rw (lt-ltb u.0 (length ns) u.1) (ap (λ y. y ∷ []) u.2)

    else-called : called ns (scope_name_t ns s act (length A.branches)) ≡ else_name ∷ []
    unfolding scope_name_t called
    else-called =
        ap (λ (a : Act). called ns (scope_name_t ns s a (length A.branches))) act-is.1
        ∙ ap (called ns) (left_out (ltb (length A.branches) (length A.branches)) _ _ (le-ltb (length A.branches) (length A.branches) (omega arith)))
        ∙ rw (le-ltb (suc (length ns)) (length ns) (omega arith), ne_eqb (suc (length ns)) (length ns) (λ e. omega (arith, e)))

    old-called : (i : ℕ) (o : Name) → i < length ns → name_at ns i ≡ o → called ns i ≡ o ∷ []
    unfolding called
    old-called i o h e = rw (lt-ltb i (length ns) h) (ap (λ y. y ∷ []) e)

    refused-by : (i v : ℕ) (o b : Name) → i < length ns → name_at ns i ≡ o → called ns v ≡ b ∷ [] → refusal_by ns A.name (refused_t 11 i v) ≡ some (output_unassigned A.name o b)
    unfolding refusal_by output_unassigned
    refused-by i v o b h e f = λ j. some (record { kind = 11; names = A.name ∷ (old-called i o h e j ++ f j) })

    -- outputs in order
    outputs-are : (T : List ℕ) → ((x : ℕ) → x < length ns → get_or T x 0 ≡ cond (is_some (own_value (name_at ns x) A.else_equations) && eqb (reached (name_at ns x) 0 0 A.branches) (length A.branches)) (suc (length A.branches)) (reached (name_at ns x) 0 0 A.branches))
        → (n p : ℕ) (ps : List Port) (q : ℕ) → many (port_in ns s) n p ≡ value ps q → refusal_by ns A.name (unassigned_t ns s act T n p) ≡ in_scopes A ps
    unfolding unassigned_t in_scopes refusal_by port_in Unassigned first_of unless_assigned is_some
    outputs-are T f zero p [] q e = refl
    outputs-are T f zero p (o ∷ ps) q e = absurd (many-cut (port_in ns s) p o ps q e)
    outputs-are T f (suc n) p [] q e = absurd (many-over (port_in ns s) n p q e)
    outputs-are T f (suc n) p (o ∷ ps) q e =
        let a = many_more (port_in ns s) n p o ps q e in
        let b = bind-value (name_in ns s p) _ o a.0 a.1 in
        let m = map-value _ (type_in ns s b.1) o a.0 b.3 in
        let i = name-number ns s p b.0 b.1 b.2 in
        let named : name_at ns i.i ≡ o.name = i.named ∙ ap (λ (y : Port). y.name) m.2 in
        ap (refusal_by ns A.name) (number-to s p i.i b.1 (λ x q. cond (ltb act.n (get_or T x 0)) (unassigned_t ns s act T n (end_of (port_in ns s p))) (refused_t 11 x (scope_name_t ns s act (get_or T x 0)))) i.is)
        ∙ one i.i i.small named (in-branches A.name o.name 0 A.branches) (f i.i i.small ∙ ap (λ y. cond (is_some (own_value y A.else_equations) && eqb (reached y 0 0 A.branches) (length A.branches)) (suc (length A.branches)) (reached y 0 0 A.branches)) named)
        (ap (λ y. refusal_by ns A.name (unassigned_t ns s act T n y)) (end-to (port_in ns s p) o a.0 a.1) ∙ outputs-are T f n a.0 ps q a.2)
      where
        one : (x : ℕ) → x < length ns → name_at ns x ≡ o.name → (v : ℕ) × (reached o.name 0 0 A.branches ≡ 0 + v) × Unassigned A.name o.name A.branches v (in_branches A.name o.name A.branches)
            → get_or T x 0 ≡ cond (is_some (own_value o.name A.else_equations) && eqb (reached o.name 0 0 A.branches) (length A.branches)) (suc (length A.branches)) (reached o.name 0 0 A.branches)
            → refusal_by ns A.name (unassigned_t ns s act T n (end_of (port_in ns s p))) ≡ in_scopes A ps
            → refusal_by ns A.name (cond (ltb act.n (get_or T x 0)) (unassigned_t ns s act T n (end_of (port_in ns s p))) (refused_t 11 x (scope_name_t ns s act (get_or T x 0))))
            ≡ first_of (in_branches A.name o.name A.branches) (first_of (unless_assigned A.name o.name else_name A.else_equations) (in_scopes A ps))
        one x h k u g ih = go (in_branches A.name o.name A.branches) u.2
          where
            v : ℕ
            v = u.0

            got : reached o.name 0 0 A.branches ≡ v
            got = u.1 ∙ omega arith

            -- refused at the scope w
            stops : (w : ℕ) (b : Name) → get_or T x 0 ≡ w → w ≤ length A.branches → called ns (scope_name_t ns s act w) ≡ b ∷ []
                → refusal_by ns A.name (cond (ltb act.n (get_or T x 0)) (unassigned_t ns s act T n (end_of (port_in ns s p))) (refused_t 11 x (scope_name_t ns s act (get_or T x 0)))) ≡ some (output_unassigned A.name o.name b)
            stops w b d l c =
                ap (refusal_by ns A.name) (left_out (ltb act.n (get_or T x 0)) _ _ (le-ltb act.n (get_or T x 0) (omega (arith, d, many-branches))))
                ∙ ap (λ y. refusal_by ns A.name (refused_t 11 x (scope_name_t ns s act y))) d
                ∙ refused-by x (scope_name_t ns s act w) o.name b h k c

            go : (y : Option Refusal) → Unassigned A.name o.name A.branches v y
                → refusal_by ns A.name (cond (ltb act.n (get_or T x 0)) (unassigned_t ns s act T n (end_of (port_in ns s p))) (refused_t 11 x (scope_name_t ns s act (get_or T x 0))))
                ≡ first_of y (first_of (unless_assigned A.name o.name else_name A.else_equations) (in_scopes A ps))
            go (some y) w =
                stops v (name_from A.branches v)
                (g ∙ rw (ne_eqb (reached o.name 0 0 A.branches) (length A.branches) (λ d. omega (arith, w.0, sym got ∙ d))) (short (is_some (own_value o.name A.else_equations)) ∙ got))
                (omega (arith, w.0)) (branch-called v w.0)
                ∙ ap some (sym w.1)
              where
                short : (b : Bool) → cond (b && false) (suc (length A.branches)) (reached o.name 0 0 A.branches) ≡ reached o.name 0 0 A.branches
                short true = refl
                short false = refl
            go none w = last (is_some (own_value o.name A.else_equations)) (g ∙ rw (eq-eqb (reached o.name 0 0 A.branches) (length A.branches) (got ∙ w)) refl)
              where
                last : (b : Bool) → get_or T x 0 ≡ cond (b && true) (suc (length A.branches)) (reached o.name 0 0 A.branches)
                    → refusal_by ns A.name (cond (ltb act.n (get_or T x 0)) (unassigned_t ns s act T n (end_of (port_in ns s p))) (refused_t 11 x (scope_name_t ns s act (get_or T x 0))))
                    ≡ first_of (cond b none (some (output_unassigned A.name o.name else_name))) (in_scopes A ps)
                last true d = ap (refusal_by ns A.name) (chosen (ltb act.n (get_or T x 0)) _ _ (lt-ltb act.n (get_or T x 0) (omega (arith, d, many-branches)))) ∙ ih
                last false d = stops (length A.branches) else_name (d ∙ got ∙ w) (omega arith) else-called

    unfoldable few-branches : Type 0
    few-branches = length A.branches < 65534

    in-scopes-is : (t : List ℕ) → few-branches → length ns ≤ length t → refusal_by ns A.name (in_scopes_t ns s act t) ≡ in_scopes A A.outputs
    unfolding in_scopes_t few-branches ports_in
    in-scopes-is t f l =
        let c = counted-value (port_in ns s) s r.to-outputs A.outputs r.to-branches r.outputs in
        ap (λ (y : ℕ). refusal_by ns A.name (with (number_in s y) λ n p. unassigned_t ns s act (assigned_t ns s act t) n p)) (ap (λ (y : Act). y.outputs) act-is.1)
        ∙ ap (refusal_by ns A.name) (number-to s r.to-outputs (length A.outputs) c.0 (λ n p. unassigned_t ns s act (assigned_t ns s act t) n p) c.1)
        ∙ outputs-are (assigned_t ns s act t) (λ x h. assigned-at t x f h l) (length A.outputs) c.0 A.outputs r.to-branches c.2

    -- one refusal after the other
    refused-first : (x : Refused) (y : Refused) (a b : Option Refusal) → refusal_by ns A.name x ≡ a → refusal_by ns A.name y ≡ b → refusal_by ns A.name (or_else_t ns s x y) ≡ first_of a b
    unfolding or_else_t refusal_by first_of
    refused-first x y a b e f = go (eqb x.kind 0) refl e
      where
        go : (c : Bool) → eqb x.kind 0 ≡ c → cond c none (some (record { kind = x.kind; names = A.name ∷ (called ns x.second ++ called ns x.third) })) ≡ a → refusal_by ns A.name (cond c y x) ≡ first_of a b
        go true d g = f ∙ ap (λ z. first_of z b) g
        go false d g = rw d (ap (λ z. first_of z b) g)

    none-called : called ns (length ns) ≡ []
    unfolding called
    none-called = rw (le-ltb (length ns) (length ns) (omega arith), eq-eqb (length ns) (length ns) refl)

    nothing-refused : refusal_by ns A.name (refused_t 0 (length ns) (length ns)) ≡ none
    unfolding refusal_by
    nothing-refused = refl

    one-named : (k : ℕ) → refusal_by ns A.name (refused_t (suc k) (length ns) (length ns)) ≡ some (record { kind = suc k; names = A.name ∷ [] })
    unfolding refusal_by
    one-named k = rw (ne_eqb (suc k) 0 (λ e. omega (arith, e))) (λ j. some (record { kind = suc k; names = A.name ∷ (none-called j ++ none-called j) }))

    -- no branches, no outputs
    branches-first : (bs : List Branch) (n : ℕ) (x : Refused) (b : Option Refusal) → n ≡ length bs → refusal_by ns A.name x ≡ b → refusal_by ns A.name (cond (eqb n 0) (refused_t 9 (length ns) (length ns)) x) ≡ first_of (branchless A.name bs) b
    unfolding branchless no_branches first_of
    branches-first [] n x b e f = ap (refusal_by ns A.name) (chosen (eqb n 0) _ _ (eq-eqb n 0 e)) ∙ one-named 8
    branches-first (c ∷ bs) n x b e f = ap (refusal_by ns A.name) (left_out (eqb n 0) _ _ (ne_eqb n 0 (λ d. omega (arith, e, d)))) ∙ f

    outputs-first : (ps : List Port) (n : ℕ) (x : Refused) (b : Option Refusal) → n ≡ length ps → refusal_by ns A.name x ≡ b → refusal_by ns A.name (cond (eqb n 0) (refused_t 10 (length ns) (length ns)) x) ≡ first_of (outputless A.name ps) b
    unfolding outputless no_outputs first_of
    outputs-first [] n x b e f = ap (refusal_by ns A.name) (chosen (eqb n 0) _ _ (eq-eqb n 0 e)) ∙ one-named 9
    outputs-first (p ∷ ps) n x b e f = ap (refusal_by ns A.name) (left_out (eqb n 0) _ _ (ne_eqb n 0 (λ d. omega (arith, e, d)))) ∙ f

    doubled : (x : ℕ) (o : Option Name) → RepeatedAs x o → (y : Refused) (b : Option Refusal) → refusal_by ns A.name y ≡ b
        → refusal_by ns A.name (cond (ltb x (length ns)) (refused_t 12 x (length ns)) y) ≡ first_of (as_refusal (λ n. duplicate_branch A.name n) o) b
    unfolding RepeatedAs as_refusal duplicate_branch first_of refusal_by
    doubled x none e y b f = ap (refusal_by ns A.name) (left_out (ltb x (length ns)) _ _ (le-ltb x (length ns) (omega (arith, e)))) ∙ f
    doubled x (some n) e y b f =
        ap (refusal_by ns A.name) (chosen (ltb x (length ns)) _ _ (lt-ltb x (length ns) e.0))
        ∙ λ j. some (record { kind = 12; names = A.name ∷ (old-called x n e.0 e.1 j ++ none-called j) })

    module _ (last : ℕ) (few : length ns < 65536) (by : Bytes s) (short : length s ≤ 65536) (L : LastIs ns last) (read : activation_in ns s at ≡ value A z) where
      misuse-is : refusal_by ns A.name (cond (any_bad_last_t ns s last act) (refused_t 14 (length ns) (length ns)) (refused_t 0 (length ns) (length ns))) ≡ misuse A
      unfolding misuse last_args act
      misuse-is = ap (λ b. refusal_by ns A.name (cond b (refused_t 14 (length ns) (length ns)) (refused_t 0 (length ns) (length ns)))) (any-misused-is ns s few by short last L at A z read) ∙ go (any_bad_last (expressions A))
        where
          go : (b : Bool) → refusal_by ns A.name (cond b (refused_t 14 (length ns) (length ns)) (refused_t 0 (length ns) (length ns))) ≡ cond b (some (record { kind = 14; names = A.name ∷ [] })) none
          go true = one-named 13
          go false = nothing-refused

      -- THE LINK: the first refusal of an activation that was read there
      pub checks-are : (t u : List ℕ) → length A.branches < 65534 → length ns ≤ length t → length ns ≤ length u → refusal_by ns A.name (checks_t ns s last (act_at ns s at) t u) ≡ checks A
      unfolding checks_t checks ports_in act few-branches
      checks-are t u f l m =
          branches-first A.branches act.n _ _ many-branches (outputs-first A.outputs (number_in s act.outputs).value _ _ many-outputs rest)
        where
          many-outputs : (number_in s act.outputs).value ≡ length A.outputs
          many-outputs =
              let c = counted-value (port_in ns s) s r.to-outputs A.outputs r.to-branches r.outputs in
              ap (λ (y : Act). (number_in s y.outputs).value) act-is.1 ∙ ap (λ (y : Number). y.value) (number-num s r.to-outputs (length A.outputs) c.0 c.1)

          rest : refusal_by ns A.name (cond (ltb (repeated_in ns s act.branches t) (length ns)) (refused_t 12 (repeated_in ns s act.branches t) (length ns)) (or_else_t ns s (in_scopes_t ns s act u) (cond (any_bad_last_t ns s last act) (refused_t 14 (length ns) (length ns)) (refused_t 0 (length ns) (length ns)))))
              ≡ first_of (as_refusal (λ b. duplicate_branch A.name b) (repeated [] (branch_names A.branches))) (first_of (in_scopes A A.outputs) (misuse A))
          rest = doubled (repeated_in ns s act.branches t) (repeated [] (branch_names A.branches))
              (subst (λ (y : ℕ). RepeatedAs (repeated_in ns s y t) (repeated [] (branch_names A.branches))) (sym (ap (λ (y : Act). y.branches) act-is.1)) (repeated-is r.to-branches A.branches r.b r.to-else t r.count r.branches l))
              (or_else_t ns s (in_scopes_t ns s act u) (cond (any_bad_last_t ns s last act) (refused_t 14 (length ns) (length ns)) (refused_t 0 (length ns) (length ns))))
              (first_of (in_scopes A A.outputs) (misuse A))
              (refused-first (in_scopes_t ns s act u) _ (in_scopes A A.outputs) (misuse A) (in-scopes-is u f m) misuse-is)

    -- scope equations without left names
    nameless-at : (p : ℕ) (e : Equation) (q : ℕ) → equation_in ns s p ≡ value e q → nameless_t ns s p ≡ nameless e.lhs
    unfolding nameless_t names_in counted nameless
    nameless-at p e q d =
        let b = equation-value ns s p e q d in
        let c = counted-value (name_in ns s) s p e.lhs b.to-rhs b.lhs in
        ap (λ (y : Number). eqb y.value 0) (number-num s p (length e.lhs) c.0 c.1) ∙ go e.lhs
      where
        go : (l : List Name) → eqb (length l) 0 ≡ nameless l
        go [] = refl
        go (x ∷ l) = ne_eqb (length (x ∷ l)) 0 (λ h. omega (arith, h))

    leftless-equations : (n p : ℕ) (es : List Equation) (q : ℕ) → many (equation_in ns s) n p ≡ value es q → any_t (nameless_t ns s) (over_equation ns s) n p ≡ leftless es
    unfolding any_t leftless over_equation
    leftless-equations zero p [] q e = refl
    leftless-equations zero p (x ∷ es) q e = absurd (many-cut (equation_in ns s) p x es q e)
    leftless-equations (suc n) p [] q e = absurd (many-over (equation_in ns s) n p q e)
    leftless-equations (suc n) p (x ∷ es) q e =
        let a = many_more (equation_in ns s) n p x es q e in
        let f = nameless-at p x a.0 a.1 in
        let g = ap (any_t (nameless_t ns s) (over_equation ns s) n) (end-to (equation_in ns s p) x a.0 a.1) ∙ leftless-equations n a.0 es q a.2 in
        λ i. f i || g i

    leftless-scope : (p : ℕ) (es : List Equation) (q : ℕ) → equations_in ns s p ≡ value es q → scope_has_empty_left_t ns s p ≡ leftless es
    unfolding scope_has_empty_left_t equations_in
    leftless-scope p es q e =
        let c = counted-value (equation_in ns s) s p es q e in
        number-to s p (length es) c.0 _ c.1 ∙ leftless-equations (length es) c.0 es q c.2

    leftless-branches : (n p : ℕ) (bs : List Branch) (q : ℕ) → many (branch_in ns s) n p ≡ value bs q → any_t (λ j. scope_has_empty_left_t ns s (body_in ns s j)) (branch_end ns s) n p ≡ leftless_branch bs
    unfolding any_t leftless_branch
    leftless-branches zero p [] q e = refl
    leftless-branches zero p (b ∷ bs) q e = absurd (many-cut (branch_in ns s) p b bs q e)
    leftless-branches (suc n) p [] q e = absurd (many-over (branch_in ns s) n p q e)
    leftless-branches (suc n) p (b ∷ bs) q e =
        let a = many_more (branch_in ns s) n p b bs q e in
        let x = branch-value ns s p b a.0 a.1 in
        let f = ap (scope_has_empty_left_t ns s) (body-to ns s p b a.0 x) ∙ leftless-scope x.to-equations b.equations a.0 x.equations in
        let g = ap (any_t (λ j. scope_has_empty_left_t ns s (body_in ns s j)) (branch_end ns s) n) (branch-end-to ns s p b a.0 x) ∙ leftless-branches n a.0 bs q a.2 in
        λ i. f i || g i

    -- THE LINK: the same of an activation that was read there
    pub leftless-is : has_empty_left_t ns s (act_at ns s at) ≡ has_empty_left A
    unfolding has_empty_left_t has_empty_left any_branch_t act
    leftless-is =
        let f = number-to s r.to-branches (length A.branches) r.b (λ n p. any_t (λ j. scope_has_empty_left_t ns s (body_in ns s j)) (branch_end ns s) n p) r.count ∙ leftless-branches (length A.branches) r.b A.branches r.to-else r.branches in
        let g = leftless-scope r.to-else A.else_equations z r.else_equations in
        ap (λ (y : Act). has_empty_left_t ns s y) act-is.1 ∙ (λ i. f i || g i)
