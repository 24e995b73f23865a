-- A definition that is not refused passes the tests of `Accepting`.
use mathlib.Core.List.{List, [], ◌∷◌}
use mathlib.Core.Bool.{Bool, true, false, cond, not, ◌&&◌, ◌||◌}
use mathlib.Core.Option.{Option, none, some, some-ne-none}
use mathlib.Core.Path.{◌≡◌, refl, sym, ◌∙◌}
use Rattle.pack_rules.specs.Names.{Name, eq_name, member}
use Rattle.pack_rules.specs.Report.{Refusal, as_refusal, first_of}
use Rattle.pack_rules.specs.Syntax.{Activation, Branch, Equation, Port, Transition}
use Rattle.machine_rules.specs.Resolved.{ResolvedMachine, ResolvedRegions, ResolvedStates, r_cons, r_nil, s_cons, s_nil}
use Rattle.pack.proofs.Tables.{eq_name-refl, eq_name-true}
use Rattle.machine_rules.specs.Checks.{bad_initial, bad_target, check_no_states, collect_state_names, refusal_of, repeated, require_cover_regions, require_cover_states, uncovered, unless_covered, unless_other, validate_regions, validate_states}
use Rattle.machine_rules.specs.Lower.{all_states_cover, is_only, is_some, names_of, own_value, some_region_covers}
use Rattle.machine_rules.specs.Refusals.{duplicate_state, unassigned, unknown_initial, unknown_target}
use Rattle.activation_rules.specs.Checks.{branch_names, branchless, checks, else_name, in_branches, in_scopes, misuse, outputless, unless_assigned}
use Rattle.activation_rules.specs.Refusals.{duplicate_branch, no_branches, output_unassigned}
use Rattle.runs.proofs.Accepting.{accepted, act_accepted, all_assign, all_targets, assigns, covers_all, distinct, nonempty, outputs_assigned, valid_r, valid_s}
use Rattle.run_rules.proofs.Booleans.{and_both, true-false}
use Rattle.machines.proofs.Accepted.{first-none, refusal-none}

-- no name stands twice
not-again : (seen ns : List Name) → repeated seen ns ≡ none → (x : Name) → member x seen ≡ true → member x ns ≡ false
unfolding repeated member
not-again seen [] e x m = refl
not-again seen (n ∷ ns) e x m = go (member n seen) refl e (λ (q : repeated (n ∷ seen) ns ≡ none). not-again (n ∷ seen) ns q x (later (eq_name x n)))
  where
    later : (b : Bool) → b || member x seen ≡ true
    later true = refl
    later false = m

    go : (b : Bool) → member n seen ≡ b → ◌≡◌ {A = Option Name} (elim b [ true ↦ some n | false ↦ repeated (n ∷ seen) ns ]) none
        → (repeated (n ∷ seen) ns ≡ none → member x ns ≡ false) → eq_name x n || member x ns ≡ false
    go true p q r = absurd (some-ne-none n q)
    go false p q r = here (eq_name x n) refl
      where
        here : (b : Bool) → eq_name x n ≡ b → eq_name x n || member x ns ≡ false
        here true s = absurd (true-false {b = member n seen} (rw (eq_name-true x n s) at m) p)
        here false s = rw s (r q)

repeated-rest : (seen : List Name) (n : Name) (ns : List Name) → repeated seen (n ∷ ns) ≡ none → repeated (n ∷ seen) ns ≡ none
unfolding repeated
repeated-rest seen n ns e = go (member n seen) e
  where
    go : (b : Bool) → ◌≡◌ {A = Option Name} (elim b [ true ↦ some n | false ↦ repeated (n ∷ seen) ns ]) none → repeated (n ∷ seen) ns ≡ none
    go true q = absurd (some-ne-none n q)
    go false q = q

all-distinct : (seen ns : List Name) → repeated seen ns ≡ none → distinct ns ≡ true
unfolding distinct member
all-distinct seen [] e = refl
all-distinct seen (n ∷ ns) e =
    let r = repeated-rest seen n ns e in
    let f : member n ns ≡ false = not-again (n ∷ seen) ns r n (rw (eq_name-refl n)) in
    and_both (not (member n ns)) (distinct ns) (rw f) (all-distinct (n ∷ seen) ns r)

-- initial states and targets
initial-known : (m i : Name) (ns : List Name) → bad_initial m i ns ≡ none → member i ns ≡ true
unfolding bad_initial
initial-known m i ns e = go (member i ns) refl e
  where
    go : (b : Bool) → member i ns ≡ b → cond b none (some (unknown_initial m i)) ≡ none → member i ns ≡ true
    go true p q = p
    go false p q = absurd (some-ne-none (unknown_initial m i) q)

targets-known : (m s : Name) (ns : List Name) (ts : List Transition) → bad_target m s ns ts ≡ none → all_targets ns ts ≡ true
unfolding bad_target all_targets
targets-known m s ns [] e = refl
targets-known m s ns (t ∷ ts) e = go (member t.target ns) refl e (λ (q : bad_target m s ns ts ≡ none). targets-known m s ns ts q)
  where
    go : (b : Bool) → member t.target ns ≡ b → ◌≡◌ {A = Option Refusal} (elim b [ true ↦ bad_target m s ns ts | false ↦ some (unknown_target m s t.target) ]) none
        → (bad_target m s ns ts ≡ none → all_targets ns ts ≡ true) → member t.target ns && all_targets ns ts ≡ true
    go true p q r = rw p (r q)
    go false p q r = absurd (some-ne-none (unknown_target m s t.target) q)

mutual
  unfolding validate_states valid_s

  valid-states : (m : Name) (ns : List Name) (ss : ResolvedStates) → validate_states m ns ss ≡ none → valid_s ns ss ≡ true
  valid-states m ns s_nil e = refl
  valid-states m ns (s_cons s es ts rs rest) e =
      let p = first-none (bad_target m s ns ts) (first_of (validate_regions m rs) (validate_states m ns rest)) e in
      let q = first-none (validate_regions m rs) (validate_states m ns rest) p.1 in
      and_both (all_targets ns ts) (valid_r rs && valid_s ns rest) (targets-known m s ns ts p.0)
      (and_both (valid_r rs) (valid_s ns rest) (valid-regions m rs q.0) (valid-states m ns rest q.1))

  valid-regions : (m : Name) (rs : ResolvedRegions) → validate_regions m rs ≡ none → valid_r rs ≡ true
  valid-regions m r_nil e = refl
  valid-regions m (r_cons i h ss rest) e =
      let p = first-none (bad_initial m i (names_of ss)) (first_of (validate_states m (names_of ss) ss) (validate_regions m rest)) e in
      let q = first-none (validate_states m (names_of ss) ss) (validate_regions m rest) p.1 in
      and_both (member i (names_of ss) && valid_s (names_of ss) ss) (valid_r rest)
      (and_both (member i (names_of ss)) (valid_s (names_of ss) ss) (initial-known m i (names_of ss) p.0) (valid-states m (names_of ss) ss q.0))
      (valid-regions m rest q.1)

-- outputs
own : (b : Bool) (u : Option Name) (c : Bool) → unless_covered b u ≡ none → (u ≡ none → c ≡ true) → b || c ≡ true
unfolding unless_covered
own true u c q r = refl
own false u c q r = r q

either : (u : Option Name) (b c : Bool) → unless_other u b ≡ none → (u ≡ none → c ≡ true) → c || b ≡ true
unfolding unless_other
either none b c q r = rw (r refl)
either (some x) true true q r = refl
either (some x) true false q r = refl
either (some x) false c q r = absurd (some-ne-none x q)

mutual
  unfolding require_cover_states all_states_cover

  covered-states : (o : Name) (ss : ResolvedStates) → require_cover_states o ss ≡ none → all_states_cover o ss ≡ true
  covered-states o s_nil e = refl
  covered-states o (s_cons s es ts rs rest) e =
      let p = first-none (unless_covered (is_some (own_value o es)) (require_cover_regions o s rs)) (require_cover_states o rest) e in
      and_both (is_some (own_value o es) || some_region_covers o rs) (all_states_cover o rest)
      (own (is_some (own_value o es)) (require_cover_regions o s rs) (some_region_covers o rs) p.0 (λ q. covered-regions o s rs q)) (covered-states o rest p.1)

  covered-regions : (o s : Name) (rs : ResolvedRegions) → require_cover_regions o s rs ≡ none → some_region_covers o rs ≡ true
  covered-regions o s r_nil e = absurd (some-ne-none s e)
  covered-regions o s (r_cons i h ss rest) e = either (require_cover_states o ss) (some_region_covers o rest) (all_states_cover o ss) e (λ q. covered-states o ss q)

all-covered : (m : Name) (ss : ResolvedStates) (ps : List Port) → uncovered m ss ps ≡ none → covers_all ss ps ≡ true
unfolding uncovered covers_all
all-covered m ss [] e = refl
all-covered m ss (p ∷ ps) e =
    let q = first-none (as_refusal (λ s. unassigned m p.name s) (require_cover_states p.name ss)) (uncovered m ss ps) e in
    and_both (all_states_cover p.name ss) (covers_all ss ps)
    (covered-states p.name ss (refusal-none (λ s. unassigned m p.name s) (require_cover_states p.name ss) q.0)) (all-covered m ss ps q.1)

pub not-refused : (m : ResolvedMachine) → refusal_of m ≡ none → accepted m ≡ true
unfolding refusal_of accepted
not-refused m e =
    let ss = m.states in
    let ns = names_of m.states in
    let p₁ = first-none (check_no_states m.name ss) _ e in
    let p₂ = first-none (as_refusal (λ n. duplicate_state m.name n) (repeated [] (collect_state_names ss))) _ p₁.1 in
    let p₃ = first-none (bad_initial m.name m.initial ns) _ p₂.1 in
    let p₄ = first-none (validate_states m.name ns ss) _ p₃.1 in
    and_both (distinct (collect_state_names ss) && (member m.initial ns && valid_s ns ss)) (covers_all ss m.outputs)
    (and_both (distinct (collect_state_names ss)) (member m.initial ns && valid_s ns ss)
    (all-distinct [] (collect_state_names ss) (refusal-none (λ n. duplicate_state m.name n) (repeated [] (collect_state_names ss)) p₂.0))
    (and_both (member m.initial ns) (valid_s ns ss) (initial-known m.name m.initial ns p₃.0) (valid-states m.name ns ss p₄.0)))
    (all-covered m.name ss m.outputs p₄.1)

-- activations
own-assigns : (o : Name) (es : List Equation) → is_some (own_value o es) ≡ assigns o es
unfolding own_value assigns is_some
own-assigns o [] = refl
own-assigns o (e ∷ es) = go (is_only o e.lhs) (own-assigns o es)
  where
    go : (b : Bool) → is_some (own_value o es) ≡ assigns o es → is_some (cond b (some e.rhs) (own_value o es)) ≡ b || assigns o es
    go true r = refl
    go false r = r

is-assigned : (a o b : Name) (es : List Equation) → unless_assigned a o b es ≡ none → assigns o es ≡ true
unfolding unless_assigned
is-assigned a o b es e = sym (own-assigns o es) ∙ go (is_some (own_value o es)) e
  where
    go : (c : Bool) → cond c none (some (output_unassigned a o b)) ≡ none → c ≡ true
    go true q = refl
    go false q = absurd (some-ne-none (output_unassigned a o b) q)

in-branches : (a o : Name) (bs : List Branch) → in_branches a o bs ≡ none → all_assign o bs ≡ true
unfolding in_branches all_assign
in-branches a o [] e = refl
in-branches a o (b ∷ bs) e =
    let p = first-none (unless_assigned a o b.name b.equations) (in_branches a o bs) e in
    and_both (assigns o b.equations) (all_assign o bs) (is-assigned a o b.name b.equations p.0) (in-branches a o bs p.1)

in-scopes : (A : Activation) (ps : List Port) → in_scopes A ps ≡ none → outputs_assigned A.branches A.else_equations ps ≡ true
unfolding in_scopes outputs_assigned
in-scopes A [] e = refl
in-scopes A (p ∷ ps) e =
    let q = first-none (in_branches A.name p.name A.branches) _ e in
    let r = first-none (unless_assigned A.name p.name else_name A.else_equations) (in_scopes A ps) q.1 in
    and_both (all_assign p.name A.branches && assigns p.name A.else_equations) (outputs_assigned A.branches A.else_equations ps)
    (and_both (all_assign p.name A.branches) (assigns p.name A.else_equations) (in-branches A.name p.name A.branches q.0) (is-assigned A.name p.name else_name A.else_equations r.0))
    (in-scopes A ps r.1)

has-branch : (a : Name) (bs : List Branch) → branchless a bs ≡ none → nonempty bs ≡ true
unfolding branchless nonempty
has-branch a [] e = absurd (some-ne-none (no_branches a) e)
has-branch a (b ∷ bs) e = refl

pub not-refused-act : (A : Activation) → checks A ≡ none → act_accepted A ≡ true
unfolding checks act_accepted
not-refused-act A e =
    let p₁ = first-none (branchless A.name A.branches) _ e in
    let p₂ = first-none (outputless A.name A.outputs) _ p₁.1 in
    let p₃ = first-none (as_refusal (λ b. duplicate_branch A.name b) (repeated [] (branch_names A.branches))) _ p₂.1 in
    let p₄ = first-none (in_scopes A A.outputs) (misuse A) p₃.1 in
    and_both (nonempty A.branches) (outputs_assigned A.branches A.else_equations A.outputs) (has-branch A.name A.branches p₁.0) (in-scopes A A.outputs p₄.0)
