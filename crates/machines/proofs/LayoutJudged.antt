-- A machine that is laid out is judged as its resolved tree is checked.
use Prim.Native.Nat.{ℕ, zero, suc, ◌<◌, ◌≤◌}
use native.Mathlib.Omega.{arith}
use mathlib.Core.List.{List, [], ◌∷◌}
use mathlib.Core.Bool.{Bool, true, false, cond}
use mathlib.Core.Option.{Option, none, some}
use mathlib.Core.Logic.{inl, inr}
use mathlib.Core.Path.{◌≡◌, refl, sym, ap, subst, ◌∙◌}
use lib.ListN.{length, get_or, take, length-append, length-take}
use lib.Dec.{eqb, ltb}
use borrow.Author.Tests.{eq-eqb, le-ltb, ne_eqb}
use Rattle.wire.specs.Answer.{counted, many, u16, value}
use Rattle.wire.specs.Lists.{All}
use Rattle.wire.proofs.Answers.{bind-value, map-value}
use Rattle.std.specs.Prelude.{Ok, Err, Option as Maybe, Some, None}
use Rattle.pack_rules.specs.Names.{Name}
use Rattle.pack_rules.specs.Syntax.{Port}
use Rattle.machine_rules.specs.Resolved.{ResolvedMachine, ResolvedStates, r_cons, r_nil, s_cons, s_nil}
use Rattle.pack_rules.specs.Forms.{name_at}
use Rattle.pack_rules.specs.Legal.{Fresh}
use Rattle.pack_rules.specs.Read.{name_in, port_in, ports_in, type_in}
use Rattle.pack_rules.specs.Report.{Refusal, as_refusal, first_of}
use Rattle.pack_rules.specs.Write.{enc}
use Rattle.pack.proofs.Tables.{enc-append}
use Rattle.machines.specs.declared.verdicts.Refusal.TheVariants as no
use Rattle.machines.specs.declared.validate.Checked.{Checked}
use Rattle.machines.specs.declared.validate.Checked.TheVariants as ck
use Rattle.machine_rules.specs.Refusals.{duplicate_state, no_states, unassigned, unknown_initial, unknown_target}
use Rattle.machine_rules.specs.Resolve.{short_s}
use Rattle.machines.specs.ResolvedIn.{end_of}
use Rattle.machines.specs.CheckedReads.{num, number_in}
use Rattle.machines.specs.Layout.{HeldR, LaidR, l_end, l_more, r_more}
use Rattle.machines.specs.LayoutAt.{Board}
use Rattle.machine_rules.specs.Lower.{names_of, size_s}
use Rattle.machine_rules.specs.Checks.{bad_initial, check_no_states, collect_state_names, refusal_of, repeated, require_cover_states, uncovered, validate_states}
use Rattle.machines.specs.CoverAt.{missed, uncovered_t}
use Rattle.machines.specs.EmitAt.{letters_at}
use Rattle.machines.specs.Duplicates.{duplicate_at}
use Rattle.machines.specs.ValidateAt.{checked_region}
use Rattle.machines.specs.VerdictAt.{Judged, again_called, called_at, checked_j, laid_j, named, no_name, outputs_at, outputs_j, state_called, unless_again, unless_missed}
use Rattle.machines.specs.VerdictMeaning.{RefusedFor}
use Rattle.machines.proofs.Reading.{many-cut, many_more, many-over, name-number}
use Rattle.machines.proofs.CheckedReadLaws.{end-to, number-num, number-to}
use Rattle.machines.proofs.NamesPlaced.{SpotAt}
use Rattle.machines.proofs.DuplicateLaws.{Again, Said, repeated-said}
use Rattle.machines.proofs.Validated.{Says, TellsAll, called_in, machine-valid}
use Rattle.machines.proofs.Covered.{uncovered-machine}
use Rattle.machines.proofs.MachineLaidOut.{LaidMachine}
use Rattle.machines.proofs.RefusalNames.{Fair, Lettered, Short, fair-target, laid-lettered, machine-fair, maybe-some, repeated-told, uncovered-told}
use Rattle.machines.proofs.CalledNames.{called-again, called-inside, called-name, called-no, called-state, refused_as}

first-assoc : {A : Type 0} (a b c : Option A) → first_of a (first_of b c) ≡ first_of (first_of a b) c
unfolding first_of
first-assoc none b c = refl
first-assoc (some x) b c = refl

-- accepted with so many regions, or refused for this
module _ (s offsets qualified : List ℕ) (m : ℕ) where
  unfoldable pub Stood : ℕ → Option Refusal → Judged → Type 0
  Stood k none j = (j ≡ Ok k) × (k < 65536)
  Stood k (some r) j = RefusedFor s offsets qualified m r j

  stood-some : (k : ℕ) (a b : Option Refusal) (r : Refusal) (j : Judged) → a ≡ some r → RefusedFor s offsets qualified m r j → Stood k (first_of a b) j
  unfolding Stood first_of
  stood-some k a b r j e h = subst (λ o. Stood k (first_of o b) j) (sym e) h

  stood-none : (k : ℕ) (a b : Option Refusal) (j : Judged) → a ≡ none → Stood k b j → Stood k (first_of a b) j
  unfolding first_of
  stood-none k a b j e h = subst (λ o. Stood k (first_of o b) j) (sym e) h

-- tables of names that are right, and a machine's name
module _ (s : List ℕ) (ns : List Name) (offsets qualified : List ℕ) (fresh : Fresh [] ns) (spot : (i : ℕ) → i < length ns → SpotAt s (get_or offsets i 0) (name_at ns i)) (few : length ns ≤ 65535)
    (short : (i : ℕ) → i < length ns → Lettered (name_at ns i)) (m : ℕ) (small : m < length ns) (own : Name) (is : name_at ns m ≡ own) where
  own-short : Short own
  own-short = subst Short is (short m small).1

  abbrev Refuses : Refusal → Judged → Type 0
  Refuses = RefusedFor s offsets qualified m

  -- the kinds of refusals
  empty-as : Refuses (no_states own) (Err no.NoStates)
  unfolding RefusedFor no_states All
  empty-as = refused_as s ns offsets qualified spot few m 1 no_name no_name own [] [] _ small is (omega arith) (omega arith) (called-no s offsets qualified) (called-no s offsets qualified) refl (own-short, tt)

  again-as : (all : List Name) (k d : ℕ) (n : Name) → take k qualified ≡ enc all → d < 4294967296 → Again all d n → Lettered n → Refuses (duplicate_state own n) (Err (no.DuplicateState (again_called qualified d)))
  unfolding RefusedFor duplicate_state All
  again-as all k d n e h a l =
      refused_as s ns offsets qualified spot few m 5 (again_called qualified d) no_name own (n ∷ []) [] _ small is (omega arith) (omega arith) (called-again s offsets qualified all k d n e h a l.0) (called-no s offsets qualified) refl (own-short, (l.1, tt))

  -- an initial state or a target
  wrong-as : (t : List ℕ) (at k : ℕ) (c : Checked) (r : Refusal) → Says ns t qualified own c r → Fair r → Refuses r (checked_j ns s t c at k)
  unfolding RefusedFor Says checked_j unknown_initial unknown_target
  wrong-as t at k ck.Fine r h f = absurd h
  wrong-as t at k (ck.Initial q) r h f =
      refused_as s ns offsets qualified spot few m 2 (called_at t q (get_or t q 0)) no_name own (called_in ns t qualified q (get_or t q 0) ∷ []) [] r small is (omega arith) (omega arith)
      (called-inside s ns offsets qualified spot few t q (get_or t q 0) h.0) (called-no s offsets qualified) h.1 f.short
  wrong-as t at k (ck.Target p q x) r h f =
      refused_as s ns offsets qualified spot few m 3 (state_called t p) (called_at t q x) own (letters_at t qualified p ∷ []) (called_in ns t qualified q x ∷ []) r small is (omega arith) (omega arith)
      (called-state s offsets qualified t p (fair-target own (letters_at t qualified p) (called_in ns t qualified q x) (subst Fair h.1 f)))
      (called-inside s ns offsets qualified spot few t q x h.0) h.1 f.short

  -- an output
  unassigned-as : (t : List ℕ) (i p : ℕ) → i < length ns → Lettered (letters_at t qualified p) → Refuses (unassigned own (name_at ns i) (letters_at t qualified p)) (Err (no.OutputUnassigned i (state_called t p)))
  unfolding RefusedFor unassigned All
  unassigned-as t i p h l =
      refused_as s ns offsets qualified spot few m 4 (named i) (state_called t p) own (name_at ns i ∷ []) (letters_at t qualified p ∷ []) _ small is (omega arith) (omega arith)
      (called-name s ns offsets qualified spot few i h) (called-state s offsets qualified t p l.0) refl (own-short, ((short i h).1, (l.1, tt)))

  -- the outputs of a machine x that is held
  module _ (t reg : List ℕ) (x : ResolvedMachine) (w v : ℕ) (held : HeldR ns s t reg qualified 0 0 8 1 0 0 (r_cons x.initial true x.states r_nil) w v) (fine : All Lettered (collect_state_names x.states)) (k : ℕ) (fits : k < 65536) where
    output-step : (n p i y z : ℕ) → number_in s p ≡ num i y → end_of (port_in ns s p) ≡ z → outputs_j ns s t k (suc n) p ≡ unless_missed t i (uncovered_t ns s t i 8 0) (outputs_j ns s t k n z)
    unfolding outputs_j
    output-step n p i y z e f = λ j. unless_missed t (e j).value (uncovered_t ns s t (e j).value 8 0) (outputs_j ns s t k n (f j))

    -- one output by its answer u, and those after it
    output-as : (i : ℕ) (u : Maybe ℕ) (ps : List Port) (p : Port) (j : Judged) → i < length ns → name_at ns i ≡ p.name → missed t qualified u ≡ require_cover_states p.name x.states
        → Stood s offsets qualified m k (uncovered own x.states ps) j
        → Stood s offsets qualified m k (uncovered own x.states (p ∷ ps)) (unless_missed t i u j)
    unfolding uncovered missed as_refusal unless_missed
    output-as i None ps p j h e f ih = stood-none s offsets qualified m k _ (uncovered own x.states ps) j (ap (as_refusal (λ n. unassigned own p.name n)) (sym f)) ih
    output-as i (Some u) ps p j h e f ih =
        stood-some s offsets qualified m k _ (uncovered own x.states ps) (unassigned own p.name (letters_at t qualified u)) _ (ap (as_refusal (λ n. unassigned own p.name n)) (sym f))
        (subst (λ (y : Name). Refuses (unassigned own y (letters_at t qualified u)) (Err (no.OutputUnassigned i (state_called t u)))) e
        (unassigned-as t i u h (maybe-some Lettered (require_cover_states p.name x.states) (letters_at t qualified u) (sym f) (uncovered-told Lettered p.name x.states fine))))

    outputs-as : (n p : ℕ) (ps : List Port) (q : ℕ) → many (port_in ns s) n p ≡ value ps q → Stood s offsets qualified m k (uncovered own x.states ps) (outputs_j ns s t k n p)
    unfolding outputs_j uncovered Stood port_in
    outputs-as zero p [] q e = (refl, fits)
    outputs-as zero p (y ∷ ps) q e = absurd (many-cut (port_in ns s) p y ps q e)
    outputs-as (suc n) p [] q e = absurd (many-over (port_in ns s) n p q e)
    outputs-as (suc n) p (y ∷ ps) q e =
        let a = many_more (port_in ns s) n p y ps q e in
        let b = bind-value (name_in ns s p) _ y a.0 a.1 in
        let c = map-value _ (type_in ns s b.1) y a.0 b.3 in
        let d = name-number ns s p b.0 b.1 b.2 in
        let f : name_at ns d.i ≡ y.name = d.named ∙ ap (λ (z : Port). z.name) c.2 in
        subst (Stood s offsets qualified m k (uncovered own x.states (y ∷ ps))) (sym (output-step n p d.i b.1 a.0 (number-num s p d.i b.1 d.is) (end-to (port_in ns s p) y a.0 a.1)))
        (output-as d.i _ ps y _ d.small f (uncovered-machine ns s t reg qualified fresh d.i d.small x w v held ∙ ap (λ (z : Name). require_cover_states z x.states) f) (outputs-as n a.0 ps q a.2))

    pub ports-as : (o : ℕ) (ps : List Port) (q : ℕ) → ports_in ns s o ≡ value ps q → Stood s offsets qualified m k (uncovered own x.states ps) (outputs_at ns s t o k)
    unfolding outputs_at ports_in counted
    ports-as o ps q e =
        let b = bind-value (u16 s o) _ ps q e in
        subst (Stood s offsets qualified m k (uncovered own x.states ps)) (sym (number-to s o b.0 b.1 (λ n p. outputs_j ns s t k n p) b.2)) (outputs-as b.0 b.1 ps q b.3)

  -- states at the top, by the layout
  top-as : {q j : ℕ} {h : Bool} (t reg : List ℕ) (i : Name) (ss : ResolvedStates) → LaidR ns s t reg qualified 0 0 8 1 0 0 false (r_cons i true ss r_nil) q j h → check_no_states own ss ≡ cond (eqb (get_or t 6 0) 0) (some (no_states own)) none
  unfolding check_no_states
  top-as t reg i s_nil (r_more row rg lt fl pr fu (l_end a b c) more) = sym (ap (λ y. cond y (some (no_states own)) none) (eq-eqb (get_or t 6 0) 0 row.states))
  top-as t reg i (s_cons n es ts rs rest) (r_more row rg lt fl pr fu (l_more {n = k} u d to f sl ms r st) more) =
      sym (ap (λ y. cond y (some (no_states own)) none) (ap (λ y. eqb y 0) row.states ∙ ne_eqb (suc k) 0 (λ e. omega arith)))

  top-lettered : {q j : ℕ} {h : Bool} (t reg : List ℕ) (i : Name) (ss : ResolvedStates) → LaidR ns s t reg qualified 0 0 8 1 0 0 false (r_cons i true ss r_nil) q j h → short_s 0 ss ≡ true → All Lettered (collect_state_names ss)
  top-lettered t reg i ss (r_more row rg lt fl pr fu st more) e = laid-lettered ns s t reg qualified (λ k l. (short k l).0) ss st e

-- a machine x that is laid out on the board b
module _ (s : List ℕ) (ns : List Name) (offsets : List ℕ) (fresh : Fresh [] ns) (spot : (i : ℕ) → i < length ns → SpotAt s (get_or offsets i 0) (name_at ns i)) (few : length ns ≤ 65535)
    (short : (i : ℕ) → i < length ns → Lettered (name_at ns i)) (m : ℕ) (small : m < length ns) (x : ResolvedMachine) (is : name_at ns m ≡ x.name)
    (b : Board) (laid : LaidMachine ns s b x.initial x.states) (ok : short_s 0 x.states ≡ true) (starts : Short x.initial) (o z : ℕ) (ports : ports_in ns s o ≡ value x.outputs z) where
  abbrev Stands : Option Refusal → Judged → Type 0
  Stands = Stood s offsets b.qualified m (suc (size_s x.states))

  abbrev all : List Name
  all = collect_state_names x.states

  abbrev invalid : Option Refusal
  invalid = first_of (bad_initial x.name x.initial (names_of x.states)) (validate_states x.name (names_of x.states) x.states)

  abbrev missing : Option Refusal
  missing = uncovered x.name x.states x.outputs

  abbrev twice : Option Refusal
  twice = as_refusal (λ n. duplicate_state x.name n) (repeated [] all)

  lettered : All Lettered all
  lettered = top-lettered s ns offsets b.qualified fresh spot few short m small x.name is b.t b.reg x.initial x.states laid.laid ok

  refusal-parts : refusal_of x ≡ first_of (check_no_states x.name x.states) (first_of twice (first_of invalid missing))
  unfolding refusal_of
  refusal-parts = ap (λ r. first_of (check_no_states x.name x.states) (first_of twice r)) (first-assoc (bad_initial x.name x.initial (names_of x.states)) (validate_states x.name (names_of x.states) x.states) missing)

  -- initial states and targets, then outputs
  abbrev rest : Judged
  rest = checked_j ns s b.t (checked_region ns s b.t 8 0) o b.c.regions

  valid-as : Stands (first_of invalid missing) rest
  unfolding checked_j
  valid-as = go (machine-valid ns s b.t b.reg b.qualified fresh x.name x.initial x.states laid.laid)
    where
      go : TellsAll ns b.t b.qualified x.name (checked_region ns s b.t 8 0) invalid b.c.hole → Stands (first_of invalid missing) rest
      go (inl (c, r, h)) =
          stood-none s offsets b.qualified m (suc (size_s x.states)) invalid missing rest r
          (subst (λ y. Stands missing (checked_j ns s b.t y o b.c.regions)) (sym c)
          (subst (λ y. Stands missing (outputs_at ns s b.t o y)) (sym (laid.regions h))
          (ports-as s ns offsets b.qualified fresh spot few short m small x.name is b.t b.reg x _ _ (laid.held h) lettered (suc (size_s x.states)) (omega (arith, laid.regions h, laid.regions-few)) o x.outputs z ports)))
      go (inr (r, e, w)) =
          stood-some s offsets b.qualified m (suc (size_s x.states)) invalid missing r rest e
          (wrong-as s ns offsets b.qualified fresh spot few short m small x.name is b.t o b.c.regions (checked_region ns s b.t 8 0) r w
          (maybe-some Fair invalid r e (machine-fair x.name (subst Short is (short m small).1) x.initial x.states starts ok lettered)))

  -- names that stand twice
  before-end : (d : ℕ) (n : Name) → Again all d n → d < length (enc all)
  unfolding enc
  before-end d n a = omega (arith, a.offset, ap (λ (y : List Name). length (enc y)) a.names, ap length (enc-append a.before (n ∷ a.after)), length-append (enc a.before) (enc (n ∷ a.after)))

  -- the table holds all letters
  all-there : ltb (length b.qualified) b.c.letters ≡ false
  all-there =
      let l : length (take b.c.letters b.qualified) ≡ b.c.letters = ap length laid.letters ∙ sym laid.letters-end in
      le-ltb (length b.qualified) b.c.letters (omega (arith, l, length-take b.c.letters b.qualified))

  abbrev second : Maybe ℕ → Judged
  second d = unless_again b.qualified b.c.letters d rest

  again-said : (d : Maybe ℕ) → Said all (repeated [] all) d → Stands (first_of twice (first_of invalid missing)) (second d)
  unfolding as_refusal unless_again
  again-said d (inl (e, f)) =
      subst (λ y. Stands (first_of twice (first_of invalid missing)) (second y)) (sym f)
      (subst (λ y. Stands (first_of twice (first_of invalid missing)) (cond y (Err (no.DuplicateState (again_called b.qualified (length b.qualified)))) rest)) (sym all-there)
      (stood-none s offsets b.qualified m (suc (size_s x.states)) twice (first_of invalid missing) rest (ap (as_refusal (λ n. duplicate_state x.name n)) e) valid-as))
  again-said o (inr (n, d, e, f, a)) =
      let l = before-end d n a in
      subst (λ y. Stands (first_of twice (first_of invalid missing)) (second y)) (sym f)
      (stood-some s offsets b.qualified m (suc (size_s x.states)) twice (first_of invalid missing) (duplicate_state x.name n) _ (ap (as_refusal (λ n. duplicate_state x.name n)) e)
      (again-as s ns offsets b.qualified fresh spot few short m small x.name is all b.c.letters d n laid.letters (omega (arith, laid.letters-end, laid.letters-few)) a
      (maybe-some Lettered (repeated [] all) n e (repeated-told Lettered [] all lettered))))

  -- THE THEOREM: the judgement of the layout is the refusal of the tree, or none
  pub laid-judged : Stands (refusal_of x) (laid_j ns s b.t b.qualified b.c.letters b.c.regions o)
  unfolding laid_j
  laid-judged = subst (λ r. Stands r (laid_j ns s b.t b.qualified b.c.letters b.c.regions o)) (sym refusal-parts)
      (go (eqb (get_or b.t 6 0) 0) (top-as s ns offsets b.qualified fresh spot few short m small x.name is b.t b.reg x.initial x.states laid.laid))
    where
      more : Stands (first_of twice (first_of invalid missing)) (second (duplicate_at (take b.c.letters b.qualified)))
      more = subst (λ (y : List ℕ). Stands (first_of twice (first_of invalid missing)) (second (duplicate_at y))) (sym laid.letters) (again-said (duplicate_at (enc all)) (repeated-said all))

      go : (y : Bool) → check_no_states x.name x.states ≡ cond y (some (no_states x.name)) none
          → Stands (first_of (check_no_states x.name x.states) (first_of twice (first_of invalid missing))) (cond y (Err no.NoStates) (second (duplicate_at (take b.c.letters b.qualified))))
      go true e = stood-some s offsets b.qualified m (suc (size_s x.states)) _ _ (no_states x.name) _ e (empty-as s ns offsets b.qualified fresh spot few short m small x.name is)
      go false e = stood-none s offsets b.qualified m (suc (size_s x.states)) _ _ _ e more
