-- Demand 3 for machines: in every run of the lowered equations, the regions' states and the outputs are the plain chart's.
use Prim.Native.Nat.{ℕ, zero, suc, ◌+◌, ◌<◌}
use lib.ListN.{length}
use mathlib.Core.List.{List, [], ◌∷◌, ◌++◌}
use mathlib.Core.Bool.{true, false, ◌&&◌}
use mathlib.Core.Option.{some}
use mathlib.Core.Path.{◌≡◌, refl, ◌∙◌}
use Rattle.pack_rules.specs.Names.{Name, member}
use Rattle.pack_rules.specs.Syntax.{Equation, Expr, Port}
use Rattle.machine_rules.specs.Resolved.{ResolvedMachine}
use Rattle.machine_rules.specs.Checks.{collect_state_names}
use Rattle.machine_rules.specs.Lower.{active_in, all_states_cover, default_expr_for_type, equations_of, equations_s, names_of, output_equations, top_equations}
use Rattle.machine_rules.specs.MadeNames.{active_var, next_var, sm_prefix, state_var}
use Rattle.run_rules.specs.Chart.{Guards, top_of}
use Rattle.runs.specs.Claim.{Picks}
use Rattle.run_rules.specs.Premises.{MachinePremises, OnEveryCycle, Presents, starts_with}
use Rattle.run_rules.specs.Run.{Run, Agrees, Satisfies, v_enum}
use Rattle.run_rules.specs.StatedDirectly.{always, within}
use Rattle.runs.proofs.Accepting.{accepted, covers_all, distinct, valid_s}
use Rattle.run_rules.proofs.Booleans.{&&-true}
use Rattle.runs.proofs.ChartStreams.{kepts_r, kepts_s}
use Rattle.runs.proofs.ClocksAlike.{on-base}
use Rattle.runs.proofs.KeptRuns.{keep_s, kept-join, kept_numbered}
use Rattle.runs.proofs.OutputRuns.{value_s-picks}
use Rattle.run_rules.proofs.Prefixes.{starts-append}
use Rattle.runs.proofs.RegionRuns.{found-member, is_name-eval, known, top-next, top-state}
use Rattle.runs.proofs.Streams.{chart, chart_s, picked, top_found}
use Rattle.runs.proofs.TreeRuns.{holds, holds-split, holds_at, known-own, made_free, numbered, tells, tree_s}

-- each output equals the picked right side
abbrev pub outputs_picked : {O : Type 0} → Run O → ℕ → Guards → ResolvedMachine → List Port → Type 0
outputs_picked R N G m [] = Unit {0}
outputs_picked R N G m (p ∷ ps) = ((t : ℕ) → t < N → Picks R t (picked G m p.name t) (R.at p.name t)) × outputs_picked R N G m ps

pub record RunIsChart {O : Type 0} (R : Run O) (N : ℕ) (G : Guards) (m : ResolvedMachine) : Type 0 where
  pub found : numbered R N 0 (chart G m)
  pub kept : kept_numbered R N 0 (kepts_r G always (top_of m))
  pub outputs : outputs_picked R N G m m.outputs

module _ {O : Type 0} (R : Run O) (N : ℕ) where
  holds-one : (xs : List Name) (e : Expr) → Presents R N xs → Agrees R N xs e → holds_at R N xs e
  holds-one [] e p h = tt
  holds-one (x ∷ []) e p h = on-base R N x e p.0 h
  holds-one (x ∷ y ∷ l) e p h = tt

  all_hold : (es : List Equation) → OnEveryCycle R N es → Satisfies R N es → holds R N es
  all_hold [] p h = tt
  all_hold (e ∷ es) p h = (holds-one e.lhs e.rhs p.0 h.0, all_hold es p.1 h.1)

state-starts : (n : ℕ) → starts_with sm_prefix (state_var n) ≡ true
unfolding state_var
state-starts zero = starts-append sm_prefix _
state-starts (suc n) = starts-append sm_prefix _

next-starts : (n : ℕ) → starts_with sm_prefix (next_var n) ≡ true
unfolding next_var
next-starts zero = starts-append sm_prefix _
next-starts (suc n) = starts-append sm_prefix _

active-starts : (n : ℕ) → starts_with sm_prefix (active_var n) ≡ true
unfolding active_var
active-starts n = starts-append sm_prefix _

module _ {O : Type 0} (R : Run O) (N : ℕ) (G : Guards) (m : ResolvedMachine) (ok : accepted m ≡ true) (P : MachinePremises R N G m) (sat : Satisfies R N (equations_of m)) where
  free-name : (x : Name) → starts_with sm_prefix x ≡ true → R.enums x ≡ false
  free-name x s = P.free x s

  made-free : made_free R
  made-free n = (free-name (state_var n) (state-starts n), free-name (next_var n) (next-starts n), free-name (active_var n) (active-starts n))

  all_known : known R (collect_state_names m.states)
  all_known x k = P.states x k

  checks : (member m.initial (names_of m.states) ≡ true) × (valid_s (names_of m.states) m.states ≡ true) × (covers_all m.states m.outputs ≡ true)
  unfolding accepted
  checks =
      let a = &&-true (distinct (collect_state_names m.states) && (member m.initial (names_of m.states) && valid_s (names_of m.states) m.states)) (covers_all m.states m.outputs) ok in
      let b = &&-true (distinct (collect_state_names m.states)) (member m.initial (names_of m.states) && valid_s (names_of m.states) m.states) a.0 in
      let c = &&-true (member m.initial (names_of m.states)) (valid_s (names_of m.states) m.states) b.1 in
      (c.0, c.1, a.1)

  parts : holds R N (top_equations m.initial m.states) × holds R N (equations_s true 0 1 m.states) × holds R N (output_equations m m.outputs)
  unfolding equations_of
  parts =
      let a = holds-split R N (top_equations m.initial m.states) (equations_s true 0 1 m.states ++ output_equations m m.outputs) (all_hold R N (equations_of m) P.base sat) in
      let b = holds-split R N (equations_s true 0 1 m.states) (output_equations m m.outputs) a.1 in
      (a.0, b.0, b.1)

  top-is : (t : ℕ) → t < N → R.at (state_var 0) t ≡ some (v_enum (top_found G m t))
  unfolding top_equations top_found
  top-is t lt =
      top-state R N G 0 m.initial m.states (made-free 0) (known-own R m.states all_known) P.guards checks.0 checks.1 parts.0.0 parts.0.1.0 t lt

  top-tells : (s : Name) → R.enums s ≡ true → tells R N (active_in true 0 s) (within always (top_found G m) s)
  unfolding active_in within
  top-tells s e t lt = is_name-eval R (state_var 0) s (top_found G m t) t (made-free 0).0 e (top-is t lt)

  regions-are : numbered R N 1 (chart_s G always (top_found G m) m.states)
  regions-are = tree_s R N G made-free m.states (names_of m.states) all_known P.guards checks.1 true 0 1 always (top_found G m) top-tells parts.1

  kept-are : kept_numbered R N 0 (kepts_r G always (top_of m))
  unfolding top_of top_equations top_found kepts_s
  kept-are = (
    (λ t lt. (top-next R N G 0 m.initial m.states (made-free 0) (known-own R m.states all_known) P.guards checks.0 checks.1 parts.0.1.0 t lt (top-is t lt), tt)),
    kept-join R N 1 (1 + length (kepts_s G always (top_found G m) m.states)) (kepts_s G always (top_found G m) m.states) [] refl
        (keep_s R N G made-free m.states (names_of m.states) all_known P.guards checks.1 true 0 1 always (top_found G m) top-tells parts.1) tt,
  )

  outputs-are : (ps : List Port) → covers_all m.states ps ≡ true → holds R N (output_equations m ps) → outputs_picked R N G m ps
  unfolding covers_all output_equations picked top_found
  outputs-are [] co h = tt
  outputs-are (p ∷ ps) co h =
      let c = &&-true (all_states_cover p.name m.states) (covers_all m.states ps) co in (
        λ t lt.
            let w = value_s-picks R N G made-free p.name (default_expr_for_type p.ty) t lt m.states (names_of m.states) all_known checks.1 P.sides 0 1 always (top_found G m) (top-is t lt)
            (found-member (names_of m.states) G m.initial false m.states always checks.0 checks.1 t) regions-are c.0 in
            (w.0, w.1, h.0 t lt ∙ w.2),
        outputs-are ps c.1 h.1,
      )

  pub run-is-chart : RunIsChart R N G m
  unfolding chart
  run-is-chart = record { found = (top-is, regions-are); kept = kept-are; outputs = outputs-are m.outputs checks.2 parts.2 }
