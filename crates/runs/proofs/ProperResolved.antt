-- A machine that may be written still may where it is resolved.
use Prim.Native.Nat.{ℕ, zero, suc, ◌+◌, ◌-◌}
use mathlib.Core.List.{List, [], ◌∷◌, ◌++◌}
use mathlib.Core.Bool.{Bool, true, false, cond, ◌&&◌}
use mathlib.Core.Option.{Option, none, some}
use mathlib.Core.Path.{refl}
use lib.Dec.{ltb}
use lib.ListN.{length}
use Rattle.wire.specs.Lists.{All}
use Rattle.pack_rules.specs.Legal.{Allowed}
use Rattle.pack_rules.specs.Limits.{max_level, max_states}
use Rattle.pack_rules.specs.Names.{Name, eq_name, member}
use Rattle.pack_rules.specs.Read.{name_byte}
use Rattle.pack_rules.specs.Report.{Refusal}
use Rattle.pack_rules.specs.Syntax.{MachineDef, RegionDefs, StateDefs, Transition, def_cons, def_nil, reg_cons, reg_nil}
use Rattle.machine_rules.specs.Resolved.{ResolvedMachine, ResolvedRegions, ResolvedStates, r_cons, r_nil, s_cons, s_nil}
use Rattle.machine_rules.specs.Checks.{refusal_of}
use Rattle.machine_rules.specs.Machines.{MachineVerdict, accept, checked, judge, refuse, resolved}
use Rattle.machine_rules.specs.Refusals.{refine_cycle, too_large, unknown_refine}
use Rattle.machine_rules.specs.Resolve.{Target, Walk, append_region, as_machine, as_target, count_state, machine_of, open_level, prefix_r, prefix_s, prefix_transitions, refine_at, refine_with, resolve_r, resolve_s, resolved_states, short_name, short_s, stop, walk_on, went, with_refine, with_target}
use Rattle.machines.proofs.RefusalNames.{Maybe, maybe-first}
use Rattle.runs.proofs.Letters.{Lettered, joins, joins-allowed, lettered, letters}
use Rattle.runs.proofs.Proper.{ProperPort, ProperQ, ProperT}
use Rattle.runs.proofs.ProperDrawn.{ProperD, ProperDrawing, ProperG}
use Rattle.runs.proofs.ProperMade.{maybe-cond}

-- resolved states
unfoldable mutual
  pub ProperS : ResolvedStates → Type 0
  ProperS s_nil = Unit {0}
  ProperS (s_cons s es ts rs rest) = Allowed s × All ProperQ es × All ProperT ts × ProperR rs × ProperS rest

  pub ProperR : ResolvedRegions → Type 0
  ProperR r_nil = Unit {0}
  ProperR (r_cons i h ss rest) = Allowed i × ProperS ss × ProperR rest

-- where a walk ends
unfoldable pub Of : {A : Type 0} → (A → Type 0) → Walk A → Type 0
Of P (stop r) = Unit {0}
Of P (went a n) = P a

onward-of : {A B : Type 0} (P : A → Type 0) (Q : B → Type 0) (w : Walk A) (k : A → ℕ → Walk B) → Of P w → ((a : A) (n : ℕ) → P a → Of Q (k a n)) → Of Q (walk_on w k)
unfolding Of walk_on
onward-of P Q (stop r) k h f = tt
onward-of P Q (went a n) k h f = f a n h

prefix-transitions : (p : Name) (ts : List Transition) → Lettered p → All ProperT ts → All ProperT (prefix_transitions p ts)
unfolding prefix_transitions All
prefix-transitions p [] h a = tt
prefix-transitions p (t ∷ ts) h a = (record { guard = a.0.guard; target = joins-allowed p t.target h a.0.target }, prefix-transitions p ts h a.1)

mutual
  unfolding prefix_s prefix_r ProperS ProperR

  prefix-states : (p : Name) (ss : ResolvedStates) → Lettered p → ProperS ss → ProperS (prefix_s p ss)
  prefix-states p s_nil h a = tt
  prefix-states p (s_cons s es ts rs rest) h a = (joins-allowed p s h a.0, a.1, prefix-transitions p ts h a.2, prefix-regions p rs h a.3, prefix-states p rest h a.4)

  prefix-regions : (p : Name) (rs : ResolvedRegions) → Lettered p → ProperR rs → ProperR (prefix_r p rs)
  prefix-regions p r_nil h a = tt
  prefix-regions p (r_cons i b ss rest) h a = (joins-allowed p i h a.0, prefix-states p ss h a.1, prefix-regions p rest h a.2)

snoc-proper : (rs : ResolvedRegions) (i : Name) (ss : ResolvedStates) → ProperR rs → Allowed i → ProperS ss → ProperR (append_region rs i ss)
unfolding append_region ProperR
snoc-proper r_nil i ss a h k = (h, k, tt)
snoc-proper (r_cons j b st rest) i ss a h k = (a.0, a.1, snoc-proper rest i ss a.2 h k)

pub record ProperTarget (t : Target) : Type 0 where
  pub initial : Allowed t.initial
  pub states : ProperS t.states

underscore : Lettered (95 ∷ [])
unfolding lettered name_byte
underscore = letters (95 ∷ []) refl

module _ (top : Name) (refine : ℕ → Name → Name → ℕ → Walk Target) (good : (l : ℕ) (s n : Name) (c : ℕ) → Of ProperTarget (refine l s n c)) where
  deeper-of : {A : Type 0} (P : A → Type 0) (l : ℕ) (k : ℕ → Walk A) → ((j : ℕ) → Of P (k j)) → Of P (open_level top refine l k)
  unfolding open_level Of
  deeper-of P zero k f = tt
  deeper-of P (suc l) k f = f l

  arrive-of : {A : Type 0} (P : A → Type 0) (n : ℕ) (k : ℕ → Walk A) → ((j : ℕ) → Of P (k j)) → Of P (count_state top refine n k)
  unfolding count_state Of
  arrive-of {A} P n k f = go (ltb n max_states)
    where
      go : (b : Bool) → Of P (elim b [ true ↦ k (n + 1) | false ↦ stop (too_large top) ])
      go true = f (n + 1)
      go false = tt

  target-of : (s : Name) (rs : ResolvedRegions) (t : Target) (n : ℕ) → Allowed s → ProperR rs → ProperTarget t → Of ProperR (with_target top refine s rs t n)
  unfolding with_target Of
  target-of s rs t n h a o = go (short_name (length s + 1) t.initial && short_s (length s + 1) t.states)
    where
      p : Lettered (s ++ (95 ∷ []))
      p = joins s (95 ∷ []) h.1 underscore

      go : (b : Bool) → Of ProperR (cond b (went (append_region rs ((s ++ (95 ∷ [])) ++ t.initial) (prefix_s (s ++ (95 ∷ [])) t.states)) n) (stop (too_large top)))
      go true = snoc-proper rs ((s ++ (95 ∷ [])) ++ t.initial) (prefix_s (s ++ (95 ∷ [])) t.states) a (joins-allowed (s ++ (95 ∷ [])) t.initial p o.initial) (prefix-states (s ++ (95 ∷ [])) t.states p o.states)
      go false = tt

  refine-of : (l : ℕ) (s : Name) (f : Option Name) (rs : ResolvedRegions) (n : ℕ) → Allowed s → ProperR rs → Of ProperR (with_refine top refine l s f rs n)
  unfolding with_refine Of
  refine-of l s none rs n h a = a
  refine-of l s (some m) rs n h a = onward-of ProperTarget ProperR (refine l s m n) (λ t k. with_target top refine s rs t k) (good l s m n) (λ t k o. target-of s rs t k h a o)

  mutual
    unfolding resolve_s resolve_r ProperS ProperR ProperD ProperG Of

    pub states-of : (l : ℕ) (d : StateDefs) (n : ℕ) → ProperD d → Of ProperS (resolve_s top refine l d n)
    states-of l def_nil n o = tt
    states-of l (def_cons s es ts rs f rest) n o =
        arrive-of ProperS n (λ a.
        walk_on (resolve_r top refine l rs a) (λ qs b.
        walk_on (with_refine top refine l s f qs b) (λ us c.
        walk_on (resolve_s top refine l rest c) (λ vs d. went (s_cons s es ts us vs) d))))
        (λ a. onward-of ProperR ProperS (resolve_r top refine l rs a) (λ qs b.
        walk_on (with_refine top refine l s f qs b) (λ us c.
        walk_on (resolve_s top refine l rest c) (λ vs d. went (s_cons s es ts us vs) d)))
        (regions-of l rs a o.3)
        (λ qs b hq. onward-of ProperR ProperS (with_refine top refine l s f qs b) (λ us c.
        walk_on (resolve_s top refine l rest c) (λ vs d. went (s_cons s es ts us vs) d))
        (refine-of l s f qs b o.0 hq)
        (λ us c hu. onward-of ProperS ProperS (resolve_s top refine l rest c) (λ vs d. went (s_cons s es ts us vs) d)
        (states-of l rest c o.4)
        (λ vs d hv. (o.0, o.1, o.2, hu, hv)))))

    pub regions-of : (l : ℕ) (d : RegionDefs) (n : ℕ) → ProperG d → Of ProperR (resolve_r top refine l d n)
    regions-of l reg_nil n o = tt
    regions-of l (reg_cons i h ss rest) n o =
        deeper-of ProperR l (λ k.
        walk_on (resolve_s top refine k ss n) (λ us a.
        walk_on (resolve_r top refine l rest a) (λ vs b. went (r_cons i h us vs) b)))
        (λ k. onward-of ProperS ProperR (resolve_s top refine k ss n) (λ us a.
        walk_on (resolve_r top refine l rest a) (λ vs b. went (r_cons i h us vs) b))
        (states-of k ss n o.1)
        (λ us a hu. onward-of ProperR ProperR (resolve_r top refine l rest a) (λ vs b. went (r_cons i h us vs) b)
        (regions-of l rest a o.2)
        (λ vs b hv. (o.0, hu, hv))))

machine-of-proper : (ms : List MachineDef) (n : Name) → All ProperDrawing ms → Maybe ProperDrawing (machine_of ms n)
unfolding machine_of All Maybe
machine-of-proper [] n a = tt
machine-of-proper (m ∷ ms) n a = maybe-first ProperDrawing (machine_of ms n) (cond (eq_name m.name n) (some m) none) (machine-of-proper ms n a.1) (maybe-cond ProperDrawing (eq_name m.name n) (some m) none a.0 tt)

refine-with : (top : Name) (ms : List MachineDef) (path : List Name) (enter : MachineDef → ℕ → ℕ → Walk Target) → All ProperDrawing ms → ((m : MachineDef) (l c : ℕ) → ProperDrawing m → Of ProperTarget (enter m l c)) → (l : ℕ) (s n : Name) (c : ℕ) → Of ProperTarget (refine_with top ms path enter l s n c)
unfolding refine_with Of Maybe
refine-with top ms path enter a f l s n c = go (member n path) (machine_of ms n) (machine-of-proper ms n a)
  where
    go : (b : Bool) (x : Option MachineDef) → Maybe ProperDrawing x → Of ProperTarget (elim b [ true ↦ stop (refine_cycle top n) | false ↦ elim x [ none ↦ stop (unknown_refine top s n) | some m ↦ enter m l c ] ])
    go true x h = tt
    go false none h = tt
    go false (some m) h = f m l c h

refine-at : (f : ℕ) (top : Name) (ms : List MachineDef) (path : List Name) → All ProperDrawing ms → (l : ℕ) (s n : Name) (c : ℕ) → Of ProperTarget (refine_at f top ms path l s n c)
unfolding refine_at Of as_target
refine-at zero top ms path a l s n c = refine-with top ms path (λ m l c. stop (too_large top)) a (λ m l c o. tt) l s n c
refine-at (suc f) top ms path a l s n c =
    refine-with top ms path
    (λ m l c.
    open_level top (refine_at f top ms (m.name ∷ path)) l (λ k.
    walk_on (resolve_s top (refine_at f top ms (m.name ∷ path)) k m.states c) (λ ss n. went (as_target m.initial ss) n)))
    a
    (λ m l c o.
    let g = refine-at f top ms (m.name ∷ path) a in
    deeper-of top (refine_at f top ms (m.name ∷ path)) g ProperTarget l
    (λ k. walk_on (resolve_s top (refine_at f top ms (m.name ∷ path)) k m.states c) (λ ss n. went (as_target m.initial ss) n))
    (λ k. onward-of ProperS ProperTarget (resolve_s top (refine_at f top ms (m.name ∷ path)) k m.states c) (λ ss n. went (as_target m.initial ss) n)
    (states-of top (refine_at f top ms (m.name ∷ path)) g k m.states c o.states)
    (λ ss n h. record { initial = o.initial; states = h })))
    l s n c

resolved-proper : (ms : List MachineDef) (d : MachineDef) → All ProperDrawing ms → ProperDrawing d → Of ProperS (resolved_states ms d)
unfolding resolved_states
resolved-proper ms d a o = states-of d.name (refine_at max_level d.name ms (d.name ∷ [])) (refine-at max_level d.name ms (d.name ∷ []) a) (max_level - 1) d.states 0 o.states

-- a machine that is lowered
pub record ProperMachine (m : ResolvedMachine) : Type 0 where
  pub name : Allowed m.name
  pub inputs : All ProperPort m.inputs
  pub outputs : All ProperPort m.outputs
  pub locals : All ProperPort m.locals
  pub initial : Allowed m.initial
  pub states : ProperS m.states

unfoldable pub Accepted : MachineVerdict → Type 0
Accepted (refuse r) = Unit {0}
Accepted (accept m) = ProperMachine m

pub judge-proper : (ms : List MachineDef) (d : MachineDef) → All ProperDrawing ms → ProperDrawing d → Accepted (judge ms d)
unfolding judge resolved checked Accepted Of as_machine
judge-proper ms d a o = go (resolved_states ms d) (resolved-proper ms d a o)
  where
    last : (ss : ResolvedStates) (r : Option Refusal) → ProperS ss → Accepted (checked (as_machine d ss) r)
    last ss none h = record { name = o.name; inputs = o.inputs; outputs = o.outputs; locals = o.locals; initial = o.initial; states = h }
    last ss (some r) h = tt

    go : (w : Walk ResolvedStates) → Of ProperS w → Accepted (resolved d w)
    go (stop r) h = tt
    go (went ss n) h = last ss (refusal_of (as_machine d ss)) h
