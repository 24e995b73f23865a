-- Inlining of refinements. The walk counts states; what stops it first is the machine's refusal.
-- It is structural over the tree that is drawn, and goes through the machines that are looked up by levels.
use Rattle.std.specs.Prelude.{List, [], ◌∷◌, ◌++◌, Bool, true, false, cond, ◌&&◌, ℕ, zero, suc, ◌+◌, ◌-◌, length, ltb, leb}
use Rattle.std.proofs.Math.Option.{Option, none, some}
use Rattle.pack_rules.specs.Limits.{max_level, max_name, max_states}
use Rattle.pack_rules.specs.Names.{Name, eq_name, member}
use Rattle.pack_rules.specs.Syntax.{MachineDef, RegionDefs, StateDefs, Transition, def_cons, def_nil, reg_cons, reg_nil}
use Rattle.machine_rules.specs.Resolved.{ResolvedMachine, ResolvedRegions, ResolvedStates, r_cons, r_nil, s_cons, s_nil}
use Rattle.pack_rules.specs.Report.{Refusal, first_of}
use Rattle.machine_rules.specs.Refusals.{refine_cycle, too_large, unknown_refine}

-- stopped, or a value and how many states there have been
pub data Walk (A : Type 0) : Type 0 where
  stop : Refusal → Walk A
  went : A → ℕ → Walk A

-- on with the walk, unless it stopped
unfoldable pub walk_on : {A B : Type 0} → Walk A → (A → ℕ → Walk B) → Walk B
walk_on (stop r) k = stop r
walk_on (went a n) k = k a n

-- `prefix_states`
unfoldable pub prefix_transitions : Name → List Transition → List Transition
prefix_transitions p [] = []
prefix_transitions p (t ∷ ts) = record { guard = t.guard; target = p ++ t.target } ∷ prefix_transitions p ts

-- Resolve: states, targets and initials get the prefix; equations, guards and history stay
unfoldable mutual
  pub prefix_s : Name → ResolvedStates → ResolvedStates
  prefix_s p s_nil = s_nil
  prefix_s p (s_cons s es ts rs rest) = s_cons (p ++ s) es (prefix_transitions p ts) (prefix_r p rs) (prefix_s p rest)

  pub prefix_r : Name → ResolvedRegions → ResolvedRegions
  prefix_r p r_nil = r_nil
  prefix_r p (r_cons i h ss rest) = r_cons (p ++ i) h (prefix_s p ss) (prefix_r p rest)

-- whether all names stay short after a prefix of p bytes
unfoldable pub short_name : ℕ → Name → Bool
short_name p n = leb (p + length n) max_name

-- the same of transitions' targets
unfoldable pub short_targets : ℕ → List Transition → Bool
short_targets p [] = true
short_targets p (t ∷ ts) = short_name p t.target && short_targets p ts

-- the same of states with all that is in them, and of regions
unfoldable mutual
  pub short_s : ℕ → ResolvedStates → Bool
  short_s p s_nil = true
  short_s p (s_cons s es ts rs rest) = short_name p s && (short_targets p ts && (short_r p rs && short_s p rest))

  pub short_r : ℕ → ResolvedRegions → Bool
  short_r p r_nil = true
  short_r p (r_cons i h ss rest) = short_name p i && (short_s p ss && short_r p rest)

-- the region of a refinement comes last and has no history
unfoldable pub append_region : ResolvedRegions → Name → ResolvedStates → ResolvedRegions
append_region r_nil i ss = r_cons i false ss r_nil
append_region (r_cons j h st rest) i ss = r_cons j h st (append_region rest i ss)

-- what stands for a refinement: the initial state and the states of the machine of that name, resolved
pub record Target : Type 0 where
  pub initial : Name
  pub states : ResolvedStates

-- the states and regions of the machine `top`, where `refine levels state name count` resolves a refinement
module _ (top : Name) (refine : ℕ → Name → Name → ℕ → Walk Target) where
  -- one level further down
  unfoldable pub open_level : {A : Type 0} → ℕ → (ℕ → Walk A) → Walk A
  open_level zero k = stop (too_large top)
  open_level (suc l) k = k l

  -- one state more
  unfoldable pub count_state : {A : Type 0} → ℕ → (ℕ → Walk A) → Walk A
  count_state n k = elim (ltb n max_states) [ true ↦ k (n + 1) | false ↦ stop (too_large top) ]

  -- Resolve: the sub-machine's region, its names after the state's and an underscore; TooLarge where one gets too long
  unfoldable pub with_target : Name → ResolvedRegions → Target → ℕ → Walk ResolvedRegions
  with_target s rs t n =
      cond (short_name (length s + 1) t.initial && short_s (length s + 1) t.states)
      (went (append_region rs ((s ++ (95 ∷ [])) ++ t.initial) (prefix_s (s ++ (95 ∷ [])) t.states)) n)
      (stop (too_large top))

  -- Resolve: a state's refinement, where it has one, after its own regions `rs`
  unfoldable pub with_refine : ℕ → Name → Option Name → ResolvedRegions → ℕ → Walk ResolvedRegions
  with_refine l s none rs n = went rs n
  with_refine l s (some m) rs n = walk_on (refine l s m n) (λ t k. with_target s rs t k)

  -- `resolve_states`, with so many levels left below
  unfoldable mutual
    pub resolve_s : ℕ → StateDefs → ℕ → Walk ResolvedStates
    resolve_s l def_nil n = went s_nil n
    resolve_s l (def_cons s es ts rs f rest) n =
        count_state n (λ a.
        walk_on (resolve_r l rs a) (λ qs b.
        walk_on (with_refine l s f qs b) (λ us c.
        walk_on (resolve_s l rest c) (λ vs d. went (s_cons s es ts us vs) d))))

    pub resolve_r : ℕ → RegionDefs → ℕ → Walk ResolvedRegions
    resolve_r l reg_nil n = went r_nil n
    resolve_r l (reg_cons i h ss rest) n =
        open_level l (λ k.
        walk_on (resolve_s k ss n) (λ us a.
        walk_on (resolve_r l rest a) (λ vs b. went (r_cons i h us vs) b)))

-- of machines with one name the last is meant
unfoldable pub machine_of : List MachineDef → Name → Option MachineDef
machine_of [] n = none
machine_of (m ∷ ms) n = first_of (machine_of ms n) (cond (eq_name m.name n) (some m) none)

-- in order: a cycle, no such machine, and then `enter` resolves the machine found
unfoldable pub refine_with : Name → List MachineDef → List Name → (MachineDef → ℕ → ℕ → Walk Target) → ℕ → Name → Name → ℕ → Walk Target
refine_with top ms path enter l s n c =
    elim (member n path) [
      | true ↦ stop (refine_cycle top n)
      | false ↦ elim (machine_of ms n) [ none ↦ stop (unknown_refine top s n) | some m ↦ enter m l c ]
    ]

-- a sub-machine's initial and its resolved states
unfoldable pub as_target : Name → ResolvedStates → Target
as_target i ss = record { initial = i; states = ss }

-- a level of refinement less at each machine that is looked up; the levels left are never more than the fuel
unfoldable pub refine_at : ℕ → Name → List MachineDef → List Name → ℕ → Name → Name → ℕ → Walk Target
refine_at zero top ms path = refine_with top ms path (λ m l c. stop (too_large top))
refine_at (suc f) top ms path =
    refine_with top ms path (λ m l c.
    open_level top (refine_at f top ms (m.name ∷ path)) l (λ k.
    walk_on (resolve_s top (refine_at f top ms (m.name ∷ path)) k m.states c) (λ ss n. went (as_target m.initial ss) n)))

-- Resolve, of a top machine: its states are level 1, the path begins with its name, and no state has been counted
unfoldable pub resolved_states : List MachineDef → MachineDef → Walk ResolvedStates
resolved_states ms d = resolve_s d.name (refine_at max_level d.name ms (d.name ∷ [])) (max_level - 1) d.states 0

-- a drawn machine with its resolved states
unfoldable pub as_machine : MachineDef → ResolvedStates → ResolvedMachine
as_machine d ss = record { name = d.name; inputs = d.inputs; outputs = d.outputs; locals = d.locals; initial = d.initial; states = ss }
