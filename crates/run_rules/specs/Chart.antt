-- The plain chart: an interpreter of a resolved machine, which is fed each guard's value in each cycle.
use Rattle.std.specs.Prelude.{ℕ, zero, suc, ◌+◌, List, [], ◌∷◌, ◌++◌, Bool, true, false, cond, not, ◌&&◌, drop}
use Rattle.std.proofs.Math.Option.{Option, none}
use Rattle.pack_rules.specs.Names.{Name, eq_name}
use Rattle.pack_rules.specs.Syntax.{Expr, Transition}
use Rattle.machine_rules.specs.Resolved.{ResolvedMachine, ResolvedRegions, ResolvedStates, r_cons, r_nil, s_cons, s_nil}
use Rattle.machine_rules.specs.Lower.{all_states_cover, own_value, size_r, size_s}

-- each guard's value in each cycle
abbrev pub Guards : Type 0
Guards = Expr → ℕ → Bool

-- kept for a region: a state, and whether the region was active a cycle ago
pub record RegionMemory : Type 0 where
  pub state : Name
  pub was_active : Bool

-- at first the initial state, and not active
unfoldable pub at_first : Name → RegionMemory
at_first initial = record { state = initial; was_active = false }

-- the target of the first transition with a true guard, else staying
unfoldable pub first_true : (Expr → Bool) → List Transition → Name → Name
first_true g [] stay = stay
first_true g (t ∷ ts) stay = cond (g t.guard) t.target (first_true g ts stay)

-- chosen among the states of a region, from the state found
unfoldable pub choose : (Expr → Bool) → ResolvedStates → Name → Name
choose g s_nil f = f
choose g (s_cons s es ts rs rest) f = cond (eq_name f s) (first_true g ts f) (choose g rest f)

-- a region without history begins anew in a cycle in which it becomes active
unfoldable pub begins_anew : Bool → Bool → RegionMemory → Bool
begins_anew history active k = not history && (active && not k.was_active)

-- found: the initial state where the region begins anew, else the kept state
unfoldable pub find : Name → Bool → Bool → RegionMemory → Name
find initial history active k = cond (begins_anew history active k) initial k.state

-- an active region keeps what it chooses from the state found; an inactive one keeps what it had
unfoldable pub keep : ResolvedStates → (Expr → Bool) → Bool → Name → RegionMemory → RegionMemory
keep ss g active f k = record { state = cond active (choose g ss f) k.state; was_active = active }

-- what a region does in a cycle: the state found, and what is kept then
pub record RegionStep : Type 0 where
  pub found : Name
  pub kept : RegionMemory

-- of a region with this initial state, history and states, by what is kept for it
unfoldable pub step_region : (Expr → Bool) → Bool → Name → Bool → ResolvedStates → RegionMemory → RegionStep
step_region g active i h ss k = record { found = find i h active k; kept = keep ss g active (find i h active k) k }

-- the first of what is kept; there is one for each region
unfoldable pub first_memory : Name → List RegionMemory → RegionMemory
first_memory i [] = at_first i
first_memory i (k ∷ ks) = k

-- The regions in preorder, by what is kept for them in the same order. A region is active in a cycle if the region that holds its state
-- is active, and found in that state.
unfoldable mutual
  pub step_states : (Expr → Bool) → Bool → Name → ResolvedStates → List RegionMemory → List RegionStep
  step_states g active f s_nil ks = []
  step_states g active f (s_cons s es ts rs rest) ks = step_regions g (active && eq_name f s) rs ks ++ step_states g active f rest (drop (size_r rs) ks)

  pub step_regions : (Expr → Bool) → Bool → ResolvedRegions → List RegionMemory → List RegionStep
  step_regions g active r_nil ks = []
  step_regions g active (r_cons i h ss rest) ks =
      step_region g active i h ss (first_memory i ks)
      ∷ (step_states g active (find i h active (first_memory i ks)) ss (drop 1 ks) ++ step_regions g active rest (drop (suc (size_s ss)) ks))

-- what is kept at first
unfoldable mutual
  pub start_s : ResolvedStates → List RegionMemory
  start_s s_nil = []
  start_s (s_cons s es ts rs rest) = start_r rs ++ start_s rest

  pub start_r : ResolvedRegions → List RegionMemory
  start_r r_nil = []
  start_r (r_cons i h ss rest) = at_first i ∷ (start_s ss ++ start_r rest)

-- the states found
unfoldable pub founds : List RegionStep → List Name
founds [] = []
founds (x ∷ xs) = x.found ∷ founds xs

-- what is kept then
unfoldable pub memories_after : List RegionStep → List RegionMemory
memories_after [] = []
memories_after (x ∷ xs) = x.kept ∷ memories_after xs

-- the top region of a machine, which is always active
unfoldable pub top_of : ResolvedMachine → ResolvedRegions
top_of m = r_cons m.initial false m.states r_nil

-- a cycle of the machine
unfoldable pub cycle : (Expr → Bool) → ResolvedMachine → List RegionMemory → List RegionStep
cycle g m ks = step_regions g true (top_of m) ks

-- what is kept before a cycle
unfoldable pub memories_in : Guards → ResolvedMachine → ℕ → List RegionMemory
memories_in G m zero = start_r (top_of m)
memories_in G m (suc t) = memories_after (cycle (λ g. G g t) m (memories_in G m t))

-- the states found in a cycle, of the regions in preorder
unfoldable pub found_in : Guards → ResolvedMachine → ℕ → List Name
found_in G m t = founds (cycle (λ g. G g t) m (memories_in G m t))

-- The right side that is selected for the output o, where region k is found in the state `st k`. The walk begins in the region p, whose
-- states' regions have the ids from n on. In the state that is found there it goes on into the first region that gives the output in all of
-- its states; a state without such a region selects by its own equations (`own_value`).
unfoldable mutual
  pub select_s : (ℕ → Name) → Name → ℕ → ℕ → ResolvedStates → Option Expr
  select_s st o p n s_nil = none
  select_s st o p n (s_cons s es ts rs rest) = cond (eq_name (st p) s) (select_r st o (own_value o es) n rs) (select_s st o p (n + size_r rs) rest)

  pub select_r : (ℕ → Name) → Name → Option Expr → ℕ → ResolvedRegions → Option Expr
  select_r st o own n r_nil = own
  select_r st o own n (r_cons i h ss rest) = cond (all_states_cover o ss) (select_s st o n (suc n) ss) (select_r st o own (suc n + size_s ss) rest)

-- from the top region on
unfoldable pub selected : (ℕ → Name) → ResolvedMachine → Name → Option Expr
selected st m o = select_s st o 0 1 m.states
