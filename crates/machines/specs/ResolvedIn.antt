-- Internal: nothing here has to be believed; laws tie it to what docs/TRUSTED.md lists.
-- A resolved machine stands in a pack: what is read at each offset, through refinements, with the prefix of the names so far.
use Rattle.std.specs.Prelude.{ℕ, zero, suc, ◌<◌, List, [], ◌∷◌, ◌++◌, Bool, false, ◌≡◌, length}
use Rattle.wire.specs.Answer.{Answer, below, counted, deep, early, illegal, u16, value}
use Rattle.pack_rules.specs.Limits.{absent}
use Rattle.pack_rules.specs.Names.{Name}
use Rattle.pack_rules.specs.Syntax.{Equation, Transition}
use Rattle.machine_rules.specs.Resolved.{ResolvedRegions, ResolvedStates, r_cons, r_nil, s_cons, s_nil}
use Rattle.pack_rules.specs.Forms.{flag_of}
use Rattle.pack_rules.specs.Read.{equations_in, name_in, state_at, transition_in}
use Rattle.machine_rules.specs.Resolve.{prefix_transitions}

-- a state's fields up to its regions: k of them, from b on
pub record StateAt (ns : List Name) (s : List ℕ) (at : ℕ) (nm : Name) (es : List Equation) (ts : List Transition) (k b : ℕ) : Type 0 where
  pub to-equations : ℕ
  pub to-transitions : ℕ
  pub to-regions : ℕ
  pub name : name_in ns s at ≡ value nm to-equations
  pub equations : equations_in ns s to-equations ≡ value es to-transitions
  pub transitions : counted (transition_in ns s) s to-transitions ≡ value ts to-regions
  pub regions : u16 s to-regions ≡ value k b

-- a region's fields up to its states: k of them, from b on
pub record RegionAt (ns : List Name) (s : List ℕ) (at : ℕ) (i : Name) (h : Bool) (k b : ℕ) : Type 0 where
  pub to-history : ℕ
  pub to-states : ℕ
  pub byte : ℕ
  pub initial : name_in ns s at ≡ value i to-history
  pub history : below 2 s to-history ≡ value byte to-states
  pub flag : flag_of byte ≡ h
  pub states : u16 s to-states ≡ value k b

-- a machine's initial state and then its states: k of them, from b on
pub record MachineAt (ns : List Name) (s : List ℕ) (at : ℕ) (i : Name) (k b : ℕ) : Type 0 where
  pub to-states : ℕ
  pub initial : name_in ns s at ≡ value i to-states
  pub states : u16 s to-states ≡ value k b

-- the offset after what was read
unfoldable pub end_of : {A : Type 0} → Answer A → ℕ
end_of (value x q) = q
end_of early = 0
end_of (illegal o) = 0
end_of (deep o) = 0

-- the offset after the state at `at`
unfoldable pub over_in : List Name → List ℕ → ℕ → ℕ
over_in ns s at = end_of (state_at ns s at)

-- n states, with so many levels left below, from `at` up to q, under a prefix p of their names: they stand for `ResolvedStates`.
-- `place` is where the initial state of the machine of a name is.
-- Every index is a variable or a constructor, and what is computed is an equation beside it: so a mutual proof may go by cases.
mutual
  pub data StandsS (ns : List Name) (s : List ℕ) (place : ℕ → ℕ) : Name → ℕ → ℕ → ℕ → ResolvedStates → ℕ → Type 0 where
    s_end : {p : Name} {l at q : ℕ} → at ≡ q → StandsS ns s place p l zero at s_nil q
    s_more : {p nm full : Name} {l n at k b e q : ℕ} {es : List Equation} {ts tts : List Transition} {rs : ResolvedRegions} {rest : ResolvedStates}
        → StateAt ns s at nm es ts k b
        → full ≡ p ++ nm
        → tts ≡ prefix_transitions p ts
        → over_in ns s at ≡ e
        → StandsR ns s place p l nm k b rs e
        → StandsS ns s place p l n e rest q
        → StandsS ns s place p l (suc n) at (s_cons full es tts rs rest) q

  -- the regions of the state nm: n inline ones from `at` on, and then its refinement, up to e
  pub data StandsR (ns : List Name) (s : List ℕ) (place : ℕ → ℕ) : Name → ℕ → Name → ℕ → ℕ → ResolvedRegions → ℕ → Type 0 where
    r_more : {p nm i full : Name} {l n at k b m e : ℕ} {h : Bool} {ss : ResolvedStates} {rest : ResolvedRegions}
        → RegionAt ns s at i h k b
        → full ≡ p ++ i
        → StandsS ns s place p l k b ss m
        → StandsR ns s place p (suc l) nm n m rest e
        → StandsR ns s place p (suc l) nm (suc n) at (r_cons full h ss rest) e
    r_plain : {p nm : Name} {l at e : ℕ} → u16 s at ≡ value absent e → StandsR ns s place p l nm zero at r_nil e
    r_into : {p nm sub i full : Name} {l at e x k b z : ℕ} {ss : ResolvedStates}
        → u16 s at ≡ value x e
        → x < length ns
        → (x ≡ absent → ⊥)
        → MachineAt ns s (place x) i k b
        → sub ≡ p ++ (nm ++ (95 ∷ []))
        → full ≡ sub ++ i
        → StandsS ns s place sub l k b ss z
        → StandsR ns s place p (suc l) nm zero at (r_cons full false ss r_nil) e
