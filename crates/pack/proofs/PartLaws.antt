-- One law for each production: what it skips is what its parts skip, one after the other. Of states and regions, which are read by
-- loops that call each other, also what is so where reading stops within.
use Rattle.std.proofs.Common.{◌≡◌, ℕ, zero, suc, ◌-◌, ◌<◌, ◌≤◌, List, [], ◌∷◌, length, sym, refl, ap, ◌∙◌, arith, Ok, Err}
use Rattle.wire.specs.declared.answer.Stop.{Stop}
use Rattle.wire.specs.declared.answer.Stop.TheVariants.{Deep}
use Rattle.wire.specs.declared.answer.Number.{Number}
use Rattle.wire.specs.Answer.{Answer, below, bind, counted, index, u16}
use Rattle.wire.specs.Code.{Skipped, next, onward, read_of, rep, skip, skips}
use Rattle.wire.proofs.Codes.{bind-steps, from-steps, last_step, listed-counted, listed-err, listed-ok, next-cong, skip-map, skip-read_ok, steps}
use Rattle.pack_rules.specs.Names.{Name}
use Rattle.pack_rules.specs.Read.{OneRegion, activation_in, branch_in, enum_in, equation_in, equations_in, expr_in, machine_in, name_in, names_in, node_in, optional_in, origin_in, port_in, ports_in, region_at, state_at, state_with, transition_in, type_in}

-- a list whose count was read
counted-ok : {A : Type 0} (f : ℕ → Answer A) (s : List ℕ) (at : ℕ) (n : Number) (r : Skipped) → Ok n ≡ read_of (u16 s at) → r ≡ rep (skips f) n.value n.next → r ≡ skip (counted f s at)
counted-ok f s at n r e h = listed-ok s (skips f) at n r e h ∙ listed-counted f s at

counted-err : {A : Type 0} (f : ℕ → Answer A) (s : List ℕ) (at : ℕ) (e : Stop) → Err e ≡ read_of (u16 s at) → Err e ≡ skip (counted f s at)
counted-err f s at e h = listed-err s (skips f) at e h ∙ listed-counted f s at

module _ (ns : List Name) (s : List ℕ) where
  -- names are skipped by their indexes
  pub name-steps : (r : Skipped) → onward (index (length ns) s) r ≡ onward (name_in ns s) r
  unfolding onward skips name_in
  name-steps r = next-cong r _ _ (λ p e. sym (skip-map _ (index (length ns) s p)))

  abbrev port_parts : List (ℕ → Skipped)
  port_parts = skips (name_in ns s) ∷ skips (type_in ns s) ∷ []

  port-parts : (p : ℕ) → skip (port_in ns s p) ≡ steps port_parts (Ok p)
  unfolding port_in
  port-parts p = bind-steps (name_in ns s) p _ _ (λ x0 p0. last_step (type_in ns s) p0 _)

  pub port-steps : (r : Skipped) → onward (type_in ns s) (onward (name_in ns s) r) ≡ onward (port_in ns s) r
  unfolding onward steps
  port-steps r = sym (from-steps (port_in ns s) port_parts port-parts r)

  abbrev equation_parts : List (ℕ → Skipped)
  equation_parts = skips (names_in ns s) ∷ skips (expr_in ns s) ∷ []

  equation-parts : (p : ℕ) → skip (equation_in ns s p) ≡ steps equation_parts (Ok p)
  unfolding equation_in
  equation-parts p = bind-steps (names_in ns s) p _ _ (λ x0 p0. last_step (expr_in ns s) p0 _)

  pub equation-steps : (r : Skipped) → onward (expr_in ns s) (onward (names_in ns s) r) ≡ onward (equation_in ns s) r
  unfolding onward steps
  equation-steps r = sym (from-steps (equation_in ns s) equation_parts equation-parts r)

  abbrev transition_parts : List (ℕ → Skipped)
  transition_parts = skips (expr_in ns s) ∷ skips (name_in ns s) ∷ []

  transition-parts : (p : ℕ) → skip (transition_in ns s p) ≡ steps transition_parts (Ok p)
  unfolding transition_in
  transition-parts p = bind-steps (expr_in ns s) p _ _ (λ x0 p0. last_step (name_in ns s) p0 _)

  pub transition-steps : (r : Skipped) → onward (name_in ns s) (onward (expr_in ns s) r) ≡ onward (transition_in ns s) r
  unfolding onward steps
  transition-steps r = sym (from-steps (transition_in ns s) transition_parts transition-parts r)

  abbrev enum_parts : List (ℕ → Skipped)
  enum_parts = skips (name_in ns s) ∷ skips (names_in ns s) ∷ []

  enum-parts : (p : ℕ) → skip (enum_in ns s p) ≡ steps enum_parts (Ok p)
  unfolding enum_in
  enum-parts p = bind-steps (name_in ns s) p _ _ (λ x0 p0. last_step (names_in ns s) p0 _)

  pub enum-steps : (r : Skipped) → onward (names_in ns s) (onward (name_in ns s) r) ≡ onward (enum_in ns s) r
  unfolding onward steps
  enum-steps r = sym (from-steps (enum_in ns s) enum_parts enum-parts r)

  abbrev node_parts : List (ℕ → Skipped)
  node_parts = skips (name_in ns s) ∷ skips (below 3 s) ∷ skips (ports_in ns s) ∷ skips (ports_in ns s) ∷ skips (ports_in ns s) ∷ skips (equations_in ns s) ∷ []

  node-parts : (p : ℕ) → skip (node_in ns s p) ≡ steps node_parts (Ok p)
  unfolding node_in
  node-parts p = bind-steps (name_in ns s) p _ _ (λ x0 p0. bind-steps (below 3 s) p0 _ _ (λ x1 p1. bind-steps (ports_in ns s) p1 _ _ (λ x2 p2. bind-steps (ports_in ns s) p2 _ _ (λ x3 p3. bind-steps (ports_in ns s) p3 _ _ (λ x4 p4. last_step (equations_in ns s) p4 _)))))

  pub node-steps : (r : Skipped) → onward (equations_in ns s) (onward (ports_in ns s) (onward (ports_in ns s) (onward (ports_in ns s) (onward (below 3 s) (onward (name_in ns s) r))))) ≡ onward (node_in ns s) r
  unfolding onward steps
  node-steps r = sym (from-steps (node_in ns s) node_parts node-parts r)

  abbrev machine_parts : List (ℕ → Skipped)
  machine_parts = skips (name_in ns s) ∷ skips (optional_in ns s) ∷ skips (ports_in ns s) ∷ skips (ports_in ns s) ∷ skips (ports_in ns s) ∷ skips (name_in ns s) ∷ skips (counted (state_at ns s) s) ∷ []

  machine-parts : (p : ℕ) → skip (machine_in ns s p) ≡ steps machine_parts (Ok p)
  unfolding machine_in
  machine-parts p = bind-steps (name_in ns s) p _ _ (λ x0 p0. bind-steps (optional_in ns s) p0 _ _ (λ x1 p1. bind-steps (ports_in ns s) p1 _ _ (λ x2 p2. bind-steps (ports_in ns s) p2 _ _ (λ x3 p3. bind-steps (ports_in ns s) p3 _ _ (λ x4 p4. bind-steps (name_in ns s) p4 _ _ (λ x5 p5. last_step (counted (state_at ns s) s) p5 _))))))

  pub machine-steps : (r : Skipped) → onward (counted (state_at ns s) s) (onward (name_in ns s) (onward (ports_in ns s) (onward (ports_in ns s) (onward (ports_in ns s) (onward (optional_in ns s) (onward (name_in ns s) r)))))) ≡ onward (machine_in ns s) r
  unfolding onward steps
  machine-steps r = sym (from-steps (machine_in ns s) machine_parts machine-parts r)

  abbrev branch_parts : List (ℕ → Skipped)
  branch_parts = skips (name_in ns s) ∷ skips (expr_in ns s) ∷ skips (equations_in ns s) ∷ []

  branch-parts : (p : ℕ) → skip (branch_in ns s p) ≡ steps branch_parts (Ok p)
  unfolding branch_in
  branch-parts p = bind-steps (name_in ns s) p _ _ (λ x0 p0. bind-steps (expr_in ns s) p0 _ _ (λ x1 p1. last_step (equations_in ns s) p1 _))

  pub branch-steps : (r : Skipped) → onward (equations_in ns s) (onward (expr_in ns s) (onward (name_in ns s) r)) ≡ onward (branch_in ns s) r
  unfolding onward steps
  branch-steps r = sym (from-steps (branch_in ns s) branch_parts branch-parts r)

  abbrev activation_parts : List (ℕ → Skipped)
  activation_parts = skips (name_in ns s) ∷ skips (name_in ns s) ∷ skips (ports_in ns s) ∷ skips (counted (branch_in ns s) s) ∷ skips (equations_in ns s) ∷ []

  activation-parts : (p : ℕ) → skip (activation_in ns s p) ≡ steps activation_parts (Ok p)
  unfolding activation_in
  activation-parts p = bind-steps (name_in ns s) p _ _ (λ x0 p0. bind-steps (name_in ns s) p0 _ _ (λ x1 p1. bind-steps (ports_in ns s) p1 _ _ (λ x2 p2. bind-steps (counted (branch_in ns s) s) p2 _ _ (λ x3 p3. last_step (equations_in ns s) p3 _))))

  pub activation-steps : (r : Skipped) → onward (equations_in ns s) (onward (counted (branch_in ns s) s) (onward (ports_in ns s) (onward (name_in ns s) (onward (name_in ns s) r)))) ≡ onward (activation_in ns s) r
  unfolding onward steps
  activation-steps r = sym (from-steps (activation_in ns s) activation_parts activation-parts r)

  abbrev origin_parts : List (ℕ → Skipped)
  origin_parts = skips (name_in ns s) ∷ skips (below 2 s) ∷ skips (name_in ns s) ∷ skips (u16 s) ∷ skips (u16 s) ∷ skips (names_in ns s) ∷ []

  origin-parts : (p : ℕ) → skip (origin_in ns s p) ≡ steps origin_parts (Ok p)
  unfolding origin_in
  origin-parts p = bind-steps (name_in ns s) p _ _ (λ x0 p0. bind-steps (below 2 s) p0 _ _ (λ x1 p1. bind-steps (name_in ns s) p1 _ _ (λ x2 p2. bind-steps (u16 s) p2 _ _ (λ x3 p3. bind-steps (u16 s) p3 _ _ (λ x4 p4. last_step (names_in ns s) p4 _)))))

  pub origin-steps : (r : Skipped) → onward (names_in ns s) (onward (u16 s) (onward (u16 s) (onward (name_in ns s) (onward (below 2 s) (onward (name_in ns s) r))))) ≡ onward (origin_in ns s) r
  unfolding onward steps
  origin-steps r = sym (from-steps (origin_in ns s) origin_parts origin-parts r)

-- a state, given how a region is read; a region, which may not open with no level left
module _ (ns : List Name) (s : List ℕ) (region : ℕ → Answer OneRegion) where
  abbrev state_parts : List (ℕ → Skipped)
  state_parts = skips (name_in ns s) ∷ skips (equations_in ns s) ∷ skips (counted (transition_in ns s) s) ∷ skips (counted region s) ∷ skips (optional_in ns s) ∷ []

  state-parts : (p : ℕ) → skip (state_with region ns s p) ≡ steps state_parts (Ok p)
  unfolding state_with
  state-parts p = bind-steps (name_in ns s) p _ _ (λ x0 p0. bind-steps (equations_in ns s) p0 _ _ (λ x1 p1. bind-steps (counted (transition_in ns s) s) p1 _ _ (λ x2 p2. bind-steps (counted region s) p2 _ _ (λ x3 p3. last_step (optional_in ns s) p3 _))))

  pub state-steps : (r : Skipped) → onward (optional_in ns s) (onward (counted region s) (onward (counted (transition_in ns s) s) (onward (equations_in ns s) (onward (name_in ns s) r)))) ≡ onward (state_with region ns s) r
  unfolding onward steps
  state-steps r = sym (from-steps (state_with region ns s) state_parts state-parts r)

  -- a state whose parts were read as far as its regions
  state-read : (at a b t : ℕ) (r : Skipped) → Ok a ≡ skip (name_in ns s at) → Ok b ≡ skip (equations_in ns s a) → Ok t ≡ skip (counted (transition_in ns s) s b) → r ≡ skip (counted region s t) → next r (skips (optional_in ns s)) ≡ skip (state_with region ns s at)
  unfolding steps next skips
  state-read at a b t r e f g h =
      sym (state-parts at ∙ ap (λ (x : Skipped). steps (skips (equations_in ns s) ∷ skips (counted (transition_in ns s) s) ∷ skips (counted region s) ∷ skips (optional_in ns s) ∷ []) x) (sym e)
      ∙ ap (λ (x : Skipped). steps (skips (counted (transition_in ns s) s) ∷ skips (counted region s) ∷ skips (optional_in ns s) ∷ []) x) (sym f)
      ∙ ap (λ (x : Skipped). steps (skips (counted region s) ∷ skips (optional_in ns s) ∷ []) x) (sym g)
      ∙ ap (λ (x : Skipped). next x (skips (optional_in ns s))) (sym h))

  pub state-at : (at a b t : ℕ) (n : Number) (r : Skipped) → Ok a ≡ skip (name_in ns s at) → Ok b ≡ skip (equations_in ns s a) → Ok t ≡ skip (counted (transition_in ns s) s b) → Ok n ≡ read_of (u16 s t) → r ≡ rep (skips region) n.value n.next → next r (skips (optional_in ns s)) ≡ skip (state_with region ns s at)
  state-at at a b t n r e f g h i = state-read at a b t r e f g (counted-ok region s t n r h i)

  pub state-uncounted : (at a b t : ℕ) (o : Stop) → Ok a ≡ skip (name_in ns s at) → Ok b ≡ skip (equations_in ns s a) → Ok t ≡ skip (counted (transition_in ns s) s b) → Err o ≡ read_of (u16 s t) → Err o ≡ skip (state_with region ns s at)
  unfolding next
  state-uncounted at a b t o e f g h = state-read at a b t (Err o) e f g (counted-err region s t o h)

module _ (ns : List Name) (s : List ℕ) where
  abbrev region_parts : ℕ → List (ℕ → Skipped)
  region_parts levels = skips (name_in ns s) ∷ skips (below 2 s) ∷ skips (counted (state_with (region_at levels ns s) ns s) s) ∷ []

  region-parts : (levels p : ℕ) → skip (region_at (suc levels) ns s p) ≡ steps (region_parts levels) (Ok p)
  unfolding region_at
  region-parts levels p = bind-steps (name_in ns s) p _ _ (λ x0 p0. bind-steps (below 2 s) p0 _ _ (λ x1 p1. last_step (counted (state_with (region_at levels ns s) ns s) s) p1 _))

  pub region-steps : (levels : ℕ) (r : Skipped) → (levels ≡ 0 → ⊥) → onward (counted (state_with (region_at (levels - 1) ns s) ns s) s) (onward (below 2 s) (onward (name_in ns s) r)) ≡ onward (region_at levels ns s) r
  unfolding onward steps
  region-steps zero r h = absurd (h refl)
  region-steps (suc levels) r h = let e : suc levels - 1 ≡ levels = omega arith in rw e (sym (from-steps (region_at (suc levels) ns s) (region_parts levels) (region-parts levels) r))

  -- a region whose parts were read as far as its states
  region-counted : (levels at a : ℕ) (h : Number) (r : Skipped) → (levels ≡ 0 → ⊥) → Ok a ≡ skip (name_in ns s at) → Ok h ≡ read_of (below 2 s a) → r ≡ skip (counted (state_with (region_at (levels - 1) ns s) ns s) s h.next) → r ≡ skip (region_at levels ns s at)
  unfolding steps next skips
  region-counted zero at a h r l e f g = absurd (l refl)
  region-counted (suc levels) at a h r l e f g =
      let k : suc levels - 1 ≡ levels = omega arith in
      g ∙ ap (λ (j : ℕ). skip (counted (state_with (region_at j ns s) ns s) s h.next)) k
      ∙ sym (region-parts levels at ∙ ap (λ (x : Skipped). steps (skips (below 2 s) ∷ skips (counted (state_with (region_at levels ns s) ns s) s) ∷ []) x) (sym e)
      ∙ ap (λ (x : Skipped). next x (skips (counted (state_with (region_at levels ns s) ns s) s))) (sym (skip-read_ok (below 2 s a) h f)))

  pub region-read : (levels at a : ℕ) (h n : Number) (r : Skipped) → (levels ≡ 0 → ⊥) → Ok a ≡ skip (name_in ns s at) → Ok h ≡ read_of (below 2 s a) → Ok n ≡ read_of (u16 s h.next) → r ≡ rep (skips (state_with (region_at (levels - 1) ns s) ns s)) n.value n.next → r ≡ skip (region_at levels ns s at)
  region-read levels at a h n r l e f g i = region-counted levels at a h r l e f (counted-ok (state_with (region_at (levels - 1) ns s) ns s) s h.next n r g i)

  pub region-uncounted : (levels at a : ℕ) (h : Number) (o : Stop) → (levels ≡ 0 → ⊥) → Ok a ≡ skip (name_in ns s at) → Ok h ≡ read_of (below 2 s a) → Err o ≡ read_of (u16 s h.next) → Err o ≡ skip (region_at levels ns s at)
  region-uncounted levels at a h o l e f g = region-counted levels at a h (Err o) l e f (counted-err (state_with (region_at (levels - 1) ns s) ns s) s h.next o g)
