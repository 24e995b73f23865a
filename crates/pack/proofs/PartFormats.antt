-- Ports, equations, nodes, machines, activations and origins: each a record of formats.
use Rattle.std.proofs.Common.{◌≡◌, ℕ, zero, suc, ◌-◌, ◌<◌, ◌≤◌, Bool, true, false, cond, ◌||◌, eqb, ltb, List, [], ◌∷◌, ◌++◌, length, get_or, sym, refl, ap, ◌∙◌, append_assoc, append-nil, arith, ltb-true, le-ltb, lt-ltb, ne_eqb, eqb-true}
use mathlib.Core.Option.{Option, none, some}
use borrow.Author.Tests.{eqb-false}
use Rattle.pack_rules.specs.Limits.{absent, max_level}
use Rattle.pack_rules.specs.Names.{Name}
use Rattle.pack_rules.specs.Syntax.{Activation, Branch, Enum, Equation, Expr, MachineDef, Node, NodeKind, Origin, OriginKind, Package, Port, RegionDefs, StateDefs, Transition, Ty, def_cons, def_nil, k_function, k_imported, k_operator, of_activation, of_machine, reg_cons, reg_nil}
use Rattle.wire.specs.Answer.{Answer, below, counted, deep, guard, map_a, u16, value}
use Rattle.pack_rules.specs.Forms.{flag_of, name_at}
use Rattle.pack_rules.specs.Read.{OneRegion, OneState, activation_in, branch_in, drawn_of, enum_in, equation_in, equations_in, expr_in, kind_of, machine_in, name_in, names_in, node_in, optional, optional_in, origin_in, origin_kind, port_in, ports_in, region_at, regions_of, state_at, state_with, transition_in, type_in}
use Rattle.pack_rules.specs.Write.{Item, activation_items, branch_items, drawn_count, drawn_items, each, enum_items, equation_items, expr_items, flag_byte, kind_byte, list, machine_items, name_items, nm, node_items, option_items, origin_byte, origin_items, port_items, raw, region_count, region_items, transition_items, ty_items}
use Rattle.wire.specs.Bytes.{two}
use Rattle.wire.specs.Lists.{All}
use Rattle.wire.proofs.Formats.{Below, both, format16, format_below, format_guard, format_is, format_map, format_same, seq, single}
use Rattle.pack_rules.specs.Legal.{Deeper, Each, Fresh, Known, ShapedPort, ShapedTy, place}
use Rattle.pack.proofs.Tables.{code, name-at-place, place-at-name}
use Rattle.pack.proofs.TypeFormats.{Alike, Any, Fmt, Rows, alike, fmt_both, fmt_counted, fmt_map, fmt_name, fmt_raw, fmt_type, row_at}
use Rattle.pack.proofs.HeadFormats.{byte_flag, flag-byte, flag_small}
use Rattle.pack.proofs.ExprFormats.{Shaped, fmt_expr}

-- what is legal, apart from the names: counts and numbers in range, regions not too deep
abbrev pub Listed : {A : Type 0} → (A → Type 0) → List A → Type 0
Listed P xs = (length xs < 65536) × All P xs

abbrev pub ShapedEquation : Equation → Type 0
ShapedEquation e = (length e.lhs < 65536) × Shaped e.rhs

abbrev pub ShapedTransition : Transition → Type 0
ShapedTransition t = Shaped t.guard

abbrev pub ShapedEnum : Enum → Type 0
ShapedEnum e = length e.variants < 65536

abbrev pub ShapedNode : Node → Type 0
ShapedNode n = Listed ShapedPort n.inputs × Listed ShapedPort n.outputs × Listed ShapedPort n.locals × Listed ShapedEquation n.equations

-- the levels are those left for regions
unfoldable mutual
  pub ShapedStates : StateDefs → ℕ → Type 0
  ShapedStates def_nil levels = Unit {0}
  ShapedStates (def_cons s es ts rs f rest) levels = (Listed ShapedEquation es × Listed ShapedTransition ts × (region_count rs < 65536) × ShapedRegions rs levels) × ShapedStates rest levels

  pub ShapedRegions : RegionDefs → ℕ → Type 0
  ShapedRegions reg_nil levels = Unit {0}
  ShapedRegions (reg_cons i h ss rest) levels = ((drawn_count ss < 65536) × Deeper (λ l. ShapedStates ss l) levels) × ShapedRegions rest levels

abbrev pub ShapedMachine : MachineDef → Type 0
ShapedMachine m = Listed ShapedPort m.inputs × Listed ShapedPort m.outputs × Listed ShapedPort m.locals × (drawn_count m.states < 65536) × ShapedStates m.states (max_level - 1)

abbrev pub ShapedBranch : Branch → Type 0
ShapedBranch b = Shaped b.condition × Listed ShapedEquation b.equations

abbrev pub ShapedActivation : Activation → Type 0
ShapedActivation a = Listed ShapedPort a.outputs × Listed ShapedBranch a.branches × Listed ShapedEquation a.else_equations

abbrev pub ShapedOrigin : Origin → Type 0
ShapedOrigin o = (o.first < 65536) × (o.after < 65536) × (length o.branches < 65536)

abbrev pub ShapedPackage : Package → Type 0
ShapedPackage p = Listed ShapedEnum p.enums × Listed ShapedNode p.nodes × Listed ShapedMachine p.machines × Listed ShapedActivation p.activations × Listed ShapedOrigin p.origins

pub all_any : {A : Type 0} (xs : List A) → All Any xs
unfolding All
all_any [] = tt
all_any (x ∷ xs) = (tt, all_any xs)

-- kinds
pub kind-down : (k : NodeKind) → (kind_byte k < 3) × (get_or (k_function ∷ k_operator ∷ k_imported ∷ []) (kind_byte k) k_function ≡ k)
unfolding kind_byte
kind-down k_function = (omega arith, refl)
kind-down k_operator = (omega arith, refl)
kind-down k_imported = (omega arith, refl)

pub kind-up : (k : ℕ) → k < 3 → kind_byte (get_or (k_function ∷ k_operator ∷ k_imported ∷ []) k k_function) ≡ k
unfolding kind_byte Rows
kind-up k h = row_at (λ n x. kind_byte x ≡ n) (k_function ∷ k_operator ∷ k_imported ∷ []) k k_function (refl, (refl, (refl, tt))) h

pub origin-down : (k : OriginKind) → (origin_byte k < 2) × (cond (flag_of (origin_byte k)) of_activation of_machine ≡ k)
unfolding origin_byte flag_of
origin-down of_machine = (omega arith, refl)
origin-down of_activation = (omega arith, refl)

pub origin-up : (k : ℕ) → k < 2 → origin_byte (cond (flag_of k) of_activation of_machine) ≡ k
unfolding origin_byte flag_of
origin-up k h = go (eqb k 1) refl
  where
    go : (b : Bool) → eqb k 1 ≡ b → origin_byte (cond b of_activation of_machine) ≡ k
    go true e = sym (eqb-true k 1 e)
    go false e = let n = eqb-false k 1 e in omega arith

-- states and regions as lists
unfoldable pub states_of : StateDefs → List OneState
states_of def_nil = []
states_of (def_cons s es ts rs f rest) = record { name = s; equations = es; transitions = ts; regions = rs; refines = f } ∷ states_of rest

unfoldable pub region_list : RegionDefs → List OneRegion
region_list reg_nil = []
region_list (reg_cons i h ss rest) = record { initial = i; history = h; states = ss } ∷ region_list rest

unfoldable pub state_items : OneState → List Item
state_items x = nm x.name ∷ (list equation_items x.equations ++ (list transition_items x.transitions ++ (raw (two (region_count x.regions)) ∷ (region_items x.regions ++ option_items x.refines))))

unfoldable pub one_region_items : OneRegion → List Item
one_region_items r = nm r.initial ∷ raw (flag_byte r.history ∷ two (drawn_count r.states)) ∷ drawn_items r.states

pub drawn-states : (d : StateDefs) → drawn_of (states_of d) ≡ d
unfolding drawn_of states_of
drawn-states def_nil = refl
drawn-states (def_cons s es ts rs f rest) = ap (def_cons s es ts rs f) (drawn-states rest)

pub regions-list : (d : RegionDefs) → regions_of (region_list d) ≡ d
unfolding regions_of region_list
regions-list reg_nil = refl
regions-list (reg_cons i h ss rest) = ap (reg_cons i h ss) (regions-list rest)

count-states : (xs : List OneState) → length xs ≡ drawn_count (drawn_of xs)
unfolding drawn_count drawn_of
count-states [] = refl
count-states (x ∷ xs) = ap suc (count-states xs)

count-regions : (xs : List OneRegion) → length xs ≡ region_count (regions_of xs)
unfolding region_count regions_of
count-regions [] = refl
count-regions (x ∷ xs) = ap suc (count-regions xs)

each-states : (xs : List OneState) → each state_items xs ≡ drawn_items (drawn_of xs)
unfolding drawn_items drawn_of state_items each
each-states [] = refl
each-states (x ∷ xs) = ap (λ (l : List Item). state_items x ++ l) (each-states xs) ∙ simp append_assoc

each-regions : (xs : List OneRegion) → each one_region_items xs ≡ region_items (regions_of xs)
unfolding region_items regions_of one_region_items each
each-regions [] = refl
each-regions (x ∷ xs) = ap (λ (l : List Item). one_region_items x ++ l) (each-regions xs)

pub list-states : (xs : List OneState) → list state_items xs ≡ raw (two (drawn_count (drawn_of xs))) ∷ drawn_items (drawn_of xs)
unfolding list
list-states xs = λ j. raw (two (count-states xs j)) ∷ each-states xs j

pub list-regions : (xs : List OneRegion) → list one_region_items xs ≡ raw (two (region_count (regions_of xs))) ∷ region_items (regions_of xs)
unfolding list
list-regions xs = λ j. raw (two (count-regions xs j)) ∷ each-regions xs j

module _ (levels : ℕ) where
  abbrev pub ShapedState : OneState → Type 0
  ShapedState x = Listed ShapedEquation x.equations × Listed ShapedTransition x.transitions × (region_count x.regions < 65536) × ShapedRegions x.regions levels

  abbrev pub ShapedRegion : OneRegion → Type 0
  ShapedRegion r = (drawn_count r.states < 65536) × Deeper (λ l. ShapedStates r.states l) levels

  pub states-down : (d : StateDefs) → ShapedStates d levels → All ShapedState (states_of d)
  unfolding ShapedStates states_of All
  states-down def_nil h = tt
  states-down (def_cons s es ts rs f rest) h = (h.0, states-down rest h.1)

  pub states-up : (xs : List OneState) → All ShapedState xs → ShapedStates (drawn_of xs) levels
  unfolding ShapedStates drawn_of All
  states-up [] h = tt
  states-up (x ∷ xs) h = (h.0, states-up xs h.1)

  pub regions-down : (d : RegionDefs) → ShapedRegions d levels → All ShapedRegion (region_list d)
  unfolding ShapedRegions region_list All
  regions-down reg_nil h = tt
  regions-down (reg_cons i b ss rest) h = (h.0, regions-down rest h.1)

  pub regions-up : (xs : List OneRegion) → All ShapedRegion xs → ShapedRegions (regions_of xs) levels
  unfolding ShapedRegions regions_of All
  regions-up [] h = tt
  regions-up (x ∷ xs) h = (h.0, regions-up xs h.1)

-- bytes written together or apart
alike-trans : (ns : List Name) (a b c : List Item) → Alike ns a b → Alike ns b c → Alike ns a c
alike-trans ns a b c f g = record { codes = f.codes ∙ g.codes; to = λ h. g.to (f.to h); from = λ h. f.from (g.from h) }

region-bytes : (ns : List Name) (n : Name) (h k : ℕ) (is : List Item) → Alike ns (nm n ∷ raw (h ∷ []) ∷ raw (two k) ∷ is) (nm n ∷ raw (h ∷ two k) ∷ is)
unfolding code Each two
region-bytes ns n h k is = record { codes = refl; to = λ x. x; from = λ x. x }

origin-bytes : (ns : List Name) (n : Name) (k : ℕ) (m : Name) (a b : ℕ) (is : List Item) → Alike ns (nm n ∷ raw (k ∷ []) ∷ nm m ∷ raw (two a) ∷ raw (two b) ∷ is) (nm n ∷ raw (k ∷ []) ∷ nm m ∷ raw (two a ++ two b) ∷ is)
unfolding code Each two
origin-bytes ns n k m a b is = record { codes = refl; to = λ x. x; from = λ x. x }

-- a record: its fields one after the other
pub fmt_alike : {A B : Type 0} (ns : List Name) (f : List ℕ → ℕ → Answer A) (i : A → List Item) (p : A → Type 0) (r : List ℕ → ℕ → Answer B) (c : A → B) (d : B → A) (j : B → List Item) (q : B → Type 0) → Fmt ns f i p → ((s : List ℕ) (at : ℕ) → r s at ≡ map_a c (f s at)) → ((y : B) → q y → p (d y)) → ((y : B) → q y → c (d y) ≡ y) → ((x : A) → p x → q (c x)) → ((x : A) → p x → Alike ns (i x) (j (c x))) → Fmt ns r j q
fmt_alike ns f i p r c d j q F law down back up same =
    format_is (λ s at. map_a c (f s at)) r (λ y. code ns (j y)) (λ y. q y × Each (Known ns) (j y)) law (fmt_map ns f i p c d j q F down back up same)

pub fmt_record : {A B : Type 0} (ns : List Name) (f : List ℕ → ℕ → Answer A) (i : A → List Item) (p : A → Type 0) (r : List ℕ → ℕ → Answer B) (c : A → B) (d : B → A) (j : B → List Item) (q : B → Type 0) → Fmt ns f i p → ((s : List ℕ) (at : ℕ) → r s at ≡ map_a c (f s at)) → ((y : B) → q y → p (d y)) → ((y : B) → q y → c (d y) ≡ y) → ((x : A) → p x → q (c x)) → ((x : A) → p x → i x ≡ j (c x)) → Fmt ns r j q
fmt_record ns f i p r c d j q F law down back up same = fmt_alike ns f i p r c d j q F law down back up (λ x h. alike ns (i x) (j (c x)) (same x h))

module _ (ns : List Name) (fresh : Fresh [] ns) (small : length ns < 65536) where
  le : length ns ≤ 65536
  le = omega arith

  N : Fmt ns (name_in ns) name_items Any
  N = fmt_name ns le fresh

  E : Fmt ns (expr_in ns) expr_items Shaped
  E = fmt_expr ns fresh le

  pub fmt_names : Fmt ns (names_in ns) (list name_items) (λ xs. length xs < 65536)
  unfolding names_in
  fmt_names = format_same (names_in ns) (λ (xs : List Name). code ns (list name_items xs)) (λ (xs : List Name). ((length xs < 65536) × All Any xs) × Each (Known ns) (list name_items xs)) (λ (xs : List Name). code ns (list name_items xs)) (λ (xs : List Name). (length xs < 65536) × Each (Known ns) (list name_items xs)) (fmt_counted ns (name_in ns) name_items Any N) (λ xs h. ((h.0, all_any xs), h.1)) (λ xs h. (h.0.0, h.1)) (λ xs h. refl)

  pub fmt_port : Fmt ns (port_in ns) port_items ShapedPort
  unfolding port_in port_items name_items
  fmt_port = fmt_record ns (both (name_in ns) (type_in ns)) (λ z. name_items z.0 ++ ty_items z.1) (λ z. Any z.0 × ShapedTy z.1) (port_in ns) (λ (z : Name × Ty). record { name = z.0; ty = z.1 }) (λ (y : Port). (y.name, y.ty)) port_items ShapedPort
      (fmt_both ns (name_in ns) (type_in ns) name_items ty_items Any ShapedTy N (fmt_type ns fresh le))
      (λ s at. seq (name_in ns) (type_in ns) _ (λ (n : Name) (t : Ty). record { name = n; ty = t }) s at (λ x p. refl))
      (λ y h. (tt, h)) (λ y h. refl) (λ x h. h.1) (λ x h. refl)

  pub fmt_ports : Fmt ns (ports_in ns) (list port_items) (Listed ShapedPort)
  unfolding ports_in
  fmt_ports = fmt_counted ns (port_in ns) port_items ShapedPort fmt_port

  pub fmt_equation : Fmt ns (equation_in ns) equation_items ShapedEquation
  unfolding equation_in equation_items
  fmt_equation = fmt_record ns (both (names_in ns) (expr_in ns)) (λ z. list name_items z.0 ++ expr_items z.1) (λ z. (length z.0 < 65536) × Shaped z.1) (equation_in ns) (λ (z : List Name × Expr). record { lhs = z.0; rhs = z.1 }) (λ (y : Equation). (y.lhs, y.rhs)) equation_items ShapedEquation
      (fmt_both ns (names_in ns) (expr_in ns) (list name_items) expr_items (λ xs. length xs < 65536) Shaped fmt_names E)
      (λ s at. seq (names_in ns) (expr_in ns) _ (λ (n : List Name) (t : Expr). record { lhs = n; rhs = t }) s at (λ x p. refl))
      (λ y h. h) (λ y h. refl) (λ x h. h) (λ x h. refl)

  pub fmt_equations : Fmt ns (equations_in ns) (list equation_items) (Listed ShapedEquation)
  unfolding equations_in
  fmt_equations = fmt_counted ns (equation_in ns) equation_items ShapedEquation fmt_equation

  pub fmt_transition : Fmt ns (transition_in ns) transition_items ShapedTransition
  unfolding transition_in transition_items
  fmt_transition = fmt_record ns (both (expr_in ns) (name_in ns)) (λ z. expr_items z.0 ++ name_items z.1) (λ z. Shaped z.0 × Any z.1) (transition_in ns) (λ (z : Expr × Name). record { guard = z.0; target = z.1 }) (λ (y : Transition). (y.guard, y.target)) transition_items ShapedTransition
      (fmt_both ns (expr_in ns) (name_in ns) expr_items name_items Shaped Any E N)
      (λ s at. seq (expr_in ns) (name_in ns) _ (λ (g : Expr) (t : Name). record { guard = g; target = t }) s at (λ x p. refl))
      (λ y h. (h, tt)) (λ y h. refl) (λ x h. h.0) (λ x h. refl)

  pub fmt_enum : Fmt ns (enum_in ns) enum_items ShapedEnum
  unfolding enum_in enum_items name_items
  fmt_enum = fmt_record ns (both (name_in ns) (names_in ns)) (λ z. name_items z.0 ++ list name_items z.1) (λ z. Any z.0 × (length z.1 < 65536)) (enum_in ns) (λ (z : Name × List Name). record { name = z.0; variants = z.1 }) (λ (y : Enum). (y.name, y.variants)) enum_items ShapedEnum
      (fmt_both ns (name_in ns) (names_in ns) name_items (list name_items) Any (λ xs. length xs < 65536) N fmt_names)
      (λ s at. seq (name_in ns) (names_in ns) _ (λ (n : Name) (vs : List Name). record { name = n; variants = vs }) s at (λ x p. refl))
      (λ y h. (tt, h)) (λ y h. refl) (λ x h. h.1) (λ x h. refl)

  -- 65535 is none: no table reaches it
  place_of : Option Name → ℕ
  place_of none = absent
  place_of (some n) = place ns n

  absent-or : (i : ℕ) → (ltb i (length ns) || eqb i absent) ≡ true → (eqb i absent ≡ false) → i < length ns
  absent-or i h e = go (ltb i (length ns)) refl h
    where
      go : (b : Bool) → ltb i (length ns) ≡ b → (b || eqb i absent) ≡ true → i < length ns
      go true f g = ltb-true i (length ns) f
      go false f g = let z : ◌≡◌ {A = ℕ} 0 1 = cc in absurd (omega arith)

  abbrev ok-place : ℕ → Type 0
  ok-place i = (i < 65536) × ((ltb i (length ns) || eqb i absent) ≡ true)

  option-down : (o : Option Name) → Any o × Each (Known ns) (option_items o) → ok-place (place_of o) × (optional ns (place_of o) ≡ o)
  unfolding optional option_items Each place_of
  option-down none h = ((omega arith, le-or), refl)
    where
      le-or : (ltb 65535 (length ns) || eqb 65535 65535) ≡ true
      le-or = rw (le-ltb 65535 (length ns) (omega arith))
  option-down (some n) h =
      let k : place ns n < length ns = h.1.0 in
      ((omega arith, rw (lt-ltb (place ns n) (length ns) k)), rw (ne_eqb (place ns n) 65535 (λ i. omega arith)) (ap some (name-at-place ns n k)))

  option-up : (i : ℕ) → ok-place i → (Any (optional ns i) × Each (Known ns) (option_items (optional ns i))) × (two i ≡ code ns (option_items (optional ns i)))
  unfolding optional option_items Each code
  option-up i h = go (eqb i absent) refl
    where
      go : (b : Bool) → eqb i absent ≡ b → (Any (cond b none (some (name_at ns i))) × Each (Known ns) (option_items (cond b none (some (name_at ns i))))) × (two i ≡ code ns (option_items (cond b none (some (name_at ns i)))))
      go true e = ((tt, tt), ap two (eqb-true i absent e) ∙ sym (append-nil (two absent)))
      go false e =
          let l = absent-or i h.1 e in
          let g = place-at-name ns i fresh l in
          ((tt, (omega arith, tt)), ap two (sym g) ∙ sym (append-nil (two (place ns (name_at ns i)))))

  pub fmt_option : Fmt ns (optional_in ns) option_items Any
  unfolding optional_in optional
  fmt_option = format_map (λ s at. guard (λ i. ltb i (length ns) || eqb i absent) at (u16 s at)) two ok-place (optional ns) place_of (λ o. code ns (option_items o)) (λ o. Any o × Each (Known ns) (option_items o))
      (format_guard u16 two (Below 65536) (λ i. ltb i (length ns) || eqb i absent) format16) option-down option-up

  pub fmt_node : Fmt ns (node_in ns) node_items ShapedNode
  unfolding node_in node_items name_items kind_of single
  fmt_node = fmt_record ns (both (name_in ns) (both (below 3) (both (ports_in ns) (both (ports_in ns) (both (ports_in ns) (equations_in ns))))))
      (λ z. name_items z.0 ++ ((raw (single z.1.0) ∷ []) ++ (list port_items z.1.1.0 ++ (list port_items z.1.1.1.0 ++ (list port_items z.1.1.1.1.0 ++ list equation_items z.1.1.1.1.1)))))
      (λ z. Any z.0 × ((z.1.0 < 3) × (Listed ShapedPort z.1.1.0 × (Listed ShapedPort z.1.1.1.0 × (Listed ShapedPort z.1.1.1.1.0 × Listed ShapedEquation z.1.1.1.1.1)))))
      (node_in ns)
      (λ (z : Name × (ℕ × (List Port × (List Port × (List Port × List Equation))))). record { name = z.0; kind = get_or (k_function ∷ k_operator ∷ k_imported ∷ []) z.1.0 k_function; inputs = z.1.1.0; outputs = z.1.1.1.0; locals = z.1.1.1.1.0; equations = z.1.1.1.1.1 })
      (λ (y : Node). (y.name, (kind_byte y.kind, (y.inputs, (y.outputs, (y.locals, y.equations))))))
      node_items ShapedNode
      (fmt_both ns (name_in ns) _ name_items _ Any _ N
      (fmt_both ns (below 3) _ (λ k. raw (single k) ∷ []) _ (Below 3) _ (fmt_raw ns (below 3) single (Below 3) (format_below 3 (omega arith)))
      (fmt_both ns (ports_in ns) _ (list port_items) _ (Listed ShapedPort) _ fmt_ports
      (fmt_both ns (ports_in ns) _ (list port_items) _ (Listed ShapedPort) _ fmt_ports
      (fmt_both ns (ports_in ns) (equations_in ns) (list port_items) (list equation_items) (Listed ShapedPort) (Listed ShapedEquation) fmt_ports fmt_equations)))))
      (λ s at. seq (name_in ns) (both (below 3) (both (ports_in ns) (both (ports_in ns) (both (ports_in ns) (equations_in ns))))) _ (λ (n : Name) (z : ℕ × (List Port × (List Port × (List Port × List Equation)))). record { name = n; kind = get_or (k_function ∷ k_operator ∷ k_imported ∷ []) z.0 k_function; inputs = z.1.0; outputs = z.1.1.0; locals = z.1.1.1.0; equations = z.1.1.1.1 }) s at (λ n p.
      seq (below 3) (both (ports_in ns) (both (ports_in ns) (both (ports_in ns) (equations_in ns)))) _ (λ (k : ℕ) (z : List Port × (List Port × (List Port × List Equation))). record { name = n; kind = get_or (k_function ∷ k_operator ∷ k_imported ∷ []) k k_function; inputs = z.0; outputs = z.1.0; locals = z.1.1.0; equations = z.1.1.1 }) s p (λ k q.
      seq (ports_in ns) (both (ports_in ns) (both (ports_in ns) (equations_in ns))) _ (λ (i : List Port) (z : List Port × (List Port × List Equation)). record { name = n; kind = get_or (k_function ∷ k_operator ∷ k_imported ∷ []) k k_function; inputs = i; outputs = z.0; locals = z.1.0; equations = z.1.1 }) s q (λ i r.
      seq (ports_in ns) (both (ports_in ns) (equations_in ns)) _ (λ (o : List Port) (z : List Port × List Equation). record { name = n; kind = get_or (k_function ∷ k_operator ∷ k_imported ∷ []) k k_function; inputs = i; outputs = o; locals = z.0; equations = z.1 }) s r (λ o t.
      seq (ports_in ns) (equations_in ns) _ (λ (l : List Port) (e : List Equation). record { name = n; kind = get_or (k_function ∷ k_operator ∷ k_imported ∷ []) k k_function; inputs = i; outputs = o; locals = l; equations = e }) s t (λ l u. refl))))))
      (λ y h. (tt, ((kind-down y.kind).0, (h.0, (h.1, (h.2, h.3))))))
      (λ y h. λ j. record { name = y.name; kind = (kind-down y.kind).1 j; inputs = y.inputs; outputs = y.outputs; locals = y.locals; equations = y.equations })
      (λ x h. (h.1.1.0, h.1.1.1.0, h.1.1.1.1.0, h.1.1.1.1.1))
      (λ x h. λ j. nm x.0 ∷ raw (sym (kind-up x.1.0 h.1.0) j ∷ []) ∷ (list port_items x.1.1.0 ++ (list port_items x.1.1.1.0 ++ (list port_items x.1.1.1.1.0 ++ list equation_items x.1.1.1.1.1))))

  pub fmt_state : (levels : ℕ) → Fmt ns (region_at levels ns) one_region_items (ShapedRegion levels) → Fmt ns (λ s at. state_with (region_at levels ns s) ns s at) state_items (ShapedState levels)
  unfolding state_with state_items name_items
  fmt_state levels R = fmt_record ns (both (name_in ns) (both (equations_in ns) (both (λ s at. counted (transition_in ns s) s at) (both (λ s at. counted (region_at levels ns s) s at) (optional_in ns)))))
      (λ z. name_items z.0 ++ ((list equation_items) z.1.0 ++ ((list transition_items) z.1.1.0 ++ ((list one_region_items) z.1.1.1.0 ++ option_items z.1.1.1.1))))
      (λ z. Any z.0 × ((Listed ShapedEquation) z.1.0 × ((Listed ShapedTransition) z.1.1.0 × ((Listed (ShapedRegion levels)) z.1.1.1.0 × Any z.1.1.1.1))))
      (λ s at. state_with (region_at levels ns s) ns s at)
      (λ (z : Name × (List Equation × (List Transition × (List OneRegion × Option Name)))). record { name = z.0; equations = z.1.0; transitions = z.1.1.0; regions = regions_of z.1.1.1.0; refines = z.1.1.1.1 })
      (λ (y : OneState). (y.name, (y.equations, (y.transitions, (region_list y.regions, y.refines)))))
      state_items (ShapedState levels)
      (fmt_both ns (name_in ns) _ name_items _ Any _ N (fmt_both ns (equations_in ns) _ (list equation_items) _ (Listed ShapedEquation) _ fmt_equations (fmt_both ns (λ s at. counted (transition_in ns s) s at) _ (list transition_items) _ (Listed ShapedTransition) _ (fmt_counted ns (transition_in ns) transition_items ShapedTransition fmt_transition) (fmt_both ns (λ s at. counted (region_at levels ns s) s at) (optional_in ns) (list one_region_items) option_items (Listed (ShapedRegion levels)) Any (fmt_counted ns (region_at levels ns) one_region_items (ShapedRegion levels) R) fmt_option))))
      (λ s at. seq (name_in ns) (both (equations_in ns) (both (λ s at. counted (transition_in ns s) s at) (both (λ s at. counted (region_at levels ns s) s at) (optional_in ns)))) _ (λ (v0 : Name) (z : List Equation × (List Transition × (List OneRegion × Option Name))). record { name = v0; equations = z.0; transitions = z.1.0; regions = regions_of z.1.1.0; refines = z.1.1.1 }) s at (λ v0 p1. seq (equations_in ns) (both (λ s at. counted (transition_in ns s) s at) (both (λ s at. counted (region_at levels ns s) s at) (optional_in ns))) _ (λ (v1 : List Equation) (z : List Transition × (List OneRegion × Option Name)). record { name = v0; equations = v1; transitions = z.0; regions = regions_of z.1.0; refines = z.1.1 }) s p1 (λ v1 p2. seq (λ s at. counted (transition_in ns s) s at) (both (λ s at. counted (region_at levels ns s) s at) (optional_in ns)) _ (λ (v2 : List Transition) (z : List OneRegion × Option Name). record { name = v0; equations = v1; transitions = v2; regions = regions_of z.0; refines = z.1 }) s p2 (λ v2 p3. seq (λ s at. counted (region_at levels ns s) s at) (optional_in ns) _ (λ (v3 : List OneRegion) (z : Option Name). record { name = v0; equations = v1; transitions = v2; regions = regions_of (v3); refines = z }) s p3 (λ v3 p4. refl)))))
      (λ y h. (tt, (h.0, (h.1, ((omega (arith, count-regions (region_list y.regions), ap region_count (regions-list y.regions)), regions-down levels y.regions h.3), tt)))))
      (λ y h. λ j. record { name = y.name; equations = y.equations; transitions = y.transitions; regions = regions-list y.regions j; refines = y.refines })
      (λ x h. (h.1.0, h.1.1.0, omega (arith, count-regions x.1.1.1.0, h.1.1.1.0.0), regions-up levels x.1.1.1.0 h.1.1.1.0.1))
      (λ x h. λ j. nm x.0 ∷ (list equation_items x.1.0 ++ (list transition_items x.1.1.0 ++ (list-regions x.1.1.1.0 j ++ option_items x.1.1.1.1))))

  pub fmt_inner : (levels : ℕ) → Fmt ns (λ s at. state_with (region_at levels ns s) ns s at) state_items (ShapedState levels) → Fmt ns (region_at (suc levels) ns) one_region_items (ShapedRegion (suc levels))
  unfolding region_at one_region_items name_items single Deeper
  fmt_inner levels S = fmt_alike ns (both (name_in ns) (both (below 2) (λ s at. counted (state_with (region_at levels ns s) ns s) s at)))
      (λ z. name_items z.0 ++ ((raw (single z.1.0) ∷ []) ++ (list state_items) z.1.1))
      (λ z. Any z.0 × ((Below 2) z.1.0 × (Listed (ShapedState levels)) z.1.1))
      (region_at (suc levels) ns)
      (λ (z : Name × (ℕ × List OneState)). record { initial = z.0; history = flag_of z.1.0; states = drawn_of z.1.1 })
      (λ (y : OneRegion). (y.initial, (flag_byte y.history, states_of y.states)))
      one_region_items (ShapedRegion (suc levels))
      (fmt_both ns (name_in ns) _ name_items _ Any _ N (fmt_both ns (below 2) (λ s at. counted (state_with (region_at levels ns s) ns s) s at) (λ k. raw (single k) ∷ []) (list state_items) (Below 2) (Listed (ShapedState levels)) (fmt_raw ns (below 2) single (Below 2) (format_below 2 (omega arith))) (fmt_counted ns (λ s at. state_with (region_at levels ns s) ns s at) state_items (ShapedState levels) S)))
      (λ s at. seq (name_in ns) (both (below 2) (λ s at. counted (state_with (region_at levels ns s) ns s) s at)) _ (λ (v0 : Name) (z : ℕ × List OneState). record { initial = v0; history = flag_of z.0; states = drawn_of z.1 }) s at (λ v0 p1. seq (below 2) (λ s at. counted (state_with (region_at levels ns s) ns s) s at) _ (λ (v1 : ℕ) (z : List OneState). record { initial = v0; history = flag_of (v1); states = drawn_of (z) }) s p1 (λ v1 p2. refl)))
      (λ y h. (tt, (flag_small y.history, (omega (arith, count-states (states_of y.states), ap drawn_count (drawn-states y.states)), states-down levels y.states h.1))))
      (λ y h. λ j. record { initial = y.initial; history = byte_flag y.history j; states = drawn-states y.states j })
      (λ x h. (omega (arith, count-states x.1.1, h.1.1.0), states-up levels x.1.1 h.1.1.1))
      (λ x h. alike-trans ns _ (nm x.0 ∷ raw (flag_byte (flag_of x.1.0) ∷ []) ∷ raw (two (drawn_count (drawn_of x.1.1))) ∷ drawn_items (drawn_of x.1.1)) _ (alike ns _ _ (λ j. nm x.0 ∷ raw (sym (flag-byte x.1.0 h.1.0) j ∷ []) ∷ list-states x.1.1 j)) (region-bytes ns x.0 (flag_byte (flag_of x.1.0)) (drawn_count (drawn_of x.1.1)) (drawn_items (drawn_of x.1.1))))

  pub fmt_region : (levels : ℕ) → Fmt ns (region_at levels ns) one_region_items (ShapedRegion levels)
  unfolding region_at Deeper
  fmt_region zero = record { back = λ s at x post o e. absurd o.0.1; legal = λ s by at x q e. absurd (never at x q e); was = λ s by at x q e. absurd (never at x q e) }
    where
      never : (at : ℕ) (x : OneRegion) (q : ℕ) → deep at ≡ value x q → ⊥
      never at x q e = let z : ◌≡◌ {A = ℕ} 0 1 = cc in omega arith
  fmt_region (suc levels) = fmt_inner levels (fmt_state levels (fmt_region levels))

  pub fmt_top : Fmt ns (state_at ns) state_items (ShapedState (max_level - 1))
  unfolding state_at
  fmt_top = fmt_state (max_level - 1) (fmt_region (max_level - 1))

  pub fmt_machine : Fmt ns (machine_in ns) machine_items ShapedMachine
  unfolding machine_in machine_items name_items
  fmt_machine = fmt_record ns (both (name_in ns) (both (optional_in ns) (both (ports_in ns) (both (ports_in ns) (both (ports_in ns) (both (name_in ns) (λ s at. counted (state_at ns s) s at)))))))
      (λ z. name_items z.0 ++ (option_items z.1.0 ++ ((list port_items) z.1.1.0 ++ ((list port_items) z.1.1.1.0 ++ ((list port_items) z.1.1.1.1.0 ++ (name_items z.1.1.1.1.1.0 ++ (list state_items) z.1.1.1.1.1.1))))))
      (λ z. Any z.0 × (Any z.1.0 × ((Listed ShapedPort) z.1.1.0 × ((Listed ShapedPort) z.1.1.1.0 × ((Listed ShapedPort) z.1.1.1.1.0 × (Any z.1.1.1.1.1.0 × (Listed (ShapedState (max_level - 1))) z.1.1.1.1.1.1))))))
      (machine_in ns)
      (λ (z : Name × (Option Name × (List Port × (List Port × (List Port × (Name × List OneState)))))). record { name = z.0; owner = z.1.0; inputs = z.1.1.0; outputs = z.1.1.1.0; locals = z.1.1.1.1.0; initial = z.1.1.1.1.1.0; states = drawn_of z.1.1.1.1.1.1 })
      (λ (y : MachineDef). (y.name, (y.owner, (y.inputs, (y.outputs, (y.locals, (y.initial, states_of y.states)))))))
      machine_items ShapedMachine
      (fmt_both ns (name_in ns) _ name_items _ Any _ N (fmt_both ns (optional_in ns) _ option_items _ Any _ fmt_option (fmt_both ns (ports_in ns) _ (list port_items) _ (Listed ShapedPort) _ fmt_ports (fmt_both ns (ports_in ns) _ (list port_items) _ (Listed ShapedPort) _ fmt_ports (fmt_both ns (ports_in ns) _ (list port_items) _ (Listed ShapedPort) _ fmt_ports (fmt_both ns (name_in ns) (λ s at. counted (state_at ns s) s at) name_items (list state_items) Any (Listed (ShapedState (max_level - 1))) N (fmt_counted ns (state_at ns) state_items (ShapedState (max_level - 1)) fmt_top)))))))
      (λ s at. seq (name_in ns) (both (optional_in ns) (both (ports_in ns) (both (ports_in ns) (both (ports_in ns) (both (name_in ns) (λ s at. counted (state_at ns s) s at)))))) _ (λ (v0 : Name) (z : Option Name × (List Port × (List Port × (List Port × (Name × List OneState))))). record { name = v0; owner = z.0; inputs = z.1.0; outputs = z.1.1.0; locals = z.1.1.1.0; initial = z.1.1.1.1.0; states = drawn_of z.1.1.1.1.1 }) s at (λ v0 p1. seq (optional_in ns) (both (ports_in ns) (both (ports_in ns) (both (ports_in ns) (both (name_in ns) (λ s at. counted (state_at ns s) s at))))) _ (λ (v1 : Option Name) (z : List Port × (List Port × (List Port × (Name × List OneState)))). record { name = v0; owner = v1; inputs = z.0; outputs = z.1.0; locals = z.1.1.0; initial = z.1.1.1.0; states = drawn_of z.1.1.1.1 }) s p1 (λ v1 p2. seq (ports_in ns) (both (ports_in ns) (both (ports_in ns) (both (name_in ns) (λ s at. counted (state_at ns s) s at)))) _ (λ (v2 : List Port) (z : List Port × (List Port × (Name × List OneState))). record { name = v0; owner = v1; inputs = v2; outputs = z.0; locals = z.1.0; initial = z.1.1.0; states = drawn_of z.1.1.1 }) s p2 (λ v2 p3. seq (ports_in ns) (both (ports_in ns) (both (name_in ns) (λ s at. counted (state_at ns s) s at))) _ (λ (v3 : List Port) (z : List Port × (Name × List OneState)). record { name = v0; owner = v1; inputs = v2; outputs = v3; locals = z.0; initial = z.1.0; states = drawn_of z.1.1 }) s p3 (λ v3 p4. seq (ports_in ns) (both (name_in ns) (λ s at. counted (state_at ns s) s at)) _ (λ (v4 : List Port) (z : Name × List OneState). record { name = v0; owner = v1; inputs = v2; outputs = v3; locals = v4; initial = z.0; states = drawn_of z.1 }) s p4 (λ v4 p5. seq (name_in ns) (λ s at. counted (state_at ns s) s at) _ (λ (v5 : Name) (z : List OneState). record { name = v0; owner = v1; inputs = v2; outputs = v3; locals = v4; initial = v5; states = drawn_of (z) }) s p5 (λ v5 p6. refl)))))))
      (λ y h. (tt, (tt, (h.0, (h.1, (h.2, (tt, (omega (arith, h.3, count-states (states_of y.states), ap drawn_count (drawn-states y.states)), states-down (max_level - 1) y.states h.4))))))))
      (λ y h. λ j. record { name = y.name; owner = y.owner; inputs = y.inputs; outputs = y.outputs; locals = y.locals; initial = y.initial; states = drawn-states y.states j })
      (λ x h. (h.1.1.0, h.1.1.1.0, h.1.1.1.1.0, omega (arith, count-states x.1.1.1.1.1.1, h.1.1.1.1.1.1.0), states-up (max_level - 1) x.1.1.1.1.1.1 h.1.1.1.1.1.1.1))
      (λ x h. λ j. nm x.0 ∷ (option_items x.1.0 ++ (list port_items x.1.1.0 ++ (list port_items x.1.1.1.0 ++ (list port_items x.1.1.1.1.0 ++ (nm x.1.1.1.1.1.0 ∷ list-states x.1.1.1.1.1.1 j))))))

  pub fmt_branch : Fmt ns (branch_in ns) branch_items ShapedBranch
  unfolding branch_in branch_items name_items
  fmt_branch = fmt_record ns (both (name_in ns) (both (expr_in ns) (equations_in ns)))
      (λ z. name_items z.0 ++ (expr_items z.1.0 ++ (list equation_items) z.1.1))
      (λ z. Any z.0 × (Shaped z.1.0 × (Listed ShapedEquation) z.1.1))
      (branch_in ns)
      (λ (z : Name × (Expr × List Equation)). record { name = z.0; condition = z.1.0; equations = z.1.1 })
      (λ (y : Branch). (y.name, (y.condition, y.equations)))
      branch_items ShapedBranch
      (fmt_both ns (name_in ns) _ name_items _ Any _ N (fmt_both ns (expr_in ns) (equations_in ns) expr_items (list equation_items) Shaped (Listed ShapedEquation) E fmt_equations))
      (λ s at. seq (name_in ns) (both (expr_in ns) (equations_in ns)) _ (λ (v0 : Name) (z : Expr × List Equation). record { name = v0; condition = z.0; equations = z.1 }) s at (λ v0 p1. seq (expr_in ns) (equations_in ns) _ (λ (v1 : Expr) (z : List Equation). record { name = v0; condition = v1; equations = z }) s p1 (λ v1 p2. refl)))
      (λ y h. (tt, (h.0, h.1)))
      (λ y h. refl)
      (λ x h. (h.1.0, h.1.1))
      (λ x h. refl)

  pub fmt_activation : Fmt ns (activation_in ns) activation_items ShapedActivation
  unfolding activation_in activation_items name_items
  fmt_activation = fmt_record ns (both (name_in ns) (both (name_in ns) (both (ports_in ns) (both (λ s at. counted (branch_in ns s) s at) (equations_in ns)))))
      (λ z. name_items z.0 ++ (name_items z.1.0 ++ ((list port_items) z.1.1.0 ++ ((list branch_items) z.1.1.1.0 ++ (list equation_items) z.1.1.1.1))))
      (λ z. Any z.0 × (Any z.1.0 × ((Listed ShapedPort) z.1.1.0 × ((Listed ShapedBranch) z.1.1.1.0 × (Listed ShapedEquation) z.1.1.1.1))))
      (activation_in ns)
      (λ (z : Name × (Name × (List Port × (List Branch × List Equation)))). record { name = z.0; owner = z.1.0; outputs = z.1.1.0; branches = z.1.1.1.0; else_equations = z.1.1.1.1 })
      (λ (y : Activation). (y.name, (y.owner, (y.outputs, (y.branches, y.else_equations)))))
      activation_items ShapedActivation
      (fmt_both ns (name_in ns) _ name_items _ Any _ N (fmt_both ns (name_in ns) _ name_items _ Any _ N (fmt_both ns (ports_in ns) _ (list port_items) _ (Listed ShapedPort) _ fmt_ports (fmt_both ns (λ s at. counted (branch_in ns s) s at) (equations_in ns) (list branch_items) (list equation_items) (Listed ShapedBranch) (Listed ShapedEquation) (fmt_counted ns (branch_in ns) branch_items ShapedBranch fmt_branch) fmt_equations))))
      (λ s at. seq (name_in ns) (both (name_in ns) (both (ports_in ns) (both (λ s at. counted (branch_in ns s) s at) (equations_in ns)))) _ (λ (v0 : Name) (z : Name × (List Port × (List Branch × List Equation))). record { name = v0; owner = z.0; outputs = z.1.0; branches = z.1.1.0; else_equations = z.1.1.1 }) s at (λ v0 p1. seq (name_in ns) (both (ports_in ns) (both (λ s at. counted (branch_in ns s) s at) (equations_in ns))) _ (λ (v1 : Name) (z : List Port × (List Branch × List Equation)). record { name = v0; owner = v1; outputs = z.0; branches = z.1.0; else_equations = z.1.1 }) s p1 (λ v1 p2. seq (ports_in ns) (both (λ s at. counted (branch_in ns s) s at) (equations_in ns)) _ (λ (v2 : List Port) (z : List Branch × List Equation). record { name = v0; owner = v1; outputs = v2; branches = z.0; else_equations = z.1 }) s p2 (λ v2 p3. seq (λ s at. counted (branch_in ns s) s at) (equations_in ns) _ (λ (v3 : List Branch) (z : List Equation). record { name = v0; owner = v1; outputs = v2; branches = v3; else_equations = z }) s p3 (λ v3 p4. refl)))))
      (λ y h. (tt, (tt, (h.0, (h.1, h.2)))))
      (λ y h. refl)
      (λ x h. (h.1.1.0, h.1.1.1.0, h.1.1.1.1))
      (λ x h. refl)

  pub fmt_origin : Fmt ns (origin_in ns) origin_items ShapedOrigin
  unfolding origin_in origin_items name_items origin_kind single
  fmt_origin = fmt_alike ns (both (name_in ns) (both (below 2) (both (name_in ns) (both u16 (both u16 (names_in ns))))))
      (λ z. name_items z.0 ++ ((raw (single z.1.0) ∷ []) ++ (name_items z.1.1.0 ++ ((raw (two z.1.1.1.0) ∷ []) ++ ((raw (two z.1.1.1.1.0) ∷ []) ++ (list name_items) z.1.1.1.1.1)))))
      (λ z. Any z.0 × ((Below 2) z.1.0 × (Any z.1.1.0 × ((Below 65536) z.1.1.1.0 × ((Below 65536) z.1.1.1.1.0 × (length z.1.1.1.1.1 < 65536))))))
      (origin_in ns)
      (λ (z : Name × (ℕ × (Name × (ℕ × (ℕ × List Name))))). record { node = z.0; kind = cond (flag_of z.1.0) of_activation of_machine; name = z.1.1.0; first = z.1.1.1.0; after = z.1.1.1.1.0; branches = z.1.1.1.1.1 })
      (λ (y : Origin). (y.node, (origin_byte y.kind, (y.name, (y.first, (y.after, y.branches))))))
      origin_items ShapedOrigin
      (fmt_both ns (name_in ns) _ name_items _ Any _ N (fmt_both ns (below 2) _ (λ k. raw (single k) ∷ []) _ (Below 2) _ (fmt_raw ns (below 2) single (Below 2) (format_below 2 (omega arith))) (fmt_both ns (name_in ns) _ name_items _ Any _ N (fmt_both ns u16 _ (λ k. raw (two k) ∷ []) _ (Below 65536) _ (fmt_raw ns u16 two (Below 65536) format16) (fmt_both ns u16 (names_in ns) (λ k. raw (two k) ∷ []) (list name_items) (Below 65536) (λ xs. length xs < 65536) (fmt_raw ns u16 two (Below 65536) format16) fmt_names)))))
      (λ s at. seq (name_in ns) (both (below 2) (both (name_in ns) (both u16 (both u16 (names_in ns))))) _ (λ (v0 : Name) (z : ℕ × (Name × (ℕ × (ℕ × List Name)))). record { node = v0; kind = cond (flag_of z.0) of_activation of_machine; name = z.1.0; first = z.1.1.0; after = z.1.1.1.0; branches = z.1.1.1.1 }) s at (λ v0 p1. seq (below 2) (both (name_in ns) (both u16 (both u16 (names_in ns)))) _ (λ (v1 : ℕ) (z : Name × (ℕ × (ℕ × List Name))). record { node = v0; kind = cond (flag_of (v1)) of_activation of_machine; name = z.0; first = z.1.0; after = z.1.1.0; branches = z.1.1.1 }) s p1 (λ v1 p2. seq (name_in ns) (both u16 (both u16 (names_in ns))) _ (λ (v2 : Name) (z : ℕ × (ℕ × List Name)). record { node = v0; kind = cond (flag_of (v1)) of_activation of_machine; name = v2; first = z.0; after = z.1.0; branches = z.1.1 }) s p2 (λ v2 p3. seq u16 (both u16 (names_in ns)) _ (λ (v3 : ℕ) (z : ℕ × List Name). record { node = v0; kind = cond (flag_of (v1)) of_activation of_machine; name = v2; first = v3; after = z.0; branches = z.1 }) s p3 (λ v3 p4. seq u16 (names_in ns) _ (λ (v4 : ℕ) (z : List Name). record { node = v0; kind = cond (flag_of (v1)) of_activation of_machine; name = v2; first = v3; after = v4; branches = z }) s p4 (λ v4 p5. refl))))))
      (λ y h. (tt, ((origin-down y.kind).0, (tt, (h.0, (h.1, h.2))))))
      (λ y h. λ j. record { node = y.node; kind = (origin-down y.kind).1 j; name = y.name; first = y.first; after = y.after; branches = y.branches })
      (λ x h. (h.1.1.1.0, h.1.1.1.1.0, h.1.1.1.1.1))
      (λ x h. alike-trans ns _ (nm x.0 ∷ raw (origin_byte (cond (flag_of x.1.0) of_activation of_machine) ∷ []) ∷ nm x.1.1.0 ∷ raw (two x.1.1.1.0) ∷ raw (two x.1.1.1.1.0) ∷ list name_items x.1.1.1.1.1) _ (alike ns _ _ (λ j. nm x.0 ∷ raw (sym (origin-up x.1.0 h.1.0) j ∷ []) ∷ nm x.1.1.0 ∷ raw (two x.1.1.1.0) ∷ raw (two x.1.1.1.1.0) ∷ list name_items x.1.1.1.1.1)) (origin-bytes ns x.0 (origin_byte (cond (flag_of x.1.0) of_activation of_machine)) x.1.1.0 x.1.1.1.0 x.1.1.1.1.0 (list name_items x.1.1.1.1.1)))
