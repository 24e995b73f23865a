-- In a pack that is not too long every count fits: what is left to ask of a package is its form.
use Rattle.std.proofs.Common.{◌≡◌, ℕ, zero, suc, ◌+◌, ◌-◌, ◌<◌, ◌≤◌, Bool, true, false, List, [], ◌∷◌, ◌++◌, length, refl, arith, length-append}
use Rattle.pack_rules.specs.Limits.{max_level}
use Rattle.pack_rules.specs.Names.{Name}
use Rattle.pack_rules.specs.Syntax.{Activation, Branch, Enum, Equation, Expr, Exprs, MachineDef, Node, Origin, Package, Port, RegionDefs, StateDefs, Transition, def_cons, def_nil, e_array, e_arrow, e_binary, e_call, e_cast, e_const, e_field, e_if, e_index, e_iterate, e_merge, e_pre, e_struct, e_tuple, e_unary, e_var, e_when, reg_cons, reg_nil, x_cons, x_nil}
use Rattle.pack_rules.specs.Write.{Item, activation_items, arrays, branch_items, count_of, drawn_count, drawn_items, each, enum_items, equation_items, expr_items, exprs_items, list, machine_items, name_items, nm, node_items, option_items, origin_items, package_items, port_items, raw, region_count, region_items, transition_items, ty_items}
use Rattle.wire.specs.Bytes.{two}
use Rattle.wire.specs.Lists.{All}
use Rattle.pack_rules.specs.Legal.{Deeper, Formed, FormedActivation, FormedAll, FormedBranch, FormedEquation, FormedMachine, FormedNode, FormedOrigin, FormedPackage, FormedRegions, FormedStates, FormedTransition, ShapedPort}
use Rattle.pack.proofs.Tables.{all_map, all-unit, code}
use Rattle.pack.proofs.ExprFormats.{Shaped, ShapedAll}
use Rattle.pack.proofs.PartFormats.{Listed, ShapedActivation, ShapedBranch, ShapedEnum, ShapedEquation, ShapedMachine, ShapedNode, ShapedOrigin, ShapedPackage, ShapedRegions, ShapedStates, ShapedTransition}

-- how many bytes items take
unfoldable pub size_of : List Item → ℕ
size_of [] = 0
size_of (raw xs ∷ is) = length xs + size_of is
size_of (nm n ∷ is) = 2 + size_of is

pub size-append : (a b : List Item) → size_of (a ++ b) ≡ size_of a + size_of b
unfolding size_of
size-append [] b = omega arith
size-append (raw xs ∷ a) b = let i = size-append a b in omega arith
size-append (nm n ∷ a) b = let i = size-append a b in omega arith

pub size-code : (ns : List Name) (is : List Item) → length (code ns is) ≡ size_of is
unfolding size_of code two
size-code ns [] = refl
size-code ns (raw xs ∷ is) = let i = size-code ns is in omega (arith, length-append xs (code ns is))
size-code ns (nm n ∷ is) = let i = size-code ns is in omega arith

-- every expression takes a byte at least
pub size-expr : (e : Expr) → 0 < size_of (expr_items e)
unfolding expr_items size_of
size-expr (e_const l) = omega arith
size-expr (e_var x) = omega arith
size-expr (e_unary o a) = omega arith
size-expr (e_binary o a b) = omega arith
size-expr (e_if a b c) = omega arith
size-expr (e_pre a) = omega arith
size-expr (e_arrow a b) = omega arith
size-expr (e_call f xs) = omega arith
size-expr (e_field a f) = omega arith
size-expr (e_index a i) = omega arith
size-expr (e_tuple xs) = omega arith
size-expr (e_array xs) = omega arith
size-expr (e_struct n fs xs) = omega arith
size-expr (e_cast t a) = omega arith
size-expr (e_when a x b) = omega arith
size-expr (e_merge x a b) = omega arith
size-expr (e_iterate k f b xs) = omega arith

pub size-exprs : (es : Exprs) → count_of es ≤ size_of (exprs_items es)
unfolding exprs_items size_of count_of
size-exprs x_nil = omega arith
size-exprs (x_cons a xs) = let i = size-exprs xs in omega (arith, size-append (expr_items a) (exprs_items xs), size-expr a)

pub size-names : (fs : List Name) → length fs ≤ size_of (each name_items fs)
unfolding each name_items size_of
size-names [] = omega arith
size-names (f ∷ fs) = let i = size-names fs in omega arith

-- items in two parts, in three
left : (a b : List Item) → size_of (a ++ b) ≤ 65536 → size_of a ≤ 65536
left a b h = omega (arith, size-append a b)

right : (a b : List Item) → size_of (a ++ b) ≤ 65536 → size_of b ≤ 65536
right a b h = omega (arith, size-append a b)

arrays-few : (b : Bool) (xs : Exprs) → arrays b xs ≤ count_of xs
unfolding arrays count_of
arrays-few b x_nil = omega arith
arrays-few true (x_cons e es) = omega arith
arrays-few false (x_cons e es) = omega arith

mutual
  unfolding Formed FormedAll Shaped ShapedAll expr_items exprs_items size_of list two

  pub fit-expr : (e : Expr) → Formed e → size_of (expr_items e) ≤ 65536 → Shaped e
  fit-expr (e_const l) o h = o
  fit-expr (e_var x) o h = tt
  fit-expr (e_unary u a) o h = fit-expr a o (omega arith)
  fit-expr (e_binary u a b) o h = (fit-expr a o.0 (left (expr_items a) (expr_items b) (omega arith)), fit-expr b o.1 (right (expr_items a) (expr_items b) (omega arith)))
  fit-expr (e_if a b c) o h =
      let l : size_of (expr_items b ++ expr_items c) ≤ 65536 = right (expr_items a) (expr_items b ++ expr_items c) (omega arith) in
      (fit-expr a o.0 (left (expr_items a) (expr_items b ++ expr_items c) (omega arith)), fit-expr b o.1 (left (expr_items b) (expr_items c) l), fit-expr c o.2 (right (expr_items b) (expr_items c) l))
  fit-expr (e_pre a) o h = fit-expr a o (omega arith)
  fit-expr (e_arrow a b) o h = (fit-expr a o.0 (left (expr_items a) (expr_items b) (omega arith)), fit-expr b o.1 (right (expr_items a) (expr_items b) (omega arith)))
  fit-expr (e_call f xs) o h = (omega (arith, size-exprs xs), fit-exprs xs o (omega arith))
  fit-expr (e_field a f) o h = fit-expr a o (omega arith)
  fit-expr (e_index a b) o h = (fit-expr a o.0 (left (expr_items a) (expr_items b) (omega arith)), fit-expr b o.1 (right (expr_items a) (expr_items b) (omega arith)))
  fit-expr (e_tuple xs) o h = (omega (arith, size-exprs xs), fit-exprs xs o (omega arith))
  fit-expr (e_array xs) o h = (omega (arith, size-exprs xs), fit-exprs xs o (omega arith))
  fit-expr (e_struct n fs xs) o h =
      let s = size-append (each name_items fs) (exprs_items xs) in
      (omega (arith, size-names fs), o.0, fit-exprs xs o.1 (omega arith))
  fit-expr (e_cast t a) o h = (o.0, fit-expr a o.1 (right (ty_items t) (expr_items a) (omega arith)))
  fit-expr (e_when a x b) o h = fit-expr a o (omega arith)
  fit-expr (e_merge x a b) o h = (fit-expr a o.0 (left (expr_items a) (expr_items b) (omega arith)), fit-expr b o.1 (right (expr_items a) (expr_items b) (omega arith)))
  fit-expr (e_iterate k f b xs) o h = (omega (arith, size-exprs xs, arrays-few b xs), o.0, fit-exprs xs o.1 (omega arith))

  pub fit-exprs : (es : Exprs) → FormedAll es → size_of (exprs_items es) ≤ 65536 → ShapedAll es
  fit-exprs x_nil o h = tt
  fit-exprs (x_cons a xs) o h = (fit-expr a o.0 (left (expr_items a) (exprs_items xs) h), fit-exprs xs o.1 (right (expr_items a) (exprs_items xs) h))

-- lists whose elements take a byte at least
module _ {A : Type 0} (i : A → List Item) (some_byte : (x : A) → 0 < size_of (i x)) where
  pub size-each : (xs : List A) → length xs ≤ size_of (each i xs)
  unfolding each size_of
  size-each [] = omega arith
  size-each (x ∷ xs) = let r = size-each xs in omega (arith, size-append (i x) (each i xs), some_byte x)

  pub few-listed : (xs : List A) → size_of (list i xs) ≤ 65536 → length xs < 65536
  unfolding list size_of two
  few-listed xs h = omega (arith, size-each xs)

  module _ (P Q : A → Type 0) (fit : (x : A) → P x → size_of (i x) ≤ 65536 → Q x) where
    pub fit_all : (xs : List A) → All P xs → size_of (each i xs) ≤ 65536 → All Q xs
    unfolding each All
    fit_all [] a h = tt
    fit_all (x ∷ xs) a h = (fit x a.0 (left (i x) (each i xs) h), fit_all xs a.1 (right (i x) (each i xs) h))

    pub fit-listed : (xs : List A) → All P xs → size_of (list i xs) ≤ 65536 → Listed Q xs
    unfolding list size_of two
    fit-listed xs a h = (omega (arith, size-each xs), fit_all xs a (omega arith))

size-name : (n : Name) → 0 < size_of (name_items n)
unfolding name_items size_of
size-name n = omega arith

size-port : (p : Port) → 0 < size_of (port_items p)
unfolding port_items size_of
size-port p = omega arith

pub size-equation : (e : Equation) → 0 < size_of (equation_items e)
unfolding equation_items list two size_of
size-equation e = omega arith

size-transition : (t : Transition) → 0 < size_of (transition_items t)
unfolding transition_items
size-transition t = omega (arith, size-append (expr_items t.guard) (name_items t.target), size-expr t.guard)

size-enum : (e : Enum) → 0 < size_of (enum_items e)
unfolding enum_items size_of
size-enum e = omega arith

size-node : (n : Node) → 0 < size_of (node_items n)
unfolding node_items size_of
size-node n = omega arith

size-machine : (m : MachineDef) → 0 < size_of (machine_items m)
unfolding machine_items size_of
size-machine m = omega arith

size-branch : (b : Branch) → 0 < size_of (branch_items b)
unfolding branch_items size_of
size-branch b = omega arith

size-activation : (a : Activation) → 0 < size_of (activation_items a)
unfolding activation_items size_of
size-activation a = omega arith

size-origin : (o : Origin) → 0 < size_of (origin_items o)
unfolding origin_items size_of
size-origin o = omega arith

fit-names : (xs : List Name) → size_of (list name_items xs) ≤ 65536 → length xs < 65536
fit-names xs h = few-listed name_items size-name xs h

fit-ports : (xs : List Port) → All ShapedPort xs → size_of (list port_items xs) ≤ 65536 → Listed ShapedPort xs
fit-ports xs a h = fit-listed port_items size-port ShapedPort ShapedPort (λ x o k. o) xs a h

fit-equation : (e : Equation) → FormedEquation e → size_of (equation_items e) ≤ 65536 → ShapedEquation e
unfolding equation_items
fit-equation e o h = (fit-names e.lhs (left (list name_items e.lhs) (expr_items e.rhs) h), fit-expr e.rhs o (right (list name_items e.lhs) (expr_items e.rhs) h))

fit-equations : (xs : List Equation) → All FormedEquation xs → size_of (list equation_items xs) ≤ 65536 → Listed ShapedEquation xs
fit-equations xs a h = fit-listed equation_items size-equation FormedEquation ShapedEquation fit-equation xs a h

fit-transition : (t : Transition) → FormedTransition t → size_of (transition_items t) ≤ 65536 → ShapedTransition t
unfolding transition_items
fit-transition t o h = fit-expr t.guard o (left (expr_items t.guard) (name_items t.target) h)

fit-enum : (e : Enum) → Unit {0} → size_of (enum_items e) ≤ 65536 → ShapedEnum e
unfolding enum_items size_of
fit-enum e o h = fit-names e.variants (omega arith)

fit-node : (n : Node) → FormedNode n → size_of (node_items n) ≤ 65536 → ShapedNode n
unfolding node_items size_of
fit-node n o h =
    let i = list port_items n.inputs in let u = list port_items n.outputs in let l = list port_items n.locals in let e = list equation_items n.equations in
    let a = size-append i (u ++ (l ++ e)) in let b = size-append u (l ++ e) in let c = size-append l e in
    (fit-ports n.inputs o.0 (omega arith), fit-ports n.outputs o.1 (omega arith), fit-ports n.locals o.2 (omega arith), fit-equations n.equations o.3 (omega arith))

-- states and regions
pub size-drawn : (d : StateDefs) → drawn_count d ≤ size_of (drawn_items d)
unfolding drawn_count drawn_items size_of
size-drawn def_nil = omega arith
size-drawn (def_cons s es ts rs f rest) =
    let r = size-drawn rest in
    let e = list equation_items es in let t = list transition_items ts in let q = region_items rs in let w = option_items f in
    omega (arith, size-append e (t ++ (raw (two (region_count rs)) ∷ (q ++ (w ++ drawn_items rest)))), size-append t (raw (two (region_count rs)) ∷ (q ++ (w ++ drawn_items rest))), size-append q (w ++ drawn_items rest), size-append w (drawn_items rest))

pub size-regions : (d : RegionDefs) → region_count d ≤ size_of (region_items d)
unfolding region_count region_items size_of
size-regions reg_nil = omega arith
size-regions (reg_cons i h ss rest) = let r = size-regions rest in omega (arith, size-append (drawn_items ss) (region_items rest))

deeper : (P Q : ℕ → Type 0) → ((l : ℕ) → P l → Q l) → (levels : ℕ) → Deeper P levels → Deeper Q levels
unfolding Deeper
deeper P Q f zero h = h
deeper P Q f (suc l) h = f l h

mutual
  unfolding FormedStates FormedRegions ShapedStates ShapedRegions drawn_items region_items size_of two

  pub fit-states : (d : StateDefs) (levels : ℕ) → FormedStates d levels → size_of (drawn_items d) ≤ 65536 → ShapedStates d levels
  fit-states def_nil levels o h = tt
  fit-states (def_cons s es ts rs f rest) levels o h =
      let e = list equation_items es in let t = list transition_items ts in let q = region_items rs in let w = option_items f in
      let a = size-append e (t ++ (raw (two (region_count rs)) ∷ (q ++ (w ++ drawn_items rest)))) in
      let b = size-append t (raw (two (region_count rs)) ∷ (q ++ (w ++ drawn_items rest))) in
      let c = size-append q (w ++ drawn_items rest) in
      let d = size-append w (drawn_items rest) in
      ((fit-equations es o.0.0 (omega arith), fit-listed transition_items size-transition FormedTransition ShapedTransition fit-transition ts o.0.1 (omega arith), omega (arith, size-regions rs), fit-regions rs levels o.0.2 (omega arith)), fit-states rest levels o.1 (omega arith))

  pub fit-regions : (d : RegionDefs) (levels : ℕ) → FormedRegions d levels → size_of (region_items d) ≤ 65536 → ShapedRegions d levels
  fit-regions reg_nil levels o h = tt
  fit-regions (reg_cons i b ss rest) levels o h =
      let a = size-append (drawn_items ss) (region_items rest) in
      let k : size_of (drawn_items ss) ≤ 65536 = omega arith in
      ((omega (arith, size-drawn ss), deeper (λ l. FormedStates ss l) (λ l. ShapedStates ss l) (λ l p. fit-states ss l p k) levels o.0), fit-regions rest levels o.1 (omega arith))

fit-machine : (m : MachineDef) → FormedMachine m → size_of (machine_items m) ≤ 65536 → ShapedMachine m
unfolding machine_items size_of two
fit-machine m o h =
    let w = option_items m.owner in let i = list port_items m.inputs in let u = list port_items m.outputs in let l = list port_items m.locals in let d = drawn_items m.states in
    let z = nm m.initial ∷ raw (two (drawn_count m.states)) ∷ d in
    let a = size-append w (i ++ (u ++ (l ++ z))) in let b = size-append i (u ++ (l ++ z)) in let c = size-append u (l ++ z) in let e = size-append l z in
    (fit-ports m.inputs o.0 (omega arith), fit-ports m.outputs o.1 (omega arith), fit-ports m.locals o.2 (omega arith), omega (arith, size-drawn m.states), fit-states m.states (max_level - 1) o.3 (omega arith))

fit-branch : (b : Branch) → FormedBranch b → size_of (branch_items b) ≤ 65536 → ShapedBranch b
unfolding branch_items size_of
fit-branch b o h =
    let a = size-append (expr_items b.condition) (list equation_items b.equations) in
    (fit-expr b.condition o.0 (omega arith), fit-equations b.equations o.1 (omega arith))

fit-activation : (a : Activation) → FormedActivation a → size_of (activation_items a) ≤ 65536 → ShapedActivation a
unfolding activation_items size_of
fit-activation a o h =
    let i = list port_items a.outputs in let b = list branch_items a.branches in let e = list equation_items a.else_equations in
    let c = size-append i (b ++ e) in let d = size-append b e in
    (fit-ports a.outputs o.0 (omega arith), fit-listed branch_items size-branch FormedBranch ShapedBranch fit-branch a.branches o.1 (omega arith), fit-equations a.else_equations o.2 (omega arith))

fit-origin : (o : Origin) → FormedOrigin o → size_of (origin_items o) ≤ 65536 → ShapedOrigin o
unfolding origin_items size_of two
fit-origin x o h = (o.0, o.1, fit-names x.branches (omega arith))

pub fit-package : (p : Package) → FormedPackage p → size_of (package_items p) ≤ 65536 → ShapedPackage p
unfolding package_items
fit-package p o h =
    let e = list enum_items p.enums in let n = list node_items p.nodes in let m = list machine_items p.machines in let a = list activation_items p.activations in let g = list origin_items p.origins in
    let b = size-append e (n ++ (m ++ (a ++ g))) in let c = size-append n (m ++ (a ++ g)) in let d = size-append m (a ++ g) in let f = size-append a g in (
      fit-listed enum_items size-enum (λ x. Unit {0}) ShapedEnum fit-enum p.enums (all-unit p.enums) (omega arith),
      fit-listed node_items size-node FormedNode ShapedNode fit-node p.nodes o.0 (omega arith),
      fit-listed machine_items size-machine FormedMachine ShapedMachine fit-machine p.machines o.1 (omega arith),
      fit-listed activation_items size-activation FormedActivation ShapedActivation fit-activation p.activations o.2 (omega arith),
      fit-listed origin_items size-origin FormedOrigin ShapedOrigin fit-origin p.origins o.3 (omega arith),
    )

-- what reading gives is formed
mutual
  unfolding Formed FormedAll Shaped ShapedAll

  pub expr-formed : (e : Expr) → Shaped e → Formed e
  expr-formed (e_const l) o = o
  expr-formed (e_var x) o = tt
  expr-formed (e_unary u a) o = expr-formed a o
  expr-formed (e_binary u a b) o = (expr-formed a o.0, expr-formed b o.1)
  expr-formed (e_if a b c) o = (expr-formed a o.0, expr-formed b o.1, expr-formed c o.2)
  expr-formed (e_pre a) o = expr-formed a o
  expr-formed (e_arrow a b) o = (expr-formed a o.0, expr-formed b o.1)
  expr-formed (e_call f xs) o = exprs-formed xs o.1
  expr-formed (e_field a f) o = expr-formed a o
  expr-formed (e_index a b) o = (expr-formed a o.0, expr-formed b o.1)
  expr-formed (e_tuple xs) o = exprs-formed xs o.1
  expr-formed (e_array xs) o = exprs-formed xs o.1
  expr-formed (e_struct n fs xs) o = (o.1, exprs-formed xs o.2)
  expr-formed (e_cast t a) o = (o.0, expr-formed a o.1)
  expr-formed (e_when a x b) o = expr-formed a o
  expr-formed (e_merge x a b) o = (expr-formed a o.0, expr-formed b o.1)
  expr-formed (e_iterate k f b xs) o = (o.1, exprs-formed xs o.2)

  pub exprs-formed : (es : Exprs) → ShapedAll es → FormedAll es
  exprs-formed x_nil o = tt
  exprs-formed (x_cons a xs) o = (expr-formed a o.0, exprs-formed xs o.1)

equations-formed : (xs : List Equation) → All ShapedEquation xs → All FormedEquation xs
equations-formed xs a = all_map ShapedEquation FormedEquation xs (λ x o. expr-formed x.rhs o.1) a

transitions-formed : (xs : List Transition) → All ShapedTransition xs → All FormedTransition xs
transitions-formed xs a = all_map ShapedTransition FormedTransition xs (λ x o. expr-formed x.guard o) a

mutual
  unfolding FormedStates FormedRegions ShapedStates ShapedRegions

  pub states-formed : (d : StateDefs) (levels : ℕ) → ShapedStates d levels → FormedStates d levels
  states-formed def_nil levels o = tt
  states-formed (def_cons s es ts rs f rest) levels o = ((equations-formed es o.0.0.1, transitions-formed ts o.0.1.1, regions-formed rs levels o.0.3), states-formed rest levels o.1)

  pub regions-formed : (d : RegionDefs) (levels : ℕ) → ShapedRegions d levels → FormedRegions d levels
  regions-formed reg_nil levels o = tt
  regions-formed (reg_cons i b ss rest) levels o = (deeper (λ l. ShapedStates ss l) (λ l. FormedStates ss l) (λ l p. states-formed ss l p) levels o.0.1, regions-formed rest levels o.1)

pub package-formed : (p : Package) → ShapedPackage p → FormedPackage p
package-formed p o = (
  all_map ShapedNode FormedNode p.nodes (λ n h. (h.0.1, h.1.1, h.2.1, equations-formed n.equations h.3.1)) o.1.1,
  all_map ShapedMachine FormedMachine p.machines (λ m h. (h.0.1, h.1.1, h.2.1, states-formed m.states (max_level - 1) h.4)) o.2.1,
  all_map ShapedActivation FormedActivation p.activations (λ a h. (h.0.1, all_map ShapedBranch FormedBranch a.branches (λ b k. (expr-formed b.condition k.0, equations-formed b.equations k.1.1)) h.1.1, equations-formed a.else_equations h.2.1)) o.3.1,
  all_map ShapedOrigin FormedOrigin p.origins (λ x h. (h.0, h.1)) o.4.1,
)
