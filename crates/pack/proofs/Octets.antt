-- What is written of a legal package is bytes.
use Rattle.std.proofs.Common.{ℕ, zero, suc, ◌-◌, ◌/◌, ◌<◌, Bool, List, [], ◌∷◌, ◌++◌, length, sym, subst, arith}
use mathlib.Core.Option.{Option, none, some}
use Rattle.pack_rules.specs.Limits.{max_level}
use Rattle.pack_rules.specs.Names.{Name}
use Rattle.pack_rules.specs.Syntax.{Activation, Branch, Enum, Equation, Expr, Exprs, Lit, MachineDef, Node, Origin, Package, Port, RegionDefs, StateDefs, Transition, Ty, def_cons, def_nil, e_array, e_arrow, e_binary, e_call, e_cast, e_const, e_field, e_if, e_index, e_iterate, e_merge, e_pre, e_struct, e_tuple, e_unary, e_var, e_when, l_bool, l_char, l_float, l_int, reg_cons, reg_nil, t_array, t_bool, t_char, t_float32, t_float64, t_int16, t_int32, t_int64, t_int8, t_named, t_uint16, t_uint32, t_uint64, t_uint8, x_cons, x_nil}
use Rattle.pack_rules.specs.Write.{Item, activation_items, arrays, branch_items, count_of, drawn_count, drawn_items, each, enc, encode, enum_items, equation_items, expr_items, exprs_items, flag_byte, list, lit_bytes, machine_items, name_items, nm, node_items, one, option_items, origin_items, package_items, port_items, raw, region_count, region_items, transition_items, ty_items}
use Rattle.wire.specs.Bytes.{bytes, two}
use Rattle.wire.specs.Lists.{All, Bytes}
use Rattle.wire.proofs.Formats.{Below}
use Rattle.pack.proofs.Tables.{all_append, all_map, all-unit, code, name_byte-small}
use Rattle.pack_rules.specs.Legal.{Deeper, Formed, FormedActivation, FormedAll, FormedBranch, FormedEquation, FormedMachine, FormedNode, FormedOrigin, FormedPackage, FormedRegions, FormedStates, FormedTransition, Legal, LegalLit, LegalName, Ready, ShapedPort, completed}
use Rattle.pack.proofs.HeadFormats.{flag_small}
use Rattle.pack.proofs.ExprFormats.{bin-down, iter-down, un-down}
use Rattle.pack.proofs.PartFormats.{kind-down, origin-down}
use Rattle.pack.proofs.RoundTrip.{complete-encode, encode-known, ready-legal, tabled}

abbrev Small : List ℕ → Type 0
Small s = All (Below 256) s

small-two : (k : ℕ) → Small (two k)
unfolding two All
small-two k = (omega arith, (omega arith, tt))

small_bytes : (n k : ℕ) → Small (bytes n k)
unfolding bytes All
small_bytes zero k = tt
small_bytes (suc n) k = (omega arith, small_bytes n (k / 256))

small_one : (b : ℕ) → b < 256 → Small (b ∷ [])
unfolding All
small_one b h = (h, tt)

small-cons : (b : ℕ) (s : List ℕ) → b < 256 → Small s → Small (b ∷ s)
unfolding All
small-cons b s h k = (h, k)

unfoldable Octets : List Item → Type 0
Octets [] = Unit {0}
Octets (raw xs ∷ is) = Small xs × Octets is
Octets (nm n ∷ is) = Octets is

octets-append : (x y : List Item) → Octets x → Octets y → Octets (x ++ y)
unfolding Octets
octets-append [] y h k = k
octets-append (raw xs ∷ x) y h k = (h.0, octets-append x y h.1 k)
octets-append (nm n ∷ x) y h k = octets-append x y h k

octets-code : (ns : List Name) (is : List Item) → Octets is → Small (code ns is)
unfolding Octets code All
octets-code ns [] h = tt
octets-code ns (raw xs ∷ is) h = all_append (Below 256) xs (code ns is) h.0 (octets-code ns is h.1)
octets-code ns (nm n ∷ is) h = all_append (Below 256) (two _) (code ns is) (small-two _) (octets-code ns is h)

octets-list : {A : Type 0} (i : A → List Item) (P : A → Type 0) → ((x : A) → P x → Octets (i x)) → (xs : List A) → All P xs → Octets (list i xs)
unfolding list Octets each All
octets-list {A} i P f xs a = (small-two (length xs), go xs a)
  where
    go : (xs : List A) → All P xs → Octets (each i xs)
    go [] h = tt
    go (x ∷ xs) h = octets-append (i x) (each i xs) (f x h.0) (go xs h.1)

octets-names : (xs : List Name) → Octets (list name_items xs)
unfolding list Octets each name_items
octets-names xs = (small-two (length xs), go xs)
  where
    go : (xs : List Name) → Octets (each name_items xs)
    go [] = tt
    go (x ∷ xs) = go xs

octets-ty : (t : Ty) → Octets (ty_items t)
unfolding ty_items Octets one
octets-ty t_bool = (small_one 0 (omega arith), tt)
octets-ty t_int8 = (small_one 1 (omega arith), tt)
octets-ty t_int16 = (small_one 2 (omega arith), tt)
octets-ty t_int32 = (small_one 3 (omega arith), tt)
octets-ty t_int64 = (small_one 4 (omega arith), tt)
octets-ty t_uint8 = (small_one 5 (omega arith), tt)
octets-ty t_uint16 = (small_one 6 (omega arith), tt)
octets-ty t_uint32 = (small_one 7 (omega arith), tt)
octets-ty t_uint64 = (small_one 8 (omega arith), tt)
octets-ty t_float32 = (small_one 9 (omega arith), tt)
octets-ty t_float64 = (small_one 10 (omega arith), tt)
octets-ty t_char = (small_one 11 (omega arith), tt)
octets-ty (t_array n t) = (small-cons 12 (bytes 4 n) (omega arith) (small_bytes 4 n), octets-ty t)
octets-ty (t_named n) = (small_one 13 (omega arith), tt)

flag-octet : (b : Bool) → flag_byte b < 256
flag-octet b = let h = flag_small b in omega arith

octets-lit : (l : Lit) → LegalLit l → Small (lit_bytes l)
unfolding LegalLit lit_bytes
octets-lit (l_bool b) h = small-cons 0 _ (omega arith) (small_one _ (flag-octet b))
octets-lit (l_int n) h = small-cons 1 _ (omega arith) (small_bytes 8 n)
octets-lit (l_float n) h = small-cons 2 _ (omega arith) (small_bytes 8 n)
octets-lit (l_char n) h = small-cons 3 _ (omega arith) (small_one n h)

mutual
  unfolding Formed FormedAll expr_items exprs_items Octets

  octets-expr : (e : Expr) → Formed e → Octets (expr_items e)
  octets-expr (e_const l) o = (small-cons 0 _ (omega arith) (octets-lit l o), tt)
  octets-expr (e_var x) o = (small_one 1 (omega arith), tt)
  octets-expr (e_unary u a) o = let h = (un-down u).0 in (small-cons 2 _ (omega arith) (small_one _ (omega arith)), octets-expr a o)
  octets-expr (e_binary u a b) o = let h = (bin-down u).0 in (small-cons 3 _ (omega arith) (small_one _ (omega arith)), octets-append (expr_items a) (expr_items b) (octets-expr a o.0) (octets-expr b o.1))
  octets-expr (e_if a b c) o = (small_one 4 (omega arith), octets-append (expr_items a) (expr_items b ++ expr_items c) (octets-expr a o.0) (octets-append (expr_items b) (expr_items c) (octets-expr b o.1) (octets-expr c o.2)))
  octets-expr (e_pre a) o = (small_one 5 (omega arith), octets-expr a o)
  octets-expr (e_arrow a b) o = (small_one 6 (omega arith), octets-append (expr_items a) (expr_items b) (octets-expr a o.0) (octets-expr b o.1))
  octets-expr (e_call f xs) o = (small_one 7 (omega arith), (small-two (count_of xs), octets-exprs xs o))
  octets-expr (e_field a f) o = (small_one 8 (omega arith), octets-expr a o)
  octets-expr (e_index a b) o = (small_one 9 (omega arith), octets-append (expr_items a) (expr_items b) (octets-expr a o.0) (octets-expr b o.1))
  octets-expr (e_tuple xs) o = (small-cons 10 _ (omega arith) (small-two (count_of xs)), octets-exprs xs o)
  octets-expr (e_array xs) o = (small-cons 11 _ (omega arith) (small-two (count_of xs)), octets-exprs xs o)
  octets-expr (e_struct n fs xs) o = (small_one 12 (omega arith), octets-append (list name_items fs) (exprs_items xs) (octets-names fs) (octets-exprs xs o.1))
  octets-expr (e_cast t a) o = (small_one 13 (omega arith), octets-append (ty_items t) (expr_items a) (octets-ty t) (octets-expr a o.1))
  octets-expr (e_when a x b) o = (small_one 14 (omega arith), (small_one _ (flag-octet b), octets-expr a o))
  octets-expr (e_merge x a b) o = (small_one 15 (omega arith), octets-append (expr_items a) (expr_items b) (octets-expr a o.0) (octets-expr b o.1))
  octets-expr (e_iterate k f b xs) o = let h = (iter-down k).0 in (small-cons 16 _ (omega arith) (small_one _ (omega arith)), (small-cons _ _ (flag-octet b) (small-two (arrays b xs)), octets-exprs xs o.1))

  octets-exprs : (es : Exprs) → FormedAll es → Octets (exprs_items es)
  octets-exprs x_nil o = tt
  octets-exprs (x_cons a xs) o = octets-append (expr_items a) (exprs_items xs) (octets-expr a o.0) (octets-exprs xs o.1)

octets-ports : (xs : List Port) → All ShapedPort xs → Octets (list port_items xs)
unfolding port_items Octets
octets-ports xs a = octets-list port_items ShapedPort (λ p o. octets-ty p.ty) xs a

octets-equations : (xs : List Equation) → All FormedEquation xs → Octets (list equation_items xs)
unfolding equation_items
octets-equations xs a = octets-list equation_items FormedEquation (λ e o. octets-append (list name_items e.lhs) (expr_items e.rhs) (octets-names e.lhs) (octets-expr e.rhs o)) xs a

octets-transitions : (xs : List Transition) → All FormedTransition xs → Octets (list transition_items xs)
unfolding transition_items name_items Octets
octets-transitions xs a = octets-list transition_items FormedTransition (λ t o. octets-append (expr_items t.guard) (name_items t.target) (octets-expr t.guard o) tt) xs a

octets-option : (o : Option Name) → Octets (option_items o)
unfolding option_items Octets
octets-option none = (small-two _, tt)
octets-option (some n) = tt

in-deeper : (P : ℕ → Type 0) (Q : Type 0) → ((l : ℕ) → P l → Q) → (levels : ℕ) → Deeper P levels → Q
unfolding Deeper
in-deeper P Q f zero h = absurd h
in-deeper P Q f (suc l) h = f l h

mutual
  unfolding FormedStates FormedRegions drawn_items region_items Octets

  octets-states : (d : StateDefs) (levels : ℕ) → FormedStates d levels → Octets (drawn_items d)
  octets-states def_nil levels o = tt
  octets-states (def_cons s es ts rs f rest) levels o =
      octets-append (list equation_items es) _ (octets-equations es o.0.0)
      (octets-append (list transition_items ts) _ (octets-transitions ts o.0.1)
      (small-two (region_count rs), octets-append (region_items rs) _ (octets-regions rs levels o.0.2) (octets-append (option_items f) _ (octets-option f) (octets-states rest levels o.1))))

  octets-regions : (d : RegionDefs) (levels : ℕ) → FormedRegions d levels → Octets (region_items d)
  octets-regions reg_nil levels o = tt
  octets-regions (reg_cons i b ss rest) levels o =
      (small-cons _ _ (flag-octet b) (small-two (drawn_count ss)), octets-append (drawn_items ss) (region_items rest) (in-deeper (λ l. FormedStates ss l) (Octets (drawn_items ss)) (λ l p. octets-states ss l p) levels o.0) (octets-regions rest levels o.1))

octets-node : (n : Node) → FormedNode n → Octets (node_items n)
unfolding node_items Octets
octets-node n o = let h = (kind-down n.kind).0 in (small_one _ (omega arith), octets-append (list port_items n.inputs) _ (octets-ports n.inputs o.0) (octets-append (list port_items n.outputs) _ (octets-ports n.outputs o.1) (octets-append (list port_items n.locals) _ (octets-ports n.locals o.2) (octets-equations n.equations o.3))))

octets-machine : (m : MachineDef) → FormedMachine m → Octets (machine_items m)
unfolding machine_items Octets
octets-machine m o = octets-append (option_items m.owner) _ (octets-option m.owner) (octets-append (list port_items m.inputs) _ (octets-ports m.inputs o.0) (octets-append (list port_items m.outputs) _ (octets-ports m.outputs o.1) (octets-append (list port_items m.locals) _ (octets-ports m.locals o.2) (small-two (drawn_count m.states), octets-states m.states (max_level - 1) o.3))))

octets-branch : (b : Branch) → FormedBranch b → Octets (branch_items b)
unfolding branch_items Octets
octets-branch b o = octets-append (expr_items b.condition) _ (octets-expr b.condition o.0) (octets-equations b.equations o.1)

octets-activation : (a : Activation) → FormedActivation a → Octets (activation_items a)
unfolding activation_items Octets
octets-activation a o = octets-append (list port_items a.outputs) _ (octets-ports a.outputs o.0) (octets-append (list branch_items a.branches) _ (octets-list branch_items FormedBranch octets-branch a.branches o.1) (octets-equations a.else_equations o.2))

octets-origin : (x : Origin) → FormedOrigin x → Octets (origin_items x)
unfolding origin_items Octets
octets-origin x o = let h = (origin-down x.kind).0 in (small_one _ (omega arith), (all_append (Below 256) (two x.first) (two x.after) (small-two x.first) (small-two x.after), octets-names x.branches))

octets-enum : (e : Enum) → Unit {0} → Octets (enum_items e)
unfolding enum_items Octets
octets-enum e o = octets-names e.variants

octets-package : (p : Package) → FormedPackage p → Octets (package_items p)
unfolding package_items
octets-package p o =
    octets-append (list enum_items p.enums) _ (octets-list enum_items (λ x. Unit {0}) octets-enum p.enums (all-unit p.enums))
    (octets-append (list node_items p.nodes) _ (octets-list node_items FormedNode octets-node p.nodes o.0)
    (octets-append (list machine_items p.machines) _ (octets-list machine_items FormedMachine octets-machine p.machines o.1)
    (octets-append (list activation_items p.activations) (list origin_items p.origins) (octets-list activation_items FormedActivation octets-activation p.activations o.2)
    (octets-list origin_items FormedOrigin octets-origin p.origins o.3))))

small-enc : (ns : List Name) → All LegalName ns → Small (enc ns)
unfolding enc All
small-enc [] a = tt
small-enc (n ∷ ns) a = (a.0.1, all_append (Below 256) n (enc ns) (all_map (λ b. _) (Below 256) n name_byte-small a.0.2) (small-enc ns a.1))

small_at : (s : List ℕ) → Small s → Bytes s
unfolding All
small_at [] h i = omega arith
small_at (b ∷ s) h zero = h.0
small_at (b ∷ s) h (suc i) = small_at s h.1 i

pub encode-bytes : (p : Package) → Legal p → Bytes (encode p)
unfolding tabled
encode-bytes p o =
    small_at (encode p) (subst Small (sym (encode-known p o.known))
    (all_append (Below 256) (two (length p.names) ++ enc p.names) (code p.names (package_items p))
    (all_append (Below 256) (two (length p.names)) (enc p.names) (small-two (length p.names)) (small-enc p.names o.names))
    (octets-code p.names (package_items p) (octets-package p o.formed))))

pub ready-bytes : (p : Package) → Ready p → Bytes (encode p)
ready-bytes p o = subst Bytes (complete-encode p) (encode-bytes (completed p) (ready-legal p o))
