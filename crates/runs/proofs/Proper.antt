-- What may be written: form and names in one, part by part.
use Prim.Native.Nat.{◌+◌}
use mathlib.Core.List.{List, [], ◌∷◌, ◌++◌}
use mathlib.Core.Path.{◌≡◌}
use lib.ListN.{length}
use Rattle.wire.specs.Lists.{All}
use Rattle.pack_rules.specs.Legal.{Allowed, Each, Formed, FormedAll, FormedEquation, FormedNode, FormedTransition, LegalLit, ShapedPort, ShapedTy}
use Rattle.pack_rules.specs.Names.{Name}
use Rattle.pack_rules.specs.Syntax.{Enum, Equation, Expr, Exprs, Node, Origin, Port, Transition, Ty, e_array, e_arrow, e_binary, e_call, e_cast, e_const, e_field, e_if, e_index, e_iterate, e_merge, e_pre, e_struct, e_tuple, e_unary, e_var, e_when, x_cons, x_nil}
use Rattle.pack_rules.specs.Write.{Item, arrays, count_of, each, enum_items, equation_items, expr_items, exprs_items, flag_byte, list, name_items, node_items, origin_items, port_items, transition_items, ty_items}
use Rattle.pack.proofs.Tables.{all_map, each_append, each_left, each_right}

-- items whose names are allowed
abbrev pub Fair : List Item → Type 0
Fair is = Each Allowed is

pub fair_l : (a b : List Item) → Fair (a ++ b) → Fair a
fair_l a b h = each_left Allowed a b h

pub fair_r : (a b : List Item) → Fair (a ++ b) → Fair b
fair_r a b h = each_right Allowed a b h

pub fairs : (a b : List Item) → Fair a → Fair b → Fair (a ++ b)
fairs a b h k = each_append Allowed a b h k

-- lists
pub all_both : {A : Type 0} (P Q R : A → Type 0) (xs : List A) → ((x : A) → P x → Q x → R x) → All P xs → All Q xs → All R xs
unfolding All
all_both P Q R [] f a b = tt
all_both P Q R (x ∷ xs) f a b = (f x a.0 b.0, all_both P Q R xs f a.1 b.1)

module _ {A : Type 0} (f : A → List Item) where
  each_all : (xs : List A) → Fair (each f xs) → All (λ x. Fair (f x)) xs
  unfolding each All
  each_all [] h = tt
  each_all (x ∷ xs) h = (fair_l (f x) (each f xs) h, each_all xs (fair_r (f x) (each f xs) h))

  pub list_all : (xs : List A) → Fair (list f xs) → All (λ x. Fair (f x)) xs
  unfolding list Each
  list_all xs h = each_all xs h

  all-each : (xs : List A) → All (λ x. Fair (f x)) xs → Fair (each f xs)
  unfolding each All Each
  all-each [] h = tt
  all-each (x ∷ xs) h = fairs (f x) (each f xs) h.0 (all-each xs h.1)

  pub all_list : (xs : List A) → All (λ x. Fair (f x)) xs → Fair (list f xs)
  unfolding list Each
  all_list xs h = all-each xs h

pub names-all : (ns : List Name) → Fair (list name_items ns) → All Allowed ns
unfolding name_items Each
names-all ns h = all_map (λ n. Fair (name_items n)) Allowed ns (λ n k. k.0) (list_all name_items ns h)

pub all-names : (ns : List Name) → All Allowed ns → Fair (list name_items ns)
unfolding name_items Each
all-names ns h = all_list name_items ns (all_map Allowed (λ n. Fair (name_items n)) ns (λ n k. (k, tt)) h)

-- types and expressions
pub record ProperTy (t : Ty) : Type 0 where
  pub shaped : ShapedTy t
  pub fair : Fair (ty_items t)

unfoldable mutual
  pub ProperE : Expr → Type 0
  ProperE (e_const l) = LegalLit l
  ProperE (e_var x) = Allowed x
  ProperE (e_unary o a) = ProperE a
  ProperE (e_binary o a b) = ProperE a × ProperE b
  ProperE (e_if a b c) = ProperE a × ProperE b × ProperE c
  ProperE (e_pre a) = ProperE a
  ProperE (e_arrow a b) = ProperE a × ProperE b
  ProperE (e_call f xs) = Allowed f × ProperX xs
  ProperE (e_field a f) = Allowed f × ProperE a
  ProperE (e_index a i) = ProperE a × ProperE i
  ProperE (e_tuple xs) = ProperX xs
  ProperE (e_array xs) = ProperX xs
  ProperE (e_struct n fs xs) = Allowed n × All Allowed fs × (count_of xs ≡ length fs) × ProperX xs
  ProperE (e_cast t a) = ProperTy t × ProperE a
  ProperE (e_when a x b) = Allowed x × ProperE a
  ProperE (e_merge x a b) = Allowed x × ProperE a × ProperE b
  ProperE (e_iterate k f b xs) = Allowed f × (count_of xs ≡ flag_byte b + arrays b xs) × ProperX xs

  pub ProperX : Exprs → Type 0
  ProperX x_nil = Unit {0}
  ProperX (x_cons a xs) = ProperE a × ProperX xs

mutual
  unfolding ProperE ProperX Formed FormedAll expr_items exprs_items Each

  pub expr-proper : (e : Expr) → Formed e → Fair (expr_items e) → ProperE e
  expr-proper (e_const l) o h = o
  expr-proper (e_var x) o h = h.0
  expr-proper (e_unary u a) o h = expr-proper a o h
  expr-proper (e_binary u a b) o h = (expr-proper a o.0 (fair_l (expr_items a) (expr_items b) h), expr-proper b o.1 (fair_r (expr_items a) (expr_items b) h))
  expr-proper (e_if a b c) o h =
      let k = fair_r (expr_items a) (expr_items b ++ expr_items c) h in
      (expr-proper a o.0 (fair_l (expr_items a) (expr_items b ++ expr_items c) h), expr-proper b o.1 (fair_l (expr_items b) (expr_items c) k), expr-proper c o.2 (fair_r (expr_items b) (expr_items c) k))
  expr-proper (e_pre a) o h = expr-proper a o h
  expr-proper (e_arrow a b) o h = (expr-proper a o.0 (fair_l (expr_items a) (expr_items b) h), expr-proper b o.1 (fair_r (expr_items a) (expr_items b) h))
  expr-proper (e_call f xs) o h = (h.0, exprs-proper xs o h.1)
  expr-proper (e_field a f) o h = (h.0, expr-proper a o h.1)
  expr-proper (e_index a b) o h = (expr-proper a o.0 (fair_l (expr_items a) (expr_items b) h), expr-proper b o.1 (fair_r (expr_items a) (expr_items b) h))
  expr-proper (e_tuple xs) o h = exprs-proper xs o h
  expr-proper (e_array xs) o h = exprs-proper xs o h
  expr-proper (e_struct n fs xs) o h = (h.0, names-all fs (fair_l (list name_items fs) (exprs_items xs) h.1), o.0, exprs-proper xs o.1 (fair_r (list name_items fs) (exprs_items xs) h.1))
  expr-proper (e_cast t a) o h = (record { shaped = o.0; fair = fair_l (ty_items t) (expr_items a) h }, expr-proper a o.1 (fair_r (ty_items t) (expr_items a) h))
  expr-proper (e_when a x b) o h = (h.0, expr-proper a o h.1)
  expr-proper (e_merge x a b) o h = (h.0, expr-proper a o.0 (fair_l (expr_items a) (expr_items b) h.1), expr-proper b o.1 (fair_r (expr_items a) (expr_items b) h.1))
  expr-proper (e_iterate k f b xs) o h = (h.0, o.0, exprs-proper xs o.1 h.1)

  pub exprs-proper : (es : Exprs) → FormedAll es → Fair (exprs_items es) → ProperX es
  exprs-proper x_nil o h = tt
  exprs-proper (x_cons a xs) o h = (expr-proper a o.0 (fair_l (expr_items a) (exprs_items xs) h), exprs-proper xs o.1 (fair_r (expr_items a) (exprs_items xs) h))

mutual
  unfolding ProperE ProperX Formed FormedAll

  pub proper-formed : (e : Expr) → ProperE e → Formed e
  proper-formed (e_const l) o = o
  proper-formed (e_var x) o = tt
  proper-formed (e_unary u a) o = proper-formed a o
  proper-formed (e_binary u a b) o = (proper-formed a o.0, proper-formed b o.1)
  proper-formed (e_if a b c) o = (proper-formed a o.0, proper-formed b o.1, proper-formed c o.2)
  proper-formed (e_pre a) o = proper-formed a o
  proper-formed (e_arrow a b) o = (proper-formed a o.0, proper-formed b o.1)
  proper-formed (e_call f xs) o = propers-formed xs o.1
  proper-formed (e_field a f) o = proper-formed a o.1
  proper-formed (e_index a b) o = (proper-formed a o.0, proper-formed b o.1)
  proper-formed (e_tuple xs) o = propers-formed xs o
  proper-formed (e_array xs) o = propers-formed xs o
  proper-formed (e_struct n fs xs) o = (o.2, propers-formed xs o.3)
  proper-formed (e_cast t a) o = (o.0.shaped, proper-formed a o.1)
  proper-formed (e_when a x b) o = proper-formed a o.1
  proper-formed (e_merge x a b) o = (proper-formed a o.1, proper-formed b o.2)
  proper-formed (e_iterate k f b xs) o = (o.1, propers-formed xs o.2)

  pub propers-formed : (es : Exprs) → ProperX es → FormedAll es
  propers-formed x_nil o = tt
  propers-formed (x_cons a xs) o = (proper-formed a o.0, propers-formed xs o.1)

mutual
  unfolding ProperE ProperX expr_items exprs_items Each

  pub proper-fair : (e : Expr) → ProperE e → Fair (expr_items e)
  proper-fair (e_const l) o = tt
  proper-fair (e_var x) o = (o, tt)
  proper-fair (e_unary u a) o = proper-fair a o
  proper-fair (e_binary u a b) o = fairs (expr_items a) (expr_items b) (proper-fair a o.0) (proper-fair b o.1)
  proper-fair (e_if a b c) o = fairs (expr_items a) (expr_items b ++ expr_items c) (proper-fair a o.0) (fairs (expr_items b) (expr_items c) (proper-fair b o.1) (proper-fair c o.2))
  proper-fair (e_pre a) o = proper-fair a o
  proper-fair (e_arrow a b) o = fairs (expr_items a) (expr_items b) (proper-fair a o.0) (proper-fair b o.1)
  proper-fair (e_call f xs) o = (o.0, propers-fair xs o.1)
  proper-fair (e_field a f) o = (o.0, proper-fair a o.1)
  proper-fair (e_index a b) o = fairs (expr_items a) (expr_items b) (proper-fair a o.0) (proper-fair b o.1)
  proper-fair (e_tuple xs) o = propers-fair xs o
  proper-fair (e_array xs) o = propers-fair xs o
  proper-fair (e_struct n fs xs) o = (o.0, fairs (list name_items fs) (exprs_items xs) (all-names fs o.1) (propers-fair xs o.3))
  proper-fair (e_cast t a) o = fairs (ty_items t) (expr_items a) o.0.fair (proper-fair a o.1)
  proper-fair (e_when a x b) o = (o.0, proper-fair a o.1)
  proper-fair (e_merge x a b) o = (o.0, fairs (expr_items a) (expr_items b) (proper-fair a o.1) (proper-fair b o.2))
  proper-fair (e_iterate k f b xs) o = (o.0, propers-fair xs o.2)

  pub propers-fair : (es : Exprs) → ProperX es → Fair (exprs_items es)
  propers-fair x_nil o = tt
  propers-fair (x_cons a xs) o = fairs (expr_items a) (exprs_items xs) (proper-fair a o.0) (propers-fair xs o.1)

-- ports, equations, transitions, enums, nodes
pub record ProperPort (p : Port) : Type 0 where
  pub name : Allowed p.name
  pub ty : ProperTy p.ty

pub record ProperQ (e : Equation) : Type 0 where
  pub lhs : All Allowed e.lhs
  pub rhs : ProperE e.rhs

pub record ProperT (t : Transition) : Type 0 where
  pub guard : ProperE t.guard
  pub target : Allowed t.target

pub record ProperEnum (e : Enum) : Type 0 where
  pub name : Allowed e.name
  pub variants : All Allowed e.variants

pub record ProperNode (n : Node) : Type 0 where
  pub name : Allowed n.name
  pub inputs : All ProperPort n.inputs
  pub outputs : All ProperPort n.outputs
  pub locals : All ProperPort n.locals
  pub equations : All ProperQ n.equations

pub record ProperOrigin (o : Origin) : Type 0 where
  pub node : Allowed o.node
  pub name : Allowed o.name
  pub branches : All Allowed o.branches

port-proper : (p : Port) → ShapedPort p → Fair (port_items p) → ProperPort p
unfolding port_items Each
port-proper p o h = record { name = h.0; ty = record { shaped = o; fair = h.1 } }

port-fair : (p : Port) → ProperPort p → Fair (port_items p)
unfolding port_items Each
port-fair p o = (o.name, o.ty.fair)

pub ports-proper : (ps : List Port) → All ShapedPort ps → Fair (list port_items ps) → All ProperPort ps
ports-proper ps o h = all_both ShapedPort (λ p. Fair (port_items p)) ProperPort ps port-proper o (list_all port_items ps h)

ports-shaped : (ps : List Port) → All ProperPort ps → All ShapedPort ps
ports-shaped ps o = all_map ProperPort ShapedPort ps (λ p k. k.ty.shaped) o

ports-fair : (ps : List Port) → All ProperPort ps → Fair (list port_items ps)
ports-fair ps o = all_list port_items ps (all_map ProperPort (λ p. Fair (port_items p)) ps port-fair o)

equation-proper : (e : Equation) → FormedEquation e → Fair (equation_items e) → ProperQ e
unfolding equation_items
equation-proper e o h = record { lhs = names-all e.lhs (fair_l (list name_items e.lhs) (expr_items e.rhs) h); rhs = expr-proper e.rhs o (fair_r (list name_items e.lhs) (expr_items e.rhs) h) }

equation-fair : (e : Equation) → ProperQ e → Fair (equation_items e)
unfolding equation_items
equation-fair e o = fairs (list name_items e.lhs) (expr_items e.rhs) (all-names e.lhs o.lhs) (proper-fair e.rhs o.rhs)

pub equations-proper : (es : List Equation) → All FormedEquation es → Fair (list equation_items es) → All ProperQ es
equations-proper es o h = all_both FormedEquation (λ e. Fair (equation_items e)) ProperQ es equation-proper o (list_all equation_items es h)

equations-formed : (es : List Equation) → All ProperQ es → All FormedEquation es
equations-formed es o = all_map ProperQ FormedEquation es (λ e k. proper-formed e.rhs k.rhs) o

equations-fair : (es : List Equation) → All ProperQ es → Fair (list equation_items es)
equations-fair es o = all_list equation_items es (all_map ProperQ (λ e. Fair (equation_items e)) es equation-fair o)

transition-proper : (t : Transition) → FormedTransition t → Fair (transition_items t) → ProperT t
unfolding transition_items name_items Each
transition-proper t o h = record { guard = expr-proper t.guard o (fair_l (expr_items t.guard) (name_items t.target) h); target = (fair_r (expr_items t.guard) (name_items t.target) h).0 }

pub transitions-proper : (ts : List Transition) → All FormedTransition ts → Fair (list transition_items ts) → All ProperT ts
transitions-proper ts o h = all_both FormedTransition (λ t. Fair (transition_items t)) ProperT ts transition-proper o (list_all transition_items ts h)

enum-proper : (e : Enum) → Fair (enum_items e) → ProperEnum e
unfolding enum_items Each
enum-proper e h = record { name = h.0; variants = names-all e.variants h.1 }

enum-fair : (e : Enum) → ProperEnum e → Fair (enum_items e)
unfolding enum_items Each
enum-fair e o = (o.name, all-names e.variants o.variants)

pub enums-proper : (es : List Enum) → Fair (list enum_items es) → All ProperEnum es
enums-proper es h = all_map (λ e. Fair (enum_items e)) ProperEnum es enum-proper (list_all enum_items es h)

pub enums-fair : (es : List Enum) → All ProperEnum es → Fair (list enum_items es)
enums-fair es o = all_list enum_items es (all_map ProperEnum (λ e. Fair (enum_items e)) es enum-fair o)

node-proper : (n : Node) → FormedNode n → Fair (node_items n) → ProperNode n
unfolding node_items Each
node-proper n o h =
    let i = list port_items n.inputs in let u = list port_items n.outputs in let l = list port_items n.locals in let e = list equation_items n.equations in
    let a = fair_r i (u ++ (l ++ e)) h.1 in let b = fair_r u (l ++ e) a in
    record { name = h.0; inputs = ports-proper n.inputs o.0 (fair_l i (u ++ (l ++ e)) h.1); outputs = ports-proper n.outputs o.1 (fair_l u (l ++ e) a); locals = ports-proper n.locals o.2 (fair_l l e b); equations = equations-proper n.equations o.3 (fair_r l e b) }

pub node-formed : (n : Node) → ProperNode n → FormedNode n
node-formed n o = (ports-shaped n.inputs o.inputs, ports-shaped n.outputs o.outputs, ports-shaped n.locals o.locals, equations-formed n.equations o.equations)

node-fair : (n : Node) → ProperNode n → Fair (node_items n)
unfolding node_items Each
node-fair n o =
    let i = list port_items n.inputs in let u = list port_items n.outputs in let l = list port_items n.locals in let e = list equation_items n.equations in
    (o.name, fairs i (u ++ (l ++ e)) (ports-fair n.inputs o.inputs) (fairs u (l ++ e) (ports-fair n.outputs o.outputs) (fairs l e (ports-fair n.locals o.locals) (equations-fair n.equations o.equations))))

pub nodes-proper : (ns : List Node) → All FormedNode ns → Fair (list node_items ns) → All ProperNode ns
nodes-proper ns o h = all_both FormedNode (λ n. Fair (node_items n)) ProperNode ns node-proper o (list_all node_items ns h)

pub nodes-formed : (ns : List Node) → All ProperNode ns → All FormedNode ns
nodes-formed ns o = all_map ProperNode FormedNode ns node-formed o

pub nodes-fair : (ns : List Node) → All ProperNode ns → Fair (list node_items ns)
nodes-fair ns o = all_list node_items ns (all_map ProperNode (λ n. Fair (node_items n)) ns node-fair o)

origin-proper : (o : Origin) → Fair (origin_items o) → ProperOrigin o
unfolding origin_items Each
origin-proper o h = record { node = h.0; name = h.1.0; branches = names-all o.branches h.1.1 }

origin-fair : (o : Origin) → ProperOrigin o → Fair (origin_items o)
unfolding origin_items Each
origin-fair x o = (o.node, (o.name, all-names x.branches o.branches))

pub origins-proper : (os : List Origin) → Fair (list origin_items os) → All ProperOrigin os
origins-proper os h = all_map (λ o. Fair (origin_items o)) ProperOrigin os origin-proper (list_all origin_items os h)

pub origins-fair : (os : List Origin) → All ProperOrigin os → Fair (list origin_items os)
origins-fair os o = all_list origin_items os (all_map ProperOrigin (λ o. Fair (origin_items o)) os origin-fair o)
