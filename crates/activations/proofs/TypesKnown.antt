-- Tables of types filled from a pack that was read have the types of its ports.
use Prim.Native.Nat.{ℕ, zero, suc, ◌+◌, ◌%◌, ◌<◌, ◌≤◌}
use native.Mathlib.Omega.{arith}
use native.Mathlib.Nat.{mod-eq_of_lt}
use mathlib.Core.List.{List, [], ◌∷◌, ◌++◌}
use mathlib.Core.Bool.{Bool, true, false, cond}
use mathlib.Core.Logic.{⊎_elim}
use mathlib.Core.Option.{Option, none, some, none-ne-some}
use mathlib.Core.Path.{◌≡◌, refl, sym, ap, subst, ◌∙◌}
use lib.ListN.{length, get_or, set, drop, length-append, length-set, length-drop}
use lib.Seq.{get_or-set_same, get_or-set_other}
use lib.Dec.{eqb}
use borrow.Author.Tests.{eqb-false, eqb-true, le-ltb, lt-ltb, ne_eqb}
use Rattle.wire.specs.Answer.{Answer, below, byte, deep, early, illegal, many, value}
use Rattle.wire.specs.Lists.{All, Bytes}
use Rattle.wire.specs.Writer.{State, puts}
use Rattle.wire.proofs.Answers.{bind-value, guard-value, map-value, u16-value}
use Rattle.wire.proofs.Writers.{lt-or-le}
use Rattle.pack_rules.specs.Names.{Name, eq_name}
use Rattle.pack_rules.specs.Report.{first_of}
use Rattle.pack_rules.specs.Syntax.{Node, Port, Ty, t_array, t_bool, t_char, t_float32, t_float64, t_int16, t_int32, t_int64, t_int8, t_named, t_uint16, t_uint32, t_uint64, t_uint8}
use Rattle.pack_rules.specs.Forms.{name_at}
use Rattle.pack_rules.specs.Legal.{Fresh, LegalName, ShapedTy}
use Rattle.pack_rules.specs.Read.{name_in, node_in, port_in, ports_in, type_in}
use Rattle.pack_rules.specs.Write.{one, ty_items}
use Rattle.pack.specs.Table.{tabled}
use Rattle.pack.specs.Intern.{put_item, render}
use Rattle.pack.proofs.Bounds.{w-type_in}
use Rattle.pack.proofs.Copies.{Lies, lies-by, lies-copied}
use Rattle.pack.proofs.Tables.{code}
use Rattle.pack.proofs.TypeFormats.{fmt_type}
use Rattle.machines.specs.Layout.{slice_of}
use Rattle.machines.specs.ResolvedIn.{end_of}
use Rattle.machines.specs.CheckedReads.{byte_in, first_some, num, number_in, with}
use Rattle.machines.proofs.NamesPlaced.{alone}
use Rattle.machines.proofs.Reading.{many-cut, many-end, many_more, many-over, name-number}
use Rattle.machines.proofs.CheckedReadLaws.{byte-to, end-to, number-num, number-to, then_to}
use Rattle.machines.proofs.ShownCounts.{NodeRead, node-value}
use Rattle.machines.proofs.TablesFilled.{fill-at, fill-length}
use Rattle.machines.proofs.Validated.{first-none}
use Rattle.activations.specs.Cells.{clear_t, put_t}
use Rattle.activations.specs.Places.{along, each_of}
use Rattle.activation_rules.specs.Types.{first_typed, last_typed, or_bool, typed, value_type, variables}
use Rattle.activations.specs.TypeCodes.{out_t, read_ty, type_at, typed_t, value_type_t}
use Rattle.activations.specs.TypesAt.{Coded, TypesAre, first_port_t, first_ports_t, inputs_in, port_end, port_t, ports_end, ports_t, three_ports_t, type_bytes, variables_t}
use Rattle.activations.proofs.ActRead.{counted-value}

-- of the first of three
first-assoc : {A : Type 0} (a b c : Option A) → first_of (first_of a b) c ≡ first_of a (first_of b c)
unfolding first_of
first-assoc none b c = refl
first-assoc (some x) b c = refl

pub last-append : (a b : List Port) (m : Name) → last_typed (a ++ b) m ≡ first_of (last_typed b m) (last_typed a m)
unfolding last_typed
last-append [] b m = sym (first-none (last_typed b m))
last-append (p ∷ ps) b m =
    ap (λ y. first_of y (cond (eq_name p.name m) (some p.ty) none)) (last-append ps b m)
    ∙ first-assoc (last_typed b m) (last_typed ps m) (cond (eq_name p.name m) (some p.ty) none)

-- the type of a code that stands for one
pub coded-type : (ns : List Name) (s : List ℕ) (c : ℕ) (o : Option Ty) → Coded ns s c o → type_at ns s c ≡ o
unfolding Coded type_at
coded-type ns s c none e = rw e
coded-type ns s c (some t) e = e.1

-- the first of two codes
pub coded-or : (ns : List Name) (s : List ℕ) (c d : ℕ) (o p : Option Ty) → Coded ns s c o → Coded ns s d p → Coded ns s (first_some c d) (first_of o p)
unfolding Coded first_some first_of
coded-or ns s c d none p e f = rw e f
coded-or ns s c d (some t) p e f = rw (ne_eqb c 0 (λ z. let l = e.0 in omega arith)) e

pub coded-bool : (ns : List Name) (s : List ℕ) → Coded ns s 1 (some t_bool)
unfolding Coded type_at
coded-bool ns s = (omega arith, refl)

-- what was read at a code
read_some : (a : Answer Ty) (t : Ty) → read_ty a ≡ some t → a ≡ value t (end_of a)
unfolding read_ty end_of or_bool
read_some (value x q) t e = ap (λ y. value (or_bool y) q) e
read_some early t e = absurd (none-ne-some t e)
read_some (illegal o) t e = absurd (none-ne-some t e)
read_some (deep o) t e = absurd (none-ne-some t e)

code_read : (ns : List Name) (s : List ℕ) (c : ℕ) → 2 ≤ c → type_at ns s c ≡ read_ty (type_in ns s c)
unfolding type_at
code_read ns s c l = rw (ne_eqb c 0 (λ z. omega arith), ne_eqb c 1 (λ z. omega arith))

pub coded-read : (ns : List Name) (s : List ℕ) (c : ℕ) (t : Ty) → Coded ns s c (some t) → 2 ≤ c → type_in ns s c ≡ value t (end_of (type_in ns s c))
unfolding Coded
coded-read ns s c t e l = read_some (type_in ns s c) t (sym (code_read ns s c l) ∙ e.1)

-- a type that was read, by where it stands
pub read-coded : (ns : List Name) (s : List ℕ) (c : ℕ) (t : Ty) (q : ℕ) → type_in ns s c ≡ value t q → 2 ≤ c → Coded ns s c (some t)
unfolding Coded read_ty
read-coded ns s c t q e l = (omega arith, code_read ns s c l ∙ ap read_ty e)

-- the code 1 is Bool's
pub coded-one : (ns : List Name) (s : List ℕ) (c : ℕ) (t : Ty) → Coded ns s c (some t) → c < 2 → t ≡ t_bool
unfolding Coded type_at or_bool
coded-one ns s c t e l =
    let k : c ≡ 1 = let m = e.0 in omega arith in
    ap or_bool (sym e.1 ∙ ap (type_at ns s) k)

type-some : (ns : List Name) (t : Ty) → 0 < length (code ns (ty_items t))
unfolding code ty_items one
type-some ns t_bool = omega arith
type-some ns t_int8 = omega arith
type-some ns t_int16 = omega arith
type-some ns t_int32 = omega arith
type-some ns t_int64 = omega arith
type-some ns t_uint8 = omega arith
type-some ns t_uint16 = omega arith
type-some ns t_uint32 = omega arith
type-some ns t_uint64 = omega arith
type-some ns t_float32 = omega arith
type-some ns t_float64 = omega arith
type-some ns t_char = omega arith
type-some ns (t_array n t) = omega arith
type-some ns (t_named n) = omega arith

-- a port that was read: the number of its name, and where its type stands
pub record PortRead (ns : List Name) (s : List ℕ) (at : ℕ) (x : Port) (q : ℕ) : Type 0 where
  pub i : ℕ
  pub to : ℕ
  pub is : number_in s at ≡ num i to
  pub small : i < length ns
  pub named : name_at ns i ≡ x.name
  pub after : to ≡ at + 2
  pub type : type_in ns s to ≡ value x.ty q

pub port-read : (ns : List Name) (s : List ℕ) (at : ℕ) (x : Port) (q : ℕ) → port_in ns s at ≡ value x q → PortRead ns s at x q
unfolding port_in
port-read ns s at x q e =
    let b = bind-value (name_in ns s at) _ x q e in
    let m = map-value _ (type_in ns s b.1) x q b.3 in
    let n = name-number ns s at b.0 b.1 b.2 in
    record {
      i = n.i;
      to = b.1;
      is = number-num s at n.i b.1 n.is;
      small = n.small;
      named = n.named ∙ ap (λ (y : Port). y.name) m.2;
      after = (u16-value s at n.i b.1 n.is).to;
      type = m.1 ∙ ap (λ (y : Port). value y.ty q) m.2;
    }

-- where there is none the other is taken, where there is one it stays
no-type : (ns : List Name) (s : List ℕ) (o : Option Ty) (c : ℕ) → c ≡ 0 → Coded ns s c o → (j : ℕ) (t : Ty) → Coded ns s j (some t) → Coded ns s j (first_of o (some t))
unfolding Coded first_of
no-type ns s none c z v j t u = u
no-type ns s (some y) c z v j t u = absurd (let l = v.0 in omega arith)

some-type : (ns : List Name) (s : List ℕ) (o : Option Ty) (c : ℕ) → (c ≡ 0 → ⊥) → Coded ns s c o → (p : Option Ty) → Coded ns s c (first_of o p)
unfolding Coded first_of
some-type ns s none c z v p = absurd (z v)
some-type ns s (some y) c z v p = v

module _ (ns : List Name) (fresh : Fresh [] ns) (few : length ns < 65536) (s : List ℕ) (by : Bytes s) where
  -- what stands where a type was read
  pub lies-type : (at : ℕ) (t : Ty) (q : ℕ) → type_in ns s at ≡ value t q → Lies ns s at (ty_items t) q
  lies-type at t q e = lies-by ns (type_in ns) ty_items ShapedTy (fmt_type ns fresh (omega arith)) (w-type_in ns) (type-some ns) s by at t q e

  pub type-inside : (at : ℕ) (t : Ty) (q : ℕ) → type_in ns s at ≡ value t q → at < length s
  type-inside at t q e =
      let l = lies-type at t q e in
      let m = type-some ns t in
      let a = ap length l.bytes in
      omega (arith, length-drop at s, length-append (code ns (ty_items t)) (drop q s))

  bool-written : (c : ℕ) (t : Ty) → Coded ns s c (some t) → c < 2 → (z : State) → puts (type_bytes ns s c) z ≡ render (tabled ns) (ty_items t) z
  unfolding type_bytes render put_item ty_items one
  bool-written c t h l z = rw (lt-ltb c 2 l) (ap (λ y. render (tabled ns) (ty_items y) z) (sym (coded-one ns s c t h l)))

  read-written : All LegalName ns → (c : ℕ) (t : Ty) → Coded ns s c (some t) → 2 ≤ c → (z : State) → puts (type_bytes ns s c) z ≡ render (tabled ns) (ty_items t) z
  unfolding type_bytes slice_of
  read-written legal c t h l z = rw (le-ltb c 2 l) (sym (lies-copied ns legal s c (ty_items t) (end_of (type_in ns s c)) (lies-type c t (end_of (type_in ns s c)) (coded-read ns s c t h l)) z))

  -- THE LAW: a type is written by its bytes
  pub type-written : All LegalName ns → (c : ℕ) (t : Ty) → Coded ns s c (some t) → (z : State) → puts (type_bytes ns s c) z ≡ render (tabled ns) (ty_items t) z
  type-written legal c t h z = ⊎_elim (λ l. bool-written c t h l z) (λ l. read-written legal c t h l z) (lt-or-le c 2)

  module _ (short : length s ≤ 65536) where
    -- one port more
    more-typed : (p : ℕ) (x : Port) (q : ℕ) (t : List ℕ) (f : Name → Option Ty) → port_in ns s p ≡ value x q → length ns ≤ length t → TypesAre ns s t f → TypesAre ns s (port_t s p t) (λ m. cond (eq_name x.name m) (some x.ty) (f m))
    unfolding TypesAre port_t put_t
    more-typed p x q t f e l h y k =
        let r = port-read ns s p x q e in
        let c : r.to % 65536 ≡ r.to = mod-eq_of_lt (let i = type-inside r.to x.ty q r.type in omega arith) in
        let g : with (number_in s p) (λ i j. set t i (j % 65536)) ≡ set t r.i r.to = then_to (number_in s p) r.i r.to (λ i j. set t i (j % 65536)) r.is ∙ ap (set t r.i) c in
        let d = alone ns fresh y r.i k r.small in
        subst (λ u. Coded ns s (get_or u y 0) (cond (eq_name x.name (name_at ns y)) (some x.ty) (f (name_at ns y)))) (sym g)
        (subst (λ u. Coded ns s (get_or (set t r.i r.to) y 0) (cond u (some x.ty) (f (name_at ns y)))) (sym d ∙ ap (λ u. eq_name u (name_at ns y)) r.named)
        (by_index r.i r.to (eqb r.i y) refl (read-coded ns s r.to x.ty q r.type (let m = r.after in omega arith)) (h y k) (let m = r.small in omega arith)))
      where
        by_index : (i j : ℕ) (b : Bool) → eqb i y ≡ b → Coded ns s j (some x.ty) → Coded ns s (get_or t y 0) (f (name_at ns y)) → i < length t → Coded ns s (get_or (set t i j) y 0) (cond b (some x.ty) (f (name_at ns y)))
        by_index i j true e u v m = subst (λ w. Coded ns s w (some x.ty)) (sym (ap (λ n. get_or (set t i j) n 0) (sym (eqb-true i y e)) ∙ get_or-set_same t i j 0 m)) u
        by_index i j false e u v m = subst (λ w. Coded ns s w (f (name_at ns y))) (sym (get_or-set_other t i y j 0 (λ z. eqb-false i y e (sym z)))) v

    port-length : (p : ℕ) (t : List ℕ) → length (port_t s p t) ≡ length t
    unfolding port_t put_t with
    port-length p t = length-set t (number_in s p).value ((number_in s p).next % 65536)

    same-types : (t : List ℕ) (f g : Name → Option Ty) → ((m : Name) → f m ≡ g m) → TypesAre ns s t f → TypesAre ns s t g
    unfolding TypesAre
    same-types t f g e h x l = subst (Coded ns s (get_or t x 0)) (e (name_at ns x)) (h x l)

    -- one port before others
    last_more : (x : Port) (ps : List Port) (o : Option Ty) (m : Name) → first_of (last_typed ps m) (cond (eq_name x.name m) (some x.ty) o) ≡ first_of (last_typed (x ∷ ps) m) o
    unfolding last_typed first_of
    last_more x ps o m = go (last_typed ps m) (eq_name x.name m)
      where
        go : (a : Option Ty) (b : Bool) → first_of a (cond b (some x.ty) o) ≡ first_of (first_of a (cond b (some x.ty) none)) o
        go none true = refl
        go none false = refl
        go (some y) b = refl

    no-port : (o : Option Ty) (m : Name) → o ≡ first_of (last_typed [] m) o
    unfolding last_typed first_of
    no-port o m = refl

    port-over : (p : ℕ) (x : Port) (q : ℕ) → port_in ns s p ≡ value x q → port_end ns s p ≡ q
    unfolding port_end
    port-over p x q e = end-to (port_in ns s p) x q e

    -- ports one after the other
    each_typed : (n p : ℕ) (ps : List Port) (q : ℕ) (t : List ℕ) (f : Name → Option Ty) → many (port_in ns s) n p ≡ value ps q → length ns ≤ length t → TypesAre ns s t f
        → TypesAre ns s (each_of (port_t s) (port_end ns s) n p t) (λ m. first_of (last_typed ps m) (f m))
    unfolding each_of
    each_typed zero p [] q t f e l h = same-types t f (λ m. first_of (last_typed [] m) (f m)) (λ m. no-port (f m) m) h
    each_typed zero p (x ∷ xs) q t f e l h = absurd (many-cut (port_in ns s) p x xs q e)
    each_typed (suc n) p [] q t f e l h = absurd (many-over (port_in ns s) n p q e)
    each_typed (suc n) p (x ∷ xs) q t f e l h =
        let a = many_more (port_in ns s) n p x xs q e in
        let g = port-length p t in
        same-types _ (λ m. first_of (last_typed xs m) (cond (eq_name x.name m) (some x.ty) (f m))) (λ m. first_of (last_typed (x ∷ xs) m) (f m)) (λ m. last_more x xs (f m) m)
        (subst (λ y. TypesAre ns s (each_of (port_t s) (port_end ns s) n y (port_t s p t)) (λ m. first_of (last_typed xs m) (cond (eq_name x.name m) (some x.ty) (f m)))) (sym (port-over p x a.0 a.1))
        (each_typed n a.0 xs q (port_t s p t) (λ m. cond (eq_name x.name m) (some x.ty) (f m)) a.2 (omega arith) (more-typed p x a.0 t f a.1 l h)))

    each_over : (n p : ℕ) (ps : List Port) (q : ℕ) → many (port_in ns s) n p ≡ value ps q → along (port_end ns s) n p ≡ q
    unfolding along
    each_over zero p [] q e = many-end (port_in ns s) p q e
    each_over zero p (x ∷ xs) q e = absurd (many-cut (port_in ns s) p x xs q e)
    each_over (suc n) p [] q e = absurd (many-over (port_in ns s) n p q e)
    each_over (suc n) p (x ∷ xs) q e =
        let a = many_more (port_in ns s) n p x xs q e in
        ap (along (port_end ns s) n) (port-over p x a.0 a.1) ∙ each_over n a.0 xs q a.2

    each-length : (n p : ℕ) (t : List ℕ) → length (each_of (port_t s) (port_end ns s) n p t) ≡ length t
    unfolding each_of
    each-length zero p t = refl
    each-length (suc n) p t = each-length n (port_end ns s p) (port_t s p t) ∙ port-length p t

    pub ports-length : (at : ℕ) (t : List ℕ) → length (ports_t ns s at t) ≡ length t
    unfolding ports_t with
    ports-length at t = each-length (number_in s at).value (number_in s at).next t

    -- ports after their count
    pub ports-typed : (at : ℕ) (ps : List Port) (q : ℕ) (t : List ℕ) (f : Name → Option Ty) → ports_in ns s at ≡ value ps q → length ns ≤ length t → TypesAre ns s t f → TypesAre ns s (ports_t ns s at t) (λ m. first_of (last_typed ps m) (f m))
    unfolding ports_t ports_in
    ports-typed at ps q t f e l h =
        let a = counted-value (port_in ns s) s at ps q e in
        subst (λ y. TypesAre ns s y (λ m. first_of (last_typed ps m) (f m))) (sym (number-to s at (length ps) a.0 (λ n p. each_of (port_t s) (port_end ns s) n p t) a.1))
        (each_typed (length ps) a.0 ps q t f a.2 l h)

    pub ports-end : (at : ℕ) (ps : List Port) (q : ℕ) → ports_in ns s at ≡ value ps q → ports_end ns s at ≡ q
    unfolding ports_end ports_in
    ports-end at ps q e =
        let a = counted-value (port_in ns s) s at ps q e in
        number-to s at (length ps) a.0 (λ n p. along (port_end ns s) n p) a.1 ∙ each_over (length ps) a.0 ps q a.2

    -- a table that was cleared has no types
    pub none-typed : (t : List ℕ) → length ns ≤ length t → TypesAre ns s (clear_t (length ns) t) (λ m. none)
    unfolding TypesAre Coded clear_t
    none-typed t l x h = fill-at (λ i. 0) (length ns) 0 t x (omega arith) (omega arith) (omega arith)

    cleared-length : (n : ℕ) (t : List ℕ) → length (clear_t n t) ≡ length t
    unfolding clear_t
    cleared-length n t = fill-length (λ i. 0) n 0 t

    three-typed : (i : ℕ) (x : Node) (at q : ℕ) (r : NodeRead ns s at x q) (t : List ℕ) (f : Name → Option Ty) → i ≡ r.to-inputs → length ns ≤ length t → TypesAre ns s t f
        → TypesAre ns s (three_ports_t ns s i t) (λ m. first_of (last_typed x.locals m) (first_of (last_typed x.outputs m) (first_of (last_typed x.inputs m) (f m))))
    unfolding three_ports_t
    three-typed i x at q r t f e l h =
        let o = ports-end r.to-inputs x.inputs r.to-outputs r.inputs in
        let k = ports-end r.to-outputs x.outputs r.to-locals r.outputs in
        let u = ports_t ns s r.to-inputs t in
        let v = ports_t ns s r.to-outputs u in
        let a = ports-length r.to-inputs t in
        let b = ports-length r.to-outputs u in
        let g : ports_t ns s (ports_end ns s (ports_end ns s i)) (ports_t ns s (ports_end ns s i) (ports_t ns s i t)) ≡ ports_t ns s r.to-locals v =
        (λ j. ports_t ns s (ports_end ns s (ports_end ns s (e j))) (ports_t ns s (ports_end ns s (e j)) (ports_t ns s (e j) t)))
        ∙ (λ j. ports_t ns s (ports_end ns s (o j)) (ports_t ns s (o j) u))
        ∙ (λ j. ports_t ns s (k j) v) in
        subst (λ y. TypesAre ns s y (λ m. first_of (last_typed x.locals m) (first_of (last_typed x.outputs m) (first_of (last_typed x.inputs m) (f m))))) (sym g)
        (ports-typed r.to-locals x.locals r.to-equations v (λ m. first_of (last_typed x.outputs m) (first_of (last_typed x.inputs m) (f m))) r.locals (omega arith)
        (ports-typed r.to-outputs x.outputs r.to-locals u (λ m. first_of (last_typed x.inputs m) (f m)) r.outputs (omega arith)
        (ports-typed r.to-inputs x.inputs r.to-outputs t f r.inputs l h)))

    byte_next : (at v q : ℕ) → byte s at ≡ value v q → (byte_in s at).next ≡ q
    unfolding with
    byte_next at v q e = byte-to s at v q (λ b p. p) e

    inputs-to : (x : Node) (at q : ℕ) (r : NodeRead ns s at x q) → inputs_in s at ≡ r.to-inputs
    unfolding inputs_in below
    inputs-to x at q r =
        let n = name-number ns s at x.name r.to-kind r.name in
        let b = guard-value _ r.to-kind (byte s r.to-kind) r.kind r.to-inputs r.byte in
        number-to s at n.i r.to-kind (λ m p. (byte_in s p).next) n.is ∙ byte_next r.to-kind r.kind r.to-inputs b.0

    three-parts : (x : Node) (m : Name) → first_of (last_typed x.locals m) (first_of (last_typed x.outputs m) (first_of (last_typed x.inputs m) none)) ≡ last_typed (variables x) m
    unfolding variables
    three-parts x m =
        ap (λ y. first_of (last_typed x.locals m) (first_of (last_typed x.outputs m) y)) (first-none (last_typed x.inputs m))
        ∙ sym (first-assoc (last_typed x.locals m) (last_typed x.outputs m) (last_typed x.inputs m))
        ∙ ap (λ y. first_of y (last_typed x.inputs m)) (sym (last-append x.outputs x.locals m))
        ∙ sym (last-append x.inputs (x.outputs ++ x.locals) m)

    -- THE LINK: the table of a node's variables
    pub variables-typed : (at : ℕ) (x : Node) (q : ℕ) (t : List ℕ) → node_in ns s at ≡ value x q → length ns ≤ length t → TypesAre ns s (variables_t ns s at (clear_t (length ns) t)) (last_typed (variables x))
    unfolding variables_t
    variables-typed at x q t e l =
        let r = node-value ns s at x q e in
        let k = cleared-length (length ns) t in
        same-types _ _ (last_typed (variables x)) (three-parts x)
        (three-typed (inputs_in s at) x at q r (clear_t (length ns) t) (λ m. none) (inputs-to x at q r) (omega arith) (none-typed t l))

    -- the first of a name stays
    first-typed : (p : ℕ) (x : Port) (q : ℕ) (t : List ℕ) (f : Name → Option Ty) → port_in ns s p ≡ value x q → length ns ≤ length t → TypesAre ns s t f → TypesAre ns s (first_port_t s p t) (λ m. first_of (f m) (cond (eq_name x.name m) (some x.ty) none))
    unfolding TypesAre first_port_t put_t
    first-typed p x q t f e l h y k =
        let r = port-read ns s p x q e in
        let c : r.to % 65536 ≡ r.to = mod-eq_of_lt (let i = type-inside r.to x.ty q r.type in omega arith) in
        let g : with (number_in s p) (λ i j. cond (eqb (get_or t i 0) 0) (set t i (j % 65536)) t) ≡ cond (eqb (get_or t r.i 0) 0) (set t r.i r.to) t =
        then_to (number_in s p) r.i r.to (λ i j. cond (eqb (get_or t i 0) 0) (set t i (j % 65536)) t) r.is ∙ ap (λ j. cond (eqb (get_or t r.i 0) 0) (set t r.i j) t) c in
        let d = alone ns fresh y r.i k r.small in
        subst (λ u. Coded ns s (get_or u y 0) (first_of (f (name_at ns y)) (cond (eq_name x.name (name_at ns y)) (some x.ty) none))) (sym g)
        (subst (λ u. Coded ns s (get_or (cond (eqb (get_or t r.i 0) 0) (set t r.i r.to) t) y 0) (first_of (f (name_at ns y)) (cond u (some x.ty) none))) (sym d ∙ ap (λ u. eq_name u (name_at ns y)) r.named)
        (by-cell r.i r.to (eqb (get_or t r.i 0) 0) refl (eqb r.i y) refl (read-coded ns s r.to x.ty q r.type (let m = r.after in omega arith)) (f (name_at ns y)) (h y k) (let m = r.small in omega arith)))
      where
        -- no type yet
        put-index : (i j : ℕ) (b : Bool) → eqb i y ≡ b → get_or t i 0 ≡ 0 → Coded ns s j (some x.ty) → (o : Option Ty) → Coded ns s (get_or t y 0) o → i < length t → Coded ns s (get_or (set t i j) y 0) (first_of o (cond b (some x.ty) none))
        put-index i j true e z u o v m =
            let w : i ≡ y = eqb-true i y e in
            let n : get_or t y 0 ≡ 0 = ap (λ n. get_or t n 0) (sym w) ∙ z in
            subst (λ w. Coded ns s w (first_of o (some x.ty))) (sym (ap (λ n. get_or (set t i j) n 0) (sym w) ∙ get_or-set_same t i j 0 m)) (no-type ns s o (get_or t y 0) n v j x.ty u)
        put-index i j false e z u o v m =
            subst (λ w. Coded ns s w (first_of o none)) (sym (get_or-set_other t i y j 0 (λ z. eqb-false i y e (sym z)))) (subst (Coded ns s (get_or t y 0)) (sym (first-none o)) v)

        by-cell : (i j : ℕ) (a : Bool) → eqb (get_or t i 0) 0 ≡ a → (b : Bool) → eqb i y ≡ b → Coded ns s j (some x.ty) → (o : Option Ty) → Coded ns s (get_or t y 0) o → i < length t → Coded ns s (get_or (cond a (set t i j) t) y 0) (first_of o (cond b (some x.ty) none))
        by-cell i j true z b e u o v m = put-index i j b e (eqb-true (get_or t i 0) 0 z) u o v m
        by-cell i j false z true e u o v m = some-type ns s o (get_or t y 0) (λ n. eqb-false (get_or t i 0) 0 z (ap (λ n. get_or t n 0) (eqb-true i y e) ∙ n)) v (some x.ty)
        by-cell i j false z false e u o v m = subst (Coded ns s (get_or t y 0)) (sym (first-none o)) v

    first-length : (p : ℕ) (t : List ℕ) → length (first_port_t s p t) ≡ length t
    unfolding first_port_t put_t with
    first-length p t = go (eqb (get_or t (number_in s p).value 0) 0)
      where
        go : (b : Bool) → length (cond b (set t (number_in s p).value ((number_in s p).next % 65536)) t) ≡ length t
        go true = length-set t (number_in s p).value ((number_in s p).next % 65536)
        go false = refl

    first_more : (x : Port) (ps : List Port) (o : Option Ty) (m : Name) → first_of (first_of o (cond (eq_name x.name m) (some x.ty) none)) (first_typed ps m) ≡ first_of o (first_typed (x ∷ ps) m)
    unfolding first_typed first_of
    first_more x ps o m = go o (eq_name x.name m)
      where
        go : (a : Option Ty) (b : Bool) → first_of (first_of a (cond b (some x.ty) none)) (first_typed ps m) ≡ first_of a (cond b (some x.ty) (first_typed ps m))
        go none true = refl
        go none false = refl
        go (some y) b = refl

    no-first : (o : Option Ty) (m : Name) → o ≡ first_of o (first_typed [] m)
    unfolding first_typed
    no-first o m = sym (first-none o)

    firsts-typed : (n p : ℕ) (ps : List Port) (q : ℕ) (t : List ℕ) (f : Name → Option Ty) → many (port_in ns s) n p ≡ value ps q → length ns ≤ length t → TypesAre ns s t f
        → TypesAre ns s (each_of (first_port_t s) (port_end ns s) n p t) (λ m. first_of (f m) (first_typed ps m))
    unfolding each_of
    firsts-typed zero p [] q t f e l h = same-types t f (λ m. first_of (f m) (first_typed [] m)) (λ m. no-first (f m) m) h
    firsts-typed zero p (x ∷ xs) q t f e l h = absurd (many-cut (port_in ns s) p x xs q e)
    firsts-typed (suc n) p [] q t f e l h = absurd (many-over (port_in ns s) n p q e)
    firsts-typed (suc n) p (x ∷ xs) q t f e l h =
        let a = many_more (port_in ns s) n p x xs q e in
        let g = first-length p t in
        same-types _ (λ m. first_of (first_of (f m) (cond (eq_name x.name m) (some x.ty) none)) (first_typed xs m)) (λ m. first_of (f m) (first_typed (x ∷ xs) m)) (λ m. first_more x xs (f m) m)
        (subst (λ y. TypesAre ns s (each_of (first_port_t s) (port_end ns s) n y (first_port_t s p t)) (λ m. first_of (first_of (f m) (cond (eq_name x.name m) (some x.ty) none)) (first_typed xs m))) (sym (port-over p x a.0 a.1))
        (firsts-typed n a.0 xs q (first_port_t s p t) (λ m. first_of (f m) (cond (eq_name x.name m) (some x.ty) none)) a.2 (omega arith) (first-typed p x a.0 t f a.1 l h)))

    -- THE LINK: the table of an activation's outputs
    pub outputs-typed : (at : ℕ) (ps : List Port) (q : ℕ) (t : List ℕ) → ports_in ns s at ≡ value ps q → length ns ≤ length t → TypesAre ns s (first_ports_t ns s at (clear_t (length ns) t)) (first_typed ps)
    unfolding first_ports_t ports_in first_of
    outputs-typed at ps q t e l =
        let a = counted-value (port_in ns s) s at ps q e in
        let k = cleared-length (length ns) t in
        subst (λ y. TypesAre ns s y (first_typed ps)) (sym (number-to s at (length ps) a.0 (λ n p. each_of (first_port_t s) (port_end ns s) n p (clear_t (length ns) t)) a.1))
        (firsts-typed (length ps) a.0 ps q (clear_t (length ns) t) (λ m. none) a.2 (omega arith) (none-typed t l))

    -- the types of an old name, by its index
    module _ (env outs : List ℕ) (ports outputs : List Port) (E : TypesAre ns s env (last_typed ports)) (O : TypesAre ns s outs (first_typed outputs)) where
      pub typed-old : (x : ℕ) → x < length ns → Coded ns s (typed_t env outs (length ns) x) (typed ports outputs (name_at ns x))
      unfolding typed_t typed out_t TypesAre
      typed-old x h = rw (lt-ltb x (length ns) h) (coded-or ns s (get_or env x 0) (get_or outs x 0) (last_typed ports (name_at ns x)) (first_typed outputs (name_at ns x)) (E x h) (O x h))

      value-or : (a b : Option Ty) → first_of a (first_of b (some t_bool)) ≡ some (or_bool (first_of a b))
      unfolding first_of or_bool
      value-or none none = refl
      value-or none (some t) = refl
      value-or (some t) b = refl

      pub value-old : (x : ℕ) → x < length ns → Coded ns s (value_type_t env outs (length ns) x) (some (value_type ports outputs (name_at ns x)))
      unfolding value_type_t value_type out_t TypesAre
      value-old x h =
          rw (lt-ltb x (length ns) h)
          (subst (Coded ns s (first_some (get_or outs x 0) (first_some (get_or env x 0) 1))) (value-or (first_typed outputs (name_at ns x)) (last_typed ports (name_at ns x)))
          (coded-or ns s (get_or outs x 0) (first_some (get_or env x 0) 1) (first_typed outputs (name_at ns x)) (first_of (last_typed ports (name_at ns x)) (some t_bool)) (O x h)
          (coded-or ns s (get_or env x 0) 1 (last_typed ports (name_at ns x)) (some t_bool) (E x h) (coded-bool ns s))))
