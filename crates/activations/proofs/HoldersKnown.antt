-- The holders of a pack that was read: what the code writes of all rows is their equations.
use Prim.Native.Nat.{ℕ, zero, suc, ◌+◌, ◌<◌}
use native.Mathlib.Omega.{arith}
use mathlib.Core.List.{List, [], ◌∷◌, ◌++◌, append_assoc}
use mathlib.Core.Bool.{Bool, false, cond, ◌||◌}
use mathlib.Core.Option.{Option, none, some}
use mathlib.Core.Path.{◌≡◌, refl, sym, ap, subst, ◌∙◌}
use lib.ListN.{length, get_or}
use Rattle.wire.specs.Answer.{counted, value}
use Rattle.wire.specs.Lists.{All, Bytes}
use Rattle.wire.specs.Writer.{State}
use Rattle.pack_rules.specs.Names.{Name, eq_name, member}
use Rattle.pack_rules.specs.Report.{first_of}
use Rattle.pack_rules.specs.Syntax.{Enum, Equation, Expr, Port, Ty}
use Rattle.pack_rules.specs.Forms.{name_at}
use Rattle.pack_rules.specs.Legal.{Fresh, LegalName}
use Rattle.pack_rules.specs.Read.{enum_in}
use Rattle.pack_rules.specs.Write.{each, equation_items}
use Rattle.pack.specs.Table.{tabled}
use Rattle.pack.specs.Intern.{render}
use Rattle.pack.proofs.Interns.{render-append}
use Rattle.pack.proofs.Tables.{eq_name-false, eq_name-ne, eq_name-refl, eq_name-true}
use Rattle.machines.specs.AddedAt.{each_t}
use Rattle.machines.specs.EmitAt.{pack_name}
use Rattle.activations.specs.declared.pack_info.PackInfo.{PackInfo}
use Rattle.activation_rules.specs.MadeNames.{last_var}
use Rattle.activation_rules.specs.Defaults.{default_of}
use Rattle.activation_rules.specs.Types.{last_typed, port_names, typed}
use Rattle.activation_rules.specs.Sought.{Sought}
use Rattle.activation_rules.specs.Holders.{Holding, cons_holder, holder_equation, holder_port, holders_made, make_holders, refused, with_init, with_type}
use Rattle.activations.specs.TypesAt.{Coded}
use Rattle.activations.specs.FirstVariantsAt.{FirstsAre}
use Rattle.activations.specs.LastsAt.{RowIs, RowsFrom, word_t}
use Rattle.activations.specs.TypeHoldersAt.{Hold}
use Rattle.activations.specs.HoldersTyped.{HeldAs, KnownAt, as_held}
use Rattle.activations.specs.HoldersAt.{row_items}
use Rattle.activations.proofs.IdLaws.{last-same}
use Rattle.activations.proofs.TypesKnown.{last-append}
use Rattle.activations.proofs.NameIdsKnown.{by_bool}
use Rattle.activations.proofs.HolderWritten.{row_written}
use Rattle.activations.proofs.FoundOnce.{VarsOnce, vars_of}
use Rattle.activations.proofs.RowsKnown.{is_none, last-told}

-- the ports and equations of what was found, one by one: a type, and what it starts from
pub data Holds (es : List Enum) (a : Name) : List Sought → List Port → List Equation → Type 0 where
  no_holder : Holds es a [] [] []
  holder : {x : Sought} {xs : List Sought} {p : Port} {ps : List Port} {g : Equation} {gs : List Equation} (t : Ty) (i : Expr) → p ≡ holder_port a x.var t → g ≡ holder_equation a x.var i → first_of x.init (default_of es t) ≡ some i → Holds es a xs ps gs → Holds es a (x ∷ xs) (p ∷ ps) (g ∷ gs)

-- of what is made of holders, where none is refused
unfoldable HoldsAs : List Enum → Name → List Sought → Holding → Type 0
HoldsAs es a xs (refused r) = Unit {0}
HoldsAs es a xs (holders_made ps gs) = Holds es a xs ps gs

module _ (es : List Enum) (a : Name) (outs : List Port) where
  also-parts : (x : Sought) (xs : List Sought) (t : Ty) (i : Expr) → first_of x.init (default_of es t) ≡ some i → (H : Holding) → HoldsAs es a xs H → HoldsAs es a (x ∷ xs) (cons_holder (holder_port a x.var t) (holder_equation a x.var i) H)
  unfolding HoldsAs cons_holder
  also-parts x xs t i e (refused r) h = tt
  also-parts x xs t i e (holders_made ps gs) h = holder t i refl refl e h

  init-parts : (x : Sought) (xs : List Sought) (t : Ty) (o : Option Expr) → first_of x.init (default_of es t) ≡ o → (after : Port → Holding) → ((p : Port) → HoldsAs es a xs (after p)) → HoldsAs es a (x ∷ xs) (with_init a x.var t o after)
  unfolding HoldsAs with_init
  init-parts x xs t none e after h = tt
  init-parts x xs t (some i) e after h = also-parts x xs t i e (after (holder_port a x.var t)) (h (holder_port a x.var t))

  type-parts : (x : Sought) (xs : List Sought) (o : Option Ty) (after : Port → Holding) → ((p : Port) → HoldsAs es a xs (after p)) → HoldsAs es a (x ∷ xs) (with_type es a x o after)
  unfolding HoldsAs with_type
  type-parts x xs none after h = tt
  type-parts x xs (some t) after h = init-parts x xs t (first_of x.init (default_of es t)) refl after h

  hold-parts : (xs : List Sought) (env : List Port) → HoldsAs es a xs (make_holders es a env outs xs)
  unfolding HoldsAs make_holders
  hold-parts [] env = no_holder
  hold-parts (x ∷ xs) env = type-parts x xs (typed env outs x.var) (λ p. make_holders es a (env ++ (p ∷ [])) outs xs) (λ p. hold-parts xs (env ++ (p ∷ [])))

  -- THE LAW: the holders that are made, one by one
  pub hold_holds : (xs : List Sought) (env ps : List Port) (gs : List Equation) → make_holders es a env outs xs ≡ holders_made ps gs → Holds es a xs ps gs
  unfolding HoldsAs
  hold_holds xs env ps gs e = subst (HoldsAs es a xs) e (hold-parts xs env)

-- THE LAW: where no holder is refused, all are known by the tables
pub held-known : (ns : List Name) (s : List ℕ) (a : Name) (z : Hold) (n : ℕ) (base : List Port) (xs : List Sought) (H : Holding) (ps : List Port) (gs : List Equation) → HeldAs ns s a z n base xs H → H ≡ holders_made ps gs
    → (z.kind ≡ 0) × KnownAt ns s a z.env z.held n (base ++ ps) × RowsFrom ns s z.held 0 xs
held-known ns s a z n base xs H ps gs h e = go (subst (HeldAs ns s a z n base xs) e h)
  where
    go : HeldAs ns s a z n base xs (holders_made ps gs) → (z.kind ≡ 0) × KnownAt ns s a z.env z.held n (base ++ ps) × RowsFrom ns s z.held 0 xs
    go (as_held k K r) = (k, K, r)

-- holders have one name where their variables have
last-tells : (a v w : Name) → eq_name (last_var a v) (last_var a w) ≡ eq_name v w
last-tells a v w = by_bool (λ (b : Bool). (eq_name v w ≡ b) → eq_name (last_var a v) (last_var a w) ≡ b) (eq_name v w)
    (λ e d. ap (λ (y : Name). eq_name (last_var a v) (last_var a y)) (sym (eq_name-true v w d)) ∙ eq_name-refl (last_var a v))
    (λ e d. eq_name-ne (last_var a v) (last_var a w) (λ g. eq_name-false v w d (last-same a v w g)))
    refl

-- THE LAW: a holder's name is among the ports where its variable was found
pub holders-told : (es : List Enum) (a v : Name) (xs : List Sought) (ps : List Port) (gs : List Equation) → Holds es a xs ps gs → member (last_var a v) (port_names ps) ≡ member v (vars_of xs)
unfolding port_names vars_of member holder_port
holders-told es a v [] [] [] no_holder = refl
holders-told es a v (x ∷ xs) (p ∷ ps) (g ∷ gs) (holder t i e f d h) =
    let n : p.name ≡ last_var a x.var = ap (λ (y : Port). y.name) e in
    let m : eq_name (last_var a v) p.name ≡ eq_name v x.var = ap (eq_name (last_var a v)) n ∙ last-tells a v x.var in
    let r = holders-told es a v xs ps gs h in
    λ j. m j || r j
holders-told es a v [] [] (g ∷ gs) x3 = elim x3 [ ]
holders-told es a v [] (p ∷ ps) gs x3 = elim x3 [ ]
holders-told es a v (x ∷ xs) [] gs x4 = elim x4 [ ]
holders-told es a v (x ∷ xs) (p ∷ ps) [] x6 = elim x6 [ ]

-- the type of a port that none of its name follows
pub last-here : (pre : List Port) (p : Port) (ps : List Port) → member p.name (port_names ps) ≡ false → last_typed (pre ++ (p ∷ ps)) p.name ≡ some p.ty
unfolding last_typed first_of
last-here pre p ps h =
    last-append pre (p ∷ ps) p.name
    ∙ ap (λ (o : Option Ty). first_of (first_of o (cond (eq_name p.name p.name) (some p.ty) none)) (last_typed pre p.name)) (is_none (last_typed ps p.name) (last-told ps p.name ∙ h))
    ∙ ap (λ (b : Bool). first_of (first_of none (cond b (some p.ty) none)) (last_typed pre p.name)) (eq_name-refl p.name)

-- a pack's names and bytes, an activation's name; the types of variables, the rows; the ports that these are of
module _ (ns : List Name) (s : List ℕ) (a : Name) (env table : List ℕ) (ports : List Port) where
  -- the types of the rows below a number
  abbrev pub RowTypes : ℕ → Type 0
  RowTypes k = (j : ℕ) → j < k → Coded ns s (get_or env (word_t table j 2) 0) (last_typed ports (last_var a (name_at ns (word_t table j 0))))

  pub known-types : (k : ℕ) → KnownAt ns s a env table k ports → RowTypes k
  known-types k K j l = subst (λ (i : ℕ). Coded ns s (get_or env i 0) (last_typed ports (last_var a (name_at ns (word_t table j 0))))) (sym (K.numbers j l)) (K.holders j l)

  -- the type of a row is its own holder's
  pub row-coded : (h : ℕ) (x : Sought) (p : Port) (ps pre : List Port) (t : Ty) → RowIs ns s table h x → p ≡ holder_port a x.var t → member (last_var a x.var) (port_names ps) ≡ false → pre ++ (p ∷ ps) ≡ ports
      → Coded ns s (get_or env (word_t table h 2) 0) (last_typed ports (last_var a (name_at ns (word_t table h 0)))) → Coded ns s (get_or env (word_t table h 2) 0) (some t)
  unfolding RowIs holder_port
  row-coded h x p ps pre t r e m g c =
      let n : p.name ≡ last_var a x.var = ap (λ (y : Port). y.name) e in
      let w : last_typed ports (last_var a (name_at ns (word_t table h 0))) ≡ some t =
      ap (λ (y : Name). last_typed ports (last_var a y)) r.1
      ∙ (λ j. last_typed (sym g j) (sym n j))
      ∙ last-here pre p ps (ap (λ (y : Name). member y (port_names ps)) n ∙ m)
      ∙ ap (λ (y : Port). some y.ty) e in
      subst (Coded ns s (get_or env (word_t table h 2) 0)) w c

module _ (ns : List Name) (fresh : Fresh [] ns) (legal : All LegalName ns) (few : length ns < 65536) (s : List ℕ) (by : Bytes s) (b : PackInfo) (enums : List Enum) (q : ℕ) (E : counted (enum_in ns s) s b.enums ≡ value enums q)
    (offsets : List ℕ) (F : FirstsAre ns s b.enums offsets) (placed : (i : ℕ) → i < length ns → pack_name s offsets i ≡ name_at ns i) (a : Name) (env table : List ℕ) (ports : List Port) where
  rows_written : (n h : ℕ) (xs : List Sought) (ps : List Port) (gs : List Equation) (pre : List Port) (z : State) → n ≡ length xs → RowsFrom ns s table h xs → Holds enums a xs ps gs → VarsOnce xs → pre ++ ps ≡ ports → RowTypes ns s a env table ports (h + n)
      → render (tabled ns) (each_t (row_items ns s b offsets a env table) n h) z ≡ render (tabled ns) (each equation_items gs) z
  unfolding RowsFrom VarsOnce each_t each render
  rows_written zero h [] [] [] pre z e r no_holder o g c = refl
  rows_written (suc n) h [] [] [] pre z e r no_holder o g c = absurd (omega arith)
  rows_written zero h (x ∷ xs) (p ∷ ps) (f ∷ gs) pre z e r (holder t i u v w d) o g c = absurd (omega arith)
  rows_written (suc n) h (x ∷ xs) (p ∷ ps) (f ∷ gs) pre z e r (holder t i u v w d) o g c =
      let m : member (last_var a x.var) (port_names ps) ≡ false = holders-told enums a x.var xs ps gs d ∙ o.0 in
      let k = row-coded ns s a env table ports h x p ps pre t r.0 u m g (c h (omega arith)) in
      render-append (tabled ns) (row_items ns s b offsets a env table h) (each_t (row_items ns s b offsets a env table) n (suc h)) z
      ∙ ap (render (tabled ns) (each_t (row_items ns s b offsets a env table) n (suc h))) (row_written ns fresh legal few s by b enums q E offsets F placed a env table h x t i r.0 k w z ∙ ap (λ (y : Equation). render (tabled ns) (equation_items y) z) (sym v))
      ∙ rows_written n (suc h) xs ps gs (pre ++ (p ∷ [])) (render (tabled ns) (equation_items f) z) (omega arith) r.1 d o.1 (append_assoc pre (p ∷ []) ps ∙ g) (λ j l. c j (omega arith))
      ∙ sym (render-append (tabled ns) (equation_items f) (each equation_items gs) z)
  rows_written zero h [] [] (f ∷ gs) pre z e r x24 o g c = elim x24 [ ]
  rows_written zero h [] (p ∷ ps) gs pre z e r x19 o g c = elim x19 [ ]
  rows_written zero h (x ∷ xs) [] gs pre z e r x15 o g c = elim x15 [ ]
  rows_written zero h (x ∷ xs) (p ∷ ps) [] pre z e r x17 o g c = elim x17 [ ]
  rows_written (suc n) h [] [] (f ∷ gs) pre z e r x10 o g c = elim x10 [ ]
  rows_written (suc n) h [] (p ∷ ps) gs pre z e r x10 o g c = elim x10 [ ]
  rows_written (suc n) h (x ∷ xs) [] gs pre z e r x11 o g c = elim x11 [ ]
  rows_written (suc n) h (x ∷ xs) (p ∷ ps) [] pre z e r x13 o g c = elim x13 [ ]

-- THE LINK: the equations of all holders
pub holders-written : (ns : List Name) → Fresh [] ns → All LegalName ns → length ns < 65536 → (s : List ℕ) → Bytes s → (b : PackInfo) (enums : List Enum) (q : ℕ) → counted (enum_in ns s) s b.enums ≡ value enums q
    → (offsets : List ℕ) → FirstsAre ns s b.enums offsets → ((i : ℕ) → i < length ns → pack_name s offsets i ≡ name_at ns i) → (a : Name) (env table : List ℕ) (n : ℕ) (xs : List Sought) (base outputs ps : List Port) (gs : List Equation)
    → n ≡ length xs → VarsOnce xs → RowsFrom ns s table 0 xs → make_holders enums a base outputs xs ≡ holders_made ps gs → KnownAt ns s a env table n (base ++ ps)
    → (z : State) → render (tabled ns) (each_t (row_items ns s b offsets a env table) n 0) z ≡ render (tabled ns) (each equation_items gs) z
holders-written ns fresh legal few s by b enums q E offsets F placed a env table n xs base outputs ps gs e o r h K z =
    rows_written ns fresh legal few s by b enums q E offsets F placed a env table (base ++ ps) n 0 xs ps gs base z e r (hold_holds enums a outputs xs base ps gs h) o refl
    (λ j l. known-types ns s a env table (base ++ ps) n K j (omega arith))
