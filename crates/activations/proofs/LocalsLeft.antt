-- What a pass over locals leaves, port by port: what was written, how many there were, and the types that the next activation sees.
use Prim.Native.Nat.{ℕ, zero, suc, ◌+◌, ◌%◌, ◌<◌, ◌≤◌}
use native.Mathlib.Omega.{arith}
use native.Mathlib.Nat.{mod-add-mod, mod-eq_of_lt, mod-lt, mod-mod}
use mathlib.Core.List.{List, [], ◌∷◌, ◌++◌, append_assoc, append-nil}
use mathlib.Core.Bool.{Bool, true, cond}
use mathlib.Core.Logic.{⊎_elim}
use mathlib.Core.Option.{Option, some}
use mathlib.Core.Path.{◌≡◌, refl, sym, ap, subst, ◌∙◌}
use lib.ListN.{length, get_or, length-append}
use borrow.Author.Tests.{le-ltb, lt-ltb}
use Rattle.wire.specs.Lists.{All, Bytes}
use Rattle.wire.specs.Writer.{State, puts}
use Rattle.wire.proofs.Writers.{lt-or-le}
use Rattle.pack_rules.specs.Names.{Name, eq_name}
use Rattle.pack_rules.specs.Syntax.{Expr, Port, Ty, e_var, t_bool}
use Rattle.pack_rules.specs.Forms.{name_at}
use Rattle.pack_rules.specs.Legal.{Fresh, LegalName, place}
use Rattle.pack_rules.specs.Read.{type_in}
use Rattle.pack_rules.specs.Write.{Item, each, port_items, ty_items}
use Rattle.pack.specs.Table.{tabled}
use Rattle.pack.specs.Intern.{put_item, put_name, render}
use Rattle.pack.proofs.Interns.{built-is, render-append}
use Rattle.pack.proofs.Tables.{eq_name-false, eq_name-true, name-at-place, place-at-name}
use Rattle.machines.specs.Layout.{slice_of}
use Rattle.machines.specs.ResolvedIn.{end_of}
use Rattle.machines.proofs.LocalLaws.{each_append}
use Rattle.activations.specs.declared.made_names.Var.{Var}
use Rattle.activations.specs.declared.made_names.Var.TheVariants as vr
use Rattle.activation_rules.specs.MadeNames.{act_prefix, clock_var, flag_var, made_name, none_var}
use Rattle.activations.specs.Vars.{branch_var}
use Rattle.activation_rules.specs.Defines.{as_locals, eqn, first_left}
use Rattle.activation_rules.specs.Flags.{flag_equations}
use Rattle.activation_rules.specs.Clocks.{guard_equations}
use Rattle.activations.specs.ByNumber.{bool_port}
use Rattle.activation_rules.specs.Types.{last_typed}
use Rattle.activations.specs.Lookups.{MadeIs, is_made, place_built, place_in}
use Rattle.activations.specs.TypesAt.{Coded, TypesAre, type_bytes}
use Rattle.activations.specs.LocalsAt.{Left, branch_local_t, built, clock_locals_t, flag_locals_t, leave_t, local_t, more_t, named_t}
use Rattle.activations.proofs.TypesKnown.{coded-bool, coded-read, type-inside, type-written}
use Rattle.activations.proofs.PackInfoLaws.{place-tabled}
use Rattle.activations.proofs.RowsNoted.{put-length, put_other, put_same}
use Rattle.activations.proofs.TypeHoldersKnown.{last_snoc}
use Rattle.activations.proofs.NameIdsKnown.{built-place, by_bool}

-- a made name of a branch begins as made ones do
flag-made : (a : Name) (k : ℕ) → is_made (flag_var a k) ≡ true
unfolding is_made slice_of flag_var made_name act_prefix eq_name
flag-made a k = refl

none_made : (a : Name) (k : ℕ) → is_made (none_var a k) ≡ true
unfolding is_made slice_of none_var made_name act_prefix eq_name
none_made a k = refl

clock-made : (a : Name) (k : ℕ) → is_made (clock_var a k) ≡ true
unfolding is_made slice_of clock_var flag_var made_name act_prefix eq_name
clock-made a zero = refl
clock-made a (suc k) = refl

-- a pack that was read
module _ (ns : List Name) (s : List ℕ) where
  -- what the locals ls make of a pass's state
  pub record Leaves (ls : List Port) (z u : Left) : Type 0 where
    pub written : u.state ≡ render (tabled ns) (each port_items ls) z.state
    pub counted : u.count % 65536 ≡ (z.count + length ls) % 65536
    pub low : z.count < 65536 → u.count < 65536
    pub room : length u.later ≡ length z.later
    pub types : (base : List Port) → length ns ≤ length z.later → TypesAre ns s z.later (last_typed base) → TypesAre ns s u.later (last_typed (base ++ ls))

  -- THE LAW: no local, and some after others
  pub leaves_none : (z : Left) → Leaves [] z z
  unfolding each render
  leaves_none z = record {
    written = refl;
    counted = ap (λ (n : ℕ). n % 65536) (let e : z.count ≡ z.count + 0 = omega arith in e);
    low = λ l. l;
    room = refl;
    types = λ base l h. subst (λ (ps : List Port). TypesAre ns s z.later (last_typed ps)) (sym (append-nil base)) h;
  }

  count-more : (a b c l m k : ℕ) → b % 65536 ≡ (a + l) % 65536 → c % 65536 ≡ (b + m) % 65536 → k ≡ l + m → c % 65536 ≡ (a + k) % 65536
  count-more a b c l m k e f g =
      f ∙ sym (mod-add-mod b 65536 m) ∙ ap (λ (n : ℕ). (n + m) % 65536) e ∙ mod-add-mod (a + l) 65536 m
      ∙ ap (λ (n : ℕ). n % 65536) (let d : a + l + m ≡ a + k = omega arith in d)

  pub leaves-more : (ls ms : List Port) (z u w : Left) → Leaves ls z u → Leaves ms u w → Leaves (ls ++ ms) z w
  leaves-more ls ms z u w a b = record {
    written = b.written ∙ ap (render (tabled ns) (each port_items ms)) a.written ∙ sym (render-append (tabled ns) (each port_items ls) (each port_items ms) z.state) ∙ ap (λ (is : List Item). render (tabled ns) is z.state) (sym (each_append port_items ls ms));
    counted = count-more z.count u.count w.count (length ls) (length ms) (length (ls ++ ms)) a.counted b.counted (length-append ls ms);
    low = λ l. b.low (a.low l);
    room = b.room ∙ a.room;
    types = λ base l h. subst (λ (ps : List Port). TypesAre ns s w.later (last_typed ps)) (append_assoc base ls ms) (b.types (base ++ ls) (let e = a.room in omega arith) (a.types base l h));
  }

  -- the count, by 16 bits
  pub leaves-count : (ls : List Port) (z u : Left) → Leaves ls z u → z.count < 65536 → u.count ≡ (z.count + length ls) % 65536
  leaves-count ls z u h l = sym (mod-eq_of_lt (h.low l)) ∙ h.counted

  -- one local: its name is a made one, and its type is the code's
  module _ (fresh : Fresh [] ns) (legal : All LegalName ns) (few : length ns < 65536) (by : Bytes s) (short : length s ≤ 65536) (made : Bool) (M : MadeIs ns made) where
    coded-low : (c : ℕ) (t : Ty) → Coded ns s c (some t) → c < 65536
    coded-low c t h = ⊎_elim (λ l. omega arith) (λ l. let k = type-inside ns fresh few s by c t (end_of (type_in ns s c)) (coded-read ns s c t h l) in omega arith) (lt-or-le c 2)

    local-place : (x : Name) → is_made x ≡ true → place_built (place_in (tabled ns)) (length ns) made (built x) ≡ place ns x
    unfolding built
    local-place x m = ap (λ (t : Name → ℕ). place_built t (length ns) made (built x)) (place-tabled ns) ∙ built-place ns legal made M x m

    leave-other : (i c : ℕ) (t : List ℕ) (y : ℕ) → (i ≡ y → ⊥) → get_or (leave_t (length ns) i c t) y 0 ≡ get_or t y 0
    unfolding leave_t
    leave-other i c t y n = ⊎_elim
        (λ l. rw (lt-ltb i (length ns) l) (put_other t i c y (λ e. n (sym e))))
        (λ l. rw (le-ltb i (length ns) l) refl)
        (lt-or-le i (length ns))

    leave_same : (c : ℕ) (t : List ℕ) (y : ℕ) → y < length ns → length ns ≤ length t → c < 65536 → get_or (leave_t (length ns) y c t) y 0 ≡ c
    unfolding leave_t
    leave_same c t y l m k = rw (lt-ltb y (length ns) l) (put_same t y c (omega arith) k)

    leave-length : (i c : ℕ) (t : List ℕ) → length (leave_t (length ns) i c t) ≡ length t
    unfolding leave_t
    leave-length i c t = ⊎_elim
        (λ l. rw (lt-ltb i (length ns) l) (put-length t i c))
        (λ l. rw (le-ltb i (length ns) l) refl)
        (lt-or-le i (length ns))

    leave-typed : (p : Port) (c : ℕ) (t : List ℕ) (base : List Port) → Coded ns s c (some p.ty) → length ns ≤ length t → TypesAre ns s t (last_typed base) → TypesAre ns s (leave_t (length ns) (place ns p.name) c t) (last_typed (base ++ (p ∷ [])))
    unfolding TypesAre
    leave-typed p c t base h l T y k =
        subst (Coded ns s (get_or (leave_t (length ns) (place ns p.name) c t) y 0)) (sym (last_snoc base p (name_at ns y)))
        (by_bool (λ (b : Bool). (eq_name p.name (name_at ns y) ≡ b) → Coded ns s (get_or (leave_t (length ns) (place ns p.name) c t) y 0) (cond b (some p.ty) (last_typed base (name_at ns y)))) (eq_name p.name (name_at ns y))
        (λ z e.
        let i : place ns p.name ≡ y = ap (place ns) (eq_name-true p.name (name_at ns y) e) ∙ place-at-name ns y fresh k in
        subst (λ (w : ℕ). Coded ns s w (some p.ty)) (sym (ap (λ (j : ℕ). get_or (leave_t (length ns) j c t) y 0) i ∙ leave_same c t y k l (coded-low c p.ty h))) h)
        (λ z e.
        subst (λ (w : ℕ). Coded ns s w (last_typed base (name_at ns y))) (sym (leave-other (place ns p.name) c t y (λ i. eq_name-false p.name (name_at ns y) e (sym (name-at-place ns p.name (omega arith)) ∙ ap (name_at ns) i)))) (T y k))
        refl)

    named-written : (p : Port) (c : ℕ) (z : State) → Coded ns s c (some p.ty) → puts (type_bytes ns s c) (put_name (tabled ns) p.name z) ≡ render (tabled ns) (each port_items (p ∷ [])) z
    unfolding each port_items render put_item
    named-written p c z h = type-written ns fresh few s by legal c p.ty h (put_name (tabled ns) p.name z) ∙ ap (λ (is : List Item). render (tabled ns) is (put_name (tabled ns) p.name z)) (sym (append-nil (ty_items p.ty)))

    state-is : (p : Port) (c : ℕ) (z : Left) → Coded ns s c (some p.ty) → (named_t ns s (tabled ns) made p.name c z).state ≡ render (tabled ns) (each port_items (p ∷ [])) z.state
    unfolding named_t local_t built
    state-is p c z h = ap (puts (type_bytes ns s c)) (built-is (tabled ns) p.name 0 [] z.state) ∙ named-written p c z.state h

    later-is : (x : Name) (c : ℕ) (z : Left) → is_made x ≡ true → (named_t ns s (tabled ns) made x c z).later ≡ leave_t (length ns) (place ns x) c z.later
    unfolding named_t local_t
    later-is x c z m = ap (λ (i : ℕ). leave_t (length ns) i c z.later) (local-place x m)

    count-is : (x : Name) (c : ℕ) (z : Left) → (named_t ns s (tabled ns) made x c z).count ≡ (z.count + 1) % 65536
    unfolding named_t local_t more_t
    count-is x c z = mod-add-mod z.count 65536 1

    -- THE LAW: one local
    pub leaves-one : (x : Name) (c : ℕ) (p : Port) (z : Left) → x ≡ p.name → is_made p.name ≡ true → Coded ns s c (some p.ty) → Leaves (p ∷ []) z (named_t ns s (tabled ns) made x c z)
    leaves-one x c p z e m h =
        subst (λ (y : Name). Leaves (p ∷ []) z (named_t ns s (tabled ns) made y c z)) (sym e)
        (record {
          written = state-is p c z h;
          counted = ap (λ (n : ℕ). n % 65536) (count-is p.name c z) ∙ mod-mod (z.count + 1) 65536;
          low = λ l. subst (λ (n : ℕ). n < 65536) (sym (count-is p.name c z)) (mod-lt (z.count + 1) (omega arith));
          room = ap length (later-is p.name c z m) ∙ leave-length (place ns p.name) c z.later;
          types = λ base l T. subst (λ (t : List ℕ). TypesAre ns s t (last_typed (base ++ (p ∷ [])))) (sym (later-is p.name c z m)) (leave-typed p c z.later base h l T);
        })

    -- the flags and clocks of branches are Booleans
    branch-left : (a : Name) (v : Var) (k : ℕ) (z : Left) → is_made (branch_var v a k) ≡ true → Leaves (bool_port (branch_var v a k) ∷ []) z (branch_local_t ns s (tabled ns) made a v k z)
    unfolding branch_local_t bool_port
    branch-left a v k z m = leaves-one (branch_var v a k) 1 (bool_port (branch_var v a k)) z refl m (coded-bool ns s)

    flag-left : (a : Name) (k : ℕ) (z : Left) → Leaves (bool_port (flag_var a k) ∷ []) z (branch_local_t ns s (tabled ns) made a vr.Flag k z)
    unfolding branch_var
    flag-left a k z = branch-left a vr.Flag k z (flag-made a k)

    untaken-left : (a : Name) (k : ℕ) (z : Left) → Leaves (bool_port (none_var a k) ∷ []) z (branch_local_t ns s (tabled ns) made a vr.Untaken k z)
    unfolding branch_var
    untaken-left a k z = branch-left a vr.Untaken k z (none_made a k)

    clock-left : (a : Name) (k : ℕ) (z : Left) → Leaves (bool_port (clock_var a k) ∷ []) z (branch_local_t ns s (tabled ns) made a vr.Clock k z)
    unfolding branch_var
    clock-left a k z = branch-left a vr.Clock k z (clock-made a k)

    -- THE LAW: the locals of flags
    pub flags-left : (a : Name) (prior : Option Expr) (k : ℕ) (cs : List Expr) (z : Left) → Leaves (as_locals t_bool (flag_equations a prior k cs)) z (flag_locals_t ns s (tabled ns) made a k (length cs) z)
    unfolding flag_equations as_locals first_left eqn flag_locals_t bool_port
    flags-left a prior k [] z = leaves_none z
    flags-left a prior k (c ∷ []) z = flag-left a k z
    flags-left a prior k (c ∷ d ∷ cs) z =
        let u = branch_local_t ns s (tabled ns) made a vr.Flag k z in
        let w = branch_local_t ns s (tabled ns) made a vr.Untaken k u in
        leaves-more (bool_port (flag_var a k) ∷ bool_port (none_var a k) ∷ []) (as_locals t_bool (flag_equations a (some (e_var (none_var a k))) (suc k) (d ∷ cs))) z w _
        (leaves-more (bool_port (flag_var a k) ∷ []) (bool_port (none_var a k) ∷ []) z u w (flag-left a k z) (untaken-left a k u))
        (flags-left a (some (e_var (none_var a k))) (suc k) (d ∷ cs) w)

    -- THE LAW: those of clocks
    pub clocks-left : (a : Name) (k : ℕ) (cs : List Expr) (z : Left) → Leaves (as_locals t_bool (guard_equations a k cs)) z (clock_locals_t ns s (tabled ns) made a k (length cs) z)
    unfolding guard_equations as_locals first_left eqn clock_locals_t bool_port
    clocks-left a k [] z = leaves_none z
    clocks-left a k (c ∷ cs) z =
        let u = branch_local_t ns s (tabled ns) made a vr.Clock k z in
        leaves-more (bool_port (clock_var a k) ∷ []) (as_locals t_bool (guard_equations a (suc k) cs)) z u _ (clock-left a k z) (clocks-left a (suc k) cs u)
