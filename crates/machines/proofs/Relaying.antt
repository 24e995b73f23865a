-- A machine that is not refused, laid out again: the equations and enums that are written of it are those of its share.
use Prim.Native.Nat.{ℕ, zero, suc, ◌+◌, ◌<◌}
use native.Mathlib.Nat.{zero-add}
use native.Mathlib.Omega.{arith}
use mathlib.Core.List.{List, [], ◌∷◌, ◌++◌}
use mathlib.Core.Bool.{true, false}
use mathlib.Core.Option.{none}
use mathlib.Core.Path.{◌≡◌, sym, ap, subst, ◌∙◌}
use lib.ListN.{length, get_or}
use Rattle.wire.specs.Answer.{value}
use Rattle.pack_rules.specs.Names.{Name}
use Rattle.pack_rules.specs.Syntax.{MachineDef}
use Rattle.machine_rules.specs.Resolved.{ResolvedMachine, ResolvedStates, r_cons, r_nil}
use Rattle.pack_rules.specs.Read.{ports_in}
use Rattle.pack_rules.specs.Write.{Item, each, enum_items, equation_items}
use Rattle.pack.specs.Intern.{render}
use Rattle.wire.specs.declared.answer.Number.{Number}
use Rattle.machines.specs.declared.resolve.Resolved.{Resolved}
use Rattle.machines.specs.declared.resolve.Resolved.TheVariants as wk
use Rattle.machine_rules.specs.Resolve.{Walk, as_machine, stop, went}
use Rattle.machines.specs.ResolveAgrees.{Same, fit_s, goes, stops}
use Rattle.machine_rules.specs.Lower.{enums_of, equations_of}
use Rattle.machine_rules.specs.Checks.{refusal_of}
use Rattle.machines.specs.LayoutAt.{Board, fed, layout_machine}
use Rattle.machines.specs.EmitAt.{enums_t, pack_name, regions_t}
use Rattle.machines.specs.ValueAt.{WholeR, port_outputs_t}
use Rattle.machines.specs.VerdictAt.{lay_at}
use Rattle.machines.specs.Sections.{Share, made_enum_items, share_machine}
use Rattle.machines.specs.CheckedReads.{num, number_in}
use Rattle.machines.specs.Tables.{initial_in, outputs_in}
use Rattle.machines.specs.TableMeaning.{Lowered, LoweredAt, PackOf, Shown}
use Rattle.machines.specs.EmitMachineAt.{Long, Writes, enums_at, equations_at}
use Rattle.machines.proofs.Reading.{MachineRead, NumberIs}
use Rattle.machines.proofs.CheckedReadLaws.{number-num}
use Rattle.machines.proofs.MachinesPlaced.{initial-to, outputs-to}
use Rattle.machines.proofs.Resolved.{Ready, machine-walked}
use Rattle.machines.proofs.ResolvedLaidOut.{walked-laid, walked-tree}
use Rattle.machines.proofs.MachineLaidOut.{LaidMachine}
use Rattle.machines.proofs.WholeLaidOut.{regions-whole}
use Rattle.machines.proofs.Accepted.{accepted}
use Rattle.machines.proofs.EnumsEmitted.{enums-machine}
use Rattle.machines.proofs.ChainsEmitted.{Alike}
use Rattle.machines.proofs.MachineEmitted.{machine-equations}
use Rattle.machines.proofs.ShownCounts.{its-machine, its-read, named}

-- items by the index of a share, none past them
unfoldable pub items_at : (Share → List Item) → List Share → ℕ → List Item
items_at g [] i = []
items_at g (x ∷ xs) zero = g x
items_at g (x ∷ xs) (suc i) = items_at g xs i

-- the equations of a share
unfoldable pub made_equation_items : Share → List Item
made_equation_items x = each equation_items (equations_of (share_machine x))

-- machines that are lowered are shown
pub lowered-shown : (ms : List MachineDef) (ns : List Name) (s defs receivers regcounts : List ℕ) (i : ℕ) (xs : List Share) → Lowered ms ns s defs receivers regcounts i xs → Shown ns s defs receivers regcounts i xs
unfolding Lowered Shown
lowered-shown ms ns s defs receivers regcounts i [] h = tt
lowered-shown ms ns s defs receivers regcounts i (x ∷ xs) h = (h.0.shown, lowered-shown ms ns s defs receivers regcounts (suc i) xs h.1)

-- what holds of each machine that is lowered, by the indexes
writes-from : (old : List ℕ) (ms : List MachineDef) (ns : List Name) (s defs receivers regcounts : List ℕ) (f : ℕ → List ℕ → List ℕ → List ℕ → List Item) (g : Share → List Item)
    → ((i : ℕ) (x : Share) → LoweredAt ms ns s defs receivers regcounts i x → Writes old f (get_or defs i 0) (g x))
    → (i : ℕ) (xs : List Share) → Lowered ms ns s defs receivers regcounts i xs → (j : ℕ) → j < length xs → Writes old f (get_or defs (i + j) 0) (items_at g xs j)
unfolding Lowered items_at
writes-from old ms ns s defs receivers regcounts f g w i [] h j l = absurd (omega arith)
writes-from old ms ns s defs receivers regcounts f g w i (x ∷ xs) h zero l =
    let e : i ≡ i + 0 = omega arith in
    subst (λ y. Writes old f (get_or defs y 0) (g x)) e (w i x h.0)
writes-from old ms ns s defs receivers regcounts f g w i (x ∷ xs) h (suc j) l =
    let e : suc i + j ≡ i + suc j = omega arith in
    subst (λ y. Writes old f (get_or defs y 0) (items_at g xs j)) e (writes-from old ms ns s defs receivers regcounts f g w (suc i) xs h.1 j (omega arith))

-- where resolving went through, the walk did
same-went : (ns : List Name) (top : Name) (q : ℕ) (w : Walk ResolvedStates) (v : Resolved) → Same ns top (fit_s 0) q w v → (x : ResolvedStates) (c : ℕ) → w ≡ went x c → (a : ℕ) × (v ≡ wk.Went q c a)
same-went ns top q w v (stops {r} e f) x c g = let i : stop r ≡ went x c = sym e ∙ g in let z : ◌≡◌ {A = ℕ} 0 1 = cc in absurd (omega arith)
same-went ns top q w v (goes {x = y} {c = d} {a} e f h) x c g =
    let i : went y d ≡ went x c = sym e ∙ g in
    let j : d ≡ c = cc in
    (a, f ∙ ap (λ k. wk.Went q k a) j)

-- a machine whose layout stands, with the tables that it is in
module _ (ns : List Name) (s old offsets : List ℕ) (P : PackOf ns s old offsets) (ms : List MachineDef) (to : List ℕ) (r : Ready s ns ms offsets to) where
  -- the machine of a board on which it is laid out
  module _ (x : ResolvedMachine) (b : Board) (l : LaidMachine ns s b x.initial x.states) (fine : refusal_of x ≡ none) where
    no-hole : b.c.hole ≡ false
    unfolding WholeR
    no-hole = let a = accepted x fine in regions-whole ns s b.t b.reg b.qualified (r_cons x.initial true x.states r_nil) l.laid (a.peopled, a.whole, tt)

    equations-board : (at u : ℕ) → ports_in ns s at ≡ value x.outputs u
        → Alike old (regions_t s offsets b.t b.qualified ns b.reg 0 b.c.regions ++ port_outputs_t s b.t b.qualified ns at) (each equation_items (equations_of x))
    equations-board at u e = λ z.
        (λ j. render (P.names j) (regions_t s offsets b.t b.qualified ns b.reg 0 (l.regions no-hole j) ++ port_outputs_t s b.t b.qualified ns at) z)
        ∙ machine-equations ns P.fresh P.legal P.few s P.bytes offsets b.t b.reg b.qualified r.spot x b.c.words b.c.regions at u (l.held no-hole) e fine z
        ∙ ap (λ o. render o (each equation_items (equations_of x)) z) (sym P.names)

    enums-board : enums_t b.t b.qualified b.reg x.name 0 b.c.regions ≡ each enum_items (enums_of x)
    enums-board =
        ap (enums_t b.t b.qualified b.reg x.name 0) (l.regions no-hole)
        ∙ enums-machine ns s b.t b.reg b.qualified x b.c.words b.c.regions (l.held no-hole)

  -- a machine of the tables
  module _ (defs receivers regcounts : List ℕ) (i : ℕ) (x : Share) (h : LoweredAt ms ns s defs receivers regcounts i x) where
    -- what reading it says, and its name's index
    read_as : MachineRead ns s (get_or defs i 0) h.shown.drawing h.shown.end
    read_as = its-read ns s old offsets P defs receivers regcounts i x h.shown

    called : NumberIs ns s (get_or defs i 0) h.shown.drawing.name read_as.to-owner
    called = named ns s old offsets P (get_or defs i 0) h.shown.drawing h.shown.end read_as

    -- the layout is that of its tree
    laid-share : (t reg qualified : List ℕ) → Long t reg qualified → LaidMachine ns s (layout_machine ns s offsets to read_as.to-initial t reg qualified) h.shown.drawing.initial h.shown.states
    laid-share t reg qualified g =
        let d = h.shown.drawing in
        let w = same-went ns d.name h.shown.end _ _ (machine-walked s ns ms offsets to r (get_or defs i 0) d h.shown.end read_as called.i called.small called.named) h.shown.states h.count h.resolves in
        let tree = walked-tree s ns ms offsets to r P.bytes (get_or defs i 0) d h.shown.end read_as called.i called.small called.named h.shown.end h.count w.0 w.1 in
        let k : went tree.states h.count ≡ went h.shown.states h.count = sym tree.resolves ∙ h.resolves in
        let j : tree.states ≡ h.shown.states = cc in
        subst (λ y. LaidMachine ns s (layout_machine ns s offsets to read_as.to-initial t reg qualified) d.initial y) j
        (walked-laid s ns ms offsets to r P.bytes (get_or defs i 0) d h.shown.end read_as called.i called.small called.named h.shown.end h.count w.0 w.1 t reg qualified g.words g.regions g.letters g.few_words g.few_regions g.few_letters)

    number_at : number_in s (get_or defs i 0) ≡ num called.i read_as.to-owner
    number_at = number-num s (get_or defs i 0) called.i read_as.to-owner called.is

    laid-at : (t reg qualified : List ℕ) → lay_at ns s offsets to (get_or defs i 0) t reg qualified ≡ layout_machine ns s offsets to read_as.to-initial t reg qualified
    unfolding lay_at
    laid-at t reg qualified =
        ap (λ (y : Number). layout_machine ns s offsets to (initial_in ns s y.next) t reg qualified) number_at
        ∙ ap (λ y. layout_machine ns s offsets to y t reg qualified) (initial-to ns s (get_or defs i 0) h.shown.drawing h.shown.end read_as)

    -- THE LAW: its equations
    pub share-equations : Writes old (equations_at ns s offsets to) (get_or defs i 0) (each equation_items (equations_of (share_machine x)))
    unfolding Writes equations_at fed as_machine
    share-equations t reg qualified g z =
        let b = layout_machine ns s offsets to read_as.to-initial t reg qualified in
        let f : Board → ℕ → List Item = λ b o. regions_t s offsets b.t b.qualified ns b.reg 0 b.c.regions ++ port_outputs_t s b.t b.qualified ns o in
        let o : outputs_in ns s (number_in s (get_or defs i 0)).next ≡ read_as.to-outputs = ap (λ (y : Number). outputs_in ns s y.next) number_at ∙ outputs-to ns s (get_or defs i 0) h.shown.drawing h.shown.end read_as in
        (λ j. render old (f (laid-at t reg qualified j) (o j)) z)
        ∙ equations-board (as_machine h.shown.drawing h.shown.states) b (laid-share t reg qualified g) h.accepted read_as.to-outputs read_as.to-locals read_as.outputs z
        ∙ ap (λ y. render old (each equation_items (equations_of y)) z) (sym (its-machine ns s old offsets P defs receivers regcounts i x h.shown))

    -- THE LAW: its enums
    pub share-enums : Writes old (enums_at ns s offsets to) (get_or defs i 0) (each enum_items (enums_of (share_machine x)))
    unfolding Writes enums_at fed as_machine
    share-enums t reg qualified g z =
        let b = layout_machine ns s offsets to read_as.to-initial t reg qualified in
        let f : Board → Name → List Item = λ b o. enums_t b.t b.qualified b.reg o 0 b.c.regions in
        let o : pack_name s offsets (number_in s (get_or defs i 0)).value ≡ h.shown.drawing.name = ap (λ (y : Number). pack_name s offsets y.value) number_at ∙ P.placed called.i called.small ∙ called.named in
        (λ j. render old (f (laid-at t reg qualified j) (o j)) z)
        ∙ ap (λ is. render old is z) (enums-board (as_machine h.shown.drawing h.shown.states) b (laid-share t reg qualified g) h.accepted)
        ∙ ap (λ y. render old (each enum_items (enums_of y)) z) (sym (its-machine ns s old offsets P defs receivers regcounts i x h.shown))

  -- all machines of the tables
  module _ (defs receivers regcounts : List ℕ) (xs : List Share) (h : Lowered ms ns s defs receivers regcounts 0 xs) (i : ℕ) (l : i < length xs) where
    pub equations-again : Writes old (equations_at ns s offsets to) (get_or defs i 0) (items_at made_equation_items xs i)
    unfolding made_equation_items
    equations-again =
        subst (λ y. Writes old (equations_at ns s offsets to) (get_or defs y 0) (items_at made_equation_items xs i)) (zero-add i)
        (writes-from old ms ns s defs receivers regcounts (equations_at ns s offsets to) made_equation_items (share-equations defs receivers regcounts) 0 xs h i l)

    pub enums-again : Writes old (enums_at ns s offsets to) (get_or defs i 0) (items_at made_enum_items xs i)
    unfolding made_enum_items
    enums-again =
        subst (λ y. Writes old (enums_at ns s offsets to) (get_or defs y 0) (items_at made_enum_items xs i)) (zero-add i)
        (writes-from old ms ns s defs receivers regcounts (enums_at ns s offsets to) made_enum_items (share-enums defs receivers regcounts) 0 xs h i l)
