-- A machine is laid out: in tables as long as the limits ask, the tree that stands in the pack is what the tables say.
use Prim.Native.Nat.{ℕ, suc, ◌+◌, ◌≤◌}
use native.Mathlib.Omega.{arith}
use mathlib.Core.List.{List, []}
use mathlib.Core.Bool.{true, false}
use mathlib.Core.Path.{◌≡◌, refl, sym, subst, ◌∙◌}
use lib.ListN.{length, get_or, take}
use Rattle.pack_rules.specs.Names.{Name}
use Rattle.pack_rules.specs.Syntax.{MachineDef}
use Rattle.machine_rules.specs.Resolved.{ResolvedStates, r_cons, r_nil}
use Rattle.pack_rules.specs.Forms.{flag_of}
use Rattle.pack_rules.specs.Write.{enc}
use Rattle.machines.specs.declared.layout.RegionHead.{RegionHead}
use Rattle.machine_rules.specs.Checks.{collect_state_names}
use Rattle.machines.specs.Counts.{any_s, count_s, filled_s}
use Rattle.machines.specs.Layout.{HeldR, LaidR, prefix_of, r_end, slice_of}
use Rattle.machines.specs.LayoutAt.{Board, board, layout_machine, layout_region, layout_t, opening}
use Rattle.machine_rules.specs.Lower.{size_r, size_s}
use Rattle.machine_rules.specs.Resolve.{short_s}
use Rattle.machines.specs.ResolvedIn.{MachineAt, StandsS}
use Rattle.machines.proofs.Reading.{name-number}
use Rattle.machines.proofs.Resolved.{Ready}
use Rattle.machines.proofs.Boards.{Room, Under, agrees-all, spare}
use Rattle.machines.proofs.CountLaws.{filled-states, letters-few}
use Rattle.machines.proofs.StateOpened.{machine-opening}
use Rattle.machines.proofs.RegionLaid.{one-region}
use Rattle.machines.proofs.StatesLaidOut.{lays_s}
use Rattle.machines.proofs.LayoutRelationLaws.{regions-held, regions-sized}

-- what laying a machine out comes to
pub record LaidMachine (ns : List Name) (s : List ℕ) (d : Board) (i : Name) (ss : ResolvedStates) : Type 0 where
  pub laid : LaidR ns s d.t d.reg d.qualified 0 0 8 1 0 0 false (r_cons i true ss r_nil) d.c.words d.c.regions d.c.hole
  -- the letters are all names in preorder, each after its length
  pub letters : take d.c.letters d.qualified ≡ enc (collect_state_names ss)
  pub letters-end : d.c.letters ≡ length (enc (collect_state_names ss))
  pub words-few : d.c.words ≤ 7689
  pub regions-few : d.c.regions ≤ 513
  pub letters-few : d.c.letters ≤ 131072
  -- where no region without states was met
  pub held : d.c.hole ≡ false → HeldR ns s d.t d.reg d.qualified 0 0 8 1 0 0 (r_cons i true ss r_nil) d.c.words d.c.regions
  pub regions : d.c.hole ≡ false → d.c.regions ≡ suc (size_s ss)

history : flag_of 1 ≡ true
unfolding flag_of
history = refl

abbrev blank : List ℕ → List ℕ → List ℕ → Board
blank t reg qualified = board t reg qualified (layout_t 0 0 0 0 false)

no-prefix : (t reg qualified : List ℕ) → Under (blank t reg qualified) 0 0 []
unfolding prefix_of slice_of
no-prefix t reg qualified = record { inside = omega arith; is = refl }

-- tables as long as the limits ask: 512 states in 512 regions and one that has none, 255 letters a name
all_room : (t reg qualified : List ℕ) (ss : ResolvedStates) → count_s ss ≤ 512 → short_s 0 ss ≡ true → 7698 ≤ length t → 514 ≤ length reg → 131072 ≤ length qualified
    → length t ≤ 4294967296 → length reg ≤ 4294967296 → length qualified ≤ 4294967296 → Room (blank t reg qualified) (any_s ss + filled_s ss) (count_s ss) (enc (collect_state_names ss))
unfolding spare
all_room t reg qualified ss few short a b c x y z =
    let f = filled-states ss in
    let l = letters-few ss short in
    record { words = omega arith; regions = omega arith; letters = omega arith; t-small = x; reg-small = y; lets-small = z }

-- THE THEOREM: a machine whose tree stands in a pack is laid out
pub laid-machine : (s : List ℕ) (ns : List Name) (ms : List MachineDef) (offsets to : List ℕ) → Ready s ns ms offsets to → (at : ℕ) (i : Name) (k b : ℕ) → MachineAt ns s at i k b
    → (ss : ResolvedStates) (q : ℕ) → StandsS ns s (λ j. get_or to j 0) [] 7 k b ss q → count_s ss ≤ 512 → short_s 0 ss ≡ true
    → (t reg qualified : List ℕ) → 7698 ≤ length t → 514 ≤ length reg → 131072 ≤ length qualified → length t ≤ 4294967296 → length reg ≤ 4294967296 → length qualified ≤ 4294967296
    → LaidMachine ns s (layout_machine ns s offsets to at t reg qualified) i ss
unfolding layout_machine size_r spare
laid-machine s ns ms offsets to r at i k b m ss q stands few short t reg qualified lt lr ll st sr sl =
    let x = name-number ns s at i m.to-states m.initial in
    let one = one-region ns s offsets to stands 0 0 0 0 x.i 1 (blank t reg qualified) i true x.small history (sym x.named) (no-prefix t reg qualified)
    (lays_s ns s offsets r.spot to stands) (all_room t reg qualified ss few short lt lr ll st sr sl) short in
    let d : Board = layout_region ns s offsets to 8 0 0 0 0 (opening x.i 1 k b) (blank t reg qualified) in
    let f = filled-states ss in
    let l = letters-few ss short in
    let wf = one.step.words-full in
    let rf = one.step.regions-full in
    let lf = one.step.letters-full in
    let n : one.new + 0 ≡ 1 = omega (arith, one.first refl) in
    let laid : LaidR ns s d.t d.reg d.qualified 0 0 8 1 0 0 false (r_cons i true ss r_nil) d.c.words d.c.regions d.c.hole =
    subst (λ (c : ℕ). LaidR ns s d.t d.reg d.qualified 0 0 8 c 0 0 false (r_cons i true ss r_nil) d.c.words d.c.regions d.c.hole) n
    (one.laid d.t d.reg d.qualified (agrees-all (blank t reg qualified) d) 0 d.c.words d.c.regions d.c.hole r_nil (r_end refl refl refl)) in
    subst (λ (h : RegionHead). LaidMachine ns s (layout_region ns s offsets to 8 0 0 0 0 h (blank t reg qualified)) i ss) (sym (machine-opening ns s 1 at i k b m))
    (record {
      laid = laid;
      letters = one.step.says;
      letters-end = one.step.letters-full ∙ omega arith;
      words-few = omega arith;
      regions-few = omega arith;
      letters-few = omega arith;
      held = λ e. regions-held ns s d.t d.reg d.qualified laid e;
      regions = λ e. let z = regions-sized ns s d.t d.reg d.qualified laid e in let y = z.1 in omega arith;
    })
