-- A machine that was read is judged as the definition judges it.
use Prim.Native.Nat.{ℕ, suc, ◌+◌, ◌<◌, ◌≤◌}
use native.Mathlib.Omega.{arith}
use mathlib.Core.List.{List, [], ◌∷◌, ◌++◌}
use mathlib.Core.Bool.{false}
use mathlib.Core.Option.{Option, none, some}
use mathlib.Core.Path.{◌≡◌, refl, sym, ap, subst, ◌∙◌}
use lib.ListN.{length, get_or}
use Rattle.wire.specs.Answer.{value}
use Rattle.wire.specs.Lists.{All, Bytes}
use Rattle.wire.proofs.Answers.{u16-value}
use Rattle.std.specs.Prelude.{Ok, Err}
use Rattle.std.specs.Result.{result_unwrap_or}
use Rattle.machines.specs.Verdicts.{AcceptedAs}
use Rattle.pack_rules.specs.Names.{Name}
use Rattle.pack_rules.specs.Syntax.{MachineDef}
use Rattle.machine_rules.specs.Resolved.{ResolvedMachine, ResolvedStates}
use Rattle.pack_rules.specs.Forms.{name_at}
use Rattle.pack_rules.specs.Read.{machine_in}
use Rattle.pack_rules.specs.Report.{Refusal}
use Rattle.machines.specs.declared.verdicts.NameRef.{NameRef}
use Rattle.machines.specs.declared.verdicts.Refusal.{Refusal as Why}
use Rattle.machines.specs.declared.verdicts.Refusal.TheVariants as no
use Rattle.wire.specs.declared.answer.Number.{Number}
use Rattle.machines.specs.declared.resolve.Resolved.{Resolved}
use Rattle.machines.specs.declared.resolve.Resolved.TheVariants as wk
use Rattle.machine_rules.specs.Refusals.{refine_cycle, too_large, unknown_refine}
use Rattle.machine_rules.specs.Resolve.{as_machine, resolved_states, stop, went}
use Rattle.machines.specs.CheckedReads.{num, number_in}
use Rattle.machines.specs.Tables.{initial_in, outputs_in}
use Rattle.machine_rules.specs.Lower.{size_s}
use Rattle.machine_rules.specs.Checks.{refusal_of}
use Rattle.machine_rules.specs.Machines.{accept, checked, judge, resolved}
use Rattle.machines.specs.ResolveAt.{machine_w}
use Rattle.machines.specs.ResolveAgrees.{WithinNames, why_of}
use Rattle.machines.specs.LayoutAt.{Board, board, layout_machine, layout_t}
use Rattle.machines.specs.ReportEntries.{called_of}
use Rattle.machines.specs.VerdictAt.{Judged, row_of, board_at, judge_at, laid_at, laid_j, lay_at, named, no_name, refused_by, walk_at, walked_b, walked_j}
use Rattle.machines.specs.VerdictMeaning.{RefusedFor, JudgedAs, RefusedAs}
use Rattle.machines.specs.EmitMachineAt.{Long}
use Rattle.machines.proofs.Reading.{MachineRead, NumberIs, machine-value, name-number}
use Rattle.machines.proofs.CheckedReadLaws.{number-num, number-to}
use Rattle.machines.proofs.NamesPlaced.{NamesAre, spot-length}
use Rattle.machines.proofs.MachinesPlaced.{initial-to, outputs-to}
use Rattle.machines.proofs.Resolved.{Ready, walked-stops, walked-within}
use Rattle.machines.proofs.ResolvedLaidOut.{walked-laid, walked-tree}
use Rattle.machines.proofs.RefusalNames.{Lettered, Short}
use Rattle.machines.proofs.CalledNames.{called-name, called-no, refused_as}
use Rattle.machines.proofs.LayoutJudged.{Stood, laid-judged}

-- the names of a pack: few, and of 1 to 255 letters
pub names-counted : (s : List ℕ) (ns : List Name) → NamesAre s ns → Bytes s → length ns ≤ 65535
names-counted s ns h bytes =
    let p = u16-value s 0 (length ns) h.count.0 h.count.1 in
    omega (arith, p.is, bytes 0, bytes (0 + 1))

pub names-lettered : (s : List ℕ) (ns : List Name) (ms : List MachineDef) (offsets to : List ℕ) → Ready s ns ms offsets to → Bytes s → (i : ℕ) → i < length ns → Lettered (name_at ns i)
names-lettered s ns ms offsets to r bytes i h =
    let a = r.spot i h in
    let l = spot-length s (get_or offsets i 0) (name_at ns i) a in
    (omega (arith, a.some), omega (arith, bytes (get_or offsets i 0)))

-- what is judged by the definition, from what resolving came to
module _ (s offsets qualified : List ℕ) (m : ℕ) (ms : List MachineDef) (d : MachineDef) (j : Judged) where
  stopped-as : (r : Refusal) → resolved_states ms d ≡ stop r → RefusedFor s offsets qualified m r j → JudgedAs s offsets qualified m ms d (judge ms d) j
  unfolding judge resolved JudgedAs
  stopped-as r e h = subst (λ w. JudgedAs s offsets qualified m ms d (resolved d w) j) (sym e) h

  went-as : (ss : ResolvedStates) (n : ℕ) → resolved_states ms d ≡ went ss n → Stood s offsets qualified m (suc (size_s ss)) (refusal_of (as_machine d ss)) j → JudgedAs s offsets qualified m ms d (judge ms d) j
  unfolding judge resolved checked Stood JudgedAs
  went-as ss n e h = subst (λ w. JudgedAs s offsets qualified m ms d (resolved d w) j) (sym e) (by (refusal_of (as_machine d ss)) refl h)
    where
      by : (o : Option Refusal) → refusal_of (as_machine d ss) ≡ o → Stood s offsets qualified m (suc (size_s ss)) o j → JudgedAs s offsets qualified m ms d (checked (as_machine d ss) o) j
      by none f g = subst (λ y. JudgedAs s offsets qualified m ms d (checked (as_machine d ss) none) y) (sym g.0)
          (record {
            states = ss;
            count = n;
            is = refl;
            resolves = e;
            accepted = f;
            regions = refl;
            few = g.1;
          })
      by (some r) f g = g

-- an accepted machine has as many regions as the definition gives it, a refused one none
pub accepted-count : (s offsets qualified : List ℕ) (m : ℕ) (ms : List MachineDef) (d : MachineDef) (x : ResolvedMachine) (j : Judged) → JudgedAs s offsets qualified m ms d (accept x) j → AcceptedAs ms d x (result_unwrap_or j 0)
unfolding JudgedAs
accepted-count s offsets qualified m ms d x (Ok n) h = h
accepted-count s offsets qualified m ms d x (Err w) h = absurd h

pub refused-count : (s offsets qualified : List ℕ) (m : ℕ) (r : Refusal) (j : Judged) → RefusedFor s offsets qualified m r j → result_unwrap_or j 0 ≡ 0
unfolding RefusedFor
refused-count s offsets qualified m r (Ok n) h = absurd h
refused-count s offsets qualified m r (Err w) h = refl

module _ (s : List ℕ) (ns : List Name) (ms : List MachineDef) (offsets to : List ℕ) (r : Ready s ns ms offsets to) (bytes : Bytes s)
    (at : ℕ) (d : MachineDef) (q : ℕ) (m : MachineRead ns s at d q) (t reg qualified : List ℕ) (long : Long t reg qualified) where
  own : NumberIs ns s at d.name m.to-owner
  own = name-number ns s at d.name m.to-owner m.name

  number : number_in s at ≡ num own.i m.to-owner
  number = number-num s at own.i m.to-owner own.is

  abbrev walk : Resolved
  walk = machine_w ns s offsets to own.i m.to-initial

  walk_is : walk_at ns s offsets to at ≡ walk
  unfolding walk_at
  walk_is = number-to s at own.i m.to-owner (λ x o. machine_w ns s offsets to x (initial_in ns s o)) own.is ∙ ap (machine_w ns s offsets to own.i) (initial-to ns s at d q m)

  abbrev laid : Board
  laid = layout_machine ns s offsets to m.to-initial t reg qualified

  lay-is : lay_at ns s offsets to at t reg qualified ≡ laid
  unfolding lay_at
  lay-is = ap (λ (y : Number). layout_machine ns s offsets to (initial_in ns s y.next) t reg qualified) number ∙ ap (λ o. layout_machine ns s offsets to o t reg qualified) (initial-to ns s at d q m)

  laid-is : (b : Board) → laid_at ns s offsets to at b ≡ laid_j ns s b.t b.qualified b.c.letters b.c.regions m.to-outputs
  unfolding laid_at
  laid-is b = ap (λ (y : Number). laid_j ns s b.t b.qualified b.c.letters b.c.regions (outputs_in ns s y.next)) number ∙ ap (laid_j ns s b.t b.qualified b.c.letters b.c.regions) (outputs-to ns s at d q m)

  -- a walk that stopped
  module _ (l : List ℕ) (v : Resolved) (e : walk ≡ v) where
    stop-as : (y : Refusal) (u : Why) (k : ℕ) (a b : NameRef) (xs ys : List Name) → row_of u ≡ refused_by k a b → why_of ns d.name v ≡ some y → 0 < k → k < 256 → called_of s offsets l a ≡ xs → called_of s offsets l b ≡ ys
        → y ≡ record { kind = k; names = d.name ∷ (xs ++ ys) } → All Short y.names → JudgedAs s offsets l own.i ms d (judge ms d) (Err u)
    unfolding RefusedFor
    stop-as y u k a b xs ys same w lo hi f g c h =
        stopped-as s offsets l own.i ms d (Err u) y
        (walked-stops s ns ms offsets to r at d q m own.i own.small own.named y (ap (why_of ns d.name) e ∙ w))
        (subst (RefusedAs s offsets l own.i y) (sym same) (refused_as s ns offsets l r.spot (names-counted s ns r.names bytes) own.i k a b d.name xs ys y own.small own.named lo hi f g c h))

    within : (y : Refusal) → why_of ns d.name v ≡ some y → WithinNames ns v
    within y w = subst (WithinNames ns) e (walked-within s ns ms offsets to r at d q m own.i own.small own.named y (ap (why_of ns d.name) e ∙ w))

  short-at : (i : ℕ) → i < length ns → Short (name_at ns i)
  short-at i h = (names-lettered s ns ms offsets to r bytes i h).1

  own-short : Short d.name
  own-short = subst Short own.named (short-at own.i own.small)

  name-as : (l : List ℕ) (i : ℕ) → i < length ns → called_of s offsets l (named i) ≡ name_at ns i ∷ []
  name-as l = called-name s ns offsets l r.spot (names-counted s ns r.names bytes)

  cycle-as : (l : List ℕ) (n : ℕ) → walk ≡ wk.Cycle n → JudgedAs s offsets l own.i ms d (judge ms d) (Err (no.RefineCycle n))
  unfolding why_of WithinNames refine_cycle All
  cycle-as l n e =
      let w = within l (wk.Cycle n) e _ refl in
      stop-as l (wk.Cycle n) e (refine_cycle d.name (name_at ns n)) (no.RefineCycle n) 7 (named n) no_name (name_at ns n ∷ []) [] refl refl (omega arith) (omega arith) (name-as l n w) (called-no s offsets l) refl (own-short, (short-at n w, tt))

  unknown-as : (l : List ℕ) (i n : ℕ) → walk ≡ wk.Unknown i n → JudgedAs s offsets l own.i ms d (judge ms d) (Err (no.UnknownRefine i n))
  unfolding why_of WithinNames unknown_refine All
  unknown-as l i n e =
      let w = within l (wk.Unknown i n) e _ refl in
      stop-as l (wk.Unknown i n) e (unknown_refine d.name (name_at ns i) (name_at ns n)) (no.UnknownRefine i n) 6 (named i) (named n) (name_at ns i ∷ []) (name_at ns n ∷ []) refl refl (omega arith) (omega arith)
      (name-as l i w.0) (name-as l n w.1) refl (own-short, (short-at i w.0, (short-at n w.1, tt)))

  large-as : (l : List ℕ) → walk ≡ wk.Large → JudgedAs s offsets l own.i ms d (judge ms d) (Err no.TooLarge)
  unfolding why_of too_large All
  large-as l e =
      stop-as l wk.Large e (too_large d.name) no.TooLarge 17 no_name no_name [] [] refl refl (omega arith) (omega arith) (called-no s offsets l) (called-no s offsets l) refl (own-short, tt)

  -- a walk that went through, and the machine laid out
  laid_as : (z n a : ℕ) → walk ≡ wk.Went z n a → JudgedAs s offsets laid.qualified own.i ms d (judge ms d) (laid_j ns s laid.t laid.qualified laid.c.letters laid.c.regions m.to-outputs)
  unfolding as_machine
  laid_as z n a e =
      let y = walked-tree s ns ms offsets to r bytes at d q m own.i own.small own.named z n a e in
      let w = walked-laid s ns ms offsets to r bytes at d q m own.i own.small own.named z n a e t reg qualified long.words long.regions long.letters long.few_words long.few_regions long.few_letters in
      let i = name-number ns s m.to-initial d.initial m.head.to-states m.head.initial in
      went-as s offsets laid.qualified own.i ms d _ y.states n y.resolves
      (laid-judged s ns offsets r.names.fresh r.spot (names-counted s ns r.names bytes) (names-lettered s ns ms offsets to r bytes) own.i own.small (as_machine d y.states) own.named
      laid w y.short (subst Short i.named (short-at i.i i.small)) m.to-outputs m.to-locals m.outputs)

  abbrev before-it : Board
  before-it = board t reg qualified (layout_t 0 0 0 0 false)

  by-walk : (v : Resolved) → walk ≡ v → JudgedAs s offsets (walked_b ns s offsets to v laid before-it).qualified own.i ms d (judge ms d) (walked_j ns s offsets to v (laid_j ns s laid.t laid.qualified laid.c.letters laid.c.regions m.to-outputs))
  unfolding walked_b walked_j
  by-walk (wk.Went z n a) e = laid_as z n a e
  by-walk (wk.Cycle n) e = cycle-as qualified n e
  by-walk (wk.Unknown i n) e = unknown-as qualified i n e
  by-walk wk.Large e = large-as qualified e

  -- THE THEOREM: the code's judgement stands for that of the definition
  pub read-judged : JudgedAs s offsets (board_at ns s offsets to at t reg qualified).qualified (number_in s at).value ms d (judge ms d) (judge_at ns s offsets to at t reg qualified)
  unfolding board_at judge_at
  read-judged =
      subst (λ (y : Number). JudgedAs s offsets (walked_b ns s offsets to (walk_at ns s offsets to at) (lay_at ns s offsets to at t reg qualified) before-it).qualified y.value ms d (judge ms d) (walked_j ns s offsets to (walk_at ns s offsets to at) (laid_at ns s offsets to at (lay_at ns s offsets to at t reg qualified)))) (sym number)
      (subst (λ (b : Board). JudgedAs s offsets (walked_b ns s offsets to (walk_at ns s offsets to at) b before-it).qualified own.i ms d (judge ms d) (walked_j ns s offsets to (walk_at ns s offsets to at) (laid_at ns s offsets to at b))) (sym lay-is)
      (subst (λ (j : Judged). JudgedAs s offsets (walked_b ns s offsets to (walk_at ns s offsets to at) laid before-it).qualified own.i ms d (judge ms d) (walked_j ns s offsets to (walk_at ns s offsets to at) j)) (sym (laid-is laid))
      (by-walk (walk_at ns s offsets to at) (sym walk_is))))

pub judged : (s : List ℕ) (ns : List Name) (ms : List MachineDef) (offsets to : List ℕ) → Ready s ns ms offsets to → Bytes s → (at : ℕ) (d : MachineDef) (q : ℕ) → machine_in ns s at ≡ value d q → (t reg qualified : List ℕ) → Long t reg qualified
    → JudgedAs s offsets (board_at ns s offsets to at t reg qualified).qualified (number_in s at).value ms d (judge ms d) (judge_at ns s offsets to at t reg qualified)
judged s ns ms offsets to r bytes at d q e = read-judged s ns ms offsets to r bytes at d q (machine-value ns s at d q e)
