-- A machine of a pack, walked on its bytes: the outcome of resolving its drawing, and where it went through the resolved tree stands there.
use Prim.Native.Nat.{ℕ, ◌+◌, ◌-◌, ◌<◌, ◌≤◌}
use native.Mathlib.Omega.{arith}
use mathlib.Core.List.{List, [], ◌∷◌}
use mathlib.Core.Bool.{true, ◌&&◌}
use mathlib.Core.Option.{none, some}
use mathlib.Core.Path.{◌≡◌, sym, ap, subst, ◌∙◌}
use lib.ListN.{length, get_or}
use lib.Dec.{leb}
use borrow.Author.Tests.{le-leb}
use Rattle.pack_rules.specs.Limits.{max_level, max_name}
use Rattle.pack_rules.specs.Names.{Name}
use Rattle.pack_rules.specs.Syntax.{MachineDef, Package}
use Rattle.machine_rules.specs.Resolved.{ResolvedStates}
use Rattle.pack_rules.specs.Forms.{name_at}
use Rattle.pack_rules.specs.Read.{state_at}
use Rattle.pack_rules.specs.Report.{Refusal}
use Rattle.pack.specs.Verdict.{SectionsAt}
use Rattle.pack.specs.declared.record.Pack.{Pack}
use Rattle.machines.specs.declared.resolve.Resolved.{Resolved}
use Rattle.machines.specs.declared.resolve.Resolved.TheVariants as wk
use Rattle.machine_rules.specs.Resolve.{Walk, refine_at, resolve_s, resolved_states, short_s, stop, went}
use Rattle.machines.specs.ResolvedIn.{StandsS}
use Rattle.machines.specs.CheckedReads.{machine_from}
use Rattle.machines.specs.Tables.{len_of, machines_placed, names_placed}
use Rattle.machines.specs.RefineStack.{start_of}
use Rattle.machines.specs.ResolveAt.{machine_w, walk}
use Rattle.machines.specs.ResolveAgrees.{Same, WithinNames, fit_s, goes, stops, why_of}
use Rattle.machines.proofs.Reading.{MachineRead}
use Rattle.machines.proofs.ResolvedAtOffset.{prefix-none, standing}
use Rattle.machines.proofs.CheckedReadLaws.{machine-to, then_to}
use Rattle.machines.proofs.NamesPlaced.{NamesAre, SpotAt, names-placed, right-length, section-read}
use Rattle.machines.proofs.MachinesPlaced.{Places, machines-placed}
use Rattle.machines.proofs.ResolveSame.{same_by, start-known}
use Rattle.machines.proofs.Agreeing.{agreeing}

-- the tables of a pack's names and machines are right
pub record Ready (s : List ℕ) (ns : List Name) (ms : List MachineDef) (offsets to : List ℕ) : Type 0 where
  pub names : NamesAre s ns
  pub spot : (i : ℕ) → i < length ns → SpotAt s (get_or offsets i 0) (name_at ns i)
  pub places : Places ns s ms to

-- and so they are where the code made them, on a pack that was read: in tables long enough, the second of zeros
pub ready : (s : List ℕ) (k : Pack) (p : Package) (t u : List ℕ) → SectionsAt s k p → length s ≤ 65536 → length p.names ≤ length t → length p.names ≤ length u → ((i : ℕ) → get_or u i 0 ≡ 0)
    → Ready s p.names p.machines (names_placed s k.names 2 0 t) (machines_placed p.names s k.machines u)
ready s k p t u h short l m z =
    let a = section-read s p.names k.enums h.names in
    record {
      names = a;
      spot = subst (λ (n : ℕ). (i : ℕ) → i < length p.names → SpotAt s (get_or (names_placed s n 2 0 t) i 0) (name_at p.names i)) h.count (names-placed s short p.names t a l);
      places = machines-placed p.names s k.machines p.machines k.activations u short a m z h.machines;
    }

-- what `Same` says of the code's answer
went-why : (ns : List Name) (top : Name) (v : Resolved) (z c a : ℕ) (y : Refusal) → v ≡ wk.Went z c a → why_of ns top v ≡ some y → ⊥
unfolding why_of
went-why ns top v z c a y e f = let g : none ≡ some y = sym (ap (why_of ns top) e) ∙ f in let x : ◌≡◌ {A = ℕ} 0 1 = cc in omega arith

pub same-stops : (ns : List Name) (top : Name) (q : ℕ) (w : Walk ResolvedStates) (v : Resolved) → Same ns top (fit_s 0) q w v → (y : Refusal) → why_of ns top v ≡ some y → w ≡ stop y
same-stops ns top q w v (stops {r} e f) y g = let i : r ≡ y = let h = f.0 in cc in e ∙ ap stop i
same-stops ns top q w v (goes {x} {c} {a} e f h) y g = absurd (went-why ns top v q c a y f g)

pub same-within : (ns : List Name) (top : Name) (q : ℕ) (w : Walk ResolvedStates) (v : Resolved) → Same ns top (fit_s 0) q w v → (y : Refusal) → why_of ns top v ≡ some y → WithinNames ns v
same-within ns top q w v (stops {r} e f) y g = f.1
same-within ns top q w v (goes {x} {c} {a} e f h) y g = absurd (went-why ns top v q c a y f g)

pub record WentTo (w : Walk ResolvedStates) (q z m a : ℕ) : Type 0 where
  pub tree : ResolvedStates
  pub resolves : w ≡ went tree m
  pub ends : z ≡ q
  pub short : (p : ℕ) → p ≤ max_name → short_s p tree ≡ leb (p + a) max_name

pub same-goes : (ns : List Name) (top : Name) (q : ℕ) (w : Walk ResolvedStates) (v : Resolved) → Same ns top (fit_s 0) q w v → (z m a : ℕ) → v ≡ wk.Went z m a → WentTo w q z m a
unfolding fit_s
same-goes ns top q w v (stops {r} e f) z m a g = absurd (went-why ns top v z m a r g f.0)
same-goes ns top q w v (goes {x} {c} {a = b} e f h) z m a g =
    let y : wk.Went q c b ≡ wk.Went z m a = sym f ∙ g in
    let i : q ≡ z = cc in let j : c ≡ m = cc in let k : b ≡ a = cc in
    record {
      tree = x;
      resolves = e ∙ ap (went x) j;
      ends = sym i;
      short = λ p l. let n : leb (p + 0) max_name ≡ true = le-leb (p + 0) max_name (omega arith) in ap (λ y. y && short_s p x) (sym n) ∙ h p ∙ ap (λ y. leb (p + y) max_name) k;
    }

module _ (s : List ℕ) (ns : List Name) (ms : List MachineDef) (offsets to : List ℕ) (r : Ready s ns ms offsets to) where
  right : (i : ℕ) → i < length ns → len_of s offsets i ≡ length (name_at ns i)
  right i h = right-length s offsets i (name_at ns i) (r.spot i h)

  -- a machine d that was read, whose name has the index x
  module _ (at : ℕ) (d : MachineDef) (q : ℕ) (m : MachineRead ns s at d q) (x : ℕ) (small : x < length ns) (named : name_at ns x ≡ d.name) where
    -- THE THEOREM: the walk and resolving come to the same
    pub machine-walked : Same ns d.name (fit_s 0) q (resolved_states ms d) (machine_w ns s offsets to x m.to-initial)
    unfolding resolved_states walk machine_w state_at
    machine-walked =
        same_by ns d.name (fit_s 0) q _ _ _ _ (ap (λ y. resolve_s d.name (refine_at 8 d.name ms (d.name ∷ [])) 7 y 0) (sym m.same))
        (then_to (machine_from s m.to-initial) m.k m.b _ (machine-to ns s m.to-initial d.initial m.k m.b m.head))
        (agreeing ns s offsets to d.name ms r.names.fresh right r.places 7 8 7 m.k m.b (d.name ∷ []) (start_of x) m.xs q 0 0
        (omega arith) (omega arith) (start-known ns d.name x r.names.fresh small (sym named)) m.inside)

    -- where the code stopped, resolving is refused for that reason
    pub walked-stops : (y : Refusal) → why_of ns d.name (machine_w ns s offsets to x m.to-initial) ≡ some y → resolved_states ms d ≡ stop y
    walked-stops y e = same-stops ns d.name q (resolved_states ms d) _ machine-walked y e

    -- and for names of the pack
    pub walked-within : (y : Refusal) → why_of ns d.name (machine_w ns s offsets to x m.to-initial) ≡ some y → WithinNames ns (machine_w ns s offsets to x m.to-initial)
    walked-within y e = same-within ns d.name q (resolved_states ms d) _ machine-walked y e

    -- where it went through, resolving gives a tree of as many states, and the tree stands there
    pub walked-stands : (z n a : ℕ) → machine_w ns s offsets to x m.to-initial ≡ wk.Went z n a
        → (t : ResolvedStates) × (resolved_states ms d ≡ went t n) × StandsS ns s (λ j. get_or to j 0) [] (max_level - 1) m.k m.b t q
    unfolding resolved_states state_at
    walked-stands z n a w =
        let g = same-goes ns d.name q (resolved_states ms d) _ machine-walked z n a w in (
          g.tree,
          g.resolves,
          subst (λ y. StandsS ns s (λ j. get_or to j 0) [] 7 m.k m.b y q) (prefix-none g.tree)
              (standing ns s (λ j. get_or to j 0) d.name ms r.places.finds 7 8 7 m.k m.b (d.name ∷ []) m.xs q 0 g.tree n []
              (omega arith) m.inside (ap (λ y. resolve_s d.name (refine_at 8 d.name ms (d.name ∷ [])) 7 y 0) m.same ∙ g.resolves)),
        )
