-- The table of machines is right: it finds what `machine_of` finds, the last machine of a name.
use Prim.Native.Nat.{ℕ, zero, suc, ◌<◌, ◌≤◌, ◌%◌}
use native.Mathlib.Omega.{arith}
use native.Mathlib.Nat.{mod-eq_of_lt}
use mathlib.Core.List.{List, [], ◌∷◌}
use mathlib.Core.Bool.{Bool, true, false, cond}
use mathlib.Core.Option.{Option, none, some}
use mathlib.Core.Path.{◌≡◌, refl, sym, ap, subst, ◌∙◌}
use lib.ListN.{length, get_or, set, length-set}
use lib.Seq.{get_or-set_same, get_or-set_other}
use lib.Dec.{eqb}
use borrow.Author.Tests.{eqb-true, eqb-false}
use Rattle.wire.specs.Answer.{Answer, counted, many, u16, value}
use Rattle.wire.specs.Code.{next, onward, skip, skips}
use Rattle.std.specs.Prelude.{Ok}
use Rattle.wire.proofs.Answers.{bind-value, u16-value}
use Rattle.wire.proofs.Formats.{bind_to}
use Rattle.pack_rules.specs.Names.{Name, eq_name}
use Rattle.pack_rules.specs.Syntax.{MachineDef}
use Rattle.pack_rules.specs.Forms.{name_at}
use Rattle.pack_rules.specs.Legal.{Fresh}
use Rattle.pack_rules.specs.Read.{machine_in, optional_in, ports_in, state_at}
use Rattle.pack_rules.specs.Report.{first_of}
use Rattle.pack.specs.Verdict.{offset_of}
use Rattle.machine_rules.specs.Resolve.{machine_of}
use Rattle.machines.specs.ResolvedIn.{MachineAt}
use Rattle.machines.specs.Tables.{initial_in, machines_placed, outputs_in, placed_from, states_end}
use Rattle.machines.proofs.Reading.{MachineRead, machine-value, many-cut, many_more, many-over, name-number}
use Rattle.machines.proofs.ResolvedAtOffset.{Found}
use Rattle.machines.proofs.CheckedReadLaws.{number-to}
use Rattle.machines.proofs.NamesPlaced.{NamesAre, alone}

pub onward-to : {A : Type 0} (f : ℕ → Answer A) (at : ℕ) (x : A) (q : ℕ) → f at ≡ value x q → onward f (Ok at) ≡ Ok q
unfolding onward next skips skip
onward-to f at x q e = rw e

module _ (ns : List Name) (s : List ℕ) where
  pub outputs-to : (at : ℕ) (d : MachineDef) (q : ℕ) → (r : MachineRead ns s at d q) → outputs_in ns s r.to-owner ≡ r.to-outputs
  unfolding outputs_in offset_of
  outputs-to at d q r =
      ap (λ y. offset_of (onward (ports_in ns s) y)) (onward-to (optional_in ns s) r.to-owner d.owner r.to-inputs r.owner)
      ∙ ap offset_of (onward-to (ports_in ns s) r.to-inputs d.inputs r.to-outputs r.inputs)

  pub initial-to : (at : ℕ) (d : MachineDef) (q : ℕ) → (r : MachineRead ns s at d q) → initial_in ns s r.to-owner ≡ r.to-initial
  unfolding initial_in offset_of
  initial-to at d q r =
      ap (λ y. offset_of (onward (ports_in ns s) (onward (ports_in ns s) (onward (ports_in ns s) y)))) (onward-to (optional_in ns s) r.to-owner d.owner r.to-inputs r.owner)
      ∙ ap (λ y. offset_of (onward (ports_in ns s) (onward (ports_in ns s) y))) (onward-to (ports_in ns s) r.to-inputs d.inputs r.to-outputs r.inputs)
      ∙ ap (λ y. offset_of (onward (ports_in ns s) y)) (onward-to (ports_in ns s) r.to-outputs d.outputs r.to-locals r.outputs)
      ∙ ap offset_of (onward-to (ports_in ns s) r.to-locals d.locals r.to-initial r.locals)

  pub states-to : (at : ℕ) (d : MachineDef) (q : ℕ) → (r : MachineRead ns s at d q) → states_end ns s r.to-initial ≡ q
  unfolding states_end offset_of counted
  states-to at d q r =
      let i = name-number ns s r.to-initial d.initial r.head.to-states r.head.initial in
      let c : counted (state_at ns s) s r.head.to-states ≡ value r.xs q = bind_to (u16 s r.head.to-states) r.k r.b _ _ r.head.states r.inside in
      number-to s r.to-initial i.i r.head.to-states _ i.is
      ∙ ap offset_of (onward-to (counted (state_at ns s) s) r.head.to-states r.xs q c)

  -- one machine: its name's index, and the table from the next machine on
  placed-step : length s ≤ 65536 → (n at : ℕ) (t : List ℕ) (d : MachineDef) (q : ℕ) → (r : MachineRead ns s at d q) → (x : ℕ) × (x < length ns) × (name_at ns x ≡ d.name) × (placed_from ns s (suc n) at t ≡ placed_from ns s n q (set t x r.to-initial))
  unfolding placed_from
  placed-step short n at t d q r =
      let low : r.to-initial % 65536 ≡ r.to-initial = mod-eq_of_lt (let u = name-number ns s r.to-initial d.initial r.head.to-states r.head.initial in let v = u16-value s r.to-initial u.i r.head.to-states u.is in let w = v.inside in omega arith) in
      let i = name-number ns s at d.name r.to-owner r.name in (
        i.i,
        i.small,
        i.named,
        number-to s at i.i r.to-owner _ i.is
            ∙ ap (λ w. placed_from ns s n (states_end ns s w) (set t i.i (w % 65536))) (initial-to at d q r)
            ∙ (λ j. placed_from ns s n (states-to at d q r j) (set t i.i (low j))),
      )

  -- the place of a machine
  pub record PlaceAt (d : MachineDef) (w : ℕ) : Type 0 where
    pub at : ℕ
    pub q : ℕ
    pub read : MachineRead ns s at d q
    pub here : read.to-initial ≡ w

  placed-none : (at : ℕ) (t : List ℕ) → placed_from ns s zero at t ≡ t
  unfolding placed_from
  placed-none at t = refl

  module _ (short : length s ≤ 65536) (fresh : Fresh [] ns) (i : ℕ) (low : i < length ns) where
    other : (t : List ℕ) (x w : ℕ) (n : Name) → x < length ns → name_at ns x ≡ n → eq_name n (name_at ns i) ≡ false → get_or (set t x w) i 0 ≡ get_or t i 0
    other t x w n l e f =
        let g : eqb x i ≡ false = sym (alone ns fresh i x low l) ∙ ap (λ y. eq_name y (name_at ns i)) e ∙ f in
        get_or-set_other t x i w 0 (λ h. eqb-false x i g (sym h))

    same : (t : List ℕ) (x w : ℕ) (n : Name) → length ns ≤ length t → x < length ns → name_at ns x ≡ n → eq_name n (name_at ns i) ≡ true → get_or (set t x w) i 0 ≡ w
    same t x w n m l e f =
        let g : eqb x i ≡ true = sym (alone ns fresh i x low l) ∙ ap (λ y. eq_name y (name_at ns i)) e ∙ f in
        ap (λ j. get_or (set t x w) j 0) (sym (eqb-true x i g)) ∙ get_or-set_same t x w 0 (omega arith)

    pub placed-miss : (n at : ℕ) (ms : List MachineDef) (q : ℕ) (t : List ℕ) → many (machine_in ns s) n at ≡ value ms q → machine_of ms (name_at ns i) ≡ none → get_or (placed_from ns s n at t) i 0 ≡ get_or t i 0
    unfolding machine_of first_of
    placed-miss zero at ms q t e m = ap (λ l. get_or l i 0) (placed-none at t)
    placed-miss (suc n) at [] q t e m = absurd (many-over (machine_in ns s) n at q e)
    placed-miss (suc n) at (d ∷ ms) q t e m =
        let a = many_more (machine_in ns s) n at d ms q e in
        let r = machine-value ns s at d a.0 a.1 in
        let k = placed-step short n at t d a.0 r in
        ap (λ l. get_or l i 0) k.3
        ∙ go (machine_of ms (name_at ns i)) refl (eq_name d.name (name_at ns i)) refl m k.0 r.to-initial k.1 k.2 (λ f. placed-miss n a.0 ms q (set t k.0 r.to-initial) a.2 f)
      where
        go : (o : Option MachineDef) → machine_of ms (name_at ns i) ≡ o → (b : Bool) → eq_name d.name (name_at ns i) ≡ b → first_of o (cond b (some d) none) ≡ none → (x w : ℕ) → x < length ns → name_at ns x ≡ d.name
            → (machine_of ms (name_at ns i) ≡ none → get_or (placed_from ns s n (many_more (machine_in ns s) n at d ms q e).0 (set t x w)) i 0 ≡ get_or (set t x w) i 0)
            → get_or (placed_from ns s n (many_more (machine_in ns s) n at d ms q e).0 (set t x w)) i 0 ≡ get_or t i 0
        go (some c) f b g y x w l h ih = let z : ◌≡◌ {A = ℕ} 0 1 = cc in absurd (omega arith)
        go none f true g y x w l h ih = let z : ◌≡◌ {A = ℕ} 0 1 = cc in absurd (omega arith)
        go none f false g y x w l h ih = ih f ∙ other t x w d.name l h g

    pub placed-find : (n at : ℕ) (ms : List MachineDef) (q : ℕ) (t : List ℕ) (c : MachineDef) → length ns ≤ length t → many (machine_in ns s) n at ≡ value ms q → machine_of ms (name_at ns i) ≡ some c → PlaceAt c (get_or (placed_from ns s n at t) i 0)
    unfolding machine_of first_of
    placed-find zero at [] q t c m e v = let z : ◌≡◌ {A = ℕ} 0 1 = cc in absurd (omega arith)
    placed-find zero at (d ∷ ms) q t c m e v = absurd (many-cut (machine_in ns s) at d ms q e)
    placed-find (suc n) at [] q t c m e v = absurd (many-over (machine_in ns s) n at q e)
    placed-find (suc n) at (d ∷ ms) q t c m e v =
        let a = many_more (machine_in ns s) n at d ms q e in
        let r = machine-value ns s at d a.0 a.1 in
        let k = placed-step short n at t d a.0 r in
        let l : length ns ≤ length (set t k.0 r.to-initial) = omega (arith, length-set t k.0 r.to-initial) in
        subst (λ l. PlaceAt c (get_or l i 0)) (sym k.3)
        (go a.0 r k.0 k.1 k.2 (machine_of ms (name_at ns i)) refl (eq_name d.name (name_at ns i)) refl v
        (λ f. placed-find n a.0 ms q (set t k.0 r.to-initial) c l a.2 f)
        (λ f. placed-miss n a.0 ms q (set t k.0 r.to-initial) a.2 f))
      where
        go : (p : ℕ) (r : MachineRead ns s at d p) (x : ℕ) → x < length ns → name_at ns x ≡ d.name → (o : Option MachineDef) → machine_of ms (name_at ns i) ≡ o → (b : Bool) → eq_name d.name (name_at ns i) ≡ b → first_of o (cond b (some d) none) ≡ some c
            → (machine_of ms (name_at ns i) ≡ some c → PlaceAt c (get_or (placed_from ns s n p (set t x r.to-initial)) i 0))
            → (machine_of ms (name_at ns i) ≡ none → get_or (placed_from ns s n p (set t x r.to-initial)) i 0 ≡ get_or (set t x r.to-initial) i 0)
            → PlaceAt c (get_or (placed_from ns s n p (set t x r.to-initial)) i 0)
        go p r x l h (some u) f b g y ih jh = ih (f ∙ y)
        go p r x l h none f true g y ih jh =
            let j : d ≡ c = cc in
            subst (λ k. PlaceAt k (get_or (placed_from ns s n p (set t x r.to-initial)) i 0)) j
            (record { at = at; q = p; read = r; here = sym (jh f ∙ same t x r.to-initial d.name m l h g) })
        go p r x l h none f false g y ih jh = let z : ◌≡◌ {A = ℕ} 0 1 = cc in absurd (omega arith)

-- the table of the pack's machines
pub record Places (ns : List Name) (s : List ℕ) (ms : List MachineDef) (to : List ℕ) : Type 0 where
  pub misses : (i : ℕ) → i < length ns → machine_of ms (name_at ns i) ≡ none → get_or to i 0 ≡ 0
  pub hits : (i : ℕ) (d : MachineDef) → i < length ns → machine_of ms (name_at ns i) ≡ some d → get_or to i 0 ≡ 0 → ⊥
  pub finds : (i : ℕ) (d : MachineDef) → i < length ns → machine_of ms (name_at ns i) ≡ some d → Found ns s (λ j. get_or to j 0) i d

-- at offset 0 stands the count of names, which is no index: no initial state stands there
never_first : (ns : List Name) (s : List ℕ) (d : MachineDef) → NamesAre s ns → PlaceAt ns s d 0 → ⊥
never_first ns s d h p =
    let r = p.read in
    let i = name-number ns s r.to-initial d.initial r.head.to-states r.head.initial in
    let e : value i.i r.head.to-states ≡ value (length ns) h.count.0 = sym i.is ∙ ap (u16 s) p.here ∙ h.count.1 in
    let k : i.i ≡ length ns = cc in
    omega (arith, i.small)

found_at : (ns : List Name) (s : List ℕ) (place : ℕ → ℕ) (i : ℕ) (d : MachineDef) → PlaceAt ns s d (place i) → Found ns s place i d
unfolding state_at
found_at ns s place i d p =
    let r = p.read in
    record { k = r.k; b = r.b; q = p.q; xs = r.xs; head = subst (λ w. MachineAt ns s w d.initial r.k r.b) p.here r.head; reads = r.inside; same = r.same }

pub machines-placed : (ns : List Name) (s : List ℕ) (at : ℕ) (ms : List MachineDef) (q : ℕ) (t : List ℕ) → length s ≤ 65536 → NamesAre s ns → length ns ≤ length t → ((i : ℕ) → get_or t i 0 ≡ 0) → counted (machine_in ns s) s at ≡ value ms q → Places ns s ms (machines_placed ns s at t)
unfolding machines_placed counted
machines-placed ns s at ms q t short h l z e =
    let b = bind-value (u16 s at) _ ms q e in
    subst (Places ns s ms) (sym (number-to s at b.0 b.1 (λ n p. placed_from ns s n p t) b.2))
    (record {
      misses = λ i k m. placed-miss ns s short h.fresh i k b.0 b.1 ms q t b.3 m ∙ z i;
      hits = λ i d k m y. never_first ns s d h (subst (PlaceAt ns s d) y (placed-find ns s short h.fresh i k b.0 b.1 ms q t d l b.3 m));
      finds = λ i d k m. found_at ns s (λ j. get_or (placed_from ns s b.0 b.1 t) j 0) i d (placed-find ns s short h.fresh i k b.0 b.1 ms q t d l b.3 m);
    })
