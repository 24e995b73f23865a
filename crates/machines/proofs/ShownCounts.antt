-- What the code counts by the tables is what the shares bring.
use Prim.Native.Nat.{ℕ, zero, suc, ◌+◌, ◌*◌, ◌-◌, ◌<◌}
use native.Mathlib.Omega.{arith}
use mathlib.Core.List.{List, [], ◌∷◌}
use mathlib.Core.Bool.{cond}
use mathlib.Core.Option.{Option, none, some}
use mathlib.Core.Path.{◌≡◌, refl, sym, ap, ◌∙◌}
use lib.ListN.{length, get_or}
use lib.Dec.{eqb}
use borrow.Author.Tests.{ne_eqb, lt-ltb}
use Rattle.wire.specs.Answer.{below, byte, counted, many, u16, value}
use Rattle.wire.specs.Code.{onward}
use Rattle.wire.proofs.Answers.{bind-value, guard-value, many-length, map-value, u16-value}
use Rattle.pack_rules.specs.Limits.{absent}
use Rattle.pack_rules.specs.Names.{Name}
use Rattle.pack_rules.specs.Syntax.{Equation, MachineDef, Node, Port}
use Rattle.machine_rules.specs.Resolved.{ResolvedMachine}
use Rattle.pack_rules.specs.Read.{equation_in, equations_in, kind_of, name_in, node_in, optional_in, port_in, ports_in}
use Rattle.pack.specs.Verdict.{offset_of}
use Rattle.pack.proofs.PartFormats.{fmt_equations, fmt_ports}
use Rattle.machine_rules.specs.Resolve.{as_machine}
use Rattle.machine_rules.specs.Lower.{size_s}
use Rattle.machines.specs.Sections.{Fate, Share, added_count, adds_count, alone, enum_count, equation_count, fate_machine, fate_of, head_count, into, local_count, old_count, origin_count, share_machine, total}
use Rattle.machines.specs.ResolvedIn.{end_of}
use Rattle.machines.specs.CheckedReads.{num, number_in, with}
use Rattle.machines.specs.TableMeaning.{PackOf, Shown, ShownAt}
use Rattle.machines.specs.AddedAt.{adds_equations_t, adds_locals_t, equation_count_t, local_count_t, locals_in, made_of, node_equations_in, node_locals_in, old_t, owned_t, regions_t, small_of, total_t}
use Rattle.machines.proofs.Reading.{MachineRead, NumberIs, machine-value, many-cut, many_more, many-over, name-number, optional-none, optional-some}
use Rattle.machines.proofs.MachinesPlaced.{onward-to, outputs-to}
use Rattle.machines.proofs.CheckedReadLaws.{byte-to, end-to, number-num, number-to, then_to}
use Rattle.machines.proofs.AddedLaws.{small_is}

pub fate-machine : (o : Option Name) (m : ResolvedMachine) → fate_machine (fate_of o m) ≡ m
unfolding fate_machine fate_of
fate-machine none m = refl
fate-machine (some o) m = refl

made-small : (k own z : ℕ) → suc z ≡ k → k < 65536 → own < 65536 → made_of k own ≡ (2 + 3 * z) + own
unfolding made_of small_of
made-small k own z e h l = rw (lt-ltb k 65536 h, lt-ltb own 65536 l) (let i : k - 1 ≡ z = omega arith in omega arith)

-- a share begins a node or has an origin
head-or-origin : (f : Fate) → head_count f + origin_count f ≡ 1
unfolding head_count origin_count
head-or-origin (alone m) = refl
head-or-origin (into o m) = refl

pub heads-origins : (xs : List Share) → total (λ (x : Share). head_count x.fate) xs + total (λ (x : Share). origin_count x.fate) xs ≡ length xs
unfolding total
heads-origins [] = refl
heads-origins (x ∷ xs) = let a = heads-origins xs in let b = head-or-origin x.fate in omega arith

-- an owner, as it was read
module _ (ns : List Name) (s : List ℕ) where
  owner-none : (at q : ℕ) (m : ResolvedMachine) → optional_in ns s at ≡ value none q → with (number_in s at) (λ o q. cond (eqb o absent) 0 1) ≡ origin_count (fate_of none m)
  unfolding origin_count fate_of
  owner-none at q m e = number-to s at absent q _ (optional-none ns s at q e) ∙ refl

  owner-some : (at q : ℕ) (o : Name) (m : ResolvedMachine) → optional_in ns s at ≡ value (some o) q → with (number_in s at) (λ o q. cond (eqb o absent) 0 1) ≡ origin_count (fate_of (some o) m)
  unfolding origin_count fate_of
  owner-some at q o m e =
      let i = optional-some ns s at o q e in
      number-to s at i.i q _ i.is ∙ (rw (ne_eqb i.i absent i.present))

-- what reading a node says, part by part
pub record NodeRead (ns : List Name) (s : List ℕ) (at : ℕ) (x : Node) (q : ℕ) : Type 0 where
  pub to-kind : ℕ
  pub to-inputs : ℕ
  pub to-outputs : ℕ
  pub to-locals : ℕ
  pub to-equations : ℕ
  pub kind : ℕ
  pub same : kind_of ns s kind ≡ x.kind
  pub name : name_in ns s at ≡ value x.name to-kind
  pub byte : below 3 s to-kind ≡ value kind to-inputs
  pub inputs : ports_in ns s to-inputs ≡ value x.inputs to-outputs
  pub outputs : ports_in ns s to-outputs ≡ value x.outputs to-locals
  pub locals : ports_in ns s to-locals ≡ value x.locals to-equations
  pub equations : equations_in ns s to-equations ≡ value x.equations q

pub node-value : (ns : List Name) (s : List ℕ) (at : ℕ) (x : Node) (q : ℕ) → node_in ns s at ≡ value x q → NodeRead ns s at x q
unfolding node_in
node-value ns s at x q e =
    let a = bind-value (name_in ns s at) _ x q e in
    let k = bind-value (below 3 s a.1) _ x q a.3 in
    let i = bind-value (ports_in ns s k.1) _ x q k.3 in
    let o = bind-value (ports_in ns s i.1) _ x q i.3 in
    let l = bind-value (ports_in ns s o.1) _ x q o.3 in
    let g = map-value _ (equations_in ns s l.1) x q l.3 in
    let same = g.2 in
    record {
      to-kind = a.1;
      to-inputs = k.1;
      to-outputs = i.1;
      to-locals = o.1;
      to-equations = l.1;
      kind = k.0;
      same = ap (λ (y : Node). y.kind) same;
      name = a.2 ∙ ap (λ (y : Node). value y.name a.1) same;
      byte = k.2;
      inputs = i.2 ∙ ap (λ (y : Node). value y.inputs i.1) same;
      outputs = o.2 ∙ ap (λ (y : Node). value y.outputs o.1) same;
      locals = l.2 ∙ ap (λ (y : Node). value y.locals l.1) same;
      equations = g.1 ∙ ap (λ (y : Node). value y.equations q) same;
    }

-- the parts of a node that was read
module _ (ns : List Name) (s : List ℕ) (at : ℕ) (x : Node) (q : ℕ) (r : NodeRead ns s at x q) where
  pub node-locals-to : node_locals_in ns s at ≡ r.to-locals
  unfolding node_locals_in offset_of below
  node-locals-to =
      let n = name-number ns s at x.name r.to-kind r.name in
      let b = guard-value _ r.to-kind (byte s r.to-kind) r.kind r.to-inputs r.byte in
      number-to s at n.i r.to-kind _ n.is
      ∙ byte-to s r.to-kind r.kind r.to-inputs _ b.0
      ∙ ap (λ y. offset_of (onward (ports_in ns s) y)) (onward-to (ports_in ns s) r.to-inputs x.inputs r.to-outputs r.inputs)
      ∙ ap offset_of (onward-to (ports_in ns s) r.to-outputs x.outputs r.to-locals r.outputs)

  pub node-equations-to : node_equations_in ns s at ≡ r.to-equations
  unfolding node_equations_in
  node-equations-to = ap (λ y. end_of (ports_in ns s y)) node-locals-to ∙ end-to (ports_in ns s r.to-locals) x.locals r.to-equations r.locals

  pub node-end-to : end_of (equations_in ns s (node_equations_in ns s at)) ≡ q
  node-end-to = ap (λ y. end_of (equations_in ns s y)) node-equations-to ∙ end-to (equations_in ns s r.to-equations) x.equations q r.equations

module _ (ns : List Name) (s old offsets : List ℕ) (P : PackOf ns s old offsets) where
  -- the count of ports, of equations
  pub ports-number : (at : ℕ) (ps : List Port) (q : ℕ) → ports_in ns s at ≡ value ps q → (number_in s at ≡ num (length ps) (at + 2)) × (length ps < 65536)
  unfolding ports_in counted
  ports-number at ps q e =
      let b = bind-value (u16 s at) _ ps q e in
      let n = many-length (port_in ns s) b.0 b.1 ps q b.3 in
      let v = u16-value s at b.0 b.1 b.2 in
      (number-num s at b.0 b.1 b.2 ∙ (λ j. num (sym n j) (v.to j)), ((fmt_ports ns P.fresh P.few).legal s P.bytes at ps q e).0.0)

  pub equations-number : (at : ℕ) (es : List Equation) (q : ℕ) → equations_in ns s at ≡ value es q → (number_in s at ≡ num (length es) (at + 2)) × (length es < 65536)
  unfolding equations_in counted
  equations-number at es q e =
      let b = bind-value (u16 s at) _ es q e in
      let n = many-length (equation_in ns s) b.0 b.1 es q b.3 in
      let v = u16-value s at b.0 b.1 b.2 in
      (number-num s at b.0 b.1 b.2 ∙ (λ j. num (sym n j) (v.to j)), ((fmt_equations ns P.fresh P.few).legal s P.bytes at es q e).0.0)

  -- the parts of a machine that was read
  module _ (at : ℕ) (d : MachineDef) (q : ℕ) (r : MachineRead ns s at d q) where
    pub named : NumberIs ns s at d.name r.to-owner
    named = name-number ns s at d.name r.to-owner r.name

    pub locals-to : locals_in ns s at ≡ r.to-locals
    unfolding locals_in
    locals-to =
        number-to s at named.i r.to-owner _ named.is
        ∙ ap (λ y. end_of (ports_in ns s y)) (outputs-to ns s at d q r)
        ∙ end-to (ports_in ns s r.to-outputs) d.outputs r.to-locals r.outputs

    pub equations-to : (k : ℕ) → equation_count_t ns s at k ≡ made_of k (length d.outputs)
    unfolding equation_count_t
    equations-to k =
        number-to s at named.i r.to-owner _ named.is
        ∙ ap (λ y. with (number_in s y) (λ v q. made_of k v)) (outputs-to ns s at d q r)
        ∙ then_to (number_in s r.to-outputs) (length d.outputs) (r.to-outputs + 2) (λ v q. made_of k v) (ports-number r.to-outputs d.outputs r.to-locals r.outputs).0

    pub local-count-to : (k : ℕ) → local_count_t ns s at k ≡ made_of k (length d.locals)
    unfolding local_count_t
    local-count-to k =
        ap (λ y. with (number_in s y) (λ v q. made_of k v)) locals-to
        ∙ then_to (number_in s r.to-locals) (length d.locals) (r.to-locals + 2) (λ v q. made_of k v) (ports-number r.to-locals d.locals r.to-initial r.locals).0

  module _ (defs receivers regcounts : List ℕ) where
    -- one share
    module _ (i : ℕ) (x : Share) (h : ShownAt ns s defs receivers regcounts i x) where
      pub its-machine : share_machine x ≡ as_machine h.drawing h.states
      unfolding share_machine
      its-machine = ap fate_machine h.fate ∙ fate-machine h.drawing.owner (as_machine h.drawing h.states)

      pub its-read : MachineRead ns s (get_or defs i 0) h.drawing h.end
      its-read = machine-value ns s (get_or defs i 0) h.drawing h.end h.read

      pub equations-shown : equation_count_t ns s (get_or defs i 0) (get_or regcounts i 0) ≡ equation_count (share_machine x)
      unfolding equation_count as_machine
      equations-shown =
          let r = its-read in
          let l = (ports-number r.to-outputs h.drawing.outputs r.to-locals r.outputs).1 in
          equations-to (get_or defs i 0) h.drawing h.end r (get_or regcounts i 0)
          ∙ made-small (get_or regcounts i 0) (length h.drawing.outputs) (size_s h.states) h.regions h.few_regions l
          ∙ (omega arith)
          ∙ ap equation_count (sym its-machine)

      pub locals-shown : local_count_t ns s (get_or defs i 0) (get_or regcounts i 0) ≡ local_count (share_machine x)
      unfolding local_count as_machine
      locals-shown =
          let r = its-read in
          let l = (ports-number r.to-locals h.drawing.locals r.to-initial r.locals).1 in
          local-count-to (get_or defs i 0) h.drawing h.end r (get_or regcounts i 0)
          ∙ made-small (get_or regcounts i 0) (length h.drawing.locals) (size_s h.states) h.regions h.few_regions l
          ∙ (omega arith)
          ∙ ap local_count (sym its-machine)

      pub enums-shown : regions_t regcounts i ≡ enum_count (share_machine x)
      unfolding regions_t small_of enum_count as_machine
      enums-shown = rw (lt-ltb (get_or regcounts i 0) 65536 h.few_regions) (sym h.regions ∙ ap enum_count (sym its-machine))

      pub brings-equations-shown : (k : ℕ) → adds_equations_t ns s defs receivers regcounts k i ≡ adds_count equation_count k x
      unfolding adds_equations_t adds_count
      brings-equations-shown k = λ j. cond (eqb (sym h.at j) k) (equations-shown j) 0

      brings-locals-shown : (k : ℕ) → adds_locals_t ns s defs receivers regcounts k i ≡ adds_count local_count k x
      unfolding adds_locals_t adds_count
      brings-locals-shown k = λ j. cond (eqb (sym h.at j) k) (locals-shown j) 0

      -- whether it has an owner
      pub owned-shown : owned_t s defs i ≡ origin_count x.fate
      unfolding owned_t
      owned-shown =
          let r = its-read in
          let n = named (get_or defs i 0) h.drawing h.end r in
          number-to s (get_or defs i 0) n.i r.to-owner _ n.is ∙ go h.drawing.owner r.owner ∙ ap origin_count (sym h.fate)
        where
          go : (o : Option Name) → optional_in ns s its-read.to-owner ≡ value o its-read.to-inputs → with (number_in s its-read.to-owner) (λ o q. cond (eqb o absent) 0 1) ≡ origin_count (fate_of o (as_machine h.drawing h.states))
          go none e = owner-none ns s its-read.to-owner its-read.to-inputs (as_machine h.drawing h.states) e
          go (some o) e = owner-some ns s its-read.to-owner its-read.to-inputs o (as_machine h.drawing h.states) e

    -- all shares from an index on
    pub total-shown : (f : ℕ → ℕ) (g : Share → ℕ) → ((i : ℕ) (x : Share) → ShownAt ns s defs receivers regcounts i x → f i ≡ g x) → (i : ℕ) (xs : List Share) → Shown ns s defs receivers regcounts i xs → total_t f (length xs) i ≡ total g xs
    unfolding Shown total_t total
    total-shown f g e i [] h = refl
    total-shown f g e i (x ∷ xs) h = λ j. e i x h.0 j + total-shown f g e (suc i) xs h.1 j

    pub brought-equations-shown : (k i : ℕ) (xs : List Share) → Shown ns s defs receivers regcounts i xs → total_t (adds_equations_t ns s defs receivers regcounts k) (length xs) i ≡ added_count equation_count k xs
    unfolding added_count
    brought-equations-shown k i xs h = total-shown _ _ (λ i x h. brings-equations-shown i x h k) i xs h

    pub brought-locals-shown : (k i : ℕ) (xs : List Share) → Shown ns s defs receivers regcounts i xs → total_t (adds_locals_t ns s defs receivers regcounts k) (length xs) i ≡ added_count local_count k xs
    unfolding added_count
    brought-locals-shown k i xs h = total-shown _ _ (λ i x h. brings-locals-shown i x h k) i xs h

    pub regions-shown : (i : ℕ) (xs : List Share) → Shown ns s defs receivers regcounts i xs → total_t (regions_t regcounts) (length xs) i ≡ total (λ (x : Share). enum_count (share_machine x)) xs
    regions-shown i xs h = total-shown (regions_t regcounts) _ enums-shown i xs h

    pub owners-shown : (i : ℕ) (xs : List Share) → Shown ns s defs receivers regcounts i xs → total_t (owned_t s defs) (length xs) i ≡ total (λ (x : Share). origin_count x.fate) xs
    owners-shown i xs h = total-shown (owned_t s defs) _ owned-shown i xs h

  -- how many equations an old node has
  pub old-shown : (n at : ℕ) (xs : List Node) (q k : ℕ) → many (node_in ns s) n at ≡ value xs q → old_t ns s n at k ≡ old_count xs k
  unfolding old_t old_count
  old-shown zero at [] q k e = refl
  old-shown zero at (x ∷ xs) q k e = absurd (many-cut (node_in ns s) at x xs q e)
  old-shown (suc n) at [] q k e = absurd (many-over (node_in ns s) n at q e)
  old-shown (suc n) at (x ∷ xs) q zero e =
      let a = many_more (node_in ns s) n at x xs q e in
      let r = node-value ns s at x a.0 a.1 in
      let c = equations-number r.to-equations x.equations a.0 r.equations in
      ap (λ y. with (number_in s y) (λ v q. small_of v)) (node-equations-to ns s at x a.0 r)
      ∙ then_to (number_in s r.to-equations) (length x.equations) (r.to-equations + 2) (λ v q. small_of v) c.0
      ∙ sym (small_is (length x.equations) c.1)
  old-shown (suc n) at (x ∷ xs) q (suc k) e =
      let a = many_more (node_in ns s) n at x xs q e in
      ap (λ y. old_t ns s n y k) (node-end-to ns s at x a.0 (node-value ns s at x a.0 a.1))
      ∙ old-shown n a.0 xs q k a.2
