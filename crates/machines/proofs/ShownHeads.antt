-- A node up to its equations, as the code writes it by the tables, is what the shares make of it.
use Prim.Native.Nat.{ℕ, ◌+◌, ◌-◌, ◌<◌}
use native.Mathlib.Omega.{arith}
use mathlib.Core.List.{List, [], ◌∷◌, ◌++◌, append_assoc}
use mathlib.Core.Option.{Option, none, some}
use mathlib.Core.Path.{◌≡◌, refl, sym, ap, ◌∙◌}
use lib.ListN.{length, get_or}
use Rattle.wire.specs.Answer.{u16, value}
use Rattle.wire.specs.Bytes.{two}
use Rattle.wire.specs.Lists.{All}
use Rattle.wire.specs.Writer.{State, puts}
use Rattle.pack_rules.specs.Limits.{absent}
use Rattle.pack_rules.specs.Names.{Name}
use Rattle.pack_rules.specs.Syntax.{Node, NodeKind, Port}
use Rattle.machine_rules.specs.Resolved.{ResolvedMachine}
use Rattle.pack_rules.specs.Forms.{name_at}
use Rattle.pack_rules.specs.Legal.{Each, Known, LegalName, place}
use Rattle.pack_rules.specs.Read.{kind_of, node_in, optional_in, ports_in}
use Rattle.pack_rules.specs.Write.{Item, each, equation_items, kind_byte, list, nm, port_items, raw}
use Rattle.pack.specs.Table.{tabled}
use Rattle.pack.specs.Intern.{render}
use Rattle.pack.proofs.Tables.{code, place-at-name}
use Rattle.pack.proofs.Interns.{render-append}
use Rattle.pack.proofs.Copies.{lies-both, lies-head, lies-ports, lies-ports-rest, render-known}
use Rattle.machine_rules.specs.Lower.{equations_of, locals_of}
use Rattle.machine_rules.specs.Resolve.{as_machine}
use Rattle.machines.specs.Layout.{slice_of}
use Rattle.machines.specs.Sections.{Share, added_count, adds_items, continued, equation_count, head_of, holding_items, local_count, share_machine}
use Rattle.machines.specs.CheckedReads.{number_in, with}
use Rattle.machines.specs.TableMeaning.{PackOf, Shown, ShownAt}
use Rattle.machines.specs.AddedAt.{added_locals_t, each_t, locals_in}
use Rattle.machines.specs.NodeHeads.{head_part, new_head_t, node_locals_t, old_head_t}
use Rattle.machines.proofs.Reading.{optional-none, optional-some}
use Rattle.machines.proofs.CheckedReadLaws.{number-to, then_to}
use Rattle.machines.proofs.AddedLaws.{small_is}
use Rattle.machines.proofs.ShownCounts.{brought-locals-shown, its-machine, its-read, locals-to, named, node-equations-to, node-locals-to, node-value, ports-number}
use Rattle.machines.proofs.ShownItems.{locals-written, raw-first}
use Rattle.machines.proofs.ListsShown.{copied}

-- a node is this part, and then its equations
pub holding-parts : (xs : List Share) (k : ℕ) (x : Node) → holding_items xs k x ≡ head_part xs k x ++ continued equation_items x.equations (added_count equation_count k xs) (each (adds_items equation_items equations_of k) xs)
unfolding holding_items head_part
holding-parts xs k x =
    let i = list port_items x.inputs in
    let o = list port_items x.outputs in
    let l = continued port_items x.locals (added_count local_count k xs) (each (adds_items port_items locals_of k) xs) in
    let e = continued equation_items x.equations (added_count equation_count k xs) (each (adds_items equation_items equations_of k) xs) in
    ap (λ (is : List Item). nm x.name ∷ raw (kind_byte x.kind ∷ []) ∷ is)
    (ap (λ (is : List Item). i ++ is) (sym (append_assoc o l e)) ∙ sym (append_assoc i (o ++ l) e))

new-part : (xs : List Share) (k : ℕ) (m : ResolvedMachine) (old : List ℕ) (z : State)
    → render old (nm m.name ∷ raw (1 ∷ []) ∷ (list port_items m.inputs ++ (list port_items m.outputs ++ continued port_items [] (added_count local_count k xs) (each (adds_items port_items locals_of k) xs)))) z
    ≡ render old (head_part xs k (head_of m)) z
unfolding head_part head_of kind_byte
new-part xs k m old z = refl

-- a name by its number
name-put : (ns : List Name) (n : Name) (z : State) → All LegalName ns → Known ns n → puts (two (place ns n)) z ≡ render (tabled ns) (nm n ∷ []) z
unfolding code two Each
name-put ns n z a k = sym (render-known ns (nm n ∷ []) z a (k, tt))

-- an owner is read as a number
owner-number : (ns : List Name) (s : List ℕ) (at : ℕ) (o : Option Name) (q : ℕ) → optional_in ns s at ≡ value o q → (i : ℕ) × (u16 s at ≡ value i q)
owner-number ns s at none q e = (absent, optional-none ns s at q e)
owner-number ns s at (some o) q e = let r = optional-some ns s at o q e in (r.i, r.is)

module _ (ns : List Name) (s old offsets : List ℕ) (P : PackOf ns s old offsets) (defs receivers regcounts : List ℕ) (xs : List Share) (h : Shown ns s defs receivers regcounts 0 xs) (k : ℕ) where
  more : List Item
  more = each (adds_items port_items locals_of k) xs

  -- locals that go on
  pub locals-go-on : (at : ℕ) (ls : List Port) (e : ℕ) → ports_in ns s at ≡ value ls e → (z : State)
      → render old (node_locals_t ns s defs receivers regcounts offsets (length xs) k (length ls) (at + 2) e) z ≡ render old (continued port_items ls (added_count local_count k xs) (each (adds_items port_items locals_of k) xs)) z
  unfolding node_locals_t continued more
  locals-go-on at ls e r z =
      let l = lies-ports-rest ns P.fresh P.few s P.bytes at ls e r in
      let c = small_is (length ls) (ports-number ns s old offsets P at ls e r).1 in
      let b = brought-locals-shown ns s old offsets P defs receivers regcounts k 0 xs h in
      let y = puts (two (length ls + added_count local_count k xs)) z in
      (λ j. render old (raw (two (sym c j + b j)) ∷ raw (slice_of s (at + 2) (e - (at + 2))) ∷ each_t (added_locals_t ns s defs receivers regcounts offsets k) (length xs) 0) z)
      ∙ raw-first old _ _ z
      ∙ raw-first old _ _ y
      ∙ locals-written ns s old offsets P defs receivers regcounts k xs h (puts (slice_of s (at + 2) (e - (at + 2))) y)
      ∙ ap (render old more) (copied ns s old offsets P (at + 2) (each port_items ls) e l y)
      ∙ sym (render-append old (each port_items ls) more y)
      ∙ sym (raw-first old (two (length ls + added_count local_count k xs)) (each port_items ls ++ more) z)

  -- THE LAW: an old node up to its equations
  pub old-head-written : (at : ℕ) (x : Node) (q : ℕ) → node_in ns s at ≡ value x q → (z : State) → render old (old_head_t ns s defs receivers regcounts offsets (length xs) k at) z ≡ render old (head_part xs k x) z
  unfolding old_head_t head_part
  old-head-written at x q r z =
      let d = node-value ns s at x q r in
      let l = lies-head ns P.fresh P.few s P.bytes at x.name d.to-kind d.kind d.to-inputs x.inputs d.to-outputs x.outputs d.to-locals d.name d.byte d.inputs d.outputs in
      let el = node-locals-to ns s at x q d in
      let ee = node-equations-to ns s at x q d in
      let n = (ports-number ns s old offsets P d.to-locals x.locals d.to-equations d.locals).0 in
      let f : ℕ → ℕ → List Item = λ v b. node_locals_t ns s defs receivers regcounts offsets (length xs) k v b d.to-equations in
      let rest = continued port_items x.locals (added_count local_count k xs) (each (adds_items port_items locals_of k) xs) in
      let front : NodeKind → List Item = λ t. nm x.name ∷ raw (kind_byte t ∷ []) ∷ (list port_items x.inputs ++ list port_items x.outputs) in
      (λ j. render old (raw (slice_of s at (el j - at)) ∷ with (number_in s (el j)) (λ v b. node_locals_t ns s defs receivers regcounts offsets (length xs) k v b (ee j))) z)
      ∙ ap (λ (is : List Item). render old (raw (slice_of s at (d.to-locals - at)) ∷ is) z) (then_to (number_in s d.to-locals) (length x.locals) (d.to-locals + 2) f n)
      ∙ raw-first old _ _ z
      ∙ locals-go-on d.to-locals x.locals d.to-equations d.locals (puts (slice_of s at (d.to-locals - at)) z)
      ∙ ap (render old rest) (copied ns s old offsets P at (front (kind_of ns s d.kind)) d.to-locals l z)
      ∙ sym (render-append old (front (kind_of ns s d.kind)) rest z)
      ∙ ap (λ t. render old (front t ++ rest) z) d.same
      ∙ ap (λ (is : List Item). render old (nm x.name ∷ raw (kind_byte x.kind ∷ []) ∷ is) z) (append_assoc (list port_items x.inputs) (list port_items x.outputs) rest)

  -- a node that has no locals of its own
  locals-begin : (z : State) → render old (node_locals_t ns s defs receivers regcounts offsets (length xs) k 0 0 0) z ≡ render old (continued port_items [] (added_count local_count k xs) (each (adds_items port_items locals_of k) xs)) z
  unfolding node_locals_t continued more each slice_of puts
  locals-begin z =
      let c = small_is 0 (omega arith) in
      let b = brought-locals-shown ns s old offsets P defs receivers regcounts k 0 xs h in
      let y = puts (two (0 + added_count local_count k xs)) z in
      (λ j. render old (raw (two (sym c j + b j)) ∷ raw (slice_of s 0 0) ∷ each_t (added_locals_t ns s defs receivers regcounts offsets k) (length xs) 0) z)
      ∙ raw-first old _ _ z
      ∙ raw-first old [] _ y
      ∙ locals-written ns s old offsets P defs receivers regcounts k xs h y
      ∙ sym (raw-first old (two (0 + added_count local_count k xs)) more z)

  name-number-put : (i : ℕ) (n : Name) (is : List Item) (z : State) → i < length ns → name_at ns i ≡ n → render old (raw (two i) ∷ is) z ≡ render old (nm n ∷ is) z
  name-number-put i n is z l e =
      let p : place ns n ≡ i = ap (place ns) (sym e) ∙ place-at-name ns i P.fresh l in
      raw-first old (two i) is z
      ∙ ap (render old is) (ap (λ y. puts (two y) z) (sym p) ∙ name-put ns n z P.legal (omega arith) ∙ ap (λ o. render o (nm n ∷ []) z) (sym P.names))
      ∙ sym (render-append old (nm n ∷ []) is z)

  -- THE LAW: the node that a machine without owner begins, up to its equations
  pub new-head-written : (i : ℕ) (x : Share) (g : ShownAt ns s defs receivers regcounts i x) → (z : State) → render old (new_head_t ns s defs receivers regcounts offsets (length xs) k (get_or defs i 0)) z ≡ render old (head_part xs k (head_of (share_machine x))) z
  unfolding new_head_t as_machine
  new-head-written i x g z =
      let at = get_or defs i 0 in
      let r = its-read ns s old offsets P defs receivers regcounts i x g in
      let n = named ns s old offsets P at g.drawing g.end r in
      let el = locals-to ns s old offsets P at g.drawing g.end r in
      let own = owner-number ns s r.to-owner g.drawing.owner r.to-inputs r.owner in
      let ins = g.drawing.inputs in
      let outs = g.drawing.outputs in
      let l = lies-both ns s r.to-inputs (list port_items ins) r.to-outputs (list port_items outs) r.to-locals
      (lies-ports ns P.fresh P.few s P.bytes r.to-inputs ins r.to-outputs r.inputs)
      (lies-ports ns P.fresh P.few s P.bytes r.to-outputs outs r.to-locals r.outputs) in
      let tail = node_locals_t ns s defs receivers regcounts offsets (length xs) k 0 0 0 in
      let rest = continued port_items [] (added_count local_count k xs) (each (adds_items port_items locals_of k) xs) in
      let is = raw (1 ∷ []) ∷ raw (slice_of s r.to-inputs (r.to-locals - r.to-inputs)) ∷ tail in
      let a = puts (1 ∷ []) (render old (nm g.drawing.name ∷ []) z) in
      ap (λ (js : List Item). render old js z)
      (number-to s at n.i r.to-owner (λ m p. with (number_in s p) (λ o b. raw (two m) ∷ raw (1 ∷ []) ∷ raw (slice_of s b (locals_in ns s at - b)) ∷ tail)) n.is
      ∙ number-to s r.to-owner own.0 r.to-inputs (λ o b. raw (two n.i) ∷ raw (1 ∷ []) ∷ raw (slice_of s b (locals_in ns s at - b)) ∷ tail) own.1
      ∙ ap (λ y. raw (two n.i) ∷ raw (1 ∷ []) ∷ raw (slice_of s r.to-inputs (y - r.to-inputs)) ∷ tail) el)
      ∙ name-number-put n.i g.drawing.name is z n.small n.named
      ∙ render-append old (nm g.drawing.name ∷ []) is z
      ∙ raw-first old (1 ∷ []) _ (render old (nm g.drawing.name ∷ []) z)
      ∙ raw-first old _ tail a
      ∙ locals-begin (puts (slice_of s r.to-inputs (r.to-locals - r.to-inputs)) a)
      ∙ ap (render old rest) (copied ns s old offsets P r.to-inputs (list port_items ins ++ list port_items outs) r.to-locals l a)
      ∙ sym (render-append old (list port_items ins ++ list port_items outs) rest a)
      ∙ sym (raw-first old (1 ∷ []) ((list port_items ins ++ list port_items outs) ++ rest) (render old (nm g.drawing.name ∷ []) z))
      ∙ sym (render-append old (nm g.drawing.name ∷ []) (raw (1 ∷ []) ∷ ((list port_items ins ++ list port_items outs) ++ rest)) z)
      ∙ ap (λ (js : List Item). render old (nm g.drawing.name ∷ raw (1 ∷ []) ∷ js) z) (append_assoc (list port_items ins) (list port_items outs) rest)
      ∙ new-part xs k (as_machine g.drawing g.states) old z
      ∙ ap (λ m. render old (head_part xs k (head_of m)) z) (sym (its-machine ns s old offsets P defs receivers regcounts i x g))
