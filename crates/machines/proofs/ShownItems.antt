-- What the code writes by the tables is what the shares bring: locals, and origins.
use Prim.Native.Nat.{ℕ, suc, ◌+◌, ◌-◌}
use native.Mathlib.Omega.{arith}
use mathlib.Core.List.{List, [], ◌∷◌, ◌++◌}
use mathlib.Core.Bool.{Bool, true, false, cond}
use mathlib.Core.Path.{◌≡◌, refl, sym, ap, ◌∙◌}
use lib.ListN.{length, get_or}
use lib.Dec.{eqb}
use Rattle.wire.specs.Writer.{State, puts}
use Rattle.pack_rules.specs.Names.{Name}
use Rattle.pack_rules.specs.Syntax.{Port}
use Rattle.machine_rules.specs.Resolved.{ResolvedMachine}
use Rattle.pack_rules.specs.Read.{ports_in}
use Rattle.pack_rules.specs.Write.{Item, each, port_items, raw}
use Rattle.pack.specs.Intern.{put_item, render}
use Rattle.pack.proofs.Interns.{render-append}
use Rattle.pack.proofs.Copies.{lies-copied, lies-ports-rest}
use Rattle.machine_rules.specs.Resolve.{as_machine}
use Rattle.machine_rules.specs.Lower.{locals_of, locals_s, region_locals, size_s}
use Rattle.machines.specs.Locals.{inner_locals}
use Rattle.machines.specs.Layout.{slice_of}
use Rattle.machines.specs.Sections.{Share, adds_items, share_machine}
use Rattle.machines.specs.CheckedReads.{num}
use Rattle.machines.specs.TableMeaning.{PackOf, Shown, ShownAt}
use Rattle.machines.specs.AddedAt.{added_locals_t, each_t, locals_t}
use Rattle.machines.proofs.CheckedReadLaws.{end-to, number-num}
use Rattle.machines.proofs.LocalLaws.{each_append, locals-states}
use Rattle.machines.proofs.AddedLaws.{small_is}
use Rattle.machines.proofs.AddedItems.{locals-parts}
use Rattle.machines.proofs.ShownCounts.{its-machine, its-read, locals-to, named, ports-number}

-- loops over shares
pub each-shown : (old : List ℕ) (ns : List Name) (s defs receivers regcounts : List ℕ) (f : ℕ → List Item) (g : Share → List Item) → ((i : ℕ) (x : Share) → ShownAt ns s defs receivers regcounts i x → (z : State) → render old (f i) z ≡ render old (g x) z)
    → (i : ℕ) (xs : List Share) → Shown ns s defs receivers regcounts i xs → (z : State) → render old (each_t f (length xs) i) z ≡ render old (each g xs) z
unfolding Shown each_t each
each-shown old ns s defs receivers regcounts f g e i [] h z = refl
each-shown old ns s defs receivers regcounts f g e i (x ∷ xs) h z =
    render-append old (f i) (each_t f (length xs) (suc i)) z
    ∙ ap (render old (each_t f (length xs) (suc i))) (e i x h.0 z)
    ∙ each-shown old ns s defs receivers regcounts f g e (suc i) xs h.1 (render old (g x) z)
    ∙ sym (render-append old (g x) (each g xs) z)

-- locals of a machine: those it has, those of the top region, those of the others
locals-split : (m : ResolvedMachine) → each port_items (locals_of m) ≡ each port_items m.locals ++ (each port_items (region_locals m.name 0) ++ each port_items (inner_locals m.name 1 (size_s m.states)))
unfolding locals_of
locals-split m =
    each_append port_items m.locals (region_locals m.name 0 ++ locals_s m.name 1 m.states)
    ∙ ap (λ (l : List Item). each port_items m.locals ++ l)
    (each_append port_items (region_locals m.name 0) (locals_s m.name 1 m.states)
    ∙ ap (λ (l : List Port). each port_items (region_locals m.name 0) ++ each port_items l) (locals-states m.name 1 m.states))

pub raw-first : (old xs : List ℕ) (is : List Item) (z : State) → render old (raw xs ∷ is) z ≡ render old is (puts xs z)
unfolding render put_item
raw-first old xs is z = refl

module _ (ns : List Name) (s old offsets : List ℕ) (P : PackOf ns s old offsets) (defs receivers regcounts : List ℕ) where
  module _ (i : ℕ) (x : Share) (h : ShownAt ns s defs receivers regcounts i x) where
    -- the locals of the machine, by the tables
    locals-here : locals_t ns s offsets (get_or defs i 0) (get_or regcounts i 0)
        ≡ raw (slice_of s ((its-read ns s old offsets P defs receivers regcounts i x h).to-locals + 2) ((its-read ns s old offsets P defs receivers regcounts i x h).to-initial - ((its-read ns s old offsets P defs receivers regcounts i x h).to-locals + 2)))
        ∷ (each port_items (region_locals h.drawing.name 0) ++ each port_items (inner_locals h.drawing.name 1 (size_s h.states)))
    locals-here =
        let r = its-read ns s old offsets P defs receivers regcounts i x h in
        let at = get_or defs i 0 in
        let n = named ns s old offsets P at h.drawing h.end r in
        let c = ports-number ns s old offsets P r.to-locals h.drawing.locals r.to-initial r.locals in
        let g = small_is (get_or regcounts i 0) h.few_regions in
        let e = h.regions in
        sym (locals-parts ns s offsets at (get_or regcounts i 0) (num n.i r.to-owner) h.drawing.name r.to-locals r.to-initial (num (length h.drawing.locals) (r.to-locals + 2)) _ (size_s h.states)
        (sym (number-num s at n.i r.to-owner n.is))
        (sym (P.placed n.i n.small ∙ n.named))
        (sym (locals-to ns s old offsets P at h.drawing h.end r))
        (sym (end-to (ports_in ns s r.to-locals) h.drawing.locals r.to-initial r.locals))
        (sym c.0)
        refl
        (omega arith))

    locals-one : (z : State) → render old (locals_t ns s offsets (get_or defs i 0) (get_or regcounts i 0)) z ≡ render old (each port_items (locals_of (share_machine x))) z
    unfolding slice_of as_machine
    locals-one z =
        let r = its-read ns s old offsets P defs receivers regcounts i x h in
        let l = lies-ports-rest ns P.fresh P.few s P.bytes r.to-locals h.drawing.locals r.to-initial r.locals in
        let rest = each port_items (region_locals h.drawing.name 0) ++ each port_items (inner_locals h.drawing.name 1 (size_s h.states)) in
        ap (λ (is : List Item). render old is z) locals-here
        ∙ raw-first old _ rest z
        ∙ ap (render old rest) (sym (lies-copied ns P.legal s (r.to-locals + 2) (each port_items h.drawing.locals) r.to-initial l z) ∙ ap (λ o. render o (each port_items h.drawing.locals) z) (sym P.names))
        ∙ sym (render-append old (each port_items h.drawing.locals) rest z)
        ∙ ap (λ (is : List Item). render old is z) (sym (locals-split (as_machine h.drawing h.states)))
        ∙ ap (λ m. render old (each port_items (locals_of m)) z) (sym (its-machine ns s old offsets P defs receivers regcounts i x h))

    brings-one : (k : ℕ) (z : State) → render old (added_locals_t ns s defs receivers regcounts offsets k i) z ≡ render old (adds_items port_items locals_of k x) z
    unfolding added_locals_t adds_items
    brings-one k z = ap (λ a. render old (cond (eqb a k) (locals_t ns s offsets (get_or defs i 0) (get_or regcounts i 0)) []) z) (sym h.at) ∙ go (eqb x.at k)
      where
        go : (b : Bool) → render old (cond b (locals_t ns s offsets (get_or defs i 0) (get_or regcounts i 0)) []) z ≡ render old (cond b (each port_items (locals_of (share_machine x))) []) z
        go true = locals-one z
        go false = refl

  -- THE LAW: what the loop over all machines writes to the node k
  pub locals-written : (k : ℕ) (xs : List Share) → Shown ns s defs receivers regcounts 0 xs → (z : State) → render old (each_t (added_locals_t ns s defs receivers regcounts offsets k) (length xs) 0) z ≡ render old (each (adds_items port_items locals_of k) xs) z
  locals-written k xs h z = each-shown old ns s defs receivers regcounts _ _ (λ i x g. brings-one i x g k) 0 xs h z
