-- The nodes that the code writes by the tables are those of the definition: old ones with what the machines bring, and new ones.
use Prim.Native.Nat.{ℕ, zero, suc, ◌+◌, ◌-◌}
use native.Mathlib.Omega.{arith}
use mathlib.Core.List.{List, [], ◌∷◌, ◌++◌}
use mathlib.Core.Bool.{cond}
use mathlib.Core.Path.{◌≡◌, refl, sym, ap, ◌∙◌}
use lib.ListN.{length, get_or}
use lib.Dec.{eqb}
use borrow.Author.Tests.{eq-eqb, ne_eqb}
use Rattle.wire.specs.Answer.{counted, many, value}
use Rattle.wire.specs.Bytes.{two}
use Rattle.wire.specs.Writer.{State, puts}
use Rattle.pack_rules.specs.Names.{Name}
use Rattle.pack_rules.specs.Syntax.{Equation, Node}
use Rattle.pack_rules.specs.Read.{equations_in, node_in}
use Rattle.pack_rules.specs.Write.{Item, each, equation_items, node_items, raw}
use Rattle.pack.specs.Intern.{render}
use Rattle.pack.proofs.TypeFormats.{fmt_counted}
use Rattle.pack.proofs.PartFormats.{ShapedNode, fmt_node}
use Rattle.pack.proofs.Interns.{render-append}
use Rattle.pack.proofs.Copies.{lies-equations-rest}
use Rattle.machine_rules.specs.Lower.{equations_of}
use Rattle.machines.specs.Sections.{Fate, Share, added_count, adds_items, alone, begun_items, continued, equation_count, fate_machine, filled_items, head_count, head_items, head_of, holding_items, into, origin_count, share_machine, total}
use Rattle.machines.specs.ResolvedIn.{end_of}
use Rattle.machines.specs.CheckedReads.{number_in, with}
use Rattle.machines.specs.TableMeaning.{PackOf, Shown, ShownAt}
use Rattle.machines.specs.AddedAt.{each_t, node_equations_in, owned_t, small_of, total_t}
use Rattle.machines.specs.NodeHeads.{head_part, new_head_t}
use Rattle.machines.specs.WriteNodesAt.{new_node_t, node_equations_t, nodes_t, old_node_t, old_nodes_t}
use Rattle.machines.proofs.Reading.{many-cut, many_more, many-over}
use Rattle.machines.proofs.CheckedReadLaws.{then_to}
use Rattle.machines.proofs.AddedLaws.{small_is}
use Rattle.machines.proofs.ShownCounts.{brought-equations-shown, equations-number, heads-origins, node-end-to, node-equations-to, node-value, owned-shown, owners-shown}
use Rattle.machines.proofs.ShownItems.{each-shown, raw-first}
use Rattle.machines.proofs.ShownHeads.{holding-parts, new-head-written, old-head-written}
use Rattle.machines.proofs.Relaying.{items_at, made_equation_items}
use Rattle.machines.proofs.ListsShown.{begins, counted-parts, equations-brought, goes_on}

module _ (ns : List Name) (s old offsets : List ℕ) (P : PackOf ns s old offsets) (defs receivers regcounts : List ℕ) (xs : List Share) (h : Shown ns s defs receivers regcounts 0 xs) where
  -- the equations of the node k
  abbrev equations_items : ℕ → List Equation → List Item
  equations_items k es = continued equation_items es (added_count equation_count k xs) (each (adds_items equation_items equations_of k) xs)

  equations-go-on : (k at : ℕ) (es : List Equation) (e : ℕ) → equations_in ns s at ≡ value es e → (z : State)
      → render old (node_equations_t ns s defs receivers regcounts offsets (length xs) (items_at made_equation_items xs) k (length es) (at + 2) e) z ≡ render old (equations_items k es) z
  unfolding node_equations_t
  equations-go-on k at es e r z =
      goes_on ns s old offsets P equation_items es (at + 2) e _ _ _ _ (equations-number ns s old offsets P at es e r).1
      (lies-equations-rest ns P.fresh P.few s P.bytes at es e r)
      (brought-equations-shown ns s old offsets P defs receivers regcounts k 0 xs h)
      (λ y. ap (λ (is : List Item). render old is y) (equations-brought ns s defs receivers regcounts k xs h)) z

  equations-begin : (k : ℕ) (z : State) → render old (node_equations_t ns s defs receivers regcounts offsets (length xs) (items_at made_equation_items xs) k 0 0 0) z ≡ render old (equations_items k []) z
  unfolding node_equations_t
  equations-begin k z =
      begins ns s old offsets P equation_items _ _ _ _
      (brought-equations-shown ns s old offsets P defs receivers regcounts k 0 xs h)
      (λ y. ap (λ (is : List Item). render old is y) (equations-brought ns s defs receivers regcounts k xs h)) z

  -- a node is its head, and then its equations
  head-then : (k : ℕ) (x : Node) (hs es : List Item) → ((z : State) → render old hs z ≡ render old (head_part xs k x) z) → ((z : State) → render old es z ≡ render old (equations_items k x.equations) z)
      → (z : State) → render old (hs ++ es) z ≡ render old (holding_items xs k x) z
  head-then k x hs es f g z =
      render-append old hs es z
      ∙ g (render old hs z)
      ∙ ap (render old (equations_items k x.equations)) (f z)
      ∙ sym (render-append old (head_part xs k x) (equations_items k x.equations) z)
      ∙ ap (λ (is : List Item). render old is z) (sym (holding-parts xs k x))

  -- an old node
  module _ (k at : ℕ) (x : Node) (q : ℕ) (r : node_in ns s at ≡ value x q) where
    old-equations : with (number_in s (node_equations_in ns s at)) (λ v b. node_equations_t ns s defs receivers regcounts offsets (length xs) (items_at made_equation_items xs) k v b (end_of (equations_in ns s (node_equations_in ns s at))))
        ≡ node_equations_t ns s defs receivers regcounts offsets (length xs) (items_at made_equation_items xs) k (length x.equations) ((node-value ns s at x q r).to-equations + 2) q
    old-equations =
        let d = node-value ns s at x q r in
        let t : ℕ → ℕ → ℕ → List Item = node_equations_t ns s defs receivers regcounts offsets (length xs) (items_at made_equation_items xs) k in
        (λ j. with (number_in s (node-equations-to ns s at x q d j)) (λ v b. t v b (node-end-to ns s at x q d j)))
        ∙ then_to (number_in s d.to-equations) (length x.equations) (d.to-equations + 2) (λ v b. t v b q) (equations-number ns s old offsets P d.to-equations x.equations q d.equations).0

    old-node-written : (z : State) → render old (old_node_t ns s defs receivers regcounts offsets (length xs) (items_at made_equation_items xs) k at) z ≡ render old (holding_items xs k x) z
    unfolding old_node_t
    old-node-written z =
        let d = node-value ns s at x q r in
        head-then k x _ _ (old-head-written ns s old offsets P defs receivers regcounts xs h k at x q r)
        (λ y. ap (λ (is : List Item). render old is y) old-equations ∙ equations-go-on k d.to-equations x.equations q d.equations y) z

  -- all old nodes
  old-nodes-written : (c k at : ℕ) (nodes : List Node) (q : ℕ) → many (node_in ns s) c at ≡ value nodes q → (z : State)
      → render old (old_nodes_t ns s defs receivers regcounts offsets (length xs) (items_at made_equation_items xs) c k at) z ≡ render old (filled_items xs k nodes) z
  unfolding old_nodes_t filled_items
  old-nodes-written zero k at [] q e z = refl
  old-nodes-written zero k at (x ∷ nodes) q e z = absurd (many-cut (node_in ns s) at x nodes q e)
  old-nodes-written (suc c) k at [] q e z = absurd (many-over (node_in ns s) c at q e)
  old-nodes-written (suc c) k at (x ∷ nodes) q e z =
      let a = many_more (node_in ns s) c at x nodes q e in
      let f : ℕ → List Item = old_nodes_t ns s defs receivers regcounts offsets (length xs) (items_at made_equation_items xs) c (suc k) in
      render-append old (old_node_t ns s defs receivers regcounts offsets (length xs) (items_at made_equation_items xs) k at) (f (end_of (equations_in ns s (node_equations_in ns s at)))) z
      ∙ (λ j. render old (f (node-end-to ns s at x a.0 (node-value ns s at x a.0 a.1) j)) (old-node-written k at x a.0 a.1 z j))
      ∙ old-nodes-written c (suc k) a.0 nodes q a.2 (render old (holding_items xs k x) z)
      ∙ sym (render-append old (holding_items xs k x) (filled_items xs (suc k) nodes) z)

  -- the node that a machine without owner begins
  module _ (i : ℕ) (x : Share) (g : ShownAt ns s defs receivers regcounts i x) where
    new_items : List Item
    new_items = new_head_t ns s defs receivers regcounts offsets (length xs) (get_or receivers i 0) (get_or defs i 0) ++ node_equations_t ns s defs receivers regcounts offsets (length xs) (items_at made_equation_items xs) (get_or receivers i 0) 0 0 0

    begun-written : (z : State) → render old new_items z ≡ render old (holding_items xs x.at (head_of (share_machine x))) z
    unfolding new_items head_of
    begun-written z =
        head-then (get_or receivers i 0) (head_of (share_machine x)) _ _ (new-head-written ns s old offsets P defs receivers regcounts xs h (get_or receivers i 0) i x g) (equations-begin (get_or receivers i 0)) z
        ∙ ap (λ k. render old (holding_items xs k (head_of (share_machine x))) z) (sym g.at)

    by-fate : (f : Fate) (k : ℕ) (is : List Item) (z : State) → render old is z ≡ render old (holding_items xs k (head_of (fate_machine f))) z → render old (cond (eqb (origin_count f) 0) is []) z ≡ render old (head_items xs k f) z
    unfolding origin_count head_items fate_machine
    by-fate (alone m) k is z e = ap (λ b. render old (cond b is []) z) (eq-eqb 0 0 refl) ∙ e
    by-fate (into o m) k is z e = ap (λ b. render old (cond b is []) z) (ne_eqb 1 0 (λ d. omega arith))

    new-node-written : (z : State) → render old (new_node_t ns s defs receivers regcounts offsets (length xs) (items_at made_equation_items xs) i) z ≡ render old (begun_items xs x) z
    unfolding new_node_t begun_items new_items share_machine
    new-node-written z =
        ap (λ c. render old (cond (eqb c 0) new_items []) z) (owned-shown ns s old offsets P defs receivers regcounts i x g)
        ∙ by-fate x.fate x.at new_items z (begun-written z)

  -- how many nodes are begun
  begun-count : length xs - total_t (owned_t s defs) (length xs) 0 ≡ total (λ (x : Share). head_count x.fate) xs
  begun-count = let a = owners-shown ns s old offsets P defs receivers regcounts 0 xs h in let b = heads-origins xs in omega arith

  -- THE LAW: the section of nodes
  pub nodes-written : (at : ℕ) (nodes : List Node) (q : ℕ) → counted (node_in ns s) s at ≡ value nodes q → (z : State)
      → render old (nodes_t ns s defs receivers regcounts offsets (length xs) (items_at made_equation_items xs) at) z
      ≡ render old (raw (two (length nodes + total (λ (x : Share). head_count x.fate) xs)) ∷ (filled_items xs 0 nodes ++ each (begun_items xs) xs)) z
  unfolding nodes_t
  nodes-written at nodes q e z =
      let l = ((fmt_counted ns (node_in ns) node_items ShapedNode (fmt_node ns P.fresh P.few)).legal s P.bytes at nodes q e).0.0 in
      let c = counted-parts (node_in ns s) s at nodes q e in
      let new = each_t (new_node_t ns s defs receivers regcounts offsets (length xs) (items_at made_equation_items xs)) (length xs) 0 in
      let olds : ℕ → ℕ → List Item = λ c b. old_nodes_t ns s defs receivers regcounts offsets (length xs) (items_at made_equation_items xs) c 0 b in
      let y = puts (two (length nodes + total (λ (x : Share). head_count x.fate) xs)) z in
      ap (λ (is : List Item). render old is z) (then_to (number_in s at) (length nodes) (at + 2) (λ c b. raw (two (small_of c + (length xs - total_t (owned_t s defs) (length xs) 0))) ∷ (olds c b ++ new)) c.0)
      ∙ (λ j. render old (raw (two (sym (small_is (length nodes) l) j + begun-count j)) ∷ (olds (length nodes) (at + 2) ++ new)) z)
      ∙ raw-first old _ _ z
      ∙ render-append old (olds (length nodes) (at + 2)) new y
      ∙ ap (render old new) (old-nodes-written (length nodes) 0 (at + 2) nodes q c.1 y)
      ∙ each-shown old ns s defs receivers regcounts _ _ new-node-written 0 xs h (render old (filled_items xs 0 nodes) y)
      ∙ sym (render-append old (filled_items xs 0 nodes) (each (begun_items xs) xs) y)
      ∙ sym (raw-first old (two (length nodes + total (λ (x : Share). head_count x.fate) xs)) (filled_items xs 0 nodes ++ each (begun_items xs) xs) z)
