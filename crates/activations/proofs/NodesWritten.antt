-- The nodes of the lowered package: each as it stands, with what activations bring to it.
use Prim.Native.Nat.{ℕ, suc, ◌+◌, ◌-◌, ◌<◌, ◌≤◌}
use native.Mathlib.Omega.{arith}
use mathlib.Core.List.{List, [], ◌∷◌, ◌++◌, append_assoc, append-nil}
use mathlib.Core.Option.{Option}
use mathlib.Core.Path.{◌≡◌, refl, sym, ap, subst, ◌∙◌}
use lib.ListN.{length, length-append, get_or, take, drop}
use lib.Seq.{drop-length}
use borrow.Author.Tests.{ne_eqb}
use Rattle.wire.specs.Bytes.{two}
use Rattle.wire.specs.Writer.{State, puts}
use Rattle.pack_rules.specs.Names.{Name}
use Rattle.pack_rules.specs.Legal.{place}
use Rattle.pack_rules.specs.Syntax.{Activation, Enum, Node, NodeKind}
use Rattle.pack_rules.specs.Read.{equation_in, equations_in, node_in, port_in, ports_in}
use Rattle.pack_rules.specs.Write.{Item, each, equation_items, kind_byte, list, nm, node_items, port_items, raw}
use Rattle.pack.specs.Intern.{render}
use Rattle.pack.proofs.Interns.{render-append}
use Rattle.pack.proofs.Copies.{Lies, lies-both, lies-equations, lies-equations-rest, lies-head, lies-ports, lies-ports-rest}
use Rattle.wire.specs.declared.answer.Number.{Number}
use Rattle.machines.specs.AddedAt.{node_equations_in, node_locals_in, total_t}
use Rattle.machines.specs.ReceivingNodes.{Idle}
use Rattle.machines.specs.Layout.{slice_of}
use Rattle.machine_rules.specs.Machines.{extend}
use Rattle.machines.specs.Sections.{node_names}
use Rattle.machines.specs.TableMeaning.{PackOf}
use Rattle.machines.specs.ResolvedIn.{end_of}
use Rattle.machines.specs.CheckedReads.{num, number_in}
use Rattle.machines.proofs.LocalLaws.{each_append}
use Rattle.machines.proofs.ListsShown.{copied, counted-parts}
use Rattle.machines.proofs.CheckedReadLaws.{end-to}
use Rattle.machines.proofs.ShownCounts.{node-equations-to, node-locals-to, node-value}
use Rattle.machines.proofs.ShownItems.{raw-first}
use Rattle.activations.specs.declared.pack_info.PackInfo.{PackInfo}
use Rattle.activation_rules.specs.Lower.{lowered}
use Rattle.activations.specs.Joining.{each_at, fate_in, joined, joins, owner_of}
use Rattle.activations.specs.PackInfoAt.{Basis}
use Rattle.activations.specs.ActTable.{goal_t}
use Rattle.activations.specs.CountsAt.{adds_equations_t, adds_locals_t}
use Rattle.activations.specs.Fates.{Drawn, NodeRead}
use Rattle.activations.specs.AddedParts.{AllMade, Counted, IsMade, Settled, brought, equations_of, head_items, ports_of, tail_items}
use Rattle.activations.proofs.Splits.{Among}
use Rattle.activations.proofs.AddedPartsKnown.{joined_is}
use Rattle.activations.proofs.NodesJudged.{nodes-at, owner_here}
use Rattle.activations.proofs.AddedKnown.{AcceptedIn, accepted-each, equations-two, locals-two}

-- a list that goes on: its count, those that there were, and those that are brought
module _ {X : Type 0} (old : List ℕ) (items : X → List Item) (xs ys : List X) (n : ℕ) where
  pub goes_on : two (length xs + n) ≡ two (length (xs ++ ys)) → (z₀ z₁ z₂ z₃ : State) → z₁ ≡ puts (two (length xs + n)) z₀ → z₂ ≡ render old (each items xs) z₁ → z₃ ≡ render old (each items ys) z₂ → z₃ ≡ render old (list items (xs ++ ys)) z₀
  unfolding list
  goes_on t z₀ z₁ z₂ z₃ e f g =
      g ∙ ap (render old (each items ys)) (f ∙ ap (render old (each items xs)) (e ∙ ap (λ (l : List ℕ). puts l z₀) t))
      ∙ sym (render-append old (each items xs) (each items ys) (puts (two (length (xs ++ ys))) z₀))
      ∙ ap (λ (is : List Item). render old is (puts (two (length (xs ++ ys))) z₀)) (sym (each_append items xs ys))
      ∙ sym (raw-first old (two (length (xs ++ ys))) (each items (xs ++ ys)) z₀)

-- a node up to its locals, as it stands
front_of : Node → List Item
front_of m = nm m.name ∷ raw (kind_byte m.kind ∷ []) ∷ (list port_items m.inputs ++ list port_items m.outputs)

module _ (ns : List Name) (s old offsets : List ℕ) (P : PackOf ns s old offsets) (m : Node) (at : ℕ) (R : NodeRead ns s at m) where
  front-lies : Lies ns s at (front_of m) (node-value ns s at m R.end R.read).to-locals
  unfolding front_of
  front-lies =
      let r = node-value ns s at m R.end R.read in
      subst (λ (y : NodeKind). Lies ns s at (nm m.name ∷ raw (kind_byte y ∷ []) ∷ (list port_items m.inputs ++ list port_items m.outputs)) r.to-locals) r.same
      (lies-head ns P.fresh P.few s P.bytes at m.name r.to-kind r.kind r.to-inputs m.inputs r.to-outputs m.outputs r.to-locals r.name r.byte r.inputs r.outputs)

  -- where it ends, by where its equations stand
  node-ends : (e q : ℕ) → e ≡ node_equations_in ns s at → q ≡ end_of (equations_in ns s e) → q ≡ R.end
  node-ends e q el ee =
      let r = node-value ns s at m R.end R.read in
      ee ∙ ap (λ (y : ℕ). end_of (equations_in ns s y)) (el ∙ node-equations-to ns s at m R.end r) ∙ end-to (equations_in ns s r.to-equations) m.equations R.end r.equations

  -- all of it is written by its bytes
  pub node-copied : (e q : ℕ) (us : List ℕ) (z z' : State) → e ≡ node_equations_in ns s at → q ≡ end_of (equations_in ns s e) → us ≡ slice_of s at (q - at) → z' ≡ puts us z → z' ≡ render old (node_items m) z
  unfolding front_of node_items
  node-copied e q us z z' el ee eu f =
      let r = node-value ns s at m R.end R.read in
      let back = list port_items m.locals ++ list equation_items m.equations in
      let l : Lies ns s at (front_of m ++ back) R.end =
      lies-both ns s at (front_of m) r.to-locals back R.end front-lies
      (lies-both ns s r.to-locals (list port_items m.locals) r.to-equations (list equation_items m.equations) R.end
      (lies-ports ns P.fresh P.few s P.bytes r.to-locals m.locals r.to-equations r.locals)
      (lies-equations ns P.fresh P.few s P.bytes r.to-equations m.equations R.end r.equations)) in
      f ∙ ap (λ (y : List ℕ). puts y z) (eu ∙ ap (λ (y : ℕ). slice_of s at (y - at)) (node-ends e q el ee))
      ∙ copied ns s old offsets P at (front_of m ++ back) R.end l z
      ∙ ap (λ (is : List Item). render old (nm m.name ∷ raw (kind_byte m.kind ∷ []) ∷ is) z) (append_assoc (list port_items m.inputs) (list port_items m.outputs) back)

-- a node to which none of some activations goes stays as it is
joined-idle : (es : List Enum) (nodes : List Name) (k : ℕ) (As : List Activation) (m : Node) → ((before : List Activation) (A : Activation) (post : List Activation) → As ≡ before ++ (A ∷ post) → place nodes A.owner ≡ k → ⊥) → joined es nodes k As m ≡ m
unfolding joined joins
joined-idle es nodes k [] m h = refl
joined-idle es nodes k (A ∷ As) m h = rw (ne_eqb (place nodes A.owner) k (h [] A As refl)) (joined-idle es nodes k As m (λ before B post e. h (A ∷ before) B post (ap (λ (l : List Activation). A ∷ l) e)))

pub idle-put : (ns : List Name) (s : List ℕ) (es : List Enum) (N : List Node) (As : List Activation) (acts : List ℕ) (n k b : ℕ) (m : Node) (old : List ℕ) (z z' : State) → Drawn ns s es N As acts → length As ≡ n → Idle (goal_t acts) n k b → k < b
    → z' ≡ render old (node_items m) z → z' ≡ render old (node_items (joined es (node_names N) k As m)) z
idle-put ns s es N As acts n k b m old z z' D L I l f =
    f ∙ ap (λ (x : Node). render old (node_items x) z)
    (sym (joined-idle es (node_names N) k As m (λ before A post e o.
    let g = (D before A post e).goal ∙ o in
    I (length before) (omega (arith, L, ap (λ (x : List Activation). length x) e, length-append before (A ∷ post))) (omega (arith, g)) (omega (arith, g, l)))))

module _ (ns : List Name) (es : List Enum) (old s offsets : List ℕ) (b : PackInfo) (B : Basis ns es old s offsets b) (N : List Node) (As : List Activation) (k : ℕ) (m : Node) (at : ℕ) (R : NodeRead ns s at m)
    (acts : List ℕ) (D : Drawn ns s es N As acts) (n : ℕ) (L : length As ≡ n) (M : AllMade es N As k m) (C : Counted s es N As k m acts n) where
  abbrev names : List Name
  names = node_names N

  P : PackOf ns s old offsets
  P = B.pack

  -- the items of the node, by its parts
  head-is : (z : State) → render old (head_items (joined es names k As m)) z ≡ render old (list port_items (m.locals ++ brought es names ports_of k As m)) (render old (front_of m) z)
  unfolding head_items extend front_of
  head-is z =
      let ls = list port_items (m.locals ++ brought es names ports_of k As m) in
      ap (λ (x : Node). render old (head_items x) z) (joined_is es names k As m)
      ∙ ap (λ (is : List Item). render old (nm m.name ∷ raw (kind_byte m.kind ∷ []) ∷ is) z) (sym (append_assoc (list port_items m.inputs) (list port_items m.outputs) ls))
      ∙ render-append old (front_of m) ls z

  -- by what the code found: where locals stand, where equations do, how many there are
  pub head-written : (l e : ℕ) (c : Number) (more : ℕ) (us vs : List ℕ) (z₀ z₁ z₂ z₃ z₄ : State) → l ≡ node_locals_in ns s at → e ≡ end_of (ports_in ns s l) → c ≡ number_in s l → more ≡ total_t (adds_locals_t acts k) n 0
      → us ≡ slice_of s at (l - at) → z₁ ≡ puts us z₀ → z₂ ≡ puts (two (c.value + more)) z₁ → vs ≡ slice_of s c.next (e - c.next) → z₃ ≡ puts vs z₂ → z₄ ≡ render old (each port_items (brought es (node_names N) ports_of k As m)) z₃
      → z₄ ≡ render old (head_items (joined es (node_names N) k As m)) z₀
  unfolding ports_in extend
  head-written l e c more us vs z₀ z₁ z₂ z₃ z₄ el ee ec em eu f₁ f₂ ev f₃ f₄ =
      let r = node-value ns s at m R.end R.read in
      let lo : l ≡ r.to-locals = el ∙ node-locals-to ns s at m R.end r in
      let eo : e ≡ r.to-equations = ee ∙ ap (λ (y : ℕ). end_of (ports_in ns s y)) lo ∙ end-to (ports_in ns s r.to-locals) m.locals r.to-equations r.locals in
      let co : c ≡ num (length m.locals) (r.to-locals + 2) = ec ∙ ap (number_in s) lo ∙ (counted-parts (port_in ns s) s r.to-locals m.locals r.to-equations r.locals).0 in
      let w₁ : z₁ ≡ render old (front_of m) z₀ = f₁ ∙ ap (λ (l : List ℕ). puts l z₀) (eu ∙ ap (λ (y : ℕ). slice_of s at (y - at)) lo) ∙ copied ns s old offsets P at (front_of m) r.to-locals (front-lies ns s old offsets P m at R) z₀ in
      let w₂ : z₂ ≡ puts (two (length m.locals + total_t (adds_locals_t acts k) n 0)) (render old (front_of m) z₀) =
      f₂ ∙ (λ i. puts (two ((co i).value + em i)) (w₁ i)) in
      let w₃ : z₃ ≡ render old (each port_items m.locals) z₂ =
      f₃ ∙ ap (λ (l : List ℕ). puts l z₂) (ev ∙ λ i. slice_of s (co i).next (eo i - (co i).next))
      ∙ copied ns s old offsets P (r.to-locals + 2) (each port_items m.locals) r.to-equations (lies-ports-rest ns P.fresh P.few s P.bytes r.to-locals m.locals r.to-equations r.locals) z₂ in
      goes_on old port_items m.locals (brought es names ports_of k As m) (total_t (adds_locals_t acts k) n 0) (C.locals ∙ ap (λ (x : Node). two (length x.locals)) (joined_is es names k As m)) (render old (front_of m) z₀) z₂ z₃ z₄ w₂ w₃ f₄ ∙ sym (head-is z₀)

  pub tail_written : (e q : ℕ) (c : Number) (more : ℕ) (vs : List ℕ) (z₀ z₁ z₂ z₃ : State) → e ≡ node_equations_in ns s at → q ≡ end_of (equations_in ns s e) → c ≡ number_in s e → more ≡ total_t (adds_equations_t s acts k) n 0
      → z₁ ≡ puts (two (c.value + more)) z₀ → vs ≡ slice_of s c.next (q - c.next) → z₂ ≡ puts vs z₁ → z₃ ≡ render old (each equation_items (brought es (node_names N) equations_of k As m)) z₂
      → z₃ ≡ render old (tail_items (joined es (node_names N) k As m)) z₀
  unfolding tail_items extend equations_in
  tail_written e q c more vs z₀ z₁ z₂ z₃ el ee ec em f₁ ev f₂ f₃ =
      let r = node-value ns s at m R.end R.read in
      let lo : e ≡ r.to-equations = el ∙ node-equations-to ns s at m R.end r in
      let eo : q ≡ R.end = node-ends ns s old offsets P m at R e q el ee in
      let co : c ≡ num (length m.equations) (r.to-equations + 2) = ec ∙ ap (number_in s) lo ∙ (counted-parts (equation_in ns s) s r.to-equations m.equations R.end r.equations).0 in
      let w₁ : z₁ ≡ puts (two (length m.equations + total_t (adds_equations_t s acts k) n 0)) z₀ =
      f₁ ∙ (λ i. puts (two ((co i).value + em i)) z₀) in
      let w₂ : z₂ ≡ render old (each equation_items m.equations) z₁ =
      f₂ ∙ ap (λ (l : List ℕ). puts l z₁) (ev ∙ λ i. slice_of s (co i).next (eo i - (co i).next))
      ∙ copied ns s old offsets P (r.to-equations + 2) (each equation_items m.equations) R.end (lies-equations-rest ns P.fresh P.few s P.bytes r.to-equations m.equations R.end r.equations) z₁ in
      goes_on old equation_items m.equations (brought es names equations_of k As m) (total_t (adds_equations_t s acts k) n 0) (C.equations ∙ ap (λ (x : Node). two (length x.equations)) (joined_is es names k As m)) z₀ z₁ z₂ z₃ w₁ w₂ f₃
      ∙ ap (λ (x : Node). render old (list equation_items x.equations) z₀) (sym (joined_is es names k As m))

-- a node is its head and its equations
pub node-is : (old : List ℕ) (n : Node) (z₀ z₁ z₂ : State) → z₁ ≡ render old (head_items n) z₀ → z₂ ≡ render old (tail_items n) z₁ → z₂ ≡ render old (node_items n) z₀
unfolding head_items tail_items node_items
node-is old n z₀ z₁ z₂ e f =
    f ∙ ap (render old (tail_items n)) e ∙ sym (render-append old (head_items n) (tail_items n) z₀)
    ∙ ap (λ (is : List Item). render old (nm n.name ∷ raw (kind_byte n.kind ∷ []) ∷ is) z₀)
    (append_assoc (list port_items n.inputs) (list port_items n.outputs ++ list port_items n.locals) (tail_items n)
    ∙ ap (λ (is : List Item). list port_items n.inputs ++ is) (append_assoc (list port_items n.outputs) (list port_items n.locals) (tail_items n)))

-- none is refused: by the nodes
accepted-made : (es : List Enum) (A : Activation) (o : Option Node) → AcceptedIn es A o → IsMade (fate_in es A o)
unfolding fate_in IsMade
accepted-made es A o a = subst (λ (y : Option Node). IsMade (fate_in es A y)) (sym a.found) (subst IsMade (sym a.is) tt)

module _ (ns : List Name) (s : List ℕ) (es : List Enum) (N : List Node) (As : List Activation) (few : length As ≤ 6656) (nodes acts : List ℕ) (count n : ℕ) (S : Settled ns s es N As nodes acts count n) where
  module _ (k : ℕ) (x : Among N k) where
    owner : (before : List Activation) (A : Activation) → place (node_names N) A.owner ≡ k → fate_in es A (owner_of es N before A) ≡ lowered es A (joined es (node_names N) k before x.it)
    owner before A o = owner_here ns s es N As few acts S.drawn before A k x o

    pub node_made : AllMade es N As k x.it
    node_made before A post e o = subst IsMade (owner before A o) (accepted-made es A (owner_of es N before A) (accepted-each es N As S.accepted before A post e))

    pub node-counted : Counted s es N As k x.it acts n
    node-counted =
        let l = locals-two ns s es N As acts S.drawn S.fates S.accepted (take k N) x.it x.rest x.split As [] (sym (append-nil As)) in
        let q = equations-two ns s es N As acts S.drawn S.fates S.accepted (take k N) x.it x.rest x.split As [] (sym (append-nil As)) in
        record {
          locals = (λ i. two (length x.it.locals + total_t (adds_locals_t acts (sym x.count i)) (sym S.count i) 0)) ∙ l ∙ ap (λ (j : ℕ). two (length (joined es (node_names N) j As x.it).locals)) x.count;
          equations = (λ i. two (length x.it.equations + total_t (adds_equations_t s acts (sym x.count i)) (sym S.count i) 0)) ∙ q ∙ ap (λ (j : ℕ). two (length (joined es (node_names N) j As x.it).equations)) x.count;
        }

    pub node-read : (at : ℕ) → at ≡ get_or nodes k 0 → NodeRead ns s at x.it
    node-read at e =
        let r = nodes-at ns s nodes 0 N S.stand k x.it (drop (suc k) N) x.left in
        let z : 0 + k ≡ k = omega arith in
        record { end = r.end; read = ap (λ (i : ℕ). node_in ns s i) (e ∙ ap (λ (i : ℕ). get_or nodes i 0) (sym z)) ∙ r.read }

  -- what is left of the nodes
  abbrev pub rest_nodes : ℕ → List Node
  rest_nodes k = each_at (λ j. joined es (node_names N) j As) k (drop k N)

  rest_more : (k : ℕ) (x : Among N k) → rest_nodes k ≡ joined es (node_names N) k As x.it ∷ rest_nodes (suc k)
  unfolding each_at
  rest_more k x = ap (each_at (λ j. joined es (node_names N) j As) k) x.left

  pub nodes-next : (old : List ℕ) (k : ℕ) (x : Among N k) (z₀ z z' : State) → z' ≡ render old (node_items (joined es (node_names N) k As x.it)) z → render old (each node_items (rest_nodes k)) z ≡ z₀ → render old (each node_items (rest_nodes (k + 1))) z' ≡ z₀
  unfolding each
  nodes-next old k x z₀ z z' e f =
      let q : k + 1 ≡ suc k = omega arith in
      ap (λ (i : ℕ). render old (each node_items (rest_nodes i)) z') q
      ∙ ap (render old (each node_items (rest_nodes (suc k)))) e
      ∙ sym (render-append old (node_items (joined es (node_names N) k As x.it)) (each node_items (rest_nodes (suc k))) z)
      ∙ ap (λ (l : List Node). render old (each node_items l) z) (sym (rest_more k x))
      ∙ f

  no-nodes : (k : ℕ) → k ≡ length N → rest_nodes k ≡ []
  unfolding each_at
  no-nodes k e = ap (λ (l : List Node). each_at (λ j. joined es (node_names N) j As) k l) (ap (λ (i : ℕ). drop i N) e ∙ drop-length N)

  pub nodes-done : (old : List ℕ) (k : ℕ) (z z₀ : State) → count ≤ k → k ≤ count → render old (each node_items (rest_nodes k)) z ≡ z₀ → z ≡ z₀
  unfolding each render
  nodes-done old k z z₀ a b f = sym (ap (λ (l : List Node). render old (each node_items l) z) (no-nodes k (let e : k ≡ count = omega arith in e ∙ sym S.many))) ∙ f
