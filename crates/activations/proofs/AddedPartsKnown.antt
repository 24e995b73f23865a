-- What activations bring to a node, one after the other: the node with all of it, and how it is written.
use Prim.Native.Nat.{ℕ, suc, ◌+◌, ◌<◌, ◌≤◌}
use native.Mathlib.Omega.{arith}
use mathlib.Core.List.{List, [], ◌∷◌, ◌++◌, append-nil}
use mathlib.Core.Bool.{Bool, true, false, cond}
use mathlib.Core.Path.{◌≡◌, refl, sym, ap, subst, ◌∙◌}
use lib.ListN.{length, take, drop}
use lib.Dec.{eqb}
use lib.Seq.{drop-length}
use borrow.Author.Tests.{eq-eqb, eqb-false, eqb-true, ne_eqb}
use Rattle.wire.specs.Writer.{State, state_of}
use Rattle.wire.specs.declared.writer.Writer.{Writer}
use Rattle.pack_rules.specs.Names.{Name}
use Rattle.pack_rules.specs.Legal.{place}
use Rattle.pack_rules.specs.Syntax.{Activation, Enum, Equation, Node, Port}
use Rattle.pack_rules.specs.Read.{activation_in}
use Rattle.pack_rules.specs.Write.{Item, each, equation_items, port_items}
use Rattle.pack.specs.Intern.{render}
use Rattle.pack.proofs.Interns.{render-append}
use Rattle.machines.specs.EmitAt.{pack_name}
use Rattle.machine_rules.specs.Machines.{extend}
use Rattle.machines.specs.Sections.{node_names}
use Rattle.machines.proofs.LocalLaws.{each_append}
use Rattle.activations.proofs.Counting.{stopped}
use Rattle.machines.proofs.Shares.{extend-extend}
use Rattle.activations.specs.declared.pack_info.PackInfo.{PackInfo}
use Rattle.activations.specs.declared.parts.Act.{Act}
use Rattle.activation_rules.specs.Lower.{Lowered, lowered, make, refuse}
use Rattle.activations.specs.Joining.{added, joined, joins}
use Rattle.activations.specs.Places.{act_at}
use Rattle.activations.specs.LocalsAt.{Left, act_locals_t}
use Rattle.activations.specs.EquationsAt.{act_equations_t}
use Rattle.activations.specs.PreparedAt.{Preparation, prepared_t}
use Rattle.activation_rules.specs.RewriteLast.{conditions_of}
use Rattle.activation_rules.specs.Types.{last_typed, variables}
use Rattle.activations.specs.TypesAt.{TypesAre}
use Rattle.activations.proofs.Joined.{joined_snoc}
use Rattle.activations.proofs.LocalsLeft.{Leaves}
use Rattle.activations.specs.ActTable.{goal_t, spot_t}
use Rattle.activations.specs.PackInfoAt.{Basis, ReadAt, Types}
use Rattle.activations.specs.Fates.{Drawn}
use Rattle.activations.specs.Verdicts.{LeftAs, quiet}
use Rattle.activations.specs.AddedParts.{AllMade, IsMade, RowWritten, brought, equations_of, ports_of}
use Rattle.activations.proofs.Prepared.{BegunAs, Makes, begun-equations, begun-here, begun-leaves, made-makes, name-here, variables-more}
use Rattle.activations.proofs.Splits.{among}

extend-none : (n : Node) → extend [] [] n ≡ n
unfolding extend
extend-none n = λ i. record { name = n.name; kind = n.kind; inputs = n.inputs; outputs = n.outputs; locals = append-nil n.locals i; equations = append-nil n.equations i }

-- a node with what is made of an activation
added_is : (l : Lowered) (n : Node) → added l n ≡ extend (ports_of l) (equations_of l) n
unfolding added extend ports_of equations_of
added_is (refuse r) n = sym (extend-none n)
added_is (make ls qs) n = refl

module _ (es : List Enum) (nodes : List Name) (k : ℕ) where
  joins-is : (A : Activation) (n : Node) → joins es nodes k A n ≡ extend (cond (eqb (place nodes A.owner) k) (ports_of (lowered es A n)) []) (cond (eqb (place nodes A.owner) k) (equations_of (lowered es A n)) []) n
  unfolding joins
  joins-is A n = go (eqb (place nodes A.owner) k)
    where
      go : (b : Bool) → cond b (added (lowered es A n) n) n ≡ extend (cond b (ports_of (lowered es A n)) []) (cond b (equations_of (lowered es A n)) []) n
      go true = added_is (lowered es A n) n
      go false = sym (extend-none n)

  -- THE LAW: a node with all that is brought to it
  pub joined_is : (As : List Activation) (n : Node) → joined es nodes k As n ≡ extend (brought es nodes ports_of k As n) (brought es nodes equations_of k As n) n
  unfolding joined brought
  joined_is [] n = sym (extend-none n)
  joined_is (A ∷ As) n =
      joined_is As (joins es nodes k A n)
      ∙ ap (extend (brought es nodes ports_of k As (joins es nodes k A n)) (brought es nodes equations_of k As (joins es nodes k A n))) (joins-is A n)
      ∙ extend-extend (cond (eqb (place nodes A.owner) k) (ports_of (lowered es A n)) []) (brought es nodes ports_of k As (joins es nodes k A n)) (cond (eqb (place nodes A.owner) k) (equations_of (lowered es A n)) []) (brought es nodes equations_of k As (joins es nodes k A n)) n

-- an activation that is made
pub made-is : (l : Lowered) → IsMade l → l ≡ make (ports_of l) (equations_of l)
unfolding IsMade ports_of equations_of
made-is (refuse r) h = absurd h
made-is (make ls qs) h = refl

module _ (ns : List Name) (es : List Enum) (old s offsets : List ℕ) (b : PackInfo) (B : Basis ns es old s offsets b) (at : ℕ) (A : Activation) (act : Act) (R : ReadAt ns s at A act) (n : Node)
    (later : List ℕ) (T : Types ns s n later) (room : length ns ≤ length later) (x : Preparation) (G : BegunAs ns es s A n x) (low : length x.hold.env ≤ 65536) (M : IsMade (lowered es A n)) where
  abbrev ls : List Port
  ls = ports_of (lowered es A n)

  its : Makes es A n (ports_of (lowered es A n)) (equations_of (lowered es A n))
  its = made-makes es A n (ports_of (lowered es A n)) (equations_of (lowered es A n)) (made-is (lowered es A n) M)

  leaves : (z : Left) → Leaves ns s ls z (act_locals_t ns s old b.made A.name offsets x.hold.env x.outs b.last x.hold.held x.rows act z)
  leaves z = subst (λ (l : List Port). Leaves ns s l z (act_locals_t ns s old b.made A.name offsets x.hold.env x.outs b.last x.hold.held x.rows act z)) (sym its.locals) (begun-leaves ns es old s offsets b B at A act R n x G low its.ports its.equations its.holds its.filled z)

  -- the types of the node with what is made
  left-types : (z u : Left) → z.later ≡ later → Leaves ns s ls z u → Types ns s (added (lowered es A n) n) u.later
  unfolding Types
  left-types z u e L =
      subst (λ (y : Node). TypesAre ns s u.later (last_typed (variables y))) (sym (added_is (lowered es A n) n))
      (subst (λ (ports : List Port). TypesAre ns s u.later (last_typed ports)) (sym (variables-more ls (equations_of (lowered es A n)) n))
      (L.types (variables n) (subst (λ (l : List ℕ). length ns ≤ length l) (sym e) room) (subst (λ (l : List ℕ). TypesAre ns s l (last_typed (variables n))) (sym e) T)))

  pub locals-row : (z u : Left) → z.later ≡ later → u ≡ act_locals_t ns s old b.made A.name offsets x.hold.env x.outs b.last x.hold.held x.rows act z
      → RowWritten ns es s old A n (each port_items (ports_of (lowered es A n))) z.state u.state u.later
  locals-row z u e f =
      let L : Leaves ns s ls z u = subst (Leaves ns s ls z) (sym f) (leaves z) in
      record { written = L.written ∙ ap (λ (y : List ℕ). render y (each port_items ls) z.state) (sym B.pack.names); types = left-types z u e L }

  pub equations-row : (z u : State) (locals : ℕ) (later' : List ℕ) → u ≡ act_equations_t ns old s b offsets A.name x.hold.held x.rows x.hold.env x.outs act (conditions_of A.name A.branches) z
      → LeftAs locals later' (act_locals_t ns s old b.made A.name offsets x.hold.env x.outs b.last x.hold.held x.rows act (quiet later))
      → RowWritten ns es s old A n (each equation_items (equations_of (lowered es A n))) z u later'
  unfolding quiet
  equations-row z u locals later' e f =
      record {
        written = e ∙ begun-equations ns es old s offsets b B at A act R n x G low its.ports its.equations its.holds its.filled z ∙ ap (λ (qs : List Equation). render old (each equation_items qs) z) (sym its.written);
        types = subst (Types ns s (added (lowered es A n) n)) (sym f.1) (left-types (quiet later) (act_locals_t ns s old b.made A.name offsets x.hold.env x.outs b.last x.hold.held x.rows act (quiet later)) refl (leaves (quiet later)));
      }

-- the same, by what the code's parts answer
module _ (ns : List Name) (es : List Enum) (old s offsets : List ℕ) (b : PackInfo) (B : Basis ns es old s offsets b) (at : ℕ) (A : Activation) (act : Act) (R : ReadAt ns s at A act) (n : Node)
    (later a env outs table : List ℕ) (T : Types ns s n later) (ea : a ≡ pack_name s offsets act.name) (x : Preparation) (ex : x ≡ prepared_t ns old s b offsets a act later env outs table)
    (long : length env ≡ 65536) (for_outs : 32768 ≤ length outs) (room : 24576 ≤ length table) (low : length x.hold.env ≡ 65536) (wide : 32768 ≤ length later) (M : IsMade (lowered es A n)) where
  begun : BegunAs ns es s A n x
  begun = begun-here ns es old s offsets b B at A act R n later a env outs table T ea x ex long for_outs room

  named : a ≡ A.name
  named = name-here ns es old s offsets b B at A act R n a ea

  pub row-locals : (z u : Left) → z.later ≡ later → u ≡ act_locals_t ns s old b.made a offsets x.hold.env x.outs b.last x.hold.held x.rows act z
      → RowWritten ns es s old A n (each port_items (ports_of (lowered es A n))) z.state u.state u.later
  row-locals z u e f =
      let few = B.few in
      locals-row ns es old s offsets b B at A act R n later T (omega arith) x begun (omega arith) M z u e
      (f ∙ ap (λ (y : List ℕ). act_locals_t ns s old b.made y offsets x.hold.env x.outs b.last x.hold.held x.rows act z) named)

  pub row-equations : (z u : State) (locals : ℕ) (later' : List ℕ) → u ≡ act_equations_t ns old s b offsets a x.hold.held x.rows x.hold.env x.outs act (conditions_of A.name A.branches) z
      → LeftAs locals later' (act_locals_t ns s old b.made a offsets x.hold.env x.outs b.last x.hold.held x.rows act (quiet later))
      → RowWritten ns es s old A n (each equation_items (equations_of (lowered es A n))) z u later'
  row-equations z u locals later' e f =
      let few = B.few in
      equations-row ns es old s offsets b B at A act R n later T (omega arith) x begun (omega arith) M z u locals later'
      (e ∙ ap (λ (y : List ℕ). act_equations_t ns old s b offsets y x.hold.held x.rows x.hold.env x.outs act (conditions_of A.name A.branches) z) named)
      (subst (λ (y : List ℕ). LeftAs locals later' (act_locals_t ns s old b.made y offsets x.hold.env x.outs b.last x.hold.held x.rows act (quiet later))) named f)

-- the activations As, of which rows are written that go to the node m of the place k; what is brought is written by `items`
module _ (ns : List Name) (s old : List ℕ) (es : List Enum) (N : List Node) (As : List Activation) (few : length As ≤ 6656) (k : ℕ) (m : Node) (acts : List ℕ) (D : Drawn ns s es N As acts) (M : AllMade es N As k m)
    {X : Type 0} (f : Lowered → List X) (items : X → List Item) where
  abbrev names : List Name
  names = node_names N

  abbrev node_after : ℕ → Node
  node_after i = joined es names k (take i As) m

  -- what the first i bring is written
  pub record Written (i : ℕ) (later : List ℕ) (z₀ z : State) : Type 0 where
    pub types : Types ns s (joined es (node_names N) k (take i As) m) later
    pub rest : render old (each items (brought es (node_names N) f k (drop i As) (joined es (node_names N) k (take i As) m))) z ≡ render old (each items (brought es (node_names N) f k As m)) z₀

  pub written_start : (later : List ℕ) (z : State) → Types ns s m later → Written 0 later z z
  unfolding joined
  written_start later z T = record { types = T; rest = refl }

  module _ (i : ℕ) (i-less : i < length As) (later : List ℕ) (z₀ z : State) (W : Written i later z₀ z) where
    abbrev pub it : Activation
    it = (among As i i-less).it

    abbrev pub node : Node
    node = joined es (node_names N) k (take i As) m

    drawn : ReadAt ns s (spot_t acts i) it (act_at ns s (spot_t acts i)) × (goal_t acts i ≡ place names it.owner)
    drawn =
        let h = among As i i-less in
        let d = D (take i As) h.it h.rest h.split in
        (record { end = d.end; read = ap (λ (j : ℕ). activation_in ns s (spot_t acts j)) (sym h.count) ∙ d.read; parts = refl }, ap (goal_t acts) (sym h.count) ∙ d.goal)

    pub row_read : ReadAt ns s (spot_t acts i) it (act_at ns s (spot_t acts i))
    row_read = drawn.0

    pub row_made : goal_t acts i ≡ k → IsMade (lowered es it node)
    row_made e = let h = among As i i-less in M (take i As) h.it h.rest h.split (sym drawn.1 ∙ e)

    next-node : node_after (suc i) ≡ joins es names k it node
    next-node = let h = among As i i-less in ap (λ (y : List Activation). joined es names k y m) h.more ∙ joined_snoc es names k (take i As) h.it m

    -- what it brings, and what is left
    bring-here : brought es names f k (drop i As) node ≡ cond (eqb (place names it.owner) k) (f (lowered es it node)) [] ++ brought es names f k (drop (suc i) As) (joins es names k it node)
    unfolding brought
    bring-here = ap (λ (y : List Activation). brought es names f k y node) (among As i i-less).left

    pub written-past : (goal_t acts i ≡ k → ⊥) → Written (i + 1) later z₀ z
    unfolding joins
    written-past d =
        let n : i + 1 ≡ suc i = omega arith in
        let away = ne_eqb (place names it.owner) k (λ e. d (drawn.1 ∙ e)) in
        let w : node_after (suc i) ≡ node = next-node ∙ ap (λ (b : Bool). cond b (added (lowered es it node) node) node) away in
        let g : brought es names f k (drop i As) node ≡ brought es names f k (drop (suc i) As) node =
        bring-here ∙ (λ j. cond (away j) (f (lowered es it node)) [] ++ brought es names f k (drop (suc i) As) (cond (away j) (added (lowered es it node) node) node)) in
        subst (λ (j : ℕ). Written j later z₀ z) (sym n)
        (record {
          types = subst (λ (y : Node). Types ns s y later) (sym w) W.types;
          rest = ap (λ (y : Node). render old (each items (brought es names f k (drop (suc i) As) y)) z) w ∙ ap (λ (xs : List X). render old (each items xs) z) (sym g) ∙ W.rest;
        })

    pub written_row : goal_t acts i ≡ k → (later' : List ℕ) (z' : State) → RowWritten ns es s old it node (each items (f (lowered es it node))) z z' later' → Written (i + 1) later' z₀ z'
    unfolding joins
    written_row d later' z' Q =
        let n : i + 1 ≡ suc i = omega arith in
        let home = eq-eqb (place names it.owner) k (sym drawn.1 ∙ d) in
        let w : node_after (suc i) ≡ added (lowered es it node) node = next-node ∙ ap (λ (b : Bool). cond b (added (lowered es it node) node) node) home in
        let g : brought es names f k (drop i As) node ≡ f (lowered es it node) ++ brought es names f k (drop (suc i) As) (added (lowered es it node) node) =
        bring-here ∙ (λ j. cond (home j) (f (lowered es it node)) [] ++ brought es names f k (drop (suc i) As) (cond (home j) (added (lowered es it node) node) node)) in
        let here = f (lowered es it node) in
        let more = brought es names f k (drop (suc i) As) (added (lowered es it node) node) in
        subst (λ (j : ℕ). Written j later' z₀ z') (sym n)
        (record {
          types = subst (λ (y : Node). Types ns s y later') (sym w) Q.types;
          rest =
              ap (λ (y : Node). render old (each items (brought es names f k (drop (suc i) As) y)) z') w
              ∙ ap (render old (each items more)) Q.written
              ∙ sym (render-append old (each items here) (each items more) z)
              ∙ ap (λ (is : List Item). render old is z) (sym (each_append items here more))
              ∙ ap (λ (xs : List X). render old (each items xs) z) (sym g)
              ∙ W.rest;
        })

    -- one or the other
    pub written_step : (later' : List ℕ) (z' : State) → ((goal_t acts i ≡ k → ⊥) → (z' ≡ z) × (later' ≡ later)) → (goal_t acts i ≡ k → RowWritten ns es s old it node (each items (f (lowered es it node))) z z' later') → Written (i + 1) later' z₀ z'
    written_step later' z' past row = go (eqb (goal_t acts i) k) refl
      where
        go : (x : Bool) → eqb (goal_t acts i) k ≡ x → Written (i + 1) later' z₀ z'
        go true e = let h = eqb-true (goal_t acts i) k e in written_row h later' z' (row h)
        go false e = let h = eqb-false (goal_t acts i) k e in let r = past h in subst (Written (i + 1) later' z₀) (sym r.0) (subst (λ (l : List ℕ). Written (i + 1) l z₀ z) (sym r.1) (written-past h))

  all_done : (i : ℕ) → i ≡ length As → (y : Node) → brought es names f k (drop i As) y ≡ []
  unfolding brought
  all_done i e y = ap (λ (xs : List Activation). brought es names f k xs y) (ap (λ (j : ℕ). drop j As) e ∙ drop-length As)

  -- at the end, and where the writer is full
  pub written-done : (count i : ℕ) (z : State) (later : List ℕ) (z₀ : State) → length As ≡ count → count ≤ i → i ≤ count → Written i later z₀ z
      → z ≡ render old (each items (brought es (node_names N) f k As m)) z₀
  unfolding each render
  written-done count i z later z₀ L a b W = sym (ap (λ (xs : List X). render old (each items xs) z) (all_done i (omega arith) (node_after i))) ∙ W.rest

  pub written-stop : (i : ℕ) (out made : List ℕ) (v : Writer) (later : List ℕ) (z₀ : State) → v.full ≡ true → Written i later z₀ (state_of out made v)
      → state_of out made v ≡ render old (each items (brought es (node_names N) f k As m)) z₀
  written-stop i out made v later z₀ e W = stopped old (each items (brought es (node_names N) f k (drop i As) (node_after i))) out made v _ e W.rest
