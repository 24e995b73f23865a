-- Activations judged node by node, each after those before it.
use Prim.Native.Nat.{ℕ, zero, suc, ◌+◌, ◌<◌, ◌≤◌}
use native.Mathlib.Omega.{arith}
use mathlib.Core.List.{List, [], ◌∷◌, ◌++◌}
use mathlib.Core.Bool.{Bool, true, false, cond}
use mathlib.Core.Option.{none, some}
use mathlib.Core.Path.{◌≡◌, refl, sym, ap, subst, ◌∙◌}
use lib.ListN.{length, get_or, take, drop}
use lib.Dec.{eqb}
use borrow.Author.Tests.{eq-eqb, eqb-false, eqb-true, ne_eqb}
use Rattle.pack_rules.specs.Names.{Name}
use Rattle.pack_rules.specs.Legal.{place}
use Rattle.pack_rules.specs.Syntax.{Activation, Enum, Node}
use Rattle.pack_rules.specs.Read.{activation_in}
use Rattle.machines.specs.Sections.{node_names}
use Rattle.machines.proofs.Shares.{length-names}
use Rattle.activation_rules.specs.Refusals.{unknown_owner}
use Rattle.activations.specs.declared.parts.Act.{Act}
use Rattle.activations.specs.declared.checks.Refused.{Refused}
use Rattle.activation_rules.specs.Lower.{lowered, refuse}
use Rattle.activations.specs.Joining.{added, fate_in, joined, joins, node_of, owner_of}
use Rattle.activations.specs.Places.{act_at}
use Rattle.activations.specs.ActTable.{goal_t, judged_t, made_t, refusal_t, spot_t}
use Rattle.activations.specs.declared.pack_info.PackInfo.{PackInfo}
use Rattle.activation_rules.specs.Types.{last_typed, variables}
use Rattle.activations.specs.TypesAt.{TypesAre, variables_t}
use Rattle.activations.specs.Cells.{clear_t}
use Rattle.activations.proofs.TypesKnown.{variables-typed}
use Rattle.activations.specs.PackInfoAt.{Basis, ReadAt, Types}
use Rattle.activations.specs.Fates.{Drawn, FateIs, Fates, NodeAt, NodeRead, NodesFrom, Unowned}
use Rattle.activations.specs.Verdicts.{JudgedIn, NodeJudged, RowJudged, RowsKept}
use Rattle.activations.proofs.Joined.{joined_snoc}
use Rattle.activations.proofs.Splits.{Among, among, before-is, before-less, first, member_is}
use Rattle.activations.proofs.ActTableLaws.{judged-goal, judged-spot, other-made, other-refusal, own-made, own-refusal}
use Rattle.activations.proofs.LookupLaws.{place-most}

-- all activations as they are, and all that were judged
pub kept-none : (P : ℕ → Type 0) (acts : List ℕ) → RowsKept P acts acts
unfolding RowsKept
kept-none P acts i l = (refl, refl, λ h. (refl, refl))

module _ (ns : List Name) (s : List ℕ) (es : List Enum) (N : List Node) (As : List Activation) (few : length As ≤ 6656) (k : ℕ) (n : Node) (acts₀ : List ℕ) (D : Drawn ns s es N As acts₀) where
  abbrev names : List Name
  names = node_names N

  -- the first i activations are judged; `later` has the types of the node with what they bring
  pub record Going (i : ℕ) (later acts : List ℕ) : Type 0 where
    pub types : Types ns s (joined es names k (take i As) n) later
    pub fates : (before : List Activation) (A : Activation) (post : List Activation) → As ≡ before ++ (A ∷ post) → place names A.owner ≡ k → length before < i
        → FateIs ns A.name (refusal_t acts (length before)) (made_t acts (length before)) (lowered es A (joined es names k before n))
    pub kept : (j : ℕ) → j < 6656 → (spot_t acts j ≡ spot_t acts₀ j) × (goal_t acts j ≡ goal_t acts₀ j)
    pub same : (j : ℕ) → j < 6656 → (goal_t acts₀ j ≡ k → i ≤ j) → (refusal_t acts j ≡ refusal_t acts₀ j) × (made_t acts j ≡ made_t acts₀ j)

  pub going_start : (later : List ℕ) → Types ns s n later → Going 0 later acts₀
  unfolding joined
  going_start later T = record { types = T; fates = λ b A p e o l. absurd (omega arith); kept = λ j l. (refl, refl); same = λ j l h. (refl, refl) }

  module _ (i : ℕ) (i-less : i < length As) (later acts : List ℕ) (G : Going i later acts) where
    abbrev pub here : Among As i
    here = among As i i-less

    -- the activation that stands there, with its parts
    pub here-read : (act : Act) → act ≡ act_at ns s (spot_t acts i) → ReadAt ns s (spot_t acts i) here.it act
    here-read act e =
        let d = D (take i As) here.it here.rest here.split in
        let w : spot_t acts i ≡ spot_t acts₀ (length (take i As)) = (G.kept i (omega arith)).0 ∙ ap (spot_t acts₀) (sym here.count) in
        record { end = d.end; read = ap (activation_in ns s) w ∙ d.read; parts = e }

    goal-here : goal_t acts i ≡ place names here.it.owner
    goal-here =
        let d = D (take i As) here.it here.rest here.split in
        (G.kept i (omega arith)).1 ∙ ap (goal_t acts₀) (sym here.count) ∙ d.goal

    abbrev pub here-node : Node
    here-node = joined es names k (take i As) n

    next-node : joined es names k (take (suc i) As) n ≡ joins es names k here.it here-node
    next-node = ap (λ (y : List Activation). joined es names k y n) here.more ∙ joined_snoc es names k (take i As) here.it n

    -- one that goes elsewhere
    pub going-past : (goal_t acts i ≡ k → ⊥) → Going (suc i) later acts
    unfolding joins
    going-past d =
        let away : place names here.it.owner ≡ k → ⊥ = λ e. d (goal-here ∙ e) in
        let w : joined es names k (take (suc i) As) n ≡ here-node = next-node ∙ ap (λ (b : Bool). cond b (added (lowered es here.it here-node) here-node) here-node) (ne_eqb (place names here.it.owner) k away) in
        record {
          types = subst (λ (y : Node). Types ns s y later) (sym w) G.types;
          fates = λ b A p e o l. G.fates b A p e o (earlier b A p e o l);
          kept = G.kept;
          same = λ j l h. G.same j l (λ e. let y = h e in omega arith);
        }
      where
        earlier : (b : List Activation) (A : Activation) (p : List Activation) → As ≡ b ++ (A ∷ p) → place names A.owner ≡ k → length b < suc i → length b < i
        earlier b A p e o l = go (eqb (length b) i) refl
          where
            go : (x : Bool) → eqb (length b) i ≡ x → length b < i
            go true f = absurd (d (goal-here ∙ ap (λ (y : Activation). place names y.owner) (member_is As b A p e i (eqb-true (length b) i f) here) ∙ o))
            go false f = let y = eqb-false (length b) i f in omega arith

    -- one that is judged here
    pub going-judged : goal_t acts i ≡ k → 39936 ≤ length acts → (r : Refused) (locals : ℕ) (later' : List ℕ) → JudgedIn ns es s here.it here-node r locals later' → Going (suc i) later' (judged_t acts i r locals)
    unfolding joins
    going-judged d long r locals later' J =
        let home : place names here.it.owner ≡ k = sym goal-here ∙ d in
        let w : joined es names k (take (suc i) As) n ≡ added (lowered es here.it here-node) here-node = next-node ∙ ap (λ (b : Bool). cond b (added (lowered es here.it here-node) here-node) here-node) (eq-eqb (place names here.it.owner) k home) in
        record {
          types = subst (λ (y : Node). Types ns s y later') (sym w) J.types;
          fates = fates';
          kept = λ j l. (judged-spot acts i r locals (omega arith) j l ∙ (G.kept j l).0, judged-goal acts i r locals (omega arith) j l ∙ (G.kept j l).1);
          same = λ j l h. let m : j ≡ i → ⊥ = λ e. let y = h (ap (goal_t acts₀) e ∙ sym (G.kept i (omega arith)).1 ∙ d) in omega arith in
              (other-refusal acts i r locals (omega arith) j l m ∙ (G.same j l (λ e. let y = h e in omega arith)).0, other-made acts i r locals (omega arith) j l m ∙ (G.same j l (λ e. let y = h e in omega arith)).1);
        }
      where
        own : FateIs ns here.it.name (refusal_t (judged_t acts i r locals) i) (made_t (judged_t acts i r locals) i) (lowered es here.it here-node)
        own =
            let q = J.words in
            subst (λ (x : Refused). FateIs ns here.it.name x (made_t (judged_t acts i r locals) i) (lowered es here.it here-node)) (sym (own-refusal acts i r locals (omega arith) long q.0 q.1 q.2))
            (subst (λ (x : ℕ). FateIs ns here.it.name r x (lowered es here.it here-node)) (sym (own-made acts i r locals (omega arith) long q.3)) J.fate)

        fates' : (b : List Activation) (A : Activation) (p : List Activation) → As ≡ b ++ (A ∷ p) → place names A.owner ≡ k → length b < suc i
            → FateIs ns A.name (refusal_t (judged_t acts i r locals) (length b)) (made_t (judged_t acts i r locals) (length b)) (lowered es A (joined es names k b n))
        fates' b A p e o l = go (eqb (length b) i) refl
          where
            go : (x : Bool) → eqb (length b) i ≡ x → FateIs ns A.name (refusal_t (judged_t acts i r locals) (length b)) (made_t (judged_t acts i r locals) (length b)) (lowered es A (joined es names k b n))
            go true f =
                let c = eqb-true (length b) i f in
                subst (λ (j : ℕ). FateIs ns A.name (refusal_t (judged_t acts i r locals) j) (made_t (judged_t acts i r locals) j) (lowered es A (joined es names k b n))) (sym c)
                (subst (λ (y : List Activation). FateIs ns A.name (refusal_t (judged_t acts i r locals) i) (made_t (judged_t acts i r locals) i) (lowered es A (joined es names k y n))) (before-is As b A p e i c)
                (subst (λ (y : Activation). FateIs ns y.name (refusal_t (judged_t acts i r locals) i) (made_t (judged_t acts i r locals) i) (lowered es y here-node)) (member_is As b A p e i c here) own))
            go false f =
                let c = eqb-false (length b) i f in
                let m = before-less As b A p e in
                subst (λ (x : Refused). FateIs ns A.name x (made_t (judged_t acts i r locals) (length b)) (lowered es A (joined es names k b n))) (sym (other-refusal acts i r locals (omega arith) (length b) (omega arith) c))
                (subst (λ (x : ℕ). FateIs ns A.name (refusal_t acts (length b)) x (lowered es A (joined es names k b n))) (sym (other-made acts i r locals (omega arith) (length b) (omega arith) c))
                (G.fates b A p e o (omega arith)))

    -- one or the other
    pub going_step : 39936 ≤ length acts → (later' acts' : List ℕ) → ((goal_t acts i ≡ k → ⊥) → (acts' ≡ acts) × (later' ≡ later)) → (goal_t acts i ≡ k → RowJudged ns es s here.it here-node i acts acts' later') → Going (i + 1) later' acts'
    going_step long later' acts' past judged = let z : suc i ≡ i + 1 = omega arith in subst (λ (j : ℕ). Going j later' acts') z (go (eqb (goal_t acts i) k) refl)
      where
        go : (x : Bool) → eqb (goal_t acts i) k ≡ x → Going (suc i) later' acts'
        go true e = let h = eqb-true (goal_t acts i) k e in let r = judged h in subst (Going (suc i) later') (sym r.put) (going-judged h long r.refused r.locals later' r.judged)
        go false e = let h = eqb-false (goal_t acts i) k e in let r = past h in subst (λ (a : List ℕ). Going (suc i) later' a) (sym r.0) (subst (λ (l : List ℕ). Going (suc i) l acts) (sym r.1) (going-past h))

  pub going_done : (i : ℕ) (later acts : List ℕ) → length As ≤ i → Going i later acts → NodeJudged ns es N As k n acts₀ acts
  unfolding RowsKept
  going_done i later acts l₀ G =
      record {
        fates = λ b A p e o. G.fates b A p e o (let w = before-less As b A p e in omega arith);
        kept = λ j l. ((G.kept j l).0, (G.kept j l).1, λ h. G.same j l (λ e. absurd (h e)));
      }

-- the node of a place
node-some : (f : Node → Node) (N : List Node) (k : ℕ) (x : Node) (xs : List Node) → drop k N ≡ x ∷ xs → node_of f N k ≡ some (f x)
unfolding node_of first
node-some f [] zero x xs e = absurd (let a = ap length e in omega arith)
node-some f [] (suc k) x xs e = absurd (let a = ap length e in omega arith)
node-some f (n ∷ N) zero x xs e = ap (λ (y : Node). some (f y)) (ap (first n) e)
node-some f (n ∷ N) (suc k) x xs e = node-some f N k x xs e

node-none : (f : Node → Node) (N : List Node) (k : ℕ) → length N ≤ k → node_of f N k ≡ none
unfolding node_of
node-none f [] k l = refl
node-none f (n ∷ N) zero l = absurd (omega arith)
node-none f (n ∷ N) (suc k) l = node-none f N k (omega arith)

pub nodes-at : (ns : List Name) (s nodes : List ℕ) (j : ℕ) (N : List Node) → NodesFrom ns s nodes j N → (k : ℕ) (x : Node) (xs : List Node) → drop k N ≡ x ∷ xs → NodeAt ns s nodes (j + k) x
unfolding NodesFrom first
nodes-at ns s nodes j [] h zero x xs e = absurd (let a = ap length e in omega arith)
nodes-at ns s nodes j [] h (suc k) x xs e = absurd (let a = ap length e in omega arith)
nodes-at ns s nodes j (n ∷ N) h zero x xs e = let z : j ≡ j + 0 = omega arith in subst (λ (i : ℕ). NodeAt ns s nodes i x) z (subst (NodeAt ns s nodes j) (ap (first n) e) h.0)
nodes-at ns s nodes j (n ∷ N) h (suc k) x xs e = let z : suc j + k ≡ j + suc k = omega arith in subst (λ (i : ℕ). NodeAt ns s nodes i x) z (nodes-at ns s nodes (suc j) N h.1 k x xs e)

-- activations stay where they are drawn
pub drawn-kept : (ns : List Name) (s : List ℕ) (es : List Enum) (N : List Node) (As : List Activation) → length As ≤ 6656 → (P : ℕ → Type 0) (acts acts' : List ℕ) → RowsKept P acts acts' → Drawn ns s es N As acts → Drawn ns s es N As acts'
unfolding RowsKept
drawn-kept ns s es N As few P acts acts' K D b A p e =
    let d = D b A p e in
    let m = before-less As b A p e in
    let q = K (length b) (omega arith) in
    record { end = d.end; read = ap (activation_in ns s) q.0 ∙ d.read; goal = q.1 ∙ d.goal }

module _ (ns : List Name) (s : List ℕ) (es : List Enum) (N : List Node) (As : List Activation) (few : length As ≤ 6656) (acts₀ : List ℕ) (D : Drawn ns s es N As acts₀) where
  -- the activations of the first k nodes are judged
  pub record Passing (k : ℕ) (acts : List ℕ) : Type 0 where
    pub fates : (before : List Activation) (A : Activation) (post : List Activation) → As ≡ before ++ (A ∷ post) → place (node_names N) A.owner < k
        → FateIs ns A.name (refusal_t acts (length before)) (made_t acts (length before)) (fate_in es A (owner_of es N before A))
    pub kept : RowsKept (λ i. k ≤ goal_t acts₀ i) acts₀ acts

  pub passing-start : Passing 0 acts₀
  passing-start = record { fates = λ b A p e l. absurd (omega arith); kept = kept-none _ acts₀ }

  pub passing-drawn : (k : ℕ) (acts : List ℕ) → Passing k acts → Drawn ns s es N As acts
  passing-drawn k acts P = drawn-kept ns s es N As few _ acts₀ acts P.kept D

  -- the fate of an activation of the node of the place k
  pub owner_here : (b : List Activation) (A : Activation) (k : ℕ) (m : Among N k) → place (node_names N) A.owner ≡ k → fate_in es A (owner_of es N b A) ≡ lowered es A (joined es (node_names N) k b m.it)
  unfolding fate_in owner_of
  owner_here b A k m e =
      ap (λ (i : ℕ). fate_in es A (node_of (joined es (node_names N) i b) N i)) e
      ∙ ap (fate_in es A) (node-some (joined es (node_names N) k b) N k m.it (drop (suc k) N) m.left)

  pub passing-next : (k : ℕ) (m : Among N k) (acts acts' : List ℕ) → Passing k acts → NodeJudged ns es N As k m.it acts acts' → Passing (suc k) acts'
  unfolding RowsKept
  passing-next k m acts acts' P J = record { fates = fates'; kept = λ i l. kept' i l }
    where
      fates' : (b : List Activation) (A : Activation) (p : List Activation) → As ≡ b ++ (A ∷ p) → place (node_names N) A.owner < suc k → FateIs ns A.name (refusal_t acts' (length b)) (made_t acts' (length b)) (fate_in es A (owner_of es N b A))
      fates' b A p e l = go (eqb (place (node_names N) A.owner) k) refl
        where
          go : (x : Bool) → eqb (place (node_names N) A.owner) k ≡ x → FateIs ns A.name (refusal_t acts' (length b)) (made_t acts' (length b)) (fate_in es A (owner_of es N b A))
          go true f =
              let g = eqb-true (place (node_names N) A.owner) k f in
              subst (FateIs ns A.name (refusal_t acts' (length b)) (made_t acts' (length b))) (sym (owner_here b A k m g)) (J.fates b A p e g)
          go false f =
              let g = eqb-false (place (node_names N) A.owner) k f in
              let w = before-less As b A p e in
              let d = passing-drawn k acts P b A p e in
              let q = (J.kept (length b) (omega arith)).2 (λ h. g (sym d.goal ∙ h)) in
              subst (λ (x : Refused). FateIs ns A.name x (made_t acts' (length b)) (fate_in es A (owner_of es N b A))) (sym q.0)
              (subst (λ (x : ℕ). FateIs ns A.name (refusal_t acts (length b)) x (fate_in es A (owner_of es N b A))) (sym q.1) (P.fates b A p e (omega arith)))

      kept' : (i : ℕ) → i < 6656 → (spot_t acts' i ≡ spot_t acts₀ i) × (goal_t acts' i ≡ goal_t acts₀ i) × (suc k ≤ goal_t acts₀ i → (refusal_t acts' i ≡ refusal_t acts₀ i) × (made_t acts' i ≡ made_t acts₀ i))
      kept' i l =
          let a = P.kept i l in
          let c = J.kept i l in
          (c.0 ∙ a.0, c.1 ∙ a.1, λ h. let x = a.2 (omega arith) in let y = c.2 (λ e. let z = a.1 in omega arith) in (y.0 ∙ x.0, y.1 ∙ x.1))

  pub passing_step : (k : ℕ) (m : Among N k) (acts acts' : List ℕ) → Passing k acts → NodeJudged ns es N As k m.it acts acts' → Passing (k + 1) acts'
  passing_step k m acts acts' P J = let z : suc k ≡ k + 1 = omega arith in subst (λ (j : ℕ). Passing j acts') z (passing-next k m acts acts' P J)

  pub passing-done : (k : ℕ) (acts : List ℕ) → k ≡ length N → Passing k acts → Unowned ns s es N As acts₀ → Fates ns s es N As acts
  unfolding RowsKept fate_in owner_of
  passing-done k acts ek P U b A p e = go (eqb (place (node_names N) A.owner) (length N)) refl
    where
      go : (x : Bool) → eqb (place (node_names N) A.owner) (length N) ≡ x → FateIs ns A.name (refusal_t acts (length b)) (made_t acts (length b)) (fate_in es A (owner_of es N b A))
      go true f =
          let g = eqb-true (place (node_names N) A.owner) (length N) f in
          let w = before-less As b A p e in
          let d = D b A p e in
          let q = (P.kept (length b) (omega arith)).2 (let z = d.goal in omega arith) in
          subst (FateIs ns A.name (refusal_t acts (length b)) (made_t acts (length b))) (sym (ap (fate_in es A) (node-none (joined es (node_names N) (place (node_names N) A.owner) b) N (place (node_names N) A.owner) (omega arith))))
          (subst (λ (x : Refused). FateIs ns A.name x (made_t acts (length b)) (refuse (unknown_owner A.name A.owner))) (sym q.0)
          (subst (λ (x : ℕ). FateIs ns A.name (refusal_t acts₀ (length b)) x (refuse (unknown_owner A.name A.owner))) (sym q.1) (U b A p e g)))
      go false f =
          let g = eqb-false (place (node_names N) A.owner) (length N) f in
          let h = place-most (node_names N) A.owner in
          let w = length-names N in
          P.fates b A p e (omega arith)

-- the types of a node that was read
pub read-types : (ns : List Name) (es : List Enum) (old s offsets : List ℕ) (b : PackInfo) → Basis ns es old s offsets b → (m : Node) (at : ℕ) → NodeRead ns s at m → (later later' : List ℕ) → 32768 ≤ length later → later' ≡ variables_t ns s at (clear_t b.names later) → Types ns s m later'
unfolding Types
read-types ns es old s offsets b B m at R later later' l f =
    let few = B.few in
    subst (λ (y : List ℕ). TypesAre ns s y (last_typed (variables m))) (sym (f ∙ ap (λ (j : ℕ). variables_t ns s at (clear_t j later)) B.names))
    (variables-typed ns B.pack.fresh B.pack.few s B.pack.bytes B.short at m R.end later R.read (omega arith))

pub node-types : (ns : List Name) (es : List Enum) (old s offsets : List ℕ) (b : PackInfo) → Basis ns es old s offsets b → (nodes : List ℕ) (N : List Node) → NodesFrom ns s nodes 0 N → (k : ℕ) (m : Among N k) (at : ℕ) → at ≡ get_or nodes k 0
    → (later later' : List ℕ) → 32768 ≤ length later → later' ≡ variables_t ns s at (clear_t b.names later) → Types ns s m.it later'
node-types ns es old s offsets b B nodes N F k m at e later later' l f =
    let z : k ≡ 0 + k = omega arith in
    read-types ns es old s offsets b B m.it at (subst (λ (i : ℕ). NodeRead ns s i m.it) (sym (e ∙ ap (λ (i : ℕ). get_or nodes i 0) z)) (nodes-at ns s nodes 0 N F k m.it (drop (suc k) N) m.left)) later later' l f
