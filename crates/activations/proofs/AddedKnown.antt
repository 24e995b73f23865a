-- Where no activation is refused, what the code counts is what the definition brings to the nodes, but for multiples of 65,536, which
-- a count of 16 bits does not show.
use Prim.Native.Nat.{ℕ, suc, ◌+◌, ◌*◌, ◌/◌, ◌%◌}
use native.Mathlib.Nat.{add-mul-div_left, add-mul-mod_self_left, mod-add-div}
use native.Mathlib.Omega.{arith}
use mathlib.Core.List.{List, [], ◌∷◌, ◌++◌, append_assoc, append-eq-nil_iff, append-nil, cons-ne-nil}
use mathlib.Core.Bool.{Bool, true, false, cond}
use mathlib.Core.Option.{Option, none, some, some-injective}
use mathlib.Core.Path.{◌≡◌, refl, sym, ap, subst, ◌∙◌}
use lib.ListN.{length, length-append}
use lib.Dec.{eqb}
use borrow.Author.Tests.{eqb-true}
use Rattle.wire.specs.Bytes.{two}
use Rattle.pack_rules.specs.Names.{Name}
use Rattle.pack_rules.specs.Legal.{place}
use Rattle.pack_rules.specs.Syntax.{Activation, Enum, Equation, Node, Port}
use Rattle.pack_rules.specs.Read.{port_in, ports_in}
use Rattle.machines.specs.AddedAt.{total_t}
use Rattle.machine_rules.specs.Machines.{extend}
use Rattle.machines.specs.Sections.{node_names}
use Rattle.machines.proofs.PackCounts.{counted-many}
use Rattle.machines.proofs.Reading.{name-number}
use Rattle.machines.proofs.CheckedReadLaws.{number-to}
use Rattle.activations.specs.ActTable.{made_t, refusal_t, spot_t}
use Rattle.activations.specs.CountsAt.{adds_equations_t, adds_locals_t, equation_count_t}
use Rattle.activations.specs.Fates.{Drawn, FateIs, Fates}
use Rattle.activations.specs.Joining.{added, fate_in, joined, joins, node_of, owner_of, refusal_in, refusals_of}
use Rattle.activation_rules.specs.Lower.{Lowered, lowered, make, refuse}
use Rattle.activations.proofs.ActRead.{activation-value}
use Rattle.activations.proofs.EquationCounts.{equations-counted}
use Rattle.activations.proofs.Joined.{joined_snoc}

-- a number of 16 bits does not show multiples of 65,536
pub two-more : (y q : ℕ) → two (y + 65536 * q) ≡ two y
unfolding two
two-more y q =
    let z : y + 65536 * q ≡ y + 256 * (256 * q) = omega arith in
    let a : (y + 65536 * q) % 256 ≡ y % 256 = ap (λ x. x % 256) z ∙ add-mul-mod_self_left y 256 (256 * q) in
    let b : (y + 65536 * q) / 256 % 256 ≡ y / 256 % 256 =
    ap (λ x. x / 256 % 256) z ∙ ap (λ x. x % 256) (add-mul-div_left y (256 * q) (omega arith)) ∙ add-mul-mod_self_left (y / 256) 256 q in
    λ i. a i ∷ b i ∷ []

-- an activation that is accepted in its owner
pub record AcceptedIn (es : List Enum) (A : Activation) (o : Option Node) : Type 0 where
  pub owner : Node
  pub locals : List Port
  pub equations : List Equation
  pub found : o ≡ some owner
  pub is : lowered es A owner ≡ make locals equations

made_in : (es : List Enum) (A : Activation) (n : Node) (l : Lowered) → lowered es A n ≡ l → refusal_in l ≡ [] → AcceptedIn es A (some n)
unfolding refusal_in
made_in es A n (refuse r) e h = absurd (cons-ne-nil r [] h)
made_in es A n (make ls qs) e h = record { owner = n; locals = ls; equations = qs; found = refl; is = e }

accepted-in : (es : List Enum) (A : Activation) (o : Option Node) → refusal_in (fate_in es A o) ≡ [] → AcceptedIn es A o
unfolding fate_in refusal_in
accepted-in es A none h = absurd (cons-ne-nil _ [] h)
accepted-in es A (some n) h = made_in es A n (lowered es A n) refl h

module _ (es : List Enum) (N : List Node) where
  none_in : (before mid : List Activation) (A : Activation) (post : List Activation) → refusals_of es N before (mid ++ (A ∷ post)) ≡ [] → refusal_in (fate_in es A (owner_of es N (before ++ mid) A)) ≡ []
  unfolding refusals_of
  none_in before [] A post e =
      ap (λ (Bs : List Activation). refusal_in (fate_in es A (owner_of es N Bs A))) (append-nil before)
      ∙ ((append-eq-nil_iff {p = refusal_in (fate_in es A (owner_of es N before A))}).0 e).0
  none_in before (B ∷ mid) A post e =
      ap (λ (Bs : List Activation). refusal_in (fate_in es A (owner_of es N Bs A))) (sym (append_assoc before (B ∷ []) mid))
      ∙ none_in (before ++ (B ∷ [])) mid A post ((append-eq-nil_iff {p = refusal_in (fate_in es B (owner_of es N before B))}).0 e).1

  -- each is, where no refusal is made
  pub accepted-each : (As : List Activation) → refusals_of es N [] As ≡ [] → (before : List Activation) (A : Activation) (post : List Activation) → As ≡ before ++ (A ∷ post) → AcceptedIn es A (owner_of es N before A)
  accepted-each As e before A post f =
      accepted-in es A (owner_of es N before A) (none_in [] before A post (ap (refusals_of es N []) (sym f) ∙ e))

-- the node of a place
pub node_at : (f : Node → Node) (pre : List Node) (n : Node) (post : List Node) → node_of f (pre ++ (n ∷ post)) (length pre) ≡ some (f n)
unfolding node_of
node_at f [] n post = refl
node_at f (x ∷ pre) n post = node_at f pre n post

module _ (ns : List Name) (s : List ℕ) (es : List Enum) (N : List Node) (As : List Activation) (acts : List ℕ) (drawn : Drawn ns s es N As acts) (fates : Fates ns s es N As acts) (accepted : refusals_of es N [] As ≡ []) where
  -- the counts of a row
  row_made : (before : List Activation) (A : Activation) (post : List Activation) → As ≡ before ++ (A ∷ post) → (o : Node) (ls : List Port) (qs : List Equation) → owner_of es N before A ≡ some o → lowered es A o ≡ make ls qs → made_t acts (length before) ≡ length ls % 65536
  unfolding FateIs fate_in
  row_made before A post e o ls qs f g =
      (subst (FateIs ns A.name (refusal_t acts (length before)) (made_t acts (length before))) (ap (fate_in es A) f ∙ g) (fates before A post e)).1

  pub row_count : (before : List Activation) (A : Activation) (post : List Activation) → As ≡ before ++ (A ∷ post) → equation_count_t s acts (length before) ≡ made_t acts (length before) + length A.outputs
  unfolding equation_count_t ports_in
  row_count before A post e =
      let d = drawn before A post e in
      let r = activation-value ns s (spot_t acts (length before)) A d.end d.read in
      let n = name-number ns s (spot_t acts (length before)) A.name r.to-owner r.name in
      let o = name-number ns s r.to-owner A.owner r.to-outputs r.owner in
      let c = counted-many (port_in ns s) s r.to-outputs A.outputs r.to-branches r.outputs in
      number-to s (spot_t acts (length before)) n.i r.to-owner _ n.is
      ∙ number-to s r.to-owner o.i r.to-outputs _ o.is
      ∙ number-to s r.to-outputs (length A.outputs) (r.to-outputs + 2) _ c.0

  -- how many equations it makes
  pub row-equations : (before : List Activation) (A : Activation) (post : List Activation) → As ≡ before ++ (A ∷ post) → (o : Node) (ls : List Port) (qs : List Equation) → owner_of es N before A ≡ some o → lowered es A o ≡ make ls qs
      → (q : ℕ) × (length qs ≡ equation_count_t s acts (length before) + 65536 * q)
  row-equations before A post e o ls qs f g =
      let a = row_made before A post e o ls qs f g in
      let b = row_count before A post e in
      let c = equations-counted es A o ls qs g in
      let d = mod-add-div (length ls) 65536 in
      (length ls / 65536, omega arith)

  -- a node n of N
  module _ (pre : List Node) (n : Node) (later : List Node) (here : N ≡ pre ++ (n ∷ later)) where
    -- with what some activations bring to it
    abbrev m : List Activation → Node
    m before = joined es (node_names N) (length pre) before n

    -- what an activation brings of which it is the owner; of locals and equations the same multiple of 65,536 is not counted
    module _ (before : List Activation) (A : Activation) (post : List Activation) (e : As ≡ before ++ (A ∷ post)) where
      owner_here : place (node_names N) A.owner ≡ length pre → owner_of es N before A ≡ some (m before)
      unfolding owner_of
      owner_here h =
          ap (λ j. node_of (joined es (node_names N) j before) N j) h
          ∙ ap (λ (X : List Node). node_of (joined es (node_names N) (length pre) before) X (length pre)) here
          ∙ node_at (joined es (node_names N) (length pre) before) pre n later

      added-long : (ls : List Port) (qs : List Equation) → lowered es A (m before) ≡ make ls qs
          → (length (added (lowered es A (m before)) (m before)).locals ≡ length (m before).locals + length ls) × (length (added (lowered es A (m before)) (m before)).equations ≡ length (m before).equations + length qs)
      unfolding added extend
      added-long ls qs h =
          (ap (λ (l : Lowered). length (added l (m before)).locals) h ∙ length-append (m before).locals ls, ap (λ (l : Lowered). length (added l (m before)).equations) h ∙ length-append (m before).equations qs)

      one-here : place (node_names N) A.owner ≡ length pre
          → (q : ℕ) × (length (added (lowered es A (m before)) (m before)).locals ≡ length (m before).locals + made_t acts (length before) + 65536 * q) × (length (added (lowered es A (m before)) (m before)).equations ≡ length (m before).equations + equation_count_t s acts (length before) + 65536 * q)
      one-here h =
          let a = accepted-each es N As accepted before A post e in
          let same : a.owner ≡ m before = some-injective a.owner (m before) (sym a.found ∙ owner_here h) in
          let is : lowered es A (m before) ≡ make a.locals a.equations = ap (lowered es A) (sym same) ∙ a.is in
          let l = added-long a.locals a.equations is in
          let la = l.0 in
          let lb = l.1 in
          let c = row_made before A post e (m before) a.locals a.equations (owner_here h) is in
          let d = row_count before A post e in
          let f = equations-counted es A (m before) a.locals a.equations is in
          let g = mod-add-div (length a.locals) 65536 in
          (length a.locals / 65536, omega arith, omega arith)

      one : (q : ℕ) × (length (joins es (node_names N) (length pre) A (m before)).locals ≡ length (m before).locals + adds_locals_t acts (length pre) (length before) + 65536 * q) × (length (joins es (node_names N) (length pre) A (m before)).equations ≡ length (m before).equations + adds_equations_t s acts (length pre) (length before) + 65536 * q)
      unfolding joins adds_locals_t adds_equations_t
      one =
          subst (λ g. (q : ℕ) × (length (cond (eqb (place (node_names N) A.owner) (length pre)) (added (lowered es A (m before)) (m before)) (m before)).locals ≡ length (m before).locals + cond (eqb g (length pre)) (made_t acts (length before)) 0 + 65536 * q) × (length (cond (eqb (place (node_names N) A.owner) (length pre)) (added (lowered es A (m before)) (m before)) (m before)).equations ≡ length (m before).equations + cond (eqb g (length pre)) (equation_count_t s acts (length before)) 0 + 65536 * q))
          (sym (drawn before A post e).goal) (go (eqb (place (node_names N) A.owner) (length pre)) refl)
        where
          go : (b : Bool) → eqb (place (node_names N) A.owner) (length pre) ≡ b
              → (q : ℕ) × (length (cond b (added (lowered es A (m before)) (m before)) (m before)).locals ≡ length (m before).locals + cond b (made_t acts (length before)) 0 + 65536 * q) × (length (cond b (added (lowered es A (m before)) (m before)) (m before)).equations ≡ length (m before).equations + cond b (equation_count_t s acts (length before)) 0 + 65536 * q)
          go true f = one-here (eqb-true _ _ f)
          go false f = (0, omega arith, omega arith)

    -- what some bring, one after the other
    pub some-bring : (before mid post : List Activation) → As ≡ before ++ (mid ++ post)
        → (q : ℕ) × (length (m (before ++ mid)).locals ≡ length (m before).locals + total_t (adds_locals_t acts (length pre)) (length mid) (length before) + 65536 * q) × (length (m (before ++ mid)).equations ≡ length (m before).equations + total_t (adds_equations_t s acts (length pre)) (length mid) (length before) + 65536 * q)
    unfolding total_t
    some-bring before [] post e =
        (0, ap (λ (Bs : List Activation). length (m Bs).locals) (append-nil before) ∙ omega arith, ap (λ (Bs : List Activation). length (m Bs).equations) (append-nil before) ∙ omega arith)
    some-bring before (A ∷ mid) post e =
        let h = one before A (mid ++ post) e in
        let r = some-bring (before ++ (A ∷ [])) mid post (e ∙ sym (append_assoc before (A ∷ []) (mid ++ post))) in
        let z : length (before ++ (A ∷ [])) ≡ suc (length before) = length-append before (A ∷ []) ∙ omega arith in
        let w : m (before ++ (A ∷ [])) ≡ joins es (node_names N) (length pre) A (m before) = joined_snoc es (node_names N) (length pre) before A n in
        let v : m ((before ++ (A ∷ [])) ++ mid) ≡ m (before ++ (A ∷ mid)) = ap (λ (Bs : List Activation). m Bs) (append_assoc before (A ∷ []) mid) in
        let wl = ap (λ (x : Node). length x.locals) w in
        let we = ap (λ (x : Node). length x.equations) w in
        let vl = ap (λ (x : Node). length x.locals) v in
        let ve = ap (λ (x : Node). length x.equations) v in
        let tl = ap (total_t (adds_locals_t acts (length pre)) (length mid)) z in
        let te = ap (total_t (adds_equations_t s acts (length pre)) (length mid)) z in
        let hl = h.1 in
        let he = h.2 in
        let rl = r.1 in
        let re = r.2 in
        (h.0 + r.0, omega arith, omega arith)

    -- THE LAW: counts of 16 bits are those of the node with what the first activations bring to it
    module _ (mid post : List Activation) (e : As ≡ mid ++ post) where
      pub locals-two : two (length n.locals + total_t (adds_locals_t acts (length pre)) (length mid) 0) ≡ two (length (joined es (node_names N) (length pre) mid n).locals)
      unfolding joined
      locals-two = let h = some-bring [] mid post e in sym (ap two h.1 ∙ two-more _ h.0)

      pub equations-two : two (length n.equations + total_t (adds_equations_t s acts (length pre)) (length mid) 0) ≡ two (length (joined es (node_names N) (length pre) mid n).equations)
      unfolding joined
      equations-two = let h = some-bring [] mid post e in sym (ap two h.2 ∙ two-more _ h.0)
