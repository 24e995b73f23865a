-- One activation judged in a node of which the types are known: by what the code found out, its fate.
use Prim.Native.Nat.{ℕ, suc, ◌+◌, ◌<◌, ◌≤◌, ◌%◌}
use native.Mathlib.Omega.{arith}
use mathlib.Core.List.{List, [], ◌∷◌, ◌++◌}
use mathlib.Core.Bool.{Bool, true, false, cond}
use mathlib.Core.Option.{none, some}
use mathlib.Core.Path.{◌≡◌, refl, sym, ap, subst, ◌∙◌}
use lib.ListN.{length}
use lib.Dec.{eqb, ltb}
use borrow.Author.Tests.{eq-eqb, le-ltb, lt-ltb, ltb-false, ltb-true, ne_eqb}
use Rattle.pack_rules.specs.Names.{Name}
use Rattle.pack_rules.specs.Forms.{name_at}
use Rattle.pack_rules.specs.Report.{Refusal}
use Rattle.pack_rules.specs.Syntax.{Activation, Enum, Equation, Node, Port}
use Rattle.machine_rules.specs.Machines.{extend}
use Rattle.activations.specs.declared.pack_info.PackInfo.{PackInfo}
use Rattle.activations.specs.declared.parts.Act.{Act}
use Rattle.activations.specs.declared.checks.Refused.{Refused}
use Rattle.activation_rules.specs.Refusals.{empty_left, last_needs_init, last_unknown}
use Rattle.activation_rules.specs.EmptyLeft.{has_empty_left}
use Rattle.activation_rules.specs.Types.{last_typed, readable, sample_type, value_type, variables}
use Rattle.activation_rules.specs.Holders.{Holding, holders_made, refused}
use Rattle.activation_rules.specs.Checks.{checks, else_name}
use Rattle.activation_rules.specs.Lower.{Lowered, act_equations, act_locals, lowered, make, makes, refuse}
use Rattle.activations.specs.Joining.{added, fate_in}
use Rattle.activations.specs.TypesAt.{TypesAre}
use Rattle.activations.specs.HoldersTyped.{HeldAs, as_held, as_needs_init, as_unknown}
use Rattle.activations.specs.LocalsAt.{act_locals_t}
use Rattle.activations.specs.PreparedAt.{Preparation, prepared_t}
use Rattle.activations.specs.ChecksAt.{called, checks_t, has_empty_left_t, refusal_by, refused_t}
use Rattle.activations.specs.PackInfoAt.{Basis, ReadAt, Types}
use Rattle.activations.specs.Fates.{FateIs}
use Rattle.activations.specs.Verdicts.{JudgedIn, LeftAs, quiet, refused_in, within_t}
use Rattle.activations.proofs.LocalsLeft.{Leaves, leaves-count}
use Rattle.activations.proofs.ActRead.{activation-value}
use Rattle.activations.proofs.ChecksFound.{checks-are, leftless-is}
use Rattle.machines.specs.EmitAt.{pack_name}
use Rattle.activations.proofs.ActCounts.{branches-few}
use Rattle.activations.proofs.RefusalKinds.{LoweredKind, fate-kind}
use Rattle.activations.proofs.Prepared.{BegunAs, asked, begun-here, begun-leaves, holding, lowered-checked, lowered-leftless, lowered-makes, lowered-unheld, name-here, variables-more}

-- a name by its number in 16 bits
within-called : (ns : List Name) (x : ℕ) → called ns (within_t (length ns) x) ≡ called ns x
unfolding called within_t
within-called ns x = go (ltb (length ns) x) refl
  where
    none-there : (y : ℕ) → length ns < y → cond (ltb y (length ns)) (name_at ns y ∷ []) (cond (eqb y (length ns)) [] (else_name ∷ [])) ≡ else_name ∷ []
    none-there y l = ap (λ (b : Bool). cond b (name_at ns y ∷ []) (cond (eqb y (length ns)) [] (else_name ∷ []))) (le-ltb y (length ns) (omega arith)) ∙ ap (λ (b : Bool). cond b [] (else_name ∷ [])) (ne_eqb y (length ns) (λ e. omega arith))

    go : (b : Bool) → ltb (length ns) x ≡ b → cond (ltb (cond b (suc (length ns)) x) (length ns)) (name_at ns (cond b (suc (length ns)) x) ∷ []) (cond (eqb (cond b (suc (length ns)) x) (length ns)) [] (else_name ∷ [])) ≡ cond (ltb x (length ns)) (name_at ns x ∷ []) (cond (eqb x (length ns)) [] (else_name ∷ []))
    go true e = none-there (suc (length ns)) (omega arith) ∙ sym (none-there x (ltb-true (length ns) x e))
    go false e = refl

within_low : (names x : ℕ) → within_t names x ≤ suc names
unfolding within_t
within_low names x = go (ltb names x) refl
  where
    go : (b : Bool) → ltb names x ≡ b → cond b (suc names) x ≤ suc names
    go true e = omega arith
    go false e = let l = ltb-false names x e in omega arith

within-refusal : (ns : List Name) (a : Name) (kind second third : ℕ) → refusal_by ns a (refused_in (length ns) kind second third) ≡ refusal_by ns a (refused_t kind second third)
unfolding refusal_by refused_in
within-refusal ns a kind second third = λ i. cond (eqb kind 0) none (some (record { kind = kind; names = a ∷ (within-called ns second i ++ within-called ns third i) }))

-- a refusal that is one has its kind
refusal-some : (ns : List Name) (a : Name) (r : Refused) → (r.kind ≡ 0 → ⊥) → (x : Refusal) × (refusal_by ns a r ≡ some x) × (x.kind ≡ r.kind)
unfolding refusal_by
refusal-some ns a r n = (record { kind = r.kind; names = a ∷ (called ns r.second ++ called ns r.third) }, ap (λ (b : Bool). cond b none (some (record { kind = r.kind; names = a ∷ (called ns r.second ++ called ns r.third) }))) (ne_eqb r.kind 0 n), refl)

refusal-none : (ns : List Name) (a : Name) (r : Refused) → r.kind ≡ 0 → refusal_by ns a r ≡ none
unfolding refusal_by
refusal-none ns a r e = ap (λ (b : Bool). cond b none (some (record { kind = r.kind; names = a ∷ (called ns r.second ++ called ns r.third) }))) (eq-eqb r.kind 0 e)

module _ (ns : List Name) (es : List Enum) (old s offsets : List ℕ) (b : PackInfo) (B : Basis ns es old s offsets b) (at : ℕ) (A : Activation) (act : Act) (R : ReadAt ns s at A act) (n : Node) (later : List ℕ) (T : Types ns s n later) where
  -- a refusal leaves the node as it is
  refused-in : (kind second third : ℕ) (x : Refusal) → kind < 65536 → lowered es A n ≡ refuse x → refusal_by ns A.name (refused_t kind second third) ≡ some x
      → (r : Refused) (locals : ℕ) → r ≡ refused_in b.names kind second third → locals ≡ 0 → JudgedIn ns es s A n r locals later
  unfolding FateIs added refused_in
  refused-in kind second third x k e f r locals er el =
      let few = B.few in
      let g : r ≡ refused_in (length ns) kind second third = er ∙ ap (λ (m : ℕ). refused_in m kind second third) B.names in
      record {
        fate = subst (FateIs ns A.name r locals) (sym e) (ap (refusal_by ns A.name) g ∙ within-refusal ns A.name kind second third ∙ f);
        types = subst (λ (l : Lowered). Types ns s (added l n) later) (sym e) T;
        words = (
          subst (λ (y : Refused). y.kind < 65536) (sym g) k,
          subst (λ (y : Refused). y.second < 65536) (sym g) (let w = within_low (length ns) second in omega arith),
          subst (λ (y : Refused). y.third < 65536) (sym g) (let w = within_low (length ns) third in omega arith),
          omega arith,
        );
      }

  -- by the checks
  pub judged-checked : (c r : Refused) (locals : ℕ) → refusal_by ns A.name c ≡ checks A → (c.kind ≡ 0 → ⊥) → r ≡ refused_in b.names c.kind c.second c.third → locals ≡ 0 → JudgedIn ns es s A n r locals later
  unfolding LoweredKind fate_in
  judged-checked c r locals e k er el =
      let x = refusal-some ns A.name c k in
      let w : checks A ≡ some x.0 = sym e ∙ x.1 in
      let l = lowered-checked es A n x.0 w in
      let q : x.0.kind < 256 = subst LoweredKind l (fate-kind es A (some n)) in
      refused-in c.kind c.second c.third x.0 (let v = x.2 in omega arith) l x.1 r locals er el

  -- by the holders
  module _ (c : Refused) (passed : refusal_by ns A.name c ≡ checks A) (kind : c.kind ≡ 0) (x : Preparation) (G : BegunAs ns es s A n x) where
    clean : checks A ≡ none
    clean = sym passed ∙ refusal-none ns A.name c kind

    old-called : (v : ℕ) → v < length ns → called ns v ≡ name_at ns v ∷ []
    unfolding called
    old-called v l = ap (λ (y : Bool). cond y (name_at ns v ∷ []) (cond (eqb v (length ns)) [] (else_name ∷ []))) (lt-ltb v (length ns) l)

    no-called : called ns b.names ≡ []
    unfolding called
    no-called =
        ap (λ (m : ℕ). cond (ltb m (length ns)) (name_at ns m ∷ []) (cond (eqb m (length ns)) [] (else_name ∷ []))) B.names
        ∙ ap (λ (y : Bool). cond y (name_at ns (length ns) ∷ []) (cond (eqb (length ns) (length ns)) [] (else_name ∷ []))) (le-ltb (length ns) (length ns) (omega arith))
        ∙ ap (λ (y : Bool). cond y [] (else_name ∷ [])) (eq-eqb (length ns) (length ns) refl)

    one-refusal : (k v : ℕ) → v < length ns → refusal_by ns A.name (refused_t (suc k) v b.names) ≡ some (record { kind = suc k; names = A.name ∷ name_at ns v ∷ [] })
    unfolding refusal_by
    one-refusal k v l =
        ap (λ (y : Bool). cond y none (some (record { kind = suc k; names = A.name ∷ (called ns v ++ called ns b.names) }))) (ne_eqb (suc k) 0 (λ e. omega arith))
        ∙ λ i. some (record { kind = suc k; names = A.name ∷ (old-called v l i ++ no-called i) })

    pub judged-unheld : (x.hold.kind ≡ 0 → ⊥) → (r : Refused) (locals : ℕ) → r ≡ refused_in b.names x.hold.kind x.hold.var b.names → locals ≡ 0 → JudgedIn ns es s A n r locals later
    unfolding last_unknown last_needs_init
    judged-unheld k r locals er el = go (holding es A n) refl G.held
      where
        by : (kind : ℕ) (y : Refusal) → x.hold.kind ≡ suc kind → kind < 65535 → x.hold.var < length ns → y ≡ record { kind = suc kind; names = A.name ∷ name_at ns x.hold.var ∷ [] } → holding es A n ≡ refused y → JudgedIn ns es s A n r locals later
        by kind y e low l f h = refused-in (suc kind) x.hold.var b.names y (omega arith) (lowered-unheld es A n y clean h) (one-refusal kind x.hold.var l ∙ ap some (sym f)) r locals (er ∙ ap (λ (m : ℕ). refused_in b.names m x.hold.var b.names) e) el

        go : (h : Holding) → holding es A n ≡ h → HeldAs ns s A.name x.hold x.rows (variables n) (asked A) h → JudgedIn ns es s A n r locals later
        go (refused y) e (as_unknown a l f) = by 14 y a (omega arith) l f e
        go (refused y) e (as_needs_init a l f) = by 15 y a (omega arith) l f e
        go (holders_made ps gs) e (as_held a w v) = absurd (k a)

    -- nothing is refused of the holders
    unheld-not : x.hold.kind ≡ 0 → (ps : List Port) × (gs : List Equation) × (holding es A n ≡ holders_made ps gs)
    unheld-not k = go (holding es A n) refl G.held
      where
        go : (h : Holding) → holding es A n ≡ h → HeldAs ns s A.name x.hold x.rows (variables n) (asked A) h → (ps : List Port) × (gs : List Equation) × (holding es A n ≡ holders_made ps gs)
        go (refused y) e (as_unknown a l f) = absurd (omega arith)
        go (refused y) e (as_needs_init a l f) = absurd (omega arith)
        go (holders_made ps gs) e (as_held a w v) = (ps, gs, e)

    -- a scope equation without left names
    pub judged-leftless : x.hold.kind ≡ 0 → has_empty_left A ≡ true → (r : Refused) (locals : ℕ) → r ≡ refused_in b.names 18 b.names b.names → locals ≡ 0 → JudgedIn ns es s A n r locals later
    unfolding empty_left refusal_by
    judged-leftless k e r locals er el =
        let h = unheld-not k in
        refused-in 18 b.names b.names (empty_left A.name) (omega arith) (lowered-leftless es A n h.0 h.1 clean h.2 e)
        (λ i. some (record { kind = 18; names = A.name ∷ (no-called i ++ no-called i) })) r locals er el

    -- locals that are made
    pub judged-made : x.hold.kind ≡ 0 → has_empty_left A ≡ false → length x.hold.env ≤ 65536 → length ns ≤ length later → (r : Refused) (locals : ℕ) (later' : List ℕ) → r ≡ refused_t 0 b.names b.names
        → LeftAs locals later' (act_locals_t ns s old b.made A.name offsets x.hold.env x.outs b.last x.hold.held x.rows act (quiet later)) → JudgedIn ns es s A n r locals later'
    unfolding FateIs added makes quiet Types
    judged-made k filled low room r locals later' er left =
        let few = B.few in
        let h = unheld-not k in
        let ps = h.0 in
        let gs = h.1 in
        let ls = act_locals (sample_type (variables n ++ ps) A.outputs) (value_type (variables n ++ ps) A.outputs) A ps (readable (variables n ++ ps) A.outputs) in
        let qs = act_equations A gs (readable (variables n ++ ps) A.outputs) in
        let e : lowered es A n ≡ make ls qs = lowered-makes es A n ps gs clean h.2 filled in
        let z = act_locals_t ns s old b.made A.name offsets x.hold.env x.outs b.last x.hold.held x.rows act (quiet later) in
        let L : Leaves ns s ls (quiet later) z = begun-leaves ns es old s offsets b B at A act R n x G low ps gs h.2 filled (quiet later) in
        record {
          fate = subst (FateIs ns A.name r locals) (sym e) (refusal-none ns A.name r (ap (λ (y : Refused). y.kind) er), left.0 ∙ leaves-count ns s ls (quiet later) z L (omega arith) ∙ (let y : 0 + length ls ≡ length ls = omega arith in ap (λ (m : ℕ). m % 65536) y));
          types = subst (λ (l : Lowered). TypesAre ns s later' (last_typed (variables (added l n)))) (sym e)
              (subst (λ (l : List ℕ). TypesAre ns s l (last_typed (variables (extend ls qs n)))) (sym left.1)
              (subst (λ (ports : List Port). TypesAre ns s z.later (last_typed ports)) (sym (variables-more ls qs n)) (L.types (variables n) room T)));
          words = (
            subst (λ (y : Refused). y.kind < 65536) (sym er) (omega arith),
            subst (λ (y : Refused). y.second < 65536) (sym er) (omega (arith, B.names)),
            subst (λ (y : Refused). y.third < 65536) (sym er) (omega (arith, B.names)),
            let y = L.low (omega arith) in omega (arith, left.0),
          );
        }

-- the same, by what the code's parts answer
module _ (ns : List Name) (es : List Enum) (old s offsets : List ℕ) (b : PackInfo) (B : Basis ns es old s offsets b) (at : ℕ) (A : Activation) (act : Act) (R : ReadAt ns s at A act) (n : Node) (later : List ℕ) (T : Types ns s n later)
    (c : Refused) (t u : List ℕ) (wide : 32768 ≤ length t) (wider : 32768 ≤ length u) (ec : c ≡ checks_t ns s b.last act t u) where
  checked : refusal_by ns A.name c ≡ checks A
  checked =
      let few = B.few in
      let v = activation-value ns s at A R.end R.read in
      ap (refusal_by ns A.name) (ec ∙ ap (λ (y : Act). checks_t ns s b.last y t u) R.parts)
      ∙ checks-are ns B.pack.fresh s at A R.end v b.last B.pack.few B.pack.bytes B.short B.last R.read t u (branches-few ns s at A R.end R.read B.short) (omega arith) (omega arith)

  pub judge-checked : (c.kind ≡ 0 → ⊥) → (r : Refused) (locals : ℕ) → r ≡ refused_in b.names c.kind c.second c.third → locals ≡ 0 → JudgedIn ns es s A n r locals later
  judge-checked k r locals er el = judged-checked ns es old s offsets b B at A act R n later T c r locals checked k er el

  module _ (kind : c.kind ≡ 0) (a env outs table : List ℕ) (ea : a ≡ pack_name s offsets act.name) (x : Preparation) (ex : x ≡ prepared_t ns old s b offsets a act later env outs table)
      (long : length env ≡ 65536) (for_outs : 32768 ≤ length outs) (room : 24576 ≤ length table) where
    begun : BegunAs ns es s A n x
    begun = begun-here ns es old s offsets b B at A act R n later a env outs table T ea x ex long for_outs room

    pub judge-unheld : (x.hold.kind ≡ 0 → ⊥) → (r : Refused) (locals : ℕ) → r ≡ refused_in b.names x.hold.kind x.hold.var b.names → locals ≡ 0 → JudgedIn ns es s A n r locals later
    judge-unheld k r locals er el = judged-unheld ns es old s offsets b B at A act R n later T c checked kind x begun k r locals er el

    module _ (held_All : x.hold.kind ≡ 0) (l : Bool) (e-left : l ≡ has_empty_left_t ns s act) where
      left_is : l ≡ has_empty_left A
      left_is = e-left ∙ ap (has_empty_left_t ns s) R.parts ∙ leftless-is ns B.pack.fresh s at A R.end (activation-value ns s at A R.end R.read)

      pub judge-leftless : l ≡ true → (r : Refused) (locals : ℕ) → r ≡ refused_in b.names 18 b.names b.names → locals ≡ 0 → JudgedIn ns es s A n r locals later
      judge-leftless e r locals er el = judged-leftless ns es old s offsets b B at A act R n later T c checked kind x begun held_All (sym left_is ∙ e) r locals er el

      pub judge-made : l ≡ false → length x.hold.env ≡ 65536 → 32768 ≤ length later → (r : Refused) (locals : ℕ) (later' : List ℕ) → r ≡ refused_t 0 b.names b.names
          → LeftAs locals later' (act_locals_t ns s old b.made a offsets x.hold.env x.outs b.last x.hold.held x.rows act (quiet later)) → JudgedIn ns es s A n r locals later'
      judge-made e low wide' r locals later' er left =
          let few = B.few in
          judged-made ns es old s offsets b B at A act R n later T c checked kind x begun held_All (sym left_is ∙ e) (omega arith) (omega arith) r locals later' er
          (subst (λ (y : List ℕ). LeftAs locals later' (act_locals_t ns s old b.made y offsets x.hold.env x.outs b.last x.hold.held x.rows act (quiet later))) (name-here ns es old s offsets b B at A act R n a ea) left)
