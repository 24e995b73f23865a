-- An activation begun in a node of which the types are known: what the tables hold then, and what is made or refused.
use Prim.Native.Nat.{ℕ, ◌<◌, ◌≤◌}
use native.Mathlib.Omega.{arith}
use mathlib.Core.List.{List, [], ◌++◌, append_assoc}
use mathlib.Core.Bool.{Bool, true, false, cond}
use mathlib.Core.Option.{Option, none, some}
use mathlib.Core.Path.{◌≡◌, refl, sym, ap, subst, ◌∙◌}
use lib.ListN.{length, get_or}
use Rattle.wire.specs.Writer.{State}
use Rattle.pack_rules.specs.Names.{Name}
use Rattle.pack_rules.specs.Forms.{name_at}
use Rattle.pack_rules.specs.Report.{Refusal}
use Rattle.pack_rules.specs.Syntax.{Activation, Enum, Equation, Node, Port, Ty}
use Rattle.pack_rules.specs.Write.{each, equation_items}
use Rattle.pack.specs.Table.{tabled}
use Rattle.pack.specs.Intern.{render}
use Rattle.machines.specs.EmitAt.{pack_name}
use Rattle.machine_rules.specs.Machines.{extend}
use Rattle.machines.proofs.TablesFilled.{fill-at, fill-length}
use Rattle.activations.specs.declared.pack_info.PackInfo.{PackInfo}
use Rattle.activations.specs.declared.parts.Act.{Act}
use Rattle.activation_rules.specs.Refusals.{empty_left}
use Rattle.activation_rules.specs.EmptyLeft.{has_empty_left}
use Rattle.activation_rules.specs.Types.{first_typed, last_typed, readable, sample_type, value_type, variables}
use Rattle.activation_rules.specs.Sought.{Sought, expressions, found}
use Rattle.activation_rules.specs.RewriteLast.{conditions_of}
use Rattle.activation_rules.specs.Holders.{Holding, holders_made, make_holders, refused}
use Rattle.activation_rules.specs.Checks.{checks}
use Rattle.activation_rules.specs.Lower.{act_equations, act_locals, lowered, make, makes, refuse, unless, with_holders}
use Rattle.activations.specs.Cells.{clear_t, copy_t}
use Rattle.activations.specs.Places.{act_at}
use Rattle.activations.specs.TypesAt.{Coded, TypesAre, first_ports_t}
use Rattle.activations.specs.LastsAt.{RowsFrom, find_all_lasts_t, rows_of}
use Rattle.activations.specs.TypeHoldersAt.{hold_from}
use Rattle.activations.specs.HoldersTyped.{HeldAs, KnownAt}
use Rattle.activations.specs.LocalsAt.{Left, act_locals_t}
use Rattle.activations.specs.EquationsAt.{act_equations_t}
use Rattle.activations.specs.PreparedAt.{Preparation, held_t, prepared_t}
use Rattle.activations.specs.PackInfoAt.{Basis, ReadAt, Scratch, Types}
use Rattle.activations.specs.AddedParts.{IsMade, equations_of, ports_of}
use Rattle.activations.proofs.ActRead.{act-to, activation-value}
use Rattle.activations.proofs.TypesKnown.{outputs-typed}
use Rattle.activations.proofs.LastsFound.{all_found}
use Rattle.activations.proofs.TypeHoldersKnown.{hold-is}
use Rattle.activations.proofs.HoldersKnown.{held-known}
use Rattle.activations.proofs.LocalsLeft.{Leaves}
use Rattle.activations.proofs.ActKnown.{conditions-length, locals-known}
use Rattle.activations.proofs.EquationsKnown.{equations-known}

-- the variables that `last` asks for, and their holders in the node n
abbrev pub asked : Activation → List Sought
asked A = found (expressions A) []

abbrev pub holding : List Enum → Activation → Node → Holding
holding es A n = make_holders es A.name (variables n) A.outputs (asked A)

-- the definition, by its cases
module _ (es : List Enum) (A : Activation) (n : Node) where
  pub lowered-checked : (r : Refusal) → checks A ≡ some r → lowered es A n ≡ refuse r
  unfolding lowered unless
  lowered-checked r e = ap (λ (x : Option Refusal). unless x (with_holders A (variables n) (holding es A n))) e

  passed_on : checks A ≡ none → lowered es A n ≡ with_holders A (variables n) (holding es A n)
  unfolding lowered unless
  passed_on e = ap (λ (x : Option Refusal). unless x (with_holders A (variables n) (holding es A n))) e

  pub lowered-unheld : (r : Refusal) → checks A ≡ none → holding es A n ≡ refused r → lowered es A n ≡ refuse r
  unfolding with_holders
  lowered-unheld r e f = passed_on e ∙ ap (with_holders A (variables n)) f

  pub lowered-leftless : (ps : List Port) (gs : List Equation) → checks A ≡ none → holding es A n ≡ holders_made ps gs → has_empty_left A ≡ true → lowered es A n ≡ refuse (empty_left A.name)
  unfolding with_holders
  lowered-leftless ps gs e f g = passed_on e ∙ ap (with_holders A (variables n)) f ∙ ap (λ (b : Bool). cond b (refuse (empty_left A.name)) (makes A (variables n ++ ps) ps gs)) g

  pub lowered-makes : (ps : List Port) (gs : List Equation) → checks A ≡ none → holding es A n ≡ holders_made ps gs → has_empty_left A ≡ false → lowered es A n ≡ makes A (variables n ++ ps) ps gs
  unfolding with_holders
  lowered-makes ps gs e f g = passed_on e ∙ ap (with_holders A (variables n)) f ∙ ap (λ (b : Bool). cond b (refuse (empty_left A.name)) (makes A (variables n ++ ps) ps gs)) g

  -- what is made has holders, and no equation without left names
  pub record Makes (ls : List Port) (qs : List Equation) : Type 0 where
    pub ports : List Port
    pub equations : List Equation
    pub holds : holding es A n ≡ holders_made ports equations
    pub filled : has_empty_left A ≡ false
    pub locals : ls ≡ act_locals (sample_type (variables n ++ ports) A.outputs) (value_type (variables n ++ ports) A.outputs) A ports (readable (variables n ++ ports) A.outputs)
    pub written : qs ≡ act_equations A equations (readable (variables n ++ ports) A.outputs)

not_made : (r : Refusal) (ls : List Port) (qs : List Equation) → refuse r ≡ make ls qs → ⊥
unfolding IsMade
not_made r ls qs e = subst IsMade (sym e) tt

module _ (es : List Enum) (A : Activation) (n : Node) (ls : List Port) (qs : List Equation) where
  parts-made : (ps : List Port) (gs : List Equation) → holding es A n ≡ holders_made ps gs → has_empty_left A ≡ false → makes A (variables n ++ ps) ps gs ≡ make ls qs → Makes es A n ls qs
  unfolding makes ports_of equations_of
  parts-made ps gs h g f = record { ports = ps; equations = gs; holds = h; filled = g; locals = sym (ap ports_of f); written = sym (ap equations_of f) }

  pub made-makes : lowered es A n ≡ make ls qs → Makes es A n ls qs
  made-makes e = checked (checks A) refl
    where
      left : checks A ≡ none → (ps : List Port) (gs : List Equation) → holding es A n ≡ holders_made ps gs → (b : Bool) → has_empty_left A ≡ b → Makes es A n ls qs
      left c ps gs h true g = absurd (not_made (empty_left A.name) ls qs (sym (lowered-leftless es A n ps gs c h g) ∙ e))
      left c ps gs h false g = parts-made ps gs h g (sym (lowered-makes es A n ps gs c h g) ∙ e)

      holds : checks A ≡ none → (h : Holding) → holding es A n ≡ h → Makes es A n ls qs
      holds c (refused r) h = absurd (not_made r ls qs (sym (lowered-unheld es A n r c h) ∙ e))
      holds c (holders_made ps gs) h = left c ps gs h (has_empty_left A) refl

      checked : (x : Option Refusal) → checks A ≡ x → Makes es A n ls qs
      checked none c = holds c (holding es A n) refl
      checked (some r) c = absurd (not_made r ls qs (sym (lowered-checked es A n r c) ∙ e))

-- scratch of the same lengths serves as well
pub scratch-kept : (l e o h r s l' e' o' h' r' s' : List ℕ) → Scratch l e o h r s → length l' ≡ length l → length e' ≡ length e → length o' ≡ length o → length h' ≡ length h → length r' ≡ length r → length s' ≡ length s
    → Scratch l' e' o' h' r' s'
scratch-kept l e o h r s l' e' o' h' r' s' S el ee eo eh er es =
    let p = S.for_types in
    let q = S.for_outputs in
    let w = S.for_rows in
    let u = S.for_reads in
    let v = S.for_seen in
    record { for_types = omega arith; for_numbers = ee ∙ S.for_numbers; for_outputs = omega arith; for_rows = omega arith; for_reads = omega arith; for_seen = omega arith }

-- a node's variables, where locals are added
pub variables-more : (ls : List Port) (qs : List Equation) (n : Node) → variables (extend ls qs n) ≡ variables n ++ ls
unfolding variables extend
variables-more ls qs n = ap (λ (x : List Port). n.inputs ++ x) (sym (append_assoc n.outputs n.locals ls)) ∙ sym (append_assoc n.inputs (n.outputs ++ n.locals) ls)

copied-typed : (ns : List Name) (s later env : List ℕ) (f : Name → Option Ty) → length ns ≤ length env → TypesAre ns s later f → TypesAre ns s (copy_t later (length ns) env) f
unfolding TypesAre copy_t
copied-typed ns s later env f l t x y = subst (λ (c : ℕ). Coded ns s c (f (name_at ns x))) (sym (fill-at (λ i. get_or later i 0) (length ns) 0 env x (omega arith) (omega arith) (omega arith))) (t x y)

-- what an activation is begun with, in the node n
pub record BegunAs (ns : List Name) (es : List Enum) (s : List ℕ) (A : Activation) (n : Node) (x : Preparation) : Type 0 where
  pub outs : TypesAre ns s x.outs (first_typed A.outputs)
  pub rows : x.rows ≡ length (asked A)
  pub held : HeldAs ns s A.name x.hold x.rows (variables n) (asked A) (holding es A n)

module _ (ns : List Name) (es : List Enum) (old s offsets : List ℕ) (b : PackInfo) (B : Basis ns es old s offsets b) (at : ℕ) (A : Activation) (act : Act) (R : ReadAt ns s at A act) (n : Node) where
  under : length ns < 65536
  under = B.pack.few

  pub begun-as : (later env outs table : List ℕ) → Types ns s n later → length env ≡ 65536 → length ns ≤ length outs → 24576 ≤ length table → BegunAs ns es s A n (prepared_t ns old s b offsets A.name act later env outs table)
  unfolding prepared_t held_t Types copy_t
  begun-as later env outs table T long wide room =
      let few = B.few in
      let fresh = B.pack.fresh in
      let by = B.pack.bytes in
      let r = all_found ns fresh under s by B.short b.last B.last at A R.end table R.read room in
      let v = activation-value ns s at A R.end R.read in
      let z = find_all_lasts_t ns s b.last (act_at ns s at) (rows_of table 0) in
      let o : TypesAre ns s (first_ports_t ns s (act_at ns s at).outputs (clear_t b.names outs)) (first_typed A.outputs) =
      subst (λ (y : Act). TypesAre ns s (first_ports_t ns s y.outputs (clear_t b.names outs)) (first_typed A.outputs)) (sym (act-to ns s at A R.end v).3)
      (subst (λ (k : ℕ). TypesAre ns s (first_ports_t ns s v.to-outputs (clear_t k outs)) (first_typed A.outputs)) (sym B.names) (outputs-typed ns fresh under s by B.short v.to-outputs A.outputs v.to-branches outs v.outputs wide)) in
      let t : TypesAre ns s (copy_t later b.names env) (last_typed (variables n)) = subst (λ (k : ℕ). TypesAre ns s (copy_t later k env) (last_typed (variables n))) (sym B.names) (copied-typed ns s later env (last_typed (variables n)) (omega arith) T) in
      let l : length (copy_t later b.names env) ≡ length env = fill-length (λ i. get_or later i 0) b.names 0 env in
      let h : HeldAs ns s A.name (hold_from ns (tabled ns) s b offsets A.name (first_ports_t ns s (act_at ns s at).outputs (clear_t b.names outs)) z.count 0 (copy_t later b.names env) z.table) z.count (variables n) (asked A) (holding es A n) =
      hold-is ns fresh B.pack.legal few s by B.short offsets B.pack.placed b B.names B.made es B.to B.enums B.firsts A.name _ A.outputs o z.count (asked A) (variables n) (copy_t later b.names env) z.table r.1 r.0 t (omega arith) r.2 in
      subst (λ (y : Act). BegunAs ns es s A n (prepared_t ns old s b offsets A.name y later env outs table)) (sym R.parts)
      (subst (λ (y : List ℕ). BegunAs ns es s A n (prepared_t ns y s b offsets A.name (act_at ns s at) later env outs table)) (sym B.pack.names)
      (record { outs = o; rows = r.1; held = h }))

  -- by what the code has: the name of the activation, and what it is begun with
  pub name-here : (a : List ℕ) → a ≡ pack_name s offsets act.name → a ≡ A.name
  name-here a e =
      let v = activation-value ns s at A R.end R.read in
      let w = act-to ns s at A R.end v in
      e ∙ ap (λ (y : Act). pack_name s offsets y.name) (R.parts ∙ w.3) ∙ B.pack.placed w.0 w.1 ∙ w.2

  pub begun-here : (later a env outs table : List ℕ) → Types ns s n later → a ≡ pack_name s offsets act.name → (x : Preparation) → x ≡ prepared_t ns old s b offsets a act later env outs table → length env ≡ 65536 → 32768 ≤ length outs → 24576 ≤ length table → BegunAs ns es s A n x
  begun-here later a env outs table T ea x ex long wide room =
      let few = B.few in
      subst (BegunAs ns es s A n) (sym (ex ∙ ap (λ (y : List ℕ). prepared_t ns old s b offsets y act later env outs table) (name-here a ea))) (begun-as later env outs table T long (omega arith) room)

  -- as many conditions as branches
  pub conditions-here : length (conditions_of A.name A.branches) ≡ act.n
  conditions-here = conditions-length A.name A.branches ∙ sym (ap (λ (y : Act). y.n) (R.parts ∙ (act-to ns s at A R.end (activation-value ns s at A R.end R.read)).3))

  -- the tables once holders are known
  module _ (x : Preparation) (G : BegunAs ns es s A n x) (low : length x.hold.env ≤ 65536) (ps : List Port) (gs : List Equation) (H : holding es A n ≡ holders_made ps gs) (filled : has_empty_left A ≡ false) where
    known : (x.hold.kind ≡ 0) × KnownAt ns s A.name x.hold.env x.hold.held x.rows (variables n ++ ps) × RowsFrom ns s x.hold.held 0 (asked A)
    known = held-known ns s A.name x.hold x.rows (variables n) (asked A) (holding es A n) ps gs G.held H

    pub begun-leaves : (z : Left)
        → Leaves ns s (act_locals (sample_type (variables n ++ ps) A.outputs) (value_type (variables n ++ ps) A.outputs) A ps (readable (variables n ++ ps) A.outputs)) z
        (act_locals_t ns s old b.made A.name offsets x.hold.env x.outs b.last x.hold.held x.rows act z)
    begun-leaves z =
        let few = B.few in
        let ls = act_locals (sample_type (variables n ++ ps) A.outputs) (value_type (variables n ++ ps) A.outputs) A ps (readable (variables n ++ ps) A.outputs) in
        subst (λ (y : Act). Leaves ns s ls z (act_locals_t ns s old b.made A.name offsets x.hold.env x.outs b.last x.hold.held x.rows y z)) (sym R.parts)
        (subst (λ (y : List ℕ). Leaves ns s ls z (act_locals_t ns s y b.made A.name offsets x.hold.env x.outs b.last x.hold.held x.rows (act_at ns s at) z)) (sym B.pack.names)
        (locals-known ns B.pack.fresh B.pack.legal (omega arith) s B.pack.bytes B.short b.last B.last offsets B.pack.placed b.made B.made es at A R.end R.read filled x.hold.env x.hold.held x.outs x.rows (variables n) ps gs G.rows known.2 H known.1 G.outs low z))

    pub begun-equations : (z : State) → act_equations_t ns old s b offsets A.name x.hold.held x.rows x.hold.env x.outs act (conditions_of A.name A.branches) z ≡ render old (each equation_items (act_equations A gs (readable (variables n ++ ps) A.outputs))) z
    begun-equations z =
        let few = B.few in
        let e = equations-known ns B.pack.fresh B.pack.legal (omega arith) under s B.pack.bytes B.short b.last B.last offsets B.pack.placed b.made B.made es at A R.end R.read filled x.hold.env x.hold.held x.outs x.rows (variables n) ps gs G.rows known.2 H known.1 G.outs low b B.to B.enums B.firsts B.names refl refl z in
        ap (λ (y : Act). act_equations_t ns old s b offsets A.name x.hold.held x.rows x.hold.env x.outs y (conditions_of A.name A.branches) z) R.parts
        ∙ ap (λ (y : List ℕ). act_equations_t ns y s b offsets A.name x.hold.held x.rows x.hold.env x.outs (act_at ns s at) (conditions_of A.name A.branches) z) B.pack.names
        ∙ e
        ∙ ap (λ (y : List ℕ). render y (each equation_items (act_equations A gs (readable (variables n ++ ps) A.outputs))) z) (sym B.pack.names)
