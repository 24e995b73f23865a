-- An activation of a pack that was read, its holders known: the equations of its holders and scopes, and its locals, are those of the
-- definition.
use Prim.Native.Nat.{ℕ, zero, suc, ◌+◌, ◌*◌, ◌-◌, ◌<◌, ◌≤◌}
use native.Mathlib.Omega.{arith}
use mathlib.Core.List.{List, [], ◌∷◌, ◌++◌, append_assoc}
use mathlib.Core.Bool.{Bool, false, cond}
use mathlib.Core.Option.{none, some}
use mathlib.Core.Path.{◌≡◌, refl, sym, ap, subst, ◌∙◌}
use lib.ListN.{length, get_or}
use Rattle.wire.specs.Answer.{counted, value}
use Rattle.wire.specs.Lists.{All, Bytes}
use Rattle.wire.specs.Writer.{State}
use Rattle.pack_rules.specs.Names.{Name, member}
use Rattle.pack_rules.specs.Syntax.{Activation, Branch, Enum, Equation, Port, Ty, t_bool}
use Rattle.pack_rules.specs.Forms.{name_at}
use Rattle.pack_rules.specs.Legal.{Fresh, LegalName}
use Rattle.pack_rules.specs.Read.{activation_in, enum_in}
use Rattle.pack_rules.specs.Write.{each, equation_items}
use Rattle.pack.specs.Table.{tabled}
use Rattle.pack.specs.Intern.{render}
use Rattle.machines.specs.AddedAt.{each_t}
use Rattle.wire.specs.declared.answer.Number.{Number}
use Rattle.machines.specs.EmitAt.{pack_name}
use Rattle.machines.proofs.CheckedReadLaws.{or-none}
use Rattle.machines.proofs.RefusalNames.{all_left, all_right}
use Rattle.activations.specs.declared.pack_info.PackInfo.{PackInfo}
use Rattle.activations.specs.declared.parts.Act.{Act}
use Rattle.activation_rules.specs.MadeNames.{else_scope, last_var}
use Rattle.activation_rules.specs.EmptyLeft.{has_empty_left, leftless, leftless_branch, nameless}
use Rattle.activation_rules.specs.Defines.{as_locals}
use Rattle.activation_rules.specs.RewriteLast.{conditions_of}
use Rattle.activation_rules.specs.Types.{first_typed, port_names, readable, sample_type, value_type}
use Rattle.activation_rules.specs.Sought.{Sought, bodies, conditions, expressions, found, right_sides}
use Rattle.activation_rules.specs.Holders.{holder_port, holders_made, make_holders}
use Rattle.activation_rules.specs.Flags.{flag_equations}
use Rattle.activation_rules.specs.Clocks.{guard_equations}
use Rattle.activation_rules.specs.Scopes.{branch_equations, branch_locals, scope_equations, scope_locals}
use Rattle.activation_rules.specs.Lower.{act_locals, tail_of}
use Rattle.activations.specs.Lookups.{MadeIs, is_made}
use Rattle.activations.specs.Places.{act_at}
use Rattle.activations.specs.Walks.{LastIs}
use Rattle.activations.specs.Asked.{Asked}
use Rattle.activations.specs.TypesAt.{Coded, TypesAre}
use Rattle.activations.specs.FirstVariantsAt.{FirstsAre}
use Rattle.activations.specs.LastsAt.{RowIs, RowsFrom, word_t}
use Rattle.activations.specs.HoldersTyped.{KnownAt}
use Rattle.activations.specs.HoldersAt.{row_items}
use Rattle.activations.specs.ScopesAt.{scopes_t}
use Rattle.activations.specs.LocalsAt.{Left, act_locals_t, branch_locals_t, clock_locals_t, flag_locals_t, holder_local_t, holder_locals_t, scope_locals_t}
use Rattle.activations.proofs.ActRead.{ActivationRead, act-to, activation-value, first-branch-to}
use Rattle.activations.proofs.GuardLaws.{tail-length}
use Rattle.activations.proofs.IdsKnown.{last_made}
use Rattle.activations.proofs.TypesKnown.{value-old}
use Rattle.activations.proofs.ScopesKnown.{Fits, FitsIn, scopes-known}
use Rattle.activations.proofs.FoundOnce.{Has, VarsOnce, found-asked, found-once}
use Rattle.activations.proofs.RowsKnown.{PortsIn, held-told, held-typed, none_told, old-told, old-typed, ports-known, rows-known}
use Rattle.activations.proofs.HoldersKnown.{Holds, RowTypes, hold_holds, holder, holders-told, holders-written, known-types, no_holder, row-coded}
use Rattle.activations.proofs.LocalsLeft.{Leaves, clocks-left, flags-left, leaves-more, leaves_none, leaves-one}
use Rattle.activations.proofs.ScopeLocalsKnown.{branches-left, else-left}

named_some : (x : List Name) → nameless x ≡ false → 0 < length x
unfolding nameless
named_some [] e = absurd (let z : ◌≡◌ {A = ℕ} 1 0 = ap (λ (b : Bool). cond b 1 0) e in omega arith)
named_some (x ∷ xs) e = omega arith

-- scopes whose equations have left names, and whose right sides ask for what was found
scope-fits : (P : Name → Type 0) (es : List Equation) → All (Asked P) (right_sides es) → leftless es ≡ false → All (Fits P) es
unfolding right_sides leftless All
scope-fits P [] h e = tt
scope-fits P (x ∷ xs) h e = let o = or-none (nameless x.lhs) (leftless xs) e in ((named_some x.lhs o.0, h.0), scope-fits P xs h.1 o.1)

branches-fit : (P : Name → Type 0) (bs : List Branch) → All (Asked P) (bodies bs) → leftless_branch bs ≡ false → All (FitsIn P) bs
unfolding bodies leftless_branch All
branches-fit P [] h e = tt
branches-fit P (b ∷ bs) h e =
    let o = or-none (leftless b.equations) (leftless_branch bs) e in
    (scope-fits P b.equations (all_left (Asked P) (right_sides b.equations) (bodies bs) h) o.0, branches-fit P bs (all_right (Asked P) (right_sides b.equations) (bodies bs) h) o.1)

-- there are as many conditions as branches
pub conditions-length : (a : Name) (bs : List Branch) → length (conditions_of a bs) ≡ length bs
unfolding conditions_of
conditions-length a [] = refl
conditions-length a (b ∷ bs) = ap suc (conditions-length a bs)

-- the locals of holders
module _ (ns : List Name) (fresh : Fresh [] ns) (legal : All LegalName ns) (few : length ns < 65536) (s : List ℕ) (by : Bytes s) (short : length s ≤ 65536) (offsets : List ℕ) (placed : (i : ℕ) → i < length ns → pack_name s offsets i ≡ name_at ns i)
    (made : Bool) (M : MadeIs ns made) (enums : List Enum) (a : Name) (env table : List ℕ) (ports : List Port) where
  holder-left : (h : ℕ) (x : Sought) (p : Port) (t : Ty) (z : Left) → RowIs ns s table h x → p ≡ holder_port a x.var t → Coded ns s (get_or env (word_t table h 2) 0) (some t) → Leaves ns s (p ∷ []) z (holder_local_t ns s (tabled ns) made a offsets table env (3 * h) z)
  unfolding holder_local_t RowIs holder_port
  holder-left h x p t z r e c =
      let n : p.name ≡ last_var a x.var = ap (λ (y : Port). y.name) e in
      let w : 3 * h ≡ 3 * h + 0 = omega arith in
      leaves-one ns s fresh legal few by short made M (last_var a (pack_name s offsets (get_or table (3 * h) 0))) (get_or env (get_or table (3 * h + 2) 0) 0) p z
      (ap (λ (i : ℕ). last_var a (pack_name s offsets (get_or table i 0))) w ∙ ap (last_var a) (placed (word_t table h 0) r.0 ∙ r.1) ∙ sym n)
      (ap is_made n ∙ last_made a x.var)
      (subst (λ (y : Port). Coded ns s (get_or env (word_t table h 2) 0) (some y.ty)) (sym e) c)

  pub holders-left : (n h : ℕ) (xs : List Sought) (ps : List Port) (gs : List Equation) (pre : List Port) (z : Left) → n ≡ length xs → RowsFrom ns s table h xs → Holds enums a xs ps gs → VarsOnce xs → pre ++ ps ≡ ports → RowTypes ns s a env table ports (h + n)
      → Leaves ns s ps z (holder_locals_t ns s (tabled ns) made a offsets table env (3 * h) n z)
  unfolding RowsFrom VarsOnce holder_locals_t
  holders-left zero h [] [] [] pre z e r no_holder o g c = leaves_none ns s z
  holders-left (suc n) h [] [] [] pre z e r no_holder o g c = absurd (omega arith)
  holders-left zero h (x ∷ xs) (p ∷ ps) (f ∷ gs) pre z e r (holder t i u v w d) o g c = absurd (omega arith)
  holders-left (suc n) h (x ∷ xs) (p ∷ ps) (f ∷ gs) pre z e r (holder t i u v w d) o g c =
      let m : member (last_var a x.var) (port_names ps) ≡ false = holders-told enums a x.var xs ps gs d ∙ o.0 in
      let k = row-coded ns s a env table ports h x p ps pre t r.0 u m g (c h (omega arith)) in
      let y = holder_local_t ns s (tabled ns) made a offsets table env (3 * h) z in
      let j : 3 * suc h ≡ 3 * h + 3 = omega arith in
      leaves-more ns s (p ∷ []) ps z y (holder_locals_t ns s (tabled ns) made a offsets table env (3 * h + 3) n y) (holder-left h x p t z r.0 u k)
      (subst (λ (i : ℕ). Leaves ns s ps y (holder_locals_t ns s (tabled ns) made a offsets table env i n y)) j
      (holders-left n (suc h) xs ps gs (pre ++ (p ∷ [])) y (omega arith) r.1 d o.1 (append_assoc pre (p ∷ []) ps ∙ g) (λ i l. c i (omega arith))))
  holders-left zero h [] [] (f ∷ gs) pre z e r x24 o g c = elim x24 [ ]
  holders-left zero h [] (p ∷ ps) gs pre z e r x19 o g c = elim x19 [ ]
  holders-left zero h (x ∷ xs) [] gs pre z e r x15 o g c = elim x15 [ ]
  holders-left zero h (x ∷ xs) (p ∷ ps) [] pre z e r x17 o g c = elim x17 [ ]
  holders-left (suc n) h [] [] (f ∷ gs) pre z e r x10 o g c = elim x10 [ ]
  holders-left (suc n) h [] (p ∷ ps) gs pre z e r x10 o g c = elim x10 [ ]
  holders-left (suc n) h (x ∷ xs) [] gs pre z e r x11 o g c = elim x11 [ ]
  holders-left (suc n) h (x ∷ xs) (p ∷ ps) [] pre z e r x13 o g c = elim x13 [ ]

-- a pack that was read, one of its activations, whose equations have left names; the tables once its holders are known; the owner's
-- variables, and the holders
module _ (ns : List Name) (fresh : Fresh [] ns) (legal : All LegalName ns) (few : length ns + length ns ≤ 65536) (s : List ℕ) (by : Bytes s) (short : length s ≤ 65536) (last : ℕ) (L : LastIs ns last)
    (offsets : List ℕ) (placed : (i : ℕ) → i < length ns → pack_name s offsets i ≡ name_at ns i) (made : Bool) (M : MadeIs ns made) (enums : List Enum)
    (at : ℕ) (A : Activation) (q : ℕ) (d : activation_in ns s at ≡ value A q) (filled : has_empty_left A ≡ false)
    (env table outs : List ℕ) (rows : ℕ) (base ps : List Port) (gs : List Equation) (count : rows ≡ length (found (expressions A) [])) (R : RowsFrom ns s table 0 (found (expressions A) []))
    (H : make_holders enums A.name base A.outputs (found (expressions A) []) ≡ holders_made ps gs) (K : KnownAt ns s A.name env table rows (base ++ ps)) (O : TypesAre ns s outs (first_typed A.outputs)) (low : length env ≤ 65536) where
  abbrev xs : List Sought
  xs = found (expressions A) []

  abbrev ports : List Port
  ports = base ++ ps

  abbrev vars : List Name
  vars = readable (base ++ ps) A.outputs

  under-few : length ns < 65536
  under-few = omega arith

  read : ActivationRead ns s at A q
  read = activation-value ns s at A q d

  outputs-known : PortsIn ns A.outputs
  outputs-known = ports-known ns fresh s read.to-outputs A.outputs read.to-branches read.outputs

  asked : All (Asked (Has xs)) (bodies A.branches ++ right_sides A.else_equations)
  unfolding expressions
  asked = all_right (Asked (Has (found (expressions A) []))) (conditions A.branches) (bodies A.branches ++ right_sides A.else_equations) (found-asked (expressions A))

  -- the scopes fit
  fit-branches : All (FitsIn (Has xs)) A.branches
  unfolding has_empty_left
  fit-branches = branches-fit (Has xs) A.branches (all_left (Asked (Has xs)) (bodies A.branches) (right_sides A.else_equations) asked) (or-none (leftless_branch A.branches) (leftless A.else_equations) filled).0

  fit-else : All (Fits (Has xs)) A.else_equations
  unfolding has_empty_left
  fit-else = scope-fits (Has xs) A.else_equations (all_right (Asked (Has xs)) (bodies A.branches) (right_sides A.else_equations) asked) (or-none (leftless_branch A.branches) (leftless A.else_equations) filled).1

  -- THE LINK: the equations of holders
  pub holder-equations : (b : PackInfo) (to : ℕ) → counted (enum_in ns s) s b.enums ≡ value enums to → FirstsAre ns s b.enums offsets → (z : State) → render (tabled ns) (each_t (row_items ns s b offsets A.name env table) rows 0) z ≡ render (tabled ns) (each equation_items gs) z
  holder-equations b to E F z = holders-written ns fresh legal under-few s by b enums to E offsets F placed A.name env table rows xs base A.outputs ps gs count (found-once (expressions A)) R H K z

  -- THE LINK: the equations of scopes
  pub scopes-written : (z : State) → scopes_t (tabled ns) s offsets (length ns) made ns last table rows env outs A.name (act_at ns s at).n (act_at ns s at).branches (act_at ns s at).other z
      ≡ render (tabled ns) (each equation_items (branch_equations A.name (length A.branches) vars 0 A.branches ++ scope_equations A.name (length A.branches) vars else_scope [] A.else_equations)) z
  scopes-written z =
      ap (λ (x : Act). scopes_t (tabled ns) s offsets (length ns) made ns last table rows env outs A.name x.n x.branches x.other z) (act-to ns s at A q read).3
      ∙ scopes-known ns fresh legal few s by short last L offsets placed A.name made M (length A.branches) table rows env outs vars (Has xs)
      (rows-known ns fresh few s by short A.name env table outs rows xs count R ports A.outputs K O)
      (old-told ns fresh few s by short A.name env table outs rows xs count R ports A.outputs K O outputs-known)
      (held-told ns fresh few s by short A.name env table outs rows xs count R ports A.outputs K O outputs-known)
      (none_told ns fresh few s by short A.name env table outs rows xs count R ports A.outputs K O low)
      read.to-branches read.b A.branches read.to-else A.else_equations q z read.count read.branches read.else_equations fit-branches fit-else

  -- the locals of scopes
  branch-locals-left : (z : Left) → Leaves ns s (branch_locals (sample_type ports A.outputs) (value_type ports A.outputs) A.name vars 0 A.branches) z (branch_locals_t ns s (tabled ns) made A.name offsets env outs (length A.branches) last table rows 0 (length A.branches) read.b z)
  branch-locals-left z = branches-left ns fresh legal few s by short last L offsets placed A.name made M (length A.branches) table rows env outs vars (Has xs)
      (rows-known ns fresh few s by short A.name env table outs rows xs count R ports A.outputs K O)
      (old-told ns fresh few s by short A.name env table outs rows xs count R ports A.outputs K O outputs-known)
      (held-told ns fresh few s by short A.name env table outs rows xs count R ports A.outputs K O outputs-known)
      (none_told ns fresh few s by short A.name env table outs rows xs count R ports A.outputs K O low)
      ports A.outputs
      (old-typed ns fresh few s by short A.name env table outs rows xs count R ports A.outputs K O)
      (held-typed ns fresh few s by short A.name env table outs rows xs count R ports A.outputs K O outputs-known)
      (value-old ns fresh under-few s by short env outs ports A.outputs K.types O)
      0 (length A.branches) read.b A.branches read.to-else z read.branches (omega arith) fit-branches

  else-locals-left : (z : Left) → Leaves ns s (scope_locals (sample_type ports A.outputs) (value_type ports A.outputs) A.name vars else_scope [] A.else_equations) z (scope_locals_t ns s (tabled ns) made A.name offsets env outs (length A.branches) last table rows (length A.branches) read.to-else z)
  else-locals-left z = else-left ns fresh legal few s by short last L offsets placed A.name made M (length A.branches) table rows env outs vars (Has xs)
      (rows-known ns fresh few s by short A.name env table outs rows xs count R ports A.outputs K O)
      (old-told ns fresh few s by short A.name env table outs rows xs count R ports A.outputs K O outputs-known)
      (held-told ns fresh few s by short A.name env table outs rows xs count R ports A.outputs K O outputs-known)
      (none_told ns fresh few s by short A.name env table outs rows xs count R ports A.outputs K O low)
      ports A.outputs
      (old-typed ns fresh few s by short A.name env table outs rows xs count R ports A.outputs K O)
      (held-typed ns fresh few s by short A.name env table outs rows xs count R ports A.outputs K O outputs-known)
      (value-old ns fresh under-few s by short env outs ports A.outputs K.types O)
      read.to-else A.else_equations q z read.else_equations fit-else

  holder-locals-left : (z : Left) → Leaves ns s ps z (holder_locals_t ns s (tabled ns) made A.name offsets table env 0 rows z)
  holder-locals-left z = holders-left ns fresh legal under-few s by short offsets placed made M enums A.name env table ports rows 0 xs ps gs base z count R (hold_holds enums A.name A.outputs xs base ps gs H) (found-once (expressions A)) refl (λ j l. known-types ns s A.name env table ports rows K j (omega arith))

  flag-locals-left : (z : Left) → Leaves ns s (as_locals t_bool (flag_equations A.name none 0 (conditions_of A.name A.branches))) z (flag_locals_t ns s (tabled ns) made A.name 0 (length A.branches) z)
  flag-locals-left z =
      subst (λ (n : ℕ). Leaves ns s (as_locals t_bool (flag_equations A.name none 0 (conditions_of A.name A.branches))) z (flag_locals_t ns s (tabled ns) made A.name 0 n z)) (conditions-length A.name A.branches)
      (flags-left ns s fresh legal under-few by short made M A.name none 0 (conditions_of A.name A.branches) z)

  clock-locals-left : (z : Left) → Leaves ns s (as_locals t_bool (guard_equations A.name 1 (tail_of (conditions_of A.name A.branches)))) z (clock_locals_t ns s (tabled ns) made A.name 1 (length A.branches - 1) z)
  clock-locals-left z =
      subst (λ (n : ℕ). Leaves ns s (as_locals t_bool (guard_equations A.name 1 (tail_of (conditions_of A.name A.branches)))) z (clock_locals_t ns s (tabled ns) made A.name 1 n z)) (tail-length (length A.branches) (conditions_of A.name A.branches) (conditions-length A.name A.branches))
      (clocks-left ns s fresh legal under-few by short made M A.name 1 (tail_of (conditions_of A.name A.branches)) z)

  -- the parts of the pass
  act-parts : (z : Left) → act_locals_t ns s (tabled ns) made A.name offsets env outs last table rows (act_at ns s at) z
      ≡ scope_locals_t ns s (tabled ns) made A.name offsets env outs (length A.branches) last table rows (length A.branches) read.to-else
      (branch_locals_t ns s (tabled ns) made A.name offsets env outs (length A.branches) last table rows 0 (length A.branches) read.b
      (clock_locals_t ns s (tabled ns) made A.name 1 (length A.branches - 1) (flag_locals_t ns s (tabled ns) made A.name 0 (length A.branches) (holder_locals_t ns s (tabled ns) made A.name offsets table env 0 rows z))))
  unfolding act_locals_t
  act-parts z =
      ap (λ (x : Act). act_locals_t ns s (tabled ns) made A.name offsets env outs last table rows x z) (act-to ns s at A q read).3
      ∙ ap (λ (i : ℕ). scope_locals_t ns s (tabled ns) made A.name offsets env outs (length A.branches) last table rows (length A.branches) read.to-else
      (branch_locals_t ns s (tabled ns) made A.name offsets env outs (length A.branches) last table rows 0 (length A.branches) i
      (clock_locals_t ns s (tabled ns) made A.name 1 (length A.branches - 1) (flag_locals_t ns s (tabled ns) made A.name 0 (length A.branches) (holder_locals_t ns s (tabled ns) made A.name offsets table env 0 rows z))))) (ap (λ (x : Number). x.next) (first-branch-to ns s at A q read))

  -- THE LINK: all locals
  pub locals-known : (z : Left) → Leaves ns s (act_locals (sample_type ports A.outputs) (value_type ports A.outputs) A ps vars) z (act_locals_t ns s (tabled ns) made A.name offsets env outs last table rows (act_at ns s at) z)
  unfolding act_locals
  locals-known z =
      let hs = ps in
      let fs = as_locals t_bool (flag_equations A.name none 0 (conditions_of A.name A.branches)) in
      let ks = as_locals t_bool (guard_equations A.name 1 (tail_of (conditions_of A.name A.branches))) in
      let bs = branch_locals (sample_type ports A.outputs) (value_type ports A.outputs) A.name vars 0 A.branches in
      let es = scope_locals (sample_type ports A.outputs) (value_type ports A.outputs) A.name vars else_scope [] A.else_equations in
      let z1 = holder_locals_t ns s (tabled ns) made A.name offsets table env 0 rows z in
      let z2 = flag_locals_t ns s (tabled ns) made A.name 0 (length A.branches) z1 in
      let z3 = clock_locals_t ns s (tabled ns) made A.name 1 (length A.branches - 1) z2 in
      let z4 = branch_locals_t ns s (tabled ns) made A.name offsets env outs (length A.branches) last table rows 0 (length A.branches) read.b z3 in
      let z5 = scope_locals_t ns s (tabled ns) made A.name offsets env outs (length A.branches) last table rows (length A.branches) read.to-else z4 in
      subst (Leaves ns s (hs ++ (fs ++ (ks ++ (bs ++ es)))) z) (sym (act-parts z))
      (leaves-more ns s hs (fs ++ (ks ++ (bs ++ es))) z z1 z5 (holder-locals-left z)
      (leaves-more ns s fs (ks ++ (bs ++ es)) z1 z2 z5 (flag-locals-left z1)
      (leaves-more ns s ks (bs ++ es) z2 z3 z5 (clock-locals-left z2)
      (leaves-more ns s bs es z3 z4 z5 (branch-locals-left z3) (else-locals-left z4)))))
