-- The whole pack: what reads as a package is what is written of it, and what is written of a legal package reads as it.
use Rattle.std.proofs.Common.{◌≡◌, ℕ, ◌+◌, ◌<◌, ◌≤◌, Bool, true, false, cond, ltb, List, [], ◌∷◌, ◌++◌, length, drop, sym, refl, ap, ◌∙◌, subst, append_assoc, append-nil, arith, length-append, length-drop, drop_of_length-le, ltb-false, le-ltb}
use Rattle.pack_rules.specs.Limits.{max_bytes}
use Rattle.pack_rules.specs.Names.{Name}
use Rattle.pack_rules.specs.Syntax.{Activation, Enum, MachineDef, Node, Origin, Package}
use Rattle.wire.specs.Answer.{Answer, bind, counted, deep, early, illegal, map_a, value}
use Rattle.pack_rules.specs.Read.{activation_in, bytes_after, enum_in, machine_in, name_section, node_in, origin_in, pack_at, read, reading_of, too_long, whole}
use Rattle.pack_rules.specs.Write.{activation_items, enc, encode, enum_items, joined, list, machine_items, node_items, origin_items, package_items}
use Rattle.wire.specs.Bytes.{two}
use Rattle.wire.specs.Lists.{All, Bytes}
use Rattle.wire.proofs.Formats.{Back, bind_to, both, seq}
use Rattle.wire.proofs.Answers.{bind-value}
use Rattle.pack_rules.specs.Legal.{Each, Fresh, Known, Legal, LegalName, Ready, completed, new_names, new_of, with_names}
use Rattle.pack.proofs.Tables.{LegalTable, all_append, code, complete, enc-append, format_names, fresh-append, spell-known}
use Rattle.pack.proofs.TypeFormats.{Fmt, fmt_both, fmt_counted}
use Rattle.pack.proofs.Counts.{fit-package, package-formed, size-code, size_of}
use Rattle.pack.proofs.PartFormats.{Listed, ShapedActivation, ShapedEnum, ShapedMachine, ShapedNode, ShapedOrigin, ShapedPackage, fmt_activation, fmt_enum, fmt_machine, fmt_node, fmt_origin, fmt_record}

-- what follows the name section
unfoldable pub body_in : List Name → List ℕ → ℕ → Answer Package
body_in ns s p =
    bind (counted (enum_in ns s) s p) λ es q.
    bind (counted (node_in ns s) s q) λ nds r.
    bind (counted (machine_in ns s) s r) λ ms t.
    bind (counted (activation_in ns s) s t) λ acts u.
    map_a (λ (os : List Origin). record { names = ns; enums = es; nodes = nds; machines = ms; activations = acts; origins = os }) (counted (origin_in ns s) s u)

abbrev Under : List Name → Package → Type 0
Under ns p = (p.names ≡ ns) × ShapedPackage p

module _ (ns : List Name) (fresh : Fresh [] ns) (small : length ns < 65536) where
  pub fmt_body : Fmt ns (body_in ns) package_items (Under ns)
  unfolding body_in package_items
  fmt_body = fmt_record ns (both (λ s at. counted (enum_in ns s) s at) (both (λ s at. counted (node_in ns s) s at) (both (λ s at. counted (machine_in ns s) s at) (both (λ s at. counted (activation_in ns s) s at) (λ s at. counted (origin_in ns s) s at)))))
      (λ z. (list enum_items) z.0 ++ ((list node_items) z.1.0 ++ ((list machine_items) z.1.1.0 ++ ((list activation_items) z.1.1.1.0 ++ (list origin_items) z.1.1.1.1))))
      (λ z. (Listed ShapedEnum) z.0 × ((Listed ShapedNode) z.1.0 × ((Listed ShapedMachine) z.1.1.0 × ((Listed ShapedActivation) z.1.1.1.0 × (Listed ShapedOrigin) z.1.1.1.1))))
      (body_in ns)
      (λ (z : List Enum × (List Node × (List MachineDef × (List Activation × List Origin)))). record { names = ns; enums = z.0; nodes = z.1.0; machines = z.1.1.0; activations = z.1.1.1.0; origins = z.1.1.1.1 })
      (λ (y : Package). (y.enums, (y.nodes, (y.machines, (y.activations, y.origins)))))
      package_items (Under ns)
      (fmt_both ns (λ s at. counted (enum_in ns s) s at) _ (list enum_items) _ (Listed ShapedEnum) _ (fmt_counted ns (enum_in ns) enum_items ShapedEnum (fmt_enum ns fresh small)) (fmt_both ns (λ s at. counted (node_in ns s) s at) _ (list node_items) _ (Listed ShapedNode) _ (fmt_counted ns (node_in ns) node_items ShapedNode (fmt_node ns fresh small)) (fmt_both ns (λ s at. counted (machine_in ns s) s at) _ (list machine_items) _ (Listed ShapedMachine) _ (fmt_counted ns (machine_in ns) machine_items ShapedMachine (fmt_machine ns fresh small)) (fmt_both ns (λ s at. counted (activation_in ns s) s at) (λ s at. counted (origin_in ns s) s at) (list activation_items) (list origin_items) (Listed ShapedActivation) (Listed ShapedOrigin) (fmt_counted ns (activation_in ns) activation_items ShapedActivation (fmt_activation ns fresh small)) (fmt_counted ns (origin_in ns) origin_items ShapedOrigin (fmt_origin ns fresh small))))))
      (λ s at. seq (λ s at. counted (enum_in ns s) s at) (both (λ s at. counted (node_in ns s) s at) (both (λ s at. counted (machine_in ns s) s at) (both (λ s at. counted (activation_in ns s) s at) (λ s at. counted (origin_in ns s) s at)))) _ (λ (v0 : List Enum) (z : List Node × (List MachineDef × (List Activation × List Origin))). record { names = ns; enums = v0; nodes = z.0; machines = z.1.0; activations = z.1.1.0; origins = z.1.1.1 }) s at (λ v0 p1. seq (λ s at. counted (node_in ns s) s at) (both (λ s at. counted (machine_in ns s) s at) (both (λ s at. counted (activation_in ns s) s at) (λ s at. counted (origin_in ns s) s at))) _ (λ (v1 : List Node) (z : List MachineDef × (List Activation × List Origin)). record { names = ns; enums = v0; nodes = v1; machines = z.0; activations = z.1.0; origins = z.1.1 }) s p1 (λ v1 p2. seq (λ s at. counted (machine_in ns s) s at) (both (λ s at. counted (activation_in ns s) s at) (λ s at. counted (origin_in ns s) s at)) _ (λ (v2 : List MachineDef) (z : List Activation × List Origin). record { names = ns; enums = v0; nodes = v1; machines = v2; activations = z.0; origins = z.1 }) s p2 (λ v2 p3. seq (λ s at. counted (activation_in ns s) s at) (λ s at. counted (origin_in ns s) s at) _ (λ (v3 : List Activation) (z : List Origin). record { names = ns; enums = v0; nodes = v1; machines = v2; activations = v3; origins = z }) s p3 (λ v3 p4. refl)))))
      (λ y h. (h.1.0, (h.1.1, (h.1.2, (h.1.3, h.1.4)))))
      (λ y h. λ j. record { names = sym h.0 j; enums = y.enums; nodes = y.nodes; machines = y.machines; activations = y.activations; origins = y.origins })
      (λ x h. (refl, (h.0, h.1.0, h.1.1.0, h.1.1.1.0, h.1.1.1.1)))
      (λ x h. refl)

-- the bytes of a package whose names are all in its table
unfoldable pub tabled : Package → List ℕ
tabled p = (two (length p.names) ++ enc p.names) ++ code p.names (package_items p)

pub encode-known : (p : Package) → Each (Known p.names) (package_items p) → encode p ≡ tabled p
unfolding encode joined tabled enc
encode-known p h =
    let z : length p.names + 0 ≡ length p.names = omega arith in
    ap (joined p.names) (spell-known p.names (package_items p) [] h)
    ∙ ap (λ (n : ℕ). two n ++ (enc p.names ++ code p.names (package_items p))) z
    ∙ sym (append_assoc (two (length p.names)) (enc p.names) (code p.names (package_items p)))

-- legal, but for the size_of: the table, the counts, numbers and levels, and every used name in the table
pub record Sound (p : Package) : Type 0 where
  pub table : LegalTable p.names
  pub shape : ShapedPackage p
  pub known : Each (Known p.names) (package_items p)

pub pack-back : (s : List ℕ) (at : ℕ) (p : Package) (post : List ℕ) → Sound p → drop at s ≡ tabled p ++ post → Back pack_at s at p post
unfolding pack_at body_in tabled
pack-back s at p post o e =
    let t = o.table in
    let b = format_names.back s at p.names (code p.names (package_items p) ++ post) t (e ∙ append_assoc (two (length p.names) ++ enc p.names) (code p.names (package_items p)) post) in
    let d = (fmt_body p.names t.1 t.0).back s b.to p post ((refl, o.shape), o.known) b.rest in
    record { to = d.to; reads = bind_to (name_section s at) p.names b.to (λ ns q. body_in ns s q) _ b.reads d.reads; rest = d.rest }

pub pack-was : (s : List ℕ) → Bytes s → (at : ℕ) (p : Package) (q : ℕ) → pack_at s at ≡ value p q → Sound p × (drop at s ≡ tabled p ++ drop q s)
unfolding pack_at body_in tabled
pack-was s by at p q e =
    let b = bind-value (name_section s at) (λ ns r. body_in ns s r) p q e in
    let t = format_names.legal s by at b.0 b.1 b.2 in
    let f = fmt_body b.0 t.1 t.0 in
    let l = f.legal s by b.1 p q b.3 in
    go b.0 b.1 t (format_names.was s by at b.0 b.1 b.2) l (f.was s by b.1 p q b.3)
  where
    go : (ns : List Name) (r : ℕ) → LegalTable ns → drop at s ≡ (two (length ns) ++ enc ns) ++ drop r s → Under ns p × Each (Known ns) (package_items p) → drop r s ≡ code ns (package_items p) ++ drop q s → Sound p × (drop at s ≡ ((two (length p.names) ++ enc p.names) ++ code p.names (package_items p)) ++ drop q s)
    go ns r t a l c =
        let n : ns ≡ p.names = sym l.0.0 in (
          record { table = subst LegalTable n t; shape = l.0.1; known = subst (λ (m : List Name). Each (Known m) (package_items p)) n l.1 },
          a ∙ ap (λ (x : List ℕ). (two (length ns) ++ enc ns) ++ x) c ∙ sym (append_assoc (two (length ns) ++ enc ns) (code ns (package_items p)) (drop q s)) ∙ ap (λ (m : List Name). ((two (length m) ++ enc m) ++ code m (package_items p)) ++ drop q s) n,
        )

-- a legal name takes two bytes of the table
enc-long : (ns : List Name) → All LegalName ns → length ns + length ns ≤ length (enc ns)
unfolding enc All
enc-long [] a = omega arith
enc-long (n ∷ ns) a = let i = enc-long ns a.1 in let h = a.0.0 in omega (arith, length-append n (enc ns))

pub legal-sound : (p : Package) → Legal p → Sound p
unfolding tabled
legal-sound p o =
    let e = ap length (encode-known p o.known) in
    let w = enc-long p.names o.names in
    let a = length-append (two (length p.names) ++ enc p.names) (code p.names (package_items p)) in
    let b = length-append (two (length p.names)) (enc p.names) in
    let f = o.fits in
    let few : length p.names < 65536 = omega arith in
    let small : size_of (package_items p) ≤ 65536 = omega (arith, size-code p.names (package_items p)) in
    record { table = (few, o.fresh, o.names); shape = fit-package p o.formed small; known = o.known }

-- (A) what reads as a package is what is written of it, and the package is legal
whole-value : (n : ℕ) (a : Answer Package) (p : Package) → reading_of n a ≡ whole p → (q : ℕ) × (a ≡ value p q) × (n ≤ q)
unfolding reading_of
whole-value n (value x q) p e = go (ltb q n) refl e
  where
    go : (b : Bool) → ltb q n ≡ b → cond b (bytes_after q) (whole x) ≡ whole p → (r : ℕ) × (value x q ≡ value p r) × (n ≤ r)
    go true f g = let z : ◌≡◌ {A = ℕ} 0 1 = cc in absurd (omega arith)
    go false f g = let h : x ≡ p = cc in (q, ap (λ (y : Package). value y q) h, ltb-false q n f)
whole-value n early p e = let z : ◌≡◌ {A = ℕ} 0 1 = cc in absurd (omega arith)
whole-value n (illegal o) p e = let z : ◌≡◌ {A = ℕ} 0 1 = cc in absurd (omega arith)
whole-value n (deep o) p e = let z : ◌≡◌ {A = ℕ} 0 1 = cc in absurd (omega arith)

pub read-value : (b : List ℕ) (p : Package) → read b ≡ whole p → (length b ≤ max_bytes) × (q : ℕ) × (pack_at b 0 ≡ value p q) × (length b ≤ q)
unfolding read
read-value b p e = go (ltb max_bytes (length b)) refl e
  where
    go : (t : Bool) → ltb max_bytes (length b) ≡ t → cond t too_long (reading_of (length b) (pack_at b 0)) ≡ whole p → (length b ≤ max_bytes) × (q : ℕ) × (pack_at b 0 ≡ value p q) × (length b ≤ q)
    go true f g = let z : ◌≡◌ {A = ℕ} 0 1 = cc in absurd (omega arith)
    go false f g = let r = whole-value (length b) (pack_at b 0) p g in (ltb-false max_bytes (length b) f, r.0, r.1, r.2)

pub canonical : (b : List ℕ) → Bytes b → (p : Package) → read b ≡ whole p → encode p ≡ b
canonical b by p e =
    let r = read-value b p e in
    let w = pack-was b by 0 p r.1 r.2 in
    encode-known p w.0.known ∙ sym (append-nil (tabled p)) ∙ ap (λ (l : List ℕ). tabled p ++ l) (sym (drop_of_length-le b r.3)) ∙ sym w.1

pub read-legal : (b : List ℕ) → Bytes b → (p : Package) → read b ≡ whole p → Legal p
read-legal b by p e =
    let r = read-value b p e in
    let w = pack-was b by 0 p r.1 r.2 in
    let t = w.0.table in
    record { fresh = t.1; names = t.2; known = w.0.known; formed = package-formed p w.0.shape; fits = subst (λ (l : List ℕ). length l ≤ max_bytes) (sym (canonical b by p e)) r.0 }

-- (B) what is written of a legal package reads as it
pub read_back : (p : Package) → Legal p → read (encode p) ≡ whole p
unfolding read reading_of
read_back p o =
    let b = pack-back (encode p) 0 p [] (legal-sound p o) (encode-known p o.known ∙ sym (append-nil (tabled p))) in
    let l : length (encode p) ≤ b.to = omega (arith, length-drop b.to (encode p), ap length b.rest) in
    rw (le-ltb max_bytes (length (encode p)) o.fits, b.reads, le-ltb b.to (length (encode p)) l)

new_is : (p : Package) → new_names p ≡ (complete p.names (package_items p) []).now
unfolding new_names
new_is p = ap new_of (complete p.names (package_items p) []).spells

items-same : (p : Package) (ns : List Name) → package_items (with_names p ns) ≡ package_items p
unfolding with_names package_items
items-same p ns = refl

known-now : (p : Package) → Each (Known (p.names ++ new_names p)) (package_items p)
known-now p = subst (λ (m : List Name). Each (Known (p.names ++ m)) (package_items p)) (sym (new_is p)) (complete p.names (package_items p) []).each

known-completed : (p : Package) → Each (Known (completed p).names) (package_items (completed p))
unfolding completed with_names package_items
known-completed p = known-now p

-- to complete the table changes nothing of the bytes
pub complete-encode : (p : Package) → encode (completed p) ≡ encode p
unfolding completed with_names tabled package_items encode joined
complete-encode p =
    let r = complete p.names (package_items p) [] in
    let n = new_is p in
    encode-known (completed p) (known-completed p)
    ∙ ap (λ (m : List Name). (two (length (p.names ++ m)) ++ enc (p.names ++ m)) ++ code (p.names ++ m) (package_items p)) n
    ∙ (λ j. (two (length-append p.names r.now j) ++ enc-append p.names r.now j) ++ sym r.same j)
    ∙ append_assoc (two (length p.names + length r.now)) (enc p.names ++ enc r.now) r.bytes
    ∙ ap (λ (l : List ℕ). two (length p.names + length r.now) ++ l) (append_assoc (enc p.names) (enc r.now) r.bytes)
    ∙ sym (ap (joined p.names) r.spells)

pub ready-legal : (p : Package) → Ready p → Legal (completed p)
unfolding completed with_names All Fresh
ready-legal p o =
    let r = complete p.names (package_items p) [] in
    let n : r.now ≡ new_names p = sym (new_is p) in
    let f : Fresh p.names (new_names p) = subst (Fresh p.names) n (r.fresh tt) in
    let a : All LegalName (new_names p) = subst (All LegalName) n (r.legal tt o.used) in
    record {
      fresh = fresh-append [] p.names (new_names p) o.fresh f;
      names = all_append LegalName p.names (new_names p) o.names a;
      known = known-completed p;
      formed = o.formed;
      fits = subst (λ (l : List ℕ). length l ≤ max_bytes) (sym (complete-encode p)) o.fits;
    }

pub read-back-completed : (p : Package) → Ready p → read (encode p) ≡ whole (completed p)
read-back-completed p o = ap read (sym (complete-encode p)) ∙ read_back (completed p) (ready-legal p o)
