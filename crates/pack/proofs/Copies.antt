-- What was read of a pack is written by copying its bytes: its names are old ones, and each keeps its number.
use Rattle.std.proofs.Common.{◌≡◌, ℕ, ◌+◌, ◌-◌, ◌<◌, ◌≤◌, cond, List, [], ◌∷◌, ◌++◌, length, take, drop, sym, refl, ap, ◌∙◌, subst, append_assoc, arith, length-append, length-drop, drop-drop, ltb-true, le-ltb}
use lib.Seq.{take-append_seam}
use Rattle.wire.specs.Answer.{Answer, below, byte, counted, value}
use Rattle.wire.specs.Bytes.{two}
use Rattle.wire.specs.Lists.{All, Bytes}
use Rattle.wire.specs.Writer.{State, full, puts}
use Rattle.wire.proofs.Writers.{puts-append}
use Rattle.wire.proofs.Answers.{guard-value}
use Rattle.wire.proofs.Formats.{Below, format_below, single}
use Rattle.wire.proofs.Bounds.{Within, offset_in, within-below}
use Rattle.pack_rules.specs.Names.{Name}
use Rattle.pack_rules.specs.Syntax.{Equation, Expr, Port, e_array, e_arrow, e_binary, e_call, e_cast, e_const, e_field, e_if, e_index, e_iterate, e_merge, e_pre, e_struct, e_tuple, e_unary, e_var, e_when}
use Rattle.pack_rules.specs.Read.{equations_in, expr_in, kind_of, name_in, ports_in}
use Rattle.pack_rules.specs.Write.{Found, Item, each, equation_items, expr_items, kind_byte, list, name_items, nm, port_items, raw}
use Rattle.pack_rules.specs.Legal.{Each, Fresh, Known, LegalName, place}
use Rattle.pack.specs.Table.{seek, tabled}
use Rattle.pack.specs.Intern.{put_found, put_item, put_name, render}
use Rattle.pack.proofs.Tables.{code, code-append, each_append, lookup-known}
use Rattle.pack.proofs.TypeFormats.{Any, Fmt, fmt_counted, fmt_name, fmt_raw}
use Rattle.pack.proofs.ExprFormats.{Shaped, fmt_expr}
use Rattle.pack.proofs.PartFormats.{fmt_equations, fmt_ports, kind-up}
use Rattle.pack.proofs.Bounds.{w-equations_in, w-expr_in, w-name_in, w-ports_in}
use Rattle.pack.proofs.TableIndex.{seek-tabled}
use Rattle.pack.proofs.WrittenBack.{all_known}

-- an old name keeps its number
name-known : (ns : List Name) (n : Name) (z : State) → All LegalName ns → Known ns n → put_name (tabled ns) n z ≡ puts (two (place ns n)) z
unfolding put_name put_found
name-known ns n z a k =
    let l = all_known LegalName ns n a k in
    ap (λ b. cond b full (put_found (seek (tabled ns) n) n z)) (le-ltb 255 (length n) (let h = l.1 in omega arith))
    ∙ ap (λ (f : Found). put_found f n z) (seek-tabled ns n ∙ lookup-known ns n 0 k)
    ∙ (let h : 0 + place ns n ≡ place ns n = omega arith in ap (λ y. puts (two y) z) h)

-- items with old names only are their bytes
pub render-known : (ns : List Name) (is : List Item) (z : State) → All LegalName ns → Each (Known ns) is → render (tabled ns) is z ≡ puts (code ns is) z
unfolding render put_item code Each puts
render-known ns [] z a h = refl
render-known ns (raw xs ∷ is) z a h = render-known ns is (puts xs z) a h ∙ sym (puts-append xs (code ns is) z)
render-known ns (nm n ∷ is) z a h =
    ap (render (tabled ns) is) (name-known ns n z a h.0)
    ∙ render-known ns is (puts (two (place ns n)) z) a h.1
    ∙ sym (puts-append (two (place ns n)) (code ns is) z)

-- bytes that go on with what follows q, from at on, are those up to q
between : (s xs : List ℕ) (at q : ℕ) → at ≤ length s → q ≤ length s → drop at s ≡ xs ++ drop q s → xs ≡ take (q - at) (drop at s)
between s xs at q f h e =
    let a = ap length e in
    let n : q - at ≡ length xs = omega (arith, length-append xs (drop q s), length-drop at s, length-drop q s) in
    sym (ap (λ y. take y (drop at s)) n ∙ ap (take (length xs)) e ∙ take-append_seam xs (drop q s))

-- the start of what was read, where it takes bytes
starts : (s xs : List ℕ) (at q : ℕ) → 0 < length xs → drop at s ≡ xs ++ drop q s → at ≤ length s
starts s xs at q m e = let a = ap length e in omega (arith, length-append xs (drop q s), length-drop at s)

-- items that stand in a pack from `at` up to q, with old names only
pub record Lies (ns : List Name) (s : List ℕ) (at : ℕ) (is : List Item) (q : ℕ) : Type 0 where
  pub bytes : drop at s ≡ code ns is ++ drop q s
  pub known : Each (Known ns) is
  pub from : at ≤ length s
  pub to : q ≤ length s

-- THE LAW: what stands there is written by a copy of its bytes
pub lies-copied : (ns : List Name) → All LegalName ns → (s : List ℕ) (at : ℕ) (is : List Item) (q : ℕ) → Lies ns s at is q → (z : State) → render (tabled ns) is z ≡ puts (take (q - at) (drop at s)) z
lies-copied ns a s at is q l z = render-known ns is z a l.known ∙ ap (λ y. puts y z) (between s (code ns is) at q l.from l.to l.bytes)

-- one after the other
pub lies-both : (ns : List Name) (s : List ℕ) (at : ℕ) (is : List Item) (m : ℕ) (js : List Item) (q : ℕ) → Lies ns s at is m → Lies ns s m js q → Lies ns s at (is ++ js) q
lies-both ns s at is m js q a b = record {
  bytes = a.bytes ∙ ap (λ l. code ns is ++ l) b.bytes ∙ sym (append_assoc (code ns is) (code ns js) (drop q s)) ∙ ap (λ l. l ++ drop q s) (sym (code-append ns is js));
  known = each_append (Known ns) is js a.known b.known;
  from = a.from;
  to = b.to;
}

-- what was read stands there
pub lies-by : {A : Type 0} (ns : List Name) (r : List ℕ → ℕ → Answer A) (items : A → List Item) (shape : A → Type 0) → Fmt ns r items shape
    → ((s : List ℕ) → Within (length s) (r s)) → ((x : A) → 0 < length (code ns (items x)))
    → (s : List ℕ) → Bytes s → (at : ℕ) (x : A) (q : ℕ) → r s at ≡ value x q → Lies ns s at (items x) q
unfolding offset_in
lies-by ns r items shape F within more s by at x q e =
    let w = F.was s by at x q e in
    let g = starts s (code ns (items x)) at q (more x) w in
    record { bytes = w; known = (F.legal s by at x q e).1; from = g; to = subst (λ y. offset_in y ≤ length s) e (within s at g) }

-- a list after its count
lies-each : {A : Type 0} (ns : List Name) (items : A → List Item) (s : List ℕ) (at : ℕ) (xs : List A) (q : ℕ) → Lies ns s at (list items xs) q → Lies ns s (at + 2) (each items xs) q
unfolding list code Each two
lies-each ns items s at xs q l = record {
  bytes = sym (drop-drop 2 at s) ∙ ap (drop 2) l.bytes;
  known = l.known;
  from = let a = ap length l.bytes in omega (arith, length-drop at s);
  to = l.to;
}

-- an expression takes its tag, a list its count
expr-some : (ns : List Name) (e : Expr) → 0 < length (code ns (expr_items e))
unfolding code expr_items
expr-some ns (e_const l) = omega arith
expr-some ns (e_var x) = omega arith
expr-some ns (e_unary o a) = omega arith
expr-some ns (e_binary o a b) = omega arith
expr-some ns (e_if a b c) = omega arith
expr-some ns (e_pre a) = omega arith
expr-some ns (e_arrow a b) = omega arith
expr-some ns (e_call f xs) = omega arith
expr-some ns (e_field a f) = omega arith
expr-some ns (e_index a i) = omega arith
expr-some ns (e_tuple xs) = omega arith
expr-some ns (e_array xs) = omega arith
expr-some ns (e_struct n fs xs) = omega arith
expr-some ns (e_cast t a) = omega arith
expr-some ns (e_when a x b) = omega arith
expr-some ns (e_merge x a b) = omega arith
expr-some ns (e_iterate k f i xs) = omega arith

list-some : {A : Type 0} (ns : List Name) (items : A → List Item) (xs : List A) → 0 < length (code ns (list items xs))
unfolding code list two
list-some ns items xs = omega arith

name-some : (ns : List Name) (n : Name) → 0 < length (code ns (name_items n))
unfolding code name_items two
name-some ns n = omega arith

byte-some : (ns : List Name) (b : ℕ) → 0 < length (code ns (raw (single b) ∷ []))
unfolding code single
byte-some ns b = omega arith

module _ (ns : List Name) (fresh : Fresh [] ns) (few : length ns < 65536) (s : List ℕ) (by : Bytes s) where
  pub lies-name : (at : ℕ) (n : Name) (q : ℕ) → name_in ns s at ≡ value n q → Lies ns s at (nm n ∷ []) q
  unfolding name_items
  lies-name at n q e = lies-by ns (name_in ns) name_items Any (fmt_name ns (omega arith) fresh) (w-name_in ns) (name-some ns) s by at n q e

  -- a byte below n
  pub lies-byte : (n : ℕ) → n ≤ 256 → (at k q : ℕ) → below n s at ≡ value k q → Lies ns s at (raw (k ∷ []) ∷ []) q
  unfolding single
  lies-byte n h at k q e = lies-by ns (below n) (λ b. raw (single b) ∷ []) (Below n) (fmt_raw ns (below n) single (Below n) (format_below n h)) (λ t. within-below t n) (byte-some ns) s by at k q e

  pub lies-expr : (at : ℕ) (x : Expr) (q : ℕ) → expr_in ns s at ≡ value x q → Lies ns s at (expr_items x) q
  lies-expr at x q e = lies-by ns (expr_in ns) expr_items Shaped (fmt_expr ns fresh (omega arith)) (w-expr_in ns) (expr-some ns) s by at x q e

  -- a counted list: with its count, and after it
  pub lies-list : {A : Type 0} (r : List ℕ → ℕ → Answer A) (items : A → List Item) (shape : A → Type 0) → Fmt ns r items shape → ((s : List ℕ) → Within (length s) (λ p. counted (r s) s p))
      → (at : ℕ) (xs : List A) (q : ℕ) → counted (r s) s at ≡ value xs q → Lies ns s at (list items xs) q
  lies-list r items shape F w at xs q e = lies-by ns (λ s p. counted (r s) s p) (list items) _ (fmt_counted ns r items shape F) w (list-some ns items) s by at xs q e

  pub lies-rest : {A : Type 0} (r : List ℕ → ℕ → Answer A) (items : A → List Item) (shape : A → Type 0) → Fmt ns r items shape → ((s : List ℕ) → Within (length s) (λ p. counted (r s) s p))
      → (at : ℕ) (xs : List A) (q : ℕ) → counted (r s) s at ≡ value xs q → Lies ns s (at + 2) (each items xs) q
  lies-rest r items shape F w at xs q e = lies-each ns items s at xs q (lies-list r items shape F w at xs q e)

  pub lies-ports : (at : ℕ) (ps : List Port) (q : ℕ) → ports_in ns s at ≡ value ps q → Lies ns s at (list port_items ps) q
  lies-ports at ps q e = lies-by ns (ports_in ns) (list port_items) _ (fmt_ports ns fresh few) (w-ports_in ns) (list-some ns port_items) s by at ps q e

  pub lies-ports-rest : (at : ℕ) (ps : List Port) (q : ℕ) → ports_in ns s at ≡ value ps q → Lies ns s (at + 2) (each port_items ps) q
  lies-ports-rest at ps q e = lies-each ns port_items s at ps q (lies-ports at ps q e)

  pub lies-equations : (at : ℕ) (es : List Equation) (q : ℕ) → equations_in ns s at ≡ value es q → Lies ns s at (list equation_items es) q
  lies-equations at es q e = lies-by ns (equations_in ns) (list equation_items) _ (fmt_equations ns fresh few) (w-equations_in ns) (list-some ns equation_items) s by at es q e

  pub lies-equations-rest : (at : ℕ) (es : List Equation) (q : ℕ) → equations_in ns s at ≡ value es q → Lies ns s (at + 2) (each equation_items es) q
  lies-equations-rest at es q e = lies-each ns equation_items s at es q (lies-equations at es q e)

  -- a node's name, kind, inputs and outputs in one piece
  pub lies-head : (at : ℕ) (n : Name) (p k q : ℕ) (is : List Port) (t : ℕ) (os : List Port) (u : ℕ) → name_in ns s at ≡ value n p → below 3 s p ≡ value k q → ports_in ns s q ≡ value is t → ports_in ns s t ≡ value os u
      → Lies ns s at (nm n ∷ raw (kind_byte (kind_of ns s k) ∷ []) ∷ (list port_items is ++ list port_items os)) u
  unfolding kind_of below
  lies-head at n p k q is t os u a b c d =
      let l = guard-value _ p (byte s p) k q b in
      let e = kind-up k (ltb-true k 3 l.1) in
      subst (λ y. Lies ns s at (nm n ∷ raw (y ∷ []) ∷ (list port_items is ++ list port_items os)) u) (sym e)
      (lies-both ns s at (nm n ∷ []) p _ u (lies-name at n p a)
      (lies-both ns s p (raw (k ∷ []) ∷ []) q _ u (lies-byte 3 (omega arith) p k q b)
      (lies-both ns s q (list port_items is) t _ u (lies-ports q is t c) (lies-ports t os u d))))

module _ (ns : List Name) (fresh : Fresh [] ns) (legal : All LegalName ns) (s : List ℕ) (by : Bytes s) (few : length ns < 65536) where
  pub copied-expr : (at : ℕ) (e : Expr) (q : ℕ) → expr_in ns s at ≡ value e q → (z : State) → render (tabled ns) (expr_items e) z ≡ puts (take (q - at) (drop at s)) z
  copied-expr at e q h z = lies-copied ns legal s at _ q (lies-expr ns fresh few s by at e q h) z

  -- a counted list: with its count, and after it
  pub copied-list : {A : Type 0} (r : List ℕ → ℕ → Answer A) (items : A → List Item) (shape : A → Type 0) → Fmt ns r items shape → ((s : List ℕ) → Within (length s) (λ p. counted (r s) s p))
      → (at : ℕ) (xs : List A) (q : ℕ) → counted (r s) s at ≡ value xs q → (z : State) → render (tabled ns) (list items xs) z ≡ puts (take (q - at) (drop at s)) z
  copied-list r items shape F w at xs q h z = lies-copied ns legal s at _ q (lies-list ns fresh few s by r items shape F w at xs q h) z

  pub copied-each : {A : Type 0} (r : List ℕ → ℕ → Answer A) (items : A → List Item) (shape : A → Type 0) → Fmt ns r items shape → ((s : List ℕ) → Within (length s) (λ p. counted (r s) s p))
      → (at : ℕ) (xs : List A) (q : ℕ) → counted (r s) s at ≡ value xs q → (z : State) → render (tabled ns) (each items xs) z ≡ puts (take (q - (at + 2)) (drop (at + 2) s)) z
  copied-each r items shape F w at xs q h z = lies-copied ns legal s (at + 2) _ q (lies-rest ns fresh few s by r items shape F w at xs q h) z
