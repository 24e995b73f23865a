-- The heads of expressions: each tag's fields, written and read.
use Rattle.std.proofs.Common.{◌≡◌, ℕ, ◌<◌, ◌≤◌, Bool, true, false, cond, eqb, List, [], ◌∷◌, ◌++◌, length, drop, sym, refl, ap, ◌∙◌, subst, arith, eqb-true}
use borrow.Author.Tests.{eqb-false}
use Rattle.pack_rules.specs.Syntax.{Lit, l_bool, l_char, l_float, l_int}
use Rattle.wire.specs.Answer.{Answer, below, byte, counted, illegal, index, many, map_a, u16, u64, value}
use Rattle.pack_rules.specs.Forms.{ExprHead, array, arrow, binary, call, call_fields, cast, conditional, const, element, expr_arity, expr_at, expr_fields, expr_head, expr_rows, field, flag_of, iterate, iterate_fields, literal, literal_of, merge, previous, sample, struct, struct_fields, tuple, type_arity, type_at, unary, var, when_fields}
use Rattle.wire.specs.Bytes.{bytes, two}
use Rattle.pack_rules.specs.Write.{flag_byte, lit_bytes}
use Rattle.wire.specs.Lists.{All, Bytes}
use Rattle.wire.proofs.Formats.{Back, Below, Format, bind_to, both, enc_all, format16, format64, format_below, format_both, format_byte, format_counted, format_index, format_nothing, nothing, seq, single}
use Rattle.wire.proofs.Answers.{bind-value, map-bind, map-value}
use Rattle.wire.proofs.TreeFormats.{OkTrees, count, enc_trees, format_tree}
use Rattle.pack.proofs.TypeFormats.{OkType, Rows, enc_type, format_types, row_at}
use Rattle.pack_rules.specs.Legal.{LegalLit}

-- a tag's row: a format under a constructor
pub row-was : {A H : Type 0} (f : List ℕ → ℕ → Answer A) (ef : A → List ℕ) (of : A → Type 0) (c : A → H) (enc : H → List ℕ) (ok : H → Type 0) (k : ℕ) → Format f ef of → ((x : A) → of x → ok (c x) × (k ∷ ef x ≡ enc (c x))) → (s : List ℕ) → Bytes s → (at : ℕ) (h : H) (q : ℕ) → map_a c (f s at) ≡ value h q → ok h × (k ∷ drop at s ≡ enc h ++ drop q s)
row-was {A} {H} f ef of c enc ok k F fine s by at h q e =
    let m = map-value c (f s at) h q e in
    let g = fine m.0 (F.legal s by at m.0 q m.1) in
    subst (λ (y : H). ok y × (k ∷ drop at s ≡ enc y ++ drop q s)) m.2
    (g.0, ap (λ (l : List ℕ). k ∷ l) (F.was s by at m.0 q m.1) ∙ ap (λ (l : List ℕ). l ++ drop q s) g.1)

-- flags and literals
pub flag-byte : (x : ℕ) → x < 2 → flag_byte (flag_of x) ≡ x
unfolding flag_byte flag_of
flag-byte x h = go (eqb x 1) refl
  where
    go : (b : Bool) → eqb x 1 ≡ b → cond b 1 0 ≡ x
    go true e = sym (eqb-true x 1 e)
    go false e = let n = eqb-false x 1 e in omega arith

pub byte_flag : (b : Bool) → flag_of (flag_byte b) ≡ b
unfolding flag_byte flag_of
byte_flag true = refl
byte_flag false = refl

pub flag_small : (b : Bool) → flag_byte b < 2
unfolding flag_byte
flag_small true = omega arith
flag_small false = omega arith

pub format_literal : Format literal lit_bytes LegalLit
unfolding literal literal_of lit_bytes LegalLit map_a single
format_literal = record { back = back; legal = λ s by at x q e. (parts s by at x q e).0; was = λ s by at x q e. (parts s by at x q e).1 }
  where
    B : Format (below 4) single (Below 4)
    B = format_below 4 (omega arith)

    tagged : (s : List ℕ) (at k p : ℕ) (z : Answer Lit) → below 4 s at ≡ value k p → literal_of k s p ≡ z → literal s at ≡ z
    tagged s at k p z e g = bind_to (below 4 s at) k p (λ tag p. literal_of tag s p) z e g

    back : (s : List ℕ) (at : ℕ) (x : Lit) (post : List ℕ) → LegalLit x → drop at s ≡ lit_bytes x ++ post → Back literal s at x post
    back s at (l_bool b) post h e =
        let t = B.back s at 0 (flag_byte b ∷ post) (omega arith) e in
        let d = (format_below 2 (omega arith)).back s t.to (flag_byte b) post (flag_small b) t.rest in
        record { to = d.to; reads = tagged s at 0 t.to _ t.reads (ap (map_a (λ b. l_bool (flag_of b))) d.reads ∙ ap (λ (v : Bool). value (l_bool v) d.to) (byte_flag b)); rest = d.rest }
    back s at (l_int n) post h e =
        let t = B.back s at 1 (bytes 8 n ++ post) (omega arith) e in
        let d = format64.back s t.to n post h t.rest in
        record { to = d.to; reads = tagged s at 1 t.to _ t.reads (ap (map_a l_int) d.reads); rest = d.rest }
    back s at (l_float n) post h e =
        let t = B.back s at 2 (bytes 8 n ++ post) (omega arith) e in
        let d = format64.back s t.to n post h t.rest in
        record { to = d.to; reads = tagged s at 2 t.to _ t.reads (ap (map_a l_float) d.reads); rest = d.rest }
    back s at (l_char n) post h e =
        let t = B.back s at 3 (n ∷ post) (omega arith) e in
        let d = format_byte.back s t.to n post h t.rest in
        record { to = d.to; reads = tagged s at 3 t.to _ t.reads (ap (map_a l_char) d.reads); rest = d.rest }

    fields : (s : List ℕ) → Bytes s → (tag p : ℕ) (x : Lit) (q : ℕ) → tag < 4 → literal_of tag s p ≡ value x q → LegalLit x × (tag ∷ drop p s ≡ lit_bytes x ++ drop q s)
    fields s by tag p x q l e = go (eqb tag 0) (eqb tag 1) (eqb tag 2) refl refl refl e
      where
        is : (k : ℕ) → tag ≡ k → LegalLit x × (k ∷ drop p s ≡ lit_bytes x ++ drop q s) → LegalLit x × (tag ∷ drop p s ≡ lit_bytes x ++ drop q s)
        is k t r = (r.0, ap (λ (n : ℕ). n ∷ drop p s) t ∙ r.1)

        go : (a b c : Bool) → eqb tag 0 ≡ a → eqb tag 1 ≡ b → eqb tag 2 ≡ c → cond a (map_a (λ b. l_bool (flag_of b)) (below 2 s p)) (cond b (map_a l_int (u64 s p)) (cond c (map_a l_float (u64 s p)) (map_a l_char (byte s p)))) ≡ value x q → LegalLit x × (tag ∷ drop p s ≡ lit_bytes x ++ drop q s)
        go true b c f g h i = is 0 (eqb-true tag 0 f) (row-was (below 2) single (Below 2) (λ b. l_bool (flag_of b)) lit_bytes LegalLit 0 (format_below 2 (omega arith)) (λ v o. (tt, ap (λ (n : ℕ). 0 ∷ n ∷ []) (sym (flag-byte v o)))) s by p x q i)
        go false true c f g h i = is 1 (eqb-true tag 1 g) (row-was u64 (bytes 8) (Below 18446744073709551616) l_int lit_bytes LegalLit 1 format64 (λ v o. (o, refl)) s by p x q i)
        go false false true f g h i = is 2 (eqb-true tag 2 h) (row-was u64 (bytes 8) (Below 18446744073709551616) l_float lit_bytes LegalLit 2 format64 (λ v o. (o, refl)) s by p x q i)
        go false false false f g h i =
            let a = eqb-false tag 0 f in let b = eqb-false tag 1 g in let c = eqb-false tag 2 h in
            is 3 (omega arith) (row-was byte single (Below 256) l_char lit_bytes LegalLit 3 format_byte (λ v o. (o, refl)) s by p x q i)

    parts : (s : List ℕ) → Bytes s → (at : ℕ) (x : Lit) (q : ℕ) → literal s at ≡ value x q → LegalLit x × (drop at s ≡ lit_bytes x ++ drop q s)
    parts s by at x q e =
        let b = bind-value (below 4 s at) (λ tag p. literal_of tag s p) x q e in
        let f = fields s by b.0 b.1 x q (B.legal s by at b.0 b.1 b.2) b.3 in
        (f.0, B.was s by at b.0 b.1 b.2 ∙ f.1)

-- what is written of a head, and what is legal
unfoldable pub enc_head : ExprHead → List ℕ
enc_head (const l) = 0 ∷ lit_bytes l
enc_head (var i) = 1 ∷ two i
enc_head (unary o) = 2 ∷ single o
enc_head (binary o) = 3 ∷ single o
enc_head conditional = 4 ∷ []
enc_head previous = 5 ∷ []
enc_head arrow = 6 ∷ []
enc_head (call i n) = 7 ∷ (two i ++ two n)
enc_head (field i) = 8 ∷ two i
enc_head element = 9 ∷ []
enc_head (tuple n) = 10 ∷ two n
enc_head (array n) = 11 ∷ two n
enc_head (struct i fs) = 12 ∷ (two i ++ (two (length fs) ++ enc_all two fs))
enc_head (cast t) = 13 ∷ enc_trees enc_type t
enc_head (sample i b) = 14 ∷ (two i ++ single b)
enc_head (merge i) = 15 ∷ two i
enc_head (iterate k i b n) = 16 ∷ (single k ++ (two i ++ (single b ++ two n)))

unfoldable pub OkHead : ℕ → ExprHead → Type 0
OkHead names (const l) = LegalLit l
OkHead names (var i) = i < names
OkHead names (unary o) = o < 2
OkHead names (binary o) = o < 20
OkHead names conditional = Unit {0}
OkHead names previous = Unit {0}
OkHead names arrow = Unit {0}
OkHead names (call i n) = (i < names) × (n < 65536)
OkHead names (field i) = i < names
OkHead names element = Unit {0}
OkHead names (tuple n) = n < 65536
OkHead names (array n) = n < 65536
OkHead names (struct i fs) = (i < names) × ((length fs < 65536) × All (Below names) fs)
OkHead names (cast t) = (count t ≡ 1) × OkTrees (OkType names) type_arity t
OkHead names (sample i b) = (i < names) × (b < 2)
OkHead names (merge i) = i < names
OkHead names (iterate k i b n) = (k < 2) × ((i < names) × ((b < 2) × (n < 65536)))

pub full_head : (h : ExprHead) → 0 < length (enc_head h)
unfolding enc_head
full_head (const l) = omega arith
full_head (var i) = omega arith
full_head (unary o) = omega arith
full_head (binary o) = omega arith
full_head conditional = omega arith
full_head previous = omega arith
full_head arrow = omega arith
full_head (call i n) = omega arith
full_head (field i) = omega arith
full_head element = omega arith
full_head (tuple n) = omega arith
full_head (array n) = omega arith
full_head (struct i fs) = omega arith
full_head (cast t) = omega arith
full_head (sample i b) = omega arith
full_head (merge i) = omega arith
full_head (iterate k i b n) = omega arith

module _ (names : ℕ) (small : names ≤ 65536) where
  I : Format (index names) two (Below names)
  I = format_index names small

  call_f : Format (both (index names) u16) (λ z. two z.0 ++ two z.1) (λ z. (z.0 < names) × (z.1 < 65536))
  call_f = format_both (index names) u16 two two (Below names) (Below 65536) I format16

  struct_f : Format (both (index names) (λ s at. counted (index names s) s at)) (λ z. two z.0 ++ (two (length z.1) ++ enc_all two z.1)) (λ z. (z.0 < names) × ((length z.1 < 65536) × All (Below names) z.1))
  struct_f = format_both (index names) (λ s at. counted (index names s) s at) two (λ fs. two (length fs) ++ enc_all two fs) (Below names) (λ fs. (length fs < 65536) × All (Below names) fs) I (format_counted (index names) two (Below names) I)

  when_f : Format (both (index names) (below 2)) (λ z. two z.0 ++ single z.1) (λ z. (z.0 < names) × (z.1 < 2))
  when_f = format_both (index names) (below 2) two single (Below names) (Below 2) I (format_below 2 (omega arith))

  iterate_f : Format (both (below 2) (both (index names) (both (below 2) u16))) (λ z. single z.0 ++ (two z.1.0 ++ (single z.1.1.0 ++ two z.1.1.1))) (λ z. (z.0 < 2) × ((z.1.0 < names) × ((z.1.1.0 < 2) × (z.1.1.1 < 65536))))
  iterate_f = format_both (below 2) (both (index names) (both (below 2) u16)) single (λ y. two y.0 ++ (single y.1.0 ++ two y.1.1)) (Below 2) (λ y. (y.0 < names) × ((y.1.0 < 2) × (y.1.1 < 65536))) (format_below 2 (omega arith))
      (format_both (index names) (both (below 2) u16) two (λ y. single y.0 ++ two y.1) (Below names) (λ y. (y.0 < 2) × (y.1 < 65536)) I
      (format_both (below 2) u16 single two (Below 2) (Below 65536) (format_below 2 (omega arith)) format16))

  call-is : (s : List ℕ) (at : ℕ) → call_fields names s at ≡ map_a (λ (z : ℕ × ℕ). call z.0 z.1) (both (index names) u16 s at)
  unfolding call_fields
  call-is s at = seq (index names) u16 _ call s at (λ x p. refl)

  struct_is : (s : List ℕ) (at : ℕ) → struct_fields names s at ≡ map_a (λ (z : ℕ × List ℕ). struct z.0 z.1) (both (index names) (λ s at. counted (index names s) s at) s at)
  unfolding struct_fields counted
  struct_is s at = seq (index names) (λ s at. counted (index names s) s at) _ struct s at (λ x p. sym (map-bind (struct x) (u16 s p) (λ n q. many (index names s) n q)))

  when-is : (s : List ℕ) (at : ℕ) → when_fields names s at ≡ map_a (λ (z : ℕ × ℕ). sample z.0 z.1) (both (index names) (below 2) s at)
  unfolding when_fields
  when-is s at = seq (index names) (below 2) _ sample s at (λ x p. refl)

  iterate-is : (s : List ℕ) (at : ℕ) → iterate_fields names s at ≡ map_a (λ (z : ℕ × (ℕ × (ℕ × ℕ))). iterate z.0 z.1.0 z.1.1.0 z.1.1.1) (both (below 2) (both (index names) (both (below 2) u16)) s at)
  unfolding iterate_fields
  iterate-is s at =
      seq (below 2) (both (index names) (both (below 2) u16)) _ (λ k (y : ℕ × (ℕ × ℕ)). iterate k y.0 y.1.0 y.1.1) s at (λ k p.
      seq (index names) (both (below 2) u16) _ (λ i (y : ℕ × ℕ). iterate k i y.0 y.1) s p (λ i q.
      seq (below 2) u16 _ (iterate k i) s q (λ b o. refl)))

  head-back : {A : Type 0} (k : ℕ) → k < 17 → (f : List ℕ → ℕ → Answer A) (e : A → List ℕ) (o : A → Type 0) → Format f e o → (c : A → ExprHead) → ((s : List ℕ) (p : ℕ) → expr_fields names k s p ≡ map_a c (f s p)) → (s : List ℕ) (at : ℕ) (x : A) (post : List ℕ) → o x → drop at s ≡ (k ∷ e x) ++ post → Back (expr_head names) s at (c x) post
  unfolding expr_head map_a single
  head-back k l f e o F c law s at x post h g =
      let t = (format_below 17 (omega arith)).back s at k (e x ++ post) l g in
      let d = F.back s t.to x post h t.rest in
      record { to = d.to; reads = bind_to (below 17 s at) k t.to (λ tag p. expr_fields names tag s p) _ t.reads (law s t.to ∙ ap (map_a c) d.reads); rest = d.rest }

  heads-back : (s : List ℕ) (at : ℕ) (h : ExprHead) (post : List ℕ) → OkHead names h → drop at s ≡ enc_head h ++ post → Back (expr_head names) s at h post
  unfolding enc_head OkHead expr_fields expr_rows nothing map_a
  heads-back s at (const l) post ok g = head-back 0 (omega arith) literal lit_bytes LegalLit format_literal const (λ s p. refl) s at l post ok g
  heads-back s at (var i) post ok g = head-back 1 (omega arith) (index names) two (Below names) I var (λ s p. refl) s at i post ok g
  heads-back s at (unary o) post ok g = head-back 2 (omega arith) (below 2) single (Below 2) (format_below 2 (omega arith)) unary (λ s p. refl) s at o post ok g
  heads-back s at (binary o) post ok g = head-back 3 (omega arith) (below 20) single (Below 20) (format_below 20 (omega arith)) binary (λ s p. refl) s at o post ok g
  heads-back s at conditional post ok g = head-back 4 (omega arith) nothing (λ u. []) (λ u. Unit {0}) format_nothing (λ u. conditional) (λ s p. refl) s at tt post ok g
  heads-back s at previous post ok g = head-back 5 (omega arith) nothing (λ u. []) (λ u. Unit {0}) format_nothing (λ u. previous) (λ s p. refl) s at tt post ok g
  heads-back s at arrow post ok g = head-back 6 (omega arith) nothing (λ u. []) (λ u. Unit {0}) format_nothing (λ u. arrow) (λ s p. refl) s at tt post ok g
  heads-back s at (call i n) post ok g = head-back 7 (omega arith) (both (index names) u16) (λ z. two z.0 ++ two z.1) (λ z. (z.0 < names) × (z.1 < 65536)) call_f (λ (z : ℕ × ℕ). call z.0 z.1) call-is s at (i, n) post ok g
  heads-back s at (field i) post ok g = head-back 8 (omega arith) (index names) two (Below names) I field (λ s p. refl) s at i post ok g
  heads-back s at element post ok g = head-back 9 (omega arith) nothing (λ u. []) (λ u. Unit {0}) format_nothing (λ u. element) (λ s p. refl) s at tt post ok g
  heads-back s at (tuple n) post ok g = head-back 10 (omega arith) u16 two (Below 65536) format16 tuple (λ s p. refl) s at n post ok g
  heads-back s at (array n) post ok g = head-back 11 (omega arith) u16 two (Below 65536) format16 array (λ s p. refl) s at n post ok g
  heads-back s at (struct i fs) post ok g = head-back 12 (omega arith) (both (index names) (λ s at. counted (index names s) s at)) (λ z. two z.0 ++ (two (length z.1) ++ enc_all two z.1)) (λ z. (z.0 < names) × ((length z.1 < 65536) × All (Below names) z.1)) struct_f (λ (z : ℕ × List ℕ). struct z.0 z.1) struct_is s at (i, fs) post ok g
  heads-back s at (cast t) post ok g = head-back 13 (omega arith) (type_at names) (enc_trees enc_type) (λ ts. (count ts ≡ 1) × OkTrees (OkType names) type_arity ts) (format_types names small) cast (λ s p. refl) s at t post ok g
  heads-back s at (sample i b) post ok g = head-back 14 (omega arith) (both (index names) (below 2)) (λ z. two z.0 ++ single z.1) (λ z. (z.0 < names) × (z.1 < 2)) when_f (λ (z : ℕ × ℕ). sample z.0 z.1) when-is s at (i, b) post ok g
  heads-back s at (merge i) post ok g = head-back 15 (omega arith) (index names) two (Below names) I merge (λ s p. refl) s at i post ok g
  heads-back s at (iterate k i b n) post ok g = head-back 16 (omega arith) (both (below 2) (both (index names) (both (below 2) u16))) (λ z. single z.0 ++ (two z.1.0 ++ (single z.1.1.0 ++ two z.1.1.1))) (λ z. (z.0 < 2) × ((z.1.0 < names) × ((z.1.1.0 < 2) × (z.1.1.1 < 65536)))) iterate_f (λ (z : ℕ × (ℕ × (ℕ × ℕ))). iterate z.0 z.1.0 z.1.1.0 z.1.1.1) iterate-is s at (k, (i, (b, n))) post ok g

  -- what a row reads was written so
  abbrev RowWas : List ℕ → ℕ → ℕ → Answer ExprHead → Type 0
  RowWas s at k a = (h : ExprHead) (q : ℕ) → a ≡ value h q → OkHead names h × (k ∷ drop at s ≡ enc_head h ++ drop q s)

  rows-was : (s : List ℕ) → Bytes s → (at : ℕ) → Rows (RowWas s at) 0 (expr_rows names s at)
  unfolding enc_head OkHead expr_rows nothing map_a Rows
  rows-was s by at = (
    λ h q e. row-was literal lit_bytes LegalLit const enc_head (OkHead names) 0 format_literal (λ x o. (o, refl)) s by at h q e,
    (
      λ h q e. row-was (index names) two (Below names) var enc_head (OkHead names) 1 I (λ x o. (o, refl)) s by at h q e,
      (
        λ h q e. row-was (below 2) single (Below 2) unary enc_head (OkHead names) 2 (format_below 2 (omega arith)) (λ x o. (o, refl)) s by at h q e,
        (
          λ h q e. row-was (below 20) single (Below 20) binary enc_head (OkHead names) 3 (format_below 20 (omega arith)) (λ x o. (o, refl)) s by at h q e,
          (
            λ h q e. row-was nothing (λ u. []) (λ u. Unit {0}) (λ u. conditional) enc_head (OkHead names) 4 format_nothing (λ x o. (o, refl)) s by at h q e,
            (
              λ h q e. row-was nothing (λ u. []) (λ u. Unit {0}) (λ u. previous) enc_head (OkHead names) 5 format_nothing (λ x o. (o, refl)) s by at h q e,
              (
                λ h q e. row-was nothing (λ u. []) (λ u. Unit {0}) (λ u. arrow) enc_head (OkHead names) 6 format_nothing (λ x o. (o, refl)) s by at h q e,
                (
                  λ h q e. row-was (both (index names) u16) (λ z. two z.0 ++ two z.1) (λ z. (z.0 < names) × (z.1 < 65536)) (λ (z : ℕ × ℕ). call z.0 z.1) enc_head (OkHead names) 7 call_f (λ x o. (o, refl)) s by at h q (sym (call-is s at) ∙ e),
                  (
                    λ h q e. row-was (index names) two (Below names) field enc_head (OkHead names) 8 I (λ x o. (o, refl)) s by at h q e,
                    (
                      λ h q e. row-was nothing (λ u. []) (λ u. Unit {0}) (λ u. element) enc_head (OkHead names) 9 format_nothing (λ x o. (o, refl)) s by at h q e,
                      (
                        λ h q e. row-was u16 two (Below 65536) tuple enc_head (OkHead names) 10 format16 (λ x o. (o, refl)) s by at h q e,
                        (
                          λ h q e. row-was u16 two (Below 65536) array enc_head (OkHead names) 11 format16 (λ x o. (o, refl)) s by at h q e,
                          (
                            λ h q e. row-was (both (index names) (λ s at. counted (index names s) s at)) (λ z. two z.0 ++ (two (length z.1) ++ enc_all two z.1)) (λ z. (z.0 < names) × ((length z.1 < 65536) × All (Below names) z.1)) (λ (z : ℕ × List ℕ). struct z.0 z.1) enc_head (OkHead names) 12 struct_f (λ x o. (o, refl)) s by at h q (sym (struct_is s at) ∙ e),
                            (
                              λ h q e. row-was (type_at names) (enc_trees enc_type) (λ ts. (count ts ≡ 1) × OkTrees (OkType names) type_arity ts) cast enc_head (OkHead names) 13 (format_types names small) (λ x o. (o, refl)) s by at h q e,
                              (
                                λ h q e. row-was (both (index names) (below 2)) (λ z. two z.0 ++ single z.1) (λ z. (z.0 < names) × (z.1 < 2)) (λ (z : ℕ × ℕ). sample z.0 z.1) enc_head (OkHead names) 14 when_f (λ x o. (o, refl)) s by at h q (sym (when-is s at) ∙ e),
                                (
                                  λ h q e. row-was (index names) two (Below names) merge enc_head (OkHead names) 15 I (λ x o. (o, refl)) s by at h q e,
                                  (
                                    λ h q e. row-was (both (below 2) (both (index names) (both (below 2) u16))) (λ z. single z.0 ++ (two z.1.0 ++ (single z.1.1.0 ++ two z.1.1.1))) (λ z. (z.0 < 2) × ((z.1.0 < names) × ((z.1.1.0 < 2) × (z.1.1.1 < 65536)))) (λ (z : ℕ × (ℕ × (ℕ × ℕ))). iterate z.0 z.1.0 z.1.1.0 z.1.1.1) enc_head (OkHead names) 16 iterate_f (λ x o. (o, refl)) s by at h q (sym (iterate-is s at) ∙ e),
                                    tt,
                                  ),
                                ),
                              ),
                            ),
                          ),
                        ),
                      ),
                    ),
                  ),
                ),
              ),
            ),
          ),
        ),
      ),
    ),
  )

  rows_at : (s : List ℕ) → Bytes s → (tag p : ℕ) (x : ExprHead) (q : ℕ) → tag < 17 → expr_fields names tag s p ≡ value x q → OkHead names x × (tag ∷ drop p s ≡ enc_head x ++ drop q s)
  unfolding expr_fields expr_rows
  rows_at s by tag p x q l e = row_at (RowWas s p) (expr_rows names s p) tag (illegal p) (rows-was s by p) l x q e

  pub format_head : Format (expr_head names) enc_head (OkHead names)
  unfolding expr_head single
  format_head = record { back = heads-back; legal = λ s by at x q e. (parts s by at x q e).0; was = λ s by at x q e. (parts s by at x q e).1 }
    where
      T : Format (below 17) single (Below 17)
      T = format_below 17 (omega arith)

      fields : (s : List ℕ) → Bytes s → (tag p : ℕ) (x : ExprHead) (q : ℕ) → tag < 17 → expr_fields names tag s p ≡ value x q → OkHead names x × (tag ∷ drop p s ≡ enc_head x ++ drop q s)
      fields s by tag p x q l e = rows_at s by tag p x q l e

      parts : (s : List ℕ) → Bytes s → (at : ℕ) (x : ExprHead) (q : ℕ) → expr_head names s at ≡ value x q → OkHead names x × (drop at s ≡ enc_head x ++ drop q s)
      parts s by at x q e =
          let b = bind-value (below 17 s at) (λ tag p. expr_fields names tag s p) x q e in
          let f = fields s by b.0 b.1 x q (T.legal s by at b.0 b.1 b.2) b.3 in
          (f.0, T.was s by at b.0 b.1 b.2 ∙ f.1)

  pub format_exprs : Format (expr_at names) (enc_trees enc_head) (λ ts. (count ts ≡ 1) × OkTrees (OkHead names) expr_arity ts)
  unfolding expr_at
  format_exprs = format_tree expr_arity (expr_head names) enc_head (OkHead names) format_head full_head
