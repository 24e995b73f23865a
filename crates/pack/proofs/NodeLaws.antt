-- Laws of nodes taken apart: what was read of a node's head, with the name after its tag, is the node.
use Rattle.std.proofs.Common.{◌≡◌, ℕ, zero, suc, ◌+◌, true, List, [], ◌∷◌, get_or, sym, refl, ap, ◌∙◌, arith, ne_eqb}
use Rattle.std.specs.Prelude.{Result, Ok, Err}
use Rattle.wire.specs.declared.answer.Stop.{Stop}
use Rattle.wire.specs.declared.answer.Number.{Number}
use Rattle.pack.specs.declared.exprs.Node.{Node}
use Rattle.pack.specs.declared.exprs.Node.TheVariants as nd
use Rattle.pack.specs.declared.exprs.Decoded.{Decoded}
use Rattle.wire.specs.Answer.{Answer, below, bind, deep, early, illegal, index, map_a, u16, value}
use Rattle.wire.specs.Code.{Read, read_of}
use Rattle.wire.proofs.Answers.{bind-value, byte-value, guard-value, map-value}
use Rattle.pack_rules.specs.Forms.{ExprHead, array, arrow, binary, call, call_fields, cast, conditional, const, element, expr_arity, expr_fields, expr_head, expr_rows, field, iterate_fields, merge, previous, sample, struct_fields, tuple, unary, var, when_fields}
use Rattle.pack.specs.Heads.{expr_left, expr_more}
use Rattle.pack.specs.Nodes.{by_tag, decoded, named_of, node_of}
use Rattle.wire.proofs.Codes.{read_found}

-- a number that was read is the name of a node whose tag has one
pub named-is : (tag k n : ℕ) (r : Read) (i : Number) (d : Node) → tag ≡ k → r ≡ Ok i → d ≡ by_tag k n i.value → d ≡ named_of tag n r
unfolding named_of
named-is tag k n r i d f e g = g ∙ ap (λ (t : ℕ). by_tag t n i.value) (sym f) ∙ sym (ap (named_of tag n) e)

-- the node of a head that was read
unfoldable pub node_in : Answer ExprHead → Node
node_in (value h q) = node_of h
node_in early = nd.Other 0
node_in (illegal o) = nd.Other 0
node_in (deep o) = nd.Other 0

-- a node in place of the number that was read
unfoldable pub place : Node → Read → Result Decoded Stop
place d (Ok n) = Ok (record { node = d; next = n.next })
place d (Err e) = Err e

placed : (a : Answer ExprHead) → place (node_in a) (read_of (map_a expr_arity a)) ≡ decoded a
unfolding place node_in read_of map_a decoded
placed (value h q) = refl
placed early = refl
placed (illegal o) = refl
placed (deep o) = refl

-- rows whose nodes are told by this tag and the first number in their fields
abbrev Told : ℕ → Read → Answer ExprHead → Type 0
Told tag r a = (h : ExprHead) (q : ℕ) → a ≡ value h q → node_of h ≡ named_of tag (expr_arity h) r

-- answers whose nodes have no name that is looked at
abbrev Plain : Answer ExprHead → Type 0
Plain a = (h : ExprHead) (p : ℕ) → a ≡ value h p → node_of h ≡ nd.Other (expr_arity h)

plain_value : (h : ExprHead) (at : ℕ) → node_of h ≡ nd.Other (expr_arity h) → Plain (value h at)
plain_value h at k x p e = let g : h ≡ x = cc in sym (ap node_of g) ∙ k ∙ ap (λ (y : ExprHead). nd.Other (expr_arity y)) g

plain_map : {A : Type 0} (f : A → ExprHead) (a : Answer A) → ((x : A) → node_of (f x) ≡ nd.Other (expr_arity (f x))) → Plain (map_a f a)
plain_map f a k h p e = let m = map-value f a h p e in sym (ap node_of m.2) ∙ k m.0 ∙ ap (λ (y : ExprHead). nd.Other (expr_arity y)) m.2

plain-bind : {A : Type 0} (a : Answer A) (k : A → ℕ → Answer ExprHead) → ((x : A) (p : ℕ) → Plain (k x p)) → Plain (bind a k)
plain-bind a k f h p e = let b = bind-value a k h p e in f b.0 b.1 h p b.3

plain-struct : (names : ℕ) (s : List ℕ) (at : ℕ) → Plain (struct_fields names s at)
unfolding struct_fields node_of expr_arity
plain-struct names s at = plain-bind _ _ (λ i p. plain-bind _ _ (λ n q. plain_map _ _ (λ fs. refl)))

plain-iterate : (names : ℕ) (s : List ℕ) (at : ℕ) → Plain (iterate_fields names s at)
unfolding iterate_fields node_of expr_arity
plain-iterate names s at = plain-bind _ _ (λ k p. plain-bind _ _ (λ i q. plain-bind _ _ (λ b o. plain_map _ _ (λ n. refl))))

told-plain : (tag : ℕ) (r : Read) (a : Answer ExprHead) → ((n i : ℕ) → nd.Other n ≡ by_tag tag n i) → Plain a → Told tag r a
unfolding named_of
told-plain tag (Ok i) a f k h q e = k h q e ∙ f (expr_arity h) i.value
told-plain tag (Err o) a f k h q e = k h q e

module _ (names : ℕ) (s : List ℕ) (at : ℕ) where
  index_read : (i q : ℕ) → index names s at ≡ value i q → read_of (u16 s at) ≡ Ok (record { value = i; next = q })
  unfolding index read_of
  index_read i q e = ap read_of (guard-value _ at (u16 s at) i q e).0

  told-map : (tag : ℕ) (f : ℕ → ExprHead) → ((i : ℕ) → node_of (f i) ≡ by_tag tag (expr_arity (f i)) i) → Told tag (read_of (u16 s at)) (map_a f (index names s at))
  told-map tag f k h q e =
      let m = map-value f (index names s at) h q e in
      named-is tag tag (expr_arity h) _ (record { value = m.0; next = q }) (node_of h) refl (index_read m.0 q m.1) (sym (ap node_of m.2) ∙ k m.0 ∙ ap (λ (y : ExprHead). by_tag tag (expr_arity y) m.0) m.2)

  told-bind : (tag : ℕ) (f : ℕ → ℕ → ExprHead) (r : ℕ → Answer ℕ) → ((i n : ℕ) → node_of (f i n) ≡ by_tag tag (expr_arity (f i n)) i) → Told tag (read_of (u16 s at)) (bind (index names s at) (λ i p. map_a (f i) (r p)))
  told-bind tag f r k h q e =
      let b = bind-value (index names s at) _ h q e in
      let m = map-value (f b.0) (r b.1) h q b.3 in
      named-is tag tag (expr_arity h) _ (record { value = b.0; next = b.1 }) (node_of h) refl (index_read b.0 b.1 b.2) (sym (ap node_of m.2) ∙ k b.0 m.0 ∙ ap (λ (y : ExprHead). by_tag tag (expr_arity y) b.0) m.2)

  told-call : Told 7 (read_of (u16 s at)) (call_fields names s at)
  unfolding call_fields node_of expr_arity by_tag
  told-call = told-bind 7 call (u16 s) (λ i n. refl)

  told-when : Told 14 (read_of (u16 s at)) (when_fields names s at)
  unfolding when_fields node_of expr_arity by_tag
  told-when = told-bind 14 sample (below 2 s) (λ i b. refl)

-- every row from this tag on
unfoldable AllTold : Read → ℕ → List (Answer ExprHead) → Type 0
AllTold r tag [] = Unit {0}
AllTold r tag (a ∷ l) = Told tag r a × AllTold r (suc tag) l

told_at : (r : Read) (tag k : ℕ) (l : List (Answer ExprHead)) (o : ℕ) → AllTold r tag l → Told (tag + k) r (get_or l k (illegal o))
unfolding AllTold
told_at r tag k [] o t h q e = let z : ◌≡◌ {A = ℕ} 0 1 = cc in absurd (omega arith)
told_at r tag zero (a ∷ l) o t h q e = let j : tag ≡ tag + 0 = omega arith in t.0 h q e ∙ ap (λ (i : ℕ). named_of i (expr_arity h) r) j
told_at r tag (suc k) (a ∷ l) o t h q e = let j : suc tag + k ≡ tag + suc k = omega arith in told_at r (suc tag) k l o t.1 h q e ∙ ap (λ (i : ℕ). named_of i (expr_arity h) r) j

rows_told : (names : ℕ) (s : List ℕ) (at : ℕ) → AllTold (read_of (u16 s at)) 0 (expr_rows names s at)
unfolding AllTold expr_rows node_of expr_arity by_tag
rows_told names s at =
    let r = read_of (u16 s at) in (
      told-plain 0 r _ (λ n i. refl) (plain_map const _ (λ l. refl)),
      (
        told-map names s at 1 var (λ i. refl),
        (
          told-plain 2 r _ (λ n i. refl) (plain_map unary _ (λ o. refl)),
          (
            told-plain 3 r _ (λ n i. refl) (plain_map binary _ (λ o. refl)),
            (
              told-plain 4 r _ (λ n i. refl) (plain_value conditional at refl),
              (
                told-plain 5 r _ (λ n i. refl) (plain_value previous at refl),
                (
                  told-plain 6 r _ (λ n i. refl) (plain_value arrow at refl),
                  (
                    told-call names s at,
                    (
                      told-plain 8 r _ (λ n i. refl) (plain_map field _ (λ j. refl)),
                      (
                        told-plain 9 r _ (λ n i. refl) (plain_value element at refl),
                        (
                          told-plain 10 r _ (λ n i. refl) (plain_map tuple _ (λ m. refl)),
                          (
                            told-plain 11 r _ (λ n i. refl) (plain_map array _ (λ m. refl)),
                            (
                              told-plain 12 r _ (λ n i. refl) (plain-struct names s at),
                              (
                                told-plain 13 r _ (λ n i. refl) (plain_map cast _ (λ u. refl)),
                                (
                                  told-when names s at,
                                  (
                                    told-map names s at 15 merge (λ i. refl),
                                    (told-plain 16 r _ (λ n i. refl) (plain-iterate names s at), tt),
                                  ),
                                ),
                              ),
                            ),
                          ),
                        ),
                      ),
                    ),
                  ),
                ),
              ),
            ),
          ),
        ),
      ),
    )

-- a node is told by its tag, how many expressions stand under it, and the number after its tag
named_in : (names : ℕ) (s : List ℕ) (at v q : ℕ) → expr_more names s at ≡ value v q → named_of (get_or s at 0) v (read_of (u16 s (at + 1))) ≡ node_in (expr_head names s at)
unfolding expr_more expr_head expr_fields node_in below
named_in names s at v q e =
    let a = map-value expr_arity (expr_head names s at) v q e in
    let b = bind-value (below 17 s at) _ a.0 q a.1 in
    let d = byte-value s at b.0 b.1 (guard-value _ at _ b.0 b.1 b.2).0 in
    let t = told_at (read_of (u16 s b.1)) 0 b.0 (expr_rows names s b.1) b.1 (rows_told names s b.1) a.0 q b.3 in
    let j : b.0 ≡ 0 + b.0 = omega arith in
    ap (λ (k : ℕ). named_of k v (read_of (u16 s (at + 1)))) (sym d.is) ∙
    ap (λ (k : ℕ). named_of b.0 k (read_of (u16 s (at + 1)))) (sym a.2) ∙
    ap (λ (k : ℕ). named_of b.0 (expr_arity a.0) (read_of (u16 s k))) (sym d.to) ∙
    ap (λ (k : ℕ). named_of k (expr_arity a.0) (read_of (u16 s b.1))) j ∙
    sym t ∙ sym (ap node_in a.1)

-- what the code reads of a node
module _ (names : ℕ) (s : List ℕ) (at : ℕ) where
  pub node-err : (e : Stop) → Err e ≡ read_of (expr_left true names s at) → Err e ≡ decoded (expr_head names s at)
  unfolding expr_left expr_more place
  node-err e h = ap (place (node_in (expr_head names s at))) h ∙ placed (expr_head names s at)

  pub node-found : (n : Number) → Ok n ≡ read_of (expr_left true names s at) → expr_more names s at ≡ value n.value n.next
  unfolding expr_left
  node-found n e = read_found (expr_more names s at) n e

  pub node-ok : (n : Number) (first : Read) (d : Node) → Ok n ≡ read_of (expr_left true names s at) → first ≡ read_of (u16 s (at + 1)) → d ≡ named_of (get_or s at 0) n.value first → Ok (record { node = d; next = n.next }) ≡ decoded (expr_head names s at)
  unfolding place expr_left expr_more
  node-ok n first d e h k =
      ap (λ (x : Node). place x (Ok n)) (k ∙ ap (named_of (get_or s at 0) n.value) h ∙ named_in names s at n.value n.next (node-found n e)) ∙
      ap (place (node_in (expr_head names s at))) e ∙ placed (expr_head names s at)
