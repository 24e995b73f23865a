-- Laws of expressions: the fields of each tag as the code goes through them, that heads move forward, and how many expressions stand under one.
use Rattle.std.proofs.Common.{◌≡◌, ℕ, zero, suc, ◌+◌, ◌-◌, ◌*◌, ◌<◌, ◌≤◌, Bool, true, false, eqb, List, [], ◌∷◌, length, get_or, sym, refl, ap, ◌∙◌, arith, ltb-true, ne_eqb}
use lib.ListN.{get_or-eq_default}
use Rattle.std.specs.Prelude.{Ok, Err}
use Rattle.wire.specs.declared.answer.Stop.{Stop}
use Rattle.wire.specs.declared.answer.Stop.TheVariants.{Illegal}
use Rattle.wire.specs.declared.answer.Number.{Number}
use Rattle.wire.specs.Answer.{Answer, below, bind, byte, deep, early, guard, illegal, index, many, map_a, u16, u64, value}
use Rattle.wire.specs.Code.{Read, Skipped, read_of, skip}
use Rattle.wire.proofs.Codes.{read_found, skip_found, skip-map}
use Rattle.pack_rules.specs.Names.{Name}
use Rattle.pack_rules.specs.Read.{expr_in}
use Rattle.wire.proofs.Answers.{Fwd, bind-value, byte-ends, byte-value, fwd-below, fwd-bind, fwd-index, fwd-many, fwd-map, fwd-u16, fwd-u64, fwd-value, guard-value, many-length, map-map, map-value, u16-value, fwd-cond, fwd-byte}
use Rattle.wire.proofs.Preorders.{Moves, pending, pending-err, pending-none, pending-ok, skip-trees}
use Rattle.pack_rules.specs.Forms.{ExprHead, call, call_fields, expr_arity, expr_at, expr_fields, expr_head, expr_rows, flag_of, iterate, iterate_fields, literal, literal_of, sample, struct, struct_fields, when_fields}
use Rattle.pack.proofs.TypeLaws.{fwd-type}
use Rattle.pack_rules.specs.Syntax.{l_bool, l_char, l_float, l_int}
use Rattle.pack.specs.Heads.{expr_left, expr_more}

-- a struct has as many expressions under it as field names
pub struct-ok : (names : ℕ) (s : List ℕ) (at : ℕ) (i n : Number) (q : ℕ) → Ok i ≡ read_of (index names s at) → Ok n ≡ read_of (u16 s i.next) → Ok q ≡ skip (many (index names s) n.value n.next) → Ok (record { value = n.value; next = q }) ≡ read_of (map_a expr_arity (struct_fields names s at))
unfolding struct_fields expr_arity read_of map_a bind
struct-ok names s at i n q e g h =
    let a = read_found (index names s at) i e in
    let b = read_found (u16 s i.next) n g in
    let d = skip_found (many (index names s) n.value n.next) q h in
    let l = many-length (index names s) n.value n.next d.0 q d.1 in
    rw (a, b, d.1) (ap (λ (k : ℕ). Ok (record { value = k; next = q })) (sym l))

-- the row of a tag
pub row : (names tag k : ℕ) (s : List ℕ) (at : ℕ) (r : Read) → tag ≡ k → r ≡ read_of (map_a expr_arity (get_or (expr_rows names s at) k (illegal at))) → r ≡ read_of (map_a expr_arity (expr_fields names tag s at))
unfolding expr_fields
row names tag k s at r e h = rw e h

pub row-none : (names tag : ℕ) (s : List ℕ) (at : ℕ) → 17 ≤ tag → Err (Illegal at) ≡ read_of (map_a expr_arity (expr_fields names tag s at))
unfolding expr_fields expr_rows read_of map_a
row-none names tag s at h = rw (get_or-eq_default (expr_rows names s at) (illegal at) h)

-- a number that is at least k and is not k: `omega` takes at most 6 such facts at once, so a `match` of more arms goes by this step
pub step : (k n : ℕ) → k ≤ n → (n ≡ k → ⊥) → k + 1 ≤ n
step k n h d = omega arith

-- what holds of every row holds of the row of any tag
unfoldable Each : {A : Type 0} → (Answer A → Type 0) → List (Answer A) → Type 0
Each P [] = Unit {0}
Each P (a ∷ l) = P a × Each P l

each_at_lem : {A : Type 0} (P : Answer A → Type 0) (l : List (Answer A)) (k : ℕ) (d : Answer A) → Each P l → P d → P (get_or l k d)
unfolding Each
each_at_lem P [] k d e h = h
each_at_lem P (a ∷ l) zero d e h = e.0
each_at_lem P (a ∷ l) (suc k) d e h = each_at_lem P l k d e.1 h

module _ (names : ℕ) (s : List ℕ) where
  fwd-literal : (at : ℕ) → Fwd (length s) at (literal s at)
  unfolding literal literal_of
  fwd-literal at =
      fwd-bind (length s) at (below 4 s at) _ (fwd-below 4 s at) (λ tag p.
      fwd-cond (length s) p (eqb tag 0) _ _ (fwd-map (length s) p _ _ (fwd-below 2 s p))
      (fwd-cond (length s) p (eqb tag 1) _ _ (fwd-map (length s) p _ _ (fwd-u64 s p))
      (fwd-cond (length s) p (eqb tag 2) _ _ (fwd-map (length s) p _ _ (fwd-u64 s p))
      (fwd-map (length s) p _ _ (fwd-byte s p)))))

  fwd-call : (at : ℕ) → Fwd (length s) at (call_fields names s at)
  unfolding call_fields
  fwd-call at = fwd-bind (length s) at _ _ (fwd-index names s at) (λ i p. fwd-map (length s) p _ _ (fwd-u16 s p))

  fwd-struct : (at : ℕ) → Fwd (length s) at (struct_fields names s at)
  unfolding struct_fields
  fwd-struct at = fwd-bind (length s) at _ _ (fwd-index names s at) (λ i p. fwd-bind (length s) p _ _ (fwd-u16 s p) (λ n q. fwd-map (length s) q _ _ (fwd-many (length s) _ (fwd-index names s) n q)))

  fwd-when : (at : ℕ) → Fwd (length s) at (when_fields names s at)
  unfolding when_fields
  fwd-when at = fwd-bind (length s) at _ _ (fwd-index names s at) (λ i p. fwd-map (length s) p _ _ (fwd-below 2 s p))

  fwd-iterate : (at : ℕ) → Fwd (length s) at (iterate_fields names s at)
  unfolding iterate_fields
  fwd-iterate at =
      fwd-bind (length s) at _ _ (fwd-below 2 s at) (λ k p.
      fwd-bind (length s) p _ _ (fwd-index names s p) (λ i q.
      fwd-bind (length s) q _ _ (fwd-below 2 s q) (λ b o. fwd-map (length s) o _ _ (fwd-u16 s o))))

  fwd-rows : (at : ℕ) → Each (Fwd (length s) at) (expr_rows names s at)
  unfolding Each expr_rows
  fwd-rows at =
      let n = length s in (
        fwd-map n at _ _ (fwd-literal at),
        (
          fwd-map n at _ _ (fwd-index names s at),
          (
            fwd-map n at _ _ (fwd-below 2 s at),
            (
              fwd-map n at _ _ (fwd-below 20 s at),
              (
                fwd-value n at _,
                (
                  fwd-value n at _,
                  (
                    fwd-value n at _,
                    (
                      fwd-call at,
                      (
                        fwd-map n at _ _ (fwd-index names s at),
                        (
                          fwd-value n at _,
                          (
                            fwd-map n at _ _ (fwd-u16 s at),
                            (
                              fwd-map n at _ _ (fwd-u16 s at),
                              (
                                fwd-struct at,
                                (
                                  fwd-map n at _ _ (fwd-type names s at),
                                  (
                                    fwd-when at,
                                    (
                                      fwd-map n at _ _ (fwd-index names s at),
                                      (fwd-iterate at, tt),
                                    ),
                                  ),
                                ),
                              ),
                            ),
                          ),
                        ),
                      ),
                    ),
                  ),
                ),
              ),
            ),
          ),
        ),
      )

  fwd-fields : (tag at : ℕ) → Fwd (length s) at (expr_fields names tag s at)
  unfolding expr_fields
  fwd-fields tag at = each_at_lem (Fwd (length s) at) (expr_rows names s at) tag (illegal at) (fwd-rows at) (λ x q e. let z : ◌≡◌ {A = ℕ} 0 1 = cc in absurd (omega arith))

pub expr_moves : (names : ℕ) → Moves (expr_more names)
unfolding expr_more expr_head below guard bind map_a
expr_moves names = record { on = λ s at m p e. (steps s at m p e).0; inside = λ s at m p e. (steps s at m p e).1; ends = λ s at h. rw (byte-ends s at h) }
  where
    steps : (s : List ℕ) (at m p : ℕ) → expr_more names s at ≡ value m p → (at < p) × (p ≤ length s)
    steps s at m p e =
        let a = map-value expr_arity (expr_head names s at) m p e in
        let b = bind-value (below 17 s at) _ a.0 p a.1 in
        let d = byte-value s at b.0 b.1 (guard-value _ at _ b.0 b.1 b.2).0 in
        let f = fwd-fields names s b.0 b.1 a.0 p b.3 in
        let g : p ≤ length s = f.inside (omega arith) in
        (omega arith, g)

pub expr-pending : (names : ℕ) (s : List ℕ) (at : ℕ) → skip (expr_at names s at) ≡ pending (expr_more names) s 1 at
unfolding expr_at pending expr_more
expr-pending names s at = skip-trees expr_arity (expr_head names) (expr_moves names) s (suc (length s)) 1 at (omega arith)

-- a head has at most 65536 expressions under it
module _ (names : ℕ) (s : List ℕ) (bytes : (i : ℕ) → get_or s i 0 < 256) where
  abbrev Few : Answer ExprHead → Type 0
  Few a = (x : ExprHead) (q : ℕ) → a ≡ value x q → expr_arity x ≤ 65536

  few-map : {A : Type 0} (f : A → ExprHead) (a : Answer A) → ((x : A) → expr_arity (f x) ≤ 65536) → Few (map_a f a)
  few-map f a h x q e = let m = map-value f a x q e in let l : expr_arity (f m.0) ≤ 65536 = h m.0 in let g = ap expr_arity m.2 in omega arith

  few-u16 : (f : ℕ → ExprHead) (at k : ℕ) → k ≤ 1 → ((x : ℕ) → expr_arity (f x) ≡ k + x) → Few (map_a f (u16 s at))
  few-u16 f at k l h x q e =
      let m = map-value f (u16 s at) x q e in
      let p = u16-value s at m.0 q m.1 in
      let g = ap expr_arity m.2 in
      omega (arith, h m.0, bytes at, bytes (at + 1))

  few-bind : (a : Answer ℕ) (k : ℕ → ℕ → Answer ExprHead) → ((x q : ℕ) → a ≡ value x q → Few (k x q)) → Few (bind a k)
  few-bind a k h x q e = let b = bind-value a k x q e in h b.0 b.1 b.2 x q b.3

  few-value : (x : ExprHead) (at : ℕ) → expr_arity x ≤ 65536 → Few (value x at)
  few-value x at h y q e = let g : x ≡ y = cc in let i = ap expr_arity g in omega arith

  few-struct : (at : ℕ) → Few (struct_fields names s at)
  unfolding struct_fields expr_arity
  few-struct at =
      few-bind (index names s at) _ (λ i p e. few-bind (u16 s p) _ (λ n q d x r f.
      let m = map-value (struct i) (many (index names s) n q) x r f in
      let l = many-length (index names s) n q m.0 r m.1 in
      let g = ap expr_arity m.2 in
      let u = u16-value s p n q d in
      omega (arith, bytes p, bytes (p + 1))))

  few-iterate : (at : ℕ) → Few (iterate_fields names s at)
  unfolding iterate_fields below expr_arity
  few-iterate at =
      few-bind (below 2 s at) _ (λ k p e. few-bind (index names s p) _ (λ i q d. few-bind (below 2 s q) _ (λ b o g.
      let l : b < 2 = ltb-true b 2 (guard-value _ q _ b o g).1 in
      few-u16 (iterate k i b) o b (omega arith) (λ x. refl))))

  few-rows : (at : ℕ) → Each Few (expr_rows names s at)
  unfolding Each expr_rows expr_arity call_fields when_fields
  few-rows at = (
    few-map _ _ (λ x. omega arith),
    (
      few-map _ _ (λ x. omega arith),
      (
        few-map _ _ (λ x. omega arith),
        (
          few-map _ _ (λ x. omega arith),
          (
            few-value _ _ (omega arith),
            (
              few-value _ _ (omega arith),
              (
                few-value _ _ (omega arith),
                (
                  few-bind (index names s at) _ (λ i p e. few-u16 _ p 0 (omega arith) (λ x. omega arith)),
                  (
                    few-map _ _ (λ x. omega arith),
                    (
                      few-value _ _ (omega arith),
                      (
                        few-u16 _ at 0 (omega arith) (λ x. omega arith),
                        (
                          few-u16 _ at 0 (omega arith) (λ x. omega arith),
                          (
                            few-struct at,
                            (
                              few-map _ _ (λ x. omega arith),
                              (
                                few-bind (index names s at) _ (λ i p e. few-map _ _ (λ x. omega arith)),
                                (
                                  few-map _ _ (λ x. omega arith),
                                  (few-iterate at, tt),
                                ),
                              ),
                            ),
                          ),
                        ),
                      ),
                    ),
                  ),
                ),
              ),
            ),
          ),
        ),
      ),
    ),
  )

  pub expr-small : (at m p : ℕ) → expr_more names s at ≡ value m p → m ≤ 65536
  unfolding expr_more expr_head expr_fields
  expr-small at m p e =
      let a = map-value expr_arity (expr_head names s at) m p e in
      let b = bind-value (below 17 s at) _ a.0 p a.1 in
      let l : expr_arity a.0 ≤ 65536 = each_at_lem Few (expr_rows names s b.1) b.0 (illegal b.1) (few-rows b.1) (λ x q e. let z : ◌≡◌ {A = ℕ} 0 1 = cc in absurd (omega arith)) a.0 p b.3 in
      omega (arith, a.2)

-- the loop over nodes: what is pending from here is what was pending at the start, and where one node is read it is the first
pub record Going (one : Bool) (names : ℕ) (s : List ℕ) (at n p : ℕ) : Type 0 where
  pub same : pending (expr_more names) s n p ≡ pending (expr_more names) s 1 at
  pub few : n ≤ 1 + 65536 * p
  pub first : one ≡ true → (n ≡ 1) × (p ≡ at)

-- no expression is left where all was read
unfoldable pub none_left : Skipped → Read
none_left (Ok q) = Ok (record { value = 0; next = q })
none_left (Err e) = Err e

none-left : {T : Type 0} (a : Answer T) → none_left (skip a) ≡ read_of (map_a (λ t. 0) a)
unfolding none_left skip read_of map_a
none-left (value t q) = refl
none-left early = refl
none-left (illegal o) = refl
none-left (deep o) = refl

module _ (names : ℕ) (s : List ℕ) (at : ℕ) where
  pub nodes-begin : (one : Bool) → Going one names s at 1 at
  nodes-begin one = record { same = refl; few = omega arith; first = λ e. (refl, refl) }

  -- one node was read
  pub nodes-first : (one : Bool) (n p : ℕ) (r : Read) → one ≡ true → Going one names s at n p → r ≡ read_of (expr_more names s p) → r ≡ read_of (expr_left one names s at)
  unfolding expr_left
  nodes-first one n p r t g e = e ∙ ap (λ (q : ℕ). read_of (expr_more names s q)) (g.first t).1 ∙ ap (λ (b : Bool). read_of (expr_left b names s at)) (sym t)

  -- all nodes were read, as far as they can be
  pub nodes-all : (r : Read) (z : Skipped) → skip (expr_at names s at) ≡ z → r ≡ none_left z → r ≡ read_of (expr_left false names s at)
  unfolding expr_left
  nodes-all r z e f = f ∙ ap none_left (sym e) ∙ none-left (expr_at names s at)

  pub nodes-err : (one : Bool) (n p : ℕ) (e : Stop) → 0 < n → Going one names s at n p → Err e ≡ read_of (expr_more names s p) → Err e ≡ read_of (expr_left one names s at)
  unfolding none_left
  nodes-err true n p e l g h = nodes-first true n p (Err e) refl g h
  nodes-err false n p e l g h = nodes-all (Err e) (Err e) (expr-pending names s at ∙ sym (pending-err (expr_more names) (expr_moves names) s n p e _ l h g.same)) refl

  pub nodes-went : (one : Bool) (n p : ℕ) (h : Number) → ((i : ℕ) → get_or s i 0 < 256) → one ≡ false → 0 < n → Going one names s at n p → Ok h ≡ read_of (expr_more names s p) → Going one names s at (n - 1 + h.value) h.next
  nodes-went one n p h b f l g e =
      let v = read_found (expr_more names s p) h e in
      record {
        same = pending-ok (expr_more names) (expr_moves names) s n p h _ l e g.same;
        few = omega (arith, g.few, expr-small names s b p h.value h.next v, (expr_moves names).on s p h.value h.next v);
        first = λ t. let z : false ≡ true = sym f ∙ t in let i : ◌≡◌ {A = ℕ} 0 1 = cc in absurd (omega arith);
      }

  pub nodes-done : (one : Bool) (n p : ℕ) → n ≤ 0 → Going one names s at n p → Ok (record { value = 0; next = p }) ≡ read_of (expr_left one names s at)
  unfolding none_left
  nodes-done true n p l g = absurd (omega (arith, (g.first refl).0))
  nodes-done false n p l g =
      let e : 0 ≡ n = omega arith in
      nodes-all _ (Ok p) (expr-pending names s at ∙ sym (sym (pending-none (expr_more names) (expr_moves names) s p) ∙ ap (λ (k : ℕ). pending (expr_more names) s k p) e ∙ g.same)) refl

-- an expression is skipped by its indexes
pub record Skips (names : ℕ) (s : List ℕ) (at : ℕ) (r : Skipped) : Type 0 where
  pub by_number : r ≡ skip (expr_at names s at)
  pub by_names : (ns : List Name) → length ns ≡ names → r ≡ skip (expr_in ns s at)

pub expr-skips : (names : ℕ) (s : List ℕ) (at : ℕ) (r : Skipped) → r ≡ skip {A = ℕ} (map_a (λ t. 0) (expr_at names s at)) → Skips names s at r
unfolding expr_in
expr-skips names s at r e =
    let g : r ≡ skip (expr_at names s at) = e ∙ skip-map _ (expr_at names s at) in
    record { by_number = g; by_names = λ ns h. g ∙ ap (λ (n : ℕ). skip (expr_at n s at)) (sym h) ∙ sym (skip-map _ (expr_at (length ns) s at)) }
