-- Laws of types: the fields of each tag as the code goes through them, and that heads move forward.
use Rattle.std.proofs.Common.{◌≡◌, ℕ, suc, ◌<◌, ◌≤◌, eqb, List, length, sym, refl, ap, ◌∙◌, arith}
use Rattle.wire.specs.Answer.{below, bind, guard, index, map_a, u32, value}
use Rattle.wire.specs.Code.{Skipped, skip}
use Rattle.wire.proofs.Codes.{skip-map}
use Rattle.pack_rules.specs.Names.{Name}
use Rattle.pack_rules.specs.Read.{type_in}
use Rattle.wire.proofs.Answers.{Fwd, bind-value, byte-ends, byte-value, fwd-index, fwd-map, fwd-value, guard-value, map-bind, map-value, fwd-cond, fwd-u32}
use Rattle.wire.proofs.Preorders.{Moves, fwd-trees, pending, skip-trees}
use Rattle.pack_rules.specs.Forms.{TypeHead, named, plain, sized, type_arity, type_at, type_fields, type_head}
use Rattle.pack.specs.Heads.{type_more}

fwd-fields : (names tag : ℕ) (s : List ℕ) (at : ℕ) → Fwd (length s) at (type_fields names tag s at)
unfolding type_fields
fwd-fields names tag s at =
    fwd-cond (length s) at (eqb tag 12) _ _ (fwd-map (length s) at sized _ (fwd-u32 s at))
    (fwd-cond (length s) at (eqb tag 13) _ _ (fwd-map (length s) at named _ (fwd-index names s at))
    (fwd-value (length s) at _))

pub type_moves : (names : ℕ) → Moves (type_more names)
unfolding type_more type_head below guard bind map_a
type_moves names = record { on = λ s at m p e. (steps s at m p e).0; inside = λ s at m p e. (steps s at m p e).1; ends = λ s at h. rw (byte-ends s at h) }
  where
    steps : (s : List ℕ) (at m p : ℕ) → type_more names s at ≡ value m p → (at < p) × (p ≤ length s)
    steps s at m p e =
        let a = map-value type_arity (type_head names s at) m p e in
        let b = bind-value (below 14 s at) _ a.0 p a.1 in
        let d = byte-value s at b.0 b.1 (guard-value _ at _ b.0 b.1 b.2).0 in
        let f = fwd-fields names b.0 s b.1 a.0 p b.3 in
        let g : p ≤ length s = f.inside (omega arith) in
        (omega arith, g)

pub type-pending : (names : ℕ) (s : List ℕ) (at : ℕ) → skip (type_at names s at) ≡ pending (type_more names) s 1 at
unfolding type_at pending type_more
type-pending names s at = skip-trees type_arity (type_head names) (type_moves names) s (suc (length s)) 1 at (omega arith)

pub type-small : (names : ℕ) (s : List ℕ) (at m p : ℕ) → type_more names s at ≡ value m p → m ≤ 1
unfolding type_more type_arity
type-small names s at m p e = let a = map-value type_arity (type_head names s at) m p e in let h : type_arity a.0 ≤ 1 = below_two a.0 in omega (arith, a.2)
  where
    below_two : (h : TypeHead) → type_arity h ≤ 1
    below_two (plain t) = omega arith
    below_two (sized n) = omega arith
    below_two (named i) = omega arith

pub fwd-type : (names : ℕ) (s : List ℕ) (at : ℕ) → Fwd (length s) at (type_at names s at)
unfolding type_at type_more
fwd-type names s at = fwd-trees type_arity (type_head names) (type_moves names) s (suc (length s)) 1 at (omega arith)

-- a type is skipped by its indexes
pub record Skips (names : ℕ) (s : List ℕ) (at : ℕ) (r : Skipped) : Type 0 where
  pub by_number : r ≡ skip (type_at names s at)
  pub by_names : (ns : List Name) → length ns ≡ names → r ≡ skip (type_in ns s at)

pub type-skips : (names : ℕ) (s : List ℕ) (at : ℕ) (r : Skipped) → r ≡ pending (type_more names) s 1 at → Skips names s at r
unfolding type_in
type-skips names s at r e =
    let g : r ≡ skip (type_at names s at) = e ∙ sym (type-pending names s at) in
    record { by_number = g; by_names = λ ns h. g ∙ ap (λ (n : ℕ). skip (type_at n s at)) (sym h) ∙ sym (skip-map _ (type_at (length ns) s at)) }
