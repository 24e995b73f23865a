-- What is kept of enums is what a search through all of them finds.
use Prim.Native.Nat.{ℕ, zero, suc, ◌+◌, ◌-◌, ◌%◌, ◌<◌, ◌≤◌}
use native.Mathlib.Omega.{arith}
use mathlib.Core.List.{List, [], ◌∷◌}
use mathlib.Core.Bool.{Bool, true, false, cond}
use mathlib.Core.Path.{◌≡◌, refl, sym, ap, subst, ◌∙◌}
use lib.ListN.{get_or, length, set}
use lib.Seq.{get_or-set_other}
use lib.Dec.{eqb}
use borrow.Author.Tests.{eqb-false, eqb-true, ne_eqb}
use Rattle.wire.specs.Answer.{counted, many, value}
use Rattle.pack_rules.specs.Names.{Name}
use Rattle.pack_rules.specs.Syntax.{Enum}
use Rattle.pack_rules.specs.Read.{enum_in, name_in}
use Rattle.machines.specs.CheckedReads.{number_in, with}
use Rattle.machines.specs.Tables.{names_placed, next_name}
use Rattle.machines.proofs.Reading.{many-cut, many_more, many-over, name-number}
use Rattle.machines.proofs.CheckedReadLaws.{number-num, number-to}
use Rattle.std.specs.Prelude.{Option as Maybe, Some, None}
use Rattle.activations.specs.declared.types.TypeDefault.{TypeDefault}
use Rattle.activations.specs.declared.types.TypeDefault.TheVariants as sr
use Rattle.activations.specs.Cells.{put_t}
use Rattle.activations.specs.Places.{each_of}
use Rattle.activations.specs.TypesAt.{default_word, enum_end, first_variant_t, variant_at, variant_or}
use Rattle.activations.specs.FirstVariantsAt.{FirstsAre, first_t, firsts_t, kept_t}
use Rattle.activations.proofs.ActRead.{counted-value}
use Rattle.activations.proofs.RowsNoted.{put-length, put_other, put_same}
use Rattle.activations.proofs.Starts.{enum-read}

word-zero : (c : ℕ) → c ≡ 0 → default_word c ≡ None
unfolding default_word
word-zero c e = rw e

word_more : (v : ℕ) → default_word (v + 1) ≡ (Some (sr.Name v))
unfolding default_word
word_more v = rw (ne_eqb (v + 1) 0 (λ e. omega arith)) (ap (λ y. Some (sr.Name y)) (let e : v + 1 - 1 ≡ v = omega arith in e))

kept-length : (s : List ℕ) (i k p : ℕ) (t : List ℕ) → length (kept_t s i k p t) ≡ length t
unfolding kept_t
kept-length s i k p t = go (eqb k 0)
  where
    go : (b : Bool) → length (cond b t (put_t t (32768 + i) ((number_in s p).value + 1))) ≡ length t
    go true = refl
    go false = put-length t (32768 + i) ((number_in s p).value + 1)

first-length : (s : List ℕ) (p : ℕ) (t : List ℕ) → length (first_t s p t) ≡ length t
unfolding first_t with
first-length s p t = let i = number_in s p in let k = number_in s i.next in kept-length s i.value k.value k.next t

each-length : (ns : List Name) (s : List ℕ) (n p : ℕ) (t : List ℕ) → length (each_of (first_t s) (enum_end ns s) n p t) ≡ length t
unfolding each_of
each-length ns s zero p t = refl
each-length ns s (suc n) p t = each-length ns s n (enum_end ns s p) (first_t s p t) ∙ first-length s p t

pub firsts-length : (ns : List Name) (s : List ℕ) (enums : ℕ) (t : List ℕ) → length (firsts_t ns s enums t) ≡ length t
unfolding firsts_t with
firsts-length ns s enums t = each-length ns s (number_in s enums).value (number_in s enums).next t

module _ (ns : List Name) (few : length ns + length ns < 65536) (s : List ℕ) (x : ℕ) (near : x < 17408) where
  -- the word of x and what was found so far
  abbrev Says : List ℕ → Maybe TypeDefault → Type 0
  Says t r = default_word (get_or t (32768 + x) 0) ≡ r

  -- a variant kept for the name of index i
  put-says : (i v : ℕ) (t : List ℕ) (r : Maybe TypeDefault) → v < length ns → 50176 ≤ length t → Says t r → Says (put_t t (32768 + i) (v + 1)) (cond (eqb i x) (Some (sr.Name v)) r)
  put-says i v t r l m h = go (eqb i x) refl
    where
      go : (b : Bool) → eqb i x ≡ b → Says (put_t t (32768 + i) (v + 1)) (cond b (Some (sr.Name v)) r)
      go true e =
          let w : i ≡ x = eqb-true i x e in
          ap (λ y. default_word (get_or (put_t t (32768 + y) (v + 1)) (32768 + x) 0)) w ∙ ap default_word (put_same t (32768 + x) (v + 1) (omega arith) (omega arith)) ∙ word_more v
      go false e = ap default_word (put_other t (32768 + i) (v + 1) (32768 + x) (λ w. eqb-false i x e (omega arith))) ∙ h

  -- the first of the variants of an enum of the name of index i
  variants-say : (i at q : ℕ) (vs : List Name) (t : List ℕ) (r : Maybe TypeDefault) → many (name_in ns s) (length vs) at ≡ value vs q → 50176 ≤ length t → Says t r → Says (kept_t s i (length vs) at t) (cond (eqb i x) (variant_or s (length vs) at r) r)
  unfolding kept_t variant_or
  variants-say i at q [] t r e m h = h ∙ go (eqb i x)
    where
      go : (b : Bool) → r ≡ cond b r r
      go true = refl
      go false = refl
  variants-say i at q (v ∷ vs) t r e m h =
      let a = many_more (name_in ns s) (length vs) at v vs q e in
      let n = name-number ns s at v a.0 a.1 in
      let g : (number_in s at).value ≡ n.i = ap (λ y. y.value) (number-num s at n.i a.0 n.is) in
      rw (ne_eqb (suc (length vs)) 0 (λ z. omega arith)) (put-says i (number_in s at).value t r (subst (λ y. y < length ns) (sym g) n.small) m h)

  enum-says : (p : ℕ) (e : Enum) (q : ℕ) (t : List ℕ) (r : Maybe TypeDefault) → enum_in ns s p ≡ value e q → 50176 ≤ length t → Says t r → Says (first_t s p t) (variant_at s x p r)
  unfolding first_t variant_at
  enum-says p e q t r d m h =
      let k = enum-read ns s p e q d in
      let n = length e.variants in
      let f : first_t s p t ≡ kept_t s k.i n k.b t =
      number-to s p k.i k.to (λ i q. with (number_in s q) λ j v. kept_t s i j v t) k.is ∙ number-to s k.to n k.b (λ j v. kept_t s k.i j v t) k.count in
      let g : variant_at s x p r ≡ cond (eqb k.i x) (variant_or s n k.b r) r =
      number-to s p k.i k.to (λ i q. with (number_in s q) λ j v. cond (eqb i x) (variant_or s j v r) r) k.is ∙ number-to s k.to n k.b (λ j v. cond (eqb k.i x) (variant_or s j v r) r) k.count in
      ap (λ y. default_word (get_or y (32768 + x) 0)) f ∙ variants-say k.i k.b q e.variants t r k.variants m h ∙ sym g

  enums-say : (n p : ℕ) (es : List Enum) (q : ℕ) (t : List ℕ) (r : Maybe TypeDefault) → many (enum_in ns s) n p ≡ value es q → 50176 ≤ length t → Says t r → Says (each_of (first_t s) (enum_end ns s) n p t) (each_of (variant_at s x) (enum_end ns s) n p r)
  unfolding each_of
  enums-say zero p [] q t r d m h = h
  enums-say zero p (e ∷ es) q t r d m h = absurd (many-cut (enum_in ns s) p e es q d)
  enums-say (suc n) p [] q t r d m h = absurd (many-over (enum_in ns s) n p q d)
  enums-say (suc n) p (e ∷ es) q t r d m h =
      let a = many_more (enum_in ns s) n p e es q d in
      let k = enum-read ns s p e a.0 a.1 in
      let l = first-length s p t in
      enums-say n (enum_end ns s p) es q (first_t s p t) (variant_at s x p r) (ap (many (enum_in ns s) n) k.over ∙ a.2) (omega arith) (enum-says p e a.0 t r a.1 m h)

-- names put into their places leave what comes after
placed-after : (s : List ℕ) (n at k : ℕ) (t : List ℕ) (j : ℕ) → k + n ≤ j → get_or (names_placed s n at k t) j 0 ≡ get_or t j 0
unfolding names_placed
placed-after s zero at k t j l = refl
placed-after s (suc n) at k t j l = placed-after s n (next_name s at) (k + 1) (set t k (at % 65536)) j (omega arith) ∙ get_or-set_other t k j (at % 65536) 0 (λ e. omega arith)

-- THE LINK: what is kept of the enums of a pack that was read, once its names have their places
pub firsts-kept : (ns : List Name) → length ns + length ns < 65536 → (s : List ℕ) (enums : ℕ) (es : List Enum) (q : ℕ) → counted (enum_in ns s) s enums ≡ value es q
    → (names : ℕ) → names ≤ 32768 → (t : List ℕ) → 50176 ≤ length t → ((x : ℕ) → get_or t (32768 + x) 0 ≡ 0) → FirstsAre ns s enums (names_placed s names 2 0 (firsts_t ns s enums t))
unfolding FirstsAre firsts_t first_variant_t
firsts-kept ns few s enums es q d names low t m bare x l =
    let a = counted-value (enum_in ns s) s enums es q d in
    let n = length es in
    ap default_word (placed-after s names 2 0 (firsts_t ns s enums t) (32768 + x) (omega arith))
    ∙ ap (λ y. default_word (get_or y (32768 + x) 0)) (number-to s enums n a.0 (λ n p. each_of (first_t s) (enum_end ns s) n p t) a.1)
    ∙ enums-say ns few s x l n a.0 es q t None a.2 m (word-zero (get_or t (32768 + x) 0) (bare x))
    ∙ sym (number-to s enums n a.0 (λ n p. each_of (variant_at s x) (enum_end ns s) n p None) a.1)
