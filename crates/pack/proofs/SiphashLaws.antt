-- Laws of the code that makes the number of a name: the parts of a round, the turns of its loop, and its end.
use Rattle.std.proofs.Common.{◌≡◌, ℕ, suc, ◌+◌, ◌-◌, ◌*◌, ◌/◌, ◌%◌, ◌^◌, ◌<◌, ◌≤◌, [], ◌∷◌, length, get_or, refl, ap, ◌∙◌, arith}
use lib.ListN.{get_or-eq_default}
use lib.Bits.{bit_xor}
use Rattle.pack_rules.specs.Names.{Name}
use Rattle.pack.specs.declared.siphash.Lanes.{Lanes}
use Rattle.pack.specs.Siphash.{sum, turned, half_round, rounded, mixed, joined, quad_at, lanes_for, hash_from, hash}

-- half a round of a hash, its end, a word more
pub half_is : (h : Lanes) (j k e f t u v : ℕ) → e ≡ (h.a + h.b) % 2 ^ 64 → f ≡ (h.c + h.d) % 2 ^ 64 → t ≡ turned h.b j → u ≡ turned e 32 → v ≡ turned h.d k
    → ◌≡◌ {A = Lanes} (record { a = f; b = bit_xor t e; c = u; d = bit_xor v f }) (half_round h j k)
unfolding half_round sum
half_is h j k e f t u v x y z w r = λ i. record { a = y i; b = bit_xor (z i) (x i); c = (w ∙ ap (λ g. turned g 32) x) i; d = bit_xor (r i) (y i) }

pub joined_is : (h g r : Lanes) → g ≡ rounded (record { a = h.a; b = h.b; c = bit_xor h.c 255; d = h.d }) → r ≡ rounded g → bit_xor (bit_xor (bit_xor r.a r.b) r.c) r.d ≡ joined h
unfolding joined
joined_is h g r e f = ap (λ (x : Lanes). bit_xor (bit_xor (bit_xor x.a x.b) x.c) x.d) (f ∙ ap rounded e)

pub mixed-is : (h r : Lanes) (x y : ℕ) → r ≡ rounded (record { a = h.a; b = h.b; c = h.c; d = bit_xor h.d (x + 4294967296 * y) })
    → ◌≡◌ {A = Lanes} (record { a = bit_xor r.a (x + 4294967296 * y); b = r.b; c = r.c; d = r.d }) (mixed h x y)
unfolding mixed
mixed-is h r x y e = λ i. record { a = bit_xor (e i).a (x + 4294967296 * y); b = (e i).b; c = (e i).c; d = (e i).d }

-- eight bytes more of a hash
pub hash-turn : (n : Name) (h g : Lanes) (i j x y : ℕ) → j ≡ i + 8 → i + 8 < length n → x ≡ quad_at n i → y ≡ quad_at n (i + 4) → g ≡ mixed h x y
    → hash_from ((length n - 1 - j) / 8) g n j ≡ hash_from ((length n - 1 - i) / 8) h n i
unfolding hash_from
hash-turn n h g i j x y d l e f m =
    let z : suc ((length n - 1 - (i + 8)) / 8) ≡ (length n - 1 - i) / 8 = omega arith in
    ap (λ k. hash_from ((length n - 1 - k) / 8) g n k) d
    ∙ ap (λ w. hash_from ((length n - 1 - (i + 8)) / 8) w n (i + 8)) (m ∙ (λ j. mixed h (e j) (f j))) ∙ ap (λ k. hash_from k h n i) z

-- what is computed of two names, as the harness has it to make names that share a head
strongroom-hash : hash (83 ∷ 116 ∷ 114 ∷ 111 ∷ 110 ∷ 103 ∷ 114 ∷ 111 ∷ 111 ∷ 109 ∷ []) ≡ 13997899697041881454
unfolding hash hash_from lanes_for joined mixed rounded half_round sum turned quad_at
strongroom-hash = refl

vault-hash : hash (86 ∷ 97 ∷ 117 ∷ 108 ∷ 116 ∷ []) ≡ 7398859739978200447
unfolding hash hash_from lanes_for joined mixed rounded half_round sum turned quad_at
vault-hash = refl

pub hash-begun : (n : Name) (h : Lanes) → h ≡ lanes_for (length n) → hash_from ((length n - 1 - 0) / 8) h n 0 ≡ hash n
unfolding hash
hash-begun n h e = let z : length n - 1 - 0 ≡ length n - 1 = omega arith in (λ j. hash_from (z j / 8) (e j) n 0)

pub hash-done : (n : Name) (h g : Lanes) (r i p q u v : ℕ) → length n ≤ i + 8 → p ≡ length n - 8 → u ≡ quad_at n p → q ≡ length n - 4 → v ≡ quad_at n q → g ≡ mixed h u v → r ≡ joined g
    → r ≡ hash_from ((length n - 1 - i) / 8) h n i
unfolding hash_from
hash-done n h g r i p q u v l e f e' f' m w =
    let k : 0 ≡ (length n - 1 - i) / 8 = omega arith in
    let z : g ≡ mixed h (quad_at n (length n - 8)) (quad_at n (length n - 4)) = m ∙ (λ j. mixed h ((f ∙ ap (quad_at n) e) j) ((f' ∙ ap (quad_at n) e') j)) in
    w ∙ ap joined z ∙ ap (λ x. hash_from x h n i) k

-- past the end there is nothing
pub quad-end : (n : Name) (i x y z : ℕ) → length n ≤ i + 3 → x ≡ get_or n i 0 → y ≡ get_or n (i + 1) 0 → z ≡ get_or n (i + 2) 0 → x + 256 * y + 65536 * z ≡ quad_at n i
unfolding quad_at
quad-end n i x y z l e f g = let o : get_or n (i + 3) 0 ≡ 0 = get_or-eq_default n 0 l in omega (arith, e, f, g)
