-- Internal: nothing here has to be believed; laws tie it to what docs/TRUSTED.md lists.
-- The number of a name by which it is found in a table and told apart from others: any function of its bytes would be right, and the
-- better names are spread by it the shorter are the paths. It is SipHash's of a fixed key, which takes eight bytes at a time by one
-- round and ends with two; the last eight bytes of a name come last, of which some may have been there before.
use Rattle.std.specs.Prelude.{ℕ, zero, suc, ◌+◌, ◌-◌, ◌*◌, ◌/◌, ◌%◌, ◌^◌, length, bit_or, bit_xor, slice_index}
use Rattle.wire.specs.Bytes.{word_range}
use Rattle.pack_rules.specs.Names.{Name}
use Rattle.pack.specs.declared.siphash.Lanes.{Lanes}

-- a sum, and a number turned by k bits, in words of 64 bits
unfoldable pub sum : ℕ → ℕ → ℕ
sum x y = (x + y) % 2 ^ 64

-- a word turned by k bits to the left
unfoldable pub turned : ℕ → ℕ → ℕ
turned x k = bit_or (x * 2 ^ k % 2 ^ 64) (x / 2 ^ (64 - k))

-- half a round, after which the lanes a and c have changed places; and a round
unfoldable pub half_round : Lanes → ℕ → ℕ → Lanes
half_round h j k = record { a = sum h.c h.d; b = bit_xor (turned h.b j) (sum h.a h.b); c = turned (sum h.a h.b) 32; d = bit_xor (turned h.d k) (sum h.c h.d) }

-- a whole round
unfoldable pub rounded : Lanes → Lanes
rounded h = half_round (half_round h 13 16) 17 21

-- a word more in the lanes
abbrev pub before : Lanes → ℕ → Lanes
before h m = record { a = h.a; b = h.b; c = h.c; d = bit_xor h.d m }

-- the same word, after the round
abbrev pub after : Lanes → ℕ → Lanes
after h m = record { a = bit_xor h.a m; b = h.b; c = h.c; d = h.d }

-- eight bytes, given as two halves, through one round
unfoldable pub mixed : Lanes → ℕ → ℕ → Lanes
mixed h x y = after (rounded (before h (x + 4294967296 * y))) (x + 4294967296 * y)

-- the bits from lanes that took all of a name
abbrev pub ended : Lanes → Lanes
ended h = rounded (rounded (record { a = h.a; b = h.b; c = bit_xor h.c 255; d = h.d }))

-- the four lanes as one number
unfoldable pub joined : Lanes → ℕ
joined h = bit_xor (bit_xor (bit_xor (ended h).a (ended h).b) (ended h).c) (ended h).d

-- four bytes of a name from i on as one number, lowest first; those past its end are 0
unfoldable pub quad_at : Name → ℕ → ℕ
quad_at n i = slice_index n i + 256 * slice_index n (i + 1) + word_range * slice_index n (i + 2) + 16777216 * slice_index n (i + 3)

-- the bits of a name with so many times eight bytes from i on before its last, from the lanes of what stands before
unfoldable pub hash_from : ℕ → Lanes → Name → ℕ → ℕ
hash_from zero h n i = joined (mixed h (quad_at n (length n - 8)) (quad_at n (length n - 4)))
hash_from (suc k) h n i = hash_from k (mixed h (quad_at n i) (quad_at n (i + 4))) n (i + 8)

-- the lanes before a name of so many bytes: SipHash's own of the key 0, and the length
unfoldable pub lanes_for : ℕ → Lanes
lanes_for l = record { a = 8317987319222330741; b = 7237128888997146477; c = 7816392313619706465; d = bit_xor 8387220255154660723 l }

-- the bits of a name
unfoldable pub hash : Name → ℕ
hash n = hash_from ((length n - 1) / 8) (lanes_for (length n)) n 0
