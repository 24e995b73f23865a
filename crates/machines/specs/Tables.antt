-- Internal: nothing here has to be believed; laws tie it to what docs/TRUSTED.md lists.
-- Tables of 16-bit words by name index: where a name stands, and where the initial state of the last machine of that name is.
use Rattle.std.specs.Prelude.{ℕ, zero, suc, ◌+◌, ◌%◌, List, cond, length, get_or, set, ltb}
use Rattle.wire.specs.Answer.{counted}
use Rattle.wire.specs.Code.{onward}
use Rattle.std.specs.Prelude.{Ok}
use Rattle.wire.specs.Bytes.{word_range}
use Rattle.pack_rules.specs.Names.{Name}
use Rattle.pack_rules.specs.Read.{optional_in, ports_in, state_at}
use Rattle.pack.specs.Verdict.{offset_of}
use Rattle.machines.specs.CheckedReads.{number_in, with}

-- where the next name stands, after its length byte and its bytes
unfoldable pub next_name : List ℕ → ℕ → ℕ
next_name s at = cond (ltb at (length s)) (at + 1 + get_or s at 0) at

-- n names from `at` on, the first of them with the index k
unfoldable pub names_placed : List ℕ → ℕ → ℕ → ℕ → List ℕ → List ℕ
names_placed s zero at k t = t
names_placed s (suc n) at k t = names_placed s n (next_name s at) (k + 1) (set t k (at % word_range))

-- a name's length, by where it stands
unfoldable pub len_of : List ℕ → List ℕ → ℕ → ℕ
len_of s offsets i = get_or s (get_or offsets i 0) 0

module _ (ns : List Name) (s : List ℕ) where
  -- from a machine's owner to its outputs, to its initial state, and from there past its states
  unfoldable pub outputs_in : ℕ → ℕ
  outputs_in at = offset_of (onward (ports_in ns s) (onward (optional_in ns s) (Ok at)))

  unfoldable pub initial_in : ℕ → ℕ
  initial_in at = offset_of (onward (ports_in ns s) (onward (ports_in ns s) (onward (ports_in ns s) (onward (optional_in ns s) (Ok at)))))

  unfoldable pub states_end : ℕ → ℕ
  states_end at = with (number_in s at) λ i p. offset_of (onward (counted (state_at ns s) s) (Ok p))

  -- n machines from `at` on
  unfoldable pub placed_from : ℕ → ℕ → List ℕ → List ℕ
  placed_from zero at t = t
  placed_from (suc n) at t = with (number_in s at) λ i p. placed_from n (states_end (initial_in p)) (set t i (initial_in p % word_range))

  -- the machines whose count stands at `at`
  unfoldable pub machines_placed : ℕ → List ℕ → List ℕ
  machines_placed at t = with (number_in s at) λ n p. placed_from n p t
