-- Internal: nothing here has to be believed; laws tie it to what docs/TRUSTED.md lists.
-- The table of a pack's activations, a row for each in six columns of 6,656 words: where it stands, its node, what is refused of it
-- (kind and two names), how many locals it makes.
use Rattle.std.specs.Prelude.{ℕ, ◌+◌, List, get_or}
use Rattle.activations.specs.declared.checks.Refused.{Refused}
use Rattle.activations.specs.Cells.{put_t}
use Rattle.activations.specs.ChecksAt.{refused_t}

-- where the activation i stands
unfoldable pub spot_t : List ℕ → ℕ → ℕ
spot_t acts i = get_or acts i 0

-- the index of the node that it goes to
unfoldable pub goal_t : List ℕ → ℕ → ℕ
goal_t acts i = get_or acts (6656 + i) 0

-- what is refused of it
unfoldable pub refusal_t : List ℕ → ℕ → Refused
refusal_t acts i = refused_t (get_or acts (13312 + i) 0) (get_or acts (19968 + i) 0) (get_or acts (26624 + i) 0)

-- how many locals it makes
unfoldable pub made_t : List ℕ → ℕ → ℕ
made_t acts i = get_or acts (33280 + i) 0

-- the row i once it is judged
unfoldable pub judged_t : List ℕ → ℕ → Refused → ℕ → List ℕ
judged_t acts i r n = put_t (put_t (put_t (put_t acts (13312 + i) r.kind) (19968 + i) r.second) (26624 + i) r.third) (33280 + i) n
