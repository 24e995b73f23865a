-- Internal: nothing here has to be believed; laws tie it to what docs/TRUSTED.md lists.
-- Where the nodes and activations of a pack stand, as the code notes it.
use Rattle.std.specs.Prelude.{ℕ, ◌+◌, ◌%◌, List, get_or, length, replicate}
use Rattle.wire.specs.Bytes.{word_range}
use Rattle.pack_rules.specs.Names.{Name}
use Rattle.machines.specs.OwnersAt.{fill_t, find_t, node_end, nth}
use Rattle.machines.specs.CheckedReads.{number_in, with}
use Rattle.activations.specs.Cells.{put_t}
use Rattle.activations.specs.ChecksAt.{refused_t}
use Rattle.activations.specs.Passes.{pass_t}
use Rattle.activations.specs.Places.{act_end}
use Rattle.activations.specs.ActTable.{judged_t}

-- the nodes, whose count stands at `at`
unfoldable pub place_nodes_t : List Name → List ℕ → ℕ → List ℕ → List ℕ
place_nodes_t ns s at nodes = with (number_in s at) λ n p. fill_t (λ i. nth (node_end ns s) p i % word_range) n 0 nodes

-- the indexes of the names of n nodes; the first node of the name x, n where there is none
unfoldable pub owners_t : List ℕ → List ℕ → ℕ → List ℕ
owners_t s nodes n = fill_t (λ i. (number_in s (get_or nodes i 0)).value) n 0 (replicate n 0)

unfoldable pub named_t : List ℕ → List ℕ → ℕ → ℕ → ℕ
named_t s nodes n x = find_t (owners_t s nodes n) x n 0

-- the row i, of the activation at p among n nodes: refused for its owner until it is judged
unfoldable pub draw_t : ℕ → List ℕ → List ℕ → ℕ → ℕ → ℕ → List ℕ → List ℕ
draw_t names s nodes n i p acts =
    with (number_in s p) λ a q.
    with (number_in s q) λ o e.
    judged_t (put_t (put_t acts i p) (6656 + i) (named_t s nodes n o)) i (refused_t 13 o names) 0

-- the activations, whose count stands at `at`
unfoldable pub place_acts_t : List Name → List ℕ → List ℕ → ℕ → ℕ → List ℕ → List ℕ
place_acts_t ns s nodes n at acts = with (number_in s at) λ m p. pass_t (λ k. draw_t (length ns) s nodes n) (act_end ns s) m 0 p acts
