-- Internal: nothing here has to be believed; laws tie it to what docs/TRUSTED.md lists.
-- What holds of a pack that was read, of the tables of its names and of what is known of it as a whole; and the scratch that an
-- activation is begun with.
use Rattle.std.specs.Prelude.{ℕ, ◌+◌, ◌<◌, ◌≤◌, List, ◌≡◌, length}
use Rattle.wire.specs.Answer.{counted, value}
use Rattle.wire.specs.Bytes.{word_range}
use Rattle.pack_rules.specs.Names.{Name}
use Rattle.pack_rules.specs.Syntax.{Activation, Enum, Node}
use Rattle.pack_rules.specs.Read.{activation_in, enum_in}
use Rattle.pack_rules.specs.Limits.{max_bytes}
use Rattle.machines.specs.TableMeaning.{PackOf}
use Rattle.activations.specs.declared.pack_info.PackInfo.{PackInfo}
use Rattle.activations.specs.declared.parts.Act.{Act}
use Rattle.activations.specs.Lookups.{MadeIs}
use Rattle.activations.specs.Places.{act_at}
use Rattle.activation_rules.specs.Types.{last_typed, variables}
use Rattle.activations.specs.Walks.{LastIs}
use Rattle.activations.specs.TypesAt.{TypesAre}
use Rattle.activations.specs.FirstVariantsAt.{FirstsAre}

-- the names ns, the enums es
pub record Basis (ns : List Name) (es : List Enum) (old s offsets : List ℕ) (b : PackInfo) : Type 0 where
  pub pack : PackOf ns s old offsets
  pub short : length s ≤ max_bytes
  pub few : length ns + length ns < word_range
  pub names : b.names ≡ length ns
  pub last : LastIs ns b.last
  pub made : MadeIs ns b.made
  pub to : ℕ
  pub enums : counted (enum_in ns s) s b.enums ≡ value es to
  pub firsts : FirstsAre ns s b.enums offsets

-- the activation A was read there, and its parts are those of `act`
pub record ReadAt (ns : List Name) (s : List ℕ) (at : ℕ) (A : Activation) (act : Act) : Type 0 where
  pub end : ℕ
  pub read : activation_in ns s at ≡ value A end
  pub parts : act ≡ act_at ns s at

-- the table has the types of the node's variables
unfoldable pub Types : List Name → List ℕ → Node → List ℕ → Type 0
Types ns s n later = TypesAre ns s later (last_typed (variables n))

-- the tables are as long as a pack asks: two words a name, three for each of 8,192 rows, one for each name that is read
pub record Scratch (later env outs lasts reads sampled : List ℕ) : Type 0 where
  pub for_types : 32768 ≤ length later
  pub for_numbers : length env ≡ word_range
  pub for_outputs : 32768 ≤ length outs
  pub for_rows : 24576 ≤ length lasts
  pub for_reads : 21848 ≤ length reads
  pub for_seen : 21848 ≤ length sampled
