-- Internal: nothing here has to be believed; laws tie it to what docs/TRUSTED.md lists.
-- The code's verdict on bytes, and where a pack's sections stand.
use Rattle.std.specs.Prelude.{◌≡◌, ℕ, cond, List, [], length, replicate, nat_lt, Result, Ok, Err, ⊤}
use Rattle.wire.specs.declared.answer.Stop.TheVariants as st
use Rattle.pack.specs.declared.finish.CallError.{CallError}
use Rattle.pack.specs.declared.finish.CallError.TheVariants as ce
use Rattle.pack.specs.declared.record.Pack.{Pack}
use Rattle.wire.specs.Answer.{Answer, counted, deep, early, illegal, u16, value}
use Rattle.wire.specs.Code.{Skipped, onward, skip}
use Rattle.pack_rules.specs.Limits.{max_bytes}
use Rattle.pack_rules.specs.Names.{Name}
use Rattle.pack_rules.specs.Syntax.{Package}
use Rattle.pack_rules.specs.Read.{Reading, activation_in, bytes_after, deep_at, ends_early, enum_in, illegal_at, machine_in, name_section, node_in, origin_in, too_long, whole}

-- what reading n bytes came to: a whole pack, or why not
unfoldable pub verdict_of : ℕ → Reading → Result ⊤ CallError
verdict_of n too_long = Err ce.TooLong
verdict_of n ends_early = Err (ce.EndsEarly n)
verdict_of n (illegal_at o) = Err (ce.Illegal o)
verdict_of n (deep_at o) = Err (ce.TooDeep o)
verdict_of n (bytes_after o) = Err (ce.BytesAfter o)
verdict_of n (whole p) = Ok tt

-- what reading all sections of n bytes came to
unfoldable pub judged_of : Skipped → ℕ → Result ⊤ CallError
judged_of (Ok q) n = cond (nat_lt q n) (Err (ce.BytesAfter q)) (Ok tt)
judged_of (Err st.Early) n = Err (ce.EndsEarly n)
judged_of (Err (st.Illegal o)) n = Err (ce.Illegal o)
judged_of (Err (st.Deep o)) n = Err (ce.TooDeep o)

-- where reading stands, or 0
unfoldable pub offset_of : Skipped → ℕ
offset_of (Ok q) = q
offset_of (Err e) = 0

-- a number that was read, or 0
unfoldable pub count_of : Answer ℕ → ℕ
count_of (value n q) = n
count_of early = 0
count_of (illegal o) = 0
count_of (deep o) = 0

-- how many names the name section counts, or 0 where not even the count is there
unfoldable pub name_count : List ℕ → ℕ
name_count s = count_of (u16 s 0)

-- the names that were read; where reading stopped, n empty ones, since all that is asked of them is how many they are
unfoldable pub names_or : ℕ → Answer (List Name) → List Name
names_or n (value ns q) = ns
names_or n early = replicate n []
names_or n (illegal o) = replicate n []
names_or n (deep o) = replicate n []

-- where reading stands after each section; what stopped stays stopped
module _ (s : List ℕ) where
  -- the names that the indexes of the sections are read with
  unfoldable pub names_of : List Name
  names_of = names_or (name_count s) (name_section s 0)

  -- after the names
  unfoldable pub past_names : Skipped
  past_names = skip (name_section s 0)

  -- after the enums
  unfoldable pub past_enums : Skipped
  past_enums = onward (counted (enum_in names_of s) s) past_names

  -- after the nodes
  unfoldable pub past_nodes : Skipped
  past_nodes = onward (counted (node_in names_of s) s) past_enums

  -- after the machines
  unfoldable pub past_machines : Skipped
  past_machines = onward (counted (machine_in names_of s) s) past_nodes

  -- after the activations
  unfoldable pub past_activations : Skipped
  past_activations = onward (counted (activation_in names_of s) s) past_machines

  -- after the origins
  unfoldable pub past_origins : Skipped
  past_origins = onward (counted (origin_in names_of s) s) past_activations

  -- the count of names, and where each section ends and the next one begins; 0 where reading stopped before
  unfoldable pub sections_of : Pack
  sections_of = record { names = name_count s; enums = offset_of past_names; nodes = offset_of past_enums; machines = offset_of past_nodes; activations = offset_of past_machines; origins = offset_of past_activations; end = offset_of past_origins }

-- the record of the pack that holds nothing: twelve zero bytes
unfoldable pub empty_record : Pack
empty_record = sections_of (replicate 12 0)

-- the pack record of bytes: more than a pack may have are not looked at
unfoldable pub record_of : List ℕ → Pack
record_of s = cond (nat_lt max_bytes (length s)) empty_record (sections_of s)

-- the package that holds nothing
unfoldable pub empty_package : Package
empty_package = record { names = []; enums = []; nodes = []; machines = []; activations = []; origins = [] }

-- each section of the package stands where the pack record says
pub record SectionsAt (s : List ℕ) (k : Pack) (p : Package) : Type 0 where
  pub count : length p.names ≡ k.names
  pub names : name_section s 0 ≡ value p.names k.enums
  pub enums : counted (enum_in p.names s) s k.enums ≡ value p.enums k.nodes
  pub nodes : counted (node_in p.names s) s k.nodes ≡ value p.nodes k.machines
  pub machines : counted (machine_in p.names s) s k.machines ≡ value p.machines k.activations
  pub activations : counted (activation_in p.names s) s k.activations ≡ value p.activations k.origins
  pub origins : counted (origin_in p.names s) s k.origins ≡ value p.origins k.end
