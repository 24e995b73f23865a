-- The report: refused definitions in order, each a kind and the names of its error.
use Rattle.std.specs.Prelude.{ℕ, List, [], ◌∷◌, ◌++◌, length}
use Rattle.std.proofs.Math.Option.{Option, none, some}
use Rattle.pack_rules.specs.Names.{Name}
use Rattle.wire.specs.Bytes.{two}
use Rattle.pack_rules.specs.Write.{enc}

-- a refused definition
pub record Refusal : Type 0 where
  pub kind : ℕ
  pub names : List Name

-- the first of two
unfoldable pub first_of : {A : Type 0} → Option A → Option A → Option A
first_of none b = b
first_of (some a) b = some a

-- a refusal, where there is something to refuse
unfoldable pub as_refusal : {A : Type 0} → (A → Refusal) → Option A → Option Refusal
as_refusal f none = none
as_refusal f (some a) = some (f a)

-- a kind byte, and the names, each after its length byte
unfoldable pub entries : List Refusal → List ℕ
entries [] = []
entries (r ∷ rs) = r.kind ∷ (enc r.names ++ entries rs)

-- the report: a count, and the refusals
unfoldable pub report_bytes : List Refusal → List ℕ
report_bytes rs = two (length rs) ++ entries rs
