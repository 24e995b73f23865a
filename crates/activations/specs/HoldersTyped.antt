-- Internal: nothing here has to be believed; laws tie it to what docs/TRUSTED.md lists.
-- What the tables hold once holders are known.
use Rattle.std.specs.Prelude.{ℕ, ◌<◌, List, ◌++◌, ◌≡◌, get_or, length}
use Rattle.pack_rules.specs.Names.{Name}
use Rattle.pack_rules.specs.Report.{Refusal}
use Rattle.pack_rules.specs.Syntax.{Equation, Port}
use Rattle.pack_rules.specs.Forms.{name_at}
use Rattle.activation_rules.specs.Refusals.{last_needs_init, last_unknown}
use Rattle.activation_rules.specs.MadeNames.{last_var}
use Rattle.activation_rules.specs.Types.{last_typed}
use Rattle.activation_rules.specs.Sought.{Sought}
use Rattle.activation_rules.specs.Holders.{Holding, holders_made, refused}
use Rattle.activations.specs.Ids.{holder_id}
use Rattle.activations.specs.TypesAt.{Coded, TypesAre}
use Rattle.activations.specs.LastsAt.{RowsFrom, word_t}
use Rattle.activations.specs.TypeHoldersAt.{Hold}

module _ (ns : List Name) (s : List ℕ) (a : Name) where
  -- by old index and by the numbers of the first k rows' holders the types of ports; these rows have their holders' numbers
  pub record KnownAt (env table : List ℕ) (k : ℕ) (ports : List Port) : Type 0 where
    pub types : TypesAre ns s env (last_typed ports)
    pub below : (j : ℕ) → j < k → word_t table j 0 < length ns
    pub holders : (j : ℕ) → j < k → Coded ns s (get_or env (holder_id ns a (word_t table j 0)) 0) (last_typed ports (last_var a (name_at ns (word_t table j 0))))
    pub numbers : (j : ℕ) → j < k → word_t table j 2 ≡ holder_id ns a (word_t table j 0)

  -- what is answered for n rows: a refusal by its kind and variable, or all holders known
  pub data HeldAs (z : Hold) (n : ℕ) (ports : List Port) (xs : List Sought) : Holding → Type 0 where
    as_unknown : {r : Refusal} → z.kind ≡ 15 → z.var < length ns → r ≡ last_unknown a (name_at ns z.var) → HeldAs z n ports xs (refused r)
    as_needs_init : {r : Refusal} → z.kind ≡ 16 → z.var < length ns → r ≡ last_needs_init a (name_at ns z.var) → HeldAs z n ports xs (refused r)
    as_held : {ps : List Port} {es : List Equation} → z.kind ≡ 0 → KnownAt z.env z.held n (ports ++ ps) → RowsFrom ns s z.held 0 xs → HeldAs z n ports xs (holders_made ps es)
