-- The names that lowering an activation makes; branches count from 0 here and from 1 in names.
use Rattle.std.specs.Prelude.{[], ◌∷◌, ◌++◌, ℕ, zero, suc}
use Rattle.pack_rules.specs.Names.{Name}
use Rattle.wire.specs.Decimal.{decimal}

-- `__act_`
unfoldable pub act_prefix : Name
act_prefix = 95 ∷ 95 ∷ 97 ∷ 99 ∷ 116 ∷ 95 ∷ []

-- `__act_<a>_`, a letter, and the rest
unfoldable pub made_name : Name → ℕ → Name → Name
made_name a letter rest = act_prefix ++ (a ++ (95 ∷ letter ∷ rest))

-- Activations, flags as in `activation.rs`: `__act_<a>_b<k>`, whether branch k is taken
unfoldable pub flag_var : Name → ℕ → Name
flag_var a k = made_name a 98 (decimal (suc k))

-- Activations, flags as in `activation.rs`: `__act_<a>_n<k>`, whether no branch up to k is taken
unfoldable pub none_var : Name → ℕ → Name
none_var a k = made_name a 110 (decimal (suc k))

-- Activations, guards as in `activation.rs`: the clock of branch k is the flag of the first, `__act_<a>_g<k>` of the others
unfoldable pub clock_var : Name → ℕ → Name
clock_var a zero = flag_var a zero
clock_var a (suc k) = made_name a 103 (decimal (suc (suc k)))

-- a scope: that of a branch, or the else scope
pub data Scope : Type 0 where
  branch : ℕ → Scope
  else_scope : Scope

-- a scope's tag in names: the branch's number, or `e`
unfoldable pub tag : Scope → Name
tag (branch k) = decimal (suc k)
tag else_scope = 101 ∷ []

-- Activations, scopes as in `activation.rs`: `__act_<a>_x<tag>_<o>`, what a scope gives the output o
unfoldable pub value_var : Name → Scope → Name → Name
value_var a s o = made_name a 120 (tag s ++ (95 ∷ o))

-- Activations, samples as in `activation.rs`: `__act_<a>_s<tag>_<v>`, the variable v on a scope's clock
unfoldable pub sample_var : Name → Scope → Name → Name
sample_var a s v = made_name a 115 (tag s ++ (95 ∷ v))

-- `_last_`
unfoldable pub last_infix : Name
last_infix = 95 ∷ 108 ∷ 97 ∷ 115 ∷ 116 ∷ 95 ∷ []

-- Activations, holders as in `activation.rs`: `__act_<a>_last_<v>`
unfoldable pub last_var : Name → Name → Name
last_var a v = act_prefix ++ (a ++ (last_infix ++ v))
