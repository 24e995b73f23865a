-- Laws for the code that fills and reads tables of types, step by step.
use Prim.Native.Nat.{ℕ, ◌%◌, ◌≤◌}
use mathlib.Core.List.{List}
use mathlib.Core.Path.{◌≡◌}
use lib.ListN.{set}
use Rattle.pack_rules.specs.Names.{Name}
use Rattle.pack_rules.specs.Read.{port_in}
use Rattle.wire.specs.declared.answer.Number.{Number}
use Rattle.machines.specs.ResolvedIn.{end_of}
use Rattle.machines.specs.CheckedReads.{number_in}
use Rattle.machines.proofs.CheckedReadLaws.{on}
use Rattle.std.specs.Prelude.{Option as Maybe, None}
use Rattle.activations.specs.declared.types.TypeDefault.{TypeDefault}
use Rattle.activations.specs.Cells.{put_t}
use Rattle.activations.specs.Places.{along, each_of, right_side_in}
use Rattle.activations.specs.TypesAt.{enum_end, first_port_t, first_ports_t, first_variant_t, port_end, port_t, ports_end, ports_t, variant_at}
use Rattle.activations.proofs.PlaceLaws.{along-end, each-end}

pub port-is : (s : List ℕ) (p : ℕ) (x : Number) (t u : List ℕ) → x ≡ number_in s p → u ≡ set t x.value (x.next % 65536) → u ≡ port_t s p t
unfolding port_t put_t
port-is s p x t u e f = on x _ _ _ e f

module _ (ns : List Name) (s : List ℕ) where
  pub ports-done : (at : ℕ) (c : Number) (n p : ℕ) (t z : List ℕ) → c ≡ number_in s at → n ≤ 0 → each_of (port_t s) (port_end ns s) n p t ≡ each_of (port_t s) (port_end ns s) c.value c.next z → t ≡ ports_t ns s at z
  unfolding ports_t
  ports-done at c n p t z e l h = on c _ _ _ e (each-end (port_t s) (port_end ns s) n p t _ l h)

  pub ports-over : (at : ℕ) (c : Number) (n p : ℕ) → c ≡ number_in s at → n ≤ 0 → along (port_end ns s) n p ≡ along (port_end ns s) c.value c.next → p ≡ ports_end ns s at
  unfolding ports_end
  ports-over at c n p e l h = on c _ _ _ e (along-end (port_end ns s) n p _ l h)

  pub firsts-done : (at : ℕ) (c : Number) (n p : ℕ) (t z : List ℕ) → c ≡ number_in s at → n ≤ 0 → each_of (first_port_t s) (port_end ns s) n p t ≡ each_of (first_port_t s) (port_end ns s) c.value c.next z → t ≡ first_ports_t ns s at z
  unfolding first_ports_t
  firsts-done at c n p t z e l h = on c _ _ _ e (each-end (first_port_t s) (port_end ns s) n p t _ l h)

  pub port-end : (at q : ℕ) → q ≡ end_of (port_in ns s at) → q ≡ port_end ns s at
  unfolding port_end
  port-end at q e = e

  pub enum-over : (p : ℕ) (i : Number) (q : ℕ) → i ≡ number_in s p → q ≡ right_side_in ns s i.next → q ≡ enum_end ns s p
  unfolding enum_end right_side_in
  enum-over p i q e f = on i _ _ _ e f

  module _ (enums : ℕ) where
    pub variants-done : (x : ℕ) (c : Number) (n p : ℕ) (r : Maybe TypeDefault) → c ≡ number_in s enums → n ≤ 0 → each_of (variant_at s x) (enum_end ns s) n p r ≡ each_of (variant_at s x) (enum_end ns s) c.value c.next None → r ≡ first_variant_t ns s enums x
    unfolding first_variant_t
    variants-done x c n p r e l h = on c _ _ _ e (each-end (variant_at s x) (enum_end ns s) n p r _ l h)
