-- The numbers that the code computes for holders are those of the definition.
use Prim.Native.Nat.{ℕ, ◌+◌, ◌<◌}
use mathlib.Core.List.{List, []}
use mathlib.Core.Bool.{true}
use mathlib.Core.Path.{◌≡◌, refl, ap, ◌∙◌}
use lib.ListN.{length}
use Rattle.wire.specs.Lists.{All}
use Rattle.wire.specs.Writer.{puts, st}
use Rattle.pack_rules.specs.Names.{Name, eq_name}
use Rattle.pack_rules.specs.Forms.{name_at}
use Rattle.pack_rules.specs.Legal.{LegalName, place}
use Rattle.pack.specs.Table.{tabled}
use Rattle.machines.specs.Layout.{slice_of}
use Rattle.machines.specs.EmitAt.{pack_name}
use Rattle.activations.specs.declared.pack_info.PackInfo.{PackInfo}
use Rattle.activations.specs.Ids.{holder_id, old_or}
use Rattle.activations.specs.Lookups.{MadeIs, is_made, place_built}
use Rattle.activation_rules.specs.MadeNames.{act_prefix, last_var}
use Rattle.activations.specs.TypeHoldersAt.{holder_number, holder_t}
use Rattle.activations.proofs.PackInfoLaws.{place-tabled}
use Rattle.activations.proofs.NameIdsKnown.{built-place}

-- a holder's name begins as made ones do
pub last_made : (a v : Name) → is_made (last_var a v) ≡ true
unfolding is_made last_var act_prefix slice_of eq_name
last_made a v = refl

module _ (ns : List Name) (legal : All LegalName ns) (s offsets : List ℕ) (placed : (i : ℕ) → i < length ns → pack_name s offsets i ≡ name_at ns i) (b : PackInfo) (names : b.names ≡ length ns) (M : MadeIs ns b.made) where
  number-known : (n : Name) (v : ℕ) → is_made n ≡ true → holder_number (tabled ns) b n v ≡ old_or (length ns) (place ns n) (length ns + v)
  unfolding holder_number
  number-known n v e =
      (λ j. old_or (names j) (place_built (place-tabled ns j) (names j) b.made (puts n (st 255 0 [] []))) (names j + v))
      ∙ ap (λ y. old_or (length ns) y (length ns + v)) (built-place ns legal b.made M n e)

  -- THE LINK: the number of a holder
  pub holder_known : (a : Name) (v : ℕ) → v < length ns → holder_t (tabled ns) s b offsets a v ≡ holder_id ns a v
  unfolding holder_t holder_id
  holder_known a v l = ap (λ y. holder_number (tabled ns) b (last_var a y) v) (placed v l) ∙ number-known (last_var a (name_at ns v)) v (last_made a (name_at ns v))
