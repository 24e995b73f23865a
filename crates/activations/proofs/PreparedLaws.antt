-- Laws for the code that begins an activation.
use Prim.Native.Nat.{ℕ}
use mathlib.Core.List.{List}
use mathlib.Core.Path.{◌≡◌, ◌∙◌}
use Rattle.pack_rules.specs.Names.{Name}
use Rattle.activations.specs.declared.pack_info.PackInfo.{PackInfo}
use Rattle.activations.specs.declared.parts.Act.{Act}
use Rattle.activations.specs.Cells.{clear_t, copy_t}
use Rattle.activations.specs.TypesAt.{first_ports_t}
use Rattle.activations.specs.LastsAt.{find_all_lasts_t, rows_of}
use Rattle.activations.specs.TypeHoldersAt.{Hold, hold_from}
use Rattle.activations.specs.PreparedAt.{Preparation, held_t, prepared_t}

-- begun, by what its parts answered
module _ (ns : List Name) (old s : List ℕ) (b : PackInfo) (offsets : List ℕ) (a : Name) (act : Act) (later env outs lasts env' outs' lasts' : List ℕ) (n : ℕ) (h : Hold)
    (e : env' ≡ copy_t later b.names env) (f : outs' ≡ first_ports_t ns s act.outputs (clear_t b.names outs)) (g : rows_of lasts' n ≡ find_all_lasts_t ns s b.last act (rows_of lasts 0)) (k : h ≡ hold_from ns old s b offsets a outs' n 0 env' lasts') where
  pub begun-is : ◌≡◌ {A = Preparation} (record { outs = outs'; hold = h; rows = n }) (prepared_t ns old s b offsets a act later env outs lasts)
  unfolding prepared_t held_t
  begun-is = (λ i. record { outs = outs'; hold = k i; rows = n }) ∙ λ i. held_t ns old s b offsets a (g i) (f i) (e i)
