use mathlib.Core.Path.{refl}
use Rattle.machines.proofs.CallLaws.{names-short, tabled-as}
use Rattle.activations.proofs.Answered.{blank, scratch}
use Rattle.activations.proofs.call.lower_with_scratch.Goals as goal

pub build_name_table-e-requires : goal.build_name_table-e-requires
build_name_table-e-requires c = (names-short _ _ _ _ c.requires.0 c.between.ensures, refl)

pub lower_filled-requires : goal.lower_filled-requires
lower_filled-requires c = (c.requires.0, c.requires.1, blank, scratch, tabled-as _ _ _ c.build_name_table-e.ensures.1 c.between.ensures)
