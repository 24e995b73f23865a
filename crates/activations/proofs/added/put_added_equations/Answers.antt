use Prim.Native.Nat.{◌<◌, ◌≤◌}
use native.Mathlib.Omega.{arith}
use lib.ListN.{length}
use Rattle.pack_rules.specs.Write.{equation_items}
use Rattle.activations.specs.AddedParts.{equations_of}
use Rattle.activations.proofs.AddedPartsKnown.{row_made, row_read, written-done, written_step, written-stop, written_start}
use Rattle.activations.proofs.added.put_added_equations.Goals as goal

pub loop-i-preserved : goal.loop-i-preserved
loop-i-preserved c = λ ns es N As m g D M B L T. let W = c.loop-i.invariant ns es N As m g D M B L T in let l : c.loop-i.i < length As = omega (arith, c.loop-i-test.true, L) in written_step ns _ _ es N As g _ m _ D M equations_of equation_items _ l _ _ _ W _ _ c.put_row_equations-v.ensures.past (λ e. c.put_row_equations-v.ensures.written e ns es _ _ B (row_read ns _ _ es N As g _ m _ D M equations_of equation_items _ l _ _ _ W) W.types (row_made ns _ _ es N As g _ m _ D M equations_of equation_items _ l _ _ _ W e))

pub loop-i-init : goal.loop-i-init
loop-i-init c = λ ns es N As m g D M B L T. written_start ns _ _ es N As g _ m _ D M equations_of equation_items _ _ T

pub returns-after-loop-i : goal.returns-after-loop-i
returns-after-loop-i c = λ ns es N As m B D L M T. let g : length As ≤ 6656 = omega (arith, c.requires.2, L) in written-done ns _ _ es N As g _ m _ D M equations_of equation_items _ _ _ _ _ L c.loop-i-test.false c.loop-i.auto.i-end (c.loop-i.invariant ns es N As m g D M B L T)

pub returns-then-v : goal.returns-then-v
returns-then-v c = λ ns es N As m B D L M T. let g : length As ≤ 6656 = omega (arith, c.requires.2, L) in written-stop ns _ _ es N As g _ m _ D M equations_of equation_items _ _ _ _ _ _ c.if-v.true (c.loop-i.invariant ns es N As m g D M B L T)
