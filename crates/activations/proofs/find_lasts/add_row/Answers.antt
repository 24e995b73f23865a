use native.Mathlib.Omega.{arith}
use Rattle.activations.proofs.LastLaws.{row-full, row_put_lem}
use Rattle.activations.proofs.find_lasts.add_row.Goals as goal

pub returns-then-n-lt8192 : goal.returns-then-n-lt8192
returns-then-n-lt8192 c = (omega (arith, c.if-n-lt8192.true), row_put_lem _ _ _ c.args.lasts.now _ _ c.if-n-lt8192.true c.put_word.ensures c.put_word-then-n-lt8192.ensures)

pub returns : goal.returns
returns c = (c.requires, row-full _ _ _ _ c.if-n-lt8192.false)
