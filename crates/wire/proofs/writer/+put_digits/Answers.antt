use native.Mathlib.Omega.{arith}
use mathlib.Core.Path.{◌∙◌, ap}
use Rattle.wire.specs.Writer.{put}
use Rattle.wire.proofs.Writers.{decimal-one, decimal-more}
use Rattle.wire.proofs.writer.+put_digits.Goals as goal

pub returns-then-n-lt10 : goal.returns-then-n-lt10
returns-then-n-lt10 t c m = c.put_byte.ensures m ∙ decimal-one _ _ c.if-n-lt10.true

pub put_digits-v-requires : goal.put_digits-v-requires
put_digits-v-requires t c = (omega arith, tt)

pub returns : goal.returns
returns t c m = let d = c in
    c.put_byte-2.ensures m ∙ ap (put _) (d.put_digits-v.ensures m) ∙ decimal-more _ _ d.if-n-lt10.false
