use Rattle.activations.proofs.FlagLaws.{untaken-none, untaken-some}
use Rattle.activations.proofs.flags.put_none_flag.Goals as goal

pub returns-then-n-le1 : goal.returns-then-n-le1
returns-then-n-le1 c = λ ns e. untaken-none _ _ ns _ _ _ _ _ _ _ c.if-n-le1.true

pub returns : goal.returns
returns c = λ ns e. untaken-some _ _ ns _ _ _ _ _ _ _ _ _ _ _ c.if-n-le1.false c.put_left-c.ensures c.put_prior-d.ensures (c.put_bytes-e.ensures _) (c.rewrite_last.ensures ns e)
