use Rattle.activations.proofs.LocalLaws.{port-full, port-put}
use Rattle.activations.proofs.locals.put_port.Goals as goal

pub returns-then-writer : goal.returns-then-writer
returns-then-writer c = λ ns e. port-full _ _ _ _ _ _ c.if-writer.true

pub returns : goal.returns
returns c = λ ns e. port-put _ _ _ _ c.put_built-v.ensures (c.put_type.ensures ns e _)
