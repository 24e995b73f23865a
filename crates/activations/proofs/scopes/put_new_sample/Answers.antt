use Rattle.activations.proofs.ScopeLaws.{full-renders, new-put, new-seen}
use Rattle.activations.proofs.scopes.put_new_sample.Goals as goal

pub returns-then-writer : goal.returns-then-writer
returns-then-writer c = full-renders _ _ _ _ _ c.if-writer.true

pub returns-then-is_in : goal.returns-then-is_in
returns-then-is_in c = new-seen _ _ _ _ _ _ _ _ _ _ _ c.is_in.ensures c.if-is_in.true

pub returns : goal.returns
returns c = new-put _ _ _ _ _ _ _ _ _ _ _ _ c.is_in.ensures c.if-is_in.false c.put_sample_equation.ensures
