use Rattle.activations.proofs.EquationLaws.{equations-are}
use Rattle.activations.proofs.lower.put_act_equations.Goals as goal

pub returns : goal.returns
returns c = λ ns e cs g. equations-are ns _ _ _ _ _ _ _ _ _ _ cs _ _ _ _ _ _ (c.put_holders-c.ensures ns e) (c.put_flags-d.ensures ns e) (c.put_clock_guards-e.ensures cs g) (c.put_scopes-f.ensures ns e) (c.put_merges.ensures ns e cs g)
