use Rattle.std.proofs.Common.{sym, ap, ◌∙◌, arith}
use Rattle.pack_rules.specs.Write.{At, Missing}
use Rattle.pack.specs.Table.{number_in}
use Rattle.pack.specs.Intern.{put_found, found_of}
use Rattle.pack.proofs.Interns.{number_of, name-long, name-found, name-stopped}
use Rattle.pack.proofs.intern.put_name.Goals as goal

pub returns-then-n-gt-NAME : goal.returns-then-n-gt-NAME
returns-then-n-gt-NAME c = c.stopped.ensures _ _ ∙ name-long _ _ _ c.if-n-gt-NAME.true

pub returns-then-writer : goal.returns-then-writer
returns-then-writer c = name-stopped _ _ _ _ _ c.if-writer.true

pub put_new-requires : goal.put_new-requires
unfolding found_of number_in
put_new-requires c = (omega arith, omega (arith, number_of _ _ _ (ap found_of c.in-Err.is) c.seek_name.ensures.1))

pub returns-in-Ok : goal.returns-in-Ok
unfolding put_found found_of
returns-in-Ok c = c.put_u16.ensures _
    ∙ name-found _ _ _ (At _) c.if-n-gt-NAME.false (ap found_of (sym c.in-Ok.is) ∙ c.seek_name.ensures.0)

pub returns-in-Err : goal.returns-in-Err
unfolding put_found found_of
returns-in-Err c = c.put_new.ensures
    ∙ name-found _ _ _ (Missing _) c.if-n-gt-NAME.false (ap found_of (sym c.in-Err.is) ∙ c.seek_name.ensures.0)
