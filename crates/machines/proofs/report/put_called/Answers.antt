use Rattle.machines.proofs.Overwriting.{put_as, put-none, room_as}
use Rattle.machines.proofs.EntryLaws.{called-inside, called-letters, called-none}
use Rattle.machines.proofs.report.put_called.Goals as goal

pub returns-then-letters-eq0 : goal.returns-then-letters-eq0
returns-then-letters-eq0 c = let r = put-none c.args.report.now _ c.args.at (called-none _ _ _ _ c.if-name-eq-ABSENT.true c.if-letters-eq0.true) in record { value = r.0; report_after = r.1 }

pub put_name-requires : goal.put_name-requires
put_name-requires c = room_as _ _ _ _ c.requires (called-letters _ _ _ _ _ c.if-name-eq-ABSENT.true c.if-letters-eq0.false c.part-p.ensures)

pub returns-then-name-eq-ABSENT : goal.returns-then-name-eq-ABSENT
returns-then-name-eq-ABSENT c = let r = put_as _ _ _ _ _ _ (c.put_name.ensures.value, c.put_name.ensures.report_after) (called-letters _ _ _ _ _ c.if-name-eq-ABSENT.true c.if-letters-eq0.false c.part-p.ensures) in record { value = r.0; report_after = r.1 }

pub put_inside-requires : goal.put_inside-requires
put_inside-requires c = room_as _ _ _ _ c.requires (called-inside _ _ _ _ _ _ c.if-name-eq-ABSENT.false c.part-p.ensures c.pack_name-n.ensures)

pub returns : goal.returns
returns c = let r = put_as _ _ _ _ _ _ (c.put_inside.ensures.value, c.put_inside.ensures.report_after) (called-inside _ _ _ _ _ _ c.if-name-eq-ABSENT.false c.part-p.ensures c.pack_name-n.ensures) in record { value = r.0; report_after = r.1 }
