use Rattle.std.proofs.Common.{◌≡◌, ◌+◌, length, ap, ◌∙◌, arith}
use Rattle.pack.specs.Intern.{table}
use Rattle.pack_rules.specs.Outcome.{begins}
use Rattle.pack.specs.Finish.{pack_of}
use Rattle.pack.proofs.Interns.{table-length}
use Rattle.pack.proofs.Finished.{sized-large, sized-short, sized-fits, sized-value, pack_of-is, gives-answers, gives-writes}
use Rattle.pack.proofs.finish.copy_out.Goals as goal

pub returns-then-n-gt-BYTES : goal.returns-then-n-gt-BYTES
returns-then-n-gt-BYTES c = let a = c.args in
    gives-answers _ 8 0 a.out.now (sized-large a.old.now a.made.now a.body.now (length a.out.now) _ c.size-n.ensures c.if-n-gt-BYTES.true)

pub returns-then-out-n : goal.returns-then-out-n
returns-then-out-n c = let a = c.args in
    gives-answers _ 9 _ a.out.now
    (sized-short a.old.now a.made.now a.body.now (length a.out.now) _ c.size-n.ensures c.if-n-gt-BYTES.false c.if-out-n.true)

pub overflow_add-count : goal.overflow_add-count
overflow_add-count c = let a = c.args in
    omega (arith, table-length a.old.now, table-length a.made.now)

pub returns : goal.returns
returns c = let s = c in
    let a = s.args in
    let old = a.old.now in
    let made = a.made.now in
    let body = a.body.now in
    let small = c.if-n-gt-BYTES.false in
    let count : c.count_names.result + c.count_names-2.result ≡ length (table old) + length (table made) =
    omega (arith, c.count_names.ensures, c.count_names-2.ensures) in
    gives-writes _ (pack_of old made body) _ a.out.now _
    (sized-fits old made body (length a.out.now) _ s.size-n.ensures small c.if-out-n.false)
    (sized-value old made body 0 _ s.size-n.ensures small)
    (c.concat.ensures ∙ ap (λ l. begins l a.out.now) (pack_of-is old made body _ count))
