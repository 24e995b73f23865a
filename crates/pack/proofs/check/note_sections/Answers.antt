use Rattle.std.proofs.Common.{refl, ap, ◌∙◌}
use Rattle.std.specs.Prelude.{Ok, Err}
use Rattle.std.proofs.lemmas.Result.{err_from_is_err_and}
use Rattle.wire.specs.Code.{next, onward, skips}
use Rattle.wire.proofs.Codes.{handed-back}
use Rattle.pack.specs.declared.record.Pack.{Pack}
use Rattle.pack.specs.Verdict.{offset_of}
use Rattle.pack.proofs.CheckLaws.{Went, went-record, went-skip}
use Rattle.pack.proofs.check.note_sections.Goals as goal

pub returns-in_err-pack : goal.returns-in_err-pack
unfolding next offset_of onward skips
returns-in_err-pack c =
    let w : Went c.args.s.now c.args.pack.now.names (Err c.in_err-pack.field-0.0) (Err c.in_err-pack.field-0.0) (Err c.in_err-pack.field-0.0) (Err c.in_err-pack.field-0.0) (Err c.in_err-pack.field-0.0) (Err c.in_err-pack.field-0.0) = record {
      few = ap (λ (k : Pack). k.names) c.requires.begun;
      past-names = c.in_err-pack.ensures;
      past-enums = λ ns e. refl;
      past-nodes = λ ns e. refl;
      past-machines = λ ns e. refl;
      past-activations = λ ns e. refl;
      past-origins = λ ns e. refl;
    } in
    record { value = handed-back _ _ (err_from_is_err_and c.from_residual.result c.from_residual.ensures.1) ∙ went-skip _ _ _ _ _ _ _ _ w; noted = went-record _ _ _ _ _ _ _ _ w _ refl (ap (λ (k : Pack). k.enums) c.requires.begun) (ap (λ (k : Pack). k.nodes) c.requires.begun) (ap (λ (k : Pack). k.machines) c.requires.begun) (ap (λ (k : Pack). k.activations) c.requires.begun) (ap (λ (k : Pack). k.origins) c.requires.begun) (ap (λ (k : Pack). k.end) c.requires.begun) }

pub returns-in_err-pack-2 : goal.returns-in_err-pack-2
unfolding next offset_of onward skips
returns-in_err-pack-2 c =
    let w : Went c.args.s.now c.args.pack.now.names (Ok c.in_ok-pack.field-0) (Err c.in_err-pack-2.field-0.0) (Err c.in_err-pack-2.field-0.0) (Err c.in_err-pack-2.field-0.0) (Err c.in_err-pack-2.field-0.0) (Err c.in_err-pack-2.field-0.0) = record {
      few = ap (λ (k : Pack). k.names) c.requires.begun;
      past-names = c.in_ok-pack.ensures;
      past-enums = c.in_err-pack-2.ensures;
      past-nodes = λ ns e. refl;
      past-machines = λ ns e. refl;
      past-activations = λ ns e. refl;
      past-origins = λ ns e. refl;
    } in
    record { value = handed-back _ _ (err_from_is_err_and c.from_residual-in_err-pack-2.result c.from_residual-in_err-pack-2.ensures.1) ∙ went-skip _ _ _ _ _ _ _ _ w; noted = went-record _ _ _ _ _ _ _ _ w _ refl refl (ap (λ (k : Pack). k.nodes) c.requires.begun) (ap (λ (k : Pack). k.machines) c.requires.begun) (ap (λ (k : Pack). k.activations) c.requires.begun) (ap (λ (k : Pack). k.origins) c.requires.begun) (ap (λ (k : Pack). k.end) c.requires.begun) }

pub returns-in_err-pack-3 : goal.returns-in_err-pack-3
unfolding next offset_of onward skips
returns-in_err-pack-3 c =
    let w : Went c.args.s.now c.args.pack.now.names (Ok c.in_ok-pack.field-0) (Ok c.in_ok-pack-2.field-0) (Err c.in_err-pack-3.field-0.0) (Err c.in_err-pack-3.field-0.0) (Err c.in_err-pack-3.field-0.0) (Err c.in_err-pack-3.field-0.0) = record {
      few = ap (λ (k : Pack). k.names) c.requires.begun;
      past-names = c.in_ok-pack.ensures;
      past-enums = c.in_ok-pack-2.ensures;
      past-nodes = c.in_err-pack-3.ensures;
      past-machines = λ ns e. refl;
      past-activations = λ ns e. refl;
      past-origins = λ ns e. refl;
    } in
    record { value = handed-back _ _ (err_from_is_err_and c.from_residual-in_err-pack-3.result c.from_residual-in_err-pack-3.ensures.1) ∙ went-skip _ _ _ _ _ _ _ _ w; noted = went-record _ _ _ _ _ _ _ _ w _ refl refl refl (ap (λ (k : Pack). k.machines) c.requires.begun) (ap (λ (k : Pack). k.activations) c.requires.begun) (ap (λ (k : Pack). k.origins) c.requires.begun) (ap (λ (k : Pack). k.end) c.requires.begun) }

pub returns-in_err-pack-4 : goal.returns-in_err-pack-4
unfolding next offset_of onward skips
returns-in_err-pack-4 c =
    let w : Went c.args.s.now c.args.pack.now.names (Ok c.in_ok-pack.field-0) (Ok c.in_ok-pack-2.field-0) (Ok c.in_ok-pack-3.field-0) (Err c.in_err-pack-4.field-0.0) (Err c.in_err-pack-4.field-0.0) (Err c.in_err-pack-4.field-0.0) = record {
      few = ap (λ (k : Pack). k.names) c.requires.begun;
      past-names = c.in_ok-pack.ensures;
      past-enums = c.in_ok-pack-2.ensures;
      past-nodes = c.in_ok-pack-3.ensures;
      past-machines = c.in_err-pack-4.ensures;
      past-activations = λ ns e. refl;
      past-origins = λ ns e. refl;
    } in
    record { value = handed-back _ _ (err_from_is_err_and c.from_residual-in_err-pack-4.result c.from_residual-in_err-pack-4.ensures.1) ∙ went-skip _ _ _ _ _ _ _ _ w; noted = went-record _ _ _ _ _ _ _ _ w _ refl refl refl refl (ap (λ (k : Pack). k.activations) c.requires.begun) (ap (λ (k : Pack). k.origins) c.requires.begun) (ap (λ (k : Pack). k.end) c.requires.begun) }

pub returns-in_err-pack-5 : goal.returns-in_err-pack-5
unfolding next offset_of onward skips
returns-in_err-pack-5 c =
    let w : Went c.args.s.now c.args.pack.now.names (Ok c.in_ok-pack.field-0) (Ok c.in_ok-pack-2.field-0) (Ok c.in_ok-pack-3.field-0) (Ok c.in_ok-pack-4.field-0) (Err c.in_err-pack-5.field-0.0) (Err c.in_err-pack-5.field-0.0) = record {
      few = ap (λ (k : Pack). k.names) c.requires.begun;
      past-names = c.in_ok-pack.ensures;
      past-enums = c.in_ok-pack-2.ensures;
      past-nodes = c.in_ok-pack-3.ensures;
      past-machines = c.in_ok-pack-4.ensures;
      past-activations = c.in_err-pack-5.ensures;
      past-origins = λ ns e. refl;
    } in
    record { value = handed-back _ _ (err_from_is_err_and c.from_residual-in_err-pack-5.result c.from_residual-in_err-pack-5.ensures.1) ∙ went-skip _ _ _ _ _ _ _ _ w; noted = went-record _ _ _ _ _ _ _ _ w _ refl refl refl refl refl (ap (λ (k : Pack). k.origins) c.requires.begun) (ap (λ (k : Pack). k.end) c.requires.begun) }

pub returns-in_err-pack-6 : goal.returns-in_err-pack-6
unfolding next offset_of onward skips
returns-in_err-pack-6 c =
    let w : Went c.args.s.now c.args.pack.now.names (Ok c.in_ok-pack.field-0) (Ok c.in_ok-pack-2.field-0) (Ok c.in_ok-pack-3.field-0) (Ok c.in_ok-pack-4.field-0) (Ok c.in_ok-pack-5.field-0) (Err c.in_err-pack-6.field-0.0) = record {
      few = ap (λ (k : Pack). k.names) c.requires.begun;
      past-names = c.in_ok-pack.ensures;
      past-enums = c.in_ok-pack-2.ensures;
      past-nodes = c.in_ok-pack-3.ensures;
      past-machines = c.in_ok-pack-4.ensures;
      past-activations = c.in_ok-pack-5.ensures;
      past-origins = c.in_err-pack-6.ensures;
    } in
    record { value = handed-back _ _ (err_from_is_err_and c.from_residual-in_err-pack-6.result c.from_residual-in_err-pack-6.ensures.1) ∙ went-skip _ _ _ _ _ _ _ _ w; noted = went-record _ _ _ _ _ _ _ _ w _ refl refl refl refl refl refl (ap (λ (k : Pack). k.end) c.requires.begun) }

pub returns : goal.returns
unfolding next offset_of onward skips
returns c =
    let w : Went c.args.s.now c.args.pack.now.names (Ok c.in_ok-pack.field-0) (Ok c.in_ok-pack-2.field-0) (Ok c.in_ok-pack-3.field-0) (Ok c.in_ok-pack-4.field-0) (Ok c.in_ok-pack-5.field-0) (Ok c.in_ok-pack-6.field-0) = record {
      few = ap (λ (k : Pack). k.names) c.requires.begun;
      past-names = c.in_ok-pack.ensures;
      past-enums = c.in_ok-pack-2.ensures;
      past-nodes = c.in_ok-pack-3.ensures;
      past-machines = c.in_ok-pack-4.ensures;
      past-activations = c.in_ok-pack-5.ensures;
      past-origins = c.in_ok-pack-6.ensures;
    } in
    record { value = went-skip _ _ _ _ _ _ _ _ w; noted = went-record _ _ _ _ _ _ _ _ w _ refl refl refl refl refl refl refl }
