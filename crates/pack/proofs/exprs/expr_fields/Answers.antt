use Rattle.std.proofs.Common.{rules, arith}
use Rattle.wire.specs.Answer.{map_a}
use Rattle.wire.specs.Code.{read_of, skip}
use Rattle.pack_rules.specs.Forms.{expr_arity, expr_rows}
use Rattle.pack.proofs.ExprLaws.{row, row-none, step}
use Rattle.pack.proofs.exprs.expr_fields.Goals as goal

pub returns-in_err-skip_literal-in-0 : goal.returns-in_err-skip_literal-in-0
unfolding expr_rows expr_arity map_a read_of skip
returns-in_err-skip_literal-in-0 c = row _ _ 0 _ _ _ c.in-0.is (search rules)

pub returns-in_ok-skip_literal-in-0 : goal.returns-in_ok-skip_literal-in-0
unfolding expr_rows expr_arity map_a read_of skip
returns-in_ok-skip_literal-in-0 c = row _ _ 0 _ _ _ c.in-0.is (search rules)

pub returns-in_err-read_index-in-1 : goal.returns-in_err-read_index-in-1
unfolding expr_rows expr_arity map_a read_of skip
returns-in_err-read_index-in-1 c = row _ _ 1 _ _ _ c.in-1.is (search rules)

pub returns-in_ok-read_index-in-1 : goal.returns-in_ok-read_index-in-1
unfolding expr_rows expr_arity map_a read_of skip
returns-in_ok-read_index-in-1 c = row _ _ 1 _ _ _ c.in-1.is (search rules)

pub returns-in_err-read_below-in-2 : goal.returns-in_err-read_below-in-2
unfolding expr_rows expr_arity map_a read_of skip
returns-in_err-read_below-in-2 c = row _ _ 2 _ _ _ c.in-2.is (search rules)

pub returns-in_ok-read_below-in-2 : goal.returns-in_ok-read_below-in-2
unfolding expr_rows expr_arity map_a read_of skip
returns-in_ok-read_below-in-2 c = row _ _ 2 _ _ _ c.in-2.is (search rules)

pub returns-in_err-read_below-in-3 : goal.returns-in_err-read_below-in-3
unfolding expr_rows expr_arity map_a read_of skip
returns-in_err-read_below-in-3 c = row _ _ 3 _ _ _ c.in-3.is (search rules)

pub returns-in_ok-read_below-in-3 : goal.returns-in_ok-read_below-in-3
unfolding expr_rows expr_arity map_a read_of skip
returns-in_ok-read_below-in-3 c = row _ _ 3 _ _ _ c.in-3.is (search rules)

pub returns-in-4 : goal.returns-in-4
unfolding expr_rows expr_arity map_a read_of skip
returns-in-4 c = row _ _ 4 _ _ _ c.in-4.is (search rules)

pub returns-in-5 : goal.returns-in-5
unfolding expr_rows expr_arity map_a read_of skip
returns-in-5 c = row _ _ 5 _ _ _ c.in-5.is (search rules)

pub returns-in-6 : goal.returns-in-6
unfolding expr_rows expr_arity map_a read_of skip
returns-in-6 c = row _ _ 6 _ _ _ c.in-6.is (search rules)

pub returns-in-7 : goal.returns-in-7
unfolding expr_rows expr_arity map_a read_of skip
returns-in-7 c = row _ _ 7 _ _ _ c.in-7.is (search rules)

pub returns-in_err-read_index-in-8 : goal.returns-in_err-read_index-in-8
unfolding expr_rows expr_arity map_a read_of skip
returns-in_err-read_index-in-8 c = row _ _ 8 _ _ _ c.in-8.is (search rules)

pub returns-in_ok-read_index-in-8 : goal.returns-in_ok-read_index-in-8
unfolding expr_rows expr_arity map_a read_of skip
returns-in_ok-read_index-in-8 c = row _ _ 8 _ _ _ c.in-8.is (search rules)

pub returns-in-9 : goal.returns-in-9
unfolding expr_rows expr_arity map_a read_of skip
returns-in-9 c = row _ _ 9 _ _ _ c.in-9.is (search rules)

pub returns-in-10 : goal.returns-in-10
unfolding expr_rows expr_arity map_a read_of skip
returns-in-10 c = row _ _ 10 _ _ _ c.in-10.is (search rules)

pub returns-in-11 : goal.returns-in-11
unfolding expr_rows expr_arity map_a read_of skip
returns-in-11 c = row _ _ 11 _ _ _ c.in-11.is (search rules)

pub returns-in-12 : goal.returns-in-12
unfolding expr_rows expr_arity map_a read_of skip
returns-in-12 c = row _ _ 12 _ _ _ c.in-12.is (search rules)

pub returns-in_err-skip_type-in-13 : goal.returns-in_err-skip_type-in-13
unfolding expr_rows expr_arity map_a read_of skip
returns-in_err-skip_type-in-13 c = row _ _ 13 _ _ _ c.in-13.is (search rules)

pub returns-in_ok-skip_type-in-13 : goal.returns-in_ok-skip_type-in-13
unfolding expr_rows expr_arity map_a read_of skip
returns-in_ok-skip_type-in-13 c = row _ _ 13 _ _ _ c.in-13.is (search rules)

pub returns-in-14 : goal.returns-in-14
unfolding expr_rows expr_arity map_a read_of skip
returns-in-14 c = row _ _ 14 _ _ _ c.in-14.is (search rules)

pub returns-in_err-read_index-in-15 : goal.returns-in_err-read_index-in-15
unfolding expr_rows expr_arity map_a read_of skip
returns-in_err-read_index-in-15 c = row _ _ 15 _ _ _ c.in-15.is (search rules)

pub returns-in_ok-read_index-in-15 : goal.returns-in_ok-read_index-in-15
unfolding expr_rows expr_arity map_a read_of skip
returns-in_ok-read_index-in-15 c = row _ _ 15 _ _ _ c.in-15.is (search rules)

pub returns-in-16 : goal.returns-in-16
unfolding expr_rows expr_arity map_a read_of skip
returns-in-16 c = row _ _ 16 _ _ _ c.in-16.is (search rules)

pub returns-in_default : goal.returns-in_default
returns-in_default c = row-none _ _ _ _ (step 16 _ (step 15 _ (step 14 _ (step 13 _ (step 12 _ (step 11 _ (step 10 _ (step 9 _ (step 8 _ (step 7 _ (step 6 _ (step 5 _ (step 4 _ (step 3 _ (step 2 _ (step 1 _ (step 0 _ (omega arith) c.in_default.in_default-own.rest.0.0.0.0.0.0.0.0.0.0.0.0.0.0.0.0.1) c.in_default.in_default-own.rest.0.0.0.0.0.0.0.0.0.0.0.0.0.0.0.1) c.in_default.in_default-own.rest.0.0.0.0.0.0.0.0.0.0.0.0.0.0.1) c.in_default.in_default-own.rest.0.0.0.0.0.0.0.0.0.0.0.0.0.1) c.in_default.in_default-own.rest.0.0.0.0.0.0.0.0.0.0.0.0.1) c.in_default.in_default-own.rest.0.0.0.0.0.0.0.0.0.0.0.1) c.in_default.in_default-own.rest.0.0.0.0.0.0.0.0.0.0.1) c.in_default.in_default-own.rest.0.0.0.0.0.0.0.0.0.1) c.in_default.in_default-own.rest.0.0.0.0.0.0.0.0.1) c.in_default.in_default-own.rest.0.0.0.0.0.0.0.1) c.in_default.in_default-own.rest.0.0.0.0.0.0.1) c.in_default.in_default-own.rest.0.0.0.0.0.1) c.in_default.in_default-own.rest.0.0.0.0.1) c.in_default.in_default-own.rest.0.0.0.1) c.in_default.in_default-own.rest.0.0.1) c.in_default.in_default-own.rest.0.1) c.in_default.in_default-own.rest.1)
