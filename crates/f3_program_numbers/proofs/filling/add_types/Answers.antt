use Rattle.std.proofs.Common.{ℕ, ◌∙◌, rules}
use Rattle.f3_numbers.specs.Table.{type_in}
use Rattle.f3_program_numbers.proofs.Positions.{with_more}
use Rattle.f3_program_numbers.proofs.filling.add_types.Goals as goal

pub loop-number-preserved : goal.loop-number-preserved
loop-number-preserved c = record {
  objects = λ e. c.in_ok-add_type.ensures.objects e ∙ c.loop-number.invariant.objects e;
  procedures = λ e. c.in_ok-add_type.ensures.procedures e ∙ c.loop-number.invariant.procedures e;
  types =
      with_more (type_in c.args.numbers.now) (λ (n : ℕ). n) c.args.list.now c.loop-number.number (type_in c.loop-number.numbers) (type_in c.add_type.new.self) (search rules)
      c.loop-number.invariant.types c.in_ok-add_type.ensures.types;
}
