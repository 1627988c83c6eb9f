use Rattle.std.proofs.Common.{◌∙◌, rules}
use Rattle.f3_program.specs.declared.expression.Name.TheVariants.{Static}
use Rattle.f3_numbers.specs.Table.{object_in}
use Rattle.f3_program_numbers.proofs.Positions.{with_more}
use Rattle.f3_program_numbers.proofs.filling.add_statics.Goals as goal

pub loop-number-preserved : goal.loop-number-preserved
loop-number-preserved c = record {
  objects =
      with_more (object_in c.args.numbers.now) Static c.args.list.now c.loop-number.number (object_in c.loop-number.numbers) (object_in c.add_object.new.self) (search rules)
      c.loop-number.invariant.objects c.in_ok-add_object.ensures.objects;
  procedures = λ e. c.in_ok-add_object.ensures.procedures e ∙ c.loop-number.invariant.procedures e;
  types = λ e. c.in_ok-add_object.ensures.types e ∙ c.loop-number.invariant.types e;
}
