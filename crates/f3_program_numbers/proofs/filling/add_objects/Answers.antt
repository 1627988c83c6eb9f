use Rattle.std.proofs.Common.{get_or, ap, ◌∙◌, rules}
use Rattle.f3_program.specs.declared.expression.Name.{Name}
use Rattle.f3_numbers.specs.Table.{object_in, with_one}
use Rattle.f3_program_numbers.specs.Filled.{name_at}
use Rattle.f3_program_numbers.proofs.Positions.{with_more}
use Rattle.f3_program_numbers.proofs.filling.add_objects.Goals as goal

pub loop-number-preserved : goal.loop-number-preserved
loop-number-preserved c = record {
  objects =
      with_more (object_in c.args.numbers.now) (name_at c.args.storage) c.args.list.now c.loop-number.number (object_in c.loop-number.numbers) (object_in c.add_object.new.numbers) (search rules)
      c.loop-number.invariant.objects
      (λ e. c.in_ok-add_object.ensures.objects e
      ∙ ap (λ (n : Name). with_one (object_in c.loop-number.numbers) (get_or c.args.list.now c.loop-number.number 0) n e) c.name_at-name.ensures);
  procedures = λ e. c.in_ok-add_object.ensures.procedures e ∙ c.loop-number.invariant.procedures e;
  types = λ e. c.in_ok-add_object.ensures.types e ∙ c.loop-number.invariant.types e;
  added = λ e. c.in_ok-add_object.ensures.added e ∙ c.loop-number.invariant.added e;
}
