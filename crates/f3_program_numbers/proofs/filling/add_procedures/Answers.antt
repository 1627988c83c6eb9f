use Rattle.std.proofs.Common.{ℕ, ◌∙◌, rules}
use Rattle.f3_numbers.specs.Table.{procedure_in}
use Rattle.f3_program_numbers.proofs.Positions.{with_more}
use Rattle.f3_program_numbers.proofs.filling.add_procedures.Goals as goal

pub loop-number-preserved : goal.loop-number-preserved
loop-number-preserved c = record {
  objects = λ e. c.in_ok-add_procedure.ensures.objects e ∙ c.loop-number.invariant.objects e;
  procedures =
      with_more (procedure_in c.args.numbers.now) (λ (n : ℕ). n) c.args.list.now c.loop-number.number (procedure_in c.loop-number.numbers) (procedure_in c.add_procedure.new.self) (search rules)
      c.loop-number.invariant.procedures c.in_ok-add_procedure.ensures.procedures;
  types = λ e. c.in_ok-add_procedure.ensures.types e ∙ c.loop-number.invariant.types e;
}
