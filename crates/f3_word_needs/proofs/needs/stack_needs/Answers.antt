use Rattle.std.proofs.Common.{ℕ, List, ap, arith}
use Rattle.std.proofs.Math.Nat.{mul-le-mul_right}
use Rattle.f3_code.specs.Lower.{lowered_program}
use Rattle.f3_heights.specs.Room.{greatest}
use Rattle.f3_word_needs.specs.Names.{most_dummies}
use Rattle.f3_word_needs.proofs.Keeping.{callers_are_few, names_are_few, selectors_are_few, levels_are_few}
use Rattle.f3_word_needs.proofs.Cells.{cells_are_few}
use Rattle.f3_word_needs.proofs.needs.stack_needs.Goals as goal

pub returns-clause-enough : goal.returns-clause-enough
returns-clause-enough c = λ t told room.
    let cells = cells_are_few c.args.program.now c.args.needs.now t c.requires.deep room in
    let names = names_are_few c.args.program.now t told room in
    let opened = selectors_are_few c.args.program.now t told room in
    let levels = levels_are_few c.args.program.now t room in
    let callers = callers_are_few c.args.program.now t room in
    let dummies = mul-le-mul_right (most_dummies (lowered_program c.args.program.now).procedures) callers in
    let v = ap (λ (ks : List ℕ). greatest ks) c.deref.ensures.value in
    record {
      cells = omega (arith, cells, v);
      names = omega (arith, names);
      kept = omega (arith, opened, dummies);
      levels = omega (arith, cells, levels, v);
      callers = callers;
    }
