use Rattle.std.proofs.Common.{◌≡◌, ap, sym, ◌∙◌}
use Rattle.f3_tree.specs.Tree.{unit_view}
use Rattle.f3_elaboration.specs.Numbers.{Inner, numbers_in_main}
use Rattle.f3_program_numbers.specs.Inner.Entering.{main_inner}
use Rattle.f3_program_numbers.proofs.Entry.{main_same}
use Rattle.f3_program_numbers.proofs.Whole.{undone}
use Rattle.f3_program_numbers.proofs.entering.enter_main.Goals as goal

pub returns-clause-agrees : goal.returns-clause-agrees
returns-clause-agrees c = λ whole u f t h.
    let same : numbers_in_main u ≡ main_inner c.args.first (unit_view c.args.unit.now) = main_same u c.args.first (unit_view c.args.unit.now) f t in
    c.in_ok-entered.ensures.agrees whole (numbers_in_main u)
    (ap (λ (i : Inner). i.variables) same ∙ sym c.in_ok-variables.ensures ∙ sym c.deref.ensures.value)
    (sym (c.deref-2.ensures.value ∙ c.clear.ensures.items)) h

pub returns-clause-undoes : goal.returns-clause-undoes
returns-clause-undoes c = λ whole u f t h.
    undone c.args.numbers.now c.enter.new.numbers c.in_ok-entered.entered whole (numbers_in_main u) h (returns-clause-agrees c whole u f t h) c.in_ok-entered.ensures.inside
