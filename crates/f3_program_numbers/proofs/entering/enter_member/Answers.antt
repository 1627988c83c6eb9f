use Rattle.std.proofs.Common.{◌≡◌, ◌++◌, List, ℕ, ap, sym, ◌∙◌}
use Rattle.f3_access.specs.Tables.{lookup_of}
use Rattle.f3_tree.specs.declared.expression.Name.{Name}
use Rattle.f3_tree.specs.Tree.{procedure_view}
use Rattle.f3_elaboration.specs.Numbers.{Inner, numbers_in_member}
use Rattle.f3_program_numbers.specs.Inner.Entering.{entities_of, member_inner}
use Rattle.f3_program_numbers.proofs.Entry.{member_same}
use Rattle.f3_program_numbers.proofs.Whole.{undone}
use Rattle.f3_program_numbers.proofs.entering.enter_member.Goals as goal

pub returns-clause-agrees : goal.returns-clause-agrees
returns-clause-agrees c = λ whole unit m s f t h.
    let look = lookup_of c.args.tables.now in
    let same : numbers_in_member look unit m ≡ member_inner look c.args.scope c.args.first (procedure_view c.args.procedure.now) =
    member_same look unit m c.args.scope c.args.first (procedure_view c.args.procedure.now) s f t in
    c.in_ok-entered.ensures.agrees whole (numbers_in_member look unit m)
    (ap (λ (i : Inner). i.variables) same ∙ sym c.in_ok-variables.ensures ∙ sym c.deref-2.ensures.value)
    (ap (λ (i : Inner). i.lent) same
    ∙ sym (c.deref-3.ensures.value ∙ c.in_ok-add_entities.ensures ∙ ap (λ (l : List ℕ). l ++ entities_of look c.args.scope c.deref.result.now) c.clear.ensures.items
    ∙ ap (λ (ns : List Name). entities_of look c.args.scope ns) c.deref.ensures.value))
    h

pub returns-clause-undoes : goal.returns-clause-undoes
returns-clause-undoes c = λ whole unit m s f t h.
    undone c.args.numbers.now c.enter.new.numbers c.in_ok-entered.entered whole (numbers_in_member (lookup_of c.args.tables.now) unit m) h
    (returns-clause-agrees c whole unit m s f t h) c.in_ok-entered.ensures.inside
