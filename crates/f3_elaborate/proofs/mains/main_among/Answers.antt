use Rattle.std.proofs.Common.{map, sym, ap, ◌∙◌, rules}
use Rattle.f3_tree.specs.declared.program.Unit.{Unit as ProgramUnit}
use Rattle.f3_elaboration.specs.Program.{is_main}
use Rattle.f3_tree.specs.Tree.{unit_view}
use Rattle.f3_elaborate.proofs.Chosen.{found_at, none_more}
use Rattle.f3_elaborate.proofs.Walks.{tree_there}
use Rattle.f3_elaborate.proofs.mains.main_among.Goals as goal

pub returns-then-is_main : goal.returns-then-is_main
returns-then-is_main c =
    let there = tree_there c.args.list.now c.loop-number.number c.index-list-number.result (search rules) c.index-list-number.is in
    sym (found_at (map unit_view c.args.list.now) c.loop-number.number (unit_view c.index-list-number.result) there (ap (λ (y : ProgramUnit). is_main y.kind) c.index-list-number.is ∙ sym c.is_main.ensures ∙ c.if-is_main.true) c.loop-number.invariant)

pub loop-number-preserved : goal.loop-number-preserved
loop-number-preserved c =
    let there = tree_there c.args.list.now c.loop-number.number c.index-list-number.result (search rules) c.index-list-number.is in
    none_more (map unit_view c.args.list.now) c.loop-number.number (unit_view c.index-list-number.result) there (ap (λ (y : ProgramUnit). is_main y.kind) c.index-list-number.is ∙ sym c.is_main.ensures ∙ c.if-is_main.false) c.loop-number.invariant
