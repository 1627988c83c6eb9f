use Rattle.f3_tree.specs.Declarations.{entity_view}
use Rattle.f3_declared.specs.Declarations.{tree_of}
use Rattle.f3_program_numbers.specs.Chosen.{choice_of}
use Rattle.f3_program_numbers.proofs.Choosing.{parameter_once, constant_not, saved_taken, other_taken}
use Rattle.f3_program_numbers.proofs.wanted.takes.Goals as goal

pub returns-then-reading : goal.returns-then-reading
returns-then-reading c =
    constant_not (choice_of c.args.wanted) (tree_of c.args.reading.now, entity_view c.args.entity.now) c.args.reading.now.kinds.parameter.once
    (parameter_once c.args.reading.now c.requires) c.if-reading.true

pub returns-then-is_saved : goal.returns-then-is_saved
returns-then-is_saved c =
    saved_taken (choice_of c.args.wanted) (tree_of c.args.reading.now, entity_view c.args.entity.now) c.args.reading.now.kinds.parameter.once c.is_saved.result
    (parameter_once c.args.reading.now c.requires) c.if-reading.false c.is_saved.ensures c.if-is_saved.true

pub returns-then-wanted : goal.returns-then-wanted
returns-then-wanted c =
    other_taken (choice_of c.args.wanted) (tree_of c.args.reading.now, entity_view c.args.entity.now) c.args.reading.now.kinds.parameter.once c.is_saved.result c.is_in_header.result
    (parameter_once c.args.reading.now c.requires) c.if-reading.false c.is_saved.ensures c.if-is_saved.false c.if-wanted.true c.is_in_header.ensures
