use Rattle.std.proofs.Common.{map, sym, ◌∙◌, ◌<◌, length, rules}
use Rattle.f3_cells.specs.Cells.{passed_of}
use Rattle.f3_value_steps.proofs.Positions.{stands_inside, stands_at, none_at}
use Rattle.f3_value_steps.proofs.structures.argument_at.Goals as goal

pub offset_bounds-passed-position : goal.offset_bounds-passed-position
offset_bounds-passed-position c =
    let inside : c.in-Some.position < length c.args.passed.now =
    stands_inside c.args.number c.args.passed.now c.in-Some.position (sym (c.requires.firsts c.args.number c.requires.inside) ∙ c.in-Some.is) in
    search rules

pub bounds-passed-position : goal.bounds-passed-position
bounds-passed-position c =
    stands_inside c.args.number c.args.passed.now c.in-Some.position (sym (c.requires.firsts c.args.number c.requires.inside) ∙ c.in-Some.is)

pub returns-in-Some : goal.returns-in-Some
returns-in-Some c =
    stands_at c.args.number c.args.passed.now c.index-passed-position.result c.in-Some.position
    (sym (c.requires.firsts c.args.number c.requires.inside) ∙ c.in-Some.is) c.index-passed-position.is

pub returns-in-None : goal.returns-in-None
returns-in-None c = none_at c.args.number (map passed_of c.args.passed.now) 0 (sym (c.requires.firsts c.args.number c.requires.inside) ∙ c.in-None.is)
