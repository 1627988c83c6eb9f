use Rattle.std.proofs.Common.{List, refl}
use Rattle.f3_graph.specs.Order.{numbers_of}
use Rattle.f3_scopes.specs.Scopes.{scopes_of}
use Rattle.f3_tree.specs.Tree.{view}
use Rattle.f3_type_rules.specs.Members.{Numbered, units_from}
use Rattle.f3_type_rules.specs.Program.{units_in}
use Rattle.f3_numbers.specs.Agrees.{nothing_inside}
use Rattle.f3_elaborate.proofs.Placing.{stands_inside}
use Rattle.f3_elaborate.proofs.Whole.{made}
use Rattle.f3_elaborate.proofs.programs.program_of.Goals as goal

pub returns : goal.returns
returns c = λ w known.
    let standing = stands_inside c.args.scenery c.args.state.now w _ nothing_inside known refl refl known.numbers in
    let t = view c.args.program.now in
    let units : List Numbered = units_from (scopes_of t) 0 t.units in
    made w units (units_in units (numbers_of c.args.order.now)) c.args.program.now.end _ _ _ _ _
    (c.in_ok-types.ensures.types w standing)
    (c.in_ok-types.ensures.statics w standing)
    (c.in_ok-procedures.ensures.procedures w known)
    (c.in_ok-procedures.ensures.main w known)
    c.in_ok-procedures.ensures.start
