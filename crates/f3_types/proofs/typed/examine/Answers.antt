use Rattle.std.proofs.Common.{ap, ◌∙◌}
use Rattle.f3_access.specs.Tables.{lookup_of}
use Rattle.f3_graph.specs.Order.{numbers_of}
use Rattle.f3_tree.specs.Tree.{view}
use Rattle.f3_types.specs.Scenes.{scene_with}
use Rattle.f3_types.proofs.Ending.{least_of_types}
use Rattle.f3_types.proofs.typed.examine.Goals as goal

pub declare-requires-clause-scene : goal.declare-requires-clause-scene
declare-requires-clause-scene c =
    let start = c.in_ok-known.field-0 in
    ap (λ ks. scene_with start.known ks c.deref-2.result.now) c.deref.ensures.value
    ∙ ap (λ hs. scene_with start.known start.kinds.items hs) c.deref-2.ensures.value
    ∙ c.in_ok-known.ensures.scene

pub returns-clause-first : goal.returns-clause-first
returns-clause-first c =
    least_of_types (view c.args.program.now) (lookup_of c.args.names.now.tables) (numbers_of c.args.order.now) _ _ c.requires.names.tables.resolves c.requires.order
    c.in_ok-declared.ensures.noted c.in_ok-types.ensures.noted
