use Rattle.std.proofs.Common.{ℕ, List, Option, map, ap, ◌∙◌}
use Rattle.std.specs.Global.{Vec}
use Rattle.f3_graph.specs.Order.{numbers_of}
use Rattle.f3_kinds.specs.declared.types.Scalar.{Scalar}
use Rattle.f3_names.specs.Tables.{lookup_at}
use Rattle.f3_tree.specs.Tree.{view}
use Rattle.f3_type_rules.specs.Scene.{Scene}
use Rattle.f3_types.proofs.Counting.{settled}
use Rattle.f3_types.proofs.Standing.{things_long}
use Rattle.f3_elaborate.proofs.Whole.{knows, mapped, scene_there, values_there, whole_of}
use Rattle.f3_elaborate.proofs.elaborate.elaborate.Goals as goal

pub program_of-made-requires-clause-settled : goal.program_of-made-requires-clause-settled
program_of-made-requires-clause-settled c =
    let t = view c.args.program.now in
    let scene = c.in_ok-site.ensures.scene in
    settled t c.args.names.now.tables c.in_ok-site.field-0.site c.requires.names.tables (ap (λ (s : Scene). (s.names).look) scene)
    (things_long t (lookup_at c.args.names.now) c.in_ok-site.field-0.site.known.things.items (ap (λ (s : Scene). s.natures) scene))

pub returns : goal.returns
returns c =
    let t = view c.args.program.now in
    let look = lookup_at c.args.names.now in
    let order : List ℕ = numbers_of c.args.order.now in
    let scene =
    scene_there c.in_ok-site.field-0.site.known c.in_ok-site.field-0.kinds.items c.deref-2.result.now c.in_ok-site.field-0.holders.items c.deref-3.result.now _
    c.deref-2.ensures.value c.deref-3.ensures.value c.in_ok-site.ensures.scene in
    let values =
    values_there t look order c.args.types.values.items c.in_ok-site.field-0.site.known.values.items
    (ap (λ (v : Vec (Option Scalar)). v.items) c.in_ok-site.ensures.values ∙ c.tables-things.ensures.values) c.requires.types.values in
    let known = knows t look order _ _ scene values c.in_ok-numbers.ensures (ap (map (λ x. x.items)) c.deref.ensures.value) in
    mapped c.program_of-made.result (λ p h. h (whole_of t look order) known) c.program_of-made.ensures
