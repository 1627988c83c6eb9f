use Rattle.std.proofs.Common.{◌∙◌, ap, ◌||◌, not}
use Rattle.f3_rules.specs.declared.rule.Rule.TheVariants.{T12}
use Rattle.f3_kinds.specs.Rows.{at_name, unless}
use Rattle.f3_typed_parts.specs.Noted.{noted}
use Rattle.f3_type_rules.specs.Declarations.{is_finalizable}
use Rattle.f3_type_rules.specs.Names.{type_of}
use Rattle.f3_type_rules.specs.Scene.{Scene}
use Rattle.f3_declared.specs.Scenery.{scene_in}
use Rattle.f3_declared.proofs.specifiers.local.Goals as goal

pub returns : goal.returns
returns c =
    let scene : Scene = scene_in c.args.known.now c.args.scenery in
    c.unless.ensures
    ∙ ap (λ b. noted c.args.first.now (unless c.either-right.result b)) c.at_name.ensures
    ∙ ap (λ z. noted c.args.first.now (unless z (at_name 5 T12 c.args.entity.now.name)))
    (c.either-right.ensures
    ∙ ap (λ z. not z || c.may_finalize-may.result) (c.is_finalizable-finalizable.ensures ∙ ap (is_finalizable scene) c.type_of-data_type.ensures)
    ∙ ap (λ z. not (is_finalizable scene (type_of scene.names c.args.spot.now.scope c.args.reading.now.declaration.now.specifier)) || z) (c.may_finalize-may.ensures scene))
