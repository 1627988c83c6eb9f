use Rattle.std.proofs.Common.{map, ap, sym, ◌∙◌}
use Rattle.f3_access.specs.Tables.{lookup_of}
use Rattle.f3_scopes.specs.Outlines.{scope_view}
use Rattle.f3_tree.specs.Tree.{view}
use Rattle.f3_typed_parts.specs.Known.{nature_of}
use Rattle.f3_type_rules.specs.Natures.{settled}
use Rattle.f3_natures.specs.Known.{names_view}
use Rattle.f3_natures.specs.Natures.{natures_of}
use Rattle.f3_types.specs.Scenes.{scene_with}
use Rattle.f3_types.proofs.Scenes.{staged}
use Rattle.f3_elaborate.proofs.beginning.begin.Goals as goal

pub returns-clause-scene : goal.returns-clause-scene
returns-clause-scene c =
    let t = view c.args.program.now in
    ap (λ k. scene_with k c.in_ok-tables.field-0.kinds.items c.in_ok-holders.holders.items) c.in_ok-site.ensures.known
    ∙ staged t (lookup_of c.args.names.now.tables) (names_view c.in_ok-tables.field-0) (map nature_of c.args.things.items)
    (map scope_view c.outlines.result.now) c.in_ok-holders.holders.items c.in_ok-tables.ensures
    (c.requires.natures ∙ sym (ap (λ n. settled (natures_of n t)) c.in_ok-tables.ensures)) (c.outlines.ensures ∙ c.requires.names.scopes)
    c.in_ok-holders.ensures
