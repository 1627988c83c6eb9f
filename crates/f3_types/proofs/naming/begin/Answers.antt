use Rattle.std.proofs.Common.{map, ◌∙◌}
use Rattle.f3_access.specs.Tables.{lookup_of}
use Rattle.f3_distinct_laws.proofs.Distinct.{parts_distinct}
use Rattle.f3_natures.specs.Known.{names_view}
use Rattle.f3_scopes.specs.Outlines.{scope_view}
use Rattle.f3_tree.specs.Tree.{view}
use Rattle.f3_typed_parts.specs.Known.{nature_of}
use Rattle.f3_types.proofs.Scenes.{staged}
use Rattle.f3_types.proofs.naming.begin.Goals as goal

pub things-requires-clause-distinct : goal.things-requires-clause-distinct
things-requires-clause-distinct c = parts_distinct (view c.args.program.now) c.requires.unbroken

pub returns-clause-scene : goal.returns-clause-scene
returns-clause-scene c =
    staged (view c.args.program.now) (lookup_of c.args.names.now.tables) (names_view c.in_ok-namings.namings) (map nature_of c.in_ok-things.things.items)
    (map scope_view c.outlines.result.now) c.in_ok-holders.holders.items c.in_ok-namings.ensures c.in_ok-things.ensures (c.outlines.ensures ∙ c.requires.names.scopes)
    c.in_ok-holders.ensures
