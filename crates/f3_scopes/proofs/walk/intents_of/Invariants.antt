use Rattle.std.proofs.Common.{◌≡◌, ◌++◌, map, drop}
use Rattle.f3_scopes.specs.Scopes.{intents_of}
use Rattle.f3_tree.specs.Declarations.{placed_view}
use Rattle.f3_scopes.proofs.walk.intents_of.Given as goal

abbrev pub invariant-loop-attribute : goal.invariant-loop-attribute
invariant-loop-attribute l = l.found.items ++ intents_of (map placed_view (drop l.attribute-index l.list)) ≡ intents_of (map placed_view l.list)
