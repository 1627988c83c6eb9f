use Rattle.std.proofs.Common.{◌≡◌, ◌++◌, map, drop}
use Rattle.f3_scopes.specs.Scopes.{renamed}
use Rattle.f3_scopes.proofs.walk.renames.Given as goal

abbrev pub invariant-loop-rename : goal.invariant-loop-rename
invariant-loop-rename l = l.items.items ++ map renamed (drop l.rename-index l.list) ≡ map renamed l.list
