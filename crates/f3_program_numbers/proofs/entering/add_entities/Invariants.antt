use Rattle.std.proofs.Common.{◌≡◌, ◌++◌, take}
use Rattle.f3_access.specs.Tables.{lookup_of}
use Rattle.f3_program_numbers.specs.Inner.Entering.{entities_of}
use Rattle.f3_program_numbers.proofs.entering.add_entities.Given as goal

abbrev pub invariant-loop-name : goal.invariant-loop-name
invariant-loop-name l = l.found.items ≡ l.fn.found.items ++ entities_of (lookup_of l.tables) l.scope (take l.name-index l.names)
