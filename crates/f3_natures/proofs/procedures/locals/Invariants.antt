use Rattle.std.proofs.Common.{◌≡◌, map, drop}
use Rattle.f3_tree.specs.Declarations.{specification_view}
use Rattle.f3_natures.specs.Known.{names_view}
use Rattle.f3_natures.specs.Entries.{firsts, firsts_after}
use Rattle.f3_natures.specs.Procedures.{described_all}
use Rattle.f3_natures.proofs.procedures.locals.Given as goal

abbrev pub invariant-loop-specification : goal.invariant-loop-specification
invariant-loop-specification l =
    firsts_after l.found.entries (described_all (names_view l.names) l.scope (map specification_view (drop l.specification-index l.list)))
    ≡ firsts (described_all (names_view l.names) l.scope (map specification_view l.list))
