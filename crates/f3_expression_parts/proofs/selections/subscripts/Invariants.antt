use Rattle.std.proofs.Common.{◌≡◌, map}
use Rattle.f3_elaboration.specs.Expressions.{subscript}
use Rattle.f3_elaboration.specs.Views.{subscript_view}
use Rattle.f3_expression_parts.specs.Parts.{given_of}
use Rattle.f3_expression_parts.proofs.selections.subscripts.Given as goal

abbrev pub invariant-loop-given : goal.invariant-loop-given
invariant-loop-given l = map subscript_view l.found.items ≡ map subscript (map given_of l.yielded)
