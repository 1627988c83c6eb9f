-- What stands in memory of the parts of an expression, without where it lies.
use Rattle.std.specs.Prelude.{map}
use Rattle.std.specs.Option.{option_map}
use Rattle.f3_elaboration.specs.Expressions as e
use Rattle.f3_elaboration.specs.Views.{expression_view}
use Rattle.f3_expression_parts.specs.declared.given.Given.{Given}
use Rattle.f3_expression_parts.specs.declared.given.Given.TheVariants as given
use Rattle.f3_expression_parts.specs.declared.given.Part.{Part}
use Rattle.f3_expression_parts.specs.declared.operators.Operand.{Operand}

abbrev pub given_of : Given → e.Given
given_of (given.Value keyword x) = e.value keyword (expression_view x)
given_of (given.Triplet first last stride) = e.triplet (option_map expression_view first) (option_map expression_view last) (option_map expression_view stride)

abbrev pub part_of : Part → e.Part
part_of p = (p.name, option_map (λ v. map given_of v.items) p.given)

abbrev pub operand_of : Operand → e.Operand
operand_of x = (expression_view x.value, x.kind)
