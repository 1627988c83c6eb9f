-- What values hold, in memory, and the values of a SELECT CASE one by one.
use Rattle.std.specs.Prelude.{List, [], ◌∷◌, ◌++◌, not, Option, None, Some}
use Rattle.std.specs.List.{list_any}
use Rattle.f3_places.specs.declared.source.Place.{Place}
use Rattle.f3_rules.specs.declared.rule.Rule.TheVariants.{T11}
use Rattle.f3_rules.specs.declared.breaks.Break.{Break}
use Rattle.f3_tree.specs.declared.statement.CaseValue.{CaseValue}
use Rattle.f3_tree.specs.Statements.{case_view}
use Rattle.f3_kinds.specs.declared.types.DataType.{DataType}
use Rattle.f3_kinds.specs.declared.types.Scalar.{Scalar}
use Rattle.f3_kinds.specs.Things.{Context}
use Rattle.f3_kinds.specs.Rows.{at_place, unless}
use Rattle.f3_type_rules.specs.Cases.{Span, no_span, numbers, truths, half_span, span_of, case_place, case_rows, meets}
use Rattle.f3_cases.specs.declared.spans.Span.{Span as Stored}
use Rattle.f3_cases.specs.declared.spans.Span.TheVariants as stored
use Rattle.f3_cases.specs.declared.spans.Held.{Held}

abbrev pub span_view : Stored → Span
span_view stored.Nothing = no_span
span_view (stored.Numbers first last) = numbers first last
span_view (stored.Truth b) = truths b

abbrev pub from_span : Option Scalar → Span
from_span v = half_span v (λ z. numbers (Some z) None)

abbrev pub up_to_span : Option Scalar → Span
up_to_span v = half_span v (λ z. numbers None (Some z))

abbrev pub held_view : Held → Span × Place
held_view h = (span_view h.span, h.place)

-- of one value: what it holds, and its breaks but for those by other values
abbrev pub held_value : Context → Option DataType → CaseValue → Span × Place
held_value c t v = (span_of c t (case_view v), case_place c (case_view v))

abbrev pub value_rows : Context → Option DataType → CaseValue → List Break
value_rows c t v = case_rows c t (case_view v)

-- what meets what stands before it
abbrev pub overlaps : List Span → List (Span × Place) → List Break
overlaps spans [] = []
overlaps spans (h ∷ hs) = unless (not (list_any (meets h.0) spans)) (at_place 6 T11 h.1) ++ overlaps (h.0 ∷ spans) hs
