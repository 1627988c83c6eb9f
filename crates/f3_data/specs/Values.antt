-- Values in memory, as the meaning has them.
use Rattle.std.specs.Prelude.{List, map}
use Rattle.f3_meaning_whole.specs.Value as m
use Rattle.f3_data.specs.declared.value.Span.{Span}
use Rattle.f3_data.specs.declared.value.Value as v

abbrev pub span_of : Span → m.Span
span_of s = record { lower = s.lower; extent = s.extent }

abbrev pub spans_of : List Span → List m.Span
spans_of ss = map span_of ss

abbrev mutual
  pub value_of : v.Value → m.Value
  value_of (v.Number z) = m.Number z
  value_of (v.Truth b) = m.Truth b
  value_of (v.Composite' k vs) = m.Composite (row_of vs)
  value_of (v.Array' p ss k vs) = m.Array (spans_of ss.items) (row_of vs)
  value_of v.Unallocated = m.Unallocated
  value_of (v.Allocated' p x) = m.Allocated (value_of x)

  pub row_of : {k : _} → v.Row_of-Value k → m.Values
  row_of v.end_of-Value = m.none
  row_of (v.more_of-Value x rest) = m.more (value_of x) (row_of rest)

abbrev pub values_of : List v.Value → List m.Value
values_of vs = map value_of vs
