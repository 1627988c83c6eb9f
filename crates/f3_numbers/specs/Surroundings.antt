-- What is known where a statement stands, without where it lies in memory.
use Rattle.std.specs.Prelude.{map}
use Rattle.f3_typed_parts.specs.Known.{context_of}
use Rattle.f3_elaboration.specs.Context.{Surroundings}
use Rattle.f3_numbers.specs.declared.surroundings.Surroundings.{Surroundings as Standpoint}
use Rattle.f3_numbers.specs.Table.{object_at, procedure_at, type_at}

abbrev pub surroundings_of : Standpoint → Surroundings
surroundings_of from = record {
  context = context_of from.known.now from.at;
  object = object_at from.numbers.now;
  procedure = procedure_at from.numbers.now;
  type = type_at from.numbers.now;
  lent = from.lent;
  texts = map (λ t. t.items) from.texts.now;
}
