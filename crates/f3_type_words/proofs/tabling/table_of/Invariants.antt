use Rattle.std.proofs.Common.{take}
use Rattle.f3_type_words.proofs.TableLaws.{AreTabled}
use Rattle.f3_type_words.proofs.tabling.table_of.Given as goal

abbrev pub invariant-loop-component : goal.invariant-loop-component
invariant-loop-component l = AreTabled l.tables (take l.component-index l.components) l.words l.offsets.items
