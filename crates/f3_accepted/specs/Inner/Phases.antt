-- What the phases behind the text answer: the order, names and types of a program that breaks none of their rules, or its first break.
use Rattle.std.specs.Prelude.{Result, Ok, Err, Some}
use Rattle.f3_rules.specs.declared.breaks.Break.{Break}
use Rattle.f3_rules.specs.Least.{Least}
use Rattle.f3_tree.specs.Tree.{Tree}
use Rattle.f3_graph.specs.declared.CheckFault.{CheckFault}
use Rattle.f3_graph.specs.declared.CheckFault.TheVariants.{Refused, Memory}
use Rattle.f3_graph.specs.declared.UnitOrder.{UnitOrder}
use Rattle.f3_graph.specs.Order.{IsOrder, IsRefusal, numbers_of}
use Rattle.f3_names.specs.declared.table.Names.{Names}
use Rattle.f3_names.specs.Tables.{AreNames, lookup_at}
use Rattle.f3_types.specs.declared.table.Types.{Types}
use Rattle.f3_types.specs.Breaks.{TypeBreaks}
use Rattle.f3_types.specs.Types.{AreTypes, AreTypesAlong}
use Rattle.f3_accepted.specs.Accepted.{Breaks}

-- phases 2 to 7
abbrev pub Named : Tree → Result (UnitOrder × Names × Types) CheckFault → Type 0
Named t (Ok found) =
    IsOrder t found.0 × AreNames t found.1 × AreTypes t found.2 × ((b : Break) → Breaks t b → ⊥)
    × AreTypesAlong t (lookup_at found.1) (numbers_of found.0) found.2
Named t (Err (Refused refusal)) = (b : Break) × Least (Some b) (Breaks t) × IsRefusal t.names b refusal
Named t (Err Memory) = Unit {0}

-- phases 5 to 7
abbrev pub Defined : Tree → Result Types CheckFault → Type 0
Defined t (Ok types) = AreTypes t types × ((b : Break) → TypeBreaks t b → ⊥)
Defined t (Err (Refused refusal)) = (b : Break) × Least (Some b) (TypeBreaks t) × IsRefusal t.names b refusal
Defined t (Err Memory) = Unit {0}
