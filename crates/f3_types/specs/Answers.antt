-- What `typed` and `definitions` answer.
use Rattle.std.specs.Prelude.{Result, Ok, Err, Some}
use Rattle.f3_graph.specs.declared.CheckFault.{CheckFault}
use Rattle.f3_graph.specs.declared.CheckFault.TheVariants.{Refused, Memory}
use Rattle.f3_graph.specs.Order.{IsRefusal}
use Rattle.f3_rules.specs.declared.breaks.Break.{Break}
use Rattle.f3_rules.specs.Least.{Least}
use Rattle.f3_tree.specs.Tree.{Tree}
use Rattle.f3_types.specs.declared.table.Types.{Types}
use Rattle.f3_types.specs.Breaks.{BreaksOfTypes, BreaksOfDefinitions}
use Rattle.f3_types.specs.Types.{AreTypes}

-- the types, where no rule of phases 5 and 6 is broken; else the refusal of the first break of these
abbrev pub TypesAnswer : Tree → Result Types CheckFault → Type 0
TypesAnswer t (Ok types) = AreTypes t types × ((b : Break) → BreaksOfTypes t b → ⊥)
TypesAnswer t (Err (Refused refusal)) = (b : Break) × Least (Some b) (BreaksOfTypes t) × IsRefusal t.names b refusal
TypesAnswer t (Err Memory) = Unit {0}

-- no rule of phase 7 is broken, or it is the refusal of the first break of that
abbrev pub DefinitionsAnswer : Tree → Result Unit CheckFault → Type 0
DefinitionsAnswer t (Ok done) = (b : Break) → BreaksOfDefinitions t b → ⊥
DefinitionsAnswer t (Err (Refused refusal)) = (b : Break) × Least (Some b) (BreaksOfDefinitions t) × IsRefusal t.names b refusal
DefinitionsAnswer t (Err Memory) = Unit {0}
