-- What `names` answers.
use Rattle.std.specs.Prelude.{Result, Ok, Err, Some}
use Rattle.f3_rules.specs.declared.breaks.Break.{Break}
use Rattle.f3_rules.specs.Least.{Least}
use Rattle.f3_tree.specs.Tree.{Tree}
use Rattle.f3_scopes.specs.Scopes.{scopes_of}
use Rattle.f3_graph.specs.declared.CheckFault.{CheckFault}
use Rattle.f3_graph.specs.declared.CheckFault.TheVariants.{Refused, Memory}
use Rattle.f3_graph.specs.Order.{IsRefusal}
use Rattle.f3_name_rules.specs.NameBreaks.{NameBreaks}
use Rattle.f3_names.specs.declared.table.Names.{Names}
use Rattle.f3_names.specs.Tables.{AreNames}

-- the breaks of phases 3 and 4 of a program
abbrev pub BreaksOfNames : Tree → Break → Type 0
BreaksOfNames t b = NameBreaks (scopes_of t) t.names b

-- the tables, where no rule on names is broken; else the refusal of the first break
abbrev pub NamesAnswer : Tree → Result Names CheckFault → Type 0
NamesAnswer t (Ok names) = AreNames t names × ((b : Break) → BreaksOfNames t b → ⊥)
NamesAnswer t (Err (Refused refusal)) = (b : Break) × Least (Some b) (BreaksOfNames t) × IsRefusal t.names b refusal
NamesAnswer t (Err Memory) = Unit {0}
