-- The answers of the phases, joined.
use Rattle.std.proofs.Common.{◌≡◌, List, Err, Some, String, sym, subst}
use Rattle.std.specs.Global.{Global}
use Rattle.std.specs.String.{string_bytes}
use Rattle.f3_places.specs.declared.source.Source.{Source}
use Rattle.f3_rules.specs.declared.breaks.Break.{Break}
use Rattle.f3_rules.specs.declared.refusal.Refusal.{Refusal}
use Rattle.f3_rules.specs.Least.{Least}
use Rattle.f3_text.specs.declared.statement.TextFault.{TextFault}
use Rattle.f3_text.specs.declared.statement.TextFault.TheVariants as text_fault
use Rattle.f3_tree.specs.Tree.{Tree}
use Rattle.f3_access.specs.Tables.{own_of}
use Rattle.f3_parse.specs.Spells.{Spells, PhaseOne, Parses}
use Rattle.f3_graph.specs.declared.CheckFault.{CheckFault}
use Rattle.f3_graph.specs.declared.CheckFault.TheVariants.{Refused, Memory}
use Rattle.f3_graph.specs.Breaks.{UnitBreaks}
use Rattle.f3_graph.specs.Faults.{fault_of_text}
use Rattle.f3_graph.specs.Order.{IsRefusal, Orders}
use Rattle.f3_names.specs.declared.table.Names.{Names}
use Rattle.f3_names.specs.Tables.{AreNames}
use Rattle.f3_names.specs.Answers.{BreaksOfNames, NamesAnswer}
use Rattle.f3_name_table.specs.NameTable.{table_text}
use Rattle.f3_name_table.specs.Answers.{EarlyBreaks, of_units, of_names, FirstOfNames, of_text, of_program, Shows, Answers}
use Rattle.f3_name_table.proofs.Phases.{least_of_units, least_of_names}

pub text_refused : (sources : List Source) (fault : TextFault) → Parses (Err fault) sources → Answers (Err (fault_of_text fault)) sources
text_refused sources (text_fault.Refused r) h = (of_text h.0, λ text s. h.1 s.tree s.spelled)
text_refused sources text_fault.Memory h = tt

module _ (sources : List Source) (w : Tree) (spelled : Spells w sources) (only : (t : Tree) → Spells t sources → t ≡ w) where
  program_refused : (f : Break) (r : Refusal) → Least (Some f) (EarlyBreaks w) → IsRefusal w.names f r → FirstOfNames sources r × ((text : String Global) → Shows sources text → ⊥)
  program_refused f r l is = (of_program w f spelled l is, λ text s. s.unbroken f (subst (λ (t : Tree). EarlyBreaks t f) (sym (only s.tree s.spelled)) l.as_said.0))

  pub units_refused : (fault : CheckFault) → Orders w (Err fault) → Answers (Err fault) sources
  units_refused (Refused r) h = program_refused h.0 r (least_of_units w h.0 h.1) h.2
  units_refused Memory h = tt

  module _ (units : (b : Break) → UnitBreaks w b → ⊥) where
    pub names_refused : (fault : CheckFault) → NamesAnswer w (Err fault) → Answers (Err fault) sources
    names_refused (Refused r) h = program_refused h.0 r (least_of_names w h.0 units h.1) h.2
    names_refused Memory h = tt

    module _ (none : (b : Break) → BreaksOfNames w b → ⊥) where
      nothing_broken : (b : Break) → EarlyBreaks w b → ⊥
      nothing_broken b (of_units h) = units b h
      nothing_broken b (of_names h) = none b h

      not_first : ((b : Break) → PhaseOne sources b → ⊥) → (r : Refusal) → FirstOfNames sources r → ⊥
      not_first one r (of_text h) = one h.0 h.1.as_said.0
      not_first one r (of_program t b s l is) = nothing_broken b (subst (λ (v : Tree). EarlyBreaks v b) (only t s) l.as_said.0)

      pub shown : (names : Names) (text : String Global) → AreNames w names → ((b : Break) → PhaseOne sources b → ⊥) → string_bytes text ≡ table_text w (own_of names.tables)
          → Shows sources text × ((r : Refusal) → FirstOfNames sources r → ⊥)
      shown names text are one same = (record { tree = w; spelled = spelled; unbroken = nothing_broken; shown = (names, are, same) }, not_first one)
