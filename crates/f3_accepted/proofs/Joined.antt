-- The answers of the phases, joined.
use Rattle.std.proofs.Common.{◌≡◌, List, Err, sym, subst}
use Rattle.f3_places.specs.declared.source.Source.{Source}
use Rattle.f3_rules.specs.declared.breaks.Break.{Break}
use Rattle.f3_rules.specs.declared.refusal.Refusal.{Refusal}
use Rattle.f3_text.specs.declared.statement.TextFault.{TextFault}
use Rattle.f3_text.specs.declared.statement.TextFault.TheVariants as text_fault
use Rattle.f3_tree.specs.Tree.{Tree}
use Rattle.f3_parse.specs.Spells.{Spells, PhaseOne, Parses}
use Rattle.f3_graph.specs.declared.CheckFault.{CheckFault}
use Rattle.f3_graph.specs.declared.CheckFault.TheVariants.{Refused, Memory}
use Rattle.f3_graph.specs.Breaks.{UnitBreaks}
use Rattle.f3_graph.specs.Faults.{fault_of_text}
use Rattle.f3_graph.specs.Order.{Orders}
use Rattle.f3_names.specs.Answers.{BreaksOfNames, NamesAnswer}
use Rattle.f3_types.specs.Breaks.{TypeBreaks, BreaksOfTypes}
use Rattle.f3_types.specs.Answers.{TypesAnswer, DefinitionsAnswer}
use Rattle.f3_accepted.specs.Accepted.{Breaks, of_units, of_names, of_types, Accepted}
use Rattle.f3_accepted.specs.Inner.Phases.{Named, Defined}
use Rattle.f3_accepted.specs.Refusals.{First, of_text, of_program, Checks}
use Rattle.f3_accepted.proofs.Phases.{least_of_units, least_of_names, least_of_types, least_of_5_and_6, least_of_7}

pub text_refused : (sources : List Source) (fault : TextFault) → Parses (Err fault) sources → Checks (Err (fault_of_text fault)) sources
text_refused sources (text_fault.Refused r) h = (of_text h.0, λ t a. h.1 t a.spelled)
text_refused sources text_fault.Memory h = tt

module _ (sources : List Source) (w : Tree) (spelled : Spells w sources) (only : (t : Tree) → Spells t sources → t ≡ w) where
  -- the sources spell one tree
  breaks_here : (t : Tree) → Spells t sources → (b : Break) → Breaks t b → Breaks w b
  breaks_here t s b broken = subst (λ x. Breaks x b) (only t s) broken

  breaks_there : (t : Tree) → Spells t sources → (b : Break) → Breaks w b → Breaks t b
  breaks_there t s b broken = subst (λ x. Breaks x b) (sym (only t s)) broken

  pub program_refused : (fault : CheckFault) → Named w (Err fault) → Checks (Err fault) sources
  program_refused (Refused r) h = (of_program w h.0 spelled h.1 h.2, λ t a. a.unbroken h.0 (breaks_there t a.spelled h.0 h.1.as_said.0))
  program_refused Memory h = tt

  module _ (unbroken : (b : Break) → Breaks w b → ⊥) where
    pub accepted : Accepted sources w
    accepted = record { spelled = spelled; unbroken = unbroken }

    pub not_first : ((b : Break) → PhaseOne sources b → ⊥) → (r : Refusal) → First sources r → ⊥
    not_first one r (of_text h) = one h.0 h.1.as_said.0
    not_first one r (of_program t b s l is) = unbroken b (breaks_here t s b l.as_said.0)

-- ---- phases 2 to 7

module _ (w : Tree) where
  pub types_refused : (fault : CheckFault) → TypesAnswer w (Err fault) → Defined w (Err fault)
  types_refused (Refused r) h = (h.0, least_of_5_and_6 w h.0 h.1, h.2)
  types_refused Memory h = tt

  pub definitions_refused : ((b : Break) → BreaksOfTypes w b → ⊥) → (fault : CheckFault) → DefinitionsAnswer w (Err fault) → Defined w (Err fault)
  definitions_refused types (Refused r) h = (h.0, least_of_7 w h.0 types h.1, h.2)
  definitions_refused types Memory h = tt

  pub units_refused : (fault : CheckFault) → Orders w (Err fault) → Named w (Err fault)
  units_refused (Refused r) h = (h.0, least_of_units w h.0 h.1, h.2)
  units_refused Memory h = tt

  module _ (units : (b : Break) → UnitBreaks w b → ⊥) where
    pub names_refused : (fault : CheckFault) → NamesAnswer w (Err fault) → Named w (Err fault)
    names_refused (Refused r) h = (h.0, least_of_names w h.0 units h.1, h.2)
    names_refused Memory h = tt

    module _ (names : (b : Break) → BreaksOfNames w b → ⊥) where
      pub defined_refused : (fault : CheckFault) → Defined w (Err fault) → Named w (Err fault)
      defined_refused (Refused r) h = (h.0, least_of_types w h.0 units names h.1, h.2)
      defined_refused Memory h = tt

      pub nothing_broken : ((b : Break) → TypeBreaks w b → ⊥) → (b : Break) → Breaks w b → ⊥
      nothing_broken types b (of_units h) = units b h
      nothing_broken types b (of_names h) = names b h
      nothing_broken types b (of_types h) = types b h
