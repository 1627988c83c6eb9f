-- Elaborated programs without where they lie in memory.
use Rattle.std.specs.Prelude.{map}
use Rattle.std.specs.Option.{option_map}
use Rattle.f3_program.specs.declared.declarations.Declared.{Declared}
use Rattle.f3_program.specs.declared.declarations.Component.{Component}
use Rattle.f3_program.specs.declared.declarations.Derived.{Derived}
use Rattle.f3_program.specs.declared.program.Dummy.{Dummy}
use Rattle.f3_program.specs.declared.program.Static.{Static}
use Rattle.f3_program.specs.declared.program.Procedure.{Procedure}
use Rattle.f3_program.specs.declared.program.Program.{Program}
use Rattle.f3_elaboration.specs.Nodes.{DeclaredNode, ComponentNode, DerivedNode, StaticNode, DummyNode, ProcedureNode, ProgramNode}
use Rattle.f3_elaboration.specs.Views.{statement_view}

abbrev pub declared_view : Declared → DeclaredNode
declared_view d = record { kind = d.kind; dimensions = d.dimensions.items; initial = d.initial.items }

abbrev pub component_view : Component → ComponentNode
component_view c = record { declared = declared_view c.declared; is_private = c.is_private }

abbrev pub derived_view : Derived → DerivedNode
derived_view t = record { home = t.home; components = map component_view t.components.items; finals = t.finals.items }

abbrev pub static_view : Static → StaticNode
static_view s = record { declared = declared_view s.declared; home = s.home; is_protected = s.is_protected }

abbrev pub dummy_view : Dummy → DummyNode
dummy_view d = record { kind = d.kind; intent = d.intent; lowers = d.lowers.items }

abbrev pub procedure_view : Procedure → ProcedureNode
procedure_view p = record {
  unit = p.unit;
  dummies = map dummy_view p.dummies.items;
  locals = map declared_view p.locals.items;
  result = option_map declared_view p.result;
  body = statement_view p.body;
  end = p.end;
}

-- what two elaborated programs have to share to be the same
abbrev pub program_view : Program → ProgramNode
program_view p = record {
  types = map derived_view p.types.items;
  statics = map static_view p.statics.items;
  procedures = map procedure_view p.procedures.items;
  main = procedure_view p.main;
  start = p.start;
}
