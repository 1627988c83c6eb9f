-- A program without where it lies in memory: what two trees have to share to be the same tree.
use Rattle.std.specs.Prelude.{ℕ, Bool, List, map, Option}
use Rattle.std.specs.String.{string_bytes}
use Rattle.f3_places.specs.declared.source.Place.{Place}
use Rattle.f3_tree.specs.declared.expression.Name.{Name}
use Rattle.f3_tree.specs.declared.program.ProcedureKind.{ProcedureKind}
use Rattle.f3_tree.specs.declared.program.Header.{Header}
use Rattle.f3_tree.specs.declared.program.Procedure.{Procedure}
use Rattle.f3_tree.specs.declared.program.UnitKind.{UnitKind}
use Rattle.f3_tree.specs.declared.program.Unit.{Unit as ProgramUnit}
use Rattle.f3_tree.specs.declared.program.Program.{Program}
use Rattle.f3_tree.specs.Declarations.{PartTree, part_tree}
use Rattle.f3_tree.specs.Statements.{Block, block_view}

pub record HeaderTree : Type 0 where
  pub place : Place
  pub pure : Bool
  pub recursive : Bool
  pub kind : ProcedureKind
  pub name : Name
  pub dummies : List Name

abbrev pub header_view : Header → HeaderTree
header_view h = record { place = h.place; pure = h.pure; recursive = h.recursive; kind = h.kind; name = h.name; dummies = h.dummies.items }

pub record ProcedureTree : Type 0 where
  pub header : HeaderTree
  pub part : PartTree
  pub body : Block
  pub end : Place

abbrev pub procedure_view : Procedure → ProcedureTree
procedure_view p = record { header = header_view p.header; part = part_tree p.part; body = block_view p.body; end = p.end }

pub record UnitTree : Type 0 where
  pub place : Place
  pub kind : UnitKind
  pub name : Name
  pub part : PartTree
  pub body : Block
  pub contains : Option Place
  pub procedures : List ProcedureTree
  pub end : Place

abbrev pub unit_view : ProgramUnit → UnitTree
unit_view u = record {
  place = u.place;
  kind = u.kind;
  name = u.name;
  part = part_tree u.part;
  body = block_view u.body;
  contains = u.contains;
  procedures = map procedure_view u.procedures.items;
  end = u.end;
}

-- a program: the texts of its names, each once, its character constants, its units, and the end of its last source
pub record Tree : Type 0 where
  pub names : List (List ℕ)
  pub texts : List (List ℕ)
  pub units : List UnitTree
  pub end : Place

abbrev pub view : Program → Tree
view p = record {
  names = map string_bytes p.names.keys;
  texts = map (λ t. t.items) p.texts.items;
  units = map unit_view p.units.items;
  end = p.end;
}
