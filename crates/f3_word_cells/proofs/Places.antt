-- Activations at another place, or within a SELECT CASE.
use Rattle.std.proofs.Common.{List, refl}
use Rattle.std.specs.Prelude.{Option}
use Rattle.f3_places.specs.declared.source.Place.{Place}
use Rattle.f3_program.specs.declared.declarations.Constant.{Constant}
use Rattle.f3_program.specs.declared.program.Program.{Program}
use Rattle.f3_meaning_whole.specs.Value.{Value}
use Rattle.f3_meaning_whole.specs.Reference.{Reference}
use Rattle.f3_meaning_whole.specs.Act as act
use Rattle.f3_rooms.specs.Rooms.{Rooms}
use Rattle.f3_word_cells.specs.declared.cell.Here.{Here}
use Rattle.f3_word_cells.specs.declared.state.Name.{Name}
use Rattle.f3_word_cells.specs.Cells.{IsHere, IsSelected}

module _ (p : Program) (x : Rooms) (ns : List Name) (h : Here) (here : act.Here) (is : IsHere p x ns h here) where
  -- at a place
  pub here_at : (place : Place) → IsHere p x ns (record h { place = place }) (act.at place here)
  here_at place = record {
    place = refl;
    unit = is.unit;
    level = is.level;
    variables = is.variables;
    names = is.names;
    selected = is.selected;
    room = is.room;
    stands = is.stands;
    declared = is.declared;
  }

  -- with a value of a SELECT CASE
  pub here_selecting : (c : Option Constant) (v : Value) → IsSelected c v → IsHere p x ns (record h { selected = c }) (act.selecting v here)
  here_selecting c v e = record {
    place = is.place;
    unit = is.unit;
    level = is.level;
    variables = is.variables;
    names = is.names;
    selected = e;
    room = is.room;
    stands = is.stands;
    declared = is.declared;
  }

  -- whatever is lent
  pub here_lending : (lent : List Reference) → IsHere p x ns h (record here { lent = lent })
  here_lending lent = record {
    place = is.place;
    unit = is.unit;
    level = is.level;
    variables = is.variables;
    names = is.names;
    selected = is.selected;
    room = is.room;
    stands = is.stands;
    declared = is.declared;
  }
