-- Facts on layouts have one proof at most.
use Rattle.std.proofs.Common.{ℕ, ◌+◌, List, [], ◌∷◌}
use Rattle.std.proofs.Props.{props}
use Rattle.std.specs.Prelude.{Bool, true, false, Option, None, Some}
use Rattle.std.specs.Bool.{MatchBool}
use Rattle.f3_program.specs.declared.declarations.Declared.{Declared}
use Rattle.f3_program.specs.declared.program.Procedure.{Procedure}
use Rattle.f3_program.specs.declared.program.Program.{Program}
use Rattle.f3_meaning_whole.specs.Shape.{Shape, Whole, Logical, Record, Parts, nothing, and}
use Rattle.f3_rooms.specs.Forms.{room}
use Rattle.f3_type_words.specs.declared.table.TypeTable.{TypeTable}
use Rattle.f3_type_words.specs.Tables.{IsTable, AreTables}
use Rattle.f3_room_frames.specs.declared.layout.Variable.{Variable}
use Rattle.f3_room_frames.specs.declared.layout.Layout.{Layout}
use Rattle.f3_rooms.specs.Laws.{IsBare, AreBare}
use Rattle.f3_room_frames.specs.Bare.{TellBare}
use Rattle.f3_room_frames.specs.FlatTypes.{TellFlat}
use Rattle.f3_room_frames.specs.Sound.{CanStand}
use Rattle.f3_room_frames.specs.Layouts.{StandsFrom, AreLaidOut, IsLayout, HasLayout, HaveLayouts, AreLayouts, CanBeLaidOut}

can-prop : (ts : List Shape) (ds : List Declared) → IsProp (CanStand ts ds)
can-prop ts ds = hlevel props

stands-prop : (ts : List Shape) (at : ℕ) (d : Declared) (v : Variable) → IsProp (StandsFrom ts at d v)
stands-prop ts at d v = hlevel props

laid-prop : (ts : List Shape) (at : ℕ) (ds : List Declared) (vs : List Variable) → IsProp (AreLaidOut ts at ds vs)
laid-prop ts at [] [] = hlevel props
laid-prop ts at [] (v ∷ vs) = hlevel props
laid-prop ts at (d ∷ ds) [] = hlevel props
laid-prop ts at (d ∷ ds) (v ∷ vs) = hlevel (props, stands-prop, laid-prop ts (at + room ts d) ds vs)

layout-prop : (ts : List Shape) (ds : List Declared) (l : Layout) → IsProp (IsLayout ts ds l)
layout-prop ts ds l = hlevel (props, can-prop, laid-prop)

has-prop : (ts : List Shape) (ds : List Declared) (l : Option Layout) → IsProp (HasLayout ts ds l)
has-prop ts ds None = hlevel props
has-prop ts ds (Some l) = layout-prop ts ds l

have-prop : (ts : List Shape) (qs : List Procedure) (ls : List (Option Layout)) → IsProp (HaveLayouts ts qs ls)
have-prop ts [] [] = hlevel props
have-prop ts [] (l ∷ ls) = hlevel props
have-prop ts (q ∷ qs) [] = hlevel props
have-prop ts (q ∷ qs) (l ∷ ls) = hlevel (props, has-prop, have-prop ts qs ls)

pub layouts-prop : (p : Program) (s m : Layout) (ls : List (Option Layout)) → IsProp (AreLayouts p s m ls)
layouts-prop p s m ls = hlevel (props, layout-prop, have-prop)

table-prop : (s : Shape) (x : TypeTable) → IsProp (IsTable s x)
table-prop Whole x = hlevel props
table-prop Logical x = hlevel props
table-prop (Record t parts) x = hlevel props

pub tables-prop : (ss : List Shape) (xs : List TypeTable) → IsProp (AreTables ss xs)
tables-prop [] [] = hlevel props
tables-prop [] (x ∷ xs) = hlevel props
tables-prop (s ∷ ss) [] = hlevel props
tables-prop (s ∷ ss) (x ∷ xs) = hlevel (props, table-prop, tables-prop ss xs)

pub fits-prop : (p : Program) → IsProp (CanBeLaidOut p)
fits-prop p = hlevel (props, can-prop)

mutual
  bare_type-prop : (s : Shape) → IsProp (IsBare s)
  bare_type-prop Whole = hlevel props
  bare_type-prop Logical = hlevel props
  bare_type-prop (Record t parts) = bare_parts-prop parts

  bare_parts-prop : (parts : Parts) → IsProp (AreBare parts)
  bare_parts-prop nothing = hlevel props
  bare_parts-prop (and c s rest) = hlevel (props, bare_type-prop s, bare_parts-prop rest)

tells-prop : (b : Bool) (s : Shape) → IsProp (MatchBool b (IsBare s) (IsBare s → ⊥))
tells-prop true s = bare_type-prop s
tells-prop false s = hlevel props

pub bare-prop : (ss : List Shape) (bs : List Bool) → IsProp (TellBare ss bs)
bare-prop [] [] = hlevel props
bare-prop [] (b ∷ bs) = hlevel props
bare-prop (s ∷ ss) [] = hlevel props
bare-prop (s ∷ ss) (b ∷ bs) = hlevel (props, tells-prop, bare-prop ss bs)

pub flat-prop : (ss : List Shape) (bs : List Bool) → IsProp (TellFlat ss bs)
flat-prop ss bs = hlevel props
