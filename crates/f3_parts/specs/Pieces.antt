-- What a statement is in a specification part.
use Rattle.std.specs.Prelude.{List, Option, Some}
use Rattle.f3_places.specs.declared.source.Place.{Place}
use Rattle.f3_tree.specs.declared.expression.Name.{Name}
use Rattle.f3_tree.specs.declared.declaration.Accessibility.{Accessibility}
use Rattle.f3_tree.specs.Declarations.{UseTree, AccessTree, DeclarationTree}
use Rattle.f3_form.specs.declared.form.Ended.TheVariants as ended
use Rattle.f3_form.specs.Forms.{FormTree}
use Rattle.f3_form.specs.Forms as form
use Rattle.f3_blocks.specs.Pieces.{Placed}

-- A statement at its place. USE, access and declaration statements hold theirs; the END of a type and FINAL have none
-- in a tree.
pub data Piece : Type 0 where
  use_of : UseTree → Piece
  implicit : Place → Piece
  declare : DeclarationTree → Piece
  access : AccessTree → Piece
  protect : Place → List Name → Piece
  save : Place → Piece
  type_begins : Place → Option (Place × Accessibility) → Name → Piece
  contains : Place → Piece
  final : List Name → Piece
  type_ends : Option Name → Piece
  no_piece : Piece

abbrev pub piece : Place → FormTree → Piece
piece p (form.uses u) = use_of u
piece p form.implicit_none = implicit p
piece p (form.declares d) = declare d
piece p (form.accesses a) = access a
piece p (form.protects names) = protect p names
piece p form.saves = save p
piece p (form.type_begins a n) = type_begins p a n
piece p form.contains = contains p
piece p (form.finals names) = final names
piece p (form.ends (Some ended.Type) n) = type_ends n
piece p _ = no_piece

abbrev pub piece_of : Placed → Piece
piece_of p = piece p.place p.form
