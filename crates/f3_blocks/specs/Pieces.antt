-- What a statement is in a block: a whole statement, or an edge of a construct (8.1).
use Rattle.std.specs.Prelude.{List, Option, Some, None}
use Rattle.f3_places.specs.declared.source.Place.{Place}
use Rattle.f3_tree.specs.Expressions.{Tree}
use Rattle.f3_tree.specs.Statements.{Act, Selects, Controls, AssociationTree}
use Rattle.f3_form.specs.declared.form.Ended.TheVariants as ended
use Rattle.f3_form.specs.Forms.{FormTree}
use Rattle.f3_form.specs.Forms as form

-- a statement's form at the place of its first token
pub record Placed : Type 0 where
  pub place : Place
  pub form : FormTree

-- a tree holds the place of each statement but ELSE and the END of a construct
pub data Piece : Type 0 where
  act : Place → Act → Piece
  act_if : Place → Tree → Place → Act → Piece
  if_begins : Place → Tree → Piece
  else_if_begins : Place → Tree → Piece
  else_begins : Piece
  if_ends : Piece
  select_begins : Place → Tree → Piece
  case_begins : Place → Selects → Piece
  select_ends : Piece
  do_begins : Place → Controls → Piece
  do_ends : Piece
  associate_begins : Place → List AssociationTree → Piece
  associate_ends : Piece
  no_piece : Piece

abbrev pub piece : Place → FormTree → Piece
piece p (form.acts a) = act p a
piece p (form.acts_if e q a) = act_if p e q a
piece p (form.if_then e) = if_begins p e
piece p (form.else_if e) = else_if_begins p e
piece p form.else_alone = else_begins
piece p (form.select_case e) = select_begins p e
piece p (form.case_of s) = case_begins p s
piece p (form.repeats c) = do_begins p c
piece p (form.associates xs) = associate_begins p xs
piece p (form.ends (Some ended.If) None) = if_ends
piece p (form.ends (Some ended.Select) None) = select_ends
piece p (form.ends (Some ended.Do) None) = do_ends
piece p (form.ends (Some ended.Associate) None) = associate_ends
piece p _ = no_piece

abbrev pub piece_of : Placed → Piece
piece_of p = piece p.place p.form
