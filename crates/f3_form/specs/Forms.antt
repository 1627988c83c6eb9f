-- The forms of a statement, without where they lie in memory.
use Rattle.std.specs.Prelude.{List, map, Option}
use Rattle.f3_places.specs.declared.source.Place.{Place}
use Rattle.f3_tree.specs.declared.expression.Name.{Name}
use Rattle.f3_tree.specs.declared.declaration.Accessibility.{Accessibility}
use Rattle.f3_tree.specs.declared.program.UnitKind.{UnitKind}
use Rattle.f3_tree.specs.Expressions.{Tree, expression_view}
use Rattle.f3_tree.specs.Declarations.{UseTree, use_view, AccessTree, access_view, DeclarationTree, declaration_view}
use Rattle.f3_tree.specs.Statements.{Act, action_view, Selects, selector_view, Controls, control_view, AssociationTree, association_view}
use Rattle.f3_tree.specs.Tree.{HeaderTree, header_view}
use Rattle.f3_form.specs.declared.form.Ended.{Ended}
use Rattle.f3_form.specs.declared.form.Form.{Form}
use Rattle.f3_form.specs.declared.form.Form.TheVariants as variant

pub data FormTree : Type 0 where
  unit : UnitKind → Name → FormTree
  contains : FormTree
  ends : Option Ended → Option Name → FormTree
  procedure : HeaderTree → FormTree
  uses : UseTree → FormTree
  implicit_none : FormTree
  accesses : AccessTree → FormTree
  protects : List Name → FormTree
  saves : FormTree
  declares : DeclarationTree → FormTree
  type_begins : Option (Place × Accessibility) → Name → FormTree
  finals : List Name → FormTree
  acts : Act → FormTree
  acts_if : Tree → Place → Act → FormTree
  if_then : Tree → FormTree
  else_if : Tree → FormTree
  else_alone : FormTree
  select_case : Tree → FormTree
  case_of : Selects → FormTree
  repeats : Controls → FormTree
  associates : List AssociationTree → FormTree

abbrev pub form_view : Form → FormTree
form_view (variant.Unit kind n) = unit kind n
form_view variant.Contains = contains
form_view (variant.End what n) = ends what n
form_view (variant.Procedure h) = procedure (header_view h)
form_view (variant.Use u) = uses (use_view u)
form_view variant.ImplicitNone = implicit_none
form_view (variant.Access a) = accesses (access_view a)
form_view (variant.Protected names) = protects names.items
form_view variant.Save = saves
form_view (variant.Declare d) = declares (declaration_view d)
form_view (variant.Type access n) = type_begins access n
form_view (variant.Final names) = finals names.items
form_view (variant.Act a) = acts (action_view a)
form_view (variant.LogicalIf e p a) = acts_if (expression_view e) p (action_view a)
form_view (variant.IfThen e) = if_then (expression_view e)
form_view (variant.ElseIf e) = else_if (expression_view e)
form_view variant.Else = else_alone
form_view (variant.Select e) = select_case (expression_view e)
form_view (variant.Case s) = case_of (selector_view s)
form_view (variant.Do c) = repeats (control_view c)
form_view (variant.Associate xs) = associates (map association_view xs.items)
