-- The initializers and the bounds in the specification parts of units that sources spell are such as a source may spell.
use Rattle.std.proofs.Common.{◌≡◌, Bool, false, List, [], ◌∷◌, ◌++◌, map, Option, Some, None, sym, subst, inl, inr}
use Rattle.f3_places.specs.declared.source.Place.{Place}
use Rattle.f3_tree.specs.declared.expression.Name.{Name}
use Rattle.f3_tree.specs.declared.program.UnitKind.{UnitKind}
use Rattle.f3_tree.specs.declared.program.UnitKind.TheVariants as unit
use Rattle.f3_tree.specs.declared.declaration.Accessibility.TheVariants.{Public, Private}
use Rattle.f3_tree.specs.Declarations.{Bounds, ShapeTree, explicit, deferred, AttributeTree, access, protected, parameter, save, allocatable, dimension, intent}
use Rattle.f3_tree.specs.Declarations.{Placed as Marked, EntityTree, DeclarationTree, SpecificationTree, declares, accesses, protects, saves, defines, PartTree}
use Rattle.f3_tree.specs.Expressions.{Tree}
use Rattle.f3_tree.specs.Statements.{Block}
use Rattle.f3_tree.specs.Tree.{ProcedureTree, UnitTree}
use Rattle.f3_words.specs.declared.item.Item.{Item}
use Rattle.f3_words.specs.declared.item.Keyword.{Keyword}
use Rattle.f3_words.specs.declared.item.Keyword.TheVariants as keyword
use Rattle.f3_words.specs.Lines.{Line}
use Rattle.f3_shapes.specs.Shapes.{EatsBound, EatsBounds, AreBounds, EatsExplicit, EatsShapeBehind, EatsShape, EatsShapePerhaps}
use Rattle.f3_declarations.specs.Specifications.{EatsDimension, EatsIntentOf, EatsAttributeOf}
use Rattle.f3_declarations.specs.Specifications.{EatsAttribute, AreAttributes, EatsAttributes, EatsInitialPerhaps, EatsEntity, AreEntities, IsDeclarationBehind, IsDeclaration}
use Rattle.f3_form.specs.declared.form.Ended.{Ended}
use Rattle.f3_form.specs.declared.form.Ended.TheVariants as ended
use Rattle.f3_form.specs.Forms.{FormTree}
use Rattle.f3_form.specs.Forms as form
use Rattle.f3_forms.specs.Grammar.{IsJoinedEnd, IsEnd, IsType, IsBlockIf, IsLogicalIf, IsIfBehind, IsIf, IsElse, IsSelect, IsImplicit, IsFormOf}
use Rattle.f3_forms.specs.Grammar.{IsHeaded, IsAct, IsProcedure, IsDeclared, IsSpecified, IsPassive, IsForm}
use Rattle.f3_blocks.specs.Pieces.{Placed}
use Rattle.f3_parts.specs.Parts.{IsPart, AreSpecifications, IsSpecification, implicits, privates}
use Rattle.f3_parts.specs.Pieces.{Piece, use_of, declare, type_ends, piece, piece_of}
use Rattle.f3_units.specs.Units as units
use Rattle.f3_units.specs.Units.{AreProcedures, IsContained, IsBehind, IsUnit, AreUnits, is_module}
use Rattle.f3_parse.specs.Phase.{HaveForms}
use Rattle.f3_parse.specs.Spells.{lines_in}
use Rattle.f3_meaning_whole.specs.Permitted.{Each}
use Rattle.f3_lawful_laws.specs.Blocks.{IsStepWritten}
use Rattle.f3_lawful_laws.specs.Written.{IsWritten}
use Rattle.f3_spelled_laws.proofs.Expressions.{expression}
use Rattle.f3_spelled_laws.proofs.Lists.{each_list, each_front, each_rest, each_mapped}
use Rattle.f3_initial_laws.specs.Written.{AreBoundsWritten, IsShapeWritten, IsShapeGiven, IsEntityWritten, IsAttributeWritten, IsDeclarationWritten, IsSpecificationWritten, IsUnitWritten}
use Rattle.f3_bounded_laws.specs.Laws.{SpelledDeclarationsAreWritten}

-- ---- shapes

bound : (l : Option Tree) (u : Tree) (ts r : List Item) → EatsBound l u ts r → IsStepWritten l × IsWritten u
bound None u ts r h = (tt, expression u ts r h.0)
bound (Some l) u ts r h = (expression l ts h.0 h.2, expression u h.1 r h.4)

bounds : (b : Bounds) (ts r : List Item) → EatsBounds b ts r → AreBoundsWritten b
unfolding EatsBounds
bounds b ts r h = subst AreBoundsWritten (sym h.3) (bound h.0 h.1 ts r h.2)

explicits : (bs : List Bounds) (ts r : List Item) → EatsExplicit bs ts r → Each AreBoundsWritten bs
unfolding EatsExplicit AreBounds
explicits bs ts r h = each_list AreBoundsWritten EatsBounds bounds bs ts h.0 h.1

shape_behind : (s : ShapeTree) (ts r : List Item) → EatsShapeBehind s ts r → IsShapeWritten s
unfolding EatsShapeBehind
shape_behind (explicit bs) ts r h = explicits bs ts r h
shape_behind (deferred ls) ts r h = tt

shape : (s : ShapeTree) (ts r : List Item) → EatsShape s ts r → IsShapeWritten s
unfolding EatsShape
shape s ts r h = shape_behind s h.0 r h.2

shape_perhaps : (o : Option ShapeTree) (ts r : List Item) → EatsShapePerhaps o ts r → IsShapeGiven o
unfolding EatsShapePerhaps
shape_perhaps None ts r h = tt
shape_perhaps (Some s) ts r h = shape_behind s h.0 r h.2

-- ---- declarations

initial : (o : Option Tree) (ts r : List Item) → EatsInitialPerhaps o ts r → IsStepWritten o
unfolding EatsInitialPerhaps
initial None ts r h = tt
initial (Some e) ts r h = expression e h.0 r h.2

entity : (x : EntityTree) (ts r : List Item) → EatsEntity x ts r → IsEntityWritten x
unfolding EatsEntity
entity x ts r h = subst IsEntityWritten (sym h.8) (shape_perhaps h.1 h.3 h.4 h.6, initial h.2 h.4 r h.7)

entities : (xs : List EntityTree) (ts r : List Item) → AreEntities xs ts r → Each IsEntityWritten xs
unfolding AreEntities
entities xs ts r h = each_list IsEntityWritten EatsEntity entity xs ts r h

made_attribute : (x y : AttributeTree) → x ≡ y → IsAttributeWritten y → IsAttributeWritten x
made_attribute x y same h = subst IsAttributeWritten (sym same) h

attribute_of : (k : Keyword) (x : AttributeTree) (ts r : List Item) → EatsAttributeOf k x ts r → IsAttributeWritten x
unfolding EatsDimension EatsIntentOf
attribute_of keyword.Public x ts r h = made_attribute x (access Public) h.1 tt
attribute_of keyword.Private x ts r h = made_attribute x (access Private) h.1 tt
attribute_of keyword.Protected x ts r h = made_attribute x protected h.1 tt
attribute_of keyword.Parameter x ts r h = made_attribute x parameter h.1 tt
attribute_of keyword.Save x ts r h = made_attribute x save h.1 tt
attribute_of keyword.Allocatable x ts r h = made_attribute x allocatable h.1 tt
attribute_of keyword.Dimension x ts r h = made_attribute x (dimension h.0) h.2 (shape h.0 ts r h.1)
attribute_of keyword.Intent x ts r h = made_attribute x (intent h.0) h.2 tt
attribute_of k x ts r h = absurd h

abbrev IsMarked : Marked → Type 0
IsMarked a = IsAttributeWritten a.attribute

attribute : (a : Marked) (ts r : List Item) → EatsAttribute a ts r → IsMarked a
unfolding EatsAttribute
attribute a ts r h = subst IsMarked (sym h.7) (attribute_of h.1 h.3 h.2 r h.6)

attributes : (xs : List Marked) (ts r : List Item) → EatsAttributes xs ts r → Each IsMarked xs
unfolding EatsAttributes AreAttributes
attributes xs ts r (inl h) = each_list IsMarked EatsAttribute attribute xs h.0 r h.2
attributes xs ts r (inr h) = subst (Each IsMarked) (sym h.0) tt

declaration : (p : Place) (d : DeclarationTree) (ts : List Item) → IsDeclaration p d ts → IsDeclarationWritten d
unfolding IsDeclaration IsDeclarationBehind
declaration p d ts h = let g = h.3 in subst IsDeclarationWritten (sym g.9) (attributes g.0 h.1 g.3 g.5, entities g.2 g.4 [] g.7)

-- ---- forms

-- a declaration has written initializers and bounds
abbrev IsFormWritten : FormTree → Type 0
IsFormWritten (form.declares d) = IsDeclarationWritten d
IsFormWritten _ = Unit {0}

made : (f g : FormTree) → f ≡ g → IsFormWritten g → IsFormWritten f
made f g same h = subst IsFormWritten (sym same) h

joined_ends : (what : Ended) (f : FormTree) (ts : List Item) → IsJoinedEnd what f ts → IsFormWritten f
unfolding IsJoinedEnd
joined_ends what f ts h = made f (form.ends (Some what) h.0) h.2 tt

all_ends : (f : FormTree) (ts : List Item) → IsEnd f ts → IsFormWritten f
unfolding IsEnd
all_ends f ts (inl h) = made f (form.ends None None) h.1 tt
all_ends f ts (inr h) = joined_ends h.2 f h.3 h.7

types : (f : FormTree) (ts : List Item) → IsType f ts → IsFormWritten f
unfolding IsType
types f ts h = made f (form.type_begins h.0 h.1) h.3 tt

ifs : (f : FormTree) (ts : List Item) → IsIf f ts → IsFormWritten f
unfolding IsIf IsIfBehind IsBlockIf IsLogicalIf
ifs f ts (e, a, tested, inl h) = made f (form.if_then e) h.1 tt
ifs f ts (e, a, tested, inr h) = let g = h.1 in made f (form.acts_if e (g.1).place g.0) g.5 tt

elses : (f : FormTree) (ts : List Item) → IsElse f ts → IsFormWritten f
unfolding IsElse
elses f ts (inl h) = made f form.else_alone h.1 tt
elses f ts (inr h) = made f (form.else_if h.0) h.5 tt

selects : (f : FormTree) (ts : List Item) → IsSelect f ts → IsFormWritten f
unfolding IsSelect
selects f ts h = made f (form.select_case h.0) h.4 tt

implicit_none : (f : FormTree) (ts : List Item) → IsImplicit f ts → IsFormWritten f
unfolding IsImplicit
implicit_none f ts h = made f form.implicit_none h.1 tt

form_of : (k : Keyword) (place : Place) (f : FormTree) (ts : List Item) → IsFormOf k place f ts → IsFormWritten f
form_of keyword.Module place f ts h = made f (form.unit unit.Module h.0) h.1 tt
form_of keyword.Program place f ts h = made f (form.unit unit.Program h.0) h.1 tt
form_of keyword.Contains place f ts h = made f form.contains h.1 tt
form_of keyword.End place f ts h = all_ends f ts h
form_of keyword.EndModule place f ts h = joined_ends ended.Module f ts h
form_of keyword.EndProgram place f ts h = joined_ends ended.Program f ts h
form_of keyword.EndSubroutine place f ts h = joined_ends ended.Subroutine f ts h
form_of keyword.EndFunction place f ts h = joined_ends ended.Function f ts h
form_of keyword.EndType place f ts h = joined_ends ended.Type f ts h
form_of keyword.EndIf place f ts h = joined_ends ended.If f ts h
form_of keyword.EndSelect place f ts h = joined_ends ended.Select f ts h
form_of keyword.EndDo place f ts h = joined_ends ended.Do f ts h
form_of keyword.EndAssociate place f ts h = joined_ends ended.Associate f ts h
form_of keyword.Use place f ts h = made f (form.uses h.0) h.1 tt
form_of keyword.Implicit place f ts h = implicit_none f ts h
form_of keyword.Public place f ts h = made f (form.accesses h.0) h.1 tt
form_of keyword.Private place f ts h = made f (form.accesses h.0) h.1 tt
form_of keyword.Protected place f ts h = made f (form.protects h.0) h.1 tt
form_of keyword.Save place f ts h = made f form.saves h.1 tt
form_of keyword.Type place f ts h = types f ts h
form_of keyword.Final place f ts h = made f (form.finals h.0) h.1 tt
form_of keyword.If place f ts h = ifs f ts h
form_of keyword.Else place f ts h = elses f ts h
form_of keyword.ElseIf place f ts h = made f (form.else_if h.0) h.1 tt
form_of keyword.Select place f ts h = selects f ts h
form_of keyword.SelectCase place f ts h = made f (form.select_case h.0) h.1 tt
form_of keyword.Case place f ts h = made f (form.case_of h.0) h.1 tt
form_of keyword.Do place f ts h = made f (form.repeats h.0) h.1 tt
form_of keyword.Associate place f ts h = made f (form.associates h.0) h.1 tt
form_of k place f ts h = absurd h

specified : (f : FormTree) (ts : List Item) → IsSpecified f ts → IsFormWritten f
unfolding IsSpecified IsDeclared IsHeaded
specified f ts (inl h) = let g = h.2 in made f (form.declares h.0) h.1 (declaration (g.0).place h.0 ts g.3)
specified f ts (inr h) = let g = h.1 in form_of g.1 (g.0).place f g.2 g.5

passive : (f : FormTree) (ts : List Item) → IsPassive f ts → IsFormWritten f
unfolding IsPassive IsProcedure
passive f ts (inl h) = made f (form.procedure h.0) h.1 tt
passive f ts (inr h) = specified f ts h.1

form_written : (f : FormTree) (ts : List Item) → IsForm f ts → IsFormWritten f
unfolding IsForm IsAct
form_written f ts (inl h) = made f (form.acts h.0) h.1 tt
form_written f ts (inr h) = passive f ts h.1

-- ---- pieces of specification parts

abbrev IsPieceWritten : Piece → Type 0
IsPieceWritten (declare d) = IsDeclarationWritten d
IsPieceWritten _ = Unit {0}

ended_piece : (p : Place) (what : Option Ended) (n : Option Name) → IsPieceWritten (piece p (form.ends what n))
ended_piece p None n = tt
ended_piece p (Some ended.Module) n = tt
ended_piece p (Some ended.Program) n = tt
ended_piece p (Some ended.Subroutine) n = tt
ended_piece p (Some ended.Function) n = tt
ended_piece p (Some ended.Type) n = tt
ended_piece p (Some ended.If) n = tt
ended_piece p (Some ended.Select) n = tt
ended_piece p (Some ended.Do) n = tt
ended_piece p (Some ended.Associate) n = tt

piece_written : (p : Place) (f : FormTree) → IsFormWritten f → IsPieceWritten (piece p f)
piece_written p (form.unit k n) h = tt
piece_written p form.contains h = tt
piece_written p (form.ends what n) h = ended_piece p what n
piece_written p (form.procedure x) h = tt
piece_written p (form.uses u) h = tt
piece_written p form.implicit_none h = tt
piece_written p (form.accesses a) h = tt
piece_written p (form.protects ns) h = tt
piece_written p form.saves h = tt
piece_written p (form.declares d) h = h
piece_written p (form.type_begins a n) h = tt
piece_written p (form.finals ns) h = tt
piece_written p (form.acts a) h = tt
piece_written p (form.acts_if e q a) h = tt
piece_written p (form.if_then e) h = tt
piece_written p (form.else_if e) h = tt
piece_written p form.else_alone h = tt
piece_written p (form.select_case e) h = tt
piece_written p (form.case_of s) h = tt
piece_written p (form.repeats c) h = tt
piece_written p (form.associates xs) h = tt

abbrev IsPlaced : Placed → Type 0
IsPlaced p = IsPieceWritten (piece_of p)

abbrev ArePlaced : List Placed → Type 0
ArePlaced ps = Each IsPlaced ps

placed : (ps : List Placed) (ls : List Line) → HaveForms ps ls → ArePlaced ps
placed [] [] h = tt
placed [] (l ∷ ls) h = absurd h
placed (p ∷ ps) [] h = absurd h
placed (p ∷ ps) (l ∷ ls) h = (piece_written p.place p.form (form_written p.form l.items h.2), placed ps ls h.3)

-- ---- specification parts

unmapped : (ds : List DeclarationTree) → Each IsPieceWritten (map declare ds) → Each IsDeclarationWritten ds
unmapped [] h = tt
unmapped (d ∷ ds) h = (h.0, unmapped ds h.1)

one : (m : Bool) (s : SpecificationTree) (ps : List Piece) → IsSpecification m s ps → Each IsPieceWritten ps → IsSpecificationWritten s
one m (declares d) ps h w = let all : Each IsPieceWritten (declare d ∷ []) = subst (Each IsPieceWritten) h w in all.0
one m (accesses a) ps h w = tt
one m (protects p ns) ps h w = tt
one m (saves p) ps h w = tt
one m (defines t) ps h w =
    let x = h.1 in
    let all = subst (Each IsPieceWritten) x.is w in
    unmapped t.components (each_front IsPieceWritten (map declare t.components) (x.bindings ++ type_ends x.label ∷ [])
    (each_rest IsPieceWritten (privates t.private) (map declare t.components ++ (x.bindings ++ type_ends x.label ∷ [])) all.1))

specifications : (m : Bool) (ss : List SpecificationTree) (ps : List Piece) → AreSpecifications m ss ps → Each IsPieceWritten ps → Each IsSpecificationWritten ss
specifications m [] ps h w = tt
specifications m (s ∷ ss) ps h w =
    let all = subst (Each IsPieceWritten) h.2 w in
    (one m s h.0 h.3 (each_front IsPieceWritten h.0 h.1 all), specifications m ss h.1 h.4 (each_rest IsPieceWritten h.0 h.1 all))

part : (m : Bool) (x : PartTree) (ps : List Placed) → IsPart m x ps → ArePlaced ps → Each IsSpecificationWritten x.specifications
part m x ps h w =
    let all = subst (Each IsPieceWritten) h.is (each_mapped IsPieceWritten piece_of ps w) in
    specifications m x.specifications h.others h.specifications
    (each_rest IsPieceWritten (implicits x.implicit_none) h.others (each_rest IsPieceWritten (map use_of x.uses) (implicits x.implicit_none ++ h.others) all))

-- ---- procedures and units

abbrev AreProceduresWritten : List ProcedureTree → Type 0
AreProceduresWritten qs = Each (λ (q : ProcedureTree). Each IsSpecificationWritten (q.part).specifications) qs

procedure_part : (q : ProcedureTree) (ps : List Placed) → units.IsProcedure q ps → ArePlaced ps → Each IsSpecificationWritten (q.part).specifications
procedure_part q ps h w =
    let all = subst ArePlaced h.is w in part false q.part h.part h.is_part (each_front IsPlaced h.part (h.body ++ h.last ∷ []) all.1)

procedures : (qs : List ProcedureTree) (ps : List Placed) → AreProcedures qs ps → ArePlaced ps → AreProceduresWritten qs
procedures [] ps h w = tt
procedures (q ∷ qs) ps h w =
    let all = subst ArePlaced h.2 w in
    (procedure_part q h.0 h.3 (each_front IsPlaced h.0 h.1 all), procedures qs h.1 h.4 (each_rest IsPlaced h.0 h.1 all))

contained : (place : Option Place) (qs : List ProcedureTree) (ps : List Placed) → IsContained place qs ps → ArePlaced ps → AreProceduresWritten qs
contained None qs ps h w = subst AreProceduresWritten (sym h.0) tt
contained (Some place) qs ps h w = procedures qs h.1 h.5 (subst ArePlaced h.2 w).1

behind : (kind : UnitKind) (b : Block) (place : Option Place) (qs : List ProcedureTree) (ps : List Placed) → IsBehind kind b place qs ps → ArePlaced ps → AreProceduresWritten qs
behind unit.Module b place qs ps h w = contained place qs ps h.1 w
behind unit.Program b place qs ps h w = subst AreProceduresWritten (sym h.1) tt

unit_parts : (x : UnitTree) (ps : List Placed) → IsUnit x ps → ArePlaced ps → IsUnitWritten x
unit_parts x ps h w =
    let all = subst ArePlaced h.is w in (
      part (is_module x.kind) x.part h.part h.is_part (each_front IsPlaced h.part (h.behind ++ h.last ∷ []) all.1),
      behind x.kind x.body x.contains x.procedures h.behind h.is_behind
          (each_front IsPlaced h.behind (h.last ∷ []) (each_rest IsPlaced h.part (h.behind ++ h.last ∷ []) all.1)),
    )

all_parts : (us : List UnitTree) (ps : List Placed) → AreUnits us ps → ArePlaced ps → Each IsUnitWritten us
all_parts [] ps h w = tt
all_parts (x ∷ xs) ps h w =
    let all = subst ArePlaced h.3 w in
    (unit_parts x h.1 h.5 (each_front IsPlaced h.1 h.2 all), all_parts xs h.2 h.6 (each_rest IsPlaced h.1 h.2 all))

pub written : SpelledDeclarationsAreWritten
written sources t spelled = all_parts t.units spelled.forms spelled.units (placed spelled.forms (lines_in sources) spelled.have)
