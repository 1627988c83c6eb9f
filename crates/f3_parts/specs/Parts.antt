-- A specification part, and the statements that spell it (2.2, 4.5, 11.2).
use Rattle.std.specs.Prelude.{◌≡◌, ◌≢◌, Bool, true, ◌==◌, List, [], ◌∷◌, ◌++◌, map, Option, Some, None}
use Rattle.std.specs.List.{flat_map}
use Rattle.f3_places.specs.declared.source.Place.{Place}
use Rattle.f3_tree.specs.declared.expression.Name.{Name}
use Rattle.f3_tree.specs.declared.declaration.Accessibility.TheVariants.{Private}
use Rattle.f3_tree.specs.Declarations.{TypeTree, SpecificationTree, declares, accesses, protects, saves, defines, PartTree}
use Rattle.f3_blocks.specs.Pieces.{Placed}
use Rattle.f3_parts.specs.Pieces.{Piece, use_of, implicit, declare, access, protect, save, type_begins, contains, final, type_ends, piece_of}

-- the name behind an END is that of what it closes
abbrev pub fits_label : Option Name → Name → Bool
fits_label None name = true
fits_label (Some n) name = n.symbol == name.symbol

-- PRIVATE inside a type definition, where it is written (4.5.1)
abbrev pub privates : Option Place → List Piece
privates None = []
privates (Some p) = access (record { place = p; accessibility = Private; names = [] }) ∷ []

-- CONTAINS and the FINAL statements behind it, where it is written (4.5.4, 4.5.5)
abbrev pub IsContained : Option Place → List Name → List Piece → Type 0
IsContained None names ps = (names ≡ []) × (ps ≡ [])
IsContained (Some p) names ps = (lists : List (List Name)) × (names ≡ flat_map (λ (ns : List Name). ns) lists) × (ps ≡ contains p ∷ map final lists)

-- A type definition is its TYPE statement, PRIVATE at most once, at least one declaration of components, CONTAINS with
-- FINAL statements or nothing, and END TYPE, with the type's name where it has one.
pub record IsType (t : TypeTree) (ps : List Piece) : Type 0 where
  pub bindings : List Piece
  pub label : Option Name
  pub is : ps ≡ type_begins t.place t.access t.name ∷ (privates t.private ++ (map declare t.components ++ (bindings ++ type_ends label ∷ [])))
  pub contained : IsContained t.contains t.finals bindings
  pub holds_some : t.components ≢ []
  pub label_fits : fits_label label t.name ≡ true

-- type definitions and SAVE stand in the part of a module alone
abbrev pub IsSpecification : Bool → SpecificationTree → List Piece → Type 0
IsSpecification of_module (declares d) ps = ps ≡ declare d ∷ []
IsSpecification of_module (accesses a) ps = ps ≡ access a ∷ []
IsSpecification of_module (protects p names) ps = ps ≡ protect p names ∷ []
IsSpecification of_module (saves p) ps = (of_module ≡ true) × (ps ≡ save p ∷ [])
IsSpecification of_module (defines t) ps = (of_module ≡ true) × IsType t ps

abbrev pub AreSpecifications : Bool → List SpecificationTree → List Piece → Type 0
AreSpecifications of_module [] ps = ps ≡ []
AreSpecifications of_module (s ∷ ss) ps =
    (front : List Piece) × (rest : List Piece) × (ps ≡ front ++ rest) × IsSpecification of_module s front
    × AreSpecifications of_module ss rest

-- IMPLICIT NONE, where it is written
abbrev pub implicits : Option Place → List Piece
implicits None = []
implicits (Some p) = implicit p ∷ []

-- USE statements, IMPLICIT NONE at most once, and then the others in any order
pub record ArePieces (of_module : Bool) (part : PartTree) (ps : List Piece) : Type 0 where
  pub others : List Piece
  pub is : ps ≡ map use_of part.uses ++ (implicits part.implicit_none ++ others)
  pub specifications : AreSpecifications of_module part.specifications others

-- The statements spell the specification part, which is that of a module or not.
abbrev pub IsPart : Bool → PartTree → List Placed → Type 0
IsPart of_module part ps = ArePieces of_module part (map piece_of ps)
