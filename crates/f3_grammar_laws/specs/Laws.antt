-- Expressions and statements are spelled in one way.
use Rattle.std.specs.Prelude.{◌≡◌, ◌⊎◌, ℕ, List, Option}
use Rattle.f3_places.specs.declared.source.Place.{Place}
use Rattle.f3_tree.specs.declared.declaration.Accessibility.{Accessibility}
use Rattle.f3_tree.specs.declared.declaration.Rename.{Rename}
use Rattle.f3_tree.specs.declared.expression.Name.{Name}
use Rattle.f3_tree.specs.Expressions.{Tree, Parts}
use Rattle.f3_tree.specs.Declarations.{Bounds}
use Rattle.f3_words.specs.declared.item.Word.TheVariants.{Equals}
use Rattle.f3_words.specs.declared.item.Item.{Item}
use Rattle.f3_reading.specs.Parts.{EatsWord}
use Rattle.f3_reading.specs.Laws.{IsOne, IsOneWhole}
use Rattle.f3_expressions.specs.Levels.{Ends}
use Rattle.f3_expressions.specs.Grammar.{Eats, EatsExpression, EatsDesignator, EatsArguments}
use Rattle.f3_declarations.specs.Specifications.{EatsOnlyHead, IsRenameList, IsUse, IsAccess, IsDeclaration, IsHeader, IsTypeBegin}
use Rattle.f3_shapes.specs.Shapes.{EatsExplicit, EatsDeferred}
use Rattle.f3_actions.specs.Actions.{IsAssignment, IsHeadedAction, IsAction, EatsStatusHead, IsDefault, AreValues, IsWhile, IsCounted}
use Rattle.f3_form.specs.Forms.{FormTree}
use Rattle.f3_forms.specs.Grammar.{IsBlockIf, IsLogicalIf, IsHeaded, IsAct, IsProcedure, IsDeclared, IsSpecified, IsPassive, IsForm}

-- two expressions of a level, each up to where nothing of that level goes on, are one, and so is what stands behind
abbrev pub LevelsAreOne : Type 0
LevelsAreOne = (k : ℕ) (e f : Tree) (ts r s : List Item) → Eats k e ts r → Ends k r → Eats k f ts s → Ends k s → (e ≡ f) × (r ≡ s)

abbrev pub ExpressionsAreOne : Type 0
ExpressionsAreOne = IsOne EatsExpression × IsOne EatsDesignator × IsOne EatsArguments

-- two beginnings of a type definition that all of the tokens spell are one
abbrev pub TypesBeginAsOne : Type 0
TypesBeginAsOne = (a b : Option (Place × Accessibility)) (n m : Name) (ts : List Item) → IsTypeBegin a n ts → IsTypeBegin b m ts → (a ≡ b) × (n ≡ m)

abbrev pub DeclarationsAreOne : Type 0
DeclarationsAreOne =
    ((place : Place) → IsOneWhole (IsUse place))
    × ((place : Place) (kind : Accessibility) → IsOneWhole (IsAccess place kind))
    × ((place : Place) → IsOneWhole (IsDeclaration place))
    × ((place : Place) → IsOneWhole (IsHeader place))
    × TypesBeginAsOne

abbrev pub FormsAreOne : Type 0
FormsAreOne = IsOneWhole IsAction × IsOneWhole IsForm

-- ---- readings of which one stands before the other

-- no tokens have both readings
abbrev pub Exclude : {A : Type 0} → (A → List Item → Type 0) → (A → List Item → Type 0) → Type 0
Exclude {A} Is Other = (x y : A) (ts : List Item) → Is x ts → Other y ts → ⊥

-- wherever one of two readings is taken first, no tokens have both: the order shuts nothing out
abbrev pub AlternativesExclude : Type 0
AlternativesExclude =
    Exclude IsAct IsPassive × Exclude IsProcedure IsSpecified × Exclude IsDeclared IsHeaded × Exclude IsAssignment IsHeadedAction
    × ((e : Tree) → Exclude (IsBlockIf e) (IsLogicalIf e)) × Exclude IsDefault AreValues × Exclude IsWhile IsCounted

-- an action, a header, a declaration, or a statement with a keyword of its own
abbrev pub IsOfAKind : FormTree → List Item → Type 0
IsOfAKind f ts = (IsAct f ts ⊎ IsProcedure f ts) ⊎ (IsDeclared f ts ⊎ IsHeaded f ts)

-- these four are the forms, all of them
abbrev pub FormsAreOfFourKinds : Type 0
FormsAreOfFourKinds = (f : FormTree) (ts : List Item) → (IsForm f ts → IsOfAKind f ts) × (IsOfAKind f ts → IsForm f ts)

-- no shape is both of `e` and `e:e`, and of `:` and `e:`
abbrev pub ShapesExclude : Type 0
ShapesExclude = (xs : List Bounds) (ys : List (Option Tree)) (ts r s : List Item) → EatsExplicit xs ts r → EatsDeferred ys ts s → ⊥

-- no renames begin as `, ONLY :` does
abbrev pub SelectionsExclude : Type 0
SelectionsExclude = (xs : List Rename) (ts a : List Item) → IsRenameList xs ts → EatsOnlyHead ts a → ⊥

-- a designator that begins as `STAT =` does ends before that sign, so it is no object of an ALLOCATE
abbrev pub StatusIsNoObject : Type 0
StatusIsNoObject = (v : Parts) (ts r a : List Item) → EatsDesignator v ts r → EatsStatusHead ts a → EatsWord Equals r a
