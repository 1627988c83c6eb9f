-- The form of a statement, by its first word.
use Rattle.std.specs.Prelude.{◌≡◌, ◌≢◌, ◌⊎◌, Bool, true, false, List, [], ◌∷◌, Option, Some, None}
use Rattle.f3_places.specs.declared.source.Place.{Place}
use Rattle.f3_tree.specs.declared.declaration.Accessibility.{Accessibility}
use Rattle.f3_tree.specs.declared.declaration.Accessibility.TheVariants as accessibility
use Rattle.f3_tree.specs.declared.expression.Name.{Name as Identifier}
use Rattle.f3_tree.specs.declared.program.UnitKind.TheVariants as unit_kind
use Rattle.f3_tree.specs.Expressions.{Tree}
use Rattle.f3_tree.specs.Statements.{Act}
use Rattle.f3_words.specs.declared.item.Keyword.{Keyword}
use Rattle.f3_words.specs.declared.item.Keyword.TheVariants as keyword
use Rattle.f3_words.specs.declared.item.Word.TheVariants as word
use Rattle.f3_words.specs.declared.item.Item.{Item}
use Rattle.f3_form.specs.declared.form.Ended.{Ended}
use Rattle.f3_form.specs.declared.form.Ended.TheVariants as ended
use Rattle.f3_form.specs.Forms.{FormTree, unit, contains, ends, procedure, uses, implicit_none, accesses, protects, saves, declares}
use Rattle.f3_form.specs.Forms.{type_begins, finals, acts, acts_if, if_then, else_if, else_alone, select_case, case_of, repeats, associates}
use Rattle.f3_reading.specs.Parts.{EatsKeyword, First}
use Rattle.f3_reading.specs.Names.{IsName, IsNameList, IsLabel}
use Rattle.f3_declarations.specs.Specifications.{IsUse, IsAccess, IsDeclaration, IsHeader, IsTypeBegin}
use Rattle.f3_actions.specs.Actions.{IsAction, EatsCondition, IsCondition, IsThen, IsCase, IsDo, IsAssociate}

-- the form that is made of what the tokens spell
abbrev pub Makes : {A : Type 0} → (A → FormTree) → (A → List Item → Type 0) → FormTree → List Item → Type 0
Makes {A} make Is f ts = (x : A) × (f ≡ make x) × Is x ts

-- what a keyword says that END ends
abbrev pub ended_of : Keyword → Option Ended
ended_of keyword.Module = Some ended.Module
ended_of keyword.Program = Some ended.Program
ended_of keyword.Subroutine = Some ended.Subroutine
ended_of keyword.Function = Some ended.Function
ended_of keyword.Type = Some ended.Type
ended_of keyword.If = Some ended.If
ended_of keyword.Select = Some ended.Select
ended_of keyword.Do = Some ended.Do
ended_of keyword.Associate = Some ended.Associate
ended_of _ = None

-- a construct has no name
abbrev pub has_name : Ended → Bool
has_name ended.If = false
has_name ended.Select = false
has_name ended.Do = false
has_name ended.Associate = false
has_name _ = true

unfoldable pub IsEndLabel : Ended → Option Identifier → List Item → Type 0
IsEndLabel what n ts = IsLabel n ts × (has_name what ≡ false → n ≡ None)

-- the keyword alone
abbrev pub IsBare : FormTree → FormTree → List Item → Type 0
IsBare form f ts = (ts ≡ []) × (f ≡ form)

-- END joined with what it ends
unfoldable pub IsJoinedEnd : Ended → FormTree → List Item → Type 0
IsJoinedEnd what f ts = (n : Option Identifier) × IsEndLabel what n ts × (f ≡ ends (Some what) n)

-- END alone, or what it ends behind it
unfoldable pub IsEnd : FormTree → List Item → Type 0
IsEnd f ts =
    ((ts ≡ []) × (f ≡ ends None None))
    ⊎ ((i : Item) × (k : Keyword) × (what : Ended) × (tail : List Item) × (ts ≡ i ∷ tail) × (i.word ≡ word.Name k)
    × (ended_of k ≡ Some what) × IsJoinedEnd what f tail)

unfoldable pub IsType : FormTree → List Item → Type 0
IsType f ts = (a : Option (Place × Accessibility)) × (n : Identifier) × IsTypeBegin a n ts × (f ≡ type_begins a n)

-- behind IF and its condition: THEN, or else an action
unfoldable pub IsBlockIf : Tree → FormTree → List Item → Type 0
IsBlockIf e f ts = EatsKeyword keyword.Then ts [] × (f ≡ if_then e)

unfoldable pub IsLogicalIf : Tree → FormTree → List Item → Type 0
IsLogicalIf e f ts = (act : Act) × (i : Item) × (tail : List Item) × (ts ≡ i ∷ tail) × IsAction act ts × (f ≡ acts_if e i.place act)

unfoldable pub IsIfBehind : Tree → FormTree → List Item → Type 0
IsIfBehind e f ts = First (IsBlockIf e) (IsLogicalIf e) f ts

unfoldable pub IsIf : FormTree → List Item → Type 0
IsIf f ts = (e : Tree) × (a : List Item) × EatsCondition e ts a × IsIfBehind e f a

-- behind ELSE: nothing, or `IF (e) THEN`
unfoldable pub IsElse : FormTree → List Item → Type 0
IsElse f ts = IsBare else_alone f ts ⊎ ((e : Tree) × (a : List Item) × (ts ≢ []) × EatsKeyword keyword.If ts a × IsThen e a × (f ≡ else_if e))

-- behind SELECT: `CASE (e)`
unfoldable pub IsSelect : FormTree → List Item → Type 0
IsSelect f ts = (e : Tree) × (a : List Item) × EatsKeyword keyword.Case ts a × IsCondition e a × (f ≡ select_case e)

unfoldable pub IsImplicit : FormTree → List Item → Type 0
IsImplicit f ts = EatsKeyword keyword.NoneWord ts [] × (f ≡ implicit_none)

-- What stands behind the keyword of a form. Procedures, declarations and actions have rules of their own below.
abbrev pub IsFormOf : Keyword → Place → FormTree → List Item → Type 0
IsFormOf keyword.Module place f ts = Makes (unit unit_kind.Module) IsName f ts
IsFormOf keyword.Program place f ts = Makes (unit unit_kind.Program) IsName f ts
IsFormOf keyword.Contains place f ts = IsBare contains f ts
IsFormOf keyword.End place f ts = IsEnd f ts
IsFormOf keyword.EndModule place f ts = IsJoinedEnd ended.Module f ts
IsFormOf keyword.EndProgram place f ts = IsJoinedEnd ended.Program f ts
IsFormOf keyword.EndSubroutine place f ts = IsJoinedEnd ended.Subroutine f ts
IsFormOf keyword.EndFunction place f ts = IsJoinedEnd ended.Function f ts
IsFormOf keyword.EndType place f ts = IsJoinedEnd ended.Type f ts
IsFormOf keyword.EndIf place f ts = IsJoinedEnd ended.If f ts
IsFormOf keyword.EndSelect place f ts = IsJoinedEnd ended.Select f ts
IsFormOf keyword.EndDo place f ts = IsJoinedEnd ended.Do f ts
IsFormOf keyword.EndAssociate place f ts = IsJoinedEnd ended.Associate f ts
IsFormOf keyword.Use place f ts = Makes uses (IsUse place) f ts
IsFormOf keyword.Implicit place f ts = IsImplicit f ts
IsFormOf keyword.Public place f ts = Makes accesses (IsAccess place accessibility.Public) f ts
IsFormOf keyword.Private place f ts = Makes accesses (IsAccess place accessibility.Private) f ts
IsFormOf keyword.Protected place f ts = Makes protects IsNameList f ts
IsFormOf keyword.Save place f ts = IsBare saves f ts
IsFormOf keyword.Type place f ts = IsType f ts
IsFormOf keyword.Final place f ts = Makes finals IsNameList f ts
IsFormOf keyword.If place f ts = IsIf f ts
IsFormOf keyword.Else place f ts = IsElse f ts
IsFormOf keyword.ElseIf place f ts = Makes else_if IsThen f ts
IsFormOf keyword.Select place f ts = IsSelect f ts
IsFormOf keyword.SelectCase place f ts = Makes select_case IsCondition f ts
IsFormOf keyword.Case place f ts = Makes case_of IsCase f ts
IsFormOf keyword.Do place f ts = Makes repeats IsDo f ts
IsFormOf keyword.Associate place f ts = Makes associates IsAssociate f ts
IsFormOf _ place f ts = ⊥

-- a form that begins with a keyword of its own
unfoldable pub IsHeaded : FormTree → List Item → Type 0
IsHeaded f ts = (i : Item) × (k : Keyword) × (tail : List Item) × (ts ≡ i ∷ tail) × (i.word ≡ word.Name k) × IsFormOf k i.place f tail

-- a part that knows the place of the first token
abbrev pub AtFirst : {A : Type 0} → (Place → A → List Item → Type 0) → A → List Item → Type 0
AtFirst Is x ts = (i : Item) × (tail : List Item) × (ts ≡ i ∷ tail) × Is i.place x ts

unfoldable pub IsAct : FormTree → List Item → Type 0
IsAct f ts = Makes acts IsAction f ts

unfoldable pub IsProcedure : FormTree → List Item → Type 0
IsProcedure f ts = Makes procedure (AtFirst IsHeader) f ts

unfoldable pub IsDeclared : FormTree → List Item → Type 0
IsDeclared f ts = Makes declares (AtFirst IsDeclaration) f ts

unfoldable pub IsSpecified : FormTree → List Item → Type 0
IsSpecified f ts = First IsDeclared IsHeaded f ts

unfoldable pub IsPassive : FormTree → List Item → Type 0
IsPassive f ts = First IsProcedure IsSpecified f ts

-- A statement whose tokens are v = e is an assignment, whatever its first name is; only what is no action may begin a
-- procedure, only what begins none may be a declaration, and only what is none of these has another form.
unfoldable pub IsForm : FormTree → List Item → Type 0
IsForm f ts = First IsAct IsPassive f ts
