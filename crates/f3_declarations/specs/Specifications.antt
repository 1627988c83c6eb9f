-- The statements of a specification part, and those that begin and end units, types and procedures.
use Rattle.std.specs.Prelude.{◌≡◌, ◌≢◌, ◌⊎◌, Bool, true, false, List, [], ◌∷◌, Option, Some, None, is_some, option_and_then, if◌then◌else◌}
use Rattle.std.specs.List.{list_any}
use Rattle.f3_places.specs.declared.source.Place.{Place}
use Rattle.f3_tree.specs.declared.expression.Name.{Name as Identifier}
use Rattle.f3_tree.specs.declared.declaration.Rename.{Rename}
use Rattle.f3_tree.specs.declared.declaration.Only.{Only}
use Rattle.f3_tree.specs.declared.declaration.Only.TheVariants as only_of
use Rattle.f3_tree.specs.declared.declaration.Accessibility.{Accessibility}
use Rattle.f3_tree.specs.declared.declaration.Accessibility.TheVariants as accessibility
use Rattle.f3_tree.specs.declared.declaration.Intent.{Intent}
use Rattle.f3_tree.specs.declared.declaration.Intent.TheVariants as intent_of
use Rattle.f3_tree.specs.declared.declaration.TypeSpecifier.{TypeSpecifier}
use Rattle.f3_tree.specs.declared.declaration.TypeSpecifier.TheVariants as specifier
use Rattle.f3_tree.specs.declared.program.ProcedureKind.TheVariants as procedure_kind
use Rattle.f3_tree.specs.Expressions.{Tree}
use Rattle.f3_tree.specs.Declarations.{Selects, all, only, UseTree, Bounds, ShapeTree, explicit, deferred, AttributeTree, access, protected}
use Rattle.f3_tree.specs.Declarations.{parameter, save, allocatable, dimension, intent, Placed, EntityTree, DeclarationTree, AccessTree}
use Rattle.f3_tree.specs.Tree.{HeaderTree}
use Rattle.f3_words.specs.declared.item.Keyword.{Keyword}
use Rattle.f3_words.specs.declared.item.Keyword.TheVariants as keyword
use Rattle.f3_words.specs.declared.item.Word.{Word}
use Rattle.f3_words.specs.declared.item.Word.TheVariants as word
use Rattle.f3_words.specs.declared.item.Item.{Item}
use Rattle.f3_words.specs.Lists.{starts, EatsList}
use Rattle.f3_expressions.specs.Grammar.{EatsExpression}
pub use Rattle.f3_shapes.specs.Shapes.{EatsBound, EatsBounds, EatsLower, AreBounds, AreLowers, EatsExplicit, EatsDeferred, EatsShapeBehind}
pub use Rattle.f3_shapes.specs.Shapes.{EatsShape, EatsShapePerhaps}
use Rattle.f3_declarations.specs.declared.procedures.Prefix.{Prefix}
use Rattle.f3_declarations.specs.declared.procedures.Prefix.TheVariants as prefix
use Rattle.f3_declarations.specs.declared.procedures.Prefixes.{Prefixes}
use Rattle.f3_reading.specs.Parts.{EatsWord, EatsName, EatsKeyword, Lacks, Enclosed, Perhaps, BehindComma}
use Rattle.f3_reading.specs.Names.{EatsEnclosedName, EatsNames, EatsColons, IsName, IsNameList}
use Rattle.f3_declarations.specs.Kinds.{EatsInteger}

-- ---- USE (11.2.1): [::] n [, n => n {, n => n}], or [::] n, ONLY: [only {, only}]

unfoldable pub EatsRename : Rename → List Item → List Item → Type 0
EatsRename x ts r =
    (l : Identifier) × (o : Identifier) × (a : List Item) × (b : List Item) × EatsName l ts a × EatsWord word.Arrow a b
    × EatsName o b r × (x ≡ record { local = l; original = o })

-- a name alone is one that no arrow follows
unfoldable pub EatsOnly : Only → List Item → List Item → Type 0
EatsOnly (only_of.Name n) ts r = EatsName n ts r × Lacks word.Arrow r
EatsOnly (only_of.Rename x) ts r = EatsRename x ts r

unfoldable pub AreRenames : List Rename → List Item → List Item → Type 0
AreRenames xs ts r = EatsList EatsRename xs ts r

unfoldable pub AreOnly : List Only → List Item → List Item → Type 0
AreOnly xs ts r = EatsList EatsOnly xs ts r

-- `, ONLY :`
unfoldable pub EatsOnlyHead : List Item → List Item → Type 0
EatsOnlyHead ts r = (a : List Item) × (b : List Item) × EatsWord word.Comma ts a × EatsKeyword keyword.Only a b × EatsWord word.Colon b r

unfoldable pub IsOnlyList : List Only → List Item → Type 0
IsOnlyList xs ts = ((ts ≡ []) × (xs ≡ [])) ⊎ ((ts ≢ []) × AreOnly xs ts [])

unfoldable pub IsRenameList : List Rename → List Item → Type 0
IsRenameList xs ts = ((ts ≡ []) × (xs ≡ [])) ⊎ ((a : List Item) × EatsWord word.Comma ts a × AreRenames xs a [] × (ts ≢ []))

unfoldable pub IsSelection : Selects → List Item → Type 0
IsSelection (all renames) ts = IsRenameList renames ts × ((a : List Item) → EatsOnlyHead ts a → ⊥)
IsSelection (only names) ts = (a : List Item) × EatsOnlyHead ts a × IsOnlyList names a

unfoldable pub IsUse : Place → UseTree → List Item → Type 0
IsUse place u ts =
    (n : Identifier) × (s : Selects) × (c : Bool) × (a : List Item) × (b : List Item) × EatsColons c ts a × EatsName n a b × IsSelection s b
    × (u ≡ record { place = place; from = n; selection = s })

-- ---- PUBLIC and PRIVATE (5.2.1): [[::] n {, n}]

unfoldable pub IsAccessList : List Identifier → List Item → Type 0
IsAccessList ns ts = ((ts ≡ []) × (ns ≡ [])) ⊎ ((ts ≢ []) × IsNameList ns ts)

unfoldable pub IsAccess : Place → Accessibility → AccessTree → List Item → Type 0
IsAccess place a x ts = (ns : List Identifier) × IsAccessList ns ts × (x ≡ record { place = place; accessibility = a; names = ns })

-- ---- type declarations (5.1): spec {, attr} [::] n [(shape)] [= e] {, ..}

unfoldable pub EatsDerived : TypeSpecifier → List Item → List Item → Type 0
EatsDerived s ts r = (n : Identifier) × EatsEnclosedName n ts r × (s ≡ specifier.Derived n)

-- behind the keyword of a specifier (5.1.1)
abbrev pub EatsSpecifierOf : Keyword → TypeSpecifier → List Item → List Item → Type 0
EatsSpecifierOf keyword.Integer s ts r = EatsInteger s ts r
EatsSpecifierOf keyword.Logical s ts r = (ts ≡ r) × (s ≡ specifier.Logical)
EatsSpecifierOf keyword.Type s ts r = EatsDerived s ts r
EatsSpecifierOf _ s ts r = ⊥

unfoldable pub EatsSpecifier : TypeSpecifier → List Item → List Item → Type 0
EatsSpecifier s ts r = (i : Item) × (k : Keyword) × (tail : List Item) × (ts ≡ i ∷ tail) × (i.word ≡ word.Name k) × EatsSpecifierOf k s tail r

-- IN OUT may be written as one word (3.3.1.1)
unfoldable pub EatsIntent : Intent → List Item → List Item → Type 0
EatsIntent intent_of.In ts r = EatsKeyword keyword.In ts r × Lacks (word.Name keyword.Out) r
EatsIntent intent_of.Out ts r = EatsKeyword keyword.Out ts r
EatsIntent intent_of.InOut ts r = EatsKeyword keyword.InOut ts r ⊎ ((a : List Item) × EatsKeyword keyword.In ts a × EatsKeyword keyword.Out a r)

-- `( intent )`
unfoldable pub EatsEnclosedIntent : Intent → List Item → List Item → Type 0
EatsEnclosedIntent i ts r = Enclosed EatsIntent i ts r

unfoldable pub EatsDimension : AttributeTree → List Item → List Item → Type 0
EatsDimension x ts r = (s : ShapeTree) × EatsShape s ts r × (x ≡ dimension s)

unfoldable pub EatsIntentOf : AttributeTree → List Item → List Item → Type 0
EatsIntentOf x ts r = (i : Intent) × EatsEnclosedIntent i ts r × (x ≡ intent i)

-- an attribute that is its keyword alone
abbrev pub IsAttribute : AttributeTree → AttributeTree → List Item → List Item → Type 0
IsAttribute this x ts r = (ts ≡ r) × (x ≡ this)

-- behind the keyword of an attribute (5.1.2)
abbrev pub EatsAttributeOf : Keyword → AttributeTree → List Item → List Item → Type 0
EatsAttributeOf keyword.Public x ts r = IsAttribute (access accessibility.Public) x ts r
EatsAttributeOf keyword.Private x ts r = IsAttribute (access accessibility.Private) x ts r
EatsAttributeOf keyword.Protected x ts r = IsAttribute protected x ts r
EatsAttributeOf keyword.Parameter x ts r = IsAttribute parameter x ts r
EatsAttributeOf keyword.Save x ts r = IsAttribute save x ts r
EatsAttributeOf keyword.Allocatable x ts r = IsAttribute allocatable x ts r
EatsAttributeOf keyword.Dimension x ts r = EatsDimension x ts r
EatsAttributeOf keyword.Intent x ts r = EatsIntentOf x ts r
EatsAttributeOf _ x ts r = ⊥

-- an attribute at its keyword
unfoldable pub EatsAttribute : Placed → List Item → List Item → Type 0
EatsAttribute p ts r =
    (i : Item) × (k : Keyword) × (tail : List Item) × (kind : AttributeTree) × (ts ≡ i ∷ tail) × (i.word ≡ word.Name k)
    × EatsAttributeOf k kind tail r × (p ≡ record { place = i.place; attribute = kind })

unfoldable pub AreAttributes : List Placed → List Item → List Item → Type 0
AreAttributes xs ts r = EatsList EatsAttribute xs ts r

-- `[= e]`
unfoldable pub EatsInitialPerhaps : Option Tree → List Item → List Item → Type 0
EatsInitialPerhaps e ts r = Perhaps word.Equals EatsExpression e ts r

unfoldable pub EatsEntity : EntityTree → List Item → List Item → Type 0
EatsEntity e ts r =
    (n : Identifier) × (s : Option ShapeTree) × (v : Option Tree) × (a : List Item) × (b : List Item)
    × EatsName n ts a × EatsShapePerhaps s a b × EatsInitialPerhaps v b r
    × (e ≡ record { name = n; shape = s; initial = v })

unfoldable pub AreEntities : List EntityTree → List Item → List Item → Type 0
AreEntities xs ts r = EatsList EatsEntity xs ts r

-- `{, attr}`
unfoldable pub EatsAttributes : List Placed → List Item → List Item → Type 0
EatsAttributes xs ts r = BehindComma AreAttributes xs ts r

-- `::` is needed with an attribute or an initializer (R501)
abbrev pub needs_colons : List Placed → List EntityTree → Bool
needs_colons [] entities = list_any (λ e. is_some e.initial) entities
needs_colons (a ∷ attributes) entities = true

-- what stands behind the specifier
unfoldable pub IsDeclarationBehind : Place → TypeSpecifier → DeclarationTree → List Item → Type 0
IsDeclarationBehind place s d ts =
    (attributes : List Placed) × (colons : Bool) × (entities : List EntityTree) × (a : List Item) × (b : List Item)
    × EatsAttributes attributes ts a × EatsColons colons a b × AreEntities entities b []
    × (needs_colons attributes entities ≡ true → colons ≡ true)
    × (d ≡ record { place = place; specifier = s; attributes = attributes; entities = entities })

-- a declaration at this place, from its specifier on
unfoldable pub IsDeclaration : Place → DeclarationTree → List Item → Type 0
IsDeclaration place d ts = (s : TypeSpecifier) × (a : List Item) × EatsSpecifier s ts a × IsDeclarationBehind place s d a

-- ---- SUBROUTINE and FUNCTION (12.5.2)

-- the keyword of a prefix of a procedure
abbrev pub is_prefix : Word → Bool
is_prefix (word.Name keyword.Pure) = true
is_prefix (word.Name keyword.Recursive) = true
is_prefix (word.Name keyword.Integer) = true
is_prefix (word.Name keyword.Logical) = true
is_prefix (word.Name keyword.Type) = true
is_prefix _ = false

-- a type specifier as a prefix, behind its keyword
unfoldable pub EatsTyped : Keyword → Prefix → List Item → List Item → Type 0
EatsTyped k x ts r = (s : TypeSpecifier) × EatsSpecifierOf k s ts r × (x ≡ prefix.Typed s)

-- behind the keyword of a prefix
abbrev pub EatsPrefixOf : Keyword → Prefix → List Item → List Item → Type 0
EatsPrefixOf keyword.Pure x ts r = (ts ≡ r) × (x ≡ prefix.Pure)
EatsPrefixOf keyword.Recursive x ts r = (ts ≡ r) × (x ≡ prefix.Recursive)
EatsPrefixOf k x ts r = EatsTyped k x ts r

unfoldable pub EatsPrefix : Prefix → List Item → List Item → Type 0
EatsPrefix x ts r = (i : Item) × (k : Keyword) × (tail : List Item) × (ts ≡ i ∷ tail) × (i.word ≡ word.Name k) × EatsPrefixOf k x tail r

-- one prefix behind the other, as far as they go
unfoldable pub ArePrefixes : List Prefix → List Item → List Item → Type 0
ArePrefixes [] ts r = (ts ≡ r) × (starts is_prefix ts ≡ false)
ArePrefixes (x ∷ xs) ts r = (a : List Item) × (starts is_prefix ts ≡ true) × EatsPrefix x ts a × ArePrefixes xs a r

abbrev pub no_prefix : Prefixes
no_prefix = record { pure = false; recursive = false; specifier = None }

-- one more prefix, unless one of its kind stands there (R1227, C1242)
abbrev pub with_prefix : Prefixes → Prefix → Option Prefixes
with_prefix p prefix.Pure = if p.pure then None else Some (record { pure = true; recursive = p.recursive; specifier = p.specifier })
with_prefix p prefix.Recursive = if p.recursive then None else Some (record { pure = p.pure; recursive = true; specifier = p.specifier })
with_prefix p (prefix.Typed s) = if is_some p.specifier then None else Some (record { pure = p.pure; recursive = p.recursive; specifier = Some s })

abbrev pub with_prefixes : Prefixes → List Prefix → Option Prefixes
with_prefixes p [] = Some p
with_prefixes p (x ∷ xs) = option_and_then (λ q. with_prefixes q xs) (with_prefix p x)

-- all prefixes at the front, together
unfoldable pub EatsPrefixes : Prefixes → List Item → List Item → Type 0
EatsPrefixes p ts r = (xs : List Prefix) × ArePrefixes xs ts r × (with_prefixes no_prefix xs ≡ Some p)

-- `( [n {, n}] )`
unfoldable pub EatsDummies : List Identifier → List Item → List Item → Type 0
EatsDummies ns ts r = Enclosed EatsNames ns ts r

-- of a subroutine, the parentheses may be left out
unfoldable pub IsDummiesPerhaps : List Identifier → List Item → Type 0
IsDummiesPerhaps ns ts = ((ts ≡ []) × (ns ≡ [])) ⊎ ((ts ≢ []) × EatsDummies ns ts [])

-- `[RESULT (n)]`
unfoldable pub EatsResultPerhaps : Option Identifier → List Item → List Item → Type 0
EatsResultPerhaps n ts r = Perhaps (word.Name keyword.ResultWord) EatsEnclosedName n ts r

-- behind SUBROUTINE
unfoldable pub IsSubroutine : Place → Prefixes → HeaderTree → List Item → Type 0
IsSubroutine place p h ts =
    (n : Identifier) × (ns : List Identifier) × (a : List Item) × (p.specifier ≡ None) × EatsName n ts a × IsDummiesPerhaps ns a
    × (h ≡ record { place = place; pure = p.pure; recursive = p.recursive; kind = procedure_kind.Subroutine; name = n; dummies = ns })

-- behind FUNCTION
unfoldable pub IsFunction : Place → Prefixes → HeaderTree → List Item → Type 0
IsFunction place p h ts =
    (n : Identifier) × (ns : List Identifier) × (outcome : Option Identifier) × (a : List Item) × (b : List Item)
    × EatsName n ts a × EatsDummies ns a b × EatsResultPerhaps outcome b []
    × (h ≡ record { place = place; pure = p.pure; recursive = p.recursive; kind = procedure_kind.Function p.specifier outcome; name = n; dummies = ns })

-- behind the keyword of a procedure
abbrev pub IsProcedureOf : Keyword → Place → Prefixes → HeaderTree → List Item → Type 0
IsProcedureOf keyword.Subroutine place p h ts = IsSubroutine place p h ts
IsProcedureOf keyword.Function place p h ts = IsFunction place p h ts
IsProcedureOf _ place p h ts = ⊥

-- behind the prefixes
unfoldable pub IsProcedureBehind : Place → Prefixes → HeaderTree → List Item → Type 0
IsProcedureBehind place p h ts = (i : Item) × (k : Keyword) × (tail : List Item) × (ts ≡ i ∷ tail) × (i.word ≡ word.Name k) × IsProcedureOf k place p h tail

unfoldable pub IsHeader : Place → HeaderTree → List Item → Type 0
IsHeader place h ts = (p : Prefixes) × (a : List Item) × EatsPrefixes p ts a × IsProcedureBehind place p h a

-- ---- derived types (4.5): TYPE n, or TYPE [, access] :: n

abbrev pub access_of : Word → Option Accessibility
access_of (word.Name keyword.Public) = Some accessibility.Public
access_of (word.Name keyword.Private) = Some accessibility.Private
access_of _ = None

unfoldable pub EatsAccess : Place × Accessibility → List Item → List Item → Type 0
EatsAccess x ts r = (i : Item) × (a : Accessibility) × (ts ≡ i ∷ r) × (access_of i.word ≡ Some a) × (x ≡ (i.place, a))

-- `, access ::`
unfoldable pub EatsTypeAccess : Place × Accessibility → List Item → List Item → Type 0
EatsTypeAccess x ts r = (a : List Item) × (b : List Item) × EatsWord word.Comma ts a × EatsAccess x a b × EatsWord word.Colons b r

unfoldable pub IsTypeBegin : Option (Place × Accessibility) → Identifier → List Item → Type 0
IsTypeBegin None n ts = (c : Bool) × (a : List Item) × Lacks word.Comma ts × EatsColons c ts a × IsName n a
IsTypeBegin (Some x) n ts = (a : List Item) × EatsTypeAccess x ts a × IsName n a
