-- Executable statements.
use Rattle.std.specs.Prelude.{◌≡◌, ◌≢◌, ◌⊎◌, ℤ, Bool, true, false, List, [], ◌∷◌, Option, Some, None}
use Rattle.f3_tree.specs.declared.expression.Name.{Name as Identifier}
use Rattle.f3_tree.specs.declared.expression.IntegerLiteral.{IntegerLiteral}
use Rattle.f3_tree.specs.declared.expression.IntegerLiteral.TheVariants as literal
use Rattle.f3_tree.specs.declared.expression.Operator.TheVariants.{Multiply}
use Rattle.f3_tree.specs.Expressions.{Tree, Parts, ArgumentTree}
use Rattle.f3_tree.specs.Statements.{Act, assign, call, allocate, deallocate, print, stop, return, cycle, exit, continue, CaseTree, one}
use Rattle.f3_tree.specs.Statements.{from, up_to, range, Selects, values, default, Controls, forever, counted, while, AssociationTree}
use Rattle.f3_words.specs.declared.item.Keyword.{Keyword}
use Rattle.f3_words.specs.declared.item.Keyword.TheVariants as keyword
use Rattle.f3_words.specs.declared.item.Word.{Word}
use Rattle.f3_words.specs.declared.item.Word.TheVariants as word
use Rattle.f3_words.specs.declared.item.Item.{Item}
use Rattle.f3_words.specs.Lists.{starts, EatsList}
use Rattle.f3_expressions.specs.Grammar.{EatsExpression, EatsDesignator, EatsArguments}
use Rattle.f3_reading.specs.Parts.{EatsWord, EatsName, EatsKeyword, Lacks, Enclosed, Perhaps, BehindComma, First}

-- `v = e` (7.4.1)
unfoldable pub IsAssignment : Act → List Item → Type 0
IsAssignment a ts =
    (v : Parts) × (e : Tree) × (b : List Item) × (c : List Item) × EatsDesignator v ts b × EatsWord word.Equals b c
    × EatsExpression e c [] × (a ≡ assign v e)

-- the arguments of a CALL; none where there are no parentheses
unfoldable pub IsCallArguments : List ArgumentTree → List Item → Type 0
IsCallArguments xs ts = ((ts ≡ []) × (xs ≡ [])) ⊎ ((ts ≢ []) × EatsArguments xs ts [])

-- `n [( [arg {, arg}] )]` (12.4)
unfoldable pub IsCall : Act → List Item → Type 0
IsCall a ts = (n : Identifier) × (xs : List ArgumentTree) × (b : List Item) × EatsName n ts b × IsCallArguments xs b × (a ≡ call n xs)

-- `STAT =`
unfoldable pub EatsStatusHead : List Item → List Item → Type 0
EatsStatusHead ts r = (a : List Item) × EatsKeyword keyword.Stat ts a × EatsWord word.Equals a r

-- an object of an ALLOCATE or DEALLOCATE (6.3.1, 6.3.3)
unfoldable pub EatsObject : Parts → List Item → List Item → Type 0
EatsObject v ts r = EatsDesignator v ts r × ((a : List Item) → EatsStatusHead ts a → ⊥)

-- `, STAT = v`, where a comma stands
unfoldable pub EatsStatus : Option Parts → List Item → List Item → Type 0
EatsStatus None ts r = (ts ≡ r) × Lacks word.Comma ts
EatsStatus (Some v) ts r = (a : List Item) × (b : List Item) × EatsWord word.Comma ts a × EatsStatusHead a b × EatsDesignator v b r

-- objects with commas between them, and then STAT
abbrev pub EatsObjects : List Parts → Option Parts → List Item → List Item → Type 0
EatsObjects [] stat ts r = ⊥
EatsObjects (v ∷ []) stat ts r = (a : List Item) × EatsObject v ts a × EatsStatus stat a r
EatsObjects (v ∷ w ∷ vs) stat ts r = (a : List Item) × (b : List Item) × EatsObject v ts a × EatsWord word.Comma a b × EatsObjects (w ∷ vs) stat b r

unfoldable pub AreObjects : List Parts × Option Parts → List Item → List Item → Type 0
AreObjects x ts r = EatsObjects x.0 x.1 ts r

-- `(v {, v} [, STAT = v])`
unfoldable pub IsAllocation : List Parts × Option Parts → List Item → Type 0
IsAllocation x ts = Enclosed AreObjects x ts []

unfoldable pub IsAllocate : Act → List Item → Type 0
IsAllocate a ts = (x : List Parts × Option Parts) × IsAllocation x ts × (a ≡ allocate x.0 x.1)

unfoldable pub IsDeallocate : Act → List Item → Type 0
IsDeallocate a ts = (x : List Parts × Option Parts) × IsAllocation x ts × (a ≡ deallocate x.0 x.1)

unfoldable pub AreItems : List Tree → List Item → List Item → Type 0
AreItems es ts r = EatsList EatsExpression es ts r

-- `{, e}`
unfoldable pub EatsItems : List Tree → List Item → List Item → Type 0
EatsItems es ts r = BehindComma AreItems es ts r

-- `* {, e}` (9.5)
unfoldable pub IsPrint : Act → List Item → Type 0
IsPrint a ts = (es : List Tree) × (b : List Item) × EatsWord (word.Operator Multiply) ts b × EatsItems es b [] × (a ≡ print es)

-- the value of an integer of one to five digits (8.4), without a suffix
abbrev pub stop_code : Word → IntegerLiteral → Option ℤ
stop_code (word.KindDigit k) (literal.Four z) = Some z
stop_code word.ShortInteger (literal.Four z) = Some z
stop_code _ _ = None

-- at most one such integer
unfoldable pub IsStop : Act → List Item → Type 0
IsStop a ts = ((ts ≡ []) × (a ≡ stop None)) ⊎ ((i : Item) × (z : ℤ) × (ts ≡ i ∷ []) × (stop_code i.word i.value ≡ Some z) × (a ≡ stop (Some z)))

-- the keyword alone
abbrev pub IsAlone : Act → Act → List Item → Type 0
IsAlone act a ts = (ts ≡ []) × (a ≡ act)

-- behind the keyword of an action
abbrev pub IsActionOf : Keyword → Act → List Item → Type 0
IsActionOf keyword.Call a ts = IsCall a ts
IsActionOf keyword.Allocate a ts = IsAllocate a ts
IsActionOf keyword.Deallocate a ts = IsDeallocate a ts
IsActionOf keyword.Print a ts = IsPrint a ts
IsActionOf keyword.Stop a ts = IsStop a ts
IsActionOf keyword.Return a ts = IsAlone return a ts
IsActionOf keyword.Cycle a ts = IsAlone cycle a ts
IsActionOf keyword.Exit a ts = IsAlone exit a ts
IsActionOf keyword.Continue a ts = IsAlone continue a ts
IsActionOf _ a ts = ⊥

-- an action with a keyword
unfoldable pub IsHeadedAction : Act → List Item → Type 0
IsHeadedAction a ts = (i : Item) × (k : Keyword) × (tail : List Item) × (ts ≡ i ∷ tail) × (i.word ≡ word.Name k) × IsActionOf k a tail

-- An action: an assignment, whatever its first name is, or else one with a keyword.
unfoldable pub IsAction : Act → List Item → Type 0
IsAction a ts = First IsAssignment IsHeadedAction a ts

-- ---- constructs

-- `(e)`
unfoldable pub EatsCondition : Tree → List Item → List Item → Type 0
EatsCondition e ts r = Enclosed EatsExpression e ts r

unfoldable pub IsCondition : Tree → List Item → Type 0
IsCondition e ts = EatsCondition e ts []

-- `(e) THEN`
unfoldable pub IsThen : Tree → List Item → Type 0
IsThen e ts = (a : List Item) × EatsCondition e ts a × EatsKeyword keyword.Then a []

-- a value of a CASE ends before a comma or the closing parenthesis
abbrev pub ends_value : Word → Bool
ends_value word.Comma = true
ends_value word.Close = true
ends_value _ = false

-- `e`, `e:`, `:e` or `e:e` (8.1.3)
unfoldable pub EatsCase : CaseTree → List Item → List Item → Type 0
EatsCase (one e) ts r = Lacks word.Colon ts × EatsExpression e ts r × Lacks word.Colon r
EatsCase (from e) ts r = (a : List Item) × Lacks word.Colon ts × EatsExpression e ts a × EatsWord word.Colon a r × (starts ends_value r ≡ true)
EatsCase (range e f) ts r =
    (a : List Item) × (b : List Item) × Lacks word.Colon ts × EatsExpression e ts a × EatsWord word.Colon a b
    × (starts ends_value b ≡ false) × EatsExpression f b r
EatsCase (up_to p f) ts r = (i : Item) × (a : List Item) × EatsWord word.Colon ts a × (ts ≡ i ∷ a) × (p ≡ i.place) × EatsExpression f a r

unfoldable pub AreCases : List CaseTree → List Item → List Item → Type 0
AreCases cs ts r = EatsList EatsCase cs ts r

-- `(c {, c})`
unfoldable pub IsCaseList : List CaseTree → List Item → Type 0
IsCaseList cs ts = Enclosed AreCases cs ts []

-- DEFAULT
unfoldable pub IsDefault : Selects → List Item → Type 0
IsDefault x ts = EatsKeyword keyword.Default ts [] × (x ≡ default)

unfoldable pub AreValues : Selects → List Item → Type 0
AreValues x ts = (cs : List CaseTree) × IsCaseList cs ts × (x ≡ values cs)

-- behind CASE
unfoldable pub IsCase : Selects → List Item → Type 0
IsCase x ts = First IsDefault AreValues x ts

-- `[, e]`
unfoldable pub EatsStepPerhaps : Option Tree → List Item → List Item → Type 0
EatsStepPerhaps e ts r = Perhaps word.Comma EatsExpression e ts r

-- `e, e [, e]`
unfoldable pub IsSteps : Tree × Tree × Option Tree → List Item → Type 0
IsSteps x ts =
    (first : Tree) × (last : Tree) × (step : Option Tree) × (a : List Item) × (b : List Item) × (c : List Item)
    × EatsExpression first ts a × EatsWord word.Comma a b × EatsExpression last b c × EatsStepPerhaps step c [] × (x ≡ (first, last, step))

-- `n = e, e [, e]`
unfoldable pub IsCounted : Controls → List Item → Type 0
IsCounted x ts =
    (n : Identifier) × (s : Tree × Tree × Option Tree) × (a : List Item) × (b : List Item) × EatsName n ts a
    × EatsWord word.Equals a b × IsSteps s b × (x ≡ counted n s.0 s.1 s.2)

-- `WHILE (e)`
unfoldable pub IsWhile : Controls → List Item → Type 0
IsWhile x ts = (e : Tree) × (a : List Item) × EatsKeyword keyword.While ts a × IsCondition e a × (x ≡ while e)

unfoldable pub IsControl : Controls → List Item → Type 0
IsControl x ts = First IsWhile IsCounted x ts

-- behind DO (8.1.6): nothing, or a control
unfoldable pub IsDo : Controls → List Item → Type 0
IsDo x ts = ((ts ≡ []) × (x ≡ forever)) ⊎ ((ts ≢ []) × IsControl x ts)

-- `n => e` (8.1.4)
unfoldable pub EatsAssociation : AssociationTree → List Item → List Item → Type 0
EatsAssociation x ts r =
    (n : Identifier) × (e : Tree) × (a : List Item) × (b : List Item) × EatsName n ts a × EatsWord word.Arrow a b
    × EatsExpression e b r × (x ≡ record { name = n; selector = e })

unfoldable pub AreAssociations : List AssociationTree → List Item → List Item → Type 0
AreAssociations xs ts r = EatsList EatsAssociation xs ts r

-- behind ASSOCIATE: `(n => e {, n => e})`
unfoldable pub IsAssociate : List AssociationTree → List Item → Type 0
IsAssociate xs ts = Enclosed AreAssociations xs ts []
