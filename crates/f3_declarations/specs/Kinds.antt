-- The kind of INTEGER (5.1.1.1; own rule: the digit 4 or 8, and kind 4 where none is written).
use Rattle.std.specs.Prelude.{◌≡◌, ◌⊎◌, List, Option, unwrap_or}
use Rattle.f3_tree.specs.declared.expression.IntegerKind.{IntegerKind}
use Rattle.f3_tree.specs.declared.expression.IntegerKind.TheVariants as kind
use Rattle.f3_tree.specs.declared.declaration.TypeSpecifier.{TypeSpecifier}
use Rattle.f3_tree.specs.declared.declaration.TypeSpecifier.TheVariants as specifier
use Rattle.f3_words.specs.declared.item.Keyword.TheVariants as keyword
use Rattle.f3_words.specs.declared.item.Word.TheVariants as word
use Rattle.f3_words.specs.declared.item.Item.{Item}
use Rattle.f3_reading.specs.Parts.{EatsWord, EatsKeyword, Lacks, Perhaps}

-- `[KIND =]`
unfoldable pub EatsKindName : List Item → List Item → Type 0
EatsKindName ts r = ((a : List Item) × EatsKeyword keyword.Kind ts a × EatsWord word.Equals a r) ⊎ ((ts ≡ r) × Lacks (word.Name keyword.Kind) ts)

-- the digit 4 or 8
unfoldable pub EatsKindDigit : IntegerKind → List Item → List Item → Type 0
EatsKindDigit k ts r = EatsWord (word.KindDigit k) ts r

-- `[KIND =] k )`
unfoldable pub EatsKindBehind : IntegerKind → List Item → List Item → Type 0
EatsKindBehind k ts r = (a : List Item) × (b : List Item) × EatsKindName ts a × EatsKindDigit k a b × EatsWord word.Close b r

-- `[( [KIND =] k )]`
unfoldable pub EatsKindPerhaps : Option IntegerKind → List Item → List Item → Type 0
EatsKindPerhaps k ts r = Perhaps word.Open EatsKindBehind k ts r

-- behind INTEGER
unfoldable pub EatsInteger : TypeSpecifier → List Item → List Item → Type 0
EatsInteger s ts r = (k : Option IntegerKind) × EatsKindPerhaps k ts r × (s ≡ specifier.Integer (unwrap_or k kind.Four))
