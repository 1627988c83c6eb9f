-- Names, one or several: the tokens that spell them.
use Rattle.std.specs.Prelude.{◌≡◌, ◌≢◌, ◌⊎◌, Bool, true, false, List, [], Option, Some, None}
use Rattle.f3_tree.specs.declared.expression.Name.{Name as Identifier}
use Rattle.f3_words.specs.declared.item.Word.TheVariants as word
use Rattle.f3_words.specs.declared.item.Item.{Item}
use Rattle.f3_words.specs.Words.{is_name}
use Rattle.f3_words.specs.Lists.{starts, EatsList}
use Rattle.f3_reading.specs.Parts.{EatsWord, EatsName, Lacks, Enclosed}

-- `( n )`
unfoldable pub EatsEnclosedName : Identifier → List Item → List Item → Type 0
EatsEnclosedName n ts r = Enclosed EatsName n ts r

-- `n {, n}`
unfoldable pub AreNames : List Identifier → List Item → List Item → Type 0
AreNames ns ts r = EatsList EatsName ns ts r

-- `[n {, n}]`
unfoldable pub EatsNames : List Identifier → List Item → List Item → Type 0
EatsNames ns ts r = ((starts is_name ts ≡ true) × AreNames ns ts r) ⊎ ((ns ≡ []) × (ts ≡ r) × (starts is_name ts ≡ false))

-- `[::]`
unfoldable pub EatsColons : Bool → List Item → List Item → Type 0
EatsColons true ts r = EatsWord word.Colons ts r
EatsColons false ts r = (ts ≡ r) × Lacks word.Colons ts

-- ---- all that stands behind a keyword

-- one name, and nothing else
unfoldable pub IsName : Identifier → List Item → Type 0
IsName n ts = EatsName n ts []

-- nothing, or a name
unfoldable pub IsLabel : Option Identifier → List Item → Type 0
IsLabel n ts = ((ts ≡ []) × (n ≡ None)) ⊎ ((m : Identifier) × (ts ≢ []) × IsName m ts × (n ≡ Some m))

-- `[::] n {, n}`
unfoldable pub IsNameList : List Identifier → List Item → Type 0
IsNameList ns ts = (c : Bool) × (a : List Item) × EatsColons c ts a × AreNames ns a []
