-- Shapes of arrays (5.1.2.5): the tokens that spell them.
use Rattle.std.specs.Prelude.{◌≡◌, List, Option, Some, None}
use Rattle.std.specs.Option.{option_map}
use Rattle.f3_tree.specs.declared.expression.Expression.{Expression}
use Rattle.f3_tree.specs.Expressions.{Tree, expression_view}
use Rattle.f3_tree.specs.Declarations.{Bounds, ShapeTree, explicit, deferred}
use Rattle.f3_words.specs.declared.item.Word.TheVariants as word
use Rattle.f3_words.specs.declared.item.Item.{Item}
use Rattle.f3_words.specs.Lists.{EatsList}
use Rattle.f3_expressions.specs.Grammar.{EatsExpression}
use Rattle.f3_reading.specs.Parts.{EatsWord, Lacks, Perhaps}

-- `e`, or `e:e`
abbrev pub EatsBound : Option Tree → Tree → List Item → List Item → Type 0
EatsBound None upper ts r = EatsExpression upper ts r × Lacks word.Colon r
EatsBound (Some lower) upper ts r = (a : List Item) × (b : List Item) × EatsExpression lower ts a × EatsWord word.Colon a b × EatsExpression upper b r

unfoldable pub EatsBounds : Bounds → List Item → List Item → Type 0
EatsBounds x ts r = (lower : Option Tree) × (upper : Tree) × EatsBound lower upper ts r × (x ≡ record { lower = lower; upper = upper })

-- `:`, or `e:`
unfoldable pub EatsLower : Option Tree → List Item → List Item → Type 0
EatsLower None ts r = EatsWord word.Colon ts r
EatsLower (Some lower) ts r = (a : List Item) × Lacks word.Colon ts × EatsExpression lower ts a × EatsWord word.Colon a r

unfoldable pub AreBounds : List Bounds → List Item → List Item → Type 0
AreBounds xs ts r = EatsList EatsBounds xs ts r

unfoldable pub AreLowers : List (Option Tree) → List Item → List Item → Type 0
AreLowers xs ts r = EatsList EatsLower xs ts r

-- `e`, `e:e` {, ..} and the parenthesis that closes
unfoldable pub EatsExplicit : List Bounds → List Item → List Item → Type 0
EatsExplicit xs ts r = (a : List Item) × AreBounds xs ts a × EatsWord word.Close a r

-- `:`, `e:` {, ..} and the parenthesis that closes
unfoldable pub EatsDeferred : List (Option Tree) → List Item → List Item → Type 0
EatsDeferred xs ts r = (a : List Item) × AreLowers xs ts a × EatsWord word.Close a r

-- a shape behind its open parenthesis: of `e` and `e:e`, or else of `:` and `e:`
unfoldable pub EatsShapeBehind : ShapeTree → List Item → List Item → Type 0
EatsShapeBehind (explicit bounds) ts r = EatsExplicit bounds ts r
EatsShapeBehind (deferred lowers) ts r = EatsDeferred lowers ts r × ((bounds : List Bounds) (s : List Item) → EatsExplicit bounds ts s → ⊥)

-- `( shape )`
unfoldable pub EatsShape : ShapeTree → List Item → List Item → Type 0
EatsShape x ts r = (a : List Item) × EatsWord word.Open ts a × EatsShapeBehind x a r

-- `[( shape )]`
unfoldable pub EatsShapePerhaps : Option ShapeTree → List Item → List Item → Type 0
EatsShapePerhaps s ts r = Perhaps word.Open EatsShapeBehind s ts r

-- ---- what is seen of a lower bound

abbrev pub lower_view : Option Expression → Option Tree
lower_view l = option_map expression_view l
