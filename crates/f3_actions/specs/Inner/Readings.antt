-- What the readers of parts of a CASE find.
use Rattle.std.specs.Prelude.{◌≡◌, true, false, List, ◌∷◌, Option, Some, None}
use Rattle.std.specs.Borrow.{Bor}
use Rattle.f3_places.specs.declared.source.Place.{Place}
use Rattle.f3_tree.specs.Expressions.{Tree}
use Rattle.f3_tree.specs.Statements.{CaseTree, one, from, up_to, range}
use Rattle.f3_words.specs.declared.item.Word.TheVariants.{Colon}
use Rattle.f3_words.specs.declared.item.Item.{Item}
use Rattle.f3_words.specs.Lists.{starts}
use Rattle.f3_reading.specs.Parts.{EatsWord, Lacks}
use Rattle.f3_expressions.specs.Grammar.{EatsExpression}
use Rattle.f3_actions.specs.Actions.{ends_value}

-- a colon at the front
abbrev pub HasColon : Option (Place × Bor (List Item)) → List Item → Type 0
HasColon (Some x) ts = (i : Item) × (ts ≡ i ∷ x.1.now) × EatsWord Colon ts x.1.now × (x.0 ≡ i.place)
HasColon None ts = Lacks Colon ts

-- behind the first value, which is e
abbrev pub EatsCaseBehind : Tree → CaseTree → List Item → List Item → Type 0
EatsCaseBehind e (one f) ts r = (f ≡ e) × (ts ≡ r) × Lacks Colon ts
EatsCaseBehind e (from f) ts r = (f ≡ e) × EatsWord Colon ts r × (starts ends_value r ≡ true)
EatsCaseBehind e (range f g) ts r = (a : List Item) × (f ≡ e) × EatsWord Colon ts a × (starts ends_value a ≡ false) × EatsExpression g a r
EatsCaseBehind e (up_to p f) ts r = ⊥
