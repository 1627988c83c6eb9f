-- Names and lists of names are spelled in one way.
use Rattle.std.specs.Prelude.{◌≡◌, List, Option}
use Rattle.f3_tree.specs.declared.expression.Name.{Name as Identifier}
use Rattle.f3_words.specs.declared.item.Word.{Word}
use Rattle.f3_words.specs.declared.item.Item.{Item}
use Rattle.f3_reading.specs.Parts.{EatsWord, EatsName}
use Rattle.f3_reading.specs.Names.{EatsEnclosedName, AreNames, EatsNames, EatsColons, IsName, IsLabel, IsNameList}

-- two values that a front of the same tokens spells are one, and what stands behind them is the same
abbrev pub IsOne : {A : Type 0} → (A → List Item → List Item → Type 0) → Type 0
IsOne {A} Is = (x y : A) (ts r s : List Item) → Is x ts r → Is y ts s → (x ≡ y) × (r ≡ s)

-- two values that all of the tokens spell are one
abbrev pub IsOneWhole : {A : Type 0} → (A → List Item → Type 0) → Type 0
IsOneWhole {A} Is = (x y : A) (ts : List Item) → Is x ts → Is y ts → x ≡ y

abbrev pub WordsAreOne : Type 0
WordsAreOne = (v w : Word) (ts r s : List Item) → EatsWord v ts r → EatsWord w ts s → (v ≡ w) × (r ≡ s)

abbrev pub NamesAreOne : Type 0
NamesAreOne =
    IsOne EatsName × IsOne EatsEnclosedName × IsOne AreNames × IsOne EatsNames × IsOne EatsColons
    × IsOneWhole IsName × IsOneWhole IsLabel × IsOneWhole IsNameList
