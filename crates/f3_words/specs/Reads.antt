-- What a reader gives: the one value that the tokens spell.
use Rattle.std.specs.Prelude.{◌≡◌, Bool, true, false, List, ◌∷◌, Option, Some, None, Result, Ok, Err}
use Rattle.std.specs.Borrow.{Bor}
use Rattle.f3_words.specs.declared.error.ReadError.{ReadError}
use Rattle.f3_words.specs.declared.error.ReadError.TheVariants.{Memory, NoForm}
use Rattle.f3_words.specs.declared.item.Word.{Word}
use Rattle.f3_words.specs.declared.item.Item.{Item}
use Rattle.f3_words.specs.Lists.{starts}

-- the fact behind an error, unless memory ran out
abbrev pub Refused : ReadError → Type 0 → Type 0
Refused Memory fact = Unit {0}
Refused NoForm fact = fact

-- x is spelled with r behind it, and nothing else is
pub record IsRead {A : Type 0} (Is : A → List Item → List Item → Type 0) (ts : List Item) (x : A) (r : List Item) : Type 0 where
  pub eats : Is x ts r
  pub only : (y : A) (s : List Item) → Is y ts s → (y ≡ x) × (s ≡ r)

abbrev pub Fails : {A : Type 0} → (A → List Item → List Item → Type 0) → List Item → Type 0
Fails {A} Is ts = (y : A) (s : List Item) → Is y ts s → ⊥

abbrev pub Reads : {A X : Type 0} → (A → List Item → List Item → Type 0) → (X → A) → Result (X × Bor (List Item)) ReadError → List Item → Type 0
Reads Is seen (Ok x) ts = IsRead Is ts (seen x.0) x.1.now
Reads Is seen (Err e) ts = Refused e (Fails Is ts)

-- x alone is spelled by all of the tokens, where Is says what spells a value
abbrev pub Finds : {A X : Type 0} → (A → List Item → Type 0) → (X → A) → Result X ReadError → List Item → Type 0
Finds {A} Is seen (Ok x) ts = Is (seen x) ts × ((y : A) → Is y ts → y ≡ seen x)
Finds {A} Is seen (Err e) ts = Refused e ((y : A) → Is y ts → ⊥)

-- the same of a reader that takes no memory
abbrev pub Takes : {A : Type 0} → (A → List Item → List Item → Type 0) → Option (A × Bor (List Item)) → List Item → Type 0
Takes Is (Some x) ts = IsRead Is ts x.0 x.1.now
Takes Is None ts = Fails Is ts

abbrev pub Gives : {A X : Type 0} → (A → List Item → Type 0) → (X → A) → Option X → List Item → Type 0
Gives {A} Is seen (Some x) ts = Is (seen x) ts × ((y : A) → Is y ts → y ≡ seen x)
Gives {A} Is seen None ts = (y : A) → Is y ts → ⊥

-- what stands behind a token of this word at the front
abbrev pub IsFront : Word → Option (Bor (List Item)) → List Item → Type 0
IsFront w (Some tail) ts = (i : Item) × (ts ≡ i ∷ tail.now) × (i.word ≡ w)
IsFront w None ts = (i : Item) (tail : List Item) → ts ≡ i ∷ tail → i.word ≡ w → ⊥

-- a token at the front that passes the test, and what stands behind it
abbrev pub IsStart : (Word → Bool) → Option (Item × Bor (List Item)) → List Item → Type 0
IsStart test (Some x) ts = (ts ≡ x.0 ∷ x.1.now) × (test x.0.word ≡ true)
IsStart test None ts = starts test ts ≡ false

-- a first element, and those that are spelled behind it
abbrev pub AreBehind : {A : Type 0} → A → (List A → List Item → List Item → Type 0) → List A → List Item → List Item → Type 0
AreBehind {A} first Are all ts r = (others : List A) × (all ≡ first ∷ others) × Are others ts r
