-- Parts that statements are made of: the tokens that spell them, and what stands behind these.
use Rattle.std.specs.Prelude.{◌≡◌, ◌<◌, ◌⊎◌, true, List, [], ◌∷◌, length, Option, Some, None, Result, Ok, Err}
use Rattle.std.specs.Borrow.{Bor}
use Rattle.f3_tree.specs.declared.expression.Name.{Name as Identifier}
use Rattle.f3_words.specs.declared.error.ReadError.{ReadError}
use Rattle.f3_words.specs.declared.error.ReadError.TheVariants.{Memory, NoForm}
use Rattle.f3_words.specs.declared.item.Keyword.{Keyword}
use Rattle.f3_words.specs.declared.item.Word.{Word}
use Rattle.f3_words.specs.declared.item.Word.TheVariants as word
use Rattle.f3_words.specs.declared.item.Item.{Item}
use Rattle.f3_words.specs.Words.{is_name, name_of}
use Rattle.f3_words.specs.Reads.{Refused}

-- a token of this word
unfoldable pub EatsWord : Word → List Item → List Item → Type 0
EatsWord w ts r = (i : Item) × (ts ≡ i ∷ r) × (i.word ≡ w)

-- a name
unfoldable pub EatsName : Identifier → List Item → List Item → Type 0
EatsName n ts r = (i : Item) × (ts ≡ i ∷ r) × (is_name i.word ≡ true) × (n ≡ name_of i)

-- no token of this word is the first
unfoldable pub Lacks : Word → List Item → Type 0
Lacks w ts = (r : List Item) → EatsWord w ts r → ⊥

abbrev pub EatsKeyword : Keyword → List Item → List Item → Type 0
EatsKeyword k ts r = EatsWord (word.Name k) ts r

-- a part in parentheses
abbrev pub Enclosed : {A : Type 0} → (A → List Item → List Item → Type 0) → A → List Item → List Item → Type 0
Enclosed Is x ts r = (a : List Item) × (b : List Item) × EatsWord word.Open ts a × Is x a b × EatsWord word.Close b r

-- a part that stands exactly where this word is the first, behind that
abbrev pub Perhaps : {A : Type 0} → Word → (A → List Item → List Item → Type 0) → Option A → List Item → List Item → Type 0
Perhaps w Is None ts r = (ts ≡ r) × Lacks w ts
Perhaps w Is (Some x) ts r = (a : List Item) × EatsWord w ts a × Is x a r

-- nothing, or a comma and a list
abbrev pub BehindComma : {A : Type 0} → (List A → List Item → List Item → Type 0) → List A → List Item → List Item → Type 0
BehindComma Are xs ts r = ((a : List Item) × EatsWord word.Comma ts a × Are xs a r) ⊎ ((xs ≡ []) × (ts ≡ r) × Lacks word.Comma ts)

-- the first of two readings; the other only where the first has nothing
abbrev pub First : {A : Type 0} → (A → List Item → Type 0) → (A → List Item → Type 0) → A → List Item → Type 0
First {A} Is Other x ts = Is x ts ⊎ (((y : A) → Is y ts → ⊥) × Other x ts)

-- ---- what a reader gives that only goes on

-- what stands behind a token of this word at the front
abbrev pub IsBehind : Word → Option (Bor (List Item)) → List Item → Type 0
IsBehind w (Some tail) ts = EatsWord w ts tail.now × (length tail.now < length ts)
IsBehind w None ts = Lacks w ts

-- r stands behind what was read, and nothing else does
abbrev pub Skips : (List Item → List Item → Type 0) → Result (Bor (List Item)) ReadError → List Item → Type 0
Skips Is (Ok tail) ts = Is ts tail.now × ((r : List Item) → Is ts r → r ≡ tail.now)
Skips Is (Err e) ts = Refused e ((r : List Item) → Is ts r → ⊥)
