-- Elements of one kind, one after the other.
use Rattle.std.specs.Prelude.{◌≡◌, Bool, true, false, List, [], ◌∷◌}
use Rattle.f3_words.specs.declared.item.Word.{Word}
use Rattle.f3_words.specs.declared.item.Word.TheVariants.{Comma}
use Rattle.f3_words.specs.declared.item.Item.{Item}

-- the first token passes the test
abbrev pub starts : (Word → Bool) → List Item → Bool
starts test [] = false
starts test (i ∷ ts) = test i.word

abbrev pub is_comma : Word → Bool
is_comma Comma = true
is_comma _ = false

-- Elements one after the other, each from a token that passes the test, up to where no such token goes on.
-- Is element token tail rest: the element from that token, with the tail behind it, and the rest behind that.
abbrev pub EatsRun : {A : Type 0} → (Word → Bool) → (A → Item → List Item → List Item → Type 0) → List A → List Item → List Item → Type 0
EatsRun test Is [] ts r = (ts ≡ r) × (starts test r ≡ false)
EatsRun test Is (x ∷ xs) ts r =
    (i : Item) × (tail : List Item) × (mid : List Item) × (ts ≡ i ∷ tail) × (test i.word ≡ true) × Is x i tail mid
    × EatsRun test Is xs mid r

-- elements behind commas, which say nothing themselves
abbrev pub Separated : {A : Type 0} → (A → List Item → List Item → Type 0) → A → Item → List Item → List Item → Type 0
Separated Is x separator tail r = Is x tail r

-- one element, and others behind commas
abbrev pub EatsList : {A : Type 0} → (A → List Item → List Item → Type 0) → List A → List Item → List Item → Type 0
EatsList {A} Is all ts r = (x : A) × (others : List A) × (mid : List Item) × (all ≡ x ∷ others) × Is x ts mid × EatsRun is_comma (Separated Is) others mid r
