-- A word at the front.
use Rattle.std.proofs.Common.{◌≡◌, List, [], ◌∷◌, true, false, refl, sym, ap, ◌∙◌}
use Rattle.f3_words.specs.declared.item.Word.{Word}
use Rattle.f3_words.specs.declared.item.Item.{Item}
use Rattle.f3_reading.specs.Parts.{EatsWord, Lacks}

-- what stands behind one front
pub same_tail : (v w : Word) (ts r s : List Item) → EatsWord v ts r → EatsWord w ts s → s ≡ r
unfolding EatsWord
same_tail v w ts r s a b = let one = a.1 in let two = b.1 in cc

-- two words at one front
pub same_word : (v w : Word) (ts r s : List Item) → EatsWord v ts r → EatsWord w ts s → v ≡ w
unfolding EatsWord
same_word v w ts r s a b = let one = a.1 in let two = b.1 in let i = a.2 in let j = b.2 in cc

pub lacked : (w : Word) (ts r : List Item) → Lacks w ts → EatsWord w ts r → ⊥
unfolding Lacks
lacked w ts r none h = none r h

-- where another word stands
pub other_word : (v w : Word) (ts r : List Item) → EatsWord v ts r → (v ≡ w → ⊥) → Lacks w ts
unfolding Lacks
other_word v w ts r a differ s b = differ (same_word v w ts r s a b)
