-- `KIND =`, or none.
use Rattle.std.proofs.Common.{◌≡◌, List, Result, Ok, Err, refl, sym, subst, inl, inr}
use Rattle.std.specs.Borrow.{Bor}
use Rattle.f3_words.specs.declared.error.ReadError.{ReadError}
use Rattle.f3_words.specs.declared.error.ReadError.TheVariants.{Memory, NoForm}
use Rattle.f3_words.specs.declared.item.Keyword.TheVariants as keyword
use Rattle.f3_words.specs.declared.item.Word.{Word}
use Rattle.f3_words.specs.declared.item.Word.TheVariants as word
use Rattle.f3_words.specs.declared.item.Item.{Item}
use Rattle.f3_reading.specs.Parts.{EatsWord, Lacks, Skips}
use Rattle.f3_reading.proofs.Words.{same_tail, lacked}
use Rattle.f3_declarations.specs.Kinds.{EatsKindName}

abbrev kind : Word
kind = word.Name keyword.Kind

pub no_kind_name : (ts : List Item) → Lacks kind ts → EatsKindName ts ts × ((r : List Item) → EatsKindName ts r → r ≡ ts)
unfolding EatsKindName
no_kind_name ts none = (inr (refl, none), λ r h. by r h)
  where
    by : (r : List Item) → EatsKindName ts r → r ≡ ts
    by r (inl h) = absurd (lacked kind ts h.0 none h.1)
    by r (inr h) = sym h.0

pub kind_name : (ts a : List Item) → EatsWord kind ts a → (result : Result (Bor (List Item)) ReadError) → Skips (EatsWord word.Equals) result a → Skips EatsKindName result ts
unfolding EatsKindName
kind_name ts a is (Ok tail) h = (inl (a, is, h.0), λ r k. by r k)
  where
    by : (r : List Item) → EatsKindName ts r → r ≡ tail.now
    by r (inl k) = h.1 r (subst (λ (l : List Item). EatsWord word.Equals l r) (same_tail kind kind ts a k.0 is k.1) k.2)
    by r (inr k) = absurd (lacked kind ts a k.1 is)
kind_name ts a is (Err Memory) h = tt
kind_name ts a is (Err NoForm) h = λ r k. by r k
  where
    by : (r : List Item) → EatsKindName ts r → ⊥
    by r (inl k) = h r (subst (λ (l : List Item). EatsWord word.Equals l r) (same_tail kind kind ts a k.0 is k.1) k.2)
    by r (inr k) = lacked kind ts a k.1 is
