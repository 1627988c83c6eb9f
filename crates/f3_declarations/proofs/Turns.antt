-- Parts that go one way or another by the sign that stands there.
use Rattle.std.proofs.Common.{◌≡◌, List, ◌∷◌, refl, sym, ap, subst, ◌∙◌, inl, inr}
use Rattle.f3_tree.specs.declared.expression.Name.{Name as Identifier}
use Rattle.f3_tree.specs.declared.declaration.Rename.{Rename as Renaming}
use Rattle.f3_tree.specs.declared.declaration.Only.{Only}
use Rattle.f3_tree.specs.declared.declaration.Only.TheVariants.{Name, Rename}
use Rattle.f3_tree.specs.declared.declaration.Intent.{Intent}
use Rattle.f3_tree.specs.declared.declaration.Intent.TheVariants as intent_of
use Rattle.f3_words.specs.declared.item.Keyword.TheVariants as keyword
use Rattle.f3_words.specs.declared.item.Word.{Word}
use Rattle.f3_words.specs.declared.item.Word.TheVariants as word
use Rattle.f3_words.specs.declared.item.Word.TheVariants.{Arrow}
use Rattle.f3_words.specs.declared.item.Item.{Item}
use Rattle.f3_words.specs.Reads.{IsRead, Fails}
use Rattle.f3_reading.specs.Parts.{EatsWord, EatsName, Lacks}
use Rattle.f3_reading.proofs.Words.{same_tail, same_word, lacked}
use Rattle.f3_declarations.specs.Specifications.{EatsRename, EatsOnly, EatsIntent}

abbrev renaming : Identifier → Identifier → Renaming
renaming l o = record { local = l; original = o }

-- ---- a name, or a rename

pub only_name : (ts r : List Item) (n : Identifier) → IsRead EatsName ts n r → Lacks Arrow r → IsRead EatsOnly ts (Name n) r
unfolding EatsOnly EatsRename
only_name ts r n a none = record { eats = (a.eats, none); only = λ y s h. by y s h }
  where
    by : (y : Only) (s : List Item) → EatsOnly y ts s → (y ≡ Name n) × (s ≡ r)
    by (Name m) s h = let same = a.only m s h.0 in (ap (λ (x : Identifier). Name x) same.0, same.1)
    by (Rename x) s h = let same = a.only h.0 h.2 h.4 in absurd (lacked Arrow r h.3 none (subst (λ (l : List Item). EatsWord Arrow l h.3) same.1 h.5))

pub only_rename : (ts r a : List Item) (n : Identifier) (m : Identifier) (s : List Item) → IsRead EatsName ts n r → EatsWord Arrow r a → IsRead EatsName a m s → IsRead EatsOnly ts (Rename (renaming n m)) s
unfolding EatsOnly EatsRename
only_rename ts r a n m s x arrow y = record { eats = (n, m, r, a, x.eats, arrow, y.eats, refl); only = λ z u h. by z u h }
  where
    by : (z : Only) (u : List Item) → EatsOnly z ts u → (z ≡ Rename (renaming n m)) × (u ≡ s)
    by (Name k) u h = let same = x.only k u h.0 in absurd (lacked Arrow r a (subst (λ (l : List Item). Lacks Arrow l) same.1 h.1) arrow)
    by (Rename z) u h =
        let one = x.only h.0 h.2 h.4 in
        let tail = same_tail Arrow Arrow r a h.3 arrow (subst (λ (l : List Item). EatsWord Arrow l h.3) one.1 h.5) in
        let two = y.only h.1 u (subst (λ (l : List Item). EatsName h.1 l u) tail h.6) in
        (ap (λ (v : Renaming). Rename v) h.7 ∙ ap (λ (v : Identifier). Rename (renaming v h.1)) one.0 ∙ ap (λ (v : Identifier). Rename (renaming n v)) two.0, two.1)

pub only_fails : (ts r a : List Item) (n : Identifier) → IsRead EatsName ts n r → EatsWord Arrow r a → Fails EatsName a → Fails EatsOnly ts
unfolding EatsOnly EatsRename
only_fails ts r a n x arrow none z u h = by z h
  where
    by : (z : Only) → EatsOnly z ts u → ⊥
    by (Name k) h = let same = x.only k u h.0 in lacked Arrow r a (subst (λ (l : List Item). Lacks Arrow l) same.1 h.1) arrow
    by (Rename z) h =
        let one = x.only h.0 h.2 h.4 in
        let tail = same_tail Arrow Arrow r a h.3 arrow (subst (λ (l : List Item). EatsWord Arrow l h.3) one.1 h.5) in
        none h.1 u (subst (λ (l : List Item). EatsName h.1 l u) tail h.6)

-- ---- IN OUT

eats_word : (w : Word) (ts r : List Item) (i : Item) → ts ≡ i ∷ r → i.word ≡ w → EatsWord w ts r
unfolding EatsWord
eats_word w ts r i a e = (i, a, e)

in_is_no_out : word.Name keyword.In ≡ word.Name keyword.Out → ⊥
in_is_no_out e = cc

in_is_no_in_out : word.Name keyword.In ≡ word.Name keyword.InOut → ⊥
in_is_no_in_out e = cc

pub in_out : (ts tail rest : List Item) (first second : Item) → ts ≡ first ∷ tail → first.word ≡ word.Name keyword.In → tail ≡ second ∷ rest → second.word ≡ word.Name keyword.Out → IsRead EatsIntent ts intent_of.InOut rest
unfolding EatsIntent
in_out ts tail rest first second a w b v = record { eats = inr (tail, begins, goes_on); only = λ y s h. by y s h }
  where
    begins : EatsWord (word.Name keyword.In) ts tail
    begins = eats_word (word.Name keyword.In) ts tail first a w

    goes_on : EatsWord (word.Name keyword.Out) tail rest
    goes_on = eats_word (word.Name keyword.Out) tail rest second b v

    by : (y : Intent) (s : List Item) → EatsIntent y ts s → (y ≡ intent_of.InOut) × (s ≡ rest)
    by intent_of.In s h = absurd (lacked (word.Name keyword.Out) s rest h.1 (subst (λ (l : List Item). EatsWord (word.Name keyword.Out) l rest) (sym (same_tail (word.Name keyword.In) (word.Name keyword.In) ts tail s begins h.0)) goes_on))
    by intent_of.Out s h = absurd (in_is_no_out (same_word (word.Name keyword.In) (word.Name keyword.Out) ts tail s begins h))
    by intent_of.InOut s (inl h) = absurd (in_is_no_in_out (same_word (word.Name keyword.In) (word.Name keyword.InOut) ts tail s begins h))
    by intent_of.InOut s (inr h) =
        let behind = same_tail (word.Name keyword.In) (word.Name keyword.In) ts tail h.0 begins h.1 in
        (refl, same_tail (word.Name keyword.Out) (word.Name keyword.Out) tail rest s goes_on (subst (λ (l : List Item). EatsWord (word.Name keyword.Out) l s) behind h.2))
