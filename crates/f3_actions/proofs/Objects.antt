-- Reading the objects of an ALLOCATE one after the other.
use Rattle.std.proofs.Common.{◌≡◌, ◌⊎◌, inl, inr, List, [], ◌∷◌, ◌++◌, Option, Some, None, refl, sym, ap, subst, ◌∙◌, append_assoc}
use Rattle.f3_tree.specs.Expressions.{Parts}
use Rattle.f3_words.specs.declared.item.Word.{Word}
use Rattle.f3_words.specs.declared.item.Word.TheVariants.{Comma}
use Rattle.f3_words.specs.declared.item.Item.{Item}
use Rattle.f3_words.specs.Reads.{IsRead, Fails}
use Rattle.f3_expressions.specs.Grammar.{EatsDesignator}
use Rattle.f3_reading.specs.Parts.{EatsWord, Lacks}
use Rattle.f3_actions.specs.Actions.{EatsStatusHead, EatsObject, EatsStatus, EatsObjects, AreObjects}
use Rattle.f3_reading.proofs.Words.{lacked, same_tail as tail_of}

same_tail : (v w : Word) (ts r s : List Item) → EatsWord v ts r → EatsWord w ts s → r ≡ s
same_tail v w ts r s a b = sym (tail_of v w ts r s a b)

-- What was found so far goes on with the objects that the rest begins with, and in no other way.
pub record SoFar (ts : List Item) (found : List Parts) (rest : List Item) : Type 0 where
  pub goes_on : (vs : List Parts) (stat : Option Parts) (r : List Item) → EatsObjects vs stat rest r → EatsObjects (found ++ vs) stat ts r
  pub only : (all : List Parts) (stat : Option Parts) (r : List Item) → EatsObjects all stat ts r → (vs : List Parts) × (all ≡ found ++ vs) × EatsObjects vs stat rest r

pub begins : (ts : List Item) → SoFar ts [] ts
begins ts = record { goes_on = λ vs stat r h. h; only = λ all stat r h. (all, refl, h) }

-- behind an object: the end with STAT or without, or a comma and others
abbrev Behind : List Parts → Option Parts → List Item → List Item → Type 0
Behind vs stat ts r = ((vs ≡ []) × EatsStatus stat ts r) ⊎ ((b : List Item) × EatsWord Comma ts b × EatsObjects vs stat b r)

with_object : (v : Parts) (vs : List Parts) (stat : Option Parts) (ts a r : List Item) → EatsObject v ts a → Behind vs stat a r → EatsObjects (v ∷ vs) stat ts r
with_object v [] stat ts a r h (inl k) = (a, h, k.1)
with_object v [] stat ts a r h (inr k) = absurd k.2
with_object v (w ∷ vs) stat ts a r h (inl k) = absurd (let e = k.0 in cc)
with_object v (w ∷ vs) stat ts a r h (inr k) = (a, k.0, h, k.1, k.2)

abbrev Split : Parts → List Item → List Parts → Option Parts → List Item → Type 0
Split x after all stat r = (vs : List Parts) × (all ≡ x ∷ vs) × Behind vs stat after r

split : (ts after : List Item) (x : Parts) (all : List Parts) (stat : Option Parts) (r : List Item) → IsRead EatsObject ts x after → EatsObjects all stat ts r → Split x after all stat r
split ts after x [] stat r a h = absurd h
split ts after x (v ∷ []) stat r a h =
    let same = a.only v h.0 h.1 in
    ([], ap (λ (y : Parts). y ∷ []) same.0, inl (refl, subst (λ (l : List Item). EatsStatus stat l r) same.1 h.2))
split ts after x (v ∷ w ∷ vs) stat r a h =
    let same = a.only v h.0 h.2 in
    (w ∷ vs, ap (λ (y : Parts). y ∷ w ∷ vs) same.0, inr (h.1, subst (λ (l : List Item). EatsWord Comma l h.1) same.1 h.3, h.4))

-- an object begins no STAT
objects_no_status : (vs : List Parts) (stat : Option Parts) (ts r a : List Item) → EatsObjects vs stat ts r → EatsStatusHead ts a → ⊥
unfolding EatsObject
objects_no_status [] stat ts r a h s = h
objects_no_status (v ∷ []) stat ts r a h s = h.1.1 a s
objects_no_status (v ∷ w ∷ vs) stat ts r a h s = h.2.1 a s

-- behind a comma with no STAT
not_status : (ts tail : List Item) (stat : Option Parts) (r : List Item) → EatsWord Comma ts tail → ((a : List Item) → EatsStatusHead tail a → ⊥) → EatsStatus stat ts r → ⊥
unfolding EatsStatus
not_status ts tail None r c none h = lacked Comma ts tail h.1 c
not_status ts tail (Some v) r c none h = none h.1 (subst (λ (l : List Item). EatsStatusHead l h.1) (same_tail Comma Comma ts h.0 tail h.2 c) h.3)

behind_comma : (ts tail : List Item) (vs : List Parts) (stat : Option Parts) (r : List Item) → EatsWord Comma ts tail → ((a : List Item) → EatsStatusHead tail a → ⊥) → Behind vs stat ts r → EatsObjects vs stat tail r
behind_comma ts tail vs stat r c none (inl k) = absurd (not_status ts tail stat r c none k.1)
behind_comma ts tail vs stat r c none (inr k) = subst (λ (l : List Item). EatsObjects vs stat l r) (same_tail Comma Comma ts k.0 tail k.1 c) k.2

pub one_more : (ts rest after tail : List Item) (found : List Parts) (x : Parts)
    → SoFar ts found rest → IsRead EatsObject rest x after → EatsWord Comma after tail → ((a : List Item) → EatsStatusHead tail a → ⊥) → SoFar ts (found ++ x ∷ []) tail
one_more ts rest after tail found x s a c none = record {
  goes_on = λ vs stat r h. subst (λ (l : List Parts). EatsObjects l stat ts r) (sym (append_assoc found (x ∷ []) vs)) (s.goes_on (x ∷ vs) stat r (with_object x vs stat rest after r a.eats (inr (tail, c, h))));
  only = λ all stat r h.
      let w = s.only all stat r h in
      let n = split rest after x w.0 stat r a w.2 in
      (n.0, w.1 ∙ ap (λ (l : List Parts). found ++ l) n.1 ∙ sym (append_assoc found (x ∷ []) n.0), behind_comma after tail n.0 stat r c none n.2);
}

pub no_object : (ts rest : List Item) (found : List Parts) → SoFar ts found rest → Fails EatsObject rest → Fails AreObjects ts
unfolding AreObjects
no_object ts rest found s none y r h = let w = s.only y.0 y.1 r h in by w.0 w.2
  where
    by : (vs : List Parts) → EatsObjects vs y.1 rest r → ⊥
    by [] k = k
    by (v ∷ []) k = none v k.0 k.1
    by (v ∷ w ∷ vs) k = none v k.0 k.2

-- the end without STAT
behind_none : (ts : List Item) (vs : List Parts) (stat : Option Parts) (r : List Item) → Lacks Comma ts → Behind vs stat ts r → (vs ≡ []) × (stat ≡ None) × (r ≡ ts)
unfolding EatsStatus
behind_none ts vs None r none (inl k) = (k.0, refl, sym k.1.0)
behind_none ts vs (Some v) r none (inl k) = absurd (lacked Comma ts k.1.0 none k.1.2)
behind_none ts vs stat r none (inr k) = absurd (lacked Comma ts k.0 none k.1)

abbrev Pair : Type 0
Pair = List Parts × Option Parts

same_pair : (found : List Parts) (x : Parts) (y : Pair) (vs ws : List Parts) (stat : Option Parts) → y.0 ≡ found ++ ws → ws ≡ x ∷ vs → vs ≡ [] → y.1 ≡ stat → y ≡ (found ++ x ∷ [], stat)
same_pair found x y vs ws stat a b c d =
    let one : y.0 ≡ found ++ x ∷ [] = a ∙ ap (λ (l : List Parts). found ++ l) (b ∙ ap (λ (l : List Parts). x ∷ l) c) in
    ap (λ (l : List Parts). pair l y.1) one ∙ ap (λ (o : Option Parts). pair (found ++ x ∷ []) o) d
  where
    pair : List Parts → Option Parts → Pair
    pair l o = (l, o)

pub is_over : (ts rest after : List Item) (found : List Parts) (x : Parts) → SoFar ts found rest → IsRead EatsObject rest x after → Lacks Comma after → IsRead AreObjects ts (found ++ x ∷ [], None) after
unfolding AreObjects EatsStatus
is_over ts rest after found x s a none = record {
  eats = s.goes_on (x ∷ []) None after (with_object x [] None rest after after a.eats (inl (refl, (refl, none))));
  only = λ y r h.
      let w = s.only y.0 y.1 r h in
      let n = split rest after x w.0 y.1 r a w.2 in
      let o = behind_none after n.0 y.1 r none n.2 in
      (same_pair found x y n.0 w.0 None w.1 n.1 o.0 o.1, o.2);
}

-- the end with STAT
abbrev Status : Parts → List Item → List Parts → Option Parts → List Item → Type 0
Status v last vs stat r = (vs ≡ []) × (stat ≡ Some v) × (r ≡ last)

behind_status : (ts tail variable last : List Item) (v : Parts) (vs : List Parts) (stat : Option Parts) (r : List Item) → EatsWord Comma ts tail → EatsStatusHead tail variable → ((s : List Item) → EatsStatusHead tail s → s ≡ variable) → IsRead EatsDesignator variable v last → Behind vs stat ts r → Status v last vs stat r
unfolding EatsStatus
behind_status ts tail variable last v vs None r c s u a (inl k) = absurd (lacked Comma ts tail k.1.1 c)
behind_status ts tail variable last v vs (Some w) r c s u a (inl k) =
    let at_tail = subst (λ (l : List Item). EatsStatusHead l k.1.1) (same_tail Comma Comma ts k.1.0 tail k.1.2 c) k.1.3 in
    let same = a.only w r (subst (λ (l : List Item). EatsDesignator w l r) (u k.1.1 at_tail) k.1.4) in
    (k.0, ap (λ (x : Parts). Some x) same.0, same.1)
behind_status ts tail variable last v vs stat r c s u a (inr k) =
    absurd (objects_no_status vs stat tail r variable (subst (λ (l : List Item). EatsObjects vs stat l r) (same_tail Comma Comma ts k.0 tail k.1 c) k.2) s)

pub is_over_status : (ts rest after tail variable last : List Item) (found : List Parts) (x v : Parts) → SoFar ts found rest → IsRead EatsObject rest x after → EatsWord Comma after tail → EatsStatusHead tail variable → ((s : List Item) → EatsStatusHead tail s → s ≡ variable)
    → IsRead EatsDesignator variable v last → IsRead AreObjects ts (found ++ x ∷ [], Some v) last
unfolding AreObjects EatsStatus
is_over_status ts rest after tail variable last found x v s a c k u d = record {
  eats = s.goes_on (x ∷ []) (Some v) last (with_object x [] (Some v) rest after last a.eats (inl (refl, (tail, variable, c, k, d.eats))));
  only = λ y r h.
      let w = s.only y.0 y.1 r h in
      let n = split rest after x w.0 y.1 r a w.2 in
      let o = behind_status after tail variable last v n.0 y.1 r c k u d n.2 in
      (same_pair found x y n.0 w.0 (Some v) w.1 n.1 o.0 o.1, o.2);
}

pub status_fails : (ts rest after tail variable : List Item) (found : List Parts) (x : Parts) → SoFar ts found rest → IsRead EatsObject rest x after → EatsWord Comma after tail → EatsStatusHead tail variable → ((s : List Item) → EatsStatusHead tail s → s ≡ variable)
    → Fails EatsDesignator variable → Fails AreObjects ts
unfolding AreObjects EatsStatus
status_fails ts rest after tail variable found x s a c k u none y r h =
    let w = s.only y.0 y.1 r h in
    let n = split rest after x w.0 y.1 r a w.2 in
    by n.0 y.1 n.2
  where
    by : (vs : List Parts) (stat : Option Parts) → Behind vs stat after r → ⊥
    by vs None (inl j) = lacked Comma after tail j.1.1 c
    by vs (Some z) (inl j) =
        let at_tail = subst (λ (l : List Item). EatsStatusHead l j.1.1) (same_tail Comma Comma after j.1.0 tail j.1.2 c) j.1.3 in
        none z r (subst (λ (l : List Item). EatsDesignator z l r) (u j.1.1 at_tail) j.1.4)
    by vs stat (inr j) = objects_no_status vs stat tail r variable (subst (λ (l : List Item). EatsObjects vs stat l r) (same_tail Comma Comma after j.0 tail j.1 c) j.2) k
