-- What holds of each element of a list.
use Rattle.std.proofs.Common.{List, [], ◌∷◌, ◌++◌, map, sym, subst, Contains, arith}
use Rattle.std.proofs.lemmas.List.Elements.{Contains-get_or, Contains-append_right}
use Rattle.f3_words.specs.declared.item.Item.{Item}
use Rattle.f3_words.specs.Lists.{is_comma, EatsRun, Separated, EatsList}
use Rattle.f3_meaning_whole.specs.Permitted.{Each}

module _ {A : Type 0} where
  pub first_in : (x : A) (xs : List A) → Contains (x ∷ xs) x
  first_in x xs = Contains-get_or (x ∷ xs) 0 x (omega arith)

  pub later_in : (x : A) (xs : List A) (y : A) → Contains xs y → Contains (x ∷ xs) y
  later_in x xs y there = Contains-append_right (x ∷ []) xs y there

module _ {A : Type 0} (P : A → Type 0) where
  pub each_front : (xs ys : List A) → Each P (xs ++ ys) → Each P xs
  each_front [] ys h = tt
  each_front (x ∷ xs) ys h = (h.0, each_front xs ys h.1)

  pub each_rest : (xs ys : List A) → Each P (xs ++ ys) → Each P ys
  each_rest [] ys h = h
  each_rest (x ∷ xs) ys h = each_rest xs ys h.1

  pub each_of : (xs : List A) → ((x : A) → Contains xs x → P x) → Each P xs
  each_of [] h = tt
  each_of (x ∷ xs) h = (h x (first_in x xs), each_of xs (λ y there. h y (later_in x xs y there)))

  pub each_mapped : {B : Type 0} (f : B → A) (ys : List B) → Each (λ (y : B). P (f y)) ys → Each P (map f ys)
  each_mapped f [] h = tt
  each_mapped f (y ∷ ys) h = (h.0, each_mapped f ys h.1)

  -- so of elements that tokens spell, where what spells one makes it hold
  module _ (Is : A → List Item → List Item → Type 0) (sure : (x : A) (ts r : List Item) → Is x ts r → P x) where
    each_run : (xs : List A) (ts r : List Item) → EatsRun is_comma (Separated Is) xs ts r → Each P xs
    each_run [] ts r h = tt
    each_run (x ∷ xs) ts r h = (sure x h.1 h.2 h.5, each_run xs h.2 r h.6)

    pub each_list : (xs : List A) (ts r : List Item) → EatsList Is xs ts r → Each P xs
    each_list xs ts r h = subst (Each P) (sym h.3) (sure h.0 ts h.2 h.4, each_run h.1 h.2 r h.5)
