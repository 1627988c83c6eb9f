-- Rows along lists, and what of them is first.
use Rattle.std.proofs.Common.{◌≡◌, ℕ, ◌+◌, ◌<◌, zero, suc, length, drop, get_or, map, List, [], ◌∷◌, ◌++◌, Option, None, Some, slice_get, slice_index_or, false, refl, sym, ap, ◌∙◌}
use Rattle.std.proofs.lemmas.List.{at_drop_more}
use Rattle.f3_rules.specs.declared.breaks.Break.{Break}
use Rattle.f3_rules.specs.Least.{earlier_of, first_of}
use Rattle.f3_rules.proofs.Firsts.{earlier_assoc, first-append}
use Rattle.f3_scopes.specs.declared.outline.Outline.{Outline}
use Rattle.f3_access.specs.declared.table.Tables.{Tables}
use Rattle.f3_name_rules.specs.Intrinsics.{is_intrinsic}
use Rattle.f3_name_rules.specs.Inner.Rows.{scope_row, scopes_row}

-- the earlier of the firsts of two lists
pub joined : (xs ys : List Break) (a b r : Option Break) → r ≡ earlier_of a b → a ≡ first_of xs → b ≡ first_of ys → r ≡ first_of (xs ++ ys)
joined xs ys a b r e f g = e ∙ ap (λ x. earlier_of x b) f ∙ ap (earlier_of (first_of xs)) g ∙ sym (first-append xs ys)

-- a loop over the scopes: one more
pub scope_step : (tables : Tables) (texts : List (List ℕ)) (xs : List Outline) (i : ℕ) (x : Outline) (before after whole : Option Break) → i < length xs → x ≡ get_or xs i x
    → after ≡ earlier_of before (first_of (scope_row tables texts i x))
    → earlier_of before (first_of (scopes_row tables texts i (drop i xs))) ≡ whole
    → earlier_of after (first_of (scopes_row tables texts (i + 1) (drop (i + 1) xs))) ≡ whole
scope_step tables texts xs i x before after whole lt at e h =
    let here = scope_row tables texts i x in
    let rest = scopes_row tables texts (i + 1) (drop (i + 1) xs) in
    ap (λ a. earlier_of a (first_of rest)) e
    ∙ earlier_assoc before (first_of here) (first_of rest)
    ∙ ap (earlier_of before) (sym (first-append here rest) ∙ ap first_of (sym (at_drop_more (scopes_row tables texts i) xs i x lt ∙ ap (λ w. scopes_row tables texts i (w ∷ drop (i + 1) xs)) (sym at))))
    ∙ h

-- no text is no name of an intrinsic procedure
pub no_text : (text : List ℕ) → text ≡ [] → is_intrinsic text ≡ false
unfolding is_intrinsic
no_text text e = rw e refl

pub no_name : {X : Type 0} (f : X → List ℕ) (xs : List X) (n : ℕ) → slice_get xs n ≡ None → slice_index_or (map f xs) n [] ≡ []
no_name f [] n e = refl
no_name f (x ∷ xs) zero e = let bad : Some x ≡ None = e in absurd (cc)
no_name f (x ∷ xs) (suc n) e = no_name f xs n e
