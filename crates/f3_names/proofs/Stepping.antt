-- One turn of a loop over numbered scopes.
use Rattle.std.proofs.Common.{◌≡◌, ℕ, suc, ◌+◌, ◌<◌, List, ◌∷◌, ◌++◌, map, length, get_or, drop, refl, sym, ap, ◌∙◌, add-one, append_assoc, drop-cons}
use Rattle.f3_scopes.specs.declared.outline.Outline.{Outline}
use Rattle.f3_scopes.specs.Outlines.{Scope, own_view, scope_view}
use Rattle.f3_names.specs.declared.entity.Entity.{Entity}
use Rattle.f3_names.specs.Entities.{entity_of, entities_from}
use Rattle.f3_names.specs.Inner.Making.{of_unit, unit_numbers}

cut : {X : Type 0} (xs : List X) (i : ℕ) (x : X) → i < length xs → x ≡ get_or xs i x → drop i xs ≡ x ∷ drop (i + 1) xs
cut xs i x lt at = rw add-one (drop-cons xs i x lt ∙ ap (λ w. w ∷ drop (suc i) xs) (sym at))

more : {E : Type 0} (rows : ℕ → List Scope → List E) (row : List E) (outlines : List Outline) (i : ℕ) (x : Outline) (done now whole : List E)
    → i < length outlines → x ≡ get_or outlines i x → rows i (map scope_view (x ∷ drop (i + 1) outlines)) ≡ row ++ rows (i + 1) (map scope_view (drop (i + 1) outlines))
    → now ≡ done ++ row → done ++ rows i (map scope_view (drop i outlines)) ≡ whole → now ++ rows (i + 1) (map scope_view (drop (i + 1) outlines)) ≡ whole
more rows row outlines i x done now whole lt at first e before =
    let rest = rows (i + 1) (map scope_view (drop (i + 1) outlines)) in
    ap (λ l. l ++ rest) e
    ∙ append_assoc done row rest
    ∙ ap (λ l. done ++ l) (sym first ∙ ap (λ l. rows i (map scope_view l)) (sym (cut outlines i x lt at)))
    ∙ before

pub entities_more : (outlines : List Outline) (i : ℕ) (x : Outline) (done now whole : List Entity) → i < length outlines → x ≡ get_or outlines i x
    → now ≡ done ++ map (entity_of (map scope_view outlines) i (scope_view x)) (map own_view x.declared.items)
    → done ++ entities_from (map scope_view outlines) i (map scope_view (drop i outlines)) ≡ whole
    → now ++ entities_from (map scope_view outlines) (i + 1) (map scope_view (drop (i + 1) outlines)) ≡ whole
entities_more outlines i x done now whole lt at e before =
    more (entities_from (map scope_view outlines)) (map (entity_of (map scope_view outlines) i (scope_view x)) (map own_view x.declared.items)) outlines i x done now whole lt at refl e before

pub numbers_more : (outlines : List Outline) (i : ℕ) (x : Outline) (done now whole : List ℕ) → i < length outlines → x ≡ get_or outlines i x
    → now ≡ done ++ of_unit i x.host
    → done ++ unit_numbers i (map scope_view (drop i outlines)) ≡ whole
    → now ++ unit_numbers (i + 1) (map scope_view (drop (i + 1) outlines)) ≡ whole
numbers_more outlines i x done now whole lt at e before = more unit_numbers (of_unit i x.host) outlines i x done now whole lt at refl e before
