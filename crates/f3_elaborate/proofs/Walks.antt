-- Walks along units.
use Rattle.std.proofs.Common.{◌≡◌, ℕ, ◌+◌, ◌<◌, ◌≤◌, Option, option_map, List, [], ◌∷◌, ◌++◌, Some, map, length, take, get_or, slice_get, suc, refl, ap, sym, ◌∙◌, arith}
use Rattle.std.specs.List.{flat_map}
use Rattle.std.proofs.lemmas.List.{take_more, take_all, append-nil, length-map}
use Rattle.std.proofs.lemmas.Grind.{flat_map-append}
use Rattle.std.proofs.lemmas.Option.{get_or_from_slice_get, slice_get-map, slice_get_read, slice_get_within}
use Rattle.f3_scopes.specs.Outlines.{Scope}
use Rattle.f3_scopes.specs.Scopes.{unit_scopes}
use Rattle.f3_tree.specs.declared.program.Unit.{Unit as ProgramUnit}
use Rattle.f3_tree.specs.Tree.{UnitTree, unit_view}
use Rattle.f3_type_rules.specs.Members.{Numbered, units_from}

pub units_long : (scopes : List Scope) (start : ℕ) (us : List UnitTree) → length (units_from scopes start us) ≡ length us
units_long scopes start [] = refl
units_long scopes start (u ∷ us) = ap suc (units_long scopes (start + length (unit_scopes start u)) us)

pub units_more : {Z : Type 0} (f : Numbered → List Z) (units : List Numbered) (i : ℕ) (v : Numbered) (before after : List Z) → slice_get units i ≡ Some v
    → before ≡ flat_map f (take i units) → after ≡ before ++ f v → after ≡ flat_map f (take (i + 1) units)
units_more f units i v before after there h e =
    let here : get_or units i v ≡ v = get_or_from_slice_get units i v v there in
    e ∙ ap (λ l. l ++ f v) h
    ∙ ap (λ l. flat_map f (take i units) ++ l) (sym (append-nil (f v)))
    ∙ sym (flat_map-append f (take i units) (v ∷ []))
    ∙ ap (λ w. flat_map f (take i units ++ (w ∷ []))) (sym here)
    ∙ ap (flat_map f) (sym (take_more units i v (slice_get_within units i v there)))

pub units_end : {Z : Type 0} (f : Numbered → List Z) (scopes : List Scope) (list : List ProgramUnit) (i : ℕ) (found : List Z) → length list ≤ i
    → found ≡ flat_map f (take i (units_from scopes 0 (map unit_view list))) → found ≡ flat_map f (units_from scopes 0 (map unit_view list))
units_end f scopes list i found le h =
    let us = map unit_view list in
    let long = units_long scopes 0 us in
    let same = length-map list unit_view in
    h ∙ ap (flat_map f) (take_all i (units_from scopes 0 us) (omega (arith, le, long, same)))

pub tree_there : (list : List ProgramUnit) (i : ℕ) (x : ProgramUnit) → i < length list → x ≡ get_or list i x → slice_get (map unit_view list) i ≡ Some (unit_view x)
tree_there list i x lt is = slice_get-map unit_view list i ∙ ap (λ (o : Option ProgramUnit). option_map unit_view o) (slice_get_read list (length list) i x refl lt is)
