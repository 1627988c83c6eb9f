-- Units by their places among the units of a program.
use Rattle.std.proofs.Common.{◌≡◌, ℕ, zero, suc, ◌+◌, ◌<◌, ◌≤◌, List, [], ◌∷◌, length, map, get_or, Option, Some, slice_get, ap, sym, ◌∙◌, refl, arith}
use Rattle.std.specs.Option.{option_map}
use Rattle.std.proofs.lemmas.List.{append-nil, length-map}
use Rattle.std.proofs.lemmas.Option.{slice_get_within, slice_get_past, slice_get_read, slice_get-get_or, slice_get-map}
use Rattle.f3_scopes.specs.Outlines.{Scope}
use Rattle.f3_scopes.specs.Scopes.{unit_scopes}
use Rattle.f3_tree.specs.declared.program.Unit.{Unit as ProgramUnit}
use Rattle.f3_tree.specs.Tree.{UnitTree, unit_view}
use Rattle.f3_kinds.specs.Things.{map_or}
use Rattle.f3_type_rules.specs.Declarations.{unit_rows, unit_next}
use Rattle.f3_type_rules.specs.Members.{Numbered, numbered, units_from}
use Rattle.f3_type_rules.specs.Scene.{Scene}
use Rattle.f3_type_rules.specs.Walks.{after, along, Known}
use Rattle.f3_unit_rules.specs.Inner.Steps.{found_at}

-- the unit of this number has the scope of this number
pub unit_placed : (scopes : List Scope) (start : ℕ) (numbers : List ℕ) (us : List UnitTree) (i n : ℕ) (u : UnitTree)
    → map (λ (x : Numbered). x.scope) (units_from scopes start us) ≡ numbers → slice_get numbers i ≡ Some n → slice_get us i ≡ Some u
    → slice_get (units_from scopes start us) i ≡ Some (numbered scopes n u)
unit_placed scopes start numbers [] i n u same at here = absurd (let past = slice_get_within [] i u here in omega (arith, past))
unit_placed scopes start [] (x ∷ us) i n u same at here = absurd (let past = slice_get_within [] i n at in omega (arith, past))
unit_placed scopes start (m ∷ ms) (x ∷ us) zero n u same at here =
    let number : start ≡ n = cc in
    let tree : x ≡ u = cc in
    ap (λ (k : ℕ). Some (numbered scopes k x)) number ∙ ap (λ (y : UnitTree). Some (numbered scopes n y)) tree
unit_placed scopes start (m ∷ ms) (x ∷ us) (suc i) n u same at here =
    let rest : map (λ (y : Numbered). y.scope) (units_from scopes (start + length (unit_scopes start x)) us) ≡ ms = cc in
    unit_placed scopes (start + length (unit_scopes start x)) ms us i n u rest at here

-- there are as many units as their trees
pub units_long : (scopes : List Scope) (start : ℕ) (us : List UnitTree) → length (units_from scopes start us) ≡ length us
units_long scopes start [] = refl
units_long scopes start (u ∷ us) = ap suc (units_long scopes (start + length (unit_scopes start u)) us)

-- the walk along the unit of a number: where it is there
pub rows_found : (s : Scene) (k : Known) (units : List Numbered) (i : ℕ) (u : Numbered) → slice_get units i ≡ Some u
    → unit_rows s k u ≡ along (unit_rows s) (unit_next s) k (found_at units i)
rows_found s k units i u at =
    sym (ap (λ (o : Option Numbered). along (unit_rows s) (unit_next s) k (map_or [] (λ (x : Numbered). x ∷ []) o)) at ∙ append-nil (unit_rows s k u))

pub next_found : (s : Scene) (k : Known) (units : List Numbered) (i : ℕ) (u : Numbered) → slice_get units i ≡ Some u
    → unit_next s k u ≡ after (unit_next s) k (found_at units i)
next_found s k units i u at = sym (ap (λ (o : Option Numbered). after (unit_next s) k (map_or [] (λ (x : Numbered). x ∷ []) o)) at)

-- and where it is not
pub none_found : (scopes : List Scope) (list : List ProgramUnit) (i : ℕ) → length list ≤ i → [] ≡ found_at (units_from scopes 0 (map unit_view list)) i
none_found scopes list i le =
    let us = map unit_view list in
    let long = units_long scopes 0 us in
    let same = length-map list unit_view in
    sym (ap (λ (o : Option Numbered). map_or [] (λ (x : Numbered). x ∷ []) o) (slice_get_past (units_from scopes 0 us) i (omega (arith, long))))

-- a unit of the list, and its number
pub tree_there : (list : List ProgramUnit) (i : ℕ) (x : ProgramUnit) → i < length list → x ≡ get_or list i x → slice_get (map unit_view list) i ≡ Some (unit_view x)
tree_there list i x lt is = slice_get-map unit_view list i ∙ ap (λ (o : Option ProgramUnit). option_map unit_view o) (slice_get_read list (length list) i x refl lt is)

pub number_there : (numbers : List ℕ) (list : List ProgramUnit) (i : ℕ) → length numbers ≡ length list → i < length list → slice_get numbers i ≡ Some (get_or numbers i 0)
number_there numbers list i same lt = slice_get-get_or numbers i 0 (omega (arith, same, lt))
