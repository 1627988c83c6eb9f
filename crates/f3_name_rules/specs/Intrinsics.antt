-- The intrinsic procedures of the profile (ISO/IEC 1539-1:2004, 13.7).
use Rattle.std.specs.Prelude.{ℕ, List, [], ◌∷◌, Bool, nat_eq, codes}
use Rattle.std.specs.Cmp.Lexicographic.{pointwise}
use Rattle.std.specs.List.{list_any}

abbrev pub intrinsics : List (List ℕ)
intrinsics = codes "abs" ∷ codes "mod" ∷ codes "modulo" ∷ codes "max" ∷ codes "min" ∷ codes "size"
    ∷ codes "lbound" ∷ codes "ubound" ∷ codes "allocated" ∷ codes "move_alloc" ∷ []

-- whether a name in lower case is that of an intrinsic procedure
unfoldable pub is_intrinsic : List ℕ → Bool
is_intrinsic name = list_any (pointwise nat_eq name) intrinsics
