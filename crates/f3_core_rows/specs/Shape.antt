-- What is written out in the Core of a program.
use Rattle.std.specs.Prelude.{◌≡◌, ℕ, true, false, List, [], ◌∷◌, map}
use Rattle.std.specs.declared.alloc.Global.{Global}
use Rattle.f3_program.specs.declared.declarations.Base.TheVariants as base
use Rattle.f3_program.specs.declared.declarations.Derived.{Derived}
use Rattle.f3_code.specs.Work.{Work, Rest, And, Lending, Of_rank, Final, Routine, Of_component, Of_elements, If_allocated, Of_contents, Clear}
use Rattle.f3_code.specs.Core.{Procedure}
use Rattle.f3_code.specs.Lower.{lowered_program, object_work, routines}
use Rattle.f3_meaning_rows.specs.Build.{kind, declared, comp, derived, final}
use Rattle.f3_meaning_rows.specs.Corners.{corner_finals_of_sections}

-- an object of the type of that program is destroyed: the final subroutine for its rank, its components, what is beneath
abbrev pub destroys_t : Work
destroys_t = And (Lending (And (Of_rank 0 (Final 0) (Of_rank 1 (Final 1) Rest)) (Of_elements (Routine 0)))) Clear

-- The type has a number and an allocatable array of numbers: its routine frees the array. The procedure behind the two final
-- subroutines has two such objects and a number.
abbrev pub CoreStands : Type 0
CoreStands = (h : Global) →
    ((lowered_program (corner_finals_of_sections h)).routines
    ≡ And (Of_component 0 Rest) (And (Of_component 1 (If_allocated (Of_contents Rest))) Rest) ∷ [])
    × (map (λ (p : Procedure). p.finish) (lowered_program (corner_finals_of_sections h)).procedures ≡ [] ∷ [] ∷ (destroys_t ∷ destroys_t ∷ Rest ∷ []) ∷ [])

-- Five types: with a number alone, with an object of the first, with a final subroutine, with an object of the third, and with an
-- allocatable object of the first.
abbrev pub five_types : Global → List Derived
five_types h =
    derived h 0 (comp (declared h (kind base.Integer 0 false) [] tt [] tt) false ∷ []) tt [] tt
    ∷ derived h 0 (comp (declared h (kind (base.Derived 0) 0 false) [] tt [] tt) false ∷ []) tt [] tt
    ∷ derived h 0 (comp (declared h (kind base.Integer 0 false) [] tt [] tt) false ∷ []) tt (final 0 7 ∷ []) tt
    ∷ derived h 0 (comp (declared h (kind (base.Derived 2) 0 false) [] tt [] tt) false ∷ []) tt [] tt
    ∷ derived h 0 (comp (declared h (kind (base.Derived 0) 0 true) [] tt [] tt) false ∷ []) tt [] tt ∷ []

-- an object of a type with a routine is destroyed
abbrev pub destroyed_by : Work → ℕ → Work
destroyed_by finals t = And (Lending (And finals (Of_elements (Routine t)))) Clear

-- Nothing is done to objects of the first two. The routine of the fifth frees what the object holds, and does nothing to it.
abbrev pub ObjectsStand : Type 0
ObjectsStand = (h : Global) →
    (map (λ (t : ℕ). object_work (five_types h) 5 (base.Derived t)) (0 ∷ 1 ∷ 2 ∷ 3 ∷ 4 ∷ [])
    ≡ Rest ∷ Rest ∷ destroyed_by (Of_rank 0 (Final 7) Rest) 2 ∷ destroyed_by Rest 3 ∷ destroyed_by Rest 4 ∷ [])
    × (routines (five_types h) ≡ And (Of_component 0 (If_allocated (Of_contents Rest))) Rest
    ∷ And (Of_component 0 (destroyed_by (Of_rank 0 (Final 7) Rest) 2)) Rest ∷ And (Of_component 0 Rest) Rest ∷ And (Of_component 0 Rest) Rest
    ∷ And (Of_component 0 Rest) Rest ∷ [])
