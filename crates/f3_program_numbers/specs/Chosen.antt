-- Which declared names are taken, and their entities.
use Rattle.std.specs.Prelude.{ℕ, ◌+◌, Bool, not, ◌&&◌, ◌||◌, List, [], ◌∷◌, ◌++◌, if◌then◌else◌}
use Rattle.f3_tree.specs.Declarations.{parameter, save, EntityTree, DeclarationTree, SpecificationTree, declares, defines}
use Rattle.f3_kinds.specs.Things.{map_or}
use Rattle.f3_type_rules.specs.Attributes.{has}
use Rattle.f3_type_rules.specs.Names.{is_given, Declared}
use Rattle.f3_type_rules.specs.Walks.{is_among}
use Rattle.f3_declared.specs.Spots.{symbols_of}
use Rattle.f3_elaboration.specs.Numbers.{along_part}
use Rattle.f3_program_numbers.specs.declared.wanted.Wanted.{Wanted}

-- whether saved variables are taken, whether others are, and which names are not among the others
pub record Choice : Type 0 where
  pub saved : Bool
  pub unsaved : Bool
  pub header : List ℕ

abbrev pub header_of : Wanted → List ℕ
header_of w = map_or [] (λ d. symbols_of d.now) w.dummies ++ map_or [] (λ (r : ℕ). r ∷ []) w.result_name

abbrev pub choice_of : Wanted → Choice
choice_of w = record { saved = w.saved; unsaved = w.unsaved; header = header_of w }

abbrev pub is_saved_name : Declared → Bool
is_saved_name x = has save x.0 || is_given (x.1).initial

abbrev pub takes : Choice → Declared → Bool
takes w x = not (has parameter x.0) && (if is_saved_name x then w.saved else (w.unsaved && not (is_among w.header x.1)))

abbrev pub taken_one : Choice → (entity : ℕ) → Declared → List ℕ
taken_one w e x = if takes w x then e ∷ [] else []

abbrev pub taken_from : Choice → (entity : ℕ) → DeclarationTree → List EntityTree → List ℕ
taken_from w e d [] = []
taken_from w e d (x ∷ xs) = taken_one w e (d, x) ++ taken_from w (e + 1) d xs

abbrev pub taken_in : Choice → (entity : ℕ) → SpecificationTree → List ℕ
taken_in w e (declares d) = taken_from w e d d.entities
taken_in w e _ = []

-- the entities of a specification part, of which this is the first
abbrev pub taken_along : Choice → (entity : ℕ) → List SpecificationTree → List ℕ
taken_along w e ss = along_part (taken_in w) e ss

-- the types that it defines
abbrev pub defined_in : (entity : ℕ) → SpecificationTree → List ℕ
defined_in e (defines t) = e ∷ []
defined_in e _ = []

abbrev pub defined_along : (entity : ℕ) → List SpecificationTree → List ℕ
defined_along e ss = along_part defined_in e ss
