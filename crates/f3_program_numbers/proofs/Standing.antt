-- What the walks along a program ask, and what they find.
use Rattle.std.proofs.Common.{◌≡◌, ◌<◌, ◌^◌, ℕ, List, map, length, sym, ap, subst, ◌∙◌}
use Rattle.std.specs.List.{flat_map}
use Rattle.std.proofs.lemmas.List.{length-map}
use Rattle.f3_access.specs.Access.{entities_of}
use Rattle.f3_names.specs.Parts.{scope_numbers}
use Rattle.f3_scopes.specs.Outlines.{Scope}
use Rattle.f3_scopes.specs.Scopes.{scopes_of}
use Rattle.f3_tree.specs.declared.program.Unit.{Unit as ProgramUnit}
use Rattle.f3_tree.specs.Tree.{UnitTree, Tree, unit_view}
use Rattle.f3_type_rules.specs.Members.{Numbered, units_from}
use Rattle.f3_unit_rules.specs.Members.{AreFirsts}
use Rattle.f3_unit_rules.specs.Units.{AreNumbers}
use Rattle.f3_program_numbers.specs.Fitting.{AllFit}
use Rattle.f3_program_numbers.proofs.Room.{all_fit, numbers_are, numbers_long}

pub firsts_are : (t : Tree) (scopes : List Scope) (firsts given : List ℕ) → scopes ≡ scopes_of t → AreFirsts scopes firsts → given ≡ firsts → AreFirsts (scopes_of t) given
firsts_are t scopes firsts given same are e =
    subst (λ fs. AreFirsts (scopes_of t) fs) (sym e) (subst (λ ss. AreFirsts ss firsts) same are)

pub fits : (t : Tree) (scopes : List Scope) (firsts given numbers : List ℕ) (us : List UnitTree) → scopes ≡ scopes_of t → AreFirsts scopes firsts
    → length firsts ≡ length scopes → given ≡ firsts → numbers ≡ scope_numbers 0 t.units → us ≡ t.units → length (entities_of (scopes_of t)) < 2 ^ 64 → AllFit given numbers us
fits t scopes firsts given numbers us same are long e numbered us_are small =
    subst (λ xs. AllFit given numbers xs) (sym us_are)
    (all_fit t given numbers (firsts_are t scopes firsts given same are e) (ap length e ∙ long ∙ ap length same) numbered small)

pub numbered : (t : Tree) (numbers : List ℕ) (us : List UnitTree) → numbers ≡ scope_numbers 0 t.units → us ≡ t.units → AreNumbers (scopes_of t) numbers us
numbered t numbers us same us_are = subst (λ xs. AreNumbers (scopes_of t) numbers xs) (sym us_are) (numbers_are t numbers same)

pub as_long : (t : Tree) (numbers : List ℕ) (list : List ProgramUnit) → numbers ≡ scope_numbers 0 t.units → map unit_view list ≡ t.units → length numbers ≡ length list
as_long t numbers list same us_are = numbers_long t numbers same ∙ ap length (sym us_are) ∙ length-map list unit_view

-- along the units of the program
pub found_all : (f : Numbered → List ℕ) (g : List Numbered → List Numbered) (t : Tree) (us : List UnitTree) (found given : List ℕ) → us ≡ t.units → given ≡ found
    → found ≡ flat_map f (g (units_from (scopes_of t) 0 us)) → given ≡ flat_map f (g (units_from (scopes_of t) 0 t.units))
found_all f g t us found given us_are same h = same ∙ h ∙ ap (λ xs. flat_map f (g (units_from (scopes_of t) 0 xs))) us_are
