use Rattle.std.specs.Prelude.{T, nat_eq}
use Rattle.std.proofs.Common.{refl, ◌≡◌, ℕ, Bool, true, false, List, [], ◌∷◌, sym, ap, ◌∙◌}
use mathlib.Core.Path.{subst}
use Rattle.f3_program.specs.declared.declarations.Base.{Base}
use Rattle.f3_program.specs.declared.declarations.Base.TheVariants as base
use Rattle.f3_meaning_whole.specs.Reference.{Right, Define, Read}
use Rattle.std.specs.Fmt.{digits}
use Rattle.f3_meaning_whole.specs.Ran.{◌>>=◌, gives, fails, stops, beyond, looks, does, asks, prints_bytes}
use Rattle.f3_meaning_whole.specs.Arithmetic.{converted, divided}
use Rattle.f3_meaning_whole.specs.Act.{fitted}
use Rattle.f3_meaning_whole.specs.Run.{calls_of, runs, run_of}
use Rattle.f3_meaning_rows.specs.Told.{ChangesStand, StoresStand, DestroyedLent, FormsStand, ReadsShow, PryingShows, ForgedAreNot}

no : {A : Type 0} → false ≡ true → A
no h = absurd (subst T (sym h) tt)

abbrev is_define : Right → Bool
is_define Define = true
is_define Read = false

abbrev is_fourth : ℕ → Bool
is_fourth n = nat_eq n 4

abbrev is_empty : List ℕ → Bool
is_empty [] = true
is_empty (x ∷ xs) = false

abbrev is_first : Base → Bool
is_first (base.Derived t) = nat_eq t 0
is_first base.Integer = false
is_first base.Long = false
is_first base.Logical = false

pub changes_stand : ChangesStand
unfolding digits converted divided prints_bytes fitted run_of runs calls_of ◌>>=◌ gives fails stops beyond looks does asks
changes_stand h = refl

pub stores_stand : StoresStand
unfolding digits converted divided prints_bytes fitted run_of runs calls_of ◌>>=◌ gives fails stops beyond looks does asks
stores_stand h = (refl, refl)

pub destroyed_lent : DestroyedLent
unfolding digits converted divided prints_bytes fitted run_of runs calls_of ◌>>=◌ gives fails stops beyond looks does asks
destroyed_lent h = (refl, refl)

pub forms_stand : FormsStand
unfolding digits converted divided prints_bytes fitted run_of runs calls_of ◌>>=◌ gives fails stops beyond looks does asks
forms_stand h = (refl, refl)

pub reads_show : ReadsShow
unfolding digits converted divided prints_bytes fitted run_of runs calls_of ◌>>=◌ gives fails stops beyond looks does asks
reads_show h = (refl, λ p. no (ap is_define p.by_right))

abbrev is_zero : ℕ → Bool
is_zero n = nat_eq n 0

pub prying_shows : PryingShows
unfolding digits converted divided prints_bytes fitted run_of runs calls_of ◌>>=◌ gives fails stops beyond looks does asks
prying_shows h = (refl, λ p. no (ap is_zero (p.by_makers.0 _ _ refl refl refl)))

pub forged_are_not : ForgedAreNot
forged_are_not h = (λ p. no (sym (ap is_fourth (p.from_home 0 _ refl refl refl))), λ p. no (ap is_empty p.by_steps.0.1), λ p. no (ap is_first (p.by_types.0 ∙ p.by_root 1 _ refl refl)))
