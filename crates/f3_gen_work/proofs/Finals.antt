-- What calls final subroutines runs no routines.
use Rattle.std.proofs.Common.{◌≡◌, ℕ, ◌<◌, ◌++◌, List, ◌∷◌, [], length, refl, ap, append_assoc, Option, slice_get, Bool, true, false, not, ◌||◌, nat_eq, if◌then◌else◌}
use Rattle.std.proofs.lemmas.Bool.{lt-ltb, and_from}
use Rattle.std.specs.Prelude.{nat_lt, slice_index_or}
use Rattle.f3_places.specs.declared.source.Place.{Place}
use Rattle.f3_program.specs.declared.declarations.Base.TheVariants as base
use Rattle.f3_program.specs.declared.declarations.Derived.{Derived}
use Rattle.f3_program.specs.declared.declarations.Final.{Final}
use Rattle.f3_program.specs.declared.declarations.Kind.{Kind}
use Rattle.f3_meaning_whole.specs.Shape.{Whole, shapes_of}
use Rattle.f3_meaning_whole.specs.Destroy.{is_destroyed}
use Rattle.f3_code.specs.Lower.{final_work, finals_in, object_work, discard_work, is_derived}
use Rattle.f3_code.specs.Work as w
use Rattle.f3_code.specs.State as c
use Rattle.f3_code.specs.declared.instruction.Instruction.TheVariants as i
use Rattle.f3_code.specs.Code.{work_code}

chosen : Option Place → Final → List c.Line → List c.Line
chosen o f rest = c.line o (i.SkipUnlessRank f.rank 4) ∷ c.line o i.PassObject ∷ c.line o (i.Call f.procedure 1) ∷ c.line o i.Drop ∷ c.line o (i.GoOn (length rest)) ∷ rest

pub final_any : (m : ℕ) (o : Option Place) (fs : List Final) → work_code m o (final_work fs) ≡ work_code 0 o (final_work fs)
unfolding chosen
final_any m o [] = refl
final_any m o (f ∷ fs) = ap (chosen o f) (final_any m o fs)

regrouped : (l : c.Line) (f e u k : List c.Line) → l ∷ (((f ++ e) ++ u) ++ k) ≡ l ∷ (f ++ (e ++ (u ++ k)))
regrouped l f e u k = simp append_assoc

-- how an object of a type with a routine is destroyed
pub destroyed : (types : List Derived) (m : ℕ) (o : Option Place) (t : ℕ) → t < m → is_destroyed types (slice_index_or (shapes_of types) t Whole) ≡ true
    → work_code m o (object_work types m (base.Derived t))
    ≡ (c.line o i.Lend ∷ []) ++ (work_code 0 o (final_work (finals_in (slice_get types t)))
    ++ ((c.line o i.WalkBegin ∷ c.line o (i.WalkNext 3) ∷ c.line o (i.Routine t) ∷ c.line o i.Drop ∷ c.line o (i.GoBack 3) ∷ []) ++ (c.line o i.Unlend ∷ c.line o i.Clear ∷ [])))
destroyed types m o t h d = rw (and_from (nat_lt t m) _ (lt-ltb t m h) d, lt-ltb t m h, final_any m o (finals_in (slice_get types t))) (regrouped _ (work_code 0 o (final_work (finals_in (slice_get types t)))) _ _ _)

-- nor does what frees a held value
pub discard_any : (m : ℕ) (o : Option Place) (k : Kind) → work_code m o (discard_work k) ≡ work_code 0 o (discard_work k)
discard_any m o k = either m o (is_derived k.of || not (nat_eq k.rank 0))
  where
    either : (m : ℕ) (o : Option Place) (b : Bool) → work_code m o (if b then w.Discard else w.Rest) ≡ work_code 0 o (if b then w.Discard else w.Rest)
    either m o true = refl
    either m o false = refl
