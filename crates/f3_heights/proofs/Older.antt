-- Work runs routines of older types alone.
use Rattle.std.proofs.Common.{◌≡◌, ℕ, ◌+◌, Bool, true, false, [], ◌∷◌, length, Option, refl, sym, ap, ◌∙◌, if◌then◌else◌}
use Rattle.std.specs.Prelude.{nat_lt}
use Rattle.f3_places.specs.declared.source.Place.{Place}
use Rattle.f3_code.specs.Work as w
use Rattle.f3_code.specs.declared.instruction.Instruction.TheVariants as i
use Rattle.f3_code.specs.State.{Line, line}
use Rattle.f3_code.specs.Code.{work_code}
use Rattle.f3_heights.proofs.Regions.{AllAt, all_on}

abbrev pub IsOlder : ℕ → ℕ → Line → Type 0
IsOlder m pc l = (t : ℕ) → l.act ≡ i.Routine t → nat_lt t m ≡ true

module _ (m : ℕ) (o : Option Place) where
  routine_older : (b : Bool) (t pc : ℕ) → nat_lt t m ≡ b → AllAt (IsOlder m) pc (if b then line o (i.Routine t) ∷ [] else [])
  routine_older true t pc is = (λ u e. let same : t ≡ u = cc in ap (λ n. nat_lt n m) (sym same) ∙ is, tt)
  routine_older false t pc is = tt

  pub work_older : (x : w.Work) (pc : ℕ) → AllAt (IsOlder m) pc (work_code m o x)
  work_older w.Rest pc = tt
  work_older (w.And x y) pc = all_on (IsOlder m) pc (work_code m o x) (work_code m o y) (work_older x pc) (work_older y (pc + length (work_code m o x)))
  work_older (w.Lending x) pc = (λ t e. cc, all_on (IsOlder m) (pc + 1) (work_code m o x) (line o i.Unlend ∷ []) (work_older x (pc + 1)) (λ t e. cc, tt))
  work_older (w.Of_rank rank x y) pc = (
    λ t e. cc,
    all_on (IsOlder m) (pc + 1) (work_code m o x) (line o (i.GoOn (length (work_code m o y))) ∷ work_code m o y)
        (work_older x (pc + 1)) (λ t e. cc, work_older y (pc + 1 + length (work_code m o x) + 1)),
  )
  work_older (w.Final f) pc = (λ t e. cc, (λ t e. cc, (λ t e. cc, tt)))
  work_older (w.Routine t) pc = routine_older (nat_lt t m) t pc refl
  work_older (w.Of_component k x) pc = (λ t e. cc, all_on (IsOlder m) (pc + 1) (work_code m o x) (line o i.Drop ∷ []) (work_older x (pc + 1)) (λ t e. cc, tt))
  work_older (w.Of_elements x) pc = (
    λ t e. cc,
    (
      λ t e. cc,
      all_on (IsOlder m) (pc + 1 + 1) (work_code m o x)
          (line o i.Drop ∷ line o (i.GoBack (length (work_code m o x) + 2)) ∷ []) (work_older x (pc + 1 + 1)) (λ t e. cc, (λ t e. cc, tt)),
    ),
  )
  work_older (w.If_allocated x) pc = (λ t e. cc, work_older x (pc + 1))
  work_older (w.Of_contents x) pc = (
    λ t e. cc,
    all_on (IsOlder m) (pc + 1) (work_code m o x) (line o i.Drop ∷ line o i.Free ∷ [])
        (work_older x (pc + 1)) (λ t e. cc, (λ t e. cc, tt)),
  )
  work_older w.Clear pc = (λ t e. cc, tt)
  work_older (w.Set v) pc = (λ t e. cc, tt)
  work_older w.Discard pc = (λ t e. cc, tt)
