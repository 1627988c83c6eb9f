-- The code of a DEALLOCATE, from its end.
use Rattle.std.proofs.Common.{◌≡◌, ℕ, ◌-◌, ◌++◌, List, ◌∷◌, [], length, map, ap, ◌∙◌, append_assoc, Option}
use Rattle.f3_places.specs.declared.source.Place.{Place}
use Rattle.f3_program.specs.declared.declarations.Derived.{Derived}
use Rattle.f3_program.specs.declared.statement.Request.{Request}
use Rattle.f3_meaning_whole.specs.Act.{Setting}
use Rattle.f3_code.specs.Work as w
use Rattle.f3_code.specs.Lower.{object_work, deallocation}
use Rattle.f3_code.specs.State as c
use Rattle.f3_code.specs.declared.instruction.Instruction.TheVariants as i
use Rattle.f3_code.specs.Code.{free_code, locate_code, deallocate_code}
use Rattle.f3_gen_values.specs.declared.line.Line.{Line}
use Rattle.f3_gen_values.specs.Emitted.{Emitted}
use Rattle.f3_gen_work.specs.EmittedIn.{EmittedIn}
use Rattle.f3_gen_work.proofs.Emitting.{in_types, over_in, same_in}

behind_all : (l f r : List c.Line) (s : c.Line) → l ++ (f ++ (s ∷ r)) ≡ (l ++ (f ++ s ∷ [])) ++ r
behind_all l f r s = simp append_assoc

-- one more object in front
pub freed_in : {t : List Derived} {a b d : List Line} (o : Option Place) (r : Request) (rs : List Request) (k : ℕ)
    → EmittedIn t a b (λ g. deallocate_code (length t) o (map (deallocation g) rs))
    → Emitted b d (locate_code o r.object ++ (free_code (length t) o (w.Of_contents (object_work t (length t) r.kind.of)) ++ c.line o (i.SkipIfFailed k) ∷ []))
    → k ≡ length b - length a → EmittedIn t a d (λ g. deallocate_code (length t) o (map (deallocation g) (r ∷ rs)))
freed_in {t = t} o r rs k p q n =
    same_in (λ g. deallocate_code (length t) o (map (deallocation g) (r ∷ rs))) (over_in (λ k g. locate_code o r.object
    ++ (free_code (length t) o (w.Of_contents (object_work t (length t) r.kind.of)) ++ c.line o (i.SkipIfFailed k) ∷ [])) k p (in_types q) n)
    (λ (g : Setting) e. ap (λ s. locate_code o r.object ++ (free_code (length t) o (w.Of_contents (object_work s (length s) r.kind.of))
    ++ (c.line o (i.SkipIfFailed (length (deallocate_code (length t) o (map (deallocation g) rs)))) ∷ deallocate_code (length t) o (map (deallocation g) rs)))) e
    ∙ behind_all (locate_code o r.object) (free_code (length t) o (w.Of_contents (object_work t (length t) r.kind.of))) _ _)
