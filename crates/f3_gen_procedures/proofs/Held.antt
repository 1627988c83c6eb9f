-- What frees held arguments runs no routines.
use Rattle.std.proofs.Common.{◌≡◌, ℕ, suc, ◌+◌, ◌++◌, List, ◌∷◌, [], length, map, refl, ap, ◌∙◌, None}
use Rattle.f3_program.specs.declared.program.Dummy.{Dummy}
use Rattle.f3_code.specs.Lower.{discard_work}
use Rattle.f3_code.specs.State as c
use Rattle.f3_code.specs.declared.instruction.Instruction.TheVariants as i
use Rattle.f3_code.specs.Code.{discard_code, work_code}
use Rattle.f3_gen_work.proofs.Finals.{discard_any}

pub held_any : (m k : ℕ) (ds : List Dummy) → discard_code m k (map (λ (d : Dummy). discard_work d.kind) ds) ≡ discard_code 0 k (map (λ (d : Dummy). discard_work d.kind) ds)
held_any m k [] = refl
held_any m k (d ∷ ds) =
    ap (λ w. c.line None (i.NextArgument k (length w + 1)) ∷ (w ++ (c.line None i.Drop ∷ discard_code m (suc k) (map (λ (d : Dummy). discard_work d.kind) ds)))) (discard_any m None d.kind)
    ∙ ap (λ l. c.line None (i.NextArgument k (length (work_code 0 None (discard_work d.kind)) + 1)) ∷ (work_code 0 None (discard_work d.kind) ++ (c.line None i.Drop ∷ l))) (held_any m (suc k) ds)
