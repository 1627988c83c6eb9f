use Rattle.std.proofs.Common.{◌≡◌, ◌++◌, List, ℕ, codes, append_assoc, ◌∙◌}
use Rattle.std.specs.Prelude.{decimal}
use Rattle.std.proofs.lemmas.Result.{IfOk-weaker}
use Rattle.f3_command.proofs.report.error_line.Goals as goal

-- the parts put together
together : (f f' l k : List ℕ) (n n' : ℕ) (w w' : List ℕ) → f ≡ f' → n ≡ n' → w ≡ w'
    → f ++ (codes ":" ++ (l ++ (codes ":" ++ (k ++ (codes ": error " ++ (decimal n ++ (codes ": " ++ w)))))))
    ≡ f' ++ codes ":" ++ l ++ codes ":" ++ k ++ codes ": error " ++ decimal n' ++ codes ": " ++ w'
together f f' l k n n' w w' ef en ew = simp (append_assoc, ef, en, ew)

pub returns : goal.returns
returns c = IfOk-weaker c.format.result _ _ (λ text h. h ∙ together _ _ _ _ _ _ _ _ c.file_name-file.ensures c.number-number.ensures c.words-words.ensures) c.format.ensures.ok
