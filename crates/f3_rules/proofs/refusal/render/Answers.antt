use Rattle.std.proofs.Common.{◌≡◌, ◌++◌, List, ℕ, sym, ap, ◌∙◌, codes, append_assoc}
use Rattle.std.proofs.lemmas.Result.{IfOk-weaker}
use Rattle.f3_rules.specs.Line.{line_of, named}
use Rattle.f3_rules.proofs.refusal.render.Goals as goal

-- the parts put together
together : (f f' l k i i' w w' b n n' : List ℕ) → f ≡ f' → i ≡ i' → w ≡ w' → n ≡ n' → b ++ n ≡ named n
    → f ++ (codes ":" ++ (l ++ (codes ":" ++ (k ++ (codes ": " ++ (i ++ (codes " " ++ (w ++ (b ++ n)))))))))
    ≡ f' ++ codes ":" ++ l ++ codes ":" ++ k ++ codes ": " ++ i' ++ codes " " ++ w' ++ named n'
together f f' l k i i' w w' b n n' ef ei ew en eb =
    let named_is : b ++ n' ≡ named n' = ap (λ x. b ++ x) (sym en) ∙ eb ∙ ap named en in
    simp (append_assoc, ef, ei, ew, en, named_is)

pub returns : goal.returns
unfolding line_of
returns c = IfOk-weaker c.format.result _ _ (λ line h.
    h ∙ together _ _ _ _ _ _ _ _ _ _ _ c.file_name-file.ensures c.identifier-identifier.ensures c.words-words.ensures c.as_str-name.ensures.value c.before_name-before_name.ensures) c.format.ensures.ok
