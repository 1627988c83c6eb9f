use Rattle.std.proofs.lemmas.Str.{IsUtf8-from_ascii}
use Rattle.f3_words.proofs.items.lower_case.Goals as goal

pub returns-in_default : goal.returns-in_default
returns-in_default c = λ ascii. absurd (c.in_default.ensures.cases.0 (IsUtf8-from_ascii _ ascii))
