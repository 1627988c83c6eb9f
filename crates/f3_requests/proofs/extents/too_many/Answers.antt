use Rattle.std.proofs.Common.{◌∙◌, [], ◌∷◌, rules, tests}
use Rattle.std.proofs.lemmas.Iterator.{YieldsList-from_slice}
use Rattle.std.proofs.lemmas.Iterator.Search.{any_from_yields_List}
use Rattle.f3_cells.specs.declared.cell.Cell.{Cell}
use Rattle.f3_meaning_whole.specs.Exec.{too_many}
use Rattle.f3_requests.specs.Inner.Counted.{extents}
use Rattle.f3_requests.proofs.Sums.{too_many_any}
use Rattle.f3_requests.proofs.extents.too_many.Goals as goal

pub returns : goal.returns
returns c =
    any_from_yields_List (λ (x : Cell). too_many (extents (x ∷ []))) _ _ _ c.any.ensures.ran (YieldsList-from_slice c.args.cells.now cc) (λ x b q k. search (rules, tests))
    ∙ too_many_any c.args.cells.now
