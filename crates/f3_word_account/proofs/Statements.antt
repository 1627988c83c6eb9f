-- Where a statement begins no cell holds a value.
use Rattle.std.proofs.Common.{List, [], ◌∷◌, map}
use Rattle.f3_cell_kinds.specs.Types.{CellType, sort_of_type}
use Rattle.f3_cell_kinds.specs.Types as cell
use Rattle.f3_cell_kinds.specs.Laws.{site_at}
use Rattle.f3_word_account.specs.Runs.{AreIdle, HasNoLevel, StatementsLeakNothing}
use Rattle.f3_word_account.proofs.Beginning.{AreConstructs, begins_on_constructs}
use Rattle.f3_word_account.proofs.Idle.{lines_leak_nothing}

constructs_idle : (xs : List CellType) → AreConstructs (map sort_of_type xs) → HasNoLevel xs → AreIdle xs
constructs_idle [] are out = tt
constructs_idle ((cell.Datum k) ∷ xs) are out = absurd are
constructs_idle ((cell.Object k) ∷ xs) are out = absurd are
constructs_idle ((cell.Each array k j) ∷ xs) are out = absurd are
constructs_idle ((cell.Argument k) ∷ xs) are out = absurd are
constructs_idle ((cell.Choice k) ∷ xs) are out = absurd are
constructs_idle (cell.Bound ∷ xs) are out = absurd are
constructs_idle ((cell.Bounds k) ∷ xs) are out = absurd are
constructs_idle (cell.Extent ∷ xs) are out = absurd are
constructs_idle (cell.Status ∷ xs) are out = absurd are
constructs_idle (cell.Turns ∷ xs) are out = (tt, constructs_idle xs are out)
constructs_idle ((cell.Elements k) ∷ xs) are out = absurd are
constructs_idle ((cell.Objects k) ∷ xs) are out = absurd are
constructs_idle ((cell.Selector k) ∷ xs) are out = absurd are
constructs_idle ((cell.Level k) ∷ xs) are out = absurd out
constructs_idle ((cell.Outside k) ∷ xs) are out = (tt, constructs_idle xs are out)
constructs_idle (cell.Going ∷ xs) are out = absurd are

pub statements_leak_nothing : StatementsLeakNothing
statements_leak_nothing p n w x t st told has none l at begin out =
    lines_leak_nothing p n w x t st told.fits has none (constructs_idle (site_at p t.pc).cells (begins_on_constructs p t.pc l at begin) out)
