-- How instructions end.
use Rattle.std.specs.Prelude.{⊤, ◌≡◌, ◌+◌, List, [], Result, Ok, Err}
use Rattle.f3_program.specs.declared.declarations.Constant.{Constant}
use Rattle.f3_meaning_whole.specs.declared.run_error.RunError.{RunError}
use Rattle.f3_desc.specs.declared.descriptor.Dim.{Dim}
use Rattle.f3_word_cells.specs.declared.cell.Datum.{Datum}
use Rattle.f3_word_cells.specs.declared.cell.Datum.TheVariants as datum
use Rattle.f3_word_cells.specs.declared.state.State.{State}
use Rattle.f3_word_cells.specs.declared.state.Stop.{Stop}
use Rattle.f3_word_cells.specs.declared.state.Stop.TheVariants as stop
use Rattle.f3_word_cells.specs.Moves.{Pushed}
use Rattle.f3_word_control.specs.Operands.{scalar_cell}

-- What was given comes on top, and the next line, or its error ends the run.
abbrev pub Finishes : Result Constant RunError → Result ⊤ Stop → State → State → Type 0
Finishes (Ok c) (Ok done) old new = Pushed (scalar_cell c) (old.pc + 1) old new
Finishes (Err e) (Err (stop.Failed f)) old new = f ≡ e
Finishes given result old new = ⊥

-- the dimensions of a value
abbrev pub dims_of : Datum → List Dim
dims_of (datum.Scalar c) = []
dims_of (datum.Block a) = (a.elements).dims.items
