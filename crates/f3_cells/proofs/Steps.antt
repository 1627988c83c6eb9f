-- What an instruction comes to, by how its last call ended.
use Rattle.std.proofs.Common.{◌≡◌, ◌≤◌, ℕ, ◌+◌, [], ◌∷◌, length, None, Result, Ok, Err, refl, sym, subst, ap, ◌∙◌, arith}
use Rattle.std.specs.Prelude.{⊤, slice_get}
use Rattle.std.proofs.lemmas.Option.{slice_get_past}
use Rattle.f3_places.specs.declared.source.Place.{Place}
use Rattle.f3_program.specs.declared.program.Program.{Program}
use Rattle.f3_code.specs.State.{Code, Next, Goes, Stays, Stuck}
use Rattle.f3_code.specs.State as s
use Rattle.f3_code.specs.Machine.{stuck, goes, skips}
use Rattle.f3_cells.specs.declared.cell.Cell.{Cell}
use Rattle.f3_cells.specs.declared.state.State.{State}
use Rattle.f3_cells.specs.declared.state.Stop.{Stop}
use Rattle.f3_cells.specs.declared.state.Stop.TheVariants as stop
use Rattle.f3_cells.specs.Cells.{cell_of, cells_of}
use Rattle.f3_cells.specs.States.{state_of, world_of}
use Rattle.f3_cells.specs.Follows.{GoesOn, StopsSo, Follows}
use Rattle.f3_cells.specs.Moves.{AheadBy, AheadWith, Moved, OnWith, WentAhead, WentAheadWith, WentOn}

-- the machine is stuck
pub is_stuck : {next : Next} → next ≡ stuck → StopsSo next Stuck
is_stuck e = ([], e, refl)

with_cell : (code : Code) (next : Next) (r : Result ⊤ Stop) (place : Place) (p : Program) (cell : Cell) (mid new : State) → OnWith cell r mid new
    → next ≡ goes (state_of p mid) (cell_of p cell ∷ cells_of p mid.stack.items) → Follows code next r (state_of p new) place
with_cell code next (Ok done) place p cell mid new h e = ([], e ∙ ap (Goes []) (sym (h p)), refl)
with_cell code next (Err stop.Memory) place p cell mid new h e = tt
with_cell code next (Err stop.Done) place p cell mid new h e = absurd h
with_cell code next (Err (stop.Stopped number)) place p cell mid new h e = absurd h
with_cell code next (Err (stop.Failed error)) place p cell mid new h e = absurd h
with_cell code next (Err stop.Stuck) place p cell mid new h e = absurd h
with_cell code next (Err stop.Lost) place p cell mid new h e = absurd h
with_cell code next (Err stop.Refused) place p cell mid new h e = absurd h

-- one more cell
pub went_on : (code : Code) (place : Place) (p : Program) {next : Next} {r : Result ⊤ Stop} {cell : Cell} {mid new : State} → WentOn cell r mid new
    → next ≡ goes (state_of p mid) (cell_of p cell ∷ cells_of p mid.stack.items) → Follows code next r (state_of p new) place
went_on code place p {next = next} {r = r} {cell = cell} {mid = mid} {new = new} h e = with_cell code next r place p cell mid new h.with e

-- the next line
pub moved_on : {next : Next} (p : Program) {mid new : State} → Moved (mid.pc + 1) mid new
    → next ≡ goes (state_of p mid) (cells_of p mid.stack.items) → GoesOn next (state_of p new) []
moved_on p m e = ([], e ∙ ap (λ t. Goes [] (state_of p t)) (sym m.is), refl)

-- past the last line there is none
no_line : (code : Code) (total k : ℕ) → length code.lines ≡ total → total ≤ k → slice_get code.lines k ≡ None
no_line code total k h past = slice_get_past code.lines k (omega arith)

ahead_by : (code : Code) (next : Next) (r : Result ⊤ Stop) (place : Place) (p : Program) (d total : ℕ) (mid new : State) → length code.lines ≡ total
    → AheadBy d total r mid new → next ≡ skips (state_of p mid) d (cells_of p mid.stack.items) → Follows code next r (state_of p new) place
ahead_by code next (Ok done) place p d total mid new size h e = ([], e ∙ ap (λ t. Goes [] (state_of p t)) (sym h.0), refl)
ahead_by code next (Err stop.Lost) place p d total mid new size h e =
    let to : s.State = record {
      pc = mid.pc + 1 + d;
      stack = cells_of p mid.stack.items;
      here = (state_of p mid).here;
      frames = (state_of p mid).frames;
      world = world_of mid.store;
    } in
    (to, ([], e, refl), no_line code total (mid.pc + 1 + d) size h.1)
ahead_by code next (Err stop.Memory) place p d total mid new size h e = absurd h
ahead_by code next (Err stop.Done) place p d total mid new size h e = absurd h
ahead_by code next (Err (stop.Stopped number)) place p d total mid new size h e = absurd h
ahead_by code next (Err (stop.Failed error)) place p d total mid new size h e = absurd h
ahead_by code next (Err stop.Stuck) place p d total mid new size h e = absurd h
ahead_by code next (Err stop.Refused) place p d total mid new size h e = absurd h

-- a line that is so far on
pub went_ahead : (code : Code) (place : Place) (p : Program) {next : Next} {r : Result ⊤ Stop} {d total : ℕ} {mid new : State} → length code.lines ≡ total
    → WentAhead d total r mid new → next ≡ skips (state_of p mid) d (cells_of p mid.stack.items) → Follows code next r (state_of p new) place
went_ahead code place p {next = next} {r = r} {d = d} {total = total} {mid = mid} {new = new} size h e =
    ahead_by code next r place p d total mid new size h.by e

ahead_with : (code : Code) (next : Next) (r : Result ⊤ Stop) (place : Place) (p : Program) (x : Cell) (d total : ℕ) (mid new : State) → length code.lines ≡ total
    → AheadWith x d total r mid new → next ≡ skips (state_of p mid) d (cell_of p x ∷ cells_of p mid.stack.items) → Follows code next r (state_of p new) place
ahead_with code next (Ok done) place p x d total mid new size h e = ([], e ∙ sym (h p), refl)
ahead_with code next (Err stop.Lost) place p x d total mid new size h e =
    let to : s.State = record {
      pc = mid.pc + 1 + d;
      stack = cell_of p x ∷ cells_of p mid.stack.items;
      here = (state_of p mid).here;
      frames = (state_of p mid).frames;
      world = world_of mid.store;
    } in
    (to, ([], e, refl), no_line code total (mid.pc + 1 + d) size h)
ahead_with code next (Err stop.Memory) place p x d total mid new size h e = tt
ahead_with code next (Err stop.Done) place p x d total mid new size h e = absurd h
ahead_with code next (Err (stop.Stopped number)) place p x d total mid new size h e = absurd h
ahead_with code next (Err (stop.Failed error)) place p x d total mid new size h e = absurd h
ahead_with code next (Err stop.Stuck) place p x d total mid new size h e = absurd h
ahead_with code next (Err stop.Refused) place p x d total mid new size h e = absurd h

-- a line that is so far on, with one more cell
pub went_ahead_with : (code : Code) (place : Place) (p : Program) {next : Next} {r : Result ⊤ Stop} {x : Cell} {d total : ℕ} {mid new : State}
    → length code.lines ≡ total → WentAheadWith x d total r mid new
    → next ≡ skips (state_of p mid) d (cell_of p x ∷ cells_of p mid.stack.items) → Follows code next r (state_of p new) place
went_ahead_with code place p {next = next} {r = r} {x = x} {d = d} {total = total} {mid = mid} {new = new} size h e =
    ahead_with code next r place p x d total mid new size h.with e

-- want of memory
pub of_memory : (code : Code) (next : Next) (e : Stop) (to : s.State) (place : Place) → e ≡ stop.Memory → Follows code next (Err e) to place
of_memory code next e to place h = subst (λ x. Follows code next (Err x) to place) (sym h) tt
