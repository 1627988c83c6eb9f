use Rattle.std.proofs.Common.{◌≡◌, [], drop}
use Rattle.std.specs.Prelude.{Some, slice_get}
use Rattle.f3_program.specs.declared.program.Program.{Program}
use Rattle.f3_code.specs.State.{Line}
use Rattle.f3_code.specs.State as s
use Rattle.f3_code.specs.declared.instruction.Instruction.TheVariants as i
use Rattle.f3_cell_kinds.specs.Laws.{site_at}
use Rattle.f3_rooms.specs.Rooms.{Rooms}
use Rattle.f3_word_cells.specs.Scenes.{code_of}
use Rattle.f3_word_cells.specs.States.{Stands}
use Rattle.f3_word_cells.specs.Does.{IsTold, Keeps}
use Rattle.f3_word_cells.proofs.Amid.{Amid}
use Rattle.f3_word_control.proofs.dropping.unwind.Given as goal

abbrev pub invariant-loop : goal.invariant-loop
invariant-loop g l = (l.state.pc ≡ l.initial.state.pc) × Keeps l.initial.state l.state
    × ((p : Program) (t : s.State) (line : Line) (x : Rooms) → IsTold p t → slice_get (code_of p).lines t.pc ≡ Some line → line.act ≡ i.Unwind l.count
    → Stands p (g.B.Blocks.blocks l.initial.heap) l.initial.state x t
    → Amid p t (g.B.Blocks.blocks l.heap) l.initial.state l.state x (drop l.counter (site_at p t.pc).cells) (drop l.counter t.stack) t.world.store [])
    × (g.B.Blocks.kept l.heap ≡ g.B.Blocks.kept l.initial.heap)
