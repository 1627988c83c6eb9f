-- For how many words a call asks.
use Rattle.std.proofs.Common.{◌≡◌, ◌∙◌, ℕ, ◌<◌, ◌^◌, length, ap, subst, arith}
use Rattle.std.specs.Prelude.{Some, slice_get, slice_index_or}
use Rattle.f3_program.specs.declared.program.Procedure.{Procedure}
use Rattle.f3_live_blocks.specs.Blocks.{Live}
use Rattle.f3_meaning_whole.specs.Exec.{declared_in}
use Rattle.f3_meaning_whole.specs.Run.{setting_of}
use Rattle.f3_code.specs.declared.instruction.Instruction.TheVariants as i
use Rattle.f3_code.specs.State.{Line}
use Rattle.f3_code.specs.State as s
use Rattle.f3_rooms.specs.Forms.{total}
use Rattle.f3_rooms.specs.Rooms.{Rooms}
use Rattle.f3_room_levels.specs.Initial.{AllCanBegin}
use Rattle.f3_word_cells.specs.declared.scene.Frame.{Frame}
use Rattle.f3_word_cells.specs.declared.scene.Scene.{Scene}
use Rattle.f3_word_cells.specs.declared.state.State.{State}
use Rattle.f3_word_cells.specs.Does.{IsTold}
use Rattle.f3_word_cells.specs.Scenes.{IsScene}
use Rattle.f3_word_cells.specs.States.{Stands}
use Rattle.f3_word_cells.specs.Wants.{asked, wanted}
use Rattle.f3_word_entries.proofs.Calling.{CallOf, IsStart, asks}
use Rattle.f3_word_entries.proofs.Sources.{can, long, same_shapes}

pub asks_words : (x : Scene) (so : IsScene x) (t : s.State) (l : Line) (number count : ℕ) (q : Procedure) (there : slice_get x.program.now.procedures.items number ≡ Some q)
    (told : IsTold x.program.now t) (act : l.act ≡ i.Call number count) (call : CallOf x.program.now t q number count) (m : Live) (old : State) (rooms : Rooms)
    (st : Stands x.program.now m old rooms t) (few : length old.callers.items.items < 1000) (at : ℕ)
    (start : IsStart (setting_of x.program.now) x.program.now.procedures.items x.emission.now.procedures.items number q at)
    (f : Frame) (less : number < length x.procedures.now) (is : f ≡ slice_index_or x.procedures.now number f)
    (k : ℕ) → k ≡ (slice_index_or x.procedures.now number f).words → k < 2 ^ 64 → k ≡ asked (wanted x.program.now l.act t)
asks_words x so t l number count q there told act call m old rooms st few at start f less is k words small =
    let p = x.program.now in
    let same = same_shapes x so number q there in
    let able = subst (λ ts. AllCanBegin ts (declared_in q)) same (can x so number q there f less is) in
    let all = long x so number q there f less is ∙ ap (λ ts. total ts (declared_in q)) same in
    let wants = asks p t l number count q there told act call m old rooms st few x.emission.now so.code at start able in
    omega (arith, words, all, wants, small)
