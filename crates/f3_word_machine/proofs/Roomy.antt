-- Stacks have room for what each instruction of a run puts there.
use Rattle.std.proofs.Common.{◌≡◌, ◌≤◌, ◌+◌, ◌*◌, refl, arith}
use Rattle.std.specs.Prelude.{Some, slice_get}
use Rattle.f3_program.specs.declared.program.Program.{Program}
use Rattle.f3_live_blocks.specs.Blocks.{Live}
use Rattle.f3_code.specs.declared.instruction.Instruction.{Instruction}
use Rattle.f3_code.specs.declared.instruction.Instruction.TheVariants as i
use Rattle.f3_code.specs.Lower.{lowered_program}
use Rattle.f3_code.specs.State as s
use Rattle.f3_code.specs.State.{Line}
use Rattle.f3_rooms.specs.Rooms.{Rooms}
use Rattle.f3_word_cells.specs.declared.state.State.{State}
use Rattle.f3_word_cells.specs.Scenes.{code_of}
use Rattle.f3_word_cells.specs.States.{Stands}
use Rattle.f3_word_cells.specs.Does.{IsTold, KeepsRoom}
use Rattle.f3_word_needs.specs.Names.{most_dummies, most_open}
use Rattle.f3_sizes.specs.declared.answer.Needs.{Needs}
use Rattle.f3_word_needs.specs.declared.needs.StackNeeds.{StackNeeds}
use Rattle.f3_word_needs.specs.Needs.{AreEnough, AreTold}
use Rattle.f3_word_needs.specs.Room.{HasRoom}
use Rattle.f3_word_needs.proofs.Asked.{associates_are_few, calls_are_few}
use Rattle.f3_word_needs.proofs.Kept.{blocks_are_few, names_are_kept}
use Rattle.f3_word_needs.proofs.Memory.{memory_is_as_large}
use Rattle.f3_word_start.specs.Begins.{IsReady}
use Rattle.f3_word_start.specs.declared.stacks.Room.{Room}
use Rattle.f3_word_machine.specs.Room.{HasRoomFor, IsRoomy, room_of, wanted}

module _ (p : Program) (t : s.State) (l : Line) (told : IsTold p t) (there : slice_get (code_of p).lines t.pc ≡ Some l) where
  -- no instruction wants more names than the dummies of a procedure and the names of ASSOCIATEs that may be open
  wanted_few : (x : Instruction) → l.act ≡ x → wanted x ≤ most_dummies (lowered_program p).procedures + most_open (lowered_program p)
  wanted_few (i.Call f n) is = let few = calls_are_few p t l f n told there is in omega (arith, few)
  wanted_few (i.Associate n) is = let few = associates_are_few p t l n told there is in omega (arith, few)
  wanted_few x is = omega arith

  pub has_room_for : (m : Live) (w : State) (x : Rooms) → IsRoomy p (room_of w) → HasRoom p t → Stands p m w x t → HasRoomFor l.act w
  has_room_for m w x roomy has st =
      let large = memory_is_as_large p m w x t st in
      let enough = roomy.enough t told has in
      let names = names_are_kept p m w x t st in
      let blocks = blocks_are_few p m w x t st in
      let few = wanted_few l.act refl in
      let kept = roomy.kept in
      let most = enough.kept in
      record {
        cells = let a = enough.cells in let b = roomy.cells in omega (arith, large.0, a, b);
        names = let b = roomy.names in omega (arith, names, most, few, kept, b);
        callers = roomy.callers;
        blocks = let a = enough.callers in let b = roomy.blocks in omega (arith, blocks, most, few, kept, a, b);
        levels = let a = enough.levels in let b = roomy.levels in omega (arith, large.2, a, b);
      }

-- stacks with more room
pub more_room : (p : Program) (r q : Room) → r.cells ≤ q.cells → r.names ≤ q.names → r.callers ≤ q.callers → r.blocks ≤ q.blocks → r.levels ≤ q.levels → IsRoomy p r → IsRoomy p q
more_room p r q cells names callers blocks levels h = record {
  needs = h.needs;
  enough = h.enough;
  kept = h.kept;
  cells = let a = h.cells in omega (arith, a, cells);
  names = let a = h.names in omega (arith, a, names);
  callers = let a = h.callers in omega (arith, a, callers);
  blocks = let a = h.blocks in omega (arith, a, blocks);
  levels = let a = h.levels in omega (arith, a, levels);
}

pub ready_room : (p : Program) (r : Room) (w : State) → IsReady r w → IsRoomy p r → IsRoomy p (room_of w)
ready_room p r w ready h = more_room p r (room_of w) ready.cells.1 ready.names.1 ready.callers.1 ready.blocks.1 ready.levels.1 h

-- and as before
pub same_room : (p : Program) (a b : State) → KeepsRoom a b → IsRoomy p (room_of a) → IsRoomy p (room_of b)
same_room p a b keeps h = more_room p (room_of a) (room_of b) (let e = keeps.cells in omega (arith, e)) (let e = keeps.names in omega (arith, e))
    (let e = keeps.callers in omega (arith, e)) (let e = keeps.blocks in omega (arith, e)) (let e = keeps.levels in omega (arith, e)) h

pub keeps_both : {a b c : State} → KeepsRoom a b → KeepsRoom b c → KeepsRoom a c
keeps_both h k = record {
  cells = (let e = h.cells in let f = k.cells in omega (arith, e, f));
  names = (let e = h.names in let f = k.names in omega (arith, e, f));
  callers = (let e = h.callers in let f = k.callers in omega (arith, e, f));
  blocks = (let e = h.blocks in let f = k.blocks in omega (arith, e, f));
  levels = (let e = h.levels in let f = k.levels in omega (arith, e, f));
}

-- what is told is enough, with as much again for what one instruction wants
pub told_room : (x : StackNeeds) (r : Room) → r.cells ≡ x.cells + 2 → r.names ≡ x.kept * 2 → r.callers ≡ 1000 → r.blocks ≡ r.names + 1002 → r.levels ≡ x.levels + 2
    → (p : Program) (n : Needs) → AreTold p n x → AreEnough p x → IsRoomy p r
told_room x r cells names callers blocks levels p n told enough = record {
  needs = x;
  enough = enough;
  kept = let k = told.kept in omega (arith, k);
  cells = omega (arith, cells);
  names = omega (arith, names);
  callers = omega (arith, callers);
  blocks = omega (arith, blocks, names);
  levels = omega (arith, levels);
}
