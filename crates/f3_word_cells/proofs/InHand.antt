-- Blocks in hand may be given back.
use Rattle.std.proofs.Common.{ℕ, List, [], ◌∷◌, ◌++◌, arith}
use Rattle.std.specs.FinMap.{remove}
use Rattle.f3_program.specs.declared.program.Program.{Program}
use Rattle.f3_live_blocks.specs.Blocks.{Live}
use Rattle.f3_meaning_whole.specs.Store.{Store}
use Rattle.f3_code.specs.State as s
use Rattle.f3_rooms.specs.Laws.{without}
use Rattle.f3_rooms.specs.Rooms.{Rooms}
use Rattle.f3_rooms.proofs.Framing.{times_append}
use Rattle.f3_cell_kinds.specs.Types.{CellType}
use Rattle.f3_word_cells.specs.declared.state.State.{State}
use Rattle.f3_word_cells.specs.Free.{AreFree}
use Rattle.f3_word_cells.proofs.Amid.{Amid, amid_gone}

-- they are live and not pinned
pub hand_free : (p : Program) (t : s.State) (n : Live) (old now : State) (x : Rooms) (ks : List CellType) (stack : List s.Cell) (store : Store) (bs hand : List ℕ)
    → Amid p t n old now x ks stack store (bs ++ hand) → AreFree n bs
hand_free p t n old now x ks stack store bs hand amid q some =
    (amid.live q (let e = times_append q bs hand in omega (arith, e, some)), amid.unpinned q)

-- without them all is as it was
pub amid_without : (p : Program) (t : s.State) (n : Live) (old now : State) (x : Rooms) (ks : List CellType) (stack : List s.Cell) (store : Store) (bs hand : List ℕ)
    → Amid p t n old now x ks stack store (bs ++ hand) → Amid p t (without bs n) old now x ks stack store hand
amid_without p t n old now x ks stack store [] hand amid = amid
amid_without p t n old now x ks stack store (b ∷ bs) hand amid =
    amid_without p t (remove n b) old now x ks stack store bs hand (amid_gone p t n old now x ks stack store b (bs ++ hand) amid)
