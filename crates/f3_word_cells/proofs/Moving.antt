-- States of which only cells, the line and the activation become others.
use Rattle.std.proofs.Common.{◌≡◌, ◌∙◌, ℕ, ◌<◌, ◌≤◌, List, ◌++◌, length, reverse, sym, ap, subst, arith}
use Rattle.f3_program.specs.declared.program.Program.{Program}
use Rattle.f3_live_blocks.specs.Blocks.{Live, IsLive, pins_of}
use Rattle.f3_meaning_whole.specs.Ran.{World}
use Rattle.f3_meaning_whole.specs.Act as act
use Rattle.f3_code.specs.State as s
use Rattle.f3_rooms.specs.Held.{times}
use Rattle.f3_rooms.specs.Rooms.{Rooms, blocks_of, store_of}
use Rattle.f3_rooms.specs.Sound.{IsSound}
use Rattle.f3_rooms.proofs.Framing.{times_append}
use Rattle.f3_word_cells.specs.declared.cell.Here.{Here}
use Rattle.f3_word_cells.specs.declared.cell.Cell.{Cell}
use Rattle.f3_word_cells.specs.declared.state.Name.{Name}
use Rattle.f3_word_cells.specs.declared.state.Caller.{Caller}
use Rattle.f3_word_cells.specs.declared.state.State.{State}
use Rattle.f3_cell_kinds.specs.Laws.{site_at}
use Rattle.f3_word_cells.specs.Areas.{types_of}
use Rattle.f3_word_cells.specs.Cells.{AreCells}
use Rattle.f3_word_cells.specs.States.{AreCalled, AreCallers, AreKnown, AreTight, IsOrderly, Stands, beneath, cells_blocks, loose_blocks, own}
use Rattle.f3_word_cells.specs.Moves.{IsSame}

-- all but the line, the activation and its cells
pub record IsSameElse (old new : State) : Type 0 where
  pub names : new.names ≡ old.names
  pub callers : new.callers ≡ old.callers
  pub statics : new.statics ≡ old.statics
  pub blocks : new.blocks ≡ old.blocks
  pub levels : new.levels ≡ old.levels
  pub beneath : beneath new ≡ beneath old
  pub bottom : old.base ≤ length old.cells.items.items → new.base ≤ length new.cells.items.items

pub same_else : {old new : State} → IsSame old new → IsSameElse old new
same_else h = record {
  names = h.names;
  callers = h.callers;
  statics = h.statics;
  blocks = h.blocks;
  levels = h.levels;
  beneath = h.beneath;
  bottom = h.bottom;
}

-- ---- whatever becomes of blocks

-- what is beneath the cells of the activation at work, where it has these frames
abbrev pub Beneath : Program → Live → State → List s.Frame → Rooms → List Name → Type 0
Beneath p m w frames = AreCallers p m (beneath w) (reverse w.callers.items.items) frames

-- What is left to show where blocks, cells, the line and the activation become others, and variables stand in the same rooms.
pub record StandsSo (p : Program) (n : Live) (old new : State) (x : Rooms) (t : s.State) (pc : ℕ) (stack : List s.Cell) (here : act.Here) (world : World)
    : Type 0 where
  pub same : IsSameElse old new
  pub line : pc ≡ new.pc
  pub sound : IsSound (types_of p) n x
  pub store : world.store ≡ store_of (types_of p) n x
  pub known : AreKnown p (site_at p pc).cells (own new)
  pub cells : AreCells p n (Beneath p n old t.frames) x old.names.items.items new.here here (own new) stack
  pub orderly : IsOrderly p pc (length old.names.items.items) new.here (own new)
  pub tight : AreTight (AreCalled p (beneath old) (reverse old.callers.items.items)) x.levels (length old.names.items.items) (own new)
  pub once : (q : ℕ) → times q (blocks_of x ++ loose_blocks new) ≤ 1
  pub all : (q : ℕ) → IsLive n q → 0 < times q (blocks_of x ++ loose_blocks new)
  pub live : (q : ℕ) → 0 < times q (loose_blocks new) → IsLive n q
  pub unpinned : (q : ℕ) → pins_of n q ≡ 0

abbrev pub moved_to : s.State → ℕ → List s.Cell → act.Here → World → s.State
moved_to t pc stack here world = record { pc = pc; stack = stack; here = here; frames = t.frames; world = world }

pub stands_so : (p : Program) (m n : Live) (old new : State) (x : Rooms) (t : s.State) (pc : ℕ) (stack : List s.Cell) (here : act.Here) (world : World)
    → Stands p m old x t → StandsSo p n old new x t pc stack here world → Stands p n new x (moved_to t pc stack here world)
stands_so p m n old new x t pc stack here world st so =
    let same = so.same in
    let names : old.names.items.items ≡ new.names.items.items = ap (λ (w : _). w.items.items) (sym same.names) in
    let callers : reverse old.callers.items.items ≡ reverse new.callers.items.items = ap (λ (w : _). reverse w.items.items) (sym same.callers) in
    let Rest : List Cell → List Caller → Rooms → List Name → Type 0 = λ cs fs. AreCallers p n cs fs t.frames in
    let named : AreCells p n (Rest (beneath old) (reverse old.callers.items.items)) x new.names.items.items new.here here (own new) stack =
    subst (λ (ns : List Name). AreCells p n (Rest (beneath old) (reverse old.callers.items.items)) x ns new.here here (own new) stack) names so.cells in
    let called : AreCells p n (Rest (beneath old) (reverse new.callers.items.items)) x new.names.items.items new.here here (own new) stack =
    subst (λ (fs : List Caller). AreCells p n (Rest (beneath old) fs) x new.names.items.items new.here here (own new) stack) callers named in
    record {
      sound = so.sound;
      store = so.store;
      statics = st.statics ∙ sym same.statics;
      declared = st.declared;
      bare = st.bare;
      all_bare = st.all_bare;
      blocks = ap (λ (w : _). w.items.items) same.blocks ∙ st.blocks;
      levels = ap (λ (w : _). w.items.items) same.levels ∙ st.levels;
      pc = so.line;
      bottom = same.bottom st.bottom;
      known = so.known;
      stack = subst (λ (cs : List Cell). AreCells p n (Rest cs (reverse new.callers.items.items)) x new.names.items.items new.here here (own new) stack)
          (sym same.beneath) called;
      orderly = subst (λ (ns : List Name). IsOrderly p pc (length ns) new.here (own new)) names so.orderly;
      tight = subst (λ (cs : List Cell). AreTight (AreCalled p cs (reverse new.callers.items.items)) x.levels (length new.names.items.items) (own new)) (sym same.beneath)
          (subst (λ (fs : List Caller). AreTight (AreCalled p (beneath old) fs) x.levels (length new.names.items.items) (own new)) callers
          (subst (λ (ns : List Name). AreTight (AreCalled p (beneath old) (reverse old.callers.items.items)) x.levels (length ns) (own new)) names so.tight));
      once = so.once;
      all = so.all;
      live = so.live;
      unpinned = so.unpinned;
    }

-- ---- the blocks are the same

blocks_moved : (q : ℕ) (old new : State) (bs : List ℕ)
    → times q (cells_blocks new.cells.items.items) ≡ times q (cells_blocks old.cells.items.items)
    → times q (bs ++ loose_blocks new) ≡ times q (bs ++ loose_blocks old)
blocks_moved q old new bs cells =
    let a = times_append q bs (loose_blocks new) in
    let b = times_append q bs (loose_blocks old) in
    omega (arith, a, b, cells)

-- the line, the activation and its cells become others, with values in the same blocks
pub stands_at : (p : Program) (live : Live) (old new : State) (x : Rooms) (t : s.State) (pc : ℕ) (stack : List s.Cell) (here : act.Here)
    → Stands p live old x t → IsSameElse old new → pc ≡ new.pc → AreKnown p (site_at p pc).cells (own new)
    → AreCells p live (Beneath p live old t.frames) x old.names.items.items new.here here (own new) stack
    → IsOrderly p pc (length old.names.items.items) new.here (own new)
    → AreTight (AreCalled p (beneath old) (reverse old.callers.items.items)) x.levels (length old.names.items.items) (own new)
    → ((q : ℕ) → times q (cells_blocks new.cells.items.items) ≡ times q (cells_blocks old.cells.items.items))
    → Stands p live new x (moved_to t pc stack here t.world)
stands_at p live old new x t pc stack here st same at known cells orderly tight blocks = stands_so p live live old new x t pc stack here t.world st (record {
  same = same;
  line = at;
  sound = st.sound;
  store = st.store;
  known = known;
  cells = cells;
  orderly = orderly;
  tight = tight;
  once = λ q. subst (λ (k : ℕ). k ≤ 1) (sym (blocks_moved q old new (blocks_of x) (blocks q))) (st.once q);
  all = λ q alive. subst (λ (k : ℕ). 0 < k) (sym (blocks_moved q old new (blocks_of x) (blocks q))) (st.all q alive);
  live = λ q some. st.live q (subst (λ (k : ℕ). 0 < k) (blocks q) some);
  unpinned = st.unpinned;
})

-- only the line and cells become others
pub stands_moved : (p : Program) (live : Live) (old new : State) (x : Rooms) (t : s.State) (pc : ℕ) (stack : List s.Cell)
    → Stands p live old x t → IsSame old new → pc ≡ new.pc → AreKnown p (site_at p pc).cells (own new)
    → AreCells p live (Beneath p live old t.frames) x old.names.items.items old.here t.here (own new) stack
    → IsOrderly p pc (length old.names.items.items) old.here (own new)
    → AreTight (AreCalled p (beneath old) (reverse old.callers.items.items)) x.levels (length old.names.items.items) (own new)
    → ((q : ℕ) → times q (cells_blocks new.cells.items.items) ≡ times q (cells_blocks old.cells.items.items))
    → Stands p live new x (moved_to t pc stack t.here t.world)
stands_moved p live old new x t pc stack st same at known cells orderly tight blocks =
    stands_at p live old new x t pc stack t.here st (same_else same) at known
    (subst (λ (h : Here). AreCells p live (Beneath p live old t.frames) x old.names.items.items h t.here (own new) stack) (sym same.here) cells)
    (subst (λ (h : Here). IsOrderly p pc (length old.names.items.items) h (own new)) (sym same.here) orderly) tight
    blocks
