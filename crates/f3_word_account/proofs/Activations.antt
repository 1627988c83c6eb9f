-- Variables of activations have blocks.
use Rattle.std.proofs.Common.{◌≡◌, ℕ, zero, suc, ◌+◌, ◌≤◌, List, [], ◌∷◌, ◌++◌, length, take, reverse, ap, subst, ◌∙◌, arith}
use Rattle.std.specs.Prelude.{Some, slice_get}
use Rattle.f3_program.specs.declared.program.Program.{Program}
use Rattle.f3_live_blocks.specs.Blocks.{Live, words_of}
use Rattle.f3_meaning_whole.specs.Act as m
use Rattle.f3_code.specs.State as s
use Rattle.f3_rooms.specs.Forms.{total}
use Rattle.f3_rooms.specs.Laws.{before_level}
use Rattle.f3_rooms.specs.Rooms.{Slot, Stands as Room, Rooms}
use Rattle.f3_rooms.specs.Sound.{IsLevel, AreLevels}
use Rattle.f3_word_cells.specs.declared.cell.Here.{Here}
use Rattle.f3_word_cells.specs.declared.cell.Cell.{Cell}
use Rattle.f3_word_cells.specs.declared.state.Name.{Name}
use Rattle.f3_word_cells.specs.declared.state.Caller.{Caller}
use Rattle.f3_word_cells.specs.declared.state.State.{State}
use Rattle.f3_word_cells.specs.Areas.{types_of}
use Rattle.f3_word_cells.specs.Cells.{IsHere, AreCells, rooms_under, names_under, here_under, here_beneath}
use Rattle.f3_word_cells.specs.States.{Stands, AreCallers, cells_from, level_rooms, levels_rooms, starts_of, own, beneath}
use Rattle.f3_word_cells.proofs.Within.{AreRooms, here_stands, rooms_before, rooms_beneath, rooms_same, rooms_through}
use Rattle.f3_word_account.specs.Laws.{HasBlock, ActivationsHaveBlocks}

-- where the block of a level with one room stands among those of all
pub record IsFirst (n : ℕ) (ls : List (List Slot)) (l block : ℕ) : Type 0 where
  pub before : ℕ
  pub start : slice_get (starts_of n ls) l ≡ Some (n + before)
  pub stands : slice_get (levels_rooms ls) before ≡ Some block

get_behind : (xs ys : List ℕ) (k : ℕ) → slice_get (xs ++ ys) (length xs + k) ≡ slice_get ys k
get_behind [] ys k = let none : List ℕ = [] in let e : length none + k ≡ k = omega arith in ap (slice_get ys) e
get_behind (x ∷ xs) ys k =
    let e : length (x ∷ xs) + k ≡ suc (length xs + k) = omega arith in
    ap (slice_get (x ∷ xs ++ ys)) e ∙ get_behind xs ys k

first_is : (n : ℕ) (ls : List (List Slot)) (l : ℕ) (r : _) → slice_get ls l ≡ Some (Room r ∷ []) → IsFirst n ls l r.block
first_is n [] l r e = absurd (cc)
first_is n (ss ∷ ls) zero r e =
    let is : ss ≡ Room r ∷ [] = cc in
    record { before = 0; start = ap Some (omega arith); stands = ap (λ zs. slice_get (level_rooms zs ++ levels_rooms ls) 0) is }
first_is n (ss ∷ ls) (suc l) r e =
    let k = length (level_rooms ss) in
    let rest = first_is (n + k) ls l r e in
    record {
      before = k + rest.before;
      start = rest.start ∙ ap Some (omega arith);
      stands = get_behind (level_rooms ss) (levels_rooms ls) rest.before ∙ rest.stands;
    }

module _ (p : Program) (n : Live) (w : State) (x : Rooms) (t : s.State) (st : Stands p n w x t) where
  level_sound : (ls : List (List Slot)) (l : ℕ) (ss : List Slot) → AreLevels (types_of p) n ls → slice_get ls l ≡ Some ss → IsLevel (types_of p) n ss
  level_sound [] l ss are e = absurd (cc)
  level_sound (ks ∷ ls) zero ss are e = let is : ks ≡ ss = cc in subst (IsLevel (types_of p) n) is are.0
  level_sound (ks ∷ ls) (suc l) ss are e = level_sound ls l ss are.1 e

  has_block : (y : Rooms) (ns : List Name) (h : Here) (here : m.Here) → AreRooms y x → IsHere p y ns h here → HasBlock p n w h
  has_block y ns h here are is =
      let at = are.levels h.level (Room is.room ∷ []) is.stands in
      let first = first_is 0 x.levels h.level is.room at in
      let room = (level_sound x.levels h.level (Room is.room ∷ []) (st.sound).levels at).0 in
      record {
        start = first.before;
        block = (is.room).block;
        level = ap (λ ls. slice_get ls h.level) st.levels ∙ first.start ∙ ap Some (omega arith);
        stands = ap (λ bs. slice_get bs first.before) st.blocks ∙ first.stands;
        long = subst (λ ds. total (types_of p) ds ≤ length (words_of n (is.room).block)) is.declared room.long;
      }

  -- what is beneath the cells of an activation
  under : (Rest : Rooms → List Name → Type 0) (Goal : Type 0) → ((z : Rooms) (ms : List Name) → AreRooms z x → Rest z ms → Goal) → (y : Rooms) (ns : List Name)
      → AreRooms y x → (h : Here) (here : m.Here) (zs : List Cell) (bs : List s.Cell) → AreCells p n Rest y ns h here zs bs → Goal
  under Rest Goal g y ns are h here [] [] cells = g y ns are cells.1
  under Rest Goal g y ns are h here [] (b ∷ bs) cells = absurd cells
  under Rest Goal g y ns are h here (a ∷ zs) [] cells = absurd cells
  under Rest Goal g y ns are h here (a ∷ zs) (b ∷ bs) cells =
      under Rest Goal g (rooms_under a y) (names_under a ns) (rooms_through (rooms_under a y) y x (rooms_beneath a y) are) (here_under a h)
      (here_beneath a b here) zs bs cells.2

  callers_have : (k : ℕ) (e : Caller) (zs : List Cell) (fs : List Caller) (gs : List s.Frame) → slice_get fs k ≡ Some e → (y : Rooms) (ns : List Name)
      → AreRooms y x → AreCallers p n zs fs gs y ns → HasBlock p n w e.here
  callers_have k e zs [] gs at y ns are callers = absurd (cc)
  callers_have k e zs (f ∷ fs) [] at y ns are callers = absurd callers
  callers_have zero e zs (f ∷ fs) (g ∷ gs) at y ns are callers =
      let is : f ≡ e = cc in
      subst (λ (f : Caller). HasBlock p n w f.here) is
      (has_block (before_level y f.level) (take f.dummies.from ns) f.here g.here (rooms_through (before_level y f.level) y x (rooms_before y f.level) are)
      (here_stands p n (AreCallers p n (take f.base zs) fs gs) (before_level y f.level) (take f.dummies.from ns) f.here g.here (cells_from f.base zs) g.stack callers.1))
  callers_have (suc k) e zs (f ∷ fs) (g ∷ gs) at y ns are callers =
      under (AreCallers p n (take f.base zs) fs gs) (HasBlock p n w e.here) (callers_have k e (take f.base zs) fs gs at)
      (before_level y f.level) (take f.dummies.from ns) (rooms_through (before_level y f.level) y x (rooms_before y f.level) are) f.here g.here
      (cells_from f.base zs) g.stack callers.1

pub activations_have_blocks : ActivationsHaveBlocks
activations_have_blocks p n w x t st =
    let fs = reverse w.callers.items.items in
    let Rest = AreCallers p n (beneath w) fs t.frames in
    let ns = w.names.items.items in (
      has_block p n w x t st x ns w.here t.here (rooms_same x) (here_stands p n Rest x ns w.here t.here (own w) t.stack st.stack),
      λ k f at. under p n w x t st Rest (HasBlock p n w f.here) (callers_have p n w x t st k f (beneath w) fs t.frames at) x ns (rooms_same x) w.here t.here
          (own w) t.stack st.stack,
    )
