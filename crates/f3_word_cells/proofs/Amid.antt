-- Amid an instruction: some cells were taken, others put on top, and blocks of values are in hand.
use Rattle.std.proofs.Common.{◌≡◌, ◌≢◌, ◌∙◌, inl, inr, ℕ, ◌+◌, ◌<◌, ◌≤◌, ℤ, List, [], ◌∷◌, ◌++◌, length, drop, reverse, is_some, refl, sym, ap, subst, arith}
use Rattle.std.specs.Prelude.{None}
use Rattle.std.specs.FinMap.{get as find, remove}
use Rattle.std.proofs.lemmas.Bool.{cases_eq, cases_lt, ne_eqb, eq-eqb}
use Rattle.f3_program.specs.declared.program.Program.{Program}
use Rattle.f3_live_blocks.specs.Blocks.{Live, IsLive, pins_of, pins_in, with_taken, with_words}
use Rattle.f3_live_blocks.proofs.Laws.{get-insert_other, get-remove_same, get-remove_other, live-insert_same, live-insert, fresh-apart, pins-insert_same, pins-insert_other, pins-remove_other}
use Rattle.f3_meaning_whole.specs.Ran.{World}
use Rattle.f3_meaning_whole.specs.Store.{Store}
use Rattle.f3_meaning_whole.specs.Act as act
use Rattle.f3_code.specs.State as s
use Rattle.f3_cell_kinds.specs.Types.{CellType}
use Rattle.f3_cell_kinds.specs.Laws.{site_at}
use Rattle.f3_rooms.specs.Held.{times}
use Rattle.f3_rooms.specs.Rooms.{Rooms, blocks_of, store_of}
use Rattle.f3_rooms.specs.Sound.{IsSound}
use Rattle.f3_rooms.proofs.Framing.{Kept, times_append}
use Rattle.f3_rooms.proofs.Living.{all_live}
use Rattle.f3_rooms.proofs.Keeping.{as_it_was, store_stays, rooms_persist}
use Rattle.f3_word_cells.specs.declared.cell.Here.{Here}
use Rattle.f3_word_cells.specs.declared.cell.Cell.{Cell}
use Rattle.f3_word_cells.specs.declared.state.Name.{Name}
use Rattle.f3_word_cells.specs.declared.state.State.{State}
use Rattle.f3_word_cells.specs.Areas.{types_of}
use Rattle.f3_word_cells.specs.Cells.{AreCells, IsCell, IsHere}
use Rattle.f3_word_cells.specs.States.{AreAtHand, AreCalled, AreKnown, AreTight, IsKnown, IsOrderly, Stands, beneath, cell_blocks, cells_blocks, loose_blocks, own}
use Rattle.f3_word_cells.specs.Moves.{IsSame, Moved, Popped, Pushed}
use Rattle.f3_word_cells.proofs.Stacks.{cells_blocks_reverse, cells_blocks_split}
use Rattle.f3_word_cells.proofs.Within.{rehere}
use Rattle.f3_word_cells.proofs.Known.{known_popped, known_pushed}
use Rattle.f3_word_cells.proofs.Flat.{IsFlat, flat_above, flat_under}
use Rattle.f3_word_cells.proofs.Staying.{callers_stay, cells_stay}
use Rattle.f3_word_cells.proofs.Orderly.{IsAfter, IsFlatCell, flat_cell, hand_flat, hand_named, in_scope, orderly_so, tight_flat}
use Rattle.f3_word_cells.proofs.Moving.{Beneath, IsSameElse, moved_to, stands_so}

-- how often a block is one of a value on a stack
abbrev pub uses : State → ℕ → ℕ
uses w q = times q (cells_blocks w.cells.items.items)

-- Amid an instruction that began in a state `old`, for one `t` of the machine over values: now these are the blocks, this the state in memory,
-- these the cells of the activation and their types, and this the store; and blocks of values are in hand, which are on no stack.
pub record Amid (p : Program) (t : s.State) (n : Live) (old now : State) (x : Rooms) (ks : List CellType) (stack : List s.Cell) (store : Store)
    (hand : List ℕ) : Type 0 where
  pub same : IsSameElse old now
  pub here : now.here ≡ old.here
  pub sound : IsSound (types_of p) n x
  pub is : store ≡ store_of (types_of p) n x
  pub known : AreKnown p ks (own now)
  pub cells : AreCells p n (Beneath p n old t.frames) x old.names.items.items old.here t.here (own now) stack
  pub orderly : IsOrderly p t.pc (length old.names.items.items) old.here (own now)
  pub tight : AreTight (AreCalled p (beneath old) (reverse old.callers.items.items)) x.levels (length old.names.items.items) (own now)
  pub once : (q : ℕ) → times q (blocks_of x) + (uses now q + times q hand) ≤ 1
  pub all : (q : ℕ) → IsLive n q → 0 < times q (blocks_of x) + (uses now q + times q hand)
  pub live : (q : ℕ) → 0 < uses now q + times q hand → IsLive n q
  pub unpinned : (q : ℕ) → pins_of n q ≡ 0

-- ---- the beginning and the end

uses_is : (x : Rooms) (w : State) (q : ℕ) → times q (blocks_of x ++ loose_blocks w) ≡ times q (blocks_of x) + uses w q
uses_is x w q = times_append q (blocks_of x) (loose_blocks w)

-- no block is in hand
pub amid_first : (p : Program) (t : s.State) (m : Live) (old : State) (x : Rooms) (ks : List CellType) (stack : List s.Cell) → Stands p m old x t
    → (site_at p t.pc).cells ≡ ks → t.stack ≡ stack → Amid p t m old old x ks stack t.world.store []
amid_first p t m old x ks stack st kinds e = record {
  same = record { names = refl; callers = refl; statics = refl; blocks = refl; levels = refl; beneath = refl; bottom = λ h. h };
  here = refl;
  sound = st.sound;
  is = st.store;
  known = subst (λ (ts : List CellType). AreKnown p ts (own old)) kinds st.known;
  cells = subst (λ (bs : List s.Cell). AreCells p m (Beneath p m old t.frames) x old.names.items.items old.here t.here (own old) bs) e st.stack;
  orderly = subst (λ (k : ℕ). IsOrderly p k (length old.names.items.items) old.here (own old)) refl st.orderly;
  tight = st.tight;
  once = λ q. let one = st.once q in let e = uses_is x old q in omega (arith, one, e);
  all = λ q alive. let some = st.all q alive in let e = uses_is x old q in omega (arith, some, e);
  live = λ q some. st.live q (omega (arith, some));
  unpinned = st.unpinned;
}

-- all blocks in hand are on a stack again, or gone; the line and the activation may be others, of the same scope
pub amid_last_in : (p : Program) (t : s.State) (m n : Live) (old now : State) (x : Rooms) (ks : List CellType) (pc : ℕ) (stack : List s.Cell) (here : act.Here)
    (world : World) → Stands p m old x t → Amid p t n old now x ks stack world.store [] → IsAfter p t.pc pc ks
    → (h : Here) → h.names ≡ old.here.names → ((y : Rooms) (ms : List Name) → IsHere p y ms old.here t.here → IsHere p y ms h here)
    → Stands p n (record now { pc = pc; here = h }) x (moved_to t pc stack here world)
amid_last_in p t m n old now x ks pc stack here world st amid after h named there =
    let same = amid.same in
    stands_so p m n old (record now { pc = pc; here = h }) x t pc stack here world st (record {
      same = record {
        names = same.names;
        callers = same.callers;
        statics = same.statics;
        blocks = same.blocks;
        levels = same.levels;
        beneath = same.beneath;
        bottom = same.bottom;
      };
      line = refl;
      sound = amid.sound;
      store = amid.is;
      known = subst (λ (ts : List CellType). AreKnown p ts (own now)) (sym after.cells) amid.known;
      cells = rehere p n (Beneath p n old t.frames) old.here h t.here here there x old.names.items.items (own now) stack amid.cells;
      orderly = orderly_so p t.pc pc (length old.names.items.items) old.here h (own now) (own now) ks after
          (hand_named (length old.names.items.items) old.here h (own now) named) amid.orderly;
      tight = amid.tight;
      once = λ q. let one = amid.once q in let e = uses_is x now q in omega (arith, one, e);
      all = λ q alive. let some = amid.all q alive in let e = uses_is x now q in omega (arith, some, e);
      live = λ q some. amid.live q (omega (arith, some));
      unpinned = amid.unpinned;
    })

pub amid_last : (p : Program) (t : s.State) (m n : Live) (old now : State) (x : Rooms) (ks : List CellType) (pc : ℕ) (stack : List s.Cell) (world : World)
    → Stands p m old x t → Amid p t n old now x ks stack world.store [] → IsAfter p t.pc pc ks → pc ≡ now.pc
    → Stands p n now x (moved_to t pc stack t.here world)
amid_last p t m n old now x ks pc stack world st amid after line =
    stands_so p m n old now x t pc stack t.here world st (record {
      same = amid.same;
      line = line;
      sound = amid.sound;
      store = amid.is;
      known = subst (λ (ts : List CellType). AreKnown p ts (own now)) (sym after.cells) amid.known;
      cells = subst (λ (h : Here). AreCells p n (Beneath p n old t.frames) x old.names.items.items h t.here (own now) stack) (sym amid.here) amid.cells;
      orderly = subst (λ (h : Here). IsOrderly p pc (length old.names.items.items) h (own now)) (sym amid.here)
          (orderly_so p t.pc pc (length old.names.items.items) old.here old.here (own now) (own now) ks after (λ a. a) amid.orderly);
      tight = amid.tight;
      once = λ q. let one = amid.once q in let e = uses_is x now q in omega (arith, one, e);
      all = λ q alive. let some = amid.all q alive in let e = uses_is x now q in omega (arith, some, e);
      live = λ q some. amid.live q (omega (arith, some));
      unpinned = amid.unpinned;
    })

-- ---- cells

-- a cell of no construct went, or came
beneath_flat : (p : Program) (pc : ℕ) (old mid now : State) (c : Cell) → IsFlatCell c → own mid ≡ c ∷ own now
    → IsOrderly p pc (length old.names.items.items) old.here (own mid) → IsOrderly p pc (length old.names.items.items) old.here (own now)
beneath_flat p pc old mid now c level e are =
    let n = length old.names.items.items in
    in_scope p.types.items (λ o. AreAtHand n old.here (c ∷ own now)) (λ o. AreAtHand n old.here (own now)) (site_at p pc).scope
    (λ o. subst (λ (A : Type 0). A) (hand_flat n old.here c (own now) level)) (subst (λ (cs : List Cell). IsOrderly p pc n old.here cs) e are)

above_flat : (p : Program) (pc : ℕ) (old mid now : State) (c : Cell) → IsFlatCell c → own now ≡ c ∷ own mid
    → IsOrderly p pc (length old.names.items.items) old.here (own mid) → IsOrderly p pc (length old.names.items.items) old.here (own now)
above_flat p pc old mid now c level e are =
    let n = length old.names.items.items in
    subst (λ (cs : List Cell). IsOrderly p pc n old.here cs) (sym e)
    (in_scope p.types.items (λ o. AreAtHand n old.here (own mid)) (λ o. AreAtHand n old.here (c ∷ own mid)) (site_at p pc).scope
    (λ o. subst (λ (A : Type 0). A) (sym (hand_flat n old.here c (own mid) level))) are)

same_then : {a b c : State} → IsSameElse a b → IsSame b c → IsSameElse a c
same_then g h = record {
  names = h.names ∙ g.names;
  callers = h.callers ∙ g.callers;
  statics = h.statics ∙ g.statics;
  blocks = h.blocks ∙ g.blocks;
  levels = h.levels ∙ g.levels;
  beneath = h.beneath ∙ g.beneath;
  bottom = λ k. h.bottom (g.bottom k);
}

-- there is a cell where the machine over values has one
pub amid_some : (p : Program) (t : s.State) (n : Live) (old now : State) (x : Rooms) (ks : List CellType) (b : s.Cell) (below : List s.Cell) (store : Store)
    (hand : List ℕ) → Amid p t n old now x ks (b ∷ below) store hand → own now ≡ [] → ⊥
amid_some p t n old now x ks b below store hand amid e =
    subst (λ (cs : List Cell). AreCells p n (Beneath p n old t.frames) x old.names.items.items old.here t.here cs (b ∷ below)) e amid.cells

-- a cell is taken, and its block is in hand
pub amid_popped : (p : Program) (t : s.State) (n : Live) (old mid now : State) (x : Rooms) (k : CellType) (ks : List CellType) (b : s.Cell)
    (below : List s.Cell) (store : Store) (hand : List ℕ) (c : Cell) → Amid p t n old mid x (k ∷ ks) (b ∷ below) store hand → Popped c mid now → IsFlat b
    → IsCell p x n old.names.items.items c b × IsKnown p k c × Amid p t n old now x ks below store (cell_blocks c ++ hand)
amid_popped p t n old mid now x k ks b below store hand c amid popped flat =
    let Rest : Rooms → List Name → Type 0 = Beneath p n old t.frames in
    let cells : AreCells p n Rest x old.names.items.items old.here t.here (c ∷ own now) (b ∷ below) =
    subst (λ (cs : List Cell). AreCells p n Rest x old.names.items.items old.here t.here cs (b ∷ below)) popped.cells amid.cells in
    let known = known_popped p k ks c mid now amid.known popped in
    let level = flat_cell p x n old.names.items.items c b cells.0 flat in (
      cells.0,
      known.0,
      record {
        same = same_then amid.same popped.same;
        here = popped.same.here ∙ amid.here;
        sound = amid.sound;
        is = amid.is;
        known = known.1;
        cells = flat_under p n (λ y ms h here. AreCells p n Rest y ms h here (own now) below) x old.names.items.items old.here t.here c b cells.0 flat cells.2;
        orderly = beneath_flat p t.pc old mid now c level popped.cells amid.orderly;
        tight = subst (λ (A : Type 0). A) (tight_flat (AreCalled p (beneath old) (reverse old.callers.items.items)) x.levels (length old.names.items.items) c (own now) level)
            (subst (λ (cs : List Cell). AreTight (AreCalled p (beneath old) (reverse old.callers.items.items)) x.levels (length old.names.items.items) cs) popped.cells amid.tight);
        once = λ q. let one = amid.once q in let e = popped.blocks q in let g = times_append q (cell_blocks c) hand in omega (arith, one, e, g);
        all = λ q alive. let some = amid.all q alive in let e = popped.blocks q in let g = times_append q (cell_blocks c) hand in omega (arith, some, e, g);
        live = λ q some. amid.live q (let e = popped.blocks q in let g = times_append q (cell_blocks c) hand in omega (arith, some, e, g));
        unpinned = amid.unpinned;
      },
    )

-- a cell is put on top, with a block in hand, where it has one
pub amid_pushed : (p : Program) (t : s.State) (n : Live) (old mid now : State) (x : Rooms) (k : CellType) (ks : List CellType) (b : s.Cell)
    (below : List s.Cell) (store : Store) (hand : List ℕ) (c : Cell) (to : ℕ) → Amid p t n old mid x ks below store (cell_blocks c ++ hand) → Pushed c to mid now
    → IsFlat b → IsCell p x n old.names.items.items c b → IsKnown p k c → Amid p t n old now x (k ∷ ks) (b ∷ below) store hand
amid_pushed p t n old mid now x k ks b below store hand c to amid pushed flat is shape =
    let Rest : Rooms → List Name → Type 0 = Beneath p n old t.frames in
    let above = flat_above p n (λ y ms h here. AreCells p n Rest y ms h here (own mid) below) x old.names.items.items old.here t.here c b is flat in
    let level = flat_cell p x n old.names.items.items c b is flat in
    record {
      same = same_then amid.same pushed.same;
      here = pushed.same.here ∙ amid.here;
      sound = amid.sound;
      is = amid.is;
      known = known_pushed p k ks c to mid now amid.known pushed shape;
      cells = subst (λ (cs : List Cell). AreCells p n Rest x old.names.items.items old.here t.here cs (b ∷ below)) (sym pushed.cells)
          (is, above.0, above.1 amid.cells);
      orderly = above_flat p t.pc old mid now c level pushed.cells amid.orderly;
      tight = subst (λ (cs : List Cell). AreTight (AreCalled p (beneath old) (reverse old.callers.items.items)) x.levels (length old.names.items.items) cs) (sym pushed.cells)
          (subst (λ (A : Type 0). A) (sym (tight_flat (AreCalled p (beneath old) (reverse old.callers.items.items)) x.levels (length old.names.items.items) c (own mid) level)) amid.tight);
      once = λ q. let one = amid.once q in let e = pushed.blocks q in let g = times_append q (cell_blocks c) hand in omega (arith, one, e, g);
      all = λ q alive. let some = amid.all q alive in let e = pushed.blocks q in let g = times_append q (cell_blocks c) hand in omega (arith, some, e, g);
      live = λ q some. amid.live q (let e = pushed.blocks q in let g = times_append q (cell_blocks c) hand in omega (arith, some, e, g));
      unpinned = amid.unpinned;
    }

-- another line
pub amid_line : (p : Program) (t : s.State) (n : Live) (old now : State) (x : Rooms) (ks : List CellType) (stack : List s.Cell) (store : Store) (hand : List ℕ) (pc : ℕ)
    → Amid p t n old now x ks stack store hand → Amid p t n old (record now { pc = pc }) x ks stack store hand
amid_line p t n old now x ks stack store hand pc amid =
    let same = amid.same in
    record {
      same = record {
        names = same.names;
        callers = same.callers;
        statics = same.statics;
        blocks = same.blocks;
        levels = same.levels;
        beneath = same.beneath;
        bottom = same.bottom;
      };
      here = amid.here;
      sound = amid.sound;
      is = amid.is;
      known = amid.known;
      cells = amid.cells;
      orderly = amid.orderly;
      tight = amid.tight;
      once = amid.once;
      all = amid.all;
      live = amid.live;
      unpinned = amid.unpinned;
    }

pub amid_moved : (p : Program) (t : s.State) (n : Live) (old mid now : State) (x : Rooms) (ks : List CellType) (stack : List s.Cell) (store : Store) (hand : List ℕ) (pc : ℕ)
    → Amid p t n old mid x ks stack store hand → Moved pc mid now → Amid p t n old now x ks stack store hand
amid_moved p t n old mid now x ks stack store hand pc amid moved =
    subst (λ (w : State). Amid p t n old w x ks stack store hand) (sym moved.is) (amid_line p t n old mid x ks stack store hand pc amid)

-- ---- blocks

times_same : (b : ℕ) (bs : List ℕ) → times b (b ∷ bs) ≡ 1 + times b bs
times_same b bs = rw (eq-eqb b b refl) refl

times_other : (q b : ℕ) (bs : List ℕ) → q ≢ b → times q (b ∷ bs) ≡ times q bs
times_other q b bs ne = rw (ne_eqb q b ne) (omega arith)

module _ (p : Program) (t : s.State) (n : Live) (old now : State) (x : Rooms) (ks : List CellType) (stack : List s.Cell) (store : Store) (hand : List ℕ)
    (amid : Amid p t n old now x ks stack store hand) where
  -- what is beneath is on the stack, and what the activation has
  under : (q : ℕ) → times q (cells_blocks (beneath old)) ≤ times q (cells_blocks now.cells.items.items)
  under q =
      let e : times q (cells_blocks (beneath now)) ≡ times q (cells_blocks (beneath old)) = ap (λ cs. times q (cells_blocks cs)) amid.same.beneath in
      let f = cells_blocks_split q now.base now.cells.items.items in
      omega (arith, e, f)

  above : (q : ℕ) → times q (cells_blocks (own now)) ≤ times q (cells_blocks now.cells.items.items)
  above q =
      let e = cells_blocks_reverse q (drop now.base now.cells.items.items) in
      let f = cells_blocks_split q now.base now.cells.items.items in
      omega (arith, e, f)

  -- Blocks change, and those in hand; but what values on the stack are does not.
  pub amid_so : (o : Live) (others : List ℕ) (stored : Store) → Kept n o (cells_blocks now.cells.items.items) → IsSound (types_of p) o x
      → stored ≡ store_of (types_of p) o x → ((q : ℕ) → times q (blocks_of x) + (uses now q + times q others) ≤ 1)
      → ((q : ℕ) → IsLive o q → 0 < times q (blocks_of x) + (uses now q + times q others)) → ((q : ℕ) → 0 < uses now q + times q others → IsLive o q)
      → ((q : ℕ) → pins_of o q ≡ 0) → Amid p t o old now x ks stack stored others
  amid_so o others stored kept sound is once all live unpinned = record {
    same = amid.same;
    here = amid.here;
    sound = sound;
    is = is;
    known = amid.known;
    cells = cells_stay p n o (Beneath p n old t.frames) (Beneath p o old t.frames)
        (callers_stay p n o (beneath old) (reverse old.callers.items.items) t.frames (λ q some. kept q (let e = under q in omega (arith, e, some))))
        x old.names.items.items old.here t.here (own now) stack (λ q some. kept q (let e = above q in omega (arith, e, some))) amid.cells;
    orderly = amid.orderly;
    tight = amid.tight;
    once = once;
    all = all;
    live = live;
    unpinned = unpinned;
  }

  -- blocks that are in use stay, and the store with them
  amid_stays : (o : Live) (others : List ℕ) → ((q : ℕ) → 0 < times q (blocks_of x) + times q (cells_blocks now.cells.items.items) → find o q ≡ find n q)
      → ((q : ℕ) → times q (blocks_of x) + (uses now q + times q others) ≤ 1)
      → ((q : ℕ) → IsLive o q → 0 < times q (blocks_of x) + (uses now q + times q others)) → ((q : ℕ) → 0 < uses now q + times q others → IsLive o q)
      → ((q : ℕ) → pins_of o q ≡ 0) → Amid p t o old now x ks stack store others
  amid_stays o others same once all live unpinned =
      let rooms : Kept n o (blocks_of x) = λ q some. as_it_was n o q (same q (omega arith)) in
      amid_so o others store (λ q some. as_it_was n o q (same q (omega arith))) (rooms_persist (types_of p) n o x amid.sound rooms)
      (amid.is ∙ sym (store_stays (types_of p) n o x rooms)) once all live unpinned

  -- a block that is not live is in no use
  no_room : (b : ℕ) → find n b ≡ None → times b (blocks_of x) ≡ 0
  no_room b none = elim (cases_lt 0 (times b (blocks_of x))) [
    | inl some ↦ absurd (fresh-apart n b b none (all_live (types_of p) n x amid.sound b some) refl)
    | inr few ↦ omega arith
  ]

  not_loose : (b : ℕ) → find n b ≡ None → uses now b + times b hand ≡ 0
  not_loose b none = elim (cases_lt 0 (uses now b + times b hand)) [
    | inl some ↦ absurd (fresh-apart n b b none (amid.live b some) refl)
    | inr few ↦ omega arith
  ]

  unused_at : (b : ℕ) → find n b ≡ None → times b (blocks_of x) + (uses now b + times b hand) ≡ 0
  unused_at b none = let e = no_room b none in let f = not_loose b none in omega (arith, e, f)

  -- a new block of zeros is taken, and is in hand
  pub amid_taken : (b k : ℕ) → find n b ≡ None → Amid p t (with_taken n b k) old now x ks stack store (b ∷ hand)
  amid_taken b k none =
      let dead : (q : ℕ) → IsLive n q → q ≢ b = λ q alive. fresh-apart n b q none alive in
      let unused : times b (blocks_of x) + (uses now b + times b hand) ≡ 0 = unused_at b none in
      amid_stays (with_taken n b k) (b ∷ hand)
      (λ q some. get-insert_other n b _ q (λ e. let f = ap (λ j. times j (blocks_of x) + times j (cells_blocks now.cells.items.items)) e in omega (arith, some, f, unused)))
      (λ q. elim (cases_eq q b) [
        | inl e ↦ subst (λ j. times j (blocks_of x) + (uses now j + times j (b ∷ hand)) ≤ 1) (sym e) (let f = times_same b hand in omega (arith, f, unused))
        | inr ne ↦ let f = times_other q b hand ne in let one = amid.once q in omega (arith, f, one)
      ])
      (λ q alive. elim (cases_eq q b) [
        | inl e ↦ subst (λ j. 0 < times j (blocks_of x) + (uses now j + times j (b ∷ hand))) (sym e) (let f = times_same b hand in omega (arith, f))
        | inr ne ↦ let f = times_other q b hand ne in let some = amid.all q (ap is_some (sym (get-insert_other n b _ q ne)) ∙ alive) in omega (arith, f, some)
      ])
      (λ q some. elim (cases_eq q b) [
        | inl e ↦ subst (λ j. IsLive (with_taken n b k) j) (sym e) (live-insert_same n b _)
        | inr ne ↦ live-insert n b _ q (amid.live q (let f = times_other q b hand ne in omega (arith, f, some)))
      ])
      (λ q. elim (cases_eq q b) [
        | inl e ↦ subst (λ j. pins_of (with_taken n b k) j ≡ 0) (sym e) (pins-insert_same n b _)
        | inr ne ↦ pins-insert_other n b _ q ne ∙ amid.unpinned q
      ])

  -- words are written in rooms
  pub amid_put : (o : Live) (stored : Store) → IsSound (types_of p) o x → stored ≡ store_of (types_of p) o x
      → ((q : ℕ) → times q (blocks_of x) ≡ 0 → find o q ≡ find n q) → ((q : ℕ) → IsLive o q → IsLive n q) → ((q : ℕ) → pins_of o q ≡ pins_of n q)
      → Amid p t o old now x ks stack stored hand
  amid_put o stored sound is elsewhere fewer pins =
      let loose : (q : ℕ) → 0 < uses now q + times q hand → times q (blocks_of x) ≡ 0 = λ q some. let one = amid.once q in omega (arith, some, one) in
      amid_so o hand stored (λ q some. as_it_was n o q (elsewhere q (loose q (omega arith)))) sound is amid.once
      (λ q alive. amid.all q (fewer q alive)) (λ q some. ap is_some (elsewhere q (loose q some)) ∙ amid.live q some) (λ q. pins q ∙ amid.unpinned q)

-- ---- the block that is first in hand

module _ (p : Program) (t : s.State) (n : Live) (old now : State) (x : Rooms) (ks : List CellType) (stack : List s.Cell) (store : Store) (b : ℕ) (hand : List ℕ)
    (amid : Amid p t n old now x ks stack store (b ∷ hand)) where
  -- it is in no other use
  pub hand_alone : times b (blocks_of x) + (uses now b + times b hand) ≡ 0
  hand_alone = let one = amid.once b in let e = times_same b hand in omega (arith, one, e)

  pub hand_live : IsLive n b
  hand_live = amid.live b (let e = times_same b hand in omega (arith, e))

  aside : (q : ℕ) → 0 < times q (blocks_of x) + times q (cells_blocks now.cells.items.items) → q ≢ b
  aside q some = λ e. let f : times q (blocks_of x) + times q (cells_blocks now.cells.items.items) ≡ times b (blocks_of x) + times b (cells_blocks now.cells.items.items) =
      ap (λ j. times j (blocks_of x) + times j (cells_blocks now.cells.items.items)) e in
      let g = hand_alone in absurd (omega (arith, some, f, g))

  -- it is given back
  pub amid_gone : Amid p t (remove n b) old now x ks stack store hand
  amid_gone =
      amid_stays p t n old now x ks stack store (b ∷ hand) amid (remove n b) hand
      (λ q some. get-remove_other n b q (aside q some))
      (λ q. let one = amid.once q in omega (arith, one))
      (λ q alive. elim (cases_eq q b) [
        | inl e ↦ absurd (fresh-apart (remove n b) b b (get-remove_same n b) (subst (λ j. IsLive (remove n b) j) e alive) refl)
        | inr ne ↦ let f = times_other q b hand ne in let some = amid.all q (ap is_some (sym (get-remove_other n b q ne)) ∙ alive) in omega (arith, f, some)
      ])
      (λ q some. elim (cases_eq q b) [
        | inl e ↦ absurd (let f : uses now q + times q hand ≡ uses now b + times b hand = ap (λ j. uses now j + times j hand) e in let g = hand_alone in omega (arith, f, g, some))
        | inr ne ↦ ap is_some (get-remove_other n b q ne) ∙ amid.live q (let f = times_other q b hand ne in omega (arith, f, some))
      ])
      (λ q. elim (cases_eq q b) [
        | inl e ↦ subst (λ j. pins_of (remove n b) j ≡ 0) (sym e) (ap pins_in (get-remove_same n b))
        | inr ne ↦ pins-remove_other n b q ne ∙ amid.unpinned q
      ])

  -- only its words change
  pub amid_changed : (o : Live) → ((q : ℕ) → q ≢ b → find o q ≡ find n q) → IsLive o b → pins_of o b ≡ 0 → Amid p t o old now x ks stack store (b ∷ hand)
  amid_changed o other alive_there pins =
      amid_stays p t n old now x ks stack store (b ∷ hand) amid o (b ∷ hand)
      (λ q some. other q (aside q some))
      amid.once
      (λ q alive. elim (cases_eq q b) [
        | inl e ↦ amid.all q (subst (λ j. IsLive n j) (sym e) hand_live)
        | inr ne ↦ amid.all q (ap is_some (sym (other q ne)) ∙ alive)
      ])
      (λ q some. elim (cases_eq q b) [
        | inl e ↦ subst (λ j. IsLive o j) (sym e) alive_there
        | inr ne ↦ ap is_some (other q ne) ∙ amid.live q some
      ])
      (λ q. elim (cases_eq q b) [
        | inl e ↦ subst (λ j. pins_of o j ≡ 0) (sym e) pins
        | inr ne ↦ ap pins_in (other q ne) ∙ amid.unpinned q
      ])

  pub amid_written : (ws : List ℤ) → Amid p t (with_words n b ws) old now x ks stack store (b ∷ hand)
  amid_written ws =
      amid_changed (with_words n b ws) (λ q ne. get-insert_other n b _ q ne) (live-insert_same n b _) (pins-insert_same n b _ ∙ amid.unpinned b)
