-- Levels that end.
use Rattle.std.proofs.Common.{◌≡◌, ◌∙◌, ℕ, zero, suc, ◌+◌, ◌<◌, ◌≤◌, List, [], ◌∷◌, ◌++◌, length, reverse, take, drop, is_some, append_assoc, refl, sym, ap, inl, inr, arith}
use Rattle.std.specs.Prelude.{slice_index_or}
use Rattle.std.specs.FinMap.{get as find}
use Rattle.std.proofs.lemmas.Bool.{cases_lt}
use Rattle.std.proofs.lemmas.List.{drop-append-le, length-append, take-append-le}
use Rattle.f3_places.specs.declared.source.Place.{Place}
use Rattle.f3_program.specs.declared.declarations.Derived.{Derived}
use Rattle.f3_program.specs.declared.declarations.Kind.{Kind}
use Rattle.f3_program.specs.declared.program.Program.{Program}
use Rattle.f3_live_blocks.specs.Blocks.{Live, IsLive, pins_in}
use Rattle.f3_live_blocks.proofs.Laws.{fresh-apart}
use Rattle.f3_meaning_whole.specs.Act as m
use Rattle.f3_meaning_whole.specs.Store.{Store}
use Rattle.f3_code.specs.State as s
use Rattle.f3_cell_kinds.specs.Types.{Around, CellType, Scope, Site}
use Rattle.f3_cell_kinds.specs.Holds.{Stand}
use Rattle.f3_cell_kinds.specs.Laws.{site_at}
use Rattle.f3_rooms.specs.Held.{blocks_in_all, times}
use Rattle.f3_rooms.specs.Laws.{Keeps, before_level}
use Rattle.f3_rooms.specs.Rooms.{Known, Rooms, Slot, Stands as Room, blocks_of, level_blocks, levels_blocks, room_blocks}
use Rattle.f3_rooms.proofs.Framing.{Kept, times_append}
use Rattle.f3_rooms.proofs.Keeping.{as_it_was}
use Rattle.f3_rooms.proofs.Levels.{levels_end}
use Rattle.f3_rooms.proofs.Living.{all_live as are_live}
use Rattle.f3_word_cells.specs.declared.cell.Here.{Here}
use Rattle.f3_word_cells.specs.declared.cell.Cell.{Cell}
use Rattle.f3_word_cells.specs.declared.cell.Cell.TheVariants as c
use Rattle.f3_word_cells.specs.declared.state.Name.{Name}
use Rattle.f3_word_cells.specs.declared.state.State.{State}
use Rattle.f3_word_cells.specs.Areas.{types_of}
use Rattle.f3_word_cells.specs.Cells.{AreCells, IsCell, here_beneath, here_under, names_under, rooms_under}
use Rattle.f3_word_cells.specs.States.{AreBare, AreCalled, AreKnown, AreTight, IsBareLevel, IsOrderly, Stands, beneath, cells_blocks, level_rooms, levels_rooms, loose_blocks, own, starts_of}
use Rattle.f3_word_cells.proofs.Moving.{Beneath}
use Rattle.f3_word_calls.specs.Gone.{Gone, MayGo, first_block}

drop_all : {A : Type 0} (k : ℕ) (xs : List A) → length xs ≤ k → drop k xs ≡ []
drop_all zero [] h = refl
drop_all zero (x ∷ xs) h = absurd (omega (arith, h))
drop_all (suc k) [] h = refl
drop_all (suc k) (x ∷ xs) h = drop_all k xs (omega (arith, h))

take_all : {A : Type 0} (k : ℕ) (xs : List A) → length xs ≤ k → take k xs ≡ xs
take_all zero [] h = refl
take_all zero (x ∷ xs) h = absurd (omega (arith, h))
take_all (suc k) [] h = refl
take_all (suc k) (x ∷ xs) h = ap (λ ys. x ∷ ys) (take_all k xs (omega (arith, h)))

-- ---- levels and their blocks

rooms_split : (k : ℕ) (ls : List (List Slot)) → levels_rooms ls ≡ levels_rooms (take k ls) ++ levels_rooms (drop k ls)
rooms_split zero ls = refl
rooms_split (suc k) [] = refl
rooms_split (suc k) (l ∷ ls) =
    ap (λ bs. level_rooms l ++ bs) (rooms_split k ls) ∙ sym (append_assoc (level_rooms l) (levels_rooms (take k ls)) (levels_rooms (drop k ls)))

starts_take : (n k : ℕ) (ls : List (List Slot)) → take k (starts_of n ls) ≡ starts_of n (take k ls)
starts_take n zero ls = refl
starts_take n (suc k) [] = refl
starts_take n (suc k) (l ∷ ls) = ap (λ ns. n ∷ ns) (starts_take (n + length (level_rooms l)) k ls)

starts_at : (n k z : ℕ) (ls : List (List Slot)) → z ≡ n + length (levels_rooms ls) → slice_index_or (starts_of n ls) k z ≡ n + length (levels_rooms (take k ls))
starts_at n zero z [] e = e
starts_at n (suc k) z [] e = e
starts_at n zero z (l ∷ ls) e = omega arith
starts_at n (suc k) z (l ∷ ls) e =
    let f = length-append (level_rooms l) (levels_rooms ls) in
    let g = length-append (level_rooms l) (levels_rooms (take k ls)) in
    let h = starts_at (n + length (level_rooms l)) k z ls (omega (arith, e, f)) in
    h ∙ omega (arith, g)

bare_level : (ss : List Slot) → IsBareLevel ss → level_blocks ss ≡ level_rooms ss
bare_level [] bare = refl
bare_level (Known v ∷ ss) bare = bare_level ss bare.1
bare_level (Room r ∷ ss) bare =
    ap (λ h. (r.block ∷ blocks_in_all h) ++ level_blocks ss) bare.0 ∙ ap (λ bs. r.block ∷ bs) (bare_level ss bare.1)

pub bare_levels : (ls : List (List Slot)) → AreBare ls → levels_blocks ls ≡ levels_rooms ls
bare_levels [] bare = refl
bare_levels (l ∷ ls) bare =
    ap (λ bs. bs ++ levels_blocks ls) (bare_level l bare.0) ∙ ap (λ bs. level_rooms l ++ bs) (bare_levels ls bare.1)

bare_take : (k : ℕ) (ls : List (List Slot)) → AreBare ls → AreBare (take k ls)
bare_take zero ls bare = tt
bare_take (suc k) [] bare = tt
bare_take (suc k) (l ∷ ls) bare = (bare.0, bare_take k ls bare.1)

module _ (x : Rooms) (bare : AreBare x.levels) (k : ℕ) where
  blocks_before : (q : ℕ) → times q (blocks_of x) ≡ times q (blocks_of (before_level x k)) + times q (levels_rooms (drop k x.levels))
  blocks_before q =
      let a = times_append q (room_blocks x.statics) (levels_blocks x.levels) in
      let b = times_append q (room_blocks x.statics) (levels_blocks (take k x.levels)) in
      let d : times q (levels_blocks x.levels) ≡ times q (levels_rooms x.levels) = ap (times q) (bare_levels x.levels bare) in
      let e : times q (levels_blocks (take k x.levels)) ≡ times q (levels_rooms (take k x.levels)) = ap (times q) (bare_levels (take k x.levels) (bare_take k x.levels bare)) in
      let f : times q (levels_rooms x.levels) ≡ times q (levels_rooms (take k x.levels) ++ levels_rooms (drop k x.levels)) = ap (times q) (rooms_split k x.levels) in
      let g = times_append q (levels_rooms (take k x.levels)) (levels_rooms (drop k x.levels)) in
      omega (arith, a, b, d, e, f, g)

module _ (p : Program) (m : Live) (old : State) (x : Rooms) (t : s.State) (st : Stands p m old x t) (k : ℕ) where
  abbrev pub first : ℕ
  first = first_block old.levels.items.items old.blocks.items.items k

  first_is : first ≡ length (levels_rooms (take k x.levels))
  first_is =
      let z : length old.blocks.items.items ≡ 0 + length (levels_rooms x.levels) = ap length st.blocks ∙ omega arith in
      ap (λ ls. slice_index_or ls k (length old.blocks.items.items)) st.levels ∙ starts_at 0 k (length old.blocks.items.items) x.levels z ∙ omega arith

  split_blocks : old.blocks.items.items ≡ levels_rooms (take k x.levels) ++ levels_rooms (drop k x.levels)
  split_blocks = st.blocks ∙ rooms_split k x.levels

  pub blocks_left : take first old.blocks.items.items ≡ levels_rooms (take k x.levels)
  blocks_left =
      let a = levels_rooms (take k x.levels) in
      let e = first_is in
      ap (λ j. take j old.blocks.items.items) first_is ∙ ap (take (length a)) split_blocks ∙ take-append-le (length a) a (levels_rooms (drop k x.levels)) (omega arith) ∙ take_all (length a) a (omega arith)

  pub blocks_ended : drop first old.blocks.items.items ≡ levels_rooms (drop k x.levels)
  blocks_ended =
      let a = levels_rooms (take k x.levels) in
      ap (λ j. drop j old.blocks.items.items) first_is ∙ ap (drop (length a)) split_blocks ∙ drop-append-le (length a) a (levels_rooms (drop k x.levels)) (omega arith)
      ∙ ap (λ bs. bs ++ levels_rooms (drop k x.levels)) (drop_all (length a) a (omega arith))

  -- how often a block is one of a value, or of a level that ends
  counted : (q : ℕ) → times q (blocks_of x ++ loose_blocks old)
      ≡ times q (blocks_of (before_level x k)) + (times q (levels_rooms (drop k x.levels)) + times q (cells_blocks old.cells.items.items))
  counted q =
      let a = times_append q (blocks_of x) (loose_blocks old) in
      let b = blocks_before x st.all_bare k q in
      omega (arith, a, b)

  -- What is left to show where levels end, with some values.
  pub record Leaves (n : Live) (new : State) (u : s.State) : Type 0 where
    pub went : List ℕ
    pub counts : (q : ℕ) → times q (cells_blocks old.cells.items.items) ≡ times q (cells_blocks new.cells.items.items) + times q went
    pub gone : Gone (went ++ levels_rooms (drop k x.levels)) m n
    pub blocks : new.blocks.items.items ≡ take first old.blocks.items.items
    pub levels : new.levels.items.items ≡ take k old.levels.items.items
    pub statics : new.statics ≡ old.statics
    pub store : u.world.store ≡ record { statics = t.world.store.statics; levels = take k t.world.store.levels }
    pub pc : u.pc ≡ new.pc
    pub bottom : new.base ≤ length new.cells.items.items
    pub known : AreKnown p (site_at p u.pc).cells (own new)
    pub stack : AreCells p n (Beneath p n new u.frames) (before_level x k) new.names.items.items new.here u.here (own new) u.stack
    pub orderly : IsOrderly p u.pc (length new.names.items.items) new.here (own new)
    pub tight : AreTight (AreCalled p (beneath new) (reverse new.callers.items.items)) (take k x.levels) (length new.names.items.items) (own new)

  module _ (n : Live) (went left : List ℕ) (counts : (q : ℕ) → times q (cells_blocks old.cells.items.items) ≡ times q left + times q went)
      (gone : Gone (went ++ levels_rooms (drop k x.levels)) m n) where
    -- blocks that are left stay
    pub stays : (q : ℕ) → 0 < times q (blocks_of (before_level x k)) + times q left → find n q ≡ find m q
    stays q some = gone.others q
        (let one = st.once q in let a = counted q in let b = counts q in let d = times_append q went (levels_rooms (drop k x.levels)) in
        omega (arith, one, a, b, d, some))

    pub kept_left : Kept m n left
    kept_left q some = as_it_was m n q (stays q (omega (arith, some)))

    left_live : (q : ℕ) → IsLive n q → 0 < times q (blocks_of (before_level x k)) + times q left
    left_live q alive = elim (cases_lt 0 (times q (went ++ levels_rooms (drop k x.levels)))) [
      | inl some ↦ absurd (fresh-apart n q q (gone.gone q some) alive refl)
      | inr none ↦
          let same : find n q ≡ find m q = gone.others q (omega (arith, none)) in
          let was : IsLive m q = sym (ap is_some same) ∙ alive in
          let some = st.all q was in let a = counted q in let b = counts q in let d = times_append q went (levels_rooms (drop k x.levels)) in
          omega (arith, some, a, b, d, none)
    ]

  pub left_stands : (n : Live) (new : State) (u : s.State) → Leaves n new u → Stands p n new (before_level x k) u
  left_stands n new u leaves =
      let left = cells_blocks new.cells.items.items in
      let keeps : Keeps m n (before_level x k) = λ b some. stays n leaves.went left leaves.counts leaves.gone b (omega (arith, some)) in
      let ends = levels_end (types_of p) m n x k st.sound keeps in
      let sum : (q : ℕ) → times q (blocks_of (before_level x k) ++ loose_blocks new) ≡ times q (blocks_of (before_level x k)) + times q left =
      λ q. times_append q (blocks_of (before_level x k)) (loose_blocks new) in
      record {
        sound = ends.1;
        store = leaves.store ∙ ap (λ z. let y : Store = record { statics = z.statics; levels = take k z.levels } in y) st.store ∙ sym ends.0;
        statics = st.statics ∙ sym leaves.statics;
        declared = st.declared;
        bare = st.bare;
        all_bare = bare_take k x.levels st.all_bare;
        blocks = leaves.blocks ∙ blocks_left;
        levels = leaves.levels ∙ ap (take k) st.levels ∙ starts_take 0 k x.levels;
        pc = leaves.pc;
        bottom = leaves.bottom;
        known = leaves.known;
        stack = leaves.stack;
        orderly = leaves.orderly;
        tight = leaves.tight;
        once = λ q. let one = st.once q in let a = counted q in let b = leaves.counts q in let d = sum q in omega (arith, one, a, b, d);
        all = λ q alive. let some = left_live n leaves.went left leaves.counts leaves.gone q alive in let d = sum q in omega (arith, some, d);
        live = λ q some. ap is_some (stays n leaves.went left leaves.counts leaves.gone q (omega (arith, some)))
            ∙ st.live q (let b = leaves.counts q in omega (arith, some, b));
        unpinned = λ q. elim (cases_lt 0 (times q (leaves.went ++ levels_rooms (drop k x.levels)))) [
          | inl some ↦ ap pins_in (leaves.gone.gone q some)
          | inr none ↦ ap pins_in (leaves.gone.others q (omega (arith, none))) ∙ st.unpinned q
        ];
      }

  -- the blocks of levels that end may go, where values went before
  pub levels_go : (n : Live) (went left : List ℕ) → ((q : ℕ) → times q (cells_blocks old.cells.items.items) ≡ times q left + times q went) → Gone went m n
      → MayGo n (levels_rooms (drop k x.levels))
  levels_go n went left counts gone =
      let all_live : (q : ℕ) → 0 < times q (levels_rooms (drop k x.levels)) → 0 < times q (blocks_of x) =
      λ q some. let b = blocks_before x st.all_bare k q in omega (arith, some, b) in
      let same : (q : ℕ) → 0 < times q (levels_rooms (drop k x.levels)) → find n q ≡ find m q =
      λ q some. gone.others q (let one = st.once q in let a = counted q in let b = counts q in omega (arith, one, a, b, some)) in
      record {
        once = λ q. let one = st.once q in let a = counted q in omega (arith, one, a);
        live = λ q some. ap is_some (same q some) ∙ rooms_live q (all_live q some);
        unpinned = λ q some. ap pins_in (same q some) ∙ st.unpinned q;
      }
    where
      rooms_live : (q : ℕ) → 0 < times q (blocks_of x) → IsLive m q
      rooms_live = are_live (types_of p) m x st.sound

-- ---- no routine is at work

module _ (p : Program) (live : Live) where
  to_cell : (x : Rooms) (ns : List Name) (a : Cell) (pc : ℕ) (place : Place) → IsCell p x live ns a (s.To pc place) → ⊥
  to_cell x ns (c.Datum d) pc place is = is
  to_cell x ns (c.Object d) pc place is = is
  to_cell x ns (c.Each d e) pc place is = is
  to_cell x ns (c.Argument d) pc place is = is
  to_cell x ns (c.Choice d) pc place is = is
  to_cell x ns (c.Bound d) pc place is = is
  to_cell x ns (c.Bounds d) pc place is = is
  to_cell x ns (c.Turns d e) pc place is = is
  to_cell x ns (c.Objects d) pc place is = is
  to_cell x ns (c.Selector d) pc place is = is
  to_cell x ns (c.Level d e) pc place is = is
  to_cell x ns (c.Outside d) pc place is = is
  to_cell x ns (c.Going d) pc place is = is

  pub ends_same : (Rest : Rooms → List Name → Type 0) (types : List Derived) (sites : ℕ → Site) (Knowing : Scope → Type 0) (o : Around) (r last : Kind)
      (x : Rooms) (ns : List Name) (h : Here) (here : m.Here) (zs : List Cell) (ts : List CellType) (bs : List s.Cell)
      → AreCells p live Rest x ns h here zs bs → Stand types sites Knowing o r ts bs last → r ≡ last
  ends_same Rest types sites Knowing o r last x ns h here [] [] [] are stand = stand
  ends_same Rest types sites Knowing o r last x ns h here [] (k ∷ ts) [] are stand = absurd stand
  ends_same Rest types sites Knowing o r last x ns h here [] ts (b ∷ bs) are stand = absurd are
  ends_same Rest types sites Knowing o r last x ns h here (a ∷ zs) ts [] are stand = absurd are
  ends_same Rest types sites Knowing o r last x ns h here (a ∷ zs) [] (s.To pc place ∷ bs) are stand = absurd (to_cell x ns a pc place are.0)
  ends_same Rest types sites Knowing o r last x ns h here (a ∷ zs) [] (b ∷ bs) are stand = absurd stand
  ends_same Rest types sites Knowing o r last x ns h here (a ∷ zs) (k ∷ ts) (b ∷ bs) are stand =
      ends_same Rest types sites Knowing o r last (rooms_under a x) (names_under a ns) (here_under a h) (here_beneath a b here) zs ts bs are.2 stand.1
