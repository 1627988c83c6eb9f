-- What stands where a procedure begins.
use Rattle.std.proofs.Common.{◌≡◌, ◌∙◌, inl, inr, ℕ, zero, suc, ◌+◌, ◌≤◌, ◌<◌, true, false, List, [], ◌∷◌, ◌++◌, length, drop, take, reverse, is_some, refl, sym, ap, subst, arith}
use Rattle.std.specs.Prelude.{None, Some, slice_get, slice_index_or, unwrap_or}
use Rattle.std.specs.declared.alloc.Global.{Global}
use Rattle.std.specs.FinMap.{get as find}
use Rattle.std.proofs.lemmas.Bool.{cases_eq, cases_lt}
use Rattle.std.proofs.lemmas.List.{append-nil, length-append, length-map, reverse-append, take-append-le}
use Rattle.std.proofs.Math.Seq.{drop-append_seam, take-append_seam}
use Rattle.f3_places.specs.declared.source.Place.{Place}
use Rattle.f3_program.specs.declared.declarations.Kind.{Kind}
use Rattle.f3_program.specs.declared.program.Procedure.{Procedure}
use Rattle.f3_program.specs.declared.program.Program.{Program}
use Rattle.f3_program.specs.declared.declarations.Base.{Base}
use Rattle.f3_meaning_whole.specs.Value.{Unallocated, Value}
use Rattle.f3_meaning_whole.specs.Reference.{Reference}
use Rattle.f3_meaning_whole.specs.Store.{Store}
use Rattle.f3_meaning_whole.specs.Act as act
use Rattle.f3_meaning_whole.specs.Act.{passed_at}
use Rattle.f3_meaning_whole.specs.Exec.{declared_in, dummies, held, variables}
use Rattle.f3_meaning_whole.specs.Formed as formed
use Rattle.f3_meaning_whole.specs.Run.{setting_of}
use Rattle.f3_meaning_whole.specs.Shape.{Shape}
use Rattle.f3_code.specs.Exec.{is_held}
use Rattle.f3_code.specs.State.{Entry, Line, placed}
use Rattle.f3_code.specs.State as s
use Rattle.f3_code.specs.Machine.{entered}
use Rattle.f3_cell_kinds.specs.Types.{CellType, arguments_on}
use Rattle.f3_cell_kinds.specs.Types as cell
use Rattle.f3_cell_kinds.specs.Kinds.{arrived, first_site}
use Rattle.f3_cell_kinds.specs.Effect.{way}
use Rattle.f3_cell_kinds.specs.Laws.{site_at}
use Rattle.f3_cell_kinds.proofs.Given.{arguments_over}
use Rattle.f3_cell_kinds.proofs.Reaching.{AllPassed}
use Rattle.f3_cell_kinds.specs.Holds.{InScope}
use Rattle.f3_rooms.specs.Held.{times}
use Rattle.f3_rooms.specs.Laws.{before_level, with_level}
use Rattle.f3_rooms.specs.Rooms.{Rooms, Slot, Stands as Stood, blocks_of, level_blocks, store_of}
use Rattle.f3_rooms.specs.Sound.{IsSound}
use Rattle.f3_rooms.proofs.Allocating.{at_most_one, only_one}
use Rattle.f3_rooms.proofs.Framing.{Kept, one_here, times_append}
use Rattle.f3_rooms.proofs.Keeping.{as_it_was}
use Rattle.f3_rooms.proofs.Living.{all_live as rooms_live}
use Rattle.f3_rooms.specs.Flat.{is_flat}
use Rattle.f3_live_blocks.specs.Blocks.{Live, IsLive}
use Rattle.f3_room_levels.specs.Initial.{initial_values}
use Rattle.f3_room_levels.specs.Levels.{Begins, begun}
use Rattle.f3_cells.specs.Cells.{declared_by, variables_of}
use Rattle.f3_word_cells.specs.declared.cell.Here.{Here}
use Rattle.f3_word_cells.specs.declared.cell.Range.{Range}
use Rattle.f3_word_cells.specs.declared.cell.Cell.{Cell}
use Rattle.f3_word_cells.specs.declared.state.Name.{Name}
use Rattle.f3_word_cells.specs.declared.state.Caller.{Caller}
use Rattle.f3_word_cells.specs.declared.state.State.{State}
use Rattle.f3_word_cells.specs.Areas.{shape_for, types_of}
use Rattle.f3_word_cells.specs.Cells.{AreCells, AreNames, IsHere, names_in}
use Rattle.f3_word_cells.specs.Does.{IsTold}
use Rattle.f3_word_cells.specs.States.{AreAtHand, AreCalled, AreCallers, AreKnown, AreTight, IsCalled, IsCaller, IsOrderly, Stands, beneath, cells_blocks, cells_from, is_held_at, level_rooms, levels_rooms, loose_blocks, own, rooms_at, starts_of}
use Rattle.f3_word_cells.proofs.Lines.{answering}
use Rattle.f3_word_cells.proofs.Moving.{Beneath}
use Rattle.f3_word_cells.proofs.Orderly.{after_way, in_scope}
use Rattle.f3_word_cells.proofs.Stacks.{cells_blocks_append, cells_blocks_reverse, cells_blocks_split}
use Rattle.f3_word_cells.proofs.Staying.{callers_stay, cells_stay}
use Rattle.f3_word_cells.proofs.Within.{names_within, rooms_with_level}
use Rattle.f3_word_calls.proofs.Holding.{AreShort, holding_begins, level_bare, level_block, level_room, slots_of}
use Rattle.f3_word_entries.specs.Entered.{Entered}
use Rattle.f3_word_entries.proofs.Arguments.{Correspond, IsCut, Split, cells_split, correspond_many, cut_is, hand_on, passed_on, tight_on}
use Rattle.f3_word_entries.proofs.Counted.{IsFor, none_behind}
use Rattle.f3_word_entries.proofs.Cutting.{blocks_few}
use Rattle.f3_word_entries.proofs.Data.{all_flat, blocks_are, data_are, data_short}
use Rattle.f3_word_entries.proofs.Dummies.{all_named, held_data, index_amid}
use Rattle.f3_word_entries.proofs.Going.{with_levels}
use Rattle.f3_word_entries.proofs.Rooming.{all_unpinned, elsewhere, held_rooms, not_there, other_block, times_two, two_bare, two_before, two_more, two_rooms, two_starts, two_taken, variable_rooms, variables_stand, with_two}

starts_many : (n : ℕ) (ls : List (List Slot)) → length (starts_of n ls) ≡ length ls
starts_many n [] = refl
starts_many n (l ∷ ls) = ap suc (starts_many (n + length (level_rooms l)) ls)

dummies_many : (k : ℕ) (ds : _) (ps : List act.Passed) (level unit : ℕ) → length (dummies k ds ps level unit) ≡ length ds
dummies_many k [] ps level unit = refl
dummies_many k (d ∷ ds) ps level unit = ap suc (dummies_many (suc k) ds ps level unit)

held_past : (ns : List Name) (k : ℕ) → length ns ≤ k → is_held_at ns k ≡ false
held_past [] k past = refl
held_past (n ∷ ns) zero past = absurd (omega (arith, past))
held_past (n ∷ ns) (suc k) past = held_past ns k (omega (arith, past))

pub none_known : (p : Program) (xs : List CellType) → AreKnown p xs []
none_known p [] = tt
none_known p (x ∷ xs) = tt

module _ (p : Program) (h : Global) (t : s.State) (m n : Live) (old new : State) (x : Rooms) (told : IsTold p t) (st : Stands p m old x t)
    -- the call
    (q : Procedure) (number at count block words : ℕ) (place : Place) (there : slice_get p.procedures.items number ≡ Some q)
    (into : Entered q number at count block place old new) (begins : Begins (types_of p) m n (declared_in q) words block)
    -- its arguments
    (gs : List formed.Given) (for_q : IsFor q.dummies.items gs) (enough : length gs ≡ count) (ps : List act.Passed) (below : List s.Cell)
    (stack : t.stack ≡ passed_on ps below) (given : AllPassed p.types.items gs ps)
    (rest : List CellType) (kinds : (site_at p t.pc).cells ≡ arguments_on gs [] ++ rest) where
  abbrev ts : List Shape
  ts = types_of p

  abbrev ns : List Name
  ns = old.names.items.items

  -- ---- the cells

  split : Split p x m ns (Beneath p m old t.frames) old.here t.here gs ps rest below (own old)
  split = cells_split p x m ns (Beneath p m old t.frames) old.here t.here gs ps given rest below (own old)
      (subst (λ (bs : List s.Cell). AreCells p m (Beneath p m old t.frames) x ns old.here t.here (own old) bs) stack st.stack)
      (subst (λ (ks : List CellType). AreKnown p ks (own old)) (kinds ∙ sym (arguments_over gs [] rest)) st.known)

  cut : IsCut old.base into.left into.arguments split.arguments split.left
  cut = cut_is old.base old.cells.items.items into.left into.arguments split.arguments split.left st.bottom into.split
      (into.many ∙ sym enough ∙ sym (correspond_many p x m ns gs ps split.arguments split.are)) split.split

  abbrev args : List Cell
  args = into.arguments

  are : Correspond p x m ns gs ps args
  are = subst (Correspond p x m ns gs ps) (sym cut.arguments) split.are

  own_left : cells_from old.base into.left ≡ split.left
  own_left = cut.left_is

  beneath_left : take old.base into.left ≡ beneath old
  beneath_left = sym (ap (take old.base) into.split ∙ take-append-le old.base into.left args cut.bottom)

  -- ---- the rooms

  abbrev short : AreShort (held_data args)
  short = data_short args into.ranked

  abbrev slots : List Slot
  slots = slots_of h (held_data args) short

  abbrev values : List Value
  values = held ps

  abbrev inner : Rooms
  inner = with_level x slots

  abbrev both : Rooms
  both = with_two x slots (begun block (declared_in q))

  flat : (of : Base) → is_flat (shape_for p of) ≡ true
  flat = all_flat p told.plain.types

  slot_blocks : level_blocks slots ≡ cells_blocks args
  slot_blocks = level_block p h m flat (held_data args) short ∙ sym (blocks_are p x m ns gs ps args are)

  slot_rooms : level_rooms slots ≡ cells_blocks args
  slot_rooms = level_room p h m flat (held_data args) short ∙ sym (blocks_are p x m ns gs ps args are)

  cells_two : (b : ℕ) → times b (cells_blocks old.cells.items.items) ≡ times b (cells_blocks into.left) + times b (cells_blocks args)
  cells_two b = ap (λ zs. times b (cells_blocks zs)) into.split ∙ cells_blocks_append b into.left args

  whole_old : (b : ℕ) → times b (blocks_of x ++ loose_blocks old) ≡ times b (blocks_of x) + (times b (cells_blocks into.left) + times b (cells_blocks args))
  whole_old b = let e = times_append b (blocks_of x) (loose_blocks old) in let f = cells_two b in omega (arith, e, f)

  held_level : (store_of ts m inner ≡ record { statics = (store_of ts m x).statics; levels = (store_of ts m x).levels ++ values ∷ [] }) × IsSound ts m inner
  held_level = holding_begins p h m flat x (held_data args) short values (data_are p x m ns gs ps args are) st.sound
      (λ b. let one = st.once b in let e = whole_old b in let f = ap (times b) (blocks_are p x m ns gs ps args are) in omega (arith, one, e, f))

  sound : IsSound ts n both
  sound = (begins.level inner held_level.1).sound

  store : with_levels t.world.store values (variables (setting_of p) q) ≡ store_of ts n both
  store = sym ((begins.level inner held_level.1).store
      ∙ ap (λ z. let y : Store = record { statics = z.statics; levels = z.levels ++ initial_values ts (declared_in q) ∷ [] } in y) held_level.0
      ∙ ap (λ z. with_levels z values (variables (setting_of p) q)) (sym st.store))

  -- ---- the blocks

  whole_new : (b : ℕ) → times b (blocks_of both ++ loose_blocks new) ≡ times b (blocks_of x ++ loose_blocks old) + times b (block ∷ [])
  whole_new b =
      let e = times_append b (blocks_of both) (loose_blocks new) in
      let f = times_two b x slots block (declared_in q) in
      let g = ap (times b) slot_blocks in
      let k = ap (λ zs. times b (cells_blocks zs)) into.cells in
      let o = whole_old b in
      omega (arith, e, f, g, k, o)

  counted_live : (b : ℕ) → 0 < times b (blocks_of x ++ loose_blocks old) → IsLive m b
  counted_live b some = elim (cases_lt 0 (times b (blocks_of x))) [
    | inl in_rooms ↦ rooms_live ts m x st.sound b in_rooms
    | inr out ↦ st.live b (let e = times_append b (blocks_of x) (loose_blocks old) in omega (arith, e, some, out))
  ]

  new_apart : times block (blocks_of x ++ loose_blocks old) ≡ 0
  new_apart = elim (cases_lt 0 (times block (blocks_of x ++ loose_blocks old))) [
    | inl some ↦ absurd (not_there ts m n (declared_in q) words block begins (counted_live block some))
    | inr none ↦ omega (arith, none)
  ]

  once : (b : ℕ) → times b (blocks_of both ++ loose_blocks new) ≤ 1
  once b = elim (cases_lt 0 (times b (block ∷ []))) [
    | inl some ↦ (let e = whole_new b in let f = at_most_one b block in
        let g : times b (blocks_of x ++ loose_blocks old) ≡ 0 = ap (λ k. times k (blocks_of x ++ loose_blocks old)) (only_one b block some) ∙ new_apart in
        omega (arith, e, f, g))
    | inr none ↦ (let e = whole_new b in let f = st.once b in omega (arith, e, f, none))
  ]

  stays : (b : ℕ) → IsLive m b → find n b ≡ find m b
  stays b live = elsewhere ts m n (declared_in q) words block begins b (other_block ts m n (declared_in q) words block begins b live)

  all : (b : ℕ) → IsLive n b → 0 < times b (blocks_of both ++ loose_blocks new)
  all b live = elim (cases_eq b block) [
    | inl e ↦ (let f = whole_new b in let g : 0 < times b (block ∷ []) = subst (λ k. 0 < times b (k ∷ [])) e (one_here b []) in omega (arith, f, g))
    | inr ne ↦ (let was : IsLive m b = sym (ap is_some (elsewhere ts m n (declared_in q) words block begins b ne)) ∙ live in
        let some = st.all b was in let f = whole_new b in omega (arith, some, f))
  ]

  loose_few : (b : ℕ) → times b (loose_blocks new) ≤ times b (loose_blocks old)
  loose_few b = let e = ap (λ zs. times b (cells_blocks zs)) into.cells in let f = cells_two b in omega (arith, e, f)

  live : (b : ℕ) → 0 < times b (loose_blocks new) → IsLive n b
  live b some =
      let was : IsLive m b = st.live b (let few = loose_few b in omega (arith, some, few)) in
      ap is_some (stays b was) ∙ was

  kept : (bs : List ℕ) → ((b : ℕ) → times b bs ≤ times b (loose_blocks old)) → Kept m n bs
  kept bs few b some = as_it_was m n b (stays b (st.live b (let f = few b in omega (arith, f, some))))

  kept_own : Kept m n (cells_blocks split.left)
  kept_own = kept (cells_blocks split.left) (λ b.
      let e = ap (λ zs. times b (cells_blocks zs)) own_left in
      let f = cells_blocks_reverse b (drop old.base into.left) in
      let g = cells_blocks_split b old.base into.left in
      let o = cells_two b in
      omega (arith, e, f, g, o))

  kept_beneath : Kept m n (cells_blocks (beneath old))
  kept_beneath = kept (cells_blocks (beneath old)) (λ b. let g = cells_blocks_split b old.base old.cells.items.items in omega (arith, g))

  -- ---- levels

  levels_are : length old.levels.items.items ≡ length x.levels
  levels_are = ap length st.levels ∙ starts_many 0 x.levels

  store_levels : length t.world.store.levels ≡ length x.levels
  store_levels = ap (λ (z : Store). length z.levels) st.store ∙ length-map x.levels _

  abbrev level : ℕ
  level = length old.levels.items.items

  -- ---- names

  abbrev objects : List Reference
  objects = dummies 0 q.dummies.items ps level t.here.unit

  reads : slice_index_or (store_of ts m inner).levels (length x.levels) [] ≡ values
  reads =
      let many : length x.levels ≡ length (store_of ts m x).levels = sym (length-map x.levels _) in
      ap (λ (z : Store). slice_index_or z.levels (length x.levels) []) held_level.0
      ∙ ap (λ i. slice_index_or ((store_of ts m x).levels ++ values ∷ []) i []) many ∙ index_amid (store_of ts m x).levels [] values []

  named : AreNames p inner into.added (dummies 0 q.dummies.items ps (length x.levels) t.here.unit)
      × (length into.added ≡ length q.dummies.items)
      × ((k : ℕ) → k < length q.dummies.items → is_held (passed_at (0 + k) ps) ≡ is_held_at into.added k)
  named = all_named p h m x ns t.here.unit slots values reads gs ps args are given q.dummies.items for_q.fits short refl refl 0 q.dummies.items into.added
      (λ k d e. let same : 0 + k ≡ k = omega arith in ap (slice_get q.dummies.items) same ∙ e) for_q.each into.named

  names_here : AreNames p both into.added objects
  names_here = subst (λ k. AreNames p both into.added (dummies 0 q.dummies.items ps k t.here.unit)) (sym levels_are)
      (names_within p inner both (rooms_with_level inner (Stood (begun block (declared_in q)) ∷ [])) into.added _ named.0)

  abbrev range : Range
  range = record { from = length ns; count = length q.dummies.items }

  names_are : names_in range (ns ++ into.added) ≡ into.added
  names_are =
      ap (take (length q.dummies.items)) (drop-append_seam ns into.added)
      ∙ ap (λ k. take k into.added) (sym named.1) ∙ ap (take (length into.added)) (sym (append-nil into.added)) ∙ take-append_seam into.added []

  names_many : length (ns ++ into.added) ≡ length ns + length q.dummies.items
  names_many = length-append ns into.added ∙ ap (λ k. length ns + k) named.1

  held_same : (k : ℕ) → is_held (passed_at k ps) ≡ is_held_at into.added k
  held_same k = elim (cases_lt k (length q.dummies.items)) [
    | inl less ↦ (let same : 0 + k ≡ k = omega arith in ap (λ i. is_held (passed_at i ps)) (sym same) ∙ named.2 k less)
    | inr past ↦ none_behind p.types.items q.dummies.items gs ps k for_q.fits given past ∙ sym (held_past into.added k (let e = named.1 in omega (arith, e, past)))
  ]

  -- ---- the callee

  abbrev callee_here : act.Here
  callee_here = record {
    place = place;
    unit = q.unit;
    level = suc (length t.world.store.levels);
    variables = declared_in q;
    names = dummies 0 q.dummies.items ps (length t.world.store.levels) t.here.unit;
    lent = dummies 0 q.dummies.items ps (length t.world.store.levels) t.here.unit ++ t.here.lent;
    selected = Unallocated;
  }

  variables_here : declared_in q ≡ variables_of p (Some number)
  variables_here = sym (ap declared_by there)

  same_level : level ≡ length t.world.store.levels
  same_level = levels_are ∙ sym store_levels

  abbrev memory_here : Here
  memory_here = record { place = place; unit = q.unit; level = suc level; procedure = Some number; names = range; selected = None }

  here_is : IsHere p both (ns ++ into.added) memory_here callee_here
  here_is = record {
    place = refl;
    unit = refl;
    level = ap suc (sym same_level);
    variables = variables_here;
    names = record {
      names = subst (λ zs. AreNames p both zs (dummies 0 q.dummies.items ps (length t.world.store.levels) t.here.unit)) (sym names_are)
          (subst (λ k. AreNames p both into.added (dummies 0 q.dummies.items ps k t.here.unit)) same_level names_here);
      count = dummies_many 0 q.dummies.items ps (length t.world.store.levels) t.here.unit;
      within = let e = names_many in omega (arith, e);
    };
    selected = (refl, refl);
    room = begun block (declared_in q);
    stands = ap (λ k. slice_get both.levels (suc k)) levels_are ∙ variables_stand x slots (begun block (declared_in q));
    declared = variables_here;
  }

  -- ---- the caller

  module _ (l : Line) (placed_there : unwrap_or l.place t.here.place ≡ place) (returns : Kind)
      (next : site_at p (t.pc + 1) ≡ arrived (site_at p t.pc) (way (site_at p t.pc) (cell.Datum returns ∷ [])) rest) where
    abbrev caller : Caller
    caller = record { pc = old.pc + 1; here = old.here; base = old.base; place = place; level = level; dummies = range }

    abbrev frame : s.Frame
    frame = record { pc = t.pc + 1; stack = below; here = t.here; caller = act.at place t.here; arguments = ps; level = length t.world.store.levels }

    is_caller : IsCaller p (ns ++ into.added) into.left caller frame
    is_caller = record {
      pc = ap (λ k. k + 1) st.pc;
      bottom = cut.bottom;
      known = subst (λ (ks : List CellType). AreKnown p (drop 1 ks) (cells_from old.base into.left)) (sym (ap (λ z. z.cells) next))
          (subst (AreKnown p rest) (sym own_left) split.known);
      dummies = let e = names_many in omega (arith, e);
      arguments = λ k. held_same k ∙ ap (λ zs. is_held_at zs k) (sym names_are);
      caller = refl;
      level = sym same_level;
    }

    abbrev Before : List Cell → Rooms → List Name → Type 0
    Before zs = AreCallers p n zs (reverse old.callers.items.items) t.frames

    cells_left : AreCells p n (Before (beneath old)) x ns old.here t.here split.left below
    cells_left = cells_stay p m n (Beneath p m old t.frames) (Before (beneath old))
        (callers_stay p m n (beneath old) (reverse old.callers.items.items) t.frames kept_beneath) x ns old.here t.here split.left below kept_own split.cells

    callers_are : AreCallers p n into.left (caller ∷ reverse old.callers.items.items) (frame ∷ t.frames) both (ns ++ into.added)
    callers_are = (
      is_caller,
      subst (λ (zs : List Cell). AreCells p n (Before zs) (before_level both level) (take (length ns) (ns ++ into.added)) old.here t.here (cells_from old.base into.left) below)
          (sym beneath_left)
          (subst (λ (zs : List Cell). AreCells p n (Before (beneath old)) (before_level both level) (take (length ns) (ns ++ into.added)) old.here t.here zs below) (sym own_left)
          (subst (λ (ms : List Name). AreCells p n (Before (beneath old)) (before_level both level) ms old.here t.here split.left below) (sym (take-append_seam ns into.added))
          (subst (λ (y : Rooms). AreCells p n (Before (beneath old)) y ns old.here t.here split.left below)
          (sym (ap (before_level both) levels_are ∙ two_before x slots (begun block (declared_in q)))) cells_left))),
    )

    -- ---- names and levels, one behind another

    left_orderly : IsOrderly p (t.pc + 1) (length ns) old.here (cells_from old.base into.left)
    left_orderly =
        let after = after_way p t.pc (t.pc + 1) (cell.Datum returns ∷ []) rest next in
        subst (λ (zs : List Cell). IsOrderly p (t.pc + 1) (length ns) old.here zs) (sym own_left)
        (subst (InScope p.types.items (λ z. AreAtHand (length ns) old.here split.left)) (sym after.scope)
        (in_scope p.types.items (λ z. AreAtHand (length ns) old.here (own old)) (λ z. AreAtHand (length ns) old.here split.left) (site_at p t.pc).scope
        (λ z hand. hand_on p x m ns (length ns) old.here gs ps split.arguments split.left split.are (subst (AreAtHand (length ns) old.here) split.split hand)) st.orderly))

    abbrev Called : List Cell → List (List Slot) → ℕ → Type 0
    Called zs = AreCalled p zs (reverse old.callers.items.items)

    left_tight : AreTight (Called (beneath old)) x.levels (length ns) split.left
    left_tight = tight_on p x m ns (Called (beneath old)) x.levels (length ns) gs ps split.arguments split.left split.are
        (subst (AreTight (Called (beneath old)) x.levels (length ns)) split.split st.tight)

    is_called : IsCalled p both.levels (length (ns ++ into.added)) caller
    is_called = record {
      dummies = sym names_many;
      number = number;
      procedure = q;
      there = there;
      count = refl;
      levels = two_more x slots (begun block (declared_in q)) ∙ ap (λ k. suc (suc k)) (sym levels_are);
      held =
          let e : rooms_at both.levels level ≡ length (cells_blocks args) =
          ap (rooms_at both.levels) levels_are ∙ held_rooms x slots (begun block (declared_in q)) ∙ ap length slot_rooms in
          let few = blocks_few args in
          let many = correspond_many p x m ns gs ps args are in
          let all = for_q.many in
          omega (arith, e, few, many, all);
      variables =
          let e : rooms_at both.levels (suc level) ≡ 1 = ap (λ k. rooms_at both.levels (suc k)) levels_are ∙ variable_rooms x slots (begun block (declared_in q)) in
          omega (arith, e);
    }

    called_are : AreCalled p into.left (caller ∷ reverse old.callers.items.items) both.levels (length (ns ++ into.added))
    called_are = (
      is_called,
      subst (λ k. IsOrderly p k (length ns) old.here (cells_from old.base into.left)) (ap (λ k. k + 1) st.pc) left_orderly,
      subst (λ (zs : List Cell). AreTight (Called zs) (take level both.levels) (length ns) (cells_from old.base into.left)) (sym beneath_left)
          (subst (AreTight (Called (beneath old)) (take level both.levels) (length ns)) (sym own_left)
          (subst (λ (ls : List (List Slot)). AreTight (Called (beneath old)) ls (length ns) split.left)
          (sym (ap (λ k. take k both.levels) levels_are ∙ two_taken x slots (begun block (declared_in q)))) left_tight)),
    )

    -- ---- all

    abbrev entry : Entry
    entry = record { at = at; unit = q.unit; dummies = q.dummies.items; variables = declared_in q; initial = variables (setting_of p) q }

    abbrev begun_state : s.State
    begun_state = entered t below (act.at place t.here) entry ps (length t.world.store.levels)
        (answering (with_levels t.world.store values (variables (setting_of p) q)) (λ k. false))

    own_none : own new ≡ []
    own_none = ap (λ k. cells_from k new.cells.items.items) into.base ∙ ap (cells_from (length into.left)) into.cells
        ∙ ap reverse (ap (drop (length into.left)) (sym (append-nil into.left)) ∙ drop-append_seam into.left [])

    beneath_new : beneath new ≡ into.left
    beneath_new = ap (λ k. take k new.cells.items.items) into.base ∙ ap (take (length into.left)) into.cells
        ∙ ap (take (length into.left)) (sym (append-nil into.left)) ∙ take-append_seam into.left []

    callers_new : reverse new.callers.items.items ≡ caller ∷ reverse old.callers.items.items
    callers_new = ap reverse into.callers ∙ reverse-append old.callers.items.items (caller ∷ [])

    stack_stands : AreCells p n (Beneath p n new (frame ∷ t.frames)) both new.names.items.items new.here callee_here (own new) []
    stack_stands =
        subst (λ (zs : List Cell). AreCells p n (Beneath p n new (frame ∷ t.frames)) both new.names.items.items new.here callee_here zs []) (sym own_none) (
          subst (λ (ms : List Name). IsHere p both ms new.here callee_here) (sym into.names)
              (subst (λ (k : Here). IsHere p both (ns ++ into.added) k callee_here) (sym into.here) here_is),
          subst (λ (ms : List Name). AreCallers p n (beneath new) (reverse new.callers.items.items) (frame ∷ t.frames) both ms) (sym into.names)
              (subst (λ (fs : List Caller). AreCallers p n (beneath new) fs (frame ∷ t.frames) both (ns ++ into.added)) (sym callers_new)
              (subst (λ (zs : List Cell). AreCallers p n zs (caller ∷ reverse old.callers.items.items) (frame ∷ t.frames) both (ns ++ into.added)) (sym beneath_new) callers_are)),
        )

    tight_stands : AreTight (AreCalled p (beneath new) (reverse new.callers.items.items)) both.levels (length new.names.items.items) (own new)
    tight_stands =
        subst (AreTight (AreCalled p (beneath new) (reverse new.callers.items.items)) both.levels (length new.names.items.items)) (sym own_none)
        (subst (λ (ms : List Name). AreCalled p (beneath new) (reverse new.callers.items.items) both.levels (length ms)) (sym into.names)
        (subst (λ (fs : List Caller). AreCalled p (beneath new) fs both.levels (length (ns ++ into.added))) (sym callers_new)
        (subst (λ (zs : List Cell). AreCalled p zs (caller ∷ reverse old.callers.items.items) both.levels (length (ns ++ into.added))) (sym beneath_new) called_are)))

    orderly_stands : site_at p at ≡ first_site q → IsOrderly p at (length new.names.items.items) new.here (own new)
    orderly_stands first =
        subst (λ (zs : List Cell). IsOrderly p at (length new.names.items.items) new.here zs) (sym own_none)
        (subst (λ (k : Here). IsOrderly p at (length new.names.items.items) k []) (sym into.here)
        (subst (λ (ms : List Name). IsOrderly p at (length ms) memory_here []) (sym into.names)
        (subst (InScope p.types.items (λ z. AreAtHand (length (ns ++ into.added)) memory_here [])) (sym (ap (λ z. z.scope) first)) (sym names_many))))

    pub callee_stands : site_at p at ≡ first_site q → Stands p n new both begun_state
    callee_stands first = record {
      sound = sound;
      store = store;
      statics = st.statics ∙ sym into.statics;
      declared = st.declared;
      bare = st.bare;
      all_bare = two_bare x slots block (declared_in q) st.all_bare (level_bare p h m flat (held_data args) short);
      blocks = into.blocks ∙ ap (λ bs. bs ++ (cells_blocks args ++ block ∷ [])) st.blocks
          ∙ ap (λ bs. levels_rooms x.levels ++ (bs ++ block ∷ [])) (sym slot_rooms) ∙ sym (two_rooms x slots block (declared_in q));
      levels = into.levels ∙ ap (λ ks. ks ++ (length old.blocks.items.items ∷ (length old.blocks.items.items + length (cells_blocks args)) ∷ [])) st.levels
          ∙ ap (λ (bs : List ℕ). starts_of 0 x.levels ++ (length old.blocks.items.items ∷ (length old.blocks.items.items + length bs) ∷ [])) (sym slot_rooms)
          ∙ sym (two_starts x slots block (declared_in q) old.blocks.items.items st.blocks);
      pc = sym into.pc;
      bottom = let e = into.base in let f = ap length into.cells in omega (arith, e, f);
      known = subst (AreKnown p (site_at p at).cells) (sym own_none) (none_known p (site_at p at).cells);
      stack = stack_stands;
      orderly = orderly_stands first;
      tight = tight_stands;
      once = once;
      all = all;
      live = live;
      unpinned = all_unpinned ts m n (declared_in q) words block begins st.unpinned;
    }
