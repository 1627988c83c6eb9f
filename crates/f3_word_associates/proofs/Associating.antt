-- An ASSOCIATE begins.
use Rattle.std.proofs.Common.{◌≡◌, ◌∙◌, ℕ, suc, ◌+◌, ◌<◌, ◌≤◌, Bool, true, List, [], ◌∷◌, ◌++◌, length, map, drop, take, reverse, append_assoc, refl, sym, ap, subst, arith}
use Rattle.std.specs.Prelude.{Ok, Some, slice_get}
use Rattle.std.specs.declared.alloc.Global.{Global}
use Rattle.std.proofs.lemmas.List.{append-nil, length-append, length-map, reverse-append, reverse-reverse, take-append-drop, length-take-le}
use Rattle.f3_program.specs.declared.declarations.Base.{Base}
use Rattle.f3_program.specs.declared.declarations.Kind.{Kind}
use Rattle.f3_program.specs.declared.program.Program.{Program}
use Rattle.f3_live_blocks.specs.Blocks.{Live}
use Rattle.f3_meaning_whole.specs.Act as m
use Rattle.f3_meaning_whole.specs.Act.{enter}
use Rattle.f3_meaning_whole.specs.Exec.{Association, associates, held_by}
use Rattle.f3_meaning_whole.specs.Ran.{Entered, World, does, gives, ◌>>=◌}
use Rattle.f3_meaning_whole.specs.Reference.{Reference}
use Rattle.f3_meaning_whole.specs.Store.{Store}
use Rattle.f3_meaning_whole.specs.Value.{Value}
use Rattle.f3_code.specs.declared.instruction.Instruction.TheVariants as i
use Rattle.f3_code.specs.Heap.{with_answers}
use Rattle.f3_code.specs.Machine.{performs}
use Rattle.f3_code.specs.State.{Line, Goes, placed}
use Rattle.f3_code.specs.State as s
use Rattle.f3_cell_kinds.proofs.Standing.{in_is}
use Rattle.f3_cell_kinds.specs.Holds.{InScope}
use Rattle.f3_cell_kinds.specs.Kinds.{Leads}
use Rattle.f3_cell_kinds.specs.Types.{CellType, Scope, Told, associating, selectors_on}
use Rattle.f3_cell_kinds.specs.Types as cell
use Rattle.f3_cell_kinds.specs.Laws.{site_at}
use Rattle.f3_store_kinds.specs.Clean.{IsClean}
use Rattle.f3_rooms.specs.Flat.{is_flat}
use Rattle.f3_rooms.specs.Held.{times}
use Rattle.f3_rooms.specs.Laws.{before_level, with_level}
use Rattle.f3_rooms.specs.Sound.{IsSound}
use Rattle.f3_rooms.specs.Rooms.{Rooms, Slot, blocks_of, level_blocks, levels_blocks, room_blocks, store_of}
use Rattle.f3_rooms.proofs.Framing.{times_append}
use Rattle.f3_word_cells.specs.declared.cell.Association.{Association as Selector}
use Rattle.f3_word_cells.specs.declared.cell.Cell.{Cell}
use Rattle.f3_word_cells.specs.declared.cell.Cell.TheVariants as c
use Rattle.f3_word_cells.specs.declared.state.Name.{Name}
use Rattle.f3_word_cells.specs.declared.state.Caller.{Caller}
use Rattle.f3_word_cells.specs.declared.state.State.{State}
use Rattle.f3_word_cells.specs.Areas.{shape_for, types_of}
use Rattle.f3_word_cells.specs.Cells.{AreCells, AreNamed as AreNamedIn, AreNames, IsHere}
use Rattle.f3_word_cells.specs.Scenes.{code_of}
use Rattle.f3_word_cells.specs.States.{AreAtHand, AreCalled, AreCallers, AreKnown, AreTight, IsOrderly, Stands, beneath, cells_blocks, cells_from, end_of, level_rooms, loose_blocks, own, rooms_at, starts_of}
use Rattle.f3_word_cells.specs.Does.{Becomes, IsTold}
use Rattle.f3_word_cells.proofs.AtHand.{hand_told, names_at_hand}
use Rattle.f3_word_cells.proofs.OnTop.{line_kinds}
use Rattle.f3_word_cells.proofs.Within.{first_same, here_stands, named_within}
use Rattle.f3_word_cells.proofs.Stacks.{cells_blocks_append}
use Rattle.f3_word_cells.proofs.Moving.{Beneath}
use Rattle.f3_word_cells.proofs.Lines.{answering, does_so, first_looks, line_goes}
use Rattle.f3_word_calls.proofs.Holding.{AreData, AreShort, data_blocks, holding_begins, level_bare, level_block, level_room, slots_of}
use Rattle.f3_word_associates.specs.Begun.{Begun, naming}
use Rattle.f3_word_associates.specs.Names.{AreNamed}
use Rattle.f3_word_associates.proofs.Selecting.{AreMet, SelectorsOnTop, SelectorsThere, hand_beneath, met_length, met_onto, onto, onto_length, onto_map, onto_reverse, selectors_are, selectors_length, selectors_on_top, selectors_there, takes_selectors, tight_beneath}
use Rattle.f3_word_associates.proofs.Held.{data_cells, data_few, data_met, data_of, data_short, flat_for, names_are, rooms_more}
use Rattle.f3_word_associates.proofs.Levels.{bare_behind, blocks_behind, drop_front, last_at, named_behind, named_more, rooms_behind, same_split, starts_behind, starts_many, take_front}

-- ---- the machine over values

enters : (vs : List Value) (level : ℕ) (w : World) (f : ℕ → World → s.State)
    → performs (enter vs >>= λ done. gives level) w f
    ≡ Goes (Entered vs ∷ []) (f level (answering (record { statics = w.store.statics; levels = w.store.levels ++ vs ∷ [] }) w.answers))
unfolding does gives ◌>>=◌
enters vs level w f = refl

module _ (p : Program) (live : Live) (old : State) (x : Rooms) (t : s.State) (l : Line) (told : IsTold p t)
    (there : slice_get (code_of p).lines t.pc ≡ Some l) (k : ℕ) (is : l.act ≡ i.Associate k) (st : Stands p live old x t) where
  abbrev Rest : Rooms → List Name → Type 0
  Rest = Beneath p live old t.frames

  abbrev ns : List Name
  ns = old.names.items.items

  -- ---- what stands on top

  pub record AtSelectors : Type 0 where
    pub scope : Scope
    pub scoped : (site_at p t.pc).scope ≡ Told scope
    pub kinds : List Kind
    pub rest : List CellType
    pub on_top : SelectorsOnTop p.types.items (onto kinds []) t.stack
    pub many : length on_top.found ≡ k
    pub next : site_at p (t.pc + 1) ≡ record {
      is_reached = true;
      returns = (site_at p t.pc).returns;
      scope = Told (associating kinds scope);
      cells = cell.Outside scope ∷ cell.Level kinds ∷ rest;
    }
    pub met : SelectorsThere p live x Rest ns old.here t.here (own old) on_top.found on_top.below rest

  pub at_selectors : AtSelectors
  at_selectors =
      let site = site_at p t.pc in
      let Led : Scope → Type 0 = λ o. (ks : List Kind) × (length ks ≡ k) × Leads (site_at p) t.pc (record {
        takes = selectors_on ks [];
        next = Some (record { scope = Told (associating ks o); left = cell.Outside o ∷ cell.Level ks ∷ [] });
        far = [];
      }) in
      let lead = in_is site.scope Led (line_kinds p t l (i.Associate k) told there is) in
      let ks = lead.2.0 in
      let leads = lead.2.2 in
      let kinds : site.cells ≡ map cell.Selector (onto ks []) ++ leads.rest =
      leads.before ∙ ap (λ zs. zs ++ leads.rest) (selectors_are ks []) in
      let top = selectors_on_top p t (onto ks []) leads.rest told kinds in
      let are : AreCells p live Rest x ns old.here t.here (own old) (map s.Selector top.found ++ top.below) =
      subst (λ bs. AreCells p live Rest x ns old.here t.here (own old) bs) top.split st.stack in
      record {
        scope = lead.0;
        scoped = lead.1;
        kinds = ks;
        rest = leads.rest;
        on_top = top;
        many = selectors_length p.types.items (onto ks []) top.found top.are ∙ onto_length ks []
            ∙ (let e = lead.2.1 in omega (arith, e));
        next = leads.next;
        met = selectors_there p live x Rest ns old.here t.here (own old) top.found top.below (onto ks []) leads.rest are
            (subst (λ js. AreKnown p js (own old)) kinds st.known) top.are;
      }

  abbrev at : AtSelectors
  at = at_selectors

  -- in their order
  abbrev selectors : List Selector
  selectors = onto at.met.selectors []

  abbrev found : List Association
  found = onto at.on_top.found []

  met : AreMet p live x selectors found
  met = met_onto p live x at.met.selectors [] at.on_top.found [] at.met.met tt

  many : length selectors ≡ k
  many =
      let e = onto_length at.met.selectors [] in
      let f = met_length p live x at.met.selectors at.on_top.found at.met.met in
      let g = at.many in
      omega (arith, e, f, g)

  pub hand : end_of old.here.names ≡ length ns
  hand = names_at_hand p live old x t at.scope told st at.scoped (subst (λ a. IsClean a (map cell.sort_of_type (site_at p t.pc).cells)) is (told.clean t.pc l there))

  -- the stack, less the selectors
  abbrev left : List Cell
  left = beneath old ++ reverse at.met.more

  pub stack_is : old.cells.items.items ≡ left ++ map c.Selector selectors
  stack_is =
      let cells = old.cells.items.items in
      let behind : drop old.base cells ≡ reverse at.met.more ++ map c.Selector selectors =
      sym (reverse-reverse (drop old.base cells)) ∙ ap reverse at.met.split ∙ reverse-append (map c.Selector at.met.selectors) at.met.more
      ∙ ap (λ zs. reverse at.met.more ++ zs)
      (sym (onto_reverse (map c.Selector at.met.selectors) [] ∙ append-nil (reverse (map c.Selector at.met.selectors))) ∙ onto_map c.Selector at.met.selectors []) in
      sym (take-append-drop old.base cells) ∙ ap (λ zs. beneath old ++ zs) behind
      ∙ sym (append_assoc (beneath old) (reverse at.met.more) (map c.Selector selectors))

  pub enough : k ≤ length old.cells.items.items
  enough =
      let e = ap length stack_is in
      let f = length-append left (map c.Selector selectors) in
      let g = length-map selectors c.Selector in
      let j = many in
      omega (arith, e, f, g, j)

  -- ---- the state that follows

  module _ (new : State) (begun : Begun k old new) where
    parts : (begun.left ≡ left) × (begun.selectors ≡ map c.Selector selectors)
    parts =
        let e : begun.left ++ begun.selectors ≡ left ++ map c.Selector selectors = sym begun.split ∙ stack_is in
        let a = ap length e in
        let b = length-append begun.left begun.selectors in
        let d = length-append left (map c.Selector selectors) in
        let f = length-map selectors c.Selector in
        let g = many in
        let j = begun.many in
        same_split begun.left begun.selectors left (map c.Selector selectors) e (omega (arith, a, b, d, f, g, j))

    named : AreNamed (map c.Selector selectors) begun.added
    named = subst (λ zs. AreNamed zs begun.added) parts.1 begun.named

    abbrev alloc : Global
    alloc = old.cells.items.alloc

    short : AreShort (data_of selectors)
    short = data_short selectors begun.added named

    abbrev slots : List Slot
    slots = slots_of alloc (data_of selectors) short

    abbrev y : Rooms
    y = with_level x slots

    abbrev level : ℕ
    level = length x.levels

    flat : (of : Base) → is_flat (shape_for p of) ≡ true
    flat = flat_for (types_of p) told.plain.types

    -- blocks
    data_is : cells_blocks begun.selectors ≡ data_blocks (data_of selectors)
    data_is = ap cells_blocks parts.1 ∙ data_cells selectors

    held_rooms : level_rooms slots ≡ data_blocks (data_of selectors)
    held_rooms = level_room p alloc live flat (data_of selectors) short

    blocks_so : (q : ℕ) → times q (blocks_of y) ≡ times q (blocks_of x) + times q (data_blocks (data_of selectors))
    blocks_so q =
        let a = times_append q (room_blocks x.statics) (levels_blocks x.levels) in
        let b = times_append q (room_blocks x.statics) (levels_blocks (x.levels ++ slots ∷ [])) in
        let d = ap (times q) (blocks_behind x.levels slots) in
        let e = times_append q (levels_blocks x.levels) (level_blocks slots) in
        let f = ap (times q) (level_block p alloc live flat (data_of selectors) short) in
        omega (arith, a, b, d, e, f)

    loose_old : (q : ℕ) → times q (loose_blocks old) ≡ times q (cells_blocks begun.left) + times q (data_blocks (data_of selectors))
    loose_old q =
        ap (λ zs. times q (cells_blocks zs)) begun.split ∙ cells_blocks_append q begun.left begun.selectors
        ∙ ap (λ bs. times q (cells_blocks begun.left) + times q bs) data_is

    abbrev level_cell : Cell
    level_cell = c.Level (length old.levels.items.items) (record { from = length ns; count = k })

    loose_new : (q : ℕ) → times q (loose_blocks new) ≡ times q (cells_blocks begun.left)
    loose_new q =
        let a = cells_blocks_append q (begun.left ++ level_cell ∷ []) (c.Outside old.here ∷ []) in
        let b = cells_blocks_append q begun.left (level_cell ∷ []) in
        ap (λ zs. times q (cells_blocks zs)) begun.cells ∙ omega (arith, a, b)

    sum_is : (q : ℕ) → times q (blocks_of y ++ loose_blocks new) ≡ times q (blocks_of x ++ loose_blocks old)
    sum_is q =
        let a = times_append q (blocks_of y) (loose_blocks new) in
        let b = times_append q (blocks_of x) (loose_blocks old) in
        let d = blocks_so q in
        let e = loose_old q in
        let f = loose_new q in
        omega (arith, a, b, d, e, f)

    -- the store
    data_are : AreData p live (data_of selectors) (held_by found)
    data_are = data_met p live x selectors found met

    begins : (store_of (types_of p) live y
        ≡ record { statics = (store_of (types_of p) live x).statics; levels = (store_of (types_of p) live x).levels ++ held_by found ∷ [] }) × IsSound (types_of p) live y
    begins = holding_begins p alloc live flat x (data_of selectors) short (held_by found) data_are st.sound
        (λ q. let one = st.once q in let a = times_append q (blocks_of x) (loose_blocks old) in let b = loose_old q in omega (arith, one, a, b))

    abbrev stored : Store
    stored = record { statics = t.world.store.statics; levels = t.world.store.levels ++ held_by found ∷ [] }

    stored_is : stored ≡ store_of (types_of p) live y
    stored_is =
        ap (λ z. let w : Store = record { statics = z.statics; levels = z.levels ++ held_by found ∷ [] } in w) st.store ∙ sym begins.0

    level_is : length t.world.store.levels ≡ level
    level_is = ap (λ z. length z.levels) st.store ∙ length-map x.levels _

    levels_many : length old.levels.items.items ≡ level
    levels_many = ap length st.levels ∙ starts_many 0 x.levels

    -- names
    abbrev unit : ℕ
    unit = (placed l.place t.here).unit

    abbrev rs : List Reference
    rs = associates found level 0 unit

    added_are : AreNames p y begun.added rs
    added_are = names_are p alloc live x selectors found begun.added [] 0 unit short slots refl refl met named

    added_many : length begun.added ≡ k
    added_many =
        let f = named_count selectors begun.added named in
        let g = many in
        omega (arith, f, g)
      where
        named_count : (gs : List Selector) (ms : List Name) → AreNamed (map c.Selector gs) ms → length ms ≡ length gs
        named_count [] [] are = refl
        named_count [] (n ∷ ms) are = absurd are
        named_count (g ∷ gs) [] are = absurd are
        named_count (g ∷ gs) (n ∷ ms) are = ap suc (named_count gs ms are.1)

    here_was : IsHere p x ns old.here t.here
    here_was = here_stands p live Rest x ns old.here t.here (own old) t.stack st.stack

    here_is : IsHere p y (ns ++ begun.added) (naming k old.here) (m.associating rs t.here)
    here_is = record {
      place = here_was.place;
      unit = here_was.unit;
      level = here_was.level;
      variables = here_was.variables;
      names = subst (λ j. AreNamedIn p y (ns ++ begun.added) (record { from = old.here.names.from; count = old.here.names.count + j }) (t.here.names ++ rs)) added_many
          (named_more p y ns begun.added old.here.names t.here.names rs named_old hand added_are);
      selected = here_was.selected;
      room = here_was.room;
      stands = (rooms_more x slots).levels old.here.level _ here_was.stands;
      declared = here_was.declared;
    }
      where
        named_old : AreNamedIn p y ns old.here.names t.here.names
        named_old = named_within p x y (rooms_more x slots) ns ns (first_same ns) old.here.names t.here.names here_was.names

    named_is : AreNamedIn p y (ns ++ begun.added) (record { from = length ns; count = k }) rs
    named_is = subst (λ j. AreNamedIn p y (ns ++ begun.added) (record { from = length ns; count = j }) rs) added_many
        (named_behind p y ns begun.added rs added_are)

    -- cells
    abbrev cells : List Cell
    cells = c.Outside old.here ∷ level_cell ∷ at.met.more

    abbrev stack : List s.Cell
    stack = s.Outside t.here ∷ s.Level level rs ∷ at.on_top.below

    base_is : length (beneath old) ≡ old.base
    base_is = length-take-le old.base old.cells.items.items st.bottom

    cells_so : new.cells.items.items ≡ beneath old ++ ((reverse at.met.more ++ level_cell ∷ []) ++ c.Outside old.here ∷ [])
    cells_so =
        begun.cells ∙ ap (λ zs. (zs ++ level_cell ∷ []) ++ c.Outside old.here ∷ []) parts.0
        ∙ ap (λ zs. zs ++ c.Outside old.here ∷ []) (append_assoc (beneath old) (reverse at.met.more) (level_cell ∷ []))
        ∙ append_assoc (beneath old) (reverse at.met.more ++ level_cell ∷ []) (c.Outside old.here ∷ [])

    own_so : own new ≡ cells
    own_so =
        let tail = (reverse at.met.more ++ level_cell ∷ []) ++ c.Outside old.here ∷ [] in
        ap (λ b. cells_from b new.cells.items.items) (begun.base ∙ sym base_is) ∙ ap (cells_from (length (beneath old))) cells_so
        ∙ ap reverse (drop_front (beneath old) tail) ∙ reverse-append (reverse at.met.more ++ level_cell ∷ []) (c.Outside old.here ∷ [])
        ∙ ap (λ zs. c.Outside old.here ∷ zs) (reverse-append (reverse at.met.more) (level_cell ∷ []))
        ∙ ap (λ zs. c.Outside old.here ∷ level_cell ∷ zs) (reverse-reverse at.met.more)

    beneath_so : beneath new ≡ beneath old
    beneath_so =
        ap (λ b. take b new.cells.items.items) (begun.base ∙ sym base_is) ∙ ap (take (length (beneath old))) cells_so
        ∙ take_front (beneath old) ((reverse at.met.more ++ level_cell ∷ []) ++ c.Outside old.here ∷ [])

    before_is : before_level y (length old.levels.items.items) ≡ x
    before_is = ap (before_level y) levels_many
        ∙ ap (λ ls. let z : Rooms = record { statics = x.statics; levels = ls } in z) (take_front x.levels (slots ∷ []))

    more_stand : AreCells p live Rest (before_level y (length old.levels.items.items)) (take (length ns) (ns ++ begun.added)) old.here t.here at.met.more at.on_top.below
    more_stand =
        subst (λ z. AreCells p live Rest z (take (length ns) (ns ++ begun.added)) old.here t.here at.met.more at.on_top.below) (sym before_is)
        (subst (λ ms. AreCells p live Rest x ms old.here t.here at.met.more at.on_top.below) (sym (take_front ns begun.added)) at.met.cells)

    cells_stand : AreCells p live Rest y (ns ++ begun.added) (naming k old.here) (m.associating rs t.here) cells stack
    cells_stand = (tt, here_is, ((sym levels_many, named_is), tt, more_stand))

    callers_so : new.callers.items.items ≡ old.callers.items.items
    callers_so = ap (λ w. w.items.items) begun.callers

    names_count : length new.names.items.items ≡ length ns + k
    names_count =
        let e = length-append ns begun.added in
        let f = added_many in
        ap length begun.names ∙ omega (arith, e, f)

    stack_stands : AreCells p live (Beneath p live new t.frames) y new.names.items.items new.here (m.associating rs t.here) (own new) stack
    stack_stands =
        let a = subst (λ ms. AreCells p live Rest y ms (naming k old.here) (m.associating rs t.here) cells stack) (sym begun.names) cells_stand in
        let b = subst (λ h. AreCells p live Rest y new.names.items.items h (m.associating rs t.here) cells stack) (sym begun.here) a in
        let d = subst (λ zs. AreCells p live Rest y new.names.items.items new.here (m.associating rs t.here) zs stack) (sym own_so) b in
        let e = subst (λ zs. AreCells p live (AreCallers p live zs (reverse old.callers.items.items) t.frames) y new.names.items.items new.here (m.associating rs t.here) (own new) stack)
        (sym beneath_so) d in
        subst (λ fs. AreCells p live (AreCallers p live (beneath new) (reverse fs) t.frames) y new.names.items.items new.here (m.associating rs t.here) (own new) stack)
        (sym callers_so) e

    known_so : AreKnown p (site_at p (t.pc + 1)).cells (own new)
    known_so =
        subst (λ js. AreKnown p js (own new)) (sym (ap (λ z. z.cells) at.next))
        (subst (λ zs. AreKnown p (cell.Outside at.scope ∷ cell.Level at.kinds ∷ at.rest) zs) (sym own_so) (tt, (tt, at.met.known)))

    -- names and levels, one behind another
    hand_more : AreAtHand (length ns) old.here at.met.more
    hand_more = hand_beneath (length ns) old.here at.met.selectors at.met.more
        (subst (λ zs. AreAtHand (length ns) old.here zs) at.met.split (hand_told p t.pc (length ns) old.here (own old) at.scope at.scoped st.orderly))

    hand_so : AreAtHand (length new.names.items.items) new.here (own new)
    hand_so =
        subst (λ zs. AreAtHand (length new.names.items.items) new.here zs) (sym own_so)
        ((let e = hand in let f = names_count in ap (λ h. end_of h.names) begun.here ∙ omega (arith, e, f)), hand_more)

    orderly_so : IsOrderly p (t.pc + 1) (length new.names.items.items) new.here (own new)
    orderly_so =
        subst (λ o. InScope p.types.items (λ z. AreAtHand (length new.names.items.items) new.here (own new)) o) (sym (ap (λ z. z.scope) at.next)) hand_so

    abbrev Called : List Cell → List Caller → List (List Slot) → ℕ → Type 0
    Called = AreCalled p

    tight_more : AreTight (Called (beneath old) (reverse old.callers.items.items)) x.levels (length ns) at.met.more
    tight_more =
        tight_beneath (Called (beneath old) (reverse old.callers.items.items)) x.levels (length ns) at.met.selectors at.met.more
        (subst (λ zs. AreTight (Called (beneath old) (reverse old.callers.items.items)) x.levels (length ns) zs) at.met.split st.tight)

    rooms_few : rooms_at y.levels (length old.levels.items.items) ≤ k
    rooms_few =
        let e : rooms_at y.levels (length old.levels.items.items) ≡ length (data_blocks (data_of selectors)) =
        ap (rooms_at y.levels) levels_many ∙ ap (λ ss. length (level_rooms ss)) (last_at x.levels slots []) ∙ ap length held_rooms in
        let f = data_few selectors in
        let g = many in
        omega (arith, e, f, g)

    tight_cells : AreTight (Called (beneath old) (reverse old.callers.items.items)) y.levels (length new.names.items.items) cells
    tight_cells = (
      (let e = length-append x.levels (slots ∷ []) in let f = levels_many in omega (arith, e, f)),
      rooms_few,
      (let e = names_count in omega (arith, e)),
      subst (λ ls. AreTight (Called (beneath old) (reverse old.callers.items.items)) ls (length ns) at.met.more)
          (sym (ap (λ j. take j (x.levels ++ slots ∷ [])) levels_many ∙ take_front x.levels (slots ∷ []))) tight_more,
    )

    tight_so : AreTight (Called (beneath new) (reverse new.callers.items.items)) y.levels (length new.names.items.items) (own new)
    tight_so =
        subst (λ zs. AreTight (Called zs (reverse new.callers.items.items)) y.levels (length new.names.items.items) (own new)) (sym beneath_so)
        (subst (λ fs. AreTight (Called (beneath old) (reverse fs)) y.levels (length new.names.items.items) (own new)) (sym callers_so)
        (subst (λ zs. AreTight (Called (beneath old) (reverse old.callers.items.items)) y.levels (length new.names.items.items) zs) (sym own_so) tight_cells))

    bottom_so : new.base ≤ length new.cells.items.items
    bottom_so =
        let e = ap length cells_so in
        let f = length-append (beneath old) ((reverse at.met.more ++ level_cell ∷ []) ++ c.Outside old.here ∷ []) in
        let g = base_is in
        let j = begun.base in
        omega (arith, e, f, g, j)

    abbrev next : s.State
    next = record {
      pc = t.pc + 1;
      stack = stack;
      here = m.associating rs t.here;
      frames = t.frames;
      world = answering stored t.world.answers;
    }

    goes : (rest : ℕ → Bool) → does_so p l t (i.Associate k) (map s.Selector at.on_top.found ++ at.on_top.below) [] rest ≡ Goes (Entered (held_by found) ∷ []) (with_answers rest next)
    goes rest =
        let here = placed l.place t.here in
        let on_top = map s.Selector at.on_top.found ++ at.on_top.below in
        let w : World = answering t.world.store rest in
        let f : ℕ → World → s.State = λ j w. record {
          pc = t.pc + 1;
          stack = s.Outside t.here ∷ s.Level j (associates found j 0 unit) ∷ at.on_top.below;
          here = m.associating (associates found j 0 unit) t.here;
          frames = t.frames;
          world = w;
        } in
        takes_selectors at.on_top.found [] at.on_top.below k _ at.many
        ∙ first_looks (λ store. length store.levels) (λ j. enter (held_by found) >>= λ done. gives j) w f
        ∙ enters (held_by found) (length t.world.store.levels) w f
        ∙ ap (λ j. Goes (Entered (held_by found) ∷ []) (f j (answering stored rest))) level_is

    pub associate_do : Becomes p l t (Ok tt) live new
    associate_do = record {
      next = next;
      rooms = y;
      goes = line_goes p l t (i.Associate k) (map s.Selector at.on_top.found ++ at.on_top.below) next [] tt (Entered (held_by found) ∷ []) is at.on_top.split goes;
      stands = record {
        sound = begins.1;
        store = stored_is;
        statics = st.statics ∙ sym begun.statics;
        declared = st.declared;
        bare = st.bare;
        all_bare = bare_behind x.levels slots st.all_bare (level_bare p alloc live flat (data_of selectors) short);
        blocks = begun.blocks ∙ ap (λ bs. old.blocks.items.items ++ bs) (data_is ∙ sym held_rooms) ∙ ap (λ bs. bs ++ level_rooms slots) st.blocks
            ∙ sym (rooms_behind x.levels slots);
        levels = begun.levels ∙ ap (λ ns. ns ++ length old.blocks.items.items ∷ []) st.levels
            ∙ ap (λ j. starts_of 0 x.levels ++ j ∷ []) (let e = ap length st.blocks in omega (arith, e)) ∙ sym (starts_behind 0 x.levels slots);
        pc = ap (λ j. j + 1) st.pc ∙ sym begun.pc;
        bottom = bottom_so;
        known = known_so;
        stack = stack_stands;
        orderly = orderly_so;
        tight = tight_so;
        once = λ q. subst (λ j. j ≤ 1) (sym (sum_is q)) (st.once q);
        all = λ q alive. subst (λ j. 0 < j) (sym (sum_is q)) (st.all q alive);
        live = λ q some. st.live q (let e = loose_old q in let f = loose_new q in omega (arith, e, f, some));
        unpinned = st.unpinned;
      };
    }
