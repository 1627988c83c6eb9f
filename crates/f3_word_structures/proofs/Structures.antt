-- The line of a structure constructor.
use Rattle.std.proofs.Common.{◌≡◌, ◌≢◌, ◌∙◌, inl, inr, ℕ, zero, suc, ◌+◌, ◌-◌, ◌*◌, ◌^◌, ◌<◌, ◌≤◌, Bool, true, false, List, [], ◌∷◌, ◌++◌, length, map, drop, reverse, append-nil, refl, sym, ap, subst, arith}
use Rattle.std.specs.Prelude.{⊤, ◌⊎◌, ℤ, pos, Option, None, Some, Ok, Err, slice_get, slice_index_or}
use Rattle.std.specs.FinMap.{get as find}
use Rattle.f3_program.specs.declared.declarations.Base.TheVariants as base
use Rattle.f3_program.specs.declared.declarations.Component.{Component}
use Rattle.f3_program.specs.declared.program.Program.{Program}
use Rattle.f3_live_blocks.specs.Blocks.{Live, IsLive, words_of, with_taken, with_words}
use Rattle.f3_live_blocks.proofs.Laws.{fresh-apart, live-insert}
use Rattle.f3_meaning_whole.specs.Act as meaning
use Rattle.f3_meaning_whole.specs.Act.{Here, components_of, passed_at}
use Rattle.f3_meaning_whole.specs.Eval.{built}
use Rattle.f3_meaning_whole.specs.Formed.{of_kind}
use Rattle.f3_meaning_whole.specs.Ran.{◌>>=◌}
use Rattle.f3_meaning_whole.specs.Shape.{Shape, Parts}
use Rattle.f3_meaning_whole.specs.Value.{Value, Composite}
use Rattle.f3_meaning_whole.specs.declared.run_error.RunError.{RunError}
use Rattle.f3_meaning_whole.specs.declared.run_error.RunError.TheVariants as error
use Rattle.f3_meaning_whole.specs.declared.run_error.RunError.TheVariants.{HeapHasNoRoom}
use Rattle.f3_code.specs.declared.instruction.Instruction.TheVariants as i
use Rattle.f3_code.specs.Heap.{with_answers}
use Rattle.f3_code.specs.Machine.{on, performs}
use Rattle.f3_code.specs.State.{Line, Failed, placed}
use Rattle.f3_code.specs.State as s
use Rattle.f3_cell_kinds.specs.Types.{CellType}
use Rattle.f3_cell_kinds.specs.Types as cell
use Rattle.f3_desc.specs.declared.descriptor.Dim.{Dim}
use Rattle.f3_desc.specs.Laws.{IsContiguous, size_of}
use Rattle.f3_objects.proofs.Writes.{with_words_again, with_words_same, live-with}
use Rattle.f3_rooms.specs.Forms.{total, words_for}
use Rattle.f3_rooms.specs.Held.{Empty}
use Rattle.f3_rooms.specs.Laws.{without}
use Rattle.f3_rooms.specs.Places.{is_scalar_shape, with_word}
use Rattle.f3_rooms.specs.Rooms.{Rooms}
use Rattle.f3_rooms.specs.Values.{laid as laid-as, object, word}
use Rattle.f3_room_levels.specs.Initial.{AllCanBegin, declared_each}
use Rattle.f3_room_levels.specs.Writing.{IsBlank, with_words_from}
use Rattle.f3_room_levels.proofs.Begun.{taken_blank}
use Rattle.f3_room_levels.proofs.Written.{from_are, written_from}
use Rattle.f3_room_objects.proofs.Windows.{WordsAre}
use Rattle.f3_room_places.specs.declared.types.Types.{Types}
use Rattle.f3_word_arrays.specs.Items.{IsApart}
use Rattle.f3_word_arrays.proofs.Arrays.{takes-arguments}
use Rattle.f3_word_arrays.proofs.Words.{taken-long}
use Rattle.f3_word_cells.specs.declared.cell.Area.{Area}
use Rattle.f3_word_cells.specs.declared.cell.Cell.{Cell}
use Rattle.f3_word_cells.specs.declared.cell.Cell.TheVariants as c
use Rattle.f3_word_cells.specs.declared.cell.Datum.{Datum}
use Rattle.f3_word_cells.specs.declared.cell.Datum.TheVariants as datum
use Rattle.f3_word_cells.specs.declared.cell.Passed.TheVariants as passed
use Rattle.f3_word_cells.specs.declared.state.State.{State}
use Rattle.f3_word_cells.specs.declared.state.Stop.TheVariants as stop
use Rattle.f3_word_cells.specs.Areas.{IsBlock, IsDatum, shape_for, spans_of, types_of, value_in}
use Rattle.f3_word_cells.specs.Does.{Becomes, BecomesOver, DoesOver, GoesOn, IsTold, Keeps, RefusedAt, StopsSo, stream}
use Rattle.f3_word_cells.specs.Free.{AreFree}
use Rattle.f3_word_cells.specs.Moves.{Popped, PoppedOr, Pushed}
use Rattle.f3_word_cells.specs.Scenes.{code_of}
use Rattle.f3_word_cells.specs.States.{Stands, cell_blocks, own}
use Rattle.f3_word_cells.specs.Wants.{asked, wanted}
use Rattle.f3_word_cells.proofs.Amid.{Amid, amid_first, amid_last, amid_pushed, amid_taken, amid_written, hand_alone, hand_live}
use Rattle.f3_word_cells.proofs.Lines.{answering, does_so, line_goes, line_refused, line_stops, with_stack}
use Rattle.f3_word_cells.proofs.Moving.{Beneath, moved_to}
use Rattle.f3_word_structures.specs.Fitting.{AreGiven, Checked, TestedAt, TestedFor}
use Rattle.f3_word_structures.specs.Members.{AreApart, AreWhole, IsObjectIn, given_in, structure_words}
use Rattle.f3_word_structures.proofs.Built.{all-take, are-whole, can-begin, object-shows, tree, words-total}
use Rattle.f3_word_structures.proofs.Components.{AllTake, First, Refuses, Takes, first-of, grants, grants-granted, some-grants, some-granted, values-for, whole, whole-fails, whole-goes, whole-refused}
use Rattle.f3_word_structures.proofs.Held.{Agree, AreHeld, found-alike, held-given, held-on-top, held-reverse, last-cells}
use Rattle.f3_word_structures.proofs.Filling.{all-long}
use Rattle.f3_word_structures.proofs.Given.{OnStructure, on-structure}
use Rattle.f3_word_structures.proofs.Popping.{Went, some-left, went-all, went-free, went-more}

-- ---- words of one block

-- only its words change
one-block : (live : Live) (b o : ℕ) (ws : List ℤ) → IsLive live b → (xs : List ℤ) × (with_words_from live b o ws ≡ with_words live b xs)
one-block live b o [] alive = (words_of live b, sym (with_words_same live b alive))
one-block live b o (w ∷ ws) alive =
    let more = one-block (with_word live b o w) b (o + 1) ws (live-with live b _) in
    (more.0, more.1 ∙ with_words_again live b _ more.0)

words-move : (live mid : Live) (b o : ℕ) (ws : List ℤ) → words_of mid b ≡ words_of live b → WordsAre live b o ws → WordsAre mid b o ws
words-move live mid b o [] e are = tt
words-move live mid b o (w ∷ ws) e are = (ap (λ (us : List ℤ). slice_index_or us o (pos 0)) e ∙ are.0, words-move live mid b (o + 1) ws e are.1)

-- what errors there are
one-error : (d : _) (a : Option meaning.Passed) (e : RunError) → TestedFor d a (Err e) → (e ≡ error.ShapesDiffer) ⊎ (e ≡ error.Overflow)
one-error d None e bad = absurd bad
one-error d (Some (meaning.Lent k r)) e bad = absurd bad
one-error d (Some (meaning.Given k v)) error.ShapesDiffer bad = inl refl
one-error d (Some (meaning.Given k v)) error.Overflow bad = inr refl
one-error d (Some (meaning.Given k v)) e bad = absurd bad

-- ---- the machine over values

module _ (p : Program) (t : s.State) (l : Line) (of n : ℕ) (told : IsTold p t) (h : OnStructure p t of n) (act : l.act ≡ i.Structure of n) where
  abbrev here : Here
  here = placed l.place t.here

  abbrev pub shapes : List Shape
  shapes = types_of p

  abbrev pub members : List Component
  members = (h.type).components.items

  abbrev pub items : List meaning.Passed
  items = reverse h.items

  abbrev stack : List s.Cell
  stack = map s.Argument h.items ++ h.below

  abbrev pub value : Value
  value = Composite (values-for shapes items 0 members)

  abbrev pub next : s.State
  next = moved_to t (t.pc + 1) (s.Datum value ∷ h.below) t.here t.world

  -- the run of the line, where the heap gives these answers
  builds-so : (given : List Bool) (rest : ℕ → Bool) → does_so p l t (i.Structure of n) stack given rest
      ≡ performs (whole here (t.world).store rest shapes items members) (answering (t.world).store (stream given rest)) (λ x. on (with_answers (stream given rest) (with_stack stack t)) (s.Datum x ∷ h.below))
  builds-so given rest =
      let run : Parts → List meaning.Passed → _ = λ parts qs. performs (meaning.structure parts 0 qs here >>= λ vs. built (Composite vs) here) (answering (t.world).store (stream given rest))
      (λ x. on (with_answers (stream given rest) (with_stack stack t)) (s.Datum x ∷ h.below)) in
      takes-arguments h.items [] h.below n _ h.many
      ∙ ap (run (components_of (shape_for p (base.Derived of)))) (append-nil (reverse h.items))
      ∙ ap (λ (y : Shape). run (components_of y) items) (tree p of h.type h.there told.formed)

  pub structure-goes : AllTake shapes items 0 members → GoesOn p l t next []
  structure-goes all = line_goes p l t (i.Structure of n) stack next (grants shapes items members) (grants-granted shapes items members) [] act h.split (λ rest.
      builds-so (grants shapes items members) rest ∙ whole-goes here (t.world).store rest shapes items members _ all)

  pub structure-refused : AllTake shapes items 0 members → RefusedAt p l t
  structure-refused all = line_refused p l t (i.Structure of n) stack act h.split (λ rest.
      builds-so (true ∷ []) rest ∙ whole-refused here (t.world).store rest shapes items members _ all)

  pub structure-stops : (number : ℕ) (e : RunError) → First shapes items 0 number members e → StopsSo p l t (Failed e here.place) []
  structure-stops number e first = line_stops p l t (i.Structure of n) stack (Failed e here.place) (some-grants shapes items 0 number members) (some-granted shapes items 0 number members) act h.split (λ rest.
      builds-so (some-grants shapes items 0 number members) rest ∙ whole-fails here (t.world).store rest shapes items number members e _ first)

-- ---- at the line

module _ (p : Program) (m : Live) (old : State) (of n : ℕ) where
  module _ (t : s.State) (l : Line) (x : Rooms) (told : IsTold p t) (there : slice_get (code_of p).lines t.pc ≡ Some l) (act : l.act ≡ i.Structure of n)
      (st : Stands p m old x t) where
    abbrev pub h : OnStructure p t of n
    h = on-structure p t l of n told there act

    abbrev kinds : List CellType
    kinds = map cell.Argument h.givens ++ h.rest

    abbrev cells : List s.Cell
    cells = map s.Argument h.items ++ h.below

    first : Amid p t m old old x kinds cells (t.world).store []
    first = amid_first p t m old x kinds cells st h.kinds h.split

    -- the arguments, in their order
    module _ (live : Live) (hand : List ℕ) (amid : Amid p t live old old x kinds cells (t.world).store hand) (len : ℕ) (all : len ≡ length old.cells.items.items) where
      on-top : (n ≤ length old.cells.items.items) × AreHeld p live h.type (drop (len - n) old.cells.items.items) (reverse h.items)
      on-top =
          let top = held-on-top p live h.type (Beneath p live old t.frames) x old.names.items.items old.here t.here h.rest h.below h.givens h.items (own old) h.are amid.cells amid.known in
          let last = last-cells old top.tops top.more len n top.split (top.many ∙ h.many) all in
          (last.0, subst (λ zs. AreHeld p live h.type zs (reverse h.items)) (sym last.1) (held-reverse p live h.type top.tops h.items top.are))

    pub enough : (len : ℕ) → len ≡ length old.cells.items.items → n ≤ length old.cells.items.items
    enough len all = (on-top m [] first len all).0

    pub given-there : (types : Types) → types.derived.now ≡ p.types.items → (len : ℕ) → len ≡ length old.cells.items.items
        → AreGiven p types m (drop (len - n) old.cells.items.items) (reverse h.items)
    given-there types derived len all = held-given p m h.type types derived _ _ (on-top m [] first len all).1

    -- ---- a component cannot take its value

    takes-at : (zs : List Cell) → AreHeld p m h.type zs (reverse h.items) → (k : ℕ) (c : Component) → slice_get (h.type).components.items k ≡ Some c
        → TestedFor c.declared (passed_at k (reverse h.items)) (Ok tt) → Takes (types_of p) (reverse h.items) c (passed_at k (reverse h.items))
    takes-at zs held k c e tested = by (given_in k zs) (found-alike p m h.type k zs (reverse h.items) held)
      where
        by : (o : Option Datum) → Agree p m h.type k o (reverse h.items) → Takes (types_of p) (reverse h.items) c (passed_at k (reverse h.items))
        by None none = subst (Takes (types_of p) (reverse h.items) c) (sym none) tt
        by (Some d) found = subst (Takes (types_of p) (reverse h.items) c) (sym found.passed)
            ((h.plain k c e), subst (λ a. TestedFor c.declared a (Ok tt)) found.passed tested)

    refuses-at : (k : ℕ) (c : Component) (e : RunError) → slice_get (h.type).components.items k ≡ Some c → (a : Option meaning.Passed) → TestedFor c.declared a (Err e)
        → Refuses (types_of p) (reverse h.items) c a e
    refuses-at k c e at None bad = absurd bad
    refuses-at k c e at (Some (meaning.Given j v)) bad = (h.plain k c at, bad)
    refuses-at k c e at (Some (meaning.Lent j r)) bad = absurd bad

    pub check-fails : (Full Spent : ℕ → Type 0) (live : Live) (new : State) (len : ℕ) → len ≡ length old.cells.items.items → (e : RunError) → Checked (h.type).components.items (reverse h.items) (Err e)
        → BecomesOver Full Spent p l t (Err (stop.Failed e)) live new
    check-fails Full Spent live new len all e bad =
        let number = bad.0 in
        let at = bad.1 in
        let zero-on : 0 + number ≡ number = omega arith in
        let refuses = refuses-at number at.component e at.there (passed_at number (reverse h.items)) at.fails in
        let held = (on-top m [] first len all).1 in
        let up-to = first-of (types_of p) (reverse h.items) 0 number (h.type).components.items at.component e at.there
        (subst (λ k. Refuses (types_of p) (reverse h.items) at.component (passed_at k (reverse h.items)) e) (sym zero-on) refuses)
        (λ j c lt is. let same : 0 + j ≡ j = omega arith in
        subst (λ k. Takes (types_of p) (reverse h.items) c (passed_at k (reverse h.items))) (sym same) (takes-at _ held j c is (at.before j c lt is))) in
        let stops = structure-stops p t l of n told h act number e up-to in
        by (one-error at.component.declared (passed_at number (reverse h.items)) e at.fails) stops
      where
        by : (e ≡ error.ShapesDiffer) ⊎ (e ≡ error.Overflow) → StopsSo p l t (Failed e (placed l.place t.here).place) [] → BecomesOver Full Spent p l t (Err (stop.Failed e)) live new
        by (inl is) stops = subst (λ (r : RunError). BecomesOver Full Spent p l t (Err (stop.Failed r)) live new) (sym is)
            (subst (λ (r : RunError). StopsSo p l t (Failed r (placed l.place t.here).place) []) is stops)
        by (inr is) stops = subst (λ (r : RunError). BecomesOver Full Spent p l t (Err (stop.Failed r)) live new) (sym is)
            (subst (λ (r : RunError). StopsSo p l t (Failed r (placed l.place t.here).place) []) is stops)

    -- ---- all can

    module _ (checked : Checked (h.type).components.items (reverse h.items) (Ok tt)) (len : ℕ) (all : len ≡ length old.cells.items.items) where
      takes-all : AllTake (types_of p) (reverse h.items) 0 (h.type).components.items
      takes-all = all-take p of h.type h.there told.formed m _ (reverse h.items) (on-top m [] first len all).1 told.sense checked

      pub no-room : RefusedAt p l t
      no-room = structure-refused p t l of n told h act takes-all

      -- a block is taken
      module _ (block size : ℕ) (mid : Live) (fresh : find m block ≡ None) (is-size : size ≡ words_for (shape_for p (base.Derived of))) (taken : mid ≡ with_taken m block size) where
        abbrev zs : List Cell
        zs = drop (len - n) old.cells.items.items

        abbrev cs : List Component
        cs = (h.type).components.items

        abbrev ts : List Shape
        ts = types_of p

        hand : Amid p t mid old old x kinds cells (t.world).store (block ∷ [])
        hand = subst (λ (y : Live). Amid p t y old old x kinds cells (t.world).store (block ∷ [])) (sym taken)
            (amid_taken p t m old old x kinds cells (t.world).store [] first block size fresh)

        held-mid : AreHeld p mid h.type zs (reverse h.items)
        held-mid = (on-top mid (block ∷ []) hand len all).1

        pub fit-there : AllCanBegin ts (declared_each cs)
        fit-there = can-begin p of h.type h.there told.formed told.sense

        pub blank-there : IsBlank mid block 0 (total ts (declared_each cs))
        blank-there =
            let e = is-size ∙ words-total p of h.type h.there told.formed in
            taken_blank m mid size block taken (total ts (declared_each cs)) (omega (arith, e))

        pub whole-there : AreWhole ts mid zs 0 cs
        whole-there = are-whole p of h.type h.there told.formed mid zs (reverse h.items) held-mid told.sense checked

        -- each value is in another block
        pub apart-there : AreApart mid block zs
        apart-there = by zs (reverse h.items) (on-top m [] first len all).1
          where
            apart-one : (d : Datum) (v : Value) → IsDatum p m d v → IsApart mid block d
            apart-one (datum.Scalar z) v is = tt
            apart-one (datum.Block a) v is =
                (subst (λ (y : Live). IsLive y (a.elements).block) (sym taken) (live-insert m block _ (a.elements).block is.0.live), fresh-apart m block (a.elements).block fresh is.0.live)

            by : (us : List Cell) (qs : List meaning.Passed) → AreHeld p m h.type us qs → AreApart mid block us
            by [] [] are = tt
            by [] (q ∷ qs) are = absurd are
            by (c.Argument (passed.Given j d) ∷ us) [] are = absurd are
            by (c.Argument (passed.Given j d) ∷ us) (meaning.Given k v ∷ qs) are = (apart-one d v are.1.is, by us qs are.2)
            by (c.Argument (passed.Given j d) ∷ us) (meaning.Lent k r ∷ qs) are = absurd are
            by (z ∷ us) qs are = absurd are

        -- its words are written
        module _ (then : Live) (written : then ≡ with_words_from mid block 0 (structure_words ts mid zs 0 cs)) where
          abbrev ws : List ℤ
          ws = structure_words ts mid zs 0 cs

          alive : IsLive mid block
          alive = blank-there.live

          long-mid : length (words_of mid block) ≡ size
          long-mid = ap (λ (y : Live). length (words_of y block)) taken ∙ taken-long m block size

          then-long : length (words_of then block) ≡ size
          then-long = ap (λ (y : Live). length (words_of y block)) written ∙ (written_from mid block 0 ws).long block ∙ long-mid

          then-are : WordsAre then block 0 ws
          then-are = subst (λ (y : Live). WordsAre y block 0 ws) (sym written) (from_are mid block 0 ws
              (let e = all-long ts mid zs 0 cs fit-there whole-there in let f = long-mid in let g = is-size ∙ words-total p of h.type h.there told.formed in omega (arith, e, f, g)))

          then-hand : Amid p t then old old x kinds cells (t.world).store (block ∷ [])
          then-hand =
              let one = one-block mid block 0 ws alive in
              subst (λ (y : Live). Amid p t y old old x kinds cells (t.world).store (block ∷ [])) (sym (written ∙ one.1))
              (amid_written p t mid old old x kinds cells (t.world).store block [] hand one.0)

          pub went-none : Went p t of n h old x block (words_of then block) then old 0
          went-none = record {
            givens = h.givens;
            items = h.items;
            are = h.are;
            left = let e = h.many in omega (arith, e);
            amid = then-hand;
            words = refl;
          }

          -- all arguments went, and the object stands on top
          module _ (live : Live) (now new : State) (a : Area) (went : Went p t of n h old x block (words_of then block) live now n) (is : IsObjectIn block of a) (line : now.pc ≡ old.pc)
              (pushed : Pushed (c.Datum (datum.Block a)) (now.pc + 1) now new) where
            abbrev shape : Shape
            shape = shape_for p (base.Derived of)

            last-hand : Amid p t live old now x h.rest h.below (t.world).store (block ∷ [])
            last-hand = went-all p t of n h old x block (words_of then block) live now went

            same-shape : shape_for p a.of ≡ shape
            same-shape = ap (shape_for p) is.of

            value-is : value p t l of n told h act ≡ value_in p live a
            value-is =
                sym (object-shows p of h.type h.there told.formed mid zs (reverse h.items) held-mid told.sense checked live block (words-move then live block 0 ws went.words then-are))
                ∙ ap (λ b. laid-as 0 [] (words_for shape) (object live shape) b 0 Empty) (sym is.block)
                ∙ ap (λ (ds : List Dim). laid-as (length ds) (spans_of ds) (words_for shape) (object live shape) (a.elements).block 0 Empty) (sym is.dims)
                ∙ ap (λ (y : Shape). laid-as (length (a.elements).dims.items) (spans_of (a.elements).dims.items) (words_for y) (object live y) (a.elements).block 0 Empty) (sym same-shape)

            is-block : IsBlock p live a
            is-block = record {
              offset = is.offset;
              large = inr (ap is_scalar_shape (same-shape ∙ tree p of h.type h.there told.formed));
              contiguous = inr (subst (IsContiguous (pos (words_for (shape_for p a.of)))) (sym is.dims) tt);
              live = subst (IsLive live) (sym is.block) (hand_live p t live old now x h.rest h.below (t.world).store block [] last-hand);
              words = ap (λ b. length (words_of live b)) is.block ∙ ap length went.words ∙ then-long ∙ is-size
                  ∙ (let one : size_of (a.elements).dims.items ≡ 1 = ap size_of is.dims in
                  let e : words_for shape ≡ 1 * words_for shape = omega arith in
                  e ∙ ap (λ k. k * words_for shape) (sym one)) ∙ ap (λ (y : Shape). size_of (a.elements).dims.items * words_for y) (sym same-shape);
            }

            pub structure-made : Becomes p l t (Ok tt) live new
            structure-made =
                let v = value p t l of n told h act in
                let ready = subst (λ b. Amid p t live old now x h.rest h.below (t.world).store (b ∷ [])) (sym is.block) last-hand in
                let amid = amid_pushed p t live old now new x (cell.Datum (of_kind (base.Derived of) 0)) h.rest (s.Datum v) h.below (t.world).store [] (c.Datum (datum.Block a)) (now.pc + 1)
                ready pushed tt (is-block, value-is) same-shape in
                record {
                  next = next p t l of n told h act;
                  rooms = x;
                  goes = structure-goes p t l of n told h act takes-all;
                  stands = amid_last p t m live old new x (cell.Datum (of_kind (base.Derived of) 0) ∷ h.rest) (t.pc + 1) (s.Datum v ∷ h.below) t.world st amid h.next
                      (ap (λ k. k + 1) (st.pc ∙ sym line) ∙ sym pushed.pc);
                }
