-- The line of an array constructor.
use Rattle.std.proofs.Common.{◌≡◌, ◌∙◌, ℕ, zero, suc, ◌+◌, ◌-◌, ◌*◌, ◌^◌, ◌<◌, ◌≤◌, Bool, true, false, List, [], ◌∷◌, ◌++◌, length, map, reverse, refl, sym, ap, subst, arith, append_assoc}
use Rattle.std.specs.Prelude.{Option, None, Some, Ok, Err, slice_get, pos}
use Rattle.std.specs.FinMap.{get as find}
use Rattle.std.proofs.lemmas.List.{reverse-append, append-nil}
use Rattle.f3_program.specs.declared.declarations.Base.{Base}
use Rattle.f3_program.specs.declared.program.Program.{Program}
use Rattle.f3_live_blocks.specs.Blocks.{Live, IsLive, words_of, with_taken, with_words}
use Rattle.f3_meaning_whole.specs.Act as m
use Rattle.f3_meaning_whole.specs.Act.{Here, claim_for, given}
use Rattle.f3_meaning_whole.specs.Eval.{built}
use Rattle.f3_meaning_whole.specs.Formed.{of_kind}
use Rattle.f3_meaning_whole.specs.Ran.{gives, ◌>>=◌}
use Rattle.f3_meaning_whole.specs.Value.{Value, Array, joined}
use Rattle.f3_meaning_whole.specs.Shape.{shape_in, shapes_of}
use Rattle.f3_meaning_whole.specs.declared.run_error.RunError.TheVariants.{HeapHasNoRoom}
use Rattle.f3_code.specs.declared.instruction.Instruction.TheVariants as i
use Rattle.f3_code.specs.Heap.{with_answers}
use Rattle.f3_code.specs.Machine.{argument_of, on, on_many, performs}
use Rattle.f3_code.specs.State.{Line, placed, Next}
use Rattle.f3_code.specs.State as s
use Rattle.f3_cell_kinds.specs.Types.{CellType}
use Rattle.f3_cell_kinds.specs.Types as cell
use Rattle.f3_objects.specs.Holds.{with_words_at}
use Rattle.f3_rooms.specs.Forms.{words_for}
use Rattle.f3_rooms.specs.Laws.{without}
use Rattle.f3_rooms.specs.Rooms.{Rooms}
use Rattle.f3_room_places.specs.declared.types.Types.{Types}
use Rattle.f3_room_places.specs.Places.{shapes}
use Rattle.f3_word_cells.specs.declared.cell.Area.{Area}
use Rattle.f3_word_cells.specs.declared.cell.Cell.{Cell}
use Rattle.f3_word_cells.specs.declared.cell.Cell.TheVariants as c
use Rattle.f3_word_cells.specs.declared.cell.Datum.{Datum}
use Rattle.f3_word_cells.specs.declared.cell.Datum.TheVariants as datum
use Rattle.f3_word_cells.specs.declared.cell.Passed.TheVariants as passed
use Rattle.f3_word_cells.specs.declared.state.State.{State}
use Rattle.f3_word_cells.specs.declared.state.Stop.{Stop}
use Rattle.f3_word_cells.specs.declared.state.Stop.TheVariants as stop
use Rattle.f3_word_cells.specs.Areas.{shape_for}
use Rattle.f3_word_cells.specs.Does.{DoesOver, GoesOn, IsTold, Keeps, RefusedAt, stream}
use Rattle.f3_word_cells.specs.Moves.{Pushed}
use Rattle.f3_word_cells.specs.Scenes.{code_of}
use Rattle.f3_word_cells.specs.Wants.{asked, wanted}
use Rattle.f3_word_cells.specs.Free.{AreFree}
use Rattle.f3_word_cells.specs.States.{Stands, datum_blocks}
use Rattle.f3_word_cells.proofs.Amid.{Amid, amid_last, amid_pushed}
use Rattle.f3_word_cells.proofs.Lines.{answering, claim_for_block, does_so, first_granted, first_refused, line_goes, line_refused, performs_gives, with_stack}
use Rattle.f3_word_cells.proofs.Moving.{moved_to}
use Rattle.f3_word_arrays.specs.Items.{IsApart, TookItem, base_of, datum_words}
use Rattle.f3_word_arrays.specs.Room.{TookRoom}
use Rattle.f3_word_arrays.specs.Rows.{IsRow}
use Rattle.f3_word_arrays.proofs.Given.{OnArray, on-array}
use Rattle.f3_word_arrays.proofs.Wanting.{given-wanted}
use Rattle.f3_word_arrays.proofs.Collecting.{Collected, Taken, collected-none, collected-more, item-apart, item-free, item-live, item-within, taken-one, top-there}
use Rattle.f3_word_arrays.proofs.Built.{all-amid, array-value, first-there, is-array, shape-same}

-- ---- the machine over values

pub takes-arguments : (ps xs : List m.Passed) (below : List s.Cell) (n : ℕ) (f : List m.Passed → List s.Cell → Next) → length ps ≡ n
    → on_many argument_of n xs (map s.Argument ps ++ below) f ≡ f (reverse ps ++ xs) below
takes-arguments [] xs below zero f e = refl
takes-arguments [] xs below (suc n) f e = absurd (omega arith)
takes-arguments (a ∷ ps) xs below zero f e = absurd (omega arith)
takes-arguments (a ∷ ps) xs below (suc n) f e =
    takes-arguments ps (a ∷ xs) below n f (omega arith)
    ∙ ap (λ l. f l below) (sym (ap (λ l. l ++ xs) (reverse-append (a ∷ []) ps) ∙ append_assoc (reverse ps) (a ∷ []) xs))

module _ (p : Program) (t : s.State) (l : Line) (n : ℕ) (h : OnArray p t n) (act : l.act ≡ i.Array n) where
  abbrev here : Here
  here = placed l.place t.here

  abbrev stack : List s.Cell
  stack = map s.Argument h.items ++ h.below

  abbrev built-so : List m.Passed → Value
  built-so ps = Array (record { lower = pos 1; extent = length (given ps) } ∷ []) (joined (given ps))

  abbrev value : Value
  value = built-so (reverse h.items)

  abbrev pub next : s.State
  next = moved_to t (t.pc + 1) (s.Datum value ∷ h.below) t.here t.world

  -- the run of the line, where the heap gives these answers
  builds-so : (given : List Bool) (rest : ℕ → Bool) → does_so p l t (i.Array n) stack given rest
      ≡ performs (m.claim here >>= λ done. gives value) (answering (t.world).store (stream given rest)) (λ x. on (with_answers (stream given rest) (with_stack stack t)) (s.Datum x ∷ h.below))
  builds-so given rest =
      takes-arguments h.items [] h.below n _ h.many
      ∙ ap (λ ps. performs (built (built-so ps) here) (answering (t.world).store (stream given rest)) (λ x. on (with_answers (stream given rest) (with_stack stack t)) (s.Datum x ∷ h.below))) (append-nil (reverse h.items))
      ∙ ap (λ r. performs (r >>= λ done. gives value) (answering (t.world).store (stream given rest)) (λ x. on (with_answers (stream given rest) (with_stack stack t)) (s.Datum x ∷ h.below))) (claim_for_block value here refl)

  pub array-goes : GoesOn p l t next []
  array-goes = line_goes p l t (i.Array n) stack next (false ∷ []) tt [] act h.split (λ rest.
      builds-so (false ∷ []) rest ∙ first_granted here (t.world).store [] rest (λ done. gives value) _ ∙ performs_gives value _ _)

  pub array-full : RefusedAt p l t
  array-full = line_refused p l t (i.Array n) stack act h.split (λ rest.
      builds-so (true ∷ []) rest ∙ first_refused here (t.world).store [] rest (λ done. gives value) _)

-- ---- sizes

pub array-short : (n size : ℕ) → 0 < n → n * size < 2 ^ 63 → size < 2 ^ 63
array-short zero size some short = absurd (omega arith)
array-short (suc n) size some short = omega arith

-- ---- stacks keep their room

keeps-then : (old mid new : State) → Keeps old mid → Keeps mid new → Keeps old new
keeps-then old mid new a b = record {
  cells = b.cells ∙ a.cells;
  names = b.names ∙ a.names;
  callers = b.callers ∙ a.callers;
  blocks = b.blocks ∙ a.blocks;
  levels = b.levels ∙ a.levels;
}

-- ---- amid the line

-- a type that the value on top tells of, as a body has found it
abbrev pub TellsOf : List Cell → Option Base → Type 0
TellsOf zs of = (front : List Cell) (number : ℕ) (d : Datum) → zs ≡ front ++ c.Argument (passed.Given number d) ∷ [] → of ≡ Some (base_of d)

module _ (p : Program) (m : Live) (old : State) (n : ℕ) where
  -- so many values were taken
  pub record Gathering (of : Base) (size block : ℕ) (live : Live) (now : State) (number : ℕ) : Type 0 where
    pub keeps : Keeps old now
    pub pc : now.pc ≡ old.pc
    pub fewer : length now.cells.items.items ≤ length old.cells.items.items
    pub bottom : now.base ≤ length now.cells.items.items
    pub shape : (t : s.State) (l : Line) (x : Rooms) (told : IsTold p t) (there : slice_get (code_of p).lines t.pc ≡ Some l) (act : l.act ≡ i.Array n) → Stands p m old x t
        → shape_for p of ≡ shape_for p (on-array p t l n told there act).of
    pub so : (t : s.State) (l : Line) (x : Rooms) (told : IsTold p t) (there : slice_get (code_of p).lines t.pc ≡ Some l) (act : l.act ≡ i.Array n) → Stands p m old x t
        → Collected p t n (on-array p t l n told there act) old x block live now number

  some-same : (a b : Base) → Some a ≡ Some b → a ≡ b
  some-same a b e = cc

  none-some : (b : Base) → None ≡ Some b → ⊥
  none-some b e = cc

  -- no value is on top
  pub array-untyped : (Full Spent : ℕ → Type 0) → (zs : List Cell) → zs ≡ old.cells.items.items → (live : Live) (new : State) → TellsOf zs None → DoesOver Full Spent p (i.Array n) (Err stop.Lost) m live old new
  array-untyped Full Spent zs same live new none t l x told there act st =
      let top = first-there p t n (on-array p t l n told there act) old x m st in
      absurd (none-some _ (none top.2 top.0 top.1 (same ∙ top.3)))

  pub array-shape : (zs : List Cell) → zs ≡ old.cells.items.items → (of : Base) → TellsOf zs (Some of) → (t : s.State) (l : Line) (x : Rooms) (told : IsTold p t) (there : slice_get (code_of p).lines t.pc ≡ Some l) (act : l.act ≡ i.Array n)
      → Stands p m old x t → shape_for p of ≡ shape_for p (on-array p t l n told there act).of
  array-shape zs same of some t l x told there act st =
      let top = first-there p t n (on-array p t l n told there act) old x m st in
      ap (shape_for p) (some-same of (base_of top.1) (some top.2 top.0 top.1 (same ∙ top.3))) ∙ top.4

  -- how many words an element has
  pub array-size : (types : Types) → types.derived.now ≡ p.types.items → (of : Base) (size : ℕ) → size ≡ words_for (shape_in (shapes types) of) → size ≡ words_for (shape_for p of)
  array-size types derived of size e = e ∙ ap (λ ds. words_for (shape_in (shapes_of ds) of)) derived

  module _ (of : Base) (size : ℕ) (is-size : size ≡ words_for (shape_for p of)) (block : ℕ) where
    -- the size is that of the type of all
    size-for : (live : Live) (now : State) (number : ℕ) → Gathering of size block live now number → (t : s.State) (l : Line) (x : Rooms) (told : IsTold p t)
        (there : slice_get (code_of p).lines t.pc ≡ Some l) (act : l.act ≡ i.Array n) → Stands p m old x t → size ≡ words_for (shape_for p (on-array p t l n told there act).of)
    size-for live now number g t l x told there act st = is-size ∙ ap words_for (g.shape t l x told there act st)

    pub gathering-none : (zs : List Cell) → zs ≡ old.cells.items.items → (live : Live) → TellsOf zs (Some of) → find m block ≡ None → live ≡ with_taken m block (n * size) → old.base ≤ length old.cells.items.items
        → Gathering of size block live old 0
    gathering-none zs same live some fresh is bottom = record {
      keeps = record { cells = refl; names = refl; callers = refl; blocks = refl; levels = refl };
      pc = refl;
      fewer = omega arith;
      bottom = bottom;
      shape = array-shape zs same of some;
      so = λ t l x told there act st.
          collected-none p t n (on-array p t l n told there act) old x block m live st fresh
          (is ∙ ap (λ k. with_taken m block (n * k)) (is-size ∙ ap words_for (array-shape zs same of some t l x told there act st)));
    }

    module _ (live : Live) (now : State) (number : ℕ) (g : Gathering of size block live now number) (lt : number < n) where
      pub array-lost : (Full Spent : ℕ → Type 0) → (new : Live) (mid last : State) → TookItem None now mid → DoesOver Full Spent p (i.Array n) (Err stop.Lost) m new old last
      array-lost Full Spent new mid last none t l x told there act st =
          let top = top-there p t n (on-array p t l n told there act) old x block live now number (g.so t l x told there act st) lt in
          absurd (none top.0 top.1 top.2 top.3)

      module _ (mid : State) (d : Datum) (took : TookItem (Some d) now mid) (at : ℕ) (at-is : at ≡ (n - 1 - number) * size) where
        module _ (t : s.State) (l : Line) (x : Rooms) (told : IsTold p t) (there : slice_get (code_of p).lines t.pc ≡ Some l) (act : l.act ≡ i.Array n) (st : Stands p m old x t) where
          abbrev h : OnArray p t n
          h = on-array p t l n told there act

          one : Taken p t n h old x block live mid number d
          one = taken-one p t n h old x block live now number (g.so t l x told there act st) lt mid took.0 d took.1

          at-same : at ≡ length (one.items) * words_for (shape_for p h.of)
          at-same =
              let left : n - 1 - number ≡ length (one.items) = let e = one.left in omega arith in
              at-is ∙ ap (λ k. k * size) left ∙ ap (λ k. length (one.items) * k) (size-for live now number g t l x told there act st)

          pub array-live : IsLive live block
          array-live = item-live p t n h old x block live mid number d one at at-same

          pub array-apart : IsApart live block d
          array-apart = item-apart p t n h old x block live mid number d one at at-same

          pub array-within : at + length (datum_words live d) ≤ length (words_of live block)
          array-within = item-within p t n h old x block live mid number d one at at-same

          pub array-free : AreFree (with_words live block (with_words_at (words_of live block) at (datum_words live d))) (datum_blocks d)
          array-free = item-free p t n h old x block live mid number d one at at-same

        pub gathering-more : (new : Live) → new ≡ without (datum_blocks d) (with_words live block (with_words_at (words_of live block) at (datum_words live d))) → Keeps now mid
            → Gathering of size block new mid (number + 1)
        gathering-more new is keeps =
            let popped = took.1 in
            let few = popped.fewer in
            record {
              keeps = keeps-then old now mid g.keeps keeps;
              pc = popped.pc ∙ g.pc;
              fewer = let e = g.fewer in omega arith;
              bottom = popped.same.bottom g.bottom;
              shape = g.shape;
              so = λ t l x told there act st. collected-more p t n (on-array p t l n told there act) old x block live mid number d (one t l x told there act st) at (at-same t l x told there act st) new is;
            }

    -- all are taken, and the array stands on top
    pub array-made : (Full Spent : ℕ → Type 0) → (live : Live) (now new : State) (a : Area) → Gathering of size block live now n → IsRow a block n size of → Pushed (c.Datum (datum.Block a)) (now.pc + 1) now new
        → DoesOver Full Spent p (i.Array n) (Ok tt) m live old new
    array-made Full Spent live now new a g is pushed t l x told there act st =
        let h : OnArray p t n = on-array p t l n told there act in
        let col = g.so t l x told there act st in
        let shape = g.shape t l x told there act st in
        let words = size-for live now n g t l x told there act st in
        let value = array-value p t n h old x block live now col a size of is shape words in
        let hand = subst (λ (b : ℕ). Amid p t live old now x h.rest h.below (t.world).store (b ∷ [])) (sym is.block) (all-amid p t n h old x block live now col a size of is shape words) in
        let amid = amid_pushed p t live old now new x (cell.Datum (of_kind h.of 1)) h.rest (s.Datum value) h.below (t.world).store [] (c.Datum (datum.Block a)) (now.pc + 1) hand pushed tt
        (is-array p t n h old x block live now col a size of is shape words) (shape-same p t n h old x block live now col a size of is shape words) in
        record {
          next = next p t l n h act;
          rooms = x;
          goes = array-goes p t l n h act;
          stands = amid_last p t m live old new x (cell.Datum (of_kind h.of 1) ∷ h.rest) (t.pc + 1) (s.Datum value ∷ h.below) t.world st amid h.next
              (ap (λ k. k + 1) (st.pc ∙ sym g.pc) ∙ sym pushed.pc);
        }

  -- no block was taken
  module _ (of : Base) (size : ℕ) (is-size : size ≡ words_for (shape_for p of)) (zs : List Cell) (same : zs ≡ old.cells.items.items) (some : TellsOf zs (Some of)) where
    asks-array : (t : s.State) (l : Line) (x : Rooms) → IsTold p t → slice_get (code_of p).lines t.pc ≡ Some l → l.act ≡ i.Array n → Stands p m old x t → n * size ≡ wanted p l.act t
    asks-array t l x told there act st =
        ap (λ k. n * k) (is-size ∙ ap words_for (array-shape zs same of some t l x told there act st))
        ∙ sym (ap (λ (y : _). wanted p y t) act ∙ given-wanted p t n (on-array p t l n told there act) old x m told st)

    pub array-failed : (Full Spent : ℕ → Type 0) (live : Live) (e : Stop) (new : State) → TookRoom Full Spent m live (n * size) (Err e) → DoesOver Full Spent p (i.Array n) (Err e) m live old new
    array-failed Full Spent live (stop.Failed HeapHasNoRoom) new took t l x told there act st =
        (array-full p t l n (on-array p t l n told there act) act, subst (λ k. Full (asked k)) (asks-array t l x told there act st) took)
    array-failed Full Spent live stop.Memory new took t l x told there act st = subst (λ k. Spent (asked k)) (asks-array t l x told there act st) took
    array-failed Full Spent live e new took t l x told there act st = absurd took
