-- Values are taken from the top, the last one first, and stand in a new block.
use Rattle.std.proofs.Common.{◌≡◌, ◌∙◌, ℕ, suc, ◌+◌, ◌*◌, ◌<◌, ◌≤◌, List, [], ◌∷◌, ◌++◌, length, map, reverse, get_or, refl, sym, ap, subst, arith, append_assoc}
use Rattle.std.specs.Prelude.{None, pos}
use Rattle.std.specs.FinMap.{get as find}
use Rattle.std.proofs.lemmas.List.{reverse-append, append-nil, length-replicate}
use Rattle.f3_program.specs.declared.program.Program.{Program}
use Rattle.f3_live_blocks.specs.Blocks.{Live, IsLive, words_in, words_of, with_taken, with_words}
use Rattle.f3_live_blocks.proofs.Laws.{get-remove_other, words-insert_same}
use Rattle.f3_meaning_whole.specs.Act as m
use Rattle.f3_meaning_whole.specs.Act.{given}
use Rattle.f3_meaning_whole.specs.Formed as formed
use Rattle.f3_meaning_whole.specs.Store.{Store}
use Rattle.f3_meaning_whole.specs.Value.{Value}
use Rattle.f3_meaning_whole.specs.Shape.{Shape}
use Rattle.f3_code.specs.State as s
use Rattle.f3_cell_kinds.specs.Types.{CellType}
use Rattle.f3_cell_kinds.specs.Types as cell
use Rattle.f3_objects.specs.Holds.{with_words_at}
use Rattle.f3_objects.proofs.Spans.{length-written}
use Rattle.f3_objects.proofs.Writes.{words-with}
use Rattle.f3_rooms.specs.Held.{Empty, times}
use Rattle.f3_rooms.specs.Forms.{words_for}
use Rattle.f3_rooms.specs.Laws.{without}
use Rattle.f3_rooms.specs.Rooms.{Rooms}
use Rattle.f3_rooms.specs.Values.{object}
use Rattle.f3_rooms.proofs.Framing.{one_here}
use Rattle.f3_rooms.proofs.Keeping.{as_it_was}
use Rattle.f3_room_arrays.specs.Elements.{row}
use Rattle.f3_word_cells.specs.declared.cell.Cell.{Cell}
use Rattle.f3_word_cells.specs.declared.cell.Cell.TheVariants as c
use Rattle.f3_word_cells.specs.declared.cell.Datum.{Datum}
use Rattle.f3_word_cells.specs.declared.cell.Datum.TheVariants as datum
use Rattle.f3_word_cells.specs.declared.cell.Passed.TheVariants as passed
use Rattle.f3_word_cells.specs.declared.cell.Here.{Here}
use Rattle.f3_word_cells.specs.declared.state.Name.{Name}
use Rattle.f3_word_cells.specs.declared.state.State.{State}
use Rattle.f3_word_cells.specs.Areas.{shape_for}
use Rattle.f3_word_cells.specs.Cells.{AreCells}
use Rattle.f3_word_cells.specs.Free.{AreFree}
use Rattle.f3_word_cells.specs.Moves.{Popped}
use Rattle.f3_word_cells.specs.States.{Stands, datum_blocks, own}
use Rattle.f3_word_cells.proofs.Amid.{Amid, amid_first, amid_popped, amid_so, amid_taken, amid_written, hand_alone, hand_live}
use Rattle.f3_word_cells.proofs.InHand.{amid_without, hand_free}
use Rattle.f3_word_arrays.specs.Items.{IsApart, datum_words}
use Rattle.f3_word_arrays.proofs.Elements.{HasWords, argument-cell, has-words}
use Rattle.f3_word_arrays.proofs.Given.{AreItems, OnArray}
use Rattle.f3_word_arrays.proofs.Words.{elements-tell, object-tells, word-behind, written-word}

-- ---- blocks in hand

-- in whatever order
amid-swapped : (p : Program) (t : s.State) (live : Live) (old now : State) (x : Rooms) (ks : List CellType) (stack : List s.Cell) (store : Store) (a b : ℕ)
    → Amid p t live old now x ks stack store (a ∷ b ∷ []) → Amid p t live old now x ks stack store (b ∷ a ∷ [])
amid-swapped p t live old now x ks stack store a b amid =
    amid_so p t live old now x ks stack store (a ∷ b ∷ []) amid live (b ∷ a ∷ []) store (λ q some. as_it_was live live q refl) amid.sound amid.is
    (λ q. let one = amid.once q in omega arith) (λ q alive. let some = amid.all q alive in omega arith) (λ q some. amid.live q (omega arith)) amid.unpinned

-- the words of one block are others, and that of a value is given back
pub amid-moved : (p : Program) (t : s.State) (live : Live) (old now : State) (x : Rooms) (ks : List CellType) (stack : List s.Cell) (store : Store) (d : Datum) (b : ℕ) (ws : List _)
    → Amid p t live old now x ks stack store (datum_blocks d ++ b ∷ []) → Amid p t (without (datum_blocks d) (with_words live b ws)) old now x ks stack store (b ∷ [])
amid-moved p t live old now x ks stack store (datum.Scalar z) b ws amid = amid_written p t live old now x ks stack store b [] amid ws
amid-moved p t live old now x ks stack store (datum.Block a) b ws amid =
    let from = (a.elements).block in
    let turned = amid_written p t live old now x ks stack store b (from ∷ []) (amid-swapped p t live old now x ks stack store from b amid) ws in
    amid_without p t (with_words live b ws) old now x ks stack store (from ∷ []) (b ∷ []) (amid-swapped p t (with_words live b ws) old now x ks stack store b from turned)

-- the block of a value may be given back, once another has other words
written-free : (p : Program) (t : s.State) (live : Live) (old now : State) (x : Rooms) (ks : List CellType) (stack : List s.Cell) (store : Store) (d : Datum) (b : ℕ) (ws : List _)
    → Amid p t live old now x ks stack store (datum_blocks d ++ b ∷ []) → AreFree (with_words live b ws) (datum_blocks d)
written-free p t live old now x ks stack store (datum.Scalar z) b ws amid = λ q some. absurd (omega arith)
written-free p t live old now x ks stack store (datum.Block a) b ws amid =
    let from = (a.elements).block in
    let turned = amid_written p t live old now x ks stack store b (from ∷ []) (amid-swapped p t live old now x ks stack store from b amid) ws in
    hand_free p t (with_words live b ws) old now x ks stack store (from ∷ []) (b ∷ []) (amid-swapped p t (with_words live b ws) old now x ks stack store b from turned)

-- the block of a value is another
pub hand-apart : (p : Program) (t : s.State) (live : Live) (old now : State) (x : Rooms) (ks : List CellType) (stack : List s.Cell) (store : Store) (d : Datum) (b : ℕ)
    → Amid p t live old now x ks stack store (datum_blocks d ++ b ∷ []) → IsApart live b d
hand-apart p t live old now x ks stack store (datum.Scalar z) b amid = tt
hand-apart p t live old now x ks stack store (datum.Block a) b amid =
    let from : ℕ = (a.elements).block in (
      hand_live p t live old now x ks stack store from (b ∷ []) amid,
      λ e. let none = hand_alone p t live old now x ks stack store from (b ∷ []) amid in
          let some = one_here b [] in
          let f : times from (b ∷ []) ≡ times b (b ∷ []) = ap (λ q. times q (b ∷ [])) e in
          absurd (omega arith),
    )

pub hand-block-live : (p : Program) (t : s.State) (live : Live) (old now : State) (x : Rooms) (ks : List CellType) (stack : List s.Cell) (store : Store) (d : Datum) (b : ℕ)
    → Amid p t live old now x ks stack store (datum_blocks d ++ b ∷ []) → IsLive live b
hand-block-live p t live old now x ks stack store (datum.Scalar z) b amid = hand_live p t live old now x ks stack store b [] amid
hand-block-live p t live old now x ks stack store (datum.Block a) b amid =
    hand_live p t live old now x ks stack store b ((a.elements).block ∷ []) (amid-swapped p t live old now x ks stack store (a.elements).block b amid)

-- words of a block that stays
words-stay : (live mid : Live) (b : ℕ) (d : Datum) → IsApart live b d → words_of (without (datum_blocks d) mid) b ≡ words_of mid b
words-stay live mid b (datum.Scalar z) apart = refl
words-stay live mid b (datum.Block a) apart = ap words_in (get-remove_other mid (a.elements).block b (λ e. apart.1 (sym e)))

-- an argument is there where the machine over values has one
argument-there : (p : Program) (live : Live) (Rest : Rooms → List Name → Type 0) (x : Rooms) (ns : List Name) (w : Here) (here : m.Here) (zs : List Cell) (j : ℕ) (v : Value) (below : List s.Cell)
    → AreCells p live Rest x ns w here zs (s.Argument (m.Given j v) ∷ below) → (number : ℕ) × (d : Datum) × (rest : List Cell) × (zs ≡ c.Argument (passed.Given number d) ∷ rest)
argument-there p live Rest x ns w here [] j v below are = absurd are
argument-there p live Rest x ns w here (a ∷ zs) j v below are =
    let one = argument-cell p x live ns a j v are.0 in (one.0, one.1, zs, ap (λ (z : Cell). z ∷ zs) one.2)

-- ---- values so far taken

module _ (p : Program) (t : s.State) (n : ℕ) (h : OnArray p t n) (old : State) (x : Rooms) (block : ℕ) where
  abbrev shape : Shape
  shape = shape_for p h.of

  abbrev size : ℕ
  size = words_for shape

  abbrev Between : Live → State → List formed.Given → List m.Passed → List ℕ → Type 0
  Between live now gs ps hand = Amid p t live old now x (map cell.Argument gs ++ h.rest) (map s.Argument ps ++ h.below) (t.world).store hand

  -- these are left on the stack; those that were taken, with the last one's number, stand in their places
  pub record Collected (live : Live) (now : State) (number : ℕ) : Type 0 where
    pub givens : List formed.Given
    pub items : List m.Passed
    pub taken : List Value
    pub are : AreItems p h.of givens items
    pub left : length items + number ≡ n
    pub all : given (reverse h.items) ≡ given (reverse items) ++ taken
    pub amid : Between live now givens items (block ∷ [])
    pub long : length (words_of live block) ≡ n * size
    pub there : row live shape number block (length items * size) ≡ taken

  pub collected-none : (live mid : Live) → Stands p live old x t → find live block ≡ None → mid ≡ with_taken live block (n * size) → Collected mid old 0
  collected-none live mid st fresh is = subst (λ (l : Live). Collected l old 0) (sym is) (record {
    givens = h.givens;
    items = h.items;
    taken = [];
    are = h.are;
    left = let e = h.many in omega arith;
    all = sym (append-nil (given (reverse h.items)));
    amid = amid_taken p t live old old x (map cell.Argument h.givens ++ h.rest) (map s.Argument h.items ++ h.below) (t.world).store []
        (amid_first p t live old x (map cell.Argument h.givens ++ h.rest) (map s.Argument h.items ++ h.below) st h.kinds h.split) block (n * size) fresh;
    long = ap length (words-insert_same live block _) ∙ length-replicate (n * size) (pos 0);
    there = refl;
  })

  -- one more is taken, and stands in its own block
  pub record Taken (live : Live) (now : State) (number : ℕ) (d : Datum) : Type 0 where
    pub givens : List formed.Given
    pub items : List m.Passed
    pub taken : List Value
    pub value : Value
    pub are : AreItems p h.of givens items
    pub left : length items + (number + 1) ≡ n
    pub all : given (reverse h.items) ≡ given (reverse items) ++ value ∷ taken
    pub amid : Between live now givens items (datum_blocks d ++ block ∷ [])
    pub words : HasWords p live h.of d value
    pub long : length (words_of live block) ≡ n * size
    pub there : row live shape number block ((length items + 1) * size) ≡ taken

  given-last : (ps : List m.Passed) (k : ℕ) (v : Value) → given (reverse (m.Given k v ∷ ps)) ≡ given (reverse ps) ++ v ∷ []
  given-last ps k v = ap given (reverse-append (m.Given k v ∷ []) ps) ∙ both (reverse ps)
    where
      both : (qs : List m.Passed) → given (qs ++ m.Given k v ∷ []) ≡ given qs ++ v ∷ []
      both [] = refl
      both (m.Given j u ∷ qs) = ap (λ vs. u ∷ vs) (both qs)
      both (m.Lent j r ∷ qs) = both qs

  module _ (live : Live) (now : State) (number : ℕ) (col : Collected live now number) (lt : number < n) where
    -- a value is on top
    pub top-there : (number : ℕ) × (d : Datum) × (rest : List Cell) × (own now ≡ c.Argument (passed.Given number d) ∷ rest)
    top-there = by col.givens col.items col.are col.left col.amid
      where
        by : (gs : List formed.Given) (ps : List m.Passed) → AreItems p h.of gs ps → length ps + number ≡ n → Between live now gs ps (block ∷ [])
            → (number : ℕ) × (d : Datum) × (rest : List Cell) × (own now ≡ c.Argument (passed.Given number d) ∷ rest)
        by [] [] are left amid = absurd (omega arith)
        by [] (a ∷ ps) are left amid = absurd are
        by (g ∷ gs) [] are left amid = absurd are
        by (g ∷ gs) (m.Lent j r ∷ ps) are left amid = absurd are
        by (g ∷ gs) (m.Given j v ∷ ps) are left amid = argument-there p live _ x old.names.items.items old.here t.here (own now) j v (map s.Argument ps ++ h.below) amid.cells

    pub taken-one : (new : State) (k : ℕ) (d : Datum) → Popped (c.Argument (passed.Given k d)) now new → Taken live new number d
    taken-one new k d popped = by col.givens col.items col.are col.left col.all col.amid col.there
      where
        by : (gs : List formed.Given) (ps : List m.Passed) → AreItems p h.of gs ps → length ps + number ≡ n → given (reverse h.items) ≡ given (reverse ps) ++ col.taken
            → Between live now gs ps (block ∷ []) → row live shape number block (length ps * size) ≡ col.taken → Taken live new number d
        by [] [] are left all amid there = absurd (omega arith)
        by [] (a ∷ ps) are left all amid there = absurd are
        by (g ∷ gs) [] are left all amid there = absurd are
        by (g ∷ gs) (m.Lent j r ∷ ps) are left all amid there = absurd are
        by (g ∷ gs) (m.Given j v ∷ ps) are left all amid there =
            let one = amid_popped p t live old now new x (cell.Argument g) (map cell.Argument gs ++ h.rest) (s.Argument (m.Given j v)) (map s.Argument ps ++ h.below) (t.world).store
            (block ∷ []) (c.Argument (passed.Given k d)) amid popped tt in
            let more : suc (length ps) ≡ length ps + 1 = omega arith in
            record {
              givens = gs;
              items = ps;
              taken = col.taken;
              value = v;
              are = are.1;
              left = omega arith;
              all = all ∙ ap (λ vs. vs ++ col.taken) (given-last ps j v) ∙ append_assoc (given (reverse ps)) (v ∷ []) col.taken;
              amid = one.2;
              words = has-words p live h.of g d v are.0 one.0.1 one.1;
              long = col.long;
              there = ap (λ (k : ℕ). row live shape number block (k * size)) (sym more) ∙ there;
            }

  -- and then in its place
  module _ (live : Live) (now : State) (number : ℕ) (d : Datum) (one : Taken live now number d) (at : ℕ) (at-is : at ≡ length one.items * size) where
    pub item-apart : IsApart live block d
    item-apart = hand-apart p t live old now x _ _ (t.world).store d block one.amid

    pub item-live : IsLive live block
    item-live = hand-block-live p t live old now x _ _ (t.world).store d block one.amid

    pub item-free : AreFree (with_words live block (with_words_at (words_of live block) at (datum_words live d))) (datum_blocks d)
    item-free = written-free p t live old now x _ _ (t.world).store d block _ one.amid

    room : at + size ≤ n * size
    room = let e : (length one.items + (number + 1)) * size ≡ n * size = ap (λ k. k * size) one.left in
        let f : (length one.items + (number + 1)) * size ≡ length one.items * size + number * size + size = omega arith in
        omega arith

    pub item-within : at + length (datum_words live d) ≤ length (words_of live block)
    item-within = let e = one.words.long in let f = one.long in let r = room in omega arith

    module _ (new : Live) (is : new ≡ without (datum_blocks d) (with_words live block (with_words_at (words_of live block) at (datum_words live d)))) where
      words-are : words_of new block ≡ with_words_at (words_of live block) at (datum_words live d)
      words-are = ap (λ (l : Live). words_of l block) is ∙ words-stay live _ block d item-apart ∙ words-with live block _

      first-is : object new shape block at Empty ≡ one.value
      first-is = one.words.shows new block at (λ j lt.
          ap (λ ws. get_or ws (at + j) (pos 0)) words-are
          ∙ written-word (words_of live block) at j (datum_words live d) (let w = item-within in omega arith) (let e = one.words.long in omega arith))

      others-are : row new shape number block (at + size) ≡ one.taken
      others-are =
          let there : at + size ≡ (length one.items + 1) * size = omega arith in
          elements-tell live new number size (object live shape) (object new shape) (object-tells live new shape) block (at + size) block (at + size) (λ j lt.
          ap (λ ws. get_or ws (at + size + j) (pos 0)) words-are
          ∙ word-behind (words_of live block) at (at + size + j) (datum_words live d) item-within (let e = one.words.long in omega arith))
          ∙ ap (λ o. row live shape number block o) there ∙ one.there

      pub collected-more : Collected new now (number + 1)
      collected-more =
          let next : number + 1 ≡ suc number = omega arith in
          record {
            givens = one.givens;
            items = one.items;
            taken = one.value ∷ one.taken;
            are = one.are;
            left = one.left;
            all = one.all;
            amid = subst (λ (l : Live). Between l now one.givens one.items (block ∷ [])) (sym is)
                (amid-moved p t live old now x _ _ (t.world).store d block _ one.amid);
            long = ap length words-are ∙ length-written (words_of live block) at (datum_words live d) item-within ∙ one.long;
            there = ap (λ k. row new shape k block (length one.items * size)) next ∙ ap (λ o. row new shape (suc number) block o) (sym at-is)
                ∙ ap (λ v. v ∷ row new shape number block (at + size)) first-is ∙ ap (λ vs. one.value ∷ vs) others-are;
          }
