-- Cells that hold no values have no blocks.
use Rattle.std.proofs.Common.{◌≡◌, ℕ, List, [], ◌∷◌, ◌++◌, take, drop, reverse, length, refl, ap, sym, ◌∙◌, arith}
use Rattle.std.proofs.lemmas.List.{append-nil, reverse-append, reverse-reverse, take-append-drop}
use Rattle.f3_program.specs.declared.declarations.Derived.{Derived}
use Rattle.f3_program.specs.declared.declarations.Kind.{Kind}
use Rattle.f3_program.specs.declared.program.Program.{Program}
use Rattle.f3_live_blocks.specs.Blocks.{Live}
use Rattle.f3_meaning_whole.specs.Value.{Value}
use Rattle.f3_meaning_whole.specs.Act as m
use Rattle.f3_meaning_whole.specs.Exec as exec
use Rattle.f3_code.specs.State as s
use Rattle.f3_cell_kinds.specs.Types.{Scope, Around, CellType, Site}
use Rattle.f3_cell_kinds.specs.Types as cell
use Rattle.f3_cell_kinds.specs.Holds.{Is, Stand, Knows}
use Rattle.f3_cell_kinds.specs.Laws.{site_at}
use Rattle.f3_rooms.specs.Rooms.{Rooms}
use Rattle.f3_word_cells.specs.declared.cell.Here.{Here}
use Rattle.f3_word_cells.specs.declared.cell.Cell.{Cell}
use Rattle.f3_word_cells.specs.declared.cell.Cell.TheVariants as c
use Rattle.f3_word_cells.specs.declared.state.Name.{Name}
use Rattle.f3_word_cells.specs.declared.state.Caller.{Caller}
use Rattle.f3_word_cells.specs.Cells.{IsCell, AreCells, rooms_under, names_under, here_under, here_beneath}
use Rattle.f3_word_cells.specs.States.{AreCallers, cell_blocks, cells_blocks, cells_from, own, beneath}
use Rattle.f3_word_account.specs.Laws.{HoldsNone, AllHoldNone, LinesHoldNoValues}

module _ (p : Program) (n : Live) (types : List Derived) (sites : ℕ → Site) (Known : Scope → Type 0) where
  -- beneath the cells that are known there is nothing
  pub nothing_under : (x : Rooms) (ns : List Name) (a : Cell) (b : s.Cell) (below : List s.Cell) (o : Around) (r end : Kind) → IsCell p x n ns a b
      → Stand types sites Known o r [] (b ∷ below) end → ⊥
  nothing_under x ns (c.Datum d) (s.Datum v) below o r end is stand = stand
  nothing_under x ns (c.Datum d) b below o r end is stand = is
  nothing_under x ns (c.Object d) (s.Object v) below o r end is stand = stand
  nothing_under x ns (c.Object d) b below o r end is stand = is
  nothing_under x ns (c.Argument d) (s.Argument v) below o r end is stand = stand
  nothing_under x ns (c.Argument d) b below o r end is stand = is
  nothing_under x ns (c.Choice d) (s.Choice v) below o r end is stand = stand
  nothing_under x ns (c.Choice d) b below o r end is stand = is
  nothing_under x ns (c.Bound d) (s.Bound v) below o r end is stand = stand
  nothing_under x ns (c.Bound d) b below o r end is stand = is
  nothing_under x ns (c.Bounds d) (s.Bounds v) below o r end is stand = stand
  nothing_under x ns (c.Bounds d) b below o r end is stand = is
  nothing_under x ns (c.Turns d e) (s.Turns v z) below o r end is stand = stand
  nothing_under x ns (c.Turns d e) b below o r end is stand = is
  nothing_under x ns (c.Objects d) (s.Objects v) below o r end is stand = stand
  nothing_under x ns (c.Objects d) b below o r end is stand = is
  nothing_under x ns (c.Selector d) (s.Selector v) below o r end is stand = stand
  nothing_under x ns (c.Selector d) b below o r end is stand = is
  nothing_under x ns (c.Level d e) (s.Level v z) below o r end is stand = stand
  nothing_under x ns (c.Level d e) b below o r end is stand = is
  nothing_under x ns (c.Outside d) (s.Outside v) below o r end is stand = stand
  nothing_under x ns (c.Outside d) b below o r end is stand = is
  nothing_under x ns (c.Going d) (s.Going v) below o r end is stand = stand
  nothing_under x ns (c.Going d) b below o r end is stand = is
  nothing_under x ns (c.Each d k) (s.Object v) below o r end is stand = stand
  nothing_under x ns (c.Each d k) b below o r end is stand = is

  -- a cell
  datum_holds : (k : CellType) (v : Value) → HoldsNone k → Is types k (s.Datum v) → ⊥
  datum_holds (cell.Datum k) v none is = none
  datum_holds k v none is = is

  argument_holds : (k : CellType) (v : m.Passed) → HoldsNone k → Is types k (s.Argument v) → ⊥
  argument_holds (cell.Argument k) v none is = none
  argument_holds k v none is = is

  selector_holds : (k : CellType) (v : exec.Association) → HoldsNone k → Is types k (s.Selector v) → ⊥
  selector_holds (cell.Selector k) v none is = none
  selector_holds k v none is = is

  cell_empty : (x : Rooms) (ns : List Name) (a : Cell) (b : s.Cell) (k : CellType) → IsCell p x n ns a b → HoldsNone k → Is types k b → cell_blocks a ≡ []
  cell_empty x ns (c.Datum d) (s.Datum v) k is none of = absurd (datum_holds k v none of)
  cell_empty x ns (c.Datum d) b k is none of = absurd is
  cell_empty x ns (c.Argument d) (s.Argument v) k is none of = absurd (argument_holds k v none of)
  cell_empty x ns (c.Argument d) b k is none of = absurd is
  cell_empty x ns (c.Selector d) (s.Selector v) k is none of = absurd (selector_holds k v none of)
  cell_empty x ns (c.Selector d) b k is none of = absurd is
  cell_empty x ns (c.Object d) b k is none of = refl
  cell_empty x ns (c.Choice d) b k is none of = refl
  cell_empty x ns (c.Bound d) b k is none of = refl
  cell_empty x ns (c.Bounds d) b k is none of = refl
  cell_empty x ns (c.Turns d e) b k is none of = refl
  cell_empty x ns (c.Objects d) b k is none of = refl
  cell_empty x ns (c.Level d e) b k is none of = refl
  cell_empty x ns (c.Outside d) b k is none of = refl
  cell_empty x ns (c.Going d) b k is none of = refl
  cell_empty x ns (c.Each d z) b k is none of = refl

  -- those of an activation, and what stands beneath
  cells_empty : (Rest : Rooms → List Name → Type 0) (Goal : Type 0) → ((y : Rooms) (ms : List Name) → Rest y ms → Goal) → (x : Rooms) (ns : List Name)
      → (h : Here) (here : m.Here) (zs : List Cell) (bs : List s.Cell) (o : Around) (r end : Kind) (ks : List CellType) → AreCells p n Rest x ns h here zs bs
      → Stand types sites Known o r ks bs end → AllHoldNone ks → (cells_blocks zs ≡ []) × Goal
  cells_empty Rest Goal g x ns h here [] [] o r end ks are stand none = (refl, g x ns are.1)
  cells_empty Rest Goal g x ns h here [] (b ∷ bs) o r end ks are stand none = absurd are
  cells_empty Rest Goal g x ns h here (a ∷ zs) [] o r end ks are stand none = absurd are
  cells_empty Rest Goal g x ns h here (a ∷ zs) (b ∷ bs) o r end [] are stand none = absurd (nothing_under x ns a b bs o r end are.0 stand)
  cells_empty Rest Goal g x ns h here (a ∷ zs) (b ∷ bs) o r end (k ∷ ks) are stand none =
      let rest = cells_empty Rest Goal g (rooms_under a x) (names_under a ns) (here_under a h) (here_beneath a b here) zs bs o r end ks are.2 stand.1 none.1 in
      (ap (λ bs. bs ++ cells_blocks zs) (cell_empty x ns a b k are.0 none.0 stand.0) ∙ rest.0, rest.1)

-- Cells of one activation alone are all.
none_before : (bs cs : List ℕ) → bs ++ cs ≡ [] → bs ≡ []
none_before [] cs e = refl
none_before (b ∷ bs) cs e = absurd (let k : length (b ∷ bs ++ cs) ≡ 0 = ap length e in omega (arith, k))

none_behind : (bs cs : List ℕ) → bs ++ cs ≡ [] → cs ≡ []
none_behind [] cs e = e
none_behind (b ∷ bs) cs e = absurd (let k : length (b ∷ bs ++ cs) ≡ 0 = ap length e in omega (arith, k))

blocks_append : (xs ys : List Cell) → cells_blocks xs ≡ [] → cells_blocks ys ≡ [] → cells_blocks (xs ++ ys) ≡ []
blocks_append [] ys e f = f
blocks_append (x ∷ xs) ys e f = ap (λ bs. cell_blocks x ++ bs) (blocks_append xs ys (none_behind (cell_blocks x) (cells_blocks xs) e) f)
    ∙ (append-nil (cell_blocks x) ∙ none_before (cell_blocks x) (cells_blocks xs) e)

reversed_empty : (zs : List Cell) → cells_blocks zs ≡ [] → cells_blocks (reverse zs) ≡ []
reversed_empty [] e = e
reversed_empty (z ∷ zs) e =
    ap cells_blocks (reverse-append (z ∷ []) zs)
    ∙ blocks_append (reverse zs) (z ∷ []) (reversed_empty zs (none_behind (cell_blocks z) (cells_blocks zs) e))
    (append-nil (cell_blocks z) ∙ none_before (cell_blocks z) (cells_blocks zs) e)

all_own : (base : ℕ) (zs : List Cell) → take base zs ≡ [] → zs ≡ reverse (cells_from base zs)
all_own base zs e = sym (take-append-drop base zs) ∙ ap (λ xs. xs ++ drop base zs) e ∙ sym (reverse-reverse (drop base zs))

no_callers : (p : Program) (n : Live) (zs : List Cell) (fs : List Caller) (gs : List s.Frame) (x : Rooms) (ns : List Name) → gs ≡ []
    → AreCallers p n zs fs gs x ns → zs ≡ []
no_callers p n zs [] [] x ns e are = are
no_callers p n zs [] (g ∷ gs) x ns e are = absurd are
no_callers p n zs (f ∷ fs) [] x ns e are = absurd are
no_callers p n zs (f ∷ fs) (g ∷ gs) x ns e are = absurd (let k : length (g ∷ gs) ≡ 0 = ap length e in omega (arith, k))

pub lines_hold_no_values : LinesHoldNoValues
lines_hold_no_values p n w x t st fits none known =
    let fs = reverse w.callers.items.items in
    let zs = w.cells.items.items in
    let both = cells_empty p n p.types.items (site_at p) (Knows p.types.items t.here) (AreCallers p n (beneath w) fs t.frames) (beneath w ≡ [])
    (λ y ms are. no_callers p n (beneath w) fs t.frames y ms none are) x w.names.items.items w.here t.here (own w) t.stack (site_at p t.pc).scope
    (site_at p t.pc).returns fits.end (site_at p t.pc).cells st.stack fits.stack known in
    ap cells_blocks (all_own w.base zs both.1) ∙ reversed_empty (own w) both.0
