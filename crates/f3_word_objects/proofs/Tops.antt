-- Objects on top.
use Rattle.std.proofs.Common.{◌≡◌, ◌∙◌, ℕ, ◌+◌, List, [], ◌∷◌, refl, sym, ap}
use Rattle.std.specs.Prelude.{Ok, None}
use Rattle.f3_program.specs.declared.declarations.Kind.{Kind}
use Rattle.f3_program.specs.declared.program.Program.{Program}
use Rattle.f3_live_blocks.specs.Blocks.{Live}
use Rattle.f3_meaning_whole.specs.Reference.{Reference}
use Rattle.f3_meaning_whole.specs.Act as act
use Rattle.f3_code.specs.State.{Line}
use Rattle.f3_code.specs.State as s
use Rattle.f3_cell_kinds.specs.Types.{CellType, Site}
use Rattle.f3_cell_kinds.specs.Types as cell
use Rattle.f3_cell_kinds.specs.Holds.{Refers}
use Rattle.f3_cell_kinds.specs.Laws.{site_at}
use Rattle.f3_rooms.specs.Rooms.{Rooms}
use Rattle.f3_word_cells.specs.declared.cell.Cell.{Cell}
use Rattle.f3_word_cells.specs.declared.cell.Cell.TheVariants as c
use Rattle.f3_word_cells.specs.declared.cell.Here.{Here}
use Rattle.f3_word_cells.specs.declared.cell.Object.{Object}
use Rattle.f3_word_cells.specs.declared.state.Name.{Name}
use Rattle.f3_word_cells.specs.declared.state.State.{State}
use Rattle.f3_word_cells.specs.Areas.{IsObject}
use Rattle.f3_word_cells.specs.Cells.{AreCells, IsCell}
use Rattle.f3_word_cells.specs.Does.{Becomes, GoesOn, IsTold}
use Rattle.f3_word_cells.specs.Moves.{Popped}
use Rattle.f3_word_cells.specs.States.{AreKnown, IsKnown, Stands, own}
use Rattle.f3_word_cells.proofs.Amid.{Amid, amid_first, amid_last, amid_popped}
use Rattle.f3_word_cells.proofs.Moving.{moved_to}
use Rattle.f3_word_cells.proofs.Orderly.{IsAfter}
use Rattle.f3_word_cells.proofs.OnTop.{one_on_top, of_object}
use Rattle.f3_word_objects.specs.Taken.{Took}

-- the cell in memory of the one on top
pub top-cell : (p : Program) (m : Live) (Rest : Rooms → List Name → Type 0) (x : Rooms) (ns : List Name) (h : Here) (here : act.Here) (zs : List Cell) (b : s.Cell) (bs : List s.Cell)
    (k : CellType) (ks : List CellType) → AreKnown p (k ∷ ks) zs → AreCells p m Rest x ns h here zs (b ∷ bs)
    → (a : Cell) × (rest : List Cell) × (zs ≡ a ∷ rest) × IsCell p x m ns a b × IsKnown p k a
top-cell p m Rest x ns h here [] b bs k ks known are = absurd are
top-cell p m Rest x ns h here (a ∷ zs) b bs k ks known are = (a, zs, refl, are.0, known.0)

pub object-cell : (p : Program) (m : Live) (x : Rooms) (ns : List Name) (a : Cell) (r : Reference) (k : Kind) → IsKnown p (cell.Object k) a
    → IsCell p x m ns a (s.Object r) → (o : Object) × (a ≡ c.Object o)
object-cell p m x ns (c.Object o) r k known is = (o, refl)
object-cell p m x ns (c.Each a n) r k known is = absurd known
object-cell p m x ns a r k known is = absurd is

-- where a line of the same scope leads
pub after-at : {p : Program} {from to : ℕ} {z : Site} → site_at p to ≡ z → z.scope ≡ (site_at p from).scope → z.returns ≡ (site_at p from).returns
    → IsAfter p from to z.cells
after-at e scope returns = record { cells = ap (λ (y : Site). y.cells) e; scope = ap (λ (y : Site). y.scope) e ∙ scope; returns = ap (λ (y : Site). y.returns) e ∙ returns }

-- an object of a kind that was taken
pub record Taken (p : Program) (t : s.State) (m : Live) (old mid : State) (x : Rooms) (o : Object) (k : Kind) (rest : List CellType) : Type 0 where
  pub reference : Reference
  pub below : List s.Cell
  pub split : t.stack ≡ s.Object reference ∷ below
  pub refers : Refers k reference
  pub is : IsObject p x o reference
  pub amid : Amid p t m old mid x rest below (t.world).store []

module _ (p : Program) (t : s.State) (m : Live) (old : State) (x : Rooms) (told : IsTold p t) (st : Stands p m old x t) where
  module _ (k : Kind) (rest : List CellType) (kinds : (site_at p t.pc).cells ≡ cell.Object k ∷ rest) where
    top : (r : Reference) × (below : List s.Cell) × (t.stack ≡ s.Object r ∷ below) × Refers k r
    top =
        let one = one_on_top p t (cell.Object k) rest told kinds in
        let is = of_object p.types.items k one.cell one.is in
        (is.0, one.below, one.split ∙ ap (λ (b : s.Cell). b ∷ one.below) is.1, is.2)

    first : Amid p t m old old x (cell.Object k ∷ rest) (s.Object top.0 ∷ top.1) (t.world).store []
    first = amid_first p t m old x (cell.Object k ∷ rest) (s.Object top.0 ∷ top.1) st kinds top.2

    pub object-lost : (mid : State) → Took c.Object None old mid → ⊥
    object-lost mid none =
        let a = top-cell p m _ x old.names.items.items old.here t.here (own old) (s.Object top.0) top.1 (cell.Object k) rest first.known first.cells in
        let o = object-cell p m x old.names.items.items a.0 top.0 k a.4 a.3 in
        none o.0 a.1 (a.2 ∙ ap (λ (y : Cell). y ∷ a.1) o.1)

    pub object-taken : (mid : State) (o : Object) → Popped (c.Object o) old mid → Taken p t m old mid x o k rest
    object-taken mid o popped =
        let both = amid_popped p t m old old mid x (cell.Object k) rest (s.Object top.0) top.1 (t.world).store [] (c.Object o) first popped tt in
        record { reference = top.0; below = top.1; split = top.2; refers = top.3; is = both.0; amid = both.2 }

  -- the next line comes, with these cells
  pub goes-on : (l : Line) (new : State) (ks : List CellType) (stack : List s.Cell) → Amid p t m old new x ks stack (t.world).store []
      → IsAfter p t.pc (t.pc + 1) ks → new.pc ≡ old.pc + 1 → GoesOn p l t (moved_to t (t.pc + 1) stack t.here t.world) []
      → Becomes p l t (Ok tt) m new
  goes-on l new ks stack amid kinds line goes = record {
    next = moved_to t (t.pc + 1) stack t.here t.world;
    rooms = x;
    goes = goes;
    stands = amid_last p t m m old new x ks (t.pc + 1) stack t.world st amid kinds (ap (λ k. k + 1) st.pc ∙ sym line);
  }
