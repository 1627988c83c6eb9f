-- Where a construct begins, statements may name the last of the names that are there.
use Rattle.std.proofs.Common.{◌≡◌, ◌⊎◌, inl, inr, ℕ, List, [], ◌∷◌, length, refl, subst}
use Rattle.std.specs.Prelude.{map}
use Rattle.f3_program.specs.declared.declarations.Kind.{Kind}
use Rattle.f3_program.specs.declared.program.Program.{Program}
use Rattle.f3_live_blocks.specs.Blocks.{Live}
use Rattle.f3_meaning_whole.specs.Act as m
use Rattle.f3_code.specs.State as s
use Rattle.f3_cell_kinds.specs.Types.{Scope, Around, Told, CellType, Site, sort_of_type}
use Rattle.f3_cell_kinds.specs.Types as cell
use Rattle.f3_cell_kinds.specs.Holds.{InScope, Is, Knows, Stand}
use Rattle.f3_cell_kinds.specs.Laws.{site_at}
use Rattle.f3_store_kinds.specs.Clean.{IsAmid, IsPlain}
use Rattle.f3_rooms.specs.Rooms.{Rooms}
use Rattle.f3_word_cells.specs.declared.cell.Here.{Here}
use Rattle.f3_word_cells.specs.declared.cell.Cell.{Cell}
use Rattle.f3_word_cells.specs.declared.cell.Cell.TheVariants as c
use Rattle.f3_word_cells.specs.declared.state.Name.{Name}
use Rattle.f3_word_cells.specs.declared.state.State.{State}
use Rattle.f3_word_cells.specs.Cells.{AreCells, IsCell, here_beneath, here_under, names_under, rooms_under}
use Rattle.f3_word_cells.specs.States.{AreAtHand, IsOrderly, Stands, end_of, own}
use Rattle.f3_word_cells.specs.Does.{IsTold}
use Rattle.f3_word_cells.proofs.Flat.{plain_is_flat}
use Rattle.f3_word_cells.proofs.Moving.{Beneath}
use Rattle.f3_word_cells.proofs.Orderly.{flat_cell, hand_flat}

-- ---- in a scope that is told

pub hand_told : (p : Program) (pc n : ℕ) (h : Here) (zs : List Cell) (o : Scope) → (site_at p pc).scope ≡ Told o → IsOrderly p pc n h zs → AreAtHand n h zs
hand_told p pc n h zs o e are = subst (λ (a : Around). InScope p.types.items (λ z. AreAtHand n h zs) a) e are

-- ---- the construct around

-- a cell of no construct, or what was around one
amid_next : (k : CellType) (ks : List CellType) → IsAmid (map sort_of_type (k ∷ ks)) → (IsPlain (sort_of_type k) × IsAmid (map sort_of_type ks)) ⊎ ((o : Scope) × (k ≡ cell.Outside o))
amid_next (cell.Datum k) ks amid = inl (tt, amid)
amid_next (cell.Object k) ks amid = inl (tt, amid)
amid_next (cell.Each array number k) ks amid = inl (tt, amid)
amid_next (cell.Argument g) ks amid = inl (tt, amid)
amid_next (cell.Choice b) ks amid = inl (tt, amid)
amid_next cell.Bound ks amid = inl (tt, amid)
amid_next (cell.Bounds rank) ks amid = inl (tt, amid)
amid_next cell.Extent ks amid = inl (tt, amid)
amid_next cell.Status ks amid = inl (tt, amid)
amid_next cell.Turns ks amid = inl (tt, amid)
amid_next (cell.Elements of) ks amid = inl (tt, amid)
amid_next (cell.Objects js) ks amid = inl (tt, amid)
amid_next (cell.Selector k) ks amid = inl (tt, amid)
amid_next (cell.Level js) ks amid = absurd amid
amid_next (cell.Outside o) ks amid = inr (o, refl)
amid_next cell.Going ks amid = inl (tt, amid)

module _ (p : Program) (live : Live) where
  outside_hand : (x : Rooms) (ns : List Name) (n : ℕ) (h : Here) (o : Scope) (a : Cell) (b : s.Cell) (zs : List Cell) → Is p.types.items (cell.Outside o) b
      → IsCell p x live ns a b → AreAtHand n h (a ∷ zs) → end_of h.names ≡ n
  outside_hand x ns n h o (c.Outside outer) (s.Outside here) zs is are hand = hand.0
  outside_hand x ns n h o a (s.Outside here) zs is are hand = absurd are
  outside_hand x ns n h o a b zs is are hand = absurd is

  -- no cell is the way back of a routine
  no_way_back : (x : Rooms) (ns : List Name) (sites : ℕ → Site) (Known : Scope → Type 0) (o : Around) (r : Kind) (a : Cell) (b : s.Cell) (bs : List s.Cell) (end : Kind)
      → Stand p.types.items sites Known o r [] (b ∷ bs) end → IsCell p x live ns a b → ⊥
  no_way_back x ns sites Known o r (c.Datum d) (s.To back place) bs end stand is = absurd is
  no_way_back x ns sites Known o r a (s.To back place) bs end stand is = absurd is
  no_way_back x ns sites Known o r a b bs end stand is = absurd stand

  module _ (Rest : Rooms → List Name → Type 0) (sites : ℕ → Site) (Known : Scope → Type 0) (o : Around) (r end : Kind) (n : ℕ) (h : Here) where
    -- above the construct around stand cells of none
    pub amid_at_hand : (ks : List CellType) (bs : List s.Cell) (zs : List Cell) (x : Rooms) (ns : List Name) (this : Here) (here : m.Here) → IsAmid (map sort_of_type ks)
        → Stand p.types.items sites Known o r ks bs end → AreCells p live Rest x ns this here zs bs → AreAtHand n h zs → end_of h.names ≡ n
    amid_at_hand [] [] [] x ns this here amid stand are hand = hand
    amid_at_hand [] [] (a ∷ zs) x ns this here amid stand are hand = absurd are
    amid_at_hand [] (b ∷ bs) [] x ns this here amid stand are hand = absurd are
    amid_at_hand [] (b ∷ bs) (a ∷ zs) x ns this here amid stand are hand = absurd (no_way_back x ns sites Known o r a b bs end stand are.0)
    amid_at_hand (k ∷ ks) [] zs x ns this here amid stand are hand = absurd stand
    amid_at_hand (k ∷ ks) (b ∷ bs) [] x ns this here amid stand are hand = absurd are
    amid_at_hand (k ∷ ks) (b ∷ bs) (a ∷ zs) x ns this here amid stand are hand = elim (amid_next k ks amid) [
      | inl plain ↦ let flat = flat_cell p x live ns a b are.0 (plain_is_flat p.types.items k b plain.0 stand.0) in
          amid_at_hand ks bs zs (rooms_under a x) (names_under a ns) (here_under a this) (here_beneath a b here) plain.1 stand.1 are.2
          (subst (λ (A : Type 0). A) (hand_flat n h a zs flat) hand)
      | inr outside ↦ outside_hand x ns n h outside.0 a b zs (subst (λ (y : CellType). Is p.types.items y b) outside.1 stand.0) are.0 hand
    ]

-- ---- at a line

-- where a SELECT CASE or ASSOCIATE begins
pub names_at_hand : (p : Program) (m : Live) (w : State) (x : Rooms) (t : s.State) (o : Scope) → IsTold p t → Stands p m w x t → (site_at p t.pc).scope ≡ Told o
    → IsAmid (map sort_of_type (site_at p t.pc).cells) → end_of w.here.names ≡ length w.names.items.items
names_at_hand p m w x t o told st e amid =
    let fits = told.fits in
    let n = length w.names.items.items in
    amid_at_hand p m (Beneath p m w t.frames) (site_at p) (Knows p.types.items t.here) (site_at p t.pc).scope (site_at p t.pc).returns fits.end n w.here
    (site_at p t.pc).cells t.stack (own w) x w.names.items.items w.here t.here amid fits.stack st.stack (hand_told p t.pc n w.here (own w) o e st.orderly)
