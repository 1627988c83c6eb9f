-- Names and levels stand one behind another, whatever cells of no construct come and go.
use Rattle.std.proofs.Common.{◌≡◌, ◌∙◌, ℕ, List, [], ◌∷◌, ◌++◌, refl, sym, ap, subst}
use Rattle.std.specs.Prelude.{⊤}
use Rattle.f3_program.specs.declared.declarations.Derived.{Derived}
use Rattle.f3_program.specs.declared.program.Program.{Program}
use Rattle.f3_live_blocks.specs.Blocks.{Live}
use Rattle.f3_code.specs.State as s
use Rattle.f3_cell_kinds.specs.Types.{Scope, Around, Told, Untold, InRoutine, CellType}
use Rattle.f3_cell_kinds.specs.Effect.{way}
use Rattle.f3_cell_kinds.specs.Kinds.{arrived}
use Rattle.f3_cell_kinds.specs.Holds.{InScope}
use Rattle.f3_cell_kinds.specs.Laws.{site_at}
use Rattle.f3_rooms.specs.Rooms.{Rooms, Slot}
use Rattle.f3_word_cells.specs.declared.cell.Here.{Here}
use Rattle.f3_word_cells.specs.declared.cell.Cell.{Cell}
use Rattle.f3_word_cells.specs.declared.cell.Cell.TheVariants as c
use Rattle.f3_word_cells.specs.declared.state.Name.{Name}
use Rattle.f3_word_cells.specs.Cells.{IsCell}
use Rattle.f3_word_cells.specs.States.{AreAtHand, AreTight, IsOrderly, end_of}
use Rattle.f3_word_cells.proofs.Flat.{IsFlat}

-- ---- where lines lead

-- A line of the same procedure and scope as another, at which cells of these types stand.
pub record IsAfter (p : Program) (from to : ℕ) (ks : List CellType) : Type 0 where
  pub cells : (site_at p to).cells ≡ ks
  pub scope : (site_at p to).scope ≡ (site_at p from).scope
  pub returns : (site_at p to).returns ≡ (site_at p from).returns

-- a way on in the same scope
pub after_way : (p : Program) (from to : ℕ) (ys rest : List CellType) → site_at p to ≡ arrived (site_at p from) (way (site_at p from) ys) rest
    → IsAfter p from to (ys ++ rest)
after_way p from to ys rest e = record { cells = ap (λ z. z.cells) e; scope = ap (λ z. z.scope) e; returns = ap (λ z. z.returns) e }

-- the same site
pub after_same : (p : Program) (from to : ℕ) → site_at p to ≡ site_at p from → IsAfter p from to (site_at p from).cells
after_same p from to e = record { cells = ap (λ z. z.cells) e; scope = ap (λ z. z.scope) e; returns = ap (λ z. z.returns) e }

pub after_cells : {p : Program} {from to : ℕ} {ks js : List CellType} → IsAfter p from to ks → ks ≡ js → IsAfter p from to js
after_cells after e = record { cells = after.cells ∙ e; scope = after.scope; returns = after.returns }

-- ---- scopes

pub in_scope : (types : List Derived) (A B : Scope → Type 0) (o : Around) → ((z : Scope) → A z → B z) → InScope types A o → InScope types B o
in_scope types A B (Told z) f a = f z a
in_scope types A B Untold f a = tt
in_scope types A B InRoutine f a = tt

-- ---- cells of no construct

abbrev pub IsFlatCell : Cell → Type 0
IsFlatCell (c.Level level range) = ⊥
IsFlatCell (c.Outside h) = ⊥
IsFlatCell a = ⊤

pub flat_cell : (p : Program) (x : Rooms) (live : Live) (ns : List Name) (a : Cell) (b : s.Cell) → IsCell p x live ns a b → IsFlat b → IsFlatCell a
flat_cell p x live ns (c.Datum d) b is flat = tt
flat_cell p x live ns (c.Object d) b is flat = tt
flat_cell p x live ns (c.Each d e) b is flat = tt
flat_cell p x live ns (c.Argument d) b is flat = tt
flat_cell p x live ns (c.Choice d) b is flat = tt
flat_cell p x live ns (c.Bound d) b is flat = tt
flat_cell p x live ns (c.Bounds d) b is flat = tt
flat_cell p x live ns (c.Turns d e) b is flat = tt
flat_cell p x live ns (c.Objects d) b is flat = tt
flat_cell p x live ns (c.Selector d) b is flat = tt
flat_cell p x live ns (c.Level d e) (s.Level k rs) is flat = absurd flat
flat_cell p x live ns (c.Level d e) b is flat = absurd is
flat_cell p x live ns (c.Outside d) (s.Outside o) is flat = absurd flat
flat_cell p x live ns (c.Outside d) b is flat = absurd is
flat_cell p x live ns (c.Going d) b is flat = tt

-- names are at hand beneath such a cell and above it alike
pub hand_flat : (n : ℕ) (h : Here) (a : Cell) (zs : List Cell) → IsFlatCell a → AreAtHand n h (a ∷ zs) ≡ AreAtHand n h zs
hand_flat n h (c.Datum d) zs flat = refl
hand_flat n h (c.Object d) zs flat = refl
hand_flat n h (c.Each d e) zs flat = refl
hand_flat n h (c.Argument d) zs flat = refl
hand_flat n h (c.Choice d) zs flat = refl
hand_flat n h (c.Bound d) zs flat = refl
hand_flat n h (c.Bounds d) zs flat = refl
hand_flat n h (c.Turns d e) zs flat = refl
hand_flat n h (c.Objects d) zs flat = refl
hand_flat n h (c.Selector d) zs flat = refl
hand_flat n h (c.Level d e) zs flat = absurd flat
hand_flat n h (c.Outside d) zs flat = absurd flat
hand_flat n h (c.Going d) zs flat = refl

pub tight_flat : (Rest : List (List Slot) → ℕ → Type 0) (ls : List (List Slot)) (n : ℕ) (a : Cell) (zs : List Cell) → IsFlatCell a
    → AreTight Rest ls n (a ∷ zs) ≡ AreTight Rest ls n zs
tight_flat Rest ls n (c.Datum d) zs flat = refl
tight_flat Rest ls n (c.Object d) zs flat = refl
tight_flat Rest ls n (c.Each d e) zs flat = refl
tight_flat Rest ls n (c.Argument d) zs flat = refl
tight_flat Rest ls n (c.Choice d) zs flat = refl
tight_flat Rest ls n (c.Bound d) zs flat = refl
tight_flat Rest ls n (c.Bounds d) zs flat = refl
tight_flat Rest ls n (c.Turns d e) zs flat = refl
tight_flat Rest ls n (c.Objects d) zs flat = refl
tight_flat Rest ls n (c.Selector d) zs flat = refl
tight_flat Rest ls n (c.Level d e) zs flat = absurd flat
tight_flat Rest ls n (c.Outside d) zs flat = absurd flat
tight_flat Rest ls n (c.Going d) zs flat = refl

-- what was around a construct is no matter for that
pub tight_outside : (Rest : List (List Slot) → ℕ → Type 0) (ls : List (List Slot)) (n : ℕ) (h : Here) (zs : List Cell)
    → AreTight Rest ls n (c.Outside h ∷ zs) ≡ AreTight Rest ls n zs
tight_outside Rest ls n h zs = refl

-- where statements are executed that may name the same
pub hand_named : (n : ℕ) (h k : Here) (zs : List Cell) → k.names ≡ h.names → AreAtHand n h zs → AreAtHand n k zs
hand_named n h k [] e are = ap end_of e ∙ are
hand_named n h k (c.Outside outer ∷ zs) e are = (ap end_of e ∙ are.0, are.1)
hand_named n h k (c.Level level range ∷ zs) e are = hand_named range.from h k zs e are
hand_named n h k (c.Datum d ∷ zs) e are = hand_named n h k zs e are
hand_named n h k (c.Object d ∷ zs) e are = hand_named n h k zs e are
hand_named n h k (c.Each d f ∷ zs) e are = hand_named n h k zs e are
hand_named n h k (c.Argument d ∷ zs) e are = hand_named n h k zs e are
hand_named n h k (c.Choice d ∷ zs) e are = hand_named n h k zs e are
hand_named n h k (c.Bound d ∷ zs) e are = hand_named n h k zs e are
hand_named n h k (c.Bounds d ∷ zs) e are = hand_named n h k zs e are
hand_named n h k (c.Turns d f ∷ zs) e are = hand_named n h k zs e are
hand_named n h k (c.Objects d ∷ zs) e are = hand_named n h k zs e are
hand_named n h k (c.Selector d ∷ zs) e are = hand_named n h k zs e are
hand_named n h k (c.Going d ∷ zs) e are = hand_named n h k zs e are

-- ---- an activation at a line

-- so do cells of no construct, at a line of the same scope
pub orderly_so : (p : Program) (from to n : ℕ) (h k : Here) (zs ys : List Cell) (ks : List CellType) → IsAfter p from to ks
    → (AreAtHand n h zs → AreAtHand n k ys) → IsOrderly p from n h zs → IsOrderly p to n k ys
orderly_so p from to n h k zs ys ks after f are =
    subst (λ o. InScope p.types.items (λ z. AreAtHand n k ys) o) (sym after.scope)
    (in_scope p.types.items (λ z. AreAtHand n h zs) (λ z. AreAtHand n k ys) (site_at p from).scope (λ z. f) are)
