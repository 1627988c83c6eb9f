-- Objects are passed on, or asked for their bounds.
use Rattle.std.proofs.Common.{◌≡◌, ◌∙◌, ℕ, ◌+◌, List, [], ◌∷◌, ◌++◌, refl, sym, ap, subst}
use Rattle.std.specs.Prelude.{Ok, Err, None, Some, slice_get}
use Rattle.f3_program.specs.declared.declarations.Kind.{Kind}
use Rattle.f3_program.specs.declared.program.Program.{Program}
use Rattle.f3_live_blocks.specs.Blocks.{Live}
use Rattle.f3_meaning_whole.specs.Value.{shown}
use Rattle.f3_meaning_whole.specs.Reference.{Reference, Reach, One, Many, spans}
use Rattle.f3_meaning_whole.specs.Act.{Lent}
use Rattle.f3_meaning_whole.specs.Exec.{Means}
use Rattle.f3_code.specs.declared.instruction.Instruction.{Instruction}
use Rattle.f3_code.specs.declared.instruction.Instruction.TheVariants as i
use Rattle.f3_code.specs.State.{Line}
use Rattle.f3_code.specs.State as s
use Rattle.f3_cell_kinds.specs.Types.{CellType}
use Rattle.f3_cell_kinds.specs.Types as cell
use Rattle.f3_cell_kinds.specs.Effect.{on}
use Rattle.f3_cell_kinds.specs.Laws.{site_at}
use Rattle.f3_rooms.specs.Rooms.{Rooms}
use Rattle.f3_word_cells.specs.declared.cell.Area.{Area}
use Rattle.f3_word_cells.specs.declared.cell.Association.TheVariants as association
use Rattle.f3_word_cells.specs.declared.cell.Cell.{Cell}
use Rattle.f3_word_cells.specs.declared.cell.Cell.TheVariants as c
use Rattle.f3_word_cells.specs.declared.cell.Object.{Object}
use Rattle.f3_word_cells.specs.declared.cell.Object.TheVariants as o
use Rattle.f3_word_cells.specs.declared.cell.Passed.TheVariants as passed
use Rattle.f3_word_cells.specs.declared.state.State.{State}
use Rattle.f3_word_cells.specs.declared.state.Stop.TheVariants as stop
use Rattle.f3_word_cells.specs.Areas.{AreThere, IsObject, spans_of}
use Rattle.f3_word_cells.specs.Cells.{IsCell}
use Rattle.f3_word_cells.specs.Does.{Becomes, DoesIn, GoesOn, IsTold}
use Rattle.f3_word_cells.specs.Moves.{Popped, Pushed}
use Rattle.f3_word_cells.specs.Scenes.{code_of}
use Rattle.f3_word_cells.specs.States.{Stands, cell_blocks, IsKnown}
use Rattle.f3_word_cells.proofs.Amid.{Amid, amid_pushed}
use Rattle.f3_word_cells.proofs.Flat.{IsFlat}
use Rattle.f3_word_cells.proofs.Lines.{line_goes}
use Rattle.f3_word_cells.proofs.Moving.{moved_to}
use Rattle.f3_word_cells.proofs.Orderly.{IsAfter}
use Rattle.f3_word_cells.proofs.OnTop.{line_kinds}
use Rattle.f3_word_objects.specs.Shapes.{dims_of}
use Rattle.f3_word_objects.specs.Taken.{Took}
use Rattle.f3_word_objects.proofs.Tops.{Taken, after-at, object-lost, object-taken, goes-on}

module _ (p : Program) (m : Live) (old : State) where
  -- an object of a kind is on top
  abbrev pub OnObject : Instruction → Type 0
  OnObject x = (t : s.State) (l : Line) → IsTold p t → slice_get (code_of p).lines t.pc ≡ Some l → l.act ≡ x
      → (k : Kind) × (rest : List CellType) × ((site_at p t.pc).cells ≡ cell.Object k ∷ rest)

  pub lost : (x : Instruction) (mid new : State) → OnObject x → Took c.Object None old mid → DoesIn p x (Err stop.Lost) m m old new
  lost x mid new on none t l y told there is st = let k = on t l told there is in absurd (object-lost p t m old y told st k.0 k.1 k.2 mid none)

  -- the object is taken, and a cell without a value comes on top
  module _ (mid new : State) (z : Object) (popped : Popped (c.Object z) old mid) (a : Cell) (pushed : Pushed a (mid.pc + 1) mid new) (none : cell_blocks a ≡ []) where
    pub replaced : (t : s.State) (l : Line) (x : Rooms) → IsTold p t → Stands p m old x t → (k : Kind) (rest : List CellType) (to : CellType) (b : s.Cell)
        → ((site_at p t.pc).cells ≡ cell.Object k ∷ rest) → IsAfter p t.pc (t.pc + 1) (to ∷ rest)
        → IsFlat b → IsKnown p to a
        → (taken : Taken p t m old mid x z k rest) → IsCell p x m old.names.items.items a b
        → GoesOn p l t (moved_to t (t.pc + 1) (b ∷ taken.below) t.here t.world) []
        → Becomes p l t (Ok tt) m new
    replaced t l x told st k rest to b kinds next flat known taken is goes =
        let amid = amid_pushed p t m old mid new x to rest b taken.below (t.world).store [] a (mid.pc + 1)
        (subst (λ bs. Amid p t m old mid x rest taken.below (t.world).store (bs ++ [])) (sym none) taken.amid) pushed flat is known in
        goes-on p t m old x told st l new (to ∷ rest) (b ∷ taken.below) amid next (pushed.pc ∙ ap (λ n. n + 1) popped.pc) goes

-- ---- arguments and associate names

pub on-pass : (p : Program) (m : Live) (old : State) (n : ℕ) → OnObject p m old (i.PassVariable n)
on-pass p m old n t l told there is = let lead = line_kinds p t l (i.PassVariable n) told there is in (lead.0, lead.1.rest, lead.1.before)

pub passes : (p : Program) (m : Live) (old mid new : State) (z : Object) (n : ℕ) → Popped (c.Object z) old mid → Pushed (c.Argument (passed.Lent n z)) (mid.pc + 1) mid new
    → DoesIn p (i.PassVariable n) (Ok tt) m m old new
passes p m old mid new z n popped pushed t l x told there is st =
    let lead = line_kinds p t l (i.PassVariable n) told there is in
    let top = object-taken p t m old x told st lead.0 lead.1.rest lead.1.before mid z popped in
    let b : s.Cell = s.Argument (Lent n top.reference) in
    replaced p m old mid new z popped (c.Argument (passed.Lent n z)) pushed refl t l x told st lead.0 lead.1.rest _ b lead.1.before (after-at lead.1.next refl refl) tt tt top
    (refl, top.is) (line_goes p l t (i.PassVariable n) (s.Object top.reference ∷ top.below) _ [] tt [] is top.split (λ rest. refl))

pub on-select : (p : Program) (m : Live) (old : State) → OnObject p m old i.SelectVariable
on-select p m old t l told there is = let lead = line_kinds p t l i.SelectVariable told there is in (lead.0, lead.2.rest, lead.2.before)

pub selects : (p : Program) (m : Live) (old mid new : State) (z : Object) → Popped (c.Object z) old mid → Pushed (c.Selector (association.Means z)) (mid.pc + 1) mid new
    → DoesIn p i.SelectVariable (Ok tt) m m old new
selects p m old mid new z popped pushed t l x told there is st =
    let lead = line_kinds p t l i.SelectVariable told there is in
    let top = object-taken p t m old x told st lead.0 lead.2.rest lead.2.before mid z popped in
    replaced p m old mid new z popped (c.Selector (association.Means z)) pushed refl t l x told st lead.0 lead.2.rest _ (s.Selector (Means top.reference)) lead.2.before (after-at lead.2.next refl refl) tt tt top
    top.is (line_goes p l t i.SelectVariable (s.Object top.reference ∷ top.below) _ [] tt [] is top.split (λ rest. refl))

-- ---- bounds

pub on-bounds : (p : Program) (m : Live) (old : State) → OnObject p m old i.BoundsOfVariable
on-bounds p m old t l told there is = let lead = line_kinds p t l i.BoundsOfVariable told there is in (lead.0, lead.2.rest, lead.2.before)

there-spans : (p : Program) (x : Rooms) (a : Area) (q : _) (reach : Reach) → AreThere p x a q reach → spans reach ≡ spans_of (a.elements).dims.items
there-spans p x a q One h = ap spans_of (sym h.0)
there-spans p x a q (Many ss ps) h = h.1

pub object-spans : (p : Program) (x : Rooms) (z : Object) (r : Reference) → IsObject p x z r → spans r.reach ≡ spans_of (dims_of z)
object-spans p x (o.Held of v) r is = ap spans is.1
object-spans p x (o.Stands a) r is = there-spans p x a r.path r.reach is.1

pub tells : (p : Program) (m : Live) (old mid new : State) (z : Object) (ds : _) → Popped (c.Object z) old mid → Pushed (c.Bounds ds) (mid.pc + 1) mid new
    → spans_of ds.items ≡ shown (spans_of (dims_of z)) → DoesIn p i.BoundsOfVariable (Ok tt) m m old new
tells p m old mid new z ds popped pushed same t l x told there is st =
    let lead = line_kinds p t l i.BoundsOfVariable told there is in
    let top = object-taken p t m old x told st lead.0 lead.2.rest lead.2.before mid z popped in
    replaced p m old mid new z popped (c.Bounds ds) pushed refl t l x told st lead.0 lead.2.rest _ (s.Bounds (shown (spans top.reference.reach))) lead.2.before (after-at lead.2.next refl refl) tt tt top
    (ap shown (object-spans p x z top.reference top.is) ∙ sym same)
    (line_goes p l t i.BoundsOfVariable (s.Object top.reference ∷ top.below) _ [] tt [] is top.split (λ rest. refl))
