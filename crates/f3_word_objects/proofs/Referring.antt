-- The line of a name.
use Rattle.std.proofs.Common.{◌≡◌, ◌∙◌, ◌+◌, List, [], ◌∷◌, refl, sym, ap, subst}
use Rattle.std.specs.Prelude.{Ok, Err, None, Some, Option, slice_get, slice_index_or}
use Rattle.f3_program.specs.declared.declarations.Base.TheVariants as base
use Rattle.f3_program.specs.declared.declarations.Kind.{Kind}
use Rattle.f3_program.specs.declared.expression.Name as n
use Rattle.f3_program.specs.declared.expression.Name.TheVariants as name
use Rattle.f3_program.specs.declared.program.Program.{Program}
use Rattle.f3_live_blocks.specs.Blocks.{Live}
use Rattle.f3_meaning_whole.specs.Act.{Here, to_root, static_type, type_of, right_to, whole}
use Rattle.f3_meaning_whole.specs.Formed.{found, kind_of_name}
use Rattle.f3_meaning_whole.specs.Reference.{Reference, Define, Read}
use Rattle.f3_meaning_whole.specs.Store.{Store, Static, Local, get}
use Rattle.f3_meaning_whole.specs.Value.{Unallocated}
use Rattle.f3_code.specs.declared.instruction.Instruction.TheVariants as i
use Rattle.f3_code.specs.State.{Line, placed}
use Rattle.f3_code.specs.State as s
use Rattle.f3_cell_kinds.specs.Holds.{AllRefer, InScope, Knows}
use Rattle.f3_cell_kinds.specs.Laws.{site_at}
use Rattle.f3_cell_kinds.specs.Types.{CellType, Scope, Told}
use Rattle.f3_cell_kinds.specs.Types as cell
use Rattle.f3_cell_kinds.proofs.Standing.{in_is}
use Rattle.f3_rooms.specs.Rooms.{Rooms, store_of}
use Rattle.f3_word_cells.specs.declared.cell.Cell.TheVariants as c
use Rattle.f3_word_cells.specs.declared.cell.Object.{Object}
use Rattle.f3_word_cells.specs.declared.scene.Scene.{Scene}
use Rattle.f3_word_cells.specs.declared.state.State.{State}
use Rattle.f3_word_cells.specs.declared.state.Stop.TheVariants as stop
use Rattle.f3_word_cells.specs.Areas.{IsObject, types_of}
use Rattle.f3_word_cells.specs.Cells.{IsHere}
use Rattle.f3_word_cells.specs.Does.{DoesIn, GoesOn, IsTold}
use Rattle.f3_word_cells.specs.Moves.{Pushed}
use Rattle.f3_word_cells.specs.Scenes.{IsScene, code_of}
use Rattle.f3_word_cells.specs.States.{Stands, statics_of}
use Rattle.f3_word_cells.proofs.Orderly.{IsAfter}
use Rattle.f3_word_cells.proofs.Amid.{amid_first, amid_pushed}
use Rattle.f3_word_cells.proofs.Lines.{line_goes, performs_gives, performs_looks}
use Rattle.f3_word_cells.proofs.Moving.{moved_to}
use Rattle.f3_word_cells.proofs.OnTop.{line_kinds}
use Rattle.f3_word_cells.proofs.Within.{here_stands}
use Rattle.f3_word_objects.specs.Variables.{IsNamed}
use Rattle.f3_word_objects.proofs.Named.{static-at, static-stands, local-stands, lent-stands, lent-there, block-there}
use Rattle.f3_word_objects.proofs.Tops.{after-at, goes-on}

-- what is found is there
found-some : {A B : Type 0} (o : Option A) (f : A → Option B) (y : B) → found o f ≡ Some y → (x : A) × (o ≡ Some x)
found-some None f y e = absurd cc
found-some (Some x) f y e = (x, refl)

-- the reference to which a name leads
abbrev pub meant : Program → Store → Here → n.Name → Reference
meant p store here (name.Static k) = to_root (Static k) (static_type (slice_get p.statics.items k)) (right_to here.unit (slice_get p.statics.items k)) here.unit (get store (whole (Static k)))
meant p store here (name.Local k) = to_root (Local here.level k) (type_of (slice_get here.variables k)) Define here.unit (get store (whole (Local here.level k)))
meant p store here (name.Lent k) = slice_index_or here.names k (to_root (Local 0 0) base.Integer Read 0 Unallocated)

-- what is known at the line
pub record Knows-name (p : Program) (t : s.State) (x : n.Name) : Type 0 where
  pub scope : Scope
  pub kind : Kind
  pub rest : List CellType
  pub before : (site_at p t.pc).cells ≡ rest
  pub next : IsAfter p t.pc (t.pc + 1) (cell.Object kind ∷ rest)
  pub variables : t.here.variables ≡ scope.variables
  pub names : AllRefer scope.names t.here.names
  pub is : kind_of_name p scope.variables scope.names x ≡ Some kind

pub knows-name : (p : Program) (t : s.State) (l : Line) (x : n.Name) → IsTold p t → slice_get (code_of p).lines t.pc ≡ Some l → l.act ≡ i.Refer x → Knows-name p t x
knows-name p t l x told there is =
    let goes = line_kinds p t l (i.Refer x) told there is in
    let told-scope = in_is (site_at p t.pc).scope _ goes in
    let known = subst (λ o. InScope p.types.items (Knows p.types.items t.here) o) told-scope.1 told.fits.scope in
    let h = told-scope.2 in
    record {
      scope = told-scope.0;
      kind = h.0;
      rest = h.2.rest;
      before = h.2.before;
      next = after-at h.2.next refl refl;
      variables = known.0;
      names = known.1;
      is = h.1;
    }

module _ (x : Scene) (scene : IsScene x) (m : Live) (w : State) (rooms : Rooms) (t : s.State) (st : Stands x.program.now m w rooms t) (told : IsTold x.program.now t) where
  abbrev p : Program
  p = x.program.now

  abbrev here : IsHere p rooms w.names.items.items w.here t.here
  here = here_stands p m _ rooms w.names.items.items w.here t.here _ t.stack st.stack

  pub named-stands : (y : n.Name) (z : Object) → Knows-name p t y → IsNamed x w y (Some z) → IsObject p rooms z (meant p (store_of (types_of p) m rooms) t.here y)
  named-stands (name.Static k) z known h =
      let y = found-some (slice_get p.statics.items k) _ known.kind known.is in
      static-stands x scene m w rooms t st told.plain told.formed k y.0 z t.here.unit y.1 h
  named-stands (name.Local k) z known h =
      let d = found-some (slice_get known.scope.variables k) _ known.kind known.is in
      local-stands x scene m w rooms t st told.plain told.formed here k d.0 z t.here.unit (ap (λ ds. slice_get ds k) known.variables ∙ d.1) h
  named-stands (name.Lent k) z known h = lent-stands x scene m w rooms t st told.plain told.formed here k z _ h

  pub named-there : (y : n.Name) → Knows-name p t y → IsNamed x w y None → ⊥
  named-there (name.Static k) known none =
      let y = found-some (slice_get p.statics.items k) _ known.kind known.is in
      let some : slice_get (statics_of p) k ≡ Some (y.0).declared = static-at x scene m w rooms t st told.plain told.formed k y.0 y.1 in cc
  named-there (name.Local k) known none =
      let d = found-some (slice_get known.scope.variables k) _ known.kind known.is in
      none d.0 here.room.block (ap (λ ds. slice_get ds k) (sym here.variables ∙ known.variables) ∙ d.1) (block-there x scene m w rooms t st told.plain told.formed here)
  named-there (name.Lent k) known none = lent-there x scene m w rooms t st told.plain told.formed here k known.scope.names known.kind known.names known.is none

module _ (x : Scene) (scene : IsScene x) (m : Live) (old : State) (y : n.Name) where
  pub refer-lost : (new : State) → IsNamed x old y None → DoesIn x.program.now (i.Refer y) (Err stop.Lost) m m old new
  refer-lost new none t l rooms told there is st = absurd (named-there x scene m old rooms t st told y (knows-name x.program.now t l y told there is) none)

  goes-named : (t : s.State) (l : Line) (z : n.Name) → l.act ≡ i.Refer z
      → GoesOn x.program.now l t (moved_to t (t.pc + 1) (s.Object (meant x.program.now (t.world).store t.here z) ∷ t.stack) t.here t.world) []
  goes-named t l (name.Static k) is = line_goes x.program.now l t (i.Refer (name.Static k)) t.stack _ [] tt [] is refl (λ rest. performs_looks _ _ _)
  goes-named t l (name.Local k) is = line_goes x.program.now l t (i.Refer (name.Local k)) t.stack _ [] tt [] is refl (λ rest. performs_looks _ _ _)
  goes-named t l (name.Lent k) is = line_goes x.program.now l t (i.Refer (name.Lent k)) t.stack _ [] tt [] is refl (λ rest. performs_gives _ _ _)

  pub refers : (z : Object) (new : State) → IsNamed x old y (Some z) → Pushed (c.Object z) (old.pc + 1) old new → DoesIn x.program.now (i.Refer y) (Ok tt) m m old new
  refers z new named pushed t l rooms told there is st =
      let p : Program = x.program.now in
      let known = knows-name p t l y told there is in
      let stands = named-stands x scene m old rooms t st told y z known named in
      let object : IsObject p rooms z (meant p (t.world).store t.here y) = subst (λ (store : Store). IsObject p rooms z (meant p store t.here y)) (sym st.store) stands in
      let first = amid_first p t m old rooms known.rest t.stack st known.before refl in
      let amid = amid_pushed p t m old old new rooms (cell.Object known.kind) known.rest (s.Object (meant p (t.world).store t.here y)) t.stack (t.world).store [] (c.Object z) (old.pc + 1) first pushed tt object tt in
      goes-on p t m old rooms told st l new (cell.Object known.kind ∷ known.rest) (s.Object (meant p (t.world).store t.here y) ∷ t.stack) amid known.next pushed.pc (goes-named t l y is)
