-- Where no ASSOCIATE is open there is one level.
use Rattle.std.proofs.Common.{◌≡◌, ◌≤◌, ℕ, List, [], ◌∷◌, length, reverse, refl, ap, sym, subst, ◌∙◌, arith}
use Rattle.std.proofs.lemmas.List.{length-map}
use Rattle.f3_program.specs.declared.declarations.Derived.{Derived}
use Rattle.f3_program.specs.declared.declarations.Kind.{Kind}
use Rattle.f3_program.specs.declared.program.Program.{Program}
use Rattle.f3_live_blocks.specs.Blocks.{Live}
use Rattle.f3_meaning_whole.specs.Act as m
use Rattle.f3_code.specs.State as s
use Rattle.f3_cell_kinds.specs.Types.{Scope, Around, CellType, Site}
use Rattle.f3_cell_kinds.specs.Types as cell
use Rattle.f3_cell_kinds.specs.Holds.{Is, Stand, Knows}
use Rattle.f3_cell_kinds.specs.Laws.{site_at}
use Rattle.f3_rooms.specs.Rooms.{Rooms, level_values}
use Rattle.f3_word_cells.specs.declared.cell.Here.{Here}
use Rattle.f3_word_cells.specs.declared.cell.Cell.{Cell}
use Rattle.f3_word_cells.specs.declared.state.Name.{Name}
use Rattle.f3_word_cells.specs.declared.state.State.{State}
use Rattle.f3_word_cells.specs.Areas.{types_of}
use Rattle.f3_word_cells.specs.Cells.{AreCells, rooms_under, names_under, here_under, here_beneath}
use Rattle.f3_word_cells.specs.States.{Stands, AreCallers, own, beneath}
use Rattle.f3_word_needs.specs.Counts.{associated, all_levels}
use Rattle.f3_word_needs.specs.Room.{Beneath, FramesLevelled}
use Rattle.f3_word_account.specs.Laws.{HoldsNone, AllHoldNone}
use Rattle.f3_word_account.specs.Runs.{IsIdle, AreIdle, LinesLeakNothing}
use Rattle.f3_word_account.proofs.Leaving.{starts_count, nothing_leaks}
use Rattle.f3_word_account.proofs.Empty.{nothing_under, lines_hold_no_values}

idle_holds : (k : CellType) → IsIdle k → HoldsNone k
idle_holds (cell.Level ks) idle = absurd idle
idle_holds (cell.Datum k) idle = idle
idle_holds (cell.Object k) idle = idle
idle_holds (cell.Each array k j) idle = idle
idle_holds (cell.Argument k) idle = idle
idle_holds (cell.Choice k) idle = idle
idle_holds cell.Bound idle = idle
idle_holds (cell.Bounds k) idle = idle
idle_holds cell.Extent idle = idle
idle_holds cell.Status idle = idle
idle_holds cell.Turns idle = idle
idle_holds (cell.Elements k) idle = idle
idle_holds (cell.Objects k) idle = idle
idle_holds (cell.Selector k) idle = idle
idle_holds (cell.Outside k) idle = idle
idle_holds cell.Going idle = idle

all_idle : (ks : List CellType) → AreIdle ks → AllHoldNone ks
all_idle [] idle = tt
all_idle (k ∷ ks) idle = (idle_holds k idle.0, all_idle ks idle.1)

module _ (types : List Derived) where
  level_idle : (k : CellType) (b : s.Cell) (cs : List s.Cell) → IsIdle k → Is types k b → associated (b ∷ cs) ≡ associated cs
  level_idle k (s.Datum v) cs idle is = refl
  level_idle k (s.Object v) cs idle is = refl
  level_idle k (s.Argument v) cs idle is = refl
  level_idle k (s.Choice v) cs idle is = refl
  level_idle k (s.Bound v) cs idle is = refl
  level_idle k (s.Bounds v) cs idle is = refl
  level_idle k (s.Extent v) cs idle is = refl
  level_idle k (s.Status v) cs idle is = refl
  level_idle k (s.Turns v z) cs idle is = refl
  level_idle k (s.Elements v) cs idle is = refl
  level_idle k (s.Objects v) cs idle is = refl
  level_idle k (s.To v z) cs idle is = refl
  level_idle k (s.Selector v) cs idle is = refl
  level_idle k (s.Level v z) cs idle is = absurd (by k idle is)
    where
      by : (k : CellType) → IsIdle k → Is types k (s.Level v z) → ⊥
      by (cell.Level ks) idle is = idle
      by k idle is = is
  level_idle k (s.Outside v) cs idle is = refl
  level_idle k (s.Going v) cs idle is = refl

module _ (p : Program) (n : Live) (types : List Derived) (sites : ℕ → Site) (Known : Scope → Type 0) where
  levels_idle : (Rest : Rooms → List Name → Type 0) (x : Rooms) (ns : List Name) (h : Here) (here : m.Here) (zs : List Cell) (bs : List s.Cell)
      (o : Around) (r end : Kind) (ks : List CellType) → AreCells p n Rest x ns h here zs bs → Stand types sites Known o r ks bs end → AreIdle ks
      → associated bs ≡ []
  levels_idle Rest x ns h here [] [] o r end ks are stand idle = refl
  levels_idle Rest x ns h here [] (b ∷ bs) o r end ks are stand idle = absurd are
  levels_idle Rest x ns h here (a ∷ zs) [] o r end ks are stand idle = absurd are
  levels_idle Rest x ns h here (a ∷ zs) (b ∷ bs) o r end [] are stand idle =
      absurd (nothing_under p n types sites Known x ns a b bs o r end are.0 stand)
  levels_idle Rest x ns h here (a ∷ zs) (b ∷ bs) o r end (k ∷ ks) are stand idle =
      level_idle types k b bs idle.0 stand.0
      ∙ levels_idle Rest (rooms_under a x) (names_under a ns) (here_under a h) (here_beneath a b here) zs bs o r end ks are.2 stand.1 idle.1

module _ (p : Program) (n : Live) (w : State) (x : Rooms) (t : s.State) (st : Stands p n w x t) where
  levels_are : length w.levels.items.items ≡ all_levels t
  levels_are =
      ap length st.levels ∙ starts_count 0 x.levels
      ∙ sym (ap (λ (y : _). length y.levels) st.store ∙ length-map x.levels (level_values (types_of p) n))

pub lines_leak_nothing : LinesLeakNothing
lines_leak_nothing p n w x t st fits has none idle =
    let Rest = AreCallers p n (beneath w) (reverse w.callers.items.items) t.frames in
    let shut : associated t.stack ≡ [] =
    levels_idle p n p.types.items (site_at p) (Knows p.types.items t.here) Rest x w.names.items.items w.here t.here (own w) t.stack
    (site_at p t.pc).scope (site_at p t.pc).returns fits.end (site_at p t.pc).cells st.stack fits.stack idle in
    let under : FramesLevelled (all_levels t) t.frames = subst (λ ls. Beneath (all_levels t) ls (λ m. FramesLevelled m t.frames)) shut has.levels in
    let few : all_levels t ≤ 1 = subst (FramesLevelled (all_levels t)) none under in
    nothing_leaks p n w x t st (let e = levels_are p n w x t st in omega (arith, e, few))
    (lines_hold_no_values p n w x t st fits none (all_idle (site_at p t.pc).cells idle))
