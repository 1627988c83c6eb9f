-- From a state of which the kinds are told a line leads to another.
use Rattle.std.proofs.Common.{◌≡◌, ℕ, Bool, false, refl, sym, ap, subst, ◌∙◌, arith, reverse}
use Rattle.f3_program.specs.declared.program.Program.{Program}
use Rattle.f3_code.specs.State as s
use Rattle.f3_code.specs.State.{Line, Goes}
use Rattle.f3_code.specs.Machine as machine
use Rattle.f3_code.specs.Heap.{with_answers}
use Rattle.f3_cells.specs.States.{setting}
use Rattle.f3_cell_kinds.specs.Holds.{Fits}
use Rattle.f3_cell_kinds.specs.Laws.{site_at}
use Rattle.f3_cell_kinds.specs.Stands as objects
use Rattle.f3_cell_kinds.proofs.OfProgram.{code_has_kinds}
use Rattle.f3_cell_kinds.proofs.Running.{runs_hold}
use Rattle.f3_cell_kinds.proofs.ReadingSteps.{standing_steps_hold}
use Rattle.f3_store_kinds.specs.Accords.{Accords}
use Rattle.f3_store_kinds.specs.Typing.{Typing}
use Rattle.f3_store_kinds.specs.Laws.{first_typing}
use Rattle.f3_store_kinds.proofs.Running.{steps_accord, start_accords, code_is_clean, code_begins}
use Rattle.f3_store_kinds.proofs.Standing.{parts_stand}
use Rattle.f3_word_cells.specs.Scenes.{code_of}
use Rattle.f3_word_cells.specs.States.{AreCallers, beneath, own}
use Rattle.f3_word_cells.specs.Does.{stream}
use Rattle.f3_word_laws.specs.Laws.{ObjectsAreThere, StartIsTold, RunsAreTold}
use Rattle.f3_store_kinds.specs.There.{CellsThere}
use Rattle.f3_word_laws.proofs.There.{cells_there}

pub objects_are_there : ObjectsAreThere
objects_are_there p live w x t g stands fits acc =
    parts_stand p (site_at p) t g fits acc
    (subst (λ z. CellsThere z (site_at p t.pc).cells t.stack) (sym stands.store)
    (cells_there p live x stands.sound (AreCallers p live (beneath w) (reverse w.callers.items.items) t.frames) w.names.items.items w.here t.here
    (site_at p t.pc).cells (own w) t.stack stands.known stands.stack))

-- kinds do not ask for the answers of a heap
fits_with : (p : Program) (t : s.State) (answers : ℕ → Bool) → Fits p.types.items (site_at p) t → Fits p.types.items (site_at p) (with_answers answers t)
fits_with p t answers f = record { is_reached = f.is_reached; scope = f.scope; end = f.end; stack = f.stack; frames = f.frames }

stands_with : (p : Program) (t : s.State) (answers : ℕ → Bool) → objects.Stands p (site_at p) t → objects.Stands p (site_at p) (with_answers answers t)
stands_with p t answers f = record { cells = f.cells; variables = f.variables }

accords_with : (p : Program) (t : s.State) (answers : ℕ → Bool) (g : Typing) → Accords p (site_at p) g t → Accords p (site_at p) g (with_answers answers t)
accords_with p t answers g a = record { store = a.store; statics = a.statics; static_types = a.static_types; level_types = a.level_types; leads = a.leads }

fits_without : (p : Program) (t : s.State) (answers : ℕ → Bool) → Fits p.types.items (site_at p) (with_answers answers t) → Fits p.types.items (site_at p) t
fits_without p t answers f = record { is_reached = f.is_reached; scope = f.scope; end = f.end; stack = f.stack; frames = f.frames }

accords_without : (p : Program) (t : s.State) (answers : ℕ → Bool) (g : Typing) → Accords p (site_at p) g (with_answers answers t) → Accords p (site_at p) g t
accords_without p t answers g a = record { store = a.store; statics = a.statics; static_types = a.static_types; level_types = a.level_types; leads = a.leads }

none_more : ℕ → Bool
none_more n = false

pub runs_are_told : RunsAreTold
runs_are_told p t u l bytes told at goes live m x stands =
    let a : ℕ → Bool = stream goes.given none_more in
    let step : machine.step 1000 (setting p) (code_of p) (with_answers a t) ≡ Goes goes.out (with_answers none_more u) =
    ap (λ o. machine.does_line 1000 (setting p) (code_of p) o (with_answers a t)) at ∙ goes.goes none_more in
    let there = stands_with p t a told.stands in
    let held = fits_with p t a told.fits in
    let fits = fits_without p u none_more (standing_steps_hold 1000 (setting p) p (code_of p) (site_at p) told.kinds told.formed told.sense refl refl refl
    (with_answers a t) (with_answers none_more u) goes.out held there step) in
    let acc = steps_accord 1000 (setting p) p (code_of p) (site_at p) told.kinds told.formed told.sense (code_is_clean p) (code_begins p told.formed told.sense)
    (with_answers a t) (with_answers none_more u) goes.out told.typing held there (accords_with p t a told.typing told.accords) step in
    let accords = accords_without p u none_more acc.0 acc.2 in
    record {
      plain = told.plain;
      formed = told.formed;
      sense = told.sense;
      kinds = told.kinds;
      clean = told.clean;
      fits = fits;
      stands = objects_are_there p live m x u acc.0 stands fits accords;
      typing = acc.0;
      accords = accords;
    }

pub start_is_told : StartIsTold
start_is_told p plain formed sense answers t begins live m x stands =
    let fits = runs_hold 1000 p formed sense answers 0 t (λ j u less e. absurd (omega (arith, less))) begins in
    let accords = start_accords 1000 p formed sense answers t begins in
    record {
      plain = plain;
      formed = formed;
      sense = sense;
      kinds = (code_has_kinds p formed sense).1;
      clean = code_is_clean p;
      fits = fits;
      stands = objects_are_there p live m x t (first_typing p) stands fits accords;
      typing = first_typing p;
      accords = accords;
    }
