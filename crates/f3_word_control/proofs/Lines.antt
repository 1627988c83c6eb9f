-- What becomes of an instruction.
use Rattle.std.proofs.Common.{◌≡◌, ◌∙◌, ℕ, ◌+◌, List, [], ◌∷◌, ◌++◌, refl, sym, subst, ap}
use Rattle.std.specs.Prelude.{Ok, Bool, true}
use Rattle.f3_program.specs.declared.declarations.Kind.{Kind}
use Rattle.f3_program.specs.declared.program.Program.{Program}
use Rattle.f3_live_blocks.specs.Blocks.{Live}
use Rattle.f3_places.specs.declared.source.Place.{Place}
use Rattle.f3_meaning_whole.specs.Act as meaning
use Rattle.f3_meaning_whole.specs.Reference.{Reference}
use Rattle.f3_meaning_whole.specs.Ran.{Event}
use Rattle.f3_meaning_whole.specs.Run.{output}
use Rattle.f3_code.specs.declared.instruction.Instruction.{Instruction}
use Rattle.f3_code.specs.State.{Line, placed, Next, Goes, Stays, Halt}
use Rattle.f3_code.specs.State as s
use Rattle.f3_code.specs.Machine.{act}
use Rattle.f3_code.specs.Heap.{with_answers}
use Rattle.f3_cells.specs.States.{setting}
use Rattle.f3_cell_kinds.specs.Types.{Scope, Around, Told, CellType, Site}
use Rattle.f3_cell_kinds.specs.Types as cell
use Rattle.f3_cell_kinds.specs.Kinds.{arrived}
use Rattle.f3_cell_kinds.specs.Holds.{InScope}
use Rattle.f3_cell_kinds.specs.Laws.{site_at}
use Rattle.f3_rooms.specs.Rooms.{Rooms}
use Rattle.f3_word_cells.specs.declared.cell.Cell.{Cell}
use Rattle.f3_word_cells.specs.declared.cell.Here.{Here}
use Rattle.f3_word_cells.specs.declared.state.Name.{Name}
use Rattle.f3_word_cells.specs.declared.state.State.{State}
use Rattle.f3_word_cells.specs.Cells.{IsCell, IsHere}
use Rattle.f3_word_cells.specs.States.{AreAtHand, IsKnown, IsOrderly, Stands, cell_blocks}
use Rattle.f3_word_cells.specs.Scenes.{code_of}
use Rattle.f3_word_cells.specs.Moves.{Moved, Pushed}
use Rattle.f3_word_cells.specs.Does.{stream, AreGranted, GoesOn, StopsSo, Follows, Becomes}
use Rattle.f3_word_cells.proofs.Flat.{IsFlat}
use Rattle.f3_word_cells.proofs.Orderly.{IsAfter}
use Rattle.f3_word_cells.proofs.Amid.{Amid, amid_last, amid_last_in, amid_moved, amid_pushed}

-- the state with other cells, at another line
abbrev pub with_stack : ℕ → List s.Cell → s.State → s.State
with_stack pc stack t = record { pc = pc; stack = stack; here = t.here; frames = t.frames; world = t.world }

-- elsewhere, in another state of an activation
abbrev pub with_here : ℕ → List s.Cell → meaning.Here → s.State → s.State
with_here pc stack here t = record { pc = pc; stack = stack; here = here; frames = t.frames; world = t.world }

-- a line with this site, of the same scope
pub after_at : {p : Program} {from to : ℕ} {z : Site} → site_at p to ≡ z → z.scope ≡ (site_at p from).scope → z.returns ≡ (site_at p from).returns
    → IsAfter p from to z.cells
after_at e scope returns = record { cells = ap (λ (y : Site). y.cells) e; scope = ap (λ (y : Site). y.scope) e ∙ scope; returns = ap (λ (y : Site). y.returns) e ∙ returns }

-- the line in a SELECT CASE that begins at this site, and the one where a construct was left
abbrev pub begun_at : Site → Kind → Scope → List CellType → Site
begun_at z k o rest = arrived z (record { scope = Told (cell.selecting k o); left = cell.Outside o ∷ [] }) rest

abbrev pub left_to : Site → Scope → List CellType → Site
left_to z o rest = arrived z (record { scope = Told o; left = cell.Going ∷ [] }) rest

-- an activation at a line where its names are at hand
pub orderly_at : (p : Program) (to n : ℕ) (h : Here) (zs : List Cell) (z : Site) (o : Scope) → site_at p to ≡ z → z.scope ≡ Told o → AreAtHand n h zs
    → IsOrderly p to n h zs
orderly_at p to n h zs z o e scope hand =
    subst (λ (a : Around). InScope p.types.items (λ o. AreAtHand n h zs) a) (sym (ap (λ (y : Site). y.scope) e ∙ scope)) hand

module _ (p : Program) (l : Line) (t : s.State) where
  -- what an instruction does, whose line this is
  abbrev pub does : Instruction → (ℕ → Bool) → Next
  does x rest = act 1000 (setting p) (code_of p) x l.value (placed l.place t.here) (with_answers rest t)

  pub goes : {x : Instruction} {u : s.State} → l.act ≡ x → ((rest : ℕ → Bool) → does x rest ≡ Goes [] (with_answers rest u)) → GoesOn p l t u []
  goes e h = record { out = []; given = []; granted = tt; printed = refl; goes = λ rest. rw e (h rest) }

  -- where this happens, and the heap answers so
  pub goes_so : {x : Instruction} {u : s.State} {bytes : List ℕ} (out : List Event) (given : List Bool) → AreGranted given → l.act ≡ x → output out ≡ bytes
      → ((rest : ℕ → Bool) → does x (stream given rest) ≡ Goes out (with_answers rest u)) → GoesOn p l t u bytes
  goes_so out given granted e bytes h = record { out = out; given = given; granted = granted; printed = bytes; goes = λ rest. rw e (h rest) }

  -- the machine stops
  pub stops : {x : Instruction} {halt : Halt} → l.act ≡ x → ((rest : ℕ → Bool) → does x rest ≡ Stays [] halt) → StopsSo p l t halt []
  stops e h = record { out = []; given = []; granted = tt; printed = refl; stops = λ rest. rw e (h rest) }

  module _ (m n : Live) (old : State) (x : Rooms) (st : Stands p m old x t) where
    -- the next line, where this is printed
    pub prints : {mid new : State} {ks : List CellType} (stack : List s.Cell) (bytes : List ℕ) → GoesOn p l t (with_stack (t.pc + 1) stack t) bytes
        → Amid p t n old mid x ks stack t.world.store [] → mid.pc ≡ old.pc → IsAfter p t.pc (t.pc + 1) ks → Moved (mid.pc + 1) mid new
        → Follows p l t bytes n new
    prints {mid = mid} {new = new} {ks = ks} stack bytes goes amid line kinds moved = record {
      next = with_stack (t.pc + 1) stack t;
      rooms = x;
      goes = goes;
      stands = amid_last p t m n old new x ks (t.pc + 1) stack t.world st
          (amid_moved p t n old mid new x ks stack t.world.store [] (mid.pc + 1) amid moved) kinds
          (ap (λ k. k + 1) (st.pc ∙ sym line) ∙ sym (ap (λ (w : State). w.pc) moved.is));
    }

    -- the next line
    pub advances : {mid new : State} {ks : List CellType} (stack : List s.Cell) → GoesOn p l t (with_stack (t.pc + 1) stack t) []
        → Amid p t n old mid x ks stack t.world.store [] → mid.pc ≡ old.pc → IsAfter p t.pc (t.pc + 1) ks → Moved (mid.pc + 1) mid new
        → Becomes p l t (Ok tt) n new
    advances stack goes amid line kinds moved = prints stack [] goes amid line kinds moved

    -- the next line, with one more cell
    pub goes_with : {mid new : State} {k : CellType} {ks : List CellType} (stack : List s.Cell) (a : Cell) (b : s.Cell)
        → GoesOn p l t (with_stack (t.pc + 1) (b ∷ stack) t) [] → Amid p t n old mid x ks stack t.world.store (cell_blocks a ++ []) → mid.pc ≡ old.pc
        → IsAfter p t.pc (t.pc + 1) (k ∷ ks) → Pushed a (mid.pc + 1) mid new → IsFlat b → IsCell p x n old.names.items.items a b → IsKnown p k a
        → Becomes p l t (Ok tt) n new
    goes_with {mid = mid} {new = new} {k = k} {ks = ks} stack a b goes amid line kinds pushed flat is known = record {
      next = with_stack (t.pc + 1) (b ∷ stack) t;
      rooms = x;
      goes = goes;
      stands = amid_last p t m n old new x (k ∷ ks) (t.pc + 1) (b ∷ stack) t.world st
          (amid_pushed p t n old mid new x k ks b stack t.world.store [] a (mid.pc + 1) amid pushed flat is known) kinds
          (ap (λ i. i + 1) (st.pc ∙ sym line) ∙ sym pushed.pc);
    }

    -- the next line, elsewhere in the same activation
    pub advances_in : {mid new : State} {ks : List CellType} (stack : List s.Cell) (f : Here → Here) (here : meaning.Here)
        → GoesOn p l t (with_here (t.pc + 1) stack here t) [] → Amid p t n old mid x ks stack t.world.store [] → mid.pc ≡ old.pc
        → IsAfter p t.pc (t.pc + 1) ks → (f old.here).names ≡ old.here.names → ((y : Rooms) (ns : List Name) → IsHere p y ns old.here t.here → IsHere p y ns (f old.here) here)
        → new ≡ record mid { pc = mid.pc + 1; here = f mid.here } → Becomes p l t (Ok tt) n new
    advances_in {mid = mid} {new = new} {ks = ks} stack f here goes amid line kinds named there e =
        let same : new ≡ record mid { pc = t.pc + 1; here = f old.here } =
        e ∙ ap (λ k. record mid { pc = k + 1; here = f mid.here }) (line ∙ sym st.pc) ∙ ap (λ h. record mid { pc = t.pc + 1; here = f h }) amid.here in
        record {
          next = with_here (t.pc + 1) stack here t;
          rooms = x;
          goes = goes;
          stands = subst (λ w. Stands p n w x (with_here (t.pc + 1) stack here t)) (sym same)
              (amid_last_in p t m n old mid x ks (t.pc + 1) stack here t.world st amid kinds (f old.here) named there);
        }

module _ (p : Program) (x : Rooms) (ns : List Name) (h : Here) (here : meaning.Here) (is : IsHere p x ns h here) where
  -- the same at another place, and where other objects are lent
  pub at_place : (place place' : Place) → place' ≡ place → IsHere p x ns (record h { place = place }) (meaning.at place' here)
  at_place place place' e = record {
    place = e;
    unit = is.unit;
    level = is.level;
    variables = is.variables;
    names = is.names;
    selected = is.selected;
    room = is.room;
    stands = is.stands;
    declared = is.declared;
  }

  pub lending_so : (lent : List Reference) → IsHere p x ns h (record here { lent = lent })
  lending_so lent = record {
    place = is.place;
    unit = is.unit;
    level = is.level;
    variables = is.variables;
    names = is.names;
    selected = is.selected;
    room = is.room;
    stands = is.stands;
    declared = is.declared;
  }
