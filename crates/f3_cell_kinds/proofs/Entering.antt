-- Steps that enter or leave activations and constructs keep to what cells hold.
use Rattle.std.proofs.Common.{◌≡◌, ◌∙◌, sym, ap, ℕ, ◌+◌, true, List, [], ◌∷◌, ◌++◌, length, refl, subst}
use Rattle.std.specs.Prelude.{nat_eq, nat_lt, slice_get}
use Rattle.std.proofs.lemmas.Bool.{eqb-true}
use Rattle.f3_places.specs.declared.source.Place.{Place}
use Rattle.f3_program.specs.declared.declarations.Base.TheVariants as base
use Rattle.f3_program.specs.declared.declarations.Derived.{Derived}
use Rattle.f3_program.specs.declared.declarations.Kind.{Kind}
use Rattle.f3_program.specs.declared.program.Program.{Program}
use Rattle.f3_meaning_whole.specs.Value.{Value}
use Rattle.f3_meaning_whole.specs.Reference.{Reference}
use Rattle.f3_meaning_whole.specs.Ran.{Event, Ran, World, ◌>>=◌, gives, looks}
use Rattle.f3_meaning_whole.specs.Act.{Setting, Here, Passed, given, enter, begins, claim, claim_for, set, clear, leave, passed_at}
use Rattle.f3_meaning_whole.specs.Act as meaning
use Rattle.f3_meaning_whole.specs.Exec.{dummies, held_by, associates}
use Rattle.f3_meaning_whole.specs.Formed.{of_kind, kinds_of}
use Rattle.f3_code.specs.declared.instruction.Instruction.TheVariants as i
use Rattle.f3_code.specs.declared.instruction.Way.{Way}
use Rattle.f3_code.specs.State as state
use Rattle.f3_code.specs.State.{Line, placed, Entry, Code, Cell, To, Frame, State, Next}
use Rattle.f3_code.specs.Machine.{begun, called_at, act, performs, on_datum, on_object, returned, outward, routine_at, on_to}
use Rattle.f3_cell_kinds.specs.Types.{Scope, Around, Told, Untold, InRoutine, CellType, Site, selecting, associating}
use Rattle.f3_cell_kinds.specs.Types as cell
use Rattle.f3_cell_kinds.specs.Kinds.{arrived, Leads, IsNext, AreFar, first_site, ProceduresBegin, RoutinesBegin, routine_site, AreKinds}
use Rattle.f3_cell_kinds.specs.Kinds as kinds
use Rattle.f3_cell_kinds.specs.Holds.{Refers, AllRefer, IsOf, Knows, Is, InScope, Stand, FramesHold, Fits}
use Rattle.f3_cell_kinds.proofs.Yielding.{any_yields}
use Rattle.f3_cell_kinds.proofs.Reaching.{AllPassed, associates_refer, refer_append}
use Rattle.f3_cell_kinds.proofs.Piled.{at_arguments, at_selectors}
use Rattle.f3_cell_kinds.proofs.Holding.{Has, elsewhere, returns_end, fit, Keeps, stays_so, goes_so, performing, if_keeps, took, on_top, at_datum, at_object, at_objects, at_outside}
use Rattle.f3_cell_kinds.proofs.Standing.{in_is, not_routine, EntryAt, entry_at, called_refer}

module _ (limit : ℕ) (g : Setting) (p : Program) (code : Code) (sites : ℕ → Site) (are : AreKinds p sites code) (s : State) (fits : Fits p.types.items sites s) (l : Line) where
  abbrev pub types : List Derived
  types = p.types.items

  abbrev pub here : Here
  here = placed l.place s.here

  abbrev pub K : Scope → Type 0
  K = Knows types s.here

  abbrev pub o : Around
  o = (sites s.pc).scope

  abbrev pub r : Kind
  r = (sites s.pc).returns

  abbrev pub Cells : List CellType → List Cell → Type 0
  Cells xs stack = Has types sites K o r fits.end xs stack

  abbrev pub Kept : Next → Type 0
  Kept n = Keeps types sites n

  pub had : {xs : List CellType} → (sites s.pc).cells ≡ xs → Cells xs s.stack
  had e = took types sites K o r fits.end s.stack e fits.stack

  pub top : {c : Cell} {x : CellType} {xs : List CellType} {stack : List Cell} → Is types x c → Cells xs stack → Cells (x ∷ xs) (c ∷ stack)
  top e h = on_top types sites K o r fits.end e h

  -- on with the same scope
  pub there : {pc : ℕ} {xs : List CellType} {stack : List Cell} {w : World} → sites pc ≡ record { is_reached = true; returns = r; scope = o; cells = xs } → Cells xs stack →
      Fits types sites (record { pc = pc; stack = stack; here = s.here; frames = s.frames; world = w })
  there e h = fit types sites e fits.scope h fits.frames

  pub goes : {out : List Event} {pc : ℕ} {xs : List CellType} {stack : List Cell} {w : World} → sites pc ≡ record { is_reached = true; returns = r; scope = o; cells = xs } → Cells xs stack →
      Kept (state.Goes out (record { pc = pc; stack = stack; here = s.here; frames = s.frames; world = w }))
  goes e h = goes_so types sites (there e h)

  -- whatever a part of a run gives
  pub does : {A : Type 0} (x : Ran A) {f : A → World → State} → ((y : A) (w : World) → Fits types sites (f y w)) → Kept (performs x s.world f)
  does x h = performing types sites x s.world (any_yields x) (λ y t w. h y w)

  pub datum : {k : Kind} {rest : List CellType} {f : Value → List Cell → Next} (stack : List Cell) → Cells (cell.Datum k ∷ rest) stack →
      ((v : Value) (st : List Cell) → IsOf types k v → Cells rest st → Kept (f v st)) → Kept (on_datum stack f)
  datum stack h f = at_datum types sites K o r fits.end stack h f

  pub object : {k : Kind} {rest : List CellType} {f : Reference → List Cell → Next} (stack : List Cell) → Cells (cell.Object k ∷ rest) stack →
      ((q : Reference) (st : List Cell) → Refers k q → Cells rest st → Kept (f q st)) → Kept (on_object stack f)
  object stack h f = at_object types sites K o r fits.end stack h f

  -- the same, where a statement goes on with more or less lent
  pub goes_by : {out : List Event} {pc : ℕ} {xs : List CellType} {stack : List Cell} {w : World} (place : Place) (lent : List Reference) →
      sites pc ≡ record { is_reached = true; returns = r; scope = o; cells = xs } → Cells xs stack → Kept (state.Goes out (record {
        pc = pc;
        stack = stack;
        here = record {
          place = place;
          unit = s.here.unit;
          level = s.here.level;
          variables = s.here.variables;
          names = s.here.names;
          lent = lent;
          selected = s.here.selected;
        };
        frames = s.frames;
        world = w;
      }))
  goes_by place lent e h = goes_so types sites (fit types sites e fits.scope h fits.frames)

  abbrev pub in_case : Value → Here
  in_case x = record {
    place = s.here.place;
    unit = s.here.unit;
    level = s.here.level;
    variables = s.here.variables;
    names = s.here.names;
    lent = s.here.lent;
    selected = x;
  }

  abbrev pub associating_here : List Reference → Here
  associating_here rs = record {
    place = s.here.place;
    unit = s.here.unit;
    level = s.here.level;
    variables = s.here.variables;
    names = s.here.names ++ rs;
    lent = rs ++ s.here.lent;
    selected = s.here.selected;
  }

  -- what statements may name there
  pub known_at : (c : Scope) → o ≡ Told c → K c
  known_at c e = subst (λ o. InScope types K o) e fits.scope

  -- where a procedure goes on elsewhere
  pub out_of : {Known' : Scope → Type 0} {xs : List CellType} {stack : List Cell} (o' : Around) (c : Scope) → o ≡ Told c → Cells xs stack → Has types sites Known' o' r fits.end xs stack
  out_of {Known' = Known'} {xs = xs} {stack = stack} o' c e h = elsewhere types sites {Known' = Known'} o' xs stack (not_routine o c e) h

  pub at_caller : (o : Around) → o ≡ Untold → o ≡ InRoutine → ⊥
  at_caller o e f = cc

  pub selecting_holds : kinds.Goes p sites s.pc l i.Selecting → Kept (act limit g code i.Selecting l.value here s)
  selecting_holds b =
      let c = in_is o _ b in
      let lead = c.2.2 in
      let known = known_at c.0 c.1 in
      datum s.stack (had lead.before) (λ x st h q.
      goes_so types sites (fit types sites {here = in_case x} lead.next (known.0, known.1, h)
      (on_top types sites (Knows types (in_case x)) (Told (selecting c.2.0 c.0)) r fits.end known (out_of (Told (selecting c.2.0 c.0)) c.0 c.1 q)) fits.frames))

  pub leave_holds : (by : Way) (d : ℕ) → kinds.Goes p sites s.pc l (i.Leave by d) → Kept (act limit g code (i.Leave by d) l.value here s)
  leave_holds by d b =
      let c = in_is o _ b in
      let lead = c.2.1 in
      at_outside types sites K o r fits.end s.stack (had lead.before) (λ outer st known q.
      goes_so types sites (fit types sites {here = outer} lead.far.0 known
      (on_top types sites (Knows types outer) (Told c.2.0) r fits.end tt (out_of (Told c.2.0) c.0 c.1 q)) fits.frames))

  pub outward_holds : kinds.Goes p sites s.pc l i.Outward → Kept (act limit g code i.Outward l.value here s)
  outward_holds b =
      let c = in_is o _ b in
      by_frames c.0 c.1 c.2.before c.2.next s.frames fits.frames
    where
      by_frames : (c : Scope) → o ≡ Told c → {rest : List CellType} → (sites s.pc).cells ≡ rest →
          sites (s.pc + 1) ≡ record { is_reached = true; returns = r; scope = Untold; cells = cell.Objects c.names ∷ rest } →
          (frames : List Frame) → FramesHold types sites fits.end s.frames → Kept (outward frames s)
      by_frames c is before next [] h = stays_so types sites
      by_frames c is before next (f ∷ fs) h = goes_so types sites (fit types sites {here = f.caller} next tt
          (on_top types sites (Knows types f.caller) Untold r fits.end (known_at c is).1 (out_of Untold c is (had before))) h)

  pub return_holds : kinds.Goes p sites s.pc l i.Return → Kept (act limit g code i.Return l.value here s)
  return_holds (untold, ks, b) = at_objects types sites K o r fits.end s.stack (had b.before) (λ rs st h q. datum st q (λ x st' f q'.
      let same = returns_end types sites b.rest st' (at_caller o untold) q' in
      by_frames s.frames fits.frames x (subst (λ (k : Kind). IsOf types k x) same f)))
    where
      by_frames : (frames : List Frame) → FramesHold types sites fits.end frames → (x : Value) → IsOf types fits.end x → Kept (returned frames s x)
      by_frames [] h x f = stays_so types sites
      by_frames (y ∷ ys) h x f = does (leave y.level) (λ done w. record {
        is_reached = h.2;
        scope = h.4;
        end = h.1;
        stack = subst (λ cs. Stand types sites (Knows types y.here) (sites y.pc).scope (sites y.pc).returns cs (state.Datum x ∷ y.stack) h.1) (sym h.3) (f, h.5);
        frames = h.6;
      })

  pub routine_holds : (t : ℕ) → kinds.Goes p sites s.pc l (i.Routine t) → Kept (act limit g code (i.Routine t) l.value here s)
  routine_holds t b = object s.stack (had b.before) (λ q st h c. by_routines code.routines are.routines q st h c)
    where
      by_routines : (pcs : List ℕ) → RoutinesBegin sites pcs → (q : Reference) (st : List Cell) → Refers (of_kind (base.Derived t) 0) q → Cells b.rest st →
          Kept (routine_at pcs t (λ pc. state.Goes [] (record { pc = pc; stack = state.Object q ∷ To (s.pc + 1) s.here.place ∷ st; here = here; frames = s.frames; world = s.world }))
          (state.Goes [] (record { pc = s.pc + 1; stack = s.stack; here = s.here; frames = s.frames; world = s.world })))
      by_routines [] begin q st h c = goes b.next (had b.before)
      by_routines (pc ∷ pcs) begin q st h c = if_keeps types sites (nat_eq t (length pcs))
          (λ e. goes_so types sites (fit types sites {o = InRoutine} {here = here} begin.0 tt (within q st h c (length pcs) (eqb-true t (length pcs) e)) fits.frames))
          (λ e. by_routines pcs begin.1 q st h c)
        where
          within : (q : Reference) (st : List Cell) → Refers (of_kind (base.Derived t) 0) q → Cells b.rest st → (u : ℕ) → t ≡ u →
              Has types sites (Knows types here) InRoutine (of_kind (base.Derived u) 0) fits.end (cell.Object (of_kind (base.Derived u) 0) ∷ [])
              (state.Object q ∷ To (s.pc + 1) s.here.place ∷ st)
          within q st h c u same =
              let back = s.pc + 1 in
              record {
                by = (
                  subst (λ n. Refers (of_kind (base.Derived n) 0) q) same h,
                  (
                    refl,
                    b.rest,
                    ap (λ (z : Site). z.is_reached) b.next,
                    ap (λ (z : Site). z.cells) b.next ∙ ap (λ n. cell.Object (of_kind (base.Derived n) 0) ∷ b.rest) same,
                    subst (λ (z : Site). InScope types K z.scope) (sym b.next) fits.scope,
                    subst (λ (z : Site). Stand types sites K z.scope z.returns b.rest st fits.end) (sym b.next) c.by,
                  ),
                );
              }

  pub back_holds : kinds.Goes p sites s.pc l i.Back → Kept (act limit g code i.Back l.value here s)
  back_holds b = object s.stack (had b) (λ q st h c. by_place st q h c)
    where
      by_place : (st : List Cell) (q : Reference) → Refers r q → Cells [] st → Kept (on_to st (λ pc place st. state.Goes [] (record {
        pc = pc;
        stack = state.Object q ∷ st;
        here = meaning.at place s.here;
        frames = s.frames;
        world = s.world;
      })))
      by_place [] q h c = stays_so types sites
      by_place (To pc place ∷ st) q h c = goes_so types sites (record {
        is_reached = c.by.2;
        scope = c.by.4;
        end = fits.end;
        stack = subst (λ cs. Stand types sites K (sites pc).scope (sites pc).returns cs (state.Object q ∷ st) fits.end) (sym c.by.3) (h, c.by.5);
        frames = fits.frames;
      })
      by_place (x ∷ st) q h c = absurd c.by

  pub call_holds : (f n : ℕ) → kinds.Goes p sites s.pc l (i.Call f n) → Kept (act limit g code (i.Call f n) l.value here s)
  call_holds f n (gs, q, k, many, at_f, is, b) = at_arguments types sites K o r fits.end gs n s.stack many (had b.before) (λ ps st passed c.
      if_keeps types sites (nat_lt (length s.frames) limit) (λ t. by_entry ps st passed c (entry_at sites p.procedures.items code.procedures f q are.procedures at_f)) (λ t. stays_so types sites))
    where
      by_entry : (ps : List Passed) (st : List Cell) → AllPassed types gs ps → Cells b.rest st → EntryAt sites code.procedures f q → Kept (called_at (slice_get code.procedures f) s st here ps)
      by_entry ps st are c x = subst (λ o. Kept (called_at o s st here ps)) (sym x.at) (does (begun ps x.entry.initial here) (λ level w.
          fit types sites x.begins (
            x.variables,
            subst (λ ds. AllRefer (kinds_of q.dummies.items) (dummies 0 ds ps level here.unit)) (sym x.dummies)
                (called_refer p types f gs ps q k level here.unit at_f is are),
            tt,
          ) (record { by = refl }) (
            b.rest,
            fits.end,
            ap (λ (z : Site). z.is_reached) b.next,
            ap (λ (z : Site). z.cells) b.next,
            subst (λ (z : Site). InScope types K z.scope) (sym b.next) fits.scope,
            subst (λ (z : Site). Stand types sites K z.scope z.returns b.rest st fits.end) (sym b.next) c.by,
            fits.frames,
          )))

  pub associate_holds : (n : ℕ) → kinds.Goes p sites s.pc l (i.Associate n) → Kept (act limit g code (i.Associate n) l.value here s)
  associate_holds n b =
      let c = in_is o _ b in
      let ks = c.2.0 in
      let lead = c.2.2 in
      let known = known_at c.0 c.1 in
      at_selectors types sites K o r fits.end ks n s.stack c.2.1 (had lead.before) (λ found st are q.
      does (looks (λ store. length store.levels) >>= λ level. enter (held_by found) >>= λ done. gives level) (λ level w.
      let rs = associates found level 0 here.unit in
      let refs = associates_refer types ks found level 0 here.unit are in
      let inner = associating_here rs in
      let known' : Knows types inner (associating ks c.0) = (known.0, refer_append types c.0.names ks s.here.names rs known.1 refs, known.2) in
      fit types sites {here = inner} lead.next known'
      (on_top types sites (Knows types inner) (Told (associating ks c.0)) r fits.end known (on_top types sites (Knows types inner) (Told (associating ks c.0)) r fits.end refs
      (out_of (Told (associating ks c.0)) c.0 c.1 q))) fits.frames))
