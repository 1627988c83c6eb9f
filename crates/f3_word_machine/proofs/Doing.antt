-- What an instruction does, by what its call says.
use Rattle.std.proofs.Common.{◌≡◌, ◌≢◌, ◌<◌, ℕ, true, List, [], length, refl, sym, ◌∙◌, subst, ap, inl, inr, reverse, vec_len, arith}
use Rattle.std.specs.Prelude.{⊤, ◌⊎◌, Result, Ok, Err, Option, Some, None, slice_get, unwrap_or}
use Rattle.std.proofs.lemmas.List.{length-map}
use Rattle.std.specs.Option.{option_map}
use Rattle.std.proofs.lemmas.Option.{slice_get-map, slice_get_cases}
use Rattle.f3_places.specs.declared.source.Place.{Place}
use Rattle.f3_program.specs.declared.program.Program.{Program}
use Rattle.f3_live_blocks.specs.Blocks.{Live}
use Rattle.f3_meaning_whole.specs.declared.run_error.RunError.{RunError}
use Rattle.f3_meaning_whole.specs.declared.run_error.RunError.TheVariants as error
use Rattle.f3_meaning_whole.specs.Act.{Here}
use Rattle.f3_meaning_whole.specs.Permitted.{IsLawful}
use Rattle.f3_meaning_whole.specs.Run.{setting_of}
use Rattle.f3_code.specs.declared.instruction.Instruction.{Instruction}
use Rattle.f3_code.specs.State as s
use Rattle.f3_code.specs.State.{Line, Code, Failed, placed}
use Rattle.f3_code.specs.Heap.{granted, with_answers}
use Rattle.f3_cells.specs.States.{setting}
use Rattle.f3_gen_values.specs.Emitted.{line_in}
use Rattle.f3_gen_values.specs.declared.line.Line as emitted
use Rattle.f3_output.specs.Output as o
use Rattle.f3_output.specs.Output.{Wrote}
use Rattle.f3_output.proofs.Outputs.{wrote_none}
use Rattle.f3_rooms.specs.Rooms.{Rooms}
use Rattle.f3_word_cells.specs.declared.scene.Scene.{Scene}
use Rattle.f3_word_cells.specs.declared.state.State.{State}
use Rattle.f3_word_cells.specs.declared.state.Stop.{Stop}
use Rattle.f3_word_cells.specs.declared.state.Stop.TheVariants as stop
use Rattle.f3_word_cells.specs.Plain.{IsPlain, is_plain_act}
use Rattle.f3_word_cells.specs.Scenes.{IsScene, code_of}
use Rattle.f3_word_cells.specs.States.{Stands, AreCallers, beneath, own}
use Rattle.f3_word_cells.specs.Wants.{asked, wanted}
use Rattle.f3_word_cells.specs.Does.{Becomes, BecomesOver, DoesIn, DoesOver, IsAt, Keeps, KeepsRoom, StopsSo, stream}
use Rattle.f3_word_cells.proofs.Within.{here_stands}
use Rattle.f3_word_control.specs.Doing.{DoesWith, DoesPrint, Prints}
use Rattle.f3_word_entries.specs.Doing.{DoesOverAt}
use Rattle.f3_word_steps.specs.Cells.{DoesCells}
use Rattle.f3_word_needs.specs.Room.{IsOfRun}
use Rattle.f3_word_machine.specs.declared.ended.Ended.{Ended}
use Rattle.f3_word_machine.specs.declared.ended.Ended.TheVariants as end
use Rattle.f3_word_machine.specs.Steps.{EndsBy, PrintsAt, PrintsOver, Steps}
use Rattle.f3_word_laws.proofs.Fair.{IsFair}
use Rattle.f3_word_laws.proofs.FairLines.{act_fair}
use Rattle.f3_word_machine.proofs.Answering.{granted_at}
use Rattle.f3_word_machine.proofs.Never.{never_nowhere, never_lost, never_forbidden}

-- ---- stacks

pub keeps_room : {a b : State} → Keeps a b → KeepsRoom a b
keeps_room h = record {
  cells = h.cells;
  names = ap (λ (w : _). w.room) h.names;
  callers = ap (λ (w : _). w.room) h.callers;
  blocks = ap (λ (w : _). w.room) h.blocks;
  levels = ap (λ (w : _). w.room) h.levels;
}

-- ---- errors for want of room

-- a line that stops so makes a request that is refused
pub no_refusal : (p : Program) (l : Line) (t : s.State) (place : Place) (bytes : List ℕ) → is_plain_act l.act ≡ true → StopsSo p l t (Failed error.HeapHasNoRoom place) bytes → ⊥
no_refusal p l t place bytes plain f = (subst IsFair (f.stops granted)
    (act_fair 1000 (setting p) (code_of p) l.act l.value (placed l.place t.here) (with_answers (stream f.given granted) t) (granted_at f.given f.granted) plain)).so

-- ---- instructions

-- an error that is not for want of room
abbrev pub IsOther : RunError → Type 0
IsOther error.HeapHasNoRoom = ⊥
IsOther e = ⊤

module _ (Full Spent : ℕ → Type 0) (p : Program) (act : Instruction) (place : Place) (old new : State) (r : Result ⊤ Stop) (m n : Live) (a : o.State) where
  printed_error : (b : o.State) (t : s.State) (l : Line) → is_plain_act l.act ≡ true → (e : RunError) → Prints p l t (Err (stop.Failed e)) n new a b
      → PrintsOver Full Spent p l t (Err (stop.Failed e)) n new a b
  printed_error b t l plain error.HeapHasNoRoom f = absurd (no_refusal p l t _ [] plain f.0)
  printed_error b t l plain e f = f

  printed : (b : o.State) (t : s.State) (l : Line) → is_plain_act l.act ≡ true → (z : Result ⊤ Stop) → Prints p l t z n new a b → PrintsOver Full Spent p l t z n new a b
  printed b t l plain (Ok done) f = f
  printed b t l plain (Err stop.Done) f = f
  printed b t l plain (Err (stop.Stopped number)) f = f
  printed b t l plain (Err (stop.Failed e)) f = printed_error b t l plain e f
  printed b t l plain (Err stop.Lost) f = f
  printed b t l plain (Err stop.Forbidden) f = f
  printed b t l plain (Err stop.Refused) f = f
  printed b t l plain (Err stop.Memory) f = absurd f.0

  silent : (t : s.State) (l : Line) (z : Result ⊤ Stop) → Becomes p l t z n new → Prints p l t z n new a a
  silent t l (Ok done) f = ([], f, wrote_none)
  silent t l (Err stop.Done) f = (f, wrote_none)
  silent t l (Err (stop.Stopped number)) f = (f, wrote_none)
  silent t l (Err (stop.Failed error)) f = (f, wrote_none)
  silent t l (Err stop.Lost) f = (f, wrote_none)
  silent t l (Err stop.Forbidden) f = (f, wrote_none)
  silent t l (Err stop.Refused) f = absurd f
  silent t l (Err stop.Memory) f = absurd f

  over_error : (t : s.State) (l : Line) (e : RunError) → BecomesOver Full Spent p l t (Err (stop.Failed e)) n new → PrintsOver Full Spent p l t (Err (stop.Failed e)) n new a a
  over_error t l error.HeapHasNoRoom f = (f.0, f.1, wrote_none)
  over_error t l e f = (f, wrote_none)

  over : (t : s.State) (l : Line) (z : Result ⊤ Stop) → BecomesOver Full Spent p l t z n new → PrintsOver Full Spent p l t z n new a a
  over t l (Ok done) f = ([], f, wrote_none)
  over t l (Err stop.Done) f = (f, wrote_none)
  over t l (Err (stop.Stopped number)) f = (f, wrote_none)
  over t l (Err (stop.Failed e)) f = over_error t l e f
  over t l (Err stop.Lost) f = (f, wrote_none)
  over t l (Err stop.Forbidden) f = (f, wrote_none)
  over t l (Err stop.Refused) f = absurd f
  over t l (Err stop.Memory) f = (f, wrote_none)

  pub by_in : (i : Instruction) → act ≡ i → DoesIn p i r m n old new → PrintsAt Full Spent p place act r m n old new a a
  by_in i is d = λ t l x told there acts at stands. printed a t l (told.plain.lines t.pc l there) r (silent t l r (d t l x told there (acts ∙ is) stands))

  pub by_with : (i : Instruction) → act ≡ i → DoesWith i r m n old new → PrintsAt Full Spent p place act r m n old new a a
  by_with i is d = by_in i is (d p)

  pub by_prints : (b : o.State) (i : Instruction) → act ≡ i → DoesPrint i r m n old new a b → PrintsAt Full Spent p place act r m n old new a b
  by_prints b i is d = λ t l x told there acts at stands. printed b t l (told.plain.lines t.pc l there) r (d p t l x told there (acts ∙ is) stands)

  pub by_over : (i : Instruction) → act ≡ i → DoesOver Full Spent p i r m n old new → PrintsAt Full Spent p place act r m n old new a a
  by_over i is d = λ t l x told there acts at stands. over t l r (d t l x told there (acts ∙ is) stands)

  pub by_over_at : (i : Instruction) → act ≡ i → DoesOverAt Full Spent p place i r m n old new → PrintsAt Full Spent p place act r m n old new a a
  by_over_at i is d = λ t l x told there acts at stands. over t l r (d t l x told there (acts ∙ is) at stands)

-- one that knows only the cells
module _ (Full Spent : ℕ → Type 0) (p : Program) (act : Instruction) (place : Place) (old new : State) (r : Result ⊤ Stop) (m : Live) (a : o.State) where
  pub by_cells : (total : ℕ) → length (code_of p).lines ≡ total → DoesCells place total act r old new → PrintsAt Full Spent p place act r m m old new a a
  by_cells total lines d = λ t l x told there acts at stands.
      printed Full Spent p act place old new r m m a a t l (told.plain.lines t.pc l there) r (silent Full Spent p act place old new r m m a t l r (d p m lines t l x told there acts at stands))

-- an instruction at a line of such a program is one of such programs
pub plain_at : (p : Program) (act : Instruction) (m : Live) (w : State) → IsPlain p → IsAt p act m w → is_plain_act act ≡ true
plain_at p act m w plain at = sym (ap is_plain_act at.act) ∙ plain.lines (at.state).pc at.line at.there

-- how many lines there are
pub lines_are : (x : Scene) → IsScene x → (k : ℕ) → k ≡ vec_len x.emission.now.lines → length (code_of x.program.now).lines ≡ k
lines_are x scene k is = ap (λ (c : Code). length c.lines) (sym scene.code) ∙ (length-map x.emission.now.lines.items _ ∙ (let few = x.emission.now.lines.ok.0 in omega (arith, is, few)))

-- ---- steps

place_is : (o : Option Place) (h : Here) → (placed o h).place ≡ unwrap_or o h.place
place_is None h = refl
place_is (Some q) h = refl

module _ (Full Spent : ℕ → Type 0) (p : Program) (t : s.State) (l : Line) (there : slice_get (code_of p).lines t.pc ≡ Some l) (place : Place) (at : unwrap_or l.place (t.here).place ≡ place) (n : Live) (new : State) (a b : o.State) where
  pub steps : PrintsOver Full Spent p l t (Ok tt) n new a b → Steps Full Spent p t (Ok tt) n new a b
  steps (bytes, f, wrote) = record { line = l; there = there; next = f.next; rooms = f.rooms; bytes = bytes; goes = f.goes; stands = f.stands; wrote = wrote }

  so : (z y : Ended) → z ≡ y → Steps Full Spent p t (Err y) n new a b → Steps Full Spent p t (Err z) n new a b
  so z y same d = subst (λ x. Steps Full Spent p t (Err x) n new a b) (sym same) d

  stopped : (e : RunError) → StopsSo p l t (Failed e (placed l.place t.here).place) [] → StopsSo p l t (Failed e place) []
  stopped e f = subst (λ (z : Place). StopsSo p l t (Failed e z) []) (place_is l.place t.here ∙ at) f

  fails : (e : RunError) → PrintsOver Full Spent p l t (Err (stop.Failed e)) n new a b → Steps Full Spent p t (Err (end.Failed e place)) n new a b
  fails error.HeapHasNoRoom f = record { line = l; there = there; refused = f.0; full = f.1; at = place_is l.place t.here ∙ at; wrote = f.2 }
  fails e f = record { line = l; there = there; bytes = []; stops = stopped e f.0; wrote = f.1 }

  pub stops : (e : Stop) (z : Ended) → EndsBy e place z → PrintsOver Full Spent p l t (Err e) n new a b → Steps Full Spent p t (Err z) n new a b
  stops stop.Done z is f = so z end.Done is (record { line = l; there = there; bytes = []; stops = f.0; wrote = f.1 })
  stops (stop.Stopped number) z is f = so z (end.Stopped number) is (record { line = l; there = there; bytes = []; stops = f.0; wrote = f.1 })
  stops (stop.Failed e) z is f = so z (end.Failed e place) is (fails e f)
  stops stop.Lost z is f = absurd is
  stops stop.Forbidden z is f = absurd is
  stops stop.Refused z is f = let (to, bytes, goes, faulted) = f in so z end.WriteFault is (record { line = l; there = there; next = to; bytes = bytes; goes = goes; faulted = faulted })
  stops stop.Memory z is f = so z end.Memory is (record { line = l; there = there; spent = f.0; wrote = f.1 })

  -- and not for what no line of a run does
  module _ (run : IsOfRun p t) (e : Stop) (f : PrintsOver Full Spent p l t (Err e) n new a b) where
    as_stop : (z : Stop) → e ≡ z → PrintsOver Full Spent p l t (Err z) n new a b
    as_stop z is = subst (λ z. PrintsOver Full Spent p l t (Err z) n new a b) is f

    pub not_lost : e ≢ stop.Lost
    not_lost is = never_lost p t run l there (as_stop stop.Lost is).0

    pub not_forbidden : IsLawful p → e ≢ stop.Forbidden
    not_forbidden lawful is = never_forbidden p t run l there lawful (as_stop stop.Forbidden is).0

-- the line of the code that was emitted as this one
pub line_of : (x : Scene) → IsScene x → (l : emitted.Line) (pc : ℕ) → Some l ≡ slice_get x.emission.now.lines.items pc
    → (y : Line) × (slice_get (code_of x.program.now).lines pc ≡ Some y) × (y.act ≡ l.act) × (y.place ≡ l.place)
line_of x scene l pc is = (
  line_in (setting_of x.program.now) l,
  ap (λ (c : Code). slice_get c.lines pc) (sym scene.code)
      ∙ (slice_get-map (line_in (setting_of x.program.now)) x.emission.now.lines.items pc ∙ ap (option_map (line_in (setting_of x.program.now))) (sym is)),
  refl,
  refl,
)

-- a state of a run is at a line that was emitted
pub is_line : (x : Scene) → IsScene x → (t : s.State) → IsOfRun x.program.now t → (pc : ℕ) → t.pc ≡ pc → pc < length x.emission.now.lines.items
is_line x scene t run pc is = elim (slice_get_cases x.emission.now.lines.items pc).1 [
  | inl within ↦ within.1
  | inr past ↦ absurd (never_nowhere x.program.now t run (ap (slice_get (code_of x.program.now).lines) is ∙ ap (λ (c : Code). slice_get c.lines pc) (sym scene.code)
      ∙ slice_get-map (line_in (setting_of x.program.now)) x.emission.now.lines.items pc ∙ ap (option_map (line_in (setting_of x.program.now))) past.1))
]

-- the place at which a line is done
pub at_place : (p : Program) (m : Live) (w : State) (x : Rooms) (t : s.State) → Stands p m w x t → (y z : Option Place) → y ≡ z → (r : Place)
    → r ≡ unwrap_or z w.here.place → unwrap_or y (t.here).place ≡ r
at_place p m w x t st y z same r is =
    let here = here_stands p m (AreCallers p m (beneath w) (reverse w.callers.items.items) t.frames) x w.names.items.items w.here t.here (own w) t.stack st.stack in
    ap (λ o. unwrap_or o (t.here).place) same ∙ (ap (λ h. unwrap_or z h) here.place ∙ sym is)
