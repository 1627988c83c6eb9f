-- What becomes of a call.
use Rattle.std.proofs.Common.{◌≡◌, ◌∙◌, ℕ, zero, suc, ◌≤◌, ◌<◌, Bool, true, false, List, [], ◌∷◌, length, drop, take, reverse, refl, sym, ap, subst, arith}
use Rattle.std.specs.Prelude.{Some, nat_lt, slice_get, unwrap_or}
use Rattle.std.specs.declared.alloc.Global.{Global}
use Rattle.std.proofs.lemmas.Bool.{lt-ltb, ltb-true}
use Rattle.std.proofs.lemmas.List.{length-append, length-drop, length-reverse}
use Rattle.f3_places.specs.declared.source.Place.{Place}
use Rattle.f3_program.specs.declared.declarations.Kind.{Kind}
use Rattle.f3_program.specs.declared.program.Procedure.{Procedure}
use Rattle.f3_program.specs.declared.program.Program.{Program}
use Rattle.f3_meaning_whole.specs.declared.run_error.RunError.TheVariants.{CallsTooDeep}
use Rattle.f3_meaning_whole.specs.Act as meaning
use Rattle.f3_meaning_whole.specs.Act.{Setting}
use Rattle.f3_meaning_whole.specs.Exec.{declared_in, held, variables}
use Rattle.f3_meaning_whole.specs.Formed.{referenced}
use Rattle.f3_meaning_whole.specs.Formed as formed
use Rattle.f3_meaning_whole.specs.Run.{setting_of}
use Rattle.f3_code.specs.declared.instruction.Instruction.TheVariants as i
use Rattle.f3_code.specs.State.{Code, Entry, Failed, Line, placed}
use Rattle.f3_code.specs.State as s
use Rattle.f3_code.specs.Machine.{entered}
use Rattle.f3_cell_kinds.specs.Types.{CellType, arguments_on}
use Rattle.f3_cell_kinds.specs.Types as cell
use Rattle.f3_cell_kinds.specs.Kinds.{Leads, first_site}
use Rattle.f3_cell_kinds.specs.Kinds as kinds
use Rattle.f3_cell_kinds.specs.Effect.{declared_kind, on}
use Rattle.f3_cell_kinds.specs.Laws.{site_at}
use Rattle.f3_cell_kinds.proofs.Asked.{some_same}
use Rattle.f3_cell_kinds.proofs.Given.{arguments_over}
use Rattle.f3_cell_kinds.proofs.Standing.{entry_at}
use Rattle.f3_rooms.specs.Rooms.{Rooms}
use Rattle.f3_rooms.specs.Laws.{before_level}
use Rattle.f3_gen_values.specs.Emission.{code_in, entries_in}
use Rattle.f3_gen_values.specs.declared.emission.Emission.{Emission}
use Rattle.f3_live_blocks.specs.Blocks.{Live}
use Rattle.f3_rooms.specs.Forms.{total}
use Rattle.f3_room_levels.specs.Initial.{AllCanBegin}
use Rattle.f3_room_levels.specs.Levels.{Begins}
use Rattle.f3_word_cells.specs.declared.state.Name.{Name}
use Rattle.f3_word_cells.specs.declared.cell.Cell.{Cell}
use Rattle.f3_word_cells.specs.declared.state.Caller.{Caller}
use Rattle.f3_word_cells.specs.declared.state.State.{State}
use Rattle.f3_word_cells.specs.Areas.{types_of}
use Rattle.f3_word_cells.specs.Cells.{AreCells}
use Rattle.f3_word_cells.specs.Does.{Follows, GoesOn, IsTold, RefusedAt, StopsSo}
use Rattle.f3_word_cells.specs.Scenes.{code_of}
use Rattle.f3_word_cells.specs.Wants.{entry_words, wanted}
use Rattle.f3_word_cells.specs.States.{AreCallers, AreKnown, Stands, beneath, cells_from, own}
use Rattle.f3_word_cells.proofs.Lines.{answering}
use Rattle.f3_word_cells.proofs.Moving.{Beneath}
use Rattle.f3_word_cells.proofs.OnTop.{line_kinds}
use Rattle.f3_word_calls.proofs.Beneath.{callers_stand}
use Rattle.f3_word_entries.specs.Entered.{Entered}
use Rattle.f3_word_entries.proofs.Arguments.{AreArguments, Split, arguments_on_top, cells_on_is, cells_split, correspond_many, passed_many}
use Rattle.f3_word_entries.proofs.Callee.{callee_stands}
use Rattle.f3_word_entries.proofs.Counted.{IsFor, arguments_for}
use Rattle.f3_word_entries.proofs.Going.{goes_there, refused_there, too_deep, with_levels}
use Rattle.f3_word_entries.proofs.Wanting.{begun_take}

-- ---- how many callers there are

many_frames : (p : Program) (live : Live) (zs : List Cell) (fs : List Caller) (gs : List s.Frame) (x : Rooms) (ns : List Name) → AreCallers p live zs fs gs x ns → length gs ≡ length fs
many_frames p live zs [] [] x ns are = refl
many_frames p live zs [] (g ∷ gs) x ns are = absurd are
many_frames p live zs (f ∷ fs) [] x ns are = absurd are
many_frames p live zs (f ∷ fs) (g ∷ gs) x ns are =
    ap suc (many_frames p live (take f.base zs) fs gs (before_level x f.level) (take f.dummies.from ns)
    (callers_stand p live (take f.base zs) fs gs (before_level x f.level) (take f.dummies.from ns) f.here g.here (cells_from f.base zs) g.stack are.1))

-- ---- where procedures begin

-- an entry of a procedure that begins at a line
abbrev pub entry_for : Setting → Procedure → ℕ → Entry
entry_for g q at = record { at = at; unit = q.unit; dummies = q.dummies.items; variables = declared_in q; initial = variables g q }

pub record IsStart (g : Setting) (qs : List Procedure) (ks : List ℕ) (f : ℕ) (q : Procedure) (at : ℕ) : Type 0 where
  pub line : slice_get ks f ≡ Some at
  pub entry : slice_get (entries_in g qs ks) f ≡ Some (entry_for g q at)

start_of : (g : Setting) (qs : List Procedure) (ks : List ℕ) (f : ℕ) (q : Procedure) (e : Entry) → slice_get qs f ≡ Some q → slice_get (entries_in g qs ks) f ≡ Some e
    → IsStart g qs ks f q e.at
start_of g [] ks f q e at is = absurd (cc)
start_of g (x ∷ qs) [] f q e at is = absurd (cc)
start_of g (x ∷ qs) (k ∷ ks) zero q e at is =
    let same : x ≡ q = cc in
    let made : entry_for g x k ≡ e = some_same is in
    let line : k ≡ e.at = ap (λ (y : Entry). y.at) made in
    record {
      line = ap Some line;
      entry = subst (λ (z : Procedure). Some (entry_for g x k) ≡ Some (entry_for g z e.at)) same
          (subst (λ j. Some (entry_for g x k) ≡ Some (entry_for g x j)) line refl);
    }
start_of g (x ∷ qs) (k ∷ ks) (suc f) q e at is =
    let more = start_of g qs ks f q e at is in
    record { line = more.line; entry = more.entry }

-- ---- a call

pub record CallOf (p : Program) (t : s.State) (q : Procedure) (number count : ℕ) : Type 0 where
  pub gs : List formed.Given
  pub result : Kind
  pub enough : length gs ≡ count
  pub is : referenced p [] [] number gs ≡ Some result
  pub leads : Leads (site_at p) t.pc (on (site_at p t.pc) (arguments_on gs []) (cell.Datum (declared_kind q.result) ∷ []))

call_as : (p : Program) (t : s.State) (l : Line) (number count : ℕ) (q : Procedure) → slice_get p.procedures.items number ≡ Some q
    → kinds.Goes p (site_at p) t.pc l (i.Call number count) → CallOf p t q number count
call_as p t l number count q there (gs, r, k, many, at_f, is, leads) =
    let same : r ≡ q = some_same (sym at_f ∙ there) in
    record {
      gs = gs;
      result = k;
      enough = many;
      is = is;
      leads = subst (λ (z : Procedure). Leads (site_at p) t.pc (on (site_at p t.pc) (arguments_on gs []) (cell.Datum (declared_kind z.result) ∷ []))) same leads;
    }

pub call_of : (p : Program) (t : s.State) (l : Line) (number count : ℕ) (q : Procedure) → slice_get p.procedures.items number ≡ Some q → IsTold p t
    → slice_get (code_of p).lines t.pc ≡ Some l → l.act ≡ i.Call number count → CallOf p t q number count
call_of p t l number count q there told line act = call_as p t l number count q there (line_kinds p t l (i.Call number count) told line act)

-- there is a procedure
there_is : (p : Program) (t : s.State) (l : Line) (number count : ℕ) → kinds.Goes p (site_at p) t.pc l (i.Call number count)
    → (q : Procedure) × (slice_get p.procedures.items number ≡ Some q)
there_is p t l number count (gs, r, k, many, at_f, is, leads) = (r, at_f)

pub procedure_there : (p : Program) (t : s.State) (l : Line) (number count : ℕ) → IsTold p t → slice_get (code_of p).lines t.pc ≡ Some l → l.act ≡ i.Call number count
    → (q : Procedure) × (slice_get p.procedures.items number ≡ Some q)
procedure_there p t l number count told line act = there_is p t l number count (line_kinds p t l (i.Call number count) told line act)

-- where it begins in the code
pub starts : (p : Program) (e : Emission) (number : ℕ) (q : Procedure) (t : s.State) → slice_get p.procedures.items number ≡ Some q → IsTold p t
    → code_in p e ≡ code_of p → (at : ℕ) × IsStart (setting_of p) p.procedures.items e.procedures.items number q at × (site_at p at ≡ first_site q)
starts p e number q t there told code =
    let en = entry_at (site_at p) p.procedures.items (code_of p).procedures number q told.kinds.procedures there in
    let at : slice_get (entries_in (setting_of p) p.procedures.items e.procedures.items) number ≡ Some en.entry =
    ap (λ (c : Code). slice_get c.procedures number) code ∙ en.at in
    (en.entry.at, start_of (setting_of p) p.procedures.items e.procedures.items number q en.entry there at, en.begins)

module _ (p : Program) (t : s.State) (l : Line) (number count : ℕ) (q : Procedure) (there : slice_get p.procedures.items number ≡ Some q) (told : IsTold p t)
    (act : l.act ≡ i.Call number count) (call : CallOf p t q number count) where
  for_q : IsFor q.dummies.items call.gs
  for_q = arguments_for p number call.gs q call.result there call.is

  arguments : AreArguments p.types.items call.gs t.stack
  arguments = arguments_on_top p t call.gs call.leads.rest told call.leads.before

  many : length arguments.passed ≡ count
  many = passed_many p.types.items call.gs arguments.passed arguments.are ∙ call.enough

  -- as many dummies as arguments
  pub dummies_many : length q.dummies.items ≡ count
  dummies_many = sym for_q.many ∙ call.enough

  module _ (m : Live) (old : State) (x : Rooms) (st : Stands p m old x t) where
    split : Split p x m old.names.items.items (Beneath p m old t.frames) old.here t.here call.gs arguments.passed call.leads.rest arguments.below (own old)
    split = cells_split p x m old.names.items.items (Beneath p m old t.frames) old.here t.here call.gs arguments.passed arguments.are call.leads.rest arguments.below (own old)
        (subst (λ (bs : List s.Cell). AreCells p m (Beneath p m old t.frames) x old.names.items.items old.here t.here (own old) bs) arguments.split st.stack)
        (subst (λ (ks : List CellType). AreKnown p ks (own old)) (call.leads.before ∙ sym (arguments_over call.gs [] call.leads.rest)) st.known)

    -- there are so many cells
    pub cells_enough : count ≤ length old.cells.items.items
    cells_enough =
        let a = ap length (split.split ∙ cells_on_is split.arguments split.left) in
        let b = length-append (reverse split.arguments) split.left in
        let d = length-reverse split.arguments in
        let e = correspond_many p x m old.names.items.items call.gs arguments.passed split.arguments split.are in
        let f = length-reverse (drop old.base old.cells.items.items) in
        let g = length-drop old.base old.cells.items.items in
        let k = call.enough in
        omega (arith, a, b, d, e, f, g, k)

    frames_many : length t.frames ≡ length old.callers.items.items
    frames_many =
        many_frames p m (beneath old) (reverse old.callers.items.items) t.frames x old.names.items.items
        (callers_stand p m (beneath old) (reverse old.callers.items.items) t.frames x old.names.items.items old.here t.here (own old) t.stack st.stack)
        ∙ length-reverse old.callers.items.items

    not_less : (a : ℕ) → 1000 ≤ a → nat_lt a 1000 ≡ false
    not_less a more = by (nat_lt a 1000) refl
      where
        by : (b : Bool) → nat_lt a 1000 ≡ b → b ≡ false
        by true e = let less = ltb-true a 1000 e in absurd (omega (arith, less, more))
        by false e = refl

    pub deep : 1000 ≤ length old.callers.items.items → StopsSo p l t (Failed CallsTooDeep (placed l.place t.here).place) []
    deep more = too_deep p l t number count arguments.passed arguments.below act arguments.split many (not_less (length t.frames) (let e = frames_many in omega (arith, e, more)))

    module _ (few : length old.callers.items.items < 1000) (e : Emission) (code : code_in p e ≡ code_of p) (at : ℕ)
        (start : IsStart (setting_of p) p.procedures.items e.procedures.items number q at) where
      abbrev entry : Entry
      entry = entry_for (setting_of p) q at

      entry_there : slice_get (code_of p).procedures number ≡ Some entry
      entry_there = ap (λ (c : Code). slice_get c.procedures number) (sym code) ∙ start.entry

      less : nat_lt (length t.frames) 1000 ≡ true
      less = lt-ltb (length t.frames) 1000 (let f = frames_many in omega (arith, f, few))

      pub refused : RefusedAt p l t
      refused = refused_there p l t number count arguments.passed arguments.below act arguments.split many entry entry_there less

      -- how many words the line asks for
      pub asks : AllCanBegin (types_of p) (declared_in q) → wanted p l.act t ≡ total (types_of p) (declared_in q)
      asks can = ap (λ (y : _). wanted p y t) act ∙ ap entry_words entry_there ∙ begun_take p number q told.plain there can

      goes : (place : Place) → unwrap_or l.place t.here.place ≡ place → GoesOn p l t (entered t arguments.below (meaning.at place t.here) entry arguments.passed (length t.world.store.levels)
          (answering (with_levels t.world.store (held arguments.passed) (variables (setting_of p) q)) (λ k. false))) []
      goes place placed_there = subst (λ (z : Place). GoesOn p l t (entered t arguments.below (meaning.at z t.here) entry arguments.passed (length t.world.store.levels)
          (answering (with_levels t.world.store (held arguments.passed) (variables (setting_of p) q)) (λ k. false))) []) placed_there
          (goes_there p l t number count arguments.passed arguments.below act arguments.split many entry entry_there less)

      pub follows : (h : Global) (place : Place) → unwrap_or l.place t.here.place ≡ place → (n : Live) (new : State) (block words : ℕ)
          → Entered q number at count block place old new → Begins (types_of p) m n (declared_in q) words block → site_at p at ≡ first_site q → Follows p l t [] n new
      follows h place placed_there n new block words into begins first = record {
        next = entered t arguments.below (meaning.at place t.here) entry arguments.passed (length t.world.store.levels)
            (answering (with_levels t.world.store (held arguments.passed) (variables (setting_of p) q)) (λ k. false));
        rooms = _;
        goes = goes place placed_there;
        stands = callee_stands p h t m n old new x told st q number at count block words place there into begins call.gs for_q call.enough arguments.passed arguments.below
            arguments.split arguments.are call.leads.rest call.leads.before l placed_there (declared_kind q.result) call.leads.next first;
      }
