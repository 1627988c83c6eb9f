-- Lines lead from states with room to such.
use Rattle.std.proofs.Common.{◌≡◌, ℕ, zero, suc, ◌+◌, ◌≤◌, Bool, false, List, [], ◌∷◌, ◌++◌, length, take, map, Some, refl, sym, ap, ◌∙◌, subst, arith, length-append}
use Rattle.std.specs.Prelude.{slice_get}
use Rattle.std.proofs.Math.Nat.{mul-le-mul_right}
use Rattle.std.proofs.Math.Path.{fun_ext}
use Rattle.f3_program.specs.declared.declarations.Derived.{Derived}
use Rattle.f3_program.specs.declared.declarations.Kind.{Kind}
use Rattle.f3_program.specs.declared.program.Procedure.{Procedure}
use Rattle.f3_program.specs.declared.program.Program.{Program}
use Rattle.f3_meaning_whole.specs.Store.{Store}
use Rattle.f3_meaning_whole.specs.Reference.{Reference}
use Rattle.f3_meaning_whole.specs.Ran.{Event, End, Gives, Fails, Stops, Beyond, ◌>>=◌}
use Rattle.f3_meaning_whole.specs.Act.{Setting, claim, enter}
use Rattle.f3_code.specs.Core as c
use Rattle.f3_code.specs.Code.{body_code, entries}
use Rattle.f3_code.specs.CoreRun.{core_setting, core_here, core_world}
use Rattle.f3_code.specs.Lower.{lowered_program}
use Rattle.f3_code.specs.declared.instruction.Instruction.{Instruction}
use Rattle.f3_code.specs.declared.instruction.Instruction.TheVariants as i
use Rattle.f3_code.specs.declared.instruction.Way.{Way}
use Rattle.f3_code.specs.State as state
use Rattle.f3_code.specs.State.{Line, placed, Entry, Code, Cell, To, Level, Frame, State, Next, Goes}
use Rattle.f3_code.specs.Machine as machine
use Rattle.f3_code.specs.Machine.{ends_so}
use Rattle.f3_code.specs.Run.{start}
use Rattle.f3_code.specs.Heap.{with_answers}
use Rattle.f3_heights.specs.Room.{state_next, state_run, state_after}
use Rattle.f3_heights.proofs.Running.{runs_are_bounded}
use Rattle.f3_cells.specs.States.{setting}
use Rattle.f3_cell_kinds.specs.Types.{Scope, Around, Told, CellType, Site, sort_of_type, associating}
use Rattle.f3_cell_kinds.specs.Types as cell
use Rattle.f3_cell_kinds.specs.Holds.{Is, Stand, Fits}
use Rattle.f3_cell_kinds.specs.Kinds.{first_site, ProceduresBegin, AreKinds}
use Rattle.f3_cell_kinds.specs.Kinds as kinds
use Rattle.f3_cell_kinds.specs.Laws.{site_at}
use Rattle.f3_cell_kinds.proofs.Standing.{in_is}
use Rattle.f3_store_kinds.specs.Clean.{IsPlain, ArePlain, IsClean}
use Rattle.f3_store_kinds.proofs.After.{IsAfter, After, calm_then}
use Rattle.f3_store_kinds.proofs.Still.{claim_still}
use Rattle.f3_store_kinds.proofs.Running.{code_is_clean}
use Rattle.f3_word_cells.specs.Scenes.{code_of}
use Rattle.f3_word_cells.specs.Does.{stream, GoesOn}
use Rattle.f3_word_needs.specs.Counts.{associated, all_levels}
use Rattle.f3_word_needs.specs.Names.{most_dummies, most_names, most_open}
use Rattle.f3_word_needs.specs.Room.{IsOfRun, FramesNamed}
use Rattle.f3_word_needs.specs.Laws.{StartHasRoom, LinesKeepRoom, LevelsAreFew, NamesAreFew, SelectorsAreFew, DummiesAreFew, CallersAreFew}
use Rattle.f3_word_needs.proofs.Few.{site_is_few, site_has_few}
use Rattle.f3_word_needs.proofs.Naming.{names_few, told_few, open_few}
use Rattle.f3_word_needs.proofs.Levels.{Levels, levels_as, levels_fewer, beneath, levels_few}
use Rattle.f3_word_needs.proofs.Sized.{many, enter_sized}
use Rattle.f3_word_needs.proofs.Shifting.{IsSmooth, Shift, Stays, Leaving, Looking, Opening, Closing, Calling, Returning, line_shifts}

-- ---- cells that go by themselves

module _ (types : List Derived) where
  plain_cell : (x : CellType) (c : Cell) (rest : List Cell) → IsPlain (sort_of_type x) → Is types x c → associated (c ∷ rest) ≡ associated rest
  plain_cell (cell.Level ks) (Level level rs) rest h is = absurd h
  plain_cell x (Level level rs) rest h is = absurd is
  plain_cell x c rest h is = refl

  module _ (sites : ℕ → Site) (Known : Scope → Type 0) where
    plain_cells : (n : ℕ) (o : Around) (r : Kind) (xs : List CellType) (stack : List Cell) (end : Kind) → n ≤ length xs → ArePlain n (map sort_of_type xs) →
        Stand types sites Known o r xs stack end → associated (take n stack) ≡ []
    plain_cells zero o r xs stack end le h s = refl
    plain_cells (suc n) o r [] stack end le h s = absurd (omega (arith, le))
    plain_cells (suc n) o r (x ∷ xs) [] end le h s = refl
    plain_cells (suc n) o r (x ∷ xs) (c ∷ stack) end le h s = plain_cell x c (take n stack) h.0 s.0 ∙ plain_cells n o r xs stack end (omega (arith, le)) h.1 s.1

module _ (p : Program) (sites : ℕ → Site) (s : State) (l : Line) (fits : Fits p.types.items sites s) where
  taken_plain : (n : ℕ) (xs rest : List CellType) → (sites s.pc).cells ≡ xs ++ rest → length xs ≡ n → ArePlain n (map sort_of_type (sites s.pc).cells) → associated (take n s.stack) ≡ []
  taken_plain n xs rest e m h =
      let many : length (sites s.pc).cells ≡ length (xs ++ rest) = ap (λ (l : List CellType). length l) e in
      plain_cells p.types.items sites _ n (sites s.pc).scope (sites s.pc).returns (sites s.pc).cells s.stack fits.end (omega (arith, many, m, length-append xs rest)) h fits.stack

  is_smooth : (x : Instruction) → kinds.Goes p sites s.pc l x → IsClean x (map sort_of_type (sites s.pc).cells) → IsSmooth x s.stack
  is_smooth i.Drop (x, b) h = taken_plain 1 (x ∷ []) b.rest b.before refl h
  is_smooth i.Swap (x, y, b) h = taken_plain 2 (x ∷ y ∷ []) b.rest b.before refl h
  is_smooth (i.Unwind n) (xs, many, b) h = taken_plain n xs b.rest b.before many h
  is_smooth x b h = tt

-- ---- where a procedure begins

begins_told : (sites : ℕ → Site) (qs : List Procedure) (es : List Entry) → ProceduresBegin sites qs es → (f : ℕ) (e : Entry) → slice_get es f ≡ Some e →
    (c : Scope) × ((sites e.at).scope ≡ Told c)
begins_told sites [] [] h f e is = cc
begins_told sites [] (x ∷ es) h f e is = absurd h
begins_told sites (q ∷ qs) [] h f e is = absurd h
begins_told sites (q ∷ qs) (x ∷ es) h zero e is =
    let same : x ≡ e = cc in
    subst (λ (y : Entry). (c : Scope) × ((sites y.at).scope ≡ Told c)) same (_, ap (λ (z : Site). z.scope) h.0)
begins_told sites (q ∷ qs) (x ∷ es) h (suc f) e is = begins_told sites qs es h.3 f e is

-- ---- a step

module _ (p : Program) (b : ℕ) (sites : ℕ → Site) (code : Code) (are : AreKinds p sites code) (s t : State) (l : Line) (at : slice_get code.lines s.pc ≡ Some l)
    (fits : Fits p.types.items sites s) (told : (c : Scope) → (sites t.pc).scope ≡ Told c → length t.here.names ≤ b) where
  record After' : Type 0 where
    names : length t.here.names ≤ b
    callers : FramesNamed b t.frames
    levels : Levels (all_levels t) (associated t.stack) t.frames

  goes : kinds.Goes p sites s.pc l l.act
  goes = are.lines s.pc l at fits.is_reached

  as_named : {fs gs : List Frame} → gs ≡ fs → FramesNamed b fs → FramesNamed b gs
  as_named e h = subst (λ l. FramesNamed b l) (sym e) h

  left_told : (by : Way) (d : ℕ) → l.act ≡ i.Leave by d → t.pc ≡ s.pc + 1 + d → length t.here.names ≤ b
  left_told by d e pc =
      let c = in_is (sites s.pc).scope _ (subst (λ x. kinds.Goes p sites s.pc l x) e goes) in
      told c.2.0 (ap (λ n. (sites n).scope) pc ∙ ap (λ (z : Site). z.scope) c.2.1.far.0)

  opened_told : (k : ℕ) → l.act ≡ i.Associate k → t.pc ≡ s.pc + 1 → length t.here.names ≤ b
  opened_told k e pc =
      let c = in_is (sites s.pc).scope _ (subst (λ x. kinds.Goes p sites s.pc l x) e goes) in
      told (associating c.2.0 c.0) (ap (λ n. (sites n).scope) pc ∙ ap (λ (z : Site). z.scope) c.2.2.next)

  shifted : IsClean l.act (map sort_of_type (sites s.pc).cells) → length s.here.names ≤ b → FramesNamed b s.frames → Levels (all_levels s) (associated s.stack) s.frames →
      Shift code l.act s t → After'
  shifted clean names callers levels (Stays q) = record {
    names = omega (arith, names, ap (λ (rs : List Reference). length rs) q.names);
    callers = as_named q.frames callers;
    levels = levels_as q.count (q.levels (is_smooth p sites s l fits l.act goes clean)) q.frames levels;
  }
  shifted clean names callers levels (Leaving q) = record {
    names = left_told q.by q.over q.act q.pc;
    callers = as_named q.frames callers;
    levels = levels_as q.count q.levels q.frames levels;
  }
  shifted clean names callers levels (Looking q) = record {
    names = omega (arith, (subst (λ fs. FramesNamed b fs) q.callers callers).1, ap (λ (rs : List Reference). length rs) q.names);
    callers = as_named q.frames callers;
    levels = levels_as q.count q.levels q.frames levels;
  }
  shifted clean names callers levels (Opening q) = record {
    names = opened_told q.selectors q.act q.pc;
    callers = as_named q.frames callers;
    levels = levels_as q.count q.levels q.frames (omega arith, levels);
  }
  shifted clean names callers levels (Closing q) = record {
    names = omega (arith, names, ap (λ (rs : List Reference). length rs) q.names);
    callers = as_named q.frames callers;
    levels =
        let below = (subst (λ ms. Levels (all_levels s) ms s.frames) q.levels levels).1 in
        levels_as refl refl q.frames (levels_fewer q.level (all_levels t) (associated t.stack) s.frames q.count below);
  }
  shifted clean names callers levels (Calling q) = record {
    names =
        let c = begins_told sites p.procedures.items code.procedures are.procedures q.number q.entry q.is in
        told c.0 (ap (λ n. (sites n).scope) q.pc ∙ c.1);
    callers = as_named q.frames (
      omega (arith, names, ap (λ (rs : List Reference). length rs) q.here),
      omega (arith, names, ap (λ (rs : List Reference). length rs) q.names),
      callers,
    );
    levels = levels_as q.count q.levels q.frames (omega (arith, q.level), levels_as q.level q.beneath refl levels);
  }
  shifted clean names callers levels (Returning q) =
      let named = subst (λ fs. FramesNamed b fs) q.callers callers in
      let below = beneath (all_levels s) (associated s.stack) q.caller t.frames (subst (λ fs. Levels (all_levels s) (associated s.stack) fs) q.callers levels) in
      record {
        names = omega (arith, named.0, ap (λ (rs : List Reference). length rs) q.names);
        callers = named.2;
        levels = levels_as refl q.levels refl (levels_fewer q.caller.level (all_levels t) (associated q.caller.stack) t.frames q.count below);
      }

-- ---- runs

streams : (bs cs : List Bool) (rest : ℕ → Bool) (n : ℕ) → stream (bs ++ cs) rest n ≡ stream bs (stream cs rest) n
streams [] cs rest n = refl
streams (b ∷ bs) cs rest zero = refl
streams (b ∷ bs) cs rest (suc n) = streams bs cs rest n

module _ (limit : ℕ) (g : Setting) (code : Code) (t u : State) (out : List Event) (one : machine.step limit g code t ≡ Goes out u) where
  next_more : (k : ℕ) (x : Next) → ((v : State) → state_run limit g code k v ≡ Some t → state_run limit g code (suc k) v ≡ Some u) →
      state_next x (state_run limit g code k) ≡ Some t → state_next x (state_run limit g code (suc k)) ≡ Some u
  next_more k (Goes out v) f e = f v e
  next_more k (state.Stays out halt) f e = cc

  run_more : (k : ℕ) (s : State) → state_run limit g code k s ≡ Some t → state_run limit g code (suc k) s ≡ Some u
  run_more zero s e = let same : s ≡ t = cc in ap (λ y. state_next (machine.step limit g code y) (state_run limit g code 0)) same ∙ ap (λ x. state_next x (state_run limit g code 0)) one
  run_more (suc k) s e = next_more k (machine.step limit g code s) (run_more k) e

after_more : (limit : ℕ) (q : c.Program) (code : Code) (answers : ℕ → Bool) (k : ℕ) (t u : State) (out : List Event) → machine.step limit (core_setting q) code t ≡ Goes out u →
    state_after limit q code answers k ≡ Some t → state_after limit q code answers (suc k) ≡ Some u
after_more limit q code answers k t u out one e =
    next_more limit (core_setting q) code t u out one k
    (machine.performs (claim (core_here q) >>= λ done. enter q.main.initial) (core_world q answers) (λ done w. start q w))
    (run_more limit (core_setting q) code t u out one k) e

run_goes_on : (p : Program) (t u : State) (l : Line) (bytes : List ℕ) → slice_get (code_of p).lines t.pc ≡ Some l → GoesOn p l t u bytes → IsOfRun p t → IsOfRun p u
run_goes_on p t u l bytes at goes r = record {
  lines = suc r.lines;
  given = r.given ++ goes.given;
  comes = λ rest.
      let given : stream (r.given ++ goes.given) rest ≡ stream r.given (stream goes.given rest) = fun_ext (streams r.given goes.given rest) in
      let one : machine.step 1000 (setting p) (code_of p) (with_answers (stream goes.given rest) t) ≡ Goes goes.out (with_answers rest u) =
      ap (λ o. machine.does_line 1000 (setting p) (code_of p) o (with_answers (stream goes.given rest) t)) at ∙ goes.goes rest in
      ap (λ a. state_after 1000 (lowered_program p) (code_of p) a (suc r.lines)) given
      ∙ after_more 1000 (lowered_program p) (code_of p) (stream r.given (stream goes.given rest)) r.lines (with_answers (stream goes.given rest) t) (with_answers rest u) goes.out one
      (r.comes (stream goes.given rest));
}

none_more : ℕ → Bool
none_more n = false

pub lines_keep_room : LinesKeepRoom
lines_keep_room p t u l bytes told at goes told' room =
    let b = most_names (lowered_program p) in
    let a = stream goes.given none_more in
    let s = with_answers a t in
    let v = with_answers none_more u in
    let shift = line_shifts 1000 (setting p) (code_of p) l s v goes.out (goes.goes none_more) in
    let fits : Fits p.types.items (site_at p) s = record {
      is_reached = told.fits.is_reached;
      scope = told.fits.scope;
      end = told.fits.end;
      stack = told.fits.stack;
      frames = told.fits.frames;
    } in
    let known : (c : Scope) → (site_at p u.pc).scope ≡ Told c → length u.here.names ≤ b = λ c e. told_few p.types.items (site_at p) b (site_is_few p) u c e told'.fits in
    let h = shifted p b (site_at p) (code_of p) told.kinds s v l at fits known (code_is_clean p t.pc l at) room.names room.callers room.levels shift in
    record { run = run_goes_on p t u l bytes at goes room.run; names = h.names; callers = h.callers; levels = h.levels }

-- ---- the start

record Begun (t : State) : Type 0 where
  names : length t.here.names ≡ 0
  frames : t.frames ≡ []
  stack : t.stack ≡ []
  count : all_levels t ≡ 1

begun : (p : Program) (answers : ℕ → Bool) (t : State) → state_after 1000 (lowered_program p) (code_of p) answers 0 ≡ Some t → Begun t
begun p answers t e =
    let q = lowered_program p in
    let w = core_world q answers in
    let r = (claim (core_here q) >>= λ done. enter q.main.initial).from w in
    by_end r.out r.end ((begun_after w.store refl).by w refl) e
  where
    begun_after : (store : Store) → many store ≡ 0 → After (λ x st. many st ≡ 0 + 1) store (claim (core_here (lowered_program p)) >>= λ done. enter (lowered_program p).main.initial)
    begun_after store none = calm_then (claim_still store (core_here (lowered_program p))) (λ done t. enter_sized store 0 (lowered_program p).main.initial none)

    by_end : {A : Type 0} (out : List Event) (end : End A) → IsAfter (λ x st. many st ≡ 0 + 1) end →
        state_next (ends_so out end (λ done w. start (lowered_program p) w)) (state_run 1000 (core_setting (lowered_program p)) (code_of p) 0) ≡ Some t → Begun t
    by_end out (Gives x w) is e =
        let same : start (lowered_program p) w ≡ t = cc in
        let one : many w.store ≡ 1 = omega (arith, is) in
        subst Begun same (record { names = refl; frames = refl; stack = refl; count = one })
    by_end out (Fails error place) is e = cc
    by_end out (Stops code) is e = cc
    by_end out Beyond is e = cc

pub start_has_room : StartHasRoom
start_has_room p t given comes =
    let b = begun p (stream given none_more) (with_answers none_more t) (comes none_more) in record {
      run = record { lines = 0; given = given; comes = comes };
      names = omega (arith, b.names);
      callers = subst (λ fs. FramesNamed (most_names (lowered_program p)) fs) (sym b.frames) tt;
      levels =
          let one : 1 ≤ 1 = omega arith in levels_as b.count (ap associated b.stack) b.frames one;
    }

-- ---- what is known of such a state

pub callers_are_few : CallersAreFew
callers_are_few p t room = (runs_are_bounded 1000 (lowered_program p) (stream room.run.given none_more) room.run.lines (with_answers none_more t) (room.run.comes none_more)).0

pub names_are_few : NamesAreFew
names_are_few p t told room =
    let b = most_names (lowered_program p) in
    let few = callers_are_few p t room in
    let n = names_few p.types.items (site_at p) b (site_is_few p) t room.names room.callers told.fits in
    let le : 1 + length t.frames ≤ 1001 = omega arith in
    omega (arith, n, mul-le-mul_right b le)

pub selectors_are_few : SelectorsAreFew
selectors_are_few p t told room =
    let b = most_open (lowered_program p) in
    let few = callers_are_few p t room in
    let n = open_few p.types.items (site_at p) b (site_has_few p) t told.fits in
    let le : 1 + length t.frames ≤ 1001 = omega arith in
    omega (arith, n, mul-le-mul_right b le)

entry_few : (m at : ℕ) (qs : List c.Procedure) (f : ℕ) (e : Entry) → slice_get (entries m at qs) f ≡ Some e → length e.dummies ≤ most_dummies qs
entry_few m at [] f e is = cc
entry_few m at (q ∷ qs) zero e is =
    let same : record { at = at; unit = q.unit; dummies = q.dummies; variables = q.variables; initial = q.initial } ≡ e = cc in
    let first : length q.dummies ≤ most_dummies (q ∷ qs) = omega arith in
    subst (λ (y : Entry). length y.dummies ≤ most_dummies (q ∷ qs)) same first
entry_few m at (q ∷ qs) (suc f) e is = omega (arith, entry_few m (at + length (body_code m q)) qs f e is)

pub dummies_are_few : DummiesAreFew
dummies_are_few p f e is = entry_few _ _ (lowered_program p).procedures f e is

pub levels_are_few : LevelsAreFew
levels_are_few p t room = omega (arith, levels_few t room.levels, callers_are_few p t room)
