-- The code of procedures follows them; and so does each call.
use Rattle.std.proofs.Common.{◌≡◌, ℕ, zero, suc, ◌+◌, true, false, List, [], ◌∷◌, ◌++◌, length, None, Some, refl, ap, ◌∙◌, arith, if◌then◌else◌}
use Rattle.std.specs.Prelude.{slice_get, nat_lt}
use Rattle.f3_places.specs.declared.source.Place.{Place}
use Rattle.f3_meaning_whole.specs.Value.{Value, Unallocated}
use Rattle.f3_meaning_whole.specs.Store.{Store}
use Rattle.f3_meaning_whole.specs.Reference.{Reference}
use Rattle.f3_meaning_whole.specs.declared.run_error.RunError.TheVariants.{CallsTooDeep}
use Rattle.f3_meaning_whole.specs.Ran.{World, Ran, ◌>>=◌, gives, looks}
use Rattle.f3_meaning_whole.specs.Act.{Setting, Here, Passed, Calls, at, begins, claim, claim_for, enter, leave}
use Rattle.f3_meaning_whole.specs.Eval.{built}
use Rattle.f3_meaning_whole.specs.Exec.{Flow, Onward, Cycled, Left, Returned, held, dummies, left_at}
use Rattle.f3_code.specs.Work.{Work, routines_of}
use Rattle.f3_code.specs.Core as c
use Rattle.f3_code.specs.Exec.{works_each, exec, finish_from, result_at, discard_arguments, called}
use Rattle.f3_code.specs.CoreRun.{core_setting, call_of, core_calls}
use Rattle.f3_code.specs.declared.instruction.Instruction.TheVariants as i
use Rattle.f3_code.specs.State.{Line, line, placed, Entry, Code, Cell, Datum, Objects, Argument, Frame, Failed, Next, Stays}
use Rattle.f3_code.specs.Machine.{act, step, argument_of, begun, entered, called_at}
use Rattle.f3_code.specs.Machine as machine
use Rattle.f3_code.specs.Code.{code_of, begin_code, finish_code, discard_code, body_ways, last_code, body_code, procedures_code, entries, places_of}
use Rattle.f3_code_laws.proofs.Places.{HasAt, has_front, has_back}
use Rattle.f3_code_laws.proofs.Reaching.{Reaches, step_then, stays, one_step, does_it, fails_at, then_on, as_well, bind_assoc, then_same, nothing_then, bind_ends, looks_end}
use Rattle.f3_code_laws.proofs.Ending.{begins_ends, leave_ends, begun_ends, built_ends}
use Rattle.f3_code_laws.proofs.FollowValue.{state, onto, popped, CallsFollow, is_at, at_line}
use Rattle.f3_code_laws.proofs.FollowWork.{RoutinesFollow}
use Rattle.f3_code_laws.proofs.FollowStatement.{leads}
use Rattle.f3_code_laws.proofs.FollowAssociate.{exec_follows}
use Rattle.f3_code_laws.proofs.FollowRoutines.{RoutinesAt, TableEnds, routines_follow}
use Rattle.f3_code_laws.proofs.FollowProcedure.{left_over, begin_follows, finish_follows, discard_follows}

-- an activation that begins, and what follows
begun_then : {A : Type 0} (ps : List Passed) (initial : List Value) (here : Here) (rest : ℕ → Ran A) →
    (begun ps initial here >>= rest) ≡ (claim here >>= λ done. looks (λ store. length store.levels) >>= λ level. enter (held ps) >>= λ done.
    enter initial >>= λ done. rest level)
begun_then ps initial here rest =
    bind_assoc (claim here) (λ done. looks (λ store. length store.levels) >>= λ level. enter (held ps) >>= λ done. enter initial >>= λ done. gives level) rest
    ∙ then_same (claim here) (λ done. bind_assoc (looks (λ store. length store.levels))
    (λ level. enter (held ps) >>= λ done. enter initial >>= λ done. gives level) rest
    ∙ then_same (looks (λ store. length store.levels)) (λ level. bind_assoc (enter (held ps)) (λ done. enter initial >>= λ done. gives level) rest
    ∙ then_same (enter (held ps)) (λ done. bind_assoc (enter initial) (λ done. gives level) rest
    ∙ then_same (enter initial) (λ done. nothing_then level rest))))

-- a value that leaves its activation, and what follows
built_then : {A : Type 0} (f : Store → Value) (here : Here) (rest : Value → Ran A) →
    ((looks f >>= λ v. built v here) >>= rest) ≡ (looks f >>= λ v. claim_for v here >>= λ done. rest v)
built_then f here rest =
    bind_assoc (looks f) (λ v. built v here) rest
    ∙ then_same (looks f) (λ v. bind_assoc (claim_for v here) (λ done. gives v) rest ∙ then_same (claim_for v here) (λ done. nothing_then v rest))

-- the objects of a procedure's dummies, and where its activation stands
abbrev objects_of : c.Procedure → List Passed → Here → ℕ → List Reference
objects_of p ps here level = dummies 0 p.dummies ps level here.unit

abbrev inside : c.Procedure → List Passed → Here → ℕ → Here
inside p ps here level = record {
  place = here.place;
  unit = p.unit;
  level = suc level;
  variables = p.variables;
  names = objects_of p ps here level;
  lent = objects_of p ps here level ++ here.lent;
  selected = Unallocated;
}

module _ (g : Setting) (n : ℕ) (types : List Work) (calls : Calls) where
  -- what a procedure does when its activation has begun
  abbrev body_of : c.Procedure → List Passed → Here → ℕ → Ran Value
  body_of p ps here level =
      works_each g n types calls p.begin (objects_of p ps here level) (inside p ps here level) >>= λ done.
      exec g n types calls p.body (inside p ps here level) >>= λ flow.
      left_at flow p.end (inside p ps here level) >>= λ place.
      finish_from g n types calls 0 p.finish (at place (inside p ps here level)) >>= λ done.
      looks (result_at p.result (suc level)) >>= λ v.
      claim_for v (at place (inside p ps here level)) >>= λ done.
      discard_arguments g n types calls 0 p.discard (objects_of p ps here level) ps here >>= λ done.
      leave level >>= λ done.
      gives v

  called_so : (p : c.Procedure) (ps : List Passed) (here : Here) → (begun ps p.initial here >>= body_of p ps here) ≡ called g n types calls p ps here
  called_so p ps here = begun_then ps p.initial here (body_of p ps here)

-- the procedures stand one behind another from this place on
abbrev pub AllAt : ℕ → List Line → ℕ → List c.Procedure → Type 0
AllAt m code pc [] = Unit {0}
AllAt m code pc (p ∷ ps) = HasAt code pc (body_code m p) × AllAt m code (pc + length (body_code m p)) ps

pub all_at : (m : ℕ) (code : List Line) (pc : ℕ) (ps : List c.Procedure) → HasAt code pc (procedures_code m ps) → AllAt m code pc ps
all_at m code pc [] h = tt
all_at m code pc (p ∷ ps) h = (
  has_front code pc (body_code m p) (procedures_code m ps) h,
  all_at m code (pc + length (body_code m p)) ps
      (has_back code pc (body_code m p) (procedures_code m ps) h),
)

module _ (limit : ℕ) (g : Setting) (code : Code) (n : ℕ) (frame : Frame) (frames : List Frame) (calls : Calls)
    (follow : CallsFollow limit g code n calls (frame ∷ frames)) (m : ℕ) (types : List Work)
    (routines_follow : RoutinesFollow limit g code n m (routines_of g calls types) (frame ∷ frames)) where
  stood : (pc : ℕ) (stack : List Cell) (here : Here) (w : World) (l : Line) → slice_get code.lines pc ≡ Some l →
      step limit g code (state pc stack here (frame ∷ frames) w) ≡ act limit g code l.act l.value (placed l.place here) (state pc stack here (frame ∷ frames) w)
  stood = is_at limit g code n (frame ∷ frames)

  -- the end of a procedure, to where it goes back
  last_follows : (p : c.Procedure) (place : Place) (pc : ℕ) (w : World) → HasAt code.lines pc (last_code m p) →
      Reaches limit g code n (state pc [] (at place (inside p frame.arguments frame.caller frame.level)) (frame ∷ frames) w)
      (finish_from g n types calls 0 p.finish (at place (inside p frame.arguments frame.caller frame.level)) >>= λ done.
      looks (result_at p.result (suc frame.level)) >>= λ v. claim_for v (at place (inside p frame.arguments frame.caller frame.level)) >>= λ done.
      discard_arguments g n types calls 0 p.discard
      (objects_of p frame.arguments frame.caller frame.level) frame.arguments frame.caller >>= λ done. leave frame.level >>= λ done. gives v) w
      (λ v w. state frame.pc (Datum v ∷ frame.stack) frame.here frames w)
  last_follows p place pc w has =
      let here = at place (inside p frame.arguments frame.caller frame.level) in
      let rs = objects_of p frame.arguments frame.caller frame.level in
      let fs = frame ∷ frames in
      let cf = finish_code m 0 p.finish in let cd = discard_code m 0 p.discard in
      let h1 = has_back code.lines pc cf (line None (i.ResultOf p.result) ∷ line None i.Outward ∷ (cd ++ line None i.Return ∷ [])) has in
      let p1 = pc + length cf in
      let p2 = p1 + 1 + 1 in
      let h2 = has_back code.lines p2 cd (line None i.Return ∷ []) h1.1.1 in
      let p3 = p2 + length cd in
      then_on limit g code (finish_follows limit g code n fs calls follow m types routines_follow p.finish 0 pc [] here w (has_front code.lines pc cf _ has))
      (λ done w.
      as_well limit g code (built_then (result_at p.result (suc frame.level)) here (λ v. discard_arguments g n types calls 0 p.discard rs frame.arguments frame.caller >>= λ done.
      leave frame.level >>= λ done. gives v))
      (then_on limit g code (at_line limit g code n fs {next = λ v w. state (p1 + 1) (Datum v ∷ []) here fs w}
      (looks (result_at p.result (suc frame.level)) >>= λ v. built v here)
      p1 [] here w (line None (i.ResultOf p.result)) (bind_ends (looks_end _) (λ v. built_ends v here)) h1.0 refl) (λ v w.
      step_then limit g code (stood (p1 + 1) (Datum v ∷ []) here w (line None i.Outward) h1.1.0)
      (then_on limit g code (discard_follows limit g code n fs calls follow m types routines_follow p.discard 0 rs p2 p3 (Datum v ∷ []) frame.caller w
      (has_front code.lines p2 cd _ h1.1.1) refl) (λ done w.
      then_on limit g code (at_line limit g code n fs {next = λ done w. state frame.pc (Datum v ∷ frame.stack) frame.here frames w} (leave frame.level) p3
      (Objects (left_over p.discard rs) ∷ Datum v ∷ []) frame.caller w (line None i.Return) (leave_ends frame.level) h2.0 refl) (λ done w.
      stays limit g code n v w (λ v w. state frame.pc (Datum v ∷ frame.stack) frame.here frames w)))))))

  -- how the body is left
  left_follows : (end : Place) (on : ℕ) (here : Here) (w : World) (flow : Flow) → slice_get code.lines on ≡ Some (line (Some end) i.Begin) →
      slice_get code.lines (on + 1) ≡ Some (line (Some end) i.SetPlace) →
      Reaches limit g code n (leads on (on + 1) (on + 1) (on + 1 + 1) 0 [] here (frame ∷ frames) flow w) (left_at flow end here) w
      (λ place w. state (on + 1 + 1) [] (at place here) (frame ∷ frames) w)
  left_follows end on here w Onward begin sets =
      then_on limit g code (at_line limit g code n (frame ∷ frames) {next = λ done w. state (on + 1) [] here (frame ∷ frames) w} (begins (at end here)) on []
      here w (line (Some end) i.Begin) (begins_ends (at end here)) begin refl) (λ done w.
      one_step limit g code n end w (λ place w. state (on + 1 + 1) [] (at place here) (frame ∷ frames) w)
      (stood (on + 1) [] here w (line (Some end) i.SetPlace) sets))
  left_follows end on here w Cycled begin sets = one_step limit g code n end w (λ place w. state (on + 1 + 1) [] (at place here) (frame ∷ frames) w)
      (stood (on + 1) [] here w (line (Some end) i.SetPlace) sets)
  left_follows end on here w Left begin sets = one_step limit g code n end w (λ place w. state (on + 1 + 1) [] (at place here) (frame ∷ frames) w)
      (stood (on + 1) [] here w (line (Some end) i.SetPlace) sets)
  left_follows end on here w (Returned place) begin sets = stays limit g code n place w (λ place w. state (on + 1 + 1) [] (at place here) (frame ∷ frames) w)

  -- a procedure's code, to where it goes back
  body_follows : (p : c.Procedure) (pc : ℕ) (w : World) → HasAt code.lines pc (body_code m p) →
      Reaches limit g code n (state pc [] (inside p frame.arguments frame.caller frame.level) (frame ∷ frames) w)
      (body_of g n types calls p frame.arguments frame.caller frame.level) w (λ v w. state frame.pc (Datum v ∷ frame.stack) frame.here frames w)
  body_follows p pc w has =
      let here = inside p frame.arguments frame.caller frame.level in
      let rs = objects_of p frame.arguments frame.caller frame.level in
      let fs = frame ∷ frames in
      let cb = begin_code m p.begin in let cx = code_of m None p.body body_ways in
      let end = line (Some p.end) i.Begin ∷ line (Some p.end) i.SetPlace ∷ last_code m p in
      let h1 = has_back code.lines (pc + 1) cb (line None i.Drop ∷ (cx ++ end)) has.1 in
      let p1 = pc + 1 + length cb in
      let h2 = has_back code.lines (p1 + 1) cx end h1.1 in
      let on = p1 + 1 + length cx in
      let back_is : on + 1 + 1 ≡ on + 2 = omega arith in
      step_then limit g code (stood pc [] here w (line None i.Dummies) has.0)
      (then_on limit g code (begin_follows limit g code n fs calls follow m types routines_follow p.begin rs (pc + 1) p1 [] here w
      (has_front code.lines (pc + 1) cb _ has.1) refl) (λ done w.
      step_then limit g code (stood p1 (Objects (left_over p.begin rs) ∷ []) here w (line None i.Drop) h1.0)
      (then_on limit g code (exec_follows limit g code n fs calls follow m types routines_follow p.body None body_ways (p1 + 1) on (on + 1) (on + 1)
      (on + 1 + 1) [] here w (has_front code.lines (p1 + 1) cx _ h1.1) refl refl refl back_is) (λ flow w.
      then_on limit g code (left_follows p.end on here w flow h2.0 h2.1.0) (λ place w. last_follows p place (on + 1 + 1) w h2.1.1)))))

module _ (limit : ℕ) (p : c.Program) (code : Code) (n : ℕ) (frames : List Frame) (calls : Calls) (m : ℕ) where
  -- the entry of a procedure's number
  entry_follows : (f : ℕ) (procedures : List c.Procedure) (base : ℕ) (there : Here) (ps : List Passed) (pc : ℕ) (stack onto : List Cell) (here : Here)
      (w : World) → ((frame : Frame) → CallsFollow limit (core_setting p) code n calls (frame ∷ frames)) →
      ((frame : Frame) → RoutinesFollow limit (core_setting p) code n m (routines_of (core_setting p) calls p.routines) (frame ∷ frames)) →
      AllAt m code.lines base procedures → step limit (core_setting p) code (state pc onto here frames w) ≡ called_at
      (slice_get (entries m base procedures) f) (state pc onto here frames w) stack there ps →
      Reaches limit (core_setting p) code n (state pc onto here frames w) (call_of (core_setting p) n p.routines calls (slice_get procedures f) ps there) w
      (λ v w. state (pc + 1) (Datum v ∷ stack) here frames w)
  entry_follows f [] base there ps pc stack onto here w follow routines has e =
      one_step limit (core_setting p) code n Unallocated w (λ v w. state (pc + 1) (Datum v ∷ stack) here frames w) e
  entry_follows zero (q ∷ qs) base there ps pc stack onto here w follow routines has e =
      let g = core_setting p in
      let s = state pc onto here frames w in
      let entry : Entry = record { at = base; unit = q.unit; dummies = q.dummies; variables = q.variables; initial = q.initial } in
      as_well limit g code (called_so g n p.routines calls q ps there)
      (then_on limit g code (does_it limit g code n (begun ps q.initial there) w (entered s stack there entry ps) (begun_ends ps q.initial there) e)
      (λ level w.
      let frame : Frame = record { pc = pc + 1; stack = stack; here = here; caller = there; arguments = ps; level = level } in
      body_follows limit g code n frame frames calls (follow frame) m p.routines (routines frame) q base w has.0))
  entry_follows (suc f) (q ∷ qs) base there ps pc stack onto here w follow routines has e =
      entry_follows f qs (base + length (body_code m q)) there ps pc stack onto here w follow routines has.1 e

module _ (limit : ℕ) (p : c.Program) (code : Code) (n base at_routines : ℕ) (has : AllAt (length p.routines) code.lines base p.procedures)
    (table : code.procedures ≡ entries (length p.routines) base p.procedures) (has_routines : RoutinesAt code.lines at_routines p.routines)
    (places : code.routines ≡ places_of at_routines p.routines) where
  -- each call does what the procedure does
  pub calls_follow : (depth : ℕ) (frames : List Frame) → length frames + depth ≡ limit → CallsFollow limit (core_setting p) code n (core_calls depth p n) frames
  unfolding core_calls
  calls_follow zero frames full = record {
    by = λ f there ps pc stack here w e.
        let s = state pc (onto Argument ps stack) here frames w in
        let t : nat_lt (length frames) limit ≡ false = grind arith in
        let goes_in : Next = called_at (slice_get code.procedures f) s stack there ps in
        let taken = popped argument_of Argument (λ p. refl) ps stack (length ps)
        (λ ps stack. if nat_lt (length frames) limit then called_at (slice_get code.procedures f) s stack there ps else Stays []
        (Failed CallsTooDeep there.place)) refl in
        fails_at limit (core_setting p) code n CallsTooDeep there.place w (λ v w. state (pc + 1) (Datum v ∷ stack) here frames w)
        (e ∙ taken ∙ ap (λ b. if b then goes_in else Stays [] (Failed CallsTooDeep there.place)) t);
  }
  calls_follow (suc depth) frames full = record {
    by = λ f there ps pc stack here w e.
        let g = core_setting p in
        let s = state pc (onto Argument ps stack) here frames w in
        let t : nat_lt (length frames) limit ≡ true = grind arith in
        let goes_in : Next = called_at (slice_get code.procedures f) s stack there ps in
        let taken = popped argument_of Argument (λ p. refl) ps stack (length ps)
        (λ ps stack. if nat_lt (length frames) limit then called_at (slice_get code.procedures f) s stack there ps else Stays []
        (Failed CallsTooDeep there.place)) refl in
        let e' : step limit g code s ≡ called_at (slice_get (entries (length p.routines) base p.procedures) f) s stack there ps = e ∙ taken ∙
        ap (λ b. if b then goes_in else Stays [] (Failed CallsTooDeep there.place)) t ∙ ap (λ es. called_at (slice_get es f) s stack there ps) table in
        let calls = core_calls depth p n in
        let deeper : (frame : Frame) → CallsFollow limit g code n calls (frame ∷ frames) = λ frame.
        (let full' : length (frame ∷ frames) + depth ≡ limit = omega (arith, full) in calls_follow depth (frame ∷ frames) full') in
        let ends : TableEnds code.routines (places_of at_routines p.routines) =
        record { by = λ t go none lt. ap (λ l. machine.routine_at l t go none) places } in
        entry_follows limit p code n frames calls (length p.routines) f p.procedures base there ps pc stack (onto Argument ps stack) here w deeper
        (λ frame. routines_follow limit g code n (frame ∷ frames) calls (deeper frame) p.routines at_routines has_routines ends) has e';
  }
