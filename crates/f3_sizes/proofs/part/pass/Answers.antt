use Rattle.std.proofs.Common.{◌≡◌, ◌+◌, ℕ, List, Option, sym, subst, arith}
use Rattle.std.specs.Bool.{OnFalse}
use Rattle.f3_sizes.proofs.Passing.{Passed, unnoted_line, ready_read, onward_read, new_read, known_read}
use Rattle.f3_sizes.proofs.part.pass.Goals as goal
use Rattle.f3_sizes.proofs.part.pass.Goals.{in-Some+in-GoBack+else-note, in-Some+in_default-act, in_default}

pub returns-then-note-clause-begun : goal.returns-then-note-clause-begun
returns-then-note-clause-begun c =
    let p = new_read c.args.lines.now c.args.heights.now c.loop-at.heights c.note.new.heights c.loop-at.at c.in-Some.cells c.in-GoBack.over _ c.loop-at-test.true c.loop-at.invariant
    c.in-Some.is c.in-GoBack.is (record { noted = c.note.ensures.noted; grows = c.note.ensures.grows; there = c.note.ensures.there; others = c.note.ensures.others }) (omega arith) in p.begun

pub returns-then-note-clause-back : goal.returns-then-note-clause-back
returns-then-note-clause-back c =
    let p = new_read c.args.lines.now c.args.heights.now c.loop-at.heights c.note.new.heights c.loop-at.at c.in-Some.cells c.in-GoBack.over _ c.loop-at-test.true c.loop-at.invariant
    c.in-Some.is c.in-GoBack.is (record { noted = c.note.ensures.noted; grows = c.note.ensures.grows; there = c.note.ensures.there; others = c.note.ensures.others }) (omega arith) in
    let fewer = c.note.ensures.fewer c.if-note.true in
    (p.closed, omega (arith, fewer, c.loop-at.invariant.grows.fewer))

pub note_ways-requires : goal.note_ways-requires
note_ways-requires c =
    let b = c.requires.begun in
    (b.0, ready_read b.0 b.1 c.args.lines.now c.args.heights.now c.loop-at.heights c.loop-at.at c.in-Some.cells _ c.loop-at-test.true b.2 c.loop-at.invariant c.in-Some.is c.in_default-act.not-GoBack)

pub loop-at-preserved : goal.loop-at-preserved
loop-at-preserved c =
    let b = c.requires.begun in
    let lines = c.args.lines.now in let old = c.args.heights.now in let mid = c.loop-at.heights in
    let P : List (Option ℕ) → Type 0 = λ hs. Passed lines old hs (c.loop-at.at + 1) in
    elim c.match-heights-at.branch [
      | in-Some+in-GoBack+else-note w ↦
          subst P (sym w.heights-is) (known_read b.0 b.1 lines old mid w.note.new.heights c.loop-at.at w.in-Some.cells w.in-GoBack.over _ c.loop-at-test.true b.2 c.loop-at.invariant
          w.in-Some.is w.in-GoBack.is (record { noted = w.note.ensures.noted; grows = w.note.ensures.grows; there = w.note.ensures.there; others = w.note.ensures.others }) (subst (λ b. OnFalse b (w.note.new.heights ≡ mid)) w.if-note.false w.note.ensures.known))
      | in-Some+in_default-act w ↦
          let e = w.note_ways.ensures in
          subst P (sym w.heights-is) (onward_read lines old mid w.note_ways.new.heights c.loop-at.at w.in-Some.cells _ c.loop-at-test.true c.loop-at.invariant w.in-Some.is
          w.in_default-act.not-GoBack e.noted e.grows e.before e.onward (omega arith))
      | in_default w ↦ subst P (sym w.heights-is) (unnoted_line lines old mid c.loop-at.at c.loop-at.invariant w.in_default.not-Some)
    ]

pub returns-clause-all : goal.returns-clause-all
returns-clause-all c = λ k l lt is n. c.loop-at.invariant.closed k l (omega (arith, lt, c.loop-at-test.false)) is n
