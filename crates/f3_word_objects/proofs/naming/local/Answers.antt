use Rattle.std.proofs.Common.{◌≡◌, ◌∙◌, sym, ap, ◌+◌}
use Rattle.std.specs.Prelude.{slice_get, None, Some}
use Rattle.f3_meaning_whole.specs.Exec.{declared_in}
use Rattle.f3_rooms.specs.Ways.{offset}
use Rattle.f3_word_areas.proofs.Variables.{begins-there}
use Rattle.f3_word_cells.specs.Areas.{types_of}
use Rattle.f3_word_objects.proofs.naming.local.Goals as goal

pub returns-in-Some-variable : goal.returns-in-Some-variable
returns-in-Some-variable c =
    let d = c.in-Some-declared_of.declared.now in
    let v = c.in-Some-variable.ensures (declared_in c.in-Some.procedure.now) c.in-Some-declared_of.ensures in
    let same : Some v.declared ≡ Some d = sym v.is ∙ c.in-Some-declared_of.ensures in (
      record {
        procedure = c.in-Some.procedure.now;
        frame = c.in-Some.frame.now;
        block = c.in-Some-block_of.block;
        of = c.in-Some.ensures;
        there = let b = c.in-Some-block_of.ensures in record { first = b.0; level_is = b.1; block_is = b.2 };
        variable = v;
      },
      cc,
    )

pub returns-in-None : goal.returns-in-None
returns-in-None c = λ d b is there.
    let q = c.in-Some.procedure.now in
    let i = c.args.number in
    let p = c.args.scene.program.now in
    let e : slice_get (declared_in q) i ≡ Some c.in-Some-declared_of.declared.now = c.in-Some-declared_of.ensures in
    let none : slice_get c.in-Some.frame.now.starts.items i ≡ None = c.in-None.ensures (declared_in q) e in
    let some : slice_get c.in-Some.frame.now.starts.items i ≡ Some (0 + offset (types_of p) (declared_in q) i) =
    ap (λ xs. slice_get xs i) c.in-Some.ensures.framed.starts ∙ begins-there (types_of p) (declared_in q) 0 i c.in-Some-declared_of.declared.now e in
    absurd cc
