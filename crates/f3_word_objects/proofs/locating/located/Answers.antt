use Rattle.std.proofs.Common.{subst, refl, ℕ}
use Rattle.f3_program.specs.declared.declarations.Declared.{Declared}
use Rattle.f3_meaning_whole.specs.Shape.{shape_in}
use Rattle.f3_room_places.specs.Components.{offset_at}
use Rattle.f3_room_places.specs.Places.{shapes}
use Rattle.f3_word_areas.specs.Parts.{IsPartOf}
use Rattle.f3_word_objects.proofs.locating.located.Goals as goal

pub returns : goal.returns
returns c =
    let e = c.in-Some.ensures in
    rw c.in-Stands.is (record {
      component = e.0;
      part = c.part.result;
      is = e.1;
      stands = refl;
      begins = subst (λ (d : Declared). IsPartOf (shapes c.args.types) d (offset_at (shape_in (shapes c.args.types) c.in-Stands.area.of) c.args.number) c.in-Stands.area c.part.result) e.2
          (subst (λ (n : ℕ). IsPartOf (shapes c.args.types) c.in-Some.declared.now n c.in-Stands.area c.part.result) e.3 c.part.ensures);
    })
