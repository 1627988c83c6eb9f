use Rattle.std.proofs.Common.{subst}
use Rattle.f3_meaning_whole.specs.Shape.{shapes_of}
use Rattle.f3_word_areas.specs.Parts.{IsLaid}
use Rattle.f3_word_objects.proofs.Lists.{found}
use Rattle.f3_word_objects.proofs.naming.variable.Goals as goal

pub returns : goal.returns
returns c = λ ds is. record {
  declared = c.args.declared.now;
  start = c.in-Some.start.now;
  is = is;
  begins = let h = c.in-Some.ensures.lookup in found c.deref.result.now c.args.frame.now.starts.items c.args.number c.in-Some.start.now c.deref.ensures.value h.0 h.1;
  laid = subst (λ ts. IsLaid (shapes_of ts) c.args.declared.now c.args.block c.in-Some.start.now c.laid.result) c.requires.scene.types c.laid.ensures;
}
