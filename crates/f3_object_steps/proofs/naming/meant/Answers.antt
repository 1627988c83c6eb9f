use Rattle.std.proofs.Common.{◌∙◌, ap}
use Rattle.std.specs.Prelude.{slice_index_or}
use Rattle.std.proofs.lemmas.Result.{IfOk-weaker}
use Rattle.f3_program.specs.declared.declarations.Base.TheVariants as base
use Rattle.f3_meaning_whole.specs.Value as v
use Rattle.f3_meaning_whole.specs.Store as s
use Rattle.f3_meaning_whole.specs.Reference as m
use Rattle.f3_meaning_whole.specs.Act.{at, to_root, whole}
use Rattle.f3_data.specs.Stores.{store_of}
use Rattle.f3_data.specs.References.{reference_of, references_of}
use Rattle.f3_cells.specs.Cells.{here_of}
use Rattle.f3_cells.specs.States.{setting}
use Rattle.f3_object_steps.proofs.Meant.{named_static, named_local, named_lent}
use Rattle.f3_object_steps.proofs.naming.meant.Goals as goal

pub returns-in-Static : goal.returns-in-Static
returns-in-Static c = IfOk-weaker c.static_object.result _ _ (λ r h place.
    named_static (setting c.args.program.now) c.args.name c.in-Static.i (at place (here_of c.args.program.now c.args.here.now)) c.args.store.now (reference_of r) c.deref.result.now c.in-Static.is c.deref.ensures.value h) c.static_object.ensures

pub returns-in-Local : goal.returns-in-Local
returns-in-Local c = IfOk-weaker c.to_object.result _ _ (λ r h place.
    named_local (setting c.args.program.now) c.args.name c.in-Local.i (at place (here_of c.args.program.now c.args.here.now)) c.args.store.now (reference_of r) c.in-Local.is
    (h ∙ ap (λ of. to_root (s.Local c.args.here.now.level c.in-Local.i) of m.Define c.args.here.now.unit (s.get (store_of c.args.store.now) (whole (s.Local c.args.here.now.level c.in-Local.i)))) c.type_at-of.ensures)) c.to_object.ensures

pub returns-in-Lent : goal.returns-in-Lent
returns-in-Lent c = IfOk-weaker c.lent.result _ _ (λ r h place.
    named_lent (setting c.args.program.now) c.args.name c.in-Lent.i (at place (here_of c.args.program.now c.args.here.now)) c.args.store.now (reference_of r) c.in-Lent.is
    (h ∙ ap (λ rs. slice_index_or (references_of rs) c.in-Lent.i (to_root (s.Local 0 0) base.Integer m.Read 0 v.Unallocated)) c.deref-in-Lent.ensures.value)) c.lent.ensures
