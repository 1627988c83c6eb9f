use Rattle.std.proofs.Common.{map, subst, Ok}
use Rattle.f3_data.specs.Stores.{path_of}
use Rattle.f3_data.specs.References.{reference_of}
use Rattle.f3_cells.specs.Cells.{chosen_of}
use Rattle.f3_object_steps.specs.Inner.Picks.{PickedOf}
use Rattle.f3_object_steps.proofs.Picks.{pick_none, pick_some_by, pick_err}
use Rattle.f3_object_steps.proofs.picking.picks.Goals as goal

pub returns-in-None : goal.returns-in-None
returns-in-None c = λ store here. pick_none (reference_of c.args.reference) (path_of c.args.reference.path) c.args.reference.reach (map chosen_of c.args.chosen.now) here store (subst (λ o. PickedOf c.args.reference.reach (map chosen_of c.args.chosen.now) (Ok o)) c.in-None.is c.in-Ok.ensures)

pub returns-in-Some : goal.returns-in-Some
returns-in-Some c = λ store.
    pick_some_by (reference_of c.args.reference) (path_of c.args.reference.path) c.args.reference.reach (map chosen_of c.args.chosen.now) store c.in-Some.selected c.narrowed.result
    (subst (λ o. PickedOf c.args.reference.reach (map chosen_of c.args.chosen.now) (Ok o)) c.in-Some.is c.in-Ok.ensures) c.narrowed.ensures

pub returns-in-Err : goal.returns-in-Err
returns-in-Err c = λ store. pick_err (reference_of c.args.reference) (path_of c.args.reference.path) c.args.reference.reach (map chosen_of c.args.chosen.now) store c.in-Err.stop c.in-Err.ensures
