use Rattle.f3_code.specs.Account as account
use Rattle.f3_data.specs.Stores.{store_of}
use Rattle.f3_gen_values.specs.Emitted.{taken}
use Rattle.f3_cells.specs.States.{setting}
use Rattle.f3_requests.specs.Inner.Counted.{wanted}
use Rattle.f3_requests.proofs.Wanting.{full_is, not_full}
use Rattle.f3_requests.proofs.asking.is_refused.Goals as goal

pub returns-in-Some : goal.returns-in-Some
returns-in-Some c = full_is c.args.size c.used.result c.in-Some.words (account.used (store_of c.args.state.now.store))
    (wanted c.args.scene.now c.args.act.now (taken (setting c.args.scene.now.program.now) c.args.initial.now) c.args.state.now) c.used.ensures c.in-Some.ensures

pub returns-in-None : goal.returns-in-None
returns-in-None c = not_full c.args.size (account.used (store_of c.args.state.now.store))
    (wanted c.args.scene.now c.args.act.now (taken (setting c.args.scene.now.program.now) c.args.initial.now) c.args.state.now) c.in-None.ensures
