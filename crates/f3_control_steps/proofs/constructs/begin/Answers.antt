use Rattle.std.proofs.Common.{◌∷◌}
use Rattle.f3_meaning_whole.specs.Ran.{Began}
use Rattle.f3_code.specs.State.{Goes}
use Rattle.f3_data.specs.Stores.{store_of}
use Rattle.f3_cells.specs.States.{state_of}
use Rattle.std.proofs.Common.{refl, ap, sym, [], ◌∙◌}
use Rattle.f3_control_steps.proofs.Parts.{begun}
use Rattle.f3_control_steps.proofs.constructs.begin.Goals as goal

pub returns : goal.returns
returns c = λ p limit g code v here. (Began (record { store = store_of c.args.state.now.store; lent = here.lent }) ∷ [], begun here _ _ ∙ ap (λ t. Goes (Began (record { store = store_of c.args.state.now.store; lent = here.lent }) ∷ []) (state_of p t)) (sym c.advance.ensures.is), refl)
