use Rattle.std.proofs.Common.{◌≡◌, ℕ, Option, subst}
use Rattle.std.specs.Prelude.{IfOk}
use Rattle.f3_graph.specs.Inner.Links.{links_from}
use Rattle.f3_graph.specs.Inner.Views.{nodes_view}
use Rattle.f3_graph.proofs.links.links.Goals as goal

pub returns : goal.returns
returns c =
    subst (λ (find : ℕ → Option ℕ). IfOk c.links_by.result (λ v. v.items ≡ links_from find 0 (nodes_view c.args.units.now))) (λ j n. c.in_ok-modules.ensures n j) c.links_by.ensures
