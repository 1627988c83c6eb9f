use Rattle.f3_variable_nodes.specs.Dummies.{found_view}
use Rattle.f3_variable_nodes.proofs.Entries.{seen_with}
use Rattle.f3_variable_nodes.proofs.declarations.add_name.Goals as goal

pub returns : goal.returns
returns c = λ k. seen_with found_view k _ _ _ _ c.in_ok-keep_first.ensures
