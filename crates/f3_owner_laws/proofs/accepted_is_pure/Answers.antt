use Rattle.std.proofs.Common.{subst}
use Rattle.f3_tree.specs.Tree.{Tree}
use Rattle.f3_pure_laws.specs.Pure.{IsPure}
use Rattle.f3_unbroken_laws.specs.Laws.{pure_in}
use Rattle.f3_owner_laws.proofs.accepted_is_pure.Goals as goal

pub returns : goal.returns
returns c = λ sources p m t spelled.
    subst (λ (x : Tree). IsPure p (pure_in x)) (c.sources_spell_one_tree.ensures.one m.tree t sources m.accepted.spelled spelled)
    (c.accepted_is_pure.ensures sources m.tree m.look m.order p m.accepted m.means m.ordered m.meaning)
