use Rattle.std.proofs.Common.{◌||◌, ap, ◌∙◌}
use Rattle.f3_tree.specs.Declarations.{save}
use Rattle.f3_type_rules.specs.Attributes.{has}
use Rattle.f3_declared.specs.Declarations.{tree_of}
use Rattle.f3_declared.proofs.Conflicting.{given_some}
use Rattle.f3_program_numbers.proofs.Choosing.{save_once}
use Rattle.f3_program_numbers.proofs.wanted.is_saved.Goals as goal

pub returns : goal.returns
returns c =
    c.either.ensures ∙ ap (λ b. b || c.is_some.result) (save_once c.args.reading.now c.requires)
    ∙ ap (λ b. has save (tree_of c.args.reading.now) || b) (c.is_some.ensures ∙ given_some c.args.entity.now.initial)
