use Rattle.std.proofs.Common.{ap, ◌∙◌, ◌||◌, ◌&&◌}
use Rattle.f3_rules.specs.declared.rule.Rule.TheVariants.{T5}
use Rattle.f3_kinds.specs.Rows.{at_name, unless}
use Rattle.f3_typed_parts.specs.Noted.{noted}
use Rattle.f3_type_rules.specs.Shapes.{at_most}
use Rattle.f3_extents.proofs.sizes.size.Goals as goal

pub returns : goal.returns
returns c = λ n h.
    c.unless.ensures
    ∙ ap (λ b. noted c.args.first.now (unless c.both-right.result b)) c.at_name.ensures
    ∙ ap (λ z. noted c.args.first.now (unless z (at_name 5 T5 c.args.name)))
    (c.both-right.ensures
    ∙ ap (λ z. c.is_rank_small.result && z) (c.either.ensures ∙ ap (λ z. c.args.dummy || z) (c.both-small.ensures ∙ ap (λ z. z && c.args.are_small) (c.at_most.ensures n h)))
    ∙ ap (λ z. z && (c.args.dummy || (at_most 16777216 n && c.args.are_small))) c.is_rank_small.ensures)
