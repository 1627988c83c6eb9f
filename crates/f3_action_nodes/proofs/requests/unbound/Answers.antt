use Rattle.std.proofs.Common.{[], ◌∷◌, map, refl, sym, ap, ◌∙◌}
use Rattle.std.proofs.lemmas.List.{map-append}
use Rattle.f3_elaboration.specs.Actions.{last_given}
use Rattle.f3_expression_parts.specs.Parts.{part_of}
use Rattle.f3_action_nodes.proofs.Unbounding.{exchanged, given_last}
use Rattle.f3_action_nodes.proofs.requests.unbound.Goals as goal

pub returns-in_ok-push-in-Some-clause-before : goal.returns-in_ok-push-in-Some-clause-before
returns-in_ok-push-in-Some-clause-before c =
    exchanged part_of c.args.parts.items c.pop.new.self.items c.push.new.self.items c.in-Some.last _ c.in-Some.ensures.items
    c.in_ok-push-in-Some.ensures.items refl

pub returns-in_ok-push-in-Some-clause-behind : goal.returns-in_ok-push-in-Some-clause-behind
returns-in_ok-push-in-Some-clause-behind c =
    c.given_in-given.ensures ∙ sym (given_last (map part_of c.pop.new.self.items) (part_of c.in-Some.last))
    ∙ ap last_given (sym (map-append part_of c.pop.new.self.items (c.in-Some.last ∷ [])))
    ∙ ap (λ xs. last_given (map part_of xs)) (sym c.in-Some.ensures.items)
