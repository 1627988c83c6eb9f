-- Parts without what is given behind the last.
use Rattle.std.proofs.Common.{◌≡◌, List, [], ◌∷◌, ◌++◌, map, Option, None, refl, ap, sym, ◌∙◌}
use Rattle.std.proofs.lemmas.List.{map-append}
use Rattle.std.specs.Global.{Vec}
use Rattle.f3_tree.specs.declared.expression.Argument.{Argument}
use Rattle.f3_tree.specs.declared.expression.Name.{Name}
use Rattle.f3_tree.specs.Expressions as t
use Rattle.f3_kinds.specs.declared.said.Has.{Has}
use Rattle.f3_kinds.specs.declared.types.DataType.{DataType}
use Rattle.f3_kinds.specs.Designators.{Part as Typed}
use Rattle.f3_kinds.specs.Operands.{type_in}
use Rattle.f3_kinds.specs.Things.{Context}
use Rattle.f3_kinds.specs.Typing.{said, said_parts, said_behind}
use Rattle.f3_elaboration.specs.Actions.{named_by, variable, unbounded, last_given}
use Rattle.f3_elaboration.specs.Context.{Surroundings}
use Rattle.f3_elaboration.specs.Expressions.{Part, parts, behind, given_in, designated, itself, type_of}
use Rattle.f3_elaboration.specs.Nodes.{ExpressionNode, DesignatorNode}
use Rattle.f3_typed_parts.specs.declared.known.Part.{Part as Described}
use Rattle.f3_typed_parts.specs.Known.{part_of}
use Rattle.f3_typing.specs.Lists.{said_part}
use Rattle.f3_typing.proofs.Trees.{parts_same}
use Rattle.f3_action_nodes.specs.Inner.Unbounded.{unbound}

pub parts_unbounded : (s : Surroundings) (v : t.Parts) → parts s (unbounded v) ≡ unbound (parts s v)
parts_unbounded s t.no_parts = refl
parts_unbounded s (t.parts m b t.no_parts) = refl
parts_unbounded s (t.parts m b (t.parts k c ps)) = ap (λ (xs : List Part). (m, behind s b) ∷ xs) (parts_unbounded s (t.parts k c ps))

pub said_unbounded : (c : Context) (v : t.Parts) → said_parts c (unbounded v) ≡ unbound (said_parts c v)
said_unbounded c t.no_parts = refl
said_unbounded c (t.parts m b t.no_parts) = refl
said_unbounded c (t.parts m b (t.parts k d ps)) = ap (λ (xs : List Typed). (m, said_behind c b) ∷ xs) (said_unbounded c (t.parts k d ps))

pub unbound_last : {X : Type 0} (ps : List (Name × Option X)) (p : Name × Option X) → unbound (ps ++ (p ∷ [])) ≡ ps ++ ((p.0, None) ∷ [])
unbound_last [] p = refl
unbound_last (q ∷ []) p = refl
unbound_last (q ∷ r ∷ rs) p = ap (λ xs. q ∷ xs) (unbound_last (r ∷ rs) p)

pub given_last : (ps : List Part) (p : Part) → last_given (ps ++ (p ∷ [])) ≡ given_in p
given_last [] p = refl
given_last (q ∷ []) p = refl
given_last (q ∷ r ∷ rs) p = given_last (r ∷ rs) p

-- the last of a list, exchanged for one without what is given
pub exchanged : {A X : Type 0} (f : A → Name × Option X) (whole before after : List A) (last bare : A)
    → whole ≡ before ++ (last ∷ []) → after ≡ before ++ (bare ∷ []) → f bare ≡ ((f last).0, None) → map f after ≡ unbound (map f whole)
exchanged f whole before after last bare w a is =
    ap (map f) a ∙ map-append f before (bare ∷ []) ∙ ap (λ y. map f before ++ (y ∷ [])) is
    ∙ sym (unbound_last (map f before) (f last)) ∙ ap unbound (sym (map-append f before (last ∷ []))) ∙ ap (λ xs. unbound (map f xs)) (sym w)

-- what is said of parts, and of the last without what is given
pub said_without : (c : Context) (whole before : List (Name × Option (Vec Argument))) (last : Name × Option (Vec Argument)) (found after : List Described) (bare : Described)
    → whole ≡ before ++ (last ∷ []) → map part_of found ≡ map (said_part c) before → after ≡ found ++ (bare ∷ []) → part_of bare ≡ (last.0, None)
    → map part_of after ≡ said_parts c (unbounded (t.parts_list (map t.part_view whole)))
said_without c whole before last found after bare w f a is =
    ap (map part_of) a ∙ map-append part_of found (bare ∷ []) ∙ ap (λ (ys : List Typed). ys ++ (part_of bare ∷ [])) f
    ∙ ap (λ (y : Typed). map (said_part c) before ++ (y ∷ [])) is
    ∙ sym (said_unbounded c (t.parts_list (map t.part_view whole)) ∙ ap unbound (parts_same c whole) ∙ ap (λ xs. unbound (map (said_part c) xs)) w
    ∙ ap unbound (map-append (said_part c) before (last ∷ [])) ∙ unbound_last (map (said_part c) before) (said_part c last))

-- an object, step by step
pub object_made : (s : Surroundings) (v : t.Parts) (has : Option Has) (of : Option DataType) (whole object : List Part) (found : ExpressionNode)
    (named made : DesignatorNode)
    → has ≡ (said s.context (t.designator (unbounded v))).has → of ≡ type_in has → whole ≡ parts s v → object ≡ unbound whole
    → found ≡ designated s of object → named ≡ named_by found → made ≡ itself named → made ≡ itself (variable s (unbounded v))
object_made s v has of whole object found named made h o w b f n m =
    m ∙ ap itself (n ∙ ap named_by (f ∙ ap (λ x. designated s x object) (o ∙ ap type_in h)
    ∙ ap (designated s (type_of s (t.designator (unbounded v)))) (b ∙ ap unbound w ∙ sym (parts_unbounded s v))))
