-- What stands in memory fits where its data does.
use Rattle.std.proofs.Common.{◌≡◌, Bool, true, false, ◌&&◌, ◌∷◌, map, Option, Some, refl, sym, ap, ◌∙◌}
use Rattle.f3_program.specs.declared.declarations.Kind.{Kind}
use Rattle.f3_program.specs.declared.expression.Argument as a
use Rattle.f3_program.specs.declared.expression.Designator as d
use Rattle.f3_program.specs.declared.expression.Expression as e
use Rattle.f3_program.specs.declared.expression.Selection as l
use Rattle.f3_program.specs.declared.expression.Subscript as u
use Rattle.f3_program.specs.declared.program.Program.{Program}
use Rattle.f3_meaning_whole.specs.Formed as formed
use Rattle.f3_meaning_whole.specs.Formed.{some, given_all, Given}
use Rattle.f3_cell_kinds.specs.Types.{Scope}
use Rattle.f3_cell_kinds.specs.Effect.{unary_fits, binary_fits, are_values, are_for}
use Rattle.f3_cell_kinds.specs.Sense as sense
use Rattle.f3_elaboration.specs.Views.{expression_view, argument_view, designator_view, selection_view, subscript_view, arguments_of, subscripts_of}
use Rattle.f3_elaboration.proofs.Views as v
use Rattle.f3_lawful_laws.proofs.Primed as is
use Rattle.f3_formed_laws.specs.Nodes as node
use Rattle.f3_formed_laws.proofs.Seen as formed_seen
use Rattle.f3_fitting_laws.proofs.Nodes.{value_fits, argument_fits, arguments_fit, object_fits, selection_fits, subscripts_fit, subscript_fits}

module _ (p : Program) (c : Scope) where
  arguments_same : {m : _} (xs : e.Row_of-Argument m)
      → formed.arguments p c.variables c.names xs ≡ node.arguments p c.variables c.names (arguments_of (map argument_view (e.items-the_row-Argument m xs)))
  arguments_same e.end_of-Argument = refl
  arguments_same (e.more_of-Argument x rest) =
      ap (λ g. g ∷ formed.arguments p c.variables c.names rest) (argument_same x)
      ∙ ap (λ gs. node.argument p c.variables c.names (argument_view x) ∷ gs) (arguments_same rest)
    where
      argument_same : (x : a.Argument) → formed.argument p c.variables c.names x ≡ node.argument p c.variables c.names (argument_view x)
      argument_same (a.Value' k q x) =
          ap (λ o. formed.found o (λ (j : Kind). Some (record { number = k; kind = j; is_variable = false }))) (formed_seen.value_seen p c.variables c.names x)
          ∙ ap (node.argument p c.variables c.names) (sym (is.value_is k q x))
      argument_same (a.Variable' k q x) =
          ap (λ o. formed.found o (λ (j : Kind). Some (record { number = k; kind = j; is_variable = true }))) (formed_seen.object_seen p c.variables c.names x)
          ∙ ap (node.argument p c.variables c.names) (sym (is.object_is k q x))

  mutual
    pub value_seen : (x : e.Expression) → sense.value_fits p c x ≡ value_fits p c (expression_view x)
    value_seen (e.Literal k) = ap (value_fits p c) (sym (v.view_literal k))
    value_seen (e.Variable' q x) = object_seen x ∙ ap (value_fits p c) (sym (is.variable_is q x))
    value_seen (e.Group' q x) = value_seen x ∙ ap (value_fits p c) (sym (is.group_is q x))
    value_seen (e.Unary' o t q x) =
        ap (λ k. some k (unary_fits o t) && sense.value_fits p c x) (formed_seen.value_seen p c.variables c.names x)
        ∙ ap (λ b. some (node.value_kind p c.variables c.names (expression_view x)) (unary_fits o t) && b) (value_seen x)
        ∙ ap (value_fits p c) (sym (is.unary_is o t q x))
    value_seen (e.Binary' o t q x r y) =
        let kinds : Option Kind → Option Kind → Bool = λ z w. some z (λ k. some w (binary_fits o t k)) in
        ap (λ z. kinds z (formed.value_kind p c.variables c.names y) && (sense.value_fits p c x && sense.value_fits p c y)) (formed_seen.value_seen p c.variables c.names x)
        ∙ ap (λ w. kinds (node.value_kind p c.variables c.names (expression_view x)) w && (sense.value_fits p c x && sense.value_fits p c y))
        (formed_seen.value_seen p c.variables c.names y)
        ∙ ap (λ b. kinds (node.value_kind p c.variables c.names (expression_view x)) (node.value_kind p c.variables c.names (expression_view y)) && (b && sense.value_fits p c y)) (value_seen x)
        ∙ ap (λ b. kinds (node.value_kind p c.variables c.names (expression_view x)) (node.value_kind p c.variables c.names (expression_view y)) && (value_fits p c (expression_view x) && b)) (value_seen y)
        ∙ ap (value_fits p c) (sym (is.binary_is o t q x r y))
    value_seen (e.Array' k xs) =
        ap (λ gs. some (given_all gs) are_values && sense.arguments_fit p c xs) (arguments_same xs)
        ∙ ap (λ b. some (given_all (node.arguments p c.variables c.names (arguments_of (map argument_view (e.items-the_row-Argument _ xs))))) are_values && b) (arguments_seen xs)
        ∙ ap (value_fits p c) (sym (is.array_is k xs))
    value_seen (e.Structure' t k xs) =
        ap (λ gs. some (given_all gs) (are_for p.types.items t) && sense.arguments_fit p c xs) (arguments_same xs)
        ∙ ap (λ b. some (given_all (node.arguments p c.variables c.names (arguments_of (map argument_view (e.items-the_row-Argument _ xs))))) (are_for p.types.items t) && b) (arguments_seen xs)
        ∙ ap (value_fits p c) (sym (is.structure_is t k xs))
    value_seen (e.Call' f k xs) = arguments_seen xs ∙ ap (value_fits p c) (sym (is.reference_is f k xs))
    value_seen (e.Allocated' q x) = object_seen x ∙ ap (value_fits p c) (sym (is.allocated_is q x))
    value_seen (e.Size' q x) = argument_seen x ∙ ap (value_fits p c) (sym (is.size_is q x))
    value_seen (e.Bound' o q x r y) =
        ap (λ b. b && sense.value_fits p c y) (argument_seen x) ∙ ap (λ b. argument_fits p c (argument_view x) && b) (value_seen y)
        ∙ ap (value_fits p c) (sym (is.bound_is o q x r y))

    argument_seen : (x : a.Argument) → sense.argument_fits p c x ≡ argument_fits p c (argument_view x)
    argument_seen (a.Value' k q x) = value_seen x ∙ ap (argument_fits p c) (sym (is.value_is k q x))
    argument_seen (a.Variable' k q x) = object_seen x ∙ ap (argument_fits p c) (sym (is.object_is k q x))

    arguments_seen : {m : _} (xs : e.Row_of-Argument m)
        → sense.arguments_fit p c xs ≡ arguments_fit p c (arguments_of (map argument_view (e.items-the_row-Argument m xs)))
    arguments_seen e.end_of-Argument = refl
    arguments_seen (e.more_of-Argument x rest) =
        ap (λ b. b && sense.arguments_fit p c rest) (argument_seen x) ∙ ap (λ b. argument_fits p c (argument_view x) && b) (arguments_seen rest)

    pub object_seen : (x : d.Designator) → sense.object_fits p c x ≡ object_fits p c (designator_view x)
    object_seen (d.Name x how) = selection_seen how ∙ ap (object_fits p c) (sym (v.view_name x how))
    object_seen (d.Component' q x k how) =
        ap (λ b. b && sense.selection_fits p c how) (object_seen x) ∙ ap (λ b. object_fits p c (designator_view x) && b) (selection_seen how)
        ∙ ap (object_fits p c) (sym (is.component_is q x k how))

    selection_seen : (x : l.Selection) → sense.selection_fits p c x ≡ selection_fits p c (selection_view x)
    selection_seen l.Whole = ap (selection_fits p c) (sym v.view_whole)
    selection_seen l.Contents = ap (selection_fits p c) (sym v.view_contents)
    selection_seen (l.Elements' o m xs) = subscripts_seen xs ∙ ap (selection_fits p c) (sym (is.elements_is o m xs))

    subscripts_seen : {m : _} (xs : l.Row_of-Subscript m)
        → sense.subscripts_fit p c xs ≡ subscripts_fit p c (subscripts_of (map subscript_view (l.items-the_row-Subscript m xs)))
    subscripts_seen l.end_of-Subscript = refl
    subscripts_seen (l.more_of-Subscript x rest) =
        ap (λ b. b && sense.subscripts_fit p c rest) (subscript_seen x) ∙ ap (λ b. subscript_fits p c (subscript_view x) && b) (subscripts_seen rest)

    subscript_seen : (x : u.Subscript) → sense.subscript_fits p c x ≡ subscript_fits p c (subscript_view x)
    subscript_seen (u.At' q x) = value_seen x ∙ ap (subscript_fits p c) (sym (is.subscript_is q x))
    subscript_seen (u.Range' b q x o r y t z) =
        ap (λ w. w && (sense.value_fits p c y && sense.value_fits p c z)) (value_seen x)
        ∙ ap (λ w. value_fits p c (expression_view x) && (w && sense.value_fits p c z)) (value_seen y)
        ∙ ap (λ w. value_fits p c (expression_view x) && (value_fits p c (expression_view y) && w)) (value_seen z)
        ∙ ap (subscript_fits p c) (sym (is.triplet_is b q x o r y t z))
