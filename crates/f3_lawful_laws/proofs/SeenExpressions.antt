-- An expression in memory may do what its data may do.
use Rattle.std.proofs.Common.{◌≡◌, ℕ, true, List, map, ap, ◌∙◌}
use Rattle.std.specs.Prelude.{slice_index_or, not, ◌||◌}
use mathlib.Core.Path.{subst}
use Rattle.f3_program.specs.declared.expression.Argument as a
use Rattle.f3_program.specs.declared.expression.Designator as d
use Rattle.f3_program.specs.declared.expression.Expression as e
use Rattle.f3_program.specs.declared.expression.Selection as l
use Rattle.f3_program.specs.declared.expression.Subscript as u
use Rattle.f3_program.specs.declared.program.Program.{Program}
use Rattle.f3_meaning_whole.specs.Act.{component_type}
use Rattle.f3_meaning_whole.specs.Permitted.{Lendable, Scope, unknown, names_in, name_of, selectable, same_type, MayPass, MayPassAll, MayValue, MayArgument}
use Rattle.f3_meaning_whole.specs.Permitted.{MayArguments, MayLocate, MayTake, MaySubscripts, MaySubscript}
use Rattle.f3_meaning_whole.specs.Permitted as permitted
use Rattle.f3_elaboration.specs.Views.{expression_view, argument_view, designator_view, selection_view, subscript_view, arguments_of, subscripts_of}
use Rattle.f3_elaboration.proofs.Views as v
use Rattle.f3_lawful_laws.specs.Nodes.{designated, NodePasses, NodesPass, NodeValue, NodeArgument, NodeArguments, NodeLocate, NodeTake, NodeSubscripts, NodeSubscript}
use Rattle.f3_lawful_laws.proofs.Primed as is

module _ (p : Program) (scope : Scope) where
  abbrev part : ℕ → Lendable → Lendable
  part k m = record { may_define = m.may_define; of = component_type p.types.items m.of k }

  pub designated_seen : (x : d.Designator) → designated p scope (designator_view x) ≡ permitted.designated p scope x
  designated_seen (d.Name x how) = ap (designated p scope) (v.view_name x how)
  designated_seen (d.Component' q x k how) = ap (designated p scope) (is.component_is q x k how) ∙ ap (part k) (designated_seen x)

  passes : (ds : List Lendable) (x : a.Argument) → NodePasses p scope ds (argument_view x) → MayPass p scope ds x
  passes ds (a.Value' k q x) h = subst (NodePasses p scope ds) (is.value_is k q x) h
  passes ds (a.Variable' k q x) h =
      let g = subst (NodePasses p scope ds) (is.object_is k q x) h in (
        subst (λ (m : Lendable). (not (slice_index_or ds k unknown).may_define || m.may_define) ≡ true) (designated_seen x) g.0,
        subst (λ (m : Lendable). same_type m.of (slice_index_or ds k unknown).of ≡ true) (designated_seen x) g.1,
      )

  pass_all : (ds : List Lendable) {m : _} (xs : e.Row_of-Argument m)
      → NodesPass p scope ds (arguments_of (map argument_view (e.items-the_row-Argument m xs))) → MayPassAll p scope ds xs
  pass_all ds e.end_of-Argument h = tt
  pass_all ds (e.more_of-Argument x rest) h = (passes ds x h.0, pass_all ds rest h.1)

  mutual
    pub value_seen : (x : e.Expression) → NodeValue p scope (expression_view x) → MayValue p scope x
    value_seen (e.Literal c) h = tt
    value_seen (e.Variable' q x) h = locate_seen x (subst (NodeValue p scope) (is.variable_is q x) h)
    value_seen (e.Group' q x) h = value_seen x (subst (NodeValue p scope) (is.group_is q x) h)
    value_seen (e.Unary' o t q x) h = value_seen x (subst (NodeValue p scope) (is.unary_is o t q x) h)
    value_seen (e.Binary' o t q x r y) h =
        let g = subst (NodeValue p scope) (is.binary_is o t q x r y) h in (value_seen x g.0, value_seen y g.1)
    value_seen (e.Array' k xs) h = arguments_seen xs (subst (NodeValue p scope) (is.array_is k xs) h)
    value_seen (e.Structure' t k xs) h = arguments_seen xs (subst (NodeValue p scope) (is.structure_is t k xs) h)
    value_seen (e.Call' f k xs) h =
        let g = subst (NodeValue p scope) (is.reference_is f k xs) h in (arguments_seen xs g.0, pass_all (names_in p f) xs g.1)
    value_seen (e.Allocated' q x) h = locate_seen x (subst (NodeValue p scope) (is.allocated_is q x) h)
    value_seen (e.Size' q x) h = argument_seen x (subst (NodeValue p scope) (is.size_is q x) h)
    value_seen (e.Bound' o q x r y) h =
        let g = subst (NodeValue p scope) (is.bound_is o q x r y) h in (argument_seen x g.0, value_seen y g.1)

    argument_seen : (x : a.Argument) → NodeArgument p scope (argument_view x) → MayArgument p scope x
    argument_seen (a.Value' k q x) h = value_seen x (subst (NodeArgument p scope) (is.value_is k q x) h)
    argument_seen (a.Variable' k q x) h = locate_seen x (subst (NodeArgument p scope) (is.object_is k q x) h)

    arguments_seen : {m : _} (xs : e.Row_of-Argument m)
        → NodeArguments p scope (arguments_of (map argument_view (e.items-the_row-Argument m xs))) → MayArguments p scope xs
    arguments_seen e.end_of-Argument h = tt
    arguments_seen (e.more_of-Argument x rest) h = (argument_seen x h.0, arguments_seen rest h.1)

    pub locate_seen : (x : d.Designator) → NodeLocate p scope (designator_view x) → MayLocate p scope x
    locate_seen (d.Name x how) h = take_seen how (subst (NodeLocate p scope) (v.view_name x how) h)
    locate_seen (d.Component' q x k how) h =
        let g = subst (NodeLocate p scope) (is.component_is q x k how) h in (
          locate_seen x g.0,
          subst (λ (m : Lendable). selectable p scope.unit m.of k ≡ true) (designated_seen x) g.1,
          take_seen how g.2,
        )

    take_seen : (x : l.Selection) → NodeTake p scope (selection_view x) → MayTake p scope x
    take_seen l.Whole h = tt
    take_seen l.Contents h = tt
    take_seen (l.Elements' o k xs) h = subscripts_seen xs (subst (NodeTake p scope) (is.elements_is o k xs) h)

    subscripts_seen : {m : _} (xs : l.Row_of-Subscript m)
        → NodeSubscripts p scope (subscripts_of (map subscript_view (l.items-the_row-Subscript m xs))) → MaySubscripts p scope xs
    subscripts_seen l.end_of-Subscript h = tt
    subscripts_seen (l.more_of-Subscript x rest) h = (subscript_seen x h.0, subscripts_seen rest h.1)

    subscript_seen : (x : u.Subscript) → NodeSubscript p scope (subscript_view x) → MaySubscript p scope x
    subscript_seen (u.At' q x) h = value_seen x (subst (NodeSubscript p scope) (is.subscript_is q x) h)
    subscript_seen (u.Range' b q x c r y t z) h =
        let g = subst (NodeSubscript p scope) (is.triplet_is b q x c r y t z) h in (value_seen x g.0, value_seen y g.1, value_seen z g.2)
