-- What stands in memory is of the kind of its data.
use Rattle.std.proofs.Common.{◌≡◌, ℕ, Bool, true, false, ◌&&◌, List, ◌∷◌, map, not, nat_eq, nat_lt, if◌then◌else◌, Option, None, Some, refl, sym, ap, ◌∙◌}
use Rattle.f3_meaning_whole.specs.Act.{component_of}
use Rattle.f3_program.specs.declared.declarations.Component.{Component}
use Rattle.f3_program.specs.declared.declarations.Constant.TheVariants as constant
use Rattle.f3_program.specs.declared.declarations.Declared.{Declared}
use Rattle.f3_program.specs.declared.declarations.Kind.{Kind}
use Rattle.f3_program.specs.declared.expression.Argument as a
use Rattle.f3_program.specs.declared.expression.Designator as d
use Rattle.f3_program.specs.declared.expression.Expression as e
use Rattle.f3_program.specs.declared.expression.Selection as l
use Rattle.f3_program.specs.declared.expression.Subscript as u
use Rattle.f3_program.specs.declared.program.Program.{Program}
use Rattle.f3_meaning_whole.specs.Formed as formed
use Rattle.f3_meaning_whole.specs.Formed.{some, found, only, given_all, valued, constructed, structured, referenced, component_kind, sectioned, element_of_each, is_whole_number, Given}
use Rattle.f3_meaning_whole.specs.Formed.{is_scalar, alike, of_kind, kind_of_name}
use Rattle.f3_program.specs.declared.declarations.Base.TheVariants as base
use Rattle.f3_elaboration.specs.Views.{expression_view, argument_view, designator_view, selection_view, subscript_view, arguments_of, subscripts_of}
use Rattle.f3_elaboration.proofs.Views as v
use Rattle.f3_formed_laws.specs.Nodes.{value_kind, argument, arguments, object_kind, taken, taken_of_each, subscripts, subscript}
use Rattle.f3_lawful_laws.proofs.Primed as is

found_same : {A B : Type 0} (o : Option A) (f g : A → Option B) → ((x : A) → f x ≡ g x) → found o f ≡ found o g
found_same None f g h = refl
found_same (Some x) f g h = h x

module _ (p : Program) (vs : List Declared) (ns : List Kind) where
  component_same : (object : Option Kind) (k : ℕ) (f g : Kind → Option Kind) (e h : Kind → Kind → Option Kind) → ((c : Kind) → f c ≡ g c)
      → ((o c : Kind) → e o c ≡ h o c) → component_kind p vs ns object k f e ≡ component_kind p vs ns object k g h
  component_same object k f g e h same each = found_same object _ _ (λ (o : Kind). go o o.is_allocatable)
    where
      at : (b : Bool) (o : Kind) (c : Component) → (if b then f c.declared.kind else e o c.declared.kind) ≡ (if b then g c.declared.kind else h o c.declared.kind)
      at true o c = same c.declared.kind
      at false o c = each o c.declared.kind

      go : (o : Kind) (b : Bool)
          → (if b then None else found (component_of p.types.items o.of k) (λ (c : Component). if nat_eq o.rank 0 then f c.declared.kind else e o c.declared.kind))
          ≡ (if b then None else found (component_of p.types.items o.of k) (λ (c : Component). if nat_eq o.rank 0 then g c.declared.kind else h o c.declared.kind))
      go o true = refl
      go o false = found_same (component_of p.types.items o.of k) _ _ (λ c. at (nat_eq o.rank 0) o c)

  mutual
    pub value_seen : (x : e.Expression) → formed.value_kind p vs ns x ≡ value_kind p vs ns (expression_view x)
    value_seen (e.Literal (constant.Number z)) = ap (value_kind p vs ns) (sym (v.view_literal (constant.Number z)))
    value_seen (e.Literal (constant.Truth b)) = ap (value_kind p vs ns) (sym (v.view_literal (constant.Truth b)))
    value_seen (e.Variable' q x) = ap (λ o. found o valued) (object_seen x) ∙ ap (value_kind p vs ns) (sym (is.variable_is q x))
    value_seen (e.Group' q x) = value_seen x ∙ ap (value_kind p vs ns) (sym (is.group_is q x))
    value_seen (e.Unary' o t q x) =
        ap (λ y. found y (λ k. only (is_scalar k && alike k.of t) (of_kind t 0))) (value_seen x) ∙ ap (value_kind p vs ns) (sym (is.unary_is o t q x))
    value_seen (e.Binary' o t q x r y) =
        let joined : Option Kind → Option Kind → Option Kind =
        λ z w. found z (λ k. found w (λ j. only (is_scalar k && (is_scalar j && alike k.of j.of)) (of_kind t 0))) in
        ap (λ z. joined z (formed.value_kind p vs ns y)) (value_seen x) ∙ ap (joined (value_kind p vs ns (expression_view x))) (value_seen y)
        ∙ ap (value_kind p vs ns) (sym (is.binary_is o t q x r y))
    value_seen (e.Array' k xs) = ap (λ gs. found (given_all gs) constructed) (arguments_seen xs) ∙ ap (value_kind p vs ns) (sym (is.array_is k xs))
    value_seen (e.Structure' t k xs) =
        ap (λ gs. found (given_all gs) (structured p vs ns t)) (arguments_seen xs) ∙ ap (value_kind p vs ns) (sym (is.structure_is t k xs))
    value_seen (e.Call' f k xs) =
        ap (λ gs. found (given_all gs) (referenced p vs ns f)) (arguments_seen xs) ∙ ap (value_kind p vs ns) (sym (is.reference_is f k xs))
    value_seen (e.Allocated' q x) =
        ap (λ o. found o (λ (k : Kind). only k.is_allocatable (of_kind base.Logical 0))) (object_seen x) ∙ ap (value_kind p vs ns) (sym (is.allocated_is q x))
    value_seen (e.Size' q x) =
        ap (λ o. found o (λ (g : Given). only (not g.kind.is_allocatable && nat_lt 0 g.kind.rank) (of_kind base.Integer 0))) (argument_seen x)
        ∙ ap (value_kind p vs ns) (sym (is.size_is q x))
    value_seen (e.Bound' o q x r y) =
        let asked : Option Given → Option Kind → Option Kind =
        λ z w. found z (λ (g : Given). found w (λ k. only (not g.kind.is_allocatable && (nat_lt 0 g.kind.rank && is_whole_number k)) (of_kind base.Integer 0))) in
        ap (λ z. asked z (formed.value_kind p vs ns y)) (argument_seen x) ∙ ap (asked (argument p vs ns (argument_view x))) (value_seen y)
        ∙ ap (value_kind p vs ns) (sym (is.bound_is o q x r y))

    argument_seen : (x : a.Argument) → formed.argument p vs ns x ≡ argument p vs ns (argument_view x)
    argument_seen (a.Value' k q x) =
        ap (λ o. found o (λ (j : Kind). Some (record { number = k; kind = j; is_variable = false }))) (value_seen x)
        ∙ ap (argument p vs ns) (sym (is.value_is k q x))
    argument_seen (a.Variable' k q x) =
        ap (λ o. found o (λ (j : Kind). Some (record { number = k; kind = j; is_variable = true }))) (object_seen x)
        ∙ ap (argument p vs ns) (sym (is.object_is k q x))

    arguments_seen : {m : _} (xs : e.Row_of-Argument m)
        → formed.arguments p vs ns xs ≡ arguments p vs ns (arguments_of (map argument_view (e.items-the_row-Argument m xs)))
    arguments_seen e.end_of-Argument = refl
    arguments_seen (e.more_of-Argument x rest) =
        ap (λ g. g ∷ formed.arguments p vs ns rest) (argument_seen x)
        ∙ ap (λ gs. argument p vs ns (argument_view x) ∷ gs) (arguments_seen rest)

    pub object_seen : (x : d.Designator) → formed.object_kind p vs ns x ≡ object_kind p vs ns (designator_view x)
    object_seen (d.Name x how) =
        found_same (kind_of_name p vs ns x) _ _ (λ k. taken_seen how k) ∙ ap (object_kind p vs ns) (sym (v.view_name x how))
    object_seen (d.Component' q x k how) =
        component_same (formed.object_kind p vs ns x) k _ _ _ _ (λ c. taken_seen how c) (λ o c. taken_of_each_seen how o c)
        ∙ ap (λ z. component_kind p vs ns z k (λ c. taken p vs ns (selection_view how) c) (λ o c. taken_of_each p vs ns (selection_view how) o c)) (object_seen x)
        ∙ ap (object_kind p vs ns) (sym (is.component_is q x k how))

    taken_seen : (x : l.Selection) (k : Kind) → formed.taken p vs ns x k ≡ taken p vs ns (selection_view x) k
    taken_seen l.Whole k = ap (λ z. taken p vs ns z k) (sym v.view_whole)
    taken_seen l.Contents k = ap (λ z. taken p vs ns z k) (sym v.view_contents)
    taken_seen (l.Elements' o m xs) k =
        ap (λ bs. sectioned p vs ns o (given_all bs) k) (subscripts_seen xs) ∙ ap (λ z. taken p vs ns z k) (sym (is.elements_is o m xs))

    taken_of_each_seen : (x : l.Selection) (j k : Kind) → formed.taken_of_each p vs ns x j k ≡ taken_of_each p vs ns (selection_view x) j k
    taken_of_each_seen l.Whole j k = ap (λ z. taken_of_each p vs ns z j k) (sym v.view_whole)
    taken_of_each_seen l.Contents j k = ap (λ z. taken_of_each p vs ns z j k) (sym v.view_contents)
    taken_of_each_seen (l.Elements' o m xs) j k =
        ap (λ bs. element_of_each p vs ns o (given_all bs) j k) (subscripts_seen xs) ∙ ap (λ z. taken_of_each p vs ns z j k) (sym (is.elements_is o m xs))

    subscripts_seen : {m : _} (xs : l.Row_of-Subscript m)
        → formed.subscripts p vs ns xs ≡ subscripts p vs ns (subscripts_of (map subscript_view (l.items-the_row-Subscript m xs)))
    subscripts_seen l.end_of-Subscript = refl
    subscripts_seen (l.more_of-Subscript x rest) =
        ap (λ g. g ∷ formed.subscripts p vs ns rest) (subscript_seen x)
        ∙ ap (λ gs. subscript p vs ns (subscript_view x) ∷ gs) (subscripts_seen rest)

    subscript_seen : (x : u.Subscript) → formed.subscript p vs ns x ≡ subscript p vs ns (subscript_view x)
    subscript_seen (u.At' q x) = ap (λ o. only (some o is_whole_number) false) (value_seen x) ∙ ap (subscript p vs ns) (sym (is.subscript_is q x))
    subscript_seen (u.Range' b q x c r y t z) =
        ap (λ o. only (some o is_whole_number && (some (formed.value_kind p vs ns y) is_whole_number && some (formed.value_kind p vs ns z) is_whole_number)) true) (value_seen x)
        ∙ ap (λ o. only (some (value_kind p vs ns (expression_view x)) is_whole_number && (some o is_whole_number && some (formed.value_kind p vs ns z) is_whole_number)) true) (value_seen y)
        ∙ ap (λ o. only (some (value_kind p vs ns (expression_view x)) is_whole_number && (some (value_kind p vs ns (expression_view y)) is_whole_number && some o is_whole_number)) true) (value_seen z)
        ∙ ap (subscript p vs ns) (sym (is.triplet_is b q x c r y t z))
