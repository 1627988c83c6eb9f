-- T1: attributes that do not stand together (ISO/IEC 1539-1:2004, 5.1).
use Rattle.std.specs.Prelude.{ℕ, ◌+◌, Bool, true, false, not, ◌&&◌, ◌||◌, nat_eq, nat_lt, [], ◌∷◌}
use Rattle.std.specs.Prelude.{Option, None, Some, length, filter}
use Rattle.std.specs.List.{list_all, list_any}
use Rattle.f3_tree.specs.declared.declaration.Intent.TheVariants.{In}
use Rattle.f3_tree.specs.declared.declaration.TypeSpecifier.{TypeSpecifier}
use Rattle.f3_tree.specs.declared.declaration.TypeSpecifier.TheVariants as specifier
use Rattle.f3_tree.specs.Expressions.{Tree}
use Rattle.f3_tree.specs.Declarations.{ShapeTree, explicit, deferred, AttributeTree, protected, parameter, save, allocatable, dimension}
use Rattle.f3_tree.specs.Declarations.{intent, DeclarationTree}
use Rattle.f3_type_rules.specs.Names.{is_given, Declared, attributes_of, shape_of}
use Rattle.f3_type_rules.specs.Finals.{is_explicit}
use Rattle.f3_type_rules.specs.Walks.{Spot, is_among}

-- attributes of one sort
abbrev pub same_sort : AttributeTree → AttributeTree → Bool
same_sort protected protected = true
same_sort parameter parameter = true
same_sort save save = true
same_sort allocatable allocatable = true
same_sort (dimension s) (dimension r) = true
same_sort (intent i) (intent j) = true
same_sort _ _ = false

abbrev pub times : AttributeTree → DeclarationTree → ℕ
times a d = length (filter (same_sort a) (attributes_of d))

abbrev pub has : AttributeTree → DeclarationTree → Bool
has a d = list_any (same_sort a) (attributes_of d)

abbrev pub any_intent : AttributeTree
any_intent = intent In

abbrev pub any_dimension : AttributeTree
any_dimension = dimension (deferred [])

abbrev pub is_derived : TypeSpecifier → Bool
is_derived (specifier.Derived n) = true
is_derived _ = false

abbrev pub is_deferred : Option ShapeTree → Bool
is_deferred (Some (deferred ls)) = true
is_deferred _ = false

-- no shape, or `:` throughout
abbrev pub is_open : Option ShapeTree → Bool
is_open None = true
is_open (Some (explicit bs)) = false
is_open (Some (deferred ls)) = list_all (λ (l : Option Tree). not (is_given l)) ls

-- an attribute stands twice, with the listings in PROTECTED statements
abbrev pub is_twice : DeclarationTree → ℕ → Bool
is_twice d listings =
    nat_lt 1 (times protected d + listings) || list_any (λ a. nat_lt 1 (times a d)) (parameter ∷ save ∷ allocatable ∷ any_dimension ∷ any_intent ∷ [])

abbrev pub conflicts : Spot → Declared → Bool
conflicts s x =
    let d : DeclarationTree = x.0 in
    let shape : Option ShapeTree = shape_of x in
    let initial : Bool = is_given (x.1).initial in
    let dummy : Bool = is_among s.dummies x.1 in
    let of_procedure : Bool = dummy || is_among s.results x.1 in
    is_twice d (length (filter (nat_eq ((x.1).name).symbol) s.listed))
    || (has allocatable d && (has parameter d || initial || not (is_open shape)))
    || (has parameter d && (not initial || has save d || has any_intent d || is_given shape || is_derived d.specifier))
    || (initial && (of_procedure || is_derived d.specifier))
    || (has save d && of_procedure)
    || (s.is_pure && not (has parameter d) && (has save d || initial))
    || (is_deferred shape && not (has allocatable d) && not dummy)
    || (is_explicit shape && dummy)
    || (s.is_type && list_any (λ a. has a d) (protected ∷ parameter ∷ save ∷ any_intent ∷ []))
