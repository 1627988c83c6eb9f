-- The kinds of what stands in an elaborated program, and whether its statements make sense, on its data: as f3_meaning_whole says it of
-- the program in memory.
use Rattle.std.specs.Prelude.{ℕ, Bool, true, false, not, ◌&&◌, ◌||◌, if◌then◌else◌, nat_eq, nat_lt, List, [], ◌∷◌, ◌++◌, map, length, Option, None, Some}
use Rattle.f3_program.specs.declared.declarations.Base.TheVariants as base
use Rattle.f3_program.specs.declared.declarations.Constant.TheVariants as constant
use Rattle.f3_program.specs.declared.declarations.Declared.{Declared}
use Rattle.f3_program.specs.declared.declarations.Kind.{Kind}
use Rattle.f3_program.specs.declared.program.Program.{Program}
use Rattle.f3_meaning_whole.specs.Permitted.{same_type}
use Rattle.f3_meaning_whole.specs.Formed.{all, some, found, only, is_number, alike, of_kind, is_scalar, is_whole_number, is_condition, valued, Given}
use Rattle.f3_meaning_whole.specs.Formed.{given_all, constructed, takes, kind_of_name, sectioned, element_of_each, component_kind, structured, referenced}
use Rattle.f3_meaning_whole.specs.Formed.{same_kind, or_none, is_before}
use Rattle.f3_elaboration.specs.Nodes as n
use Rattle.f3_elaboration.specs.Nodes.{ExpressionNode, ArgumentNode, ArgumentNodes, DesignatorNode, SelectionNode, SubscriptNode, SubscriptNodes}
use Rattle.f3_elaboration.specs.Nodes.{ItemNode, BoundsNode, RequestNode, SelectorNode, StatementNode, StatementNodes, DeclaredNode}

module _ (p : Program) (variables : List Declared) (names : List Kind) where
  abbrev mutual
    -- the kind of an expression, where it makes sense
    pub value_kind : ExpressionNode → Option Kind
    value_kind (n.literal (constant.Number z)) = Some (of_kind base.Integer 0)
    value_kind (n.literal (constant.Truth b)) = Some (of_kind base.Logical 0)
    value_kind (n.variable d) = found (object_kind d) valued
    value_kind (n.group x) = value_kind x
    value_kind (n.unary o t x) = found (value_kind x) (λ k. only (is_scalar k && alike k.of t) (of_kind t 0))
    value_kind (n.binary o t x y) = found (value_kind x) (λ k. found (value_kind y) (λ j. only (is_scalar k && (is_scalar j
        && alike k.of j.of)) (of_kind t 0)))
    value_kind (n.array xs) = found (given_all (arguments xs)) constructed
    value_kind (n.structure t xs) = found (given_all (arguments xs)) (structured p variables names t)
    value_kind (n.reference f xs) = found (given_all (arguments xs)) (referenced p variables names f)
    value_kind (n.allocated d) = found (object_kind d) (λ k. only k.is_allocatable (of_kind base.Logical 0))
    value_kind (n.size x) = found (argument x) (λ g. only (not g.kind.is_allocatable && nat_lt 0 g.kind.rank) (of_kind base.Integer 0))
    value_kind (n.bound o x y) = found (argument x) (λ g. found (value_kind y) (λ k. only (not g.kind.is_allocatable && (nat_lt 0 g.kind.rank
        && is_whole_number k)) (of_kind base.Integer 0)))

    pub argument : ArgumentNode → Option Given
    argument (n.value k x) = found (value_kind x) (λ j. Some (record { number = k; kind = j; is_variable = false }))
    argument (n.object k d) = found (object_kind d) (λ j. Some (record { number = k; kind = j; is_variable = true }))

    pub arguments : ArgumentNodes → List (Option Given)
    arguments n.no_arguments = []
    arguments (n.arguments x xs) = argument x ∷ arguments xs

    -- the kind of what a designator names, where it makes sense
    pub object_kind : DesignatorNode → Option Kind
    object_kind (n.name x how) = found (kind_of_name p variables names x) (λ k. taken how k)
    object_kind (n.component d k how) = component_kind p variables names (object_kind d) k (λ c. taken how c) (λ o c. taken_of_each how o c)

    pub taken : SelectionNode → Kind → Option Kind
    taken n.whole k = Some k
    taken n.contents k = only k.is_allocatable (of_kind k.of k.rank)
    taken (n.elements is_opened xs) k = sectioned p variables names is_opened (given_all (subscripts xs)) k

    pub taken_of_each : SelectionNode → Kind → Kind → Option Kind
    taken_of_each n.whole array k = only (is_scalar k) (of_kind k.of array.rank)
    taken_of_each n.contents array k = None
    taken_of_each (n.elements is_opened xs) array k = element_of_each p variables names is_opened (given_all (subscripts xs)) array k

    pub subscripts : SubscriptNodes → List (Option Bool)
    subscripts n.no_subscripts = []
    subscripts (n.subscripts x xs) = subscript x ∷ subscripts xs

    -- of a subscript whether it is a triplet
    pub subscript : SubscriptNode → Option Bool
    subscript (n.subscript x) = only (some (value_kind x) is_whole_number) false
    subscript (n.triplet b x c y z) = only (some (value_kind x) is_whole_number && (some (value_kind y) is_whole_number
        && some (value_kind z) is_whole_number)) true

  abbrev pub is_status : Option DesignatorNode → Bool
  is_status None = true
  is_status (Some d) = some (object_kind d) is_whole_number

  abbrev pub is_object_of : Kind → DesignatorNode → Bool
  is_object_of k d = some (object_kind d) (same_kind p variables names k)

  abbrev pub is_bound : BoundsNode → Bool
  is_bound b = some (value_kind b.lower) is_whole_number && some (value_kind b.upper) is_whole_number

  abbrev pub is_request : RequestNode → Bool
  is_request r = r.kind.is_allocatable && (is_object_of r.kind r.object && all is_bound r.bounds)

  abbrev pub has_bounds : RequestNode → Bool
  has_bounds r = nat_eq (length r.bounds) r.kind.rank

  abbrev pub is_item : ItemNode → Bool
  is_item (n.shown x) = some (value_kind x) (λ k. is_number k.of || same_type k.of base.Logical)
  is_item (n.text t) = true

  abbrev pub selected : SelectorNode → Option Kind
  selected (n.means d) = found (object_kind d) valued
  selected (n.holds k x) = found (value_kind x) (λ j. only (alike k.of j.of && nat_eq k.rank j.rank) k)

-- statements that make sense
module _ (p : Program) (variables : List Declared) where
  abbrev mutual
    pub is_formed : StatementNode → List Kind → Bool
    is_formed (n.at place b x) names = is_formed x names
    is_formed (n.block xs) names = are_formed xs names
    is_formed (n.assign d k y) names = is_object_of p variables names k d && some (value_kind p variables names y) (takes k)
    is_formed (n.call x) names = some (value_kind p variables names x) (λ k. true)
    is_formed (n.move_alloc k b d e) names = k.is_allocatable && (is_object_of p variables names k d && is_object_of p variables names k e)
    is_formed (n.allocate rs stat) names = all (λ r. is_request p variables names r && has_bounds p variables names r) rs
        && is_status p variables names stat
    is_formed (n.deallocate rs stat) names = all (is_request p variables names) rs && is_status p variables names stat
    is_formed (n.print xs) names = all (is_item p variables names) xs
    is_formed (n.stop code) names = true
    is_formed n.return names = true
    is_formed n.cycle names = true
    is_formed n.exit names = true
    is_formed (n.branch x y z) names = some (value_kind p variables names x) is_condition && (is_formed y names && is_formed z names)
    is_formed (n.select x y) names = some (value_kind p variables names x) is_scalar && is_formed y names
    is_formed (n.case rs x y) names = is_formed x names && is_formed y names
    is_formed (n.while x y) names = some (value_kind p variables names x) is_condition && is_formed y names
    is_formed (n.count d k from to step y) names = is_whole_number k && (is_object_of p variables names k d
        && (some (value_kind p variables names from) is_whole_number && (some (value_kind p variables names to) is_whole_number
        && (some (value_kind p variables names step) is_whole_number && is_formed y names))))
    is_formed (n.associate xs y) names = some (given_all (map (selected p variables names) xs)) (λ ks. true)
        && is_formed y (names ++ or_none (given_all (map (selected p variables names) xs)))

    pub are_formed : StatementNodes → List Kind → Bool
    are_formed n.no_statements names = true
    are_formed (n.statements x xs) names = is_formed x names && are_formed xs names

-- ---- what is declared

abbrev pub is_declared : ℕ → DeclaredNode → Bool
is_declared count y = is_before count y.kind.of && (if y.kind.is_allocatable then nat_eq (length y.dimensions) 0
    else nat_eq (length y.dimensions) y.kind.rank)
