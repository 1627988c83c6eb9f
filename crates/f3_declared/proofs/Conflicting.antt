-- The rule on attributes, by what was read of them.
use Rattle.std.proofs.Common.{◌≡◌, ℕ, ◌+◌, List, [], ◌∷◌, Bool, not, ◌&&◌, ◌||◌, Option, Some, None, length, filter, nat_eq, map, refl, ap, ◌∙◌, arith}
use Rattle.std.specs.Prelude.{nat_lt, is_some}
use Rattle.std.specs.Option.{option_map}
use Rattle.std.specs.List.{list_all}
use Rattle.std.proofs.lemmas.Bool.Decides.{nat_tests}
use Rattle.f3_tree.specs.declared.expression.Expression.{Expression}
use Rattle.f3_tree.specs.Expressions.{Tree, expression_view}
use Rattle.f3_tree.specs.Declarations.{AttributeTree, EntityTree, DeclarationTree, ShapeTree, protected}
use Rattle.f3_type_rules.specs.Names.{is_given, shape_of}
use Rattle.f3_type_rules.specs.Walks.{Spot, is_among}
use Rattle.f3_type_rules.specs.Attributes.{times, is_derived, conflicts}
use Rattle.f3_declared.specs.declared.attributes.Kinds.{Kinds}
use Rattle.f3_declared.specs.declared.attributes.Standing.{Standing}
use Rattle.f3_declared.specs.Standings.{standing, together}
use Rattle.f3_declared.specs.Declarations.{kinds_in}
use Rattle.f3_declared.specs.Inner.Conflicts.{conflicts_by}
use Rattle.f3_declared.proofs.Sorts.{once_any}

given_is : (o : Option Expression) → not (is_some o) ≡ not (is_given (option_map expression_view o))
given_is None = refl
given_is (Some e) = refl

pub open_all : (xs : List (Option Expression)) → list_all (λ (b : Option Expression). not (is_some b)) xs ≡ list_all (λ (l : Option Tree). not (is_given l)) (map (λ (l : Option Expression). option_map expression_view l) xs)
open_all [] = refl
open_all (x ∷ xs) = ap (λ b. b && list_all (λ (l : Option Expression). not (is_some l)) xs) (given_is x) ∙ ap (λ b. not (is_given (option_map expression_view x)) && b) (open_all xs)

together_twice : (m n : ℕ) → (together (standing m) (standing n)).twice ≡ nat_lt 1 (m + n)
together_twice m n = grind (arith, nat_tests)

pub given_some : (o : Option Expression) → is_some o ≡ is_given (option_map expression_view o)
given_some None = refl
given_some (Some e) = refl

conflicts_same : (s : Spot) (d : DeclarationTree) (x : EntityTree)
    → conflicts_by (kinds_in d) (standing (length (filter (nat_eq (x.name).symbol) s.listed))) s.is_type s.is_pure (is_among s.dummies x) (is_among s.dummies x || is_among s.results x) (is_given x.initial) (is_derived d.specifier) (shape_of (d, x))
    ≡ conflicts s (d, x)
conflicts_same s d x = rw (together_twice (times protected d) (length (filter (nat_eq (x.name).symbol) s.listed))) (simp (once_any {X = AttributeTree}) refl)

-- with what was read and asked
pub conflicts_asked : (s : Spot) (d : DeclarationTree) (x : EntityTree) (kinds : Kinds) (listed : Standing) (dummy outcome of_procedure initial derived result : Bool) (shape : Option ShapeTree)
    → result ≡ conflicts_by kinds listed s.is_type s.is_pure dummy of_procedure initial derived shape
    → kinds ≡ kinds_in d → listed ≡ standing (length (filter (nat_eq (x.name).symbol) s.listed)) → dummy ≡ is_among s.dummies x → outcome ≡ is_among s.results x
    → of_procedure ≡ (dummy || outcome) → initial ≡ is_given x.initial → derived ≡ is_derived d.specifier → shape ≡ shape_of (d, x)
    → result ≡ conflicts s (d, x)
conflicts_asked s d x kinds listed dummy outcome of_procedure initial derived result shape e k l a b o i t h =
    e
    ∙ ap (λ z. conflicts_by z listed s.is_type s.is_pure dummy of_procedure initial derived shape) k
    ∙ ap (λ z. conflicts_by (kinds_in d) z s.is_type s.is_pure dummy of_procedure initial derived shape) l
    ∙ ap (λ z. conflicts_by (kinds_in d) (standing (length (filter (nat_eq (x.name).symbol) s.listed))) s.is_type s.is_pure z of_procedure initial derived shape) a
    ∙ ap (λ z. conflicts_by (kinds_in d) (standing (length (filter (nat_eq (x.name).symbol) s.listed))) s.is_type s.is_pure (is_among s.dummies x) z initial derived shape)
    (o ∙ ap (λ z. z || outcome) a ∙ ap (λ z. is_among s.dummies x || z) b)
    ∙ ap (λ z. conflicts_by (kinds_in d) (standing (length (filter (nat_eq (x.name).symbol) s.listed))) s.is_type s.is_pure (is_among s.dummies x) (is_among s.dummies x || is_among s.results x) z derived shape) i
    ∙ ap (λ z. conflicts_by (kinds_in d) (standing (length (filter (nat_eq (x.name).symbol) s.listed))) s.is_type s.is_pure (is_among s.dummies x) (is_among s.dummies x || is_among s.results x) (is_given x.initial) z shape) t
    ∙ ap (λ z. conflicts_by (kinds_in d) (standing (length (filter (nat_eq (x.name).symbol) s.listed))) s.is_type s.is_pure (is_among s.dummies x) (is_among s.dummies x || is_among s.results x) (is_given x.initial) (is_derived d.specifier) z) h
    ∙ conflicts_same s d x
