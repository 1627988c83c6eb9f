-- What attributes say, one attribute more.
use Rattle.std.proofs.Common.{◌≡◌, ℕ, ◌+◌, ◌<◌, List, [], ◌∷◌, ◌++◌, Option, Some, None, Bool, true, false, length, map, filter, take, get_or, cond, nat_eq, refl, ap, sym, ◌∙◌, arith}
use Rattle.std.specs.List.{flat_map}
use Rattle.std.specs.Prelude.{nat_lt}
use Rattle.std.proofs.lemmas.List.{take_more, length-append, map-append, append-nil}
use Rattle.f3_tree.specs.declared.expression.Name.{Name}
use Rattle.std.proofs.lemmas.Grind.{flat_map-append}
use Rattle.std.proofs.lemmas.List.Elements.{filter-append}
use Rattle.std.proofs.lemmas.Bool.Decides.{nat_tests}
use Rattle.f3_scopes.specs.Scopes.{intent_of as intents}
use Rattle.f3_tree.specs.declared.declaration.Attribute.{Attribute}
use Rattle.f3_tree.specs.declared.declaration.Intent.{Intent}
use Rattle.f3_tree.specs.Declarations.{attribute_view, Placed, placed_view, ShapeTree, AttributeTree, access, protected, parameter, save, allocatable, dimension, intent}
use Rattle.f3_type_rules.specs.Names.{dimension_in, last_of}
use Rattle.f3_type_rules.specs.Attributes.{same_sort, any_dimension, any_intent}
use Rattle.f3_declared.specs.declared.attributes.Kinds.{Kinds}
use Rattle.f3_declared.specs.declared.attributes.Standing.{Standing}
use Rattle.f3_declared.specs.Standings.{standing, again}
use Rattle.f3_declared.specs.Inner.Counting.{with_kind, stands, kinds_of, last_dimension, last_intent}

-- one item more of a list that is read through a view
pub map_more : {X Y : Type 0} (f : X → Y) (xs : List X) (i : ℕ) (x : X) → i < length xs → x ≡ get_or xs i x → map f (take (i + 1) xs) ≡ map f (take i xs) ++ (f x ∷ [])
map_more f xs i x lt is = ap (map f) (take_more xs i x lt ∙ ap (λ y. take i xs ++ (y ∷ [])) (sym is)) ∙ map-append f (take i xs) (x ∷ [])

again_standing : (n : ℕ) → standing (n + 1) ≡ again (standing n)
again_standing n = both (nat_lt 0 (n + 1)) true (nat_lt 1 (n + 1)) (nat_lt 0 n) (grind (arith, nat_tests)) (grind (arith, nat_tests))
  where
    both : (a b c d : Bool) → a ≡ b → c ≡ d → (let s : Standing = record { once = a; twice = c } in s) ≡ (let s : Standing = record { once = b; twice = d } in s)
    both a b c d e f = ap (λ z. let s : Standing = record { once = z; twice = c } in s) e ∙ ap (λ z. let s : Standing = record { once = b; twice = z } in s) f

count_one : {X : Type 0} (x : X) (b : Bool) (n : ℕ) → n + length (cond b (x ∷ []) []) ≡ cond b (n + 1) n
count_one x true n = refl
count_one x false n = omega arith

count_push : {X : Type 0} (p : X → Bool) (xs : List X) (x : X) → length (filter p (xs ++ (x ∷ []))) ≡ cond (p x) (length (filter p xs) + 1) (length (filter p xs))
count_push p xs x = ap length (filter-append p xs (x ∷ [])) ∙ length-append (filter p xs) (filter p (x ∷ [])) ∙ count_one x (p x) (length (filter p xs))

standing_cond : (b : Bool) (n : ℕ) → standing (cond b (n + 1) n) ≡ cond b (again (standing n)) (standing n)
standing_cond true n = again_standing n
standing_cond false n = refl

stands_push : (a : AttributeTree) (xs : List AttributeTree) (x : AttributeTree) → stands a (xs ++ (x ∷ [])) ≡ cond (same_sort a x) (again (stands a xs)) (stands a xs)
stands_push a xs x = ap standing (count_push (same_sort a) xs x) ∙ standing_cond (same_sort a x) (length (filter (same_sort a) xs))

six : (a b c d e f a' b' c' d' e' f' : Standing) → a ≡ a' → b ≡ b' → c ≡ c' → d ≡ d' → e ≡ e' → f ≡ f'
    → (let k : Kinds = record { protected = a; parameter = b; save = c; allocatable = d; dimension = e; intent = f } in k)
    ≡ (let k : Kinds = record { protected = a'; parameter = b'; save = c'; allocatable = d'; dimension = e'; intent = f' } in k)
six a b c d e f a' b' c' d' e' f' p q r s t u = cc

step_of : Kinds → AttributeTree → Kinds
step_of k x = record {
  protected = cond (same_sort protected x) (again k.protected) k.protected;
  parameter = cond (same_sort parameter x) (again k.parameter) k.parameter;
  save = cond (same_sort save x) (again k.save) k.save;
  allocatable = cond (same_sort allocatable x) (again k.allocatable) k.allocatable;
  dimension = cond (same_sort any_dimension x) (again k.dimension) k.dimension;
  intent = cond (same_sort any_intent x) (again k.intent) k.intent;
}

step_is : (k : Kinds) (x : AttributeTree) → step_of k x ≡ with_kind k x
unfolding step_of
step_is k (access a) = refl
step_is k protected = refl
step_is k parameter = refl
step_is k save = refl
step_is k allocatable = refl
step_is k (dimension s) = refl
step_is k (intent i) = refl

kinds_push : (xs : List AttributeTree) (x : AttributeTree) → kinds_of (xs ++ (x ∷ [])) ≡ with_kind (kinds_of xs) x
unfolding step_of
kinds_push xs x =
    six _ _ _ _ _ _ _ _ _ _ _ _ (stands_push protected xs x) (stands_push parameter xs x) (stands_push save xs x) (stands_push allocatable xs x)
    (stands_push any_dimension xs x) (stands_push any_intent xs x)
    ∙ step_is (kinds_of xs) x

pub kinds_more : {X : Type 0} (f : X → AttributeTree) (xs : List X) (i : ℕ) (x : X) (before after : Kinds) → i < length xs → x ≡ get_or xs i x → before ≡ kinds_of (map f (take i xs))
    → after ≡ with_kind before (f x) → after ≡ kinds_of (map f (take (i + 1) xs))
kinds_more f xs i x before after lt is h e =
    e ∙ ap (λ k. with_kind k (f x)) h ∙ sym (kinds_push (map f (take i xs)) (f x)) ∙ ap kinds_of (sym (map_more f xs i x lt is))

last_append : {X : Type 0} (o : Option X) (xs ys : List X) → last_of o (xs ++ ys) ≡ last_of (last_of o xs) ys
last_append o [] ys = refl
last_append o (x ∷ xs) ys = last_append (Some x) xs ys

last_push : {X Y : Type 0} (f : X → List Y) (xs : List X) (x : X) → last_of None (flat_map f (xs ++ (x ∷ []))) ≡ last_of (last_of None (flat_map f xs)) (flat_map f (x ∷ []))
last_push f xs x = ap (last_of None) (flat_map-append f xs (x ∷ [])) ∙ last_append None (flat_map f xs) (flat_map f (x ∷ []))

dimension_step : (o : Option ShapeTree) (x : AttributeTree) → last_of o (flat_map dimension_in (x ∷ [])) ≡ last_dimension o x
dimension_step o (access a) = refl
dimension_step o protected = refl
dimension_step o parameter = refl
dimension_step o save = refl
dimension_step o allocatable = refl
dimension_step o (dimension s) = refl
dimension_step o (intent i) = refl

pub dimension_more : {X : Type 0} (f : X → AttributeTree) (xs : List X) (i : ℕ) (x : X) (before after : Option ShapeTree) → i < length xs → x ≡ get_or xs i x
    → before ≡ last_of None (flat_map dimension_in (map f (take i xs)))
    → after ≡ last_dimension before (f x) → after ≡ last_of None (flat_map dimension_in (map f (take (i + 1) xs)))
dimension_more f xs i x before after lt is h e =
    e ∙ ap (λ o. last_dimension o (f x)) h ∙ sym (dimension_step (last_of None (flat_map dimension_in (map f (take i xs)))) (f x))
    ∙ sym (last_push dimension_in (map f (take i xs)) (f x)) ∙ ap (λ ys. last_of None (flat_map dimension_in ys)) (sym (map_more f xs i x lt is))

intent_step : (o : Option Intent) (x : AttributeTree) → last_of o (flat_map intents (x ∷ [])) ≡ last_intent o x
intent_step o (access a) = refl
intent_step o protected = refl
intent_step o parameter = refl
intent_step o save = refl
intent_step o allocatable = refl
intent_step o (dimension s) = refl
intent_step o (intent i) = refl

pub intent_more : {X : Type 0} (f : X → AttributeTree) (xs : List X) (i : ℕ) (x : X) (before after : Option Intent) → i < length xs → x ≡ get_or xs i x
    → before ≡ last_of None (flat_map intents (map f (take i xs)))
    → after ≡ last_intent before (f x) → after ≡ last_of None (flat_map intents (map f (take (i + 1) xs)))
intent_more f xs i x before after lt is h e =
    e ∙ ap (λ o. last_intent o (f x)) h ∙ sym (intent_step (last_of None (flat_map intents (map f (take i xs)))) (f x))
    ∙ sym (last_push intents (map f (take i xs)) (f x)) ∙ ap (λ ys. last_of None (flat_map intents ys)) (sym (map_more f xs i x lt is))

pub attributes_same : (xs : List Attribute) → map (λ (a : Attribute). attribute_view a.kind) xs ≡ map (λ (p : Placed). p.attribute) (map placed_view xs)
attributes_same [] = refl
attributes_same (x ∷ xs) = ap (λ ys. attribute_view x.kind ∷ ys) (attributes_same xs)

-- names that are counted, one more
pub named_more : {X : Type 0} (f : X → ℕ) (q : ℕ) (xs : List X) (i : ℕ) (x : X) (n : ℕ) → i < length xs → x ≡ get_or xs i x
    → cond (nat_eq q (f x)) (n + length (filter (nat_eq q) (map f (take i xs))) + 1) (n + length (filter (nat_eq q) (map f (take i xs)))) ≡ n + length (filter (nat_eq q) (map f (take (i + 1) xs)))
named_more f q xs i x n lt is =
    moved (nat_eq q (f x)) n (length (filter (nat_eq q) (map f (take i xs))))
    ∙ ap (λ m. n + m) (sym (count_push (nat_eq q) (map f (take i xs)) (f x)) ∙ ap (λ ys. length (filter (nat_eq q) ys)) (sym (map_more f xs i x lt is)))
  where
    moved : (b : Bool) (n m : ℕ) → cond b (n + m + 1) (n + m) ≡ n + cond b (m + 1) m
    moved true n m = omega arith
    moved false n m = refl

-- a list of names for each item, one item more
pub listed_more : {X Y : Type 0} (p : ℕ → Bool) (v : X → Y) (g : Y → List Name) (xs : List X) (i : ℕ) (x : X) → i < length xs → x ≡ get_or xs i x
    → length (filter p (map (λ (m : Name). m.symbol) (flat_map g (map v (take i xs))))) + length (filter p (map (λ (m : Name). m.symbol) (g (v x))))
    ≡ length (filter p (map (λ (m : Name). m.symbol) (flat_map g (map v (take (i + 1) xs)))))
listed_more p v g xs i x lt is = sym (
    ap (λ ys. length (filter p (map (λ (m : Name). m.symbol) ys))) (ap (flat_map g) (map_more v xs i x lt is) ∙ flat_map-append g (map v (take i xs)) (v x ∷ []) ∙ ap (λ ys. flat_map g (map v (take i xs)) ++ ys) (append-nil (g (v x))))
    ∙ ap (λ ys. length (filter p ys)) (map-append (λ (m : Name). m.symbol) (flat_map g (map v (take i xs))) (g (v x)))
    ∙ ap length (filter-append p (map (λ (m : Name). m.symbol) (flat_map g (map v (take i xs)))) (map (λ (m : Name). m.symbol) (g (v x))))
    ∙ length-append (filter p (map (λ (m : Name). m.symbol) (flat_map g (map v (take i xs))))) (filter p (map (λ (m : Name). m.symbol) (g (v x)))))
