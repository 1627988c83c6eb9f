-- Lists of nodes that grow by one at the end.
use Rattle.std.proofs.Common.{◌≡◌, ℕ, ◌+◌, List, [], ◌∷◌, ◌++◌, map, length, refl, ap, sym, ◌∙◌, add-zero, zero-add, suc, arith}
use Rattle.std.proofs.lemmas.List.{map-append, length-map}
use Rattle.f3_kinds.specs.declared.things.Component.{Component}
use Rattle.f3_kinds.specs.declared.things.Dummy.{Dummy}
use Rattle.f3_elaboration.specs.Nodes as n
use Rattle.f3_elaboration.specs.Nodes.{ArgumentNode, ArgumentNodes, SubscriptNodes}
use Rattle.f3_elaboration.specs.Views.{argument_view, arguments_of, subscripts_of}
use Rattle.f3_program.specs.declared.expression.Argument.{Argument}
use Rattle.f3_expression_parts.specs.declared.given.Given as parts
use Rattle.f3_expression_parts.specs.Parts.{given_of}
use Rattle.f3_elaboration.specs.Expressions.{Given, subscript, subscripts, arguments_for, components_for, passed_for, stored_for, number_for, given_value}

-- what each item makes, by its position and itself
abbrev pub each : (ℕ → Given → ArgumentNode) → ℕ → List Given → List ArgumentNode
each f i [] = []
each f i (g ∷ gs) = f i g ∷ each f (i + 1) gs

abbrev pub argument_at : List (ℕ × Dummy) → ℕ → Given → ArgumentNode
argument_at ds i g = passed_for ds (number_for ds i g) (given_value g)

abbrev pub component_at : List (ℕ × Component) → ℕ → Given → ArgumentNode
component_at ks i g = stored_for ks (number_for ks i g) (given_value g)

pub all_arguments : (ds : List (ℕ × Dummy)) (i : ℕ) (gs : List Given) → arguments_of (each (argument_at ds) i gs) ≡ arguments_for ds i gs
all_arguments ds i [] = refl
all_arguments ds i (g ∷ gs) = ap (λ (xs : ArgumentNodes). n.arguments (argument_at ds i g) xs) (all_arguments ds (i + 1) gs)

pub all_components : (ks : List (ℕ × Component)) (i : ℕ) (gs : List Given) → arguments_of (each (component_at ks) i gs) ≡ components_for ks i gs
all_components ks i [] = refl
all_components ks i (g ∷ gs) = ap (λ (xs : ArgumentNodes). n.arguments (component_at ks i g) xs) (all_components ks (i + 1) gs)

pub all_subscripts : (gs : List Given) → subscripts_of (map subscript gs) ≡ subscripts gs
all_subscripts [] = refl
all_subscripts (g ∷ gs) = ap (λ (xs : SubscriptNodes). n.subscripts (subscript g) xs) (all_subscripts gs)

pub each_length : (f : ℕ → Given → ArgumentNode) (i : ℕ) (gs : List Given) → length (each f i gs) ≡ length gs
each_length f i [] = refl
each_length f i (g ∷ gs) = ap suc (each_length f (i + 1) gs)

pub each_more : (f : ℕ → Given → ArgumentNode) (i : ℕ) (gs : List Given) (g : Given)
    → each f i (gs ++ (g ∷ [])) ≡ each f i gs ++ (f (i + length gs) g ∷ [])
each_more f i [] g = ap (λ k. f k g ∷ []) (sym (add-zero i))
each_more f i (x ∷ xs) g =
    let is : i + 1 + length xs ≡ i + suc (length xs) = omega arith in
    ap (λ ys. f i x ∷ ys) (each_more f (i + 1) xs g ∙ ap (λ k. each f (i + 1) xs ++ (f k g ∷ [])) is)

-- one item more, where as many stand before it
pub grown : (f : ℕ → Given → ArgumentNode) (gs : List Given) (g : Given) (found : List ArgumentNode) (k : ℕ)
    → found ≡ each f 0 gs → k ≡ length found → found ++ (f k g ∷ []) ≡ each f 0 (gs ++ (g ∷ []))
grown f gs g found k e h =
    let is : k ≡ 0 + length gs = h ∙ ap length e ∙ each_length f 0 gs ∙ sym (zero-add (length gs)) in
    ap (λ xs. xs ++ (f k g ∷ [])) e ∙ ap (λ j. each f 0 gs ++ (f j g ∷ [])) is ∙ sym (each_more f 0 gs g)

-- the same of what stands in memory
pub pushed : (f : ℕ → Given → ArgumentNode) (gs : List parts.Given) (g : parts.Given) (before after : List Argument) (x : Argument) (k : ℕ)
    → map argument_view before ≡ each f 0 (map given_of gs) → after ≡ before ++ (x ∷ []) → k ≡ length before
    → argument_view x ≡ f k (given_of g) → map argument_view after ≡ each f 0 (map given_of (gs ++ (g ∷ [])))
pushed f gs g before after x k e is counted made =
    ap (map argument_view) is ∙ map-append argument_view before (x ∷ [])
    ∙ ap (λ y. map argument_view before ++ (y ∷ [])) made
    ∙ grown f (map given_of gs) (given_of g) (map argument_view before) k e (counted ∙ sym (length-map before argument_view))
    ∙ ap (each f 0) (sym (map-append given_of gs (g ∷ [])))
