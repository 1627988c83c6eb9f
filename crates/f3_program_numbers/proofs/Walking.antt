-- Walks in which a number grows.
use Rattle.std.proofs.Common.{◌≡◌, ℕ, ◌+◌, ◌<◌, ◌≤◌, List, [], ◌∷◌, ◌++◌, map, length, drop, get_or, append_assoc, refl, ap, sym, ◌∙◌, arith}
use Rattle.std.specs.List.{flat_map}
use Rattle.std.proofs.lemmas.List.{at_drop_more, drop_all, append-nil, length-append}
use Rattle.f3_scopes.specs.Scopes.{declared_in}
use Rattle.f3_tree.specs.declared.declaration.Specification.{Specification}
use Rattle.f3_tree.specs.Declarations.{SpecificationTree, specification_view}
use Rattle.f3_elaboration.specs.Numbers.{along_part}

-- one item more
pub walk_more : {Y Z : Type 0} (f : ℕ → Y → List Z) (next : ℕ → Y → ℕ) (rows : ℕ → List Y → List Z) → ((n : ℕ) (y : Y) (ys : List Y) → rows n (y ∷ ys) ≡ f n y ++ rows (next n y) ys)
    → (ys : List Y) (i : ℕ) (y : Y) (n n' : ℕ) (before after whole : List Z) → i < length ys → y ≡ get_or ys i y → n' ≡ next n y
    → after ≡ before ++ f n y → before ++ rows n (drop i ys) ≡ whole → after ++ rows n' (drop (i + 1) ys) ≡ whole
walk_more f next rows more ys i y n n' before after whole lt is step e h =
    ap (λ zs. zs ++ rows n' (drop (i + 1) ys)) (e ∙ ap (λ z. before ++ f n z) is)
    ∙ append_assoc before (f n (get_or ys i y)) (rows n' (drop (i + 1) ys))
    ∙ ap (λ k. before ++ (f n (get_or ys i y) ++ rows k (drop (i + 1) ys))) (step ∙ ap (next n) is)
    ∙ ap (λ zs. before ++ zs) (sym (at_drop_more (rows n) ys i y lt ∙ more n (get_or ys i y) (drop (i + 1) ys))) ∙ h

-- and at the end
pub walk_end : {Y Z : Type 0} (rows : ℕ → List Y → List Z) → ((n : ℕ) → rows n [] ≡ []) → (ys : List Y) (i n : ℕ) (before whole : List Z) → length ys ≤ i
    → before ++ rows n (drop i ys) ≡ whole → before ≡ whole
walk_end rows none ys i n before whole le h =
    sym (append-nil before) ∙ ap (λ zs. before ++ zs) (sym (ap (rows n) (drop_all i ys le) ∙ none n)) ∙ h

-- along a specification part
abbrev pub along_view : {Z : Type 0} → (ℕ → SpecificationTree → List Z) → ℕ → List Specification → List Z
along_view f n ss = along_part f n (map specification_view ss)

pub part_more : {Z : Type 0} (f : ℕ → SpecificationTree → List Z) (ss : List Specification) (i : ℕ) (s : Specification) (n n' : ℕ) (before after whole : List Z)
    → i < length ss → s ≡ get_or ss i s → n' ≡ n + length (declared_in (specification_view s)) → after ≡ before ++ f n (specification_view s)
    → before ++ along_part f n (map specification_view (drop i ss)) ≡ whole → after ++ along_part f n' (map specification_view (drop (i + 1) ss)) ≡ whole
part_more f ss i s n n' before after whole lt is step e h =
    walk_more (λ k x. f k (specification_view x)) (λ k x. k + length (declared_in (specification_view x))) (along_view f) (λ k x xs. refl) ss i s n n' before after whole lt is step e h

pub part_end : {Z : Type 0} (f : ℕ → SpecificationTree → List Z) (ss : List Specification) (i n : ℕ) (before whole : List Z) → length ss ≤ i
    → before ++ along_part f n (map specification_view (drop i ss)) ≡ whole → before ≡ whole
part_end f ss i n before whole le h = walk_end (along_view f) (λ k. refl) ss i n before whole le h

-- the number behind the statements so far
abbrev declared_all : List Specification → ℕ
declared_all ss = length (flat_map declared_in (map specification_view ss))

split_declared : (ss : List Specification) (i : ℕ) (s : Specification) → i < length ss → s ≡ get_or ss i s
    → declared_all (drop i ss) ≡ length (declared_in (specification_view s)) + declared_all (drop (i + 1) ss)
split_declared ss i s lt is =
    at_drop_more declared_all ss i s lt
    ∙ length-append (declared_in (specification_view (get_or ss i s))) (flat_map declared_in (map specification_view (drop (i + 1) ss)))
    ∙ ap (λ x. length (declared_in (specification_view x)) + declared_all (drop (i + 1) ss)) (sym is)

pub declared_more : (ss : List Specification) (i : ℕ) (s : Specification) (n n' whole : ℕ) → i < length ss → s ≡ get_or ss i s → n' ≡ n + length (declared_in (specification_view s))
    → n + length (flat_map declared_in (map specification_view (drop i ss))) ≡ whole → n' + length (flat_map declared_in (map specification_view (drop (i + 1) ss))) ≡ whole
declared_more ss i s n n' whole lt is step h = let cut = split_declared ss i s lt is in omega (arith, cut, step, h)

pub declared_within : (ss : List Specification) (i : ℕ) (s : Specification) (n whole : ℕ) → i < length ss → s ≡ get_or ss i s
    → n + length (flat_map declared_in (map specification_view (drop i ss))) ≡ whole → n + length (declared_in (specification_view s)) ≤ whole
declared_within ss i s n whole lt is h = let cut = split_declared ss i s lt is in omega (arith, cut, h)
