-- Entries of which the first of each name counts, as they are looked up.
use Rattle.std.proofs.Common.{◌≡◌, refl, sym, ap, ◌∙◌, ℕ, ◌+◌, ◌<◌, ◌≤◌, nat_eq, List, [], ◌∷◌, ◌++◌, length, drop, get_or, Option, None, Some, if◌then◌else◌, is_some, cond, Bool, true, false, inl, inr}
use Rattle.std.specs.Option.{option_map}
use Rattle.std.specs.Map.{lookup}
use Rattle.std.proofs.lemmas.Bool.Decides.{eqb_tells}
use Rattle.std.proofs.lemmas.List.{at_drop_more, at_drop_all}
use Rattle.f3_type_rules.specs.Names.{or_else}
use Rattle.f3_natures.specs.Entries.{with_first}
use Rattle.f3_natures.proofs.Looked.{lookup_append}

pub else_none : {X : Type 0} (o : Option X) → or_else o None ≡ o
else_none None = refl
else_none (Some x) = refl

else_assoc : {X : Type 0} (a b c : Option X) → or_else (or_else a b) c ≡ or_else a (or_else b c)
else_assoc None b c = refl
else_assoc (Some x) b c = refl

-- where a name is there already, a second entry of it counts for nothing
stays : {X : Type 0} (k j : ℕ) (x y : X) (es : List (ℕ × X)) → lookup (nat_eq j) es ≡ Some y → lookup (nat_eq k) es ≡ or_else (lookup (nat_eq k) es) (cond (nat_eq k j) (Some x) None)
stays k j x y es e = elim (eqb_tells k j) [
  | inl h ↦ here h.1
  | inr h ↦ sym (ap (λ (b : Bool). or_else (lookup (nat_eq k) es) (cond b (Some x) None)) h.0 ∙ else_none (lookup (nat_eq k) es))
]
  where
    here : k ≡ j → lookup (nat_eq k) es ≡ or_else (lookup (nat_eq k) es) (cond (nat_eq k j) (Some x) None)
    here same =
        let o : lookup (nat_eq k) es ≡ Some y = ap (λ i. lookup (nat_eq i) es) same ∙ e in
        o ∙ sym (ap (λ z. or_else z (cond (nat_eq k j) (Some x) None)) o)

lookup_with : {X : Type 0} (k j : ℕ) (x : X) (es : List (ℕ × X)) (o : Option X) → lookup (nat_eq j) es ≡ o
    → lookup (nat_eq k) (if is_some o then es else es ++ (j, x) ∷ []) ≡ or_else (lookup (nat_eq k) es) (lookup (nat_eq k) ((j, x) ∷ []))
lookup_with k j x es None e = lookup_append k es ((j, x) ∷ [])
lookup_with k j x es (Some y) e = stays k j x y es e

view_else : {X Y : Type 0} (f : X → Y) (a b : Option X) → option_map f (or_else a b) ≡ or_else (option_map f a) (option_map f b)
view_else f None b = refl
view_else f (Some x) b = refl

view_one : {X Y : Type 0} (f : X → Y) (b : Bool) (x : X) → option_map f (cond b (Some x) None) ≡ cond b (Some (f x)) None
view_one f true x = refl
view_one f false x = refl

-- an entry more, as it is seen
pub seen_with : {X Y : Type 0} (f : X → Y) (k j : ℕ) (x : X) (before after : List (ℕ × X)) → after ≡ with_first before j x
    → option_map f (lookup (nat_eq k) after) ≡ or_else (option_map f (lookup (nat_eq k) before)) (lookup (nat_eq k) ((j, f x) ∷ []))
seen_with f k j x before after e =
    ap (λ es. option_map f (lookup (nat_eq k) es)) e
    ∙ ap (option_map f) (lookup_with k j x before (lookup (nat_eq j) before) refl)
    ∙ view_else f (lookup (nat_eq k) before) (lookup (nat_eq k) ((j, x) ∷ []))
    ∙ ap (or_else (option_map f (lookup (nat_eq k) before))) (view_one f (nat_eq k j) x)

-- a loop over items, each of which has entries: one item more
pub looked_more : {X Y : Type 0} (k : ℕ) (one : Y → List (ℕ × X)) (rows : List Y → List (ℕ × X)) → ((y : Y) (ys : List Y) → rows (y ∷ ys) ≡ one y ++ rows ys)
    → (ys : List Y) (i : ℕ) (y : Y) (before after whole : Option X) → i < length ys → y ≡ get_or ys i y
    → after ≡ or_else before (lookup (nat_eq k) (one y))
    → or_else before (lookup (nat_eq k) (rows (drop i ys))) ≡ whole → or_else after (lookup (nat_eq k) (rows (drop (i + 1) ys))) ≡ whole
looked_more k one rows more ys i y before after whole lt is e h =
    let z = get_or ys i y in
    let rest = rows (drop (i + 1) ys) in
    ap (λ o. or_else o (lookup (nat_eq k) rest)) (e ∙ ap (λ x. or_else before (lookup (nat_eq k) (one x))) is)
    ∙ else_assoc before (lookup (nat_eq k) (one z)) (lookup (nat_eq k) rest)
    ∙ ap (or_else before) (sym (at_drop_more (λ xs. lookup (nat_eq k) (rows xs)) ys i y lt ∙ ap (lookup (nat_eq k)) (more z (drop (i + 1) ys)) ∙ lookup_append k (one z) rest))
    ∙ h

-- and at the end
pub looked_all : {X Y : Type 0} (k : ℕ) (rows : List Y → List (ℕ × X)) (ys : List Y) (i : ℕ) (found whole : Option X) → length ys ≤ i → rows [] ≡ []
    → or_else found (lookup (nat_eq k) (rows (drop i ys))) ≡ whole → found ≡ whole
looked_all k rows ys i found whole le none h =
    sym (ap (or_else found) (at_drop_all (λ xs. lookup (nat_eq k) (rows xs)) ys i le ∙ ap (lookup (nat_eq k)) none) ∙ else_none found) ∙ h
