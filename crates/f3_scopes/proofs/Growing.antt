-- Outlines that are added one behind another, each part numbered from the end of those before.
use Rattle.std.proofs.Common.{◌≡◌, ◌<◌, ◌≤◌, ◌+◌, ℕ, List, ◌∷◌, ◌++◌, length, map, drop, get_or, [], sym, ap, ◌∙◌, append-nil, append_assoc}
use Rattle.std.proofs.lemmas.List.{length-map, length-append, map-append, at_drop_all, at_drop_more}
use Rattle.f3_tree.specs.declared.expression.Name.{Name}
use Rattle.f3_tree.specs.Statements.{Block}
use Rattle.f3_scopes.specs.declared.outline.Outline.{Outline}
use Rattle.f3_scopes.specs.Outlines.{Scope, scope_view}
use Rattle.f3_scopes.specs.Scopes.{constructs_in_block}

pub grown : (before after : List Outline) (added : List Scope) → map scope_view after ≡ map scope_view before ++ added → length after ≡ length before + length added
grown before after added e =
    sym (length-map after scope_view) ∙ ap length e ∙ length-append (map scope_view before) added ∙ ap (λ n. n + length added) (length-map before scope_view)

-- two parts, the second numbered behind the first
pub joined : (before between after : List Outline) (first : List Scope) (second : ℕ → List Scope)
    → map scope_view between ≡ map scope_view before ++ first
    → map scope_view after ≡ map scope_view between ++ second (length between)
    → map scope_view after ≡ map scope_view before ++ (first ++ second (length before + length first))
joined before between after first second e f =
    f
    ∙ ap (λ n. map scope_view between ++ second n) (grown before between first e)
    ∙ ap (λ ss. ss ++ second (length before + length first)) e
    ∙ append_assoc (map scope_view before) first (second (length before + length first))

pub pushed : (before between : List Outline) (o : Outline) (s : Scope) → between ≡ before ++ o ∷ [] → scope_view o ≡ s → map scope_view between ≡ map scope_view before ++ s ∷ []
pushed before between o s e view =
    ap (map scope_view) e ∙ map-append scope_view before (o ∷ []) ∙ ap (λ x. map scope_view before ++ x ∷ []) view

-- a construct, and those of its block behind it
pub begun : (before between : List Outline) (o : Outline) (s : Scope) (host : ℕ) (name around : Name) (b body : Block)
    → between ≡ before ++ o ∷ [] → scope_view o ≡ s → host ≡ length before → name ≡ around → b ≡ body
    → map scope_view between ++ constructs_in_block host name (length between) b
    ≡ map scope_view before ++ s ∷ constructs_in_block (length before) around (length before + 1) body
begun before between o s host name around b body e view number same held =
    rw (grown before between (s ∷ []) (pushed before between o s e view), pushed before between o s e view, number, same, held)
    (append_assoc (map scope_view before) (s ∷ []) (constructs_in_block (length before) around (length before + 1) body))

-- a loop over items, each of which has scopes: one item more
module _ {X : Type 0} (first : ℕ → X → List Scope) (from : ℕ → List X → List Scope)
    (more : (n : ℕ) (x : X) (xs : List X) → from n (x ∷ xs) ≡ first n x ++ from (n + length (first n x)) xs) where
  pub step : (xs : List X) (i : ℕ) (d : X) (before after : List Outline) (whole : List Scope) → i < length xs
      → map scope_view after ≡ map scope_view before ++ first (length before) (get_or xs i d)
      → map scope_view before ++ from (length before) (drop i xs) ≡ whole
      → map scope_view after ++ from (length after) (drop (i + 1) xs) ≡ whole
  step xs i d before after whole lt e h =
      ap (λ n. map scope_view after ++ from n (drop (i + 1) xs)) (grown before after (first (length before) (get_or xs i d)) e)
      ∙ ap (λ ss. ss ++ from (length before + length (first (length before) (get_or xs i d))) (drop (i + 1) xs)) e
      ∙ append_assoc (map scope_view before) (first (length before) (get_or xs i d)) (from (length before + length (first (length before) (get_or xs i d))) (drop (i + 1) xs))
      ∙ ap (λ ss. map scope_view before ++ ss) (sym (more (length before) (get_or xs i d) (drop (i + 1) xs)))
      ∙ ap (λ ss. map scope_view before ++ ss) (sym (at_drop_more (λ ys. from (length before) ys) xs i d lt))
      ∙ h

-- the end of such a loop
pub stepped_whole : {X : Type 0} (from : ℕ → List X → List Scope) → ((n : ℕ) → from n [] ≡ []) → (xs : List X) (i : ℕ) (before : List Outline) (whole : List Scope)
    → length xs ≤ i → map scope_view before ++ from (length before) (drop i xs) ≡ whole → map scope_view before ≡ whole
stepped_whole from none xs i before whole le h =
    sym (ap (λ ss. map scope_view before ++ ss) (at_drop_all (λ ys. from (length before) ys) xs i le ∙ none (length before)) ∙ append-nil (map scope_view before)) ∙ h
