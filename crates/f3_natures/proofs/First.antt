-- Entries of which the first of each name counts.
use Rattle.std.proofs.Common.{◌≡◌, refl, ap, sym, ◌∙◌, ℕ, ◌+◌, ◌<◌, List, [], ◌∷◌, ◌++◌, length, drop, get_or, nat_eq, Option, None, is_some, if◌then◌else◌}
use Rattle.indexmap.specs.IndexMap.{IndexMap, get, insert_entry}
use Rattle.indexmap.proofs.CallerLemmas.{insert_entry-new}
use Rattle.std.proofs.lemmas.List.{at_drop_more}
use Rattle.f3_natures.specs.Entries.{with_first, firsts_after}

pub firsts_append : {X : Type 0} (es xs ys : List (ℕ × X)) → firsts_after es (xs ++ ys) ≡ firsts_after (firsts_after es xs) ys
firsts_append es [] ys = refl
firsts_append es (x ∷ xs) ys = firsts_append (with_first es x.0 x.1) xs ys

-- a loop over items, each of which has entries: one item more
pub entries_step : {Y X : Type 0} (f : Y → List (ℕ × X)) (rows : List Y → List (ℕ × X)) → ((y : Y) (ys : List Y) → rows (y ∷ ys) ≡ f y ++ rows ys)
    → (ys : List Y) (i : ℕ) (y : Y) (before after whole : List (ℕ × X)) → i < length ys → y ≡ get_or ys i y
    → after ≡ firsts_after before (f y)
    → firsts_after before (rows (drop i ys)) ≡ whole → firsts_after after (rows (drop (i + 1) ys)) ≡ whole
entries_step f rows more ys i y before after whole lt is e h =
    ap (λ es. firsts_after es (rows (drop (i + 1) ys))) (e ∙ ap (λ z. firsts_after before (f z)) is)
    ∙ sym (firsts_append before (f (get_or ys i y)) (rows (drop (i + 1) ys)))
    ∙ ap (firsts_after before) (sym (at_drop_more rows ys i y lt ∙ more (get_or ys i y) (drop (i + 1) ys))) ∙ h

pub inserted : {X S : Type 0} (m : IndexMap ℕ X S) (k : ℕ) (x : X) (after : List (ℕ × X)) → None ≡ get nat_eq m k → after ≡ insert_entry nat_eq m.entries k x → after ≡ with_first m.entries k x
inserted {X = X} m k x after none e =
    e ∙ insert_entry-new nat_eq m k x (sym none)
    ∙ ap (λ (o : Option X). if is_some o then m.entries else m.entries ++ (k, x) ∷ []) none
