-- The names in FINAL, one name more; and the same rows from ranks that are found another way.
use Rattle.std.proofs.Common.{◌≡◌, refl, sym, ap, ◌∙◌, ℕ, ◌+◌, ◌<◌, nat_eq, Bool, true, false, not, ◌&&◌, ◌||◌, List, [], ◌∷◌, ◌++◌, length, drop, get_or, Option, if◌then◌else◌, inl, inr}
use Rattle.std.specs.List.{list_any}
use Rattle.std.proofs.lemmas.List.{at_drop_more}
use Rattle.std.proofs.lemmas.List.Folds.{list_any-append}
use Rattle.std.proofs.lemmas.Bool.Decides.{eqb_tells}
use Rattle.indexmap.specs.IndexSet.{insert_key}
use Rattle.f3_lookups.specs.declared.lookup.Lookup.{Lookup}
use Rattle.f3_rules.specs.declared.breaks.Break.{Break}
use Rattle.f3_rules.specs.declared.rule.Rule.TheVariants.{T4}
use Rattle.f3_scopes.specs.Outlines.{Scope}
use Rattle.f3_tree.specs.declared.expression.Name.{Name}
use Rattle.f3_tree.specs.Tree.{ProcedureTree}
use Rattle.f3_kinds.specs.Calls.{is_new, added}
use Rattle.f3_kinds.specs.Rows.{at_name, unless}
use Rattle.f3_type_rules.specs.Finals.{final_rank, final_rows}
use Rattle.f3_type_rules.specs.Members.{members_from}
use Rattle.f3_type_rules.specs.Names.{Names}
use Rattle.f3_typed_parts.specs.Noted.{noted}
use Rattle.f3_typed_parts.proofs.Noting.{noted_more}
use Rattle.f3_finals.specs.declared.candidate.Candidate.{Candidate}
use Rattle.f3_finals.specs.Candidates.{AreCandidates}
use Rattle.f3_finals.specs.Inner.Looked.{rank_found}
use Rattle.f3_finals.proofs.Ranked.{ranked}

abbrev row : (Name → Option ℕ) → (seen : List ℕ) → (ranks : List ℕ) → Name → List Break
row rank seen ranks n = unless (not (list_any (nat_eq n.symbol) seen) && is_new ranks (rank n)) (at_name 5 T4 n)

module _ (rank : Name → Option ℕ) where
  -- of the names before it matters only which they are
  seen_same : (a b ranks : List ℕ) (ns : List Name) → ((k : ℕ) → list_any (nat_eq k) a ≡ list_any (nat_eq k) b) → final_rows rank a ranks ns ≡ final_rows rank b ranks ns
  seen_same a b ranks [] same = refl
  seen_same a b ranks (n ∷ ns) same =
      ap (λ (x : Bool). unless (not x && is_new ranks (rank n)) (at_name 5 T4 n) ++ final_rows rank (n.symbol ∷ a) (added ranks (rank n)) ns) (same n.symbol)
      ∙ ap (λ l. row rank b ranks n ++ l)
      (seen_same (n.symbol ∷ a) (n.symbol ∷ b) (added ranks (rank n)) ns (λ k. ap (λ (x : Bool). nat_eq k n.symbol || x) (same k)))

either_true : (b : Bool) → b || true ≡ true
either_true true = refl
either_true false = refl

either_false : (b : Bool) → b || false ≡ b
either_false true = refl
either_false false = refl

either_swapped : (a b : Bool) → a || b ≡ b || (a || false)
either_swapped true true = refl
either_swapped true false = refl
either_swapped false true = refl
either_swapped false false = refl

there_already : (k s : ℕ) (xs : List ℕ) → list_any (nat_eq s) xs ≡ true → nat_eq k s || list_any (nat_eq k) xs ≡ list_any (nat_eq k) xs
there_already k s xs h = elim (eqb_tells k s) [
  | inl e ↦
      let t : list_any (nat_eq k) xs ≡ true = ap (λ j. list_any (nat_eq j) xs) e.1 ∙ h in
      ap (λ (x : Bool). nat_eq k s || x) t ∙ either_true (nat_eq k s) ∙ sym t
  | inr e ↦ ap (λ (b : Bool). b || list_any (nat_eq k) xs) e.0
]

inserted : (k s : ℕ) (xs : List ℕ) (b : Bool) → list_any (nat_eq s) xs ≡ b → nat_eq k s || list_any (nat_eq k) xs ≡ list_any (nat_eq k) (if b then xs else xs ++ s ∷ [])
inserted k s xs true h = there_already k s xs h
inserted k s xs false h = either_swapped (nat_eq k s) (list_any (nat_eq k) xs) ∙ sym (list_any-append (nat_eq k) xs (s ∷ []))

-- one name more
pub rows_more : (rank : Name → Option ℕ) (xs : List Name) (i : ℕ) (d : Name) (seen seen' ranks ranks' : List ℕ) (before after whole : Option Break) → i < length xs
    → seen' ≡ insert_key nat_eq seen (get_or xs i d).symbol → after ≡ noted before (row rank seen ranks (get_or xs i d)) → ranks' ≡ added ranks (rank (get_or xs i d))
    → noted before (final_rows rank seen ranks (drop i xs)) ≡ whole → noted after (final_rows rank seen' ranks' (drop (i + 1) xs)) ≡ whole
rows_more rank xs i d seen seen' ranks ranks' before after whole lt s e r h =
    let n = get_or xs i d in
    let rest = drop (i + 1) xs in
    ap (λ a. noted a (final_rows rank seen' ranks' rest)) e
    ∙ ap (λ z. noted (noted before (row rank seen ranks n)) (final_rows rank z ranks' rest)) s
    ∙ ap (λ z. noted (noted before (row rank seen ranks n)) (final_rows rank (insert_key nat_eq seen n.symbol) z rest)) r
    ∙ ap (noted (noted before (row rank seen ranks n)))
    (sym (seen_same rank (n.symbol ∷ seen) (insert_key nat_eq seen n.symbol) (added ranks (rank n)) rest (λ k. inserted k n.symbol seen (list_any (nat_eq n.symbol) seen) refl)))
    ∙ noted_more before (row rank seen ranks n) (final_rows rank (n.symbol ∷ seen) (added ranks (rank n)) rest)
    ∙ ap (noted before) (sym (at_drop_more (final_rows rank seen ranks) xs i d lt))
    ∙ h

rank_same : (a b : Name → Option ℕ) → ((n : Name) → a n ≡ b n) → (seen ranks : List ℕ) (ns : List Name) → final_rows a seen ranks ns ≡ final_rows b seen ranks ns
rank_same a b same seen ranks [] = refl
rank_same a b same seen ranks (n ∷ ns) =
    ap (λ (o : Option ℕ). unless (not (list_any (nat_eq n.symbol) seen) && is_new ranks o) (at_name 5 T4 n) ++ final_rows a (n.symbol ∷ seen) (added ranks o) ns) (same n)
    ∙ ap (λ l. row b seen ranks n ++ l) (rank_same a b same (n.symbol ∷ seen) (added ranks (b n)) ns)

pub rows_same : (names : Names) (look : ℕ → ℕ → Lookup) (scopes : List Scope) (t scope first start : ℕ) (ps : List ProcedureTree) (cs : List (Option Candidate)) (ns : List Name)
    → names.look ≡ look → AreCandidates names (members_from scopes first start ps) cs
    → final_rows (λ (n : Name). rank_found first cs t (look scope n.symbol)) [] [] ns ≡ final_rows (final_rank names scope (members_from scopes first start ps) t) [] [] ns
rows_same names look scopes t scope first start ps cs ns e same =
    rank_same (λ (n : Name). rank_found first cs t (look scope n.symbol)) (final_rank names scope (members_from scopes first start ps) t)
    (λ n. ap (λ (l : ℕ → ℕ → Lookup). rank_found first cs t (l scope n.symbol)) (sym e) ∙ ranked names scopes t first start ps cs (names.look scope n.symbol) same) [] [] ns
