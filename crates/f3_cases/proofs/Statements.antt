-- The values of CASE statements in memory, and those of the tree.
use Rattle.std.proofs.Common.{◌≡◌, refl, ℕ, ◌+◌, ◌<◌, ◌≤◌, length, drop, get_or, map, Bool, true, false, not, Option, List, [], ◌∷◌, ◌++◌, ap, ◌∙◌, sym, append_assoc}
use Rattle.std.specs.Global.{Vec}
use Rattle.std.specs.List.{flat_map, list_any}
use Rattle.std.proofs.lemmas.List.{at_drop_more, at_drop_all, append-nil, map-append}
use Rattle.std.proofs.lemmas.List.Concat.{flat_map-append}
use Rattle.f3_places.specs.declared.source.Place.{Place}
use Rattle.f3_rules.specs.declared.rule.Rule.TheVariants.{T11}
use Rattle.f3_rules.specs.declared.breaks.Break.{Break}
use Rattle.f3_tree.specs.declared.statement.CaseValue.{CaseValue}
use Rattle.f3_tree.specs.declared.statement.Selector.{Selector}
use Rattle.f3_tree.specs.declared.statement.Selector.TheVariants as selector
use Rattle.f3_tree.specs.declared.statement.Statement.{Statement}
use Rattle.f3_tree.specs.Expressions.{Tree}
use Rattle.f3_tree.specs.Statements.{CaseTree, case_view, selector_view}
use Rattle.f3_scopes.specs.Blocks.{cases_view}
use Rattle.f3_kinds.specs.declared.types.DataType.{DataType}
use Rattle.f3_kinds.specs.declared.types.Wanted.TheVariants as wanted
use Rattle.f3_kinds.specs.declared.said.Said.{Said}
use Rattle.f3_kinds.specs.Things.{Context}
use Rattle.f3_kinds.specs.Rows.{at_place, unless, scalar_rows}
use Rattle.f3_kinds.specs.Typing.{said, breaks}
use Rattle.f3_type_rules.specs.Cases.{Span, meets, span_of, case_place, case_rows, overlap_rows, values_of, all_values, defaults_in, defaults, default_rows, selected_type, select_breaks}
use Rattle.f3_typed_parts.specs.Noted.{noted}
use Rattle.f3_typed_parts.proofs.Noting.{noted_more}
use Rattle.f3_cases.specs.declared.spans.Held.{Held}
use Rattle.f3_cases.specs.Inner.Spans.{held_view, held_value, value_rows, overlaps}
use Rattle.f3_cases.specs.Inner.Blocks.{chosen_held, chosen_rows, next_seen, default_row}

-- ---- a loop that appends what it makes of each item

pub appended_more : {X Y : Type 0} (f : X → List Y) (xs : List X) (i : ℕ) (x : X) (ys ys' whole : List Y) → i < length xs → x ≡ get_or xs i x → ys' ≡ ys ++ f x
    → ys ++ flat_map f (drop i xs) ≡ whole → ys' ++ flat_map f (drop (i + 1) xs) ≡ whole
appended_more f xs i x ys ys' whole lt is e h =
    ap (λ zs. zs ++ flat_map f (drop (i + 1) xs)) e
    ∙ append_assoc ys (f x) (flat_map f (drop (i + 1) xs))
    ∙ ap (λ zs. ys ++ zs) (sym (at_drop_more (flat_map f) xs i x lt ∙ ap (λ z. f z ++ flat_map f (drop (i + 1) xs)) (sym is)))
    ∙ h

pub appended_done : {X Y : Type 0} (f : X → List Y) (xs : List X) (i : ℕ) (ys whole : List Y) → length xs ≤ i → ys ++ flat_map f (drop i xs) ≡ whole → ys ≡ whole
appended_done f xs i ys whole le h = sym (append-nil ys) ∙ ap (λ zs. ys ++ zs) (sym (at_drop_all (flat_map f) xs i le)) ∙ h

-- ---- values

abbrev pub Case : Type 0
Case = Place × Selector × Vec Statement

abbrev held_tree : Context → Option DataType → CaseTree → Span × Place
held_tree c t v = (span_of c t v, case_place c v)

values_held : (c : Context) (t : Option DataType) (vs : List CaseValue) → map (held_value c t) vs ≡ map (held_tree c t) (map case_view vs)
values_held c t [] = refl
values_held c t (v ∷ vs) = ap (λ (hs : List (Span × Place)). held_value c t v ∷ hs) (values_held c t vs)

values_rows : (c : Context) (t : Option DataType) (vs : List CaseValue) → flat_map (value_rows c t) vs ≡ flat_map (case_rows c t) (map case_view vs)
values_rows c t [] = refl
values_rows c t (v ∷ vs) = ap (λ (bs : List Break). value_rows c t v ++ bs) (values_rows c t vs)

one_held : (c : Context) (t : Option DataType) (s : Selector) → chosen_held c t s ≡ map (held_tree c t) (values_of (selector_view s))
one_held c t (selector.Values vs) = values_held c t vs.items
one_held c t selector.Default = refl

one_rows : (c : Context) (t : Option DataType) (s : Selector) → chosen_rows c t s ≡ flat_map (case_rows c t) (values_of (selector_view s))
one_rows c t (selector.Values vs) = values_rows c t vs.items
one_rows c t selector.Default = refl

held_same : (c : Context) (t : Option DataType) (cs : List Case) → flat_map (λ (x : Case). chosen_held c t x.1) cs ≡ map (held_tree c t) (all_values (cases_view cs))
held_same c t [] = refl
held_same c t (x ∷ xs) =
    ap (λ (hs : List (Span × Place)). hs ++ flat_map (λ (y : Case). chosen_held c t y.1) xs) (one_held c t x.1)
    ∙ ap (λ (hs : List (Span × Place)). map (held_tree c t) (values_of (selector_view x.1)) ++ hs) (held_same c t xs)
    ∙ sym (map-append (held_tree c t) (values_of (selector_view x.1)) (all_values (cases_view xs)))

rows_same : (c : Context) (t : Option DataType) (cs : List Case) → flat_map (λ (x : Case). chosen_rows c t x.1) cs ≡ flat_map (case_rows c t) (all_values (cases_view cs))
rows_same c t [] = refl
rows_same c t (x ∷ xs) =
    ap (λ (bs : List Break). bs ++ flat_map (λ (y : Case). chosen_rows c t y.1) xs) (one_rows c t x.1)
    ∙ ap (λ (bs : List Break). flat_map (case_rows c t) (values_of (selector_view x.1)) ++ bs) (rows_same c t xs)
    ∙ sym (flat_map-append (case_rows c t) (values_of (selector_view x.1)) (all_values (cases_view xs)))

overlaps_same : (c : Context) (t : Option DataType) (spans : List Span) (vs : List CaseTree) → overlaps spans (map (held_tree c t) vs) ≡ overlap_rows c t spans vs
overlaps_same c t spans [] = refl
overlaps_same c t spans (v ∷ vs) = ap (λ (bs : List Break). unless (not (list_any (meets (span_of c t v)) spans)) (at_place 6 T11 (case_place c v)) ++ bs) (overlaps_same c t (span_of c t v ∷ spans) vs)

-- ---- DEFAULT

abbrev pub defaults_from : Bool → List Case → List Break
defaults_from seen [] = []
defaults_from seen (x ∷ xs) = default_row seen x.0 x.1 ++ defaults_from (next_seen seen x.1) xs

rest_of_case : (p : Place) (s : Selector) (cs : List Case) (ps : List Place) → defaults_from true cs ≡ map (at_place 6 T11) ps
    → default_row true p s ++ defaults_from (next_seen true s) cs ≡ map (at_place 6 T11) (defaults_in p (selector_view s) ++ ps)
rest_of_case p (selector.Values vs) cs ps h = h
rest_of_case p selector.Default cs ps h = ap (λ (bs : List Break). at_place 6 T11 p ∷ bs) h

first_of_case : (p : Place) (s : Selector) (cs : List Case) (ps : List Place) → defaults_from false cs ≡ default_rows ps → defaults_from true cs ≡ map (at_place 6 T11) ps
    → default_row false p s ++ defaults_from (next_seen false s) cs ≡ default_rows (defaults_in p (selector_view s) ++ ps)
first_of_case p (selector.Values vs) cs ps h k = h
first_of_case p selector.Default cs ps h k = k

defaults_rest : (cs : List Case) → defaults_from true cs ≡ map (at_place 6 T11) (defaults (cases_view cs))
defaults_rest [] = refl
defaults_rest (x ∷ xs) = rest_of_case x.0 x.1 xs (defaults (cases_view xs)) (defaults_rest xs)

pub defaults_same : (cs : List Case) → defaults_from false cs ≡ default_rows (defaults (cases_view cs))
defaults_same [] = refl
defaults_same (x ∷ xs) = first_of_case x.0 x.1 xs (defaults (cases_view xs)) (defaults_same xs) (defaults_rest xs)

pub defaults_more : (cs : List Case) (i : ℕ) (x : Case) (seen : Bool) (before after whole : Option Break) (next : Bool) → i < length cs → x ≡ get_or cs i x → next ≡ next_seen seen x.1
    → after ≡ noted before (default_row seen x.0 x.1)
    → noted before (defaults_from seen (drop i cs)) ≡ whole → noted after (defaults_from next (drop (i + 1) cs)) ≡ whole
defaults_more cs i x seen before after whole next lt is n e h =
    ap (λ t. noted after (defaults_from t (drop (i + 1) cs))) n
    ∙ ap (λ a. noted a (defaults_from (next_seen seen x.1) (drop (i + 1) cs))) e
    ∙ noted_more before (default_row seen x.0 x.1) (defaults_from (next_seen seen x.1) (drop (i + 1) cs))
    ∙ sym (at_drop_more (λ xs. noted before (defaults_from seen xs)) cs i x lt ∙ ap (λ (z : Case). noted before (defaults_from seen (z ∷ drop (i + 1) cs))) (sym is))
    ∙ h

-- ---- the whole statement

select_noted : (c : Context) (e : Tree) (cs : List Case) (held : List (Span × Place)) (a b1 b2 b3 b4 b5 : Option Break) → b1 ≡ noted a (breaks c e) → b2 ≡ noted b1 (scalar_rows wanted.Intrinsic (said c e))
    → b3 ≡ noted b2 (flat_map (λ (x : Case). chosen_rows c (selected_type (said c e)) x.1) cs) → held ≡ flat_map (λ (x : Case). chosen_held c (selected_type (said c e)) x.1) cs
    → b4 ≡ noted b3 (overlaps [] held) → b5 ≡ noted b4 (default_rows (defaults (cases_view cs))) → b5 ≡ noted a (select_breaks c e (cases_view cs))
select_noted c e cs held a b1 b2 b3 b4 b5 e1 e2 e3 h e4 e5 =
    let t : Option DataType = selected_type (said c e) in
    let rows : List Break = flat_map (case_rows c t) (all_values (cases_view cs)) in
    let meeting : List Break = overlap_rows c t [] (all_values (cases_view cs)) in
    let others : List Break = default_rows (defaults (cases_view cs)) in
    let f3 : b3 ≡ noted b2 rows = e3 ∙ ap (noted b2) (rows_same c t cs) in
    let f4 : b4 ≡ noted b3 meeting = e4 ∙ ap (λ hs. noted b3 (overlaps [] hs)) (h ∙ held_same c t cs) ∙ ap (noted b3) (overlaps_same c t [] (all_values (cases_view cs))) in
    e5
    ∙ ap (λ b. noted b others) f4 ∙ noted_more b3 meeting others
    ∙ ap (λ b. noted b (meeting ++ others)) f3 ∙ noted_more b2 rows (meeting ++ others)
    ∙ ap (λ b. noted b (rows ++ (meeting ++ others))) e2 ∙ noted_more b1 (scalar_rows wanted.Intrinsic (said c e)) (rows ++ (meeting ++ others))
    ∙ ap (λ b. noted b (scalar_rows wanted.Intrinsic (said c e) ++ (rows ++ (meeting ++ others)))) e1 ∙ noted_more a (breaks c e) (scalar_rows wanted.Intrinsic (said c e) ++ (rows ++ (meeting ++ others)))

-- the same of what lies in memory
pub select_stored : (c : Context) (e : Tree) (cs : List Case) (s : Said) (t : Option DataType) (xs ys : List Held) (a b1 b2 b3 b4 b5 : Option Break) → s ≡ said c e → t ≡ selected_type s
    → b1 ≡ noted a (breaks c e) → b2 ≡ noted b1 (scalar_rows wanted.Intrinsic s) → b3 ≡ noted b2 (flat_map (λ (x : Case). chosen_rows c t x.1) cs)
    → map held_view xs ≡ flat_map (λ (x : Case). chosen_held c t x.1) cs → ys ≡ xs → b4 ≡ noted b3 (overlaps [] (map held_view ys))
    → b5 ≡ noted b4 (default_rows (defaults (cases_view cs))) → b5 ≡ noted a (select_breaks c e (cases_view cs))
select_stored c e cs s t xs ys a b1 b2 b3 b4 b5 is type e1 e2 e3 h same e4 e5 =
    let f : t ≡ selected_type (said c e) = type ∙ ap selected_type is in
    select_noted c e cs (map held_view ys) a b1 b2 b3 b4 b5 e1
    (e2 ∙ ap (λ (x : Said). noted b1 (scalar_rows wanted.Intrinsic x)) is)
    (e3 ∙ ap (λ (x : Option DataType). noted b2 (flat_map (λ (y : Case). chosen_rows c x y.1) cs)) f)
    (ap (map held_view) same ∙ h ∙ ap (λ (x : Option DataType). flat_map (λ (y : Case). chosen_held c x y.1) cs) f)
    e4 e5
