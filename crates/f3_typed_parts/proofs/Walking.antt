-- A walk along the parts of a designator: one part more.
use Rattle.std.proofs.Common.{◌≡◌, refl, ℕ, ◌+◌, ◌-◌, ◌<◌, ◌&&◌, inl, inr, nat_eq, length, map, drop, get_or, List, [], ◌∷◌, ◌++◌, Bool, Option, ap, sym, ◌∙◌, arith}
use Rattle.std.specs.List.{list_all}
use Rattle.std.proofs.lemmas.Bool.{ne_eqb}
use Rattle.std.proofs.lemmas.Bool.Decides.{eqb_tells}
use Rattle.std.proofs.lemmas.List.Folds.{list_all-map}
use Rattle.std.proofs.lemmas.List.{at_drop_more, length-drop}
use Rattle.f3_rules.specs.declared.breaks.Break.{Break}
use Rattle.f3_kinds.specs.declared.said.Reach.{Reach}
use Rattle.f3_kinds.specs.declared.said.Role.{Role}
use Rattle.f3_kinds.specs.Things.{Context}
use Rattle.f3_kinds.specs.Designators.{Part, are_typed, parts_typed, is_allocation, is_last, step, step_rows, along, along_rows}
use Rattle.f3_typed_parts.specs.declared.known.Part.{Part as Described}
use Rattle.f3_typed_parts.specs.Known.{part_of}
use Rattle.f3_typed_parts.specs.Noted.{noted}
use Rattle.f3_typed_parts.proofs.Noting.{noted_more}

ends : (ps : List Described) → is_last (map part_of ps) ≡ nat_eq (length ps) 0
ends [] = refl
ends (p ∷ ps) = sym (ne_eqb (length (p ∷ ps)) 0 (λ e. omega (arith, e)))

same_answer : (a b c d : ℕ) → (a ≡ b → c ≡ d) → (c ≡ d → a ≡ b) → nat_eq a b ≡ nat_eq c d
same_answer a b c d to from = elim (eqb_tells a b) [
  | inl h ↦ elim (eqb_tells c d) [ inl k ↦ h.0 ∙ sym k.0 | inr k ↦ absurd (k.1 (to h.1)) ]
  | inr h ↦ h.0 ∙ sym (ne_eqb c d (λ e. h.1 (from e)))
]

pub last_at : (ps : List Described) (i : ℕ) → i < length ps → is_last (map part_of (drop (i + 1) ps)) ≡ nat_eq (length ps) (i + 1)
last_at ps i lt =
    let e : length (drop (i + 1) ps) ≡ length ps - (i + 1) = length-drop (i + 1) ps in
    ends (drop (i + 1) ps) ∙ same_answer (length (drop (i + 1) ps)) 0 (length ps) (i + 1) (λ f. omega (arith, e, f)) (λ f. omega (arith, e, f))

pub along_more : (c : Context) (u : Role) (ps : List Described) (i : ℕ) (d : Described) (r : Option Reach) → i < length ps
    → along c u (map part_of (drop i ps)) r ≡ along c u (map part_of (drop (i + 1) ps)) (step c (is_allocation u && nat_eq (length ps) (i + 1)) (part_of (get_or ps i d)) r)
along_more c u ps i d r lt =
    at_drop_more (λ qs. along c u (map part_of qs) r) ps i d lt
    ∙ ap (λ (b : Bool). along c u (map part_of (drop (i + 1) ps)) (step c (is_allocation u && b) (part_of (get_or ps i d)) r)) (last_at ps i lt)

pub along_rows_more : (c : Context) (u : Role) (ps : List Described) (i : ℕ) (d : Described) (r : Option Reach) → i < length ps
    → along_rows c u (map part_of (drop i ps)) r
    ≡ step_rows c (is_allocation u && nat_eq (length ps) (i + 1)) (part_of (get_or ps i d)) r
    ++ along_rows c u (map part_of (drop (i + 1) ps)) (step c (is_allocation u && nat_eq (length ps) (i + 1)) (part_of (get_or ps i d)) r)
along_rows_more c u ps i d r lt =
    at_drop_more (λ qs. along_rows c u (map part_of qs) r) ps i d lt
    ∙ ap (λ (b : Bool). step_rows c (is_allocation u && b) (part_of (get_or ps i d)) r ++ along_rows c u (map part_of (drop (i + 1) ps)) (step c (is_allocation u && b) (part_of (get_or ps i d)) r)) (last_at ps i lt)

-- a step of the walk in the code
pub reached_more : (c : Context) (u : Role) (ps : List Described) (i : ℕ) (p : Described) (r r' whole : Option Reach) (bounds : Bool) → i < length ps → p ≡ get_or ps i p
    → bounds ≡ (is_allocation u && nat_eq (length ps) (i + 1)) → r' ≡ step c bounds (part_of p) r
    → along c u (map part_of (drop i ps)) r ≡ whole
    → along c u (map part_of (drop (i + 1) ps)) r' ≡ whole
reached_more c u ps i p r r' whole bounds lt is b e h =
    ap (λ x. along c u (map part_of (drop (i + 1) ps)) x) (e ∙ ap (λ x. step c x (part_of p) r) b ∙ ap (λ q. step c (is_allocation u && nat_eq (length ps) (i + 1)) (part_of q) r) is)
    ∙ sym (along_more c u ps i p r lt) ∙ h

pub rows_more : (c : Context) (u : Role) (ps : List Described) (i : ℕ) (p : Described) (r r' : Option Reach) (bounds : Bool) (before after whole : Option Break) → i < length ps → p ≡ get_or ps i p
    → bounds ≡ (is_allocation u && nat_eq (length ps) (i + 1)) → r' ≡ step c bounds (part_of p) r → after ≡ noted before (step_rows c bounds (part_of p) r)
    → noted before (along_rows c u (map part_of (drop i ps)) r) ≡ whole
    → noted after (along_rows c u (map part_of (drop (i + 1) ps)) r') ≡ whole
rows_more c u ps i p r r' bounds before after whole lt is b e n h =
    ap (λ x. noted after (along_rows c u (map part_of (drop (i + 1) ps)) x)) (e ∙ ap (λ x. step c x (part_of p) r) b ∙ ap (λ q. step c last (part_of q) r) is)
    ∙ ap (λ x. noted x rest) (n ∙ ap (λ x. noted before (step_rows c x (part_of p) r)) b ∙ ap (λ q. noted before (step_rows c last (part_of q) r)) is)
    ∙ noted_more before (step_rows c last (part_of (get_or ps i p)) r) rest
    ∙ ap (noted before) (sym (along_rows_more c u ps i p r lt)) ∙ h
  where
    last : Bool
    last = is_allocation u && nat_eq (length ps) (i + 1)

    rest : List Break
    rest = along_rows c u (map part_of (drop (i + 1) ps)) (step c last (part_of (get_or ps i p)) r)

-- all that is given
pub typed_all : (ps : List Described) → list_all (λ (p : Described). are_typed (part_of p).1) ps ≡ parts_typed (map part_of ps)
typed_all ps = sym (list_all-map (λ (p : Part). are_typed p.1) part_of ps)
