-- Walks over the arguments of a CALL.
use Rattle.std.proofs.Common.{◌≡◌, refl, ℕ, ◌+◌, ◌<◌, ◌≤◌, nat_eq, Bool, true, false, length, drop, get_or, List, [], ◌∷◌, ◌++◌, Option, None, ap, sym, ◌∙◌, if◌then◌else◌}
use Rattle.std.specs.List.{flat_map}
use Rattle.std.proofs.lemmas.Grind.{flat_map-append}
use Rattle.std.specs.Prelude.{slice_get, option_map}
use Rattle.std.proofs.lemmas.List.{at_drop_more}
use Rattle.std.proofs.lemmas.Option.{slice_get_past}
use Rattle.f3_lookups.specs.declared.lookup.Lookup.TheVariants.{One}
use Rattle.f3_access.specs.Tables.{lookup_of}
use Rattle.f3_rules.specs.declared.breaks.Break.{Break}
use Rattle.f3_kinds.specs.declared.said.Has.{Has}
use Rattle.f3_kinds.specs.declared.said.Said.{Said}
use Rattle.f3_kinds.specs.declared.said.Given.{Given}
use Rattle.f3_kinds.specs.declared.things.Dummy.{Dummy}
use Rattle.f3_kinds.specs.declared.things.Thing.{Thing}
use Rattle.f3_kinds.specs.Things.{map_or, at_place_of, Meaning, nothing, entity_or, meaning_by, meaning_of}
use Rattle.f3_kinds.specs.Calls.{place_for}
use Rattle.f3_type_rules.specs.Statements.{two_dummies, has_of, given_at}
use Rattle.f3_type_rules.specs.Definitions.{Site, definition_rows, is_defining, value_given, arguments_defined, call_defined}
use Rattle.f3_typed_parts.specs.declared.known.Known.{Known}
use Rattle.f3_typed_parts.specs.declared.known.Position.{Position}
use Rattle.f3_typed_parts.specs.Known.{context_of, nature_of}
use Rattle.f3_typed_parts.specs.Noted.{noted}
use Rattle.f3_typed_parts.proofs.Noting.{noted_more, noted_none}
use Rattle.f3_acts.specs.Inner.Rows.{value_definition}

-- the values that are given, one by one
pub all_values : (s : Site) (gs : List Given) → flat_map (definition_rows s) (flat_map value_given gs) ≡ flat_map (value_definition s) gs
all_values s [] = refl
all_values s (g ∷ gs) =
    flat_map-append (definition_rows s) (value_given g) (flat_map value_given gs) ∙ ap (λ (bs : List Break). value_definition s g ++ bs) (all_values s gs)

-- the value of an argument, if its dummy is defined
abbrev pub defined_at : List (ℕ × Dummy) → ℕ → Given → List Said
defined_at ds p g = if is_defining (map_or None (at_place_of ds) (place_for ds p g)) then value_given g else []

-- one argument more
pub defined_more : (s : Site) (ds : List (ℕ × Dummy)) (gs : List Given) (p : ℕ) (d : Given) (before after whole : Option Break)
    → p < length gs
    → after ≡ noted before (flat_map (definition_rows s) (defined_at ds p (get_or gs p d)))
    → noted before (flat_map (definition_rows s) (arguments_defined ds p (drop p gs))) ≡ whole
    → noted after (flat_map (definition_rows s) (arguments_defined ds (p + 1) (drop (p + 1) gs))) ≡ whole
defined_more s ds gs p d before after whole lt a h =
    ap (λ (x : Option Break). noted x (flat_map (definition_rows s) rest)) a
    ∙ noted_more before (flat_map (definition_rows s) now) (flat_map (definition_rows s) rest)
    ∙ ap (noted before) (sym (flat_map-append (definition_rows s) now rest))
    ∙ ap (noted before) (sym (ap (flat_map (definition_rows s)) (at_drop_more (λ (xs : List Given). arguments_defined ds p xs) gs p d lt))) ∙ h
  where
    now : List Said
    now = defined_at ds p (get_or gs p d)

    rest : List Said
    rest = arguments_defined ds (p + 1) (drop (p + 1) gs)

-- the argument of MOVE_ALLOC for a place
abbrev pub is_for : ℕ × ℕ → ℕ → ℕ → Given → Bool
is_for names place p g = map_or false (nat_eq place) (place_for (two_dummies names None None) p g)

pub given_step : (names : ℕ × ℕ) (place : ℕ) (gs : List Given) (p : ℕ) (d : Given) → p < length gs
    → given_at names place p (drop p gs) ≡ (if is_for names place p (get_or gs p d) then has_of (get_or gs p d) else given_at names place (p + 1) (drop (p + 1) gs))
given_step names place gs p d lt = at_drop_more (λ (xs : List Given). given_at names place p xs) gs p d lt

pub given_found : (names : ℕ × ℕ) (place : ℕ) (gs : List Given) (p : ℕ) (d : Given) (whole : Option Has) → p < length gs
    → is_for names place p (get_or gs p d) ≡ true → given_at names place p (drop p gs) ≡ whole → has_of (get_or gs p d) ≡ whole
given_found names place gs p d whole lt e h =
    sym (ap (λ (b : Bool). if b then has_of (get_or gs p d) else given_at names place (p + 1) (drop (p + 1) gs)) e) ∙ sym (given_step names place gs p d lt) ∙ h

pub given_more : (names : ℕ × ℕ) (place : ℕ) (gs : List Given) (p : ℕ) (d : Given) (whole : Option Has) → p < length gs
    → is_for names place p (get_or gs p d) ≡ false → given_at names place p (drop p gs) ≡ whole → given_at names place (p + 1) (drop (p + 1) gs) ≡ whole
given_more names place gs p d whole lt e h =
    sym (ap (λ (b : Bool). if b then has_of (get_or gs p d) else given_at names place (p + 1) (drop (p + 1) gs)) e) ∙ sym (given_step names place gs p d lt) ∙ h

-- a CALL of what means nothing defines nothing
pub nothing_defined : (s : Site) (m : Meaning) (gs : List Given) (a : Option Break) → m ≡ nothing → a ≡ noted a (flat_map (definition_rows s) (call_defined m gs))
nothing_defined s m gs a e = sym (noted_none a) ∙ ap (λ (x : Meaning). noted a (flat_map (definition_rows s) (call_defined x gs))) (sym e)

-- a name whose entity is not listed means nothing
pub nothing_at : (known : Known) (at : Position) (symbol e : ℕ) (things : List Thing) → things ≡ known.things.items → length things ≤ e → One e ≡ lookup_of known.tables.now at.scope symbol
    → meaning_of (context_of known at) symbol ≡ nothing
nothing_at known at symbol e things t le l =
    ap (meaning_by (context_of known at) symbol) (sym l)
    ∙ ap (λ (xs : List Thing). entity_or e (option_map nature_of (slice_get xs e))) (sym t)
    ∙ ap (λ (o : Option Thing). entity_or e (option_map nature_of o)) (slice_get_past things e le)
