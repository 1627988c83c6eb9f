-- Holders of what scopes declare.
use Rattle.std.proofs.Common.{◌≡◌, refl, sym, ap, ◌∙◌, ℕ, ◌+◌, ◌<◌, nat_eq, Bool, true, false, ◌||◌, List, ◌++◌, map, length, drop, get_or, Option, None, Some, if◌then◌else◌, append_assoc}
use Rattle.std.specs.Option.{unwrap_or}
use Rattle.std.specs.List.{list_any}
use Rattle.std.proofs.lemmas.List.{at_drop_more}
use Rattle.f3_tree.specs.declared.declaration.Intent.{Intent}
use Rattle.f3_tree.specs.declared.expression.Name.{Name}
use Rattle.f3_scopes.specs.declared.outline.Outline.{Outline}
use Rattle.f3_scopes.specs.Outlines.{Own, Scope, scope_view}
use Rattle.f3_kinds.specs.Things.{map_or}
use Rattle.f3_type_rules.specs.declared.definition.Holder.{Holder}
use Rattle.f3_type_rules.specs.Names.{last_of}
use Rattle.f3_type_rules.specs.Scene.{holder, holders_from}

unit_same : (o : Option ℕ) (n : ℕ) → unwrap_or o n ≡ map_or n (λ h. h) o
unit_same None n = refl
unit_same (Some h) n = refl

either_same : (a b : Bool) → (if a then true else b) ≡ (a || b)
either_same true b = refl
either_same false b = refl

abbrev made : ℕ → ℕ → Bool → Option Intent → Holder
made unit number protected intent = record { unit = unit; scope = number; is_protected = protected; intent = intent }

pub held_same : (number : ℕ) (s : Scope) (d : Own) (unit : ℕ) (protected b : Bool) (i : Option Intent) → unit ≡ unwrap_or s.host number → protected ≡ (if d.is_protected then true else b)
    → b ≡ list_any (λ (n : Name). nat_eq n.symbol (d.name).symbol) s.protects → i ≡ last_of None d.intents
    → record { unit = unit; scope = number; is_protected = protected; intent = i } ≡ holder number s d
held_same number s d unit protected b i e f g h =
    ap (λ u. made u number protected i) (e ∙ unit_same s.host number)
    ∙ ap (λ p. made (map_or number (λ x. x) s.host) number p i) (f ∙ either_same d.is_protected b ∙ ap (λ x. d.is_protected || x) g)
    ∙ ap (made (map_or number (λ x. x) s.host) number (d.is_protected || list_any (λ (n : Name). nat_eq n.symbol (d.name).symbol) s.protects)) h

pub holders_more : (xs : List Outline) (i : ℕ) (x : Outline) (before after whole : List Holder) → i < length xs → x ≡ get_or xs i x
    → after ≡ before ++ map (holder i (scope_view x)) (scope_view x).declared
    → before ++ holders_from i (map scope_view (drop i xs)) ≡ whole → after ++ holders_from (i + 1) (map scope_view (drop (i + 1) xs)) ≡ whole
holders_more xs i x before after whole lt is e h =
    let y = scope_view (get_or xs i x) in
    let rest = holders_from (i + 1) (map scope_view (drop (i + 1) xs)) in
    ap (λ hs. hs ++ rest) (e ∙ ap (λ (z : Outline). before ++ map (holder i (scope_view z)) (scope_view z).declared) is)
    ∙ append_assoc before (map (holder i y) y.declared) rest
    ∙ ap (λ hs. before ++ hs) (sym (at_drop_more (λ ys. holders_from i (map scope_view ys)) xs i x lt)) ∙ h
