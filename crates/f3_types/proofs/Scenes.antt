-- What is known of a program before its declarations is what its scene has.
use Rattle.std.proofs.Common.{◌≡◌, ℕ, zero, suc, ◌<◌, ◌^◌, Bool, List, [], ◌∷◌, Option, None, length, slice_get, replicate, refl, ap, ◌∙◌, arith}
use Rattle.std.specs.Global.{Vec}
use Rattle.f3_lookups.specs.declared.lookup.Lookup.{Lookup}
use Rattle.f3_scopes.specs.Outlines.{Scope}
use Rattle.f3_scopes.specs.Scopes.{scopes_of}
use Rattle.f3_tree.specs.Tree.{Tree}
use Rattle.f3_kinds.specs.Things.{map_or, Nature, constant, variable, derived, subroutine, function}
use Rattle.f3_type_rules.specs.declared.definition.Holder.{Holder}
use Rattle.f3_type_rules.specs.Names.{Names}
use Rattle.f3_type_rules.specs.Natures.{marked, rounds, settled}
use Rattle.f3_type_rules.specs.Scene.{Scene, holders_from, names_of}
use Rattle.f3_natures.specs.Natures.{natures_of}
use Rattle.f3_types.specs.Parts.{scene_in}

-- ---- scenes

abbrev scene_made : Names → List Nature → List Holder → Scene
scene_made names natures holders = record { names = names; natures = natures; holders = holders }

scene_same : {a b : Names} {ns ms : List Nature} {hs gs : List Holder} → a ≡ b → ns ≡ ms → hs ≡ gs → scene_made a ns hs ≡ scene_made b ms gs
scene_same e1 e2 e3 = cc

pub staged : (t : Tree) (look : ℕ → ℕ → Lookup) (names : Names) (natures : List Nature) (scopes : List Scope) (holders : List Holder) → names ≡ names_of t look
    → natures ≡ settled (natures_of names t) → scopes ≡ scopes_of t → holders ≡ holders_from 0 scopes → scene_made names natures holders ≡ scene_in t look
staged t look names natures scopes holders names_are natures_are same holders_are =
    scene_same names_are (natures_are ∙ ap (λ n. settled (natures_of n t)) names_are) (holders_are ∙ ap (holders_from 0) same)

-- ---- of nothing is something known

pub none_at : {X : Type 0} (n e : ℕ) → map_or None (λ (x : Option X). x) (slice_get (replicate n None) e) ≡ None
none_at zero e = refl
none_at (suc n) zero = refl
none_at (suc n) (suc e) = none_at n e

-- ---- counts

-- a vector has less elements than there are addresses
pub short : {X : Type 0} (v : Vec X) → length v.items < 2 ^ 64
short v = omega (arith, v.ok.0, v.ok.1, v.small)

-- marks leave as many natures as there are
marked_long : (fs : List Bool) (ns : List Nature) → length (marked fs ns) ≡ length ns
marked_long [] [] = refl
marked_long [] (n ∷ ns) = refl
marked_long (f ∷ fs) [] = refl
marked_long (f ∷ fs) (constant o ∷ ns) = ap suc (marked_long fs ns)
marked_long (f ∷ fs) (variable o ∷ ns) = ap suc (marked_long fs ns)
marked_long (f ∷ fs) (derived home ks own ∷ ns) = ap suc (marked_long fs ns)
marked_long (f ∷ fs) (subroutine pure ds ∷ ns) = ap suc (marked_long fs ns)
marked_long (f ∷ fs) (function pure ds o ∷ ns) = ap suc (marked_long fs ns)

pub settled_long : (ns : List Nature) → length (settled ns) ≡ length ns
settled_long ns = marked_long (rounds ns (length ns) []) ns
