-- How many entities there are.
use Rattle.std.proofs.Common.{◌≡◌, ℕ, ◌+◌, List, [], ◌∷◌, length, map, refl, arith}
use Rattle.std.proofs.lemmas.List.{length-append, length-map}
use Rattle.std.proofs.lemmas.Option.{slice_get_within}
use Rattle.f3_scopes.specs.Outlines.{Scope}
use Rattle.f3_access.specs.Access.{entities_of}
use Rattle.f3_access.proofs.Laws.{visible_declared}
use Rattle.f3_names.specs.Entities.{entity_of, entities_from, VisibleIsEntity}

entities_long : (scopes : List Scope) (number : ℕ) (ss : List Scope) → length (entities_from scopes number ss) ≡ length (entities_of ss)
entities_long scopes number [] = refl
entities_long scopes number (s ∷ ss) =
    let rest = entities_long scopes (number + 1) ss in
    let left = length-append (map (entity_of scopes number s) s.declared) (entities_from scopes (number + 1) ss) in
    let right = length-append s.declared (entities_of ss) in
    let own = length-map s.declared (entity_of scopes number s) in
    omega (arith, rest, left, right, own)

pub visible_entity : VisibleIsEntity
visible_entity scopes number symbol entity visible =
    let found = visible_declared scopes number symbol entity visible in
    let within = slice_get_within (entities_of scopes) entity found.0 found.1 in
    let long = entities_long scopes 0 scopes in
    omega (arith, within, long)
