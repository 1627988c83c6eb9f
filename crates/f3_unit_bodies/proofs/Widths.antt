-- How many scopes bodies make, counted along units.
use Rattle.std.proofs.Common.{◌≡◌, ◌+◌, ◌++◌, ℕ, List, [], ◌∷◌, length, refl, arith}
use Rattle.std.proofs.lemmas.List.{length-append}
use Rattle.f3_scopes.specs.Scopes.{unit_scopes, scopes_from}
use Rattle.f3_tree.specs.Tree.{ProcedureTree, UnitTree}
use Rattle.f3_type_rules.specs.Associates.{constructs_of_block}
use Rattle.f3_natures.specs.Walk.{end_of, unit_end}
use Rattle.f3_natures.proofs.Standing.{units_ends}
use Rattle.f3_unit_bodies.specs.Bodies.{widths, unit_width, unit_widths}

end_widths : (n : ℕ) (ps : List ProcedureTree) → end_of n ps ≡ n + widths ps
end_widths n [] = omega arith
end_widths n (p ∷ ps) =
    let c : ℕ = length (constructs_of_block p.body) in
    let rest : end_of (n + 1 + c) ps ≡ n + 1 + c + widths ps = end_widths (n + 1 + c) ps in
    omega (arith, rest)

pub unit_wide : (n : ℕ) (u : UnitTree) → unit_width u ≡ length (unit_scopes n u)
unit_wide n u =
    let c : ℕ = length (constructs_of_block u.body) in
    let e : unit_end n u ≡ n + length (unit_scopes n u ++ []) = units_ends n (u ∷ []) in
    let w : end_of (n + 1 + c) u.procedures ≡ n + 1 + c + widths u.procedures = end_widths (n + 1 + c) u.procedures in
    let l = length-append (unit_scopes n u) [] in
    omega (arith, e, w, l)

pub units_wide : (n : ℕ) (us : List UnitTree) → unit_widths us ≡ length (scopes_from n us)
units_wide n [] = refl
units_wide n (u ∷ us) =
    let k : ℕ = n + length (unit_scopes n u) in
    let first : unit_width u ≡ length (unit_scopes n u) = unit_wide n u in
    let rest : unit_widths us ≡ length (scopes_from k us) = units_wide k us in
    let l = length-append (unit_scopes n u) (scopes_from k us) in
    omega (arith, first, rest, l)
