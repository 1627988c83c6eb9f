-- The scope behind those of procedures.
use Rattle.std.proofs.Common.{◌≡◌, refl, sym, ap, ◌∙◌, ℕ, ◌+◌, List, [], ◌∷◌, length, arith}
use Rattle.std.proofs.lemmas.List.{length-append}
use Rattle.f3_scopes.specs.Scopes.{procedure_scopes, procedures_from, own_scopes, unit_scopes}
use Rattle.f3_tree.specs.Tree.{ProcedureTree, UnitTree}
use Rattle.f3_natures.specs.Walk.{count_of, end_of}
use Rattle.f3_natures.proofs.Owned.{as_many}
use Rattle.f3_finals.specs.Candidates.{behind_procedures}

pub behind_same : (s : ℕ) (ps : List ProcedureTree) → behind_procedures s ps ≡ end_of s ps
behind_same s [] = refl
behind_same s (p ∷ ps) = behind_same (s + 1 + count_of p.body) ps

procedures_end : (h n : ℕ) (ps : List ProcedureTree) → behind_procedures n ps ≡ n + length (procedures_from h n ps)
procedures_end h n [] = omega arith
procedures_end h n (p ∷ ps) =
    let many = as_many n (p.header).name (n + 1) p.body in
    let k = n + length (procedure_scopes h n p) in
    let e : k ≡ n + 1 + count_of p.body = omega (arith, many) in
    let r : behind_procedures k ps ≡ k + length (procedures_from h k ps) = procedures_end h k ps in
    let l = length-append (procedure_scopes h n p) (procedures_from h k ps) in
    ap (λ m. behind_procedures m ps) (sym e) ∙ r ∙ omega (arith, l)

pub unit_ends : (n : ℕ) (u : UnitTree) → behind_procedures (n + 1 + count_of u.body) u.procedures ≡ n + length (unit_scopes n u)
unit_ends n u =
    let many = as_many n u.name (n + 1) u.body in
    let k = n + length (own_scopes n u) in
    let e : k ≡ n + 1 + count_of u.body = omega (arith, many) in
    let r = procedures_end n k u.procedures in
    let l = length-append (own_scopes n u) (procedures_from n k u.procedures) in
    ap (λ m. behind_procedures m u.procedures) (sym e) ∙ r ∙ omega (arith, l)
