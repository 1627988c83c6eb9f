-- The scopes of units and procedures are among those of the program.
use Rattle.std.proofs.Common.{refl, subst, ℕ, ◌+◌, List, [], ◌∷◌, length, inl, inr}
use Rattle.f3_scopes.specs.Outlines.{Scope}
use Rattle.f3_scopes.specs.Scopes.{scope_of_procedure, scope_of_unit, procedure_scopes, procedures_from, own_scopes, unit_scopes, scopes_from}
use Rattle.f3_tree.specs.Tree.{ProcedureTree, UnitTree}
use Rattle.f3_selecting.proofs.Members.{Has, has_left, has_right}

procedure_stands : (host n : ℕ) (ps : List ProcedureTree) (p : ProcedureTree) → Has ps p → Has (procedures_from host n ps) (scope_of_procedure host p)
procedure_stands host n [] p h = absurd h
procedure_stands host n (q ∷ ps) p (inl e) =
    has_left (procedure_scopes host n q) (procedures_from host (n + length (procedure_scopes host n q)) ps) (scope_of_procedure host p)
    (inl (λ i. scope_of_procedure host (e i)))
procedure_stands host n (q ∷ ps) p (inr h) =
    has_right (procedure_scopes host n q) (procedures_from host (n + length (procedure_scopes host n q)) ps) (scope_of_procedure host p)
    (procedure_stands host (n + length (procedure_scopes host n q)) ps p h)

-- the scopes of a unit stand together
pub unit_stands : (n : ℕ) (us : List UnitTree) (u : UnitTree) → Has us u → (k : ℕ) × ((s : Scope) → Has (unit_scopes k u) s → Has (scopes_from n us) s)
unit_stands n [] u h = absurd h
unit_stands n (v ∷ us) u (inl e) = (n, λ s there. has_left (unit_scopes n v) (scopes_from (n + length (unit_scopes n v)) us) s (subst (λ w. Has (unit_scopes n w) s) e there))
unit_stands n (v ∷ us) u (inr h) =
    let r = unit_stands (n + length (unit_scopes n v)) us u h in
    (r.0, λ s there. has_right (unit_scopes n v) (scopes_from (n + length (unit_scopes n v)) us) s (r.1 s there))

pub own_stands : (n : ℕ) (u : UnitTree) → Has (unit_scopes n u) (scope_of_unit u)
own_stands n u = inl refl

pub member_stands : (n : ℕ) (u : UnitTree) (p : ProcedureTree) → Has u.procedures p → Has (unit_scopes n u) (scope_of_procedure n p)
member_stands n u p h =
    has_right (own_scopes n u) (procedures_from n (n + length (own_scopes n u)) u.procedures) (scope_of_procedure n p)
    (procedure_stands n (n + length (own_scopes n u)) u.procedures p h)
