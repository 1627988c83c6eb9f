-- The numbers of scopes and entities along a program are those of its scopes.
use Rattle.std.proofs.Common.{◌≡◌, refl, sym, ap, ◌∙◌, ℕ, suc, ◌+◌, List, [], ◌∷◌, ◌++◌, map, length, take, None, Some, arith, append_assoc}
use Rattle.std.specs.List.{flat_map}
use Rattle.std.proofs.lemmas.List.{map-append, length-append, length-map}
use Rattle.std.proofs.Math.Seq.{take-append_seam}
use Rattle.f3_access.specs.Access.{entities_of, first_entity}
use Rattle.f3_scopes.specs.Outlines.{Own, Scope}
use Rattle.f3_scopes.specs.Scopes.{declared_in, association_own, procedure_own, constructs_in_block, procedure_scopes, procedures_from, own_scopes, unit_scopes, scopes_from, typed_result}
use Rattle.f3_tree.specs.declared.expression.Name.{Name}
use Rattle.f3_tree.specs.declared.program.ProcedureKind.{ProcedureKind}
use Rattle.f3_tree.specs.declared.program.ProcedureKind.TheVariants.{Subroutine, Function}
use Rattle.f3_tree.specs.Statements.{AssociationTree, Block}
use Rattle.f3_tree.specs.Tree.{ProcedureTree, UnitTree}
use Rattle.f3_kinds.specs.Things.{variable}
use Rattle.f3_type_rules.specs.Associates.{constructs_of_block}
use Rattle.f3_type_rules.specs.Names.{Names, undeclared}
use Rattle.f3_type_rules.specs.Members.{numbered, units_from}
use Rattle.f3_type_rules.specs.Natures.{typed_natures, associate_natures, unit_natures}
use Rattle.f3_natures.specs.Natures.{kept}
use Rattle.f3_natures.specs.Walk.{count_of, end_of, is_final, made_all, no_final, inner_made, all_finals, all_made, all_inner, own_count, unit_start, unit_end, own_made, unit_made, units_end, units_made}
use Rattle.f3_natures.proofs.Owned.{owned, named, block_owned, as_many}
use Rattle.f3_natures.proofs.Steps.{made_long}
use Rattle.f3_natures.proofs.Same.{unit_same}

entities_append : (a b : List Scope) → entities_of (a ++ b) ≡ entities_of a ++ entities_of b
entities_append [] b = refl
entities_append (s ∷ a) b = ap (λ l. s.declared ++ l) (entities_append a b) ∙ sym (append_assoc s.declared (entities_of a) (entities_of b))

-- ---- how many entities the constructs of a block declare

entities_owned : (ss : List Scope) → entities_of ss ≡ flat_map (λ (xs : List Own). xs) (owned ss)
entities_owned [] = refl
entities_owned (s ∷ ss) = ap (λ l. s.declared ++ l) (entities_owned ss)

named_long : (xss : List (List AssociationTree)) → length (flat_map (λ (xs : List Own). xs) (named xss)) ≡ length (flat_map (map (λ (x : AssociationTree). variable undeclared)) xss)
named_long [] = refl
named_long (xs ∷ xss) =
    length-append (map association_own xs) (flat_map (λ (ys : List Own). ys) (named xss))
    ∙ ap (λ n. n + length (flat_map (λ (ys : List Own). ys) (named xss))) (length-map xs association_own ∙ sym (length-map xs (λ (x : AssociationTree). variable undeclared)))
    ∙ ap (λ n. length (map (λ (x : AssociationTree). variable undeclared) xs) + n) (named_long xss)
    ∙ sym (length-append (map (λ (x : AssociationTree). variable undeclared) xs) (flat_map (map (λ (x : AssociationTree). variable undeclared)) xss))

block_long : (h : ℕ) (a : Name) (n : ℕ) (b : Block) → length (entities_of (constructs_in_block h a n b)) ≡ length (associate_natures b)
block_long h a n b =
    ap length (entities_owned (constructs_in_block h a n b)) ∙ ap (λ l. length (flat_map (λ (xs : List Own). xs) l)) (block_owned h a n b) ∙ named_long (constructs_of_block b)

-- ---- procedures

procedure_ends : (h n : ℕ) (p : ProcedureTree) → n + length (procedure_scopes h n p) ≡ n + 1 + count_of p.body
procedure_ends h n p = let e = as_many n (p.header).name (n + 1) p.body in omega (arith, e)

end_same : (h n : ℕ) (ps : List ProcedureTree) → end_of n ps ≡ n + length (procedures_from h n ps)
end_same h n [] = omega arith
end_same h n (p ∷ ps) =
    let e = procedure_ends h n p in
    let k = n + length (procedure_scopes h n p) in
    let r : end_of k ps ≡ k + length (procedures_from h k ps) = end_same h k ps in
    let l = length-append (procedure_scopes h n p) (procedures_from h k ps) in
    ap (λ m. end_of m ps) (sym e) ∙ r ∙ omega (arith, l)

typed_long : (names : Names) (scope : ℕ) (k : ProcedureKind) (n : Name) → length (typed_natures names scope k) ≡ length (typed_result k n)
typed_long names scope Subroutine n = refl
typed_long names scope (Function None outcome) n = refl
typed_long names scope (Function (Some s) outcome) n = refl

one_inner : (names : Names) (h n : ℕ) (p : ProcedureTree) → length (inner_made names n p) ≡ length (entities_of (procedure_scopes h n p))
one_inner names h n p =
    let t = typed_natures names n (p.header).kind in
    let m = made_all names n no_final 0 (p.part).specifications in
    let r = typed_result (p.header).kind (p.header).name in
    let d = flat_map declared_in (p.part).specifications in
    let cs = entities_of (constructs_in_block n (p.header).name (n + 1) p.body) in
    let e1 = length-append t (m ++ associate_natures p.body) in
    let e2 = length-append m (associate_natures p.body) in
    let e3 = length-append (r ++ d) cs in
    let e4 = length-append r d in
    let e5 = typed_long names n (p.header).kind (p.header).name in
    let e6 = made_long names n no_final 0 (p.part).specifications in
    let e7 = block_long n (p.header).name (n + 1) p.body in
    omega (arith, e1, e2, e3, e4, e5, e6, e7)

inner_long : (names : Names) (h n : ℕ) (ps : List ProcedureTree) → length (all_inner names n ps) ≡ length (entities_of (procedures_from h n ps))
inner_long names h n [] = refl
inner_long names h n (p ∷ ps) =
    let k = n + length (procedure_scopes h n p) in
    let e1 = length-append (inner_made names n p) (all_inner names (n + 1 + count_of p.body) ps) in
    let e2 = one_inner names h n p in
    let e3 = ap (λ m. length (all_inner names m ps)) (sym (procedure_ends h n p)) in
    let e4 = inner_long names h k ps in
    let e5 = ap length (entities_append (procedure_scopes h n p) (procedures_from h k ps)) in
    let e6 = length-append (entities_of (procedure_scopes h n p)) (entities_of (procedures_from h k ps)) in
    e1 ∙ ap (λ m. m + length (all_inner names (n + 1 + count_of p.body) ps)) e2 ∙ ap (λ m. length (entities_of (procedure_scopes h n p)) + m) (e3 ∙ e4) ∙ sym e6 ∙ sym e5

members_long : (names : Names) (n : ℕ) (ps : List ProcedureTree) → length (all_made names n ps) ≡ length ps
members_long names n [] = refl
members_long names n (p ∷ ps) = ap suc (members_long names (n + 1 + count_of p.body) ps)

-- ---- units

own_ends : (n : ℕ) (u : UnitTree) → n + length (own_scopes n u) ≡ unit_start n u
own_ends n u = let e = as_many n u.name (n + 1) u.body in omega (arith, e)

unit_ends : (n : ℕ) (u : UnitTree) → unit_end n u ≡ n + length (unit_scopes n u)
unit_ends n u =
    let k = n + length (own_scopes n u) in
    let e = end_same n k u.procedures in
    let l = length-append (own_scopes n u) (procedures_from n k u.procedures) in
    ap (λ m. end_of m u.procedures) (sym (own_ends n u)) ∙ e ∙ omega (arith, l)

unit_long : (names : Names) (e n : ℕ) (u : UnitTree) → length (unit_made names e n u) ≡ length (entities_of (unit_scopes n u))
unit_long names e n u =
    let k = n + length (own_scopes n u) in
    let o = own_made names e n u in
    let m = all_made names (unit_start n u) u.procedures in
    let a = associate_natures u.body in
    let i = all_inner names (unit_start n u) u.procedures in
    let d = flat_map declared_in (u.part).specifications in
    let ps = map procedure_own u.procedures in
    let cs = entities_of (constructs_in_block n u.name (n + 1) u.body) in
    let e1 = length-append o (m ++ (a ++ i)) in
    let e2 = length-append m (a ++ i) in
    let e3 = length-append a i in
    let e4 = made_long names n (is_final names n (e + own_count u) (all_finals names (unit_start n u) u.procedures)) e (u.part).specifications in
    let e5 = members_long names (unit_start n u) u.procedures in
    let e6 = block_long n u.name (n + 1) u.body in
    let e7 : length i ≡ length (entities_of (procedures_from n k u.procedures)) = ap (λ j. length (all_inner names j u.procedures)) (sym (own_ends n u)) ∙ inner_long names n k u.procedures in
    let e8 = ap length (entities_append (own_scopes n u) (procedures_from n k u.procedures)) in
    let e9 = length-append (entities_of (own_scopes n u)) (entities_of (procedures_from n k u.procedures)) in
    let e10 = length-append (d ++ ps) cs in
    let e11 = length-append d ps in
    let e12 = length-map u.procedures procedure_own in
    omega (arith, e1, e2, e3, e4, e5, e6, e7, e8, e9, e10, e11, e12)

pub units_ends : (n : ℕ) (us : List UnitTree) → units_end n us ≡ n + length (scopes_from n us)
units_ends n [] = omega arith
units_ends n (u ∷ us) =
    let k = n + length (unit_scopes n u) in
    let l = length-append (unit_scopes n u) (scopes_from k us) in
    ap (λ m. units_end m us) (unit_ends n u) ∙ units_ends k us ∙ omega (arith, l)

pub units_long : (names : Names) (e n : ℕ) (us : List UnitTree) → length (units_made names e n us) ≡ length (entities_of (scopes_from n us))
units_long names e n [] = refl
units_long names e n (u ∷ us) =
    let k = n + length (unit_scopes n u) in
    let e' = e + length (unit_made names e n u) in
    length-append (unit_made names e n u) (units_made names e' (unit_end n u) us)
    ∙ ap (λ m. m + length (units_made names e' (unit_end n u) us)) (unit_long names e n u)
    ∙ ap (λ m. length (entities_of (unit_scopes n u)) + m) (ap (λ m. length (units_made names e' m us)) (unit_ends n u) ∙ units_long names e' k us)
    ∙ sym (ap length (entities_append (unit_scopes n u) (scopes_from k us)) ∙ length-append (entities_of (unit_scopes n u)) (entities_of (scopes_from k us)))

units_same : (names : Names) (scopes before : List Scope) (us : List UnitTree) → scopes ≡ before ++ scopes_from (length before) us
    → units_made names (length (entities_of before)) (length before) us ≡ map kept (flat_map (unit_natures names) (units_from scopes (length before) us))
units_same names scopes before [] all = refl
units_same names scopes before (u ∷ us) all =
    let n = length before in
    let e = length (entities_of before) in
    let here = unit_scopes n u in
    let next = before ++ here in
    let k = n + length here in
    let first : e ≡ first_entity scopes n = ap (λ (l : List Scope). length (entities_of l)) (sym (ap (take n) all ∙ take-append_seam before (scopes_from n (u ∷ us)))) in
    let long : length next ≡ k = length-append before here in
    let entities : e + length (unit_made names e n u) ≡ length (entities_of next) =
    ap (λ m. e + m) (unit_long names e n u) ∙ sym (ap length (entities_append before here) ∙ length-append (entities_of before) (entities_of here)) in
    let rest : scopes ≡ next ++ scopes_from (length next) us = all ∙ sym (append_assoc before here (scopes_from k us)) ∙ ap (λ m. next ++ scopes_from m us) (sym long) in
    ap (λ l. l ++ units_made names (e + length (unit_made names e n u)) (unit_end n u) us) (ap (λ m. unit_made names m n u) first ∙ unit_same names scopes n u)
    ∙ ap (λ l. map kept (unit_natures names (numbered scopes n u)) ++ l)
    (ap (λ m. units_made names m (unit_end n u) us) entities ∙ ap (λ m. units_made names (length (entities_of next)) m us) (unit_ends n u ∙ sym long)
    ∙ units_same names scopes next us rest ∙ ap (λ m. map kept (flat_map (unit_natures names) (units_from scopes m us))) long)
    ∙ sym (map-append kept (unit_natures names (numbered scopes n u)) (flat_map (unit_natures names) (units_from scopes k us)))

pub program_same : (names : Names) (us : List UnitTree) → units_made names 0 0 us ≡ map kept (flat_map (unit_natures names) (units_from (scopes_from 0 us) 0 us))
program_same names us = units_same names (scopes_from 0 us) [] us refl
