-- The entities of declared names ascend, along a part and along a program.
use Rattle.std.proofs.Common.{◌≡◌, ℕ, suc, ◌+◌, ◌≤◌, Bool, true, false, cond, ◌&&◌, List, [], ◌∷◌, ◌++◌, length, map, filter, sym, arith}
use Rattle.std.specs.List.{flat_map}
use Rattle.std.proofs.lemmas.List.{length-append, length-map, map-append}
use mathlib.Core.Path.{subst}
use Rattle.f3_access.specs.Access.{first_entity}
use Rattle.f3_scopes.specs.Outlines.{Scope}
use Rattle.f3_scopes.specs.Scopes.{declared_in, own, procedures_from, procedure_scopes, unit_scopes, scopes_from}
use Rattle.f3_tree.specs.Declarations.{EntityTree, DeclarationTree, SpecificationTree, declares, accesses, protects, saves, defines}
use Rattle.f3_tree.specs.Tree.{ProcedureTree, UnitTree}
use Rattle.f3_type_rules.specs.Associates.{constructs_of_block}
use Rattle.f3_type_rules.specs.Members.{Member, Numbered, members_from, numbered, units_from}
use Rattle.f3_elaboration.specs.Numbers.{Variable, Definition, declared_from, names_in, types_in, along_part, unit_names, definitions, member_names, is_variable, is_saved}
use Rattle.f3_elaboration.specs.Numbers.{is_static_in, unit_statics}
use Rattle.f3_lawful_laws.proofs.Placing.{Lies, lies_left, lies_right}
use Rattle.f3_lawful_laws.proofs.Ascending.{Ascends, Spans, wider, first_grows}
use Rattle.f3_entity_laws.specs.Things.{of_unit, of_member}
use Rattle.f3_entity_laws.specs.Laws.{entities}
use Rattle.f3_entity_laws.proofs.Owns.{part_long}
use Rattle.f3_entity_laws.proofs.Stands.{first_of, result_count}
use Rattle.f3_entity_laws.proofs.Where.{member_at, inner_first, lies_behind, unit_first, inner, procedures_step, unit_step}

-- ---- spans

pub spans_ascend : (l m : ℕ) (xs : List ℕ) → Spans l m xs → Ascends l xs
spans_ascend l m [] h = tt
spans_ascend l m (x ∷ xs) h = (h.0, spans_ascend (suc x) m xs h.1)

higher : (l m k : ℕ) (xs : List ℕ) → m ≤ k → Spans l m xs → Spans l k xs
higher l m k [] le h = let a : l ≤ m = h in omega (arith, a, le)
higher l m k (x ∷ xs) le h = (h.0, higher (suc x) m k xs le h.1)

linked : (l m k : ℕ) (xs ys : List ℕ) → Spans l m xs → Spans m k ys → Spans l k (xs ++ ys)
linked l m k [] ys h g = wider l m k ys h g
linked l m k (x ∷ xs) ys h g = (h.0, linked (suc x) m k xs ys h.1 g)

module _ {X : Type 0} (f : X → ℕ) (p : X → Bool) where
  kept : (l m : ℕ) (xs : List X) → Spans l m (map f xs) → Spans l m (map f (filter p xs))
  kept l m [] h = h
  kept l m (x ∷ xs) h = by (p x) (kept (suc (f x)) m xs h.1)
    where
      by : (b : Bool) → Spans (suc (f x)) m (map f (filter p xs)) → Spans l m (map f (cond b (x ∷ filter p xs) (filter p xs)))
      by true r = (h.0, r)
      by false r = wider l (suc (f x)) m (map f (filter p xs)) (let a : l ≤ f x = h.0 in omega (arith, a)) r

-- ---- along a part

abbrev entity : Variable → ℕ
entity v = v.entity

abbrev pub type_entity : Definition → ℕ
type_entity d = d.entity

declared_span : (u s e : ℕ) (d : DeclarationTree) (xs : List EntityTree) → Spans e (e + length xs) (map entity (declared_from u s e d xs))
declared_span u s e d [] = let a : e ≤ e + 0 = omega arith in a
declared_span u s e d (x ∷ xs) =
    let one : e + 1 ≡ suc e = omega arith in
    let all : e + 1 + length xs ≡ e + suc (length xs) = omega arith in (
      (let a : e ≤ e = omega arith in a),
      subst (λ l. Spans l (e + suc (length xs)) (map entity (declared_from u s (e + 1) d xs))) one
          (subst (λ m. Spans (e + 1) m (map entity (declared_from u s (e + 1) d xs))) all (declared_span u s (e + 1) d xs)),
    )

names_span : (u s e : ℕ) (x : SpecificationTree) → Spans e (e + length (declared_in x)) (map entity (names_in u s e x))
names_span u s e (declares d) =
    let long = length-map d.entities (own d.attributes) in
    subst (λ m. Spans e m (map entity (declared_from u s e d d.entities))) (let a : e + length d.entities ≡ e + length (map (own d.attributes) d.entities) = omega (arith, long) in a)
    (declared_span u s e d d.entities)
names_span u s e (accesses a) = let a : e ≤ e + 0 = omega arith in a
names_span u s e (protects p ns) = let a : e ≤ e + 0 = omega arith in a
names_span u s e (saves p) = let a : e ≤ e + 0 = omega arith in a
names_span u s e (defines t) = let a : e ≤ e + 1 = omega arith in a

types_span : (u : Numbered) (e : ℕ) (x : SpecificationTree) → Spans e (e + length (declared_in x)) (map type_entity (types_in u e x))
types_span u e (declares d) = let a : e ≤ e + length (map (own d.attributes) d.entities) = omega arith in a
types_span u e (accesses a) = let a : e ≤ e + 0 = omega arith in a
types_span u e (protects p ns) = let a : e ≤ e + 0 = omega arith in a
types_span u e (saves p) = let a : e ≤ e + 0 = omega arith in a
types_span u e (defines t) = ((let a : e ≤ e = omega arith in a), (let a : suc e ≤ e + 1 = omega arith in a))

module _ {X : Type 0} (number : X → ℕ) (f : ℕ → SpecificationTree → List X)
    (one : (e : ℕ) (x : SpecificationTree) → Spans e (e + length (declared_in x)) (map number (f e x))) where
  part_span : (e : ℕ) (ss : List SpecificationTree) → Spans e (e + length (flat_map declared_in ss)) (map number (along_part f e ss))
  part_span e [] = let a : e ≤ e + 0 = omega arith in a
  part_span e (x ∷ ss) =
      let next : ℕ = e + length (declared_in x) in
      let split = length-append (declared_in x) (flat_map declared_in ss) in
      subst (Spans e (e + length (declared_in x ++ flat_map declared_in ss))) (sym (map-append number (f e x) (along_part f next ss)))
      (subst (λ m. Spans e m (map number (f e x) ++ map number (along_part f next ss)))
      (let a : next + length (flat_map declared_in ss) ≡ e + length (declared_in x ++ flat_map declared_in ss) = omega (arith, split) in a)
      (linked e next (next + length (flat_map declared_in ss)) (map number (f e x)) (map number (along_part f next ss)) (one e x) (part_span next ss)))

pub unit_names_span : (u : Numbered) → Spans u.first (u.first + length (flat_map declared_in ((u.tree).part).specifications)) (entities (unit_names u))
unit_names_span u = part_span entity (names_in u.scope u.scope) (names_span u.scope u.scope) u.first ((u.tree).part).specifications

pub definitions_span : (u : Numbered) → Spans u.first (u.first + length (flat_map declared_in ((u.tree).part).specifications)) (map type_entity (definitions u))
definitions_span u = part_span type_entity (types_in u) (types_span u) u.first ((u.tree).part).specifications

pub member_names_span : (u : Numbered) (m : Member)
    → Spans (first_of (of_member u m)) (first_of (of_member u m) + length (flat_map declared_in ((m.tree).part).specifications)) (entities (member_names u.scope m))
member_names_span u m = part_span entity (names_in u.scope m.scope) (names_span u.scope m.scope) (first_of (of_member u m)) ((m.tree).part).specifications

pub unit_kept : (p : Variable → Bool) (u : Numbered) → Ascends u.first (entities (filter p (unit_names u)))
unit_kept p u = spans_ascend u.first _ (entities (filter p (unit_names u))) (kept entity p u.first _ (unit_names u) (unit_names_span u))

pub member_kept : (p : Variable → Bool) (u : Numbered) (m : Member) → Ascends (first_of (of_member u m)) (entities (filter p (member_names u.scope m)))
member_kept p u m =
    spans_ascend (first_of (of_member u m)) _ (entities (filter p (member_names u.scope m)))
    (kept entity p (first_of (of_member u m)) _ (member_names u.scope m) (member_names_span u m))

-- ---- along a program

abbrev lives : Variable → Bool
lives v = is_variable v && is_saved v

abbrev saved_in : (unit : ℕ) → Member → List Variable
saved_in unit m = filter lives (member_names unit m)

members_span : (scopes : List Scope) (u : Numbered) (e n : ℕ) (ps : List ProcedureTree) → Lies scopes n (procedures_from u.scope n ps)
    → Spans (first_entity scopes n) (first_entity scopes (n + length (procedures_from u.scope n ps))) (entities (flat_map (saved_in u.scope) (members_from scopes e n ps)))
members_span scopes u e n [] lies = first_grows scopes n (n + 0) (let a : n ≤ n + 0 = omega arith in a)
members_span scopes u e n (p ∷ ps) lies =
    let next : ℕ = n + 1 + length (constructs_of_block p.body) in
    let m : Member = member_at scopes u e n p in
    let mine : Lies scopes n (procedure_scopes u.scope n p) = lies_left scopes n (procedure_scopes u.scope n p) _ lies in
    let begins = inner_first scopes u e n p mine in
    let grows : first_entity scopes (n + 1) ≤ first_entity scopes next = first_grows scopes (n + 1) next (let a : n + 1 ≤ next = omega arith in a) in
    let count = result_count u m in
    let part = part_long (of_member u m) (p.part).specifications in
    let own : Spans (first_entity scopes n) (first_entity scopes next) (entities (saved_in u.scope m)) =
    wider (first_entity scopes n) (first_of (of_member u m)) (first_entity scopes next) (entities (saved_in u.scope m)) (let a : first_entity scopes n ≤ first_of (of_member u m) = omega arith in a)
    (higher (first_of (of_member u m)) (first_of (of_member u m) + length (flat_map declared_in (p.part).specifications)) (first_entity scopes next) (entities (saved_in u.scope m))
    (omega (arith, begins, grows, count, part))
    (kept entity lives (first_of (of_member u m)) _ (member_names u.scope m) (member_names_span u m))) in
    let step = procedures_step u.scope n p ps in
    subst (λ k. Spans (first_entity scopes n) (first_entity scopes k) (entities (flat_map (saved_in u.scope) (members_from scopes e n (p ∷ ps))))) (sym step)
    (subst (Spans (first_entity scopes n) (first_entity scopes (next + length (procedures_from u.scope next ps))))
    (sym (map-append entity (saved_in u.scope m) (flat_map (saved_in u.scope) (members_from scopes (e + 1) next ps))))
    (linked (first_entity scopes n) (first_entity scopes next) (first_entity scopes (next + length (procedures_from u.scope next ps))) (entities (saved_in u.scope m))
    (entities (flat_map (saved_in u.scope) (members_from scopes (e + 1) next ps))) own
    (members_span scopes u (e + 1) next ps (lies_behind scopes u n p ps lies))))

unit_span : (scopes : List Scope) (n : ℕ) (x : UnitTree) → Lies scopes n (unit_scopes n x)
    → Spans (first_entity scopes n) (first_entity scopes (n + length (unit_scopes n x))) (entities (unit_statics (numbered scopes n x)))
unit_span scopes n x lies =
    let u : Numbered = numbered scopes n x in
    let next : ℕ = n + 1 + length (constructs_of_block x.body) in
    let own : List Variable = filter (is_static_in x.kind) (unit_names u) in
    let others : List Variable = flat_map (saved_in n) u.members in
    let begins = unit_first scopes n x lies in
    let part = part_long (of_unit u) (x.part).specifications in
    let grows : first_entity scopes (n + 1) ≤ first_entity scopes next = first_grows scopes (n + 1) next (let a : n + 1 ≤ next = omega arith in a) in
    let mine : Spans (first_entity scopes n) (first_entity scopes next) (entities own) =
    higher (first_entity scopes n) (first_entity scopes n + length (flat_map declared_in (x.part).specifications)) (first_entity scopes next) (entities own) (omega (arith, begins, part, grows))
    (kept entity (is_static_in x.kind) (first_entity scopes n) _ (unit_names u) (unit_names_span u)) in
    subst (λ k. Spans (first_entity scopes n) (first_entity scopes k) (entities (unit_statics u))) (sym (unit_step n x))
    (subst (Spans (first_entity scopes n) (first_entity scopes (next + length (procedures_from n next x.procedures)))) (sym (map-append entity own others))
    (linked (first_entity scopes n) (first_entity scopes next) (first_entity scopes (next + length (procedures_from n next x.procedures))) (entities own) (entities others) mine
    (members_span scopes u (first_entity scopes n + length (flat_map declared_in (x.part).specifications)) next x.procedures (inner scopes n x lies))))

pub statics_span : (scopes : List Scope) (n : ℕ) (us : List UnitTree) → Lies scopes n (scopes_from n us)
    → Spans (first_entity scopes n) (first_entity scopes (n + length (scopes_from n us))) (entities (flat_map unit_statics (units_from scopes n us)))
statics_span scopes n [] lies = first_grows scopes n (n + 0) (let a : n ≤ n + 0 = omega arith in a)
statics_span scopes n (x ∷ us) lies =
    let next : ℕ = n + length (unit_scopes n x) in
    let split = length-append (unit_scopes n x) (scopes_from next us) in
    let u : Numbered = numbered scopes n x in
    subst (λ k. Spans (first_entity scopes n) (first_entity scopes k) (entities (flat_map unit_statics (units_from scopes n (x ∷ us)))))
    (let a : next + length (scopes_from next us) ≡ n + length (unit_scopes n x ++ scopes_from next us) = omega (arith, split) in a)
    (subst (Spans (first_entity scopes n) (first_entity scopes (next + length (scopes_from next us))))
    (sym (map-append entity (unit_statics u) (flat_map unit_statics (units_from scopes next us))))
    (linked (first_entity scopes n) (first_entity scopes next) (first_entity scopes (next + length (scopes_from next us))) (entities (unit_statics u))
    (entities (flat_map unit_statics (units_from scopes next us))) (unit_span scopes n x (lies_left scopes n (unit_scopes n x) _ lies))
    (statics_span scopes next us (lies_right scopes n (unit_scopes n x) _ lies))))
