-- A unit changes what is known of its own entities alone.
use Rattle.std.proofs.Common.{◌≡◌, ◌≢◌, refl, ℕ, ◌+◌, ◌<◌, ◌≤◌, ◌⊎◌, inl, inr, Bool, cond, List, [], ◌∷◌, ◌++◌, length, Option, None, Some, ap, ◌∙◌, sym, arith}
use Rattle.std.specs.Prelude.{nat_eq}
use Rattle.std.specs.List.{flat_map}
use Rattle.std.specs.Map.{lookup}
use Rattle.std.proofs.lemmas.Bool.{ne_eqb}
use Rattle.std.proofs.lemmas.List.{length-map, length-append}
use Rattle.f3_nodes.proofs.Members.{Has}
use Rattle.f3_scopes.specs.Scopes.{own, declared_in, typed_result}
use Rattle.f3_tree.specs.declared.expression.Name.{Name}
use Rattle.f3_tree.specs.declared.declaration.TypeSpecifier.{TypeSpecifier}
use Rattle.f3_tree.specs.declared.program.ProcedureKind.{ProcedureKind}
use Rattle.f3_tree.specs.declared.program.ProcedureKind.TheVariants.{Subroutine, Function}
use Rattle.f3_tree.specs.Declarations.{EntityTree, DeclarationTree, SpecificationTree, declares, accesses, protects, saves, defines}
use Rattle.f3_kinds.specs.Things.{map_or}
use Rattle.f3_type_rules.specs.Natures.{specifier_of}
use Rattle.f3_type_rules.specs.Members.{Member, Numbered}
use Rattle.f3_type_rules.specs.Scene.{Scene}
use Rattle.f3_type_rules.specs.Walks.{after, Known, Spot}
use Rattle.f3_type_rules.specs.Declarations.{with_entry, constant_value, entity_next, all_cells, specification_next, spot_of, within_member, member_next, unit_spot, within_unit, behind_part, unit_next}
use Rattle.f3_order_laws.proofs.Declarations.{Alike}

-- an entity before the first number or from the second on
abbrev pub Out : ℕ → ℕ → ℕ → Type 0
Out lo hi e = (e < lo) ⊎ (hi ≤ e)

pub narrower : (lo hi from to e : ℕ) → lo ≤ from → to ≤ hi → Out lo hi e → Out from to e
narrower lo hi from to e l h (inl lt) = inl (omega (arith, l, lt))
narrower lo hi from to e l h (inr ge) = inr (omega (arith, h, ge))

pub alike_on : (i k j : Known) (e : ℕ) → Alike i k e → Alike k j e → Alike i j e
alike_on i k j e a b = (a.0 ∙ b.0, a.1 ∙ b.1)

pub alike_back : (k j : Known) (e : ℕ) → Alike k j e → Alike j k e
alike_back k j e a = (sym a.0, sym a.1)

entry_other : {X : Type 0} (e n : ℕ) (x : Option X) (xs : List (ℕ × X)) → e ≢ n → lookup (nat_eq e) (with_entry n x xs) ≡ lookup (nat_eq e) xs
entry_other e n None xs ne = refl
entry_other {X} e n (Some x) xs ne = ap (λ (t : Bool). cond t (Some x) (lookup (nat_eq e) xs)) (ne_eqb e n ne)

not_at : (n to e : ℕ) → n < to → Out n to e → e ≢ n
not_at n to e lt (inl below) same = omega (arith, below, same)
not_at n to e lt (inr above) same = omega (arith, lt, above, same)

module _ (s : Spot) where
  entities_next : (d : DeclarationTree) (xs : List EntityTree) (k : Known) → (after (entity_next s d) k xs).next ≡ k.next + length xs
  entities_next d [] k = omega arith
  entities_next d (x ∷ xs) k = let later = entities_next d xs (entity_next s d k x) in omega (arith, later)

  entities_kept : (d : DeclarationTree) (xs : List EntityTree) (k : Known) (e : ℕ) → Out k.next (k.next + length xs) e → Alike (after (entity_next s d) k xs) k e
  entities_kept d [] k e out = (refl, refl)
  entities_kept d (x ∷ xs) k e out =
      let to = k.next + length (x ∷ xs) in
      let ne : e ≢ k.next = not_at k.next to e (omega arith) out in
      let more = entity_next s d k x in
      let later = entities_kept d xs more e (narrower k.next to more.next (more.next + length xs) e (omega arith) (omega arith) out) in
      alike_on (after (entity_next s d) more xs) more k e later (entry_other e k.next (constant_value s d k x) k.values ne, refl)

  specification_moves : (t : SpecificationTree) (k : Known) → (specification_next s k t).next ≡ k.next + length (declared_in t)
  specification_moves (declares d) k = let moved = entities_next d d.entities k in omega (arith, moved, length-map d.entities (own d.attributes))
  specification_moves (accesses a) k = omega arith
  specification_moves (protects p ns) k = omega arith
  specification_moves (saves p) k = omega arith
  specification_moves (defines t) k = omega arith

  specification_kept : (t : SpecificationTree) (k : Known) (e : ℕ) → Out k.next (k.next + length (declared_in t)) e → Alike (specification_next s k t) k e
  specification_kept (declares d) k e out =
      entities_kept d d.entities k e
      (narrower k.next (k.next + length (declared_in (declares d))) k.next (k.next + length d.entities) e (omega arith) (omega (arith, length-map d.entities (own d.attributes))) out)
  specification_kept (accesses a) k e out = (refl, refl)
  specification_kept (protects p ns) k e out = (refl, refl)
  specification_kept (saves p) k e out = (refl, refl)
  specification_kept (defines t) k e out = (refl, entry_other e k.next (all_cells s k t) k.cells (not_at k.next (k.next + 1) e (omega arith) out))

  pub part_kept : (ts : List SpecificationTree) (k : Known) (e : ℕ) → Out k.next (k.next + length (flat_map declared_in ts)) e → Alike (after (specification_next s) k ts) k e
  part_kept [] k e out = (refl, refl)
  part_kept (t ∷ ts) k e out =
      let to = k.next + length (flat_map declared_in (t ∷ ts)) in
      let more = specification_next s k t in
      let long = length-append (declared_in t) (flat_map declared_in ts) in
      let moved = specification_moves t k in
      alike_on (after (specification_next s) more ts) more k e
      (part_kept ts more e (narrower k.next to more.next (more.next + length (flat_map declared_in ts)) e (omega (arith, moved)) (omega (arith, moved, long)) out))
      (specification_kept t k e (narrower k.next to k.next (k.next + length (declared_in t)) e (omega arith) (omega (arith, long)) out))

-- how many entities a procedure declares
abbrev pub declared_by : Member → ℕ
declared_by m = length (typed_result ((m.tree).header).kind ((m.tree).header).name ++ flat_map declared_in ((m.tree).part).specifications)

typed_long : (kind : ProcedureKind) (n : Name) → length (typed_result kind n) ≡ map_or 0 (λ (t : TypeSpecifier). 1) (specifier_of kind)
typed_long Subroutine n = refl
typed_long (Function None outcome) n = refl
typed_long (Function (Some t) outcome) n = refl

module _ (scene : Scene) (e : ℕ) where
  member_kept : (unit : ℕ) (m : Member) (k : Known) → Out m.first (m.first + declared_by m) e → Alike (member_next scene unit k m) k e
  member_kept unit m k out =
      let header = (m.tree).header in
      let specifications = ((m.tree).part).specifications in
      let typed = typed_long header.kind header.name in
      let long = length-append (typed_result header.kind header.name) (flat_map declared_in specifications) in
      let within = within_member m k in
      part_kept (spot_of scene unit m) specifications within e
      (narrower m.first (m.first + declared_by m) within.next (within.next + length (flat_map declared_in specifications)) e (omega (arith, typed)) (omega (arith, typed, long)) out)

  members_kept : (unit : ℕ) (ms : List Member) → ((m : Member) → Has ms m → Out m.first (m.first + declared_by m) e) → (k : Known) → Alike (after (member_next scene unit) k ms) k e
  members_kept unit [] out k = (refl, refl)
  members_kept unit (m ∷ ms) out k =
      alike_on (after (member_next scene unit) (member_next scene unit k m) ms) (member_next scene unit k m) k e
      (members_kept unit ms (λ n h. out n (inr h)) (member_next scene unit k m)) (member_kept unit m k (out m (inl refl)))

  pub unit_kept : (u : Numbered) → Out u.first (u.first + length (flat_map declared_in ((u.tree).part).specifications)) e
      → ((m : Member) → Has u.members m → Out m.first (m.first + declared_by m) e) → (k : Known) → Alike (unit_next scene k u) k e
  unit_kept u own members k =
      alike_on (unit_next scene k u) (behind_part scene u k) k e
      (members_kept u.scope u.members members (behind_part scene u k))
      (part_kept (unit_spot scene u) ((u.tree).part).specifications (within_unit u k) e own)
