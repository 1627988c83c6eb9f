-- Where declarations break no rule, each value of a named constant that is known at one of them is the one that is known behind all.
use Rattle.std.proofs.Common.{◌≡◌, ◌≢◌, ℕ, ◌+◌, ◌<◌, ◌≤◌, ◌⊎◌, inl, inr, Bool, cond, List, [], ◌∷◌, ◌++◌, length, Option, None, Some, refl, sym, ap, ◌∙◌, arith}
use Rattle.std.specs.Prelude.{⊤, nat_eq}
use Rattle.std.specs.List.{flat_map}
use Rattle.std.specs.Map.{lookup}
use Rattle.std.proofs.lemmas.Bool.{ne_eqb}
use Rattle.std.proofs.lemmas.Bool.Decides.{eqb_tells}
use Rattle.std.proofs.lemmas.List.{length-map, length-append}
use mathlib.Core.Path.{subst}
use Rattle.f3_rules.specs.declared.breaks.Break.{Break}
use Rattle.f3_scopes.specs.Scopes.{own, declared_in, typed_result}
use Rattle.f3_tree.specs.declared.expression.Name.{Name}
use Rattle.f3_tree.specs.declared.declaration.TypeSpecifier.{TypeSpecifier}
use Rattle.f3_tree.specs.declared.program.ProcedureKind.{ProcedureKind}
use Rattle.f3_tree.specs.declared.program.ProcedureKind.TheVariants.{Subroutine, Function}
use Rattle.f3_tree.specs.Declarations.{EntityTree, DeclarationTree, SpecificationTree, declares, accesses, protects, saves, defines}
use Rattle.f3_kinds.specs.declared.types.Scalar.{Scalar}
use Rattle.f3_kinds.specs.Things.{map_or}
use Rattle.f3_meaning_whole.specs.Permitted.{Each}
use Rattle.f3_type_rules.specs.Declarations.{with_entry, constant_value, entity_rows, entity_next, specifier_rows, component_rows, specification_rows, specification_next}
use Rattle.f3_type_rules.specs.Declarations.{header_rows, spot_of, within_member, member_rows, member_next}
use Rattle.f3_type_rules.specs.Members.{Member}
use Rattle.f3_type_rules.specs.Names.{attributes_of}
use Rattle.f3_type_rules.specs.Natures.{specifier_of}
use Rattle.f3_type_rules.specs.Scene.{Scene}
use Rattle.f3_type_rules.specs.Shapes.{dimension_rows}
use Rattle.f3_type_rules.specs.Walks.{after, along, context, Known, Spot}
use Rattle.f3_lawful_laws.proofs.Facts.{first, second}
use Rattle.f3_formed_laws.proofs.Right.{in_type}
use Rattle.f3_kind_laws.proofs.Behind.{moves}
use Rattle.f3_constant_laws.specs.Kept.{Keeps, Kept, KeptAll, KeptIn, MemberKept}

pub keeps_on : (i k j : Known) → Keeps i k → Keeps k j → Keeps i j
keeps_on i k j a b e v h = b e v (a e v h)

-- ---- entries

entry_other : (e n : ℕ) (x : Option Scalar) (xs : List (ℕ × Scalar)) → e ≢ n → lookup (nat_eq e) (with_entry n x xs) ≡ lookup (nat_eq e) xs
entry_other e n None xs ne = refl
entry_other e n (Some x) xs ne = ap (λ (t : Bool). cond t (Some x) (lookup (nat_eq e) xs)) (ne_eqb e n ne)

-- Entities of a unit have the numbers from the first to the second; what is old has others.
module _ (Old : ℕ → Type 0) (low high : ℕ) (apart : (e : ℕ) → Old e → low ≤ e → e < high → ⊥) where
  -- each value that is known is of an entity that is old, or of one before this number
  abbrev pub Below : ℕ → Known → Type 0
  Below lo k = (e : ℕ) (v : Scalar) → lookup (nat_eq e) k.values ≡ Some v → Old e ⊎ ((low ≤ e) × (e < lo))

  pub raised : (lo hi : ℕ) (k : Known) → lo ≤ hi → Below lo k → Below hi k
  raised lo hi k le b e v h = elim (b e v h) [ inl o ↦ inl o | inr r ↦ (let x = r.1 in inr (r.0, omega (arith, le, x))) ]

  module _ (s : Spot) (d : DeclarationTree) (k : Known) (x : EntityTree) (from : low ≤ k.next) (to : k.next + 1 ≤ high) (below : Below k.next k) where
    new_one : (e : ℕ) (v : Scalar) → lookup (nat_eq e) k.values ≡ Some v → e ≢ k.next
    new_one e v h same = elim (below e v h) [
      | inl o ↦ apart e o (omega (arith, from, same)) (omega (arith, to, same))
      | inr r ↦ (let lt = r.1 in omega (arith, lt, same))
    ]

    entity_keeps : Keeps k (entity_next s d k x)
    entity_keeps e v h = entry_other e k.next (constant_value s d k x) k.values (new_one e v h) ∙ h

    entity_below : Below (k.next + 1) (entity_next s d k x)
    entity_below e v h = elim (eqb_tells e k.next) [
      | inl same ↦ (let q = same.1 in inr (omega (arith, q, from), omega (arith, q)))
      | inr other ↦
          raised k.next (k.next + 1) k (omega arith) below e v (sym (entry_other e k.next (constant_value s d k x) k.values other.1) ∙ h)
    ]

  -- ---- walks along items that declare so many entities each

  module _ {X : Type 0} (rows : Known → X → List Break) (next : Known → X → Known) (size : X → ℕ) (Q : Known → X → Type 0) where
    abbrev pub total : List X → ℕ
    total [] = 0
    total (x ∷ xs) = size x + total xs

    pub record Step (k : Known) (x : X) : Type 0 where
      pub keeps : Keeps k (next k x)
      pub below : Below (k.next + size x) (next k x)
      pub moved : (next k x).next ≡ k.next + size x
      pub kept : (end : Known) → Keeps (next k x) end → Q end x

    pub record Walked (k : Known) (xs : List X) : Type 0 where
      pub keeps : Keeps k (after next k xs)
      pub below : Below (k.next + total xs) (after next k xs)
      pub kept : (end : Known) → Keeps (after next k xs) end → Each (Q end) xs

    pub walk : (start : Known)
        → ((k : Known) (x : X) → Keeps start k → low ≤ k.next → k.next + size x ≤ high → Below k.next k → rows k x ≡ [] → Step k x)
        → (k : Known) (xs : List X) → Keeps start k → low ≤ k.next → k.next + total xs ≤ high → Below k.next k → along rows next k xs ≡ [] → Walked k xs
    walk start step k [] since from to below none = record {
      keeps = λ e v h. h;
      below = raised k.next (k.next + 0) k (omega arith) below;
      kept = λ end h. tt;
    }
    walk start step k (x ∷ xs) since from to below none =
        let one : Step k x = step k x since from (omega (arith, to)) below (first (rows k x) _ none) in
        let moved = one.moved in
        let rest : Walked (next k x) xs =
        walk start step (next k x) xs (keeps_on start k (next k x) since one.keeps) (omega (arith, moved, from)) (omega (arith, moved, to))
        (raised (k.next + size x) (next k x).next (next k x) (omega (arith, moved)) one.below) (second (rows k x) _ none) in
        record {
          keeps = keeps_on k (next k x) (after next (next k x) xs) one.keeps rest.keeps;
          below = raised ((next k x).next + total xs) (k.next + total (x ∷ xs)) (after next (next k x) xs) (omega (arith, moved)) rest.below;
          kept = λ end h. (one.kept end (keeps_on (next k x) (after next (next k x) xs) end rest.keeps h), rest.kept end h);
        }

  -- ---- declarations

  abbrev one_each : EntityTree → ℕ
  one_each x = 1

  abbrev EntitiesWalked : Spot → DeclarationTree → Known → List EntityTree → Type 0
  EntitiesWalked s d k xs = Walked (entity_rows s d) (entity_next s d) one_each (Kept s d) k xs

  ones : (s : Spot) (d : DeclarationTree) (xs : List EntityTree) → total (entity_rows s d) (entity_next s d) one_each (Kept s d) xs ≡ length xs
  ones s d [] = refl
  ones s d (x ∷ xs) = let more = ones s d xs in omega (arith, more)

  entities_walked : (s : Spot) (d : DeclarationTree) (k : Known) → flat_map (dimension_rows (context s k)) (attributes_of d) ≡ []
      → low ≤ k.next → k.next + length d.entities ≤ high → Below k.next k → along (entity_rows s d) (entity_next s d) k d.entities ≡ []
      → EntitiesWalked s d k d.entities
  entities_walked s d k dimensions from to below none =
      let long = ones s d d.entities in
      walk (entity_rows s d) (entity_next s d) one_each (Kept s d) k
      (λ j x since low_j high_j below_j rows. record {
        keeps = entity_keeps s d j x low_j high_j below_j;
        below = entity_below s d j x low_j high_j below_j;
        moved = refl;
        kept = λ end h. record {
          start = k;
          here = j;
          dimensions = dimensions;
          rows = rows;
          started = since;
          ended = keeps_on j (entity_next s d j x) end (entity_keeps s d j x low_j high_j below_j) h;
        };
      }) k d.entities (λ e v h. h) from (omega (arith, long, to)) below none

  -- the components of a type declare no entities
  parts_kept : (s : Spot) (d : DeclarationTree) (k end : Known) → flat_map (dimension_rows (context s k)) (attributes_of d) ≡ [] → Keeps k end
      → (xs : List EntityTree) → flat_map (entity_rows s d k) xs ≡ [] → Each (Kept s d end) xs
  parts_kept s d k end dimensions h [] none = tt
  parts_kept s d k end dimensions h (x ∷ xs) none = (
    record { start = k; here = k; dimensions = dimensions; rows = first (entity_rows s d k x) _ none; started = λ e v g. g; ended = h },
    parts_kept s d k end dimensions h xs (second (entity_rows s d k x) _ none),
  )

  components_kept : (s : Spot) (k end : Known) → Keeps k end → (ds : List DeclarationTree) → flat_map (component_rows s k) ds ≡ [] → Each (KeptAll s end) ds
  components_kept s k end h [] none = tt
  components_kept s k end h (d ∷ ds) none =
      let own = second (specifier_rows s k d.specifier) _ (first (component_rows s k d) _ none) in (
        parts_kept s d k end (first (flat_map (dimension_rows (context s k)) (attributes_of d)) _ own) h d.entities
            (second (flat_map (dimension_rows (context s k)) (attributes_of d)) _ own),
        components_kept s k end h ds (second (component_rows s k d) _ none),
      )

  -- ---- specification parts

  abbrev count_in : SpecificationTree → ℕ
  count_in x = length (declared_in x)

  module _ (s : Spot) (ms : List Member) where
    abbrev PartStep : Known → SpecificationTree → Type 0
    PartStep k x = Step (specification_rows s ms) (specification_next s) count_in (KeptIn s) k x

    abbrev pub PartWalked : Known → List SpecificationTree → Type 0
    PartWalked k xs = Walked (specification_rows s ms) (specification_next s) count_in (KeptIn s) k xs

    -- where nothing is declared
    passed : (k : Known) (x : SpecificationTree) → Below k.next k → (specification_next s k x ≡ k) → ((end : Known) → KeptIn s end x) → PartStep k x
    passed k x below same kept = record {
      keeps = λ e v h. ap (λ (j : Known). lookup (nat_eq e) j.values) same ∙ h;
      below = subst (Below (k.next + count_in x)) (sym same) (raised k.next (k.next + count_in x) k (omega arith) below);
      moved = moves s k x;
      kept = λ end h. kept end;
    }

    one_step : (k : Known) (x : SpecificationTree) → low ≤ k.next → k.next + count_in x ≤ high → Below k.next k → specification_rows s ms k x ≡ [] → PartStep k x
    one_step k (declares d) from to below none =
        let rows = second (specifier_rows s k d.specifier) _ none in
        let long = length-map d.entities (own d.attributes) in
        let walked : EntitiesWalked s d k d.entities =
        entities_walked s d k (first (flat_map (dimension_rows (context s k)) (attributes_of d)) _ rows) from (omega (arith, long, to)) below
        (second (flat_map (dimension_rows (context s k)) (attributes_of d)) _ rows) in
        let same = ones s d d.entities in
        record {
          keeps = walked.keeps;
          below =
              raised (k.next + total (entity_rows s d) (entity_next s d) one_each (Kept s d) d.entities) (k.next + count_in (declares d))
              (specification_next s k (declares d)) (omega (arith, same, long)) walked.below;
          moved = moves s k (declares d);
          kept = walked.kept;
        }
    one_step k (accesses a) from to below none = passed k (accesses a) below refl (λ end. tt)
    one_step k (protects p ns) from to below none = passed k (protects p ns) below refl (λ end. tt)
    one_step k (saves p) from to below none = passed k (saves p) below refl (λ end. tt)
    one_step k (defines t) from to below none = record {
      keeps = λ e v h. h;
      below = λ e v h. raised k.next (k.next + count_in (defines t)) k (omega arith) below e v h;
      moved = moves s k (defines t);
      kept = λ end h. components_kept (in_type s) k end (λ e v g. h e v g) t.components (first (flat_map (component_rows (in_type s) k) t.components) _ none);
    }

    counted : (xs : List SpecificationTree) → total (specification_rows s ms) (specification_next s) count_in (KeptIn s) xs ≡ length (flat_map declared_in xs)
    counted [] = refl
    counted (x ∷ xs) =
        let more = counted xs in
        let long = length-append (declared_in x) (flat_map declared_in xs) in
        omega (arith, more, long)

    -- what a part leads to
    pub record PartKept (k : Known) (xs : List SpecificationTree) : Type 0 where
      pub keeps : Keeps k (after (specification_next s) k xs)
      pub below : Below (k.next + length (flat_map declared_in xs)) (after (specification_next s) k xs)
      pub kept : (end : Known) → Keeps (after (specification_next s) k xs) end → Each (KeptIn s end) xs

    pub part_kept : (k : Known) (xs : List SpecificationTree) → low ≤ k.next → k.next + length (flat_map declared_in xs) ≤ high → Below k.next k
        → along (specification_rows s ms) (specification_next s) k xs ≡ [] → PartKept k xs
    part_kept k xs from to below none =
        let same = counted xs in
        let walked : PartWalked k xs =
        walk (specification_rows s ms) (specification_next s) count_in (KeptIn s) k (λ j x since a b c rows. one_step j x a b c rows) k xs (λ e v h. h) from
        (omega (arith, same, to)) below none in
        record {
          keeps = walked.keeps;
          below =
              raised (k.next + total (specification_rows s ms) (specification_next s) count_in (KeptIn s) xs) (k.next + length (flat_map declared_in xs))
              (after (specification_next s) k xs) (omega (arith, same)) walked.below;
          kept = walked.kept;
        }

  -- ---- procedures, in ascending order

  abbrev pub ends_at : Member → ℕ
  ends_at m = m.first + length (typed_result ((m.tree).header).kind ((m.tree).header).name ++ flat_map declared_in ((m.tree).part).specifications)

  abbrev pub Ascends : ℕ → List Member → Type 0
  Ascends lo [] = ⊤
  Ascends lo (m ∷ ms) = (lo ≤ m.first) × (ends_at m ≤ high) × Ascends (ends_at m) ms

  typed_long : (kind : ProcedureKind) (n : Name) → length (typed_result kind n) ≡ map_or 0 (λ (t : TypeSpecifier). 1) (specifier_of kind)
  typed_long Subroutine n = refl
  typed_long (Function None outcome) n = refl
  typed_long (Function (Some t) outcome) n = refl

  module _ (scene : Scene) (unit : ℕ) where
    pub record MembersKept (k : Known) (ms : List Member) : Type 0 where
      pub keeps : Keeps k (after (member_next scene unit) k ms)
      pub below : Below high (after (member_next scene unit) k ms)
      pub kept : (end : Known) → Keeps (after (member_next scene unit) k ms) end → Each (MemberKept scene end unit) ms

    pub members_kept : (lo : ℕ) (k : Known) (ms : List Member) → low ≤ lo → lo ≤ high → Ascends lo ms → Below lo k
        → along (member_rows scene unit) (member_next scene unit) k ms ≡ [] → MembersKept k ms
    members_kept lo k [] from to up below none = record { keeps = λ e v h. h; below = raised lo high k to below; kept = λ end h. tt }
    members_kept lo k (m ∷ ms) from to up below none =
        let s : Spot = spot_of scene unit m in
        let specifications : List SpecificationTree = ((m.tree).part).specifications in
        let inside : Known = within_member m k in
        let typed = typed_long ((m.tree).header).kind ((m.tree).header).name in
        let long = length-append (typed_result ((m.tree).header).kind ((m.tree).header).name) (flat_map declared_in specifications) in
        let low_m = up.0 in
        let high_m = up.1 in
        let rows = first (along (specification_rows s []) (specification_next s) inside specifications) _
        (second (header_rows s k ((m.tree).header).name ((m.tree).header).kind) _ (first (member_rows scene unit k m) _ none)) in
        let part : PartKept s [] inside specifications =
        part_kept s [] inside specifications (omega (arith, from, low_m)) (omega (arith, typed, long, high_m))
        (λ e v h. raised lo inside.next k (omega (arith, low_m)) below e v h) rows in
        let rest : MembersKept (member_next scene unit k m) ms =
        members_kept (ends_at m) (member_next scene unit k m) ms (omega (arith, from, low_m)) high_m up.2
        (raised (inside.next + length (flat_map declared_in specifications)) (ends_at m) (member_next scene unit k m) (omega (arith, typed, long)) part.below)
        (second (member_rows scene unit k m) _ none) in
        let behind : Known = after (member_next scene unit) (member_next scene unit k m) ms in
        record {
          keeps = λ e v h. rest.keeps e v (part.keeps e v h);
          below = rest.below;
          kept = λ end h. (part.kept end (keeps_on (member_next scene unit k m) behind end rest.keeps h), rest.kept end h);
        }
