-- What the walks take is what the definitions number.
use Rattle.std.proofs.Common.{◌≡◌, ℕ, ◌+◌, Bool, true, false, not, ◌&&◌, cond, if◌then◌else◌, List, [], ◌∷◌, ◌++◌, map, length, filter, refl, ap, ◌∙◌}
use Rattle.std.specs.List.{flat_map}
use Rattle.std.proofs.lemmas.List.{map-append}
use Rattle.std.proofs.lemmas.List.Elements.{filter-append}
use Rattle.f3_scopes.specs.Outlines.{Scope}
use Rattle.f3_scopes.specs.Scopes.{unit_scopes, declared_in}
use Rattle.f3_tree.specs.declared.program.UnitKind.{UnitKind}
use Rattle.f3_tree.specs.declared.program.UnitKind.TheVariants as unit
use Rattle.f3_tree.specs.Declarations.{parameter, EntityTree, DeclarationTree, SpecificationTree, declares, accesses, protects, saves, defines}
use Rattle.f3_tree.specs.Tree.{UnitTree}
use Rattle.f3_type_rules.specs.Attributes.{has}
use Rattle.f3_type_rules.specs.Associates.{constructs_of_block}
use Rattle.f3_type_rules.specs.Members.{Member, Numbered, numbered, units_from}
use Rattle.f3_elaboration.specs.Numbers.{Variable, Definition, declared_from, names_in, types_in, along_part, unit_names, member_names, definitions, is_variable, is_saved, is_static_in, unit_statics}
use Rattle.f3_program_numbers.specs.Chosen.{Choice, is_saved_name, takes, taken_from, taken_in, taken_along, defined_in, defined_along}
use Rattle.f3_program_numbers.specs.Walks.{kept_by, saved_alone, member_taken, statics_by, procedures_by, types_by}
use Rattle.f3_program_numbers.proofs.Owned.{counted_same}

abbrev entity : Variable → ℕ
entity v = v.entity

-- a choice that is a question on variables
abbrev pub Chooses : Choice → (Variable → Bool) → Type 0
Chooses w p = (v : Variable) → p v ≡ takes w v.tree

module _ (p : Variable → Bool) (w : Choice) (same : Chooses w p) (u s : ℕ) where
  declared_same : (e : ℕ) (d : DeclarationTree) (xs : List EntityTree) → map entity (filter p (declared_from u s e d xs)) ≡ taken_from w e d xs
  declared_same e d [] = refl
  declared_same e d (x ∷ xs) =
      let v : Variable = record { entity = e; unit = u; scope = s; tree = (d, x) } in
      step (p v) (takes w (d, x)) v (filter p (declared_from u s (e + 1) d xs)) (taken_from w (e + 1) d xs) (same v) (declared_same (e + 1) d xs)
    where
      step : (b c : Bool) (v : Variable) (r : List Variable) (t : List ℕ) → b ≡ c → map entity r ≡ t
          → map entity (cond b (v ∷ r) r) ≡ (if c then v.entity ∷ [] else []) ++ t
      step true true v r t h k = ap (λ l. v.entity ∷ l) k
      step false false v r t h k = k
      step true false v r t h k = absurd (cc)
      step false true v r t h k = absurd (cc)

  one_same : (e : ℕ) (x : SpecificationTree) → map entity (filter p (names_in u s e x)) ≡ taken_in w e x
  one_same e (declares d) = declared_same e d d.entities
  one_same e (accesses a) = refl
  one_same e (protects q ns) = refl
  one_same e (saves q) = refl
  one_same e (defines t) = refl

  -- of a specification part
  pub names_same : (e : ℕ) (ss : List SpecificationTree) → map entity (filter p (along_part (names_in u s) e ss)) ≡ taken_along w e ss
  names_same e [] = refl
  names_same e (x ∷ xs) =
      let k : ℕ = e + length (declared_in x) in
      ap (map entity) (filter-append p (names_in u s e x) (along_part (names_in u s) k xs))
      ∙ map-append entity (filter p (names_in u s e x)) (filter p (along_part (names_in u s) k xs))
      ∙ ap (λ l. l ++ map entity (filter p (along_part (names_in u s) k xs))) (one_same e x)
      ∙ ap (λ l. taken_in w e x ++ l) (names_same k xs)

-- ---- types

types_one : (u : Numbered) (e : ℕ) (x : SpecificationTree) → map (λ (d : Definition). d.entity) (types_in u e x) ≡ defined_in e x
types_one u e (declares d) = refl
types_one u e (accesses a) = refl
types_one u e (protects q ns) = refl
types_one u e (saves q) = refl
types_one u e (defines t) = refl

types_along : (u : Numbered) (e : ℕ) (ss : List SpecificationTree) → map (λ (d : Definition). d.entity) (along_part (types_in u) e ss) ≡ defined_along e ss
types_along u e [] = refl
types_along u e (x ∷ xs) =
    let k : ℕ = e + length (declared_in x) in
    map-append (λ (d : Definition). d.entity) (types_in u e x) (along_part (types_in u) k xs)
    ∙ ap (λ l. l ++ map (λ (d : Definition). d.entity) (along_part (types_in u) k xs)) (types_one u e x)
    ∙ ap (λ l. defined_in e x ++ l) (types_along u k xs)

-- ---- of all units

map_flat : {X Y : Type 0} (g : Y → ℕ) (f : X → List Y) (h : X → List ℕ) → ((x : X) → map g (f x) ≡ h x) → (xs : List X) → map g (flat_map f xs) ≡ flat_map h xs
map_flat g f h same [] = refl
map_flat g f h same (x ∷ xs) = map-append g (f x) (flat_map f xs) ∙ ap (λ l. l ++ map g (flat_map f xs)) (same x) ∙ ap (λ l. h x ++ l) (map_flat g f h same xs)

pub types_same : (ordered : List Numbered) → map (λ (d : Definition). d.entity) (flat_map definitions ordered) ≡ flat_map types_by ordered
types_same ordered = map_flat (λ (d : Definition). d.entity) definitions types_by (λ u. types_along u u.first ((u.tree).part).specifications) ordered

keeps_module : (a b : Bool) → not a ≡ (not a && (if b then true else (true && not false)))
keeps_module true b = refl
keeps_module false true = refl
keeps_module false false = refl

keeps_saved : (a b : Bool) → (not a && b) ≡ (not a && (if b then true else (false && not false)))
keeps_saved true b = refl
keeps_saved false true = refl
keeps_saved false false = refl

pub keeps_kind : (kind : UnitKind) → Chooses (kept_by kind) (is_static_in kind)
keeps_kind unit.Module v = keeps_module (has parameter (v.tree).0) (is_saved_name v.tree)
keeps_kind unit.Program v = keeps_saved (has parameter (v.tree).0) (is_saved_name v.tree)

member_same : (u : ℕ) (m : Member) → map entity (filter (λ v. is_variable v && is_saved v) (member_names u m)) ≡ member_taken saved_alone m
member_same u m =
    names_same (λ v. is_variable v && is_saved v) saved_alone (λ v. keeps_saved (has parameter (v.tree).0) (is_saved_name v.tree)) u m.scope _ ((m.tree).part).specifications

unit_same : (u : Numbered) → map entity (unit_statics u) ≡ statics_by u
unit_same u =
    let own = filter (is_static_in (u.tree).kind) (unit_names u) in
    let inner = flat_map (λ (m : Member). filter (λ v. is_variable v && is_saved v) (member_names u.scope m)) u.members in
    map-append entity own inner
    ∙ ap (λ l. l ++ map entity inner) (names_same (is_static_in (u.tree).kind) (kept_by (u.tree).kind) (keeps_kind (u.tree).kind) u.scope u.scope u.first ((u.tree).part).specifications)
    ∙ ap (λ l. taken_along (kept_by (u.tree).kind) u.first ((u.tree).part).specifications ++ l)
    (map_flat entity (λ (m : Member). filter (λ v. is_variable v && is_saved v) (member_names u.scope m)) (member_taken saved_alone) (member_same u.scope) u.members)

pub statics_same : (units : List Numbered) → map (λ (v : Variable). v.entity) (flat_map unit_statics units) ≡ flat_map statics_by units
statics_same units = map_flat (λ (v : Variable). v.entity) unit_statics statics_by unit_same units

pub procedures_same : (scopes : List Scope) (n : ℕ) (us : List UnitTree)
    → flat_map (λ (u : Numbered). map (λ (m : Member). m.entity) u.members) (units_from scopes n us) ≡ flat_map procedures_by (units_from scopes n us)
procedures_same scopes n [] = refl
procedures_same scopes n (u ∷ us) =
    let x : Numbered = numbered scopes n u in
    let rest : List Numbered = units_from scopes (n + length (unit_scopes n u)) us in
    ap (λ l. l ++ flat_map (λ (y : Numbered). map (λ (m : Member). m.entity) y.members) rest)
    (counted_same scopes (x.first + length (flat_map declared_in (u.part).specifications)) (n + 1 + length (constructs_of_block u.body)) u.procedures)
    ∙ ap (λ l. procedures_by x ++ l) (procedures_same scopes (n + length (unit_scopes n u)) us)
