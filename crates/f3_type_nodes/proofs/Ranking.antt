-- What tables in memory say of final subroutines is what they are.
use Rattle.std.proofs.Common.{◌≡◌, ℕ, List, [], ◌∷◌, ◌++◌, Option, None, Some, option_map, refl, ap, sym, ◌∙◌}
use Rattle.std.specs.List.{flat_map}
use Rattle.f3_lookups.specs.declared.lookup.Lookup.{Lookup}
use Rattle.f3_lookups.specs.declared.lookup.Lookup.TheVariants.{One, Nothing, Several}
use Rattle.f3_access.specs.Tables.{lookup_of}
use Rattle.f3_tree.specs.declared.expression.Name.{Name}
use Rattle.f3_kinds.specs.Things.{map_or}
use Rattle.f3_type_rules.specs.Finals.{member_at, final_rank}
use Rattle.f3_type_rules.specs.Members.{Member, Numbered}
use Rattle.f3_type_rules.specs.Scene.{Scene}
use Rattle.f3_program.specs.declared.declarations.Final.{Final}
use Rattle.f3_finals.specs.Candidates.{member_rank}
use Rattle.f3_finals.specs.Inner.Looked.{rank_at, rank_found}
use Rattle.f3_finals.proofs.Ranked.{ranked}
use Rattle.f3_part_rules.specs.declared.finalizers.Finalizers.{Finalizers}
use Rattle.f3_numbers.specs.Agrees.{Agrees}
use Rattle.f3_numbers.specs.Table.{procedure_at}
use Rattle.f3_elaboration.specs.Declarations.{Whole, final, finals}
use Rattle.f3_elaboration.specs.Numbers.{Definition, Inner, entity_of, number_in}
use Rattle.f3_declaration_nodes.specs.declared.whole.Whole.{Whole as Tables}
use Rattle.f3_type_nodes.specs.Inner.Finals.{final_of, final_found, final_named, finals_by}
use Rattle.f3_type_nodes.specs.Inner.Units.{IsHere}

abbrev one : Option Final → List Final
one x = map_or [] (λ (f : Final). f ∷ []) x

abbrev with_rank : (procedure rank : ℕ) → Final
with_rank p r = record { rank = r; procedure = p }

ranked_one : (t : Tables) (e p : ℕ) (r : Option ℕ) → procedure_at t.numbers.now e ≡ p
    → one (option_map (final_of t e) r) ≡ map_or [] (λ (k : ℕ). with_rank p k ∷ []) r
ranked_one t e p None same = refl
ranked_one t e p (Some k) same = ap (λ (n : ℕ). with_rank n k ∷ []) same

found_stands : (t : Tables) (w : Whole) (inner : Inner) (f : Finalizers) (type : ℕ) (l : Lookup) → Agrees t.numbers.now w.numbers inner
    → one (final_found t f type l)
    ≡ map_or [] (λ (k : ℕ). with_rank (number_in (w.numbers).procedures (entity_of l)) k ∷ []) (rank_found f.first f.candidates.now type l)
found_stands t w inner f type (One e) h =
    ranked_one t e (number_in (w.numbers).procedures e) (rank_at f.first f.candidates.now type e)
    (ap (λ (n : Option ℕ). map_or 0 (λ (k : ℕ). k) n) (h.procedures e))
found_stands t w inner f type Nothing h = refl
found_stands t w inner f type Several h = refl

named_stands : (t : Tables) (f : Finalizers) (scope : ℕ) (w : Whole) (inner : Inner) (u : Numbered) (type : ℕ) (n : Name) → IsHere t f scope w inner u
    → final_named t f scope type n ≡ map_or [] (λ (k : ℕ). final w u n k ∷ []) (final_rank (w.scene).names u.scope u.members type n)
named_stands t f scope w inner u type n h =
    let l : Lookup = (w.scene).names.look u.scope n.symbol in
    ap (λ (s : ℕ). one (final_found t f type (lookup_of t.known.now.tables.now s n.symbol))) (sym h.scope_is)
    ∙ ap (λ (z : Scene). one (final_found t f type (z.names.look u.scope n.symbol))) (sym h.stands.scene)
    ∙ found_stands t w inner f type l h.stands.numbers
    ∙ ap (λ (r : Option ℕ). map_or [] (λ (k : ℕ). final w u n k ∷ []) r)
    (ranked (w.scene).names h.finalizers.scopes type f.first h.finalizers.scope h.finalizers.procedures f.candidates.now l h.finalizers.candidates
    ∙ ap (λ (ms : List Member). map_or None (member_rank (w.scene).names type) (member_at ms l)) (sym h.finalizers.members))

flat_same : {X Y : Type 0} (f g : X → List Y) → ((x : X) → f x ≡ g x) → (xs : List X) → flat_map f xs ≡ flat_map g xs
flat_same f g same [] = refl
flat_same f g same (x ∷ xs) = ap (λ ys. ys ++ flat_map f xs) (same x) ∙ ap (λ ys. g x ++ ys) (flat_same f g same xs)

pub finals_stand : (t : Tables) (f : Finalizers) (scope : ℕ) (w : Whole) (inner : Inner) (d : Definition) → IsHere t f scope w inner d.unit
    → finals_by t f scope d.entity (d.tree).finals ≡ finals w d
finals_stand t f scope w inner d h =
    flat_same (final_named t f scope d.entity) _ (λ n. named_stands t f scope w inner d.unit d.entity n h) (d.tree).finals
