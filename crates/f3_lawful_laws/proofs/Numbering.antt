-- Each procedure has the number that its entity has.
use Rattle.std.proofs.Common.{◌≡◌, ℕ, List, [], ◌∷◌, ◌++◌, map, Some, refl, sym, ap, ◌∙◌}
use Rattle.std.specs.Prelude.{slice_get}
use Rattle.std.specs.List.{flat_map}
use Rattle.f3_program.specs.declared.program.Program.{Program}
use Rattle.f3_kinds.specs.Things.{map_or}
use Rattle.f3_meaning_whole.specs.Permitted.{Each}
use Rattle.f3_type_rules.specs.Members.{Member, Numbered}
use Rattle.f3_elaboration.specs.Numbers.{number_in}
use Rattle.f3_elaboration.specs.Declarations.{Whole}
use Rattle.f3_elaboration.specs.DeclaredViews.{procedure_view}
use Rattle.f3_elaboration.specs.Units.{procedure}
use Rattle.f3_lawful_laws.proofs.Numbered.{IsProcedure}
use Rattle.f3_lawful_laws.proofs.Ascending.{Ascends, position_at, entities_in}
use Rattle.f3_lawful_laws.proofs.Opening.{mapped_at, from_mapped, each_at}

-- all procedures, each with the number of its unit
abbrev pairs_in : List Numbered → List (ℕ × Member)
pairs_in us = flat_map (λ (u : Numbered). map (λ (m : Member). (u.scope, m)) u.members) us

map_joined : {A B : Type 0} (f : A → B) (xs ys : List A) → map f (xs ++ ys) ≡ map f xs ++ map f ys
map_joined f [] ys = refl
map_joined f (x ∷ xs) ys = ap (λ zs. f x ∷ zs) (map_joined f xs ys)

map_twice : {A B C : Type 0} (f : B → C) (g : A → B) (xs : List A) → map f (map g xs) ≡ map (λ x. f (g x)) xs
map_twice f g [] = refl
map_twice f g (x ∷ xs) = ap (λ zs. f (g x) ∷ zs) (map_twice f g xs)

-- what is made of each of them, unit by unit
made : {B : Type 0} (f : ℕ × Member → B) (us : List Numbered)
    → map f (pairs_in us) ≡ flat_map (λ (u : Numbered). map (λ (m : Member). f (u.scope, m)) u.members) us
made f [] = refl
made f (u ∷ us) =
    map_joined f (map (λ (m : Member). (u.scope, m)) u.members) (pairs_in us)
    ∙ ap (λ zs. zs ++ map f (pairs_in us)) (map_twice f (λ (m : Member). (u.scope, m)) u.members)
    ∙ ap (λ zs. map (λ (m : Member). f (u.scope, m)) u.members ++ zs) (made f us)

-- of each pair, so of each procedure of each unit
parted : (Q : ℕ × Member → Type 0) (us : List Numbered) → Each Q (pairs_in us) → Each (λ (u : Numbered). Each (λ (m : Member). Q (u.scope, m)) u.members) us
parted Q [] h = tt
parted Q (u ∷ us) h = (before u.members h, parted Q us (behind u.members h))
  where
    before : (ms : List Member) → Each Q (map (λ (m : Member). (u.scope, m)) ms ++ pairs_in us) → Each (λ (m : Member). Q (u.scope, m)) ms
    before [] h = tt
    before (m ∷ ms) h = (h.0, before ms h.1)

    behind : (ms : List Member) → Each Q (map (λ (m : Member). (u.scope, m)) ms ++ pairs_in us) → Each Q (pairs_in us)
    behind [] h = h
    behind (m ∷ ms) h = behind ms h.1

module _ (p : Program) (w : Whole) (us : List Numbered) (numbers : (w.numbers).procedures ≡ entities_in us) (l : ℕ) (ascend : Ascends l (entities_in us))
    (seen : map procedure_view p.procedures.items ≡ flat_map (λ (u : Numbered). map (procedure w u.scope) u.members) us) where
  at_place : (k : ℕ) (x : ℕ × Member) → slice_get (pairs_in us) k ≡ Some x → IsProcedure p w x.0 x.1
  at_place k x at =
      let place : slice_get (entities_in us) k ≡ Some (x.1).entity =
      ap (λ zs. slice_get zs k) (sym (made (λ (z : ℕ × Member). (z.1).entity) us)) ∙ mapped_at (λ (z : ℕ × Member). (z.1).entity) (pairs_in us) k x at in
      let number : number_in (w.numbers).procedures (x.1).entity ≡ k =
      ap (λ es. number_in es (x.1).entity) numbers ∙ ap (λ o. map_or 0 (λ n. n) o) (position_at l (entities_in us) k (x.1).entity ascend place) in
      let node : slice_get (map procedure_view p.procedures.items) k ≡ Some (procedure w x.0 x.1) =
      ap (λ zs. slice_get zs k) (seen ∙ sym (made (λ (z : ℕ × Member). procedure w z.0 z.1) us))
      ∙ mapped_at (λ (z : ℕ × Member). procedure w z.0 z.1) (pairs_in us) k x at in
      let found = from_mapped procedure_view p.procedures.items k (procedure w x.0 x.1) node in
      record { procedure = found.0; there = ap (slice_get p.procedures.items) number ∙ found.1; is = found.2 }

  -- each procedure of each unit
  pub numbered_all : Each (λ (u : Numbered). Each (IsProcedure p w u.scope) u.members) us
  numbered_all = parted (λ (x : ℕ × Member). IsProcedure p w x.0 x.1) us (each_at (λ (x : ℕ × Member). IsProcedure p w x.0 x.1) (pairs_in us) at_place)
