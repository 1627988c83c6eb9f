-- Programs whose arrays have few dimensions.
use Rattle.std.proofs.Common.{◌≡◌, Bool, true, false, List, map, refl, sym, subst, ap, ◌∙◌}
use Rattle.std.specs.Prelude.{◌↔◌, Some, slice_get, All}
use Rattle.std.proofs.lemmas.List.Elements.{All-map}
use Rattle.f3_program.specs.declared.declarations.Base.TheVariants as base
use Rattle.f3_program.specs.declared.declarations.Component.{Component}
use Rattle.f3_program.specs.declared.declarations.Declared.{Declared}
use Rattle.f3_program.specs.declared.declarations.Derived.{Derived}
use Rattle.f3_program.specs.declared.program.Procedure.{Procedure}
use Rattle.f3_program.specs.declared.program.Program.{Program}
use Rattle.f3_program.specs.declared.program.Static as static
use Rattle.f3_meaning_whole.specs.Act.{component_in}
use Rattle.f3_meaning_whole.specs.Exec.{declared_in}
use Rattle.f3_word_cells.specs.Ranks.{AreRanked, ComponentsHaveRanks, HasRank, HaveRanks}
use Rattle.f3_word_start.proofs.Plains.{Tells, at_each, failed, no, of_each, unmapped}

abbrev pub IsRankedOne : Component → Type 0
IsRankedOne c = HasRank c.declared

abbrev pub HasRanked : Derived → Type 0
HasRanked t = All IsRankedOne t.components.items

abbrev pub IsRankedStatic : static.Static → Type 0
IsRankedStatic y = HasRank y.declared

abbrev pub IsRankedProcedure : Procedure → Type 0
IsRankedProcedure q = All HasRank (declared_in q)

-- the components of types
types_ranked : (ts : List Derived) → All HasRanked ts → ComponentsHaveRanks ts
types_ranked ts all (base.Derived t) k c e = at_type (slice_get ts t) refl e
  where
    at_type : (o : _) → slice_get ts t ≡ o → component_in o k ≡ Some c → HasRank c.declared
    at_type (Some d) is e = at_each IsRankedOne d.components.items (at_each HasRanked ts all t d is) k c e
    at_type o is e = cc
types_ranked ts all base.Integer k c e = cc
types_ranked ts all base.Long k c e = cc
types_ranked ts all base.Logical k c e = cc

ranked_types : (ts : List Derived) → ComponentsHaveRanks ts → All HasRanked ts
ranked_types ts ranks = of_each HasRanked ts (λ t d is. of_each IsRankedOne d.components.items (λ k c e. ranks (base.Derived t) k c (ap (λ o. component_in o k) is ∙ e)))

abbrev declared : static.Static → Declared
declared y = y.declared

statics_ranked : (ys : List static.Static) → All IsRankedStatic ys → HaveRanks (map declared ys)
statics_ranked ys all = at_each HasRank (map declared ys) (All-map HasRank declared ys all)

ranked_statics : (ys : List static.Static) → HaveRanks (map declared ys) → All IsRankedStatic ys
ranked_statics ys ranks = unmapped HasRank declared ys (of_each HasRank (map declared ys) ranks)

module _ (p : Program) where
  pub types_not : (b : Bool) (ts : List Derived) → ts ≡ p.types.items → Tells HasRanked ts b → b ≡ false → (false ≡ true) ↔ AreRanked p
  types_not b ts same told not = no (λ ranks. failed b told not (subst (All HasRanked) (sym same) (ranked_types p.types.items ranks.types)))

  pub statics_not : (b : Bool) (ys : List static.Static) → ys ≡ p.statics.items → Tells IsRankedStatic ys b → b ≡ false → (false ≡ true) ↔ AreRanked p
  statics_not b ys same told not = no (λ ranks. failed b told not (subst (All IsRankedStatic) (sym same) (ranked_statics p.statics.items ranks.statics)))

  pub main_not : (b : Bool) → (b ≡ true) ↔ IsRankedProcedure p.main → b ≡ false → (false ≡ true) ↔ AreRanked p
  main_not b told not = no (λ ranks. failed b told not (of_each HasRank (declared_in p.main) ranks.main))

  pub all_ranked : (b c d e : Bool) (ts : List Derived) (ys : List static.Static) (qs : List Procedure) → ts ≡ p.types.items → ys ≡ p.statics.items → qs ≡ p.procedures.items
      → Tells HasRanked ts b → Tells IsRankedStatic ys c → (d ≡ true) ↔ IsRankedProcedure p.main → Tells IsRankedProcedure qs e
      → b ≡ true → c ≡ true → d ≡ true → (e ≡ true) ↔ AreRanked p
  all_ranked b c d e ts ys qs types statics procedures types_told statics_told main_told told is_b is_c is_d = (
    λ is. record {
      statics = statics_ranked p.statics.items (subst (All IsRankedStatic) statics (statics_told.0 is_c));
      main = at_each HasRank (declared_in p.main) (main_told.0 is_d);
      procedures = λ f q at. at_each HasRank (declared_in q) (at_each IsRankedProcedure p.procedures.items (subst (All IsRankedProcedure) procedures (told.0 is)) f q at);
      types = types_ranked p.types.items (subst (All HasRanked) types (types_told.0 is_b));
    },
    λ ranks. told.1 (subst (All IsRankedProcedure) (sym procedures)
        (of_each IsRankedProcedure p.procedures.items (λ f q at. of_each HasRank (declared_in q) (ranks.procedures f q at)))),
  )
