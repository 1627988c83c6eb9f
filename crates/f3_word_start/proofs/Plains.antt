-- Programs without allocatables.
use Rattle.std.proofs.Common.{◌≡◌, ℕ, zero, suc, ◌<◌, Bool, true, false, List, [], ◌∷◌, ◌++◌, length, map, take, get_or, refl, sym, ap, subst, ◌∙◌, arith}
use Rattle.std.specs.Prelude.{not, ◌&&◌, ◌↔◌, Some, slice_get, All}
use Rattle.std.proofs.lemmas.Bool.{and_from, and_parts}
use Rattle.std.proofs.lemmas.List.Elements.{All-nil, All-cons, All-head, All-tail, All-map, All-push, All-get_or}
use Rattle.std.proofs.lemmas.List.{get_or_default}
use Rattle.f3_program.specs.declared.declarations.Base.{Base}
use Rattle.f3_program.specs.declared.declarations.Base.TheVariants as base
use Rattle.f3_program.specs.declared.declarations.Component.{Component}
use Rattle.f3_program.specs.declared.declarations.Declared.{Declared}
use Rattle.f3_program.specs.declared.declarations.Derived.{Derived}
use Rattle.f3_program.specs.declared.program.Procedure.{Procedure}
use Rattle.f3_program.specs.declared.program.Program.{Program}
use Rattle.f3_program.specs.declared.program.Static as static
use Rattle.f3_meaning_whole.specs.Exec.{declared_in}
use Rattle.f3_meaning_whole.specs.Shape.{Shape, Whole, Record, shape_in, parts_in, shapes_from, shapes_of}
use Rattle.f3_rooms.specs.Flat.{is_flat, are_flat}
use Rattle.f3_type_words.proofs.TableLaws.{shape_stands, shapes_number}
use Rattle.f3_meaning_whole.specs.Run.{setting_of}
use Rattle.f3_code.specs.State as c
use Rattle.f3_gen_values.specs.declared.emission.Emission.{Emission}
use Rattle.f3_gen_values.specs.declared.line.Line.{Line}
use Rattle.f3_gen_values.specs.Emitted.{line_in}
use Rattle.f3_gen_values.specs.Emission.{code_in}
use Rattle.f3_word_cells.specs.Plain.{ArePlain, IsPlain, is_plain_act}
use Rattle.f3_word_cells.specs.Scenes.{code_of}
use Rattle.f3_word_start.specs.Inner.Declared.{IsDeclaredPlain}

-- ---- types

abbrev pub IsPlainOne : Component → Type 0
IsPlainOne c = c.declared.kind.is_allocatable ≡ false

abbrev pub HasPlain : Derived → Type 0
HasPlain t = All IsPlainOne t.components.items

abbrev AreFlat : List Shape → Type 0
AreFlat ss = All (λ s. is_flat s ≡ true) ss

-- a type among these, or one that is not there
type_at : (ss : List Shape) (t : ℕ) → AreFlat ss → is_flat (get_or ss t Whole) ≡ true
type_at [] t h = refl
type_at (s ∷ ss) zero h = All-head (λ r. is_flat r ≡ true) s ss h
type_at (s ∷ ss) (suc t) h = type_at ss t (All-tail (λ r. is_flat r ≡ true) s ss h)

of_type : (ss : List Shape) (of : Base) → AreFlat ss → is_flat (shape_in ss of) ≡ true
of_type ss base.Integer h = refl
of_type ss base.Long h = refl
of_type ss base.Logical h = refl
of_type ss (base.Derived t) h = type_at ss t h

parts_flat : (ss : List Shape) (cs : List Component) → AreFlat ss → All IsPlainOne cs → are_flat (parts_in ss cs) ≡ true
parts_flat ss [] h plain = refl
parts_flat ss (c ∷ cs) h plain =
    let s : Bool = is_flat (shape_in ss c.declared.kind.of) in
    and_from (not c.declared.kind.is_allocatable) (s && are_flat (parts_in ss cs)) (ap not (All-head IsPlainOne c cs plain))
    (and_from s (are_flat (parts_in ss cs)) (of_type ss c.declared.kind.of h) (parts_flat ss cs h (All-tail IsPlainOne c cs plain)))

types_flat : (ss : List Shape) (ts : List Derived) → AreFlat ss → All HasPlain ts → AreFlat (shapes_from ss ts)
types_flat ss [] h plain = h
types_flat ss (t ∷ ts) h plain =
    let s : Shape = Record (length ss) (parts_in ss t.components.items) in
    types_flat (ss ++ s ∷ []) ts
    (All-push (λ r. is_flat r ≡ true) ss s h (parts_flat ss t.components.items h (All-head HasPlain t ts plain)))
    (All-tail HasPlain t ts plain)

not_is : (b : Bool) → not b ≡ true → b ≡ false
not_is true e = absurd (cc)
not_is false e = refl

parts_plain : (ss : List Shape) (cs : List Component) → are_flat (parts_in ss cs) ≡ true → All IsPlainOne cs
parts_plain ss [] h = All-nil IsPlainOne
parts_plain ss (c ∷ cs) h =
    let s : Bool = is_flat (shape_in ss c.declared.kind.of) in
    let here = and_parts (not c.declared.kind.is_allocatable) (s && are_flat (parts_in ss cs)) h in
    let rest = and_parts s (are_flat (parts_in ss cs)) here.1 in
    All-cons IsPlainOne c cs (not_is c.declared.kind.is_allocatable here.0) (parts_plain ss cs rest.1)

types_plain : (ts : List Derived) → AreFlat (shapes_of ts) → All HasPlain ts
types_plain ts flat i d lt =
    let x : Derived = get_or ts i d in
    let many : i < length (shapes_of ts) = omega (arith, shapes_number ts) in
    parts_plain (shapes_of (take i ts)) x.components.items
    (ap is_flat (sym (shape_stands ts i x Whole lt (get_or_default ts i d x lt))) ∙ All-get_or (λ s. is_flat s ≡ true) (shapes_of ts) i Whole many flat)

-- ---- variables

pub unmapped : {X Y : Type 0} (P : X → Type 0) (f : Y → X) (ys : List Y) → All P (map f ys) → All (λ y. P (f y)) ys
unmapped P f [] h = All-nil (λ y. P (f y))
unmapped P f (y ∷ ys) h = All-cons (λ z. P (f z)) y ys (All-head P (f y) (map f ys) h) (unmapped P f ys (All-tail P (f y) (map f ys) h))

abbrev pub IsPlainStatic : static.Static → Type 0
IsPlainStatic y = y.declared.kind.is_allocatable ≡ false

abbrev pub IsPlainProcedure : Procedure → Type 0
IsPlainProcedure q = ArePlain (declared_in q)

pub at_each : {X : Type 0} (P : X → Type 0) (qs : List X) → All P qs → (f : ℕ) (q : X) → slice_get qs f ≡ Some q → P q
at_each P [] h f q e = absurd (cc)
at_each P (r ∷ qs) h zero q e = let same : r ≡ q = cc in subst P same (All-head P r qs h)
at_each P (r ∷ qs) h (suc f) q e = at_each P qs (All-tail P r qs h) f q e

pub of_each : {X : Type 0} (P : X → Type 0) (qs : List X) → ((f : ℕ) (q : X) → slice_get qs f ≡ Some q → P q) → All P qs
of_each P [] h = All-nil P
of_each P (r ∷ qs) h = All-cons P r qs (h 0 r refl) (of_each P qs (λ f q e. h (suc f) q e))

-- ---- tests

abbrev pub Tells : {X : Type 0} → (X → Type 0) → List X → Bool → Type 0
Tells P xs b = (b ≡ true) ↔ All P xs

pub no : {P : Type 0} → (P → ⊥) → (false ≡ true) ↔ P
no h = (λ e. absurd (cc), λ q. absurd (h q))

pub failed : {P : Type 0} (b : Bool) → (b ≡ true) ↔ P → b ≡ false → P → ⊥
failed b test e p = let f : b ≡ true = test.1 p in absurd (cc)

-- what is declared
module _ (p : Program) where
  pub types_not : (b : Bool) (ts : List Derived) → ts ≡ p.types.items → Tells HasPlain ts b → b ≡ false → (false ≡ true) ↔ IsDeclaredPlain p
  types_not b ts same told not = no (λ plain. failed b told not (subst (All HasPlain) (sym same) (types_plain p.types.items plain.types)))

  pub statics_not : (b : Bool) (ys : List static.Static) → ys ≡ p.statics.items → Tells IsPlainStatic ys b → b ≡ false → (false ≡ true) ↔ IsDeclaredPlain p
  statics_not b ys same told not =
      let f : static.Static → Declared = λ (y : static.Static). y.declared in
      no (λ plain. failed b told not (subst (All IsPlainStatic) (sym same) (unmapped (λ (d : Declared). d.kind.is_allocatable ≡ false) f p.statics.items plain.statics)))

  pub all_plain : (b c d e : Bool) (ts : List Derived) (ys : List static.Static) (qs : List Procedure) → ts ≡ p.types.items → ys ≡ p.statics.items → qs ≡ p.procedures.items
      → Tells HasPlain ts b → Tells IsPlainStatic ys c → (d ≡ true) ↔ IsPlainProcedure p.main → Tells IsPlainProcedure qs e
      → b ≡ true → c ≡ true → d ≡ true → (e ≡ true) ↔ IsDeclaredPlain p
  all_plain b c d e ts ys qs types statics procedures types_told statics_told main_told told is_b is_c is_d = (
    λ is. record {
      types = types_flat [] p.types.items (All-nil (λ r. is_flat r ≡ true)) (subst (All HasPlain) types (types_told.0 is_b));
      statics = All-map (λ (x : Declared). x.kind.is_allocatable ≡ false) (λ (y : static.Static). y.declared) p.statics.items
          (subst (All IsPlainStatic) statics (statics_told.0 is_c));
      main = main_told.0 is_d;
      procedures = subst (All IsPlainProcedure) procedures (told.0 is);
    },
    λ plain. told.1 (subst (All IsPlainProcedure) (sym procedures) plain.procedures),
  )

-- ---- programs

abbrev pub IsPlainLine : Line → Type 0
IsPlainLine l = is_plain_act l.act ≡ true

abbrev IsPlainCode : c.Line → Type 0
IsPlainCode l = is_plain_act l.act ≡ true

module _ (p : Program) where
  pub declared_not : (b : Bool) → (b ≡ true) ↔ IsDeclaredPlain p → b ≡ false → (false ≡ true) ↔ IsPlain p
  declared_not b told not = no (λ plain. failed b told not (record {
    types = plain.types;
    statics = plain.statics;
    main = plain.main;
    procedures = of_each IsPlainProcedure p.procedures.items plain.procedures;
  }))

  module _ (e : Emission) (code : code_in p e ≡ code_of p) (b : Bool) (ls : List Line) (same : ls ≡ e.lines.items) (told : Tells IsPlainLine ls b) where
    all_lines : b ≡ true → All IsPlainCode (code_of p).lines
    all_lines is = subst (λ (z : c.Code). All IsPlainCode z.lines) code
        (All-map IsPlainCode (line_in (setting_of p)) e.lines.items (subst (All IsPlainLine) same (told.0 is)))

    these_lines : IsPlain p → All IsPlainLine ls
    these_lines plain = subst (All IsPlainLine) (sym same) (unmapped IsPlainCode (line_in (setting_of p)) e.lines.items
        (subst (λ (z : c.Code). All IsPlainCode z.lines) (sym code) (of_each IsPlainCode (code_of p).lines plain.lines)))

    pub is_plain_so : (d : Bool) → (d ≡ true) ↔ IsDeclaredPlain p → d ≡ true → (b ≡ true) ↔ IsPlain p
    is_plain_so d declared_told is_d = (
      λ is. record {
        types = (declared_told.0 is_d).types;
        statics = (declared_told.0 is_d).statics;
        main = (declared_told.0 is_d).main;
        procedures = at_each IsPlainProcedure p.procedures.items (declared_told.0 is_d).procedures;
        lines = at_each IsPlainCode (code_of p).lines (all_lines is);
      },
      λ plain. told.1 (these_lines plain),
    )
