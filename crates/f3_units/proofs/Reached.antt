-- What is read is spelled.
use Rattle.std.proofs.Common.{◌≡◌, ℕ, Bool, true, false, List, [], ◌∷◌, ◌++◌, map, Option, Some, None, ◌⊎◌, inl, inr, refl, sym, ap, subst, ◌∙◌, append_assoc}
use Rattle.std.specs.Prelude.{option_and_then, ◌==◌, ◌&&◌, if◌then◌else◌}
use Rattle.std.specs.Option.{option_map}
use Rattle.std.proofs.lemmas.List.{append-nil}
use Rattle.std.proofs.lemmas.Bool.{eqb-true}
use Rattle.f3_places.specs.declared.source.Place.{Place}
use Rattle.f3_tree.specs.declared.expression.Name.{Name}
use Rattle.f3_tree.specs.declared.program.UnitKind.{UnitKind}
use Rattle.f3_tree.specs.declared.program.UnitKind.TheVariants.{Module, Program}
use Rattle.f3_tree.specs.Statements.{block_of, no_statements}
use Rattle.f3_tree.specs.Tree.{ProcedureTree, UnitTree}
use Rattle.f3_form.specs.declared.form.Ended.{Ended}
use Rattle.f3_blocks.specs.Pieces.{Placed}
use Rattle.f3_blocks.specs.Pieces as blocks_pieces
use Rattle.f3_blocks.specs.Blocks.{IsBlock}
use Rattle.f3_blocks.specs.Machine as blocks
use Rattle.f3_blocks.proofs.Nesting as nesting
use Rattle.f3_parts.specs.Parts.{IsPart, fits_label}
use Rattle.f3_parts.specs.Pieces as parts_pieces
use Rattle.f3_parts.specs.Machine as parts
use Rattle.f3_parts.specs.Machine.{is_none, is_nil}
use Rattle.f3_parts.proofs.Reading as reading
use Rattle.f3_units.specs.Roles.{Role, begins, contains, heads, ends, specifies, executes}
use Rattle.f3_units.specs.Units.{role_of, is_module, fits_unit, fits_procedure, IsProcedure, AreProcedures, IsContained, IsBehind, IsUnit, AllIn, AreUnits}
use Rattle.f3_units.specs.Machine.{Scope, Opened, Begun, State, start, free, busy, fresh, begun, with_part, with_block, is_untouched, to_part, to_block, in_scope, is_over, with_scope, with_procedure, with_closed, procedure_closed, in_procedure, between_procedures, with_contains, in_own, in_unit, unit_closed, still, inside, between_units, step_from, step, run}
use Rattle.f3_units.proofs.Scopes.{then_some}
use Rattle.f3_units.proofs.Spelled.{all_both}

-- ---- a specification part and executable statements

pub record InScope (of_module procedure : Bool) (s : Scope) (ps : List Placed) : Type 0 where
  pub part : List Placed
  pub body : List Placed
  pub is : ps ≡ part ++ body
  pub part_runs : parts.run of_module (map parts_pieces.piece_of part) parts.start ≡ Some s.part
  pub body_runs : blocks.run procedure (map blocks_pieces.piece_of body) blocks.start ≡ Some s.block
  pub apart : (s.part.open_type ≡ None) ⊎ (s.block ≡ blocks.start)

scope_start : (m procedure : Bool) → InScope m procedure fresh []
scope_start m procedure = record { part = []; body = []; is = refl; part_runs = refl; body_runs = refl; apart = inl refl }

parts_more : (m : Bool) (ps : List Placed) (p : Placed) (s t u : parts.State) → parts.run m (map parts_pieces.piece_of ps) s ≡ Some t → parts.step m (parts_pieces.piece_of p) t ≡ Some u → parts.run m (map parts_pieces.piece_of (ps ++ p ∷ [])) s ≡ Some u
parts_more m [] p s t u h is = let same : s ≡ t = cc in rw (same, is) refl
parts_more m (q ∷ ps) p s t u h is =
    let w = then_some (parts.run m (map parts_pieces.piece_of ps)) (parts.step m (parts_pieces.piece_of q) s) t h in
    ap (option_and_then (parts.run m (map parts_pieces.piece_of (ps ++ p ∷ [])))) w.1 ∙ parts_more m ps p w.0 t u w.2 is

blocks_more : (procedure : Bool) (ps : List Placed) (p : Placed) (s t u : blocks.State) → blocks.run procedure (map blocks_pieces.piece_of ps) s ≡ Some t → blocks.step procedure (blocks_pieces.piece_of p) t ≡ Some u → blocks.run procedure (map blocks_pieces.piece_of (ps ++ p ∷ [])) s ≡ Some u
blocks_more procedure [] p s t u h is = let same : s ≡ t = cc in rw (same, is) refl
blocks_more procedure (q ∷ ps) p s t u h is =
    let w = then_some (blocks.run procedure (map blocks_pieces.piece_of ps)) (blocks.step procedure (blocks_pieces.piece_of q) s) t h in
    ap (option_and_then (blocks.run procedure (map blocks_pieces.piece_of (ps ++ p ∷ [])))) w.1 ∙ blocks_more procedure ps p w.0 t u w.2 is

pub nil_list : {A : Type 0} (xs : List A) → is_nil xs ≡ true → xs ≡ []
nil_list [] h = refl
nil_list (x ∷ xs) h = absurd (cc)

none_option : {A : Type 0} (o : Option A) → is_none o ≡ true → o ≡ None
none_option None h = refl
none_option (Some x) h = absurd (cc)

pub both : (a b : Bool) → a && b ≡ true → (a ≡ true) × (b ≡ true)
both true true h = (refl, refl)
both true false h = absurd (cc)
both false b h = absurd (cc)

pub untouched : (b : blocks.State) → is_untouched b ≡ true → b ≡ blocks.start
untouched b h =
    let two = both (is_nil b.opens) (is_nil b.body) h in
    let one : b.opens ≡ [] = nil_list b.opens two.0 in
    let other : b.body ≡ [] = nil_list b.body two.1 in
    ap (λ (x : List blocks.Open). record b { opens = x }) one ∙ ap (λ x. record blocks.start { body = x }) other

no_pieces : (ps : List Placed) → [] ≡ map blocks_pieces.piece_of ps → ps ≡ []
no_pieces [] h = refl
no_pieces (p ∷ ps) h = absurd (cc)

-- where nothing was executed no statement stands
nothing_read : (procedure : Bool) (ps : List Placed) → blocks.run procedure (map blocks_pieces.piece_of ps) blocks.start ≡ Some blocks.start → ps ≡ []
nothing_read procedure ps h = no_pieces ps (nesting.reads procedure ps blocks.start h refl).1

abbrev pub if_true : {A : Type 0} → Bool → Option A → Option A
if_true b x = if b then x else None

pub when : {A : Type 0} (b : Bool) (x : Option A) (y : A) → if_true b x ≡ Some y → (b ≡ true) × (x ≡ Some y)
when true x y h = (refl, h)
when false x y h = absurd (cc)

pub mapped : {A B : Type 0} (f : A → B) (o : Option A) (y : B) → option_map f o ≡ Some y → (x : A) × (o ≡ Some x) × (f x ≡ y)
mapped f (Some x) y h = (x, refl, cc)
mapped f None y h = absurd (cc)

part_push : (m procedure : Bool) (p : Placed) (s t : Scope) (ps : List Placed) → InScope m procedure s ps → to_part m p s ≡ Some t → InScope m procedure t (ps ++ p ∷ [])
part_push m procedure p s t ps h is =
    let one = when (is_untouched s.block) (option_map (with_part s) (parts.step m (parts_pieces.piece_of p) s.part)) t is in
    let two = mapped (with_part s) (parts.step m (parts_pieces.piece_of p) s.part) t one.1 in
    let bare : s.block ≡ blocks.start = untouched s.block one.0 in
    let none : h.body ≡ [] = nothing_read procedure h.body (h.body_runs ∙ ap (λ (b : blocks.State). Some b) bare) in
    subst (λ (x : Scope). InScope m procedure x (ps ++ p ∷ [])) two.2 (record {
      part = h.part ++ p ∷ [];
      body = [];
      is = ap (λ (x : List Placed). x ++ p ∷ []) (h.is ∙ ap (λ (x : List Placed). h.part ++ x) none ∙ append-nil h.part) ∙ sym (append-nil (h.part ++ p ∷ []));
      part_runs = parts_more m h.part p parts.start s.part two.0 h.part_runs two.1;
      body_runs = ap (λ (b : blocks.State). Some b) (sym bare);
      apart = inr bare;
    })

pub part_keeps : (m : Bool) (p : Placed) (s t : Scope) → to_part m p s ≡ Some t → t.block ≡ s.block
part_keeps m p s t is =
    let one = when (is_untouched s.block) (option_map (with_part s) (parts.step m (parts_pieces.piece_of p) s.part)) t is in
    let two = mapped (with_part s) (parts.step m (parts_pieces.piece_of p) s.part) t one.1 in
    ap (λ (x : Scope). x.block) (sym two.2)

block_push : (m procedure : Bool) (p : Placed) (s t : Scope) (ps : List Placed) → InScope m procedure s ps → to_block procedure p s ≡ Some t → InScope m procedure t (ps ++ p ∷ [])
block_push m procedure p s t ps h is =
    let one = when (is_none s.part.open_type) (option_map (with_block s) (blocks.step procedure (blocks_pieces.piece_of p) s.block)) t is in
    let two = mapped (with_block s) (blocks.step procedure (blocks_pieces.piece_of p) s.block) t one.1 in
    subst (λ (x : Scope). InScope m procedure x (ps ++ p ∷ [])) two.2 (record {
      part = h.part;
      body = h.body ++ p ∷ [];
      is = ap (λ (x : List Placed). x ++ p ∷ []) h.is ∙ append_assoc h.part h.body (p ∷ []);
      part_runs = h.part_runs;
      body_runs = blocks_more procedure h.body p blocks.start s.block two.0 h.body_runs two.1;
      apart = inl (none_option s.part.open_type one.0);
    })

scope_push : (procedure : Bool) (r : Role) (p : Placed) (s t : Scope) (ps : List Placed) → InScope false procedure s ps → in_scope procedure r p s ≡ Some t → InScope false procedure t (ps ++ p ∷ [])
scope_push procedure executes p s t ps h is = block_push false procedure p s t ps h is
scope_push procedure specifies p s t ps h is = part_push false procedure p s t ps h is
scope_push procedure contains p s t ps h is = part_push false procedure p s t ps h is
scope_push procedure (begins kind name) p s t ps h is = absurd (cc)
scope_push procedure (heads header) p s t ps h is = absurd (cc)
scope_push procedure (ends what label) p s t ps h is = absurd (cc)

pub record IsWhole (of_module procedure : Bool) (s : Scope) (ps : List Placed) : Type 0 where
  pub part : List Placed
  pub body : List Placed
  pub is : ps ≡ part ++ body
  pub is_part : IsPart of_module s.part.part part
  pub is_body : IsBlock procedure (block_of s.block.body) body

scope_over : (m procedure : Bool) (s : Scope) (ps : List Placed) → InScope m procedure s ps → is_over s ≡ true → IsWhole m procedure s ps
scope_over m procedure s ps h over =
    let two = both (is_none s.part.open_type) (is_nil s.block.opens) over in
    record {
      part = h.part;
      body = h.body;
      is = h.is;
      is_part = reading.reads m h.part s.part h.part_runs (none_option s.part.open_type two.0);
      is_body = nesting.reads procedure h.body s.block h.body_runs (nil_list s.block.opens two.1);
    }

-- ---- procedures

-- a procedure so far
pub record InProcedure (o : Opened) (ps : List Placed) : Type 0 where
  pub first : Placed
  pub rest : List Placed
  pub is : ps ≡ first ∷ rest
  pub begins : role_of first ≡ heads o.header
  pub scope : InScope false true o.scope rest

abbrev pub IsOpen : Option Opened → List Placed → Type 0
IsOpen None ps = ps ≡ []
IsOpen (Some o) ps = InProcedure o ps

procedures_push : (qs : List ProcedureTree) (q : ProcedureTree) (ps fs : List Placed) → AreProcedures qs ps → IsProcedure q fs → AreProcedures (qs ++ q ∷ []) (ps ++ fs)
procedures_push [] q ps fs h is = (fs, [], ap (λ (x : List Placed). x ++ fs) h ∙ sym (append-nil fs), is, refl)
procedures_push (x ∷ qs) q ps fs h is = (h.0, h.1 ++ fs, ap (λ (x : List Placed). x ++ fs) h.2 ∙ append_assoc h.0 h.1 fs, h.3, procedures_push qs q h.1 fs h.4 is)

procedure_ends : (p : Placed) (what : Option Ended) (label : Option Name) (o : Opened) (q : ProcedureTree) (ps : List Placed) → role_of p ≡ ends what label → InProcedure o ps → procedure_closed p.place what label o ≡ Some q → IsProcedure q (ps ++ p ∷ [])
procedure_ends p what label o q ps is h e =
    let made : ProcedureTree = record { header = o.header; part = o.scope.part.part; body = block_of o.scope.block.body; end = p.place } in
    let one = when (is_over o.scope && (fits_procedure what (o.header).kind && fits_label label (o.header).name)) (Some made) q e in
    let two = both (is_over o.scope) (fits_procedure what (o.header).kind && fits_label label (o.header).name) one.0 in
    let three = both (fits_procedure what (o.header).kind) (fits_label label (o.header).name) two.1 in
    let whole = scope_over false true o.scope h.rest h.scope two.0 in
    let same : made ≡ q = let got = one.1 in cc in
    subst (λ (x : ProcedureTree). IsProcedure x (ps ++ p ∷ [])) same (record {
      first = h.first;
      part = whole.part;
      body = whole.body;
      last = p;
      what = what;
      label = label;
      is = ap (λ (x : List Placed). x ++ p ∷ []) (h.is ∙ ap (λ (x : List Placed). h.first ∷ x) whole.is) ∙ ap (λ (x : List Placed). h.first ∷ x) (append_assoc whole.part whole.body (p ∷ []));
      begins = h.begins;
      is_part = whole.is_part;
      is_body = whole.is_body;
      ends = is;
      end = refl;
      what_fits = three.0;
      label_fits = three.1;
    })

-- ---- a unit

-- CONTAINS, and the procedures behind it
pub record IsLater (at : Place) (qs : List ProcedureTree) (o : Option Opened) (ps : List Placed) : Type 0 where
  pub first : Placed
  pub closed : List Placed
  pub opened : List Placed
  pub is : ps ≡ first ∷ (closed ++ opened)
  pub begins : role_of first ≡ contains
  pub place : first.place ≡ at
  pub procedures : AreProcedures qs closed
  pub procedure : IsOpen o opened

abbrev pub IsContaining : Option Place → UnitKind → Scope → List ProcedureTree → Option Opened → List Placed → Type 0
IsContaining None kind s qs o ps = (qs ≡ []) × (o ≡ None) × (ps ≡ [])
IsContaining (Some place) kind s qs o ps = (kind ≡ Module) × (is_over s ≡ true) × IsLater place qs o ps

pub record IsBegun (u : Begun) (ps : List Placed) : Type 0 where
  pub first : Placed
  pub own : List Placed
  pub later : List Placed
  pub is : ps ≡ first ∷ (own ++ later)
  pub begins : role_of first ≡ begins u.kind u.name
  pub place : first.place ≡ u.place
  pub here : AllIn u.file ps
  pub scope : InScope (is_module u.kind) false u.scope own
  pub bare : u.kind ≡ Module → u.scope.block ≡ blocks.start
  pub containing : IsContaining u.contains u.kind u.scope u.procedures u.procedure later

here_more : (file : ℕ) (ps : List Placed) (p : Placed) → AllIn file ps → (p.place).file ≡ file → AllIn file (ps ++ p ∷ [])
here_more file ps p h at = all_both file ps (p ∷ []) h (at, tt)

-- the unit goes on in its own part or among its own statements
own_more : (u : Begun) (s : Scope) (ps : List Placed) (p : Placed) → IsBegun u ps → (p.place).file ≡ u.file → u.contains ≡ None
    → ((own : List Placed) → InScope (is_module u.kind) false u.scope own → InScope (is_module u.kind) false s (own ++ p ∷ [])) → (u.kind ≡ Module → s.block ≡ u.scope.block) → IsBegun (with_scope u s) (ps ++ p ∷ [])
own_more u s ps p h at none scope keeps =
    let over : IsContaining None u.kind u.scope u.procedures u.procedure h.later = subst (λ (c : Option Place). IsContaining c u.kind u.scope u.procedures u.procedure h.later) none h.containing in
    record {
      first = h.first;
      own = h.own ++ p ∷ [];
      later = [];
      is = ap (λ (x : List Placed). x ++ p ∷ []) (h.is ∙ ap (λ (x : List Placed). h.first ∷ (h.own ++ x)) over.2 ∙ ap (λ (x : List Placed). h.first ∷ x) (append-nil h.own)) ∙ ap (λ (x : List Placed). h.first ∷ x) (sym (append-nil (h.own ++ p ∷ [])));
      begins = h.begins;
      place = h.place;
      here = here_more u.file ps p h.here at;
      scope = scope h.own h.scope;
      bare = λ k. keeps k ∙ h.bare k;
      containing = subst (λ (c : Option Place). IsContaining c u.kind s u.procedures u.procedure []) (sym none) (over.0, over.1, refl);
    }

program_module : {P : Type 0} → Program ≡ Module → P
program_module e = absurd (cc)

-- behind CONTAINS the unit goes on with its procedures
later_more : (u : Begun) (c : Place) (qs : List ProcedureTree) (o : Option Opened) (ps : List Placed) (p : Placed) → IsBegun u ps → (p.place).file ≡ u.file → u.contains ≡ Some c
    → ((later : List Placed) → IsLater c u.procedures u.procedure later → IsLater c qs o (later ++ p ∷ [])) → IsBegun (record u { procedures = qs; procedure = o }) (ps ++ p ∷ [])
later_more u c qs o ps p h at is more =
    let over : IsContaining (Some c) u.kind u.scope u.procedures u.procedure h.later = subst (λ (c : Option Place). IsContaining c u.kind u.scope u.procedures u.procedure h.later) is h.containing in
    record {
      first = h.first;
      own = h.own;
      later = h.later ++ p ∷ [];
      is = ap (λ (x : List Placed). x ++ p ∷ []) h.is ∙ ap (λ (x : List Placed). h.first ∷ x) (append_assoc h.own h.later (p ∷ []));
      begins = h.begins;
      place = h.place;
      here = here_more u.file ps p h.here at;
      scope = h.scope;
      bare = h.bare;
      containing = subst (λ (c : Option Place). IsContaining c u.kind u.scope qs o (h.later ++ p ∷ [])) (sym is) (over.0, over.1, more h.later over.2);
    }

-- ---- one statement in a unit

in_procedure_reads : (r : Role) (p : Placed) (u v : Begun) (c : Place) (o : Opened) (ps : List Placed) → role_of p ≡ r → IsBegun u ps → (p.place).file ≡ u.file → u.contains ≡ Some c → u.procedure ≡ Some o
    → in_procedure r p u o ≡ Some v → IsBegun v (ps ++ p ∷ [])
in_procedure_reads r p u v c o ps is h at there opens e = by r is e
  where
    now : (later : List Placed) → IsLater c u.procedures u.procedure later → IsLater c u.procedures (Some o) later
    now later l = subst (λ (x : Option Opened). IsLater c u.procedures x later) opens l

    goes : (r : Role) → option_map (with_procedure u o.header) (in_scope true r p o.scope) ≡ Some v → IsBegun v (ps ++ p ∷ [])
    goes r e =
        let w = mapped (with_procedure u o.header) (in_scope true r p o.scope) v e in
        subst (λ (x : Begun). IsBegun x (ps ++ p ∷ [])) w.2 (later_more u c u.procedures (Some (record { header = o.header; scope = w.0 })) ps p h at there (λ later l. let m = now later l in record {
          first = m.first;
          closed = m.closed;
          opened = m.opened ++ p ∷ [];
          is = ap (λ (x : List Placed). x ++ p ∷ []) m.is ∙ ap (λ (x : List Placed). m.first ∷ x) (append_assoc m.closed m.opened (p ∷ []));
          begins = m.begins;
          place = m.place;
          procedures = m.procedures;
          procedure = record {
            first = m.procedure.first;
            rest = m.procedure.rest ++ p ∷ [];
            is = ap (λ (x : List Placed). x ++ p ∷ []) m.procedure.is;
            begins = m.procedure.begins;
            scope = scope_push true r p o.scope w.0 m.procedure.rest m.procedure.scope w.1;
          };
        }))

    by : (r : Role) → role_of p ≡ r → in_procedure r p u o ≡ Some v → IsBegun v (ps ++ p ∷ [])
    by (ends what label) is e =
        let w = mapped (with_closed u) (procedure_closed p.place what label o) v e in
        subst (λ (x : Begun). IsBegun x (ps ++ p ∷ [])) w.2 (later_more u c (u.procedures ++ w.0 ∷ []) None ps p h at there (λ later l. let m = now later l in record {
          first = m.first;
          closed = m.closed ++ (m.opened ++ p ∷ []);
          opened = [];
          is = ap (λ (x : List Placed). x ++ p ∷ []) m.is ∙ ap (λ (x : List Placed). m.first ∷ x) (append_assoc m.closed m.opened (p ∷ []) ∙ sym (append-nil (m.closed ++ (m.opened ++ p ∷ []))));
          begins = m.begins;
          place = m.place;
          procedures = procedures_push u.procedures w.0 m.closed (m.opened ++ p ∷ []) m.procedures (procedure_ends p what label o w.0 m.opened is m.procedure w.1);
          procedure = refl;
        }))
    by (begins kind name) is e = goes (begins kind name) e
    by contains is e = goes contains e
    by (heads header) is e = goes (heads header) e
    by specifies is e = goes specifies e
    by executes is e = goes executes e

between_reads : (r : Role) (p : Placed) (u v : Begun) (c : Place) (ps : List Placed) → role_of p ≡ r → IsBegun u ps → (p.place).file ≡ u.file → u.contains ≡ Some c → u.procedure ≡ None
    → between_procedures r u ≡ Some v → IsBegun v (ps ++ p ∷ [])
between_reads (heads header) p u v c ps is h at there none e =
    let same : with_procedure u header fresh ≡ v = cc in
    subst (λ (x : Begun). IsBegun x (ps ++ p ∷ [])) same (later_more u c u.procedures (Some (record { header = header; scope = fresh })) ps p h at there (λ later l.
    let m = subst (λ (x : Option Opened). IsLater c u.procedures x later) none l in record {
      first = m.first;
      closed = m.closed;
      opened = p ∷ [];
      is = ap (λ (x : List Placed). x ++ p ∷ []) (m.is ∙ ap (λ (x : List Placed). m.first ∷ (m.closed ++ x)) m.procedure ∙ ap (λ (x : List Placed). m.first ∷ x) (append-nil m.closed));
      begins = m.begins;
      place = m.place;
      procedures = m.procedures;
      procedure = record { first = p; rest = []; is = refl; begins = is; scope = scope_start false true };
    }))
between_reads (begins kind name) p u v c ps is h at there none e = absurd (cc)
between_reads contains p u v c ps is h at there none e = absurd (cc)
between_reads (ends what label) p u v c ps is h at there none e = absurd (cc)
between_reads specifies p u v c ps is h at there none e = absurd (cc)
between_reads executes p u v c ps is h at there none e = absurd (cc)

-- a module's own part goes on
module_reads : (p : Placed) (u v : Begun) (ps : List Placed) → u.kind ≡ Module → IsBegun u ps → (p.place).file ≡ u.file → u.contains ≡ None → option_map (with_scope u) (to_part true p u.scope) ≡ Some v → IsBegun v (ps ++ p ∷ [])
module_reads p u v ps kind h at none e =
    let w = mapped (with_scope u) (to_part true p u.scope) v e in
    subst (λ (x : Begun). IsBegun x (ps ++ p ∷ [])) w.2 (own_more u w.0 ps p h at none
    (λ own s. subst (λ (k : UnitKind). InScope (is_module k) false w.0 (own ++ p ∷ [])) (sym kind) (part_push true false p u.scope w.0 own (subst (λ (k : UnitKind). InScope (is_module k) false u.scope own) kind s) w.1))
    (λ k. part_keeps true p u.scope w.0 w.1))

contains_reads : (p : Placed) (u v : Begun) (ps : List Placed) → u.kind ≡ Module → role_of p ≡ contains → IsBegun u ps → (p.place).file ≡ u.file → u.contains ≡ None → u.procedure ≡ None → with_contains p u ≡ Some v → IsBegun v (ps ++ p ∷ [])
contains_reads p u v ps kind is h at none closed e = by (is_over u.scope) refl
  where
    by : (over : Bool) → is_over u.scope ≡ over → IsBegun v (ps ++ p ∷ [])
    by false no_over = module_reads p u v ps kind h at none (rw no_over at e)
    by true over =
        let went : Some (record u { contains = Some p.place }) ≡ Some v = rw over at e in
        let same : record u { contains = Some p.place } ≡ v = cc in
        let before : IsContaining None u.kind u.scope u.procedures u.procedure h.later = subst (λ (c : Option Place). IsContaining c u.kind u.scope u.procedures u.procedure h.later) none h.containing in
        subst (λ (x : Begun). IsBegun x (ps ++ p ∷ [])) same (record {
          first = h.first;
          own = h.own;
          later = p ∷ [];
          is = ap (λ (x : List Placed). x ++ p ∷ []) (h.is ∙ ap (λ (x : List Placed). h.first ∷ (h.own ++ x)) before.2 ∙ ap (λ (x : List Placed). h.first ∷ x) (append-nil h.own));
          begins = h.begins;
          place = h.place;
          here = here_more u.file ps p h.here at;
          scope = h.scope;
          bare = h.bare;
          containing = (
            kind,
            over,
            record {
              first = p;
              closed = [];
              opened = [];
              is = refl;
              begins = is;
              place = refl;
              procedures = subst (λ (x : List ProcedureTree). AreProcedures x []) (sym before.0) refl;
              procedure = subst (λ (x : Option Opened). IsOpen x []) (sym closed) refl;
            },
          );
        })

own_reads : (kind : UnitKind) (r : Role) (p : Placed) (u v : Begun) (ps : List Placed) → u.kind ≡ kind → role_of p ≡ r → IsBegun u ps → (p.place).file ≡ u.file → u.contains ≡ None → u.procedure ≡ None → in_own kind r p u ≡ Some v → IsBegun v (ps ++ p ∷ [])
own_reads Program r p u v ps kind is h at none closed e =
    let w = mapped (with_scope u) (in_scope false r p u.scope) v e in
    subst (λ (x : Begun). IsBegun x (ps ++ p ∷ [])) w.2 (own_more u w.0 ps p h at none
    (λ own s. subst (λ (k : UnitKind). InScope (is_module k) false w.0 (own ++ p ∷ [])) (sym kind) (scope_push false r p u.scope w.0 own (subst (λ (k : UnitKind). InScope (is_module k) false u.scope own) kind s) w.1))
    (λ k. program_module (sym kind ∙ k)))
own_reads Module specifies p u v ps kind is h at none closed e = module_reads p u v ps kind h at none e
own_reads Module contains p u v ps kind is h at none closed e = contains_reads p u v ps kind is h at none closed e
own_reads Module (begins k name) p u v ps kind is h at none closed e = absurd (cc)
own_reads Module (heads header) p u v ps kind is h at none closed e = absurd (cc)
own_reads Module (ends what label) p u v ps kind is h at none closed e = absurd (cc)
own_reads Module executes p u v ps kind is h at none closed e = absurd (cc)

unit_reads : (c : Option Place) (o : Option Opened) (p : Placed) (u v : Begun) (ps : List Placed) → u.contains ≡ c → u.procedure ≡ o → IsBegun u ps → (p.place).file ≡ u.file → in_unit c o (role_of p) p u ≡ Some v → IsBegun v (ps ++ p ∷ [])
unit_reads None None p u v ps there at_procedure h at e = own_reads u.kind (role_of p) p u v ps refl refl h at there at_procedure e
unit_reads None (Some o) p u v ps there at_procedure h at e = absurd (cc)
unit_reads (Some c) None p u v ps there at_procedure h at e = between_reads (role_of p) p u v c ps refl h at there at_procedure e
unit_reads (Some c) (Some o) p u v ps there at_procedure h at e = in_procedure_reads (role_of p) p u v c o ps refl h at there at_procedure e

-- ---- the END of a unit

nothing_executed : (b : blocks.State) (ps : List Placed) → b ≡ blocks.start → IsBlock false (block_of b.body) ps → (block_of b.body ≡ no_statements) × (ps ≡ [])
nothing_executed b ps bare h =
    let same : block_of b.body ≡ no_statements = ap (λ (x : blocks.State). block_of x.body) bare in
    (same, no_pieces ps (subst (λ (x : blocks.State). IsBlock false (block_of x.body) ps) bare h).1)

contained_at : (c : Option Place) (kind : UnitKind) (s : Scope) (qs : List ProcedureTree) (ps : List Placed) → IsContaining c kind s qs None ps → IsContained c qs ps
contained_at None kind s qs ps h = (h.0, h.2)
contained_at (Some c) kind s qs ps h =
    let l = h.2 in
    (l.first, l.closed, l.is ∙ ap (λ (x : List Placed). l.first ∷ (l.closed ++ x)) l.procedure ∙ ap (λ (x : List Placed). l.first ∷ x) (append-nil l.closed), l.begins, l.place, l.procedures)

behind_at : (kind : UnitKind) (c : Option Place) (s : Scope) (qs : List ProcedureTree) (body later : List Placed) → (kind ≡ Module → s.block ≡ blocks.start) → IsBlock false (block_of s.block.body) body → IsContaining c kind s qs None later
    → IsBehind kind (block_of s.block.body) c qs (body ++ later)
behind_at Module c s qs body later bare is h =
    let none = nothing_executed s.block body (bare refl) is in
    (none.0, subst (λ (x : List Placed). IsContained c qs (x ++ later)) (sym none.1) (contained_at c Module s qs later h))
behind_at Program None s qs body later bare is h = (refl, h.0, subst (λ (x : List Placed). IsBlock false (block_of s.block.body) x) (sym (ap (λ (x : List Placed). body ++ x) h.2 ∙ append-nil body)) is)
behind_at Program (Some c) s qs body later bare is h = program_module h.0

unit_ends : (p : Placed) (what : Option Ended) (label : Option Name) (u : Begun) (v : UnitTree) (ps : List Placed) → role_of p ≡ ends what label → IsBegun u ps → u.procedure ≡ None → unit_closed p.place what label u ≡ Some v → IsUnit v (ps ++ p ∷ [])
unit_ends p what label u v ps is h none e =
    let made : UnitTree = record { place = u.place; kind = u.kind; name = u.name; part = u.scope.part.part; body = block_of u.scope.block.body; contains = u.contains; procedures = u.procedures; end = p.place } in
    let one = when (is_over u.scope && (fits_unit what u.kind && fits_label label u.name)) (Some made) v e in
    let two = both (is_over u.scope) (fits_unit what u.kind && fits_label label u.name) one.0 in
    let three = both (fits_unit what u.kind) (fits_label label u.name) two.1 in
    let whole = scope_over (is_module u.kind) false u.scope h.own h.scope two.0 in
    let same : made ≡ v = let got = one.1 in cc in
    let regroup : (h.own ++ h.later) ++ p ∷ [] ≡ whole.part ++ ((whole.body ++ h.later) ++ p ∷ []) =
    ap (λ (x : List Placed). (x ++ h.later) ++ p ∷ []) whole.is ∙ ap (λ (x : List Placed). x ++ p ∷ []) (append_assoc whole.part whole.body h.later) ∙ append_assoc whole.part (whole.body ++ h.later) (p ∷ []) in
    subst (λ (x : UnitTree). IsUnit x (ps ++ p ∷ [])) same (record {
      first = h.first;
      part = whole.part;
      behind = whole.body ++ h.later;
      last = p;
      what = what;
      label = label;
      is = ap (λ (x : List Placed). x ++ p ∷ []) h.is ∙ ap (λ (x : List Placed). h.first ∷ x) regroup;
      begins = h.begins;
      place = h.place;
      is_part = whole.is_part;
      is_behind = behind_at u.kind u.contains u.scope u.procedures whole.body h.later h.bare whole.is_body (subst (λ (x : Option Opened). IsContaining u.contains u.kind u.scope u.procedures x h.later) none h.containing);
      ends = is;
      end = refl;
      what_fits = three.0;
      label_fits = three.1;
    })

-- ---- among units

abbrev pub IsUnitAt : Option Begun → List Placed → Type 0
IsUnitAt None ps = ps ≡ []
IsUnitAt (Some u) ps = IsBegun u ps

pub record Reached (ps : List Placed) (s : State) : Type 0 where
  pub front : List Placed
  pub rest : List Placed
  pub is : ps ≡ front ++ rest
  pub units : AreUnits s.done front
  pub unit : IsUnitAt s.unit rest

units_push : (us : List UnitTree) (v : UnitTree) (file : ℕ) (ps fs : List Placed) → AreUnits us ps → AllIn file fs → IsUnit v fs → AreUnits (us ++ v ∷ []) (ps ++ fs)
units_push [] v file ps fs h here is = (file, fs, [], ap (λ (x : List Placed). x ++ fs) h ∙ sym (append-nil fs), here, is, refl)
units_push (u ∷ us) v file ps fs h here is = (h.0, h.1, h.2 ++ fs, ap (λ (x : List Placed). x ++ fs) h.3 ∙ append_assoc h.1 h.2 fs, h.4, h.5, units_push us v file h.2 fs h.6 here is)

inside_reads : (o : Option Opened) (r : Role) (p : Placed) (done : List UnitTree) (u : Begun) (t : State) (ps : List Placed) → u.procedure ≡ o → role_of p ≡ r → Reached ps (busy done u) → (p.place).file ≡ u.file
    → inside o r p done u ≡ Some t → Reached (ps ++ p ∷ []) t
inside_reads o r p done u t ps opens is h at e = by o r opens is e
  where
    goes : (o : Option Opened) (r : Role) → u.procedure ≡ o → role_of p ≡ r → still done (in_unit u.contains o r p u) ≡ Some t → Reached (ps ++ p ∷ []) t
    goes o r opens is e =
        let w = mapped (busy done) (in_unit u.contains o r p u) t e in
        let went : in_unit u.contains o (role_of p) p u ≡ Some w.0 = subst (λ (x : Role). in_unit u.contains o x p u ≡ Some w.0) (sym is) w.1 in
        subst (λ (x : State). Reached (ps ++ p ∷ []) x) w.2 (record {
          front = h.front;
          rest = h.rest ++ p ∷ [];
          is = ap (λ (x : List Placed). x ++ p ∷ []) h.is ∙ append_assoc h.front h.rest (p ∷ []);
          units = h.units;
          unit = unit_reads u.contains o p u w.0 h.rest refl opens h.unit at went;
        })

    by : (o : Option Opened) (r : Role) → u.procedure ≡ o → role_of p ≡ r → inside o r p done u ≡ Some t → Reached (ps ++ p ∷ []) t
    by None (ends what label) opens is e =
        let w = mapped (λ v. free (done ++ v ∷ [])) (unit_closed p.place what label u) t e in
        subst (λ (x : State). Reached (ps ++ p ∷ []) x) w.2 (record {
          front = h.front ++ (h.rest ++ p ∷ []);
          rest = [];
          is = ap (λ (x : List Placed). x ++ p ∷ []) h.is ∙ append_assoc h.front h.rest (p ∷ []) ∙ sym (append-nil (h.front ++ (h.rest ++ p ∷ [])));
          units = units_push done w.0 u.file h.front (h.rest ++ p ∷ []) h.units (here_more u.file h.rest p h.unit.here at) (unit_ends p what label u w.0 h.rest is h.unit opens w.1);
          unit = refl;
        })
    by None (begins kind name) opens is e = goes None (begins kind name) opens is e
    by None contains opens is e = goes None contains opens is e
    by None (heads header) opens is e = goes None (heads header) opens is e
    by None specifies opens is e = goes None specifies opens is e
    by None executes opens is e = goes None executes opens is e
    by (Some q) r opens is e = goes (Some q) r opens is e

between_units_reads : (r : Role) (p : Placed) (done : List UnitTree) (t : State) (ps : List Placed) → role_of p ≡ r → Reached ps (free done) → between_units r p done ≡ Some t → Reached (ps ++ p ∷ []) t
between_units_reads (begins kind name) p done t ps is h e =
    let same : busy done (begun p.place kind name) ≡ t = cc in
    subst (λ (x : State). Reached (ps ++ p ∷ []) x) same (record {
      front = h.front;
      rest = p ∷ [];
      is = ap (λ (x : List Placed). x ++ p ∷ []) (h.is ∙ ap (λ (x : List Placed). h.front ++ x) h.unit ∙ append-nil h.front);
      units = h.units;
      unit = record { first = p; own = []; later = []; is = refl; begins = is; place = refl; here = (refl, tt); scope = scope_start (is_module kind) false; bare = λ k. refl; containing = (refl, refl, refl) };
    })
between_units_reads contains p done t ps is h e = absurd (cc)
between_units_reads (heads header) p done t ps is h e = absurd (cc)
between_units_reads (ends what label) p done t ps is h e = absurd (cc)
between_units_reads specifies p done t ps is h e = absurd (cc)
between_units_reads executes p done t ps is h e = absurd (cc)

step_reads : (o : Option Begun) (p : Placed) (done : List UnitTree) (t : State) (ps : List Placed) → Reached ps (record { done = done; unit = o }) → step_from o p done ≡ Some t → Reached (ps ++ p ∷ []) t
step_reads None p done t ps h e = between_units_reads (role_of p) p done t ps refl h e
step_reads (Some u) p done t ps h e =
    let w = when (u.file == (p.place).file) (inside u.procedure (role_of p) p done u) t e in
    inside_reads u.procedure (role_of p) p done u t ps refl refl h (sym (eqb-true u.file (p.place).file w.0)) w.1

run_reads : (ps qs : List Placed) (s t : State) → Reached qs s → run ps s ≡ Some t → Reached (qs ++ ps) t
run_reads [] qs s t h e =
    let same : s ≡ t = cc in
    subst (λ (x : List Placed). Reached x t) (sym (append-nil qs)) (subst (λ (x : State). Reached qs x) same h)
run_reads (p ∷ ps) qs s t h e =
    let w = then_some (run ps) (step p s) t e in
    subst (λ (x : List Placed). Reached x t) (append_assoc qs (p ∷ []) ps) (run_reads ps (qs ++ p ∷ []) w.0 t (step_reads s.unit p s.done w.0 qs h w.1) w.2)

pub reads : (ps : List Placed) (s : State) → run ps start ≡ Some s → Reached ps s
reads ps s e = run_reads ps [] start s (record { front = []; rest = []; is = refl; units = refl; unit = refl }) e
