-- A specification part and executable statements in a unit.
use Rattle.std.proofs.Common.{◌≡◌, ℕ, Bool, true, false, List, [], ◌∷◌, ◌++◌, map, Option, Some, None, inl, inr, refl, sym, ap, ◌∙◌}
use Rattle.std.specs.Prelude.{option_and_then}
use Rattle.std.proofs.lemmas.Bool.{eq-eqb}
use Rattle.f3_places.specs.declared.source.Place.{Place}
use Rattle.f3_tree.specs.declared.expression.Name.{Name}
use Rattle.f3_tree.specs.declared.program.UnitKind.{UnitKind}
use Rattle.f3_tree.specs.declared.program.UnitKind.TheVariants.{Module, Program}
use Rattle.f3_tree.specs.Declarations.{PartTree}
use Rattle.f3_tree.specs.Statements.{Block}
use Rattle.f3_tree.specs.Tree.{HeaderTree, UnitTree}
use Rattle.f3_blocks.specs.Pieces.{Placed}
use Rattle.f3_blocks.specs.Pieces as blocks_pieces
use Rattle.f3_blocks.specs.Blocks.{IsBlock}
use Rattle.f3_blocks.specs.Machine as blocks
use Rattle.f3_blocks.proofs.Nesting as nesting
use Rattle.f3_parts.specs.Parts.{IsPart}
use Rattle.f3_parts.specs.Pieces as parts_pieces
use Rattle.f3_parts.specs.Machine as parts
use Rattle.f3_parts.specs.Machine.{is_none}
use Rattle.f3_parts.proofs.Reading as reading
use Rattle.f3_units.specs.Units.{role_of, is_module, AllIn}
use Rattle.f3_units.specs.Machine.{Scope, Begun, State, busy, fresh, with_part, with_block, is_untouched, with_procedure, inside, step, run}
use Rattle.f3_units.proofs.Roles.{IsOfPart, of_part, of_block}

pub stays : (p : Placed) (done : List UnitTree) (u : Begun) → (p.place).file ≡ u.file → step p (busy done u) ≡ inside u.procedure (role_of p) p done u
stays p done u same = rw (eq-eqb u.file (p.place).file (sym same)) refl

-- a unit in its own specification part, or among its own statements
abbrev pub owner : ℕ → Place → UnitKind → Name → Scope → Begun
owner file place kind name s = record { file = file; place = place; kind = kind; name = name; scope = s; contains = None; procedures = []; procedure = None }

abbrev pub own : List UnitTree → ℕ → Place → UnitKind → Name → Scope → State
own done file place kind name s = busy done (owner file place kind name s)

-- a unit in a procedure behind its CONTAINS
abbrev pub contained : Begun → Place → Begun
contained u c = record u { contains = Some c }

abbrev pub within : List UnitTree → Begun → Place → HeaderTree → Scope → State
within done u c h s = busy done (with_procedure (contained u c) h s)

-- ---- one statement more

pub own_part : (done : List UnitTree) (file : ℕ) (place : Place) (kind : UnitKind) (name : Name) (p : Placed) (s : Scope) (q : parts.State) → (p.place).file ≡ file → is_untouched s.block ≡ true
    → parts.step (is_module kind) (parts_pieces.piece_of p) s.part ≡ Some q → step p (own done file place kind name s) ≡ Some (own done file place kind name (with_part s q))
own_part done file place Module name p s q here bare is = stays p done (owner file place Module name s) here ∙ by (of_part true p s.part q is)
  where
    by : IsOfPart p s.part → inside None (role_of p) p done (owner file place Module name s) ≡ Some (own done file place Module name (with_part s q))
    by (inl h) = rw (h, bare, is) refl
    by (inr h) = rw (h.0, h.1, bare, is) refl
own_part done file place Program name p s q here bare is = stays p done (owner file place Program name s) here ∙ by (of_part false p s.part q is)
  where
    by : IsOfPart p s.part → inside None (role_of p) p done (owner file place Program name s) ≡ Some (own done file place Program name (with_part s q))
    by (inl h) = rw (h, bare, is) refl
    by (inr h) = rw (h.0, bare, is) refl

pub own_block : (done : List UnitTree) (file : ℕ) (place : Place) (name : Name) (p : Placed) (s : Scope) (b : blocks.State) → (p.place).file ≡ file → is_none s.part.open_type ≡ true
    → blocks.step false (blocks_pieces.piece_of p) s.block ≡ Some b → step p (own done file place Program name s) ≡ Some (own done file place Program name (with_block s b))
own_block done file place name p s b here over is = stays p done (owner file place Program name s) here ∙ rw (of_block false p s.block b is, over, is) refl

pub within_part : (done : List UnitTree) (u : Begun) (c : Place) (h : HeaderTree) (p : Placed) (s : Scope) (q : parts.State) → (p.place).file ≡ u.file → is_untouched s.block ≡ true
    → parts.step false (parts_pieces.piece_of p) s.part ≡ Some q → step p (within done u c h s) ≡ Some (within done u c h (with_part s q))
within_part done u c h p s q here bare is = stays p done (with_procedure (contained u c) h s) here ∙ by (of_part false p s.part q is)
  where
    by : IsOfPart p s.part → inside (Some (record { header = h; scope = s })) (role_of p) p done (with_procedure (contained u c) h s) ≡ Some (within done u c h (with_part s q))
    by (inl e) = rw (e, bare, is) refl
    by (inr e) = rw (e.0, bare, is) refl

pub within_block : (done : List UnitTree) (u : Begun) (c : Place) (h : HeaderTree) (p : Placed) (s : Scope) (b : blocks.State) → (p.place).file ≡ u.file → is_none s.part.open_type ≡ true
    → blocks.step true (blocks_pieces.piece_of p) s.block ≡ Some b → step p (within done u c h s) ≡ Some (within done u c h (with_block s b))
within_block done u c h p s b here over is = stays p done (with_procedure (contained u c) h s) here ∙ rw (of_block true p s.block b is, over, is) refl

-- ---- all of them

pub then_some : {A B : Type 0} (f : A → Option B) (o : Option A) (y : B) → option_and_then f o ≡ Some y → (x : A) × (o ≡ Some x) × (f x ≡ Some y)
then_some f (Some x) y e = (x, refl, e)
then_some f None y e = absurd (cc)

abbrev pub PartGoes : Bool → (Scope → State) → ℕ → Type 0
PartGoes m at file = (p : Placed) (s : Scope) (q : parts.State) → (p.place).file ≡ file → is_untouched s.block ≡ true → parts.step m (parts_pieces.piece_of p) s.part ≡ Some q → step p (at s) ≡ Some (at (with_part s q))

abbrev pub BlockGoes : Bool → (Scope → State) → ℕ → Type 0
BlockGoes procedure at file = (p : Placed) (s : Scope) (b : blocks.State) → (p.place).file ≡ file → is_none s.part.open_type ≡ true → blocks.step procedure (blocks_pieces.piece_of p) s.block ≡ Some b → step p (at s) ≡ Some (at (with_block s b))

pub run_part : (m : Bool) (at : Scope → State) (file : ℕ) → PartGoes m at file → (ps r : List Placed) (s : Scope) (q : parts.State) → AllIn file ps → is_untouched s.block ≡ true
    → parts.run m (map parts_pieces.piece_of ps) s.part ≡ Some q → run (ps ++ r) (at s) ≡ run r (at (with_part s q))
run_part m at file goes [] r s q here bare is = let same : s.part ≡ q = cc in ap (λ (x : parts.State). run r (at (with_part s x))) same
run_part m at file goes (p ∷ ps) r s q here bare is =
    let w = then_some (parts.run m (map parts_pieces.piece_of ps)) (parts.step m (parts_pieces.piece_of p) s.part) q is in
    ap (option_and_then (run (ps ++ r))) (goes p s w.0 here.0 bare w.1) ∙ run_part m at file goes ps r (with_part s w.0) q here.1 bare w.2

pub run_block : (procedure : Bool) (at : Scope → State) (file : ℕ) → BlockGoes procedure at file → (ps r : List Placed) (s : Scope) (b : blocks.State) → AllIn file ps → is_none s.part.open_type ≡ true
    → blocks.run procedure (map blocks_pieces.piece_of ps) s.block ≡ Some b → run (ps ++ r) (at s) ≡ run r (at (with_block s b))
run_block procedure at file goes [] r s b here over is = let same : s.block ≡ b = cc in ap (λ (x : blocks.State). run r (at (with_block s x))) same
run_block procedure at file goes (p ∷ ps) r s b here over is =
    let w = then_some (blocks.run procedure (map blocks_pieces.piece_of ps)) (blocks.step procedure (blocks_pieces.piece_of p) s.block) b is in
    ap (option_and_then (run (ps ++ r))) (goes p s w.0 here.0 over w.1) ∙ run_block procedure at file goes ps r (with_block s w.0) b here.1 over w.2

-- a part and a block that are closed
abbrev pub whole : PartTree → Block → Scope
whole part b = record { part = parts.closed part; block = nesting.at [] (nesting.list_of b) }

pub run_scope : (procedure : Bool) (at : Scope → State) (file : ℕ) → PartGoes false at file → BlockGoes procedure at file → (part : PartTree) (b : Block) (ps qs r : List Placed) → AllIn file ps → AllIn file qs → IsPart false part ps → IsBlock procedure b qs
    → run (ps ++ (qs ++ r)) (at fresh) ≡ run r (at (whole part b))
run_scope procedure at file part_goes block_goes part b ps qs r here there is_part is_block =
    run_part false at file part_goes ps (qs ++ r) fresh (parts.closed part) here refl (reading.runs false part ps is_part)
    ∙ run_block procedure at file block_goes qs r (with_part fresh (parts.closed part)) (nesting.at [] (nesting.list_of b)) there refl (nesting.runs procedure b qs is_block)
