-- The statements of a specification part and of a block by their roles.
use Rattle.std.proofs.Common.{◌≡◌, Bool, false, Option, Some, None, ◌⊎◌, inl, inr, refl}
use Rattle.f3_places.specs.declared.source.Place.{Place}
use Rattle.f3_tree.specs.Declarations.{PartTree, TypeTree}
use Rattle.f3_form.specs.declared.form.Ended.TheVariants as ended
use Rattle.f3_form.specs.Forms.{FormTree}
use Rattle.f3_form.specs.Forms as form
use Rattle.f3_blocks.specs.Pieces.{Placed}
use Rattle.f3_blocks.specs.Pieces as blocks_pieces
use Rattle.f3_blocks.specs.Machine as blocks
use Rattle.f3_parts.specs.Pieces as parts_pieces
use Rattle.f3_parts.specs.Machine as parts
use Rattle.f3_parts.specs.Machine.{is_none}
use Rattle.f3_units.specs.Roles.{specifies, executes, contains, role}
use Rattle.f3_units.specs.Units.{role_of}

abbrev PartRole : Place → FormTree → Type 0
PartRole p f = (role f ≡ specifies) ⊎ (((role f ≡ contains) × (parts_pieces.piece p f ≡ parts_pieces.contains p)) ⊎ (parts_pieces.piece p f ≡ parts_pieces.no_piece))

part_role : (p : Place) (f : FormTree) → PartRole p f
part_role p (form.unit kind n) = inr (inr refl)
part_role p form.contains = inr (inl (refl, refl))
part_role p (form.ends None n) = inr (inr refl)
part_role p (form.ends (Some ended.Module) n) = inr (inr refl)
part_role p (form.ends (Some ended.Program) n) = inr (inr refl)
part_role p (form.ends (Some ended.Subroutine) n) = inr (inr refl)
part_role p (form.ends (Some ended.Function) n) = inr (inr refl)
part_role p (form.ends (Some ended.Type) n) = inl refl
part_role p (form.ends (Some ended.If) n) = inr (inr refl)
part_role p (form.ends (Some ended.Select) n) = inr (inr refl)
part_role p (form.ends (Some ended.Do) n) = inr (inr refl)
part_role p (form.ends (Some ended.Associate) n) = inr (inr refl)
part_role p (form.procedure h) = inr (inr refl)
part_role p (form.uses u) = inl refl
part_role p form.implicit_none = inl refl
part_role p (form.accesses a) = inl refl
part_role p (form.protects names) = inl refl
part_role p form.saves = inl refl
part_role p (form.declares d) = inl refl
part_role p (form.type_begins a n) = inl refl
part_role p (form.finals names) = inl refl
part_role p (form.acts a) = inr (inr refl)
part_role p (form.acts_if e q a) = inr (inr refl)
part_role p (form.if_then e) = inr (inr refl)
part_role p (form.else_if e) = inr (inr refl)
part_role p form.else_alone = inr (inr refl)
part_role p (form.select_case e) = inr (inr refl)
part_role p (form.case_of s) = inr (inr refl)
part_role p (form.repeats c) = inr (inr refl)
part_role p (form.associates xs) = inr (inr refl)

abbrev BlockRole : Place → FormTree → Type 0
BlockRole p f = (role f ≡ executes) ⊎ (blocks_pieces.piece p f ≡ blocks_pieces.no_piece)

block_role : (p : Place) (f : FormTree) → BlockRole p f
block_role p (form.unit kind n) = inr refl
block_role p form.contains = inr refl
block_role p (form.ends None n) = inr refl
block_role p (form.ends (Some ended.Module) n) = inr refl
block_role p (form.ends (Some ended.Program) n) = inr refl
block_role p (form.ends (Some ended.Subroutine) n) = inr refl
block_role p (form.ends (Some ended.Function) n) = inr refl
block_role p (form.ends (Some ended.Type) n) = inr refl
block_role p (form.ends (Some ended.If) n) = inl refl
block_role p (form.ends (Some ended.Select) n) = inl refl
block_role p (form.ends (Some ended.Do) n) = inl refl
block_role p (form.ends (Some ended.Associate) n) = inl refl
block_role p (form.procedure h) = inr refl
block_role p (form.uses u) = inr refl
block_role p form.implicit_none = inr refl
block_role p (form.accesses a) = inr refl
block_role p (form.protects names) = inr refl
block_role p form.saves = inr refl
block_role p (form.declares d) = inr refl
block_role p (form.type_begins a n) = inr refl
block_role p (form.finals names) = inr refl
block_role p (form.acts a) = inl refl
block_role p (form.acts_if e q a) = inl refl
block_role p (form.if_then e) = inl refl
block_role p (form.else_if e) = inl refl
block_role p form.else_alone = inl refl
block_role p (form.select_case e) = inl refl
block_role p (form.case_of s) = inl refl
block_role p (form.repeats c) = inl refl
block_role p (form.associates xs) = inl refl

-- CONTAINS goes on with a part in an open type definition alone, and no other statement than those of a part does
abbrev pub IsOfPart : Placed → parts.State → Type 0
IsOfPart p s = (role_of p ≡ specifies) ⊎ ((role_of p ≡ contains) × (is_none s.open_type ≡ false))

no_step : (m : Bool) (part : PartTree) (o : Option TypeTree) → parts.step_from m parts_pieces.no_piece part o ≡ None
no_step m part None = refl
no_step m part (Some t) = refl

contains_step : (m : Bool) (p : Place) (part : PartTree) (o : Option TypeTree) (t : parts.State) → parts.step_from m (parts_pieces.contains p) part o ≡ Some t → is_none o ≡ false
contains_step m p part None t is = absurd (cc)
contains_step m p part (Some d) t is = refl

pub of_part : (m : Bool) (p : Placed) (s t : parts.State) → parts.step m (parts_pieces.piece_of p) s ≡ Some t → IsOfPart p s
of_part m p s t is = by (part_role p.place p.form)
  where
    by : PartRole p.place p.form → IsOfPart p s
    by (inl h) = inl h
    by (inr (inl h)) = inr (h.0, contains_step m p.place s.part s.open_type t (rw h.1 at is))
    by (inr (inr h)) = absurd (let none = no_step m s.part s.open_type in let went = rw h at is in cc)

pub of_block : (procedure : Bool) (p : Placed) (s t : blocks.State) → blocks.step procedure (blocks_pieces.piece_of p) s ≡ Some t → role_of p ≡ executes
of_block procedure p s t is = by (block_role p.place p.form)
  where
    by : BlockRole p.place p.form → role_of p ≡ executes
    by (inl h) = h
    by (inr h) = absurd (let went = rw h at is in cc)
