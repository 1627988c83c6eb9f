-- Whole variables.
use Rattle.std.proofs.Common.{◌≡◌, ℕ, zero, suc, ◌+◌, ◌-◌, ◌<◌, List, [], ◌∷◌, ◌++◌, length, refl, ap, ◌∙◌, arith}
use Rattle.std.proofs.lemmas.Bool.{lt-ltb, le-ltb}
use Rattle.std.specs.Prelude.{Some, if◌then◌else◌, slice_get, slice_index_or}
use Rattle.f3_program.specs.declared.declarations.Base.{Base}
use Rattle.f3_program.specs.declared.declarations.Declared.{Declared}
use Rattle.f3_meaning_whole.specs.Shape.{Shape, Whole, Logical, Record, shape_in}
use Rattle.f3_rooms.specs.Held.{Held, Row, others, part_at}
use Rattle.f3_rooms.specs.Forms.{Form, Laid, Allocatable, form_of, room}
use Rattle.f3_rooms.specs.Rooms.{Room, Slot, Known, Stands}
use Rattle.f3_rooms.specs.Places.{Found, in_form, in_object, in_variables, in_room, in_level}
use Rattle.f3_rooms.specs.Ways.{offset, settled, variable_in, numbers, StaticsStand, LocalsStand}

object_stands : (s : Shape) (of : Base) (b o : ℕ) (h : Held) → in_object s of b o h [] ≡ Some (record { block = b; at = o; shape = s; of = of; form = Laid 0 []; held = h })
object_stands Whole of b o h = refl
object_stands Logical of b o h = refl
object_stands (Record t parts) of b o h = refl

form_stands : (form : Form) (s : Shape) (of : Base) (b o : ℕ) (h : Held)
    → in_form form s of (in_object s of) b o h [] ≡ Some (record { block = b; at = o; shape = s; of = of; form = settled form; held = h })
form_stands (Laid zero ss) s of b o h = object_stands s of b o h
form_stands (Laid (suc rank) ss) s of b o h = refl
form_stands (Allocatable rank) s of b o h = refl

variable_stands : (ts : List Shape) (ds : List Declared) (b o : ℕ) (hs : Row) (i : ℕ) (d : Declared) → slice_get ds i ≡ Some d
    → in_variables ts ds b o hs i [] ≡ Some (record { block = b; at = o + offset ts ds i; shape = shape_in ts d.kind.of; of = d.kind.of; form = settled (form_of d); held = part_at hs i })
variable_stands ts [] b o hs i d e = absurd (cc)
variable_stands ts (c ∷ ds) b o hs zero d e =
    let same : c ≡ d = cc in
    let at : o ≡ o + 0 = omega arith in
    form_stands (form_of c) (shape_in ts c.kind.of) c.kind.of b o (part_at hs 0)
    ∙ ap (λ (y : Declared). let f : Found = record { block = b; at = o; shape = shape_in ts y.kind.of; of = y.kind.of; form = settled (form_of y); held = part_at hs 0 } in Some f) same
    ∙ ap (λ j. let f : Found = record { block = b; at = j; shape = shape_in ts d.kind.of; of = d.kind.of; form = settled (form_of d); held = part_at hs 0 } in Some f) at
variable_stands ts (c ∷ ds) b o hs (suc i) d e =
    let at : (o + room ts c) + offset ts ds i ≡ o + (room ts c + offset ts ds i) = omega arith in
    variable_stands ts ds b (o + room ts c) (others hs) i d e
    ∙ ap (λ j. let f : Found = record { block = b; at = j; shape = shape_in ts d.kind.of; of = d.kind.of; form = settled (form_of d); held = part_at (others hs) i } in Some f) at

room_stands : (ts : List Shape) (r : Room) (i : ℕ) (d : Declared) → slice_get r.declared i ≡ Some d → in_room ts r i [] ≡ Some (variable_in ts r i d)
room_stands ts r i d e =
    let at : 0 + offset ts r.declared i ≡ offset ts r.declared i = omega arith in
    variable_stands ts r.declared r.block 0 r.held i d e
    ∙ ap (λ j. let f : Found = record { block = r.block; at = j; shape = shape_in ts d.kind.of; of = d.kind.of; form = settled (form_of d); held = part_at r.held i } in Some f) at

declared_within : (ds : List Declared) (i : ℕ) (d : Declared) → slice_get ds i ≡ Some d → i < length ds
declared_within [] i d e = absurd (cc)
declared_within (c ∷ ds) zero d e = omega arith
declared_within (c ∷ ds) (suc i) d e = let lt = declared_within ds i d e in omega arith

level_stands : (ts : List Shape) (before behind : List Slot) (r : Room) (i : ℕ) (d : Declared) → slice_get r.declared i ≡ Some d
    → in_level ts (before ++ Stands r ∷ behind) (numbers before + i) [] ≡ Some (variable_in ts r i d)
level_stands ts [] behind r i d e =
    let at : 0 + i ≡ i = omega arith in
    ap (λ k. in_level ts (Stands r ∷ behind) k []) at
    ∙ ap (λ t. if t then in_room ts r i [] else in_level ts behind (i - length r.declared) []) (lt-ltb i (length r.declared) (declared_within r.declared i d e))
    ∙ room_stands ts r i d e
level_stands ts (Known v ∷ ss) behind r i d e =
    let at : (1 + numbers ss) + i ≡ suc (numbers ss + i) = omega arith in
    ap (λ k. in_level ts (Known v ∷ (ss ++ Stands r ∷ behind)) k []) at ∙ level_stands ts ss behind r i d e
level_stands ts (Stands q ∷ ss) behind r i d e =
    let k : ℕ = (length q.declared + numbers ss) + i in
    let at : k - length q.declared ≡ numbers ss + i = omega arith in
    ap (λ t. if t then in_room ts q k [] else in_level ts (ss ++ Stands r ∷ behind) (k - length q.declared) []) (le-ltb k (length q.declared) (omega arith))
    ∙ ap (λ j. in_level ts (ss ++ Stands r ∷ behind) j []) at ∙ level_stands ts ss behind r i d e

level_is : (ls : List (List Slot)) (k : ℕ) (l : List Slot) → slice_get ls k ≡ Some l → slice_index_or ls k [] ≡ l
level_is [] k l e = absurd (cc)
level_is (m ∷ ls) zero l e = cc
level_is (m ∷ ls) (suc k) l e = level_is ls k l e

pub statics_stand : StaticsStand
statics_stand ts x i d e = room_stands ts x.statics i d e

pub locals_stand : LocalsStand
locals_stand ts x level before behind r is i d e =
    ap (λ l. in_level ts l (numbers before + i) []) (level_is x.levels level (before ++ Stands r ∷ behind) is) ∙ level_stands ts before behind r i d e
