-- Types with tables.
use Rattle.std.proofs.Common.{◌≡◌, sym, ap, refl, ℕ, ◌<◌, ◌≤◌, length, Bool, true, false, List, [], ◌∷◌, arith}
use Rattle.std.proofs.Math.Dec.{leb}
use Rattle.std.proofs.lemmas.Bool.{leb-true, leb-false}
use Rattle.f3_program.specs.declared.declarations.Base.TheVariants as base
use Rattle.f3_program.specs.declared.declarations.Derived.{Derived}
use Rattle.f3_meaning_whole.specs.Shape.{Shape, Whole, Logical, Record, shape_in, shapes_of}
use Rattle.f3_rooms.specs.Places.{is_scalar_shape}
use Rattle.f3_type_words.specs.Tables.{IsTable, AreTables}
use Rattle.f3_type_words.specs.declared.table.TypeTable.{TypeTable}
use Rattle.f3_room_places.proofs.Tables.{a_table_each, is_table}
use Rattle.f3_room_places.proofs.Trees.{past_types}

no-scalar : (s : Shape) (x : TypeTable) → IsTable s x → is_scalar_shape s ≡ false
no-scalar Whole x is = absurd is
no-scalar Logical x is = absurd is
no-scalar (Record t parts) x is = refl

some-table : (xs : List TypeTable) (t : ℕ) → t < length xs → TypeTable
some-table [] t lt = absurd (omega arith)
some-table (x ∷ xs) t lt = x

module _ (ts : List Derived) (xs : List TypeTable) (are : AreTables (shapes_of ts) xs) where
  pub scalar-past : (t : ℕ) → length xs ≤ t → is_scalar_shape (shape_in (shapes_of ts) (base.Derived t)) ≡ true
  scalar-past t le = let n = a_table_each ts xs are in ap is_scalar_shape (past_types ts t (omega arith))

  pub scalar-before : (t : ℕ) → t < length xs → is_scalar_shape (shape_in (shapes_of ts) (base.Derived t)) ≡ false
  scalar-before t lt = let d = some-table xs t lt in no-scalar _ _ (is_table ts xs are t d lt)

  pub scalar-tested : (t : ℕ) → leb (length xs) t ≡ is_scalar_shape (shape_in (shapes_of ts) (base.Derived t))
  scalar-tested t = by (leb (length xs) t) refl
    where
      by : (b : Bool) → leb (length xs) t ≡ b → b ≡ is_scalar_shape (shape_in (shapes_of ts) (base.Derived t))
      by true e = sym (scalar-past t (leb-true (length xs) t e))
      by false e = sym (scalar-before t (leb-false (length xs) t e))

  pub scalar-derived : (t : ℕ) → is_scalar_shape (shape_in (shapes_of ts) (base.Derived t)) ≡ true → shape_in (shapes_of ts) (base.Derived t) ≡ Whole
  scalar-derived t e = by (leb (length xs) t) refl
    where
      by : (b : Bool) → leb (length xs) t ≡ b → shape_in (shapes_of ts) (base.Derived t) ≡ Whole
      by true f = let le = leb-true (length xs) t f in let n = a_table_each ts xs are in past_types ts t (omega arith)
      by false f = let g = scalar-before t (leb-false (length xs) t f) in absurd cc
