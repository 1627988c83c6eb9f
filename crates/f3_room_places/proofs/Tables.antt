-- What tables of types tell.
use Rattle.std.proofs.Common.{◌≡◌, ℕ, zero, suc, ◌<◌, ◌≤◌, List, [], ◌∷◌, length, take, refl, sym, ap, subst, arith, get_or}
use Rattle.std.specs.Prelude.{slice_index_or}
use Rattle.f3_program.specs.declared.declarations.Base.TheVariants as base
use Rattle.f3_program.specs.declared.declarations.Derived.{Derived}
use Rattle.f3_meaning_whole.specs.Shape.{Shape, Whole, Logical, Record, shape_in, shapes_of}
use Rattle.f3_rooms.specs.Forms.{words_for}
use Rattle.f3_type_words.specs.Tables.{IsTable, AreTables}
use Rattle.f3_type_words.specs.declared.table.TypeTable.{TypeTable}
use Rattle.f3_room_places.proofs.Trees.{as_many, past_types, trees_before}

tables_many : (ss : List Shape) (xs : List TypeTable) → AreTables ss xs → length ss ≡ length xs
tables_many [] [] are = refl
tables_many [] (x ∷ xs) are = absurd are
tables_many (s ∷ ss) [] are = absurd are
tables_many (s ∷ ss) (x ∷ xs) are = let e = tables_many ss xs are.1 in omega arith

tables_before : (ss : List Shape) (xs : List TypeTable) (k : ℕ) → AreTables ss xs → AreTables (take k ss) (take k xs)
tables_before ss xs zero are = tt
tables_before [] [] (suc k) are = tt
tables_before [] (x ∷ xs) (suc k) are = absurd are
tables_before (s ∷ ss) [] (suc k) are = absurd are
tables_before (s ∷ ss) (x ∷ xs) (suc k) are = (are.0, tables_before ss xs k are.1)

table_at : (ss : List Shape) (xs : List TypeTable) (k : ℕ) (d : TypeTable) → AreTables ss xs → k < length xs → IsTable (slice_index_or ss k Whole) (get_or xs k d)
table_at [] [] k d are lt = absurd (omega arith)
table_at [] (x ∷ xs) k d are lt = absurd are
table_at (s ∷ ss) [] k d are lt = absurd are
table_at (s ∷ ss) (x ∷ xs) zero d are lt = are.0
table_at (s ∷ ss) (x ∷ xs) (suc k) d are lt = table_at ss xs k d are.1 (omega arith)

table_words : (s : Shape) (x : TypeTable) → IsTable s x → x.words ≡ words_for s
table_words Whole x is = absurd is
table_words Logical x is = absurd is
table_words (Record t parts) x is = is.0

module _ (ts : List Derived) (xs : List TypeTable) (are : AreTables (shapes_of ts) xs) where
  pub a_table_each : length ts ≡ length xs
  a_table_each = let e = tables_many (shapes_of ts) xs are in let n = as_many ts in omega arith

  pub those_before : (k : ℕ) → AreTables (shapes_of (take k ts)) (take k xs)
  those_before k = subst (λ ss. AreTables ss (take k xs)) (sym (trees_before ts k)) (tables_before (shapes_of ts) xs k are)

  pub is_table : (t : ℕ) (d : TypeTable) → t < length xs → IsTable (shape_in (shapes_of ts) (base.Derived t)) (get_or xs t d)
  is_table t d lt = table_at (shapes_of ts) xs t d are lt

  pub tells_words : (t : ℕ) (d : TypeTable) → t < length xs → (get_or xs t d).words ≡ words_for (shape_in (shapes_of ts) (base.Derived t))
  tells_words t d lt = table_words (shape_in (shapes_of ts) (base.Derived t)) (get_or xs t d) (is_table t d lt)

  pub no_table : (t : ℕ) → length xs ≤ t → 1 ≡ words_for (shape_in (shapes_of ts) (base.Derived t))
  no_table t few = let n = a_table_each in ap words_for (sym (past_types ts t (omega arith)))
