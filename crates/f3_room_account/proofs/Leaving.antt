-- Where nothing is allocated in values, they ask for no words.
use Rattle.std.proofs.Common.{◌≡◌, ℕ, zero, suc, ◌<◌, List, [], ◌∷◌, ◌++◌, length, ap, sym, subst, refl, ◌∙◌, arith}
use Rattle.std.specs.Prelude.{map}
use Rattle.f3_program.specs.declared.declarations.Declared.{Declared}
use Rattle.f3_live_blocks.specs.Blocks.{Live, words_of}
use Rattle.f3_heap_laws.specs.Account.{r as taken_by}
use Rattle.f3_meaning_whole.specs.Value.{Value, Number, Truth, Composite, Array, Unallocated, Allocated, Values, none, more, cleared, all_cleared}
use Rattle.f3_meaning_whole.specs.Shape.{Shape, Whole, Logical, Record, Parts, nothing, and, shape_in}
use Rattle.f3_rooms.specs.Held.{blocks_in_all, times}
use Rattle.f3_rooms.specs.Forms.{Form, Laid, Allocatable, form_of, words_for}
use Rattle.f3_rooms.specs.Rooms.{Slot, room_values, level_values, levels_blocks, blocks_of}
use Rattle.f3_rooms.proofs.Allocating.{only_one}
use Rattle.f3_room_account.specs.StoreWords.{Plan, words_in_all, words_in_laid, words_in_form, words_beneath, words_beneath_all, words_in_variables, words_in_levels, plan_of}
use Rattle.f3_room_account.specs.Laws.{NothingIsLeft}
use Rattle.f3_room_account.proofs.Using.{taken}
use Rattle.f3_room_account.proofs.Counting.{used_is_words, variables_held}

abbrev Leaves : (Value → ℕ) → Type 0
Leaves f = (v : Value) → f (cleared v) ≡ 0

module _ (f : Value → ℕ) (leaves : Leaves f) where
  all_leave : (vs : Values) → words_in_all f (all_cleared vs) ≡ 0
  all_leave none = refl
  all_leave (more v vs) = let e = leaves v in let i = all_leave vs in omega arith

  laid_leaves : (rank : ℕ) → Leaves (words_in_laid rank f)
  laid_leaves zero v = leaves v
  laid_leaves (suc rank) (Number z) = refl
  laid_leaves (suc rank) (Truth b) = refl
  laid_leaves (suc rank) (Composite vs) = refl
  laid_leaves (suc rank) (Array ss vs) = all_leave vs
  laid_leaves (suc rank) Unallocated = refl
  laid_leaves (suc rank) (Allocated v) = refl

  form_leaves : (form : Form) (n : ℕ) → Leaves (words_in_form form n f)
  form_leaves (Laid rank ss) n v = laid_leaves rank v
  form_leaves (Allocatable rank) n (Number z) = refl
  form_leaves (Allocatable rank) n (Truth b) = refl
  form_leaves (Allocatable rank) n (Composite vs) = refl
  form_leaves (Allocatable rank) n (Array ss vs) = refl
  form_leaves (Allocatable rank) n Unallocated = refl
  form_leaves (Allocatable rank) n (Allocated v) = refl

mutual
  object_leaves : (s : Shape) → Leaves (words_beneath s)
  object_leaves Whole v = refl
  object_leaves Logical v = refl
  object_leaves (Record t parts) (Number z) = refl
  object_leaves (Record t parts) (Truth b) = refl
  object_leaves (Record t parts) (Composite vs) = components_leave parts vs
  object_leaves (Record t parts) (Array ss vs) = refl
  object_leaves (Record t parts) Unallocated = refl
  object_leaves (Record t parts) (Allocated v) = refl

  components_leave : (parts : Parts) (vs : Values) → words_beneath_all parts (all_cleared vs) ≡ 0
  components_leave nothing vs = refl
  components_leave (and c s rest) none = refl
  components_leave (and c s rest) (more v vs) =
      let e = form_leaves (words_beneath s) (object_leaves s) (form_of c.declared) (words_for s) v in let i = components_leave rest vs in omega arith

variables_leave : (ts : List Shape) (ds : List Declared) (vs : List Value) → words_in_variables ts ds (map cleared vs) ≡ 0
variables_leave ts [] vs = refl
variables_leave ts (d ∷ ds) [] = refl
variables_leave ts (d ∷ ds) (v ∷ vs) =
    let s : Shape = shape_in ts d.kind.of in
    let e = form_leaves (words_beneath s) (object_leaves s) (form_of d) (words_for s) v in
    let i = variables_leave ts ds vs in
    omega arith

levels_leave : (ts : List Shape) (p : Plan) (ls : List (List Value)) → ls ≡ [] → words_in_levels ts p.levels ls ≡ 0
levels_leave ts p ls e = ap (words_in_levels ts p.levels) e ∙ by p.levels
  where
    by : (ps : _) → words_in_levels ts ps [] ≡ 0
    by [] = refl
    by (l ∷ ls) = refl

-- a block takes some words
some_words : (w : ℕ) → 0 < taken_by w
some_words w = omega arith

none_taken : (m : Live) (bs : List ℕ) → taken m bs ≡ 0 → bs ≡ []
none_taken m [] e = refl
none_taken m (b ∷ bs) e = let some = some_words (length (words_of m b)) in absurd (omega arith)

no_levels : (ts : List Shape) (m : Live) (ls : List (List Slot)) → map (level_values ts m) ls ≡ [] → ls ≡ []
no_levels ts m [] e = refl
no_levels ts m (l ∷ ls) e = absurd (let n : length (map (level_values ts m) (l ∷ ls)) ≡ 0 = ap length e in omega arith)

pub nothing_is_left : NothingIsLeft
nothing_is_left ts m x sound all ended bare =
    let vs : List Value = room_values ts m x.statics in
    let e = used_is_words ts m x sound all in
    let v : words_in_variables ts (x.statics).declared vs ≡ 0 = sym (ap (words_in_variables ts (x.statics).declared) bare) ∙ variables_leave ts (x.statics).declared vs in
    let l = levels_leave ts (plan_of m x) (map (level_values ts m) x.levels) ended in
    let held : blocks_in_all (x.statics).held ≡ [] = none_taken m (blocks_in_all (x.statics).held) (variables_held m ts x.statics (sound.statics).variables ∙ v) in
    let blocks : blocks_of x ≡ (x.statics).block ∷ [] = ap (λ bs. ((x.statics).block ∷ bs) ++ levels_blocks x.levels) held
    ∙ ap (λ ls. (x.statics).block ∷ levels_blocks ls) (no_levels ts m x.levels ended) in
    (omega arith, λ b live. only_one b (x.statics).block (subst (λ bs. 0 < times b bs) blocks (all b live)))
