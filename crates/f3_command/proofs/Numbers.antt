-- Numbers that options give.
use Rattle.std.proofs.Common.{◌≡◌, ◌&&◌, ◌^◌, ℕ, Bool, true, false, List, Option, None, Some, length, nat_lt, refl, lt-ltb, ltb-true}
use Rattle.std.specs.Prelude.{Result, Ok, Err, codes, unwrap_or}
use Rattle.std.specs.Result.{result_unwrap_or}
use Rattle.std.specs.Str.{all_ascii_digits, bytes_eq}
use Rattle.std.specs.Str.Parse.{ParsesUnsigned, digits_value, without_leading_plus}
use Rattle.std.proofs.lemmas.Str.Parse.{IsNumeralModel, numerals_by_value, tells_all_ascii_digits}
use Rattle.clap.specs.Matches.{ReadsOne}
use Rattle.clap.specs.Walk.{Row, Text, one_of}
use Rattle.f3_command.specs.declared.work.Task.TheVariants.{Run}
use Rattle.f3_command.specs.Program.{number_in, number_of, task_of}

own : IsNumeralModel (λ ds. all_ascii_digits ds ≡ true) (digits_value 10)
own = numerals_by_value _ tells_all_ascii_digits

both : (a b : Bool) → (a && b) ≡ true → (a ≡ true) × (b ≡ true)
both true b e = (refl, e)
both false b e = absurd cc

abbrev is_number : List ℕ → Bool
is_number ds = nat_lt 0 (length ds) && all_ascii_digits ds && nat_lt (digits_value 10 ds) (2 ^ 64)

-- what is read of a text is the number that it writes
reads : {E : Type 0} (text : List ℕ) (r : Result ℕ E) → ParsesUnsigned 64 10 text r → result_unwrap_or r 0 ≡ number_in text
reads text (Ok n) h =
    let ds = without_leading_plus text in
    rw (lt-ltb 0 (length ds) h.0.0.0, own.from ds h.0.0.1, lt-ltb (digits_value 10 ds) (2 ^ 64) h.0.1) h.1
reads text (Err e) h = go (is_number (without_leading_plus text)) refl
  where
    go : (b : Bool) → is_number (without_leading_plus text) ≡ b → 0 ≡ number_in text
    go false t = rw t refl
    go true t =
        let outer = both _ _ t in
        let inner = both _ _ outer.0 in
        absurd (h ((ltb-true _ _ inner.0, own.to (without_leading_plus text) inner.1), ltb-true _ _ outer.1))

read_one : {E : Type 0} (gives : List ℕ → Result ℕ E → Type 0) (text : List ℕ) (o : Option ℕ) → ((r : Result ℕ E) → gives text r → ParsesUnsigned 64 10 text r)
    → ReadsOne gives text o → unwrap_or o 0 ≡ number_in text
read_one {E = E} gives text (Some v) only h = reads {E = E} text (Ok v) (only (Ok v) h)
read_one {E = E} gives text None only h = reads {E = E} text (Err h.0) (only (Err h.0) h.1)

-- the number of an option, by the text that it was given
pub number_read : {E : Type 0} (gives : List ℕ → Result ℕ E → Type 0) (text : Option (List ℕ)) (o : Option ℕ)
    → ((t : List ℕ) (r : Result ℕ E) → gives t r → ParsesUnsigned 64 10 t r)
    → (text ≡ None → o ≡ None) → ((t : List ℕ) → text ≡ Some t → ReadsOne gives t o) → unwrap_or o 0 ≡ number_of text
number_read gives None o only none some = rw (none refl) refl
number_read {E = E} gives (Some t) o only none some = read_one {E = E} gives t o (only t) (some t refl)

-- the task of a name that is no other subcommand's
pub run_so : (name : Text) (rows : List Row) (steps heap : ℕ) → bytes_eq name (codes "check") ≡ false → bytes_eq name (codes "names") ≡ false → bytes_eq name (codes "code") ≡ false
    → steps ≡ number_of (one_of (codes "steps") rows) → heap ≡ number_of (one_of (codes "heap") rows)
    → Run (record { steps = steps; heap_words = heap }) ≡ task_of name rows
run_so name rows steps heap check names code is_steps is_heap = rw (check, names, code, is_steps, is_heap) refl
