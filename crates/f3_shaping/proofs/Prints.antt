-- A value is printed at once as element by element.
use Rattle.std.proofs.Common.{◌≡◌, ℕ, List, [], ◌∷◌, ◌++◌, map, refl, sym, ap, ◌∙◌, Bool}
use Rattle.std.specs.Prelude.{⊤, flat_map}
use Rattle.std.proofs.lemmas.List.{map-append}
use Rattle.std.proofs.Math.Path.{fun_ext}
use Rattle.f3_meaning_whole.specs.Value as m
use Rattle.f3_meaning_whole.specs.Store.{Store}
use Rattle.f3_meaning_whole.specs.Ran.{Event, Printed, World, Gives, Outcome, Ran, replayed, ◌>>=◌, gives, does, prints_bytes, each}
use Rattle.f3_meaning_whole.specs.Exec.{text_of, print_value}
use Rattle.f3_shaping.specs.Results.{value_text}

quiet : (bytes : List ℕ) (store : Store) → replayed (map Printed bytes) store ≡ store
quiet [] store = refl
quiet (b ∷ bytes) store = quiet bytes store

unfoldable ended : (out : List Event) (answers : ℕ → Bool) → Store → Outcome ⊤
ended out answers store = record { out = out; end = Gives tt (record { store = store; answers = answers }) }

prints_both : (a b : List ℕ) → (prints_bytes a >>= λ done. prints_bytes b) ≡ prints_bytes (a ++ b)
unfolding ◌>>=◌ prints_bytes does ended
prints_both a b =
    let P : (World → Outcome ⊤) → Ran ⊤ = λ h. record { from = h } in
    ap P (fun_ext (λ (w : World).
    ap (ended (map Printed a ++ map Printed b) w.answers) (quiet b (replayed (map Printed a) w.store) ∙ quiet a w.store ∙ sym (quiet (a ++ b) w.store))
    ∙ ap (λ out. ended out w.answers (replayed (map Printed (a ++ b)) w.store)) (sym (map-append Printed a b))))

prints_none : gives tt ≡ prints_bytes []
unfolding gives prints_bytes does
prints_none = refl

prints_each : (vs : List m.Value) → each vs (λ v. prints_bytes (text_of v)) ≡ prints_bytes (flat_map text_of vs)
prints_each [] = prints_none
prints_each (v ∷ vs) = ap (λ (r : Ran ⊤). prints_bytes (text_of v) >>= λ done. r) (prints_each vs) ∙ prints_both (text_of v) (flat_map text_of vs)

pub prints_text : (v : m.Value) → print_value v ≡ prints_bytes (value_text v)
prints_text (m.Number z) = refl
prints_text (m.Truth b) = refl
prints_text (m.Composite vs) = refl
prints_text (m.Array ss vs) = prints_each (m.listed vs)
prints_text m.Unallocated = refl
prints_text (m.Allocated x) = refl
