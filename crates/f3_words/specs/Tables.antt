-- Texts, and what each of them stands for.
use Rattle.std.specs.Prelude.{ℕ, List, [], ◌∷◌, if◌then◌else◌}
use Rattle.std.specs.Str.{bytes_eq}

-- what a text stands for in a table, and something else where it stands for nothing there
abbrev pub found : {A : Type 0} → List (List ℕ × A) → A → List ℕ → A
found [] other text = other
found (entry ∷ entries) other text = if bytes_eq text entry.0 then entry.1 else found entries other text
