-- Kinds of values.
use Rattle.std.specs.Prelude.{Bool, true, false}
use Rattle.f3_meaning_whole.specs.Value.{Value, Array}

abbrev pub is_array : Value → Bool
is_array (Array ss vs) = true
is_array v = false
