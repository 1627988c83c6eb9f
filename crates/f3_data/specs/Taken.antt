-- What is in memory, as it takes words of a heap.
use Rattle.std.specs.Prelude.{ℕ, List, map, Vec}
use Rattle.std.specs.declared.alloc.Global.{Global}
use Rattle.f3_code.specs.Account.{used}
use Rattle.f3_data.specs.declared.value.Value.{Value}
use Rattle.f3_data.specs.Values.{values_of}

abbrev pub taken : List Value → List (Vec Value Global) → ℕ
taken statics levels = used (record { statics = values_of statics; levels = map (λ (v : Vec Value Global). values_of v.items) levels })
