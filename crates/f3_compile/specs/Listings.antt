-- The text of a program's code.
use Rattle.std.specs.Prelude.{◌≡◌, String, string_bytes}
use Rattle.std.specs.Global.{Global}
use Rattle.f3_program.specs.declared.program.Program.{Program}
use Rattle.f3_code.specs.Lower.{lowered_program}
use Rattle.f3_code.specs.Code.{program_code}
use Rattle.f3_gen_values.specs.declared.emission.Emission.{Emission}
use Rattle.f3_gen_values.specs.Emission.{code_in}
use Rattle.f3_listing.specs.Listing.{listing_text}

-- this text shows lines that are the code of the program's Core
pub record IsListing (p : Program) (text : String Global) : Type 0 where
  pub emission : Emission
  pub is_code : code_in p emission ≡ program_code (lowered_program p)
  pub shown : string_bytes text ≡ listing_text emission.lines.items
