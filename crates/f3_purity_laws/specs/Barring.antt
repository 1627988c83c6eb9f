-- Programs in which a unit may define no variable that lives for the whole run.
use Rattle.std.specs.Prelude.{ℕ, suc, true, map, Vec}
use mathlib.Core.Path.{◌∙◌, sym}
use lib.ListN.{length-map}
use denote.RawPtr.{null_ptr}
use Rattle.std.specs.declared.alloc.Global.{Global}
use Rattle.f3_program.specs.declared.program.Static.{Static}
use Rattle.f3_program.specs.declared.program.Program.{Program}

-- the vector of as many others
abbrev pub mapped : {X Y : Type 0} → (X → Y) → Vec X Global → Vec Y Global
mapped f v = record {
  ptr = null_ptr;
  len = v.len;
  cap = v.cap;
  alloc = v.alloc;
  items = map f v.items;
  ok = (v.ok.0 ∙ sym (length-map v.items f), v.ok.1);
  small = v.small;
}

-- a variable that lives for the whole run as a protected one of another unit
abbrev pub barred : (unit : ℕ) → Static → Static
barred unit y = record { declared = y.declared; home = suc unit; is_protected = true }

-- the program, where all of those are such for a unit
abbrev pub barring : (unit : ℕ) → Program → Program
barring unit p = record {
  types = p.types;
  statics = mapped (barred unit) p.statics;
  procedures = p.procedures;
  main = p.main;
  start = p.start;
}
