use Rattle.std.proofs.Common.{map, string_bytes, arith}
use Rattle.f3_names.specs.Texts.{lowered}
use Rattle.f3_names.proofs.Finding.{found_at, none_longer}
use Rattle.f3_names.proofs.texts.symbol_of.Goals as goal

pub returns-in-Some : goal.returns-in-Some
returns-in-Some c =
    let at = found_at string_bytes (lowered c.args.name.now) c.args.texts.now.keys c.as_slice-keys.ensures.unique in
    rw (c.get_index_of.ensures.index, c.in-Some.ensures) at

pub returns-then-name-longest : goal.returns-then-name-longest
returns-then-name-longest c = none_longer (map string_bytes c.args.texts.now.keys) c.args.name.now c.args.longest c.requires (omega (arith, c.if-name-longest.true))

pub returns-else-name-longest : goal.returns-else-name-longest
returns-else-name-longest c =
    let at = found_at string_bytes (lowered c.args.name.now) c.args.texts.now.keys c.as_slice-keys.ensures.unique in
    rw (c.find.ensures, c.as_slice-keys.ensures.keys) at
