use Rattle.f3_command.proofs.Said.{fails_so, taken_so, refused_so}
use Rattle.f3_command.proofs.program.read.Goals as goal

pub returns-clause-taken : goal.returns-clause-taken
returns-clause-taken c =
    let clap = c.try_get_matches_from.ensures in
    taken_so c.in_ok-command.field-0 _ c.try_get_matches_from.result c.in_ok-command.ensures clap.parsed clap.matches (fails_so _ _ c.try_get_matches_from.result c.in_ok-command.ensures clap.kinds)

pub returns-clause-refused : goal.returns-clause-refused
returns-clause-refused c =
    refused_so _ c.try_get_matches_from.result (fails_so _ _ c.try_get_matches_from.result c.in_ok-command.ensures c.try_get_matches_from.ensures.kinds)
