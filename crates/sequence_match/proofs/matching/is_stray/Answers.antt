use Rattle.std.proofs.Common.{rules}
use Rattle.sequence_match.proofs.Seconds.{stray_is}
use Rattle.sequence_match.proofs.matching.is_stray.Goals as goal

pub returns-else-not-names_getter : goal.returns-else-not-names_getter
returns-else-not-names_getter c =
    stray_is c.args.code.now c.args.entry c.relocation_at-relocation.result c.is_second_by.result c.relocation_at-relocation.ensures c.in_default.not-Nothing
    (c.names_getter.ensures.0 (search rules)) c.is_second_by.ensures
