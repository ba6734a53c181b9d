use Rattle.std.proofs.Common.{inl}
use Rattle.command_line.specs.Rewritings.{is_allowed}
use Rattle.job_link.specs.declared.writable.WritableSections.TheVariants.{Refused}
use Rattle.job_link.specs.Mentions.{bytes_in, object_names}
use Rattle.commands.specs.Purposes.{IsRace}
use Rattle.commands.proofs.Asked.{asks_whole}
use Rattle.commands.proofs.Fetched.{files_say}
use Rattle.commands.proofs.Untold.{comes_of_bytes}
use Rattle.commands.proofs.races.raced_of_text.Goals as goal

pub returns-in_ok-files-in-Ok-clause-says : goal.returns-in_ok-files-in-Ok-clause-says
returns-in_ok-files-in-Ok-clause-says g c =
    rw c.in-Ok.ensures.job (files_say (λ before. IsRace) (is_allowed c.args.rewriting) Refused
    (g.S.Store.files c.args.store.now) (g.S.Store.files c.fetch_objects.new.store)
    c.in_ok-files-in-Ok.ensures.files c.in-Ok.job c.in_ok-files-in-Ok.files c.in_ok-files-in-Ok.ensures.bytes
    c.keeps_limits.ensures.mentioned c.raced_of_files.result c.raced_of_files.ensures.says)

pub returns-in_ok-files-in-Ok-clause-asks : goal.returns-in_ok-files-in-Ok-clause-asks
returns-in_ok-files-in-Ok-clause-asks g c =
    rw c.in-Ok.ensures.job
    (asks_whole (object_names c.in-Ok.job) (g.S.Store.asked c.args.store.now)
    (g.S.Store.asked c.fetch_objects.new.store) c.raced_of_files.result c.in_ok-files-in-Ok.ensures.asked)

pub returns-in_ok-files-in-Ok-clause-own : goal.returns-in_ok-files-in-Ok-clause-own
returns-in_ok-files-in-Ok-clause-own g c =
    comes_of_bytes IsRace (is_allowed c.args.rewriting) Refused ⊥ (bytes_in c.in_ok-files-in-Ok.files) c.in-Ok.job
    (λ ls own text made. inl (inl made.0))
    c.raced_of_files.result c.raced_of_files.ensures.says
