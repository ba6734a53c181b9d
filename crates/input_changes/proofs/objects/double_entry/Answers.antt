-- The copies change no byte that was there, and the header two numbers.
use Rattle.std.proofs.Common.{rules, sym}
use Rattle.input_changes.proofs.Differing.{differing_written}
use Rattle.input_changes.proofs.objects.double_entry.Goals as goal

pub returns-clause-few : goal.returns-clause-few
returns-clause-few c =
    differing_written c.args.bytes.now.items c.append_table.new.bytes.items c.set_table.new.bytes _ _ 16
    (search rules) c.append_table.ensures.no_shorter c.append_table.ensures.kept
    (rw (sym c.deref_mut.ensures.value) c.set_table.ensures)
