use Rattle.std.proofs.Common.{ℕ, List, ◌++◌, ◌∙◌, ap, arith, sym, drop, ◌+◌}
use Rattle.std.specs.List.{flat_map}
use Rattle.elf_records.specs.Fields.{bytes_of}
use Rattle.got_pairs.specs.Entries.{entry_of, words}
use Rattle.got_pairs.specs.declared.entry.Entry.{Entry}
use Rattle.link_core.specs.ByteLaws.{table_bytes}
use Rattle.link_core.proofs.WritingParts.{entries_step, entries_there}
use Rattle.link_core.proofs.file.push_entries.Goals.{in-Some+in_ok-push_entry, in_default}
use Rattle.link_core.proofs.file.push_entries.Goals as goal

entry_bytes : Entry → List ℕ
entry_bytes entry = flat_map (λ w. bytes_of 8 w.number) (words entry)

pub loop-number-preserved : goal.loop-number-preserved
unfolding entry_bytes
loop-number-preserved c =
    let t = c.args.got.now in
    let n = c.loop-number.number in
    let rest = table_bytes (record t { entries = drop (n + 1) t.entries }) in
    elim c.match-entry.branch [
      | in-Some+in_ok-push_entry w ↦
          ap (λ file. file.items ++ rest) w.file-is
          ∙ ap (λ items. items ++ rest) w.in_ok-push_entry.ensures
          ∙ entries_step (entry_of t.kind t.block_offset) entry_bytes c.loop-number.file.items n t.entries
          w.in-Some.entry w.in-Some.ensures
          ∙ c.loop-number.invariant
      | in_default w ↦
          let none = sym w.in_default.is ∙ c.entry.ensures in
          absurd (entries_there (entry_of t.kind t.block_offset) n t.entries none (omega arith))
    ]
