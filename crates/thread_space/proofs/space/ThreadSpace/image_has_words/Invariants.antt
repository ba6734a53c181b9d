-- No part so far has the words.
use Rattle.std.proofs.Common.{◌≡◌}
use Rattle.std.specs.List.{list_any}
use Rattle.thread_blocks.specs.JobLoads.{parts_from, written_from}
use Rattle.thread_blocks.specs.RunTime.{has_words}
use Rattle.thread_space.proofs.PartBytes.{words_from}
use Rattle.thread_space.proofs.space.ThreadSpace.image_has_words.Given as goal

abbrev pub invariant-loop-number : goal.invariant-loop-number
invariant-loop-number l =
    list_any (has_words l.address)
    (written_from l.image.parts (parts_from l.self.vector.images l.image l.instance 0 l.image.parts))
    ≡ words_from l.self.vector.images l.image l.instance l.address l.number
