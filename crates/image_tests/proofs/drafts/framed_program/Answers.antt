use Rattle.image_tests.proofs.Data.{file_linkable}
use Rattle.image_tests.proofs.drafts.framed_program.Goals as goal

pub file_of-requires-clause-linkable : goal.file_of-requires-clause-linkable
file_of-requires-clause-linkable c =
    rw (
      c.named.ensures,
      c.named-2.ensures,
      c.named-3.ensures,
      c.named-4.ensures,
      c.symbol.ensures,
      c.symbol-2.ensures,
      c.symbol-3.ensures,
      c.symbol-4.ensures,
      c.place.ensures,
      c.place-2.ensures,
      c.place-3.ensures,
      c.place-4.ensures,
      c.place-5.ensures,
    ) (file_linkable c.args.file.now c.requires)
