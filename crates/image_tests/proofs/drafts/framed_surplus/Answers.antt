use Rattle.image_tests.proofs.Surplus.{file_linkable}
use Rattle.image_tests.proofs.drafts.framed_surplus.Goals as goal

pub file_of-requires-clause-linkable : goal.file_of-requires-clause-linkable
file_of-requires-clause-linkable c =
    rw (
      c.named.ensures,
      c.named-2.ensures,
      c.symbol.ensures,
      c.symbol-2.ensures,
      c.place.ensures,
      c.place-2.ensures,
      c.place-3.ensures,
    ) (file_linkable c.args.file.now c.requires)
