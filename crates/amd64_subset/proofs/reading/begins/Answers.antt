-- What was found is what the list of bytes gives, and that is whether they begin a spelling.
use Rattle.std.proofs.Common.{◌∙◌, sym}
use Rattle.amd64_subset.proofs.Beginning.{begins_spelling, spelling_begins}
use Rattle.amd64_subset.proofs.reading.begins.Goals as goal

pub returns : goal.returns
returns c = record {
  exactly = (
    λ t. begins_spelling c.args.bytes.now (sym c.lacks_some.ensures ∙ t),
    λ h. c.lacks_some.ensures
        ∙ spelling_begins c.args.bytes.now h.more h.decoded h.some h.spells,
  );
  exact = c.lacks_some.ensures;
}
