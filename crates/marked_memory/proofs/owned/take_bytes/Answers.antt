-- The first range of the owner gives its bytes.
use Rattle.std.proofs.Common.{◌∙◌, Some, ap, sym}
use Rattle.std.specs.Prelude.{option_map}
use Rattle.marked_memory.specs.Owners.{is_owner}
use Rattle.marked_memory.proofs.Takes.{found_none, found_some, leaves_others}
use Rattle.marked_memory.proofs.owned.take_bytes.Goals as goal

pub returns-then-index-owned-clause-bytes : goal.returns-then-index-owned-clause-bytes
returns-then-index-owned-clause-bytes c =
    sym (ap (option_map (λ x. x.range.bytes))
    (found_none (λ x. is_owner c.args.kind c.args.instance x.owner) c.args.owned.now c.place_of-index.result c.place_of-index.ensures c.if-index-owned.true))

pub returns-clause-bytes : goal.returns-clause-bytes
returns-clause-bytes c =
    ap Some (c.take_bytes.ensures.bytes ∙ ap (λ x. x.range.bytes) (sym c.index-owned-index.is))
    ∙ sym (ap (option_map (λ x. x.range.bytes))
    (found_some (λ x. is_owner c.args.kind c.args.instance x.owner) c.args.owned.now c.place_of-index.result c.index-owned-index.result
    c.place_of-index.ensures c.if-index-owned.false c.index-owned-index.is))

pub returns-clause-others : goal.returns-clause-others
returns-clause-others c =
    leaves_others c.args.kind c.args.instance c.args.owned.now c.place_of-index.result c.index-owned-index.result c.take_bytes.new.self
    c.place_of-index.ensures c.if-index-owned.false c.index-owned-index.is
    (c.take_bytes.ensures.owner ∙ ap (λ x. x.owner) (sym c.index-owned-index.is))
