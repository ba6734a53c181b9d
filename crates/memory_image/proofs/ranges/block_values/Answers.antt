use Rattle.memory_image.proofs.Ranging.{block_is, few_padded}
use Rattle.memory_image.proofs.ranges.block_values.Goals as goal

pub returns-clause-values : goal.returns-clause-values
returns-clause-values c = λ l is keeps size.
    block_is l c.args.bias keeps c.args.initial.now c.args.size c.in_ok-block.block.items c.pad_block.new.block.items is size
    c.in_ok-block.ensures.values c.in_ok-pad_block.ensures

pub returns-clause-few : goal.returns-clause-few
returns-clause-few c =
    few_padded c.in_ok-block.block.items c.pad_block.new.block.items c.args.size c.in_ok-block.ensures.few c.requires.small
    c.in_ok-pad_block.ensures
