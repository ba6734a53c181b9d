use Rattle.std.proofs.Common.{◌∙◌, arith, length, ap, take, replicate}
use Rattle.image_file.specs.Spelled.{lent_part}
use Rattle.loaded_modules.proofs.FreshBlocks.{block_is, length-front, placed}
use Rattle.loaded_modules.proofs.modules.Modules.fill_tls.Goals as goal

pub overflow_sub-from : goal.overflow_sub-from
overflow_sub-from c = (placed c.args.tls c.args.image.now.parts (lent_part c.in-Some.part) c.in-Some.ensures).0

pub read_window-requires-clause-inside : goal.read_window-requires-clause-inside
read_window-requires-clause-inside c =
    let at = placed c.args.tls c.args.image.now.parts (lent_part c.in-Some.part) c.in-Some.ensures in
    let front = length-front c.args.tls c.clear.new.into c.requires.kept
    (c.clear.ensures ∙ ap (λ n. replicate n 0) c.requires.size) in
    omega (arith, at.0, at.1, front)

pub returns-in-Some-clause-value : goal.returns-in-Some-clause-value
returns-in-Some-clause-value c =
    let zeros = c.clear.ensures ∙ ap (λ n. replicate n 0) c.requires.size in
    let front = length-front c.args.tls c.clear.new.into c.requires.kept zeros in
    block_is c.args.self.now c.args.image.now c.args.instance.now c.args.tls
    (lent_part c.in-Some.part) c.read_window.new.window c.clear.new.into
    (length (take c.args.tls.initial c.clear.new.into))
    c.in-Some.ensures zeros (c.read_window.ensures.len ∙ front) front c.read_window.ensures.shows
