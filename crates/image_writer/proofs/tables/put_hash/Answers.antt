use Rattle.std.proofs.Common.{◌≡◌, ◌+◌, ap, ◌∙◌, arith}
use Rattle.elf_records.specs.Fields.{bytes_of, splice}
use Rattle.image_writer.proofs.Hashes.{words_below, words_below-all, words_below-start, words_below-put}
use Rattle.image_writer.proofs.tables.put_hash.Goals as goal

pub loop-number-init : goal.loop-number-init
loop-number-init c =
    words_below-start c.args.total c.args.at c.args.out.now c.put_word.new.out c.put_word-2.new.out c.put_word-3.new.out
    (omega arith) c.put_word.ensures c.put_word-2.ensures
    (c.put_word-3.ensures ∙ ap (λ w. splice (c.args.at + 8) (bytes_of 4 w) c.put_word-2.new.out) c.bucket.ensures)

pub loop-number-preserved : goal.loop-number-preserved
loop-number-preserved c =
    words_below-put c.args.total c.loop-number.number c.args.at c.chain.result c.args.out.now c.loop-number.out
    c.put_word-in-loop-number.new.out
    (omega arith) c.chain.ensures c.loop-number.invariant c.put_word-in-loop-number.ensures

pub returns : goal.returns
returns c =
    let all : c.loop-number.number ≡ c.args.total = omega arith in
    c.loop-number.invariant
    ∙ ap (λ n. splice c.args.at (words_below c.args.total n) c.args.out.now) all
    ∙ ap (λ ws. splice c.args.at ws c.args.out.now) (words_below-all c.args.total)
