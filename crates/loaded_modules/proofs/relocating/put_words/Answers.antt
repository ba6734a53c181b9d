use Rattle.std.proofs.Common.{◌≡◌, ◌+◌, List, ℕ, arith, length, subst, ap, ◌∙◌}
use Rattle.elf_records.specs.Fields.{bytes_of, splice}
use Rattle.elf_records.specs.Laws.{length-bytes_of, length-splice}
use Rattle.loaded_modules.specs.Words.{IsWindow}
use Rattle.loaded_modules.proofs.WordBytes.{both_shown, two_words}
use Rattle.loaded_modules.proofs.relocating.put_words.Goals as goal

pub returns-in-Some-clause-shows : goal.returns-in-Some-clause-shows
returns-in-Some-clause-shows c = λ whole inside shows.
    let count = two_words c.args.words c.in-Some.second c.in-Some.is in
    let one = length-bytes_of 8 c.args.words.first in
    let two = length-bytes_of 8 c.in-Some.second in
    let first : length c.word_bytes.result ≡ 8 = ap length c.word_bytes.ensures ∙ one in
    let second : length c.word_bytes-in-Some.result ≡ 8 = ap length c.word_bytes-in-Some.ensures ∙ two in
    let here = c.overlay.ensures.shows whole (omega (arith, inside, count, first)) shows in
    let long = length-splice c.args.place c.word_bytes.result whole (omega (arith, inside, count, first)) in
    let there = c.overlay-in-Some.ensures.shows (splice c.args.place c.word_bytes.result whole)
    (omega (arith, inside, count, second, long)) here in
    both_shown whole c.args.from c.args.place c.args.words c.overlay-in-Some.new.window c.in-Some.second c.in-Some.is inside
    (subst (λ (b : List ℕ). IsWindow
    (splice (c.args.place + 8) b
    (splice c.args.place (bytes_of 8 c.args.words.first) whole)) c.args.from c.overlay-in-Some.new.window) c.word_bytes-in-Some.ensures
    (subst (λ (b : List ℕ). IsWindow
    (splice (c.args.place + 8) c.word_bytes-in-Some.result
    (splice c.args.place b whole)) c.args.from c.overlay-in-Some.new.window) c.word_bytes.ensures there))
