use Rattle.std.proofs.Common.{◌==◌, ◌∙◌, length, unwrap_or, ap, rules, tests}
use Rattle.std.specs.List.{position_or_len}
use Rattle.std.proofs.lemmas.Iterator.{YieldsList-from_slice}
use Rattle.std.proofs.lemmas.Iterator.Search.{position_from_yields_List}
use Rattle.std.proofs.lemmas.List.Sums.{prefix_len-le-length}
use Rattle.elf_records.proofs.TextLengths.{first_or_length}
use Rattle.elf_records.proofs.strings.text_len.Goals as goal

pub returns : goal.returns
returns c =
    let bytes = c.args.bytes.now in
    let found = position_from_yields_List (λ byte. byte == 0) _ _ c.position.result c.position.ensures.ran
    (YieldsList-from_slice bytes c.iter.ensures.rest) (λ x b q k. search (rules, tests)) in
    c.unwrap_or.ensures
    ∙ ap (λ r. unwrap_or r (length bytes)) found
    ∙ first_or_length (position_or_len (λ byte. byte == 0) bytes) (length bytes) (prefix_len-le-length _ bytes)
