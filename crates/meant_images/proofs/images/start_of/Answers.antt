use Rattle.std.proofs.Common.{◌∙◌, length, map, sym, ap, refl, arith}
use Rattle.std.specs.Prelude.{option_map}
use Rattle.std.proofs.lemmas.Bool.{eqb-false, eqb-true}
use Rattle.guest_operands.specs.Ranges.{Range}
use Rattle.job_meaning.specs.declared.values.Byte.{Byte}
use Rattle.job_meaning.specs.declared.values.Byte.TheVariants.{Value}
use Rattle.memory_image.specs.Tables.{bytes_at}
use Rattle.meant_images.proofs.DataRanges.{no_data, some_data}
use Rattle.meant_images.proofs.images.start_of.Goals as goal

pub returns-then-is_empty : goal.returns-then-is_empty
returns-then-is_empty c = λ l is keeps.
    ap (option_map (λ (range : Range Byte). range.start)) (no_data l c.args.bias keeps c.args.writable.now is
    (eqb-true (length c.args.writable.now.bytes) 0 (sym c.is_empty.ensures ∙ c.if-is_empty.true)))

pub returns-else-is_empty : goal.returns-else-is_empty
returns-else-is_empty c = λ l is keeps.
    let some = eqb-false (length c.args.writable.now.bytes) 0 (sym c.is_empty.ensures ∙ c.if-is_empty.false) in
    ap (option_map (λ (range : Range Byte). range.start))
    (some_data l c.args.bias keeps c.args.writable.now c.place.result
    (map Value (bytes_at c.args.writable.now c.args.bias)) is (omega (arith, some)) c.place.ensures refl)
