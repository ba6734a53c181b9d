use Rattle.std.proofs.Common.{◌≡◌, ◌++◌, length, map, sym, ap, ◌∙◌}
use Rattle.image_writer.specs.Contents.{part_in}
use Rattle.image_writer.specs.Outlined.{Outlined, outline_of, last_part, end_of}
use Rattle.image_writer.specs.Page.{base_of, file_offset, page}
use Rattle.image_writer.specs.Written.{laid, written}
use Rattle.image_writer.proofs.Filing.{over_all}
use Rattle.image_writer.proofs.Standing.{cut_again}
use Rattle.image_writer.proofs.written.into_file.Goals as goal

pub put_around-requires-clause-ends : goal.put_around-requires-clause-ends
put_around-requires-clause-ends c =
    let size = c.file_size.ensures
    ∙ ap (λ (o : Outlined). file_offset o.kind (end_of (last_part o))) c.outline_of-outline.ensures in
    let left = cut_again c.args.image c.into_bytes-file.result.items c.as_mut_slice.result.now c.file_size.result
    c.into_bytes-file.ensures.image c.into_bytes-file.ensures.spelled size
    (c.as_mut_slice.ensures.value ∙ c.truncate.ensures.items) in
    left.0 ∙ c.file_size.ensures

pub returns-clause-file : goal.returns-clause-file
unfolding written
returns-clause-file c =
    let image = c.args.image in
    let lent = c.as_mut_slice.result.now in
    let size = c.file_size.ensures
    ∙ ap (λ (o : Outlined). file_offset o.kind (end_of (last_part o))) c.outline_of-outline.ensures in
    let left = cut_again image c.into_bytes-file.result.items lent c.file_size.result
    c.into_bytes-file.ensures.image c.into_bytes-file.ensures.spelled size
    (c.as_mut_slice.ensures.value ∙ c.truncate.ensures.items) in
    let made : c.put_around.new.out ≡ written image =
    c.put_around.ensures
    ∙ ap (λ (o : Outlined). page o
    ++ laid (base_of o.kind) (map (part_in o.kind lent) o.parts)) c.outline_of-outline.ensures
    ∙ ap (λ ps. page (outline_of image) ++ laid (base_of image.kind) ps) left.1 in
    let long : length c.put_around.new.out ≡ c.truncate.new.self.len =
    ap length made ∙ c.written_again.ensures.size ∙ sym size ∙ sym left.0
    ∙ ap length c.as_mut_slice.ensures.value ∙ sym c.truncate.new.self.ok.0 in
    over_all c.truncate.new.self.len c.put_around.new.out c.truncate.new.self.items long ∙ made
