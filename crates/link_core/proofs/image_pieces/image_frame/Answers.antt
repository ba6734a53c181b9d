use Rattle.std.proofs.Common.{◌≡◌, ◌∙◌, ◌++◌, drop, length, refl, sym, ap, subst}
use Rattle.image_faults.specs.Faults.{IsImage}
use Rattle.image_file.specs.Spelled.{spelled}
use Rattle.image_writer.specs.Frames.{outline_told}
use Rattle.image_writer.specs.Written.{written}
use Rattle.image_writer.proofs.Filing.{length-page}
use Rattle.link_needs.specs.Linking.{Linking}
use Rattle.link_tables.specs.Faults.{IsSound}
use Rattle.link_core.specs.Bytes.{file}
use Rattle.link_core.specs.Images.{image_of}
use Rattle.link_core.proofs.Framed.{framed, is_read}
use Rattle.link_core.proofs.image_pieces.image_frame.Goals as goal

pub frame_of-requires : goal.frame_of-requires
frame_of-requires c =
    let d = c.draft_of-draft.result in
    let is = framed c.plan.inside.inputs c.plan.invariant.given
    (subst IsSound (sym (c.plan.view_is ∙ c.tables.view_is)) c.requires) d
    (record { parts = c.draft_of-draft.ensures.parts; same = c.draft_of-draft.ensures.contents }) in
    record { loadable = is.loadable; tls = is.tls }

pub returns : goal.returns
returns c =
    let d = c.draft_of-draft.result in
    let same = c.plan.view_is ∙ c.tables.view_is in
    let front = c.in_ok-frame.frame.front.items in
    let back = c.in_ok-frame.frame.back.items in
    let is = framed c.plan.inside.inputs c.plan.invariant.given (subst IsSound (sym same) c.requires) d
    (record { parts = c.draft_of-draft.ensures.parts; same = c.draft_of-draft.ensures.contents }) in
    record {
      page = ap length c.in_ok-frame.ensures.front ∙ length-page (outline_told d) is.loadable;
      file =
          subst (λ (l : Linking). written (image_of l) ≡ front ++ (drop 4096 (file l) ++ back)) same
          (is.whole ∙ rw (c.in_ok-frame.ensures.front, c.in_ok-frame.ensures.back) refl);
      again =
          subst (λ (l : Linking). IsImage (written (image_of l)) × (spelled (written (image_of l)) ≡ image_of l)) same
          (is_read c.plan.inside.inputs c.plan.invariant.given (subst IsSound (sym same) c.requires) d
          (record { parts = c.draft_of-draft.ensures.parts; same = c.draft_of-draft.ensures.contents })
          c.in_ok-frame.ensures.symbols c.in_ok-frame.ensures.relocations);
    }
