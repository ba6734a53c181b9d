-- The file of an image is the link's file in the frame of its draft.
use Rattle.std.proofs.Common.{◌≡◌, ◌+◌, ◌≤◌, ◌∙◌, ◌++◌, ℕ, All, List, [], ◌∷◌, drop, length, map, sym, ap, subst}
use Rattle.image_faults.specs.Faults.{IsImage}
use Rattle.image_file.specs.Spelled.{spelled}
use Rattle.image_rules.specs.declared.places.FileKind.{FileKind}
use Rattle.image_writer.specs.declared.draft.Draft.{Draft}
use Rattle.image_writer.specs.declared.outline.PartPlace.{PartPlace}
use Rattle.image_writer.specs.Contents.{Contents, contents_of, part_in}
use Rattle.image_writer.specs.Frames.{AreInside, back_of, front_of}
use Rattle.image_writer.specs.Laws.{Rise}
use Rattle.image_writer.specs.Linkable.{IsLinkable}
use Rattle.image_writer.specs.Page.{base_of, file_offset}
use Rattle.image_writer.specs.Tables.{finished}
use Rattle.image_writer.specs.Told.{IsRelocationFitting, IsSymbolFitting}
use Rattle.image_writer.specs.Written.{laid, written}
use Rattle.image_writer.proofs.Framing.{frames_hold, has_frame, parts_in_place, read_again}
use Rattle.link_needs.specs.Given.{FitsTable, IsGiven}
use Rattle.link_needs.specs.Linking.{Linking}
use Rattle.link_tables.specs.Faults.{IsSound}
use Rattle.link_core.specs.Bytes.{file}
use Rattle.link_core.specs.Images.{contents, file_kind, image_of, places}
use Rattle.link_core.specs.Laws.{IsDraftOf, IsFramed}
use Rattle.link_core.proofs.Few.{table_fits}
use Rattle.link_core.proofs.FramedGaps.{between_is_zero}
use Rattle.link_core.proofs.Lengths.{file_reaches, places_inside}
use Rattle.link_core.proofs.LengthsPlaces.{Follow, all_follow, same_base}
use Rattle.link_core.proofs.Linkable.{linkable}

-- parts that follow rise
rises : (at : ℕ) (ps : List PartPlace) → Follow at ps → Rise at ps
rises at [] follow = tt
rises at (p ∷ ps) follow = (follow.0, rises (p.address + p.size) ps follow.1)

-- the parts of a link lie in its file, with zeros between them
places_lie : (l : Linking) → IsGiven l → FitsTable l → drop 4096 (file l)
    ≡ laid (base_of (file_kind l.kind)) (map (part_in (file_kind l.kind) (file l)) (places l))
places_lie l given limits =
    let base = base_of (file_kind l.kind) in
    let follow : Follow base (places l) = rw (same_base l.kind) (all_follow l).follow in
    parts_in_place (file_kind l.kind) (file l) (places l) (rises base (places l) follow) (file_reaches l given limits)
    (λ k page inside between. between_is_zero l given limits k between inside)

module _ (l : Linking) (given : IsGiven l) (sound : IsSound l) (d : Draft) (is : IsDraftOf l d) where
  kind_is : d.kind ≡ file_kind l.kind
  unfolding contents
  kind_is = ap (λ (c : Contents). c.kind) is.same

  -- all parts lie in the file
  abbrev AreIn : FileKind → List PartPlace → Type 0
  AreIn kind = All (λ (p : PartPlace). file_offset kind p.address + p.size ≤ length (file l))

  can : IsLinkable (contents_of d (file l))
  can = subst IsLinkable (sym is.same) (linkable l given sound)

  within : AreInside d (file l)
  within =
      subst (AreIn d.kind) (sym is.parts)
      (subst (λ kind. AreIn kind (places l)) (sym kind_is) (places_inside l given (table_fits l given sound.limits)))

  lies : drop 4096 (file l) ≡ laid (base_of d.kind) (contents_of d (file l)).parts
  lies =
      subst (λ kind. drop 4096 (file l) ≡ laid (base_of kind) (map (part_in kind (file l)) d.parts.now)) (sym kind_is)
      (subst (λ parts. drop 4096 (file l)
      ≡ laid (base_of (file_kind l.kind)) (map (part_in (file_kind l.kind) (file l)) parts)) (sym is.parts)
      (places_lie l given (table_fits l given sound.limits)))

  pub framed : IsFramed l d
  unfolding image_of
  framed =
      let frame = has_frame d (file l) can within in
      record {
        loadable = frame.0;
        tls = frame.1;
        whole = ap (λ c. written (finished c)) (sym is.same) ∙ frames_hold d (file l) within
            ∙ ap (λ parts. front_of d ++ (parts ++ back_of d)) (sym lies);
      }

  -- and it is read as that image, if the numbers of the draft fit
  pub is_read : All IsSymbolFitting d.symbols.now → All IsRelocationFitting d.relocations.now
      → IsImage (written (image_of l)) × (spelled (written (image_of l)) ≡ image_of l)
  unfolding image_of
  is_read symbols relocations =
      subst (λ (c : Contents). IsImage (written (finished c)) × (spelled (written (finished c)) ≡ finished c)) is.same
      (read_again d (file l) can symbols relocations)
