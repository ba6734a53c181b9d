use Rattle.std.proofs.Common.{◌≡◌, ◌∙◌, ◌+◌, ◌<◌, ◌∷◌, ◌++◌, [], List, length, map, take, sym, ap, subst, arith}
use Rattle.std.specs.List.{All}
use Rattle.std.proofs.lemmas.List.{map-append}
use Rattle.std.proofs.lemmas.List.Elements.{All-push}
use Rattle.job_text.specs.declared.images.Image.{Image}
use Rattle.link_faults.specs.declared.image_kind.ImageKind.{ImageKind}
use Rattle.job_link.specs.Given.{Given, IsGivenImage}
use Rattle.job_link.specs.Reads.{kinds_of}
use Rattle.job_link.proofs.Unseen.{one_more}
use Rattle.job_link.proofs.reading.empty_images.Goals as goal

pub loop-image-preserved : goal.loop-image-preserved
loop-image-preserved c =
    let items = c.images-image-items.result.now in
    let i = c.loop-image.image-index in
    let image = c.image-item.result in
    let inside : i < length items = omega arith in
    let more : take (i + 1) items ≡ take i items ++ image ∷ [] = one_more items i image c.image-item.is inside in
    let same : c.new.result.kind ≡ image.kind = ap (λ (g : Given). g.kind) c.new.ensures.value in
    record {
      items = c.loop-image.invariant.items;
      kinds =
          ap kinds_of c.in_ok-push.ensures.items
          ∙ map-append (λ (g : Given). g.kind) c.loop-image.images.items (c.new.result ∷ [])
          ∙ ap (λ (ks : List ImageKind). ks ++ c.new.result.kind ∷ []) c.loop-image.invariant.kinds
          ∙ ap (λ (k : ImageKind). map (λ (image : Image). image.kind) (take i items) ++ k ∷ []) same
          ∙ sym (map-append (λ (image : Image). image.kind) (take i items) (image ∷ []))
          ∙ ap (map (λ (image : Image). image.kind)) (sym more);
      given =
          subst (λ (images : List Given). All IsGivenImage images) (sym c.in_ok-push.ensures.items)
          (All-push IsGivenImage c.loop-image.images.items c.new.result c.loop-image.invariant.given
          c.new.ensures.given);
      empty =
          subst (λ (images : List Given). All (λ (g : Given). g.objects ≡ []) images) (sym c.in_ok-push.ensures.items)
          (All-push (λ (g : Given). g.objects ≡ []) c.loop-image.images.items c.new.result c.loop-image.invariant.empty
          (ap (λ (g : Given). g.objects) c.new.ensures.value));
    }
