-- Images without data that threads write: nothing is loaded of them that threads share.
use Rattle.std.proofs.Common.{◌≡◌, ◌∙◌, ℕ, zero, suc, Bool, true, false, List, [], Option, Some, None, refl, ap, subst}
use Rattle.std.specs.List.{All, find}
use Rattle.std.proofs.lemmas.Option.{get_or_from_slice_get, slice_get-map, slice_get_within}
use Rattle.guest_operands.specs.Ranges.{Range}
use Rattle.link_core.specs.Faults.{Links}
use Rattle.link_core.specs.Images.{image_of}
use Rattle.link_core.specs.Laws.{HasNoStray}
use Rattle.link_needs.specs.Given.{IsGiven}
use Rattle.link_needs.specs.Linking.{Linking}
use Rattle.loaded_bytes.proofs.Data.{data_loaded}
use Rattle.loaded_bytes.specs.Laws.{IsData, IsInstanceOf, images_of}
use Rattle.loaded_modules.specs.declared.instance.Instance.{Instance}
use Rattle.loaded_modules.specs.Images.{image_at}
use Rattle.std.specs.Prelude.{option_map}
use Rattle.thread_blocks.specs.JobLoads.{job_loads, parts_from}
use Rattle.thread_blocks.specs.JobStatements.{HasNoData}
use Rattle.thread_blocks.specs.Turns.{at_number}
use Rattle.link_needs.specs.Linking.{has_writable_data}
use Rattle.whole_meaning.specs.Spots.{bias_of}
use Rattle.linked_jobs.specs.Ready.{AreReady}
use Rattle.std.specs.Option.{option_map_or}

-- what all links have, each has
one_of : (P : Linking → Type 0) (ls : List Linking) (n : ℕ) (l : Linking) → All P ls → at_number ls n ≡ Some l → P l
one_of P ls zero l all at = cc
one_of P ls (suc i) l all at = subst P (get_or_from_slice_get ls i l l at) (all i l (slice_get_within ls i l at))

-- no data, no range of it
none_of : (l : Linking) (number : ℕ) (has : Bool) (range : Option (Range ℕ)) → has ≡ false → IsData l number has range
    → range ≡ None
none_of l number true range e is = cc
none_of l number false None e is = refl
none_of l number false (Some range) e is = absurd is

-- an instance of no image
no_image : (ls : List Linking) (n : ℕ) → at_number ls n ≡ None → image_at (images_of ls) n ≡ None
unfolding image_at
no_image ls zero e = refl
no_image ls (suc i) e = slice_get-map image_of ls i ∙ ap (option_map image_of) e

module _ (ls : List Linking) (ready : AreReady ls) (none : All (λ (l : Linking). has_writable_data l ≡ false) ls) where
  of_link : (x : Instance) (l : Linking) → at_number ls x.image ≡ Some l
      → (job_loads (images_of ls)).shared x ≡ None
  of_link x l at =
      let is : IsInstanceOf ls l x = record {
        image = at;
        given = one_of IsGiven ls x.image l ready.together.given at;
        links = one_of Links ls x.image l ready.together.links at;
        stray = one_of HasNoStray ls x.image l ready.stray at;
      } in
      none_of l (bias_of l.kind x.number) (has_writable_data l) ((job_loads (images_of ls)).shared x)
      (one_of (λ (m : Linking). has_writable_data m ≡ false) ls x.image l none at) (data_loaded ls l x is)

  pub shares_none : HasNoData (job_loads (images_of ls))
  unfolding job_loads
  shares_none x = of_image (at_number ls x.image) refl
    where
      of_image : (found : Option Linking) → at_number ls x.image ≡ found → (job_loads (images_of ls)).shared x ≡ None
      of_image (Some l) e = of_link x l e
      of_image None e =
          ap (λ image. find (λ (range : Range ℕ). range.writable)
          (option_map_or (λ own. parts_from (images_of ls) own x 0 own.parts) image []))
          (no_image ls x.image e)
