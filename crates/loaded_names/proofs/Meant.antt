-- What is found by name, and known of blocks, is what the meaning of the job has.
use Rattle.std.proofs.Common.{◌≡◌, ◌+◌, ◌∙◌, ℕ, zero, suc, List, Option, Some, None, refl, sym, ap}
use Rattle.std.specs.Prelude.{option_and_then, option_map}
use Rattle.std.specs.List.{All}
use Rattle.std.proofs.lemmas.Option.{get_or_from_slice_get, slice_get-map, slice_get_within}
use Rattle.std.proofs.Common.{subst}
use Rattle.image_file.specs.Spelled.{Spelled}
use Rattle.image_names.specs.declared.variable.Variable.{Variable}
use Rattle.image_names.specs.Variables.{variable_in}
use Rattle.link_core.specs.Images.{image_of}
use Rattle.link_needs.specs.Given.{IsGiven}
use Rattle.link_needs.specs.Linking.{Linking}
use Rattle.loaded_bytes.specs.Laws.{images_of}
use Rattle.loaded_modules.specs.Images.{image_at}
use Rattle.thread_blocks.specs.JobLoads.{job_loads}
use Rattle.thread_blocks.specs.Turns.{at_number}
use Rattle.whole_meaning.specs.Bytes.{function_of, variable_of}
use Rattle.whole_meaning.specs.Loads.{loads_of}
use Rattle.loaded_names.specs.Laws.{FunctionsAreMeant, InfosAreMeant, VariablesAreMeant}
use Rattle.loaded_names.proofs.Functions.{functions_loaded}
use Rattle.loaded_names.proofs.Infos.{infos_loaded}
use Rattle.loaded_names.proofs.Variables.{variables_loaded}
use Rattle.std.specs.Option.{option_map_or}
use Rattle.whole_meaning.specs.Spots.{bias_of}

pub functions_meant : FunctionsAreMeant
unfolding loads_of
functions_meant ls l x name is =
    functions_loaded ls l x name is
    ∙ sym (ap (λ (image : Option Linking).
    option_map_or (λ (own : Linking). option_map (λ at. at + bias_of own.kind x.number)
    (function_of own name)) image None) is.image)

-- a link of a list, all of which are given
given_at : (ls : List Linking) → All IsGiven ls → (number : ℕ) (l : Linking) → at_number ls number ≡ Some l → IsGiven l
given_at ls all zero l at = absurd (cc)
given_at ls all (suc i) l at =
    subst IsGiven (get_or_from_slice_get ls i l l at) (all i l (slice_get_within ls i l at))

-- where there is no image, there is none
none_at : (ls : List Linking) (number : ℕ) → at_number ls number ≡ None → image_at (images_of ls) number ≡ None
unfolding image_at
none_at ls zero at = refl
none_at ls (suc i) at = slice_get-map image_of ls i ∙ ap (option_map image_of) at

pub variables_meant : VariablesAreMeant
unfolding job_loads loads_of
variables_meant ls image name given = of_link (at_number ls image) refl
  where
    of_link : (found : Option Linking) → at_number ls image ≡ found
        → option_map (λ (v : Variable). v.offset)
        (option_and_then (λ (found : Spelled). variable_in found name) (image_at (images_of ls) image))
        ≡ option_and_then (λ (l : Linking). variable_of l name) found
    of_link None at =
        ap
        (λ image. option_map (λ (v : Variable). v.offset) (option_and_then (λ (s : Spelled). variable_in s name) image))
        (none_at ls image at)
    of_link (Some l) at = variables_loaded ls l image name at (given_at ls given image l at)

pub infos_meant : InfosAreMeant
unfolding loads_of
infos_meant ls = infos_loaded ls
