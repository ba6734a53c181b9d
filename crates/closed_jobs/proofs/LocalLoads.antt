-- The program with local dynamic code and a descriptor, in both settings: what its objects mean, and what is loaded of
-- its image, with all that they are computed by open.
use Rattle.std.proofs.Common.{◌≡◌, ℕ, Bool, [], ◌∷◌, refl}
use Rattle.link_faults.specs.declared.image_kind.ImageKind.TheVariants.{Exe}
use Rattle.thread_blocks.specs.Instances.{Loads}
use Rattle.whole_meaning.specs.Loads.{meaning_of}
use Rattle.whole_meaning.specs.Meanings.{Meaning}
use Rattle.closed_jobs.specs.LocalCode.{object, program, links}
use Rattle.closed_jobs.specs.Worlds.{file, loads_of_links}
use Rattle.closed_jobs.proofs.Closed.{loads}
use Rattle.link_core.proofs.Computed.{linked}
use Rattle.closed_jobs.proofs.Opened.{opened_meaning}

unfoldable pub q : Bool → Loads ℕ
unfolding loads linked program object file
q relax = loads (Exe ∷ []) (linked (program relax) ∷ [])

unfoldable pub m : Bool → Meaning
unfolding opened_meaning program object file
m relax = opened_meaning (links relax)

-- they are what the laws speak of

pub loads_is : (relax : Bool) → q relax ≡ loads_of_links (links relax)
unfolding q
loads_is relax = refl

pub meaning_is : (relax : Bool) → m relax ≡ meaning_of (links relax)
unfolding m
meaning_is relax = refl
