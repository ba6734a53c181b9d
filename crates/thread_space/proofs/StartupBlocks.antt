-- The blocks of the images that start with the program stay.
use Rattle.std.proofs.Common.{◌≡◌, ◌∙◌, ◌≤◌, ℕ, true, List, Option, Some, None, refl, sym, ap, subst, inl, inr}
use Rattle.std.specs.Prelude.{if◌then◌else◌, is_some}
use Rattle.std.specs.Option.{option_or}
use Rattle.std.proofs.lemmas.Bool.{cases_eq, eq-eqb, ne_eqb}
use Rattle.loaded_modules.specs.Images.{infos}
use Rattle.loaded_modules.specs.Loader.{fresh_block}
use Rattle.module_table.specs.Past.{module_of, startup_count}
use Rattle.thread_space.specs.Live.{HasStartups}
use Rattle.thread_space.proofs.Startups.{startup_image}
use Rattle.thread_vector.specs.Holding.{IsLeftBy}
use Rattle.thread_vector.specs.Vectors.{Vector, caught_up, fresh, held, loaded_as, reached}
use Rattle.thread_vector.proofs.Stepping.{caught_at}

still_some : (o r : Option (List ℕ)) → is_some o ≡ true → is_some (option_or o r) ≡ true
still_some None r is = cc
still_some (Some bytes) r is = refl

-- where each block that was there is there
pub startups_on : (old new : Vector) → new.images ≡ old.images
    → ((i : ℕ) → is_some (held old i) ≡ true → is_some (held new i) ≡ true) → HasStartups old → HasStartups new
startups_on old new images on startups number low high =
    on number (startups number low (subst (λ m. number ≤ startup_count (infos m)) images high))

pub same_startups : (old new : Vector) → new.images ≡ old.images
    → ((i : ℕ) → is_some (held new i) ≡ is_some (held old i)) → HasStartups old → HasStartups new
same_startups old new images same startups = startups_on old new images (λ i is. same i ∙ is) startups

pub reach_startups : (old new : Vector) (asked : ℕ) → new.images ≡ old.images
    → ((i : ℕ) → held new i ≡ reached old asked i) → HasStartups old → HasStartups new
unfolding reached
reach_startups old new asked images blocks startups =
    startups_on old new images (λ i is. ap is_some (blocks i) ∙ elim (cases_eq i asked) [
      | inl same ↦ rw (eq-eqb i asked same)
          (still_some (held old asked) (fresh old.images old.past asked)
          (ap (λ n. is_some (held old n)) (sym same) ∙ is))
      | inr apart ↦ rw (ne_eqb i asked apart) is
    ]) startups

pub look_startups : (old new : Vector) → new.images ≡ old.images → IsLeftBy new.images new.past
    → ((i : ℕ) → held new i ≡ caught_up old new.past i) → HasStartups old → HasStartups new
look_startups old new images left blocks startups number low high =
    ap is_some (blocks number
    ∙ caught_at old new.past number number (startup_image new.images new.past number left low high))
    ∙ still_some (held old number)
    (if is_some (module_of new.past number).offset
    then Some (fresh_block old.images (loaded_as old.images new.past number)) else None)
    (startups number low (subst (λ m. number ≤ startup_count (infos m)) images high))
