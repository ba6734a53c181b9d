-- Images whose objects have no byte in a writable section have no data that threads write.
use Rattle.std.proofs.Common.{◌≡◌, ℕ, zero, suc, false, List, [], ◌∷◌, Option, None, refl}
use Rattle.std.specs.Prelude.{slice_get}
use Rattle.std.specs.List.{All}
use Rattle.std.proofs.lemmas.List.Elements.{All-head, All-tail}
use Rattle.guest_machine.specs.Ranges.{Range}
use Rattle.job_meaning.specs.declared.values.Byte.{Byte}
use Rattle.link_needs.specs.Linking.{Linking}
use Rattle.thread_blocks.specs.Turns.{at_number}
use Rattle.whole_meaning.specs.Loads.{data_ranges, loads_of, meaning_of}
use Rattle.link_needs.specs.Linking.{has_writable_data}
use Rattle.meaning_laws.specs.Laws.{ImagesWithoutDataShareNone}
use Rattle.std.specs.Option.{option_map_or}
use Rattle.whole_meaning.specs.Spots.{bias_of}

-- an image at its place
none_in : (ls : List Linking) (i number : ℕ) → All (λ l. has_writable_data l ≡ false) ls
    → ◌≡◌ {A = Option (Range Byte)}
    (option_map_or (λ (own : Linking). data_ranges own (bias_of own.kind number)) (slice_get ls i) None) None
none_in [] i number all = refl
none_in (l ∷ ls) zero number all = rw (All-head (λ l. has_writable_data l ≡ false) l ls all) refl
none_in (l ∷ ls) (suc i) number all = none_in ls i number (All-tail (λ l. has_writable_data l ≡ false) l ls all)

none_at : (ls : List Linking) (image number : ℕ) → All (λ l. has_writable_data l ≡ false) ls
    → ◌≡◌ {A = Option (Range Byte)}
    (option_map_or (λ (own : Linking). data_ranges own (bias_of own.kind number)) (at_number ls image) None) None
none_at ls zero number all = refl
none_at ls (suc i) number all = none_in ls i number all

-- the law
pub share_none : ImagesWithoutDataShareNone
unfolding meaning_of loads_of
share_none ls all = λ x. none_at ls x.image x.number all
