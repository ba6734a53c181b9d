-- Relocations that write nothing that a window shows.
use Rattle.std.proofs.Common.{◌≡◌, ◌+◌, ◌-◌, ◌<◌, ◌≤◌, ◌⊎◌, ◌*◌, ◌^◌, ◌%◌, ℕ, ℤ, zero, suc, Bool, true, false, List}
use Rattle.std.proofs.Common.{length, Option, Some, None, subst, inl, inr, refl, arith, length-append}
use Rattle.std.specs.List.{slice_get}
use Rattle.elf_records.specs.Fields.{bytes_of}
use Rattle.elf_records.specs.Laws.{length-bytes_of}
use Rattle.image_faults.specs.declared.loader_kind.LoaderKind.{LoaderKind}
use Rattle.image_faults.specs.declared.loader_kind.LoaderKind.TheVariants.{JumpSlot, Relative, Module, ModuleOffset}
use Rattle.image_faults.specs.declared.loader_kind.LoaderKind.TheVariants.{ThreadOffset, Descriptor}
use Rattle.image_rules.specs.declared.places.FileKind.{FileKind}
use Rattle.image_file.specs.declared.relocation.ImageRelocation.{ImageRelocation}
use Rattle.image_file.specs.Spelled.{Part, Spelled}
use Rattle.loaded_modules.specs.declared.instance.Instance.{Instance}
use Rattle.loaded_modules.specs.declared.relocating.Target.{Target}
use Rattle.address_map.specs.Map.{descriptor_place}
use Rattle.loaded_modules.specs.Images.{JobImages}
use Rattle.loaded_modules.specs.Loader.{lies_in, relocation_bytes, target_of, with_written, written_bytes}
use Rattle.loaded_modules.specs.Words.{with_numbered, IsWindow}
use Rattle.loaded_modules.proofs.Relocated.{inside, length-relocated, relocated, relocated_on}
use Rattle.loaded_modules.proofs.Windows.{window_kept}

word : (n : ℕ) → length (bytes_of 8 n) ≤ 16
word n = let long = length-bytes_of 8 n in omega (arith, long)

short : (kind : FileKind) (x : Instance) (t : Target) (k : LoaderKind) (addend : ℤ)
    → length (written_bytes kind x t k addend) ≤ 16
short kind x t JumpSlot addend = word _
short kind x t Relative addend = word _
short kind x t Module addend = word _
short kind x t ModuleOffset addend = word _
short kind x t ThreadOffset addend = word _
short kind x t Descriptor addend =
    let both = length-append (bytes_of 8 descriptor_place) (bytes_of 8 ((t.id * 2 ^ 32 + t.offset) % 2 ^ 64)) in
    let one = length-bytes_of 8 descriptor_place in
    let two = length-bytes_of 8 ((t.id * 2 ^ 32 + t.offset) % 2 ^ 64) in
    omega (arith, both, one, two)

-- it ends before the window, or begins behind it
abbrev pub IsApart : Part → ℕ → List ℕ → ImageRelocation → Type 0
IsApart part from window r = (r.place + 16 ≤ part.address + from) ⊎ (part.address + from + length window ≤ r.place)

kept_by : (t : Bool) (part : Part) (bytes : List ℕ) (from : ℕ) (window : List ℕ) (r : ImageRelocation) (w : List ℕ)
    → lies_in part r.place (length w) ≡ t
    → length bytes ≡ length part.bytes → length w ≤ 16 → IsApart part from window r → IsWindow bytes from window
    → IsWindow (with_written part bytes r.place w) from window
kept_by true part bytes from window r w is same few apart shows =
    let at = inside part r.place (length w) is in
    rw is (window_kept bytes w window window from (r.place - part.address) 0 0 shows (omega (arith, at.0, at.1, same))
    (λ j ge lt within. no apart at.0 few ge lt within))
  where
    no : {j : ℕ} → IsApart part from window r → part.address ≤ r.place → length w ≤ 16
        → r.place - part.address ≤ from + j → from + j < r.place - part.address + length w → j < length window → ⊥
    no (inl before) above few ge lt within = omega (arith, before, above, few, ge, lt, within)
    no (inr behind) above few ge lt within = omega (arith, behind, above, few, ge, lt, within)
kept_by false part bytes from window r w is same few apart shows = rw is shows

module _ (m : JobImages) (image : Spelled) (x : Instance) (part : Part) (from : ℕ) (window : List ℕ) where
  numbered : (bytes : List ℕ) (r : Option ImageRelocation) → length bytes ≡ length part.bytes
      → ((q : ImageRelocation) → r ≡ Some q → IsApart part from window q) → IsWindow bytes from window
      → IsWindow (with_numbered m image x part bytes r) from window
  unfolding relocation_bytes
  numbered bytes None same apart shows = shows
  numbered bytes (Some r) same apart shows =
      kept_by (lies_in part r.place (length (relocation_bytes m image x r))) part bytes from window r
      (relocation_bytes m image x r) refl same
      (short image.kind x (target_of m image x r) r.kind r.addend) (apart r refl) shows

  -- so many of them, one behind another
  pub untouched : (d n : ℕ)
      → ((k : ℕ) (r : ImageRelocation) → n ≤ k → k < n + d → slice_get image.relocations k ≡ Some r
      → IsApart part from window r)
      → IsWindow (relocated m image x part n) from window → IsWindow (relocated m image x part (n + d)) from window
  untouched zero n apart shows = subst (λ k. IsWindow (relocated m image x part k) from window) (none_more n) shows
    where
      none_more : (n : ℕ) → n ≡ n + 0
      none_more n = omega arith
  untouched (suc d) n apart shows =
      subst (λ k. IsWindow (relocated m image x part k) from window) (one_more n d)
      (untouched d (n + 1) (λ k r ge lt at. apart k r (omega (arith, ge)) (omega (arith, lt)) at)
      (subst (λ (b : List ℕ). IsWindow b from window)
      (relocated_on m image x part n (slice_get image.relocations n) refl)
      (numbered (relocated m image x part n) (slice_get image.relocations n) (length-relocated m image x part n)
      (λ q at. apart n q (omega arith) (omega arith) at) shows)))
    where
      one_more : (n d : ℕ) → n + 1 + d ≡ n + suc d
      one_more n d = omega arith
