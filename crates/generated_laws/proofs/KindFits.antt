-- What the kind of an image and its storage ask of objects that read as plain shapes, and how many relocations these have.
use Rattle.std.proofs.Common.{◌≡◌, ◌≢◌, ◌-◌, ◌*◌, ◌<◌, ◌≤◌, ◌∙◌, ℕ, List, [], length, false, refl, subst, sym, ap}
use Rattle.std.proofs.Common.{arith}
use Rattle.std.specs.Prelude.{◌==◌, slice_index_or, sum_by}
use Rattle.std.specs.List.{range_with_len}
use Rattle.std.proofs.lemmas.Bool.{ne_eqb}
use Rattle.std.proofs.lemmas.List.{get_or_default, length-map}
use Rattle.std.proofs.lemmas.List.Sums.{sum_by-le}
use Rattle.elf_object.specs.Lent.{relocations}
use Rattle.link_faults.specs.declared.fault.LinkFaultKind.TheVariants.{LocalExecInModule, NarrowInModule}
use Rattle.link_faults.specs.declared.image_kind.ImageKind.{ImageKind}
use Rattle.link_needs.specs.Refusals.{FitsKind, FitsStorage, by_storage, by_type}
use Rattle.elf_object.specs.Counts.{own_count, relocation_count}
use Rattle.tls_symbols.specs.Bindings.{object_at}
use Rattle.generated_job.specs.Shapes.{Shape}
use Rattle.generated_laws.specs.Reading.{ReadsAs, relocation_of}
use Rattle.generated_laws.proofs.KindPlain.{ReadAsShapes, none_unwelcome}

sum_of_first : (f : ℕ → ℕ) → f 2 ≡ 0 → f 3 ≡ 0 → f 4 ≡ 0 → f 5 ≡ 0 → f 6 ≡ 0 → f 7 ≡ 0
    → sum_by f (range_with_len 1 7) ≡ f 1
sum_of_first f second third fourth fifth sixth seventh = rw (second, third, fourth, fifth, sixth, seventh) (omega arith)

module _ (b : List ℕ) (s : Shape) (reads : ReadsAs b s) where
  none_at : (t : ℕ) → t ≢ 1 → length (relocations b t) ≡ 0
  none_at t other = ap length (reads.no_other t other)

  -- those of an object are those of its code
  pub own_count_is : own_count b ≡ length s.relocations
  unfolding own_count
  own_count_is =
      ap (λ n. sum_by (λ t. length (relocations b t)) (range_with_len 1 (n - 1))) reads.sections
      ∙ sum_of_first (λ t. length (relocations b t)) (none_at 2 (λ e. omega (arith, e)))
      (none_at 3 (λ e. omega (arith, e)))
      (none_at 4 (λ e. omega (arith, e))) (none_at 5 (λ e. omega (arith, e))) (none_at 6 (λ e. omega (arith, e)))
      (none_at 7 (λ e. omega (arith, e)))
      ∙ ap length reads.relocations_are
      ∙ length-map s.relocations relocation_of

module _ (objects : List (List ℕ)) (shape : ℕ → Shape) (given : ReadAsShapes objects shape) where
  -- no kind of image refuses them
  pub fits_kind : (image : ImageKind) → FitsKind objects image
  fits_kind image = record {
    no_local_exec = none_unwelcome objects shape given (by_type LocalExecInModule image)
        (λ o r welcome. welcome.no_local_exec image);
    no_narrow = none_unwelcome objects shape given (by_type NarrowInModule image)
        (λ o r welcome. welcome.no_narrow image);
  }

  -- nor does one that has storage
  pub fits_storage : (startup : List (List (List ℕ))) (image : ImageKind) (size : ℕ) → 0 < size
      → FitsStorage objects startup image size
  fits_storage startup image size some =
      none_unwelcome objects shape given (by_storage objects startup image size) (λ o r welcome. (rw none refl))
    where
      none : (size == 0) ≡ false
      none = ne_eqb size 0 (λ e. omega (arith, e, some))

  pub few_relocations : relocation_count objects ≤ length objects * 3
  few_relocations =
      sum_by-le own_count 3 objects
      (λ k d there.
      (let same : slice_index_or objects k d ≡ object_at objects k = get_or_default objects k d [] there in
      let is : own_count (object_at objects k) ≡ length (shape k).relocations =
      own_count_is (object_at objects k) (shape k) (given.reads k there) in
      let few = (given.plain k there).few in
      subst (λ b. own_count b ≤ 3) (sym same) (omega (arith, is, few))))
