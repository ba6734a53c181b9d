-- What is known of images: late ones come last, and the blocks of all lie close together.
use Rattle.std.proofs.Common.{◌≡◌, ◌∙◌, ℕ, zero, suc, ◌+◌, ◌*◌, ◌^◌, ◌<◌, ◌≤◌, Bool, true, false, List, [], ◌∷◌, All}
use Rattle.std.proofs.Common.{length, take, get_or, refl, sym, ap, subst, arith, inl, inr, ◌-◌, ◌%◌, Option, Some, None}
use Rattle.std.proofs.Common.{map}
use Rattle.job_text.specs.Jobs.{JobParts}
use Rattle.job_text.specs.Numbering.{at_number}
use Rattle.loaded_modules.specs.Given.{AreModules}
use Rattle.std.proofs.lemmas.Option.{slice_get_within, get_or_from_slice_get, unwrap_or-slice_get}
use Rattle.std.specs.List.{slice_get}
use Rattle.std.proofs.Math.Nat.{mod-lt}
use Rattle.std.proofs.lemmas.List.{get_or_default, length-map, get_or-map}
use Rattle.std.specs.List.{AllPairs}
use Rattle.std.specs.Int.{next_multiple_of}
use Rattle.std.proofs.lemmas.Bool.{cases_lt}
use Rattle.image_file.specs.Spelled.{Spelled}
use Rattle.link_faults.specs.declared.image_kind.ImageKind.{ImageKind}
use Rattle.link_faults.specs.declared.image_kind.ImageKind.TheVariants.{Exe}
use Rattle.module_table.specs.declared.modules.ImageInfo.{ImageInfo}
use Rattle.module_table.specs.Modules.{startup_end}
use Rattle.module_table.specs.Modules.{AreInfos, IsInfo}
use Rattle.loaded_modules.specs.declared.exports.Export.{Export}
use Rattle.loaded_modules.specs.Loader.{export_of, name_of}
use Rattle.loaded_modules.specs.Ends.{end_behind, ends_behind}
use Rattle.loaded_modules.specs.Images.{JobImages, image_at, infos, infos_of, is_late, last_offset, static_offset}

pub length-infos_of : (kinds : List ImageKind) (images : List Spelled) → length kinds ≡ length images
    → length (infos_of kinds images) ≡ length kinds
length-infos_of [] images same = refl
length-infos_of (kind ∷ kinds) [] same = absurd (cc same)
length-infos_of (kind ∷ kinds) (image ∷ images) same = ap suc (length-infos_of kinds images (cc same))

late_at : (kinds : List ImageKind) (images : List Spelled) (i : ℕ) (d : ImageInfo) → length kinds ≡ length images
    → i < length kinds
    → (get_or (infos_of kinds images) i d).late ≡ is_late (get_or kinds i Exe)
late_at [] images i d same inside = absurd (omega (arith, inside))
late_at (kind ∷ kinds) [] i d same inside = absurd (cc same)
late_at (kind ∷ kinds) (image ∷ images) zero d same inside = refl
late_at (kind ∷ kinds) (image ∷ images) (suc i) d same inside =
    late_at kinds images i d (cc same) (omega (arith, inside))

pub are_infos : (kinds : List ImageKind) (images : List Spelled) → length kinds ≡ length images → 1 ≤ length kinds
    → length kinds ≤ 64
    → AllPairs (λ (a b : ImageKind). is_late a ≡ true → is_late b ≡ true) kinds → All IsInfo (infos_of kinds images)
    → AreInfos (infos_of kinds images)
are_infos kinds images same some few late each =
    let long = length-infos_of kinds images same in
    record {
      some = omega (arith, long, some);
      few = omega (arith, long, few);
      late_last = λ i j d below inside is.
          late_at kinds images j d same (omega (arith, long, inside))
          ∙ late i j Exe below (omega (arith, long, inside))
          (sym (late_at kinds images i d same (omega (arith, long, below, inside))) ∙ is);
      each = each;
    }

-- ** the ends of blocks

step_end : (late : Bool) (info : ImageInfo) (infos : List ImageInfo) (taken : ℕ) → info.late ≡ late
    → startup_end (info ∷ infos) taken ≡ startup_end infos (end_behind taken info)
step_end true info infos taken is = rw is refl
step_end false info infos taken is = rw is refl

-- the offset at each number
pub end_at : (infos : List ImageInfo) (taken k : ℕ) → k ≤ length infos
    → get_or (taken ∷ ends_behind infos taken) k 0 ≡ startup_end (take k infos) taken
end_at infos taken zero within = refl
end_at [] taken (suc k) within = absurd (omega (arith, within))
end_at (info ∷ infos) taken (suc k) within =
    end_at infos (end_behind taken info) k (omega (arith, within))
    ∙ sym (step_end info.late info (take k infos) taken refl)

pub length-ends : (infos : List ImageInfo) (taken : ℕ) → length (ends_behind infos taken) ≡ length infos
length-ends [] taken = refl
length-ends (info ∷ infos) taken = ap suc (length-ends infos (end_behind taken info))

take-past : {X : Type 0} (xs : List X) (k : ℕ) → length xs ≤ k → take k xs ≡ xs
take-past [] zero past = refl
take-past [] (suc k) past = refl
take-past (x ∷ xs) zero past = absurd (omega (arith, past))
take-past (x ∷ xs) (suc k) past = ap (λ ys. x ∷ ys) (take-past xs k (omega (arith, past)))

module _ (m : JobImages) where
  -- what is read of the offsets
  pub offset_is : (offsets : List ℕ) (k at x : ℕ) → offsets ≡ 0 ∷ ends_behind (infos m) 0
      → (k ≤ length (infos m) → at ≡ k) → (length (infos m) ≤ k → at ≡ length (infos m))
      → x ≡ get_or offsets at x → x ≡ static_offset m k
  unfolding static_offset
  offset_is offsets k at x are below past reads = elim (cases_lt (length (infos m)) k) [
    | inl more ↦ reads_at (length (infos m)) (past (omega (arith, more))) (omega arith)
        ∙ ap (λ (is : List ImageInfo). startup_end is 0)
        (take-past (infos m) (length (infos m)) (omega arith) ∙ sym (take-past (infos m) k (omega (arith, more))))
    | inr within ↦ reads_at k (below within) within
  ]
    where
      reads_at : (n : ℕ) → at ≡ n → n ≤ length (infos m) → x ≡ startup_end (take n (infos m)) 0
      reads_at n same within =
          reads
          ∙ ap (λ (os : List ℕ). get_or os at x) are
          ∙ get_or_default (0 ∷ ends_behind (infos m) 0) at x 0
          (let long = length-ends (infos m) 0 in omega (arith, long, same, within))
          ∙ ap (λ n. get_or (0 ∷ ends_behind (infos m) 0) n 0) same
          ∙ end_at (infos m) 0 n within

  pub last_is : (k : ℕ) → k ≡ length (infos m) → static_offset m k ≡ last_offset m
  unfolding static_offset last_offset
  last_is k same = ap (λ (is : List ImageInfo). startup_end is 0) (take-past (infos m) k (omega (arith, same)))

-- ** how low the last block begins

next_low : (x y : ℕ) → 0 < y → next_multiple_of x y ≤ x + y
next_low x y some = let low = mod-lt (y - x % y) some in omega (arith, low)

step_low : (late : Bool) (info : ImageInfo) (taken : ℕ) → info.late ≡ late → IsInfo info
    → end_behind taken info ≤ taken + (2 ^ 20 + 4096)
step_low true info taken is kept = rw is (omega arith)
step_low false info taken is kept =
    rw is (let low = next_low (taken + info.size) info.align kept.aligned in omega (arith, low, kept.small, kept.page))

end_low : (infos : List ImageInfo) (taken : ℕ) → All IsInfo infos
    → startup_end infos taken ≤ taken + length infos * (2 ^ 20 + 4096)
end_low [] taken each = omega arith
end_low (info ∷ infos) taken each =
    let step = step_low info.late info taken refl (all_head each) in
    let rest = end_low infos (end_behind taken info) (all_tail each) in
    rw (step_end info.late info infos taken refl) (omega (arith, step, rest))
  where
    all_head : All IsInfo (info ∷ infos) → IsInfo info
    all_head all = all 0 info (omega arith)

    all_tail : All IsInfo (info ∷ infos) → All IsInfo infos
    all_tail all i d inside = all (suc i) d (omega (arith, inside))

pub last_low : (m : JobImages) → AreInfos (infos m) → last_offset m < 2 ^ 27
unfolding last_offset
last_low m are = let low = end_low (infos m) 0 are.each in omega (arith, low, are.few)

pub length-infos : (m : JobImages) → length m.kinds ≡ length m.images → length (infos m) ≡ length m.images
unfolding infos
length-infos m same = length-infos_of m.kinds m.images same ∙ same

-- the images of a job are infos
pub infos_are : (job : JobParts) (images : List Spelled) (kinds : List ImageKind)
    → kinds ≡ map (λ image. image.kind) job.images → AreModules job images
    → 1 ≤ length job.images → length job.images ≤ 64 → All IsInfo (infos_of kinds images)
    → AreInfos (infos_of kinds images)
infos_are job images kinds same are some few kept =
    let long : length kinds ≡ length job.images = ap length same ∙ length-map job.images (λ image. image.kind) in
    are_infos kinds images (omega (arith, long, are.each)) (omega (arith, long, some)) (omega (arith, long, few))
    (subst (λ (ks : List ImageKind). AllPairs (λ (a b : ImageKind). is_late a ≡ true → is_late b ≡ true) ks)
    (sym same) are.late_last)
    kept

-- ** the rows of imports

pub at_is : (m : JobImages) (number : ℕ) (image : Spelled) → image_at m number ≡ Some image
    → (1 ≤ number) × (slice_get m.images (number - 1) ≡ Some image)
unfolding image_at
at_is m zero image is = absurd (cc is)
at_is m (suc n) image is = (omega arith, ap (slice_get m.images) (omega arith) ∙ is)

module _ {V : Type 0} {T : Type 0} (items : V → List T) (f : Spelled → List T) (rows : List V) (images : List Spelled)
    (made : map items rows ≡ map f images) (i : ℕ) (image : Spelled) (is : slice_get images i ≡ Some image) where
  pub row_within : i < length rows
  row_within =
      let within = slice_get_within images i image is in
      let one = length-map rows items in
      let two = length-map images f in
      let same : length (map items rows) ≡ length (map f images) = ap length made in
      omega (arith, within, one, two, same)

  pub row_is : (row : V) → row ≡ get_or rows i row → items row ≡ f image
  row_is row reads =
      ap items reads
      ∙ sym (get_or-map items rows i row (f image) row_within)
      ∙ ap (λ (xs : List (List T)). get_or xs i (f image)) made
      ∙ get_or-map f images i image (f image) (slice_get_within images i image is)
      ∙ ap f (get_or_from_slice_get images i image image is)

-- a symbol's place in a row
pub symbol_is : (m : JobImages) (image : Spelled) (row : List (Option Export)) (symbol : ℕ)
    → row ≡ map (λ name. export_of m name) image.names → symbol < length image.names
    → get_or row symbol None ≡ export_of m (name_of image symbol)
symbol_is m image row symbol is within =
    ap (λ (xs : List (Option Export)). get_or xs symbol None) is
    ∙ get_or-map (λ name. export_of m name) image.names symbol [] None within
    ∙ ap (λ name. export_of m name) (sym (unwrap_or-slice_get image.names symbol []))
