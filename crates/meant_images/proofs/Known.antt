-- What is known of the images of a job, and what is ready of the image of a number.
use Rattle.std.proofs.Common.{◌≡◌, ◌∙◌, ◌<◌, ◌≤◌, ℕ, zero, suc, List, [], ◌∷◌, All, Bor, length, map, get_or, Option}
use Rattle.std.proofs.Common.{Some, None, IfSome, inl, inr, refl, sym, arith}
use Rattle.std.specs.Prelude.{IsSome, option_map, slice_get}
use Rattle.std.proofs.lemmas.List.{length-map}
use Rattle.std.proofs.lemmas.Option.{slice_get_cases, slice_get_within}
use Rattle.job_text.specs.LateImages.{LateLast, is_late}
use Rattle.link_faults.specs.declared.image_kind.ImageKind.TheVariants.{Exe}
use Rattle.link_needs.specs.Linking.{Linking}
use Rattle.module_table.specs.declared.modules.ImageInfo.{ImageInfo}
use Rattle.module_table.specs.Modules.{AreInfos, IsInfo}
use Rattle.thread_blocks.specs.Turns.{at_number}
use Rattle.whole_meaning.specs.Loads.{info_of}
use Rattle.meant_images.specs.Images.{AreTables}
use Rattle.meant_images.specs.declared.images.Tables.{Tables}

late_at : (ls : List Linking) (i : ℕ) (d : ImageInfo) → i < length ls
    → (get_or (map info_of ls) i d).late ≡ is_late (get_or (map (λ l. l.kind) ls) i Exe)
unfolding info_of
late_at [] i d inside = absurd (omega (arith, inside))
late_at (l ∷ ls) zero d inside = refl
late_at (l ∷ ls) (suc i) d inside = late_at ls i d (omega (arith, inside))

pub are_infos : (ls : List Linking) → 1 ≤ length ls → length ls ≤ 64 → LateLast (map (λ l. l.kind) ls)
    → All IsInfo (map info_of ls) → AreInfos (map info_of ls)
are_infos ls some few late each =
    let long = length-map ls info_of in
    let kinds = length-map ls (λ l. l.kind) in
    record {
      some = omega (arith, long, some);
      few = omega (arith, long, few);
      late_last = λ i j d below inside is.
          late_at ls j d (omega (arith, long, inside))
          ∙ late i j Exe below (omega (arith, long, kinds, inside))
          (sym (late_at ls i d (omega (arith, long, below, inside))) ∙ is);
      each = each;
    }

-- what is read of the tables
pub table_there : (ls : List Linking) (ts : List Tables) (number : ℕ) (l : Linking) (r : Option (Bor Tables))
    → length ts ≡ length ls
    → at_number ls number ≡ Some l → option_map (λ (b : Bor Tables). b.now) r ≡ at_number ts number → IsSome r
table_there ls ts number l (Some b) long at is = refl
table_there ls ts zero l None long at is = absurd (cc at)
table_there ls ts (suc i) l None long at is = elim (slice_get_cases ts i).1 [
  | inl here ↦ absurd (cc (is ∙ here.2))
  | inr past ↦ absurd (omega (arith, long, past.0, slice_get_within ls i l at))
]

pub table_is : (ls : List Linking) (ts : List Tables) (number : ℕ) (l : Linking) (r : Option (Bor Tables))
    → ((i : ℕ) (l : Linking) (t : Tables) → slice_get ls i ≡ Some l → slice_get ts i ≡ Some t → AreTables ls l t)
    → at_number ls number ≡ Some l → option_map (λ (b : Bor Tables). b.now) r ≡ at_number ts number
    → IfSome r (λ t. AreTables ls l t.now)
table_is ls ts number l None each at is = tt
table_is ls ts zero l (Some b) each at is = absurd (cc at)
table_is ls ts (suc i) l (Some b) each at is = each i l b.now at (sym is)
