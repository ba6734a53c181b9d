-- What is known of linked images is in order: few of them, late ones last, small segments.
use Rattle.std.proofs.Common.{◌≡◌, ◌∙◌, ◌<◌, ◌≤◌, ◌^◌, ◌==◌, ℕ, zero, suc, Bool, true, false, List, [], ◌∷◌}
use Rattle.std.proofs.Common.{length, map, get_or, fold, refl, sym, subst, arith, if◌then◌else◌}
use Rattle.std.specs.List.{All}
use Rattle.std.proofs.Math.Pow.{pow_mono}
use Rattle.std.proofs.lemmas.List.{length-map}
use Rattle.std.proofs.lemmas.List.Elements.{All-cons, All-head, All-nil, All-tail}
use Rattle.elf_records.specs.Alignments.{IsAlignment}
use Rattle.job_text.specs.LateImages.{is_late}
use Rattle.link_core.specs.Faults.{Links}
use Rattle.link_faults.specs.declared.image_kind.ImageKind.TheVariants.{Exe}
use Rattle.link_needs.specs.Linking.{Linking, layout}
use Rattle.loaded_bytes.specs.Laws.{images_of}
use Rattle.loaded_modules.specs.Images.{infos}
use Rattle.loaded_names.proofs.Infos.{infos_loaded}
use Rattle.job_text.specs.ProgramFirst.{ProgramFirst}
use Rattle.module_table.specs.declared.modules.ImageInfo.{ImageInfo}
use Rattle.module_table.specs.Modules.{AreInfos, IsInfo}
use Rattle.thread_blocks.specs.JobLoads.{job_loads}
use Rattle.tls_layout.proofs.Together.{power_more}
use Rattle.tls_layout.specs.declared.sections.Section.{Section}
use Rattle.tls_layout.specs.Places.{greatest_alignment, next_alignment, tls_alignment, tls_size}
use Rattle.tls_layout.specs.Sections.{IsOrdinary}
use Rattle.whole_meaning.specs.Loads.{info_of}
use Rattle.linked_jobs.specs.Ready.{AreJob}

-- ** alignments

powers : (greatest : ℕ) (sections : List Section) → IsAlignment greatest → All IsOrdinary sections
    → IsAlignment (fold next_alignment greatest sections)
powers greatest [] power ordinary = power
powers greatest (x ∷ xs) power ordinary =
    powers (next_alignment greatest x) xs (power_more greatest x power (All-head IsOrdinary x xs ordinary))
    (All-tail IsOrdinary x xs ordinary)

power : (sections : List Section) → All IsOrdinary sections → IsAlignment (tls_alignment sections)
unfolding tls_alignment greatest_alignment
power sections ordinary = of_test (tls_size sections == 0)
  where
    of_test : (t : Bool) → IsAlignment (if t then 1 else fold next_alignment 1 sections)
    of_test true = (0, omega arith, refl)
    of_test false = powers 1 sections (0, omega arith, refl) ordinary

positive : (k : ℕ) → 0 < 2 ^ k
positive zero = omega arith
positive (suc k) = omega (arith, positive k)

low : (n : ℕ) → IsAlignment n → 0 < n
low n power = subst (λ (m : ℕ). 0 < m) (sym power.2) (positive power.0)

high : (n : ℕ) → IsAlignment n → n ≤ 4096
high n power =
    let most : 2 ^ power.0 ≤ 2 ^ 12 = pow_mono power.1 in
    subst (λ (m : ℕ). m ≤ 4096) (sym power.2) (omega (arith, most))

-- ** one image

info : (l : Linking) → Links l → IsInfo (info_of l)
unfolding info_of
info l links =
    let lawful = links.sound.limits.lawful in
    let is = power (layout l).sections lawful.ordinary in
    record { small = lawful.small_tls; aligned = low _ is; page = high _ is }

each : (ls : List Linking) → All Links ls → All IsInfo (map info_of ls)
each [] all = All-nil IsInfo
each (l ∷ ls) all =
    All-cons IsInfo (info_of l) (map info_of ls) (info l (All-head Links l ls all)) (each ls (All-tail Links l ls all))

-- ** all of them

late_at : (ls : List Linking) (i : ℕ) (d : ImageInfo) → i < length ls
    → (get_or (map info_of ls) i d).late ≡ is_late (get_or (map (λ l. l.kind) ls) i Exe)
unfolding info_of
late_at [] i d inside = absurd (omega (arith, inside))
late_at (l ∷ ls) zero d inside = refl
late_at (l ∷ ls) (suc i) d inside = late_at ls i d (omega (arith, inside))

some : (ls : List Linking) → ProgramFirst (map (λ (l : Linking). l.kind) ls) → 1 ≤ length ls
some [] first = absurd first
some (l ∷ ls) first = omega arith

all : (ls : List Linking) → AreJob ls → AreInfos (map info_of ls)
all ls job =
    let long = length-map ls info_of in
    let kinds = length-map ls (λ (l : Linking). l.kind) in
    let one = some ls job.ready.program in
    let few = job.few in
    record {
      some = omega (arith, long, one);
      few = omega (arith, long, few);
      late_last = λ i j d below inside is.
          late_at ls j d (omega (arith, long, inside))
          ∙ job.ready.late i j Exe below (omega (arith, long, kinds, inside))
          (sym (late_at ls i d (omega (arith, long, below, inside))) ∙ is);
      each = each ls job.ready.together.links;
    }

pub are_infos : (ls : List Linking) → AreJob ls → AreInfos (infos (images_of ls))
unfolding job_loads
are_infos ls job = subst AreInfos (sym (infos_loaded ls).0) (all ls job)
