-- Sizes and alignments of blocks, and who wants surplus.
use Rattle.std.proofs.Common.{◌≡◌, ◌==◌, ◌∙◌, ℕ, Bool, true, false, List, [], ◌∷◌, map, refl, sym, ap, arith}
use Rattle.std.proofs.lemmas.Bool.Decides.{nat_tests}
use Rattle.image_writer.specs.Tables.{finished}
use Rattle.link_core.specs.Dynamic.{is_flagged}
use Rattle.link_core.specs.Images.{contents, image_of, tls_part}
use Rattle.link_needs.specs.Linking.{Linking, layout}
use Rattle.loaded_modules.specs.Images.{block_alignment, block_size, infos, infos_of, last_offset}
use Rattle.loaded_modules.specs.Images as loaded
use Rattle.module_table.specs.declared.modules.ImageInfo.{ImageInfo}
use Rattle.module_table.specs.Modules.{startup_end}
use Rattle.thread_blocks.specs.JobLoads.{job_loads}
use Rattle.tls_layout.specs.Places.{tls_alignment, tls_size}
use Rattle.tls_layout.specs.Sections.{Layout}
use Rattle.whole_meaning.specs.Loads.{info_of, wants_surplus}
use Rattle.loaded_names.specs.Laws.{InfosAreLoaded}

-- ** surplus

surplus_is : (l : Linking) → is_flagged l ≡ wants_surplus l
unfolding is_flagged wants_surplus
surplus_is l = refl

-- ** blocks

zero_is : (n : ℕ) → (n == 0) ≡ true → n ≡ 0
zero_is n e = grind (arith, nat_tests)

-- an image without a segment has blocks of no bytes
size_is : (p : Layout) → block_size (tls_part p) ≡ tls_size p.sections
unfolding tls_part
size_is p = of_test (tls_size p.sections == 0) refl
  where
    of_test : (t : Bool) → (tls_size p.sections == 0) ≡ t → block_size (tls_part p) ≡ tls_size p.sections
    of_test true none = rw none (sym (zero_is (tls_size p.sections) none))
    of_test false some = rw some refl

-- and they are as if aligned to one byte
alignment_is : (p : Layout) → block_alignment (tls_part p) ≡ tls_alignment p.sections
unfolding tls_part tls_alignment
alignment_is p = of_test (tls_size p.sections == 0) refl
  where
    of_test : (t : Bool) → (tls_size p.sections == 0) ≡ t → block_alignment (tls_part p) ≡ tls_alignment p.sections
    of_test true none = rw none refl
    of_test false some = rw some refl

-- ** images

info_is : (l : Linking) → loaded.info_of l.kind (image_of l) ≡ info_of l
unfolding image_of finished contents info_of
info_is l =
    let flag = surplus_is l in
    let size = size_is (layout l) in
    let alignment = alignment_is (layout l) in
    cc

infos_are : (ls : List Linking) → infos_of (map (λ (l : Linking). l.kind) ls) (map image_of ls) ≡ map info_of ls
infos_are [] = refl
infos_are (l ∷ ls) =
    let first = info_is l in
    let rest = infos_are ls in
    cc

-- the law
pub infos_loaded : InfosAreLoaded
unfolding job_loads infos last_offset
infos_loaded ls = (infos_are ls, ap (λ (all : List ImageInfo). startup_end all 0) (infos_are ls))
