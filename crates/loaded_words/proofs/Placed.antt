-- Numbers, ids and blocks of instances, by what their images are linked as.
use Rattle.std.proofs.Common.{◌≡◌, ◌∙◌, ◌+◌, ◌<◌, ◌≤◌, ◌⊎◌, ℕ, zero, suc, Bool, true, false, List, [], ◌∷◌, Some}
use Rattle.std.proofs.Common.{length}
use Rattle.std.proofs.Common.{map, inl, inr, refl, sym, ap, cond, arith}
use Rattle.std.specs.Prelude.{AllPairs, IsSome, option_map, slice_get, slice_index_or, not, take, if◌then◌else◌}
use Rattle.std.specs.Int.{next_multiple_of}
use Rattle.std.specs.List.{All}
use Rattle.std.proofs.lemmas.Bool.{cases_lt}
use Rattle.std.proofs.lemmas.List.Elements.{All-head, All-tail}
use Rattle.std.proofs.lemmas.List.Sums.{sum_by-cons}
use Rattle.std.proofs.lemmas.Option.{get_or_from_slice_get, same_Some, slice_get-map, slice_get_within}
use Rattle.known_instances.proofs.Found.{module_at}
use Rattle.known_instances.proofs.Known.{known_live, legal_front}
use Rattle.known_instances.proofs.Live.{startup}
use Rattle.known_instances.proofs.OneInstance.{numbered_is}
use Rattle.known_instances.proofs.Placed.{is_image}
use Rattle.known_instances.proofs.Startup.{early as early_at}
use Rattle.known_instances.proofs.StartupNumbers.{IsGiven, known_given}
use Rattle.known_instances.proofs.Surplus.{static_offsets}
use Rattle.link_faults.specs.declared.image_kind.ImageKind.{ImageKind}
use Rattle.link_faults.specs.declared.image_kind.ImageKind.TheVariants.{Exe, Pie, Start, Late}
use Rattle.link_faults.specs.ImageKinds.{is_module}
use Rattle.link_needs.specs.Linking.{Linking, block_offset}
use Rattle.loaded_bytes.specs.Laws.{images_of}
use Rattle.loaded_modules.specs.declared.instance.Instance.{Instance}
use Rattle.loaded_modules.specs.Images.{is_late, static_offset}
use Rattle.loaded_names.proofs.Infos.{infos_loaded}
use Rattle.module_table.specs.declared.events.Event.{Event}
use Rattle.module_table.specs.declared.modules.ImageInfo.{ImageInfo}
use Rattle.module_table.specs.Modules.{startup_end}
use Rattle.module_table.specs.Modules.{no_module}
use Rattle.module_table.specs.Past.{startup_count}
use Rattle.thread_blocks.specs.Instances.{Loads, left_by}
use Rattle.thread_blocks.specs.JobLoads.{job_loads}
use Rattle.thread_blocks.specs.Turns.{at_number}
use Rattle.tls_layout.specs.Rounding.{round_up}
use Rattle.whole_meaning.specs.Loads.{info_of, wants_surplus}
use Rattle.loaded_words.specs.Laws.{InstancesArePlaced, IsKnown}
use Rattle.job_text.specs.ProgramFirst.{ProgramFirst}

-- ** which image it is

program_early : (kind : ImageKind) → is_module kind ≡ false → is_late kind ≡ false
program_early Exe alone = refl
program_early Pie alone = refl
program_early Start alone = absurd (cc)
program_early Late alone = absurd (cc)

-- an image behind the first is a module
all_modules : (ls : List Linking) (i : ℕ) (l : Linking)
    → All (λ (kind : ImageKind). is_module kind ≡ true) (map (λ (l : Linking). l.kind) ls)
    → slice_get ls i ≡ Some l → is_module l.kind ≡ true
all_modules [] i l are at = absurd (cc)
all_modules (p ∷ ls) zero l are at =
    let same : p ≡ l = same_Some p l at in
    ap (λ (q : Linking). is_module q.kind) (sym same)
    ∙ All-head (λ (kind : ImageKind). is_module kind ≡ true) p.kind (map (λ (l : Linking). l.kind) ls) are
all_modules (p ∷ ls) (suc i) l are at =
    all_modules ls i l
    (All-tail (λ (kind : ImageKind). is_module kind ≡ true) p.kind (map (λ (l : Linking). l.kind) ls) are) at

-- the first is the program
record HasProgram (ls : List Linking) : Type 0 where
  program : Linking
  more : List Linking
  first : ls ≡ program ∷ more
  alone : is_module program.kind ≡ false

has_program : (ls : List Linking) → ProgramFirst (map (λ (l : Linking). l.kind) ls) → HasProgram ls
has_program [] first = absurd first
has_program (p ∷ ls) first = record { program = p; more = ls; first = refl; alone = first.0 }

-- and no other is
only_first : (ls : List Linking) (number : ℕ) (l : Linking) → ProgramFirst (map (λ (l : Linking). l.kind) ls)
    → at_number ls number ≡ Some l → is_module l.kind ≡ false → number ≡ 1
only_first [] zero l first at alone = absurd (cc)
only_first [] (suc i) l first at alone = absurd (cc)
only_first (p ∷ ls) zero l first at alone = absurd (cc)
only_first (p ∷ ls) (suc zero) l first at alone = refl
only_first (p ∷ ls) (suc (suc i)) l first at alone =
    let module_is : is_module l.kind ≡ true = all_modules ls i l first.1 at in absurd (cc)

-- ** what is known of the images before any of them is loaded

info_at : (ls : List Linking) (number : ℕ) (l : Linking) → at_number ls number ≡ Some l
    → at_number (map info_of ls) number ≡ Some (info_of l)
info_at ls zero l at = absurd (cc)
info_at ls (suc i) l at = slice_get-map info_of ls i ∙ ap (option_map info_of) at

late_is : (l : Linking) → (info_of l).late ≡ is_late l.kind
unfolding info_of
late_is l = refl

block_is : (l : Linking) (more : List Linking) → is_module l.kind ≡ false
    → startup_end (take 1 (map info_of (l ∷ more))) 0 ≡ block_offset l
unfolding info_of block_offset round_up
block_is l more alone =
    let early : is_late l.kind ≡ false = program_early l.kind alone in
    let start : 0 + (info_of l).size ≡ (info_of l).size = omega arith in
    rw early (ap (λ n. next_multiple_of n (info_of l).align) start)

-- an image that starts with the program is one of the first
counted : (infos : List ImageInfo) (k : ℕ) (d : ImageInfo)
    → AllPairs (λ (a b : ImageInfo). a.late ≡ true → b.late ≡ true) infos → k < length infos
    → (slice_index_or infos k d).late ≡ false → k < startup_count infos
counted [] k d last below early = absurd (omega (arith, below))
counted (x ∷ xs) k d last below early =
    of_late x.late refl k below early (λ j within first. counted xs j d
    (λ a b e less in_all. last (suc a) (suc b) e (omega (arith, less)) (omega (arith, in_all))) within first)
  where
    one_more : x.late ≡ false → startup_count (x ∷ xs) ≡ 1 + startup_count xs
    one_more first = rw (sum_by-cons (λ (i : ImageInfo). cond (not i.late) 1 0) x xs, first) refl

    of_late : (t : Bool) → x.late ≡ t → (k : ℕ) → k < length (x ∷ xs) → (slice_index_or (x ∷ xs) k d).late ≡ false
        → ((j : ℕ) → j < length xs → (slice_index_or xs j d).late ≡ false → j < startup_count xs)
        → k < startup_count (x ∷ xs)
    of_late true late zero below early rest = absurd (cc)
    of_late true late (suc j) below early rest =
        let behind : (slice_index_or xs j d).late ≡ true =
        last 0 (suc j) d (omega arith) (omega (arith, below)) late in
        absurd (cc)
    of_late false first zero below early rest = let one = one_more first in omega (arith, one)
    of_late false first (suc j) below early rest =
        let one = one_more first in
        let later = rest j (omega (arith, below)) early in
        omega (arith, one, later)

-- ** the law

module _ (ls : List Linking) (l : Linking) (x : Instance) (history : List Event) (is : IsKnown ls history x)
    (at : at_number ls x.image ≡ Some l) where
  abbrev q : Loads ℕ
  q = job_loads (images_of ls)

  given : IsGiven q history is.legal x.number x
  given = known_given q history is.legal x.number x is.known

  info_is : at_number q.infos x.image ≡ Some (info_of l)
  info_is = ap (λ infos. at_number infos x.image) (infos_loaded ls).0 ∙ info_at ls x.image l at

  -- that of code that counts on a fixed distance has one
  has_offset : wants_surplus l ≡ true → IsSome x.offset
  unfolding info_of
  has_offset wants = static_offsets q history is.legal x.number x (info_of l) is.known info_is wants

  -- an image's number and its place in the list
  of_index : (n : ℕ) → at_number q.infos n ≡ Some (info_of l)
      → (i : ℕ) × ((n ≡ suc i) × ((i < length q.infos) × (slice_index_or q.infos i no_module.info ≡ info_of l)))
  of_index zero found = absurd (cc)
  of_index (suc i) found = (
    i,
    (
      refl,
      (
        slice_get_within q.infos i (info_of l) found,
        get_or_from_slice_get q.infos i (info_of l) no_module.info found,
      ),
    ),
  )

  -- ** what starts with the program

  module _ (early : is_late l.kind ≡ false) where
    image_low : x.image ≤ startup_count q.infos
    image_low =
        let index = of_index x.image info_is in
        let first = counted q.infos index.0 no_module.info is.legal.images.late_last index.1.1.0
        (ap (λ (i : ImageInfo). i.late) index.1.1.1 ∙ late_is l ∙ early) in
        let number = index.1.0 in
        omega (arith, first, number)

    own_number : x.number ≡ x.image
    own_number = given.startup image_low

    own_id : x.id ≡ x.image
    own_id =
        let live = known_live q history x.number x is.known in
        let some = given.some in
        let s = startup q history is.legal live.seen x.number live.front some (omega (arith, own_number, image_low)) in
        let same : s.0 ≡ x = same_Some s.0 x (sym s.1.0 ∙ live.live) in
        ap (λ (y : Instance). y.id) (sym same) ∙ s.1.1 ∙ own_number

    begins : x.offset ≡ Some (static_offset (images_of ls) x.image)
    unfolding static_offset job_loads
    begins =
        let live = known_live q history x.number x is.known in
        let here = legal_front q history is.legal live.seen live.front in
        let f = numbered_is q.infos (left_by q live.seen) x.number x live.live in
        let m = is_image q.infos q.last_offset live.seen f.image here f.loaded in
        let image : f.image ≡ x.image = ap (λ (y : Instance). y.image) f.is in
        let there : at_number q.infos (suc m.index) ≡ Some (info_of l) =
        ap (at_number q.infos) (sym m.image ∙ image) ∙ info_is in
        let first : (module_at q live.seen f.image).info.late ≡ false =
        ap (λ (i : ImageInfo). i.late)
        (m.info ∙ get_or_from_slice_get q.infos m.index (info_of l) no_module.info there)
        ∙ late_is l ∙ early in
        sym (ap (λ (y : Instance). y.offset) f.is)
        ∙ ap (λ (late : Bool). if late then (module_at q live.seen f.image).offset
        else Some (startup_end (take f.image q.infos) 0)) first
        ∙ ap (λ (i : ℕ). Some (startup_end (take i q.infos) 0)) image

  -- what came late has a number above
  above : is_late l.kind ≡ true → startup_count q.infos < x.number
  above late = of_low (cases_lt (startup_count q.infos) x.number)
    where
      of_low : (startup_count q.infos < x.number) ⊎ (x.number ≤ startup_count q.infos)
          → startup_count q.infos < x.number
      of_low (inl higher) = higher
      of_low (inr low) =
          let number : x.image ≡ x.number = given.image low in
          let index = of_index x.image info_is in
          let place = index.1.0 in
          let first = early_at q.infos index.0 no_module.info is.legal.images.late_last
          (omega (arith, low, number, place)) in
          let its : (slice_index_or q.infos index.0 no_module.info).late ≡ true =
          ap (λ (i : ImageInfo). i.late) index.1.1.1 ∙ late_is l ∙ late in
          let not_its = first.1 in
          absurd (cc)

  -- ** the program

  module _ (alone : is_module l.kind ≡ false) where
    image_one : x.image ≡ 1
    image_one = only_first ls x.image l is.program at alone

    p : HasProgram ls
    p = has_program ls is.program

    program_is : p.program ≡ l
    program_is =
        same_Some p.program l
        (sym (ap (λ (all : List Linking). at_number all 1) p.first) ∙ ap (at_number ls) (sym image_one) ∙ at)

    one : x.number ≡ 1
    one = own_number (program_early l.kind alone) ∙ image_one

    id_one : x.id ≡ 1
    id_one = own_id (program_early l.kind alone) ∙ image_one

    infos_are : q.infos ≡ map info_of (p.program ∷ p.more)
    infos_are = (infos_loaded ls).0 ∙ ap (map info_of) p.first

    begins_below : x.offset ≡ Some (block_offset l)
    unfolding static_offset job_loads
    begins_below =
        begins (program_early l.kind alone)
        ∙ ap (λ (i : ℕ). Some (startup_end (take i q.infos) 0)) image_one
        ∙ ap (λ infos. Some (startup_end (take 1 infos) 0)) infos_are
        ∙ ap Some (block_is p.program p.more p.alone)
        ∙ ap (λ (m : Linking). Some (block_offset m)) program_is

pub placed : InstancesArePlaced
placed ls l x history is at = record {
  early = λ early. (
    own_number ls l x history is at early,
    own_id ls l x history is at early,
    begins ls l x history is at early,
  );
  late = above ls l x history is at;
  surplus = has_offset ls l x history is at;
  number = one ls l x history is at;
  id = id_one ls l x history is at;
  offset = begins_below ls l x history is at;
}
