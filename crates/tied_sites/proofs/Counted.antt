-- The numbers of an instance that a job's history made.
use Rattle.std.proofs.Common.{◌≡◌, ◌∙◌, ◌+◌, ◌<◌, ◌≤◌, ◌^◌, ℕ, zero, suc, Bool, true, false, List, [], ◌∷◌, Option}
use Rattle.std.proofs.Common.{Some, None}
use Rattle.std.proofs.Common.{map, refl, sym, ap, subst, cond, arith, not}
use Rattle.std.specs.Prelude.{AllPairs, IfSome, option_map, slice_get, slice_index_or, take}
use Rattle.std.proofs.lemmas.List.Sums.{sum_by-cons}
use Rattle.std.proofs.lemmas.Option.{get_or_from_slice_get, same_Some, slice_get-map, slice_get_within}
use Rattle.job_text.specs.LateImages.{is_late}
use Rattle.known_instances.proofs.Found.{instance_for, loaded_is, module_at}
use Rattle.known_instances.proofs.Known.{known_is, known_live, legal_front, numbered_at_image}
use Rattle.known_instances.proofs.Live.{startup}
use Rattle.known_instances.proofs.OneInstance.{numbered_is}
use Rattle.known_instances.proofs.Placed.{placed_in}
use Rattle.known_instances.proofs.Startup.{startup_kept}
use Rattle.known_instances.proofs.StartupNumbers.{IsGiven, known_given}
use Rattle.known_instances.specs.Known.{known_in}
use Rattle.link_faults.specs.declared.image_kind.ImageKind.{ImageKind}
use Rattle.link_faults.specs.declared.image_kind.ImageKind.TheVariants.{Exe, Pie, Start, Late}
use Rattle.link_faults.specs.ImageKinds.{is_module}
use Rattle.link_needs.specs.Linking.{Linking}
use Rattle.loaded_bytes.specs.Laws.{images_of}
use Rattle.loaded_modules.specs.declared.instance.Instance.{Instance}
use Rattle.loaded_modules.specs.Images.{static_offset}
use Rattle.loaded_names.proofs.Infos.{infos_loaded}
use Rattle.loaded_words.proofs.Placed.{placed as instances_placed}
use Rattle.loaded_words.specs.Laws.{IsKnown}
use Rattle.job_text.specs.ProgramFirst.{ProgramFirst}
use Rattle.module_table.proofs.Along.{past_legal}
use Rattle.module_table.proofs.Steps.{numbered_at}
use Rattle.module_table.specs.declared.events.Event.{Event}
use Rattle.module_table.specs.declared.modules.ImageInfo.{ImageInfo}
use Rattle.module_table.specs.Modules.{startup_end}
use Rattle.module_table.specs.Past.{startup_count}
use Rattle.thread_blocks.specs.Instances.{left_by, numbered_instance}
use Rattle.thread_blocks.specs.JobLoads.{job_loads}
use Rattle.thread_blocks.specs.Turns.{at_number}
use Rattle.thread_blocks.specs.Turns.{IsFront}
use Rattle.whole_meaning.specs.Loads.{info_of}
use Rattle.tied_sites.specs.Instances.{IsCounted}

-- ** the program is among those that start

program_early : (kind : ImageKind) → is_module kind ≡ false → is_late kind ≡ false
program_early Exe e = refl
program_early Pie e = refl
program_early Start e = absurd (cc)
program_early Late e = absurd (cc)

first_early : (ls : List Linking) → ProgramFirst (map (λ (l : Linking). l.kind) ls) → 0 < startup_count (map info_of ls)
unfolding info_of
first_early [] first = absurd first
first_early (l ∷ ls) first =
    let early : is_late l.kind ≡ false = program_early l.kind first.0 in
    let count = sum_by-cons (λ (i : ImageInfo). cond (not i.late) 1 0) (info_of l) (map info_of ls) in
    let some : 0 < cond (not (is_late l.kind)) 1 0 = rw early (omega arith) in
    omega (arith, count, some)

-- an image that starts with the program is one of the first
early_low : (infos : List ImageInfo) (i : ℕ) (info : ImageInfo)
    → AllPairs (λ (a b : ImageInfo). a.late ≡ true → b.late ≡ true) infos → slice_get infos i ≡ Some info
    → info.late ≡ false → i < startup_count infos
early_low [] i info last at early = absurd (cc)
early_low (y ∷ infos) i info last at early =
    of_late y.late refl i at (λ j there. early_low infos j info (λ a b d less within h.
    last (suc a) (suc b) d (omega (arith, less)) (omega (arith, within)) h) there early)
  where
    count : startup_count (y ∷ infos) ≡ cond (not y.late) 1 0 + startup_count infos
    count = sum_by-cons (λ (a : ImageInfo). cond (not a.late) 1 0) y infos

    of_late : (late : Bool) → y.late ≡ late → (i : ℕ) → slice_get (y ∷ infos) i ≡ Some info
        → ((j : ℕ) → slice_get infos j ≡ Some info → j < startup_count infos) → i < startup_count (y ∷ infos)
    of_late true late zero at rest =
        let same : y ≡ info = same_Some y info at in
        let both = ap (λ (a : ImageInfo). a.late) (sym same) ∙ late in
        absurd (cc)
    of_late true late (suc j) at rest =
        let below = slice_get_within infos j info at in
        let is : slice_index_or infos j info ≡ info = get_or_from_slice_get infos j info info at in
        let behind = last 0 (suc j) info (omega arith) (omega (arith, below)) late in
        let both = ap (λ (a : ImageInfo). a.late) (sym is) ∙ behind in
        absurd (cc)
    of_late false first zero at rest =
        let one : 0 < cond (not y.late) 1 0 = rw first (omega arith) in omega (arith, count, one)
    of_late false first (suc j) at rest =
        let one : 0 < cond (not y.late) 1 0 = rw first (omega arith) in
        let behind = rest j at in
        omega (arith, count, one, behind)

-- a block begins near below the thread pointer
only_near : (n : ℕ) (o : Option ℕ) → IfSome o (λ (d : ℕ). (d < 2 ^ 28) × (n ≤ d)) → IfSome o (λ (d : ℕ). d < 2 ^ 28)
only_near n None h = tt
only_near n (Some d) h = h.0

-- image 1 is the program
one_program : (ls : List Linking) (l : Linking) → ProgramFirst (map (λ (l : Linking). l.kind) ls)
    → at_number ls 1 ≡ Some l → is_module l.kind ≡ false
one_program [] l first at = absurd first
one_program (p ∷ ls) l first at =
    let same : p ≡ l = same_Some p l at in ap (λ (m : Linking). is_module m.kind) (sym same) ∙ first.0

module _ (ls : List Linking) (history : List Event) where
  module _ (l : Linking) (x : Instance) (is : IsKnown ls history x) where
    pub some_start : 0 < startup_count (job_loads (images_of ls)).infos
    some_start = subst (λ infos. 0 < startup_count infos) (sym (infos_loaded ls).0) (first_early ls is.program)

    given : IsGiven (job_loads (images_of ls)) history is.legal x.number x
    given = known_given (job_loads (images_of ls)) history is.legal x.number x is.known

    pub counted : at_number ls x.image ≡ Some l → IsCounted ls l x
    counted at =
        let q = job_loads (images_of ls) in
        let g = given in
        let live = known_live q history x.number x is.known in
        let here = legal_front q history is.legal live.seen live.front in
        let placed = placed_in q history is.legal live.seen x.number x live.front live.live in
        let kind = instances_placed ls l x history is at in
        let start = some_start in
        let f = numbered_is q.infos (left_by q live.seen) x.number x live.live in
        let past = past_legal q.infos q.last_offset live.seen here in
        let small = (numbered_at (left_by q live.seen) f.image past).id.high f.loaded in
        let id : (module_at q live.seen f.image).id ≡ x.id = ap (λ (y : Instance). y.id) f.is in
        record {
          some = g.some;
          few = g.low;
          low = omega (arith, small, id);
          near = only_near _ x.offset placed.offset;
          startup = λ early.
              let s = startup q history is.legal live.seen x.number live.front g.some early in
              let same : s.0 ≡ x = same_Some s.0 x (sym s.1.0 ∙ live.live) in
              ap (λ (y : Instance). y.id) (sym same) ∙ s.1.1;
          program = λ alone. (kind.number alone, kind.offset alone);
          early = λ alone. (let one = kind.number alone in omega (arith, one, start));
          later = λ module_is one.
              let image : x.image ≡ 1 = g.image (omega (arith, one, start)) ∙ one in
              let alone = one_program ls l is.program (ap (at_number ls) (sym image) ∙ at) in
              cc;
          surplus = kind.surplus;
        }

    -- an image that starts with the program
    pub early_image : (k : ℕ) (image : Linking) → at_number ls k ≡ Some image → is_late image.kind ≡ false
        → (0 < k) × (k ≤ startup_count (job_loads (images_of ls)).infos)
    unfolding info_of
    early_image zero image at early = absurd (cc)
    early_image (suc i) image at early =
        let infos = (infos_loaded ls).0 in
        let there : slice_get (job_loads (images_of ls)).infos i ≡ Some (info_of image) =
        ap (λ all. slice_get all i) infos ∙ slice_get-map info_of ls i ∙ ap (option_map info_of) at in
        let low = early_low (job_loads (images_of ls)).infos i (info_of image) is.legal.images.late_last there early in
        (omega arith, omega (arith, low))

    -- ** what starts with the program

    pub record Starts (k : ℕ) : Type 0 where
      pub instance : Instance
      pub known : known_in (job_loads (images_of ls)) history k ≡ Some instance
      pub offset : instance.offset ≡ Some (static_offset (images_of ls) k)
      pub near : static_offset (images_of ls) k < 2 ^ 28
      pub few : k < 2 ^ 12

    pub starts : (k : ℕ) → 0 < k → k ≤ startup_count (job_loads (images_of ls)).infos → Starts k
    unfolding static_offset job_loads
    starts k some low =
        let q = job_loads (images_of ls) in
        let front : IsFront [] history = (history, refl) in
        let here = legal_front q history is.legal [] front in
        let s = startup_kept q.infos q.last_offset [] k here some low in
        let y : Instance = instance_for q.infos k (module_at q [] k) in
        let at = numbered_at_image q history is.legal [] k (instance_for q.infos k (module_at q [] k)) front
        (loaded_is q.infos k (module_at q [] k) s.loaded) in
        let numbered : numbered_instance q [] k ≡ Some (instance_for q.infos k (module_at q [] k)) =
        subst (λ (n : ℕ). numbered_instance q [] n ≡ Some (instance_for q.infos k (module_at q [] k))) s.instance at in
        let known = known_is q history is.legal [] k (instance_for q.infos k (module_at q [] k)) front numbered in
        let offset : (instance_for q.infos k (module_at q [] k)).offset ≡ Some (startup_end (take k q.infos) 0) =
        rw s.early refl in
        let placed = placed_in q history is.legal [] k (instance_for q.infos k (module_at q [] k)) front numbered in
        record {
          instance = instance_for q.infos k (module_at q [] k);
          known = known;
          offset = offset;
          near = subst (λ (o : Option ℕ). IfSome o (λ (d : ℕ). d < 2 ^ 28)) offset
              (only_near _ (instance_for q.infos k (module_at q [] k)).offset placed.offset);
          few = (known_given q history is.legal k (instance_for q.infos k (module_at q [] k)) known).low;
        }
