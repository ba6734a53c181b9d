-- Before the first turn.
use Rattle.std.proofs.Common.{◌≡◌, ◌∙◌, ◌+◌, ◌<◌, ◌≤◌, ◌^◌, ◌++◌, ℕ, suc, true, List, [], ◌∷◌, Some, None, append-nil}
use Rattle.std.proofs.Common.{get_or, length, refl, sym, ap, subst, arith}
use Rattle.std.specs.Prelude.{slice_get, take}
use Rattle.std.specs.List.{flat_map}
use Rattle.std.proofs.lemmas.List.{length-map, take_all, take_more}
use Rattle.std.proofs.lemmas.List.Concat.{flat_map-append}
use Rattle.guest_operands.specs.Ranges.{Range}
use Rattle.guest_operands.specs.State.{start_of}
use Rattle.job_meaning.specs.declared.values.Byte.{Byte}
use Rattle.job_text.specs.declared.thread_lines.ThreadLine.{ThreadLine}
use Rattle.job_text.specs.Jobs.{JobParts}
use Rattle.job_text.specs.Threads.{of_thread}
use Rattle.link_needs.specs.Linking.{Linking}
use Rattle.loaded_modules.specs.declared.instance.Instance.{Instance}
use Rattle.module_table.specs.declared.events.Event.{Event}
use Rattle.module_table.specs.declared.modules.ImageInfo.{ImageInfo}
use Rattle.module_table.specs.Modules.{startup_end}
use Rattle.module_table.specs.Modules.{AreInfos}
use Rattle.module_table.specs.Past.{is_legal, past, start}
use Rattle.thread_blocks.specs.Held.{Data, Owned, data_after, held_of, looked_at}
use Rattle.thread_blocks.specs.Instances.{instances, instances_in, left_by}
use Rattle.thread_blocks.specs.JobWorlds.{blocks_in, data_in, numbered_lines, ready_from, first_data, job_start}
use Rattle.thread_blocks.specs.JobWorlds.{thread_ready}
use Rattle.thread_blocks.specs.Lines.{Line}
use Rattle.thread_blocks.specs.Turns.{Thread, ready}
use Rattle.thread_turns.proofs.Ready.{lines_at, ready-length, ready_at}
use Rattle.whole_meaning.specs.Loads.{info_of, loads_of, meaning_of}
use Rattle.whole_meaning.specs.Threads.{Meant, ops}
use Rattle.marked_memory.specs.declared.space.Wanted.TheVariants.{Fixed}
use Rattle.job_check.specs.Histories.{IsHistory, IsLeftBy, infos_of, last_of}
use Rattle.marked_memory.specs.Kept.{Kept}
use Rattle.job_check.specs.Progress.{IsFirst, IsRunOf, MeantThreads, Stands, StandsForSome}
use Rattle.marked_memory.specs.Spaces.{fills, reaches, with_held}
use Rattle.job_check.specs.Standing.{IsFirstKept, IsFirstRun, IsIdle, Run, StandsFor}
use Rattle.job_check.proofs.Looks.{held_with, live_is, looked_with}
use Rattle.job_check.proofs.OwnedApart.{after_are_data, after_no_blocks, first_blocks, first_no_data}

module _ (ls : List Linking) where
  pub begins : left_by (loads_of ls) [] ≡ start (infos_of ls) (last_of ls)
  unfolding past loads_of
  begins = refl

  -- before any event
  pub first_left : IsHistory ls [] → IsLeftBy ls (start (infos_of ls) (last_of ls))
  unfolding past
  first_left legal = record { events = []; legal = legal; left = refl }

  first_live : instances (loads_of ls) [] ≡ instances_in (infos_of ls) (start (infos_of ls) (last_of ls))
  first_live = live_is ls (start (infos_of ls) (last_of ls)) [] begins

-- as the code knows the images
last_all : (ls : List Linking) (n : ℕ) → n ≡ length ls → startup_end (take n (infos_of ls)) 0 ≡ last_of ls
last_all ls n count = ap (λ xs. startup_end xs 0)
    (take_all n (infos_of ls) (omega (arith, count, length-map ls info_of)))

pub none_legal : (ls : List Linking) (infos : List ImageInfo) (last n : ℕ) → infos ≡ infos_of ls → AreInfos infos
    → last ≡ startup_end (take n (infos_of ls)) 0 → n ≡ length ls → last < 2 ^ 27 → IsHistory ls []
unfolding is_legal
none_legal ls infos last n are kept is count low =
    record {
      images = subst AreInfos are kept;
      low = subst (λ m. m < 2 ^ 27) (is ∙ last_all ls n count) low;
      each = refl;
    }

pub start_is : (ls : List Linking) (infos : List ImageInfo) (last n : ℕ) → infos ≡ infos_of ls
    → last ≡ startup_end (take n (infos_of ls)) 0 → n ≡ length ls → start infos last ≡ start (infos_of ls) (last_of ls)
start_is ls infos last n are is count = rw (are, is, last_all ls n count) refl

-- ** the data of the images that start with the program

module _ (ls : List Linking) where
  abbrev pub data_made : Instance → List (Owned Byte)
  data_made x = data_after (loads_of ls) (λ y. true) [] x

  pub data_one : (x : Instance) (range : Range Byte) → (loads_of ls).shared x ≡ Some range
      → data_made x ≡ record { owner = record { kind = Data; instance = x.number }; range = range } ∷ []
  data_one x range is = rw is refl

  pub data_none : (x : Instance) → (loads_of ls).shared x ≡ None → data_made x ≡ []
  data_none x is = rw is refl

  -- one instance more
  pub more_data : (xs : List Instance) (i : ℕ) (d : Instance) (items made : List (Owned Byte)) → i < length xs
      → items ≡ flat_map data_made (take i xs) → made ≡ data_made (get_or xs i d)
      → items ++ made ≡ flat_map data_made (take (i + 1) xs)
  more_data xs i d items made less so_far is =
      let x = get_or xs i d in
      rw (so_far, is, take_more xs i d less)
      (sym (flat_map-append data_made (take i xs) (x ∷ [])
      ∙ ap (λ ys. flat_map data_made (take i xs) ++ ys) (append-nil (data_made x))))

  -- all of them
  pub all_data : (xs : List Instance) (i : ℕ) (items : List (Owned Byte)) → length xs ≤ i
      → xs ≡ instances_in (infos_of ls) (start (infos_of ls) (last_of ls)) → items ≡ flat_map data_made (take i xs)
      → items ≡ first_data (meaning_of ls).loads
  unfolding meaning_of
  all_data xs i items past are so_far =
      so_far ∙ ap (flat_map data_made) (take_all i xs past ∙ are ∙ sym (first_live ls))

-- ** a thread before its first line

module _ (ls : List Linking) (thread : ℕ) where
  abbrev first_kept : Kept
  first_kept = with_held (instances_in (infos_of ls) (start (infos_of ls) (last_of ls))) [] Fixed (record {
    thread = thread;
    images = ls;
    live = [];
    stack = [];
    own = [];
    lent = None;
  })

  kept_blocks : blocks_in first_kept.own ≡ first_kept.own
  unfolding with_held
  kept_blocks = first_blocks (loads_of ls) thread (reaches Fixed) (fills Fixed) (λ x. refl)
      (instances_in (infos_of ls) (start (infos_of ls) (last_of ls)))

  kept_no_data : data_in first_kept.own ≡ []
  unfolding with_held
  kept_no_data = first_no_data (loads_of ls) thread (reaches Fixed) (fills Fixed) (λ x. refl)
      (instances_in (infos_of ls) (start (infos_of ls) (last_of ls)))

  ready_idle : IsIdle first_kept (thread_ready ops (meaning_of ls).loads thread)
  unfolding with_held meaning_of looked_at
  ready_idle =
      let state = start_of ops 0 0 (ops.word 0) (ops.word 0) (ops.word 0) in
      record {
        seen = [];
        state = state;
        holds = looked_with (loads_of ls) thread [] state [] [] []
            ∙ ap (λ live. held_with [] state [] (held_of (loads_of ls) thread (reaches Fixed) (fills Fixed) live []))
            (first_live ls);
      }

  first_run_stands : (job : JobParts) (r : Run) (own : List ThreadLine) → IsFirstRun thread ls job r
      → of_thread job.lines thread ≡ own
      → StandsFor r (ready (thread_ready ops (meaning_of ls).loads thread) (numbered_lines 1 own))
  first_run_stands job r own first lines = record {
    todo = rw (first.begun, first.lines, lines) refl;
    count = rw (first.begun, first.call) refl;
    unclean = sym first.unclean;
    blocks = rw first.kept.is kept_blocks;
    no_data = rw first.kept.is kept_no_data;
    phase = rw (first.call, first.kept.is) ready_idle;
  }

  first_thread : (k : Kept) → IsFirstKept thread ls k → (k.thread ≡ thread) × (k.images ≡ ls)
  unfolding with_held
  first_thread k first = (ap (λ (y : Kept). y.thread) first.is, ap (λ (y : Kept). y.images) first.is)

-- ** all of them

module _ (ls : List Linking) (job : JobParts) (x : MeantThreads) (first : IsFirst ls job x) where
  first_each : (k : ℕ) (r : Run) (t : Thread Meant Line Event) → slice_get x.runs k ≡ Some r
      → slice_get (ready_from ops (meaning_of ls).loads 1 job.lines) k ≡ Some t → IsRunOf ls job.fuel (suc k) r t
  first_each k r t at_r at_t =
      let one : k + 1 ≡ suc k = omega arith in
      let run = subst (λ n. IsFirstRun n ls job r) one (first.each k r at_r) in
      let is = ready_at (thread_ready ops (meaning_of ls).loads) (ready_from ops (meaning_of ls).loads) (λ n. refl)
      (λ n own lines. refl) 1
      job.lines k t at_t in
      let number : 1 + k ≡ suc k = omega arith in
      let kept = first_thread ls (suc k) r.kept run.kept in
      record {
        thread_is = kept.0;
        images_are = kept.1;
        fuel_is = run.fuel;
        stands = subst (λ y. StandsFor r y)
            (sym (is.is ∙ ap (λ n. ready (thread_ready ops (meaning_of ls).loads n) (numbered_lines 1 is.own)) number))
            (first_run_stands ls (suc k) job r is.own run (lines_at job.lines k is.own is.own_is));
      }

  pub first_stands : Stands ls job.fuel (job_start ops (meaning_of ls).loads job.lines) x
  first_stands = record {
    legal = first.legal;
    leaves = begins ls ∙ sym first.past_is;
    shared_is = sym first.shared_is;
    are_data = rw first.shared_is
        (after_are_data (meaning_of ls).loads 0 (λ x. true) (λ x. true) [] (instances (meaning_of ls).loads []));
    no_blocks = rw first.shared_is
        (after_no_blocks (meaning_of ls).loads 0 (λ x. true) (λ x. true) [] (instances (meaning_of ls).loads []));
    count = first.count ∙ sym
        (ready-length (thread_ready ops (meaning_of ls).loads) (ready_from ops (meaning_of ls).loads) (λ n. refl)
        (λ n own lines. refl) 1 job.lines);
    each = first_each;
  }

  -- it stands for the threads of its job
  pub first_some : StandsForSome x
  first_some = record {
    images = ls;
    fuel = job.fuel;
    world = job_start ops (meaning_of ls).loads job.lines;
    stands = first_stands;
  }
