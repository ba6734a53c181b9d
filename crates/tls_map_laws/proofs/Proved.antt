-- Thread-local storage is a map, for images that are linked together: the laws.
use Rattle.std.proofs.Common.{◌≡◌, ◌∙◌, ◌≤◌, ℕ, true, List, [], ◌∷◌, refl, sym, subst}
use Rattle.guest_arithmetic.specs.Plain.{plain_operations}
use Rattle.job_meaning.specs.declared.values.Byte.{Byte}
use Rattle.job_meaning.specs.declared.values.Byte.TheVariants.{Value}
use Rattle.job_text.specs.declared.thread_lines.ThreadLine.{ThreadLine}
use Rattle.known_instances.proofs.Legal.{job_legal}
use Rattle.lawful_points.proofs.Fronts.{in_history}
use Rattle.lawful_points.specs.Raced.{first_of}
use Rattle.link_needs.specs.Linking.{Linking}
use Rattle.linked_jobs.proofs.Infos.{are_infos}
use Rattle.linked_jobs.proofs.Low.{machine_low, meant_low}
use Rattle.linked_jobs.proofs.Tied.{links_tied}
use Rattle.linked_jobs.specs.Ready.{AreJob, AreReady}
use Rattle.loaded_bytes.specs.Laws.{images_of}
use Rattle.module_table.specs.declared.events.Event.{Event}
use Rattle.module_table.specs.Past.{IsLegal}
use Rattle.module_table.specs.declared.modules.ImageInfo.{ImageInfo}
use Rattle.module_table.specs.Past.{is_legal, start}
use Rattle.shared_data.specs.Places.{LiesLow}
use Rattle.thread_blocks.specs.Instances.{Loads, fixed_at}
use Rattle.thread_blocks.specs.JobLoads.{job_loads}
use Rattle.thread_blocks.specs.JobWorlds.{held_in, job_start, numbered_lines, thread_ready}
use Rattle.thread_blocks.specs.Lines.{Line, event_by}
use Rattle.thread_blocks.specs.MachineTurns.{pointer_word}
use Rattle.thread_blocks.specs.RunTime.{Runs, thread_accesses, thread_turns}
use Rattle.thread_blocks.specs.Turns.{Thread, event_of, ready, turns, with_last}
use Rattle.thread_blocks.specs.Turns.{IsFront}
use Rattle.whole_meaning.specs.Loads.{meaning_of}
use Rattle.whole_meaning.specs.Meanings.{Meaning}
use Rattle.whole_meaning.specs.Threads.{Meant, begin_meant, meant_accesses, meant_show, meant_turns, ops}
use Rattle.tls_map_laws.specs.Always.{HasMap, PeeksShow}
use Rattle.tls_map_laws.specs.Initial.{initial_image, initial_meant}
use Rattle.tls_map_laws.specs.Laws.{JobsHaveMap, MachineHasMap, MeaningsHaveMap, MeantJobsHaveMap, RacersHaveMap}
use Rattle.tls_map_laws.specs.Laws.{ThreadsHaveMap, machine_show}
use Rattle.tls_map_laws.specs.Machine.{machine_acts, machine_asks}
use Rattle.tls_map_laws.specs.Map.{Act}
use Rattle.tls_map_laws.specs.Meaning.{meant_acts, meant_asks}
use Rattle.tls_map_laws.specs.Moments.{AreMap}
use Rattle.tls_map_laws.specs.Told.{AtRising}
use Rattle.tls_map_laws.proofs.Known.{Known}
use Rattle.tls_map_laws.proofs.Begins.{FitsBy, front_of}
use Rattle.tls_map_laws.proofs.Machine.{machine_keeps}
use Rattle.tls_map_laws.proofs.Meaning.{meant_keeps}
use Rattle.tls_map_laws.proofs.Law.{alone_fits, alone_stands, alone_within, machine_first, meant_first}
use Rattle.tls_map_laws.proofs.Peeks.{peeks_show}
use Rattle.tls_map_laws.proofs.Jobs.{are_map, fewer_rise, last_then, machine_start, meaning_start, orders}
use Rattle.tls_map_laws.proofs.Linked.{machine_around, machine_known, meant_around, meant_known, meant_legal}
use Rattle.loaded_names.proofs.Meant.{infos_meant}

-- ** a thread by itself

module _ (ls : List Linking) (history : List Event) (ready_links : AreReady ls)
    (legal : IsLegal (job_loads (images_of ls)).infos (job_loads (images_of ls)).last_offset history) where
  abbrev l : Loads ℕ
  l = job_loads (images_of ls)

  abbrev m : Meaning
  m = meaning_of ls

  known : (thread : ℕ) → Known l thread history
  known thread = machine_known ls ready_links.together ready_links.stray history legal thread

  known_meant : (thread : ℕ) → Known m.loads thread history
  unfolding meaning_of
  known_meant thread = meant_known ls ready_links.together ready_links.stray history legal thread

  -- all that is loaded lies low
  machine_lies : LiesLow l
  machine_lies = machine_low ls _ (λ seen legal_then. links_tied ls seen ready_links legal_then)

  meant_lies : LiesLow m.loads
  meant_lies = meant_low ls _ (λ seen legal_then. links_tied ls seen ready_links legal_then)

  machine_map : (thread : ℕ) → 1 ≤ thread → (acts : List (Act ℕ)) (h : Runs)
      → FitsBy l thread history (known thread) acts h
      → AreMap l thread (thread_accesses l thread) (initial_image ls) 0 history acts h
  unfolding thread_accesses
  machine_map thread some acts h fits =
      are_map plain_operations l thread (initial_image ls) 0 history (known thread)
      (machine_around ls ready_links.together ready_links.stray history legal machine_lies thread some) acts h fits

  meant_map : (thread : ℕ) → 1 ≤ thread → (acts : List (Act Byte)) (h : Meant)
      → FitsBy m.loads thread history (known_meant thread) acts h
      → AreMap m.loads thread (meant_accesses m thread) (initial_meant ls) (Value 0) history acts h
  unfolding meant_accesses meaning_of
  meant_map thread some acts h fits =
      are_map ops m.loads thread (initial_meant ls) (Value 0) history (known_meant thread)
      (meant_around ls ready_links.together ready_links.stray history legal meant_lies thread some) acts h fits

  machine_peeks : (fuel thread : ℕ) → 1 ≤ thread → (acts : List (Act ℕ)) (t : Thread Runs Line Event)
      (seen : List Event) → FitsBy l thread history (known thread) acts (held_in t.phase)
      → IsFront (held_in t.phase).after.memory.seen seen → IsFront seen history
      → PeeksShow l thread (thread_turns l thread fuel) (initial_image ls) 0 (machine_show l thread) acts t seen
  unfolding thread_turns
  machine_peeks fuel thread some acts t seen fits front to =
      peeks_show plain_operations l thread (thread_turns l thread fuel) (machine_show l thread) (λ line s h. refl)
      (λ s. pointer_word plain_operations thread ∷ fixed_at l s) (initial_image ls) 0 history (known thread)
      (machine_around ls ready_links.together ready_links.stray history legal machine_lies thread some) acts t seen fits front to

  meant_peeks : (fuel thread : ℕ) → 1 ≤ thread → (acts : List (Act Byte)) (t : Thread Meant Line Event)
      (seen : List Event) → FitsBy m.loads thread history (known_meant thread) acts (held_in t.phase)
      → IsFront (held_in t.phase).after.memory.seen seen → IsFront seen history
      → PeeksShow m.loads thread (meant_turns m thread fuel) (initial_meant ls) (Value 0)
      (meant_show m thread) acts t seen
  unfolding meant_turns begin_meant meaning_of
  meant_peeks fuel thread some acts t seen fits front to =
      peeks_show ops m.loads thread (meant_turns m thread fuel) (meant_show m thread) (λ line s h. refl)
      (λ s. pointer_word ops thread ∷ fixed_at m.loads s) (initial_meant ls) (Value 0) history (known_meant thread)
      (meant_around ls ready_links.together ready_links.stray history legal meant_lies thread some) acts t seen fits front to

  threads : (fuel thread : ℕ) (own : List ThreadLine) → 1 ≤ thread → MachineHasMap ls fuel thread own history
  threads fuel thread own some =
      let x = thread_turns l thread fuel in
      let keeps = λ (h : List Event) (k : Known l thread h). machine_keeps l thread h k fuel in
      let first = machine_first l thread history (known thread) in
      record {
        between = λ points rising. machine_map thread some _ _
            (alone_fits l thread x (machine_acts l thread) (machine_asks l thread) keeps history (known thread)
            (thread_ready plain_operations l thread) (numbered_lines 1 own) first ([], refl) points rising);
        within = λ points seen rising from n begun. machine_map thread some _ _
            (alone_within l thread x (machine_acts l thread) (machine_asks l thread) keeps history (known thread)
            (thread_ready plain_operations l thread) (numbered_lines 1 own) first
            ([], refl) points seen from n rising begun);
        peeks = λ points seen rising.
            let t = turns x (first_of l thread own) points in
            let stands = alone_stands l thread x (machine_acts l thread) (machine_asks l thread) keeps history
            (known thread)
            (thread_ready plain_operations l thread) (numbered_lines 1 own) first ([], refl) points seen rising in
            machine_peeks fuel thread some _ t seen stands.fits stands.front
            (front_of seen (event_of (event_by l thread) t seen) history stands.mine);
      }

  meant_threads : (fuel thread : ℕ) (own : List ThreadLine) → 1 ≤ thread
      → HasMap m.loads thread (meant_turns m thread fuel) (meant_acts m thread) (meant_asks m thread)
      (meant_accesses m thread) (initial_meant ls) (Value 0) (meant_show m thread) history
      (ready (thread_ready ops m.loads thread) (numbered_lines 1 own))
  meant_threads fuel thread own some =
      let x = meant_turns m thread fuel in
      let keeps = λ (h : List Event) (k : Known m.loads thread h). meant_keeps m thread h k fuel in
      let first = meant_first m thread history (known_meant thread) in
      record {
        between = λ points rising. meant_map thread some _ _
            (alone_fits m.loads thread x (meant_acts m thread) (meant_asks m thread) keeps history (known_meant thread)
            (thread_ready ops m.loads thread) (numbered_lines 1 own) first ([], refl) points rising);
        within = λ points seen rising from n begun. meant_map thread some _ _
            (alone_within m.loads thread x (meant_acts m thread) (meant_asks m thread) keeps history
            (known_meant thread)
            (thread_ready ops m.loads thread) (numbered_lines 1 own) first ([], refl) points seen from n rising begun);
        peeks = λ points seen rising.
            let t = turns x (ready (thread_ready ops m.loads thread) (numbered_lines 1 own)) points in
            let stands = alone_stands m.loads thread x (meant_acts m thread) (meant_asks m thread) keeps history
            (known_meant thread) (thread_ready ops m.loads thread) (numbered_lines 1 own) first
            ([], refl) points seen rising in
            meant_peeks fuel thread some _ t seen stands.fits stands.front
            (front_of seen (event_of (event_by m.loads thread) t seen) history stands.mine);
      }

pub threads_have_map : ThreadsHaveMap
threads_have_map ls history ready_links legal fuel thread own some =
    threads ls history ready_links legal fuel thread own some

pub meanings_have_map : MeaningsHaveMap
meanings_have_map ls history ready_links legal fuel thread own some =
    meant_threads ls history ready_links legal fuel thread own some

-- ** a thread that raced

pub racers_have_map : RacersHaveMap
racers_have_map ls history ready_links legal fuel thread own said some racer =
    let q = job_loads (images_of ls) in
    let x = thread_turns q thread fuel in
    let t = first_of q thread own in
    let rising : AtRising x (event_by q thread) history t racer.points = record {
      follows = racer.lawful.follows;
      fronts = in_history x (event_by q thread) history thread t racer.points racer.lawful;
    } in
    let has = threads ls history ready_links legal fuel thread own some in (
      λ points more e. has.between points
          (fewer_rise x (event_by q thread) history points more t
          (subst (λ (ps : List (List Event)). AtRising x (event_by q thread) history t ps) e rising)),
      λ points seen more e. has.within points seen
          (fewer_rise x (event_by q thread) history (with_last points seen) more t
          (subst (λ (ps : List (List Event)). AtRising x (event_by q thread) history t ps)
          (e ∙ sym (last_then points seen more)) rising)),
    )

-- ** the laws of jobs

none_refused : (l : Loads ℕ) → is_legal (start l.infos l.last_offset) [] ≡ true
unfolding is_legal
none_refused l = refl

legal_first : (ls : List Linking) → AreJob ls
    → IsLegal (job_loads (images_of ls)).infos (job_loads (images_of ls)).last_offset []
legal_first ls job = job_legal (images_of ls) [] (are_infos ls job) (none_refused (job_loads (images_of ls)))

pub jobs_have_map : JobsHaveMap
jobs_have_map ls fuel lines order job thread t at =
    let q = job_loads (images_of ls) in
    orders q (λ i. thread_turns q i fuel) (λ i. machine_acts q i) (λ i. machine_asks q i) (λ i. thread_accesses q i)
    (initial_image ls) 0 (λ i h k. machine_keeps q i h k fuel)
    (λ h legal i. known ls h job.ready legal i)
    (λ h legal i some acts s fits. machine_map ls h job.ready legal i some acts s fits) (λ i. machine_show q i)
    (λ h legal i some acts u seen fits front to. machine_peeks ls h job.ready legal fuel i some acts u seen fits front to)
    (job_start plain_operations q lines)
    (λ h legal. machine_start q fuel lines h (λ i. known ls h job.ready legal i)) (legal_first ls job) order thread t at

-- the meaning knows of each image what the machine knows
legal_both : (ls : List Linking) (history : List Event)
    → IsLegal (meaning_of ls).loads.infos (meaning_of ls).loads.last_offset history
    → IsLegal (job_loads (images_of ls)).infos (job_loads (images_of ls)).last_offset history
unfolding meaning_of
legal_both ls history legal =
    let same = infos_meant ls in
    subst (λ (o : ℕ). IsLegal (job_loads (images_of ls)).infos o history) (sym same.1)
    (subst (λ (infos : List ImageInfo). IsLegal infos (meaning_of ls).loads.last_offset history) (sym same.0) legal)

legal_meant : (ls : List Linking) → AreJob ls → IsLegal (meaning_of ls).loads.infos (meaning_of ls).loads.last_offset []
unfolding meaning_of
legal_meant ls job = meant_legal ls job.ready.together job.ready.stray [] (legal_first ls job)

pub meant_jobs_have_map : MeantJobsHaveMap
meant_jobs_have_map ls fuel lines order job thread t at =
    let m = meaning_of ls in
    orders m.loads (λ i. meant_turns m i fuel) (λ i. meant_acts m i) (λ i. meant_asks m i) (λ i. meant_accesses m i)
    (initial_meant ls) (Value 0) (λ i h k. meant_keeps m i h k fuel)
    (λ h legal i. known_meant ls h job.ready (legal_both ls h legal) i)
    (λ h legal i some acts s fits. meant_map ls h job.ready (legal_both ls h legal) i some acts s fits)
    (λ i. meant_show m i)
    (λ h legal i some acts u seen fits front to.
    meant_peeks ls h job.ready (legal_both ls h legal) fuel i some acts u seen fits front to)
    (job_start ops m.loads lines)
    (λ h legal. meaning_start m fuel lines h (λ i. known_meant ls h job.ready (legal_both ls h legal) i))
    (legal_meant ls job) order thread t at
