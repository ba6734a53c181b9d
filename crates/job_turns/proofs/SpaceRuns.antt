-- What the code's machine does over the ranges that it finds, a thread's machine does over its space.
use Rattle.std.proofs.Common.{◌≡◌, ℕ, ◌+◌, ◌-◌, Bool, true, false, cond, List, [], ◌∷◌, ◌++◌, refl, sym, ap, ◌∙◌, not}
use Rattle.std.specs.Prelude.{if◌then◌else◌, slice_set}
use Rattle.std.specs.List.{filter}
use Rattle.std.proofs.lemmas.List.{append_cancel_right}
use Rattle.address_map.specs.Map.{stack_start}
use Rattle.guest_arithmetic.specs.Plain.{plain_operations}
use Rattle.guest_arithmetic.specs.Values.{Operations}
use Rattle.guest_operands.specs.declared.space.Access.TheVariants.{Write}
use Rattle.guest_operands.specs.declared.state.State.{State}
use Rattle.guest_operands.specs.declared.stop.Stop.{Stop}
use Rattle.guest_operands.specs.Ranges.{AddressSpace, Range, grants}
use Rattle.guest_operands.specs.Use.{After, left}
use Rattle.guest_machine.specs.Machine.{Standing}
use Rattle.guest_machine.specs.Run.{Outcome, Ended, Waits, machine, run}
use Rattle.guest_machine.specs.RunLaws.{Runs, machine_of, state_after, steps_left, stop_of}
use Rattle.loaded_modules.specs.declared.instance.Instance.{Instance}
use Rattle.loaded_modules.specs.Images.{JobImages, infos}
use Rattle.module_table.specs.declared.events.Event.{Event}
use Rattle.module_table.specs.Past.{Past}
use Rattle.thread_blocks.specs.Held.{ranges_in}
use Rattle.thread_blocks.specs.Instances.{fixed_at, fixed_of, instances_in}
use Rattle.thread_blocks.specs.JobLoads.{job_loads, loaded_parts}
use Rattle.thread_blocks.specs.MachineTurns.{pointer_word}
use Rattle.thread_blocks.specs.RunTime.{thread_accesses}
use Rattle.thread_blocks.specs.Spaces.{Space, address_space_of, no_field, outcome_image, space_accesses, stack_range}
use Rattle.thread_blocks.specs.SpaceLaws.{NoneWritable, IsImage, after_of}
use Rattle.thread_blocks.proofs.Image.{machine_image, run_image}
use Rattle.thread_blocks.proofs.Spaces.{space_run}
use Rattle.thread_space.specs.Kept.{Kept, HasSeen, Shape, fixed_in, memory_of, owned_of, shape_of}
use Rattle.job_turns.specs.Running.{bare, space_in}

-- ** a run does not change the events that a space has seen

module _ {W F E B : Type 0} (ops : Operations W F B) (start : ℕ) (fixed : List E → List (Range B)) (seen : List E) where
  abbrev seeing : Space E B → Space E B
  seeing m = record m { seen = seen }

  put-seeing : (b : Bool) (m : Space E B) (place : ℕ) (byte : B) (own : List (Range B))
      → (if b then record (seeing m) { stack = slice_set m.stack (place - start) byte }
      else record (seeing m) { own = own })
      ≡ seeing (if b then record m { stack = slice_set m.stack (place - start) byte } else record m { own = own })
  put-seeing true m place byte own = refl
  put-seeing false m place byte own = refl

  seeing-image : IsImage (space_accesses ops start (λ (_ : List E). fixed seen)) (space_accesses ops start fixed) seeing
  unfolding space_accesses
  seeing-image = record {
    byte = λ m place. refl;
    writes = λ m place. refl;
    put = λ m place byte. put-seeing (grants Write (stack_range start m.stack) place) m place byte _;
    code = λ m place. refl;
  }

  out-seen : (out : Outcome (After W F (Space E B)))
      → (state_after (outcome_image (after_of seeing) out)).memory.seen ≡ seen
  out-seen (Ended stop n at) = refl
  out-seen (Waits n at) = refl

  pub run_sees : (n : ℕ) (state : State W F) (m : Space E B) → m.seen ≡ seen
      → (state_after (run (machine ops (space_accesses ops start fixed) no_field) n (left state m))).memory.seen ≡ seen
  run_sees n state m e =
      let x = machine ops (space_accesses ops start (λ (_ : List E). fixed seen)) no_field in
      let y = machine ops (space_accesses ops start fixed) no_field in
      let same : m ≡ seeing m = rw e refl in
      ap (λ (m : Space E B). (state_after (run y n (left state m))).memory.seen) same
      ∙ ap (λ (out : Outcome (After W F (Space E B))). (state_after out).memory.seen)
      (run_image (after_of seeing) x y (machine_image ops _ _ seeing seeing-image no_field no_field (λ m. refl)) n
      (left state m))
      ∙ out-seen (run x n (left state m))

-- ** no thread writes what is fixed

none-if : (b : Bool) (range : Range ℕ) (rest : List (Range ℕ)) → range.writable ≡ b → NoneWritable rest
    → NoneWritable (cond (not b) (range ∷ rest) rest)
none-if true range rest e none = none
none-if false range rest e none = (e, none)

none-filtered : (ranges : List (Range ℕ)) → NoneWritable (filter (λ (range : Range ℕ). not range.writable) ranges)
none-filtered [] = tt
none-filtered (range ∷ ranges) = none-if range.writable range _ refl (none-filtered ranges)

none-both : (xs ys : List (Range ℕ)) → NoneWritable xs → NoneWritable ys → NoneWritable (xs ++ ys)
none-both [] ys f g = g
none-both (x ∷ xs) ys f g = (f.0, none-both xs ys f.1 g)

none-each : (m : JobImages) (live : List Instance) → NoneWritable (fixed_of (job_loads m) live)
unfolding job_loads
none-each m [] = tt
none-each m (x ∷ live) =
    none-both (filter (λ (range : Range ℕ). not range.writable) (loaded_parts m x)) _ (none-filtered (loaded_parts m x))
    (none-each m live)

module _ (m : JobImages) (thread : ℕ) where
  abbrev pub fixed_seen : List Event → List (Range ℕ)
  fixed_seen seen = pointer_word plain_operations thread ∷ fixed_at (job_loads m) seen

  pub none_fixed : (seen : List Event) → NoneWritable (fixed_seen seen)
  unfolding fixed_at
  none_fixed seen = (refl, none-each m (instances_in (job_loads m).infos _))

-- ** the ranges that the code has are those of the space

pub fixed_is : (k : Kept) (seen : List Event) → HasSeen k.vector seen
    → fixed_in k.vector.images k.vector.past k.vector.thread ≡ fixed_seen k.vector.images k.vector.thread seen
unfolding fixed_in fixed_at job_loads
fixed_is k seen has =
    ap (λ (p : Past). pointer_word plain_operations k.vector.thread
    ∷ fixed_of (job_loads k.vector.images) (instances_in (infos k.vector.images) p)) (sym has)

pub memory_is : (k : Kept) (seen : List Event) → HasSeen k.vector seen
    → memory_of k ≡ address_space_of (stack_start k.vector.thread) (fixed_seen k.vector.images k.vector.thread)
    (space_in seen k)
unfolding memory_of
memory_is k seen has = rw (fixed_is k seen has) refl

-- what a shape tells of what was kept before and is kept after
pub record SameShape (k k' : Kept) : Type 0 where
  pub thread : k'.vector.thread ≡ k.vector.thread
  pub images : k'.vector.images ≡ k.vector.images
  pub past : k'.vector.past ≡ k.vector.past

pub same_shape : (k k' : Kept) → shape_of k' ≡ shape_of k → SameShape k k'
unfolding shape_of
same_shape k k' e = record {
  thread = ap (λ (s : Shape). s.thread) e;
  images = ap (λ (s : Shape). s.images) e;
  past = ap (λ (s : Shape). s.past) e;
}

pub has_seen_still : (k k' : Kept) (seen : List Event) → shape_of k' ≡ shape_of k → HasSeen k.vector seen
    → HasSeen k'.vector seen
has_seen_still k k' seen e has = let same = same_shape k k' e in rw (same.images, same.past) has

first-stack : (a b : Range ℕ) (rest more : List (Range ℕ)) → a ∷ rest ≡ b ∷ more → (a.bytes ≡ b.bytes) × (rest ≡ more)
first-stack a b rest more e = (cc, cc)

space-parts : (s : Space Event ℕ) (seen : List Event) (stack : List ℕ) (own : List (Range ℕ)) → s.seen ≡ seen
    → s.stack ≡ stack → s.own ≡ own
    → s ≡ record { seen = seen; stack = stack; own = own }
space-parts s seen stack own e f g = rw (sym e, sym f, sym g) refl

-- a space whose ranges the code has is its own
pub space_is : (k k' : Kept) (seen : List Event) (s : Space Event ℕ) → HasSeen k.vector seen → shape_of k' ≡ shape_of k
    → s.seen ≡ seen
    → memory_of k' ≡ address_space_of (stack_start k.vector.thread) (fixed_seen k.vector.images k.vector.thread) s
    → s ≡ space_in seen k'
space_is k k' seen s has shape sees e =
    let fixed = fixed_seen k.vector.images k.vector.thread in
    let same = same_shape k k' shape in
    let own = memory_is k' seen (has_seen_still k k' seen shape has) in
    let ranges = ap (λ (m : AddressSpace ℕ). m.ranges) (sym own ∙ e) in
    let parts = first-stack _ _ _ _ ranges in
    let alike : fixed_seen k'.vector.images k'.vector.thread seen ≡ fixed s.seen =
    rw (same.images, same.thread, sees) refl in
    let owns : ranges_in (owned_of k'.vector k'.pieces) ++ fixed s.seen ≡ s.own ++ fixed s.seen =
    ap (λ (rest : List (Range ℕ)). ranges_in (owned_of k'.vector k'.pieces) ++ rest) (sym alike) ∙ parts.1 in
    space-parts s seen k'.stack _ sees (sym parts.0) (sym (append_cancel_right _ _ (fixed s.seen) owns))

-- ** runs

module _ {W F M M' : Type 0} (image : M → M') where
  stop-image : (out : Outcome (After W F M)) → stop_of (outcome_image (after_of image) out) ≡ stop_of out
  stop-image (Ended stop n at) = refl
  stop-image (Waits n at) = refl

  left-image : (out : Outcome (After W F M)) → steps_left (outcome_image (after_of image) out) ≡ steps_left out
  left-image (Ended stop n at) = refl
  left-image (Waits n at) = refl

  after-image : (out : Outcome (After W F M))
      → state_after (outcome_image (after_of image) out) ≡ after_of image (state_after out)
  after-image (Ended stop n at) = refl
  after-image (Waits n at) = refl

-- what a run of the bare machine over the space did
pub record RunsOver (seen : List Event) (limit : ℕ) (result : Stop) (old : Standing ℕ Bool) (k : Kept)
    (new : Standing ℕ Bool) (k' : Kept) : Type 0 where
  pub stop : result ≡ stop_of
      (run (bare (job_loads k.vector.images) k.vector.thread) (limit - old.taken) (left old.state (space_in seen k)))
  pub after : state_after
      (run (bare (job_loads k.vector.images) k.vector.thread) (limit - old.taken) (left old.state (space_in seen k)))
      ≡ left new.state (space_in seen k')
  pub steps : new.taken + steps_left
      (run (bare (job_loads k.vector.images) k.vector.thread) (limit - old.taken) (left old.state (space_in seen k)))
      ≡ old.taken + (limit - old.taken)

after-is : (at : After ℕ Bool (Space Event ℕ)) (state : State ℕ Bool) (s : Space Event ℕ) → at.state ≡ state
    → at.memory ≡ s → at ≡ left state s
after-is at state s e f = rw (sym e, sym f) refl

pub runs_over : (seen : List Event) (limit : ℕ) (result : Stop) (old : Standing ℕ Bool) (k : Kept)
    (new : Standing ℕ Bool) (k' : Kept)
    → HasSeen k.vector seen → shape_of k' ≡ shape_of k
    → Runs plain_operations limit result old (memory_of k) new (memory_of k')
    → RunsOver seen limit result old k new k'
unfolding thread_accesses
runs_over seen limit result old k new k' has shape runs =
    let start = stack_start k.vector.thread in
    let fixed = fixed_seen k.vector.images k.vector.thread in
    let image = address_space_of start fixed in
    let n = limit - old.taken in
    let out = run (bare (job_loads k.vector.images) k.vector.thread) n (left old.state (space_in seen k)) in
    let e : run (machine_of plain_operations) n (left old.state (memory_of k)) ≡ outcome_image (after_of image) out =
    ap (λ (m : AddressSpace ℕ). run (machine_of plain_operations) n (left old.state m)) (memory_is k seen has)
    ∙ space_run plain_operations start fixed (none_fixed k.vector.images k.vector.thread) n
    (left old.state (space_in seen k)) in
    let went : left new.state (memory_of k') ≡ after_of image (state_after out) = runs.after ∙ ap state_after e
    ∙ after-image image out in
    let sees = run_sees plain_operations start fixed seen n old.state (space_in seen k) refl in record {
      stop = runs.stop ∙ ap stop_of e ∙ stop-image image out;
      after = after-is (state_after out) new.state (space_in seen k')
          (ap (λ (at : After ℕ Bool (AddressSpace ℕ)). at.state) (sym went))
          (space_is k k' seen (state_after out).memory has shape sees
          (ap (λ (at : After ℕ Bool (AddressSpace ℕ)). at.memory) went));
      steps = ap (λ (m : ℕ). new.taken + m) (sym (ap steps_left e ∙ left-image image out)) ∙ runs.steps;
    }
