-- The step of a sequence, as the code makes it.
use Rattle.std.proofs.Common.{◌≡◌, ℕ, ◌&&◌, ◌==◌, Bool, true, false, List, [], Option, Some, None, Result, Ok, Err, map}
use Rattle.std.proofs.Common.{nat_lt, refl, sym, ap, ◌∙◌}
use Rattle.std.specs.List.{find}
use Rattle.address_map.specs.Map.{stack_start}
use Rattle.guest_arithmetic.specs.Cause.{both}
use Rattle.guest_machine.specs.Run.{Next, next_of}
use Rattle.guest_operands.specs.declared.state.State.{State}
use Rattle.guest_operands.specs.declared.stop.Stop.{Stop}
use Rattle.guest_operands.specs.State.{register_of}
use Rattle.guest_operands.specs.Use.{◌>>=◌, After, clean, left}
use Rattle.guest_operands.specs.UseLaws.{Leaves}
use Rattle.job_meaning.specs.declared.values.Flag.{Flag}
use Rattle.job_meaning.specs.declared.values.Word.{Word}
use Rattle.job_meaning.specs.Marked.{used_number}
use Rattle.loaded_modules.specs.declared.instance.Instance.{Instance}
use Rattle.meant_steps.specs.Stacks.{stack_from, stop_of}
use Rattle.module_table.specs.declared.events.Event.{Event}
use Rattle.module_table.specs.Past.{startup_count}
use Rattle.sequence_forms.specs.declared.forms.Form.{Form}
use Rattle.sequence_forms.specs.declared.forms.Form.TheVariants.{Gd, Ld, IeMov, IeAdd, GdInd, LdInd, DescLea, DescCall}
use Rattle.thread_blocks.specs.Instances.{instances, block_start}
use Rattle.thread_blocks.specs.SpaceLaws.{mapped}
use Rattle.whole_meaning.specs.declared.sequences.Sequence.{Sequence}
use Rattle.whole_meaning.specs.Loads.{info_of, loads_of, meaning_of}
use Rattle.whole_meaning.specs.Sequences.{asks, descriptor_use, does, looks_first, sequence_result, stack_use}
use Rattle.whole_meaning.specs.Threads.{Memory, sequence_next}
use Rattle.job_check.specs.declared.step.Stepped.{Stepped}
use Rattle.job_check.specs.declared.step.Stepped.TheVariants.{Goes, Looks, Ends}
use Rattle.marked_memory.specs.Kept.{HasSeen, Kept, shape_of}
use Rattle.job_check.specs.Running.{StaysUnless}
use Rattle.job_check.specs.Stepping.{Makes, StaysIf, StepsAs, made, next_as, sequence_made, space_of, stepped_of}
use Rattle.job_check.proofs.Memories.{kept_with}
use Rattle.std.specs.Option.{option_map_or}

-- ** which events were seen, a sequence does not ask

module _ (seen : List Event) where
  abbrev seeing : Memory → Memory
  seeing m = record m { seen = seen }

  then-seeing : {A : Type 0} (u : Result A Stop) (f g : A → Result (After Word Flag Memory) Stop)
      → ((a : A) → g a ≡ mapped seeing (f a))
      → (u >>= g) ≡ mapped seeing (u >>= f)
  then-seeing (Ok a) f g h = h a
  then-seeing (Err stop) f g h = refl

  module _ (begin : ℕ) (s : Sequence) (thread start : ℕ) (state : State Word Flag) (m : Memory) where
    does-seeing : (form : Form)
        → does (stack_from begin) s thread start form state (seeing m)
        ≡ mapped seeing (does (stack_from begin) s thread start form state m)
    does-seeing Gd = then-seeing (clean state.place (stack_use (stack_from begin) state m)) _ _ (λ below. refl)
    does-seeing GdInd = then-seeing (clean state.place (stack_use (stack_from begin) state m)) _ _ (λ below. refl)
    does-seeing Ld = then-seeing (clean state.place (stack_use (stack_from begin) state m)) _ _ (λ below. refl)
    does-seeing LdInd = then-seeing (clean state.place (stack_use (stack_from begin) state m)) _ _ (λ below. refl)
    does-seeing IeMov = refl
    does-seeing IeAdd = then-seeing (clean state.place (used_number (register_of state.registers s.register))) _ _
        (λ number. refl)
    does-seeing DescLea = refl
    does-seeing DescCall = then-seeing
        (clean state.place (both (descriptor_use s state.registers.rax) (stack_use (stack_from begin) state m))) _ _
        (λ uses. refl)

    result-seeing : sequence_result (stack_from begin) s thread start state (seeing m)
        ≡ mapped seeing (sequence_result (stack_from begin) s thread start state m)
    unfolding sequence_result
    result-seeing = does-seeing s.form

  made-seeing : (k k' : Kept) (state state' : State Word Flag) (result : Result (Unit {0}) Stop)
      (r : Result (After Word Flag Memory) Stop)
      → Leaves result (left state (space_of [] k)) (left state' (space_of [] k')) r
      → mapped seeing r ≡ made result (left state' (space_of seen k'))
  made-seeing k k' state state' (Ok done) r leaves = ap (mapped seeing) leaves
  made-seeing k k' state state' (Err stop) r leaves = ap (mapped seeing) leaves.0

-- ** what a sequence does

sequence-stays : (k k' : Kept) (state state' : State Word Flag) (result : Result (Unit {0}) Stop)
    (r : Result (After Word Flag Memory) Stop)
    → shape_of k' ≡ shape_of k → Leaves result (left state (space_of [] k)) (left state' (space_of [] k')) r
    → StaysIf result state k state' k'
sequence-stays k k' state state' (Ok done) r shape leaves = tt
sequence-stays k k' state state' (Err stop) r shape leaves = (
  ap (λ (it : After Word Flag Memory). it.state) leaves.1,
  kept_with k k' shape (ap (λ (it : After Word Flag Memory). it.memory.stack) leaves.1)
      (ap (λ (it : After Word Flag Memory). it.memory.own) leaves.1),
)

begins-there : (k : Kept) (seen : List Event) (target start : ℕ) (x : Option Instance) → HasSeen k seen
    → x ≡ find (λ (x : Instance). x.number == target) k.live → start ≡ option_map_or (block_start k.thread) x 0
    → option_map_or (block_start k.thread)
    (find (λ (x : Instance). x.number == target) (instances (loads_of k.images) seen)) 0 ≡ start
begins-there k seen target start x has is e =
    ap (λ (live : List Instance). option_map_or (block_start k.thread)
    (find (λ (x : Instance). x.number == target) live) 0) has
    ∙ ap (λ (x : Option Instance). option_map_or (block_start k.thread) x 0) (sym is) ∙ sym e

-- the law of a sequence, a look aside
pub sequence_is_made : (s : Sequence) (state state' : State Word Flag) (k k' : Kept) (x : Option Instance) (start : ℕ)
    (result : Result (Unit {0}) Stop)
    → x ≡ find (λ (x : Instance). x.number == s.target) k.live → start ≡ option_map_or (block_start k.thread) x 0
    → Leaves result (left state (space_of [] k)) (left state' (space_of [] k'))
    (sequence_result (stack_from (stack_start k.thread)) s k.thread start state (space_of [] k))
    → shape_of k' ≡ shape_of k
    → Makes result state k state' k' (sequence_made s state k)
unfolding meaning_of
sequence_is_made s state state' k k' x start result is e leaves shape = record {
  shape = shape;
  stays = sequence-stays k k' state state' result _ shape leaves;
  makes = λ seen has.
      ap (λ (start : ℕ). sequence_result (stack_from (stack_start k.thread)) s k.thread start state (space_of seen k))
      (begins-there k seen s.target start x has is e)
      ∙ result-seeing seen (stack_start k.thread) s k.thread start state (space_of [] k)
      ∙ made-seeing seen k k' state state' result _ leaves;
}

-- ** a look

look-of : Option Stop → Stepped
look-of None = Looks
look-of (Some stop) = Ends stop

looks-made : (seen : List Event) (r : Result (After Word Flag Memory) Stop) (at : After Word Flag Memory)
    → looks_first true at (mapped (seeing seen) r) ≡ next_as (look-of (stop_of r)) at
unfolding look-of
looks-made seen (Ok after) at = refl
looks-made seen (Err stop) at = refl

module _ (s : Sequence) (state : State Word Flag) (k : Kept) (stop : Option Stop)
    (is : (thread start : ℕ)
    → stop ≡ stop_of (sequence_result (stack_from (stack_start k.thread)) s thread start state (space_of [] k)))
  where
    -- the tests are those of the sequence, whichever events were seen
    look-made : (seen : List Event)
        → looks_first true (left state (space_of seen k)) (sequence_made s state k seen)
        ≡ next_as (look-of stop) (left state (space_of seen k))
    look-made seen = ap (looks_first true (left state (space_of seen k)))
        (result-seeing seen (stack_start k.thread) s k.thread _ state (space_of [] k))
        ∙ looks-made seen _ (left state (space_of seen k))
        ∙ ap (λ (stop : Option Stop). next_as (look-of stop) (left state (space_of seen k))) (sym (is k.thread _))

pub look_is_made : (s : Sequence) (state : State Word Flag) (k : Kept)
    → ((thread start : ℕ) → None
    ≡ stop_of (sequence_result (stack_from (stack_start k.thread)) s thread start state (space_of [] k)))
    → (seen : List Event) → looks_first true (left state (space_of seen k)) (sequence_made s state k seen)
    ≡ next_as Looks (left state (space_of seen k))
unfolding look-of
look_is_made s state k is seen = look-made s state k None is seen

pub look_ends : (s : Sequence) (state : State Word Flag) (k : Kept) (stop : Stop)
    → ((thread start : ℕ) → Some stop
    ≡ stop_of (sequence_result (stack_from (stack_start k.thread)) s thread start state (space_of [] k)))
    → (seen : List Event) → looks_first true (left state (space_of seen k)) (sequence_made s state k seen)
    ≡ next_as (Ends stop) (left state (space_of seen k))
unfolding look-of
look_ends s state k stop is seen = look-made s state k (Some stop) is seen

-- ** the step

pub next_made : (result : Result (Unit {0}) Stop) (after : After Word Flag Memory)
    → next_of (made result after) ≡ next_as (stepped_of result) after
next_made (Ok done) after = refl
next_made (Err stop) after = refl

pub stays_made : (k k' : Kept) (state state' : State Word Flag) (result : Result (Unit {0}) Stop)
    → StaysIf result state k state' k' → StaysUnless (stepped_of result) state k state' k'
stays_made k k' state state' (Ok done) stays = tt
stays_made k k' state state' (Err stop) stays = stays

stays-all : (k : Kept) (state : State Word Flag) (stepped : Stepped) → StaysUnless stepped state k state k
stays-all k state Goes = tt
stays-all k state Looks = (refl, refl)
stays-all k state (Ends stop) = (refl, refl)

abbrev pub sequence_next_of : Sequence → State Word Flag → Kept → List Event → Next (After Word Flag Memory)
sequence_next_of s state k seen = sequence_next (meaning_of k.images) k.thread (left state (space_of seen k)) s

pub sequence_looks : (s : Sequence) (state : State Word Flag) (k : Kept) (stepped : Stepped)
    → (asks s.form && nat_lt (startup_count (map info_of k.images)) s.target) ≡ true
    → ((seen : List Event) → looks_first true (left state (space_of seen k)) (sequence_made s state k seen)
    ≡ next_as stepped (left state (space_of seen k)))
    → StepsAs stepped state k state k (sequence_next_of s state k)
unfolding meaning_of loads_of
sequence_looks s state k stepped late looks = record {
  shape = refl;
  stays = stays-all k state stepped;
  steps = λ seen has. ap (λ (late : Bool). looks_first late (left state (space_of seen k))
      (sequence_made s state k seen)) late ∙ looks seen;
}

pub sequence_goes : (s : Sequence) (state state' : State Word Flag) (k k' : Kept) (result : Result (Unit {0}) Stop)
    (stepped : Stepped)
    → (asks s.form && nat_lt (startup_count (map info_of k.images)) s.target) ≡ false
    → Makes result state k state' k' (sequence_made s state k) → stepped ≡ stepped_of result
    → StepsAs stepped state k state' k' (sequence_next_of s state k)
unfolding meaning_of loads_of
sequence_goes s state state' k k' result stepped late makes e = rw e (record {
  shape = makes.shape;
  stays = stays_made k k' state state' result makes.stays;
  steps = λ seen has. ap (λ (late : Bool). looks_first late (left state (space_of seen k))
      (sequence_made s state k seen)) late
      ∙ ap next_of (makes.makes seen has) ∙ next_made result (left state' (space_of seen k'));
})
