-- Bytes that a line shows are the same on both sides, or the meaning's line is unclean.
use Rattle.std.proofs.Common.{◌≡◌, ℕ, ◌+◌, List, length, Option, Some, None, refl, sym, ap, subst, inl, inr}
use Rattle.std.specs.Prelude.{nat_le, option_map, position, slice_range, unwrap_or}
use Rattle.std.specs.Option.{option_or}
use Rattle.guest_arithmetic.specs.declared.cause.Cause.{Cause}
use Rattle.guest_arithmetic.specs.declared.cause.Cause.TheVariants as cause
use Rattle.guest_arithmetic.specs.Plain.{plain_operations}
use Rattle.guest_operands.specs.declared.stop.Stop.{Stop}
use Rattle.guest_operands.specs.declared.stop.Stop.TheVariants.{Unclean}
use Rattle.guest_machine.specs.Follow.{All2}
use Rattle.guest_machine.specs.Simulate.{IsUnclean}
use Rattle.job_meaning.specs.declared.values.Byte.{Byte}
use Rattle.job_meaning.specs.Marked.{values_of}
use Rattle.loaded_modules.specs.declared.instance.Instance.{Instance}
use Rattle.module_table.specs.declared.events.Event.{Event}
use Rattle.transcript_text.specs.declared.outcomes.LineRefusal.TheVariants.{Length as TooLong}
use Rattle.transcript_text.specs.declared.outcomes.Outcome.TheVariants.{Bytes}
use Rattle.thread_blocks.specs.Held.{Owned, block_bytes, is_block_of, owned_by, reached}
use Rattle.thread_blocks.specs.Instances.{Loads, instance_at}
use Rattle.thread_blocks.specs.Lines.{Line, begun_peek, refused, shown_from, shown_in}
use Rattle.thread_blocks.specs.RunTime.{Runs, shows}
use Rattle.thread_blocks.specs.SpaceLaws.{FoundAlike}
use Rattle.thread_blocks.specs.Turns.{Answered, Begun, Ending, Says}
use Rattle.whole_meaning.specs.Meanings.{Meaning}
use Rattle.whole_meaning.specs.Threads.{Meant, byte_cause, is_for, meant_show, ops, shown_as, shown_at, unclean_bytes}
use Rattle.whole_meaning.specs.Threads.{unclean_for}
use Rattle.tied_meaning.specs.Numbers.{Setting, SameByte}
use Rattle.tied_meaning.specs.Ties.{AreTied}
use Rattle.tied_meaning.specs.Threads.{AtRest, SameOwned}
use Rattle.tied_meaning.proofs.Values.{values-same}
use Rattle.held_alike.proofs.Found.{AreFound, either_alike, find_alike, map_alike}
use Rattle.held_alike.proofs.Lent.{held_alike}
use Rattle.begin_alike.specs.Begun.{BegunAlike}
use Rattle.begin_alike.proofs.Lists.{as_long, ranged}
use Rattle.begin_alike.proofs.Rests.{instance_same, reach_rests}

-- ** what is said of bytes that are no numbers is unclean

abbrev AllUnclean : Option Stop → Type 0
AllUnclean None = Unit {0}
AllUnclean (Some stop) = IsUnclean stop

mapped_unclean : (address : ℕ) (why : Cause) (k : Option ℕ)
    → AllUnclean (option_map (λ k. Unclean (address + k) why) k)
mapped_unclean address why None = tt
mapped_unclean address why (Some k) = tt

or_unclean : (a b : Option Stop) → AllUnclean a → AllUnclean b → AllUnclean (option_or a b)
or_unclean None b h k = k
or_unclean (Some stop) b h k = h

unwrapped_unclean : (a : Option Stop) (stop : Stop) → AllUnclean a → IsUnclean stop → IsUnclean (unwrap_or a stop)
unwrapped_unclean None stop h k = k
unwrapped_unclean (Some other) stop h k = h

module _ (m : Meaning) (thread : ℕ) where
  for_unclean : (address : ℕ) (bytes : List Byte) (why : Cause) → AllUnclean (unclean_for m thread address bytes why)
  for_unclean address bytes why =
      mapped_unclean address why (position (λ byte. is_for m thread why (byte_cause m thread byte)) bytes)

  shown_unclean : (address : ℕ) (bytes : List Byte) → IsUnclean (unclean_bytes m thread address bytes)
  shown_unclean address bytes =
      unwrapped_unclean _ (Unclean address cause.Undefined)
      (or_unclean _ _ (for_unclean address bytes cause.Undefined)
      (or_unclean _ _ (for_unclean address bytes cause.Base) (for_unclean address bytes cause.Descriptor))) tt

-- ** the bytes of a block

block_same : (g : Setting) (number : ℕ) (xs : List (Owned Byte)) (ys : List (Owned ℕ)) → All2 (SameOwned g) xs ys
    → FoundAlike (All2 (SameByte g)) (block_bytes number xs) (block_bytes number ys)
block_same g number xs ys h =
    let Any : Owned ℕ → Type 0 = λ o. Unit {0} in
    map_alike (AreFound g (is_block_of number) Any) (All2 (SameByte g)) (λ o. o.range.bytes) (λ o. o.range.bytes)
    (λ o o' f. f.0.range.bytes) _ _ (find_alike g (is_block_of number) Any xs ys h (λ k e below. tt))

-- ** a line that shows them

module _ (g : Setting) (m : Meaning) (q : Loads ℕ) (history : List Event) (thread : ℕ) (tied : AreTied g m q history)
    (line : Line) (seen : List Event) where
  abbrev Rest : Meant → Runs → Type 0
  Rest = AtRest g m q history thread

  abbrev Begins : Begun Meant → Begun Runs → Type 0
  Begins = BegunAlike g m q history thread seen

  abbrev show : List Byte → Ending
  show = meant_show m thread line seen

  abbrev show' : List ℕ → Ending
  show' = shows q thread

  abbrev image : ℕ
  image = line.told.image

  -- where the bytes stand
  abbrev start : ℕ
  start = shown_at m thread image seen line.told.action

  bytes_alike : (h : Meant) (h' : Runs) → Rest h h' → (bs : List Byte) (bs' : List ℕ) → All2 (SameByte g) bs bs'
      → Begins (Says (show bs) h) (Says (show' bs') h')
  bytes_alike h h' r bs bs' f = of_values (values_of bs) refl
    where
      of_values : (v : Option (List ℕ)) → values_of bs ≡ v
          → Begins (Says (shown_as m thread start bs v) h) (Says (Answered (Bytes bs')) h')
      of_values None e = inl (shown_unclean m thread start bs)
      of_values (Some ns) e = inr (ap (λ (k : List ℕ). Answered (Bytes k)) (values-same g bs bs' ns f e), r)

  block_alike : (h : Meant) (h' : Runs) → Rest h h' → (size offset : ℕ) (bs : Option (List Byte))
      (bs' : Option (List ℕ)) → FoundAlike (All2 (SameByte g)) bs bs'
      → Begins (shown_in ops m.loads show thread h size offset bs)
      (shown_in plain_operations q show' thread h' size offset bs')
  block_alike h h' r size offset None None f = inr (refl, r)
  block_alike h h' r size offset None (Some bs') f = absurd f
  block_alike h h' r size offset (Some bs) None f = absurd f
  block_alike h h' r size offset (Some bs) (Some bs') f =
      either_alike Begins (nat_le (offset + size) (length bs)) (nat_le (offset + size) (length bs'))
      (Says (show (slice_range bs offset (offset + size))) h) (refused ops m.loads show thread TooLong h)
      (Says (show' (slice_range bs' offset (offset + size))) h') (refused plain_operations q show' thread TooLong h')
      (ap (nat_le (offset + size)) (as_long (SameByte g) bs bs' f))
      (λ is. bytes_alike h h' r (slice_range bs offset (offset + size)) (slice_range bs' offset (offset + size))
      (ranged (SameByte g) offset (offset + size) bs bs' f)) (inr (refl, r))

  -- of a variable, if the image has it
  from_alike : (h : Meant) (h' : Runs) → Rest h h' → (size : ℕ) (x : Instance) (offset : Option ℕ)
      → Begins (shown_from ops m.loads show thread h size x offset)
      (shown_from plain_operations q show' thread h' size x offset)
  from_alike h h' r size x None = inr (refl, r)
  from_alike h h' r size x (Some offset) =
      block_alike h h' r size offset (block_bytes x.number (owned_by h)) (block_bytes x.number (owned_by h'))
      (block_same g x.number (owned_by h) (owned_by h') (held_alike g m q history thread h h' r.owners r.own))

  -- of an instance, if the image has one
  peek_as : (symbol : List ℕ) (size : ℕ) (h : Meant) (h' : Runs) → Rest h h' → (o : Option Instance)
      → Begins (begun_peek ops m.loads show thread line symbol size h o)
      (begun_peek plain_operations q show' thread line symbol size h' o)
  peek_as symbol size h h' r None = inr (refl, r)
  peek_as symbol size h h' r (Some x) =
      let ours : Meant = reached m.loads thread x h in
      let theirs : Runs = reached q thread x h' in
      subst (λ (offset : Option ℕ). Begins
      (shown_from ops m.loads show thread ours size x (m.loads.variable image symbol))
      (shown_from plain_operations q show' thread theirs size x offset)) (sym (tied.variable image symbol))
      (from_alike ours theirs (reach_rests g m q history thread tied x h h' r) size x (m.loads.variable image symbol))

  pub peek_alike : (symbol : List ℕ) (size : ℕ) (h : Meant) (h' : Runs) → Rest h h'
      → Begins (begun_peek ops m.loads show thread line symbol size h (instance_at m.loads seen image))
      (begun_peek plain_operations q show' thread line symbol size h' (instance_at q seen image))
  peek_alike symbol size h h' r =
      subst (λ (o : Option Instance). Begins (begun_peek ops m.loads show thread line symbol size h o)
      (begun_peek plain_operations q show' thread line symbol size h' (instance_at q seen image)))
      (sym (instance_same g m q history thread tied seen image)) (peek_as symbol size h h' r (instance_at q seen image))
