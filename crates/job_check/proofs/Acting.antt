-- What an instruction does over the ranges that are kept, it is meant to do over the space.
use Rattle.std.proofs.Common.{◌≡◌, ℕ, List, Option, None, Result, Ok, Err, refl, sym, ap, subst, ◌∙◌}
use Rattle.amd64_subset.specs.declared.instr.Decoded.{Decoded}
use Rattle.amd64_subset.specs.declared.instr.Operation.{Operation}
use Rattle.guest_machine.specs.Step.{act}
use Rattle.guest_operands.specs.declared.frame.Frame.{Frame}
use Rattle.guest_operands.specs.declared.state.State.{State}
use Rattle.guest_operands.specs.declared.stop.Stop.{Stop}
use Rattle.guest_operands.specs.Ranges.{AddressSpace}
use Rattle.guest_operands.specs.RangeLaws.{range_accesses}
use Rattle.guest_operands.specs.Use.{After, left}
use Rattle.guest_operands.specs.UseLaws.{Leaves}
use Rattle.job_meaning.specs.declared.values.Byte.{Byte}
use Rattle.job_meaning.specs.declared.values.Flag.{Flag}
use Rattle.job_meaning.specs.declared.values.Word.{Word}
use Rattle.module_table.specs.declared.events.Event.{Event}
use Rattle.thread_blocks.specs.Held.{owners_of}
use Rattle.thread_blocks.specs.SpaceLaws.{after_of, mapped}
use Rattle.thread_blocks.proofs.Image.{act_image}
use Rattle.whole_meaning.specs.Fields.{address_at, lent, lent_frame, marked_frame}
use Rattle.whole_meaning.specs.Loads.{meaning_of}
use Rattle.whole_meaning.specs.Threads.{Memory, meant_accesses, ops}
use Rattle.marked_memory.specs.Kept.{HasSeen, Kept, Shape, mark_in, memory_of, shape_of}
use Rattle.job_check.specs.Stepping.{Makes, StaysIf, acted_in, made, space_of}
use Rattle.job_check.proofs.Memories.{kept_is}
use Rattle.marked_memory.proofs.SpaceImages.{act_sees, image_at, lent_image, memory_is, space_is}

-- ** an instruction

after-is : (at : After Word Flag Memory) (state : State Word Flag) (s : Memory) → at.state ≡ state → at.memory ≡ s
    → at ≡ left state s
after-is at state s e f = rw (sym e, sym f) refl

acted-as : (k k' : Kept) (seen : List Event) (state state' : State Word Flag) (result : Result (Unit {0}) Stop)
    (r : Result (After Word Flag Memory) Stop)
    → HasSeen k seen → shape_of k' ≡ shape_of k
    → Leaves result (left state (memory_of k)) (left state' (memory_of k'))
    (mapped (image_at k.images k.thread k.lent) r)
    → ((after : After Word Flag Memory) → r ≡ Ok after → after.memory.seen ≡ seen)
    → r ≡ made result (left state' (space_of seen k'))
acted-as k k' seen state state' (Ok done) (Ok after) has shape leaves sees =
    let same : after_of (image_at k.images k.thread k.lent) after ≡ left state' (memory_of k') = cc in
    ap Ok (after-is after state' (space_of seen k') (ap (λ (it : After Word Flag (AddressSpace Byte)). it.state) same)
    (space_is k k' seen after.memory has shape (sees after refl)
    (sym (ap (λ (it : After Word Flag (AddressSpace Byte)). it.memory) same))))
acted-as k k' seen state state' (Ok done) (Err stop) has shape leaves sees = absurd cc
acted-as k k' seen state state' (Err stop) (Ok after) has shape leaves sees = let e = leaves.0 in absurd cc
acted-as k k' seen state state' (Err stop) (Err why) has shape leaves sees = let e = leaves.0 in cc

pub acts : (k k' : Kept) (seen : List Event) (frame : Frame) (operation : Operation) (state state' : State Word Flag)
    (result : Result (Unit {0}) Stop)
    → HasSeen k seen → shape_of k' ≡ shape_of k
    → Leaves result (left state (memory_of k)) (left state' (memory_of k'))
    (act ops (range_accesses ops) frame operation state (memory_of k))
    → act ops (lent ops (meant_accesses (meaning_of k.images) k.thread) k.lent) frame operation state (space_of seen k)
    ≡ made result (left state' (space_of seen k'))
acts k k' seen frame operation state state' result has shape leaves =
    let acc = lent ops (meant_accesses (meaning_of k.images) k.thread) k.lent in
    let image = image_at k.images k.thread k.lent in
    let r = act ops acc frame operation state (space_of seen k) in
    let e : act ops (range_accesses ops) frame operation state (memory_of k) ≡ mapped image r =
    ap (λ (m : AddressSpace Byte). act ops (range_accesses ops) frame operation state m) (memory_is k seen has)
    ∙ act_image ops acc (range_accesses ops) image (lent_image k.images k.thread k.lent) frame operation state
    (space_of seen k) in
    acted-as k k' seen state state' result r has shape
    (subst (Leaves result (left state (memory_of k)) (left state' (memory_of k'))) e leaves)
    (λ after is. act_sees k.images k.thread k.lent frame operation state (space_of seen k) after is)

pub act_stays : (k k' : Kept) (state state' : State Word Flag) (result : Result (Unit {0}) Stop)
    (next : Result (After Word Flag (AddressSpace Byte)) Stop)
    → shape_of k' ≡ shape_of k → Leaves result (left state (memory_of k)) (left state' (memory_of k')) next
    → StaysIf result state k state' k'
act_stays k k' state state' (Ok done) next shape leaves = tt
act_stays k k' state state' (Err stop) next shape leaves = (
  ap (λ (it : After Word Flag (AddressSpace Byte)). it.state) leaves.1,
  kept_is k k' shape (ap (λ (it : After Word Flag (AddressSpace Byte)). it.memory) leaves.1),
)

-- ** with a word that is lent and taken back

restored : (k : Kept) → k.lent ≡ None → record k { lent = None } ≡ k
restored k none = ap (λ (word : Option ℕ). record k { lent = word }) (sym none)

shape-restored : (k k' : Kept) (word : Option ℕ) → k.lent ≡ None → shape_of k' ≡ shape_of (record k { lent = word })
    → shape_of (record k' { lent = None }) ≡ shape_of k
unfolding shape_of
shape-restored k k' word none e = ap (λ (s : Shape). record s { lent = None }) e
    ∙ ap (λ (word : Option ℕ). record
    { thread = k.thread; images = k.images; live = k.live; owners = owners_of k.own; lent = word }) (sym none)

stays-restored : (k k' : Kept) (word : Option ℕ) (state state' : State Word Flag) (result : Result (Unit {0}) Stop)
    → k.lent ≡ None
    → StaysIf result state (record k { lent = word }) state' k'
    → StaysIf result state k state' (record k' { lent = None })
stays-restored k k' word state state' (Ok done) none stays = tt
stays-restored k k' word state state' (Err stop) none stays =
    (stays.0, ap (λ (it : Kept). record it { lent = None }) stays.1 ∙ restored k none)

instruction-made : (it : Decoded) (state state' : State Word Flag) (k k' : Kept) (result : Result (Unit {0}) Stop)
    → k.lent ≡ None
    → let number = address_at (mark_in k) state.place it.disp in
    let lending : Kept = record k { lent = number } in
    Leaves result (left state (memory_of lending)) (left state' (memory_of k'))
    (act ops (range_accesses ops) (lent_frame number (marked_frame (mark_in k) state.place it)) it.instr.operation state
    (memory_of lending))
    → shape_of k' ≡ shape_of lending
    → Makes result state k state' (record k' { lent = None }) (acted_in it state k)
instruction-made it state state' k k' result none leaves shape =
    let number = address_at (mark_in k) state.place it.disp in
    let lending : Kept = record k { lent = number } in record {
      shape = shape-restored k k' number none shape;
      stays = stays-restored k k' number state state' result none
          (act_stays lending k' state state' result _ shape leaves);
      makes = λ seen has. acts lending k' seen
          (lent_frame number (marked_frame
          (mark_in k) state.place it)) it.instr.operation state state' result has shape leaves;
    }

-- the law of an instruction, as the code does it
pub instruction_made : (it : Decoded) (state state' : State Word Flag) (k lending left_so k' : Kept) (number : Option ℕ)
    (frame around : Frame) (result : Result (Unit {0}) Stop)
    → k.lent ≡ None → number ≡ address_at (mark_in k) state.place it.disp
    → frame ≡ marked_frame (mark_in k) state.place it → around ≡ lent_frame number frame
    → lending ≡ record k { lent = number }
    → Leaves result (left state (memory_of lending)) (left state' (memory_of left_so))
    (act ops (range_accesses ops) around it.instr.operation state (memory_of lending))
    → shape_of left_so ≡ shape_of lending → k' ≡ record left_so { lent = None }
    → Makes result state k state' k' (acted_in it state k)
instruction_made it state state' k lending left_so k' number frame around result none a b c d leaves shape e =
    rw e (instruction-made it state state' k left_so result none (rw (d, c, b, a) at leaves) (rw (d, a) at shape))
