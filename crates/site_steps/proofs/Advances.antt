-- All forms together: a sequence of the meaning is one to four steps of the machine.
use Rattle.std.proofs.Common.{◌≡◌, ◌∙◌, ◌⊎◌, ◌+◌, ◌^◌, ◌<◌, ◌≤◌, ◌&&◌, ℕ, Bool, true, false, List, Option, Some, Result}
use Rattle.std.proofs.Common.{refl, sym, ap, subst, arith, inl, inr}
use Rattle.std.proofs.lemmas.Bool.{le-ltb}
use Rattle.guest_operands.specs.declared.stop.Stop.{Stop}
use Rattle.site_steps.proofs.Answers.{AsksFromStart, kept_from_start}
use Rattle.site_steps.proofs.Called.{AdvancesTo}
use Rattle.site_steps.proofs.Looks.{AnswersTo}
use Rattle.tied_meaning.specs.Sites.{HasCode, HasPair, AsksForOwnBlock, KeptAs, IsWritten, WrittenAs, first_length}
use Rattle.guest_machine.specs.Run.{Next, next_of}
use Rattle.guest_machine.specs.Simulate.{Moves}
use Rattle.guest_machine.specs.Use.{After, plus}
use Rattle.job_meaning.specs.declared.values.Flag.{Flag}
use Rattle.job_meaning.specs.declared.values.Word.{Word}
use Rattle.loaded_modules.specs.declared.instance.Instance.{Instance}
use Rattle.module_table.specs.declared.events.Event.{Event}
use Rattle.module_table.specs.Past.{startup_count}
use Rattle.sequence_forms.specs.declared.forms.Form.{Form}
use Rattle.sequence_forms.specs.declared.forms.Form.TheVariants.{Gd, Ld, IeMov, IeAdd, GdInd, LdInd, DescLea, DescCall}
use Rattle.thread_blocks.specs.Instances.{Loads, block_start}
use Rattle.thread_blocks.specs.RunTime.{Runs, thread_steps}
use Rattle.whole_meaning.specs.declared.sequences.Sequence.{Sequence}
use Rattle.whole_meaning.specs.Meanings.{Meaning}
use Rattle.whole_meaning.specs.Sequences.{asks, does, looks_first}
use Rattle.whole_meaning.specs.Threads.{Meant, Memory, came_late, meant_stack, sequence_at}
use Rattle.tied_meaning.specs.Numbers.{Setting}
use Rattle.tied_meaning.specs.Ties.{AreTied}
use Rattle.tied_meaning.specs.Threads.{InCall}
use Rattle.site_steps.proofs.Owners.{Begins}
use Rattle.site_steps.proofs.Steps.{small_place}
use Rattle.amd64_subset.specs.Register.{register_of as register_named}
use Rattle.relax_sites.specs.declared.choices.Choice.{Choice}
use Rattle.relax_sites.specs.declared.choices.Choice.TheVariants.{Keep, GdLe, GdIe, LdLe, IeLe, DescLe, DescIe}
use Rattle.relax_sites.specs.Rows.{form_length}
use Rattle.sequence_forms.specs.Forms.{row}
use Rattle.sequence_laws.specs.Instructions.{kept_instructions, new_instructions}
use Rattle.whole_meaning.specs.Sequences.{sequence_result}
use Rattle.whole_meaning.specs.Threads.{sequence_next}
use Rattle.site_steps.proofs.Owners.{begins as begins_at}
use Rattle.site_steps.proofs.Callers.{by_stub, by_word}
use Rattle.site_steps.proofs.Descriptors.{descriptor_goes}
use Rattle.site_steps.proofs.Calls.{HasUse, asking_at}
use Rattle.site_steps.proofs.Pairs.{IsPair, pair_goes}
use Rattle.site_steps.specs.Laws.{SequencesAdvance}
use Rattle.site_steps.proofs.Single.{desc_ie, desc_le, desc_lea, desc_nop, ie_add, ie_add_le, ie_mov, ie_mov_le}
use Rattle.site_steps.proofs.Written.{gd_ie, gd_le, ld_written}
use Rattle.std.specs.Option.{option_map_or}

abbrev length_of : Form → ℕ
length_of Gd = 16
length_of Ld = 12
length_of GdInd = 16
length_of LdInd = 13
length_of DescCall = 2
length_of form = 7

lengths : (form : Form) → form_length form ≡ length_of form
unfolding row
lengths Gd = refl
lengths Ld = refl
lengths GdInd = refl
lengths LdInd = refl
lengths IeMov = refl
lengths IeAdd = refl
lengths DescLea = refl
lengths DescCall = refl

module _ {g : Setting} {m : Meaning} {q : Loads ℕ} {history : List Event} {thread : ℕ} (tied : AreTied g m q history)
    (low : 1 ≤ thread) (high : thread ≤ 64) where
  module _ {h : Meant} {h' : Runs} (call : InCall g m q history thread h h') {s : Sequence} (b : Begins g m q h h' s)
      (begins : sequence_at m thread h.after.memory.seen h.after.state.place ≡ Some s) where
    abbrev here : ℕ
    here = h'.after.state.place

    abbrev goal : Next (After Word Flag Memory) → Type 0
    goal = AdvancesTo g m q history thread h h'

    abbrev begin_at : ℕ
    begin_at = block_start thread b.y

    abbrev meant_by : Form → Result (After Word Flag Memory) Stop
    meant_by form = does (meant_stack m thread) s thread begin_at form h.after.state h.after.memory

    abbrev answer_goal : Form → Type 0
    answer_goal form = goal (looks_first (asks form && came_late m thread s.target) h.after (meant_by form))

    never_first : (a l : Bool) (r : Result (After Word Flag Memory) Stop) → l ≡ false → goal (next_of r)
        → goal (looks_first (a && l) h.after r)
    never_first true l r e k = rw e k
    never_first false l r e k = k

    -- one that started with the program is not looked for
    early_goes : (form : Form) → s.target ≤ startup_count q.infos → goal (next_of (meant_by form)) → answer_goal form
    early_goes form early k =
        never_first (asks form) (came_late m thread s.target) (meant_by form)
        (le-ltb (startup_count m.loads.infos) s.target
        (subst (λ infos. s.target ≤ startup_count infos) tied.infos early)) k

    ends_at : (form : Form) → s.form ≡ form → s.next ≡ here + length_of form
    ends_at form f = b.stands.ends
        ∙ (ap (λ (form : Form). here + form_length form) f ∙ ap (λ (n : ℕ). here + n) (lengths form))

    -- what stands there, by the form
    code_of : (reg first second : ℕ) (form : Form) → s.form ≡ form
        → HasCode q b.x here (kept_instructions s.form reg first second)
        → HasCode q b.x here (kept_instructions form reg first second)
    code_of reg first second form f code =
        subst (λ (form : Form). HasCode q b.x here (kept_instructions form reg first second)) f code

    new_code_of : (choice : Choice) (reg number : ℕ) (form : Form) → s.form ≡ form
        → HasCode q b.x here (new_instructions s.form choice reg number)
        → HasCode q b.x here (new_instructions form choice reg number)
    new_code_of choice reg number form f code =
        subst (λ (form : Form). HasCode q b.x here (new_instructions form choice reg number)) f code

    pair_at : (len n : ℕ) → len ≤ 15 → here < 2 ^ 39 → HasPair q b.x s (plus (here + len) n)
        → HasPair q b.x s (plus (plus here len) n)
    pair_at len n few small pair = subst (λ (p : ℕ). HasPair q b.x s (plus p n)) (omega (arith, few, small)) pair

    base_of : (form : Form) → s.form ≡ form → AsksForOwnBlock g q b.x here s form
    base_of form f = subst (AsksForOwnBlock g q b.x here s) f b.stands.base

    pair_of : (form : Form) → s.form ≡ form → (n : ℕ) → HasPair q b.x s (plus (here + first_length s.form) n)
        → HasPair q b.x s (plus (here + first_length form) n)
    pair_of form f n pair = subst (λ (form : Form). HasPair q b.x s (plus (here + first_length form) n)) f pair

    -- ** kept

    pair_answers : (form : Form) → s.form ≡ form → IsPair form → (len n : ℕ) → len ≤ 15 → here < 2 ^ 39
        → len ≡ first_length form → HasPair q b.x s (plus (here + first_length s.form) n) → s.next < 2 ^ 64
        → AsksFromStart g s b.y s.form → (k : ℕ) → k ≤ 3
        → (HasUse m thread h h' → Moves (thread_steps q thread) k h'
        (asking_at thread h' s (plus (plus here len) n) 0x1000))
        → answer_goal form
    pair_answers form f is len n few small e pair ends from k steps moves =
        let found : HasPair q b.x s (plus (plus here len) n) =
        pair_at len n few small
        (subst (λ (l : ℕ). HasPair q b.x s (plus (here + l) n)) (sym e) (pair_of form f n pair)) in
        subst answer_goal f
        (pair_goes tied low high call b begins ends (subst IsPair (sym f) is) from
        (plus (plus here len) n) k steps moves
        found)

    of_kept : (form : Form) → s.form ≡ form → AsksFromStart g s b.y s.form → KeptAs g q b.x here s form
        → answer_goal form
    of_kept Gd f from (first, (second, k)) =
        let code = code_of 0 first second Gd f k.code in
        let ends = ends_at Gd f in
        let small = small_place b.it code.0 in
        pair_answers Gd f tt 8 first (omega arith) small refl k.pair (omega (arith, ends, small)) from 3 (omega arith)
        (by_stub tied low high call b 8 4 first (omega arith) code.0 8 second k.stub k.far (omega arith) code.1.0 ends
        k.goes k.jumps k.word)
    of_kept Ld f from (own, (first, (second, k))) =
        let code = code_of 0 first second Ld f k.code in
        let ends = ends_at Ld f in
        let small = small_place b.it code.0 in
        pair_answers Ld f tt 7 first (omega arith) small refl k.pair (omega (arith, ends, small)) from 3 (omega arith)
        (by_stub tied low high call b 7 3 first (omega arith) code.0 5 second k.stub k.far (omega arith) code.1.0 ends
        k.goes k.jumps k.word)
    of_kept GdInd f from (first, (second, k)) =
        let code = code_of 0 first second GdInd f k.code in
        let ends = ends_at GdInd f in
        let small = small_place b.it code.0 in
        pair_answers GdInd f tt 8 first (omega arith) small refl k.pair (omega (arith, ends, small)) from 2
        (omega arith)
        (by_word tied low high call b 8 4 first (omega arith) code.0 8 4 second (omega arith) code.1.0 ends k.word)
    of_kept LdInd f from (own, (first, (second, k))) =
        let code = code_of 0 first second LdInd f k.code in
        let ends = ends_at LdInd f in
        let small = small_place b.it code.0 in
        pair_answers LdInd f tt 7 first (omega arith) small refl k.pair (omega (arith, ends, small)) from 2
        (omega arith)
        (by_word tied low high call b 7 3 first (omega arith) code.0 6 2 second (omega arith) code.1.0 ends k.word)
    of_kept IeMov f from (reg, (first, (word, k))) =
        ie_mov tied low high call b (register_named reg) first word (code_of reg first 0 IeMov f k.code).0
        (ends_at IeMov f) k.register k.there k.distance
    of_kept IeAdd f from (reg, (first, (word, k))) =
        ie_add tied low high call b (register_named reg) first word (code_of reg first 0 IeAdd f k.code).0
        (ends_at IeAdd f) k.register k.there k.distance
    of_kept DescLea f from (first, k) =
        desc_lea tied low high call b first k.code.0 (ends_at DescLea f) b.stands.own k.made k.number
    of_kept DescCall f from k =
        let ends = ends_at DescCall f in
        let small = small_place b.it k.code.0 in
        descriptor_goes tied low high call b f begins
        (omega (arith, ends, small)) k.code.0 ends b.stands.own k.low k.descriptor

    -- ** rewritten

    of_written : (form : Form) (choice : Choice) → s.form ≡ form → (reg number : ℕ)
        → IsWritten g q b.x here s choice reg number
        → WrittenAs g q b.x here s form choice reg number → answer_goal form
    of_written Gd Keep f reg number is written = absurd written
    of_written Gd GdLe f reg number is written =
        early_goes Gd is.early
        (gd_le tied low high call b number (new_code_of GdLe reg number Gd f is.code).0
        (new_code_of GdLe reg number Gd f is.code).1.0 (ends_at Gd f) written)
    of_written Gd GdIe f reg number is written =
        early_goes Gd is.early
        (gd_ie tied low high call b number written.0 (new_code_of GdIe reg number Gd f is.code).0
        (new_code_of GdIe reg number Gd f is.code).1.0 (ends_at Gd f) written.1.0 written.1.1)
    of_written Gd LdLe f reg number is written = absurd written
    of_written Gd IeLe f reg number is written = absurd written
    of_written Gd DescLe f reg number is written = absurd written
    of_written Gd DescIe f reg number is written = absurd written
    of_written Ld Keep f reg number is written = absurd written
    of_written Ld GdLe f reg number is written = absurd written
    of_written Ld GdIe f reg number is written = absurd written
    of_written Ld LdLe f reg number is written =
        early_goes Ld is.early
        (ld_written tied low high call b 12 8 (new_code_of LdLe reg number Ld f is.code).0 (ends_at Ld f)
        (omega arith) written is.program (base_of Ld f).0 b.stands.own)
    of_written Ld IeLe f reg number is written = absurd written
    of_written Ld DescLe f reg number is written = absurd written
    of_written Ld DescIe f reg number is written = absurd written
    of_written IeMov Keep f reg number is written = absurd written
    of_written IeMov GdLe f reg number is written = absurd written
    of_written IeMov GdIe f reg number is written = absurd written
    of_written IeMov LdLe f reg number is written = absurd written
    of_written IeMov IeLe f reg number is written =
        early_goes IeMov is.early
        (ie_mov_le tied low high call b (register_named reg) number (new_code_of IeLe reg number IeMov f is.code).0
        (ends_at IeMov f) written.0 written.1)
    of_written IeMov DescLe f reg number is written = absurd written
    of_written IeMov DescIe f reg number is written = absurd written
    of_written IeAdd Keep f reg number is written = absurd written
    of_written IeAdd GdLe f reg number is written = absurd written
    of_written IeAdd GdIe f reg number is written = absurd written
    of_written IeAdd LdLe f reg number is written = absurd written
    of_written IeAdd IeLe f reg number is written =
        early_goes IeAdd is.early
        (ie_add_le tied low high call b reg number (new_code_of IeLe reg number IeAdd f is.code).0 (ends_at IeAdd f)
        written.0 written.1)
    of_written IeAdd DescLe f reg number is written = absurd written
    of_written IeAdd DescIe f reg number is written = absurd written
    of_written GdInd Keep f reg number is written = absurd written
    of_written GdInd GdLe f reg number is written =
        early_goes GdInd is.early
        (gd_le tied low high call b number (new_code_of GdLe reg number GdInd f is.code).0
        (new_code_of GdLe reg number GdInd f is.code).1.0 (ends_at GdInd f) written)
    of_written GdInd GdIe f reg number is written =
        early_goes GdInd is.early
        (gd_ie tied low high call b number written.0 (new_code_of GdIe reg number GdInd f is.code).0
        (new_code_of GdIe reg number GdInd f is.code).1.0 (ends_at GdInd f) written.1.0 written.1.1)
    of_written GdInd LdLe f reg number is written = absurd written
    of_written GdInd IeLe f reg number is written = absurd written
    of_written GdInd DescLe f reg number is written = absurd written
    of_written GdInd DescIe f reg number is written = absurd written
    of_written LdInd Keep f reg number is written = absurd written
    of_written LdInd GdLe f reg number is written = absurd written
    of_written LdInd GdIe f reg number is written = absurd written
    of_written LdInd LdLe f reg number is written =
        early_goes LdInd is.early
        (ld_written tied low high call b 13 9 (new_code_of LdLe reg number LdInd f is.code).0 (ends_at LdInd f)
        (omega arith) written is.program (base_of LdInd f).0 b.stands.own)
    of_written LdInd IeLe f reg number is written = absurd written
    of_written LdInd DescLe f reg number is written = absurd written
    of_written LdInd DescIe f reg number is written = absurd written
    of_written DescLea Keep f reg number is written = absurd written
    of_written DescLea GdLe f reg number is written = absurd written
    of_written DescLea GdIe f reg number is written = absurd written
    of_written DescLea LdLe f reg number is written = absurd written
    of_written DescLea IeLe f reg number is written = absurd written
    of_written DescLea DescLe f reg number is written =
        early_goes DescLea is.early
        (desc_le tied low high call b number (new_code_of DescLe reg number DescLea f is.code).0 (ends_at DescLea f)
        b.stands.own written.0 written.1)
    of_written DescLea DescIe f reg number is written =
        early_goes DescLea is.early
        (desc_ie tied low high call b number (new_code_of DescIe reg number DescLea f is.code).0 (ends_at DescLea f)
        b.stands.own written.0 written.1)
    of_written DescCall Keep f reg number is written = absurd written
    of_written DescCall GdLe f reg number is written = absurd written
    of_written DescCall GdIe f reg number is written = absurd written
    of_written DescCall LdLe f reg number is written = absurd written
    of_written DescCall IeLe f reg number is written = absurd written
    of_written DescCall DescLe f reg number is written =
        early_goes DescCall is.early
        (desc_nop tied low high call b (new_code_of DescLe reg number DescCall f is.code).0 (ends_at DescCall f)
        b.stands.own written)
    of_written DescCall DescIe f reg number is written =
        early_goes DescCall is.early
        (desc_nop tied low high call b (new_code_of DescIe reg number DescCall f is.code).0 (ends_at DescCall f)
        b.stands.own written)

  -- ** the law

  pub sequence_advances : (h : Meant) (h' : Runs) → InCall g m q history thread h h' → (s : Sequence)
      → sequence_at m thread h.after.memory.seen h.after.state.place ≡ Some s
      → AdvancesTo g m q history thread h h' (sequence_next m thread h.after s)
  unfolding sequence_result
  sequence_advances h h' call s e =
      subst (λ (o : Option Instance). AnswersTo g m q history thread h h' s
      (sequence_result (meant_stack m thread) s thread
      (option_map_or (block_start thread) o 0) h.after.state h.after.memory))
      (sym b.meant_target) (of_either b.stands.stands)
    where
      b : Begins g m q h h' s
      b = begins_at tied call e

      of_either : KeptAs g q b.x h'.after.state.place s s.form
          ⊎ ((choice : Choice) × ((reg : ℕ)
          × ((number : ℕ) × (IsWritten g q b.x h'.after.state.place s choice reg number
          × WrittenAs g q b.x h'.after.state.place s s.form choice reg number)))) → answer_goal call b e s.form
      of_either (inl kept) =
          of_kept call b e s.form refl
          (kept_from_start g q b.x b.y h'.after.state.place s b.stands.own
          (λ own. ap g.known (b.stands.own ∙ sym own) ∙ b.known_target) s.form b.stands.base kept)
          kept
      of_either (inr written) =
          of_written call b e s.form written.0 refl written.1.0 written.1.1.0 written.1.1.1.0 written.1.1.1.1

pub advance : SequencesAdvance
advance g m q history thread tied low high h h' call s e = sequence_advances tied low high h h' call s e
