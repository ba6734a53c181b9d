-- The machine's step follows the meaning's, whatever numbers a linker writes into fields, and wherever it puts the
-- words that address fields stand for.
use Rattle.std.proofs.Common.{◌≡◌, ℕ, ◌+◌, ◌-◌, ◌<◌, ◌≤◌, ◌⊎◌, inl, inr, Bool, true, false, List, length, take, drop}
use Rattle.std.proofs.Common.{Option, Some, None, Result, Ok, Err, refl, sym, ap, subst, ◌∙◌, arith}
use Rattle.std.specs.Prelude.{if◌then◌else◌, not, ◌&&◌}
use Rattle.std.specs.List.{list_any, slice_get}
use Rattle.std.proofs.lemmas.Bool.{and_parts}
use Rattle.amd64_subset.specs.declared.instr.Decoded.{Decoded}
use Rattle.amd64_subset.specs.declared.operand.Memory.{Memory}
use Rattle.amd64_subset.specs.Decoding.{decoded}
use Rattle.amd64_subset.specs.Spelling.{field_of}
use Rattle.guest_arithmetic.specs.Values.{Operations}
use Rattle.guest_operands.specs.declared.frame.Frame.{Frame}
use Rattle.guest_operands.specs.declared.state.State.{State}
use Rattle.guest_operands.specs.declared.stop.Stop.{Stop}
use Rattle.guest_operands.specs.declared.stop.Stop.TheVariants.{Code}
use Rattle.guest_operands.specs.Access.{Accesses, code_at, fetch_of, bytes_from, load_of}
use Rattle.guest_operands.specs.Closed.{closed}
use Rattle.guest_operands.specs.Frame.{field_at, frame_of}
use Rattle.guest_operands.specs.Operand.{address_of}
use Rattle.guest_operands.specs.Use.{plus, After}
use Rattle.guest_machine.specs.Follow.{Follows, Alike, IsFollowed, StayRelated, SameState, SameFrame, SameAfter}
use Rattle.guest_machine.specs.Step.{act, act_if, step_of}
use Rattle.guest_machine.specs.Touch.{touched, touches_of}
use Rattle.guest_machine.proofs.FollowMemory.{store-reach}
use Rattle.guest_machine.proofs.FollowRows.{act_follows}
use Rattle.guest_machine.proofs.Touching.{Free, act-open}
use Rattle.job_meaning.specs.Reading.{beside_linker, place_at}
use Rattle.job_meaning.proofs.Fetch.{code-length, code-part}
use Rattle.job_meaning.proofs.Reading.{placed_of, length_of, length-four, field_place, picked, with_numbers}
use Rattle.tied_meaning.specs.Codes.{SameCode}
use Rattle.whole_meaning.specs.declared.marks.Mark.{Mark}
use Rattle.whole_meaning.specs.declared.marks.Mark.TheVariants.{Usual, Offset}
use Rattle.whole_meaning.specs.Fields.{is_from_next, lent, lent_at, lent_frame, marked_frame, number_in, read_in}
use Rattle.whole_meaning.specs.Fields.{starts_offset, without_operand}
use Rattle.whole_meaning.specs.Reading.{acted, done, hindered, hindrance, marked_step, own_touches, plain_step}
use Rattle.whole_meaning.specs.Reading.{reaches_linker}
use Rattle.marked_code.proofs.AddressFields.{AddressIn, NoAddressIn, address_in, next-operand, no-offset, picked-at}
use Rattle.marked_code.proofs.AddressFields.{sums}
use Rattle.marked_code.proofs.Fetched.{SameFetched, code-as_long, code-usual, small-byte}
use Rattle.marked_code.proofs.Fields.{AreFields, field_in, place-behind, starts_field}
use Rattle.marked_code.proofs.Lent.{lent-load, lent-store, lent-address, lent_open, next-address}
use Rattle.marked_code.proofs.NextIndex.{next_has_no_index}
use Rattle.marked_code.proofs.Reading.{each-none, reads, reads_address, reads_none}
use Rattle.marked_code.proofs.Nothing.{nothing_follows}
use Rattle.marked_code.proofs.Numbers.{field-with, number-with}
use Rattle.marked_code.proofs.Rows.{read_follows}

-- ** one step

module _ {W F B W' F' B' : Type 0} (same : Alike W F B W' F' B') (ops : Operations W F B) (ops' : Operations W' F' B')
    (followed : IsFollowed same ops ops')
    {M M' : Type 0} (acc : Accesses M B) (acc' : Accesses M' B') (Same : M → M' → Type 0) (shut : M → ℕ → Bool)
    (kept : StayRelated same (closed shut acc) acc' Same)
    (plain : (n : ℕ) → same.field None None n n) where
  module _ (mark : ℕ → Mark) (s : State W F) (s' : State W' F') (m : M) (m' : M') (h : SameState same s s')
      (k : Same m m')
      (code : SameCode same ops ops' mark (shut m) acc acc' m m') (low : (j : ℕ) → j < 8 → shut m j ≡ false)
      (outside : shut m s.place ≡ false) where
    abbrev Then : After W F M → After W' F' M' → Type 0
    Then = SameAfter same Same

    module _ (first : ℕ) (there : acc.code m s.place ≡ Some first) where
      abbrev read : List ℕ
      read = code_at acc m s.place 15

      abbrev read' : List ℕ
      read' = code_at acc' m' s.place 15

      near : SameFetched mark acc acc' m m' s.place 15
      near j below = code.byte s.place j first outside there below

      equal : length read ≡ length read'
      equal = code-as_long mark acc acc' m m' 15 s.place near

      usual : (j : ℕ) → j < length read → mark (place_at s.place j) ≡ Usual → slice_get read j ≡ slice_get read' j
      usual j below e = code-usual mark acc acc' m m' 15 s.place near j below e

      fields : AreFields mark s.place
      fields = record {
        small = λ j below. small-byte (mark (place_at s.place j)) _ _ (code.byte s.place j first outside there below);
        offset = λ j number byte within e below. code.offset_begins s.place j number byte first there within e below;
        address = λ j number byte addend within e below. code.address_begins s.place j number byte first addend there
            within e below;
      }

      -- the four bytes of a field that was read
      part : (at : ℕ) → 0 < at → at + 4 ≤ length read
          → (take 4 (drop at read') ≡ code_at acc' m' (plus s.place at) 4)
          × (length (code_at acc' m' (plus s.place at) 4) ≡ 4)
      part at some within =
          let there : at + 4 ≤ length read' = omega (arith, equal, within) in
          let four : take 4 (drop at read') ≡ code_at acc' m' (plus s.place at) 4 =
          code-part acc' m' at 15 s.place there ∙ ap (λ p. code_at acc' m' p 4) (place-behind at s.place some) in
          (four, ap length (sym four) ∙ length-four at read' there)

      offset-same : (at : ℕ) → 0 < at → at + 4 ≤ length read → (number : ℕ) → mark (plus s.place at) ≡ Offset number 0
          → same.field (Some (plus s.place at)) None number (field_of (take 4 (drop at read')))
      offset-same at some within number e =
          let p = part at some within in
          rw p.0 (code.offset (plus s.place at) number e p.1)

      abbrev refilled : Decoded → Decoded
      refilled d = with_numbers (picked (field_in mark s.place starts_field d.disp) read' d.instr.displacement)
          (picked (field_in mark s.place starts_offset d.imm) read' d.instr.immediate) d

      within_read : (d : Decoded) (o : Option ℕ) (at : ℕ) → decoded read ≡ Some d → (0 < at) × (at + 4 ≤ d.len)
          → (0 < at) × (at + 4 ≤ length read)
      within_read d o at e f = let long : d.len ≤ length read = length_of read d e in (f.0, omega (arith, f.1))

      displacement-same : (d : Decoded) → decoded read ≡ Some d → (o : Option ℕ) → d.disp ≡ o
          → NoAddressIn mark s.place o
          → same.field (field_at (λ place. starts_offset (mark place)) s.place o) None
          (number_in mark s.place o d.instr.displacement)
          (picked (field_in mark s.place starts_field o) read' d.instr.displacement)
      displacement-same d e None is lacks = plain d.instr.displacement
      displacement-same d e (Some at) is lacks =
          let f = within_read d d.disp at e (field_place d.len d.disp at (placed_of read d e).disp is) in
          field-with same plain (mark (plus s.place at)) (plus s.place at) at d.instr.displacement read'
          (offset-same at f.0 f.1) (λ number addend g. (lacks.never) at number addend refl g)

      immediate-same : (d : Decoded) → decoded read ≡ Some d → (o : Option ℕ) → d.imm ≡ o
          → same.field (field_at (λ place. starts_offset (mark place)) s.place o) None
          (number_in mark s.place o d.instr.immediate)
          (picked (field_in mark s.place starts_offset o) read' d.instr.immediate)
      immediate-same d e None is = plain d.instr.immediate
      immediate-same d e (Some at) is =
          let f = within_read d d.imm at e (field_place d.len d.imm at (placed_of read d e).imm is) in
          number-with same plain (mark (plus s.place at)) (plus s.place at) at d.instr.immediate read'
          (offset-same at f.0 f.1)

      no-field : (here : ℕ) (o : Option ℕ) → field_at (λ place. false) here o ≡ None
      no-field here None = refl
      no-field here (Some at) = refl

      -- ** frames

      frames-same : (d : Decoded) → decoded read ≡ Some d → NoAddressIn mark s.place d.disp
          → SameFrame same (marked_frame mark s.place d) (frame_of (λ place. false) s'.place (refilled d))
      unfolding marked_frame frame_of
      frames-same d e lacks = record {
        next = ap (λ p. plus p d.len) h.place;
        displacement = rw (no-field s'.place d.disp) (displacement-same d e d.disp refl lacks);
        immediate = rw (no-field s'.place d.imm) (immediate-same d e d.imm refl);
      }

      read-elsewhere : (o : Option Decoded) → decoded read' ≡ o → decoded (code_at acc' m' s'.place 15) ≡ o
      read-elsewhere o e = ap (λ p. decoded (code_at acc' m' p 15)) (sym h.place) ∙ e

      module _ (free : hindrance ops mark s read ≡ None) where
        each-free : (j : ℕ) → j ≤ length read → hindered ops mark s read j ≡ None
        unfolding hindrance
        each-free j below = each-none ops mark s read 0 (length read) j j free (omega arith) below

        few : length read ≤ 15
        few = code-length acc m 15 s.place

        reads-same : (d : Decoded) → decoded read ≡ Some d → decoded read' ≡ Some (refilled d)
        reads-same = reads ops mark s fields read read' few usual equal each-free

        none-same : decoded read ≡ None → decoded read' ≡ None
        none-same = reads_none ops mark s fields read read' few usual equal each-free

        abbrev Goal : Decoded → Type 0
        Goal d = Follows Then (acted ops acc mark (marked_frame mark s.place d) d s m)
            (act ops' acc' (frame_of (λ place. false) s'.place (refilled d)) d.instr.operation s' m')

        -- no address field
        usual-acts : (d : Decoded) → decoded read ≡ Some d → NoAddressIn mark s.place d.disp
            → Free acc shut m (own_touches ops mark s (Some d)) → Goal d
        usual-acts d e lacks untouched =
            rw (lacks.none)
            (subst (λ (r : Result (After W F M) Stop). Follows Then r
            (act ops' acc' (frame_of (λ place. false) s'.place (refilled d)) d.instr.operation s' m'))
            (act-open ops acc shut m (marked_frame mark s.place d) s d.instr.operation
            (subst (λ (o : Option ℕ). Free acc shut m
            (without_operand o (touches_of ops (marked_frame mark s.place d) s d.instr.operation))) lacks.none
            untouched))
            (act_follows same ops ops' followed (closed shut acc) acc' Same kept (marked_frame mark s.place d)
            (frame_of (λ place. false) s'.place (refilled d)) (frames-same d e lacks)
            d.instr.operation s s' m m' h k))

        -- an address field

        lent-acts : (d : Decoded) → decoded read ≡ Some d → (a : AddressIn mark s.place d.disp)
            → Free acc shut m (own_touches ops mark s (Some d))
            → (memory : Memory) → read_in d.instr.operation ≡ Some memory
            → (is_from_next memory.base && not memory.from_thread_pointer) ≡ true → memory.index ≡ None
            → (word : W') → load_of ops' acc' m'
            (plus (plus (plus s.place a.at) (d.len - a.at)) (field_of (code_at acc' m' (plus s.place a.at) 4))) 8
            ≡ Ok word
            → same.word (ops.joined (bytes_from ops (ops.word a.number) 0 8)) word → Goal d
        unfolding marked_frame frame_of
        lent-acts d e a untouched memory is_read from index word loads alike_word =
            let mine : Frame = marked_frame mark s.place d in
            let theirs : Frame = frame_of (λ place. false) s'.place (refilled d) in
            let f = within_read d d.disp a.at e (field_place d.len d.disp a.at (placed_of read d e).disp a.is) in
            let g = field_place d.len d.disp a.at (placed_of read d e).disp a.is in
            let four = part a.at f.0 f.1 in
            let at0 : address_of ops (lent_frame (Some a.number) mine) s memory ≡ Ok 0 =
            lent-address ops mine s memory a.number (no-offset mark s.place d.disp a.at a.number a.addend a.is a.marked)
            (omega arith) from index in
            let distance : picked (field_in mark s.place starts_field d.disp) read' d.instr.displacement ≡ field_of
            (code_at acc' m' (plus s.place a.at) 4) =
            picked-at mark s.place d.disp a.at a.number d.instr.displacement a.addend read' a.is a.marked
            ∙ ap field_of four.0 in
            let a' : ℕ = plus (plus (plus s.place a.at) (d.len - a.at))
            (field_of (code_at acc' m' (plus s.place a.at) 4)) in
            let at' : address_of ops' theirs s' memory ≡ Ok a' =
            next-address ops' theirs s' memory a' (no-field s'.place d.disp) from index
            (sums s.place s'.place a.at d.len (field_of (code_at acc' m' (plus s.place a.at) 4))
            (picked (field_in mark s.place starts_field d.disp) read' d.instr.displacement) h.place
            (omega (arith, g.1)) distance) in
            let free_there : Free acc shut m
            (without_operand (Some a.number) (touches_of ops mine s d.instr.operation)) =
            subst (λ (o : Option ℕ). Free acc shut m (without_operand o (touches_of ops mine s d.instr.operation)))
            a.stands untouched in
            let followed_there : Follows Then
            (act ops (closed shut (lent_at ops acc a.number)) (lent_frame (Some a.number) mine) d.instr.operation s m)
            (act ops' acc' theirs d.instr.operation s' m') =
            read_follows same ops ops' followed (closed shut (lent_at ops acc a.number)) acc' Same
            (lent_frame (Some a.number) mine) theirs (ap (λ p. plus p d.len) h.place)
            (rw (no-field s'.place d.imm) (immediate-same d e d.imm refl)) s s' h m m' k
            (λ place w w' x. rw (lent-store ops acc shut m a.number low place 8 w)
            (store-reach same (closed shut acc) acc' Same kept ops ops' followed m m' k place 8
            (inr (inr refl)) w w' x))
            memory 0 a' at0 at' (rw
            (lent-load ops acc shut m a.number low, loads) alike_word) d.instr.operation is_read in
            let open_there : Follows Then
            (act ops (lent_at ops acc a.number) (lent_frame (Some a.number) mine) d.instr.operation s m)
            (act ops' acc' theirs d.instr.operation s' m') =
            subst (λ (r : Result (After W F M) Stop). Follows Then r (act ops' acc' theirs d.instr.operation s' m'))
            (lent_open ops acc shut m a.number low mine s d.instr.operation memory is_read at0 free_there) followed_there in
            subst (λ (o : Option ℕ). Follows Then (act ops (lent ops acc o) (lent_frame o mine) d.instr.operation s m)
            (act ops' acc' theirs d.instr.operation s' m')) (sym a.stands) open_there

        address-acts : (d : Decoded) → decoded read ≡ Some d → AddressIn mark s.place d.disp
            → Free acc shut m (own_touches ops mark s (Some d)) → Goal d
        address-acts d e a untouched =
            let asked = reads_address ops mark s fields read read' few usual equal each-free d a.at a.number a.addend e
            a.is a.marked in
            let operand = next-operand (read_in d.instr.operation) asked.0 in
            let from = operand.1.1 in
            let index : operand.0.index ≡ None =
            next_has_no_index read d a.at operand.0 e a.is operand.1.0
            (and_parts (is_from_next operand.0.base) (not operand.0.from_thread_pointer) from).0 in
            let f = within_read d d.disp a.at e (field_place d.len d.disp a.at (placed_of read d e).disp a.is) in
            let four = part a.at f.0 f.1 in
            let word = code.address (plus s.place a.at) a.number (d.len - a.at) a.addend a.marked asked.1 four.1 in
            lent-acts d e a untouched operand.0 operand.1.0 from index word.0 word.1.0 word.1.1

        acts : (o : Option Decoded) → decoded read ≡ o → Free acc shut m (own_touches ops mark s o)
            → Follows Then (done ops acc mark None o s m)
            (act_if ops' acc' (λ place. false) (decoded (code_at acc' m' s'.place 15)) s' m')
        acts None e untouched = rw (read-elsewhere None (none-same e)) (ap (λ place. Err (Code place)) (sym h.place))
        acts (Some d) e untouched = rw (read-elsewhere _ (reads-same d e)) (by_field (address_in mark s.place d.disp))
          where
            by_field : AddressIn mark s.place d.disp ⊎ NoAddressIn mark s.place d.disp → Goal d
            by_field (inl a) = address-acts d e a untouched
            by_field (inr lacks) = usual-acts d e lacks untouched

      -- what is read
      step_follows : Free acc shut m (own_touches ops mark s (decoded read))
          → Follows Then (plain_step ops acc mark s m) (step_of ops' acc' (λ place. false) s' m')
      unfolding plain_step step_of fetch_of
      step_follows untouched =
          (elim (hindrance ops mark s read) as (λ r. hindrance ops mark s read ≡ r
          → Follows Then (done ops acc mark r (decoded read) s m)
          (act_if ops' acc' (λ place. false) (decoded (code_at acc' m' s'.place 15)) s' m')) [
            | None ↦ λ e. acts e (decoded read) refl untouched
            | Some why ↦ λ e. tt
          ]) refl

  if_parts : (a b : Bool) → (if a then true else b) ≡ false → (a ≡ false) × (b ≡ false)
  if_parts true b e = absurd cc
  if_parts false b e = (refl, e)

  -- the law of one step, over any values and any memories
  pub marked_follows : (mark : ℕ → Mark) (s : State W F) (s' : State W' F') (m : M) (m' : M') → SameState same s s'
      → Same m m'
      → SameCode same ops ops' mark (shut m) acc acc' m m' → ((j : ℕ) → j < 8 → shut m j ≡ false)
      → Follows (SameAfter same Same) (marked_step ops acc mark (shut m) s m) (step_of ops' acc' (λ place. false) s' m')
  unfolding marked_step reaches_linker fetch_of
  marked_follows mark s s' m m' h k code low =
      let reaches = if shut m s.place then true else list_any (shut m)
      (touched acc m (own_touches ops mark s (decoded (code_at acc m s.place 15)))) in
      (elim reaches as (λ b. reaches ≡ b
      → Follows (SameAfter same Same) (beside_linker b s.place (plain_step ops acc mark s m))
      (step_of ops' acc' (λ place. false) s' m')) [
        | true ↦ λ e. tt
        | false ↦ λ e. let parts = if_parts (shut m s.place)
            (list_any (shut m) (touched acc m (own_touches ops mark s (decoded (code_at acc m s.place 15))))) e in
            by_first mark s s' m m' h k code low parts.0 parts.1 (acc.code m s.place) refl
      ]) refl
    where
      by_first : (mark : ℕ → Mark) (s : State W F) (s' : State W' F') (m : M) (m' : M') → SameState same s s'
          → Same m m'
          → SameCode same ops ops' mark (shut m) acc acc' m m' → ((j : ℕ) → j < 8 → shut m j ≡ false)
          → shut m s.place ≡ false
          → Free acc shut m (own_touches ops mark s (decoded (code_at acc m s.place 15)))
          → (o : Option ℕ) → acc.code m s.place ≡ o
          → Follows (SameAfter same Same) (plain_step ops acc mark s m) (step_of ops' acc' (λ place. false) s' m')
      by_first mark s s' m m' h k code low outside untouched None e =
          nothing_follows same ops ops' acc acc' Same shut mark s s' m m' h code outside e
      by_first mark s s' m m' h k code low outside untouched (Some a) e =
          step_follows mark s s' m m' h k code low outside a e untouched
