-- A line's first look prints what the rule says.
use Rattle.std.proofs.Common.{◌≡◌, ◌∙◌, ◌+◌, ◌<◌, ◌≤◌, ℕ, Bool, true, false, List, [], ◌∷◌, length, Option, Some, None}
use Rattle.std.proofs.Common.{refl, sym, ap, subst, inl, inr, arith}
use Rattle.std.specs.Prelude.{nat_le, slice_range, unwrap_or, if◌then◌else◌}
use Rattle.std.proofs.lemmas.Bool.{cases_Bool, lt-ltb, leb-true, leb-false}
use Rattle.std.proofs.lemmas.List.{get_or-set_same}
use Rattle.guest_arithmetic.specs.Plain.{plain_operations}
use Rattle.guest_arithmetic.specs.Values.{Operations}
use Rattle.job_meaning.specs.declared.values.Byte.{Byte}
use Rattle.job_meaning.specs.Marked.{values_of}
use Rattle.job_text.specs.declared.thread_lines.Action.{Action}
use Rattle.job_text.specs.declared.thread_lines.Action.TheVariants.{Open, Close}
use Rattle.loaded_modules.specs.declared.instance.Instance.{Instance}
use Rattle.module_table.specs.declared.events.CloseRefusal.{CloseRefusal}
use Rattle.module_table.specs.declared.events.CloseRefusal.TheVariants.{Permanent, NotOpen}
use Rattle.module_table.specs.declared.events.CloseRefusal.TheVariants.{OutOfMemory as NoRoomToClose}
use Rattle.module_table.specs.declared.events.Event.{Event}
use Rattle.module_table.specs.declared.events.OpenRefusal.{OpenRefusal}
use Rattle.module_table.specs.declared.events.OpenRefusal.TheVariants.{Unknown, Full, StaticFull}
use Rattle.module_table.specs.declared.events.OpenRefusal.TheVariants.{OutOfMemory as NoRoomToOpen}
use Rattle.module_table.specs.History.{close_answer, closed_of, left, open_answer, opened_of, unless}
use Rattle.module_table.specs.Past.{IsLegal}
use Rattle.module_table.specs.Modules.{is_loaded, no_module}
use Rattle.module_table.specs.Past.{Past, after_one, close_refusal, loaded, module_of, new_instance, open_refusal}
use Rattle.module_table.specs.Past.{opened, retained}
use Rattle.module_table.specs.Walks.{past-append}
use Rattle.module_table.proofs.Along.{past_legal}
use Rattle.module_table.proofs.Steps.{late_within}
use Rattle.transcript_text.specs.declared.outcomes.LineRefusal.{LineRefusal}
use Rattle.transcript_text.specs.declared.outcomes.LineRefusal.TheVariants as refused
use Rattle.transcript_text.specs.declared.outcomes.Outcome.TheVariants.{Opened, Closed, Refused, Bytes}
use Rattle.thread_blocks.specs.Held.{Held, block_bytes, looked, owned_by, reached}
use Rattle.thread_blocks.specs.Instances.{Loads, instance_at, left_by, loaded_instance}
use Rattle.thread_blocks.specs.Lines.{Line, begin_line, begun_at, begun_by, begun_close, begun_in, begun_open}
use Rattle.thread_blocks.specs.Lines.{begun_peek, event_by, shown_from, unless_refused}
use Rattle.thread_blocks.specs.RunTime.{shows, thread_turns}
use Rattle.thread_blocks.specs.Turns.{Answered, Begun, Calls, Ending, Says, with_last}
use Rattle.whole_meaning.specs.Meanings.{Meaning}
use Rattle.whole_meaning.specs.Threads.{begin_meant, meant_show, meant_turns, ops, shown_as}
use Rattle.line_laws.specs.Histories.{IsGone, IsLive}
use Rattle.line_laws.specs.Printed.{FirstLooksAreRuled, IsBlock, IsCall, IsFirstLook, IsFound, IsPeek, PrintsClose}
use Rattle.line_laws.specs.Printed.{PrintsOpen, Refuses, registry}
use Rattle.line_laws.proofs.Accounts.{limit_is}
use Rattle.line_laws.proofs.Blocks.{block_is}
use Rattle.line_laws.proofs.Histories.{close_ruled, gone_of, live_of, of_late, open_ruled}
use Rattle.std.specs.Option.{option_map_or}

-- ** what is printed tells which refusal it was

another : {S : Type 0} {begun : Begun S} (a b : LineRefusal) (s : S) → begun ≡ Says (Answered (Refused a)) s
    → Refuses begun b → a ≡ b
another a b s is other = let same = sym is ∙ other.1 in cc

not_begun : {S : Type 0} {begun : Begun S} (ending : Ending) (s t : S) → begun ≡ Says ending s → begun ≡ Calls t → ⊥
not_begun ending s t is other = let same = sym is ∙ other in cc

-- an ending that is no refusal
IsShown : Ending → Type 0
IsShown ending = (refusal : LineRefusal) → ending ≡ Answered (Refused refusal) → ⊥

shown_only : {S : Type 0} {begun : Begun S} (ending : Ending) (s : S) (refusal : LineRefusal) → IsShown ending
    → begun ≡ Says ending s → Refuses begun refusal → ⊥
unfolding IsShown
shown_only ending s refusal shown is other = let same = sym is ∙ other.1 in shown refusal cc

some_is : {X : Type 0} {o : Option X} {x y : X} → o ≡ Some x → o ≡ Some y → x ≡ y
some_is a b = let same = sym a ∙ b in cc

none_some : {X : Type 0} {o : Option X} {x : X} → o ≡ None → o ≡ Some x → ⊥
none_some a b = let same = sym a ∙ b in cc

-- ** who is current

module _ {B : Type 0} (l : Loads B) (seen : List Event) (legal : IsLegal l.infos l.last_offset seen) (image : ℕ) where
  none_gone : instance_at l seen image ≡ None → IsGone l.infos seen image
  unfolding instance_at
  none_gone e = gone_of l.infos l.last_offset seen legal image
      (elim (cases_Bool (is_loaded (module_of (left_by l seen) image))) [
        | inl held ↦ absurd (let some = rw held at e in cc)
        | inr gone ↦ gone
      ])

  some_live : (x : Instance) → instance_at l seen image ≡ Some x → IsLive l.infos seen image
  unfolding instance_at
  some_live x e = live_of l.infos l.last_offset seen legal image
      (elim (cases_Bool (is_loaded (module_of (left_by l seen) image))) [
        | inl held ↦ held
        | inr gone ↦ absurd (let none = rw gone at e in cc)
      ])

  -- ** the number of an image that was opened

  is_late : open_refusal (left_by l seen) image ≡ None → (module_of (left_by l seen) image).info.late ≡ true
  is_late none = of_late l.infos l.last_offset seen legal image
      (((open_ruled l.infos l.last_offset seen legal (limit_is l.infos l.last_offset seen) image None).0 none).0)

  now_held : open_refusal (left_by l seen) image ≡ None
      → is_loaded (module_of (opened (left_by l seen) image) image) ≡ true
  unfolding opened retained loaded
  now_held none =
      let p : Past = left_by l seen in
      let within = (late_within p image (past_legal l.infos l.last_offset seen legal) (is_late none)).0 in
      elim (cases_Bool (is_loaded (module_of p image))) [
        | inl held ↦ rw (
          held,
          get_or-set_same p.modules image
              (record (module_of p image) { uses = (module_of p image).uses + 1 }) no_module within,
        )
            (lt-ltb 0 ((module_of p image).uses + 1) (omega arith))
        | inr gone ↦ rw (
          gone,
          get_or-set_same p.modules image
              (new_instance p (module_of p image)) no_module within,
        ) refl
      ]

  no_memory_to_open : open_refusal (left_by l seen) image ≡ Some NoRoomToOpen → ⊥
  no_memory_to_open e = (open_ruled l.infos l.last_offset seen legal (limit_is l.infos l.last_offset seen) image
      (Some NoRoomToOpen)).0 e

  no_memory_to_close : close_refusal (left_by l seen) image ≡ Some NoRoomToClose → ⊥
  no_memory_to_close e = (close_ruled l.infos l.last_offset seen legal image (Some NoRoomToClose)).0 e

module _ {W F B : Type 0} (values : Operations W F B) (l : Loads B) (show : List B → Ending)
    (shown : (bytes : List B) → IsShown (show bytes))
    (thread : ℕ) (line : Line) (seen : List Event) (legal : IsLegal l.infos l.last_offset seen) (held : Held W F B)
  where
    abbrev now : Held W F B
    now = looked l thread seen held

    abbrev opening : Event
    opening = record { thread = thread; line = line.number; opens = true; image = line.told.image }

    abbrev closing : Event
    closing = record { thread = thread; line = line.number; opens = false; image = line.told.image }

    -- ** opens

    event_open : line.told.action ≡ Open
        → event_by l thread line seen ≡ unless_refused (open_refusal (left_by l seen) line.told.image) opening
    event_open action = rw action refl

    event_close : line.told.action ≡ Close
        → event_by l thread line seen ≡ unless_refused (close_refusal (left_by l seen) line.told.image) closing
    event_close action = rw action refl

    open_answer_is : (spare : ℕ) → open_answer (registry l seen spare) line.told.image
        ≡ unless (open_refusal (left_by l seen) line.told.image) (opened_of (registry l seen spare) line.told.image)
    unfolding open_answer left
    open_answer_is spare = refl

    close_answer_is : (spare : ℕ) → close_answer (registry l seen spare) line.told.image
        ≡ unless (close_refusal (left_by l seen) line.told.image) (closed_of (registry l seen spare) line.told.image)
    unfolding close_answer left
    close_answer_is spare = refl

    left_opened : left_by l (with_last seen opening) ≡ opened (left_by l seen) line.told.image
    unfolding after_one
    left_opened = past-append l.infos l.last_offset seen (opening ∷ [])

    number_is : (spare : ℕ) → open_refusal (left_by l seen) line.told.image ≡ None
        → option_map_or (λ (x : Instance). x.number) (instance_at l (with_last seen opening) line.told.image) 0
        ≡ (opened_of (registry l seen spare) line.told.image).instance
    unfolding instance_at opened_of left
    number_is spare none =
        ap (λ (p : Past). option_map_or (λ (x : Instance). x.number)
        (loaded_instance l.infos line.told.image (module_of p line.told.image)) 0) left_opened
        ∙ (rw (now_held l seen legal line.told.image none) refl)

    opened_so : (spare : ℕ) → line.told.action ≡ Open → (o : Option OpenRefusal)
        → open_refusal (left_by l seen) line.told.image ≡ o
        → PrintsOpen l line seen (begun_open values l show thread line seen now o) thread spare
    opened_so spare action (Some Unknown) e = record {
      outcome = Refused refused.Unknown;
      printed = (now, refl);
      answer = rw (open_answer_is spare, e) refl;
      added = rw (open_answer_is spare, event_open action, e) refl;
    }
    opened_so spare action (Some Full) e = record {
      outcome = Refused refused.Full;
      printed = (now, refl);
      answer = rw (open_answer_is spare, e) refl;
      added = rw (open_answer_is spare, event_open action, e) refl;
    }
    opened_so spare action (Some StaticFull) e = record {
      outcome = Refused refused.StaticFull;
      printed = (now, refl);
      answer = rw (open_answer_is spare, e) refl;
      added = rw (open_answer_is spare, event_open action, e) refl;
    }
    opened_so spare action (Some NoRoomToOpen) e = absurd (no_memory_to_open l seen legal line.told.image e)
    opened_so spare action None e = record {
      outcome = Opened (option_map_or (λ (x : Instance). x.number)
          (instance_at l (with_last seen opening) line.told.image) 0);
      printed = (_, refl);
      answer = rw (open_answer_is spare, e) (ap (λ (n : ℕ). Opened n) (number_is spare e));
      added = rw (open_answer_is spare, event_open action, e) refl;
    }

    -- ** closes

    closed_so : (spare : ℕ) → line.told.action ≡ Close → (o : Option CloseRefusal)
        → close_refusal (left_by l seen) line.told.image ≡ o
        → PrintsClose l line seen (begun_close values l show thread line seen now o) thread spare
    closed_so spare action (Some Permanent) e = record {
      outcome = Refused refused.Permanent;
      printed = (now, refl);
      answer = rw (close_answer_is spare, e) refl;
      added = rw (close_answer_is spare, event_close action, e) refl;
    }
    closed_so spare action (Some NotOpen) e = record {
      outcome = Refused refused.NotOpen;
      printed = (now, refl);
      answer = rw (close_answer_is spare, e) refl;
      added = rw (close_answer_is spare, event_close action, e) refl;
    }
    closed_so spare action (Some NoRoomToClose) e = absurd (no_memory_to_close l seen legal line.told.image e)
    closed_so spare action None e = record {
      outcome = Closed;
      printed = (_, refl);
      answer = rw (close_answer_is spare, e) refl;
      added = rw (close_answer_is spare, event_close action, e) refl;
    }

    -- ** calls

    call_at : (symbol : List ℕ) (a b c : ℕ) (x : Instance) → instance_at l seen line.told.image ≡ Some x
        → (place : Option ℕ) → l.function x symbol ≡ place
        → IsCall l line seen (begun_at values l show thread symbol a b c now place) symbol
    call_at symbol a b c x e None f = record {
      not_open = (
        λ r. absurd (let same = another refused.Symbol refused.NotOpen now refl r in cc),
        λ gone. absurd (gone (some_live l seen legal line.told.image x e)),
      );
      no_symbol = (λ r. (x, (e, f)), λ s. (now, refl));
      begins = (
        λ r. absurd (not_begun (Answered (Refused refused.Symbol)) now r.0 refl r.1),
        λ s. absurd (none_some f
            (subst (λ (y : Instance). l.function y symbol ≡ Some s.1.0) (some_is s.1.1.0 e) s.1.1.1)),
      );
    }
    call_at symbol a b c x e (Some place) f = record {
      not_open = (
        λ r. absurd (not_begun _ r.0 _ r.1 refl),
        λ gone. absurd (gone (some_live l seen legal line.told.image x e)),
      );
      no_symbol = (
        λ r. absurd (not_begun _ r.0 _ r.1 refl),
        λ s. absurd (none_some (subst (λ (y : Instance). l.function y symbol ≡ None) (some_is s.1.0 e) s.1.1) f),
      );
      begins = (λ r. (x, (place, (e, f))), λ s. (_, refl));
    }

    call_so : (symbol : List ℕ) (a b c : ℕ) (o : Option Instance) → instance_at l seen line.told.image ≡ o
        → IsCall l line seen (begun_in values l show thread symbol a b c now o) symbol
    call_so symbol a b c None e = record {
      not_open = (λ r. none_gone l seen legal line.told.image e, λ gone. (now, refl));
      no_symbol = (
        λ r. absurd (let same = another refused.NotOpen refused.Symbol now refl r in cc),
        λ s. absurd (none_some e s.1.0),
      );
      begins = (
        λ r. absurd (not_begun (Answered (Refused refused.NotOpen)) now r.0 refl r.1),
        λ s. absurd (none_some e s.1.1.0),
      );
    }
    call_so symbol a b c (Some x) e = call_at symbol a b c x e (l.function x symbol) refl

    -- ** peeks

    block_held : (x : Instance) (bytes : List B) → IsBlock l line seen held x bytes
        → unwrap_or (block_bytes x.number (owned_by held)) (l.block x) ≡ bytes
    block_held x bytes (inl has) = rw has refl
    block_held x bytes (inr fresh) = rw fresh.0 (sym fresh.1)

    held_block : (x : Instance) (o : Option (List B)) → block_bytes x.number (owned_by held) ≡ o
        → IsBlock l line seen held x (unwrap_or o (l.block x))
    held_block x None e = inr (e, refl)
    held_block x (Some bytes) e = inl e

    peek_in : (symbol : List ℕ) (size : ℕ) (h : Held W F B) (x : Instance) → instance_at l seen line.told.image ≡ Some x
        → (offset : ℕ) → l.variable line.told.image symbol ≡ Some offset
        → (bytes : List B) → IsBlock l line seen held x bytes → (fits : Bool)
        → nat_le (offset + size) (length bytes) ≡ fits
        → IsPeek l line seen (if fits then Says (show (slice_range bytes offset (offset + size))) h
        else Says (Answered (Refused refused.Length)) h)
        show held symbol size
    peek_in symbol size h x e offset v bytes block true fits = record {
      not_open = (
        λ r. absurd (shown_only _ h refused.NotOpen (shown _) refl r),
        λ gone. absurd (gone (some_live l seen legal line.told.image x e)),
      );
      no_symbol = (λ r. absurd (shown_only _ h refused.Symbol (shown _) refl r), λ s. absurd (none_some s.1 v));
      too_long = (
        λ r. absurd (shown_only _ h refused.Length (shown _) refl r),
        λ s. absurd (long s.0 s.1.0 s.1.1.0 s.1.1.1.0 s.1.1.1.1),
      );
      shown = λ y o b is low.
          let same_offset : o ≡ offset = some_is is.found v in
          let same_bytes : b ≡ bytes = one y b is in
          (h, rw (same_offset, same_bytes) refl);
    }
      where
        one : (y : Instance) (b : List B) {o : ℕ} → IsFound l line seen held symbol y o b → b ≡ bytes
        one y b is =
            let same : x ≡ y = some_is e is.current in
            let mine : IsBlock l line seen held y bytes =
            subst (λ (z : Instance). IsBlock l line seen held z bytes) same block in
            sym (block_held y b is.block) ∙ block_held y bytes mine

        long : (y : Instance) (o : ℕ) (b : List B) → IsFound l line seen held symbol y o b → length b < o + size → ⊥
        long y o b is more =
            let same_offset : o ≡ offset = some_is is.found v in
            let same_length : length b ≡ length bytes = ap (λ (bs : List B). length bs) (one y b is) in
            let low = leb-true (offset + size) (length bytes) fits in
            absurd (omega (arith, more, same_offset, same_length, low))
    peek_in symbol size h x e offset v bytes block false fits = record {
      not_open = (
        λ r. absurd (let same = another refused.Length refused.NotOpen h refl r in cc),
        λ gone. absurd (gone (some_live l seen legal line.told.image x e)),
      );
      no_symbol = (
        λ r. absurd (let same = another refused.Length refused.Symbol h refl r in cc),
        λ s. absurd (none_some s.1 v),
      );
      too_long = (
        λ r. (
          x,
          (
            offset,
            (
              bytes,
              (
                record { current = e; found = v; block = block },
                leb-false (offset + size) (length bytes) fits,
              ),
            ),
          ),
        ),
        λ s. (h, refl),
      );
      shown = λ y o b is low. absurd (long y o b is low);
    }
      where
        long : (y : Instance) (o : ℕ) (b : List B) → IsFound l line seen held symbol y o b → o + size ≤ length b → ⊥
        long y o b is low =
            let same_offset : o ≡ offset = some_is is.found v in
            let same : x ≡ y = some_is e is.current in
            let mine : IsBlock l line seen held y bytes =
            subst (λ (z : Instance). IsBlock l line seen held z bytes) same block in
            let same_bytes : b ≡ bytes = sym (block_held y b is.block) ∙ block_held y bytes mine in
            let same_length : length b ≡ length bytes = ap (λ (bs : List B). length bs) same_bytes in
            let more = leb-false (offset + size) (length bytes) fits in
            absurd (omega (arith, more, same_offset, same_length, low))

    peek_from : (symbol : List ℕ) (size : ℕ) (x : Instance) → instance_at l seen line.told.image ≡ Some x
        → (o : Option ℕ) → l.variable line.told.image symbol ≡ o
        → IsPeek l line seen (shown_from values l show thread (reached l thread x now) size x o) show held symbol size
    peek_from symbol size x e None v = record {
      not_open = (
        λ r. absurd (let same = another refused.Symbol refused.NotOpen (reached l thread x now) refl r in cc),
        λ gone. absurd (gone (some_live l seen legal line.told.image x e)),
      );
      no_symbol = (λ r. (some_live l seen legal line.told.image x e, v), λ s. (_, refl));
      too_long = (
        λ r. absurd (let same = another refused.Symbol refused.Length (reached l thread x now) refl r in cc),
        λ s. absurd (none_some v s.1.1.1.0.found),
      );
      shown = λ y o b is low. absurd (none_some v is.found);
    }
    peek_from symbol size x e (Some offset) v =
        let bytes : List B = unwrap_or (block_bytes x.number (owned_by held)) (l.block x) in
        let block = held_block x (block_bytes x.number (owned_by held)) refl in
        rw (block_is l thread seen legal held line.told.image x e)
        (peek_in symbol size (reached l thread x now) x e offset v bytes block
        (nat_le (offset + size) (length bytes)) refl)

    peek_so : (symbol : List ℕ) (size : ℕ) (o : Option Instance) → instance_at l seen line.told.image ≡ o
        → IsPeek l line seen (begun_peek values l show thread line symbol size now o) show held symbol size
    peek_so symbol size None e = record {
      not_open = (λ r. none_gone l seen legal line.told.image e, λ gone. (now, refl));
      no_symbol = (
        λ r. absurd (let same = another refused.NotOpen refused.Symbol now refl r in cc),
        λ s. absurd (none_gone l seen legal line.told.image e s.0),
      );
      too_long = (
        λ r. absurd (let same = another refused.NotOpen refused.Length now refl r in cc),
        λ s. absurd (none_some e s.1.1.1.0.current),
      );
      shown = λ y o b is low. absurd (none_some e is.current);
    }
    peek_so symbol size (Some x) e = peek_from symbol size x e (l.variable line.told.image symbol) refl

    -- ** a first look

    first_look : IsFirstLook l line seen (begun_by values l show thread line seen now line.told.action) thread show held
    first_look = record {
      opens = λ action spare. subst
          (λ (a : Action). PrintsOpen l line seen (begun_by values l show thread line seen now a) thread spare)
          (sym action) (opened_so spare action _ refl);
      closes = λ action spare. subst
          (λ (a : Action). PrintsClose l line seen (begun_by values l show thread line seen now a) thread spare)
          (sym action) (closed_so spare action _ refl);
      calls = λ symbol a b c action. subst
          (λ (a : Action). IsCall l line seen (begun_by values l show thread line seen now a) symbol)
          (sym action) (call_so symbol a b c _ refl);
      peeks = λ symbol size action. subst
          (λ (a : Action). IsPeek l line seen (begun_by values l show thread line seen now a) show held symbol size)
          (sym action) (peek_so symbol size _ refl);
    }

-- ** the law

bytes_shown : (bytes : List ℕ) → IsShown (Answered (Bytes bytes))
unfolding IsShown
bytes_shown bytes refusal e = cc

meant_shown : (m : Meaning) (thread address : ℕ) (bytes : List Byte) (numbers : Option (List ℕ))
    → IsShown (shown_as m thread address bytes numbers)
unfolding IsShown
meant_shown m thread address bytes None refusal e = cc
meant_shown m thread address bytes (Some numbers) refusal e = cc

pub looks_ruled : FirstLooksAreRuled
unfolding thread_turns meant_turns begin_meant begin_line
looks_ruled l m thread fuel line seen = (
  λ legal held. first_look plain_operations l (shows l thread) bytes_shown thread line seen legal held,
  λ legal held. first_look ops m.loads (meant_show m thread line seen)
      (λ bytes. meant_shown m thread _ bytes (values_of bytes)) thread line seen legal held,
)
