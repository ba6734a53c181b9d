-- A peek shows the map's bytes.
use Rattle.std.proofs.Common.{◌≡◌, ◌∙◌, ◌+◌, ◌-◌, ◌<◌, ◌≤◌, ℕ, zero, suc, Bool, true, false, List, [], ◌∷◌, length, map}
use Rattle.std.proofs.Common.{take, drop, Option, Some, None, refl, sym, ap, subst, arith}
use Rattle.std.specs.Prelude.{◌||◌, slice_get, slice_range, unwrap_or}
use Rattle.std.specs.List.{range_with_len}
use Rattle.std.specs.Option.{option_or}
use Rattle.std.proofs.lemmas.Bool.{eq-eqb, le-leb}
use Rattle.guest_arithmetic.specs.Values.{Operations}
use Rattle.guest_machine.specs.Ranges.{Range}
use Rattle.job_text.specs.declared.thread_lines.Action.TheVariants.{Peek}
use Rattle.loaded_modules.specs.declared.instance.Instance.{Instance}
use Rattle.module_table.specs.declared.events.Event.{Event}
use Rattle.thread_blocks.specs.Held.{Held, Owned, block_bytes, looked, owned_by, reached}
use Rattle.thread_blocks.specs.Instances.{Loads, instance_at, instances}
use Rattle.thread_blocks.specs.Lines.{Line, begin_line, begun_peek, shown_from, shown_in}
use Rattle.thread_blocks.specs.Turns.{Begun, Ending, Says, Thread, Turns, after_look, turn}
use Rattle.thread_blocks.specs.JobWorlds.{held_in}
use Rattle.thread_blocks.specs.Turns.{IsFront}
use Rattle.tls_map_laws.specs.Always.{PeeksShow}
use Rattle.tls_map_laws.specs.Map.{Act, byte_of, bytes_of, has_storage, last_written}
use Rattle.tls_map_laws.specs.Told.{begin_acts, with_asked, with_look}
use Rattle.tls_map_laws.proofs.Bytes.{bytes_after, bytes_are, bytes_long}
use Rattle.tls_map_laws.proofs.Places.{Member}
use Rattle.tls_map_laws.proofs.Known.{Around, Known}
use Rattle.tls_map_laws.proofs.Looks.{found_yes}
use Rattle.tls_map_laws.proofs.Keeping.{each_of, held_is}
use Rattle.tls_map_laws.proofs.Begins.{FitsBy, looked_fits, reached_fits}

-- ** a part of a list, of which each element is known

module _ {X : Type 0} where
  taken : (xs : List X) (n a : ℕ) (f : ℕ → X) → n ≤ length xs
      → ((k : ℕ) → k < length xs → slice_get xs k ≡ Some (f (a + k))) → take n xs ≡ map f (range_with_len a n)
  taken xs zero a f low each = refl
  taken [] (suc n) a f low each = absurd (omega (arith, low))
  taken (x ∷ xs) (suc n) a f low each =
      let first : Some x ≡ Some (f (a + 0)) = each 0 (omega arith) in
      let zero_more : a + 0 ≡ a = omega arith in
      let here : x ≡ f a = (let e = first ∙ ap (λ (i : ℕ). Some (f i)) zero_more in cc) in
      ap (λ (y : X). y ∷ take n xs) here
      ∙ ap (λ (ys : List X). f a ∷ ys)
      (taken xs n (a + 1) f (omega (arith, low)) (λ k less.
      let next : a + suc k ≡ a + 1 + k = omega arith in
      each (suc k) (omega (arith, less)) ∙ ap (λ (i : ℕ). Some (f i)) next))

  dropped : (xs : List X) (a n : ℕ) (f : ℕ → X) (b : ℕ) → a + n ≤ length xs
      → ((k : ℕ) → k < length xs → slice_get xs k ≡ Some (f (b + k)))
      → take n (drop a xs) ≡ map f (range_with_len (b + a) n)
  dropped xs zero n f b low each =
      let same : b + 0 ≡ b = omega arith in
      taken xs n b f (omega (arith, low)) each ∙ sym (ap (λ (i : ℕ). map f (range_with_len i n)) same)
  dropped [] (suc a) n f b low each = absurd (omega (arith, low))
  dropped (x ∷ xs) (suc a) n f b low each =
      let same : suc b + a ≡ b + suc a = omega arith in
      dropped xs a n f (suc b) (omega (arith, low)) (λ k less.
      let next : b + suc k ≡ suc b + k = omega arith in
      each (suc k) (omega (arith, less)) ∙ ap (λ (i : ℕ). Some (f i)) next)
      ∙ ap (λ (i : ℕ). map f (range_with_len i n)) same

  part_is : (xs : List X) (a n : ℕ) (f : ℕ → X) → a + n ≤ length xs
      → ((k : ℕ) → k < length xs → slice_get xs k ≡ Some (f k)) → slice_range xs a (a + n) ≡ map f (range_with_len a n)
  part_is xs a n f low each =
      let long : a + n - a ≡ n = omega arith in
      let none : 0 + a ≡ a = omega arith in
      ap (λ (m : ℕ). take m (drop a xs)) long
      ∙ (dropped xs a n f 0 low (λ k less. each k less ∙ ap (λ (i : ℕ). Some (f i)) (omega arith))
      ∙ ap (λ (i : ℕ). map f (range_with_len i n)) none)

module _ {W F B : Type 0} (ops : Operations W F B) (l : Loads B) (show : List B → Ending) (thread : ℕ)
    (fixed : List Event → List (Range B)) (initial : Instance → List B) (zero_byte : B) (history : List Event)
    (known : Known l thread history) (around : Around l thread fixed initial zero_byte history) where
  -- the bytes of a block that is held are the map's
  block_is : (acts : List (Act B)) (h : Held W F B) → FitsBy l thread history known acts h → (y : Instance)
      → Member y (instances l h.after.memory.seen) → has_storage y.number acts ≡ true
      → block_bytes y.number (owned_by h) ≡ Some (bytes_after y.number (l.block y) acts)
  block_is acts h fits y member has =
      let seen = h.after.memory.seen in
      ap (λ (xs : List (Owned B)). block_bytes y.number xs)
      (held_is l thread history known acts seen h.owners h.after.memory.own fits)
      ∙ found_yes l thread y (instances l seen) acts fits.rest
      (each_of (λ z. z.number ≡ y.number → z ≡ y) (instances l seen)
      (λ z m e. known.again.one seen seen fits.front fits.front y z member m e)) member has

  byte_is : (acts : List (Act B)) (h : Held W F B) → FitsBy l thread history known acts h → (y : Instance)
      → Member y (instances l h.after.memory.seen) → (k : ℕ) → k < length (bytes_after y.number (l.block y) acts)
      → slice_get (bytes_after y.number (l.block y) acts) k ≡ Some (byte_of (initial y) zero_byte y.number k acts)
  byte_is acts h fits y member k less =
      let long = bytes_long y.number (l.block y) acts in
      let last = last_written y.number k acts in
      bytes_are y.number k (l.block y) acts (omega (arith, long, less))
      ∙ (ap (λ (o : Option B). option_or last o)
      (around.fresh h.after.memory.seen fits.front y member k (omega (arith, long, less)))
      ∙ last_or last (slice_get (initial y) k))
    where
      last_or : (o s : Option B)
          → option_or o (Some (unwrap_or s zero_byte)) ≡ Some (unwrap_or (option_or o s) zero_byte)
      last_or None s = refl
      last_or (Some b) s = refl

  shown_is : (acts : List (Act B)) (h : Held W F B) → FitsBy l thread history known acts h → (y : Instance)
      → Member y (instances l h.after.memory.seen) → has_storage y.number acts ≡ true → (offset size : ℕ)
      → offset + size ≤ length (l.block y)
      → shown_in ops l show thread h size offset (block_bytes y.number (owned_by h))
      ≡ Says (show (bytes_of (initial y) zero_byte y.number offset size acts)) h
  shown_is acts h fits y member has offset size low =
      let bytes = bytes_after y.number (l.block y) acts in
      let long = bytes_long y.number (l.block y) acts in
      let inside = le-leb (offset + size) (length bytes) (omega (arith, low, long)) in
      let part = part_is bytes offset size (λ k. byte_of (initial y) zero_byte y.number k acts)
      (omega (arith, low, long))
      (λ k less. byte_is acts h fits y member k less) in
      ap (λ (o : Option (List B)). shown_in ops l show thread h size offset o) (block_is acts h fits y member has)
      ∙ rw inside (ap (λ (shown : List B). Says (show shown) h) part)

  or_true : (b : Bool) → (b || true) ≡ true
  or_true true = refl
  or_true false = refl

  -- the law
  pub peek_is : (acts : List (Act B)) (h : Held W F B) → FitsBy l thread history known acts h → (seen : List Event)
      → IsFront h.after.memory.seen seen → IsFront seen history
      → (number image : ℕ) (symbol : List ℕ) (size : ℕ) (y : Instance) (offset : ℕ)
      → let line : Line = record { number = number; told = record { image = image; action = Peek symbol size } } in
      instance_at l seen image ≡ Some y → l.variable image symbol ≡ Some offset → offset + size ≤ length (l.block y)
      → begin_line ops l show thread line seen h
      ≡ Says (show (bytes_of (initial y) zero_byte y.number offset size (begin_acts l thread line seen acts)))
      (reached l thread y (looked l thread seen h))
  unfolding begin_line
  peek_is acts h fits seen front to number image symbol size y offset at is low =
      let line : Line = record { number = number; told = record { image = image; action = Peek symbol size } } in
      let now = looked_fits l thread history known acts seen h fits front to in
      let member = known.at seen image y at in
      let g = reached l thread y (looked l thread seen h) in
      let asked = reached_fits l thread history known (with_look l seen acts) y (looked l thread seen h) now member in
      let same = eq-eqb y.number y.number refl in
      let has : has_storage y.number (with_asked l (Some y) (with_look l seen acts)) ≡ true =
      rw same (or_true (has_storage y.number (with_look l seen acts))) in
      ap (λ (o : Option Instance). begun_peek ops l show thread line symbol size (looked l thread seen h) o) at
      ∙ (ap (λ (o : Option ℕ). shown_from ops l show thread g size y o) is
      ∙ (shown_is (with_asked l (Some y) (with_look l seen acts)) g asked y member has offset size low
      ∙ ap (λ (o : Option Instance).
      Says (show (bytes_of (initial y) zero_byte y.number offset size (with_asked l o (with_look l seen acts)))) g)
      (sym at)))

-- ** as lines

module _ {W F B : Type 0} (ops : Operations W F B) (l : Loads B) (thread : ℕ) (x : Turns (Held W F B) Line Event)
    (show : Line → List Event → List B → Ending)
    (begins : (line : Line) (seen : List Event) (h : Held W F B)
    → x.begin line seen h ≡ begin_line ops l (show line seen) thread line seen h)
    (fixed : List Event → List (Range B)) (initial : Instance → List B) (zero_byte : B) (history : List Event)
    (known : Known l thread history) (around : Around l thread fixed initial zero_byte history) where
  pub peeks_show : (acts : List (Act B)) (t : Thread (Held W F B) Line Event) (seen : List Event)
      → FitsBy l thread history known acts (held_in t.phase) → IsFront (held_in t.phase).after.memory.seen seen
      → IsFront seen history → PeeksShow l thread x initial zero_byte show acts t seen
  peeks_show acts t seen fits front to number image symbol size todo h said old y offset e at is low =
      let line : Line = record { number = number; told = record { image = image; action = Peek symbol size } } in
      let fits' = subst (λ (u : Thread (Held W F B) Line Event). FitsBy l thread history known acts
      (held_in u.phase)) e fits in
      let front' = subst (λ (u : Thread (Held W F B) Line Event). IsFront
      (held_in u.phase).after.memory.seen seen) e front in
      ap (λ (u : Thread (Held W F B) Line Event). (turn x u seen).said) e
      ∙ ap (λ (begun : Begun (Held W F B)). (after_look x x.fuel todo said seen (length seen ∷ []) begun).said)
      (begins line seen h
      ∙ peek_is ops l (show line seen) thread fixed initial zero_byte history known around acts h fits' seen front' to number
      image symbol size y offset at is low)
