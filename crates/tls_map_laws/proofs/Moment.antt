-- What a thread reads at a place of a block that it holds is the map's byte.
use Rattle.std.proofs.Common.{◌≡◌, ◌∙◌, ◌⊎◌, ◌+◌, ◌-◌, ◌++◌, ◌<◌, ◌≤◌, ◌^◌, ◌&&◌, ℕ, Bool, true, false, List, [], ◌∷◌}
use Rattle.std.proofs.Common.{length, Option, Some, None, refl, sym, ap, subst, inl, inr, arith, ◌==◌}
use Rattle.std.specs.Prelude.{nat_le, nat_lt, slice_get, unwrap_or, ok_or}
use Rattle.std.specs.List.{find}
use Rattle.std.specs.Option.{option_or}
use Rattle.std.proofs.lemmas.Bool.{and_parts, cases_Bool, eq-eqb, eqb-true, false_from_ne_true, leb-true, le-leb}
use Rattle.std.proofs.lemmas.Bool.{lt-ltb, ltb-true}
use Rattle.address_map.specs.Map.{stack_start}
use Rattle.guest_arithmetic.specs.Values.{Operations}
use Rattle.guest_operands.specs.declared.space.Access.{Access}
use Rattle.guest_operands.specs.declared.space.Access.TheVariants.{Read, Write}
use Rattle.guest_machine.specs.Access.{Accesses, Refused, reached}
use Rattle.guest_machine.specs.Ranges.{Range, allows, byte_in, grants, holds}
use Rattle.loaded_modules.specs.declared.instance.Instance.{Instance}
use Rattle.module_table.specs.declared.events.Event.{Event}
use Rattle.thread_blocks.specs.Held.{Held, Owned, ranges_in}
use Rattle.thread_blocks.specs.Instances.{Loads, block_range, block_start, instances}
use Rattle.thread_blocks.specs.Spaces.{Space, space_accesses, stack_range}
use Rattle.thread_blocks.specs.Turns.{IsFront}
use Rattle.tls_map_laws.specs.Map.{Act, byte_of, has_storage, last_written}
use Rattle.tls_map_laws.specs.Acts.{is_in}
use Rattle.tls_map_laws.specs.Moments.{BeginsAnew, IsMap}
use Rattle.tls_map_laws.proofs.Bytes.{bytes_after, bytes_are}
use Rattle.tls_map_laws.proofs.Entries.{AreData}
use Rattle.tls_map_laws.proofs.Places.{Member, block_there, none_there}
use Rattle.tls_map_laws.proofs.Known.{Around, Known}
use Rattle.tls_map_laws.proofs.Keeping.{Fits, each_of}

pub found_member : (p : Instance → Bool) (xs : List Instance) (x : Instance) → find p xs ≡ Some x → Member x xs
found_member p [] x e = cc
found_member p (y ∷ ys) x e = elim (cases_Bool (p y)) [
  | inl t ↦ inl (let same : Some y ≡ Some x = rw t at e in let s = same in cc)
  | inr f ↦ inr (found_member p ys x (rw f at e))
]

-- of instances with numbers of their own
found_one : (xs : List Instance) (x : Instance) → Member x xs
    → ((z : Instance) → Member z xs → z.number ≡ x.number → z ≡ x)
    → find (λ (y : Instance). y.number == x.number) xs ≡ Some x
found_one [] x m one = absurd m
found_one (y ∷ ys) x m one = elim (cases_Bool (y.number == x.number)) [
  | inl t ↦ rw t (ap (λ (z : Instance). Some z) (one y (inl refl) (eqb-true y.number x.number t)))
  | inr f ↦ rw f (found_one ys x (later m f) (λ z n e. one z (inr n) e))
]
  where
    later : (y ≡ x) ⊎ Member x ys → (y.number == x.number) ≡ false → Member x ys
    later (inl same) f =
        let yes = eq-eqb y.number x.number (ap (λ (z : Instance). z.number) same) in
        absurd (let both : true ≡ false = sym yes ∙ f in cc)
    later (inr m) f = m

module _ {W F B : Type 0} (ops : Operations W F B) (l : Loads B) (thread : ℕ) (fixed : List Event → List (Range B))
    (initial : Instance → List B) (zero_byte : B) (history : List Event) (known : Known l thread history)
    (around : Around l thread fixed initial zero_byte history) where
  abbrev acc : Accesses (Space Event B) B
  acc = space_accesses ops (stack_start thread) fixed

  stack_apart : (stack : List B) (place : ℕ) → place < stack_start thread
      → holds (stack_range (stack_start thread) stack) place ≡ false
  stack_apart stack place low = false_from_ne_true _ (λ t.
      let both = and_parts (nat_le (stack_start thread) place) (nat_lt (place - stack_start thread) (length stack)) t in
      let le = leb-true (stack_start thread) place both.0 in
      absurd (omega (arith, le, low)))

  read_past : (m : Space Event B) (place : ℕ) (o : Option B) → place < stack_start thread
      → byte_in Read (m.own ++ fixed m.seen) place ≡ o → acc.byte m place ≡ ok_or o Refused
  unfolding space_accesses
  read_past m place o low e = let apart = stack_apart m.stack place low in rw (apart, e) refl

  write_past : (m : Space Event B) (place : ℕ) (o : Option B) → place < stack_start thread
      → byte_in Write (m.own ++ fixed m.seen) place ≡ o → acc.writes m place ≡ reached (λ byte. tt) (ok_or o Refused)
  unfolding space_accesses
  write_past m place o low e = let apart = stack_apart m.stack place low in rw (apart, e) refl

  is_place : (x : Instance) (k : ℕ) → k < length (l.block x) → is_in l thread x (block_start thread x + k) ≡ true
  is_place x k less =
      let start = block_start thread x in
      let le = le-leb start (start + k) (omega arith) in
      let lt = lt-ltb (start + k - start) (length (l.block x)) (omega (arith, less)) in
      rw (le, lt) refl

  back : (start k : ℕ) → start + k - start ≡ k
  back start k = omega arith

  last_or : (o s : Option B) (z : B) → option_or o (Some (unwrap_or s z)) ≡ Some (unwrap_or (option_or o s) z)
  last_or None s z = refl
  last_or (Some b) s z = refl

  -- data lie lower
  data_passed : (how : Access) (rest : List (Owned B)) (more : List (Range B)) (place : ℕ) → AreData rest
      → 2 ^ 40 ≤ place
      → byte_in how (ranges_in rest ++ more) place ≡ byte_in how more place
  data_passed how [] more place are high = refl
  data_passed how (x ∷ xs) more place are high =
      let past : holds x.range place ≡ false = false_from_ne_true _ (λ t.
      let both = and_parts (nat_le x.range.start place) (nat_lt (place - x.range.start) (length x.range.bytes)) t in
      let start = are.0.start in
      let size = are.0.size in
      let less = ltb-true (place - x.range.start) (length x.range.bytes) both.1 in
      absurd (omega (arith, start, size, less, high))) in
      let no : grants how x.range place ≡ false = and_false (allows how x.range) (holds x.range place) past in
      rw no (data_passed how xs more place are.1 high)
    where
      and_false : (a b : Bool) → b ≡ false → (a && b) ≡ false
      and_false true b e = e
      and_false false b e = refl

  module _ (acts : List (Act B)) (h : Held W F B)
      (fits : Fits l thread history known acts h.after.memory.seen h.owners h.after.memory.own)
      (x : Instance) (then_seen : List Event) (lived : IsFront then_seen history)
      (was : Member x (instances l then_seen)) where
    abbrev live : List Instance
    live = instances l h.after.memory.seen

    -- it is live now, if its block is held
    member : has_storage x.number acts ≡ true → Member x live
    member has =
        let held = fits.live x.number has in
        let same = known.again.one then_seen h.after.memory.seen lived fits.front x held.x was held.member held.number in
        subst (λ (z : Instance). Member z live) same held.member

    there : (how : Access) → ((y : Instance) (bytes : List B) → allows how (block_range thread y bytes) ≡ true)
        → has_storage x.number acts ≡ true → (k : ℕ) → k < length (l.block x)
        → byte_in how (h.after.memory.own ++ fixed h.after.memory.seen) (block_start thread x + k)
        ≡ Some (byte_of (initial x) zero_byte x.number k acts)
    there how allowed has k less =
        let place = block_start thread x + k in
        let is = is_place x k less in
        ap (λ (rs : List (Range B)). byte_in how (rs ++ fixed h.after.memory.seen) place) fits.ranges
        ∙ (block_there l thread how allowed live acts fits.rest (fixed h.after.memory.seen) place x (member has) has is
        (each_of (λ z. (z ≡ x) ⊎ (is_in l thread z place ≡ false)) live
        (λ z m. known.apart then_seen h.after.memory.seen lived fits.front x z was m place is))
        ∙ (ap (slice_get (bytes_after x.number (l.block x) acts)) (back (block_start thread x) k)
        ∙ (bytes_are x.number k (l.block x) acts less
        ∙ (ap (λ (o : Option B). option_or (last_written x.number k acts) o)
        (around.fresh then_seen lived x was k less)
        ∙ last_or (last_written x.number k acts) (slice_get (initial x) k) zero_byte))))

    nowhere : (how : Access) → ((y : Instance) (bytes : List B) → allows how (block_range thread y bytes) ≡ true)
        → has_storage x.number acts ≡ false → (k : ℕ) → k < length (l.block x)
        → byte_in how (h.after.memory.own ++ fixed h.after.memory.seen) (block_start thread x + k) ≡ None
    nowhere how allowed none k less =
        let place = block_start thread x + k in
        let is = is_place x k less in
        let high = around.high then_seen lived x was in
        ap (λ (rs : List (Range B)). byte_in how (rs ++ fixed h.after.memory.seen) place) fits.ranges
        ∙ (none_there l thread how allowed live acts fits.rest (fixed h.after.memory.seen) place
        (each_of (λ z. (has_storage z.number acts ≡ false) ⊎ (is_in l thread z place ≡ false)) live
        (λ z m. not_held z (known.apart then_seen h.after.memory.seen lived fits.front x z was m place is)))
        ∙ (data_passed how fits.rest (fixed h.after.memory.seen) place fits.data_behind (omega (arith, high))
        ∙ around.alone then_seen h.after.memory.seen lived fits.front x was how k less))
      where
        not_held : (z : Instance) → (z ≡ x) ⊎ (is_in l thread z (block_start thread x + k) ≡ false)
            → (has_storage z.number acts ≡ false) ⊎ (is_in l thread z (block_start thread x + k) ≡ false)
        not_held z (inl same) = inl (ap (λ (y : Instance). has_storage y.number acts) same ∙ none)
        not_held z (inr f) = inr f

    -- the law of a moment
    pub is_map : IsMap l thread acc initial zero_byte acts h x
    is_map =
        let low : (k : ℕ) → k < length (l.block x) → block_start thread x + k < stack_start thread = λ k less.
        known.below then_seen lived x was (block_start thread x + k) (is_place x k less) in
        record {
          reads = λ has k less. read_past h.after.memory (block_start thread x + k) _ (low k less)
              (there Read (λ y bytes. refl) has k less);
          writes = λ has k less. write_past h.after.memory (block_start thread x + k) _ (low k less)
              (there Write (λ y bytes. refl) has k less);
          no_reads = λ none k less. read_past h.after.memory (block_start thread x + k) _ (low k less)
              (nowhere Read (λ y bytes. refl) none k less);
          no_writes = λ none k less. write_past h.after.memory (block_start thread x + k) _ (low k less)
              (nowhere Write (λ y bytes. refl) none k less);
          live = λ has. found_one live x (member has)
              (λ z m e. known.again.one h.after.memory.seen h.after.memory.seen fits.front fits.front x z
              (member has) m e);
        }

  -- the law of an instance that is not held yet
  pub anew : (acts : List (Act B)) (h : Held W F B)
      → Fits l thread history known acts h.after.memory.seen h.owners h.after.memory.own
      → (x : Instance) → BeginsAnew l thread acc initial zero_byte history acts h x
  anew acts h fits x later to front live none k less =
      let was = found_member (λ (y : Instance). y.number == x.number) (instances l later) x live in
      let fresh = around.fresh later front x was k less in
      let last = last_written x.number k acts in
      let same = sym (bytes_are x.number k (l.block x) acts less)
      ∙ ap (λ (bytes : List B). slice_get bytes k) (fits.untouched later to front x was none) in
      same_some _ _ (sym (last_or last (slice_get (initial x) k) zero_byte)
      ∙ (sym (ap (λ (o : Option B). option_or last o) fresh) ∙ (same ∙ fresh)))
    where
      same_some : (a b : B) → Some a ≡ Some b → a ≡ b
      same_some a b e = let s = e in cc
