-- A thread's space lets a machine do what its ranges let it do; and spaces that are related part by part stay so.
use Rattle.std.proofs.Common.{◌≡◌, ℕ, zero, suc, ◌-◌, Bool, true, false, List, [], ◌∷◌, ◌++◌, length, Option, Some}
use Rattle.std.proofs.Common.{None, refl, sym, ap, subst}
use Rattle.std.specs.Prelude.{if◌then◌else◌, ◌&&◌, nat_le, nat_lt, slice_get, slice_set, ok_or}
use Rattle.guest_operands.specs.declared.space.Access.{Access}
use Rattle.guest_operands.specs.declared.space.Access.TheVariants.{Read, Write, Run}
use Rattle.guest_machine.specs.Access.{Refused, reached}
use Rattle.guest_machine.specs.Follow.{All2, Reaches, Alike, StayRelated}
use Rattle.guest_machine.specs.Ranges.{Range, grants, byte_in, with_byte}
use Rattle.guest_machine.specs.RangeLaws.{range_accesses, is_field_of}
use Rattle.guest_machine.specs.Run.{run, machine}
use Rattle.guest_machine.specs.RunLaws.{machine_of}
use Rattle.guest_machine.specs.Use.{After}
use Rattle.guest_arithmetic.specs.Values.{Operations}
use Rattle.thread_blocks.specs.Spaces.{Space, stack_range, ranges_of, address_space_of, put_byte, space_accesses}
use Rattle.thread_blocks.specs.Spaces.{no_field, outcome_image, IsRunImage}
use Rattle.thread_blocks.specs.SpaceLaws.{NoneWritable, IsImage, after_of, FoundAlike, SameRange, SameSpace}
use Rattle.guest_operands.specs.Closed.{closed, unless_shut}
use Rattle.thread_blocks.proofs.Image.{machine_image, run_image}

-- ** a space as its ranges

no_grant : {B : Type 0} (range : Range B) (place : ℕ) → range.writable ≡ false → grants Write range place ≡ false
no_grant range place e = rw e refl

module _ {B : Type 0} where
  with-none : (fixed : List (Range B)) (place : ℕ) (byte : B) → NoneWritable fixed → with_byte fixed place byte ≡ fixed
  with-none [] place byte none = refl
  with-none (range ∷ fixed) place byte none =
      rw (no_grant range place none.0) (ap (λ rest. range ∷ rest) (with-none fixed place byte none.1))

  with-both : (b : Bool) (range changed : Range B) (own rest fixed : List (Range B)) (x : List (Range B))
      → x ≡ rest ++ fixed
      → (if b then changed ∷ (own ++ fixed) else range ∷ x) ≡ (if b then changed ∷ own else range ∷ rest) ++ fixed
  with-both true range changed own rest fixed x e = refl
  with-both false range changed own rest fixed x e = ap (λ more. range ∷ more) e

  with-own : (own fixed : List (Range B)) (place : ℕ) (byte : B) → NoneWritable fixed
      → with_byte (own ++ fixed) place byte ≡ with_byte own place byte ++ fixed
  with-own [] fixed place byte none = with-none fixed place byte none
  with-own (range ∷ own) fixed place byte none =
      with-both (grants Write range place) range _ own (with_byte own place byte) fixed _
      (with-own own fixed place byte none)

module _ {W F E B : Type 0} (ops : Operations W F B) (start : ℕ) (fixed : List E → List (Range B))
    (none : (seen : List E) → NoneWritable (fixed seen)) where
  put-ranges : (b : Bool) (space : Space E B) (place : ℕ) (byte : B) (x : List (Range B))
      → x ≡ with_byte space.own place byte ++ fixed space.seen
      → (if b then (record {
        start = start;
        bytes = slice_set space.stack (place - start) byte;
        readable = true;
        writable = true;
        runnable = false;
      }) ∷ (space.own ++ fixed space.seen)
      else stack_range start space.stack ∷ x)
      ≡ ranges_of start fixed
      (if b then record space { stack = slice_set space.stack (place - start) byte }
      else record space { own = with_byte space.own place byte })
  put-ranges true space place byte x e = refl
  put-ranges false space place byte x e = ap (λ rest. stack_range start space.stack ∷ rest) e

  pub put_is_with_byte : (space : Space E B) (place : ℕ) (byte : B)
      → with_byte (ranges_of start fixed space) place byte ≡ ranges_of start fixed (put_byte start space place byte)
  put_is_with_byte space place byte =
      put-ranges (grants Write (stack_range start space.stack) place) space place byte _
      (with-own space.own (fixed space.seen) place byte (none space.seen))

  -- the law: the ranges of a space are its image
  pub space_image : IsImage (space_accesses ops start fixed) (range_accesses ops) (address_space_of start fixed)
  unfolding space_accesses range_accesses
  space_image = record {
    byte = λ space place. refl;
    writes = λ space place. refl;
    put = λ space place byte. ap (λ (ranges : List (Range B)). record { ranges = ranges; fields = [] })
        (put_is_with_byte space place byte);
    code = λ space place. refl;
  }

  -- runs over a space are runs over its ranges
  pub space_machine : IsRunImage (after_of {W = W} {F = F} (address_space_of start fixed))
      (machine ops (space_accesses ops start fixed) no_field) (machine_of ops)
  unfolding is_field_of
  space_machine = machine_image ops (space_accesses ops start fixed) (range_accesses ops)
      (address_space_of start fixed) space_image no_field is_field_of (λ m. refl)

  pub space_run : (n : ℕ) (a : After W F (Space E B))
      → run (machine_of ops) n (after_of (address_space_of start fixed) a)
      ≡ outcome_image (after_of (address_space_of start fixed))
      (run (machine ops (space_accesses ops start fixed) no_field) n a)
  space_run n a = run_image (after_of (address_space_of start fixed))
      (machine ops (space_accesses ops start fixed) no_field) (machine_of ops) space_machine n a

-- ** spaces part by part

grants-parts : (a a' : Bool) (start start' n n' place : ℕ) → a' ≡ a → start' ≡ start → n' ≡ n
    → (a' && (nat_le start' place && nat_lt (place - start') n'))
    ≡ (a && (nat_le start place && nat_lt (place - start) n))
grants-parts a a' start start' n n' place e f g = rw (e, f, g) refl

either-list : {A A' : Type 0} (Q : List A → List A' → Type 0) (g g' : Bool) (x y : List A) (x' y' : List A') → g' ≡ g
    → Q x x' → Q y y' → Q (if g then x else y) (if g' then x' else y')
either-list Q true g' x y x' y' e h k = rw e h
either-list Q false g' x y x' y' e h k = rw e k

module _ {A A' : Type 0} (Q : A → A' → Type 0) where
  pub all2-append : (xs us : List A) (ys vs : List A') → All2 Q xs ys → All2 Q us vs → All2 Q (xs ++ us) (ys ++ vs)
  all2-append [] us [] vs h k = k
  all2-append [] us (y ∷ ys) vs h k = absurd h
  all2-append (x ∷ xs) us [] vs h k = absurd h
  all2-append (x ∷ xs) us (y ∷ ys) vs h k = (h.0, all2-append xs us ys vs h.1 k)

  all2-length : (xs : List A) (ys : List A') → All2 Q xs ys → length ys ≡ length xs
  all2-length [] [] h = refl
  all2-length [] (y ∷ ys) h = absurd h
  all2-length (x ∷ xs) [] h = absurd h
  all2-length (x ∷ xs) (y ∷ ys) h = ap suc (all2-length xs ys h.1)

  all2-get : (xs : List A) (ys : List A') (i : ℕ) → All2 Q xs ys → FoundAlike Q (slice_get xs i) (slice_get ys i)
  all2-get [] [] i h = tt
  all2-get [] (y ∷ ys) i h = absurd h
  all2-get (x ∷ xs) [] i h = absurd h
  all2-get (x ∷ xs) (y ∷ ys) zero h = h.0
  all2-get (x ∷ xs) (y ∷ ys) (suc i) h = all2-get xs ys i h.1

  all2-set : (xs : List A) (ys : List A') (i : ℕ) (a : A) (a' : A') → All2 Q xs ys → Q a a'
      → All2 Q (slice_set xs i a) (slice_set ys i a')
  all2-set [] [] i a a' h k = tt
  all2-set [] (y ∷ ys) i a a' h k = absurd h
  all2-set (x ∷ xs) [] i a a' h k = absurd h
  all2-set (x ∷ xs) (y ∷ ys) zero a a' h k = (k, h.1)
  all2-set (x ∷ xs) (y ∷ ys) (suc i) a a' h k = (h.0, all2-set xs ys i a a' h.1 k)

  either-option : (g g' : Bool) (x y : Option A) (x' y' : Option A') → g' ≡ g → FoundAlike Q x x' → FoundAlike Q y y'
      → FoundAlike Q (if g then x else y) (if g' then x' else y')
  either-option true g' x y x' y' e h k = rw e h
  either-option false g' x y x' y' e h k = rw e k

module _ {B B' : Type 0} (R : B → B' → Type 0) where
  grants-same : (access : Access) (range : Range B) (range' : Range B') (place : ℕ) → SameRange R range range'
      → grants access range' place ≡ grants access range place
  grants-same Read range range' place h =
      grants-parts range.readable range'.readable range.start range'.start (length range.bytes)
      (length range'.bytes) place h.readable h.start (all2-length R range.bytes range'.bytes h.bytes)
  grants-same Write range range' place h =
      grants-parts range.writable range'.writable range.start range'.start (length range.bytes)
      (length range'.bytes) place h.writable h.start (all2-length R range.bytes range'.bytes h.bytes)
  grants-same Run range range' place h =
      grants-parts range.runnable range'.runnable range.start range'.start (length range.bytes)
      (length range'.bytes) place h.runnable h.start (all2-length R range.bytes range'.bytes h.bytes)

  pub byte_in-same : (access : Access) (ranges : List (Range B)) (ranges' : List (Range B')) (place : ℕ)
      → All2 (SameRange R) ranges ranges'
      → FoundAlike R (byte_in access ranges place) (byte_in access ranges' place)
  byte_in-same access [] [] place h = tt
  byte_in-same access [] (range' ∷ ranges') place h = absurd h
  byte_in-same access (range ∷ ranges) [] place h = absurd h
  byte_in-same access (range ∷ ranges) (range' ∷ ranges') place h =
      either-option R (grants access range place) (grants access range' place) _ _ _ _
      (grants-same access range range' place h.0)
      (subst (λ start. FoundAlike R (slice_get range.bytes (place - range.start))
      (slice_get range'.bytes (place - start))) (sym h.0.start)
      (all2-get R range.bytes range'.bytes (place - range.start) h.0.bytes))
      (byte_in-same access ranges ranges' place h.1)

  -- ranges in front of others
  pub byte_in-front : (access : Access) (ranges xs : List (Range B)) (ranges' xs' : List (Range B')) (place : ℕ)
      → All2 (SameRange R) ranges ranges'
      → FoundAlike R (byte_in access xs place) (byte_in access xs' place)
      → FoundAlike R (byte_in access (ranges ++ xs) place) (byte_in access (ranges' ++ xs') place)
  byte_in-front access [] xs [] xs' place h k = k
  byte_in-front access [] xs (range' ∷ ranges') xs' place h k = absurd h
  byte_in-front access (range ∷ ranges) xs [] xs' place h k = absurd h
  byte_in-front access (range ∷ ranges) xs (range' ∷ ranges') xs' place h k =
      either-option R (grants access range place) (grants access range' place) _ _ _ _
      (grants-same access range range' place h.0)
      (subst (λ start. FoundAlike R (slice_get range.bytes (place - range.start))
      (slice_get range'.bytes (place - start))) (sym h.0.start)
      (all2-get R range.bytes range'.bytes (place - range.start) h.0.bytes))
      (byte_in-front access ranges xs ranges' xs' place h.1 k)

  set-same : (range : Range B) (range' : Range B') (place : ℕ) (b : B) (b' : B') → SameRange R range range' → R b b'
      → SameRange R (record range { bytes = slice_set range.bytes (place - range.start) b })
      (record range' { bytes = slice_set range'.bytes (place - range'.start) b' })
  set-same range range' place b b' h k = record {
    start = h.start;
    readable = h.readable;
    writable = h.writable;
    runnable = h.runnable;
    bytes = subst (λ start. All2 R (slice_set range.bytes (place - range.start) b)
        (slice_set range'.bytes (place - start) b')) (sym h.start)
        (all2-set R range.bytes range'.bytes (place - range.start) b b' h.bytes k);
  }

  with_byte-same : (ranges : List (Range B)) (ranges' : List (Range B')) (place : ℕ) (b : B) (b' : B')
      → All2 (SameRange R) ranges ranges' → R b b'
      → All2 (SameRange R) (with_byte ranges place b) (with_byte ranges' place b')
  with_byte-same [] [] place b b' h k = tt
  with_byte-same [] (range' ∷ ranges') place b b' h k = absurd h
  with_byte-same (range ∷ ranges) [] place b b' h k = absurd h
  with_byte-same (range ∷ ranges) (range' ∷ ranges') place b b' h k =
      either-list (All2 (SameRange R)) (grants Write range place) (grants Write range' place) _ _ _ _
      (grants-same Write range range' place h.0)
      (set-same range range' place b b' h.0 k, h.1) (h.0, with_byte-same ranges ranges' place b b' h.1 k)

  stack-same : (start : ℕ) (stack : List B) (stack' : List B') → All2 R stack stack'
      → SameRange R (stack_range start stack) (stack_range start stack')
  stack-same start stack stack' h =
      record { start = refl; readable = refl; writable = refl; runnable = refl; bytes = h }

  -- ** reaches

  -- of the linker's own nothing is asked
  reach-byte : (shut : Bool) (o : Option B) (o' : Option B') → (shut ≡ false → FoundAlike R o o')
      → Reaches R (unless_shut shut (ok_or o Refused)) (ok_or o' Refused)
  reach-byte true o o' h = tt
  reach-byte false None None h = tt
  reach-byte false None (Some b') h = absurd (h refl)
  reach-byte false (Some b) None h = absurd (h refl)
  reach-byte false (Some b) (Some b') h = h refl

  reach-write : (shut : Bool) (o : Option B) (o' : Option B') → (shut ≡ false → FoundAlike R o o')
      → Reaches (λ (a : Unit {0}) (b : Unit {0}). Unit {0}) (unless_shut shut (reached (λ byte. tt) (ok_or o Refused)))
      (reached (λ byte. tt) (ok_or o' Refused))
  reach-write true o o' h = tt
  reach-write false None None h = tt
  reach-write false None (Some b') h = absurd (h refl)
  reach-write false (Some b) None h = absurd (h refl)
  reach-write false (Some b) (Some b') h = tt

-- ** a write changes no rights

module _ {B : Type 0} where
  Any : B → B → Type 0
  Any a b = Unit {0}

  any-refl : (xs : List B) → All2 Any xs xs
  unfolding Any
  any-refl [] = tt
  any-refl (x ∷ xs) = (tt, any-refl xs)

  any-set : (xs : List B) (i : ℕ) (b : B) → All2 Any xs (slice_set xs i b)
  unfolding Any
  any-set [] i b = tt
  any-set (x ∷ xs) zero b = (tt, any-refl xs)
  any-set (x ∷ xs) (suc i) b = (tt, any-set xs i b)

  range-refl : (range : Range B) → SameRange Any range range
  range-refl range = record
      { start = refl; readable = refl; writable = refl; runnable = refl; bytes = any-refl range.bytes }

  ranges-refl : (ranges : List (Range B)) → All2 (SameRange Any) ranges ranges
  ranges-refl [] = tt
  ranges-refl (range ∷ ranges) = (range-refl range, ranges-refl ranges)

  range-set : (range : Range B) (i : ℕ) (b : B)
      → SameRange Any range (record range { bytes = slice_set range.bytes i b })
  range-set range i b = record
      { start = refl; readable = refl; writable = refl; runnable = refl; bytes = any-set range.bytes i b }

  either-shape : (g : Bool) (xs ys ys' : List (Range B)) → All2 (SameRange Any) xs ys → All2 (SameRange Any) xs ys'
      → All2 (SameRange Any) xs (if g then ys else ys')
  either-shape true xs ys ys' h k = h
  either-shape false xs ys ys' h k = k

  with_byte-shape : (ranges : List (Range B)) (place : ℕ) (b : B)
      → All2 (SameRange Any) ranges (with_byte ranges place b)
  with_byte-shape [] place b = tt
  with_byte-shape (range ∷ ranges) place b =
      either-shape (grants Write range place) (range ∷ ranges) _ _
      (range-set range (place - range.start) b, ranges-refl ranges) (range-refl range, with_byte-shape ranges place b)

  write-same : (o o' : Option B) → FoundAlike Any o o'
      → reached (λ byte. tt {0}) (ok_or o' Refused) ≡ reached (λ byte. tt {0}) (ok_or o Refused)
  write-same None None h = refl
  write-same None (Some b) h = absurd h
  write-same (Some a) None h = absurd h
  write-same (Some a) (Some b) h = refl

module _ {E B : Type 0} (start : ℕ) (fixed : List E → List (Range B)) (shut : List E → ℕ → Bool) where
  written-shape : (space : Space E B) (own : List (Range B)) (stack : List B) (at : ℕ)
      → All2 (SameRange Any) (stack_range start space.stack ∷ space.own) (stack_range start stack ∷ own)
      → unless_shut (shut space.seen at)
      (reached (λ byte. tt {0})
      (ok_or (byte_in Write (stack_range start stack ∷ (own ++ fixed space.seen)) at) Refused))
      ≡ unless_shut (shut space.seen at)
      (reached (λ byte. tt {0}) (ok_or (byte_in Write (ranges_of start fixed space) at) Refused))
  written-shape space own stack at h =
      ap (unless_shut (shut space.seen at))
      (write-same _ _ (byte_in-same Any Write (ranges_of start fixed space)
      (stack_range start stack ∷ (own ++ fixed space.seen)) at (
        h.0,
        all2-append (SameRange Any) space.own (fixed space.seen) own (fixed space.seen) h.1
            (ranges-refl (fixed space.seen)),
      )))

  put-still : (g : Bool) (space : Space E B) (place at : ℕ) (b : B) (new : Space E B)
      → new ≡ (if g then record space { stack = slice_set space.stack (place - start) b }
      else record space { own = with_byte space.own place b })
      → unless_shut (shut new.seen at)
      (reached (λ byte. tt {0}) (ok_or (byte_in Write (ranges_of start fixed new) at) Refused))
      ≡ unless_shut (shut space.seen at)
      (reached (λ byte. tt {0}) (ok_or (byte_in Write (ranges_of start fixed space) at) Refused))
  put-still true space place at b new e =
      rw e (written-shape space space.own (slice_set space.stack (place - start) b) at
      (range-set (stack_range start space.stack) (place - start) b, ranges-refl space.own))
  put-still false space place at b new e =
      rw e (written-shape space (with_byte space.own place b) space.stack at
      (range-refl (stack_range start space.stack), with_byte-shape space.own place b))

module _ {W F E B W' F' B' : Type 0} (same : Alike W F B W' F' B') (ops : Operations W F B) (ops' : Operations W' F' B')
    (start : ℕ)
    (fixed : List E → List (Range B)) (fixed' : List E → List (Range B')) (shut : List E → ℕ → Bool)
    (reads : (seen : List E) (place : ℕ) → shut seen place ≡ false
    → FoundAlike same.byte (byte_in Read (fixed seen) place) (byte_in Read (fixed' seen) place))
    (writes : (seen : List E) (place : ℕ) → shut seen place ≡ false
    → FoundAlike same.byte (byte_in Write (fixed seen) place) (byte_in Write (fixed' seen) place)) where
  found-same : (access : Access) (space : Space E B) (space' : Space E B') (place : ℕ)
      → SameSpace same.byte space space'
      → FoundAlike same.byte (byte_in access (fixed space.seen) place) (byte_in access (fixed' space.seen) place)
      → FoundAlike same.byte (byte_in access (ranges_of start fixed space) place)
      (byte_in access (ranges_of start fixed' space') place)
  found-same access space space' place h alike =
      byte_in-front same.byte access (stack_range start space.stack ∷ space.own) (fixed space.seen)
      (stack_range start space'.stack ∷ space'.own) (fixed' space'.seen) place
      (stack-same same.byte start space.stack space'.stack h.stack, h.own)
      (subst (λ seen. FoundAlike same.byte (byte_in access (fixed space.seen) place)
      (byte_in access (fixed' seen) place)) (sym h.seen) alike)

  put-same : (g g' : Bool) (space : Space E B) (space' : Space E B') (place : ℕ) (b : B) (b' : B') → g' ≡ g
      → SameSpace same.byte space space' → same.byte b b'
      → SameSpace same.byte (if g then record space { stack = slice_set space.stack (place - start) b }
      else record space { own = with_byte space.own place b })
      (if g' then record space' { stack = slice_set space'.stack (place - start) b' }
      else record space' { own = with_byte space'.own place b' })
  put-same true g' space space' place b b' e h k =
      rw e (record {
        seen = h.seen;
        stack = all2-set same.byte space.stack space'.stack (place - start) b b' h.stack k;
        own = h.own;
      })
  put-same false g' space space' place b b' e h k =
      rw e (record {
        seen = h.seen;
        stack = h.stack;
        own = with_byte-same same.byte space.own space'.own place b b' h.own k;
      })

  -- the law: spaces that are related part by part are related under reads and writes, where what no thread writes is alike at each place that is not the
  -- linker's own
  pub spaces_kept : StayRelated same (closed (λ (space : Space E B). shut space.seen) (space_accesses ops start fixed))
      (space_accesses ops' start fixed') (SameSpace {E = E} same.byte)
  unfolding space_accesses
  spaces_kept = record {
    byte = λ space space' h place. reach-byte same.byte (shut space.seen place) _ _
        (λ other. found-same Read space space' place h (reads space.seen place other));
    writes = λ space space' h place. reach-write same.byte (shut space.seen place) _ _
        (λ other. found-same Write space space' place h (writes space.seen place other));
    put = λ space space' h place b b' k allowed. put-same (grants Write (stack_range start space.stack) place)
        (grants Write (stack_range start space'.stack) place) space space' place b b'
        (grants-same same.byte Write (stack_range start space.stack) (stack_range start space'.stack) place
        (stack-same same.byte start space.stack space'.stack h.stack)) h k;
    still = λ space place at b. put-still start fixed shut
        (grants Write (stack_range start space.stack) place) space place at b (put_byte start space place b) refl;
  }
