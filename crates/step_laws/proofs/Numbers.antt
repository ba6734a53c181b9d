-- Marked values that are numbers are used, loaded and stored as the machine's.
use Rattle.std.proofs.Common.{◌≡◌, ℕ, zero, suc, ◌+◌, ◌%◌, ◌^◌, Bool, List, [], ◌∷◌, ◌++◌, map, Some, Result, Ok, Err}
use Rattle.std.proofs.Common.{refl, sym, ap, ◌∙◌}
use Rattle.std.specs.List.{All}
use Rattle.std.proofs.lemmas.List.Elements.{All-cons, All-head, All-nil, All-tail}
use Rattle.amd64_subset.specs.declared.instr.Condition.{Condition}
use Rattle.amd64_subset.specs.declared.instr.Condition.TheVariants.{Overflow, NotOverflow, Below, NotBelow, Equal}
use Rattle.amd64_subset.specs.declared.instr.Condition.TheVariants.{NotEqual, BelowOrEqual, Above, Sign, NotSign, Less}
use Rattle.amd64_subset.specs.declared.instr.Condition.TheVariants.{NotLess, LessOrEqual, Greater}
use Rattle.amd64_subset.specs.declared.instr.Width.{Width}
use Rattle.amd64_subset.specs.declared.instr.Width.TheVariants.{Long, Quad}
use Rattle.guest_arithmetic.specs.declared.flags.Flags.{Flags}
use Rattle.guest_arithmetic.specs.Arithmetic.{low}
use Rattle.guest_arithmetic.specs.Flags.{condition_of, is_below_or_equal, is_less, is_less_or_equal}
use Rattle.guest_arithmetic.specs.Plain.{plain_operations}
use Rattle.guest_arithmetic.specs.Values.{Operations, number_from}
use Rattle.guest_operands.specs.Access.{Accesses, Refusal, Refused, Shut, all_write, both_reached, bytes_at, bytes_from}
use Rattle.guest_operands.specs.Access.{load_of, next_place, put_all, reached, store_of}
use Rattle.guest_operands.specs.Operand.{kept, kept_byte, number_at}
use Rattle.guest_machine.specs.Touch.{places_from}
use Rattle.job_meaning.specs.declared.values.Byte.{Byte}
use Rattle.job_meaning.specs.declared.values.Byte.TheVariants.{Value, Hidden, Part}
use Rattle.job_meaning.specs.declared.values.Flag.{Flag}
use Rattle.job_meaning.specs.declared.values.Flag.TheVariants.{Truth, Unsettled}
use Rattle.job_meaning.specs.declared.values.Word.{Word}
use Rattle.job_meaning.specs.declared.values.Word.TheVariants.{Number, Undefined, Marked}
use Rattle.job_meaning.specs.Marked.{marked_operations, values_of}
use Rattle.step_laws.specs.Plain.{HasNumber, HasTruth, IsByte, IsNumber, IsTruth, number_in, numbered}
use Rattle.step_laws.specs.Reads.{in_condition}
use Rattle.step_laws.proofs.NeededSteps.{OpenTo}
use Rattle.step_laws.proofs.Places.{IsOpen}

-- ** elements

pub all-left : {X : Type 0} (P : X → Type 0) (xs ys : List X) → All P (xs ++ ys) → All P xs
all-left P [] ys h = All-nil P
all-left P (x ∷ xs) ys h = All-cons P x xs (All-head P x (xs ++ ys) h) (all-left P xs ys (All-tail P x (xs ++ ys) h))

pub all-right : {X : Type 0} (P : X → Type 0) (xs ys : List X) → All P (xs ++ ys) → All P ys
all-right P [] ys h = h
all-right P (x ∷ xs) ys h = all-right P xs ys (All-tail P x (xs ++ ys) h)

-- ** words and flags

pub number-is : (w : Word) (n : ℕ) → IsNumber w → HasNumber w n → w ≡ Number n
number-is (Number k) n h e = ap Number (sym e)
number-is Undefined n h e = absurd h
number-is (Marked token) n h e = absurd h

pub truth-is : (f : Flag) (b : Bool) → IsTruth f → HasTruth f b → f ≡ Truth b
truth-is (Truth c) b h e = ap Truth (sym e)
truth-is Unsettled b h e = absurd h

one : (f : Flag) → All IsTruth (f ∷ []) → IsTruth f
one f h = All-head IsTruth f [] h

two : (f g : Flag) → All IsTruth (f ∷ g ∷ []) → IsTruth f × IsTruth g
two f g h = (All-head IsTruth f (g ∷ []) h, one g (All-tail IsTruth f (g ∷ []) h))

three : (f g k : Flag) → All IsTruth (f ∷ g ∷ k ∷ []) → IsTruth f × IsTruth g × IsTruth k
three f g k h = let rest = two g k (All-tail IsTruth f (g ∷ k ∷ []) h) in
    (All-head IsTruth f (g ∷ k ∷ []) h, rest.0, rest.1)

-- ** accesses

-- both are made, or both refused
abbrev pub SameAccess : {A A' : Type 0} → (A → A' → Type 0) → Result A Refusal → Result A' Refusal → Type 0
SameAccess R (Ok a) (Ok a') = R a a'
SameAccess R (Ok a) (Err why) = ⊥
SameAccess R (Err Refused) (Ok a') = ⊥
SameAccess R (Err Refused) (Err Refused) = Unit {0}
SameAccess R (Err Refused) (Err Shut) = ⊥
SameAccess R (Err Shut) r = ⊥

both-same : {A A' C C' D D' : Type 0} (R : A → A' → Type 0) (Q : C → C' → Type 0) (P : D → D' → Type 0) (f : A → C → D)
    (g : A' → C' → D')
    (a : Result A Refusal) (a' : Result A' Refusal) (b : Result C Refusal) (b' : Result C' Refusal) → SameAccess R a a'
    → SameAccess Q b b'
    → ((x : A) (x' : A') (y : C) (y' : C') → R x x' → Q y y' → P (f x y) (g x' y'))
    → SameAccess P (both_reached f a b) (both_reached g a' b')
both-same R Q P f g (Ok x) (Ok x') (Ok y) (Ok y') h k c = c x x' y y' h k
both-same R Q P f g (Ok x) (Ok x') (Ok y) (Err why) h k c = absurd k
both-same R Q P f g (Ok x) (Ok x') (Err Refused) (Ok y') h k c = absurd k
both-same R Q P f g (Ok x) (Ok x') (Err Refused) (Err Refused) h k c = tt
both-same R Q P f g (Ok x) (Ok x') (Err Refused) (Err Shut) h k c = absurd k
both-same R Q P f g (Ok x) (Ok x') (Err Shut) b' h k c = absurd k
both-same R Q P f g (Ok x) (Err why) b b' h k c = absurd h
both-same R Q P f g (Err Refused) (Ok x') b b' h k c = absurd h
both-same R Q P f g (Err Refused) (Err Shut) b b' h k c = absurd h
both-same R Q P f g (Err Refused) (Err Refused) (Ok y) (Ok y') h k c = tt
both-same R Q P f g (Err Refused) (Err Refused) (Ok y) (Err why) h k c = absurd k
both-same R Q P f g (Err Refused) (Err Refused) (Err Refused) (Ok y') h k c = absurd k
both-same R Q P f g (Err Refused) (Err Refused) (Err Refused) (Err Refused) h k c = tt
both-same R Q P f g (Err Refused) (Err Refused) (Err Refused) (Err Shut) h k c = absurd k
both-same R Q P f g (Err Refused) (Err Refused) (Err Shut) b' h k c = absurd k
both-same R Q P f g (Err Shut) a' b b' h k c = absurd h

reached-same : {A A' C C' : Type 0} (R : A → A' → Type 0) (Q : C → C' → Type 0) (f : A → C) (g : A' → C')
    (r : Result A Refusal) (r' : Result A' Refusal)
    → SameAccess R r r' → ((a : A) (a' : A') → R a a' → Q (f a) (g a')) → SameAccess Q (reached f r) (reached g r')
reached-same R Q f g (Ok a) (Ok a') h k = k a a' h
reached-same R Q f g (Ok a) (Err why) h k = absurd h
reached-same R Q f g (Err Refused) (Ok a') h k = absurd h
reached-same R Q f g (Err Refused) (Err Refused) h k = tt
reached-same R Q f g (Err Refused) (Err Shut) h k = absurd h
reached-same R Q f g (Err Shut) r' h k = absurd h

-- an access that closes no byte is itself
itself : {A : Type 0} (r : Result A Refusal) → IsOpen r → SameAccess (λ (a : A) (b : A). a ≡ b) r r
itself (Ok x) h = refl
itself (Err Refused) h = tt
itself (Err Shut) h = absurd h

byte-same : (r : Result Byte Refusal) → IsOpen r → IsByte r → SameAccess (λ b n. b ≡ Value n) r (reached number_in r)
byte-same (Ok (Value n)) h k = refl
byte-same (Ok Hidden) h k = absurd k
byte-same (Ok (Part token j)) h k = absurd k
byte-same (Err Refused) h k = tt
byte-same (Err Shut) h k = absurd h

numbers-of : (ns : List ℕ) → values_of (map Value ns) ≡ Some ns
numbers-of [] = refl
numbers-of (n ∷ ns) = rw (numbers-of ns) refl

module _ (owner : ℕ → ℕ) where
  abbrev pub marked : Operations Word Flag Byte
  marked = marked_operations owner

  joined-is : (ns : List ℕ) → marked.joined (map Value ns) ≡ Number (number_from ns % 2 ^ 64)
  unfolding marked_operations
  joined-is ns = rw (numbers-of ns) refl

  module _ {M : Type 0} (acc : Accesses M Byte) (m : M) (opened : OpenTo acc m) where
    bytes-same : (size place : ℕ) → All (λ place. IsByte (acc.byte m place)) (places_from place size)
        → SameAccess (λ (bs : List Byte) (ns : List ℕ). bs ≡ map Value ns) (bytes_at acc m place size)
        (bytes_at (numbered acc) m place size)
    bytes-same zero place h = refl
    bytes-same (suc size) place h =
        both-same (λ b n. b ≡ Value n) (λ (bs : List Byte) (ns : List ℕ). bs ≡ map Value ns)
        (λ (bs : List Byte) (ns : List ℕ). bs ≡ map Value ns) ◌∷◌ ◌∷◌ _ _ _ _
        (byte-same (acc.byte m place) (opened.byte place)
        (All-head (λ place. IsByte (acc.byte m place)) place (places_from (next_place place) size) h))
        (bytes-same size (next_place place) (All-tail (λ place. IsByte (acc.byte m place)) place
        (places_from (next_place place) size) h))
        (λ b n bs ns e g. rw (e, g) refl)

    pub load-same : (place size : ℕ) → All (λ place. IsByte (acc.byte m place)) (places_from place size)
        → SameAccess (λ w n. w ≡ Number n) (load_of marked acc m place size)
        (load_of plain_operations (numbered acc) m place size)
    unfolding load_of plain_operations
    load-same place size h =
        reached-same (λ (bs : List Byte) (ns : List ℕ). bs ≡ map Value ns) (λ w n. w ≡ Number n) _ _ _ _
        (bytes-same size place h)
        (λ bs ns e. ap marked.joined e ∙ joined-is ns)

    writes-open : (size place : ℕ) → IsOpen (all_write acc m place size)
    writes-open zero place = tt
    writes-open (suc size) place = open-both _ _ (opened.writes place) (writes-open size (next_place place))
      where
        open-both : (a b : Result (Unit {0}) Refusal) → IsOpen a → IsOpen b
            → IsOpen (both_reached (λ (x : Unit {0}) (y : Unit {0}). tt {0}) a b)
        open-both (Ok x) (Ok y) h k = tt
        open-both (Ok x) (Err why) h k = k
        open-both (Err Refused) b h k = tt
        open-both (Err Shut) b h k = absurd h

    writes-same : (size place : ℕ) → all_write (numbered acc) m place size ≡ all_write acc m place size
    writes-same zero place = refl
    writes-same (suc size) place = ap (both_reached (λ (x : Unit {0}) (y : Unit {0}). tt {0}) (acc.writes m place))
        (writes-same size (next_place place))

    put-all-same : (size k n : ℕ) (memory : M) (place : ℕ)
        → put_all (numbered acc) memory place (bytes_from plain_operations n k size)
        ≡ put_all acc memory place (bytes_from marked (Number n) k size)
    unfolding marked_operations plain_operations
    put-all-same zero k n memory place = refl
    put-all-same (suc size) k n memory place = put-all-same size (k + 1) n (acc.put memory place (Value _))
        (next_place place)

    pub store-same : (place size n : ℕ) → SameAccess (λ (a : M) (b : M). a ≡ b)
        (store_of marked acc m place size (Number n)) (store_of plain_operations (numbered acc) m place size n)
    unfolding store_of
    store-same place size n =
        rw (writes-same size place, put-all-same size 0 n m place)
        (itself (reached (λ done. put_all acc m place (bytes_from marked (Number n) 0 size))
        (all_write acc m place size)) (still-open _ (writes-open size place)))
      where
        still-open : (r : Result (Unit {0}) Refusal) → IsOpen r
            → IsOpen (reached (λ done. put_all acc m place (bytes_from marked (Number n) 0 size)) r)
        still-open (Ok x) h = tt
        still-open (Err why) h = h

  -- ** uses

  pub kept-is : (width : Width) (w : Word) (n : ℕ) → w ≡ Number n
      → kept marked width w ≡ Number (kept plain_operations width n)
  unfolding kept marked_operations plain_operations
  kept-is Quad w n e = e
  kept-is Long w n e = rw e refl

  pub kept_byte-is : (w : Word) (n : ℕ) → w ≡ Number n → kept_byte marked w ≡ Number (kept_byte plain_operations n)
  unfolding kept_byte marked_operations plain_operations
  kept_byte-is w n e = rw e refl

  pub used-is : (w : Word) (n : ℕ) → w ≡ Number n → marked.number_of w ≡ Ok n
  unfolding marked_operations
  used-is w n e = rw e refl

  pub number_at-is : (width : Width) (w : Word) (n : ℕ) → w ≡ Number n → number_at marked width w ≡ Ok (low width n)
  unfolding number_at marked_operations
  number_at-is width w n e = rw e refl

  pub condition-is : (condition : Condition) (flags : Flags Flag) (flags' : Flags Bool)
      → HasTruth flags.zero flags'.zero → HasTruth flags.sign flags'.sign
      → HasTruth flags.carry flags'.carry → HasTruth flags.overflow flags'.overflow
      → All IsTruth (in_condition condition flags)
      → condition_of marked condition flags ≡ condition_of plain_operations condition flags'
  unfolding condition_of is_less is_less_or_equal is_below_or_equal marked_operations plain_operations
  condition-is Overflow f g z s c o h = rw (truth-is f.overflow g.overflow (one f.overflow h) o) refl
  condition-is NotOverflow f g z s c o h = rw (truth-is f.overflow g.overflow (one f.overflow h) o) refl
  condition-is Below f g z s c o h = rw (truth-is f.carry g.carry (one f.carry h) c) refl
  condition-is NotBelow f g z s c o h = rw (truth-is f.carry g.carry (one f.carry h) c) refl
  condition-is Equal f g z s c o h = rw (truth-is f.zero g.zero (one f.zero h) z) refl
  condition-is NotEqual f g z s c o h = rw (truth-is f.zero g.zero (one f.zero h) z) refl
  condition-is BelowOrEqual f g z s c o h = let p = two f.carry f.zero h in
      rw (truth-is f.carry g.carry p.0 c, truth-is f.zero g.zero p.1 z) refl
  condition-is Above f g z s c o h = let p = two f.carry f.zero h in
      rw (truth-is f.carry g.carry p.0 c, truth-is f.zero g.zero p.1 z) refl
  condition-is Sign f g z s c o h = rw (truth-is f.sign g.sign (one f.sign h) s) refl
  condition-is NotSign f g z s c o h = rw (truth-is f.sign g.sign (one f.sign h) s) refl
  condition-is Less f g z s c o h = let p = two f.sign f.overflow h in
      rw (truth-is f.sign g.sign p.0 s, truth-is f.overflow g.overflow p.1 o) refl
  condition-is NotLess f g z s c o h = let p = two f.sign f.overflow h in
      rw (truth-is f.sign g.sign p.0 s, truth-is f.overflow g.overflow p.1 o) refl
  condition-is LessOrEqual f g z s c o h = let p = three f.zero f.sign f.overflow h in
      rw (truth-is f.zero g.zero p.0 z, truth-is f.sign g.sign p.1 s, truth-is f.overflow g.overflow p.2 o) refl
  condition-is Greater f g z s c o h = let p = three f.zero f.sign f.overflow h in
      rw (truth-is f.zero g.zero p.0 z, truth-is f.sign g.sign p.1 s, truth-is f.overflow g.overflow p.2 o) refl
