-- Plain numbers follow marked values, in any setting: each operation on related values gives related values.
use Rattle.std.proofs.Common.{◌≡◌, ℕ, zero, suc, ◌+◌, ◌%◌, ◌^◌, ◌<◌, Bool, true, false, ◌&&◌, ◌==◌, List, [], ◌∷◌}
use Rattle.std.proofs.Common.{length, Option, Some, None, Ok, Err, refl, sym, ap, arith}
use Rattle.std.specs.Prelude.{if◌then◌else◌}
use Rattle.std.proofs.lemmas.Bool.{eqb-true, and_parts}
use Rattle.address_map.specs.Map.{owner_at}
use Rattle.guest_arithmetic.specs.declared.cause.Cause.TheVariants as cause
use Rattle.guest_machine.specs.Follow.{Uses, All2}
use Rattle.guest_machine.specs.Operand.{moved_by}
use Rattle.guest_arithmetic.specs.Plain.{plain_operations}
use Rattle.guest_arithmetic.specs.Values.{number_from, digit}
use Rattle.job_meaning.specs.declared.values.Block.{Block}
use Rattle.job_meaning.specs.declared.values.Token.{Token}
use Rattle.job_meaning.specs.declared.values.Token.TheVariants.{Base, Descriptor}
use Rattle.job_meaning.specs.declared.values.Word.{Word}
use Rattle.job_meaning.specs.declared.values.Word.TheVariants.{Number, Undefined, Marked}
use Rattle.job_meaning.specs.declared.values.Flag.{Flag}
use Rattle.job_meaning.specs.declared.values.Flag.TheVariants.{Truth, Unsettled}
use Rattle.job_meaning.specs.declared.values.Byte.{Byte}
use Rattle.job_meaning.specs.declared.values.Byte.TheVariants.{Value, Hidden, Part}
use Rattle.job_meaning.specs.Marked.{used_number, used_truth, part_of, is_same_block, is_same, with_value, values_of}
use Rattle.job_meaning.specs.Marked.{are_parts, whole, joined_as, moved_in, marked_operations}
use Rattle.tied_meaning.specs.Laws.{NumbersFollowMarkedValues}
use Rattle.tied_meaning.specs.Numbers.{Setting, IsMade, SameByte, SameField, SameFlag, SameWord, alike, base_number}
use Rattle.tied_meaning.specs.Numbers.{number_for}

-- ** numbers

-- the digits of a number from digit k on, so many
digits : ℕ → ℕ → ℕ → List ℕ
digits n k zero = []
digits n k (suc size) = digit n k ∷ digits n (k + 1) size

-- eight digits spell the number
digits-spell : (n : ℕ) → n < 2 ^ 64 → number_from (digits n 0 8) % 2 ^ 64 ≡ n
unfolding digits
digits-spell n below = omega arith

-- a field moves the number of a base as it moves the base
moved-sum : (begin base n n' w : ℕ) → (begin + n) % 2 ^ 64 ≡ (base + n') % 2 ^ 64 → w ≡ base % 2 ^ 64
    → (begin + n) % 2 ^ 64 ≡ (n' + w) % 2 ^ 64
moved-sum begin base n n' w e f = omega arith

-- ** tokens: what passes for one token is one

made : ℕ → ℕ → ℕ → Block
made thread instance start = record { thread = thread; instance = instance; start = start }

same-made : (a b c d e f : ℕ) → a ≡ d → b ≡ e → c ≡ f → made a b c ≡ made d e f
same-made a b c d e f g h i = rw (g, h, i) refl

same-block : (a b : Block) → is_same_block a b ≡ true → a ≡ b
unfolding made
same-block a b e =
    let p = and_parts ((a.thread == b.thread) && (a.instance == b.instance)) (a.start == b.start) e in
    let q = and_parts (a.thread == b.thread) (a.instance == b.instance) p.0 in
    same-made a.thread a.instance a.start b.thread b.instance b.start (eqb-true a.thread b.thread q.0)
    (eqb-true a.instance b.instance q.1) (eqb-true a.start b.start p.1)

same-token : (t u : Token) → is_same t u ≡ true → t ≡ u
same-token (Base a) (Base b) e = ap Base (same-block a b e)
same-token (Base a) (Descriptor c d) e = cc
same-token (Descriptor a b) (Base c) e = cc
same-token (Descriptor a b) (Descriptor c d) e = let p = and_parts (a == c) (b == d) e in
    rw (eqb-true a c p.0, eqb-true b d p.1) refl

module _ (g : Setting) where
  abbrev Same : Word → ℕ → Type 0
  Same = SameWord g

  abbrev Bytes : List Byte → List ℕ → Type 0
  Bytes = All2 (SameByte g)

  -- ** uses: what the meaning uses as a number is the machine's number

  number-uses : (w : Word) (w' : ℕ) → Same w w' → Uses (λ (m : ℕ) (n : ℕ). m ≡ n) (used_number w) (Ok w')
  number-uses (Number n) w' h = sym h.0
  number-uses Undefined w' h = tt
  number-uses (Marked token) w' h = tt

  truth-uses : (f : Flag) (f' : Bool) → SameFlag f f' → Uses (λ (a : Bool) (b : Bool). a ≡ b) (used_truth f) (Ok f')
  truth-uses (Truth t) f' h = sym h
  truth-uses Unsettled f' h = tt

  -- ** bytes

  part-same : (w : Word) (w' : ℕ) → Same w w' → (k : ℕ) → SameByte g (part_of w k) (digit w' k)
  part-same (Number n) w' h k = (ap (λ m. digit m k) h.0, omega arith)
  part-same Undefined w' h k = tt
  part-same (Marked token) w' h k = (ap (λ m. digit m k) h.0, h.1)

  -- bytes that are all values are these numbers
  pub values-same : (bs : List Byte) (bs' ns : List ℕ) → Bytes bs bs' → values_of bs ≡ Some ns → bs' ≡ ns
  values-same [] [] ns h e = cc
  values-same [] (b' ∷ bs') ns h e = absurd h
  values-same (b ∷ bs) [] ns h e = absurd h
  values-same (Hidden ∷ bs) (b' ∷ bs') ns h e = cc
  values-same (Part token k ∷ bs) (b' ∷ bs') ns h e = cc
  values-same (Value n ∷ bs) (b' ∷ bs') ns h e =
      (elim (values_of bs) as (λ v. values_of bs ≡ v → with_value n v ≡ Some ns → b' ∷ bs' ≡ ns) [
        | None ↦ λ f g. cc
        | Some ms ↦ λ f g. let tail : bs' ≡ ms = values-same bs bs' ms h.1 f in let head : b' ≡ n = h.0.0 in cc
      ]) refl e

  -- a token's bytes from byte k on are these digits
  parts-same : (token : Token) (k size : ℕ) (bs : List Byte) (bs' : List ℕ) → Bytes bs bs' → are_parts token k bs ≡ true
      → length bs ≡ size
      → bs' ≡ digits (number_for g token) k size
  unfolding digits
  parts-same token k zero [] [] h e l = refl
  parts-same token k (suc size) [] [] h e l = cc
  parts-same token k size [] (b' ∷ bs') h e l = absurd h
  parts-same token k size (b ∷ bs) [] h e l = absurd h
  parts-same token k size (Value n ∷ bs) (b' ∷ bs') h e l = cc
  parts-same token k size (Hidden ∷ bs) (b' ∷ bs') h e l = cc
  parts-same token k zero (Part other j ∷ bs) (b' ∷ bs') h e l = absurd (omega arith)
  parts-same token k (suc size) (Part other j ∷ bs) (b' ∷ bs') h e l =
      let p = and_parts (is_same token other && (k == j)) (are_parts token (k + 1) bs) e in
      let q = and_parts (is_same token other) (k == j) p.0 in
      let rest : bs' ≡ digits (number_for g token) (k + 1) size =
      parts-same token (k + 1) size bs bs' h.1 p.1 (omega arith) in
      let first : b' ≡ digit (number_for g token) k = rw (same-token token other q.0, eqb-true k j q.1) h.0.0 in
      rw (first, rest) refl

  -- as many as there are
  parts-count : (token : Token) (k : ℕ) (bs : List Byte) → are_parts token k bs ≡ true → k + length bs ≡ 8
  parts-count token k [] e = let f : k ≡ 8 = eqb-true k 8 e in omega arith
  parts-count token k (Value n ∷ bs) e = cc
  parts-count token k (Hidden ∷ bs) e = cc
  parts-count token k (Part other j ∷ bs) e =
      let f : k + 1 + length bs ≡ 8 =
      parts-count token (k + 1) bs (and_parts (is_same token other && (k == j)) (are_parts token (k + 1) bs) e).1 in
      omega arith

  -- the number of a token is a word
  number_for-below : (token : Token) → number_for g token < 2 ^ 64
  number_for-below (Base block) = omega arith
  number_for-below (Descriptor a b) = omega arith

  -- so all eight bytes of a token join to its number
  token-same : (token : Token) (bs : List Byte) (bs' : List ℕ) → Bytes bs bs' → are_parts token 0 bs ≡ true
      → number_from bs' % 2 ^ 64 ≡ number_for g token
  unfolding digits
  token-same token bs bs' h e =
      let eight : length bs ≡ 8 = omega (arith, parts-count token 0 bs e) in
      rw (parts-same token 0 8 bs bs' h e eight) (digits-spell (number_for g token) (number_for-below token))

  -- one byte of a token says that it was made
  starts : (token : Token) (k : ℕ) (bs : List Byte) (bs' : List ℕ) → Bytes (Part token k ∷ bs) bs' → IsMade g token
  starts token k bs [] h = absurd h
  starts token k bs (b' ∷ bs') h = h.0.1

  -- bytes that are not all values
  whole-same : (bs : List Byte) (bs' : List ℕ) → Bytes bs bs' → Same (whole bs) (number_from bs' % 2 ^ 64)
  whole-same [] bs' h = tt
  whole-same (Value n ∷ bs) bs' h = tt
  whole-same (Hidden ∷ bs) bs' h = tt
  whole-same (Part token k ∷ bs) bs' h =
      (elim (are_parts token 0 (Part token k ∷ bs)) as
      (λ b. are_parts token 0 (Part token k ∷ bs) ≡ b
      → Same (if b then Marked token else Undefined) (number_from bs' % 2 ^ 64)) [
        | true ↦ λ e. (token-same token (Part token k ∷ bs) bs' h e, starts token k bs bs' h)
        | false ↦ λ e. tt
      ]) refl

  -- any bytes
  joined-same : (bs : List Byte) (bs' : List ℕ) → Bytes bs bs'
      → Same (joined_as (values_of bs) bs) (number_from bs' % 2 ^ 64)
  joined-same bs bs' h =
      (elim (values_of bs) as (λ v. values_of bs ≡ v → Same (joined_as v bs) (number_from bs' % 2 ^ 64)) [
        | None ↦ λ e. whole-same bs bs' h
        | Some ns ↦ λ e. (ap (λ ms. number_from ms % 2 ^ 64) (values-same bs bs' ns h e), omega arith)
      ]) refl

  -- ** fields: a field moves a base of the code's own instance, and nothing else

  moved-uses : (at : ℕ) (field' : Option ℕ) (n n' : ℕ) → SameField g (Some at) field' n n' → (w : Word) (w' : ℕ)
      → Same w w'
      → Uses (λ (p : ℕ) (q : ℕ). p ≡ q) (moved_in owner_at w n at) (moved_by plain_operations field' n' w')
  unfolding plain_operations
  moved-uses at field' n n' f (Number m) w' h = tt
  moved-uses at field' n n' f Undefined w' h = tt
  moved-uses at field' n n' f (Marked (Descriptor instance symbol)) w' h = tt
  moved-uses at field' n n' f (Marked (Base block)) w' h =
      rw f.0 (
      (elim (block.instance == owner_at at) as (λ b. (block.instance == owner_at at) ≡ b
      → Uses (λ (p : ℕ) (q : ℕ). p ≡ q) (if b then Ok ((block.start + n) % 2 ^ 64) else Err cause.Field)
      (Ok ((n' + w') % 2 ^ 64))) [
        | true ↦ λ e. moved-sum block.start (base_number g block) n n' w'
            (f.1 block h.1 (eqb-true block.instance (owner_at at) e)) h.0
        | false ↦ λ e. tt
      ]) refl)

-- the law
pub values_follow : NumbersFollowMarkedValues
unfolding alike marked_operations plain_operations
values_follow g = record {
  word = λ n. (refl, omega arith);
  number_of = number-uses g;
  unknown = λ w'. tt;
  flag = λ b. refl;
  truth_of = truth-uses g;
  unsettled = λ f f' h. tt;
  plain = λ field' n n' h. h;
  moved = moved-uses g;
  misused = λ at field' n n' h. tt;
  free = λ at n n' h f f'. tt;
  joined = λ bs bs' h size. joined-same g bs bs' h;
  byte_of = λ w w' h k below. part-same g w w' h k;
}
