-- What a thread holds of one instance, after a look, a reach or a load, is the same on both sides.
use Rattle.std.proofs.Common.{◌≡◌, ◌==◌, ℕ, Bool, true, false, List, [], ◌∷◌, not, length, Option, Some, None, refl}
use Rattle.std.proofs.Common.{subst}
use Rattle.std.specs.Option.{option_or}
use Rattle.std.proofs.lemmas.Bool.{eqb-true, and_parts}
use Rattle.std.proofs.lemmas.List.Elements.{All-cons, All-nil}
use Rattle.guest_machine.specs.Follow.{All2}
use Rattle.guest_machine.specs.Ranges.{Range}
use Rattle.job_meaning.specs.declared.values.Byte.{Byte}
use Rattle.loaded_modules.specs.declared.instance.Instance.{Instance}
use Rattle.thread_blocks.specs.Held.{Kind, Block, Data, Owned, is_block, is_block_of, is_data_of, block_bytes}
use Rattle.thread_blocks.specs.Held.{data_bytes, block_with, data_with, block_after, data_after, fresh_if, fresh_data}
use Rattle.thread_blocks.specs.Instances.{Loads, block_range}
use Rattle.thread_blocks.specs.SpaceLaws.{FoundAlike, SameRange}
use Rattle.whole_meaning.specs.Meanings.{Meaning}
use Rattle.tied_meaning.specs.Numbers.{Setting, SameByte}
use Rattle.tied_meaning.specs.Ties.{IsTied, SameShared}
use Rattle.tied_meaning.specs.Threads.{IsPlaced, IsRangeOf, SameOwned}
use Rattle.held_alike.specs.Held.{SameHeld}
use Rattle.held_alike.proofs.Found.{AreFound, find_alike, map_alike, or_alike}

module _ (g : Setting) (m : Meaning) (q : Loads ℕ) (thread : ℕ) (x : Instance) (tied : IsTied g m q x) where
  abbrev Same : List (Owned Byte) → List (Owned ℕ) → Type 0
  Same = SameHeld g q thread

  abbrev Placed : Owned ℕ → Type 0
  Placed = IsPlaced g q thread

  -- bytes of a range, as many as it has
  abbrev AreBytes : ℕ → List Byte → List ℕ → Type 0
  AreBytes size bs bs' = All2 (SameByte g) bs bs' × (length bs' ≡ size)

  -- ** what is found under the instance's number is its own, and so as long as it has to be

  is_own : (o : Owned ℕ) (placed : Placed o) → o.owner.instance ≡ x.number → placed.0 ≡ x
  is_own o placed e =
      let known : g.known x.number ≡ Some placed.0 = subst (λ (n : ℕ). g.known n ≡ Some placed.0) e placed.1.0 in
      let own = tied.known in cc

  of_own : (o : Owned ℕ) → Placed o → (o.owner.instance == x.number) ≡ true → IsRangeOf q thread x o.owner.kind o.range
  of_own o placed is =
      subst (λ (y : Instance). IsRangeOf q thread y o.owner.kind o.range)
      (is_own o placed (eqb-true o.owner.instance x.number is)) placed.1.1

  block_long : (kind : Kind) (range : Range ℕ) → is_block kind ≡ true → IsRangeOf q thread x kind range
      → length range.bytes ≡ length (q.block x)
  block_long Block range e r = r.1
  block_long Data range e r = absurd cc

  data_long : (kind : Kind) (range whole : Range ℕ) → not (is_block kind) ≡ true → q.shared x ≡ Some whole
      → IsRangeOf q thread x kind range → length range.bytes ≡ length whole.bytes
  data_long Block range whole e f r = absurd cc
  data_long Data range whole e f r =
      let same : r.0 ≡ whole = let own = r.1.0 in cc in
      subst (λ (w : Range ℕ). length range.bytes ≡ length w.bytes) same r.1.1.1

  module _ (xs : List (Owned Byte)) (ys : List (Owned ℕ)) (h : Same xs ys) where
    block_found : FoundAlike (AreBytes (length (q.block x))) (block_bytes x.number xs) (block_bytes x.number ys)
    block_found =
        map_alike (AreFound g (is_block_of x.number) Placed) (AreBytes (length (q.block x))) (λ o. o.range.bytes)
        (λ o. o.range.bytes) (λ o o' f.
        let parts = and_parts (is_block o'.owner.kind) (o'.owner.instance == x.number) f.1.1 in
        (f.0.range.bytes, block_long o'.owner.kind o'.range parts.0 (of_own o' f.1.0 parts.1))) _ _
        (find_alike g (is_block_of x.number) Placed xs ys h.0 h.1)

    data_found : (whole : Range ℕ) → q.shared x ≡ Some whole
        → FoundAlike (AreBytes (length whole.bytes)) (data_bytes x.number xs) (data_bytes x.number ys)
    data_found whole there =
        map_alike (AreFound g (is_data_of x.number) Placed) (AreBytes (length whole.bytes)) (λ o. o.range.bytes)
        (λ o. o.range.bytes) (λ o o' f.
        let parts = and_parts (not (is_block o'.owner.kind)) (o'.owner.instance == x.number) f.1.1 in
        (f.0.range.bytes, data_long o'.owner.kind o'.range whole parts.0 there (of_own o' f.1.0 parts.1))) _ _
        (find_alike g (is_data_of x.number) Placed xs ys h.0 h.1)

  -- ** what is made

  fresh_alike : (wanted : Bool) (bs : List Byte) (bs' : List ℕ) → All2 (SameByte g) bs bs'
      → FoundAlike (AreBytes (length bs')) (fresh_if wanted bs) (fresh_if wanted bs')
  fresh_alike true bs bs' h = (h, refl)
  fresh_alike false bs bs' h = tt

  nothing : Same [] []
  nothing = (tt, All-nil Placed)

  one : (o : Owned Byte) (o' : Owned ℕ) → SameOwned g o o' → Placed o' → Same (o ∷ []) (o' ∷ [])
  one o o' same placed = ((same, tt), All-cons Placed o' [] placed (All-nil Placed))

  block_made : (bs : Option (List Byte)) (bs' : Option (List ℕ)) → FoundAlike (AreBytes (length (q.block x))) bs bs'
      → Same (block_with thread x bs) (block_with thread x bs')
  block_made None None h = nothing
  block_made None (Some b') h = absurd h
  block_made (Some b) None h = absurd h
  block_made (Some b) (Some b') h =
      one (record { owner = record { kind = Block; instance = x.number }; range = block_range thread x b })
      (record { owner = record { kind = Block; instance = x.number }; range = block_range thread x b' })
      (record {
        owner = refl;
        range = record { start = refl; readable = refl; writable = refl; runnable = refl; bytes = h.0 };
      })
      (x, (tied.known, (refl, h.1)))

  data_made : (r : Range Byte) (r' : Range ℕ) → q.shared x ≡ Some r' → SameRange (SameByte g) r r'
      → (bs : Option (List Byte)) (bs' : Option (List ℕ)) → FoundAlike (AreBytes (length r'.bytes)) bs bs'
      → Same (data_with x (Some r) bs) (data_with x (Some r') bs')
  data_made r r' there same None None h = nothing
  data_made r r' there same None (Some b') h = absurd h
  data_made r r' there same (Some b) None h = absurd h
  data_made r r' there same (Some b) (Some b') h =
      one (record { owner = record { kind = Data; instance = x.number }; range = record r { bytes = b } })
      (record { owner = record { kind = Data; instance = x.number }; range = record r' { bytes = b' } })
      (record {
        owner = refl;
        range = record {
          start = same.start;
          readable = same.readable;
          writable = same.writable;
          runnable = same.runnable;
          bytes = h.0;
        };
      })
      (x, (tied.known, (r', (there, (refl, h.1)))))

  -- ** the instance's block and its data

  pub block_after_alike : (wanted : Instance → Bool) (xs : List (Owned Byte)) (ys : List (Owned ℕ)) → Same xs ys
      → Same (block_after m.loads thread wanted xs x) (block_after q thread wanted ys x)
  block_after_alike wanted xs ys h =
      block_made _ _
      (or_alike (AreBytes (length (q.block x))) (block_bytes x.number xs) (fresh_if (wanted x) (m.loads.block x))
      (block_bytes x.number ys) (fresh_if (wanted x) (q.block x)) (block_found xs ys h)
      (fresh_alike (wanted x) (m.loads.block x) (q.block x) tied.block))

  pub data_after_alike : (loads : Instance → Bool) (xs : List (Owned Byte)) (ys : List (Owned ℕ)) → Same xs ys
      → Same (data_after m.loads loads xs x) (data_after q loads ys x)
  data_after_alike loads xs ys h = of_shared (m.loads.shared x) (q.shared x) refl tied.shared
    where
      of_shared : (r : Option (Range Byte)) (r' : Option (Range ℕ)) → q.shared x ≡ r' → SameShared g r r'
          → Same (data_with x r (option_or (fresh_data r (loads x)) (data_bytes x.number xs)))
          (data_with x r' (option_or (fresh_data r' (loads x)) (data_bytes x.number ys)))
      of_shared None None e s = nothing
      of_shared None (Some r') e s = absurd s
      of_shared (Some r) None e s = absurd s
      of_shared (Some r) (Some r') e s =
          data_made r r' e s _ _
          (or_alike (AreBytes (length r'.bytes)) (fresh_if (loads x) r.bytes) (data_bytes x.number xs)
          (fresh_if (loads x) r'.bytes) (data_bytes x.number ys) (fresh_alike (loads x) r.bytes r'.bytes s.bytes)
          (data_found xs ys h r' e))
