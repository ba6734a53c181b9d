-- The places of data: what is held of a live instance is found there, and nothing else that is held lies there.
use Rattle.std.proofs.Common.{◌≡◌, ◌∙◌, ◌+◌, ◌-◌, ◌<◌, ◌≤◌, ◌^◌, ◌&&◌, ◌==◌, ℕ, Bool, true, false, List, [], ◌∷◌}
use Rattle.std.proofs.Common.{length, Option, Some, None, IfSome, refl, sym, ap, subst, inl, inr, arith, append-nil}
use Rattle.std.specs.Prelude.{is_some, nat_le, nat_lt, option_map}
use Rattle.std.specs.List.{find, flat_map}
use Rattle.std.specs.Option.{option_or}
use Rattle.std.proofs.lemmas.Bool.{and_parts, both_ways, cases_Bool, eq-eqb, eqb-true, false_from_ne_true, le-leb}
use Rattle.std.proofs.lemmas.Bool.{leb-true, lt-ltb}
use Rattle.address_map.specs.Map.{block_place, stack_start}
use Rattle.guest_machine.specs.Ranges.{Range, holds}
use Rattle.known_instances.proofs.Placed.{placed_in}
use Rattle.loaded_modules.specs.declared.instance.Instance.{Instance}
use Rattle.module_table.specs.declared.events.Event.{Event}
use Rattle.module_table.specs.Past.{IsLegal}
use Rattle.thread_blocks.specs.Held.{Block, Data, Held, Kind, Owned, data_after, data_bytes, fresh_data, is_data_of}
use Rattle.thread_blocks.specs.Held.{loaded_at, looked_at, owned_by}
use Rattle.thread_blocks.specs.Instances.{Loads, block_start, instances, numbered_instance}
use Rattle.thread_blocks.specs.Spaces.{stack_range}
use Rattle.shared_data.specs.Changes.{Written, changed_by, data_at, data_found, written_in}
use Rattle.shared_data.specs.Laws.{DataAreHeld}
use Rattle.shared_data.specs.Places.{IsDataRange, LiesLow}
use Rattle.shared_data.proofs.Fits.{Fits, IsLive, IsOf, all_blocks, data_in, each_of, of_live, past_blocks}
use Rattle.shared_data.proofs.Held.{with_owned_by}
use Rattle.shared_data.proofs.Left.{Each}
use Rattle.shared_data.proofs.Legal.{numbering}

-- ** what is found at a place

and_false : (b : Bool) → b && false ≡ false
and_false true = refl
and_false false = refl

module _ {B : Type 0} (n : ℕ) (range : Range B) (bytes : List B) (k : ℕ) (less : k < length bytes) where
  from : nat_le range.start (range.start + k) ≡ true
  from = le-leb range.start (range.start + k) (omega arith)

  at : range.start + k - range.start ≡ k
  at = omega arith

  -- nothing but the data of the number is there
  abbrev pub Alone : List (Owned B) → Type 0
  Alone xs = Each (λ (o : Owned B). is_data_of n o.owner ≡ false → holds o.range (range.start + k) ≡ false) xs

  read_here : range.readable ≡ true → (more : List (Owned B))
      → data_found (data_in n range bytes ∷ more) (range.start + k) ≡ Some (n, k)
  read_here readable more =
      let start = from in
      let offset = at in
      rw (readable, start, offset, lt-ltb k (length bytes) less) refl

  -- what a load finds
  pub found_at : range.readable ≡ true → (xs : List (Owned B))
      → find (λ (o : Owned B). is_data_of n o.owner) xs ≡ Some (data_in n range bytes) → Alone xs
      → data_found xs (range.start + k) ≡ Some (n, k)
  found_at readable [] e alone = cc
  found_at readable (x ∷ xs) e alone = elim (cases_Bool (is_data_of n x.owner)) [
    | inl t ↦
        let same : x ≡ data_in n range bytes = (let s : Some x ≡ Some (data_in n range bytes) = rw t at e in
        let first = s in cc) in
        ap (λ (y : Owned B). data_found (y ∷ xs) (range.start + k)) same ∙ read_here readable xs
    | inr f ↦
        let rest : find (λ (o : Owned B). is_data_of n o.owner) xs ≡ Some (data_in n range bytes) = rw f at e in
        rw (alone.0 f, and_false x.range.readable) (found_at readable xs rest alone.1)
  ]

  written_here : range.writable ≡ true → (more : List (Owned B)) (byte : B)
      → written_in (data_in n range bytes ∷ more) (range.start + k) byte ≡ Written n k byte ∷ []
  written_here writable more byte =
      let start = from in
      let offset = at in
      rw (writable, start, offset, lt-ltb k (length bytes) less) refl

  -- what a store changes
  pub written_at : range.writable ≡ true → (xs : List (Owned B))
      → find (λ (o : Owned B). is_data_of n o.owner) xs ≡ Some (data_in n range bytes) → Alone xs → (byte : B)
      → written_in xs (range.start + k) byte ≡ Written n k byte ∷ []
  written_at writable [] e alone byte = cc
  written_at writable (x ∷ xs) e alone byte = elim (cases_Bool (is_data_of n x.owner)) [
    | inl t ↦
        let same : x ≡ data_in n range bytes = (let s : Some x ≡ Some (data_in n range bytes) = rw t at e in
        let first = s in cc) in
        ap (λ (y : Owned B). written_in (y ∷ xs) (range.start + k) byte) same ∙ written_here writable xs byte
    | inr f ↦
        let rest : find (λ (o : Owned B). is_data_of n o.owner) xs ≡ Some (data_in n range bytes) = rw f at e in
        rw (alone.0 f, and_false x.range.writable) (written_at writable xs rest alone.1 byte)
  ]

-- ** where it is held

below : {B : Type 0} (r : Range B) (place : ℕ) → place < r.start → holds r place ≡ false
below r place low = false_from_ne_true (holds r place) (λ t.
    let from = leb-true r.start place (and_parts (nat_le r.start place)
    (nat_lt (place - r.start) (length r.bytes)) t).0 in
    absurd (omega (arith, low, from)))

-- blocks begin above all that is loaded
block_high : (thread number : ℕ) (offset : Option ℕ) → 1 ≤ thread → IfSome offset (λ (o : ℕ). o < 2 ^ 28)
    → 2 ^ 40 ≤ block_place thread number offset
block_high thread number None first low = omega (arith, first)
block_high thread number (Some offset) first low = omega (arith, first, low)

low_offset : (offset : Option ℕ) (size : ℕ) → IfSome offset (λ (o : ℕ). (o < 2 ^ 28) × (size ≤ o))
    → IfSome offset (λ (o : ℕ). o < 2 ^ 28)
low_offset None size low = tt
low_offset (Some offset) size low = low.0

some_found : {B : Type 0} (found : Option (Owned B)) (bytes : List B)
    → option_map (λ (o : Owned B). o.range.bytes) found ≡ Some bytes
    → (o : Owned B) × ((found ≡ Some o) × (o.range.bytes ≡ bytes))
some_found None bytes e = cc
some_found (Some o) bytes e = (o, (refl, (let same = e in cc)))

found_each : {B : Type 0} (P : Owned B → Type 0) (test : Owned B → Bool) (xs : List (Owned B)) (o : Owned B)
    → Each P xs → find test xs ≡ Some o → P o × (test o ≡ true)
found_each P test [] o each e = cc
found_each P test (x ∷ xs) o each e = elim (cases_Bool (test x)) [
  | inl t ↦
      let same : x ≡ o = (let s : Some x ≡ Some o = rw t at e in let first = s in cc) in
      subst (λ (y : _). P y × (test y ≡ true)) same (each.0, t)
  | inr f ↦ found_each P test xs o each.1 (rw f at e)
]

module _ {W F B : Type 0} (l : Loads B) (low : LiesLow l) (thread : ℕ) (first : 1 ≤ thread) (seen : List Event)
    (legal : IsLegal l.infos l.last_offset seen) (h : Held W F B)
    (fits : Fits l thread (instances l seen) (owned_by h)) (x : Instance) (range : Range B)
    (live : numbered_instance l seen x.number ≡ Some x) (shared : l.shared x ≡ Some range) where
  abbrev all : List Instance
  all = instances l seen

  is : IsDataRange x range
  is = low.shared seen legal x range live shared

  -- its data
  one_live : (y : Instance) → IsLive all y → y.number ≡ x.number → x ≡ y
  one_live y at same =
      let both : Some x ≡ Some y = sym live
      ∙ subst (λ (n : ℕ). find (λ (z : Instance). z.number == n) all ≡ Some y) same at in
      let b = both in cc

  data_is : (kind : Kind) (n : ℕ) (r : Range B) → is_data_of x.number (record { kind = kind; instance = n }) ≡ true
      → IsOf l thread all (record { owner = record { kind = kind; instance = n }; range = r })
      → (◌≡◌ {A = Owned B} (record { owner = record { kind = kind; instance = n }; range = r })
      (data_in x.number range r.bytes)) × (length r.bytes ≡ length range.bytes)
  data_is Block n r t of = cc
  data_is Data n r t of =
      let number : n ≡ x.number = eqb-true n x.number t in
      let same = one_live of.0 of.1.0 (sym of.1.1.0 ∙ number) in
      let whole = of.1.1.1 in
      let one : whole.0 ≡ range = (let both : Some whole.0 ≡ Some range = sym whole.1.0
      ∙ (ap l.shared (sym same) ∙ shared) in let b = both in cc) in (
        subst (λ (s : Range B).
            ◌≡◌ {A = Owned B} (record { owner = record { kind = Data; instance = n }; range = r })
            (record { owner = record { kind = Data; instance = x.number }; range = s }))
            (whole.1.1.0 ∙ ap (λ (s : Range B). record s { bytes = r.bytes }) one)
            (ap (λ (m : ℕ). record { owner = record { kind = Data; instance = m }; range = r }) number),
        whole.1.1.1 ∙ ap (λ (s : Range B). length s.bytes) one,
      )

  pub record Lies : Type 0 where
    pub bytes : List B
    pub held : find (λ (o : Owned B). is_data_of x.number o.owner) (owned_by h) ≡ Some (data_in x.number range bytes)
    pub long : length bytes ≡ length range.bytes

  pub lies : Lies
  lies =
      let its = fits.all x live range shared in
      let some = some_found (find (λ (o : Owned B). is_data_of x.number o.owner) (owned_by h)) its.0 its.1.0 in
      let o = some.0 in
      let both = found_each (IsOf l thread all) (λ (o : Owned B). is_data_of x.number o.owner) (owned_by h) o fits.of
      some.1.0 in
      let is = data_is o.owner.kind o.owner.instance o.range both.1 both.0 in
      record { bytes = o.range.bytes; held = some.1.0 ∙ ap (λ (p : Owned B). Some p) is.0; long = is.1 }

  module _ (k : ℕ) (less : k < length range.bytes) where
    abbrev pub place : ℕ
    place = range.start + k

    inside : holds range place ≡ true
    inside =
        let from : nat_le range.start (range.start + k) ≡ true = le-leb range.start (range.start + k) (omega arith) in
        let at : range.start + k - range.start ≡ k = omega arith in
        rw (from, at, lt-ltb k (length range.bytes) less) refl

    -- ** nothing else lies there

    no_stack : holds (stack_range (stack_start thread) h.after.memory.stack) place ≡ false
    no_stack = below (stack_range (stack_start thread) h.after.memory.stack) place
        (let under = (is.place place inside).1 in omega (arith, first, under))

    no_other : (kind : Kind) (n : ℕ) (r : Range B)
        → IsOf l thread all (record { owner = record { kind = kind; instance = n }; range = r })
        → is_data_of x.number (record { kind = kind; instance = n }) ≡ false → holds r place ≡ false
    no_other Block n r of f =
        let y = of.0 in
        let at = placed_in (numbering l) seen legal seen y.number y ([], sym (append-nil seen)) of.1.0 in
        let high = block_high thread y.number y.offset first (low_offset y.offset _ at.offset) in
        let start : r.start ≡ block_start thread y = of.1.1.1 in
        let under = (is.place place inside).1 in
        below r place (omega (arith, high, start, under))
    no_other Data n r of f = false_from_ne_true (holds r place) (λ t.
        let y = of.0 in
        let whole = of.1.1.1 in
        let there = subst (λ (s : Range B). holds s place ≡ true) whole.1.1.0 t in
        let held : holds whole.0 place ≡ true =
        subst (λ (n : ℕ). (nat_le whole.0.start place && nat_lt (place - whole.0.start) n) ≡ true) whole.1.1.1 there in
        let other = ((low.shared seen legal y whole.0 of.1.0 whole.1.0).place place held).0 in
        let number : n ≡ x.number = of.1.1.0 ∙ (sym other ∙ (is.place place inside).0) in
        both_ways (n == x.number) f (eq-eqb n x.number number))

    alone : Alone x.number range lies.bytes k (rw lies.long less) (owned_by h)
    alone = each_of (IsOf l thread all)
        (λ (o : Owned B). is_data_of x.number o.owner ≡ false → holds o.range place ≡ false) (owned_by h)
        (λ o of f. no_other o.owner.kind o.owner.instance o.range of f) fits.of

    -- ** so it is found

    pub is_read : data_at (stack_start thread) h place ≡ Some (x.number, k)
    is_read =
        let beside = no_stack in
        rw beside (found_at x.number range lies.bytes k (rw lies.long less) is.readable (owned_by h) lies.held alone)

    pub is_written : (byte : B)
        → changed_by (stack_start thread) h.owners h.after.memory place byte ≡ Written x.number k byte ∷ []
    is_written byte =
        let beside = no_stack in
        rw beside
        (written_at x.number range lies.bytes k (rw lies.long less) is.writable (owned_by h) lies.held alone byte)

-- ** what is held

module _ {B : Type 0} (l : Loads B) (x : Instance) (range : Range B) (shared : l.shared x ≡ Some range) where
  fresh : (xs : List (Owned B)) (b : Bool) → b ≡ true
      → option_or (fresh_data (l.shared x) b) (data_bytes x.number xs) ≡ Some range.bytes
  fresh xs b t = rw (shared, t) refl

  none_fresh : (o : Option (Range B)) (bytes : Option (List B)) → option_or (fresh_data o false) bytes ≡ bytes
  none_fresh None bytes = refl
  none_fresh (Some r) bytes = refl

pub data_held : {W F B : Type 0} → DataAreHeld W F B
unfolding looked_at loaded_at
data_held l thread seen h x range shared = (
  (λ live bytes before.
      ap (find (λ o. is_data_of x.number o.owner)) (with_owned_by h (looked_at l thread seen (owned_by h)))
      ∙ (past_blocks x.number _ (flat_map (data_after l (λ y. false) (owned_by h)) (instances l seen))
      (all_blocks l thread (λ y. is_some y.offset) (owned_by h) (instances l seen))
      ∙ of_live x.number l (λ y. false) (owned_by h) x range bytes shared
      (none_fresh l x range shared (l.shared x) (data_bytes x.number (owned_by h)) ∙ before)
      (instances l seen) live (eq-eqb x.number x.number refl))),
  (λ live.
      ap (find (λ o. is_data_of x.number o.owner))
      (with_owned_by h (loaded_at l thread h.after.memory.seen x (owned_by h)))
      ∙ (past_blocks x.number _
      (flat_map (data_after l (λ y. y.number == x.number) (owned_by h)) (instances l h.after.memory.seen))
      (all_blocks l thread (λ y. false) (owned_by h) (instances l h.after.memory.seen))
      ∙ of_live x.number l (λ y. y.number == x.number) (owned_by h) x range range.bytes shared
      (fresh l x range shared (owned_by h) (x.number == x.number) (eq-eqb x.number x.number refl))
      (instances l h.after.memory.seen) live (eq-eqb x.number x.number refl))),
  (λ live.
      ap (find (λ o. is_data_of x.number o.owner))
      (with_owned_by h (flat_map (data_after l (λ y. true) []) (instances l [])))
      ∙ of_live x.number l (λ y. true) [] x range range.bytes shared (fresh l x range shared [] true refl)
      (instances l []) live (eq-eqb x.number x.number refl)),
)
