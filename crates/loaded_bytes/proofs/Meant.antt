-- Constants, the initial image, data and blocks are loaded as the meaning of the job loads them.
use Rattle.std.proofs.Common.{◌≡◌, ◌+◌, ◌-◌, ◌<◌, ◌≤◌, ◌&&◌, ◌∙◌, ℕ, suc, Bool, true, false, List, [], ◌∷◌, Option}
use Rattle.std.proofs.Common.{Some}
use Rattle.std.proofs.Common.{None, length, map, inl, inr, refl, sym, ap, arith, if◌then◌else◌, length-append}
use Rattle.std.specs.Prelude.{nat_le, nat_lt, option_map, replicate, slice_get}
use Rattle.std.specs.List.{range_with_len}
use Rattle.std.proofs.lemmas.Bool.{cases_lt, le-leb, lt-ltb}
use Rattle.std.proofs.lemmas.Bool.Decides.{nat_tests}
use Rattle.std.proofs.lemmas.List.{length-map, length-replicate}
use Rattle.std.proofs.lemmas.List.FromFn.{get_or-map-range_with_len, length-map-range_with_len}
use Rattle.std.proofs.lemmas.Option.{same_Some, slice_get-get_or, slice_get-map}
use Rattle.guest_operands.specs.declared.space.Access.TheVariants.{Read}
use Rattle.guest_operands.specs.Ranges.{Range, byte_in, holds}
use Rattle.job_meaning.specs.declared.values.Byte.{Byte}
use Rattle.job_meaning.specs.declared.values.Byte.TheVariants.{Value}
use Rattle.link_needs.specs.Linking.{Linking, layout}
use Rattle.loaded_modules.specs.declared.instance.Instance.{Instance}
use Rattle.object_faults.specs.declared.class.SectionClass.{SectionClass}
use Rattle.object_faults.specs.declared.class.SectionClass.TheVariants.{Executable, ReadOnly, Tls, Writable}
use Rattle.thread_blocks.specs.JobLoads.{job_loads}
use Rattle.tls_layout.proofs.LawsOfPlaces.{classes_follow}
use Rattle.tls_layout.proofs.LawsOfTls.{front_of_segment}
use Rattle.tls_layout.specs.Places.{extent_for}
use Rattle.tls_layout.specs.Places.{initial_tls, tls_size}
use Rattle.tls_relocs.specs.Elements.{slice_get-append, slice_get-append_behind, slice_get-replicate}
use Rattle.whole_meaning.specs.Bytes.{block_bytes, byte_of, class_bytes}
use Rattle.whole_meaning.specs.Loads.{still_ranges, class_range}
use Rattle.link_needs.specs.Linking.{has_writable_data}
use Rattle.whole_meaning.specs.Spots.{bias_of, in_room, spot_in}
use Rattle.loaded_bytes.specs.Bytes.{byte_at}
use Rattle.loaded_bytes.specs.Laws.{IsBlockOf, IsData, IsDataOf, IsIn, IsInstanceOf, images_of}
use Rattle.loaded_bytes.specs.Meant.{BlocksAreMeant, DataIsMeant, ReadsAreMeant, valued}
use Rattle.loaded_bytes.specs.Places.{IsInMoved}
use Rattle.loaded_bytes.proofs.Blocks.{blocks_loaded}
use Rattle.loaded_bytes.proofs.Data.{data_loaded}
use Rattle.loaded_bytes.proofs.Elsewhere.{elsewhere}
use Rattle.loaded_bytes.proofs.Still.{constants_loaded}
use Rattle.loaded_bytes.proofs.Values.{bytes_meant}

-- two lists that agree element by element
pub same_lists : (xs ys : List ℕ) → length xs ≡ length ys → ((k : ℕ) → k < length xs → slice_get xs k ≡ slice_get ys k)
    → xs ≡ ys
same_lists [] [] long same = refl
same_lists [] (y ∷ ys) long same = absurd (omega (arith, long))
same_lists (x ∷ xs) [] long same = absurd (omega (arith, long))
same_lists (x ∷ xs) (y ∷ ys) long same =
    let first = same_Some x y (same 0 (omega arith)) in
    let rest = same_lists xs ys (omega (arith, long)) (λ k below. same (suc k) (omega (arith, below))) in
    cc

-- ** a class of the meaning

module _ (l : Linking) (bias : ℕ) (class : SectionClass) where
  class_long : length (class_bytes l bias class)
      ≡ (extent_for class (layout l)).end - (extent_for class (layout l)).start
  unfolding class_bytes
  class_long =
      length-map-range_with_len (λ address. byte_of l bias (spot_in l class address))
      (extent_for class (layout l)).start
      ((extent_for class (layout l)).end - (extent_for class (layout l)).start)

  class_at : (k : ℕ) → k < (extent_for class (layout l)).end - (extent_for class (layout l)).start
      → slice_get (class_bytes l bias class) k
      ≡ Some (byte_of l bias (spot_in l class ((extent_for class (layout l)).start + k)))
  unfolding class_bytes
  class_at k below =
      let f : ℕ → ℕ = λ address. byte_of l bias (spot_in l class address) in
      let start = (extent_for class (layout l)).start in
      let n = (extent_for class (layout l)).end - start in
      slice_get-get_or (map f (range_with_len start n)) k 0 (omega (arith, below, length-map-range_with_len f start n))
      ∙ ap Some (get_or-map-range_with_len f start n k (start + k) 0 below refl)

module _ (ls : List Linking) (l : Linking) (x : Instance) (is : IsInstanceOf ls l x) where
  same_byte : (class : SectionClass) (address : ℕ) → (class ≡ Executable → ⊥)
      → byte_at l (bias_of l.kind x.number) class address
      ≡ byte_of l (bias_of l.kind x.number) (spot_in l class address)
  same_byte class address other = bytes_meant l x.number address class is.given is.links is.stray other

  -- ** blocks

  blocks : (block : List ℕ) → IsBlockOf l (bias_of l.kind x.number) block
      → block ≡ block_bytes l (bias_of l.kind x.number)
  blocks block b =
      same_lists block (block_bytes l (bias_of l.kind x.number)) long (λ k below. at k (omega (arith, below, b.long)))
    where
      initial : List ℕ
      initial = class_bytes l (bias_of l.kind x.number) (Tls true)

      zeros : ℕ
      zeros = tls_size (layout l).sections - length (class_bytes l (bias_of l.kind x.number) (Tls true))

      front : length (class_bytes l (bias_of l.kind x.number) (Tls true)) ≡ (initial_tls (layout l).sections).end
      front =
          let len = (front_of_segment (layout l) is.links.sound.limits.lawful).len in
          omega (arith, len, class_long l (bias_of l.kind x.number) (Tls true))

      inside : (initial_tls (layout l).sections).end ≤ tls_size (layout l).sections
      inside = (front_of_segment (layout l) is.links.sound.limits.lawful).inside

      long : length block ≡ length (block_bytes l (bias_of l.kind x.number))
      long =
          let rest : length {A = ℕ} (replicate
          (tls_size (layout l).sections - length (class_bytes l (bias_of l.kind x.number) (Tls true))) 0)
          ≡ tls_size (layout l).sections - length (class_bytes l (bias_of l.kind x.number) (Tls true)) =
          length-replicate (tls_size (layout l).sections - length
          (class_bytes l (bias_of l.kind x.number) (Tls true))) 0 in
          let both = length-append (class_bytes l (bias_of l.kind x.number) (Tls true))
          (replicate (tls_size (layout l).sections - length (class_bytes l (bias_of l.kind x.number) (Tls true))) 0) in
          omega (arith, b.long, both, rest, front, inside)

      at : (k : ℕ) → k < tls_size (layout l).sections
          → slice_get block k ≡ slice_get (block_bytes l (bias_of l.kind x.number)) k
      at k below = elim (cases_lt k (initial_tls (layout l).sections).end) [
        | inl low ↦
            let len = (front_of_segment (layout l) is.links.sound.limits.lawful).len in
            b.initial k low
            ∙ ap Some (same_byte (Tls true) ((extent_for (Tls true) (layout l)).start + k) (λ e. cc))
            ∙ sym (slice_get-append (class_bytes l (bias_of l.kind x.number) (Tls true))
            (replicate (tls_size (layout l).sections - length (class_bytes l (bias_of l.kind x.number) (Tls true))) 0) k
            (omega (arith, front, low))
            ∙ class_at l (bias_of l.kind x.number) (Tls true) k (omega (arith, len, low)))
        | inr high ↦
            b.rest k high below
            ∙ sym (slice_get-append_behind (class_bytes l (bias_of l.kind x.number) (Tls true))
            (replicate (tls_size (layout l).sections - length (class_bytes l (bias_of l.kind x.number) (Tls true))) 0) k
            (omega (arith, front, high))
            ∙ slice_get-replicate (tls_size (layout l).sections - length
            (class_bytes l (bias_of l.kind x.number) (Tls true)))
            (k - length (class_bytes l (bias_of l.kind x.number) (Tls true))) 0 (omega (arith, front, high, below)))
      ]

  -- ** data

  data_same : (range : Range ℕ) → IsDataOf l (bias_of l.kind x.number) range
      → valued range ≡ class_range l (bias_of l.kind x.number) (Writable true)
  data_same range d =
      let class = Writable true in
      let long = class_long l (bias_of l.kind x.number) (Writable true) in
      let rise = (classes_follow (layout l)).rise (Writable true) in
      let bytes : range.bytes ≡ class_bytes l (bias_of l.kind x.number) (Writable true) =
      same_lists range.bytes (class_bytes l (bias_of l.kind x.number) (Writable true))
      (omega (arith, d.long, d.start_is, long, rise))
      (λ k below.
      d.each k below
      ∙ ap Some (same_byte (Writable true) ((extent_for (Writable true) (layout l)).start + k) (λ e. cc))
      ∙ sym (class_at l (bias_of l.kind x.number) (Writable true) k
      (omega (arith, d.long, d.start_is, below, rise)))) in
      fields range.start _ (map Value range.bytes) _ range.readable true range.writable true range.runnable false d.start_is
      (ap (map Value) bytes) d.readable d.writable d.runnable
    where
      fields : (s t : ℕ) (xs ys : List Byte) (a b c d e f : Bool) → s ≡ t → xs ≡ ys → a ≡ b → c ≡ d → e ≡ f
          → ◌≡◌ {A = Range Byte} (record { start = s; bytes = xs; readable = a; writable = c; runnable = e })
          (record { start = t; bytes = ys; readable = b; writable = d; runnable = f })
      fields s t xs ys a b c d e f p q r u v = rw (p, q, r, u, v) refl

  data_either : (has : Bool) (found : Option (Range ℕ)) → IsData l (bias_of l.kind x.number) has found
      → option_map valued found ≡ (if has then Some (class_range l (bias_of l.kind x.number) (Writable true)) else None)
  data_either true None d = absurd d
  data_either true (Some range) d = ap Some (data_same range d)
  data_either false None d = refl
  data_either false (Some range) d = absurd d

  -- ** reads

  abbrev bias : ℕ
  bias = bias_of l.kind x.number

  -- a place in a range of the meaning is one of its class
  pub in_range : (class : SectionClass) (place : ℕ) → holds (class_range l (bias_of l.kind x.number) class) place ≡ true
      → IsInMoved l (bias_of l.kind x.number) class place
  in_range class place h =
      let start = (extent_for class (layout l)).start in
      let at = so (start + bias_of l.kind x.number) place
      (length (map Value (class_bytes l (bias_of l.kind x.number) class))) h in
      let mapped = length-map (class_bytes l (bias_of l.kind x.number) class) Value in
      let long = class_long l (bias_of l.kind x.number) class in (
        place - bias_of l.kind x.number,
        omega (arith, at.0),
        (omega (arith, at.0), omega (arith, at.0, at.1, mapped, long)),
      )
    where
      so : (start place n : ℕ) → (nat_le start place && nat_lt (place - start) n) ≡ true
          → (start ≤ place) × (place - start < n)
      so start place n e = grind (arith, nat_tests)

  pub held : (class : SectionClass) (address : ℕ) → IsIn l class address
      → holds (class_range l (bias_of l.kind x.number) class) (address + bias_of l.kind x.number) ≡ true
  held class address within =
      let mapped = length-map (class_bytes l (bias_of l.kind x.number) class) Value in
      let long = class_long l (bias_of l.kind x.number) class in
      rw (
        le-leb ((extent_for class (layout l)).start + bias_of l.kind x.number) (address + bias_of l.kind x.number)
            (omega (arith, within.0)),
        lt-ltb (address + bias_of l.kind x.number - ((extent_for class (layout l)).start + bias_of l.kind x.number))
            (length (map Value (class_bytes l (bias_of l.kind x.number) class)))
            (omega (arith, mapped, long, within.0, within.1)),
      ) refl

  pub byte_there : (class : SectionClass) (address : ℕ) → IsIn l class address
      → slice_get (class_range l (bias_of l.kind x.number) class).bytes
      (address + bias_of l.kind x.number - (class_range l (bias_of l.kind x.number) class).start)
      ≡ Some (Value (byte_of l (bias_of l.kind x.number) (spot_in l class address)))
  byte_there class address within =
      let start = (extent_for class (layout l)).start in
      let k = address - start in
      let index : address + bias_of l.kind x.number - (start + bias_of l.kind x.number) ≡ k = omega (arith, within.0) in
      let again : start + k ≡ address = omega (arith, within.0) in
      ap (slice_get (map Value (class_bytes l (bias_of l.kind x.number) class))) index
      ∙ slice_get-map Value (class_bytes l (bias_of l.kind x.number) class) k
      ∙ ap (option_map Value) (class_at l (bias_of l.kind x.number) class k (omega (arith, within.0, within.1)))
      ∙ ap (λ a. Some (Value (byte_of l (bias_of l.kind x.number) (spot_in l class a)))) again

  -- of two ranges
  abbrev meant : Bool → Bool → ℕ → Option Byte
  meant first second place =
      if first
      then slice_get (class_range l (bias_of l.kind x.number) ReadOnly).bytes
      (place - (class_range l (bias_of l.kind x.number) ReadOnly).start)
      else if second
      then slice_get (class_range l (bias_of l.kind x.number) (Tls true)).bytes
      (place - (class_range l (bias_of l.kind x.number) (Tls true)).start)
      else None

  reads : (place : ℕ) → in_room l (bias_of l.kind x.number) place ≡ false
      → option_map Value (byte_in Read ((job_loads (images_of ls)).fixed x) place)
      ≡ byte_in Read (still_ranges l (bias_of l.kind x.number)) place
  reads place out =
      of_holds (holds (class_range l (bias_of l.kind x.number) ReadOnly) place)
      (holds (class_range l (bias_of l.kind x.number) (Tls true)) place) refl refl
    where
      loaded : (class : SectionClass) → (class ≡ Executable → ⊥)
          → ((address : ℕ) → IsIn l class address
          → byte_in Read ((job_loads (images_of ls)).fixed x) (address + bias_of l.kind x.number)
          ≡ Some (byte_at l (bias_of l.kind x.number) class address))
          → IsInMoved l (bias_of l.kind x.number) class place
          → option_map Value (byte_in Read ((job_loads (images_of ls)).fixed x) place)
          ≡ slice_get (class_range l (bias_of l.kind x.number) class).bytes
          (place - (class_range l (bias_of l.kind x.number) class).start)
      loaded class other each here =
          let address = here.0 in
          ap (λ p. option_map Value (byte_in Read ((job_loads (images_of ls)).fixed x) p)) here.1
          ∙ ap (option_map Value) (each address here.2)
          ∙ ap (λ b. Some (Value b)) (same_byte class address other)
          ∙ sym (byte_there class address here.2)
          ∙ ap (λ p. slice_get (class_range l (bias_of l.kind x.number) class).bytes
          (p - (class_range l (bias_of l.kind x.number) class).start)) (sym here.1)

      none : (found : Option ℕ) → byte_in Read ((job_loads (images_of ls)).fixed x) place ≡ found
          → holds (class_range l (bias_of l.kind x.number) ReadOnly) place ≡ false
          → holds (class_range l (bias_of l.kind x.number) (Tls true)) place ≡ false → option_map Value found ≡ None
      none None e first second = refl
      none (Some byte) e first second = elim ((elsewhere ls l x is).read place byte e) [
        | inl room ↦ absurd (cc)
        | inr here ↦ elim here [
          | inl constant ↦
              let yes_here = ap (λ p. holds (class_range l (bias_of l.kind x.number) ReadOnly) p) constant.1
              ∙ held ReadOnly constant.0 constant.2 in
              absurd (cc)
          | inr initial ↦
              let yes_here = ap (λ p. holds (class_range l (bias_of l.kind x.number) (Tls true)) p) initial.1
              ∙ held (Tls true) initial.0 initial.2 in
              absurd (cc)
        ]
      ]

      of_holds : (first second : Bool) → holds (class_range l (bias_of l.kind x.number) ReadOnly) place ≡ first
          → holds (class_range l (bias_of l.kind x.number) (Tls true)) place ≡ second
          → option_map Value (byte_in Read ((job_loads (images_of ls)).fixed x) place)
          ≡ byte_in Read (still_ranges l (bias_of l.kind x.number)) place
      of_holds first second one two =
          chosen first second one two
          ∙ ap (λ b. meant b second place) (sym one)
          ∙ ap (λ b. meant (holds (class_range l (bias_of l.kind x.number) ReadOnly) place) b place) (sym two)
        where
          chosen : (first second : Bool) → holds (class_range l (bias_of l.kind x.number) ReadOnly) place ≡ first
              → holds (class_range l (bias_of l.kind x.number) (Tls true)) place ≡ second
              → option_map Value (byte_in Read ((job_loads (images_of ls)).fixed x) place) ≡ meant first second place
          chosen true second one two =
              loaded ReadOnly (λ e. cc) (constants_loaded ls l x is).0 (in_range ReadOnly place one)
          chosen false true one two =
              loaded (Tls true) (λ e. cc) (constants_loaded ls l x is).1 (in_range (Tls true) place two)
          chosen false false one two = none (byte_in Read ((job_loads (images_of ls)).fixed x) place) refl one two

-- the laws
pub reads_meant : ReadsAreMeant
reads_meant ls l x place is out = reads ls l x is place out

pub data_meant : DataIsMeant
data_meant ls l x is = data_either ls l x is (has_writable_data l) ((job_loads (images_of ls)).shared x)
    (data_loaded ls l x is)

pub blocks_meant : BlocksAreMeant
blocks_meant ls l x is = blocks ls l x is ((job_loads (images_of ls)).block x) (blocks_loaded ls l x is)
