-- What is known of the instances of images that are linked together, in the machine and in the meaning.
use Rattle.std.proofs.Common.{◌≡◌, ◌∙◌, ◌+◌, ◌-◌, ◌<◌, ◌≤◌, ◌^◌, ◌++◌, ℕ, zero, suc, Bool, true, false, List, [], ◌∷◌}
use Rattle.std.proofs.Common.{length, map, get_or, replicate, Option, Some, None, refl, sym, ap, subst, inl, inr, arith}
use Rattle.std.proofs.Common.{length-append}
use Rattle.std.specs.Prelude.{IfSome, option_map, slice_get, unwrap_or}
use Rattle.std.specs.List.{All}
use Rattle.std.proofs.lemmas.Bool.{cases_lt, le-leb, lt-ltb, ltb-true}
use Rattle.std.proofs.lemmas.List.{length-map, length-replicate}
use Rattle.std.proofs.lemmas.Option.{get_or_from_slice_get, slice_get-get_or, slice_get-map, slice_get_past}
use Rattle.std.proofs.lemmas.Option.{slice_get_within}
use Rattle.guest_arithmetic.specs.Plain.{plain_operations}
use Rattle.guest_machine.specs.Ranges.{Range, holds}
use Rattle.job_meaning.specs.declared.values.Byte.{Byte}
use Rattle.job_meaning.specs.declared.values.Byte.TheVariants.{Value}
use Rattle.link_core.specs.Faults.{Links}
use Rattle.link_core.specs.Laws.{HasNoStray}
use Rattle.link_faults.specs.ImageKinds.{base_of}
use Rattle.link_faults.specs.declared.image_kind.ImageKind.{ImageKind}
use Rattle.link_faults.specs.declared.image_kind.ImageKind.TheVariants.{Exe, Late, Pie, Start}
use Rattle.link_needs.specs.Given.{IsGiven}
use Rattle.link_needs.specs.Linking.{Linking, layout}
use Rattle.linked_modules.specs.Together.{AreTogether}
use Rattle.loaded_bytes.proofs.Blocks.{blocks_loaded}
use Rattle.loaded_bytes.proofs.Data.{data_loaded}
use Rattle.loaded_bytes.proofs.Meant.{blocks_meant, data_meant}
use Rattle.loaded_bytes.proofs.Places.{places_own}
use Rattle.loaded_bytes.specs.Laws.{IsData, IsInstanceOf, images_of}
use Rattle.loaded_bytes.specs.Meant.{valued}
use Rattle.loaded_bytes.specs.Places.{IsApart, IsOwn}
use Rattle.loaded_modules.specs.declared.instance.Instance.{Instance}
use Rattle.loaded_modules.specs.Images.{last_offset}
use Rattle.loaded_names.proofs.Infos.{infos_loaded}
use Rattle.loaded_names.proofs.Meant.{infos_meant}
use Rattle.module_table.specs.Past.{IsLegal}
use Rattle.module_table.specs.Modules.{startup_end}
use Rattle.module_table.specs.Modules.{no_module}
use Rattle.module_table.specs.declared.events.Event.{Event}
use Rattle.module_table.specs.declared.modules.ImageInfo.{ImageInfo}
use Rattle.object_faults.specs.declared.class.SectionClass.TheVariants.{Tls, Writable}
use Rattle.thread_blocks.specs.Instances.{Loads, fixed_at, instances}
use Rattle.thread_blocks.specs.JobLoads.{job_loads}
use Rattle.thread_blocks.specs.MachineTurns.{pointer_word}
use Rattle.thread_blocks.specs.Turns.{at_number}
use Rattle.thread_blocks.specs.Turns.{IsFront}
use Rattle.shared_data.specs.Places.{LiesLow}
use Rattle.tls_layout.specs.Places.{extent_for}
use Rattle.tls_layout.specs.Places.{tls_size}
use Rattle.tls_relocs.specs.Elements.{slice_get-append, slice_get-append_behind, slice_get-replicate}
use Rattle.whole_meaning.specs.Bytes.{block_bytes, class_bytes}
use Rattle.whole_meaning.specs.Loads.{info_of, loads_of}
use Rattle.link_needs.specs.Linking.{has_writable_data}
use Rattle.whole_meaning.specs.Spots.{bias_of}
use Rattle.whole_meaning.specs.Threads.{ops}
use Rattle.tls_map_laws.specs.Initial.{initial_image, initial_meant}
use Rattle.tls_map_laws.proofs.Beside.{blocks_alone, blocks_high}
use Rattle.tls_map_laws.proofs.Known.{Around, IsLow, Known}
use Rattle.tls_map_laws.proofs.Live.{BlocksAreLong, is_live, known_all}
use Rattle.tls_map_laws.proofs.Places.{Member}
use Rattle.std.specs.Option.{option_map_or}

-- ** the link of an instance

one_of : (P : Linking → Type 0) (ls : List Linking) (n : ℕ) (l : Linking) → All P ls → at_number ls n ≡ Some l → P l
one_of P ls zero l all at = cc
one_of P ls (suc i) l all at = subst P (get_or_from_slice_get ls i l l at) (all i l (slice_get_within ls i l at))

found_at : (ls : List Linking) (i : ℕ) → i < length ls → (l : Linking) × (slice_get ls i ≡ Some l)
found_at [] i below = absurd (omega (arith, below))
found_at (l ∷ ls) zero below = (l, refl)
found_at (l ∷ ls) (suc i) below = found_at ls i (omega (arith, below))

-- all that is loaded of an image lies below 2^39: an instance's number is below 2^12
kind_low : (kind : ImageKind) (number : ℕ) → number < 2 ^ 12 → base_of kind + 2 ^ 26 + bias_of kind number + 1 < 2 ^ 39
kind_low Exe number low = omega arith
kind_low Pie number low = omega (arith, low)
kind_low Start number low = omega (arith, low)
kind_low Late number low = omega (arith, low)

own_low : (l : Linking) (number place : ℕ) → number < 2 ^ 12 → IsOwn l (bias_of l.kind number) place
    → place + 1 < 2 ^ 39
own_low l number place low own =
    let most = kind_low l.kind number low in
    let below = own.1 in
    omega (arith, most, below)

module _ (ls : List Linking) (together : AreTogether ls) (stray : All HasNoStray ls) where
  abbrev pub q : Loads ℕ
  q = job_loads (images_of ls)

  abbrev pub m : Loads Byte
  m = loads_of ls

  infos_long : length q.infos ≡ length ls
  infos_long = ap (λ (infos : List ImageInfo). length infos) (infos_loaded ls).0 ∙ length-map ls info_of

  link_of : (x : Instance) (index : ℕ) → x.image ≡ suc index → index < length ls → (l : Linking) × IsInstanceOf ls l x
  link_of x index image within =
      let found = found_at ls index within in
      let at : at_number ls x.image ≡ Some found.0 = ap (at_number ls) image ∙ found.1 in (
        found.0,
        record {
          image = at;
          given = one_of IsGiven ls x.image found.0 together.given at;
          links = one_of Links ls x.image found.0 together.links at;
          stray = one_of HasNoStray ls x.image found.0 stray at;
        },
      )

  -- ** blocks

  info_at : (x : Instance) (index : ℕ) (l : Linking) (d : ImageInfo) → x.image ≡ suc index → IsInstanceOf ls l x
      → (get_or (map info_of ls) index d).size ≡ tls_size (layout l).sections
  unfolding info_of
  info_at x index l d image is =
      let at : slice_get ls index ≡ Some l = sym (ap (at_number ls) image) ∙ is.image in
      ap (λ (i : ImageInfo). i.size) (get_or_from_slice_get (map info_of ls) index (info_of l) d
      (slice_get-map info_of ls index ∙ ap (option_map info_of) at))

  blocks_long : BlocksAreLong q
  blocks_long x index image within =
      let many = infos_long in
      let link = link_of x index image (omega (arith, within, many)) in
      (blocks_loaded ls link.0 x link.1).long
      ∙ (sym (info_at x index link.0 no_module.info image link.1)
      ∙ ap (λ (infos : List ImageInfo). (get_or infos index no_module.info).size) (sym (infos_loaded ls).0))

  meant_block : (l : Linking) (x : Instance) → IsInstanceOf ls l x → m.block x ≡ map Value (q.block x)
  unfolding loads_of
  meant_block l x is =
      rw is.image (ap (λ (bytes : List ℕ). map Value bytes) (sym (blocks_meant ls l x is)))

  meant_long : BlocksAreLong m
  unfolding loads_of
  meant_long x index image within =
      let many = length-map ls info_of in
      let link = link_of x index image (omega (arith, within, many)) in
      ap (λ (bytes : List Byte). length bytes) (meant_block link.0 x link.1)
      ∙ (length-map (q.block x) Value
      ∙ ((blocks_loaded ls link.0 x link.1).long ∙ sym (info_at x index link.0 no_module.info image link.1)))

  -- ** data

  module _ (l : Linking) (x : Instance) (is : IsInstanceOf ls l x) (number : x.number < 2 ^ 12) where
    -- a range that has bytes, all of them the instance's own
    range_low : (range : Range ℕ) → 0 < length range.bytes
        → ((place : ℕ) → holds range place ≡ true → IsOwn l (bias_of l.kind x.number) place) → IsLow range
    range_low range some own =
        let place = range.start + (length range.bytes - 1) in
        let from = le-leb range.start place (omega arith) in
        let to = lt-ltb (place - range.start) (length range.bytes) (omega (arith, some)) in
        let last = own_low l x.number place number (own place (rw (from, to) refl)) in
        (omega (arith, last, some), omega (arith, last, some))

    data_low_of : (has : Bool) (o : Option (Range ℕ)) → has_writable_data l ≡ has
        → IsData l (bias_of l.kind x.number) has o
        → IfSome o (IsApart l (bias_of l.kind x.number) (q.fixed x)) → IfSome o IsLow
    data_low_of true None e are apart = tt
    data_low_of false None e are apart = tt
    data_low_of false (Some range) e are apart = absurd are
    data_low_of true (Some range) e are apart =
        let start = are.start_is in
        let long = are.long in
        let less = ltb-true (extent_for (Writable true) (layout l)).start
        (extent_for (Writable true) (layout l)).end e in
        range_low range (omega (arith, start, long, less)) apart.own

    data_low : IfSome (q.shared x) IsLow
    data_low =
        data_low_of (has_writable_data l) (q.shared x) refl (data_loaded ls l x is) (places_own ls l x is).shared

    valued_low : (o : Option (Range ℕ)) → IfSome o IsLow → IfSome (option_map valued o) IsLow
    valued_low None low = tt
    valued_low (Some range) low =
        let same = length-map range.bytes Value in
        (low.0, let size = low.1 in omega (arith, same, size))

    meant_low : IfSome (m.shared x) IsLow
    unfolding loads_of
    meant_low =
        let low = subst (λ (o : Option (Range Byte)). IfSome o IsLow) (data_meant ls l x is)
        (valued_low (q.shared x) data_low) in
        rw is.image low

  -- ** fresh blocks

  -- a list and a byte that fills it up
  filled_at : {B : Type 0} (xs : List B) (n : ℕ) (z : B) (k : ℕ) → k < length (xs ++ replicate n z)
      → slice_get (xs ++ replicate n z) k ≡ Some (unwrap_or (slice_get xs k) z)
  filled_at {B} xs n z k less = elim (cases_lt k (length xs)) [
    | inl inside ↦
        let some = slice_get-get_or xs k z inside in
        slice_get-append xs (replicate n z) k inside ∙ (some ∙ ap (λ (o : Option B). Some (unwrap_or o z)) (sym some))
    | inr past ↦
        let whole = length-append xs (replicate n z) in
        let rest = length-replicate {A = B} n z in
        slice_get-append_behind xs (replicate n z) k past
        ∙ (slice_get-replicate n (k - length xs) z (omega (arith, less, whole, rest, past))
        ∙ ap (λ (o : Option B). Some (unwrap_or o z)) (sym (slice_get_past xs k past)))
  ]

  link_fresh : (l : Linking) (bias k : ℕ) → k < length (block_bytes l bias)
      → slice_get (block_bytes l bias) k ≡ Some (unwrap_or (slice_get (class_bytes l bias (Tls true)) k) 0)
  link_fresh l bias k less =
      let initial = class_bytes l bias (Tls true) in
      filled_at initial (tls_size (layout l).sections - length initial) 0 k less

  initial_is : (l : Linking) (x : Instance) → IsInstanceOf ls l x
      → initial_image ls x ≡ class_bytes l (bias_of l.kind x.number) (Tls true)
  initial_is l x is =
      ap (λ (image : Option Linking).
      option_map_or (λ (own : Linking). class_bytes own (bias_of own.kind x.number) (Tls true)) image []) is.image

  -- the law, of the machine
  fresh : (l : Linking) (x : Instance) → IsInstanceOf ls l x → (k : ℕ) → k < length (q.block x)
      → slice_get (q.block x) k ≡ Some (unwrap_or (slice_get (initial_image ls x) k) 0)
  fresh l x is k less =
      let same = blocks_meant ls l x is in
      ap (λ (bytes : List ℕ). slice_get bytes k) same
      ∙ (link_fresh l (bias_of l.kind x.number) k (subst (λ (bytes : List ℕ). k < length bytes) same less)
      ∙ ap (λ (bytes : List ℕ). Some (unwrap_or (slice_get bytes k) 0)) (sym (initial_is l x is)))

  -- and of the meaning
  value_or : (o : Option ℕ) → option_map Value (Some (unwrap_or o 0)) ≡ Some (unwrap_or (option_map Value o) (Value 0))
  value_or None = refl
  value_or (Some n) = refl

  meant_fresh : (l : Linking) (x : Instance) → IsInstanceOf ls l x → (k : ℕ) → k < length (m.block x)
      → slice_get (m.block x) k ≡ Some (unwrap_or (slice_get (initial_meant ls x) k) (Value 0))
  meant_fresh l x is k less =
      let same = meant_block l x is in
      let long = ap (λ (bytes : List Byte). length bytes) same ∙ length-map (q.block x) Value in
      ap (λ (bytes : List Byte). slice_get bytes k) same
      ∙ (slice_get-map Value (q.block x) k
      ∙ (ap (option_map Value) (fresh l x is k (omega (arith, less, long)))
      ∙ (value_or (slice_get (initial_image ls x) k)
      ∙ ap (λ (o : Option Byte). Some (unwrap_or o (Value 0))) (sym (slice_get-map Value (initial_image ls x) k)))))

  -- ** a history

  module _ (history : List Event) (legal : IsLegal q.infos q.last_offset history) where
    last : q.last_offset ≡ startup_end q.infos 0
    unfolding job_loads last_offset
    last = refl

    meant_last : m.last_offset ≡ startup_end m.infos 0
    unfolding loads_of
    meant_last = refl

    pub meant_legal : IsLegal m.infos m.last_offset history
    meant_legal =
        let same = infos_meant ls in
        subst (λ (infos : List ImageInfo). IsLegal infos m.last_offset history) same.0
        (subst (λ (o : ℕ). IsLegal q.infos o history) same.1 legal)

    -- a live instance is one of a link
    record IsOfLink (x : Instance) : Type 0 where
      pub l : Linking
      pub is : IsInstanceOf ls l x
      pub number : x.number < 2 ^ 12

    of_live : (seen : List Event) → IsFront seen history → (x : Instance) → Member x (instances q seen) → IsOfLink x
    of_live seen front x member =
        let live = is_live q history legal last blocks_long seen front x member in
        let many = infos_long in
        let within = live.placed.within in
        let link = link_of x live.placed.index live.placed.image (omega (arith, within, many)) in
        record { l = link.0; is = link.1; number = live.low }

    of_meant : (seen : List Event) → IsFront seen history → (x : Instance) → Member x (instances m seen) → IsOfLink x
    of_meant seen front x member =
        let live = is_live m history meant_legal meant_last meant_long seen front x member in
        let same = infos_meant ls in
        let many = infos_long in
        let within = live.placed.within in
        let long = ap (λ (infos : List ImageInfo). length infos) same.0 in
        let link = link_of x live.placed.index live.placed.image (omega (arith, within, many, long)) in
        record { l = link.0; is = link.1; number = live.low }

    -- the laws: what is known of the machine's instances
    pub machine_known : (thread : ℕ) → Known q thread history
    machine_known thread = known_all q history legal last blocks_long thread
        (λ seen front x member. let link = of_live seen front x member in data_low link.l x link.is link.number)

    pub machine_around : LiesLow q → (thread : ℕ) → 1 ≤ thread
        → Around q thread (λ seen. pointer_word plain_operations thread ∷ fixed_at q seen) (initial_image ls) 0
        history
    machine_around lies thread some = record {
      fresh = λ seen front x member k less. let link = of_live seen front x member in fresh link.l x link.is k less;
      high = blocks_high plain_operations q history legal last blocks_long thread some;
      alone = blocks_alone plain_operations q history legal last blocks_long thread some lies;
    }

    -- and of the meaning's
    pub meant_known : (thread : ℕ) → Known m thread history
    meant_known thread = known_all m history meant_legal meant_last meant_long thread
        (λ seen front x member. let link = of_meant seen front x member in meant_low link.l x link.is link.number)

    pub meant_around : LiesLow m → (thread : ℕ) → 1 ≤ thread
        → Around m thread (λ seen. pointer_word ops thread ∷ fixed_at m seen) (initial_meant ls) (Value 0) history
    meant_around lies thread some = record {
      fresh = λ seen front x member k less.
          let link = of_meant seen front x member in meant_fresh link.l x link.is k less;
      high = blocks_high ops m history meant_legal meant_last meant_long thread some;
      alone = blocks_alone ops m history meant_legal meant_last meant_long thread some lies;
    }
