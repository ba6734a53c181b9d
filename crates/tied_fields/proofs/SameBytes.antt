-- What is read of an instance, its blocks and its data are the meaning's bytes.
use Rattle.std.proofs.Common.{◌≡◌, ◌∙◌, ◌+◌, ◌<◌, ℕ, suc, Bool, true, false, not, List, [], ◌∷◌, Option, Some, None}
use Rattle.std.proofs.Common.{map, inl, inr, refl, sym, ap, subst, arith, if◌then◌else◌}
use Rattle.std.specs.Prelude.{option_map, slice_get}
use Rattle.std.specs.List.{All}
use Rattle.std.proofs.lemmas.Bool.{cases_lt}
use Rattle.std.proofs.lemmas.Option.{same_Some, slice_get_within}
use Rattle.guest_machine.specs.Follow.{All2}
use Rattle.guest_operands.specs.declared.space.Access.TheVariants.{Read}
use Rattle.guest_operands.specs.Ranges.{Range, byte_in}
use Rattle.job_meaning.specs.declared.values.Byte.TheVariants.{Value}
use Rattle.link_needs.specs.Linking.{Linking, layout}
use Rattle.loaded_bytes.proofs.Blocks.{blocks_loaded}
use Rattle.loaded_bytes.proofs.Data.{data_loaded}
use Rattle.loaded_bytes.proofs.Elsewhere.{elsewhere}
use Rattle.loaded_bytes.proofs.Meant.{blocks_meant, data_meant, reads_meant}
use Rattle.loaded_bytes.proofs.Ranges.{still}
use Rattle.loaded_bytes.proofs.Small.{bytes_small}
use Rattle.loaded_bytes.proofs.Still.{constants_loaded}
use Rattle.loaded_bytes.specs.Laws.{IsData, IsDataOf, IsIn, IsInstanceOf, images_of}
use Rattle.loaded_bytes.specs.Meant.{valued}
use Rattle.loaded_bytes.specs.Bytes.{byte_at}
use Rattle.loaded_bytes.specs.Places.{IsInMoved}
use Rattle.elf_records.specs.FieldLaws.{AreBytes}
use Rattle.loaded_modules.specs.declared.instance.Instance.{Instance}
use Rattle.object_faults.specs.declared.class.SectionClass.{SectionClass}
use Rattle.object_faults.specs.declared.class.SectionClass.TheVariants.{ReadOnly, Tls, Writable}
use Rattle.thread_blocks.specs.JobLoads.{job_loads, loaded_parts}
use Rattle.thread_blocks.specs.SpaceLaws.{FoundAlike, NoneWritable}
use Rattle.thread_blocks.specs.Turns.{at_number}
use Rattle.tied_meaning.specs.Numbers.{SameByte, Setting}
use Rattle.tied_meaning.specs.Ties.{SameShared}
use Rattle.tls_layout.specs.Places.{extent_for}
use Rattle.tls_layout.specs.Places.{initial_tls}
use Rattle.whole_meaning.specs.Loads.{loads_of, meaning_of}
use Rattle.link_needs.specs.Linking.{has_writable_data}
use Rattle.whole_meaning.specs.Spots.{bias_of, in_room}
use Rattle.tied_fields.proofs.CodeBytes.{fixed_meant, room_is}

-- ** values

-- bytes, and the same as values of the meaning
all_same : (g : Setting) (bs : List ℕ) → ((k b : ℕ) → slice_get bs k ≡ Some b → b < 256)
    → All2 (SameByte g) (map Value bs) bs
all_same g [] small = tt
all_same g (b ∷ bs) small = ((refl, small 0 b refl), all_same g bs (λ k c e. small (suc k) c e))

found_same : (g : Setting) (found : Option ℕ) → ((b : ℕ) → found ≡ Some b → b < 256)
    → FoundAlike (SameByte g) (option_map Value found) found
found_same g None small = tt
found_same g (Some b) small = (refl, small b refl)

-- what no thread writes can't be written
pub none_writable : (ranges : List (Range ℕ)) → NoneWritable (still ranges)
none_writable [] = tt
none_writable (r ∷ rs) = of_test r.writable refl (none_writable rs)
  where
    of_test : (t : Bool) → r.writable ≡ t → NoneWritable (still rs)
        → NoneWritable (if not t then r ∷ still rs else still rs)
    of_test true e rest = rest
    of_test false e rest = (e, rest)

module _ (g : Setting) (ls : List Linking) (l : Linking) (x : Instance) (is : IsInstanceOf ls l x)
    (bytes : All AreBytes l.objects) where
  -- ** reads

  of_class : (class : SectionClass) (place b : ℕ)
      → ((address : ℕ) → IsIn l class address
      → byte_in Read ((job_loads (images_of ls)).fixed x) (address + bias_of l.kind x.number)
      ≡ Some (byte_at l (bias_of l.kind x.number) class address))
      → IsInMoved l (bias_of l.kind x.number) class place
      → byte_in Read ((job_loads (images_of ls)).fixed x) place ≡ Some b → b < 256
  of_class class place b each here e =
      let address = here.0 in
      let there : byte_in Read ((job_loads (images_of ls)).fixed x) place
      ≡ Some (byte_at l (bias_of l.kind x.number) class here.0) =
      ap (byte_in Read ((job_loads (images_of ls)).fixed x)) here.1 ∙ each here.0 here.2 in
      let same : byte_at l (bias_of l.kind x.number) class here.0 ≡ b = same_Some _ b (sym there ∙ e) in
      subst (λ (n : ℕ). n < 256) same (bytes_small l (bias_of l.kind x.number) class here.0 bytes)

  read_small : (place b : ℕ) → in_room l (bias_of l.kind x.number) place ≡ false
      → byte_in Read ((job_loads (images_of ls)).fixed x) place ≡ Some b → b < 256
  read_small place b out e = elim ((elsewhere ls l x is).read place b e) [
    | inl room ↦ absurd (cc)
    | inr here ↦ elim here [
      | inl constant ↦ of_class ReadOnly place b (constants_loaded ls l x is).0 constant e
      | inr initial ↦ of_class (Tls true) place b (constants_loaded ls l x is).1 initial e
    ]
  ]

  pub reads : (place : ℕ) → (meaning_of ls).room x place ≡ false
      → FoundAlike (SameByte g) (byte_in Read ((meaning_of ls).loads.fixed x) place)
      (byte_in Read ((job_loads (images_of ls)).fixed x) place)
  reads place away =
      let out = sym (room_is ls l x place is.image) ∙ away in
      let meant : byte_in Read ((meaning_of ls).loads.fixed x) place
      ≡ option_map Value (byte_in Read ((job_loads (images_of ls)).fixed x) place) =
      ap (λ ranges. byte_in Read ranges place) (fixed_meant ls l x is.image) ∙ sym (reads_meant ls l x place is out) in
      rw meant (found_same g (byte_in Read ((job_loads (images_of ls)).fixed x) place)
      (λ b e. read_small place b out e))

  -- ** blocks

  block_small : (k b : ℕ) → slice_get ((job_loads (images_of ls)).block x) k ≡ Some b → b < 256
  block_small k b e =
      let own = blocks_loaded ls l x is in
      let within = slice_get_within ((job_loads (images_of ls)).block x) k b e in
      elim (cases_lt k (initial_tls (layout l).sections).end) [
        | inl low ↦
            let address : ℕ = (extent_for (Tls true) (layout l)).start + k in
            let same : byte_at l (bias_of l.kind x.number) (Tls true) ((extent_for (Tls true) (layout l)).start + k)
            ≡ b =
            same_Some _ b (sym (own.initial k low) ∙ e) in
            subst (λ (n : ℕ). n < 256) same
            (bytes_small l (bias_of l.kind x.number) (Tls true) ((extent_for (Tls true) (layout l)).start + k) bytes)
        | inr high ↦
            let same : 0 ≡ b = same_Some 0 b (sym (own.rest k high (omega (arith, within, own.long))) ∙ e) in
            omega (arith, same)
      ]

  pub block : All2 (SameByte g) ((meaning_of ls).loads.block x) ((job_loads (images_of ls)).block x)
  unfolding meaning_of loads_of
  block =
      let meant : (meaning_of ls).loads.block x ≡ map Value ((job_loads (images_of ls)).block x) =
      rw is.image (ap (map Value) (sym (blocks_meant ls l x is))) in
      rw meant (all_same g ((job_loads (images_of ls)).block x) block_small)

  -- ** data

  data_small : (range : Range ℕ) → IsDataOf l (bias_of l.kind x.number) range → (k b : ℕ)
      → slice_get range.bytes k ≡ Some b
      → b < 256
  data_small range d k b e =
      let within = slice_get_within range.bytes k b e in
      let same : byte_at l (bias_of l.kind x.number) (Writable true) ((extent_for (Writable true) (layout l)).start + k)
      ≡ b =
      same_Some _ b (sym (d.each k within) ∙ e) in
      subst (λ (n : ℕ). n < 256) same
      (bytes_small l (bias_of l.kind x.number) (Writable true)
      ((extent_for (Writable true) (layout l)).start + k) bytes)

  of_data : (has : Bool) (found : Option (Range ℕ)) → IsData l (bias_of l.kind x.number) has found
      → SameShared g (option_map valued found) found
  of_data has None d = tt
  of_data true (Some range) d = record {
    start = refl;
    readable = refl;
    writable = refl;
    runnable = refl;
    bytes = all_same g range.bytes (data_small range d);
  }
  of_data false (Some range) d = absurd d

  pub shared : SameShared g ((meaning_of ls).loads.shared x) ((job_loads (images_of ls)).shared x)
  unfolding meaning_of loads_of
  shared =
      let meant : (meaning_of ls).loads.shared x ≡ option_map valued ((job_loads (images_of ls)).shared x) =
      rw is.image (sym (data_meant ls l x is)) in
      rw meant (of_data (has_writable_data l) ((job_loads (images_of ls)).shared x) (data_loaded ls l x is))

-- ** what no thread writes

pub meant_still : (ls : List Linking) (l : Linking) (x : Instance) → at_number ls x.image ≡ Some l
    → NoneWritable ((meaning_of ls).loads.fixed x)
meant_still ls l x e =
    subst NoneWritable (sym (fixed_meant ls l x e)) (refl, (refl, (refl, tt)))

pub loaded_still : (ls : List Linking) (x : Instance) → NoneWritable ((job_loads (images_of ls)).fixed x)
unfolding job_loads
loaded_still ls x = none_writable (loaded_parts (images_of ls) x)
