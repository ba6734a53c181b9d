-- All of an instance is tied but its sequences.
use Rattle.std.proofs.Common.{◌≡◌, ◌∙◌, ◌<◌, ◌≤◌, ◌^◌, ℕ, zero, suc, List, [], ◌∷◌, Option, Some, None, IfSome}
use Rattle.std.proofs.Common.{length, map, sym}
use Rattle.std.proofs.Common.{ap, arith}
use Rattle.std.specs.Prelude.{get_or, slice_get}
use Rattle.std.proofs.lemmas.Option.{same_Some}
use Rattle.known_instances.proofs.Known.{known_live}
use Rattle.known_instances.proofs.Placed.{IsPlacedIn, placed_in}
use Rattle.known_instances.proofs.StartupNumbers.{known_given}
use Rattle.link_needs.specs.Linking.{Linking, layout}
use Rattle.loaded_bytes.proofs.Blocks.{blocks_loaded}
use Rattle.loaded_bytes.specs.Laws.{IsInstanceOf, images_of}
use Rattle.loaded_modules.specs.declared.instance.Instance.{Instance}
use Rattle.loaded_names.proofs.Infos.{infos_loaded}
use Rattle.loaded_names.proofs.Meant.{functions_meant}
use Rattle.loaded_words.specs.Laws.{IsKnown}
use Rattle.module_table.specs.declared.events.Event.{Event}
use Rattle.module_table.specs.declared.modules.ImageInfo.{ImageInfo}
use Rattle.module_table.specs.Modules.{no_module}
use Rattle.thread_blocks.specs.JobLoads.{job_loads}
use Rattle.thread_blocks.specs.Turns.{at_number}
use Rattle.tls_layout.specs.Places.{tls_size}
use Rattle.whole_meaning.specs.Loads.{info_of, meaning_of}
use Rattle.tied_fields.specs.Laws.{InstancesAreTied}
use Rattle.tied_fields.specs.Settings.{setting_of}
use Rattle.tied_fields.proofs.Addresses.{addresses_tied}
use Rattle.tied_fields.proofs.Begins.{fields_begin}
use Rattle.tied_fields.proofs.CodeBytes.{code_tied, rooms_empty}
use Rattle.tied_fields.proofs.Lies.{lies_there}
use Rattle.tied_fields.proofs.Offsets.{offsets_tied}
use Rattle.tied_fields.proofs.SameBytes.{block, loaded_still, meant_still, reads, shared}

-- ** its block

if_some : (found : Option ℕ) (P Q : ℕ → Type 0) → ((n : ℕ) → P n → Q n) → IfSome found P → IfSome found Q
if_some None P Q f p = tt
if_some (Some n) P Q f p = f n p

size_at : (ls : List Linking) (i : ℕ) (l : Linking) (d : ImageInfo) → slice_get ls i ≡ Some l
    → (get_or (map info_of ls) i d).size ≡ tls_size (layout l).sections
unfolding info_of
size_at [] i l d e = absurd (cc)
size_at (k ∷ ls) zero l d e =
    ap (λ (m : Linking). tls_size (layout m).sections) (same_Some k l e)
size_at (k ∷ ls) (suc i) l d e = size_at ls i l d e

module _ (ls : List Linking) (history : List Event) (l : Linking) (x : Instance) (known : IsKnown ls history x)
    (is : IsInstanceOf ls l x) where
  at : IsPlacedIn (job_loads (images_of ls)).infos x
  at =
      let live = known_live (job_loads (images_of ls)) history x.number x known.known in
      placed_in (job_loads (images_of ls)) history known.legal live.seen x.number x live.front live.live

  size_is : (get_or (job_loads (images_of ls)).infos at.index no_module.info).size ≡ tls_size (layout l).sections
  size_is =
      ap (λ (infos : List ImageInfo). (get_or infos at.index no_module.info).size) (infos_loaded ls).0
      ∙ size_at ls at.index l no_module.info (ap (at_number ls) (sym at.image) ∙ is.image)

  long : length ((job_loads (images_of ls)).block x) ≡ tls_size (layout l).sections
  long = (blocks_loaded ls l x is).long

  fits : (length ((job_loads (images_of ls)).block x) ≤ 2 ^ 24)
      × IfSome x.offset (λ (o : ℕ). length ((job_loads (images_of ls)).block x) ≤ o)
  fits =
      let small = is.links.sound.limits.lawful.small_tls in (
        omega (arith, long, small),
        if_some x.offset _ (λ (o : ℕ). length ((job_loads (images_of ls)).block x) ≤ o)
            (λ o p. let room = p.1 in omega (arith, room, long, size_is)) at.offset,
      )

-- the law
pub instances_tied : InstancesAreTied
unfolding meaning_of
instances_tied ls history l x bytes known is stand =
    let given = known_given (job_loads (images_of ls)) history known.legal x.number x known.known in
    let there = lies_there ls history l x known is in
    record {
      known = known.known;
      number = (given.some, given.low);
      offset = if_some x.offset _ (λ (o : ℕ). o < 2 ^ 28) (λ o p. p.0) (at ls history l x known is).offset;
      fits = fits ls history l x known is;
      function = λ name. functions_meant ls l x name is;
      reads = reads (setting_of ls history) ls l x is bytes;
      meant_still = meant_still ls l x is.image;
      still = loaded_still ls x;
      block = block (setting_of ls history) ls l x is bytes;
      shared = shared (setting_of ls history) ls l x is bytes;
      there = there.there;
      meant_there = there.meant_there;
      rooms = there.rooms;
      tables = there.tables;
      data_there = there.data_there;
      code = λ place out. code_tied ls l x place is out;
      run_on = there.run_on;
      no_code = λ place room. rooms_empty ls l x place is room;
      ends = there.ends;
      offset_begins = λ place number byte e. (fields_begin ls l x place is).offset number byte e;
      address_begins = λ place number byte addend e. (fields_begin ls l x place is).address number byte addend e;
      offset_field = λ place number four mark bytes block made own.
          offsets_tied ls history l x place number four known is mark bytes block made own;
      address_field = λ place number size addend four mark bytes minus.
          addresses_tied ls history l x place number size addend four known is mark bytes minus;
      sites = stand;
    }
