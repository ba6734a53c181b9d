-- The table and the relocations of an image within the limits are small.
use Rattle.std.proofs.Common.{◌≡◌, ◌+◌, ◌*◌, ◌<◌, ◌≤◌, ◌^◌, ◌&&◌, ◌∷◌, ℕ, suc, Bool, true, false, List, [], Option}
use Rattle.std.proofs.Common.{None, Some, length, get_or, if◌then◌else◌, arith}
use Rattle.std.specs.Prelude.{option_and_then, sum_by}
use Rattle.std.specs.List.{flat_map}
use Rattle.std.proofs.lemmas.List.{length-append}
use Rattle.std.proofs.lemmas.List.Sums.{sum_by-cons}
use Rattle.got_pairs.specs.declared.entry.DynamicRelocation.{DynamicRelocation}
use Rattle.got_pairs.specs.declared.entry.Entry.{Entry}
use Rattle.got_pairs.specs.declared.entry.Entry.TheVariants.{One, Two}
use Rattle.got_pairs.specs.declared.need.Need.{Need}
use Rattle.got_pairs.specs.declared.need.Need.TheVariants.{RuntimeWord}
use Rattle.got_pairs.specs.Entries.{entry_of}
use Rattle.got_pairs.specs.Needs.{starts_from}
use Rattle.got_pairs.specs.Needs.{size_of}
use Rattle.elf_object.specs.Counts.{own_count, relocation_count}
use Rattle.link_faults.specs.ImageKinds.{is_moved}
use Rattle.sequence_forms.specs.declared.places.Site.{Site}
use Rattle.sequence_match.specs.Faults.{AreSites}
use Rattle.link_needs.specs.Linking.{Linking, block_offset, choice}
use Rattle.link_needs.specs.Needs.{calls, entries, got_size, got_start, is_kept, needs, object_needs}
use Rattle.link_needs.specs.Needs.{reaching, relocation_need, site_needs, sorted_by}
use Rattle.link_tables.specs.Dynamic.{entry_relocations, got_relocations, image_relocations, need_relocations}
use Rattle.link_tables.specs.Dynamic.{object_relocations, relatives, word_relocations}
use Rattle.link_tables.specs.Faults.{FitsLimits}
use Rattle.link_needs.specs.Given.{FitsTable, IsGiven}
use Rattle.link_core.proofs.FewEntries.{length-entries, others, others-append, others-le, total_size-le}
use Rattle.link_core.proofs.FewLists.{length-each, length-sorted_by}
use Rattle.link_core.proofs.FewSites.{of_object}
use Rattle.tls_symbols.specs.Definitions.{flat_map_from}
use Rattle.std.specs.Prelude.{option_to_list}

-- a relocation opens a sequence, or reaches an address, or is an address: each asks for one entry or is one relocation
-- itself, and an entry has at most two; the run time's word comes besides
pub record AreFew (l : Linking) : Type 0 where
  pub needs : length (needs l) ≤ 3 * 2 ^ 19
  pub got : got_size l ≤ 16 * (2 ^ 19 + 1)
  pub relocations : length (image_relocations l) ≤ 2 * (2 ^ 19 + 1)

-- ** what sites need

option_to_list-le : (need : Option Need) → length (option_to_list need) ≤ 1
option_to_list-le None = omega arith
option_to_list-le (Some need) = omega arith

runtime-le : (b : Bool)
    → (others (if b then RuntimeWord ∷ [] else []) ≡ 0) × (length (if b then RuntimeWord ∷ [] else []) ≤ 1)
runtime-le true = (omega arith, omega arith)
runtime-le false = (omega arith, omega arith)

module _ (l : Linking) where
  -- an entry, and the run time's word
  of_site : (o : ℕ) (site : Site) → (length (site_needs l o site) ≤ 2) × (others (site_needs l o site) ≤ 1)
  unfolding site_needs
  of_site o site =
      let own = option_to_list (option_and_then (relocation_need l o) (reaching site (choice l o site))) in
      let word = if is_kept (choice l o site) && calls site.form then RuntimeWord ∷ [] else [] in
      let few = option_to_list-le (option_and_then (relocation_need l o) (reaching site (choice l o site))) in
      let called = runtime-le (is_kept (choice l o site) && calls site.form) in
      let both : length own + length word ≤ 2 = omega (arith, few, called.1) in
      let one : others own + others word ≤ 1 = omega (arith, others-le own, few, called.0) in
      (omega (arith, length-append own word, both), omega (arith, others-append own word, one))

  of_sites : (o : ℕ) (sites : List Site)
      → (length (flat_map (site_needs l o) sites) ≤ 2 * length sites)
      × (others (flat_map (site_needs l o) sites) ≤ length sites)
  of_sites o [] = (omega arith, omega arith)
  of_sites o (site ∷ sites) =
      let one = of_site o site in
      let more = of_sites o sites in (
        omega (arith, length-append (site_needs l o site) (flat_map (site_needs l o) sites), one.0, more.0),
        omega (arith, others-append (site_needs l o site) (flat_map (site_needs l o) sites), one.1, more.1),
      )

  of_all_sites : (o : ℕ) (all : List (List Site))
      → (length (flat_map_from (λ o. flat_map (site_needs l o)) o all) ≤ 2 * sum_by length all)
      × (others (flat_map_from (λ o. flat_map (site_needs l o)) o all) ≤ sum_by length all)
  of_all_sites o [] = (omega arith, omega arith)
  of_all_sites o (own ∷ all) =
      let one = of_sites o own in
      let more = of_all_sites (o + 1) all in
      let first = flat_map (site_needs l o) own in
      let rest = flat_map_from (λ o. flat_map (site_needs l o)) (o + 1) all in (
        omega (arith, length-append first rest, sum_by-cons length own all, one.0, more.0),
        omega (arith, others-append first rest, sum_by-cons length own all, one.1, more.1),
      )

  -- ** what objects have

  -- sequences, address fields and addresses are no more than relocations
  of_objects : (o : ℕ) (all : List (List Site)) (objects : List (List ℕ)) → length all ≡ length objects
      → ((k : ℕ) → k < length objects → AreSites (get_or objects k []) (get_or all k []))
      → sum_by length all +
      (length (flat_map_from (object_needs l) o objects) + length (flat_map_from (object_relocations l) o objects))
      ≤ relocation_count objects
  of_objects o [] [] same are = omega arith
  of_objects o [] (b ∷ objects) same are = absurd (omega arith)
  of_objects o (own ∷ all) [] same are = absurd (omega arith)
  of_objects o (own ∷ all) (b ∷ objects) same are = omega (
    arith,
    sum_by-cons length own all,
    sum_by-cons own_count b objects,
    length-append (object_needs l o b) (flat_map_from (object_needs l) (o + 1) objects),
    length-append (object_relocations l o b) (flat_map_from (object_relocations l) (o + 1) objects),
    of_object l o b own (are 0 (omega arith)),
    of_objects (o + 1) all objects (omega arith) (λ k h. are (suc k) (omega arith)),
  )

  -- ** the relocations of entries

  of_word : (place : ℕ) (d : Option DynamicRelocation) → length (word_relocations l place d) ≤ 1
  of_word place None = omega arith
  of_word place (Some d) = omega arith

  -- each word has at most one
  of_entry : (place : ℕ) (entry : Entry) → length (entry_relocations l place entry) ≤ 2
  of_entry place (One v) = omega (arith, of_word place v.relocation)
  of_entry place (Two v w) =
      let first = word_relocations l place v.relocation in
      let second = word_relocations l (place + 8) w.relocation in
      omega (arith, length-append first second, of_word place v.relocation, of_word (place + 8) w.relocation)

  length-starts : (at : ℕ) (xs : List Need) → length (starts_from at xs) ≡ length xs
  length-starts at [] = omega arith
  length-starts at (x ∷ xs) = omega (arith, length-starts (at + size_of x) xs)

  of_got : length (got_relocations l) ≤ 2 * length (entries l)
  unfolding got_relocations
  of_got = omega (
    arith,
    length-each (need_relocations l) 2 (λ e. of_entry e.1 (entry_of l.kind (block_offset l) e.0))
        (starts_from (got_start l) (entries l)),
    length-starts (got_start l) (entries l),
  )

  of_relatives : length (relatives l) ≤ length (flat_map_from (object_relocations l) 0 l.objects)
  unfolding relatives
  of_relatives =
      let all = flat_map_from (object_relocations l) 0 l.objects in
      elim (is_moved l.kind) as (λ b. length (if b then sorted_by (λ r. r.place) all else []) ≤ length all) [
        | true ↦ omega (arith, length-sorted_by (λ r. r.place) all)
        | false ↦ omega arith
      ]

  of_needs : (length (needs l) ≡ length (flat_map_from (λ o. flat_map (site_needs l o)) 0 l.sites) + length
      (flat_map_from (object_needs l) 0 l.objects))
      × (others (needs l) ≡ others (flat_map_from (λ o. flat_map (site_needs l o)) 0 l.sites) + others
      (flat_map_from (object_needs l) 0 l.objects))
  unfolding needs
  of_needs = (
    length-append (flat_map_from (λ o. flat_map (site_needs l o)) 0 l.sites)
        (flat_map_from (object_needs l) 0 l.objects),
    others-append (flat_map_from (λ o. flat_map (site_needs l o)) 0 l.sites)
        (flat_map_from (object_needs l) 0 l.objects),
  )

  of_entries : length (entries l) ≤ others (needs l) + 1
  unfolding entries
  of_entries = length-entries (needs l)

  of_all : length (image_relocations l) ≡ length (relatives l) + length (got_relocations l)
  unfolding image_relocations
  of_all = length-append (relatives l) (got_relocations l)

-- within the limits
pub few : (l : Linking) → IsGiven l → FitsLimits l → AreFew l
few l given limits =
    let all = of_objects l 0 l.sites l.objects given.each given.are_sites in
    let sites = of_all_sites l 0 l.sites in
    let count = limits.few in
    let own = of_needs l in
    let more = others-le (flat_map_from (object_needs l) 0 l.objects) in
    let table = of_entries l in
    record {
      needs = omega (arith, all, count, own.0, sites.0);
      got = omega (arith, all, count, own.1, sites.1, more, table, total_size-le (entries l));
      relocations = omega (arith, all, count, own.1, sites.1, more, table, of_all l, of_got l, of_relatives l);
    }

-- so the table can be laid out
pub table_fits : (l : Linking) → IsGiven l → FitsLimits l → FitsTable l
table_fits l given limits = record { lawful = limits.lawful; got = (few l given limits).got }
