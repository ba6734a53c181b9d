-- The sites of each object are usable, and what the plan of a table is.
use Rattle.std.proofs.Common.{◌≡◌, ◌≢◌, ◌^◌, ◌<◌, ◌≤◌, ◌+◌, ◌∙◌, ◌&&◌, ◌||◌, ℕ, Bool, true, List, [], ◌∷◌, drop}
use Rattle.std.proofs.Common.{length, map, refl, sym, ap, subst, arith}
use Rattle.std.proofs.lemmas.List.{length-map}
use Rattle.std.specs.Global.{Vec}
use Rattle.std.specs.Prelude.{slice_index_or}
use Rattle.std.specs.List.{All, list_any}
use Rattle.elf_records.specs.declared.relocation_row.FieldValue.{FieldValue}
use Rattle.elf_records.specs.declared.relocation_row.FieldValue.TheVariants.{SegmentOffset, ThreadOffset}
use Rattle.elf_object.specs.declared.relocation.Relocation.{Relocation}
use Rattle.got_pairs.specs.declared.need.Need.{Need}
use Rattle.got_pairs.specs.Needs.{entries as entries_of, total_size}
use Rattle.got_pairs.specs.Plans.{Table}
use Rattle.link_faults.specs.declared.image_kind.ImageKind.{ImageKind}
use Rattle.tls_layout.proofs.Bounds.{base_small}
use Rattle.sequence_forms.specs.declared.places.Site.{Site}
use Rattle.tls_layout.specs.Places.{room, zero_data}
use Rattle.tls_layout.proofs.Together.{page_limit}
use Rattle.sequence_match.proofs.OwnSites.{own_sites, drop_at}
use Rattle.link_needs.specs.Linking.{Linking, block_offset, layout, object, sites_at}
use Rattle.link_needs.specs.Given.{FitsTable, IsGiven}
use Rattle.link_needs.specs.Plans.{IsUsable}
use Rattle.link_needs.specs.Values.{counts_from_thread_pointer, is_local, is_rewriting, number_beside}
use Rattle.link_needs.specs.Needs.{entries, got_size, got_start, needs, need_address, relocation_need}
use Rattle.link_needs.specs.NeedLaws.{table}
use Rattle.link_needs.proofs.UsableSites.{usable}

-- a test of what is made of each
pub any_map : {X Y : Type 0} (test : Y → Bool) (make : X → Y) (xs : List X)
    → list_any (λ x. test (make x)) xs ≡ list_any test (map make xs)
any_map test make [] = refl
any_map test make (x ∷ xs) = ap (λ b. test (make x) || b) (any_map test make xs)

pub counts_then : (l : Linking) (any : Bool) → is_rewriting l ≡ true
    → any ≡ list_any (λ own. list_any (λ (site : Site). is_local site.form) own) l.sites
    → any ≡ counts_from_thread_pointer l
unfolding counts_from_thread_pointer
counts_then l any rewriting is =
    is ∙ ap (λ b. b && list_any (λ own. list_any (λ (site : Site). is_local site.form) own) l.sites) (sym rewriting)

-- the sites that code holds
module _ (l : Linking) (sites : List (Vec Site)) (are : map (λ own. own.items) sites ≡ l.sites) where
  same_length : length sites ≡ length l.sites
  same_length = sym (length-map sites (λ own. own.items)) ∙ ap length are

  pub none_left : (o : ℕ) → length sites ≤ o → length l.sites ≤ o
  none_left o past = omega (arith, same_length)

  pub sites_there : (o : ℕ) → o < length sites → o < length l.sites
  sites_there o there = omega (arith, same_length, there)

  -- those of one object
  module _ (o : ℕ) (own : Vec Site) (is : own ≡ slice_index_or sites o own) (there : o < length sites) where
    pub own_are : sites_at l o ≡ own.items
    own_are = ap (λ xs. slice_index_or xs o []) (sym are) ∙ own_sites sites o own is there

    pub own_left : drop o l.sites ≡ own.items ∷ drop (o + 1) l.sites
    own_left =
        let below : o < length l.sites = omega (arith, same_length, there) in
        drop_at l.sites o [] below ∙ ap (λ x. x ∷ drop (o + 1) l.sites) own_are

    pub own_there : IsGiven l → o < length l.objects
    own_there given = omega (arith, same_length, given.each, there)

    pub own_usable : IsGiven l → All (IsUsable (object l o)) own.items
    own_usable given = subst (All (IsUsable (object l o))) own_are (usable l o given (own_there given))

-- ** the table

room_small : (l : Linking) → FitsTable l → got_start l ≤ 2 ^ 22 + 2 ^ 24
unfolding room
room_small l limits =
    let p = layout l in
    let span = limits.lawful.small_span in
    let low = base_small p.kind in
    let page = page_limit p.kind (zero_data p.kind p.sections).end (omega arith) in
    omega arith

-- the table ends at a small address
pub table_small : (l : Linking) → IsGiven l → FitsTable l → got_start l + got_size l ≤ 2 ^ 25
table_small l given limits = omega (arith, room_small l limits, limits.got)

-- so does each entry
pub entry_small : (l : Linking) (got : Table) (start at size : ℕ) → IsGiven l → FitsTable l → got ≡ table l
    → start ≡ got_start l → at + size ≤ total_size got.entries → start + at ≤ 2 ^ 25
entry_small l got start at size given limits is begins inside =
    let same : total_size got.entries ≡ got_size l = ap (λ (t : Table). total_size t.entries) is in
    omega (arith, table_small l given limits, same, begins, inside)

-- what is neither of the two offsets reaches an entry
pub other_default : (l : Linking) (o : ℕ) (r : Relocation) (value : FieldValue) → value ≢ SegmentOffset
    → value ≢ ThreadOffset → need_address l (relocation_need l o r) ≡ number_beside l o r value
other_default l o r SegmentOffset first second = absurd (first refl)
other_default l o r ThreadOffset first second = absurd (second refl)
other_default l o r value first second = refl

-- a table that is laid out from the needs of a link is its own
module _ (l : Linking) (found : List Need) (got : Table) (start : ℕ) (needs_are : found ≡ needs l) where
  pub plan_is : (kind : ImageKind) (distance : ℕ) → kind ≡ l.kind → distance ≡ block_offset l
      → got ≡ record { kind = kind; block_offset = distance; entries = entries_of found } → got ≡ table l
  unfolding entries
  plan_is kind distance of_kind below is =
      let laid : ImageKind → ℕ → List Need → Table =
      λ k d ns. record { kind = k; block_offset = d; entries = entries_of ns } in
      is ∙ ap (λ k. laid k distance found) of_kind ∙ ap (λ d. laid l.kind d found) below
      ∙ ap (laid l.kind (block_offset l)) needs_are

  -- and it ends where that of the link does
  pub ends_at : (size : ℕ) → got ≡ table l → start ≡ got_start l → size ≡ total_size got.entries
      → start + size ≡ got_start l + got_size l
  ends_at size is begins of_size =
      ap (λ n. n + size) begins ∙ ap (λ n. got_start l + n) (of_size ∙ ap (λ (t : Table). total_size t.entries) is)
