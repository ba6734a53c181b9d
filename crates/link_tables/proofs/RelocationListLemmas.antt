-- How many symbols and how large a table there may be, and the relocations of the table, entry by entry.
use Rattle.std.proofs.Common.{◌≡◌, ◌+◌, ◌*◌, ◌≤◌, ◌^◌, ◌∙◌, ℕ, zero, suc, List, [], ◌∷◌, ◌++◌, Some, None}
use Rattle.std.proofs.Common.{length, drop, map, sum_by, refl, sym, ap, subst, arith, cond, Bor, Option}
use Rattle.std.specs.Option.{option_map}
use Rattle.std.specs.List.{flat_map, position_from, slice_get}
use Rattle.std.specs.Str.{bytes_eq}
use Rattle.std.proofs.lemmas.List.Sums.{sum_by-cons}
use Rattle.link_faults.specs.declared.image_kind.ImageKind.{ImageKind}
use Rattle.link_faults.specs.ImageKinds.{base_of}
use Rattle.tls_layout.specs.Places.{room, zero_data}
use Rattle.tls_layout.proofs.Together.{page_limit}
use Rattle.dynamic_symbols.specs.Names.{name_of, name_size, size_of as name_room}
use Rattle.image_file.specs.declared.relocation.ImageRelocation.{ImageRelocation}
use Rattle.got_pairs.specs.declared.entry.Entry.{Entry}
use Rattle.got_pairs.specs.declared.need.Need.{Need}
use Rattle.got_pairs.specs.declared.need.Need.TheVariants.{ModulePair, SymbolPair, Descriptor, SymbolWord}
use Rattle.got_pairs.specs.declared.need.Need.TheVariants.{AddressWord, RuntimeWord}
use Rattle.got_pairs.specs.declared.need.Target.TheVariants.{Here, Import}
use Rattle.got_pairs.specs.Entries.{entry_of, words}
use Rattle.got_pairs.specs.Needs.{size_of, total_size}
use Rattle.got_pairs.specs.Needs.{starts_from}
use Rattle.link_needs.specs.Linking.{Linking, block_offset, layout}
use Rattle.link_needs.specs.Needs.{entries, got_size, got_start}
use Rattle.link_tables.specs.Dynamic.{entry_relocations, imports, need_relocations, own_symbols}
use Rattle.link_tables.specs.Faults.{FitsLimits}
use Rattle.link_needs.specs.Given.{FitsTable}
use Rattle.tls_layout.proofs.Bounds.{base_small as base_low}

-- ** symbols

-- each name takes room
at_least : {X : Type 0} (name : X → List ℕ) (xs : List X) → length xs ≤ sum_by (λ x. name_room (name x)) xs
at_least name [] = omega arith
at_least name (x ∷ xs) = omega (arith, at_least name xs, sum_by-cons (λ x. name_room (name x)) x xs)

pub few_symbols : (l : Linking) → FitsLimits l → length (own_symbols l) + length (imports l) ≤ 2 ^ 22
unfolding name_size
few_symbols l limits =
    let own = at_least (name_of l.objects) (own_symbols l) in
    let more = at_least (λ (name : List ℕ). name) (imports l) in
    omega (arith, own, more, limits.short)

-- the first of some names that are lent
pub found_lent : (name : List ℕ) (k : ℕ) (names : List (Bor (List ℕ)))
    → position_from (λ other. bytes_eq name other.now) k names
    ≡ position_from (bytes_eq name) k (map (λ other. other.now) names)
found_lent name k [] = refl
found_lent name k (x ∷ xs) =
    ap (λ (rest : Option ℕ). cond (bytes_eq name x.now) (Some k) rest) (found_lent name (k + 1) xs)

-- ** the table

pub table_low : (l : Linking) → FitsTable l → got_start l + got_size l ≤ 2 ^ 26
unfolding room
table_low l limits =
    let p = layout l in
    let low : (zero_data p.kind p.sections).end ≤ base_of p.kind + 2 ^ 24 = omega (arith, limits.lawful.small_span) in
    let start = page_limit p.kind (zero_data p.kind p.sections).end low in
    omega (arith, start, base_low p.kind, limits.got)

-- the relocations of the entries from number k on, the first of which begins at p
abbrev pub left : Linking → ℕ → ℕ → List ImageRelocation
left l p k = flat_map (need_relocations l) (starts_from p (drop k (entries l)))

-- what is left in front of an entry, and behind it
pub record Steps (l : Linking) (p k : ℕ) (entry : Entry) : Type 0 where
  pub relocations : left l p k ≡ entry_relocations l p entry ++ left l (p + 8 * length (words entry)) (k + 1)
  pub size : total_size (drop k (entries l)) ≡ 8 * length (words entry) + total_size (drop (k + 1) (entries l))

-- an entry has as many bytes as its need asks for
words_size : (kind : ImageKind) (block : ℕ) (need : Need)
    → 8 * length (words (entry_of kind block need)) ≡ size_of need
words_size kind block ModulePair = refl
words_size kind block (SymbolPair (Here s o)) = refl
words_size kind block (SymbolPair (Import n)) = refl
words_size kind block (Descriptor (Here s o)) = refl
words_size kind block (Descriptor (Import n)) = refl
words_size kind block (SymbolWord (Here s o)) = refl
words_size kind block (SymbolWord (Import n)) = refl
words_size kind block (AddressWord s p) = refl
words_size kind block RuntimeWord = refl

-- the entry of number k stands in front of those behind it
front : (needs : List Need) (k : ℕ) (need : Need) → slice_get needs k ≡ Some need
    → drop k needs ≡ need ∷ drop (k + 1) needs
front [] k need h = absurd (cc)
front (x ∷ xs) zero need h = ap (λ y. y ∷ xs) (let same : x ≡ need = cc in same)
front (x ∷ xs) (suc k) need h = let next : suc k + 1 ≡ suc (k + 1) = omega arith in rw next (front xs k need h)

pub steps : (l : Linking) (p k : ℕ) (entry : Entry)
    → option_map (entry_of l.kind (block_offset l)) (slice_get (entries l) k) ≡ Some entry → Steps l p k entry
steps l p k entry h = by (slice_get (entries l) k) refl h
  where
    by : (found : Option Need) → slice_get (entries l) k ≡ found
        → option_map (entry_of l.kind (block_offset l)) found ≡ Some entry → Steps l p k entry
    by None is h = absurd (cc)
    by (Some need) is h =
        let same : entry_of l.kind (block_offset l) need ≡ entry = cc in
        let at = front (entries l) k need is in
        subst (Steps l p k) same (record {
          relocations = ap (λ needs. flat_map (need_relocations l) (starts_from p needs)) at
              ∙ ap (λ n. need_relocations l (need, p) ++ left l (p + n) (k + 1))
              (sym (words_size l.kind (block_offset l) need));
          size = ap total_size at
              ∙ ap (λ n. n + total_size (drop (k + 1) (entries l))) (sym (words_size l.kind (block_offset l) need));
        })

-- there is an entry of each number
pub there_is : (l : Linking) (k : ℕ)
    → option_map (entry_of l.kind (block_offset l)) (slice_get (entries l) k) ≡ None → length (entries l) ≤ k
there_is l k h = by (entries l) k h
  where
    by : (needs : List Need) (k : ℕ) → option_map (entry_of l.kind (block_offset l)) (slice_get needs k) ≡ None
        → length needs ≤ k
    by [] k h = omega arith
    by (x ∷ xs) zero h = absurd (cc)
    by (x ∷ xs) (suc k) h = omega (arith, by xs k h)
