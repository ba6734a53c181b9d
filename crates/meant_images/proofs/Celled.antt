-- The cells of a section, as it is painted.
use Rattle.std.proofs.Common.{◌≡◌, ◌∙◌, ◌<◌, ◌≤◌, ◌^◌, ◌++◌, ℕ, zero, suc, List, [], ◌∷◌, Some, length, take, drop}
use Rattle.std.proofs.Common.{get_or, inl, inr, refl, sym, ap, subst, arith}
use Rattle.std.specs.Prelude.{map, replicate, slice_get, slice_index_or}
use Rattle.std.specs.List.{All, range_with_len}
use Rattle.std.specs.List.Sorted.{IsNonDecreasingBy}
use Rattle.std.proofs.lemmas.Bool.{cases_eq}
use Rattle.std.proofs.lemmas.List.{ext_get_or, get_or-replicate, take-append-le}
use Rattle.std.proofs.lemmas.List.FromFn.{get_or-map-range_with_len, length-map-range_with_len}
use Rattle.std.proofs.lemmas.Option.{same_Some, slice_get-get_or}
use Rattle.elf_object.specs.Lent.{relocations, section_size}
use Rattle.link_needs.specs.Linking.{Linking, object, sites_at}
use Rattle.link_needs.specs.Plans.{IsUsable}
use Rattle.meant_images.specs.declared.entries.Entry.{Entry}
use Rattle.meant_images.specs.declared.kept.KeptObject.{KeptObject}
use Rattle.meant_images.specs.declared.painting.Cell.{Cell}
use Rattle.meant_images.specs.CodeCells.{HaveRoom, code_cell, field_cell, no_cell, site_cell}
use Rattle.meant_images.specs.Kept.{KeepAll}
use Rattle.memory_image.specs.Laying.{section_cells}
use Rattle.sequence_forms.specs.declared.places.Site.{Site}
use Rattle.sequence_match.specs.Faults.{AreSites}
use Rattle.meant_images.proofs.Starts.{form_short}

-- ** a table that was written in place

take_all : (n : ℕ) (xs : List Cell) → length xs ≡ n → take n xs ≡ xs
take_all n [] e = let zero_is : n ≡ 0 = omega (arith, e) in rw zero_is refl
take_all zero (x ∷ xs) e = absurd (omega (arith, e))
take_all (suc n) (x ∷ xs) e = ap (λ ys. x ∷ ys) (take_all n xs (omega (arith, e)))

pub written : (new old : List Cell) (n : ℕ) → length new ≡ n → length old ≡ n
    → take n (new ++ drop (length new) old) ≡ new
written new old n new_long old_long = take-append-le n new (drop (length new) old) (omega (arith, new_long))
    ∙ take_all n new new_long

pub in_range : (xs : List ℕ) (i d e : ℕ) → i < length xs → get_or xs i d ≡ get_or xs i e
in_range xs i d e inside =
    same_Some (get_or xs i d) (get_or xs i e) (sym (slice_get-get_or xs i d inside) ∙ slice_get-get_or xs i e inside)

-- ** what an object's sequences are to painting

pub sites_rise : (b : List ℕ) (sites : List Site) → AreSites b sites
    → IsNonDecreasingBy (λ (site : Site). site.section) sites
sites_rise b sites are i j d most inside = elim (cases_eq i j) [
  | inl same ↦ let P : ℕ → Type 0 = λ n. (get_or sites i d).section ≤ (get_or sites n d).section in
      subst P same (omega arith)
  | inr other ↦ elim (are.rising i j d (omega (arith, most, other)) inside) [
    | inl lower ↦ omega (arith, lower)
    | inr equal ↦ let e = equal.0 in omega (arith, e)
  ]
]

pub sites_short : (b : List ℕ) (sites : List Site) → All (IsUsable b) sites
    → All (λ (site : Site). site.len ≤ 256) sites
sites_short b sites all i d inside =
    let ok : IsUsable b (get_or sites i d) = all i d inside in
    let whole = ok.whole in
    let short = form_short (get_or sites i d).form in
    omega (arith, whole, short.1)

-- ** the section

pub section_is : (kept : List KeptObject) (l : Linking) (o s size : ℕ) (it : KeptObject)
    (blank painted full : List Cell)
    → slice_get kept o ≡ Some it → size ≡ section_size (object l o) s → blank ≡ replicate size no_cell
    → length full ≡ size
    → ((k : ℕ) → k < size → get_or painted k no_cell
    ≡ field_cell (slice_index_or it.fields.items s 0) (relocations (object l o) s) k (get_or blank k no_cell))
    → ((k : ℕ) → k < size → get_or full k no_cell ≡ site_cell it.sites (sites_at l o) s k (get_or painted k no_cell))
    → full ≡ section_cells (code_cell kept l) l o s
unfolding code_cell
section_is kept l o s size it blank painted full at is blank_is long fields sites =
    let f : ℕ → Cell = λ k. code_cell kept l o s k in
    subst (λ n. full ≡ map f (range_with_len 0 n)) is
    (ext_get_or no_cell full (map f (range_with_len 0 size)) (omega (arith, long, length-map-range_with_len f 0 size))
    (λ k below.
    let inside : k < size = omega (arith, below, long) in
    let none : get_or blank k no_cell ≡ no_cell = ap (λ (xs : List Cell). get_or xs k no_cell) blank_is
    ∙ get_or-replicate size k no_cell no_cell inside in
    let first : get_or painted k no_cell
    ≡ field_cell (slice_index_or it.fields.items s 0) (relocations (object l o) s) k no_cell =
    fields k inside ∙ ap (λ (x : Cell). field_cell (slice_index_or it.fields.items s 0)
    (relocations (object l o) s) k x) none in
    sites k inside ∙ ap (λ (x : Cell). site_cell it.sites (sites_at l o) s k x) first
    ∙ same k ∙ sym (get_or-map-range_with_len f 0 size k k no_cell inside (omega arith))))
  where
    same : (k : ℕ) → site_cell it.sites (sites_at l o) s k
        (field_cell (slice_index_or it.fields.items s 0) (relocations (object l o) s) k no_cell)
        ≡ code_cell kept l o s k
    same k = rw at refl

-- ** what is kept has room

pub have_room : (ls : List Linking) (l : Linking) (entries : List Entry) (kept : List KeptObject)
    → KeepAll ls l entries kept (length l.objects)
    → length entries ≤ 2 ^ 32 → HaveRoom l kept
have_room ls l entries kept keep few = record {
  count = keep.count;
  all = λ o it is. (keep.each o it is).all;
  fields = λ o s it is within code. let a = ((keep.each o it is).fields s within code).inside in omega (arith, a, few);
  sites = λ o it is. let a = (keep.each o it is).sites.inside in omega (arith, a, few);
}
