-- Entries as they are added: what was there stays.
use Rattle.std.proofs.Common.{◌≡◌, ◌∙◌, ◌+◌, ◌-◌, ℕ, List, [], ◌∷◌, ◌++◌, length, Some, inl, inr, sym, ap, subst, arith}
use Rattle.std.proofs.Common.{length-append}
use Rattle.std.specs.Prelude.{◌⊎◌, slice_get, slice_index_or, unwrap_or}
use Rattle.std.proofs.lemmas.Bool.{cases_lt}
use Rattle.std.proofs.lemmas.List.Elements.{All-push}
use Rattle.std.proofs.lemmas.Option.{get_or_from_slice_get, slice_get_within, unwrap_or-slice_get}
use Rattle.tls_relocs.specs.Elements.{slice_get-append, slice_get-append_behind}
use Rattle.elf_object.specs.declared.relocation.Relocation.{Relocation}
use Rattle.elf_object.specs.Lent.{relocations, section_class}
use Rattle.link_needs.specs.Linking.{Linking, object}
use Rattle.meant_images.specs.declared.entries.Entry.{Entry}
use Rattle.meant_images.specs.declared.kept.KeptObject.{KeptObject}
use Rattle.meant_images.specs.Entries.{IsFieldEntry, IsNumberedEntry, IsSiteEntry}
use Rattle.meant_images.specs.Kept.{AreEntries, AreFields, AreSequences, FieldsBelow, Grows, KeepAll, Keeps}
use Rattle.meant_images.specs.Kept.{KeepsFields, SequencesBelow}
use Rattle.object_faults.specs.declared.class.SectionClass.TheVariants.{Executable}
use Rattle.sequence_forms.specs.declared.places.Site.{Site}

-- ** lists

front : {X : Type 0} (xs : List X) (x y : X) (e : ℕ) → slice_get xs e ≡ Some y → slice_get (xs ++ x ∷ []) e ≡ Some y
front xs x y e is = slice_get-append xs (x ∷ []) e (slice_get_within xs e y is) ∙ is

last : {X : Type 0} (xs : List X) (x : X) (e : ℕ) → length xs ≡ e → slice_get (xs ++ x ∷ []) e ≡ Some x
last xs x e is =
    let none : e - length xs ≡ 0 = omega (arith, is) in
    slice_get-append_behind xs (x ∷ []) e (omega (arith, is)) ∙ ap (λ n. slice_get (x ∷ []) n) none

-- an element of a longer list is one of the list, or the last
either : {X : Type 0} (xs : List X) (x y : X) (e : ℕ) → slice_get (xs ++ x ∷ []) e ≡ Some y
    → (slice_get xs e ≡ Some y) ⊎ ((e ≡ length xs) × (x ≡ y))
either xs x y e is = elim (cases_lt e (length xs)) [
  | inl below ↦ inl (sym (slice_get-append xs (x ∷ []) e below) ∙ is)
  | inr past ↦
      let within = slice_get_within (xs ++ x ∷ []) e y is in
      let at : e ≡ length xs = omega (arith, past, within, length-append xs (x ∷ [])) in
      let same = sym (last xs x e (sym at)) ∙ is in
      inr (at, cc same)
]

-- ** one entry more

pub grows_push : (xs : List Entry) (x : Entry) → Grows xs (xs ++ x ∷ [])
grows_push xs x = record {
  longer = omega (arith, length-append xs (x ∷ []));
  kept = λ e it is. front xs x it e is;
}

pub grows_twice : (xs ys zs : List Entry) → Grows xs ys → Grows ys zs → Grows xs zs
grows_twice xs ys zs first second = record {
  longer = let a = first.longer in let b = second.longer in omega (arith, a, b);
  kept = λ e it is. second.kept e it (first.kept e it is);
}

pub entries_push : (xs : List Entry) (x : Entry) → AreEntries xs → IsNumberedEntry x → AreEntries (xs ++ x ∷ [])
entries_push xs x are numbered = record {
  first = front xs x _ 0 are.first;
  numbered = All-push IsNumberedEntry xs x are.numbered numbered;
}

pub fields_more : (l : Linking) (o : ℕ) (entries : List Entry) (rs : List Relocation) (first n : ℕ) (it : Entry)
    (r : Relocation)
    → slice_get rs n ≡ Some r → IsFieldEntry l o r it → length entries ≡ first + n → FieldsBelow l o entries rs first n
    → FieldsBelow l o (entries ++ it ∷ []) rs first (n + 1)
fields_more l o entries rs first n it r at is long so_far i x below there = elim (cases_lt i n) [
  | inl less ↦
      let old = so_far i x less there in
      (old.0, (front entries it old.0 (first + i) old.1.0, old.1.1))
  | inr most ↦
      let same : i ≡ n = omega (arith, below, most) in
      let one : r ≡ x = cc (at, there, same) in
      (it, (last entries it (first + i) (omega (arith, long, same)), subst (λ y. IsFieldEntry l o y it) one is))
]

pub sequences_more : (ls : List Linking) (l : Linking) (o : ℕ) (entries : List Entry) (sites : List Site) (first n : ℕ)
    (it : Entry) (site : Site)
    → slice_get sites n ≡ Some site → IsSiteEntry ls l o site it → length entries ≡ first + n
    → SequencesBelow ls l o entries sites first n
    → SequencesBelow ls l o (entries ++ it ∷ []) sites first (n + 1)
sequences_more ls l o entries sites first n it site at is long so_far i x below there = elim (cases_lt i n) [
  | inl less ↦
      let old = so_far i x less there in
      (old.0, (front entries it old.0 (first + i) old.1.0, old.1.1))
  | inr most ↦
      let same : i ≡ n = omega (arith, below, most) in
      let one : site ≡ x = cc (at, there, same) in
      (it, (last entries it (first + i) (omega (arith, long, same)), subst (λ y. IsSiteEntry ls l o y it) one is))
]

-- ** what is kept stays kept

fields_grow : (l : Linking) (o : ℕ) (old new : List Entry) (rs : List Relocation) (first : ℕ) → Grows old new
    → AreFields l o old rs first → AreFields l o new rs first
fields_grow l o old new rs first grows are = record {
  inside = let a = are.inside in let b = grows.longer in omega (arith, a, b);
  each = λ i r below is. let x = are.each i r below is in (x.0, (grows.kept (first + i) x.0 x.1.0, x.1.1));
}

sequences_grow : (ls : List Linking) (l : Linking) (o : ℕ) (old new : List Entry) (sites : List Site) (first : ℕ)
    → Grows old new
    → AreSequences ls l o old sites first → AreSequences ls l o new sites first
sequences_grow ls l o old new sites first grows are = record {
  inside = let a = are.inside in let b = grows.longer in omega (arith, a, b);
  each = λ i site below is. let x = are.each i site below is in (x.0, (grows.kept (first + i) x.0 x.1.0, x.1.1));
}

pub keeps_grow : (l : Linking) (o : ℕ) (old new : List Entry) (firsts : List ℕ) (n : ℕ) → Grows old new
    → KeepsFields l o old firsts n → KeepsFields l o new firsts n
keeps_grow l o old new firsts n grows keeps s below code =
    fields_grow l o old new (relocations (object l o) s) (slice_index_or firsts s 0) grows (keeps s below code)

keep_grow : (ls : List Linking) (l : Linking) (o : ℕ) (old new : List Entry) (it : KeptObject) → Grows old new
    → Keeps ls l o old it → Keeps ls l o new it
keep_grow ls l o old new it grows keeps = record {
  all = keeps.all;
  fields = keeps_grow l o old new it.fields.items _ grows keeps.fields;
  sites = sequences_grow ls l o old new _ it.sites grows keeps.sites;
}

-- a section more
pub keeps_more : (l : Linking) (o : ℕ) (old new : List Entry) (firsts : List ℕ) (first n : ℕ) → Grows old new
    → length firsts ≡ n
    → KeepsFields l o old firsts n
    → (section_class (object l o) n ≡ Some Executable → AreFields l o new (relocations (object l o) n) first)
    → KeepsFields l o new (firsts ++ first ∷ []) (n + 1)
keeps_more l o old new firsts first n grows long keeps here s below code = elim (cases_lt s n) [
  | inl less ↦
      let same : slice_index_or (firsts ++ first ∷ []) s 0 ≡ slice_index_or firsts s 0 =
      sym (unwrap_or-slice_get (firsts ++ first ∷ []) s 0)
      ∙ ap (λ x. unwrap_or x 0) (slice_get-append firsts (first ∷ []) s (omega (arith, less, long)))
      ∙ unwrap_or-slice_get firsts s 0 in
      rw same (keeps_grow l o old new firsts n grows keeps s less code)
  | inr most ↦
      let at : n ≡ s = omega (arith, below, most) in
      let same : slice_index_or (firsts ++ first ∷ []) s 0 ≡ first =
      get_or_from_slice_get (firsts ++ first ∷ []) s first 0 (last firsts first s (omega (arith, long, at))) in
      rw same (subst (λ m. section_class (object l o) m ≡ Some Executable
      → AreFields l o new (relocations (object l o) m) first) at here code)
]

-- an object more
pub all_more : (ls : List Linking) (l : Linking) (old new : List Entry) (kept : List KeptObject) (it : KeptObject)
    (n : ℕ) → Grows old new
    → KeepAll ls l old kept n → Keeps ls l n new it → KeepAll ls l new (kept ++ it ∷ []) (n + 1)
all_more ls l old new kept it n grows keep here = record {
  count = let a = keep.count in omega (arith, a, length-append kept (it ∷ []));
  each = λ o x is. elim (either kept it x o is) [
    | inl before ↦ keep_grow ls l o old new x grows (keep.each o x before)
    | inr now ↦
        let at : n ≡ o = sym keep.count ∙ sym now.0 in
        let P : ℕ → Type 0 = λ m. Keeps ls l m new x in
        subst P at (subst (λ y. Keeps ls l n new y) now.1 here)
  ];
}
