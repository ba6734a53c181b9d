-- The parts behind the sections, put down piece by piece.
use Rattle.std.proofs.Common.{◌≡◌, ◌+◌, ◌<◌, ◌∙◌, ℕ, zero, suc, List, [], ◌∷◌, ◌++◌, Option, Some, None, length, drop}
use Rattle.std.proofs.Common.{◌≢◌, ◌-◌, Bool, Result, Ok, Err, true, false, append-nil, refl, sym, ap, append_assoc}
use Rattle.std.proofs.Common.{arith}
use Rattle.std.proofs.Common.{length-append}
use Rattle.std.specs.List.{flat_map}
use Rattle.std.specs.Option.{option_map}
use Rattle.std.specs.Prelude.{◌==◌, OnOk, negsuc, slice_get, unwrap_or, if◌then◌else◌}
use Rattle.std.proofs.lemmas.Bool.Decides.{nat_tests}
use Rattle.got_pairs.specs.declared.entry.Entry.{Entry}
use Rattle.got_pairs.specs.declared.need.Need.{Need}
use Rattle.placed_sections.specs.Files.{offset_of}
use Rattle.elf_records.specs.declared.relocation.RelocationKind.TheVariants.{GotPcRel}
use Rattle.got_pairs.specs.declared.need.Need.TheVariants.{RuntimeWord}
use Rattle.tls_relocs.specs.declared.fields.Field.{Field}
use Rattle.tls_relocs.specs.declared.fields.Field.TheVariants.{Empty}
use Rattle.tls_relocs.specs.Fields.{field_bytes}
use Rattle.tls_relocs.specs.Laid.{zeros}
use Rattle.tls_relocs.specs.Values.{stored_field}
use Rattle.link_needs.specs.Linking.{Linking, layout}
use Rattle.link_needs.specs.Needs.{got_size, got_start, has_stub, need_address, stub_start}
use Rattle.link_needs.specs.NeedLaws.{table}
use Rattle.link_core.specs.Bytes.{got_bytes, stub_bytes, with_got, with_stub}
use Rattle.link_core.specs.ByteLaws.{table_bytes}
use Rattle.link_core.specs.Laying.{got_behind, made_behind, stub_behind}

-- what follows from what holds where a step goes well
pub on_ok_then : {V E P Q : Type 0} (r : Result V E) → (P → Q) → OnOk r P → OnOk r Q
on_ok_then (Ok v) f p = f p
on_ok_then (Err e) f p = tt

-- an entry, and then those behind it
pub entries_step : (g : Need → Entry) (f : Entry → List ℕ) (file : List ℕ) (n : ℕ) (ks : List Need) (entry : Entry)
    → Some entry ≡ option_map g (slice_get ks n)
    → (file ++ f entry) ++ flat_map (λ k. f (g k)) (drop (n + 1) ks) ≡ file ++ flat_map (λ k. f (g k)) (drop n ks)
entries_step g f file n [] entry e = absurd (cc)
entries_step g f file zero (k ∷ ks) entry e =
    let same : entry ≡ g k = cc in
    append_assoc file (f entry) (flat_map (λ k. f (g k)) ks)
    ∙ ap (λ x. file ++ (f x ++ flat_map (λ k. f (g k)) ks)) same
entries_step g f file (suc n) (k ∷ ks) entry e =
    let next : suc n + 1 ≡ suc (n + 1) = omega arith in
    ap (λ m. (file ++ f entry) ++ flat_map (λ k. f (g k)) (drop m (k ∷ ks))) next ∙ entries_step g f file n ks entry e

-- there is one below the count
pub entries_there : {Y : Type 0} (g : Need → Y) (n : ℕ) (ks : List Need) → None ≡ option_map g (slice_get ks n)
    → n < length ks → ⊥
entries_there g n [] e there = omega arith
entries_there g zero (k ∷ ks) e there = cc
entries_there g (suc n) (k ∷ ks) e there = entries_there g n ks e (omega arith)

-- zeros up to a place, where the bytes begin at an offset
abbrev gap : ℕ → ℕ → List ℕ → List ℕ
gap place start bytes = zeros (place - start - length bytes)

-- and bytes behind them
gap_is : (place start : ℕ) (bytes own : List ℕ)
    → (bytes ++ gap place start bytes) ++ own ≡ bytes ++ (zeros (place - (start + length bytes)) ++ own)
gap_is place start bytes own =
    let same : place - start - length bytes ≡ place - (start + length bytes) = omega arith in
    append_assoc bytes (gap place start bytes) own ∙ ap (λ n. bytes ++ (zeros n ++ own)) same

-- the entries behind the zeros, where there are some
pub got_pushed : (l : Linking) (start : ℕ) (bytes : List ℕ) → got_size l ≢ 0
    → (bytes ++ gap (offset_of (layout l) (got_start l)) start bytes) ++ table_bytes (table l)
    ≡ bytes ++ got_behind l (start + length bytes)
unfolding got_bytes
got_pushed l start bytes some =
    let not : (got_size l == 0) ≡ false = grind (arith, nat_tests) in
    rw not (gap_is (offset_of (layout l) (got_start l)) start bytes (table_bytes (table l)))

-- the stub behind the zeros
pub stub_pushed : (l : Linking) (start : ℕ) (bytes : List ℕ) (value : Option Field) → has_stub l ≡ true
    → value ≡ stored_field GotPcRel 0 (negsuc 3) (stub_start l + 2) (need_address l (Some RuntimeWord))
    → ((bytes ++ gap (offset_of (layout l) (stub_start l)) start bytes) ++ (0xff ∷ 0x25 ∷ []))
    ++ field_bytes (unwrap_or value Empty) ≡ bytes ++ stub_behind l (start + length bytes)
unfolding stub_bytes
stub_pushed l start bytes value some is =
    let place = offset_of (layout l) (stub_start l) in
    let held = stored_field GotPcRel 0 (negsuc 3) (stub_start l + 2) (need_address l (Some RuntimeWord)) in
    rw (some, is)
    (append_assoc (bytes ++ gap place start bytes) (0xff ∷ 0x25 ∷ []) (field_bytes (unwrap_or held Empty))
    ∙ gap_is place start bytes (stub_bytes l))

pub stub_bare : (l : Linking) (start : ℕ) (bytes : List ℕ) → has_stub l ≡ true
    → None ≡ stored_field GotPcRel 0 (negsuc 3) (stub_start l + 2) (need_address l (Some RuntimeWord))
    → (bytes ++ gap (offset_of (layout l) (stub_start l)) start bytes) ++ (0xff ∷ 0x25 ∷ [])
    ≡ bytes ++ stub_behind l (start + length bytes)
stub_bare l start bytes some is =
    sym (append-nil ((bytes ++ gap (offset_of (layout l) (stub_start l)) start bytes) ++ (0xff ∷ 0x25 ∷ [])))
    ∙ stub_pushed l start bytes None some is

-- both
pub made_pushed : (l : Linking) (start : ℕ) (bytes : List ℕ)
    → (bytes ++ got_behind l (start + length bytes))
    ++ stub_behind l (start + length (bytes ++ got_behind l (start + length bytes)))
    ≡ bytes ++ made_behind l (start + length bytes)
made_pushed l start bytes =
    let own = got_behind l (start + length bytes) in
    let long : start + length (bytes ++ own) ≡ start + length bytes + length own =
    omega (arith, length-append bytes own) in
    append_assoc bytes own (stub_behind l (start + length (bytes ++ own)))
    ∙ ap (λ n. bytes ++ (own ++ stub_behind l n)) long

-- behind the sections they complete the file
chosen : (t : Bool) (bytes own : List ℕ) → bytes ++ (if t then own else []) ≡ (if t then bytes ++ own else bytes)
chosen true bytes own = refl
chosen false bytes own = append-nil bytes

chosen_not : (t : Bool) (bytes own : List ℕ) → bytes ++ (if t then [] else own) ≡ (if t then bytes else bytes ++ own)
chosen_not true bytes own = append-nil bytes
chosen_not false bytes own = refl

pub made_is : (l : Linking) (bytes : List ℕ) → bytes ++ made_behind l (length bytes) ≡ with_stub l (with_got l bytes)
made_is l bytes =
    let got = chosen_not (got_size l == 0) bytes
    (zeros (offset_of (layout l) (got_start l) - length bytes) ++ got_bytes l) in
    let stub = λ (own : List ℕ). chosen (has_stub l) own
    (zeros (offset_of (layout l) (stub_start l) - length own) ++ stub_bytes l) in
    let own = got_behind l (length bytes) in
    sym (append_assoc bytes own (stub_behind l (length bytes + length own)))
    ∙ ap (λ n. (bytes ++ own) ++ stub_behind l n) (sym (length-append bytes own))
    ∙ ap (λ (file : List ℕ). file ++ stub_behind l (length file)) got
    ∙ stub (with_got l bytes)
