-- What the fields of sites hold: how far an entry of the table, or the stub, is from the field's end, and a variable
-- from the thread pointer.
use Rattle.std.proofs.Common.{◌≡◌, ◌∙◌, ◌+◌, ◌-◌, ◌%◌, ◌^◌, ◌<◌, ◌≤◌, ℕ, ℤ, pos, negsuc, true, Option}
use Rattle.std.proofs.Common.{Some}
use Rattle.std.proofs.Common.{refl, sym, ap, subst, arith}
use Rattle.std.specs.Prelude.{◌+ℤ◌, ◌-ℤ◌, unwrap_or}
use Rattle.std.proofs.lemmas.Int.{ints}
use Rattle.elf_object.specs.declared.relocation.Relocation.{Relocation}
use Rattle.elf_records.specs.declared.relocation.RelocationKind.{RelocationKind}
use Rattle.elf_records.specs.declared.relocation.RelocationKind.TheVariants.{Pc32, Plt32, GotPcRel, TlsGd, TlsLd}
use Rattle.elf_records.specs.declared.relocation.RelocationKind.TheVariants.{GotTpOff, TpOff32, GotPc32TlsDesc}
use Rattle.elf_records.specs.declared.relocation.RelocationKind.TheVariants.{GotPcRelX, RexGotPcRelX}
use Rattle.got_pairs.proofs.Served.{within}
use Rattle.got_pairs.specs.declared.need.Need.{Need}
use Rattle.got_pairs.specs.Entries.{less}
use Rattle.got_pairs.specs.Needs.{size_of}
use Rattle.link_faults.specs.declared.binding.Binding.{Binding}
use Rattle.link_faults.specs.declared.binding.Binding.TheVariants.{Here, Runtime}
use Rattle.link_faults.specs.declared.symbol_ref.SymbolRef.{SymbolRef}
use Rattle.link_needs.proofs.PlanLemmas.{table_small}
use Rattle.link_needs.specs.Laws.{HasEntry}
use Rattle.link_needs.specs.Given.{FitsTable, IsGiven}
use Rattle.link_needs.specs.Linking.{Linking, binding, block_offset, layout, offset, place}
use Rattle.link_needs.specs.Needs.{entries, entry_by, got_size, got_start, need_address, relocation_need, stub_start}
use Rattle.link_needs.specs.Plans.{reaches_entry}
use Rattle.link_needs.specs.Values.{field, other_number, own_number}
use Rattle.sequence_forms.specs.declared.forms.Call.TheVariants.{Direct}
use Rattle.sequence_forms.specs.Forms.{IsCallKind}
use Rattle.tls_layout.proofs.Together.{page_up-least}
use Rattle.tls_layout.specs.Places.{address_of}
use Rattle.tls_relocs.specs.Values.{signed_field, stored_field}
use Rattle.tied_sites.proofs.Numbers.{Holds, less_held}
use Rattle.link_core.proofs.NewFields.{distance_field as offset_field}

-- from the end of a field of four bytes at a place to a number, modulo 2^64
abbrev pub from_end : ℕ → ℕ → ℕ
from_end number place = (number + (2 ^ 64 - (place + 4))) % 2 ^ 64

-- so it leads there, also where both are moved
pub leads : (number at bias end : ℕ) → end ≡ at + 4 + bias → number + bias < 2 ^ 63 → end < 2 ^ 63
    → (end + from_end number at) % 2 ^ 64 ≡ number + bias
leads number at bias end e small low = omega (arith, e)

distance_held : (g p : ℕ) (a : ℤ) → a ≡ negsuc 3 → g < 2 ^ 30 → p < 2 ^ 30
    → Holds (signed_field ((pos g +ℤ a) -ℤ pos p)) (from_end g p)
distance_held g p a e small low =
    let sum : (pos g +ℤ negsuc 3) -ℤ pos p +ℤ pos (p + 4) ≡ pos g = omega (arith, ints) in
    subst (λ b. Holds (signed_field ((pos g +ℤ b) -ℤ pos p)) (from_end g p)) (sym e)
    (less_held ((pos g +ℤ negsuc 3) -ℤ pos p) g (p + 4) sum (omega (arith, small)) (omega (arith, low)))

-- ** entries

entry_field : (l : Linking) (o : ℕ) (r : Relocation) (kind : RelocationKind) (s p : ℕ) → reaches_entry kind ≡ true
    → stored_field kind s r.addend p (other_number l o r kind)
    ≡ signed_field ((pos (need_address l (relocation_need l o r)) +ℤ r.addend) -ℤ pos p)
entry_field l o r TlsGd s p e = refl
entry_field l o r TlsLd s p e = refl
entry_field l o r GotTpOff s p e = refl
entry_field l o r GotPc32TlsDesc s p e = refl
entry_field l o r GotPcRel s p e = refl
entry_field l o r GotPcRelX s p e = refl
entry_field l o r RexGotPcRelX s p e = refl
entry_field l o r kind s p e = absurd (cc)

call_field : (l : Linking) (o : ℕ) (r : Relocation) (kind : RelocationKind) (bound : Option Binding) (p : ℕ)
    → IsCallKind Direct kind → bound ≡ Some Runtime
    → stored_field kind (own_number l kind bound) r.addend p (other_number l o r kind)
    ≡ signed_field ((pos (stub_start l) +ℤ r.addend) -ℤ pos p)
call_field l o r Plt32 bound p is e = rw e refl
call_field l o r Pc32 bound p is e = rw e refl
call_field l o r _ bound p is e = absurd (cc)

module _ (l : Linking) (given : IsGiven l) (limits : FitsTable l) where
  -- where an entry is
  pub entry_low : (need : Need) (e : HasEntry l need) → got_start l + e.at + size_of need ≤ 2 ^ 25
  entry_low need e =
      let inside = within (entries l) need (Some e.at) (sym e.starts) in
      omega (arith, inside, table_small l given limits)

  pub stub_low : stub_start l ≤ 2 ^ 26
  stub_low =
      let few = table_small l given limits in
      let least = page_up-least (got_start l + got_size l) 16384 (omega (arith, few)) in
      omega (arith, least)

  module _ (o t address : ℕ) (at : address_of (layout l) o t ≡ Some address) (r : Relocation)
      (low : address + r.offset < 2 ^ 30) where
    place_is : place l o t r.offset ≡ address + r.offset
    place_is = ap (λ a. unwrap_or a 0 + r.offset) at

    pub entry_held : (need : Need) (e : HasEntry l need) → reaches_entry r.kind ≡ true → r.addend ≡ negsuc 3
        → relocation_need l o r ≡ Some need → Holds (field l o t r) (from_end (got_start l + e.at) (address + r.offset))
    unfolding field
    entry_held need e reaches addend is =
        let goal : ℕ → ℕ → Type 0 = λ g p.
        Holds (signed_field ((pos g +ℤ r.addend) -ℤ pos p)) (from_end (got_start l + e.at) (address + r.offset)) in
        let address_is : need_address l (relocation_need l o r) ≡ got_start l + e.at =
        ap (need_address l) is ∙ ap (entry_by l) e.starts in
        let held = distance_held (got_start l + e.at) (address + r.offset) r.addend addend
        (let few = entry_low need e in omega (arith, few)) low in
        subst (λ f. Holds f (from_end (got_start l + e.at) (address + r.offset)))
        (sym (entry_field l o r r.kind (own_number l r.kind (binding l o r)) (place l o t r.offset) reaches
        ∙ ap (λ g. signed_field ((pos g +ℤ r.addend) -ℤ pos (place l o t r.offset))) address_is
        ∙ ap (λ p. signed_field ((pos (got_start l + e.at) +ℤ r.addend) -ℤ pos p)) place_is)) held

    pub call_held : IsCallKind Direct r.kind → r.addend ≡ negsuc 3 → binding l o r ≡ Some Runtime
        → Holds (field l o t r) (from_end (stub_start l) (address + r.offset))
    unfolding field
    call_held kind addend bound =
        let held = distance_held (stub_start l) (address + r.offset) r.addend addend
        (let few = stub_low in omega (arith, few)) low in
        subst (λ f. Holds f (from_end (stub_start l) (address + r.offset)))
        (sym (call_field l o r r.kind (binding l o r) (place l o t r.offset) kind bound
        ∙ ap (λ p. signed_field ((pos (stub_start l) +ℤ r.addend) -ℤ pos p)) place_is)) held

  -- a variable of the program
  pub offset_held : (o t : ℕ) (r : Relocation) (found : SymbolRef) → r.kind ≡ TpOff32 → r.addend ≡ pos 0
      → binding l o r ≡ Some (Here found) → offset l found < 2 ^ 30 → block_offset l < 2 ^ 30
      → Holds (field l o t r) (less (offset l found) (block_offset l))
  unfolding field
  offset_held o t r found kind addend bound small low =
      let sum : (pos (offset l found) +ℤ pos 0) -ℤ pos (block_offset l) +ℤ pos (block_offset l) ≡ pos (offset l found) =
      omega (arith, ints) in
      let held = less_held ((pos (offset l found) +ℤ pos 0) -ℤ pos (block_offset l)) (offset l found)
      (block_offset l) sum
      (omega (arith, small)) (omega (arith, low)) in
      subst (λ f. Holds f (less (offset l found) (block_offset l)))
      (sym (offset_field l o r r.kind (binding l o r) found (place l o t r.offset) kind bound
      ∙ ap (λ a. signed_field ((pos (offset l found) +ℤ a) -ℤ pos (block_offset l))) addend)) held
