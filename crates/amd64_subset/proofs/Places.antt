-- Where an instruction's fields lie.
use Rattle.std.proofs.Common.{◌≡◌, ℕ, ◌+◌, ◌<◌, ◌≤◌, Bool, true, false, cond, List, ◌++◌, length, take, Option, Some}
use Rattle.std.proofs.Common.{None, sym, ap, arith}
use Rattle.std.specs.Prelude.{IfSome}
use Rattle.std.specs.Option.{option_to_list}
use Rattle.std.proofs.lemmas.List.{length-append, length-take}
use Rattle.amd64_subset.specs.declared.instr.Decoded.{Decoded}
use Rattle.amd64_subset.specs.declared.prefix.Prefixes.{Prefixes}
use Rattle.amd64_words.specs.declared.size.Size.{Size}
use Rattle.amd64_words.specs.declared.size.Size.TheVariants as size
use Rattle.amd64_subset.specs.declared.row.Row.{Row}
use Rattle.amd64_subset.specs.declared.row.Row.TheVariants as row
use Rattle.amd64_subset.specs.declared.row.Numbered.{Numbered}
use Rattle.amd64_subset.specs.declared.row.Numbered.TheVariants as numbered
use Rattle.amd64_subset.specs.declared.selectors.Selectors.{Selectors}
use Rattle.amd64_subset.specs.declared.meaning.Body.{Body}
use Rattle.amd64_subset.specs.Number.{count_of, signed_of}
use Rattle.amd64_subset.specs.Prefix.{bits_of}
use Rattle.amd64_subset.specs.Selectors.{displacement_size}
use Rattle.amd64_subset.specs.Meaning.{width_of, from_end, takes_immediate, numbered_body, operand_body}
use Rattle.amd64_subset.specs.Decoding.{before, decoded}
use Rattle.amd64_subset.specs.Spelling.{prefixes_of, IsOperated, HasBody, Spells, HasField, IsPlaced}
use Rattle.amd64_subset.proofs.Parts.{is_opcode}
use Rattle.amd64_subset.proofs.Whole.{decoded_found}

-- a place from the end that leaves so many bytes, four of them the field's own
abbrev pub IsBack : ℕ → ℕ → Type 0
IsBack len back = (4 ≤ back) × (back ≤ len)

-- a four-byte field of this size ends where so many bytes follow
place_back : (s : Size) (behind len : ℕ) → count_of s + behind ≤ len → IfSome (from_end s behind) (IsBack len)
place_back size.Zero behind len fits = tt
place_back size.One behind len fits = tt
place_back size.Four behind len fits = (omega arith, omega arith)
place_back size.Eight behind len fits = tt

pub record HasBack (len : ℕ) (body : Body) : Type 0 where
  pub disp : IfSome body.disp (IsBack len)
  pub imm : IfSome body.imm (IsBack len)

if_back : (b : Bool) (o : Option ℕ) (len : ℕ) → IfSome o (IsBack len) → IfSome (cond b o None) (IsBack len)
if_back true o len h = h
if_back false o len h = tt

operated_back : (prefixes : Prefixes) (r : Row) (s : Size) (bytes : List ℕ) (body : Body)
    → IsOperated prefixes r s bytes body → HasBack (length bytes) body
unfolding operand_body
operated_back prefixes r s bytes body h =
    let selectors : Selectors = record { modrm = h.modrm; sib = h.sib } in
    let len : count_of (displacement_size selectors) + count_of s ≤ length bytes =
    rw (h.whole) (omega (
      arith,
      length-append (option_to_list h.sib)
          (h.displacement ++ h.immediate),
      length-append h.displacement h.immediate,
      h.displacement-length,
      h.immediate-length,
    )) in
    rw (h.body-is) (record {
      disp = place_back (displacement_size selectors) (count_of s) (length bytes) len;
      imm = if_back (takes_immediate h.action) (from_end s 0) (length bytes)
          (place_back s 0 (length bytes) (omega arith));
    })

numbered_back : (action : Numbered) (prefixes : Prefixes) (s : Size) (bytes : List ℕ) → length bytes ≡ count_of s
    → HasBack (length bytes) (numbered_body action (width_of prefixes) s (signed_of s bytes))
unfolding numbered_body
numbered_back numbered.Call prefixes s bytes len = record { disp = tt; imm = tt }
numbered_back numbered.Jump prefixes s bytes len = record { disp = tt; imm = tt }
numbered_back (numbered.JumpIf c) prefixes s bytes len = record { disp = tt; imm = tt }
numbered_back (numbered.Move r) prefixes s bytes len =
    record { disp = tt; imm = place_back s 0 (length bytes) (omega arith) }
numbered_back (numbered.Compute a) prefixes s bytes len =
    record { disp = tt; imm = place_back s 0 (length bytes) (omega arith) }

pub body_back : (prefixes : Prefixes) (r : Row) (bytes : List ℕ) (body : Body) → HasBody prefixes r bytes body
    → HasBack (length bytes) body
body_back prefixes (row.Alone operation) bytes body h = rw (h.1) (record { disp = tt; imm = tt })
body_back prefixes row.Nop bytes body h = rw (h.1) (record { disp = tt; imm = tt })
body_back prefixes row.EndBranch bytes body h = rw (h.1) (record { disp = tt; imm = tt })
body_back prefixes (row.Number action s) bytes body h = rw (h.1) (numbered_back action prefixes s bytes h.0)
body_back prefixes (row.Register action) bytes body h =
    operated_back prefixes (row.Register action) size.Zero bytes body h
body_back prefixes (row.Group group s) bytes body h = operated_back prefixes (row.Group group s) s bytes body h

field_at : (o : Option ℕ) (len rest : ℕ) → rest < len → IfSome o (IsBack rest) → IfSome (before len o) (HasField len)
field_at None len rest less h = tt
field_at (Some back) len rest less h = (omega (arith, h.0, h.1), omega (arith, h.0, h.1))

pub spells_placed : (bytes : List ℕ) (d : Decoded) → Spells bytes d → IsPlaced d
spells_placed bytes d h =
    let p = h.parts in
    let back = body_back (prefixes_of p.marks p.rex) p.row p.rest h.body p.has_body in
    let opcode = is_opcode (bits_of (prefixes_of p.marks p.rex)) p.opcode p.row p.row-is in
    let less : length p.rest < length bytes = rw (p.whole) (omega (
      arith,
      length-append p.marks (option_to_list p.rex ++ (p.opcode ++ p.rest)),
      length-append
          (option_to_list p.rex) (p.opcode ++ p.rest),
      length-append p.opcode p.rest,
      ap length opcode.whole,
    )) in
    rw (h.decoded-is) (record {
      some = omega arith;
      most = h.short;
      disp = field_at h.body.disp (length bytes) (length p.rest) less back.disp;
      imm = field_at h.body.imm (length bytes) (length p.rest) less back.imm;
    })

-- ---- decode

pub decoded_spells : (bytes : List ℕ) (o : Option Decoded) → o ≡ decoded bytes
    → IfSome o (λ d. Spells (take d.len bytes) d)
decoded_spells bytes None e = tt
decoded_spells bytes (Some d) e = (decoded_found bytes d (sym e)).spells

pub decoded_length : (bytes : List ℕ) (o : Option Decoded) → o ≡ decoded bytes → IfSome o (λ d. d.len ≤ length bytes)
decoded_length bytes None e = tt
decoded_length bytes (Some d) e = omega (arith, length-take d.len bytes, (decoded_found bytes d (sym e)).len-length)

pub decoded_placed : (bytes : List ℕ) (o : Option Decoded) → o ≡ decoded bytes → IfSome o IsPlaced
decoded_placed bytes None e = tt
decoded_placed bytes (Some d) e = spells_placed (take d.len bytes) d (decoded_found bytes d (sym e)).spells
