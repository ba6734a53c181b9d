-- Blocks of startup modules below a thread pointer (Drepper, section 3, variant II).
use Rattle.std.specs.Prelude.{◌+◌, ◌≤◌, ◌^◌, ℕ, zero, suc, List, slice_index_or}
use Rattle.elf_records.specs.Alignments.{IsAlignment}
use Rattle.tls_layout.specs.declared.statics.TlsSize.{TlsSize}
use Rattle.tls_layout.specs.Rounding.{round_up}

-- a module that does not exist
abbrev pub no_tls : TlsSize
no_tls = record { size = 0; alignment = 1 }

-- the TLS segment of the m-th module, counted from 0
abbrev pub tls_of : List TlsSize → ℕ → TlsSize
tls_of sizes m = slice_index_or sizes m no_tls

-- `tlsoffset_0 = 0`, `tlsoffset_{m+1} = round(tlsoffset_m + size_{m+1}, align_{m+1})`
unfoldable pub tls_offset : List TlsSize → ℕ → ℕ
tls_offset sizes zero = 0
tls_offset sizes (suc m) = round_up (tls_offset sizes m + (tls_of sizes m).size) (tls_of sizes m).alignment

-- a segment that a module may have
abbrev pub IsTlsSize : TlsSize → Type 0
IsTlsSize tls = (tls.size ≤ 2 ^ 20) × IsAlignment tls.alignment
