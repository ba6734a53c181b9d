use Rattle.std.proofs.Common.{[], ◌∷◌, All, refl, arith}
use Rattle.std.proofs.lemmas.List.Elements.{All-cons, All-nil}
use Rattle.tls_layout.specs.declared.statics.TlsSize.{TlsSize}
use Rattle.tls_layout.specs.Statics.{IsTlsSize}
use Rattle.layout_tests.proofs.layouts.offsets_of_startup_modules.Goals as goal

abbrev first : TlsSize
first = record { size = 0x14; alignment = 8 }

abbrev second : TlsSize
second = record { size = 0x30; alignment = 0x20 }

abbrev third : TlsSize
third = record { size = 1; alignment = 1 }

all_ordinary : All IsTlsSize (first ∷ second ∷ third ∷ [])
all_ordinary =
    All-cons IsTlsSize first (second ∷ third ∷ []) (omega arith, (3, omega arith, refl))
    (All-cons IsTlsSize second (third ∷ []) (omega arith, (5, omega arith, refl))
    (All-cons IsTlsSize third [] (omega arith, (0, omega arith, refl)) (All-nil IsTlsSize)))

pub static_offsets-requires-clause-ordinary : goal.static_offsets-requires-clause-ordinary
static_offsets-requires-clause-ordinary g c = all_ordinary
