-- One search after another: what they find is the first fault, and where they find nothing the names are resolved.
use Rattle.std.proofs.Common.{ℕ, List, arith}
use Rattle.link_faults.specs.declared.fault.LinkFaultKind.TheVariants.{Undefined, Duplicate, NotTls}
use Rattle.link_faults.specs.declared.place.Place.{Place}
use Rattle.tls_symbols.specs.Faults.{is_faulty, IsFirst, IsFirstCharged, IsFirstDuplicate, NoDuplicate, NoneBelow}
use Rattle.tls_symbols.specs.Faults.{NoneCharged, Stands}

module _ (objects : List (List ℕ)) (startup : List (List (List ℕ))) where
  pub none_at_all : NoneBelow 0 objects startup
  none_at_all kind less = absurd (omega (arith, less))

  pub undefined_first : (place : Place)
      → IsFirstCharged (is_faulty Undefined objects startup) objects place.object place.section place.entry
      → IsFirst objects startup Undefined place.object place.section place.entry
  unfolding Stands
  undefined_first place first =
      record {
        known = omega arith;
        here = first.here;
        nowhere_earlier = first.nowhere_earlier;
        earlier_kinds = none_at_all;
      }

  pub none_undefined : NoneCharged (is_faulty Undefined objects startup) objects → NoneBelow 1 objects startup
  unfolding Stands
  none_undefined none Undefined less = none.nowhere
  none_undefined none kind less = absurd (omega (arith, less))

  pub duplicate_first : NoneBelow 1 objects startup → (place : Place)
      → IsFirstDuplicate objects place.object place.section place.entry
      → IsFirst objects startup Duplicate place.object place.section place.entry
  unfolding Stands
  duplicate_first earlier place first =
      record { known = omega arith; here = first.0; nowhere_earlier = first.1; earlier_kinds = earlier }

  pub none_duplicate : NoneBelow 1 objects startup → NoDuplicate objects → NoneBelow 2 objects startup
  unfolding Stands
  none_duplicate earlier none Undefined less = earlier Undefined (omega arith)
  none_duplicate earlier none Duplicate less = none
  none_duplicate earlier none kind less = absurd (omega (arith, less))

  pub not_tls_first : NoneBelow 2 objects startup → (place : Place)
      → IsFirstCharged (is_faulty NotTls objects startup) objects place.object place.section place.entry
      → IsFirst objects startup NotTls place.object place.section place.entry
  unfolding Stands
  not_tls_first earlier place first =
      record {
        known = omega arith;
        here = first.here;
        nowhere_earlier = first.nowhere_earlier;
        earlier_kinds = earlier;
      }

  pub none_not_tls : NoneBelow 2 objects startup → NoneCharged (is_faulty NotTls objects startup) objects
      → NoneBelow 3 objects startup
  unfolding Stands
  none_not_tls earlier none Undefined less = earlier Undefined (omega arith)
  none_not_tls earlier none Duplicate less = earlier Duplicate (omega arith)
  none_not_tls earlier none NotTls less = none.nowhere
  none_not_tls earlier none kind less = absurd (omega (arith, less))
