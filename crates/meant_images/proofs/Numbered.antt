-- The definitions of an image have numbers, and what a name stands for that no image defines.
use Rattle.std.proofs.Common.{◌≡◌, ◌≤◌, ℕ, zero, suc, List, All, [], length, Some, None, refl, subst, arith}
use Rattle.std.specs.Prelude.{option_and_then, unwrap_or}
use Rattle.std.proofs.lemmas.Option.{get_or_from_slice_get, slice_get_within}
use Rattle.elf_object.specs.Laws.{symbols_few}
use Rattle.link_faults.specs.declared.symbol_ref.SymbolRef.{SymbolRef}
use Rattle.link_needs.specs.Given.{IsGiven}
use Rattle.link_needs.specs.Linking.{Linking, object}
use Rattle.meant_images.specs.Targets.{HasFewObjects, HasNumber}
use Rattle.thread_blocks.specs.Turns.{at_number}
use Rattle.tls_symbols.specs.Definitions.{IsWithin, definition_of}
use Rattle.whole_meaning.specs.Code.{no_variable, shared_by}

pub has_number : (l : Linking) (found : SymbolRef) → HasFewObjects l → IsGiven l → IsWithin l.objects found
    → HasNumber found
has_number l found few given within =
    let inside = within.object in
    let below = within.symbol in
    let small = symbols_few (object l found.object) (given.are_objects found.object [] inside) in
    record { object = omega (arith, few, inside); symbol = omega (arith, below, small) }

-- a startup image by its number
pub image_found : (ls : List Linking) (k : ℕ) (l : Linking) → All HasFewObjects ls → at_number ls k ≡ Some l
    → (k ≤ length ls) × HasFewObjects l
image_found ls zero l few at = absurd (cc at)
image_found ls (suc i) l few at =
    let within = slice_get_within ls i l at in
    (omega (arith, within), subst HasFewObjects (get_or_from_slice_get ls i l l at) (few i l within))

pub shared_none : (ls : List Linking) (k : ℕ) (l : Linking) (name : List ℕ) → at_number ls k ≡ Some l
    → definition_of l.objects name ≡ None
    → no_variable ≡ unwrap_or (option_and_then (shared_by name k) (at_number ls k)) no_variable
shared_none ls k l name at none = rw (at, none) refl
