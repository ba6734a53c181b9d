-- What is made of objects that link can be laid into a file.
use Rattle.std.proofs.Common.{◌≡◌, ◌&&◌, Bool, true, refl}
use Rattle.std.proofs.lemmas.List.Elements.{All-append}
use Rattle.image_rules.specs.declared.places.FileKind.TheVariants.{Module}
use Rattle.image_writer.specs.Linkable.{IsLinkable, IsRightRelocation}
use Rattle.link_faults.specs.declared.image_kind.ImageKind.{ImageKind}
use Rattle.link_faults.specs.declared.image_kind.ImageKind.TheVariants.{Exe, Pie, Start, Late}
use Rattle.link_faults.specs.ImageKinds.{is_module}
use Rattle.link_needs.specs.Linking.{Linking}
use Rattle.link_tables.specs.Dynamic.{got_relocations, image_relocations, is_flagged, relatives}
use Rattle.link_tables.specs.Faults.{IsSound}
use Rattle.link_needs.specs.Given.{IsGiven}
use Rattle.link_core.specs.Images.{contents, file_kind}
use Rattle.link_core.proofs.GotRelocations.{right_got}
use Rattle.link_core.proofs.Loads.{holds_tls, loadable}
use Rattle.link_core.proofs.Relatives.{right_relatives, rising_all}
use Rattle.link_core.proofs.Symbols.{named, right_symbols}
use Rattle.link_core.proofs.Few.{table_fits}

module_of : (kind : ImageKind) (t : Bool) → (is_module kind && t) ≡ true → file_kind kind ≡ Module
module_of Exe t e = cc
module_of Pie t e = cc
module_of Start t e = refl
module_of Late t e = refl

-- only a module has the flag
flagged : (l : Linking) → is_flagged l ≡ true → file_kind l.kind ≡ Module
unfolding is_flagged
flagged l e = module_of l.kind _ e

pub linkable : (l : Linking) → IsGiven l → IsSound l → IsLinkable (contents l)
unfolding contents image_relocations
linkable l given sound = record {
  loadable = loadable l given sound.limits;
  holds_tls = holds_tls l given sound.limits;
  named = named l;
  symbols = right_symbols l given (table_fits l given sound.limits);
  relocations =
      All-append (IsRightRelocation (contents l)) (relatives l) (got_relocations l)
      (right_relatives l given (table_fits l given sound.limits)) (right_got l given sound);
  rising = rising_all l given (table_fits l given sound.limits);
  flagged = flagged l;
}
