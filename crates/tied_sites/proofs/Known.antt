-- What a job's own setting knows of an instance that its history made.
use Rattle.std.proofs.Common.{◌≡◌, ◌∙◌, List, Some, map, sym, ap}
use Rattle.std.proofs.Common.{arith}
use Rattle.job_text.specs.LateImages.{LateLast}
use Rattle.known_instances.proofs.StartupNumbers.{known_given}
use Rattle.link_needs.specs.Linking.{Linking}
use Rattle.linked_modules.specs.Together.{AreTogether}
use Rattle.loaded_bytes.specs.Laws.{IsInstanceOf, images_of}
use Rattle.loaded_modules.specs.declared.instance.Instance.{Instance}
use Rattle.loaded_words.proofs.StubJump.{stub_loaded}
use Rattle.loaded_words.proofs.Words.{words_loaded}
use Rattle.loaded_words.specs.Laws.{IsKnown}
use Rattle.module_table.specs.declared.events.Event.{Event}
use Rattle.thread_blocks.specs.JobLoads.{job_loads}
use Rattle.thread_blocks.specs.Turns.{at_number}
use Rattle.tied_fields.specs.Settings.{counts, setting_of}
use Rattle.tied_sites.proofs.Counted.{counted, some_start, starts}
use Rattle.tied_sites.proofs.Shared.{shared}
use Rattle.tied_sites.proofs.Standing.{IsRelied}
use Rattle.tied_sites.specs.Instances.{Knows}

module _ (ls : List Linking) (history : List Event) (l : Linking) (x : Instance) (is : IsKnown ls history x)
    (at : at_number ls x.image ≡ Some l) where
  knows : Knows (setting_of ls history) ls l x
  knows = record {
    own = is.known;
    startup = λ k some low. (let s = starts ls history l x is k some low in (s.instance, (s.known, s.offset)));
    near = λ k some low. (starts ls history l x is k some low).near;
    counts = λ one.
        let g = known_given (job_loads (images_of ls)) history is.legal x.number x is.known in
        let start = some_start ls history l x is in
        let image : x.image ≡ 1 = g.image (omega (arith, one, start)) ∙ one in
        ap counts (ap (at_number ls) (sym image) ∙ at);
  }

-- all that its sites are proved from
pub relied : (ls : List Linking) (history : List Event) (l : Linking) (x : Instance) → AreTogether ls
    → LateLast (map (λ (l : Linking). l.kind) ls) → IsKnown ls history x → IsInstanceOf ls l x
    → IsRelied (setting_of ls history) ls l x
relied ls history l x together last is of = record {
  of = of;
  counted = counted ls history l x is of.image;
  knows = knows ls history l x is of.image;
  words = λ need at k word starts listed. words_loaded ls l x history need at k word is of starts listed;
  stub = λ has. stub_loaded ls l x history is of has;
  shared = shared ls history l x is together last of.image;
}
