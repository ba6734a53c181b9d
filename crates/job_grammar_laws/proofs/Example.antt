-- The example, line by line.
use Rattle.std.proofs.Common.{◌≡◌, ◌≢◌, ℕ, zero, suc, List, [], ◌∷◌, Some, None, refl, subst, arith}
use Rattle.std.specs.Prelude.{codes}
use Rattle.std.specs.List.{All, AllZip}
use Rattle.std.proofs.lemmas.List.Elements.{All-cons, All-nil}
use Rattle.std.proofs.lemmas.Option.{same_Some}
use Rattle.job_text.specs.Numbering.{at_number}
use Rattle.job_text.specs.Numbers.{number, numeral}
use Rattle.job_text.specs.declared.images.Image.{Image}
use Rattle.job_text.specs.declared.thread_lines.Action.TheVariants.{Call, Open as OpenIt}
use Rattle.job_text.specs.declared.thread_lines.ThreadLine.{ThreadLine}
use Rattle.link_faults.specs.declared.image_kind.ImageKind.TheVariants.{Late, Pie}
use Rattle.job_grammar_laws.specs.Derived.{IsAsked, of_thread}
use Rattle.job_grammar_laws.specs.Example.{ExampleIsDerived, example_job}
use Rattle.job_grammar_laws.specs.Grammar.{Asked, IsWord, Told, OfImage, OfOpen, OfCall, group, nothing_told}
use Rattle.job_grammar_laws.specs.Images.{IsSpelled}
use Rattle.job_grammar_laws.specs.Numbers.{Writes}
use Rattle.job_grammar_laws.proofs.Numbers.{writes_read}
use Rattle.job_grammar_laws.proofs.Spelled.{spelled}
use Rattle.job_grammar_laws.proofs.Writer.{Goes, ends, fixed, next}

abbrev app : Image
app = record { name = codes "app"; kind = Pie; objects = codes "main.o" ∷ [] }

abbrev plug : Image
plug = record { name = codes "plug"; kind = Late; objects = codes "plugin.o" ∷ [] }

abbrev opened : Asked
opened = record { thread = 1; image = codes "plug"; action = OpenIt }

abbrev called : Asked
called = record { thread = 1; image = codes "plug"; action = Call (codes "bump") 16 0 0 }

-- what is told after each line
abbrev after : List Image → List Asked → Told
after images asked = record { images = images; threads = None; fuel = None; order = None; asked = asked }

one : Writes (codes "1") 1
unfolding number numeral
one = (writes_read (codes "1") 1).0 refl

sixteen : Writes (codes "16") 16
unfolding number numeral
sixteen = (writes_read (codes "16") 16).0 refl

none : Writes (codes "0") 0
unfolding number numeral
none = (writes_read (codes "0") 0).0 refl

-- words that are written out
words : (w : List ℕ) (ws : List (List ℕ)) → IsWord w → All IsWord ws → All IsWord (w ∷ ws)
words w ws is are = All-cons IsWord w ws is are

app_spelled : IsSpelled app
app_spelled = spelled app (record { name = refl; objects = omega arith; short = refl })

plug_spelled : IsSpelled plug
plug_spelled = spelled plug (record { name = refl; objects = omega arith; short = refl })

abbrev last_lines : Goes 3 (after (plug ∷ app ∷ []) []) (after (plug ∷ app ∷ []) (opened ∷ called ∷ []))
last_lines =
    next 3 (after (plug ∷ app ∷ []) []) (after (plug ∷ app ∷ []) (opened ∷ []))
    (after (plug ∷ app ∷ []) (opened ∷ called ∷ [])) (codes "1") (codes "open" ∷ codes "plug" ∷ []) (omega arith)
    (words (codes "1") (codes "open" ∷ codes "plug" ∷ []) (fixed (codes "1") (omega arith) refl)
    (words (codes "open") (codes "plug" ∷ []) (fixed (codes "open") (omega arith) refl)
    (words (codes "plug") [] (fixed (codes "plug") (omega arith) refl) (All-nil IsWord))))
    (OfOpen opened (codes "1") refl refl
    (record { written = one; thread = (omega arith, omega arith); image = (0, omega arith, refl) }))
    (next 4 (after (plug ∷ app ∷ []) (opened ∷ [])) (after (plug ∷ app ∷ []) (opened ∷ called ∷ []))
    (after (plug ∷ app ∷ []) (opened ∷ called ∷ [])) (codes "1")
    (codes "call" ∷ codes "plug" ∷ codes "bump" ∷ codes "16" ∷ codes "0" ∷ codes "0" ∷ []) (omega arith)
    (words (codes "1") (codes "call" ∷ codes "plug" ∷ codes "bump" ∷ codes "16" ∷ codes "0" ∷ codes "0" ∷ [])
    (fixed (codes "1") (omega arith) refl)
    (words (codes "call") (codes "plug" ∷ codes "bump" ∷ codes "16" ∷ codes "0" ∷ codes "0" ∷ [])
    (fixed (codes "call") (omega arith) refl)
    (words (codes "plug") (codes "bump" ∷ codes "16" ∷ codes "0" ∷ codes "0" ∷ [])
    (fixed (codes "plug") (omega arith) refl)
    (words (codes "bump") (codes "16" ∷ codes "0" ∷ codes "0" ∷ []) (fixed (codes "bump") (omega arith) refl)
    (words (codes "16") (codes "0" ∷ codes "0" ∷ []) (fixed (codes "16") (omega arith) refl)
    (words (codes "0") (codes "0" ∷ []) (fixed (codes "0") (omega arith) refl)
    (words (codes "0") [] (fixed (codes "0") (omega arith) refl) (All-nil IsWord))))))))
    (OfCall called (codes "1") (codes "bump") (codes "16") (codes "0") (codes "0") 16 0 0 refl refl
    (record { written = one; thread = (omega arith, omega arith); image = (0, omega arith, refl) }) (omega arith)
    sixteen none none)
    (ends 5 (after (plug ∷ app ∷ []) (opened ∷ called ∷ []))))

differs : codes "plug" ≡ codes "app" → ⊥
differs e = cc

abbrev all_lines : Goes 1 nothing_told (after (plug ∷ app ∷ []) (opened ∷ called ∷ []))
all_lines =
    next 1 nothing_told (after (plug ∷ []) []) (after (plug ∷ app ∷ []) (opened ∷ called ∷ [])) (codes "image")
    (codes "plug" ∷ codes "late" ∷ codes "plugin.o" ∷ []) (omega arith)
    (words (codes "image") (codes "plug" ∷ codes "late" ∷ codes "plugin.o" ∷ [])
    (fixed (codes "image") (omega arith) refl)
    (words (codes "plug") (codes "late" ∷ codes "plugin.o" ∷ []) (fixed (codes "plug") (omega arith) refl)
    (words (codes "late") (codes "plugin.o" ∷ []) (fixed (codes "late") (omega arith) refl)
    (words (codes "plugin.o") [] (fixed (codes "plugin.o") (omega arith) refl) (All-nil IsWord)))))
    (OfImage plug refl plug_spelled (record {
      room = omega arith;
      new = All-nil (λ (name : List ℕ). name ≢ codes "plug");
      one_program = λ e. All-nil (λ (other : Image). group other.kind ≢ 0);
    }))
    (next 2 (after (plug ∷ []) []) (after (plug ∷ app ∷ []) []) (after (plug ∷ app ∷ []) (opened ∷ called ∷ []))
    (codes "image") (codes "app" ∷ codes "pie" ∷ codes "main.o" ∷ []) (omega arith)
    (words (codes "image") (codes "app" ∷ codes "pie" ∷ codes "main.o" ∷ []) (fixed (codes "image") (omega arith) refl)
    (words (codes "app") (codes "pie" ∷ codes "main.o" ∷ []) (fixed (codes "app") (omega arith) refl)
    (words (codes "pie") (codes "main.o" ∷ []) (fixed (codes "pie") (omega arith) refl)
    (words (codes "main.o") [] (fixed (codes "main.o") (omega arith) refl) (All-nil IsWord)))))
    (OfImage app refl app_spelled (record {
      room = omega arith;
      new = All-cons (λ (name : List ℕ). name ≢ codes "app") (codes "plug") [] (λ e. differs e)
          (All-nil (λ (name : List ℕ). name ≢ codes "app"));
      one_program = λ e. All-cons (λ (other : Image). group other.kind ≢ 0) plug [] (λ z. omega (arith, z))
          (All-nil (λ (other : Image). group other.kind ≢ 0));
    }))
    last_lines)

example_lines : (thread : ℕ) (lines : List ThreadLine) → at_number example_job.lines thread ≡ Some lines
    → AllZip (IsAsked example_job.images) lines (of_thread thread (opened ∷ called ∷ []))
example_lines zero lines e = absurd (cc e)
example_lines (suc zero) lines e =
    subst (λ (ls : List ThreadLine). AllZip (IsAsked example_job.images) ls (of_thread 1 (opened ∷ called ∷ [])))
    (same_Some _ lines e) (
      record { image = record { image = plug; stands = refl; named = refl }; action = refl },
      (record { image = record { image = plug; stands = refl; named = refl }; action = refl }, tt),
    )
example_lines (suc (suc i)) lines e = absurd (cc e)

pub example_derived : ExampleIsDerived
example_derived = record {
  told = after (plug ∷ app ∷ []) (opened ∷ called ∷ []);
  lines = all_lines.1;
  makes = record {
    images = refl;
    program = omega arith;
    mentions = (
      record { image = plug; stands = refl; named = refl },
      (record { image = app; stands = refl; named = refl }, tt),
    );
    fuel = refl;
    order = refl;
    threads = refl;
    lines = example_lines;
  };
}
