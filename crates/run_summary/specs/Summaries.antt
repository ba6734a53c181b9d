-- What one line says of a run: of its images and of its transcript.
use Rattle.std.specs.Prelude.{ℕ, ◌+◌, ◌%◌, ◌^◌, Bool, true, false, List, [], ◌++◌, codes, filter, length, sum_by}
use Rattle.std.specs.Fmt.{decimal}
use Rattle.std.specs.List.{flat_map}
use Rattle.hex.specs.Hex.{encode_lower}
use Rattle.link_core.specs.Images.{LinkedImage}
use Rattle.relax_sites.specs.declared.choices.Choice.{Choice}
use Rattle.relax_sites.specs.declared.choices.Choice.TheVariants.{Keep}
use Rattle.run_summary.specs.declared.sites.SiteCounts.{SiteCounts}
use Rattle.transcript_text.specs.Texts.{Shown, hex16}
use Rattle.transcript_text.specs.declared.outcomes.Line.{Line}
use Rattle.transcript_text.specs.declared.outcomes.Outcome.{Outcome}
use Rattle.transcript_text.specs.declared.outcomes.Outcome.TheVariants.{Returned, Bytes}

-- ** sites: each has its choice

-- another sequence stands in the site's place
abbrev pub is_rewritten : Choice → Bool
is_rewritten Keep = false
is_rewritten choice = true

abbrev pub plus : SiteCounts → SiteCounts → SiteCounts
plus a b = record { sites = a.sites + b.sites; rewritten = a.rewritten + b.rewritten }

-- the counts of an object, of an image, of all images
abbrev pub choice_counts : List Choice → SiteCounts
choice_counts choices = record { sites = length choices; rewritten = length (filter is_rewritten choices) }

abbrev pub objects_counts : List (List Choice) → SiteCounts
objects_counts objects = record {
  sites = sum_by (λ own. (choice_counts own).sites) objects;
  rewritten = sum_by (λ own. (choice_counts own).rewritten) objects;
}

abbrev pub image_counts : LinkedImage → SiteCounts
image_counts image = objects_counts image.choices

unfoldable pub counts_of : List LinkedImage → SiteCounts
counts_of images = record {
  sites = sum_by (λ image. (image_counts image).sites) images;
  rewritten = sum_by (λ image. (image_counts image).rewritten) images;
}

-- ** the transcript, thread by thread

unfoldable pub line_count : List (List Line) → ℕ
line_count threads = sum_by length threads

-- what a call returned
abbrev pub returned : Outcome → ℕ
returned (Returned value) = value
returned outcome = 0

abbrev pub lines_sum : List Line → ℕ
lines_sum lines = sum_by (λ line. returned line.outcome) lines

unfoldable pub returned_sum : List (List Line) → ℕ
returned_sum threads = sum_by lines_sum threads % 2 ^ 64

-- what a peek showed
abbrev pub shown_by : Outcome → List ℕ
shown_by (Bytes bytes) = bytes
shown_by outcome = []

abbrev pub shown_in : List Line → List ℕ
shown_in lines = flat_map (λ line. shown_by line.outcome) lines

unfoldable pub shown_of : List (List Line) → List ℕ
shown_of threads = flat_map shown_in threads

-- ** the line

unfoldable pub images_text : ℕ → SiteCounts → List ℕ
images_text count counts =
    codes "gen " ++ decimal count ++ codes " sites " ++ decimal counts.sites ++ codes " rewritten "
    ++ decimal counts.rewritten

unfoldable pub lines_text : ℕ → ℕ → ℕ → List ℕ
lines_text lines events sum =
    codes " lines " ++ decimal lines ++ codes " events " ++ decimal events ++ codes " sum " ++ hex16 sum

unfoldable pub summary_text : ℕ → SiteCounts → Shown → List ℕ
summary_text count counts shown =
    images_text count counts
    ++ lines_text (line_count shown.threads) (length shown.events) (returned_sum shown.threads)
    ++ codes " peek " ++ encode_lower (shown_of shown.threads) ++ codes "\n"
