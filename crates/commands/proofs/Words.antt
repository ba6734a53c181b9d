-- What is shown of words.
use Rattle.std.proofs.Common.{◌≡◌, inl, inr, ℕ, List, Option, Some, None, false, is_some, refl}
use Rattle.command_line.specs.declared.tasks.Command.{Command}
use Rattle.command_line.specs.declared.tasks.Command.TheVariants.{Plain, Race}
use Rattle.command_line.specs.Words.{asked}
use Rattle.ports.specs.Files.{Files, untold_files}
use Rattle.ports.specs.Sinks.{SinkView}
use Rattle.command_line.specs.declared.tasks.Task.TheVariants.{Run, Check, Link, Sites, Show, Gen}
use Rattle.command_replies.specs.Delivery.{Delivered}
use Rattle.command_replies.specs.Statuses.{IsLate}
use Rattle.commands.specs.Links.{LinkSays, Leaves}
use Rattle.commands.specs.Replies.{AskedWords, WordsLeave, WordsMaySay}
use Rattle.commands.specs.Untold.{Over}
use Rattle.std.specs.FinMap as map
use Rattle.commands.proofs.Asked.{answered, asked_none}

abbrev Names : Type 0
Names = List (List ℕ)

late_words : (fs : Files) (command : Option Command) (old : Option Names) (code : ℕ) → IsLate code
    → AskedWords fs command old old code
late_words fs None old code late = refl
late_words fs (Some command) old code late =
    record { front = (0, asked_none old); all = λ own. absurd (answered code (inr late) own) }

pub asked_late : (files : Option Files) (command : Option Command) (old : Option Names) (code : ℕ) → IsLate code
    → Over files (λ fs. AskedWords fs command old old code)
asked_late None command old code late = (map.empty, late_words map.empty command old code late)
asked_late (Some fs) command old code late = late_words fs command old code late

pub not_asked : (words : List (List ℕ)) → is_some (asked words) ≡ false → asked words ≡ None
not_asked words = by (asked words)
  where
    by : (found : Option Command) → is_some found ≡ false → found ≡ None
    by None other = refl
    by (Some command) other = absurd (cc other)

pub shows_usage : (files after : Option Files) (words : List (List ℕ)) (old new : SinkView) (code : ℕ)
    → is_some (asked words) ≡ false → Delivered (WordsMaySay untold_files untold_files None) old new code
    → Delivered (WordsMaySay files after (asked words)) old new code
shows_usage files after words old new code other shown = rw (not_asked words other) shown

pub asked_usage : (files : Option Files) (words : List (List ℕ)) (old : Option Names) (code : ℕ)
    → is_some (asked words) ≡ false → Over files (λ fs. AskedWords fs (asked words) old old code)
asked_usage None words old code other = (map.empty, rw (not_asked words other) refl)
asked_usage (Some fs) words old code other = rw (not_asked words other) refl

-- the files after words
pub leave_usage : (files : Option Files) (words : List (List ℕ)) → is_some (asked words) ≡ false
    → WordsLeave files files (asked words)
leave_usage files words other = rw (not_asked words other) refl

unchanged : (files : Option Files) (Says : Files → ℕ → List ℕ → Type 0) → Leaves files files Says
unchanged None Says = refl
unchanged (Some fs) Says = inl refl

pub leave_late : (files : Option Files) (command : Option Command) → WordsLeave files files command
leave_late files None = refl
leave_late files (Some (Plain (Run job rewriting))) = refl
leave_late files (Some (Plain (Check job))) = refl
leave_late files (Some (Plain (Link job image out rewriting))) =
    unchanged files (λ fs. LinkSays fs files job image out rewriting)
leave_late files (Some (Plain (Sites job image))) = refl
leave_late files (Some (Plain (Show file))) = refl
leave_late files (Some (Plain (Gen count))) = refl
leave_late files (Some (Race job rewriting)) = refl
