-- A command that is given nothing wrong completes.
use Rattle.std.proofs.Common.{◌≡◌, ◌+◌, ◌<◌, ℕ, suc, Bool, true, false, cond, not, List, [], ◌∷◌, length, map, Option}
use Rattle.std.proofs.Common.{Some, None, IfSome, Result, Ok, Err, ◌⊎◌, inl, inr, ⊎_elim, refl, sym, ap, subst, arith}
use Rattle.std.specs.Prelude.{is_some, unwrap_or}
use Rattle.std.specs.List.{Contains, position_or_len}
use Rattle.std.specs.Option.{option_map}
use Rattle.std.specs.Str.{bytes_eq}
use Rattle.std.proofs.lemmas.Bool.{lt-ltb}
use Rattle.std.proofs.lemmas.Slice.Eq.{bytes_eq-Decides}
use Rattle.command_line.specs.declared.tasks.Command.{Command}
use Rattle.command_line.specs.declared.tasks.Command.TheVariants.{Plain, Race}
use Rattle.command_line.specs.declared.tasks.Task.{Task}
use Rattle.command_line.specs.declared.tasks.Task.TheVariants.{Run, Check, Link, Sites, Show, Gen}
use Rattle.command_line.specs.Rewritings.{is_allowed}
use Rattle.command_line.specs.Words.{asked}
use Rattle.command_replies.specs.declared.fault.CommandFault.{CommandFault}
use Rattle.command_replies.specs.declared.fault.CommandFault.TheVariants as fault
use Rattle.command_replies.specs.Delivery.{Delivered, Delivers, Says, memory_line}
use Rattle.command_replies.specs.Replies.{IsOwn}
use Rattle.command_replies.specs.Faults.{StoreCounts}
use Rattle.command_replies.specs.Says.{HasFile}
use Rattle.command_replies.specs.Steps.{Comes}
use Rattle.command_replies.specs.Statuses.{IsLate, SinkShown, code_of}
use Rattle.generated_laws.specs.Sound.{IsFaultless}
use Rattle.image_faults.specs.Faults.{IsImage, IsFault}
use Rattle.image_rules.specs.declared.fault.ImageFault.{ImageFault}
use Rattle.image_rules.specs.declared.fault.ImageFault.TheVariants as image_fault
use Rattle.job_link.specs.declared.writable.WritableSections.{WritableSections}
use Rattle.job_link.specs.declared.writable.WritableSections.TheVariants.{Kept, Refused}
use Rattle.job_link.specs.Given.{Allows, Given, AreGiven, IsSoundObject}
use Rattle.job_link.specs.Linked.{AllLink}
use Rattle.job_link.specs.Mentions.{bytes_at, mentions_of, object_names}
use Rattle.dynamic_symbols.specs.Names.{distinct}
use Rattle.job_text.specs.declared.fault.JobFault.{JobFault}
use Rattle.job_text.specs.declared.images.Image.{Image}
use Rattle.job_text.specs.Images.{image_number, is_named}
use Rattle.job_text.specs.Jobs.{JobParts, job_of}
use Rattle.ports.specs.Files.{Files, file_at}
use Rattle.ports.specs.Sinks.{SinkView}
use Rattle.whole_meaning.specs.declared.unclean.UncleanStep.{UncleanStep}
use Rattle.commands.specs.Checks.{SaysOf, VerdictSays}
use Rattle.commands.specs.Completes.{Completes, DidNotFail, IsDone, IsGood, IsGoodJob, IsGoodRace}
use Rattle.commands.specs.Jobs.{Ending, FileSays, JobSays, NamedSays, ObjectsSay, has, objects_of}
use Rattle.commands.specs.Links.{AreLines, IsPut, OfImage}
use Rattle.commands.specs.Listings.{ListingSays}
use Rattle.commands.specs.RunJobs.{IsRun}
use Rattle.commands.specs.Commands.{CommandSays}
use Rattle.commands.specs.Purposes.{IsRace}
use Rattle.commands.specs.Runs.{HasRun}
use Rattle.commands.specs.Untold.{UntoldSays}
use Rattle.commands.specs.declared.telling.Telling.TheVariants.{Transcript}
use Rattle.commands.proofs.Membership.{In, in_contains, of_all}
use Rattle.commands.proofs.Mentioned.{in_once}
use Rattle.commands.proofs.NoFault.{DoesLink, never_refused}
use Rattle.commands.proofs.SameGiven.{same_images}
use Rattle.commands.proofs.Saying.{Text, items}
use Rattle.commands.proofs.Words.{not_asked}

-- ** a good job is not refused

sound_at : (o : Option (List ℕ)) → HasFile o IsSoundObject → IsSoundObject (unwrap_or o [])
sound_at None h = absurd h
sound_at (Some b) h = h

faultless : (b : List ℕ) → IsSoundObject b → IsFaultless b
faultless b sound = record { object = sound.object; no_loose = sound.no_loose; no_stray = sound.no_stray }

-- what its ending says alone is said
module _ (image : Option (List ℕ)) (E : Ending) (relax : Bool) (w : WritableSections) (fs : Files) (name : List ℕ)
    (good : IsGoodJob fs relax name)
    (has_is : has good.job image ≡ true)
    (allowed : (object : List ℕ) → In (mentions_of good.job) object → Allows w (bytes_at fs object))
    (status : ℕ) (text : List ℕ) where
  fine : (object : List ℕ) → In (mentions_of good.job) object → IsFaultless (bytes_at fs object)
  unfolding object_names
  fine object i =
      faultless (bytes_at fs object)
      (sound_at (file_at fs object)
      (of_all (λ other. HasFile (file_at fs other) IsSoundObject)
      (distinct (mentions_of good.job)) object good.objects
      (in_once (mentions_of good.job) object i)))

  all_link : (images : List Given) → AreGiven (bytes_at fs) good.job images → AllLink images relax
  all_link images given =
      subst (λ (all : List Given). AllLink all relax)
      (same_images (bytes_at fs) good.job good.images images good.given given) good.links

  of_file : (o : Option (List ℕ)) → HasFile o (λ bytes. job_of bytes ≡ Ok good.job)
      → HasFile o (λ bytes. JobSays image E relax w fs (job_of bytes) status text)
      → ObjectsSay E relax w fs good.job status text
  of_file None is says = absurd is
  of_file (Some bytes) is says =
      subst (λ (b : Bool). NamedSays E relax w fs good.job b status text) has_is
      (subst (λ (r : Result JobParts JobFault). JobSays image E relax w fs r status text) is says)

  ends : FileSays image E relax w fs name status text → DoesLink E relax (bytes_at fs) good.job status text
  ends says = let objects = of_file (file_at fs name) good.text says in
      never_refused E relax w (bytes_at fs) good.job status text fine allowed all_link objects.says

pub verdict_done : (found : Option UncleanStep) (status : ℕ) (text : List ℕ) → SaysOf found status text
    → (status ≡ 0) ⊎ (status ≡ 9)
verdict_done None status text says = inl says.0
verdict_done (Some step) status text says = inr says.0

-- ** nor for the image that it has

step_less : (b : Bool) (n m : ℕ) → (b ≡ false → n < m) → cond (not b) (1 + n) 0 < suc m
step_less true n m less = omega arith
step_less false n m less = let own = less refl in omega arith

other_than : (name own : List ℕ) → own ≡ name → bytes_eq name own ≡ false → ⊥
other_than name own e fails = let passes = (bytes_eq-Decides name own).1 (sym e) in cc

left_in : (name : List ℕ) (image : Image) (images : List Image)
    → In (map (λ (own : Image). own.name) (image ∷ images)) name → bytes_eq name image.name ≡ false
    → In (map (λ (own : Image). own.name) images) name
left_in name image images (inl e) fails = absurd (other_than name image.name e fails)
left_in name image images (inr i) fails = i

found : (name : List ℕ) (images : List Image) → In (map (λ (own : Image). own.name) images) name
    → position_or_len (is_named name) images < length images
found name [] i = absurd i
found name (image ∷ images) i =
    step_less (bytes_eq name image.name) (position_or_len (is_named name) images) (length images)
    (λ fails. found name images (left_in name image images i fails))

numbered : (images : List Image) (name : List ℕ) → Contains (map (λ (own : Image). own.name) images) name
    → (k : ℕ) × (image_number images name ≡ Some k)
numbered images name declared =
    let place : ℕ = position_or_len (is_named name) images in
    let less = found name images (in_contains (map (λ (own : Image). own.name) images) name declared) in (
      place + 1,
      ap (λ (b : Bool). option_map (λ (index : ℕ). index + 1) (cond b (Some place) None))
          (lt-ltb place (length images) less),
    )

has_declared : (job : JobParts) (name : List ℕ) → Contains (map (λ (own : Image). own.name) job.images) name
    → has job (Some name) ≡ true
has_declared job name declared = let (k, e) = numbered job.images name declared in ap is_some e

-- ** what an image says

no_fault : (b : List ℕ) (fault : ImageFault) → IsImage b → IsFault b fault → ⊥
no_fault b image_fault.OutOfMemory is never = never
no_fault b (image_fault.At offset kind) is none = is none.rule none.entry none.first.here

shown_done : (o : Option (List ℕ)) (status : ℕ) (text : List ℕ) → HasFile o IsImage
    → HasFile o (λ b. ListingSays b status text) → status ≡ 0
shown_done None status text is says = absurd is
shown_done (Some b) status text is (inl listed) = listed.status_is
shown_done (Some b) status text is (inr none) = absurd (no_fault b none.fault is none.first)

-- ** the law: what a command says of what it is given, where nothing is wrong with it

pub task_done : (fs : Files) (after : Option Files) (task : Task) (status : ℕ) (text : List ℕ)
    → IsGood (Some fs) (Plain task) → CommandSays fs after (Plain task) status text → IsDone (Plain task) status
task_done fs after (Run job rewriting) status text good says =
    let own = ends None (IsRun HasRun Transcript) (is_allowed rewriting) Kept fs job good refl
    (λ name there. tt) status text says in own.linked.says.0
task_done fs after (Check job) status text good says =
    let own = ends None VerdictSays true Kept fs job good refl (λ name there. tt) status text says in
    verdict_done _ status text own.linked.says
task_done fs after (Link job image out rewriting) status text has_it says =
    let own =
    ends (Some image) (OfImage image (λ j number. IsPut (Some fs) after image out))
    (is_allowed rewriting) Kept fs job has_it.good
    (has_declared has_it.good.job image has_it.declared) (λ name there. tt) status text says
    in
    own.linked.says.says.says.says.0
task_done fs after (Sites job image) status text has_it says =
    let own =
    ends (Some image) (OfImage image (λ j number. AreLines (objects_of j number))) true Kept fs job has_it.good
    (has_declared has_it.good.job image has_it.declared) (λ name there. tt) status text says
    in
    own.linked.says.says.says.0
task_done fs after (Show file) status text good says = shown_done (file_at fs file) status text good says
task_done fs after (Gen count) status text good says = says.ran.says.0

-- an object that is there is allowed where its file is
allowed_at : (o : Option (List ℕ)) → HasFile o (Allows Refused) → Allows Refused (unwrap_or o [])
allowed_at None is = absurd is
allowed_at (Some b) is = is

-- no object that a good job of `race` names is refused
all_allowed : (fs : Files) (relax : Bool) (name : List ℕ) (race : IsGoodRace fs relax name) (object : List ℕ)
    → In (mentions_of race.good.job) object
    → Allows Refused (bytes_at fs object)
unfolding object_names
all_allowed fs relax name race object i =
    allowed_at (file_at fs object)
    (of_all (λ other. HasFile (file_at fs other) (Allows Refused))
    (distinct (mentions_of race.good.job)) object race.dataless
    (in_once (mentions_of race.good.job) object i))

pub command_done : (fs : Files) (after : Option Files) (command : Command) (status : ℕ) (text : List ℕ)
    → IsGood (Some fs) command → CommandSays fs after command status text
    → IsDone command status
command_done fs after (Plain task) status text good says = task_done fs after task status text good says
command_done fs after (Race job rewriting) status text race says =
    let own =
    ends None IsRace (is_allowed rewriting) Refused fs job race.good refl
    (all_allowed fs (is_allowed rewriting) job race) status text says in
    own.linked.says.0

-- ** what is delivered where no port failed

of_sink : (text : List ℕ) (own : ℕ) (old new : SinkView) (code : ℕ) → DidNotFail old.faults new.faults
    → Says text own old new code → (code ≡ own) ⊎ (code ≡ 1)
of_sink text own old new code fine (inl (is, taken)) = inl is
of_sink text own old new code fine (inr (inl (is, refused))) = absurd (fine refused.faults.1)
of_sink text own old new code fine (inr (inr (is, short))) = inr is

once_more : (own : ℕ) (old between new : SinkView) (code : ℕ) → between.faults ≡ old.faults
    → DidNotFail old.faults new.faults
    → Says memory_line 1 between new code → (code ≡ own) ⊎ (code ≡ 1)
once_more own old between new code same fine said =
    ⊎_elim (λ is. inr is) (λ is. inr is)
    (of_sink memory_line 1 between new code (subst (λ (n : ℕ). DidNotFail n new.faults) (sym same) fine) said)

delivered : (text : List ℕ) (own : ℕ) (old new : SinkView) (code : ℕ) → DidNotFail old.faults new.faults
    → Delivers text own old new code → (code ≡ own) ⊎ (code ≡ 1)
delivered text own old new code fine (inl (is, taken)) = inl is
delivered text own old new code fine (inr (inl (is, refused))) = absurd (fine refused.faults.1)
delivered text own old new code fine (inr (inr (between, (short, said)))) =
    once_more own old between new code short.faults fine said

own_done : (command : Command) (own code : ℕ) → IsDone command own → (code ≡ own) ⊎ (code ≡ 1)
    → IsDone command code ⊎ (code ≡ 1)
own_done command own code done (inl is) = inl (subst (IsDone command) (sym is) done)
own_done command own code done (inr is) = inr is

-- `gen` reads no file
gen_done : (command : Command) (status : ℕ) (text : List ℕ) → IsGood None command → UntoldSays command status text
    → IsDone command status
gen_done (Plain (Run job rewriting)) status text good may = absurd good
gen_done (Plain (Check job)) status text good may = absurd good
gen_done (Plain (Link job image out rewriting)) status text good may = absurd good
gen_done (Plain (Sites job image)) status text good may = absurd good
gen_done (Plain (Show file)) status text good may = absurd good
gen_done (Plain (Gen count)) status text good may = may.ran.says.0
gen_done (Race job rewriting) status text good may = absurd good

output_done : (files after : Option Files) (command : Command) (r : Result Text CommandFault) (before now own : ℕ)
    (text : List ℕ) → IsGood files command → StoreCounts before now r
    → IfSome files (λ fs. Comes items (CommandSays fs after command) r) → Comes items (UntoldSays command) r
    → DidNotFail before now → IsOwn items r own text → IsDone command own
output_done None after command (Ok x) before now own text good counts says may fine is =
    subst (IsDone command) (sym is.0) (gen_done command 0 x.items good may)
output_done (Some fs) after command (Ok x) before now own text good counts says may fine is =
    subst (IsDone command) (sym is.0) (command_done fs after command 0 x.items good says)
output_done files after command (Err fault.Store) before now own text good counts says may fine is =
    absurd (fine counts.1)
output_done files after command (Err fault.OutOfMemory) before now own text good counts says may fine is = absurd is
output_done None after command (Err (fault.Refused reply)) before now own text good counts says may fine is =
    subst (IsDone command) (sym is.0) (gen_done command (code_of reply.status) reply.text.items good may)
output_done (Some fs) after command (Err (fault.Refused reply)) before now own text good counts says may fine is =
    subst (IsDone command) (sym is.0) (command_done fs after command (code_of reply.status) reply.text.items good says)

-- an output that is delivered
pub output_completes : (files after : Option Files) (command : Command) (r : Result Text CommandFault) (before now : ℕ)
    (old new : SinkView) (code : ℕ) → StoreCounts before now r
    → IfSome files (λ fs. Comes items (CommandSays fs after command) r) → Comes items (UntoldSays command) r
    → Delivered (IsOwn items r) old new code
    → DidNotFail before now → DidNotFail old.faults new.faults → Completes files command code
output_completes files after command r before now old new code counts says may (inl line) =
    λ store sink good. ⊎_elim (λ one. inr one) (λ one. inr one) (of_sink memory_line 1 old new code sink line)
output_completes files after command r before now old new code counts says may (inr (own, (text, (is, put)))) =
    λ store sink good. own_done command own code
    (output_done files after command r before now own text good counts says may store is)
    (delivered text own old new code sink put)

-- ** words

abbrev Words : Option Files → Option Command → ℕ → ℕ → ℕ → ℕ → ℕ → Type 0
Words files command before now old new code =
    IfSome command (λ own. DidNotFail before now → DidNotFail old new → Completes files own code)

pub usage_completes : (files : Option Files) (words : List (List ℕ)) (before now old new code : ℕ)
    → is_some (asked words) ≡ false → Words files (asked words) before now old new code
usage_completes files words before now old new code other = rw (not_asked words other) tt

late : (files : Option Files) (command : Command) (old new code : ℕ) → IsLate code → SinkShown old new code
    → DidNotFail old new → Completes files command code
late files command old new code (inl one) shown fine good = inr one
late files command old new code (inr four) shown fine good = absurd (fine (shown.cause four))

pub late_completes : (files : Option Files) (command : Option Command) (before now old new code : ℕ) → IsLate code
    → SinkShown old new code → Words files command before now old new code
late_completes files None before now old new code is shown = tt
late_completes files (Some own) before now old new code is shown =
    λ store sink. late files own old new code is shown sink
