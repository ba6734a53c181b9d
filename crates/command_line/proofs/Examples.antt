-- What the definitions say of some words, by computing.
use Rattle.std.proofs.Common.{◌≡◌, [], ◌∷◌, Some, None, refl}
use Rattle.std.specs.Prelude.{codes}
use Rattle.clap.specs.Walk.{Text}
use Rattle.clap.proofs.OnLiterals.{clap_on_literals}
use Rattle.command_line.specs.declared.tasks.Rewriting.TheVariants.{Allowed, Off}
use Rattle.command_line.specs.declared.tasks.Command.TheVariants.{Plain, Race}
use Rattle.command_line.specs.declared.tasks.Task.TheVariants as task
use Rattle.command_line.specs.Counts.{count_of}
use Rattle.command_line.specs.Words.{asked}

-- run job
a_run : asked (codes "run" ∷ codes "job" ∷ []) ≡ Some (Plain (task.Run (codes "job") Allowed))
unfolding asked clap_on_literals
a_run = refl

-- run --no-relax job
a_run_without_rewriting : asked (codes "run" ∷ codes "--no-relax" ∷ codes "job" ∷ [])
    ≡ Some (Plain (task.Run (codes "job") Off))
unfolding asked clap_on_literals
a_run_without_rewriting = refl

-- run -- --no-relax
a_job_like_an_option : asked (codes "run" ∷ codes "--" ∷ codes "--no-relax" ∷ [])
    ≡ Some (Plain (task.Run (codes "--no-relax") Allowed))
unfolding asked clap_on_literals
a_job_like_an_option = refl

-- run
no_job : asked (codes "run" ∷ []) ≡ None
unfolding asked clap_on_literals
no_job = refl

-- run job --no-relax --no-relax
twice : asked (codes "run" ∷ codes "job" ∷ codes "--no-relax" ∷ codes "--no-relax" ∷ []) ≡ None
unfolding asked clap_on_literals
twice = refl

-- race job
a_race : asked (codes "race" ∷ codes "job" ∷ []) ≡ Some (Race (codes "job") Allowed)
unfolding asked clap_on_literals
a_race = refl

-- race job --no-relax
a_race_without_rewriting : asked (codes "race" ∷ codes "job" ∷ codes "--no-relax" ∷ []) ≡ Some (Race (codes "job") Off)
unfolding asked clap_on_literals
a_race_without_rewriting = refl

-- race job job
two_jobs : asked (codes "race" ∷ codes "job" ∷ codes "job" ∷ []) ≡ None
unfolding asked clap_on_literals
two_jobs = refl

-- link job app out
a_link : asked (codes "link" ∷ codes "job" ∷ codes "app" ∷ codes "out" ∷ [])
    ≡ Some (Plain (task.Link (codes "job") (codes "app") (codes "out") Allowed))
unfolding asked clap_on_literals
a_link = refl

-- link job --no-relax app out
a_link_without_rewriting : asked (codes "link" ∷ codes "job" ∷ codes "--no-relax" ∷ codes "app" ∷ codes "out" ∷ [])
    ≡ Some (Plain (task.Link (codes "job") (codes "app") (codes "out") Off))
unfolding asked clap_on_literals
a_link_without_rewriting = refl

-- link job app
no_out : asked (codes "link" ∷ codes "job" ∷ codes "app" ∷ []) ≡ None
unfolding asked clap_on_literals
no_out = refl

-- sites job app
some_sites : asked (codes "sites" ∷ codes "job" ∷ codes "app" ∷ [])
    ≡ Some (Plain (task.Sites (codes "job") (codes "app")))
unfolding asked clap_on_literals
some_sites = refl

-- sites job app --no-relax
sites_with_an_option : asked (codes "sites" ∷ codes "job" ∷ codes "app" ∷ codes "--no-relax" ∷ []) ≡ None
unfolding asked clap_on_literals
sites_with_an_option = refl

-- show app
a_show : asked (codes "show" ∷ codes "app" ∷ []) ≡ Some (Plain (task.Show (codes "app")))
unfolding asked clap_on_literals
a_show = refl

-- show app --no-relax
a_show_with_an_option : asked (codes "show" ∷ codes "app" ∷ codes "--no-relax" ∷ []) ≡ None
unfolding asked clap_on_literals
a_show_with_an_option = refl

-- check job
a_check : asked (codes "check" ∷ codes "job" ∷ []) ≡ Some (Plain (task.Check (codes "job")))
unfolding asked clap_on_literals
a_check = refl

-- check job --no-relax
a_check_with_an_option : asked (codes "check" ∷ codes "job" ∷ codes "--no-relax" ∷ []) ≡ None
unfolding asked clap_on_literals
a_check_with_an_option = refl

-- gen 5
a_job_of_five : asked (codes "gen" ∷ codes "5" ∷ []) ≡ Some (Plain (task.Gen 5))
unfolding asked count_of clap_on_literals
a_job_of_five = refl

-- gen -- 1000
the_largest_job : asked (codes "gen" ∷ codes "--" ∷ codes "1000" ∷ []) ≡ Some (Plain (task.Gen 1000))
unfolding asked count_of clap_on_literals
the_largest_job = refl

-- gen 1001
a_job_too_large : asked (codes "gen" ∷ codes "1001" ∷ []) ≡ None
unfolding asked count_of clap_on_literals
a_job_too_large = refl

-- gen 05
a_zero_in_front : asked (codes "gen" ∷ codes "05" ∷ []) ≡ None
unfolding asked count_of clap_on_literals
a_zero_in_front = refl

-- gen +5
a_sign : asked (codes "gen" ∷ codes "+5" ∷ []) ≡ None
unfolding asked count_of clap_on_literals
a_sign = refl

-- gen 0
a_job_of_none : asked (codes "gen" ∷ codes "0" ∷ []) ≡ None
unfolding asked count_of clap_on_literals
a_job_of_none = refl

-- run -- JOB, whatever the text JOB is
any_job : (job : Text) → asked (codes "run" ∷ codes "--" ∷ job ∷ []) ≡ Some (Plain (task.Run job Allowed))
unfolding asked clap_on_literals
any_job job = refl

-- race -- JOB
any_race : (job : Text) → asked (codes "race" ∷ codes "--" ∷ job ∷ []) ≡ Some (Race job Allowed)
unfolding asked clap_on_literals
any_race job = refl

-- link -- JOB IMAGE OUT, whatever these texts are
any_link : (job image out : Text)
    → asked (codes "link" ∷ codes "--" ∷ job ∷ image ∷ out ∷ []) ≡ Some (Plain (task.Link job image out Allowed))
unfolding asked clap_on_literals
any_link job image out = refl

-- sites -- JOB IMAGE
any_sites : (job image : Text)
    → asked (codes "sites" ∷ codes "--" ∷ job ∷ image ∷ []) ≡ Some (Plain (task.Sites job image))
unfolding asked clap_on_literals
any_sites job image = refl

-- check -- JOB
any_check : (job : Text) → asked (codes "check" ∷ codes "--" ∷ job ∷ []) ≡ Some (Plain (task.Check job))
unfolding asked clap_on_literals
any_check job = refl

-- run --no-relax -- JOB
any_job_without_rewriting : (job : Text)
    → asked (codes "run" ∷ codes "--no-relax" ∷ codes "--" ∷ job ∷ []) ≡ Some (Plain (task.Run job Off))
unfolding asked clap_on_literals
any_job_without_rewriting job = refl
