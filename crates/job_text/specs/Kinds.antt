-- How the kinds of a job's faults are printed.
use Rattle.std.specs.Prelude.{ℕ, List, codes}
use Rattle.job_text.specs.declared.fault.JobFaultKind.{JobFaultKind}
use Rattle.job_text.specs.declared.fault.JobFaultKind.TheVariants.{NotText, Word, Count, Number, Name, Twice, NoExe}

-- the name of a kind
abbrev pub kind_text : JobFaultKind → List ℕ
kind_text NotText = codes "NotText"
kind_text Word = codes "Word"
kind_text Count = codes "Count"
kind_text Number = codes "Number"
kind_text Name = codes "Name"
kind_text Twice = codes "Twice"
kind_text NoExe = codes "NoExe"
