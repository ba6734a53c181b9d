-- The words of a transcript for refusals and faults.
use Rattle.std.specs.Prelude.{ℕ, List, codes}
use Rattle.transcript_text.specs.declared.outcomes.LineRefusal.{LineRefusal}
use Rattle.transcript_text.specs.declared.outcomes.LineRefusal.TheVariants.{Unknown, Full, StaticFull, Permanent}
use Rattle.transcript_text.specs.declared.outcomes.LineRefusal.TheVariants.{NotOpen, Symbol, Length}
use Rattle.transcript_text.specs.declared.outcomes.LineFault.{LineFault}
use Rattle.transcript_text.specs.declared.outcomes.LineFault.TheVariants.{Address, Code, Unloaded, Steps}

-- the word for a refusal
abbrev pub refusal_text : LineRefusal → List ℕ
refusal_text Unknown = codes "unknown"
refusal_text Full = codes "full"
refusal_text StaticFull = codes "static-full"
refusal_text Permanent = codes "permanent"
refusal_text NotOpen = codes "not-open"
refusal_text Symbol = codes "symbol"
refusal_text Length = codes "length"

-- the word for a call's early end
abbrev pub fault_text : LineFault → List ℕ
fault_text Address = codes "address"
fault_text Code = codes "code"
fault_text Unloaded = codes "unloaded"
fault_text Steps = codes "steps"
