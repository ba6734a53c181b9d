-- What a contract sees of a store and of a sink in memory.
use Rattle.std.specs.Prelude.{ℕ, ◌-◌, ◌==◌, if◌then◌else◌, List, ◌++◌, take, refl, Option, Some, Result, Ok, Err}
use Rattle.std.specs.Coded.{Coded, code_by, coded×, coded_ℕ, coded_list}
use Rattle.std.specs.FinMap as map
use Rattle.ports.specs.declared.faults.PutFault.{PutFault}
use Rattle.ports.specs.declared.faults.PutFault.TheVariants as put
use Rattle.ports.specs.Counts.{counted}
use Rattle.ports.specs.Files.{Files}
use Rattle.ports.specs.Pieces.{untold_bytes, untold_pieces}
use Rattle.ports.specs.Sinks.{SinkView}

-- the files, how often the store has failed, and which call fails next, counted from 1; 0 means none
pub record StoreState : Type 0 where
  pub files : Files
  pub faults : ℕ
  pub fails_in : ℕ

abbrev files_code : Coded Files
files_code = map.code (coded_list coded_ℕ) (coded_list coded_ℕ)

-- a store's state is encoded as the tuple of its fields
abbrev pub store_code : Coded StoreState
store_code =
    code_by (Files × (ℕ × ℕ)) (coded× files_code (coded× coded_ℕ coded_ℕ)) (λ s. (s.files, (s.faults, s.fails_in)))
    (λ p. record { files = p.0; faults = p.1.0; fails_in = p.1.1 }) (λ _. refl)

-- the bytes, how often the sink has failed, how often it ran out of memory, which call fails next, counted from 1 (0
-- means none), and how many bytes of its piece that call still appends
pub record SinkState : Type 0 where
  pub bytes : List ℕ
  pub faults : ℕ
  pub shortages : ℕ
  pub fails_in : ℕ
  pub part : ℕ

-- a sink in memory shows its bytes
abbrev pub memory_view : SinkState → SinkView
memory_view sink = record {
  bytes = Some sink.bytes;
  pieces = untold_pieces;
  faults = sink.faults;
  shortages = sink.shortages;
}

-- what a put appends: the whole piece, but only its first part where the call is the one that fails
abbrev pub appended : SinkState → List ℕ → List ℕ
appended sink piece = if sink.fails_in == 1 then take sink.part piece else piece

-- the sink after a put: a call that fails has appended its part, and one that ran out of memory nothing
abbrev pub sink_after_put : {T : Type 0} → SinkState → List ℕ → Result T PutFault → SinkState
sink_after_put sink piece (Ok x) = record sink { bytes = sink.bytes ++ piece; fails_in = sink.fails_in - 1 }
sink_after_put sink piece (Err put.Failed) = record sink {
  bytes = sink.bytes ++ take sink.part piece;
  faults = counted sink.faults;
  fails_in = sink.fails_in - 1;
}
sink_after_put sink piece (Err put.OutOfMemory) =
    record sink { shortages = counted sink.shortages; fails_in = sink.fails_in - 1 }

-- what the sink's writer holds, if that is known, how often the sink has failed, and how often it ran out of memory
pub record HostSinkState : Type 0 where
  pub written : Option (List ℕ)
  pub faults : ℕ
  pub shortages : ℕ

-- a sink of the host shows only its counts
abbrev pub host_view : HostSinkState → SinkView
host_view sink = record {
  bytes = untold_bytes;
  pieces = untold_pieces;
  faults = sink.faults;
  shortages = sink.shortages;
}
