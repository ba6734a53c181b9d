-- The points that the printed lines of a thread show: how many events its looks saw.
use Rattle.std.specs.Prelude.{ℕ, List}
use Rattle.std.specs.List.{flat_map}
use Rattle.transcript_text.specs.declared.outcomes.Line.{Line as ShownLine}

-- the numbers of events that the looks of lines saw, one look after another
abbrev pub printed_points : List ShownLine → List ℕ
printed_points said = flat_map (λ (line : ShownLine). line.points) said
