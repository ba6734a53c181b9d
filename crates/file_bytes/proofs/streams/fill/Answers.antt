use Rattle.std.proofs.Common.{◌-◌, rules, length, sym, subst}
use Rattle.std.specs.Io.KnownBytes.{Consumes}
use Rattle.std.proofs.KnownBytes.{Consumes-trans}
use Rattle.file_bytes.proofs.StreamLemmas.{take-put_mid_part}
use Rattle.file_bytes.proofs.streams.fill.Goals as goal

pub loop-filled-preserved : goal.loop-filled-preserved
loop-filled-preserved g c =
    let filled = c.loop-filled.filled in
    let buffer = c.loop-filled.buffer in
    let count = c.in_ok-count.count in
    let within = c.loop-filled.invariant.1 in
    let split = take-put_mid_part filled
    (length buffer - filled) count buffer c.read_some.new.buffer within c.in_ok-count.ensures.bound.0 in (
      search rules,
      search rules,
      subst (Consumes _ _) (sym split)
          (Consumes-trans _ _ _ _ _ c.loop-filled.invariant.2 c.in_ok-count.ensures.bytes.0),
    )
