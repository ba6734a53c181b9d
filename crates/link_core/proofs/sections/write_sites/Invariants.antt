use Rattle.std.proofs.Common.{◌≡◌, fold, length}
use Rattle.std.specs.Prelude.{slice_range}
use Rattle.link_needs.specs.Linking.{sites_at}
use Rattle.link_core.specs.Bytes.{sites_in, with_site}
use Rattle.link_core.proofs.sections.write_sites.Given as goal

-- the sequences that are left, over what was written so far, write what all do
abbrev pub invariant-loop-number : goal.invariant-loop-number
invariant-loop-number l =
    (fold (with_site l.plan l.own.object) l.bytes (slice_range (sites_at l.plan l.own.object) l.number l.end)
    ≡ fold (with_site l.plan l.own.object) l.fn.bytes (sites_in (sites_at l.plan l.own.object) l.own.section)) ×
    (length l.bytes ≡ length l.fn.bytes)
