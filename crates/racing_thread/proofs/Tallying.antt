-- The tally of marks, with one more at the end.
use Rattle.std.proofs.Common.{◌≡◌, ◌∙◌, ◌++◌, ℕ, Bool, List, [], ◌∷◌, length, Option, Some, None, refl, sym, ap, arith}
use Rattle.std.proofs.Common.{length-append}
use Rattle.module_table.specs.declared.events.Event.{Event}
use Rattle.thread_blocks.specs.Turns.{with_event}
use Rattle.racing_thread.specs.Tallies.{Mark, Tally, look_tally, no_tally, plus, seen_after, tally_from}
use Rattle.racing_thread.proofs.Marking.{mark}

-- how many events are seen once all are over
abbrev pub seen_behind : ℕ → List Mark → ℕ
seen_behind seen [] = seen
seen_behind seen (m ∷ more) = seen_behind (seen_after m) more

pub behind_more : (marks : List Mark) (seen : ℕ) (m : Mark) → seen_behind seen (marks ++ m ∷ []) ≡ seen_after m
behind_more [] seen m = refl
behind_more (first ∷ marks) seen m = behind_more marks (seen_after first) m

pub after_is : (registry : Bool) (events : List Event) (own : Option Event)
    → seen_after (mark registry (length events) own) ≡ length (with_event events own)
after_is registry events None = refl
after_is registry events (Some e) = sym (length-append events (e ∷ []))

same_tally : (x y : Tally) → x.loads ≡ y.loads → x.turns ≡ y.turns → x ≡ y
same_tally x y loads turns = λ i. record { loads = loads i; turns = turns i }

plus_none : (x : Tally) → plus x no_tally ≡ plus no_tally x
plus_none x = same_tally (plus x no_tally) (plus no_tally x) (omega arith) (omega arith)

plus_assoc : (x y z : Tally) → plus x (plus y z) ≡ plus (plus x y) z
plus_assoc x y z = same_tally (plus x (plus y z)) (plus (plus x y) z) (omega arith) (omega arith)

pub tally_more : (marks : List Mark) (seen : ℕ) (m : Mark)
    → tally_from seen (marks ++ m ∷ [])
    ≡ plus (tally_from seen marks) (look_tally m.registry (seen_behind seen marks) m.number)
tally_more [] seen m = plus_none (look_tally m.registry seen m.number)
tally_more (first ∷ marks) seen m =
    ap (plus (look_tally first.registry seen first.number)) (tally_more marks (seen_after first) m)
    ∙ plus_assoc (look_tally first.registry seen first.number) (tally_from (seen_after first) marks)
    (look_tally m.registry (seen_behind (seen_after first) marks) m.number)
