-- Small threads whose turns are computed, to see that the definitions say what they should.
use Rattle.std.proofs.Common.{◌≡◌, ℕ, zero, suc, [], ◌∷◌, length, Option, None, Bool, true, false, refl}
use Rattle.guest_operands.specs.declared.stop.Stop.{Stop}
use Rattle.guest_operands.specs.declared.stop.Stop.TheVariants.{Returned, Steps}
use Rattle.guest_machine.specs.Run.{Next, Ends, Looks, Stepping}
use Rattle.thread_blocks.specs.Turns.{Stopped, Begun, Calls, Turns, ready, turns}

-- a line: `true` returns at once the number of events that it saw; `false` looks once more and returns the number of
-- events then
abbrev counted : ℕ → Option Stop
counted zero = None
counted (suc n) = None

abbrev next : ℕ → Next ℕ
next zero = Looks 1
next (suc n) = Ends (Returned n)

abbrev counter : Stepping ℕ
counter = record { over = counted; step = next; spent = λ n. Steps n }

abbrev begun : Bool → ℕ → Begun ℕ
begun true n = Calls (suc n)
begun false n = Calls 0

abbrev lines : Turns ℕ Bool ℕ
lines = record {
  steps = counter;
  fuel = 2;
  begin = λ line seen s. begun line (length seen);
  resume = λ seen s. Calls (suc (length seen));
}

-- a thread that looks at no event and then at two
looks_twice : (turns lines (ready 0 (false ∷ [])) ([] ∷ (0 ∷ 1 ∷ []) ∷ [])).said
    ≡ record { points = 0 ∷ 2 ∷ []; ending = Stopped (Returned 2) } ∷ []
looks_twice = refl

-- one with two lines of one look each, and a turn more, which changes nothing
looks_once : (turns lines (ready 0 (true ∷ true ∷ [])) ([] ∷ (0 ∷ []) ∷ (0 ∷ []) ∷ [])).said
    ≡ record { points = 0 ∷ []; ending = Stopped (Returned 0) }
    ∷ record { points = 1 ∷ []; ending = Stopped (Returned 1) } ∷ []
looks_once = refl
