-- When runs of one machine are runs of another: each step of the first is one to four steps of the second.
use Rattle.std.specs.Prelude.{◌≡◌, ◌⊎◌, ℕ, zero, suc, ◌+◌, ◌*◌, ◌≤◌, Option, Some, None}
use Rattle.guest_operands.specs.declared.stop.Stop.{Stop}
use Rattle.guest_operands.specs.declared.stop.Stop.TheVariants.{Returned, Look, Address, Code, Unclean, Steps}
use Rattle.guest_machine.specs.Run.{Next, Goes, Ends, Looks, Outcome, Ended, Waits, Stepping, run}

abbrev pub IsUnclean : Stop → Type 0
IsUnclean (Returned number) = ⊥
IsUnclean (Look place) = ⊥
IsUnclean (Address place) = ⊥
IsUnclean (Code place) = ⊥
IsUnclean (Unclean place cause) = Unit {0}
IsUnclean (Steps place) = ⊥

-- this many steps, none from a state where the run is over, lead from one state to another
abbrev pub Moves : {S : Type 0} → Stepping S → ℕ → S → S → Type 0
Moves y zero s t = s ≡ t
Moves {S} y (suc k) s t = (y.over s ≡ None) × ((u : S) × ((y.step s ≡ Goes u) × Moves y k u t))

module _ {S S' : Type 0} where
  -- what the second does when the first has made a step: Rel relates states in a run, Wait states at a look, Last
  -- states at an end
  abbrev pub Advances : Stepping S' → (S → S' → Type 0) → (S → S' → Type 0) → (S → S' → Type 0) → S → Next S → S'
      → Type 0
  Advances y Rel Wait Last s (Goes t) s' = (k : ℕ) × ((b : S') × ((k ≤ 3) × Moves y (suc k) s' b × Rel t b))
  Advances y Rel Wait Last s (Ends stop) s' =
      IsUnclean stop ⊎ ((k : ℕ) × ((b : S') ×
      ((k ≤ 3) × Moves y k s' b × (y.over b ≡ None) × (y.step b ≡ Ends stop) × Last s b)))
  Advances y Rel Wait Last s (Looks t) s' =
      (k : ℕ) × ((b : S') × ((b' : S') ×
      ((k ≤ 3) × Moves y k s' b × (y.over b ≡ None) × (y.step b ≡ Looks b') × Wait t b')))

  -- when the first is over, the second is over in the same way
  abbrev pub OverAlike : (S → S' → Type 0) → S → S' → Option Stop → Option Stop → Type 0
  OverAlike Last s s' None over' = Unit {0}
  OverAlike Last s s' (Some stop) over' = IsUnclean stop ⊎ ((over' ≡ Some stop) × Last s s')

  pub record IsSimulated (x : Stepping S) (y : Stepping S') (Rel Wait Last : S → S' → Type 0) : Type 0 where
    pub over : (s : S) (s' : S') → Rel s s' → OverAlike Last s s' (x.over s) (y.over s')
    pub step : (s : S) (s' : S') → Rel s s' → x.over s ≡ None → Advances y Rel Wait Last s (x.step s) s'
    -- when its steps are spent, the first is unclean
    pub spent : (s : S) → IsUnclean (x.spent s)

  -- the results of two runs: at a look the second has four times as many steps left as the first
  abbrev pub SameOut : (S → S' → Type 0) → (S → S' → Type 0) → Outcome S → Outcome S' → Type 0
  SameOut Wait Last (Ended stop n s) (Ended stop' n' s') = IsUnclean stop ⊎ ((stop' ≡ stop) × Last s s')
  SameOut Wait Last (Ended stop n s) (Waits n' s') = IsUnclean stop
  SameOut Wait Last (Waits n s) (Ended stop' n' s') = ⊥
  SameOut Wait Last (Waits n s) (Waits n' s') = (1 ≤ n) × ((4 * n ≤ n' + 3) × Wait s s')

-- y does what g does, except that y goes on by itself where g stops for a look
module _ {S : Type 0} where
  abbrev pub GoesThrough : Next S → Next S → S → Type 0
  GoesThrough (Goes t) next s = next ≡ Goes t
  GoesThrough (Ends stop) next s = next ≡ Ends stop
  GoesThrough (Looks t) next s = t ≡ s

  pub record IsThrough (g y : Stepping S) : Type 0 where
    pub over : (s : S) → y.over s ≡ g.over s
    pub spent : (s : S) → y.spent s ≡ g.spent s
    pub step : (s : S) → g.over s ≡ None → GoesThrough (g.step s) (y.step s) s

  -- a run of y is the run of g, and from a look of g on the run of y from there
  abbrev pub Joined : Stepping S → Outcome S → Outcome S → Type 0
  Joined y (Ended stop n s) out = out ≡ Ended stop n s
  Joined y (Waits n s) out = out ≡ run y n s
