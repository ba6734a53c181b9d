-- When threads of one kind did what threads of another did; an unclean line of the first allows anything.
use Rattle.std.specs.Prelude.{◌≡◌, ◌⊎◌, ◌+◌, ◌*◌, ◌≤◌, List, [], ◌∷◌}
use Rattle.guest_machine.specs.Simulate.{IsUnclean}
use Rattle.thread_blocks.specs.Turns.{Ending, Answered, Stopped, Said, Begun, Says, Calls, Phase, Idle, Mid, Thread}

abbrev pub IsUncleanEnding : Ending → Type 0
IsUncleanEnding (Answered answer) = ⊥
IsUncleanEnding (Stopped stop) = IsUnclean stop

-- one of the lines ended unclean
abbrev pub HasUnclean : List Said → Type 0
HasUnclean [] = ⊥
HasUnclean (line ∷ said) = IsUncleanEnding line.ending ⊎ HasUnclean said

-- the results of two looks at the same events are alike
abbrev pub SameBegun : {S S' E : Type 0} (Rel Rest : List E → S → S' → Type 0) → List E → Begun S → Begun S' → Type 0
SameBegun Rel Rest seen (Says ending s) (Says ending' s') =
    IsUncleanEnding ending ⊎ ((ending' ≡ ending) × Rest seen s s')
SameBegun Rel Rest seen (Says ending s) (Calls s') = IsUncleanEnding ending
SameBegun Rel Rest seen (Calls s) (Says ending' s') = ⊥
SameBegun Rel Rest seen (Calls s) (Calls s') = Rel seen s s'

module _ {S S' E : Type 0} (Wait Rest : List E → S → S' → Type 0) where
  abbrev pub SamePhase : List E → Phase S → Phase S' → Type 0
  SamePhase seen (Idle s) (Idle s') = Rest seen s s'
  SamePhase seen (Idle s) (Mid left' points' s') = ⊥
  SamePhase seen (Mid left points s) (Idle s') = ⊥
  SamePhase seen (Mid left points s) (Mid left' points' s') =
      (1 ≤ left) × ((4 * left ≤ left' + 3) × ((points' ≡ points) × Wait seen s s'))

  -- two threads that have done the same so far
  pub record Level {L : Type 0} (t : Thread S L E) (t' : Thread S' L E) : Type 0 where
    pub todo : t'.todo ≡ t.todo
    pub said : t'.said ≡ t.said
    pub seen : t'.seen ≡ t.seen
    pub phase : SamePhase t.seen t.phase t'.phase

  abbrev pub SameThread : {L : Type 0} → Thread S L E → Thread S' L E → Type 0
  SameThread t t' = HasUnclean t.said ⊎ Level t t'

-- lists of events, each of which may be seen after the one before it
abbrev pub Rises : {E : Type 0} → (List E → List E → Type 0) → List E → List (List E) → Type 0
Rises Fine old [] = Unit {0}
Rises Fine old (new ∷ more) = Fine old new × Rises Fine new more
