-- Which steps a line has taken when its steps are spent, and what it says then.
use Rattle.std.proofs.Common.{◌≡◌, ◌+◌, ◌-◌, ◌++◌, ◌≤◌, ℕ, zero, suc, List, [], ◌∷◌, length, map, Option, Some, None}
use Rattle.std.proofs.Common.{refl, sym, ap, subst, ◌∙◌, inl, inr, arith, append_assoc, append-nil}
use Rattle.guest_operands.specs.declared.stop.Stop.{Stop}
use Rattle.guest_machine.specs.Run.{Ended, Ends, Goes, Looks, Next, Waits, go_on, over_or, run}
use Rattle.thread_blocks.specs.Turns.{Begun, Calls, Ending, Mid, Said, Says, Stopped, Thread, Turns, after_look, turn}
use Rattle.thread_blocks.specs.Turns.{turn_at, turns, with_last}
use Rattle.line_laws.specs.Counted.{EndsSo, HasTaken, Leads, before}
use Rattle.line_laws.proofs.Counting.{AtLook, AtStep, IsOver, Still, begun_still, is_on, is_over, turn_mid}

not_empty : {X : Type 0} (x : X) (xs : List X) → [] ≡ x ∷ xs → ⊥
not_empty x xs e = cc

not_in_empty : {X : Type 0} (x : X) (front rest : List X) → [] ≡ front ++ x ∷ rest → ⊥
not_in_empty x [] rest e = cc
not_in_empty x (y ∷ front) rest e = cc

module _ {S L E : Type 0} (x : Turns S L E) where
  -- ** runs

  -- a run that waits for a look has made steps up to it
  pub record IsWaiting (n : ℕ) (s : S) (left : ℕ) (u : S) : Type 0 where
    pub taken : ℕ
    pub at : S
    pub leads : Leads x taken s [] at
    pub goes_on : x.steps.over at ≡ None
    pub looks : x.steps.step at ≡ Looks u
    pub some : 1 ≤ left
    pub whole : taken + left ≡ n

  goes_first : (taken : ℕ) (s u : S) (more : List (List E)) (t : S) → x.steps.over s ≡ None → x.steps.step s ≡ Goes u
      → Leads x taken u more t → Leads x (suc taken) s more t
  goes_first taken s u more t on goes rest = (on, (u, (more, (inl (goes, refl), rest))))

  waiting_more : (n : ℕ) (s : S) (left : ℕ) (u : S)
      (rest : (t : S) → run x.steps n t ≡ Waits left u → IsWaiting n t left u)
      (next : Next S) → x.steps.over s ≡ None → x.steps.step s ≡ next
      → go_on (suc n) s (run x.steps n) next ≡ Waits left u → IsWaiting (suc n) s left u
  waiting_more n s left u rest (Goes t) on step e = let w = rest t e in record {
    taken = suc w.taken;
    at = w.at;
    leads = goes_first w.taken s t [] w.at on step w.leads;
    goes_on = w.goes_on;
    looks = w.looks;
    some = w.some;
    whole = omega (arith, w.whole);
  }
  waiting_more n s left u rest (Ends stop) on step e = cc
  waiting_more n s left u rest (Looks t) on step e =
      let many : suc n ≡ left = cc in
      let there : t ≡ u = cc in
      record {
        taken = 0;
        at = s;
        leads = (refl, refl);
        goes_on = on;
        looks = step ∙ ap (λ (t : S). Looks t) there;
        some = omega arith;
        whole = omega arith;
      }

  waiting_or : (n : ℕ) (s : S) (left : ℕ) (u : S)
      (rest : (t : S) → run x.steps n t ≡ Waits left u → IsWaiting n t left u)
      (over : Option Stop) → x.steps.over s ≡ over
      → over_or (suc n) s over (go_on (suc n) s (run x.steps n) (x.steps.step s)) ≡ Waits left u
      → IsWaiting (suc n) s left u
  waiting_or n s left u rest None on e = waiting_more n s left u rest (x.steps.step s) on refl e
  waiting_or n s left u rest (Some stop) on e = cc

  not_waiting : (s : S) (left : ℕ) (u : S) (over : Option Stop)
      → over_or zero s over (Ended (x.steps.spent s) zero s) ≡ Waits left u → ⊥
  not_waiting s left u None e = cc
  not_waiting s left u (Some stop) e = cc

  pub waiting : (n : ℕ) (s : S) (left : ℕ) (u : S) → run x.steps n s ≡ Waits left u → IsWaiting n s left u
  waiting zero s left u e = absurd (not_waiting s left u (x.steps.over s) e)
  waiting (suc n) s left u e = waiting_or n s left u (λ t. waiting n t left u) (x.steps.over s) refl e

  -- from a look on
  pub through : (taken m : ℕ) (s at v : S) (next : List E) (w : S) (more : List (List E)) (t : S)
      → Leads x taken s [] at
      → x.steps.over at ≡ None → x.steps.step at ≡ Looks v → x.resume next v ≡ Calls w → Leads x m w more t
      → Leads x (taken + suc m) s (next ∷ more) t
  through zero m s at v next w more t leads on looks calls rest =
      let here : suc m ≡ 0 + suc m = omega arith in
      subst (λ (n : ℕ). Leads x n s (next ∷ more) t) here
      (subst (λ (s : S). Leads x (suc m) s (next ∷ more) t) (sym leads.0)
      (on, (w, (more, (inr (v, (next, (looks, calls, refl))), rest)))))
  through (suc taken) m s at v next w more t leads on looks calls rest =
      let one : suc (taken + suc m) ≡ suc taken + suc m = omega arith in
      subst (λ (n : ℕ). Leads x n s (next ∷ more) t) one (elim leads.1.1.1.0 [
        | inl goes ↦ goes_first (taken + suc m) s leads.1.0 (next ∷ more) t leads.0 goes.0
            (through taken m leads.1.0 at v next w more t
            (subst (λ (looks : List (List E)). Leads x taken leads.1.0 looks at)
            (sym goes.1) leads.1.1.1.1) on looks calls rest)
        | inr asks ↦ absurd (not_empty asks.1.0 leads.1.1.0 asks.1.1.2)
      ])

  -- ** a stop that no step, no look and no return is

  module _ (P : Stop → Type 0) where
    pub record IsSpentAlone : Type 0 where
      pub over : (s : S) (stop : Stop) → x.steps.over s ≡ Some stop → P stop → ⊥
      pub step : (s : S) (stop : Stop) → x.steps.step s ≡ Ends stop → P stop → ⊥
      pub begin : (line : L) (seen : List E) (held s : S) (stop : Stop) → x.begin line seen held ≡ Says (Stopped stop) s
          → P stop → ⊥
      pub resume : (seen : List E) (held s : S) (stop : Stop) → x.resume seen held ≡ Says (Stopped stop) s → P stop → ⊥

    -- a run with such a stop has made all steps
    pub record IsSpent (n : ℕ) (s : S) (looks : List (List E)) (stop : Stop) : Type 0 where
      pub at : S
      pub leads : Leads x n s looks at
      pub goes_on : x.steps.over at ≡ None
      pub spent : x.steps.spent at ≡ stop

    module _ (alone : IsSpentAlone) where
      spent_more : (n : ℕ) (s : S) (stop : Stop) (left : ℕ) (u : S) → P stop
          → (rest : (t : S) → run x.steps n t ≡ Ended stop left u → IsSpent n t [] stop)
          → (next : Next S) → x.steps.over s ≡ None → x.steps.step s ≡ next
          → go_on (suc n) s (run x.steps n) next ≡ Ended stop left u → IsSpent (suc n) s [] stop
      spent_more n s stop left u p rest (Goes t) on step e = let is = rest t e in record {
        at = is.at;
        leads = goes_first n s t [] is.at on step is.leads;
        goes_on = is.goes_on;
        spent = is.spent;
      }
      spent_more n s stop left u p rest (Ends other) on step e =
          let same : other ≡ stop = cc in absurd (alone.step s stop (step ∙ ap (λ (o : Stop). Ends o) same) p)
      spent_more n s stop left u p rest (Looks t) on step e = cc

      spent_or : (n : ℕ) (s : S) (stop : Stop) (left : ℕ) (u : S) → P stop
          → (rest : (t : S) → run x.steps n t ≡ Ended stop left u → IsSpent n t [] stop)
          → (over : Option Stop) → x.steps.over s ≡ over
          → over_or (suc n) s over (go_on (suc n) s (run x.steps n) (x.steps.step s)) ≡ Ended stop left u
          → IsSpent (suc n) s [] stop
      spent_or n s stop left u p rest None on e = spent_more n s stop left u p rest (x.steps.step s) on refl e
      spent_or n s stop left u p rest (Some other) on e =
          let same : other ≡ stop = cc in absurd (alone.over s stop (on ∙ ap (λ (o : Stop). Some o) same) p)

      spent_now : (s : S) (stop : Stop) (left : ℕ) (u : S) → P stop → (over : Option Stop) → x.steps.over s ≡ over
          → over_or zero s over (Ended (x.steps.spent s) zero s) ≡ Ended stop left u → IsSpent zero s [] stop
      spent_now s stop left u p None on e =
          let same : x.steps.spent s ≡ stop = cc in record { at = s; leads = (refl, refl); goes_on = on; spent = same }
      spent_now s stop left u p (Some other) on e =
          let same : other ≡ stop = cc in absurd (alone.over s stop (on ∙ ap (λ (o : Stop). Some o) same) p)

      pub ran_out : (n : ℕ) (s : S) (stop : Stop) (left : ℕ) (u : S) → P stop → run x.steps n s ≡ Ended stop left u
          → IsSpent n s [] stop
      ran_out zero s stop left u p e = spent_now s stop left u p (x.steps.over s) refl e
      ran_out (suc n) s stop left u p e =
          spent_or n s stop left u p (λ t. ran_out n t stop left u p) (x.steps.over s) refl e

      -- a line with such an end began a call, which made all steps
      pub record Spends (n : ℕ) (begun : Begun S) (looks : List (List E)) (stop : Stop) : Type 0 where
        pub start : S
        pub calls : begun ≡ Calls start
        pub is : IsSpent n start looks stop

      spends_now : (n : ℕ) (points : List ℕ) (begun : Begun S) (line : Said) (stop : Stop) → P stop
          → ((s : S) → begun ≡ Says (Stopped stop) s → P stop → ⊥) → line.ending ≡ Stopped stop
          → IsOver x n points begun line → Spends n begun [] stop
      spends_now n points begun line stop p never so (AtLook ending s b is) =
          let same : ending ≡ Stopped stop = ap (λ (l : Said). l.ending) (sym is) ∙ so in
          absurd (never s (b ∙ ap (λ (o : Ending). Says o s) same) p)
      spends_now n points begun line stop p never so (AtStep s other left t b r is) =
          let ends : Stopped other ≡ Stopped stop = ap (λ (l : Said). l.ending) (sym is) ∙ so in
          let same : other ≡ stop = cc in
          record { start = s; calls = b; is = ran_out n s stop left t p (r ∙ ap (λ (o : Stop). Ended o left t) same) }

      pub spends : (more : List (List E)) (n : ℕ) (todo : List L) (said : List Said) (seen : List E) (points : List ℕ)
          (begun : Begun S) (line : Said) (stop : Stop) → P stop
          → ((s : S) → begun ≡ Says (Stopped stop) s → P stop → ⊥)
          → line.ending ≡ Stopped stop → Still x (after_look x n todo said seen points begun) said more line
          → Spends n begun more stop
      spends [] n todo said seen points begun line stop p never so still =
          spends_now n points begun line stop p never so (is_over x n todo said seen points begun line still)
      spends (next ∷ more) n todo said seen points begun line stop p never so still =
          let on = is_on x n todo said seen points begun next more line still in
          let rest = spends more (on.left - 1) todo said next (with_last points (length next))
          (x.resume next on.at) line stop p
          (λ s. alone.resume next on.at s stop) so on.still in
          let w = waiting n on.start on.left on.at on.waits in
          let all : w.taken + suc (on.left - 1) ≡ n = omega (arith, w.some, w.whole) in
          record {
            start = on.start;
            calls = on.calls;
            is = record {
              at = rest.is.at;
              leads = subst (λ (k : ℕ). Leads x k on.start (next ∷ more) rest.is.at) all
                  (through w.taken (on.left - 1) on.start w.at on.at next rest.start more rest.is.at w.leads w.goes_on
                  w.looks rest.calls rest.is.leads);
              goes_on = rest.is.goes_on;
              spent = rest.is.spent;
            };
          }

      -- so it has taken all its steps
      pub has_taken : (line : L) (todo : List L) (held : S) (earlier : List Said) (seen first : List E)
          (more : List (List E)) (stop : Stop) → P stop
          → EndsSo x line todo held earlier seen (first ∷ more) (Stopped stop)
          → (t : S) × (HasTaken x x.fuel line held first more t × (x.steps.spent t ≡ stop))
      has_taken line todo held earlier seen first more stop p is =
          let all = spends more x.fuel todo earlier first (length first ∷ []) (x.begin line first held) _ stop p
          (λ s. alone.begin line first held s stop) refl (begun_still x line todo held earlier seen first more _ is) in (
            all.is.at,
            (
              record { start = all.start; begins = all.calls; leads = all.is.leads; goes_on = all.is.goes_on },
              all.is.spent,
            ),
          )

  -- ** and what a line says that has taken all its steps

  spent_run : (n : ℕ) (s t : S) → Leads x n s [] t → x.steps.over t ≡ None
      → run x.steps n s ≡ Ended (x.steps.spent t) zero t
  spent_run zero s t leads on =
      let here : x.steps.over s ≡ None = ap (λ (u : S). x.steps.over u) leads.0 ∙ on in
      rw here (ap (λ (u : S). Ended (x.steps.spent u) zero u) leads.0)
  spent_run (suc n) s t leads on = elim leads.1.1.1.0 [
    | inl goes ↦ rw (leads.0, goes.0) (spent_run n leads.1.0 t
        (subst (λ (looks : List (List E)). Leads x n leads.1.0 looks t) (sym goes.1) leads.1.1.1.1) on)
    | inr asks ↦ absurd (not_empty asks.1.0 leads.1.1.0 asks.1.1.2)
  ]

  -- a run up to the next look
  record StopsFor (n : ℕ) (s : S) (next : List E) (more : List (List E)) (t : S) : Type 0 where
    left : ℕ
    at : S
    start : S
    waits : run x.steps n s ≡ Waits (suc left) at
    calls : x.resume next at ≡ Calls start
    leads : Leads x left start more t

  stops_for : (n : ℕ) (s : S) (next : List E) (more : List (List E)) (t : S) → Leads x n s (next ∷ more) t
      → StopsFor n s next more t
  stops_for zero s next more t leads = absurd (not_empty next more (sym leads.1))
  stops_for (suc n) s next more t leads = elim leads.1.1.1.0 [
    | inl goes ↦
        let rest = stops_for n leads.1.0 next more t
        (subst (λ (looks : List (List E)). Leads x n leads.1.0 looks t) (sym goes.1) leads.1.1.1.1) in
        record {
          left = rest.left;
          at = rest.at;
          start = rest.start;
          waits = rw (leads.0, goes.0) rest.waits;
          calls = rest.calls;
          leads = rest.leads;
        }
    | inr asks ↦
        let same : next ∷ more ≡ asks.1.0 ∷ leads.1.1.0 = asks.1.1.2 in
        let seen : asks.1.0 ≡ next = cc in
        let rest : leads.1.1.0 ≡ more = cc in
        record {
          left = n;
          at = asks.0;
          start = leads.1.0;
          waits = rw (leads.0, asks.1.1.0) refl;
          calls = subst (λ (e : List E). x.resume e asks.0 ≡ Calls leads.1.0) seen asks.1.1.1;
          leads = subst (λ (looks : List (List E)). Leads x n leads.1.0 looks t) rest leads.1.1.1.1;
        }
  ]

  -- a look more in front
  still_more : (t : Thread S L E) (said : List Said) (next : List E) (more : List (List E)) (line : Said)
      → t.said ≡ said → Still x (turn x t next) said more line → Still x t said (next ∷ more) line
  still_more t said next more line here still = record { waits = waits; says = still.says }
    where
      waits : (front rest : List (List E)) (last : List E) → next ∷ more ≡ front ++ last ∷ rest
          → (turns x t front).said ≡ said
      waits [] rest last e = here
      waits (first ∷ front) rest last e =
          let same : first ≡ next = cc in
          let others : more ≡ front ++ last ∷ rest = cc in
          ap (λ (seen : List E). (turns x (turn x t seen) front).said) same ∙ still.waits front rest last others

  over_still : (n : ℕ) (todo : List L) (said : List Said) (seen : List E) (points : List ℕ) (s t : S)
      → Leads x n s [] t → x.steps.over t ≡ None
      → Still x (after_look x n todo said seen points (Calls s)) said []
      (record { points = points; ending = Stopped (x.steps.spent t) })
  over_still n todo said seen points s t leads on = rw (spent_run n s t leads on) (record {
    waits = λ front rest next e. absurd (not_in_empty next front rest e);
    says = refl;
  })

  waits_still : (n : ℕ) (todo : List L) (said : List Said) (seen : List E) (points : List ℕ) (s : S) (left : ℕ)
      (at start : S)
      (next : List E) (more : List (List E)) (line : Said) → run x.steps n s ≡ Waits (suc left) at
      → x.resume next at ≡ Calls start
      → Still x (after_look x left todo said next (with_last points (length next)) (Calls start)) said more line
      → Still x (after_look x n todo said seen points (Calls s)) said (next ∷ more) line
  waits_still n todo said seen points s left at start next more line waits calls still =
      rw waits (still_more (record
      { todo = todo; phase = Mid (suc left) points at; said = said; seen = seen }) said next more line
      refl (subst (λ (t : Thread S L E). Still x t said more line) (sym turned) still))
    where
      turned : turn_at x todo (Mid (suc left) points at) said seen next
          ≡ after_look x left todo said next (with_last points (length next)) (Calls start)
      turned = turn_mid x todo (suc left) points at said seen next
          ∙ let one : suc left - 1 ≡ left = omega arith in rw (one, calls) refl

  pub says_so : (more : List (List E)) (n : ℕ) (todo : List L) (said : List Said) (seen : List E) (points : List ℕ)
      (s t : S)
      → Leads x n s more t → x.steps.over t ≡ None
      → Still x (after_look x n todo said seen points (Calls s)) said more
      (record { points = points ++ map length more; ending = Stopped (x.steps.spent t) })
  says_so [] n todo said seen points s t leads on =
      rw (append-nil points) (over_still n todo said seen points s t leads on)
  says_so (next ∷ more) n todo said seen points s t leads on =
      let stops = stops_for n s next more t leads in
      waits_still n todo said seen points s stops.left stops.at stops.start next more _ stops.waits stops.calls
      (subst (λ (all : List ℕ). Still x
      (after_look x stops.left todo said next (with_last points (length next)) (Calls stops.start))
      said more (record { points = all; ending = Stopped (x.steps.spent t) }))
      (append_assoc points (length next ∷ []) (map length more))
      (says_so more stops.left todo said next (with_last points (length next)) stops.start t stops.leads on))

  pub ends_so : (line : L) (todo : List L) (held : S) (earlier : List Said) (seen first : List E) (more : List (List E))
      (t : S) → HasTaken x x.fuel line held first more t
      → EndsSo x line todo held earlier seen (first ∷ more) (Stopped (x.steps.spent t))
  ends_so line todo held earlier seen first more t has =
      let is = still_more (before x line todo held earlier seen) earlier first more _ refl
      (rw has.begins (says_so more x.fuel todo earlier first (length first ∷ []) has.start t has.leads has.goes_on)) in
      record { waits = is.waits; says = is.says }
