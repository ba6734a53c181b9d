-- Facts that hold of a seen list, and that events of other threads keep, hold of the history: laws for this
-- crate and those above it.
use Rattle.std.specs.Prelude.{◌≡◌, ◌≢◌, ◌==◌, ◌+◌, ◌≤◌, ℕ, false, if◌then◌else◌, List, [], ◌∷◌, ◌++◌, length, take}
use Rattle.std.proofs.Common.{sym, refl, ap, ◌∙◌, subst, append_assoc, append-nil, ne_eqb, arith}
use Rattle.std.proofs.lemmas.List.{take-append-le}
use Rattle.module_table.specs.declared.events.Event.{Event}
use Rattle.shared_modules.specs.Views.{times, ByOthers, Knows}
use Rattle.shared_modules.specs.Laws.{own_from, own_events}

-- a fact about lists of events that stays true when a thread outside this list adds one
abbrev pub IsStable : List ℕ → (List Event → Type 0) → Type 0
IsStable threads fact = (front : List Event) (e : Event) → times e.thread threads ≡ 0 → fact front
    → fact (front ++ e ∷ [])

stays_along : (threads : List ℕ) (fact : List Event → Type 0) → IsStable threads fact → (rest : List Event)
    → ByOthers threads rest → (front : List Event) → fact front → fact (front ++ rest)
stays_along threads fact stable [] others front known = subst fact (sym (append-nil front)) known
stays_along threads fact stable (e ∷ es) others front known =
    subst fact (append_assoc front (e ∷ []) es)
    (stays_along threads fact stable es others.1 (front ++ e ∷ []) (stable front e others.0.0 known))

pub stays : (threads : List ℕ) (fact : List Event → Type 0) → IsStable threads fact → (history seen : List Event)
    → Knows history threads seen → fact seen → fact history
stays threads fact stable history seen knows known =
    subst fact (sym knows.whole) (stays_along threads fact stable knows.rest knows.others seen known)

-- ---- a thread's own events

pub other_last : (thread at : ℕ) (front : List Event) (e : Event) → (e.thread == thread) ≡ false
    → own_from thread at (front ++ e ∷ []) ≡ own_from thread at front
other_last thread at [] e other = ap (λ b. if b then record { at = at; event = e } ∷ [] else []) other
other_last thread at (x ∷ xs) e other = ap
    (λ rest. if x.thread == thread then record { at = at; event = x } ∷ rest else rest)
    (other_last thread (at + 1) xs e other)

-- a thread outside the list differs from each thread in it
not_one : (threads : List ℕ) (x thread : ℕ) → times x threads ≡ 0 → 1 ≤ times thread threads → x ≢ thread
not_one threads x thread none one same = let e : times x threads ≡ times thread threads =
    ap (λ (t : ℕ). times t threads) same in omega arith

pub own_events_stay : (history seen : List Event) (threads : List ℕ) (thread : ℕ) → Knows history threads seen
    → 1 ≤ times thread threads → own_events thread history ≡ own_events thread seen
own_events_stay history seen threads thread knows one =
    stays threads (λ (events : List Event). own_events thread events ≡ own_events thread seen)
    (λ front e none same. other_last thread 0 front e
    (ne_eqb e.thread thread (not_one threads e.thread thread none one)) ∙ same)
    history seen knows refl

-- ---- places that were seen

pub points_stay : (history seen : List Event) (threads : List ℕ) (point : ℕ) → Knows history threads seen
    → point ≤ length seen → take point history ≡ take point seen
points_stay history seen threads point knows within =
    ap (take point) knows.whole ∙ take-append-le point seen knows.rest within

-- ---- later histories

others_append : (threads : List ℕ) (xs ys : List Event) → ByOthers threads xs → ByOthers threads ys
    → ByOthers threads (xs ++ ys)
others_append threads [] ys a b = b
others_append threads (x ∷ xs) ys a b = (a.0, others_append threads xs ys a.1 b)

pub knowledge_stays : (later history seen : List Event) (threads : List ℕ) → Knows history threads seen
    → Knows later threads history → Knows later threads seen
knowledge_stays later history seen threads k m = record {
  rest = k.rest ++ m.rest;
  whole = m.whole ∙ ap (λ l. l ++ m.rest) k.whole ∙ append_assoc seen k.rest m.rest;
  others = others_append threads k.rest m.rest k.others m.others;
}
