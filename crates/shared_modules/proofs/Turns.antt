-- What the code of a turn leaves between two steps.
use Rattle.std.proofs.Common.{◌≡◌, [], ◌∷◌, sym, refl, ap, ◌∙◌, subst, Some, None, arith}
use Rattle.module_table.specs.declared.events.Event.{Event}
use Rattle.module_table.specs.History.{History}
use Rattle.shared_modules.specs.declared.board.View.{View}
use Rattle.shared_modules.specs.Views.{published, with_note}
use Rattle.shared_modules.specs.Plays.{Sat, Ending, Adding}
use Rattle.shared_modules.proofs.Known.{times-length}

-- the slot in hand has the registry, and the seat may leave
pub record Leaving (h : History) (me : Sat) : Type 0 where
  pub there : me.1 ≡ (0, Some h) ∷ []
  pub ending : Ending h (me.0, (0, None) ∷ [])

pub home_ending : (h : History) (me after : Sat) → Ending h me → after ≡ (me.0, (0, Some h) ∷ []) → Leaving h after
home_ending h me after e is = record {
  there = ap (λ (m : Sat). m.1) is;
  ending = subst (λ (v : View). Ending h (v, (0, None) ∷ [])) (ap (λ (m : Sat). m.0) (sym is)) record
      { ticket = e.ticket; turn = e.turn; empty = refl; images = e.images; speaks = e.speaks };
}

-- the slot in hand has the registry, and its event may be published
pub record Ready (h : History) (event : Event) (me : Sat) : Type 0 where
  pub there : me.1 ≡ (0, Some h) ∷ []
  pub adding : Adding h event (me.0, (0, None) ∷ [])

pub home_adding : (h : History) (event : Event) (me after : Sat) → Adding h event me → after ≡ (me.0, (0, Some h) ∷ [])
    → Ready h event after
home_adding h event me after a is = record {
  there = ap (λ (m : Sat). m.1) is;
  adding = subst (λ (v : View). Adding h event (v, (0, None) ∷ [])) (ap (λ (m : Sat). m.0) (sym is)) record {
    ticket = a.ticket;
    note = a.note;
    turn = a.turn;
    empty = refl;
    events = a.events;
    images = a.images;
    legal = a.legal;
    few = a.few;
    named = a.named;
  };
}

pub published_leaving : (h : History) (event : Event) (me after : Sat) → Ready h event me
    → after ≡ (published h.events me.0, me.1) → Leaving h after
published_leaving h event me after r is = record {
  there = ap (λ (m : Sat). m.1) is ∙ r.there;
  ending = subst (λ (v : View). Ending h (v, (0, None) ∷ [])) (ap (λ (m : Sat). m.0) (sym is)) record {
    ticket = r.adding.ticket;
    turn = ap (with_note h.events) r.adding.turn;
    empty = refl;
    images = r.adding.images;
    speaks = let l = times-length event.thread me.0.threads in let n = r.adding.named in omega arith;
  };
}
