-- A history that threads of a program continue has events of such threads alone.
use Rattle.std.proofs.Common.{◌≡◌, ℕ, List, [], ◌∷◌, Option, Some, None, refl, sym, subst}
use Rattle.std.specs.Prelude.{All}
use Rattle.std.proofs.lemmas.List.Elements.{All-append, All-cons, All-nil, All-push}
use Rattle.job_text.specs.Threads.{IsThread}
use Rattle.module_table.specs.declared.events.Event.{Event}
use Rattle.shared_modules.specs.Views.{ByOthers, Knows}
use Rattle.thread_blocks.specs.Turns.{with_event}
use Rattle.racing_thread.specs.Racing.{IsOfProgram}

others_named : (threads : List ℕ) (es : List Event) → ByOthers threads es → All IsOfProgram es
others_named threads [] others = All-nil IsOfProgram
others_named threads (e ∷ es) others =
    All-cons IsOfProgram e es (others.0.1, others.0.2) (others_named threads es others.1)

history_named : (history seen : List Event) (threads : List ℕ) → Knows history threads seen → All IsOfProgram seen
    → All IsOfProgram history
history_named history seen threads knows named =
    subst (All IsOfProgram) (sym knows.whole)
    (All-append IsOfProgram seen knows.rest named (others_named threads knows.rest knows.others))

-- and the thread's own event
pub more_named : (history seen : List Event) (threads : List ℕ) (thread : ℕ) (own : Option Event)
    → Knows history threads seen → IsThread 64 thread → ((e : Event) → own ≡ Some e → e.thread ≡ thread)
    → All IsOfProgram seen → All IsOfProgram (with_event history own)
more_named history seen threads thread None knows is own_named named = history_named history seen threads knows named
more_named history seen threads thread (Some e) knows is own_named named =
    All-push IsOfProgram history e (history_named history seen threads knows named)
    (subst (IsThread 64) (sym (own_named e refl)) is)
