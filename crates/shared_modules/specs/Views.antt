-- What a seat of the table knows, how each step changes it, and how one list of events relates to another.
use Rattle.std.specs.Prelude.{◌≡◌, ◌≤◌, ◌==◌, ◌+◌, ◌/◌, ℕ, zero, suc, Bool, true, false, if◌then◌else◌, nat_lt}
use Rattle.std.specs.Prelude.{List, [], ◌∷◌, ◌++◌, length, take, drop}
use Rattle.module_table.specs.declared.events.Event.{Event}
use Rattle.module_table.specs.History.{History}
use Rattle.shared_modules.specs.declared.board.Images.{Images}
use Rattle.shared_modules.specs.declared.board.Turn.{Turn}
use Rattle.shared_modules.specs.declared.board.Turn.TheVariants.{Away, Waits, Holds}
use Rattle.shared_modules.specs.declared.board.Lesson.{Lesson}
use Rattle.shared_modules.specs.declared.board.View.{View}

-- ---- threads

abbrev pub flag : Bool → ℕ
flag true = 1
flag false = 0

-- how often a thread is in a list
abbrev pub times : ℕ → List ℕ → ℕ
times x [] = 0
times x (t ∷ ts) = flag (t == x) + times x ts

-- `count` threads, from number `first` on
abbrev pub rising : ℕ → ℕ → List ℕ
rising first zero = []
rising first (suc more) = first ∷ rising (first + 1) more

-- the threads of a program
unfoldable pub all_threads : List ℕ
all_threads = rising 1 64

-- the first half of a list, rounded up, and the rest
abbrev pub half_of : List ℕ → ℕ
half_of threads = (length threads + 1) / 2

abbrev pub first_half : List ℕ → List ℕ
first_half threads = take (half_of threads) threads

abbrev pub second_half : List ℕ → List ℕ
second_half threads = drop (half_of threads) threads

-- ---- lists of events

-- events of threads of the program, none of them in this list of threads
abbrev pub ByOthers : List ℕ → List Event → Type 0
ByOthers threads [] = Unit {0}
ByOthers threads (e ∷ es) = ((times e.thread threads ≡ 0) × (1 ≤ e.thread) × (e.thread ≤ 64)) × ByOthers threads es

-- after what was seen, the history continues with events of other threads than these
pub record Knows (history : List Event) (threads : List ℕ) (seen : List Event) : Type 0 where
  pub rest : List Event
  pub whole : history ≡ seen ++ rest
  pub others : ByOthers threads rest

pub record StartsWith (history front : List Event) : Type 0 where
  pub rest : List Event
  pub whole : history ≡ front ++ rest

-- the longer of two lists; the first if they have the same length
abbrev pub longer : List Event → List Event → List Event
longer xs ys = if nat_lt (length xs) (length ys) then ys else xs

-- ---- registries

abbrev pub images_of : History → Images
images_of h = record { infos = h.infos; last_offset = h.last_offset }

-- the history of these images with these events
abbrev pub history_at : Images → List Event → History
history_at images events =
    record { infos = images.infos; last_offset = images.last_offset; events = events; spare = 0 }

-- ---- views

abbrev pub no_images : Images
no_images = record { infos = []; last_offset = 0 }

abbrev pub no_lesson : Lesson
no_lesson = record { less = []; more = []; threads = [] }

abbrev pub first_view : Images → List Event → View
first_view images events = record {
  images = images;
  seen = events;
  told = events;
  loads = 0;
  turns = 0;
  threads = all_threads;
  turn = Away;
  lesson = no_lesson;
}

-- a ticket was drawn
abbrev pub drew : ℕ → View → View
drew ticket v = record v { turn = Waits ticket; turns = v.turns + 1 }

-- the ticket is being served, and the registry's history is noted
abbrev pub holding : ℕ → List Event → View → View
holding ticket note v = record v { turn = Holds ticket note }

-- the length of the history was loaded
abbrev pub loaded : List Event → View → View
loaded told v = record v { told = told; loads = v.loads + 1 }

-- the same, with the registry in hand: the noted history is seen
abbrev pub caught : List Event → View → View
caught note v = record v { seen = note; told = note; loads = v.loads + 1 }

abbrev pub with_note : List Event → Turn → Turn
with_note note Away = Away
with_note note (Waits ticket) = Waits ticket
with_note note (Holds ticket old) = Holds ticket note

-- the seat itself made the history longer
abbrev pub published : List Event → View → View
published events v = record v { seen = events; told = events; turn = with_note events v.turn }

-- the next ticket is served
abbrev pub away : View → View
away v = record v { turn = Away }

-- what the first seat keeps at a split, and what the second one gets
abbrev pub left_of : View → View
left_of v = record v { threads = first_half v.threads }

abbrev pub right_of : View → View
right_of v = record v { loads = 0; turns = 0; threads = second_half v.threads; turn = Away; lesson = no_lesson }

-- what is learned from two seats' lists
abbrev pub lesson_of : View → View → Lesson
lesson_of v w = if nat_lt (length v.seen) (length w.seen)
    then record { less = v.seen; more = w.seen; threads = v.threads }
    else record { less = w.seen; more = v.seen; threads = w.threads }

-- two seats become one
abbrev pub both : View → View → View
both v w = record v {
  seen = longer v.seen w.seen;
  told = longer v.told w.told;
  loads = v.loads + w.loads;
  turns = v.turns + w.turns;
  threads = v.threads ++ w.threads;
  lesson = lesson_of v w;
}

-- the other seat is left with nothing
abbrev pub spent : View
spent = record {
  images = no_images;
  seen = [];
  told = [];
  loads = 0;
  turns = 0;
  threads = [];
  turn = Away;
  lesson = no_lesson;
}
